-- The parsers agree with the grammar, at each depth and for each bound of the levels.
use Rattle.std.proofs.Common.{◌≡◌, ℕ, ◌+◌, ◌≤◌, true, List, Ok, arith, leb-true}
use Rattle.luau_tree.specs.Tree.{Block}
use Rattle.luau_lex.specs.Tokens.{Tok}
use Rattle.luau_grammar.specs.Places.{Place, Rules}
use Rattle.luau_grammar.specs.Phrases.{Phrases}
use Rattle.luau_grammar.specs.Modules.{IsBare, before, strict, up_to, max_level}
use Rattle.luau_grammar.specs.Reading.{Setting, Readers, strictly}
use Rattle.luau_grammar.specs.ReadModules.{module_with, max_depth}
use Rattle.luau_grammar.proofs.Agreement.{Bounded, SoundPhrases, CompletePhrases}
use Rattle.luau_grammar.proofs.PlainPhrases.{PlainPhrases}
use Rattle.luau_grammar.proofs.SoundTypes as sound_types
use Rattle.luau_grammar.proofs.CompleteTypes as complete_types
use Rattle.luau_grammar.proofs.SoundSuffixes as sound_suffixes
use Rattle.luau_grammar.proofs.CompleteSuffixes as complete_suffixes
use Rattle.luau_grammar.proofs.SoundBodies as sound_bodies
use Rattle.luau_grammar.proofs.CompleteBodies as complete_bodies
use Rattle.luau_grammar.proofs.ExpressionFamily.{expression_inside_sound, expression_inside_complete}
use Rattle.luau_grammar.proofs.SoundBlocks.{block_sound}
use Rattle.luau_grammar.proofs.CompleteBlocks.{block_complete}
use Rattle.luau_grammar.proofs.StatementParts.{SoundParts, CompleteParts}
use Rattle.luau_grammar.proofs.Depth.{SoundFamilies, CompleteFamilies}
use Rattle.luau_grammar.proofs.OneTree as trees

module _ (set : Setting) (bounded : Bounded set) where
  sound_parts : (inner : Phrases) (given : Readers) → SoundPhrases set inner given → SoundParts set inner given
  sound_parts inner given held = record {
    prefix = sound_suffixes.prefix_sound set inner given held bounded;
    several = sound_suffixes.expressions_sound set inner given held;
    bind = sound_bodies.bind_sound set inner given held;
    body = sound_bodies.body_sound set inner given held;
    attributes = sound_bodies.attributes_sound set inner given held;
    generics = sound_types.generics_sound set inner given held;
  }

  sound_families : SoundFamilies set
  sound_families = record {
    exp = expression_inside_sound set bounded;
    typ = λ inner given held. sound_types.type_inside_sound set inner given held;
    block = λ inner given held. block_sound set inner given held (sound_parts inner given held);
  }

  complete_parts : (low : ℕ) (inner : Phrases) (given : Readers) → PlainPhrases inner → CompletePhrases low set inner given
      → CompleteParts low set inner given
  complete_parts low inner given plain held = record {
    prefix = complete_suffixes.prefix_complete low set inner given held bounded plain;
    several = complete_suffixes.expressions_complete low set inner given held;
    bind = complete_bodies.bind_complete low set inner given held;
    body = complete_bodies.body_complete low set inner given held bounded plain;
    attributes = complete_bodies.attributes_complete low set inner given held;
    generics = complete_types.generics_complete low set inner given bounded held;
    shorter = λ p q e l h. complete_suffixes.prefix_shorter low set inner given held bounded plain p q e l h.0;
  }

  complete_families : CompleteFamilies set
  complete_families = record {
    exp = expression_inside_complete set bounded;
    typ = λ low inner given plain held. complete_types.type_inside_complete low set inner given bounded held;
    block = λ low inner given plain held. block_complete low set bounded inner given held (complete_parts low inner given plain held);
  }

  -- what is read is the tree
  pub read_is_bare : (deep : ℕ) (ts : List Tok) (b : Block) (q : Place) → module_with set deep (before ts) ≡ Ok (b, q) → IsBare set.rules ts b
  read_is_bare = trees.read_is_bare set sound_families

  -- the tree is read
  pub bare_is_read : (deep : ℕ) → set.limit + 2 ≤ deep → (ts : List Tok) (b : Block) → IsBare set.rules ts b
      → (q : Place) × (module_with set deep (before ts) ≡ Ok (b, q))
  bare_is_read deep e ts b h = (h.1, trees.bare_is_read set bounded complete_families deep e ts b h)

  -- at most one tree
  pub one_tree : (ts : List Tok) (b c : Block) → IsBare set.rules ts b → IsBare set.rules ts c → b ≡ c
  one_tree = trees.one_tree set bounded complete_families

strictly_bounded : (text : List ℕ) → Bounded (strictly text)
strictly_bounded text t at h = leb-true at max_level h

pub strictly_read_is_bare : (text : List ℕ) (ts : List Tok) (b : Block) (q : Place) → module_with (strictly text) max_depth (before ts) ≡ Ok (b, q)
    → IsBare (strict text) ts b
strictly_read_is_bare text = read_is_bare (strictly text) (strictly_bounded text) max_depth

pub strictly_bare_is_read : (text : List ℕ) (ts : List Tok) (b : Block) → IsBare (strict text) ts b
    → (q : Place) × (module_with (strictly text) max_depth (before ts) ≡ Ok (b, q))
strictly_bare_is_read text = bare_is_read (strictly text) (strictly_bounded text) max_depth (omega arith)

pub bounded_one_tree : (rules : Rules) (limit : ℕ) → ((t : Tok) (at : ℕ) → rules.may_stand t at ≡ true → at ≤ limit)
    → (ts : List Tok) (b c : Block) → IsBare rules ts b → IsBare rules ts c → b ≡ c
bounded_one_tree rules limit bounded = one_tree (record { rules = rules; limit = limit; len = 0 }) bounded

pub strict_one_tree : (text : List ℕ) (ts : List Tok) (b c : Block) → IsBare (strict text) ts b → IsBare (strict text) ts c → b ≡ c
strict_one_tree text = one_tree (strictly text) (strictly_bounded text)

pub lenient_one_tree : (level : ℕ) (ts : List Tok) (b c : Block) → IsBare (up_to level) ts b → IsBare (up_to level) ts c → b ≡ c
lenient_one_tree level = bounded_one_tree (up_to level) level (λ t at h. leb-true at level h)
