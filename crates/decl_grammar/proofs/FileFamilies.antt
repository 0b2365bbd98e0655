-- The parser of declaration files agrees with the grammar, by the rules of the program and by each bound of the levels.
use Rattle.std.proofs.Common.{◌≡◌, ℕ, suc, ◌+◌, ◌≤◌, List, Ok, Err, sym, ◌∙◌, ap, arith, leb-true}
use Rattle.luau_lex.specs.Tokens.{Tok}
use Rattle.luau_grammar.specs.declared.symbol.Symbol.TheVariants as s
use Rattle.luau_grammar.specs.Places.{Place, Rules}
use Rattle.luau_grammar.specs.Phrases.{Phrases}
use Rattle.luau_grammar.specs.Modules.{phrases, before, strict, max_level}
use Rattle.luau_grammar.specs.Reading.{Setting, Readers, Outcome, strictly}
use Rattle.luau_grammar.specs.ReadModules.{readers, max_depth}
use Rattle.luau_grammar.proofs.Agreement.{Bounded, SoundPhrases, CompletePhrases}
use Rattle.luau_grammar.proofs.PlainPhrases.{PlainPhrases}
use Rattle.luau_grammar.proofs.SoundTypes as sound_types
use Rattle.luau_grammar.proofs.CompleteTypes as complete_types
use Rattle.luau_grammar.proofs.SoundSuffixes as sound_suffixes
use Rattle.luau_grammar.proofs.CompleteSuffixes as complete_suffixes
use Rattle.luau_grammar.proofs.SoundBodies as sound_bodies
use Rattle.luau_grammar.proofs.CompleteBodies as complete_bodies
use Rattle.luau_grammar.proofs.ExpressionFamily.{expression_inside_sound, expression_inside_complete}
use Rattle.luau_grammar.proofs.SoundBlocks.{block_sound}
use Rattle.luau_grammar.proofs.CompleteBlocks.{block_complete}
use Rattle.luau_grammar.proofs.StatementParts.{SoundParts, CompleteParts}
use Rattle.luau_grammar.proofs.Depth.{SoundFamilies, CompleteFamilies, sound_at, complete_at}
use Rattle.decl_grammar.specs.Declarations.{Declaration}
use Rattle.decl_grammar.specs.Files.{IsFile}
use Rattle.decl_grammar.specs.Laws.{IsRead, IsOneFileAtMost}
use Rattle.luau_grammar.specs.Laws.{StandUpTo}
use Rattle.decl_grammar.specs.ReadFiles.{file_with}
use Rattle.decl_grammar.proofs.Begins.{phrase_begins}
use Rattle.decl_grammar.proofs.NamedEnds.{phrase_ends, colon_ends, dots_end}
use Rattle.decl_grammar.proofs.SoundFiles.{declarations_sound}
use Rattle.decl_grammar.proofs.CompleteFiles.{PlainTypes, declarations_complete}

module _ (set : Setting) (bounded : Bounded set) where
  sound_parts : (inner : Phrases) (given : Readers) → SoundPhrases set inner given → SoundParts set inner given
  sound_parts inner given held = record {
    prefix = sound_suffixes.prefix_sound set inner given held bounded;
    several = sound_suffixes.expressions_sound set inner given held;
    bind = sound_bodies.bind_sound set inner given held;
    body = sound_bodies.body_sound set inner given held;
    attributes = sound_bodies.attributes_sound set inner given held;
    generics = sound_types.generics_sound set inner given held;
  }

  sound_families : SoundFamilies set
  sound_families = record {
    exp = expression_inside_sound set bounded;
    typ = λ inner given held. sound_types.type_inside_sound set inner given held;
    block = λ inner given held. block_sound set inner given held (sound_parts inner given held);
  }

  complete_parts : (low : ℕ) (inner : Phrases) (given : Readers) → PlainPhrases inner → CompletePhrases low set inner given
      → CompleteParts low set inner given
  complete_parts low inner given plain held = record {
    prefix = complete_suffixes.prefix_complete low set inner given held bounded plain;
    several = complete_suffixes.expressions_complete low set inner given held;
    bind = complete_bodies.bind_complete low set inner given held;
    body = complete_bodies.body_complete low set inner given held bounded plain;
    attributes = complete_bodies.attributes_complete low set inner given held;
    generics = complete_types.generics_complete low set inner given bounded held;
    shorter = λ p q e l h. complete_suffixes.prefix_shorter low set inner given held bounded plain p q e l h.0;
  }

  complete_families : CompleteFamilies set
  complete_families = record {
    exp = expression_inside_complete set bounded;
    typ = λ low inner given plain held. complete_types.type_inside_complete low set inner given bounded held;
    block = λ low inner given plain held. block_complete low set bounded inner given held (complete_parts low inner given plain held);
  }

  plain_types : (deep : ℕ) → PlainTypes (phrases set.rules deep)
  plain_types deep = record {
    begins = phrase_begins set.rules deep;
    colon = phrase_ends set.rules s.Colon colon_ends deep;
    dots = phrase_ends set.rules s.Dots dots_end deep;
  }

  -- what is read are the declarations
  pub read_is_file : (deep : ℕ) (ts : List Tok) (ds : List Declaration) (q : Place) → file_with set deep (before ts) ≡ Ok (ds, q) → IsFile set.rules ts ds
  unfolding file_with IsFile
  read_is_file deep ts ds q e =
      (suc deep, q, declarations_sound set (phrases set.rules (suc deep)) (readers set deep) (sound_at set sound_families deep) (before ts) q ds e)

  -- the declarations are read
  pub file_is_read : (deep : ℕ) → set.limit + 2 ≤ deep → (ts : List Tok) (ds : List Declaration) → IsFile set.rules ts ds → (q : Place) × (file_with set deep (before ts) ≡ Ok (ds, q))
  unfolding file_with IsFile
  file_is_read deep e ts ds h = (
    h.1,
    (declarations_complete 0 set (phrases set.rules h.0) (readers set deep) bounded (complete_at set bounded complete_families deep h.0 0 (omega arith)) (plain_types h.0)
        (before ts) h.1 ds (omega arith) h.2).0,
  )

abbrev read_or : {A : Type 0} → A × Place → Outcome A → A × Place
read_or d (Ok x) = x
read_or d (Err e) = d

one_read : {A : Type 0} (x y : A × Place) (o : Outcome A) → o ≡ Ok x → o ≡ Ok y → x ≡ y
one_read x y o d e = ap (read_or x) (sym d ∙ e)

module _ (set : Setting) (bounded : Bounded set) where
  -- at most one list of declarations
  pub one_file : (ts : List Tok) (ds es : List Declaration) → IsFile set.rules ts ds → IsFile set.rules ts es → ds ≡ es
  one_file ts ds es h k =
      let e = file_is_read set bounded (set.limit + 2) (omega arith) ts ds h in
      let f = file_is_read set bounded (set.limit + 2) (omega arith) ts es k in
      ap (λ z. z.0) (one_read (ds, e.0) (es, f.0) (file_with set (set.limit + 2) (before ts)) e.1 f.1)

strictly_bounded : (text : List ℕ) → Bounded (strictly text)
strictly_bounded text t at h = leb-true at max_level h

pub strictly_read_is_file : (text : List ℕ) (ts : List Tok) (ds : List Declaration) → IsRead text ts ds → IsFile (strict text) ts ds
strictly_read_is_file text ts ds h = read_is_file (strictly text) (strictly_bounded text) max_depth ts ds h.0 h.1

pub strictly_file_is_read : (text : List ℕ) (ts : List Tok) (ds : List Declaration) → IsFile (strict text) ts ds → IsRead text ts ds
strictly_file_is_read text ts ds h = file_is_read (strictly text) (strictly_bounded text) max_depth (omega arith) ts ds h

pub bounded_one_file : (rules : Rules) (limit : ℕ) → StandUpTo rules limit → (ts : List Tok) → IsOneFileAtMost rules ts
bounded_one_file rules limit bounded = one_file (record { rules = rules; limit = limit; len = 0 }) bounded
