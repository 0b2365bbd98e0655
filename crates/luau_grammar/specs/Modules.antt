-- Modules: which lists of tokens have a tree, and which.
use Rattle.std.specs.Prelude.{◌≡◌, ℕ, zero, suc, Bool, true, not, List, [], nat_le, drop, take, ◌-◌, ◌==◌}
use Rattle.std.specs.List.{list_any}
use Rattle.luau_tree.specs.Tree.{Block}
use Rattle.luau_lex.specs.Tokens.{Tok}
use Rattle.luau_grammar.specs.Places.{Place, Rules, at_level, raised}
use Rattle.luau_grammar.specs.Phrases.{Phrases}
use Rattle.luau_grammar.specs.Types.{IsType}
use Rattle.luau_grammar.specs.Expressions.{IsExpression}
use Rattle.luau_grammar.specs.Statements.{IsBlock}

-- there are no phrases
abbrev none : Phrases
none = record { exp = λ p q e. ⊥; typ = λ begun p q t. ⊥; block = λ p q b. ⊥ }

-- The phrases that hold these phrases. Each stands one level deeper than what stands around it.
abbrev pub holding : Rules → Phrases → Phrases
holding rules inner = record {
  exp = λ p q e. (a : Place) × IsExpression rules inner (raised p) a e × (q ≡ at_level p.level a);
  typ = λ begun p q t. (a : Place) × IsType rules inner begun (raised p) a t × (q ≡ at_level p.level a);
  block = λ p q b. (a : Place) × IsBlock rules inner (raised p) a b × (q ≡ at_level p.level a);
}

-- the phrases that hold one another fewer than so many deep
abbrev pub phrases : Rules → ℕ → Phrases
phrases rules zero = none
phrases rules (suc deep) = holding rules (phrases rules deep)

-- the place before all tokens
abbrev pub before : List Tok → Place
before ts = record { ahead = ts; last = 0; level = 0 }

-- A list of tokens that meet these rules is a block, whose expressions and bodies have no numbers yet, and nothing else.
abbrev pub IsBare : Rules → List Tok → Block → Type 0
IsBare rules ts b =
    (deep : ℕ) × (q : Place) × (phrases rules deep).block (before ts) q b × (q.ahead ≡ [])

-- Tokens may stand at each level up to this one, and arguments may begin anywhere.
abbrev pub up_to : ℕ → Rules
up_to level = record { may_stand = λ t at. nat_le at level; may_call = λ last t. true }

-- no line feed stands in a text between two offsets
abbrev pub on_one_line : List ℕ → ℕ → ℕ → Bool
on_one_line text from to = not (list_any (λ b. b == 10) (take (to - from) (drop from text)))

-- the deepest level at which a token may stand
abbrev pub max_level : ℕ
max_level = 200

-- Tokens stand at level 200 at most, and arguments begin on the line on which the token before them ends.
abbrev pub strict : List ℕ → Rules
strict text = record {
  may_stand = λ t at. nat_le at max_level;
  may_call = λ last t. on_one_line text last t.span.start;
}
