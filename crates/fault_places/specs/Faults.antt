-- The fault of a list of tokens that has no tree: what it is, and at which token.
use Rattle.std.specs.Prelude.{◌≡◌, ℕ, ◌+◌, ◌<◌, ◌==◌, Bool, true, not, ◌&&◌, ◌||◌, ◌⊎◌, List, [], ◌∷◌, ◌++◌, length, nat_le, nat_lt}
use Rattle.luau_tree.specs.Tree.{Block}
use Rattle.luau_lex.specs.Tokens.{Tok}
use Rattle.luau_grammar.specs.declared.error.ParseError.{ParseError}
use Rattle.luau_grammar.specs.declared.error.ParseError.TheVariants.{Lex, NoMemory, Unexpected, UnexpectedEnd, AmbiguousCall, Nesting}
use Rattle.luau_grammar.specs.Places.{Rules}
use Rattle.luau_grammar.specs.Modules.{IsBare, up_to, on_one_line, max_level}
use Rattle.grammar_faults.specs.Fronts.{BeginFrom}

-- tokens begin before an offset
abbrev pub BeginBefore : ℕ → List Tok → Type 0
BeginBefore at [] = Unit {0}
BeginBefore at (t ∷ ts) = (t.span.start < at) × BeginBefore at ts

-- Tokens, of which the last is named apart, begin a list with a tree. Behind them stand tokens that begin behind them.
abbrev pub Begins : Rules → List Tok → Tok → Type 0
Begins rules front last =
    (rest : List Tok) × (b : Block) × BeginFrom (last.span.start + 1) rest × IsBare rules (front ++ last ∷ rest) b

-- They do, at whatever levels the tokens stand, and on whatever lines arguments begin.
abbrev pub IsFront : List Tok → Tok → Type 0
IsFront front last = (deep : ℕ) × Begins (up_to deep) front last

-- a list has a tree, at whatever levels and on whatever lines
abbrev pub HasTree : List Tok → Type 0
HasTree ts = (deep : ℕ) × (b : Block) × IsBare (up_to deep) ts b

-- the token at this offset is bound by a test, the others are free
abbrev only_at : ℕ → Tok → Bool → Bool
only_at at t holds = not (t.span.start == at) || holds

-- a parenthesis at an offset begins arguments only on the line on which the token before it ends
abbrev pub one_line_at : List ℕ → ℕ → ℕ → Rules
one_line_at text at deep = record {
  may_stand = λ t level. nat_le level deep;
  may_call = λ last t. only_at at t (on_one_line text last at);
}

-- the token at an offset stands deeper than a token may
abbrev pub too_deep_at : ℕ → ℕ → Rules
too_deep_at at deep = record {
  may_stand = λ t level. nat_le level deep && only_at at t (nat_lt max_level level);
  may_call = λ last t. true;
}

-- Behind these tokens a token would begin arguments on a later line: it goes on with them, and never on one line.
abbrev pub IsAmbiguous : List ℕ → List Tok → Tok → Type 0
IsAmbiguous text front t =
    IsFront front t × ((deep : ℕ) → Begins (one_line_at text t.span.start deep) front t → ⊥)

-- tokens begin a list with a tree, in which the token at an offset stands too deep
abbrev pub CanStandTooDeep : ℕ → List Tok → Tok → Type 0
CanStandTooDeep at front last = (deep : ℕ) × Begins (too_deep_at at deep) front last

-- Behind these tokens a token stands too deep. The token behind it tells, where the list goes on with that one. Else,
-- and at the end of the text, a name counts as an expression or a type.
abbrev pub IsTooDeep : List Tok → Tok → List Tok → Type 0
IsTooDeep front t [] = CanStandTooDeep t.span.start front t
IsTooDeep front t (u ∷ us) =
    CanStandTooDeep t.span.start (front ++ t ∷ []) u
    ⊎ ((IsFront (front ++ t ∷ []) u → ⊥) × CanStandTooDeep t.span.start front t)

-- a fault at a token that stands between others
abbrev pub IsFaultAt : List ℕ → List Tok → Tok → List Tok → ParseError → Type 0
IsFaultAt text front t behind (AmbiguousCall at) = (at ≡ t.span.start) × IsAmbiguous text front t
IsFaultAt text front t behind (Nesting at) =
    (at ≡ t.span.start) × IsFront front t × (IsAmbiguous text front t → ⊥) × IsTooDeep front t behind
IsFaultAt text front t behind (Unexpected at) = (at ≡ t.span.start) × (IsFront front t → ⊥)
IsFaultAt text front t behind (UnexpectedEnd at) = ⊥
IsFaultAt text front t behind (Lex e) = ⊥
IsFaultAt text front t behind NoMemory = ⊥

-- no fault stands at a token
abbrev pub HasNoFaultAt : List ℕ → List Tok → Tok → List Tok → Type 0
HasNoFaultAt text front t behind =
    IsFront front t × (IsAmbiguous text front t → ⊥) × (IsTooDeep front t behind → ⊥)

-- The first fault behind tokens at which none stands.
abbrev pub IsFirstFault : List ℕ → List Tok → List Tok → ParseError → Type 0
IsFirstFault text front [] e = (e ≡ UnexpectedEnd (length text)) × (HasTree front → ⊥)
IsFirstFault text front (t ∷ ts) e =
    IsFaultAt text front t ts e ⊎ (HasNoFaultAt text front t ts × IsFirstFault text (front ++ t ∷ []) ts e)

-- The fault of a text with these tokens.
abbrev pub IsFault : List ℕ → List Tok → ParseError → Type 0
IsFault text ts e = IsFirstFault text [] ts e
