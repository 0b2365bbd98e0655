-- What the code reads at a place, step by step: the parsers that its functions compute. A law says that they read what
-- the grammar says, and all of it, so no reader needs to believe them.
use Rattle.std.specs.Prelude.{ℕ, zero, suc, ◌+◌, Bool, true, false, List, [], ◌∷◌, ◌++◌, length, nat_le, Option, Result, Ok, Err, if◌then◌else◌}
use Rattle.luau_tree.specs.declared.position.Span.{Span}
use Rattle.luau_tree.specs.Tree.{Block, Expr, TypeSyntax}
use Rattle.luau_lex.specs.Tokens.{Tok}
use Rattle.luau_lex.specs.Values.{string_value}
use Rattle.luau_grammar.specs.declared.error.ParseError.{ParseError}
use Rattle.luau_grammar.specs.declared.error.ParseError.TheVariants.{Unexpected, UnexpectedEnd, AmbiguousCall, Nesting}
use Rattle.luau_grammar.specs.declared.symbol.Symbol.{Symbol}
use Rattle.luau_grammar.specs.declared.symbol.Symbol.TheVariants as s
use Rattle.luau_grammar.specs.Places.{Place, Rules, sees, start_of, from_to, at_level, raised, behind}
use Rattle.luau_grammar.specs.Phrases.{Listed}
use Rattle.luau_grammar.specs.Modules.{strict, max_level}

-- What the tokens have to meet, the level above which nothing is opened, and the length of the text.
pub record Setting : Type 0 where
  pub rules : Rules
  pub limit : ℕ
  pub len : ℕ

-- the setting of the program
abbrev pub strictly : List ℕ → Setting
strictly text = record { rules = strict text; limit = max_level; len = length text }

abbrev pub Outcome : Type 0 → Type 0
Outcome A = Result (A × Place) ParseError

abbrev pub Parser : Type 0 → Type 0
Parser A = Place → Outcome A

abbrev pub and_then : {A B : Type 0} → Outcome A → (A → Parser B) → Outcome B
and_then (Ok x) f = f x.0 x.1
and_then (Err e) f = Err e

infixl 10 ◌>>=◌
abbrev pub ◌>>=◌ : {A B : Type 0} → Parser A → (A → Parser B) → Parser B
r >>= f = λ p. and_then (r p) f

infixl 10 ◌>>◌
abbrev pub ◌>>◌ : {A B : Type 0} → Parser A → Parser B → Parser B
r >> f = r >>= (λ _. f)

abbrev pub pure : {A : Type 0} → A → Parser A
pure x = λ p. Ok (x, p)

-- where the next token begins, and where the one before it ends
abbrev pub start : Parser ℕ
start = λ p. Ok (start_of p, p)

abbrev pub last : Parser ℕ
last = λ p. Ok (p.last, p)

-- from an offset to the end of the token before
abbrev pub span_from : ℕ → Parser Span
span_from from = λ p. Ok (from_to from p, p)

abbrev pub level : Parser ℕ
level = λ p. Ok (p.level, p)

abbrev pub set_level : ℕ → Parser (Unit {0})
set_level at = λ p. Ok (tt, at_level at p)

-- one level deeper, where anything may be opened
unfoldable pub deeper : ℕ → ℕ → ℕ
deeper limit at = if nat_le at limit then at + 1 else at

module _ (set : Setting) where
  abbrev refusal_at : List Tok → ParseError
  refusal_at [] = UnexpectedEnd set.len
  refusal_at (t ∷ ts) = Unexpected t.span.start

  -- nothing reads the next token
  unfoldable pub refusal : Place → ParseError
  refusal p = refusal_at p.ahead

  abbrev pub refuse : {A : Type 0} → Parser A
  refuse = λ p. Err (refusal p)

  abbrev deep_refusal_at : List Tok → ParseError
  deep_refusal_at [] = UnexpectedEnd set.len
  deep_refusal_at (t ∷ ts) = Nesting t.span.start

  -- the next token stands too deep
  unfoldable pub deep_refusal : Place → ParseError
  deep_refusal p = deep_refusal_at p.ahead

  abbrev next_at : List Tok → Parser Tok
  next_at [] p = Err (UnexpectedEnd set.len)
  next_at (t ∷ ts) p =
      if set.rules.may_stand t p.level then Ok (t, behind t ts p.level) else Err (Nesting t.span.start)

  -- the next token
  unfoldable pub next : Parser Tok
  next p = next_at p.ahead p

  -- the next token, where it is this symbol
  unfoldable pub expect : Symbol → Parser Tok
  expect x = λ p. if sees x p then next p else refuse p

  -- takes the next token where it is this symbol, and whether it is
  unfoldable pub eat : Symbol → Parser Bool
  eat x = λ p. if sees x p then (next >> pure true) p else Ok (false, p)

  unfoldable pub name : Parser (List ℕ)
  name = do
    t ← expect s.Name
    pure t.bytes

  unfoldable pub string : Symbol → Parser (List ℕ)
  string x = do
    t ← expect x
    pure (string_value t.kind t.bytes)

  abbrev open_at : List Tok → Parser (Unit {0})
  open_at [] p = Err (UnexpectedEnd set.len)
  open_at (t ∷ ts) p =
      if set.rules.may_call p.last t then (next >> pure tt) p else Err (AmbiguousCall t.span.start)

  -- the parenthesis that begins arguments
  unfoldable pub open_arguments : Parser (Unit {0})
  open_arguments = λ p. if sees s.LeftParen p then open_at p.ahead p else refuse p

  -- goes one level deeper
  unfoldable pub raise : Parser (Unit {0})
  raise = λ p. if nat_le p.level set.limit then Ok (tt, raised p) else Err (deep_refusal p)

  -- A phrase of its own, one level deeper. A token that may begin it and stands too deep is refused as such.
  unfoldable pub phrase : {A : Type 0} → (Place → Bool) → Parser A → Parser A
  phrase may_begin r = λ p.
      if nat_le p.level set.limit then and_then (r (raised p)) (λ x q. Ok (x, at_level p.level q))
      else Err (if may_begin p then deep_refusal p else refusal p)

  -- steps from a state as long as this holds; the number bounds the steps
  unfoldable pub repeats : {S : Type 0} → (S → Place → Bool) → (S → Parser S) → ℕ → S → Parser S
  repeats goes step zero x = λ p. if goes x p then refuse p else Ok (x, p)
  repeats goes step (suc turns) x = λ p.
      if goes x p then and_then (step x p) (repeats goes step turns) else Ok (x, p)

  -- such steps, of which each takes a token
  abbrev pub repeat : {S : Type 0} → (S → Place → Bool) → (S → Parser S) → S → Parser S
  repeat goes step x = λ p. repeats goes step (length p.ahead) x p

  -- one more behind a comma
  abbrev pub another : {A : Type 0} → Parser A → List A → Parser (List A)
  another item found = do
    expect s.Comma
    x ← item
    pure (found ++ x ∷ [])

  -- `x {',' x}`, behind some of them
  unfoldable pub separated_from : {A : Type 0} → Parser A → List A → Parser (List A)
  separated_from item found = repeat (λ _ p. sees s.Comma p) (another item) found

  unfoldable pub separated : {A : Type 0} → Parser A → Parser (List A)
  separated item = do
    x ← item
    separated_from item (x ∷ [])

-- the parsers of the phrases that hold one another, at the level of what stands in them
pub record Readers : Type 0 where
  pub exp : Parser Expr
  pub typ : Option Listed → Parser TypeSyntax
  pub block : Parser Block
