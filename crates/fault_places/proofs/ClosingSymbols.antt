-- The parsers of single symbols, and of lists with commas, up to a refused token.
use Rattle.std.proofs.Common.{◌≡◌, ℕ, ◌≤◌, Bool, true, false, List, ◌∷◌, refl, ◌∙◌, arith, if◌then◌else◌}
use Rattle.luau_lex.specs.Tokens.{Tok}
use Rattle.luau_lex.specs.Values.{string_value}
use Rattle.luau_grammar.specs.declared.symbol.Symbol.{Symbol}
use Rattle.luau_grammar.specs.declared.symbol.Symbol.TheVariants as s
use Rattle.luau_grammar.specs.Symbols.{same, symbol_of}
use Rattle.luau_grammar.specs.Places.{Place, first_symbol, symbol, sees, start_of}
use Rattle.luau_grammar.specs.Reading as read
use Rattle.luau_grammar.specs.Reading.{Setting, Parser, ◌>>=◌, pure, start, last, span_from}
use Rattle.fault_places.proofs.Closing.{Frame, place, roof, peak, Late}
use Rattle.fault_places.proofs.ClosingTokens.{anything, any, never, Peek, refuses, next_goes, next_opens, choose_goes, this_opens, other_opens, value_goes, value_opens, under, under_opens, settle}
use Rattle.fault_places.proofs.ClosingSteps.{Reads, rest}
use Rattle.fault_places.proofs.ClosingWords.{the_name}

pub peek_symbol : Peek symbol
unfolding symbol
peek_symbol u ts us l m = refl

pub peek_sees : (x : Symbol) → Peek (sees x)
unfolding sees symbol
peek_sees x u ts us l m = refl

pub peek_start : Peek start_of
unfolding start_of
peek_start u ts us l m = refl

pub sees_first : (x : Symbol) (ts : List Tok) (l m : ℕ) → sees x (place ts l m) ≡ same (first_symbol ts) x
unfolding sees symbol
sees_first x ts l m = refl

module _ (f : Frame) where
  roof_peak : roof f ≤ peak f
  roof_peak = omega arith

  -- any token
  late_token : (t : Tok) → t.span.start ≡ f.at → Late f anything (λ zs. t ∷ zs)
  late_token t e zs fol b = (let x : f.at ≤ t.span.start = omega arith in x, b)

  pub token : (t : Tok) → t.span.start ≡ f.at → Reads f anything any (λ zs. t ∷ zs) tt never (read.next f.low) (read.next f.high)
  token t d = record { goes = next_goes f; opens = next_opens f (roof f) roof_peak t; late = late_token t d }

  -- a token of this symbol, closed by this one
  pub symbol_of_it : (x : Symbol) (t : Tok) → same (symbol_of t) x ≡ true → t.span.start ≡ f.at → Reads f anything any (λ zs. t ∷ zs) tt never (read.expect f.low x) (read.expect f.high x)
  unfolding read.expect sees symbol
  symbol_of_it x t e d = record {
    goes = choose_goes f (sees x) (peek_sees x) (next_goes f) (refuses f anything any never);
    opens = this_opens f {close = λ zs. t ∷ zs} (sees x) (read.refuse f.high) (λ zs l m _. e) (next_opens f (roof f) roof_peak t);
    late = late_token t d;
  }

  -- a value
  pub given : {A : Type 0} (F : Symbol → Type 0) (x y : A) → Reads f F any (λ zs. zs) tt (λ z. z ≡ tt) (pure x) (pure y)
  given F x y = record {
    goes = value_goes f F any (λ p. x) (λ p. y) (λ u ts us l m. refl) (λ p q. refl) tt (λ p. refl);
    opens = value_opens f (roof f) F any (λ p. y) tt (λ p. refl);
    late = λ _ _ b. b;
  }

  pub at_start : (F : Symbol → Type 0) → Reads f F any (λ zs. zs) tt (λ z. z ≡ tt) start start
  at_start F = record {
    goes = value_goes f F any start_of start_of peek_start (λ p q. refl) tt (λ p. refl);
    opens = value_opens f (roof f) F any start_of tt (λ p. refl);
    late = λ _ _ b. b;
  }

  pub at_last : (F : Symbol → Type 0) → Reads f F any (λ zs. zs) tt (λ z. z ≡ tt) last last
  at_last F = record {
    goes = value_goes f F any (λ p. p.last) (λ p. p.last) (λ u ts us l m. refl) (λ p q. refl) tt (λ p. refl);
    opens = value_opens f (roof f) F any (λ p. p.last) tt (λ p. refl);
    late = λ _ _ b. b;
  }

  pub spanned : (F : Symbol → Type 0) (a b : ℕ) → Reads f F any (λ zs. zs) tt (λ z. z ≡ tt) (span_from a) (span_from b)
  spanned F a b = record {
    goes = value_goes f F any (λ p. record { start = a; end = p.last }) (λ p. record { start = b; end = p.last }) (λ u ts us l m. refl) (λ p q. refl) tt (λ p. refl);
    opens = value_opens f (roof f) F any (λ p. record { start = b; end = p.last }) tt (λ p. refl);
    late = λ _ _ b. b;
  }

  pub a_name : Reads f anything any (λ zs. the_name f.at ∷ zs) tt never (read.name f.low) (read.name f.high)
  unfolding read.name same symbol_of
  a_name = rest f (symbol_of_it s.Name (the_name f.at) refl refl) (λ t u. given anything t.bytes u.bytes) (λ x h. h)

  pub a_string : (x : Symbol) (t : Tok) → same (symbol_of t) x ≡ true → t.span.start ≡ f.at → Reads f anything any (λ zs. t ∷ zs) tt never (read.string f.low x) (read.string f.high x)
  unfolding read.string
  a_string x t e d = rest f (symbol_of_it x t e d) (λ t u. given anything (string_value t.kind t.bytes) (string_value u.kind u.bytes)) (λ x h. h)

  -- one of two that may take no token, where closing tokens go the second way
  pub if_seen : {A C : Type 0} {F : Symbol → Type 0} {sh : A → C} {first : List Tok → List Tok} {c : C} {kind : C} {r s t v : Parser A} (test : Place → Bool) → Peek test
      → ((zs : List Tok) (l m : ℕ) → F (first_symbol zs) → test (place zs l m) ≡ false)
      → Reads f F sh first c never r s → Reads f F sh (λ zs. zs) kind (λ z. z ≡ kind) t v
      → Reads f F sh (λ zs. zs) kind (λ z. z ≡ kind) (λ p. if test p then r p else t p) (λ p. if test p then s p else v p)
  if_seen {F = F} {sh = sh} {kind = kind} {s = s} test peek unseen h k = record {
    goes = choose_goes f test peek (settle f (λ d b. absurd b) h.goes) k.goes;
    opens = other_opens f {close = λ zs. zs} test s unseen k.opens;
    late = k.late;
  }

  -- one of two that take a token, where closing tokens go the second way
  pub either : {A C : Type 0} {F : Symbol → Type 0} {sh : A → C} {first close : List Tok → List Tok} {c kind : C} {r s t v : Parser A} (test : Place → Bool) → Peek test
      → ((zs : List Tok) (l m : ℕ) → F (first_symbol zs) → test (place (close zs) l m) ≡ false)
      → Reads f F sh first c never r s → Reads f F sh close kind never t v
      → Reads f F sh close kind never (λ p. if test p then r p else t p) (λ p. if test p then s p else v p)
  either {close = close} {s = s} test peek unseen h k = record {
    goes = choose_goes f test peek h.goes k.goes;
    opens = other_opens f {close = close} test s unseen k.opens;
    late = k.late;
  }

  pub fitted : {A C : Type 0} {F G : Symbol → Type 0} {sh : A → C} {close : List Tok → List Tok} {kind : C} {stay : C → Type 0} {r s : Parser A} → ((x : Symbol) → G x → F x)
      → Reads f F sh close kind stay r s → Reads f G sh close kind stay r s
  fitted h k = record { goes = under f h k.goes; opens = under_opens f h k.opens; late = λ zs fol. k.late zs (h (first_symbol zs) fol) }

  pub eaten : (x : Symbol) (t : Tok) → same (symbol_of t) x ≡ true → t.span.start ≡ f.at → Reads f (λ y. same y x ≡ false) any (λ zs. zs) tt (λ z. z ≡ tt) (read.eat f.low x) (read.eat f.high x)
  unfolding read.eat
  eaten x t e d =
      if_seen (sees x) (peek_sees x) (λ zs l m h. sees_first x zs l m ∙ h)
      (fitted (λ y h. tt) (rest f (token t d) (λ _ _. given anything true true) (λ y h. h)))
      (given (λ y. same y x ≡ false) false false)
