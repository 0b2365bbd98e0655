-- What a parser does with the tokens of a prefix is the same whatever stands behind it.
use Rattle.std.proofs.Common.{◌≡◌, ℕ, ◌+◌, ◌≤◌, Bool, true, false, List, [], ◌∷◌, ◌++◌, length, refl, sym, ap, subst, ◌⊎◌, inl, inr, arith, ap₂, true≢false, ◌&&◌, ◌||◌, bytes_eq, leb-true, if◌then◌else◌}
use Rattle.std.specs.Prelude.{Ok, Err, nat_le}
use Rattle.luau_lex.specs.Tokens.{Tok}
use Rattle.luau_grammar.specs.declared.error.ParseError.{ParseError}
use Rattle.luau_grammar.specs.declared.error.ParseError.TheVariants.{Lex, NoMemory, Unexpected, UnexpectedEnd, AmbiguousCall, Nesting}
use Rattle.luau_grammar.specs.declared.symbol.Symbol.{Symbol}
use Rattle.luau_grammar.specs.Symbols.{same}
use Rattle.luau_grammar.specs.Places.{Place, first_symbol, first_bytes, symbol, symbol_behind, sees, sees_behind, sees_word, start_of}
use Rattle.luau_grammar.specs.Reading.{Parser, ◌>>=◌, Outcome, and_then, start, last, level, set_level, span_from}
use Rattle.luau_grammar.specs.Statements.{second_bytes}
use Rattle.grammar_faults.specs.Fronts.{BeginFrom}

-- a fault at an offset or behind it
abbrev pub IsLate : ℕ → ParseError → Type 0
IsLate bound (Unexpected at) = bound ≤ at
IsLate bound (UnexpectedEnd at) = Unit {0}
IsLate bound (AmbiguousCall at) = bound ≤ at
IsLate bound (Nesting at) = bound ≤ at
IsLate bound (Lex e) = Unit {0}
IsLate bound NoMemory = Unit {0}

-- Two ways to go on behind a prefix, whose last token is the same, and where they begin.
pub record Tails : Type 0 where
  pub bound : ℕ
  pub token : Tok
  pub one : List Tok
  pub other : List Tok
  pub one_late : BeginFrom bound (token ∷ one)
  pub other_late : BeginFrom bound (token ∷ other)

-- all that is ahead is late
abbrev pub Far : {A : Type 0} → ℕ → Outcome A → Type 0
Far bound (Ok x) = BeginFrom bound x.1.ahead
Far bound (Err e) = IsLate bound e

-- two places in the prefix, before its last token
pub record SamePlace (w : Tails) (p q : Place) : Type 0 where
  pub token : Tok
  pub between : List Tok
  pub one : p.ahead ≡ token ∷ (between ++ w.token ∷ w.one)
  pub other : q.ahead ≡ token ∷ (between ++ w.token ∷ w.other)
  pub last : p.last ≡ q.last
  pub level : p.level ≡ q.level

abbrev pub Same : {A : Type 0} → Tails → Outcome A → Outcome A → Type 0
Same w (Ok x) (Ok y) = (x.0 ≡ y.0) × SamePlace w x.1 y.1
Same w (Ok x) (Err f) = ⊥
Same w (Err e) (Ok y) = ⊥
Same w (Err e) (Err f) = e ≡ f

-- two outcomes are the same, or both are late
abbrev pub Near : {A : Type 0} → Tails → Outcome A → Outcome A → Type 0
Near w o r = Same w o r ⊎ (Far w.bound o × Far w.bound r)

-- so many tokens are taken
abbrev pub Shorter : {A : Type 0} → ℕ → Place → Outcome A → Type 0
Shorter k p (Ok x) = length x.1.ahead + k ≤ length p.ahead
Shorter k p (Err e) = Unit {0}

-- What a parser does depends on the tokens that it takes and the one behind them; it takes at least so many.
pub record Local {A : Type 0} (w : Tails) (k : ℕ) (r : Parser A) : Type 0 where
  pub near : (p q : Place) → SamePlace w p q → Near w (r p) (r q)
  pub one : (p : Place) → BeginFrom w.bound p.ahead → Far w.bound (r p)
  pub takes : (p : Place) → Shorter k p (r p)

-- a test depends on the next two tokens
abbrev pub Peeks : {C : Type 0} → Tails → (Place → C) → Type 0
Peeks w c = (p q : Place) → SamePlace w p q → c p ≡ c q

-- ---- places

abbrev pub here : Tok → List Tok → ℕ → ℕ → Place
here t ts last level = record { ahead = t ∷ ts; last = last; level = level }

-- what holds of two places that are written out, holds of all
pub same_places : {w : Tails} (Holds : Place → Place → Type 0)
    → ((t : Tok) (us : List Tok) (l m : ℕ) → Holds (here t (us ++ w.token ∷ w.one) l m) (here t (us ++ w.token ∷ w.other) l m))
    → (p q : Place) → SamePlace w p q → Holds p q
same_places {w} Holds k p q h =
    subst (λ ts. Holds (record { ahead = ts; last = p.last; level = p.level }) q) (sym h.one)
    (subst (λ ts. Holds (here h.token (h.between ++ w.token ∷ w.one) p.last p.level) (record { ahead = ts; last = q.last; level = q.level })) (sym h.other)
    (subst (λ z. Holds (here h.token (h.between ++ w.token ∷ w.one) p.last p.level) (here h.token (h.between ++ w.token ∷ w.other) z q.level)) h.last
    (subst (λ z. Holds (here h.token (h.between ++ w.token ∷ w.one) p.last p.level) (here h.token (h.between ++ w.token ∷ w.other) p.last z)) h.level
    (k h.token h.between p.last p.level))))

first_same : (u : Tok) (us xs ys : List Tok) → first_symbol (us ++ u ∷ xs) ≡ first_symbol (us ++ u ∷ ys)
first_same u [] xs ys = refl
first_same u (v ∷ vs) xs ys = refl

bytes_same : (u : Tok) (us xs ys : List Tok) → first_bytes (us ++ u ∷ xs) ≡ first_bytes (us ++ u ∷ ys)
bytes_same u [] xs ys = refl
bytes_same u (v ∷ vs) xs ys = refl

module _ {w : Tails} where
  pub peeks_symbol : Peeks w symbol
  unfolding symbol
  peeks_symbol = same_places (λ p q. symbol p ≡ symbol q) (λ t us l m. refl)

  pub peeks_behind : Peeks w symbol_behind
  unfolding symbol_behind
  peeks_behind = same_places (λ p q. symbol_behind p ≡ symbol_behind q) (λ t us l m. first_same w.token us w.one w.other)

  pub peeks_start : Peeks w start_of
  unfolding start_of
  peeks_start = same_places (λ p q. start_of p ≡ start_of q) (λ t us l m. refl)

  pub peeks_last : Peeks w (λ p. p.last)
  peeks_last p q h = h.last

  pub peeks_level : Peeks w (λ p. p.level)
  peeks_level p q h = h.level

  pub peeks_sees : (x : Symbol) → Peeks w (sees x)
  unfolding sees
  peeks_sees x p q h = ap (λ z. same z x) (peeks_symbol p q h)

  pub peeks_sees_behind : (x : Symbol) → Peeks w (sees_behind x)
  unfolding sees_behind
  peeks_sees_behind x p q h = ap (λ z. same z x) (peeks_behind p q h)

  pub peeks_word : (word : List ℕ) → Peeks w (sees_word word)
  unfolding sees_word sees symbol
  peeks_word word = same_places (λ p q. sees_word word p ≡ sees_word word q) (λ t us l m. refl)

  pub peeks_second_bytes : (word : List ℕ) → Peeks w (λ p. bytes_eq (second_bytes p.ahead) word)
  peeks_second_bytes word =
      same_places (λ p q. bytes_eq (second_bytes p.ahead) word ≡ bytes_eq (second_bytes q.ahead) word)
      (λ t us l m. ap (λ z. bytes_eq z word) (bytes_same w.token us w.one w.other))

  pub peeks_const : {C : Type 0} (c : C) → Peeks w (λ _. c)
  peeks_const c p q h = refl

  pub peeks_of : {C D : Type 0} {c : Place → C} (f : C → D) → Peeks w c → Peeks w (λ p. f (c p))
  peeks_of f k p q h = ap f (k p q h)

  pub peeks_and : {c d : Place → Bool} → Peeks w c → Peeks w d → Peeks w (λ p. c p && d p)
  peeks_and k l p q h = ap₂ (λ a b. a && b) (k p q h) (l p q h)

  pub peeks_or : {c d : Place → Bool} → Peeks w c → Peeks w d → Peeks w (λ p. c p || d p)
  peeks_or k l p q h = ap₂ (λ a b. a || b) (k p q h) (l p q h)

-- ---- putting parsers together

pub near_then : {A B : Type 0} (w : Tails) (f g : A → Parser B) (o r : Outcome A) → Near w o r
    → ((x : A) (p q : Place) → o ≡ Ok (x, p) → r ≡ Ok (x, q) → SamePlace w p q → Near w (f x p) (g x q))
    → ((x : A) (p : Place) → BeginFrom w.bound p.ahead → Far w.bound (f x p))
    → ((x : A) (p : Place) → BeginFrom w.bound p.ahead → Far w.bound (g x p))
    → Near w (and_then o f) (and_then r g)
near_then w f g (Ok x) (Ok y) (inl h) k one other =
    subst (λ z. Near w (f x.0 x.1) (g z y.1)) h.0 (k x.0 x.1 y.1 refl (ap (λ z. Ok (z, y.1)) (sym h.0)) h.1)
near_then w f g (Ok x) (Err e) (inl h) k one other = absurd h
near_then w f g (Err e) (Ok x) (inl h) k one other = absurd h
near_then w f g (Err e) (Err d) (inl h) k one other = inl h
near_then w f g (Ok x) (Ok y) (inr h) k one other = inr (one x.0 x.1 h.0, other y.0 y.1 h.1)
near_then w f g (Ok x) (Err e) (inr h) k one other = inr (one x.0 x.1 h.0, h.1)
near_then w f g (Err e) (Ok y) (inr h) k one other = inr (h.0, other y.0 y.1 h.1)
near_then w f g (Err e) (Err d) (inr h) k one other = inr h

pub far_then : {A B : Type 0} (bound : ℕ) (f : A → Parser B) (o : Outcome A) → Far bound o
    → ((x : A) (p : Place) → BeginFrom bound p.ahead → Far bound (f x p)) → Far bound (and_then o f)
far_then bound f (Ok x) h k = k x.0 x.1 h
far_then bound f (Err e) h k = h

shorter_more : {B : Type 0} (k n : ℕ) (p q : Place) (o : Outcome B) → length q.ahead + k ≤ length p.ahead → Shorter n q o → Shorter (k + n) p o
shorter_more k n p q (Ok y) h t = omega arith
shorter_more k n p q (Err d) h t = tt

pub shorter_then : {A B : Type 0} (k n : ℕ) (p : Place) (f : A → Parser B) (o : Outcome A) → Shorter k p o
    → ((x : A) (q : Place) → Shorter n q (f x q)) → Shorter (k + n) p (and_then o f)
shorter_then k n p f (Ok x) h t = shorter_more k n p x.1 (f x.0 x.1) h (t x.0 x.1)
shorter_then k n p f (Err d) h t = tt

pub near_if : {A : Type 0} (w : Tails) (b c : Bool) (o r m n : Outcome A) → b ≡ c → (b ≡ true → Near w o r) → (b ≡ false → Near w m n)
    → Near w (if b then o else m) (if c then r else n)
near_if w true true o r m n e h k = h refl
near_if w false false o r m n e h k = k refl
near_if w true false o r m n e h k = absurd (true≢false e)
near_if w false true o r m n e h k = absurd (true≢false (sym e))

pub far_if : {A : Type 0} (bound : ℕ) (b : Bool) (o r : Outcome A) → Far bound o → Far bound r → Far bound (if b then o else r)
far_if bound true o r h k = h
far_if bound false o r h k = k

pub shorter_if : {A : Type 0} (k : ℕ) (p : Place) (b : Bool) (o r : Outcome A) → Shorter k p o → Shorter k p r → Shorter k p (if b then o else r)
shorter_if k p true o r h t = h
shorter_if k p false o r h t = t

pub shorter_least : {A : Type 0} (k n : ℕ) (p : Place) (o : Outcome A) → k ≤ n → Shorter n p o → Shorter k p o
shorter_least k n p (Ok x) e h = omega arith
shorter_least k n p (Err d) e h = tt

module _ {w : Tails} where
  -- one parser, and then another
  pub both : {A B : Type 0} {k n : ℕ} {r : Parser A} {f : A → Parser B} → Local w k r → ((x : A) → Local w n (f x)) → Local w (k + n) (r >>= f)
  both {k = k} {n = n} {r = r} {f = f} h g = record {
    near = λ p q s. near_then w f f (r p) (r q) (h.near p q s) (λ x a b d e i. (g x).near a b i) (λ x. (g x).one) (λ x. (g x).one);
    one = λ p l. far_then (w.bound) f (r p) (h.one p l) (λ x. (g x).one);
    takes = λ p. shorter_then k n p f (r p) (h.takes p) (λ x. (g x).takes);
  }

  -- one of two, by a test
  pub choose : {A : Type 0} {k : ℕ} {c : Place → Bool} {r s : Parser A} → Peeks w c → Local w k r → Local w k s → Local w k (λ p. if c p then r p else s p)
  choose {k = k} {c = c} {r = r} {s = s} t h g = record {
    near = λ p q i. near_if w (c p) (c q) (r p) (r q) (s p) (s q) (t p q i) (λ _. h.near p q i) (λ _. g.near p q i);
    one = λ p l. far_if (w.bound) (c p) (r p) (s p) (h.one p l) (g.one p l);
    takes = λ p. shorter_if k p (c p) (r p) (s p) (h.takes p) (g.takes p);
  }

  pub least : {A : Type 0} {n : ℕ} {r : Parser A} (k : ℕ) → nat_le k n ≡ true → Local w n r → Local w k r
  least {n = n} {r = r} k e h = record { near = h.near; one = h.one; takes = λ p. shorter_least k n p (r p) (leb-true k n e) (h.takes p) }

  -- what a place says
  pub given : {C : Type 0} {c : Place → C} → Peeks w c → Local w 0 (λ p. Ok (c p, p))
  given t = record { near = λ p q i. inl (t p q i, i); one = λ p l. l; takes = λ p. omega arith }

  pub done : {A : Type 0} (x : A) → Local w 0 (λ p. Ok (x, p))
  done x = given (peeks_const x)

  pub at_start : Local w 0 start
  at_start = given peeks_start

  pub at_last : Local w 0 last
  at_last = given peeks_last

  pub at_here : Local w 0 level
  at_here = given peeks_level

  pub at_span : (from : ℕ) → Local w 0 (span_from from)
  at_span from = given (λ p q h. ap (λ z. record { start = from; end = z }) h.last)

  pub to_level : (at : ℕ) → Local w 0 (set_level at)
  to_level at = record {
    near = λ p q i. inl (refl, record { token = i.token; between = i.between; one = i.one; other = i.other; last = i.last; level = refl });
    one = λ p l. l;
    takes = λ p. omega arith;
  }
