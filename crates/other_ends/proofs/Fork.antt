-- What a parser does with the tokens of a prefix, whatever stands behind its last one.
use Rattle.std.proofs.Common.{◌≡◌, ℕ, ◌+◌, Bool, true, false, List, [], ◌∷◌, ◌++◌, refl, sym, ◌∙◌, ap, subst, ◌⊎◌, inl, inr, arith, ap₂, true≢false, ◌&&◌, ◌||◌, leb-true, if◌then◌else◌}
use Rattle.std.specs.Prelude.{Ok, Err, nat_le}
use Rattle.luau_lex.specs.Tokens.{Tok}
use Rattle.luau_grammar.specs.declared.error.ParseError.{ParseError}
use Rattle.luau_grammar.specs.declared.error.ParseError.TheVariants.{Lex, NoMemory, Unexpected, UnexpectedEnd, AmbiguousCall, Nesting}
use Rattle.luau_grammar.specs.declared.symbol.Symbol.{Symbol}
use Rattle.luau_grammar.specs.declared.symbol.Symbol.TheVariants as s
use Rattle.luau_grammar.specs.Symbols.{same, symbol_of}
use Rattle.luau_grammar.specs.Places.{Place, first_symbol, symbol, sees, start_of}
use Rattle.luau_grammar.specs.Reading.{Setting, Parser, ◌>>=◌, Outcome, and_then, start, last, level, set_level, span_from}
use Rattle.grammar_faults.specs.Fronts.{BeginFrom}
pub use Rattle.grammar_faults.proofs.Local.{IsLate, Far, Shorter, here, far_then, far_if, shorter_then, shorter_if, shorter_least}

-- tokens behind the first of these begin behind it
abbrev pub NextLate : List Tok → Type 0
NextLate [] = Unit {0}
NextLate (u ∷ us) = BeginFrom (u.span.start + 1) us

-- all of these stand behind the first of those
abbrev pub PastOf : List Tok → List Tok → Type 0
PastOf [] ts = ⊥
PastOf (u ∷ us) ts = BeginFrom (u.span.start + 1) ts

-- a fault is not that the first of these, or the end, is unexpected
abbrev pub NotAt : List Tok → ParseError → Type 0
NotAt [] (UnexpectedEnd n) = ⊥
NotAt [] _ = Unit {0}
NotAt (u ∷ us) (Unexpected k) = k ≡ u.span.start → ⊥
NotAt (u ∷ us) _ = Unit {0}

-- Two ways to go on behind a token, where they begin, and at which levels the token may stand: at all up to one, or at
-- others, and then one of both goes on with a `.`.
pub record Fork : Type 0 where
  pub bound : ℕ
  pub stands : ℕ → Bool
  pub upto : Bool
  pub token : Tok
  pub one : List Tok
  pub other : List Tok
  pub one_late : BeginFrom bound one
  pub other_late : BeginFrom bound other
  pub one_next : NextLate one
  pub dotted : upto ≡ false → (same (first_symbol one) s.Dot ≡ true) ⊎ (same (first_symbol other) s.Dot ≡ true)

-- two places at the token or before it
pub record SamePlace (w : Fork) (p q : Place) : Type 0 where
  pub between : List Tok
  pub one : p.ahead ≡ between ++ w.token ∷ w.one
  pub other : q.ahead ≡ between ++ w.token ∷ w.other
  pub last : p.last ≡ q.last
  pub level : p.level ≡ q.level

abbrev pub Same : {A : Type 0} → Fork → Outcome A → Outcome A → Type 0
Same w (Ok x) (Ok y) = (x.0 ≡ y.0) × SamePlace w x.1 y.1
Same w (Ok x) (Err f) = ⊥
Same w (Err e) (Ok y) = ⊥
Same w (Err e) (Err f) = e ≡ f

-- a token stands too deep
abbrev pub Deep : ParseError → Type 0
Deep (Nesting at) = Unit {0}
Deep (Unexpected at) = ⊥
Deep (UnexpectedEnd at) = ⊥
Deep (AmbiguousCall at) = ⊥
Deep (Lex e) = ⊥
Deep NoMemory = ⊥

abbrev pub IsDeep : {A : Type 0} → Outcome A → Type 0
IsDeep (Ok x) = ⊥
IsDeep (Err e) = Deep e

-- what is behind the first of these, or another fault than there
abbrev pub BeyondOf : {A : Type 0} → List Tok → Outcome A → Type 0
BeyondOf one (Ok x) = PastOf one x.1.ahead
BeyondOf one (Err e) = NotAt one e

-- what is behind the first of these, or stands too deep
abbrev pub Aside : {A : Type 0} → List Tok → Outcome A → Type 0
Aside one o = BeyondOf one o ⊎ IsDeep o

-- Two outcomes are the same, or both are behind the token, or the first is that something stands too deep, or the second
-- is, and the first is behind the token behind it.
abbrev pub Near : {A : Type 0} → Fork → Outcome A → Outcome A → Type 0
Near w o r = Same w o r ⊎ ((Far w.bound o × Far w.bound r) ⊎ (IsDeep o ⊎ (IsDeep r × BeyondOf w.one o)))

-- What a parser does depends on the tokens that it takes; it takes at least so many.
pub record Forked {A : Type 0} (w : Fork) (k : ℕ) (r : Parser A) : Type 0 where
  pub near : (p q : Place) → SamePlace w p q → Near w (r p) (r q)
  pub one : (b : ℕ) (p : Place) → BeginFrom b p.ahead → Far b (r p)
  pub takes : (p : Place) → Shorter k p (r p)

-- a test depends on the next token
abbrev pub Peeks : {C : Type 0} → Fork → (Place → C) → Type 0
Peeks w c = (p q : Place) → SamePlace w p q → c p ≡ c q

-- ---- places

written : (w : Fork) (Holds : Place → Place → Type 0)
    → ((l m : ℕ) → Holds (here w.token w.one l m) (here w.token w.other l m))
    → ((t : Tok) (us : List Tok) (l m : ℕ) → Holds (here t (us ++ w.token ∷ w.one) l m) (here t (us ++ w.token ∷ w.other) l m))
    → (us : List Tok) (l m : ℕ) → Holds (record { ahead = us ++ w.token ∷ w.one; last = l; level = m }) (record { ahead = us ++ w.token ∷ w.other; last = l; level = m })
written w Holds end k [] l m = end l m
written w Holds end k (t ∷ us) l m = k t us l m

-- what holds of two places that are written out, holds of all
pub same_places : {w : Fork} (Holds : Place → Place → Type 0)
    → ((l m : ℕ) → Holds (here w.token w.one l m) (here w.token w.other l m))
    → ((t : Tok) (us : List Tok) (l m : ℕ) → Holds (here t (us ++ w.token ∷ w.one) l m) (here t (us ++ w.token ∷ w.other) l m))
    → (p q : Place) → SamePlace w p q → Holds p q
same_places {w} Holds end k p q h =
    subst (λ ts. Holds (record { ahead = ts; last = p.last; level = p.level }) q) (sym h.one)
    (subst (λ ts. Holds (record { ahead = h.between ++ w.token ∷ w.one; last = p.last; level = p.level }) (record { ahead = ts; last = q.last; level = q.level })) (sym h.other)
    (subst (λ z. Holds (record { ahead = h.between ++ w.token ∷ w.one; last = p.last; level = p.level }) (record { ahead = h.between ++ w.token ∷ w.other; last = z; level = q.level })) h.last
    (subst (λ z. Holds (record { ahead = h.between ++ w.token ∷ w.one; last = p.last; level = p.level }) (record { ahead = h.between ++ w.token ∷ w.other; last = p.last; level = z })) h.level
    (written w Holds end k h.between p.last p.level))))

module _ {w : Fork} where
  pub peeks_symbol : Peeks w symbol
  unfolding symbol
  peeks_symbol = same_places (λ p q. symbol p ≡ symbol q) (λ l m. refl) (λ t us l m. refl)

  pub peeks_start : Peeks w start_of
  unfolding start_of
  peeks_start = same_places (λ p q. start_of p ≡ start_of q) (λ l m. refl) (λ t us l m. refl)

  pub peeks_last : Peeks w (λ p. p.last)
  peeks_last p q h = h.last

  pub peeks_level : Peeks w (λ p. p.level)
  peeks_level p q h = h.level

  pub peeks_sees : (x : Symbol) → Peeks w (sees x)
  unfolding sees
  peeks_sees x p q h = ap (λ z. same z x) (peeks_symbol p q h)

  pub peeks_const : {C : Type 0} (c : C) → Peeks w (λ _. c)
  peeks_const c p q h = refl

  pub peeks_of : {C D : Type 0} {c : Place → C} (f : C → D) → Peeks w c → Peeks w (λ p. f (c p))
  peeks_of f k p q h = ap f (k p q h)

  pub peeks_and : {c d : Place → Bool} → Peeks w c → Peeks w d → Peeks w (λ p. c p && d p)
  peeks_and k l p q h = ap₂ (λ a b. a && b) (k p q h) (l p q h)

  pub peeks_or : {c d : Place → Bool} → Peeks w c → Peeks w d → Peeks w (λ p. c p || d p)
  peeks_or k l p q h = ap₂ (λ a b. a || b) (k p q h) (l p q h)

-- ---- putting parsers together

pub deep_then : {A B : Type 0} (f : A → Parser B) (o : Outcome A) → IsDeep o → IsDeep (and_then o f)
deep_then f (Ok x) h = absurd h
deep_then f (Err e) h = h

far_beyond : {A : Type 0} (u : Tok) (us : List Tok) (o : Outcome A) → Far (u.span.start + 1) o → BeyondOf (u ∷ us) o
far_beyond u us (Ok x) h = h
far_beyond u us (Err (Unexpected k)) h = λ e. absurd (omega arith)
far_beyond u us (Err (UnexpectedEnd k)) h = tt
far_beyond u us (Err (AmbiguousCall k)) h = tt
far_beyond u us (Err (Nesting k)) h = tt
far_beyond u us (Err (Lex d)) h = tt
far_beyond u us (Err NoMemory) h = tt

pub past_beyond : {A : Type 0} (one : List Tok) (r : Parser A) → ((b : ℕ) (p : Place) → BeginFrom b p.ahead → Far b (r p)) → (p : Place) → PastOf one p.ahead → BeyondOf one (r p)
past_beyond [] r h p k = absurd k
past_beyond (u ∷ us) r h p k = far_beyond u us (r p) (h (u.span.start + 1) p k)

pub beyond_then : {A B : Type 0} (one : List Tok) (f : A → Parser B) (o : Outcome A) → BeyondOf one o → ((x : A) (b : ℕ) (p : Place) → BeginFrom b p.ahead → Far b (f x p)) → BeyondOf one (and_then o f)
beyond_then one f (Ok x) h k = past_beyond one (f x.0) (k x.0) x.1 h
beyond_then one f (Err e) h k = h

pub near_then : {A B : Type 0} (w : Fork) (f g : A → Parser B) (o r : Outcome A) → Near w o r
    → ((x : A) (p q : Place) → o ≡ Ok (x, p) → r ≡ Ok (x, q) → SamePlace w p q → Near w (f x p) (g x q))
    → ((x : A) (b : ℕ) (p : Place) → BeginFrom b p.ahead → Far b (f x p))
    → ((x : A) (b : ℕ) (p : Place) → BeginFrom b p.ahead → Far b (g x p))
    → Near w (and_then o f) (and_then r g)
near_then w f g (Ok x) (Ok y) (inl h) k one other =
    subst (λ z. Near w (f x.0 x.1) (g z y.1)) h.0 (k x.0 x.1 y.1 refl (ap (λ z. Ok (z, y.1)) (sym h.0)) h.1)
near_then w f g (Ok x) (Err e) (inl h) k one other = absurd h
near_then w f g (Err e) (Ok x) (inl h) k one other = absurd h
near_then w f g (Err e) (Err d) (inl h) k one other = inl h
near_then w f g o r (inr (inl h)) k one other = inr (inl (far_then w.bound f o h.0 (λ x. one x w.bound), far_then w.bound g r h.1 (λ x. other x w.bound)))
near_then w f g o r (inr (inr (inl h))) k one other = inr (inr (inl (deep_then f o h)))
near_then w f g o r (inr (inr (inr h))) k one other = inr (inr (inr (deep_then g r h.0, beyond_then w.one f o h.1 one)))

pub near_if : {A : Type 0} (w : Fork) (b c : Bool) (o r m n : Outcome A) → b ≡ c → (b ≡ true → Near w o r) → (b ≡ false → Near w m n)
    → Near w (if b then o else m) (if c then r else n)
near_if w true true o r m n e h k = h refl
near_if w false false o r m n e h k = k refl
near_if w true false o r m n e h k = absurd (true≢false e)
near_if w false true o r m n e h k = absurd (true≢false (sym e))

-- what is taken, or stands too deep
abbrev pub Taken : {A : Type 0} → ℕ → Outcome A → Type 0
Taken bound o = Far bound o ⊎ IsDeep o

pub taken_then : {A B : Type 0} (bound : ℕ) (f : A → Parser B) (o : Outcome A) → Taken bound o → ((x : A) (p : Place) → BeginFrom bound p.ahead → Far bound (f x p)) → Taken bound (and_then o f)
taken_then bound f o (inl h) k = inl (far_then bound f o h k)
taken_then bound f o (inr h) k = inr (deep_then f o h)

-- what is taken for sure, or else perhaps stands too deep
abbrev pub Gripped : {A : Type 0} → Bool → ℕ → Outcome A → Type 0
Gripped true bound o = Far bound o
Gripped false bound o = Taken bound o

pub gripped_then : {A B : Type 0} (g : Bool) (bound : ℕ) (f : A → Parser B) (o : Outcome A) → Gripped g bound o → ((x : A) (p : Place) → BeginFrom bound p.ahead → Far bound (f x p)) → Gripped g bound (and_then o f)
gripped_then true bound f o h k = far_then bound f o h k
gripped_then false bound f o (inl h) k = inl (far_then bound f o h k)
gripped_then false bound f o (inr h) k = inr (deep_then f o h)

-- what finds a name too deep, or takes it at another level
abbrev pub Missed : {A : Type 0} → Bool → Bool → ℕ → Outcome A → Type 0
Missed true upto bound o = IsDeep o
Missed false true bound o = IsDeep o
Missed false false bound o = Taken bound o

pub missed_then : {A B : Type 0} (g upto : Bool) (bound : ℕ) (f : A → Parser B) (o : Outcome A) → Missed g upto bound o → ((x : A) (p : Place) → BeginFrom bound p.ahead → Far bound (f x p)) → Missed g upto bound (and_then o f)
missed_then true upto bound f o h k = deep_then f o h
missed_then false true bound f o h k = deep_then f o h
missed_then false false bound f o h k = taken_then bound f o h k

pub missed_if : {A : Type 0} (g upto : Bool) (bound : ℕ) (b : Bool) (o r : Outcome A) → Missed g upto bound o → Missed g upto bound r → Missed g upto bound (if b then o else r)
missed_if g upto bound true o r h k = h
missed_if g upto bound false o r h k = k

pub deep_missed : {A : Type 0} (upto : Bool) (bound : ℕ) (o : Outcome A) → IsDeep o → Missed false upto bound o
deep_missed true bound o h = h
deep_missed false bound o h = inr h

pub missed_taken : {A : Type 0} (upto : Bool) (bound : ℕ) (o : Outcome A) → Missed false upto bound o → Taken bound o
missed_taken true bound o h = inr h
missed_taken false bound o h = h

pub aside_then : {A B : Type 0} (one : List Tok) (f : A → Parser B) (o : Outcome A) → Aside one o → ((x : A) (b : ℕ) (p : Place) → BeginFrom b p.ahead → Far b (f x p)) → Aside one (and_then o f)
aside_then one f o (inl h) k = inl (beyond_then one f o h k)
aside_then one f o (inr h) k = inr (deep_then f o h)

pub gripped_if : {A : Type 0} (g : Bool) (bound : ℕ) (b : Bool) (o r : Outcome A) → Gripped g bound o → Gripped g bound r → Gripped g bound (if b then o else r)
gripped_if g bound true o r h k = h
gripped_if g bound false o r h k = k

pub deep_if : {A : Type 0} (b : Bool) (o r : Outcome A) → IsDeep o → IsDeep r → IsDeep (if b then o else r)
deep_if true o r h k = h
deep_if false o r h k = k

-- A test that looks at two tokens where the first is a name.
pub record Peeks2 (w : Fork) (c : Place → Bool) : Type 0 where
  pub inside : (t : Tok) (us : List Tok) (l m : ℕ) → c (here t (us ++ w.token ∷ w.one) l m) ≡ c (here t (us ++ w.token ∷ w.other) l m)
  pub plain : same (symbol_of w.token) s.Name ≡ false → (l m : ℕ) → c (here w.token w.one l m) ≡ c (here w.token w.other l m)

-- A parser takes a name where it may stand at the level, and finds it too deep elsewhere, or takes it at another level.
pub record Names {A : Type 0} (g : Bool) (w : Fork) (r : Parser A) : Type 0 where
  pub taken : same (symbol_of w.token) s.Name ≡ true → (ts : List Tok) (l m : ℕ) → BeginFrom w.bound ts → w.stands m ≡ true → Gripped g w.bound (r (here w.token ts l m))
  pub deep : same (symbol_of w.token) s.Name ≡ true → (ts : List Tok) (l m : ℕ) → BeginFrom w.bound ts → w.stands m ≡ false → Missed g w.upto w.bound (r (here w.token ts l m))

-- at which levels a setting takes the token
pub record Link (set : Setting) (w : Fork) : Type 0 where
  pub stands : (m : ℕ) → set.rules.may_stand w.token m ≡ w.stands m
  pub level : w.upto ≡ true → (m : ℕ) → w.stands m ≡ nat_le m set.limit

-- a test says no of a name before a `.`
abbrev pub Silent : Fork → (Place → Bool) → Type 0
Silent w c = same (symbol_of w.token) s.Name ≡ true → (ts : List Tok) (l m : ℕ) → same (first_symbol ts) s.Dot ≡ true → c (here w.token ts l m) ≡ false

-- a name before a `.` stands too deep, or the `.` is taken
pub record Dotted {A : Type 0} (w : Fork) (r : Parser A) : Type 0 where
  pub aside : same (symbol_of w.token) s.Name ≡ true → same (first_symbol w.one) s.Dot ≡ true → (l m : ℕ) → Aside w.one (r (here w.token w.one l m))

pub perhaps : {A : Type 0} {w : Fork} {r : Parser A} → Names true w r → Names false w r
perhaps {w = w} {r = r} h = record { taken = λ e ts l m b s. inl (h.taken e ts l m b s); deep = λ e ts l m b s. deep_missed w.upto w.bound (r (here w.token ts l m)) (h.deep e ts l m b s) }

module _ {w : Fork} where
  -- one parser, and then another
  pub both : {A B : Type 0} {k n : ℕ} {r : Parser A} {f : A → Parser B} → Forked w k r → ((x : A) → Forked w n (f x)) → Forked w (k + n) (r >>= f)
  both {k = k} {n = n} {r = r} {f = f} h g = record {
    near = λ p q s. near_then w f f (r p) (r q) (h.near p q s) (λ x a b d e i. (g x).near a b i) (λ x. (g x).one) (λ x. (g x).one);
    one = λ b p l. far_then b f (r p) (h.one b p l) (λ x. (g x).one b);
    takes = λ p. shorter_then k n p f (r p) (h.takes p) (λ x. (g x).takes);
  }

  -- one of two, by a test
  pub choose : {A : Type 0} {k : ℕ} {c : Place → Bool} {r s : Parser A} → Peeks w c → Forked w k r → Forked w k s → Forked w k (λ p. if c p then r p else s p)
  choose {k = k} {c = c} {r = r} {s = s} t h g = record {
    near = λ p q i. near_if w (c p) (c q) (r p) (r q) (s p) (s q) (t p q i) (λ _. h.near p q i) (λ _. g.near p q i);
    one = λ b p l. far_if b (c p) (r p) (s p) (h.one b p l) (g.one b p l);
    takes = λ p. shorter_if k p (c p) (r p) (s p) (h.takes p) (g.takes p);
  }

  -- where two tests differ at a name
  module _ {A : Type 0} (c : Place → Bool) (r v : Parser A) (h : Names true w r) (g : Names false w v) (e : same (symbol_of w.token) s.Name ≡ true) (l m : ℕ)
      (beyond : c (here w.token w.one l m) ≡ true → w.stands m ≡ true → BeyondOf w.one (r (here w.token w.one l m)) ⊎ Far w.bound (v (here w.token w.other l m)))
      (aside : w.stands m ≡ false → w.upto ≡ false → c (here w.token w.other l m) ≡ true → Aside w.one (v (here w.token w.one l m)))
      (near_r : Near w (r (here w.token w.one l m)) (r (here w.token w.other l m))) (near_v : Near w (v (here w.token w.one l m)) (v (here w.token w.other l m))) where
    abbrev p : Place
    p = here w.token w.one l m

    abbrev q : Place
    q = here w.token w.other l m

    first_taken : Far w.bound (r p) → Taken w.bound (v q) → BeyondOf w.one (r p) ⊎ Far w.bound (v q) → Near w (r p) (v q)
    first_taken a (inl k) d = inr (inl (a, k))
    first_taken a (inr k) (inl d) = inr (inr (inr (k, d)))
    first_taken a (inr k) (inr d) = inr (inl (a, d))

    other_taken : Taken w.bound (v p) → Far w.bound (r q) → Near w (v p) (r q)
    other_taken (inl k) a = inr (inl (k, a))
    other_taken (inr k) a = inr (inr (inl k))

    other_deep : IsDeep (r q) → Aside w.one (v p) → Near w (v p) (r q)
    other_deep a (inl k) = inr (inr (inr (a, k)))
    other_deep a (inr k) = inr (inr (inl k))

    other_missed : IsDeep (r q) → (z : Bool) → w.upto ≡ z → Missed false z w.bound (v p) → (w.upto ≡ false → Aside w.one (v p)) → Near w (v p) (r q)
    other_missed a true d k x = inr (inr (inl k))
    other_missed a false d k x = other_deep a (x d)

    differs : (a b : Bool) → c p ≡ a → c q ≡ b → (z : Bool) → w.stands m ≡ z → Near w (if a then r p else v p) (if b then r q else v q)
    differs true true d i z k = near_r
    differs false false d i z k = near_v
    differs true false d i true k = first_taken (h.taken e w.one l m w.one_late k) (g.taken e w.other l m w.other_late k) (beyond d k)
    differs true false d i false k = inr (inr (inl (h.deep e w.one l m w.one_late k)))
    differs false true d i true k = other_taken (g.taken e w.one l m w.one_late k) (h.taken e w.other l m w.other_late k)
    differs false true d i false k =
        other_missed (h.deep e w.other l m w.other_late k) (w.upto) refl (g.deep e w.one l m w.one_late k) (λ u. aside k u i)

  edge : {A : Type 0} (c : Place → Bool) (r v : Parser A) → Peeks2 w c → Names true w r → Names false w v
      → (same (symbol_of w.token) s.Name ≡ true → (l m : ℕ) → c (here w.token w.one l m) ≡ true → w.stands m ≡ true → BeyondOf w.one (r (here w.token w.one l m)) ⊎ Far w.bound (v (here w.token w.other l m)))
      → (same (symbol_of w.token) s.Name ≡ true → (l m : ℕ) → w.stands m ≡ false → w.upto ≡ false → c (here w.token w.other l m) ≡ true → Aside w.one (v (here w.token w.one l m)))
      → ((p q : Place) → SamePlace w p q → Near w (r p) (r q)) → ((p q : Place) → SamePlace w p q → Near w (v p) (v q))
      → (l m : ℕ) (b : Bool) → same (symbol_of w.token) s.Name ≡ b
      → Near w (if c (here w.token w.one l m) then r (here w.token w.one l m) else v (here w.token w.one l m)) (if c (here w.token w.other l m) then r (here w.token w.other l m) else v (here w.token w.other l m))
  edge c r v t h g d x near_r near_v l m false e =
      let p = here w.token w.one l m in
      let q = here w.token w.other l m in
      let i : SamePlace w p q = record { between = []; one = refl; other = refl; last = refl; level = refl } in
      near_if w (c p) (c q) (r p) (r q) (v p) (v q) (t.plain e l m) (λ _. near_r p q i) (λ _. near_v p q i)
  edge c r v t h g d x near_r near_v l m true e =
      let p = here w.token w.one l m in
      let q = here w.token w.other l m in
      let i : SamePlace w p q = record { between = []; one = refl; other = refl; last = refl; level = refl } in
      differs c r v h g e l m (d e l m) (x e l m) (near_r p q i) (near_v p q i) (c p) (c q) refl refl (w.stands m) refl

  chosen : {A : Type 0} {k : ℕ} {r v : Parser A} (c : Place → Bool) → Peeks2 w c → Names true w r → Names false w v
      → (same (symbol_of w.token) s.Name ≡ true → (l m : ℕ) → c (here w.token w.one l m) ≡ true → w.stands m ≡ true → BeyondOf w.one (r (here w.token w.one l m)) ⊎ Far w.bound (v (here w.token w.other l m)))
      → (same (symbol_of w.token) s.Name ≡ true → (l m : ℕ) → w.stands m ≡ false → w.upto ≡ false → c (here w.token w.other l m) ≡ true → Aside w.one (v (here w.token w.one l m)))
      → Forked w k r → Forked w k v → Forked w k (λ p. if c p then r p else v p)
  chosen {k = k} {r = r} {v = v} c t h g d x a b = record {
    near = same_places (λ p q. Near w (if c p then r p else v p) (if c q then r q else v q))
        (λ l m. edge c r v t h g d x a.near b.near l m (same (symbol_of w.token) s.Name) refl)
        (λ u us l m.
        let p = here u (us ++ w.token ∷ w.one) l m in
        let q = here u (us ++ w.token ∷ w.other) l m in
        let i : SamePlace w p q = record { between = u ∷ us; one = refl; other = refl; last = refl; level = refl } in
        near_if w (c p) (c q) (r p) (r q) (v p) (v q) (t.inside u us l m) (λ _. a.near p q i) (λ _. b.near p q i));
    one = λ z p l. far_if z (c p) (r p) (v p) (a.one z p l) (b.one z p l);
    takes = λ p. shorter_if k p (c p) (r p) (v p) (a.takes p) (b.takes p);
  }

  aside_case : {A : Type 0} (c : Place → Bool) (v : Parser A) → Dotted w v → Silent w c
      → same (symbol_of w.token) s.Name ≡ true → (l m : ℕ) → (same (first_symbol w.one) s.Dot ≡ true) ⊎ (same (first_symbol w.other) s.Dot ≡ true) → c (here w.token w.other l m) ≡ true
      → Aside w.one (v (here w.token w.one l m))
  aside_case c v h quiet e l m (inl d) k = h.aside e d l m
  aside_case c v h quiet e l m (inr d) k = absurd (true≢false (sym k ∙ quiet e w.other l m d))

  -- One of two, by such a test: where it says so, the first takes the second token too. Before a `.` it says no.
  pub choose2 : {A : Type 0} {k : ℕ} {r v : Parser A} (c : Place → Bool) → Peeks2 w c → Names true w r → Names false w v
      → (same (symbol_of w.token) s.Name ≡ true → (l m : ℕ) → c (here w.token w.one l m) ≡ true → w.stands m ≡ true → BeyondOf w.one (r (here w.token w.one l m)))
      → Silent w c → Dotted w v
      → Forked w k r → Forked w k v → Forked w k (λ p. if c p then r p else v p)
  choose2 {v = v} c t h g d quiet dot a b = chosen c t h g (λ e l m i j. inl (d e l m i j)) (λ e l m k u i. aside_case c v dot quiet e l m (w.dotted u) i) a b

  -- both take the name alike
  pub either_name : {A : Type 0} {k : ℕ} {r v : Parser A} (c : Place → Bool) → Peeks2 w c → Names true w r → Names true w v → Forked w k r → Forked w k v → Forked w k (λ p. if c p then r p else v p)
  either_name c t h g a b = chosen c t h (perhaps g) (λ e l m i j. inr (g.taken e w.other l m w.other_late j)) (λ e l m k u i. inr (g.deep e w.one l m w.one_late k)) a b

  pub least : {A : Type 0} {n : ℕ} {r : Parser A} (k : ℕ) → nat_le k n ≡ true → Forked w n r → Forked w k r
  least {n = n} {r = r} k e h = record { near = h.near; one = h.one; takes = λ p. shorter_least k n p (r p) (leb-true k n e) (h.takes p) }

  -- what a place says
  pub given : {C : Type 0} {c : Place → C} → Peeks w c → Forked w 0 (λ p. Ok (c p, p))
  given t = record { near = λ p q i. inl (t p q i, i); one = λ b p l. l; takes = λ p. omega arith }

  pub done : {A : Type 0} (x : A) → Forked w 0 (λ p. Ok (x, p))
  done x = given (peeks_const x)

  pub at_start : Forked w 0 start
  at_start = given peeks_start

  pub at_last : Forked w 0 last
  at_last = given peeks_last

  pub at_here : Forked w 0 level
  at_here = given peeks_level

  pub at_span : (from : ℕ) → Forked w 0 (span_from from)
  at_span from = given (λ p q h. ap (λ z. record { start = from; end = z }) h.last)

  pub to_level : (at : ℕ) → Forked w 0 (set_level at)
  to_level at = record {
    near = λ p q i. inl (refl, record { between = i.between; one = i.one; other = i.other; last = i.last; level = refl });
    one = λ b p l. l;
    takes = λ p. omega arith;
  }
