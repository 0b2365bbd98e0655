-- The same parser by two settings, side by side: it does the same until a token that one of them refuses by its rules.
use Rattle.std.proofs.Common.{◌≡◌, ℕ, ◌+◌, ◌≤◌, Bool, true, false, not, List, [], ◌∷◌, refl, subst, ◌⊎◌, inl, inr, arith, if◌then◌else◌}
use Rattle.std.specs.Prelude.{Ok, Err}
use Rattle.luau_lex.specs.Tokens.{Tok}
use Rattle.luau_grammar.specs.declared.error.ParseError.{ParseError}
use Rattle.luau_grammar.specs.declared.error.ParseError.TheVariants.{Lex, NoMemory, Unexpected, UnexpectedEnd, AmbiguousCall, Nesting}
use Rattle.luau_grammar.specs.Places.{Place, start_of}
use Rattle.luau_grammar.specs.Reading.{Setting, Parser, Outcome, ◌>>=◌, and_then, pure, start, last, span_from, set_level}
use Rattle.luau_grammar.proofs.Agreement.{Bounded}
use Rattle.grammar_faults.specs.Fronts.{BeginFrom}
use Rattle.grammar_faults.proofs.Local.{IsLate, Far, far_then, far_if}
use Rattle.wider_rules.specs.Order.{Has}

-- How the rules of two settings may differ at one token. Elsewhere the second setting takes what the first takes.
pub data Kind : Type 0 where
  -- at no token
  Wide : Kind
  -- there it takes the token
  Free : Kind
  -- there it refuses the calls that the first refuses, and takes the token else
  Lined : Kind
  -- there it refuses the levels that the first takes, and takes those that the first refuses
  Opposed : Kind
  -- there it may refuse any level
  Loose : Kind

-- A token at an offset comes behind those that begin before it and before those that begin behind it.
abbrev pub Tidy : ℕ → List Tok → Type 0
Tidy at [] = Unit {0}
Tidy at (t ∷ ts) = (t.span.start ≡ at → BeginFrom (at + 1) ts) × (Has at ts → t.span.start ≤ at) × Tidy at ts

-- each of these tokens begins where one of all begins
abbrev pub Among : List Tok → List Tok → Type 0
Among all [] = Unit {0}
Among all (t ∷ ts) = Has t.span.start all × Among all ts

-- the token is still ahead, where it matters
abbrev pub Awaits : Kind → ℕ → List Tok → Type 0
Awaits Wide at ts = Unit {0}
Awaits Free at ts = Unit {0}
Awaits Lined at ts = Unit {0}
Awaits Opposed at ts = Has at ts
Awaits Loose at ts = Unit {0}

abbrev pub Timely : Kind → ℕ → ParseError → Type 0
Timely Wide at e = Unit {0}
Timely Free at e = Unit {0}
Timely Lined at e = Unit {0}
Timely Opposed at e = IsLate (at + 1) e → ⊥
Timely Loose at e = Unit {0}

-- a fault stands at one of these tokens, or at the end of a text of this length
abbrev pub StandsAmong : ℕ → List Tok → ParseError → Type 0
StandsAmong len all (Unexpected at) = Has at all
StandsAmong len all (UnexpectedEnd at) = at ≡ len
StandsAmong len all (AmbiguousCall at) = Has at all
StandsAmong len all (Nesting at) = Has at all
StandsAmong len all (Lex e) = ⊥
StandsAmong len all NoMemory = ⊥

-- it is ambiguous at the token
abbrev pub IsAmbiguousAt : {A : Type 0} → ℕ → Outcome A → Type 0
IsAmbiguousAt at (Ok x) = ⊥
IsAmbiguousAt at (Err e) = e ≡ AmbiguousCall at

abbrev pub CallsOn : {A : Type 0} → Kind → ℕ → Outcome A → Type 0
CallsOn Wide at r = Unit {0}
CallsOn Free at r = Far (at + 1) r
CallsOn Lined at r = IsAmbiguousAt at r
CallsOn Opposed at r = Unit {0}
CallsOn Loose at r = Unit {0}

abbrev pub DeepsOn : {A : Type 0} → Kind → ℕ → Outcome A → Type 0
DeepsOn Wide at r = Unit {0}
DeepsOn Free at r = Far (at + 1) r
DeepsOn Lined at r = Far (at + 1) r
DeepsOn Opposed at r = Far (at + 1) r
DeepsOn Loose at r = Unit {0}

-- what a refusal by the rules of the first says of the second
abbrev pub After : {A : Type 0} → Kind → ℕ → ParseError → Outcome A → Type 0
After kind at (Nesting k) r = k ≡ at → DeepsOn kind at r
After kind at (AmbiguousCall k) r = k ≡ at → CallsOn kind at r
After kind at (Unexpected k) r = ⊥
After kind at (UnexpectedEnd k) r = ⊥
After kind at (Lex e) r = ⊥
After kind at NoMemory r = ⊥

abbrev pub Plain : ParseError → Type 0
Plain (Unexpected k) = Unit {0}
Plain (UnexpectedEnd k) = Unit {0}
Plain (AmbiguousCall k) = ⊥
Plain (Nesting k) = ⊥
Plain (Lex e) = ⊥
Plain NoMemory = ⊥

-- the second may stop where the first goes on
abbrev pub MayStop : Kind → Type 0
MayStop Wide = ⊥
MayStop Free = ⊥
MayStop Lined = ⊥
MayStop Opposed = Unit {0}
MayStop Loose = Unit {0}

-- the second takes a token where the first takes it
abbrev pub Takes : Setting → Setting → Tok → ℕ → Type 0
Takes low high t m = low.rules.may_stand t m ≡ true → high.rules.may_stand t m ≡ true

abbrev pub Calls : Setting → Setting → ℕ → Tok → Type 0
Calls low high l t = low.rules.may_call l t ≡ true → high.rules.may_call l t ≡ true

abbrev pub StandsBy : Kind → ℕ → Setting → Setting → Tok → ℕ → Type 0
StandsBy Wide at low high t m = Takes low high t m
StandsBy Free at low high t m = Takes low high t m × (t.span.start ≡ at → high.rules.may_stand t m ≡ true)
StandsBy Lined at low high t m = Takes low high t m × (t.span.start ≡ at → high.rules.may_stand t m ≡ true)
StandsBy Opposed at low high t m =
    ((t.span.start ≡ at → ⊥) → Takes low high t m) × (t.span.start ≡ at → high.rules.may_stand t m ≡ not (low.rules.may_stand t m))
StandsBy Loose at low high t m = (t.span.start ≡ at → ⊥) → Takes low high t m

abbrev pub CallsBy : Kind → ℕ → Setting → Setting → ℕ → Tok → Type 0
CallsBy Wide at low high l t = Calls low high l t
CallsBy Free at low high l t = Calls low high l t × (t.span.start ≡ at → high.rules.may_call l t ≡ true)
CallsBy Lined at low high l t = Calls low high l t × (t.span.start ≡ at → high.rules.may_call l t ≡ low.rules.may_call l t)
CallsBy Opposed at low high l t = Calls low high l t
CallsBy Loose at low high l t = Calls low high l t

-- two settings
pub record Pair : Type 0 where
  pub kind : Kind
  pub at : ℕ
  pub low : Setting
  pub high : Setting
  pub all : List Tok
  pub bounded : Bounded low
  pub room : low.limit + 2 ≤ high.limit
  pub len : high.len ≡ low.len
  pub stands : (t : Tok) (m : ℕ) → m ≤ low.limit + 2 → StandsBy kind at low high t m
  pub calls : (l : ℕ) (t : Tok) → CallsBy kind at low high l t

module _ (f : Pair) where
  -- the deepest level that the first reaches
  abbrev pub top : ℕ
  top = f.low.limit + 1

  abbrev pub late : ℕ
  late = f.at + 1

  -- where both stand
  pub record Stands (lo hi : ℕ) (p : Place) : Type 0 where
    pub low : lo ≤ p.level
    pub high : p.level ≤ hi
    pub ordered : Tidy f.at p.ahead
    pub among : Among f.all p.ahead
    pub awaits : Awaits f.kind f.at p.ahead

  abbrev pub Fits : ParseError → Type 0
  Fits e = Timely f.kind f.at e × StandsAmong f.low.len f.all e

  abbrev pub SameEnd : {A : Type 0} → ℕ → ℕ → Outcome A → Outcome A → Type 0
  SameEnd lo hi (Ok x) (Ok y) = (x ≡ y) × Stands lo hi x.1
  SameEnd lo hi (Ok x) (Err e) = ⊥
  SameEnd lo hi (Err d) (Ok y) = ⊥
  SameEnd lo hi (Err d) (Err e) = (d ≡ e) × Plain d × Fits d

  abbrev pub LowStops : {A : Type 0} → Outcome A → Outcome A → Type 0
  LowStops (Ok x) r = ⊥
  LowStops (Err e) r = After f.kind f.at e r × Fits e

  abbrev pub HighStops : {A : Type 0} → Outcome A → Outcome A → Type 0
  HighStops o (Ok y) = ⊥
  HighStops o (Err e) = MayStop f.kind × Far late o × (e ≡ Nesting f.at)

  -- both end alike, or the first is stopped by a rule, or the second is
  abbrev pub Rel : {A : Type 0} → ℕ → ℕ → Outcome A → Outcome A → Type 0
  Rel lo hi o r = SameEnd lo hi o r ⊎ (LowStops o r ⊎ HighStops o r)

  -- A parser by both, at levels between two numbers, and up to which level it ends.
  pub record Beside {A : Type 0} (lo hi end : ℕ) (r s : Parser A) : Type 0 where
    pub alike : (p : Place) → Stands lo hi p → Rel lo end (r p) (s p)
    pub low_far : (p : Place) → BeginFrom late p.ahead → Far late (r p)
    pub high_far : (p : Place) → BeginFrom late p.ahead → Far late (s p)

  -- ---- putting parsers together

  calls_then : {A B : Type 0} (kind : Kind) (k : A → Parser B) (r : Outcome A) → ((x : A) (p : Place) → BeginFrom late p.ahead → Far late (k x p)) → CallsOn kind f.at r → CallsOn kind f.at (and_then r k)
  calls_then Wide k r h c = tt
  calls_then Free k r h c = far_then late k r c h
  calls_then Lined k (Ok x) h c = absurd c
  calls_then Lined k (Err e) h c = c
  calls_then Opposed k r h c = tt
  calls_then Loose k r h c = tt

  deeps_then : {A B : Type 0} (kind : Kind) (k : A → Parser B) (r : Outcome A) → ((x : A) (p : Place) → BeginFrom late p.ahead → Far late (k x p)) → DeepsOn kind f.at r → DeepsOn kind f.at (and_then r k)
  deeps_then Wide k r h c = tt
  deeps_then Free k r h c = far_then late k r c h
  deeps_then Lined k r h c = far_then late k r c h
  deeps_then Opposed k r h c = far_then late k r c h
  deeps_then Loose k r h c = tt

  after_then : {A B : Type 0} (k : A → Parser B) (e : ParseError) (r : Outcome A) → ((x : A) (p : Place) → BeginFrom late p.ahead → Far late (k x p)) → After f.kind f.at e r → After f.kind f.at e (and_then r k)
  after_then k (Nesting n) r h c = λ d. deeps_then f.kind k r h (c d)
  after_then k (AmbiguousCall n) r h c = λ d. calls_then f.kind k r h (c d)
  after_then k (Unexpected n) r h c = absurd c
  after_then k (UnexpectedEnd n) r h c = absurd c
  after_then k (Lex e) r h c = absurd c
  after_then k NoMemory r h c = absurd c

  pub rel_then : {A B : Type 0} (lo mid out end : ℕ) (g k : A → Parser B) (o r : Outcome A) → Rel lo mid o r
      → ((x : A) (p : Place) → Stands lo mid p → Rel out end (g x p) (k x p))
      → ((x : A) (p : Place) → BeginFrom late p.ahead → Far late (g x p)) → ((x : A) (p : Place) → BeginFrom late p.ahead → Far late (k x p))
      → Rel out end (and_then o g) (and_then r k)
  rel_then lo mid out end g k (Ok x) (Ok y) (inl h) second low high = subst (λ z. Rel out end (g x.0 x.1) (k z.0 z.1)) h.0 (second x.0 x.1 h.1)
  rel_then lo mid out end g k (Ok x) (Err e) (inl h) second low high = absurd h
  rel_then lo mid out end g k (Err d) (Ok y) (inl h) second low high = absurd h
  rel_then lo mid out end g k (Err d) (Err e) (inl h) second low high = inl h
  rel_then lo mid out end g k (Ok x) r (inr (inl h)) second low high = absurd h
  rel_then lo mid out end g k (Err e) r (inr (inl h)) second low high = inr (inl (after_then k e r high h.0, h.1))
  rel_then lo mid out end g k o (Ok y) (inr (inr h)) second low high = absurd h
  rel_then lo mid out end g k o (Err e) (inr (inr h)) second low high = inr (inr (h.0, far_then late g o h.1 low, h.2))

  pub rel_if : {A : Type 0} (lo end : ℕ) (b : Bool) (o m r n : Outcome A) → (b ≡ true → Rel lo end o r) → (b ≡ false → Rel lo end m n) → Rel lo end (if b then o else m) (if b then r else n)
  rel_if lo end true o m r n h k = h refl
  rel_if lo end false o m r n h k = k refl

  rel_fit : {A : Type 0} (lo mid end : ℕ) → mid ≤ end → (o r : Outcome A) → Rel lo mid o r → Rel lo end o r
  rel_fit lo mid end b (Ok x) (Ok y) (inl h) = inl (h.0, record { low = h.1.low; high = (let c : x.1.level ≤ mid = h.1.high in omega arith); ordered = h.1.ordered; among = h.1.among; awaits = h.1.awaits })
  rel_fit lo mid end b (Ok x) (Err e) (inl h) = absurd h
  rel_fit lo mid end b (Err d) (Ok y) (inl h) = absurd h
  rel_fit lo mid end b (Err d) (Err e) (inl h) = inl h
  rel_fit lo mid end b o r (inr h) = inr h

  pub rel_lower : {A : Type 0} (lo more end : ℕ) → lo ≤ more → (o r : Outcome A) → Rel more end o r → Rel lo end o r
  rel_lower lo more end b (Ok x) (Ok y) (inl h) = inl (h.0, record { low = (let c : more ≤ x.1.level = h.1.low in omega arith); high = h.1.high; ordered = h.1.ordered; among = h.1.among; awaits = h.1.awaits })
  rel_lower lo more end b (Ok x) (Err e) (inl h) = absurd h
  rel_lower lo more end b (Err d) (Ok y) (inl h) = absurd h
  rel_lower lo more end b (Err d) (Err e) (inl h) = inl h
  rel_lower lo more end b o r (inr h) = inr h

  -- one parser, and then another
  pub both : {A B : Type 0} {lo hi mid end : ℕ} {r s : Parser A} {g k : A → Parser B} → Beside lo hi mid r s → ((x : A) → Beside lo mid end (g x) (k x)) → Beside lo hi end (r >>= g) (s >>= k)
  both {lo = lo} {mid = mid} {end = end} {r = r} {s = s} {g = g} {k = k} h second = record {
    alike = λ p i. rel_then lo mid lo end g k (r p) (s p) (h.alike p i) (λ x. (second x).alike) (λ x. (second x).low_far) (λ x. (second x).high_far);
    low_far = λ p b. far_then late g (r p) (h.low_far p b) (λ x. (second x).low_far);
    high_far = λ p b. far_then late k (s p) (h.high_far p b) (λ x. (second x).high_far);
  }

  -- one of two, by a test
  pub choose : {A : Type 0} {lo hi end : ℕ} {r s t v : Parser A} (c : Place → Bool) → Beside lo hi end r s → Beside lo hi end t v → Beside lo hi end (λ p. if c p then r p else t p) (λ p. if c p then s p else v p)
  choose {lo = lo} {end = end} {r = r} {s = s} {t = t} {v = v} c h k = record {
    alike = λ p i. rel_if lo end (c p) (r p) (t p) (s p) (v p) (λ _. h.alike p i) (λ _. k.alike p i);
    low_far = λ p b. far_if late (c p) (r p) (t p) (h.low_far p b) (k.low_far p b);
    high_far = λ p b. far_if late (c p) (s p) (v p) (h.high_far p b) (k.high_far p b);
  }

  -- of fewer levels, and up to more
  pub within : {A : Type 0} {lo hi end : ℕ} {r s : Parser A} (fewer more : ℕ) → fewer ≤ hi → end ≤ more → Beside lo hi end r s → Beside lo fewer more r s
  within {lo = lo} {hi = hi} {end = end} {r = r} {s = s} fewer more a b h = record {
    alike = λ p i. rel_fit lo end more b (r p) (s p) (h.alike p (record { low = i.low; high = (let c : p.level ≤ fewer = i.high in omega arith); ordered = i.ordered; among = i.among; awaits = i.awaits }));
    low_far = h.low_far;
    high_far = h.high_far;
  }

  -- chosen by what a place says
  pub by_place : {A C : Type 0} {lo hi end : ℕ} (c : Place → C) (g k : C → Parser A) → ((x : C) → Beside lo hi end (g x) (k x)) → Beside lo hi end (λ p. g (c p) p) (λ p. k (c p) p)
  by_place c g k h = record { alike = λ p i. (h (c p)).alike p i; low_far = λ p b. (h (c p)).low_far p b; high_far = λ p b. (h (c p)).high_far p b }

  -- what a place says
  pub given : {C : Type 0} {lo hi : ℕ} (c : Place → C) → Beside lo hi hi (λ p. Ok (c p, p)) (λ p. Ok (c p, p))
  given c = record { alike = λ p i. inl (refl, i); low_far = λ p b. b; high_far = λ p b. b }

  pub done : {A : Type 0} {lo hi : ℕ} (x : A) → Beside lo hi hi (pure x) (pure x)
  done x = given (λ _. x)

  pub at_start : {lo hi : ℕ} → Beside lo hi hi start start
  at_start = given start_of

  pub at_last : {lo hi : ℕ} → Beside lo hi hi last last
  at_last = given (λ p. p.last)

  pub at_span : {lo hi : ℕ} (from : ℕ) → Beside lo hi hi (span_from from) (span_from from)
  at_span from = given (λ p. record { start = from; end = p.last })

  pub to_level : {lo hi : ℕ} (end m : ℕ) → lo ≤ m → m ≤ end → Beside lo hi end (set_level m) (set_level m)
  to_level end m a b = record { alike = λ p i. inl (refl, record { low = a; high = b; ordered = i.ordered; among = i.among; awaits = i.awaits }); low_far = λ p b. b; high_far = λ p b. b }

  -- with the level of a place
  pub with_level : {A : Type 0} {lo hi end : ℕ} (g k : ℕ → Parser A) → ((m : ℕ) → lo ≤ m → m ≤ hi → Beside lo hi end (g m) (k m))
      → ((p : Place) → BeginFrom late p.ahead → Far late (g p.level p)) → ((p : Place) → BeginFrom late p.ahead → Far late (k p.level p))
      → Beside lo hi end (λ p. g p.level p) (λ p. k p.level p)
  with_level g k h low high = record { alike = λ p i. (h (p.level) i.low i.high).alike p i; low_far = low; high_far = high }
