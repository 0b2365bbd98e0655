-- With enough levels the parser of a module stops at no token for the levels or the lines.
use Rattle.std.proofs.Common.{◌≡◌, ℕ, zero, suc, ◌+◌, ◌≤◌, true, List, [], ◌∷◌, refl, sym, subst, inl, inr, arith}
use Rattle.std.specs.Prelude.{Ok, Err}
use Rattle.luau_tree.specs.Tree.{Block}
use Rattle.luau_lex.specs.Tokens.{Tok}
use Rattle.luau_grammar.specs.declared.error.ParseError.{ParseError}
use Rattle.luau_grammar.specs.declared.error.ParseError.TheVariants.{Lex, NoMemory, Unexpected, UnexpectedEnd, AmbiguousCall, Nesting}
use Rattle.luau_grammar.specs.Places.{Place}
use Rattle.luau_grammar.specs.Reading.{Outcome}
use Rattle.grammar_faults.specs.Fronts.{BeginFrom}
use Rattle.grammar_faults.proofs.Local.{IsLate, Far}
use Rattle.wider_rules.specs.Order.{Has, Ordered}
use Rattle.wider_rules.proofs.Beside.{Pair, Plain, Tidy, Rel}
use Rattle.wider_rules.proofs.Runs.{Test, run, run_rel, wider, sum_of, has_sum, stands_among, among_all}

-- ---- orders

has_behind : (at b : ℕ) (ts : List Tok) → Has at ts → BeginFrom b ts → b ≤ at
has_behind at b [] h k = absurd h
has_behind at b (t ∷ ts) (inl e) k = omega arith
has_behind at b (t ∷ ts) (inr h) k = has_behind at b ts h k.1

pub tidy_of : (at : ℕ) (ts : List Tok) → Ordered ts → Tidy at ts
tidy_of at [] o = tt
tidy_of at (t ∷ ts) o =
    ((λ e. subst (λ z. BeginFrom (z + 1) ts) e o.0), (λ h. let c : t.span.start + 1 ≤ at = has_behind at (t.span.start + 1) ts h o.0 in omega arith), tidy_of at ts o.1)

pub begin_less : (a b : ℕ) (ts : List Tok) → a ≤ b → BeginFrom b ts → BeginFrom a ts
begin_less a b [] h k = tt
begin_less a b (t ∷ ts) h k = ((let x : a ≤ t.span.start = omega arith in x), begin_less a b ts h k.1)

late_less : (a b : ℕ) (e : ParseError) → a ≤ b → IsLate b e → IsLate a e
late_less a b (Unexpected n) h k = omega arith
late_less a b (UnexpectedEnd n) h k = tt
late_less a b (AmbiguousCall n) h k = omega arith
late_less a b (Nesting n) h k = omega arith
late_less a b (Lex e) h k = tt
late_less a b NoMemory h k = tt

pub far_less : (a b : ℕ) (o : Outcome Block) → a ≤ b → Far b o → Far a o
far_less a b (Ok x) h k = begin_less a b x.1.ahead h k
far_less a b (Err e) h k = late_less a b e h k

-- ---- a fault of the rules is passed with more levels

abbrev pub NoRule : Outcome Block → Type 0
NoRule (Ok x) = Unit {0}
NoRule (Err e) = Plain e

module _ (c d : Test) (calls : (l : ℕ) (t : Tok) → c l t ≡ true → d l t ≡ true) (len deep more : ℕ) (room : deep + 2 ≤ more) (at : ℕ)
    (begins : (l : ℕ) (t : Tok) → t.span.start ≡ at → d l t ≡ true) (ts : List Tok) (tidy : Tidy at ts) where
  abbrev f : Pair
  f = wider c d calls len deep more room at begins ts

  deep_far : (r : Outcome Block) → Rel f {A = Block} 0 deep (Err (Nesting at)) r → Far (at + 1) r
  deep_far (Ok y) (inl h) = absurd h
  deep_far (Err m) (inl h) = absurd h.1
  deep_far r (inr (inl h)) = h.0 refl
  deep_far (Ok y) (inr (inr h)) = absurd h
  deep_far (Err m) (inr (inr h)) = absurd h.0

  call_far : (r : Outcome Block) → Rel f {A = Block} 0 deep (Err (AmbiguousCall at)) r → Far (at + 1) r
  call_far (Ok y) (inl h) = absurd h
  call_far (Err m) (inl h) = absurd h.1
  call_far r (inr (inl h)) = h.0 refl
  call_far (Ok y) (inr (inr h)) = absurd h
  call_far (Err m) (inr (inr h)) = absurd h.0

  pub passes_deep : run c len deep ts ≡ Err (Nesting at) → Far (at + 1) (run d len more ts)
  passes_deep e =
      deep_far (run d len more ts)
      (subst (λ z. Rel f 0 deep z (run d len more ts)) e (run_rel c d calls len deep more room at begins ts ts tidy (among_all ts)))

  pub passes_call : run c len deep ts ≡ Err (AmbiguousCall at) → Far (at + 1) (run d len more ts)
  passes_call e =
      call_far (run d len more ts)
      (subst (λ z. Rel f 0 deep z (run d len more ts)) e (run_rel c d calls len deep more room at begins ts ts tidy (among_all ts)))

-- with enough levels, and calls that are free from an offset on, no rule stops the parser from there on
pub record Settled (c : Test) (len bound : ℕ) (ts : List Tok) : Type 0 where
  pub more : ℕ
  pub far : Far bound (run c len more ts)
  pub plain : NoRule (run c len more ts)

module _ (c : Test) (len bound : ℕ) (free : (l : ℕ) (t : Tok) → bound ≤ t.span.start → c l t ≡ true) (ts : List Tok) (order : Ordered ts) where
  settled : (deep : ℕ) (o : Outcome Block) → run c len deep ts ≡ o → Far bound o → NoRule o → Settled c len bound ts
  settled deep o e h k = record { more = deep; far = subst (λ z. Far bound z) (sym e) h; plain = subst NoRule (sym e) k }

  deep_stands : (deep n : ℕ) → run c len deep ts ≡ Err (Nesting n) → n ≤ sum_of ts
  deep_stands deep n e = has_sum n ts (stands_among c c (λ _ _ z. z) len deep (deep + 2) (omega arith) ts (Nesting n) e)

  call_stands : (deep n : ℕ) → run c len deep ts ≡ Err (AmbiguousCall n) → n ≤ sum_of ts
  call_stands deep n e = has_sum n ts (stands_among c c (λ _ _ z. z) len deep (deep + 2) (omega arith) ts (AmbiguousCall n) e)

  pub settle : (fuel deep b : ℕ) → bound ≤ b → sum_of ts + 1 ≤ fuel + b → (o : Outcome Block) → run c len deep ts ≡ o → Far b o → Settled c len bound ts
  settle fuel deep b h k (Ok x) e far = settled deep (Ok x) e (begin_less bound b x.1.ahead h far) tt
  settle fuel deep b h k (Err (Unexpected n)) e far = settled deep (Err (Unexpected n)) e (let x : bound ≤ n = omega arith in x) tt
  settle fuel deep b h k (Err (UnexpectedEnd n)) e far = settled deep (Err (UnexpectedEnd n)) e tt tt
  settle fuel deep b h k (Err (Lex d)) e far = absurd (stands_among c c (λ _ _ z. z) len deep (deep + 2) (omega arith) ts (Lex d) e)
  settle fuel deep b h k (Err NoMemory) e far = absurd (stands_among c c (λ _ _ z. z) len deep (deep + 2) (omega arith) ts NoMemory e)
  settle zero deep b h k (Err (Nesting n)) e far = let s = deep_stands deep n e in absurd (omega arith)
  settle zero deep b h k (Err (AmbiguousCall n)) e far = let s = call_stands deep n e in absurd (omega arith)
  settle (suc fuel) deep b h k (Err (Nesting n)) e far =
      settle fuel (deep + 2) (n + 1) (omega arith) (omega arith) (run c len (deep + 2) ts) refl
      (passes_deep c c (λ _ _ z. z) len deep (deep + 2) (omega arith) n (λ l t d. free l t (omega arith)) ts (tidy_of n ts order) e)
  settle (suc fuel) deep b h k (Err (AmbiguousCall n)) e far =
      settle fuel (deep + 2) (n + 1) (omega arith) (omega arith) (run c len (deep + 2) ts) refl
      (passes_call c c (λ _ _ z. z) len deep (deep + 2) (omega arith) n (λ l t d. free l t (omega arith)) ts (tidy_of n ts order) e)

  pub settle_from : (deep : ℕ) → Far bound (run c len deep ts) → Settled c len bound ts
  settle_from deep h = settle (sum_of ts + 1) deep bound (omega arith) (omega arith) (run c len deep ts) refl h
