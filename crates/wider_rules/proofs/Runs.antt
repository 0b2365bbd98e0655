-- What the parser of a module does at all levels, and with other rules on arguments.
use Rattle.std.proofs.Common.{◌≡◌, ℕ, suc, ◌+◌, ◌≤◌, ◌<◌, Bool, true, List, [], ◌∷◌, refl, sym, ap, subst, inl, inr, arith, leb-true, le-leb}
use Rattle.std.specs.Prelude.{Ok, Err, nat_le}
use Rattle.luau_tree.specs.Tree.{Block}
use Rattle.luau_lex.specs.Tokens.{Tok}
use Rattle.luau_grammar.specs.declared.error.ParseError.{ParseError}
use Rattle.luau_grammar.specs.declared.error.ParseError.TheVariants.{Lex, NoMemory, Unexpected, UnexpectedEnd, AmbiguousCall, Nesting}
use Rattle.luau_grammar.specs.Places.{Place, Rules}
use Rattle.luau_grammar.specs.Modules.{IsBare, before, up_to}
use Rattle.luau_grammar.specs.Reading.{Setting, Outcome}
use Rattle.luau_grammar.specs.ReadModules.{module_with}
use Rattle.luau_grammar.proofs.Agreement.{Bounded}
use Rattle.luau_grammar.proofs.Families.{read_is_bare, bare_is_read}
use Rattle.wider_rules.specs.Order.{Has}
use Rattle.wider_rules.proofs.Beside.{Wide, Free, MayStop, Pair, Plain, StandsAmong, Tidy, Among, Rel}
use Rattle.wider_rules.proofs.BesideModules.{module_rel}

-- which tokens may begin arguments
abbrev pub Test : Type 0
Test = ℕ → Tok → Bool

abbrev pub rules_by : Test → ℕ → Rules
rules_by c deep = record { may_stand = λ t m. nat_le m deep; may_call = c }

-- tokens at levels up to a number, and arguments by a test
abbrev pub setting_by : Test → ℕ → ℕ → Setting
setting_by c len deep = record { rules = rules_by c deep; limit = deep; len = len }

pub bounded_by : (c : Test) (len deep : ℕ) → Bounded (setting_by c len deep)
bounded_by c len deep t m h = leb-true m deep h

abbrev pub anywhere : Test
anywhere l t = true

-- what the parser does with all levels up to a number
abbrev pub run : Test → ℕ → ℕ → List Tok → Outcome Block
run c len deep ts = module_with (setting_by c len deep) (deep + 2) (before ts)

-- ---- orders

abbrev pub sum_of : List Tok → ℕ
sum_of [] = 0
sum_of (t ∷ ts) = t.span.start + sum_of ts

abbrev Below : ℕ → List Tok → Type 0
Below n [] = Unit {0}
Below n (t ∷ ts) = (t.span.start < n) × Below n ts

below_more : (n m : ℕ) (ts : List Tok) → n ≤ m → Below n ts → Below m ts
below_more n m [] h b = tt
below_more n m (t ∷ ts) h b = ((let x : t.span.start < m = omega arith in x), below_more n m ts h b.1)

below_sum : (ts : List Tok) → Below (sum_of ts + 1) ts
below_sum [] = tt
below_sum (t ∷ ts) =
    ((let x : t.span.start < t.span.start + sum_of ts + 1 = omega arith in x), below_more (sum_of ts + 1) (t.span.start + sum_of ts + 1) ts (omega arith) (below_sum ts))

tidy_below : (n : ℕ) (ts : List Tok) → Below n ts → Tidy n ts
tidy_below n [] b = tt
tidy_below n (t ∷ ts) b = ((λ e. absurd (omega arith)), (λ _. omega arith), tidy_below n ts b.1)

pub tidy_above : (ts : List Tok) → Tidy (sum_of ts + 1) ts
tidy_above ts = tidy_below (sum_of ts + 1) ts (below_sum ts)

among_more : (t : Tok) (all ts : List Tok) → Among all ts → Among (t ∷ all) ts
among_more t all [] h = tt
among_more t all (u ∷ us) h = (inr h.0, among_more t all us h.1)

pub among_all : (ts : List Tok) → Among ts ts
among_all [] = tt
among_all (t ∷ ts) = (inl refl, among_more t ts ts (among_all ts))

pub has_sum : (at : ℕ) (ts : List Tok) → Has at ts → at ≤ sum_of ts
has_sum at [] h = absurd h
has_sum at (t ∷ ts) (inl e) = omega arith
has_sum at (t ∷ ts) (inr h) = let c : at ≤ sum_of ts = has_sum at ts h in omega arith

-- ---- what two outcomes say of one another

module _ (f : Pair) (A : Type 0) (lo hi : ℕ) (quiet : MayStop f.kind → ⊥) where
  -- what the first reads, the second reads
  pub ok_same : (x : A × Place) (r : Outcome A) → Rel f lo hi (Ok x) r → r ≡ Ok x
  ok_same x (Ok y) (inl h) = ap (λ z. Ok z) (sym h.0)
  ok_same x (Err e) (inl h) = absurd h
  ok_same x r (inr (inl h)) = absurd h
  ok_same x (Ok y) (inr (inr h)) = absurd h
  ok_same x (Err e) (inr (inr h)) = absurd (quiet h.0)

  -- what the first refuses by the grammar alone, the second refuses
  pub plain_same : (e : ParseError) (r : Outcome A) → Plain e → Rel f lo hi (Err e) r → r ≡ Err e
  plain_same e (Ok y) k (inl h) = absurd h
  plain_same e (Err d) k (inl h) = ap (λ z. Err z) (sym h.0)
  plain_same (Unexpected n) r k (inr (inl h)) = absurd h.0
  plain_same (UnexpectedEnd n) r k (inr (inl h)) = absurd h.0
  plain_same (AmbiguousCall n) r k (inr (inl h)) = absurd k
  plain_same (Nesting n) r k (inr (inl h)) = absurd k
  plain_same (Lex d) r k (inr (inl h)) = absurd k
  plain_same NoMemory r k (inr (inl h)) = absurd k
  plain_same e (Ok y) k (inr (inr h)) = absurd h
  plain_same e (Err d) k (inr (inr h)) = absurd (quiet h.0)

  pub fault_among : (e : ParseError) (r : Outcome A) → Rel f lo hi (Err e) r → StandsAmong f.low.len f.all e
  fault_among e (Ok y) (inl h) = absurd h
  fault_among e (Err d) (inl h) = h.2.1
  fault_among e r (inr (inl h)) = h.1.1
  fault_among e (Ok y) (inr (inr h)) = absurd h
  fault_among e (Err d) (inr (inr h)) = absurd (quiet h.0)

-- ---- more levels, and more calls

module _ (c d : Test) (calls : (l : ℕ) (t : Tok) → c l t ≡ true → d l t ≡ true) (len deep more : ℕ) (room : deep + 2 ≤ more) (at : ℕ)
    (begins : (l : ℕ) (t : Tok) → t.span.start ≡ at → d l t ≡ true) (all : List Tok) where
  abbrev pub wider : Pair
  wider = record {
    kind = Free;
    at = at;
    low = setting_by c len deep;
    high = setting_by d len more;
    all = all;
    bounded = bounded_by c len deep;
    room = room;
    len = refl;
    stands = λ t m h. ((λ _. le-leb m more (omega arith)), (λ _. le-leb m more (omega arith)));
    calls = λ l t. (calls l t, begins l t);
  }

  depth : (k : ℕ) (ts : List Tok) → k ≡ more + 2 → module_with (setting_by d len more) k (before ts) ≡ run d len more ts
  depth k ts e = ap (λ z. module_with (setting_by d len more) z (before ts)) e

  pub run_rel : (ts : List Tok) → Tidy at ts → Among all ts → Rel wider 0 deep (run c len deep ts) (run d len more ts)
  run_rel ts o g =
      subst (λ r. Rel wider 0 deep (run c len deep ts) r) (depth (suc (more + 1)) ts (omega arith))
      (module_rel wider (deep + 2) (more + 1) (omega arith) (omega arith) ts o g tt)

-- the same with no token at which they differ
module _ (c d : Test) (calls : (l : ℕ) (t : Tok) → c l t ≡ true → d l t ≡ true) (len deep more : ℕ) (room : deep + 2 ≤ more) (ts : List Tok) where
  abbrev pub widest : Pair
  widest = record {
    kind = Wide;
    at = sum_of ts + 1;
    low = setting_by c len deep;
    high = setting_by d len more;
    all = ts;
    bounded = bounded_by c len deep;
    room = room;
    len = refl;
    stands = λ t m h _. le-leb m more (omega arith);
    calls = λ l t. calls l t;
  }

  widest_depth : (k : ℕ) → k ≡ more + 2 → module_with (setting_by d len more) k (before ts) ≡ run d len more ts
  widest_depth k e = ap (λ z. module_with (setting_by d len more) z (before ts)) e

  pub widest_rel : Rel widest 0 deep (run c len deep ts) (run d len more ts)
  widest_rel =
      subst (λ r. Rel widest 0 deep (run c len deep ts) r) (widest_depth (suc (more + 1)) (omega arith))
      (module_rel widest (deep + 2) (more + 1) (omega arith) (omega arith) ts (tidy_above ts) (among_all ts) tt)

  pub still_read : (x : Block × Place) → run c len deep ts ≡ Ok x → run d len more ts ≡ Ok x
  still_read x e = ok_same widest Block 0 deep (λ z. z) x (run d len more ts) (subst (λ z. Rel widest 0 deep z (run d len more ts)) e widest_rel)

  pub still_refused : (e : ParseError) → Plain e → run c len deep ts ≡ Err e → run d len more ts ≡ Err e
  still_refused e k h = plain_same widest Block 0 deep (λ z. z) e (run d len more ts) k (subst (λ z. Rel widest 0 deep z (run d len more ts)) h widest_rel)

  pub stands_among : (e : ParseError) → run c len deep ts ≡ Err e → StandsAmong len ts e
  stands_among e h = fault_among widest Block 0 deep (λ z. z) e (run d len more ts) (subst (λ z. Rel widest 0 deep z (run d len more ts)) h widest_rel)

  -- a tree by some rules is one by wider ones
  pub wider_tree : (b : Block) → IsBare (rules_by c deep) ts b → IsBare (rules_by d more) ts b
  wider_tree b h =
      let r = bare_is_read (setting_by c len deep) (bounded_by c len deep) (deep + 2) (omega arith) ts b h in
      read_is_bare (setting_by d len more) (bounded_by d len more) (more + 2) ts b r.0 (still_read (b, r.0) r.1)

-- ---- no tree

not_both : (o : Outcome Block) (x : Block × Place) (e : ParseError) → o ≡ Ok x → o ≡ Err e → ⊥
not_both o x e h k = absurd (cc)

-- tokens that are refused by the grammar alone have no tree by wider rules
pub no_tree_at_all : (c : Test) (len deep : ℕ) (ts : List Tok) (e : ParseError) → Plain e → run c len deep ts ≡ Err e → (more : ℕ) (b : Block) → IsBare (up_to more) ts b → ⊥
no_tree_at_all c len deep ts e k h more b tree =
    let most = deep + more + 2 in
    let r = bare_is_read (setting_by anywhere len most) (bounded_by anywhere len most) (most + 2) (omega arith) ts b (wider_tree anywhere anywhere (λ _ _ z. z) len more most (omega arith) ts b tree) in
    not_both (run anywhere len most ts) (b, r.0) e r.1 (still_refused c anywhere (λ _ _ _. refl) len deep most (omega arith) ts e k h)

pub more_levels : (deep more : ℕ) → deep + 2 ≤ more → (ts : List Tok) (b : Block) → IsBare (up_to deep) ts b → IsBare (up_to more) ts b
more_levels deep more h ts b = wider_tree anywhere anywhere (λ _ _ z. z) 0 deep more h ts b
