-- What writes leave, backward: what locals hold after them, which contexts last, and that a base which can't be written was none of theirs.
use Rattle.std.proofs.Common.{◌≡◌, ℕ, zero, suc, ◌<◌, ◌==◌, Bool, true, false, not, ◌&&◌, ◌||◌, if◌then◌else◌, List, [], ◌∷◌, length, Option, Some, None, ◌⊎◌, inl, inr, refl, sym, ◌∙◌, ap, subst, arith, slice_get, slice_set, drop}
use Rattle.std.specs.List.{AllByRecursion, filter_map}
use Rattle.std.proofs.lemmas.Option.{slice_get_within}
use Rattle.luau_values.specs.Value.{Value}
use Rattle.luau_values.specs.Heap.{Heap}
use Rattle.luau_tree.specs.Tree.{Exprs, no_exprs, more_exprs}
use Rattle.luau_run.specs.ReadFolder.{is_among, are_distinct}
use Rattle.luau_run.specs.Machine.{State, Gave, go_on, ◌>>=◌, give, spend, look, change}
use Rattle.luau_run.specs.Layer.{Frame, first}
use Rattle.luau_run.specs.Expressions.{cell_of, cell_or_spend}
use Rattle.luau_run.specs.Statements.{Target, LocalTarget, GlobalTarget, FieldTarget, ElementTarget, write_to, write_all}
use Rattle.type_arena.specs.Term.{Term, never}
use Rattle.type_normal.specs.Holds.{holds}
use Rattle.type_normal.specs.HeapFree.{strip, strip_at, free_of_name}
use Rattle.type_normal.specs.Failing.{write_fail}
use Rattle.type_normal.proofs.Public.{never_none, strip_below, strip_at_below, strip_free, heap_free_of, strip_at_of, strip_at_keeps}
use Rattle.report_rules.specs.Effects.{OfLocal, OfGlobal, OfField, OfElement}
use Rattle.report_rules.specs.Effects as rules_say
use Rattle.report_rules.specs.Context.{Context, without, stripped, stripped_at}
use Rattle.report_rules.specs.Statements.{before_writes, for_values}
use Rattle.run_frame.specs.Analysis.{Analysis}
use Rattle.run_frame.specs.Fit.{local_target}
use Rattle.run_frame.proofs.World.{World, set_length, set_elsewhere}
use Rattle.run_frame.proofs.Fine.{IsBoundWell}
use Rattle.run_frame.proofs.Held.{Reads, HasOwner, bound_well, Violated}
use Rattle.run_frame.proofs.Parts.{gave_then, gave_same, gave_not_spent}
use Rattle.run_frame.proofs.Cells.{assigned}
use Rattle.reports_certain.proofs.Writes.{set_same, cells_apart}
use Rattle.reports_certain.proofs.FieldWrites.{Stored, IsFreeOf, type_stored, reads_stored, Names, Meets, base_in, table_gave}
use Rattle.reports_certain.proofs.ManyWrites.{NamedIn, AllMeet}

clash : {P : Type 0} (b : Bool) → b ≡ true → b ≡ false → P
clash b p q = cc

in_never : (h : Heap) (v : Value) (P : Type 0) → holds h v never ≡ true → P
in_never h v P e = clash (holds h v never) e (never_none h v)

-- the locals among targets
abbrev pub locals_in : List rules_say.Target → List ℕ
locals_in rs = filter_map local_target rs

-- ---- a base that can't be written

abbrev pub IsBad : Heap → Target → Type 0
IsBad heap (FieldTarget b name) = holds heap b.value write_fail ≡ true
IsBad heap (ElementTarget b key) = holds heap b.value write_fail ≡ true
IsBad heap goal = ⊥

abbrev pub SomeBad : Heap → List Target → Type 0
SomeBad heap [] = ⊥
SomeBad heap (goal ∷ goals) = IsBad heap goal ⊎ SomeBad heap goals

-- it stays one where all that holds in later heaps lasts
pub bad_moved : (h g : Heap) (goal : Target) → ((v : Value) → holds h v write_fail ≡ true → holds g v write_fail ≡ true) → IsBad h goal → IsBad g goal
bad_moved h g (FieldTarget b name) lasts e = lasts b.value e
bad_moved h g (ElementTarget b key) lasts e = lasts b.value e
bad_moved h g (LocalTarget x) lasts e = e
bad_moved h g GlobalTarget lasts e = e

pub some_bad_moved : (h g : Heap) (goals : List Target) → ((v : Value) → holds h v write_fail ≡ true → holds g v write_fail ≡ true) → SomeBad h goals → SomeBad g goals
some_bad_moved h g [] lasts e = e
some_bad_moved h g (goal ∷ goals) lasts (inl e) = inl (bad_moved h g goal lasts e)
some_bad_moved h g (goal ∷ goals) lasts (inr e) = inr (some_bad_moved h g goals lasts e)

-- ---- what writes leave

-- the bindings, what was logged, and what other locals hold; types that are free of the written names last; and no base was bad
pub record Wrote (frame : Frame) (rs : List rules_say.Target) (goals : List Target) (s t : State) : Type 0 where
  pub bindings : t.store.bindings ≡ s.store.bindings
  pub trace : t.trace ≡ s.trace
  pub owned : length t.store.cells ≡ length s.store.cells
  pub others : (y c : ℕ) (u : Value) → is_among y (locals_in rs) ≡ false → Reads frame s y c u → Reads frame t y c u
  pub lasts : (u : Value) (type : Term) → IsFreeOf (NamedIn rs) type → holds s.store.heap u type ≡ true → holds t.store.heap u type ≡ true
  pub good : SomeBad s.store.heap goals → ⊥

-- a local was written
pub local_gave : (frame : Frame) (x : ℕ) (v : Value) (s t : State) (y : Unit {0}) → write_to frame (LocalTarget x) v s ≡ Gave y t
    → (c : ℕ) × (cell_of s.store.bindings frame.activation x ≡ Some c) × (t ≡ assigned c v s)
unfolding ◌>>=◌ give spend look change
local_gave frame x v s t y = by_cell (cell_of s.store.bindings frame.activation x) refl
  where
    by_cell : (o : Option ℕ) → cell_of s.store.bindings frame.activation x ≡ o → go_on (cell_or_spend o s) (λ cell t. Gave (tt {0}) (assigned cell v t)) ≡ Gave y t
        → (c : ℕ) × (cell_of s.store.bindings frame.activation x ≡ Some c) × (t ≡ assigned c v s)
    by_cell None e q = absurd (gave_not_spent s t y q)
    by_cell (Some c) e q = (c, e, sym (gave_same (tt {0}) y (assigned c v s) t q).1)

different : (m n : ℕ) → (m == n) ≡ false → m ≡ n → ⊥
different m n e q = clash (m == n) (subst (λ (k : ℕ). (m == k) ≡ true) q (itself m)) e
  where
    itself : (k : ℕ) → (k == k) ≡ true
    itself k = grind arith

-- other locals read as before
reads_assigned : (an : Analysis) (w : World) (frame : Frame) (s : State) (x c : ℕ) (v : Value) (z d : ℕ) (u : Value) → AllByRecursion (IsBoundWell an w) s.store.bindings
    → cell_of s.store.bindings frame.activation x ≡ Some c → (z == x) ≡ false → Reads frame s z d u → Reads frame (assigned c v s) z d u
reads_assigned an w frame s x c v z d u bound cell n h = (h.0, by_place (set_elsewhere s.store.cells c d v))
  where
    by_place : (slice_get (slice_set s.store.cells c v) d ≡ slice_get s.store.cells d) ⊎ (c ≡ d) → slice_get (slice_set s.store.cells c v) d ≡ Some u
    by_place (inl k) = k ∙ h.1
    by_place (inr k) = absurd (different z x n (cells_apart an w frame.activation z x c s.store.bindings bound
        (subst (λ (j : ℕ). cell_of s.store.bindings frame.activation z ≡ Some j) (sym k) h.0) cell))

-- and the local as what was written
here_assigned : (an : Analysis) (w : World) (frame : Frame) (s : State) (x c : ℕ) (v : Value) → AllByRecursion (IsBoundWell an w) s.store.bindings → length w.owners ≡ length s.store.cells
    → cell_of s.store.bindings frame.activation x ≡ Some c → Reads frame (assigned c v s) x c v
here_assigned an w frame s x c v bound owned cell = (cell, in_range)
  where
    get_there : {A : Type 0} (xs : List A) (i : ℕ) → i < length xs → (z : A) × (slice_get xs i ≡ Some z)
    get_there [] i l = absurd (omega (arith, l))
    get_there (z ∷ xs) zero l = (z, refl)
    get_there (z ∷ xs) (suc i) l = get_there xs i (omega (arith, l))

    in_range : slice_get (slice_set s.store.cells c v) c ≡ Some v
    in_range = let o : HasOwner an w frame.activation x c = bound_well an w frame.activation x c s.store.bindings bound cell in
        let p : (z : Value) × (slice_get s.store.cells c ≡ Some z) = get_there s.store.cells c (subst (λ (j : ℕ). c < j) owned (slice_get_within w.owners c o.0 o.1)) in
        set_same s.store.cells c v p.0 p.1

first_none : (a b : Bool) → a || b ≡ false → (a ≡ false) × (b ≡ false)
first_none true b e = cc
first_none false b e = (refl, e)

free_first : (r : rules_say.Target) (rs : List rules_say.Target) (type : Term) → IsFreeOf (NamedIn (r ∷ rs)) type → IsFreeOf (Names r) type
free_first r rs type free name k = free name (inl k)

table_wrote : (frame : Frame) (r : rules_say.Target) (goal : Target) (s t : State) (v : Value) → (IsBad s.store.heap goal → holds s.store.heap (base_in goal) write_fail ≡ true)
    → Stored (Names r) s (base_in goal) v t → Wrote frame (r ∷ []) (goal ∷ []) s t
table_wrote frame r goal s t v bad p = record {
  bindings = p.bindings;
  trace = p.trace;
  owned = ap (λ (cs : List Value). length cs) p.cells;
  others = λ y c u n q. reads_stored (Names r) frame s (base_in goal) v t y c u p q;
  lasts = λ u type free h. type_stored (Names r) s (base_in goal) v t u type p (free_first r [] type free) h;
  good = λ k. by_bad k;
}
  where
    by_bad : SomeBad s.store.heap (goal ∷ []) → ⊥
    by_bad (inl k) = clash (holds s.store.heap (base_in goal) write_fail) (bad k) p.writable
    by_bad (inr k) = k

none_bad : (heap : Heap) (goal : Target) → (IsBad heap goal → ⊥) → SomeBad heap (goal ∷ []) → ⊥
none_bad heap goal n (inl k) = n k
none_bad heap goal n (inr k) = k

-- one write that gave
pub one_wrote : (an : Analysis) (w : World) (frame : Frame) (r : rules_say.Target) (goal : Target) (s t : State) (v : Value) (y : Unit {0}) → AllByRecursion (IsBoundWell an w) s.store.bindings
    → Meets r goal → write_to frame goal v s ≡ Gave y t → Wrote frame (r ∷ []) (goal ∷ []) s t
unfolding give
one_wrote an w frame (OfLocal x) (LocalTarget z) s t v y bound met e = by_local (local_gave frame z v s t y e)
  where
    by_local : (c : ℕ) × (cell_of s.store.bindings frame.activation z ≡ Some c) × (t ≡ assigned c v s) → Wrote frame (OfLocal x ∷ []) (LocalTarget z ∷ []) s t
    by_local (c, cell, q) = subst (λ (u : State). Wrote frame (OfLocal x ∷ []) (LocalTarget z ∷ []) s u) (sym q) (record {
      bindings = refl;
      trace = refl;
      owned = set_length s.store.cells c v;
      others = λ i d u n h. reads_assigned an w frame s x c v i d u bound (subst (λ (j : ℕ). cell_of s.store.bindings frame.activation j ≡ Some c) met cell)
          (first_none (i == x) false n).0 h;
      lasts = λ u type free h. h;
      good = λ k. none_bad s.store.heap (LocalTarget z) (λ b. b) k;
    })
one_wrote an w frame OfGlobal GlobalTarget s t v y bound met e = subst (λ (u : State). Wrote frame (OfGlobal ∷ []) (GlobalTarget ∷ []) s u) (gave_same (tt {0}) y s t e).1 (record {
  bindings = refl;
  trace = refl;
  owned = refl;
  others = λ i d u n h. h;
  lasts = λ u type free h. h;
  good = λ k. none_bad s.store.heap GlobalTarget (λ b. b) k;
})
one_wrote an w frame (OfField o name) (FieldTarget b other) s t v y bound met e =
    table_wrote frame (OfField o name) (FieldTarget b other) s t v (λ k. k) (table_gave s t frame (OfField o name) (FieldTarget b other) v y met tt e)
one_wrote an w frame (OfField o name) (ElementTarget b key) s t v y bound met e =
    table_wrote frame (OfField o name) (ElementTarget b key) s t v (λ k. k) (table_gave s t frame (OfField o name) (ElementTarget b key) v y met tt e)
one_wrote an w frame OfElement (ElementTarget b key) s t v y bound met e =
    table_wrote frame OfElement (ElementTarget b key) s t v (λ k. k) (table_gave s t frame OfElement (ElementTarget b key) v y met tt e)
one_wrote an w frame (OfLocal x) (_) s t v y bound met e = absurd met
one_wrote an w frame OfGlobal (_) s t v y bound met e = absurd met
one_wrote an w frame (OfField o name) (_) s t v y bound met e = absurd met
one_wrote an w frame OfElement (_) s t v y bound met e = absurd met

-- one write and then more
among_parts : (y : ℕ) (r : rules_say.Target) (rs : List rules_say.Target) → is_among y (locals_in (r ∷ rs)) ≡ false → (is_among y (locals_in (r ∷ [])) ≡ false) × (is_among y (locals_in rs) ≡ false)
among_parts y (OfLocal x) rs e = let p : ((y == x) ≡ false) × (is_among y (locals_in rs) ≡ false) = first_none (y == x) (is_among y (locals_in rs)) e in (again (y == x) p.0, p.1)
  where
    again : (b : Bool) → b ≡ false → b || false ≡ false
    again true k = k
    again false k = refl
among_parts y OfGlobal rs e = (refl, e)
among_parts y (OfField o name) rs e = (refl, e)
among_parts y OfElement rs e = (refl, e)

one_free : (r : rules_say.Target) (rs : List rules_say.Target) (type : Term) → IsFreeOf (NamedIn (r ∷ rs)) type → IsFreeOf (NamedIn (r ∷ [])) type
one_free r rs type free name (inl k) = free name (inl k)
one_free r rs type free name (inr k) = absurd k

wrote_then : (frame : Frame) (r : rules_say.Target) (goal : Target) (rs : List rules_say.Target) (goals : List Target) (s m t : State) → Wrote frame (r ∷ []) (goal ∷ []) s m → Wrote frame rs goals m t
    → Wrote frame (r ∷ rs) (goal ∷ goals) s t
wrote_then frame r goal rs goals s m t one rest = record {
  bindings = rest.bindings ∙ one.bindings;
  trace = rest.trace ∙ one.trace;
  owned = rest.owned ∙ one.owned;
  others = λ y c u n q. let p : (is_among y (locals_in (r ∷ [])) ≡ false) × (is_among y (locals_in rs) ≡ false) = among_parts y r rs n in rest.others y c u p.1 (one.others y c u p.0 q);
  lasts = λ u type free h. rest.lasts u type (λ name k. free name (inr k)) (one.lasts u type (one_free r rs type free) h);
  good = λ k. by_bad k;
}
  where
    by_bad : SomeBad s.store.heap (goal ∷ goals) → ⊥
    by_bad (inl k) = one.good (inl k)
    by_bad (inr k) = rest.good (some_bad_moved s.store.heap m.store.heap goals (λ v h. one.lasts v write_fail (λ name n. heap_free_of name write_fail refl) h) k)

-- the first of several
pub first_gave : (frame : Frame) (goal : Target) (goals : List Target) (vs : List Value) (s t : State) (y : Unit {0}) → write_all frame (goal ∷ goals) vs s ≡ Gave y t
    → (x : Unit {0}) × (m : State) × (write_to frame goal (first vs) s ≡ Gave x m) × (write_all frame goals (drop 1 vs) m ≡ Gave y t)
unfolding ◌>>=◌
first_gave frame goal goals vs s t y e = gave_then (write_to frame goal (first vs) s) (λ x. write_all frame goals (drop 1 vs)) y t e

bound_moved : (an : Analysis) (w : World) (s m : State) → m.store.bindings ≡ s.store.bindings → AllByRecursion (IsBoundWell an w) s.store.bindings → AllByRecursion (IsBoundWell an w) m.store.bindings
bound_moved an w s m e h = subst (λ bs. AllByRecursion (IsBoundWell an w) bs) (sym e) h

pub all_wrote : (an : Analysis) (w : World) (frame : Frame) (rs : List rules_say.Target) (goals : List Target) (vs : List Value) (s t : State) (y : Unit {0})
    → AllByRecursion (IsBoundWell an w) s.store.bindings → AllMeet rs goals → write_all frame goals vs s ≡ Gave y t → Wrote frame rs goals s t
unfolding give
all_wrote an w frame [] [] vs s t y bound met e = subst (λ (u : State). Wrote frame [] [] s u) (gave_same (tt {0}) y s t e).1
    (record { bindings = refl; trace = refl; owned = refl; others = λ z c u n h. h; lasts = λ u type free h. h; good = λ k. k })
all_wrote an w frame [] (goal ∷ goals) vs s t y bound met e = absurd met
all_wrote an w frame (r ∷ rs) [] vs s t y bound met e = absurd met
all_wrote an w frame (r ∷ rs) (goal ∷ goals) vs s t y bound met e = by_first (first_gave frame goal goals vs s t y e)
    (λ m b k. all_wrote an w frame rs goals (drop 1 vs) m t y b met.1 k)
  where
    by_first : (x : Unit {0}) × (m : State) × (write_to frame goal (first vs) s ≡ Gave x m) × (write_all frame goals (drop 1 vs) m ≡ Gave y t)
        → ((m : State) → AllByRecursion (IsBoundWell an w) m.store.bindings → write_all frame goals (drop 1 vs) m ≡ Gave y t → Wrote frame rs goals m t) → Wrote frame (r ∷ rs) (goal ∷ goals) s t
    by_first (x, m, gave_one, gave_rest) again = by_one (one_wrote an w frame r goal s m (first vs) x bound met.0 gave_one)
      where
        by_one : Wrote frame (r ∷ []) (goal ∷ []) s m → Wrote frame (r ∷ rs) (goal ∷ goals) s t
        by_one one = wrote_then frame r goal rs goals s m t one (again m (bound_moved an w s m one.bindings bound) gave_rest)

-- ---- what is left of types

-- a type of which rows that may be written are dropped
abbrev pub stripped_type : List rules_say.Target → Term → Term
stripped_type [] type = type
stripped_type (OfField base name ∷ rs) type = stripped_type rs (strip_at name type)
stripped_type (OfElement ∷ rs) type = stripped_type rs (strip type)
stripped_type (OfLocal x ∷ rs) type = stripped_type rs type
stripped_type (OfGlobal ∷ rs) type = stripped_type rs type

pub left_below : (rs : List rules_say.Target) (h : Heap) (v : Value) (type : Term) → holds h v (stripped_type rs type) ≡ true → holds h v type ≡ true
left_below [] h v type e = e
left_below (OfField base name ∷ rs) h v type e = strip_at_below h v name type (left_below rs h v (strip_at name type) e)
left_below (OfElement ∷ rs) h v type e = strip_below h v type (left_below rs h v (strip type) e)
left_below (OfLocal x ∷ rs) h v type e = left_below rs h v type e
left_below (OfGlobal ∷ rs) h v type e = left_below rs h v type e

left_keeps : (rs : List rules_say.Target) (name : List ℕ) (type : Term) → free_of_name name type ≡ true → free_of_name name (stripped_type rs type) ≡ true
left_keeps [] name type e = e
left_keeps (OfField base other ∷ rs) name type e = left_keeps rs name (strip_at other type) (strip_at_keeps name other type e)
left_keeps (OfElement ∷ rs) name type e = left_keeps rs name (strip type) (heap_free_of name (strip type) (strip_free type))
left_keeps (OfLocal x ∷ rs) name type e = left_keeps rs name type e
left_keeps (OfGlobal ∷ rs) name type e = left_keeps rs name type e

pub left_of : (rs : List rules_say.Target) (type : Term) → IsFreeOf (NamedIn rs) (stripped_type rs type)
left_of [] type name k = absurd k
left_of (OfField base other ∷ rs) type name (inl e) =
    left_keeps rs name (strip_at other type) (subst (λ (n : List ℕ). free_of_name n (strip_at other type) ≡ true) (sym e) (strip_at_of other type))
left_of (OfField base other ∷ rs) type name (inr k) = left_of rs (strip_at other type) name k
left_of (OfElement ∷ rs) type name (inl e) = left_keeps rs name (strip type) (heap_free_of name (strip type) (strip_free type))
left_of (OfElement ∷ rs) type name (inr k) = left_of rs (strip type) name k
left_of (OfLocal x ∷ rs) type name (inl k) = absurd k
left_of (OfLocal x ∷ rs) type name (inr k) = left_of rs type name k
left_of (OfGlobal ∷ rs) type name (inl k) = absurd k
left_of (OfGlobal ∷ rs) type name (inr k) = left_of rs type name k

-- ---- contexts before writes

turned : (m n : ℕ) → (m == n) ≡ (n == m)
turned m n = grind arith

-- what stands before the writes is of other locals, and is left of what stands behind
pub before_in : (rs : List rules_say.Target) (context : Context) (y : ℕ) (h : Heap) (v : Value) → holds h v (before_writes rs context y) ≡ true
    → (is_among y (locals_in rs) ≡ false) × (holds h v (stripped_type rs (context y)) ≡ true)
before_in [] context y h v e = (refl, e)
before_in (OfGlobal ∷ rs) context y h v e = before_in rs context y h v e
before_in (OfField o name ∷ rs) context y h v e = before_in rs (stripped_at name context) y h v e
before_in (OfElement ∷ rs) context y h v e = before_in rs (stripped context) y h v e
before_in (OfLocal x ∷ rs) context y h v e =
    let p : (is_among y (locals_in rs) ≡ false) × (holds h v (stripped_type rs (without (x ∷ []) context y)) ≡ true) = before_in rs (without (x ∷ []) context) y h v e in
    by_test (x == y) refl p.0 p.1
  where
    by_test : (b : Bool) → (x == y) ≡ b → is_among y (locals_in rs) ≡ false → holds h v (stripped_type rs (if b || false then never else context y)) ≡ true
        → ((y == x) || is_among y (locals_in rs) ≡ false) × (holds h v (stripped_type rs (context y)) ≡ true)
    by_test true k n q = in_never h v _ (left_below rs h v never q)
    by_test false k n q = (or_none (y == x) (is_among y (locals_in rs)) (turned y x ∙ k) n, q)
      where
        or_none : (a b : Bool) → a ≡ false → b ≡ false → a || b ≡ false
        or_none true b i j = cc
        or_none false b i j = j

-- and what the values are checked by
pub values_in : (rs : List rules_say.Target) (context : Context) (y : ℕ) → for_values rs context y ≡ stripped_type rs (context y)
values_in [] context y = refl
values_in (OfLocal x ∷ rs) context y = values_in rs context y
values_in (OfGlobal ∷ rs) context y = values_in rs context y
values_in (OfField o name ∷ rs) context y = values_in rs (stripped_at name context) y
values_in (OfElement ∷ rs) context y = values_in rs (stripped context) y

-- a context that was violated before the writes is violated behind them
pub violated_behind : (an : Analysis) (frame : Frame) (rs : List rules_say.Target) (goals : List Target) (context : Context) (s t : State) → Wrote frame rs goals s t
    → Violated an frame (before_writes rs context) s → Violated an frame context t
violated_behind an frame rs goals context s t wrote (y, c, u, firm, reads, h) =
    let p : (is_among y (locals_in rs) ≡ false) × (holds s.store.heap u (stripped_type rs (context y)) ≡ true) = before_in rs context y s.store.heap u h in (
      y,
      c,
      u,
      firm,
      wrote.others y c u p.0 reads,
      left_below rs t.store.heap u (context y) (wrote.lasts u (stripped_type rs (context y)) (left_of rs (context y)) p.1),
    )

-- ---- a value in its set, at a target that is a local

abbrev pub target_set : Context → rules_say.Target → Term
target_set context (OfLocal x) = context x
target_set context target = never

abbrev pub SomeTarget : Heap → Context → List rules_say.Target → Exprs → List Value → Type 0
SomeTarget heap context [] es vs = ⊥
SomeTarget heap context (r ∷ rs) no_exprs vs = ⊥
SomeTarget heap context (r ∷ rs) (more_exprs e rest) vs = (holds heap (first vs) (target_set context r) ≡ true) ⊎ SomeTarget heap context rs rest (drop 1 vs)

-- a local that holds a value in the context's set
abbrev pub Bad : Frame → State → Heap → Context → Type 0
Bad frame t heap context = (x : ℕ) × (c : ℕ) × (v : Value) × Reads frame t x c v × (holds heap v (context x) ≡ true)

distinct_parts : (x : ℕ) (xs : List ℕ) → are_distinct (x ∷ xs) ≡ true → (is_among x xs ≡ false) × (are_distinct xs ≡ true)
distinct_parts x xs h = by_parts (is_among x xs) (are_distinct xs) h
  where
    by_parts : (a b : Bool) → not a && b ≡ true → (a ≡ false) × (b ≡ true)
    by_parts true b k = cc
    by_parts false b k = (refl, k)

distinct_rest : (r : rules_say.Target) (rs : List rules_say.Target) → are_distinct (locals_in (r ∷ rs)) ≡ true → are_distinct (locals_in rs) ≡ true
distinct_rest (OfLocal x) rs h = (distinct_parts x (locals_in rs) h).1
distinct_rest OfGlobal rs h = h
distinct_rest (OfField o name) rs h = h
distinct_rest OfElement rs h = h

pub written_bad : (an : Analysis) (w : World) (frame : Frame) (context : Context) (heap : Heap) (rs : List rules_say.Target) (goals : List Target) (es : Exprs) (vs : List Value) (s t : State)
    (y : Unit {0}) → AllByRecursion (IsBoundWell an w) s.store.bindings → length w.owners ≡ length s.store.cells → are_distinct (locals_in rs) ≡ true → AllMeet rs goals
    → write_all frame goals vs s ≡ Gave y t → SomeTarget heap context rs es vs → Bad frame t heap context
written_bad an w frame context heap [] goals es vs s t y bound owned apart met e h = absurd h
written_bad an w frame context heap (r ∷ rs) goals no_exprs vs s t y bound owned apart met e h = absurd h
written_bad an w frame context heap (r ∷ rs) [] (more_exprs x rest) vs s t y bound owned apart met e h = absurd met
written_bad an w frame context heap (r ∷ rs) (goal ∷ goals) (more_exprs x rest) vs s t y bound owned apart met e h = by_first (first_gave frame goal goals vs s t y e) h
    (λ m b o k q. written_bad an w frame context heap rs goals rest (drop 1 vs) m t y b o (distinct_rest r rs apart) met.1 k q)
  where
    at_local : (r0 : rules_say.Target) (goal0 : Target) (m : State) (u : Unit {0}) → Meets r0 goal0 → are_distinct (locals_in (r0 ∷ rs)) ≡ true → write_to frame goal0 (first vs) s ≡ Gave u m
        → write_all frame goals (drop 1 vs) m ≡ Gave y t → AllByRecursion (IsBoundWell an w) m.store.bindings → holds heap (first vs) (target_set context r0) ≡ true → Bad frame t heap context
    at_local (OfLocal z) (LocalTarget i) m u n separate gave_one gave_rest b q = by_local (local_gave frame i (first vs) s m u gave_one)
      where
        by_local : (c : ℕ) × (cell_of s.store.bindings frame.activation i ≡ Some c) × (m ≡ assigned c (first vs) s) → Bad frame t heap context
        by_local (c, cell, is) = (
          z,
          c,
          first vs,
          (all_wrote an w frame rs goals (drop 1 vs) m t y b met.1 gave_rest).others z c (first vs) (distinct_parts z (locals_in rs) separate).0
              (subst (λ (j : State). Reads frame j z c (first vs)) (sym is)
              (here_assigned an w frame s z c (first vs) bound owned (subst (λ (j : ℕ). cell_of s.store.bindings frame.activation j ≡ Some c) n cell))),
          q,
        )
    at_local (OfLocal z) (_) m u n separate gave_one gave_rest b q = absurd n
    at_local OfGlobal goal0 m u n separate gave_one gave_rest b q = in_never heap (first vs) (Bad frame t heap context) q
    at_local (OfField o name) goal0 m u n separate gave_one gave_rest b q = in_never heap (first vs) (Bad frame t heap context) q
    at_local OfElement goal0 m u n separate gave_one gave_rest b q = in_never heap (first vs) (Bad frame t heap context) q

    by_first : (u : Unit {0}) × (m : State) × (write_to frame goal (first vs) s ≡ Gave u m) × (write_all frame goals (drop 1 vs) m ≡ Gave y t)
        → (holds heap (first vs) (target_set context r) ≡ true) ⊎ SomeTarget heap context rs rest (drop 1 vs)
        → ((m : State) → AllByRecursion (IsBoundWell an w) m.store.bindings → length w.owners ≡ length m.store.cells → write_all frame goals (drop 1 vs) m ≡ Gave y t
        → SomeTarget heap context rs rest (drop 1 vs) → Bad frame t heap context) → Bad frame t heap context
    by_first (u, m, gave_one, gave_rest) k again = by_one (one_wrote an w frame r goal s m (first vs) u bound met.0 gave_one) k
      where
        by_one : Wrote frame (r ∷ []) (goal ∷ []) s m → (holds heap (first vs) (target_set context r) ≡ true) ⊎ SomeTarget heap context rs rest (drop 1 vs) → Bad frame t heap context
        by_one one (inl q) = at_local r goal m u met.0 apart gave_one gave_rest (bound_moved an w s m one.bindings bound) q
        by_one one (inr q) = again m (bound_moved an w s m one.bindings bound) (owned ∙ sym one.owned) gave_rest q
