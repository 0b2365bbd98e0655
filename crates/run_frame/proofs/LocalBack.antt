-- The statement `local`, backward.
use Rattle.std.proofs.Common.{◌≡◌, ℕ, ◌<◌, Bool, true, false, not, ◌==◌, ◌&&◌, ◌||◌, if◌then◌else◌, List, [], ◌∷◌, length, Some, ◌⊎◌, inl, inr, refl, sym, ◌∙◌, ap, subst, arith, drop}
use Rattle.std.specs.List.{find, list_any}
use Rattle.std.specs.Option.{option_map}
use Rattle.luau_values.specs.Value.{Value}
use Rattle.luau_values.specs.Heap.{Heap}
use Rattle.luau_tree.specs.Tree.{Exprs, no_exprs, more_exprs, the_bind, Binds, no_binds, more_binds, the_stat, Local}
use Rattle.luau_run.specs.ReadModule.{ReadModule}
use Rattle.luau_run.specs.ReadFolder.{is_among, are_distinct}
use Rattle.luau_run.specs.SyntaxNode.{of_block, of_stat, of_binds, of_exprs}
use Rattle.luau_run.specs.Machine.{Binding, State, Gave, ◌>>=◌, look, change, give}
use Rattle.luau_run.specs.Layer.{Frame, Ending, Falls, Layer, first}
use Rattle.luau_run.specs.Expressions.{all_values}
use Rattle.luau_run.specs.Loops.{declare}
use Rattle.luau_run.specs.Statements.{stat, execute}
use Rattle.type_arena.specs.Term.{never}
use Rattle.type_normal.specs.Holds.{holds}
use Rattle.type_normal.specs.HeapFree.{heap_free}
use Rattle.type_normal.proofs.Public.{never_none, strip_below, strip_free}
use Rattle.report_rules.specs.Rules.{Rules, loose}
use Rattle.report_rules.specs.Effects.{any_effects, locals_of_binds}
use Rattle.report_rules.specs.TypeMap.{TypeMap}
use Rattle.report_rules.specs.Seen.{seen_stat}
use Rattle.report_rules.specs.Context.{Context, without, pass}
use Rattle.report_rules.specs.Statements.{wanted_of_binds, values_context, ev_values, stm}
use Rattle.report_rules.specs.Findings.{found_stat}
use Rattle.run_frame.specs.Analysis.{Analysis}
use Rattle.run_frame.specs.Statements.{stats_of, stats_of_exprs, stats_of_block}
use Rattle.run_frame.specs.Fit.{IsFitStat, Fit}
use Rattle.run_frame.proofs.World.{World, last_get, stays_at}
use Rattle.run_frame.proofs.Counts.{reached}
use Rattle.run_frame.proofs.Kept.{kept_same}
use Rattle.run_frame.proofs.Fine.{Fine, fine_same}
use Rattle.run_frame.proofs.Held.{Runs, runs_kept, Reads, Held, held_same, Violated}
use Rattle.run_frame.proofs.Parts.{Same, gave_then, gave_same}
use Rattle.run_frame.proofs.LooseContexts.{SparesAll, spare_pass}
use Rattle.run_frame.proofs.Layers.{rules_of, seen_of, part_of, Inside, Placed, Marked, EndsBad, Trouble, Forward, Backward}
use Rattle.run_frame.proofs.Readings.{contains_head, sub_tail, sub_right, all_contained, fits, reads_same}
use Rattle.run_frame.proofs.Cells.{declared}
use Rattle.run_frame.proofs.Declarations.{run_locals}
use Rattle.run_frame.proofs.LocalForms.{locals_same}
use Rattle.run_frame.proofs.Blocks.{same_end}
use Rattle.run_frame.proofs.Statements.{stat_gave, trouble_same}
use Rattle.run_frame.proofs.Wanted.{AreFree, Lasts, SomeWanted, none_wanted, values_pay}

-- ---- what locals read as after a new cell

itself : (n : ℕ) → (n == n) ≡ true
itself n = grind arith

turned : (m n : ℕ) → (m == n) ≡ (n == m)
turned m n = grind arith

reads_own : (frame : Frame) (s : State) (x : ℕ) (v : Value) → Reads frame (declared frame.activation x v s) x (length s.store.cells) v
reads_own frame s x v = (by_test (frame.activation == frame.activation) (x == x) (itself frame.activation) (itself x), last_get s.store.cells v)
  where
    by_test : (p q : Bool) → p ≡ true → q ≡ true
        → option_map (λ (b : Binding). b.cell) (if p && q then Some (record { activation = frame.activation; local = x; cell = length s.store.cells })
        else find (λ (b : Binding). (b.activation == frame.activation) && (b.local == x)) s.store.bindings) ≡ Some (length s.store.cells)
    by_test true true a b = refl
    by_test true false a b = cc
    by_test false q a b = cc

reads_other : (frame : Frame) (s : State) (x y c : ℕ) (v u : Value) → (x == y) ≡ false → Reads frame s y c u → Reads frame (declared frame.activation x v s) y c u
reads_other frame s x y c v u n h = (by_test (frame.activation == frame.activation) (x == y) n, stays_at s.store.cells (declared frame.activation x v s).store.cells c u (v ∷ [], refl) h.1)
  where
    by_test : (p q : Bool) → q ≡ false
        → option_map (λ (b : Binding). b.cell) (if p && q then Some (record { activation = frame.activation; local = x; cell = length s.store.cells })
        else find (λ (b : Binding). (b.activation == frame.activation) && (b.local == y)) s.store.bindings) ≡ Some c
    by_test true true a = cc
    by_test true false a = h.0
    by_test false q a = h.0

-- ---- new cells for the names of a list

declared_all : Frame → Binds → List Value → State → State
declared_all frame no_binds vs s = s
declared_all frame (more_binds (the_bind name span typ) rest) vs s = declared_all frame rest (drop 1 vs) (declared frame.activation (frame.reading.local_at span.start) (first vs) s)

declares_so : (frame : Frame) (binds : Binds) (vs : List Value) (s : State) → declare frame binds vs s ≡ Gave tt (declared_all frame binds vs s)
unfolding declared_all ◌>>=◌ look change give
declares_so frame no_binds vs s = refl
declares_so frame (more_binds (the_bind name span typ) rest) vs s = declares_so frame rest (drop 1 vs) (declared frame.activation (frame.reading.local_at span.start) (first vs) s)

-- they leave the heap and what was logged
leaves_heap : (frame : Frame) (binds : Binds) (vs : List Value) (s : State) → (declared_all frame binds vs s).store.heap ≡ s.store.heap
unfolding declared_all
leaves_heap frame no_binds vs s = refl
leaves_heap frame (more_binds (the_bind name span typ) rest) vs s = leaves_heap frame rest (drop 1 vs) (declared frame.activation (frame.reading.local_at span.start) (first vs) s)

leaves_trace : (frame : Frame) (binds : Binds) (vs : List Value) (s : State) → (declared_all frame binds vs s).trace ≡ s.trace
unfolding declared_all
leaves_trace frame no_binds vs s = refl
leaves_trace frame (more_binds (the_bind name span typ) rest) vs s = leaves_trace frame rest (drop 1 vs) (declared frame.activation (frame.reading.local_at span.start) (first vs) s)

neither : (a b : Bool) → a || b ≡ false → (a ≡ false) × (b ≡ false)
neither true b e = cc
neither false b e = (refl, e)

-- and what other locals read as
reads_past : (frame : Frame) (binds : Binds) (vs : List Value) (s : State) (y c : ℕ) (u : Value) → is_among y (run_locals frame binds) ≡ false → Reads frame s y c u
    → Reads frame (declared_all frame binds vs s) y c u
unfolding declared_all
reads_past frame no_binds vs s y c u n h = h
reads_past frame (more_binds (the_bind name span typ) rest) vs s y c u n h =
    let p : ((y == frame.reading.local_at span.start) ≡ false) × (is_among y (run_locals frame rest) ≡ false) = neither (y == frame.reading.local_at span.start) (is_among y (run_locals frame rest)) n in
    reads_past frame rest (drop 1 vs) (declared frame.activation (frame.reading.local_at span.start) (first vs) s) y c u p.1
    (reads_other frame s (frame.reading.local_at span.start) y c (first vs) u (turned (frame.reading.local_at span.start) y ∙ p.0) h)

distinct_parts : (x : ℕ) (xs : List ℕ) → are_distinct (x ∷ xs) ≡ true → (is_among x xs ≡ false) × (are_distinct xs ≡ true)
distinct_parts x xs h = by_parts (is_among x xs) (are_distinct xs) h
  where
    by_parts : (a b : Bool) → not a && b ≡ true → (a ≡ false) × (b ≡ true)
    by_parts true b k = cc
    by_parts false b k = (refl, k)

in_never : (h : Heap) (v : Value) (P : Type 0) → holds h v never ≡ true → P
in_never h v P e = absurd (clash (holds h v never) e (never_none h v))
  where
    clash : (b : Bool) → b ≡ true → b ≡ false → ⊥
    clash b p q = cc

-- a local whose new cell holds a value in the context's set
abbrev Bad : Frame → State → Heap → Context → Type 0
Bad frame t heap context = (x : ℕ) × (c : ℕ) × (v : Value) × Reads frame t x c v × (holds heap v (context x) ≡ true)

declared_bad : (rules : Rules) (frame : Frame) (context : Context) (binds : Binds) (es : Exprs) (vs : List Value) (s : State) → rules.reading ≡ frame.reading
    → are_distinct (run_locals frame binds) ≡ true → SomeWanted s.store.heap (wanted_of_binds rules context binds) es vs → Bad frame (declared_all frame binds vs s) s.store.heap context
unfolding declared_all
declared_bad rules frame context binds no_exprs vs s e d h = absurd h
declared_bad rules frame context no_binds (more_exprs next rest) vs s e d h = absurd (none_wanted s.store.heap (more_exprs next rest) vs h)
declared_bad rules frame context (more_binds (the_bind name span typ) binds) (more_exprs next rest) vs s e d (inl h) = (
  frame.reading.local_at span.start,
  length s.store.cells,
  first vs,
  reads_past frame binds (drop 1 vs) (declared frame.activation (frame.reading.local_at span.start) (first vs) s) (frame.reading.local_at span.start) (length s.store.cells) (first vs)
      (distinct_parts (frame.reading.local_at span.start) (run_locals frame binds) d).0 (reads_own frame s (frame.reading.local_at span.start) (first vs)),
  subst (λ (r : ReadModule). holds s.store.heap (first vs) (context (r.local_at span.start)) ≡ true) e h,
)
declared_bad rules frame context (more_binds (the_bind name span typ) binds) (more_exprs next rest) vs s e d (inr h) =
    declared_bad rules frame context binds rest (drop 1 vs) (declared frame.activation (frame.reading.local_at span.start) (first vs) s) e
    (distinct_parts (frame.reading.local_at span.start) (run_locals frame binds) d).1 h

-- ---- sets that last

bind_free : (rules : Rules) (context : Context) (binds : Binds) → ((x : ℕ) → heap_free (context x) ≡ true) → AreFree (wanted_of_binds rules context binds)
bind_free rules context no_binds h = tt
bind_free rules context (more_binds (the_bind name span typ) rest) h = (h (rules.reading.local_at span.start), bind_free rules context rest h)

binds_last : (an : Analysis) (frame : Frame) (behind : Context) (binds : Binds) (values : Exprs) (b : Bool) → any_effects (rules_of an frame) values ≡ b
    → Lasts an frame (wanted_of_binds (rules_of an frame) (pass b behind) binds) values
binds_last an frame behind binds values true e = inr (bind_free (rules_of an frame) (pass true behind) binds (λ x. strip_free (behind x)))
binds_last an frame behind binds values false e = inl e

passed_in : (b : Bool) (behind : Context) (x : ℕ) (h : Heap) (v : Value) → holds h v (pass b behind x) ≡ true → holds h v (behind x) ≡ true
passed_in true behind x h v e = strip_below h v (behind x) e
passed_in false behind x h v e = e

-- ---- `local`

without_in : (locals : List ℕ) (context : Context) (x : ℕ) (h : Heap) (v : Value) → holds h v (without locals context x) ≡ true → (is_among x locals ≡ false) × (holds h v (context x) ≡ true)
without_in locals context x h v e = by_test (list_any (λ other. other == x) locals) refl e
  where
    both_ways : (xs : List ℕ) → list_any (λ other. other == x) xs ≡ is_among x xs
    both_ways [] = refl
    both_ways (y ∷ xs) = ap (λ (b : Bool). b || list_any (λ other. other == x) xs) (turned y x) ∙ ap (λ (b : Bool). (x == y) || b) (both_ways xs)

    by_test : (b : Bool) → list_any (λ other. other == x) locals ≡ b → holds h v (if b then never else context x) ≡ true → (is_among x locals ≡ false) × (holds h v (context x) ≡ true)
    by_test true k y = in_never h v ((is_among x locals ≡ false) × (holds h v (context x) ≡ true)) y
    by_test false k y = (sym (both_ways locals) ∙ k, y)

pub local_backward : (an : Analysis) (l : Layer) → Fit an → Forward an l → Backward an l → (w : World) (s : State) (frame : Frame) (map : TypeMap) (span : _) (binds : Binds) (values : Exprs)
    (behind breaks_to continues_to : Context) → Fine an w s → Runs an w s frame
    → Held an frame map s → Inside frame (of_stat (the_stat span (Local binds values))) (stats_of (the_stat span (Local binds values)))
    → Placed an frame (seen_stat (rules_of an frame) map (the_stat span (Local binds values)))
    → Marked an frame (found_stat (rules_of an frame) (seen_of an frame) (the_stat span (Local binds values)) behind breaks_to continues_to)
    → SparesAll (rules_of an frame) behind breaks_to continues_to
    → (ending : Ending) (t : State) → stat an.program l frame (the_stat span (Local binds values)) s ≡ Gave ending t
    → Trouble an frame (stm (rules_of an frame) (seen_of an frame) (the_stat span (Local binds values)) behind breaks_to continues_to) s t → EndsBad an frame behind breaks_to continues_to ending t
unfolding ◌>>=◌ give
local_backward an l fit fwd bwd w s frame map span binds values behind breaks_to continues_to f r h inside placed marked spares ending t q y =
    by_step (stat_gave an.program l frame span (Local binds values) s ending t q)
  where
    context : Context
    context = values_context (rules_of an frame) [] values behind

    last : Context
    last = without (locals_of_binds (rules_of an frame) binds) behind

    same_locals : locals_of_binds (rules_of an frame) binds ≡ run_locals frame binds
    same_locals = locals_same (rules_of an frame) frame binds (reads_same an w s frame fit r)

    are_apart : are_distinct (run_locals frame binds) ≡ true
    are_apart = subst (λ (xs : List ℕ). are_distinct xs ≡ true) same_locals
        (all_contained (IsFitStat (rules_of an frame)) (stats_of_block frame.reading.block) (the_stat span (Local binds values)) (fits an w s frame fit r).statements
        (inside.stats (the_stat span (Local binds values)) (contains_head (the_stat span (Local binds values)) (stats_of_exprs values)))).1.0

    -- one of the new cells is bad, or another local was
    ends_violated : (vs : List Value) (u : State) → SomeWanted u.store.heap (wanted_of_binds (rules_of an frame) context binds) values vs ⊎ Violated an frame last u
        → Violated an frame behind (declared_all frame binds vs u)
    ends_violated vs u (inl k) = by_bad (declared_bad (rules_of an frame) frame context binds values vs u (reads_same an w s frame fit r) are_apart k)
      where
        by_bad : Bad frame (declared_all frame binds vs u) u.store.heap context → Violated an frame behind (declared_all frame binds vs u)
        by_bad (x, c, v, reads, e) = by_loose (loose (rules_of an frame) x) refl
          where
            by_loose : (b : Bool) → loose (rules_of an frame) x ≡ b → Violated an frame behind (declared_all frame binds vs u)
            by_loose true n = absurd (spare_pass (rules_of an frame) (any_effects (rules_of an frame) values) behind spares.0 x n u.store.heap v e)
            by_loose false n = (
              x,
              c,
              v,
              n,
              reads,
              subst (λ (heap : Heap). holds heap v (behind x) ≡ true) (sym (leaves_heap frame binds vs u))
                  (passed_in (any_effects (rules_of an frame) values) behind x u.store.heap v e),
            )
    ends_violated vs u (inr (x, c, v, firm, reads, e)) =
        let p : (is_among x (locals_of_binds (rules_of an frame) binds) ≡ false) × (holds u.store.heap v (behind x) ≡ true)
        = without_in (locals_of_binds (rules_of an frame) binds) behind x u.store.heap v e in (
          x,
          c,
          v,
          firm,
          reads_past frame binds vs u x c v (subst (λ (xs : List ℕ). is_among x xs ≡ false) same_locals p.0) reads,
          subst (λ (heap : Heap). holds heap v (behind x) ≡ true) (sym (leaves_heap frame binds vs u)) p.1,
        )

    by_step : (m : State) × Same s m × (execute an.program l frame (Local binds values) m ≡ Gave ending t) → EndsBad an frame behind breaks_to continues_to ending t
    by_step (m, same, k) = by_values (gave_then (all_values l frame values m) (λ vs. ◌>>=◌ (declare frame binds vs) (λ x. give Falls)) ending t k)
      where
        by_values : (vs : List Value) × (u : State) × (all_values l frame values m ≡ Gave vs u) × (◌>>=◌ (declare frame binds vs) (λ x. give Falls) u ≡ Gave ending t)
            → EndsBad an frame behind breaks_to continues_to ending t
        by_values (vs, u, n, c) = by_cells (gave_then (declare frame binds vs u) (λ x. give Falls) ending t c)
          where
            by_cells : (x : Unit {0}) × (d : State) × (declare frame binds vs u ≡ Gave x d) × (give Falls d ≡ Gave ending t) → EndsBad an frame behind breaks_to continues_to ending t
            by_cells (x, d, o, e) = same_end an frame behind breaks_to continues_to Falls ending d t e
                (subst (λ (z : State). Violated an frame behind z) at_end (ends_violated vs u (values_pay an l fit fwd bwd w m frame map (wanted_of_binds (rules_of an frame) context binds) values last
                (binds_last an frame behind binds values (any_effects (rules_of an frame) values) refl)
                (fine_same an w s m same.0 same.1 f) (runs_kept an (part_of frame false) w w s m frame (kept_same an (part_of frame false) w s m same.0 same.1) r) (held_same an s m frame map same h)
                (record {
                  nodes = sub_right (of_binds binds) (of_exprs values) (of_block frame.reading.block) inside.nodes;
                  stats = sub_tail (the_stat span (Local binds values)) (stats_of_exprs values) (stats_of_block frame.reading.block) inside.stats;
                }) placed marked vs u n
                (to_values (trouble_same an frame (ev_values (rules_of an frame) (seen_of an frame) (wanted_of_binds (rules_of an frame) context binds) values last) s m t same y)))))
              where
                at_end : declared_all frame binds vs u ≡ d
                at_end = (gave_same (tt {0}) x (declared_all frame binds vs u) d (sym (declares_so frame binds vs u) ∙ o)).1

                logged : t.trace ≡ u.trace
                logged = ap (λ (z : State). z.trace) (sym (at_end ∙ (gave_same Falls ending d t e).1)) ∙ leaves_trace frame binds vs u

                to_values : Trouble an frame (ev_values (rules_of an frame) (seen_of an frame) (wanted_of_binds (rules_of an frame) context binds) values last) m t
                    → Trouble an frame (ev_values (rules_of an frame) (seen_of an frame) (wanted_of_binds (rules_of an frame) context binds) values last) m u
                to_values (inl z) = inl z
                to_values (inr z) = inr (subst (λ trace. reached an frame.activation m.trace < reached an frame.activation trace) logged z)
