-- Values that are checked by what is wanted at their positions, backward; and with them `return`.
use Rattle.std.proofs.Common.{◌≡◌, ◌≢◌, Bool, true, false, List, [], ◌∷◌, ◌++◌, Option, Some, None, ◌⊎◌, inl, inr, refl, sym, ap, subst, drop}
use Rattle.std.specs.List.{AllByRecursion}
use Rattle.luau_values.specs.Value.{Value}
use Rattle.luau_values.specs.Heap.{Heap}
use Rattle.luau_tree.specs.Tree.{Expr, Exprs, no_exprs, more_exprs, the_stat, Return}
use Rattle.luau_run.specs.SyntaxNode.{of_stat, of_exprs}
use Rattle.luau_run.specs.Machine.{State, Gave, ◌>>=◌, give}
use Rattle.luau_run.specs.Layer.{Frame, Ending, Returns, Layer, first}
use Rattle.luau_run.specs.Expressions.{all_values}
use Rattle.luau_run.specs.Statements.{stat, execute}
use Rattle.type_arena.specs.Term.{Term, never}
use Rattle.type_normal.specs.Holds.{holds}
use Rattle.type_normal.specs.HeapFree.{heap_free}
use Rattle.type_normal.proofs.Public.{never_none}
use Rattle.subtype_check.specs.Below.{below}
use Rattle.report_rules.specs.Effects.{effects, any_effects}
use Rattle.report_rules.specs.TypeMap.{TypeMap}
use Rattle.report_rules.specs.Seen.{seen_stat, seen_list}
use Rattle.report_rules.specs.Context.{Context, none, followed}
use Rattle.report_rules.specs.Checks.{type_of}
use Rattle.report_rules.specs.Errors.{ev}
use Rattle.report_rules.specs.Statements.{Wanted, value_kinds, value_left, first_wanted, rest_wanted, ev_values, stm}
use Rattle.report_rules.specs.Findings.{Finding, found, found_parts, found_values, found_stat}
use Rattle.run_frame.specs.Analysis.{Analysis}
use Rattle.run_frame.specs.Statements.{stats_of, stats_of_exprs, stats_of_block}
use Rattle.run_frame.specs.Fit.{Fit}
use Rattle.run_frame.proofs.World.{World}
use Rattle.run_frame.proofs.Kept.{kept_same}
use Rattle.run_frame.proofs.Fine.{Fine, fine_same}
use Rattle.run_frame.proofs.Held.{Runs, runs_kept, Held, held_same, Violated}
use Rattle.run_frame.proofs.Parts.{Same, gave_then, gave_same}
use Rattle.run_frame.proofs.Layers.{rules_of, seen_of, part_of, Inside, Placed, Marked, EndsBad, Trouble, Forward, Backward}
use Rattle.run_frame.proofs.Readings.{sub_tail}
use Rattle.run_frame.proofs.Passing.{none_violated}
use Rattle.run_frame.proofs.Lists.{second_false}
use Rattle.run_frame.proofs.Statements.{stat_gave, trouble_same}
use Rattle.run_frame.proofs.Marks.{checked_below}
use Rattle.run_frame.proofs.ListsBack.{Check, left_in, Lasting, Checks, ev_checks, found_checks, SomeIn, list_pays}

-- ---- what is wanted of a value

-- the set, and none where nothing is wanted
abbrev pub wanted_set : Option Wanted → Term
wanted_set None = never
wanted_set (Some wanted) = wanted.set

pub wanted_marks : (an : Analysis) (frame : Frame) (e : Expr) (o : Option Wanted) → value_kinds (seen_of an frame) e o ≢ [] → below (type_of (seen_of an frame) e) (wanted_set o) ≡ true
wanted_marks an frame e None n = absurd (n refl)
wanted_marks an frame e (Some wanted) n = checked_below (seen_of an frame) e wanted.set _ n

pub wanted_within : (an : Analysis) (frame : Frame) (e : Expr) (o : Option Wanted) (h : Heap) (v : Value) → holds h v (value_left (seen_of an frame) e o) ≡ true → holds h v (wanted_set o) ≡ true
wanted_within an frame e None h v k = k
wanted_within an frame e (Some wanted) h v k = left_in (value_kinds (seen_of an frame) e (Some wanted)) wanted.set h v k

abbrev pub check_wanted : (an : Analysis) (frame : Frame) (e : Expr) → Option Wanted → Check an frame e
check_wanted an frame e o = record {
  kinds = value_kinds (seen_of an frame) e o;
  asked = value_left (seen_of an frame) e o;
  set = wanted_set o;
  marks = wanted_marks an frame e o;
  within = wanted_within an frame e o;
}

-- ---- what is wanted of the values of a list

-- all that is wanted holds in every later heap
abbrev pub AreFree : List (Option Wanted) → Type 0
AreFree wanted = AllByRecursion (λ o. heap_free (wanted_set o) ≡ true) wanted

first_free : (wanted : List (Option Wanted)) → AreFree wanted → heap_free (wanted_set (first_wanted wanted)) ≡ true
first_free [] h = refl
first_free (o ∷ wanted) h = h.0

rest_free : (wanted : List (Option Wanted)) → AreFree wanted → AreFree (rest_wanted wanted)
rest_free [] h = tt
rest_free (o ∷ wanted) h = h.1

-- or nothing in the list has effects
abbrev pub Lasts : Analysis → Frame → List (Option Wanted) → Exprs → Type 0
Lasts an frame wanted es = (any_effects (rules_of an frame) es ≡ false) ⊎ AreFree wanted

first_lasts : (an : Analysis) (frame : Frame) (wanted : List (Option Wanted)) (e : Expr) (rest : Exprs) → Lasts an frame wanted (more_exprs e rest)
    → Lasting an frame rest (wanted_set (first_wanted wanted))
first_lasts an frame wanted e rest (inl h) = inl (second_false (effects (rules_of an frame) e) (any_effects (rules_of an frame) rest) h)
first_lasts an frame wanted e rest (inr h) = inr (first_free wanted h)

rest_lasts : (an : Analysis) (frame : Frame) (wanted : List (Option Wanted)) (e : Expr) (rest : Exprs) → Lasts an frame wanted (more_exprs e rest) → Lasts an frame (rest_wanted wanted) rest
rest_lasts an frame wanted e rest (inl h) = inl (second_false (effects (rules_of an frame) e) (any_effects (rules_of an frame) rest) h)
rest_lasts an frame wanted e rest (inr h) = inr (rest_free wanted h)

pub checks_wanted : (an : Analysis) (frame : Frame) (wanted : List (Option Wanted)) (es : Exprs) → Lasts an frame wanted es → Checks an frame es
checks_wanted an frame wanted no_exprs h = tt
checks_wanted an frame wanted (more_exprs e rest) h =
    (check_wanted an frame e (first_wanted wanted), first_lasts an frame wanted e rest h, checks_wanted an frame (rest_wanted wanted) rest (rest_lasts an frame wanted e rest h))

pub ev_wanted : (an : Analysis) (frame : Frame) (wanted : List (Option Wanted)) (es : Exprs) (h : Lasts an frame wanted es) (behind : Context)
    → ev_checks an frame es (checks_wanted an frame wanted es h) behind ≡ ev_values (rules_of an frame) (seen_of an frame) wanted es behind
unfolding checks_wanted
ev_wanted an frame wanted no_exprs h behind = refl
ev_wanted an frame wanted (more_exprs e rest) h behind =
    ap (λ (c : Context). followed (ev (rules_of an frame) (seen_of an frame) e (value_left (seen_of an frame) e (first_wanted wanted))) (effects (rules_of an frame) e) c)
    (ev_wanted an frame (rest_wanted wanted) rest (rest_lasts an frame wanted e rest h) behind)

pub found_wanted : (an : Analysis) (frame : Frame) (wanted : List (Option Wanted)) (es : Exprs) (h : Lasts an frame wanted es)
    → found_checks an frame es (checks_wanted an frame wanted es h) ≡ found_values (rules_of an frame) (seen_of an frame) wanted es
unfolding checks_wanted
found_wanted an frame wanted no_exprs h = refl
found_wanted an frame wanted (more_exprs e rest) h =
    ap (λ (fs : List Finding). found (rules_of an frame) (seen_of an frame) (value_kinds (seen_of an frame) e (first_wanted wanted)) e ++ fs)
    (found_wanted an frame (rest_wanted wanted) rest (rest_lasts an frame wanted e rest h))

-- a value in its set, with what was wanted there
abbrev pub SomeWanted : Heap → List (Option Wanted) → Exprs → List Value → Type 0
SomeWanted heap wanted no_exprs vs = ⊥
SomeWanted heap wanted (more_exprs e rest) vs = (holds heap (first vs) (wanted_set (first_wanted wanted)) ≡ true) ⊎ SomeWanted heap (rest_wanted wanted) rest (drop 1 vs)

some_wanted : (an : Analysis) (frame : Frame) (wanted : List (Option Wanted)) (es : Exprs) (h : Lasts an frame wanted es) (heap : Heap) (vs : List Value)
    → SomeIn an frame es (checks_wanted an frame wanted es h) heap vs → SomeWanted heap wanted es vs
unfolding checks_wanted
some_wanted an frame wanted no_exprs h heap vs k = k
some_wanted an frame wanted (more_exprs e rest) h heap vs (inl k) = inl k
some_wanted an frame wanted (more_exprs e rest) h heap vs (inr k) = inr (some_wanted an frame (rest_wanted wanted) rest (rest_lasts an frame wanted e rest h) heap (drop 1 vs) k)

-- values that are evaluated in order, and what comes behind them
pub values_pay : (an : Analysis) (l : Layer) → Fit an → Forward an l → Backward an l → (w : World) (s : State) (frame : Frame) (map : TypeMap) (wanted : List (Option Wanted)) (es : Exprs)
    (behind : Context) → Lasts an frame wanted es → Fine an w s → Runs an w s frame → Held an frame map s → Inside frame (of_exprs es) (stats_of_exprs es)
    → Placed an frame (seen_list (rules_of an frame) map es) → Marked an frame (found_values (rules_of an frame) (seen_of an frame) wanted es) → (vs : List Value) (t : State)
    → all_values l frame es s ≡ Gave vs t → Trouble an frame (ev_values (rules_of an frame) (seen_of an frame) wanted es behind) s t
    → SomeWanted t.store.heap wanted es vs ⊎ Violated an frame behind t
values_pay an l fit fwd bwd w s frame map wanted es behind lasts f r h inside placed marked vs t q y = by_side
    (list_pays an l fit fwd bwd w s frame map es (checks_wanted an frame wanted es lasts) behind f r h inside placed
    (subst (λ (fs : List Finding). Marked an frame fs) (sym (found_wanted an frame wanted es lasts)) marked) vs t q
    (subst (λ (c : Context). Trouble an frame c s t) (sym (ev_wanted an frame wanted es lasts behind)) y))
  where
    by_side : SomeIn an frame es (checks_wanted an frame wanted es lasts) t.store.heap vs ⊎ Violated an frame behind t → SomeWanted t.store.heap wanted es vs ⊎ Violated an frame behind t
    by_side (inl k) = inl (some_wanted an frame wanted es lasts t.store.heap vs k)
    by_side (inr k) = inr k

-- ---- `return`

pub none_wanted : (heap : Heap) (es : Exprs) (vs : List Value) → SomeWanted heap [] es vs → ⊥
none_wanted heap no_exprs vs k = k
none_wanted heap (more_exprs e rest) vs (inl k) = clash (holds heap (first vs) never) k (never_none heap (first vs))
  where
    clash : (b : Bool) → b ≡ true → b ≡ false → ⊥
    clash b p q = cc
none_wanted heap (more_exprs e rest) vs (inr k) = none_wanted heap rest (drop 1 vs) k

found_none : (an : Analysis) (frame : Frame) (es : Exprs) → found_values (rules_of an frame) (seen_of an frame) [] es ≡ found_parts (rules_of an frame) (seen_of an frame) es
found_none an frame no_exprs = refl
found_none an frame (more_exprs e rest) = ap (λ (fs : List Finding). found (rules_of an frame) (seen_of an frame) [] e ++ fs) (found_none an frame rest)

pub return_backward : (an : Analysis) (l : Layer) → Fit an → Forward an l → Backward an l → (w : World) (s : State) (frame : Frame) (map : TypeMap) (span : _) (values : Exprs)
    (behind breaks_to continues_to : Context) → Fine an w s → Runs an w s frame
    → Held an frame map s → Inside frame (of_stat (the_stat span (Return values))) (stats_of (the_stat span (Return values)))
    → Placed an frame (seen_stat (rules_of an frame) map (the_stat span (Return values)))
    → Marked an frame (found_stat (rules_of an frame) (seen_of an frame) (the_stat span (Return values)) behind breaks_to continues_to)
    → (ending : Ending) (t : State) → stat an.program l frame (the_stat span (Return values)) s ≡ Gave ending t
    → Trouble an frame (stm (rules_of an frame) (seen_of an frame) (the_stat span (Return values)) behind breaks_to continues_to) s t → EndsBad an frame behind breaks_to continues_to ending t
unfolding ◌>>=◌ give
return_backward an l fit fwd bwd w s frame map span values behind breaks_to continues_to f r h inside placed marked ending t q y =
    by_step (stat_gave an.program l frame span (Return values) s ending t q)
  where
    by_step : (m : State) × Same s m × (execute an.program l frame (Return values) m ≡ Gave ending t) → EndsBad an frame behind breaks_to continues_to ending t
    by_step (m, same, k) = by_values (gave_then (all_values l frame values m) (λ vs. give (Returns vs)) ending t k)
      where
        by_values : (vs : List Value) × (u : State) × (all_values l frame values m ≡ Gave vs u) × (give (Returns vs) u ≡ Gave ending t) → EndsBad an frame behind breaks_to continues_to ending t
        by_values (vs, u, n, c) = absurd (by_side (values_pay an l fit fwd bwd w m frame map [] values none (inr tt) (fine_same an w s m same.0 same.1 f)
            (runs_kept an (part_of frame false) w w s m frame (kept_same an (part_of frame false) w s m same.0 same.1) r) (held_same an s m frame map same h)
            (record { nodes = inside.nodes; stats = sub_tail (the_stat span (Return values)) (stats_of_exprs values) (stats_of_block frame.reading.block) inside.stats }) placed
            (subst (λ (fs : List Finding). Marked an frame fs) (sym (found_none an frame values)) marked) vs u n
            (subst (λ (x : State). Trouble an frame (ev_values (rules_of an frame) (seen_of an frame) [] values none) m x) (sym (gave_same (Returns vs) ending u t c).1)
            (trouble_same an frame (ev_values (rules_of an frame) (seen_of an frame) [] values none) s m t same y))))
          where
            by_side : SomeWanted u.store.heap [] values vs ⊎ Violated an frame none u → ⊥
            by_side (inl x) = none_wanted u.store.heap values vs x
            by_side (inr x) = none_violated an frame u x
