-- Operands that are checked by some set, and lists of them, backward.
use Rattle.std.proofs.Common.{◌≡◌, ◌≢◌, ℕ, ◌+◌, ◌<◌, Bool, true, false, not, List, [], ◌∷◌, ◌++◌, ◌⊎◌, inl, inr, refl, sym, ◌∙◌, ap, subst, arith, drop}
use Rattle.luau_values.specs.Value.{Value}
use Rattle.luau_values.specs.Heap.{Heap}
use Rattle.luau_values.specs.Stands.{Stands}
use Rattle.luau_tree.specs.Tree.{Expr, the_expr, Exprs, no_exprs, more_exprs}
use Rattle.luau_tree.specs.declared.names.Place.TheVariants.{Expr as ExprPlace}
use Rattle.luau_run.specs.SyntaxNode.{of_expr, of_exprs}
use Rattle.luau_run.specs.Machine.{State, Gave, ◌>>=◌, give}
use Rattle.luau_run.specs.Layer.{Frame, Layer, first}
use Rattle.luau_run.specs.Expressions.{value, all_values}
use Rattle.luau_run.specs.Statements.{place_of}
use Rattle.type_arena.specs.Term.{Term, never}
use Rattle.type_normal.specs.Holds.{holds}
use Rattle.type_normal.specs.HeapFree.{heap_free}
use Rattle.type_normal.proofs.Public.{never_none}
use Rattle.subtype_check.specs.Below.{below}
use Rattle.subtype_check.proofs.Public.{below_includes}
use Rattle.report_rules.specs.Effects.{effects, any_effects}
use Rattle.report_rules.specs.TypeMap.{TypeMap}
use Rattle.report_rules.specs.Forward.{typ, after}
use Rattle.report_rules.specs.Seen.{seen_expr, seen_list}
use Rattle.report_rules.specs.Context.{Context, followed}
use Rattle.report_rules.specs.Checks.{ReportKind, type_of, check, left}
use Rattle.report_rules.specs.Errors.{ev}
use Rattle.report_rules.specs.Findings.{Finding, own_kinds, found}
use Rattle.report_rules.specs.Reports.{findings}
use Rattle.run_frame.specs.Analysis.{Analysis}
use Rattle.run_frame.specs.Statements.{stats_of_expr, stats_of_exprs}
use Rattle.run_frame.specs.Fit.{Fit}
use Rattle.run_frame.proofs.World.{World}
use Rattle.run_frame.proofs.Counts.{is_reported, reached, one_if}
use Rattle.run_frame.proofs.Kept.{Kept}
use Rattle.run_frame.proofs.Fine.{Fine}
use Rattle.run_frame.proofs.Held.{Runs, Held, Violated, type_kept}
use Rattle.run_frame.proofs.Parts.{ends_gave, gave_then, gave_same}
use Rattle.run_frame.proofs.Layers.{rules_of, seen_of, part_of, Inside, Placed, Marked, Gives, Pays, Trouble, Forward, Backward}
use Rattle.run_frame.proofs.Readings.{contains_head, sub_left, sub_right}
use Rattle.run_frame.proofs.Passing.{violated_followed}
use Rattle.run_frame.proofs.Marks.{mark_tells, typed_at, checked_below}
use Rattle.run_frame.proofs.Lists.{ListGives, list_forward, inside_left, inside_right}
use Rattle.run_frame.proofs.Blocks.{count_split}
use Rattle.run_frame.proofs.Forms.{value_gave, Evaluated, evaluated, first_stands}

-- ---- an operand

-- what the code around an expression checks it by: the kinds that are reported there, the set that its context is asked for, and
-- the set with which the code fails. What is reported has its type below the set
pub record Check (an : Analysis) (frame : Frame) (e : Expr) : Type 0 where
  pub kinds : List ReportKind
  pub asked : Term
  pub set : Term
  pub marks : kinds ≢ [] → below (type_of (seen_of an frame) e) set ≡ true
  pub within : (h : Heap) (v : Value) → holds h v asked ≡ true → holds h v set ≡ true

in_never : (h : Heap) (v : Value) (P : Type 0) → holds h v never ≡ true → P
in_never h v P e = absurd (clash (holds h v never) e (never_none h v))
  where
    clash : (b : Bool) → b ≡ true → b ≡ false → ⊥
    clash b p q = cc

-- what is left of a set is in it
pub left_in : (kinds : List ReportKind) (set : Term) (h : Heap) (v : Value) → holds h v (left kinds set) ≡ true → holds h v set ≡ true
left_in [] set h v e = e
left_in (kind ∷ kinds) set h v e = in_never h v (holds h v set ≡ true) e

-- a check by a set, whose context is asked for what is left
abbrev pub by_set : (an : Analysis) (frame : Frame) (e : Expr) → Term → ReportKind → Check an frame e
by_set an frame e set kind = record {
  kinds = check (seen_of an frame) e set kind;
  asked = left (check (seen_of an frame) e set kind) set;
  set = set;
  marks = checked_below (seen_of an frame) e set kind;
  within = left_in (check (seen_of an frame) e set kind) set;
}

-- no check
abbrev pub unchecked : (an : Analysis) (frame : Frame) (e : Expr) → Check an frame e
unchecked an frame e = record { kinds = []; asked = never; set = never; marks = λ n. absurd (n refl); within = λ h v k. k }

-- where the context that waits is violated, or a reported place is reached, the value is in the set
pub operand_in : (an : Analysis) (w : World) (s : State) (frame : Frame) (map : TypeMap) (e : Expr) (c : Check an frame e) (vs : List Value) (t : State) → Fit an → Runs an w s frame
    → Placed an frame (seen_expr (rules_of an frame) map e) → Marked an frame (found (rules_of an frame) (seen_of an frame) c.kinds e)
    → Gives an frame map e vs t → Pays an frame e s vs t → Trouble an frame (ev (rules_of an frame) (seen_of an frame) e c.asked) s t
    → holds t.store.heap (first vs) c.set ≡ true
operand_in an w s frame map e c vs t fit r placed marked gives pays (inl h) = c.within t.store.heap (first vs) (pays.context c.asked h)
operand_in an w s frame map (the_expr id span kind) c vs t fit r placed marked gives pays (inr h) =
    below_includes t.store.heap (first vs) (typ (rules_of an frame) map (the_expr id span kind)) c.set
    (subst (λ (type : Term). below type c.set ≡ true) (typed_at an w s frame map (the_expr id span kind) fit r placed)
    (c.marks (around_kinds c.kinds (own_kinds (rules_of an frame) (seen_of an frame) id kind) pays.own
    (mark_tells an w s frame id
    (record { place = ExprPlace (record { 0 = id }); at = span; kinds = c.kinds ++ own_kinds (rules_of an frame) (seen_of an frame) id kind })
    fit r (marked _ (contains_head _ _)) refl (counted (is_reported an frame.module_at (ExprPlace (record { 0 = id }))) pays.reports))))) gives.typed
  where
    counted : (b : Bool) → reached an frame.activation t.trace ≡ reached an frame.activation s.trace + one_if b → b ≡ true
    counted true e = refl
    counted false e = absurd (omega (arith, h, e))

    around_kinds : (around own : List ReportKind) → own ≡ [] → around ++ own ≢ [] → around ≢ []
    around_kinds around own e n z = n (both_none around own z e)
      where
        both_none : (xs ys : List ReportKind) → xs ≡ [] → ys ≡ [] → xs ++ ys ≡ []
        both_none [] ys p q = q
        both_none (x ∷ xs) ys p q = cc

count_same : (b : Bool) (m n : ℕ) → n ≡ m + one_if b → (m < n → ⊥) → n ≡ m
count_same true m n e h = absurd (h (omega (arith, e)))
count_same false m n e h = omega (arith, e)

-- where the value isn't in the set, no reported place was reached, and the context wasn't violated
pub operand_quiet : (an : Analysis) (w : World) (s : State) (frame : Frame) (map : TypeMap) (e : Expr) (c : Check an frame e) (vs : List Value) (t : State) → Fit an → Runs an w s frame
    → Placed an frame (seen_expr (rules_of an frame) map e) → Marked an frame (found (rules_of an frame) (seen_of an frame) c.kinds e)
    → Gives an frame map e vs t → Pays an frame e s vs t → (holds t.store.heap (first vs) c.set ≡ true → ⊥)
    → reached an frame.activation t.trace ≡ reached an frame.activation s.trace
operand_quiet an w s frame map e c vs t fit r placed marked gives pays outside =
    count_same (is_reported an frame.module_at (ExprPlace (record { 0 = place_of e }))) (reached an frame.activation s.trace) (reached an frame.activation t.trace) pays.reports
    (λ l. outside (operand_in an w s frame map e c vs t fit r placed marked gives pays (inr l)))

pub operand_safe : (an : Analysis) (w : World) (s : State) (frame : Frame) (map : TypeMap) (e : Expr) (c : Check an frame e) (vs : List Value) (t : State) → Fit an → Runs an w s frame
    → Placed an frame (seen_expr (rules_of an frame) map e) → Marked an frame (found (rules_of an frame) (seen_of an frame) c.kinds e)
    → Gives an frame map e vs t → Pays an frame e s vs t → (holds t.store.heap (first vs) c.set ≡ true → ⊥)
    → Violated an frame (ev (rules_of an frame) (seen_of an frame) e c.asked) s → ⊥
operand_safe an w s frame map e c vs t fit r placed marked gives pays outside h = outside (operand_in an w s frame map e c vs t fit r placed marked gives pays (inl h))

-- an operand and what follows it: its value is in the set, or what follows is in trouble from its end
pub operand_then : (an : Analysis) (w : World) (s : State) (frame : Frame) (map : TypeMap) (e : Expr) (c : Check an frame e) (behind : Context) (vs : List Value) (m t : State)
    → Fit an → Fine an w s → Runs an w s frame → Placed an frame (seen_expr (rules_of an frame) map e)
    → Marked an frame (found (rules_of an frame) (seen_of an frame) c.kinds e) → Evaluated an w s frame map e vs m
    → Trouble an frame (followed (ev (rules_of an frame) (seen_of an frame) e c.asked) (effects (rules_of an frame) e) behind) s t
    → (holds m.store.heap (first vs) c.set ≡ true) ⊎ Trouble an frame behind m t
operand_then an w s frame map e c behind vs m t fit f r placed marked o (inl h) = by_side
    (violated_followed an w o.world s m frame (ev (rules_of an frame) (seen_of an frame) e c.asked) behind (effects (rules_of an frame) e) f r o.kept h)
  where
    by_side : Violated an frame (ev (rules_of an frame) (seen_of an frame) e c.asked) s ⊎ Violated an frame behind m
        → (holds m.store.heap (first vs) c.set ≡ true) ⊎ Trouble an frame behind m t
    by_side (inl k) = inl (operand_in an w s frame map e c vs m fit r placed marked o.gives o.pays (inl k))
    by_side (inr k) = inr (inl k)
operand_then an w s frame map e c behind vs m t fit f r placed marked o (inr h) =
    by_side (count_split (reached an frame.activation s.trace) (reached an frame.activation m.trace) (reached an frame.activation t.trace) h)
  where
    by_side : (reached an frame.activation s.trace < reached an frame.activation m.trace) ⊎ (reached an frame.activation m.trace < reached an frame.activation t.trace)
        → (holds m.store.heap (first vs) c.set ≡ true) ⊎ Trouble an frame behind m t
    by_side (inl k) = inl (operand_in an w s frame map e c vs m fit r placed marked o.gives o.pays (inr k))
    by_side (inr k) = inr (inr k)

-- ---- lists

-- a set lasts while a list is evaluated: nothing in the list has effects, or the set holds in every later heap
abbrev pub Lasting : Analysis → Frame → Exprs → Term → Type 0
Lasting an frame rest set = (any_effects (rules_of an frame) rest ≡ false) ⊎ (heap_free set ≡ true)

-- a check of each expression of a list, by a set that lasts
abbrev pub Checks : Analysis → Frame → Exprs → Type 0
Checks an frame no_exprs = Unit {0}
Checks an frame (more_exprs e rest) = (c : Check an frame e) × Lasting an frame rest c.set × Checks an frame rest

-- their context, with what comes behind them, and what is found in them
abbrev pub ev_checks : (an : Analysis) (frame : Frame) (es : Exprs) → Checks an frame es → Context → Context
ev_checks an frame no_exprs c behind = behind
ev_checks an frame (more_exprs e rest) c behind =
    followed (ev (rules_of an frame) (seen_of an frame) e c.0.asked) (effects (rules_of an frame) e) (ev_checks an frame rest c.2 behind)

abbrev pub found_checks : (an : Analysis) (frame : Frame) (es : Exprs) → Checks an frame es → List Finding
found_checks an frame no_exprs c = []
found_checks an frame (more_exprs e rest) c = found (rules_of an frame) (seen_of an frame) c.0.kinds e ++ found_checks an frame rest c.2

-- some value, nil where it isn't given, is in the set at its position
abbrev pub SomeIn : (an : Analysis) (frame : Frame) (es : Exprs) → Checks an frame es → Heap → List Value → Type 0
SomeIn an frame no_exprs c heap vs = ⊥
SomeIn an frame (more_exprs e rest) c heap vs = (holds heap (first vs) c.0.set ≡ true) ⊎ SomeIn an frame rest c.2 heap (drop 1 vs)

-- a value in a set that lasts is in it after the list
lasts_past : (an : Analysis) (w v : World) (s t : State) (frame : Frame) (rest : Exprs) (x : Value) (set : Term) → Fine an w s → Runs an w s frame
    → Kept an (part_of frame (any_effects (rules_of an frame) rest)) w s v t → Stands s.store.heap x → Lasting an frame rest set → holds s.store.heap x set ≡ true
    → holds t.store.heap x set ≡ true
lasts_past an w v s t frame rest x set f r k there (inl e) h =
    type_kept an (part_of frame (any_effects (rules_of an frame) rest)) w v s t frame f r k x set (inl (ap not e)) there h
lasts_past an w v s t frame rest x set f r k there (inr e) h =
    type_kept an (part_of frame (any_effects (rules_of an frame) rest)) w v s t frame f r k x set (inr e) there h

-- the first of several, and the rest
pub first_of_list : (l : Layer) (frame : Frame) (e next : Expr) (rest : Exprs) (s : State) (vs : List Value) (t : State) → all_values l frame (more_exprs e (more_exprs next rest)) s ≡ Gave vs t
    → (one : List Value) × (m : State) × (others : List Value) × (l.values frame e s ≡ Gave one m) × (all_values l frame (more_exprs next rest) m ≡ Gave others t) × (vs ≡ first one ∷ others)
unfolding ◌>>=◌ give
first_of_list l frame e next rest s vs t q = by_value (gave_then (value l frame e s) (λ v. ◌>>=◌ (all_values l frame (more_exprs next rest)) (λ values. give (v ∷ values))) vs t q)
  where
    by_value : (v : Value) × (m : State) × (value l frame e s ≡ Gave v m) × (◌>>=◌ (all_values l frame (more_exprs next rest)) (λ values. give (v ∷ values)) m ≡ Gave vs t)
        → (one : List Value) × (m : State) × (others : List Value) × (l.values frame e s ≡ Gave one m) × (all_values l frame (more_exprs next rest) m ≡ Gave others t) × (vs ≡ first one ∷ others)
    by_value p = by_rest (value_gave l frame e s p.0 p.1 p.2) (gave_then (all_values l frame (more_exprs next rest) p.1) (λ values. give (p.0 ∷ values)) vs t p.3)
      where
        by_rest : (one : List Value) × (l.values frame e s ≡ Gave one p.1) × (p.0 ≡ first one)
            → (others : List Value) × (u : State) × (all_values l frame (more_exprs next rest) p.1 ≡ Gave others u) × (give (p.0 ∷ others) u ≡ Gave vs t)
            → (one : List Value) × (m : State) × (others : List Value) × (l.values frame e s ≡ Gave one m) × (all_values l frame (more_exprs next rest) m ≡ Gave others t) × (vs ≡ first one ∷ others)
        by_rest a b = (
          a.0,
          p.1,
          b.0,
          a.1,
          subst (λ (y : State). all_values l frame (more_exprs next rest) p.1 ≡ Gave b.0 y) (gave_same (p.0 ∷ b.0) vs b.1 t b.3).1 b.2,
          sym (gave_same (p.0 ∷ b.0) vs b.1 t b.3).0 ∙ ap (λ (y : Value). y ∷ b.0) a.2,
        )

pub list_pays : (an : Analysis) (l : Layer) → Fit an → Forward an l → Backward an l → (w : World) (s : State) (frame : Frame) (map : TypeMap) (es : Exprs) (c : Checks an frame es)
    (behind : Context) → Fine an w s → Runs an w s frame → Held an frame map s → Inside frame (of_exprs es) (stats_of_exprs es)
    → Placed an frame (seen_list (rules_of an frame) map es) → Marked an frame (found_checks an frame es c) → (vs : List Value) (t : State)
    → all_values l frame es s ≡ Gave vs t → Trouble an frame (ev_checks an frame es c behind) s t → SomeIn an frame es c t.store.heap vs ⊎ Violated an frame behind t
unfolding give
list_pays an l fit fwd bwd w s frame map no_exprs c behind f r h inside placed marked vs t q (inl y) =
    inr (subst (λ (x : State). Violated an frame behind x) (gave_same [] vs s t q).1 y)
list_pays an l fit fwd bwd w s frame map no_exprs c behind f r h inside placed marked vs t q (inr y) =
    absurd (omega (arith, y, ap (λ (x : State). reached an frame.activation x.trace) (gave_same [] vs s t q).1))
list_pays an l fit fwd bwd w s frame map (more_exprs e no_exprs) c behind f r h inside placed marked vs t q y = by_side
    (operand_then an w s frame map e c.0 behind vs t t fit f r
    (sub_left (seen_expr (rules_of an frame) map e) (seen_list (rules_of an frame) (after (rules_of an frame) map e) no_exprs) (seen_of an frame) placed)
    (sub_left (found (rules_of an frame) (seen_of an frame) c.0.kinds e) [] (findings (rules_of an frame)) marked)
    (evaluated an l fwd bwd w s frame map e c.0.kinds f r h (inside_left frame (of_expr e) (of_exprs no_exprs) (stats_of_expr e) (stats_of_exprs no_exprs) inside)
    (sub_left (seen_expr (rules_of an frame) map e) (seen_list (rules_of an frame) (after (rules_of an frame) map e) no_exprs) (seen_of an frame) placed)
    (sub_left (found (rules_of an frame) (seen_of an frame) c.0.kinds e) [] (findings (rules_of an frame)) marked) vs t q) y)
  where
    by_side : (holds t.store.heap (first vs) c.0.set ≡ true) ⊎ Trouble an frame behind t t → SomeIn an frame (more_exprs e no_exprs) c t.store.heap vs ⊎ Violated an frame behind t
    by_side (inl k) = inl (inl k)
    by_side (inr (inl k)) = inr k
    by_side (inr (inr k)) = absurd (omega (arith, k))
list_pays an l fit fwd bwd w s frame map (more_exprs e (more_exprs next rest)) c behind f r h inside placed marked vs t q y = by_parts (first_of_list l frame e next rest s vs t q)
    (λ o m others g i p n j k z. list_pays an l fit fwd bwd o m frame (after (rules_of an frame) map e) (more_exprs next rest) c.2 behind g i p n j k others t z)
  where
    inside_first : Inside frame (of_expr e) (stats_of_expr e)
    inside_first = inside_left frame (of_expr e) (of_exprs (more_exprs next rest)) (stats_of_expr e) (stats_of_exprs (more_exprs next rest)) inside

    inside_rest : Inside frame (of_exprs (more_exprs next rest)) (stats_of_exprs (more_exprs next rest))
    inside_rest = inside_right frame (of_expr e) (of_exprs (more_exprs next rest)) (stats_of_expr e) (stats_of_exprs (more_exprs next rest)) inside

    placed_first : Placed an frame (seen_expr (rules_of an frame) map e)
    placed_first = sub_left (seen_expr (rules_of an frame) map e) (seen_list (rules_of an frame) (after (rules_of an frame) map e) (more_exprs next rest)) (seen_of an frame) placed

    placed_rest : Placed an frame (seen_list (rules_of an frame) (after (rules_of an frame) map e) (more_exprs next rest))
    placed_rest = sub_right (seen_expr (rules_of an frame) map e) (seen_list (rules_of an frame) (after (rules_of an frame) map e) (more_exprs next rest)) (seen_of an frame) placed

    marked_first : Marked an frame (found (rules_of an frame) (seen_of an frame) c.0.kinds e)
    marked_first = sub_left (found (rules_of an frame) (seen_of an frame) c.0.kinds e) (found_checks an frame (more_exprs next rest) c.2) (findings (rules_of an frame)) marked

    marked_rest : Marked an frame (found_checks an frame (more_exprs next rest) c.2)
    marked_rest = sub_right (found (rules_of an frame) (seen_of an frame) c.0.kinds e) (found_checks an frame (more_exprs next rest) c.2) (findings (rules_of an frame)) marked

    by_parts : (one : List Value) × (m : State) × (others : List Value) × (l.values frame e s ≡ Gave one m) × (all_values l frame (more_exprs next rest) m ≡ Gave others t) × (vs ≡ first one ∷ others)
        → ((v : World) (m : State) (others : List Value) → Fine an v m → Runs an v m frame → Held an frame (after (rules_of an frame) map e) m
        → Inside frame (of_exprs (more_exprs next rest)) (stats_of_exprs (more_exprs next rest))
        → Placed an frame (seen_list (rules_of an frame) (after (rules_of an frame) map e) (more_exprs next rest)) → Marked an frame (found_checks an frame (more_exprs next rest) c.2)
        → all_values l frame (more_exprs next rest) m ≡ Gave others t → Trouble an frame (ev_checks an frame (more_exprs next rest) c.2 behind) m t
        → SomeIn an frame (more_exprs next rest) c.2 t.store.heap others ⊎ Violated an frame behind t)
        → SomeIn an frame (more_exprs e (more_exprs next rest)) c t.store.heap vs ⊎ Violated an frame behind t
    by_parts p again = by_first (evaluated an l fwd bwd w s frame map e c.0.kinds f r h inside_first placed_first marked_first p.0 p.1 p.3)
      where
        by_first : Evaluated an w s frame map e p.0 p.1 → SomeIn an frame (more_exprs e (more_exprs next rest)) c t.store.heap vs ⊎ Violated an frame behind t
        by_first o = by_side (operand_then an w s frame map e c.0 (ev_checks an frame (more_exprs next rest) c.2 behind) p.0 p.1 t fit f r placed_first marked_first o y)
            (ends_gave an (part_of frame (any_effects (rules_of an frame) (more_exprs next rest))) o.world p.1 (ListGives an frame (after (rules_of an frame) map e) (more_exprs next rest))
            (all_values l frame (more_exprs next rest) p.1) p.2 t p.4
            (list_forward an l fwd o.world p.1 frame (after (rules_of an frame) map e) (more_exprs next rest) o.fine o.runs o.held inside_rest placed_rest))
          where
            by_rest : SomeIn an frame (more_exprs next rest) c.2 t.store.heap p.2 ⊎ Violated an frame behind t
                → SomeIn an frame (more_exprs e (more_exprs next rest)) c t.store.heap (first p.0 ∷ p.2) ⊎ Violated an frame behind t
            by_rest (inl k) = inl (inr k)
            by_rest (inr k) = inr k

            by_side : (holds p.1.store.heap (first p.0) c.0.set ≡ true) ⊎ Trouble an frame (ev_checks an frame (more_exprs next rest) c.2 behind) p.1 t
                → (v : World) × Fine an v t × Kept an (part_of frame (any_effects (rules_of an frame) (more_exprs next rest))) o.world p.1 v t
                × ListGives an frame (after (rules_of an frame) map e) (more_exprs next rest) p.2 t
                → SomeIn an frame (more_exprs e (more_exprs next rest)) c t.store.heap vs ⊎ Violated an frame behind t
            by_side (inl k) z = subst (λ (xs : List Value). SomeIn an frame (more_exprs e (more_exprs next rest)) c t.store.heap xs ⊎ Violated an frame behind t) (sym p.5)
                (inl (inl (lasts_past an o.world z.0 p.1 t frame (more_exprs next rest) (first p.0) c.0.set o.fine o.runs z.2 (first_stands p.1.store.heap p.0 o.gives.stand) c.1 k)))
            by_side (inr k) z = subst (λ (xs : List Value). SomeIn an frame (more_exprs e (more_exprs next rest)) c t.store.heap xs ⊎ Violated an frame behind t) (sym p.5)
                (by_rest (again o.world p.1 p.2 o.fine o.runs o.held inside_rest placed_rest marked_rest p.4 k))
