-- The targets of an assignment, which are evaluated but for what they name, forward and backward.
use Rattle.std.proofs.Common.{◌≡◌, ℕ, Bool, true, false, ◌||◌, List, [], ◌∷◌, ◌++◌, Option, Some, None, ◌⊎◌, inl, inr, refl, sym, subst, slice_get}
use Rattle.luau_values.specs.Value.{Value}
use Rattle.luau_values.specs.Heap.{Heap}
use Rattle.luau_values.specs.Later.{Later}
use Rattle.luau_values.specs.Stands.{Stands}
use Rattle.luau_values.proofs.Public.{stands_later}
use Rattle.luau_tree.specs.Tree.{Expr, the_expr, StrExpr, NameExpr, Index, At, Exprs, no_exprs, more_exprs}
use Rattle.luau_tree.specs.declared.names.Op.TheVariants.{Write as WriteOp}
use Rattle.luau_run.specs.ReadModule.{Use, UseLocal, UseBuiltin, UseLibrary, UseGlobal, ReadModule}
use Rattle.luau_run.specs.ReadFolder.{local_of}
use Rattle.luau_run.specs.SyntaxNode.{of_expr, of_exprs}
use Rattle.luau_run.specs.Machine.{Store, State, Gave, go_on, ◌>>=◌, give, spend}
use Rattle.luau_run.specs.Layer.{Frame, Layer, first}
use Rattle.luau_run.specs.Operators.{Base}
use Rattle.luau_run.specs.Expressions.{cell_of, value, base_of, is_library}
use Rattle.luau_run.specs.Statements.{Target, FieldTarget, ElementTarget, name_target, target, targets}
use Rattle.type_normal.specs.Holds.{holds}
use Rattle.type_normal.specs.Failing.{write_fail}
use Rattle.type_normal.proofs.Public.{never_none, free_later}
use Rattle.type_arena.specs.Term.{never}
use Rattle.report_rules.specs.Rules.{Rules, local_named}
use Rattle.report_rules.specs.Effects.{of_name, target_of, targets_of, effects, any_effects}
use Rattle.report_rules.specs.TypeMap.{TypeMap}
use Rattle.report_rules.specs.Forward.{typ, held, after, after_list}
use Rattle.report_rules.specs.Seen.{seen_expr, seen_target, seen_targets}
use Rattle.report_rules.specs.Context.{Context, followed}
use Rattle.report_rules.specs.Checks.{Operand}
use Rattle.report_rules.specs.Errors.{ev}
use Rattle.report_rules.specs.Statements.{write_kinds, ev_base, ev_target, ev_targets}
use Rattle.report_rules.specs.Findings.{found, found_target, found_targets}
use Rattle.report_rules.specs.Reports.{findings}
use Rattle.run_frame.specs.Analysis.{Analysis}
use Rattle.run_frame.specs.Statements.{stats_of_expr, stats_of_exprs}
use Rattle.run_frame.specs.Fit.{Fit}
use Rattle.run_frame.proofs.World.{World}
use Rattle.run_frame.proofs.Kept.{Doer, Kept}
use Rattle.run_frame.proofs.Fine.{Fine}
use Rattle.run_frame.proofs.Held.{Runs, runs_kept, Reads, Held, reads_after}
use Rattle.run_frame.proofs.Parts.{Ends, ends_then, ends_so, ends_more, ends_give, ends_gave, gave_then, gave_same, gave_not_spent}
use Rattle.run_frame.proofs.Layers.{rules_of, seen_of, part_of, expr_of, Inside, Placed, Marked, Trouble, Forward, Backward}
use Rattle.run_frame.proofs.Readings.{reads_same, sub_tail, sub_left, sub_right}
use Rattle.run_frame.proofs.Passing.{held_after}
use Rattle.run_frame.proofs.Lists.{may_first, may_second, held_typed, inside_left, inside_right, FirstOf}
use Rattle.run_frame.proofs.Forms.{value_gave, Evaluated, evaluated, After, value_forward, first_stands}
use Rattle.run_frame.proofs.ListsBack.{by_set, unchecked, operand_then}
use Rattle.reports_certain.proofs.ItemForms.{KeyIs, key_is}
use Rattle.reports_certain.proofs.FieldReads.{BaseGives, base_forward, base_gave}
use Rattle.reports_certain.proofs.ReadForms.{within_index, within_at}
use Rattle.reports_certain.proofs.FieldWrites.{Meets, base_in}
use Rattle.reports_certain.proofs.ManyWrites.{AllMeet}
use Rattle.reports_certain.proofs.AloneWrites.{base_local, IsBased}
use Rattle.reports_certain.proofs.WritesLeave.{IsBad, SomeBad, bad_moved}

-- ---- what an evaluated target is

-- it is as the rules mean it; its base stands, and is what a local holds that the base names
pub record TargetGives (an : Analysis) (frame : Frame) (e : Expr) (goal : Target) (t : State) : Type 0 where
  pub met : Meets (target_of (rules_of an frame) e) goal
  pub stands : Stands t.store.heap (base_in goal)
  pub based : IsBased an frame t (target_of (rules_of an frame) e) (base_in goal)

-- and it stays so while other parts are evaluated
pub target_moved : (an : Analysis) (w v : World) (s t : State) (frame : Frame) (b : Bool) (e : Expr) (goal : Target) → Fine an w s → Runs an w s frame → Kept an (part_of frame b) w s v t
    → TargetGives an frame e goal s → TargetGives an frame e goal t
target_moved an w v s t frame b e goal f r k g = record {
  met = g.met;
  stands = stands_later s.store.heap t.store.heap (base_in goal) k.heap g.stands;
  based = λ x is firm. let p : (c : ℕ) × Reads frame s x c (base_in goal) = g.based x is firm in
      (p.0, reads_after an (part_of frame b) w v s t frame f r k x p.0 (base_in goal) refl refl firm p.1);
}

-- and where nothing changes
pub target_still : (an : Analysis) (frame : Frame) (e : Expr) (goal : Target) (s t : State) → t.store ≡ s.store → TargetGives an frame e goal s → TargetGives an frame e goal t
target_still an frame e goal s t same g = record {
  met = g.met;
  stands = subst (λ (x : Store). Stands x.heap (base_in goal)) (sym same) g.stands;
  based = λ x is firm. let p : (c : ℕ) × Reads frame s x c (base_in goal) = g.based x is firm in
      (p.0, subst (λ (y : Store). (cell_of y.bindings frame.activation x ≡ Some p.0) × (slice_get y.cells p.0 ≡ Some (base_in goal))) (sym same) p.1);
}

named_met : (u : Option Use) → Meets (of_name (local_of u)) (name_target u)
named_met (Some (UseLocal x)) = refl
named_met (Some (UseBuiltin path)) = tt
named_met (Some UseLibrary) = tt
named_met (Some UseGlobal) = tt
named_met None = tt

named_stands : (heap : Heap) (u : Option Use) → Stands heap (base_in (name_target u))
named_stands heap (Some (UseLocal x)) = tt
named_stands heap (Some (UseBuiltin path)) = tt
named_stands heap (Some UseLibrary) = tt
named_stands heap (Some UseGlobal) = tt
named_stands heap None = tt

named_based : (o : Option ℕ) (x : ℕ) → base_local (of_name o) ≡ Some x → ⊥
named_based None x e = cc
named_based (Some y) x e = cc

name_gives : (an : Analysis) (w : World) (s : State) (frame : Frame) (id : ℕ) (span : _) (name : List ℕ) → Fit an → Runs an w s frame
    → TargetGives an frame (the_expr id span (NameExpr name)) (name_target (frame.reading.use_of id)) s
name_gives an w s frame id span name fit r = record {
  met = subst (λ (x : ReadModule). Meets (of_name (local_of (x.use_of id))) (name_target (frame.reading.use_of id))) (sym (reads_same an w s frame fit r)) (named_met (frame.reading.use_of id));
  stands = named_stands s.store.heap (frame.reading.use_of id);
  based = λ x e firm. absurd (named_based (local_of ((rules_of an frame).reading.use_of id)) x e);
}

-- a base that was evaluated, as that of a field
field_gives : (an : Analysis) (frame : Frame) (map : TypeMap) (id : ℕ) (span : _) (base : Expr) (name : List ℕ) (b : Base) (t : State) → BaseGives an frame map base b t
    → TargetGives an frame (the_expr id span (Index base name)) (FieldTarget b name) t
field_gives an frame map id span base name b t ((vs, is, (g, held)), lib) = record {
  met = refl;
  stands = subst (λ (v : Value). Stands t.store.heap v) (sym is) (first_stands t.store.heap vs g.stand);
  based = λ x e firm. let p : (c : ℕ) × Reads frame t x c (first vs) = g.local x e firm in (p.0, subst (λ (v : Value). Reads frame t x p.0 v) (sym is) p.1);
}

-- and by a key
key_meets : (rules : Rules) (id : ℕ) (span : _) (base key : Expr) (b : Base) (k : Value) → KeyIs key k → Meets (target_of rules (the_expr id span (At base key))) (ElementTarget b k)
key_meets rules id span base (the_expr key_id key_span (StrExpr name)) b k is = is
key_meets rules id span base (the_expr key_id key_span _) b k is = tt

key_based : (rules : Rules) (id : ℕ) (span : _) (base key : Expr) (x : ℕ) → base_local (target_of rules (the_expr id span (At base key))) ≡ Some x → local_named rules base ≡ Some x
key_based rules id span base (the_expr key_id key_span (StrExpr name)) x e = e
key_based rules id span base (the_expr key_id key_span _) x e = cc

element_gives : (an : Analysis) (w v : World) (t n : State) (frame : Frame) (map : TypeMap) (id : ℕ) (span : _) (base key : Expr) (b : Base) (k : Value) (c : Bool) → Fine an w t → Runs an w t frame
    → Kept an (part_of frame c) w t v n → BaseGives an frame map base b t → KeyIs key k → TargetGives an frame (the_expr id span (At base key)) (ElementTarget b k) n
element_gives an w v t n frame map id span base key b k c f r kept ((vs, is, (g, held)), lib) key_known = record {
  met = key_meets (rules_of an frame) id span base key b k key_known;
  stands = stands_later t.store.heap n.store.heap b.value kept.heap (subst (λ (u : Value). Stands t.store.heap u) (sym is) (first_stands t.store.heap vs g.stand));
  based = λ x e firm. let p : (d : ℕ) × Reads frame t x d (first vs) = g.local x (key_based (rules_of an frame) id span base key x e) firm in
      (p.0, reads_after an (part_of frame c) w v t n frame f r kept x p.0 b.value refl refl firm (subst (λ (u : Value). Reads frame t x p.0 u) (sym is) p.1));
}

-- and its base is of its type, by which a compound reads it
abbrev pub IsBaseOf : Analysis → Frame → TypeMap → Expr → Target → State → Type 0
IsBaseOf an frame map (the_expr id span (NameExpr name)) goal t = goal ≡ name_target (frame.reading.use_of id)
IsBaseOf an frame map (the_expr id span (Index base name)) (FieldTarget b other) t =
    (other ≡ name) × (holds t.store.heap b.value (typ (rules_of an frame) map base) ≡ true) × (b.is_library ≡ is_library frame base)
IsBaseOf an frame map (the_expr id span (At base key)) (ElementTarget b k) t =
    KeyIs key k × (holds t.store.heap b.value (held (effects (rules_of an frame) key) (typ (rules_of an frame) map base)) ≡ true) × (b.is_library ≡ is_library frame base)
IsBaseOf an frame map _ goal t = ⊥

field_base : (an : Analysis) (frame : Frame) (map : TypeMap) (id : ℕ) (span : _) (base : Expr) (name : List ℕ) (b : Base) (t : State) → BaseGives an frame map base b t
    → IsBaseOf an frame map (the_expr id span (Index base name)) (FieldTarget b name) t
field_base an frame map id span base name b t ((vs, is, (g, held_there)), lib) =
    (refl, subst (λ (v : Value). holds t.store.heap v (typ (rules_of an frame) map base) ≡ true) (sym is) g.typed, lib)

element_base : (an : Analysis) (w v : World) (t n : State) (frame : Frame) (map : TypeMap) (id : ℕ) (span : _) (base key : Expr) (b : Base) (k : Value) → Fine an w t
    → Kept an (expr_of an frame key) w t v n → BaseGives an frame map base b t → KeyIs key k → IsBaseOf an frame map (the_expr id span (At base key)) (ElementTarget b k) n
element_base an w v t n frame map id span base key b k f kept ((vs, is, (g, held_there)), lib) key_known = (
  key_known,
  held_typed an w v t n frame (effects (rules_of an frame) key) b.value (typ (rules_of an frame) map base) f kept
      (subst (λ (u : Value). Stands t.store.heap u) (sym is) (first_stands t.store.heap vs g.stand))
      (subst (λ (u : Value). holds t.store.heap u (typ (rules_of an frame) map base) ≡ true) (sym is) g.typed),
  lib,
)

-- ---- forward

abbrev pub TargetBoth : Analysis → Frame → TypeMap → Expr → Target → State → Type 0
TargetBoth an frame map e goal t = TargetGives an frame e goal t × IsBaseOf an frame map e goal t

module _ (an : Analysis) (l : Layer) (fit : Fit an) (fwd : Forward an l) (frame : Frame) where
  target_ends : (w : World) (s : State) (map : TypeMap) (e : Expr) → Fine an w s → Runs an w s frame → Held an frame map s → Inside frame (of_expr e) (stats_of_expr e)
      → Placed an frame (seen_target (rules_of an frame) map e) → Ends an (part_of frame (effects (rules_of an frame) e)) w s (TargetBoth an frame map e) (target l frame e s)
  unfolding ◌>>=◌ give spend
  target_ends w s map (the_expr id span (NameExpr name)) f r h inside placed =
      ends_give an (part_of frame false) w s (TargetBoth an frame map (the_expr id span (NameExpr name))) (name_target (frame.reading.use_of id)) f
      (name_gives an w s frame id span name fit r, refl)
  target_ends w s map (the_expr id span (Index base name)) f r h inside placed = ends_then an (part_of frame (effects (rules_of an frame) base)) w s (BaseGives an frame map base)
      (TargetBoth an frame map (the_expr id span (Index base name))) (base_of l frame base s) (λ b. give (FieldTarget b name))
      (base_forward an l fwd w s frame map base f r h (within_index frame id span base name inside) (sub_tail _ (seen_expr (rules_of an frame) map base) (seen_of an frame) placed))
      (λ b t z g k p. ends_give an (part_of frame (effects (rules_of an frame) base)) z t (TargetBoth an frame map (the_expr id span (Index base name))) (FieldTarget b name) g
      (field_gives an frame map id span base name b t p, field_base an frame map id span base name b t p))
  target_ends w s map (the_expr id span (At base key)) f r h inside placed = ends_then an who w s (BaseGives an frame map base) Q (base_of l frame base s)
      (λ b. ◌>>=◌ (value l frame key) (λ k. give (ElementTarget b k)))
      (ends_more an (expr_of an frame base) who w s (BaseGives an frame map base) (base_of l frame base s) (may_first frame (effects (rules_of an frame) base) (effects (rules_of an frame) key))
      (base_forward an l fwd w s frame map base f r h (inside_left frame (of_expr base) (of_expr key) (stats_of_expr base) (stats_of_expr key) (within_at frame id span base key inside))
      (sub_left (seen_expr (rules_of an frame) map base) (seen_expr (rules_of an frame) (after (rules_of an frame) map base) key) (seen_of an frame) placed_both)))
      (λ b t z g k p. after_base b t z g (runs_kept an who w z s t frame k r) p)
    where
      who : Doer
      who = part_of frame (effects (rules_of an frame) base || effects (rules_of an frame) key)

      Q : Target → State → Type 0
      Q goal t = TargetBoth an frame map (the_expr id span (At base key)) goal t

      inside_key : Inside frame (of_expr key) (stats_of_expr key)
      inside_key = inside_right frame (of_expr base) (of_expr key) (stats_of_expr base) (stats_of_expr key) (within_at frame id span base key inside)

      placed_both : Placed an frame (seen_expr (rules_of an frame) map base ++ seen_expr (rules_of an frame) (after (rules_of an frame) map base) key)
      placed_both = sub_tail _ (seen_expr (rules_of an frame) map base ++ seen_expr (rules_of an frame) (after (rules_of an frame) map base) key) (seen_of an frame) placed

      Keyed : Base → Value → State → Type 0
      Keyed b k n = TargetBoth an frame map (the_expr id span (At base key)) (ElementTarget b k) n

      after_base : (b : Base) (t : State) (z : World) → Fine an z t → Runs an z t frame → BaseGives an frame map base b t
          → Ends an who z t Q (go_on (value l frame key t) (λ k. give (ElementTarget b k)))
      after_base b t z g j p = ends_then an who z t (Keyed b) Q (value l frame key t) (λ k. give (ElementTarget b k))
          (ends_more an (expr_of an frame key) who z t (Keyed b) (value l frame key t) (may_second frame (effects (rules_of an frame) base) (effects (rules_of an frame) key))
          (ends_so an (expr_of an frame key) z t (FirstOf (After an frame (after (rules_of an frame) map base) key)) (Keyed b) (value l frame key t)
          (λ k n x e c kept q. let known : KeyIs key k = subst (λ (a : Value). KeyIs key a) (sym q.1) (key_is an z t frame (after (rules_of an frame) map base) key q.0 n fit j inside_key q.2.0) in
          (element_gives an z x t n frame map id span base key b k (effects (rules_of an frame) key) g j kept p known, element_base an z x t n frame map id span base key b k g kept p known))
          (value_forward an l fwd z t frame (after (rules_of an frame) map base) key g j p.0.2.1 inside_key
          (sub_right (seen_expr (rules_of an frame) map base) (seen_expr (rules_of an frame) (after (rules_of an frame) map base) key) (seen_of an frame) placed_both))))
          (λ k n x c i q. ends_give an who x n Q (ElementTarget b k) c q)
  target_ends w s map (the_expr id span _) f r h inside placed = f.stays

  pub target_reads : (w : World) (s : State) (map : TypeMap) (e : Expr) → Fine an w s → Runs an w s frame → Held an frame map s → Inside frame (of_expr e) (stats_of_expr e)
      → Placed an frame (seen_target (rules_of an frame) map e)
      → Ends an (part_of frame (effects (rules_of an frame) e)) w s (λ goal t. TargetBoth an frame map e goal t × Held an frame (after (rules_of an frame) map e) t) (target l frame e s)
  target_reads w s map e f r h inside placed = ends_so an (part_of frame (effects (rules_of an frame) e)) w s (TargetBoth an frame map e)
      (λ goal t. TargetBoth an frame map e goal t × Held an frame (after (rules_of an frame) map e) t) (target l frame e s)
      (λ goal t v q g k p. (p, held_after an w v s t frame map (effects (rules_of an frame) e) f r k h)) (target_ends w s map e f r h inside placed)

  pub target_forward : (w : World) (s : State) (map : TypeMap) (e : Expr) → Fine an w s → Runs an w s frame → Held an frame map s → Inside frame (of_expr e) (stats_of_expr e)
      → Placed an frame (seen_target (rules_of an frame) map e)
      → Ends an (part_of frame (effects (rules_of an frame) e)) w s (λ goal t. TargetGives an frame e goal t × Held an frame (after (rules_of an frame) map e) t) (target l frame e s)
  target_forward w s map e f r h inside placed = ends_so an (part_of frame (effects (rules_of an frame) e)) w s
      (λ goal t. TargetBoth an frame map e goal t × Held an frame (after (rules_of an frame) map e) t)
      (λ goal t. TargetGives an frame e goal t × Held an frame (after (rules_of an frame) map e) t) (target l frame e s)
      (λ goal t v q g k p. (p.0.0, p.1)) (target_reads w s map e f r h inside placed)

-- ---- several targets

abbrev pub AllGive : Analysis → Frame → Exprs → List Target → State → Type 0
AllGive an frame no_exprs [] t = Unit {0}
AllGive an frame (more_exprs e rest) (goal ∷ goals) t = TargetGives an frame e goal t × AllGive an frame rest goals t
AllGive an frame _ _ t = ⊥

pub all_meet : (an : Analysis) (frame : Frame) (es : Exprs) (goals : List Target) (t : State) → AllGive an frame es goals t → AllMeet (targets_of (rules_of an frame) es) goals
all_meet an frame no_exprs [] t h = tt
all_meet an frame no_exprs (goal ∷ goals) t h = absurd h
all_meet an frame (more_exprs e rest) [] t h = absurd h
all_meet an frame (more_exprs e rest) (goal ∷ goals) t h = (h.0.met, all_meet an frame rest goals t h.1)

pub all_moved : (an : Analysis) (w v : World) (s t : State) (frame : Frame) (b : Bool) (es : Exprs) (goals : List Target) → Fine an w s → Runs an w s frame → Kept an (part_of frame b) w s v t
    → AllGive an frame es goals s → AllGive an frame es goals t
all_moved an w v s t frame b no_exprs [] f r k h = tt
all_moved an w v s t frame b no_exprs (goal ∷ goals) f r k h = absurd h
all_moved an w v s t frame b (more_exprs e rest) [] f r k h = absurd h
all_moved an w v s t frame b (more_exprs e rest) (goal ∷ goals) f r k h = (target_moved an w v s t frame b e goal f r k h.0, all_moved an w v s t frame b rest goals f r k h.1)

module _ (an : Analysis) (l : Layer) (fit : Fit an) (fwd : Forward an l) (frame : Frame) where
  targets_ends : (w : World) (s : State) (map : TypeMap) (es : Exprs) → Fine an w s → Runs an w s frame → Held an frame map s → Inside frame (of_exprs es) (stats_of_exprs es)
      → Placed an frame (seen_targets (rules_of an frame) map es) → Ends an (part_of frame (any_effects (rules_of an frame) es)) w s (AllGive an frame es) (targets l frame es s)
  unfolding ◌>>=◌ give
  targets_ends w s map no_exprs f r h inside placed = ends_give an (part_of frame false) w s (AllGive an frame no_exprs) [] f tt
  targets_ends w s map (more_exprs e rest) f r h inside placed = ends_then an who w s (λ goal t. TargetGives an frame e goal t × Held an frame (after (rules_of an frame) map e) t)
      (AllGive an frame (more_exprs e rest)) (target l frame e s) (λ goal. ◌>>=◌ (targets l frame rest) (λ goals. give (goal ∷ goals)))
      (ends_more an (part_of frame (effects (rules_of an frame) e)) who w s (λ goal t. TargetGives an frame e goal t × Held an frame (after (rules_of an frame) map e) t) (target l frame e s)
      (may_first frame (effects (rules_of an frame) e) (any_effects (rules_of an frame) rest))
      (target_forward an l fit fwd frame w s map e f r h (inside_left frame (of_expr e) (of_exprs rest) (stats_of_expr e) (stats_of_exprs rest) inside)
      (sub_left (seen_target (rules_of an frame) map e) (seen_targets (rules_of an frame) (after (rules_of an frame) map e) rest) (seen_of an frame) placed)))
      (λ goal t v g k p. ends_then an who v t (λ goals u. AllGive an frame (more_exprs e rest) (goal ∷ goals) u) (AllGive an frame (more_exprs e rest)) (targets l frame rest t)
      (λ goals. give (goal ∷ goals))
      (ends_more an (part_of frame (any_effects (rules_of an frame) rest)) who v t (λ goals u. AllGive an frame (more_exprs e rest) (goal ∷ goals) u) (targets l frame rest t)
      (may_second frame (effects (rules_of an frame) e) (any_effects (rules_of an frame) rest))
      (ends_so an (part_of frame (any_effects (rules_of an frame) rest)) v t (AllGive an frame rest) (λ goals u. AllGive an frame (more_exprs e rest) (goal ∷ goals) u) (targets l frame rest t)
      (λ goals u y q d j z. (target_moved an v y t u frame (any_effects (rules_of an frame) rest) e goal g (runs_kept an who w v s t frame k r) j p.0, z))
      (targets_ends v t (after (rules_of an frame) map e) rest g (runs_kept an who w v s t frame k r) p.1
      (inside_right frame (of_expr e) (of_exprs rest) (stats_of_expr e) (stats_of_exprs rest) inside)
      (sub_right (seen_target (rules_of an frame) map e) (seen_targets (rules_of an frame) (after (rules_of an frame) map e) rest) (seen_of an frame) placed))))
      (λ goals u y d j z. ends_give an who y u (AllGive an frame (more_exprs e rest)) (goal ∷ goals) d z))
    where
      who : Doer
      who = part_of frame (effects (rules_of an frame) e || any_effects (rules_of an frame) rest)

  pub targets_forward : (w : World) (s : State) (map : TypeMap) (es : Exprs) → Fine an w s → Runs an w s frame → Held an frame map s → Inside frame (of_exprs es) (stats_of_exprs es)
      → Placed an frame (seen_targets (rules_of an frame) map es)
      → Ends an (part_of frame (any_effects (rules_of an frame) es)) w s (λ goals t. AllGive an frame es goals t × Held an frame (after_list (rules_of an frame) map es) t) (targets l frame es s)
  targets_forward w s map es f r h inside placed = ends_so an (part_of frame (any_effects (rules_of an frame) es)) w s (AllGive an frame es)
      (λ goals t. AllGive an frame es goals t × Held an frame (after_list (rules_of an frame) map es) t) (targets l frame es s)
      (λ goals t v q g k p. (p, held_after an w v s t frame map (any_effects (rules_of an frame) es) f r k h)) (targets_ends w s map es f r h inside placed)

-- ---- backward

clash : {P : Type 0} (b : Bool) → b ≡ true → b ≡ false → P
clash b p q = cc

-- what can't be written can't be written later
unwritable_later : (h g : Heap) → Later h g → (v : Value) → holds h v write_fail ≡ true → holds g v write_fail ≡ true
unwritable_later h g later v e = free_later h g v write_fail refl later e

-- a bad base, and what comes behind
abbrev pub Comes : Analysis → Frame → Target → Context → (m t : State) → Type 0
Comes an frame goal behind m t = IsBad m.store.heap goal ⊎ Trouble an frame behind m t

module _ (an : Analysis) (l : Layer) (fit : Fit an) (fwd : Forward an l) (bwd : Backward an l) (frame : Frame) where
  -- a base and what follows it
  base_pays : (w : World) (s : State) (map : TypeMap) (base : Expr) (behind : Context) (b : Base) (m t : State) (vs : List Value) → Fine an w s → Runs an w s frame
      → Placed an frame (seen_expr (rules_of an frame) map base) → Marked an frame (found (rules_of an frame) (seen_of an frame) (write_kinds (seen_of an frame) base) base)
      → Evaluated an w s frame map base vs m → b.value ≡ first vs → Trouble an frame (ev_base (rules_of an frame) (seen_of an frame) base behind) s t
      → (holds m.store.heap b.value write_fail ≡ true) ⊎ Trouble an frame behind m t
  base_pays w s map base behind b m t vs f r placed marked o is y = by_side
      (operand_then an w s frame map base (by_set an frame base write_fail (Operand WriteOp)) behind vs m t fit f r placed marked o y)
    where
      by_side : (holds m.store.heap (first vs) write_fail ≡ true) ⊎ Trouble an frame behind m t → (holds m.store.heap b.value write_fail ≡ true) ⊎ Trouble an frame behind m t
      by_side (inl k) = inl (subst (λ (v : Value). holds m.store.heap v write_fail ≡ true) (sym is) k)
      by_side (inr k) = inr k

  pub target_pays : (w : World) (s : State) (map : TypeMap) (e : Expr) (behind : Context) → Fine an w s → Runs an w s frame → Held an frame map s → Inside frame (of_expr e) (stats_of_expr e)
      → Placed an frame (seen_target (rules_of an frame) map e) → Marked an frame (found_target (rules_of an frame) (seen_of an frame) [] e) → (goal : Target) (m t : State)
      → target l frame e s ≡ Gave goal m → Trouble an frame (ev_target (rules_of an frame) (seen_of an frame) e behind) s t → Comes an frame goal behind m t
  unfolding ◌>>=◌ give spend
  target_pays w s map (the_expr id span (NameExpr name)) behind f r h inside placed marked goal m t q y =
      inr (subst (λ (x : State). Trouble an frame behind x t) (gave_same (name_target (frame.reading.use_of id)) goal s m q).1 y)
  target_pays w s map (the_expr id span (Index base name)) behind f r h inside placed marked goal m t q y = by_base (gave_then (base_of l frame base s) (λ b. give (FieldTarget b name)) goal m q)
    where
      by_base : (b : Base) × (n : State) × (base_of l frame base s ≡ Gave b n) × (give (FieldTarget b name) n ≡ Gave goal m) → Comes an frame goal behind m t
      by_base (b, n, gave_base, gave_goal) = by_value (base_gave l frame base s b n gave_base) (gave_same (FieldTarget b name) goal n m gave_goal)
        where
          placed_base : Placed an frame (seen_expr (rules_of an frame) map base)
          placed_base = sub_tail _ (seen_expr (rules_of an frame) map base) (seen_of an frame) placed

          marked_base : Marked an frame (found (rules_of an frame) (seen_of an frame) (write_kinds (seen_of an frame) base) base)
          marked_base = sub_tail _ (found (rules_of an frame) (seen_of an frame) (write_kinds (seen_of an frame) base) base) (findings (rules_of an frame)) marked

          by_side : (holds n.store.heap b.value write_fail ≡ true) ⊎ Trouble an frame behind n t → Comes an frame (FieldTarget b name) behind n t
          by_side (inl k) = inl k
          by_side (inr k) = inr k

          by_value : (vs : List Value) × (l.values frame base s ≡ Gave vs n) × (b.value ≡ first vs) × (b.is_library ≡ is_library frame base) → (FieldTarget b name ≡ goal) × (n ≡ m)
              → Comes an frame goal behind m t
          by_value (vs, c, is, lib) (same, end) = subst (λ (g : Target). Comes an frame g behind m t) same (subst (λ (x : State). Comes an frame (FieldTarget b name) behind x t) end
              (by_side (base_pays w s map base behind b n t vs f r placed_base marked_base
              (evaluated an l fwd bwd w s frame map base (write_kinds (seen_of an frame) base) f r h (within_index frame id span base name inside) placed_base marked_base vs n c) is y)))
  target_pays w s map (the_expr id span (At base key)) behind f r h inside placed marked goal m t q y =
      by_base (gave_then (base_of l frame base s) (λ b. ◌>>=◌ (value l frame key) (λ k. give (ElementTarget b k))) goal m q)
    where
      after_key : Context
      after_key = followed (ev (rules_of an frame) (seen_of an frame) key never) (effects (rules_of an frame) key) behind

      placed_both : Placed an frame (seen_expr (rules_of an frame) map base ++ seen_expr (rules_of an frame) (after (rules_of an frame) map base) key)
      placed_both = sub_tail _ (seen_expr (rules_of an frame) map base ++ seen_expr (rules_of an frame) (after (rules_of an frame) map base) key) (seen_of an frame) placed

      placed_base : Placed an frame (seen_expr (rules_of an frame) map base)
      placed_base = sub_left (seen_expr (rules_of an frame) map base) (seen_expr (rules_of an frame) (after (rules_of an frame) map base) key) (seen_of an frame) placed_both

      placed_key : Placed an frame (seen_expr (rules_of an frame) (after (rules_of an frame) map base) key)
      placed_key = sub_right (seen_expr (rules_of an frame) map base) (seen_expr (rules_of an frame) (after (rules_of an frame) map base) key) (seen_of an frame) placed_both

      marked_both : Marked an frame (found (rules_of an frame) (seen_of an frame) (write_kinds (seen_of an frame) base) base ++ found (rules_of an frame) (seen_of an frame) [] key)
      marked_both = sub_tail _ (found (rules_of an frame) (seen_of an frame) (write_kinds (seen_of an frame) base) base ++ found (rules_of an frame) (seen_of an frame) [] key)
          (findings (rules_of an frame)) marked

      marked_base : Marked an frame (found (rules_of an frame) (seen_of an frame) (write_kinds (seen_of an frame) base) base)
      marked_base = sub_left (found (rules_of an frame) (seen_of an frame) (write_kinds (seen_of an frame) base) base) (found (rules_of an frame) (seen_of an frame) [] key)
          (findings (rules_of an frame)) marked_both

      marked_key : Marked an frame (found (rules_of an frame) (seen_of an frame) [] key)
      marked_key = sub_right (found (rules_of an frame) (seen_of an frame) (write_kinds (seen_of an frame) base) base) (found (rules_of an frame) (seen_of an frame) [] key)
          (findings (rules_of an frame)) marked_both

      inside_base : Inside frame (of_expr base) (stats_of_expr base)
      inside_base = inside_left frame (of_expr base) (of_expr key) (stats_of_expr base) (stats_of_expr key) (within_at frame id span base key inside)

      inside_key : Inside frame (of_expr key) (stats_of_expr key)
      inside_key = inside_right frame (of_expr base) (of_expr key) (stats_of_expr base) (stats_of_expr key) (within_at frame id span base key inside)

      by_base : (b : Base) × (n : State) × (base_of l frame base s ≡ Gave b n) × (go_on (value l frame key n) (λ k. give (ElementTarget b k)) ≡ Gave goal m) → Comes an frame goal behind m t
      by_base (b, n, gave_base, gave_key) = by_value (base_gave l frame base s b n gave_base) (gave_then (value l frame key n) (λ k. give (ElementTarget b k)) goal m gave_key)
        where
          by_value : (vs : List Value) × (l.values frame base s ≡ Gave vs n) × (b.value ≡ first vs) × (b.is_library ≡ is_library frame base)
              → (k : Value) × (u : State) × (value l frame key n ≡ Gave k u) × (give (ElementTarget b k) u ≡ Gave goal m) → Comes an frame goal behind m t
          by_value (vs, c, is, lib) (k, u, gave_k, gave_goal) = by_evaluated
              (evaluated an l fwd bwd w s frame map base (write_kinds (seen_of an frame) base) f r h inside_base placed_base marked_base vs n c)
              (value_gave l frame key n k u gave_k) (gave_same (ElementTarget b k) goal u m gave_goal)
            where
              by_evaluated : Evaluated an w s frame map base vs n → (ks : List Value) × (l.values frame key n ≡ Gave ks u) × (k ≡ first ks) → (ElementTarget b k ≡ goal) × (u ≡ m)
                  → Comes an frame goal behind m t
              by_evaluated o (ks, d, k_is) (same, end) = subst (λ (g : Target). Comes an frame g behind m t) same (subst (λ (x : State). Comes an frame (ElementTarget b k) behind x t) end
                  (by_side (evaluated an l fwd bwd o.world n frame (after (rules_of an frame) map base) key [] o.fine o.runs o.held inside_key placed_key marked_key ks u d)
                  (base_pays w s map base after_key b n t vs f r placed_base marked_base o is y)))
                where
                  by_side : Evaluated an o.world n frame (after (rules_of an frame) map base) key ks u → (holds n.store.heap b.value write_fail ≡ true) ⊎ Trouble an frame after_key n t
                      → Comes an frame (ElementTarget b k) behind u t
                  by_side i (inl z) = inl (unwritable_later n.store.heap u.store.heap i.kept.heap b.value z)
                  by_side i (inr z) = by_key (operand_then an o.world n frame (after (rules_of an frame) map base) key (unchecked an frame key) behind ks u t fit o.fine o.runs placed_key marked_key i z)
                    where
                      by_key : (holds u.store.heap (first ks) never ≡ true) ⊎ Trouble an frame behind u t → Comes an frame (ElementTarget b k) behind u t
                      by_key (inl x) = clash (holds u.store.heap (first ks) never) x (never_none u.store.heap (first ks))
                      by_key (inr x) = inr x
  target_pays w s map (the_expr id span _) behind f r h inside placed marked goal m t q y = absurd (gave_not_spent s m goal q)

  pub targets_pay : (w : World) (s : State) (map : TypeMap) (es : Exprs) (behind : Context) → Fine an w s → Runs an w s frame → Held an frame map s → Inside frame (of_exprs es) (stats_of_exprs es)
      → Placed an frame (seen_targets (rules_of an frame) map es) → Marked an frame (found_targets (rules_of an frame) (seen_of an frame) es) → (goals : List Target) (u t : State)
      → targets l frame es s ≡ Gave goals u → Trouble an frame (ev_targets (rules_of an frame) (seen_of an frame) es behind) s t
      → SomeBad u.store.heap goals ⊎ Trouble an frame behind u t
  unfolding ◌>>=◌ give
  targets_pay w s map no_exprs behind f r h inside placed marked goals u t q y = inr (subst (λ (x : State). Trouble an frame behind x t) (gave_same [] goals s u q).1 y)
  targets_pay w s map (more_exprs e rest) behind f r h inside placed marked goals u t q y =
      by_first (gave_then (target l frame e s) (λ goal. ◌>>=◌ (targets l frame rest) (λ others. give (goal ∷ others))) goals u q)
      (λ v m others g j held k z. targets_pay v m (after (rules_of an frame) map e) rest behind g j held (inside_right frame (of_expr e) (of_exprs rest) (stats_of_expr e) (stats_of_exprs rest) inside)
      (sub_right (seen_target (rules_of an frame) map e) (seen_targets (rules_of an frame) (after (rules_of an frame) map e) rest) (seen_of an frame) placed)
      (sub_right (found_target (rules_of an frame) (seen_of an frame) [] e) (found_targets (rules_of an frame) (seen_of an frame) rest) (findings (rules_of an frame)) marked) others u t k z)
    where
      inside_first : Inside frame (of_expr e) (stats_of_expr e)
      inside_first = inside_left frame (of_expr e) (of_exprs rest) (stats_of_expr e) (stats_of_exprs rest) inside

      placed_first : Placed an frame (seen_target (rules_of an frame) map e)
      placed_first = sub_left (seen_target (rules_of an frame) map e) (seen_targets (rules_of an frame) (after (rules_of an frame) map e) rest) (seen_of an frame) placed

      by_first : (goal : Target) × (m : State) × (target l frame e s ≡ Gave goal m) × (go_on (targets l frame rest m) (λ others. give (goal ∷ others)) ≡ Gave goals u)
          → ((v : World) (m : State) (others : List Target) → Fine an v m → Runs an v m frame → Held an frame (after (rules_of an frame) map e) m → targets l frame rest m ≡ Gave others u
          → Trouble an frame (ev_targets (rules_of an frame) (seen_of an frame) rest behind) m t → SomeBad u.store.heap others ⊎ Trouble an frame behind u t)
          → SomeBad u.store.heap goals ⊎ Trouble an frame behind u t
      by_first (goal, m, gave_first, gave_rest) again = by_rest
          (ends_gave an (part_of frame (effects (rules_of an frame) e)) w s (λ g x. TargetGives an frame e g x × Held an frame (after (rules_of an frame) map e) x) (target l frame e s) goal m gave_first
          (target_forward an l fit fwd frame w s map e f r h inside_first placed_first))
          (gave_then (targets l frame rest m) (λ others. give (goal ∷ others)) goals u gave_rest)
        where
          by_rest : (v : World) × Fine an v m × Kept an (part_of frame (effects (rules_of an frame) e)) w s v m × (TargetGives an frame e goal m × Held an frame (after (rules_of an frame) map e) m)
              → (others : List Target) × (n : State) × (targets l frame rest m ≡ Gave others n) × (give (goal ∷ others) n ≡ Gave goals u) → SomeBad u.store.heap goals ⊎ Trouble an frame behind u t
          by_rest (v, g, kept, (gives, held)) (others, n, gave_others, gave_goals) = by_same (gave_same (goal ∷ others) goals n u gave_goals)
            where
              runs_m : Runs an v m frame
              runs_m = runs_kept an (part_of frame (effects (rules_of an frame) e)) w v s m frame kept r

              by_same : ((goal ∷ others) ≡ goals) × (n ≡ u) → SomeBad u.store.heap goals ⊎ Trouble an frame behind u t
              by_same (same, end) = subst (λ (gs : List Target). SomeBad u.store.heap gs ⊎ Trouble an frame behind u t) same
                  (by_side (target_pays w s map e (ev_targets (rules_of an frame) (seen_of an frame) rest behind) f r h inside_first placed_first
                  (sub_left (found_target (rules_of an frame) (seen_of an frame) [] e) (found_targets (rules_of an frame) (seen_of an frame) rest) (findings (rules_of an frame)) marked) goal m t gave_first y)
                  (ends_gave an (part_of frame (any_effects (rules_of an frame) rest)) v m (AllGive an frame rest) (targets l frame rest m) others u gave_u
                  (targets_ends an l fit fwd frame v m (after (rules_of an frame) map e) rest g runs_m held (inside_right frame (of_expr e) (of_exprs rest) (stats_of_expr e) (stats_of_exprs rest) inside)
                  (sub_right (seen_target (rules_of an frame) map e) (seen_targets (rules_of an frame) (after (rules_of an frame) map e) rest) (seen_of an frame) placed))))
                where
                  gave_u : targets l frame rest m ≡ Gave others u
                  gave_u = subst (λ (x : State). targets l frame rest m ≡ Gave others x) end gave_others

                  by_more : SomeBad u.store.heap others ⊎ Trouble an frame behind u t → SomeBad u.store.heap (goal ∷ others) ⊎ Trouble an frame behind u t
                  by_more (inl k) = inl (inr k)
                  by_more (inr k) = inr k

                  by_side : Comes an frame goal (ev_targets (rules_of an frame) (seen_of an frame) rest behind) m t
                      → (z : World) × Fine an z u × Kept an (part_of frame (any_effects (rules_of an frame) rest)) v m z u × AllGive an frame rest others u
                      → SomeBad u.store.heap (goal ∷ others) ⊎ Trouble an frame behind u t
                  by_side (inl k) (z, d, j, a) = inl (inl (bad_moved m.store.heap u.store.heap goal (unwritable_later m.store.heap u.store.heap j.heap) k))
                  by_side (inr k) z = by_more (again v m others g runs_m held gave_u k)
