-- A numeric `for`, forward and backward: its bounds, and the statement.
use Rattle.std.proofs.Common.{◌≡◌, ℕ, ◌==◌, Bool, true, false, not, ◌||◌, if◌then◌else◌, List, [], ◌∷◌, ◌++◌, ◌⊎◌, inl, inr, refl, sym, ◌∙◌, ap, subst, arith}
use Rattle.std.specs.List.{list_any}
use Rattle.luau_values.specs.Value.{Value, Nil, Truth, Num, Str, Tab, Lit, Builtin, Other}
use Rattle.luau_values.specs.Heap.{Heap}
use Rattle.luau_tree.specs.Tree.{Expr, MaybeExpr, no_expr, an_expr, MaybeType, Block, Stat, the_stat, the_bind, NumFor}
use Rattle.luau_tree.specs.declared.position.Span.{Span}
use Rattle.luau_tree.specs.declared.names.Op.TheVariants.{For as ForOp}
use Rattle.luau_run.specs.ReadModule.{ReadModule}
use Rattle.luau_run.specs.SyntaxNode.{ABind, of_expr, of_maybe_expr, of_block, of_stat}
use Rattle.luau_run.specs.Machine.{State, Gave, go_on, ◌>>=◌, give, fail, ask}
use Rattle.luau_run.specs.Answers.{yes_or_fail}
use Rattle.luau_run.specs.Layer.{Frame, Ending, Falls, Breaks, Continues, Returns, NumLoop, Layer, first}
use Rattle.luau_run.specs.Expressions.{value}
use Rattle.luau_run.specs.Statements.{is_wrong, is_sure_bound, begin_for, bounds_of, execute, stat}
use Rattle.type_normal.specs.Holds.{holds}
use Rattle.type_normal.specs.Kinds.{has_kind, number_type}
use Rattle.type_normal.specs.Failing.{no_operand, arith_fail}
use Rattle.type_normal.proofs.Public.{kinds_hold}
use Rattle.report_rules.specs.Effects.{effects, effects_of_maybe, stirs_block, assigns_block, declares_block, touches, stirs}
use Rattle.report_rules.specs.TypeMap.{TypeMap, set, head}
use Rattle.report_rules.specs.Forward.{after}
use Rattle.report_rules.specs.After.{after_maybe}
use Rattle.report_rules.specs.Seen.{Seen, seen_expr, seen_maybe, seen_stat, seen_block}
use Rattle.report_rules.specs.Context.{Context, none}
use Rattle.report_rules.specs.Checks.{Operand}
use Rattle.report_rules.specs.Statements.{bound_kinds, ev_bound, ev_maybe_bound, keep, stm}
use Rattle.report_rules.specs.Findings.{Finding, found, found_maybe_bound, found_stat, found_block}
use Rattle.report_rules.specs.Reports.{findings}
use Rattle.run_frame.specs.Analysis.{Analysis}
use Rattle.run_frame.specs.Statements.{stats_of_block, stats_of, stats_of_expr, stats_of_maybe_expr}
use Rattle.run_frame.specs.Fit.{Fit}
use Rattle.run_frame.proofs.World.{World}
use Rattle.run_frame.proofs.Kept.{Doer, MayMore, Kept, kept_same}
use Rattle.run_frame.proofs.Fine.{Fine, fine_same}
use Rattle.run_frame.proofs.Held.{Runs, runs_kept, Held, held_same, Violated}
use Rattle.run_frame.proofs.Parts.{Ends, Same, Says, ends_then, ends_so, ends_more, ends_give, ends_fail, ends_gave, ends_ask, gave_then, gave_same, gave_not_failed}
use Rattle.run_frame.proofs.Layers.{rules_of, seen_of, part_of, expr_of, stat_of, Inside, Placed, Marked, Leads, EndsBad, Trouble, Forward, Backward, loop_of, loop_touches, Turns}
use Rattle.run_frame.proofs.LooseContexts.{SparesAll}
use Rattle.run_frame.proofs.Readings.{sub_tail, sub_left, sub_right}
use Rattle.run_frame.proofs.Lists.{inside_left, inside_right, FirstOf}
use Rattle.run_frame.proofs.Statements.{ends_stat, stat_gave, trouble_same}
use Rattle.run_frame.proofs.Forms.{value_gave, evaluated, After, value_forward, sub_one, sub_two, sub_three, inside_one, inside_two, inside_three}
use Rattle.run_frame.proofs.ListsBack.{by_set, operand_then}
use Rattle.reports_certain.proofs.Loops.{head_held, head_steady, keep_below, keep_spares, keep_steady, loop_end}

clash : (b : Bool) → b ≡ true → b ≡ false → ⊥
clash b p q = cc

-- ---- the begin

-- what is no operand of arithmetic is no bound
wrong_so : (h : Heap) (v : Value) → holds h v arith_fail ≡ true → is_wrong v ≡ true
wrong_so h v e = by_value v (sym (kinds_hold h v no_operand) ∙ e)
  where
    by_value : (u : Value) → has_kind no_operand u ≡ true → is_wrong u ≡ true
    by_value Nil k = refl
    by_value (Truth truth) k = refl
    by_value (Num text) k = cc
    by_value (Str bytes) k = cc
    by_value (Tab address) k = refl
    by_value (Lit home number cells) k = refl
    by_value (Builtin path) k = refl
    by_value (Other number) k = cc

ends_begin : (an : Analysis) (who : Doer) (w : World) (s : State) (vs : List Value) → Fine an w s → Ends an who w s (λ x t. Same s t) (begin_for vs s)
unfolding fail give
ends_begin an who w s vs f = by_tests (list_any is_wrong vs) (list_any (λ v. not (is_sure_bound v)) vs)
  where
    by_tests : (a b : Bool) → Ends an who w s (λ x t. Same s t) ((if a then fail else if b then ask yes_or_fail else give tt) s)
    by_tests true b = ends_fail an who w s s (λ (x : Unit {0}) t. Same s t) f (refl, refl)
    by_tests false true = ends_so an who w s (λ x t. Same s t × Says yes_or_fail x) (λ x t. Same s t) (ask yes_or_fail s) (λ x t v e g k p. p.0) (ends_ask an who w s yes_or_fail f)
    by_tests false false = ends_give an who w s (λ x t. Same s t) (tt {0}) f (refl, refl)

-- where it gave, no bound was wrong
begun_right : (vs : List Value) (s t : State) (x : Unit {0}) → begin_for vs s ≡ Gave x t → list_any is_wrong vs ≡ false
unfolding fail
begun_right vs s t x e = by_test (list_any is_wrong vs) refl e
  where
    by_test : (a : Bool) → list_any is_wrong vs ≡ a → (if a then fail else (if list_any (λ v. not (is_sure_bound v)) vs then ask yes_or_fail else give tt)) s ≡ Gave x t → list_any is_wrong vs ≡ false
    by_test true k q = absurd (gave_not_failed s t x q)
    by_test false k q = k

-- ---- the bound that may be written

maybe_forward : (an : Analysis) (l : Layer) → Forward an l → (w : World) (s : State) (frame : Frame) (map : TypeMap) (by : MaybeExpr) → Fine an w s → Runs an w s frame → Held an frame map s
    → Inside frame (of_maybe_expr by) (stats_of_maybe_expr by) → Placed an frame (seen_maybe (rules_of an frame) map by)
    → Ends an (part_of frame (effects_of_maybe (rules_of an frame) by)) w s (λ vs t. Held an frame (after_maybe (rules_of an frame) map by) t) (bounds_of l frame by s)
unfolding ◌>>=◌
maybe_forward an l fwd w s frame map no_expr f r h inside placed = ends_give an (part_of frame false) w s (λ vs t. Held an frame map t) [] f h
maybe_forward an l fwd w s frame map (an_expr e) f r h inside placed =
    ends_then an (expr_of an frame e) w s (FirstOf (After an frame map e)) (λ vs t. Held an frame (after (rules_of an frame) map e) t) (value l frame e s) (λ v. give (v ∷ []))
    (value_forward an l fwd w s frame map e f r h inside placed)
    (λ v t z g k p. ends_give an (expr_of an frame e) z t (λ vs u. Held an frame (after (rules_of an frame) map e) u) (v ∷ []) g p.2.1)

-- a bound that gave is wrong, or what follows it is in trouble
bound_pays : (an : Analysis) (l : Layer) → Fit an → Forward an l → Backward an l → (w : World) (s : State) (frame : Frame) (map : TypeMap) (e : Expr) (behind : Context) → Fine an w s
    → Runs an w s frame → Held an frame map s → Inside frame (of_expr e) (stats_of_expr e) → Placed an frame (seen_expr (rules_of an frame) map e)
    → Marked an frame (found (rules_of an frame) (seen_of an frame) (bound_kinds (seen_of an frame) e) e) → (v : Value) (t u : State) → value l frame e s ≡ Gave v t
    → Trouble an frame (ev_bound (rules_of an frame) (seen_of an frame) e behind) s u → (is_wrong v ≡ true) ⊎ Trouble an frame behind t u
bound_pays an l fit fwd bwd w s frame map e behind f r h inside placed marked v t u q y = by_value (value_gave l frame e s v t q)
  where
    by_value : (vs : List Value) × (l.values frame e s ≡ Gave vs t) × (v ≡ first vs) → (is_wrong v ≡ true) ⊎ Trouble an frame behind t u
    by_value (vs, gave, is) = by_side (operand_then an w s frame map e (by_set an frame e arith_fail (Operand ForOp)) behind vs t u fit f r placed marked
        (evaluated an l fwd bwd w s frame map e (bound_kinds (seen_of an frame) e) f r h inside placed marked vs t gave) y)
      where
        by_side : (holds t.store.heap (first vs) arith_fail ≡ true) ⊎ Trouble an frame behind t u → (is_wrong v ≡ true) ⊎ Trouble an frame behind t u
        by_side (inl k) = inl (wrong_so t.store.heap v (subst (λ (x : Value). holds t.store.heap x arith_fail ≡ true) (sym is) k))
        by_side (inr k) = inr k

maybe_pays : (an : Analysis) (l : Layer) → Fit an → Forward an l → Backward an l → (w : World) (s : State) (frame : Frame) (map : TypeMap) (by : MaybeExpr) (behind : Context) → Fine an w s
    → Runs an w s frame → Held an frame map s → Inside frame (of_maybe_expr by) (stats_of_maybe_expr by) → Placed an frame (seen_maybe (rules_of an frame) map by)
    → Marked an frame (found_maybe_bound (rules_of an frame) (seen_of an frame) by) → (vs : List Value) (t u : State) → bounds_of l frame by s ≡ Gave vs t
    → Trouble an frame (ev_maybe_bound (rules_of an frame) (seen_of an frame) by behind) s u → (list_any is_wrong vs ≡ true) ⊎ Trouble an frame behind t u
unfolding ◌>>=◌ give
maybe_pays an l fit fwd bwd w s frame map no_expr behind f r h inside placed marked vs t u q y = inr (subst (λ (x : State). Trouble an frame behind x u) (gave_same [] vs s t q).1 y)
maybe_pays an l fit fwd bwd w s frame map (an_expr e) behind f r h inside placed marked vs t u q y = by_parts (gave_then (value l frame e s) (λ v. give (v ∷ [])) vs t q)
  where
    by_parts : (v : Value) × (m : State) × (value l frame e s ≡ Gave v m) × (give (v ∷ []) m ≡ Gave vs t) → (list_any is_wrong vs ≡ true) ⊎ Trouble an frame behind t u
    by_parts (v, m, gave, k) = by_side (bound_pays an l fit fwd bwd w s frame map e behind f r h inside placed marked v m u gave y)
      where
        by_side : (is_wrong v ≡ true) ⊎ Trouble an frame behind m u → (list_any is_wrong vs ≡ true) ⊎ Trouble an frame behind t u
        by_side (inl x) = inl (subst (λ (xs : List Value). list_any is_wrong xs ≡ true) (gave_same (v ∷ []) vs m t k).0 (ap (λ (b : Bool). b || false) x))
        by_side (inr x) = inr (subst (λ (z : State). Trouble an frame behind z u) (gave_same (v ∷ []) vs m t k).1 x)

-- ---- who does what

first_quiet : (a b c d : Bool) → not (a || (b || (c || d))) ≡ true → not a ≡ true
first_quiet true b c d e = cc
first_quiet false b c d e = refl

second_quiet : (a b c d : Bool) → not (a || (b || (c || d))) ≡ true → not b ≡ true
second_quiet true b c d e = cc
second_quiet false true c d e = cc
second_quiet false false c d e = refl

third_quiet : (a b c d : Bool) → not (a || (b || (c || d))) ≡ true → not c ≡ true
third_quiet true b c d e = cc
third_quiet false true c d e = cc
third_quiet false false true d e = cc
third_quiet false false false d e = refl

fourth_quiet : (a b c d : Bool) → not (a || (b || (c || d))) ≡ true → not d ≡ true
fourth_quiet true b c d e = cc
fourth_quiet false true c d e = cc
fourth_quiet false false true d e = cc
fourth_quiet false false false d e = e

last_stirs : (a b c d : Bool) → d ≡ true → a || (b || (c || d)) ≡ true
last_stirs true b c d e = refl
last_stirs false true c d e = refl
last_stirs false false true d e = refl
last_stirs false false false d e = e

turned : (m n : ℕ) (d : Bool) → ((m == n) || false) || d ≡ true → (n == m) || d ≡ true
turned m n d e = by_tests (m == n) (n == m) (same m n) e
  where
    same : (m n : ℕ) → (m == n) ≡ (n == m)
    same m n = grind arith

    by_tests : (a b : Bool) → a ≡ b → (a || false) || d ≡ true → b || d ≡ true
    by_tests true true k q = refl
    by_tests true false k q = cc
    by_tests false true k q = refl
    by_tests false false k q = q

touched_so : (a b c : Bool) → (b ≡ true → c ≡ true) → a || b ≡ true → a || c ≡ true
touched_so true b c h e = refl
touched_so false b c h e = h e

one_wrong : (a b c : Bool) → a || (b || c) ≡ false → (a ≡ true) ⊎ ((b ≡ true) ⊎ (c ≡ true)) → ⊥
one_wrong true b c e h = cc
one_wrong false true c e h = cc
one_wrong false false true e h = cc
one_wrong false false false e (inl k) = cc
one_wrong false false false e (inr (inl k)) = cc
one_wrong false false false e (inr (inr k)) = cc

-- ---- the statement

abbrev for_stat : Span → Span → List ℕ → MaybeType → (from to : Expr) → MaybeExpr → Block → Stat
for_stat span bind_span name typ from to by body = the_stat span (NumFor (the_bind name bind_span typ) from to by body)

module _ (an : Analysis) (l : Layer) (fit : Fit an) (fwd : Forward an l) (frame : Frame) (map : TypeMap) (span bind_span : Span) (name : List ℕ) (typ : MaybeType) (from to : Expr) (by : MaybeExpr)
    (body : Block) (same : (rules_of an frame).reading ≡ frame.reading)
    (inside : Inside frame (of_stat (for_stat span bind_span name typ from to by body)) (stats_of (for_stat span bind_span name typ from to by body)))
    (placed : Placed an frame (seen_stat (rules_of an frame) map (for_stat span bind_span name typ from to by body))) where
  abbrev st : Stat
  st = for_stat span bind_span name typ from to by body

  -- the variable, as the rules read it
  abbrev local : ℕ
  local = (rules_of an frame).reading.local_at bind_span.start

  -- the maps behind the bounds, and the loop's
  abbrev map_from : TypeMap
  map_from = after (rules_of an frame) map from

  abbrev map_to : TypeMap
  map_to = after (rules_of an frame) map_from to

  abbrev map_by : TypeMap
  map_by = after_maybe (rules_of an frame) map_to by

  abbrev turn_head : TypeMap
  turn_head = head (rules_of an frame) st map_by

  inside_all : Inside frame (of_expr from ++ of_expr to ++ of_maybe_expr by ++ of_block body) (stats_of_expr from ++ stats_of_expr to ++ stats_of_maybe_expr by ++ stats_of_block body)
  inside_all = record {
    nodes = sub_tail (ABind (the_bind name bind_span typ)) (of_expr from ++ of_expr to ++ of_maybe_expr by ++ of_block body) (of_block frame.reading.block) inside.nodes;
    stats = sub_tail st (stats_of_expr from ++ stats_of_expr to ++ stats_of_maybe_expr by ++ stats_of_block body) (stats_of_block frame.reading.block) inside.stats;
  }

  inside_bounds : Inside frame (of_expr from ++ of_expr to ++ of_maybe_expr by) (stats_of_expr from ++ stats_of_expr to ++ stats_of_maybe_expr by)
  inside_bounds = inside_left frame (of_expr from ++ of_expr to ++ of_maybe_expr by) (of_block body) (stats_of_expr from ++ stats_of_expr to ++ stats_of_maybe_expr by) (stats_of_block body) inside_all

  inside_body : Inside frame (of_block body) (stats_of_block body)
  inside_body = inside_right frame (of_expr from ++ of_expr to ++ of_maybe_expr by) (of_block body) (stats_of_expr from ++ stats_of_expr to ++ stats_of_maybe_expr by) (stats_of_block body) inside_all

  inside_from : Inside frame (of_expr from) (stats_of_expr from)
  inside_from = inside_one frame (of_expr from) (of_expr to) (of_maybe_expr by) (stats_of_expr from) (stats_of_expr to) (stats_of_maybe_expr by) inside_bounds

  inside_to : Inside frame (of_expr to) (stats_of_expr to)
  inside_to = inside_two frame (of_expr from) (of_expr to) (of_maybe_expr by) (stats_of_expr from) (stats_of_expr to) (stats_of_maybe_expr by) inside_bounds

  inside_by : Inside frame (of_maybe_expr by) (stats_of_maybe_expr by)
  inside_by = inside_three frame (of_expr from) (of_expr to) (of_maybe_expr by) (stats_of_expr from) (stats_of_expr to) (stats_of_maybe_expr by) inside_bounds

  abbrev seen_turn : List Seen
  seen_turn = seen_block (rules_of an frame) (set (rules_of an frame) local number_type turn_head) body

  placed_bounds : Placed an frame (seen_expr (rules_of an frame) map from ++ seen_expr (rules_of an frame) map_from to ++ seen_maybe (rules_of an frame) map_to by)
  placed_bounds = sub_left (seen_expr (rules_of an frame) map from ++ seen_expr (rules_of an frame) map_from to ++ seen_maybe (rules_of an frame) map_to by) seen_turn (seen_of an frame) placed

  placed_body : Placed an frame seen_turn
  placed_body = sub_right (seen_expr (rules_of an frame) map from ++ seen_expr (rules_of an frame) map_from to ++ seen_maybe (rules_of an frame) map_to by) seen_turn (seen_of an frame) placed

  placed_from : Placed an frame (seen_expr (rules_of an frame) map from)
  placed_from = sub_one (seen_expr (rules_of an frame) map from) (seen_expr (rules_of an frame) map_from to) (seen_maybe (rules_of an frame) map_to by) (seen_of an frame) placed_bounds

  placed_to : Placed an frame (seen_expr (rules_of an frame) map_from to)
  placed_to = sub_two (seen_expr (rules_of an frame) map from) (seen_expr (rules_of an frame) map_from to) (seen_maybe (rules_of an frame) map_to by) (seen_of an frame) placed_bounds

  placed_by : Placed an frame (seen_maybe (rules_of an frame) map_to by)
  placed_by = sub_three (seen_expr (rules_of an frame) map from) (seen_expr (rules_of an frame) map_from to) (seen_maybe (rules_of an frame) map_to by) (seen_of an frame) placed_bounds

  may_from : MayMore (expr_of an frame from) (stat_of an frame st)
  may_from = record {
    runs = inr refl;
    assigns = λ x e. refl;
    binds = λ x e. cc;
    calm = λ e. first_quiet (effects (rules_of an frame) from) (effects (rules_of an frame) to) (effects_of_maybe (rules_of an frame) by) (stirs_block (rules_of an frame) body) e;
  }

  may_to : MayMore (expr_of an frame to) (stat_of an frame st)
  may_to = record {
    runs = inr refl;
    assigns = λ x e. refl;
    binds = λ x e. cc;
    calm = λ e. second_quiet (effects (rules_of an frame) from) (effects (rules_of an frame) to) (effects_of_maybe (rules_of an frame) by) (stirs_block (rules_of an frame) body) e;
  }

  may_by : MayMore (part_of frame (effects_of_maybe (rules_of an frame) by)) (stat_of an frame st)
  may_by = record {
    runs = inr refl;
    assigns = λ x e. refl;
    binds = λ x e. cc;
    calm = λ e. third_quiet (effects (rules_of an frame) from) (effects (rules_of an frame) to) (effects_of_maybe (rules_of an frame) by) (stirs_block (rules_of an frame) body) e;
  }

  may_loop : MayMore (loop_of an frame (NumLoop local body)) (stat_of an frame st)
  may_loop = record {
    runs = inr refl;
    assigns = λ x e. e;
    binds = λ x e. turned x local (declares_block (rules_of an frame) x body) e;
    calm = λ e. fourth_quiet (effects (rules_of an frame) from) (effects (rules_of an frame) to) (effects_of_maybe (rules_of an frame) by) (stirs_block (rules_of an frame) body) e;
  }

  touch : (x : ℕ) → loop_touches (rules_of an frame) x (NumLoop local body) ≡ true → touches (rules_of an frame) x st ≡ true
  touch x e = touched_so (assigns_block (rules_of an frame) x body) (((x == local) || false) || declares_block (rules_of an frame) x body) ((local == x) || declares_block (rules_of an frame) x body)
      (λ k. turned x local (declares_block (rules_of an frame) x body) k) e

  stir : stirs_block (rules_of an frame) body ≡ true → stirs (rules_of an frame) st ≡ true
  stir e = last_stirs (effects (rules_of an frame) from) (effects (rules_of an frame) to) (effects_of_maybe (rules_of an frame) by) (stirs_block (rules_of an frame) body) e

  -- ---- forward

  lead : (ending : Ending) (t : State) → Turns an frame turn_head (NumLoop local body) ending t → Leads an frame map st ending t
  lead Falls t h = h
  lead Breaks t h = absurd h
  lead Continues t h = absurd h
  lead (Returns vs) t h = h

  turns_end : (v : World) (m : State) → Fine an v m → Runs an v m frame → Held an frame map_by m
      → Ends an (stat_of an frame st) v m (Leads an frame map st) (l.turns frame (NumLoop (frame.reading.local_at bind_span.start) body) m)
  turns_end v m f r h = subst (λ (x : ReadModule). Ends an (stat_of an frame st) v m (Leads an frame map st) (l.turns frame (NumLoop (x.local_at bind_span.start) body) m)) same
      (ends_so an (stat_of an frame st) v m (Turns an frame turn_head (NumLoop local body)) (Leads an frame map st) (l.turns frame (NumLoop local body) m)
      (λ ending u y q d j z. lead ending u z)
      (ends_more an (loop_of an frame (NumLoop local body)) (stat_of an frame st) v m (Turns an frame turn_head (NumLoop local body)) (l.turns frame (NumLoop local body) m) may_loop
      (fwd.turns v m frame turn_head (NumLoop local body) f r (head_held an frame st map_by m h) (head_steady (rules_of an frame) st (NumLoop local body) map_by touch stir) inside_body placed_body tt)))

  by_end : (a b : Value) (v : World) (m : State) → Fine an v m → Runs an v m frame → Held an frame map_to m
      → Ends an (stat_of an frame st) v m (Leads an frame map st)
      (go_on (bounds_of l frame by m) (λ c. ◌>>=◌ (begin_for (a ∷ b ∷ c)) (λ x. l.turns frame (NumLoop (frame.reading.local_at bind_span.start) body))))
  unfolding ◌>>=◌
  by_end a b v m f r h = ends_then an (stat_of an frame st) v m (λ c t. Held an frame map_by t) (Leads an frame map st) (bounds_of l frame by m)
      (λ c. ◌>>=◌ (begin_for (a ∷ b ∷ c)) (λ x. l.turns frame (NumLoop (frame.reading.local_at bind_span.start) body)))
      (ends_more an (part_of frame (effects_of_maybe (rules_of an frame) by)) (stat_of an frame st) v m (λ c t. Held an frame map_by t) (bounds_of l frame by m) may_by
      (maybe_forward an l fwd v m frame map_to by f r h inside_by placed_by))
      (λ c t z g k p. ends_then an (stat_of an frame st) z t (λ x u. Same t u) (Leads an frame map st) (begin_for (a ∷ b ∷ c) t)
      (λ x. l.turns frame (NumLoop (frame.reading.local_at bind_span.start) body)) (ends_begin an (stat_of an frame st) z t (a ∷ b ∷ c) g)
      (λ x u y d j q. turns_end y u d (runs_kept an (stat_of an frame st) z y t u frame j (runs_kept an (stat_of an frame st) v z m t frame k r)) (held_same an t u frame map_by q p)))

  to_end : (a : Value) (v : World) (m : State) → Fine an v m → Runs an v m frame → Held an frame map_from m
      → Ends an (stat_of an frame st) v m (Leads an frame map st)
      (go_on (value l frame to m) (λ b. ◌>>=◌ (bounds_of l frame by) (λ c. ◌>>=◌ (begin_for (a ∷ b ∷ c)) (λ x. l.turns frame (NumLoop (frame.reading.local_at bind_span.start) body)))))
  unfolding ◌>>=◌
  to_end a v m f r h = ends_then an (stat_of an frame st) v m (FirstOf (After an frame map_from to)) (Leads an frame map st) (value l frame to m)
      (λ b. ◌>>=◌ (bounds_of l frame by) (λ c. ◌>>=◌ (begin_for (a ∷ b ∷ c)) (λ x. l.turns frame (NumLoop (frame.reading.local_at bind_span.start) body))))
      (ends_more an (expr_of an frame to) (stat_of an frame st) v m (FirstOf (After an frame map_from to)) (value l frame to m) may_to
      (value_forward an l fwd v m frame map_from to f r h inside_to placed_to))
      (λ b t z g k p. by_end a b z t g (runs_kept an (stat_of an frame st) v z m t frame k r) p.2.1)

  pub number_forward : (w : World) (s : State) → Fine an w s → Runs an w s frame → Held an frame map s → Ends an (stat_of an frame st) w s (Leads an frame map st) (stat an.program l frame st s)
  unfolding ◌>>=◌
  number_forward w s f r h = ends_stat an an.program l (stat_of an frame st) w s frame span (NumFor (the_bind name bind_span typ) from to by body) (Leads an frame map st) f
      (λ t v g k p. ends_then an (stat_of an frame st) v t (FirstOf (After an frame map from)) (Leads an frame map st) (value l frame from t)
      (λ a. ◌>>=◌ (value l frame to) (λ b. ◌>>=◌ (bounds_of l frame by) (λ c. ◌>>=◌ (begin_for (a ∷ b ∷ c)) (λ x. l.turns frame (NumLoop (frame.reading.local_at bind_span.start) body)))))
      (ends_more an (expr_of an frame from) (stat_of an frame st) v t (FirstOf (After an frame map from)) (value l frame from t) may_from
      (value_forward an l fwd v t frame map from g (runs_kept an (stat_of an frame st) w v s t frame k r) (held_same an s t frame map p h) inside_from placed_from))
      (λ a u y d j q. to_end a y u d (runs_kept an (stat_of an frame st) v y t u frame j (runs_kept an (stat_of an frame st) w v s t frame k r)) q.2.1))

  -- ---- backward

  module _ (bwd : Backward an l) (behind breaks_to continues_to : Context)
      (marked : Marked an frame (found_stat (rules_of an frame) (seen_of an frame) st behind breaks_to continues_to)) (spares : SparesAll (rules_of an frame) behind breaks_to continues_to) where
    -- what the loop keeps, and the contexts before it and before the bounds
    abbrev kept : Context
    kept = keep (rules_of an frame) st body behind

    abbrev before_by : Context
    before_by = ev_maybe_bound (rules_of an frame) (seen_of an frame) by kept

    abbrev before_to : Context
    before_to = ev_bound (rules_of an frame) (seen_of an frame) to before_by

    abbrev found_turn : List Finding
    found_turn = found_block (rules_of an frame) (seen_of an frame) body kept behind kept

    abbrev found_from : List Finding
    found_from = found (rules_of an frame) (seen_of an frame) (bound_kinds (seen_of an frame) from) from

    abbrev found_to : List Finding
    found_to = found (rules_of an frame) (seen_of an frame) (bound_kinds (seen_of an frame) to) to

    abbrev found_by : List Finding
    found_by = found_maybe_bound (rules_of an frame) (seen_of an frame) by

    marked_bounds : Marked an frame (found_from ++ found_to ++ found_by)
    marked_bounds = sub_left (found_from ++ found_to ++ found_by) found_turn (findings (rules_of an frame)) marked

    marked_body : Marked an frame found_turn
    marked_body = sub_right (found_from ++ found_to ++ found_by) found_turn (findings (rules_of an frame)) marked

    marked_from : Marked an frame found_from
    marked_from = sub_one found_from found_to found_by (findings (rules_of an frame)) marked_bounds

    marked_to : Marked an frame found_to
    marked_to = sub_two found_from found_to found_by (findings (rules_of an frame)) marked_bounds

    marked_by : Marked an frame found_by
    marked_by = sub_three found_from found_to found_by (findings (rules_of an frame)) marked_bounds

    loop_bad : (ending : Ending) (v : World) (m t : State) → Fine an v m → Runs an v m frame → Held an frame map_by m
        → l.turns frame (NumLoop (frame.reading.local_at bind_span.start) body) m ≡ Gave ending t → Trouble an frame kept m t → EndsBad an frame behind breaks_to continues_to ending t
    loop_bad ending v m t f r h q y = loop_end an frame behind breaks_to continues_to ending t
        (bwd.turns v m frame turn_head (NumLoop local body) behind kept f r (head_held an frame st map_by m h) (head_steady (rules_of an frame) st (NumLoop local body) map_by touch stir)
        (keep_steady (rules_of an frame) st (NumLoop local body) behind touch stir) (keep_below (rules_of an frame) st body behind) inside_body placed_body marked_body spares.0
        (keep_spares (rules_of an frame) st body behind spares.0) tt ending t
        (subst (λ (x : ReadModule). l.turns frame (NumLoop (x.local_at bind_span.start) body) m ≡ Gave ending t) (sym same) q) (by_trouble y))
      where
        by_trouble : Trouble an frame kept m t → Trouble an frame none m t ⊎ Violated an frame kept m
        by_trouble (inl e) = inr e
        by_trouble (inr e) = inl (inr e)

    begin_bad : (a b : Value) (c : List Value) (ending : Ending) (v : World) (m t : State) → Fine an v m → Runs an v m frame → Held an frame map_by m
        → go_on (begin_for (a ∷ b ∷ c) m) (λ x. l.turns frame (NumLoop (frame.reading.local_at bind_span.start) body)) ≡ Gave ending t
        → ((is_wrong a ≡ true) ⊎ ((is_wrong b ≡ true) ⊎ (list_any is_wrong c ≡ true))) ⊎ Trouble an frame kept m t → EndsBad an frame behind breaks_to continues_to ending t
    begin_bad a b c ending v m t f r h q y = by_parts (gave_then (begin_for (a ∷ b ∷ c) m) (λ x. l.turns frame (NumLoop (frame.reading.local_at bind_span.start) body)) ending t q)
      where
        by_parts : (x : Unit {0}) × (n : State) × (begin_for (a ∷ b ∷ c) m ≡ Gave x n) × (l.turns frame (NumLoop (frame.reading.local_at bind_span.start) body) n ≡ Gave ending t)
            → EndsBad an frame behind breaks_to continues_to ending t
        by_parts (x, n, begun, k) = by_world (ends_gave an (stat_of an frame st) v m (λ z u. Same m u) (begin_for (a ∷ b ∷ c) m) x n begun (ends_begin an (stat_of an frame st) v m (a ∷ b ∷ c) f)) y
          where
            by_world : (z : World) × Fine an z n × Kept an (stat_of an frame st) v m z n × Same m n
                → ((is_wrong a ≡ true) ⊎ ((is_wrong b ≡ true) ⊎ (list_any is_wrong c ≡ true))) ⊎ Trouble an frame kept m t → EndsBad an frame behind breaks_to continues_to ending t
            by_world p (inl e) = absurd (one_wrong (is_wrong a) (is_wrong b) (list_any is_wrong c) (begun_right (a ∷ b ∷ c) m n x begun) e)
            by_world (z, g, j, there) (inr e) = loop_bad ending z n t g (runs_kept an (stat_of an frame st) v z m n frame j r) (held_same an m n frame map_by there h) k
                (trouble_same an frame kept m n t there e)

    by_bad : (a b : Value) (ending : Ending) (v : World) (m t : State) → Fine an v m → Runs an v m frame → Held an frame map_to m
        → go_on (bounds_of l frame by m) (λ c. ◌>>=◌ (begin_for (a ∷ b ∷ c)) (λ x. l.turns frame (NumLoop (frame.reading.local_at bind_span.start) body))) ≡ Gave ending t
        → ((is_wrong a ≡ true) ⊎ (is_wrong b ≡ true)) ⊎ Trouble an frame before_by m t → EndsBad an frame behind breaks_to continues_to ending t
    unfolding ◌>>=◌
    by_bad a b ending v m t f r h q y = by_parts (gave_then (bounds_of l frame by m)
        (λ c. ◌>>=◌ (begin_for (a ∷ b ∷ c)) (λ x. l.turns frame (NumLoop (frame.reading.local_at bind_span.start) body))) ending t q)
      where
        by_parts : (c : List Value) × (n : State) × (bounds_of l frame by m ≡ Gave c n)
            × (◌>>=◌ (begin_for (a ∷ b ∷ c)) (λ x. l.turns frame (NumLoop (frame.reading.local_at bind_span.start) body)) n ≡ Gave ending t) → EndsBad an frame behind breaks_to continues_to ending t
        by_parts (c, n, gave, k) = by_world (ends_gave an (part_of frame (effects_of_maybe (rules_of an frame) by)) v m (λ vs u. Held an frame map_by u) (bounds_of l frame by m) c n gave
            (maybe_forward an l fwd v m frame map_to by f r h inside_by placed_by))
          where
            sides : ((is_wrong a ≡ true) ⊎ (is_wrong b ≡ true)) ⊎ Trouble an frame before_by m t
                → ((is_wrong a ≡ true) ⊎ ((is_wrong b ≡ true) ⊎ (list_any is_wrong c ≡ true))) ⊎ Trouble an frame kept n t
            sides (inl (inl e)) = inl (inl e)
            sides (inl (inr e)) = inl (inr (inl e))
            sides (inr e) = by_side (maybe_pays an l fit fwd bwd v m frame map_to by kept f r h inside_by placed_by marked_by c n t gave e)
              where
                by_side : (list_any is_wrong c ≡ true) ⊎ Trouble an frame kept n t → ((is_wrong a ≡ true) ⊎ ((is_wrong b ≡ true) ⊎ (list_any is_wrong c ≡ true))) ⊎ Trouble an frame kept n t
                by_side (inl x) = inl (inr (inr x))
                by_side (inr x) = inr x

            by_world : (z : World) × Fine an z n × Kept an (part_of frame (effects_of_maybe (rules_of an frame) by)) v m z n × Held an frame map_by n → EndsBad an frame behind breaks_to continues_to ending t
            by_world (z, g, j, held) = begin_bad a b c ending z n t g (runs_kept an (part_of frame (effects_of_maybe (rules_of an frame) by)) v z m n frame j r) held k (sides y)

    to_bad : (a : Value) (ending : Ending) (v : World) (m t : State) → Fine an v m → Runs an v m frame → Held an frame map_from m
        → go_on (value l frame to m) (λ b. ◌>>=◌ (bounds_of l frame by) (λ c. ◌>>=◌ (begin_for (a ∷ b ∷ c)) (λ x. l.turns frame (NumLoop (frame.reading.local_at bind_span.start) body)))) ≡ Gave ending t
        → (is_wrong a ≡ true) ⊎ Trouble an frame before_to m t → EndsBad an frame behind breaks_to continues_to ending t
    unfolding ◌>>=◌
    to_bad a ending v m t f r h q y = by_parts (gave_then (value l frame to m)
        (λ b. ◌>>=◌ (bounds_of l frame by) (λ c. ◌>>=◌ (begin_for (a ∷ b ∷ c)) (λ x. l.turns frame (NumLoop (frame.reading.local_at bind_span.start) body)))) ending t q)
      where
        by_parts : (b : Value) × (n : State) × (value l frame to m ≡ Gave b n)
            × (◌>>=◌ (bounds_of l frame by) (λ c. ◌>>=◌ (begin_for (a ∷ b ∷ c)) (λ x. l.turns frame (NumLoop (frame.reading.local_at bind_span.start) body))) n ≡ Gave ending t)
            → EndsBad an frame behind breaks_to continues_to ending t
        by_parts (b, n, gave, k) = by_world (ends_gave an (expr_of an frame to) v m (FirstOf (After an frame map_from to)) (value l frame to m) b n gave
            (value_forward an l fwd v m frame map_from to f r h inside_to placed_to))
          where
            sides : (is_wrong a ≡ true) ⊎ Trouble an frame before_to m t → ((is_wrong a ≡ true) ⊎ (is_wrong b ≡ true)) ⊎ Trouble an frame before_by n t
            sides (inl e) = inl (inl e)
            sides (inr e) = by_side (bound_pays an l fit fwd bwd v m frame map_from to before_by f r h inside_to placed_to marked_to b n t gave e)
              where
                by_side : (is_wrong b ≡ true) ⊎ Trouble an frame before_by n t → ((is_wrong a ≡ true) ⊎ (is_wrong b ≡ true)) ⊎ Trouble an frame before_by n t
                by_side (inl x) = inl (inr x)
                by_side (inr x) = inr x

            by_world : (z : World) × Fine an z n × Kept an (expr_of an frame to) v m z n × FirstOf (After an frame map_from to) b n → EndsBad an frame behind breaks_to continues_to ending t
            by_world (z, g, j, p) = by_bad a b ending z n t g (runs_kept an (expr_of an frame to) v z m n frame j r) p.2.1 k (sides y)

    pub number_backward : (w : World) (s : State) → Fine an w s → Runs an w s frame → Held an frame map s → (ending : Ending) (t : State) → stat an.program l frame st s ≡ Gave ending t
        → Trouble an frame (stm (rules_of an frame) (seen_of an frame) st behind breaks_to continues_to) s t → EndsBad an frame behind breaks_to continues_to ending t
    unfolding ◌>>=◌
    number_backward w s f r h ending t q y = by_step (stat_gave an.program l frame span (NumFor (the_bind name bind_span typ) from to by body) s ending t q)
      where
        by_step : (m : State) × Same s m × (execute an.program l frame (NumFor (the_bind name bind_span typ) from to by body) m ≡ Gave ending t) → EndsBad an frame behind breaks_to continues_to ending t
        by_step (m, there, k) = by_parts (gave_then (value l frame from m)
            (λ a. ◌>>=◌ (value l frame to) (λ b. ◌>>=◌ (bounds_of l frame by) (λ c. ◌>>=◌ (begin_for (a ∷ b ∷ c)) (λ x. l.turns frame (NumLoop (frame.reading.local_at bind_span.start) body))))) ending t k)
          where
            fine_m : Fine an w m
            fine_m = fine_same an w s m there.0 there.1 f

            runs_m : Runs an w m frame
            runs_m = runs_kept an (expr_of an frame from) w w s m frame (kept_same an (expr_of an frame from) w s m there.0 there.1) r

            held_m : Held an frame map m
            held_m = held_same an s m frame map there h

            by_parts : (a : Value) × (n : State) × (value l frame from m ≡ Gave a n)
                × (◌>>=◌ (value l frame to) (λ b. ◌>>=◌ (bounds_of l frame by) (λ c. ◌>>=◌ (begin_for (a ∷ b ∷ c)) (λ x. l.turns frame (NumLoop (frame.reading.local_at bind_span.start) body)))) n ≡ Gave ending t)
                → EndsBad an frame behind breaks_to continues_to ending t
            by_parts (a, n, gave, k) = by_world (ends_gave an (expr_of an frame from) w m (FirstOf (After an frame map from)) (value l frame from m) a n gave
                (value_forward an l fwd w m frame map from fine_m runs_m held_m inside_from placed_from))
              where
                by_world : (z : World) × Fine an z n × Kept an (expr_of an frame from) w m z n × FirstOf (After an frame map from) a n → EndsBad an frame behind breaks_to continues_to ending t
                by_world (z, g, j, p) = to_bad a ending z n t g (runs_kept an (expr_of an frame from) w z m n frame j runs_m) p.2.1 k
                    (bound_pays an l fit fwd bwd w m frame map from before_to fine_m runs_m held_m inside_from placed_from marked_from a n t gave
                    (trouble_same an frame (ev_bound (rules_of an frame) (seen_of an frame) from before_to) s m t there y))
