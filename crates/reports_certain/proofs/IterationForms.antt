-- A generic `for`, forward and backward: the statement.
use Rattle.std.proofs.Common.{◌≡◌, ◌<◌, Bool, true, false, List, [], ◌∷◌, ◌++◌, ◌⊎◌, inl, inr, refl, sym, ◌∙◌, ap, subst, drop}
use Rattle.std.specs.List.{AllByRecursion}
use Rattle.luau_values.specs.Value.{Value, Tab, Lit, Builtin, Other}
use Rattle.luau_values.specs.Heap.{Heap}
use Rattle.luau_values.specs.Stands.{Stands}
use Rattle.luau_tree.specs.Tree.{Exprs, no_exprs, more_exprs, Binds, Block, Stat, the_stat, GenFor}
use Rattle.luau_tree.specs.declared.position.Span.{Span}
use Rattle.luau_tree.specs.declared.names.Op.TheVariants.{Iterate as IterateOp}
use Rattle.luau_run.specs.SyntaxNode.{of_exprs, of_binds, of_block, of_stat}
use Rattle.luau_run.specs.Machine.{State, Gave, ◌>>=◌, fail}
use Rattle.luau_run.specs.Layer.{Frame, Ending, Falls, Breaks, Continues, Returns, FunctionLoop, TableLoop, OtherLoop, Layer, first}
use Rattle.luau_run.specs.Expressions.{all_values}
use Rattle.luau_run.specs.Statements.{iterate, execute, stat}
use Rattle.type_arena.specs.Term.{never}
use Rattle.type_normal.specs.Holds.{holds}
use Rattle.type_normal.specs.Kinds.{has_kind}
use Rattle.type_normal.specs.Failing.{no_iteration, iter_fail}
use Rattle.type_normal.proofs.Public.{kinds_hold, never_none}
use Rattle.report_rules.specs.Effects.{effects, any_effects}
use Rattle.report_rules.specs.TypeMap.{TypeMap, head}
use Rattle.report_rules.specs.Forward.{after_list}
use Rattle.report_rules.specs.Seen.{seen_list, seen_stat, seen_block}
use Rattle.report_rules.specs.Context.{Context, none, followed}
use Rattle.report_rules.specs.Checks.{Operand}
use Rattle.report_rules.specs.Errors.{ev}
use Rattle.report_rules.specs.Statements.{ev_values, ev_iteration, iteration_kinds, keep, stm}
use Rattle.report_rules.specs.Findings.{Finding, found, found_parts, found_iteration, found_stat, found_block}
use Rattle.report_rules.specs.Reports.{findings}
use Rattle.run_frame.specs.Analysis.{Analysis}
use Rattle.run_frame.specs.Statements.{stats_of_block, stats_of, stats_of_exprs}
use Rattle.run_frame.specs.Fit.{Fit}
use Rattle.run_frame.proofs.World.{World}
use Rattle.run_frame.proofs.Kept.{MayMore, Kept, kept_same}
use Rattle.run_frame.proofs.Fine.{Fine, fine_same}
use Rattle.run_frame.proofs.Held.{Runs, runs_kept, Held, held_same, Violated}
use Rattle.run_frame.proofs.Parts.{Ends, Same, ends_then, ends_so, ends_more, ends_fail, ends_gave, gave_then, gave_not_failed}
use Rattle.run_frame.proofs.Layers.{rules_of, seen_of, part_of, stat_of, Inside, Placed, Marked, Leads, EndsBad, Trouble, Forward, Backward, Turns}
use Rattle.run_frame.proofs.LooseContexts.{SparesAll}
use Rattle.run_frame.proofs.Readings.{sub_tail, sub_left, sub_right}
use Rattle.run_frame.proofs.Passing.{held_after}
use Rattle.run_frame.proofs.Lists.{ListGives, list_forward}
use Rattle.run_frame.proofs.Counts.{reached}
use Rattle.run_frame.proofs.Blocks.{count_split}
use Rattle.run_frame.proofs.Statements.{ends_stat, stat_gave, trouble_same}
use Rattle.run_frame.proofs.ListsBack.{by_set, unchecked, Checks, ev_checks, found_checks, SomeIn, list_pays}
use Rattle.reports_certain.proofs.Loops.{head_held, head_steady, keep_below, keep_spares, keep_steady, loop_end}

-- ---- the values

-- no value but the first is checked
abbrev plain_checks : (an : Analysis) (frame : Frame) (es : Exprs) → Checks an frame es
plain_checks an frame no_exprs = tt
plain_checks an frame (more_exprs e rest) = (unchecked an frame e, inr refl, plain_checks an frame rest)

abbrev iteration_checks : (an : Analysis) (frame : Frame) (es : Exprs) → Checks an frame es
iteration_checks an frame no_exprs = tt
iteration_checks an frame (more_exprs e rest) = (by_set an frame e iter_fail (Operand IterateOp), inr refl, plain_checks an frame rest)

ev_plain : (an : Analysis) (frame : Frame) (es : Exprs) (behind : Context) → ev_checks an frame es (plain_checks an frame es) behind ≡ ev_values (rules_of an frame) (seen_of an frame) [] es behind
ev_plain an frame no_exprs behind = refl
ev_plain an frame (more_exprs e rest) behind = ap (λ (c : Context). followed (ev (rules_of an frame) (seen_of an frame) e never) (effects (rules_of an frame) e) c) (ev_plain an frame rest behind)

ev_first : (an : Analysis) (frame : Frame) (es : Exprs) (behind : Context) → ev_checks an frame es (iteration_checks an frame es) behind ≡ ev_iteration (rules_of an frame) (seen_of an frame) es behind
ev_first an frame no_exprs behind = refl
ev_first an frame (more_exprs e rest) behind =
    ap (λ (c : Context). followed (ev (rules_of an frame) (seen_of an frame) e (by_set an frame e iter_fail (Operand IterateOp)).asked) (effects (rules_of an frame) e) c) (ev_plain an frame rest behind)

found_plain : (an : Analysis) (frame : Frame) (es : Exprs) → found_checks an frame es (plain_checks an frame es) ≡ found_parts (rules_of an frame) (seen_of an frame) es
found_plain an frame no_exprs = refl
found_plain an frame (more_exprs e rest) = ap (λ (fs : List Finding). found (rules_of an frame) (seen_of an frame) [] e ++ fs) (found_plain an frame rest)

found_first : (an : Analysis) (frame : Frame) (es : Exprs) → found_checks an frame es (iteration_checks an frame es) ≡ found_iteration (rules_of an frame) (seen_of an frame) es
found_first an frame no_exprs = refl
found_first an frame (more_exprs e rest) =
    ap (λ (fs : List Finding). found (rules_of an frame) (seen_of an frame) (iteration_kinds (seen_of an frame) e) e ++ fs) (found_plain an frame rest)

none_plain : (an : Analysis) (frame : Frame) (es : Exprs) (h : Heap) (vs : List Value) → SomeIn an frame es (plain_checks an frame es) h vs → ⊥
none_plain an frame no_exprs h vs k = k
none_plain an frame (more_exprs e rest) h vs (inl k) = clash (holds h (first vs) never) k (never_none h (first vs))
  where
    clash : (b : Bool) → b ≡ true → b ≡ false → ⊥
    clash b p q = cc
none_plain an frame (more_exprs e rest) h vs (inr k) = none_plain an frame rest h (drop 1 vs) k

only_first : (an : Analysis) (frame : Frame) (es : Exprs) (h : Heap) (vs : List Value) → SomeIn an frame es (iteration_checks an frame es) h vs → holds h (first vs) iter_fail ≡ true
only_first an frame no_exprs h vs k = absurd k
only_first an frame (more_exprs e rest) h vs (inl k) = k
only_first an frame (more_exprs e rest) h vs (inr k) = absurd (none_plain an frame rest h (drop 1 vs) k)

first_stands : (h : Heap) (vs : List Value) → AllByRecursion (Stands h) vs → Stands h (first vs)
first_stands h [] k = tt
first_stands h (v ∷ vs) k = k.0

rest_stands : (h : Heap) (vs : List Value) → AllByRecursion (Stands h) vs → AllByRecursion (Stands h) (drop 1 vs)
rest_stands h [] k = tt
rest_stands h (v ∷ vs) k = k.1

-- ---- the statement

module _ (an : Analysis) (l : Layer) (fit : Fit an) (fwd : Forward an l) (frame : Frame) (map : TypeMap) (span : Span) (binds : Binds) (values : Exprs) (body : Block)
    (inside : Inside frame (of_stat (the_stat span (GenFor binds values body))) (stats_of (the_stat span (GenFor binds values body))))
    (placed : Placed an frame (seen_stat (rules_of an frame) map (the_stat span (GenFor binds values body)))) where
  abbrev st : Stat
  st = the_stat span (GenFor binds values body)

  abbrev map_values : TypeMap
  map_values = after_list (rules_of an frame) map values

  abbrev turn_head : TypeMap
  turn_head = head (rules_of an frame) st map_values

  inside_values : Inside frame (of_exprs values) (stats_of_exprs values)
  inside_values = record {
    nodes = sub_right (of_binds binds) (of_exprs values) (of_block frame.reading.block) (sub_left (of_binds binds ++ of_exprs values) (of_block body) (of_block frame.reading.block) inside.nodes);
    stats = sub_left (stats_of_exprs values) (stats_of_block body) (stats_of_block frame.reading.block)
        (sub_tail st (stats_of_exprs values ++ stats_of_block body) (stats_of_block frame.reading.block) inside.stats);
  }

  inside_body : Inside frame (of_block body) (stats_of_block body)
  inside_body = record {
    nodes = sub_right (of_binds binds ++ of_exprs values) (of_block body) (of_block frame.reading.block) inside.nodes;
    stats = sub_right (stats_of_exprs values) (stats_of_block body) (stats_of_block frame.reading.block)
        (sub_tail st (stats_of_exprs values ++ stats_of_block body) (stats_of_block frame.reading.block) inside.stats);
  }

  placed_values : Placed an frame (seen_list (rules_of an frame) map values)
  placed_values = sub_left (seen_list (rules_of an frame) map values) (seen_block (rules_of an frame) turn_head body) (seen_of an frame) placed

  placed_body : Placed an frame (seen_block (rules_of an frame) turn_head body)
  placed_body = sub_right (seen_list (rules_of an frame) map values) (seen_block (rules_of an frame) turn_head body) (seen_of an frame) placed

  may_values : MayMore (part_of frame (any_effects (rules_of an frame) values)) (stat_of an frame st)
  may_values = record { runs = inr refl; assigns = λ x e. refl; binds = λ x e. cc; calm = λ e. cc }

  -- ---- forward

  lead_function : (iterator second control : Value) (ending : Ending) (t : State) → Turns an frame turn_head (FunctionLoop iterator second control binds body) ending t → Leads an frame map st ending t
  lead_function iterator second control Falls t h = h
  lead_function iterator second control Breaks t h = absurd h
  lead_function iterator second control Continues t h = absurd h
  lead_function iterator second control (Returns vs) t h = h

  lead_table : (ending : Ending) (t : State) → Turns an frame turn_head (TableLoop binds body) ending t → Leads an frame map st ending t
  lead_table Falls t h = h
  lead_table Breaks t h = absurd h
  lead_table Continues t h = absurd h
  lead_table (Returns vs) t h = h

  lead_other : (ending : Ending) (t : State) → Turns an frame turn_head (OtherLoop binds body) ending t → Leads an frame map st ending t
  lead_other Falls t h = h
  lead_other Breaks t h = absurd h
  lead_other Continues t h = absurd h
  lead_other (Returns vs) t h = h

  over_function : (iterator : Value) (rest : List Value) (v : World) (m : State) → Fine an v m → Runs an v m frame → Held an frame map_values m → Stands m.store.heap iterator
      → AllByRecursion (Stands m.store.heap) rest → Ends an (stat_of an frame st) v m (Leads an frame map st) (l.turns frame (FunctionLoop iterator (first rest) (first (drop 1 rest)) binds body) m)
  over_function iterator rest v m f r h there all = ends_so an (stat_of an frame st) v m (Turns an frame turn_head (FunctionLoop iterator (first rest) (first (drop 1 rest)) binds body)) (Leads an frame map st) (l.turns frame (FunctionLoop iterator (first rest) (first (drop 1 rest)) binds body) m)
      (λ ending t y q d j z. lead_function iterator (first rest) (first (drop 1 rest)) ending t z)
      (fwd.turns v m frame turn_head (FunctionLoop iterator (first rest) (first (drop 1 rest)) binds body) f r (head_held an frame st map_values m h) (head_steady (rules_of an frame) st (FunctionLoop iterator (first rest) (first (drop 1 rest)) binds body) map_values (λ x e. e) (λ e. e)) inside_body placed_body (there, first_stands m.store.heap rest all, first_stands m.store.heap (drop 1 rest) (rest_stands m.store.heap rest all)))

  iterated : (x : Value) (rest : List Value) (v : World) (m : State) → Fine an v m → Runs an v m frame → Held an frame map_values m → Stands m.store.heap x → AllByRecursion (Stands m.store.heap) rest
      → Ends an (stat_of an frame st) v m (Leads an frame map st) (iterate l frame binds body rest x m)
  unfolding fail
  iterated (Lit home number cells) rest v m f r h there all = over_function (Lit home number cells) rest v m f r h there all
  iterated (Builtin path) rest v m f r h there all = over_function (Builtin path) rest v m f r h there all
  iterated (Tab address) rest v m f r h there all = ends_so an (stat_of an frame st) v m (Turns an frame turn_head (TableLoop binds body)) (Leads an frame map st) (l.turns frame (TableLoop binds body) m)
      (λ ending t y q d j z. lead_table ending t z)
      (fwd.turns v m frame turn_head (TableLoop binds body) f r (head_held an frame st map_values m h) (head_steady (rules_of an frame) st (TableLoop binds body) map_values (λ x e. e) (λ e. e)) inside_body placed_body tt)
  iterated (Other number) rest v m f r h there all = ends_so an (stat_of an frame st) v m (Turns an frame turn_head (OtherLoop binds body)) (Leads an frame map st) (l.turns frame (OtherLoop binds body) m)
      (λ ending t y q d j z. lead_other ending t z)
      (fwd.turns v m frame turn_head (OtherLoop binds body) f r (head_held an frame st map_values m h) (head_steady (rules_of an frame) st (OtherLoop binds body) map_values (λ x e. e) (λ e. e)) inside_body placed_body tt)
  iterated _ rest v m f r h there all = ends_fail an (stat_of an frame st) v m m (Leads an frame map st) f (refl, refl)

  -- the values, and the map behind them
  abbrev Valued : List Value → State → Type 0
  Valued vs t = ListGives an frame map values vs t × Held an frame map_values t

  values_end : (v : World) (s : State) → Fine an v s → Runs an v s frame → Held an frame map s → Ends an (part_of frame (any_effects (rules_of an frame) values)) v s Valued (all_values l frame values s)
  values_end v s f r h = ends_so an (part_of frame (any_effects (rules_of an frame) values)) v s (ListGives an frame map values) Valued (all_values l frame values s)
      (λ vs t z q g k p. (p, held_after an v z s t frame map (any_effects (rules_of an frame) values) f r k h)) (list_forward an l fwd v s frame map values f r h inside_values placed_values)

  pub iteration_forward : (w : World) (s : State) → Fine an w s → Runs an w s frame → Held an frame map s → Ends an (stat_of an frame st) w s (Leads an frame map st) (stat an.program l frame st s)
  unfolding ◌>>=◌
  iteration_forward w s f r h = ends_stat an an.program l (stat_of an frame st) w s frame span (GenFor binds values body) (Leads an frame map st) f
      (λ t v g k p. ends_then an (stat_of an frame st) v t Valued (Leads an frame map st) (all_values l frame values t) (λ vs. iterate l frame binds body (drop 1 vs) (first vs))
      (ends_more an (part_of frame (any_effects (rules_of an frame) values)) (stat_of an frame st) v t Valued (all_values l frame values t) may_values
      (values_end v t g (runs_kept an (stat_of an frame st) w v s t frame k r) (held_same an s t frame map p h)))
      (λ vs u y d j q. iterated (first vs) (drop 1 vs) y u d (runs_kept an (stat_of an frame st) v y t u frame j (runs_kept an (stat_of an frame st) w v s t frame k r)) q.1
      (first_stands u.store.heap vs q.0.stand) (rest_stands u.store.heap vs q.0.stand)))

  -- ---- backward

  module _ (bwd : Backward an l) (behind breaks_to continues_to : Context)
      (marked : Marked an frame (found_stat (rules_of an frame) (seen_of an frame) st behind breaks_to continues_to)) (spares : SparesAll (rules_of an frame) behind breaks_to continues_to) where
    abbrev kept : Context
    kept = keep (rules_of an frame) st body behind

    abbrev found_turn : List Finding
    found_turn = found_block (rules_of an frame) (seen_of an frame) body kept behind kept

    marked_values : Marked an frame (found_checks an frame values (iteration_checks an frame values))
    marked_values = subst (λ (fs : List Finding). Marked an frame fs) (sym (found_first an frame values))
        (sub_left (found_iteration (rules_of an frame) (seen_of an frame) values) found_turn (findings (rules_of an frame)) marked)

    marked_body : Marked an frame found_turn
    marked_body = sub_right (found_iteration (rules_of an frame) (seen_of an frame) values) found_turn (findings (rules_of an frame)) marked

    turned : (m t : State) → Trouble an frame kept m t → Trouble an frame none m t ⊎ Violated an frame kept m
    turned m t (inl e) = inr e
    turned m t (inr e) = inl (inr e)

    right : (h : Heap) (x : Value) → has_kind no_iteration x ≡ false → holds h x iter_fail ≡ true → ⊥
    right h x e k = clash (has_kind no_iteration x) (sym (kinds_hold h x no_iteration) ∙ k) e
      where
        clash : (b : Bool) → b ≡ true → b ≡ false → ⊥
        clash b p q = cc

    function_turned : (iterator : Value) (rest : List Value) (ending : Ending) (v : World) (m t : State) → Fine an v m → Runs an v m frame → Held an frame map_values m → Stands m.store.heap iterator
        → AllByRecursion (Stands m.store.heap) rest → l.turns frame (FunctionLoop iterator (first rest) (first (drop 1 rest)) binds body) m ≡ Gave ending t → Trouble an frame kept m t → EndsBad an frame behind breaks_to continues_to ending t
    function_turned iterator rest ending v m t f r h there all q y = loop_end an frame behind breaks_to continues_to ending t
        (bwd.turns v m frame turn_head (FunctionLoop iterator (first rest) (first (drop 1 rest)) binds body) behind kept f r (head_held an frame st map_values m h) (head_steady (rules_of an frame) st (FunctionLoop iterator (first rest) (first (drop 1 rest)) binds body) map_values (λ x e. e) (λ e. e))
        (keep_steady (rules_of an frame) st (FunctionLoop iterator (first rest) (first (drop 1 rest)) binds body) behind (λ x e. e) (λ e. e)) (keep_below (rules_of an frame) st body behind) inside_body placed_body marked_body spares.0
        (keep_spares (rules_of an frame) st body behind spares.0) (there, first_stands m.store.heap rest all, first_stands m.store.heap (drop 1 rest) (rest_stands m.store.heap rest all)) ending t q (turned m t y))

    iterated_bad : (x : Value) (rest : List Value) (ending : Ending) (v : World) (m t : State) → Fine an v m → Runs an v m frame → Held an frame map_values m → Stands m.store.heap x
        → AllByRecursion (Stands m.store.heap) rest → iterate l frame binds body rest x m ≡ Gave ending t → (holds m.store.heap x iter_fail ≡ true) ⊎ Trouble an frame kept m t
        → EndsBad an frame behind breaks_to continues_to ending t
    unfolding fail
    iterated_bad (Lit home number cells) rest ending v m t f r h there all q (inl k) = absurd (right m.store.heap (Lit home number cells) refl k)
    iterated_bad (Builtin path) rest ending v m t f r h there all q (inl k) = absurd (right m.store.heap (Builtin path) refl k)
    iterated_bad (Tab address) rest ending v m t f r h there all q (inl k) = absurd (right m.store.heap (Tab address) refl k)
    iterated_bad (Other number) rest ending v m t f r h there all q (inl k) = absurd (right m.store.heap (Other number) refl k)
    iterated_bad (Lit home number cells) rest ending v m t f r h there all q (inr y) = function_turned (Lit home number cells) rest ending v m t f r h there all q y
    iterated_bad (Builtin path) rest ending v m t f r h there all q (inr y) = function_turned (Builtin path) rest ending v m t f r h there all q y
    iterated_bad (Tab address) rest ending v m t f r h there all q (inr y) = loop_end an frame behind breaks_to continues_to ending t
        (bwd.turns v m frame turn_head (TableLoop binds body) behind kept f r (head_held an frame st map_values m h) (head_steady (rules_of an frame) st (TableLoop binds body) map_values (λ x e. e) (λ e. e))
        (keep_steady (rules_of an frame) st (TableLoop binds body) behind (λ x e. e) (λ e. e)) (keep_below (rules_of an frame) st body behind) inside_body placed_body marked_body spares.0
        (keep_spares (rules_of an frame) st body behind spares.0) tt ending t q (turned m t y))
    iterated_bad (Other number) rest ending v m t f r h there all q (inr y) = loop_end an frame behind breaks_to continues_to ending t
        (bwd.turns v m frame turn_head (OtherLoop binds body) behind kept f r (head_held an frame st map_values m h) (head_steady (rules_of an frame) st (OtherLoop binds body) map_values (λ x e. e) (λ e. e))
        (keep_steady (rules_of an frame) st (OtherLoop binds body) behind (λ x e. e) (λ e. e)) (keep_below (rules_of an frame) st body behind) inside_body placed_body marked_body spares.0
        (keep_spares (rules_of an frame) st body behind spares.0) tt ending t q (turned m t y))
    iterated_bad _ rest ending v m t f r h there all q y = absurd (gave_not_failed m t ending q)

    pub iteration_backward : (w : World) (s : State) → Fine an w s → Runs an w s frame → Held an frame map s → (ending : Ending) (t : State) → stat an.program l frame st s ≡ Gave ending t
        → Trouble an frame (stm (rules_of an frame) (seen_of an frame) st behind breaks_to continues_to) s t → EndsBad an frame behind breaks_to continues_to ending t
    unfolding ◌>>=◌
    iteration_backward w s f r h ending t q y = by_step (stat_gave an.program l frame span (GenFor binds values body) s ending t q)
      where
        by_step : (m : State) × Same s m × (execute an.program l frame (GenFor binds values body) m ≡ Gave ending t) → EndsBad an frame behind breaks_to continues_to ending t
        by_step (m, there, k) = by_parts (gave_then (all_values l frame values m) (λ vs. iterate l frame binds body (drop 1 vs) (first vs)) ending t k)
          where
            fine_m : Fine an w m
            fine_m = fine_same an w s m there.0 there.1 f

            runs_m : Runs an w m frame
            runs_m = runs_kept an (part_of frame false) w w s m frame (kept_same an (part_of frame false) w s m there.0 there.1) r

            held_m : Held an frame map m
            held_m = held_same an s m frame map there h

            by_parts : (vs : List Value) × (n : State) × (all_values l frame values m ≡ Gave vs n) × (iterate l frame binds body (drop 1 vs) (first vs) n ≡ Gave ending t)
                → EndsBad an frame behind breaks_to continues_to ending t
            by_parts (vs, n, gave, c) = by_world (ends_gave an (part_of frame (any_effects (rules_of an frame) values)) w m Valued (all_values l frame values m) vs n gave (values_end w m fine_m runs_m held_m))
              where
                pays : Trouble an frame (ev_iteration (rules_of an frame) (seen_of an frame) values kept) m n → (holds n.store.heap (first vs) iter_fail ≡ true) ⊎ Trouble an frame kept n t
                pays e = by_side (list_pays an l fit fwd bwd w m frame map values (iteration_checks an frame values) kept fine_m runs_m held_m inside_values placed_values marked_values vs n gave
                    (subst (λ (x : Context). Trouble an frame x m n) (sym (ev_first an frame values kept)) e))
                  where
                    by_side : SomeIn an frame values (iteration_checks an frame values) n.store.heap vs ⊎ Violated an frame kept n → (holds n.store.heap (first vs) iter_fail ≡ true) ⊎ Trouble an frame kept n t
                    by_side (inl x) = inl (only_first an frame values n.store.heap vs x)
                    by_side (inr x) = inr (inl x)

                by_count : (reached an frame.activation m.trace < reached an frame.activation n.trace) ⊎ (reached an frame.activation n.trace < reached an frame.activation t.trace)
                    → (holds n.store.heap (first vs) iter_fail ≡ true) ⊎ Trouble an frame kept n t
                by_count (inl e) = pays (inr e)
                by_count (inr e) = inr (inr e)

                sides : Trouble an frame (ev_iteration (rules_of an frame) (seen_of an frame) values kept) m t → (holds n.store.heap (first vs) iter_fail ≡ true) ⊎ Trouble an frame kept n t
                sides (inl e) = pays (inl e)
                sides (inr e) = by_count (count_split (reached an frame.activation m.trace) (reached an frame.activation n.trace) (reached an frame.activation t.trace) e)

                by_world : (z : World) × Fine an z n × Kept an (part_of frame (any_effects (rules_of an frame) values)) w m z n × Valued vs n → EndsBad an frame behind breaks_to continues_to ending t
                by_world (z, g, j, (gives, held)) = iterated_bad (first vs) (drop 1 vs) ending z n t g (runs_kept an (part_of frame (any_effects (rules_of an frame) values)) w z m n frame j runs_m) held
                    (first_stands n.store.heap vs gives.stand) (rest_stands n.store.heap vs gives.stand) c
                    (sides (trouble_same an frame (ev_iteration (rules_of an frame) (seen_of an frame) values kept) s m t there y))
