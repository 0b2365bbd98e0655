-- `repeat`, forward and backward: its turns, and the statement.
use Rattle.std.proofs.Common.{◌≡◌, ◌<◌, ℕ, Bool, true, false, not, ◌||◌, if◌then◌else◌, ◌++◌, ◌⊎◌, inl, inr, refl, sym, ap, subst, arith, [], List}
use Rattle.luau_values.specs.Value.{Value}
use Rattle.luau_tree.specs.Tree.{Expr, Block, the_stat, Repeat}
use Rattle.luau_tree.specs.declared.position.Span.{Span}
use Rattle.luau_run.specs.SyntaxNode.{of_expr, of_block, of_stat}
use Rattle.luau_run.specs.Machine.{State, Gave, go_on, ◌>>=◌, give, step}
use Rattle.luau_run.specs.Layer.{Frame, Ending, Falls, Breaks, Continues, Returns, RepeatLoop, Layer, first}
use Rattle.luau_run.specs.Operators.{is_true}
use Rattle.luau_run.specs.Calls.{block}
use Rattle.luau_run.specs.Expressions.{value}
use Rattle.luau_run.specs.Loops.{until, turn, turns}
use Rattle.luau_run.specs.Statements.{execute, stat}
use Rattle.type_arena.specs.Term.{never}
use Rattle.report_rules.specs.Effects.{effects, stirs_block}
use Rattle.report_rules.specs.TypeMap.{TypeMap}
use Rattle.report_rules.specs.After.{repeat_map}
use Rattle.report_rules.specs.Seen.{seen_expr, seen_stat, seen_block}
use Rattle.report_rules.specs.Context.{Context, none, pass, followed}
use Rattle.report_rules.specs.Errors.{ev}
use Rattle.report_rules.specs.Statements.{keep, stm, stm_block}
use Rattle.report_rules.specs.Findings.{found, found_stat, found_block}
use Rattle.report_rules.specs.Reports.{findings}
use Rattle.run_frame.specs.Analysis.{Analysis}
use Rattle.run_frame.specs.Statements.{stats_of_block, stats_of, stats_of_expr}
use Rattle.run_frame.specs.Fit.{Fit}
use Rattle.run_frame.proofs.World.{World}
use Rattle.run_frame.proofs.Counts.{reached}
use Rattle.run_frame.proofs.Kept.{MayMore, Kept, kept_same, kept_more}
use Rattle.run_frame.proofs.Fine.{Fine, fine_same}
use Rattle.run_frame.proofs.Held.{Runs, runs_kept, Held, held_same, Violated, violated_same}
use Rattle.run_frame.proofs.Parts.{Ends, Same, ends_then, ends_so, ends_more, ends_give, ends_gave, ends_step, step_same, gave_then, gave_same}
use Rattle.run_frame.proofs.Layers.{rules_of, seen_of, expr_of, stat_of, block_of, Inside, Placed, Marked, Leads, EndsBad, Trouble, Forward, Backward, loop_of, seen_in_loop, found_in_loop, Steady, SteadyContext, IsBelow, Turns}
use Rattle.run_frame.proofs.LooseContexts.{SparesLoose, SparesAll, spare_ev, spare_pass}
use Rattle.run_frame.proofs.Readings.{sub_tail, sub_left, sub_right}
use Rattle.run_frame.proofs.Passing.{violated_followed}
use Rattle.run_frame.proofs.Lists.{inside_left, inside_right, FirstOf}
use Rattle.run_frame.proofs.Blocks.{BlockLeads, block_forward, block_backward, count_split, same_end}
use Rattle.run_frame.proofs.Statements.{ends_stat, stat_gave, trouble_same, unchecked_count, unchecked_context}
use Rattle.run_frame.proofs.Forms.{value_gave, Evaluated, evaluated, After, value_forward}
use Rattle.reports_certain.proofs.Loops.{steady_held, steady_violated, kept_returns, below_violated, head_held, head_steady, keep_below, keep_spares, keep_steady, join_spares, loop_end}

body_calm : (a b : Bool) → a || b ≡ false → a ≡ false
body_calm true b e = cc
body_calm false b e = refl

cond_calm : (a b : Bool) → a || b ≡ false → b ≡ false
cond_calm true b e = cc
cond_calm false b e = e

not_not : (a : Bool) → not a ≡ true → a ≡ false
not_not true e = cc
not_not false e = refl

-- behind a body that goes on: the context at its end is violated, or what is kept, or a reported place is reached later
from_body : (an : Analysis) (frame : Frame) (a n t : State) (entry at_end kept : Context) → (Violated an frame kept a → Violated an frame kept n)
    → (Trouble an frame entry a n → Violated an frame at_end n) → Trouble an frame entry a t ⊎ Violated an frame kept a
    → Violated an frame at_end n ⊎ (Violated an frame kept n ⊎ (reached an frame.activation n.trace < reached an frame.activation t.trace))
from_body an frame a n t entry at_end kept stays bad (inl (inl e)) = inl (bad (inl e))
from_body an frame a n t entry at_end kept stays bad (inl (inr e)) =
    by_count (count_split (reached an frame.activation a.trace) (reached an frame.activation n.trace) (reached an frame.activation t.trace) e)
  where
    by_count : (reached an frame.activation a.trace < reached an frame.activation n.trace) ⊎ (reached an frame.activation n.trace < reached an frame.activation t.trace)
        → Violated an frame at_end n ⊎ (Violated an frame kept n ⊎ (reached an frame.activation n.trace < reached an frame.activation t.trace))
    by_count (inl k) = inl (bad (inr k))
    by_count (inr k) = inr (inr k)
from_body an frame a n t entry at_end kept stays bad (inr e) = inr (inl (stays e))

module _ (an : Analysis) (l : Layer) (fwd : Forward an l) (frame : Frame) (map : TypeMap) (body : Block) (cond : Expr) (steady : Steady (rules_of an frame) (RepeatLoop body cond) map)
    (inside : Inside frame (of_block body ++ of_expr cond) (stats_of_block body ++ stats_of_expr cond)) (placed : Placed an frame (seen_in_loop (rules_of an frame) map (RepeatLoop body cond))) where
  may_cond : MayMore (expr_of an frame cond) (loop_of an frame (RepeatLoop body cond))
  may_cond = record {
    runs = inr refl;
    assigns = λ x e. refl;
    binds = λ x e. cc;
    calm = λ e. ap not (cond_calm (stirs_block (rules_of an frame) body) (effects (rules_of an frame) cond) (not_not (stirs_block (rules_of an frame) body || effects (rules_of an frame) cond) e));
  }

  may_body : MayMore (block_of an frame body) (loop_of an frame (RepeatLoop body cond))
  may_body = record {
    runs = inr refl;
    assigns = λ x e. e;
    binds = λ x e. e;
    calm = λ e. ap not (body_calm (stirs_block (rules_of an frame) body) (effects (rules_of an frame) cond) (not_not (stirs_block (rules_of an frame) body || effects (rules_of an frame) cond) e));
  }

  inside_body : Inside frame (of_block body) (stats_of_block body)
  inside_body = inside_left frame (of_block body) (of_expr cond) (stats_of_block body) (stats_of_expr cond) inside

  inside_cond : Inside frame (of_expr cond) (stats_of_expr cond)
  inside_cond = inside_right frame (of_block body) (of_expr cond) (stats_of_block body) (stats_of_expr cond) inside

  placed_body : Placed an frame (seen_block (rules_of an frame) map body)
  placed_body = sub_left (seen_block (rules_of an frame) map body) (seen_expr (rules_of an frame) map cond) (seen_of an frame) placed

  placed_cond : Placed an frame (seen_expr (rules_of an frame) map cond)
  placed_cond = sub_right (seen_block (rules_of an frame) map body) (seen_expr (rules_of an frame) map cond) (seen_of an frame) placed

  -- ---- forward

  by_way : (way : Bool) (z : World) (b : State) → Fine an z b → Runs an z b frame → Held an frame map b
      → Ends an (loop_of an frame (RepeatLoop body cond)) z b (Turns an frame map (RepeatLoop body cond)) ((if way then give Falls else l.turns frame (RepeatLoop body cond)) b)
  by_way true z b f r h = ends_give an (loop_of an frame (RepeatLoop body cond)) z b (Turns an frame map (RepeatLoop body cond)) Falls f h
  by_way false z b f r h = fwd.turns z b frame map (RepeatLoop body cond) f r h steady inside placed tt

  -- the condition, at the end of a turn
  at_cond : (z : World) (b : State) → Fine an z b → Runs an z b frame → Held an frame map b
      → Ends an (loop_of an frame (RepeatLoop body cond)) z b (Turns an frame map (RepeatLoop body cond))
      (go_on (value l frame cond b) (λ c. if is_true c then give Falls else l.turns frame (RepeatLoop body cond)))
  at_cond z b f r h = ends_then an (loop_of an frame (RepeatLoop body cond)) z b (FirstOf (After an frame map cond)) (Turns an frame map (RepeatLoop body cond)) (value l frame cond b)
      (λ c. if is_true c then give Falls else l.turns frame (RepeatLoop body cond))
      (ends_more an (expr_of an frame cond) (loop_of an frame (RepeatLoop body cond)) z b (FirstOf (After an frame map cond)) (value l frame cond b) may_cond
      (value_forward an l fwd z b frame map cond f r h inside_cond placed_cond))
      (λ c u y g k p. by_way (is_true c) y u g (runs_kept an (loop_of an frame (RepeatLoop body cond)) z y b u frame k r)
      (steady_held an frame (RepeatLoop body cond) map steady z y b u f r k h))

  after_body : (ending : Ending) (z : World) (b : State) → Fine an z b → Runs an z b frame → Held an frame map b → BlockLeads an frame map body ending b
      → Ends an (loop_of an frame (RepeatLoop body cond)) z b (Turns an frame map (RepeatLoop body cond)) (until l frame cond (l.turns frame (RepeatLoop body cond)) ending b)
  unfolding ◌>>=◌
  after_body Falls z b f r h q = at_cond z b f r h
  after_body Continues z b f r h q = at_cond z b f r h
  after_body Breaks z b f r h q = ends_give an (loop_of an frame (RepeatLoop body cond)) z b (Turns an frame map (RepeatLoop body cond)) Falls f h
  after_body (Returns vs) z b f r h q = ends_give an (loop_of an frame (RepeatLoop body cond)) z b (Turns an frame map (RepeatLoop body cond)) (Returns vs) f q

  pub turns_forward : (w : World) (s : State) → Fine an w s → Runs an w s frame → Held an frame map s
      → Ends an (loop_of an frame (RepeatLoop body cond)) w s (Turns an frame map (RepeatLoop body cond)) (turns an.program l frame (RepeatLoop body cond) s)
  unfolding turns ◌>>=◌
  turns_forward w s f r h = ends_then an (loop_of an frame (RepeatLoop body cond)) w s (λ x t. Same s t) (Turns an frame map (RepeatLoop body cond)) (step s)
      (λ x. turn an.program l frame (RepeatLoop body cond)) (ends_step an (loop_of an frame (RepeatLoop body cond)) w s f)
      (λ x a v g k same. ends_then an (loop_of an frame (RepeatLoop body cond)) v a (BlockLeads an frame map body) (Turns an frame map (RepeatLoop body cond)) (block l frame body a)
      (until l frame cond (l.turns frame (RepeatLoop body cond)))
      (ends_more an (block_of an frame body) (loop_of an frame (RepeatLoop body cond)) v a (BlockLeads an frame map body) (block l frame body a) may_body
      (block_forward an l fwd v a frame map body g (runs_kept an (loop_of an frame (RepeatLoop body cond)) w v s a frame k r) (held_same an s a frame map same h) inside_body placed_body))
      (λ ending b z d j p. after_body ending z b d
      (runs_kept an (loop_of an frame (RepeatLoop body cond)) v z a b frame j (runs_kept an (loop_of an frame (RepeatLoop body cond)) w v s a frame k r))
      (steady_held an frame (RepeatLoop body cond) map steady v z a b g (runs_kept an (loop_of an frame (RepeatLoop body cond)) w v s a frame k r) j (held_same an s a frame map same h)) p))

  -- ---- backward

  module _ (fit : Fit an) (bwd : Backward an l) (behind kept : Context) (steady_context : SteadyContext (rules_of an frame) (RepeatLoop body cond) kept) (below : IsBelow kept behind)
      (marked : Marked an frame (found_in_loop (rules_of an frame) (seen_of an frame) behind kept (RepeatLoop body cond)))
      (spares : SparesLoose (rules_of an frame) behind) (spares_kept : SparesLoose (rules_of an frame) kept) where
    -- the context at the end of the body, and the one with which a turn begins
    abbrev at_end : Context
    at_end = followed (ev (rules_of an frame) (seen_of an frame) cond never) (effects (rules_of an frame) cond) kept

    abbrev entry : Context
    entry = stm_block (rules_of an frame) (seen_of an frame) body at_end behind at_end

    spares_end : SparesLoose (rules_of an frame) at_end
    spares_end = join_spares (rules_of an frame) (ev (rules_of an frame) (seen_of an frame) cond never) (pass (effects (rules_of an frame) cond) kept)
        (spare_ev (rules_of an frame) (seen_of an frame) cond never) (spare_pass (rules_of an frame) (effects (rules_of an frame) cond) kept spares_kept)

    marked_body : Marked an frame (found_block (rules_of an frame) (seen_of an frame) body at_end behind at_end)
    marked_body = sub_left (found_block (rules_of an frame) (seen_of an frame) body at_end behind at_end) (found (rules_of an frame) (seen_of an frame) [] cond) (findings (rules_of an frame)) marked

    marked_cond : Marked an frame (found (rules_of an frame) (seen_of an frame) [] cond)
    marked_cond = sub_right (found_block (rules_of an frame) (seen_of an frame) body at_end behind at_end) (found (rules_of an frame) (seen_of an frame) [] cond) (findings (rules_of an frame)) marked

    -- what is known of a state in a turn: what is kept is violated, or a reported place is reached later
    abbrev Late : State → State → Type 0
    Late b t = Violated an frame kept b ⊎ (reached an frame.activation b.trace < reached an frame.activation t.trace)

    way_ends : (way : Bool) (ending : Ending) (y : World) (b t : State) → Fine an y b → Runs an y b frame → Held an frame map b
        → (if way then give Falls else l.turns frame (RepeatLoop body cond)) b ≡ Gave ending t → Late b t → EndsBad an frame behind none none ending t
    unfolding give
    way_ends true ending y b t f r h q late = same_end an frame behind none none Falls ending b t q (by_late late)
      where
        by_late : Late b t → Violated an frame behind b
        by_late (inl e) = below_violated an frame kept behind b below e
        by_late (inr e) = absurd (omega (arith, e, ap (λ (x : State). reached an frame.activation x.trace) (gave_same Falls ending b t q).1))
    way_ends false ending y b t f r h q late =
        bwd.turns y b frame map (RepeatLoop body cond) behind kept f r h steady steady_context below inside placed marked spares spares_kept tt ending t q (by_late late)
      where
        by_late : Late b t → Trouble an frame entry b t ⊎ Violated an frame kept b
        by_late (inl e) = inr e
        by_late (inr e) = inl (inr e)

    -- the condition, where its context is violated, or what is kept, or a reported place is reached later
    cond_ends : (ending : Ending) (y : World) (n t : State) → Fine an y n → Runs an y n frame → Held an frame map n
        → go_on (value l frame cond n) (λ c. if is_true c then give Falls else l.turns frame (RepeatLoop body cond)) ≡ Gave ending t
        → Violated an frame at_end n ⊎ Late n t → EndsBad an frame behind none none ending t
    cond_ends ending y n t f r h q late = by_cond (gave_then (value l frame cond n) (λ c. if is_true c then give Falls else l.turns frame (RepeatLoop body cond)) ending t q)
      where
        by_cond : (c : Value) × (b : State) × (value l frame cond n ≡ Gave c b) × ((if is_true c then give Falls else l.turns frame (RepeatLoop body cond)) b ≡ Gave ending t)
            → EndsBad an frame behind none none ending t
        by_cond (c, b, valued, k) = by_value (value_gave l frame cond n c b valued)
          where
            by_value : (vs : List Value) × (l.values frame cond n ≡ Gave vs b) × (c ≡ first vs) → EndsBad an frame behind none none ending t
            by_value (vs, gave, is) = by_evaluated (evaluated an l fwd bwd y n frame map cond [] f r h inside_cond placed_cond marked_cond vs b gave)
              where
                by_evaluated : Evaluated an y n frame map cond vs b → EndsBad an frame behind none none ending t
                by_evaluated o = way_ends (is_true c) ending o.world b t o.fine o.runs
                    (steady_held an frame (RepeatLoop body cond) map steady y o.world n b f r
                    (kept_more an (expr_of an frame cond) (loop_of an frame (RepeatLoop body cond)) y o.world n b may_cond o.kept) h) k (by_late late)
                  where
                    by_end : Violated an frame (ev (rules_of an frame) (seen_of an frame) cond never) n ⊎ Violated an frame kept b → Late b t
                    by_end (inl e) = absurd (unchecked_context an frame cond n vs b o.pays e)
                    by_end (inr e) = inl e

                    by_late : Violated an frame at_end n ⊎ Late n t → Late b t
                    by_late (inl e) = by_end (violated_followed an y o.world n b frame (ev (rules_of an frame) (seen_of an frame) cond never) kept (effects (rules_of an frame) cond) f r o.kept e)
                    by_late (inr (inl e)) = inl (steady_violated an frame (RepeatLoop body cond) kept steady_context y o.world n b f r
                        (kept_more an (expr_of an frame cond) (loop_of an frame (RepeatLoop body cond)) y o.world n b may_cond o.kept) e)
                    by_late (inr (inr e)) = inr (subst (λ (m : ℕ). m < reached an frame.activation t.trace) (sym (unchecked_count an y n frame cond vs n b fit r marked_cond o.pays)) e)

    -- the body ended, and then the turn
    turn_ends : (mid ending : Ending) (y : World) (a n t : State) → Fine an y n → Runs an y n frame → Held an frame map n → BlockLeads an frame map body mid n
        → (Violated an frame kept a → Violated an frame kept n) → (Trouble an frame entry a n → EndsBad an frame at_end behind at_end mid n)
        → until l frame cond (l.turns frame (RepeatLoop body cond)) mid n ≡ Gave ending t → Trouble an frame entry a t ⊎ Violated an frame kept a → EndsBad an frame behind none none ending t
    unfolding give ◌>>=◌
    turn_ends Falls ending y a n t f r h leads stays bad q late = cond_ends ending y n t f r h q (from_body an frame a n t entry at_end kept stays bad late)
    turn_ends Continues ending y a n t f r h leads stays bad q late = cond_ends ending y n t f r h q (from_body an frame a n t entry at_end kept stays bad late)
    turn_ends Breaks ending y a n t f r h leads stays bad q late = same_end an frame behind none none Falls ending n t q (by_late late)
      where
        by_late : Trouble an frame entry a t ⊎ Violated an frame kept a → Violated an frame behind n
        by_late (inl e) = bad (subst (λ (x : State). Trouble an frame entry a x) (sym (gave_same Falls ending n t q).1) e)
        by_late (inr e) = below_violated an frame kept behind n below (stays e)
    turn_ends (Returns vs) ending y a n t f r h leads stays bad q late = same_end an frame behind none none (Returns vs) ending n t q (by_late late)
      where
        by_late : Trouble an frame entry a t ⊎ Violated an frame kept a → ⊥
        by_late (inl e) = bad (subst (λ (x : State). Trouble an frame entry a x) (sym (gave_same (Returns vs) ending n t q).1) e)
        by_late (inr e) = kept_returns an frame (RepeatLoop body cond) kept a steady_context leads.0 e

    pub turns_backward : (w : World) (s : State) → Fine an w s → Runs an w s frame → Held an frame map s → (ending : Ending) (t : State)
        → turns an.program l frame (RepeatLoop body cond) s ≡ Gave ending t → Trouble an frame entry s t ⊎ Violated an frame kept s → EndsBad an frame behind none none ending t
    unfolding turns ◌>>=◌
    turns_backward w s f r h ending t q y = by_step (gave_then (step s) (λ x. turn an.program l frame (RepeatLoop body cond)) ending t q)
      where
        by_step : (x : Unit {0}) × (a : State) × (step s ≡ Gave x a) × (turn an.program l frame (RepeatLoop body cond) a ≡ Gave ending t) → EndsBad an frame behind none none ending t
        by_step (x, a, stepped, k) = by_body (gave_then (block l frame body a) (until l frame cond (l.turns frame (RepeatLoop body cond))) ending t k)
          where
            same : Same s a
            same = step_same s a stepped

            fine_a : Fine an w a
            fine_a = fine_same an w s a same.0 same.1 f

            runs_a : Runs an w a frame
            runs_a = runs_kept an (expr_of an frame cond) w w s a frame (kept_same an (expr_of an frame cond) w s a same.0 same.1) r

            held_a : Held an frame map a
            held_a = held_same an s a frame map same h

            from_here : Trouble an frame entry s t ⊎ Violated an frame kept s → Trouble an frame entry a t ⊎ Violated an frame kept a
            from_here (inl e) = inl (trouble_same an frame entry s a t same e)
            from_here (inr e) = inr (violated_same an s a frame kept same.0 e)

            by_body : (mid : Ending) × (n : State) × (block l frame body a ≡ Gave mid n) × (until l frame cond (l.turns frame (RepeatLoop body cond)) mid n ≡ Gave ending t)
                → EndsBad an frame behind none none ending t
            by_body (mid, n, ran, k) = by_world (ends_gave an (block_of an frame body) w a (BlockLeads an frame map body) (block l frame body a) mid n ran
                (block_forward an l fwd w a frame map body fine_a runs_a held_a inside_body placed_body))
              where
                by_world : (z : World) × Fine an z n × Kept an (block_of an frame body) w a z n × BlockLeads an frame map body mid n → EndsBad an frame behind none none ending t
                by_world (z, g, j, leads) = turn_ends mid ending z a n t g (runs_kept an (block_of an frame body) w z a n frame j runs_a)
                    (steady_held an frame (RepeatLoop body cond) map steady w z a n fine_a runs_a
                    (kept_more an (block_of an frame body) (loop_of an frame (RepeatLoop body cond)) w z a n may_body j) held_a) leads
                    (λ e. steady_violated an frame (RepeatLoop body cond) kept steady_context w z a n fine_a runs_a
                    (kept_more an (block_of an frame body) (loop_of an frame (RepeatLoop body cond)) w z a n may_body j) e)
                    (λ e. block_backward an l fwd bwd w a frame map body at_end behind at_end fine_a runs_a held_a inside_body placed_body marked_body (spares_end, spares, spares_end) mid n ran e)
                    k (from_here y)

-- ---- the statement

inside_loop : (frame : Frame) (span : Span) (body : Block) (cond : Expr) → Inside frame (of_stat (the_stat span (Repeat body cond))) (stats_of (the_stat span (Repeat body cond)))
    → Inside frame (of_block body ++ of_expr cond) (stats_of_block body ++ stats_of_expr cond)
inside_loop frame span body cond inside =
    record { nodes = inside.nodes; stats = sub_tail (the_stat span (Repeat body cond)) (stats_of_block body ++ stats_of_expr cond) (stats_of_block frame.reading.block) inside.stats }

turns_lead : (an : Analysis) (frame : Frame) (map : TypeMap) (span : Span) (body : Block) (cond : Expr) (ending : Ending) (t : State)
    → Turns an frame (repeat_map (rules_of an frame) span body cond map) (RepeatLoop body cond) ending t → Leads an frame map (the_stat span (Repeat body cond)) ending t
turns_lead an frame map span body cond Falls t h = h
turns_lead an frame map span body cond Breaks t h = absurd h
turns_lead an frame map span body cond Continues t h = absurd h
turns_lead an frame map span body cond (Returns vs) t h = h

pub repeat_forward : (an : Analysis) (l : Layer) → Forward an l → (w : World) (s : State) (frame : Frame) (map : TypeMap) (span : Span) (body : Block) (cond : Expr) → Fine an w s → Runs an w s frame
    → Held an frame map s → Inside frame (of_stat (the_stat span (Repeat body cond))) (stats_of (the_stat span (Repeat body cond)))
    → Placed an frame (seen_stat (rules_of an frame) map (the_stat span (Repeat body cond)))
    → Ends an (stat_of an frame (the_stat span (Repeat body cond))) w s (Leads an frame map (the_stat span (Repeat body cond))) (stat an.program l frame (the_stat span (Repeat body cond)) s)
repeat_forward an l fwd w s frame map span body cond f r h inside placed =
    ends_stat an an.program l (stat_of an frame (the_stat span (Repeat body cond))) w s frame span (Repeat body cond) (Leads an frame map (the_stat span (Repeat body cond))) f
    (λ t v g k p. ends_so an (stat_of an frame (the_stat span (Repeat body cond))) v t (Turns an frame (repeat_map (rules_of an frame) span body cond map) (RepeatLoop body cond))
    (Leads an frame map (the_stat span (Repeat body cond))) (l.turns frame (RepeatLoop body cond) t) (λ ending u y q d j z. turns_lead an frame map span body cond ending u z)
    (fwd.turns v t frame (repeat_map (rules_of an frame) span body cond map) (RepeatLoop body cond) g
    (runs_kept an (stat_of an frame (the_stat span (Repeat body cond))) w v s t frame k r) (head_held an frame (the_stat span (Repeat body cond)) map t (held_same an s t frame map p h))
    (head_steady (rules_of an frame) (the_stat span (Repeat body cond)) (RepeatLoop body cond) map (λ x e. e) (λ e. e)) (inside_loop frame span body cond inside) placed tt))

pub repeat_backward : (an : Analysis) (l : Layer) → Backward an l → (w : World) (s : State) (frame : Frame) (map : TypeMap) (span : Span) (body : Block) (cond : Expr)
    (behind breaks_to continues_to : Context) → Fine an w s → Runs an w s frame
    → Held an frame map s → Inside frame (of_stat (the_stat span (Repeat body cond))) (stats_of (the_stat span (Repeat body cond)))
    → Placed an frame (seen_stat (rules_of an frame) map (the_stat span (Repeat body cond)))
    → Marked an frame (found_stat (rules_of an frame) (seen_of an frame) (the_stat span (Repeat body cond)) behind breaks_to continues_to)
    → SparesAll (rules_of an frame) behind breaks_to continues_to → (ending : Ending) (t : State) → stat an.program l frame (the_stat span (Repeat body cond)) s ≡ Gave ending t
    → Trouble an frame (stm (rules_of an frame) (seen_of an frame) (the_stat span (Repeat body cond)) behind breaks_to continues_to) s t → EndsBad an frame behind breaks_to continues_to ending t
repeat_backward an l bwd w s frame map span body cond behind breaks_to continues_to f r h inside placed marked spares ending t q y = by_step (stat_gave an.program l frame span (Repeat body cond) s ending t q)
  where
    by_step : (m : State) × Same s m × (execute an.program l frame (Repeat body cond) m ≡ Gave ending t) → EndsBad an frame behind breaks_to continues_to ending t
    by_step p = loop_end an frame behind breaks_to continues_to ending t
        (bwd.turns w p.0 frame (repeat_map (rules_of an frame) span body cond map) (RepeatLoop body cond) behind (keep (rules_of an frame) (the_stat span (Repeat body cond)) body behind)
        (fine_same an w s p.0 p.1.0 p.1.1 f)
        (runs_kept an (block_of an frame body) w w s p.0 frame (kept_same an (block_of an frame body) w s p.0 p.1.0 p.1.1) r)
        (head_held an frame (the_stat span (Repeat body cond)) map p.0 (held_same an s p.0 frame map p.1 h))
        (head_steady (rules_of an frame) (the_stat span (Repeat body cond)) (RepeatLoop body cond) map (λ x e. e) (λ e. e))
        (keep_steady (rules_of an frame) (the_stat span (Repeat body cond)) (RepeatLoop body cond) behind (λ x e. e) (λ e. e))
        (keep_below (rules_of an frame) (the_stat span (Repeat body cond)) body behind) (inside_loop frame span body cond inside) placed marked spares.0
        (keep_spares (rules_of an frame) (the_stat span (Repeat body cond)) body behind spares.0) tt ending t p.2
        (inl (trouble_same an frame (stm (rules_of an frame) (seen_of an frame) (the_stat span (Repeat body cond)) behind breaks_to continues_to) s p.0 t p.1 y)))
