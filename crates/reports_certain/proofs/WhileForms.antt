-- `while`, forward and backward: its turns, and the statement.
use Rattle.std.proofs.Common.{◌≡◌, ◌<◌, ℕ, Bool, true, false, not, ◌||◌, if◌then◌else◌, ◌++◌, ◌⊎◌, inl, inr, refl, sym, ◌∙◌, ap, subst, arith, [], List}
use Rattle.luau_values.specs.Value.{Value}
use Rattle.luau_tree.specs.Tree.{Expr, Block, the_stat, While}
use Rattle.luau_tree.specs.declared.position.Span.{Span}
use Rattle.luau_run.specs.SyntaxNode.{of_expr, of_block, of_stat}
use Rattle.luau_run.specs.Machine.{State, Gave, ◌>>=◌, give, step}
use Rattle.luau_run.specs.Layer.{Frame, Ending, Falls, Breaks, Continues, Returns, WhileLoop, Layer, first}
use Rattle.luau_run.specs.Operators.{is_true}
use Rattle.luau_run.specs.Calls.{block}
use Rattle.luau_run.specs.Expressions.{value}
use Rattle.luau_run.specs.Loops.{next_turn, turn, turns}
use Rattle.luau_run.specs.Statements.{execute, stat}
use Rattle.type_arena.specs.Term.{never}
use Rattle.report_rules.specs.Effects.{effects, stirs_block}
use Rattle.report_rules.specs.TypeMap.{TypeMap, refine}
use Rattle.report_rules.specs.Forward.{after}
use Rattle.report_rules.specs.After.{while_head}
use Rattle.report_rules.specs.Seen.{seen_expr, seen_stat, seen_block}
use Rattle.report_rules.specs.Context.{Context, none, join}
use Rattle.report_rules.specs.Errors.{ev}
use Rattle.report_rules.specs.Statements.{keep, stm}
use Rattle.report_rules.specs.Findings.{found, found_stat, found_block}
use Rattle.report_rules.specs.Reports.{findings}
use Rattle.run_frame.specs.Analysis.{Analysis}
use Rattle.run_frame.specs.Statements.{stats_of_block, stats_of, stats_of_expr}
use Rattle.run_frame.specs.Fit.{Fit}
use Rattle.run_frame.proofs.World.{World}
use Rattle.run_frame.proofs.Counts.{reached}
use Rattle.run_frame.proofs.Kept.{MayMore, Kept, kept_same, kept_more}
use Rattle.run_frame.proofs.Fine.{Fine, fine_same}
use Rattle.run_frame.proofs.Held.{Runs, runs_kept, Held, held_same, Violated, violated_same}
use Rattle.run_frame.proofs.Parts.{Ends, Same, ends_then, ends_so, ends_more, ends_give, ends_gave, ends_step, step_same, gave_then, gave_same}
use Rattle.run_frame.proofs.Layers.{rules_of, seen_of, expr_of, stat_of, block_of, Inside, Placed, Marked, Leads, EndsBad, Trouble, Forward, Backward, loop_of, seen_in_loop, found_in_loop, Steady, SteadyContext, IsBelow, Turns}
use Rattle.run_frame.proofs.LooseContexts.{SparesLoose, SparesAll, spare_ev}
use Rattle.run_frame.proofs.Readings.{sub_tail, sub_left, sub_right}
use Rattle.run_frame.proofs.Passing.{violated_join}
use Rattle.run_frame.proofs.Lists.{inside_left, inside_right, FirstOf}
use Rattle.run_frame.proofs.Blocks.{BlockLeads, block_forward, block_backward, count_split, same_end}
use Rattle.run_frame.proofs.Statements.{ends_stat, stat_gave, trouble_same, unchecked_count, unchecked_context}
use Rattle.run_frame.proofs.Forms.{value_gave, Evaluated, evaluated, After, value_forward}
use Rattle.run_frame.proofs.Conditions.{held_way}
use Rattle.reports_certain.proofs.Loops.{steady_held, steady_violated, kept_returns, below_violated, head_held, head_steady, keep_below, keep_spares, keep_steady, join_spares, loop_end}

cond_calm : (a b : Bool) → a || b ≡ false → a ≡ false
cond_calm true b e = cc
cond_calm false b e = refl

body_calm : (a b : Bool) → a || b ≡ false → b ≡ false
body_calm true b e = cc
body_calm false b e = e

not_not : (a : Bool) → not a ≡ true → a ≡ false
not_not true e = cc
not_not false e = refl

module _ (an : Analysis) (l : Layer) (fwd : Forward an l) (frame : Frame) (map : TypeMap) (cond : Expr) (body : Block) (steady : Steady (rules_of an frame) (WhileLoop cond body) map)
    (inside : Inside frame (of_expr cond ++ of_block body) (stats_of_expr cond ++ stats_of_block body)) (placed : Placed an frame (seen_in_loop (rules_of an frame) map (WhileLoop cond body))) where
  -- the map where the condition came out true
  abbrev inner : TypeMap
  inner = refine (rules_of an frame) cond true (after (rules_of an frame) map cond)

  may_cond : MayMore (expr_of an frame cond) (loop_of an frame (WhileLoop cond body))
  may_cond = record {
    runs = inr refl;
    assigns = λ x e. refl;
    binds = λ x e. cc;
    calm = λ e. ap not (cond_calm (effects (rules_of an frame) cond) (stirs_block (rules_of an frame) body) (not_not (effects (rules_of an frame) cond || stirs_block (rules_of an frame) body) e));
  }

  may_body : MayMore (block_of an frame body) (loop_of an frame (WhileLoop cond body))
  may_body = record {
    runs = inr refl;
    assigns = λ x e. e;
    binds = λ x e. e;
    calm = λ e. ap not (body_calm (effects (rules_of an frame) cond) (stirs_block (rules_of an frame) body) (not_not (effects (rules_of an frame) cond || stirs_block (rules_of an frame) body) e));
  }

  inside_cond : Inside frame (of_expr cond) (stats_of_expr cond)
  inside_cond = inside_left frame (of_expr cond) (of_block body) (stats_of_expr cond) (stats_of_block body) inside

  inside_body : Inside frame (of_block body) (stats_of_block body)
  inside_body = inside_right frame (of_expr cond) (of_block body) (stats_of_expr cond) (stats_of_block body) inside

  placed_cond : Placed an frame (seen_expr (rules_of an frame) map cond)
  placed_cond = sub_left (seen_expr (rules_of an frame) map cond) (seen_block (rules_of an frame) inner body) (seen_of an frame) placed

  placed_body : Placed an frame (seen_block (rules_of an frame) inner body)
  placed_body = sub_right (seen_expr (rules_of an frame) map cond) (seen_block (rules_of an frame) inner body) (seen_of an frame) placed

  -- ---- forward

  after_body : (ending : Ending) (u : State) (y : World) → Fine an y u → Runs an y u frame → Held an frame map u → BlockLeads an frame inner body ending u
      → Ends an (loop_of an frame (WhileLoop cond body)) y u (Turns an frame map (WhileLoop cond body)) (next_turn (l.turns frame (WhileLoop cond body)) ending u)
  after_body Falls u y f r h q = fwd.turns y u frame map (WhileLoop cond body) f r h steady inside placed tt
  after_body Continues u y f r h q = fwd.turns y u frame map (WhileLoop cond body) f r h steady inside placed tt
  after_body Breaks u y f r h q = ends_give an (loop_of an frame (WhileLoop cond body)) y u (Turns an frame map (WhileLoop cond body)) Falls f h
  after_body (Returns vs) u y f r h q = ends_give an (loop_of an frame (WhileLoop cond body)) y u (Turns an frame map (WhileLoop cond body)) (Returns vs) f q

  by_way : (way : Bool) (z : World) (b : State) → Fine an z b → Runs an z b frame → Held an frame map b → (way ≡ true → Held an frame inner b)
      → Ends an (loop_of an frame (WhileLoop cond body)) z b (Turns an frame map (WhileLoop cond body))
      ((if way then ◌>>=◌ (block l frame body) (next_turn (l.turns frame (WhileLoop cond body))) else give Falls) b)
  unfolding ◌>>=◌
  by_way true z b f r h shows = ends_then an (loop_of an frame (WhileLoop cond body)) z b (BlockLeads an frame inner body) (Turns an frame map (WhileLoop cond body)) (block l frame body b)
      (next_turn (l.turns frame (WhileLoop cond body)))
      (ends_more an (block_of an frame body) (loop_of an frame (WhileLoop cond body)) z b (BlockLeads an frame inner body) (block l frame body b) may_body
      (block_forward an l fwd z b frame inner body f r (shows refl) inside_body placed_body))
      (λ ending u y g k q. after_body ending u y g (runs_kept an (loop_of an frame (WhileLoop cond body)) z y b u frame k r)
      (steady_held an frame (WhileLoop cond body) map steady z y b u f r k h) q)
  by_way false z b f r h shows = ends_give an (loop_of an frame (WhileLoop cond body)) z b (Turns an frame map (WhileLoop cond body)) Falls f h

  pub turns_forward : (w : World) (s : State) → Fine an w s → Runs an w s frame → Held an frame map s
      → Ends an (loop_of an frame (WhileLoop cond body)) w s (Turns an frame map (WhileLoop cond body)) (turns an.program l frame (WhileLoop cond body) s)
  unfolding turns ◌>>=◌
  turns_forward w s f r h = ends_then an (loop_of an frame (WhileLoop cond body)) w s (λ x t. Same s t) (Turns an frame map (WhileLoop cond body)) (step s)
      (λ x. turn an.program l frame (WhileLoop cond body)) (ends_step an (loop_of an frame (WhileLoop cond body)) w s f)
      (λ x a v g k same. ends_then an (loop_of an frame (WhileLoop cond body)) v a (FirstOf (After an frame map cond)) (Turns an frame map (WhileLoop cond body)) (value l frame cond a)
      (λ c. if is_true c then ◌>>=◌ (block l frame body) (next_turn (l.turns frame (WhileLoop cond body))) else give Falls)
      (ends_more an (expr_of an frame cond) (loop_of an frame (WhileLoop cond body)) v a (FirstOf (After an frame map cond)) (value l frame cond a) may_cond
      (value_forward an l fwd v a frame map cond g (runs_kept an (loop_of an frame (WhileLoop cond body)) w v s a frame k r) (held_same an s a frame map same h) inside_cond placed_cond))
      (λ c b z d j p. by_way (is_true c) z b d
      (runs_kept an (loop_of an frame (WhileLoop cond body)) v z a b frame j (runs_kept an (loop_of an frame (WhileLoop cond body)) w v s a frame k r))
      (steady_held an frame (WhileLoop cond body) map steady v z a b g (runs_kept an (loop_of an frame (WhileLoop cond body)) w v s a frame k r) j (held_same an s a frame map same h))
      (λ e. held_way an frame map cond p.0 b true (ap is_true (sym p.1) ∙ e) p.2.0 p.2.1)))

  -- ---- backward

  module _ (fit : Fit an) (bwd : Backward an l) (behind kept : Context) (steady_context : SteadyContext (rules_of an frame) (WhileLoop cond body) kept) (below : IsBelow kept behind)
      (marked : Marked an frame (found_in_loop (rules_of an frame) (seen_of an frame) behind kept (WhileLoop cond body)))
      (spares : SparesLoose (rules_of an frame) behind) (spares_kept : SparesLoose (rules_of an frame) kept) where
    -- the context at the end of the body
    abbrev at_end : Context
    at_end = join (ev (rules_of an frame) (seen_of an frame) cond never) kept

    spares_end : SparesLoose (rules_of an frame) at_end
    spares_end = join_spares (rules_of an frame) (ev (rules_of an frame) (seen_of an frame) cond never) kept (spare_ev (rules_of an frame) (seen_of an frame) cond never) spares_kept

    marked_cond : Marked an frame (found (rules_of an frame) (seen_of an frame) [] cond)
    marked_cond = sub_left (found (rules_of an frame) (seen_of an frame) [] cond) (found_block (rules_of an frame) (seen_of an frame) body at_end behind at_end) (findings (rules_of an frame)) marked

    marked_body : Marked an frame (found_block (rules_of an frame) (seen_of an frame) body at_end behind at_end)
    marked_body = sub_right (found (rules_of an frame) (seen_of an frame) [] cond) (found_block (rules_of an frame) (seen_of an frame) body at_end behind at_end) (findings (rules_of an frame)) marked

    -- what is known of a state in a turn: what is kept is violated, or a reported place is reached later
    abbrev Late : State → State → Type 0
    Late b t = Violated an frame kept b ⊎ (reached an frame.activation b.trace < reached an frame.activation t.trace)

    -- after a body that goes on
    goes_on : (ending : Ending) (y : World) (b n t : State) → Fine an y n → Runs an y n frame → Held an frame map n → (Violated an frame kept b → Violated an frame kept n)
        → (reached an frame.activation b.trace < reached an frame.activation n.trace → Violated an frame at_end n) → l.turns frame (WhileLoop cond body) n ≡ Gave ending t → Late b t
        → EndsBad an frame behind none none ending t
    goes_on ending y b n t f r h stays bad q late =
        bwd.turns y n frame map (WhileLoop cond body) behind kept f r h steady steady_context below inside placed marked spares spares_kept tt ending t q (by_late late)
      where
        by_end : Violated an frame (ev (rules_of an frame) (seen_of an frame) cond never) n ⊎ Violated an frame kept n
            → Trouble an frame (ev (rules_of an frame) (seen_of an frame) cond never) n t ⊎ Violated an frame kept n
        by_end (inl e) = inl (inl e)
        by_end (inr e) = inr e

        by_count : (reached an frame.activation b.trace < reached an frame.activation n.trace) ⊎ (reached an frame.activation n.trace < reached an frame.activation t.trace)
            → Trouble an frame (ev (rules_of an frame) (seen_of an frame) cond never) n t ⊎ Violated an frame kept n
        by_count (inl e) = by_end (violated_join an frame (ev (rules_of an frame) (seen_of an frame) cond never) kept n (bad e))
        by_count (inr e) = inl (inr e)

        by_late : Late b t → Trouble an frame (ev (rules_of an frame) (seen_of an frame) cond never) n t ⊎ Violated an frame kept n
        by_late (inl e) = inr (stays e)
        by_late (inr e) = by_count (count_split (reached an frame.activation b.trace) (reached an frame.activation n.trace) (reached an frame.activation t.trace) e)

    -- the body ended, and then the turn
    turn_ends : (mid ending : Ending) (y : World) (b n t : State) → Fine an y n → Runs an y n frame → Held an frame map n → BlockLeads an frame inner body mid n
        → (Violated an frame kept b → Violated an frame kept n)
        → (reached an frame.activation b.trace < reached an frame.activation n.trace → EndsBad an frame at_end behind at_end mid n)
        → next_turn (l.turns frame (WhileLoop cond body)) mid n ≡ Gave ending t → Late b t → EndsBad an frame behind none none ending t
    unfolding give
    turn_ends Falls ending y b n t f r h leads stays bad q late = goes_on ending y b n t f r h stays bad q late
    turn_ends Continues ending y b n t f r h leads stays bad q late = goes_on ending y b n t f r h stays bad q late
    turn_ends Breaks ending y b n t f r h leads stays bad q late = same_end an frame behind none none Falls ending n t q (by_late late)
      where
        by_late : Late b t → Violated an frame behind n
        by_late (inl e) = below_violated an frame kept behind n below (stays e)
        by_late (inr e) = bad (subst (λ (x : State). reached an frame.activation b.trace < reached an frame.activation x.trace) (sym (gave_same Falls ending n t q).1) e)
    turn_ends (Returns vs) ending y b n t f r h leads stays bad q late = same_end an frame behind none none (Returns vs) ending n t q (by_late late)
      where
        by_late : Late b t → ⊥
        by_late (inl e) = kept_returns an frame (WhileLoop cond body) kept b steady_context leads.0 e
        by_late (inr e) = bad (subst (λ (x : State). reached an frame.activation b.trace < reached an frame.activation x.trace) (sym (gave_same (Returns vs) ending n t q).1) e)

    -- the condition came out so, and then the turn
    way_ends : (way : Bool) (ending : Ending) (y : World) (b t : State) → Fine an y b → Runs an y b frame → Held an frame map b → (way ≡ true → Held an frame inner b)
        → (if way then ◌>>=◌ (block l frame body) (next_turn (l.turns frame (WhileLoop cond body))) else give Falls) b ≡ Gave ending t → Late b t
        → EndsBad an frame behind none none ending t
    unfolding ◌>>=◌ give
    way_ends false ending y b t f r h shows q late = same_end an frame behind none none Falls ending b t q (by_late late)
      where
        by_late : Late b t → Violated an frame behind b
        by_late (inl e) = below_violated an frame kept behind b below e
        by_late (inr e) = absurd (omega (arith, e, ap (λ (x : State). reached an frame.activation x.trace) (gave_same Falls ending b t q).1))
    way_ends true ending y b t f r h shows q late = by_body (gave_then (block l frame body b) (next_turn (l.turns frame (WhileLoop cond body))) ending t q)
      where
        by_body : (mid : Ending) × (n : State) × (block l frame body b ≡ Gave mid n) × (next_turn (l.turns frame (WhileLoop cond body)) mid n ≡ Gave ending t)
            → EndsBad an frame behind none none ending t
        by_body (mid, n, ran, k) = by_world (ends_gave an (block_of an frame body) y b (BlockLeads an frame inner body) (block l frame body b) mid n ran
            (block_forward an l fwd y b frame inner body f r (shows refl) inside_body placed_body))
          where
            by_world : (z : World) × Fine an z n × Kept an (block_of an frame body) y b z n × BlockLeads an frame inner body mid n → EndsBad an frame behind none none ending t
            by_world (z, g, j, leads) = turn_ends mid ending z b n t g (runs_kept an (block_of an frame body) y z b n frame j r)
                (steady_held an frame (WhileLoop cond body) map steady y z b n f r (kept_more an (block_of an frame body) (loop_of an frame (WhileLoop cond body)) y z b n may_body j) h) leads
                (λ e. steady_violated an frame (WhileLoop cond body) kept steady_context y z b n f r
                (kept_more an (block_of an frame body) (loop_of an frame (WhileLoop cond body)) y z b n may_body j) e)
                (λ e. block_backward an l fwd bwd y b frame inner body at_end behind at_end f r (shows refl) inside_body placed_body marked_body (spares_end, spares, spares_end) mid n ran (inr e))
                k late

    cond_late : (w : World) (a b t : State) (vs : List Value) → Fine an w a → Runs an w a frame → Evaluated an w a frame map cond vs b
        → Trouble an frame (ev (rules_of an frame) (seen_of an frame) cond never) a t ⊎ Violated an frame kept a → Late b t
    cond_late w a b t vs f r o (inl (inl e)) = absurd (unchecked_context an frame cond a vs b o.pays e)
    cond_late w a b t vs f r o (inl (inr e)) = inr (subst (λ (n : ℕ). n < reached an frame.activation t.trace) (sym (unchecked_count an w a frame cond vs a b fit r marked_cond o.pays)) e)
    cond_late w a b t vs f r o (inr e) = inl (steady_violated an frame (WhileLoop cond body) kept steady_context w o.world a b f r
        (kept_more an (expr_of an frame cond) (loop_of an frame (WhileLoop cond body)) w o.world a b may_cond o.kept) e)

    pub turns_backward : (w : World) (s : State) → Fine an w s → Runs an w s frame → Held an frame map s → (ending : Ending) (t : State)
        → turns an.program l frame (WhileLoop cond body) s ≡ Gave ending t
        → Trouble an frame (ev (rules_of an frame) (seen_of an frame) cond never) s t ⊎ Violated an frame kept s → EndsBad an frame behind none none ending t
    unfolding turns ◌>>=◌
    turns_backward w s f r h ending t q y = by_step (gave_then (step s) (λ x. turn an.program l frame (WhileLoop cond body)) ending t q)
      where
        by_step : (x : Unit {0}) × (a : State) × (step s ≡ Gave x a) × (turn an.program l frame (WhileLoop cond body) a ≡ Gave ending t) → EndsBad an frame behind none none ending t
        by_step (x, a, stepped, k) = by_cond (gave_then (value l frame cond a)
            (λ c. if is_true c then ◌>>=◌ (block l frame body) (next_turn (l.turns frame (WhileLoop cond body))) else give Falls) ending t k)
          where
            same : Same s a
            same = step_same s a stepped

            fine_a : Fine an w a
            fine_a = fine_same an w s a same.0 same.1 f

            runs_a : Runs an w a frame
            runs_a = runs_kept an (expr_of an frame cond) w w s a frame (kept_same an (expr_of an frame cond) w s a same.0 same.1) r

            held_a : Held an frame map a
            held_a = held_same an s a frame map same h

            from_here : Trouble an frame (ev (rules_of an frame) (seen_of an frame) cond never) s t ⊎ Violated an frame kept s
                → Trouble an frame (ev (rules_of an frame) (seen_of an frame) cond never) a t ⊎ Violated an frame kept a
            from_here (inl e) = inl (trouble_same an frame (ev (rules_of an frame) (seen_of an frame) cond never) s a t same e)
            from_here (inr e) = inr (violated_same an s a frame kept same.0 e)

            by_cond : (c : Value) × (b : State) × (value l frame cond a ≡ Gave c b)
                × ((if is_true c then ◌>>=◌ (block l frame body) (next_turn (l.turns frame (WhileLoop cond body))) else give Falls) b ≡ Gave ending t) → EndsBad an frame behind none none ending t
            by_cond (c, b, valued, k) = by_value (value_gave l frame cond a c b valued)
              where
                by_value : (vs : List Value) × (l.values frame cond a ≡ Gave vs b) × (c ≡ first vs) → EndsBad an frame behind none none ending t
                by_value (vs, gave, is) = by_evaluated (evaluated an l fwd bwd w a frame map cond [] fine_a runs_a held_a inside_cond placed_cond marked_cond vs b gave)
                  where
                    by_evaluated : Evaluated an w a frame map cond vs b → EndsBad an frame behind none none ending t
                    by_evaluated o = way_ends (is_true c) ending o.world b t o.fine o.runs
                        (steady_held an frame (WhileLoop cond body) map steady w o.world a b fine_a runs_a
                        (kept_more an (expr_of an frame cond) (loop_of an frame (WhileLoop cond body)) w o.world a b may_cond o.kept) held_a)
                        (λ e. held_way an frame map cond vs b true (ap is_true (sym is) ∙ e) o.gives o.held) k (cond_late w a b t vs fine_a runs_a o (from_here y))

-- ---- the statement

inside_loop : (frame : Frame) (span : Span) (cond : Expr) (body : Block) → Inside frame (of_stat (the_stat span (While cond body))) (stats_of (the_stat span (While cond body)))
    → Inside frame (of_expr cond ++ of_block body) (stats_of_expr cond ++ stats_of_block body)
inside_loop frame span cond body inside =
    record { nodes = inside.nodes; stats = sub_tail (the_stat span (While cond body)) (stats_of_expr cond ++ stats_of_block body) (stats_of_block frame.reading.block) inside.stats }

turns_lead : (an : Analysis) (frame : Frame) (map : TypeMap) (span : Span) (cond : Expr) (body : Block) (ending : Ending) (t : State)
    → Turns an frame (while_head (rules_of an frame) span cond body map) (WhileLoop cond body) ending t → Leads an frame map (the_stat span (While cond body)) ending t
turns_lead an frame map span cond body Falls t h = h
turns_lead an frame map span cond body Breaks t h = absurd h
turns_lead an frame map span cond body Continues t h = absurd h
turns_lead an frame map span cond body (Returns vs) t h = h

pub while_forward : (an : Analysis) (l : Layer) → Forward an l → (w : World) (s : State) (frame : Frame) (map : TypeMap) (span : Span) (cond : Expr) (body : Block) → Fine an w s → Runs an w s frame
    → Held an frame map s → Inside frame (of_stat (the_stat span (While cond body))) (stats_of (the_stat span (While cond body)))
    → Placed an frame (seen_stat (rules_of an frame) map (the_stat span (While cond body)))
    → Ends an (stat_of an frame (the_stat span (While cond body))) w s (Leads an frame map (the_stat span (While cond body))) (stat an.program l frame (the_stat span (While cond body)) s)
while_forward an l fwd w s frame map span cond body f r h inside placed =
    ends_stat an an.program l (stat_of an frame (the_stat span (While cond body))) w s frame span (While cond body) (Leads an frame map (the_stat span (While cond body))) f
    (λ t v g k p. ends_so an (stat_of an frame (the_stat span (While cond body))) v t (Turns an frame (while_head (rules_of an frame) span cond body map) (WhileLoop cond body))
    (Leads an frame map (the_stat span (While cond body))) (l.turns frame (WhileLoop cond body) t) (λ ending u y q d j z. turns_lead an frame map span cond body ending u z)
    (fwd.turns v t frame (while_head (rules_of an frame) span cond body map) (WhileLoop cond body) g
    (runs_kept an (stat_of an frame (the_stat span (While cond body))) w v s t frame k r) (head_held an frame (the_stat span (While cond body)) map t (held_same an s t frame map p h))
    (head_steady (rules_of an frame) (the_stat span (While cond body)) (WhileLoop cond body) map (λ x e. e) (λ e. e)) (inside_loop frame span cond body inside) placed tt))

pub while_backward : (an : Analysis) (l : Layer) → Backward an l → (w : World) (s : State) (frame : Frame) (map : TypeMap) (span : Span) (cond : Expr) (body : Block)
    (behind breaks_to continues_to : Context) → Fine an w s → Runs an w s frame
    → Held an frame map s → Inside frame (of_stat (the_stat span (While cond body))) (stats_of (the_stat span (While cond body)))
    → Placed an frame (seen_stat (rules_of an frame) map (the_stat span (While cond body)))
    → Marked an frame (found_stat (rules_of an frame) (seen_of an frame) (the_stat span (While cond body)) behind breaks_to continues_to)
    → SparesAll (rules_of an frame) behind breaks_to continues_to → (ending : Ending) (t : State) → stat an.program l frame (the_stat span (While cond body)) s ≡ Gave ending t
    → Trouble an frame (stm (rules_of an frame) (seen_of an frame) (the_stat span (While cond body)) behind breaks_to continues_to) s t → EndsBad an frame behind breaks_to continues_to ending t
while_backward an l bwd w s frame map span cond body behind breaks_to continues_to f r h inside placed marked spares ending t q y = by_step (stat_gave an.program l frame span (While cond body) s ending t q)
  where
    by_step : (m : State) × Same s m × (execute an.program l frame (While cond body) m ≡ Gave ending t) → EndsBad an frame behind breaks_to continues_to ending t
    by_step p = loop_end an frame behind breaks_to continues_to ending t
        (bwd.turns w p.0 frame (while_head (rules_of an frame) span cond body map) (WhileLoop cond body) behind (keep (rules_of an frame) (the_stat span (While cond body)) body behind)
        (fine_same an w s p.0 p.1.0 p.1.1 f)
        (runs_kept an (block_of an frame body) w w s p.0 frame (kept_same an (block_of an frame body) w s p.0 p.1.0 p.1.1) r)
        (head_held an frame (the_stat span (While cond body)) map p.0 (held_same an s p.0 frame map p.1 h))
        (head_steady (rules_of an frame) (the_stat span (While cond body)) (WhileLoop cond body) map (λ x e. e) (λ e. e))
        (keep_steady (rules_of an frame) (the_stat span (While cond body)) (WhileLoop cond body) behind (λ x e. e) (λ e. e))
        (keep_below (rules_of an frame) (the_stat span (While cond body)) body behind) (inside_loop frame span cond body inside) placed marked spares.0
        (keep_spares (rules_of an frame) (the_stat span (While cond body)) body behind spares.0) tt ending t p.2
        (by_trouble (trouble_same an frame (stm (rules_of an frame) (seen_of an frame) (the_stat span (While cond body)) behind breaks_to continues_to) s p.0 t p.1 y)))
      where
        by_side : Violated an frame (ev (rules_of an frame) (seen_of an frame) cond never) p.0 ⊎ Violated an frame (keep (rules_of an frame) (the_stat span (While cond body)) body behind) p.0
            → Trouble an frame (ev (rules_of an frame) (seen_of an frame) cond never) p.0 t ⊎ Violated an frame (keep (rules_of an frame) (the_stat span (While cond body)) body behind) p.0
        by_side (inl e) = inl (inl e)
        by_side (inr e) = inr e

        by_trouble : Trouble an frame (stm (rules_of an frame) (seen_of an frame) (the_stat span (While cond body)) behind breaks_to continues_to) p.0 t
            → Trouble an frame (ev (rules_of an frame) (seen_of an frame) cond never) p.0 t ⊎ Violated an frame (keep (rules_of an frame) (the_stat span (While cond body)) body behind) p.0
        by_trouble (inl e) = by_side (violated_join an frame (ev (rules_of an frame) (seen_of an frame) cond never) (keep (rules_of an frame) (the_stat span (While cond body)) body behind) p.0 e)
        by_trouble (inr e) = inl (inr e)
