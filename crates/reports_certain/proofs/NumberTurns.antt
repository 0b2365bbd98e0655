-- The turns of a numeric `for`, forward and backward.
use Rattle.std.proofs.Common.{◌≡◌, ◌<◌, ℕ, ◌==◌, Bool, true, false, ◌||◌, List, [], ◌∷◌, Option, Some, None, ◌⊎◌, inl, inr, refl, sym, ap, subst, arith}
use Rattle.luau_values.specs.Value.{Value, Num}
use Rattle.luau_values.specs.Heap.{Heap}
use Rattle.luau_values.specs.Stands.{Stands}
use Rattle.luau_tree.specs.Tree.{Block}
use Rattle.luau_run.specs.SyntaxNode.{of_block}
use Rattle.luau_run.specs.Machine.{Answer, Turn, Fits, State, Gave, go_on, ◌>>=◌, give, step, ask, look, change}
use Rattle.luau_run.specs.Answers.{a_number_turn}
use Rattle.luau_run.specs.Layer.{Frame, Ending, Falls, Breaks, Continues, Returns, NumLoop, Layer}
use Rattle.luau_run.specs.Calls.{block}
use Rattle.luau_run.specs.Loops.{next_turn, number_turn, turn, turns}
use Rattle.type_normal.specs.Holds.{holds}
use Rattle.type_normal.specs.Kinds.{number_type}
use Rattle.report_rules.specs.Effects.{declares_block}
use Rattle.report_rules.specs.TypeMap.{TypeMap, set}
use Rattle.report_rules.specs.Seen.{seen_block}
use Rattle.report_rules.specs.Context.{Context, none}
use Rattle.report_rules.specs.Findings.{found_block}
use Rattle.run_frame.specs.Analysis.{Analysis}
use Rattle.run_frame.specs.Statements.{stats_of_block}
use Rattle.run_frame.proofs.World.{World, with_owner}
use Rattle.run_frame.proofs.Counts.{reached}
use Rattle.run_frame.proofs.Kept.{MayMore, Kept, kept_same, kept_trans, kept_more}
use Rattle.run_frame.proofs.Fine.{Fine, fine_same}
use Rattle.run_frame.proofs.Held.{Runs, runs_kept, Held, held_same, Violated, violated_same}
use Rattle.run_frame.proofs.Parts.{Ends, Same, Says, ends_after, ends_then, ends_more, ends_give, ends_gave, ends_step, ends_ask, step_same, gave_then, gave_same}
use Rattle.run_frame.proofs.Cells.{declared, owner_in, kept_declared, fine_declared}
use Rattle.run_frame.proofs.Declarations.{held_set}
use Rattle.run_frame.proofs.Layers.{rules_of, seen_of, block_of, Inside, Placed, Marked, EndsBad, Trouble, Forward, Backward, loop_of, loop_declares, Steady, SteadyContext, IsBelow, Turns}
use Rattle.run_frame.proofs.LooseContexts.{SparesLoose}
use Rattle.run_frame.proofs.Passing.{none_violated}
use Rattle.run_frame.proofs.Blocks.{or_right, BlockLeads, block_forward, block_backward, count_split, same_end}
use Rattle.reports_certain.proofs.Loops.{steady_held, steady_violated, kept_returns, below_violated}

itself : (n : ℕ) → (n == n) ≡ true
itself n = grind arith

-- a turn is given a number
number_said : (answer : Answer) (v : Value) (h : Heap) → a_number_turn answer ≡ Fits (Some v) → Stands h v × (holds h v number_type ≡ true)
number_said (Turn (Num text ∷ [])) v h e = subst (λ (u : Value). Stands h u × (holds h u number_type ≡ true)) (same e) (tt, refl)
  where
    same : Fits (Some (Num text)) ≡ Fits (Some v) → Num text ≡ v
    same k = cc
number_said _ v h e = cc

module _ (an : Analysis) (l : Layer) (fwd : Forward an l) (frame : Frame) (map : TypeMap) (local : ℕ) (body : Block) (unfixed : (rules_of an frame).fixed local ≡ None)
    (steady : Steady (rules_of an frame) (NumLoop local body) map) (inside : Inside frame (of_block body) (stats_of_block body))
    (placed : Placed an frame (seen_block (rules_of an frame) (set (rules_of an frame) local number_type map) body)) where
  -- the map where the body begins
  abbrev inner : TypeMap
  inner = set (rules_of an frame) local number_type map

  bound : loop_declares (rules_of an frame) local (NumLoop local body) ≡ true
  bound = ap (λ (b : Bool). (b || false) || declares_block (rules_of an frame) local body) (itself local)

  may_body : MayMore (block_of an frame body) (loop_of an frame (NumLoop local body))
  may_body = record {
    runs = inr refl;
    assigns = λ x e. e;
    binds = λ x e. or_right ((x == local) || false) (declares_block (rules_of an frame) x body) e;
    calm = λ e. e;
  }

  no_builtin : {P : Type 0} (path : List ℕ) → (rules_of an frame).fixed local ≡ Some path → P
  no_builtin path e = absurd (clash ((rules_of an frame).fixed local) unfixed e)
    where
      clash : (o : Option (List ℕ)) → o ≡ None → o ≡ Some path → ⊥
      clash o p q = cc

  -- the state where the body begins
  abbrev begun : Value → State → State
  begun v b = declared frame.activation local v b

  abbrev world : World → World
  world z = with_owner z (owner_in frame local)

  kept_begun : (v : Value) (z : World) (b : State) → Fine an z b → Kept an (loop_of an frame (NumLoop local body)) z b (world z) (begun v b)
  kept_begun v z b f = kept_declared an (loop_of an frame (NumLoop local body)) z b frame local v f refl bound

  fine_begun : (v : Value) (z : World) (b : State) → Fine an z b → Runs an z b frame → Stands b.store.heap v → Fine an (world z) (begun v b)
  fine_begun v z b f r there = fine_declared an (loop_of an frame (NumLoop local body)) z b frame local v f r there (λ path e. no_builtin path e) (kept_begun v z b f)

  runs_begun : (v : Value) (z : World) (b : State) → Fine an z b → Runs an z b frame → Runs an (world z) (begun v b) frame
  runs_begun v z b f r = runs_kept an (loop_of an frame (NumLoop local body)) z (world z) b (begun v b) frame (kept_begun v z b f) r

  -- ---- forward

  after_body : (ending : Ending) (u : State) (y : World) → Fine an y u → Runs an y u frame → Held an frame map u → BlockLeads an frame inner body ending u
      → Ends an (loop_of an frame (NumLoop local body)) y u (Turns an frame map (NumLoop local body)) (next_turn (l.turns frame (NumLoop local body)) ending u)
  after_body Falls u y f r h q = fwd.turns y u frame map (NumLoop local body) f r h steady inside placed tt
  after_body Continues u y f r h q = fwd.turns y u frame map (NumLoop local body) f r h steady inside placed tt
  after_body Breaks u y f r h q = ends_give an (loop_of an frame (NumLoop local body)) y u (Turns an frame map (NumLoop local body)) Falls f h
  after_body (Returns vs) u y f r h q = ends_give an (loop_of an frame (NumLoop local body)) y u (Turns an frame map (NumLoop local body)) (Returns vs) f q

  by_number : (v : Value) (z : World) (b : State) → Fine an z b → Runs an z b frame → Held an frame map b → Stands b.store.heap v → holds b.store.heap v number_type ≡ true
      → Ends an (loop_of an frame (NumLoop local body)) z b (Turns an frame map (NumLoop local body)) (number_turn l frame local body (l.turns frame (NumLoop local body)) (Some v) b)
  unfolding ◌>>=◌ look change give
  by_number v z b f r h there typed = ends_after an (loop_of an frame (NumLoop local body)) z (world z) b (begun v b) (Turns an frame map (NumLoop local body))
      (go_on (block l frame body (begun v b)) (next_turn (l.turns frame (NumLoop local body)))) (kept_begun v z b f)
      (ends_then an (loop_of an frame (NumLoop local body)) (world z) (begun v b) (BlockLeads an frame inner body) (Turns an frame map (NumLoop local body)) (block l frame body (begun v b))
      (next_turn (l.turns frame (NumLoop local body)))
      (ends_more an (block_of an frame body) (loop_of an frame (NumLoop local body)) (world z) (begun v b) (BlockLeads an frame inner body) (block l frame body (begun v b)) may_body
      (block_forward an l fwd (world z) (begun v b) frame inner body (fine_begun v z b f r there) (runs_begun v z b f r) (held_set an z b frame map local v number_type f h typed) inside placed))
      (λ ending u y g k q. after_body ending u y g (runs_kept an (loop_of an frame (NumLoop local body)) (world z) y (begun v b) u frame k (runs_begun v z b f r))
      (steady_held an frame (NumLoop local body) map steady z y b u f r
      (kept_trans an (loop_of an frame (NumLoop local body)) z (world z) y b (begun v b) u (kept_begun v z b f) k) h) q))

  by_turn : (o : Option Value) (z : World) (b : State) → Says a_number_turn o → Fine an z b → Runs an z b frame → Held an frame map b
      → Ends an (loop_of an frame (NumLoop local body)) z b (Turns an frame map (NumLoop local body)) (number_turn l frame local body (l.turns frame (NumLoop local body)) o b)
  by_turn None z b said f r h = ends_give an (loop_of an frame (NumLoop local body)) z b (Turns an frame map (NumLoop local body)) Falls f h
  by_turn (Some v) z b said f r h = let p : Stands b.store.heap v × (holds b.store.heap v number_type ≡ true) = number_said said.0 v b.store.heap said.1 in by_number v z b f r h p.0 p.1

  pub turns_forward : (w : World) (s : State) → Fine an w s → Runs an w s frame → Held an frame map s
      → Ends an (loop_of an frame (NumLoop local body)) w s (Turns an frame map (NumLoop local body)) (turns an.program l frame (NumLoop local body) s)
  unfolding turns ◌>>=◌
  turns_forward w s f r h = ends_then an (loop_of an frame (NumLoop local body)) w s (λ x t. Same s t) (Turns an frame map (NumLoop local body)) (step s)
      (λ x. turn an.program l frame (NumLoop local body)) (ends_step an (loop_of an frame (NumLoop local body)) w s f)
      (λ x a v g k same. ends_then an (loop_of an frame (NumLoop local body)) v a (λ o t. Same a t × Says a_number_turn o) (Turns an frame map (NumLoop local body)) (ask a_number_turn a)
      (number_turn l frame local body (l.turns frame (NumLoop local body))) (ends_ask an (loop_of an frame (NumLoop local body)) v a a_number_turn g)
      (λ o b z d j p. by_turn o z b p.1 d
      (runs_kept an (loop_of an frame (NumLoop local body)) v z a b frame j (runs_kept an (loop_of an frame (NumLoop local body)) w v s a frame k r))
      (held_same an a b frame map p.0 (held_same an s a frame map same h))))

  -- ---- backward

  module _ (bwd : Backward an l) (behind kept : Context) (steady_context : SteadyContext (rules_of an frame) (NumLoop local body) kept) (below : IsBelow kept behind)
      (marked : Marked an frame (found_block (rules_of an frame) (seen_of an frame) body kept behind kept))
      (spares : SparesLoose (rules_of an frame) behind) (spares_kept : SparesLoose (rules_of an frame) kept) where
    -- what is known of a state in a turn: what is kept is violated, or a reported place is reached later
    abbrev Late : State → State → Type 0
    Late b t = Violated an frame kept b ⊎ (reached an frame.activation b.trace < reached an frame.activation t.trace)

    -- after a body that goes on
    goes_on : (ending : Ending) (y : World) (b n t : State) → Fine an y n → Runs an y n frame → Held an frame map n → (Violated an frame kept b → Violated an frame kept n)
        → (reached an frame.activation b.trace < reached an frame.activation n.trace → Violated an frame kept n) → l.turns frame (NumLoop local body) n ≡ Gave ending t → Late b t
        → EndsBad an frame behind none none ending t
    goes_on ending y b n t f r h stays bad q late =
        bwd.turns y n frame map (NumLoop local body) behind kept f r h steady steady_context below inside placed marked spares spares_kept tt ending t q (by_late late)
      where
        by_count : (reached an frame.activation b.trace < reached an frame.activation n.trace) ⊎ (reached an frame.activation n.trace < reached an frame.activation t.trace)
            → Trouble an frame none n t ⊎ Violated an frame kept n
        by_count (inl e) = inr (bad e)
        by_count (inr e) = inl (inr e)

        by_late : Late b t → Trouble an frame none n t ⊎ Violated an frame kept n
        by_late (inl e) = inr (stays e)
        by_late (inr e) = by_count (count_split (reached an frame.activation b.trace) (reached an frame.activation n.trace) (reached an frame.activation t.trace) e)

    -- the body ended, and then the turn
    turn_ends : (mid ending : Ending) (y : World) (b n t : State) → Fine an y n → Runs an y n frame → Held an frame map n → BlockLeads an frame inner body mid n
        → (Violated an frame kept b → Violated an frame kept n)
        → (reached an frame.activation b.trace < reached an frame.activation n.trace → EndsBad an frame kept behind kept mid n)
        → next_turn (l.turns frame (NumLoop local body)) mid n ≡ Gave ending t → Late b t → EndsBad an frame behind none none ending t
    unfolding give
    turn_ends Falls ending y b n t f r h leads stays bad q late = goes_on ending y b n t f r h stays bad q late
    turn_ends Continues ending y b n t f r h leads stays bad q late = goes_on ending y b n t f r h stays bad q late
    turn_ends Breaks ending y b n t f r h leads stays bad q late = same_end an frame behind none none Falls ending n t q (by_late late)
      where
        by_late : Late b t → Violated an frame behind n
        by_late (inl e) = below_violated an frame kept behind n below (stays e)
        by_late (inr e) = bad (subst (λ (x : State). reached an frame.activation b.trace < reached an frame.activation x.trace) (sym (gave_same Falls ending n t q).1) e)
    turn_ends (Returns vs) ending y b n t f r h leads stays bad q late = same_end an frame behind none none (Returns vs) ending n t q (by_late late)
      where
        by_late : Late b t → ⊥
        by_late (inl e) = kept_returns an frame (NumLoop local body) kept b steady_context leads.0 e
        by_late (inr e) = bad (subst (λ (x : State). reached an frame.activation b.trace < reached an frame.activation x.trace) (sym (gave_same (Returns vs) ending n t q).1) e)

    body_ends : (v : Value) (ending : Ending) (z : World) (b t : State) → Fine an z b → Runs an z b frame → Held an frame map b → Stands b.store.heap v → holds b.store.heap v number_type ≡ true
        → number_turn l frame local body (l.turns frame (NumLoop local body)) (Some v) b ≡ Gave ending t → Late b t → EndsBad an frame behind none none ending t
    unfolding ◌>>=◌ look change give
    body_ends v ending z b t f r h there typed q late = by_body (gave_then (block l frame body (begun v b)) (next_turn (l.turns frame (NumLoop local body))) ending t q)
      where
        by_body : (mid : Ending) × (n : State) × (block l frame body (begun v b) ≡ Gave mid n) × (next_turn (l.turns frame (NumLoop local body)) mid n ≡ Gave ending t)
            → EndsBad an frame behind none none ending t
        by_body (mid, n, ran, k) = by_world (ends_gave an (block_of an frame body) (world z) (begun v b) (BlockLeads an frame inner body) (block l frame body (begun v b)) mid n ran
            (block_forward an l fwd (world z) (begun v b) frame inner body (fine_begun v z b f r there) (runs_begun v z b f r) (held_set an z b frame map local v number_type f h typed) inside placed))
          where
            by_world : (y : World) × Fine an y n × Kept an (block_of an frame body) (world z) (begun v b) y n × BlockLeads an frame inner body mid n → EndsBad an frame behind none none ending t
            by_world (y, g, j, leads) = turn_ends mid ending y b n t g (runs_kept an (block_of an frame body) (world z) y (begun v b) n frame j (runs_begun v z b f r))
                (steady_held an frame (NumLoop local body) map steady z y b n f r kept_loop h) leads
                (λ e. steady_violated an frame (NumLoop local body) kept steady_context z y b n f r kept_loop e)
                (λ e. block_backward an l fwd bwd (world z) (begun v b) frame inner body kept behind kept (fine_begun v z b f r there) (runs_begun v z b f r)
                (held_set an z b frame map local v number_type f h typed) inside placed marked (spares_kept, spares, spares_kept) mid n ran (inr e))
                k late
              where
                kept_loop : Kept an (loop_of an frame (NumLoop local body)) z b y n
                kept_loop = kept_trans an (loop_of an frame (NumLoop local body)) z (world z) y b (begun v b) n (kept_begun v z b f)
                    (kept_more an (block_of an frame body) (loop_of an frame (NumLoop local body)) (world z) y (begun v b) n may_body j)

    by_option : (o : Option Value) (ending : Ending) (z : World) (b t : State) → Says a_number_turn o → Fine an z b → Runs an z b frame → Held an frame map b
        → number_turn l frame local body (l.turns frame (NumLoop local body)) o b ≡ Gave ending t → Late b t → EndsBad an frame behind none none ending t
    unfolding give
    by_option None ending z b t said f r h q late = same_end an frame behind none none Falls ending b t q (by_late late)
      where
        by_late : Late b t → Violated an frame behind b
        by_late (inl e) = below_violated an frame kept behind b below e
        by_late (inr e) = absurd (omega (arith, e, ap (λ (x : State). reached an frame.activation x.trace) (gave_same Falls ending b t q).1))
    by_option (Some v) ending z b t said f r h q late =
        let p : Stands b.store.heap v × (holds b.store.heap v number_type ≡ true) = number_said said.0 v b.store.heap said.1 in body_ends v ending z b t f r h p.0 p.1 q late

    pub turns_backward : (w : World) (s : State) → Fine an w s → Runs an w s frame → Held an frame map s → (ending : Ending) (t : State)
        → turns an.program l frame (NumLoop local body) s ≡ Gave ending t → Trouble an frame none s t ⊎ Violated an frame kept s → EndsBad an frame behind none none ending t
    unfolding turns ◌>>=◌
    turns_backward w s f r h ending t q y = by_step (gave_then (step s) (λ x. turn an.program l frame (NumLoop local body)) ending t q)
      where
        by_step : (x : Unit {0}) × (a : State) × (step s ≡ Gave x a) × (turn an.program l frame (NumLoop local body) a ≡ Gave ending t) → EndsBad an frame behind none none ending t
        by_step (x, a, stepped, k) = by_asked (gave_then (ask a_number_turn a) (number_turn l frame local body (l.turns frame (NumLoop local body))) ending t k)
          where
            same : Same s a
            same = step_same s a stepped

            fine_a : Fine an w a
            fine_a = fine_same an w s a same.0 same.1 f

            from_here : Trouble an frame none s t ⊎ Violated an frame kept s → Late a t
            from_here (inl (inl e)) = absurd (none_violated an frame s e)
            from_here (inl (inr e)) = inr (subst (λ x. reached an frame.activation x < reached an frame.activation t.trace) (sym same.1) e)
            from_here (inr e) = inl (violated_same an s a frame kept same.0 e)

            by_asked : (o : Option Value) × (b : State) × (ask a_number_turn a ≡ Gave o b) × (number_turn l frame local body (l.turns frame (NumLoop local body)) o b ≡ Gave ending t)
                → EndsBad an frame behind none none ending t
            by_asked (o, b, asked, k) = by_said (ends_gave an (loop_of an frame (NumLoop local body)) w a (λ o t. Same a t × Says a_number_turn o) (ask a_number_turn a) o b asked
                (ends_ask an (loop_of an frame (NumLoop local body)) w a a_number_turn fine_a))
              where
                by_said : (v : World) × Fine an v b × Kept an (loop_of an frame (NumLoop local body)) w a v b × (Same a b × Says a_number_turn o) → EndsBad an frame behind none none ending t
                by_said (v, g, j, (there, said)) = by_option o ending v b t said g
                    (runs_kept an (loop_of an frame (NumLoop local body)) w v a b frame j
                    (runs_kept an (loop_of an frame (NumLoop local body)) w w s a frame (kept_same an (loop_of an frame (NumLoop local body)) w s a same.0 same.1) r))
                    (held_same an a b frame map there (held_same an s a frame map same h)) k (late_there (from_here y))
                  where
                    late_there : Late a t → Late b t
                    late_there (inl e) = inl (violated_same an a b frame kept there.0 e)
                    late_there (inr e) = inr (subst (λ x. reached an frame.activation x < reached an frame.activation t.trace) (sym there.1) e)
