-- Each loop of a generic `for`, forward and backward.
use Rattle.std.proofs.Common.{◌≡◌, ◌<◌, ℕ, Bool, true, false, ◌||◌, if◌then◌else◌, List, [], ◌∷◌, Option, Some, None, ◌⊎◌, inl, inr, refl, sym, ◌∙◌, subst}
use Rattle.std.specs.List.{AllByRecursion}
use Rattle.luau_values.specs.Value.{Value, is_nil}
use Rattle.luau_values.specs.Heap.{Heap}
use Rattle.luau_values.specs.Stands.{Stands}
use Rattle.luau_values.proofs.Public.{stands_later}
use Rattle.luau_tree.specs.Tree.{Block, Binds}
use Rattle.luau_run.specs.SyntaxNode.{of_block}
use Rattle.luau_run.specs.ReadFolder.{is_among}
use Rattle.luau_run.specs.Machine.{Fits, Store, State, Gave, go_on, ◌>>=◌, give, step, ask, look}
use Rattle.luau_run.specs.Answers.{Free, ForTurn, a_turn}
use Rattle.luau_run.specs.Layer.{Frame, Ending, Falls, Breaks, Continues, Returns, FunctionLoop, TableLoop, OtherLoop, Layer, first}
use Rattle.luau_run.specs.Loops.{turn_with, function_turn, turn, turns}
use Rattle.report_rules.specs.Effects.{locals_of_binds, declares_block}
use Rattle.report_rules.specs.TypeMap.{TypeMap}
use Rattle.report_rules.specs.Seen.{seen_block}
use Rattle.report_rules.specs.Context.{Context, none}
use Rattle.report_rules.specs.Findings.{found_block}
use Rattle.run_frame.specs.Analysis.{Analysis}
use Rattle.run_frame.specs.Statements.{stats_of_block}
use Rattle.run_frame.proofs.World.{World}
use Rattle.run_frame.proofs.Counts.{reached}
use Rattle.run_frame.proofs.Kept.{MayMore, Kept, nobody, kept_same, kept_more}
use Rattle.run_frame.proofs.Fine.{Fine, fine_same}
use Rattle.run_frame.proofs.Held.{Runs, runs_kept, has_begun, Held, held_same, Violated, violated_same}
use Rattle.run_frame.proofs.Parts.{Ends, Same, Says, ends_so, ends_then, ends_more, ends_give, ends_gave, ends_step, ends_ask, step_same, gave_then}
use Rattle.run_frame.proofs.Declarations.{run_locals}
use Rattle.run_frame.proofs.Layers.{rules_of, seen_of, is_quiet, block_of, Inside, Placed, Marked, Answers, EndsBad, Trouble, Forward, Backward, loop_of, Steady, SteadyContext, IsBelow, Turns}
use Rattle.run_frame.proofs.LooseContexts.{SparesLoose}
use Rattle.run_frame.proofs.Passing.{none_violated}
use Rattle.run_frame.proofs.Blocks.{or_right}
use Rattle.reports_certain.proofs.Loops.{steady_held, steady_violated, kept_returns}
use Rattle.reports_certain.proofs.IterationTurns.{is_unfixed, each_bound, values_turn, no_turn, values_bad, said_stand}

-- what is known behind parts that reach nothing
moved : (an : Analysis) (frame : Frame) (kept : Context) (s t u : State) → (Violated an frame kept s → Violated an frame kept t) → reached an frame.activation t.trace ≡ reached an frame.activation s.trace
    → Violated an frame kept s ⊎ (reached an frame.activation s.trace < reached an frame.activation u.trace)
    → Violated an frame kept t ⊎ (reached an frame.activation t.trace < reached an frame.activation u.trace)
moved an frame kept s t u stays same (inl e) = inl (stays e)
moved an frame kept s t u stays same (inr e) = inr (subst (λ (n : ℕ). n < reached an frame.activation u.trace) (sym same) e)

late_at : (an : Analysis) (frame : Frame) (kept : Context) (s t : State) → Trouble an frame none s t ⊎ Violated an frame kept s
    → Violated an frame kept s ⊎ (reached an frame.activation s.trace < reached an frame.activation t.trace)
late_at an frame kept s t (inl (inl e)) = absurd (none_violated an frame s e)
late_at an frame kept s t (inl (inr e)) = inr e
late_at an frame kept s t (inr e) = inl e

same_count : (an : Analysis) (frame : Frame) (s t : State) → Same s t → reached an frame.activation t.trace ≡ reached an frame.activation s.trace
same_count an frame s t same = subst (λ y. reached an frame.activation y ≡ reached an frame.activation s.trace) (sym same.1) refl

module _ (an : Analysis) (l : Layer) (fwd : Forward an l) (frame : Frame) (map : TypeMap) (binds : Binds) (body : Block) (unfixed : is_unfixed an frame binds ≡ true)
    (same : (rules_of an frame).reading ≡ frame.reading) (inside : Inside frame (of_block body) (stats_of_block body)) (placed : Placed an frame (seen_block (rules_of an frame) map body)) where
  may_body : MayMore (block_of an frame body) (loop_of an frame (TableLoop binds body))
  may_body = record { runs = inr refl; assigns = λ x e. e; binds = λ x e. or_right (is_among x (locals_of_binds (rules_of an frame) binds)) (declares_block (rules_of an frame) x body) e; calm = λ e. cc }

  bound : AllByRecursion (λ x. is_among x (locals_of_binds (rules_of an frame) binds) || declares_block (rules_of an frame) x body ≡ true) (run_locals frame binds)
  bound = each_bound (rules_of an frame) frame binds body same

  may_call : (calm : Bool) → MayMore (nobody calm) (loop_of an frame (TableLoop binds body))
  may_call calm = record { runs = inl refl; assigns = λ x e. refl; binds = λ x e. cc; calm = λ e. cc }

  -- ---- over a table

  table_turn : Steady (rules_of an frame) (TableLoop binds body) map → (o : Option (List Value)) (z : World) (b : State)
      → ((vs : List Value) → o ≡ Some vs → AllByRecursion (Stands b.store.heap) vs) → Fine an z b → Runs an z b frame → Held an frame map b
      → Ends an (loop_of an frame (TableLoop binds body)) z b (Turns an frame map (TableLoop binds body)) (turn_with l frame binds body (l.turns frame (TableLoop binds body)) o b)
  table_turn steady None z b there f r h = ends_give an (loop_of an frame (TableLoop binds body)) z b (Turns an frame map (TableLoop binds body)) Falls f h
  table_turn steady (Some vs) z b there f r h = values_turn an l fwd frame map binds body (TableLoop binds body) unfixed bound may_body steady (λ rs t k. k) inside placed
      (l.turns frame (TableLoop binds body)) vs z b f r h (there vs refl) (λ y u g j held k. fwd.turns y u frame map (TableLoop binds body) g j held steady inside placed tt)

  table_said : (a b : State) (o : Option (List Value)) → Same a b → Says (a_turn an.program a.store) o → (vs : List Value) → o ≡ Some vs → AllByRecursion (Stands b.store.heap) vs
  table_said a b o there said vs e = subst (λ (x : Store). AllByRecursion (Stands x.heap) vs) (sym there.0)
      (said_stand an.program a.store said.0 vs (subst (λ (p : Option (List Value)). a_turn an.program a.store said.0 ≡ Fits p) e said.1))

  pub table_forward : Steady (rules_of an frame) (TableLoop binds body) map → (w : World) (s : State) → Fine an w s → Runs an w s frame → Held an frame map s
      → Ends an (loop_of an frame (TableLoop binds body)) w s (Turns an frame map (TableLoop binds body)) (turns an.program l frame (TableLoop binds body) s)
  unfolding turns ◌>>=◌ look
  table_forward steady w s f r h = ends_then an (loop_of an frame (TableLoop binds body)) w s (λ x t. Same s t) (Turns an frame map (TableLoop binds body)) (step s)
      (λ x. turn an.program l frame (TableLoop binds body)) (ends_step an (loop_of an frame (TableLoop binds body)) w s f)
      (λ x a v g k there. ends_then an (loop_of an frame (TableLoop binds body)) v a (λ o t. Same a t × Says (a_turn an.program a.store) o) (Turns an frame map (TableLoop binds body))
      (ask (a_turn an.program a.store) a) (turn_with l frame binds body (l.turns frame (TableLoop binds body))) (ends_ask an (loop_of an frame (TableLoop binds body)) v a (a_turn an.program a.store) g)
      (λ o b z d j p. table_turn steady o z b (table_said a b o p.0 p.1) d
      (runs_kept an (loop_of an frame (TableLoop binds body)) v z a b frame j (runs_kept an (loop_of an frame (TableLoop binds body)) w v s a frame k r))
      (held_same an a b frame map p.0 (held_same an s a frame map there h))))

  -- ---- over another value

  other_turn : Steady (rules_of an frame) (OtherLoop binds body) map → (o : Option (List Value)) (z : World) (b : State)
      → ((vs : List Value) → o ≡ Some vs → AllByRecursion (Stands b.store.heap) vs) → Fine an z b → Runs an z b frame → Held an frame map b
      → Ends an (loop_of an frame (OtherLoop binds body)) z b (Turns an frame map (OtherLoop binds body)) (turn_with l frame binds body (l.turns frame (OtherLoop binds body)) o b)
  other_turn steady None z b there f r h = ends_give an (loop_of an frame (OtherLoop binds body)) z b (Turns an frame map (OtherLoop binds body)) Falls f h
  other_turn steady (Some vs) z b there f r h = values_turn an l fwd frame map binds body (OtherLoop binds body) unfixed bound may_body steady (λ rs t k. k) inside placed
      (l.turns frame (OtherLoop binds body)) vs z b f r h (there vs refl) (λ y u g j held k. fwd.turns y u frame map (OtherLoop binds body) g j held steady inside placed tt)

  pub other_forward : Steady (rules_of an frame) (OtherLoop binds body) map → (w : World) (s : State) → Fine an w s → Runs an w s frame → Held an frame map s
      → Ends an (loop_of an frame (OtherLoop binds body)) w s (Turns an frame map (OtherLoop binds body)) (turns an.program l frame (OtherLoop binds body) s)
  unfolding turns ◌>>=◌
  other_forward steady w s f r h = ends_then an (loop_of an frame (OtherLoop binds body)) w s (λ x t. Same s t) (Turns an frame map (OtherLoop binds body)) (step s)
      (λ x. turn an.program l frame (OtherLoop binds body)) (ends_step an (loop_of an frame (OtherLoop binds body)) w s f)
      (λ x a v g k there. ends_then an (loop_of an frame (OtherLoop binds body)) v a (λ o t. (vs : List Value) → o ≡ Some vs → AllByRecursion (Stands t.store.heap) vs)
      (Turns an frame map (OtherLoop binds body)) (l.acts Free ForTurn a) (turn_with l frame binds body (l.turns frame (OtherLoop binds body)))
      (ends_more an (nobody false) (loop_of an frame (OtherLoop binds body)) v a (λ o t. (vs : List Value) → o ≡ Some vs → AllByRecursion (Stands t.store.heap) vs) (l.acts Free ForTurn a) (may_call false)
      (fwd.acts v a Free ForTurn g))
      (λ o b z d j p. other_turn steady o z b p d
      (runs_kept an (loop_of an frame (OtherLoop binds body)) v z a b frame j (runs_kept an (loop_of an frame (OtherLoop binds body)) w v s a frame k r))
      (steady_held an frame (OtherLoop binds body) map steady v z a b g (runs_kept an (loop_of an frame (OtherLoop binds body)) w v s a frame k r) j (held_same an s a frame map there h))))

  -- ---- over a function

  function_turned : (iterator second control : Value) → Steady (rules_of an frame) (FunctionLoop iterator second control binds body) map → (vs : List Value) (nil : Bool) (z : World) (b : State)
      → Stands b.store.heap iterator → Stands b.store.heap second → AllByRecursion (Stands b.store.heap) vs → Stands b.store.heap (first vs) → Fine an z b → Runs an z b frame → Held an frame map b
      → Ends an (loop_of an frame (FunctionLoop iterator second control binds body)) z b (Turns an frame map (FunctionLoop iterator second control binds body))
      ((if nil then give Falls else turn_with l frame binds body (l.turns frame (FunctionLoop iterator second (first vs) binds body)) (Some vs)) b)
  function_turned iterator second control steady vs true z b one two all three f r h =
      ends_give an (loop_of an frame (FunctionLoop iterator second control binds body)) z b (Turns an frame map (FunctionLoop iterator second control binds body)) Falls f h
  function_turned iterator second control steady vs false z b one two all three f r h =
      values_turn an l fwd frame map binds body (FunctionLoop iterator second control binds body) unfixed bound may_body steady (λ rs t k. k) inside placed
      (l.turns frame (FunctionLoop iterator second (first vs) binds body)) vs z b f r h all
      (λ y u g j held k. ends_so an (loop_of an frame (FunctionLoop iterator second control binds body)) y u (Turns an frame map (FunctionLoop iterator second (first vs) binds body))
      (Turns an frame map (FunctionLoop iterator second control binds body)) (l.turns frame (FunctionLoop iterator second (first vs) binds body) u) (λ ending t x e d c q. same_turns ending t q)
      (fwd.turns y u frame map (FunctionLoop iterator second (first vs) binds body) g j held (record { touched = steady.touched; stirred = steady.stirred }) inside placed
      (stands_later b.store.heap u.store.heap iterator k.heap one, stands_later b.store.heap u.store.heap second k.heap two, stands_later b.store.heap u.store.heap (first vs) k.heap three)))
    where
      same_turns : (ending : Ending) (t : State) → Turns an frame map (FunctionLoop iterator second (first vs) binds body) ending t → Turns an frame map (FunctionLoop iterator second control binds body) ending t
      same_turns Falls t q = q
      same_turns Breaks t q = q
      same_turns Continues t q = q
      same_turns (Returns rs) t q = q

  first_there : (h : Heap) (vs : List Value) → AllByRecursion (Stands h) vs → Stands h (first vs)
  first_there h [] k = tt
  first_there h (v ∷ vs) k = k.0

  pub function_forward : (iterator second control : Value) → Steady (rules_of an frame) (FunctionLoop iterator second control binds body) map → (w : World) (s : State) → Fine an w s → Runs an w s frame
      → Held an frame map s → Stands s.store.heap iterator × Stands s.store.heap second × Stands s.store.heap control
      → Ends an (loop_of an frame (FunctionLoop iterator second control binds body)) w s (Turns an frame map (FunctionLoop iterator second control binds body))
      (turns an.program l frame (FunctionLoop iterator second control binds body) s)
  unfolding turns ◌>>=◌
  function_forward iterator second control steady w s f r h there = ends_then an (loop_of an frame (FunctionLoop iterator second control binds body)) w s (λ x t. Same s t)
      (Turns an frame map (FunctionLoop iterator second control binds body)) (step s) (λ x. turn an.program l frame (FunctionLoop iterator second control binds body))
      (ends_step an (loop_of an frame (FunctionLoop iterator second control binds body)) w s f)
      (λ x a v g k one. ends_then an (loop_of an frame (FunctionLoop iterator second control binds body)) v a (λ x t. Same a t) (Turns an frame map (FunctionLoop iterator second control binds body)) (step a)
      (λ x. ◌>>=◌ (l.call iterator (second ∷ control ∷ [])) (function_turn l frame iterator second binds body))
      (ends_step an (loop_of an frame (FunctionLoop iterator second control binds body)) v a g)
      (λ x c y d j two. called c y d (runs_kept an (loop_of an frame (FunctionLoop iterator second control binds body)) v y a c frame j
      (runs_kept an (loop_of an frame (FunctionLoop iterator second control binds body)) w v s a frame k r)) (held_same an a c frame map two (held_same an s a frame map one h))
      (stands_later a.store.heap c.store.heap iterator j.heap (stands_later s.store.heap a.store.heap iterator k.heap there.0))
      (stands_later a.store.heap c.store.heap second j.heap (stands_later s.store.heap a.store.heap second k.heap there.1))
      (stands_later a.store.heap c.store.heap control j.heap (stands_later s.store.heap a.store.heap control k.heap there.2))))
    where
      called : (c : State) (y : World) → Fine an y c → Runs an y c frame → Held an frame map c → Stands c.store.heap iterator → Stands c.store.heap second → Stands c.store.heap control
          → Ends an (loop_of an frame (FunctionLoop iterator second control binds body)) y c (Turns an frame map (FunctionLoop iterator second control binds body))
          (go_on (l.call iterator (second ∷ control ∷ []) c) (function_turn l frame iterator second binds body))
      called c y d j held one two three = ends_then an (loop_of an frame (FunctionLoop iterator second control binds body)) y c (Answers an iterator (second ∷ control ∷ []) c)
          (Turns an frame map (FunctionLoop iterator second control binds body)) (l.call iterator (second ∷ control ∷ []) c) (function_turn l frame iterator second binds body)
          (ends_more an (nobody (is_quiet an.program iterator)) (loop_of an frame (FunctionLoop iterator second control binds body)) y c (Answers an iterator (second ∷ control ∷ []) c)
          (l.call iterator (second ∷ control ∷ []) c) (may_call (is_quiet an.program iterator)) (fwd.call y c iterator (second ∷ control ∷ []) d one (two, (three, tt))))
          (λ vs b z e k answers. function_turned iterator second control steady vs (is_nil (first vs)) z b (stands_later c.store.heap b.store.heap iterator k.heap one)
          (stands_later c.store.heap b.store.heap second k.heap two) answers.stand (first_there b.store.heap vs answers.stand) e
          (runs_kept an (loop_of an frame (FunctionLoop iterator second control binds body)) y z c b frame k j)
          (steady_held an frame (FunctionLoop iterator second control binds body) map steady y z c b d j k held))

  -- ---- backward

  module _ (bwd : Backward an l) (behind kept : Context) (below : IsBelow kept behind)
      (marked : Marked an frame (found_block (rules_of an frame) (seen_of an frame) body kept behind kept))
      (spares : SparesLoose (rules_of an frame) behind) (spares_kept : SparesLoose (rules_of an frame) kept) where
    abbrev Late : State → State → Type 0
    Late b t = Violated an frame kept b ⊎ (reached an frame.activation b.trace < reached an frame.activation t.trace)

    table_bad : Steady (rules_of an frame) (TableLoop binds body) map → SteadyContext (rules_of an frame) (TableLoop binds body) kept → (o : Option (List Value)) (ending : Ending) (z : World) (b t : State)
        → ((vs : List Value) → o ≡ Some vs → AllByRecursion (Stands b.store.heap) vs) → Fine an z b → Runs an z b frame → Held an frame map b
        → turn_with l frame binds body (l.turns frame (TableLoop binds body)) o b ≡ Gave ending t → Late b t → EndsBad an frame behind none none ending t
    table_bad steady lasting None ending z b t there f r h q late = no_turn an l fwd frame map binds body (TableLoop binds body) unfixed bound may_body steady (λ rs u k. k) inside placed
        bwd behind kept lasting below (λ u e k. kept_returns an frame (TableLoop binds body) kept u lasting e k) marked spares spares_kept ending b t q late
    table_bad steady lasting (Some vs) ending z b t there f r h q late = values_bad an l fwd frame map binds body (TableLoop binds body) unfixed bound may_body steady (λ rs u k. k) inside placed
        bwd behind kept lasting below (λ u e k. kept_returns an frame (TableLoop binds body) kept u lasting e k) marked spares spares_kept
        (l.turns frame (TableLoop binds body)) vs ending z b t f r h (there vs refl) q late
        (λ y n g j held k m x. bwd.turns y n frame map (TableLoop binds body) behind kept g j held steady lasting below inside placed marked spares spares_kept tt ending t m x)

    pub table_backward : Steady (rules_of an frame) (TableLoop binds body) map → SteadyContext (rules_of an frame) (TableLoop binds body) kept → (w : World) (s : State) → Fine an w s → Runs an w s frame
        → Held an frame map s → (ending : Ending) (t : State) → turns an.program l frame (TableLoop binds body) s ≡ Gave ending t
        → Trouble an frame none s t ⊎ Violated an frame kept s → EndsBad an frame behind none none ending t
    unfolding turns ◌>>=◌ look
    table_backward steady lasting w s f r h ending t q y = by_step (gave_then (step s) (λ x. turn an.program l frame (TableLoop binds body)) ending t q)
      where
        by_step : (x : Unit {0}) × (a : State) × (step s ≡ Gave x a) × (turn an.program l frame (TableLoop binds body) a ≡ Gave ending t) → EndsBad an frame behind none none ending t
        by_step (x, a, stepped, k) = by_asked (gave_then (ask (a_turn an.program a.store) a) (turn_with l frame binds body (l.turns frame (TableLoop binds body))) ending t k)
          where
            one : Same s a
            one = step_same s a stepped

            by_asked : (o : Option (List Value)) × (b : State) × (ask (a_turn an.program a.store) a ≡ Gave o b)
                × (turn_with l frame binds body (l.turns frame (TableLoop binds body)) o b ≡ Gave ending t) → EndsBad an frame behind none none ending t
            by_asked (o, b, asked, k) = by_said (ends_gave an (loop_of an frame (TableLoop binds body)) w a (λ o t. Same a t × Says (a_turn an.program a.store) o) (ask (a_turn an.program a.store) a) o b asked
                (ends_ask an (loop_of an frame (TableLoop binds body)) w a (a_turn an.program a.store) (fine_same an w s a one.0 one.1 f)))
              where
                by_said : (v : World) × Fine an v b × Kept an (loop_of an frame (TableLoop binds body)) w a v b × (Same a b × Says (a_turn an.program a.store) o) → EndsBad an frame behind none none ending t
                by_said (v, g, j, (two, said)) = table_bad steady lasting o ending v b t (table_said a b o two said) g
                    (runs_kept an (loop_of an frame (TableLoop binds body)) w v a b frame j
                    (runs_kept an (loop_of an frame (TableLoop binds body)) w w s a frame (kept_same an (loop_of an frame (TableLoop binds body)) w s a one.0 one.1) r))
                    (held_same an a b frame map two (held_same an s a frame map one h)) k
                    (moved an frame kept a b t (λ e. violated_same an a b frame kept two.0 e) (same_count an frame a b two)
                    (moved an frame kept s a t (λ e. violated_same an s a frame kept one.0 e) (same_count an frame s a one) (late_at an frame kept s t y)))

    other_bad : Steady (rules_of an frame) (OtherLoop binds body) map → SteadyContext (rules_of an frame) (OtherLoop binds body) kept → (o : Option (List Value)) (ending : Ending) (z : World) (b t : State)
        → ((vs : List Value) → o ≡ Some vs → AllByRecursion (Stands b.store.heap) vs) → Fine an z b → Runs an z b frame → Held an frame map b
        → turn_with l frame binds body (l.turns frame (OtherLoop binds body)) o b ≡ Gave ending t → Late b t → EndsBad an frame behind none none ending t
    other_bad steady lasting None ending z b t there f r h q late = no_turn an l fwd frame map binds body (OtherLoop binds body) unfixed bound may_body steady (λ rs u k. k) inside placed
        bwd behind kept lasting below (λ u e k. kept_returns an frame (OtherLoop binds body) kept u lasting e k) marked spares spares_kept ending b t q late
    other_bad steady lasting (Some vs) ending z b t there f r h q late = values_bad an l fwd frame map binds body (OtherLoop binds body) unfixed bound may_body steady (λ rs u k. k) inside placed
        bwd behind kept lasting below (λ u e k. kept_returns an frame (OtherLoop binds body) kept u lasting e k) marked spares spares_kept
        (l.turns frame (OtherLoop binds body)) vs ending z b t f r h (there vs refl) q late
        (λ y n g j held k m x. bwd.turns y n frame map (OtherLoop binds body) behind kept g j held steady lasting below inside placed marked spares spares_kept tt ending t m x)

    pub other_backward : Steady (rules_of an frame) (OtherLoop binds body) map → SteadyContext (rules_of an frame) (OtherLoop binds body) kept → (w : World) (s : State) → Fine an w s → Runs an w s frame
        → Held an frame map s → (ending : Ending) (t : State) → turns an.program l frame (OtherLoop binds body) s ≡ Gave ending t
        → Trouble an frame none s t ⊎ Violated an frame kept s → EndsBad an frame behind none none ending t
    unfolding turns ◌>>=◌
    other_backward steady lasting w s f r h ending t q y = by_step (gave_then (step s) (λ x. turn an.program l frame (OtherLoop binds body)) ending t q)
      where
        by_step : (x : Unit {0}) × (a : State) × (step s ≡ Gave x a) × (turn an.program l frame (OtherLoop binds body) a ≡ Gave ending t) → EndsBad an frame behind none none ending t
        by_step (x, a, stepped, k) = by_acted (gave_then (l.acts Free ForTurn a) (turn_with l frame binds body (l.turns frame (OtherLoop binds body))) ending t k)
          where
            one : Same s a
            one = step_same s a stepped

            fine_a : Fine an w a
            fine_a = fine_same an w s a one.0 one.1 f

            runs_a : Runs an w a frame
            runs_a = runs_kept an (loop_of an frame (OtherLoop binds body)) w w s a frame (kept_same an (loop_of an frame (OtherLoop binds body)) w s a one.0 one.1) r

            by_acted : (o : Option (List Value)) × (b : State) × (l.acts Free ForTurn a ≡ Gave o b)
                × (turn_with l frame binds body (l.turns frame (OtherLoop binds body)) o b ≡ Gave ending t) → EndsBad an frame behind none none ending t
            by_acted (o, b, acted, k) = by_end (ends_gave an (nobody false) w a (λ o t. (vs : List Value) → o ≡ Some vs → AllByRecursion (Stands t.store.heap) vs) (l.acts Free ForTurn a) o b acted
                (fwd.acts w a Free ForTurn fine_a))
              where
                by_end : (v : World) × Fine an v b × Kept an (nobody false) w a v b × ((vs : List Value) → o ≡ Some vs → AllByRecursion (Stands b.store.heap) vs) → EndsBad an frame behind none none ending t
                by_end (v, g, j, there) = other_bad steady lasting o ending v b t there g (runs_kept an (nobody false) w v a b frame j runs_a)
                    (steady_held an frame (OtherLoop binds body) map steady w v a b fine_a runs_a kept_loop (held_same an s a frame map one h)) k
                    (moved an frame kept a b t (λ e. steady_violated an frame (OtherLoop binds body) kept lasting w v a b fine_a runs_a kept_loop e)
                    (j.counts frame.activation (has_begun an w a frame fine_a runs_a) (λ e. cc))
                    (moved an frame kept s a t (λ e. violated_same an s a frame kept one.0 e) (same_count an frame s a one) (late_at an frame kept s t y)))
                  where
                    kept_loop : Kept an (loop_of an frame (OtherLoop binds body)) w a v b
                    kept_loop = kept_more an (nobody false) (loop_of an frame (OtherLoop binds body)) w v a b (may_call false) j

    function_bad : (iterator second control : Value) → Steady (rules_of an frame) (FunctionLoop iterator second control binds body) map
        → SteadyContext (rules_of an frame) (FunctionLoop iterator second control binds body) kept → (vs : List Value) (nil : Bool) (ending : Ending) (z : World) (b t : State)
        → Stands b.store.heap iterator → Stands b.store.heap second → AllByRecursion (Stands b.store.heap) vs → Stands b.store.heap (first vs) → Fine an z b → Runs an z b frame → Held an frame map b
        → (if nil then give Falls else turn_with l frame binds body (l.turns frame (FunctionLoop iterator second (first vs) binds body)) (Some vs)) b ≡ Gave ending t → Late b t
        → EndsBad an frame behind none none ending t
    function_bad iterator second control steady lasting vs true ending z b t one two all three f r h q late =
        no_turn an l fwd frame map binds body (FunctionLoop iterator second control binds body) unfixed bound may_body steady (λ rs u k. k) inside placed
        bwd behind kept lasting below (λ u e k. kept_returns an frame (FunctionLoop iterator second control binds body) kept u lasting e k) marked spares spares_kept ending b t q late
    function_bad iterator second control steady lasting vs false ending z b t one two all three f r h q late =
        values_bad an l fwd frame map binds body (FunctionLoop iterator second control binds body) unfixed bound may_body steady (λ rs u k. k) inside placed
        bwd behind kept lasting below (λ u e k. kept_returns an frame (FunctionLoop iterator second control binds body) kept u lasting e k) marked spares spares_kept
        (l.turns frame (FunctionLoop iterator second (first vs) binds body)) vs ending z b t f r h all q late
        (λ y n g j held k m x. bwd.turns y n frame map (FunctionLoop iterator second (first vs) binds body) behind kept g j held (record { touched = steady.touched; stirred = steady.stirred })
        (record { touched = lasting.touched; stirred = lasting.stirred; returned = lasting.returned }) below inside placed marked spares spares_kept
        (stands_later b.store.heap n.store.heap iterator k.heap one, stands_later b.store.heap n.store.heap second k.heap two, stands_later b.store.heap n.store.heap (first vs) k.heap three) ending t m x)

    pub function_backward : (iterator second control : Value) → Steady (rules_of an frame) (FunctionLoop iterator second control binds body) map
        → SteadyContext (rules_of an frame) (FunctionLoop iterator second control binds body) kept → (w : World) (s : State) → Fine an w s → Runs an w s frame
        → Held an frame map s → Stands s.store.heap iterator × Stands s.store.heap second × Stands s.store.heap control → (ending : Ending) (t : State)
        → turns an.program l frame (FunctionLoop iterator second control binds body) s ≡ Gave ending t
        → Trouble an frame none s t ⊎ Violated an frame kept s → EndsBad an frame behind none none ending t
    unfolding turns ◌>>=◌
    function_backward iterator second control steady lasting w s f r h there ending t q y =
        by_step (gave_then (step s) (λ x. turn an.program l frame (FunctionLoop iterator second control binds body)) ending t q)
      where
        by_step : (x : Unit {0}) × (a : State) × (step s ≡ Gave x a) × (turn an.program l frame (FunctionLoop iterator second control binds body) a ≡ Gave ending t) → EndsBad an frame behind none none ending t
        by_step (x, a, stepped, k) = by_second (gave_then (step a) (λ x. ◌>>=◌ (l.call iterator (second ∷ control ∷ [])) (function_turn l frame iterator second binds body)) ending t k)
          where
            by_second : (x : Unit {0}) × (c : State) × (step a ≡ Gave x c) × (◌>>=◌ (l.call iterator (second ∷ control ∷ [])) (function_turn l frame iterator second binds body) c ≡ Gave ending t)
                → EndsBad an frame behind none none ending t
            by_second (x, c, again, m) = by_called (gave_then (l.call iterator (second ∷ control ∷ []) c) (function_turn l frame iterator second binds body) ending t m)
              where
                both : Same s c
                both = ((step_same a c again).0 ∙ (step_same s a stepped).0, (step_same a c again).1 ∙ (step_same s a stepped).1)

                fine_c : Fine an w c
                fine_c = fine_same an w s c both.0 both.1 f

                runs_c : Runs an w c frame
                runs_c = runs_kept an (loop_of an frame (TableLoop binds body)) w w s c frame (kept_same an (loop_of an frame (TableLoop binds body)) w s c both.0 both.1) r

                held_c : Held an frame map c
                held_c = held_same an s c frame map both h

                there_c : Stands c.store.heap iterator × Stands c.store.heap second × Stands c.store.heap control
                there_c = subst (λ (x : Store). Stands x.heap iterator × Stands x.heap second × Stands x.heap control) (sym both.0) there

                by_called : (vs : List Value) × (b : State) × (l.call iterator (second ∷ control ∷ []) c ≡ Gave vs b) × (function_turn l frame iterator second binds body vs b ≡ Gave ending t)
                    → EndsBad an frame behind none none ending t
                by_called (vs, b, called, n) = by_answer (ends_gave an (nobody (is_quiet an.program iterator)) w c (Answers an iterator (second ∷ control ∷ []) c)
                    (l.call iterator (second ∷ control ∷ []) c) vs b called (fwd.call w c iterator (second ∷ control ∷ []) fine_c there_c.0 (there_c.1, (there_c.2, tt))))
                  where
                    by_answer : (v : World) × Fine an v b × Kept an (nobody (is_quiet an.program iterator)) w c v b × Answers an iterator (second ∷ control ∷ []) c vs b → EndsBad an frame behind none none ending t
                    by_answer (v, g, j, answers) = function_bad iterator second control steady lasting vs (is_nil (first vs)) ending v b t
                        (stands_later c.store.heap b.store.heap iterator j.heap there_c.0) (stands_later c.store.heap b.store.heap second j.heap there_c.1) answers.stand
                        (first_there b.store.heap vs answers.stand) g (runs_kept an (nobody (is_quiet an.program iterator)) w v c b frame j runs_c)
                        (steady_held an frame (FunctionLoop iterator second control binds body) map steady w v c b fine_c runs_c kept_loop held_c) n
                        (moved an frame kept c b t (λ e. steady_violated an frame (FunctionLoop iterator second control binds body) kept lasting w v c b fine_c runs_c kept_loop e)
                        (j.counts frame.activation (has_begun an w c frame fine_c runs_c) (λ e. cc))
                        (moved an frame kept s c t (λ e. violated_same an s c frame kept both.0 e) (same_count an frame s c both) (late_at an frame kept s t y)))
                      where
                        kept_loop : Kept an (loop_of an frame (FunctionLoop iterator second control binds body)) w c v b
                        kept_loop = kept_more an (nobody (is_quiet an.program iterator)) (loop_of an frame (FunctionLoop iterator second control binds body)) w v c b (may_call (is_quiet an.program iterator)) j
