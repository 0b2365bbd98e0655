-- What the runs of calls of `math.abs` log.
use Rattle.std.proofs.Common.{◌≡◌, ℕ, zero, suc, Bool, true, false, not, ◌&&◌, if◌then◌else◌, List, [], ◌∷◌, ◌++◌, Option, Some, None, refl, sym, ◌∙◌, ap, subst, Contains, codes}
use Rattle.std.specs.Bool.{⊤}
use Rattle.std.specs.Option.{IsSomeAnd}
use Rattle.luau_values.specs.Value.{Value, Nil, Truth, Num, Str, Builtin}
use Rattle.luau_values.specs.Heap.{Heap}
use Rattle.luau_tree.specs.declared.names.Place.{Place}
use Rattle.luau_tree.specs.declared.position.Span.{Span}
use Rattle.luau_tree.specs.Tree.{Expr, the_expr, no_exprs, more_exprs, ExprKind, Call, Index, NameExpr}
use Rattle.luau_run.specs.ValueSet.{ValueSet, everything, numbers, all_in, set_or}
use Rattle.luau_run.specs.Signature.{Signature, declaration, takes}
use Rattle.luau_run.specs.ReadModule.{Use, UseBuiltin}
use Rattle.luau_run.specs.Program.{Program}
use Rattle.luau_run.specs.Machine.{Event, Reach, Store, State, Ran, Gave, Failed, Spent, go_on, ◌>>=◌, give, fail, spend, step_of, step, log, look}
use Rattle.luau_run.specs.Layer.{Frame, Layer, first, Ending, Falls, Breaks, Continues, Returns}
use Rattle.luau_run.specs.Calls.{meaning, declared_call, call_builtin, call, block_rest, block}
use Rattle.luau_run.specs.Expressions.{value, call_expr, evaluate_or_builtin, values}
use Rattle.luau_run.specs.Statements.{stat}
use Rattle.luau_run.specs.Run.{layer_of}
use Rattle.rules_certain.specs.Literal.{Literal, NilLiteral, TruthLiteral, NumberLiteral, StrLiteral, is_number, kind_of}
use Rattle.rules_certain.specs.OneNumber.{AreOneNumber, TakesOneNumber, DeclaresAbs}
use Rattle.rules_certain.specs.Calls.{Written, stat_of, after_call, block_of}
use Rattle.rules_certain.specs.Reports.{place, argument_of}
use Rattle.rules_certain.proofs.Parts.{NoLeave, Clear, clear_no_leave, reach_no_leave, reach_clear, Post, post_then, post_step}
use Rattle.rules_certain.proofs.Still.{Still, still}

-- the value of a literal
abbrev value_of : Literal → Value
value_of NilLiteral = Nil
value_of (TruthLiteral truth) = Truth truth
value_of (NumberLiteral text) = Num text
value_of (StrLiteral bytes) = Str bytes

-- a literal that is no number is no value that a function of one number takes
not_taken : (params : List ValueSet) (heap : Heap) (further : ValueSet) (v : Value) → AreOneNumber params → numbers heap v ≡ false → all_in heap params further (v ∷ []) ≡ false
not_taken [] heap further v one e = absurd one
not_taken (set ∷ []) heap further v one e = ap (λ b. b && true) (one heap v ∙ e)
not_taken (set ∷ next ∷ params) heap further v one e = absurd one

module _ (program : Program) (reports : List (ℕ × Place)) where
  -- no reported place was reached, and no closure was made
  abbrev pub Good : Store → List Event → Type 0
  Good store events = Clear reports events × (store.closures ≡ [])

  -- what is given comes in such a state
  abbrev pub Fine : {A : Type 0} → A → State → Type 0
  Fine x t = Good t.store t.trace

  still_fine : {A : Type 0} (events : List Event) (r : Ran A) → Still events r → Clear reports events → Post Fine r
  still_fine events (Gave x t) h k = (subst (Clear reports) (sym h.0) k, h.1)
  still_fine events (Failed t) h k = subst NoLeave (sym h.0) (clear_no_leave reports events k)
  still_fine events (Spent t) h k = subst NoLeave (sym h.0) (clear_no_leave reports events k)

  module _ (declared : DeclaresAbs program.builtins) where
    -- a call with what is no number fails
    wrong_fails : (layer : Layer) (o : Option Signature) (v : Value) (s : State) → IsSomeAnd o TakesOneNumber → numbers s.store.heap v ≡ false → NoLeave s.trace
        → Post Fine (declared_call layer o (codes "math.abs") (v ∷ []) s)
    unfolding ◌>>=◌ fail look
    wrong_fails layer None v s h e n = absurd h
    wrong_fails layer (Some signature) v s h e n =
        subst (λ (b : Bool). Post Fine ((if b then fail else meaning layer signature (codes "math.abs") (v ∷ [])) s)) (sym test) n
      where
        test : (signature.checked && not (takes signature s.store.heap (v ∷ []))) ≡ true
        test = ap (λ b. b && not (takes signature s.store.heap (v ∷ []))) h.0
            ∙ ap (λ b. true && not b) (not_taken signature.params s.store.heap (set_or everything signature.rest) v h.1 e)

    wrong_call : (d : ℕ) (v : Value) (s : State) → numbers s.store.heap v ≡ false → NoLeave s.trace → Post Fine ((layer_of program d).call (Builtin (codes "math.abs")) (v ∷ []) s)
    unfolding spend call call_builtin
    wrong_call zero v s e n = n
    wrong_call (suc d) v s e n = wrong_fails (layer_of program d) (declaration program.builtins (codes "math.abs")) v s declared e n

    -- a call with a literal gives something only where this is a number
    call_fine : (d : ℕ) (l : Literal) (s : State) → NoLeave s.trace → (is_number l ≡ true → Good s.store s.trace)
        → Post Fine ((layer_of program d).call (Builtin (codes "math.abs")) (value_of l ∷ []) s)
    call_fine d NilLiteral s n h = wrong_call d Nil s refl n
    call_fine d (TruthLiteral truth) s n h = wrong_call d (Truth truth) s refl n
    call_fine d (StrLiteral bytes) s n h = wrong_call d (Str bytes) s refl n
    call_fine d (NumberLiteral text) s n h =
        still_fine s.trace ((layer_of program d).call (Builtin (codes "math.abs")) (Num text ∷ []) s)
        ((still s.trace program d).0 (Builtin (codes "math.abs")) (Num text ∷ []) s (refl, (h refl).1)) (h refl).0

    -- an expression that gives a value at once: its place is logged
    abbrev GivesAt : Frame → ℕ → State → Value → List Value → State → Type 0
    GivesAt frame id s v given t = (given ≡ v ∷ []) × (t.trace ≡ s.trace ++ Reach frame.activation frame.module_at (place id) ∷ []) × (t.store ≡ s.store)

    at_once : (d : ℕ) (frame : Frame) (id : ℕ) (span : Span) (kind : ExprKind) (v : Value) (s : State)
        → ((layer : Layer) (t : State) → evaluate_or_builtin program layer frame id kind (frame.reading.use_of id) t ≡ Gave (v ∷ []) t) → NoLeave s.trace
        → Post (GivesAt frame id s v) ((layer_of program d).values frame (the_expr id span kind) s)
    unfolding ◌>>=◌ spend step log values
    at_once zero frame id span kind v s e n = n
    at_once (suc d) frame id span kind v s e n = by_steps s.steps
      where
        by_steps : (steps : ℕ) → Post (GivesAt frame id s v)
            (go_on (go_on (step_of steps s) (λ (x : Unit {0}). log (Reach frame.activation frame.module_at (place id))))
            (λ (x : Unit {0}). evaluate_or_builtin program (layer_of program d) frame id kind (frame.reading.use_of id)))
        by_steps zero = n
        by_steps (suc steps) =
            let t : State = record s { steps = steps; trace = s.trace ++ Reach frame.activation frame.module_at (place id) ∷ [] } in
            subst (λ (r : Ran (List Value)). Post (GivesAt frame id s v) r) (sym (e (layer_of program d) t)) (refl, refl, refl)

    literal_at_once : (layer : Layer) (frame : Frame) (id : ℕ) (l : Literal) (what : Option Use) (t : State) → what ≡ None
        → evaluate_or_builtin program layer frame id (kind_of l) what t ≡ Gave (value_of l ∷ []) t
    unfolding give
    literal_at_once layer frame id l what t e =
        subst (λ (u : Option Use). evaluate_or_builtin program layer frame id (kind_of l) u t ≡ Gave (value_of l ∷ []) t) (sym e) (by_literal l)
      where
        by_literal : (m : Literal) → evaluate_or_builtin program layer frame id (kind_of m) None t ≡ Gave (value_of m ∷ []) t
        by_literal NilLiteral = refl
        by_literal (TruthLiteral true) = refl
        by_literal (TruthLiteral false) = refl
        by_literal (NumberLiteral text) = refl
        by_literal (StrLiteral bytes) = refl

    builtin_at_once : (layer : Layer) (frame : Frame) (id : ℕ) (kind : ExprKind) (path : List ℕ) (what : Option Use) (t : State) → what ≡ Some (UseBuiltin path)
        → evaluate_or_builtin program layer frame id kind what t ≡ Gave (Builtin path ∷ []) t
    unfolding give
    builtin_at_once layer frame id kind path what t e =
        subst (λ (u : Option Use). evaluate_or_builtin program layer frame id kind u t ≡ Gave (Builtin path ∷ []) t) (sym e) refl

    -- what the names and the reports say of a call with numbers from `first` on
    pub record CallFacts (frame : Frame) (first : ℕ) (w : Written) : Type 0 where
      pub whole : frame.reading.use_of first ≡ None
      pub callee : frame.reading.use_of (suc first) ≡ Some (UseBuiltin (codes "math.abs"))
      pub argument : frame.reading.use_of (suc (suc (suc first))) ≡ None
      pub plain : frame.reading.required first ≡ None
      pub at_whole : Contains reports (frame.module_at, place first) → ⊥
      pub at_callee : Contains reports (frame.module_at, place (suc first)) → ⊥
      pub at_number : is_number w.literal ≡ true → Contains reports (frame.module_at, argument_of first) → ⊥

    module _ (frame : Frame) (n : ℕ) (w : Written) (facts : CallFacts frame n w) where
      abbrev callee_kind : ExprKind
      callee_kind = Index (the_expr (suc (suc n)) w.library (NameExpr (codes "math"))) (codes "abs")

      abbrev callee_of : Expr
      callee_of = the_expr (suc n) w.callee callee_kind

      abbrev literal_of : Expr
      literal_of = the_expr (suc (suc (suc n))) w.argument (kind_of w.literal)

      abbrev after_callee : State → List Event
      after_callee s = s.trace ++ Reach frame.activation frame.module_at (place (suc n)) ∷ []

      abbrev after_literal : State → List Event
      after_literal s = after_callee s ++ Reach frame.activation frame.module_at (argument_of n) ∷ []

      -- the callee's value
      abbrev IsCallee : State → Value → State → Type 0
      IsCallee s f t = (f ≡ Builtin (codes "math.abs")) × (t.trace ≡ after_callee s) × (t.store ≡ s.store)

      the_callee : (d : ℕ) (s : State) → NoLeave s.trace → Post (IsCallee s) (value (layer_of program d) frame callee_of s)
      unfolding ◌>>=◌ give
      the_callee d s h =
          post_then (GivesAt frame (suc n) s (Builtin (codes "math.abs"))) (IsCallee s)
          ((layer_of program d).values frame callee_of s) (λ vs. give (first vs))
          (at_once d frame (suc n) w.callee callee_kind (Builtin (codes "math.abs")) s (λ layer t. builtin_at_once layer frame (suc n) callee_kind (codes "math.abs") _ t facts.callee) h)
          (λ vs t k. (ap first k.0, k.1, k.2))

      -- the call itself, once the callee and the argument are there
      the_call : (d : ℕ) (f : Value) (vs : List Value) (s t : State) → Good s.store s.trace → f ≡ Builtin (codes "math.abs") → vs ≡ value_of w.literal ∷ []
          → t.trace ≡ after_literal s → t.store ≡ s.store → Post Fine (◌>>=◌ step (λ (x : Unit {0}). (layer_of program d).call f vs) t)
      the_call d f vs s t h ef ev et es =
          let c : Clear reports (after_callee s) = reach_clear reports s.trace frame.activation frame.module_at (place (suc n)) facts.at_callee h.0 in
          let l : NoLeave (after_literal s) = reach_no_leave (after_callee s) frame.activation frame.module_at (argument_of n) (clear_no_leave reports (after_callee s) c) in
          let k : is_number w.literal ≡ true → Clear reports (after_literal s) = λ e. reach_clear reports (after_callee s) frame.activation frame.module_at (argument_of n) (facts.at_number e) c in
          subst (λ (g : Value). Post Fine (◌>>=◌ step (λ (x : Unit {0}). (layer_of program d).call g vs) t)) (sym ef)
          (subst (λ (us : List Value). Post Fine (◌>>=◌ step (λ (x : Unit {0}). (layer_of program d).call (Builtin (codes "math.abs")) us) t)) (sym ev)
          (post_step Fine (λ store events. (events ≡ after_literal s) × (store.closures ≡ [])) ((layer_of program d).call (Builtin (codes "math.abs")) (value_of w.literal ∷ [])) t
          (subst NoLeave (sym et) l) (et, ap (λ (store : Store). store.closures) es ∙ h.1)
          (λ u eu. call_fine d w.literal u (subst NoLeave (sym eu.0) l) (λ e. (subst (Clear reports) (sym eu.0) (k e), eu.1)))))

      -- the callee, the argument and the call
      call_runs : (d : ℕ) (s : State) → Good s.store s.trace → Post Fine (call_expr (layer_of program d) frame None callee_of (more_exprs literal_of no_exprs) s)
      unfolding ◌>>=◌
      call_runs d s h =
          post_then (IsCallee s) Fine (value (layer_of program d) frame callee_of s) _
          (the_callee d s (clear_no_leave reports s.trace h.0))
          (λ f t k. post_then (GivesAt frame (suc (suc (suc n))) t (value_of w.literal)) Fine ((layer_of program d).values frame literal_of t) _
          (at_once d frame (suc (suc (suc n))) w.argument (kind_of w.literal) (value_of w.literal) t
          (λ layer u. literal_at_once layer frame (suc (suc (suc n))) w.literal _ u facts.argument)
          (subst NoLeave (sym k.1) (reach_no_leave s.trace frame.activation frame.module_at (place (suc n)) (clear_no_leave reports s.trace h.0))))
          (λ vs u q. the_call d f vs s u h k.0 q.0 (q.1 ∙ ap (λ (l : List Event). l ++ Reach frame.activation frame.module_at (argument_of n) ∷ []) k.1) (q.2 ∙ k.2)))

      -- the call's expression, and its statement
      evaluated : (d : ℕ) (s : State) → Good s.store s.trace
          → Post Fine (evaluate_or_builtin program (layer_of program d) frame n (Call callee_of (more_exprs literal_of no_exprs)) (frame.reading.use_of n) s)
      evaluated d s h =
          subst (λ (u : Option Use). Post Fine (evaluate_or_builtin program (layer_of program d) frame n (Call callee_of (more_exprs literal_of no_exprs)) u s)) (sym facts.whole)
          (subst (λ (r : Option ℕ). Post Fine (call_expr (layer_of program d) frame r callee_of (more_exprs literal_of no_exprs) s)) (sym facts.plain) (call_runs d s h))

      expression_runs : (d : ℕ) (s : State) → Good s.store s.trace
          → Post Fine ((layer_of program d).values frame (the_expr n w.call (Call callee_of (more_exprs literal_of no_exprs))) s)
      unfolding ◌>>=◌ spend step log values
      expression_runs zero s h = clear_no_leave reports s.trace h.0
      expression_runs (suc d) s h = by_steps s.steps
        where
          by_steps : (steps : ℕ) → Post Fine
              (go_on (go_on (step_of steps s) (λ (x : Unit {0}). log (Reach frame.activation frame.module_at (place n))))
              (λ (x : Unit {0}). evaluate_or_builtin program (layer_of program d) frame n (Call callee_of (more_exprs literal_of no_exprs)) (frame.reading.use_of n)))
          by_steps zero = clear_no_leave reports s.trace h.0
          by_steps (suc steps) = evaluated d _ (reach_clear reports s.trace frame.activation frame.module_at (place n) facts.at_whole h.0, h.1)

      pub statement_runs : (d : ℕ) (s : State) → Good s.store s.trace → Post Fine ((layer_of program d).stat frame (stat_of n w) s)
      unfolding ◌>>=◌ give spend stat
      statement_runs zero s h = clear_no_leave reports s.trace h.0
      statement_runs (suc d) s h =
          post_step Fine Good (◌>>=◌ ((layer_of program d).values frame (the_expr n w.call (Call callee_of (more_exprs literal_of no_exprs)))) (λ (vs : List Value). give Falls)) s
          (clear_no_leave reports s.trace h.0) h
          (λ t k. post_then Fine Fine ((layer_of program d).values frame (the_expr n w.call (Call callee_of (more_exprs literal_of no_exprs))) t) (λ (vs : List Value). give Falls)
          (expression_runs d t k) (λ vs u q. q))

    -- the same of each call of a list, with numbers from `n` on
    abbrev pub AllFacts : Frame → ℕ → List Written → Type 0
    AllFacts frame n [] = ⊤
    AllFacts frame n (w ∷ calls) = CallFacts frame n w × AllFacts frame (after_call n) calls

    pub block_runs : (d : ℕ) (frame : Frame) (n : ℕ) (calls : List Written) (s : State) → AllFacts frame n calls → Good s.store s.trace
        → Post Fine (block (layer_of program d) frame (block_of n calls) s)
    unfolding ◌>>=◌ give
    block_runs d frame n [] s facts h = h
    block_runs d frame n (w ∷ calls) s facts h =
        post_then Fine Fine ((layer_of program d).stat frame (stat_of n w) s) (block_rest (block (layer_of program d) frame (block_of (after_call n) calls)))
        (statement_runs frame n w facts.0 d s h) (λ ending t k. by_ending ending t k (block_runs d frame (after_call n) calls t facts.1 k))
      where
        by_ending : (ending : Ending) (t : State) → Good t.store t.trace → Post Fine (block (layer_of program d) frame (block_of (after_call n) calls) t)
            → Post Fine (block_rest (block (layer_of program d) frame (block_of (after_call n) calls)) ending t)
        by_ending Falls t k q = q
        by_ending Breaks t k q = k
        by_ending Continues t k q = k
        by_ending (Returns vs) t k q = k
