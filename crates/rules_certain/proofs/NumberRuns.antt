-- Modules of calls with numbers alone: a run of one may end, and then each literal was reached before.
use Rattle.std.proofs.Common.{◌≡◌, ℕ, zero, suc, ◌+◌, ◌-◌, ◌*◌, ◌<◌, true, List, [], ◌∷◌, ◌++◌, length, map, Option, Some, None, slice_get, refl, sym, ◌∙◌, ap, subst, arith, Contains, codes, append_assoc, append-nil}
use Rattle.luau_values.specs.Value.{Num}
use Rattle.luau_tree.specs.declared.names.Place.{Place}
use Rattle.luau_tree.specs.Tree.{Block}
use Rattle.luau_run.specs.ReadModule.{UseBuiltin, ReadModule}
use Rattle.luau_run.specs.Machine.{Event, Reach, Leave, Answer, Done, State, Ran, Gave, go_on, ◌>>=◌, give, fail, spend, step, log, look, change, ask, catch, write_field, activate}
use Rattle.luau_run.specs.Operators.{anything}
use Rattle.luau_run.specs.Layer.{Frame, Ending, Falls}
use Rattle.luau_run.specs.Calls.{acts, call_builtin, call, require, block_rest, block, frame_of, enter_module}
use Rattle.luau_run.specs.Expressions.{values}
use Rattle.luau_run.specs.Loops.{turns}
use Rattle.luau_run.specs.Statements.{stat}
use Rattle.luau_run.specs.Run.{layer_of, start, end_of}
use Rattle.luau_run.specs.Certain.{IsNotLeft, StaysAt, Certain}
use Rattle.rules_certain.specs.Literal.{Literal, NilLiteral, TruthLiteral, NumberLiteral, StrLiteral, is_number}
use Rattle.rules_certain.specs.Calls.{Written, stat_of, after_call, block_of, use_in, ReadsAs, AllReadAs}
use Rattle.rules_certain.specs.Reports.{place, argument_of, AreNumbers}
use Rattle.rules_certain.specs.Examples.{over_abs, report_at}

-- the answer to each call
abbrev an_answer : Answer
an_answer = Done (Num (codes "1") ∷ [])

abbrev answers : List Written → List Answer
answers calls = map (λ w. an_answer) calls

-- the text of a number
abbrev text_of : Literal → List ℕ
text_of (NumberLiteral text) = text
text_of _ = []

a_number : (l : Literal) → is_number l ≡ true → l ≡ NumberLiteral (text_of l)
a_number (NumberLiteral text) e = refl
a_number NilLiteral e = cc
a_number (TruthLiteral truth) e = cc
a_number (StrLiteral bytes) e = cc

abbrev calls_or : Option (List Written) → List Written
calls_or None = []
calls_or (Some calls) = calls

-- the module at a position was read as the calls there
reading_at : (modules : List (List Written)) (readings : List ReadModule) (at : ℕ) (calls : List Written) → AllReadAs modules readings → slice_get modules at ≡ Some calls
    → (reading : ReadModule) × (slice_get readings at ≡ Some reading) × ReadsAs calls reading
reading_at [] [] at calls h e = cc
reading_at [] (reading ∷ readings) at calls h e = absurd h
reading_at (c0 ∷ modules) [] at calls h e = absurd h
reading_at (c0 ∷ modules) (reading ∷ readings) zero calls h e =
    (reading, refl, subst (λ (o : Option (List Written)). ReadsAs (calls_or o) reading) e h.0)
reading_at (c0 ∷ modules) (reading ∷ readings) (suc at) calls h e = reading_at modules readings at calls h.1 e

module _ (at : ℕ) where
  -- what a call with numbers from `n` on logs
  abbrev logged : ℕ → List Event → List Event
  logged n events = ((events ++ Reach 0 at (place n) ∷ []) ++ Reach 0 at (place (suc n)) ∷ []) ++ Reach 0 at (argument_of n) ∷ []

  -- what calls with numbers from `n` on log, when each is answered
  abbrev all_logged : ℕ → List Written → List Event
  all_logged n [] = []
  all_logged n (w ∷ calls) = Reach 0 at (place n) ∷ Reach 0 at (place (suc n)) ∷ Reach 0 at (argument_of n) ∷ all_logged (after_call n) calls

  logged_first : (n : ℕ) (events later : List Event) → logged n events ++ later ≡ events ++ Reach 0 at (place n) ∷ Reach 0 at (place (suc n)) ∷ Reach 0 at (argument_of n) ∷ later
  logged_first n events later = simp append_assoc refl

  is_left : (m : ℕ) (calls : List Written) → IsNotLeft 0 (all_logged m calls ++ Leave 0 ∷ []) → ⊥
  is_left m [] q = q.0 refl
  is_left m (x ∷ calls) q = is_left (after_call m) calls q

  left_at_end : (n k : ℕ) (calls : List Written) (reports : List (ℕ × Place)) → k < length calls → Contains reports (at, argument_of (n + k * 4))
      → StaysAt reports (all_logged n calls ++ Leave 0 ∷ []) → ⊥
  left_at_end n k [] reports l c h = absurd (omega (arith, l))
  left_at_end n zero (w ∷ calls) reports l c h =
      is_left (after_call n) calls (h.1.1.0 (subst (λ (i : ℕ). Contains reports (at, argument_of i)) (omega arith) c))
  left_at_end n (suc k) (w ∷ calls) reports l c h =
      left_at_end (after_call n) k calls reports (omega (arith, l)) (subst (λ (i : ℕ). Contains reports (at, argument_of i)) (omega arith) c) h.1.1.1

module _ (readings : List ReadModule) (at : ℕ) (reading : ReadModule) (no_require : (id : ℕ) → reading.required id ≡ None) where
  abbrev frame : Frame
  frame = frame_of at reading [] 0

  one_call : (d n steps : ℕ) (w : Written) (text : List ℕ) (rest : List Answer) (s : State)
      → s.steps ≡ suc (suc (suc (suc (suc steps)))) → s.tape ≡ an_answer ∷ rest → reading.required n ≡ None
      → reading.use_of n ≡ None → reading.use_of (suc n) ≡ Some (UseBuiltin (codes "math.abs")) → reading.use_of (suc (suc (suc n))) ≡ None
      → (layer_of (over_abs readings) (suc (suc (suc (suc d))))).stat frame (stat_of n (record w { literal = NumberLiteral text })) s
      ≡ Gave Falls (record s { steps = steps; tape = rest; trace = logged at n s.trace })
  unfolding ◌>>=◌ give fail spend step log look change ask catch write_field activate anything acts call_builtin call require values turns stat
  one_call d n steps w text rest s es et er u0 u1 u3 = rw (es, et, u0, er, u1, u3) refl

  -- the calls of a block run to its end
  Ends : (d n : ℕ) (calls : List Written) → State → Type 0
  Ends d n calls s = (t : State) × (block (layer_of (over_abs readings) (suc (suc (suc (suc d))))) frame (block_of n calls) s ≡ Gave Falls t)
      × (t.trace ≡ s.trace ++ all_logged at n calls)

  all_calls : (d n : ℕ) (calls : List Written) (s : State) → AreNumbers calls → s.steps ≡ length calls * 5 → s.tape ≡ answers calls
      → ((id : ℕ) → reading.use_of (n + id) ≡ use_in calls id) → Ends d n calls s
  unfolding Ends ◌>>=◌ give
  all_calls d n [] s num es et u = (s, refl, sym (append-nil s.trace))
  all_calls d n (w ∷ calls) s num es et u =
      let t : State = record s { steps = length calls * 5; tape = answers calls; trace = logged at n s.trace } in
      let e : (layer_of (over_abs readings) (suc (suc (suc (suc d))))).stat frame (stat_of n w) s ≡ Gave Falls t =
      subst (λ (l : Literal). (layer_of (over_abs readings) (suc (suc (suc (suc d))))).stat frame (stat_of n (record w { literal = l })) s ≡ Gave Falls t) (sym (a_number w.literal num.0))
      (one_call d n (length calls * 5) w (text_of w.literal) (answers calls) s (es ∙ omega arith) et (no_require n)
      (subst (λ (i : ℕ). reading.use_of i ≡ None) (omega arith) (u 0))
      (subst (λ (i : ℕ). reading.use_of i ≡ Some (UseBuiltin (codes "math.abs"))) (omega arith) (u (suc zero)))
      (subst (λ (i : ℕ). reading.use_of i ≡ None) (omega arith) (u (suc (suc (suc zero)))))) in
      let later : Ends d (after_call n) calls t =
      all_calls d (after_call n) calls t num.1 refl refl (λ id. subst (λ (i : ℕ). reading.use_of i ≡ use_in calls id) (omega arith) (u (suc (suc (suc (suc id)))))) in (
        later.0,
        ap (λ (r : Ran Ending). go_on r (block_rest (block (layer_of (over_abs readings) (suc (suc (suc (suc d))))) frame (block_of (after_call n) calls)))) e ∙ later.1,
        later.2 ∙ logged_first at n s.trace (all_logged at (after_call n) calls),
      )

  -- the run of the module at a depth, with enough steps and an answer for each call
  abbrev run_at : (depth : ℕ) → List Written → Ran Ending
  run_at depth calls = enter_module (layer_of (over_abs readings) depth) at (Some reading) (start (over_abs readings) (length calls * 5) (answers calls))

  run_ends : (d : ℕ) (calls : List Written) → AreNumbers calls → reading.block ≡ block_of 0 calls → ((id : ℕ) → reading.use_of id ≡ use_in calls id)
      → (end_of (run_at (suc (suc (suc (suc d)))) calls)).trace ≡ all_logged at 0 calls ++ Leave 0 ∷ []
  unfolding Ends ◌>>=◌ give log look change activate
  run_ends d calls num eb u =
      let s : State = start (over_abs readings) (length calls * 5) (answers calls) in
      let t : State = record s { store = record s.store { begun = 1 } } in
      let e : Ends d 0 calls t = all_calls d 0 calls t num refl refl (λ id. subst (λ (i : ℕ). reading.use_of i ≡ use_in calls id) (omega arith) (u id)) in
      ap (λ (b : Block). (end_of (go_on (block (layer_of (over_abs readings) (suc (suc (suc (suc d))))) frame b t) (λ ending. ◌>>=◌ (log (Leave 0)) (λ (x : Unit {0}). give ending)))).trace) eb
      ∙ ap (λ (r : Ran Ending). (end_of (go_on r (λ ending. ◌>>=◌ (log (Leave 0)) (λ (x : Unit {0}). give ending)))).trace) e.1
      ∙ ap (λ (l : List Event). l ++ Leave 0 ∷ []) e.2

  -- a report at a literal is left in that run
  not_at_literal : (calls : List Written) (k : ℕ) → AreNumbers calls → ReadsAs calls reading → k < length calls
      → StaysAt (report_at at k) (end_of (run_at (suc (length calls * 5 + length (answers calls))) calls)).trace → ⊥
  not_at_literal calls k num read l stays =
      let depth : suc (length calls * 5 + length (answers calls)) ≡ suc (suc (suc (suc (length calls * 5 + length (answers calls) - 3)))) = omega (arith, l) in
      let deep : StaysAt (report_at at k) (end_of (run_at (suc (suc (suc (suc (length calls * 5 + length (answers calls) - 3))))) calls)).trace =
      subst (λ (d : ℕ). StaysAt (report_at at k) (end_of (run_at d calls)).trace) depth stays in
      left_at_end at 0 k calls (report_at at k) l
      (subst (λ (i : ℕ). Contains (report_at at k) (at, argument_of i)) (omega arith) (zero, omega arith, refl))
      (subst (StaysAt (report_at at k)) (run_ends (length calls * 5 + length (answers calls) - 3) calls num read.statements read.names) deep)

pub number_is_not_certain : (modules : List (List Written)) (readings : List ReadModule) (at k : ℕ) (calls : List Written)
    → AllReadAs modules readings → slice_get modules at ≡ Some calls → AreNumbers calls → k < length calls
    → Certain (over_abs readings) (report_at at k) → ⊥
number_is_not_certain modules readings at k calls h e num l certain =
    let found : (reading : ReadModule) × (slice_get readings at ≡ Some reading) × ReadsAs calls reading = reading_at modules readings at calls h e in
    let read : ReadsAs calls found.0 = found.2 in
    not_at_literal readings at found.0 read.no_require calls k num read l
    (subst (λ (o : Option ReadModule). StaysAt (report_at at k) (end_of (enter_module (layer_of (over_abs readings) (suc (length calls * 5 + length (answers calls)))) at o (start (over_abs readings) (length calls * 5) (answers calls)))).trace)
    found.1 (certain at (length calls * 5) (answers calls)))
