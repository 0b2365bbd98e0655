-- The runs of programs of calls: reports at literals that aren't numbers are certain.
use Rattle.std.proofs.Common.{◌≡◌, ℕ, zero, suc, ◌+◌, ◌≤◌, Bool, true, false, if◌then◌else◌, List, [], ◌∷◌, length, Option, Some, None, slice_get, refl, sym, subst, arith, Contains}
use Rattle.luau_tree.specs.declared.names.Place.{Place}
use Rattle.luau_tree.specs.Tree.{Block}
use Rattle.luau_run.specs.Signature.{Declared}
use Rattle.luau_run.specs.ReadModule.{ReadModule}
use Rattle.luau_run.specs.Program.{Program}
use Rattle.luau_run.specs.Machine.{Leave, Answer, State, Ran, Gave, Failed, Spent, go_on, ◌>>=◌, give, spend, log, look, change, activate}
use Rattle.luau_run.specs.Layer.{Frame, Ending}
use Rattle.luau_run.specs.Calls.{block, frame_of, enter_module}
use Rattle.luau_run.specs.Run.{layer_of, start, end_of}
use Rattle.luau_run.specs.Certain.{StaysAt, Certain}
use Rattle.luau_run.specs.runs.Builders.{abs}
use Rattle.rules_certain.specs.Literal.{Literal, is_number}
use Rattle.rules_certain.specs.OneNumber.{DeclaresAbs}
use Rattle.rules_certain.specs.Calls.{Written, after_call, block_of, use_in, ReadsAs, AllReadAs, modules_from, program_of}
use Rattle.rules_certain.specs.Reports.{place, argument_of, reports_in, reports_of}
use Rattle.rules_certain.specs.Examples.{modules_for, program_for, reports_for}
use Rattle.rules_certain.proofs.Parts.{Clear, no_leave_stays, clear_left_stays, Post}
use Rattle.rules_certain.proofs.CallRuns.{AllFacts, block_runs}
use Rattle.rules_certain.proofs.ReportPlaces.{reports_past, past_first, Found, found}

module _ (program : Program) (declared : DeclaresAbs program.builtins) (reports : List (ℕ × Place)) (at : ℕ) (reading : ReadModule) (no_require : (id : ℕ) → reading.required id ≡ None) where
  abbrev frame : ℕ → Frame
  frame activation = frame_of at reading [] activation

  number_free : (n : ℕ) (w : Written) (calls : List Written)
      → ((id : ℕ) → n ≤ id → Contains reports (at, place id) → Contains (reports_in at n (w ∷ calls)) (at, place id))
      → is_number w.literal ≡ true → Contains reports (at, argument_of n) → ⊥
  number_free n w calls r e c = by_test (is_number w.literal) e (r (suc (suc (suc n))) (omega arith) c)
    where
      by_test : (b : Bool) → b ≡ true → Contains (if b then reports_in at (after_call n) calls else (at, argument_of n) ∷ reports_in at (after_call n) calls) (at, argument_of n) → ⊥
      by_test true e k = absurd (omega (arith, (reports_past at at (suc (suc (suc n))) (after_call n) calls k).1))
      by_test false e k = cc

  -- from a number on, the names and the reports are those of the calls from there on
  facts_of : (activation n : ℕ) (calls : List Written)
      → ((id : ℕ) → reading.use_of (n + id) ≡ use_in calls id)
      → ((id : ℕ) → n ≤ id → Contains reports (at, place id) → Contains (reports_in at n calls) (at, place id))
      → AllFacts program reports declared (frame activation) n calls
  facts_of activation n [] u r = tt
  facts_of activation n (w ∷ calls) u r = (
    record {
      whole = subst (λ (i : ℕ). reading.use_of i ≡ None) (omega arith) (u 0);
      callee = subst (λ (i : ℕ). reading.use_of i ≡ use_in (w ∷ calls) (suc zero)) (omega arith) (u (suc zero));
      argument = subst (λ (i : ℕ). reading.use_of i ≡ None) (omega arith) (u (suc (suc (suc zero))));
      plain = no_require n;
      at_whole = λ c. absurd (omega (arith, (reports_past at at n n (w ∷ calls) (r n (omega arith) c)).1));
      at_callee = λ c. absurd (omega (arith, (reports_past at at (suc n) n (w ∷ calls) (r (suc n) (omega arith) c)).1));
      at_number = number_free n w calls r;
    },
    facts_of activation (after_call n) calls
        (λ id. subst (λ (i : ℕ). reading.use_of i ≡ use_in calls id) (omega arith) (u (suc (suc (suc (suc id))))))
        (λ id l c. past_first at n w calls id l (r id (omega (arith, l)) c)),
  )

-- where its block ends, a module's body is left; nothing was reported then
left_stays : (reports : List (ℕ × Place)) (r : Ran Ending) → Post (λ ending t. Clear reports t.trace × (t.store.closures ≡ [])) r
    → StaysAt reports (end_of (go_on r (λ ending. ◌>>=◌ (log (Leave 0)) (λ (x : Unit {0}). give ending)))).trace
unfolding ◌>>=◌ give log
left_stays reports (Gave ending t) h = clear_left_stays reports t.trace 0 h.0
left_stays reports (Failed t) h = no_leave_stays reports t.trace h
left_stays reports (Spent t) h = no_leave_stays reports t.trace h

module _ (program : Program) (declared : DeclaresAbs program.builtins) (reports : List (ℕ × Place)) where
  -- the state in which the body of the entry module begins
  abbrev body_start : (steps : ℕ) → List Answer → State
  body_start steps tape = record (start program steps tape) { store = record (start program steps tape).store { begun = (start program steps tape).store.begun + 1 } }

  -- the run of one of the modules, at a depth
  module_stays : (d at steps : ℕ) (tape : List Answer) (o : Option ReadModule) → Found reports at o
      → StaysAt reports (end_of (enter_module (layer_of program d) at o (start program steps tape))).trace
  unfolding ◌>>=◌ give spend log look change activate
  module_stays d at steps tape None f = tt
  module_stays d at steps tape (Some reading) f =
      let read : ReadsAs f.0 reading = f.1 in
      subst (λ (b : Block). StaysAt reports (end_of (go_on (block (layer_of program d) (frame_of at reading [] 0) b (body_start steps tape)) (λ ending. ◌>>=◌ (log (Leave 0)) (λ (x : Unit {0}). give ending)))).trace) (sym read.statements)
      (left_stays reports (block (layer_of program d) (frame_of at reading [] 0) (block_of 0 f.0) (body_start steps tape))
      (block_runs program reports declared d (frame_of at reading [] 0) 0 f.0 (body_start steps tape)
      (facts_of program declared reports at reading read.no_require 0 0 f.0 (λ id. subst (λ (i : ℕ). reading.use_of i ≡ use_in f.0 id) (omega arith) (read.names id)) (λ id l c. f.2 id c)) (tt, refl)))

pub read_is_certain : (program : Program) (modules : List (List Written)) → DeclaresAbs program.builtins
    → AllReadAs modules program.modules → Certain program (reports_of modules)
read_is_certain program modules declared h entry steps tape =
    module_stays program declared (reports_of modules) (suc (steps + length tape)) entry steps tape (slice_get program.modules entry)
    (subst (λ (m : ℕ). Found (reports_of modules) m (slice_get program.modules entry)) (omega arith) (found 0 modules program.modules entry h))

pub all_read : (home : ℕ) (modules : List (List Written)) → AllReadAs modules (modules_from home modules)
all_read home [] = tt
all_read home (calls ∷ modules) = (record { statements = refl; names = λ id. refl; no_require = λ id. refl }, all_read (suc home) modules)

pub certain : (builtins : List Declared) (modules : List (List Written)) → DeclaresAbs builtins
    → Certain (program_of builtins modules) (reports_of modules)
certain builtins modules declared = read_is_certain (program_of builtins modules) modules declared (all_read 1 modules)

pub one_is_certain : (literals : List Literal) → Certain (program_for literals) (reports_for literals)
one_is_certain literals = certain (abs ∷ []) (modules_for literals) (refl, λ heap v. refl)
