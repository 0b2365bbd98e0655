-- What a call or the acts of a builtin do while no closure was made: they log nothing, and make none.
use Rattle.std.proofs.Common.{◌≡◌, ℕ, zero, suc, Bool, true, false, not, ◌&&◌, if◌then◌else◌, List, [], ◌∷◌, length, Option, Some, None, sym, subst, codes}
use Rattle.std.specs.List.{find}
use Rattle.std.specs.Str.{bytes_eq}
use Rattle.luau_values.specs.Value.{Value, Nil, Truth, Num, Str, Tab, Lit, Builtin, Other}
use Rattle.luau_values.specs.Heap.{is_frozen, with_frozen}
use Rattle.luau_run.specs.Signature.{Signature, declaration, takes, may_give}
use Rattle.luau_run.specs.Program.{Program}
use Rattle.luau_run.specs.Machine.{Event, Write, Freeze, Make, Calls, Catches, Answer, Closure, State, Ran, Gave, Failed, Spent, Part, go_on, ◌>>=◌, give, fail, spend, step_of, step, look, change, caught, catch, Reply, Unfit, Fails, Fits, replied, asked, ask, write_field}
use Rattle.luau_run.specs.Answers.{is_closure, yes_or_fail, other_kind, ForResults, Freedom, Free, Move, Acts, Ends, a_move}
use Rattle.luau_run.specs.Layer.{first}
use Rattle.luau_run.specs.Calls.{acts_from, acts, results_or_none, given_by, type_name, frozen, freedom_of, free_builtin, meaning, declared_call, call_closure, call_builtin, call}
use Rattle.luau_run.specs.Run.{layer_of}

module _ (events : List Event) where
  -- this was logged, and no closure was made
  abbrev pub Calm : State → Type 0
  Calm s = (s.trace ≡ events) × (s.store.closures ≡ [])

  -- however a part ends, this was logged and no closure was made
  abbrev pub Still : {A : Type 0} → Ran A → Type 0
  Still (Gave x t) = Calm t
  Still (Failed t) = Calm t
  Still (Spent t) = Calm t

  still_then : {A B : Type 0} (r : Ran A) (next : A → Part B) → Still r → ((x : A) (t : State) → Calm t → Still (next x t)) → Still (go_on r next)
  still_then (Gave x t) next h k = k x t h
  still_then (Failed t) next h k = h
  still_then (Spent t) next h k = h

  still_caught : {A : Type 0} (r : Ran A) → Still r → Still (caught r)
  still_caught (Gave x t) h = h
  still_caught (Failed t) h = h
  still_caught (Spent t) h = h

  still_step : (steps : ℕ) (s : State) → Calm s → Still (step_of steps s)
  still_step zero s h = h
  still_step (suc steps) s h = h

  still_ask : {A : Type 0} (reply : Answer → Reply A) (s : State) → Calm s → Still (ask reply s)
  unfolding ask
  still_ask {A} reply s h = by_tape s.tape
    where
      by_reply : (rest : List Answer) (r : Reply A) → Still (replied r s (record s { tape = rest }))
      by_reply rest Unfit = h
      by_reply rest Fails = h
      by_reply rest (Fits x) = h

      by_tape : (tape : List Answer) → Still (asked reply tape s)
      by_tape [] = h
      by_tape (answer ∷ rest) = by_reply rest (reply answer)

  still_given : (signature : Signature) (results : List Value) (s : State) → Calm s → Still (given_by signature results s)
  unfolding ◌>>=◌ give fail look
  still_given signature results s h = by_test (may_give signature s.store.heap results)
    where
      by_test : (b : Bool) → Still ((if b then give results else fail) s)
      by_test true = h
      by_test false = h

  still_type : (v : Value) (s : State) → Calm s → Still (type_name v s)
  unfolding give
  still_type Nil s h = h
  still_type (Truth truth) s h = h
  still_type (Num text) s h = h
  still_type (Str bytes) s h = h
  still_type (Tab address) s h = h
  still_type (Lit home function cells) s h = h
  still_type (Builtin path) s h = h
  still_type (Other number) s h = still_ask other_kind s h

  still_frozen : (v : Value) (s : State) → Calm s → Still (frozen v s)
  unfolding ◌>>=◌ give fail look change
  still_frozen (Tab address) s h = by_test (is_frozen s.store.heap address)
    where
      by_test : (b : Bool) → Still (go_on ((if b then ask yes_or_fail else change (λ u. record u { heap = with_frozen address u.heap })) s) (λ (x : Unit {0}). give (Tab address)))
      by_test true = still_then (ask yes_or_fail s) (λ (x : Unit {0}). give (Tab address)) (still_ask yes_or_fail s h) (λ x t k. k)
      by_test false = h
  still_frozen Nil s h = h
  still_frozen (Truth truth) s h = h
  still_frozen (Num text) s h = h
  still_frozen (Str bytes) s h = h
  still_frozen (Lit home function cells) s h = h
  still_frozen (Builtin path) s h = h
  still_frozen (Other number) s h = h

  module _ (program : Program) (d : ℕ) where
    -- what is so of the layer of a depth
    abbrev CallsStill : Type 0
    CallsStill = (callee : Value) (args : List Value) (s : State) → Calm s → Still ((layer_of program d).call callee args s)

    abbrev ActsStill : Type 0
    ActsStill = (freedom : Freedom) (s : State) → Calm s → Still ((layer_of program d).acts freedom ForResults s)

    module _ (calls : CallsStill) (more : ActsStill) where
      called : (callee : Value) (args : List Value) (s : State) → Calm s → Still (◌>>=◌ step (λ (x : Unit {0}). (layer_of program d).call callee args) s)
      unfolding ◌>>=◌ step
      called callee args s h = still_then (step_of s.steps s) (λ (x : Unit {0}). (layer_of program d).call callee args) (still_step s.steps s h) (λ x t k. calls callee args t k)

      caught_call : (callee : Value) (args : List Value) (s : State) → Calm s → Still (◌>>=◌ step (λ (x : Unit {0}). catch ((layer_of program d).call callee args)) s)
      unfolding ◌>>=◌ step catch
      caught_call callee args s h = still_then (step_of s.steps s) (λ (x : Unit {0}). catch ((layer_of program d).call callee args)) (still_step s.steps s h)
          (λ x t k. still_caught ((layer_of program d).call callee args t) (calls callee args t k))

      write_still : (freedom : Freedom) (b : Bool) (t u : State) → Calm t → Calm u
          → Still (go_on (if b then Failed t else Gave tt u) (λ (x : Unit {0}). (layer_of program d).acts freedom ForResults))
      write_still freedom true t u h k = h
      write_still freedom false t u h k = more freedom u k

      move_still : (freedom : Freedom) (move : Move) (t : State) → Calm t → Still (acts_from (layer_of program d) freedom ForResults move t)
      unfolding ◌>>=◌ give look change write_field
      move_still freedom (Acts (Write table name value)) t k = write_still freedom (is_frozen t.store.heap table) t _ k k
      move_still freedom (Acts (Freeze table)) t k = more freedom _ k
      move_still freedom (Acts Make) t k = more freedom _ k
      move_still freedom (Acts (Calls callee args)) t k =
          still_then (go_on (◌>>=◌ step (λ (x : Unit {0}). (layer_of program d).call callee args) t) (λ (vs : List Value). give tt)) (λ (x : Unit {0}). (layer_of program d).acts freedom ForResults)
          (still_then (◌>>=◌ step (λ (x : Unit {0}). (layer_of program d).call callee args) t) (λ (vs : List Value). give tt) (called callee args t k) (λ vs u q. q)) (λ x u q. more freedom u q)
      move_still freedom (Acts (Catches callee args)) t k =
          still_then (go_on (◌>>=◌ step (λ (x : Unit {0}). catch ((layer_of program d).call callee args)) t) (λ (vs : Option (List Value)). give tt)) (λ (x : Unit {0}). (layer_of program d).acts freedom ForResults)
          (still_then (◌>>=◌ step (λ (x : Unit {0}). catch ((layer_of program d).call callee args)) t) (λ (vs : Option (List Value)). give tt) (caught_call callee args t k) (λ vs u q. q)) (λ x u q. more freedom u q)
      move_still freedom (Ends values) t k = k

      acts_still : (freedom : Freedom) (s : State) → Calm s → Still (acts program (layer_of program d) freedom ForResults s)
      unfolding ◌>>=◌ look acts
      acts_still freedom s h = still_then (ask (a_move program s.store freedom ForResults) s) (acts_from (layer_of program d) freedom ForResults)
          (still_ask (a_move program s.store freedom ForResults) s h) (λ move t k. move_still freedom move t k)

      meaning_still : (signature : Signature) (path : List ℕ) (args : List Value) (s : State) → Calm s → Still (meaning (layer_of program d) signature path args s)
      unfolding ◌>>=◌ look
      meaning_still signature path args s h = by_tests (bytes_eq path (codes "type")) (bytes_eq path (codes "table.freeze"))
        where
          by_tests : (b c : Bool) → Still ((if b then ◌>>=◌ (type_name (first args)) (λ v. given_by signature (v ∷ []))
              else (if c then ◌>>=◌ (frozen (first args)) (λ v. given_by signature (v ∷ [])) else free_builtin (layer_of program d) signature)) s)
          by_tests true c = still_then (type_name (first args) s) (λ v. given_by signature (v ∷ [])) (still_type (first args) s h) (λ v t k. still_given signature (v ∷ []) t k)
          by_tests false true = still_then (frozen (first args) s) (λ v. given_by signature (v ∷ [])) (still_frozen (first args) s h) (λ v t k. still_given signature (v ∷ []) t k)
          by_tests false false =
              still_then ((layer_of program d).acts (freedom_of signature (length s.store.heap)) ForResults s) (λ results. given_by signature (results_or_none results))
              (more (freedom_of signature (length s.store.heap)) s h) (λ results t k. still_given signature (results_or_none results) t k)

      declared_still : (o : Option Signature) (path : List ℕ) (args : List Value) (s : State) → Calm s → Still (declared_call (layer_of program d) o path args s)
      unfolding ◌>>=◌ fail spend look
      declared_still None path args s h = h
      declared_still (Some signature) path args s h = by_test (signature.checked && not (takes signature s.store.heap args))
        where
          by_test : (b : Bool) → Still ((if b then fail else meaning (layer_of program d) signature path args) s)
          by_test true = h
          by_test false = meaning_still signature path args s h

      call_still : (callee : Value) (args : List Value) (s : State) → Calm s → Still (call program (layer_of program d) callee args s)
      unfolding ◌>>=◌ give fail spend look call call_builtin
      call_still (Lit home function cells) args s h =
          subst (λ (closures : List Closure). Still (call_closure program (layer_of program d) cells (find (λ c. is_closure home function cells c.value) closures) args s)) (sym h.1) h
      call_still (Builtin path) args s h = declared_still (declaration program.builtins path) path args s h
      call_still (Other number) args s h = still_then ((layer_of program d).acts Free ForResults s) (λ results. give (results_or_none results)) (more Free s h) (λ results t k. k)
      call_still Nil args s h = h
      call_still (Truth truth) args s h = h
      call_still (Num text) args s h = h
      call_still (Str bytes) args s h = h
      call_still (Tab address) args s h = h

  -- no call and no acts, at whatever depth, log anything or make a closure
  pub still : (program : Program) (d : ℕ) → CallsStill program d × ActsStill program d
  unfolding spend
  still program zero = (λ callee args s h. h, λ freedom s h. h)
  still program (suc d) = let below : CallsStill program d × ActsStill program d = still program d in
      (call_still program d below.0 below.1, acts_still program d below.0 below.1)
