-- What calls of checked builtins do, and what answers that don't fit do.
use Rattle.std.proofs.Common.{◌≡◌, ℕ, true, false, List, [], ◌∷◌, Option, Some, None, refl, sym, subst}
use Rattle.luau_values.specs.Value.{Value}
use Rattle.luau_run.specs.Signature.{Signature, declaration, takes}
use Rattle.luau_run.specs.Program.{Program}
use Rattle.luau_run.specs.Machine.{Answer, State, Failed, Spent, Reply, Unfit, asked, ask, ◌>>=◌, fail, look}
use Rattle.luau_run.specs.Layer.{Layer}
use Rattle.luau_run.specs.Calls.{declared_call, call_builtin}

checked_fails : (layer : Layer) (o : Option Signature) (signature : Signature) (path : List ℕ) (args : List Value) (state : State)
    → o ≡ Some signature → signature.checked ≡ true → takes signature state.store.heap args ≡ false → declared_call layer o path args state ≡ Failed state
unfolding ◌>>=◌ look fail
checked_fails layer None signature path args state e c t = cc
checked_fails layer (Some declared) signature path args state e c t =
    let k : declared ≡ signature = cc in
    subst (λ (x : Signature). declared_call layer (Some x) path args state ≡ Failed state) (sym k) (rw (c, t) refl)

pub checked_call_fails : (program : Program) (layer : Layer) (path : List ℕ) (signature : Signature) (args : List Value) (state : State)
    → declaration program.builtins path ≡ Some signature → signature.checked ≡ true → takes signature state.store.heap args ≡ false
    → call_builtin program layer path args state ≡ Failed state
unfolding call_builtin
checked_call_fails program layer path signature args state e c t =
    checked_fails layer (declaration program.builtins path) signature path args state e c t

unfit : {A : Type 0} (reply : Answer → Reply A) (tape : List Answer) (answer : Answer) (rest : List Answer) (state : State)
    → tape ≡ answer ∷ rest → reply answer ≡ Unfit → asked reply tape state ≡ Spent state
unfit reply [] answer rest state e u = cc
unfit reply (a ∷ tape) answer rest state e u =
    let k : answer ≡ a = cc in
    let v : reply a ≡ Unfit = subst (λ (x : Answer). reply x ≡ Unfit) k u in
    rw v refl

pub unfit_spends : {A : Type 0} (reply : Answer → Reply A) (answer : Answer) (rest : List Answer) (state : State)
    → state.tape ≡ answer ∷ rest → reply answer ≡ Unfit → ask reply state ≡ Spent state
unfolding ask
unfit_spends reply answer rest state e u = unfit reply state.tape answer rest state e u
