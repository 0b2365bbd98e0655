-- A call of `table.freeze` only freezes a table; so a call of any quiet builtin only makes and freezes tables.
use Rattle.std.proofs.Common.{◌≡◌, ℕ, zero, suc, Bool, true, false, not, ◌&&◌, if◌then◌else◌, List, [], ◌∷◌, Option, Some, None, refl, sym, ◌∙◌, subst, codes, true≢false}
use Rattle.std.specs.Str.{bytes_eq}
use Rattle.std.proofs.lemmas.Slice.Eq.{bytes_eq-Decides}
use Rattle.luau_values.specs.Value.{Value, Nil, Truth, Num, Str, Tab, Lit, Builtin, Other}
use Rattle.luau_values.specs.Heap.{Heap, is_frozen}
use Rattle.luau_values.specs.Grows.{Grows}
use Rattle.luau_values.proofs.Public.{grows_refl, freeze_grows, extends_grows}
use Rattle.luau_run.specs.Signature.{Signature, declaration, takes, may_give}
use Rattle.luau_run.specs.Program.{Program}
use Rattle.luau_run.specs.Machine.{Answer, State, Ran, Gave, Failed, Spent, Part, Reply, Unfit, Fails, Fits, replied, asked, go_on, ◌>>=◌, give, fail, spend, look, change, ask, freeze_table}
use Rattle.luau_run.specs.Answers.{yes_or_fail}
use Rattle.luau_run.specs.Layer.{Layer, first}
use Rattle.luau_run.specs.Calls.{given_by, frozen, meaning, declared_call, call_builtin, call}
use Rattle.luau_run.specs.Run.{layer_of, end_of}
use Rattle.luau_run.proofs.QuietFacts.{quiet_extends}

-- a part ends with a heap that grew from this one
abbrev Grown : {A : Type 0} → Heap → Ran A → Type 0
Grown h ran = Grows h (end_of ran).store.heap

grown_on : {A B : Type 0} (h : Heap) (ran : Ran A) (next : A → Part B) → Grown h ran
    → ((a : A) (s : State) → Grows h s.store.heap → Grown h (next a s)) → Grown h (go_on ran next)
grown_on h (Gave a s) next k n = n a s k
grown_on h (Failed s) next k n = k
grown_on h (Spent s) next k n = k

grown_if : {A : Type 0} (h : Heap) (b : Bool) (p q : Part A) (s : State) → Grown h (p s) → Grown h (q s) → Grown h ((if b then p else q) s)
grown_if h true p q s k l = k
grown_if h false p q s k l = l

grown_reply : {A : Type 0} (h : Heap) (reply : Reply A) (s t : State) → Grows h s.store.heap → Grows h t.store.heap → Grown h (replied reply s t)
grown_reply h Unfit s t e f = e
grown_reply h Fails s t e f = f
grown_reply h (Fits said) s t e f = f

grown_ask : {A : Type 0} (h : Heap) (reply : Answer → Reply A) (tape : List Answer) (s : State) → Grows h s.store.heap → Grown h (asked reply tape s)
grown_ask h reply [] s e = e
grown_ask h reply (answer ∷ rest) s e = grown_reply h (reply answer) s _ e e

grown_given : (h : Heap) (signature : Signature) (results : List Value) (s : State) → Grows h s.store.heap → Grown h (given_by signature results s)
unfolding ◌>>=◌ look give fail
grown_given h signature results s e = grown_if h (may_give signature s.store.heap results) (give results) fail s e e

grown_frozen : (v : Value) (s : State) → Grown s.store.heap (frozen v s)
unfolding ◌>>=◌ look give fail change ask
grown_frozen (Tab a) s =
    grown_on s.store.heap ((if is_frozen s.store.heap a then ask yes_or_fail else freeze_table a) s) (λ x. give (Tab a))
    (grown_if s.store.heap (is_frozen s.store.heap a) (ask yes_or_fail) (freeze_table a) s
    (grown_ask s.store.heap yes_or_fail s.tape s (grows_refl s.store.heap)) (freeze_grows s.store.heap a))
    (λ x t k. k)
grown_frozen Nil s = grows_refl s.store.heap
grown_frozen (Truth b) s = grows_refl s.store.heap
grown_frozen (Num n) s = grows_refl s.store.heap
grown_frozen (Str b) s = grows_refl s.store.heap
grown_frozen (Lit m f c) s = grows_refl s.store.heap
grown_frozen (Builtin p) s = grows_refl s.store.heap
grown_frozen (Other n) s = grows_refl s.store.heap

grown_declared : (layer : Layer) (o : Option Signature) (args : List Value) (s : State) → Grown s.store.heap (declared_call layer o (codes "table.freeze") args s)
unfolding ◌>>=◌ look fail spend
grown_declared layer None args s = grows_refl s.store.heap
grown_declared layer (Some signature) args s =
    grown_if s.store.heap (signature.checked && not (takes signature s.store.heap args)) fail (meaning layer signature (codes "table.freeze") args) s
    (grows_refl s.store.heap)
    (grown_on s.store.heap (frozen (first args) s) (λ v. given_by signature (v ∷ [])) (grown_frozen (first args) s)
    (λ v t k. grown_given s.store.heap signature (v ∷ []) t k))

pub freeze_call_grows : (program : Program) (depth : ℕ) (args : List Value) (s : State)
    → Grows s.store.heap (end_of ((layer_of program depth).call (Builtin (codes "table.freeze")) args s)).store.heap
unfolding spend call call_builtin
freeze_call_grows program zero args s = grows_refl s.store.heap
freeze_call_grows program (suc depth) args s = grown_declared (layer_of program depth) (declaration program.builtins (codes "table.freeze")) args s

pub quiet_grows : (program : Program) (depth : ℕ) (path : List ℕ) (signature : Signature) (args : List Value) (s : State)
    → declaration program.builtins path ≡ Some signature → signature.quiet ≡ true
    → Grows s.store.heap (end_of ((layer_of program depth).call (Builtin path) args s)).store.heap
quiet_grows program depth path signature args s e q =
    elim (bytes_eq path (codes "table.freeze")) as (λ b. bytes_eq path (codes "table.freeze") ≡ b → Grows s.store.heap (end_of ((layer_of program depth).call (Builtin path) args s)).store.heap) [
      | true ↦ λ t. subst (λ p. Grows s.store.heap (end_of ((layer_of program depth).call (Builtin p) args s)).store.heap)
          (sym ((bytes_eq-Decides path (codes "table.freeze")).0 t)) (freeze_call_grows program depth args s)
      | false ↦ λ f. extends_grows s.store.heap _
          (quiet_extends program depth path signature args s e q (λ same. true≢false (sym ((bytes_eq-Decides path (codes "table.freeze")).1 same) ∙ f)))
    ] refl
