-- A call of a quiet builtin only adds tables.
use Rattle.std.proofs.Common.{◌≡◌, ◌≢◌, ℕ, zero, suc, ◌≤◌, Bool, true, false, not, ◌&&◌, if◌then◌else◌, List, [], ◌∷◌, length, Option, Some, None, refl, sym, subst, codes}
use Rattle.std.specs.Str.{bytes_eq}
use Rattle.std.proofs.lemmas.Slice.Eq.{bytes_eq-Decides}
use Rattle.std.proofs.lemmas.Bool.{leb-true}
use Rattle.luau_values.specs.Value.{Value, Nil, Truth, Num, Str, Tab, Lit, Builtin, Other}
use Rattle.luau_values.specs.Heap.{Heap, is_frozen}
use Rattle.luau_values.specs.Later.{Extends}
use Rattle.luau_values.proofs.Public.{extends_refl, extends_table, extends_fill}
use Rattle.luau_run.specs.Program.{Program}
use Rattle.luau_run.specs.Signature.{Signature, declaration, takes, may_give}
use Rattle.luau_run.specs.Machine.{Act, Write, Freeze, Make, Calls, Catches, Answer, One, Says, Fail, Turn, Stop, Does, Done, State, Ran, Gave, Failed, Spent, Part, Reply, Unfit, Fails, Fits, replied, asked, go_on, ◌>>=◌, give, fail, spend, look, change, ask, write_field}
use Rattle.luau_run.specs.Answers.{Quiet, ForResults, Move, Acts, Ends, fits_if, is_open, may_write, is_there, all_there, act_fits, a_move, other_kind}
use Rattle.luau_run.specs.Layer.{Layer, first}
use Rattle.luau_run.specs.Calls.{acts_from, acts, given_by, type_name, results_or_none, free_builtin, meaning, declared_call, call_builtin, call}
use Rattle.luau_run.specs.Run.{layer_of, end_of}

-- a part ends with the tables of a heap as they were
abbrev Kept : {A : Type 0} → Heap → Ran A → Type 0
Kept h ran = Extends h (end_of ran).store.heap

kept_on : {A B : Type 0} (h : Heap) (ran : Ran A) (next : A → Part B) → Kept h ran
    → ((a : A) (s : State) → Extends h s.store.heap → Kept h (next a s)) → Kept h (go_on ran next)
kept_on h (Gave a s) next k n = n a s k
kept_on h (Failed s) next k n = k
kept_on h (Spent s) next k n = k

kept_if : {A : Type 0} (h : Heap) (b : Bool) (p q : Part A) (s : State) → Kept h (p s) → Kept h (q s) → Kept h ((if b then p else q) s)
kept_if h true p q s k l = k
kept_if h false p q s k l = l

kept_unless : {A : Type 0} (h : Heap) (b : Bool) (s : State) (ran : Ran A) → Extends h s.store.heap → Kept h ran → Kept h (if b then Failed s else ran)
kept_unless h true s ran e k = e
kept_unless h false s ran e k = k

kept_reply : {A : Type 0} (h : Heap) (reply : Reply A) (s t : State) → Extends h s.store.heap → Extends h t.store.heap → Kept h (replied reply s t)
kept_reply h Unfit s t e f = e
kept_reply h Fails s t e f = f
kept_reply h (Fits said) s t e f = f

kept_ask : {A : Type 0} (h : Heap) (reply : Answer → Reply A) (tape : List Answer) (s : State) → Extends h s.store.heap → Kept h (asked reply tape s)
kept_ask h reply [] s e = e
kept_ask h reply (answer ∷ rest) s e = kept_reply h (reply answer) s _ e e

second_true : (a b c : Bool) → (a && b && c) ≡ true → b ≡ true
second_true true true c e = refl
second_true true false c e = cc
second_true false b c e = cc

never : (a : Bool) → (a && false) ≡ true → ⊥
never true e = cc
never false e = cc

module _ (program : Program) (h : Heap) (l : Layer) (later : (s : State) → Extends h s.store.heap → Kept h (l.acts (Quiet (length h)) ForResults s)) where
  kept_write : (table : ℕ) (name : List ℕ) (value : Value) (s : State) → Extends h s.store.heap → length h ≤ table → Kept h (write_field table name value s)
  unfolding write_field
  kept_write table name value s e le = kept_unless h (is_frozen s.store.heap table) s _ e (extends_fill h s.store.heap table name value e le)

  fitted : (b : Bool) (move : Move) (s t : State) → Extends h s.store.heap → (b ≡ true → Kept h (acts_from l (Quiet (length h)) ForResults move t))
      → Kept h (go_on (replied (fits_if b move) s t) (acts_from l (Quiet (length h)) ForResults))
  fitted true move s t e k = k refl
  fitted false move s t e k = e

  kept_act : (a : Act) (s t : State) → Extends h s.store.heap → Extends h t.store.heap
      → Kept h (go_on (replied (a_move program s.store (Quiet (length h)) ForResults (Does a)) s t) (acts_from l (Quiet (length h)) ForResults))
  unfolding ◌>>=◌ give look change
  kept_act (Write table name value) s t e f =
      fitted (act_fits program s.store (Quiet (length h)) (Write table name value)) (Acts (Write table name value)) s t e (λ fits.
      kept_on h (write_field table name value t) (λ x. l.acts (Quiet (length h)) ForResults)
      (kept_write table name value t f (leb-true (length h) table (second_true (is_open s.store table) (may_write (Quiet (length h)) table) (is_there program s.store value) fits)))
      (λ x u k. later u k))
  kept_act (Freeze table) s t e f =
      fitted (act_fits program s.store (Quiet (length h)) (Freeze table)) (Acts (Freeze table)) s t e (λ fits. absurd (never (is_open s.store table) fits))
  kept_act Make s t e f = later _ (extends_table h _ [] f)
  kept_act (Calls callee args) s t e f = e
  kept_act (Catches callee args) s t e f = e

  kept_answer : (answer : Answer) (s t : State) → Extends h s.store.heap → Extends h t.store.heap
      → Kept h (go_on (replied (a_move program s.store (Quiet (length h)) ForResults answer) s t) (acts_from l (Quiet (length h)) ForResults))
  unfolding give
  kept_answer (One v) s t e f = e
  kept_answer (Says b) s t e f = e
  kept_answer Fail s t e f = f
  kept_answer (Turn vs) s t e f = e
  kept_answer Stop s t e f = e
  kept_answer (Does a) s t e f = kept_act a s t e f
  kept_answer (Done vs) s t e f = fitted (all_there program s.store vs) (Ends (Some vs)) s t e (λ fits. f)

  kept_tape : (tape : List Answer) (s : State) → Extends h s.store.heap
      → Kept h (go_on (asked (a_move program s.store (Quiet (length h)) ForResults) tape s) (acts_from l (Quiet (length h)) ForResults))
  kept_tape [] s e = e
  kept_tape (answer ∷ rest) s e = kept_answer answer s _ e e

kept_acts : (program : Program) (depth : ℕ) (h : Heap) (s : State) → Extends h s.store.heap → Kept h ((layer_of program depth).acts (Quiet (length h)) ForResults s)
unfolding spend acts ask look ◌>>=◌
kept_acts program zero h s e = e
kept_acts program (suc depth) h s e = kept_tape program h (layer_of program depth) (kept_acts program depth h) s.tape s e

kept_given : (h : Heap) (signature : Signature) (results : List Value) (s : State) → Extends h s.store.heap → Kept h (given_by signature results s)
unfolding ◌>>=◌ look give fail
kept_given h signature results s e = kept_if h (may_give signature s.store.heap results) (give results) fail s e e

kept_type : (h : Heap) (v : Value) (s : State) → Extends h s.store.heap → Kept h (type_name v s)
unfolding give ask
kept_type h Nil s e = e
kept_type h (Truth b) s e = e
kept_type h (Num n) s e = e
kept_type h (Str b) s e = e
kept_type h (Tab a) s e = e
kept_type h (Lit k f c) s e = e
kept_type h (Builtin p) s e = e
kept_type h (Other k) s e = kept_ask h other_kind s.tape s e

kept_free : (program : Program) (depth : ℕ) (signature : Signature) (s : State) → signature.quiet ≡ true
    → Kept s.store.heap (free_builtin (layer_of program depth) signature s)
unfolding ◌>>=◌ look
kept_free program depth signature s q =
    rw q (kept_on s.store.heap ((layer_of program depth).acts (Quiet (length s.store.heap)) ForResults s) (λ results. given_by signature (results_or_none results))
    (kept_acts program depth s.store.heap s (extends_refl s.store.heap)) (λ results t k. kept_given s.store.heap signature (results_or_none results) t k))

unequal : (a b : List ℕ) → a ≢ b → bytes_eq a b ≡ false
unequal a b ne = elim (bytes_eq a b) as (λ t. bytes_eq a b ≡ t → t ≡ false) [ true ↦ λ e. absurd (ne ((bytes_eq-Decides a b).0 e)) | false ↦ λ e. refl ] refl

kept_meaning : (program : Program) (depth : ℕ) (signature : Signature) (path : List ℕ) (args : List Value) (s : State) → signature.quiet ≡ true
    → path ≢ codes "table.freeze" → Kept s.store.heap (meaning (layer_of program depth) signature path args s)
unfolding ◌>>=◌
kept_meaning program depth signature path args s q ne =
    rw (unequal path (codes "table.freeze") ne) (kept_if s.store.heap (bytes_eq path (codes "type"))
    (type_name (first args) >>= (λ v. given_by signature (v ∷ []))) (free_builtin (layer_of program depth) signature) s
    (kept_on s.store.heap (type_name (first args) s) (λ v. given_by signature (v ∷ []))
    (kept_type s.store.heap (first args) s (extends_refl s.store.heap)) (λ v t k. kept_given s.store.heap signature (v ∷ []) t k))
    (kept_free program depth signature s q))

kept_declared : (program : Program) (depth : ℕ) (o : Option Signature) (signature : Signature) (path : List ℕ) (args : List Value) (s : State)
    → o ≡ Some signature → signature.quiet ≡ true → path ≢ codes "table.freeze" → Kept s.store.heap (declared_call (layer_of program depth) o path args s)
unfolding ◌>>=◌ look fail
kept_declared program depth None signature path args s e q ne = cc
kept_declared program depth (Some declared) signature path args s e q ne =
    let k : declared ≡ signature = cc in
    let r : declared.quiet ≡ true = subst (λ (x : Signature). x.quiet ≡ true) (sym k) q in
    kept_if s.store.heap (declared.checked && not (takes declared s.store.heap args)) fail (meaning (layer_of program depth) declared path args) s
    (extends_refl s.store.heap) (kept_meaning program depth declared path args s r ne)

pub quiet_extends : (program : Program) (depth : ℕ) (path : List ℕ) (signature : Signature) (args : List Value) (s : State)
    → declaration program.builtins path ≡ Some signature → signature.quiet ≡ true → path ≢ codes "table.freeze"
    → Extends s.store.heap (end_of ((layer_of program depth).call (Builtin path) args s)).store.heap
unfolding spend call call_builtin
quiet_extends program zero path signature args s e q ne = extends_refl s.store.heap
quiet_extends program (suc depth) path signature args s e q ne = kept_declared program depth (declaration program.builtins path) signature path args s e q ne
