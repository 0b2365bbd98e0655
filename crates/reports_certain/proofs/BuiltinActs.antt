-- Acts of builtins, forward: what they need stands, and what they end with.
use Rattle.std.proofs.Common.{◌≡◌, Bool, true, false, ◌&&◌, List, [], ◌∷◌, Option, Some, None, inl, refl, sym, subst, arith}
use Rattle.std.specs.List.{AllByRecursion}
use Rattle.luau_values.specs.Value.{Value, Nil, Truth, Num, Str, Tab, Lit, Builtin, Other}
use Rattle.luau_values.specs.Heap.{Heap, with_frozen}
use Rattle.luau_values.specs.Stands.{Stands}
use Rattle.luau_run.specs.Program.{Program}
use Rattle.luau_run.specs.Machine.{Act, Write, Freeze, Make, Calls, Catches, Answer, Does, One, Says as Tells, Fail, Turn, Stop, Done, Store, State, Fits, Part, ◌>>=◌, go_on, give, step, look, ask, catch, make_table, write_field, freeze_table}
use Rattle.luau_run.specs.Answers.{fits_if, is_there, all_there, is_open, may_write, may_call, is_function, act_fits, Aim, ForResults, ForTurn, Freedom, Move, Acts, Ends as EndsWith, a_move}
use Rattle.luau_run.specs.Layer.{Layer}
use Rattle.luau_run.specs.Calls.{act, acts_from, acts}
use Rattle.run_frame.specs.Analysis.{Analysis}
use Rattle.run_frame.proofs.World.{World}
use Rattle.run_frame.proofs.Kept.{MayMore, nobody}
use Rattle.run_frame.proofs.Fine.{Fine}
use Rattle.run_frame.proofs.Parts.{Ends, Same, Says, ends_so, ends_then, ends_more, ends_give, ends_ask, ends_step, ends_caught}
use Rattle.run_frame.proofs.Tables.{with_heap, IsMade, IsWritten, ends_table, ends_write, ends_freeze}
use Rattle.run_frame.proofs.Layers.{is_quiet, Answers}

-- ---- what is there stands

there_stands : (program : Program) (store : Store) (v : Value) → is_there program store v ≡ true → Stands store.heap v
there_stands program store Nil h = tt
there_stands program store (Truth truth) h = tt
there_stands program store (Num text) h = tt
there_stands program store (Str bytes) h = tt
there_stands program store (Tab address) h = grind arith
there_stands program store (Lit home function cells) h = tt
there_stands program store (Builtin path) h = tt
there_stands program store (Other number) h = tt

both_so : (a b : Bool) → a && b ≡ true → (a ≡ true) × (b ≡ true)
both_so true b e = (refl, e)
both_so false b e = cc

pub all_stand : (program : Program) (store : Store) (vs : List Value) → all_there program store vs ≡ true → AllByRecursion (Stands store.heap) vs
all_stand program store [] h = tt
all_stand program store (v ∷ vs) h =
    let p : (is_there program store v ≡ true) × (all_there program store vs ≡ true) = both_so (is_there program store v) (all_there program store vs) h in
    (there_stands program store v p.0, all_stand program store vs p.1)

pub fits_so : {A : Type 0} (b : Bool) (x y : A) → fits_if b x ≡ Fits y → (b ≡ true) × (x ≡ y)
fits_so true x y e = (refl, cc)
fits_so false x y e = cc

-- ---- acts

-- what an act needs of the store: what it writes, calls and is called with stands
abbrev ActStands : Heap → Act → Type 0
ActStands heap (Write table name value) = Stands heap value
ActStands heap (Freeze table) = Unit {0}
ActStands heap Make = Unit {0}
ActStands heap (Calls callee args) = Stands heap callee × AllByRecursion (Stands heap) args
ActStands heap (Catches callee args) = Stands heap callee × AllByRecursion (Stands heap) args

abbrev MoveStands : Heap → Move → Type 0
MoveStands heap (Acts a) = ActStands heap a
MoveStands heap (EndsWith None) = Unit {0}
MoveStands heap (EndsWith (Some values)) = AllByRecursion (Stands heap) values

third_so : (a b c : Bool) → a && b && c ≡ true → c ≡ true
third_so true true c e = e
third_so true false c e = cc
third_so false b c e = cc

act_stands : (program : Program) (s : State) (freedom : Freedom) (a : Act) → act_fits program s.store freedom a ≡ true → ActStands s.store.heap a
act_stands program s freedom (Write table name value) h =
    there_stands program s.store value (third_so (is_open s.store table) (may_write freedom table) (is_there program s.store value) h)
act_stands program s freedom (Freeze table) h = tt
act_stands program s freedom Make h = tt
act_stands program s freedom (Calls callee args) h =
    all_stand program s.store (callee ∷ args) (third_so (may_call freedom) (is_function callee) (all_there program s.store (callee ∷ args)) h)
act_stands program s freedom (Catches callee args) h =
    all_stand program s.store (callee ∷ args) (third_so (may_call freedom) (is_function callee) (all_there program s.store (callee ∷ args)) h)

move_stands : (program : Program) (s : State) (freedom : Freedom) (aim : Aim) (answer : Answer) (m : Move) → a_move program s.store freedom aim answer ≡ Fits m → MoveStands s.store.heap m
move_stands program s freedom aim (Does a) m e =
    let p : (act_fits program s.store freedom a ≡ true) × (Acts a ≡ m) = fits_so (act_fits program s.store freedom a) (Acts a) m e in
    subst (λ (n : Move). MoveStands s.store.heap n) p.1 (act_stands program s freedom a p.0)
move_stands program s freedom aim Fail m e = cc
move_stands program s freedom ForResults (Done results) m e =
    let p : (all_there program s.store results ≡ true) × (EndsWith (Some results) ≡ m) = fits_so (all_there program s.store results) (EndsWith (Some results)) m e in
    subst (λ (n : Move). MoveStands s.store.heap n) p.1 (all_stand program s.store results p.0)
move_stands program s freedom ForTurn (Done results) m e = cc
move_stands program s freedom ForTurn (Turn values) m e =
    let p : (all_there program s.store values ≡ true) × (EndsWith (Some values) ≡ m) = fits_so (all_there program s.store values) (EndsWith (Some values)) m e in
    subst (λ (n : Move). MoveStands s.store.heap n) p.1 (all_stand program s.store values p.0)
move_stands program s freedom ForResults (Turn values) m e = cc
move_stands program s freedom ForTurn Stop m e = subst (λ (n : Move). MoveStands s.store.heap n) (same e) (tt {0})
  where
    same : Fits (EndsWith None) ≡ Fits m → EndsWith None ≡ m
    same k = cc
move_stands program s freedom ForResults Stop m e = cc
move_stands program s freedom aim (One v) m e = cc
move_stands program s freedom aim (Tells b) m e = cc

-- a call that is not known to be calm is one that may do anything
may_nobody : (b : Bool) → MayMore (nobody b) (nobody false)
may_nobody b = record { runs = inl refl; assigns = λ x e. refl; binds = λ x e. e; calm = λ e. off e }
  where
    off : {P : Type 0} → false ≡ true → P
    off e = cc

-- what acts end with stands
abbrev pub ActsGive : Option (List Value) → State → Type 0
ActsGive ended t = (vs : List Value) → ended ≡ Some vs → AllByRecursion (Stands t.store.heap) vs

-- what is said of the acts of a layer, and of its calls
abbrev pub ActsEnd : Analysis → Layer → Type 0
ActsEnd an l = (w : World) (s : State) (freedom : Freedom) (aim : Aim) → Fine an w s → Ends an (nobody false) w s ActsGive (l.acts freedom aim s)

abbrev pub CallsEnd : Analysis → Layer → Type 0
CallsEnd an l = (w : World) (s : State) (callee : Value) (args : List Value) → Fine an w s → Stands s.store.heap callee → AllByRecursion (Stands s.store.heap) args
    → Ends an (nobody (is_quiet an.program callee)) w s (Answers an callee args s) (l.call callee args s)

module _ (an : Analysis) (l : Layer) (calls : CallsEnd an l) (acts_end : ActsEnd an l) where
  called : (v : World) (t : State) (callee : Value) (args : List Value) → Fine an v t → Stands t.store.heap callee → AllByRecursion (Stands t.store.heap) args
      → Ends an (nobody false) v t (λ vs u. Unit {0}) (l.call callee args t)
  called v t callee args g there all = ends_more an (nobody (is_quiet an.program callee)) (nobody false) v t (λ vs u. Unit {0}) (l.call callee args t) (may_nobody (is_quiet an.program callee))
      (ends_so an (nobody (is_quiet an.program callee)) v t (Answers an callee args t) (λ vs u. Unit {0}) (l.call callee args t) (λ vs u z e h j q. tt) (calls v t callee args g there all))

  -- a call takes its step
  stepped : {A : Type 0} (w : World) (s : State) (callee : Value) (args : List Value) (part : Part A) → Fine an w s → Stands s.store.heap callee → AllByRecursion (Stands s.store.heap) args
      → ((v : World) (t : State) → Fine an v t → Stands t.store.heap callee → AllByRecursion (Stands t.store.heap) args → Ends an (nobody false) v t (λ y u. Unit {0}) (part t))
      → Ends an (nobody false) w s (λ y u. Unit {0}) (go_on (step s) (λ x. part))
  stepped w s callee args part f there all next = ends_then an (nobody false) w s (λ x t. Same s t) (λ y u. Unit {0}) (step s) (λ x. part) (ends_step an (nobody false) w s f)
      (λ x t v g k p. next v t g (subst (λ (y : Store). Stands y.heap callee) (sym p.0) there) (subst (λ (y : Store). AllByRecursion (Stands y.heap) args) (sym p.0) all))

  act_ends : (w : World) (s : State) (a : Act) → Fine an w s → ActStands s.store.heap a → Ends an (nobody false) w s (λ x t. Unit {0}) (act l a s)
  unfolding ◌>>=◌ catch
  act_ends w s (Write table name value) f there =
      ends_so an (nobody false) w s (λ x t. IsWritten table name value s t) (λ x t. Unit {0}) (write_field table name value s) (λ x t v e g k p. tt)
      (ends_write an (nobody false) w s table name value refl f there)
  act_ends w s (Freeze table) f there =
      ends_so an (nobody false) w s (λ x t. t ≡ with_heap (with_frozen table s.store.heap) s) (λ x t. Unit {0}) (freeze_table table s) (λ x t v e g k p. tt)
      (ends_freeze an (nobody false) w s table f)
  act_ends w s Make f there =
      ends_then an (nobody false) w s (IsMade [] s) (λ x t. Unit {0}) (make_table [] s) (λ x. give tt) (ends_table an (nobody false) w s [] f (λ name. tt))
      (λ x t v g k p. ends_give an (nobody false) v t (λ x t. Unit {0}) (tt {0}) g tt)
  act_ends w s (Calls callee args) f there =
      ends_then an (nobody false) w s (λ vs u. Unit {0}) (λ x t. Unit {0}) (go_on (step s) (λ x. l.call callee args)) (λ y. give tt)
      (stepped w s callee args (l.call callee args) f there.0 there.1 (λ v t g here all. called v t callee args g here all))
      (λ y u z h j q. ends_give an (nobody false) z u (λ x t. Unit {0}) (tt {0}) h tt)
  act_ends w s (Catches callee args) f there =
      ends_then an (nobody false) w s (λ vs u. Unit {0}) (λ x t. Unit {0}) (go_on (step s) (λ x. catch (l.call callee args))) (λ y. give tt)
      (stepped w s callee args (catch (l.call callee args)) f there.0 there.1
      (λ v t g here all. ends_caught an (nobody false) v t (λ vs u. Unit {0}) (l.call callee args t) (called v t callee args g here all)))
      (λ y u z h j q. ends_give an (nobody false) z u (λ x t. Unit {0}) (tt {0}) h tt)

  moves_end : (w : World) (s : State) (freedom : Freedom) (aim : Aim) (m : Move) → Fine an w s → MoveStands s.store.heap m → Ends an (nobody false) w s ActsGive (acts_from l freedom aim m s)
  unfolding ◌>>=◌
  moves_end w s freedom aim (Acts a) f there =
      ends_then an (nobody false) w s (λ x t. Unit {0}) ActsGive (act l a s) (λ x. l.acts freedom aim) (act_ends w s a f there) (λ x t v g k p. acts_end v t freedom aim g)
  moves_end w s freedom aim (EndsWith None) f there = ends_give an (nobody false) w s ActsGive None f (λ vs e. cc)
  moves_end w s freedom aim (EndsWith (Some values)) f there =
      ends_give an (nobody false) w s ActsGive (Some values) f (λ vs e. subst (λ (xs : List Value). AllByRecursion (Stands s.store.heap) xs) (same vs e) there)
    where
      same : (vs : List Value) → Some values ≡ Some vs → values ≡ vs
      same vs e = cc

  -- acts up to their end, over a layer below
  pub acts_forward : (w : World) (s : State) (freedom : Freedom) (aim : Aim) → Fine an w s → Ends an (nobody false) w s ActsGive (acts an.program l freedom aim s)
  unfolding acts ◌>>=◌ look
  acts_forward w s freedom aim f =
      ends_then an (nobody false) w s (λ m t. Same s t × Says (a_move an.program s.store freedom aim) m) ActsGive (ask (a_move an.program s.store freedom aim) s) (acts_from l freedom aim)
      (ends_ask an (nobody false) w s (a_move an.program s.store freedom aim) f)
      (λ m t v g k p. moves_end v t freedom aim m g (subst (λ (y : Store). MoveStands y.heap m) (sym p.0.0)
      (move_stands an.program s freedom aim p.1.0 m p.1.1)))
