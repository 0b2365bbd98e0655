-- The operators are good parts.
use Rattle.std.proofs.Common.{ℕ, ◌&&◌, List, Option, refl}
use Rattle.luau_values.specs.Value.{Value, Nil, Truth, Num, Str, Tab, Lit, Builtin, Other, is_nil}
use Rattle.luau_values.specs.Heap.{Field}
use Rattle.luau_values.proofs.Public.{later_refl, table_later, freeze_later}
use Rattle.luau_tree.specs.declared.names.UnOp.{UnOp}
use Rattle.luau_tree.specs.declared.names.UnOp.TheVariants.{Minus, Not, Length}
use Rattle.luau_tree.specs.declared.names.BinOp.{BinOp}
use Rattle.luau_tree.specs.declared.names.BinOp.TheVariants.{Or, And, Less, Greater, LessEqual, GreaterEqual, NotEqual, Equal, Concat, Add, Sub, Mul, Div, FloorDiv, Mod, Pow}
use Rattle.luau_run.specs.Program.{Program}
use Rattle.luau_run.specs.Machine.{make_table, freeze_table, new_cell, set_cell, bind_local}
use Rattle.luau_run.specs.Operators.{Sort, NumberSort, StringSort, OtherSort, WrongSort, sort, anything, arithmetic_of, joined, ordered, equal, binary, negated, length_of, unary, field, any_value, Base, named_field, other_element, element, set_field}
use Rattle.luau_run.proofs.Good.{Good, good_give, good_fail, good_then, good_look, good_ask, good_change, good_write, good_if}

pub good_anything : (d : ℕ) (runs : Option ℕ) (program : Program) → Good d runs (anything program) (anything program)
unfolding anything
good_anything d runs program = good_then d runs _ _ _ _ (good_look d runs) (λ store. good_ask d runs _)

pub good_table : (d : ℕ) (runs : Option ℕ) (fields : List Field) → Good d runs (make_table fields) (make_table fields)
good_table d runs fields = good_then d runs _ _ _ _ (good_look d runs) (λ store. good_then d runs _ _ _ _
    (good_change d runs _ (λ s. table_later s.heap fields) (λ s. refl)) (λ x. good_give d runs _))

pub good_freeze : (d : ℕ) (runs : Option ℕ) (table : ℕ) → Good d runs (freeze_table table) (freeze_table table)
good_freeze d runs table = good_change d runs _ (λ s. freeze_later s.heap table) (λ s. refl)

pub good_new_cell : (d : ℕ) (runs : Option ℕ) (value : Value) → Good d runs (new_cell value) (new_cell value)
good_new_cell d runs value = good_then d runs _ _ _ _ (good_look d runs) (λ store. good_then d runs _ _ _ _
    (good_change d runs _ (λ s. later_refl s.heap) (λ s. refl)) (λ x. good_give d runs _))

pub good_set_cell : (d : ℕ) (runs : Option ℕ) (cell : ℕ) (value : Value) → Good d runs (set_cell cell value) (set_cell cell value)
good_set_cell d runs cell value = good_change d runs _ (λ s. later_refl s.heap) (λ s. refl)

pub good_bind : (d : ℕ) (runs : Option ℕ) (activation local cell : ℕ) → Good d runs (bind_local activation local cell) (bind_local activation local cell)
good_bind d runs activation local cell = good_change d runs _ (λ s. later_refl s.heap) (λ s. refl)

good_arithmetic : (d : ℕ) (runs : Option ℕ) (program : Program) (a b : Sort) → Good d runs (arithmetic_of program a b) (arithmetic_of program a b)
good_arithmetic d runs program NumberSort NumberSort = search (good_then, good_give, good_fail, good_ask, good_look, good_anything)
good_arithmetic d runs program NumberSort StringSort = search (good_then, good_give, good_fail, good_ask, good_look, good_anything)
good_arithmetic d runs program NumberSort OtherSort = search (good_then, good_give, good_fail, good_ask, good_look, good_anything)
good_arithmetic d runs program NumberSort WrongSort = search (good_then, good_give, good_fail, good_ask, good_look, good_anything)
good_arithmetic d runs program StringSort NumberSort = search (good_then, good_give, good_fail, good_ask, good_look, good_anything)
good_arithmetic d runs program StringSort StringSort = search (good_then, good_give, good_fail, good_ask, good_look, good_anything)
good_arithmetic d runs program StringSort OtherSort = search (good_then, good_give, good_fail, good_ask, good_look, good_anything)
good_arithmetic d runs program StringSort WrongSort = search (good_then, good_give, good_fail, good_ask, good_look, good_anything)
good_arithmetic d runs program OtherSort NumberSort = search (good_then, good_give, good_fail, good_ask, good_look, good_anything)
good_arithmetic d runs program OtherSort StringSort = search (good_then, good_give, good_fail, good_ask, good_look, good_anything)
good_arithmetic d runs program OtherSort OtherSort = search (good_then, good_give, good_fail, good_ask, good_look, good_anything)
good_arithmetic d runs program OtherSort WrongSort = search (good_then, good_give, good_fail, good_ask, good_look, good_anything)
good_arithmetic d runs program WrongSort NumberSort = search (good_then, good_give, good_fail, good_ask, good_look, good_anything)
good_arithmetic d runs program WrongSort StringSort = search (good_then, good_give, good_fail, good_ask, good_look, good_anything)
good_arithmetic d runs program WrongSort OtherSort = search (good_then, good_give, good_fail, good_ask, good_look, good_anything)
good_arithmetic d runs program WrongSort WrongSort = search (good_then, good_give, good_fail, good_ask, good_look, good_anything)

good_joined : (d : ℕ) (runs : Option ℕ) (program : Program) (a b : Sort) → Good d runs (joined program a b) (joined program a b)
good_joined d runs program NumberSort NumberSort = search (good_then, good_give, good_fail, good_ask, good_look, good_anything)
good_joined d runs program NumberSort StringSort = search (good_then, good_give, good_fail, good_ask, good_look, good_anything)
good_joined d runs program NumberSort OtherSort = search (good_then, good_give, good_fail, good_ask, good_look, good_anything)
good_joined d runs program NumberSort WrongSort = search (good_then, good_give, good_fail, good_ask, good_look, good_anything)
good_joined d runs program StringSort NumberSort = search (good_then, good_give, good_fail, good_ask, good_look, good_anything)
good_joined d runs program StringSort StringSort = search (good_then, good_give, good_fail, good_ask, good_look, good_anything)
good_joined d runs program StringSort OtherSort = search (good_then, good_give, good_fail, good_ask, good_look, good_anything)
good_joined d runs program StringSort WrongSort = search (good_then, good_give, good_fail, good_ask, good_look, good_anything)
good_joined d runs program OtherSort NumberSort = search (good_then, good_give, good_fail, good_ask, good_look, good_anything)
good_joined d runs program OtherSort StringSort = search (good_then, good_give, good_fail, good_ask, good_look, good_anything)
good_joined d runs program OtherSort OtherSort = search (good_then, good_give, good_fail, good_ask, good_look, good_anything)
good_joined d runs program OtherSort WrongSort = search (good_then, good_give, good_fail, good_ask, good_look, good_anything)
good_joined d runs program WrongSort NumberSort = search (good_then, good_give, good_fail, good_ask, good_look, good_anything)
good_joined d runs program WrongSort StringSort = search (good_then, good_give, good_fail, good_ask, good_look, good_anything)
good_joined d runs program WrongSort OtherSort = search (good_then, good_give, good_fail, good_ask, good_look, good_anything)
good_joined d runs program WrongSort WrongSort = search (good_then, good_give, good_fail, good_ask, good_look, good_anything)

good_ordered : (d : ℕ) (runs : Option ℕ) (a b : Sort) → Good d runs (ordered a b) (ordered a b)
good_ordered d runs NumberSort NumberSort = search (good_then, good_give, good_fail, good_ask, good_look, good_anything)
good_ordered d runs NumberSort StringSort = search (good_then, good_give, good_fail, good_ask, good_look, good_anything)
good_ordered d runs NumberSort OtherSort = search (good_then, good_give, good_fail, good_ask, good_look, good_anything)
good_ordered d runs NumberSort WrongSort = search (good_then, good_give, good_fail, good_ask, good_look, good_anything)
good_ordered d runs StringSort NumberSort = search (good_then, good_give, good_fail, good_ask, good_look, good_anything)
good_ordered d runs StringSort StringSort = search (good_then, good_give, good_fail, good_ask, good_look, good_anything)
good_ordered d runs StringSort OtherSort = search (good_then, good_give, good_fail, good_ask, good_look, good_anything)
good_ordered d runs StringSort WrongSort = search (good_then, good_give, good_fail, good_ask, good_look, good_anything)
good_ordered d runs OtherSort NumberSort = search (good_then, good_give, good_fail, good_ask, good_look, good_anything)
good_ordered d runs OtherSort StringSort = search (good_then, good_give, good_fail, good_ask, good_look, good_anything)
good_ordered d runs OtherSort OtherSort = search (good_then, good_give, good_fail, good_ask, good_look, good_anything)
good_ordered d runs OtherSort WrongSort = search (good_then, good_give, good_fail, good_ask, good_look, good_anything)
good_ordered d runs WrongSort NumberSort = search (good_then, good_give, good_fail, good_ask, good_look, good_anything)
good_ordered d runs WrongSort StringSort = search (good_then, good_give, good_fail, good_ask, good_look, good_anything)
good_ordered d runs WrongSort OtherSort = search (good_then, good_give, good_fail, good_ask, good_look, good_anything)
good_ordered d runs WrongSort WrongSort = search (good_then, good_give, good_fail, good_ask, good_look, good_anything)

good_equal : (d : ℕ) (runs : Option ℕ) (a b : Value) → Good d runs (equal a b) (equal a b)
good_equal d runs (Lit h f c) (Lit h2 f2 c2) = good_if d runs _ _ _ _ _ (good_ask d runs _) (good_give d runs _)
good_equal d runs Nil Nil = good_give d runs _
good_equal d runs Nil (Truth t2) = good_give d runs _
good_equal d runs Nil (Num n2) = good_give d runs _
good_equal d runs Nil (Str s2) = good_give d runs _
good_equal d runs Nil (Tab a2) = good_give d runs _
good_equal d runs Nil (Lit h2 f2 c2) = good_give d runs _
good_equal d runs Nil (Builtin p2) = good_give d runs _
good_equal d runs Nil (Other k2) = good_give d runs _
good_equal d runs (Truth t) Nil = good_give d runs _
good_equal d runs (Truth t) (Truth t2) = good_give d runs _
good_equal d runs (Truth t) (Num n2) = good_give d runs _
good_equal d runs (Truth t) (Str s2) = good_give d runs _
good_equal d runs (Truth t) (Tab a2) = good_give d runs _
good_equal d runs (Truth t) (Lit h2 f2 c2) = good_give d runs _
good_equal d runs (Truth t) (Builtin p2) = good_give d runs _
good_equal d runs (Truth t) (Other k2) = good_give d runs _
good_equal d runs (Num n) Nil = good_give d runs _
good_equal d runs (Num n) (Truth t2) = good_give d runs _
good_equal d runs (Num n) (Num n2) = good_ask d runs _
good_equal d runs (Num n) (Str s2) = good_give d runs _
good_equal d runs (Num n) (Tab a2) = good_give d runs _
good_equal d runs (Num n) (Lit h2 f2 c2) = good_give d runs _
good_equal d runs (Num n) (Builtin p2) = good_give d runs _
good_equal d runs (Num n) (Other k2) = good_give d runs _
good_equal d runs (Str s) Nil = good_give d runs _
good_equal d runs (Str s) (Truth t2) = good_give d runs _
good_equal d runs (Str s) (Num n2) = good_give d runs _
good_equal d runs (Str s) (Str s2) = good_give d runs _
good_equal d runs (Str s) (Tab a2) = good_give d runs _
good_equal d runs (Str s) (Lit h2 f2 c2) = good_give d runs _
good_equal d runs (Str s) (Builtin p2) = good_give d runs _
good_equal d runs (Str s) (Other k2) = good_give d runs _
good_equal d runs (Tab a) Nil = good_give d runs _
good_equal d runs (Tab a) (Truth t2) = good_give d runs _
good_equal d runs (Tab a) (Num n2) = good_give d runs _
good_equal d runs (Tab a) (Str s2) = good_give d runs _
good_equal d runs (Tab a) (Tab a2) = good_give d runs _
good_equal d runs (Tab a) (Lit h2 f2 c2) = good_give d runs _
good_equal d runs (Tab a) (Builtin p2) = good_give d runs _
good_equal d runs (Tab a) (Other k2) = good_give d runs _
good_equal d runs (Lit h f c) Nil = good_give d runs _
good_equal d runs (Lit h f c) (Truth t2) = good_give d runs _
good_equal d runs (Lit h f c) (Num n2) = good_give d runs _
good_equal d runs (Lit h f c) (Str s2) = good_give d runs _
good_equal d runs (Lit h f c) (Tab a2) = good_give d runs _
good_equal d runs (Lit h f c) (Builtin p2) = good_give d runs _
good_equal d runs (Lit h f c) (Other k2) = good_give d runs _
good_equal d runs (Builtin p) Nil = good_give d runs _
good_equal d runs (Builtin p) (Truth t2) = good_give d runs _
good_equal d runs (Builtin p) (Num n2) = good_give d runs _
good_equal d runs (Builtin p) (Str s2) = good_give d runs _
good_equal d runs (Builtin p) (Tab a2) = good_give d runs _
good_equal d runs (Builtin p) (Lit h2 f2 c2) = good_give d runs _
good_equal d runs (Builtin p) (Builtin p2) = good_give d runs _
good_equal d runs (Builtin p) (Other k2) = good_give d runs _
good_equal d runs (Other k) Nil = good_give d runs _
good_equal d runs (Other k) (Truth t2) = good_give d runs _
good_equal d runs (Other k) (Num n2) = good_give d runs _
good_equal d runs (Other k) (Str s2) = good_give d runs _
good_equal d runs (Other k) (Tab a2) = good_give d runs _
good_equal d runs (Other k) (Lit h2 f2 c2) = good_give d runs _
good_equal d runs (Other k) (Builtin p2) = good_give d runs _
good_equal d runs (Other k) (Other k2) = good_ask d runs _

pub good_binary : (d : ℕ) (runs : Option ℕ) (program : Program) (op : BinOp) (a b : Value) → Good d runs (binary program op a b) (binary program op a b)
good_binary d runs program Or a b = good_arithmetic d runs program (sort a) (sort b)
good_binary d runs program And a b = good_arithmetic d runs program (sort a) (sort b)
good_binary d runs program Less a b = good_ordered d runs (sort a) (sort b)
good_binary d runs program Greater a b = good_ordered d runs (sort a) (sort b)
good_binary d runs program LessEqual a b = good_ordered d runs (sort a) (sort b)
good_binary d runs program GreaterEqual a b = good_ordered d runs (sort a) (sort b)
good_binary d runs program NotEqual a b = good_then d runs _ _ _ _ (good_equal d runs a b) (λ x. good_give d runs _)
good_binary d runs program Equal a b = good_then d runs _ _ _ _ (good_equal d runs a b) (λ x. good_give d runs _)
good_binary d runs program Concat a b = good_joined d runs program (sort a) (sort b)
good_binary d runs program Add a b = good_arithmetic d runs program (sort a) (sort b)
good_binary d runs program Sub a b = good_arithmetic d runs program (sort a) (sort b)
good_binary d runs program Mul a b = good_arithmetic d runs program (sort a) (sort b)
good_binary d runs program Div a b = good_arithmetic d runs program (sort a) (sort b)
good_binary d runs program FloorDiv a b = good_arithmetic d runs program (sort a) (sort b)
good_binary d runs program Mod a b = good_arithmetic d runs program (sort a) (sort b)
good_binary d runs program Pow a b = good_arithmetic d runs program (sort a) (sort b)

good_negated : (d : ℕ) (runs : Option ℕ) (program : Program) (a : Sort) → Good d runs (negated program a) (negated program a)
good_negated d runs program NumberSort = good_ask d runs _
good_negated d runs program StringSort = good_ask d runs _
good_negated d runs program OtherSort = good_anything d runs program
good_negated d runs program WrongSort = good_fail d runs Value

good_length : (d : ℕ) (runs : Option ℕ) (program : Program) (a : Value) → Good d runs (length_of program a) (length_of program a)
good_length d runs program Nil = good_fail d runs Value
good_length d runs program (Truth t) = good_fail d runs Value
good_length d runs program (Num n) = good_fail d runs Value
good_length d runs program (Str s) = good_ask d runs _
good_length d runs program (Tab a) = good_ask d runs _
good_length d runs program (Lit h f c) = good_fail d runs Value
good_length d runs program (Builtin p) = good_fail d runs Value
good_length d runs program (Other k) = good_anything d runs program

pub good_unary : (d : ℕ) (runs : Option ℕ) (program : Program) (op : UnOp) (a : Value) → Good d runs (unary program op a) (unary program op a)
good_unary d runs program Minus a = good_negated d runs program (sort a)
good_unary d runs program Not a = good_give d runs _
good_unary d runs program Length a = good_length d runs program a

pub good_field : (d : ℕ) (runs : Option ℕ) (program : Program) (name : List ℕ) (a : Value) → Good d runs (field program name a) (field program name a)
good_field d runs program name Nil = good_fail d runs Value
good_field d runs program name (Truth t) = good_fail d runs Value
good_field d runs program name (Num n) = good_fail d runs Value
good_field d runs program name (Str s) = good_give d runs _
good_field d runs program name (Tab a) = good_then d runs _ _ _ _ (good_look d runs) (λ store. good_give d runs _)
good_field d runs program name (Lit h f c) = good_fail d runs Value
good_field d runs program name (Builtin p) = good_fail d runs Value
good_field d runs program name (Other k) = good_anything d runs program

pub good_any_value : (d : ℕ) (runs : Option ℕ) (program : Program) → Good d runs (any_value program) (any_value program)
good_any_value d runs program = good_then d runs _ _ _ _ (good_look d runs) (λ store. good_ask d runs _)

pub good_named_field : (d : ℕ) (runs : Option ℕ) (program : Program) (name : List ℕ) (base : Base) → Good d runs (named_field program name base) (named_field program name base)
good_named_field d runs program name base = good_then d runs _ _ _ _ (good_field d runs program name base.value)
    (λ found. good_if d runs (base.is_library && is_nil found) _ _ _ _ (good_any_value d runs program) (good_give d runs found))

good_other_element : (d : ℕ) (runs : Option ℕ) (program : Program) (a : Value) → Good d runs (other_element program a) (other_element program a)
good_other_element d runs program Nil = good_fail d runs Value
good_other_element d runs program (Truth t) = good_fail d runs Value
good_other_element d runs program (Num n) = good_fail d runs Value
good_other_element d runs program (Str s) = good_any_value d runs program
good_other_element d runs program (Tab a) = good_any_value d runs program
good_other_element d runs program (Lit h f c) = good_fail d runs Value
good_other_element d runs program (Builtin p) = good_fail d runs Value
good_other_element d runs program (Other k) = good_anything d runs program

pub good_element : (d : ℕ) (runs : Option ℕ) (program : Program) (key : Value) (base : Base) → Good d runs (element program key base) (element program key base)
good_element d runs program Nil base = good_other_element d runs program base.value
good_element d runs program (Truth t) base = good_other_element d runs program base.value
good_element d runs program (Num n) base = good_other_element d runs program base.value
good_element d runs program (Str s) base = good_named_field d runs program s base
good_element d runs program (Tab a) base = good_other_element d runs program base.value
good_element d runs program (Lit h f c) base = good_other_element d runs program base.value
good_element d runs program (Builtin p) base = good_other_element d runs program base.value
good_element d runs program (Other k) base = good_other_element d runs program base.value

pub good_set_field : (d : ℕ) (runs : Option ℕ) (name : List ℕ) (written a : Value) → Good d runs (set_field name written a) (set_field name written a)
good_set_field d runs name written Nil = good_fail d runs (Unit {0})
good_set_field d runs name written (Truth t) = good_fail d runs (Unit {0})
good_set_field d runs name written (Num n) = good_fail d runs (Unit {0})
good_set_field d runs name written (Str s) = good_fail d runs (Unit {0})
good_set_field d runs name written (Tab a) = good_write d runs a name written
good_set_field d runs name written (Lit h f c) = good_fail d runs (Unit {0})
good_set_field d runs name written (Builtin p) = good_fail d runs (Unit {0})
good_set_field d runs name written (Other k) = good_ask d runs _
