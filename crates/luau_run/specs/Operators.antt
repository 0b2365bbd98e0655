-- What operators do with values. An operand of a failing kind fails; otherwise what the rules leave
-- open is asked for.
use Rattle.std.specs.Prelude.{ℕ, Bool, true, false, not, ◌&&◌, ◌==◌, if◌then◌else◌, List, ◌++◌, is_some, codes}
use Rattle.std.specs.Bool.{beq}
use Rattle.std.specs.Str.{bytes_eq}
use Rattle.luau_values.specs.Value.{Value, Nil, Truth, Num, Str, Tab, Lit, Builtin, Other, is_nil}
use Rattle.luau_values.specs.Heap.{field_of}
use Rattle.luau_tree.specs.declared.names.UnOp.{UnOp}
use Rattle.luau_tree.specs.declared.names.UnOp.TheVariants.{Minus, Not, Length}
use Rattle.luau_tree.specs.declared.names.BinOp.{BinOp}
use Rattle.luau_tree.specs.declared.names.BinOp.TheVariants.{Less, Greater, LessEqual, GreaterEqual, NotEqual, Equal, Concat}
use Rattle.luau_run.specs.Program.{Program}
use Rattle.luau_run.specs.Signature.{declaration}
use Rattle.luau_run.specs.Machine.{Part, ◌>>=◌, give, fail, look, ask, write_field}
use Rattle.luau_run.specs.Answers.{a_value, value_or_fail, a_number, number_or_fail, a_string, a_truth, truth_or_fail, yes_or_fail}

-- whether a value counts as true in conditions: nil and false alone don't
abbrev pub is_true : Value → Bool
is_true Nil = false
is_true (Truth truth) = truth
is_true _ = true

-- how a value stands to arithmetic
pub data Sort : Type 0 where
  NumberSort : Sort
  StringSort : Sort
  OtherSort : Sort
  -- nil, a boolean, a function or a table
  WrongSort : Sort

-- the sort of a value
abbrev pub sort : Value → Sort
sort (Num text) = NumberSort
sort (Str bytes) = StringSort
sort (Other number) = OtherSort
sort _ = WrongSort

-- any value or a failure, as an operation on an `Other` gives
unfoldable pub anything : Program → Part Value
anything program = do
  store ← look
  ask (value_or_fail program store)

-- arithmetic: two numbers give a number; where a string is among the two it may fail
abbrev pub arithmetic_of : Program → Sort → Sort → Part Value
arithmetic_of program OtherSort right = anything program
arithmetic_of program left OtherSort = anything program
arithmetic_of program NumberSort NumberSort = ask (number_or_fail false)
arithmetic_of program NumberSort StringSort = ask (number_or_fail true)
arithmetic_of program StringSort NumberSort = ask (number_or_fail true)
arithmetic_of program StringSort StringSort = ask (number_or_fail true)
arithmetic_of program _ _ = fail

-- `..`
abbrev pub joined : Program → Sort → Sort → Part Value
joined program OtherSort right = anything program
joined program left OtherSort = anything program
joined program WrongSort right = fail
joined program left WrongSort = fail
joined program left right = ask a_string

-- an order of two numbers or of two strings; with an `Other` it may fail
abbrev pub ordered : Sort → Sort → Part Value
ordered OtherSort right = ask truth_or_fail >>= (λ truth. give (Truth truth))
ordered left OtherSort = ask truth_or_fail >>= (λ truth. give (Truth truth))
ordered NumberSort NumberSort = ask a_truth >>= (λ truth. give (Truth truth))
ordered StringSort StringSort = ask a_truth >>= (λ truth. give (Truth truth))
ordered _ _ = fail

-- whether two values are equal: of two numbers, of two that are `Other`, and of two closures of one
-- literal the tape says it
abbrev pub equal : Value → Value → Part Bool
equal (Num a) (Num b) = ask a_truth
equal (Other a) (Other b) = ask a_truth
equal (Lit home function cells) (Lit h f c) = if (home == h) && (function == f) then ask a_truth else give false
equal Nil Nil = give true
equal (Truth a) (Truth b) = give (beq a b)
equal (Str a) (Str b) = give (bytes_eq a b)
equal (Tab a) (Tab b) = give (a == b)
equal (Builtin a) (Builtin b) = give (bytes_eq a b)
equal _ _ = give false

-- a binary operation on two values; `and` and `or` are no such operations
abbrev pub binary : Program → BinOp → Value → Value → Part Value
binary program Concat left right = joined program (sort left) (sort right)
binary program Equal left right = equal left right >>= (λ same. give (Truth same))
binary program NotEqual left right = equal left right >>= (λ same. give (Truth (not same)))
binary program Less left right = ordered (sort left) (sort right)
binary program Greater left right = ordered (sort left) (sort right)
binary program LessEqual left right = ordered (sort left) (sort right)
binary program GreaterEqual left right = ordered (sort left) (sort right)
binary program _ left right = arithmetic_of program (sort left) (sort right)

-- unary minus
abbrev pub negated : Program → Sort → Part Value
negated program NumberSort = ask (number_or_fail false)
negated program StringSort = ask (number_or_fail true)
negated program OtherSort = anything program
negated program WrongSort = fail

-- `#`
abbrev pub length_of : Program → Value → Part Value
length_of program (Str bytes) = ask a_number
length_of program (Tab address) = ask a_number
length_of program (Other number) = anything program
length_of program _ = fail

-- a unary operation on a value
abbrev pub unary : Program → UnOp → Value → Part Value
unary program Minus value = negated program (sort value)
unary program Not value = give (Truth (not (is_true value)))
unary program Length value = length_of program value

-- the builtin `string.NAME` where it is declared, and else nil
abbrev pub string_field : Program → List ℕ → Value
string_field program name =
    if is_some (declaration program.builtins (codes "string." ++ name)) then Builtin (codes "string." ++ name) else Nil

-- the named field of a value
abbrev pub field : Program → List ℕ → Value → Part Value
field program name (Tab address) = look >>= (λ store. give (field_of store.heap address name))
field program name (Str bytes) = give (string_field program name)
field program name (Other number) = anything program
field program name _ = fail

-- any value that can be there by now
abbrev pub any_value : Program → Part Value
any_value program = look >>= (λ store. ask (a_value program store))

-- what an expression gave whose field or element is read or written, and whether the expression is
-- a library's name
pub record Base : Type 0 where
  pub value : Value
  pub is_library : Bool

-- what a name reads as off a base: the field; but where the base is a library's name, and nothing
-- is declared there, any value. So it is in every form: `math.zz`, `math:zz()`, `math["zz"]`, a
-- computed key, the read of a compound
abbrev pub named_field : Program → List ℕ → Base → Part Value
named_field program name base = do
  found ← field program name base.value
  if base.is_library && is_nil found then any_value program else give found

-- what stands in a value under a key that is no string
abbrev pub other_element : Program → Value → Part Value
other_element program (Tab address) = any_value program
other_element program (Str bytes) = any_value program
other_element program (Other number) = anything program
other_element program _ = fail

-- what stands in a base under a key; only a string is a name
abbrev pub element : Program → (key : Value) → Base → Part Value
element program (Str name) base = named_field program name base
element program key base = other_element program base.value

-- a write to a field
abbrev pub set_field : List ℕ → (written value : Value) → Part (Unit {0})
set_field name written (Tab address) = write_field address name written
set_field name written (Other number) = ask yes_or_fail
set_field name written _ = fail
