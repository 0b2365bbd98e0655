-- Which answers fit where a run asks.
use Rattle.std.specs.Prelude.{ℕ, Bool, true, false, not, ◌&&◌, ◌==◌, nat_lt, nat_le, List, [], ◌∷◌, length, Option, Some, None, is_some, codes}
use Rattle.std.specs.List.{list_any, list_all}
use Rattle.std.specs.Str.{bytes_eq}
use Rattle.luau_values.specs.Value.{Value, Num, Str, Tab, Lit, Builtin}
use Rattle.luau_values.specs.Heap.{is_frozen}
use Rattle.luau_run.specs.Program.{Program}
use Rattle.luau_run.specs.Signature.{declaration}
use Rattle.luau_run.specs.Machine.{Act, Write, Freeze, Make, Calls, Catches, Answer, One, Says, Fail, Turn, Stop, Does, Done, Store, Reply, Unfit, Fails, Fits}

-- whether two closures captured the same cells
abbrev pub same_cells : List (ℕ × ℕ) → List (ℕ × ℕ) → Bool
same_cells [] [] = true
same_cells (x ∷ xs) (y ∷ ys) = (x.0 == y.0) && (x.1 == y.1) && same_cells xs ys
same_cells _ _ = false

-- whether a value is this closure
abbrev pub is_closure : (home function : ℕ) → List (ℕ × ℕ) → Value → Bool
is_closure home function cells (Lit h f c) = (home == h) && (function == f) && same_cells cells c
is_closure home function cells _ = false

-- whether a value can be there by now: a table that is in the heap, a closure that was made, a
-- builtin that is declared, and any other
abbrev pub is_there : Program → Store → Value → Bool
is_there program store (Tab address) = nat_lt address (length store.heap)
is_there program store (Lit home function cells) = list_any (λ c. is_closure home function cells c.value) store.closures
is_there program store (Builtin path) = is_some (declaration program.builtins path)
is_there program store _ = true

-- whether all values can be there by now
abbrev pub all_there : Program → Store → List Value → Bool
all_there program store values = list_all (is_there program store) values

-- an answer that fits where a test says so
abbrev pub fits_if : {A : Type 0} → Bool → A → Reply A
fits_if true said = Fits said
fits_if false said = Unfit

-- any value
abbrev pub a_value : Program → Store → Answer → Reply Value
a_value program store (One v) = fits_if (is_there program store v) v
a_value program store _ = Unfit

-- any value, or a failure
abbrev pub value_or_fail : Program → Store → Answer → Reply Value
value_or_fail program store Fail = Fails
value_or_fail program store answer = a_value program store answer

-- a number
abbrev pub a_number : Answer → Reply Value
a_number (One (Num text)) = Fits (Num text)
a_number _ = Unfit

-- a number, or a failure where one may be
abbrev pub number_or_fail : (may_fail : Bool) → Answer → Reply Value
number_or_fail true Fail = Fails
number_or_fail may_fail answer = a_number answer

-- a string
abbrev pub a_string : Answer → Reply Value
a_string (One (Str bytes)) = Fits (Str bytes)
a_string _ = Unfit

-- yes or no
abbrev pub a_truth : Answer → Reply Bool
a_truth (Says truth) = Fits truth
a_truth _ = Unfit

-- yes, no or a failure
abbrev pub truth_or_fail : Answer → Reply Bool
truth_or_fail Fail = Fails
truth_or_fail answer = a_truth answer

-- yes, or a failure
abbrev pub yes_or_fail : Answer → Reply (Unit {0})
yes_or_fail (Says true) = Fits tt
yes_or_fail Fail = Fails
yes_or_fail _ = Unfit

-- what `type` says of what is none of the kinds with names of their own
abbrev pub is_other_kind : List ℕ → Bool
is_other_kind name = not (list_any (bytes_eq name) (codes "nil" ∷ codes "boolean" ∷ codes "number" ∷ codes "string" ∷ codes "function" ∷ []))

-- what `type` may say of what is `Other`
abbrev pub other_kind : Answer → Reply Value
other_kind (One (Str name)) = fits_if (is_other_kind name) (Str name)
other_kind _ = Unfit

-- one more turn with a number, or no more
abbrev pub a_number_turn : Answer → Reply (Option Value)
a_number_turn (Turn (Num text ∷ [])) = Fits (Some (Num text))
a_number_turn Stop = Fits None
a_number_turn _ = Unfit

-- one more turn with any values, or no more
abbrev pub a_turn : Program → Store → Answer → Reply (Option (List Value))
a_turn program store (Turn values) = fits_if (all_there program store values) (Some values)
a_turn program store Stop = Fits None
a_turn program store _ = Unfit

-- what acts end with: results of a call, or the values of a turn of a loop, or no more turns
pub data Aim : Type 0 where
  ForResults : Aim
  ForTurn : Aim

-- how free acts are: of a quiet builtin they only make tables and fill those that the same call
-- made, which stand from an address on
pub data Freedom : Type 0 where
  Free : Freedom
  Quiet : (from : ℕ) → Freedom

-- whether acts may call and freeze
abbrev pub may_call : Freedom → Bool
may_call Free = true
may_call (Quiet from) = false

-- whether acts may write to a table
abbrev pub may_write : Freedom → ℕ → Bool
may_write Free table = true
may_write (Quiet from) table = nat_le from table

-- whether a value is a closure or a builtin
abbrev pub is_function : Value → Bool
is_function (Lit home function cells) = true
is_function (Builtin path) = true
is_function _ = false

-- whether a table is there and isn't frozen
abbrev pub is_open : Store → ℕ → Bool
is_open store table = nat_lt table (length store.heap) && not (is_frozen store.heap table)

-- whether an act fits: its tables are there and not frozen, its values are there, and it is free
-- enough
abbrev pub act_fits : Program → Store → Freedom → Act → Bool
act_fits program store freedom (Write table name value) = is_open store table && may_write freedom table && is_there program store value
act_fits program store freedom (Freeze table) = is_open store table && may_call freedom
act_fits program store freedom Make = true
act_fits program store freedom (Calls callee args) = may_call freedom && is_function callee && all_there program store (callee ∷ args)
act_fits program store freedom (Catches callee args) = may_call freedom && is_function callee && all_there program store (callee ∷ args)

-- the next act, or what acts end with
pub data Move : Type 0 where
  Acts : (act : Act) → Move
  Ends : (values : Option (List Value)) → Move

-- an act that fits, a failure, or an end that fits the aim
abbrev pub a_move : Program → Store → Freedom → Aim → Answer → Reply Move
a_move program store freedom aim (Does act) = fits_if (act_fits program store freedom act) (Acts act)
a_move program store freedom aim Fail = Fails
a_move program store freedom ForResults (Done results) = fits_if (all_there program store results) (Ends (Some results))
a_move program store freedom ForTurn (Turn values) = fits_if (all_there program store values) (Ends (Some values))
a_move program store freedom ForTurn Stop = Fits (Ends None)
a_move program store freedom aim _ = Unfit
