-- Values that tell one type from another: of a type, and not of the other, in every heap.
use Rattle.std.specs.Prelude.{◌≡◌, ℕ, zero, suc, max, Bool, true, false, not, ◌&&◌, List, [], ◌∷◌, ◌++◌, length, replicate, Option, Some, None, if◌then◌else◌}
use Rattle.std.specs.Option.{option_map}
use Rattle.std.specs.declared.cmp.Ordering.{Ordering}
use Rattle.type_arena.specs.Term.{Members, only, all_but, Function, builtin, literal, Free, Term, term, Rows, no_rows, more_rows, no_fields}
use Rattle.type_arena.specs.declared.node.FnName.{FnName}
use Rattle.type_arena.specs.declared.node.FnName.TheVariants.{Builtin, Literal}
use Rattle.type_arena.specs.contracts.node.FnNameOrd.TheImpl as FnNameOrd
use Rattle.luau_values.specs.Value as values
use Rattle.luau_values.specs.Value.{Value}
use Rattle.type_normal.specs.Free.{name_cmp, function_cmp}
use Rattle.type_normal.specs.Members.{has_member, is_member}
use Rattle.subtype_check.specs.declared.samples.Sample.{Sample}
use Rattle.subtype_check.specs.declared.samples.Sample.TheVariants as samples

-- the first member of a list that passes a test
abbrev pub first_that : {X : Type 0} → (X → Bool) → List X → Option X
first_that test [] = None
first_that test (x ∷ xs) = if test x then Some x else first_that test xs

-- a member of the one set that isn't in the other: the first where they are finitely many, and else a fresh one, which
-- neither list has
abbrev pub member_apart : {X : Type 0} → (X → X → Ordering) → (List X → X) → Members X → Members X → Option X
member_apart cmp fresh (only xs) set = first_that (λ x. not (is_member cmp x set)) xs
member_apart cmp fresh (all_but xs) (all_but ys) = first_that (λ y. not (has_member cmp y xs)) ys
member_apart cmp fresh (all_but xs) (only ys) = Some (fresh (xs ++ ys))

-- as many letters `x`
abbrev pub letters : ℕ → List ℕ
letters n = replicate n 120

-- the shortest text of letters `x` that passes a test, of those with so many letters or more, where one passes that has at
-- most as many more
abbrev pub shortest : (List ℕ → Bool) → ℕ → ℕ → List ℕ
shortest test zero n = letters n
shortest test (suc more) n = if test (letters n) then letters n else shortest test more (suc n)

-- how long the longest of some texts is
abbrev pub longest : List (List ℕ) → ℕ
longest [] = 0
longest (text ∷ texts) = max (length text) (longest texts)

-- the paths of the builtins among some functions
abbrev pub path_of : Function → List ℕ
path_of (builtin path) = path
path_of (literal home number) = []

abbrev pub paths_of : List Function → List (List ℕ)
paths_of [] = []
paths_of (function ∷ functions) = path_of function ∷ paths_of functions

-- the shortest text of letters `x` that isn't among some
abbrev pub fresh_text : List (List ℕ) → List ℕ
fresh_text taken = shortest (λ text. not (has_member name_cmp text taken)) (suc (longest taken)) 0

-- the builtin with the shortest name of one letter `x` or more that isn't among some functions
abbrev pub fresh_function : List Function → Function
fresh_function taken = builtin (shortest (λ path. not (has_member function_cmp (builtin path) taken)) (longest (paths_of taken)) 1)

-- how names of functions compare
abbrev pub fn_cmp : FnName → FnName → Ordering
fn_cmp = FnNameOrd.ghosts.cmp

-- a name of a function
abbrev pub name_of : Function → FnName
name_of (builtin path) = Builtin path
name_of (literal home number) = Literal home number

-- a kind that is in the one type and not in the other
abbrev pub kind_apart : Sample → Bool → Bool → Option Sample
kind_apart kind one other = if one && not other then Some kind else None

-- the first of two that is there
abbrev pub or_else : {X : Type 0} → Option X → Option X → Option X
or_else (Some x) other = Some x
or_else None other = other

abbrev pub has_rows : Rows → Bool
has_rows no_rows = false
has_rows (more_rows _ _ _) = true

-- whether no row has a field or is for frozen tables alone
abbrev pub are_plain : Rows → Bool
are_plain no_rows = true
are_plain (more_rows false no_fields rows) = are_plain rows
are_plain _ = false

-- the first of the kinds without members of their own that is in the one type and not in the other
abbrev pub first_kind : Free → Free → Option Sample
first_kind one other =
    or_else (kind_apart samples.Nil one.nil other.nil)
    (or_else (kind_apart samples.True one.truth other.truth)
    (or_else (kind_apart samples.False one.falsity other.falsity) (kind_apart samples.Number one.number other.number)))

abbrev pub is_plain : Term → Bool
is_plain (term free rows) = are_plain rows

-- what is in the one type and not in the other, by the first kind of values of which there is something
abbrev pub first_apart : Free → Bool → Free → Bool → Option Sample
first_apart one tables other other_tables =
    or_else (first_kind one other)
    (or_else (option_map samples.Text (member_apart name_cmp fresh_text one.strings other.strings))
    (or_else (option_map (λ function. samples.Function (name_of function)) (member_apart function_cmp fresh_function one.functions other.functions))
    (or_else (kind_apart samples.Other one.other other.other) (kind_apart samples.Table tables other_tables))))

-- what tells the one type from the other: nothing where one of them has a row with fields or one for frozen tables
abbrev pub apart : Term → Term → Option Sample
apart (term free rows) (term other others) =
    if are_plain rows && are_plain others then first_apart free (has_rows rows) other (has_rows others) else None

-- the values that a sample stands for
abbrev pub Samples : Sample → Value → Type 0
Samples samples.Nil value = value ≡ values.Nil
Samples samples.True value = value ≡ values.Truth true
Samples samples.False value = value ≡ values.Truth false
Samples samples.Number value = (text : List ℕ) × (value ≡ values.Num text)
Samples (samples.Text bytes) value = value ≡ values.Str bytes
Samples (samples.Function (Builtin path)) value = value ≡ values.Builtin path
Samples (samples.Function (Literal home number)) value = (cells : List (ℕ × ℕ)) × (value ≡ values.Lit home number cells)
Samples samples.Other value = (number : ℕ) × (value ≡ values.Other number)
Samples samples.Table value = (address : ℕ) × (value ≡ values.Tab address)
