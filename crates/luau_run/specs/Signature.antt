-- Declared builtins: what their arguments and results are.
use Rattle.std.specs.Prelude.{ℕ, Bool, List, Option}
use Rattle.std.specs.Option.{option_map}
use Rattle.std.specs.List.{find}
use Rattle.std.specs.Str.{bytes_eq}
use Rattle.luau_values.specs.Value.{Value}
use Rattle.luau_values.specs.Heap.{Heap}
use Rattle.luau_run.specs.ValueSet.{ValueSet, everything, nothing, set_or, all_in}

-- what the arguments and the results of a builtin are in. `rest` speaks of the arguments past the
-- parameters, which are free without it; `more` of the results past the declared ones, of which
-- there are none without it
pub record Signature : Type 0 where
  pub params : List ValueSet
  pub rest : Option ValueSet
  pub results : List ValueSet
  pub more : Option ValueSet
  pub checked : Bool
  pub quiet : Bool

-- a declared builtin
pub record Declared : Type 0 where
  pub path : List ℕ
  pub signature : Signature

-- the declaration of a path
abbrev pub declaration : List Declared → List ℕ → Option Signature
declaration builtins path = option_map (λ d. d.signature) (find (λ d. bytes_eq d.path path) builtins)

-- whether a call's arguments are in the declaration
abbrev pub takes : Signature → Heap → List Value → Bool
takes signature heap args = all_in heap signature.params (set_or everything signature.rest) args

-- whether a call's results are in the declaration
abbrev pub may_give : Signature → Heap → List Value → Bool
may_give signature heap results = all_in heap signature.results (set_or nothing signature.more) results
