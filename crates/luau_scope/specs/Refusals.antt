-- Which of a module's refusals counts.
use Rattle.std.specs.Prelude.{ℕ, ◌==◌, ◌&&◌, ◌||◌, Bool, List, [], ◌∷◌, Option, Some, None, if◌then◌else◌, nat_lt}
use Rattle.std.specs.List.{filter_map}
use Rattle.luau_tree.specs.declared.position.Span.{Span}
use Rattle.luau_tree.specs.Tree.{Block}
use Rattle.luau_scope.specs.declared.refusal.Refusal.{Refusal}
use Rattle.luau_scope.specs.declared.refusal.Refusal.TheVariants.{Metatable, Coroutine, Environment, DynamicRequire, TypeFunction, GenericPack, AssignedBuiltin, RepeatedTarget, TooManyLocals, BreakOutsideLoop, ContinueOutsideLoop, ContinuePastLocal, VarargOutside}
use Rattle.luau_scope.specs.Found.{Found, Refuses}
use Rattle.luau_scope.specs.Finds.{found_in}

-- a reason, and where it stands
abbrev pub Refused : Type 0
Refused = Refusal × Span

-- the order of reasons at one offset
abbrev pub rank : Refusal → ℕ
rank Metatable = 0
rank Coroutine = 1
rank Environment = 2
rank DynamicRequire = 3
rank TypeFunction = 4
rank GenericPack = 5
rank AssignedBuiltin = 6
rank RepeatedTarget = 7
rank TooManyLocals = 8
rank BreakOutsideLoop = 9
rank ContinueOutsideLoop = 10
rank ContinuePastLocal = 11
rank VarargOutside = 12

-- whether one refusal comes before another: at a lesser offset, or at the same for an earlier reason
abbrev pub comes_before : Refused → Refused → Bool
comes_before r s = nat_lt r.1.start s.1.start || (r.1.start == s.1.start && nat_lt (rank r.0) (rank s.0))

-- the earlier of two
abbrev pub earlier_of : Refused → Refused → Refused
earlier_of r s = if comes_before s r then s else r

-- the earliest of some
abbrev pub earliest : List Refused → Option Refused
earliest [] = None
earliest (r ∷ refusals) = elim (earliest refusals) [ None ↦ Some r | Some s ↦ Some (earlier_of r s) ]

-- what a finding refuses
abbrev pub a_refusal : Found → Option Refused
a_refusal (Refuses why at) = Some (why, at)
a_refusal _ = None

-- the refusals among what is found
abbrev pub refusals : List Found → List Refused
refusals found = filter_map a_refusal found

-- the refusal of a module, over the paths of the declared builtins
abbrev pub refusal_of : List (List ℕ) → Block → Option Refused
refusal_of paths block = earliest (refusals (found_in paths block))
