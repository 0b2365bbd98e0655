-- What the profile refuses, as it is told.
use Rattle.std.specs.Prelude.{ℕ, List, codes}
use Rattle.luau_scope.specs.declared.refusal.Refusal.{Refusal}
use Rattle.luau_scope.specs.declared.refusal.Refusal.TheVariants.{Metatable, Coroutine, Environment, DynamicRequire, TypeFunction, GenericPack, AssignedBuiltin, RepeatedTarget, TooManyLocals, BreakOutsideLoop, ContinueOutsideLoop, ContinuePastLocal, VarargOutside}

-- what the profile refuses a module for, as it is told
abbrev pub profile_text : Refusal → List ℕ
profile_text Metatable = codes "metatable"
profile_text Coroutine = codes "coroutine"
profile_text Environment = codes "environment"
profile_text DynamicRequire = codes "dynamic require"
profile_text TypeFunction = codes "type function"
profile_text GenericPack = codes "generic pack"
profile_text AssignedBuiltin = codes "assigned builtin"
profile_text RepeatedTarget = codes "repeated target"
profile_text TooManyLocals = codes "too many locals"
profile_text BreakOutsideLoop = codes "break outside loop"
profile_text ContinueOutsideLoop = codes "continue outside loop"
profile_text ContinuePastLocal = codes "continue past local"
profile_text VarargOutside = codes "vararg outside"
