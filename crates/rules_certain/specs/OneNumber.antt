-- Builtins that are declared as checked functions of one number.
use Rattle.std.specs.Prelude.{◌≡◌, true, List, [], ◌∷◌, codes}
use Rattle.std.specs.Option.{IsSomeAnd}
use Rattle.luau_values.specs.Value.{Value}
use Rattle.luau_values.specs.Heap.{Heap}
use Rattle.luau_run.specs.ValueSet.{ValueSet, numbers}
use Rattle.luau_run.specs.Signature.{Signature, Declared, declaration}

-- there is one parameter, which takes in every heap exactly the numbers
abbrev pub AreOneNumber : (params : List ValueSet) → Type 0
AreOneNumber (set ∷ []) = (heap : Heap) (v : Value) → set heap v ≡ numbers heap v
AreOneNumber _ = ⊥

-- a builtin is declared as a checked function of one number, whatever its results are and whether or not it is quiet
abbrev pub TakesOneNumber : Signature → Type 0
TakesOneNumber signature = (signature.checked ≡ true) × AreOneNumber signature.params

-- among some builtins, `math.abs` is declared so
abbrev pub DeclaresAbs : List Declared → Type 0
DeclaresAbs builtins = IsSomeAnd (declaration builtins (codes "math.abs")) TakesOneNumber
