-- What is reported in modules of the built form: each literal that is no number.
use Rattle.std.specs.Prelude.{◌≡◌, ℕ, suc, ◌*◌, true, false, if◌then◌else◌, List, [], ◌∷◌, ◌++◌, Some, slice_get}
use Rattle.std.specs.List.{AllByRecursion}
use Rattle.luau_tree.specs.declared.names.Place.{Place}
use Rattle.luau_tree.specs.declared.names.Place.TheVariants.{Expr as ExprPlace}
use Rattle.rules_certain.specs.Literal.{is_number}
use Rattle.rules_certain.specs.Calls.{Written, after_call}

-- the place of the expression with a number
abbrev pub place : ℕ → Place
place id = ExprPlace (record { 0 = id })

-- the place of the literal of a call with numbers from `first` on
abbrev pub argument_of : (first : ℕ) → Place
argument_of first = place (suc (suc (suc first)))

-- the reports in a module: the places of the literals that aren't numbers, of calls with numbers from `first` on
abbrev pub reports_in : (module_at first : ℕ) → List Written → List (ℕ × Place)
reports_in module_at first [] = []
reports_in module_at first (w ∷ calls) =
    if is_number w.literal then reports_in module_at (after_call first) calls
    else (module_at, argument_of first) ∷ reports_in module_at (after_call first) calls

-- the reports in the modules from a position on
abbrev pub reports_from : (module_at : ℕ) → List (List Written) → List (ℕ × Place)
reports_from module_at [] = []
reports_from module_at (calls ∷ modules) = reports_in module_at 0 calls ++ reports_from (suc module_at) modules

-- the reports of a program of such modules
abbrev pub reports_of : List (List Written) → List (ℕ × Place)
reports_of modules = reports_from 0 modules

-- a place in a module that is the literal of one of its calls, and no number
abbrev pub IsWrongLiteral : List (List Written) → (report : ℕ × Place) → Type 0
IsWrongLiteral modules report = (calls : List Written) × (k : ℕ) × (w : Written)
    × (slice_get modules report.0 ≡ Some calls) × (slice_get calls k ≡ Some w) × (is_number w.literal ≡ false) × (report.1 ≡ argument_of (k * 4))

-- the literal of each call is a number
abbrev pub AreNumbers : List Written → Type 0
AreNumbers calls = AllByRecursion (λ w. is_number w.literal ≡ true) calls
