-- What calls make of lists of types.
use Rattle.std.specs.Prelude.{Bool, List, [], ◌∷◌}
use Rattle.type_arena.specs.Term.{Term}
use Rattle.report_rules.specs.TypeMap.{not_given}
use Rattle.rule_work.specs.Work.{Work}

-- the innermost list is used up, and makes a type with the one at hand
abbrev pub used_from : (List Term → Term → Term) → List (List Term) → Work → Work
used_from f [] work = work
used_from f (list ∷ lists) work = record work { value = f list work.value; lists = lists }

abbrev pub used : (List Term → Term → Term) → Work → Work
used f work = used_from f work.lists work

-- the first of the innermost list is at hand and leaves it; without one nil is at hand, or anything if the last value expands
abbrev pub first_taken_in : (expanding : Bool) → List Term → List (List Term) → Work → Work
first_taken_in expanding [] lists work = record work { value = not_given expanding }
first_taken_in expanding (type ∷ types) lists work = record work { value = type; lists = types ∷ lists }

abbrev pub first_taken_from : (expanding : Bool) → List (List Term) → Work → Work
first_taken_from expanding [] work = work
first_taken_from expanding (list ∷ lists) work = first_taken_in expanding list lists work

abbrev pub first_taken : (expanding : Bool) → Work → Work
first_taken expanding work = first_taken_from expanding work.lists work
