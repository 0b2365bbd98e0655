-- What a table constructor gives whose named fields have the types of a list.
use Rattle.std.specs.Prelude.{ℕ, false, List}
use Rattle.type_normal.specs.Kinds.{row_type}
use Rattle.local_types.specs.Named.{fields_named}
use Rattle.rule_work.specs.Listed.{used}
use Rattle.rule_work.specs.Work.{Work}

-- the fields with these names have the types of the innermost list, which is used up; of one name the last counts
abbrev pub rowed : List (List ℕ) → Work → Work
rowed names work = used (λ types value. row_type false (fields_named names types)) work
