-- What calls make of the ends of branches.
use Rattle.std.specs.Prelude.{List, [], ◌∷◌}
use Rattle.report_rules.specs.TypeMap.{TypeMap, joined}
use Rattle.rule_work.specs.Work.{Work}

-- the map is that after the branches with the innermost ends, which are let go
abbrev pub joined_from : List (List TypeMap) → Work → Work
joined_from [] work = work
joined_from (maps ∷ ends) work = record work { map = joined maps; ends = ends }

abbrev pub ends_joined : Work → Work
ends_joined work = joined_from work.ends work
