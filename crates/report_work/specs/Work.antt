-- What is at hand while the contexts and the reports of a module are found, from its end to its begin.
use Rattle.std.specs.Prelude.{List, []}
use Rattle.type_arena.specs.Term.{Term}
use Rattle.report_rules.specs.Context.{Context, none}
use Rattle.report_rules.specs.Reports.{Report}

-- the lists of sets that are asked for, the last first; for each list that was answered, the contexts under which an expression
-- fails or gives a value in its sets, the last first; the context behind what is gone through next, and those that were put aside,
-- the last first; the contexts at `break` and `continue` of the loops around, the innermost first; and the reports of all that was
-- gone through, in the order of the text
pub record Work : Type 0 where
  pub sets : List (List Term)
  pub fails : List (List Context)
  pub behind : Context
  pub aside : List Context
  pub breaks : List Context
  pub continues : List Context
  pub reports : List Report

-- at the end of a module
abbrev pub begun : Work
begun = record { sets = []; fails = []; behind = none; aside = []; breaks = []; continues = []; reports = [] }
