-- What a module gives whose own block was gone through.
use Rattle.type_normal.specs.Cut.{cut_up}
use Rattle.type_normal.specs.HeapFree.{widen}
use Rattle.type_normal.specs.Kinds.{nil_type}
use Rattle.type_normal.specs.Operations.{union}
use Rattle.report_rules.specs.After.{where_live}
use Rattle.rule_work.specs.Moves.{valued}
use Rattle.rule_work.specs.Work.{Work}

-- what it returns, and nil where it may end; this holds of every later heap
abbrev pub summarized : Work → Work
summarized work = valued (cut_up (widen (union work.value (where_live work.map nil_type)))) work
