use Rattle.normal_rules.proofs.After.{summary_normal}
use Rattle.normal_rules.proofs.Seen.{module_seen, type_seen}
use Rattle.report_rules.specs.Seen.{seen_module}
use Rattle.normal_rules.proofs.laws.types_by_rules_are_normal.Goals as goal

pub returns-clause-seen : goal.returns-clause-seen
returns-clause-seen c = module_seen

pub returns-clause-typed : goal.returns-clause-typed
returns-clause-typed c = λ rules id h. type_seen (seen_module rules) id (module_seen rules h)

pub returns-clause-summary : goal.returns-clause-summary
returns-clause-summary c = summary_normal
