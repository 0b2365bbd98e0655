use Rattle.report_rules.proofs.PrintedFacts.{printed_in_order, printed_same, printed_alone}
use Rattle.report_rules.proofs.laws.reports_are_given_in_order.Goals as goal

pub returns-clause-sorted : goal.returns-clause-sorted
returns-clause-sorted c = λ reports. printed_in_order reports

pub returns-clause-same : goal.returns-clause-same
returns-clause-same c = λ reports report. printed_same reports report

pub returns-clause-alone : goal.returns-clause-alone
returns-clause-alone c = λ reports other s same. printed_alone reports other s same
