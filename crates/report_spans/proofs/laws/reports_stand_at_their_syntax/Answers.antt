use Rattle.report_spans.proofs.Standing.{report_stands, given_stands}
use Rattle.report_spans.proofs.laws.reports_stand_at_their_syntax.Goals as goal

pub returns-clause-all : goal.returns-clause-all
returns-clause-all c = report_stands

pub returns-clause-given : goal.returns-clause-given
returns-clause-given c = given_stands
