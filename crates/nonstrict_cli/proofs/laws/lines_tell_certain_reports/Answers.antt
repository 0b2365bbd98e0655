use Rattle.nonstrict_cli.specs.Reports.{calls_of}
use Rattle.nonstrict_cli.proofs.Telling.{run_is_told}
use Rattle.nonstrict_cli.proofs.laws.lines_tell_certain_reports.Goals as goal

pub returns : goal.returns
returns c = run_is_told (λ modules program declared read. c.reports_certain.ensures.readings program (calls_of modules) declared read) c.lines_tell_reports.ensures
