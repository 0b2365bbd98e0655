use Rattle.std.proofs.Common.{◌≡◌, map}
use Rattle.module_reports.specs.Meant.{report_meant}
use Rattle.module_reports.proofs.sorting.untold.Given as goal

abbrev pub invariant-loop-one : goal.invariant-loop-one
invariant-loop-one l = map report_meant l.reports.items ≡ l.yielded
