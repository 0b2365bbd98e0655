use Rattle.std.proofs.Common.{◌≡◌, map}
use Rattle.module_reports.specs.Meant.{report_meant}
use Rattle.module_reports.proofs.sorting.tell_all.Given as goal

abbrev pub invariant-loop-report : goal.invariant-loop-report
invariant-loop-report l = l.told.items ≡ map report_meant l.yielded
