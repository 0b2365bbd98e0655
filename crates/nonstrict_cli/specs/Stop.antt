-- Why a run ends before anything is written.
use Rattle.outside.specs.declared.tree.TreeError.{TreeError}
use Rattle.outside.specs.declared.tree.TreeError.TheVariants as tree
use Rattle.nonstrict_cli.specs.declared.stop.Stop.{Stop}
use Rattle.nonstrict_cli.specs.declared.stop.Stop.TheVariants as stop
use Rattle.nonstrict_cli.specs.declared.status.Status.{Status}
use Rattle.nonstrict_cli.specs.declared.status.Status.TheVariants as status

-- how a run ends after an error of the tree: a file that isn't there is a fault of the folder too
abbrev pub stop_at : TreeError → Stop
stop_at tree.Absent = stop.ReadFault
stop_at tree.Failed = stop.ReadFault
stop_at tree.NoMemory = stop.NoMemory

-- the status of a run that ends so
abbrev pub status_after : Stop → Status
status_after stop.Usage = status.Usage
status_after (stop.TooLarge limit) = status.TooLarge limit
status_after stop.ReadFault = status.ReadFault
status_after stop.NoMemory = status.NoMemory
