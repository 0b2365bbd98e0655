use Rattle.reading_fits.specs.OfFolder.{paths_of}
use Rattle.folder_lines.specs.Files.{planned_files}
use Rattle.folder_lines.proofs.laws.reports_of_folders_are_certain.Goals as goal

pub returns : goal.returns
returns c = λ table files plan paths planned. c.planned_modules_are_certain.ensures table (planned_files (paths_of table) files) plan paths (c.trees_of_files_are_accepted.ensures table files) planned
