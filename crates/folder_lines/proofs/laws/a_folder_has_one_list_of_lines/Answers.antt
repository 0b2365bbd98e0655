use Rattle.std.proofs.Common.{ap, sym, ◌∙◌}
use Rattle.reading_fits.specs.OfFolder.{paths_of}
use Rattle.folder_plan.specs.Files.{all_needs}
use Rattle.folder_lines.specs.Files.{planned_files}
use Rattle.folder_lines.specs.Lines.{lines_by}
use Rattle.folder_lines.proofs.OnePlan.{same_plan}
use Rattle.folder_lines.proofs.laws.a_folder_has_one_list_of_lines.Goals as goal

pub returns : goal.returns
returns c = λ table files lines others made also.
    made.same
    ∙ ap (lines_by table files) (same_plan c.fates_are_unique.ensures (all_needs (paths_of table) (planned_files (paths_of table) files)) made.plan also.plan made.planned also.planned)
    ∙ sym also.same
