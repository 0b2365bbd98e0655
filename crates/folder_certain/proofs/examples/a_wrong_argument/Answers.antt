use Rattle.std.proofs.Common.{◌≡◌, ℕ, List, refl, subst}
use Rattle.luau_tree.specs.declared.names.Place.{Place}
use Rattle.luau_scope.specs.Found.{join}
use Rattle.luau_run.specs.Certain.{Certain}
use Rattle.luau_run.specs.runs.CallOfAbs.{at_literal}
use Rattle.reading_fits.specs.FolderAnalysis.{analysis_of, IsFolder}
use Rattle.reading_fits.specs.Examples.{of_abs}
use Rattle.folder_certain.specs.Examples.{wrong_argument}
use Rattle.folder_certain.proofs.Texts.{folder_certain}
use Rattle.folder_certain.proofs.examples.a_wrong_argument.Goals as goal

is_folder : IsFolder of_abs wrong_argument
unfolding join
is_folder = record {
  paths = refl;
  homes = refl;
  order = ((λ id other e. cc), tt);
  trees = (record { apart = record { exprs = refl; bodies = refl; binds = refl }; accepted = refl }, tt);
}

is_reported : (analysis_of of_abs wrong_argument).reports ≡ at_literal
unfolding join
is_reported = refl

pub returns-clause-folder : goal.returns-clause-folder
returns-clause-folder c = is_folder

pub returns-clause-reported : goal.returns-clause-reported
returns-clause-reported c = is_reported

pub returns-clause-certain : goal.returns-clause-certain
returns-clause-certain c =
    subst (λ (places : List (ℕ × Place)). Certain (analysis_of of_abs wrong_argument).program places) is_reported (folder_certain of_abs wrong_argument is_folder)
