use Rattle.reading_fits.proofs.Folders.{folder_fits}
use Rattle.reading_fits.proofs.laws.analyses_of_folders_fit.Goals as goal

pub returns : goal.returns
returns c = folder_fits
