use Rattle.reading_fits.proofs.FolderAnalysis.{analysis_fits}
use Rattle.reading_fits.proofs.laws.folders_fit.Goals as goal

pub returns : goal.returns
returns c = analysis_fits
