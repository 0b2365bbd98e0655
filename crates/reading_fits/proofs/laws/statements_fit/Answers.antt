use Rattle.reading_fits.specs.OfFolder.{paths_of}
use Rattle.reading_fits.proofs.FitStats.{stats_fit}
use Rattle.reading_fits.proofs.laws.statements_fit.Goals as goal

pub returns : goal.returns
returns c = λ table home block leads import apart accepted. stats_fit (paths_of table) home block leads table import apart accepted
