use Rattle.reading_fits.proofs.Modules.{module_fits}
use Rattle.reading_fits.proofs.laws.rules_fit_their_readings.Goals as goal

pub returns : goal.returns
returns c = module_fits
