use Rattle.subtype_check.proofs.ApartLaws.{apart_told}
use Rattle.subtype_check.proofs.telling.samples_tell_apart.Goals as goal

pub returns-clause-first : goal.returns-clause-first
returns-clause-first c h v t u s e m = (apart_told h v t u s e m).0

pub returns-clause-second : goal.returns-clause-second
returns-clause-second c h v t u s e m = (apart_told h v t u s e m).1
