use Rattle.local_types.proofs.types.LocalTypes.+get.Given as goal

abbrev pub decreases-get : goal.decreases-get
decreases-get l = l.local
