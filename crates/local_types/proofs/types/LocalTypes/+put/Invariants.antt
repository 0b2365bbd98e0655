use Rattle.local_types.proofs.types.LocalTypes.+put.Given as goal

abbrev pub decreases-put : goal.decreases-put
decreases-put l = l.local
