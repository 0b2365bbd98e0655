use Rattle.local_types.proofs.types.LocalTypes.+changed.Given as goal

abbrev pub decreases-changed : goal.decreases-changed
decreases-changed l = l.map.at
