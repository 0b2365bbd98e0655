-- That a map stands there is a proposition.
use Rattle.std.proofs.Props.{props}
use Rattle.local_types.specs.Entries.{IsMap}
use Rattle.local_types.specs.declared.node.LocalMap.{LocalMap}
use Rattle.local_types.specs.declared.types.LocalTypes.{LocalTypes}

pub map_is_prop : (types : LocalTypes) (map : LocalMap) → IsProp (IsMap types map)
unfolding IsMap
map_is_prop types map = hlevel props
