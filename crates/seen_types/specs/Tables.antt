-- What tables have.
use Rattle.std.specs.Prelude.{ℕ, List, [], nat_eq}
use Rattle.std.specs.HashMap.{get}
use Rattle.std.specs.Option.{option_map_or}
use Rattle.type_arena.specs.declared.node.TypeRef.{TypeRef}
use Rattle.seen_types.specs.declared.params.ParamTypes.{ParamTypes}
use Rattle.seen_types.specs.declared.seen.Seen.{Seen}
use Rattle.seen_types.specs.declared.table.SeenTypes.{SeenTypes}

-- what was seen, in the order of the text
abbrev pub seen_in : SeenTypes → List Seen
seen_in table = table.list.items

-- the types of a function's parameters, by the number of its body
abbrev pub types_for : ParamTypes → ℕ → List TypeRef
types_for table function = option_map_or (λ types. types.items) (get nat_eq table.types function) []
