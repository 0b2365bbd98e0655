-- What is known of the locals where a condition decided, in loops and in bodies.
use Rattle.std.specs.Prelude.{ℕ, Bool, ◌||◌, List, if◌then◌else◌}
use Rattle.luau_run.specs.ReadFolder.{is_among}
use Rattle.type_arena.specs.Term.{Term}
use Rattle.type_normal.specs.HeapFree.{widen}
use Rattle.type_normal.specs.Kinds.{unknown}
use Rattle.local_types.specs.Locals.{refining, some_empty}
use Rattle.report_rules.specs.TypeMap.{TypeMap}

-- the map refined by what is said of some locals: it is dead if one of them then has no value
abbrev pub refined_by_said : List (ℕ × Term) → TypeMap → TypeMap
refined_by_said said map = record {
  dead = map.dead || some_empty said map.entry;
  entry = refining said map.entry;
}

-- the map at each turn of a loop that assigns or declares these locals: nothing is known of them, and it is widened if the loop stirs
abbrev pub headed : (touched : List ℕ) → (stirs : Bool) → TypeMap → TypeMap
headed touched stirs map = record map {
  entry = λ local. if is_among local touched then unknown else if stirs then widen (map.entry local) else map.entry local;
}
