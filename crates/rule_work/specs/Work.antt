-- What is at hand while the rules of a module are applied, as plain types and maps.
use Rattle.std.specs.Prelude.{ℕ, List, []}
use Rattle.type_arena.specs.Term.{Term}
use Rattle.type_normal.specs.Kinds.{unknown}
use Rattle.report_rules.specs.Seen.{Seen}
use Rattle.report_rules.specs.TypeMap.{TypeMap, no_map}
use Rattle.rule_work.specs.Around.{Around}

-- what is at hand: a type, and a map of the locals; what was put aside of both, the last first; lists of types and of maps, the
-- innermost first; what was seen; the places in that of expressions whose type is still to come, the last first; and what stays
pub record Work : Type 0 where
  pub value : Term
  pub held : List Term
  pub lists : List (List Term)
  pub map : TypeMap
  pub saved : List TypeMap
  pub ends : List (List TypeMap)
  pub seen : List Seen
  pub pending : List ℕ
  pub around : Around

-- where nothing is known and nothing was seen
abbrev pub begun : Around → Work
begun around = record { value = unknown; held = []; lists = []; map = no_map; saved = []; ends = []; seen = []; pending = []; around = around }
