-- What a state stands for, as plain types and maps.
use Rattle.std.specs.BTreeMap.{BTreeMap, get}
use Rattle.std.specs.Ordering.{nat_cmp}
use Rattle.std.specs.Prelude.{ℕ, List, Option, option_map, map, reverse}
use Rattle.type_arena.specs.Arena.{below_of}
use Rattle.type_arena.specs.Term.{Term}
use Rattle.type_arena.specs.declared.node.TypeRef.{TypeRef}
use Rattle.local_types.specs.Entries.{arena_of, type_of, entry_of}
use Rattle.local_types.specs.declared.types.LocalTypes.{LocalTypes}
use Rattle.local_types.specs.declared.node.Point.{Point}
use Rattle.report_rules.specs.Seen.{Seen, SeenExpr, SeenBody}
use Rattle.report_rules.specs.TypeMap.{TypeMap}
use Rattle.type_decl.specs.Signatures.{Signature}
use Rattle.type_decl.specs.Tables.{declared_in}
use Rattle.type_decl.specs.declared.table.SigTable.{SigTable}
use Rattle.rule_work.specs.Around.{Around}
use Rattle.rule_work.specs.Work.{Work}
use Rattle.rule_state.specs.declared.point.Seen.{Seen as SeenRef}
use Rattle.rule_state.specs.declared.point.Seen.TheVariants.{Expr, Body}
use Rattle.rule_state.specs.declared.state.RuleState.{RuleState}

-- the builtins that a table declares, with their signatures
abbrev pub builtins_in : SigTable → List (List ℕ × Signature)
builtins_in table = declared_in table.arena table.paths table.sigs

-- what static requires give, by the numbers of their calls
abbrev pub imports_in : LocalTypes → BTreeMap ℕ TypeRef → ℕ → Option Term
imports_in types imports id = option_map (type_of types) (get nat_cmp imports id)

-- what stays
abbrev pub around_in : LocalTypes → (home : ℕ) → (outside : List TypeRef) → SigTable → (imports : BTreeMap ℕ TypeRef) → Around
around_in types home outside table imports = record {
  home = home;
  below = below_of (arena_of types);
  outside = outside;
  builtins = builtins_in table;
  imports = imports_in types imports;
}

-- a point as a map
abbrev pub map_of : LocalTypes → Point → TypeMap
map_of types point = record { dead = point.dead; entry = entry_of types point.map }

-- what was seen, with its type
abbrev pub seen_of : LocalTypes → SeenRef → Seen
seen_of types (Expr id at live) = SeenExpr id.0 (type_of types at) live
seen_of types (Body id live) = SeenBody id.0 live

-- what a state stands for
unfoldable pub work_of : RuleState → Work
work_of state = record {
  value = type_of state.types state.value;
  held = reverse (map (type_of state.types) state.held.items);
  lists = reverse (map (map (type_of state.types)) (map (λ list. list.items) state.lists.items));
  map = map_of state.types state.point;
  saved = reverse (map (map_of state.types) state.saved.items);
  ends = reverse (map (map (map_of state.types)) (map (λ list. list.items) state.ends.items));
  seen = map (seen_of state.types) state.seen.items;
  pending = reverse state.pending.items;
  around = around_in state.types state.home state.outside.items state.table.now state.imports;
}

-- what was seen, with another type
abbrev pub retyped_ref : TypeRef → SeenRef → SeenRef
retyped_ref at (Expr id old live) = Expr id at live
retyped_ref at (Body id live) = Body id live
