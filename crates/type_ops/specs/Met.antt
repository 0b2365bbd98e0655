-- Meets of types over arenas.
use Rattle.std.specs.Prelude.{◌≡◌, ℕ, Bool, ◌||◌, ◌&&◌, List, [], ◌∷◌, Some, IsTrue}
use Rattle.std.specs.HashMap.{get, HashMap}
use Rattle.std.specs.declared.hash.FoldHasher.{FoldHasher}
use Rattle.std.specs.declared.hash.BuildHasherDefault.{BuildHasherDefault}
use Rattle.type_arena.specs.Arena.{store_of}
use Rattle.type_arena.specs.Meaning.{term_of}
use Rattle.type_arena.specs.Store.{has}
use Rattle.type_arena.specs.Term.{Term, Rows, no_rows, more_rows, Fields}
use Rattle.type_arena.specs.declared.arena.Arena.{Arena}
use Rattle.type_arena.specs.declared.node.Node.{Node}
use Rattle.type_arena.specs.declared.node.Row.{Row}
use Rattle.type_arena.specs.declared.node.TypeRef.{TypeRef}
use Rattle.type_normal.specs.Free.{name_cmp}
use Rattle.type_normal.specs.Operations.{meet, meet_fields}
use Rattle.type_normal.specs.Growing.{given_refs, IsClean}
use Rattle.type_ops.specs.Joined.{fn_cmp}
use Rattle.type_ops.specs.Lists.{append_rows}
use Rattle.type_ops.specs.Sets.{both_among}
use Rattle.type_ops.specs.declared.pairs.Pair.{Pair}
use Rattle.type_ops.specs.contracts.pairs.PairPartialEq.TheImpl as PairEq

-- a row met with each of some rows, before they are put in normal form
abbrev pub met_each : Bool → (Fields → Fields) → Rows → Rows
met_each frozen with_fields no_rows = no_rows
met_each frozen with_fields (more_rows other_frozen others rows) = more_rows (frozen || other_frozen) (with_fields others) (met_each frozen with_fields rows)

-- each of some rows met with each of others
abbrev pub met_rows : Rows → Rows → Rows
met_rows no_rows others = no_rows
met_rows (more_rows frozen fields rows) others = append_rows (met_each frozen (meet_fields fields) others) (met_rows rows others)

-- the node of what both of two nodes have, with these rows
abbrev pub both_node : Node → Node → List Row → Node
both_node a b rows = record {
  nil = a.nil && b.nil;
  truth = a.truth && b.truth;
  falsity = a.falsity && b.falsity;
  number = a.number && b.number;
  other = a.other && b.other;
  strings = both_among name_cmp a.strings b.strings;
  functions = both_among fn_cmp a.functions b.functions;
  rows = rows;
}

-- what the meet of two types was found to be
pub record IsMet (arena : Arena) (pair : Pair) (met : TypeRef) : Type 0 where
  pub first : IsTrue (has (store_of arena) pair.first)
  pub second : IsTrue (has (store_of arena) pair.second)
  pub made : IsTrue (has (store_of arena) met)
  pub means : term_of (store_of arena) met ≡ meet (term_of (store_of arena) pair.first) (term_of (store_of arena) pair.second)
  pub clean : IsClean arena arena (given_refs (pair.first ∷ pair.second ∷ [])) met

-- a memory of meets
abbrev pub Meets : Type 0
Meets = HashMap Pair TypeRef (BuildHasherDefault FoldHasher)

-- what is remembered is right
abbrev pub AreMeets : Arena → Meets → Type 0
AreMeets arena known = (pair : Pair) (met : TypeRef) → get PairEq.ghosts.eq known pair ≡ Some met → IsMet arena pair met
