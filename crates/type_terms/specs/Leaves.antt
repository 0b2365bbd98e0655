-- The nodes of written types that are made of no other types.
use Rattle.std.specs.Prelude.{◌≡◌, true, false, List, [], ◌∷◌}
use Rattle.type_arena.specs.Homes.{literal_homes}
use Rattle.type_arena.specs.Meaning.{term_by}
use Rattle.type_arena.specs.Store.{refs_of}
use Rattle.type_arena.specs.Term.{Term}
use Rattle.type_arena.specs.declared.node.Among.TheVariants.{Only, AllBut}
use Rattle.type_arena.specs.declared.node.Node.{Node}
use Rattle.type_arena.specs.declared.node.Row.{Row}
use Rattle.type_arena.specs.declared.node.TypeRef.{TypeRef}
use Rattle.type_normal.specs.TypeTerm.{TypeTerm, NeverTerm, PropsTerm, UnionTerm, MeetTerm, NotTerm, normal}
use Rattle.type_terms.specs.Literals.{named_in}

-- the node without values
abbrev pub bare : Node
bare = record { nil = false; truth = false; falsity = false; number = false; other = false; strings = Only []; functions = Only []; rows = [] }

-- the row of all tables, alone
abbrev pub all_tables_alone : List Row
all_tables_alone = record { frozen = false; fields = [] } ∷ []

-- the node of all values
abbrev pub whole : Node
whole = record { nil = true; truth = true; falsity = true; number = true; other = true; strings = AllBut []; functions = AllBut []; rows = all_tables_alone }

-- a written type that is made of no other, and never for any other
abbrev pub leaf_of : TypeTerm → TypeTerm
leaf_of (PropsTerm frozen props) = NeverTerm
leaf_of (UnionTerm terms) = NeverTerm
leaf_of (MeetTerm terms) = NeverTerm
leaf_of (NotTerm type) = NeverTerm
leaf_of type = type

-- a node is that of a written type: it stands for its normal form, has no references, and names the function literals that it names
pub record IsNodeOf (type : TypeTerm) (node : Node) : Type 0 where
  pub refs : refs_of node ≡ []
  pub literals : literal_homes node.functions ≡ (named_in type).literals
  pub means : (of : TypeRef → Term) → term_by of node ≡ normal type
