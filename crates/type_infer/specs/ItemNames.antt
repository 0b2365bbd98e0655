-- The names of the items of table constructors.
use Rattle.std.specs.Prelude.{ℕ, List, Option, Some, None}
use Rattle.luau_tree.specs.Tree.{Item, Field, Keyed, Plain}
use Rattle.infer_plan.specs.Steps.{key_name}

-- the name of an item, if it has one
abbrev pub item_name : Item → Option (List ℕ)
item_name (Field name e) = Some name
item_name (Keyed key e) = key_name key
item_name (Plain e) = None
