-- Which property of a table type counts.
use Rattle.std.specs.Prelude.{ℕ, List, Option, Some, None, if◌then◌else◌}
use Rattle.luau_tree.specs.Tree.{Prop, the_prop, NameKey, Indexer}
use Rattle.annotations.specs.Lowered.{is_readable}

-- the name of a property that may be read
abbrev pub readable : Prop → Option (List ℕ)
readable (the_prop access (NameKey name) type) = if is_readable access then Some name else None
readable (the_prop access (Indexer key) type) = None
