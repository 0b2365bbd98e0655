-- What was read so far of a list of types in parentheses, seen as plain data.
use Rattle.std.specs.Prelude.{map}
use Rattle.luau_tree.specs.View.{view_type}
use Rattle.type_list_reader.specs.declared.members.Members as members
use Rattle.luau_grammar.specs.ReadTypes.{Members}

abbrev pub seen_members : members.Members → Members
seen_members m = record { types = map view_type m.types; named = m.named; tailed = m.tailed }
