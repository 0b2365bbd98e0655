-- Which kinds of values belong to a type of the table, as code has them.
use Rattle.type_normal.specs.Kinds.{Kinds}
use Rattle.type_decl.specs.declared.nodes.Parts.{Parts}

abbrev pub kinds_of : Parts → Kinds
kinds_of parts = record {
  nil = parts.nil;
  boolean = parts.boolean;
  number = parts.number;
  string = parts.string;
  table = parts.table;
  function = parts.function;
  other = parts.other;
}
