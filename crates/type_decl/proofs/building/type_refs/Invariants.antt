use Rattle.std.proofs.Common.{take, map}
use Rattle.type_decl.specs.Signatures.{term_of_kinds}
use Rattle.type_decl.specs.Tables.{Grew, Mean}
use Rattle.type_decl.proofs.building.type_refs.Given as goal

-- the references so far mean the types so far
abbrev pub invariant-loop-kinds : goal.invariant-loop-kinds
invariant-loop-kinds l = record {
  grew : Grew l.initial.arena l.arena;
  means : Mean l.arena l.refs.items (map term_of_kinds (take l.kinds-index l.types));
}
