use Rattle.std.proofs.Common.{◌≡◌, List, ℕ, take, map, Bor}
use Rattle.builtin_table.specs.Standard.{declared_by}
use Rattle.builtin_table.specs.declared.table.Line.{Line}
use Rattle.type_decl.specs.Signatures.{signature_of}
use Rattle.type_decl.specs.Tables.{Grew, AreMeant}
use Rattle.type_decl.proofs.defaults.standard.Given as goal

-- the paths and the signatures so far
abbrev pub invariant-loop-entry : goal.invariant-loop-entry
invariant-loop-entry l = record {
  names : l.names.items ≡ map (λ (e : Bor (List ℕ) × Line). e.0.now) (take l.entry-index l.entries);
  grew : Grew l.initial.arena l.arena;
  sigs : AreMeant l.arena l.sigs.items (map (λ (e : Bor (List ℕ) × Line). signature_of (declared_by e.1)) (take l.entry-index l.entries));
}
