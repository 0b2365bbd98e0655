use Rattle.std.proofs.Common.{◌≡◌, map, ◌++◌, List, ℕ}
use Rattle.type_decl.specs.declared.sig.Sig.{Sig}
use Rattle.type_decl.proofs.table.SigTable.of.Given as goal

-- the paths and the signatures so far, and those that are left
abbrev pub invariant-loop-name : goal.invariant-loop-name
invariant-loop-name l = record {
  names : l.names.items ≡ map (λ (e : List ℕ × Sig). e.0) l.yielded;
  given : l.given.items ≡ map (λ (e : List ℕ × Sig). e.1) l.yielded;
  all : l.yielded ++ l.name-iterator.rest.items ≡ l.fn.sigs.items;
}
