use Rattle.std.proofs.Common.{vec_len}
use Rattle.local_types.proofs.NamedFacts.{NamedSo}
use Rattle.local_types.proofs.naming.fields_of.Given as goal

-- the fields of all names but those that are left
abbrev pub invariant-loop-name : goal.invariant-loop-name
invariant-loop-name l = NamedSo l.fn.names.items l.types l.names.items l.fields.entries

abbrev pub decreases-loop-name : goal.decreases-loop-name
decreases-loop-name l = vec_len l.names
