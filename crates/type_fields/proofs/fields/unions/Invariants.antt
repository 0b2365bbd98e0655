use Rattle.std.proofs.Common.{vec_len}
use Rattle.type_fields.proofs.UnionFacts.{UnionsMade}
use Rattle.type_fields.proofs.fields.unions.Given as goal

abbrev pub invariant-loop-next : goal.invariant-loop-next
invariant-loop-next l = UnionsMade l.fn.arena l.arena l.fn.types.items l.types.items l.all

abbrev pub decreases-loop-next : goal.decreases-loop-next
decreases-loop-next l = vec_len l.types
