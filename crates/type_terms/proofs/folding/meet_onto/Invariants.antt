use Rattle.std.proofs.Common.{vec_len}
use Rattle.type_normal.specs.Operations.{meet}
use Rattle.type_terms.proofs.Joins.{JoinedSoFar}
use Rattle.type_terms.proofs.folding.meet_onto.Given as goal

abbrev pub invariant-loop-one : goal.invariant-loop-one
invariant-loop-one l = JoinedSoFar meet l.initial.arena l.arena l.initial.refs.items l.initial.all l.refs.items l.all

abbrev pub decreases-loop-one : goal.decreases-loop-one
decreases-loop-one l = vec_len l.refs
