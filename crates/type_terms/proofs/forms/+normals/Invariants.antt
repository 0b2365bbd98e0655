use Rattle.type_terms.proofs.Walks.{EachSoFar, FieldsSoFar}
use Rattle.type_terms.proofs.forms.+normals.Given as goal

abbrev pub invariant-each_of-loop-term : goal.invariant-each_of-loop-term
invariant-each_of-loop-term l = EachSoFar l.initial.arena l.arena l.terms l.refs.items l.term-index

abbrev pub invariant-fields_of-loop-prop : goal.invariant-fields_of-loop-prop
invariant-fields_of-loop-prop l = FieldsSoFar l.initial.arena l.arena l.props l.fields.items l.prop-index
