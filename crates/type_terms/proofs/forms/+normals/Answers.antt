use Rattle.std.proofs.Common.{[], ◌∷◌, subst, arith}
use Rattle.std.specs.Prelude.{IfOk}
use Rattle.type_arena.specs.Store.{field_types}
use Rattle.type_normal.specs.Adds.{Adds}
use Rattle.type_normal.specs.TypeTerm.{TypeTerm, UnionTerm, MeetTerm, NotTerm, PropsTerm, normal}
use Rattle.type_terms.specs.Literals.{named_in, named_in_terms, named_in_props}
use Rattle.type_terms.specs.Made.{Made}
use Rattle.type_terms.specs.View.{view_term, view_terms, view_props}
use Rattle.type_terms.proofs.Steps.{next_adds, one_clean}
use Rattle.type_terms.proofs.Views.{leafy}
use Rattle.type_terms.proofs.Walks.{each_begun, each_adds, each_more, each_done, fields_begun, fields_adds, fields_more, fields_done, union_is, meet_is, not_is, row_is, adds_as, made_as, union_made, meet_made, not_made, row_form_made}
use Rattle.type_terms.proofs.forms.+normals.Goals as goal

pub normal_at-returns-in_err-refs-in-Union-clause-adds : goal.normal_at-returns-in_err-refs-in-Union-clause-adds
normal_at-returns-in_err-refs-in-Union-clause-adds t c = adds_as c.args.arena.now c.each_of.new.arena (view_term c.args.term.now) (UnionTerm (view_terms c.as_slice.result.now)) (union_is c.args.term.now c.in-Union.terms c.as_slice.result.now c.in-Union.is c.as_slice.ensures) c.each_of.ensures.adds

pub normal_at-returns-in_err-at-in-Union-clause-adds : goal.normal_at-returns-in_err-at-in-Union-clause-adds
normal_at-returns-in_err-at-in-Union-clause-adds t c =
    adds_as c.args.arena.now c.union_all.new.arena (view_term c.args.term.now) (UnionTerm (view_terms c.as_slice.result.now)) (union_is c.args.term.now c.in-Union.terms c.as_slice.result.now c.in-Union.is c.as_slice.ensures)
    (next_adds c.args.arena.now c.each_of.new.arena c.union_all.new.arena (named_in_terms (view_terms c.as_slice.result.now)) c.in_ok-refs-in-Union.refs.items [] c.each_of.ensures.adds c.in_ok-refs-in-Union.ensures.made.clean c.union_all.ensures.adds)

pub normal_at-returns-in_ok-at-in-Union-clause-made : goal.normal_at-returns-in_ok-at-in-Union-clause-made
normal_at-returns-in_ok-at-in-Union-clause-made t c =
    made_as c.args.arena.now c.union_all.new.arena (view_term c.args.term.now) (UnionTerm (view_terms c.as_slice.result.now)) c.in_ok-at-in-Union.at (union_is c.args.term.now c.in-Union.terms c.as_slice.result.now c.in-Union.is c.as_slice.ensures)
    (union_made c.args.arena.now c.each_of.new.arena c.union_all.new.arena (view_terms c.as_slice.result.now) c.in_ok-refs-in-Union.refs.items c.in_ok-at-in-Union.at c.each_of.ensures.adds c.in_ok-refs-in-Union.ensures.made c.in_ok-at-in-Union.ensures.made)

pub normal_at-returns-in_ok-at-in-Union-clause-adds : goal.normal_at-returns-in_ok-at-in-Union-clause-adds
normal_at-returns-in_ok-at-in-Union-clause-adds t c =
    adds_as c.args.arena.now c.union_all.new.arena (view_term c.args.term.now) (UnionTerm (view_terms c.as_slice.result.now)) (union_is c.args.term.now c.in-Union.terms c.as_slice.result.now c.in-Union.is c.as_slice.ensures)
    (next_adds c.args.arena.now c.each_of.new.arena c.union_all.new.arena (named_in_terms (view_terms c.as_slice.result.now)) c.in_ok-refs-in-Union.refs.items [] c.each_of.ensures.adds c.in_ok-refs-in-Union.ensures.made.clean c.union_all.ensures.adds)

pub normal_at-returns-in_err-refs-in-Meet-clause-adds : goal.normal_at-returns-in_err-refs-in-Meet-clause-adds
normal_at-returns-in_err-refs-in-Meet-clause-adds t c = adds_as c.args.arena.now c.each_of-in-Meet.new.arena (view_term c.args.term.now) (MeetTerm (view_terms c.as_slice-in-Meet.result.now)) (meet_is c.args.term.now c.in-Meet.terms c.as_slice-in-Meet.result.now c.in-Meet.is c.as_slice-in-Meet.ensures) c.each_of-in-Meet.ensures.adds

pub normal_at-returns-in_err-at-in-Meet-clause-adds : goal.normal_at-returns-in_err-at-in-Meet-clause-adds
normal_at-returns-in_err-at-in-Meet-clause-adds t c =
    adds_as c.args.arena.now c.meet_all.new.arena (view_term c.args.term.now) (MeetTerm (view_terms c.as_slice-in-Meet.result.now)) (meet_is c.args.term.now c.in-Meet.terms c.as_slice-in-Meet.result.now c.in-Meet.is c.as_slice-in-Meet.ensures)
    (next_adds c.args.arena.now c.each_of-in-Meet.new.arena c.meet_all.new.arena (named_in_terms (view_terms c.as_slice-in-Meet.result.now)) c.in_ok-refs-in-Meet.refs.items [] c.each_of-in-Meet.ensures.adds c.in_ok-refs-in-Meet.ensures.made.clean c.meet_all.ensures.adds)

pub normal_at-returns-in_ok-at-in-Meet-clause-made : goal.normal_at-returns-in_ok-at-in-Meet-clause-made
normal_at-returns-in_ok-at-in-Meet-clause-made t c =
    made_as c.args.arena.now c.meet_all.new.arena (view_term c.args.term.now) (MeetTerm (view_terms c.as_slice-in-Meet.result.now)) c.in_ok-at-in-Meet.at (meet_is c.args.term.now c.in-Meet.terms c.as_slice-in-Meet.result.now c.in-Meet.is c.as_slice-in-Meet.ensures)
    (meet_made c.args.arena.now c.each_of-in-Meet.new.arena c.meet_all.new.arena (view_terms c.as_slice-in-Meet.result.now) c.in_ok-refs-in-Meet.refs.items c.in_ok-at-in-Meet.at c.each_of-in-Meet.ensures.adds c.in_ok-refs-in-Meet.ensures.made c.in_ok-at-in-Meet.ensures.made)

pub normal_at-returns-in_ok-at-in-Meet-clause-adds : goal.normal_at-returns-in_ok-at-in-Meet-clause-adds
normal_at-returns-in_ok-at-in-Meet-clause-adds t c =
    adds_as c.args.arena.now c.meet_all.new.arena (view_term c.args.term.now) (MeetTerm (view_terms c.as_slice-in-Meet.result.now)) (meet_is c.args.term.now c.in-Meet.terms c.as_slice-in-Meet.result.now c.in-Meet.is c.as_slice-in-Meet.ensures)
    (next_adds c.args.arena.now c.each_of-in-Meet.new.arena c.meet_all.new.arena (named_in_terms (view_terms c.as_slice-in-Meet.result.now)) c.in_ok-refs-in-Meet.refs.items [] c.each_of-in-Meet.ensures.adds c.in_ok-refs-in-Meet.ensures.made.clean c.meet_all.ensures.adds)

pub normal_at-returns-in_err-at-in-Not-clause-adds : goal.normal_at-returns-in_err-at-in-Not-clause-adds
normal_at-returns-in_err-at-in-Not-clause-adds t c = adds_as c.args.arena.now c.normal_at.new.arena (view_term c.args.term.now) (NotTerm (view_term c.get.result.now)) (not_is c.args.term.now c.in-Not.inner c.get.result.now c.in-Not.is c.get.ensures) c.normal_at.ensures.adds

pub normal_at-returns-in_err-other-in-Not-clause-adds : goal.normal_at-returns-in_err-other-in-Not-clause-adds
normal_at-returns-in_err-other-in-Not-clause-adds t c =
    adds_as c.args.arena.now c.complement.new.arena (view_term c.args.term.now) (NotTerm (view_term c.get.result.now)) (not_is c.args.term.now c.in-Not.inner c.get.result.now c.in-Not.is c.get.ensures)
    (next_adds c.args.arena.now c.normal_at.new.arena c.complement.new.arena (named_in (view_term c.get.result.now)) (c.in_ok-at-in-Not.at ∷ []) [] c.normal_at.ensures.adds
    (one_clean c.args.arena.now c.normal_at.new.arena (named_in (view_term c.get.result.now)) c.in_ok-at-in-Not.at c.in_ok-at-in-Not.ensures.made.clean) c.complement.ensures.adds)

pub normal_at-returns-in_ok-other-in-Not-clause-adds : goal.normal_at-returns-in_ok-other-in-Not-clause-adds
normal_at-returns-in_ok-other-in-Not-clause-adds t c =
    adds_as c.args.arena.now c.complement.new.arena (view_term c.args.term.now) (NotTerm (view_term c.get.result.now)) (not_is c.args.term.now c.in-Not.inner c.get.result.now c.in-Not.is c.get.ensures)
    (next_adds c.args.arena.now c.normal_at.new.arena c.complement.new.arena (named_in (view_term c.get.result.now)) (c.in_ok-at-in-Not.at ∷ []) [] c.normal_at.ensures.adds
    (one_clean c.args.arena.now c.normal_at.new.arena (named_in (view_term c.get.result.now)) c.in_ok-at-in-Not.at c.in_ok-at-in-Not.ensures.made.clean) c.complement.ensures.adds)

pub normal_at-returns-in_ok-other-in-Not-clause-made : goal.normal_at-returns-in_ok-other-in-Not-clause-made
normal_at-returns-in_ok-other-in-Not-clause-made t c =
    made_as c.args.arena.now c.complement.new.arena (view_term c.args.term.now) (NotTerm (view_term c.get.result.now)) c.in_ok-other-in-Not.other (not_is c.args.term.now c.in-Not.inner c.get.result.now c.in-Not.is c.get.ensures)
    (not_made c.args.arena.now c.normal_at.new.arena c.complement.new.arena (view_term c.get.result.now) c.in_ok-at-in-Not.at c.in_ok-other-in-Not.other c.normal_at.ensures.adds c.in_ok-at-in-Not.ensures.made c.in_ok-other-in-Not.ensures.made)

pub normal_at-returns-in_err-refs-in-Props-clause-adds : goal.normal_at-returns-in_err-refs-in-Props-clause-adds
normal_at-returns-in_err-refs-in-Props-clause-adds t c = adds_as c.args.arena.now c.fields_of.new.arena (view_term c.args.term.now) (PropsTerm c.in-Props.frozen (view_props c.as_slice-in-Props.result.now)) (row_is c.args.term.now c.in-Props.frozen c.in-Props.fields c.as_slice-in-Props.result.now c.in-Props.is c.as_slice-in-Props.ensures) c.fields_of.ensures.adds

pub normal_at-returns-in_err-at-in-Props-clause-adds : goal.normal_at-returns-in_err-at-in-Props-clause-adds
normal_at-returns-in_err-at-in-Props-clause-adds t c =
    adds_as c.args.arena.now c.row.new.arena (view_term c.args.term.now) (PropsTerm c.in-Props.frozen (view_props c.as_slice-in-Props.result.now)) (row_is c.args.term.now c.in-Props.frozen c.in-Props.fields c.as_slice-in-Props.result.now c.in-Props.is c.as_slice-in-Props.ensures)
    (next_adds c.args.arena.now c.fields_of.new.arena c.row.new.arena (named_in_props (view_props c.as_slice-in-Props.result.now)) (field_types c.in_ok-refs-in-Props.refs.items) [] c.fields_of.ensures.adds c.in_ok-refs-in-Props.ensures.made.clean c.row.ensures.adds)

pub normal_at-returns-in_ok-at-in-Props-clause-adds : goal.normal_at-returns-in_ok-at-in-Props-clause-adds
normal_at-returns-in_ok-at-in-Props-clause-adds t c =
    adds_as c.args.arena.now c.row.new.arena (view_term c.args.term.now) (PropsTerm c.in-Props.frozen (view_props c.as_slice-in-Props.result.now)) (row_is c.args.term.now c.in-Props.frozen c.in-Props.fields c.as_slice-in-Props.result.now c.in-Props.is c.as_slice-in-Props.ensures)
    (next_adds c.args.arena.now c.fields_of.new.arena c.row.new.arena (named_in_props (view_props c.as_slice-in-Props.result.now)) (field_types c.in_ok-refs-in-Props.refs.items) [] c.fields_of.ensures.adds c.in_ok-refs-in-Props.ensures.made.clean c.row.ensures.adds)

pub normal_at-returns-in_ok-at-in-Props-clause-made : goal.normal_at-returns-in_ok-at-in-Props-clause-made
normal_at-returns-in_ok-at-in-Props-clause-made t c =
    made_as c.args.arena.now c.row.new.arena (view_term c.args.term.now) (PropsTerm c.in-Props.frozen (view_props c.as_slice-in-Props.result.now)) c.in_ok-at-in-Props.at (row_is c.args.term.now c.in-Props.frozen c.in-Props.fields c.as_slice-in-Props.result.now c.in-Props.is c.as_slice-in-Props.ensures)
    (row_form_made c.args.arena.now c.fields_of.new.arena c.row.new.arena c.in-Props.frozen (view_props c.as_slice-in-Props.result.now) c.in_ok-refs-in-Props.refs.items c.in_ok-at-in-Props.at c.fields_of.ensures.adds c.in_ok-refs-in-Props.ensures.made c.in_ok-at-in-Props.ensures.made)

pub normal_at-returns-in_default : goal.normal_at-returns-in_default
normal_at-returns-in_default t c =
    let e = leafy c.args.term.now c.in_default.not-Props c.in_default.not-Union c.in_default.not-Meet c.in_default.not-Not in
    record {
      made = subst (λ (x : TypeTerm). IfOk c.leaf.result (λ at. Made c.args.arena.now c.leaf.new.arena (named_in x) at (normal x))) e c.leaf.ensures.made;
      adds = subst (λ (x : TypeTerm). Adds c.args.arena.now c.leaf.new.arena (named_in x) []) e c.leaf.ensures.adds;
    }

pub each_of-loop-term-init : goal.each_of-loop-term-init
each_of-loop-term-init t c = each_begun c.args.arena.now c.args.terms.now c.new-refs.result.items c.new-refs.ensures.items

pub each_of-returns-in_err-at-clause-adds : goal.each_of-returns-in_err-at-clause-adds
each_of-returns-in_err-at-clause-adds t c =
    each_adds c.args.arena.now c.loop-term.arena c.normal_at.new.arena c.args.terms.now c.loop-term.refs.items c.loop-term.term-index c.term-item.result c.loop-term-test.true c.term-item.is c.loop-term.invariant c.normal_at.ensures.adds

pub each_of-returns-in_err-push-clause-adds : goal.each_of-returns-in_err-push-clause-adds
each_of-returns-in_err-push-clause-adds t c =
    each_adds c.args.arena.now c.loop-term.arena c.normal_at.new.arena c.args.terms.now c.loop-term.refs.items c.loop-term.term-index c.term-item.result c.loop-term-test.true c.term-item.is c.loop-term.invariant c.normal_at.ensures.adds

pub each_of-loop-term-preserved : goal.each_of-loop-term-preserved
each_of-loop-term-preserved t c =
    each_more c.args.arena.now c.loop-term.arena c.normal_at.new.arena c.args.terms.now c.loop-term.refs.items c.push.new.self.items c.loop-term.term-index c.term-item.result c.in_ok-at.at c.loop-term-test.true c.term-item.is c.loop-term.invariant
    c.normal_at.ensures.adds c.in_ok-at.ensures.made c.in_ok-push.ensures.items

pub each_of-returns-clause-made : goal.each_of-returns-clause-made
each_of-returns-clause-made t c =
    each_done c.args.arena.now c.loop-term.arena c.args.terms.now c.loop-term.refs.items c.loop-term.term-index (omega (arith, c.loop-term-test.false, c.loop-term.auto.term-index-end)) c.loop-term.invariant

pub each_of-returns-clause-adds : goal.each_of-returns-clause-adds
each_of-returns-clause-adds t c = c.loop-term.invariant.adds

pub fields_of-loop-prop-init : goal.fields_of-loop-prop-init
fields_of-loop-prop-init t c = fields_begun c.args.arena.now c.args.props.now c.new-fields.result.items c.new-fields.ensures.items

pub fields_of-returns-in_err-name-clause-adds : goal.fields_of-returns-in_err-name-clause-adds
fields_of-returns-in_err-name-clause-adds t c = c.loop-prop.invariant.adds

pub fields_of-returns-in_err-at-clause-adds : goal.fields_of-returns-in_err-at-clause-adds
fields_of-returns-in_err-at-clause-adds t c =
    fields_adds c.args.arena.now c.loop-prop.arena c.normal_at.new.arena c.args.props.now c.loop-prop.fields.items c.loop-prop.prop-index c.prop-item.result c.loop-prop-test.true c.prop-item.is c.loop-prop.invariant c.normal_at.ensures.adds

pub fields_of-returns-in_err-push-clause-adds : goal.fields_of-returns-in_err-push-clause-adds
fields_of-returns-in_err-push-clause-adds t c =
    fields_adds c.args.arena.now c.loop-prop.arena c.normal_at.new.arena c.args.props.now c.loop-prop.fields.items c.loop-prop.prop-index c.prop-item.result c.loop-prop-test.true c.prop-item.is c.loop-prop.invariant c.normal_at.ensures.adds

pub fields_of-loop-prop-preserved : goal.fields_of-loop-prop-preserved
fields_of-loop-prop-preserved t c =
    fields_more c.args.arena.now c.loop-prop.arena c.normal_at.new.arena c.args.props.now c.loop-prop.fields.items c.push.new.self.items c.loop-prop.prop-index c.prop-item.result c.in_ok-name.name c.in_ok-at.at c.loop-prop-test.true c.prop-item.is c.loop-prop.invariant
    c.in_ok-name.ensures.cases c.normal_at.ensures.adds c.in_ok-at.ensures.made c.in_ok-push.ensures.items

pub fields_of-returns-clause-made : goal.fields_of-returns-clause-made
fields_of-returns-clause-made t c =
    fields_done c.args.arena.now c.loop-prop.arena c.args.props.now c.loop-prop.fields.items c.loop-prop.prop-index (omega (arith, c.loop-prop-test.false, c.loop-prop.auto.prop-index-end)) c.loop-prop.invariant

pub fields_of-returns-clause-adds : goal.fields_of-returns-clause-adds
fields_of-returns-clause-adds t c = c.loop-prop.invariant.adds
