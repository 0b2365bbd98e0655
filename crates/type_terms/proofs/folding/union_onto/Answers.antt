use Rattle.std.proofs.Common.{[], ◌∷◌, arith}
use Rattle.type_normal.specs.Operations.{union}
use Rattle.type_ops.proofs.ListFacts.{no_items}
use Rattle.type_terms.proofs.Joins.{joined_begun, next_there, joined_adds, joined_more, joined_done}
use Rattle.type_terms.proofs.folding.union_onto.Goals as goal

pub loop-one-init : goal.loop-one-init
loop-one-init c = joined_begun union c.args.arena.now c.args.refs.items c.args.last c.requires.first c.requires.second

pub union-requires-clause-first : goal.union-requires-clause-first
union-requires-clause-first c = next_there union c.args.arena.now c.loop-one.arena c.args.refs.items c.args.last c.loop-one.refs.items c.pop.new.self.items c.in-Some.one c.loop-one.all c.in-Some.ensures.items c.loop-one.invariant

pub returns-in_err-all-clause-adds : goal.returns-in_err-all-clause-adds
returns-in_err-all-clause-adds c = joined_adds union c.args.arena.now c.loop-one.arena c.union.new.arena c.args.refs.items c.args.last c.loop-one.refs.items c.pop.new.self.items c.in-Some.one c.loop-one.all [] c.in-Some.ensures.items c.loop-one.invariant c.in_err-all.ensures.err

pub loop-one-preserved : goal.loop-one-preserved
loop-one-preserved c =
    joined_more union c.args.arena.now c.loop-one.arena c.union.new.arena c.args.refs.items c.args.last c.loop-one.refs.items c.pop.new.self.items c.in-Some.one c.loop-one.all c.in_ok-all.all (c.in_ok-all.all ∷ []) c.in-Some.ensures.items c.loop-one.invariant
    c.in_ok-all.ensures.term c.in_ok-all.ensures.there c.in_ok-all.ensures.clean c.in_ok-all.ensures.adds

pub returns-clause-made : goal.returns-clause-made
returns-clause-made c = joined_done union c.args.arena.now c.loop-one.arena c.args.refs.items c.args.last c.loop-one.refs.items c.loop-one.all (no_items c.loop-one.refs.items (omega (arith, c.in_default.ensures.cases.0, c.loop-one.refs.ok.0))) c.loop-one.invariant

pub returns-clause-adds : goal.returns-clause-adds
returns-clause-adds c = c.loop-one.invariant.adds
