use Rattle.std.proofs.Common.{◌∙◌, arith}
use Rattle.luau_tree.specs.View.{view_type}
use Rattle.type_lower.specs.Weight.{weight}
use Rattle.type_lower.proofs.FormFacts.{mark_step}
use Rattle.type_lower.proofs.WeightFacts.{mark_lighter}
use Rattle.type_lower.proofs.marks.unmarked.Goals as goal

pub loop-preserved : goal.loop-preserved
loop-preserved c = record {
  same = λ known. mark_step known c.loop.marks c.loop.inner.now c.in-Optional.next c.get-inner.result.now c.in-Optional.is c.get-inner.ensures ∙ c.loop.invariant.same known;
  lighter = mark_lighter c.loop.inner.now c.in-Optional.next c.get-inner.result.now (weight (view_type c.args.typ.now)) c.in-Optional.is c.get-inner.ensures c.loop.invariant.lighter;
  counted = omega arith;
}

pub returns-clause-same : goal.returns-clause-same
returns-clause-same c known = c.loop.invariant.same known

pub returns-in_default-clause-same : goal.returns-in_default-clause-same
returns-in_default-clause-same c known = c.loop.invariant.same known
