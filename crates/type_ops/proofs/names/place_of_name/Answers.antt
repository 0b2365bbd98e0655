use Rattle.std.proofs.Common.{◌≡◌, ℕ, length, drop, ap, sym, ◌∙◌, arith}
use Rattle.std.specs.declared.cmp.Ordering.TheVariants.{Less, Equal, Greater}
use Rattle.type_normal.specs.Free.{name_cmp}
use Rattle.type_ops.specs.Lists.{name_place}
use Rattle.type_ops.proofs.NameFacts.{farther, farther_none, name_less, name_same, name_more, name_end}
use Rattle.type_ops.proofs.names.place_of_name.Goals as goal

pub loop-i-init : goal.loop-i-init
loop-i-init c = farther_none _

pub returns-in-Less : goal.returns-in-Less
returns-in-Less c =
    let o : name_cmp c.args.name.now c.index-fields-i.result.0 ≡ Less = (cc) in
    name_less c.args.name.now c.args.fields.now c.loop-i.i c.index-fields-i.result c.loop-i-test.true c.index-fields-i.is c.loop-i.invariant o

pub returns-in-Equal : goal.returns-in-Equal
returns-in-Equal c =
    let o : name_cmp c.args.name.now c.index-fields-i.result.0 ≡ Equal = (cc) in
    name_same c.args.name.now c.args.fields.now c.loop-i.i c.index-fields-i.result c.loop-i-test.true c.index-fields-i.is c.loop-i.invariant o

pub loop-i-preserved : goal.loop-i-preserved
loop-i-preserved c =
    let o : name_cmp c.args.name.now c.index-fields-i.result.0 ≡ Greater = (cc) in
    name_more c.args.name.now c.args.fields.now c.loop-i.i c.index-fields-i.result c.loop-i-test.true c.index-fields-i.is c.loop-i.invariant o

pub returns : goal.returns
returns c =
    let e : c.loop-i.i ≡ length c.args.fields.now = omega (arith, c.loop-i-test.false, c.loop-i.auto.i-end) in
    name_end c.args.name.now c.args.fields.now
    (c.loop-i.invariant ∙ ap (λ (n : ℕ). farther n (name_place c.args.name.now (drop n c.args.fields.now))) e)
