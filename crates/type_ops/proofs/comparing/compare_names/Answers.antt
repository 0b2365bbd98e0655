use Rattle.std.proofs.Common.{◌≡◌, ◌<◌, length, sym, ◌∙◌, arith}
use Rattle.std.specs.Prelude.{min}
use Rattle.type_normal.specs.Free.{name_cmp}
use Rattle.type_ops.proofs.CompareFacts.{names_differ, names_tie, names_end}
use Rattle.type_ops.proofs.comparing.compare_names.Goals as goal

pub returns-then-is_ne : goal.returns-then-is_ne
returns-then-is_ne c means =
    let l : c.loop-i.i < length c.args.fields.now = omega (arith, c.loop-i-test.true, c.min-i-end.ensures) in
    let m : c.loop-i.i < length c.args.others.now = omega (arith, c.loop-i-test.true, c.min-i-end.ensures) in
    let o : c.cmp-order.result ≡ name_cmp c.index-fields-i.result.0 c.index-others-i.result.0 = (cc) in
    names_differ means c.args.fields.now c.args.others.now c.loop-i.i c.index-fields-i.result c.index-others-i.result c.cmp-order.result l m c.index-fields-i.is c.index-others-i.is (c.loop-i.invariant means) o (sym c.is_ne.ensures ∙ c.if-is_ne.true)

pub loop-i-preserved : goal.loop-i-preserved
loop-i-preserved c means =
    let l : c.loop-i.i < length c.args.fields.now = omega (arith, c.loop-i-test.true, c.min-i-end.ensures) in
    let m : c.loop-i.i < length c.args.others.now = omega (arith, c.loop-i-test.true, c.min-i-end.ensures) in
    let o : c.cmp-order.result ≡ name_cmp c.index-fields-i.result.0 c.index-others-i.result.0 = (cc) in
    names_tie means c.args.fields.now c.args.others.now c.loop-i.i c.index-fields-i.result c.index-others-i.result c.cmp-order.result l m c.index-fields-i.is c.index-others-i.is (c.loop-i.invariant means) o (sym c.is_ne.ensures ∙ c.if-is_ne.false)

pub returns : goal.returns
returns c means =
    let e : c.loop-i.i ≡ min (length c.args.fields.now) (length c.args.others.now) = omega (arith, c.loop-i-test.false, c.min-i-end.ensures, c.loop-i.auto.i-end) in
    c.cmp.ensures ∙ names_end means c.args.fields.now c.args.others.now c.loop-i.i e (c.loop-i.invariant means)
