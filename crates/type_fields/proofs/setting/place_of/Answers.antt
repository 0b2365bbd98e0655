use Rattle.std.proofs.Common.{◌≡◌, ℕ, ◌+◌, length, drop, refl, ap, ◌∙◌, arith}
use Rattle.std.specs.declared.cmp.Ordering.TheVariants.{Less, Equal, Greater}
use Rattle.type_normal.specs.Free.{name_cmp}
use Rattle.type_fields.specs.Setting.{name_place}
use Rattle.type_fields.proofs.SettingFacts.{place_found, place_next, place_end}
use Rattle.type_fields.proofs.setting.place_of.Goals as goal

pub returns-in-Less : goal.returns-in-Less
returns-in-Less c =
    let o : name_cmp c.args.name.now c.index-fields-i.result.0 ≡ Less = (cc) in
    place_found c.args.name.now c.args.fields.now c.loop-i.i c.index-fields-i.result Less c.loop-i-test.true c.index-fields-i.is c.loop-i.invariant o refl

pub returns-in-Equal : goal.returns-in-Equal
returns-in-Equal c =
    let o : name_cmp c.args.name.now c.index-fields-i.result.0 ≡ Equal = (cc) in
    place_found c.args.name.now c.args.fields.now c.loop-i.i c.index-fields-i.result Equal c.loop-i-test.true c.index-fields-i.is c.loop-i.invariant o refl

pub loop-i-preserved : goal.loop-i-preserved
loop-i-preserved c =
    let o : name_cmp c.args.name.now c.index-fields-i.result.0 ≡ Greater = (cc) in
    place_next c.args.name.now c.args.fields.now c.loop-i.i c.index-fields-i.result c.loop-i-test.true c.index-fields-i.is c.loop-i.invariant o

pub returns : goal.returns
returns c =
    let e : c.loop-i.i ≡ length c.args.fields.now = omega (arith, c.loop-i-test.false, c.loop-i.auto.i-end) in
    place_end c.args.name.now c.args.fields.now
    (c.loop-i.invariant ∙ ap (λ (n : ℕ). n + name_place c.args.name.now (drop n c.args.fields.now)) e)
