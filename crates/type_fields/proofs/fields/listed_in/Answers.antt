use Rattle.std.proofs.Common.{◌≡◌, true, false, sym, ◌∙◌}
use Rattle.std.specs.Str.{bytes_eq}
use Rattle.type_fields.proofs.UnionFacts.{listed_first}
use Rattle.type_fields.proofs.fields.listed_in.Goals as goal

pub returns-then-eq : goal.returns-then-eq
returns-then-eq c =
    let same : bytes_eq c.field-item.result.0 c.args.name.now ≡ true = sym c.eq.ensures ∙ c.if-eq.true in
    sym (listed_first c.args.name.now c.args.unlisted c.args.fields.now c.loop-field.field-index c.field-item.result true c.loop-field-test.true c.field-item.is c.loop-field.invariant same)

pub loop-field-preserved : goal.loop-field-preserved
loop-field-preserved c =
    let same : bytes_eq c.field-item.result.0 c.args.name.now ≡ false = sym c.eq.ensures ∙ c.if-eq.false in
    listed_first c.args.name.now c.args.unlisted c.args.fields.now c.loop-field.field-index c.field-item.result false c.loop-field-test.true c.field-item.is c.loop-field.invariant same
