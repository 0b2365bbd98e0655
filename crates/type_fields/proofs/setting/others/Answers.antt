use Rattle.std.proofs.Common.{◌≡◌, ℕ, List, not, sym, ap, ◌∙◌}
use Rattle.std.specs.Str.{bytes_eq}
use Rattle.type_arena.specs.declared.node.TypeRef.{TypeRef}
use Rattle.type_ops.proofs.NormalFacts.{kept_more, kept_same}
use Rattle.type_fields.proofs.setting.others.Goals.{then-not-own+in_ok-clone+in_ok-push, else-not-own}
use Rattle.type_fields.proofs.setting.others.Goals as goal

pub loop-field-preserved : goal.loop-field-preserved
loop-field-preserved c =
    elim c.if-not-own.branch [
      | then-not-own+in_ok-clone+in_ok-push w ↦
          kept_more (λ (field : List ℕ × TypeRef). not (bytes_eq field.0 c.args.name.now)) c.args.fields.now c.loop-field.field-index c.field-item.result (w.in_ok-clone.field-0, c.field-item.result.1)
          c.loop-field.all.items c.if-not-own.all.items c.loop-field-test.true c.field-item.is
          (let same : w.in_ok-clone.field-0 ≡ c.field-item.result.0 = w.in_ok-clone.ensures.cases in λ i. (same i, c.field-item.result.1))
          (ap not (sym c.eq-own.ensures ∙ w.if-not-own.true)) c.loop-field.invariant
          (let pushed = w.in_ok-push.ensures.items in cc)
      | else-not-own w ↦
          kept_same (λ (field : List ℕ × TypeRef). not (bytes_eq field.0 c.args.name.now)) c.args.fields.now c.loop-field.field-index c.field-item.result
          c.loop-field.all.items c.if-not-own.all.items c.loop-field-test.true c.field-item.is
          (ap not (sym c.eq-own.ensures ∙ w.if-not-own.false)) c.loop-field.invariant (cc)
    ]
