-- What a module gives, one step after the other.
use Rattle.std.proofs.Common.{◌≡◌, ap, ◌∙◌}
use Rattle.type_normal.specs.Cut.{cut_up}
use Rattle.type_normal.specs.HeapFree.{widen}
use Rattle.type_normal.specs.Kinds.{nil_type}
use Rattle.type_normal.specs.Operations.{union}
use Rattle.report_rules.specs.After.{where_live}
use Rattle.rule_work.specs.Moves.{valued, put_aside, made}
use Rattle.rule_work.specs.Work.{Work}
use Rattle.type_infer.specs.Summary.{summarized}

pub summary_steps : (first held nil live both wide last : Work) → held ≡ put_aside first → nil ≡ valued nil_type held → live ≡ valued (where_live nil.map nil.value) nil
    → both ≡ made union live → wide ≡ valued (widen both.value) both → last ≡ valued (cut_up wide.value) wide → last ≡ summarized first
summary_steps first held nil live both wide last held_is nil_is live_is both_is wide_is last_is =
    last_is
    ∙ ap (λ (w : Work). valued (cut_up w.value) w) (wide_is
    ∙ ap (λ (w : Work). valued (widen w.value) w) (both_is
    ∙ ap (made union) (live_is
    ∙ ap (λ (w : Work). valued (where_live w.map w.value) w) (nil_is ∙ ap (valued nil_type) held_is))))
