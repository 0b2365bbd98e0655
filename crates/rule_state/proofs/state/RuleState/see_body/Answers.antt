use Rattle.std.proofs.Common.{[], ◌∷◌, List, ap, ◌∙◌}
use Rattle.std.specs.Prelude.{map}
use Rattle.std.proofs.lemmas.List.{map-append}
use Rattle.report_rules.specs.Seen.{Seen}
use Rattle.rule_state.specs.Work.{seen_of, work_of}
use Rattle.rule_state.proofs.state.RuleState.see_body.Goals as goal

pub returns : goal.returns
unfolding work_of
returns c =
    ap (λ (seen : List Seen). record (work_of c.args.self.now) { seen = seen })
    (ap (map (seen_of c.args.self.now.types)) c.in_ok-push.ensures.items ∙ map-append (seen_of c.args.self.now.types) c.args.self.now.seen.items (_ ∷ []))
