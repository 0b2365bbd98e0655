use Rattle.std.proofs.Common.{◌≡◌, [], ◌∷◌, ◌++◌, ℕ, length, List, ap, sym, ◌∙◌}
use Rattle.std.specs.Prelude.{not, map, reverse}
use Rattle.std.proofs.lemmas.List.{map-append, reverse-append, length-map}
use Rattle.report_rules.specs.Seen.{Seen, SeenExpr}
use Rattle.rule_state.specs.Work.{seen_of, work_of}
use Rattle.rule_state.proofs.state.RuleState.open.Goals as goal

pub returns : goal.returns
unfolding work_of
returns c =
    let state = c.args.self.now in
    let seen : map (seen_of state.types) c.push.new.self.items ≡ (work_of state).seen ++ SeenExpr c.args.id.0 (work_of state).value (not (work_of state).map.dead) ∷ []
    = ap (map (seen_of state.types)) c.in_ok-push.ensures.items ∙ map-append (seen_of state.types) state.seen.items (_ ∷ []) in
    let long : c.len-place.result ≡ length (work_of state).seen = c.len-place.ensures ∙ (state.seen.ok.0 ∙ sym (length-map state.seen.items (seen_of state.types))) in
    let pending : reverse c.push-2.new.self.items ≡ length (work_of state).seen ∷ (work_of state).pending
    = ap reverse c.in_ok-push-2.ensures.items ∙ (reverse-append state.pending.items (c.len-place.result ∷ []) ∙ ap (λ (n : ℕ). n ∷ reverse state.pending.items) long) in
    ap (λ (s : List Seen). record (work_of state) { seen = s; pending = reverse c.push-2.new.self.items }) seen
    ∙ ap (λ (p : List ℕ). record (work_of state) { seen = (work_of state).seen ++ SeenExpr c.args.id.0 (work_of state).value (not (work_of state).map.dead) ∷ []; pending = p }) pending
