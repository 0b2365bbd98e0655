use Rattle.std.proofs.Common.{ℕ, List, take, drop, ap, ◌∙◌}
use Rattle.luau_tree.specs.declared.position.Span.{Span}
use Rattle.luau_scope.specs.declared.findings.Findings.{Findings}
use Rattle.luau_scope.specs.Found.{Scope}
use Rattle.luau_scope.specs.Steps.{added, after_close, after_pass, passed_locals}
use Rattle.luau_scope.proofs.walker.Walker.pass.Goals as goal

pub returns : goal.returns
unfolding after_pass after_close
returns c =
    let s = c.args.self.now in
    let r = c.args.repeated.now in
    ap (λ (scope : Scope). record s { scope = scope; found = c.pass_locals.new.self }) c.close.ensures
    ∙ ap (λ (f : Findings). record s { scope = take r.depth s.scope; found = f })
    (c.pass_locals.ensures ∙ ap (λ (own : List (Span × ℕ)). added (passed_locals own (drop r.uses s.found.uses) r.declared) s.found) c.as_slice.ensures)
