use Rattle.std.proofs.Common.{ℕ, List, length, drop, ap, ◌∙◌}
use Rattle.luau_tree.specs.declared.position.Span.{Span}
use Rattle.luau_tree.specs.View.{view_expr}
use Rattle.luau_scope.specs.declared.findings.Findings.{Findings}
use Rattle.luau_scope.specs.Steps.{after_expr, after_pass, after_until, run, without_own}
use Rattle.luau_scope.proofs.Pushes.{before, pushed}
use Rattle.luau_scope.proofs.walker.Walker.until.Goals as goal

pub returns : goal.returns
unfolding after_until
returns c =
    let cond = view_expr c.args.cond.now in
    let found = c.args.self.now.found in
    let left = without_own c.args.start c.args.self.now in
    pushed c.push-2.result _ _ _ _ _ _ c.push-2.ensures.ok (before _ _ _ _ c.in_ok-push.ensures.ok
    ∙ ap (λ (f : Findings). run c.args.tasks.now (after_pass c.in_ok-own.own c.len-uses.result c.len-declared.result c.args.depth (after_expr c.args.within cond (record c.args.self.now { found = f })))) c.in_ok-own.ensures.rest
    ∙ ap (λ (own : List (Span × ℕ)). run c.args.tasks.now (after_pass own c.len-uses.result c.len-declared.result c.args.depth (after_expr c.args.within cond left))) c.in_ok-own.ensures.own
    ∙ ap (λ (n : ℕ). run c.args.tasks.now (after_pass (drop c.args.start found.pending) n c.len-declared.result c.args.depth (after_expr c.args.within cond left))) (c.len-uses.ensures ∙ ap (λ (f : Findings). length f.uses) c.in_ok-own.ensures.rest)
    ∙ ap (λ (n : ℕ). run c.args.tasks.now (after_pass (drop c.args.start found.pending) (length found.uses) n c.args.depth (after_expr c.args.within cond left))) (c.len-declared.ensures ∙ ap (λ (f : Findings). length f.locals) c.in_ok-own.ensures.rest))
