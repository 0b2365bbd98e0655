use Rattle.std.proofs.Common.{Bool, sym, ap, ◌∙◌}
use Rattle.luau_tree.specs.declared.position.Span.{Span}
use Rattle.luau_tree.specs.View.{view_expr}
use Rattle.luau_scope.specs.declared.findings.Findings.{Findings}
use Rattle.luau_scope.specs.declared.refusal.Refusal.TheVariants.{RepeatedTarget}
use Rattle.luau_scope.specs.Found.{Assigns}
use Rattle.luau_scope.specs.Finds.{refused_if}
use Rattle.luau_scope.specs.Locals.{is_among}
use Rattle.luau_scope.specs.Steps.{after_part, step}
use Rattle.luau_scope.proofs.Aims.{aim_elsewhere, aim_local, span_seen, target_refused}
use Rattle.luau_scope.proofs.walker.Walker.aim.Goals as goal

pub returns-in_ok-assign : goal.returns-in_ok-assign
returns-in_ok-assign c =
    let t = c.refuse_if.new.self in
    let local = c.in-Some.local in
    c.refuse_if-in-Some.ensures
    ∙ ap (λ (b : Bool). after_part (refused_if b RepeatedTarget c.args.target.now.span) (record t { found = c.assign.new.self })) c.has.ensures
    ∙ ap (λ (f : Findings). after_part (refused_if (is_among local c.args.earlier.now) RepeatedTarget c.args.target.now.span) (record t { found = f })) c.in_ok-assign.ensures
    ∙ ap (λ (span : Span). after_part (refused_if (is_among local c.args.earlier.now) RepeatedTarget span) (record t { found = step (Assigns local) t.found })) (sym (span_seen c.args.target.now))
    ∙ aim_local c.args.within c.args.earlier.now (view_expr c.args.target.now) local c.args.self.now t (target_refused c.args.within c.args.target.now c.in_ok-touches.touches c.args.self.now t c.refuse_if.ensures c.in_ok-touches.ensures) (rw c.in-Some.is at c.target_local.ensures)

pub returns-in_default : goal.returns-in_default
returns-in_default c =
    aim_elsewhere c.args.within c.args.earlier.now (view_expr c.args.target.now) c.args.self.now c.refuse_if.new.self (target_refused c.args.within c.args.target.now c.in_ok-touches.touches c.args.self.now c.refuse_if.new.self c.refuse_if.ensures c.in_ok-touches.ensures)
    (rw c.in_default.is at c.target_local.ensures)
