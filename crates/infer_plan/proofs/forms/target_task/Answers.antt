use Rattle.std.proofs.Common.{arith}
use Rattle.luau_tree.specs.View.{view_expr}
use Rattle.infer_plan.proofs.ExprForms.{named_target, other_at}
use Rattle.module_facts.proofs.Forms.{name_expr}
use Rattle.luau_scope.proofs.NameForms.{unnamed}
use Rattle.infer_plan.proofs.forms.target_task.Goals as goal

pub returns-in-Name-clause-work : goal.returns-in-Name-clause-work
returns-in-Name-clause-work c = λ rules work. named_target rules (view_expr c.args.e.now) c.args.e.now.id.0 c.args.e.now.span c.in-Name.field-0 work (name_expr c.args.e.now c.in-Name.field-0 c.in-Name.is)

pub returns-in_default : goal.returns-in_default
returns-in_default c = record {
  work = λ rules work. other_at rules (view_expr c.args.e.now) work (unnamed c.args.e.now c.in_default.not-Name);
  light = omega arith;
}
