-- What tasks make of what is at hand.
use Rattle.std.specs.Prelude.{true, false, not, List, [], ◌∷◌}
use Rattle.luau_tree.specs.View.{view_bind, view_block, view_body, view_expr, view_exprs, view_items, view_stat}
use Rattle.type_normal.specs.Kinds.{text_type}
use Rattle.type_normal.specs.Operations.{union, meet}
use Rattle.type_fields.specs.Plain.{plain_term}
use Rattle.type_fields.specs.Unions.{unions_with}
use Rattle.report_rules.specs.Rules.{Rules}
use Rattle.report_rules.specs.TypeMap.{ended, disturbed}
use Rattle.report_rules.specs.Forward.{first_or_never, held, property, unary_type, binary_type, literal_type}
use Rattle.module_facts.specs.Targets.{target_meant}
use Rattle.rule_work.specs.Work.{Work}
use Rattle.rule_work.specs.Moves.{valued, put_aside, taken, made, list_begun, added, unlisted, mapped, kept_map, restored, ends_begun, end_added, closed}
use Rattle.rule_work.specs.Listed.{used, first_taken}
use Rattle.rule_work.specs.Branches.{ends_joined}
use Rattle.rule_work.specs.Tables.{rowed}
use Rattle.infer_plan.specs.Steps.{with_expr, with_form, with_target, opened_at, with_name, with_target_name, with_path, called_at, decided, changed, with_values, with_targets, item_names, with_body, body_seen, entered, with_stat, headed_by, live_only, with_block, set_bind, write, store}
use Rattle.infer_plan.specs.declared.task.Task.{Task}
use Rattle.infer_plan.specs.declared.task.Task.TheVariants as task
use Rattle.infer_plan.specs.declared.task.Step.{Step}
use Rattle.infer_plan.specs.declared.task.Step.TheVariants as step
use Rattle.infer_plan.specs.declared.task.ExprTask.TheVariants as expr_task
use Rattle.infer_plan.specs.declared.task.ListTask.TheVariants as list_task
use Rattle.infer_plan.specs.declared.task.BodyTask.TheVariants as body_task
use Rattle.infer_plan.specs.declared.task.StatTask.TheVariants as stat_task
use Rattle.infer_plan.specs.declared.task.NameTask.TheVariants as name_task
use Rattle.infer_plan.specs.declared.task.WriteTask.TheVariants as write_task

-- what a step makes of what is at hand
abbrev pub act_step : Step → Work → Work
act_step step.Hold work = put_aside work
act_step step.Take work = taken work
act_step step.Save work = kept_map work
act_step step.Restore work = restored work
act_step step.BeginList work = list_begun work
act_step step.Add work = added work
act_step step.EndList work = unlisted work
act_step step.FirstOrNever work = used (λ types value. first_or_never types) work
act_step step.UnionList work = used unions_with work
act_step (step.TakeFirst expanding) work = first_taken expanding work
act_step step.BeginEnds work = ends_begun work
act_step step.AddEnd work = end_added work
act_step step.JoinEnds work = ends_joined work
act_step step.End work = mapped ended work
act_step step.LiveOnly work = live_only work
act_step step.Close work = closed work
act_step (step.Plain kind) work = valued (plain_term kind) work
act_step (step.Keep effects_later) work = valued (held effects_later work.value) work
act_step (step.After has_effects) work = changed has_effects work
act_step step.Union work = made union work
act_step step.Meet work = made meet work
act_step (step.Binary op) work = made (binary_type op) work
act_step (step.Unary op) work = valued (unary_type op work.value) work

-- what a task makes of what is at hand
abbrev pub act : Rules → Task → Work → Work
act rules (task.Step s) work = act_step s work
act rules (task.Expr expr_task.Whole e) work = with_expr rules (view_expr e.now) work
act rules (task.Expr expr_task.Form e) work = with_form rules (view_expr e.now) work
act rules (task.Expr expr_task.Target e) work = with_target rules (view_expr e.now) work
act rules (task.Expr expr_task.Open e) work = opened_at (view_expr e.now) work
act rules (task.Expr expr_task.Name e) work = with_name rules (view_expr e.now) work
act rules (task.Expr expr_task.TargetName e) work = with_target_name rules (view_expr e.now) work
act rules (task.Expr expr_task.Path e) work = with_path rules (view_expr e.now) work
act rules (task.Expr expr_task.Call e) work = called_at rules (view_expr e.now) work
act rules (task.Expr expr_task.WhenTrue e) work = decided rules (view_expr e.now) true work
act rules (task.Expr expr_task.WhenFalse e) work = decided rules (view_expr e.now) false work
act rules (task.Exprs list_task.Values es) work = with_values rules (view_exprs es.now) work
act rules (task.Exprs list_task.Targets es) work = with_targets rules (view_exprs es.now) work
act rules (task.Row items) work = rowed (item_names (view_items items.now)) work
act rules (task.Body body_task.Whole body) work = with_body rules (view_body body.now) work
act rules (task.Body body_task.See body) work = body_seen (view_body body.now) work
act rules (task.Body body_task.Enter body) work = entered rules (view_body body.now) work
act rules (task.Body body_task.Literal body) work = valued (literal_type rules (view_body body.now)) work
act rules (task.Stat stat_task.Whole s) work = with_stat rules (view_stat s.now) work
act rules (task.Stat stat_task.Head s) work = headed_by rules (view_stat s.now) work
act rules (task.Block block) work = with_block rules (view_block block.now) work
act rules (task.Set bind) work = set_bind rules (view_bind bind.now) work
act rules (task.Name name_task.Text name) work = valued (text_type name.now) work
act rules (task.Name name_task.Property name) work = valued (property name.now work.value) work
act rules (task.Write write_task.Write target) work = write rules (target_meant target) work
act rules (task.Write write_task.Store target) work = store rules (target_meant target) work
act rules (task.Write write_task.Disturb target) work = mapped (disturbed (target_meant target)) work

-- after tasks, the last of which is the next
abbrev pub run : Rules → List Task → Work → Work
run rules [] work = work
run rules (t ∷ tasks) work = act rules t (run rules tasks work)

-- after tasks, the first of which is the next
abbrev pub in_order : Rules → List Task → Work → Work
in_order rules [] work = work
in_order rules (t ∷ tasks) work = in_order rules tasks (act rules t work)
