-- What tasks make of what is at hand.
use Rattle.std.specs.Prelude.{false, List, [], ◌∷◌, Some}
use Rattle.luau_tree.specs.Tree.{Expr}
use Rattle.luau_tree.specs.View.{view_bind, view_binds, view_block, view_body, view_expr, view_exprs, view_item, view_stat}
use Rattle.type_arena.specs.Term.{never}
use Rattle.type_normal.specs.Kinds.{falsy, truthy}
use Rattle.report_rules.specs.Rules.{Rules, local_named}
use Rattle.report_rules.specs.Effects.{OfField, effects, any_effects, effects_of_item, target_of}
use Rattle.report_rules.specs.Context.{none}
use Rattle.report_rules.specs.Seen.{Seen}
use Rattle.report_work.specs.Work.{Work}
use Rattle.report_work.specs.Moves.{asked_one, asked_again, asked_part, unasked, spread, unfailing, started, met, and_sides, or_sides, chosen, behind_by, written, behind_kept, behind_begun, behind_restored, behind_dropped, behind_again, decided, kept_for_value, kept_for_values, looped, apart, unlooped, broken, continued}
use Rattle.report_work.specs.Checks as plain
use Rattle.report_work.specs.Expressions.{asked_as, asked_read, asked_method, asked_changed, asked_changed_element, with_ev, with_ev_name, before}
use Rattle.report_work.specs.Found.{found_as, found_own, found_there, with_body, with_params}
use Rattle.report_work.specs.Statements.{passed, named_of_bind, with_target, undeclared, with_stat, with_block, kept_by}
use Rattle.report_plan.specs.declared.check.Check.{Check}
use Rattle.report_plan.specs.declared.check.Check.TheVariants as check
use Rattle.report_plan.specs.declared.task.Task.{Task}
use Rattle.report_plan.specs.declared.task.Task.TheVariants as task
use Rattle.report_plan.specs.declared.task.AskStep.{AskStep}
use Rattle.report_plan.specs.declared.task.AskStep.TheVariants as ask_step
use Rattle.report_plan.specs.declared.task.AnswerStep.{AnswerStep}
use Rattle.report_plan.specs.declared.task.AnswerStep.TheVariants as answer_step
use Rattle.report_plan.specs.declared.task.BehindStep.{BehindStep}
use Rattle.report_plan.specs.declared.task.BehindStep.TheVariants as behind_step
use Rattle.report_plan.specs.declared.task.LoopStep.{LoopStep}
use Rattle.report_plan.specs.declared.task.LoopStep.TheVariants as loop_step
use Rattle.report_plan.specs.declared.task.CheckTask.{CheckTask}
use Rattle.report_plan.specs.declared.task.CheckTask.TheVariants as check_task
use Rattle.report_plan.specs.declared.task.ExprTask.{ExprTask}
use Rattle.report_plan.specs.declared.task.ExprTask.TheVariants as expr_task
use Rattle.report_plan.specs.declared.task.BaseTask.{BaseTask}
use Rattle.report_plan.specs.declared.task.BaseTask.TheVariants as base_task
use Rattle.report_plan.specs.declared.task.BodyTask.TheVariants as body_task
use Rattle.report_plan.specs.declared.task.StatTask.TheVariants as stat_task

-- the check that is meant
abbrev pub check_meant : Rules → Check → plain.Check
check_meant rules check.Unchecked = plain.Unchecked
check_meant rules check.Callee = plain.Callee
check_meant rules (check.Argument callee position expanding) = plain.ArgumentOf (view_expr callee.now) position expanding
check_meant rules check.Base = plain.Base
check_meant rules check.WrittenBase = plain.WrittenBase
check_meant rules check.ChangedBase = plain.ChangedBase
check_meant rules (check.Operand op) = plain.UnaryOperand op
check_meant rules (check.Side op other) = plain.SideBeside op (view_expr other.now)
check_meant rules check.Bound = plain.Bound
check_meant rules check.Iterated = plain.Iterated
check_meant rules (check.Old op added) = plain.OldOf op (view_expr added.now)
check_meant rules (check.Added op target) = plain.AddedTo op (view_expr target.now)
check_meant rules (check.ValueOf bind) = plain.ValueFor (Some (named_of_bind rules (view_bind bind.now)))
check_meant rules (check.ValueOfTarget target) = plain.ValueFor (plain.named_of_target rules (view_expr target.now))

-- what steps make of what is at hand
abbrev pub act_ask : AskStep → Work → Work
act_ask ask_step.Never work = asked_one never work
act_ask ask_step.Again work = asked_again work
act_ask ask_step.Falsy work = asked_part falsy work
act_ask ask_step.Truthy work = asked_part truthy work
act_ask ask_step.Drop work = unasked work

abbrev pub act_answer : AnswerStep → Work → Work
act_answer answer_step.Spread work = spread work
act_answer answer_step.Unfailing work = unfailing work
act_answer answer_step.Start work = started work
act_answer answer_step.Join work = met false work

abbrev pub act_behind : BehindStep → Work → Work
act_behind behind_step.Clear work = behind_by (λ behind. none) work
act_behind behind_step.Keep work = behind_kept work
act_behind behind_step.Begin work = behind_begun work
act_behind behind_step.Restore work = behind_restored work
act_behind behind_step.Again work = behind_again work
act_behind behind_step.Drop work = behind_dropped work

abbrev pub act_loop : LoopStep → Work → Work
act_loop loop_step.Enter work = looped work
act_loop loop_step.Apart work = apart work
act_loop loop_step.Leave work = unlooped work
act_loop loop_step.Break work = broken work
act_loop loop_step.Continue work = continued work

-- what is done with an expression that is checked
abbrev pub checked : Rules → List Seen → CheckTask → plain.Check → Expr → Work → Work
checked rules seen check_task.Ask = asked_as rules seen
checked rules seen check_task.Before = before rules seen
checked rules seen check_task.Found = found_as rules seen
checked rules seen check_task.Passed = passed rules seen
checked rules seen check_task.Own = found_own rules seen
checked rules seen check_task.There = found_there rules seen

-- what is done with an expression, and with a base
abbrev pub act_expr : Rules → List Seen → ExprTask → Expr → Work → Work
act_expr rules seen expr_task.Whole e work = with_ev rules seen e work
act_expr rules seen expr_task.Name e work = with_ev_name rules e work
act_expr rules seen expr_task.Met e work = met (effects rules e) work
act_expr rules seen expr_task.And e work = and_sides rules e (effects rules e) work
act_expr rules seen expr_task.Or e work = or_sides rules e (effects rules e) work
act_expr rules seen expr_task.Choose e work = chosen rules e (effects rules e) work
act_expr rules seen expr_task.Decide e work = decided rules e work
act_expr rules seen expr_task.Target e work = with_target rules seen e work
act_expr rules seen expr_task.Write e work = written (target_of rules e) work
act_expr rules seen expr_task.KeepFor e work = kept_for_value (target_of rules e) work

abbrev pub act_base : Rules → List Seen → BaseTask → Expr → Work → Work
act_base rules seen (base_task.Read name) base work = asked_read seen base name.now work
act_base rules seen (base_task.Method name args) base work = asked_method seen base name.now (any_effects rules (view_exprs args.now)) work
act_base rules seen (base_task.Changed name) base work = asked_changed seen base name.now work
act_base rules seen base_task.ChangedElement base work = asked_changed_element seen base work
act_base rules seen (base_task.Written name) base work = written (OfField (local_named rules base) name.now) work

-- what a task makes of what is at hand
abbrev pub act : Rules → List Seen → Task → Work → Work
act rules seen (task.Ask step) work = act_ask step work
act rules seen (task.Answer step) work = act_answer step work
act rules seen (task.Behind step) work = act_behind step work
act rules seen (task.Loop step) work = act_loop step work
act rules seen (task.Check way check e) work = checked rules seen way (check_meant rules check) (view_expr e.now) work
act rules seen (task.Expr way e) work = act_expr rules seen way (view_expr e.now) work
act rules seen (task.Base way base) work = act_base rules seen way (view_expr base.now) work
act rules seen (task.Item item) work = met (effects_of_item rules (view_item item.now)) work
act rules seen (task.Values es) work = kept_for_values (any_effects rules (view_exprs es.now)) work
act rules seen (task.Binds binds) work = undeclared rules (view_binds binds.now) work
act rules seen (task.Body body_task.Whole body) work = with_body rules seen (view_body body.now) work
act rules seen (task.Body body_task.Params body) work = with_params rules seen (view_body body.now) work
act rules seen (task.Stat stat_task.Whole s) work = with_stat rules seen (view_stat s.now) work
act rules seen (task.Stat stat_task.Keep s) work = kept_by rules (view_stat s.now) work
act rules seen (task.Block block) work = with_block rules seen (view_block block.now) work

-- after tasks, the last of which is the next
abbrev pub run : Rules → List Seen → List Task → Work → Work
run rules seen [] work = work
run rules seen (t ∷ tasks) work = act rules seen t (run rules seen tasks work)

-- after tasks, the first of which is the next
abbrev pub in_order : Rules → List Seen → List Task → Work → Work
in_order rules seen [] work = work
in_order rules seen (t ∷ tasks) work = in_order rules seen tasks (act rules seen t work)
