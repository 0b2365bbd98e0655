-- What stays while tasks are done.
use Rattle.std.proofs.Common.{◌≡◌, ℕ, List, [], ◌∷◌, Result, Ok, Err, length, refl, ap, ◌∙◌, arith}
use Rattle.std.specs.Prelude.{OnOk}
use Rattle.luau_tree.specs.Tree.{Expr, the_expr, Body, the_body}
use Rattle.luau_tree.specs.View.{view_body, view_expr}
use Rattle.type_arena.specs.Term.{Term}
use Rattle.report_rules.specs.Rules.{Rules}
use Rattle.report_rules.specs.TypeMap.{TypeMap}
use Rattle.rule_work.specs.Work.{Work}
use Rattle.rule_work.specs.Moves.{taken_from, made_from, added_to, restored_from, ended_in, closed_from}
use Rattle.rule_work.specs.Listed.{used_from, first_taken_in, first_taken_from}
use Rattle.rule_work.specs.Branches.{joined_from}
use Rattle.infer_plan.specs.Run.{act, act_step, run}
use Rattle.infer_plan.specs.Steps.{with_form, called_at, opened_at, body_seen, entered}
use Rattle.infer_plan.specs.declared.task.Task.{Task}
use Rattle.infer_plan.specs.declared.task.Task.TheVariants as task
use Rattle.infer_plan.specs.declared.task.Step.{Step}
use Rattle.infer_plan.specs.declared.task.Step.TheVariants as step
use Rattle.infer_plan.specs.declared.task.ExprTask.TheVariants as expr_task
use Rattle.infer_plan.specs.declared.task.ListTask.TheVariants as list_task
use Rattle.infer_plan.specs.declared.task.BodyTask.TheVariants as body_task
use Rattle.infer_plan.specs.declared.task.StatTask.TheVariants as stat_task
use Rattle.infer_plan.specs.declared.task.NameTask.TheVariants as name_task
use Rattle.infer_plan.specs.declared.task.WriteTask.TheVariants as write_task
use Rattle.type_infer.specs.Under.{Went}

taken_keeps : (held : List Term) (work : Work) → (taken_from held work).around ≡ work.around
taken_keeps [] work = refl
taken_keeps (type ∷ held) work = refl

made_keeps : (both : Term → Term → Term) (held : List Term) (work : Work) → (made_from both held work).around ≡ work.around
made_keeps both [] work = refl
made_keeps both (type ∷ held) work = refl

added_keeps : (lists : List (List Term)) (work : Work) → (added_to lists work).around ≡ work.around
added_keeps [] work = refl
added_keeps (list ∷ lists) work = refl

restored_keeps : (saved : List TypeMap) (work : Work) → (restored_from saved work).around ≡ work.around
restored_keeps [] work = refl
restored_keeps (map ∷ saved) work = refl

ended_keeps : (ends : List (List TypeMap)) (work : Work) → (ended_in ends work).around ≡ work.around
ended_keeps [] work = refl
ended_keeps (maps ∷ ends) work = refl

joined_keeps : (ends : List (List TypeMap)) (work : Work) → (joined_from ends work).around ≡ work.around
joined_keeps [] work = refl
joined_keeps (maps ∷ ends) work = refl

closed_keeps : (pending : List ℕ) (work : Work) → (closed_from pending work).around ≡ work.around
closed_keeps [] work = refl
closed_keeps (place ∷ pending) work = refl

used_keeps : (f : List Term → Term → Term) (lists : List (List Term)) (work : Work) → (used_from f lists work).around ≡ work.around
used_keeps f [] work = refl
used_keeps f (list ∷ lists) work = refl

first_keeps_in : (expanding : _) (list : List Term) (lists : List (List Term)) (work : Work) → (first_taken_in expanding list lists work).around ≡ work.around
first_keeps_in expanding [] lists work = refl
first_keeps_in expanding (type ∷ types) lists work = refl

first_keeps : (expanding : _) (lists : List (List Term)) (work : Work) → (first_taken_from expanding lists work).around ≡ work.around
first_keeps expanding [] work = refl
first_keeps expanding (list ∷ lists) work = first_keeps_in expanding list lists work

step_keeps : (s : Step) (work : Work) → (act_step s work).around ≡ work.around
step_keeps step.Hold work = refl
step_keeps step.Take work = taken_keeps work.held work
step_keeps step.Save work = refl
step_keeps step.Restore work = restored_keeps work.saved work
step_keeps step.BeginList work = refl
step_keeps step.Add work = added_keeps work.lists work
step_keeps step.EndList work = refl
step_keeps step.FirstOrNever work = used_keeps _ work.lists work
step_keeps step.UnionList work = used_keeps _ work.lists work
step_keeps (step.TakeFirst expanding) work = first_keeps expanding work.lists work
step_keeps step.BeginEnds work = refl
step_keeps step.AddEnd work = ended_keeps work.ends work
step_keeps step.JoinEnds work = joined_keeps work.ends work
step_keeps step.End work = refl
step_keeps step.LiveOnly work = refl
step_keeps step.Close work = closed_keeps work.pending work
step_keeps (step.Plain kind) work = refl
step_keeps (step.Keep effects_later) work = refl
step_keeps (step.After has_effects) work = refl
step_keeps step.Union work = made_keeps _ work.held work
step_keeps step.Meet work = made_keeps _ work.held work
step_keeps (step.Binary op) work = made_keeps _ work.held work
step_keeps (step.Unary op) work = refl

form_keeps : (rules : Rules) (e : Expr) (work : Work) → (with_form rules e work).around ≡ work.around
form_keeps rules (the_expr id span kind) work = refl

called_keeps : (rules : Rules) (e : Expr) (work : Work) → (called_at rules e work).around ≡ work.around
called_keeps rules (the_expr id span kind) work = made_keeps _ work.held work

opened_keeps : (e : Expr) (work : Work) → (opened_at e work).around ≡ work.around
opened_keeps (the_expr id span kind) work = refl

seen_keeps : (body : Body) (work : Work) → (body_seen body work).around ≡ work.around
seen_keeps (the_body id has_self generics params vararg result block span) work = refl

entered_keeps : (rules : Rules) (body : Body) (work : Work) → (entered rules body work).around ≡ work.around
entered_keeps rules (the_body id has_self generics params vararg result block span) work = refl

act_keeps : (rules : Rules) (t : Task) (work : Work) → (act rules t work).around ≡ work.around
act_keeps rules (task.Step s) work = step_keeps s work
act_keeps rules (task.Expr expr_task.Whole e) work = refl
act_keeps rules (task.Expr expr_task.Form e) work = form_keeps rules (view_expr e.now) work
act_keeps rules (task.Expr expr_task.Target e) work = refl
act_keeps rules (task.Expr expr_task.Open e) work = opened_keeps (view_expr e.now) work
act_keeps rules (task.Expr expr_task.Name e) work = refl
act_keeps rules (task.Expr expr_task.TargetName e) work = refl
act_keeps rules (task.Expr expr_task.Path e) work = refl
act_keeps rules (task.Expr expr_task.Call e) work = called_keeps rules (view_expr e.now) work
act_keeps rules (task.Expr expr_task.WhenTrue e) work = refl
act_keeps rules (task.Expr expr_task.WhenFalse e) work = refl
act_keeps rules (task.Exprs list_task.Values es) work = refl
act_keeps rules (task.Exprs list_task.Targets es) work = refl
act_keeps rules (task.Row items) work = used_keeps _ work.lists work
act_keeps rules (task.Body body_task.Whole body) work = refl
act_keeps rules (task.Body body_task.See body) work = seen_keeps (view_body body.now) work
act_keeps rules (task.Body body_task.Enter body) work = entered_keeps rules (view_body body.now) work
act_keeps rules (task.Body body_task.Literal body) work = refl
act_keeps rules (task.Stat stat_task.Whole s) work = refl
act_keeps rules (task.Stat stat_task.Head s) work = refl
act_keeps rules (task.Block block) work = refl
act_keeps rules (task.Set bind) work = refl
act_keeps rules (task.Name name_task.Text name) work = refl
act_keeps rules (task.Name name_task.Property name) work = refl
act_keeps rules (task.Write write_task.Write target) work = refl
act_keeps rules (task.Write write_task.Store target) work = refl
act_keeps rules (task.Write write_task.Disturb target) work = refl

-- a step, after which the same tasks are left
pub by_step : (rules : Rules) (t : Task) (tasks : List Task) (before after : Work) → after ≡ act rules t before → Went rules t tasks tasks before after
by_step rules t tasks before after made = record {
  same = ap (run rules tasks) made;
  around = ap (λ (work : Work). work.around) made ∙ act_keeps rules t before;
}

-- a part, after which the same is at hand
pub by_parts : (rules : Rules) (t : Task) (tasks left : List Task) (work : Work) → run rules left work ≡ run rules tasks (act rules t work) → Went rules t tasks left work work
by_parts rules t tasks left work made = record { same = made; around = refl }

-- what holds anyway holds on success
pub always : {T E Q : Type 0} (r : Result T E) → Q → OnOk r Q
always (Ok x) q = q
always (Err e) q = tt

-- a list without items
pub empty : {X : Type 0} (xs : List X) → length xs ≡ 0 → xs ≡ []
empty [] none = refl
empty (x ∷ xs) none = absurd (omega (arith, none))
