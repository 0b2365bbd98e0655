-- How much is still to be done: a part of a module weighs more than all that is put in its place.
use Rattle.std.specs.Prelude.{ℕ, ◌+◌, List, [], ◌∷◌}
use Rattle.luau_tree.specs.Tree.{Block, no_stats, more_stats, Stat, the_stat, StatKind, Assign, Compound, CallStat, Do, While, Repeat, If, NumFor, GenFor, FunctionStat, LocalFunction, Local, Return, Arms, no_arms, more_arms, MaybeBlock, no_block, a_block}
use Rattle.luau_tree.specs.Tree.{Expr, the_expr, Exprs, no_exprs, more_exprs, MaybeExpr, no_expr, an_expr, ExprKind, FunctionExpr, Index, At, Call, Method, Paren, Unary, Binary, IfElse, TableExpr, Interp, Assert, Choices, no_choices, more_choices, Item, Field, Keyed, Plain, Items, no_items, more_items}
use Rattle.luau_tree.specs.Tree.{Body, the_body}
use Rattle.luau_tree.specs.View.{view_block, view_body, view_expr, view_stat}
use Rattle.report_plan.specs.declared.task.Task.{Task}
use Rattle.report_plan.specs.declared.task.Task.TheVariants as task
use Rattle.report_plan.specs.declared.task.CheckTask.{CheckTask}
use Rattle.report_plan.specs.declared.task.CheckTask.TheVariants as check_task
use Rattle.report_plan.specs.declared.task.ExprTask.TheVariants as expr_task
use Rattle.report_plan.specs.declared.task.BodyTask.TheVariants as body_task
use Rattle.report_plan.specs.declared.task.StatTask.TheVariants as stat_task

-- twice as much
abbrev pub twice : ℕ → ℕ
twice weight = weight + weight

-- an expression that is checked, once it is known what it weighs, for its contexts or its reports; and for both
abbrev pub part : ℕ → ℕ
part weight = 3 + weight

abbrev pub both : ℕ → ℕ
both weight = twice (part weight)

abbrev mutual
  -- an expression, for its contexts as for its reports
  pub expr_weight : Expr → ℕ
  expr_weight (the_expr id span kind) = 3 + kind_weight kind

  pub kind_weight : ExprKind → ℕ
  kind_weight (FunctionExpr body) = 1 + body_weight body
  kind_weight (Index base name) = part (expr_weight base)
  kind_weight (At base key) = 5 + (part (expr_weight base) + part (expr_weight key))
  kind_weight (Call callee args) = 3 + (part (expr_weight callee) + exprs_weight args)
  kind_weight (Method base name name_span args) = 3 + (part (expr_weight base) + exprs_weight args)
  kind_weight (Paren e) = part (expr_weight e)
  kind_weight (Unary op e) = 5 + part (expr_weight e)
  kind_weight (Binary op left right) = 5 + (part (expr_weight left) + part (expr_weight right))
  kind_weight (IfElse arms last) = 2 + (choices_weight arms + part (expr_weight last))
  kind_weight (TableExpr items) = 3 + items_weight items
  kind_weight (Interp texts parts) = 3 + exprs_weight parts
  kind_weight (Assert e syntax) = part (expr_weight e)
  kind_weight _ = 1

  -- parts that are checked
  pub exprs_weight : Exprs → ℕ
  exprs_weight no_exprs = 0
  exprs_weight (more_exprs e rest) = part (expr_weight e) + exprs_weight rest

  pub choices_weight : Choices → ℕ
  choices_weight no_choices = 0
  choices_weight (more_choices cond e rest) = 3 + (expr_weight cond + (expr_weight e + choices_weight rest))

  pub items_weight : Items → ℕ
  items_weight no_items = 0
  items_weight (more_items item rest) = item_weight item + items_weight rest

  pub item_weight : Item → ℕ
  item_weight (Field name e) = part (expr_weight e)
  item_weight (Keyed key e) = 7 + (part (expr_weight key) + expr_weight e)
  item_weight (Plain e) = part (expr_weight e)

  pub body_weight : Body → ℕ
  body_weight (the_body id has_self generics params vararg result block span) = 5 + block_weight block

  pub block_weight : Block → ℕ
  block_weight no_stats = 1
  block_weight (more_stats s rest) = stat_weight s + block_weight rest

  pub stat_weight : Stat → ℕ
  stat_weight (the_stat span kind) = 1 + stat_kind_weight kind

  -- what a statement evaluates is gone through for its contexts and for its reports
  pub stat_kind_weight : StatKind → ℕ
  stat_kind_weight (Assign targets values) = 3 + (twice (exprs_weight targets) + twice (exprs_weight values))
  stat_kind_weight (Compound target op e) = 1 + (both (expr_weight target) + both (expr_weight e))
  stat_kind_weight (CallStat e) = both (expr_weight e)
  stat_kind_weight (Do body) = block_weight body
  stat_kind_weight (While cond body) = 8 + (both (expr_weight cond) + block_weight body)
  stat_kind_weight (Repeat body cond) = 4 + (both (expr_weight cond) + block_weight body)
  stat_kind_weight (If arms last) = 2 + (arms_weight arms + last_weight last)
  stat_kind_weight (NumFor bind from to by body) = 5 + (both (expr_weight from) + (both (expr_weight to) + (maybe_weight by + block_weight body)))
  stat_kind_weight (GenFor binds values body) = 5 + (twice (exprs_weight values) + block_weight body)
  stat_kind_weight (FunctionStat path method body) = 1 + (both (expr_weight path) + body_weight body)
  stat_kind_weight (LocalFunction name body) = 1 + body_weight body
  stat_kind_weight (Local binds values) = 4 + twice (exprs_weight values)
  stat_kind_weight (Return values) = 1 + twice (exprs_weight values)
  stat_kind_weight _ = 1

  pub maybe_weight : MaybeExpr → ℕ
  maybe_weight no_expr = 0
  maybe_weight (an_expr e) = both (expr_weight e)

  pub arms_weight : Arms → ℕ
  arms_weight no_arms = 0
  arms_weight (more_arms cond body rest) = 3 + (both (expr_weight cond) + (block_weight body + arms_weight rest))

  pub last_weight : MaybeBlock → ℕ
  last_weight no_block = 0
  last_weight (a_block body) = block_weight body

-- the statements of a block
abbrev pub stats_weight : Block → ℕ
stats_weight no_stats = 0
stats_weight (more_stats s rest) = stat_weight s + stats_weight rest

-- a choice, and an arm
abbrev pub choice_weight : (cond value : Expr) → ℕ
choice_weight cond value = 3 + (expr_weight cond + expr_weight value)

abbrev pub arm_weight : (cond : Expr) → (body : Block) → ℕ
arm_weight cond body = 3 + (both (expr_weight cond) + block_weight body)

-- what the form of an expression weighs
abbrev pub form_weight : Expr → ℕ
form_weight (the_expr id span kind) = kind_weight kind

-- what the form of a statement weighs
abbrev pub stat_form_weight : Stat → ℕ
stat_form_weight (the_stat span kind) = stat_kind_weight kind

-- targets of an assignment
abbrev pub targets_weight : Exprs → ℕ
targets_weight no_exprs = 0
targets_weight (more_exprs e rest) = twice (expr_weight e) + targets_weight rest

-- an expression that is checked, by what is done with it
abbrev pub checked_weight : CheckTask → ℕ → ℕ
checked_weight check_task.Before weight = part weight
checked_weight check_task.Found weight = weight
checked_weight check_task.Passed weight = 1 + (part weight + weight)
checked_weight _ weight = 1

-- expressions that are checked
abbrev pub checked_loads : CheckTask → Exprs → ℕ
checked_loads way no_exprs = 0
checked_loads way (more_exprs e rest) = checked_weight way (expr_weight e) + checked_loads way rest

-- a task
abbrev pub weight : Task → ℕ
weight (task.Check way check e) = checked_weight way (expr_weight (view_expr e.now))
weight (task.Expr expr_task.Whole e) = expr_weight (view_expr e.now)
weight (task.Expr expr_task.Target e) = twice (expr_weight (view_expr e.now))
weight (task.Body body_task.Whole body) = body_weight (view_body body.now)
weight (task.Stat stat_task.Whole s) = stat_weight (view_stat s.now)
weight (task.Block block) = block_weight (view_block block.now)
weight _ = 1

-- all tasks together
abbrev pub weights : List Task → ℕ
weights [] = 0
weights (t ∷ tasks) = weight t + weights tasks
