-- How much is still to be done: a part of a module weighs more than all that is put in its place.
use Rattle.std.specs.Prelude.{ℕ, ◌+◌, List, [], ◌∷◌}
use Rattle.luau_tree.specs.Tree.{Block, no_stats, more_stats, Stat, the_stat, StatKind, Assign, Compound, CallStat, Do, While, Repeat, If, NumFor, GenFor, FunctionStat, LocalFunction, Local, Return, Arms, no_arms, more_arms, MaybeBlock, no_block, a_block}
use Rattle.luau_tree.specs.Tree.{Expr, the_expr, Exprs, no_exprs, more_exprs, MaybeExpr, no_expr, an_expr, ExprKind, FunctionExpr, Index, At, Call, Method, Paren, Unary, Binary, IfElse, TableExpr, Interp, Assert, Choices, no_choices, more_choices, Item, Field, Keyed, Plain, Items, no_items, more_items}
use Rattle.luau_tree.specs.Tree.{Body, the_body, Binds, no_binds, more_binds}
use Rattle.luau_tree.specs.View.{view_block, view_body, view_expr, view_exprs, view_stat}
use Rattle.infer_plan.specs.declared.task.Task.{Task}
use Rattle.infer_plan.specs.declared.task.Task.TheVariants as task
use Rattle.infer_plan.specs.declared.task.ExprTask.TheVariants as expr_task
use Rattle.infer_plan.specs.declared.task.BodyTask.TheVariants as body_task
use Rattle.infer_plan.specs.declared.task.StatTask.TheVariants as stat_task

-- an expression, a list of values or of targets, and a block, by the weight of what they have in them
abbrev pub whole : (form : ℕ) → ℕ
whole form = 5 + form

abbrev pub listed : (parts : ℕ) → ℕ
listed parts = 5 + parts

abbrev pub blocked : (stats : ℕ) → ℕ
blocked stats = 5 + stats

-- names that are declared, and targets that are written
abbrev pub declared_weight : Binds → ℕ
declared_weight no_binds = 0
declared_weight (more_binds bind rest) = 4 + declared_weight rest

abbrev pub written_weight : Exprs → ℕ
written_weight no_exprs = 0
written_weight (more_exprs e rest) = 5 + written_weight rest

abbrev mutual
  -- the form of an expression
  pub form_weight : Expr → ℕ
  form_weight (the_expr id span kind) = 1 + kind_weight kind

  pub kind_weight : ExprKind → ℕ
  kind_weight (FunctionExpr body) = 1 + body_weight body
  kind_weight (Index base name) = 3 + whole (form_weight base)
  kind_weight (At base key) = 5 + (whole (form_weight base) + whole (form_weight key))
  kind_weight (Call callee args) = 5 + (whole (form_weight callee) + listed (exprs_weight args))
  kind_weight (Method base name name_span args) = 4 + (whole (form_weight base) + listed (exprs_weight args))
  kind_weight (Paren e) = 2 + whole (form_weight e)
  kind_weight (Unary op e) = 3 + whole (form_weight e)
  kind_weight (Binary op left right) = 8 + (whole (form_weight left) + whole (form_weight right))
  kind_weight (IfElse arms last) = 4 + (choices_weight arms + whole (form_weight last))
  kind_weight (TableExpr items) = 5 + items_weight items
  kind_weight (Interp texts parts) = 4 + listed (exprs_weight parts)
  kind_weight (Assert e syntax) = 2 + whole (form_weight e)
  kind_weight _ = 1

  -- values, or targets, one after the other
  pub exprs_weight : Exprs → ℕ
  exprs_weight no_exprs = 0
  exprs_weight (more_exprs e rest) = 4 + (whole (form_weight e) + exprs_weight rest)

  pub maybe_weight : MaybeExpr → ℕ
  maybe_weight no_expr = 0
  maybe_weight (an_expr e) = whole (form_weight e)

  pub choices_weight : Choices → ℕ
  choices_weight no_choices = 0
  choices_weight (more_choices cond e rest) = 7 + (whole (form_weight cond) + (whole (form_weight e) + choices_weight rest))

  pub items_weight : Items → ℕ
  items_weight no_items = 0
  items_weight (more_items item rest) = 5 + (entry_weight item + items_weight rest)

  pub entry_weight : Item → ℕ
  entry_weight (Field name e) = 2 + whole (form_weight e)
  entry_weight (Keyed key e) = 2 + (whole (form_weight key) + whole (form_weight e))
  entry_weight (Plain e) = whole (form_weight e)

  pub body_weight : Body → ℕ
  body_weight (the_body id has_self generics params vararg result block span) = 7 + blocked (stats_weight block)

  -- statements, one after the other
  pub stats_weight : Block → ℕ
  stats_weight no_stats = 0
  stats_weight (more_stats s rest) = 1 + (stat_weight s + stats_weight rest)

  pub stat_weight : Stat → ℕ
  stat_weight (the_stat span kind) = 1 + stat_kind_weight kind

  pub stat_kind_weight : StatKind → ℕ
  stat_kind_weight (Assign targets values) = 2 + (written_weight targets + (written_weight targets + (listed (exprs_weight targets) + listed (exprs_weight values))))
  stat_kind_weight (Compound target op e) = 4 + (whole (form_weight target) + whole (form_weight e))
  stat_kind_weight (CallStat e) = 1 + whole (form_weight e)
  stat_kind_weight (Do body) = blocked (stats_weight body)
  stat_kind_weight (While cond body) = 4 + (whole (form_weight cond) + blocked (stats_weight body))
  stat_kind_weight (Repeat body cond) = 7 + (blocked (stats_weight body) + whole (form_weight cond))
  stat_kind_weight (If arms last) = 5 + (arms_weight arms + last_weight last)
  stat_kind_weight (NumFor bind from to by body) = 5 + (whole (form_weight from) + (whole (form_weight to) + (maybe_weight by + blocked (stats_weight body))))
  stat_kind_weight (GenFor binds values body) = 4 + (listed (exprs_weight values) + blocked (stats_weight body))
  stat_kind_weight (FunctionStat path method body) = 3 + (whole (form_weight path) + body_weight body)
  stat_kind_weight (LocalFunction name body) = 3 + body_weight body
  stat_kind_weight (Local binds values) = 2 + (declared_weight binds + listed (exprs_weight values))
  stat_kind_weight (Return values) = 4 + listed (exprs_weight values)
  stat_kind_weight _ = 2

  pub arms_weight : Arms → ℕ
  arms_weight no_arms = 0
  arms_weight (more_arms cond body rest) = 8 + (whole (form_weight cond) + (blocked (stats_weight body) + arms_weight rest))

  pub last_weight : MaybeBlock → ℕ
  last_weight no_block = 1
  last_weight (a_block body) = blocked (stats_weight body)

-- an expression, values or targets, and a block
abbrev pub expr_weight : Expr → ℕ
expr_weight e = whole (form_weight e)

abbrev pub list_weight : Exprs → ℕ
list_weight es = listed (exprs_weight es)

abbrev pub block_weight : Block → ℕ
block_weight block = blocked (stats_weight block)

-- a task
abbrev pub weight : Task → ℕ
weight (task.Expr expr_task.Whole e) = expr_weight (view_expr e.now)
weight (task.Expr expr_task.Form e) = form_weight (view_expr e.now)
weight (task.Expr expr_task.Target e) = expr_weight (view_expr e.now)
weight (task.Exprs kind es) = list_weight (view_exprs es.now)
weight (task.Body body_task.Whole body) = body_weight (view_body body.now)
weight (task.Stat stat_task.Whole s) = stat_weight (view_stat s.now)
weight (task.Block block) = block_weight (view_block block.now)
weight _ = 1

-- all tasks together
abbrev pub weights : List Task → ℕ
weights [] = 0
weights (t ∷ tasks) = weight t + weights tasks
