-- The syntax nodes of a module: the expressions, function bodies and declarations of locals that
-- stand in a block, at whatever depth. Types have none, and neither have type functions, which are
-- not run.
use Rattle.std.specs.Prelude.{List, [], ◌∷◌, ◌++◌}
use Rattle.luau_tree.specs.Tree.{Block, no_stats, more_stats, Stat, the_stat, StatKind, Assign, Compound, CallStat, Do, While, Repeat, If, NumFor, GenFor, FunctionStat, LocalFunction, Local, TypeAlias, TypeFunction, Return, Break, Continue, Arms, no_arms, more_arms, MaybeBlock, no_block, a_block, Expr, the_expr, Exprs, no_exprs, more_exprs, MaybeExpr, no_expr, an_expr, ExprKind, NilExpr, TrueExpr, FalseExpr, NumberExpr, StrExpr, Vararg, FunctionExpr, NameExpr, Index, At, Call, Method, Paren, Unary, Binary, IfElse, TableExpr, Interp, Assert, Choices, no_choices, more_choices, Item, Field, Keyed, Plain, Items, no_items, more_items, Body, the_body, Bind, Binds, no_binds, more_binds}

-- an expression, the body of a function, or the declaration of a local
pub data SyntaxNode : Type 0 where
  AnExpr : Expr → SyntaxNode
  ABody : Body → SyntaxNode
  ABind : Bind → SyntaxNode

-- the locals of a list of declarations
abbrev pub of_binds : Binds → List SyntaxNode
of_binds no_binds = []
of_binds (more_binds bind rest) = ABind bind ∷ of_binds rest

-- the nodes of each form of syntax, itself and what stands within
abbrev mutual
  pub of_block : Block → List SyntaxNode
  of_block no_stats = []
  of_block (more_stats s rest) = of_stat s ++ of_block rest

  pub of_stat : Stat → List SyntaxNode
  of_stat (the_stat span kind) = of_stat_kind kind

  pub of_stat_kind : StatKind → List SyntaxNode
  of_stat_kind (Assign targets values) = of_exprs targets ++ of_exprs values
  of_stat_kind (Compound target op e) = of_expr target ++ of_expr e
  of_stat_kind (CallStat e) = of_expr e
  of_stat_kind (Do body) = of_block body
  of_stat_kind (While cond body) = of_expr cond ++ of_block body
  of_stat_kind (Repeat body cond) = of_block body ++ of_expr cond
  of_stat_kind (If arms last) = of_arms arms ++ of_maybe_block last
  of_stat_kind (NumFor bind from to by body) = ABind bind ∷ of_expr from ++ of_expr to ++ of_maybe_expr by ++ of_block body
  of_stat_kind (GenFor binds values body) = of_binds binds ++ of_exprs values ++ of_block body
  of_stat_kind (FunctionStat path method body) = of_expr path ++ of_body body
  of_stat_kind (LocalFunction name body) = ABind name ∷ of_body body
  of_stat_kind (Local binds values) = of_binds binds ++ of_exprs values
  of_stat_kind (TypeAlias exported name generics typ) = []
  of_stat_kind (TypeFunction exported name body) = []
  of_stat_kind (Return values) = of_exprs values
  of_stat_kind Break = []
  of_stat_kind Continue = []

  pub of_arms : Arms → List SyntaxNode
  of_arms no_arms = []
  of_arms (more_arms cond body rest) = of_expr cond ++ of_block body ++ of_arms rest

  pub of_maybe_block : MaybeBlock → List SyntaxNode
  of_maybe_block no_block = []
  of_maybe_block (a_block body) = of_block body

  pub of_expr : Expr → List SyntaxNode
  of_expr (the_expr id span kind) = AnExpr (the_expr id span kind) ∷ of_expr_kind kind

  pub of_exprs : Exprs → List SyntaxNode
  of_exprs no_exprs = []
  of_exprs (more_exprs e rest) = of_expr e ++ of_exprs rest

  pub of_maybe_expr : MaybeExpr → List SyntaxNode
  of_maybe_expr no_expr = []
  of_maybe_expr (an_expr e) = of_expr e

  pub of_expr_kind : ExprKind → List SyntaxNode
  of_expr_kind NilExpr = []
  of_expr_kind TrueExpr = []
  of_expr_kind FalseExpr = []
  of_expr_kind (NumberExpr text) = []
  of_expr_kind (StrExpr bytes) = []
  of_expr_kind Vararg = []
  of_expr_kind (FunctionExpr body) = of_body body
  of_expr_kind (NameExpr name) = []
  of_expr_kind (Index base name) = of_expr base
  of_expr_kind (At base key) = of_expr base ++ of_expr key
  of_expr_kind (Call callee args) = of_expr callee ++ of_exprs args
  of_expr_kind (Method base name span args) = of_expr base ++ of_exprs args
  of_expr_kind (Paren e) = of_expr e
  of_expr_kind (Unary op e) = of_expr e
  of_expr_kind (Binary op left right) = of_expr left ++ of_expr right
  of_expr_kind (IfElse arms last) = of_choices arms ++ of_expr last
  of_expr_kind (TableExpr items) = of_items items
  of_expr_kind (Interp texts parts) = of_exprs parts
  of_expr_kind (Assert e typ) = of_expr e

  pub of_choices : Choices → List SyntaxNode
  of_choices no_choices = []
  of_choices (more_choices cond e rest) = of_expr cond ++ of_expr e ++ of_choices rest

  pub of_items : Items → List SyntaxNode
  of_items no_items = []
  of_items (more_items item rest) = of_item item ++ of_items rest

  pub of_item : Item → List SyntaxNode
  of_item (Field name e) = of_expr e
  of_item (Keyed key e) = of_expr key ++ of_expr e
  of_item (Plain e) = of_expr e

  pub of_body : Body → List SyntaxNode
  of_body (the_body id has_self generics params vararg result body span) =
      ABody (the_body id has_self generics params vararg result body span) ∷ of_binds params ++ of_block body

-- the nodes that stand within a body
abbrev pub inside : Body → List SyntaxNode
inside (the_body id has_self generics params vararg result body span) = of_binds params ++ of_block body
