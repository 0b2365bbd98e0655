-- The nodes that a tree holds, in the order of the text: its expressions, the bodies of its functions, and the names
-- that it declares. What stands within a node comes behind it, and what stands in a written type comes at its place.
use Rattle.std.specs.Prelude.{◌==◌, ℕ, List, [], ◌∷◌, ◌++◌, Option, None, option_map}
use Rattle.std.specs.List.{find}
use Rattle.luau_tree.specs.declared.names.Place.{Place}
use Rattle.luau_tree.specs.declared.names.Place.TheVariants.{Expr as ExprPlace, Param as ParamPlace}
use Rattle.luau_tree.specs.declared.position.Span.{Span}
use Rattle.luau_tree.specs.Tree.{Block, no_stats, more_stats, Stat, the_stat, StatKind, Assign, Compound, CallStat, Do, While, Repeat, If, NumFor, GenFor, FunctionStat, LocalFunction, Local, TypeAlias, TypeFunction, Return, Break, Continue, Arms, no_arms, more_arms, MaybeBlock, no_block, a_block}
use Rattle.luau_tree.specs.Tree.{Expr, the_expr, Exprs, no_exprs, more_exprs, MaybeExpr, no_expr, an_expr, ExprKind, NilExpr, TrueExpr, FalseExpr, NumberExpr, StrExpr, Vararg, FunctionExpr, NameExpr, Index, At, Call, Method, Paren, Unary, Binary, IfElse, TableExpr, Interp, Assert, Choices, no_choices, more_choices, Item, Field, Keyed, Plain, Items, no_items, more_items}
use Rattle.luau_tree.specs.Tree.{Body, the_body, Varargs, no_varargs, varargs, Bind, the_bind, Binds, no_binds, more_binds, Gen, the_gen, Gens, no_gens, more_gens}
use Rattle.luau_tree.specs.Tree.{TypeSyntax, the_type, TypeSyntaxes, no_types, more_types, MaybeType, no_type, a_type, TypeKind, NilType, BoolType, StrType, Named, Typeof, Array, TableType, Func, Union, Meet, Optional, Pack, Variadic, GenericPack, Prop, the_prop, Props, no_props, more_props, PropKey, NameKey, Indexer}

-- an expression, the body of a function, or a declared name
pub data Node : Type 0 where
  AnExpr : Expr → Node
  ABody : Body → Node
  ABind : Bind → Node

-- the nodes of each form of syntax, itself and what stands within
abbrev mutual
  pub nodes_of_block : Block → List Node
  nodes_of_block no_stats = []
  nodes_of_block (more_stats s rest) = nodes_of_stat s ++ nodes_of_block rest

  pub nodes_of_stat : Stat → List Node
  nodes_of_stat (the_stat span kind) = nodes_of_stat_kind kind

  pub nodes_of_stat_kind : StatKind → List Node
  nodes_of_stat_kind (Assign targets values) = nodes_of_exprs targets ++ nodes_of_exprs values
  nodes_of_stat_kind (Compound target op e) = nodes_of_expr target ++ nodes_of_expr e
  nodes_of_stat_kind (CallStat e) = nodes_of_expr e
  nodes_of_stat_kind (Do body) = nodes_of_block body
  nodes_of_stat_kind (While cond body) = nodes_of_expr cond ++ nodes_of_block body
  nodes_of_stat_kind (Repeat body cond) = nodes_of_block body ++ nodes_of_expr cond
  nodes_of_stat_kind (If arms last) = nodes_of_arms arms ++ nodes_of_maybe_block last
  nodes_of_stat_kind (NumFor bind from to by body) = nodes_of_bind bind ++ nodes_of_expr from ++ nodes_of_expr to ++ nodes_of_maybe_expr by ++ nodes_of_block body
  nodes_of_stat_kind (GenFor binds values body) = nodes_of_binds binds ++ nodes_of_exprs values ++ nodes_of_block body
  nodes_of_stat_kind (FunctionStat path method body) = nodes_of_expr path ++ nodes_of_body body
  nodes_of_stat_kind (LocalFunction name body) = nodes_of_bind name ++ nodes_of_body body
  nodes_of_stat_kind (Local binds values) = nodes_of_binds binds ++ nodes_of_exprs values
  nodes_of_stat_kind (TypeAlias exported name generics typ) = nodes_of_gens generics ++ nodes_of_type typ
  nodes_of_stat_kind (TypeFunction exported name body) = nodes_of_body body
  nodes_of_stat_kind (Return values) = nodes_of_exprs values
  nodes_of_stat_kind Break = []
  nodes_of_stat_kind Continue = []

  pub nodes_of_arms : Arms → List Node
  nodes_of_arms no_arms = []
  nodes_of_arms (more_arms cond body rest) = nodes_of_expr cond ++ nodes_of_block body ++ nodes_of_arms rest

  pub nodes_of_maybe_block : MaybeBlock → List Node
  nodes_of_maybe_block no_block = []
  nodes_of_maybe_block (a_block body) = nodes_of_block body

  pub nodes_of_expr : Expr → List Node
  nodes_of_expr (the_expr id span kind) = AnExpr (the_expr id span kind) ∷ nodes_of_expr_kind kind

  pub nodes_of_exprs : Exprs → List Node
  nodes_of_exprs no_exprs = []
  nodes_of_exprs (more_exprs e rest) = nodes_of_expr e ++ nodes_of_exprs rest

  pub nodes_of_maybe_expr : MaybeExpr → List Node
  nodes_of_maybe_expr no_expr = []
  nodes_of_maybe_expr (an_expr e) = nodes_of_expr e

  pub nodes_of_expr_kind : ExprKind → List Node
  nodes_of_expr_kind NilExpr = []
  nodes_of_expr_kind TrueExpr = []
  nodes_of_expr_kind FalseExpr = []
  nodes_of_expr_kind (NumberExpr text) = []
  nodes_of_expr_kind (StrExpr bytes) = []
  nodes_of_expr_kind Vararg = []
  nodes_of_expr_kind (FunctionExpr body) = nodes_of_body body
  nodes_of_expr_kind (NameExpr name) = []
  nodes_of_expr_kind (Index base name) = nodes_of_expr base
  nodes_of_expr_kind (At base key) = nodes_of_expr base ++ nodes_of_expr key
  nodes_of_expr_kind (Call callee args) = nodes_of_expr callee ++ nodes_of_exprs args
  nodes_of_expr_kind (Method base name span args) = nodes_of_expr base ++ nodes_of_exprs args
  nodes_of_expr_kind (Paren e) = nodes_of_expr e
  nodes_of_expr_kind (Unary op e) = nodes_of_expr e
  nodes_of_expr_kind (Binary op left right) = nodes_of_expr left ++ nodes_of_expr right
  nodes_of_expr_kind (IfElse arms last) = nodes_of_choices arms ++ nodes_of_expr last
  nodes_of_expr_kind (TableExpr items) = nodes_of_items items
  nodes_of_expr_kind (Interp texts parts) = nodes_of_exprs parts
  nodes_of_expr_kind (Assert e typ) = nodes_of_expr e ++ nodes_of_type typ

  pub nodes_of_choices : Choices → List Node
  nodes_of_choices no_choices = []
  nodes_of_choices (more_choices cond e rest) = nodes_of_expr cond ++ nodes_of_expr e ++ nodes_of_choices rest

  pub nodes_of_items : Items → List Node
  nodes_of_items no_items = []
  nodes_of_items (more_items item rest) = nodes_of_item item ++ nodes_of_items rest

  pub nodes_of_item : Item → List Node
  nodes_of_item (Field name e) = nodes_of_expr e
  nodes_of_item (Keyed key e) = nodes_of_expr key ++ nodes_of_expr e
  nodes_of_item (Plain e) = nodes_of_expr e

  pub nodes_of_body : Body → List Node
  nodes_of_body (the_body id has_self generics params vararg result body span) =
      ABody (the_body id has_self generics params vararg result body span) ∷ nodes_of_gens generics ++ nodes_of_binds params ++ nodes_of_varargs vararg ++ nodes_of_maybe_type result ++ nodes_of_block body

  pub nodes_of_varargs : Varargs → List Node
  nodes_of_varargs no_varargs = []
  nodes_of_varargs (varargs typ) = nodes_of_maybe_type typ

  pub nodes_of_bind : Bind → List Node
  nodes_of_bind (the_bind name span typ) = ABind (the_bind name span typ) ∷ nodes_of_maybe_type typ

  pub nodes_of_binds : Binds → List Node
  nodes_of_binds no_binds = []
  nodes_of_binds (more_binds bind rest) = nodes_of_bind bind ++ nodes_of_binds rest

  pub nodes_of_gen : Gen → List Node
  nodes_of_gen (the_gen name span pack default) = nodes_of_maybe_type default

  pub nodes_of_gens : Gens → List Node
  nodes_of_gens no_gens = []
  nodes_of_gens (more_gens gen rest) = nodes_of_gen gen ++ nodes_of_gens rest

  pub nodes_of_type : TypeSyntax → List Node
  nodes_of_type (the_type span kind) = nodes_of_type_kind kind

  pub nodes_of_types : TypeSyntaxes → List Node
  nodes_of_types no_types = []
  nodes_of_types (more_types typ rest) = nodes_of_type typ ++ nodes_of_types rest

  pub nodes_of_maybe_type : MaybeType → List Node
  nodes_of_maybe_type no_type = []
  nodes_of_maybe_type (a_type typ) = nodes_of_type typ

  pub nodes_of_type_kind : TypeKind → List Node
  nodes_of_type_kind NilType = []
  nodes_of_type_kind (BoolType truth) = []
  nodes_of_type_kind (StrType bytes) = []
  nodes_of_type_kind (Named prefix name args) = nodes_of_types args
  nodes_of_type_kind (Typeof e) = nodes_of_expr e
  nodes_of_type_kind (Array typ) = nodes_of_type typ
  nodes_of_type_kind (TableType props) = nodes_of_props props
  nodes_of_type_kind (Func generics params result) = nodes_of_gens generics ++ nodes_of_types params ++ nodes_of_type result
  nodes_of_type_kind (Union types) = nodes_of_types types
  nodes_of_type_kind (Meet types) = nodes_of_types types
  nodes_of_type_kind (Optional typ) = nodes_of_type typ
  nodes_of_type_kind (Pack types) = nodes_of_types types
  nodes_of_type_kind (Variadic typ) = nodes_of_type typ
  nodes_of_type_kind (GenericPack name) = []

  pub nodes_of_props : Props → List Node
  nodes_of_props no_props = []
  nodes_of_props (more_props prop rest) = nodes_of_prop prop ++ nodes_of_props rest

  pub nodes_of_prop : Prop → List Node
  nodes_of_prop (the_prop access key typ) = nodes_of_prop_key key ++ nodes_of_type typ

  pub nodes_of_prop_key : PropKey → List Node
  nodes_of_prop_key (NameKey name) = []
  nodes_of_prop_key (Indexer typ) = nodes_of_type typ

-- the expressions among some nodes
abbrev pub exprs_among : List Node → List Expr
exprs_among [] = []
exprs_among (AnExpr e ∷ nodes) = e ∷ exprs_among nodes
exprs_among (ABody body ∷ nodes) = exprs_among nodes
exprs_among (ABind bind ∷ nodes) = exprs_among nodes

-- the bodies among some nodes
abbrev pub bodies_among : List Node → List Body
bodies_among [] = []
bodies_among (AnExpr e ∷ nodes) = bodies_among nodes
bodies_among (ABody body ∷ nodes) = body ∷ bodies_among nodes
bodies_among (ABind bind ∷ nodes) = bodies_among nodes

-- the declared names among some nodes
abbrev pub binds_among : List Node → List Bind
binds_among [] = []
binds_among (AnExpr e ∷ nodes) = binds_among nodes
binds_among (ABody body ∷ nodes) = binds_among nodes
binds_among (ABind bind ∷ nodes) = bind ∷ binds_among nodes

-- the expressions of a module
abbrev pub exprs_in : Block → List Expr
exprs_in tree = exprs_among (nodes_of_block tree)

-- the bodies of a module's functions
abbrev pub bodies_in : Block → List Body
bodies_in tree = bodies_among (nodes_of_block tree)

-- the names that a module declares
abbrev pub binds_in : Block → List Bind
binds_in tree = binds_among (nodes_of_block tree)

-- the number of an expression
abbrev pub expr_number : Expr → ℕ
expr_number (the_expr id span kind) = id

-- where an expression stands in the text
abbrev pub expr_span : Expr → Span
expr_span (the_expr id span kind) = span

-- the number of a body
abbrev pub body_number : Body → ℕ
body_number (the_body id has_self generics params vararg result body span) = id

-- the name that is declared
abbrev pub bind_name : Bind → List ℕ
bind_name (the_bind name span typ) = name

-- the expression with a number, if the tree has one
abbrev pub expr_at : Block → ℕ → Option Expr
expr_at tree n = find (λ e. expr_number e == n) (exprs_in tree)

-- where the expression with a number stands in the text, if the tree has one
abbrev pub span_at : Block → ℕ → Option Span
span_at tree n = option_map expr_span (expr_at tree n)

-- where the expression at a place of a tree begins in the text; a parameter is no expression
abbrev pub expr_start : Block → Place → Option ℕ
expr_start tree (ExprPlace id) = option_map (λ span. span.start) (span_at tree id.0)
expr_start tree (ParamPlace function index) = None
