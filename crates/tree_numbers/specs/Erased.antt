-- Trees without numbers: that of each expression and of each body is 0.
use Rattle.luau_tree.specs.Tree.{Block, Stat, StatKind, Arms, MaybeBlock, Expr, Exprs, MaybeExpr, ExprKind, Choices, Item, Items, Body, Varargs, Bind, Binds, Gen, Gens, TypeSyntax, TypeSyntaxes, MaybeType, TypeKind, Prop, Props, PropKey}
use Rattle.luau_tree.specs.Tree as tree

-- each part of a tree without its numbers
abbrev mutual
  pub erased_block : Block → Block
  erased_block tree.no_stats = tree.no_stats
  erased_block (tree.more_stats s rest) = tree.more_stats (erased_stat s) (erased_block rest)

  pub erased_stat : Stat → Stat
  erased_stat (tree.the_stat span kind) = tree.the_stat span (erased_stat_kind kind)

  pub erased_stat_kind : StatKind → StatKind
  erased_stat_kind (tree.Assign targets values) = tree.Assign (erased_exprs targets) (erased_exprs values)
  erased_stat_kind (tree.Compound target op value) = tree.Compound (erased_expr target) op (erased_expr value)
  erased_stat_kind (tree.CallStat call) = tree.CallStat (erased_expr call)
  erased_stat_kind (tree.Do body) = tree.Do (erased_block body)
  erased_stat_kind (tree.While cond body) = tree.While (erased_expr cond) (erased_block body)
  erased_stat_kind (tree.Repeat body cond) = tree.Repeat (erased_block body) (erased_expr cond)
  erased_stat_kind (tree.If arms last) = tree.If (erased_arms arms) (erased_maybe_block last)
  erased_stat_kind (tree.NumFor bind from to step body) = tree.NumFor (erased_bind bind) (erased_expr from) (erased_expr to) (erased_maybe_expr step) (erased_block body)
  erased_stat_kind (tree.GenFor binds values body) = tree.GenFor (erased_binds binds) (erased_exprs values) (erased_block body)
  erased_stat_kind (tree.FunctionStat path method body) = tree.FunctionStat (erased_expr path) method (erased_body body)
  erased_stat_kind (tree.LocalFunction name body) = tree.LocalFunction (erased_bind name) (erased_body body)
  erased_stat_kind (tree.Local binds values) = tree.Local (erased_binds binds) (erased_exprs values)
  erased_stat_kind (tree.TypeAlias exported name generics typ) = tree.TypeAlias exported name (erased_gens generics) (erased_type typ)
  erased_stat_kind (tree.TypeFunction exported name body) = tree.TypeFunction exported name (erased_body body)
  erased_stat_kind (tree.Return values) = tree.Return (erased_exprs values)
  erased_stat_kind tree.Break = tree.Break
  erased_stat_kind tree.Continue = tree.Continue

  pub erased_arms : Arms → Arms
  erased_arms tree.no_arms = tree.no_arms
  erased_arms (tree.more_arms cond block rest) = tree.more_arms (erased_expr cond) (erased_block block) (erased_arms rest)

  pub erased_maybe_block : MaybeBlock → MaybeBlock
  erased_maybe_block tree.no_block = tree.no_block
  erased_maybe_block (tree.a_block block) = tree.a_block (erased_block block)

  pub erased_expr : Expr → Expr
  erased_expr (tree.the_expr id span kind) = tree.the_expr 0 span (erased_expr_kind kind)

  pub erased_exprs : Exprs → Exprs
  erased_exprs tree.no_exprs = tree.no_exprs
  erased_exprs (tree.more_exprs e rest) = tree.more_exprs (erased_expr e) (erased_exprs rest)

  pub erased_maybe_expr : MaybeExpr → MaybeExpr
  erased_maybe_expr tree.no_expr = tree.no_expr
  erased_maybe_expr (tree.an_expr e) = tree.an_expr (erased_expr e)

  pub erased_expr_kind : ExprKind → ExprKind
  erased_expr_kind tree.NilExpr = tree.NilExpr
  erased_expr_kind tree.TrueExpr = tree.TrueExpr
  erased_expr_kind tree.FalseExpr = tree.FalseExpr
  erased_expr_kind (tree.NumberExpr text) = tree.NumberExpr text
  erased_expr_kind (tree.StrExpr bytes) = tree.StrExpr bytes
  erased_expr_kind tree.Vararg = tree.Vararg
  erased_expr_kind (tree.FunctionExpr body) = tree.FunctionExpr (erased_body body)
  erased_expr_kind (tree.NameExpr name) = tree.NameExpr name
  erased_expr_kind (tree.Index base name) = tree.Index (erased_expr base) name
  erased_expr_kind (tree.At base key) = tree.At (erased_expr base) (erased_expr key)
  erased_expr_kind (tree.Call callee args) = tree.Call (erased_expr callee) (erased_exprs args)
  erased_expr_kind (tree.Method base name name_span args) = tree.Method (erased_expr base) name name_span (erased_exprs args)
  erased_expr_kind (tree.Paren e) = tree.Paren (erased_expr e)
  erased_expr_kind (tree.Unary op e) = tree.Unary op (erased_expr e)
  erased_expr_kind (tree.Binary op left right) = tree.Binary op (erased_expr left) (erased_expr right)
  erased_expr_kind (tree.IfElse arms last) = tree.IfElse (erased_choices arms) (erased_expr last)
  erased_expr_kind (tree.TableExpr items) = tree.TableExpr (erased_items items)
  erased_expr_kind (tree.Interp texts parts) = tree.Interp texts (erased_exprs parts)
  erased_expr_kind (tree.Assert e typ) = tree.Assert (erased_expr e) (erased_type typ)

  pub erased_choices : Choices → Choices
  erased_choices tree.no_choices = tree.no_choices
  erased_choices (tree.more_choices cond value rest) = tree.more_choices (erased_expr cond) (erased_expr value) (erased_choices rest)

  pub erased_item : Item → Item
  erased_item (tree.Field name value) = tree.Field name (erased_expr value)
  erased_item (tree.Keyed key value) = tree.Keyed (erased_expr key) (erased_expr value)
  erased_item (tree.Plain value) = tree.Plain (erased_expr value)

  pub erased_items : Items → Items
  erased_items tree.no_items = tree.no_items
  erased_items (tree.more_items item rest) = tree.more_items (erased_item item) (erased_items rest)

  pub erased_body : Body → Body
  erased_body (tree.the_body id has_self generics params vararg result block span) = tree.the_body 0 has_self (erased_gens generics) (erased_binds params) (erased_varargs vararg) (erased_maybe_type result) (erased_block block) span

  pub erased_varargs : Varargs → Varargs
  erased_varargs tree.no_varargs = tree.no_varargs
  erased_varargs (tree.varargs maybe_type) = tree.varargs (erased_maybe_type maybe_type)

  pub erased_bind : Bind → Bind
  erased_bind (tree.the_bind name span typ) = tree.the_bind name span (erased_maybe_type typ)

  pub erased_binds : Binds → Binds
  erased_binds tree.no_binds = tree.no_binds
  erased_binds (tree.more_binds bind rest) = tree.more_binds (erased_bind bind) (erased_binds rest)

  pub erased_gen : Gen → Gen
  erased_gen (tree.the_gen name span pack default) = tree.the_gen name span pack (erased_maybe_type default)

  pub erased_gens : Gens → Gens
  erased_gens tree.no_gens = tree.no_gens
  erased_gens (tree.more_gens gen rest) = tree.more_gens (erased_gen gen) (erased_gens rest)

  pub erased_type : TypeSyntax → TypeSyntax
  erased_type (tree.the_type span kind) = tree.the_type span (erased_type_kind kind)

  pub erased_types : TypeSyntaxes → TypeSyntaxes
  erased_types tree.no_types = tree.no_types
  erased_types (tree.more_types typ rest) = tree.more_types (erased_type typ) (erased_types rest)

  pub erased_maybe_type : MaybeType → MaybeType
  erased_maybe_type tree.no_type = tree.no_type
  erased_maybe_type (tree.a_type typ) = tree.a_type (erased_type typ)

  pub erased_type_kind : TypeKind → TypeKind
  erased_type_kind tree.NilType = tree.NilType
  erased_type_kind (tree.BoolType truth) = tree.BoolType truth
  erased_type_kind (tree.StrType bytes) = tree.StrType bytes
  erased_type_kind (tree.Named prefix name args) = tree.Named prefix name (erased_types args)
  erased_type_kind (tree.Typeof e) = tree.Typeof (erased_expr e)
  erased_type_kind (tree.Array item) = tree.Array (erased_type item)
  erased_type_kind (tree.TableType props) = tree.TableType (erased_props props)
  erased_type_kind (tree.Func generics params result) = tree.Func (erased_gens generics) (erased_types params) (erased_type result)
  erased_type_kind (tree.Union types) = tree.Union (erased_types types)
  erased_type_kind (tree.Meet types) = tree.Meet (erased_types types)
  erased_type_kind (tree.Optional typ) = tree.Optional (erased_type typ)
  erased_type_kind (tree.Pack types) = tree.Pack (erased_types types)
  erased_type_kind (tree.Variadic typ) = tree.Variadic (erased_type typ)
  erased_type_kind (tree.GenericPack name) = tree.GenericPack name

  pub erased_prop : Prop → Prop
  erased_prop (tree.the_prop access key typ) = tree.the_prop access (erased_prop_key key) (erased_type typ)

  pub erased_props : Props → Props
  erased_props tree.no_props = tree.no_props
  erased_props (tree.more_props prop rest) = tree.more_props (erased_prop prop) (erased_props rest)

  pub erased_prop_key : PropKey → PropKey
  erased_prop_key (tree.NameKey name) = tree.NameKey name
  erased_prop_key (tree.Indexer key) = tree.Indexer (erased_type key)
