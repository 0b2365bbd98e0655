-- How deep a tree is.
use Rattle.std.specs.Prelude.{ℕ, suc, ◌+◌, ◌*◌, max}
use Rattle.luau_tree.specs.Tree.{Block, Stat, StatKind, Arms, MaybeBlock, Expr, Exprs, MaybeExpr, ExprKind, Choices, Item, Items, Body, Varargs, Bind, Binds, Gen, Gens, TypeSyntax, TypeSyntaxes, MaybeType, TypeKind, Prop, Props, PropKey}
use Rattle.luau_tree.specs.Tree as tree

-- How many statements, expressions, bodies and written types stand in one another at most. The type of a bind and the
-- default of a generic stand in what the bind or the generic stands in.
abbrev mutual
  pub of_block : Block → ℕ
  of_block tree.no_stats = 0
  of_block (tree.more_stats x rest) = max (of_stat x) (of_block rest)

  pub of_stat : Stat → ℕ
  of_stat (tree.the_stat span kind) = suc (of_stat_kind kind)

  pub of_stat_kind : StatKind → ℕ
  of_stat_kind (tree.Assign targets values) = max (of_exprs targets) (of_exprs values)
  of_stat_kind (tree.Compound target op value) = max (of_expr target) (of_expr value)
  of_stat_kind (tree.CallStat call) = of_expr call
  of_stat_kind (tree.Do body) = of_block body
  of_stat_kind (tree.While cond body) = max (of_expr cond) (of_block body)
  of_stat_kind (tree.Repeat body cond) = max (of_block body) (of_expr cond)
  of_stat_kind (tree.If arms last) = max (of_arms arms) (of_maybe_block last)
  of_stat_kind (tree.NumFor bind from to step body) =
      max (of_bind bind) (max (of_expr from) (max (of_expr to) (max (of_maybe_expr step) (of_block body))))
  of_stat_kind (tree.GenFor binds values body) = max (of_binds binds) (max (of_exprs values) (of_block body))
  of_stat_kind (tree.FunctionStat path method body) = max (of_expr path) (of_body body)
  of_stat_kind (tree.LocalFunction name body) = max (of_bind name) (of_body body)
  of_stat_kind (tree.Local binds values) = max (of_binds binds) (of_exprs values)
  of_stat_kind (tree.TypeAlias exported name generics typ) = max (of_gens generics) (of_type typ)
  of_stat_kind (tree.TypeFunction exported name body) = of_body body
  of_stat_kind (tree.Return values) = of_exprs values
  of_stat_kind tree.Break = 0
  of_stat_kind tree.Continue = 0

  pub of_arms : Arms → ℕ
  of_arms tree.no_arms = 0
  of_arms (tree.more_arms cond block rest) = max (of_expr cond) (max (of_block block) (of_arms rest))

  pub of_maybe_block : MaybeBlock → ℕ
  of_maybe_block tree.no_block = 0
  of_maybe_block (tree.a_block block) = of_block block

  pub of_expr : Expr → ℕ
  of_expr (tree.the_expr id span kind) = suc (of_expr_kind kind)

  pub of_exprs : Exprs → ℕ
  of_exprs tree.no_exprs = 0
  of_exprs (tree.more_exprs e rest) = max (of_expr e) (of_exprs rest)

  pub of_maybe_expr : MaybeExpr → ℕ
  of_maybe_expr tree.no_expr = 0
  of_maybe_expr (tree.an_expr e) = of_expr e

  pub of_expr_kind : ExprKind → ℕ
  of_expr_kind tree.NilExpr = 0
  of_expr_kind tree.TrueExpr = 0
  of_expr_kind tree.FalseExpr = 0
  of_expr_kind (tree.NumberExpr text) = 0
  of_expr_kind (tree.StrExpr bytes) = 0
  of_expr_kind tree.Vararg = 0
  of_expr_kind (tree.FunctionExpr body) = of_body body
  of_expr_kind (tree.NameExpr name) = 0
  of_expr_kind (tree.Index base name) = of_expr base
  of_expr_kind (tree.At base key) = max (of_expr base) (of_expr key)
  of_expr_kind (tree.Call callee args) = max (of_expr callee) (of_exprs args)
  of_expr_kind (tree.Method base name name_span args) = max (of_expr base) (of_exprs args)
  of_expr_kind (tree.Paren e) = of_expr e
  of_expr_kind (tree.Unary op e) = of_expr e
  of_expr_kind (tree.Binary op left right) = max (of_expr left) (of_expr right)
  of_expr_kind (tree.IfElse arms last) = max (of_choices arms) (of_expr last)
  of_expr_kind (tree.TableExpr items) = of_items items
  of_expr_kind (tree.Interp texts parts) = of_exprs parts
  of_expr_kind (tree.Assert e typ) = max (of_expr e) (of_type typ)

  pub of_choices : Choices → ℕ
  of_choices tree.no_choices = 0
  of_choices (tree.more_choices cond value rest) = max (of_expr cond) (max (of_expr value) (of_choices rest))

  pub of_item : Item → ℕ
  of_item (tree.Field name value) = of_expr value
  of_item (tree.Keyed key value) = max (of_expr key) (of_expr value)
  of_item (tree.Plain value) = of_expr value

  pub of_items : Items → ℕ
  of_items tree.no_items = 0
  of_items (tree.more_items item rest) = max (of_item item) (of_items rest)

  pub of_body : Body → ℕ
  of_body (tree.the_body id has_self generics params vararg result block span) =
      suc (max (of_gens generics) (max (of_binds params) (max (of_varargs vararg) (max (of_maybe_type result) (of_block block)))))

  pub of_varargs : Varargs → ℕ
  of_varargs tree.no_varargs = 0
  of_varargs (tree.varargs typ) = of_maybe_type typ

  pub of_bind : Bind → ℕ
  of_bind (tree.the_bind name span typ) = of_maybe_type typ

  pub of_binds : Binds → ℕ
  of_binds tree.no_binds = 0
  of_binds (tree.more_binds bind rest) = max (of_bind bind) (of_binds rest)

  pub of_gen : Gen → ℕ
  of_gen (tree.the_gen name span pack default) = of_maybe_type default

  pub of_gens : Gens → ℕ
  of_gens tree.no_gens = 0
  of_gens (tree.more_gens gen rest) = max (of_gen gen) (of_gens rest)

  pub of_type : TypeSyntax → ℕ
  of_type (tree.the_type span kind) = suc (of_type_kind kind)

  pub of_types : TypeSyntaxes → ℕ
  of_types tree.no_types = 0
  of_types (tree.more_types typ rest) = max (of_type typ) (of_types rest)

  pub of_maybe_type : MaybeType → ℕ
  of_maybe_type tree.no_type = 0
  of_maybe_type (tree.a_type typ) = of_type typ

  pub of_type_kind : TypeKind → ℕ
  of_type_kind tree.NilType = 0
  of_type_kind (tree.BoolType truth) = 0
  of_type_kind (tree.StrType bytes) = 0
  of_type_kind (tree.Named prefix name args) = of_types args
  of_type_kind (tree.Typeof e) = of_expr e
  of_type_kind (tree.Array item) = of_type item
  of_type_kind (tree.TableType props) = of_props props
  of_type_kind (tree.Func generics params result) = max (of_gens generics) (max (of_types params) (of_type result))
  of_type_kind (tree.Union types) = of_types types
  of_type_kind (tree.Meet types) = of_types types
  of_type_kind (tree.Optional typ) = of_type typ
  of_type_kind (tree.Pack types) = of_types types
  of_type_kind (tree.Variadic typ) = of_type typ
  of_type_kind (tree.GenericPack name) = 0

  pub of_prop : Prop → ℕ
  of_prop (tree.the_prop access key typ) = max (of_key key) (of_type typ)

  pub of_props : Props → ℕ
  of_props tree.no_props = 0
  of_props (tree.more_props prop rest) = max (of_prop prop) (of_props rest)

  pub of_key : PropKey → ℕ
  of_key (tree.NameKey name) = 0
  of_key (tree.Indexer key) = of_type key

-- as deep as trees are at most whose tokens stand at levels up to a limit
abbrev pub deepest : ℕ → ℕ
deepest limit = limit * (limit + 6)
