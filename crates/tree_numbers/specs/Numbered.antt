-- Trees whose expressions and bodies have their numbers: in the order of the text, and each before what stands within it.
use Rattle.luau_tree.specs.Tree.{Block, Stat, StatKind, Arms, MaybeBlock, Expr, Exprs, MaybeExpr, ExprKind, Choices, Item, Items, Body, Varargs, Bind, Binds, Gen, Gens, TypeSyntax, TypeSyntaxes, MaybeType, TypeKind, Prop, Props, PropKey}
use Rattle.luau_tree.specs.Tree as tree
use Rattle.tree_numbers.specs.Counting.{Counting, ◌>>=◌, pure, next_expr, next_body, first}

-- each part of a tree with its numbers, whatever they were before
abbrev mutual
  pub of_block : Block → Counting Block
  of_block tree.no_stats = pure tree.no_stats
  of_block (tree.more_stats s rest) = do
    a ← of_stat s
    b ← of_block rest
    pure (tree.more_stats a b)

  pub of_stat : Stat → Counting Stat
  of_stat (tree.the_stat span kind) = do
    a ← of_stat_kind kind
    pure (tree.the_stat span a)

  pub of_stat_kind : StatKind → Counting StatKind
  of_stat_kind (tree.Assign targets values) = do
    a ← of_exprs targets
    b ← of_exprs values
    pure (tree.Assign a b)
  of_stat_kind (tree.Compound target op value) = do
    a ← of_expr target
    b ← of_expr value
    pure (tree.Compound a op b)
  of_stat_kind (tree.CallStat call) = do
    a ← of_expr call
    pure (tree.CallStat a)
  of_stat_kind (tree.Do body) = do
    a ← of_block body
    pure (tree.Do a)
  of_stat_kind (tree.While cond body) = do
    a ← of_expr cond
    b ← of_block body
    pure (tree.While a b)
  of_stat_kind (tree.Repeat body cond) = do
    a ← of_block body
    b ← of_expr cond
    pure (tree.Repeat a b)
  of_stat_kind (tree.If arms last) = do
    a ← of_arms arms
    b ← of_maybe_block last
    pure (tree.If a b)
  of_stat_kind (tree.NumFor bind from to step body) = do
    a ← of_bind bind
    b ← of_expr from
    c ← of_expr to
    d ← of_maybe_expr step
    e ← of_block body
    pure (tree.NumFor a b c d e)
  of_stat_kind (tree.GenFor binds values body) = do
    a ← of_binds binds
    b ← of_exprs values
    c ← of_block body
    pure (tree.GenFor a b c)
  of_stat_kind (tree.FunctionStat path method body) = do
    a ← of_expr path
    b ← of_body body
    pure (tree.FunctionStat a method b)
  of_stat_kind (tree.LocalFunction name body) = do
    a ← of_bind name
    b ← of_body body
    pure (tree.LocalFunction a b)
  of_stat_kind (tree.Local binds values) = do
    a ← of_binds binds
    b ← of_exprs values
    pure (tree.Local a b)
  of_stat_kind (tree.TypeAlias exported name generics typ) = do
    a ← of_gens generics
    b ← of_type typ
    pure (tree.TypeAlias exported name a b)
  of_stat_kind (tree.TypeFunction exported name body) = do
    a ← of_body body
    pure (tree.TypeFunction exported name a)
  of_stat_kind (tree.Return values) = do
    a ← of_exprs values
    pure (tree.Return a)
  of_stat_kind tree.Break = pure tree.Break
  of_stat_kind tree.Continue = pure tree.Continue

  pub of_arms : Arms → Counting Arms
  of_arms tree.no_arms = pure tree.no_arms
  of_arms (tree.more_arms cond block rest) = do
    a ← of_expr cond
    b ← of_block block
    c ← of_arms rest
    pure (tree.more_arms a b c)

  pub of_maybe_block : MaybeBlock → Counting MaybeBlock
  of_maybe_block tree.no_block = pure tree.no_block
  of_maybe_block (tree.a_block block) = do
    a ← of_block block
    pure (tree.a_block a)

  pub of_expr : Expr → Counting Expr
  of_expr (tree.the_expr id span kind) = do
    n ← next_expr
    a ← of_expr_kind kind
    pure (tree.the_expr n span a)

  pub of_exprs : Exprs → Counting Exprs
  of_exprs tree.no_exprs = pure tree.no_exprs
  of_exprs (tree.more_exprs e rest) = do
    a ← of_expr e
    b ← of_exprs rest
    pure (tree.more_exprs a b)

  pub of_maybe_expr : MaybeExpr → Counting MaybeExpr
  of_maybe_expr tree.no_expr = pure tree.no_expr
  of_maybe_expr (tree.an_expr e) = do
    a ← of_expr e
    pure (tree.an_expr a)

  pub of_expr_kind : ExprKind → Counting ExprKind
  of_expr_kind tree.NilExpr = pure tree.NilExpr
  of_expr_kind tree.TrueExpr = pure tree.TrueExpr
  of_expr_kind tree.FalseExpr = pure tree.FalseExpr
  of_expr_kind (tree.NumberExpr text) = pure (tree.NumberExpr text)
  of_expr_kind (tree.StrExpr bytes) = pure (tree.StrExpr bytes)
  of_expr_kind tree.Vararg = pure tree.Vararg
  of_expr_kind (tree.FunctionExpr body) = do
    a ← of_body body
    pure (tree.FunctionExpr a)
  of_expr_kind (tree.NameExpr name) = pure (tree.NameExpr name)
  of_expr_kind (tree.Index base name) = do
    a ← of_expr base
    pure (tree.Index a name)
  of_expr_kind (tree.At base key) = do
    a ← of_expr base
    b ← of_expr key
    pure (tree.At a b)
  of_expr_kind (tree.Call callee args) = do
    a ← of_expr callee
    b ← of_exprs args
    pure (tree.Call a b)
  of_expr_kind (tree.Method base name span args) = do
    a ← of_expr base
    b ← of_exprs args
    pure (tree.Method a name span b)
  of_expr_kind (tree.Paren e) = do
    a ← of_expr e
    pure (tree.Paren a)
  of_expr_kind (tree.Unary op e) = do
    a ← of_expr e
    pure (tree.Unary op a)
  of_expr_kind (tree.Binary op left right) = do
    a ← of_expr left
    b ← of_expr right
    pure (tree.Binary op a b)
  of_expr_kind (tree.IfElse arms last) = do
    a ← of_choices arms
    b ← of_expr last
    pure (tree.IfElse a b)
  of_expr_kind (tree.TableExpr items) = do
    a ← of_items items
    pure (tree.TableExpr a)
  of_expr_kind (tree.Interp texts parts) = do
    a ← of_exprs parts
    pure (tree.Interp texts a)
  of_expr_kind (tree.Assert e typ) = do
    a ← of_expr e
    b ← of_type typ
    pure (tree.Assert a b)

  pub of_choices : Choices → Counting Choices
  of_choices tree.no_choices = pure tree.no_choices
  of_choices (tree.more_choices cond value rest) = do
    a ← of_expr cond
    b ← of_expr value
    c ← of_choices rest
    pure (tree.more_choices a b c)

  pub of_item : Item → Counting Item
  of_item (tree.Field name value) = do
    a ← of_expr value
    pure (tree.Field name a)
  of_item (tree.Keyed key value) = do
    a ← of_expr key
    b ← of_expr value
    pure (tree.Keyed a b)
  of_item (tree.Plain value) = do
    a ← of_expr value
    pure (tree.Plain a)

  pub of_items : Items → Counting Items
  of_items tree.no_items = pure tree.no_items
  of_items (tree.more_items item rest) = do
    a ← of_item item
    b ← of_items rest
    pure (tree.more_items a b)

  pub of_body : Body → Counting Body
  of_body (tree.the_body id has_self generics params vararg result block span) = do
    n ← next_body
    gs ← of_gens generics
    ps ← of_binds params
    v ← of_varargs vararg
    r ← of_maybe_type result
    b ← of_block block
    pure (tree.the_body n has_self gs ps v r b span)

  pub of_varargs : Varargs → Counting Varargs
  of_varargs tree.no_varargs = pure tree.no_varargs
  of_varargs (tree.varargs typ) = do
    a ← of_maybe_type typ
    pure (tree.varargs a)

  pub of_bind : Bind → Counting Bind
  of_bind (tree.the_bind name span typ) = do
    a ← of_maybe_type typ
    pure (tree.the_bind name span a)

  pub of_binds : Binds → Counting Binds
  of_binds tree.no_binds = pure tree.no_binds
  of_binds (tree.more_binds bind rest) = do
    a ← of_bind bind
    b ← of_binds rest
    pure (tree.more_binds a b)

  pub of_gen : Gen → Counting Gen
  of_gen (tree.the_gen name span pack default) = do
    a ← of_maybe_type default
    pure (tree.the_gen name span pack a)

  pub of_gens : Gens → Counting Gens
  of_gens tree.no_gens = pure tree.no_gens
  of_gens (tree.more_gens gen rest) = do
    a ← of_gen gen
    b ← of_gens rest
    pure (tree.more_gens a b)

  pub of_type : TypeSyntax → Counting TypeSyntax
  of_type (tree.the_type span kind) = do
    a ← of_type_kind kind
    pure (tree.the_type span a)

  pub of_types : TypeSyntaxes → Counting TypeSyntaxes
  of_types tree.no_types = pure tree.no_types
  of_types (tree.more_types typ rest) = do
    a ← of_type typ
    b ← of_types rest
    pure (tree.more_types a b)

  pub of_maybe_type : MaybeType → Counting MaybeType
  of_maybe_type tree.no_type = pure tree.no_type
  of_maybe_type (tree.a_type typ) = do
    a ← of_type typ
    pure (tree.a_type a)

  pub of_type_kind : TypeKind → Counting TypeKind
  of_type_kind tree.NilType = pure tree.NilType
  of_type_kind (tree.BoolType truth) = pure (tree.BoolType truth)
  of_type_kind (tree.StrType bytes) = pure (tree.StrType bytes)
  of_type_kind (tree.Named prefix name args) = do
    a ← of_types args
    pure (tree.Named prefix name a)
  of_type_kind (tree.Typeof e) = do
    a ← of_expr e
    pure (tree.Typeof a)
  of_type_kind (tree.Array item) = do
    a ← of_type item
    pure (tree.Array a)
  of_type_kind (tree.TableType props) = do
    a ← of_props props
    pure (tree.TableType a)
  of_type_kind (tree.Func generics params result) = do
    a ← of_gens generics
    b ← of_types params
    c ← of_type result
    pure (tree.Func a b c)
  of_type_kind (tree.Union types) = do
    a ← of_types types
    pure (tree.Union a)
  of_type_kind (tree.Meet types) = do
    a ← of_types types
    pure (tree.Meet a)
  of_type_kind (tree.Optional typ) = do
    a ← of_type typ
    pure (tree.Optional a)
  of_type_kind (tree.Pack types) = do
    a ← of_types types
    pure (tree.Pack a)
  of_type_kind (tree.Variadic typ) = do
    a ← of_type typ
    pure (tree.Variadic a)
  of_type_kind (tree.GenericPack name) = pure (tree.GenericPack name)

  pub of_prop : Prop → Counting Prop
  of_prop (tree.the_prop access key typ) = do
    a ← of_prop_key key
    b ← of_type typ
    pure (tree.the_prop access a b)

  pub of_props : Props → Counting Props
  of_props tree.no_props = pure tree.no_props
  of_props (tree.more_props prop rest) = do
    a ← of_prop prop
    b ← of_props rest
    pure (tree.more_props a b)

  pub of_prop_key : PropKey → Counting PropKey
  of_prop_key (tree.NameKey name) = pure (tree.NameKey name)
  of_prop_key (tree.Indexer key) = do
    a ← of_type key
    pure (tree.Indexer a)

-- a module's tree with its numbers
abbrev pub numbered : Block → Block
numbered block = (of_block block first).0
