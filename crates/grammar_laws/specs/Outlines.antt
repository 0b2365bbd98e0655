-- Where the nodes of a tree stand in the text: their spans, each with those that stand within it.
use Rattle.std.specs.Prelude.{Bool, true, false}
use Rattle.luau_tree.specs.declared.position.Span.{Span}
use Rattle.luau_tree.specs.Tree.{Block, Stat, StatKind, Arms, MaybeBlock, Expr, Exprs, MaybeExpr, ExprKind, Choices, Item, Items, Body, Varargs, Bind, Binds, Gen, Gens, TypeSyntax, TypeSyntaxes, MaybeType, TypeKind, Prop, Props, PropKey}
use Rattle.luau_tree.specs.Tree as tree

-- spans, each with those that stand within it and those that stand behind it
pub data Outline : Type 0 where
  no_spans : Outline
  more_spans : (span : Span) (inside behind : Outline) → Outline

-- an outline, and then another
abbrev pub and_then : Outline → Outline → Outline
and_then no_spans other = other
and_then (more_spans span inside behind) other = more_spans span inside (and_then behind other)

-- one span, with those that stand within it
abbrev pub node : Span → Outline → Outline
node span inside = more_spans span inside no_spans

-- one span with nothing in it, as a name's
abbrev pub mark : Span → Outline
mark span = node span no_spans

-- a parameter that is written, unless it is a method's `self`
abbrev pub unless : Bool → Outline → Outline
unless true o = no_spans
unless false o = o

-- The spans in the order of the text. Statements, expressions, bodies and written types have spans around what is in
-- them; binds, generics and the names of methods have spans around a name, and the type of a bind and the default of a
-- generic stand behind it.
abbrev mutual
  pub of_block : Block → Outline
  of_block tree.no_stats = no_spans
  of_block (tree.more_stats x rest) = and_then (of_stat x) (of_block rest)

  pub of_stat : Stat → Outline
  of_stat (tree.the_stat span kind) = node span (of_stat_kind kind)

  pub of_stat_kind : StatKind → Outline
  of_stat_kind (tree.Assign targets values) = and_then (of_exprs targets) (of_exprs values)
  of_stat_kind (tree.Compound target op value) = and_then (of_expr target) (of_expr value)
  of_stat_kind (tree.CallStat call) = of_expr call
  of_stat_kind (tree.Do body) = of_block body
  of_stat_kind (tree.While cond body) = and_then (of_expr cond) (of_block body)
  of_stat_kind (tree.Repeat body cond) = and_then (of_block body) (of_expr cond)
  of_stat_kind (tree.If arms last) = and_then (of_arms arms) (of_maybe_block last)
  of_stat_kind (tree.NumFor bind from to step body) =
      and_then (of_bind bind) (and_then (of_expr from) (and_then (of_expr to) (and_then (of_maybe_expr step) (of_block body))))
  of_stat_kind (tree.GenFor binds values body) = and_then (of_binds binds) (and_then (of_exprs values) (of_block body))
  of_stat_kind (tree.FunctionStat path method body) = and_then (of_expr path) (of_body body)
  of_stat_kind (tree.LocalFunction name body) = and_then (of_bind name) (of_body body)
  of_stat_kind (tree.Local binds values) = and_then (of_binds binds) (of_exprs values)
  of_stat_kind (tree.TypeAlias exported name generics typ) = and_then (of_gens generics) (of_type typ)
  of_stat_kind (tree.TypeFunction exported name body) = of_body body
  of_stat_kind (tree.Return values) = of_exprs values
  of_stat_kind tree.Break = no_spans
  of_stat_kind tree.Continue = no_spans

  pub of_arms : Arms → Outline
  of_arms tree.no_arms = no_spans
  of_arms (tree.more_arms cond block rest) = and_then (of_expr cond) (and_then (of_block block) (of_arms rest))

  pub of_maybe_block : MaybeBlock → Outline
  of_maybe_block tree.no_block = no_spans
  of_maybe_block (tree.a_block block) = of_block block

  pub of_expr : Expr → Outline
  of_expr (tree.the_expr id span kind) = node span (of_expr_kind kind)

  pub of_exprs : Exprs → Outline
  of_exprs tree.no_exprs = no_spans
  of_exprs (tree.more_exprs e rest) = and_then (of_expr e) (of_exprs rest)

  pub of_maybe_expr : MaybeExpr → Outline
  of_maybe_expr tree.no_expr = no_spans
  of_maybe_expr (tree.an_expr e) = of_expr e

  pub of_expr_kind : ExprKind → Outline
  of_expr_kind tree.NilExpr = no_spans
  of_expr_kind tree.TrueExpr = no_spans
  of_expr_kind tree.FalseExpr = no_spans
  of_expr_kind (tree.NumberExpr text) = no_spans
  of_expr_kind (tree.StrExpr bytes) = no_spans
  of_expr_kind tree.Vararg = no_spans
  of_expr_kind (tree.FunctionExpr body) = of_body body
  of_expr_kind (tree.NameExpr name) = no_spans
  of_expr_kind (tree.Index base name) = of_expr base
  of_expr_kind (tree.At base key) = and_then (of_expr base) (of_expr key)
  of_expr_kind (tree.Call callee args) = and_then (of_expr callee) (of_exprs args)
  of_expr_kind (tree.Method base name name_span args) = and_then (of_expr base) (and_then (mark name_span) (of_exprs args))
  of_expr_kind (tree.Paren e) = of_expr e
  of_expr_kind (tree.Unary op e) = of_expr e
  of_expr_kind (tree.Binary op left right) = and_then (of_expr left) (of_expr right)
  of_expr_kind (tree.IfElse arms last) = and_then (of_choices arms) (of_expr last)
  of_expr_kind (tree.TableExpr items) = of_items items
  of_expr_kind (tree.Interp texts parts) = of_exprs parts
  of_expr_kind (tree.Assert e typ) = and_then (of_expr e) (of_type typ)

  pub of_choices : Choices → Outline
  of_choices tree.no_choices = no_spans
  of_choices (tree.more_choices cond value rest) = and_then (of_expr cond) (and_then (of_expr value) (of_choices rest))

  pub of_item : Item → Outline
  of_item (tree.Field name value) = of_expr value
  of_item (tree.Keyed key value) = and_then (of_expr key) (of_expr value)
  of_item (tree.Plain value) = of_expr value

  pub of_items : Items → Outline
  of_items tree.no_items = no_spans
  of_items (tree.more_items item rest) = and_then (of_item item) (of_items rest)

  -- a body, and before it a method's `self`
  pub of_body : Body → Outline
  of_body (tree.the_body id has_self generics params vararg result block span) =
      and_then (self_of has_self params)
      (node span (and_then (of_gens generics) (and_then (of_params has_self params) (and_then (of_varargs vararg) (and_then (of_maybe_type result) (of_block block))))))

  -- a method's `self`, which stands at the method's name
  pub self_of : Bool → Binds → Outline
  self_of true (tree.more_binds bind rest) = of_bind bind
  self_of _ _ = no_spans

  -- the parameters of a body that are written
  pub of_params : Bool → Binds → Outline
  of_params has_self tree.no_binds = no_spans
  of_params has_self (tree.more_binds bind rest) = and_then (unless has_self (of_bind bind)) (of_binds rest)

  pub of_varargs : Varargs → Outline
  of_varargs tree.no_varargs = no_spans
  of_varargs (tree.varargs typ) = of_maybe_type typ

  pub of_bind : Bind → Outline
  of_bind (tree.the_bind name span typ) = more_spans span no_spans (of_maybe_type typ)

  pub of_binds : Binds → Outline
  of_binds tree.no_binds = no_spans
  of_binds (tree.more_binds bind rest) = and_then (of_bind bind) (of_binds rest)

  pub of_gen : Gen → Outline
  of_gen (tree.the_gen name span pack default) = more_spans span no_spans (of_maybe_type default)

  pub of_gens : Gens → Outline
  of_gens tree.no_gens = no_spans
  of_gens (tree.more_gens gen rest) = and_then (of_gen gen) (of_gens rest)

  pub of_type : TypeSyntax → Outline
  of_type (tree.the_type span kind) = node span (of_type_kind kind)

  pub of_types : TypeSyntaxes → Outline
  of_types tree.no_types = no_spans
  of_types (tree.more_types typ rest) = and_then (of_type typ) (of_types rest)

  pub of_maybe_type : MaybeType → Outline
  of_maybe_type tree.no_type = no_spans
  of_maybe_type (tree.a_type typ) = of_type typ

  pub of_type_kind : TypeKind → Outline
  of_type_kind tree.NilType = no_spans
  of_type_kind (tree.BoolType truth) = no_spans
  of_type_kind (tree.StrType bytes) = no_spans
  of_type_kind (tree.Named prefix name args) = of_types args
  of_type_kind (tree.Typeof e) = of_expr e
  of_type_kind (tree.Array item) = of_type item
  of_type_kind (tree.TableType props) = of_props props
  of_type_kind (tree.Func generics params result) = and_then (of_gens generics) (and_then (of_types params) (of_type result))
  of_type_kind (tree.Union types) = of_types types
  of_type_kind (tree.Meet types) = of_types types
  of_type_kind (tree.Optional typ) = of_type typ
  of_type_kind (tree.Pack types) = of_types types
  of_type_kind (tree.Variadic typ) = of_type typ
  of_type_kind (tree.GenericPack name) = no_spans

  pub of_prop : Prop → Outline
  of_prop (tree.the_prop access key typ) = and_then (of_key key) (of_type typ)

  pub of_props : Props → Outline
  of_props tree.no_props = no_spans
  of_props (tree.more_props prop rest) = and_then (of_prop prop) (of_props rest)

  pub of_key : PropKey → Outline
  of_key (tree.NameKey name) = no_spans
  of_key (tree.Indexer key) = of_type key
