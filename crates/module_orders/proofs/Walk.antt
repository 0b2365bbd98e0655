-- The names that a tree declares begin one behind the other, where its outline is nested.
use Rattle.std.proofs.Common.{true, false, List}
use Rattle.luau_tree.specs.Tree.{Block, Stat, StatKind, Arms, MaybeBlock, Expr, Exprs, MaybeExpr, ExprKind, Choices, Item, Items, Body, Varargs, Bind, Binds, Gen, Gens, TypeSyntax, TypeSyntaxes, MaybeType, TypeKind, Prop, Props, PropKey}
use Rattle.luau_tree.specs.Tree as tree
use Rattle.luau_tree.specs.Nodes.{nodes_of_block, nodes_of_stat, nodes_of_stat_kind, nodes_of_arms, nodes_of_maybe_block, nodes_of_expr, nodes_of_exprs, nodes_of_maybe_expr, nodes_of_expr_kind, nodes_of_choices, nodes_of_item, nodes_of_items, nodes_of_body, nodes_of_varargs, nodes_of_bind, nodes_of_binds, nodes_of_gen, nodes_of_gens, nodes_of_type, nodes_of_types, nodes_of_maybe_type, nodes_of_type_kind, nodes_of_prop, nodes_of_props, nodes_of_prop_key}
use Rattle.luau_lex.specs.Tokens.{Tok}
use Rattle.grammar_laws.specs.Outlines.{of_block, of_stat, of_stat_kind, of_arms, of_maybe_block, of_expr, of_exprs, of_maybe_expr, of_expr_kind, of_choices, of_item, of_items, of_body, of_varargs, of_bind, of_binds, of_gen, of_gens, of_type, of_types, of_maybe_type, of_type_kind, of_prop, of_props, of_key}
use Rattle.module_orders.proofs.Orders.{Ordered, nil, two, three, four, five, inside, an_expr, a_body, marked, declared, past, method}

module _ (ts : List Tok) where
  mutual
    pub block : (x : Block) → Ordered ts (of_block x) (nodes_of_block x)
    block tree.no_stats = nil ts
    block (tree.more_stats x rest) = two ts (stat x) (block rest)

    stat : (x : Stat) → Ordered ts (of_stat x) (nodes_of_stat x)
    stat (tree.the_stat span kind) = inside ts (stat_kind kind)

    stat_kind : (x : StatKind) → Ordered ts (of_stat_kind x) (nodes_of_stat_kind x)
    stat_kind (tree.Assign targets values) = two ts (exprs targets) (exprs values)
    stat_kind (tree.Compound target op value) = two ts (expr target) (expr value)
    stat_kind (tree.CallStat call) = expr call
    stat_kind (tree.Do body) = block body
    stat_kind (tree.While cond body) = two ts (expr cond) (block body)
    stat_kind (tree.Repeat body cond) = two ts (block body) (expr cond)
    stat_kind (tree.If all last) = two ts (arms all) (maybe_block last)
    stat_kind (tree.NumFor x from to step body) = five ts (bind x) (expr from) (expr to) (maybe_expr step) (block body)
    stat_kind (tree.GenFor all values body) = three ts (binds all) (exprs values) (block body)
    stat_kind (tree.FunctionStat path name body) = two ts (expr path) (a_function body)
    stat_kind (tree.LocalFunction name body) = two ts (bind name) (a_function body)
    stat_kind (tree.Local all values) = two ts (binds all) (exprs values)
    stat_kind (tree.TypeAlias exported name generics t) = two ts (gens generics) (typ t)
    stat_kind (tree.TypeFunction exported name body) = a_function body
    stat_kind (tree.Return values) = exprs values
    stat_kind tree.Break = nil ts
    stat_kind tree.Continue = nil ts

    arms : (x : Arms) → Ordered ts (of_arms x) (nodes_of_arms x)
    arms tree.no_arms = nil ts
    arms (tree.more_arms cond body rest) = three ts (expr cond) (block body) (arms rest)

    maybe_block : (x : MaybeBlock) → Ordered ts (of_maybe_block x) (nodes_of_maybe_block x)
    maybe_block tree.no_block = nil ts
    maybe_block (tree.a_block body) = block body

    expr : (x : Expr) → Ordered ts (of_expr x) (nodes_of_expr x)
    expr (tree.the_expr id span kind) = an_expr ts (expr_kind kind)

    exprs : (x : Exprs) → Ordered ts (of_exprs x) (nodes_of_exprs x)
    exprs tree.no_exprs = nil ts
    exprs (tree.more_exprs e rest) = two ts (expr e) (exprs rest)

    maybe_expr : (x : MaybeExpr) → Ordered ts (of_maybe_expr x) (nodes_of_maybe_expr x)
    maybe_expr tree.no_expr = nil ts
    maybe_expr (tree.an_expr e) = expr e

    expr_kind : (x : ExprKind) → Ordered ts (of_expr_kind x) (nodes_of_expr_kind x)
    expr_kind tree.NilExpr = nil ts
    expr_kind tree.TrueExpr = nil ts
    expr_kind tree.FalseExpr = nil ts
    expr_kind (tree.NumberExpr text) = nil ts
    expr_kind (tree.StrExpr bytes) = nil ts
    expr_kind tree.Vararg = nil ts
    expr_kind (tree.FunctionExpr body) = a_function body
    expr_kind (tree.NameExpr name) = nil ts
    expr_kind (tree.Index base name) = expr base
    expr_kind (tree.At base key) = two ts (expr base) (expr key)
    expr_kind (tree.Call callee args) = two ts (expr callee) (exprs args)
    expr_kind (tree.Method base name span args) = two ts (expr base) (marked ts (exprs args))
    expr_kind (tree.Paren e) = expr e
    expr_kind (tree.Unary op e) = expr e
    expr_kind (tree.Binary op left right) = two ts (expr left) (expr right)
    expr_kind (tree.IfElse all last) = two ts (choices all) (expr last)
    expr_kind (tree.TableExpr all) = items all
    expr_kind (tree.Interp texts parts) = exprs parts
    expr_kind (tree.Assert e t) = two ts (expr e) (typ t)

    choices : (x : Choices) → Ordered ts (of_choices x) (nodes_of_choices x)
    choices tree.no_choices = nil ts
    choices (tree.more_choices cond e rest) = three ts (expr cond) (expr e) (choices rest)

    item : (x : Item) → Ordered ts (of_item x) (nodes_of_item x)
    item (tree.Field name e) = expr e
    item (tree.Keyed key e) = two ts (expr key) (expr e)
    item (tree.Plain e) = expr e

    items : (x : Items) → Ordered ts (of_items x) (nodes_of_items x)
    items tree.no_items = nil ts
    items (tree.more_items x rest) = two ts (item x) (items rest)

    a_function : (x : Body) → Ordered ts (of_body x) (nodes_of_body x)
    a_function (tree.the_body id true generics tree.no_binds v result body span) =
        a_body ts (five ts (gens generics) (nil ts) (varargs v) (maybe_type result) (block body))
    a_function (tree.the_body id false generics tree.no_binds v result body span) =
        a_body ts (five ts (gens generics) (nil ts) (varargs v) (maybe_type result) (block body))
    a_function (tree.the_body id false generics (tree.more_binds x rest) v result body span) =
        a_body ts (five ts (gens generics) (two ts (bind x) (binds rest)) (varargs v) (maybe_type result) (block body))
    a_function (tree.the_body id true generics (tree.more_binds x rest) v result body span) =
        method ts (tree.the_body id true generics (tree.more_binds x rest) v result body span) (nodes_of_gens generics) (nodes_of_bind x) (nodes_of_binds rest)
        (nodes_of_varargs v) (nodes_of_maybe_type result) (nodes_of_block body) _ (λ e. e)
        (past ts span (of_gens generics) (bind x) (four ts (binds rest) (varargs v) (maybe_type result) (block body)))

    varargs : (x : Varargs) → Ordered ts (of_varargs x) (nodes_of_varargs x)
    varargs tree.no_varargs = nil ts
    varargs (tree.varargs t) = maybe_type t

    bind : (x : Bind) → Ordered ts (of_bind x) (nodes_of_bind x)
    bind (tree.the_bind name span t) = declared ts (maybe_type t)

    binds : (x : Binds) → Ordered ts (of_binds x) (nodes_of_binds x)
    binds tree.no_binds = nil ts
    binds (tree.more_binds x rest) = two ts (bind x) (binds rest)

    gen : (x : Gen) → Ordered ts (of_gen x) (nodes_of_gen x)
    gen (tree.the_gen name span pack t) = marked ts (maybe_type t)

    gens : (x : Gens) → Ordered ts (of_gens x) (nodes_of_gens x)
    gens tree.no_gens = nil ts
    gens (tree.more_gens x rest) = two ts (gen x) (gens rest)

    typ : (x : TypeSyntax) → Ordered ts (of_type x) (nodes_of_type x)
    typ (tree.the_type span kind) = inside ts (type_kind kind)

    types : (x : TypeSyntaxes) → Ordered ts (of_types x) (nodes_of_types x)
    types tree.no_types = nil ts
    types (tree.more_types t rest) = two ts (typ t) (types rest)

    maybe_type : (x : MaybeType) → Ordered ts (of_maybe_type x) (nodes_of_maybe_type x)
    maybe_type tree.no_type = nil ts
    maybe_type (tree.a_type t) = typ t

    type_kind : (x : TypeKind) → Ordered ts (of_type_kind x) (nodes_of_type_kind x)
    type_kind tree.NilType = nil ts
    type_kind (tree.BoolType truth) = nil ts
    type_kind (tree.StrType bytes) = nil ts
    type_kind (tree.Named prefix name args) = types args
    type_kind (tree.Typeof e) = expr e
    type_kind (tree.Array t) = typ t
    type_kind (tree.TableType all) = props all
    type_kind (tree.Func generics params result) = three ts (gens generics) (types params) (typ result)
    type_kind (tree.Union all) = types all
    type_kind (tree.Meet all) = types all
    type_kind (tree.Optional t) = typ t
    type_kind (tree.Pack all) = types all
    type_kind (tree.Variadic t) = typ t
    type_kind (tree.GenericPack name) = nil ts

    prop : (x : Prop) → Ordered ts (of_prop x) (nodes_of_prop x)
    prop (tree.the_prop access key t) = two ts (prop_key key) (typ t)

    props : (x : Props) → Ordered ts (of_props x) (nodes_of_props x)
    props tree.no_props = nil ts
    props (tree.more_props x rest) = two ts (prop x) (props rest)

    prop_key : (x : PropKey) → Ordered ts (of_key x) (nodes_of_prop_key x)
    prop_key (tree.NameKey name) = nil ts
    prop_key (tree.Indexer t) = typ t
