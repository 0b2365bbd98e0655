-- The names that a tree declares begin at different offsets, where its outline is nested.
use Rattle.std.proofs.Common.{◌≡◌, true, false, List, [], ◌++◌, ◌∷◌, refl, ap, ◌∙◌, subst}
use Rattle.luau_tree.specs.Tree.{Block, Stat, StatKind, Arms, MaybeBlock, Expr, Exprs, MaybeExpr, ExprKind, Choices, Item, Items, Body, Varargs, Bind, Binds, Gen, Gens, TypeSyntax, TypeSyntaxes, MaybeType, TypeKind, Prop, Props, PropKey}
use Rattle.luau_tree.specs.Tree as tree
use Rattle.luau_tree.specs.Nodes.{Node, nodes_of_block, nodes_of_stat, nodes_of_stat_kind, nodes_of_arms, nodes_of_maybe_block, nodes_of_expr, nodes_of_exprs, nodes_of_maybe_expr, nodes_of_expr_kind, nodes_of_choices, nodes_of_item, nodes_of_items, nodes_of_body, nodes_of_varargs, nodes_of_bind, nodes_of_binds, nodes_of_gen, nodes_of_gens, nodes_of_type, nodes_of_types, nodes_of_maybe_type, nodes_of_type_kind, nodes_of_prop, nodes_of_props, nodes_of_prop_key}
use Rattle.luau_lex.specs.Tokens.{Tok}
use Rattle.luau_grammar.specs.Places.{Rules}
use Rattle.luau_grammar.specs.Modules.{IsBare}
use Rattle.grammar_laws.specs.Outlines.{no_spans, more_spans, and_then, node, of_block, of_stat, of_stat_kind, of_arms, of_maybe_block, of_expr, of_exprs, of_maybe_expr, of_expr_kind, of_choices, of_item, of_items, of_body, of_varargs, of_bind, of_binds, of_gen, of_gens, of_type, of_types, of_maybe_type, of_type_kind, of_prop, of_props, of_key}
use Rattle.grammar_laws.specs.Laws.{AreInOrder, HasApartBinds, end_of}
use Rattle.grammar_laws.proofs.Pieces.{regrouped}
use Rattle.grammar_laws.proofs.Distinct.{Apart, nil, two, inside, marked, declared, swapped, pairs}
use Rattle.grammar_laws.proofs.Everywhere.{bare_nested}

spread : (g x p v r b : List Node) → g ++ (x ++ (((p ++ v) ++ r) ++ b)) ≡ ((((g ++ (x ++ p)) ++ v) ++ r) ++ b)
spread [] [] p v r b = refl
spread [] (n ∷ x) p v r b = ap (λ z. n ∷ z) (spread [] x p v r b)
spread (n ∷ g) x p v r b = ap (λ z. n ∷ z) (spread g x p v r b)

module _ (ts : List Tok) where
  mutual
    block_apart : (x : Block) → Apart ts (of_block x) (nodes_of_block x)
    block_apart tree.no_stats = nil ts
    block_apart (tree.more_stats x rest) =
        two ts (of_stat x) (of_block rest) (nodes_of_stat x) (nodes_of_block rest) (stat_apart x) (block_apart rest)

    stat_apart : (x : Stat) → Apart ts (of_stat x) (nodes_of_stat x)
    stat_apart (tree.the_stat span kind) = inside ts span (of_stat_kind kind) (nodes_of_stat_kind kind) (stat_kind_apart kind)

    stat_kind_apart : (x : StatKind) → Apart ts (of_stat_kind x) (nodes_of_stat_kind x)
    stat_kind_apart (tree.Assign targets values) =
        two ts (of_exprs targets) (of_exprs values) (nodes_of_exprs targets) (nodes_of_exprs values) (exprs_apart targets) (exprs_apart values)
    stat_kind_apart (tree.Compound target op value) =
        two ts (of_expr target) (of_expr value) (nodes_of_expr target) (nodes_of_expr value) (expr_apart target) (expr_apart value)
    stat_kind_apart (tree.CallStat call) = expr_apart call
    stat_kind_apart (tree.Do body) = block_apart body
    stat_kind_apart (tree.While cond body) =
        two ts (of_expr cond) (of_block body) (nodes_of_expr cond) (nodes_of_block body) (expr_apart cond) (block_apart body)
    stat_kind_apart (tree.Repeat body cond) =
        two ts (of_block body) (of_expr cond) (nodes_of_block body) (nodes_of_expr cond) (block_apart body) (expr_apart cond)
    stat_kind_apart (tree.If all last) =
        two ts (of_arms all) (of_maybe_block last) (nodes_of_arms all) (nodes_of_maybe_block last) (arms_apart all) (maybe_block_apart last)
    stat_kind_apart (tree.NumFor x from to step body) =
        subst (λ z. Apart ts z (((((nodes_of_bind x) ++ (nodes_of_expr from)) ++ (nodes_of_expr to)) ++ (nodes_of_maybe_expr step)) ++ (nodes_of_block body))) (regrouped (and_then (and_then (of_bind x) (of_expr from)) (of_expr to)) (of_maybe_expr step) (of_block body) ∙ regrouped (and_then (of_bind x) (of_expr from)) (of_expr to) (and_then (of_maybe_expr step) (of_block body)) ∙ regrouped (of_bind x) (of_expr from) (and_then (of_expr to) (and_then (of_maybe_expr step) (of_block body)))) (two ts (and_then (and_then (and_then (of_bind x) (of_expr from)) (of_expr to)) (of_maybe_expr step)) (of_block body) ((((nodes_of_bind x) ++ (nodes_of_expr from)) ++ (nodes_of_expr to)) ++ (nodes_of_maybe_expr step)) (nodes_of_block body) (two ts (and_then (and_then (of_bind x) (of_expr from)) (of_expr to)) (of_maybe_expr step) (((nodes_of_bind x) ++ (nodes_of_expr from)) ++ (nodes_of_expr to)) (nodes_of_maybe_expr step) (two ts (and_then (of_bind x) (of_expr from)) (of_expr to) ((nodes_of_bind x) ++ (nodes_of_expr from)) (nodes_of_expr to) (two ts (of_bind x) (of_expr from) (nodes_of_bind x) (nodes_of_expr from) (bind_apart x) (expr_apart from)) (expr_apart to)) (maybe_expr_apart step)) (block_apart body))
    stat_kind_apart (tree.GenFor all values body) =
        subst (λ z. Apart ts z (((nodes_of_binds all) ++ (nodes_of_exprs values)) ++ (nodes_of_block body))) (regrouped (of_binds all) (of_exprs values) (of_block body)) (two ts (and_then (of_binds all) (of_exprs values)) (of_block body) ((nodes_of_binds all) ++ (nodes_of_exprs values)) (nodes_of_block body) (two ts (of_binds all) (of_exprs values) (nodes_of_binds all) (nodes_of_exprs values) (binds_apart all) (exprs_apart values)) (block_apart body))
    stat_kind_apart (tree.FunctionStat path method body) =
        two ts (of_expr path) (of_body body) (nodes_of_expr path) (nodes_of_body body) (expr_apart path) (body_apart body)
    stat_kind_apart (tree.LocalFunction name body) =
        two ts (of_bind name) (of_body body) (nodes_of_bind name) (nodes_of_body body) (bind_apart name) (body_apart body)
    stat_kind_apart (tree.Local all values) =
        two ts (of_binds all) (of_exprs values) (nodes_of_binds all) (nodes_of_exprs values) (binds_apart all) (exprs_apart values)
    stat_kind_apart (tree.TypeAlias exported name generics t) =
        two ts (of_gens generics) (of_type t) (nodes_of_gens generics) (nodes_of_type t) (gens_apart generics) (typ_apart t)
    stat_kind_apart (tree.TypeFunction exported name body) = body_apart body
    stat_kind_apart (tree.Return values) = exprs_apart values
    stat_kind_apart tree.Break = nil ts
    stat_kind_apart tree.Continue = nil ts

    arms_apart : (x : Arms) → Apart ts (of_arms x) (nodes_of_arms x)
    arms_apart tree.no_arms = nil ts
    arms_apart (tree.more_arms cond body rest) =
        subst (λ z. Apart ts z (((nodes_of_expr cond) ++ (nodes_of_block body)) ++ (nodes_of_arms rest))) (regrouped (of_expr cond) (of_block body) (of_arms rest)) (two ts (and_then (of_expr cond) (of_block body)) (of_arms rest) ((nodes_of_expr cond) ++ (nodes_of_block body)) (nodes_of_arms rest) (two ts (of_expr cond) (of_block body) (nodes_of_expr cond) (nodes_of_block body) (expr_apart cond) (block_apart body)) (arms_apart rest))

    maybe_block_apart : (x : MaybeBlock) → Apart ts (of_maybe_block x) (nodes_of_maybe_block x)
    maybe_block_apart tree.no_block = nil ts
    maybe_block_apart (tree.a_block body) = block_apart body

    expr_apart : (x : Expr) → Apart ts (of_expr x) (nodes_of_expr x)
    expr_apart (tree.the_expr id span kind) = inside ts span (of_expr_kind kind) (nodes_of_expr_kind kind) (expr_kind_apart kind)

    exprs_apart : (x : Exprs) → Apart ts (of_exprs x) (nodes_of_exprs x)
    exprs_apart tree.no_exprs = nil ts
    exprs_apart (tree.more_exprs e rest) =
        two ts (of_expr e) (of_exprs rest) (nodes_of_expr e) (nodes_of_exprs rest) (expr_apart e) (exprs_apart rest)

    maybe_expr_apart : (x : MaybeExpr) → Apart ts (of_maybe_expr x) (nodes_of_maybe_expr x)
    maybe_expr_apart tree.no_expr = nil ts
    maybe_expr_apart (tree.an_expr e) = expr_apart e

    expr_kind_apart : (x : ExprKind) → Apart ts (of_expr_kind x) (nodes_of_expr_kind x)
    expr_kind_apart tree.NilExpr = nil ts
    expr_kind_apart tree.TrueExpr = nil ts
    expr_kind_apart tree.FalseExpr = nil ts
    expr_kind_apart (tree.NumberExpr text) = nil ts
    expr_kind_apart (tree.StrExpr bytes) = nil ts
    expr_kind_apart tree.Vararg = nil ts
    expr_kind_apart (tree.FunctionExpr body) = body_apart body
    expr_kind_apart (tree.NameExpr name) = nil ts
    expr_kind_apart (tree.Index base name) = expr_apart base
    expr_kind_apart (tree.At base key) =
        two ts (of_expr base) (of_expr key) (nodes_of_expr base) (nodes_of_expr key) (expr_apart base) (expr_apart key)
    expr_kind_apart (tree.Call callee args) =
        two ts (of_expr callee) (of_exprs args) (nodes_of_expr callee) (nodes_of_exprs args) (expr_apart callee) (exprs_apart args)
    expr_kind_apart (tree.Method base name span args) =
        two ts (of_expr base) (more_spans span no_spans (of_exprs args)) (nodes_of_expr base) (nodes_of_exprs args) (expr_apart base)
        (marked ts span (of_exprs args) (nodes_of_exprs args) (exprs_apart args))
    expr_kind_apart (tree.Paren e) = expr_apart e
    expr_kind_apart (tree.Unary op e) = expr_apart e
    expr_kind_apart (tree.Binary op left right) =
        two ts (of_expr left) (of_expr right) (nodes_of_expr left) (nodes_of_expr right) (expr_apart left) (expr_apart right)
    expr_kind_apart (tree.IfElse all last) =
        two ts (of_choices all) (of_expr last) (nodes_of_choices all) (nodes_of_expr last) (choices_apart all) (expr_apart last)
    expr_kind_apart (tree.TableExpr all) = items_apart all
    expr_kind_apart (tree.Interp texts parts) = exprs_apart parts
    expr_kind_apart (tree.Assert e t) = two ts (of_expr e) (of_type t) (nodes_of_expr e) (nodes_of_type t) (expr_apart e) (typ_apart t)

    choices_apart : (x : Choices) → Apart ts (of_choices x) (nodes_of_choices x)
    choices_apart tree.no_choices = nil ts
    choices_apart (tree.more_choices cond e rest) =
        subst (λ z. Apart ts z (((nodes_of_expr cond) ++ (nodes_of_expr e)) ++ (nodes_of_choices rest))) (regrouped (of_expr cond) (of_expr e) (of_choices rest)) (two ts (and_then (of_expr cond) (of_expr e)) (of_choices rest) ((nodes_of_expr cond) ++ (nodes_of_expr e)) (nodes_of_choices rest) (two ts (of_expr cond) (of_expr e) (nodes_of_expr cond) (nodes_of_expr e) (expr_apart cond) (expr_apart e)) (choices_apart rest))

    item_apart : (x : Item) → Apart ts (of_item x) (nodes_of_item x)
    item_apart (tree.Field name e) = expr_apart e
    item_apart (tree.Keyed key e) = two ts (of_expr key) (of_expr e) (nodes_of_expr key) (nodes_of_expr e) (expr_apart key) (expr_apart e)
    item_apart (tree.Plain e) = expr_apart e

    items_apart : (x : Items) → Apart ts (of_items x) (nodes_of_items x)
    items_apart tree.no_items = nil ts
    items_apart (tree.more_items x rest) =
        two ts (of_item x) (of_items rest) (nodes_of_item x) (nodes_of_items rest) (item_apart x) (items_apart rest)

    body_apart : (x : Body) → Apart ts (of_body x) (nodes_of_body x)
    body_apart (tree.the_body id true generics tree.no_binds v result body span) =
        inside ts span (and_then (of_gens generics) (and_then (no_spans) (and_then (of_varargs v) (and_then (of_maybe_type result) (of_block body))))) (((((nodes_of_gens generics) ++ ([])) ++ (nodes_of_varargs v)) ++ (nodes_of_maybe_type result)) ++ (nodes_of_block body))
        (subst (λ z. Apart ts z (((((nodes_of_gens generics) ++ ([])) ++ (nodes_of_varargs v)) ++ (nodes_of_maybe_type result)) ++ (nodes_of_block body))) (regrouped (and_then (and_then (of_gens generics) (no_spans)) (of_varargs v)) (of_maybe_type result) (of_block body) ∙ regrouped (and_then (of_gens generics) (no_spans)) (of_varargs v) (and_then (of_maybe_type result) (of_block body)) ∙ regrouped (of_gens generics) (no_spans) (and_then (of_varargs v) (and_then (of_maybe_type result) (of_block body)))) (two ts (and_then (and_then (and_then (of_gens generics) (no_spans)) (of_varargs v)) (of_maybe_type result)) (of_block body) ((((nodes_of_gens generics) ++ ([])) ++ (nodes_of_varargs v)) ++ (nodes_of_maybe_type result)) (nodes_of_block body) (two ts (and_then (and_then (of_gens generics) (no_spans)) (of_varargs v)) (of_maybe_type result) (((nodes_of_gens generics) ++ ([])) ++ (nodes_of_varargs v)) (nodes_of_maybe_type result) (two ts (and_then (of_gens generics) (no_spans)) (of_varargs v) ((nodes_of_gens generics) ++ ([])) (nodes_of_varargs v) (two ts (of_gens generics) (no_spans) (nodes_of_gens generics) ([]) (gens_apart generics) (nil ts)) (varargs_apart v)) (maybe_type_apart result)) (block_apart body)))
    body_apart (tree.the_body id false generics tree.no_binds v result body span) =
        inside ts span (and_then (of_gens generics) (and_then (no_spans) (and_then (of_varargs v) (and_then (of_maybe_type result) (of_block body))))) (((((nodes_of_gens generics) ++ ([])) ++ (nodes_of_varargs v)) ++ (nodes_of_maybe_type result)) ++ (nodes_of_block body))
        (subst (λ z. Apart ts z (((((nodes_of_gens generics) ++ ([])) ++ (nodes_of_varargs v)) ++ (nodes_of_maybe_type result)) ++ (nodes_of_block body))) (regrouped (and_then (and_then (of_gens generics) (no_spans)) (of_varargs v)) (of_maybe_type result) (of_block body) ∙ regrouped (and_then (of_gens generics) (no_spans)) (of_varargs v) (and_then (of_maybe_type result) (of_block body)) ∙ regrouped (of_gens generics) (no_spans) (and_then (of_varargs v) (and_then (of_maybe_type result) (of_block body)))) (two ts (and_then (and_then (and_then (of_gens generics) (no_spans)) (of_varargs v)) (of_maybe_type result)) (of_block body) ((((nodes_of_gens generics) ++ ([])) ++ (nodes_of_varargs v)) ++ (nodes_of_maybe_type result)) (nodes_of_block body) (two ts (and_then (and_then (of_gens generics) (no_spans)) (of_varargs v)) (of_maybe_type result) (((nodes_of_gens generics) ++ ([])) ++ (nodes_of_varargs v)) (nodes_of_maybe_type result) (two ts (and_then (of_gens generics) (no_spans)) (of_varargs v) ((nodes_of_gens generics) ++ ([])) (nodes_of_varargs v) (two ts (of_gens generics) (no_spans) (nodes_of_gens generics) ([]) (gens_apart generics) (nil ts)) (varargs_apart v)) (maybe_type_apart result)) (block_apart body)))
    body_apart (tree.the_body id false generics (tree.more_binds x rest) v result body span) =
        inside ts span (and_then (of_gens generics) (and_then (and_then (of_bind x) (of_binds rest)) (and_then (of_varargs v) (and_then (of_maybe_type result) (of_block body))))) (((((nodes_of_gens generics) ++ (nodes_of_bind x ++ nodes_of_binds rest)) ++ (nodes_of_varargs v)) ++ (nodes_of_maybe_type result)) ++ (nodes_of_block body))
        (subst (λ z. Apart ts z (((((nodes_of_gens generics) ++ (nodes_of_bind x ++ nodes_of_binds rest)) ++ (nodes_of_varargs v)) ++ (nodes_of_maybe_type result)) ++ (nodes_of_block body))) (regrouped (and_then (and_then (of_gens generics) (and_then (of_bind x) (of_binds rest))) (of_varargs v)) (of_maybe_type result) (of_block body) ∙ regrouped (and_then (of_gens generics) (and_then (of_bind x) (of_binds rest))) (of_varargs v) (and_then (of_maybe_type result) (of_block body)) ∙ regrouped (of_gens generics) (and_then (of_bind x) (of_binds rest)) (and_then (of_varargs v) (and_then (of_maybe_type result) (of_block body)))) (two ts (and_then (and_then (and_then (of_gens generics) (and_then (of_bind x) (of_binds rest))) (of_varargs v)) (of_maybe_type result)) (of_block body) ((((nodes_of_gens generics) ++ (nodes_of_bind x ++ nodes_of_binds rest)) ++ (nodes_of_varargs v)) ++ (nodes_of_maybe_type result)) (nodes_of_block body) (two ts (and_then (and_then (of_gens generics) (and_then (of_bind x) (of_binds rest))) (of_varargs v)) (of_maybe_type result) (((nodes_of_gens generics) ++ (nodes_of_bind x ++ nodes_of_binds rest)) ++ (nodes_of_varargs v)) (nodes_of_maybe_type result) (two ts (and_then (of_gens generics) (and_then (of_bind x) (of_binds rest))) (of_varargs v) ((nodes_of_gens generics) ++ (nodes_of_bind x ++ nodes_of_binds rest)) (nodes_of_varargs v) (two ts (of_gens generics) (and_then (of_bind x) (of_binds rest)) (nodes_of_gens generics) (nodes_of_bind x ++ nodes_of_binds rest) (gens_apart generics) (two ts (of_bind x) (of_binds rest) (nodes_of_bind x) (nodes_of_binds rest) (bind_apart x) (binds_apart rest))) (varargs_apart v)) (maybe_type_apart result)) (block_apart body)))
    body_apart (tree.the_body id true generics (tree.more_binds x rest) v result body span) =
        subst (Apart ts (and_then (of_bind x) (node span (and_then (of_gens generics) (and_then (of_binds rest) (and_then (of_varargs v) (and_then (of_maybe_type result) (of_block body))))))))
        (spread (nodes_of_gens generics) (nodes_of_bind x) (nodes_of_binds rest) (nodes_of_varargs v) (nodes_of_maybe_type result) (nodes_of_block body))
        (swapped ts span (of_bind x) (of_gens generics) (and_then (of_binds rest) (and_then (of_varargs v) (and_then (of_maybe_type result) (of_block body))))
        (nodes_of_bind x) (nodes_of_gens generics) ((((nodes_of_binds rest) ++ (nodes_of_varargs v)) ++ (nodes_of_maybe_type result)) ++ (nodes_of_block body)) (bind_apart x) (gens_apart generics)
        (subst (λ z. Apart ts z ((((nodes_of_binds rest) ++ (nodes_of_varargs v)) ++ (nodes_of_maybe_type result)) ++ (nodes_of_block body))) (regrouped (and_then (of_binds rest) (of_varargs v)) (of_maybe_type result) (of_block body) ∙ regrouped (of_binds rest) (of_varargs v) (and_then (of_maybe_type result) (of_block body))) (two ts (and_then (and_then (of_binds rest) (of_varargs v)) (of_maybe_type result)) (of_block body) (((nodes_of_binds rest) ++ (nodes_of_varargs v)) ++ (nodes_of_maybe_type result)) (nodes_of_block body) (two ts (and_then (of_binds rest) (of_varargs v)) (of_maybe_type result) ((nodes_of_binds rest) ++ (nodes_of_varargs v)) (nodes_of_maybe_type result) (two ts (of_binds rest) (of_varargs v) (nodes_of_binds rest) (nodes_of_varargs v) (binds_apart rest) (varargs_apart v)) (maybe_type_apart result)) (block_apart body))))

    varargs_apart : (x : Varargs) → Apart ts (of_varargs x) (nodes_of_varargs x)
    varargs_apart tree.no_varargs = nil ts
    varargs_apart (tree.varargs t) = maybe_type_apart t

    bind_apart : (x : Bind) → Apart ts (of_bind x) (nodes_of_bind x)
    bind_apart (tree.the_bind name span t) = declared ts name span t (of_maybe_type t) (nodes_of_maybe_type t) (maybe_type_apart t)

    binds_apart : (x : Binds) → Apart ts (of_binds x) (nodes_of_binds x)
    binds_apart tree.no_binds = nil ts
    binds_apart (tree.more_binds x rest) =
        two ts (of_bind x) (of_binds rest) (nodes_of_bind x) (nodes_of_binds rest) (bind_apart x) (binds_apart rest)

    gen_apart : (x : Gen) → Apart ts (of_gen x) (nodes_of_gen x)
    gen_apart (tree.the_gen name span pack t) = marked ts span (of_maybe_type t) (nodes_of_maybe_type t) (maybe_type_apart t)

    gens_apart : (x : Gens) → Apart ts (of_gens x) (nodes_of_gens x)
    gens_apart tree.no_gens = nil ts
    gens_apart (tree.more_gens x rest) = two ts (of_gen x) (of_gens rest) (nodes_of_gen x) (nodes_of_gens rest) (gen_apart x) (gens_apart rest)

    typ_apart : (x : TypeSyntax) → Apart ts (of_type x) (nodes_of_type x)
    typ_apart (tree.the_type span kind) = inside ts span (of_type_kind kind) (nodes_of_type_kind kind) (type_kind_apart kind)

    types_apart : (x : TypeSyntaxes) → Apart ts (of_types x) (nodes_of_types x)
    types_apart tree.no_types = nil ts
    types_apart (tree.more_types t rest) = two ts (of_type t) (of_types rest) (nodes_of_type t) (nodes_of_types rest) (typ_apart t) (types_apart rest)

    maybe_type_apart : (x : MaybeType) → Apart ts (of_maybe_type x) (nodes_of_maybe_type x)
    maybe_type_apart tree.no_type = nil ts
    maybe_type_apart (tree.a_type t) = typ_apart t

    type_kind_apart : (x : TypeKind) → Apart ts (of_type_kind x) (nodes_of_type_kind x)
    type_kind_apart tree.NilType = nil ts
    type_kind_apart (tree.BoolType truth) = nil ts
    type_kind_apart (tree.StrType bytes) = nil ts
    type_kind_apart (tree.Named prefix name args) = types_apart args
    type_kind_apart (tree.Typeof e) = expr_apart e
    type_kind_apart (tree.Array t) = typ_apart t
    type_kind_apart (tree.TableType all) = props_apart all
    type_kind_apart (tree.Func generics params result) =
        subst (λ z. Apart ts z (((nodes_of_gens generics) ++ (nodes_of_types params)) ++ (nodes_of_type result))) (regrouped (of_gens generics) (of_types params) (of_type result)) (two ts (and_then (of_gens generics) (of_types params)) (of_type result) ((nodes_of_gens generics) ++ (nodes_of_types params)) (nodes_of_type result) (two ts (of_gens generics) (of_types params) (nodes_of_gens generics) (nodes_of_types params) (gens_apart generics) (types_apart params)) (typ_apart result))
    type_kind_apart (tree.Union all) = types_apart all
    type_kind_apart (tree.Meet all) = types_apart all
    type_kind_apart (tree.Optional t) = typ_apart t
    type_kind_apart (tree.Pack all) = types_apart all
    type_kind_apart (tree.Variadic t) = typ_apart t
    type_kind_apart (tree.GenericPack name) = nil ts

    prop_apart : (x : Prop) → Apart ts (of_prop x) (nodes_of_prop x)
    prop_apart (tree.the_prop access key t) = two ts (of_key key) (of_type t) (nodes_of_prop_key key) (nodes_of_type t) (key_apart key) (typ_apart t)

    props_apart : (x : Props) → Apart ts (of_props x) (nodes_of_props x)
    props_apart tree.no_props = nil ts
    props_apart (tree.more_props x rest) =
        two ts (of_prop x) (of_props rest) (nodes_of_prop x) (nodes_of_props rest) (prop_apart x) (props_apart rest)

    key_apart : (x : PropKey) → Apart ts (of_key x) (nodes_of_prop_key x)
    key_apart (tree.NameKey name) = nil ts
    key_apart (tree.Indexer t) = typ_apart t

pub declared_apart : (rules : Rules) (ts : List Tok) (b : Block) → AreInOrder 0 ts → IsBare rules ts b → HasApartBinds b
declared_apart rules ts b h is = pairs ts (of_block b) (nodes_of_block b) 0 (end_of 0 ts) (block_apart ts b) (bare_nested rules ts b h is)
