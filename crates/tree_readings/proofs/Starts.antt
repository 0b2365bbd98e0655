-- Numbers leave the declared names where they are.
use Rattle.std.proofs.Common.{◌≡◌, ℕ, List, [], ◌∷◌, ◌++◌, map, refl, sym, ap, ap₂, ◌∙◌}
use Rattle.luau_tree.specs.declared.position.Span.{Span}
use Rattle.luau_tree.specs.Tree.{Block, Stat, StatKind, Arms, MaybeBlock, Expr, Exprs, MaybeExpr, ExprKind, Choices, Item, Items, Body, Varargs, Bind, Binds, Gen, Gens, TypeSyntax, TypeSyntaxes, MaybeType, TypeKind, Prop, Props, PropKey}
use Rattle.luau_tree.specs.Tree as tree
use Rattle.luau_tree.specs.Nodes.{Node, AnExpr, ABody, ABind, binds_among, binds_in, nodes_of_block, nodes_of_stat, nodes_of_stat_kind, nodes_of_arms, nodes_of_maybe_block, nodes_of_expr, nodes_of_exprs, nodes_of_maybe_expr, nodes_of_expr_kind, nodes_of_choices, nodes_of_items, nodes_of_item, nodes_of_body, nodes_of_varargs, nodes_of_bind, nodes_of_binds, nodes_of_gen, nodes_of_gens, nodes_of_type, nodes_of_types, nodes_of_maybe_type, nodes_of_type_kind, nodes_of_props, nodes_of_prop, nodes_of_prop_key}
use Rattle.luau_scope.specs.Captured.{bind_start}
use Rattle.tree_numbers.specs.Erased.{erased_block, erased_stat, erased_stat_kind, erased_arms, erased_maybe_block, erased_expr, erased_exprs, erased_maybe_expr, erased_expr_kind, erased_choices, erased_items, erased_item, erased_body, erased_varargs, erased_bind, erased_binds, erased_gen, erased_gens, erased_type, erased_types, erased_maybe_type, erased_type_kind, erased_props, erased_prop, erased_prop_key}
use Rattle.tree_numbers.specs.Numbered.{numbered}
use Rattle.tree_numbers.specs.Counting.{first}
use Rattle.tree_numbers.proofs.Same.{same_block as erases}

-- where the names that are among some nodes begin
abbrev starts : List Node → List ℕ
starts ns = map bind_start (binds_among ns)

record SameStarts (xs ys : List Node) : Type 0 where
  same : starts xs ≡ starts ys

nothing : SameStarts [] []
nothing = record { same = refl }

starts_append : (xs ys : List Node) → starts (xs ++ ys) ≡ starts xs ++ starts ys
starts_append [] ys = refl
starts_append (AnExpr e ∷ xs) ys = starts_append xs ys
starts_append (ABody b ∷ xs) ys = starts_append xs ys
starts_append (ABind b ∷ xs) ys = ap (λ (ns : List ℕ). bind_start b ∷ ns) (starts_append xs ys)

both : {xs xs' ys ys' : List Node} → SameStarts xs xs' → SameStarts ys ys' → SameStarts (xs ++ ys) (xs' ++ ys')
both {xs = xs} {xs' = xs'} {ys = ys} {ys' = ys'} a b = record {
  same = starts_append xs ys ∙ ap₂ (λ (ns ms : List ℕ). ns ++ ms) a.same b.same ∙ sym (starts_append xs' ys');
}

past_expr : {e e' : Expr} {xs ys : List Node} → SameStarts xs ys → SameStarts (AnExpr e ∷ xs) (AnExpr e' ∷ ys)
past_expr a = record { same = a.same }

past_body : {b b' : Body} {xs ys : List Node} → SameStarts xs ys → SameStarts (ABody b ∷ xs) (ABody b' ∷ ys)
past_body a = record { same = a.same }

past_bind : {name : List ℕ} {span : Span} {t t' : MaybeType} {xs ys : List Node} → SameStarts xs ys → SameStarts (ABind (tree.the_bind name span t) ∷ xs) (ABind (tree.the_bind name span t') ∷ ys)
past_bind {span = span} a = record { same = ap (λ (ns : List ℕ). span.start ∷ ns) a.same }

mutual
  same_block : (x : Block) → SameStarts (nodes_of_block (erased_block x)) (nodes_of_block x)
  same_block tree.no_stats = nothing
  same_block (tree.more_stats s rest) = both (same_stat s) (same_block rest)

  same_stat : (x : Stat) → SameStarts (nodes_of_stat (erased_stat x)) (nodes_of_stat x)
  same_stat (tree.the_stat span kind) = same_stat_kind kind

  same_stat_kind : (x : StatKind) → SameStarts (nodes_of_stat_kind (erased_stat_kind x)) (nodes_of_stat_kind x)
  same_stat_kind (tree.Assign targets values) = both (same_exprs targets) (same_exprs values)
  same_stat_kind (tree.Compound target op e) = both (same_expr target) (same_expr e)
  same_stat_kind (tree.CallStat e) = same_expr e
  same_stat_kind (tree.Do body) = same_block body
  same_stat_kind (tree.While cond body) = both (same_expr cond) (same_block body)
  same_stat_kind (tree.Repeat body cond) = both (same_block body) (same_expr cond)
  same_stat_kind (tree.If arms last) = both (same_arms arms) (same_maybe_block last)
  same_stat_kind (tree.NumFor bind from to by body) = both (both (both (both (same_bind bind) (same_expr from)) (same_expr to)) (same_maybe_expr by)) (same_block body)
  same_stat_kind (tree.GenFor binds values body) = both (both (same_binds binds) (same_exprs values)) (same_block body)
  same_stat_kind (tree.FunctionStat path method body) = both (same_expr path) (same_body body)
  same_stat_kind (tree.LocalFunction name body) = both (same_bind name) (same_body body)
  same_stat_kind (tree.Local binds values) = both (same_binds binds) (same_exprs values)
  same_stat_kind (tree.TypeAlias exported name generics typ) = both (same_gens generics) (same_type typ)
  same_stat_kind (tree.TypeFunction exported name body) = same_body body
  same_stat_kind (tree.Return values) = same_exprs values
  same_stat_kind tree.Break = nothing
  same_stat_kind tree.Continue = nothing

  same_arms : (x : Arms) → SameStarts (nodes_of_arms (erased_arms x)) (nodes_of_arms x)
  same_arms tree.no_arms = nothing
  same_arms (tree.more_arms cond body rest) = both (both (same_expr cond) (same_block body)) (same_arms rest)

  same_maybe_block : (x : MaybeBlock) → SameStarts (nodes_of_maybe_block (erased_maybe_block x)) (nodes_of_maybe_block x)
  same_maybe_block tree.no_block = nothing
  same_maybe_block (tree.a_block body) = same_block body

  same_expr : (x : Expr) → SameStarts (nodes_of_expr (erased_expr x)) (nodes_of_expr x)
  same_expr (tree.the_expr id span kind) = past_expr (same_expr_kind kind)

  same_exprs : (x : Exprs) → SameStarts (nodes_of_exprs (erased_exprs x)) (nodes_of_exprs x)
  same_exprs tree.no_exprs = nothing
  same_exprs (tree.more_exprs e rest) = both (same_expr e) (same_exprs rest)

  same_maybe_expr : (x : MaybeExpr) → SameStarts (nodes_of_maybe_expr (erased_maybe_expr x)) (nodes_of_maybe_expr x)
  same_maybe_expr tree.no_expr = nothing
  same_maybe_expr (tree.an_expr e) = same_expr e

  same_expr_kind : (x : ExprKind) → SameStarts (nodes_of_expr_kind (erased_expr_kind x)) (nodes_of_expr_kind x)
  same_expr_kind tree.NilExpr = nothing
  same_expr_kind tree.TrueExpr = nothing
  same_expr_kind tree.FalseExpr = nothing
  same_expr_kind (tree.NumberExpr text) = nothing
  same_expr_kind (tree.StrExpr bytes) = nothing
  same_expr_kind tree.Vararg = nothing
  same_expr_kind (tree.FunctionExpr body) = same_body body
  same_expr_kind (tree.NameExpr name) = nothing
  same_expr_kind (tree.Index base name) = same_expr base
  same_expr_kind (tree.At base key) = both (same_expr base) (same_expr key)
  same_expr_kind (tree.Call callee args) = both (same_expr callee) (same_exprs args)
  same_expr_kind (tree.Method base name span args) = both (same_expr base) (same_exprs args)
  same_expr_kind (tree.Paren e) = same_expr e
  same_expr_kind (tree.Unary op e) = same_expr e
  same_expr_kind (tree.Binary op left right) = both (same_expr left) (same_expr right)
  same_expr_kind (tree.IfElse arms last) = both (same_choices arms) (same_expr last)
  same_expr_kind (tree.TableExpr items) = same_items items
  same_expr_kind (tree.Interp texts parts) = same_exprs parts
  same_expr_kind (tree.Assert e typ) = both (same_expr e) (same_type typ)

  same_choices : (x : Choices) → SameStarts (nodes_of_choices (erased_choices x)) (nodes_of_choices x)
  same_choices tree.no_choices = nothing
  same_choices (tree.more_choices cond e rest) = both (both (same_expr cond) (same_expr e)) (same_choices rest)

  same_items : (x : Items) → SameStarts (nodes_of_items (erased_items x)) (nodes_of_items x)
  same_items tree.no_items = nothing
  same_items (tree.more_items item rest) = both (same_item item) (same_items rest)

  same_item : (x : Item) → SameStarts (nodes_of_item (erased_item x)) (nodes_of_item x)
  same_item (tree.Field name e) = same_expr e
  same_item (tree.Keyed key e) = both (same_expr key) (same_expr e)
  same_item (tree.Plain e) = same_expr e

  same_body : (x : Body) → SameStarts (nodes_of_body (erased_body x)) (nodes_of_body x)
  same_body (tree.the_body id has_self generics params vararg result body span) = past_body (both (both (both (both (same_gens generics) (same_binds params)) (same_varargs vararg)) (same_maybe_type result)) (same_block body))

  same_varargs : (x : Varargs) → SameStarts (nodes_of_varargs (erased_varargs x)) (nodes_of_varargs x)
  same_varargs tree.no_varargs = nothing
  same_varargs (tree.varargs typ) = same_maybe_type typ

  same_bind : (x : Bind) → SameStarts (nodes_of_bind (erased_bind x)) (nodes_of_bind x)
  same_bind (tree.the_bind name span typ) = past_bind (same_maybe_type typ)

  same_binds : (x : Binds) → SameStarts (nodes_of_binds (erased_binds x)) (nodes_of_binds x)
  same_binds tree.no_binds = nothing
  same_binds (tree.more_binds bind rest) = both (same_bind bind) (same_binds rest)

  same_gen : (x : Gen) → SameStarts (nodes_of_gen (erased_gen x)) (nodes_of_gen x)
  same_gen (tree.the_gen name span pack default) = same_maybe_type default

  same_gens : (x : Gens) → SameStarts (nodes_of_gens (erased_gens x)) (nodes_of_gens x)
  same_gens tree.no_gens = nothing
  same_gens (tree.more_gens gen rest) = both (same_gen gen) (same_gens rest)

  same_type : (x : TypeSyntax) → SameStarts (nodes_of_type (erased_type x)) (nodes_of_type x)
  same_type (tree.the_type span kind) = same_type_kind kind

  same_types : (x : TypeSyntaxes) → SameStarts (nodes_of_types (erased_types x)) (nodes_of_types x)
  same_types tree.no_types = nothing
  same_types (tree.more_types typ rest) = both (same_type typ) (same_types rest)

  same_maybe_type : (x : MaybeType) → SameStarts (nodes_of_maybe_type (erased_maybe_type x)) (nodes_of_maybe_type x)
  same_maybe_type tree.no_type = nothing
  same_maybe_type (tree.a_type typ) = same_type typ

  same_type_kind : (x : TypeKind) → SameStarts (nodes_of_type_kind (erased_type_kind x)) (nodes_of_type_kind x)
  same_type_kind tree.NilType = nothing
  same_type_kind (tree.BoolType truth) = nothing
  same_type_kind (tree.StrType bytes) = nothing
  same_type_kind (tree.Named prefix name args) = same_types args
  same_type_kind (tree.Typeof e) = same_expr e
  same_type_kind (tree.Array typ) = same_type typ
  same_type_kind (tree.TableType props) = same_props props
  same_type_kind (tree.Func generics params result) = both (both (same_gens generics) (same_types params)) (same_type result)
  same_type_kind (tree.Union types) = same_types types
  same_type_kind (tree.Meet types) = same_types types
  same_type_kind (tree.Optional typ) = same_type typ
  same_type_kind (tree.Pack types) = same_types types
  same_type_kind (tree.Variadic typ) = same_type typ
  same_type_kind (tree.GenericPack name) = nothing

  same_props : (x : Props) → SameStarts (nodes_of_props (erased_props x)) (nodes_of_props x)
  same_props tree.no_props = nothing
  same_props (tree.more_props prop rest) = both (same_prop prop) (same_props rest)

  same_prop : (x : Prop) → SameStarts (nodes_of_prop (erased_prop x)) (nodes_of_prop x)
  same_prop (tree.the_prop access key typ) = both (same_prop_key key) (same_type typ)

  same_prop_key : (x : PropKey) → SameStarts (nodes_of_prop_key (erased_prop_key x)) (nodes_of_prop_key x)
  same_prop_key (tree.NameKey name) = nothing
  same_prop_key (tree.Indexer typ) = same_type typ

-- a numbered tree declares names where the tree does
pub numbered_starts : (b : Block) → map bind_start (binds_in (numbered b)) ≡ map bind_start (binds_in b)
numbered_starts b =
    sym ((same_block (numbered b)).same) ∙ ap (λ (x : Block). map bind_start (binds_in x)) (erases b first) ∙ (same_block b).same
