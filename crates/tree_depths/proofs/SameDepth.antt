-- Numbers leave a tree as deep as it is.
use Rattle.std.proofs.Common.{◌≡◌, ℕ, suc, max, refl, sym, ap, ap₂, ◌∙◌}
use Rattle.luau_tree.specs.Tree.{Block, Stat, StatKind, Arms, MaybeBlock, Expr, Exprs, MaybeExpr, ExprKind, Choices, Item, Items, Body, Varargs, Bind, Binds, Gen, Gens, TypeSyntax, TypeSyntaxes, MaybeType, TypeKind, Prop, Props, PropKey}
use Rattle.luau_tree.specs.Tree as tree
use Rattle.tree_numbers.specs.Erased.{erased_block, erased_stat, erased_stat_kind, erased_arms, erased_maybe_block, erased_expr, erased_exprs, erased_maybe_expr, erased_expr_kind, erased_choices, erased_item, erased_items, erased_body, erased_varargs, erased_bind, erased_binds, erased_gen, erased_gens, erased_type, erased_types, erased_maybe_type, erased_type_kind, erased_prop, erased_props, erased_prop_key}
use Rattle.tree_numbers.specs.Numbered.{numbered}
use Rattle.tree_numbers.specs.Counting.{first}
use Rattle.tree_numbers.proofs.Same.{same_block as erases}
use Rattle.tree_depths.specs.Depths.{of_block, of_stat, of_stat_kind, of_arms, of_maybe_block, of_expr, of_exprs, of_maybe_expr, of_expr_kind, of_choices, of_item, of_items, of_body, of_varargs, of_bind, of_binds, of_gen, of_gens, of_type, of_types, of_maybe_type, of_type_kind, of_prop, of_props, of_key}

both : {n m k l : ℕ} → n ≡ m → k ≡ l → max n k ≡ max m l
both a b = ap₂ max a b

mutual
  same_block : (x : Block) → of_block (erased_block x) ≡ of_block x
  same_block tree.no_stats = refl
  same_block (tree.more_stats x rest) = both (same_stat x) (same_block rest)

  same_stat : (x : Stat) → of_stat (erased_stat x) ≡ of_stat x
  same_stat (tree.the_stat span kind) = ap suc (same_stat_kind kind)

  same_stat_kind : (x : StatKind) → of_stat_kind (erased_stat_kind x) ≡ of_stat_kind x
  same_stat_kind (tree.Assign targets values) = both (same_exprs targets) (same_exprs values)
  same_stat_kind (tree.Compound target op value) = both (same_expr target) (same_expr value)
  same_stat_kind (tree.CallStat call) = same_expr call
  same_stat_kind (tree.Do body) = same_block body
  same_stat_kind (tree.While cond body) = both (same_expr cond) (same_block body)
  same_stat_kind (tree.Repeat body cond) = both (same_block body) (same_expr cond)
  same_stat_kind (tree.If arms last) = both (same_arms arms) (same_maybe_block last)
  same_stat_kind (tree.NumFor bind from to step body) = both (same_bind bind) (both (same_expr from) (both (same_expr to) (both (same_maybe_expr step) (same_block body))))
  same_stat_kind (tree.GenFor binds values body) = both (same_binds binds) (both (same_exprs values) (same_block body))
  same_stat_kind (tree.FunctionStat path method body) = both (same_expr path) (same_body body)
  same_stat_kind (tree.LocalFunction name body) = both (same_bind name) (same_body body)
  same_stat_kind (tree.Local binds values) = both (same_binds binds) (same_exprs values)
  same_stat_kind (tree.TypeAlias exported name generics typ) = both (same_gens generics) (same_type typ)
  same_stat_kind (tree.TypeFunction exported name body) = same_body body
  same_stat_kind (tree.Return values) = same_exprs values
  same_stat_kind tree.Break = refl
  same_stat_kind tree.Continue = refl

  same_arms : (x : Arms) → of_arms (erased_arms x) ≡ of_arms x
  same_arms tree.no_arms = refl
  same_arms (tree.more_arms cond block rest) = both (same_expr cond) (both (same_block block) (same_arms rest))

  same_maybe_block : (x : MaybeBlock) → of_maybe_block (erased_maybe_block x) ≡ of_maybe_block x
  same_maybe_block tree.no_block = refl
  same_maybe_block (tree.a_block block) = same_block block

  same_expr : (x : Expr) → of_expr (erased_expr x) ≡ of_expr x
  same_expr (tree.the_expr id span kind) = ap suc (same_expr_kind kind)

  same_exprs : (x : Exprs) → of_exprs (erased_exprs x) ≡ of_exprs x
  same_exprs tree.no_exprs = refl
  same_exprs (tree.more_exprs e rest) = both (same_expr e) (same_exprs rest)

  same_maybe_expr : (x : MaybeExpr) → of_maybe_expr (erased_maybe_expr x) ≡ of_maybe_expr x
  same_maybe_expr tree.no_expr = refl
  same_maybe_expr (tree.an_expr e) = same_expr e

  same_expr_kind : (x : ExprKind) → of_expr_kind (erased_expr_kind x) ≡ of_expr_kind x
  same_expr_kind tree.NilExpr = refl
  same_expr_kind tree.TrueExpr = refl
  same_expr_kind tree.FalseExpr = refl
  same_expr_kind (tree.NumberExpr text) = refl
  same_expr_kind (tree.StrExpr bytes) = refl
  same_expr_kind tree.Vararg = refl
  same_expr_kind (tree.FunctionExpr body) = same_body body
  same_expr_kind (tree.NameExpr name) = refl
  same_expr_kind (tree.Index base name) = same_expr base
  same_expr_kind (tree.At base key) = both (same_expr base) (same_expr key)
  same_expr_kind (tree.Call callee args) = both (same_expr callee) (same_exprs args)
  same_expr_kind (tree.Method base name name_span args) = both (same_expr base) (same_exprs args)
  same_expr_kind (tree.Paren e) = same_expr e
  same_expr_kind (tree.Unary op e) = same_expr e
  same_expr_kind (tree.Binary op left right) = both (same_expr left) (same_expr right)
  same_expr_kind (tree.IfElse arms last) = both (same_choices arms) (same_expr last)
  same_expr_kind (tree.TableExpr items) = same_items items
  same_expr_kind (tree.Interp texts parts) = same_exprs parts
  same_expr_kind (tree.Assert e typ) = both (same_expr e) (same_type typ)

  same_choices : (x : Choices) → of_choices (erased_choices x) ≡ of_choices x
  same_choices tree.no_choices = refl
  same_choices (tree.more_choices cond value rest) = both (same_expr cond) (both (same_expr value) (same_choices rest))

  same_item : (x : Item) → of_item (erased_item x) ≡ of_item x
  same_item (tree.Field name value) = same_expr value
  same_item (tree.Keyed key value) = both (same_expr key) (same_expr value)
  same_item (tree.Plain value) = same_expr value

  same_items : (x : Items) → of_items (erased_items x) ≡ of_items x
  same_items tree.no_items = refl
  same_items (tree.more_items item rest) = both (same_item item) (same_items rest)

  same_body : (x : Body) → of_body (erased_body x) ≡ of_body x
  same_body (tree.the_body id has_self generics params vararg result block span) =
      ap suc (both (same_gens generics) (both (same_binds params) (both (same_varargs vararg) (both (same_maybe_type result) (same_block block)))))

  same_varargs : (x : Varargs) → of_varargs (erased_varargs x) ≡ of_varargs x
  same_varargs tree.no_varargs = refl
  same_varargs (tree.varargs typ) = same_maybe_type typ

  same_bind : (x : Bind) → of_bind (erased_bind x) ≡ of_bind x
  same_bind (tree.the_bind name span typ) = same_maybe_type typ

  same_binds : (x : Binds) → of_binds (erased_binds x) ≡ of_binds x
  same_binds tree.no_binds = refl
  same_binds (tree.more_binds bind rest) = both (same_bind bind) (same_binds rest)

  same_gen : (x : Gen) → of_gen (erased_gen x) ≡ of_gen x
  same_gen (tree.the_gen name span pack default) = same_maybe_type default

  same_gens : (x : Gens) → of_gens (erased_gens x) ≡ of_gens x
  same_gens tree.no_gens = refl
  same_gens (tree.more_gens gen rest) = both (same_gen gen) (same_gens rest)

  same_type : (x : TypeSyntax) → of_type (erased_type x) ≡ of_type x
  same_type (tree.the_type span kind) = ap suc (same_type_kind kind)

  same_types : (x : TypeSyntaxes) → of_types (erased_types x) ≡ of_types x
  same_types tree.no_types = refl
  same_types (tree.more_types typ rest) = both (same_type typ) (same_types rest)

  same_maybe_type : (x : MaybeType) → of_maybe_type (erased_maybe_type x) ≡ of_maybe_type x
  same_maybe_type tree.no_type = refl
  same_maybe_type (tree.a_type typ) = same_type typ

  same_type_kind : (x : TypeKind) → of_type_kind (erased_type_kind x) ≡ of_type_kind x
  same_type_kind tree.NilType = refl
  same_type_kind (tree.BoolType truth) = refl
  same_type_kind (tree.StrType bytes) = refl
  same_type_kind (tree.Named prefix name args) = same_types args
  same_type_kind (tree.Typeof e) = same_expr e
  same_type_kind (tree.Array item) = same_type item
  same_type_kind (tree.TableType props) = same_props props
  same_type_kind (tree.Func generics params result) = both (same_gens generics) (both (same_types params) (same_type result))
  same_type_kind (tree.Union types) = same_types types
  same_type_kind (tree.Meet types) = same_types types
  same_type_kind (tree.Optional typ) = same_type typ
  same_type_kind (tree.Pack types) = same_types types
  same_type_kind (tree.Variadic typ) = same_type typ
  same_type_kind (tree.GenericPack name) = refl

  same_prop : (x : Prop) → of_prop (erased_prop x) ≡ of_prop x
  same_prop (tree.the_prop access key typ) = both (same_key key) (same_type typ)

  same_props : (x : Props) → of_props (erased_props x) ≡ of_props x
  same_props tree.no_props = refl
  same_props (tree.more_props prop rest) = both (same_prop prop) (same_props rest)

  same_key : (x : PropKey) → of_key (erased_prop_key x) ≡ of_key x
  same_key (tree.NameKey name) = refl
  same_key (tree.Indexer key) = same_type key

-- a numbered tree is as deep as the tree
pub numbered_depth : (x : Block) → of_block (numbered x) ≡ of_block x
numbered_depth x = sym (same_block (numbered x)) ∙ ap of_block (erases x first) ∙ same_block x
