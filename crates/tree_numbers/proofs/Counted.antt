-- The nodes of each part of a tree have the next numbers, one by one.
use Rattle.std.proofs.Common.{refl}
use Rattle.luau_tree.specs.Tree.{Block, Stat, StatKind, Arms, MaybeBlock, Expr, Exprs, MaybeExpr, ExprKind, Choices, Item, Items, Body, Varargs, Bind, Binds, Gen, Gens, TypeSyntax, TypeSyntaxes, MaybeType, TypeKind, Prop, Props, PropKey}
use Rattle.luau_tree.specs.Tree as tree
use Rattle.luau_tree.specs.Nodes.{nodes_of_block, nodes_of_stat, nodes_of_stat_kind, nodes_of_arms, nodes_of_maybe_block, nodes_of_expr, nodes_of_exprs, nodes_of_maybe_expr, nodes_of_expr_kind, nodes_of_choices, nodes_of_item, nodes_of_items, nodes_of_body, nodes_of_varargs, nodes_of_bind, nodes_of_binds, nodes_of_gen, nodes_of_gens, nodes_of_type, nodes_of_types, nodes_of_maybe_type, nodes_of_type_kind, nodes_of_prop, nodes_of_props, nodes_of_prop_key}
use Rattle.tree_numbers.specs.declared.numbers.Numbers.{Numbers}
use Rattle.tree_numbers.specs.Counting.{next_expr, next_body}
use Rattle.tree_numbers.specs.Numbered.{of_block, of_stat, of_stat_kind, of_arms, of_maybe_block, of_expr, of_exprs, of_maybe_expr, of_expr_kind, of_choices, of_item, of_items, of_body, of_varargs, of_bind, of_binds, of_gen, of_gens, of_type, of_types, of_maybe_type, of_type_kind, of_prop, of_props, of_prop_key}
use Rattle.tree_numbers.proofs.Counts.{Counted, none, join, one_expr, one_body, one_bind}

mutual
  pub counted_block : (x : Block) (n : Numbers) → Counted (nodes_of_block x) (nodes_of_block (of_block x n).0) n (of_block x n).1
  counted_block tree.no_stats n = none n
  counted_block (tree.more_stats s rest) n = join (counted_stat s n) (counted_block rest ((of_stat s n).1))

  pub counted_stat : (x : Stat) (n : Numbers) → Counted (nodes_of_stat x) (nodes_of_stat (of_stat x n).0) n (of_stat x n).1
  counted_stat (tree.the_stat span kind) n = counted_stat_kind kind n

  pub counted_stat_kind : (x : StatKind) (n : Numbers) → Counted (nodes_of_stat_kind x) (nodes_of_stat_kind (of_stat_kind x n).0) n (of_stat_kind x n).1
  counted_stat_kind (tree.Assign targets values) n = join (counted_exprs targets n) (counted_exprs values ((of_exprs targets n).1))
  counted_stat_kind (tree.Compound target op value) n = join (counted_expr target n) (counted_expr value ((of_expr target n).1))
  counted_stat_kind (tree.CallStat call) n = counted_expr call n
  counted_stat_kind (tree.Do body) n = counted_block body n
  counted_stat_kind (tree.While cond body) n = join (counted_expr cond n) (counted_block body ((of_expr cond n).1))
  counted_stat_kind (tree.Repeat body cond) n = join (counted_block body n) (counted_expr cond ((of_block body n).1))
  counted_stat_kind (tree.If arms last) n = join (counted_arms arms n) (counted_maybe_block last ((of_arms arms n).1))
  counted_stat_kind (tree.NumFor bind from to step body) n = join (join (join (join (counted_bind bind n) (counted_expr from ((of_bind bind n).1))) (counted_expr to ((of_expr from (of_bind bind n).1).1))) (counted_maybe_expr step ((of_expr to (of_expr from (of_bind bind n).1).1).1))) (counted_block body ((of_maybe_expr step (of_expr to (of_expr from (of_bind bind n).1).1).1).1))
  counted_stat_kind (tree.GenFor binds values body) n = join (join (counted_binds binds n) (counted_exprs values ((of_binds binds n).1))) (counted_block body ((of_exprs values (of_binds binds n).1).1))
  counted_stat_kind (tree.FunctionStat path method body) n = join (counted_expr path n) (counted_body body ((of_expr path n).1))
  counted_stat_kind (tree.LocalFunction name body) n = join (counted_bind name n) (counted_body body ((of_bind name n).1))
  counted_stat_kind (tree.Local binds values) n = join (counted_binds binds n) (counted_exprs values ((of_binds binds n).1))
  counted_stat_kind (tree.TypeAlias exported name generics typ) n = join (counted_gens generics n) (counted_type typ ((of_gens generics n).1))
  counted_stat_kind (tree.TypeFunction exported name body) n = counted_body body n
  counted_stat_kind (tree.Return values) n = counted_exprs values n
  counted_stat_kind tree.Break n = none n
  counted_stat_kind tree.Continue n = none n

  pub counted_arms : (x : Arms) (n : Numbers) → Counted (nodes_of_arms x) (nodes_of_arms (of_arms x n).0) n (of_arms x n).1
  counted_arms tree.no_arms n = none n
  counted_arms (tree.more_arms cond block rest) n = join (join (counted_expr cond n) (counted_block block ((of_expr cond n).1))) (counted_arms rest ((of_block block (of_expr cond n).1).1))

  pub counted_maybe_block : (x : MaybeBlock) (n : Numbers) → Counted (nodes_of_maybe_block x) (nodes_of_maybe_block (of_maybe_block x n).0) n (of_maybe_block x n).1
  counted_maybe_block tree.no_block n = none n
  counted_maybe_block (tree.a_block block) n = counted_block block n

  pub counted_expr : (x : Expr) (n : Numbers) → Counted (nodes_of_expr x) (nodes_of_expr (of_expr x n).0) n (of_expr x n).1
  counted_expr (tree.the_expr id span kind) n = one_expr refl (counted_expr_kind kind ((next_expr n).1))

  pub counted_exprs : (x : Exprs) (n : Numbers) → Counted (nodes_of_exprs x) (nodes_of_exprs (of_exprs x n).0) n (of_exprs x n).1
  counted_exprs tree.no_exprs n = none n
  counted_exprs (tree.more_exprs e rest) n = join (counted_expr e n) (counted_exprs rest ((of_expr e n).1))

  pub counted_maybe_expr : (x : MaybeExpr) (n : Numbers) → Counted (nodes_of_maybe_expr x) (nodes_of_maybe_expr (of_maybe_expr x n).0) n (of_maybe_expr x n).1
  counted_maybe_expr tree.no_expr n = none n
  counted_maybe_expr (tree.an_expr e) n = counted_expr e n

  pub counted_expr_kind : (x : ExprKind) (n : Numbers) → Counted (nodes_of_expr_kind x) (nodes_of_expr_kind (of_expr_kind x n).0) n (of_expr_kind x n).1
  counted_expr_kind tree.NilExpr n = none n
  counted_expr_kind tree.TrueExpr n = none n
  counted_expr_kind tree.FalseExpr n = none n
  counted_expr_kind (tree.NumberExpr text) n = none n
  counted_expr_kind (tree.StrExpr bytes) n = none n
  counted_expr_kind tree.Vararg n = none n
  counted_expr_kind (tree.FunctionExpr body) n = counted_body body n
  counted_expr_kind (tree.NameExpr name) n = none n
  counted_expr_kind (tree.Index base name) n = counted_expr base n
  counted_expr_kind (tree.At base key) n = join (counted_expr base n) (counted_expr key ((of_expr base n).1))
  counted_expr_kind (tree.Call callee args) n = join (counted_expr callee n) (counted_exprs args ((of_expr callee n).1))
  counted_expr_kind (tree.Method base name name_span args) n = join (counted_expr base n) (counted_exprs args ((of_expr base n).1))
  counted_expr_kind (tree.Paren e) n = counted_expr e n
  counted_expr_kind (tree.Unary op e) n = counted_expr e n
  counted_expr_kind (tree.Binary op left right) n = join (counted_expr left n) (counted_expr right ((of_expr left n).1))
  counted_expr_kind (tree.IfElse arms last) n = join (counted_choices arms n) (counted_expr last ((of_choices arms n).1))
  counted_expr_kind (tree.TableExpr items) n = counted_items items n
  counted_expr_kind (tree.Interp texts parts) n = counted_exprs parts n
  counted_expr_kind (tree.Assert e typ) n = join (counted_expr e n) (counted_type typ ((of_expr e n).1))

  pub counted_choices : (x : Choices) (n : Numbers) → Counted (nodes_of_choices x) (nodes_of_choices (of_choices x n).0) n (of_choices x n).1
  counted_choices tree.no_choices n = none n
  counted_choices (tree.more_choices cond value rest) n = join (join (counted_expr cond n) (counted_expr value ((of_expr cond n).1))) (counted_choices rest ((of_expr value (of_expr cond n).1).1))

  pub counted_item : (x : Item) (n : Numbers) → Counted (nodes_of_item x) (nodes_of_item (of_item x n).0) n (of_item x n).1
  counted_item (tree.Field name value) n = counted_expr value n
  counted_item (tree.Keyed key value) n = join (counted_expr key n) (counted_expr value ((of_expr key n).1))
  counted_item (tree.Plain value) n = counted_expr value n

  pub counted_items : (x : Items) (n : Numbers) → Counted (nodes_of_items x) (nodes_of_items (of_items x n).0) n (of_items x n).1
  counted_items tree.no_items n = none n
  counted_items (tree.more_items item rest) n = join (counted_item item n) (counted_items rest ((of_item item n).1))

  pub counted_body : (x : Body) (n : Numbers) → Counted (nodes_of_body x) (nodes_of_body (of_body x n).0) n (of_body x n).1
  counted_body (tree.the_body id has_self generics params vararg result block span) n = join (join (join (join (one_body refl (counted_gens generics ((next_body n).1))) (counted_binds params ((of_gens generics (next_body n).1).1))) (counted_varargs vararg ((of_binds params (of_gens generics (next_body n).1).1).1))) (counted_maybe_type result ((of_varargs vararg (of_binds params (of_gens generics (next_body n).1).1).1).1))) (counted_block block ((of_maybe_type result (of_varargs vararg (of_binds params (of_gens generics (next_body n).1).1).1).1).1))

  pub counted_varargs : (x : Varargs) (n : Numbers) → Counted (nodes_of_varargs x) (nodes_of_varargs (of_varargs x n).0) n (of_varargs x n).1
  counted_varargs tree.no_varargs n = none n
  counted_varargs (tree.varargs maybe_type) n = counted_maybe_type maybe_type n

  pub counted_bind : (x : Bind) (n : Numbers) → Counted (nodes_of_bind x) (nodes_of_bind (of_bind x n).0) n (of_bind x n).1
  counted_bind (tree.the_bind name span typ) n = one_bind (counted_maybe_type typ n)

  pub counted_binds : (x : Binds) (n : Numbers) → Counted (nodes_of_binds x) (nodes_of_binds (of_binds x n).0) n (of_binds x n).1
  counted_binds tree.no_binds n = none n
  counted_binds (tree.more_binds bind rest) n = join (counted_bind bind n) (counted_binds rest ((of_bind bind n).1))

  pub counted_gen : (x : Gen) (n : Numbers) → Counted (nodes_of_gen x) (nodes_of_gen (of_gen x n).0) n (of_gen x n).1
  counted_gen (tree.the_gen name span pack default) n = counted_maybe_type default n

  pub counted_gens : (x : Gens) (n : Numbers) → Counted (nodes_of_gens x) (nodes_of_gens (of_gens x n).0) n (of_gens x n).1
  counted_gens tree.no_gens n = none n
  counted_gens (tree.more_gens gen rest) n = join (counted_gen gen n) (counted_gens rest ((of_gen gen n).1))

  pub counted_type : (x : TypeSyntax) (n : Numbers) → Counted (nodes_of_type x) (nodes_of_type (of_type x n).0) n (of_type x n).1
  counted_type (tree.the_type span kind) n = counted_type_kind kind n

  pub counted_types : (x : TypeSyntaxes) (n : Numbers) → Counted (nodes_of_types x) (nodes_of_types (of_types x n).0) n (of_types x n).1
  counted_types tree.no_types n = none n
  counted_types (tree.more_types typ rest) n = join (counted_type typ n) (counted_types rest ((of_type typ n).1))

  pub counted_maybe_type : (x : MaybeType) (n : Numbers) → Counted (nodes_of_maybe_type x) (nodes_of_maybe_type (of_maybe_type x n).0) n (of_maybe_type x n).1
  counted_maybe_type tree.no_type n = none n
  counted_maybe_type (tree.a_type typ) n = counted_type typ n

  pub counted_type_kind : (x : TypeKind) (n : Numbers) → Counted (nodes_of_type_kind x) (nodes_of_type_kind (of_type_kind x n).0) n (of_type_kind x n).1
  counted_type_kind tree.NilType n = none n
  counted_type_kind (tree.BoolType truth) n = none n
  counted_type_kind (tree.StrType bytes) n = none n
  counted_type_kind (tree.Named prefix name args) n = counted_types args n
  counted_type_kind (tree.Typeof e) n = counted_expr e n
  counted_type_kind (tree.Array item) n = counted_type item n
  counted_type_kind (tree.TableType props) n = counted_props props n
  counted_type_kind (tree.Func generics params result) n = join (join (counted_gens generics n) (counted_types params ((of_gens generics n).1))) (counted_type result ((of_types params (of_gens generics n).1).1))
  counted_type_kind (tree.Union types) n = counted_types types n
  counted_type_kind (tree.Meet types) n = counted_types types n
  counted_type_kind (tree.Optional typ) n = counted_type typ n
  counted_type_kind (tree.Pack types) n = counted_types types n
  counted_type_kind (tree.Variadic typ) n = counted_type typ n
  counted_type_kind (tree.GenericPack name) n = none n

  pub counted_prop : (x : Prop) (n : Numbers) → Counted (nodes_of_prop x) (nodes_of_prop (of_prop x n).0) n (of_prop x n).1
  counted_prop (tree.the_prop access key typ) n = join (counted_prop_key key n) (counted_type typ ((of_prop_key key n).1))

  pub counted_props : (x : Props) (n : Numbers) → Counted (nodes_of_props x) (nodes_of_props (of_props x n).0) n (of_props x n).1
  counted_props tree.no_props n = none n
  counted_props (tree.more_props prop rest) n = join (counted_prop prop n) (counted_props rest ((of_prop prop n).1))

  pub counted_prop_key : (x : PropKey) (n : Numbers) → Counted (nodes_of_prop_key x) (nodes_of_prop_key (of_prop_key x n).0) n (of_prop_key x n).1
  counted_prop_key (tree.NameKey name) n = none n
  counted_prop_key (tree.Indexer key) n = counted_type key n
