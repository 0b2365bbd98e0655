-- Numbers change nothing else, and depend on none that were there.
use Rattle.std.proofs.Common.{◌≡◌, refl}
use Rattle.luau_tree.specs.Tree.{Block, Stat, StatKind, Arms, MaybeBlock, Expr, Exprs, MaybeExpr, ExprKind, Choices, Item, Items, Body, Varargs, Bind, Binds, Gen, Gens, TypeSyntax, TypeSyntaxes, MaybeType, TypeKind, Prop, Props, PropKey}
use Rattle.luau_tree.specs.Tree as tree
use Rattle.tree_numbers.specs.declared.numbers.Numbers.{Numbers}
use Rattle.tree_numbers.specs.Counting.{◌>>=◌, pure, next_expr, next_body}
use Rattle.tree_numbers.specs.Numbered.{of_block, of_stat, of_stat_kind, of_arms, of_maybe_block, of_expr, of_exprs, of_maybe_expr, of_expr_kind, of_choices, of_item, of_items, of_body, of_varargs, of_bind, of_binds, of_gen, of_gens, of_type, of_types, of_maybe_type, of_type_kind, of_prop, of_props, of_prop_key}
use Rattle.tree_numbers.specs.Erased.{erased_block, erased_stat, erased_stat_kind, erased_arms, erased_maybe_block, erased_expr, erased_exprs, erased_maybe_expr, erased_expr_kind, erased_choices, erased_item, erased_items, erased_body, erased_varargs, erased_bind, erased_binds, erased_gen, erased_gens, erased_type, erased_types, erased_maybe_type, erased_type_kind, erased_prop, erased_props, erased_prop_key}

mutual
  pub same_block : (x : Block) (n : Numbers) → erased_block (of_block x n).0 ≡ erased_block x
  same_block tree.no_stats n = refl
  same_block (tree.more_stats s rest) n = λ i. tree.more_stats (same_stat s (n) i) (same_block rest ((of_stat s n).1) i)

  pub same_stat : (x : Stat) (n : Numbers) → erased_stat (of_stat x n).0 ≡ erased_stat x
  same_stat (tree.the_stat span kind) n = λ i. tree.the_stat span (same_stat_kind kind (n) i)

  pub same_stat_kind : (x : StatKind) (n : Numbers) → erased_stat_kind (of_stat_kind x n).0 ≡ erased_stat_kind x
  same_stat_kind (tree.Assign targets values) n = λ i. tree.Assign (same_exprs targets (n) i) (same_exprs values ((of_exprs targets n).1) i)
  same_stat_kind (tree.Compound target op value) n = λ i. tree.Compound (same_expr target (n) i) op (same_expr value ((of_expr target n).1) i)
  same_stat_kind (tree.CallStat call) n = λ i. tree.CallStat (same_expr call (n) i)
  same_stat_kind (tree.Do body) n = λ i. tree.Do (same_block body (n) i)
  same_stat_kind (tree.While cond body) n = λ i. tree.While (same_expr cond (n) i) (same_block body ((of_expr cond n).1) i)
  same_stat_kind (tree.Repeat body cond) n = λ i. tree.Repeat (same_block body (n) i) (same_expr cond ((of_block body n).1) i)
  same_stat_kind (tree.If arms last) n = λ i. tree.If (same_arms arms (n) i) (same_maybe_block last ((of_arms arms n).1) i)
  same_stat_kind (tree.NumFor bind from to step body) n = λ i. tree.NumFor (same_bind bind (n) i) (same_expr from ((of_bind bind n).1) i) (same_expr to ((of_expr from (of_bind bind n).1).1) i) (same_maybe_expr step ((of_expr to (of_expr from (of_bind bind n).1).1).1) i) (same_block body ((of_maybe_expr step (of_expr to (of_expr from (of_bind bind n).1).1).1).1) i)
  same_stat_kind (tree.GenFor binds values body) n = λ i. tree.GenFor (same_binds binds (n) i) (same_exprs values ((of_binds binds n).1) i) (same_block body ((of_exprs values (of_binds binds n).1).1) i)
  same_stat_kind (tree.FunctionStat path method body) n = λ i. tree.FunctionStat (same_expr path (n) i) method (same_body body ((of_expr path n).1) i)
  same_stat_kind (tree.LocalFunction name body) n = λ i. tree.LocalFunction (same_bind name (n) i) (same_body body ((of_bind name n).1) i)
  same_stat_kind (tree.Local binds values) n = λ i. tree.Local (same_binds binds (n) i) (same_exprs values ((of_binds binds n).1) i)
  same_stat_kind (tree.TypeAlias exported name generics typ) n = λ i. tree.TypeAlias exported name (same_gens generics (n) i) (same_type typ ((of_gens generics n).1) i)
  same_stat_kind (tree.TypeFunction exported name body) n = λ i. tree.TypeFunction exported name (same_body body (n) i)
  same_stat_kind (tree.Return values) n = λ i. tree.Return (same_exprs values (n) i)
  same_stat_kind tree.Break n = refl
  same_stat_kind tree.Continue n = refl

  pub same_arms : (x : Arms) (n : Numbers) → erased_arms (of_arms x n).0 ≡ erased_arms x
  same_arms tree.no_arms n = refl
  same_arms (tree.more_arms cond block rest) n = λ i. tree.more_arms (same_expr cond (n) i) (same_block block ((of_expr cond n).1) i) (same_arms rest ((of_block block (of_expr cond n).1).1) i)

  pub same_maybe_block : (x : MaybeBlock) (n : Numbers) → erased_maybe_block (of_maybe_block x n).0 ≡ erased_maybe_block x
  same_maybe_block tree.no_block n = refl
  same_maybe_block (tree.a_block block) n = λ i. tree.a_block (same_block block (n) i)

  pub same_expr : (x : Expr) (n : Numbers) → erased_expr (of_expr x n).0 ≡ erased_expr x
  same_expr (tree.the_expr id span kind) n = λ i. tree.the_expr 0 span (same_expr_kind kind ((next_expr n).1) i)

  pub same_exprs : (x : Exprs) (n : Numbers) → erased_exprs (of_exprs x n).0 ≡ erased_exprs x
  same_exprs tree.no_exprs n = refl
  same_exprs (tree.more_exprs e rest) n = λ i. tree.more_exprs (same_expr e (n) i) (same_exprs rest ((of_expr e n).1) i)

  pub same_maybe_expr : (x : MaybeExpr) (n : Numbers) → erased_maybe_expr (of_maybe_expr x n).0 ≡ erased_maybe_expr x
  same_maybe_expr tree.no_expr n = refl
  same_maybe_expr (tree.an_expr e) n = λ i. tree.an_expr (same_expr e (n) i)

  pub same_expr_kind : (x : ExprKind) (n : Numbers) → erased_expr_kind (of_expr_kind x n).0 ≡ erased_expr_kind x
  same_expr_kind tree.NilExpr n = refl
  same_expr_kind tree.TrueExpr n = refl
  same_expr_kind tree.FalseExpr n = refl
  same_expr_kind (tree.NumberExpr text) n = refl
  same_expr_kind (tree.StrExpr bytes) n = refl
  same_expr_kind tree.Vararg n = refl
  same_expr_kind (tree.FunctionExpr body) n = λ i. tree.FunctionExpr (same_body body (n) i)
  same_expr_kind (tree.NameExpr name) n = refl
  same_expr_kind (tree.Index base name) n = λ i. tree.Index (same_expr base (n) i) name
  same_expr_kind (tree.At base key) n = λ i. tree.At (same_expr base (n) i) (same_expr key ((of_expr base n).1) i)
  same_expr_kind (tree.Call callee args) n = λ i. tree.Call (same_expr callee (n) i) (same_exprs args ((of_expr callee n).1) i)
  same_expr_kind (tree.Method base name name_span args) n = λ i. tree.Method (same_expr base (n) i) name name_span (same_exprs args ((of_expr base n).1) i)
  same_expr_kind (tree.Paren e) n = λ i. tree.Paren (same_expr e (n) i)
  same_expr_kind (tree.Unary op e) n = λ i. tree.Unary op (same_expr e (n) i)
  same_expr_kind (tree.Binary op left right) n = λ i. tree.Binary op (same_expr left (n) i) (same_expr right ((of_expr left n).1) i)
  same_expr_kind (tree.IfElse arms last) n = λ i. tree.IfElse (same_choices arms (n) i) (same_expr last ((of_choices arms n).1) i)
  same_expr_kind (tree.TableExpr items) n = λ i. tree.TableExpr (same_items items (n) i)
  same_expr_kind (tree.Interp texts parts) n = λ i. tree.Interp texts (same_exprs parts (n) i)
  same_expr_kind (tree.Assert e typ) n = λ i. tree.Assert (same_expr e (n) i) (same_type typ ((of_expr e n).1) i)

  pub same_choices : (x : Choices) (n : Numbers) → erased_choices (of_choices x n).0 ≡ erased_choices x
  same_choices tree.no_choices n = refl
  same_choices (tree.more_choices cond value rest) n = λ i. tree.more_choices (same_expr cond (n) i) (same_expr value ((of_expr cond n).1) i) (same_choices rest ((of_expr value (of_expr cond n).1).1) i)

  pub same_item : (x : Item) (n : Numbers) → erased_item (of_item x n).0 ≡ erased_item x
  same_item (tree.Field name value) n = λ i. tree.Field name (same_expr value (n) i)
  same_item (tree.Keyed key value) n = λ i. tree.Keyed (same_expr key (n) i) (same_expr value ((of_expr key n).1) i)
  same_item (tree.Plain value) n = λ i. tree.Plain (same_expr value (n) i)

  pub same_items : (x : Items) (n : Numbers) → erased_items (of_items x n).0 ≡ erased_items x
  same_items tree.no_items n = refl
  same_items (tree.more_items item rest) n = λ i. tree.more_items (same_item item (n) i) (same_items rest ((of_item item n).1) i)

  pub same_body : (x : Body) (n : Numbers) → erased_body (of_body x n).0 ≡ erased_body x
  same_body (tree.the_body id has_self generics params vararg result block span) n = λ i. tree.the_body 0 has_self (same_gens generics ((next_body n).1) i) (same_binds params ((of_gens generics (next_body n).1).1) i) (same_varargs vararg ((of_binds params (of_gens generics (next_body n).1).1).1) i) (same_maybe_type result ((of_varargs vararg (of_binds params (of_gens generics (next_body n).1).1).1).1) i) (same_block block ((of_maybe_type result (of_varargs vararg (of_binds params (of_gens generics (next_body n).1).1).1).1).1) i) span

  pub same_varargs : (x : Varargs) (n : Numbers) → erased_varargs (of_varargs x n).0 ≡ erased_varargs x
  same_varargs tree.no_varargs n = refl
  same_varargs (tree.varargs maybe_type) n = λ i. tree.varargs (same_maybe_type maybe_type (n) i)

  pub same_bind : (x : Bind) (n : Numbers) → erased_bind (of_bind x n).0 ≡ erased_bind x
  same_bind (tree.the_bind name span typ) n = λ i. tree.the_bind name span (same_maybe_type typ (n) i)

  pub same_binds : (x : Binds) (n : Numbers) → erased_binds (of_binds x n).0 ≡ erased_binds x
  same_binds tree.no_binds n = refl
  same_binds (tree.more_binds bind rest) n = λ i. tree.more_binds (same_bind bind (n) i) (same_binds rest ((of_bind bind n).1) i)

  pub same_gen : (x : Gen) (n : Numbers) → erased_gen (of_gen x n).0 ≡ erased_gen x
  same_gen (tree.the_gen name span pack default) n = λ i. tree.the_gen name span pack (same_maybe_type default (n) i)

  pub same_gens : (x : Gens) (n : Numbers) → erased_gens (of_gens x n).0 ≡ erased_gens x
  same_gens tree.no_gens n = refl
  same_gens (tree.more_gens gen rest) n = λ i. tree.more_gens (same_gen gen (n) i) (same_gens rest ((of_gen gen n).1) i)

  pub same_type : (x : TypeSyntax) (n : Numbers) → erased_type (of_type x n).0 ≡ erased_type x
  same_type (tree.the_type span kind) n = λ i. tree.the_type span (same_type_kind kind (n) i)

  pub same_types : (x : TypeSyntaxes) (n : Numbers) → erased_types (of_types x n).0 ≡ erased_types x
  same_types tree.no_types n = refl
  same_types (tree.more_types typ rest) n = λ i. tree.more_types (same_type typ (n) i) (same_types rest ((of_type typ n).1) i)

  pub same_maybe_type : (x : MaybeType) (n : Numbers) → erased_maybe_type (of_maybe_type x n).0 ≡ erased_maybe_type x
  same_maybe_type tree.no_type n = refl
  same_maybe_type (tree.a_type typ) n = λ i. tree.a_type (same_type typ (n) i)

  pub same_type_kind : (x : TypeKind) (n : Numbers) → erased_type_kind (of_type_kind x n).0 ≡ erased_type_kind x
  same_type_kind tree.NilType n = refl
  same_type_kind (tree.BoolType truth) n = refl
  same_type_kind (tree.StrType bytes) n = refl
  same_type_kind (tree.Named prefix name args) n = λ i. tree.Named prefix name (same_types args (n) i)
  same_type_kind (tree.Typeof e) n = λ i. tree.Typeof (same_expr e (n) i)
  same_type_kind (tree.Array item) n = λ i. tree.Array (same_type item (n) i)
  same_type_kind (tree.TableType props) n = λ i. tree.TableType (same_props props (n) i)
  same_type_kind (tree.Func generics params result) n = λ i. tree.Func (same_gens generics (n) i) (same_types params ((of_gens generics n).1) i) (same_type result ((of_types params (of_gens generics n).1).1) i)
  same_type_kind (tree.Union types) n = λ i. tree.Union (same_types types (n) i)
  same_type_kind (tree.Meet types) n = λ i. tree.Meet (same_types types (n) i)
  same_type_kind (tree.Optional typ) n = λ i. tree.Optional (same_type typ (n) i)
  same_type_kind (tree.Pack types) n = λ i. tree.Pack (same_types types (n) i)
  same_type_kind (tree.Variadic typ) n = λ i. tree.Variadic (same_type typ (n) i)
  same_type_kind (tree.GenericPack name) n = refl

  pub same_prop : (x : Prop) (n : Numbers) → erased_prop (of_prop x n).0 ≡ erased_prop x
  same_prop (tree.the_prop access key typ) n = λ i. tree.the_prop access (same_prop_key key (n) i) (same_type typ ((of_prop_key key n).1) i)

  pub same_props : (x : Props) (n : Numbers) → erased_props (of_props x n).0 ≡ erased_props x
  same_props tree.no_props n = refl
  same_props (tree.more_props prop rest) n = λ i. tree.more_props (same_prop prop (n) i) (same_props rest ((of_prop prop n).1) i)

  pub same_prop_key : (x : PropKey) (n : Numbers) → erased_prop_key (of_prop_key x n).0 ≡ erased_prop_key x
  same_prop_key (tree.NameKey name) n = refl
  same_prop_key (tree.Indexer key) n = λ i. tree.Indexer (same_type key (n) i)

mutual
  pub again_block : (x : Block) (n : Numbers) → of_block (erased_block x) n ≡ of_block x n
  again_block tree.no_stats n = refl
  again_block (tree.more_stats s rest) n = λ i. ((λ m. again_stat s m i) >>= (λ a. (λ m. again_block rest m i) >>= (λ b. pure (tree.more_stats a b)))) n

  pub again_stat : (x : Stat) (n : Numbers) → of_stat (erased_stat x) n ≡ of_stat x n
  again_stat (tree.the_stat span kind) n = λ i. ((λ m. again_stat_kind kind m i) >>= (λ a. pure (tree.the_stat span a))) n

  pub again_stat_kind : (x : StatKind) (n : Numbers) → of_stat_kind (erased_stat_kind x) n ≡ of_stat_kind x n
  again_stat_kind (tree.Assign targets values) n = λ i. ((λ m. again_exprs targets m i) >>= (λ a. (λ m. again_exprs values m i) >>= (λ b. pure (tree.Assign a b)))) n
  again_stat_kind (tree.Compound target op value) n = λ i. ((λ m. again_expr target m i) >>= (λ a. (λ m. again_expr value m i) >>= (λ b. pure (tree.Compound a op b)))) n
  again_stat_kind (tree.CallStat call) n = λ i. ((λ m. again_expr call m i) >>= (λ a. pure (tree.CallStat a))) n
  again_stat_kind (tree.Do body) n = λ i. ((λ m. again_block body m i) >>= (λ a. pure (tree.Do a))) n
  again_stat_kind (tree.While cond body) n = λ i. ((λ m. again_expr cond m i) >>= (λ a. (λ m. again_block body m i) >>= (λ b. pure (tree.While a b)))) n
  again_stat_kind (tree.Repeat body cond) n = λ i. ((λ m. again_block body m i) >>= (λ a. (λ m. again_expr cond m i) >>= (λ b. pure (tree.Repeat a b)))) n
  again_stat_kind (tree.If arms last) n = λ i. ((λ m. again_arms arms m i) >>= (λ a. (λ m. again_maybe_block last m i) >>= (λ b. pure (tree.If a b)))) n
  again_stat_kind (tree.NumFor bind from to step body) n = λ i. ((λ m. again_bind bind m i) >>= (λ a. (λ m. again_expr from m i) >>= (λ b. (λ m. again_expr to m i) >>= (λ c. (λ m. again_maybe_expr step m i) >>= (λ d. (λ m. again_block body m i) >>= (λ e. pure (tree.NumFor a b c d e))))))) n
  again_stat_kind (tree.GenFor binds values body) n = λ i. ((λ m. again_binds binds m i) >>= (λ a. (λ m. again_exprs values m i) >>= (λ b. (λ m. again_block body m i) >>= (λ c. pure (tree.GenFor a b c))))) n
  again_stat_kind (tree.FunctionStat path method body) n = λ i. ((λ m. again_expr path m i) >>= (λ a. (λ m. again_body body m i) >>= (λ b. pure (tree.FunctionStat a method b)))) n
  again_stat_kind (tree.LocalFunction name body) n = λ i. ((λ m. again_bind name m i) >>= (λ a. (λ m. again_body body m i) >>= (λ b. pure (tree.LocalFunction a b)))) n
  again_stat_kind (tree.Local binds values) n = λ i. ((λ m. again_binds binds m i) >>= (λ a. (λ m. again_exprs values m i) >>= (λ b. pure (tree.Local a b)))) n
  again_stat_kind (tree.TypeAlias exported name generics typ) n = λ i. ((λ m. again_gens generics m i) >>= (λ a. (λ m. again_type typ m i) >>= (λ b. pure (tree.TypeAlias exported name a b)))) n
  again_stat_kind (tree.TypeFunction exported name body) n = λ i. ((λ m. again_body body m i) >>= (λ a. pure (tree.TypeFunction exported name a))) n
  again_stat_kind (tree.Return values) n = λ i. ((λ m. again_exprs values m i) >>= (λ a. pure (tree.Return a))) n
  again_stat_kind tree.Break n = refl
  again_stat_kind tree.Continue n = refl

  pub again_arms : (x : Arms) (n : Numbers) → of_arms (erased_arms x) n ≡ of_arms x n
  again_arms tree.no_arms n = refl
  again_arms (tree.more_arms cond block rest) n = λ i. ((λ m. again_expr cond m i) >>= (λ a. (λ m. again_block block m i) >>= (λ b. (λ m. again_arms rest m i) >>= (λ c. pure (tree.more_arms a b c))))) n

  pub again_maybe_block : (x : MaybeBlock) (n : Numbers) → of_maybe_block (erased_maybe_block x) n ≡ of_maybe_block x n
  again_maybe_block tree.no_block n = refl
  again_maybe_block (tree.a_block block) n = λ i. ((λ m. again_block block m i) >>= (λ a. pure (tree.a_block a))) n

  pub again_expr : (x : Expr) (n : Numbers) → of_expr (erased_expr x) n ≡ of_expr x n
  again_expr (tree.the_expr id span kind) n = λ i. (next_expr >>= (λ v. (λ m. again_expr_kind kind m i) >>= (λ a. pure (tree.the_expr v span a)))) n

  pub again_exprs : (x : Exprs) (n : Numbers) → of_exprs (erased_exprs x) n ≡ of_exprs x n
  again_exprs tree.no_exprs n = refl
  again_exprs (tree.more_exprs e rest) n = λ i. ((λ m. again_expr e m i) >>= (λ a. (λ m. again_exprs rest m i) >>= (λ b. pure (tree.more_exprs a b)))) n

  pub again_maybe_expr : (x : MaybeExpr) (n : Numbers) → of_maybe_expr (erased_maybe_expr x) n ≡ of_maybe_expr x n
  again_maybe_expr tree.no_expr n = refl
  again_maybe_expr (tree.an_expr e) n = λ i. ((λ m. again_expr e m i) >>= (λ a. pure (tree.an_expr a))) n

  pub again_expr_kind : (x : ExprKind) (n : Numbers) → of_expr_kind (erased_expr_kind x) n ≡ of_expr_kind x n
  again_expr_kind tree.NilExpr n = refl
  again_expr_kind tree.TrueExpr n = refl
  again_expr_kind tree.FalseExpr n = refl
  again_expr_kind (tree.NumberExpr text) n = refl
  again_expr_kind (tree.StrExpr bytes) n = refl
  again_expr_kind tree.Vararg n = refl
  again_expr_kind (tree.FunctionExpr body) n = λ i. ((λ m. again_body body m i) >>= (λ a. pure (tree.FunctionExpr a))) n
  again_expr_kind (tree.NameExpr name) n = refl
  again_expr_kind (tree.Index base name) n = λ i. ((λ m. again_expr base m i) >>= (λ a. pure (tree.Index a name))) n
  again_expr_kind (tree.At base key) n = λ i. ((λ m. again_expr base m i) >>= (λ a. (λ m. again_expr key m i) >>= (λ b. pure (tree.At a b)))) n
  again_expr_kind (tree.Call callee args) n = λ i. ((λ m. again_expr callee m i) >>= (λ a. (λ m. again_exprs args m i) >>= (λ b. pure (tree.Call a b)))) n
  again_expr_kind (tree.Method base name name_span args) n = λ i. ((λ m. again_expr base m i) >>= (λ a. (λ m. again_exprs args m i) >>= (λ b. pure (tree.Method a name name_span b)))) n
  again_expr_kind (tree.Paren e) n = λ i. ((λ m. again_expr e m i) >>= (λ a. pure (tree.Paren a))) n
  again_expr_kind (tree.Unary op e) n = λ i. ((λ m. again_expr e m i) >>= (λ a. pure (tree.Unary op a))) n
  again_expr_kind (tree.Binary op left right) n = λ i. ((λ m. again_expr left m i) >>= (λ a. (λ m. again_expr right m i) >>= (λ b. pure (tree.Binary op a b)))) n
  again_expr_kind (tree.IfElse arms last) n = λ i. ((λ m. again_choices arms m i) >>= (λ a. (λ m. again_expr last m i) >>= (λ b. pure (tree.IfElse a b)))) n
  again_expr_kind (tree.TableExpr items) n = λ i. ((λ m. again_items items m i) >>= (λ a. pure (tree.TableExpr a))) n
  again_expr_kind (tree.Interp texts parts) n = λ i. ((λ m. again_exprs parts m i) >>= (λ a. pure (tree.Interp texts a))) n
  again_expr_kind (tree.Assert e typ) n = λ i. ((λ m. again_expr e m i) >>= (λ a. (λ m. again_type typ m i) >>= (λ b. pure (tree.Assert a b)))) n

  pub again_choices : (x : Choices) (n : Numbers) → of_choices (erased_choices x) n ≡ of_choices x n
  again_choices tree.no_choices n = refl
  again_choices (tree.more_choices cond value rest) n = λ i. ((λ m. again_expr cond m i) >>= (λ a. (λ m. again_expr value m i) >>= (λ b. (λ m. again_choices rest m i) >>= (λ c. pure (tree.more_choices a b c))))) n

  pub again_item : (x : Item) (n : Numbers) → of_item (erased_item x) n ≡ of_item x n
  again_item (tree.Field name value) n = λ i. ((λ m. again_expr value m i) >>= (λ a. pure (tree.Field name a))) n
  again_item (tree.Keyed key value) n = λ i. ((λ m. again_expr key m i) >>= (λ a. (λ m. again_expr value m i) >>= (λ b. pure (tree.Keyed a b)))) n
  again_item (tree.Plain value) n = λ i. ((λ m. again_expr value m i) >>= (λ a. pure (tree.Plain a))) n

  pub again_items : (x : Items) (n : Numbers) → of_items (erased_items x) n ≡ of_items x n
  again_items tree.no_items n = refl
  again_items (tree.more_items item rest) n = λ i. ((λ m. again_item item m i) >>= (λ a. (λ m. again_items rest m i) >>= (λ b. pure (tree.more_items a b)))) n

  pub again_body : (x : Body) (n : Numbers) → of_body (erased_body x) n ≡ of_body x n
  again_body (tree.the_body id has_self generics params vararg result block span) n = λ i. (next_body >>= (λ v. (λ m. again_gens generics m i) >>= (λ a. (λ m. again_binds params m i) >>= (λ b. (λ m. again_varargs vararg m i) >>= (λ c. (λ m. again_maybe_type result m i) >>= (λ d. (λ m. again_block block m i) >>= (λ e. pure (tree.the_body v has_self a b c d e span)))))))) n

  pub again_varargs : (x : Varargs) (n : Numbers) → of_varargs (erased_varargs x) n ≡ of_varargs x n
  again_varargs tree.no_varargs n = refl
  again_varargs (tree.varargs maybe_type) n = λ i. ((λ m. again_maybe_type maybe_type m i) >>= (λ a. pure (tree.varargs a))) n

  pub again_bind : (x : Bind) (n : Numbers) → of_bind (erased_bind x) n ≡ of_bind x n
  again_bind (tree.the_bind name span typ) n = λ i. ((λ m. again_maybe_type typ m i) >>= (λ a. pure (tree.the_bind name span a))) n

  pub again_binds : (x : Binds) (n : Numbers) → of_binds (erased_binds x) n ≡ of_binds x n
  again_binds tree.no_binds n = refl
  again_binds (tree.more_binds bind rest) n = λ i. ((λ m. again_bind bind m i) >>= (λ a. (λ m. again_binds rest m i) >>= (λ b. pure (tree.more_binds a b)))) n

  pub again_gen : (x : Gen) (n : Numbers) → of_gen (erased_gen x) n ≡ of_gen x n
  again_gen (tree.the_gen name span pack default) n = λ i. ((λ m. again_maybe_type default m i) >>= (λ a. pure (tree.the_gen name span pack a))) n

  pub again_gens : (x : Gens) (n : Numbers) → of_gens (erased_gens x) n ≡ of_gens x n
  again_gens tree.no_gens n = refl
  again_gens (tree.more_gens gen rest) n = λ i. ((λ m. again_gen gen m i) >>= (λ a. (λ m. again_gens rest m i) >>= (λ b. pure (tree.more_gens a b)))) n

  pub again_type : (x : TypeSyntax) (n : Numbers) → of_type (erased_type x) n ≡ of_type x n
  again_type (tree.the_type span kind) n = λ i. ((λ m. again_type_kind kind m i) >>= (λ a. pure (tree.the_type span a))) n

  pub again_types : (x : TypeSyntaxes) (n : Numbers) → of_types (erased_types x) n ≡ of_types x n
  again_types tree.no_types n = refl
  again_types (tree.more_types typ rest) n = λ i. ((λ m. again_type typ m i) >>= (λ a. (λ m. again_types rest m i) >>= (λ b. pure (tree.more_types a b)))) n

  pub again_maybe_type : (x : MaybeType) (n : Numbers) → of_maybe_type (erased_maybe_type x) n ≡ of_maybe_type x n
  again_maybe_type tree.no_type n = refl
  again_maybe_type (tree.a_type typ) n = λ i. ((λ m. again_type typ m i) >>= (λ a. pure (tree.a_type a))) n

  pub again_type_kind : (x : TypeKind) (n : Numbers) → of_type_kind (erased_type_kind x) n ≡ of_type_kind x n
  again_type_kind tree.NilType n = refl
  again_type_kind (tree.BoolType truth) n = refl
  again_type_kind (tree.StrType bytes) n = refl
  again_type_kind (tree.Named prefix name args) n = λ i. ((λ m. again_types args m i) >>= (λ a. pure (tree.Named prefix name a))) n
  again_type_kind (tree.Typeof e) n = λ i. ((λ m. again_expr e m i) >>= (λ a. pure (tree.Typeof a))) n
  again_type_kind (tree.Array item) n = λ i. ((λ m. again_type item m i) >>= (λ a. pure (tree.Array a))) n
  again_type_kind (tree.TableType props) n = λ i. ((λ m. again_props props m i) >>= (λ a. pure (tree.TableType a))) n
  again_type_kind (tree.Func generics params result) n = λ i. ((λ m. again_gens generics m i) >>= (λ a. (λ m. again_types params m i) >>= (λ b. (λ m. again_type result m i) >>= (λ c. pure (tree.Func a b c))))) n
  again_type_kind (tree.Union types) n = λ i. ((λ m. again_types types m i) >>= (λ a. pure (tree.Union a))) n
  again_type_kind (tree.Meet types) n = λ i. ((λ m. again_types types m i) >>= (λ a. pure (tree.Meet a))) n
  again_type_kind (tree.Optional typ) n = λ i. ((λ m. again_type typ m i) >>= (λ a. pure (tree.Optional a))) n
  again_type_kind (tree.Pack types) n = λ i. ((λ m. again_types types m i) >>= (λ a. pure (tree.Pack a))) n
  again_type_kind (tree.Variadic typ) n = λ i. ((λ m. again_type typ m i) >>= (λ a. pure (tree.Variadic a))) n
  again_type_kind (tree.GenericPack name) n = refl

  pub again_prop : (x : Prop) (n : Numbers) → of_prop (erased_prop x) n ≡ of_prop x n
  again_prop (tree.the_prop access key typ) n = λ i. ((λ m. again_prop_key key m i) >>= (λ a. (λ m. again_type typ m i) >>= (λ b. pure (tree.the_prop access a b)))) n

  pub again_props : (x : Props) (n : Numbers) → of_props (erased_props x) n ≡ of_props x n
  again_props tree.no_props n = refl
  again_props (tree.more_props prop rest) n = λ i. ((λ m. again_prop prop m i) >>= (λ a. (λ m. again_props rest m i) >>= (λ b. pure (tree.more_props a b)))) n

  pub again_prop_key : (x : PropKey) (n : Numbers) → of_prop_key (erased_prop_key x) n ≡ of_prop_key x n
  again_prop_key (tree.NameKey name) n = refl
  again_prop_key (tree.Indexer key) n = λ i. ((λ m. again_type key m i) >>= (λ a. pure (tree.Indexer a))) n
