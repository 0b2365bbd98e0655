-- What is found in each piece of a module matches its nodes.
use Rattle.std.proofs.Common.{◌≡◌, ◌≤◌, ℕ, suc, ◌+◌, Bool, true, false, List, [], ◌∷◌, ◌++◌, map, refl, sym, ap, ◌∙◌, arith, append_assoc}
use Rattle.std.specs.Prelude.{Option, Some, None, if◌then◌else◌, ◌&&◌}
use Rattle.std.specs.Option.{is_some}
use Rattle.std.specs.List.{filter_map}
use Rattle.luau_tree.specs.declared.position.Span.{Span}
use Rattle.luau_tree.specs.declared.names.ExprId.{ExprId}
use Rattle.luau_tree.specs.Tree.{Block, no_stats, more_stats, Stat, the_stat, StatKind, Assign, Compound, CallStat, Do, While, Repeat, If, NumFor, GenFor, FunctionStat, LocalFunction, Local, TypeAlias, TypeFunction, Return, Break, Continue, Arms, no_arms, more_arms, MaybeBlock, no_block, a_block, Expr, the_expr, Exprs, no_exprs, more_exprs, MaybeExpr, no_expr, an_expr, ExprKind, NilExpr, TrueExpr, FalseExpr, NumberExpr, StrExpr, Vararg, FunctionExpr, NameExpr, Index, At, Call, Method, Paren, Unary, Binary, IfElse, TableExpr, Interp, Assert, Choices, no_choices, more_choices, Item, Field, Keyed, Plain, Items, no_items, more_items, Body, the_body, Varargs, no_varargs, varargs, Bind, the_bind, Binds, no_binds, more_binds, Gen, the_gen, Gens, no_gens, more_gens, TypeSyntax, the_type, TypeSyntaxes, no_types, more_types, MaybeType, no_type, a_type, TypeKind, NilType, BoolType, StrType, Named, Typeof, Array, TableType, Func, Union, Meet, Optional, Pack, Variadic, GenericPack, Prop, the_prop, Props, no_props, more_props, PropKey, NameKey, Indexer}
use Rattle.luau_tree.specs.Nodes.{Node, AnExpr, ABody, ABind, exprs_in, binds_in, expr_number, nodes_of_block, nodes_of_stat, nodes_of_stat_kind, nodes_of_arms, nodes_of_maybe_block, nodes_of_expr, nodes_of_exprs, nodes_of_maybe_expr, nodes_of_expr_kind, nodes_of_choices, nodes_of_items, nodes_of_item, nodes_of_body, nodes_of_varargs, nodes_of_bind, nodes_of_binds, nodes_of_gen, nodes_of_gens, nodes_of_type, nodes_of_types, nodes_of_maybe_type, nodes_of_type_kind, nodes_of_props, nodes_of_prop, nodes_of_prop_key}
use Rattle.luau_scope.specs.declared.reading.Use.{Use}
use Rattle.luau_scope.specs.declared.reading.Use.TheVariants.{Global}
use Rattle.luau_scope.specs.Names.{is_one_of, dotted}
use Rattle.luau_scope.specs.Found.{Found, Declares, Means, Captures, Assigns, RequiresModule, Continues, Refuses, declarations, Part, nothing, one, join, ◌then◌, Visible, Around, RepeatLoop, OtherLoop, meant, same_function}
use Rattle.luau_scope.specs.Finds as finds
use Rattle.luau_scope.specs.Finds.{of_block, of_stat, of_stat_kind, of_targets, of_arms, of_maybe_block, of_binds, of_bind, of_expr, of_exprs, of_maybe_expr, of_expr_kind, of_choices, of_items, of_item, of_body, of_own_bind, of_params, of_varargs, of_gens, of_gen, of_type, of_types, of_maybe_type, of_type_kind, of_props, of_prop, of_key, of_name, of_local, of_path, of_static, unless, required_way, id_of, kind_of, in_scope, in_loop, in_body, with_bind, of_entry, behind, behind_block, behind_params, numbered, around_module, found_in, own_locals, declared_span}
use Rattle.luau_scope.specs.Laws.{Within, none, both, left_out, AscendFrom, name_numbers, bind_name_and_span, local_name_and_span}
use Rattle.luau_scope.specs.Locals.{uses_of, locals_of, locals_from, a_use, an_assigned, a_captured}
use Rattle.luau_scope.proofs.Matches.{Match, met, declared, ids, named, bound, match_join, match_then_quiet, around_node, quiet_nothing, quiet_refused, quiet_refused_if, quiet_aimed, quiet_named_function, quiet_entry, quiet_entries, quiet_break, quiet_continue, match_repeat}

-- the nodes of an expression that is a name
abbrev name_node : ℕ → Span → List ℕ → List Node
name_node id span name = AnExpr (the_expr id span (NameExpr name)) ∷ []

one_use : (id : ℕ) (span : Span) (name : List ℕ) (meaning : Use) → Match (name_node id span name) (Means (record { 0 = id }) meaning ∷ [])
one_use id span name meaning = record { names = both id none; numbers = both id none; binds = refl }

quiet_capture : (b : Bool) (local n : ℕ) → Match [] ((if b then nothing else one (Captures local)) n)
quiet_capture true local n = quiet_nothing
quiet_capture false local n = record { names = none; numbers = none; binds = refl }

by_meaning : (a : Around) (id : ℕ) (span : Span) (name : List ℕ) (v : Option Visible) (n : ℕ) → Match (name_node id span name) (finds.of_meant a (record { 0 = id }) span name v n)
by_meaning a id span name None n = match_then_quiet _ _ _ n (one_use id span name _) (λ m. quiet_refused _ span m)
by_meaning a id span name (Some v) n = match_then_quiet _ _ _ n (one_use id span name _) (λ m. quiet_capture (same_function v.function a.function) v.local m)

a_name : (a : Around) (id : ℕ) (span : Span) (name : List ℕ) (n : ℕ) → Match (name_node id span name) (of_name a (record { 0 = id }) span name n)
a_name a id span name n = by_meaning a id span name (meant a.scope name) n

-- nodes that are grouped from the left
left : (xs ys zs : List Node) (f : List Found) → Match (xs ++ (ys ++ zs)) f → Match ((xs ++ ys) ++ zs) f
left xs ys zs f m = rw append_assoc m

-- a node that is no name and has a use
with_use : (e : Node) (ns : List Node) (f : List Found) (id : ℕ) (meaning : Use) → named (e ∷ ns) ≡ named ns → ids (e ∷ ns) ≡ id ∷ ids ns → bound (e ∷ ns) ≡ bound ns → Match ns f → Match (e ∷ ns) (Means (record { 0 = id }) meaning ∷ f)
with_use e ns f id meaning a b c m = record {
  names = rw a (left_out id m.names);
  numbers = rw b (both id m.numbers);
  binds = m.binds ∙ sym c;
}

field_by : (b : Bool) (id : ℕ) (span : Span) (base : Expr) (field : List ℕ) (meaning : Use) (q : Part) (n : ℕ) → ((m : ℕ) → Match (nodes_of_expr base) (q m))
    → Match (AnExpr (the_expr id span (Index base field)) ∷ nodes_of_expr base) (join (if b then one (Means (record { 0 = id }) meaning) else nothing) q n)
unfolding join
field_by true id span base field meaning q n k = with_use _ _ _ id meaning refl refl refl (k (n + 0))
field_by false id span base field meaning q n k = around_node _ _ _ id refl refl refl (k (n + 0))

a_field : (a : Around) (id : ℕ) (span : Span) (base : Expr) (field : List ℕ) (q : Part) (n : ℕ) → ((m : ℕ) → Match (nodes_of_expr base) (q m))
    → Match (AnExpr (the_expr id span (Index base field)) ∷ nodes_of_expr base) (join (of_path a (record { 0 = id }) (kind_of base) field) q n)
a_field a id span (the_expr i s (NameExpr name)) field q n k = field_by (finds.is_global a name && is_one_of a.paths (dotted name field)) id span (the_expr i s (NameExpr name)) field _ q n k
a_field a id span (the_expr i s other) field q n k = field_by false id span (the_expr i s other) field Global q n k

static_by : (a : Around) (at : ExprId) (span : Span) (id : ℕ) (here : Span) (name : List ℕ) (way : Option (List ℕ)) (n : ℕ)
    → Match (name_node id here name) (join (of_static way at span (record { 0 = id })) (unless (is_some way) (of_name a (record { 0 = id }) here name)) n)
static_by a at span id here name None n = match_join [] _ _ _ n quiet_nothing (λ m. a_name a id here name m)
static_by a at span id here name (Some text) n =
    match_then_quiet _ _ _ n (match_join [] _ _ _ n (record { names = none; numbers = none; binds = refl }) (λ m. one_use id here name _)) (λ m. quiet_nothing)

past_body : (b : Body) (ns : List Node) (f : List Found) → Match ns f → Match (ABody b ∷ ns) f
past_body b ns f m = record { names = m.names; numbers = m.numbers; binds = m.binds }

mutual
  pub block : (a : Around) (x : Block) (n : ℕ) → Match (nodes_of_block x) (of_block a x n)
  block a no_stats n = quiet_nothing
  block a (more_stats s rest) n = match_join _ _ _ _ n (stat a s n) (λ m. block (in_scope a (behind a s n)) rest m)

  stat : (a : Around) (x : Stat) (n : ℕ) → Match (nodes_of_stat x) (of_stat a x n)
  stat a (the_stat span kind) n = stat_kind a span kind n

  stat_kind : (a : Around) (span : Span) (x : StatKind) (n : ℕ) → Match (nodes_of_stat_kind x) (of_stat_kind a span x n)
  stat_kind a span (Assign targets values) n = match_join _ _ _ _ n (the_targets a [] targets n) (λ m. exprs a values m)
  stat_kind a span (Compound target op e) n = match_join _ _ _ _ n (expr a target n) (λ m. match_join [] _ _ _ m (quiet_aimed a [] target m) (λ k. expr a e k))
  stat_kind a span (CallStat e) n = expr a e n
  stat_kind a span (Do body) n = block a body n
  stat_kind a span (While cond body) n = match_join _ _ _ _ n (expr a cond n) (λ m. block (in_loop a OtherLoop) body m)
  stat_kind a span (Repeat body cond) n =
      match_repeat _ _ _ _ _ (block (in_loop a RepeatLoop) body n)
      (expr (in_scope a (behind_block (in_loop a RepeatLoop) body n)) cond (n + declarations (of_block (in_loop a RepeatLoop) body n)))
  stat_kind a span (If list last) n = match_join _ _ _ _ n (the_arms a list n) (λ m. maybe_block a last m)
  stat_kind a span (NumFor b from to step body) n =
      let looped : Part = of_block (in_loop (in_scope a (with_bind a b n)) OtherLoop) body in
      let entry : Part = of_entry (own_locals a) (declared_span b) in
      left ((nodes_of_bind b ++ nodes_of_expr from) ++ nodes_of_expr to) (nodes_of_maybe_expr step) (nodes_of_block body) _
      (left (nodes_of_bind b ++ nodes_of_expr from) (nodes_of_expr to) (nodes_of_maybe_expr step ++ nodes_of_block body) _
      (left (nodes_of_bind b) (nodes_of_expr from) (nodes_of_expr to ++ (nodes_of_maybe_expr step ++ nodes_of_block body)) _
      (match_join _ _ (of_bind a None b) (of_expr a from then of_expr a to then of_maybe_expr a step then entry then looped) n (bind a None b n)
      (λ m. match_join _ _ (of_expr a from) (of_expr a to then of_maybe_expr a step then entry then looped) m (expr a from m)
      (λ m. match_join _ _ (of_expr a to) (of_maybe_expr a step then entry then looped) m (expr a to m)
      (λ m. match_join _ _ (of_maybe_expr a step) (entry then looped) m (maybe_expr a step m)
      (λ m. match_join [] _ entry looped m (quiet_entry (own_locals a) (declared_span b) m)
      (λ m. block (in_loop (in_scope a (with_bind a b n)) OtherLoop) body m))))))))
  stat_kind a span (GenFor bs values body) n =
      left (nodes_of_binds bs) (nodes_of_exprs values) (nodes_of_block body) _ (match_join _ _ _ _ n (the_binds a bs no_exprs n) (λ m. match_join _ _ _ _ m (exprs a values m)
      (λ m. match_join [] _ _ _ m (quiet_entries (own_locals a) bs m)
      (λ m. block (in_loop (in_scope a (a.scope ++ numbered a bs n)) OtherLoop) body m))))
  stat_kind a span (FunctionStat path method b) n =
      match_join _ _ _ _ n (expr a path n) (λ m. match_join [] _ _ _ m (quiet_named_function a path method m) (λ k. a_body a b k))
  stat_kind a span (LocalFunction name b) n = match_join _ _ _ _ n (own_bind a name n) (λ m. a_body (in_scope a (with_bind a name n)) b m)
  stat_kind a span (Local bs values) n =
      match_join _ _ _ _ n (the_binds a bs values n) (λ m. match_then_quiet _ _ _ m (exprs a values m) (λ k. quiet_entries (own_locals a) bs k))
  stat_kind a span (TypeAlias exported name generics typ) n = match_join _ _ _ _ n (the_gens a generics n) (λ m. a_written a typ m)
  stat_kind a span (TypeFunction exported name b) n = match_join [] _ _ _ n (record { names = none; numbers = none; binds = refl }) (λ m. a_body a b m)
  stat_kind a span (Return values) n = exprs a values n
  stat_kind a span Break n = quiet_break a.loop span n
  stat_kind a span Continue n = quiet_continue a.loop span n

  the_targets : (a : Around) (earlier : List ℕ) (x : Exprs) (n : ℕ) → Match (nodes_of_exprs x) (of_targets a earlier x n)
  the_targets a earlier no_exprs n = quiet_nothing
  the_targets a earlier (more_exprs e rest) n =
      match_join _ _ _ _ n (expr a e n) (λ m. match_join [] _ _ _ m (quiet_aimed a earlier e m) (λ k. the_targets a (earlier ++ finds.target_local a e) rest k))

  the_arms : (a : Around) (x : Arms) (n : ℕ) → Match (nodes_of_arms x) (of_arms a x n)
  the_arms a no_arms n = quiet_nothing
  the_arms a (more_arms cond body rest) n = left (nodes_of_expr cond) (nodes_of_block body) (nodes_of_arms rest) _ (match_join _ _ _ _ n (expr a cond n) (λ m. match_join _ _ _ _ m (block a body m) (λ k. the_arms a rest k)))

  maybe_block : (a : Around) (x : MaybeBlock) (n : ℕ) → Match (nodes_of_maybe_block x) (of_maybe_block a x n)
  maybe_block a no_block n = quiet_nothing
  maybe_block a (a_block body) n = block a body n

  the_binds : (a : Around) (x : Binds) (values : Exprs) (n : ℕ) → Match (nodes_of_binds x) (of_binds a x values n)
  the_binds a no_binds values n = quiet_nothing
  the_binds a (more_binds b rest) values n = match_join _ _ _ _ n (bind a (finds.first_value values) b n) (λ m. the_binds a rest (finds.other_values values) m)

  bind : (a : Around) (given : Option ExprId) (x : Bind) (n : ℕ) → Match (nodes_of_bind x) (of_bind a given x n)
  bind a given (the_bind name span typ) n =
      match_join (ABind (the_bind name span typ) ∷ []) _ _ _ n (record { names = none; numbers = none; binds = refl }) (λ m. maybe_type a typ m)

  own_bind : (a : Around) (x : Bind) (n : ℕ) → Match (nodes_of_bind x) (of_own_bind a x n)
  own_bind a (the_bind name span typ) n =
      match_join (ABind (the_bind name span typ) ∷ []) _ _ _ n (record { names = none; numbers = none; binds = refl })
      (λ m. match_join [] _ _ _ m (quiet_entry (own_locals a) span m) (λ k. maybe_type (in_scope a (a.scope ++ finds.local_here a name n ∷ [])) typ k))

  params : (a : Around) (x : Binds) (n : ℕ) → Match (nodes_of_binds x) (of_params a x n)
  params a no_binds n = quiet_nothing
  params a (more_binds b rest) n = match_join _ _ _ _ n (own_bind a b n) (λ m. params (in_scope a (with_bind a b n)) rest m)

  expr : (a : Around) (x : Expr) (n : ℕ) → Match (nodes_of_expr x) (of_expr a x n)
  expr a (the_expr id span kind) n = expr_kind a id span kind n

  exprs : (a : Around) (x : Exprs) (n : ℕ) → Match (nodes_of_exprs x) (of_exprs a x n)
  exprs a no_exprs n = quiet_nothing
  exprs a (more_exprs e rest) n = match_join _ _ _ _ n (expr a e n) (λ m. exprs a rest m)

  maybe_expr : (a : Around) (x : MaybeExpr) (n : ℕ) → Match (nodes_of_maybe_expr x) (of_maybe_expr a x n)
  maybe_expr a no_expr n = quiet_nothing
  maybe_expr a (an_expr e) n = expr a e n

  expr_kind : (a : Around) (id : ℕ) (span : Span) (x : ExprKind) (n : ℕ) → Match (AnExpr (the_expr id span x) ∷ nodes_of_expr_kind x) (of_expr_kind a (record { 0 = id }) span x n)
  expr_kind a id span NilExpr n = around_node _ [] [] id refl refl refl quiet_nothing
  expr_kind a id span TrueExpr n = around_node _ [] [] id refl refl refl quiet_nothing
  expr_kind a id span FalseExpr n = around_node _ [] [] id refl refl refl quiet_nothing
  expr_kind a id span (NumberExpr text) n = around_node _ [] [] id refl refl refl quiet_nothing
  expr_kind a id span (StrExpr bytes) n = around_node _ [] [] id refl refl refl quiet_nothing
  expr_kind a id span Vararg n = around_node _ [] _ id refl refl refl (quiet_refused_if _ _ span n)
  expr_kind a id span (FunctionExpr b) n = around_node _ _ _ id refl refl refl (a_body a b n)
  expr_kind a id span (NameExpr name) n = a_name a id span name n
  expr_kind a id span (Index base field) n = a_field a id span base field (of_expr a base) n (λ m. expr a base m)
  expr_kind a id span (At base key) n = around_node _ _ _ id refl refl refl (match_join _ _ _ _ n (expr a base n) (λ m. expr a key m))
  expr_kind a id span (Call callee args) n = around_node _ _ _ id refl refl refl (match_join _ _ _ _ n (the_callee a (record { 0 = id }) span args callee n) (λ m. exprs a args m))
  expr_kind a id span (Method base name name_span args) n = around_node _ _ _ id refl refl refl (match_join _ _ _ _ n (expr a base n) (λ m. exprs a args m))
  expr_kind a id span (Paren e) n = around_node _ _ _ id refl refl refl (expr a e n)
  expr_kind a id span (Unary op e) n = around_node _ _ _ id refl refl refl (expr a e n)
  expr_kind a id span (Binary op left right) n = around_node _ _ _ id refl refl refl (match_join _ _ _ _ n (expr a left n) (λ m. expr a right m))
  expr_kind a id span (IfElse list last) n = around_node _ _ _ id refl refl refl (match_join _ _ _ _ n (choices a list n) (λ m. expr a last m))
  expr_kind a id span (TableExpr list) n = around_node _ _ _ id refl refl refl (the_items a list n)
  expr_kind a id span (Interp texts parts) n = around_node _ _ _ id refl refl refl (exprs a parts n)
  expr_kind a id span (Assert e typ) n = around_node _ _ _ id refl refl refl (match_join _ _ _ _ n (expr a e n) (λ m. a_written a typ m))

  the_callee : (a : Around) (at : ExprId) (span : Span) (args : Exprs) (x : Expr) (n : ℕ)
      → Match (nodes_of_expr x) (join (of_static (required_way a (kind_of x) args) at span (id_of x)) (unless (is_some (required_way a (kind_of x) args)) (of_expr a x)) n)
  the_callee a at span args (the_expr id here (NameExpr name)) n = static_by a at span id here name (required_way a (NameExpr name) args) n
  the_callee a at span args (the_expr id here other) n = match_join [] _ _ _ n quiet_nothing (λ m. expr_kind a id here other m)

  choices : (a : Around) (x : Choices) (n : ℕ) → Match (nodes_of_choices x) (of_choices a x n)
  choices a no_choices n = quiet_nothing
  choices a (more_choices cond e rest) n = left (nodes_of_expr cond) (nodes_of_expr e) (nodes_of_choices rest) _ (match_join _ _ _ _ n (expr a cond n) (λ m. match_join _ _ _ _ m (expr a e m) (λ k. choices a rest k)))

  the_items : (a : Around) (x : Items) (n : ℕ) → Match (nodes_of_items x) (of_items a x n)
  the_items a no_items n = quiet_nothing
  the_items a (more_items i rest) n = match_join _ _ _ _ n (item a i n) (λ m. the_items a rest m)

  item : (a : Around) (x : Item) (n : ℕ) → Match (nodes_of_item x) (of_item a x n)
  item a (Field name e) n = expr a e n
  item a (Keyed key e) n = match_join _ _ _ _ n (expr a key n) (λ m. expr a e m)
  item a (Plain e) n = expr a e n

  a_body : (a : Around) (x : Body) (n : ℕ) → Match (nodes_of_body x) (of_body a x n)
  a_body a (the_body id has_self generics ps vararg returned code span) n =
      let inner = in_body a id vararg in
      let within = in_scope inner (behind_params inner ps (n + declarations (of_gens inner generics n))) in
      past_body _ _ _
      (left ((nodes_of_gens generics ++ nodes_of_binds ps) ++ nodes_of_varargs vararg) (nodes_of_maybe_type returned) (nodes_of_block code) _
      (left (nodes_of_gens generics ++ nodes_of_binds ps) (nodes_of_varargs vararg) (nodes_of_maybe_type returned ++ nodes_of_block code) _
      (left (nodes_of_gens generics) (nodes_of_binds ps) (nodes_of_varargs vararg ++ (nodes_of_maybe_type returned ++ nodes_of_block code)) _
      (match_join _ _ (of_gens inner generics) (of_params inner ps then of_varargs within vararg then of_maybe_type within returned then of_block within code) n (the_gens inner generics n)
      (λ m. match_join _ _ (of_params inner ps) (of_varargs within vararg then of_maybe_type within returned then of_block within code) m (params inner ps m)
      (λ m. match_join _ _ (of_varargs within vararg) (of_maybe_type within returned then of_block within code) m (the_varargs within vararg m)
      (λ m. match_join _ _ (of_maybe_type within returned) (of_block within code) m (maybe_type within returned m) (λ m. block within code m))))))))

  the_varargs : (a : Around) (x : Varargs) (n : ℕ) → Match (nodes_of_varargs x) (of_varargs a x n)
  the_varargs a no_varargs n = quiet_nothing
  the_varargs a (varargs typ) n = maybe_type a typ n

  the_gens : (a : Around) (x : Gens) (n : ℕ) → Match (nodes_of_gens x) (of_gens a x n)
  the_gens a no_gens n = quiet_nothing
  the_gens a (more_gens g rest) n = match_join _ _ _ _ n (a_gen a g n) (λ m. the_gens a rest m)

  a_gen : (a : Around) (x : Gen) (n : ℕ) → Match (nodes_of_gen x) (of_gen a x n)
  a_gen a (the_gen name span pack default) n = match_join [] _ _ _ n (quiet_refused_if pack _ span n) (λ m. maybe_type a default m)

  a_written : (a : Around) (x : TypeSyntax) (n : ℕ) → Match (nodes_of_type x) (of_type a x n)
  a_written a (the_type span kind) n = type_kind a span kind n

  types : (a : Around) (x : TypeSyntaxes) (n : ℕ) → Match (nodes_of_types x) (of_types a x n)
  types a no_types n = quiet_nothing
  types a (more_types typ rest) n = match_join _ _ _ _ n (a_written a typ n) (λ m. types a rest m)

  maybe_type : (a : Around) (x : MaybeType) (n : ℕ) → Match (nodes_of_maybe_type x) (of_maybe_type a x n)
  maybe_type a no_type n = quiet_nothing
  maybe_type a (a_type typ) n = a_written a typ n

  type_kind : (a : Around) (span : Span) (x : TypeKind) (n : ℕ) → Match (nodes_of_type_kind x) (of_type_kind a span x n)
  type_kind a span NilType n = quiet_nothing
  type_kind a span (BoolType truth) n = quiet_nothing
  type_kind a span (StrType bytes) n = quiet_nothing
  type_kind a span (Named prefix name args) n = types a args n
  type_kind a span (Typeof e) n = expr a e n
  type_kind a span (Array typ) n = a_written a typ n
  type_kind a span (TableType props) n = the_props a props n
  type_kind a span (Func generics ps returned) n = left (nodes_of_gens generics) (nodes_of_types ps) (nodes_of_type returned) _ (match_join _ _ _ _ n (the_gens a generics n) (λ m. match_join _ _ _ _ m (types a ps m) (λ k. a_written a returned k)))
  type_kind a span (Union list) n = types a list n
  type_kind a span (Meet list) n = types a list n
  type_kind a span (Optional typ) n = a_written a typ n
  type_kind a span (Pack list) n = types a list n
  type_kind a span (Variadic typ) n = a_written a typ n
  type_kind a span (GenericPack name) n = record { names = none; numbers = none; binds = refl }

  the_props : (a : Around) (x : Props) (n : ℕ) → Match (nodes_of_props x) (of_props a x n)
  the_props a no_props n = quiet_nothing
  the_props a (more_props p rest) n = match_join _ _ _ _ n (prop a p n) (λ m. the_props a rest m)

  prop : (a : Around) (x : Prop) (n : ℕ) → Match (nodes_of_prop x) (of_prop a x n)
  prop a (the_prop access key typ) n = match_join _ _ _ _ n (a_key a key n) (λ m. a_written a typ m)

  a_key : (a : Around) (x : PropKey) (n : ℕ) → Match (nodes_of_prop_key x) (of_key a x n)
  a_key a (NameKey name) n = quiet_nothing
  a_key a (Indexer typ) n = a_written a typ n

module_matches : (paths : List (List ℕ)) (x : Block) → Match (nodes_of_block x) (found_in paths x)
module_matches paths x = block (around_module paths) x 0

met_uses : (f : List Found) → map (λ (u : ExprId × Use). u.0.0) (filter_map a_use f) ≡ met f
met_uses [] = refl
met_uses (Means at meaning ∷ f) = ap (λ (ns : List ℕ). at.0 ∷ ns) (met_uses f)
met_uses (Declares name span function given ∷ f) = met_uses f
met_uses (Captures local ∷ f) = met_uses f
met_uses (Assigns local ∷ f) = met_uses f
met_uses (RequiresModule site ∷ f) = met_uses f
met_uses (Continues at before ∷ f) = met_uses f
met_uses (Refuses why at ∷ f) = met_uses f

declared_locals : (gs cs : List ℕ) (k : ℕ) (f : List Found) → map local_name_and_span (locals_from gs cs k f) ≡ declared f
declared_locals gs cs k [] = refl
declared_locals gs cs k (Declares name span function given ∷ f) = ap (λ (bs : List (List ℕ × Span)). (name, span) ∷ bs) (declared_locals gs cs (suc k) f)
declared_locals gs cs k (Means at meaning ∷ f) = declared_locals gs cs k f
declared_locals gs cs k (Captures local ∷ f) = declared_locals gs cs k f
declared_locals gs cs k (Assigns local ∷ f) = declared_locals gs cs k f
declared_locals gs cs k (RequiresModule site ∷ f) = declared_locals gs cs k f
declared_locals gs cs k (Continues at before ∷ f) = declared_locals gs cs k f
declared_locals gs cs k (Refuses why at ∷ f) = declared_locals gs cs k f

pub names_have_uses : (paths : List (List ℕ)) (x : Block) → Within (name_numbers (exprs_in x)) (map (λ u. u.0.0) (uses_of paths x))
names_have_uses paths x = rw (met_uses (found_in paths x)) ((module_matches paths x).names)

pub uses_are_of_expressions : (paths : List (List ℕ)) (x : Block) → Within (map (λ u. u.0.0) (uses_of paths x)) (map expr_number (exprs_in x))
uses_are_of_expressions paths x = rw (met_uses (found_in paths x)) ((module_matches paths x).numbers)

pub locals_are_declared : (paths : List (List ℕ)) (x : Block) → map local_name_and_span (locals_of paths x) ≡ map bind_name_and_span (binds_in x)
locals_are_declared paths x =
    declared_locals (filter_map an_assigned (found_in paths x)) (filter_map a_captured (found_in paths x)) 0 (found_in paths x) ∙ (module_matches paths x).binds

lower : (lo hi : ℕ) (xs : List ℕ) → lo ≤ hi → AscendFrom hi xs → AscendFrom lo xs
lower lo hi [] h a = a
lower lo hi (x ∷ xs) h a = let b = a.0 in (omega (arith, b), a.1)

ascend_within : (lo : ℕ) {us es : List ℕ} → Within us es → AscendFrom lo es → AscendFrom lo us
ascend_within lo none a = a
ascend_within lo (both x w) a = (a.0, ascend_within (suc x) w a.1)
ascend_within lo (left_out {xs} {ys} y w) a = ascend_within lo w (let b = a.0 in lower lo (suc y) ys (omega (arith, b)) a.1)

pub uses_ascend : (paths : List (List ℕ)) (x : Block) → AscendFrom 0 (map expr_number (exprs_in x)) → AscendFrom 0 (map (λ u. u.0.0) (uses_of paths x))
uses_ascend paths x a = ascend_within 0 (uses_are_of_expressions paths x) a
