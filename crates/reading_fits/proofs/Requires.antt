-- Each static require that is found is a call, whose callee is found to be a global.
use Rattle.std.proofs.Common.{◌≡◌, ℕ, ◌+◌, Bool, true, false, ◌&&◌, List, [], ◌∷◌, ◌++◌, refl, ap, append_assoc, inl, inr}
use Rattle.std.specs.Prelude.{◌⊎◌, Option, Some, None, if◌then◌else◌, nat_le}
use Rattle.std.specs.Option.{is_some}
use Rattle.std.specs.List.{filter_map}
use Rattle.luau_tree.specs.declared.position.Span.{Span}
use Rattle.luau_tree.specs.declared.names.ExprId.{ExprId}
use Rattle.luau_tree.specs.Tree.{Block, no_stats, more_stats, Stat, the_stat, StatKind, Assign, Compound, CallStat, Do, While, Repeat, If, NumFor, GenFor, FunctionStat, LocalFunction, Local, TypeAlias, TypeFunction, Return, Break, Continue, Arms, no_arms, more_arms, MaybeBlock, no_block, a_block, Expr, the_expr, Exprs, no_exprs, more_exprs, MaybeExpr, no_expr, an_expr, ExprKind, NilExpr, TrueExpr, FalseExpr, NumberExpr, StrExpr, Vararg, FunctionExpr, NameExpr, Index, At, Call, Method, Paren, Unary, Binary, IfElse, TableExpr, Interp, Assert, Choices, no_choices, more_choices, Item, Field, Keyed, Plain, Items, no_items, more_items, Body, the_body, Varargs, no_varargs, varargs, Bind, the_bind, Binds, no_binds, more_binds, Gen, the_gen, Gens, no_gens, more_gens, TypeSyntax, the_type, TypeSyntaxes, no_types, more_types, MaybeType, no_type, a_type, TypeKind, NilType, BoolType, StrType, Named, Typeof, Array, TableType, Func, Union, Meet, Optional, Pack, Variadic, GenericPack, Prop, the_prop, Props, no_props, more_props, PropKey, NameKey, Indexer}
use Rattle.luau_tree.specs.Nodes.{Node, AnExpr, ABody, ABind, nodes_of_block, nodes_of_stat, nodes_of_stat_kind, nodes_of_arms, nodes_of_maybe_block, nodes_of_expr, nodes_of_exprs, nodes_of_maybe_expr, nodes_of_expr_kind, nodes_of_choices, nodes_of_items, nodes_of_item, nodes_of_body, nodes_of_varargs, nodes_of_bind, nodes_of_binds, nodes_of_gen, nodes_of_gens, nodes_of_type, nodes_of_types, nodes_of_maybe_type, nodes_of_type_kind, nodes_of_props, nodes_of_prop, nodes_of_prop_key}
use Rattle.luau_scope.specs.declared.refusal.Refusal.{Refusal}
use Rattle.luau_scope.specs.declared.reading.RequireSite.{RequireSite}
use Rattle.luau_scope.specs.declared.reading.Use.{Use}
use Rattle.luau_scope.specs.declared.reading.Use.TheVariants.{Builtin, Global}
use Rattle.luau_scope.specs.Names.{is_one_of, dotted}
use Rattle.luau_scope.specs.Found.{Found, Declares, Means, Captures, Assigns, RequiresModule, Continues, Refuses, NoLoop, declarations, Part, nothing, one, join, ◌then◌, Visible, Around, Loop, RepeatLoop, OtherLoop, meant, same_function}
use Rattle.luau_scope.specs.Finds as finds
use Rattle.luau_scope.specs.Finds.{of_block, of_stat, of_stat_kind, of_targets, of_arms, of_maybe_block, of_binds, of_bind, of_expr, of_exprs, of_maybe_expr, of_expr_kind, of_choices, of_items, of_item, of_body, of_own_bind, of_params, of_varargs, of_gens, of_gen, of_type, of_types, of_maybe_type, of_type_kind, of_props, of_prop, of_key, of_name, of_path, of_static, unless, required_way, id_of, kind_of, in_scope, in_loop, in_body, with_bind, of_entry, of_entries, behind, behind_block, behind_params, numbered, own_locals, declared_span, refused, refused_if, aimed, named_function, of_break, of_continue, of_repeat, without_continues, past_locals, uses_between, global_use, is_global, assigned}
use Rattle.luau_scope.specs.Locals.{a_require}
use Rattle.module_reading.proofs.Lists.{Has, has_left, has_right, has_either}

-- a static require is a call among some nodes, and its callee is found to be a global
pub record Called (nodes : List Node) (found : List Found) (at : ExprId) : Type 0 where
  pub span : Span
  pub callee : Expr
  pub args : Exprs
  pub node : Has nodes (AnExpr (the_expr at.0 span (Call callee args)))
  pub global : Has found (Means (id_of callee) Global)

pub record Fits (nodes : List Node) (found : List Found) : Type 0 where
  pub called : (site : RequireSite) → Has found (RequiresModule site) → Called nodes found site.at

moved : {xs ys : List Node} {f g : List Found} {at : ExprId} → ((n : Node) → Has xs n → Has ys n) → ((at : ExprId) (meaning : Use) → Has f (Means at meaning) → Has g (Means at meaning)) → Called xs f at → Called ys g at
moved u v o = record { span = o.span; callee = o.callee; args = o.args; node = u _ o.node; global = v _ _ o.global }

-- ---- where nothing is required

none_required : (f : List Found) (site : RequireSite) → filter_map a_require f ≡ [] → Has f (RequiresModule site) → ⊥
none_required [] site e h = h
none_required (RequiresModule other ∷ f) site e h = cc
none_required (Means other its ∷ f) site e (inl q) = cc
none_required (Means other its ∷ f) site e (inr h) = none_required f site e h
none_required (Declares name span function given ∷ f) site e (inl q) = cc
none_required (Declares name span function given ∷ f) site e (inr h) = none_required f site e h
none_required (Captures local ∷ f) site e (inl q) = cc
none_required (Captures local ∷ f) site e (inr h) = none_required f site e h
none_required (Assigns local ∷ f) site e (inl q) = cc
none_required (Assigns local ∷ f) site e (inr h) = none_required f site e h
none_required (Continues place before ∷ f) site e (inl q) = cc
none_required (Continues place before ∷ f) site e (inr h) = none_required f site e h
none_required (Refuses why place ∷ f) site e (inl q) = cc
none_required (Refuses why place ∷ f) site e (inr h) = none_required f site e h

no_require : (nodes : List Node) (f : List Found) → filter_map a_require f ≡ [] → Fits nodes f
no_require nodes f e = record { called = λ site h. absurd (none_required f site e h) }

quiet_nothing : Fits [] []
quiet_nothing = no_require [] [] refl

-- ---- parts one after the other

both_parts : (xs ys : List Node) (f g : List Found) → Fits xs f → Fits ys g → Fits (xs ++ ys) (f ++ g)
both_parts xs ys f g m k = record { called = λ site h. by_part site (has_either f g (RequiresModule site) h) }
  where
    by_part : (site : RequireSite) → Has f (RequiresModule site) ⊎ Has g (RequiresModule site) → Called (xs ++ ys) (f ++ g) site.at
    by_part site (inl h) = moved (λ n. has_left xs ys n) (λ at meaning. has_left f g (Means at meaning)) (m.called site h)
    by_part site (inr h) = moved (λ n. has_right xs ys n) (λ at meaning. has_right f g (Means at meaning)) (k.called site h)

match_join : (xs ys : List Node) (p q : Part) (n : ℕ) → Fits xs (p n) → ((m : ℕ) → Fits ys (q m)) → Fits (xs ++ ys) (join p q n)
unfolding join
match_join xs ys p q n m k = both_parts xs ys (p n) (q (n + declarations (p n))) m (k (n + declarations (p n)))

-- behind a part, one without nodes
match_then_quiet : (xs : List Node) (p q : Part) (n : ℕ) → Fits xs (p n) → ((m : ℕ) → Fits [] (q m)) → Fits xs (join p q n)
match_then_quiet xs p q n m k = record { called = λ site h. moved (λ x j. by_side x (has_either xs [] x j)) (λ at meaning j. j) ((match_join xs [] p q n m k).called site h) }
  where
    by_side : (x : Node) → Has xs x ⊎ Has [] x → Has xs x
    by_side x (inl h) = h
    by_side x (inr h) = absurd h

around_node : (e : Node) (ns : List Node) (f : List Found) → Fits ns f → Fits (e ∷ ns) f
around_node e ns f m = record { called = λ site h. moved (λ n k. inr k) (λ at meaning k. k) (m.called site h) }

past_body : (b : Body) (ns : List Node) (f : List Found) → Fits ns f → Fits (ABody b ∷ ns) f
past_body b ns f m = around_node (ABody b) ns f m

-- nodes that are grouped from the left
left : (xs ys zs : List Node) (f : List Found) → Fits (xs ++ (ys ++ zs)) f → Fits ((xs ++ ys) ++ zs) f
left xs ys zs f m = rw append_assoc m

-- ---- parts that require nothing

quiet_refused : (o : Option Refusal) (at : Span) (n : ℕ) → Fits [] (refused o at n)
quiet_refused None at n = quiet_nothing
quiet_refused (Some why) at n = no_require [] _ refl

quiet_refused_if : (b : Bool) (why : Refusal) (at : Span) (n : ℕ) → Fits [] (refused_if b why at n)
quiet_refused_if true why at n = no_require [] _ refl
quiet_refused_if false why at n = quiet_nothing

quiet_assigned : (earlier : List ℕ) (v : Option Visible) (span : Span) (n : ℕ) → Fits [] (assigned earlier v span n)
quiet_assigned earlier None span n = quiet_nothing
quiet_assigned earlier (Some v) span n = match_join [] [] _ _ n (no_require [] _ refl) (λ m. quiet_refused_if _ _ span m)

quiet_aimed : (a : Around) (earlier : List ℕ) (e : Expr) (n : ℕ) → Fits [] (aimed a earlier e n)
quiet_aimed a earlier e n = match_join [] [] _ _ n (quiet_refused_if _ _ (finds.span_of e) n) (λ m. quiet_assigned earlier (finds.local_of a (kind_of e)) (finds.span_of e) m)

quiet_named_function : (a : Around) (path : Expr) (method : Option (List ℕ)) (n : ℕ) → Fits [] (named_function a path method n)
quiet_named_function a path None n = quiet_aimed a [] path n
quiet_named_function a path (Some method) n = quiet_refused_if _ _ (finds.span_of path) n

quiet_entry : (own : ℕ) (at : Span) (n : ℕ) → Fits [] (of_entry own at n)
quiet_entry own at n = quiet_refused_if (nat_le 200 own) _ at n

quiet_entries : (own : ℕ) (bs : Binds) (n : ℕ) → Fits [] (of_entries own bs n)
quiet_entries own no_binds n = quiet_nothing
quiet_entries own (more_binds b rest) n = match_join [] [] _ _ n (quiet_entry own (declared_span b) n) (λ m. quiet_entries (own + 1) rest m)

quiet_break : (loop : Loop) (at : Span) (n : ℕ) → Fits [] (of_break loop at n)
quiet_break NoLoop at n = no_require [] _ refl
quiet_break RepeatLoop at n = quiet_nothing
quiet_break OtherLoop at n = quiet_nothing

quiet_continue : (loop : Loop) (at : Span) (n : ℕ) → Fits [] (of_continue loop at n)
quiet_continue NoLoop at n = no_require [] _ refl
quiet_continue RepeatLoop at n = no_require [] _ refl
quiet_continue OtherLoop at n = quiet_nothing

quiet_if : (b : Bool) (at : ExprId) (meaning : Use) (n : ℕ) → Fits [] ((if b then one (Means at meaning) else nothing) n)
quiet_if true at meaning n = no_require [] _ refl
quiet_if false at meaning n = quiet_nothing

quiet_path : (a : Around) (at : ExprId) (kind : ExprKind) (field : List ℕ) (n : ℕ) → Fits [] (of_path a at kind field n)
quiet_path a at (NameExpr name) field n = quiet_if (is_global a name && is_one_of a.paths (dotted name field)) at (Builtin (dotted name field)) n
quiet_path a at other field n = quiet_nothing

-- ---- `repeat`

without : (f : List Found) (x : Found) → Has (without_continues f) x → Has f x
without [] x h = h
without (Continues place before ∷ f) x h = inr (without f x h)
without (Means other its ∷ f) x (inl q) = inl q
without (Means other its ∷ f) x (inr h) = inr (without f x h)
without (Declares name span function given ∷ f) x (inl q) = inl q
without (Declares name span function given ∷ f) x (inr h) = inr (without f x h)
without (Captures local ∷ f) x (inl q) = inl q
without (Captures local ∷ f) x (inr h) = inr (without f x h)
without (Assigns local ∷ f) x (inl q) = inl q
without (Assigns local ∷ f) x (inr h) = inr (without f x h)
without (RequiresModule site ∷ f) x (inl q) = inl q
without (RequiresModule site ∷ f) x (inr h) = inr (without f x h)
without (Refuses why place ∷ f) x (inl q) = inl q
without (Refuses why place ∷ f) x (inr h) = inr (without f x h)

stays : (f : List Found) (at : ExprId) (meaning : Use) → Has f (Means at meaning) → Has (without_continues f) (Means at meaning)
stays [] at meaning h = h
stays (Continues place before ∷ f) at meaning (inl q) = cc
stays (Continues place before ∷ f) at meaning (inr h) = stays f at meaning h
stays (Means other its ∷ f) at meaning (inl q) = inl q
stays (Means other its ∷ f) at meaning (inr h) = inr (stays f at meaning h)
stays (Declares name span function given ∷ f) at meaning (inl q) = inl q
stays (Declares name span function given ∷ f) at meaning (inr h) = inr (stays f at meaning h)
stays (Captures local ∷ f) at meaning (inl q) = inl q
stays (Captures local ∷ f) at meaning (inr h) = inr (stays f at meaning h)
stays (Assigns local ∷ f) at meaning (inl q) = inl q
stays (Assigns local ∷ f) at meaning (inr h) = inr (stays f at meaning h)
stays (RequiresModule site ∷ f) at meaning (inl q) = inl q
stays (RequiresModule site ∷ f) at meaning (inr h) = inr (stays f at meaning h)
stays (Refuses why place ∷ f) at meaning (inl q) = inl q
stays (Refuses why place ∷ f) at meaning (inr h) = inr (stays f at meaning h)

past_if : (b : Bool) (at : Span) (why : Refusal) (f : List Found) → filter_map a_require f ≡ [] → filter_map a_require ((if b then Refuses why at ∷ [] else []) ++ f) ≡ []
past_if true at why f e = e
past_if false at why f e = e

past_required : (f until : List Found) (k : ℕ) → filter_map a_require (past_locals f until k) ≡ []
past_required [] until k = refl
past_required (Continues at before ∷ f) until k = past_if (uses_between before k until) at _ _ (past_required f until k)
past_required (Means at meaning ∷ f) until k = past_required f until k
past_required (Declares name span function given ∷ f) until k = past_required f until k
past_required (Captures local ∷ f) until k = past_required f until k
past_required (Assigns local ∷ f) until k = past_required f until k
past_required (RequiresModule site ∷ f) until k = past_required f until k
past_required (Refuses why at ∷ f) until k = past_required f until k

match_repeat : (xs ys : List Node) (body until : List Found) (k : ℕ) → Fits xs body → Fits ys until → Fits (xs ++ ys) (of_repeat body until k)
match_repeat xs ys body until k m u =
    both_parts xs ys (without_continues body) (until ++ past_locals body until k)
    (record { called = λ site h. moved (λ n j. j) (stays body) (m.called site (without body (RequiresModule site) h)) })
    (record { called = λ site h. by_part site (has_either until (past_locals body until k) (RequiresModule site) h) })
  where
    by_part : (site : RequireSite) → Has until (RequiresModule site) ⊎ Has (past_locals body until k) (RequiresModule site) → Called ys (until ++ past_locals body until k) site.at
    by_part site (inl h) = moved (λ n j. j) (λ at meaning. has_left until (past_locals body until k) (Means at meaning)) (u.called site h)
    by_part site (inr h) = absurd (none_required (past_locals body until k) site (past_required body until k) h)

-- ---- names

quiet_capture : (b : Bool) (local n : ℕ) → Fits [] ((if b then nothing else one (Captures local)) n)
quiet_capture true local n = quiet_nothing
quiet_capture false local n = no_require [] _ refl

by_meaning : (a : Around) (at : ExprId) (span : Span) (name : List ℕ) (v : Option Visible) (n : ℕ) → Fits [] (finds.of_meant a at span name v n)
by_meaning a at span name None n = match_join [] [] _ _ n (no_require [] _ refl) (λ m. quiet_refused _ span m)
by_meaning a at span name (Some v) n = match_join [] [] _ _ n (no_require [] _ refl) (λ m. quiet_capture (same_function v.function a.function) v.local m)

a_name : (a : Around) (id : ℕ) (span : Span) (name : List ℕ) (n : ℕ) → Fits (AnExpr (the_expr id span (NameExpr name)) ∷ []) (of_name a (record { 0 = id }) span name n)
a_name a id span name n = around_node _ [] _ (by_meaning a (record { 0 = id }) span name (meant a.scope name) n)

a_field : (a : Around) (id : ℕ) (span : Span) (base : Expr) (field : List ℕ) (q : Part) (n : ℕ) → ((m : ℕ) → Fits (nodes_of_expr base) (q m))
    → Fits (AnExpr (the_expr id span (Index base field)) ∷ nodes_of_expr base) (join (of_path a (record { 0 = id }) (kind_of base) field) q n)
a_field a id span base field q n k = around_node _ _ _ (match_join [] _ _ _ n (quiet_path a (record { 0 = id }) (kind_of base) field n) k)

-- ---- static requires

own_call : (id : ℕ) (span : Span) (callee : Expr) (args : Exprs) (ns : List Node) (text : List ℕ) (n : ℕ)
    → Fits (AnExpr (the_expr id span (Call callee args)) ∷ ns) (of_static (Some text) (record { 0 = id }) span (id_of callee) n)
unfolding join
own_call id span callee args ns text n = record { called = by_place }
  where
    f : List Found
    f = RequiresModule (record { at = record { 0 = id }; span = span; text = text }) ∷ Means (id_of callee) Global ∷ []

    by_place : (site : RequireSite) → Has f (RequiresModule site) → Called (AnExpr (the_expr id span (Call callee args)) ∷ ns) f site.at
    by_place site (inl q) = record {
      span = span;
      callee = callee;
      args = args;
      node = inl (ap (λ (i : ExprId). AnExpr (the_expr i.0 span (Call callee args))) (let z : record { 0 = id } ≡ site.at = cc in z));
      global = inr (inl refl);
    }
    by_place site (inr (inl q)) = cc
    by_place site (inr (inr h)) = absurd h

static_by : (a : Around) (id : ℕ) (span : Span) (args : Exprs) (i : ℕ) (here : Span) (name : List ℕ) (way : Option (List ℕ)) (n : ℕ)
    → Fits (AnExpr (the_expr id span (Call (the_expr i here (NameExpr name)) args)) ∷ AnExpr (the_expr i here (NameExpr name)) ∷ [])
    (join (of_static way (record { 0 = id }) span (record { 0 = i })) (unless (is_some way) (of_name a (record { 0 = i }) here name)) n)
static_by a id span args i here name None n = around_node _ _ _ (match_join [] _ _ _ n quiet_nothing (λ m. a_name a i here name m))
static_by a id span args i here name (Some text) n = match_then_quiet _ _ _ n (own_call id span (the_expr i here (NameExpr name)) args _ text n) (λ m. quiet_nothing)

mutual
  pub block : (a : Around) (x : Block) (n : ℕ) → Fits (nodes_of_block x) (of_block a x n)
  block a no_stats n = quiet_nothing
  block a (more_stats s rest) n = match_join _ _ _ _ n (stat a s n) (λ m. block (in_scope a (behind a s n)) rest m)

  stat : (a : Around) (x : Stat) (n : ℕ) → Fits (nodes_of_stat x) (of_stat a x n)
  stat a (the_stat span kind) n = stat_kind a span kind n

  stat_kind : (a : Around) (span : Span) (x : StatKind) (n : ℕ) → Fits (nodes_of_stat_kind x) (of_stat_kind a span x n)
  stat_kind a span (Assign targets values) n = match_join _ _ _ _ n (the_targets a [] targets n) (λ m. exprs a values m)
  stat_kind a span (Compound target op e) n = match_join _ _ _ _ n (expr a target n) (λ m. match_join [] _ _ _ m (quiet_aimed a [] target m) (λ k. expr a e k))
  stat_kind a span (CallStat e) n = expr a e n
  stat_kind a span (Do body) n = block a body n
  stat_kind a span (While cond body) n = match_join _ _ _ _ n (expr a cond n) (λ m. block (in_loop a OtherLoop) body m)
  stat_kind a span (Repeat body cond) n =
      match_repeat _ _ _ _ _ (block (in_loop a RepeatLoop) body n)
      (expr (in_scope a (behind_block (in_loop a RepeatLoop) body n)) cond (n + declarations (of_block (in_loop a RepeatLoop) body n)))
  stat_kind a span (If list last) n = match_join _ _ _ _ n (the_arms a list n) (λ m. maybe_block a last m)
  stat_kind a span (NumFor b from to step body) n =
      let looped : Part = of_block (in_loop (in_scope a (with_bind a b n)) OtherLoop) body in
      let entry : Part = of_entry (own_locals a) (declared_span b) in
      left ((nodes_of_bind b ++ nodes_of_expr from) ++ nodes_of_expr to) (nodes_of_maybe_expr step) (nodes_of_block body) _
      (left (nodes_of_bind b ++ nodes_of_expr from) (nodes_of_expr to) (nodes_of_maybe_expr step ++ nodes_of_block body) _
      (left (nodes_of_bind b) (nodes_of_expr from) (nodes_of_expr to ++ (nodes_of_maybe_expr step ++ nodes_of_block body)) _
      (match_join _ _ (of_bind a None b) (of_expr a from then of_expr a to then of_maybe_expr a step then entry then looped) n (bind a None b n)
      (λ m. match_join _ _ (of_expr a from) (of_expr a to then of_maybe_expr a step then entry then looped) m (expr a from m)
      (λ m. match_join _ _ (of_expr a to) (of_maybe_expr a step then entry then looped) m (expr a to m)
      (λ m. match_join _ _ (of_maybe_expr a step) (entry then looped) m (maybe_expr a step m)
      (λ m. match_join [] _ entry looped m (quiet_entry (own_locals a) (declared_span b) m)
      (λ m. block (in_loop (in_scope a (with_bind a b n)) OtherLoop) body m))))))))
  stat_kind a span (GenFor bs values body) n =
      left (nodes_of_binds bs) (nodes_of_exprs values) (nodes_of_block body) _ (match_join _ _ _ _ n (the_binds a bs no_exprs n) (λ m. match_join _ _ _ _ m (exprs a values m)
      (λ m. match_join [] _ _ _ m (quiet_entries (own_locals a) bs m)
      (λ m. block (in_loop (in_scope a (a.scope ++ numbered a bs n)) OtherLoop) body m))))
  stat_kind a span (FunctionStat path method b) n =
      match_join _ _ _ _ n (expr a path n) (λ m. match_join [] _ _ _ m (quiet_named_function a path method m) (λ k. a_body a b k))
  stat_kind a span (LocalFunction name b) n = match_join _ _ _ _ n (own_bind a name n) (λ m. a_body (in_scope a (with_bind a name n)) b m)
  stat_kind a span (Local bs values) n =
      match_join _ _ _ _ n (the_binds a bs values n) (λ m. match_then_quiet _ _ _ m (exprs a values m) (λ k. quiet_entries (own_locals a) bs k))
  stat_kind a span (TypeAlias exported name generics typ) n = match_join _ _ _ _ n (the_gens a generics n) (λ m. a_written a typ m)
  stat_kind a span (TypeFunction exported name b) n = match_join [] _ _ _ n (no_require _ _ refl) (λ m. a_body a b m)
  stat_kind a span (Return values) n = exprs a values n
  stat_kind a span Break n = quiet_break a.loop span n
  stat_kind a span Continue n = quiet_continue a.loop span n

  the_targets : (a : Around) (earlier : List ℕ) (x : Exprs) (n : ℕ) → Fits (nodes_of_exprs x) (of_targets a earlier x n)
  the_targets a earlier no_exprs n = quiet_nothing
  the_targets a earlier (more_exprs e rest) n =
      match_join _ _ _ _ n (expr a e n) (λ m. match_join [] _ _ _ m (quiet_aimed a earlier e m) (λ k. the_targets a (earlier ++ finds.target_local a e) rest k))

  the_arms : (a : Around) (x : Arms) (n : ℕ) → Fits (nodes_of_arms x) (of_arms a x n)
  the_arms a no_arms n = quiet_nothing
  the_arms a (more_arms cond body rest) n = left (nodes_of_expr cond) (nodes_of_block body) (nodes_of_arms rest) _ (match_join _ _ _ _ n (expr a cond n) (λ m. match_join _ _ _ _ m (block a body m) (λ k. the_arms a rest k)))

  maybe_block : (a : Around) (x : MaybeBlock) (n : ℕ) → Fits (nodes_of_maybe_block x) (of_maybe_block a x n)
  maybe_block a no_block n = quiet_nothing
  maybe_block a (a_block body) n = block a body n

  the_binds : (a : Around) (x : Binds) (values : Exprs) (n : ℕ) → Fits (nodes_of_binds x) (of_binds a x values n)
  the_binds a no_binds values n = quiet_nothing
  the_binds a (more_binds b rest) values n = match_join _ _ _ _ n (bind a (finds.first_value values) b n) (λ m. the_binds a rest (finds.other_values values) m)

  bind : (a : Around) (given : Option ExprId) (x : Bind) (n : ℕ) → Fits (nodes_of_bind x) (of_bind a given x n)
  bind a given (the_bind name span typ) n =
      match_join (ABind (the_bind name span typ) ∷ []) _ _ _ n (no_require _ _ refl) (λ m. maybe_type a typ m)

  own_bind : (a : Around) (x : Bind) (n : ℕ) → Fits (nodes_of_bind x) (of_own_bind a x n)
  own_bind a (the_bind name span typ) n =
      match_join (ABind (the_bind name span typ) ∷ []) _ _ _ n (no_require _ _ refl)
      (λ m. match_join [] _ _ _ m (quiet_entry (own_locals a) span m) (λ k. maybe_type (in_scope a (a.scope ++ finds.local_here a name n ∷ [])) typ k))

  params : (a : Around) (x : Binds) (n : ℕ) → Fits (nodes_of_binds x) (of_params a x n)
  params a no_binds n = quiet_nothing
  params a (more_binds b rest) n = match_join _ _ _ _ n (own_bind a b n) (λ m. params (in_scope a (with_bind a b n)) rest m)

  expr : (a : Around) (x : Expr) (n : ℕ) → Fits (nodes_of_expr x) (of_expr a x n)
  expr a (the_expr id span kind) n = expr_kind a id span kind n

  exprs : (a : Around) (x : Exprs) (n : ℕ) → Fits (nodes_of_exprs x) (of_exprs a x n)
  exprs a no_exprs n = quiet_nothing
  exprs a (more_exprs e rest) n = match_join _ _ _ _ n (expr a e n) (λ m. exprs a rest m)

  maybe_expr : (a : Around) (x : MaybeExpr) (n : ℕ) → Fits (nodes_of_maybe_expr x) (of_maybe_expr a x n)
  maybe_expr a no_expr n = quiet_nothing
  maybe_expr a (an_expr e) n = expr a e n

  expr_kind : (a : Around) (id : ℕ) (span : Span) (x : ExprKind) (n : ℕ) → Fits (AnExpr (the_expr id span x) ∷ nodes_of_expr_kind x) (of_expr_kind a (record { 0 = id }) span x n)
  expr_kind a id span NilExpr n = around_node _ [] [] quiet_nothing
  expr_kind a id span TrueExpr n = around_node _ [] [] quiet_nothing
  expr_kind a id span FalseExpr n = around_node _ [] [] quiet_nothing
  expr_kind a id span (NumberExpr text) n = around_node _ [] [] quiet_nothing
  expr_kind a id span (StrExpr bytes) n = around_node _ [] [] quiet_nothing
  expr_kind a id span Vararg n = around_node _ [] _ (quiet_refused_if _ _ span n)
  expr_kind a id span (FunctionExpr b) n = around_node _ _ _ (a_body a b n)
  expr_kind a id span (NameExpr name) n = a_name a id span name n
  expr_kind a id span (Index base field) n = a_field a id span base field (of_expr a base) n (λ m. expr a base m)
  expr_kind a id span (At base key) n = around_node _ _ _ (match_join _ _ _ _ n (expr a base n) (λ m. expr a key m))
  expr_kind a id span (Call callee args) n = match_join (AnExpr (the_expr id span (Call callee args)) ∷ nodes_of_expr callee) (nodes_of_exprs args) _ _ n (the_callee a id span args callee n) (λ m. exprs a args m)
  expr_kind a id span (Method base name name_span args) n = around_node _ _ _ (match_join _ _ _ _ n (expr a base n) (λ m. exprs a args m))
  expr_kind a id span (Paren e) n = around_node _ _ _ (expr a e n)
  expr_kind a id span (Unary op e) n = around_node _ _ _ (expr a e n)
  expr_kind a id span (Binary op left right) n = around_node _ _ _ (match_join _ _ _ _ n (expr a left n) (λ m. expr a right m))
  expr_kind a id span (IfElse list last) n = around_node _ _ _ (match_join _ _ _ _ n (choices a list n) (λ m. expr a last m))
  expr_kind a id span (TableExpr list) n = around_node _ _ _ (the_items a list n)
  expr_kind a id span (Interp texts parts) n = around_node _ _ _ (exprs a parts n)
  expr_kind a id span (Assert e typ) n = around_node _ _ _ (match_join _ _ _ _ n (expr a e n) (λ m. a_written a typ m))

  the_callee : (a : Around) (id : ℕ) (span : Span) (args : Exprs) (x : Expr) (n : ℕ)
      → Fits (AnExpr (the_expr id span (Call x args)) ∷ nodes_of_expr x)
      (join (of_static (required_way a (kind_of x) args) (record { 0 = id }) span (id_of x)) (unless (is_some (required_way a (kind_of x) args)) (of_expr a x)) n)
  the_callee a id span args (the_expr i here (NameExpr name)) n = static_by a id span args i here name (required_way a (NameExpr name) args) n
  the_callee a id span args (the_expr i here other) n = around_node _ _ _ (match_join [] _ _ _ n quiet_nothing (λ m. expr_kind a i here other m))

  choices : (a : Around) (x : Choices) (n : ℕ) → Fits (nodes_of_choices x) (of_choices a x n)
  choices a no_choices n = quiet_nothing
  choices a (more_choices cond e rest) n = left (nodes_of_expr cond) (nodes_of_expr e) (nodes_of_choices rest) _ (match_join _ _ _ _ n (expr a cond n) (λ m. match_join _ _ _ _ m (expr a e m) (λ k. choices a rest k)))

  the_items : (a : Around) (x : Items) (n : ℕ) → Fits (nodes_of_items x) (of_items a x n)
  the_items a no_items n = quiet_nothing
  the_items a (more_items i rest) n = match_join _ _ _ _ n (item a i n) (λ m. the_items a rest m)

  item : (a : Around) (x : Item) (n : ℕ) → Fits (nodes_of_item x) (of_item a x n)
  item a (Field name e) n = expr a e n
  item a (Keyed key e) n = match_join _ _ _ _ n (expr a key n) (λ m. expr a e m)
  item a (Plain e) n = expr a e n

  a_body : (a : Around) (x : Body) (n : ℕ) → Fits (nodes_of_body x) (of_body a x n)
  a_body a (the_body id has_self generics ps vararg returned code span) n =
      let inner = in_body a id vararg in
      let within = in_scope inner (behind_params inner ps (n + declarations (of_gens inner generics n))) in
      past_body _ _ _
      (left ((nodes_of_gens generics ++ nodes_of_binds ps) ++ nodes_of_varargs vararg) (nodes_of_maybe_type returned) (nodes_of_block code) _
      (left (nodes_of_gens generics ++ nodes_of_binds ps) (nodes_of_varargs vararg) (nodes_of_maybe_type returned ++ nodes_of_block code) _
      (left (nodes_of_gens generics) (nodes_of_binds ps) (nodes_of_varargs vararg ++ (nodes_of_maybe_type returned ++ nodes_of_block code)) _
      (match_join _ _ (of_gens inner generics) (of_params inner ps then of_varargs within vararg then of_maybe_type within returned then of_block within code) n (the_gens inner generics n)
      (λ m. match_join _ _ (of_params inner ps) (of_varargs within vararg then of_maybe_type within returned then of_block within code) m (params inner ps m)
      (λ m. match_join _ _ (of_varargs within vararg) (of_maybe_type within returned then of_block within code) m (the_varargs within vararg m)
      (λ m. match_join _ _ (of_maybe_type within returned) (of_block within code) m (maybe_type within returned m) (λ m. block within code m))))))))

  the_varargs : (a : Around) (x : Varargs) (n : ℕ) → Fits (nodes_of_varargs x) (of_varargs a x n)
  the_varargs a no_varargs n = quiet_nothing
  the_varargs a (varargs typ) n = maybe_type a typ n

  the_gens : (a : Around) (x : Gens) (n : ℕ) → Fits (nodes_of_gens x) (of_gens a x n)
  the_gens a no_gens n = quiet_nothing
  the_gens a (more_gens g rest) n = match_join _ _ _ _ n (a_gen a g n) (λ m. the_gens a rest m)

  a_gen : (a : Around) (x : Gen) (n : ℕ) → Fits (nodes_of_gen x) (of_gen a x n)
  a_gen a (the_gen name span pack default) n = match_join [] _ _ _ n (quiet_refused_if pack _ span n) (λ m. maybe_type a default m)

  a_written : (a : Around) (x : TypeSyntax) (n : ℕ) → Fits (nodes_of_type x) (of_type a x n)
  a_written a (the_type span kind) n = type_kind a span kind n

  types : (a : Around) (x : TypeSyntaxes) (n : ℕ) → Fits (nodes_of_types x) (of_types a x n)
  types a no_types n = quiet_nothing
  types a (more_types typ rest) n = match_join _ _ _ _ n (a_written a typ n) (λ m. types a rest m)

  maybe_type : (a : Around) (x : MaybeType) (n : ℕ) → Fits (nodes_of_maybe_type x) (of_maybe_type a x n)
  maybe_type a no_type n = quiet_nothing
  maybe_type a (a_type typ) n = a_written a typ n

  type_kind : (a : Around) (span : Span) (x : TypeKind) (n : ℕ) → Fits (nodes_of_type_kind x) (of_type_kind a span x n)
  type_kind a span NilType n = quiet_nothing
  type_kind a span (BoolType truth) n = quiet_nothing
  type_kind a span (StrType bytes) n = quiet_nothing
  type_kind a span (Named prefix name args) n = types a args n
  type_kind a span (Typeof e) n = expr a e n
  type_kind a span (Array typ) n = a_written a typ n
  type_kind a span (TableType props) n = the_props a props n
  type_kind a span (Func generics ps returned) n = left (nodes_of_gens generics) (nodes_of_types ps) (nodes_of_type returned) _ (match_join _ _ _ _ n (the_gens a generics n) (λ m. match_join _ _ _ _ m (types a ps m) (λ k. a_written a returned k)))
  type_kind a span (Union list) n = types a list n
  type_kind a span (Meet list) n = types a list n
  type_kind a span (Optional typ) n = a_written a typ n
  type_kind a span (Pack list) n = types a list n
  type_kind a span (Variadic typ) n = a_written a typ n
  type_kind a span (GenericPack name) n = no_require _ _ refl

  the_props : (a : Around) (x : Props) (n : ℕ) → Fits (nodes_of_props x) (of_props a x n)
  the_props a no_props n = quiet_nothing
  the_props a (more_props p rest) n = match_join _ _ _ _ n (prop a p n) (λ m. the_props a rest m)

  prop : (a : Around) (x : Prop) (n : ℕ) → Fits (nodes_of_prop x) (of_prop a x n)
  prop a (the_prop access key typ) n = match_join _ _ _ _ n (a_key a key n) (λ m. a_written a typ m)

  a_key : (a : Around) (x : PropKey) (n : ℕ) → Fits (nodes_of_prop_key x) (of_key a x n)
  a_key a (NameKey name) n = quiet_nothing
  a_key a (Indexer typ) n = a_written a typ n
