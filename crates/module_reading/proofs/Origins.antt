-- Each meaning that is found is that of an expression that may have it.
use Rattle.std.proofs.Common.{◌≡◌, ℕ, ◌+◌, Bool, true, false, not, ◌&&◌, ◌||◌, List, [], ◌∷◌, ◌++◌, refl, ap, ◌∙◌, subst, append_assoc, inl, inr}
use Rattle.std.specs.Prelude.{◌⊎◌, Option, Some, None, if◌then◌else◌}
use Rattle.std.specs.Option.{is_some}
use Rattle.luau_tree.specs.declared.position.Span.{Span}
use Rattle.luau_tree.specs.declared.names.ExprId.{ExprId}
use Rattle.luau_tree.specs.Tree.{Block, no_stats, more_stats, Stat, the_stat, StatKind, Assign, Compound, CallStat, Do, While, Repeat, If, NumFor, GenFor, FunctionStat, LocalFunction, Local, TypeAlias, TypeFunction, Return, Break, Continue, Arms, no_arms, more_arms, MaybeBlock, no_block, a_block, Expr, the_expr, Exprs, no_exprs, more_exprs, MaybeExpr, no_expr, an_expr, ExprKind, NilExpr, TrueExpr, FalseExpr, NumberExpr, StrExpr, Vararg, FunctionExpr, NameExpr, Index, At, Call, Method, Paren, Unary, Binary, IfElse, TableExpr, Interp, Assert, Choices, no_choices, more_choices, Item, Field, Keyed, Plain, Items, no_items, more_items, Body, the_body, Varargs, no_varargs, varargs, Bind, the_bind, Binds, no_binds, more_binds, Gen, the_gen, Gens, no_gens, more_gens, TypeSyntax, the_type, TypeSyntaxes, no_types, more_types, MaybeType, no_type, a_type, TypeKind, NilType, BoolType, StrType, Named, Typeof, Array, TableType, Func, Union, Meet, Optional, Pack, Variadic, GenericPack, Prop, the_prop, Props, no_props, more_props, PropKey, NameKey, Indexer}
use Rattle.luau_tree.specs.Nodes.{Node, AnExpr, ABody, ABind, nodes_of_block, nodes_of_stat, nodes_of_stat_kind, nodes_of_arms, nodes_of_maybe_block, nodes_of_expr, nodes_of_exprs, nodes_of_maybe_expr, nodes_of_expr_kind, nodes_of_choices, nodes_of_items, nodes_of_item, nodes_of_body, nodes_of_varargs, nodes_of_bind, nodes_of_binds, nodes_of_gen, nodes_of_gens, nodes_of_type, nodes_of_types, nodes_of_maybe_type, nodes_of_type_kind, nodes_of_props, nodes_of_prop, nodes_of_prop_key}
use Rattle.luau_scope.specs.declared.refusal.Refusal.{Refusal}
use Rattle.luau_scope.specs.declared.reading.Use.{Use}
use Rattle.luau_scope.specs.declared.reading.Use.TheVariants.{Local as LocalUse, Builtin, Library, Global}
use Rattle.luau_scope.specs.Names.{is_one_of, dotted, is_library, is_require}
use Rattle.luau_scope.specs.Found.{Found, Declares, Means, Captures, Assigns, RequiresModule, Continues, Refuses, declarations, Part, nothing, one, join, ◌then◌, Visible, Around, Loop, RepeatLoop, OtherLoop, meant, same_function}
use Rattle.luau_scope.specs.Finds as finds
use Rattle.luau_scope.specs.Finds.{of_block, of_stat, of_stat_kind, of_targets, of_arms, of_maybe_block, of_binds, of_bind, of_expr, of_exprs, of_maybe_expr, of_expr_kind, of_choices, of_items, of_item, of_body, of_own_bind, of_params, of_varargs, of_gens, of_gen, of_type, of_types, of_maybe_type, of_type_kind, of_props, of_prop, of_key, of_name, of_path, of_static, unless, required_way, id_of, kind_of, in_scope, in_loop, in_body, with_bind, of_entry, of_entries, behind, behind_block, behind_params, numbered, own_locals, declared_span, refused, refused_if, aimed, named_function, of_break, of_continue, of_repeat, without_continues, past_locals, uses_between, global_use, is_global, is_fixed, loads_modules}
use Rattle.luau_scope.specs.Laws.{Within}
use Rattle.luau_scope.specs.Laws as within
use Rattle.luau_scope.proofs.Matches.{Match, met}
use Rattle.luau_scope.proofs.Matches as matches
use Rattle.luau_run.specs.ReadFolder.{name_of, spelled}
use Rattle.module_reading.proofs.Lists.{Has, has_left, has_right, has_either}

-- what an expression may mean over the paths of the declared builtins: a local, a builtin by its path, a library, or a global
-- that is neither
abbrev pub Stands : List (List ℕ) → ExprKind → Use → Type 0
Stands paths kind (LocalUse local) = (name : List ℕ) × (name_of kind ≡ Some name)
Stands paths kind (Builtin path) = (spelled kind ≡ Some path) × (is_one_of paths path ≡ true)
Stands paths kind Library = (name : List ℕ) × (name_of kind ≡ Some name) × (is_library paths name ≡ true)
Stands paths kind Global = (name : List ℕ) × (name_of kind ≡ Some name) × (is_one_of paths name ≡ false) × (is_library paths name ≡ false)

-- an expression among some nodes has a meaning
pub record Origin (paths : List (List ℕ)) (nodes : List Node) (at : ExprId) (meaning : Use) : Type 0 where
  pub span : Span
  pub kind : ExprKind
  pub node : Has nodes (AnExpr (the_expr at.0 span kind))
  pub stands : Stands paths kind meaning

pub record Fits (paths : List (List ℕ)) (nodes : List Node) (found : List Found) : Type 0 where
  pub origin : (at : ExprId) (meaning : Use) → Has found (Means at meaning) → Origin paths nodes at meaning

moved : {paths : List (List ℕ)} {xs ys : List Node} {at : ExprId} {meaning : Use} → ((n : Node) → Has xs n → Has ys n) → Origin paths xs at meaning → Origin paths ys at meaning
moved f o = record { span = o.span; kind = o.kind; node = f _ o.node; stands = o.stands }

-- ---- where nothing has a meaning

none_met : (f : List Found) (at : ExprId) (meaning : Use) → met f ≡ [] → Has f (Means at meaning) → ⊥
none_met [] at meaning e h = h
none_met (Means other its ∷ f) at meaning e h = cc
none_met (Declares name span function given ∷ f) at meaning e (inl q) = cc
none_met (Declares name span function given ∷ f) at meaning e (inr h) = none_met f at meaning e h
none_met (Captures local ∷ f) at meaning e (inl q) = cc
none_met (Captures local ∷ f) at meaning e (inr h) = none_met f at meaning e h
none_met (Assigns local ∷ f) at meaning e (inl q) = cc
none_met (Assigns local ∷ f) at meaning e (inr h) = none_met f at meaning e h
none_met (RequiresModule site ∷ f) at meaning e (inl q) = cc
none_met (RequiresModule site ∷ f) at meaning e (inr h) = none_met f at meaning e h
none_met (Continues place before ∷ f) at meaning e (inl q) = cc
none_met (Continues place before ∷ f) at meaning e (inr h) = none_met f at meaning e h
none_met (Refuses why place ∷ f) at meaning e (inl q) = cc
none_met (Refuses why place ∷ f) at meaning e (inr h) = none_met f at meaning e h

no_meaning : {paths : List (List ℕ)} (nodes : List Node) (f : List Found) → met f ≡ [] → Fits paths nodes f
no_meaning nodes f e = record { origin = λ at meaning h. absurd (none_met f at meaning e h) }

within_nothing : {xs : List ℕ} → Within xs [] → xs ≡ []
within_nothing within.none = refl

silent : {paths : List (List ℕ)} {f : List Found} → Match [] f → Fits paths [] f
silent {f = f} m = no_meaning [] f (within_nothing m.numbers)

quiet_nothing : {paths : List (List ℕ)} → Fits paths [] []
quiet_nothing = no_meaning [] [] refl

quiet_refused : {paths : List (List ℕ)} (o : Option Refusal) (at : Span) (n : ℕ) → Fits paths [] (refused o at n)
quiet_refused o at n = silent (matches.quiet_refused o at n)

quiet_refused_if : {paths : List (List ℕ)} (b : Bool) (why : Refusal) (at : Span) (n : ℕ) → Fits paths [] (refused_if b why at n)
quiet_refused_if b why at n = silent (matches.quiet_refused_if b why at n)

quiet_aimed : {paths : List (List ℕ)} (a : Around) (earlier : List ℕ) (e : Expr) (n : ℕ) → Fits paths [] (aimed a earlier e n)
quiet_aimed a earlier e n = silent (matches.quiet_aimed a earlier e n)

quiet_named_function : {paths : List (List ℕ)} (a : Around) (path : Expr) (method : Option (List ℕ)) (n : ℕ) → Fits paths [] (named_function a path method n)
quiet_named_function a path method n = silent (matches.quiet_named_function a path method n)

quiet_entry : {paths : List (List ℕ)} (own : ℕ) (at : Span) (n : ℕ) → Fits paths [] (of_entry own at n)
quiet_entry own at n = silent (matches.quiet_entry own at n)

quiet_entries : {paths : List (List ℕ)} (own : ℕ) (bs : Binds) (n : ℕ) → Fits paths [] (of_entries own bs n)
quiet_entries own bs n = silent (matches.quiet_entries own bs n)

quiet_break : {paths : List (List ℕ)} (loop : Loop) (at : Span) (n : ℕ) → Fits paths [] (of_break loop at n)
quiet_break loop at n = silent (matches.quiet_break loop at n)

quiet_continue : {paths : List (List ℕ)} (loop : Loop) (at : Span) (n : ℕ) → Fits paths [] (of_continue loop at n)
quiet_continue loop at n = silent (matches.quiet_continue loop at n)

-- ---- parts one after the other

both_parts : {paths : List (List ℕ)} (xs ys : List Node) (f g : List Found) → Fits paths xs f → Fits paths ys g → Fits paths (xs ++ ys) (f ++ g)
both_parts {paths = paths} xs ys f g m k = record { origin = λ at meaning h. by_part at meaning (has_either f g (Means at meaning) h) }
  where
    by_part : (at : ExprId) (meaning : Use) → Has f (Means at meaning) ⊎ Has g (Means at meaning) → Origin paths (xs ++ ys) at meaning
    by_part at meaning (inl h) = moved (λ n. has_left xs ys n) (m.origin at meaning h)
    by_part at meaning (inr h) = moved (λ n. has_right xs ys n) (k.origin at meaning h)

match_join : {paths : List (List ℕ)} (xs ys : List Node) (p q : Part) (n : ℕ) → Fits paths xs (p n) → ((m : ℕ) → Fits paths ys (q m)) → Fits paths (xs ++ ys) (join p q n)
unfolding join
match_join xs ys p q n m k = both_parts xs ys (p n) (q (n + declarations (p n))) m (k (n + declarations (p n)))

-- behind a part, one without nodes
match_then_quiet : {paths : List (List ℕ)} (xs : List Node) (p q : Part) (n : ℕ) → Fits paths xs (p n) → ((m : ℕ) → Fits paths [] (q m)) → Fits paths xs (join p q n)
match_then_quiet {paths = paths} xs p q n m k = record { origin = λ at meaning h. moved (λ x h. by_side x (has_either xs [] x h)) ((match_join xs [] p q n m k).origin at meaning h) }
  where
    by_side : (x : Node) → Has xs x ⊎ Has [] x → Has xs x
    by_side x (inl h) = h
    by_side x (inr h) = absurd h

around_node : {paths : List (List ℕ)} (e : Node) (ns : List Node) (f : List Found) → Fits paths ns f → Fits paths (e ∷ ns) f
around_node e ns f m = record { origin = λ at meaning h. moved (λ n k. inr k) (m.origin at meaning h) }

past_body : {paths : List (List ℕ)} (b : Body) (ns : List Node) (f : List Found) → Fits paths ns f → Fits paths (ABody b ∷ ns) f
past_body b ns f m = around_node (ABody b) ns f m

-- nodes that are grouped from the left
left : {paths : List (List ℕ)} (xs ys zs : List Node) (f : List Found) → Fits paths (xs ++ (ys ++ zs)) f → Fits paths ((xs ++ ys) ++ zs) f
left xs ys zs f m = rw append_assoc m

-- ---- `repeat`

without : (f : List Found) (at : ExprId) (meaning : Use) → Has (without_continues f) (Means at meaning) → Has f (Means at meaning)
without [] at meaning h = h
without (Means other its ∷ f) at meaning (inl q) = inl q
without (Means other its ∷ f) at meaning (inr h) = inr (without f at meaning h)
without (Declares name span function given ∷ f) at meaning (inl q) = inl q
without (Declares name span function given ∷ f) at meaning (inr h) = inr (without f at meaning h)
without (Captures local ∷ f) at meaning (inl q) = inl q
without (Captures local ∷ f) at meaning (inr h) = inr (without f at meaning h)
without (Assigns local ∷ f) at meaning (inl q) = inl q
without (Assigns local ∷ f) at meaning (inr h) = inr (without f at meaning h)
without (RequiresModule site ∷ f) at meaning (inl q) = inl q
without (RequiresModule site ∷ f) at meaning (inr h) = inr (without f at meaning h)
without (Continues place before ∷ f) at meaning h = inr (without f at meaning h)
without (Refuses why place ∷ f) at meaning (inl q) = inl q
without (Refuses why place ∷ f) at meaning (inr h) = inr (without f at meaning h)

past_if : (b : Bool) (at : Span) (why : Refusal) (f : List Found) → met f ≡ [] → met ((if b then Refuses why at ∷ [] else []) ++ f) ≡ []
past_if true at why f e = e
past_if false at why f e = e

past_met : (f until : List Found) (k : ℕ) → met (past_locals f until k) ≡ []
past_met [] until k = refl
past_met (Continues at before ∷ f) until k = past_if (uses_between before k until) at _ _ (past_met f until k)
past_met (Means at meaning ∷ f) until k = past_met f until k
past_met (Declares name span function given ∷ f) until k = past_met f until k
past_met (Captures local ∷ f) until k = past_met f until k
past_met (Assigns local ∷ f) until k = past_met f until k
past_met (RequiresModule site ∷ f) until k = past_met f until k
past_met (Refuses why at ∷ f) until k = past_met f until k

match_repeat : {paths : List (List ℕ)} (xs ys : List Node) (body until : List Found) (k : ℕ) → Fits paths xs body → Fits paths ys until → Fits paths (xs ++ ys) (of_repeat body until k)
match_repeat {paths = paths} xs ys body until k m u =
    both_parts xs ys (without_continues body) (until ++ past_locals body until k) (record { origin = λ at meaning h. m.origin at meaning (without body at meaning h) })
    (record { origin = λ at meaning h. by_part at meaning (has_either until (past_locals body until k) (Means at meaning) h) })
  where
    by_part : (at : ExprId) (meaning : Use) → Has until (Means at meaning) ⊎ Has (past_locals body until k) (Means at meaning) → Origin paths ys at meaning
    by_part at meaning (inl h) = u.origin at meaning h
    by_part at meaning (inr h) = absurd (none_met (past_locals body until k) at meaning (past_met body until k) h)

-- ---- names

-- the nodes of an expression that is a name
abbrev name_node : ℕ → Span → List ℕ → List Node
name_node id span name = AnExpr (the_expr id span (NameExpr name)) ∷ []

one_use : {paths : List (List ℕ)} (e : Node) (ns : List Node) (id : ℕ) (span : Span) (kind : ExprKind) (meaning : Use) (f : List Found) → e ≡ AnExpr (the_expr id span kind) → Stands paths kind meaning
    → Fits paths ns f → Fits paths (e ∷ ns) (Means (record { 0 = id }) meaning ∷ f)
one_use {paths = paths} e ns id span kind meaning f same s m = record { origin = by_place }
  where
    by_place : (at : ExprId) (other : Use) → (Means (record { 0 = id }) meaning ≡ Means at other) ⊎ Has f (Means at other) → Origin paths (e ∷ ns) at other
    by_place at other (inl q) = record {
      span = span;
      kind = kind;
      node = inl (same ∙ ap (λ (i : ExprId). AnExpr (the_expr i.0 span kind)) (let z : record { 0 = id } ≡ at = cc in z));
      stands = subst (λ (x : Use). Stands paths kind x) (let z : meaning ≡ other = cc in z) s;
    }
    by_place at other (inr h) = moved (λ n k. inr k) (m.origin at other h)

global_stands : (paths : List (List ℕ)) (name : List ℕ) → Stands paths (NameExpr name) (global_use paths name)
global_stands paths name = by_tests (is_one_of paths name) (is_library paths name) refl refl
  where
    by_tests : (b c : Bool) → is_one_of paths name ≡ b → is_library paths name ≡ c → Stands paths (NameExpr name) (if b then Builtin name else if c then Library else Global)
    by_tests true c p q = (refl, p)
    by_tests false true p q = (name, refl, q)
    by_tests false false p q = (name, refl, p, q)

quiet_capture : {paths : List (List ℕ)} (b : Bool) (local n : ℕ) → Fits paths [] ((if b then nothing else one (Captures local)) n)
quiet_capture true local n = quiet_nothing
quiet_capture false local n = no_meaning [] (Captures local ∷ []) refl

by_meaning : (a : Around) (id : ℕ) (span : Span) (name : List ℕ) (v : Option Visible) (n : ℕ) → Fits a.paths (name_node id span name) (finds.of_meant a (record { 0 = id }) span name v n)
by_meaning a id span name None n =
    match_then_quiet _ _ _ n (one_use _ [] id span (NameExpr name) (global_use a.paths name) [] refl (global_stands a.paths name) quiet_nothing) (λ m. quiet_refused _ span m)
by_meaning a id span name (Some v) n =
    match_then_quiet _ _ _ n (one_use _ [] id span (NameExpr name) (LocalUse (record { 0 = v.local })) [] refl (name, refl) quiet_nothing) (λ m. quiet_capture (same_function v.function a.function) v.local m)

a_name : (a : Around) (id : ℕ) (span : Span) (name : List ℕ) (n : ℕ) → Fits a.paths (name_node id span name) (of_name a (record { 0 = id }) span name n)
a_name a id span name n = by_meaning a id span name (meant a.scope name) n

field_by : {paths : List (List ℕ)} (b : Bool) (id : ℕ) (span : Span) (base : Expr) (field : List ℕ) (meaning : Use) (q : Part) (n : ℕ) → (b ≡ true → Stands paths (Index base field) meaning) → ((m : ℕ) → Fits paths (nodes_of_expr base) (q m))
    → Fits paths (AnExpr (the_expr id span (Index base field)) ∷ nodes_of_expr base) (join (if b then one (Means (record { 0 = id }) meaning) else nothing) q n)
unfolding join
field_by true id span base field meaning q n s k = one_use _ _ id span (Index base field) meaning _ refl (s refl) (k (n + 0))
field_by false id span base field meaning q n s k = around_node _ _ _ (k (n + 0))

second : (a b : Bool) → (a && b) ≡ true → b ≡ true
second true b e = e
second false b e = cc

a_field : (a : Around) (id : ℕ) (span : Span) (base : Expr) (field : List ℕ) (q : Part) (n : ℕ) → ((m : ℕ) → Fits a.paths (nodes_of_expr base) (q m))
    → Fits a.paths (AnExpr (the_expr id span (Index base field)) ∷ nodes_of_expr base) (join (of_path a (record { 0 = id }) (kind_of base) field) q n)
a_field a id span (the_expr i s (NameExpr name)) field q n k =
    field_by (is_global a name && is_one_of a.paths (dotted name field)) id span (the_expr i s (NameExpr name)) field (Builtin (dotted name field)) q n
    (λ e. (refl, second (is_global a name) (is_one_of a.paths (dotted name field)) e)) k
a_field a id span (the_expr i s other) field q n k = field_by false id span (the_expr i s other) field Global q n (λ e. cc) k

-- the callee of a static require is the global
loads_stands : (a : Around) (name : List ℕ) → loads_modules a (NameExpr name) ≡ true → Stands a.paths (NameExpr name) Global
loads_stands a name e = by_tests (is_require name) (is_global a name) (is_one_of a.paths name) (is_library a.paths name) refl refl e
  where
    by_tests : (r g b c : Bool) → is_one_of a.paths name ≡ b → is_library a.paths name ≡ c → (r && g && not (g && (b || c))) ≡ true → Stands a.paths (NameExpr name) Global
    by_tests true true true c p q e = cc
    by_tests true true false true p q e = cc
    by_tests true true false false p q e = (name, refl, p, q)
    by_tests true false b c p q e = cc
    by_tests false g b c p q e = cc

way_loads : (a : Around) (name : List ℕ) (args : Exprs) (text : List ℕ) → required_way a (NameExpr name) args ≡ Some text → loads_modules a (NameExpr name) ≡ true
way_loads a name args text e = by_test (loads_modules a (NameExpr name)) refl e
  where
    by_test : (b : Bool) → loads_modules a (NameExpr name) ≡ b → (if b then finds.way_in (finds.only_string args) else None) ≡ Some text → loads_modules a (NameExpr name) ≡ true
    by_test true q k = q
    by_test false q k = cc

static_by : (a : Around) (at : ExprId) (span : Span) (id : ℕ) (here : Span) (name : List ℕ) (way : Option (List ℕ)) (n : ℕ)
    → ((text : List ℕ) → way ≡ Some text → Stands a.paths (NameExpr name) Global)
    → Fits a.paths (name_node id here name) (join (of_static way at span (record { 0 = id })) (unless (is_some way) (of_name a (record { 0 = id }) here name)) n)
static_by a at span id here name None n s = match_join [] _ _ _ n quiet_nothing (λ m. a_name a id here name m)
static_by a at span id here name (Some text) n s =
    match_then_quiet _ _ _ n (match_join [] _ _ _ n (no_meaning [] _ refl) (λ m. one_use _ [] id here (NameExpr name) Global [] refl (s text refl) quiet_nothing)) (λ m. quiet_nothing)

mutual
  pub block : (a : Around) (x : Block) (n : ℕ) → Fits a.paths (nodes_of_block x) (of_block a x n)
  block a no_stats n = quiet_nothing
  block a (more_stats s rest) n = match_join _ _ _ _ n (stat a s n) (λ m. block (in_scope a (behind a s n)) rest m)

  stat : (a : Around) (x : Stat) (n : ℕ) → Fits a.paths (nodes_of_stat x) (of_stat a x n)
  stat a (the_stat span kind) n = stat_kind a span kind n

  stat_kind : (a : Around) (span : Span) (x : StatKind) (n : ℕ) → Fits a.paths (nodes_of_stat_kind x) (of_stat_kind a span x n)
  stat_kind a span (Assign targets values) n = match_join _ _ _ _ n (the_targets a [] targets n) (λ m. exprs a values m)
  stat_kind a span (Compound target op e) n = match_join _ _ _ _ n (expr a target n) (λ m. match_join [] _ _ _ m (quiet_aimed a [] target m) (λ k. expr a e k))
  stat_kind a span (CallStat e) n = expr a e n
  stat_kind a span (Do body) n = block a body n
  stat_kind a span (While cond body) n = match_join _ _ _ _ n (expr a cond n) (λ m. block (in_loop a OtherLoop) body m)
  stat_kind a span (Repeat body cond) n =
      match_repeat _ _ _ _ _ (block (in_loop a RepeatLoop) body n)
      (expr (in_scope a (behind_block (in_loop a RepeatLoop) body n)) cond (n + declarations (of_block (in_loop a RepeatLoop) body n)))
  stat_kind a span (If list last) n = match_join _ _ _ _ n (the_arms a list n) (λ m. maybe_block a last m)
  stat_kind a span (NumFor b from to step body) n =
      let looped : Part = of_block (in_loop (in_scope a (with_bind a b n)) OtherLoop) body in
      let entry : Part = of_entry (own_locals a) (declared_span b) in
      left ((nodes_of_bind b ++ nodes_of_expr from) ++ nodes_of_expr to) (nodes_of_maybe_expr step) (nodes_of_block body) _
      (left (nodes_of_bind b ++ nodes_of_expr from) (nodes_of_expr to) (nodes_of_maybe_expr step ++ nodes_of_block body) _
      (left (nodes_of_bind b) (nodes_of_expr from) (nodes_of_expr to ++ (nodes_of_maybe_expr step ++ nodes_of_block body)) _
      (match_join _ _ (of_bind a None b) (of_expr a from then of_expr a to then of_maybe_expr a step then entry then looped) n (bind a None b n)
      (λ m. match_join _ _ (of_expr a from) (of_expr a to then of_maybe_expr a step then entry then looped) m (expr a from m)
      (λ m. match_join _ _ (of_expr a to) (of_maybe_expr a step then entry then looped) m (expr a to m)
      (λ m. match_join _ _ (of_maybe_expr a step) (entry then looped) m (maybe_expr a step m)
      (λ m. match_join [] _ entry looped m (quiet_entry (own_locals a) (declared_span b) m)
      (λ m. block (in_loop (in_scope a (with_bind a b n)) OtherLoop) body m))))))))
  stat_kind a span (GenFor bs values body) n =
      left (nodes_of_binds bs) (nodes_of_exprs values) (nodes_of_block body) _ (match_join _ _ _ _ n (the_binds a bs no_exprs n) (λ m. match_join _ _ _ _ m (exprs a values m)
      (λ m. match_join [] _ _ _ m (quiet_entries (own_locals a) bs m)
      (λ m. block (in_loop (in_scope a (a.scope ++ numbered a bs n)) OtherLoop) body m))))
  stat_kind a span (FunctionStat path method b) n =
      match_join _ _ _ _ n (expr a path n) (λ m. match_join [] _ _ _ m (quiet_named_function a path method m) (λ k. a_body a b k))
  stat_kind a span (LocalFunction name b) n = match_join _ _ _ _ n (own_bind a name n) (λ m. a_body (in_scope a (with_bind a name n)) b m)
  stat_kind a span (Local bs values) n =
      match_join _ _ _ _ n (the_binds a bs values n) (λ m. match_then_quiet _ _ _ m (exprs a values m) (λ k. quiet_entries (own_locals a) bs k))
  stat_kind a span (TypeAlias exported name generics typ) n = match_join _ _ _ _ n (the_gens a generics n) (λ m. a_written a typ m)
  stat_kind a span (TypeFunction exported name b) n = match_join [] _ _ _ n (no_meaning _ _ refl) (λ m. a_body a b m)
  stat_kind a span (Return values) n = exprs a values n
  stat_kind a span Break n = quiet_break a.loop span n
  stat_kind a span Continue n = quiet_continue a.loop span n

  the_targets : (a : Around) (earlier : List ℕ) (x : Exprs) (n : ℕ) → Fits a.paths (nodes_of_exprs x) (of_targets a earlier x n)
  the_targets a earlier no_exprs n = quiet_nothing
  the_targets a earlier (more_exprs e rest) n =
      match_join _ _ _ _ n (expr a e n) (λ m. match_join [] _ _ _ m (quiet_aimed a earlier e m) (λ k. the_targets a (earlier ++ finds.target_local a e) rest k))

  the_arms : (a : Around) (x : Arms) (n : ℕ) → Fits a.paths (nodes_of_arms x) (of_arms a x n)
  the_arms a no_arms n = quiet_nothing
  the_arms a (more_arms cond body rest) n = left (nodes_of_expr cond) (nodes_of_block body) (nodes_of_arms rest) _ (match_join _ _ _ _ n (expr a cond n) (λ m. match_join _ _ _ _ m (block a body m) (λ k. the_arms a rest k)))

  maybe_block : (a : Around) (x : MaybeBlock) (n : ℕ) → Fits a.paths (nodes_of_maybe_block x) (of_maybe_block a x n)
  maybe_block a no_block n = quiet_nothing
  maybe_block a (a_block body) n = block a body n

  the_binds : (a : Around) (x : Binds) (values : Exprs) (n : ℕ) → Fits a.paths (nodes_of_binds x) (of_binds a x values n)
  the_binds a no_binds values n = quiet_nothing
  the_binds a (more_binds b rest) values n = match_join _ _ _ _ n (bind a (finds.first_value values) b n) (λ m. the_binds a rest (finds.other_values values) m)

  bind : (a : Around) (given : Option ExprId) (x : Bind) (n : ℕ) → Fits a.paths (nodes_of_bind x) (of_bind a given x n)
  bind a given (the_bind name span typ) n =
      match_join (ABind (the_bind name span typ) ∷ []) _ _ _ n (no_meaning _ _ refl) (λ m. maybe_type a typ m)

  own_bind : (a : Around) (x : Bind) (n : ℕ) → Fits a.paths (nodes_of_bind x) (of_own_bind a x n)
  own_bind a (the_bind name span typ) n =
      match_join (ABind (the_bind name span typ) ∷ []) _ _ _ n (no_meaning _ _ refl)
      (λ m. match_join [] _ _ _ m (quiet_entry (own_locals a) span m) (λ k. maybe_type (in_scope a (a.scope ++ finds.local_here a name n ∷ [])) typ k))

  params : (a : Around) (x : Binds) (n : ℕ) → Fits a.paths (nodes_of_binds x) (of_params a x n)
  params a no_binds n = quiet_nothing
  params a (more_binds b rest) n = match_join _ _ _ _ n (own_bind a b n) (λ m. params (in_scope a (with_bind a b n)) rest m)

  expr : (a : Around) (x : Expr) (n : ℕ) → Fits a.paths (nodes_of_expr x) (of_expr a x n)
  expr a (the_expr id span kind) n = expr_kind a id span kind n

  exprs : (a : Around) (x : Exprs) (n : ℕ) → Fits a.paths (nodes_of_exprs x) (of_exprs a x n)
  exprs a no_exprs n = quiet_nothing
  exprs a (more_exprs e rest) n = match_join _ _ _ _ n (expr a e n) (λ m. exprs a rest m)

  maybe_expr : (a : Around) (x : MaybeExpr) (n : ℕ) → Fits a.paths (nodes_of_maybe_expr x) (of_maybe_expr a x n)
  maybe_expr a no_expr n = quiet_nothing
  maybe_expr a (an_expr e) n = expr a e n

  expr_kind : (a : Around) (id : ℕ) (span : Span) (x : ExprKind) (n : ℕ) → Fits a.paths (AnExpr (the_expr id span x) ∷ nodes_of_expr_kind x) (of_expr_kind a (record { 0 = id }) span x n)
  expr_kind a id span NilExpr n = around_node _ [] [] quiet_nothing
  expr_kind a id span TrueExpr n = around_node _ [] [] quiet_nothing
  expr_kind a id span FalseExpr n = around_node _ [] [] quiet_nothing
  expr_kind a id span (NumberExpr text) n = around_node _ [] [] quiet_nothing
  expr_kind a id span (StrExpr bytes) n = around_node _ [] [] quiet_nothing
  expr_kind a id span Vararg n = around_node _ [] _ (quiet_refused_if _ _ span n)
  expr_kind a id span (FunctionExpr b) n = around_node _ _ _ (a_body a b n)
  expr_kind a id span (NameExpr name) n = a_name a id span name n
  expr_kind a id span (Index base field) n = a_field a id span base field (of_expr a base) n (λ m. expr a base m)
  expr_kind a id span (At base key) n = around_node _ _ _ (match_join _ _ _ _ n (expr a base n) (λ m. expr a key m))
  expr_kind a id span (Call callee args) n = around_node _ _ _ (match_join _ _ _ _ n (the_callee a (record { 0 = id }) span args callee n) (λ m. exprs a args m))
  expr_kind a id span (Method base name name_span args) n = around_node _ _ _ (match_join _ _ _ _ n (expr a base n) (λ m. exprs a args m))
  expr_kind a id span (Paren e) n = around_node _ _ _ (expr a e n)
  expr_kind a id span (Unary op e) n = around_node _ _ _ (expr a e n)
  expr_kind a id span (Binary op left right) n = around_node _ _ _ (match_join _ _ _ _ n (expr a left n) (λ m. expr a right m))
  expr_kind a id span (IfElse list last) n = around_node _ _ _ (match_join _ _ _ _ n (choices a list n) (λ m. expr a last m))
  expr_kind a id span (TableExpr list) n = around_node _ _ _ (the_items a list n)
  expr_kind a id span (Interp texts parts) n = around_node _ _ _ (exprs a parts n)
  expr_kind a id span (Assert e typ) n = around_node _ _ _ (match_join _ _ _ _ n (expr a e n) (λ m. a_written a typ m))

  the_callee : (a : Around) (at : ExprId) (span : Span) (args : Exprs) (x : Expr) (n : ℕ)
      → Fits a.paths (nodes_of_expr x) (join (of_static (required_way a (kind_of x) args) at span (id_of x)) (unless (is_some (required_way a (kind_of x) args)) (of_expr a x)) n)
  the_callee a at span args (the_expr id here (NameExpr name)) n = static_by a at span id here name (required_way a (NameExpr name) args) n
      (λ text e. loads_stands a name (way_loads a name args text e))
  the_callee a at span args (the_expr id here other) n = match_join [] _ _ _ n quiet_nothing (λ m. expr_kind a id here other m)

  choices : (a : Around) (x : Choices) (n : ℕ) → Fits a.paths (nodes_of_choices x) (of_choices a x n)
  choices a no_choices n = quiet_nothing
  choices a (more_choices cond e rest) n = left (nodes_of_expr cond) (nodes_of_expr e) (nodes_of_choices rest) _ (match_join _ _ _ _ n (expr a cond n) (λ m. match_join _ _ _ _ m (expr a e m) (λ k. choices a rest k)))

  the_items : (a : Around) (x : Items) (n : ℕ) → Fits a.paths (nodes_of_items x) (of_items a x n)
  the_items a no_items n = quiet_nothing
  the_items a (more_items i rest) n = match_join _ _ _ _ n (item a i n) (λ m. the_items a rest m)

  item : (a : Around) (x : Item) (n : ℕ) → Fits a.paths (nodes_of_item x) (of_item a x n)
  item a (Field name e) n = expr a e n
  item a (Keyed key e) n = match_join _ _ _ _ n (expr a key n) (λ m. expr a e m)
  item a (Plain e) n = expr a e n

  a_body : (a : Around) (x : Body) (n : ℕ) → Fits a.paths (nodes_of_body x) (of_body a x n)
  a_body a (the_body id has_self generics ps vararg returned code span) n =
      let inner = in_body a id vararg in
      let within = in_scope inner (behind_params inner ps (n + declarations (of_gens inner generics n))) in
      past_body _ _ _
      (left ((nodes_of_gens generics ++ nodes_of_binds ps) ++ nodes_of_varargs vararg) (nodes_of_maybe_type returned) (nodes_of_block code) _
      (left (nodes_of_gens generics ++ nodes_of_binds ps) (nodes_of_varargs vararg) (nodes_of_maybe_type returned ++ nodes_of_block code) _
      (left (nodes_of_gens generics) (nodes_of_binds ps) (nodes_of_varargs vararg ++ (nodes_of_maybe_type returned ++ nodes_of_block code)) _
      (match_join _ _ (of_gens inner generics) (of_params inner ps then of_varargs within vararg then of_maybe_type within returned then of_block within code) n (the_gens inner generics n)
      (λ m. match_join _ _ (of_params inner ps) (of_varargs within vararg then of_maybe_type within returned then of_block within code) m (params inner ps m)
      (λ m. match_join _ _ (of_varargs within vararg) (of_maybe_type within returned then of_block within code) m (the_varargs within vararg m)
      (λ m. match_join _ _ (of_maybe_type within returned) (of_block within code) m (maybe_type within returned m) (λ m. block within code m))))))))

  the_varargs : (a : Around) (x : Varargs) (n : ℕ) → Fits a.paths (nodes_of_varargs x) (of_varargs a x n)
  the_varargs a no_varargs n = quiet_nothing
  the_varargs a (varargs typ) n = maybe_type a typ n

  the_gens : (a : Around) (x : Gens) (n : ℕ) → Fits a.paths (nodes_of_gens x) (of_gens a x n)
  the_gens a no_gens n = quiet_nothing
  the_gens a (more_gens g rest) n = match_join _ _ _ _ n (a_gen a g n) (λ m. the_gens a rest m)

  a_gen : (a : Around) (x : Gen) (n : ℕ) → Fits a.paths (nodes_of_gen x) (of_gen a x n)
  a_gen a (the_gen name span pack default) n = match_join [] _ _ _ n (quiet_refused_if pack _ span n) (λ m. maybe_type a default m)

  a_written : (a : Around) (x : TypeSyntax) (n : ℕ) → Fits a.paths (nodes_of_type x) (of_type a x n)
  a_written a (the_type span kind) n = type_kind a span kind n

  types : (a : Around) (x : TypeSyntaxes) (n : ℕ) → Fits a.paths (nodes_of_types x) (of_types a x n)
  types a no_types n = quiet_nothing
  types a (more_types typ rest) n = match_join _ _ _ _ n (a_written a typ n) (λ m. types a rest m)

  maybe_type : (a : Around) (x : MaybeType) (n : ℕ) → Fits a.paths (nodes_of_maybe_type x) (of_maybe_type a x n)
  maybe_type a no_type n = quiet_nothing
  maybe_type a (a_type typ) n = a_written a typ n

  type_kind : (a : Around) (span : Span) (x : TypeKind) (n : ℕ) → Fits a.paths (nodes_of_type_kind x) (of_type_kind a span x n)
  type_kind a span NilType n = quiet_nothing
  type_kind a span (BoolType truth) n = quiet_nothing
  type_kind a span (StrType bytes) n = quiet_nothing
  type_kind a span (Named prefix name args) n = types a args n
  type_kind a span (Typeof e) n = expr a e n
  type_kind a span (Array typ) n = a_written a typ n
  type_kind a span (TableType props) n = the_props a props n
  type_kind a span (Func generics ps returned) n = left (nodes_of_gens generics) (nodes_of_types ps) (nodes_of_type returned) _ (match_join _ _ _ _ n (the_gens a generics n) (λ m. match_join _ _ _ _ m (types a ps m) (λ k. a_written a returned k)))
  type_kind a span (Union list) n = types a list n
  type_kind a span (Meet list) n = types a list n
  type_kind a span (Optional typ) n = a_written a typ n
  type_kind a span (Pack list) n = types a list n
  type_kind a span (Variadic typ) n = a_written a typ n
  type_kind a span (GenericPack name) n = no_meaning _ _ refl

  the_props : (a : Around) (x : Props) (n : ℕ) → Fits a.paths (nodes_of_props x) (of_props a x n)
  the_props a no_props n = quiet_nothing
  the_props a (more_props p rest) n = match_join _ _ _ _ n (prop a p n) (λ m. the_props a rest m)

  prop : (a : Around) (x : Prop) (n : ℕ) → Fits a.paths (nodes_of_prop x) (of_prop a x n)
  prop a (the_prop access key typ) n = match_join _ _ _ _ n (a_key a key n) (λ m. a_written a typ m)

  a_key : (a : Around) (x : PropKey) (n : ℕ) → Fits a.paths (nodes_of_prop_key x) (of_key a x n)
  a_key a (NameKey name) n = quiet_nothing
  a_key a (Indexer typ) n = a_written a typ n
