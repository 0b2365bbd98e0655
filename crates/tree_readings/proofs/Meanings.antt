-- Each expression stands for what it may mean, over paths with one dot at most.
use Rattle.std.proofs.Common.{◌≡◌, ℕ, ◌==◌, Bool, true, false, not, ◌&&◌, ◌||◌, List, [], ◌∷◌, map, take, refl, sym, ap, ◌∙◌, subst, eq-eqb, eqb-true, inl, inr}
use Rattle.std.specs.Prelude.{Option, Some, None, option_map, is_some, nat_eq, if◌then◌else◌}
use Rattle.std.specs.Option.{option_map_or}
use Rattle.std.specs.List.{list_any, find, filter_map}
use Rattle.std.specs.Cmp.Lexicographic.{pointwise}
use Rattle.std.specs.Str.{bytes_eq}
use Rattle.luau_values.specs.Start.{library_of}
use Rattle.luau_tree.specs.declared.position.Span.{Span}
use Rattle.luau_tree.specs.declared.names.ExprId.{ExprId}
use Rattle.luau_tree.specs.Tree.{Block, Expr, the_expr, ExprKind, NilExpr, TrueExpr, FalseExpr, NumberExpr, StrExpr, Vararg, FunctionExpr, NameExpr, Index, At, Call, Method, Paren, Unary, Binary, IfElse, TableExpr, Interp, Assert}
use Rattle.luau_tree.specs.Nodes.{Node, AnExpr, ABody, ABind, exprs_among, exprs_in, expr_number, nodes_of_block}
use Rattle.luau_scope.specs.declared.reading.Use.{Use}
use Rattle.luau_scope.specs.declared.reading.Use.TheVariants.{Local, Builtin, Library, Global}
use Rattle.luau_scope.specs.Names.{is_one_of, dotted, is_front}
use Rattle.luau_scope.specs.Found.{Found, Declares, Means, Captures, Assigns, RequiresModule, Continues, Refuses}
use Rattle.luau_scope.specs.Finds.{around_module, found_in}
use Rattle.luau_scope.specs.Locals.{a_use, uses_of, use_at}
use Rattle.luau_scope.specs.Laws.{Within, none, both, left_out, name_numbers}
use Rattle.luau_scope.proofs.InOrder.{names_have_uses}
use Rattle.luau_run.specs.Signature.{Declared, declaration}
use Rattle.luau_run.specs.Program.{Program, paths}
use Rattle.luau_run.specs.ReadFolder.{is_among, are_distinct, name_of, spelled, may_mean, is_library_name, is_global_name}
use Rattle.module_reading.specs.Names.{meaning_of, meaning_at}
use Rattle.tree_readings.specs.Paths.{has_one_dot, are_paths}
use Rattle.tree_readings.specs.Apart.{StandsApart}
use Rattle.module_reading.proofs.Lists.{Has, and_parts, and_both, or_left, or_right, not_true, is_not, among_has, same_item}
use Rattle.module_reading.proofs.Origins.{Stands}
use Rattle.module_reading.proofs.Meanings.{stands_for}

-- ---- names of builtins and libraries

bytes_swap : (a b : List ℕ) → bytes_eq a b ≡ bytes_eq b a
bytes_swap [] [] = refl
bytes_swap [] (y ∷ b) = refl
bytes_swap (x ∷ a) [] = refl
bytes_swap (x ∷ a) (y ∷ b) = ap (λ t. t && bytes_eq a b) (swap x y) ∙ ap (λ t. nat_eq y x && t) (bytes_swap a b)
  where
    swap : (x y : ℕ) → nat_eq x y ≡ nat_eq y x
    swap x y = by_test (nat_eq x y) (nat_eq y x) refl refl
      where
        by_test : (p q : Bool) → nat_eq x y ≡ p → nat_eq y x ≡ q → p ≡ q
        by_test true true e f = refl
        by_test true false e f = let t : nat_eq y x ≡ true = eq-eqb y x (sym (eqb-true x y e)) in cc
        by_test false true e f = let t : nat_eq x y ≡ true = eq-eqb x y (sym (eqb-true y x f)) in cc
        by_test false false e f = refl

bytes_self : (a : List ℕ) → bytes_eq a a ≡ true
bytes_self [] = refl
bytes_self (x ∷ a) = ap (λ t. t && bytes_eq a a) (eq-eqb x x refl) ∙ bytes_self a

-- a builtin is declared where its path is one of the paths
declared_is : (builtins : List Declared) (path : List ℕ) → is_some (declaration builtins path) ≡ is_one_of (map (λ d. d.path) builtins) path
declared_is [] path = refl
declared_is (d ∷ builtins) path = by_test (bytes_eq d.path path) (bytes_eq path d.path) (bytes_swap d.path path) (declared_is builtins path)
  where
    by_test : (b c : Bool) → b ≡ c → is_some (declaration builtins path) ≡ is_one_of (map (λ d. d.path) builtins) path
        → is_some (option_map (λ e. e.signature) (if b then Some d else find (λ e. bytes_eq e.path path) builtins)) ≡ (c || is_one_of (map (λ d. d.path) builtins) path)
    by_test true true e k = refl
    by_test true false e k = cc
    by_test false true e k = cc
    by_test false false e k = k

or_option : (o : Option (List ℕ)) (name : List ℕ) (c d : ℕ) → option_map_or (bytes_eq (d ∷ name)) (option_map (λ (library : List ℕ). c ∷ library) o) false ≡ (nat_eq d c && option_map_or (bytes_eq name) o false)
or_option None name c d = sym (and_false (nat_eq d c))
  where
    and_false : (b : Bool) → (b && false) ≡ false
    and_false true = refl
    and_false false = refl
or_option (Some l) name c d = refl

-- a path that begins with a name and a dot has a dot
front_has_dot : (name path : List ℕ) → is_front (dotted name []) path ≡ true → is_among 46 path ≡ true
front_has_dot [] [] e = cc
front_has_dot [] (c ∷ path) e = or_left (46 == c) (is_among 46 path) (and_parts (nat_eq 46 c) (pointwise nat_eq [] (take 0 path)) e).0
front_has_dot (d ∷ name) [] e = cc
front_has_dot (d ∷ name) (c ∷ path) e = or_right (46 == c) (is_among 46 path) (front_has_dot name path (and_parts (nat_eq d c) (is_front (dotted name []) path) e).1)

no_front : (name path : List ℕ) → is_among 46 path ≡ false → is_front (dotted name []) path ≡ false
no_front name path e = by_test (is_front (dotted name []) path) refl
  where
    by_test : (b : Bool) → is_front (dotted name []) path ≡ b → is_front (dotted name []) path ≡ false
    by_test true q = absurd (let t : is_among 46 path ≡ true = front_has_dot name path q in cc)
    by_test false q = q

and_false : (b : Bool) → (b && false) ≡ false
and_false true = refl
and_false false = refl

-- a name is a path's library where the path begins with it and a dot
same_library : (name path : List ℕ) → has_one_dot path ≡ true → is_front (dotted name []) path ≡ option_map_or (bytes_eq name) (library_of path) false
same_library [] [] e = refl
same_library [] (c ∷ path) e = by_test (nat_eq 46 c) (c == 46) (swapped (nat_eq 46 c) (c == 46) refl refl)
  where
    swapped : (p q : Bool) → nat_eq 46 c ≡ p → (c == 46) ≡ q → p ≡ q
    swapped true true f g = refl
    swapped true false f g = let t : (c == 46) ≡ true = eq-eqb c 46 (sym (eqb-true 46 c f)) in cc
    swapped false true f g = let t : nat_eq 46 c ≡ true = eq-eqb 46 c (sym (eqb-true c 46 g)) in cc
    swapped false false f g = refl

    none_left : (o : Option (List ℕ)) → option_map_or (bytes_eq []) (option_map (λ (library : List ℕ). c ∷ library) o) false ≡ false
    none_left None = refl
    none_left (Some l) = refl

    by_test : (p q : Bool) → p ≡ q → (p && pointwise nat_eq [] (take 0 path)) ≡ option_map_or (bytes_eq []) (if q then Some [] else option_map (λ (library : List ℕ). c ∷ library) (library_of path)) false
    by_test true true f = refl
    by_test true false f = cc
    by_test false true f = cc
    by_test false false f = sym (none_left (library_of path))
same_library (d ∷ name) [] e = refl
same_library (d ∷ name) (c ∷ path) e = by_test (c == 46) e (λ h. same_library name path h)
  where
    by_test : (q : Bool) → (if q then not (is_among 46 path) else has_one_dot path) ≡ true
        → (has_one_dot path ≡ true → is_front (dotted name []) path ≡ option_map_or (bytes_eq name) (library_of path) false)
        → (nat_eq d c && is_front (dotted name []) path) ≡ option_map_or (bytes_eq (d ∷ name)) (if q then Some [] else option_map (λ (library : List ℕ). c ∷ library) (library_of path)) false
    by_test true h k = ap (λ t. nat_eq d c && t) (no_front name path (not_true (is_among 46 path) h)) ∙ and_false (nat_eq d c)
    by_test false h k = ap (λ t. nat_eq d c && t) (k h) ∙ sym (or_option (library_of path) name c d)

same_libraries : (name : List ℕ) (all : List (List ℕ)) → are_paths all ≡ true → list_any (is_front (dotted name [])) all ≡ list_any (λ path. option_map_or (bytes_eq name) (library_of path) false) all
same_libraries name [] e = refl
same_libraries name (path ∷ all) e =
    let p = and_parts (has_one_dot path) (are_paths all) e in
    ap (λ t. t || list_any (is_front (dotted name [])) all) (same_library name path p.0) ∙ ap (λ t. option_map_or (bytes_eq name) (library_of path) false || t) (same_libraries name all p.1)

-- what an expression stands for is what it may mean
pub may_stand : (program : Program) (kind : ExprKind) (meaning : Use) → are_paths (paths program) ≡ true → Stands (paths program) kind meaning → may_mean program kind (Some (meaning_of meaning)) ≡ true
may_stand program kind (Local local) h s = ap is_some s.1
may_stand program kind (Builtin path) h s =
    and_both (is_some (declaration program.builtins path)) (option_map_or (bytes_eq path) (spelled kind) false) (declared_is program.builtins path ∙ s.1)
    (ap (λ o. option_map_or (bytes_eq path) o false) s.0 ∙ bytes_self path)
may_stand program kind Library h s =
    ap (λ o. option_map_or (is_library_name program) o false) s.1 ∙ (sym (same_libraries s.0 (paths program) h) ∙ s.2)
may_stand program kind Global h s =
    ap (λ o. option_map_or (is_global_name program) o false) s.1
    ∙ and_both (not (is_some (declaration program.builtins s.0))) (not (is_library_name program s.0))
    (is_not (is_some (declaration program.builtins s.0)) (declared_is program.builtins s.0 ∙ s.2))
    (is_not (is_library_name program s.0) (sym (same_libraries s.0 (paths program) h) ∙ s.3))

-- ---- uses

no_use : (uses : List (ExprId × Use)) (at : ExprId) → use_at uses at ≡ None → is_among at.0 (map (λ u. u.0.0) uses) ≡ true → ⊥
no_use [] at e h = cc
no_use (u ∷ uses) at e h = by_tests (u.0.0 == at.0) (at.0 == u.0.0) refl refl e h (no_use uses at)
  where
    by_tests : (b c : Bool) → (u.0.0 == at.0) ≡ b → (at.0 == u.0.0) ≡ c → (if b then Some u.1 else use_at uses at) ≡ None → (c || is_among at.0 (map (λ u. u.0.0) uses)) ≡ true
        → (use_at uses at ≡ None → is_among at.0 (map (λ u. u.0.0) uses) ≡ true → ⊥) → ⊥
    by_tests true c p q k h next = cc
    by_tests false true p q k h next = let t : (u.0.0 == at.0) ≡ true = eq-eqb u.0.0 at.0 (sym (eqb-true at.0 u.0.0 q)) in cc
    by_tests false false p q k h next = next k h

within_has : {xs ys : List ℕ} (n : ℕ) → Within xs ys → Has xs n → Has ys n
within_has n none h = h
within_has n (both x w) (inl e) = inl e
within_has n (both x w) (inr h) = inr (within_has n w h)
within_has n (left_out y w) h = inr (within_has n w h)

name_has : (es : List Expr) (id : ℕ) (span : Span) (name : List ℕ) → Has es (the_expr id span (NameExpr name)) → Has (name_numbers es) id
name_has [] id span name h = h
name_has (e ∷ es) id span name (inl q) = subst (λ (x : Expr). Has (name_numbers (x ∷ es)) id) (sym q) (inl refl)
name_has (the_expr i s (NameExpr n) ∷ es) id span name (inr h) = inr (name_has es id span name h)
name_has (the_expr i s other ∷ es) id span name (inr h) = name_has es id span name h

-- a name has a use
has_use : (all : List (List ℕ)) (x : Block) (id : ℕ) (span : Span) (name : List ℕ) → Has (exprs_in x) (the_expr id span (NameExpr name)) → use_at (uses_of all x) (record { 0 = id }) ≡ None → ⊥
has_use all x id span name h e =
    no_use (uses_of all x) (record { 0 = id }) e (among_has id (map (λ u. u.0.0) (uses_of all x)) (within_has id (names_have_uses all x) (name_has (exprs_in x) id span name h)))

no_name : (all : List (List ℕ)) (x : Block) (id : ℕ) (span : Span) (kind : ExprKind) → Has (exprs_in x) (the_expr id span kind) → use_at (uses_of all x) (record { 0 = id }) ≡ None → not (is_some (name_of kind)) ≡ true
no_name all x id span (NameExpr name) h e = absurd (has_use all x id span name h e)
no_name all x id span NilExpr h e = refl
no_name all x id span TrueExpr h e = refl
no_name all x id span FalseExpr h e = refl
no_name all x id span (NumberExpr text) h e = refl
no_name all x id span (StrExpr bytes) h e = refl
no_name all x id span Vararg h e = refl
no_name all x id span (FunctionExpr body) h e = refl
no_name all x id span (Index base field) h e = refl
no_name all x id span (At base key) h e = refl
no_name all x id span (Call callee args) h e = refl
no_name all x id span (Method base field name_span args) h e = refl
no_name all x id span (Paren i) h e = refl
no_name all x id span (Unary op i) h e = refl
no_name all x id span (Binary op left right) h e = refl
no_name all x id span (IfElse arms last) h e = refl
no_name all x id span (TableExpr items) h e = refl
no_name all x id span (Interp texts parts) h e = refl
no_name all x id span (Assert i type) h e = refl

pub may_mean_here : (program : Program) (x : Block) (id : ℕ) (span : Span) (kind : ExprKind) → are_paths (paths program) ≡ true → StandsApart x → Has (exprs_in x) (the_expr id span kind)
    → may_mean program kind (meaning_at (uses_of (paths program) x) id) ≡ true
may_mean_here program x id span kind declared apart h = by_use (use_at (uses_of (paths program) x) (record { 0 = id })) refl
  where
    by_use : (o : Option Use) → use_at (uses_of (paths program) x) (record { 0 = id }) ≡ o → may_mean program kind (option_map meaning_of o) ≡ true
    by_use None e = no_name (paths program) x id span kind h e
    by_use (Some meaning) e = may_stand program kind meaning declared (stands_for (paths program) x id span kind meaning apart.exprs h e)
