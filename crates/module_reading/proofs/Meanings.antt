-- Each expression stands for what it may mean.
use Rattle.std.proofs.Common.{◌≡◌, ℕ, ◌==◌, Bool, true, false, not, ◌&&◌, ◌||◌, List, [], ◌∷◌, map, take, refl, sym, ap, ◌∙◌, subst, eq-eqb, eqb-true, inl, inr}
use Rattle.std.specs.Prelude.{Option, Some, None, option_map, is_some, nat_eq, if◌then◌else◌}
use Rattle.std.specs.Option.{option_map_or}
use Rattle.std.specs.List.{list_any, find, filter_map}
use Rattle.std.specs.Cmp.Lexicographic.{pointwise}
use Rattle.std.specs.Str.{bytes_eq}
use Rattle.luau_values.specs.Start.{library_of}
use Rattle.luau_tree.specs.declared.position.Span.{Span}
use Rattle.luau_tree.specs.declared.names.ExprId.{ExprId}
use Rattle.luau_tree.specs.Tree.{Block, Expr, the_expr, ExprKind, NilExpr, TrueExpr, FalseExpr, NumberExpr, StrExpr, Vararg, FunctionExpr, NameExpr, Index, At, Call, Method, Paren, Unary, Binary, IfElse, TableExpr, Interp, Assert}
use Rattle.luau_tree.specs.Nodes.{Node, AnExpr, ABody, ABind, exprs_among, exprs_in, expr_number, nodes_of_block}
use Rattle.luau_scope.specs.declared.reading.Use.{Use}
use Rattle.luau_scope.specs.declared.reading.Use.TheVariants.{Local, Builtin, Library, Global}
use Rattle.luau_scope.specs.Names.{is_one_of, dotted, is_front}
use Rattle.luau_scope.specs.Found.{Found, Declares, Means, Captures, Assigns, RequiresModule, Continues, Refuses}
use Rattle.luau_scope.specs.Finds.{around_module, found_in}
use Rattle.luau_scope.specs.Locals.{a_use, uses_of, use_at}
use Rattle.luau_scope.specs.Laws.{Within, none, both, left_out, name_numbers}
use Rattle.luau_scope.proofs.InOrder.{names_have_uses}
use Rattle.luau_run.specs.Signature.{Declared, declaration}
use Rattle.luau_run.specs.Program.{Program, paths}
use Rattle.luau_run.specs.ReadFolder.{is_among, are_distinct, name_of, spelled, may_mean, is_library_name, is_global_name}
use Rattle.module_reading.specs.Names.{meaning_of, meaning_at}
use Rattle.module_reading.specs.Apart.{HasNoDot, IsApart}
use Rattle.module_reading.proofs.Lists.{Has, and_both, is_not, among_has, same_item, one_of}
use Rattle.module_reading.proofs.Origins.{Stands, Origin, Fits}
use Rattle.module_reading.proofs.Origins as origins

-- ---- names of builtins and libraries

bytes_swap : (a b : List ℕ) → bytes_eq a b ≡ bytes_eq b a
bytes_swap [] [] = refl
bytes_swap [] (y ∷ b) = refl
bytes_swap (x ∷ a) [] = refl
bytes_swap (x ∷ a) (y ∷ b) = ap (λ t. t && bytes_eq a b) (swap x y) ∙ ap (λ t. nat_eq y x && t) (bytes_swap a b)
  where
    swap : (x y : ℕ) → nat_eq x y ≡ nat_eq y x
    swap x y = by_test (nat_eq x y) (nat_eq y x) refl refl
      where
        by_test : (p q : Bool) → nat_eq x y ≡ p → nat_eq y x ≡ q → p ≡ q
        by_test true true e f = refl
        by_test true false e f = let t : nat_eq y x ≡ true = eq-eqb y x (sym (eqb-true x y e)) in cc
        by_test false true e f = let t : nat_eq x y ≡ true = eq-eqb x y (sym (eqb-true y x f)) in cc
        by_test false false e f = refl

bytes_self : (a : List ℕ) → bytes_eq a a ≡ true
bytes_self [] = refl
bytes_self (x ∷ a) = ap (λ t. t && bytes_eq a a) (eq-eqb x x refl) ∙ bytes_self a

-- a builtin is declared where its path is one of the paths
declared_is : (builtins : List Declared) (path : List ℕ) → is_some (declaration builtins path) ≡ is_one_of (map (λ d. d.path) builtins) path
declared_is [] path = refl
declared_is (d ∷ builtins) path = by_test (bytes_eq d.path path) (bytes_eq path d.path) (bytes_swap d.path path) (declared_is builtins path)
  where
    by_test : (b c : Bool) → b ≡ c → is_some (declaration builtins path) ≡ is_one_of (map (λ d. d.path) builtins) path
        → is_some (option_map (λ e. e.signature) (if b then Some d else find (λ e. bytes_eq e.path path) builtins)) ≡ (c || is_one_of (map (λ d. d.path) builtins) path)
    by_test true true e k = refl
    by_test true false e k = cc
    by_test false true e k = cc
    by_test false false e k = k

or_option : (o : Option (List ℕ)) (name : List ℕ) (c d : ℕ) → option_map_or (bytes_eq (d ∷ name)) (option_map (λ (library : List ℕ). c ∷ library) o) false ≡ (nat_eq d c && option_map_or (bytes_eq name) o false)
or_option None name c d = sym (and_false (nat_eq d c))
  where
    and_false : (b : Bool) → (b && false) ≡ false
    and_false true = refl
    and_false false = refl
or_option (Some l) name c d = refl

-- a name without a dot is a path's library where the path begins with it and a dot
same_library : (name path : List ℕ) → is_among 46 name ≡ false → is_front (dotted name []) path ≡ option_map_or (bytes_eq name) (library_of path) false
same_library [] [] e = refl
same_library [] (c ∷ path) e = by_test (nat_eq 46 c) (c == 46) (swapped (nat_eq 46 c) (c == 46) refl refl)
  where
    swapped : (p q : Bool) → nat_eq 46 c ≡ p → (c == 46) ≡ q → p ≡ q
    swapped true true f g = refl
    swapped true false f g = let t : (c == 46) ≡ true = eq-eqb c 46 (sym (eqb-true 46 c f)) in cc
    swapped false true f g = let t : nat_eq 46 c ≡ true = eq-eqb 46 c (sym (eqb-true c 46 g)) in cc
    swapped false false f g = refl

    none_left : (o : Option (List ℕ)) → option_map_or (bytes_eq []) (option_map (λ (library : List ℕ). c ∷ library) o) false ≡ false
    none_left None = refl
    none_left (Some l) = refl

    by_test : (p q : Bool) → p ≡ q → (p && pointwise nat_eq [] (take 0 path)) ≡ option_map_or (bytes_eq []) (if q then Some [] else option_map (λ (library : List ℕ). c ∷ library) (library_of path)) false
    by_test true true f = refl
    by_test true false f = cc
    by_test false true f = cc
    by_test false false f = sym (none_left (library_of path))
same_library (d ∷ name) [] e = refl
same_library (d ∷ name) (c ∷ path) e = by_test (c == 46) refl (same_library name path (parts (46 == d) (is_among 46 name) e).1)
  where
    parts : (a b : Bool) → (a || b) ≡ false → (a ≡ false) × (b ≡ false)
    parts true b f = cc
    parts false b f = (refl, f)

    not_dot : (t : Bool) → nat_eq d c ≡ t → (c == 46) ≡ true → t ≡ false
    not_dot true f g = let h : (46 == d) ≡ true = eq-eqb 46 d (sym (eqb-true d c f ∙ eqb-true c 46 g)) in let k : (46 == d) ≡ false = (parts (46 == d) (is_among 46 name) e).0 in cc
    not_dot false f g = refl

    by_test : (q : Bool) → (c == 46) ≡ q → is_front (dotted name []) path ≡ option_map_or (bytes_eq name) (library_of path) false
        → (nat_eq d c && is_front (dotted name []) path) ≡ option_map_or (bytes_eq (d ∷ name)) (if q then Some [] else option_map (λ (library : List ℕ). c ∷ library) (library_of path)) false
    by_test true f k = ap (λ t. t && is_front (dotted name []) path) (not_dot (nat_eq d c) refl f)
    by_test false f k = ap (λ t. nat_eq d c && t) k ∙ sym (or_option (library_of path) name c d)

same_libraries : (name : List ℕ) (all : List (List ℕ)) → is_among 46 name ≡ false → list_any (is_front (dotted name [])) all ≡ list_any (λ path. option_map_or (bytes_eq name) (library_of path) false) all
same_libraries name [] e = refl
same_libraries name (path ∷ all) e = ap (λ t. t || list_any (is_front (dotted name [])) all) (same_library name path e) ∙ ap (λ t. option_map_or (bytes_eq name) (library_of path) false || t) (same_libraries name all e)

-- what an expression stands for is what it may mean
named_here : (kind : ExprKind) (name : List ℕ) → ((id : ℕ) (span : Span) → HasNoDot (the_expr id span kind)) → name_of kind ≡ Some name → is_among 46 name ≡ false
named_here (NameExpr n) name h e = subst (λ (m : List ℕ). is_among 46 m ≡ false) (let z : n ≡ name = cc in z) (h 0 (record { start = 0; end = 0 }))
named_here NilExpr name h e = cc
named_here TrueExpr name h e = cc
named_here FalseExpr name h e = cc
named_here (NumberExpr text) name h e = cc
named_here (StrExpr bytes) name h e = cc
named_here Vararg name h e = cc
named_here (FunctionExpr body) name h e = cc
named_here (Index base field) name h e = cc
named_here (At base key) name h e = cc
named_here (Call callee args) name h e = cc
named_here (Method base field span args) name h e = cc
named_here (Paren x) name h e = cc
named_here (Unary op x) name h e = cc
named_here (Binary op left right) name h e = cc
named_here (IfElse arms last) name h e = cc
named_here (TableExpr items) name h e = cc
named_here (Interp texts parts) name h e = cc
named_here (Assert x type) name h e = cc

pub may_stand : (program : Program) (kind : ExprKind) (meaning : Use) → ((name : List ℕ) → name_of kind ≡ Some name → is_among 46 name ≡ false) → Stands (paths program) kind meaning → may_mean program kind (Some (meaning_of meaning)) ≡ true
may_stand program kind (Local local) h s = ap is_some s.1
may_stand program kind (Builtin path) h s =
    and_both (is_some (declaration program.builtins path)) (option_map_or (bytes_eq path) (spelled kind) false) (declared_is program.builtins path ∙ s.1)
    (ap (λ o. option_map_or (bytes_eq path) o false) s.0 ∙ bytes_self path)
may_stand program kind Library h s =
    ap (λ o. option_map_or (is_library_name program) o false) s.1 ∙ (sym (same_libraries s.0 (paths program) (h s.0 s.1)) ∙ s.2)
may_stand program kind Global h s =
    ap (λ o. option_map_or (is_global_name program) o false) s.1
    ∙ and_both (not (is_some (declaration program.builtins s.0))) (not (is_library_name program s.0))
    (is_not (is_some (declaration program.builtins s.0)) (declared_is program.builtins s.0 ∙ s.2))
    (is_not (is_library_name program s.0) (sym (same_libraries s.0 (paths program) (h s.0 s.1)) ∙ s.3))

-- ---- uses

use_there : (uses : List (ExprId × Use)) (at : ExprId) (meaning : Use) → use_at uses at ≡ Some meaning → (i : ExprId) × (i.0 ≡ at.0) × Has uses (i, meaning)
use_there [] at meaning e = cc
use_there (u ∷ uses) at meaning e = by_test (u.0.0 == at.0) refl e (use_there uses at meaning)
  where
    by_test : (b : Bool) → (u.0.0 == at.0) ≡ b → (if b then Some u.1 else use_at uses at) ≡ Some meaning
        → (use_at uses at ≡ Some meaning → (i : ExprId) × (i.0 ≡ at.0) × Has uses (i, meaning)) → (i : ExprId) × (i.0 ≡ at.0) × Has (u ∷ uses) (i, meaning)
    by_test true q k next = (u.0, eqb-true u.0.0 at.0 q, inl (let z : u.1 ≡ meaning = cc in ap (λ (m : Use). (u.0, m)) z))
    by_test false q k next = let r = next k in (r.0, r.1, inr r.2)

no_use : (uses : List (ExprId × Use)) (at : ExprId) → use_at uses at ≡ None → is_among at.0 (map (λ u. u.0.0) uses) ≡ true → ⊥
no_use [] at e h = cc
no_use (u ∷ uses) at e h = by_tests (u.0.0 == at.0) (at.0 == u.0.0) refl refl e h (no_use uses at)
  where
    by_tests : (b c : Bool) → (u.0.0 == at.0) ≡ b → (at.0 == u.0.0) ≡ c → (if b then Some u.1 else use_at uses at) ≡ None → (c || is_among at.0 (map (λ u. u.0.0) uses)) ≡ true
        → (use_at uses at ≡ None → is_among at.0 (map (λ u. u.0.0) uses) ≡ true → ⊥) → ⊥
    by_tests true c p q k h next = cc
    by_tests false true p q k h next = let t : (u.0.0 == at.0) ≡ true = eq-eqb u.0.0 at.0 (sym (eqb-true at.0 u.0.0 q)) in cc
    by_tests false false p q k h next = next k h

use_found : (f : List Found) (at : ExprId) (meaning : Use) → Has (filter_map a_use f) (at, meaning) → Has f (Means at meaning)
use_found [] at meaning h = h
use_found (Means i m ∷ f) at meaning (inl e) = inl (ap (λ (u : ExprId × Use). Means u.0 u.1) e)
use_found (Means i m ∷ f) at meaning (inr h) = inr (use_found f at meaning h)
use_found (Declares name span function given ∷ f) at meaning h = inr (use_found f at meaning h)
use_found (Captures local ∷ f) at meaning h = inr (use_found f at meaning h)
use_found (Assigns local ∷ f) at meaning h = inr (use_found f at meaning h)
use_found (RequiresModule site ∷ f) at meaning h = inr (use_found f at meaning h)
use_found (Continues place before ∷ f) at meaning h = inr (use_found f at meaning h)
use_found (Refuses why place ∷ f) at meaning h = inr (use_found f at meaning h)

node_among : (nodes : List Node) (e : Expr) → Has nodes (AnExpr e) → Has (exprs_among nodes) e
node_among [] e h = h
node_among (AnExpr f ∷ nodes) e (inl q) = inl (let z : f ≡ e = cc in z)
node_among (AnExpr f ∷ nodes) e (inr h) = inr (node_among nodes e h)
node_among (ABody b ∷ nodes) e (inl q) = cc
node_among (ABody b ∷ nodes) e (inr h) = node_among nodes e h
node_among (ABind b ∷ nodes) e (inl q) = cc
node_among (ABind b ∷ nodes) e (inr h) = node_among nodes e h

within_has : {xs ys : List ℕ} (n : ℕ) → Within xs ys → Has xs n → Has ys n
within_has n none h = h
within_has n (both x w) (inl e) = inl e
within_has n (both x w) (inr h) = inr (within_has n w h)
within_has n (left_out y w) h = inr (within_has n w h)

name_has : (es : List Expr) (id : ℕ) (span : Span) (name : List ℕ) → Has es (the_expr id span (NameExpr name)) → Has (name_numbers es) id
name_has [] id span name h = h
name_has (e ∷ es) id span name (inl q) = subst (λ (x : Expr). Has (name_numbers (x ∷ es)) id) (sym q) (inl refl)
name_has (the_expr i s (NameExpr n) ∷ es) id span name (inr h) = inr (name_has es id span name h)
name_has (the_expr i s other ∷ es) id span name (inr h) = name_has es id span name h

-- a name has a use
has_use : (all : List (List ℕ)) (x : Block) (id : ℕ) (span : Span) (name : List ℕ) → Has (exprs_in x) (the_expr id span (NameExpr name)) → use_at (uses_of all x) (record { 0 = id }) ≡ None → ⊥
has_use all x id span name h e =
    no_use (uses_of all x) (record { 0 = id }) e (among_has id (map (λ u. u.0.0) (uses_of all x)) (within_has id (names_have_uses all x) (name_has (exprs_in x) id span name h)))

no_name : (all : List (List ℕ)) (x : Block) (id : ℕ) (span : Span) (kind : ExprKind) → Has (exprs_in x) (the_expr id span kind) → use_at (uses_of all x) (record { 0 = id }) ≡ None → not (is_some (name_of kind)) ≡ true
no_name all x id span (NameExpr name) h e = absurd (has_use all x id span name h e)
no_name all x id span NilExpr h e = refl
no_name all x id span TrueExpr h e = refl
no_name all x id span FalseExpr h e = refl
no_name all x id span (NumberExpr text) h e = refl
no_name all x id span (StrExpr bytes) h e = refl
no_name all x id span Vararg h e = refl
no_name all x id span (FunctionExpr body) h e = refl
no_name all x id span (Index base field) h e = refl
no_name all x id span (At base key) h e = refl
no_name all x id span (Call callee args) h e = refl
no_name all x id span (Method base field name_span args) h e = refl
no_name all x id span (Paren i) h e = refl
no_name all x id span (Unary op i) h e = refl
no_name all x id span (Binary op left right) h e = refl
no_name all x id span (IfElse arms last) h e = refl
no_name all x id span (TableExpr items) h e = refl
no_name all x id span (Interp texts parts) h e = refl
no_name all x id span (Assert i type) h e = refl

-- what an expression of a module stands for
pub stands_for : (all : List (List ℕ)) (x : Block) (id : ℕ) (span : Span) (kind : ExprKind) (meaning : Use) → are_distinct (map expr_number (exprs_in x)) ≡ true → Has (exprs_in x) (the_expr id span kind)
    → use_at (uses_of all x) (record { 0 = id }) ≡ Some meaning → Stands all kind meaning
stands_for all x id span kind meaning d h e =
    let u = use_there (uses_of all x) (record { 0 = id }) meaning e in
    let o : Origin all (nodes_of_block x) u.0 meaning = (origins.block (around_module all) x 0).origin u.0 meaning (use_found (found_in all x) u.0 meaning u.2) in
    let same : the_expr u.0.0 o.span o.kind ≡ the_expr id span kind = same_item expr_number (exprs_in x) (the_expr u.0.0 o.span o.kind) (the_expr id span kind) d (node_among (nodes_of_block x) _ o.node) h u.1 in
    subst (λ (k : ExprKind). Stands all k meaning) (let z : o.kind ≡ kind = cc in z) o.stands

no_dot : (kind : ExprKind) (id : ℕ) (span : Span) → HasNoDot (the_expr id span kind) → (i : ℕ) (s : Span) → HasNoDot (the_expr i s kind)
no_dot (NameExpr name) id span h i s = h
no_dot NilExpr id span h i s = tt
no_dot TrueExpr id span h i s = tt
no_dot FalseExpr id span h i s = tt
no_dot (NumberExpr text) id span h i s = tt
no_dot (StrExpr bytes) id span h i s = tt
no_dot Vararg id span h i s = tt
no_dot (FunctionExpr body) id span h i s = tt
no_dot (Index base field) id span h i s = tt
no_dot (At base key) id span h i s = tt
no_dot (Call callee args) id span h i s = tt
no_dot (Method base field name_span args) id span h i s = tt
no_dot (Paren e) id span h i s = tt
no_dot (Unary op e) id span h i s = tt
no_dot (Binary op left right) id span h i s = tt
no_dot (IfElse arms last) id span h i s = tt
no_dot (TableExpr items) id span h i s = tt
no_dot (Interp texts parts) id span h i s = tt
no_dot (Assert e type) id span h i s = tt

pub may_mean_here : (program : Program) (x : Block) (id : ℕ) (span : Span) (kind : ExprKind) → IsApart x → Has (exprs_in x) (the_expr id span kind) → may_mean program kind (meaning_at (uses_of (paths program) x) id) ≡ true
may_mean_here program x id span kind apart h = by_use (use_at (uses_of (paths program) x) (record { 0 = id })) refl
  where
    by_use : (o : Option Use) → use_at (uses_of (paths program) x) (record { 0 = id }) ≡ o → may_mean program kind (option_map meaning_of o) ≡ true
    by_use None e = no_name (paths program) x id span kind h e
    by_use (Some meaning) e = may_stand program kind meaning
        (λ name q. named_here kind name (no_dot kind id span (one_of HasNoDot (exprs_in x) (the_expr id span kind) apart.names h)) q)
        (stands_for (paths program) x id span kind meaning apart.exprs h e)
