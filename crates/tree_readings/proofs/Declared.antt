-- Declared locals are distinct, and a module is read.
use Rattle.std.proofs.Common.{◌≡◌, ◌≤◌, ℕ, suc, ◌==◌, Bool, true, false, not, List, [], ◌∷◌, map, refl, sym, ap, ◌∙◌, subst, eq-eqb, eqb-true, arith, inl, inr}
use Rattle.std.specs.Prelude.{◌⊎◌, Option, Some, None, if◌then◌else◌}
use Rattle.std.specs.List.{filter_map, AllByRecursion}
use Rattle.luau_tree.specs.declared.position.Span.{Span}
use Rattle.luau_tree.specs.Tree.{Block, the_expr, the_body, Bind, the_bind}
use Rattle.luau_tree.specs.Nodes.{Node, exprs_in, bodies_in, binds_in, binds_among}
use Rattle.luau_tree.specs.Nodes as all
use Rattle.luau_scope.specs.declared.reading.LocalInfo.{LocalInfo}
use Rattle.luau_scope.specs.Captured.{bind_start}
use Rattle.luau_scope.specs.Locals.{uses_of, locals_of, requires_of}
use Rattle.luau_scope.specs.Laws.{Within, bind_name_and_span, local_name_and_span}
use Rattle.luau_scope.specs.Laws as within
use Rattle.luau_scope.proofs.InOrder.{locals_are_declared}
use Rattle.luau_run.specs.ValueSet.{ValueSet}
use Rattle.luau_run.specs.Program.{Program, paths}
use Rattle.luau_run.specs.ReadModule.{ReadModule}
use Rattle.luau_run.specs.ReadFolder.{is_among, are_distinct, IsReadWell, IsRead, IsReadFolder}
use Rattle.annotations.specs.Annotated.{annotated}
use Rattle.luau_run.specs.SyntaxNode.{SyntaxNode, AnExpr, ABody, ABind, of_block}
use Rattle.module_reading.specs.Names.{declared_from}
use Rattle.module_reading.specs.Readings.{declared_by, reading_of}
use Rattle.tree_readings.specs.Paths.{are_paths}
use Rattle.tree_readings.specs.Apart.{StandsApart}
use Rattle.tree_readings.specs.FromTrees.{IsReadOffTree, IsFolderOfTrees}
use Rattle.module_reading.specs.Nodes.{AreAmong, none, one, left_out}
use Rattle.module_reading.proofs.Lists.{Has, all_of, and_both, and_parts, is_not, has_among, among_has, fewer_distinct}
use Rattle.module_reading.proofs.Nodes.{block, has_expr}
use Rattle.module_reading.proofs.Bodies.{captures}
use Rattle.tree_readings.proofs.Meanings.{may_mean_here}

-- where the name that a node declares begins
abbrev start_of : SyntaxNode → Option ℕ
start_of (ABind (the_bind name span type)) = Some span.start
start_of _ = None

starts_within : {xs : List SyntaxNode} {ys : List Node} → AreAmong xs ys → Within (filter_map start_of xs) (map bind_start (binds_among ys))
starts_within none = within.none
starts_within (one (AnExpr e) a) = starts_within a
starts_within (one (ABody b) a) = starts_within a
starts_within (one (ABind (the_bind name span type)) a) = within.both span.start (starts_within a)
starts_within (left_out (all.AnExpr e) a) = starts_within a
starts_within (left_out (all.ABody b) a) = starts_within a
starts_within (left_out (all.ABind b) a) = within.left_out (bind_start b) (starts_within a)

declared_starts : (locals : List LocalInfo) (xs : List SyntaxNode) → filter_map (declared_by locals) xs ≡ map (declared_from 0 locals) (filter_map start_of xs)
declared_starts locals [] = refl
declared_starts locals (AnExpr e ∷ xs) = declared_starts locals xs
declared_starts locals (ABody b ∷ xs) = declared_starts locals xs
declared_starts locals (ABind (the_bind name span type) ∷ xs) = ap (λ (ns : List ℕ). declared_from 0 locals span.start ∷ ns) (declared_starts locals xs)

-- ---- the number of a local is at an offset of its own

at_least : (n : ℕ) (locals : List LocalInfo) (offset : ℕ) → n ≤ declared_from n locals offset
at_least n [] offset = omega arith
at_least n (l ∷ locals) offset = by_test (l.declared.start == offset) (at_least (suc n) locals offset)
  where
    by_test : (b : Bool) → suc n ≤ declared_from (suc n) locals offset → n ≤ (if b then n else declared_from (suc n) locals offset)
    by_test true h = omega arith
    by_test false h = omega arith

apart_from : (n : ℕ) (locals : List LocalInfo) (s t : ℕ) → Has (map (λ (l : LocalInfo). l.declared.start) locals) s → Has (map (λ (l : LocalInfo). l.declared.start) locals) t
    → declared_from n locals s ≡ declared_from n locals t → s ≡ t
apart_from n [] s t h k e = absurd h
apart_from n (l ∷ locals) s t h k e =
    by_tests (l.declared.start == s) (l.declared.start == t) refl refl h k e (at_least (suc n) locals s) (at_least (suc n) locals t) (apart_from (suc n) locals s t)
  where
    by_tests : (b c : Bool) → (l.declared.start == s) ≡ b → (l.declared.start == t) ≡ c
        → (l.declared.start ≡ s) ⊎ Has (map (λ (i : LocalInfo). i.declared.start) locals) s → (l.declared.start ≡ t) ⊎ Has (map (λ (i : LocalInfo). i.declared.start) locals) t
        → (if b then n else declared_from (suc n) locals s) ≡ (if c then n else declared_from (suc n) locals t)
        → suc n ≤ declared_from (suc n) locals s → suc n ≤ declared_from (suc n) locals t
        → (Has (map (λ (i : LocalInfo). i.declared.start) locals) s → Has (map (λ (i : LocalInfo). i.declared.start) locals) t → declared_from (suc n) locals s ≡ declared_from (suc n) locals t → s ≡ t)
        → s ≡ t
    by_tests true true p q h k e i j next = sym (eqb-true l.declared.start s p) ∙ eqb-true l.declared.start t q
    by_tests true false p q h k e i j next = absurd (omega arith)
    by_tests false true p q h k e i j next = absurd (omega arith)
    by_tests false false p q (inl h) k e i j next = absurd (let t : (l.declared.start == s) ≡ true = eq-eqb l.declared.start s h in cc)
    by_tests false false p q (inr h) (inl k) e i j next = absurd (let z : (l.declared.start == t) ≡ true = eq-eqb l.declared.start t k in cc)
    by_tests false false p q (inr h) (inr k) e i j next = next h k e

has_mapped : (f : ℕ → ℕ) (xs : List ℕ) (y : ℕ) → Has (map f xs) y → (x : ℕ) × Has xs x × (f x ≡ y)
has_mapped f [] y h = absurd h
has_mapped f (x ∷ xs) y (inl e) = (x, inl refl, e)
has_mapped f (x ∷ xs) y (inr h) = let r = has_mapped f xs y h in (r.0, inr r.1, r.2)

distinct_map : (f : ℕ → ℕ) (xs : List ℕ) → ((a b : ℕ) → Has xs a → Has xs b → f a ≡ f b → a ≡ b) → are_distinct xs ≡ true → are_distinct (map f xs) ≡ true
distinct_map f [] inj d = refl
distinct_map f (x ∷ xs) inj d =
    and_both (not (is_among (f x) (map f xs))) (are_distinct (map f xs)) (is_not (is_among (f x) (map f xs)) (by_test (is_among (f x) (map f xs)) refl))
    (distinct_map f xs (λ a b h k e. inj a b (inr h) (inr k) e) (and_parts (not (is_among x xs)) (are_distinct xs) d).1)
  where
    clash : (z : ℕ) → Has xs z → x ≡ z → ⊥
    clash z h e =
        let t : is_among x xs ≡ true = among_has x xs (subst (λ (n : ℕ). Has xs n) (sym e) h) in
        let p : not (is_among x xs) ≡ true = (and_parts (not (is_among x xs)) (are_distinct xs) d).0 in
        let q : not true ≡ true = ap not (sym t) ∙ p in cc

    by_test : (b : Bool) → is_among (f x) (map f xs) ≡ b → is_among (f x) (map f xs) ≡ false
    by_test true e = let r = has_mapped f xs (f x) (has_among (f x) (map f xs) e) in absurd (clash r.0 r.1 (inj x r.0 (inl refl) (inr r.1) (sym r.2)))
    by_test false e = e

within_has : {xs ys : List ℕ} (n : ℕ) → Within xs ys → Has xs n → Has ys n
within_has n within.none h = h
within_has n (within.both x w) (inl e) = inl e
within_has n (within.both x w) (inr h) = inr (within_has n w h)
within_has n (within.left_out y w) h = inr (within_has n w h)

starts_of_locals : (locals : List LocalInfo) → map (λ (p : List ℕ × Span). p.1.start) (map local_name_and_span locals) ≡ map (λ (l : LocalInfo). l.declared.start) locals
starts_of_locals [] = refl
starts_of_locals (l ∷ locals) = ap (λ (ns : List ℕ). l.declared.start ∷ ns) (starts_of_locals locals)

starts_of_binds : (binds : List Bind) → map (λ (p : List ℕ × Span). p.1.start) (map bind_name_and_span binds) ≡ map bind_start binds
starts_of_binds [] = refl
starts_of_binds (the_bind name span type ∷ binds) = ap (λ (ns : List ℕ). span.start ∷ ns) (starts_of_binds binds)

pub same_starts : (every : List (List ℕ)) (x : Block) → map bind_start (binds_in x) ≡ map (λ (l : LocalInfo). l.declared.start) (locals_of every x)
same_starts every x = sym (starts_of_binds (binds_in x)) ∙ ap (map (λ (p : List ℕ × Span). p.1.start)) (sym (locals_are_declared every x)) ∙ starts_of_locals (locals_of every x)

-- the offsets at which a module's locals are declared are where its declared names begin
starts_there : (every : List (List ℕ)) (x : Block) (s : ℕ) → Has (filter_map start_of (of_block x)) s → Has (map (λ (l : LocalInfo). l.declared.start) (locals_of every x)) s
starts_there every x s h = subst (λ (ns : List ℕ). Has ns s) (same_starts every x) (within_has s (starts_within (block x)) h)

pub locals_distinct : (every : List (List ℕ)) (x : Block) → StandsApart x → are_distinct (filter_map (declared_by (locals_of every x)) (of_block x)) ≡ true
locals_distinct every x apart =
    ap are_distinct (declared_starts (locals_of every x) (of_block x))
    ∙ distinct_map (declared_from 0 (locals_of every x)) (filter_map start_of (of_block x))
    (λ s t h k e. apart_from 0 (locals_of every x) s t (starts_there every x s h) (starts_there every x t k) e)
    (fewer_distinct (starts_within (block x)) apart.binds)

-- ---- a module is read

at_node : (program : Program) (home : ℕ) (x : Block) (annotated : (function index : ℕ) → ValueSet) (leads : List ℕ → Option ℕ) → are_paths (paths program) ≡ true → StandsApart x
    → (node : SyntaxNode) → Has (of_block x) node → IsReadWell program (reading_of (paths program) home x annotated leads) node
at_node program home x annotated leads declared apart (AnExpr (the_expr id span kind)) h = may_mean_here program x id span kind declared apart (has_expr (the_expr id span kind) (block x) h)
at_node program home x annotated leads declared apart (ABody (the_body id has_self generics params vararg returned code span)) h =
    captures (uses_of (paths program) x) (locals_of (paths program) x) (requires_of (paths program) x) home x annotated leads (the_body id has_self generics params vararg returned code span) apart.bodies h
at_node program home x annotated leads declared apart (ABind bind) h = tt

pub is_read : (program : Program) (home : ℕ) (x : Block) (annotated : (function index : ℕ) → ValueSet) (leads : List ℕ → Option ℕ) → are_paths (paths program) ≡ true → StandsApart x
    → IsRead program (reading_of (paths program) home x annotated leads)
is_read program home x annotated leads declared apart = record {
  nodes = all_of (IsReadWell program (reading_of (paths program) home x annotated leads)) (of_block x) (at_node program home x annotated leads declared apart);
  locals = locals_distinct (paths program) x apart;
}

-- ---- a folder is read

off_tree : (program : Program) (reading : ReadModule) → are_paths (paths program) ≡ true → IsReadOffTree program reading → IsRead program reading
off_tree program reading declared r =
    subst (λ (m : ReadModule). IsRead program m) (sym r.same) (is_read program reading.home reading.block (annotated reading.block) r.leads declared r.apart)

all_off_trees : (program : Program) (readings : List ReadModule) → are_paths (paths program) ≡ true → AllByRecursion (IsReadOffTree program) readings → AllByRecursion (IsRead program) readings
all_off_trees program [] declared all = tt
all_off_trees program (reading ∷ readings) declared all = (off_tree program reading declared all.0, all_off_trees program readings declared all.1)

pub folder_is_read : (program : Program) → IsFolderOfTrees program → IsReadFolder program
folder_is_read program folder = record {
  homes = folder.homes;
  listed = folder.listed;
  no_cycle = folder.no_cycle;
  readings = all_off_trees program program.modules folder.paths folder.readings;
}
