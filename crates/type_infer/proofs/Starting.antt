-- What the first state stands on.
use Rattle.std.proofs.Common.{◌≡◌, ℕ, ◌<◌, ◌≤◌, Bool, true, false, List, [], ◌∷◌, length, refl, sym, ap, subst, ◌∙◌, arith}
use Rattle.std.specs.Prelude.{◌≢◌, ◌==◌, Option, Some, None, is_some, option_map, slice_get, IsTrue, All, if◌then◌else◌}
use Rattle.std.specs.BTreeMap.{BTreeMap, get}
use Rattle.std.specs.Ordering.{nat_cmp}
use Rattle.std.proofs.lemmas.Grind.{common_steps}
use Rattle.std.proofs.lemmas.List.Elements.{All-head, All-tail, All-weaker}
use Rattle.luau_tree.specs.declared.names.ExprId.{ExprId}
use Rattle.type_arena.specs.Arena.{below_of, home_of, nodes_of, store_of}
use Rattle.type_arena.specs.Frozen.{holding_of}
use Rattle.type_arena.specs.Meaning.{term_of}
use Rattle.type_arena.specs.Store.{Holding, Store, IsPlaced, Keeps, node_at, nodes_at, has, with_own}
use Rattle.type_arena.specs.Term.{Term}
use Rattle.type_arena.specs.declared.arena.Arena.{Arena}
use Rattle.type_arena.specs.declared.node.Node.{Node}
use Rattle.type_arena.specs.declared.node.TypeRef.{TypeRef}
use Rattle.type_arena.proofs.ArenaLemmas.{placed-home}
use Rattle.type_decl.specs.Tables.{alone, refs_in}
use Rattle.type_decl.specs.declared.sig.Sig.{Sig}
use Rattle.type_decl.specs.declared.table.SigTable.{SigTable}
use Rattle.local_types.specs.Entries.{arena_of, arenas_of, type_of}
use Rattle.local_types.specs.Growing.{HaveHomes, AreWithin}
use Rattle.local_types.specs.declared.node.MapNode.{MapNode}
use Rattle.local_types.specs.declared.types.LocalTypes.{LocalTypes}
use Rattle.rule_state.specs.Sound.{StartsWithin, Stands, KnowsTable, KnowsImports}
use Rattle.rule_state.specs.Work.{around_in, builtins_in}
use Rattle.rule_work.specs.Around.{Around}
use Rattle.type_infer.specs.Imports.{import_at, types_imported}
use Rattle.type_infer.specs.Outside.{around_of, builtins_home}

-- an arena without nodes of its own has only those below it
below_alone : (below : Store) (home other : ℕ) → nodes_at (with_own below home []) other ≡ nodes_at below other
below_alone [] home other = by_test (home == other)
  where
    by_test : (b : Bool) → ◌≡◌ {A = List Node} (if b then [] else []) []
    by_test true = refl
    by_test false = refl
below_alone (arena ∷ below) home other = ap (λ (nodes : List Node). if arena.home == other then arena.nodes else nodes) (below_alone below home other)

store_is : (arena : Arena) (below : Store) (home : ℕ) → below_of arena ≡ below → home_of arena ≡ home → nodes_of arena ≡ [] → store_of arena ≡ with_own below home []
store_is arena below home below_is home_is none =
    ap (λ (b : Store). with_own b (home_of arena) (nodes_of arena)) below_is
    ∙ ap (λ (h : ℕ). with_own below h (nodes_of arena)) home_is
    ∙ ap (λ (nodes : List Node). with_own below home nodes) none

-- a reference with a node is at no home at or above all of its store
not_own : (below : Store) (home : ℕ) → IsPlaced below → length below ≤ home → (at : TypeRef) (node : Node) → node_at below at ≡ Some node → at.home ≢ home
not_own below home placed above at node there = λ same.
    let lower : at.home < length below = placed-home below placed at (ap is_some there) in
    omega (arith, lower, above, same)

pub starts_confined : (types : LocalTypes) (below : Store) (home : ℕ) → IsPlaced below → length below ≤ home → below_of (arena_of types) ≡ below → home_of (arena_of types) ≡ home
    → nodes_of (arena_of types) ≡ [] → types.nodes.items ≡ [] → (test : ℕ → Bool) → StartsWithin test (arena_of types) → AreWithin test types
starts_confined types below home placed above below_is home_is none no_maps test starts =
    let foreign = λ (at : TypeRef) (node : Node) (there : node_at (store_of (arena_of types)) at ≡ Some node) (same : at.home ≡ home_of (arena_of types)).
    not_own below home placed above at node
    (sym (ap (λ (nodes : List Node). slice_get nodes at.id) (below_alone below home at.home))
    ∙ sym (ap (λ (store : Store). node_at store at) (store_is (arena_of types) below home below_is home_is none)) ∙ there)
    (same ∙ home_is) in
    record {
      arena = record {
        own = starts.own;
        refs = λ at node there. starts.refs at node there (foreign at node there);
        literals = λ at node there. starts.literals at node there (foreign at node there);
      };
      maps = λ place node there. absurd (no_node place node (sym (ap (λ (nodes : List MapNode). slice_get nodes place) no_maps) ∙ there));
    }
  where
    no_node : (place : ℕ) (node : MapNode) → slice_get [] place ≡ Some node → ⊥
    no_node place node there = cc

-- what is there stays there
kept_there : (old new : Store) → Keeps old new → (at : TypeRef) → IsTrue (has old at) → IsTrue (has new at)
kept_there old new keeps at is = by_node (node_at old at) refl is
  where
    by_node : (found : Option Node) → node_at old at ≡ found → IsTrue (is_some found) → IsTrue (has new at)
    by_node (Some node) there one = ap is_some (keeps at node there)
    by_node None there one = cc

test_true : (a b : ℕ) → (a == b) ≡ true → a ≡ b
test_true a b is = grind (arith, common_steps)

-- the references of an arena that stands alone are at its home
alone_home : (arena : Holding) (at : TypeRef) → IsTrue (has (arena ∷ []) at) → at.home ≡ arena.home
alone_home arena at is = by_test (arena.home == at.home) refl is
  where
    by_test : (b : Bool) → (arena.home == at.home) ≡ b → IsTrue (is_some (slice_get (if b then arena.nodes else []) at.id)) → at.home ≡ arena.home
    by_test true same there = sym (test_true arena.home at.home same)
    by_test false same there = cc

pub starts_known : (types : LocalTypes) (outside rest : List TypeRef) (table : SigTable) (shelf : Store) → outside ≡ builtins_home ∷ rest
    → Keeps (alone table.arena) shelf → Keeps shelf (arenas_of types) → KnowsTable types outside table
starts_known types outside rest table shelf outside_is declared keeps =
    let all : Keeps (alone table.arena) (arenas_of types) = λ at node there. keeps at node (declared at node there) in
    record {
      keeps = all;
      stand = All-weaker (λ (sig : Sig). All (λ (at : TypeRef). IsTrue (has (alone table.arena) at)) (refs_in sig)) (λ (sig : Sig). All (Stands types outside) (refs_in sig))
          (λ sig. All-weaker (λ (at : TypeRef). IsTrue (has (alone table.arena) at)) (Stands types outside) (stands all) (refs_in sig)) table.sigs table.there;
    }
  where
    stands : Keeps (alone table.arena) (arenas_of types) → (at : TypeRef) → IsTrue (has (alone table.arena) at) → Stands types outside at
    stands all at is = record {
      there = kept_there (alone table.arena) (arenas_of types) all at is;
      made = λ test within outer.
          let first : IsTrue (test 0) = All-head (λ (x : TypeRef). IsTrue (test x.home)) builtins_home rest (subst (λ (refs : List TypeRef). HaveHomes test refs) outside_is outer) in
          subst (λ (home : ℕ). IsTrue (test home)) (sym (alone_home (holding_of table.arena) at is ∙ table.home)) first;
    }

-- what holds of all types that are imported holds of each
among : (P : TypeRef → Type 0) (imports : List (ExprId × TypeRef)) (id : ℕ) (at : TypeRef) → import_at imports id ≡ Some at → All P (types_imported imports) → P at
among P [] id at is all = cc
among P (entry ∷ rest) id at is all = by_test (λ later. among P rest id at later (All-tail P entry.1 (types_imported rest) all)) (entry.0.0 == id) is
  where
    by_test : (import_at rest id ≡ Some at → P at) → (b : Bool) → (if b then Some entry.1 else import_at rest id) ≡ Some at → P at
    by_test next true found = let same : entry.1 ≡ at = cc in subst P same (All-head P entry.1 (types_imported rest) all)
    by_test next false found = next found

pub starts_imported : (types : LocalTypes) (outside : List TypeRef) (imports : List (ExprId × TypeRef)) (found : BTreeMap ℕ TypeRef) (shelf : Store) → outside ≡ builtins_home ∷ types_imported imports
    → ((id : ℕ) → get nat_cmp found id ≡ import_at imports id) → Keeps shelf (arenas_of types) → All (λ at. IsTrue (has shelf at)) (types_imported imports) → KnowsImports types outside found
starts_imported types outside imports found shelf outside_is found_is keeps all id at is = record {
  there = kept_there shelf (arenas_of types) keeps at (among (λ x. IsTrue (has shelf x)) imports id at (sym (found_is id) ∙ is) all);
  made = λ test within outer.
      among (λ x. IsTrue (test x.home)) imports id at (sym (found_is id) ∙ is)
      (All-tail (λ (x : TypeRef). IsTrue (test x.home)) builtins_home (types_imported imports) (subst (λ (refs : List TypeRef). HaveHomes test refs) outside_is outer));
}

imports_meant : (P : TypeRef → Type 0) (new old : TypeRef → Term) → ((at : TypeRef) → P at → new at ≡ old at) → (imports : List (ExprId × TypeRef)) (id : ℕ) → All P (types_imported imports)
    → option_map new (import_at imports id) ≡ option_map old (import_at imports id)
imports_meant P new old same [] id all = refl
imports_meant P new old same (entry ∷ rest) id all = by_test (imports_meant P new old same rest id (All-tail P entry.1 (types_imported rest) all)) (entry.0.0 == id)
  where
    by_test : option_map new (import_at rest id) ≡ option_map old (import_at rest id) → (b : Bool)
        → option_map new (if b then Some entry.1 else import_at rest id) ≡ option_map old (if b then Some entry.1 else import_at rest id)
    by_test next true = ap Some (same entry.1 (All-head P entry.1 (types_imported rest) all))
    by_test next false = next

abbrev around_with : (home : ℕ) → Store → List TypeRef → SigTable → (ℕ → Option Term) → Around
around_with home below outside table imports = record { home = home; below = below; outside = outside; builtins = builtins_in table; imports = imports }

pub around_is : (types : LocalTypes) (home : ℕ) (outside : List TypeRef) (table : SigTable) (imports : List (ExprId × TypeRef)) (found : BTreeMap ℕ TypeRef) (shelf : Store)
    → below_of (arena_of types) ≡ shelf → outside ≡ builtins_home ∷ types_imported imports → ((id : ℕ) → get nat_cmp found id ≡ import_at imports id)
    → ((at : TypeRef) → IsTrue (has shelf at) → term_of (arenas_of types) at ≡ term_of shelf at) → All (λ at. IsTrue (has shelf at)) (types_imported imports)
    → around_in types home outside table found ≡ around_of shelf home table imports
around_is types home outside table imports found shelf below_is outside_is found_is kept all =
    let meant : (id : ℕ) → option_map (type_of types) (get nat_cmp found id) ≡ option_map (term_of shelf) (import_at imports id) =
    λ id. ap (option_map (type_of types)) (found_is id) ∙ imports_meant (λ at. IsTrue (has shelf at)) (type_of types) (term_of shelf) kept imports id all in
    ap (λ (below : Store). around_with home below outside table (λ id. option_map (type_of types) (get nat_cmp found id))) below_is
    ∙ ap (λ (refs : List TypeRef). around_with home shelf refs table (λ id. option_map (type_of types) (get nat_cmp found id))) outside_is
    ∙ ap (λ (given : ℕ → Option Term). around_with home shelf (builtins_home ∷ types_imported imports) table given) (λ i. λ id. meant id i)
