-- What one node that is interned adds to an arena, where its parts come from nodes that are there.
use Rattle.std.proofs.Common.{◌≡◌, ℕ, zero, List, [], ◌∷◌, refl, ap, ◌∙◌, arith}
use Rattle.std.specs.Prelude.{IsTrue, Some, None, Contains, Result, Ok, Err, IfOk, Option, is_some}
use Rattle.std.proofs.lemmas.List.Elements.{All-weaker, All-nil}
use Rattle.type_arena.specs.Arena.{home_of, nodes_of, below_of, store_of}
use Rattle.type_arena.specs.Homes.{itself, through, ReachesHome, by_ref, by_literal, Given, MayUse, own_home, given_literal, reached, UsesHomes, literal_homes}
use Rattle.type_arena.specs.Meaning.{term_of}
use Rattle.type_arena.specs.Store.{Store, node_at, has, refs_of, Keeps, with_own}
use Rattle.type_arena.specs.declared.arena.Arena.{Arena}
use Rattle.type_arena.specs.declared.node.Node.{Node}
use Rattle.type_arena.specs.declared.node.TypeRef.{TypeRef}
use Rattle.type_normal.specs.Adds.{Adds}

-- a given reference has a node with this reference, or with a literal of this home
abbrev pub FromRefs : Store → List TypeRef → TypeRef → Type 0
FromRefs store refs child = (at : TypeRef) × (node : Node) × Contains refs at × (node_at store at ≡ Some node) × Contains (refs_of node) child

abbrev pub FromLiterals : Store → List TypeRef → ℕ → Type 0
FromLiterals store refs home = (at : TypeRef) × (node : Node) × Contains refs at × (node_at store at ≡ Some node) × Contains (literal_homes node.functions) home

pub alone : (at : TypeRef) → Contains (at ∷ []) at
alone at = (zero, omega arith, refl)

reach_through : (store : Store) (at child : TypeRef) (node : Node) (home : ℕ) → node_at store at ≡ Some node → Contains (refs_of node) child → ReachesHome store child home → ReachesHome store at home
reach_through store at child node home e inside (by_ref far way) = by_ref far (through node e inside way)
reach_through store at child node home e inside (by_literal far other home' way there lit) = by_literal far other home' (through node e inside way) there lit

may_from : (store : Store) (own : ℕ) (refs : List TypeRef) (node : Node) → ((child : TypeRef) → Contains (refs_of node) child → FromRefs store refs child)
    → ((home : ℕ) → Contains (literal_homes node.functions) home → FromLiterals store refs home)
    → (home : ℕ) → MayUse store own (record { refs = refs_of node; literals = literal_homes node.functions }) home → MayUse store own (record { refs = refs; literals = [] }) home
may_from store own refs node children literals home own_home = own_home
may_from store own refs node children literals home (given_literal h inside) =
    let from = literals h inside in
    reached from.0 h from.2 (by_literal from.0 from.1 h itself from.3 from.4)
may_from store own refs node children literals home (reached child h inside way) =
    let from = children child inside in
    reached from.0 h from.2 (reach_through store from.0 child from.1 h from.3 from.4 way)

uses_more : (own : ℕ) (old new : Store) (given more : Given) (answers : List TypeRef) → ((home : ℕ) → MayUse old own given home → MayUse old own more home)
    → UsesHomes own old new given answers → UsesHomes own old new more answers
uses_more own old new given more answers may uses = record {
  answered = All-weaker (λ at. MayUse old own given at.home) (λ at. MayUse old own more at.home) (λ at. may at.home) answers uses.answered;
  refs = λ at node e absent. All-weaker (λ child. MayUse old own given child.home) (λ child. MayUse old own more child.home) (λ child. may child.home) (refs_of node) (uses.refs at node e absent);
  literals = λ at node e absent. All-weaker (MayUse old own given) (MayUse old own more) may (literal_homes node.functions) (uses.literals at node e absent);
}

pub uses_from : (own : ℕ) (old new : Store) (refs : List TypeRef) (node : Node) (at : TypeRef) → ((child : TypeRef) → Contains (refs_of node) child → FromRefs old refs child)
    → ((home : ℕ) → Contains (literal_homes node.functions) home → FromLiterals old refs home)
    → UsesHomes own old new (record { refs = refs_of node; literals = literal_homes node.functions }) (at ∷ [])
    → UsesHomes own old new (record { refs = refs; literals = [] }) (at ∷ [])
uses_from own old new refs node at children literals uses = uses_more own old new _ _ (at ∷ []) (may_from old own refs node children literals) uses

-- an arena with the same shelf, home and nodes has the same store
same_store : (old new : Arena) → below_of new ≡ below_of old → home_of new ≡ home_of old → nodes_of new ≡ nodes_of old → store_of new ≡ store_of old
same_store old new below home nodes = λ i. with_own (below i) (home i) (nodes i)

-- such an arena has got nothing
pub adds_none : (old new : Arena) (given : Given) → below_of new ≡ below_of old → home_of new ≡ home_of old → nodes_of new ≡ nodes_of old → Adds old new given []
adds_none old new given below home nodes =
    let same : store_of new ≡ store_of old = same_store old new below home nodes in
    record {
      below = below;
      home = home;
      keeps = λ at node e. ap (λ (s : Store). node_at s at) same ∙ e;
      kept = λ at there. ap (λ (s : Store). term_of s at) same;
      homes = record {
        answered = All-nil (λ at. MayUse (store_of old) (home_of old) given at.home);
        refs = λ at node e absent. absurd (none_there at node e absent same);
        literals = λ at node e absent. absurd (none_there at node e absent same);
      };
    }
  where
    none_there : (at : TypeRef) (node : Node) → node_at (store_of new) at ≡ Some node → node_at (store_of old) at ≡ None → store_of new ≡ store_of old → ⊥
    none_there at node e absent same = let k : node_at (store_of new) at ≡ node_at (store_of old) at = ap (λ (s : Store). node_at s at) same in cc

-- what holds where a call gives a value, from what holds there
pub ok_more : {A E : Type 0} (r : Result A E) (P Q : A → Type 0) → IfOk r P → ((x : A) → P x → Q x) → IfOk r Q
ok_more (Ok x) P Q p more = more x p
ok_more (Err e) P Q p more = tt

-- a node that is interned, whose references and literals come from those of given references
pub interned_adds : {E : Type 0} (old new : Arena) (refs : List TypeRef) (node : Node) (r : Result TypeRef E) → below_of new ≡ below_of old → home_of new ≡ home_of old
    → Keeps (store_of old) (store_of new) → ((at : TypeRef) → IsTrue (has (store_of old) at) → term_of (store_of new) at ≡ term_of (store_of old) at)
    → ((child : TypeRef) → Contains (refs_of node) child → FromRefs (store_of old) refs child)
    → ((home : ℕ) → Contains (literal_homes node.functions) home → FromLiterals (store_of old) refs home)
    → IfOk r (λ at. UsesHomes (home_of old) (store_of old) (store_of new) (record { refs = refs_of node; literals = literal_homes node.functions }) (at ∷ []))
    → IfOk r (λ at. Adds old new (record { refs = refs; literals = [] }) (at ∷ []))
interned_adds old new refs node r below home keeps kept children literals uses =
    ok_more r _ _ uses (λ at u. record {
      below = below;
      home = home;
      keeps = keeps;
      kept = kept;
      homes = uses_from (home_of old) (store_of old) (store_of new) refs node at children literals u;
    })

-- what is there stays there
pub there_kept : (old new : Store) (at : TypeRef) → Keeps old new → IsTrue (has old at) → IsTrue (has new at)
there_kept old new at keeps there = go (node_at old at) refl there
  where
    go : (o : Option Node) → node_at old at ≡ o → IsTrue (is_some o) → IsTrue (has new at)
    go None e there = cc
    go (Some node) e there = ap is_some (keeps at node e)
