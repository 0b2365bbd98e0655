-- What interning a node does to what references mean, and which homes it uses.
use Rattle.std.proofs.Common.{◌≡◌, ℕ, ◌≤◌, List, [], ◌∷◌, length, refl, sym, subst, ◌∙◌, Bool}
use Rattle.std.specs.Prelude.{Some, None, IsTrue, All, Contains, ◌⊎◌, Result, Ok, Err, IfOk, OnErr}
use Rattle.std.proofs.Common.{inl, inr}
use Rattle.std.specs.Bool.{Decides}
use Rattle.std.specs.List.{position_or_len}
use Rattle.std.proofs.lemmas.List.Elements.{All-contains_itself, All-weaker, All-cons, All-nil, All-contains}
use Rattle.indexmap.specs.IndexSet.{insert_key}
use Rattle.type_arena.specs.Homes.{itself, by_ref, Given, MayUse, own_home, given_literal, reached, UsesHomes, literal_homes}
use Rattle.type_arena.specs.Meaning.{term_of, term_by}
use Rattle.type_arena.specs.Store.{Store, node_at, has, refs_of, IsPlaced, IsSound, Keeps, with_own, Interned}
use Rattle.type_arena.specs.declared.node.Node.{Node}
use Rattle.type_arena.specs.declared.node.TypeRef.{TypeRef}
use Rattle.type_arena.proofs.ArenaLemmas.{Keeps-own, Interned-grows, Interned-at, Interned-from_insert, interned-origin, IsSound-interned, node_at-own}
use Rattle.type_arena.proofs.MeaningLemmas.{term_by-same, term_of-node, term_of-kept}
use Rattle.type_arena.proofs.StoreLemmas.{ref_of}

module _ (below : Store) (placed : IsPlaced below) (home : ℕ) (above : length below ≤ home) (old new : List Node) (node : Node) (id : ℕ) (sound : IsSound (with_own below home old)) (children : All (λ child. IsTrue (has (with_own below home old) child)) (refs_of node)) (interned : Interned old new node id) where
  -- what was there stays
  pub interned-keeps : Keeps (with_own below home old) (with_own below home new)
  interned-keeps = Keeps-own below placed home above old new (Interned-grows old new node id interned)

  -- the reference has the node
  pub interned-node : node_at (with_own below home new) (ref_of home id) ≡ Some node
  interned-node = node_at-own below placed home above new (ref_of home id) refl ∙ Interned-at old new node id interned

  -- what was there means what it meant
  pub interned-kept : (at : TypeRef) → IsTrue (has (with_own below home old) at) → term_of (with_own below home new) at ≡ term_of (with_own below home old) at
  interned-kept at there =
      sym (term_of-kept (with_own below home old) (with_own below home new) sound (IsSound-interned below placed home above old new node id sound children interned) interned-keeps at there)

  -- the reference means the node's term
  pub interned-meaning : term_of (with_own below home new) (ref_of home id) ≡ term_by (term_of (with_own below home old)) node
  interned-meaning =
      term_of-node (with_own below home new) (IsSound-interned below placed home above old new node id sound children interned) (ref_of home id) node interned-node
      ∙ term_by-same (term_of (with_own below home new)) (term_of (with_own below home old)) node
      (λ child inside. interned-kept child (All-contains (λ c. IsTrue (has (with_own below home old) c)) (refs_of node) child children inside))

  -- no home is used but its own and those of the node
  pub interned-homes : UsesHomes home (with_own below home old) (with_own below home new) (record { refs = refs_of node; literals = literal_homes node.functions }) (ref_of home id ∷ [])
  interned-homes = record {
    answered = All-cons (λ at. May at.home) (ref_of home id) [] own_home (All-nil (λ at. May at.home));
    refs = λ at there e absent. of_node at there e absent (interned-origin below placed home above old new node id interned at there e);
    literals = λ at there e absent. literals_of_node at there absent (interned-origin below placed home above old new node id interned at there e);
  }
    where
      given : Given
      given = record { refs = refs_of node; literals = literal_homes node.functions }

      May : ℕ → Type 0
      May = MayUse (with_own below home old) home given

      of_node : (at : TypeRef) (there : Node) → node_at (with_own below home new) at ≡ Some there → node_at (with_own below home old) at ≡ None → (node_at (with_own below home old) at ≡ Some there) ⊎ ((at ≡ ref_of home (length old)) × (there ≡ node)) → All (λ child. May child.home) (refs_of there)
      of_node at there e absent (inl was) = cc
      of_node at there e absent (inr (last, same)) =
          subst (λ (n : Node). All (λ child. May child.home) (refs_of n)) (sym same)
          (All-weaker (Contains (refs_of node)) (λ child. May child.home) (λ child inside. reached child child.home inside (by_ref child itself)) (refs_of node) (All-contains_itself (refs_of node)))

      literals_of_node : (at : TypeRef) (there : Node) → node_at (with_own below home old) at ≡ None → (node_at (with_own below home old) at ≡ Some there) ⊎ ((at ≡ ref_of home (length old)) × (there ≡ node)) → All May (literal_homes there.functions)
      literals_of_node at there absent (inl was) = cc
      literals_of_node at there absent (inr (last, same)) =
          subst (λ (n : Node). All May (literal_homes n.functions)) (sym same)
          (All-weaker (Contains (literal_homes node.functions)) May (λ other inside. given_literal other inside) (literal_homes node.functions) (All-contains_itself (literal_homes node.functions)))

-- whether or not a set takes a node whose references are there, the arena stays sound
pub sound_either_way : {X Y : Type 0} (below : Store) (placed : IsPlaced below) (home : ℕ) (above : length below ≤ home) (test : Node → Node → Bool) → ((a b : Node) → Decides (test a b) (a ≡ b)) → (old new : List Node) (node : Node) (index : X → ℕ) (result : Result X Y)
    → IsSound (with_own below home old) → All (λ child. IsTrue (has (with_own below home old) child)) (refs_of node)
    → IfOk result (λ _. new ≡ insert_key test old node) → IfOk result (λ r. index r ≡ position_or_len (test node) old) → OnErr result (new ≡ old)
    → IsSound (with_own below home new)
sound_either_way below placed home above test decides old new node index (Ok r) sound children keys at err =
    IsSound-interned below placed home above old new node (index r) sound children (Interned-from_insert test decides node old new (index r) keys at)
sound_either_way below placed home above test decides old new node index (Err e) sound children keys at err =
    subst (λ (nodes : List Node). IsSound (with_own below home nodes)) (sym err) sound
