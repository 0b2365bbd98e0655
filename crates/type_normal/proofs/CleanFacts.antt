-- What is reached from an answer that was interned.
use Rattle.std.proofs.Common.{◌≡◌, ℕ, List, [], ◌∷◌, sym, ◌∙◌, subst}
use Rattle.std.specs.Prelude.{Some, IsTrue, Contains, Result, Ok, Err, IfOk}
use Rattle.std.proofs.lemmas.List.Elements.{All-contains}
use Rattle.type_arena.specs.Arena.{home_of, store_of}
use Rattle.type_arena.specs.Homes.{Reaches, itself, through, ReachesHome, by_ref, by_literal, MayUse, own_home, reached, literal_homes}
use Rattle.type_arena.specs.Store.{Store, IsSound, node_at, has, refs_of, Keeps}
use Rattle.type_arena.specs.declared.arena.Arena.{Arena}
use Rattle.type_arena.specs.declared.node.Node.{Node}
use Rattle.type_arena.specs.declared.node.TypeRef.{TypeRef}
use Rattle.type_arena.proofs.MeaningLemmas.{Reaches-there, has-kept}
use Rattle.type_normal.specs.Growing.{given_refs, IsClean}
use Rattle.type_normal.proofs.AddsFacts.{FromRefs, FromLiterals, alone}

-- what is reached in a store that has got nodes, from what was there, was reached before
reach_back : (old new : Store) → IsSound old → Keeps old new → {at far : TypeRef} → Reaches new at far → IsTrue (has old at) → Reaches old at far
reach_back old new sound keeps itself there = itself
reach_back old new sound keeps (through {at = at} {child = child} node e inside rest) there =
    let same : node_at old at ≡ Some node = has-kept old new keeps at there ∙ e in
    through node same inside (reach_back old new sound keeps rest (All-contains (λ c. IsTrue (has old c)) (refs_of node) child (sound.there at node same) inside))

pub home_back : (old new : Store) → IsSound old → Keeps old new → (at : TypeRef) (home : ℕ) → ReachesHome new at home → IsTrue (has old at) → ReachesHome old at home
home_back old new sound keeps at home (by_ref far way) there = by_ref far (reach_back old new sound keeps way there)
home_back old new sound keeps at home (by_literal far node h way e inside) there =
    let w : Reaches old at far = reach_back old new sound keeps way there in
    by_literal far node h w (has-kept old new keeps far (Reaches-there old sound w there) ∙ e) inside

-- a given reference reaches what its node reaches
given_child : (store : Store) (refs : List TypeRef) (child far : TypeRef) → FromRefs store refs child → Reaches store child far → (at : TypeRef) × Contains refs at × Reaches store at far
given_child store refs child far from way = (from.0, from.2, through from.1 from.3 from.4 way)

-- an interned node, whose references and literals come from those of given references
pub interned_is_clean : (old new : Arena) (refs : List TypeRef) (node : Node) (at : TypeRef)
    → node_at (store_of new) at ≡ Some node → at.home ≡ home_of new → home_of new ≡ home_of old → Keeps (store_of old) (store_of new)
    → ((child : TypeRef) → Contains (refs_of node) child → FromRefs (store_of old) refs child)
    → ((home : ℕ) → Contains (literal_homes node.functions) home → FromLiterals (store_of old) refs home)
    → IsClean old new (given_refs refs) at
interned_is_clean old new refs node at made home own keeps children literals h way = go h way
  where
    own_one : MayUse (store_of old) (home_of old) (given_refs refs) at.home
    own_one = subst (λ (x : ℕ). MayUse (store_of old) (home_of old) (given_refs refs) x) (sym (home ∙ own)) own_home

    equal : (n : Node) → node_at (store_of new) at ≡ Some n → n ≡ node
    equal n e = cc

    there : (child : TypeRef) → FromRefs (store_of old) refs child → IsTrue (has (store_of old) child)
    there child from = All-contains (λ r. IsTrue (has (store_of old) r)) (refs_of from.1) child (old.sound.there from.0 from.1 from.3) from.4

    deeper : (child : TypeRef) (h : ℕ) → FromRefs (store_of old) refs child → ReachesHome (store_of old) child h → MayUse (store_of old) (home_of old) (given_refs refs) h
    deeper child h from (by_ref far way) = let g = given_child (store_of old) refs child far from way in reached g.0 far.home g.1 (by_ref far g.2)
    deeper child h from (by_literal far n h' way e inside) = let g = given_child (store_of old) refs child far from way in reached g.0 h' g.1 (by_literal far n h' g.2 e inside)

    from_child : (n : Node) (child : TypeRef) (h : ℕ) → node_at (store_of new) at ≡ Some n → Contains (refs_of n) child → ReachesHome (store_of new) child h
        → MayUse (store_of old) (home_of old) (given_refs refs) h
    from_child n child h e inside way =
        let from = children child (subst (λ (m : Node). Contains (refs_of m) child) (equal n e) inside) in
        deeper child h from (home_back (store_of old) (store_of new) old.sound keeps child h way (there child from))

    from_literal : (n : Node) (h : ℕ) → node_at (store_of new) at ≡ Some n → Contains (literal_homes n.functions) h → MayUse (store_of old) (home_of old) (given_refs refs) h
    from_literal n h e inside =
        let from = literals h (subst (λ (m : Node). Contains (literal_homes m.functions) h) (equal n e) inside) in
        reached from.0 h from.2 (by_literal from.0 from.1 h itself from.3 from.4)

    go : (h : ℕ) → ReachesHome (store_of new) at h → MayUse (store_of old) (home_of old) (given_refs refs) h
    go h (by_ref far itself) = own_one
    go h (by_ref far (through {child = child} n e inside rest)) = from_child n child far.home e inside (by_ref far rest)
    go h (by_literal far n h' itself e inside) = from_literal n h' e inside
    go h (by_literal far n h' (through {child = child} m d within rest) e inside) = from_child m child h' d within (by_literal far n h' rest e inside)

-- an answer that was given
pub itself_is_clean : (arena : Arena) (a : TypeRef) → IsClean arena arena (given_refs (a ∷ [])) a
itself_is_clean arena a home way = reached a home (alone a) way

-- two facts of one answer
pub ok_both : {A E : Type 0} (r : Result A E) (P Q R : A → Type 0) → IfOk r P → IfOk r Q → ((x : A) → P x → Q x → R x) → IfOk r R
ok_both (Ok x) P Q R p q both = both x p q
ok_both (Err e) P Q R p q both = tt
