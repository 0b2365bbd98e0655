use Rattle.std.proofs.Common.{◌≡◌, ◌∷◌, [], ℕ, refl, ap, sym, ◌∙◌, subst}
use Rattle.std.specs.Prelude.{◌||◌, IsTrue, All, Contains}
use Rattle.type_arena.specs.Arena.{store_of}
use Rattle.type_arena.specs.Homes.{literal_homes}
use Rattle.type_arena.specs.Meaning.{term_of, term_by}
use Rattle.type_arena.specs.Store.{has, refs_of}
use Rattle.type_arena.specs.declared.node.Node.{Node}
use Rattle.type_arena.specs.declared.node.TypeRef.{TypeRef}
use Rattle.type_arena.proofs.MeaningLemmas.{term_of-node}
use Rattle.type_normal.specs.Holds.{holds}
use Rattle.type_normal.specs.Operations.{union}
use Rattle.type_normal.proofs.AddsFacts.{FromRefs, FromLiterals, uses_from}
use Rattle.type_normal.proofs.Public.{union_holds}
use Rattle.type_normal.specs.Growing.{given_refs}
use Rattle.type_ops.proofs.GrowFacts.{interned_clean, refs_clean, literals_may}
use Rattle.type_ops.proofs.JoinFacts.{union_means, union_there, union_refs, union_literals}
use Rattle.type_ops.proofs.joining.union.Goals.{In_ok-at}
use Rattle.type_ops.proofs.joining.union.Goals as goal

pub intern-requires : goal.intern-requires
intern-requires c =
    let store = store_of c.args.arena.now in
    subst (λ (n : Node). All (λ at. IsTrue (has store at)) (refs_of n)) (sym c.in_ok-node.ensures)
    (union_there (λ at. IsTrue (has store at)) (term_of store) c.node.result.now c.node-2.result.now
    (c.args.arena.now.sound.there c.args.a c.node.result.now c.node.ensures) (c.args.arena.now.sound.there c.args.b c.node-2.result.now c.node-2.ensures))

meaning : (c : In_ok-at) → term_of (store_of c.intern.new.self) c.in_ok-at.at ≡ union (term_of (store_of c.args.arena.now) c.args.a) (term_of (store_of c.args.arena.now) c.args.b)
meaning c =
    let first = term_of-node (store_of c.args.arena.now) c.args.arena.now.sound c.args.a c.node.result.now c.node.ensures in
    let second = term_of-node (store_of c.args.arena.now) c.args.arena.now.sound c.args.b c.node-2.result.now c.node-2.ensures in
    c.in_ok-at.ensures.meaning
    ∙ ap (term_by (term_of (store_of c.args.arena.now))) c.in_ok-node.ensures
    ∙ union_means (term_of (store_of c.args.arena.now)) c.node.result.now c.node-2.result.now
    ∙ sym (λ i. union (first i) (second i))

pub returns-clause-term : goal.returns-clause-term
returns-clause-term c = meaning c

pub returns-clause-values : goal.returns-clause-values
returns-clause-values c h v = ap (holds h v) (meaning c) ∙ union_holds h v (term_of (store_of c.args.arena.now) c.args.a) (term_of (store_of c.args.arena.now) c.args.b)

pub returns-clause-adds : goal.returns-clause-adds
returns-clause-adds c = record {
  below = c.in_ok-at.ensures.below;
  home = c.in_ok-at.ensures.own_home;
  keeps = c.in_ok-at.ensures.keeps;
  kept = c.in_ok-at.ensures.kept;
  homes =
      uses_from _ (store_of c.args.arena.now) (store_of c.intern.new.self) (c.args.a ∷ c.args.b ∷ []) c.in_ok-node.node c.in_ok-at.at
      (subst (λ (n : Node). (child : TypeRef) → Contains (refs_of n) child → FromRefs (store_of c.args.arena.now) (c.args.a ∷ c.args.b ∷ []) child) (sym c.in_ok-node.ensures)
      (union_refs (store_of c.args.arena.now) (term_of (store_of c.args.arena.now)) c.args.a c.args.b c.node.result.now c.node-2.result.now c.node.ensures c.node-2.ensures))
      (subst (λ (n : Node). (home : ℕ) → Contains (literal_homes n.functions) home → FromLiterals (store_of c.args.arena.now) (c.args.a ∷ c.args.b ∷ []) home) (sym c.in_ok-node.ensures)
      (union_literals (store_of c.args.arena.now) (term_of (store_of c.args.arena.now)) c.args.a c.args.b c.node.result.now c.node-2.result.now c.node.ensures c.node-2.ensures))
      c.in_ok-at.ensures.homes;
}

pub returns-clause-clean : goal.returns-clause-clean
returns-clause-clean c =
    let store = store_of c.args.arena.now in
    let refs : (child : TypeRef) → Contains (refs_of c.in_ok-node.node) child → FromRefs (store_of c.args.arena.now) (c.args.a ∷ c.args.b ∷ []) child =
    subst (λ (n : Node). (child : TypeRef) → Contains (refs_of n) child → FromRefs (store_of c.args.arena.now) (c.args.a ∷ c.args.b ∷ []) child) (sym c.in_ok-node.ensures)
    (union_refs store (term_of store) c.args.a c.args.b c.node.result.now c.node-2.result.now c.node.ensures c.node-2.ensures) in
    let literals : (home : ℕ) → Contains (literal_homes c.in_ok-node.node.functions) home → FromLiterals (store_of c.args.arena.now) (c.args.a ∷ c.args.b ∷ []) home =
    subst (λ (n : Node). (home : ℕ) → Contains (literal_homes n.functions) home → FromLiterals (store_of c.args.arena.now) (c.args.a ∷ c.args.b ∷ []) home) (sym c.in_ok-node.ensures)
    (union_literals store (term_of store) c.args.a c.args.b c.node.result.now c.node-2.result.now c.node.ensures c.node-2.ensures) in
    let there =
    subst (λ (n : Node). All (λ at. IsTrue (has store at)) (refs_of n)) (sym c.in_ok-node.ensures)
    (union_there (λ at. IsTrue (has store at)) (term_of store) c.node.result.now c.node-2.result.now
    (c.args.arena.now.sound.there c.args.a c.node.result.now c.node.ensures) (c.args.arena.now.sound.there c.args.b c.node-2.result.now c.node-2.ensures)) in
    interned_clean c.args.arena.now c.args.arena.now c.intern.new.self (given_refs (c.args.a ∷ c.args.b ∷ [])) c.in_ok-node.node c.in_ok-at.at
    (refs_clean c.args.arena.now (c.args.a ∷ c.args.b ∷ []) (refs_of c.in_ok-node.node) refs) (literals_may c.args.arena.now (c.args.a ∷ c.args.b ∷ []) (literal_homes c.in_ok-node.node.functions) literals)
    there refl c.in_ok-at.ensures.node c.in_ok-at.ensures.home c.in_ok-at.ensures.own_home c.in_ok-at.ensures.keeps
