use Rattle.std.proofs.Common.{◌≡◌, ℕ, ◌∷◌, [], ap, sym, ◌∙◌, subst}
use Rattle.std.specs.Prelude.{Contains, IfOk}
use Rattle.type_arena.specs.Arena.{store_of}
use Rattle.type_arena.specs.Homes.{literal_homes}
use Rattle.type_arena.specs.Meaning.{term_of, term_by}
use Rattle.type_arena.specs.Store.{refs_of}
use Rattle.type_arena.specs.declared.node.Node.{Node}
use Rattle.type_arena.specs.declared.node.TypeRef.{TypeRef}
use Rattle.type_arena.proofs.MeaningLemmas.{term_of-node}
use Rattle.type_normal.specs.Holds.{holds}
use Rattle.type_normal.specs.Operations.{not_free}
use Rattle.type_normal.proofs.HoldsFacts.{not_free_holds}
use Rattle.type_normal.proofs.AddsFacts.{FromRefs, FromLiterals, ok_more, interned_adds}
use Rattle.type_normal.proofs.ComplementFacts.{complement_means, complement_refs, complement_literals}
use Rattle.type_normal.proofs.CleanFacts.{interned_is_clean, ok_both}
use Rattle.type_normal.proofs.complement.not_free.Goals.{After-intern}
use Rattle.type_normal.proofs.complement.not_free.Goals as goal

-- the node that is interned means the complement
node_means : (c : After-intern) → term_by (term_of (store_of c.args.arena.now)) c.in_ok-node.node ≡ not_free (term_of (store_of c.args.arena.now) c.args.a)
node_means c =
    ap (term_by (term_of (store_of c.args.arena.now))) c.in_ok-node.ensures
    ∙ complement_means (term_of (store_of c.args.arena.now)) c.node.result.now
    ∙ ap not_free (sym (term_of-node (store_of c.args.arena.now) c.args.arena.now.sound c.args.a c.node.result.now c.node.ensures))

meaning : (c : After-intern) → IfOk c.intern.result (λ at. term_of (store_of c.intern.new.self) at ≡ not_free (term_of (store_of c.args.arena.now) c.args.a))
meaning c = ok_more c.intern.result _ _ c.intern.ensures.meaning (λ at e. e ∙ node_means c)

pub returns-clause-term : goal.returns-clause-term
returns-clause-term c = meaning c

pub returns-clause-values : goal.returns-clause-values
returns-clause-values c =
    ok_more c.intern.result _ _ (meaning c)
    (λ at e flat h v. ap (holds h v) e ∙ not_free_holds h v (term_of (store_of c.args.arena.now) c.args.a) flat)

pub returns-clause-adds : goal.returns-clause-adds
returns-clause-adds c =
    interned_adds c.args.arena.now c.intern.new.self (c.args.a ∷ []) c.in_ok-node.node c.intern.result
    c.intern.ensures.below c.intern.ensures.own_home c.intern.ensures.keeps c.intern.ensures.kept
    (subst (λ (n : Node). (child : TypeRef) → Contains (refs_of n) child → FromRefs (store_of c.args.arena.now) (c.args.a ∷ []) child) (sym c.in_ok-node.ensures)
    (complement_refs (store_of c.args.arena.now) (c.args.a ∷ []) c.node.result.now))
    (subst (λ (n : Node). (home : ℕ) → Contains (literal_homes n.functions) home → FromLiterals (store_of c.args.arena.now) (c.args.a ∷ []) home) (sym c.in_ok-node.ensures)
    (complement_literals (store_of c.args.arena.now) c.args.a c.node.result.now c.node.ensures))
    c.intern.ensures.homes

pub returns-clause-clean : goal.returns-clause-clean
returns-clause-clean c =
    ok_both c.intern.result _ _ _ c.intern.ensures.node c.intern.ensures.home
    (λ at made home. interned_is_clean c.args.arena.now c.intern.new.self (c.args.a ∷ []) c.in_ok-node.node at made home c.intern.ensures.own_home c.intern.ensures.keeps
    (subst (λ (n : Node). (child : TypeRef) → Contains (refs_of n) child → FromRefs (store_of c.args.arena.now) (c.args.a ∷ []) child) (sym c.in_ok-node.ensures)
    (complement_refs (store_of c.args.arena.now) (c.args.a ∷ []) c.node.result.now))
    (subst (λ (n : Node). (home : ℕ) → Contains (literal_homes n.functions) home → FromLiterals (store_of c.args.arena.now) (c.args.a ∷ []) home) (sym c.in_ok-node.ensures)
    (complement_literals (store_of c.args.arena.now) c.args.a c.node.result.now c.node.ensures)))
