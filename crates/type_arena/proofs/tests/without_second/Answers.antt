use Rattle.std.proofs.Common.{◌≡◌, sym, subst, ◌∙◌, ap, [], ◌∷◌}
use Rattle.type_arena.specs.Frozen.{holding_of}
use Rattle.type_arena.specs.Store.{IsPlaced, IsClosed}
use Rattle.type_arena.proofs.TestLemmas.{held, first_holding, without_one, without_one-placed, without_one-closed}
use Rattle.type_arena.proofs.tests.without_second.Goals.{After-drop-arenas-2}
use Rattle.type_arena.proofs.tests.without_second.Goals as goal

three : (c : After-drop-arenas-2) → holding_of c.in_ok-first.first ∷ holding_of c.freeze-empty.result ∷ holding_of c.in_ok-third.third ∷ [] ≡ without_one c.in_ok-arenas.ensures.nodes.0 c.in_ok-node.node
three c =
    let arenas = c.in_ok-arenas.ensures.nodes in
    let kept : holding_of c.index.result.now ≡ held 0 (arenas.0 ∷ []) = ap holding_of c.index.ensures ∙ first_holding c.in_ok-arenas.arenas.items c.index.result.now _ _ arenas.3 in
    let first : holding_of c.in_ok-first.first ≡ held 0 (arenas.0 ∷ []) = c.in_ok-first.ensures ∙ kept in
    let empty : holding_of c.freeze-empty.result ≡ held 1 [] = c.freeze-empty.ensures.nodes ∙ (λ j. held (c.in_ok-over.ensures.home j) (c.in_ok-over.ensures.empty j)) in
    λ j. first j ∷ empty j ∷ c.in_ok-third.ensures.nodes j ∷ []

pub returns-clause-placed : goal.returns-clause-placed
returns-clause-placed c = subst IsPlaced (sym (three (goal.at.returns-clause-placed c).After-drop-arenas-2)) (without_one-placed _ _)

pub returns-clause-closed : goal.returns-clause-closed
returns-clause-closed c =
    let d = (goal.at.returns-clause-closed c).After-drop-arenas-2 in
    subst IsClosed (sym (three d)) (without_one-closed _ _ d.in_ok-arenas.ensures.nodes.2 d.in_ok-node.ensures)
