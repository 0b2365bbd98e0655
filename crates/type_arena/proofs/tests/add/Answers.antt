use Rattle.std.proofs.Common.{◌≡◌, sym, subst, ◌∙◌, ap, length, [], ◌∷◌, ◌++◌, ℕ}
use Rattle.std.proofs.lemmas.List.{map-append, length-map}
use Rattle.type_arena.specs.Store.{Holding, Store, IsPlaced, IsClosed, IsSound}
use Rattle.type_arena.specs.Frozen.{holding_of, holdings_of}
use Rattle.type_arena.proofs.LongerLemmas.{IsPlaced-push}
use Rattle.type_arena.proofs.TestLemmas.{held}
use Rattle.type_arena.proofs.tests.add.Goals.{In_ok-push}
use Rattle.type_arena.proofs.tests.add.Goals as goal

-- the shelf has the new arena last
grown : (c : In_ok-push) → holdings_of c.push.new.self.items ≡ holdings_of c.args.arenas.now.items ++ holding_of c.in_ok-frozen.frozen ∷ []
grown c = ap holdings_of c.in_ok-push.ensures.items ∙ map-append holding_of c.args.arenas.now.items (c.in_ok-frozen.frozen ∷ [])

last : (c : In_ok-push) → holding_of c.in_ok-frozen.frozen ≡ held (length c.args.arenas.now.items) (c.args.node ∷ [])
last c = c.in_ok-frozen.ensures.nodes ∙ ap (λ (home : ℕ). held home (c.args.node ∷ [])) (c.len-home.ensures ∙ (sym c.as_slice.ensures.len ∙ ap length c.as_slice.ensures.value))

pub returns-clause-nodes : goal.returns-clause-nodes
returns-clause-nodes c = grown c ∙ ap (λ (h : Holding). holdings_of c.args.arenas.now.items ++ h ∷ []) (last c)

pub returns-clause-placed : goal.returns-clause-placed
returns-clause-placed c =
    subst IsPlaced (sym (grown c)) (IsPlaced-push (holdings_of c.args.arenas.now.items) (holding_of c.in_ok-frozen.frozen) c.requires.placed
    (ap (λ (h : Holding). h.home) (last c) ∙ sym (length-map c.args.arenas.now.items holding_of)))

pub returns-clause-closed : goal.returns-clause-closed
returns-clause-closed c =
    let on = c.shelf.ensures ∙ ap holdings_of c.as_slice.ensures.value in
    subst IsClosed (sym (grown c)) (subst (λ (s : Store). IsSound (s ++ holding_of c.in_ok-frozen.frozen ∷ [])) on c.in_ok-frozen.ensures.stands).there
