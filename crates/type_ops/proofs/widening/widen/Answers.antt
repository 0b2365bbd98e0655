use Rattle.std.proofs.Common.{◌≡◌, ◌∷◌, [], ap, sym, ◌∙◌}
use Rattle.type_arena.specs.Arena.{store_of}
use Rattle.type_arena.specs.Meaning.{term_of}
use Rattle.type_normal.specs.HeapFree.{heap_free, widen}
use Rattle.type_normal.specs.Holds.{holds}
use Rattle.type_normal.proofs.Public.{widen_above, widen_free, free_later}
use Rattle.type_normal.specs.Growing.{given_refs}
use Rattle.type_ops.proofs.ChangeFacts.{any_widens}
use Rattle.type_ops.proofs.GrowFacts.{adds_clean}
use Rattle.type_ops.proofs.widening.widen.Goals as goal

pub returns-clause-term : goal.returns-clause-term
returns-clause-term c = c.in_ok-at.ensures.term ∙ any_widens (term_of (store_of c.args.arena.now) c.args.a)

pub returns-clause-values : goal.returns-clause-values
returns-clause-values c h v k =
    ap (holds h v) (c.in_ok-at.ensures.term ∙ any_widens (term_of (store_of c.args.arena.now) c.args.a)) ∙ widen_above h v (term_of (store_of c.args.arena.now) c.args.a) k

pub returns-clause-later : goal.returns-clause-later
returns-clause-later c h g v l k =
    free_later h g v (term_of (store_of c.change.new.arena) c.in_ok-at.at)
    (ap heap_free (c.in_ok-at.ensures.term ∙ any_widens (term_of (store_of c.args.arena.now) c.args.a)) ∙ widen_free (term_of (store_of c.args.arena.now) c.args.a)) l k

pub returns-clause-adds : goal.returns-clause-adds
returns-clause-adds c = adds_clean c.args.arena.now c.change.new.arena (given_refs (c.args.a ∷ [])) [] c.in_ok-at.at c.in_ok-at.ensures.adds c.in_ok-at.ensures.clean
