use Rattle.std.proofs.Common.{◌≡◌, ◌∷◌, [], ℕ, List, ap, sym, ◌∙◌}
use Rattle.type_arena.specs.Arena.{store_of}
use Rattle.type_arena.specs.Meaning.{term_of}
use Rattle.type_normal.specs.HeapFree.{free_of_name, widen_at}
use Rattle.type_normal.specs.Holds.{holds}
use Rattle.type_normal.proofs.Public.{widen_at_above, widen_at_of, free_of_written}
use Rattle.type_ops.specs.Changed.{changed}
use Rattle.type_normal.specs.Growing.{given_refs}
use Rattle.type_ops.specs.declared.written.Written.TheVariants.{Named}
use Rattle.type_ops.proofs.ChangeFacts.{one_widens}
use Rattle.type_ops.proofs.GrowFacts.{adds_clean}
use Rattle.type_ops.proofs.widening.widen_at.Goals.{Joined-written-2}
use Rattle.type_ops.proofs.widening.widen_at.Goals as goal

meaning : (c : Joined-written-2) → term_of (store_of c.change.new.arena) c.in_ok-at.at ≡ widen_at c.args.name.now (term_of (store_of c.args.arena.now) c.args.a)
meaning c =
    c.in_ok-at.ensures.term
    ∙ ap (λ (n : List ℕ). changed (Named n) (term_of (store_of c.args.arena.now) c.args.a)) c.in_ok-clone.ensures.cases
    ∙ one_widens c.args.name.now (term_of (store_of c.args.arena.now) c.args.a)

pub returns-clause-term : goal.returns-clause-term
returns-clause-term c = meaning c

pub returns-clause-values : goal.returns-clause-values
returns-clause-values c h v k = ap (holds h v) (meaning c) ∙ widen_at_above h v c.args.name.now (term_of (store_of c.args.arena.now) c.args.a) k

pub returns-clause-written : goal.returns-clause-written
returns-clause-written c h t u v n k =
    free_of_written h t c.args.name.now u v (term_of (store_of c.change.new.arena) c.in_ok-at.at)
    (ap (free_of_name c.args.name.now) (meaning c) ∙ widen_at_of c.args.name.now (term_of (store_of c.args.arena.now) c.args.a)) n k

pub returns-clause-adds : goal.returns-clause-adds
returns-clause-adds c = adds_clean c.args.arena.now c.change.new.arena (given_refs (c.args.a ∷ [])) [] c.in_ok-at.at c.in_ok-at.ensures.adds c.in_ok-at.ensures.clean
