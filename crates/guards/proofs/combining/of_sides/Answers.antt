use Rattle.std.proofs.Common.{[]}
use Rattle.guards.specs.Lists.{joined}
use Rattle.guards.proofs.MeansFacts.{means_as, means_later, guard_own_later}
use Rattle.guards.proofs.OwnFacts.{adds_then}
use Rattle.guards.proofs.combining.of_sides.Goals as goal

pub together-requires-clause-nothing : goal.together-requires-clause-nothing
together-requires-clause-nothing c = record { own = c.in_ok-unknown.ensures.own; means = c.in_ok-unknown.ensures.term }

pub together-requires-clause-first : goal.together-requires-clause-first
together-requires-clause-first c = guard_own_later c.args.arena.now c.plain.new.arena c.args.left.now c.plain.ensures.adds c.requires.left

pub together-requires-clause-second : goal.together-requires-clause-second
together-requires-clause-second c = guard_own_later c.args.arena.now c.plain.new.arena c.args.right.now c.plain.ensures.adds c.requires.right

pub returns-in_err-guard-clause-adds : goal.returns-in_err-guard-clause-adds
returns-in_err-guard-clause-adds c = adds_then c.args.arena.now c.plain.new.arena c.together.new.arena [] [] c.plain.ensures.adds c.together.ensures.adds

pub returns-clause-means : goal.returns-clause-means
returns-clause-means c t f u w p q =
    let m = means_later c.args.arena.now c.plain.new.arena c.args.left.now t f c.plain.ensures.adds c.requires.left p in
    let n = means_later c.args.arena.now c.plain.new.arena c.args.right.now u w c.plain.ensures.adds c.requires.right q in
    means_as c.together.new.arena c.in_ok-guard.guard _ _ _ _ c.in_ok-guard.ensures.means (λ i. joined c.args.joins.on_true (m.when_true i) (n.when_true i))
    (λ i. joined c.args.joins.on_false (m.when_false i) (n.when_false i))

pub returns-clause-adds : goal.returns-clause-adds
returns-clause-adds c = adds_then c.args.arena.now c.plain.new.arena c.together.new.arena [] [] c.plain.ensures.adds c.together.ensures.adds
