use Rattle.std.proofs.Common.{[], ◌∙◌}
use Rattle.type_arena.specs.Arena.{store_of}
use Rattle.type_arena.specs.Meaning.{term_of}
use Rattle.type_normal.specs.Growing.{given_refs}
use Rattle.guards.specs.Lists.{joined, meant, refs_listed}
use Rattle.guards.proofs.MeansFacts.{unknown_later}
use Rattle.guards.proofs.OwnFacts.{adds_then, all_own_later}
use Rattle.guards.proofs.SideFacts.{entries_mean, later_own, later_meant}
use Rattle.guards.proofs.guarding.together.Goals as goal

pub joined-requires-2-clause-nothing : goal.joined-requires-2-clause-nothing
joined-requires-2-clause-nothing c = unknown_later c.args.arena.now c.joined.new.arena c.args.unknown c.joined.ensures.adds c.requires.nothing

pub joined-requires-2-clause-left : goal.joined-requires-2-clause-left
joined-requires-2-clause-left c =
    later_own c.args.arena.now c.joined.new.arena c.as_slice-left_false.result.now c.args.first.now.when_false c.as_slice-left_false.ensures c.joined.ensures.adds c.requires.first.when_false

pub joined-requires-2-clause-right : goal.joined-requires-2-clause-right
joined-requires-2-clause-right c =
    later_own c.args.arena.now c.joined.new.arena c.as_slice-right_false.result.now c.args.second.now.when_false c.as_slice-right_false.ensures c.joined.ensures.adds c.requires.second.when_false

pub returns-in_err-when_false-clause-adds : goal.returns-in_err-when_false-clause-adds
returns-in_err-when_false-clause-adds c = adds_then c.args.arena.now c.joined.new.arena c.joined-2.new.arena [] [] c.joined.ensures.adds c.joined-2.ensures.adds

pub returns-clause-means : goal.returns-clause-means
returns-clause-means c =
    let means = term_of (store_of c.args.arena.now) in
    let left = later_meant c.args.arena.now c.joined.new.arena c.as_slice-left_false.result.now c.args.first.now.when_false c.as_slice-left_false.ensures c.joined.ensures.adds c.requires.first.when_false in
    let right = later_meant c.args.arena.now c.joined.new.arena c.as_slice-right_false.result.now c.args.second.now.when_false c.as_slice-right_false.ensures c.joined.ensures.adds c.requires.second.when_false in
    record {
      when_true =
          entries_mean c.joined.new.arena c.joined-2.new.arena c.in_ok-when_true.when_true c.in_ok-when_true.ensures.own c.joined-2.ensures.adds
          ∙ c.in_ok-when_true.ensures.meant
          ∙ (λ i. joined c.args.joins.on_true (meant means (c.as_slice-left.ensures i)) (meant means (c.as_slice-right.ensures i)));
      when_false = c.in_ok-when_false.ensures.meant ∙ (λ i. joined c.args.joins.on_false (left i) (right i));
    }

pub returns-clause-own : goal.returns-clause-own
returns-clause-own c = record {
  when_true = all_own_later c.joined.new.arena c.joined-2.new.arena (given_refs []) [] c.joined-2.ensures.adds (refs_listed c.in_ok-when_true.when_true) c.in_ok-when_true.ensures.own;
  when_false = c.in_ok-when_false.ensures.own;
}

pub returns-clause-adds : goal.returns-clause-adds
returns-clause-adds c = adds_then c.args.arena.now c.joined.new.arena c.joined-2.new.arena [] [] c.joined.ensures.adds c.joined-2.ensures.adds
