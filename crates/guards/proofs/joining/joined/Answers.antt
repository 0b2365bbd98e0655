use Rattle.std.proofs.Common.{[], ◌≤◌, length, map, ap, ◌∙◌, get_or, arith}
use Rattle.std.specs.Prelude.{All}
use Rattle.std.proofs.lemmas.List.{get_or_default, take_all}
use Rattle.type_arena.specs.Arena.{store_of}
use Rattle.type_arena.specs.Meaning.{term_of}
use Rattle.guards.specs.Lists.{meant, named_meant, refs_named}
use Rattle.guards.specs.Own.{IsOwn}
use Rattle.guards.specs.declared.listing.Named.{Named}
use Rattle.guards.specs.declared.listing.Named.TheVariants.{Once}
use Rattle.guards.proofs.MeansFacts.{unknown_later}
use Rattle.guards.proofs.OwnFacts.{all_own_later, adds_then}
use Rattle.guards.proofs.SideFacts.{side_meant, pair_own, pair_means, entries_mean, one_more, listed_more}
use Rattle.guards.proofs.joining.joined.Goals as goal

none : Named
none = Once (record { 0 = 0 }) (record { home = 0; id = 0 })

pub entry_of-requires-clause-nothing : goal.entry_of-requires-clause-nothing
entry_of-requires-clause-nothing c = unknown_later c.args.arena.now c.loop-named.arena c.args.unknown c.loop-named.invariant.adds c.requires.nothing

pub entry_of-requires-clause-named : goal.entry_of-requires-clause-named
unfolding none
entry_of-requires-clause-named c =
    all_own_later c.args.arena.now c.loop-named.arena _ [] c.loop-named.invariant.adds (refs_named (get_or c.as_slice-named-items.result.now c.loop-named.named-index none))
    (pair_own c.args.arena.now c.args.left.now c.args.right.now c.as_slice-named-items.result.now c.loop-named.named-index none (c.as_slice-named-items.ensures.value ∙ c.in_ok-pairs.ensures) c.loop-named-test.true c.requires.left c.requires.right)

pub returns-in_err-entry-clause-adds : goal.returns-in_err-entry-clause-adds
returns-in_err-entry-clause-adds c = adds_then c.args.arena.now c.loop-named.arena c.entry_of.new.arena [] [] c.loop-named.invariant.adds c.entry_of.ensures.adds

pub returns-in_err-push-clause-adds : goal.returns-in_err-push-clause-adds
returns-in_err-push-clause-adds c = adds_then c.args.arena.now c.loop-named.arena c.entry_of.new.arena [] [] c.loop-named.invariant.adds c.entry_of.ensures.adds

pub loop-named-preserved : goal.loop-named-preserved
unfolding none
loop-named-preserved c =
    let ns = c.as_slice-named-items.result.now in
    let i = c.loop-named.named-index in
    let n : Named = get_or ns i none in
    let own : All (IsOwn c.args.arena.now) (refs_named n) =
    pair_own c.args.arena.now c.args.left.now c.args.right.now ns i none (c.as_slice-named-items.ensures.value ∙ c.in_ok-pairs.ensures) c.loop-named-test.true c.requires.left c.requires.right in
    record {
      meant =
          one_more c.args.how (term_of (store_of c.entry_of.new.arena)) (term_of (store_of c.args.arena.now)) c.loop-named.all.items c.push.new.self.items c.in_ok-entry.entry ns i n
          c.loop-named-test.true (get_or_default ns i _ _ c.loop-named-test.true)
          (entries_mean c.loop-named.arena c.entry_of.new.arena c.loop-named.all.items c.loop-named.invariant.own c.in_ok-entry.ensures.adds ∙ c.loop-named.invariant.meant)
          (c.in_ok-entry.ensures.meant ∙ pair_means c.args.arena.now c.loop-named.arena c.args.how n own c.loop-named.invariant.adds)
          c.in_ok-push.ensures.items;
      own =
          listed_more (IsOwn c.entry_of.new.arena) c.loop-named.all.items c.push.new.self.items c.in_ok-entry.entry
          (all_own_later c.loop-named.arena c.entry_of.new.arena _ [] c.in_ok-entry.ensures.adds _ c.loop-named.invariant.own) c.in_ok-entry.ensures.own c.in_ok-push.ensures.items;
      adds = adds_then c.args.arena.now c.loop-named.arena c.entry_of.new.arena [] [] c.loop-named.invariant.adds c.in_ok-entry.ensures.adds;
    }

pub returns-clause-meant : goal.returns-clause-meant
returns-clause-meant c =
    let f = named_meant c.args.how (term_of (store_of c.args.arena.now)) in
    let ns = c.as_slice-named-items.result.now in
    let ge : length ns ≤ c.loop-named.named-index = omega arith in
    ap (meant (term_of (store_of c.loop-named.arena))) c.of.ensures
    ∙ c.loop-named.invariant.meant
    ∙ ap (map f) (take_all c.loop-named.named-index ns ge ∙ c.as_slice-named-items.ensures.value ∙ c.in_ok-pairs.ensures)
    ∙ side_meant c.args.how (term_of (store_of c.args.arena.now)) c.args.left.now c.args.right.now
