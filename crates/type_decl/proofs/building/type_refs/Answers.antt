use Rattle.std.proofs.lemmas.List.{get_or_default}
use Rattle.type_decl.specs.Signatures.{term_of_kinds}
use Rattle.type_decl.proofs.Means.{grew_both, mean_more}
use Rattle.type_decl.proofs.building.type_refs.Goals as goal

pub loop-kinds-preserved : goal.loop-kinds-preserved
loop-kinds-preserved c = record {
  grew = grew_both c.args.arena.now c.loop-kinds.arena c.type_ref.new.arena c.loop-kinds.invariant.grew c.in_ok-at.ensures.grew;
  means =
      mean_more term_of_kinds c.loop-kinds.arena c.type_ref.new.arena c.loop-kinds.refs.items c.push.new.self.items c.in_ok-at.at c.args.types.now c.loop-kinds.kinds-index _
      c.loop-kinds-test.true (get_or_default c.args.types.now c.loop-kinds.kinds-index _ _ c.loop-kinds-test.true) c.in_ok-at.ensures.grew.keeps c.loop-kinds.invariant.means c.in_ok-at.ensures.means c.in_ok-push.ensures.items;
}
