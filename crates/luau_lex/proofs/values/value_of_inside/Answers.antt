use Rattle.std.proofs.Common.{arith}
use Rattle.std.proofs.lemmas.Slice.{between_to_end}
use Rattle.luau_lex.proofs.StringLemmas.{value_more, fits_left}
use Rattle.luau_lex.proofs.values.value_of_inside.Goals as goal

pub loop-n-preserved : goal.loop-n-preserved
loop-n-preserved c =
    let left = between_to_end c.args.inside.now c.loop-n.n _ (omega arith) in
    let e = c.element-front.ensures in
    record {
      within = fits_left _ _ _ _ left (omega arith) e.within;
      rest = value_more _ _ _ c.loop-n.out.items c.push_element.new.out.items c.element-front.result left (omega arith) e.value e.nonempty c.in_ok-push_element.ensures c.loop-n.invariant.rest;
    }
