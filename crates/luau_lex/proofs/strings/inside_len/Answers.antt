use Rattle.std.proofs.Common.{arith}
use Rattle.std.proofs.lemmas.Slice.{between_to_end}
use Rattle.luau_lex.proofs.StringLemmas.{inside_more, fits_left}
use Rattle.luau_lex.proofs.strings.inside_len.Goals as goal

pub loop-n-preserved : goal.loop-n-preserved
loop-n-preserved c =
    let left = between_to_end c.args.text.now c.loop-n.n _ (omega arith) in
    let e = c.element-n.ensures in
    record {
      within = fits_left _ _ _ _ left (omega arith) e.within;
      rest = inside_more _ _ _ _ c.element-n.result left (omega arith) (cc) e.value e.nonempty e.within c.loop-n.invariant.rest;
    }
