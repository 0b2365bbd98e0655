use Rattle.std.proofs.Common.{◌<◌, ◌+◌, length, sym, ◌∙◌, arith}
use Rattle.std.proofs.lemmas.Bool.{ne_eqb}
use Rattle.report_plan.proofs.ListFacts.{expands_early}
use Rattle.report_plan.proofs.lists.expands_at.Goals as goal

pub returns-else-i-args : goal.returns-else-i-args
returns-else-i-args c = λ none.
    let within : c.args.i + 1 < length c.args.args.now = omega (arith, c.if-i-args.false, c.requires) in
    ne_eqb _ _ c.if-i-args.false ∙ sym (expands_early _ c.args.args.now (c.args.i + 1) within none)
