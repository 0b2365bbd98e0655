use Rattle.std.proofs.Common.{ap, ◌∙◌}
use Rattle.type_normal.specs.Kinds.{text_type}
use Rattle.type_lower.proofs.MadeFacts.{free_made, free_adds, on_err}
use Rattle.type_lower.proofs.plain.text_ref.Goals as goal

pub returns-in_err-at-clause-err : goal.returns-in_err-at-clause-err
returns-in_err-at-clause-err c =
    on_err c.from_residual-in_err-at.result _ (λ given. free_adds c.args.arena.now c.text_type.new.arena given c.in_err-at.ensures.err)

pub returns-clause-made : goal.returns-clause-made
returns-clause-made c given =
    free_made c.args.arena.now c.text_type.new.arena given c.in_ok-at.at _ (c.in_ok-at.ensures.term ∙ ap text_type c.in_ok-text.ensures) c.in_ok-at.ensures.there c.in_ok-at.ensures.adds c.in_ok-at.ensures.clean
