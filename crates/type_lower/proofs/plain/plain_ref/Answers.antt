use Rattle.type_lower.proofs.MadeFacts.{free_made, free_adds, on_err}
use Rattle.type_lower.proofs.plain.plain_ref.Goals as goal

pub returns-in_err-at-clause-err : goal.returns-in_err-at-clause-err
returns-in_err-at-clause-err c =
    on_err c.from_residual.result _ (λ given. free_adds c.args.arena.now c.plain_type.new.arena given c.in_err-at.ensures.err)

pub returns-clause-made : goal.returns-clause-made
returns-clause-made c given =
    free_made c.args.arena.now c.plain_type.new.arena given c.in_ok-at.at _ c.in_ok-at.ensures.term c.in_ok-at.ensures.there c.in_ok-at.ensures.adds c.in_ok-at.ensures.clean
