use Rattle.std.proofs.Common.{◌∷◌, []}
use Rattle.type_lower.proofs.MadeFacts.{call_made}
use Rattle.type_lower.proofs.choosing.cut.Goals as goal

pub returns-clause-made : goal.returns-clause-made
returns-clause-made c =
    call_made c.args.arena.now c.cut_up.new.arena (c.args.a ∷ []) c.in_ok-at.at _ c.in_ok-at.ensures.term c.in_ok-at.ensures.there c.in_ok-at.ensures.adds c.in_ok-at.ensures.clean
