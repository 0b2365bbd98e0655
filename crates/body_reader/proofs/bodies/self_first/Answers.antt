use Rattle.std.proofs.Common.{◌++◌, ◌∙◌, ap}
use Rattle.body_reader.proofs.SelfFirst.{self_first}
use Rattle.body_reader.proofs.bodies.self_first.Goals as goal

pub returns : goal.returns
returns c =
    self_first c.args.span c.args.own c.append.new.self c.bind_of.result _ (c.in_ok-append.ensures ∙ ap (λ l. l ++ c.args.own) c.in_ok-all.ensures) c.bind_of.ensures c.in_ok-name.ensures
