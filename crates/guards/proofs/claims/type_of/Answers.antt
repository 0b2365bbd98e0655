use Rattle.std.proofs.Common.{[]}
use Rattle.type_normal.specs.Growing.{given_refs}
use Rattle.guards.proofs.OwnFacts.{adds_then, own_later}
use Rattle.guards.proofs.claims.type_of.Goals as goal

pub returns-in_err-others-in-IsNot-clause-adds : goal.returns-in_err-others-in-IsNot-clause-adds
returns-in_err-others-in-IsNot-clause-adds c = adds_then c.args.arena.now c.plain-in-IsNot.new.arena c.complement.new.arena [] [] c.plain-in-IsNot.ensures.adds c.complement.ensures.adds

pub returns-in_err-other-in-TableOrOther-clause-adds : goal.returns-in_err-other-in-TableOrOther-clause-adds
returns-in_err-other-in-TableOrOther-clause-adds c =
    adds_then c.args.arena.now c.plain-in-TableOrOther.new.arena c.plain-in-TableOrOther-2.new.arena [] [] c.plain-in-TableOrOther.ensures.adds c.plain-in-TableOrOther-2.ensures.adds

pub type_together-requires-clause-first : goal.type_together-requires-clause-first
type_together-requires-clause-first c =
    own_later c.plain-in-TableOrOther.new.arena c.plain-in-TableOrOther-2.new.arena (given_refs []) [] c.plain-in-TableOrOther-2.ensures.adds c.in_ok-table-in-TableOrOther.table c.in_ok-table-in-TableOrOther.ensures.own

pub returns-in_err-either-in-TableOrOther-clause-adds : goal.returns-in_err-either-in-TableOrOther-clause-adds
returns-in_err-either-in-TableOrOther-clause-adds c =
    adds_then c.args.arena.now c.plain-in-TableOrOther.new.arena c.type_together.new.arena [] [] c.plain-in-TableOrOther.ensures.adds
    (adds_then c.plain-in-TableOrOther.new.arena c.plain-in-TableOrOther-2.new.arena c.type_together.new.arena [] [] c.plain-in-TableOrOther-2.ensures.adds c.type_together.ensures.adds)

pub returns-in_err-others-in-NotText-clause-adds : goal.returns-in_err-others-in-NotText-clause-adds
returns-in_err-others-in-NotText-clause-adds c =
    adds_then c.args.arena.now c.text-in-NotText.new.arena c.complement-in-NotText.new.arena [] [] c.text-in-NotText.ensures.adds c.complement-in-NotText.ensures.adds

pub returns-in_ok-others-in-IsNot-clause-adds : goal.returns-in_ok-others-in-IsNot-clause-adds
returns-in_ok-others-in-IsNot-clause-adds c = adds_then c.args.arena.now c.plain-in-IsNot.new.arena c.complement.new.arena [] [] c.plain-in-IsNot.ensures.adds c.complement.ensures.adds

pub returns-in_ok-either-in-TableOrOther-clause-adds : goal.returns-in_ok-either-in-TableOrOther-clause-adds
returns-in_ok-either-in-TableOrOther-clause-adds c =
    adds_then c.args.arena.now c.plain-in-TableOrOther.new.arena c.type_together.new.arena [] [] c.plain-in-TableOrOther.ensures.adds
    (adds_then c.plain-in-TableOrOther.new.arena c.plain-in-TableOrOther-2.new.arena c.type_together.new.arena [] [] c.plain-in-TableOrOther-2.ensures.adds c.type_together.ensures.adds)

pub returns-in_ok-others-in-NotText-clause-adds : goal.returns-in_ok-others-in-NotText-clause-adds
returns-in_ok-others-in-NotText-clause-adds c =
    adds_then c.args.arena.now c.text-in-NotText.new.arena c.complement-in-NotText.new.arena [] [] c.text-in-NotText.ensures.adds c.complement-in-NotText.ensures.adds
