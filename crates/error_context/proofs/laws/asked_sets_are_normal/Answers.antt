use Rattle.error_context.proofs.NormalFacts.{unary_normal, operand_normal, field_normal, fail_normal, left_normal}
use Rattle.error_context.proofs.laws.asked_sets_are_normal.Goals as goal

pub returns-clause-unary : goal.returns-clause-unary
returns-clause-unary c op = unary_normal op

pub returns-clause-operand : goal.returns-clause-operand
returns-clause-operand c op other = operand_normal op other

pub returns-clause-field : goal.returns-clause-field
returns-clause-field c name type n = field_normal name type n

pub returns-clause-wanted : goal.returns-clause-wanted
returns-clause-wanted c type n = fail_normal type n

pub returns-clause-left : goal.returns-clause-left
returns-clause-left c kinds set n = left_normal kinds set n
