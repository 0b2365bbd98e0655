use Rattle.std.proofs.Common.{[], ◌∷◌, ◌++◌, codes, arith}
use Rattle.std.proofs.lemmas.Fmt.{decimal_digit}
use Rattle.report_rules.proofs.rows.printing.messages.Goals as goal

pub returns-clause-argument : goal.returns-clause-argument
returns-clause-argument c = λ i. (codes "argument " ++ decimal_digit 1 (omega arith) i ++ codes " of " ++ codes "math.abs" ++ codes " always fails") ∷ []

pub returns-clause-ninth : goal.returns-clause-ninth
returns-clause-ninth c = λ i. codes "argument " ++ decimal_digit 9 (omega arith) i ++ codes " of " ++ codes "f" ++ codes " always fails"

pub returns-clause-missing : goal.returns-clause-missing
returns-clause-missing c = λ i. (codes "argument " ++ decimal_digit 1 (omega arith) i ++ codes " of " ++ codes "math.abs" ++ codes " is missing") ∷ []
