use Rattle.std.proofs.Common.{[], ◌∷◌, ◌++◌, codes, arith}
use Rattle.std.proofs.lemmas.Fmt.{decimal_digit}
use Rattle.report_rules.proofs.rows.printing.order.Goals as goal

pub returns-clause-offset : goal.returns-clause-offset
returns-clause-offset c =
    λ i. (0, codes "argument " ++ decimal_digit 2 (omega arith) i ++ codes " of " ++ codes "math.clamp" ++ codes " is missing")
    ∷ (11, codes "argument " ++ decimal_digit 1 (omega arith) i ++ codes " of " ++ codes "math.clamp" ++ codes " always fails") ∷ []
