-- What was seen, as it is handed over.
use Rattle.rule_state.specs.declared.point.Seen.{Seen as Met}
use Rattle.rule_state.specs.declared.point.Seen.TheVariants as met
use Rattle.seen_types.specs.declared.seen.Seen.{Seen}
use Rattle.seen_types.specs.declared.seen.Seen.TheVariants as seen

-- the same of an expression, or of a body
abbrev pub one_handed : Met → Seen
one_handed (met.Expr id at live) = seen.Expr id at live
one_handed (met.Body id live) = seen.Body id live
