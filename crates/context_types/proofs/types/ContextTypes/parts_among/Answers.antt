use Rattle.std.proofs.Common.{sym, subst}
use Rattle.std.specs.Prelude.{All}
use Rattle.context_types.specs.Standing.{StandsContext}
use Rattle.context_types.proofs.ListFacts.{rest_all}
use Rattle.context_types.proofs.types.ContextTypes.parts_among.Goals as goal

pub returns-else-is_empty-clause-stand : goal.returns-else-is_empty-clause-stand
returns-else-is_empty-clause-stand c = subst (All (StandsContext c.args.self.now)) (sym c.rest_of.ensures) (rest_all (StandsContext c.args.self.now) c.args.lefts.now c.requires.lefts)
