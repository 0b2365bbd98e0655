use Rattle.error_context.proofs.SideFacts.{context_stays, guard_stays, context_kept, guard_kept}
use Rattle.error_context.proofs.laws.contexts_stay.Goals as goal

pub returns-clause-context : goal.returns-clause-context
returns-clause-context c old new given answers entries adds context = context_stays old new given answers entries adds context

pub returns-clause-sets : goal.returns-clause-sets
returns-clause-sets c old new given answers entries adds context local = context_kept old new entries context.there adds.kept local

pub returns-clause-guard : goal.returns-clause-guard
returns-clause-guard c old new given answers entries adds guard = guard_stays old new given answers entries adds guard

pub returns-clause-says : goal.returns-clause-says
returns-clause-says c old new given answers entries adds guard local = guard_kept old new entries guard.there adds.kept local
