use Rattle.error_context.proofs.NormalFacts.{guard_normal, said_is_guard}
use Rattle.error_context.proofs.laws.lists_say_what_conditions_say.Goals as goal

pub returns-clause-said : goal.returns-clause-said
returns-clause-said c rules cond truth local = guard_normal rules cond truth local

pub returns-clause-list : goal.returns-clause-list
returns-clause-list c arena entries rules cond truth sorted there says = said_is_guard arena entries rules cond truth sorted there says
