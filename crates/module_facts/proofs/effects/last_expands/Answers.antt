use Rattle.std.proofs.Common.{◌∙◌}
use Rattle.module_facts.proofs.Lasts.{last_seen}
use Rattle.module_facts.proofs.effects.last_expands.Goals as goal

pub returns-in-Some : goal.returns-in-Some
returns-in-Some c = c.expands.ensures ∙ last_seen c.args.es.now c.in-Some.e.now c.in-Some.ensures.value
