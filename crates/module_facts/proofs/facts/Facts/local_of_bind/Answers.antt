use Rattle.std.proofs.Common.{◌∙◌, sym, ap}
use Rattle.luau_scope.proofs.Layers.{bind_layer}
use Rattle.report_rules.specs.Effects as syntax
use Rattle.module_facts.specs.Facts.{rules_of_facts}
use Rattle.module_facts.proofs.facts.Facts.local_of_bind.Goals as goal

pub returns : goal.returns
returns c = c.local_at.ensures ∙ sym (ap (syntax.local_of_bind (rules_of_facts c.args.self.now)) (bind_layer c.args.bind.now))
