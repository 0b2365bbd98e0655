-- What is written, as code has it.
use Rattle.std.specs.Prelude.{ℕ, option_map}
use Rattle.report_rules.specs.Effects as rules
use Rattle.module_facts.specs.declared.targets.Target.{Target}
use Rattle.module_facts.specs.declared.targets.Target.TheVariants.{Local, Global, Field, Element}

-- the target that is meant
abbrev pub target_meant : Target → rules.Target
target_meant (Local local) = rules.OfLocal local.0
target_meant Global = rules.OfGlobal
target_meant (Field base name) = rules.OfField (option_map (λ l. l.0) base) name.now
target_meant Element = rules.OfElement
