use Rattle.std.proofs.Common.{◌≡◌, drop}
use Rattle.std.specs.Prelude.{max}
use Rattle.subtype_check.specs.Apart.{longest}
use Rattle.subtype_check.proofs.samples.longest_text.Given as goal

abbrev pub invariant-loop-text : goal.invariant-loop-text
invariant-loop-text l = longest l.texts ≡ max l.most (longest (drop l.text-index l.texts))
