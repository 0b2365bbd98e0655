use Rattle.std.proofs.Common.{◌≡◌, ℕ, true, List, sym, subst}
use Rattle.luau_run.specs.ReadFolder.{are_distinct}
use Rattle.module_reading.proofs.Lists.{fewer_distinct}
use Rattle.module_reading.proofs.Nodes as nodes
use Rattle.type_lower.proofs.AnnotationFacts.{said}
use Rattle.annotation_laws.proofs.Numbers.{told_numbers, distinct}
use Rattle.annotation_laws.proofs.laws.rules_have_the_types_of_each_body.Goals as goal

pub returns : goal.returns
returns c paths home block leads table import apart =
    said block (distinct _ (subst (λ (ns : List ℕ). are_distinct ns ≡ true) (sym (told_numbers block)) (fewer_distinct (nodes.bodies_within (nodes.block block)) apart.bodies)))
