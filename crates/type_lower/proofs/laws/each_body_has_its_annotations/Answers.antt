use Rattle.type_lower.proofs.AnnotationFacts.{said}
use Rattle.type_lower.proofs.laws.each_body_has_its_annotations.Goals as goal

pub returns : goal.returns
returns c block distinct = said block distinct
