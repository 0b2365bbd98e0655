use Rattle.grammar_faults.proofs.FrontLaws.{whole_front, shorter_front}
use Rattle.grammar_faults.proofs.laws.fronts_begin_with_fronts.Goals as goal

pub returns-clause-whole : goal.returns-clause-whole
returns-clause-whole c = whole_front

pub returns-clause-shorter : goal.returns-clause-shorter
returns-clause-shorter c = shorter_front

pub returns-clause-longer : goal.returns-clause-longer
returns-clause-longer c = λ rules ts us h k. h (shorter_front rules ts us k)
