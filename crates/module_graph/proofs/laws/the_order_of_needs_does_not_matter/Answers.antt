use Rattle.module_graph.proofs.Reordering.{refused-same, places-same, skipped-same, level-same}
use Rattle.module_graph.proofs.laws.the_order_of_needs_does_not_matter.Goals as goal

pub returns-clause-refused : goal.returns-clause-refused
returns-clause-refused c = refused-same

pub returns-clause-places : goal.returns-clause-places
returns-clause-places c = places-same

pub returns-clause-skipped : goal.returns-clause-skipped
returns-clause-skipped c = skipped-same

pub returns-clause-levels : goal.returns-clause-levels
returns-clause-levels c = level-same
