use Rattle.module_reader.proofs.module.+phrases.Given as goal

abbrev pub decreases-expression_at : goal.decreases-expression_at
decreases-expression_at l = l.depth

abbrev pub decreases-type_at : goal.decreases-type_at
decreases-type_at l = l.depth

abbrev pub decreases-block_at : goal.decreases-block_at
decreases-block_at l = l.depth
