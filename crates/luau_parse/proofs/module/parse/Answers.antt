use Rattle.std.proofs.Common.{ap}
use Rattle.luau_parse.specs.Texts.{with_numbers}
use Rattle.luau_parse.proofs.Numbering.{tree_is_numbered, computed_is_numbered, no_other}
use Rattle.luau_parse.proofs.module.parse.Goals as goal

pub returns-in-Ok-clause-tree : goal.returns-in-Ok-clause-tree
returns-in-Ok-clause-tree c = tree_is_numbered c.args.text.now _ c.with_numbers.result c.in-Ok.ensures.tree c.with_numbers.ensures.made

pub returns-in-Ok-clause-computed : goal.returns-in-Ok-clause-computed
returns-in-Ok-clause-computed c = computed_is_numbered c.args.text.now _ c.with_numbers.result c.in-Ok.ensures.computed c.with_numbers.ensures.made

pub returns-in-Ok-clause-fault : goal.returns-in-Ok-clause-fault
returns-in-Ok-clause-fault c = no_other _ c.with_numbers.result c.with_numbers.ensures.fault

pub returns-in-Ok-clause-computed_fault : goal.returns-in-Ok-clause-computed_fault
returns-in-Ok-clause-computed_fault c = no_other _ c.with_numbers.result c.with_numbers.ensures.fault

pub returns-in-Err-clause-computed_fault : goal.returns-in-Err-clause-computed_fault
returns-in-Err-clause-computed_fault c = λ ne. ap with_numbers (c.in-Err.ensures.computed_fault ne)
