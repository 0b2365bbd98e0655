use Rattle.std.proofs.Common.{◌∙◌, ap}
use Rattle.luau_parse.specs.Texts.{tree_of}
use Rattle.source_files.proofs.Trees.{text_short, tree_read}
use Rattle.source_files.proofs.laws.files_that_are_read_have_trees.Goals as goal

pub returns-clause-text : goal.returns-clause-text
returns-clause-text c = λ table paths file text block e. (tree_read table paths file text block e).same

pub returns-clause-tree : goal.returns-clause-tree
returns-clause-tree c = λ table paths file text block e. let t = tree_read table paths file text block e in ap tree_of t.same ∙ t.tree

pub returns-clause-accepted : goal.returns-clause-accepted
returns-clause-accepted c = λ table paths file text block e. (tree_read table paths file text block e).accepted

pub returns-clause-short : goal.returns-clause-short
returns-clause-short c = text_short
