-- A tree in memory that keeps what it is asked.
use Rattle.std.specs.Prelude.{Bool, List, Option, Some, None, if◌then◌else◌}
use Rattle.outside.specs.declared.asked_tree.AskedTree.{AskedTree}
use Rattle.outside.specs.declared.question.Question.{Question}
use Rattle.outside.specs.Contents.{Contents}
use Rattle.outside.specs.Roots.{files_of}

-- what the tree holds
abbrev pub contents_of : AskedTree → Contents
contents_of tree = files_of tree.roots

-- whether it tells what it is asked: so far there was memory for each question
abbrev pub tells : AskedTree → Bool
tells tree = tree.whole

-- what it was asked, if it tells that
abbrev pub asked_of : AskedTree → Option (List Question)
asked_of tree = if tells tree then Some tree.questions.items else None
