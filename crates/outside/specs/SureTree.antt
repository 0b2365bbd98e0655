-- A tree in memory that never fails.
use Rattle.outside.specs.declared.sure_tree.SureTree.{SureTree}
use Rattle.outside.specs.Contents.{Contents}
use Rattle.outside.specs.Roots.{files_of}

-- what the tree holds
abbrev pub contents_of : SureTree → Contents
contents_of tree = files_of tree.roots
