-- The nodes that run, among all nodes of a tree.
use Rattle.std.specs.Prelude.{ℕ, List, [], ◌∷◌, Option, Some, None}
use Rattle.luau_tree.specs.Tree.{the_expr, the_body}
use Rattle.luau_tree.specs.Nodes.{Node}
use Rattle.luau_tree.specs.Nodes as all
use Rattle.luau_run.specs.SyntaxNode.{SyntaxNode, AnExpr, ABody, ABind}

-- the number of a node that is an expression, and of one that is a body
abbrev pub expr_number : SyntaxNode → Option ℕ
expr_number (AnExpr (the_expr id span kind)) = Some id
expr_number _ = None

abbrev pub body_number : SyntaxNode → Option ℕ
body_number (ABody (the_body id has_self generics params vararg result code span)) = Some id
body_number _ = None

-- a node of a tree, as one that runs
abbrev pub node_of : SyntaxNode → Node
node_of (AnExpr e) = all.AnExpr e
node_of (ABody body) = all.ABody body
node_of (ABind bind) = all.ABind bind

-- some nodes that run come of the nodes of a tree by leaving nodes out
pub data AreAmong : List SyntaxNode → List Node → Type 0 where
  none : AreAmong [] []
  one : {xs : List SyntaxNode} {ys : List Node} (x : SyntaxNode) → AreAmong xs ys → AreAmong (x ∷ xs) (node_of x ∷ ys)
  left_out : {xs : List SyntaxNode} {ys : List Node} (y : Node) → AreAmong xs ys → AreAmong xs (y ∷ ys)
