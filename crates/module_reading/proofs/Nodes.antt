-- The nodes that run are among the nodes of a tree.
use Rattle.std.proofs.Common.{◌≡◌, List, [], ◌∷◌, ◌++◌, map, inl, inr}
use Rattle.std.specs.List.{filter_map}
use Rattle.luau_tree.specs.Tree.{Block, no_stats, more_stats, Stat, the_stat, StatKind, Assign, Compound, CallStat, Do, While, Repeat, If, NumFor, GenFor, FunctionStat, LocalFunction, Local, TypeAlias, TypeFunction, Return, Break, Continue, Arms, no_arms, more_arms, MaybeBlock, no_block, a_block, Expr, the_expr, Exprs, no_exprs, more_exprs, MaybeExpr, no_expr, an_expr, ExprKind, NilExpr, TrueExpr, FalseExpr, NumberExpr, StrExpr, Vararg, FunctionExpr, NameExpr, Index, At, Call, Method, Paren, Unary, Binary, IfElse, TableExpr, Interp, Assert, Choices, no_choices, more_choices, Item, Field, Keyed, Plain, Items, no_items, more_items, Body, the_body, Bind, the_bind, Binds, no_binds, more_binds}
use Rattle.luau_tree.specs.Nodes as all
use Rattle.luau_tree.specs.Nodes.{Node, exprs_among, bodies_among, binds_among, nodes_of_block, nodes_of_stat, nodes_of_stat_kind, nodes_of_arms, nodes_of_maybe_block, nodes_of_expr, nodes_of_exprs, nodes_of_maybe_expr, nodes_of_expr_kind, nodes_of_choices, nodes_of_items, nodes_of_item, nodes_of_body, nodes_of_bind, nodes_of_binds}
use Rattle.luau_scope.specs.Laws.{Within}
use Rattle.luau_scope.specs.Laws as within
use Rattle.luau_run.specs.SyntaxNode.{SyntaxNode, AnExpr, ABody, ABind, of_block, of_stat, of_stat_kind, of_arms, of_maybe_block, of_expr, of_exprs, of_maybe_expr, of_expr_kind, of_choices, of_items, of_item, of_body, of_binds}
use Rattle.module_reading.specs.Nodes.{expr_number, body_number, AreAmong, none, one, left_out}
use Rattle.module_reading.proofs.Lists.{Has}

nothing_of : (ys : List Node) → AreAmong [] ys
nothing_of [] = none
nothing_of (y ∷ ys) = left_out y (nothing_of ys)

join : {xs xs' : List SyntaxNode} {ys ys' : List Node} → AreAmong xs ys → AreAmong xs' ys' → AreAmong (xs ++ xs') (ys ++ ys')
join none b = b
join (one x a) b = one x (join a b)
join (left_out y a) b = left_out y (join a b)

-- nodes that don't run, before others and behind them
past : {xs : List SyntaxNode} {ys : List Node} (zs : List Node) → AreAmong xs ys → AreAmong xs (zs ++ ys)
past [] a = a
past (z ∷ zs) a = left_out z (past zs a)

before : {xs : List SyntaxNode} {ys : List Node} (zs : List Node) → AreAmong xs ys → AreAmong xs (ys ++ zs)
before zs none = nothing_of zs
before zs (one x a) = one x (before zs a)
before zs (left_out y a) = left_out y (before zs a)

bind : (b : Bind) → AreAmong (ABind b ∷ []) (nodes_of_bind b)
bind (the_bind name span type) = one (ABind (the_bind name span type)) (nothing_of (all.nodes_of_maybe_type type))

binds : (bs : Binds) → AreAmong (of_binds bs) (nodes_of_binds bs)
binds no_binds = none
binds (more_binds b rest) = join (bind b) (binds rest)

mutual
  pub block : (x : Block) → AreAmong (of_block x) (nodes_of_block x)
  block no_stats = none
  block (more_stats s rest) = join (stat s) (block rest)

  stat : (x : Stat) → AreAmong (of_stat x) (nodes_of_stat x)
  stat (the_stat span kind) = stat_kind kind

  stat_kind : (x : StatKind) → AreAmong (of_stat_kind x) (nodes_of_stat_kind x)
  stat_kind (Assign targets values) = join (exprs targets) (exprs values)
  stat_kind (Compound target op e) = join (expr target) (expr e)
  stat_kind (CallStat e) = expr e
  stat_kind (Do body) = block body
  stat_kind (While cond body) = join (expr cond) (block body)
  stat_kind (Repeat body cond) = join (block body) (expr cond)
  stat_kind (If list last) = join (arms list) (maybe_block last)
  stat_kind (NumFor b from to by body) = join (join (join (join (bind b) (expr from)) (expr to)) (maybe_expr by)) (block body)
  stat_kind (GenFor bs values body) = join (join (binds bs) (exprs values)) (block body)
  stat_kind (FunctionStat path method b) = join (expr path) (a_body b)
  stat_kind (LocalFunction name b) = join (bind name) (a_body b)
  stat_kind (Local bs values) = join (binds bs) (exprs values)
  stat_kind (TypeAlias exported name generics type) = nothing_of (nodes_of_stat_kind (TypeAlias exported name generics type))
  stat_kind (TypeFunction exported name body) = nothing_of (nodes_of_stat_kind (TypeFunction exported name body))
  stat_kind (Return values) = exprs values
  stat_kind Break = none
  stat_kind Continue = none

  arms : (x : Arms) → AreAmong (of_arms x) (nodes_of_arms x)
  arms no_arms = none
  arms (more_arms cond body rest) = join (join (expr cond) (block body)) (arms rest)

  maybe_block : (x : MaybeBlock) → AreAmong (of_maybe_block x) (nodes_of_maybe_block x)
  maybe_block no_block = none
  maybe_block (a_block body) = block body

  expr : (x : Expr) → AreAmong (of_expr x) (nodes_of_expr x)
  expr (the_expr id span kind) = one (AnExpr (the_expr id span kind)) (expr_kind kind)

  exprs : (x : Exprs) → AreAmong (of_exprs x) (nodes_of_exprs x)
  exprs no_exprs = none
  exprs (more_exprs e rest) = join (expr e) (exprs rest)

  maybe_expr : (x : MaybeExpr) → AreAmong (of_maybe_expr x) (nodes_of_maybe_expr x)
  maybe_expr no_expr = none
  maybe_expr (an_expr e) = expr e

  expr_kind : (x : ExprKind) → AreAmong (of_expr_kind x) (nodes_of_expr_kind x)
  expr_kind NilExpr = none
  expr_kind TrueExpr = none
  expr_kind FalseExpr = none
  expr_kind (NumberExpr text) = none
  expr_kind (StrExpr bytes) = none
  expr_kind Vararg = none
  expr_kind (FunctionExpr b) = a_body b
  expr_kind (NameExpr name) = none
  expr_kind (Index base name) = expr base
  expr_kind (At base key) = join (expr base) (expr key)
  expr_kind (Call callee args) = join (expr callee) (exprs args)
  expr_kind (Method base name span args) = join (expr base) (exprs args)
  expr_kind (Paren e) = expr e
  expr_kind (Unary op e) = expr e
  expr_kind (Binary op left right) = join (expr left) (expr right)
  expr_kind (IfElse list last) = join (choices list) (expr last)
  expr_kind (TableExpr list) = items list
  expr_kind (Interp texts parts) = exprs parts
  expr_kind (Assert e type) = before (all.nodes_of_type type) (expr e)

  choices : (x : Choices) → AreAmong (of_choices x) (nodes_of_choices x)
  choices no_choices = none
  choices (more_choices cond e rest) = join (join (expr cond) (expr e)) (choices rest)

  items : (x : Items) → AreAmong (of_items x) (nodes_of_items x)
  items no_items = none
  items (more_items i rest) = join (item i) (items rest)

  item : (x : Item) → AreAmong (of_item x) (nodes_of_item x)
  item (Field name e) = expr e
  item (Keyed key e) = join (expr key) (expr e)
  item (Plain e) = expr e

  a_body : (x : Body) → AreAmong (of_body x) (nodes_of_body x)
  a_body (the_body id has_self generics params vararg returned code span) =
      one (ABody (the_body id has_self generics params vararg returned code span))
      (join (before (all.nodes_of_maybe_type returned) (before (all.nodes_of_varargs vararg) (past (all.nodes_of_gens generics) (binds params)))) (block code))

-- ---- what follows

pub exprs_within : {xs : List SyntaxNode} {ys : List Node} → AreAmong xs ys → Within (filter_map expr_number xs) (map all.expr_number (exprs_among ys))
exprs_within none = within.none
exprs_within (one (AnExpr (the_expr id span kind)) a) = within.both id (exprs_within a)
exprs_within (one (ABody (the_body id has_self generics params vararg returned code span)) a) = exprs_within a
exprs_within (one (ABind b) a) = exprs_within a
exprs_within (left_out (all.AnExpr e) a) = within.left_out (all.expr_number e) (exprs_within a)
exprs_within (left_out (all.ABody b) a) = exprs_within a
exprs_within (left_out (all.ABind b) a) = exprs_within a

pub bodies_within : {xs : List SyntaxNode} {ys : List Node} → AreAmong xs ys → Within (filter_map body_number xs) (map all.body_number (bodies_among ys))
bodies_within none = within.none
bodies_within (one (AnExpr (the_expr id span kind)) a) = bodies_within a
bodies_within (one (ABody (the_body id has_self generics params vararg returned code span)) a) = within.both id (bodies_within a)
bodies_within (one (ABind b) a) = bodies_within a
bodies_within (left_out (all.AnExpr e) a) = bodies_within a
bodies_within (left_out (all.ABody b) a) = within.left_out (all.body_number b) (bodies_within a)
bodies_within (left_out (all.ABind b) a) = bodies_within a

-- a node that runs is a node of the tree
pub has_expr : {xs : List SyntaxNode} {ys : List Node} (e : Expr) → AreAmong xs ys → Has xs (AnExpr e) → Has (exprs_among ys) e
has_expr e none h = absurd h
has_expr e (one (AnExpr f) a) (inl q) = inl (let z : f ≡ e = cc in z)
has_expr e (one (AnExpr f) a) (inr h) = inr (has_expr e a h)
has_expr e (one (ABody b) a) (inl q) = cc
has_expr e (one (ABody b) a) (inr h) = has_expr e a h
has_expr e (one (ABind b) a) (inl q) = cc
has_expr e (one (ABind b) a) (inr h) = has_expr e a h
has_expr e (left_out (all.AnExpr f) a) h = inr (has_expr e a h)
has_expr e (left_out (all.ABody b) a) h = has_expr e a h
has_expr e (left_out (all.ABind b) a) h = has_expr e a h

pub has_body : {xs : List SyntaxNode} {ys : List Node} (b : Body) → AreAmong xs ys → Has xs (ABody b) → Has (bodies_among ys) b
has_body b none h = absurd h
has_body b (one (AnExpr f) a) (inl q) = cc
has_body b (one (AnExpr f) a) (inr h) = has_body b a h
has_body b (one (ABody c) a) (inl q) = inl (let z : c ≡ b = cc in z)
has_body b (one (ABody c) a) (inr h) = inr (has_body b a h)
has_body b (one (ABind c) a) (inl q) = cc
has_body b (one (ABind c) a) (inr h) = has_body b a h
has_body b (left_out (all.AnExpr f) a) h = has_body b a h
has_body b (left_out (all.ABody c) a) h = inr (has_body b a h)
has_body b (left_out (all.ABind c) a) h = has_body b a h

pub has_bind : {xs : List SyntaxNode} {ys : List Node} (b : Bind) → AreAmong xs ys → Has xs (ABind b) → Has (binds_among ys) b
has_bind b none h = absurd h
has_bind b (one (AnExpr f) a) (inl q) = cc
has_bind b (one (AnExpr f) a) (inr h) = has_bind b a h
has_bind b (one (ABody c) a) (inl q) = cc
has_bind b (one (ABody c) a) (inr h) = has_bind b a h
has_bind b (one (ABind c) a) (inl q) = inl (let z : c ≡ b = cc in z)
has_bind b (one (ABind c) a) (inr h) = inr (has_bind b a h)
has_bind b (left_out (all.AnExpr f) a) h = has_bind b a h
has_bind b (left_out (all.ABody c) a) h = has_bind b a h
has_bind b (left_out (all.ABind c) a) h = inr (has_bind b a h)
