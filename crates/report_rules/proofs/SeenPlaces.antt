-- Each expression and each body has one entry of what is seen, in the order of the text.
use Rattle.std.proofs.Common.{◌≡◌, true, false, List, [], ◌∷◌, ◌++◌, Some, None, refl, sym, ap, ap₂, ◌∙◌, append_assoc}
use Rattle.luau_tree.specs.declared.position.Span.{Span}
use Rattle.luau_tree.specs.declared.names.BinOp.TheVariants.{Or, And}
use Rattle.luau_tree.specs.Tree.{Block, no_stats, more_stats, Stat, the_stat, StatKind, Assign, Compound, CallStat, Do, While, Repeat, If, NumFor, GenFor, FunctionStat, LocalFunction, Local, TypeAlias, TypeFunction, Return, Break, Continue, Arms, no_arms, more_arms, MaybeBlock, no_block, a_block}
use Rattle.luau_tree.specs.Tree.{Expr, the_expr, Exprs, no_exprs, more_exprs, MaybeExpr, no_expr, an_expr, ExprKind, NilExpr, TrueExpr, FalseExpr, NumberExpr, StrExpr, Vararg, FunctionExpr, NameExpr, Index, At, Call, Method, Paren, Unary, Binary, IfElse, TableExpr, Interp, Assert, Choices, no_choices, more_choices, Item, Field, Keyed, Plain, Items, no_items, more_items}
use Rattle.luau_tree.specs.Tree.{Body, the_body, Binds, no_binds, more_binds}
use Rattle.luau_run.specs.SyntaxNode.{SyntaxNode, AnExpr, ABody, ABind, of_binds, of_block, of_stat, of_stat_kind, of_arms, of_maybe_block, of_expr, of_exprs, of_maybe_expr, of_expr_kind, of_choices, of_items, of_item, of_body}
use Rattle.report_rules.specs.Rules.{Rules}
use Rattle.report_rules.specs.Effects.{effects_of_item, local_of_bind, locals_of_binds}
use Rattle.report_rules.specs.TypeMap.{TypeMap, no_map, refine, body_map}
use Rattle.report_rules.specs.Forward.{after, after_list, after_part}
use Rattle.report_rules.specs.After.{after_stat, while_head, while_map, repeat_map, number_map, iteration_map}
use Rattle.report_rules.specs.Seen.{Seen, SeenExpr, SeenBody, own_map, seen_expr, seen_in, seen_list, seen_maybe, seen_choices, seen_items, seen_item, seen_target, seen_targets, seen_body, seen_block, seen_stat, seen_kind, seen_arms, seen_last, seen_module}
use Rattle.report_rules.specs.Places.{Numbered, NumberedExpr, NumberedBody, numbered, seen_numbers}

seen_append : (xs ys : List Seen) → seen_numbers (xs ++ ys) ≡ seen_numbers xs ++ seen_numbers ys
seen_append [] ys = refl
seen_append (SeenExpr id type live ∷ xs) ys = ap (λ (ps : List Numbered). NumberedExpr id ∷ ps) (seen_append xs ys)
seen_append (SeenBody id live ∷ xs) ys = ap (λ (ps : List Numbered). NumberedBody id ∷ ps) (seen_append xs ys)

numbered_append : (ms ns : List SyntaxNode) → numbered (ms ++ ns) ≡ numbered ms ++ numbered ns
numbered_append [] ns = refl
numbered_append (AnExpr (the_expr id span kind) ∷ ms) ns = ap (λ (ps : List Numbered). NumberedExpr id ∷ ps) (numbered_append ms ns)
numbered_append (ABody (the_body id has_self generics params vararg result block span) ∷ ms) ns = ap (λ (ps : List Numbered). NumberedBody id ∷ ps) (numbered_append ms ns)
numbered_append (ABind bind ∷ ms) ns = numbered_append ms ns

-- two parts in a row
both : (xs ys : List Seen) (ms ns : List SyntaxNode) → seen_numbers xs ≡ numbered ms → seen_numbers ys ≡ numbered ns → seen_numbers (xs ++ ys) ≡ numbered (ms ++ ns)
both xs ys ms ns e f = seen_append xs ys ∙ ap₂ (λ (ps qs : List Numbered). ps ++ qs) e f ∙ sym (numbered_append ms ns)

-- declared names have no entry
skip : (binds : Binds) (xs : List Seen) (ms : List SyntaxNode) → seen_numbers xs ≡ numbered ms → seen_numbers xs ≡ numbered (of_binds binds ++ ms)
skip no_binds xs ms e = e
skip (more_binds bind rest) xs ms e = skip rest xs ms e

mutual
  expr_in : (r : Rules) (m : TypeMap) (e : Expr) → seen_numbers (seen_expr r m e) ≡ numbered (of_expr e)
  expr_in r m (the_expr id span kind) = ap (λ (ps : List Numbered). NumberedExpr id ∷ ps) (parts_in r m kind)

  parts_in : (r : Rules) (m : TypeMap) (kind : ExprKind) → seen_numbers (seen_in r m kind) ≡ numbered (of_expr_kind kind)
  parts_in r m NilExpr = refl
  parts_in r m TrueExpr = refl
  parts_in r m FalseExpr = refl
  parts_in r m (NumberExpr text) = refl
  parts_in r m (StrExpr bytes) = refl
  parts_in r m Vararg = refl
  parts_in r m (NameExpr name) = refl
  parts_in r m (FunctionExpr body) = body_in r m body
  parts_in r m (Index base name) = expr_in r m base
  parts_in r m (At base key) = both (seen_expr r m base) (seen_expr r (after r m base) key) (of_expr base) (of_expr key) (expr_in r m base) (expr_in r (after r m base) key)
  parts_in r m (Call callee args) =
      both (seen_expr r m callee) (seen_list r (after r m callee) args) (of_expr callee) (of_exprs args) (expr_in r m callee) (list_in r (after r m callee) args)
  parts_in r m (Method base name name_span args) =
      both (seen_expr r m base) (seen_list r (after r m base) args) (of_expr base) (of_exprs args) (expr_in r m base) (list_in r (after r m base) args)
  parts_in r m (Paren e) = expr_in r m e
  parts_in r m (Unary op e) = expr_in r m e
  parts_in r m (Binary And left right) =
      both (seen_expr r m left) (seen_expr r (refine r left true (after r m left)) right) (of_expr left) (of_expr right)
      (expr_in r m left) (expr_in r (refine r left true (after r m left)) right)
  parts_in r m (Binary Or left right) =
      both (seen_expr r m left) (seen_expr r (refine r left false (after r m left)) right) (of_expr left) (of_expr right)
      (expr_in r m left) (expr_in r (refine r left false (after r m left)) right)
  parts_in r m (Binary _ left right) =
      both (seen_expr r m left) (seen_expr r (after r m left) right) (of_expr left) (of_expr right) (expr_in r m left) (expr_in r (after r m left) right)
  parts_in r m (IfElse arms last) = choices_in r m arms (λ n. seen_expr r n last) (of_expr last) (λ n. expr_in r n last)
  parts_in r m (TableExpr items) = items_in r m items
  parts_in r m (Interp texts parts) = list_in r m parts
  parts_in r m (Assert e syntax) = expr_in r m e

  list_in : (r : Rules) (m : TypeMap) (es : Exprs) → seen_numbers (seen_list r m es) ≡ numbered (of_exprs es)
  list_in r m no_exprs = refl
  list_in r m (more_exprs e rest) = both (seen_expr r m e) (seen_list r (after r m e) rest) (of_expr e) (of_exprs rest) (expr_in r m e) (list_in r (after r m e) rest)

  maybe_in : (r : Rules) (m : TypeMap) (e : MaybeExpr) → seen_numbers (seen_maybe r m e) ≡ numbered (of_maybe_expr e)
  maybe_in r m no_expr = refl
  maybe_in r m (an_expr e) = expr_in r m e

  choices_in : (r : Rules) (m : TypeMap) (arms : Choices) (last : TypeMap → List Seen) (ns : List SyntaxNode)
      → ((n : TypeMap) → seen_numbers (last n) ≡ numbered ns) → seen_numbers (seen_choices r m arms last) ≡ numbered (of_choices arms ++ ns)
  choices_in r m no_choices last ns h = h m
  choices_in r m (more_choices cond e rest) last ns h =
      both (seen_expr r m cond ++ seen_expr r (refine r cond true (after r m cond)) e) (seen_choices r (refine r cond false (after r m cond)) rest last)
      (of_expr cond ++ of_expr e) (of_choices rest ++ ns)
      (both (seen_expr r m cond) (seen_expr r (refine r cond true (after r m cond)) e) (of_expr cond) (of_expr e)
      (expr_in r m cond) (expr_in r (refine r cond true (after r m cond)) e))
      (choices_in r (refine r cond false (after r m cond)) rest last ns h)
      ∙ ap numbered (sym (append_assoc (of_expr cond ++ of_expr e) (of_choices rest) ns))

  items_in : (r : Rules) (m : TypeMap) (items : Items) → seen_numbers (seen_items r m items) ≡ numbered (of_items items)
  items_in r m no_items = refl
  items_in r m (more_items item rest) =
      both (seen_item r m item) (seen_items r (after_part (effects_of_item r item) m) rest) (of_item item) (of_items rest)
      (item_in r m item) (items_in r (after_part (effects_of_item r item) m) rest)

  item_in : (r : Rules) (m : TypeMap) (item : Item) → seen_numbers (seen_item r m item) ≡ numbered (of_item item)
  item_in r m (Field name e) = expr_in r m e
  item_in r m (Keyed key e) = both (seen_expr r m key) (seen_expr r (after r m key) e) (of_expr key) (of_expr e) (expr_in r m key) (expr_in r (after r m key) e)
  item_in r m (Plain e) = expr_in r m e

  target_in : (r : Rules) (m : TypeMap) (e : Expr) → seen_numbers (seen_target r m e) ≡ numbered (of_expr e)
  target_in r m (the_expr id span kind) = ap (λ (ps : List Numbered). NumberedExpr id ∷ ps) (parts_in r m kind)

  targets_in : (r : Rules) (m : TypeMap) (es : Exprs) → seen_numbers (seen_targets r m es) ≡ numbered (of_exprs es)
  targets_in r m no_exprs = refl
  targets_in r m (more_exprs e rest) =
      both (seen_target r m e) (seen_targets r (after r m e) rest) (of_expr e) (of_exprs rest) (target_in r m e) (targets_in r (after r m e) rest)

  body_in : (r : Rules) (m : TypeMap) (body : Body) → seen_numbers (seen_body r m body) ≡ numbered (of_body body)
  body_in r m (the_body id has_self generics params vararg result block span) =
      ap (λ (ps : List Numbered). NumberedBody id ∷ ps)
      (skip params (seen_block r (body_map (locals_of_binds r params) m) block) (of_block block) (block_in r (body_map (locals_of_binds r params) m) block))

  pub block_in : (r : Rules) (m : TypeMap) (block : Block) → seen_numbers (seen_block r m block) ≡ numbered (of_block block)
  block_in r m no_stats = refl
  block_in r m (more_stats s rest) =
      both (seen_stat r m s) (seen_block r (after_stat r m s) rest) (of_stat s) (of_block rest) (stat_in r m s) (block_in r (after_stat r m s) rest)

  stat_in : (r : Rules) (m : TypeMap) (s : Stat) → seen_numbers (seen_stat r m s) ≡ numbered (of_stat s)
  stat_in r m (the_stat span kind) = kind_in r m span kind

  kind_in : (r : Rules) (m : TypeMap) (span : Span) (kind : StatKind) → seen_numbers (seen_kind r m span kind) ≡ numbered (of_stat_kind kind)
  kind_in r m span (Assign to vs) =
      both (seen_targets r m to) (seen_list r (after_list r m to) vs) (of_exprs to) (of_exprs vs) (targets_in r m to) (list_in r (after_list r m to) vs)
  kind_in r m span (Compound to op e) =
      both (seen_target r m to) (seen_expr r (after r m to) e) (of_expr to) (of_expr e) (target_in r m to) (expr_in r (after r m to) e)
  kind_in r m span (CallStat e) = expr_in r m e
  kind_in r m span (Do body) = block_in r m body
  kind_in r m span (While cond body) =
      both (seen_expr r (while_head r span cond body m) cond) (seen_block r (while_map r span cond body m) body) (of_expr cond) (of_block body)
      (expr_in r (while_head r span cond body m) cond) (block_in r (while_map r span cond body m) body)
  kind_in r m span (Repeat body cond) =
      both (seen_block r (repeat_map r span body cond m) body) (seen_expr r (repeat_map r span body cond m) cond) (of_block body) (of_expr cond)
      (block_in r (repeat_map r span body cond m) body) (expr_in r (repeat_map r span body cond m) cond)
  kind_in r m span (If arms last) = arms_in r m arms (λ n. seen_last r n last) (of_maybe_block last) (λ n. last_in r n last)
  kind_in r m span (NumFor bind from to by body) =
      both (seen_expr r m from ++ seen_expr r (after r m from) to ++ seen_maybe r (after r (after r m from) to) by)
      (seen_block r (number_map r span bind from to by body m) body)
      (of_expr from ++ of_expr to ++ of_maybe_expr by) (of_block body)
      (both (seen_expr r m from ++ seen_expr r (after r m from) to) (seen_maybe r (after r (after r m from) to) by) (of_expr from ++ of_expr to) (of_maybe_expr by)
      (both (seen_expr r m from) (seen_expr r (after r m from) to) (of_expr from) (of_expr to) (expr_in r m from) (expr_in r (after r m from) to))
      (maybe_in r (after r (after r m from) to) by))
      (block_in r (number_map r span bind from to by body m) body)
  kind_in r m span (GenFor binds vs body) =
      both (seen_list r m vs) (seen_block r (iteration_map r span binds vs body m) body) (of_binds binds ++ of_exprs vs) (of_block body)
      (skip binds (seen_list r m vs) (of_exprs vs) (list_in r m vs)) (block_in r (iteration_map r span binds vs body m) body)
  kind_in r m span (FunctionStat path None body) =
      both (seen_target r m path) (seen_body r (after r m path) body) (of_expr path) (of_body body) (target_in r m path) (body_in r (after r m path) body)
  kind_in r m span (FunctionStat path (Some method) body) =
      both (seen_expr r m path) (seen_body r (after r m path) body) (of_expr path) (of_body body) (expr_in r m path) (body_in r (after r m path) body)
  kind_in r m span (LocalFunction name body) = body_in r (own_map r (local_of_bind r name) body m) body
  kind_in r m span (Local binds vs) = skip binds (seen_list r m vs) (of_exprs vs) (list_in r m vs)
  kind_in r m span (Return vs) = list_in r m vs
  kind_in r m span (TypeAlias exported name generics syntax) = refl
  kind_in r m span (TypeFunction exported name body) = refl
  kind_in r m span Break = refl
  kind_in r m span Continue = refl

  arms_in : (r : Rules) (m : TypeMap) (arms : Arms) (last : TypeMap → List Seen) (ns : List SyntaxNode)
      → ((n : TypeMap) → seen_numbers (last n) ≡ numbered ns) → seen_numbers (seen_arms r m arms last) ≡ numbered (of_arms arms ++ ns)
  arms_in r m no_arms last ns h = h m
  arms_in r m (more_arms cond body rest) last ns h =
      both (seen_expr r m cond ++ seen_block r (refine r cond true (after r m cond)) body) (seen_arms r (refine r cond false (after r m cond)) rest last)
      (of_expr cond ++ of_block body) (of_arms rest ++ ns)
      (both (seen_expr r m cond) (seen_block r (refine r cond true (after r m cond)) body) (of_expr cond) (of_block body)
      (expr_in r m cond) (block_in r (refine r cond true (after r m cond)) body))
      (arms_in r (refine r cond false (after r m cond)) rest last ns h)
      ∙ ap numbered (sym (append_assoc (of_expr cond ++ of_block body) (of_arms rest) ns))

  last_in : (r : Rules) (m : TypeMap) (last : MaybeBlock) → seen_numbers (seen_last r m last) ≡ numbered (of_maybe_block last)
  last_in r m no_block = refl
  last_in r m (a_block body) = block_in r m body

pub one_seen : (rules : Rules) → seen_numbers (seen_module rules) ≡ numbered (of_block rules.reading.block)
one_seen rules = block_in rules no_map rules.reading.block
