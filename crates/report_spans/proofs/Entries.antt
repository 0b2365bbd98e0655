-- Each expression and each parameter has one entry of findings, with its span, in the order of the text.
use Rattle.std.proofs.Common.{◌≡◌, ℕ, suc, Bool, List, [], ◌∷◌, ◌++◌, Some, None, Option, refl, sym, ap, ap₂, ◌∙◌, append_assoc}
use Rattle.luau_tree.specs.declared.position.Span.{Span}
use Rattle.luau_tree.specs.declared.names.Place.{Place}
use Rattle.luau_tree.specs.declared.names.Place.TheVariants.{Expr as ExprPlace, Param as ParamPlace}
use Rattle.luau_tree.specs.Tree.{Block, no_stats, more_stats, Stat, the_stat, StatKind, Assign, Compound, CallStat, Do, While, Repeat, If, NumFor, GenFor, FunctionStat, LocalFunction, Local, TypeAlias, TypeFunction, Return, Break, Continue, Arms, no_arms, more_arms, MaybeBlock, no_block, a_block}
use Rattle.luau_tree.specs.Tree.{Expr, the_expr, Exprs, no_exprs, more_exprs, MaybeExpr, no_expr, an_expr, ExprKind, NilExpr, TrueExpr, FalseExpr, NumberExpr, StrExpr, Vararg, FunctionExpr, NameExpr, Index, At, Call, Method, Paren, Unary, Binary, IfElse, TableExpr, Interp, Assert, Choices, no_choices, more_choices, Item, Field, Keyed, Plain, Items, no_items, more_items}
use Rattle.luau_tree.specs.Tree.{Body, the_body, Binds, no_binds, more_binds}
use Rattle.luau_run.specs.SyntaxNode.{SyntaxNode, AnExpr, ABody, ABind, of_binds, of_block, of_stat, of_stat_kind, of_arms, of_maybe_block, of_expr, of_exprs, of_maybe_expr, of_expr_kind, of_choices, of_items, of_item, of_body}
use Rattle.report_rules.specs.Rules.{TypedBuiltin, Rules}
use Rattle.report_rules.specs.Effects.{targets_of}
use Rattle.report_rules.specs.Seen.{Seen, seen_module, is_body_live}
use Rattle.report_rules.specs.Context.{Context, none}
use Rattle.report_rules.specs.Checks.{ReportKind, checked_callee, argument_kinds}
use Rattle.report_rules.specs.Errors.{index_kinds, call_kinds, unary_kinds, side_kinds, expands_as}
use Rattle.report_rules.specs.Statements.{Wanted, write_kinds, bound_kinds, iteration_kinds, value_kinds, wanted_of_binds, wanted_of_targets, first_wanted, rest_wanted, values_context, old_kinds, added_kinds, while_context, until_context, keep, stm_block}
use Rattle.report_rules.specs.Findings.{Finding, bind_span, read_kinds, compound_kinds, found_params, found, found_in, found_parts, found_args, found_choices, found_items, found_item, found_values, found_target, found_targets, found_compound, found_maybe_bound, found_iteration, found_body, found_block, found_stat, found_kind, found_arms, found_last}
use Rattle.report_spans.specs.Located.{params_located, located, places_and_spans}
use Rattle.report_rules.specs.Reports.{findings}

found_append : (xs ys : List Finding) → places_and_spans (xs ++ ys) ≡ places_and_spans xs ++ places_and_spans ys
found_append [] ys = refl
found_append (x ∷ xs) ys = ap (λ (ps : List (Place × Span)). (x.place, x.at) ∷ ps) (found_append xs ys)

places_append : (ms ns : List SyntaxNode) → located (ms ++ ns) ≡ located ms ++ located ns
places_append [] ns = refl
places_append (AnExpr (the_expr id span kind) ∷ ms) ns = ap (λ (ps : List (Place × Span)). (ExprPlace (record { 0 = id }), span) ∷ ps) (places_append ms ns)
places_append (ABody (the_body id has_self generics params vararg result block span) ∷ ms) ns =
    ap (λ (ps : List (Place × Span)). params_located id 0 params ++ ps) (places_append ms ns) ∙ sym (append_assoc (params_located id 0 params) (located ms) (located ns))
places_append (ABind bind ∷ ms) ns = places_append ms ns

-- two parts in a row
both : (xs ys : List Finding) (ms ns : List SyntaxNode) → places_and_spans xs ≡ located ms → places_and_spans ys ≡ located ns → places_and_spans (xs ++ ys) ≡ located (ms ++ ns)
both xs ys ms ns e f = found_append xs ys ∙ ap₂ (λ (ps qs : List (Place × Span)). ps ++ qs) e f ∙ sym (places_append ms ns)

-- declared names are no places
skip : (binds : Binds) (xs : List Finding) (ms : List SyntaxNode) → places_and_spans xs ≡ located ms → places_and_spans xs ≡ located (of_binds binds ++ ms)
skip no_binds xs ms e = e
skip (more_binds bind rest) xs ms e = skip rest xs ms e

params_at : (rules : Rules) (live : Bool) (function position : ℕ) (body : Context) (binds : Binds)
    → places_and_spans (found_params rules live function position body binds) ≡ params_located function position binds
params_at rules live function position body no_binds = refl
params_at rules live function position body (more_binds bind rest) =
    ap (λ (ps : List (Place × Span)). (ParamPlace (record { 0 = function }) position, bind_span bind) ∷ ps) (params_at rules live function (suc position) body rest)

mutual
  expr_at : (r : Rules) (s : List Seen) (ks : List ReportKind) (e : Expr) → places_and_spans (found r s ks e) ≡ located (of_expr e)
  expr_at r s ks (the_expr id span kind) = ap (λ (ps : List (Place × Span)). (ExprPlace (record { 0 = id }), span) ∷ ps) (in_at r s (read_kinds s (r.reading.use_of id)) kind)

  in_at : (r : Rules) (s : List Seen) (b : Expr → List ReportKind) (kind : ExprKind) → places_and_spans (found_in r s b kind) ≡ located (of_expr_kind kind)
  in_at r s b NilExpr = refl
  in_at r s b TrueExpr = refl
  in_at r s b FalseExpr = refl
  in_at r s b (NumberExpr text) = refl
  in_at r s b (StrExpr bytes) = refl
  in_at r s b Vararg = refl
  in_at r s b (NameExpr name) = refl
  in_at r s b (FunctionExpr body) = body_at r s body
  in_at r s b (Index base name) = expr_at r s (b base) base
  in_at r s b (At base key) = both (found r s (b base) base) (found r s [] key) (of_expr base) (of_expr key) (expr_at r s (b base) base) (expr_at r s [] key)
  in_at r s b (Call callee args) =
      both (found r s (call_kinds s callee) callee) (found_args r s (checked_callee r s callee) 0 args) (of_expr callee) (of_exprs args)
      (expr_at r s (call_kinds s callee) callee) (args_at r s (checked_callee r s callee) 0 args)
  in_at r s b (Method base name name_span args) =
      both (found r s (index_kinds s base) base) (found_parts r s args) (of_expr base) (of_exprs args) (expr_at r s (index_kinds s base) base) (parts_at r s args)
  in_at r s b (Paren e) = expr_at r s [] e
  in_at r s b (Unary op e) = expr_at r s (unary_kinds s op e) e
  in_at r s b (Binary op left right) =
      both (found r s (side_kinds s op left right) left) (found r s (side_kinds s op right left) right) (of_expr left) (of_expr right)
      (expr_at r s (side_kinds s op left right) left) (expr_at r s (side_kinds s op right left) right)
  in_at r s b (IfElse arms last) =
      both (found_choices r s arms) (found r s [] last) (of_choices arms) (of_expr last) (choices_at r s arms) (expr_at r s [] last)
  in_at r s b (TableExpr items) = items_at r s items
  in_at r s b (Interp texts parts) = parts_at r s parts
  in_at r s b (Assert e syntax) = expr_at r s [] e

  parts_at : (r : Rules) (s : List Seen) (es : Exprs) → places_and_spans (found_parts r s es) ≡ located (of_exprs es)
  parts_at r s no_exprs = refl
  parts_at r s (more_exprs e rest) = both (found r s [] e) (found_parts r s rest) (of_expr e) (of_exprs rest) (expr_at r s [] e) (parts_at r s rest)

  args_at : (r : Rules) (s : List Seen) (w : Option TypedBuiltin) (i : ℕ) (es : Exprs) → places_and_spans (found_args r s w i es) ≡ located (of_exprs es)
  args_at r s w i no_exprs = refl
  args_at r s w i (more_exprs e rest) =
      both (found r s (argument_kinds s w i (expands_as e rest) e) e) (found_args r s w (suc i) rest) (of_expr e) (of_exprs rest)
      (expr_at r s (argument_kinds s w i (expands_as e rest) e) e) (args_at r s w (suc i) rest)

  choices_at : (r : Rules) (s : List Seen) (arms : Choices) → places_and_spans (found_choices r s arms) ≡ located (of_choices arms)
  choices_at r s no_choices = refl
  choices_at r s (more_choices cond e rest) =
      both (found r s [] cond ++ found r s [] e) (found_choices r s rest) (of_expr cond ++ of_expr e) (of_choices rest)
      (both (found r s [] cond) (found r s [] e) (of_expr cond) (of_expr e) (expr_at r s [] cond) (expr_at r s [] e)) (choices_at r s rest)

  items_at : (r : Rules) (s : List Seen) (items : Items) → places_and_spans (found_items r s items) ≡ located (of_items items)
  items_at r s no_items = refl
  items_at r s (more_items item rest) = both (found_item r s item) (found_items r s rest) (of_item item) (of_items rest) (item_at r s item) (items_at r s rest)

  item_at : (r : Rules) (s : List Seen) (item : Item) → places_and_spans (found_item r s item) ≡ located (of_item item)
  item_at r s (Field name e) = expr_at r s [] e
  item_at r s (Keyed key e) = both (found r s [] key) (found r s [] e) (of_expr key) (of_expr e) (expr_at r s [] key) (expr_at r s [] e)
  item_at r s (Plain e) = expr_at r s [] e

  values_at : (r : Rules) (s : List Seen) (w : List (Option Wanted)) (es : Exprs) → places_and_spans (found_values r s w es) ≡ located (of_exprs es)
  values_at r s w no_exprs = refl
  values_at r s w (more_exprs e rest) =
      both (found r s (value_kinds s e (first_wanted w)) e) (found_values r s (rest_wanted w) rest) (of_expr e) (of_exprs rest)
      (expr_at r s (value_kinds s e (first_wanted w)) e) (values_at r s (rest_wanted w) rest)

  target_at : (r : Rules) (s : List Seen) (ks : List ReportKind) (e : Expr) → places_and_spans (found_target r s ks e) ≡ located (of_expr e)
  target_at r s ks (the_expr id span kind) = ap (λ (ps : List (Place × Span)). (ExprPlace (record { 0 = id }), span) ∷ ps) (in_at r s (write_kinds s) kind)

  targets_at : (r : Rules) (s : List Seen) (es : Exprs) → places_and_spans (found_targets r s es) ≡ located (of_exprs es)
  targets_at r s no_exprs = refl
  targets_at r s (more_exprs e rest) = both (found_target r s [] e) (found_targets r s rest) (of_expr e) (of_exprs rest) (target_at r s [] e) (targets_at r s rest)

  compound_at : (r : Rules) (s : List Seen) (ks : List ReportKind) (e : Expr) → places_and_spans (found_compound r s ks e) ≡ located (of_expr e)
  compound_at r s ks (the_expr id span kind) = ap (λ (ps : List (Place × Span)). (ExprPlace (record { 0 = id }), span) ∷ ps) (in_at r s (compound_kinds s) kind)

  bound_at : (r : Rules) (s : List Seen) (e : MaybeExpr) → places_and_spans (found_maybe_bound r s e) ≡ located (of_maybe_expr e)
  bound_at r s no_expr = refl
  bound_at r s (an_expr e) = expr_at r s (bound_kinds s e) e

  iteration_at : (r : Rules) (s : List Seen) (es : Exprs) → places_and_spans (found_iteration r s es) ≡ located (of_exprs es)
  iteration_at r s no_exprs = refl
  iteration_at r s (more_exprs e rest) =
      both (found r s (iteration_kinds s e) e) (found_parts r s rest) (of_expr e) (of_exprs rest) (expr_at r s (iteration_kinds s e) e) (parts_at r s rest)

  body_at : (r : Rules) (s : List Seen) (body : Body) → places_and_spans (found_body r s body) ≡ located (of_body body)
  body_at r s (the_body id has_self generics params vararg result block span) =
      found_append (found_params r (is_body_live s id) id 0 (stm_block r s block none none none) params) (found_block r s block none none none)
      ∙ ap₂ (λ (ps qs : List (Place × Span)). ps ++ qs) (params_at r (is_body_live s id) id 0 (stm_block r s block none none none) params)
      (skip params (found_block r s block none none none) (of_block block) (block_at r s block none none none))

  pub block_at : (r : Rules) (s : List Seen) (block : Block) (c b k : Context) → places_and_spans (found_block r s block c b k) ≡ located (of_block block)
  block_at r s no_stats c b k = refl
  block_at r s (more_stats st rest) c b k =
      both (found_stat r s st (stm_block r s rest c b k) b k) (found_block r s rest c b k) (of_stat st) (of_block rest)
      (stat_at r s st (stm_block r s rest c b k) b k) (block_at r s rest c b k)

  stat_at : (r : Rules) (s : List Seen) (st : Stat) (c b k : Context) → places_and_spans (found_stat r s st c b k) ≡ located (of_stat st)
  stat_at r s (the_stat span kind) c b k = kind_at r s span kind c b k

  kind_at : (r : Rules) (s : List Seen) (span : Span) (kind : StatKind) (c b k : Context) → places_and_spans (found_kind r s span kind c b k) ≡ located (of_stat_kind kind)
  kind_at r s span (Assign to vs) c b k =
      both (found_targets r s to) (found_values r s (wanted_of_targets r (values_context r (targets_of r to) vs c) to) vs) (of_exprs to) (of_exprs vs)
      (targets_at r s to) (values_at r s (wanted_of_targets r (values_context r (targets_of r to) vs c) to) vs)
  kind_at r s span (Compound to op e) c b k =
      both (found_compound r s (old_kinds s to op e) to) (found r s (added_kinds s to op e) e) (of_expr to) (of_expr e)
      (compound_at r s (old_kinds s to op e) to) (expr_at r s (added_kinds s to op e) e)
  kind_at r s span (CallStat e) c b k = expr_at r s [] e
  kind_at r s span (Do body) c b k = block_at r s body c b k
  kind_at r s span (While cond body) c b k =
      both (found r s [] cond) (found_block r s body (while_context r s span cond body c) c (while_context r s span cond body c)) (of_expr cond) (of_block body)
      (expr_at r s [] cond) (block_at r s body (while_context r s span cond body c) c (while_context r s span cond body c))
  kind_at r s span (Repeat body cond) c b k =
      both (found_block r s body (until_context r s span body cond c) c (until_context r s span body cond c)) (found r s [] cond) (of_block body) (of_expr cond)
      (block_at r s body (until_context r s span body cond c) c (until_context r s span body cond c)) (expr_at r s [] cond)
  kind_at r s span (If arms last) c b k =
      both (found_arms r s arms c b k) (found_last r s last c b k) (of_arms arms) (of_maybe_block last) (arms_at r s arms c b k) (last_at r s last c b k)
  kind_at r s span (NumFor bind from to by body) c b k =
      both (found r s (bound_kinds s from) from ++ found r s (bound_kinds s to) to ++ found_maybe_bound r s by)
      (found_block r s body (keep r (the_stat span (NumFor bind from to by body)) body c) c (keep r (the_stat span (NumFor bind from to by body)) body c))
      (of_expr from ++ of_expr to ++ of_maybe_expr by) (of_block body)
      (both (found r s (bound_kinds s from) from ++ found r s (bound_kinds s to) to) (found_maybe_bound r s by) (of_expr from ++ of_expr to) (of_maybe_expr by)
      (both (found r s (bound_kinds s from) from) (found r s (bound_kinds s to) to) (of_expr from) (of_expr to)
      (expr_at r s (bound_kinds s from) from) (expr_at r s (bound_kinds s to) to))
      (bound_at r s by))
      (block_at r s body (keep r (the_stat span (NumFor bind from to by body)) body c) c (keep r (the_stat span (NumFor bind from to by body)) body c))
  kind_at r s span (GenFor binds vs body) c b k =
      both (found_iteration r s vs)
      (found_block r s body (keep r (the_stat span (GenFor binds vs body)) body c) c (keep r (the_stat span (GenFor binds vs body)) body c))
      (of_binds binds ++ of_exprs vs) (of_block body)
      (skip binds (found_iteration r s vs) (of_exprs vs) (iteration_at r s vs))
      (block_at r s body (keep r (the_stat span (GenFor binds vs body)) body c) c (keep r (the_stat span (GenFor binds vs body)) body c))
  kind_at r s span (FunctionStat path None body) c b k =
      both (found_target r s [] path) (found_body r s body) (of_expr path) (of_body body) (target_at r s [] path) (body_at r s body)
  kind_at r s span (FunctionStat path (Some method) body) c b k =
      both (found r s (write_kinds s path) path) (found_body r s body) (of_expr path) (of_body body) (expr_at r s (write_kinds s path) path) (body_at r s body)
  kind_at r s span (LocalFunction name body) c b k = body_at r s body
  kind_at r s span (Local binds vs) c b k =
      skip binds (found_values r s (wanted_of_binds r (values_context r [] vs c) binds) vs) (of_exprs vs)
      (values_at r s (wanted_of_binds r (values_context r [] vs c) binds) vs)
  kind_at r s span (Return vs) c b k = parts_at r s vs
  kind_at r s span (TypeAlias exported name generics syntax) c b k = refl
  kind_at r s span (TypeFunction exported name body) c b k = refl
  kind_at r s span Break c b k = refl
  kind_at r s span Continue c b k = refl

  arms_at : (r : Rules) (s : List Seen) (arms : Arms) (c b k : Context) → places_and_spans (found_arms r s arms c b k) ≡ located (of_arms arms)
  arms_at r s no_arms c b k = refl
  arms_at r s (more_arms cond body rest) c b k =
      both (found r s [] cond ++ found_block r s body c b k) (found_arms r s rest c b k) (of_expr cond ++ of_block body) (of_arms rest)
      (both (found r s [] cond) (found_block r s body c b k) (of_expr cond) (of_block body) (expr_at r s [] cond) (block_at r s body c b k)) (arms_at r s rest c b k)

  last_at : (r : Rules) (s : List Seen) (last : MaybeBlock) (c b k : Context) → places_and_spans (found_last r s last c b k) ≡ located (of_maybe_block last)
  last_at r s no_block c b k = refl
  last_at r s (a_block body) c b k = block_at r s body c b k

pub one_each : (rules : Rules) → places_and_spans (findings rules) ≡ located (of_block rules.reading.block)
one_each rules = block_at rules (seen_module rules) rules.reading.block none none none
