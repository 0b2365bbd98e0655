-- What is found in a body is found where the body stands: a body runs by itself, so what stands around it changes nothing of it.
use Rattle.std.proofs.Common.{◌++◌, List, [], Option, Some, None, Contains}
use Rattle.std.specs.List.{AllByRecursion}
use Rattle.luau_tree.specs.Tree.{Expr, the_expr, Exprs, no_exprs, more_exprs, MaybeExpr, no_expr, an_expr, ExprKind, NilExpr, TrueExpr, FalseExpr, NumberExpr, StrExpr, Vararg, FunctionExpr, NameExpr, Index, At, Call, Method, Paren, Unary, Binary, IfElse, TableExpr, Interp, Assert, Choices, no_choices, more_choices, Item, Field, Keyed, Plain, Items, no_items, more_items}
use Rattle.luau_tree.specs.Tree.{Body, the_body, Binds, no_binds, more_binds, Block, no_stats, more_stats, Stat, the_stat, StatKind, Assign, Compound, CallStat, Do, While, Repeat, If, NumFor, GenFor, FunctionStat, LocalFunction, Local, TypeAlias, TypeFunction, Return, Break, Continue, Arms, no_arms, more_arms, MaybeBlock, no_block, a_block}
use Rattle.luau_run.specs.SyntaxNode.{SyntaxNode, ABody, of_binds, of_block, of_stat, of_stat_kind, of_arms, of_maybe_block, of_expr, of_exprs, of_maybe_expr, of_expr_kind, of_choices, of_items, of_item, of_body}
use Rattle.report_rules.specs.Rules.{Rules, TypedBuiltin}
use Rattle.report_rules.specs.Effects.{targets_of}
use Rattle.report_rules.specs.Seen.{Seen, is_body_live}
use Rattle.report_rules.specs.Context.{Context, none}
use Rattle.report_rules.specs.Checks.{ReportKind, checked_callee, argument_kinds}
use Rattle.report_rules.specs.Errors.{index_kinds, call_kinds, unary_kinds, side_kinds, expands_as}
use Rattle.report_rules.specs.Statements.{write_kinds, bound_kinds, iteration_kinds, Wanted, wanted_of_binds, wanted_of_targets, value_kinds, first_wanted, rest_wanted, values_context, old_kinds, added_kinds, keep, while_context, until_context, stm_block}
use Rattle.report_rules.specs.Findings.{Finding, read_kinds, compound_kinds, found, found_in, found_parts, found_args, found_choices, found_items, found_item, found_values, found_target, found_targets, found_compound, found_maybe_bound, found_iteration, found_params, found_body, found_block, found_stat, found_kind, found_arms, found_last}
use Rattle.run_frame.proofs.World.{all_append}
use Rattle.run_frame.proofs.Fine.{Sub}
use Rattle.run_frame.proofs.Readings.{sub_left, sub_right, sub_tail, all_contained}

-- what is found in a body is among some findings
abbrev IsWhole : Rules → List Seen → List Finding → SyntaxNode → Type 0
IsWhole rules seen big (ABody code) = Sub (found_body rules seen code) big
IsWhole rules seen big _ = Unit {0}

abbrev AreWhole : Rules → List Seen → List Finding → List SyntaxNode → Type 0
AreWhole rules seen big nodes = AllByRecursion (IsWhole rules seen big) nodes

two : (rules : Rules) (seen : List Seen) (big : List Finding) (xs ys : List SyntaxNode) → AreWhole rules seen big xs → AreWhole rules seen big ys → AreWhole rules seen big (xs ++ ys)
two rules seen big xs ys h k = all_append (IsWhole rules seen big) xs ys h k

names_whole : (rules : Rules) (seen : List Seen) (big : List Finding) (binds : Binds) → AreWhole rules seen big (of_binds binds)
names_whole rules seen big no_binds = tt
names_whole rules seen big (more_binds bind rest) = (tt, names_whole rules seen big rest)

mutual
  whole : (rules : Rules) (seen : List Seen) (big : List Finding) (around : List ReportKind) (e : Expr) → Sub (found rules seen around e) big → AreWhole rules seen big (of_expr e)
  whole rules seen big around (the_expr id span kind) h =
      (tt, whole_in rules seen big (read_kinds seen (rules.reading.use_of id)) kind (sub_tail _ (found_in rules seen (read_kinds seen (rules.reading.use_of id)) kind) big h))

  whole_in : (rules : Rules) (seen : List Seen) (big : List Finding) (of_base : Expr → List ReportKind) (kind : ExprKind) → Sub (found_in rules seen of_base kind) big
      → AreWhole rules seen big (of_expr_kind kind)
  whole_in rules seen big of_base (FunctionExpr body) h = whole_body rules seen big body h
  whole_in rules seen big of_base (Index base name) h = whole rules seen big (of_base base) base h
  whole_in rules seen big of_base (At base key) h = two rules seen big (of_expr base) (of_expr key)
      (whole rules seen big (of_base base) base (sub_left (found rules seen (of_base base) base) (found rules seen [] key) big h))
      (whole rules seen big [] key (sub_right (found rules seen (of_base base) base) (found rules seen [] key) big h))
  whole_in rules seen big of_base (Call callee args) h = two rules seen big (of_expr callee) (of_exprs args)
      (whole rules seen big (call_kinds seen callee) callee (sub_left (found rules seen (call_kinds seen callee) callee) (found_args rules seen (checked_callee rules seen callee) 0 args) big h))
      (whole_args rules seen big (checked_callee rules seen callee) 0 args
      (sub_right (found rules seen (call_kinds seen callee) callee) (found_args rules seen (checked_callee rules seen callee) 0 args) big h))
  whole_in rules seen big of_base (Method base name name_span args) h = two rules seen big (of_expr base) (of_exprs args)
      (whole rules seen big (index_kinds seen base) base (sub_left (found rules seen (index_kinds seen base) base) (found_parts rules seen args) big h))
      (whole_parts rules seen big args (sub_right (found rules seen (index_kinds seen base) base) (found_parts rules seen args) big h))
  whole_in rules seen big of_base (Paren e) h = whole rules seen big [] e h
  whole_in rules seen big of_base (Unary op e) h = whole rules seen big (unary_kinds seen op e) e h
  whole_in rules seen big of_base (Binary op left right) h = two rules seen big (of_expr left) (of_expr right)
      (whole rules seen big (side_kinds seen op left right) left
      (sub_left (found rules seen (side_kinds seen op left right) left) (found rules seen (side_kinds seen op right left) right) big h))
      (whole rules seen big (side_kinds seen op right left) right
      (sub_right (found rules seen (side_kinds seen op left right) left) (found rules seen (side_kinds seen op right left) right) big h))
  whole_in rules seen big of_base (IfElse arms last) h = two rules seen big (of_choices arms) (of_expr last)
      (whole_choices rules seen big arms (sub_left (found_choices rules seen arms) (found rules seen [] last) big h))
      (whole rules seen big [] last (sub_right (found_choices rules seen arms) (found rules seen [] last) big h))
  whole_in rules seen big of_base (TableExpr items) h = whole_items rules seen big items h
  whole_in rules seen big of_base (Interp texts parts) h = whole_parts rules seen big parts h
  whole_in rules seen big of_base (Assert e syntax) h = whole rules seen big [] e h
  whole_in rules seen big of_base NilExpr h = tt
  whole_in rules seen big of_base TrueExpr h = tt
  whole_in rules seen big of_base FalseExpr h = tt
  whole_in rules seen big of_base (NumberExpr text) h = tt
  whole_in rules seen big of_base (StrExpr bytes) h = tt
  whole_in rules seen big of_base Vararg h = tt
  whole_in rules seen big of_base (NameExpr name) h = tt

  whole_parts : (rules : Rules) (seen : List Seen) (big : List Finding) (es : Exprs) → Sub (found_parts rules seen es) big → AreWhole rules seen big (of_exprs es)
  whole_parts rules seen big no_exprs h = tt
  whole_parts rules seen big (more_exprs e rest) h = two rules seen big (of_expr e) (of_exprs rest)
      (whole rules seen big [] e (sub_left (found rules seen [] e) (found_parts rules seen rest) big h))
      (whole_parts rules seen big rest (sub_right (found rules seen [] e) (found_parts rules seen rest) big h))

  whole_args : (rules : Rules) (seen : List Seen) (big : List Finding) (wanted : Option TypedBuiltin) (position : _) (es : Exprs) → Sub (found_args rules seen wanted position es) big
      → AreWhole rules seen big (of_exprs es)
  whole_args rules seen big wanted position no_exprs h = tt
  whole_args rules seen big wanted position (more_exprs e rest) h = two rules seen big (of_expr e) (of_exprs rest)
      (whole rules seen big (argument_kinds seen wanted position (expands_as e rest) e) e
      (sub_left (found rules seen (argument_kinds seen wanted position (expands_as e rest) e) e) (found_args rules seen wanted _ rest) big h))
      (whole_args rules seen big wanted _ rest (sub_right (found rules seen (argument_kinds seen wanted position (expands_as e rest) e) e) (found_args rules seen wanted _ rest) big h))

  whole_choices : (rules : Rules) (seen : List Seen) (big : List Finding) (arms : Choices) → Sub (found_choices rules seen arms) big → AreWhole rules seen big (of_choices arms)
  whole_choices rules seen big no_choices h = tt
  whole_choices rules seen big (more_choices cond e rest) h = two rules seen big (of_expr cond ++ of_expr e) (of_choices rest)
      (two rules seen big (of_expr cond) (of_expr e)
      (whole rules seen big [] cond (sub_left (found rules seen [] cond) (found rules seen [] e) big in_both))
      (whole rules seen big [] e (sub_right (found rules seen [] cond) (found rules seen [] e) big in_both)))
      (whole_choices rules seen big rest (sub_right (found rules seen [] cond ++ found rules seen [] e) (found_choices rules seen rest) big h))
    where
      in_both : Sub (found rules seen [] cond ++ found rules seen [] e) big
      in_both = sub_left (found rules seen [] cond ++ found rules seen [] e) (found_choices rules seen rest) big h

  whole_items : (rules : Rules) (seen : List Seen) (big : List Finding) (items : Items) → Sub (found_items rules seen items) big → AreWhole rules seen big (of_items items)
  whole_items rules seen big no_items h = tt
  whole_items rules seen big (more_items item rest) h = two rules seen big (of_item item) (of_items rest)
      (whole_item rules seen big item (sub_left (found_item rules seen item) (found_items rules seen rest) big h))
      (whole_items rules seen big rest (sub_right (found_item rules seen item) (found_items rules seen rest) big h))

  whole_item : (rules : Rules) (seen : List Seen) (big : List Finding) (item : Item) → Sub (found_item rules seen item) big → AreWhole rules seen big (of_item item)
  whole_item rules seen big (Field name e) h = whole rules seen big [] e h
  whole_item rules seen big (Keyed key e) h = two rules seen big (of_expr key) (of_expr e)
      (whole rules seen big [] key (sub_left (found rules seen [] key) (found rules seen [] e) big h))
      (whole rules seen big [] e (sub_right (found rules seen [] key) (found rules seen [] e) big h))
  whole_item rules seen big (Plain e) h = whole rules seen big [] e h

  whole_values : (rules : Rules) (seen : List Seen) (big : List Finding) (wanted : List (Option Wanted)) (es : Exprs) → Sub (found_values rules seen wanted es) big
      → AreWhole rules seen big (of_exprs es)
  whole_values rules seen big wanted no_exprs h = tt
  whole_values rules seen big wanted (more_exprs e rest) h = two rules seen big (of_expr e) (of_exprs rest)
      (whole rules seen big (value_kinds seen e (first_wanted wanted)) e
      (sub_left (found rules seen (value_kinds seen e (first_wanted wanted)) e) (found_values rules seen (rest_wanted wanted) rest) big h))
      (whole_values rules seen big (rest_wanted wanted) rest
      (sub_right (found rules seen (value_kinds seen e (first_wanted wanted)) e) (found_values rules seen (rest_wanted wanted) rest) big h))

  whole_target : (rules : Rules) (seen : List Seen) (big : List Finding) (around : List ReportKind) (e : Expr) → Sub (found_target rules seen around e) big
      → AreWhole rules seen big (of_expr e)
  whole_target rules seen big around (the_expr id span kind) h = (tt, whole_in rules seen big (write_kinds seen) kind (sub_tail _ (found_in rules seen (write_kinds seen) kind) big h))

  whole_targets : (rules : Rules) (seen : List Seen) (big : List Finding) (es : Exprs) → Sub (found_targets rules seen es) big → AreWhole rules seen big (of_exprs es)
  whole_targets rules seen big no_exprs h = tt
  whole_targets rules seen big (more_exprs e rest) h = two rules seen big (of_expr e) (of_exprs rest)
      (whole_target rules seen big [] e (sub_left (found_target rules seen [] e) (found_targets rules seen rest) big h))
      (whole_targets rules seen big rest (sub_right (found_target rules seen [] e) (found_targets rules seen rest) big h))

  whole_compound : (rules : Rules) (seen : List Seen) (big : List Finding) (around : List ReportKind) (e : Expr) → Sub (found_compound rules seen around e) big
      → AreWhole rules seen big (of_expr e)
  whole_compound rules seen big around (the_expr id span kind) h = (tt, whole_in rules seen big (compound_kinds seen) kind (sub_tail _ (found_in rules seen (compound_kinds seen) kind) big h))

  whole_bound : (rules : Rules) (seen : List Seen) (big : List Finding) (e : MaybeExpr) → Sub (found_maybe_bound rules seen e) big → AreWhole rules seen big (of_maybe_expr e)
  whole_bound rules seen big no_expr h = tt
  whole_bound rules seen big (an_expr e) h = whole rules seen big (bound_kinds seen e) e h

  whole_iteration : (rules : Rules) (seen : List Seen) (big : List Finding) (es : Exprs) → Sub (found_iteration rules seen es) big → AreWhole rules seen big (of_exprs es)
  whole_iteration rules seen big no_exprs h = tt
  whole_iteration rules seen big (more_exprs e rest) h = two rules seen big (of_expr e) (of_exprs rest)
      (whole rules seen big (iteration_kinds seen e) e (sub_left (found rules seen (iteration_kinds seen e) e) (found_parts rules seen rest) big h))
      (whole_parts rules seen big rest (sub_right (found rules seen (iteration_kinds seen e) e) (found_parts rules seen rest) big h))

  whole_body : (rules : Rules) (seen : List Seen) (big : List Finding) (code : Body) → Sub (found_body rules seen code) big → AreWhole rules seen big (of_body code)
  whole_body rules seen big (the_body id has_self generics params vararg result body span) h = (
    h,
    two rules seen big (of_binds params) (of_block body) (names_whole rules seen big params)
        (whole_block rules seen big body none none none
        (sub_right (found_params rules (is_body_live seen id) id 0 (stm_block rules seen body none none none) params) (found_block rules seen body none none none) big h)),
  )

  whole_block : (rules : Rules) (seen : List Seen) (big : List Finding) (b : Block) (behind breaks continues : Context) → Sub (found_block rules seen b behind breaks continues) big
      → AreWhole rules seen big (of_block b)
  whole_block rules seen big no_stats behind breaks continues h = tt
  whole_block rules seen big (more_stats s rest) behind breaks continues h = two rules seen big (of_stat s) (of_block rest)
      (whole_stat rules seen big s (stm_block rules seen rest behind breaks continues) breaks continues
      (sub_left (found_stat rules seen s (stm_block rules seen rest behind breaks continues) breaks continues) (found_block rules seen rest behind breaks continues) big h))
      (whole_block rules seen big rest behind breaks continues
      (sub_right (found_stat rules seen s (stm_block rules seen rest behind breaks continues) breaks continues) (found_block rules seen rest behind breaks continues) big h))

  whole_stat : (rules : Rules) (seen : List Seen) (big : List Finding) (s : Stat) (behind breaks continues : Context) → Sub (found_stat rules seen s behind breaks continues) big
      → AreWhole rules seen big (of_stat s)
  whole_stat rules seen big (the_stat span kind) behind breaks continues h = whole_kind rules seen big span kind behind breaks continues h

  whole_kind : (rules : Rules) (seen : List Seen) (big : List Finding) (span : _) (kind : StatKind) (behind breaks continues : Context)
      → Sub (found_kind rules seen span kind behind breaks continues) big → AreWhole rules seen big (of_stat_kind kind)
  whole_kind rules seen big span (Assign targets values) behind breaks continues h = two rules seen big (of_exprs targets) (of_exprs values)
      (whole_targets rules seen big targets (sub_left (found_targets rules seen targets)
      (found_values rules seen (wanted_of_targets rules (values_context rules (targets_of rules targets) values behind) targets) values) big h))
      (whole_values rules seen big (wanted_of_targets rules (values_context rules (targets_of rules targets) values behind) targets) values (sub_right (found_targets rules seen targets)
      (found_values rules seen (wanted_of_targets rules (values_context rules (targets_of rules targets) values behind) targets) values) big h))
  whole_kind rules seen big span (Compound target op e) behind breaks continues h = two rules seen big (of_expr target) (of_expr e)
      (whole_compound rules seen big (old_kinds seen target op e) target
      (sub_left (found_compound rules seen (old_kinds seen target op e) target) (found rules seen (added_kinds seen target op e) e) big h))
      (whole rules seen big (added_kinds seen target op e) e
      (sub_right (found_compound rules seen (old_kinds seen target op e) target) (found rules seen (added_kinds seen target op e) e) big h))
  whole_kind rules seen big span (CallStat e) behind breaks continues h = whole rules seen big [] e h
  whole_kind rules seen big span (Do body) behind breaks continues h = whole_block rules seen big body behind breaks continues h
  whole_kind rules seen big span (While cond body) behind breaks continues h = two rules seen big (of_expr cond) (of_block body)
      (whole rules seen big [] cond (sub_left (found rules seen [] cond)
      (found_block rules seen body (while_context rules seen span cond body behind) behind (while_context rules seen span cond body behind)) big h))
      (whole_block rules seen big body (while_context rules seen span cond body behind) behind (while_context rules seen span cond body behind) (sub_right (found rules seen [] cond)
      (found_block rules seen body (while_context rules seen span cond body behind) behind (while_context rules seen span cond body behind)) big h))
  whole_kind rules seen big span (Repeat body cond) behind breaks continues h = two rules seen big (of_block body) (of_expr cond)
      (whole_block rules seen big body (until_context rules seen span body cond behind) behind (until_context rules seen span body cond behind)
      (sub_left (found_block rules seen body (until_context rules seen span body cond behind) behind (until_context rules seen span body cond behind)) (found rules seen [] cond) big h))
      (whole rules seen big [] cond
      (sub_right (found_block rules seen body (until_context rules seen span body cond behind) behind (until_context rules seen span body cond behind)) (found rules seen [] cond) big h))
  whole_kind rules seen big span (If arms last) behind breaks continues h = two rules seen big (of_arms arms) (of_maybe_block last)
      (whole_arms rules seen big arms behind breaks continues (sub_left (found_arms rules seen arms behind breaks continues) (found_last rules seen last behind breaks continues) big h))
      (whole_last rules seen big last behind breaks continues (sub_right (found_arms rules seen arms behind breaks continues) (found_last rules seen last behind breaks continues) big h))
  whole_kind rules seen big span (NumFor bind from to by body) behind breaks continues h = (
    tt,
    two rules seen big (of_expr from ++ of_expr to ++ of_maybe_expr by) (of_block body)
        (two rules seen big (of_expr from ++ of_expr to) (of_maybe_expr by)
        (two rules seen big (of_expr from) (of_expr to)
        (whole rules seen big (bound_kinds seen from) from (sub_left in_from in_to big in_both))
        (whole rules seen big (bound_kinds seen to) to (sub_right in_from in_to big in_both)))
        (whole_bound rules seen big by (sub_right (in_from ++ in_to) in_by big in_bounds)))
        (whole_block rules seen big body kept behind kept (sub_right (in_from ++ in_to ++ in_by) in_body big h)),
  )
    where
      kept : Context
      kept = keep rules (the_stat span (NumFor bind from to by body)) body behind

      in_from : List Finding
      in_from = found rules seen (bound_kinds seen from) from

      in_to : List Finding
      in_to = found rules seen (bound_kinds seen to) to

      in_by : List Finding
      in_by = found_maybe_bound rules seen by

      in_body : List Finding
      in_body = found_block rules seen body kept behind kept

      in_bounds : Sub (in_from ++ in_to ++ in_by) big
      in_bounds = sub_left (in_from ++ in_to ++ in_by) in_body big h

      in_both : Sub (in_from ++ in_to) big
      in_both = sub_left (in_from ++ in_to) in_by big in_bounds
  whole_kind rules seen big span (GenFor binds values body) behind breaks continues h = two rules seen big (of_binds binds ++ of_exprs values) (of_block body)
      (two rules seen big (of_binds binds) (of_exprs values) (names_whole rules seen big binds)
      (whole_iteration rules seen big values (sub_left (found_iteration rules seen values) in_body big h)))
      (whole_block rules seen big body kept behind kept (sub_right (found_iteration rules seen values) in_body big h))
    where
      kept : Context
      kept = keep rules (the_stat span (GenFor binds values body)) body behind

      in_body : List Finding
      in_body = found_block rules seen body kept behind kept
  whole_kind rules seen big span (FunctionStat path None body) behind breaks continues h = two rules seen big (of_expr path) (of_body body)
      (whole_target rules seen big [] path (sub_left (found_target rules seen [] path) (found_body rules seen body) big h))
      (whole_body rules seen big body (sub_right (found_target rules seen [] path) (found_body rules seen body) big h))
  whole_kind rules seen big span (FunctionStat path (Some method) body) behind breaks continues h = two rules seen big (of_expr path) (of_body body)
      (whole rules seen big (write_kinds seen path) path (sub_left (found rules seen (write_kinds seen path) path) (found_body rules seen body) big h))
      (whole_body rules seen big body (sub_right (found rules seen (write_kinds seen path) path) (found_body rules seen body) big h))
  whole_kind rules seen big span (LocalFunction name body) behind breaks continues h = (tt, whole_body rules seen big body h)
  whole_kind rules seen big span (Local binds values) behind breaks continues h = two rules seen big (of_binds binds) (of_exprs values) (names_whole rules seen big binds)
      (whole_values rules seen big (wanted_of_binds rules (values_context rules [] values behind) binds) values h)
  whole_kind rules seen big span (TypeAlias exported name generics syntax) behind breaks continues h = tt
  whole_kind rules seen big span (TypeFunction exported name body) behind breaks continues h = tt
  whole_kind rules seen big span (Return values) behind breaks continues h = whole_parts rules seen big values h
  whole_kind rules seen big span Break behind breaks continues h = tt
  whole_kind rules seen big span Continue behind breaks continues h = tt

  whole_arms : (rules : Rules) (seen : List Seen) (big : List Finding) (arms : Arms) (behind breaks continues : Context) → Sub (found_arms rules seen arms behind breaks continues) big
      → AreWhole rules seen big (of_arms arms)
  whole_arms rules seen big no_arms behind breaks continues h = tt
  whole_arms rules seen big (more_arms cond body rest) behind breaks continues h = two rules seen big (of_expr cond ++ of_block body) (of_arms rest)
      (two rules seen big (of_expr cond) (of_block body)
      (whole rules seen big [] cond (sub_left (found rules seen [] cond) in_body big in_both))
      (whole_block rules seen big body behind breaks continues (sub_right (found rules seen [] cond) in_body big in_both)))
      (whole_arms rules seen big rest behind breaks continues (sub_right (found rules seen [] cond ++ in_body) (found_arms rules seen rest behind breaks continues) big h))
    where
      in_body : List Finding
      in_body = found_block rules seen body behind breaks continues

      in_both : Sub (found rules seen [] cond ++ in_body) big
      in_both = sub_left (found rules seen [] cond ++ in_body) (found_arms rules seen rest behind breaks continues) big h

  whole_last : (rules : Rules) (seen : List Seen) (big : List Finding) (last : MaybeBlock) (behind breaks continues : Context) → Sub (found_last rules seen last behind breaks continues) big
      → AreWhole rules seen big (of_maybe_block last)
  whole_last rules seen big no_block behind breaks continues h = tt
  whole_last rules seen big (a_block body) behind breaks continues h = whole_block rules seen big body behind breaks continues h

-- what is found in a body that stands in a block is found in the block
pub found_whole : (rules : Rules) (seen : List Seen) (block : Block) (behind breaks continues : Context) (code : Body) → Contains (of_block block) (ABody code)
    → Sub (found_body rules seen code) (found_block rules seen block behind breaks continues)
found_whole rules seen block behind breaks continues code c = all_contained (IsWhole rules seen (found_block rules seen block behind breaks continues)) (of_block block) (ABody code)
    (whole_block rules seen (found_block rules seen block behind breaks continues) block behind breaks continues (λ x k. k)) c
