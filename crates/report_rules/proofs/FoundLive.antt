-- What is reported stands at a live place.
use Rattle.std.proofs.Common.{◌≡◌, ◌≢◌, ℕ, suc, Bool, true, false, not, ◌&&◌, List, [], ◌∷◌, ◌++◌, Some, None, Option, if◌then◌else◌, refl, ap, true≢false}
use Rattle.luau_tree.specs.declared.position.Span.{Span}
use Rattle.luau_tree.specs.declared.names.BinOp.{BinOp}
use Rattle.luau_tree.specs.declared.names.Op.TheVariants.{Call as CallOp, Index as IndexOp, Write as WriteOp, For as ForOp, Iterate as IterateOp, Unary as UnaryOp, Binary as BinaryOp}
use Rattle.luau_tree.specs.Tree.{Block, no_stats, more_stats, Stat, the_stat, StatKind, Assign, Compound, CallStat, Do, While, Repeat, If, NumFor, GenFor, FunctionStat, LocalFunction, Local, TypeAlias, TypeFunction, Return, Break, Continue, Arms, no_arms, more_arms, MaybeBlock, no_block, a_block}
use Rattle.luau_tree.specs.Tree.{Expr, the_expr, Exprs, no_exprs, more_exprs, MaybeExpr, no_expr, an_expr, ExprKind, NilExpr, TrueExpr, FalseExpr, NumberExpr, StrExpr, Vararg, FunctionExpr, NameExpr, Index, At, Call, Method, Paren, Unary, Binary, IfElse, TableExpr, Interp, Assert, Choices, no_choices, more_choices, Item, Field, Keyed, Plain, Items, no_items, more_items}
use Rattle.luau_tree.specs.Tree.{Body, the_body, Bind, the_bind, Binds, no_binds, more_binds}
use Rattle.luau_run.specs.ReadModule.{Use}
use Rattle.luau_run.specs.Statements.{place_of}
use Rattle.type_arena.specs.Term.{Term}
use Rattle.type_normal.specs.Rows.{is_empty}
use Rattle.type_normal.specs.Failing.{call_fail, index_fail, write_fail, arith_fail, iter_fail}
use Rattle.subtype_check.specs.Below.{below}
use Rattle.report_rules.specs.Rules.{TypedBuiltin, Rules, loose}
use Rattle.report_rules.specs.Effects.{last_expands, targets_of}
use Rattle.report_rules.specs.Seen.{Seen, seen_module, is_live, is_body_live}
use Rattle.report_rules.specs.Context.{Context, none}
use Rattle.report_rules.specs.Checks.{ReportKind, Argument, Operand, ValueOf, ParameterOf, type_of, set_at, operand_set, unary_set, checked_callee, argument_kinds, missing, missing_at, lacking, past, count}
use Rattle.report_rules.specs.Errors.{index_kinds, call_kinds, unary_kinds, side_kinds, expands_as}
use Rattle.report_rules.specs.Statements.{Wanted, write_kinds, bound_kinds, iteration_kinds, value_kinds, wanted_of_binds, wanted_of_targets, first_wanted, rest_wanted, values_context, old_set, old_kinds, added_kinds, while_context, until_context, keep, stm_block}
use Rattle.report_rules.specs.Findings.{Finding, is_builtin, read_kinds, compound_kinds, own_kinds, parameter_kinds, found_params, found, found_in, found_parts, found_args, found_choices, found_items, found_item, found_values, found_target, found_targets, found_compound, found_maybe_bound, found_iteration, found_body, found_block, found_stat, found_kind, found_arms, found_last}
use Rattle.report_rules.specs.Places.{AreLive}
use Rattle.report_rules.specs.Reports.{findings}
use Rattle.report_rules.proofs.PlaceFacts.{checked_live}

has_some : List ReportKind → Bool
has_some [] = false
has_some (kind ∷ kinds) = true

not_none : (kind : ReportKind) (kinds : List ReportKind) → kind ∷ kinds ≢ []
unfolding has_some
not_none kind kinds e = true≢false (ap has_some e)

-- where some kinds and others are reported only at a live place, so are both
both_live : (b : Bool) (ks ms : List ReportKind) → (ks ≢ [] → b ≡ true) → (ms ≢ [] → b ≡ true) → ks ++ ms ≢ [] → b ≡ true
both_live b [] ms h k n = k n
both_live b (x ∷ ks) ms h k n = h (not_none x ks)

only_if : (a b : Bool) (ks : List ReportKind) → (if a && b then ks else []) ≢ [] → a ≡ true
only_if true b ks n = refl
only_if false b ks n = absurd (n refl)

only_unless : (b : Bool) (ks : List ReportKind) → (if b then [] else ks) ≢ [] → ks ≢ []
only_unless true ks n = absurd (n refl)
only_unless false ks n = n

abbrev no_kinds : List ReportKind
no_kinds = []

nothing : (b : Bool) → no_kinds ≢ [] → b ≡ true
nothing b n = absurd (n refl)

missing_live : (b : Bool) (w : Option TypedBuiltin) (args : Exprs) → missing b w args ≢ [] → b ≡ true
missing_live b None args n = absurd (n refl)
missing_live b (Some d) args n = only_if b (not (last_expands args)) (missing_at d.path (lacking (count args) (past args d.params))) n

own_live : (r : Rules) (s : List Seen) (id : ℕ) (kind : ExprKind) → own_kinds r s id kind ≢ [] → is_live s id ≡ true
own_live r s id (Call callee args) n = missing_live (is_live s id) (checked_callee r s callee) args n
own_live r s id _ n = absurd (n refl)

argument_live : (s : List Seen) (w : Option TypedBuiltin) (i : ℕ) (x : Bool) (e : Expr) → argument_kinds s w i x e ≢ [] → is_live s (place_of e) ≡ true
argument_live s None i x e n = absurd (n refl)
argument_live s (Some d) i x e n = checked_live s e (set_at i x d.params d.rest) (Argument i d.path) n

value_live : (s : List Seen) (e : Expr) (w : Option Wanted) → value_kinds s e w ≢ [] → is_live s (place_of e) ≡ true
value_live s e None n = absurd (n refl)
value_live s e (Some w) n = checked_live s e w.set (ValueOf w.name) n

read_live : (s : List Seen) (m : Option Use) (e : Expr) → read_kinds s m e ≢ [] → is_live s (place_of e) ≡ true
read_live s m e n = checked_live s e index_fail (Operand IndexOp) (only_unless (is_builtin m) (index_kinds s e) n)

write_live : (s : List Seen) (e : Expr) → write_kinds s e ≢ [] → is_live s (place_of e) ≡ true
write_live s e n = checked_live s e write_fail (Operand WriteOp) n

index_live : (s : List Seen) (e : Expr) → index_kinds s e ≢ [] → is_live s (place_of e) ≡ true
index_live s e n = checked_live s e index_fail (Operand IndexOp) n

base_live : (s : List Seen) (e : Expr) → compound_kinds s e ≢ [] → is_live s (place_of e) ≡ true
base_live s e n = both_live (is_live s (place_of e)) (index_kinds s e) (write_kinds s e) (index_live s e) (write_live s e) n

bound_live : (s : List Seen) (e : Expr) → bound_kinds s e ≢ [] → is_live s (place_of e) ≡ true
bound_live s e n = checked_live s e arith_fail (Operand ForOp) n

side_live : (s : List Seen) (op : BinOp) (e other : Expr) → side_kinds s op e other ≢ [] → is_live s (place_of e) ≡ true
side_live s op e other n = checked_live s e (operand_set op (type_of s other)) (Operand (BinaryOp op)) n

param_live : (r : Rules) (live : Bool) (type : Term) (body : Context) (bind : Bind) → parameter_kinds r live type body bind ≢ [] → live ≡ true
param_live r live type body (the_bind name span typ) n =
    only_if live (not (loose r (r.reading.local_at span.start)) && (not (is_empty type) && below type (body (r.reading.local_at span.start)))) (ParameterOf name ∷ []) n

append_live : (s : List Seen) (xs ys : List Finding) → AreLive s xs → AreLive s ys → AreLive s (xs ++ ys)
append_live s [] ys h k = k
append_live s (x ∷ xs) ys h k = (h.0, append_live s xs ys h.1 k)

params_live : (r : Rules) (s : List Seen) (function position : ℕ) (body : Context) (binds : Binds)
    → AreLive s (found_params r (is_body_live s function) function position body binds)
params_live r s function position body no_binds = tt
params_live r s function position body (more_binds bind rest) =
    (param_live r (is_body_live s function) (r.annotation function position) body bind, params_live r s function (suc position) body rest)

mutual
  expr_live : (r : Rules) (s : List Seen) (ks : List ReportKind) (e : Expr) → (ks ≢ [] → is_live s (place_of e) ≡ true) → AreLive s (found r s ks e)
  expr_live r s ks (the_expr id span kind) h = (
    both_live (is_live s id) ks (own_kinds r s id kind) h (own_live r s id kind),
    in_live r s (read_kinds s (r.reading.use_of id)) kind (read_live s (r.reading.use_of id)),
  )

  in_live : (r : Rules) (s : List Seen) (b : Expr → List ReportKind) (kind : ExprKind) → ((e : Expr) → b e ≢ [] → is_live s (place_of e) ≡ true)
      → AreLive s (found_in r s b kind)
  in_live r s b NilExpr h = tt
  in_live r s b TrueExpr h = tt
  in_live r s b FalseExpr h = tt
  in_live r s b (NumberExpr text) h = tt
  in_live r s b (StrExpr bytes) h = tt
  in_live r s b Vararg h = tt
  in_live r s b (NameExpr name) h = tt
  in_live r s b (FunctionExpr body) h = body_live r s body
  in_live r s b (Index base name) h = expr_live r s (b base) base (h base)
  in_live r s b (At base key) h =
      append_live s (found r s (b base) base) (found r s [] key) (expr_live r s (b base) base (h base)) (plain_live r s key)
  in_live r s b (Call callee args) h =
      append_live s (found r s (call_kinds s callee) callee) (found_args r s (checked_callee r s callee) 0 args)
      (expr_live r s (call_kinds s callee) callee (checked_live s callee call_fail (Operand CallOp))) (args_live r s (checked_callee r s callee) 0 args)
  in_live r s b (Method base name name_span args) h =
      append_live s (found r s (index_kinds s base) base) (found_parts r s args) (expr_live r s (index_kinds s base) base (index_live s base)) (parts_live r s args)
  in_live r s b (Paren e) h = plain_live r s e
  in_live r s b (Unary op e) h = expr_live r s (unary_kinds s op e) e (checked_live s e (unary_set op) (Operand (UnaryOp op)))
  in_live r s b (Binary op left right) h =
      append_live s (found r s (side_kinds s op left right) left) (found r s (side_kinds s op right left) right)
      (expr_live r s (side_kinds s op left right) left (side_live s op left right)) (expr_live r s (side_kinds s op right left) right (side_live s op right left))
  in_live r s b (IfElse arms last) h = append_live s (found_choices r s arms) (found r s [] last) (choices_live r s arms) (plain_live r s last)
  in_live r s b (TableExpr items) h = items_live r s items
  in_live r s b (Interp texts parts) h = parts_live r s parts
  in_live r s b (Assert e syntax) h = plain_live r s e

  -- a part of which nothing is reported by what is around it
  plain_live : (r : Rules) (s : List Seen) (e : Expr) → AreLive s (found r s [] e)
  plain_live r s (the_expr id span kind) = (own_live r s id kind, in_live r s (read_kinds s (r.reading.use_of id)) kind (read_live s (r.reading.use_of id)))

  parts_live : (r : Rules) (s : List Seen) (es : Exprs) → AreLive s (found_parts r s es)
  parts_live r s no_exprs = tt
  parts_live r s (more_exprs e rest) = append_live s (found r s [] e) (found_parts r s rest) (plain_live r s e) (parts_live r s rest)

  args_live : (r : Rules) (s : List Seen) (w : Option TypedBuiltin) (i : ℕ) (es : Exprs) → AreLive s (found_args r s w i es)
  args_live r s w i no_exprs = tt
  args_live r s w i (more_exprs e rest) =
      append_live s (found r s (argument_kinds s w i (expands_as e rest) e) e) (found_args r s w (suc i) rest)
      (expr_live r s (argument_kinds s w i (expands_as e rest) e) e (argument_live s w i (expands_as e rest) e)) (args_live r s w (suc i) rest)

  choices_live : (r : Rules) (s : List Seen) (arms : Choices) → AreLive s (found_choices r s arms)
  choices_live r s no_choices = tt
  choices_live r s (more_choices cond e rest) =
      append_live s (found r s [] cond ++ found r s [] e) (found_choices r s rest)
      (append_live s (found r s [] cond) (found r s [] e) (plain_live r s cond) (plain_live r s e)) (choices_live r s rest)

  items_live : (r : Rules) (s : List Seen) (items : Items) → AreLive s (found_items r s items)
  items_live r s no_items = tt
  items_live r s (more_items item rest) = append_live s (found_item r s item) (found_items r s rest) (item_live r s item) (items_live r s rest)

  item_live : (r : Rules) (s : List Seen) (item : Item) → AreLive s (found_item r s item)
  item_live r s (Field name e) = plain_live r s e
  item_live r s (Keyed key e) = append_live s (found r s [] key) (found r s [] e) (plain_live r s key) (plain_live r s e)
  item_live r s (Plain e) = plain_live r s e

  values_live : (r : Rules) (s : List Seen) (w : List (Option Wanted)) (es : Exprs) → AreLive s (found_values r s w es)
  values_live r s w no_exprs = tt
  values_live r s w (more_exprs e rest) =
      append_live s (found r s (value_kinds s e (first_wanted w)) e) (found_values r s (rest_wanted w) rest)
      (expr_live r s (value_kinds s e (first_wanted w)) e (value_live s e (first_wanted w))) (values_live r s (rest_wanted w) rest)

  target_live : (r : Rules) (s : List Seen) (e : Expr) → AreLive s (found_target r s [] e)
  target_live r s (the_expr id span kind) = (nothing (is_live s id), in_live r s (write_kinds s) kind (write_live s))

  targets_live : (r : Rules) (s : List Seen) (es : Exprs) → AreLive s (found_targets r s es)
  targets_live r s no_exprs = tt
  targets_live r s (more_exprs e rest) = append_live s (found_target r s [] e) (found_targets r s rest) (target_live r s e) (targets_live r s rest)

  compound_live : (r : Rules) (s : List Seen) (ks : List ReportKind) (e : Expr) → (ks ≢ [] → is_live s (place_of e) ≡ true) → AreLive s (found_compound r s ks e)
  compound_live r s ks (the_expr id span kind) h = (h, in_live r s (compound_kinds s) kind (base_live s))

  maybe_live : (r : Rules) (s : List Seen) (e : MaybeExpr) → AreLive s (found_maybe_bound r s e)
  maybe_live r s no_expr = tt
  maybe_live r s (an_expr e) = expr_live r s (bound_kinds s e) e (bound_live s e)

  iteration_live : (r : Rules) (s : List Seen) (es : Exprs) → AreLive s (found_iteration r s es)
  iteration_live r s no_exprs = tt
  iteration_live r s (more_exprs e rest) =
      append_live s (found r s (iteration_kinds s e) e) (found_parts r s rest)
      (expr_live r s (iteration_kinds s e) e (checked_live s e iter_fail (Operand IterateOp))) (parts_live r s rest)

  body_live : (r : Rules) (s : List Seen) (body : Body) → AreLive s (found_body r s body)
  body_live r s (the_body id has_self generics params vararg result block span) =
      append_live s (found_params r (is_body_live s id) id 0 (stm_block r s block none none none) params) (found_block r s block none none none)
      (params_live r s id 0 (stm_block r s block none none none) params) (block_live r s block none none none)

  pub block_live : (r : Rules) (s : List Seen) (block : Block) (c b k : Context) → AreLive s (found_block r s block c b k)
  block_live r s no_stats c b k = tt
  block_live r s (more_stats st rest) c b k =
      append_live s (found_stat r s st (stm_block r s rest c b k) b k) (found_block r s rest c b k)
      (stat_live r s st (stm_block r s rest c b k) b k) (block_live r s rest c b k)

  stat_live : (r : Rules) (s : List Seen) (st : Stat) (c b k : Context) → AreLive s (found_stat r s st c b k)
  stat_live r s (the_stat span kind) c b k = kind_live r s span kind c b k

  kind_live : (r : Rules) (s : List Seen) (span : Span) (kind : StatKind) (c b k : Context) → AreLive s (found_kind r s span kind c b k)
  kind_live r s span (Assign to vs) c b k =
      append_live s (found_targets r s to) (found_values r s (wanted_of_targets r (values_context r (targets_of r to) vs c) to) vs)
      (targets_live r s to) (values_live r s (wanted_of_targets r (values_context r (targets_of r to) vs c) to) vs)
  kind_live r s span (Compound to op e) c b k =
      append_live s (found_compound r s (old_kinds s to op e) to) (found r s (added_kinds s to op e) e)
      (compound_live r s (old_kinds s to op e) to (checked_live s to (old_set s op e) (Operand (BinaryOp op))))
      (expr_live r s (added_kinds s to op e) e (side_live s op e to))
  kind_live r s span (CallStat e) c b k = plain_live r s e
  kind_live r s span (Do body) c b k = block_live r s body c b k
  kind_live r s span (While cond body) c b k =
      append_live s (found r s [] cond) (found_block r s body (while_context r s span cond body c) c (while_context r s span cond body c))
      (plain_live r s cond) (block_live r s body (while_context r s span cond body c) c (while_context r s span cond body c))
  kind_live r s span (Repeat body cond) c b k =
      append_live s (found_block r s body (until_context r s span body cond c) c (until_context r s span body cond c)) (found r s [] cond)
      (block_live r s body (until_context r s span body cond c) c (until_context r s span body cond c)) (plain_live r s cond)
  kind_live r s span (If arms last) c b k = append_live s (found_arms r s arms c b k) (found_last r s last c b k) (arms_live r s arms c b k) (last_live r s last c b k)
  kind_live r s span (NumFor bind from to by body) c b k =
      append_live s (found r s (bound_kinds s from) from ++ found r s (bound_kinds s to) to ++ found_maybe_bound r s by)
      (found_block r s body (keep r (the_stat span (NumFor bind from to by body)) body c) c (keep r (the_stat span (NumFor bind from to by body)) body c))
      (append_live s (found r s (bound_kinds s from) from ++ found r s (bound_kinds s to) to) (found_maybe_bound r s by)
      (append_live s (found r s (bound_kinds s from) from) (found r s (bound_kinds s to) to)
      (expr_live r s (bound_kinds s from) from (bound_live s from)) (expr_live r s (bound_kinds s to) to (bound_live s to)))
      (maybe_live r s by))
      (block_live r s body (keep r (the_stat span (NumFor bind from to by body)) body c) c (keep r (the_stat span (NumFor bind from to by body)) body c))
  kind_live r s span (GenFor binds vs body) c b k =
      append_live s (found_iteration r s vs)
      (found_block r s body (keep r (the_stat span (GenFor binds vs body)) body c) c (keep r (the_stat span (GenFor binds vs body)) body c))
      (iteration_live r s vs)
      (block_live r s body (keep r (the_stat span (GenFor binds vs body)) body c) c (keep r (the_stat span (GenFor binds vs body)) body c))
  kind_live r s span (FunctionStat path None body) c b k = append_live s (found_target r s [] path) (found_body r s body) (target_live r s path) (body_live r s body)
  kind_live r s span (FunctionStat path (Some method) body) c b k =
      append_live s (found r s (write_kinds s path) path) (found_body r s body) (expr_live r s (write_kinds s path) path (write_live s path)) (body_live r s body)
  kind_live r s span (LocalFunction name body) c b k = body_live r s body
  kind_live r s span (Local binds vs) c b k = values_live r s (wanted_of_binds r (values_context r [] vs c) binds) vs
  kind_live r s span (Return vs) c b k = parts_live r s vs
  kind_live r s span (TypeAlias exported name generics syntax) c b k = tt
  kind_live r s span (TypeFunction exported name body) c b k = tt
  kind_live r s span Break c b k = tt
  kind_live r s span Continue c b k = tt

  arms_live : (r : Rules) (s : List Seen) (arms : Arms) (c b k : Context) → AreLive s (found_arms r s arms c b k)
  arms_live r s no_arms c b k = tt
  arms_live r s (more_arms cond body rest) c b k =
      append_live s (found r s [] cond ++ found_block r s body c b k) (found_arms r s rest c b k)
      (append_live s (found r s [] cond) (found_block r s body c b k) (plain_live r s cond) (block_live r s body c b k)) (arms_live r s rest c b k)

  last_live : (r : Rules) (s : List Seen) (last : MaybeBlock) (c b k : Context) → AreLive s (found_last r s last c b k)
  last_live r s no_block c b k = tt
  last_live r s (a_block body) c b k = block_live r s body c b k

pub all_live : (rules : Rules) → AreLive (seen_module rules) (findings rules)
all_live rules = block_live rules (seen_module rules) rules.reading.block none none none
