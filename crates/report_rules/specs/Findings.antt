-- What is found at each place of a module, in the order of the text: the kinds of its reports, none where it is not reported.
-- What a form checks of its part is reported at the part.
use Rattle.std.specs.Prelude.{ℕ, suc, Bool, true, false, not, ◌&&◌, List, [], ◌∷◌, ◌++◌, Option, Some, None, if◌then◌else◌}
use Rattle.luau_tree.specs.declared.position.Span.{Span}
use Rattle.luau_tree.specs.declared.names.Place.{Place}
use Rattle.luau_tree.specs.declared.names.Place.TheVariants.{Expr as ExprPlace, Param as ParamPlace}
use Rattle.luau_tree.specs.Tree.{Block, no_stats, more_stats, Stat, the_stat, StatKind, Assign, Compound, CallStat, Do, While, Repeat, If, NumFor, GenFor, FunctionStat, LocalFunction, Local, Return, Arms, no_arms, more_arms, MaybeBlock, no_block, a_block}
use Rattle.luau_tree.specs.Tree.{Expr, the_expr, Exprs, no_exprs, more_exprs, MaybeExpr, no_expr, an_expr, ExprKind, FunctionExpr, Index, At, Call, Method, Paren, Unary, Binary, IfElse, TableExpr, Interp, Assert, Choices, no_choices, more_choices, Item, Field, Keyed, Plain, Items, no_items, more_items}
use Rattle.luau_tree.specs.Tree.{Body, the_body, Bind, the_bind, Binds, no_binds, more_binds}
use Rattle.luau_run.specs.ReadModule.{Use, UseBuiltin}
use Rattle.type_arena.specs.Term.{Term}
use Rattle.type_normal.specs.Rows.{is_empty}
use Rattle.subtype_check.specs.Below.{below}
use Rattle.report_rules.specs.Rules.{TypedBuiltin, Rules, loose}
use Rattle.report_rules.specs.Effects.{targets_of}
use Rattle.report_rules.specs.Seen.{Seen, is_live, is_body_live}
use Rattle.report_rules.specs.Context.{Context, none}
use Rattle.report_rules.specs.Checks.{ReportKind, ParameterOf, checked_callee, argument_kinds, missing}
use Rattle.report_rules.specs.Errors.{index_kinds, call_kinds, unary_kinds, side_kinds, expands_as}
use Rattle.report_rules.specs.Statements.{Wanted, write_kinds, bound_kinds, iteration_kinds, value_kinds, wanted_of_binds, wanted_of_targets, first_wanted, rest_wanted, values_context, old_kinds, added_kinds, while_context, until_context, keep, stm_block}

-- a place, where it stands in the text, and the kinds of its reports
pub record Finding : Type 0 where
  pub place : Place
  pub at : Span
  pub kinds : List ReportKind

abbrev pub is_builtin : Option Use → Bool
is_builtin (Some (UseBuiltin path)) = true
is_builtin _ = false

-- what is reported of a base that is indexed; that of a builtin's path isn't evaluated
abbrev pub read_kinds : List Seen → Option Use → Expr → List ReportKind
read_kinds seen meaning base = if is_builtin meaning then [] else index_kinds seen base

-- what is reported of a base whose field is read and then written
abbrev pub compound_kinds : List Seen → Expr → List ReportKind
compound_kinds seen base = index_kinds seen base ++ write_kinds seen base

-- what a call reports at its own place
abbrev pub own_kinds : Rules → List Seen → ℕ → ExprKind → List ReportKind
own_kinds rules seen id (Call callee args) = missing (is_live seen id) (checked_callee rules seen callee) args
own_kinds rules seen id _ = []

-- a parameter is reported if the literal's place is live and all values of its annotation make the body fail
abbrev pub parameter_kinds : Rules → (live : Bool) → Term → Context → Bind → List ReportKind
parameter_kinds rules live annotation body (the_bind name span typ) =
    if live && (not (loose rules (rules.reading.local_at span.start)) && (not (is_empty annotation) && below annotation (body (rules.reading.local_at span.start))))
    then ParameterOf name ∷ [] else []

abbrev pub bind_span : Bind → Span
bind_span (the_bind name span typ) = span

-- the parameters of a body from a position on
abbrev pub found_params : Rules → (live : Bool) → (function position : ℕ) → Context → Binds → List Finding
found_params rules live function position body no_binds = []
found_params rules live function position body (more_binds bind rest) =
    record {
      place = ParamPlace (record { 0 = function }) position;
      at = bind_span bind;
      kinds = parameter_kinds rules live (rules.annotation function position) body bind;
    } ∷ found_params rules live function (suc position) body rest

abbrev mutual
  -- an expression, with the kinds that the form around it reports there
  pub found : Rules → List Seen → (around : List ReportKind) → Expr → List Finding
  found rules seen around (the_expr id span kind) =
      record { place = ExprPlace (record { 0 = id }); at = span; kinds = around ++ own_kinds rules seen id kind }
      ∷ found_in rules seen (read_kinds seen (rules.reading.use_of id)) kind

  -- the parts of an expression, with what is reported of the base of a field or of an element
  pub found_in : Rules → List Seen → (of_base : Expr → List ReportKind) → ExprKind → List Finding
  found_in rules seen of_base (FunctionExpr body) = found_body rules seen body
  found_in rules seen of_base (Index base name) = found rules seen (of_base base) base
  found_in rules seen of_base (At base key) = found rules seen (of_base base) base ++ found rules seen [] key
  found_in rules seen of_base (Call callee args) = found rules seen (call_kinds seen callee) callee ++ found_args rules seen (checked_callee rules seen callee) 0 args
  found_in rules seen of_base (Method base name name_span args) = found rules seen (index_kinds seen base) base ++ found_parts rules seen args
  found_in rules seen of_base (Paren e) = found rules seen [] e
  found_in rules seen of_base (Unary op e) = found rules seen (unary_kinds seen op e) e
  found_in rules seen of_base (Binary op left right) =
      found rules seen (side_kinds seen op left right) left ++ found rules seen (side_kinds seen op right left) right
  found_in rules seen of_base (IfElse arms last) = found_choices rules seen arms ++ found rules seen [] last
  found_in rules seen of_base (TableExpr items) = found_items rules seen items
  found_in rules seen of_base (Interp texts parts) = found_parts rules seen parts
  found_in rules seen of_base (Assert e syntax) = found rules seen [] e
  found_in rules seen of_base _ = []

  pub found_parts : Rules → List Seen → Exprs → List Finding
  found_parts rules seen no_exprs = []
  found_parts rules seen (more_exprs e rest) = found rules seen [] e ++ found_parts rules seen rest

  pub found_args : Rules → List Seen → Option TypedBuiltin → (position : ℕ) → Exprs → List Finding
  found_args rules seen wanted position no_exprs = []
  found_args rules seen wanted position (more_exprs e rest) =
      found rules seen (argument_kinds seen wanted position (expands_as e rest) e) e ++ found_args rules seen wanted (suc position) rest

  pub found_choices : Rules → List Seen → Choices → List Finding
  found_choices rules seen no_choices = []
  found_choices rules seen (more_choices cond e rest) = found rules seen [] cond ++ found rules seen [] e ++ found_choices rules seen rest

  pub found_items : Rules → List Seen → Items → List Finding
  found_items rules seen no_items = []
  found_items rules seen (more_items item rest) = found_item rules seen item ++ found_items rules seen rest

  pub found_item : Rules → List Seen → Item → List Finding
  found_item rules seen (Field name e) = found rules seen [] e
  found_item rules seen (Keyed key e) = found rules seen [] key ++ found rules seen [] e
  found_item rules seen (Plain e) = found rules seen [] e

  -- values that are checked by what is wanted at their positions
  pub found_values : Rules → List Seen → List (Option Wanted) → Exprs → List Finding
  found_values rules seen wanted no_exprs = []
  found_values rules seen wanted (more_exprs e rest) =
      found rules seen (value_kinds seen e (first_wanted wanted)) e ++ found_values rules seen (rest_wanted wanted) rest

  -- a target, with what is reported there: its base is checked as one that is written
  pub found_target : Rules → List Seen → (around : List ReportKind) → Expr → List Finding
  found_target rules seen around (the_expr id span kind) =
      record { place = ExprPlace (record { 0 = id }); at = span; kinds = around } ∷ found_in rules seen (write_kinds seen) kind

  pub found_targets : Rules → List Seen → Exprs → List Finding
  found_targets rules seen no_exprs = []
  found_targets rules seen (more_exprs e rest) = found_target rules seen [] e ++ found_targets rules seen rest

  -- a compound's target, with what is reported there as the left side of the operation
  pub found_compound : Rules → List Seen → (around : List ReportKind) → Expr → List Finding
  found_compound rules seen around (the_expr id span kind) =
      record { place = ExprPlace (record { 0 = id }); at = span; kinds = around } ∷ found_in rules seen (compound_kinds seen) kind

  pub found_maybe_bound : Rules → List Seen → MaybeExpr → List Finding
  found_maybe_bound rules seen no_expr = []
  found_maybe_bound rules seen (an_expr e) = found rules seen (bound_kinds seen e) e

  pub found_iteration : Rules → List Seen → Exprs → List Finding
  found_iteration rules seen no_exprs = []
  found_iteration rules seen (more_exprs e rest) = found rules seen (iteration_kinds seen e) e ++ found_parts rules seen rest

  -- a body runs by itself: what surrounds it gets nothing of what it needs, and it nothing of what they need
  pub found_body : Rules → List Seen → Body → List Finding
  found_body rules seen (the_body id has_self generics params vararg result block span) =
      found_params rules (is_body_live seen id) id 0 (stm_block rules seen block none none none) params ++ found_block rules seen block none none none

  pub found_block : Rules → List Seen → Block → (behind breaks continues : Context) → List Finding
  found_block rules seen no_stats behind breaks continues = []
  found_block rules seen (more_stats s rest) behind breaks continues =
      found_stat rules seen s (stm_block rules seen rest behind breaks continues) breaks continues ++ found_block rules seen rest behind breaks continues

  pub found_stat : Rules → List Seen → Stat → (behind breaks continues : Context) → List Finding
  found_stat rules seen (the_stat span kind) behind breaks continues = found_kind rules seen span kind behind breaks continues

  pub found_kind : Rules → List Seen → Span → StatKind → (behind breaks continues : Context) → List Finding
  found_kind rules seen span (Assign targets values) behind breaks continues =
      found_targets rules seen targets
      ++ found_values rules seen (wanted_of_targets rules (values_context rules (targets_of rules targets) values behind) targets) values
  found_kind rules seen span (Compound target op e) behind breaks continues =
      found_compound rules seen (old_kinds seen target op e) target ++ found rules seen (added_kinds seen target op e) e
  found_kind rules seen span (CallStat e) behind breaks continues = found rules seen [] e
  found_kind rules seen span (Do body) behind breaks continues = found_block rules seen body behind breaks continues
  found_kind rules seen span (While cond body) behind breaks continues =
      found rules seen [] cond
      ++ found_block rules seen body (while_context rules seen span cond body behind) behind (while_context rules seen span cond body behind)
  found_kind rules seen span (Repeat body cond) behind breaks continues =
      found_block rules seen body (until_context rules seen span body cond behind) behind (until_context rules seen span body cond behind)
      ++ found rules seen [] cond
  found_kind rules seen span (If arms last) behind breaks continues =
      found_arms rules seen arms behind breaks continues ++ found_last rules seen last behind breaks continues
  found_kind rules seen span (NumFor bind from to by body) behind breaks continues =
      found rules seen (bound_kinds seen from) from ++ found rules seen (bound_kinds seen to) to ++ found_maybe_bound rules seen by
      ++ found_block rules seen body (keep rules (the_stat span (NumFor bind from to by body)) body behind) behind (keep rules (the_stat span (NumFor bind from to by body)) body behind)
  found_kind rules seen span (GenFor binds values body) behind breaks continues =
      found_iteration rules seen values
      ++ found_block rules seen body (keep rules (the_stat span (GenFor binds values body)) body behind) behind (keep rules (the_stat span (GenFor binds values body)) body behind)
  found_kind rules seen span (FunctionStat path None body) behind breaks continues = found_target rules seen [] path ++ found_body rules seen body
  found_kind rules seen span (FunctionStat path (Some method) body) behind breaks continues = found rules seen (write_kinds seen path) path ++ found_body rules seen body
  found_kind rules seen span (LocalFunction name body) behind breaks continues = found_body rules seen body
  found_kind rules seen span (Local binds values) behind breaks continues =
      found_values rules seen (wanted_of_binds rules (values_context rules [] values behind) binds) values
  found_kind rules seen span (Return values) behind breaks continues = found_parts rules seen values
  found_kind rules seen span _ behind breaks continues = []

  pub found_arms : Rules → List Seen → Arms → (behind breaks continues : Context) → List Finding
  found_arms rules seen no_arms behind breaks continues = []
  found_arms rules seen (more_arms cond body rest) behind breaks continues =
      found rules seen [] cond ++ found_block rules seen body behind breaks continues ++ found_arms rules seen rest behind breaks continues

  pub found_last : Rules → List Seen → MaybeBlock → (behind breaks continues : Context) → List Finding
  found_last rules seen no_block behind breaks continues = []
  found_last rules seen (a_block body) behind breaks continues = found_block rules seen body behind breaks continues
