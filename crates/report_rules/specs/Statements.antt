-- The context before a statement, from the contexts behind it, at `break` and at `continue`.
use Rattle.std.specs.Prelude.{ℕ, List, [], ◌∷◌, Option, Some, None, if◌then◌else◌}
use Rattle.luau_tree.specs.declared.position.Span.{Span}
use Rattle.luau_tree.specs.declared.names.BinOp.{BinOp}
use Rattle.luau_tree.specs.declared.names.Op.TheVariants.{Write as WriteOp, For as ForOp, Iterate as IterateOp, Binary as BinaryOp}
use Rattle.luau_tree.specs.Tree.{Block, no_stats, more_stats, Stat, the_stat, StatKind, Assign, Compound, CallStat, Do, While, Repeat, If, NumFor, GenFor, FunctionStat, LocalFunction, Local, Return, Break, Continue, Arms, no_arms, more_arms, MaybeBlock, no_block, a_block}
use Rattle.luau_tree.specs.Tree.{Expr, the_expr, Exprs, no_exprs, more_exprs, MaybeExpr, no_expr, an_expr, StrExpr, NameExpr, Index, At, the_bind, Binds, no_binds, more_binds}
use Rattle.type_arena.specs.Term.{Term, never}
use Rattle.type_normal.specs.Operations.{union}
use Rattle.type_normal.specs.Kinds.{field_is}
use Rattle.type_normal.specs.Failing.{index_fail, write_fail, arith_fail, iter_fail}
use Rattle.report_rules.specs.Rules.{Rules, local_named}
use Rattle.report_rules.specs.Effects.{Target, OfLocal, OfGlobal, OfField, OfElement, target_of, targets_of, function_target, effects, any_effects, local_of_bind, locals_of_binds, stirs, touches, returns_block}
use Rattle.report_rules.specs.Seen.{Seen}
use Rattle.report_rules.specs.Context.{Context, none, join, branch, stripped, stripped_at, without, pass, followed}
use Rattle.report_rules.specs.Checks.{ReportKind, Operand, ValueOf, type_of, check, left, operand_set}
use Rattle.report_rules.specs.Errors.{ev, index_kinds, name_context}

-- what is reported of a base that is written
abbrev pub write_kinds : List Seen → Expr → List ReportKind
write_kinds seen base = check seen base write_fail (Operand WriteOp)

-- what is reported of a bound of a numeric `for`, and of what a generic one goes over
abbrev pub bound_kinds : List Seen → Expr → List ReportKind
bound_kinds seen e = check seen e arith_fail (Operand ForOp)

abbrev pub iteration_kinds : List Seen → Expr → List ReportKind
iteration_kinds seen e = check seen e iter_fail (Operand IterateOp)

-- a value that a local gets: its name, with the set with which the code behind fails
pub record Wanted : Type 0 where
  pub name : List ℕ
  pub set : Term

-- what is wanted of the values at the positions of declared names
abbrev pub wanted_of_binds : Rules → Context → Binds → List (Option Wanted)
wanted_of_binds rules behind no_binds = []
wanted_of_binds rules behind (more_binds (the_bind name span typ) rest) =
    Some (record { name = name; set = behind (rules.reading.local_at span.start) }) ∷ wanted_of_binds rules behind rest

-- what is wanted of the values at the positions of targets: something, where the target is a local
abbrev pub wanted_of_local : Context → List ℕ → Option ℕ → Option Wanted
wanted_of_local behind name None = None
wanted_of_local behind name (Some local) = Some (record { name = name; set = behind local })

abbrev pub wanted_of_target : Rules → Context → Expr → Option Wanted
wanted_of_target rules behind (the_expr id span (NameExpr name)) = wanted_of_local behind name (local_named rules (the_expr id span (NameExpr name)))
wanted_of_target rules behind _ = None

abbrev pub wanted_of_targets : Rules → Context → Exprs → List (Option Wanted)
wanted_of_targets rules behind no_exprs = []
wanted_of_targets rules behind (more_exprs e rest) = wanted_of_target rules behind e ∷ wanted_of_targets rules behind rest

-- what is reported of a value, and what is left of the set
abbrev pub value_kinds : List Seen → Expr → Option Wanted → List ReportKind
value_kinds seen e None = []
value_kinds seen e (Some wanted) = check seen e wanted.set (ValueOf wanted.name)

abbrev pub value_left : List Seen → Expr → Option Wanted → Term
value_left seen e None = never
value_left seen e (Some wanted) = left (value_kinds seen e (Some wanted)) wanted.set

-- the first of what is wanted, and the rest
abbrev pub first_wanted : List (Option Wanted) → Option Wanted
first_wanted [] = None
first_wanted (wanted ∷ rest) = wanted

abbrev pub rest_wanted : List (Option Wanted) → List (Option Wanted)
rest_wanted [] = []
rest_wanted (wanted ∷ rest) = rest

-- values that are evaluated in order, and what comes behind them
abbrev pub ev_values : Rules → List Seen → List (Option Wanted) → Exprs → (behind : Context) → Context
ev_values rules seen wanted no_exprs behind = behind
ev_values rules seen wanted (more_exprs e rest) behind =
    followed (ev rules seen e (value_left seen e (first_wanted wanted))) (effects rules e) (ev_values rules seen (rest_wanted wanted) rest behind)

-- parts that are evaluated in order, and what comes behind them
abbrev pub ev_then : Rules → List Seen → Exprs → (behind : Context) → Context
ev_then rules seen es behind = ev_values rules seen [] es behind

-- what is left behind a write of the context that follows it
abbrev pub before_write : Target → Context → Context
before_write (OfLocal local) context = without (local ∷ []) context
before_write OfGlobal context = context
before_write (OfField base name) context = stripped_at name context
before_write OfElement context = stripped context

abbrev pub before_writes : List Target → Context → Context
before_writes [] context = context
before_writes (target ∷ targets) context = before_writes targets (before_write target context)

-- the context by which assigned values are checked: locals keep their sets
abbrev pub for_values : List Target → Context → Context
for_values [] context = context
for_values (OfField base name ∷ targets) context = for_values targets (stripped_at name context)
for_values (OfElement ∷ targets) context = for_values targets (stripped context)
for_values (target ∷ targets) context = for_values targets context

-- a target's base, which is checked, and its key; then what comes behind them. A target that is a name takes nothing
abbrev pub ev_base : Rules → List Seen → Expr → (behind : Context) → Context
ev_base rules seen base behind = followed (ev rules seen base (left (write_kinds seen base) write_fail)) (effects rules base) behind

abbrev pub ev_target : Rules → List Seen → Expr → (behind : Context) → Context
ev_target rules seen (the_expr id span (Index base name)) behind = ev_base rules seen base behind
ev_target rules seen (the_expr id span (At base key)) behind = ev_base rules seen base (followed (ev rules seen key never) (effects rules key) behind)
ev_target rules seen _ behind = behind

abbrev pub ev_targets : Rules → List Seen → Exprs → (behind : Context) → Context
ev_targets rules seen no_exprs behind = behind
ev_targets rules seen (more_exprs e rest) behind = ev_target rules seen e (ev_targets rules seen rest behind)

-- the context by which the values of an assignment or a declaration are checked: it is stripped if one of them has effects
abbrev pub values_context : Rules → List Target → Exprs → Context → Context
values_context rules targets values behind = pass (any_effects rules values) (for_values targets behind)

-- an assignment: bases and keys, values, writes
abbrev pub assign_context : Rules → List Seen → Exprs → Exprs → (behind : Context) → Context
assign_context rules seen targets values behind =
    ev_targets rules seen targets
    (ev_values rules seen (wanted_of_targets rules (values_context rules (targets_of rules targets) values behind) targets) values
    (before_writes (targets_of rules targets) behind))

-- a declaration
abbrev pub declare_context : Rules → List Seen → Binds → Exprs → (behind : Context) → Context
declare_context rules seen binds values behind =
    ev_values rules seen (wanted_of_binds rules (values_context rules [] values behind) binds) values (without (locals_of_binds rules binds) behind)

-- what is reported at the target of a compound, as the left side of its operation, and at the value, as the right side
abbrev pub old_set : List Seen → BinOp → Expr → Term
old_set seen op e = operand_set op (type_of seen e)

abbrev pub old_kinds : List Seen → Expr → BinOp → Expr → List ReportKind
old_kinds seen target op e = check seen target (old_set seen op e) (Operand (BinaryOp op))

abbrev pub old_left : List Seen → Expr → BinOp → Expr → Term
old_left seen target op e = left (old_kinds seen target op e) (old_set seen op e)

abbrev pub added_kinds : List Seen → Expr → BinOp → Expr → List ReportKind
added_kinds seen target op e = check seen e (operand_set op (type_of seen target)) (Operand (BinaryOp op))

abbrev pub added_left : List Seen → Expr → BinOp → Expr → Term
added_left seen target op e = left (added_kinds seen target op e) (operand_set op (type_of seen target))

-- the base of a compound on a field fails where it can't be indexed, can't be written, or its field is no operand; where a report
-- says that it can't be indexed, nothing else is asked
abbrev pub compound_base_set : (index write : List ReportKind) → (field : Term) → Term
compound_base_set [] write field = union index_fail (union (left write write_fail) field)
compound_base_set (kind ∷ kinds) write field = never

abbrev pub ev_compound_base : Rules → List Seen → Expr → (field : Term) → (behind : Context) → Context
ev_compound_base rules seen base field behind =
    followed (ev rules seen base (compound_base_set (index_kinds seen base) (write_kinds seen base) field)) (effects rules base) behind

-- the value of a compound, and what comes behind it
abbrev pub ev_added : Rules → List Seen → Expr → BinOp → Expr → (behind : Context) → Context
ev_added rules seen target op e behind = followed (ev rules seen e (added_left seen target op e)) (effects rules e) (before_write (target_of rules target) behind)

-- what a compound's target is made of, with the set of what it holds, and what comes behind that
abbrev pub ev_compound : Rules → List Seen → Expr → (old : Term) → (behind : Context) → Context
ev_compound rules seen (the_expr id span (Index base name)) old behind = ev_compound_base rules seen base (field_is name old) behind
ev_compound rules seen (the_expr id span (At base (the_expr key_id key_span (StrExpr name)))) old behind = ev_compound_base rules seen base (field_is name old) behind
ev_compound rules seen (the_expr id span (At base key)) old behind =
    ev_compound_base rules seen base never (followed (ev rules seen key never) (effects rules key) behind)
ev_compound rules seen target old behind = join (name_context rules (local_named rules target) old) behind

-- a compound assignment: base, key, value, operation, write
abbrev pub compound_context : Rules → List Seen → Expr → BinOp → Expr → (behind : Context) → Context
compound_context rules seen target op e behind = ev_compound rules seen target (old_left seen target op e) (ev_added rules seen target op e behind)

-- a function statement: with a method its path is evaluated and written, else its path is a target
abbrev pub function_context : Rules → List Seen → Expr → Option (List ℕ) → (behind : Context) → Context
function_context rules seen path None behind = ev_target rules seen path (before_write (function_target rules path None) behind)
function_context rules seen path (Some method) behind = ev_base rules seen path (before_write (function_target rules path (Some method)) behind)

-- what a loop keeps of the context behind it, at each of its turns: nothing where it may return; and nothing of the locals that
-- it assigns or declares
abbrev pub keep : Rules → Stat → (body : Block) → (behind : Context) → Context
keep rules loop body behind local =
    if returns_block body then never
    else if touches rules local loop then never
    else pass (stirs rules loop) behind local

abbrev pub while_context : Rules → List Seen → Span → Expr → Block → (behind : Context) → Context
while_context rules seen span cond body behind = join (ev rules seen cond never) (keep rules (the_stat span (While cond body)) body behind)

-- the context behind a `repeat`'s body, before its condition
abbrev pub until_context : Rules → List Seen → Span → Block → Expr → (behind : Context) → Context
until_context rules seen span body cond behind =
    followed (ev rules seen cond never) (effects rules cond) (keep rules (the_stat span (Repeat body cond)) body behind)

-- the bounds of a numeric `for`, each of which is checked, and what comes behind them
abbrev pub ev_bound : Rules → List Seen → Expr → (behind : Context) → Context
ev_bound rules seen e behind = followed (ev rules seen e (left (bound_kinds seen e) arith_fail)) (effects rules e) behind

abbrev pub ev_maybe_bound : Rules → List Seen → MaybeExpr → (behind : Context) → Context
ev_maybe_bound rules seen no_expr behind = behind
ev_maybe_bound rules seen (an_expr e) behind = ev_bound rules seen e behind

-- the values of a generic `for`, of which the first is checked, and what comes behind them
abbrev pub ev_iteration : Rules → List Seen → Exprs → (behind : Context) → Context
ev_iteration rules seen no_exprs behind = behind
ev_iteration rules seen (more_exprs e rest) behind =
    followed (ev rules seen e (left (iteration_kinds seen e) iter_fail)) (effects rules e) (ev_then rules seen rest behind)

-- an `if`'s condition, and then the side that it chooses
abbrev pub ev_branch : Rules → List Seen → Expr → (when_true when_false : Context) → Context
ev_branch rules seen cond when_true when_false = followed (ev rules seen cond never) (effects rules cond) (branch rules cond when_true when_false)

-- the context before a statement, from those after falling through, after `break` and after `continue`
abbrev mutual
  pub stm : Rules → List Seen → Stat → (behind breaks continues : Context) → Context
  stm rules seen (the_stat span kind) behind breaks continues = stm_in rules seen span kind behind breaks continues

  pub stm_in : Rules → List Seen → Span → StatKind → (behind breaks continues : Context) → Context
  stm_in rules seen span (Return values) behind breaks continues = ev_then rules seen values none
  stm_in rules seen span Break behind breaks continues = breaks
  stm_in rules seen span Continue behind breaks continues = continues
  stm_in rules seen span (CallStat e) behind breaks continues = followed (ev rules seen e never) (effects rules e) behind
  stm_in rules seen span (Local binds values) behind breaks continues = declare_context rules seen binds values behind
  stm_in rules seen span (Assign targets values) behind breaks continues = assign_context rules seen targets values behind
  stm_in rules seen span (FunctionStat path method body) behind breaks continues = function_context rules seen path method behind
  stm_in rules seen span (LocalFunction name body) behind breaks continues = without (local_of_bind rules name ∷ []) behind
  stm_in rules seen span (Compound target op e) behind breaks continues = compound_context rules seen target op e behind
  stm_in rules seen span (Do body) behind breaks continues = stm_block rules seen body behind breaks continues
  stm_in rules seen span (If arms last) behind breaks continues = stm_arms rules seen arms (stm_last rules seen last behind breaks continues) behind breaks continues
  stm_in rules seen span (While cond body) behind breaks continues = while_context rules seen span cond body behind
  stm_in rules seen span (Repeat body cond) behind breaks continues =
      stm_block rules seen body (until_context rules seen span body cond behind) behind (until_context rules seen span body cond behind)
  stm_in rules seen span (NumFor bind from to by body) behind breaks continues =
      ev_bound rules seen from (ev_bound rules seen to (ev_maybe_bound rules seen by (keep rules (the_stat span (NumFor bind from to by body)) body behind)))
  stm_in rules seen span (GenFor binds values body) behind breaks continues =
      ev_iteration rules seen values (keep rules (the_stat span (GenFor binds values body)) body behind)
  stm_in rules seen span _ behind breaks continues = behind

  pub stm_block : Rules → List Seen → Block → (behind breaks continues : Context) → Context
  stm_block rules seen no_stats behind breaks continues = behind
  stm_block rules seen (more_stats s rest) behind breaks continues =
      stm rules seen s (stm_block rules seen rest behind breaks continues) breaks continues

  -- the arms of an `if`, with the context of what comes where all conditions came out false
  pub stm_arms : Rules → List Seen → Arms → (last : Context) → (behind breaks continues : Context) → Context
  stm_arms rules seen no_arms last behind breaks continues = last
  stm_arms rules seen (more_arms cond body rest) last behind breaks continues =
      ev_branch rules seen cond (stm_block rules seen body behind breaks continues) (stm_arms rules seen rest last behind breaks continues)

  pub stm_last : Rules → List Seen → MaybeBlock → (behind breaks continues : Context) → Context
  stm_last rules seen no_block behind breaks continues = behind
  stm_last rules seen (a_block body) behind breaks continues = stm_block rules seen body behind breaks continues
