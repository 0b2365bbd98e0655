-- What the code keeps on its way through a module, and what becomes of it behind each part. No clause of a public call
-- cites these, so no reader needs to believe them.
use Rattle.std.specs.Prelude.{ℕ, ◌+◌, ◌&&◌, true, nat_lt, nat_le, if◌then◌else◌, List, [], ◌∷◌, ◌++◌, length, take, drop, Option, Some, None}
use Rattle.luau_tree.specs.declared.names.ExprId.{ExprId}
use Rattle.luau_tree.specs.declared.position.Span.{Span}
use Rattle.luau_tree.specs.Tree.{Block, StatKind, Arms, MaybeBlock, Expr, ExprKind, Exprs, MaybeExpr, Call, NameExpr, Choices, Items, Body, Varargs, Bind, Binds, no_binds, more_binds, Gens, TypeSyntax, TypeSyntaxes, MaybeType, Props}
use Rattle.luau_tree.specs.View.{view_arms, view_bind, view_binds, view_block, view_body, view_choices, view_expr, view_exprs, view_gens, view_items, view_maybe_block, view_maybe_expr, view_maybe_type, view_props, view_stats, view_type, view_types, view_varargs}
use Rattle.luau_scope.specs.declared.within.Within.{Within}
use Rattle.luau_scope.specs.declared.within.LoopAround.{LoopAround}
use Rattle.luau_scope.specs.declared.within.LoopAround.TheVariants.{Without, Repeat, Other}
use Rattle.luau_scope.specs.declared.findings.Declared.{Declared}
use Rattle.luau_scope.specs.declared.findings.Findings.{Findings}
use Rattle.luau_scope.specs.declared.walker.Walker.{Walker}
use Rattle.luau_scope.specs.declared.task.Task.{Task}
use Rattle.luau_scope.specs.declared.task.Task.TheVariants as task
use Rattle.luau_scope.specs.declared.reading.LocalInfo.{LocalInfo}
use Rattle.luau_scope.specs.declared.reading.Use.{Use}
use Rattle.luau_scope.specs.declared.reading.Use.TheVariants.{Local as LocalUse}
use Rattle.luau_scope.specs.declared.refusal.Refusal.TheVariants.{ContinuePastLocal}
use Rattle.luau_scope.specs.Locals.{is_among}
use Rattle.luau_scope.specs.Refusals.{Refused, earlier_of}
use Rattle.luau_scope.specs.Found.{Found, Declares, Means, Captures, Assigns, RequiresModule, Continues, Refuses, declarations, Part, ◌then◌, Loop, NoLoop, RepeatLoop, OtherLoop, Around}
use Rattle.luau_scope.specs.Finds as finds

-- ## Findings

-- the earliest refusal, with one more
abbrev pub noted : Option Refused → Refused → Option Refused
noted None r = Some r
noted (Some s) r = Some (earlier_of s r)

-- nothing is found yet
abbrev pub no_findings : Findings
no_findings = record { locals = []; uses = []; captured = []; assigned = []; required = []; pending = []; refusal = None }

-- with one more finding
abbrev pub step : Found → Findings → Findings
step (Declares name declared function given) w =
    record w { locals = w.locals ++ record { name = name; declared = declared; function = function; given = given } ∷ [] }
step (Means at meaning) w = record w { uses = w.uses ++ (at, meaning) ∷ [] }
step (Captures local) w = record w { captured = w.captured ++ local ∷ [] }
step (Assigns local) w = record w { assigned = w.assigned ++ local ∷ [] }
step (RequiresModule site) w = record w { required = w.required ++ site ∷ [] }
step (Continues at before) w = record w { pending = w.pending ++ (at, before) ∷ [] }
step (Refuses why at) w = record w { refusal = noted w.refusal (why, at) }

-- with more findings
unfoldable pub added : List Found → Findings → Findings
added [] w = w
added (f ∷ found) w = added found (step f w)

-- with what is found in a part
abbrev pub with_part : Part → Findings → Findings
with_part part w = added (part (length w.locals)) w

-- a local with a number, where these are assigned and these captured
abbrev pub marked_one : (assigned captured : List ℕ) → ℕ → Declared → LocalInfo
marked_one assigned captured n local = record {
  name = local.name;
  declared = local.declared;
  function = local.function;
  given = local.given;
  assigned = is_among n assigned;
  captured = is_among n captured;
  loose = is_among n assigned && is_among n captured;
}

-- locals from a number on
abbrev pub marked : (assigned captured : List ℕ) → ℕ → List Declared → List LocalInfo
marked assigned captured n [] = []
marked assigned captured n (local ∷ locals) = marked_one assigned captured n local ∷ marked assigned captured (n + 1) locals

-- one more than the last local below a number that is used, or so far
abbrev pub reach_from : ℕ → List (ExprId × Use) → (declared : ℕ) → ℕ
reach_from so_far [] declared = so_far
reach_from so_far ((at, LocalUse local) ∷ uses) declared =
    reach_from (if nat_lt local.0 declared then if nat_le so_far local.0 then local.0 + 1 else so_far else so_far) uses declared
reach_from so_far ((at, other) ∷ uses) declared = reach_from so_far uses declared

abbrev pub reach : List (ExprId × Use) → (declared : ℕ) → ℕ
reach uses declared = reach_from 0 uses declared

-- the refusals of `continue`s that stand before that one
abbrev pub passed_by : (reach : ℕ) → List (Span × ℕ) → List Found
passed_by reach [] = []
passed_by reach (own ∷ others) = (if nat_lt own.1 reach then Refuses ContinuePastLocal own.0 ∷ [] else []) ++ passed_by reach others

abbrev pub passed_locals : List (Span × ℕ) → List (ExprId × Use) → (declared : ℕ) → List Found
passed_locals own uses declared = passed_by (reach uses declared) own

-- ## Names

-- the name that an expression is
abbrev pub name_in : ExprKind → Option (List ℕ)
name_in (NameExpr name) = Some name
name_in _ = None

-- ## What is around

-- the loop around
abbrev pub loop_of : LoopAround → Loop
loop_of Without = NoLoop
loop_of Repeat = RepeatLoop
loop_of Other = OtherLoop

-- around a module's own block
abbrev pub within_module : Within
within_module = record { function = None; takes = true; outside = 0; around = Without }

-- what is around, with the locals in scope
abbrev pub around_in : Walker → Within → Around
around_in s within = record {
  paths = s.names.now;
  scope = s.scope;
  function = within.function;
  takes = within.takes;
  outside = within.outside;
  loop = loop_of within.around;
}

-- ## Behind each part

-- with what is found in a part
abbrev pub after_part : Part → Walker → Walker
after_part part s = record s { found = with_part part s.found }

unfoldable pub after_stats : Within → Block → Walker → Walker
after_stats w block s =
    record s { scope = finds.behind_block (around_in s w) block (length s.found.locals); found = with_part (finds.of_block (around_in s w) block) s.found }

-- the same, and the end of their scope
unfoldable pub after_block : Within → Block → Walker → Walker
after_block w block s = after_part (finds.of_block (around_in s w) block) s

unfoldable pub after_stat : Within → Span → StatKind → Walker → Walker
after_stat w span kind s =
    record s { scope = finds.behind_kind (around_in s w) kind (length s.found.locals); found = with_part (finds.of_stat_kind (around_in s w) span kind) s.found }

unfoldable pub after_arms : Within → Arms → Walker → Walker
after_arms w arms s = after_part (finds.of_arms (around_in s w) arms) s

unfoldable pub after_maybe_block : Within → MaybeBlock → Walker → Walker
after_maybe_block w last s = after_part (finds.of_maybe_block (around_in s w) last) s

unfoldable pub after_body : Within → Body → Walker → Walker
after_body w body s = after_part (finds.of_body (around_in s w) body) s

unfoldable pub after_params : Within → Binds → Walker → Walker
after_params w params s =
    record s { scope = finds.behind_params (around_in s w) params (length s.found.locals); found = with_part (finds.of_params (around_in s w) params) s.found }

unfoldable pub after_expr : Within → Expr → Walker → Walker
after_expr w e s = after_part (finds.of_expr (around_in s w) e) s

-- a call
unfoldable pub after_call : Within → ExprId → Span → (callee : Expr) (args : Exprs) → Walker → Walker
after_call w at span callee args s = after_part (finds.of_expr_kind (around_in s w) at span (Call callee args)) s

unfoldable pub after_exprs : Within → Exprs → Walker → Walker
after_exprs w es s = after_part (finds.of_exprs (around_in s w) es) s

unfoldable pub after_maybe_expr : Within → MaybeExpr → Walker → Walker
after_maybe_expr w e s = after_part (finds.of_maybe_expr (around_in s w) e) s

unfoldable pub after_choices : Within → Choices → Walker → Walker
after_choices w choices s = after_part (finds.of_choices (around_in s w) choices) s

unfoldable pub after_items : Within → Items → Walker → Walker
after_items w items s = after_part (finds.of_items (around_in s w) items) s

unfoldable pub after_type : Within → TypeSyntax → Walker → Walker
after_type w typ s = after_part (finds.of_type (around_in s w) typ) s

unfoldable pub after_types : Within → TypeSyntaxes → Walker → Walker
after_types w types s = after_part (finds.of_types (around_in s w) types) s

unfoldable pub after_maybe_type : Within → MaybeType → Walker → Walker
after_maybe_type w typ s = after_part (finds.of_maybe_type (around_in s w) typ) s

unfoldable pub after_varargs : Within → Varargs → Walker → Walker
after_varargs w vararg s = after_part (finds.of_varargs (around_in s w) vararg) s

unfoldable pub after_gens : Within → Gens → Walker → Walker
after_gens w gens s = after_part (finds.of_gens (around_in s w) gens) s

unfoldable pub after_props : Within → Props → Walker → Walker
after_props w props s = after_part (finds.of_props (around_in s w) props) s

unfoldable pub after_targets : Within → (earlier : List ℕ) → Exprs → Walker → Walker
after_targets w earlier targets s = after_part (finds.of_targets (around_in s w) earlier targets) s

unfoldable pub after_aim : Within → (earlier : List ℕ) → Expr → Walker → Walker
after_aim w earlier target s = after_part (finds.aimed (around_in s w) earlier target) s

-- a target that is no expression any more, and those behind it
unfoldable pub after_aims : Within → (earlier : List ℕ) → Expr → Exprs → Walker → Walker
after_aims w earlier target others s =
    after_targets w (earlier ++ finds.target_local (around_in s w) target) others (after_aim w earlier target s)

unfoldable pub after_named : Within → Expr → Option (List ℕ) → Walker → Walker
after_named w path method s = after_part (finds.named_function (around_in s w) path method) s

-- a declaration without its type
unfoldable pub after_declared : Within → Option ExprId → Bind → Walker → Walker
after_declared w given bind s = after_part (finds.declared_as (around_in s w) given bind) s

-- a local that comes into scope, where so many of the body are there
unfoldable pub after_entry : Within → (own : ℕ) → Bind → (number : ℕ) → Walker → Walker
after_entry w own bind number s =
    record s { scope = finds.with_bind (around_in s w) bind number; found = with_part (finds.of_entry own (finds.declared_span bind)) s.found }

-- a declaration that is in scope from its own name on, without its type
unfoldable pub after_own : Within → Bind → Walker → Walker
after_own w bind s = after_entry w (finds.own_locals (around_in s w)) bind (length s.found.locals) (after_declared w None bind s)

-- locals that come into scope
unfoldable pub after_entries : Within → (own : ℕ) → Binds → List ℕ → Walker → Walker
after_entries w own no_binds numbers s = s
after_entries w own (more_binds bind rest) [] s = s
after_entries w own (more_binds bind rest) (n ∷ numbers) s = after_entries w (own + 1) rest numbers (after_entry w own bind n s)

-- the same, where so many of the body are there as are in scope
unfoldable pub after_enter : Within → Binds → List ℕ → Walker → Walker
after_enter w binds numbers s = after_entries w (finds.own_locals (around_in s w)) binds numbers s

-- the numbers of declarations
abbrev pub numbers_of : Around → Binds → (before : ℕ) → List ℕ
numbers_of around no_binds before = []
numbers_of around (more_binds bind rest) before = before ∷ numbers_of around rest (before + declarations (finds.of_bind around None bind before))

-- declarations, their values, and the locals that come into scope
unfoldable pub after_locals : Within → (all rest : Binds) (given values : Exprs) → List ℕ → Walker → Walker
after_locals w all rest given values numbers s =
    after_enter w all (numbers ++ numbers_of (around_in s w) rest (length s.found.locals))
    (after_part (finds.of_binds (around_in s w) rest given then finds.of_exprs (around_in s w) values) s)

-- the end of a scope
unfoldable pub after_close : (depth : ℕ) → Walker → Walker
after_close depth s = record s { scope = take depth s.scope }

-- the end of a `repeat`
unfoldable pub after_pass : (own : List (Span × ℕ)) → (uses declared depth : ℕ) → Walker → Walker
after_pass own uses declared depth s =
    after_close depth (record s { found = added (passed_locals own (drop uses s.found.uses) declared) s.found })

-- without the `continue`s from one on
abbrev pub without_own : (start : ℕ) → Walker → Walker
without_own start s = record s { found = record s.found { pending = take start s.found.pending } }

-- an `until`, and the end of its `repeat`
unfoldable pub after_until : Within → Expr → (depth start : ℕ) → Walker → Walker
after_until w cond depth start s =
    after_pass (drop start s.found.pending) (length s.found.uses) (length s.found.locals) depth (after_expr w cond (without_own start s))

-- ## Tasks

-- behind a task
abbrev pub act : Task → Walker → Walker
act (task.Stats w stats) s = after_stats w (view_stats stats.now) s
act (task.Block w block) s = after_block w (view_block block.now) s
act (task.Arms w arms) s = after_arms w (view_arms arms.now) s
act (task.Last w last) s = after_maybe_block w (view_maybe_block last.now) s
act (task.Body w body) s = after_body w (view_body body.now) s
act (task.Params w params) s = after_params w (view_binds params.now) s
act (task.Expr w e) s = after_expr w (view_expr e.now) s
act (task.Exprs w es) s = after_exprs w (view_exprs es.now) s
act (task.MaybeExpr w e) s = after_maybe_expr w (view_maybe_expr e.now) s
act (task.Choices w choices) s = after_choices w (view_choices choices.now) s
act (task.Items w items) s = after_items w (view_items items.now) s
act (task.Type w typ) s = after_type w (view_type typ.now) s
act (task.Types w types) s = after_types w (view_types types.now) s
act (task.MaybeType w typ) s = after_maybe_type w (view_maybe_type typ.now) s
act (task.Varargs w vararg) s = after_varargs w (view_varargs vararg.now) s
act (task.Gens w gens) s = after_gens w (view_gens gens.now) s
act (task.Props w props) s = after_props w (view_props props.now) s
act (task.Targets w targets earlier) s = after_targets w earlier (view_exprs targets.now) s
act (task.Aim w target others earlier) s = after_aims w earlier (view_expr target.now) (view_exprs others.now) s
act (task.Named w path method) s = after_named w (view_expr path.now) method.now s
act (task.Locals w l) s = after_locals w (view_binds l.all.now) (view_binds l.rest.now) (view_exprs l.given.now) (view_exprs l.values.now) l.numbers s
act (task.Enter w binds numbers) s = after_enter w (view_binds binds.now) numbers s
act (task.Entry w bind number) s = after_entry w (finds.own_locals (around_in s w)) (view_bind bind.now) number s
act (task.Until w cond depth start) s = after_until w (view_expr cond.now) depth start s
act (task.Pass r) s = after_pass r.own r.uses r.declared r.depth s
act (task.Close depth) s = after_close depth s

-- behind some tasks, the last of which is the next
unfoldable pub run : List Task → Walker → Walker
run [] s = s
run (t ∷ tasks) s = act t (run tasks s)
