-- What statements make of what is at hand: the context behind becomes that before, and reports come.
use Rattle.std.specs.Prelude.{List, [], ◌∷◌, Option, Some, None}
use Rattle.luau_tree.specs.declared.names.BinOp.{BinOp}
use Rattle.luau_tree.specs.Tree.{Block, no_stats, more_stats, Stat, the_stat, StatKind, While, Repeat, NumFor, GenFor, Arms, no_arms, more_arms, MaybeBlock, no_block, a_block, Expr, Exprs, no_exprs, more_exprs, Bind, the_bind, Binds, no_binds, more_binds}
use Rattle.report_rules.specs.Rules.{Rules}
use Rattle.report_rules.specs.Effects.{Target, locals_of_binds}
use Rattle.report_rules.specs.Seen.{Seen}
use Rattle.report_rules.specs.Context.{without}
use Rattle.report_rules.specs.Statements.{keep, stm, stm_block, old_kinds}
use Rattle.report_rules.specs.Findings.{found_stat, found_block, found_target, found_compound}
use Rattle.report_work.specs.Work.{Work}
use Rattle.report_work.specs.Moves.{first_of, behind_by, behind_kept, behind_again, decided, written, kept_for_value, looped, unlooped, reported}
use Rattle.report_work.specs.Checks.{Check, Unchecked, Iterated, ValueFor, Named, named_of_target}
use Rattle.report_work.specs.Expressions.{before, each, before_target, before_compound}
use Rattle.report_work.specs.Found.{found_as}

-- an expression that is checked: its reports, and it stands before what is behind
abbrev pub passed : Rules → List Seen → Check → Expr → Work → Work
passed rules seen check e work = before rules seen check e (found_as rules seen check e work)

-- the values of a generic `for`, of which the first is gone over
abbrev pub each_iterated : Rules → List Seen → Exprs → Work → Work
each_iterated rules seen no_exprs work = work
each_iterated rules seen (more_exprs e rest) work = passed rules seen Iterated e (each (passed rules seen Unchecked) rest work)

-- ## Values and targets

-- the first of the locals that values go to, and the rest
abbrev pub named_first : List (Option Named) → Option Named
named_first [] = None
named_first (named ∷ rest) = named

abbrev pub named_rest : List (Option Named) → List (Option Named)
named_rest [] = []
named_rest (named ∷ rest) = rest

-- values, from the last to the first
abbrev pub each_value : Rules → List Seen → List (Option Named) → Exprs → Work → Work
each_value rules seen names no_exprs work = work
each_value rules seen names (more_exprs e rest) work =
    passed rules seen (ValueFor (named_first names)) e (each_value rules seen (named_rest names) rest work)

-- the locals of declared names, and of targets
abbrev pub named_of_bind : Rules → Bind → Named
named_of_bind rules (the_bind name span typ) = record { name = name; local = rules.reading.local_at span.start }

abbrev pub named_of_binds : Rules → Binds → List (Option Named)
named_of_binds rules no_binds = []
named_of_binds rules (more_binds bind rest) = Some (named_of_bind rules bind) ∷ named_of_binds rules rest

abbrev pub named_of_targets : Rules → Exprs → List (Option Named)
named_of_targets rules no_exprs = []
named_of_targets rules (more_exprs e rest) = named_of_target rules e ∷ named_of_targets rules rest

-- a target, with its reports, before what is behind; and the target of a compound by a value
abbrev pub with_target : Rules → List Seen → Expr → Work → Work
with_target rules seen e work = reported (found_target rules seen [] e) (before_target rules seen e work)

abbrev pub with_compound : Rules → List Seen → BinOp → (added : Expr) → Expr → Work → Work
with_compound rules seen op added e work =
    reported (found_compound rules seen (old_kinds seen e op added) e) (before_compound rules seen op added e work)

-- writes, from the first to the last, and how they change the context by which values are checked
abbrev pub each_written : List Target → Work → Work
each_written [] work = work
each_written (target ∷ targets) work = each_written targets (written target work)

abbrev pub each_kept : List Target → Work → Work
each_kept [] work = work
each_kept (target ∷ targets) work = each_kept targets (kept_for_value target work)

-- declared names are gone
abbrev pub undeclared : Rules → Binds → Work → Work
undeclared rules binds work = behind_by (without (locals_of_binds rules binds)) work

-- ## Statements and blocks

abbrev pub with_stat : Rules → List Seen → Stat → Work → Work
with_stat rules seen s work =
    reported (found_stat rules seen s work.behind (first_of work.breaks) (first_of work.continues))
    (behind_by (λ behind. stm rules seen s behind (first_of work.breaks) (first_of work.continues)) work)

abbrev pub with_block : Rules → List Seen → Block → Work → Work
with_block rules seen block work =
    reported (found_block rules seen block work.behind (first_of work.breaks) (first_of work.continues))
    (behind_by (λ behind. stm_block rules seen block behind (first_of work.breaks) (first_of work.continues)) work)

-- statements, from the last to the first
abbrev pub each_stat : (Stat → Work → Work) → Block → Work → Work
each_stat one no_stats work = work
each_stat one (more_stats s rest) work = one s (each_stat one rest work)

-- the block behind `else`, if there is one
abbrev pub at_last : Rules → List Seen → MaybeBlock → Work → Work
at_last rules seen no_block work = work
at_last rules seen (a_block body) work = with_block rules seen body work

-- an arm of an `if`: what comes where its condition came out false is behind, and what comes behind the `if` was put aside last
abbrev pub with_arm : Rules → List Seen → (cond : Expr) → (body : Block) → Work → Work
with_arm rules seen cond body work = passed rules seen Unchecked cond (decided rules cond (with_block rules seen body (behind_again (behind_kept work))))

abbrev pub each_arm : (Expr → Block → Work → Work) → Arms → Work → Work
each_arm one no_arms work = work
each_arm one (more_arms cond body rest) work = one cond body (each_arm one rest work)

-- what a loop keeps of the context behind it
abbrev pub body_of_loop : StatKind → Block
body_of_loop (While cond body) = body
body_of_loop (Repeat body cond) = body
body_of_loop (NumFor bind from to by body) = body
body_of_loop (GenFor binds values body) = body
body_of_loop _ = no_stats

abbrev pub kept_by : Rules → Stat → Work → Work
kept_by rules (the_stat span kind) work = behind_by (keep rules (the_stat span kind) (body_of_loop kind)) work

-- the block of a loop, at whose end and at whose `continue` the context that is behind stands, and behind which the one that was put
-- aside last does
abbrev pub in_loop : Rules → List Seen → Block → Work → Work
in_loop rules seen body work = unlooped (with_block rules seen body (looped work))
