-- Worked runs: a module whose text is one call of `math.abs` with a literal.
use Rattle.std.specs.Prelude.{ℕ, zero, suc, List, [], ◌∷◌, Option, Some, None, codes}
use Rattle.luau_tree.specs.declared.names.Place.{Place}
use Rattle.luau_tree.specs.declared.names.Place.TheVariants.{Expr as ExprPlace}
use Rattle.luau_tree.specs.Tree.{Block, no_stats, more_stats, the_stat, CallStat, the_expr, no_exprs, more_exprs, ExprKind, Call, Index, NameExpr}
use Rattle.luau_run.specs.ValueSet.{everything}
use Rattle.luau_run.specs.ReadModule.{Use, UseBuiltin, UseLibrary}
use Rattle.luau_run.specs.Program.{Program}
use Rattle.luau_run.specs.Machine.{Event, Answer}
use Rattle.luau_run.specs.Run.{run, end_of}
use Rattle.luau_run.specs.runs.Builders.{abs, somewhere}
use Rattle.luau_run.specs.runs.Outcome.{Outcome, outcome}

-- `math.abs(LITERAL)`: the call has the number 0, its callee 1, the name `math` 2 and the literal 3
abbrev pub call_of_abs : ExprKind → Block
call_of_abs literal =
    more_stats (the_stat somewhere (CallStat (the_expr 0 somewhere (Call
    (the_expr 1 somewhere (Index (the_expr 2 somewhere (NameExpr (codes "math"))) (codes "abs")))
    (more_exprs (the_expr 3 somewhere literal) no_exprs))))) no_stats

abbrev pub names_of_call : ℕ → Option Use
names_of_call (suc zero) = Some (UseBuiltin (codes "math.abs"))
names_of_call (suc (suc zero)) = Some UseLibrary
names_of_call _ = None

-- the one module with that text, over that builtin
abbrev pub calling_abs : ExprKind → Program
calling_abs literal = record {
  modules = record {
    home = 1;
    block = call_of_abs literal;
    use_of = names_of_call;
    local_at = λ offset. 0;
    captured = λ function. [];
    annotated = λ function index. everything;
    required = λ id. None;
  } ∷ [];
  builtins = abs ∷ [];
}

-- how the run of such a module ends, and what it logs
abbrev pub outcome_and_trace : ExprKind → (steps : ℕ) → List Answer → Outcome × List Event
outcome_and_trace literal steps tape =
    (outcome (run (calling_abs literal) 0 steps tape), (end_of (run (calling_abs literal) 0 steps tape)).trace)

-- a report at the literal
abbrev pub at_literal : List (ℕ × Place)
at_literal = (0, ExprPlace (record { 0 = 3 })) ∷ []
