-- A small folder: a module that returns a string, and one that requires it and hands what it gives to `math.abs`.
use Rattle.std.specs.Prelude.{ℕ, true, List, [], ◌∷◌, Some, None, codes}
use Rattle.luau_tree.specs.declared.names.Place.{Place}
use Rattle.luau_tree.specs.declared.names.Place.TheVariants.{Expr as ExprPlace}
use Rattle.luau_tree.specs.Tree.{no_stats, more_stats, the_stat, CallStat, Return, Expr, the_expr, no_exprs, more_exprs, Call, Index, NameExpr, StrExpr}
use Rattle.luau_run.specs.runs.Builders.{somewhere}
use Rattle.type_normal.specs.Kinds.{number_type}
use Rattle.type_decl.specs.Signatures.{Signature}
use Rattle.reading_fits.specs.FolderAnalysis.{TreeModule}

-- the table that declares `math.abs` alone, as a checked and quiet function of one number
abbrev pub of_abs : List (List ℕ × Signature)
of_abs = (
  codes "math.abs",
  record {
    params = number_type ∷ [];
    rest = None;
    results = number_type ∷ [];
    more = None;
    checked = true;
    quiet = true;
  },
) ∷ []

-- `return "s"`
abbrev pub returning : TreeModule
returning = record {
  home = 1;
  block = more_stats (the_stat somewhere (Return (more_exprs (the_expr 0 somewhere (StrExpr (codes "s"))) no_exprs))) no_stats;
  leads = λ way. None;
}

-- `require("./a")`, whose numbers count from 3
abbrev pub require_a : Expr
require_a = the_expr 3 somewhere (Call (the_expr 4 somewhere (NameExpr (codes "require")))
    (more_exprs (the_expr 5 somewhere (StrExpr (codes "./a"))) no_exprs))

-- `math.abs(require("./a"))`, where each way leads to the first module
abbrev pub requiring : TreeModule
requiring = record {
  home = 2;
  block = more_stats (the_stat somewhere (CallStat (the_expr 0 somewhere (Call
      (the_expr 1 somewhere (Index (the_expr 2 somewhere (NameExpr (codes "math"))) (codes "abs")))
      (more_exprs require_a no_exprs))))) no_stats;
  leads = λ way. Some 0;
}

-- the two
abbrev pub two_modules : List TreeModule
two_modules = returning ∷ requiring ∷ []

-- the place of the argument, in the second
abbrev pub at_argument : List (ℕ × Place)
at_argument = (1, ExprPlace (record { 0 = 3 })) ∷ []
