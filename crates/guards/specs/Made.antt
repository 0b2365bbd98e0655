-- The two lists that are made for a condition, by its form.
use Rattle.std.specs.Prelude.{ℕ, Bool, true, false, not, List, [], ◌∷◌, Option, Some, None, if◌then◌else◌}
use Rattle.luau_tree.specs.declared.names.BinOp.{BinOp}
use Rattle.luau_tree.specs.declared.names.BinOp.TheVariants.{Or, And, Equal, NotEqual}
use Rattle.luau_tree.specs.declared.names.UnOp.TheVariants.{Not}
use Rattle.luau_tree.specs.Tree.{Expr, the_expr, ExprKind, NameExpr, Paren, Unary, Binary}
use Rattle.luau_run.specs.ReadFolder.{local_of}
use Rattle.type_arena.specs.Term.{Term}
use Rattle.type_normal.specs.Kinds.{falsy, truthy}
use Rattle.report_rules.specs.Rules.{Rules}
use Rattle.report_rules.specs.Guard.{Says, firm_only, equality}
use Rattle.guards.specs.Lists.{joined}
use Rattle.guards.specs.declared.guarding.Joins.{Joins}
use Rattle.guards.specs.declared.joining.Join.{Join}
use Rattle.guards.specs.declared.joining.Join.TheVariants.{Both, Either}

-- the list of a bare name
abbrev pub name_list : Bool → Option ℕ → List (ℕ × Term)
name_list truth None = []
name_list truth (Some local) = (local, (if truth then truthy else falsy)) ∷ []

-- the list of a test
abbrev pub test_list : Bool → Option Says → List (ℕ × Term)
test_list truth None = []
test_list truth (Some says) = (says.local, (if truth then says.when_true else says.when_false)) ∷ []

-- how an operator joins what its sides say, if it does
abbrev pub joins_of : BinOp → Option Joins
joins_of And = Some (record { on_true = Both; on_false = Either })
joins_of Or = Some (record { on_true = Either; on_false = Both })
joins_of _ = None

-- the list of a comparison
abbrev pub compared : BinOp → Bool → Option Says → List (ℕ × Term)
compared Equal truth says = test_list truth says
compared NotEqual truth says = test_list (not truth) says
compared _ truth says = []

-- how two sides are joined where a condition is true, or false
abbrev pub join_where : Bool → Joins → Join
join_where true joins = joins.on_true
join_where false joins = joins.on_false

-- the list of two sides: joined, or of their comparison
abbrev pub sides_list : Option Joins → Bool → (left right comparison : List (ℕ × Term)) → List (ℕ × Term)
sides_list (Some joins) truth left right comparison = joined (join_where truth joins) left right
sides_list None truth left right comparison = comparison

-- the list that is made where a condition is true, or false
abbrev mutual
  pub made : Rules → Expr → Bool → List (ℕ × Term)
  made rules (the_expr id span kind) truth = made_in rules id kind truth

  pub made_in : Rules → ℕ → ExprKind → Bool → List (ℕ × Term)
  made_in rules id (NameExpr name) truth = name_list truth (firm_only rules (local_of (rules.reading.use_of id)))
  made_in rules id (Paren e) truth = made rules e truth
  made_in rules id (Unary Not e) truth = made rules e (not truth)
  made_in rules id (Binary op left right) truth =
      sides_list (joins_of op) truth (made rules left truth) (made rules right truth) (compared op truth (equality rules left right))
  made_in rules id _ truth = []
