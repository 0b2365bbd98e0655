-- How the form around an expression checks it: what is reported there, and the set with which the code is left to fail.
use Rattle.std.specs.Prelude.{ℕ, Bool, List, [], Option, Some, None}
use Rattle.luau_tree.specs.declared.names.BinOp.{BinOp}
use Rattle.luau_tree.specs.declared.names.UnOp.{UnOp}
use Rattle.luau_tree.specs.Tree.{Expr, the_expr, NameExpr}
use Rattle.type_arena.specs.Term.{Term, never}
use Rattle.type_normal.specs.Failing.{index_fail, write_fail, call_fail, arith_fail, iter_fail}
use Rattle.report_rules.specs.Rules.{Rules, local_named}
use Rattle.report_rules.specs.Seen.{Seen}
use Rattle.report_rules.specs.Context.{Context}
use Rattle.report_rules.specs.Checks.{ReportKind, left, unary_set, checked_callee, argument_kinds, argument_left}
use Rattle.report_rules.specs.Errors.{index_kinds, call_kinds, unary_kinds, side_kinds, side_left}
use Rattle.report_rules.specs.Statements.{Wanted, write_kinds, bound_kinds, iteration_kinds, value_kinds, value_left, old_kinds, old_left, added_kinds, added_left}
use Rattle.report_rules.specs.Findings.{compound_kinds}

-- a local that gets a value, by the name that is written
pub record Named : Type 0 where
  pub name : List ℕ
  pub local : ℕ

-- how an expression is checked: not at all; as a callee; as the argument of a call at a position; as a base that is indexed, that is
-- written, or both; as the operand of an operation on one or two sides; as a bound of a numeric `for`, or what a generic one goes
-- over; as the target or the value of a compound; or as the value that a local gets
pub data Check : Type 0 where
  Unchecked : Check
  Callee : Check
  ArgumentOf : (callee : Expr) (position : ℕ) (expanding : Bool) → Check
  Base : Check
  WrittenBase : Check
  ChangedBase : Check
  UnaryOperand : UnOp → Check
  SideBeside : BinOp → (other : Expr) → Check
  Bound : Check
  Iterated : Check
  OldOf : BinOp → (added : Expr) → Check
  AddedTo : BinOp → (target : Expr) → Check
  ValueFor : Option Named → Check

-- what is wanted of a value that a local gets, by the context in which values are checked
abbrev pub wanted_by : Context → Option Named → Option Wanted
wanted_by values None = None
wanted_by values (Some named) = Some (record { name = named.name; set = values named.local })

-- what is reported of an expression that is checked
abbrev pub check_kinds : Rules → List Seen → (values : Context) → Check → Expr → List ReportKind
check_kinds rules seen values Unchecked e = []
check_kinds rules seen values Callee e = call_kinds seen e
check_kinds rules seen values (ArgumentOf callee position expanding) e = argument_kinds seen (checked_callee rules seen callee) position expanding e
check_kinds rules seen values Base e = index_kinds seen e
check_kinds rules seen values WrittenBase e = write_kinds seen e
check_kinds rules seen values ChangedBase e = compound_kinds seen e
check_kinds rules seen values (UnaryOperand op) e = unary_kinds seen op e
check_kinds rules seen values (SideBeside op other) e = side_kinds seen op e other
check_kinds rules seen values Bound e = bound_kinds seen e
check_kinds rules seen values Iterated e = iteration_kinds seen e
check_kinds rules seen values (OldOf op added) e = old_kinds seen e op added
check_kinds rules seen values (AddedTo op target) e = added_kinds seen target op e
check_kinds rules seen values (ValueFor named) e = value_kinds seen e (wanted_by values named)

-- the set with which the code is left to fail at an expression that is checked. A base that is read and written has a set by its field,
-- which stands elsewhere
abbrev pub check_left : Rules → List Seen → (values : Context) → Check → Expr → Term
check_left rules seen values Unchecked e = never
check_left rules seen values Callee e = left (call_kinds seen e) call_fail
check_left rules seen values (ArgumentOf callee position expanding) e = argument_left seen (checked_callee rules seen callee) position expanding e
check_left rules seen values Base e = left (index_kinds seen e) index_fail
check_left rules seen values WrittenBase e = left (write_kinds seen e) write_fail
check_left rules seen values ChangedBase e = never
check_left rules seen values (UnaryOperand op) e = left (unary_kinds seen op e) (unary_set op)
check_left rules seen values (SideBeside op other) e = side_left seen op e other
check_left rules seen values Bound e = left (bound_kinds seen e) arith_fail
check_left rules seen values Iterated e = left (iteration_kinds seen e) iter_fail
check_left rules seen values (OldOf op added) e = old_left seen e op added
check_left rules seen values (AddedTo op target) e = added_left seen target op e
check_left rules seen values (ValueFor named) e = value_left seen e (wanted_by values named)

-- the local that a target is, if it is one
abbrev pub named_with : List ℕ → Option ℕ → Option Named
named_with name None = None
named_with name (Some local) = Some (record { name = name; local = local })

abbrev pub named_of_target : Rules → Expr → Option Named
named_of_target rules (the_expr id span (NameExpr name)) = named_with name (local_named rules (the_expr id span (NameExpr name)))
named_of_target rules _ = None
