-- What a condition may give where each local keeps its value while the condition is evaluated. Constants, truth, equality and
-- `type` are the run's own; a part of any other form may give any value.
use Rattle.std.specs.Prelude.{◌≡◌, ⊤, ◌⊎◌, ℕ, Bool, true, false, not, List, Option, Some, None}
use Rattle.luau_tree.specs.declared.names.BinOp.{BinOp}
use Rattle.luau_tree.specs.declared.names.BinOp.TheVariants.{Or, And, Equal, NotEqual}
use Rattle.luau_tree.specs.declared.names.UnOp.TheVariants.{Not}
use Rattle.luau_tree.specs.Tree.{Expr, the_expr, no_exprs, more_exprs, ExprKind, NilExpr, TrueExpr, FalseExpr, NumberExpr, StrExpr, NameExpr, Call, Paren, Unary, Binary}
use Rattle.luau_run.specs.Calls.{type_name}
use Rattle.luau_run.specs.Machine.{State, Gave}
use Rattle.luau_run.specs.Operators.{is_true, equal}
use Rattle.luau_run.specs.ReadFolder.{local_of}
use Rattle.luau_values.specs.Value.{Value, Nil, Truth, Num, Str}
use Rattle.report_rules.specs.Guard.{firm_only, is_type}
use Rattle.report_rules.specs.Rules.{Rules}

-- equality of two values may give a truth, in some state of a run
abbrev pub MayEqual : Value → Value → Bool → Type 0
MayEqual a b same = (s : State) × (t : State) × (equal a b s ≡ Gave same t)

-- `type` of a value may give a value, in some state of a run
abbrev pub MayName : Value → Value → Type 0
MayName v name = (s : State) × (t : State) × (type_name v s ≡ Gave name t)

-- the value that a local holds; of no local, any
abbrev pub IsHeld : (ℕ → Value) → Option ℕ → Value → Type 0
IsHeld held (Some local) v = v ≡ held local
IsHeld held None v = ⊤

-- what a binary operation may give, by the value of its left side and what its right side may give
abbrev pub MayJoin : BinOp → Value → (Value → Type 0) → Value → Type 0
MayJoin And a right v = ((is_true a ≡ true) × right v) ⊎ ((is_true a ≡ false) × (v ≡ a))
MayJoin Or a right v = ((is_true a ≡ false) × right v) ⊎ ((is_true a ≡ true) × (v ≡ a))
MayJoin Equal a right v = (b : Value) × (same : Bool) × right b × MayEqual a b same × (v ≡ Truth same)
MayJoin NotEqual a right v = (b : Value) × (same : Bool) × right b × MayEqual a b same × (v ≡ Truth (not same))
MayJoin _ a right v = ⊤

abbrev mutual
  -- what an expression may give
  pub MayGive : Rules → (ℕ → Value) → Expr → Value → Type 0
  MayGive rules held (the_expr id span kind) v = MayGiveKind rules held id kind v

  pub MayGiveKind : Rules → (ℕ → Value) → ℕ → ExprKind → Value → Type 0
  MayGiveKind rules held id NilExpr v = v ≡ Nil
  MayGiveKind rules held id TrueExpr v = v ≡ Truth true
  MayGiveKind rules held id FalseExpr v = v ≡ Truth false
  MayGiveKind rules held id (NumberExpr text) v = (digits : List ℕ) × (v ≡ Num digits)
  MayGiveKind rules held id (StrExpr bytes) v = v ≡ Str bytes
  MayGiveKind rules held id (NameExpr name) v = IsHeld held (firm_only rules (local_of (rules.reading.use_of id))) v
  MayGiveKind rules held id (Call callee (more_exprs e no_exprs)) v = is_type rules callee ≡ true → (u : Value) × MayGive rules held e u × MayName u v
  MayGiveKind rules held id (Paren e) v = MayGive rules held e v
  MayGiveKind rules held id (Unary Not e) v = (u : Value) × MayGive rules held e u × (v ≡ Truth (not (is_true u)))
  MayGiveKind rules held id (Binary op left right) v = (a : Value) × MayGive rules held left a × MayJoin op a (λ b. MayGive rules held right b) v
  MayGiveKind rules held id _ v = ⊤
