-- What a condition says of a local has no rows, or the row of all tables alone.
use Rattle.std.proofs.Common.{◌≡◌, ℕ, ◌==◌, Bool, true, false, not, List, Option, Some, None, if◌then◌else◌, codes, refl}
use Rattle.std.specs.Prelude.{⊤}
use Rattle.std.specs.Str.{bytes_eq}
use Rattle.luau_tree.specs.declared.names.BinOp.{BinOp}
use Rattle.luau_tree.specs.declared.names.BinOp.TheVariants.{Or, And, Less, Greater, LessEqual, GreaterEqual, NotEqual, Equal, Concat, Add, Sub, Mul, Div, FloorDiv, Mod, Pow}
use Rattle.luau_tree.specs.declared.names.UnOp.TheVariants.{Minus, Not, Length}
use Rattle.luau_tree.specs.Tree.{Expr, the_expr, ExprKind, NilExpr, TrueExpr, FalseExpr, NumberExpr, StrExpr, Vararg, FunctionExpr, NameExpr, Index, At, Call, Method, Paren, Unary, Binary, IfElse, TableExpr, Interp, Assert}
use Rattle.luau_run.specs.ReadFolder.{local_of}
use Rattle.type_arena.specs.Term.{Term, term, no_rows, more_rows, no_fields, more_fields}
use Rattle.type_normal.specs.Operations.{union, meet, is_flat}
use Rattle.type_normal.specs.Kinds.{unknown, falsy, truthy}
use Rattle.report_rules.specs.Rules.{Rules}
use Rattle.report_rules.specs.Guard.{Says, equals, kind_equals, firm_only, firm_local, kind_subject, kind_says, local_says, or_else, side_says, equality, said, name_says, joined_guard, guard, guard_of_kind}

flat_union : (a b : Term) → is_flat a ≡ true → is_flat b ≡ true → is_flat (union a b) ≡ true
flat_union (term f no_rows) (term g no_rows) h k = refl
flat_union (term f no_rows) (term g (more_rows false no_fields no_rows)) h k = refl
flat_union (term f (more_rows false no_fields no_rows)) (term g no_rows) h k = refl
flat_union (term f (more_rows false no_fields no_rows)) (term g (more_rows false no_fields no_rows)) h k = refl
flat_union (term f (more_rows false no_fields (more_rows b fs r))) t h k = cc
flat_union (term f (more_rows false (more_fields p u fs) r)) t h k = cc
flat_union (term f (more_rows true fs r)) t h k = cc
flat_union t (term f (more_rows false no_fields (more_rows b fs r))) h k = cc
flat_union t (term f (more_rows false (more_fields p u fs) r)) h k = cc
flat_union t (term f (more_rows true fs r)) h k = cc

flat_meet : (a b : Term) → is_flat a ≡ true → is_flat b ≡ true → is_flat (meet a b) ≡ true
flat_meet (term f no_rows) (term g no_rows) h k = refl
flat_meet (term f no_rows) (term g (more_rows false no_fields no_rows)) h k = refl
flat_meet (term f (more_rows false no_fields no_rows)) (term g no_rows) h k = refl
flat_meet (term f (more_rows false no_fields no_rows)) (term g (more_rows false no_fields no_rows)) h k = refl
flat_meet (term f (more_rows false no_fields (more_rows b fs r))) t h k = cc
flat_meet (term f (more_rows false (more_fields p u fs) r)) t h k = cc
flat_meet (term f (more_rows true fs r)) t h k = cc
flat_meet t (term f (more_rows false no_fields (more_rows b fs r))) h k = cc
flat_meet t (term f (more_rows false (more_fields p u fs) r)) h k = cc
flat_meet t (term f (more_rows true fs r)) h k = cc

-- a test says flat types
abbrev FlatSays : Says → Type 0
FlatSays says = (is_flat says.when_true ≡ true) × (is_flat says.when_false ≡ true)

abbrev FlatMaybe : Option Says → Type 0
FlatMaybe None = ⊤
FlatMaybe (Some says) = FlatSays says

either_flat : (b : Bool) (s t : Term) → is_flat s ≡ true → is_flat t ≡ true → is_flat (if b then s else t) ≡ true
either_flat true s t h k = h
either_flat false s t h k = k

either_says : (b : Bool) (s t : Says) → FlatSays s → FlatSays t → FlatSays (if b then s else t)
either_says true s t h k = h
either_says false s t h k = k

or_else_flat : (a b : Option Says) → FlatMaybe a → FlatMaybe b → FlatMaybe (or_else a b)
or_else_flat (Some s) b h k = h
or_else_flat None b h k = k

equals_flat : (l : ℕ) (kind : ExprKind) → FlatMaybe (equals l kind)
equals_flat l NilExpr = (refl, refl)
equals_flat l TrueExpr = (refl, refl)
equals_flat l FalseExpr = (refl, refl)
equals_flat l (NumberExpr text) = (refl, refl)
equals_flat l (StrExpr bytes) = (refl, refl)
equals_flat l Vararg = tt
equals_flat l (FunctionExpr body) = tt
equals_flat l (NameExpr name) = tt
equals_flat l (Index base name) = tt
equals_flat l (At base key) = tt
equals_flat l (Call callee args) = tt
equals_flat l (Method base name span args) = tt
equals_flat l (Paren e) = tt
equals_flat l (Unary op e) = tt
equals_flat l (Binary op left right) = tt
equals_flat l (IfElse arms last) = tt
equals_flat l (TableExpr items) = tt
equals_flat l (Interp texts parts) = tt
equals_flat l (Assert e syntax) = tt

kind_equals_flat : (l : ℕ) (name : List ℕ) → FlatSays (kind_equals l name)
kind_equals_flat l name =
    either_says (bytes_eq name (codes "nil")) _ _ (refl, refl)
    (either_says (bytes_eq name (codes "boolean")) _ _ (refl, refl)
    (either_says (bytes_eq name (codes "number")) _ _ (refl, refl)
    (either_says (bytes_eq name (codes "string")) _ _ (refl, refl)
    (either_says (bytes_eq name (codes "function")) _ _ (refl, refl) (either_says (bytes_eq name (codes "table")) _ _ (refl, refl) (refl, refl))))))

kind_says_flat : (l : Option ℕ) (kind : ExprKind) → FlatMaybe (kind_says l kind)
kind_says_flat None kind = tt
kind_says_flat (Some l) NilExpr = tt
kind_says_flat (Some l) TrueExpr = tt
kind_says_flat (Some l) FalseExpr = tt
kind_says_flat (Some l) (NumberExpr text) = tt
kind_says_flat (Some l) (StrExpr bytes) = kind_equals_flat l bytes
kind_says_flat (Some l) Vararg = tt
kind_says_flat (Some l) (FunctionExpr body) = tt
kind_says_flat (Some l) (NameExpr name) = tt
kind_says_flat (Some l) (Index base name) = tt
kind_says_flat (Some l) (At base key) = tt
kind_says_flat (Some l) (Call callee args) = tt
kind_says_flat (Some l) (Method base name span args) = tt
kind_says_flat (Some l) (Paren e) = tt
kind_says_flat (Some l) (Unary op e) = tt
kind_says_flat (Some l) (Binary op left right) = tt
kind_says_flat (Some l) (IfElse arms last) = tt
kind_says_flat (Some l) (TableExpr items) = tt
kind_says_flat (Some l) (Interp texts parts) = tt
kind_says_flat (Some l) (Assert e syntax) = tt

local_says_flat : (l : Option ℕ) (kind : ExprKind) → FlatMaybe (local_says l kind)
local_says_flat None kind = tt
local_says_flat (Some l) kind = equals_flat l kind

side_says_flat : (rules : Rules) (e f : Expr) → FlatMaybe (side_says rules e f)
side_says_flat rules e (the_expr id span kind) =
    or_else_flat (local_says (firm_local rules e) kind) (kind_says (kind_subject rules e) kind) (local_says_flat (firm_local rules e) kind)
    (kind_says_flat (kind_subject rules e) kind)

equality_flat : (rules : Rules) (e f : Expr) → FlatMaybe (equality rules e f)
equality_flat rules e f = or_else_flat (side_says rules e f) (side_says rules f e) (side_says_flat rules e f) (side_says_flat rules f e)

said_flat : (truth : Bool) (l : ℕ) (says : Option Says) → FlatMaybe says → is_flat (said truth l says) ≡ true
said_flat truth l None h = refl
said_flat truth l (Some s) h =
    either_flat (s.local == l) (if truth then s.when_true else s.when_false) unknown (either_flat truth s.when_true s.when_false h.0 h.1) refl

name_flat : (truth : Bool) (l : ℕ) (named : Option ℕ) → is_flat (name_says truth l named) ≡ true
name_flat truth l None = refl
name_flat truth l (Some named) =
    either_flat (named == l) (if truth then truthy else falsy) unknown (either_flat truth truthy falsy refl refl) refl

joined_flat : (op : BinOp) (truth : Bool) (l r e n : Term) → is_flat l ≡ true → is_flat r ≡ true → is_flat e ≡ true → is_flat n ≡ true
    → is_flat (joined_guard op truth l r e n) ≡ true
joined_flat And true l r e n h k i j = flat_meet l r h k
joined_flat And false l r e n h k i j = flat_union l r h k
joined_flat Or true l r e n h k i j = flat_union l r h k
joined_flat Or false l r e n h k i j = flat_meet l r h k
joined_flat Equal truth l r e n h k i j = i
joined_flat NotEqual truth l r e n h k i j = j
joined_flat Less truth l r e n h k i j = refl
joined_flat Greater truth l r e n h k i j = refl
joined_flat LessEqual truth l r e n h k i j = refl
joined_flat GreaterEqual truth l r e n h k i j = refl
joined_flat Concat truth l r e n h k i j = refl
joined_flat Add truth l r e n h k i j = refl
joined_flat Sub truth l r e n h k i j = refl
joined_flat Mul truth l r e n h k i j = refl
joined_flat Div truth l r e n h k i j = refl
joined_flat FloorDiv truth l r e n h k i j = refl
joined_flat Mod truth l r e n h k i j = refl
joined_flat Pow truth l r e n h k i j = refl

mutual
  pub guard_flat : (rules : Rules) (e : Expr) (truth : Bool) (x : ℕ) → is_flat (guard rules e truth x) ≡ true
  guard_flat rules (the_expr id span kind) truth x = kind_flat rules id kind truth x

  kind_flat : (rules : Rules) (id : ℕ) (kind : ExprKind) (truth : Bool) (x : ℕ) → is_flat (guard_of_kind rules id kind truth x) ≡ true
  kind_flat rules id (NameExpr name) truth x = name_flat truth x (firm_only rules (local_of (rules.reading.use_of id)))
  kind_flat rules id (Paren e) truth x = guard_flat rules e truth x
  kind_flat rules id (Unary Not e) truth x = guard_flat rules e (not truth) x
  kind_flat rules id (Unary Minus e) truth x = refl
  kind_flat rules id (Unary Length e) truth x = refl
  kind_flat rules id (Binary op left right) truth x =
      joined_flat op truth (guard rules left truth x) (guard rules right truth x) (said truth x (equality rules left right))
      (said (not truth) x (equality rules left right)) (guard_flat rules left truth x) (guard_flat rules right truth x)
      (said_flat truth x (equality rules left right) (equality_flat rules left right))
      (said_flat (not truth) x (equality rules left right) (equality_flat rules left right))
  kind_flat rules id NilExpr truth x = refl
  kind_flat rules id TrueExpr truth x = refl
  kind_flat rules id FalseExpr truth x = refl
  kind_flat rules id (NumberExpr text) truth x = refl
  kind_flat rules id (StrExpr bytes) truth x = refl
  kind_flat rules id Vararg truth x = refl
  kind_flat rules id (FunctionExpr body) truth x = refl
  kind_flat rules id (Index base name) truth x = refl
  kind_flat rules id (At base key) truth x = refl
  kind_flat rules id (Call callee args) truth x = refl
  kind_flat rules id (Method base name span args) truth x = refl
  kind_flat rules id (IfElse arms last) truth x = refl
  kind_flat rules id (TableExpr items) truth x = refl
  kind_flat rules id (Interp texts parts) truth x = refl
  kind_flat rules id (Assert e syntax) truth x = refl
