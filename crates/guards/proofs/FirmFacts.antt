-- No guarded local is loose.
use Rattle.std.proofs.Common.{◌≡◌, ℕ, ◌==◌, Bool, true, false, List, [], ◌∷◌, ◌++◌, refl, sym, ap, ◌∙◌}
use Rattle.std.specs.Prelude.{◌||◌, Option, Some, None, if◌then◌else◌, codes}
use Rattle.std.specs.Str.{bytes_eq}
use Rattle.std.proofs.lemmas.List.Folds.{list_any-append}
use Rattle.luau_scope.specs.Locals.{is_among}
use Rattle.luau_tree.specs.declared.names.BinOp.{BinOp}
use Rattle.luau_tree.specs.declared.names.BinOp.TheVariants.{Or, And, Less, Greater, LessEqual, GreaterEqual, NotEqual, Equal, Concat, Add, Sub, Mul, Div, FloorDiv, Mod, Pow}
use Rattle.luau_tree.specs.declared.names.UnOp.TheVariants.{Minus, Not, Length}
use Rattle.luau_tree.specs.Tree.{Expr, the_expr, no_exprs, more_exprs, ExprKind, NilExpr, TrueExpr, FalseExpr, NumberExpr, StrExpr, Vararg, FunctionExpr, NameExpr, Index, At, Call, Method, Paren, Unary, Binary, IfElse, TableExpr, Interp, Assert}
use Rattle.luau_run.specs.ReadFolder.{local_of}
use Rattle.report_rules.specs.Rules.{Rules, loose, local_named}
use Rattle.guards.proofs.PlainFacts.{same}
use Rattle.report_rules.specs.Guard.{Says, equals, kind_equals, firm_only, firm_local, is_type, kind_subject, kind_says, local_says, or_else, side_says, equality, said_of, named_local, joined_locals, guarded, guarded_in}

-- a local that there may be isn't loose
abbrev FirmOne : Rules → Option ℕ → Type 0
FirmOne rules None = Unit {0}
FirmOne rules (Some local) = loose rules local ≡ false

abbrev FirmSays : Rules → Option Says → Type 0
FirmSays rules None = Unit {0}
FirmSays rules (Some says) = loose rules says.local ≡ false

only_firm : (rules : Rules) (named : Option ℕ) → FirmOne rules (firm_only rules named)
only_firm rules None = tt
only_firm rules (Some local) = go (loose rules local) refl
  where
    go : (b : Bool) → loose rules local ≡ b → FirmOne rules (if b then None else Some local)
    go true e = tt
    go false e = e

if_firm : (rules : Rules) (b : Bool) (named : Option ℕ) → FirmOne rules named → FirmOne rules (if b then named else None)
if_firm rules true named f = f
if_firm rules false named f = tt

subject_firm : (rules : Rules) (e : Expr) → FirmOne rules (kind_subject rules e)
subject_firm rules (the_expr id span (Call callee no_exprs)) = tt
subject_firm rules (the_expr id span (Call callee (more_exprs e no_exprs))) = if_firm rules (is_type rules callee) (firm_local rules e) (only_firm rules (local_named rules e))
subject_firm rules (the_expr id span (Call callee (more_exprs e (more_exprs f rest)))) = tt
subject_firm rules (the_expr id span NilExpr) = tt
subject_firm rules (the_expr id span TrueExpr) = tt
subject_firm rules (the_expr id span FalseExpr) = tt
subject_firm rules (the_expr id span (NumberExpr text)) = tt
subject_firm rules (the_expr id span (StrExpr bytes)) = tt
subject_firm rules (the_expr id span Vararg) = tt
subject_firm rules (the_expr id span (FunctionExpr body)) = tt
subject_firm rules (the_expr id span (NameExpr name)) = tt
subject_firm rules (the_expr id span (Index base name)) = tt
subject_firm rules (the_expr id span (At base key)) = tt
subject_firm rules (the_expr id span (Method base name s args)) = tt
subject_firm rules (the_expr id span (Paren e)) = tt
subject_firm rules (the_expr id span (Unary op e)) = tt
subject_firm rules (the_expr id span (Binary op l r)) = tt
subject_firm rules (the_expr id span (IfElse arms last)) = tt
subject_firm rules (the_expr id span (TableExpr items)) = tt
subject_firm rules (the_expr id span (Interp texts parts)) = tt
subject_firm rules (the_expr id span (Assert e typ)) = tt

equals_firm : (rules : Rules) (local : ℕ) (kind : ExprKind) → loose rules local ≡ false → FirmSays rules (equals local kind)
equals_firm rules local NilExpr f = f
equals_firm rules local TrueExpr f = f
equals_firm rules local FalseExpr f = f
equals_firm rules local (StrExpr bytes) f = f
equals_firm rules local (NumberExpr text) f = f
equals_firm rules local Vararg f = tt
equals_firm rules local (FunctionExpr body) f = tt
equals_firm rules local (NameExpr name) f = tt
equals_firm rules local (Index base name) f = tt
equals_firm rules local (At base key) f = tt
equals_firm rules local (Call callee args) f = tt
equals_firm rules local (Method base name s args) f = tt
equals_firm rules local (Paren e) f = tt
equals_firm rules local (Unary op e) f = tt
equals_firm rules local (Binary op l r) f = tt
equals_firm rules local (IfElse arms last) f = tt
equals_firm rules local (TableExpr items) f = tt
equals_firm rules local (Interp texts parts) f = tt
equals_firm rules local (Assert e typ) f = tt

if_local : (b : Bool) (x y : Says) (local : ℕ) → x.local ≡ local → y.local ≡ local → (if b then x else y).local ≡ local
if_local true x y local e f = e
if_local false x y local e f = f

kind_local : (local : ℕ) (name : List ℕ) → (kind_equals local name).local ≡ local
kind_local local name =
    if_local (bytes_eq name (codes "nil")) _ _ local refl
    (if_local (bytes_eq name (codes "boolean")) _ _ local refl
    (if_local (bytes_eq name (codes "number")) _ _ local refl
    (if_local (bytes_eq name (codes "string")) _ _ local refl
    (if_local (bytes_eq name (codes "function")) _ _ local refl
    (if_local (bytes_eq name (codes "table")) _ _ local refl refl)))))

local_firm : (rules : Rules) (named : Option ℕ) (kind : ExprKind) → FirmOne rules named → FirmSays rules (local_says named kind)
local_firm rules None kind f = tt
local_firm rules (Some local) kind f = equals_firm rules local kind f

kind_firm : (rules : Rules) (named : Option ℕ) (kind : ExprKind) → FirmOne rules named → FirmSays rules (kind_says named kind)
kind_firm rules None kind f = tt
kind_firm rules (Some local) (StrExpr name) f = ap (loose rules) (kind_local local name) ∙ f
kind_firm rules (Some local) NilExpr f = tt
kind_firm rules (Some local) TrueExpr f = tt
kind_firm rules (Some local) FalseExpr f = tt
kind_firm rules (Some local) (NumberExpr text) f = tt
kind_firm rules (Some local) Vararg f = tt
kind_firm rules (Some local) (FunctionExpr body) f = tt
kind_firm rules (Some local) (NameExpr name) f = tt
kind_firm rules (Some local) (Index base name) f = tt
kind_firm rules (Some local) (At base key) f = tt
kind_firm rules (Some local) (Call callee args) f = tt
kind_firm rules (Some local) (Method base name s args) f = tt
kind_firm rules (Some local) (Paren e) f = tt
kind_firm rules (Some local) (Unary op e) f = tt
kind_firm rules (Some local) (Binary op l r) f = tt
kind_firm rules (Some local) (IfElse arms last) f = tt
kind_firm rules (Some local) (TableExpr items) f = tt
kind_firm rules (Some local) (Interp texts parts) f = tt
kind_firm rules (Some local) (Assert e typ) f = tt

or_firm : (rules : Rules) (a b : Option Says) → FirmSays rules a → FirmSays rules b → FirmSays rules (or_else a b)
or_firm rules (Some says) b p q = p
or_firm rules None b p q = q

side_firm : (rules : Rules) (subject e : Expr) → FirmSays rules (side_says rules subject e)
side_firm rules subject (the_expr id span kind) =
    or_firm rules (local_says (firm_local rules subject) kind) (kind_says (kind_subject rules subject) kind) (local_firm rules (firm_local rules subject) kind (only_firm rules (local_named rules subject)))
    (kind_firm rules (kind_subject rules subject) kind (subject_firm rules subject))

equality_firm : (rules : Rules) (l r : Expr) → FirmSays rules (equality rules l r)
equality_firm rules l r = or_firm rules (side_says rules l r) (side_says rules r l) (side_firm rules l r) (side_firm rules r l)

-- all of some locals aren't loose
abbrev AllFirm : Rules → List ℕ → Type 0
AllFirm rules locals = (local : ℕ) → is_among local locals ≡ true → loose rules local ≡ false

first_true : (b : Bool) → b || false ≡ true → b ≡ true
first_true true e = refl
first_true false e = e

one_firm : (rules : Rules) (other : ℕ) → loose rules other ≡ false → AllFirm rules (other ∷ [])
one_firm rules other f local e = ap (loose rules) (sym (same other local (first_true (other == local) e))) ∙ f

named_firm : (rules : Rules) (named : Option ℕ) → FirmOne rules named → AllFirm rules (named_local named)
named_firm rules None f local e = cc
named_firm rules (Some other) f local e = one_firm rules other f local e

said_firm : (rules : Rules) (s : Option Says) → FirmSays rules s → AllFirm rules (said_of s)
said_firm rules None f local e = cc
said_firm rules (Some says) f local e = one_firm rules says.local f local e

both_firm : (rules : Rules) (ls rs : List ℕ) → AllFirm rules ls → AllFirm rules rs → AllFirm rules (ls ++ rs)
both_firm rules ls rs p q local e = go (is_among local ls) refl (sym (list_any-append (λ m. m == local) ls rs) ∙ e)
  where
    go : (b : Bool) → is_among local ls ≡ b → is_among local ls || is_among local rs ≡ true → loose rules local ≡ false
    go true f t = p local f
    go false f t = q local (sym (ap (λ (c : Bool). c || is_among local rs) f) ∙ t)

none_firm : (rules : Rules) → AllFirm rules []
none_firm rules local e = cc

parts_firm : (rules : Rules) (op : BinOp) (ls es : List ℕ) → AllFirm rules ls → AllFirm rules es → AllFirm rules (joined_locals op ls es)
parts_firm rules And ls es p q = p
parts_firm rules Or ls es p q = p
parts_firm rules Equal ls es p q = q
parts_firm rules NotEqual ls es p q = q
parts_firm rules Less ls es p q = none_firm rules
parts_firm rules Greater ls es p q = none_firm rules
parts_firm rules LessEqual ls es p q = none_firm rules
parts_firm rules GreaterEqual ls es p q = none_firm rules
parts_firm rules Concat ls es p q = none_firm rules
parts_firm rules Add ls es p q = none_firm rules
parts_firm rules Sub ls es p q = none_firm rules
parts_firm rules Mul ls es p q = none_firm rules
parts_firm rules Div ls es p q = none_firm rules
parts_firm rules FloorDiv ls es p q = none_firm rules
parts_firm rules Mod ls es p q = none_firm rules
parts_firm rules Pow ls es p q = none_firm rules

mutual
  pub guarded_firm : (rules : Rules) (e : Expr) → AllFirm rules (guarded rules e)
  guarded_firm rules (the_expr id span kind) = guarded_in_firm rules id kind

  guarded_in_firm : (rules : Rules) (id : ℕ) (kind : ExprKind) → AllFirm rules (guarded_in rules id kind)
  guarded_in_firm rules id (NameExpr name) = named_firm rules (firm_only rules (local_of (rules.reading.use_of id))) (only_firm rules (local_of (rules.reading.use_of id)))
  guarded_in_firm rules id (Paren e) = guarded_firm rules e
  guarded_in_firm rules id (Unary Not e) = guarded_firm rules e
  guarded_in_firm rules id (Unary Minus e) = none_firm rules
  guarded_in_firm rules id (Unary Length e) = none_firm rules
  guarded_in_firm rules id (Binary op l r) =
      parts_firm rules op (guarded rules l ++ guarded rules r) (said_of (equality rules l r)) (both_firm rules (guarded rules l) (guarded rules r) (guarded_firm rules l) (guarded_firm rules r))
      (said_firm rules (equality rules l r) (equality_firm rules l r))
  guarded_in_firm rules id NilExpr = none_firm rules
  guarded_in_firm rules id TrueExpr = none_firm rules
  guarded_in_firm rules id FalseExpr = none_firm rules
  guarded_in_firm rules id (NumberExpr text) = none_firm rules
  guarded_in_firm rules id (StrExpr bytes) = none_firm rules
  guarded_in_firm rules id Vararg = none_firm rules
  guarded_in_firm rules id (FunctionExpr body) = none_firm rules
  guarded_in_firm rules id (Index base name) = none_firm rules
  guarded_in_firm rules id (At base key) = none_firm rules
  guarded_in_firm rules id (Call callee args) = none_firm rules
  guarded_in_firm rules id (Method base name s args) = none_firm rules
  guarded_in_firm rules id (IfElse arms last) = none_firm rules
  guarded_in_firm rules id (TableExpr items) = none_firm rules
  guarded_in_firm rules id (Interp texts parts) = none_firm rules
  guarded_in_firm rules id (Assert e typ) = none_firm rules
