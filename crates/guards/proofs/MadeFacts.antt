-- The lists that are made for a condition give what its guard says, and have the guarded locals.
use Rattle.std.proofs.Common.{◌≡◌, ℕ, ◌≤◌, ◌==◌, Bool, true, false, List, [], ◌∷◌, ◌++◌, refl, sym, ◌∙◌, arith}
use Rattle.std.specs.Prelude.{◌||◌, not, Option, Some, None, if◌then◌else◌, codes}
use Rattle.std.proofs.lemmas.List.Folds.{list_any-append}
use Rattle.std.specs.Str.{bytes_eq}
use Rattle.luau_scope.specs.Locals.{is_among}
use Rattle.luau_tree.specs.declared.names.BinOp.{BinOp}
use Rattle.luau_tree.specs.declared.names.BinOp.TheVariants.{Or, And, Less, Greater, LessEqual, GreaterEqual, NotEqual, Equal, Concat, Add, Sub, Mul, Div, FloorDiv, Mod, Pow}
use Rattle.luau_tree.specs.declared.names.UnOp.TheVariants.{Minus, Not, Length}
use Rattle.luau_tree.specs.Tree.{Expr, the_expr, ExprKind, NilExpr, TrueExpr, FalseExpr, NumberExpr, StrExpr, Vararg, FunctionExpr, NameExpr, Index, At, Call, Method, Paren, Unary, Binary, IfElse, TableExpr, Interp, Assert}
use Rattle.luau_run.specs.ReadFolder.{local_of}
use Rattle.type_arena.specs.Term.{Term}
use Rattle.report_rules.specs.Rules.{Rules}
use Rattle.report_rules.specs.Guard.{Says, equals, kind_equals, firm_only, firm_local, kind_subject, kind_says, local_says, or_else, side_says, equality, said, name_says, joined_guard, guard, guard_of_kind, said_of, named_local, joined_locals, guarded, guarded_in}
use Rattle.guards.specs.Lists.{together, type_in, is_listed}
use Rattle.guards.specs.Made.{name_list, test_list, joins_of, compared, join_where, sides_list, made, made_in}
use Rattle.guards.specs.declared.guarding.Joins.{Joins}
use Rattle.guards.specs.declared.joining.Join.TheVariants.{Both, Either}
use Rattle.guards.proofs.PlainFacts.{IsPlain, Orderly, joined_says, joined_has, joined_orderly}

abbrev Entries : Type 0
Entries = List (ℕ × Term)

-- ## What tests say is plain

-- what a test says is plain, both ways
pub record SaysPlain (says : Says) : Type 0 where
  pub when_true : IsPlain says.when_true
  pub when_false : IsPlain says.when_false

abbrev MaybePlain : Option Says → Type 0
MaybePlain None = Unit {0}
MaybePlain (Some says) = SaysPlain says

equals_plain : (local : ℕ) (kind : ExprKind) → MaybePlain (equals local kind)
equals_plain local NilExpr = record { when_true = record { flat = refl; normal = refl }; when_false = record { flat = refl; normal = refl } }
equals_plain local TrueExpr = record { when_true = record { flat = refl; normal = refl }; when_false = record { flat = refl; normal = refl } }
equals_plain local FalseExpr = record { when_true = record { flat = refl; normal = refl }; when_false = record { flat = refl; normal = refl } }
equals_plain local (StrExpr bytes) = record { when_true = record { flat = refl; normal = refl }; when_false = record { flat = refl; normal = refl } }
equals_plain local (NumberExpr text) = record { when_true = record { flat = refl; normal = refl }; when_false = record { flat = refl; normal = refl } }
equals_plain local Vararg = tt
equals_plain local (FunctionExpr body) = tt
equals_plain local (NameExpr name) = tt
equals_plain local (Index base name) = tt
equals_plain local (At base key) = tt
equals_plain local (Call callee args) = tt
equals_plain local (Method base name span args) = tt
equals_plain local (Paren e) = tt
equals_plain local (Unary op e) = tt
equals_plain local (Binary op l r) = tt
equals_plain local (IfElse arms last) = tt
equals_plain local (TableExpr items) = tt
equals_plain local (Interp texts parts) = tt
equals_plain local (Assert e typ) = tt

if_plain : (b : Bool) (x y : Says) → SaysPlain x → SaysPlain y → SaysPlain (if b then x else y)
if_plain true x y p q = p
if_plain false x y p q = q

kind_plain : (local : ℕ) (name : List ℕ) → SaysPlain (kind_equals local name)
kind_plain local name =
    if_plain (bytes_eq name (codes "nil")) _ _ (record { when_true = record { flat = refl; normal = refl }; when_false = record { flat = refl; normal = refl } })
    (if_plain (bytes_eq name (codes "boolean")) _ _ (record { when_true = record { flat = refl; normal = refl }; when_false = record { flat = refl; normal = refl } })
    (if_plain (bytes_eq name (codes "number")) _ _ (record { when_true = record { flat = refl; normal = refl }; when_false = record { flat = refl; normal = refl } })
    (if_plain (bytes_eq name (codes "string")) _ _ (record { when_true = record { flat = refl; normal = refl }; when_false = record { flat = refl; normal = refl } })
    (if_plain (bytes_eq name (codes "function")) _ _ (record { when_true = record { flat = refl; normal = refl }; when_false = record { flat = refl; normal = refl } })
    (if_plain (bytes_eq name (codes "table")) _ _ (record { when_true = record { flat = refl; normal = refl }; when_false = record { flat = refl; normal = refl } })
    (record { when_true = record { flat = refl; normal = refl }; when_false = record { flat = refl; normal = refl } }))))))

local_plain : (named : Option ℕ) (kind : ExprKind) → MaybePlain (local_says named kind)
local_plain (Some local) kind = equals_plain local kind
local_plain None kind = tt

kind_says_plain : (named : Option ℕ) (kind : ExprKind) → MaybePlain (kind_says named kind)
kind_says_plain None kind = tt
kind_says_plain (Some local) (StrExpr name) = kind_plain local name
kind_says_plain (Some local) NilExpr = tt
kind_says_plain (Some local) TrueExpr = tt
kind_says_plain (Some local) FalseExpr = tt
kind_says_plain (Some local) (NumberExpr text) = tt
kind_says_plain (Some local) Vararg = tt
kind_says_plain (Some local) (FunctionExpr body) = tt
kind_says_plain (Some local) (NameExpr name) = tt
kind_says_plain (Some local) (Index base name) = tt
kind_says_plain (Some local) (At base key) = tt
kind_says_plain (Some local) (Call callee args) = tt
kind_says_plain (Some local) (Method base name span args) = tt
kind_says_plain (Some local) (Paren e) = tt
kind_says_plain (Some local) (Unary op e) = tt
kind_says_plain (Some local) (Binary op l r) = tt
kind_says_plain (Some local) (IfElse arms last) = tt
kind_says_plain (Some local) (TableExpr items) = tt
kind_says_plain (Some local) (Interp texts parts) = tt
kind_says_plain (Some local) (Assert e typ) = tt

or_plain : (a b : Option Says) → MaybePlain a → MaybePlain b → MaybePlain (or_else a b)
or_plain (Some says) b p q = p
or_plain None b p q = q

side_plain : (rules : Rules) (subject e : Expr) → MaybePlain (side_says rules subject e)
side_plain rules subject (the_expr id span kind) =
    or_plain (local_says (firm_local rules subject) kind) (kind_says (kind_subject rules subject) kind) (local_plain (firm_local rules subject) kind) (kind_says_plain (kind_subject rules subject) kind)

equality_plain : (rules : Rules) (l r : Expr) → MaybePlain (equality rules l r)
equality_plain rules l r = or_plain (side_says rules l r) (side_says rules r l) (side_plain rules l r) (side_plain rules r l)

-- ## Lists are orderly

one_orderly : (m local : ℕ) (t : Term) → m ≤ local → IsPlain t → Orderly m ((local, t) ∷ [])
one_orderly m local t l p = (l, p, tt)

zero_le : (n : ℕ) → 0 ≤ n
zero_le n = omega arith

test_orderly : (truth : Bool) (s : Option Says) → MaybePlain s → Orderly 0 (test_list truth s)
test_orderly truth None p = tt
test_orderly true (Some says) p = (zero_le says.local, p.when_true, tt)
test_orderly false (Some says) p = (zero_le says.local, p.when_false, tt)

name_orderly : (truth : Bool) (named : Option ℕ) → Orderly 0 (name_list truth named)
name_orderly truth None = tt
name_orderly true (Some local) = (zero_le local, record { flat = refl; normal = refl }, tt)
name_orderly false (Some local) = (zero_le local, record { flat = refl; normal = refl }, tt)

parts_orderly : (o : Option Joins) (truth : Bool) (l r e : Entries) → Orderly 0 l → Orderly 0 r → Orderly 0 e → Orderly 0 (sides_list o truth l r e)
parts_orderly (Some joins) truth l r e a b c = joined_orderly (join_where truth joins) 0 l r a b
parts_orderly None truth l r e a b c = c

compared_orderly : (op : BinOp) (truth : Bool) (s : Option Says) → MaybePlain s → Orderly 0 (compared op truth s)
compared_orderly Equal truth s p = test_orderly truth s p
compared_orderly NotEqual truth s p = test_orderly (not truth) s p
compared_orderly And truth s p = tt
compared_orderly Or truth s p = tt
compared_orderly Less truth s p = tt
compared_orderly Greater truth s p = tt
compared_orderly LessEqual truth s p = tt
compared_orderly GreaterEqual truth s p = tt
compared_orderly Concat truth s p = tt
compared_orderly Add truth s p = tt
compared_orderly Sub truth s p = tt
compared_orderly Mul truth s p = tt
compared_orderly Div truth s p = tt
compared_orderly FloorDiv truth s p = tt
compared_orderly Mod truth s p = tt
compared_orderly Pow truth s p = tt

mutual
  pub made_orderly : (rules : Rules) (e : Expr) (truth : Bool) → Orderly 0 (made rules e truth)
  made_orderly rules (the_expr id span kind) truth = made_in_orderly rules id kind truth

  pub made_in_orderly : (rules : Rules) (id : ℕ) (kind : ExprKind) (truth : Bool) → Orderly 0 (made_in rules id kind truth)
  made_in_orderly rules id (NameExpr name) truth = name_orderly truth (firm_only rules (local_of (rules.reading.use_of id)))
  made_in_orderly rules id (Paren e) truth = made_orderly rules e truth
  made_in_orderly rules id (Unary Not e) truth = made_orderly rules e (not truth)
  made_in_orderly rules id (Unary Minus e) truth = tt
  made_in_orderly rules id (Unary Length e) truth = tt
  made_in_orderly rules id (Binary op l r) truth =
      parts_orderly (joins_of op) truth (made rules l truth) (made rules r truth) (compared op truth (equality rules l r)) (made_orderly rules l truth) (made_orderly rules r truth)
      (compared_orderly op truth (equality rules l r) (equality_plain rules l r))
  made_in_orderly rules id NilExpr truth = tt
  made_in_orderly rules id TrueExpr truth = tt
  made_in_orderly rules id FalseExpr truth = tt
  made_in_orderly rules id (NumberExpr text) truth = tt
  made_in_orderly rules id (StrExpr bytes) truth = tt
  made_in_orderly rules id Vararg truth = tt
  made_in_orderly rules id (FunctionExpr body) truth = tt
  made_in_orderly rules id (Index base name) truth = tt
  made_in_orderly rules id (At base key) truth = tt
  made_in_orderly rules id (Call callee args) truth = tt
  made_in_orderly rules id (Method base name span args) truth = tt
  made_in_orderly rules id (IfElse arms last) truth = tt
  made_in_orderly rules id (TableExpr items) truth = tt
  made_in_orderly rules id (Interp texts parts) truth = tt
  made_in_orderly rules id (Assert e typ) truth = tt

-- ## They say what the guard says

test_says : (truth : Bool) (local : ℕ) (s : Option Says) → type_in (test_list truth s) local ≡ said truth local s
test_says truth local None = refl
test_says truth local (Some says) = refl

name_says_too : (truth : Bool) (local : ℕ) (named : Option ℕ) → type_in (name_list truth named) local ≡ name_says truth local named
name_says_too truth local None = refl
name_says_too truth local (Some other) = refl

both_same : {X Y Z : Type 0} (f : X → Y → Z) (a a' : X) (b b' : Y) → a ≡ a' → b ≡ b' → f a b ≡ f a' b'
both_same f a a' b b' e g = λ i. f (e i) (g i)

parts_say : (op : BinOp) (truth : Bool) (local : ℕ) (l r : Entries) (s : Option Says) (a b : Term) → Orderly 0 l → Orderly 0 r → type_in l local ≡ a → type_in r local ≡ b
    → type_in (sides_list (joins_of op) truth l r (compared op truth s)) local ≡ joined_guard op truth a b (said truth local s) (said (not truth) local s)
parts_say And true local l r s a b p q f g = joined_says Both local 0 l p 0 r q ∙ both_same (together Both) _ _ _ _ f g
parts_say And false local l r s a b p q f g = joined_says Either local 0 l p 0 r q ∙ both_same (together Either) _ _ _ _ f g
parts_say Or true local l r s a b p q f g = joined_says Either local 0 l p 0 r q ∙ both_same (together Either) _ _ _ _ f g
parts_say Or false local l r s a b p q f g = joined_says Both local 0 l p 0 r q ∙ both_same (together Both) _ _ _ _ f g
parts_say Equal truth local l r s a b p q f g = test_says truth local s
parts_say NotEqual truth local l r s a b p q f g = test_says (not truth) local s
parts_say Less truth local l r s a b p q f g = refl
parts_say Greater truth local l r s a b p q f g = refl
parts_say LessEqual truth local l r s a b p q f g = refl
parts_say GreaterEqual truth local l r s a b p q f g = refl
parts_say Concat truth local l r s a b p q f g = refl
parts_say Add truth local l r s a b p q f g = refl
parts_say Sub truth local l r s a b p q f g = refl
parts_say Mul truth local l r s a b p q f g = refl
parts_say Div truth local l r s a b p q f g = refl
parts_say FloorDiv truth local l r s a b p q f g = refl
parts_say Mod truth local l r s a b p q f g = refl
parts_say Pow truth local l r s a b p q f g = refl

mutual
  pub made_says : (rules : Rules) (e : Expr) (truth : Bool) (local : ℕ) → type_in (made rules e truth) local ≡ guard rules e truth local
  made_says rules (the_expr id span kind) truth local = made_in_says rules id kind truth local

  pub made_in_says : (rules : Rules) (id : ℕ) (kind : ExprKind) (truth : Bool) (local : ℕ) → type_in (made_in rules id kind truth) local ≡ guard_of_kind rules id kind truth local
  made_in_says rules id (NameExpr name) truth local = name_says_too truth local (firm_only rules (local_of (rules.reading.use_of id)))
  made_in_says rules id (Paren e) truth local = made_says rules e truth local
  made_in_says rules id (Unary Not e) truth local = made_says rules e (not truth) local
  made_in_says rules id (Unary Minus e) truth local = refl
  made_in_says rules id (Unary Length e) truth local = refl
  made_in_says rules id (Binary op l r) truth local =
      parts_say op truth local (made rules l truth) (made rules r truth) (equality rules l r) _ _ (made_orderly rules l truth) (made_orderly rules r truth) (made_says rules l truth local) (made_says rules r truth local)
  made_in_says rules id NilExpr truth local = refl
  made_in_says rules id TrueExpr truth local = refl
  made_in_says rules id FalseExpr truth local = refl
  made_in_says rules id (NumberExpr text) truth local = refl
  made_in_says rules id (StrExpr bytes) truth local = refl
  made_in_says rules id Vararg truth local = refl
  made_in_says rules id (FunctionExpr body) truth local = refl
  made_in_says rules id (Index base name) truth local = refl
  made_in_says rules id (At base key) truth local = refl
  made_in_says rules id (Call callee args) truth local = refl
  made_in_says rules id (Method base name span args) truth local = refl
  made_in_says rules id (IfElse arms last) truth local = refl
  made_in_says rules id (TableExpr items) truth local = refl
  made_in_says rules id (Interp texts parts) truth local = refl
  made_in_says rules id (Assert e typ) truth local = refl

-- ## They have the guarded locals

test_has : (truth : Bool) (local : ℕ) (s : Option Says) → is_listed (test_list truth s) local ≡ is_among local (said_of s)
test_has truth local None = refl
test_has truth local (Some says) = refl

name_has : (truth : Bool) (local : ℕ) (named : Option ℕ) → is_listed (name_list truth named) local ≡ is_among local (named_local named)
name_has truth local None = refl
name_has truth local (Some other) = refl

two_have : (local : ℕ) (l r : Entries) (ls rs : List ℕ) → is_listed l local ≡ is_among local ls → is_listed r local ≡ is_among local rs → is_listed l local || is_listed r local ≡ is_among local (ls ++ rs)
two_have local l r ls rs e f = both_same (λ (a b : Bool). a || b) _ _ _ _ e f ∙ sym (list_any-append (λ m. m == local) ls rs)

parts_have : (op : BinOp) (truth : Bool) (local : ℕ) (l r : Entries) (s : Option Says) (ls rs : List ℕ) → is_listed l local ≡ is_among local ls → is_listed r local ≡ is_among local rs
    → is_listed (sides_list (joins_of op) truth l r (compared op truth s)) local ≡ is_among local (joined_locals op (ls ++ rs) (said_of s))
parts_have And true local l r s ls rs f g = joined_has Both local l r ∙ two_have local l r ls rs f g
parts_have And false local l r s ls rs f g = joined_has Either local l r ∙ two_have local l r ls rs f g
parts_have Or true local l r s ls rs f g = joined_has Either local l r ∙ two_have local l r ls rs f g
parts_have Or false local l r s ls rs f g = joined_has Both local l r ∙ two_have local l r ls rs f g
parts_have Equal truth local l r s ls rs f g = test_has truth local s
parts_have NotEqual truth local l r s ls rs f g = test_has (not truth) local s
parts_have Less truth local l r s ls rs f g = refl
parts_have Greater truth local l r s ls rs f g = refl
parts_have LessEqual truth local l r s ls rs f g = refl
parts_have GreaterEqual truth local l r s ls rs f g = refl
parts_have Concat truth local l r s ls rs f g = refl
parts_have Add truth local l r s ls rs f g = refl
parts_have Sub truth local l r s ls rs f g = refl
parts_have Mul truth local l r s ls rs f g = refl
parts_have Div truth local l r s ls rs f g = refl
parts_have FloorDiv truth local l r s ls rs f g = refl
parts_have Mod truth local l r s ls rs f g = refl
parts_have Pow truth local l r s ls rs f g = refl

mutual
  pub made_has : (rules : Rules) (e : Expr) (truth : Bool) (local : ℕ) → is_listed (made rules e truth) local ≡ is_among local (guarded rules e)
  made_has rules (the_expr id span kind) truth local = made_in_has rules id kind truth local

  pub made_in_has : (rules : Rules) (id : ℕ) (kind : ExprKind) (truth : Bool) (local : ℕ) → is_listed (made_in rules id kind truth) local ≡ is_among local (guarded_in rules id kind)
  made_in_has rules id (NameExpr name) truth local = name_has truth local (firm_only rules (local_of (rules.reading.use_of id)))
  made_in_has rules id (Paren e) truth local = made_has rules e truth local
  made_in_has rules id (Unary Not e) truth local = made_has rules e (not truth) local
  made_in_has rules id (Unary Minus e) truth local = refl
  made_in_has rules id (Unary Length e) truth local = refl
  made_in_has rules id (Binary op l r) truth local =
      parts_have op truth local (made rules l truth) (made rules r truth) (equality rules l r) (guarded rules l) (guarded rules r) (made_has rules l truth local) (made_has rules r truth local)
  made_in_has rules id NilExpr truth local = refl
  made_in_has rules id TrueExpr truth local = refl
  made_in_has rules id FalseExpr truth local = refl
  made_in_has rules id (NumberExpr text) truth local = refl
  made_in_has rules id (StrExpr bytes) truth local = refl
  made_in_has rules id Vararg truth local = refl
  made_in_has rules id (FunctionExpr body) truth local = refl
  made_in_has rules id (Index base name) truth local = refl
  made_in_has rules id (At base key) truth local = refl
  made_in_has rules id (Call callee args) truth local = refl
  made_in_has rules id (Method base name span args) truth local = refl
  made_in_has rules id (IfElse arms last) truth local = refl
  made_in_has rules id (TableExpr items) truth local = refl
  made_in_has rules id (Interp texts parts) truth local = refl
  made_in_has rules id (Assert e typ) truth local = refl
