-- What the truth and the falsity of a condition say of the locals in it. Guards speak of bare names of locals that aren't
-- loose; of all other locals they say unknown, which is nothing.
use Rattle.std.specs.Prelude.{ℕ, Bool, true, false, not, ◌==◌, List, [], ◌∷◌, ◌++◌, Option, Some, None, if◌then◌else◌, codes}
use Rattle.std.specs.Option.{option_map_or}
use Rattle.std.specs.Str.{bytes_eq}
use Rattle.luau_tree.specs.declared.names.BinOp.{BinOp}
use Rattle.luau_tree.specs.declared.names.BinOp.TheVariants.{Or, And, Equal, NotEqual}
use Rattle.luau_tree.specs.declared.names.UnOp.TheVariants.{Not}
use Rattle.luau_tree.specs.Tree.{Expr, the_expr, no_exprs, more_exprs, ExprKind, NilExpr, TrueExpr, FalseExpr, NumberExpr, StrExpr, NameExpr, Call, Paren, Unary, Binary}
use Rattle.luau_run.specs.ReadFolder.{local_of}
use Rattle.type_arena.specs.Term.{Term}
use Rattle.type_normal.specs.Operations.{union, meet, not_free}
use Rattle.type_normal.specs.Kinds.{unknown, nil_type, true_type, false_type, boolean_type, number_type, string_type, function_type, other_type, table_type, text_type, falsy, truthy}
use Rattle.report_rules.specs.Rules.{Rules, loose, local_named, fixed_builtin}

-- what a test says of one local, where it comes out true and where it comes out false
pub record Says : Type 0 where
  pub local : ℕ
  pub when_true : Term
  pub when_false : Term

-- a test that says one thing where it is true and its complement where it is false
abbrev pub exactly : ℕ → Term → Says
exactly local type = record { local = local; when_true = type; when_false = not_free type }

-- `x == c`
abbrev pub equals : ℕ → ExprKind → Option Says
equals local NilExpr = Some (exactly local nil_type)
equals local TrueExpr = Some (exactly local true_type)
equals local FalseExpr = Some (exactly local false_type)
equals local (StrExpr bytes) = Some (exactly local (text_type bytes))
equals local (NumberExpr text) = Some (record { local = local; when_true = number_type; when_false = unknown })
equals local _ = None

-- `type(x) == "k"`: the kinds by their names; what is of no kind may have any name but the first five
abbrev pub kind_equals : ℕ → List ℕ → Says
kind_equals local name =
    if bytes_eq name (codes "nil") then exactly local nil_type
    else if bytes_eq name (codes "boolean") then exactly local boolean_type
    else if bytes_eq name (codes "number") then exactly local number_type
    else if bytes_eq name (codes "string") then exactly local string_type
    else if bytes_eq name (codes "function") then exactly local function_type
    else if bytes_eq name (codes "table") then record { local = local; when_true = union table_type other_type; when_false = not_free table_type }
    else record { local = local; when_true = other_type; when_false = unknown }

-- the local that isn't loose and that an expression is the bare name of
abbrev pub firm_only : Rules → Option ℕ → Option ℕ
firm_only rules (Some local) = if loose rules local then None else Some local
firm_only rules None = None

abbrev pub firm_local : Rules → Expr → Option ℕ
firm_local rules e = firm_only rules (local_named rules e)

-- whether an expression is always the builtin `type`
abbrev pub is_type : Rules → Expr → Bool
is_type rules e = option_map_or (bytes_eq (codes "type")) (fixed_builtin rules e) false

-- the local x where an expression is `type(x)`
abbrev pub kind_subject : Rules → Expr → Option ℕ
kind_subject rules (the_expr id span (Call callee (more_exprs e no_exprs))) = if is_type rules callee then firm_local rules e else None
kind_subject rules _ = None

-- an equality of a kind with a constant
abbrev pub kind_says : Option ℕ → ExprKind → Option Says
kind_says (Some local) (StrExpr name) = Some (kind_equals local name)
kind_says _ _ = None

abbrev pub local_says : Option ℕ → ExprKind → Option Says
local_says (Some local) kind = equals local kind
local_says None kind = None

abbrev pub or_else : Option Says → Option Says → Option Says
or_else (Some says) other = Some says
or_else None other = other

-- what an expression that is compared with one of a form says
abbrev pub side_says : Rules → Expr → Expr → Option Says
side_says rules subject (the_expr id span kind) = or_else (local_says (firm_local rules subject) kind) (kind_says (kind_subject rules subject) kind)

-- what `a == b` says; either side may be the constant
abbrev pub equality : Rules → Expr → Expr → Option Says
equality rules left right = or_else (side_says rules left right) (side_says rules right left)

-- what a test says of a local
abbrev pub said : Bool → ℕ → Option Says → Term
said truth local None = unknown
said truth local (Some says) = if says.local == local then (if truth then says.when_true else says.when_false) else unknown

-- a bare name says that it holds something else than nil and false, or one of them
abbrev pub name_says : Bool → ℕ → Option ℕ → Term
name_says truth local None = unknown
name_says truth local (Some named) = if named == local then (if truth then truthy else falsy) else unknown

-- what two parts say together
abbrev pub joined_guard : BinOp → Bool → (left right : Term) → (equal not_equal : Term) → Term
joined_guard And true left right equal not_equal = meet left right
joined_guard And false left right equal not_equal = union left right
joined_guard Or true left right equal not_equal = union left right
joined_guard Or false left right equal not_equal = meet left right
joined_guard Equal truth left right equal not_equal = equal
joined_guard NotEqual truth left right equal not_equal = not_equal
joined_guard _ truth left right equal not_equal = unknown

-- what the truth, or the falsity, of a condition says of a local
abbrev mutual
  pub guard : Rules → Expr → Bool → ℕ → Term
  guard rules (the_expr id span kind) truth local = guard_of_kind rules id kind truth local

  pub guard_of_kind : Rules → ℕ → ExprKind → Bool → ℕ → Term
  guard_of_kind rules id (NameExpr name) truth local = name_says truth local (firm_only rules (local_of (rules.reading.use_of id)))
  guard_of_kind rules id (Paren e) truth local = guard rules e truth local
  guard_of_kind rules id (Unary Not e) truth local = guard rules e (not truth) local
  guard_of_kind rules id (Binary op left right) truth local =
      joined_guard op truth (guard rules left truth local) (guard rules right truth local)
      (said truth local (equality rules left right)) (said (not truth) local (equality rules left right))
  guard_of_kind rules id _ truth local = unknown

-- the local of a test
abbrev pub said_of : Option Says → List ℕ
said_of None = []
said_of (Some says) = says.local ∷ []

abbrev pub named_local : Option ℕ → List ℕ
named_local None = []
named_local (Some local) = local ∷ []

abbrev pub joined_locals : BinOp → (parts equal : List ℕ) → List ℕ
joined_locals And parts equal = parts
joined_locals Or parts equal = parts
joined_locals Equal parts equal = equal
joined_locals NotEqual parts equal = equal
joined_locals _ parts equal = []

-- the locals of which a condition may say something
abbrev mutual
  pub guarded : Rules → Expr → List ℕ
  guarded rules (the_expr id span kind) = guarded_in rules id kind

  pub guarded_in : Rules → ℕ → ExprKind → List ℕ
  guarded_in rules id (NameExpr name) = named_local (firm_only rules (local_of (rules.reading.use_of id)))
  guarded_in rules id (Paren e) = guarded rules e
  guarded_in rules id (Unary Not e) = guarded rules e
  guarded_in rules id (Binary op left right) = joined_locals op (guarded rules left ++ guarded rules right) (said_of (equality rules left right))
  guarded_in rules id _ = []
