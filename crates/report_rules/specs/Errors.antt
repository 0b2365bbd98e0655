-- The context under which evaluating an expression fails, or gives a first value in a set.
use Rattle.std.specs.Prelude.{ℕ, suc, Bool, false, List, [], ◌∷◌, Option, Some, None, if◌then◌else◌}
use Rattle.luau_tree.specs.declared.names.BinOp.{BinOp}
use Rattle.luau_tree.specs.declared.names.BinOp.TheVariants.{Or, And}
use Rattle.luau_tree.specs.declared.names.UnOp.{UnOp}
use Rattle.luau_tree.specs.declared.names.Op.TheVariants.{Call as CallOp, Index as IndexOp, Unary as UnaryOp, Binary as BinaryOp}
use Rattle.luau_tree.specs.Tree.{Expr, the_expr, Exprs, no_exprs, more_exprs, ExprKind, StrExpr, NameExpr, Index, At, Call, Method, Paren, Unary, Binary, IfElse, TableExpr, Interp, Assert, Choices, no_choices, more_choices, Item, Field, Keyed, Plain, Items, no_items, more_items}
use Rattle.luau_run.specs.ReadModule.{Use, UseBuiltin}
use Rattle.luau_run.specs.ReadFolder.{local_of}
use Rattle.type_arena.specs.Term.{Term, never}
use Rattle.type_normal.specs.Operations.{union, meet}
use Rattle.type_normal.specs.Kinds.{falsy, truthy, field_is}
use Rattle.type_normal.specs.Failing.{call_fail, index_fail}
use Rattle.report_rules.specs.Rules.{TypedBuiltin, Rules}
use Rattle.report_rules.specs.Effects.{expands, effects, any_effects, effects_of_item}
use Rattle.report_rules.specs.Seen.{Seen}
use Rattle.report_rules.specs.Context.{Context, none, only_for, join, branch, pass, followed}
use Rattle.report_rules.specs.Checks.{ReportKind, Operand, type_of, check, left, operand_set, unary_set, checked_callee, argument_left}

-- an expression that is a builtin's path is that builtin, whatever its form
abbrev pub unless_builtin : Option Use → Context → Context
unless_builtin (Some (UseBuiltin path)) context = none
unless_builtin _ context = context

-- a bare name of a local
abbrev pub name_context : Rules → Option ℕ → Term → Context
name_context rules (Some local) set = only_for rules local set
name_context rules None set = none

-- what is checked where a field is read: the base, and else the field
abbrev pub read_set : List ReportKind → List ℕ → Term → Term
read_set [] name set = union index_fail (field_is name set)
read_set (kind ∷ kinds) name set = never

-- the base of a method call: where no argument has effects, the method that is looked up after them is that of the base
abbrev pub method_set : List ReportKind → List ℕ → (effects_later : Bool) → Term
method_set [] name effects_later = union index_fail (if effects_later then never else field_is name call_fail)
method_set (kind ∷ kinds) name effects_later = never

-- what is reported of a base that is indexed, and of a callee
abbrev pub index_kinds : List Seen → Expr → List ReportKind
index_kinds seen base = check seen base index_fail (Operand IndexOp)

abbrev pub call_kinds : List Seen → Expr → List ReportKind
call_kinds seen callee = check seen callee call_fail (Operand CallOp)

-- what is reported of an operand
abbrev pub unary_kinds : List Seen → UnOp → Expr → List ReportKind
unary_kinds seen op e = check seen e (unary_set op) (Operand (UnaryOp op))

-- what is reported of a side of a binary operation, beside the other side
abbrev pub side_kinds : List Seen → BinOp → (side other : Expr) → List ReportKind
side_kinds seen op side other = check seen side (operand_set op (type_of seen other)) (Operand (BinaryOp op))

abbrev pub side_left : List Seen → BinOp → (side other : Expr) → Term
side_left seen op side other = left (side_kinds seen op side other) (operand_set op (type_of seen other))

-- whether an argument expands: the last one may
abbrev pub expands_as : Expr → Exprs → Bool
expands_as e no_exprs = expands e
expands_as e (more_exprs next rest) = false

abbrev mutual
  pub ev : Rules → List Seen → Expr → Term → Context
  ev rules seen (the_expr id span kind) set = unless_builtin (rules.reading.use_of id) (ev_in rules seen id kind set)

  pub ev_in : Rules → List Seen → ℕ → ExprKind → Term → Context
  ev_in rules seen id (NameExpr name) set = name_context rules (local_of (rules.reading.use_of id)) set
  ev_in rules seen id (Paren e) set = ev rules seen e set
  ev_in rules seen id (Assert e syntax) set = ev rules seen e set
  ev_in rules seen id (Index base name) set = ev rules seen base (read_set (index_kinds seen base) name set)
  ev_in rules seen id (At base (the_expr key_id key_span (StrExpr name))) set = ev rules seen base (read_set (index_kinds seen base) name set)
  ev_in rules seen id (At base key) set = followed (ev rules seen base (left (index_kinds seen base) index_fail)) (effects rules base) (ev rules seen key never)
  ev_in rules seen id (Call callee args) set =
      followed (ev rules seen callee (left (call_kinds seen callee) call_fail)) (effects rules callee) (ev_args rules seen (checked_callee rules seen callee) 0 args)
  ev_in rules seen id (Method base name name_span args) set =
      followed (ev rules seen base (method_set (index_kinds seen base) name (any_effects rules args))) (effects rules base) (ev_parts rules seen args)
  ev_in rules seen id (Unary op e) set = ev rules seen e (left (unary_kinds seen op e) (unary_set op))
  ev_in rules seen id (Binary And left right) set =
      join (ev rules seen left never)
      (branch rules left (pass (effects rules left) (ev rules seen right set)) (ev rules seen left (meet set falsy)))
  ev_in rules seen id (Binary Or left right) set =
      join (ev rules seen left never)
      (branch rules left (ev rules seen left (meet set truthy)) (pass (effects rules left) (ev rules seen right set)))
  ev_in rules seen id (Binary op left right) set =
      followed (ev rules seen left (side_left seen op left right)) (effects rules left) (ev rules seen right (side_left seen op right left))
  ev_in rules seen id (IfElse arms last) set = ev_choices rules seen arms set (ev rules seen last set)
  ev_in rules seen id (TableExpr items) set = ev_items rules seen items
  ev_in rules seen id (Interp texts parts) set = ev_parts rules seen parts
  ev_in rules seen id _ set = none

  -- parts that are evaluated in order, whatever they give
  pub ev_parts : Rules → List Seen → Exprs → Context
  ev_parts rules seen no_exprs = none
  ev_parts rules seen (more_exprs e rest) = followed (ev rules seen e never) (effects rules e) (ev_parts rules seen rest)

  -- the arguments of a call from a position on, checked by the parameters of a builtin
  pub ev_args : Rules → List Seen → Option TypedBuiltin → (position : ℕ) → Exprs → Context
  ev_args rules seen wanted position no_exprs = none
  ev_args rules seen wanted position (more_exprs e rest) =
      followed (ev rules seen e (argument_left seen wanted position (expands_as e rest) e)) (effects rules e) (ev_args rules seen wanted (suc position) rest)

  -- the values of an if-expression, with the context of the last one
  pub ev_choices : Rules → List Seen → Choices → Term → (last : Context) → Context
  ev_choices rules seen no_choices set last = last
  ev_choices rules seen (more_choices cond e rest) set last =
      join (ev rules seen cond never) (pass (effects rules cond) (branch rules cond (ev rules seen e set) (ev_choices rules seen rest set last)))

  pub ev_items : Rules → List Seen → Items → Context
  ev_items rules seen no_items = none
  ev_items rules seen (more_items item rest) = followed (ev_item rules seen item) (effects_of_item rules item) (ev_items rules seen rest)

  pub ev_item : Rules → List Seen → Item → Context
  ev_item rules seen (Field name e) = ev rules seen e never
  ev_item rules seen (Keyed key e) = followed (ev rules seen key never) (effects rules key) (ev rules seen e never)
  ev_item rules seen (Plain e) = ev rules seen e never
