-- The type of the first value of an expression, in the map at its turn.
use Rattle.std.specs.Prelude.{ℕ, Bool, true, false, ◌||◌, not, List, [], ◌∷◌, Option, Some, None, if◌then◌else◌, codes}
use Rattle.std.specs.Str.{bytes_eq}
use Rattle.luau_tree.specs.declared.names.BinOp.{BinOp}
use Rattle.luau_tree.specs.declared.names.BinOp.TheVariants.{Or, And, Less, Greater, LessEqual, GreaterEqual, NotEqual, Equal, Concat}
use Rattle.luau_tree.specs.declared.names.UnOp.{UnOp}
use Rattle.luau_tree.specs.declared.names.UnOp.TheVariants.{Not}
use Rattle.luau_tree.specs.Tree.{Expr, the_expr, Exprs, no_exprs, more_exprs, ExprKind, NilExpr, TrueExpr, FalseExpr, NumberExpr, StrExpr, Vararg, FunctionExpr, NameExpr, Index, At, Call, Method, Paren, Unary, Binary, IfElse, TableExpr, Interp, Assert, Choices, no_choices, more_choices, Item, Field, Keyed, Plain, Items, no_items, more_items, Body}
use Rattle.luau_run.specs.ReadModule.{Use, UseLocal, UseBuiltin, UseLibrary}
use Rattle.luau_run.specs.Expressions.{number_of}
use Rattle.type_arena.specs.Term.{Function, builtin, literal, Term, term, Fields, no_fields, never}
use Rattle.type_normal.specs.Members.{is_no_set}
use Rattle.type_normal.specs.Operations.{union, meet, not_free, put_field}
use Rattle.type_normal.specs.Kinds.{unknown, nil_type, true_type, false_type, boolean_type, number_type, string_type, other_type, table_type, text_type, named_type, row_type, falsy, truthy, exactly_one_function}
use Rattle.type_normal.specs.HeapFree.{widen, has_field}
use Rattle.type_normal.specs.Field.{field_type, frozen_rows}
use Rattle.subtype_check.specs.Below.{below}
use Rattle.report_rules.specs.Rules.{TypedBuiltin, Rules, declared}
use Rattle.report_rules.specs.Effects.{effects, any_effects, effects_of_item, effects_of_items}
use Rattle.report_rules.specs.TypeMap.{TypeMap, local_type, widened, refine}

-- what a name stands for: a local its entry, a builtin its name, a library a table
abbrev pub name_type : Rules → TypeMap → Option Use → Term
name_type rules map (Some (UseLocal local)) = local_type rules map local
name_type rules map (Some (UseBuiltin path)) = named_type (builtin path)
name_type rules map (Some UseLibrary) = table_type
name_type rules map _ = unknown

-- an expression that is a builtin's path is that builtin, whatever its form
abbrev pub builtin_or : Option Use → Term → Term
builtin_or (Some (UseBuiltin path)) type = named_type (builtin path)
builtin_or _ type = type

-- whether strings or values of no other kind are among those of a type
abbrev pub has_strings_or_other : Term → Bool
has_strings_or_other (term free rows) = not (is_no_set free.strings) || free.other

-- what a field reads as
abbrev pub property : List ℕ → Term → Term
property name base = if has_strings_or_other base then unknown else field_type name base

-- the name of a function literal
abbrev pub literal_type : Rules → Body → Term
literal_type rules body = named_type (literal rules.reading.home (number_of body))

-- all values but those of no other kind
abbrev pub not_other : Term
not_other = not_free other_type

-- a result of an operation, where no operand may be a value of no other kind
abbrev pub if_known : Bool → Term → Term
if_known test type = if test then type else unknown

abbrev pub unary_type : UnOp → Term → Term
unary_type Not operand = boolean_type
unary_type op operand = if_known (below operand not_other) number_type

abbrev pub both_known : Term → Term → Bool
both_known left right = if below left not_other then below right not_other else false

-- a result of a binary operation that evaluates both sides
abbrev pub binary_type : BinOp → Term → Term → Term
binary_type Equal left right = boolean_type
binary_type NotEqual left right = boolean_type
binary_type Less left right = boolean_type
binary_type Greater left right = boolean_type
binary_type LessEqual left right = boolean_type
binary_type GreaterEqual left right = boolean_type
binary_type Concat left right = if_known (both_known left right) string_type
binary_type op left right = if_known (both_known left right) number_type

-- the first value of a declared builtin's results, of which one that isn't given is nil
abbrev pub first_result : List Term → Option Term → Term
first_result (type ∷ types) more = type
first_result [] (Some more) = union more nil_type
first_result [] None = nil_type

-- a declared builtin of a path gives its first result's type; `table.freeze` gives the rows of its argument, frozen
abbrev pub declared_result : List ℕ → (first_argument : Term) → Option TypedBuiltin → Term
declared_result path first_argument None = unknown
declared_result path first_argument (Some b) =
    if bytes_eq path (codes "table.freeze") then frozen_rows first_argument else first_result b.results b.more

-- a call of exactly one builtin
abbrev pub call_result : Rules → Option Function → (first_argument : Term) → Term
call_result rules (Some (builtin path)) first_argument = declared_result path first_argument (declared rules path)
call_result rules _ first_argument = unknown

-- a static require gives what its module does
abbrev pub call_type : Rules → ℕ → Option ℕ → (callee first_argument : Term) → Term
call_type rules id (Some other) callee first_argument = rules.import id
call_type rules id None callee first_argument = call_result rules (exactly_one_function callee) first_argument

-- the type of a value that is held while other parts are evaluated
abbrev pub held : (effects_later : Bool) → Term → Term
held effects_later type = if effects_later then widen type else type

-- the map after a part with effects, or without
abbrev pub after_part : (has_effects : Bool) → TypeMap → TypeMap
after_part has_effects map = if has_effects then widened map else map

-- the map after an expression, and after a list
abbrev pub after : Rules → TypeMap → Expr → TypeMap
after rules map e = after_part (effects rules e) map

abbrev pub after_list : Rules → TypeMap → Exprs → TypeMap
after_list rules map es = after_part (any_effects rules es) map

-- whether a key that is neither a string nor a numeral stands in a table: such a key may be any name
abbrev pub is_named_key : Expr → Bool
is_named_key (the_expr id span (StrExpr bytes)) = true
is_named_key (the_expr id span (NumberExpr text)) = true
is_named_key _ = false

abbrev pub has_other_key : Items → Bool
has_other_key no_items = false
has_other_key (more_items (Keyed key e) rest) = not (is_named_key key) || has_other_key rest
has_other_key (more_items item rest) = has_other_key rest

-- fields with one more that stands before them: of one name the last counts
abbrev pub with_earlier : List ℕ → Term → Fields → Fields
with_earlier name type fields = if has_field name fields then fields else put_field name type (λ later. later) fields

-- the fields after an item with a key: a string is a name
abbrev pub with_keyed : Expr → Term → Fields → Fields
with_keyed (the_expr id span (StrExpr name)) type fields = with_earlier name type fields
with_keyed key type fields = fields

-- the first of some types, or never without one
abbrev pub first_or_never : List Term → Term
first_or_never [] = never
first_or_never (type ∷ types) = type

abbrev mutual
  pub typ : Rules → TypeMap → Expr → Term
  typ rules map (the_expr id span kind) = builtin_or (rules.reading.use_of id) (type_of_kind rules map id kind)

  pub type_of_kind : Rules → TypeMap → ℕ → ExprKind → Term
  type_of_kind rules map id NilExpr = nil_type
  type_of_kind rules map id TrueExpr = true_type
  type_of_kind rules map id FalseExpr = false_type
  type_of_kind rules map id (StrExpr bytes) = text_type bytes
  type_of_kind rules map id (NumberExpr text) = number_type
  type_of_kind rules map id (FunctionExpr body) = literal_type rules body
  type_of_kind rules map id (NameExpr name) = name_type rules map (rules.reading.use_of id)
  type_of_kind rules map id Vararg = unknown
  type_of_kind rules map id (Paren e) = typ rules map e
  type_of_kind rules map id (Assert e syntax) = typ rules map e
  type_of_kind rules map id (Index base name) = property name (typ rules map base)
  type_of_kind rules map id (At base (the_expr key_id key_span (StrExpr name))) = property name (typ rules map base)
  type_of_kind rules map id (At base key) = unknown
  type_of_kind rules map id (Call callee args) =
      call_type rules id (rules.reading.required id) (typ rules map callee) (first_or_never (types_of_list rules (after rules map callee) args))
  type_of_kind rules map id (Method base name name_span args) = unknown
  type_of_kind rules map id (Unary op e) = unary_type op (typ rules map e)
  type_of_kind rules map id (Binary And left right) =
      union (meet (typ rules map left) falsy) (typ rules (refine rules left true (after rules map left)) right)
  type_of_kind rules map id (Binary Or left right) =
      union (meet (typ rules map left) truthy) (typ rules (refine rules left false (after rules map left)) right)
  type_of_kind rules map id (Binary op left right) = binary_type op (typ rules map left) (typ rules (after rules map left) right)
  type_of_kind rules map id (IfElse arms last) = type_of_choices rules map arms (λ at_last. typ rules at_last last)
  type_of_kind rules map id (Interp texts parts) = string_type
  type_of_kind rules map id (TableExpr items) = if has_other_key items then table_type else row_type false (fields_of_items rules map items)

  -- each value of a list; one is widened if a later part has effects
  pub types_of_list : Rules → TypeMap → Exprs → List Term
  types_of_list rules map no_exprs = []
  types_of_list rules map (more_exprs e rest) = held (any_effects rules rest) (typ rules map e) ∷ types_of_list rules (after rules map e) rest

  -- the values of an if-expression, each where its condition came out true and those before it false, with what the last one
  -- has in the map at its turn
  pub type_of_choices : Rules → TypeMap → Choices → (last : TypeMap → Term) → Term
  type_of_choices rules map no_choices last = last map
  type_of_choices rules map (more_choices cond e rest) last =
      union (typ rules (refine rules cond true (after rules map cond)) e) (type_of_choices rules (refine rules cond false (after rules map cond)) rest last)

  -- the named fields of a table's items
  pub fields_of_items : Rules → TypeMap → Items → Fields
  fields_of_items rules map no_items = no_fields
  fields_of_items rules map (more_items item rest) =
      field_of_item rules map (effects_of_items rules rest) (fields_of_items rules (after_part (effects_of_item rules item) map) rest) item

  pub field_of_item : Rules → TypeMap → (effects_later : Bool) → (later : Fields) → Item → Fields
  field_of_item rules map effects_later later (Field name e) = with_earlier name (held effects_later (typ rules map e)) later
  field_of_item rules map effects_later later (Keyed key e) = with_keyed key (held effects_later (typ rules (after rules map key) e)) later
  field_of_item rules map effects_later later (Plain e) = later

-- a target has the type of its form; one that is a name and no local is unknown
abbrev pub target_use : Option Use → Option Use
target_use (Some (UseLocal local)) = Some (UseLocal local)
target_use _ = None

abbrev pub type_of_target : Rules → TypeMap → Expr → Term
type_of_target rules map (the_expr id span (NameExpr name)) = name_type rules map (target_use (rules.reading.use_of id))
type_of_target rules map (the_expr id span kind) = type_of_kind rules map id kind
