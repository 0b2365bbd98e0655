-- The parsers of expressions and function bodies that the code computes.
use Rattle.std.specs.Prelude.{ℕ, zero, suc, ◌-◌, Bool, true, false, ◌||◌, ◌&&◌, nat_lt, List, [], ◌∷◌, ◌++◌, length, Option, Some, None, is_some, Ok, codes, if◌then◌else◌}
use Rattle.luau_tree.specs.declared.position.Span.{Span}
use Rattle.luau_tree.specs.declared.names.UnOp.{UnOp}
use Rattle.luau_tree.specs.declared.names.BinOp.{BinOp}
use Rattle.luau_tree.specs.Tree.{Expr, Exprs, ExprKind, Choices, Item, Items, Body, Varargs, Bind, TypeSyntax, MaybeType}
use Rattle.luau_tree.specs.Tree as tree
use Rattle.luau_tree.specs.View.{exprs, binds, items, choices}
use Rattle.luau_grammar.specs.declared.symbol.Symbol.{Symbol}
use Rattle.luau_grammar.specs.declared.symbol.Symbol.TheVariants as s
use Rattle.luau_grammar.specs.Places.{Place, symbol, sees, start_of}
use Rattle.luau_grammar.specs.Phrases.{Listed}
use Rattle.luau_grammar.specs.Operators.{binary_of, unary_of, tightness, groups_right, unary_tightness}
use Rattle.luau_grammar.specs.Expressions.{begins_suffix, begins_field, sees_pack}
use Rattle.luau_grammar.specs.Reading as read
use Rattle.luau_grammar.specs.Reading.{Setting, Parser, Outcome, Readers, ◌>>=◌, ◌>>◌, pure, and_then, start, last, level, set_level, span_from}
use Rattle.luau_grammar.specs.ReadPhrases as phrases
use Rattle.luau_grammar.specs.ReadTypes as types

-- what was read of a list of parameters
pub record Parameters : Type 0 where
  pub found : List Bind
  pub rest : Varargs

-- what was read of an interpolated string
pub record Interpolated : Type 0 where
  pub texts : List (List ℕ)
  pub parts : List Expr
  pub open_ended : Bool

-- the parameters of a body, `self` before them in a method's
abbrev pub with_self : Option Span → List Bind → List Bind
with_self None own = own
with_self (Some name) own = tree.the_bind (codes "self") name tree.no_type ∷ own

-- A right operand takes the operators that bind tighter than this.
unfoldable pub right_least : BinOp → ℕ
right_least op = if groups_right op then tightness op - 1 else tightness op

-- an operator that binds tighter than a number
abbrev pub tighter_by : ℕ → Option BinOp → Option BinOp
tighter_by least None = None
tighter_by least (Some op) = if nat_lt least (tightness op) then Some op else None

unfoldable pub tighter : ℕ → Place → Option BinOp
tighter least p = tighter_by least (binary_of (symbol p))

abbrev pub is_open : Varargs → Bool
is_open tree.no_varargs = true
is_open (tree.varargs t) = false

-- another parameter may follow
abbrev pub goes_parameters : Parameters → Place → Bool
goes_parameters given p = is_open given.rest && sees s.Comma p

abbrev pub no_parameters : Parameters
no_parameters = record { found = []; rest = tree.no_varargs }

module _ (set : Setting) (inner : Readers) where
  abbrev expression : Parser Expr
  expression = phrases.expression set inner

  abbrev typ : Option Listed → Parser TypeSyntax
  typ = phrases.typ set inner

  unfoldable pub expressions : Parser (List Expr)
  expressions = read.separated set expression

  unfoldable pub attribute : Unit {0} → Parser (Unit {0})
  attribute _ = read.expect set s.AtSign >> read.name set >> pure tt

  unfoldable pub attributes : Parser (Unit {0})
  attributes = read.repeat set (λ _ p. sees s.AtSign p) attribute tt

  unfoldable pub annotation : Parser MaybeType
  annotation = λ p.
      if sees s.Colon p then (do
        read.expect set s.Colon
        t ← typ None
        pure (tree.a_type t)) p
      else Ok (tree.no_type, p)

  unfoldable pub bind : Parser Bind
  bind = do
    from ← start
    name ← read.name set
    span ← span_from from
    t ← annotation
    pure (tree.the_bind name span t)

  unfoldable pub var_type : Parser TypeSyntax
  var_type = λ p. if sees_pack p then types.generic_pack set inner p else typ None p

  unfoldable pub var_annotation : Parser MaybeType
  var_annotation = λ p.
      if sees s.Colon p then (do
        read.expect set s.Colon
        t ← var_type
        pure (tree.a_type t)) p
      else Ok (tree.no_type, p)

  unfoldable pub varparam : Parser MaybeType
  varparam = read.expect set s.Dots >> var_annotation

  unfoldable pub rest_parameter : Parameters → Parser Parameters
  rest_parameter given = do
    t ← varparam
    pure (record { found = given.found; rest = tree.varargs t })

  unfoldable pub named_parameter : Parameters → Parser Parameters
  named_parameter given = do
    x ← bind
    pure (record { found = given.found ++ x ∷ []; rest = tree.no_varargs })

  unfoldable pub parameter : Parameters → Parser Parameters
  parameter given = λ p. if sees s.Dots p then rest_parameter given p else named_parameter given p

  unfoldable pub another_parameter : Parameters → Parser Parameters
  another_parameter given = read.expect set s.Comma >> parameter given

  -- behind some of them
  unfoldable pub parameters_from : Parameters → Parser Parameters
  parameters_from given = read.repeat set goes_parameters another_parameter given

  unfoldable pub some_parameters : Parser Parameters
  some_parameters = do
    first ← parameter no_parameters
    parameters_from first

  unfoldable pub parameters : Parser Parameters
  parameters = λ p. if sees s.RightParen p then Ok (no_parameters, p) else some_parameters p

  unfoldable pub maybe_result : Parser MaybeType
  maybe_result = λ p.
      if sees s.Colon p then (do
        read.expect set s.Colon
        t ← types.result set inner
        pure (tree.a_type t)) p
      else Ok (tree.no_type, p)

  unfoldable pub body : Option Span → Parser Body
  body method = do
    from ← start
    gs ← types.generics set inner false
    read.expect set s.LeftParen
    given ← parameters
    read.expect set s.RightParen
    r ← maybe_result
    b ← phrases.block set inner
    read.expect set s.End
    span ← span_from from
    pure (tree.the_body 0 (is_some method) gs (binds (with_self method given.found)) given.rest r b span)

  unfoldable pub keyed : Parser Item
  keyed = do
    read.expect set s.LeftBracket
    key ← expression
    read.expect set s.RightBracket
    read.expect set s.Assign
    value ← expression
    pure (tree.Keyed key value)

  unfoldable pub field : Parser Item
  field = do
    name ← read.name set
    read.expect set s.Assign
    value ← expression
    pure (tree.Field name value)

  unfoldable pub item : Parser Item
  item = λ p.
      if sees s.LeftBracket p then keyed p
      else if begins_field p then field p
      else (do
        value ← expression
        pure (tree.Plain value)) p

  unfoldable pub fields : Parser Items
  fields = do
    found ← types.braced set item
    pure (items found.items)

  -- whose inside stands at this level
  unfoldable pub table : ℕ → Parser Items
  table inside = do
    read.expect set s.LeftBrace
    set_level inside
    found ← fields
    read.expect set s.RightBrace
    pure found

  unfoldable pub in_parens : Parser Exprs
  in_parens = λ p.
      if sees s.RightParen p then Ok (tree.no_exprs, p)
      else (do
        es ← expressions
        pure (exprs es)) p

  abbrev only : Span → ExprKind → Exprs
  only span kind = tree.more_exprs (tree.the_expr 0 span kind) tree.no_exprs

  unfoldable pub list_arguments : ℕ → Parser Exprs
  list_arguments inside = do
    read.open_arguments set
    set_level inside
    es ← in_parens
    read.expect set s.RightParen
    pure es

  unfoldable pub table_argument : ℕ → Parser Exprs
  table_argument inside = do
    from ← start
    fields ← table inside
    span ← span_from from
    pure (only span (tree.TableExpr fields))

  unfoldable pub string_argument : ℕ → Parser Exprs
  string_argument inside = do
    from ← start
    value ← read.string set s.Text
    set_level inside
    span ← span_from from
    pure (only span (tree.StrExpr value))

  unfoldable pub arguments : ℕ → Parser Exprs
  arguments inside = λ p.
      if sees s.LeftBrace p then table_argument inside p
      else if sees s.Text p then string_argument inside p
      else list_arguments inside p

  unfoldable pub paren : Parser Expr
  paren = do
    from ← start
    read.expect set s.LeftParen
    e ← expression
    read.expect set s.RightParen
    span ← span_from from
    pure (tree.the_expr 0 span (tree.Paren e))

  unfoldable pub name_expression : Parser Expr
  name_expression = do
    from ← start
    name ← read.name set
    span ← span_from from
    pure (tree.the_expr 0 span (tree.NameExpr name))

  unfoldable pub primary : Parser Expr
  primary = λ p. if sees s.LeftParen p then paren p else name_expression p

  -- behind what begins at an offset
  unfoldable pub index : ℕ → Expr → Parser Expr
  index from base = do
    read.expect set s.Dot
    read.raise set
    name ← read.name set
    span ← span_from from
    pure (tree.the_expr 0 span (tree.Index base name))

  unfoldable pub at : ℕ → Expr → Parser Expr
  at from base = do
    read.expect set s.LeftBracket
    read.raise set
    key ← expression
    read.expect set s.RightBracket
    span ← span_from from
    pure (tree.the_expr 0 span (tree.At base key))

  unfoldable pub method : ℕ → Expr → Parser Expr
  method from base = do
    read.expect set s.Colon
    read.raise set
    name_from ← start
    name ← read.name set
    name_span ← span_from name_from
    inside ← level
    args ← arguments inside
    span ← span_from from
    pure (tree.the_expr 0 span (tree.Method base name name_span args))

  unfoldable pub call : ℕ → Expr → Parser Expr
  call from callee = do
    outer ← level
    args ← arguments (read.deeper (set.limit) outer)
    span ← span_from from
    pure (tree.the_expr 0 span (tree.Call callee args))

  unfoldable pub suffix : ℕ → Expr → Parser Expr
  suffix from base = λ p.
      if sees s.Dot p then index from base p
      else if sees s.LeftBracket p then at from base p
      else if sees s.Colon p then method from base p
      else call from base p

  unfoldable pub prefix : Parser Expr
  prefix = do
    from ← start
    first ← primary
    read.repeat set (λ _ p. begins_suffix p) (suffix from) first

  unfoldable pub choice : Symbol → Parser (Expr × Expr)
  choice word = do
    read.expect set word
    cond ← expression
    read.expect set s.Then
    value ← expression
    pure (cond, value)

  unfoldable pub another_choice : List (Expr × Expr) → Parser (List (Expr × Expr))
  another_choice found = do
    x ← choice s.ElseIf
    pure (found ++ x ∷ [])

  unfoldable pub all_choices : Parser Choices
  all_choices = do
    first ← choice s.If
    found ← read.repeat set (λ _ p. sees s.ElseIf p) another_choice (first ∷ [])
    pure (choices found)

  unfoldable pub if_else : ℕ → Parser Expr
  if_else from = do
    arms ← all_choices
    read.expect set s.Else
    e ← expression
    span ← span_from from
    pure (tree.the_expr 0 span (tree.IfElse arms e))

  unfoldable pub part_end : Interpolated → Expr → Parser Interpolated
  part_end given e = λ p.
      if sees s.Mid p then (do
        text ← read.string set s.Mid
        pure (record { texts = given.texts ++ text ∷ []; parts = given.parts ++ e ∷ []; open_ended = true })) p
      else (do
        text ← read.string set s.Last
        pure (record { texts = given.texts ++ text ∷ []; parts = given.parts ++ e ∷ []; open_ended = false })) p

  unfoldable pub part : Interpolated → Parser Interpolated
  part given = expression >>= part_end given

  -- behind the first text
  unfoldable pub parts : List ℕ → Parser Interpolated
  parts text =
      read.repeat set (λ given p. given.open_ended) part (record {
        texts = text ∷ [];
        parts = [];
        open_ended = true;
      })

  unfoldable pub interpolation : ℕ → Parser Expr
  interpolation from = do
    text ← read.string set s.Begin
    found ← parts text
    span ← span_from from
    pure (tree.the_expr 0 span (tree.Interp found.texts (exprs found.parts)))

  unfoldable pub whole : ℕ → Parser Expr
  whole from = do
    text ← read.string set s.Whole
    span ← span_from from
    pure (tree.the_expr 0 span (tree.Interp (text ∷ []) tree.no_exprs))

  unfoldable pub function : ℕ → Parser Expr
  function from = do
    attributes
    read.expect set s.Function
    b ← body None
    span ← span_from from
    pure (tree.the_expr 0 span (tree.FunctionExpr b))

  unfoldable pub word : ℕ → ExprKind → Parser Expr
  word from kind = do
    read.next set
    span ← span_from from
    pure (tree.the_expr 0 span kind)

  unfoldable pub number : ℕ → Parser Expr
  number from = do
    t ← read.expect set s.Number
    span ← span_from from
    pure (tree.the_expr 0 span (tree.NumberExpr t.bytes))

  unfoldable pub literal : ℕ → Parser Expr
  literal from = do
    value ← read.string set s.Text
    span ← span_from from
    pure (tree.the_expr 0 span (tree.StrExpr value))

  unfoldable pub constructor : ℕ → Parser Expr
  constructor from = do
    inside ← level
    fields ← table inside
    span ← span_from from
    pure (tree.the_expr 0 span (tree.TableExpr fields))

  -- an expression that is no prefix, by its first symbol
  abbrev pub form_by : ℕ → Symbol → Parser Expr
  form_by from s.Nil = word from tree.NilExpr
  form_by from s.True = word from tree.TrueExpr
  form_by from s.False = word from tree.FalseExpr
  form_by from s.Dots = word from tree.Vararg
  form_by from s.Number = number from
  form_by from s.Text = literal from
  form_by from s.LeftBrace = constructor from
  form_by from s.Function = function from
  form_by from s.AtSign = function from
  form_by from s.If = if_else from
  form_by from s.Whole = whole from
  form_by from s.Begin = interpolation from
  form_by from _ = read.refuse set

  unfoldable pub form : Parser Expr
  form p = form_by (start_of p) (symbol p) p

  unfoldable pub simple : Parser Expr
  simple = λ p. if sees s.Name p || sees s.LeftParen p then prefix p else form p

  unfoldable pub asserted : ℕ → Expr → Parser Expr
  asserted from e = λ p.
      if sees s.DoubleColon p then (do
        read.expect set s.DoubleColon
        t ← typ None
        span ← span_from from
        pure (tree.the_expr 0 span (tree.Assert e t))) p
      else Ok (e, p)

  unfoldable pub assertion : Parser Expr
  assertion = do
    from ← start
    e ← simple
    asserted from e

  -- an operator before its operand, which the parser of operations reads
  unfoldable pub unary : Parser Expr → UnOp → Parser Expr
  unary operand op = do
    from ← start
    read.next set
    read.raise set
    e ← operand
    span ← span_from from
    pure (tree.the_expr 0 span (tree.Unary op e))

  abbrev pub operand_by : (ℕ → Parser Expr) → Option UnOp → Parser Expr
  operand_by operation None = assertion
  operand_by operation (Some op) = unary (operation unary_tightness) op

  unfoldable pub operand : (ℕ → Parser Expr) → Parser Expr
  operand operation p = operand_by operation (unary_of (symbol p)) p

  unfoldable pub binary : (ℕ → Parser Expr) → ℕ → Expr → BinOp → Parser Expr
  binary operation from left op = do
    read.next set
    read.raise set
    right ← operation (right_least op)
    span ← span_from from
    pure (tree.the_expr 0 span (tree.Binary op left right))

  abbrev climb_by : (ℕ → Parser Expr) → ℕ → Expr → Option BinOp → Parser Expr
  climb_by operation from left None = read.refuse set
  climb_by operation from left (Some op) = binary operation from left op

  abbrev pub climb_step : (ℕ → Parser Expr) → ℕ → Expr → Parser Expr
  climb_step operation from left p = climb_by operation from left (binary_of (symbol p)) p

  -- operators that bind tighter than a number, behind the first operand
  unfoldable pub climb_from : (ℕ → Parser Expr) → ℕ → ℕ → Expr → Parser Expr
  climb_from operation least from first =
      read.repeat set (λ _ p. is_some (tighter least p)) (climb_step operation from) first

  -- operands with operators that bind tighter than a number, where the parser of operations reads right operands
  unfoldable pub climb : (ℕ → Parser Expr) → ℕ → Parser Expr
  climb operation least = do
    from ← start
    first ← operand operation
    climb_from operation least from first

  -- the first number bounds how many operators stand within one another
  unfoldable pub operation : ℕ → ℕ → Parser Expr
  operation zero least = read.refuse set
  operation (suc turns) least = climb (operation turns) least

  unfoldable pub expression_inside : Parser Expr
  expression_inside = λ p. operation (length p.ahead) 0 p
