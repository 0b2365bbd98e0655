-- The parsers of statements and blocks that the code computes.
use Rattle.std.specs.Prelude.{ℕ, Bool, true, false, not, ◌&&◌, List, [], ◌∷◌, ◌++◌, Option, Some, None, Ok, if◌then◌else◌}
use Rattle.luau_tree.specs.declared.position.Span.{Span}
use Rattle.luau_tree.specs.declared.names.BinOp.{BinOp}
use Rattle.luau_tree.specs.Tree.{Block, Stat, StatKind, Arms, MaybeBlock, Expr, Exprs, MaybeExpr, Bind}
use Rattle.luau_tree.specs.Tree as tree
use Rattle.luau_tree.specs.View.{exprs, binds, arms, stats}
use Rattle.luau_grammar.specs.declared.symbol.Symbol.{Symbol}
use Rattle.luau_grammar.specs.declared.symbol.Symbol.TheVariants as s
use Rattle.luau_grammar.specs.Places.{Place, symbol, sees, start_of, from_to}
use Rattle.luau_grammar.specs.Operators.{compound_of}
use Rattle.luau_grammar.specs.Expressions as expressions
use Rattle.luau_grammar.specs.Statements.{begins, is_last, is_variable, is_call, sees_continue, sees_type, sees_export}
use Rattle.luau_grammar.specs.Reading as read
use Rattle.luau_grammar.specs.Reading.{Setting, Parser, Readers, ◌>>=◌, ◌>>◌, pure, start, last, level, set_level, span_from}
use Rattle.luau_grammar.specs.ReadPhrases as phrases
use Rattle.luau_grammar.specs.ReadTypes as types
use Rattle.luau_grammar.specs.ReadExpressions as values

-- what was read of a block, and whether its last statement was
pub record Statements : Type 0 where
  pub found : List Stat
  pub ended : Bool

-- what was read of a method's name
pub record MethodName : Type 0 where
  pub name : Option (List ℕ)
  pub span : Option Span

-- the bounds of a numeric loop, and its step
pub record Range : Type 0 where
  pub first : Expr
  pub to : Expr
  pub step : MaybeExpr

module _ (set : Setting) (inner : Readers) where
  abbrev expression : Parser Expr
  expression = phrases.expression set inner

  abbrev block : Parser Block
  block = phrases.block set inner

  unfoldable pub own_prefix : Parser Expr
  own_prefix = do
    outer ← level
    e ← values.prefix set inner
    set_level outer
    pure e

  unfoldable pub variable : Parser Expr
  variable = do
    e ← own_prefix
    (λ p. if is_variable e then Ok (e, p) else read.refuse set p)

  -- behind the first variable
  unfoldable pub assign : ℕ → Expr → Parser Stat
  assign from first = do
    targets ← read.separated_from set variable (first ∷ [])
    read.expect set s.Assign
    given ← values.expressions set inner
    span ← span_from from
    pure (tree.the_stat span (tree.Assign (exprs targets) (exprs given)))

  unfoldable pub compound : ℕ → Expr → BinOp → Parser Stat
  compound from target op = do
    read.next set
    value ← expression
    span ← span_from from
    pure (tree.the_stat span (tree.Compound target op value))

  -- behind a prefix that ends in arguments, or in no arguments
  abbrev pub prefix_by : ℕ → Expr → Option BinOp → Parser Stat
  prefix_by from e (Some op) = λ p. if is_variable e then compound from e op p else read.refuse set p
  prefix_by from e None = λ p.
      if is_variable e then assign from e p
      else if is_call e then Ok (tree.the_stat (from_to from p) (tree.CallStat e), p)
      else read.refuse set p

  unfoldable pub behind_prefix : ℕ → Expr → Parser Stat
  behind_prefix from e p = prefix_by from e (compound_of (symbol p)) p

  unfoldable pub prefix_statement : ℕ → Parser Stat
  prefix_statement from = own_prefix >>= behind_prefix from

  -- `'do' block 'end'`
  unfoldable pub do_block : Parser Block
  do_block = do
    read.expect set s.Do
    b ← block
    read.expect set s.End
    pure b

  unfoldable pub while_statement : ℕ → Parser Stat
  while_statement from = do
    read.expect set s.While
    cond ← expression
    b ← do_block
    span ← span_from from
    pure (tree.the_stat span (tree.While cond b))

  unfoldable pub repeat_statement : ℕ → Parser Stat
  repeat_statement from = do
    read.expect set s.Repeat
    b ← block
    read.expect set s.Until
    cond ← expression
    span ← span_from from
    pure (tree.the_stat span (tree.Repeat b cond))

  unfoldable pub arm : Symbol → Parser (Expr × Block)
  arm word = do
    read.expect set word
    cond ← expression
    read.expect set s.Then
    b ← block
    pure (cond, b)

  unfoldable pub another_arm : List (Expr × Block) → Parser (List (Expr × Block))
  another_arm found = do
    x ← arm s.ElseIf
    pure (found ++ x ∷ [])

  unfoldable pub all_arms : Parser Arms
  all_arms = do
    first ← arm s.If
    found ← read.repeat set (λ _ p. sees s.ElseIf p) another_arm (first ∷ [])
    pure (arms found)

  unfoldable pub maybe_else : Parser MaybeBlock
  maybe_else = λ p.
      if sees s.Else p then (do
        read.expect set s.Else
        b ← block
        pure (tree.a_block b)) p
      else Ok (tree.no_block, p)

  unfoldable pub if_statement : ℕ → Parser Stat
  if_statement from = do
    found ← all_arms
    b ← maybe_else
    read.expect set s.End
    span ← span_from from
    pure (tree.the_stat span (tree.If found b))

  unfoldable pub maybe_step : Parser MaybeExpr
  maybe_step = λ p.
      if sees s.Comma p then (do
        read.expect set s.Comma
        e ← expression
        pure (tree.an_expr e)) p
      else Ok (tree.no_expr, p)

  unfoldable pub range : Parser Range
  range = do
    first ← expression
    read.expect set s.Comma
    to ← expression
    step ← maybe_step
    pure (record { first = first; to = to; step = step })

  -- behind the variable
  unfoldable pub numeric_for : ℕ → Bind → Parser Stat
  numeric_for from x = do
    read.expect set s.Assign
    r ← range
    b ← do_block
    span ← span_from from
    pure (tree.the_stat span (tree.NumFor x r.first r.to r.step b))

  -- behind the first variable
  unfoldable pub generic_for : ℕ → Bind → Parser Stat
  generic_for from x = do
    names ← read.separated_from set (values.bind set inner) (x ∷ [])
    read.expect set s.In
    given ← values.expressions set inner
    b ← do_block
    span ← span_from from
    pure (tree.the_stat span (tree.GenFor (binds names) (exprs given) b))

  unfoldable pub for_statement : ℕ → Parser Stat
  for_statement from = do
    read.expect set s.For
    x ← values.bind set inner
    (λ p. if sees s.Assign p then numeric_for from x p else generic_for from x p)

  unfoldable pub path_name : Parser Expr
  path_name = values.name_expression set inner

  unfoldable pub path : Parser Expr
  path = do
    from ← start
    first ← path_name
    read.repeat set (λ _ p. sees s.Dot p) (values.index set inner from) first

  unfoldable pub method_name : Parser MethodName
  method_name = λ p.
      if sees s.Colon p then (do
        read.expect set s.Colon
        read.raise set
        from ← start
        name ← read.name set
        span ← span_from from
        pure (record { name = Some name; span = Some span })) p
      else Ok (record { name = None; span = None }, p)

  -- behind the attributes
  unfoldable pub function_statement : ℕ → Parser Stat
  function_statement from = do
    read.expect set s.Function
    outer ← level
    way ← path
    method ← method_name
    set_level outer
    b ← values.body set inner (method.span)
    span ← span_from from
    pure (tree.the_stat span (tree.FunctionStat way (method.name) b))

  -- behind the word `local`
  unfoldable pub local_function : ℕ → Parser Stat
  local_function from = do
    read.expect set s.Function
    name_from ← start
    name ← read.name set
    name_span ← span_from name_from
    b ← values.body set inner None
    span ← span_from from
    pure (tree.the_stat span (tree.LocalFunction (tree.the_bind name name_span tree.no_type) b))

  unfoldable pub maybe_values : Parser Exprs
  maybe_values = λ p.
      if sees s.Assign p then (do
        read.expect set s.Assign
        es ← values.expressions set inner
        pure (exprs es)) p
      else Ok (tree.no_exprs, p)

  unfoldable pub local_names : ℕ → Parser Stat
  local_names from = do
    names ← read.separated set (values.bind set inner)
    given ← maybe_values
    span ← span_from from
    pure (tree.the_stat span (tree.Local (binds names) given))

  unfoldable pub local_statement : ℕ → Parser Stat
  local_statement from = do
    read.expect set s.Local
    (λ p. if sees s.Function p then local_function from p else local_names from p)

  unfoldable pub attributed : ℕ → Parser Stat
  attributed from = do
    values.attributes set inner
    (λ p. if sees s.Local p then (read.expect set s.Local >> local_function from) p else function_statement from p)

  -- behind the word `type`
  unfoldable pub alias : ℕ → Bool → Parser Stat
  alias from exported = do
    name ← read.name set
    gs ← types.generics set inner true
    read.expect set s.Assign
    t ← phrases.typ set inner None
    span ← span_from from
    pure (tree.the_stat span (tree.TypeAlias exported name gs t))

  unfoldable pub type_function : ℕ → Bool → Parser Stat
  type_function from exported = do
    read.expect set s.Function
    name ← read.name set
    b ← values.body set inner None
    span ← span_from from
    pure (tree.the_stat span (tree.TypeFunction exported name b))

  unfoldable pub type_statement : ℕ → Bool → Parser Stat
  type_statement from exported = do
    read.next set
    (λ p. if sees s.Function p then type_function from exported p else alias from exported p)

  unfoldable pub maybe_expressions : Parser Exprs
  maybe_expressions = λ p.
      if expressions.begins (symbol p) then (do
        es ← values.expressions set inner
        pure (exprs es)) p
      else Ok (tree.no_exprs, p)

  unfoldable pub return_statement : ℕ → Parser Stat
  return_statement from = do
    read.expect set s.Return
    es ← maybe_expressions
    span ← span_from from
    pure (tree.the_stat span (tree.Return es))

  unfoldable pub word_statement : ℕ → StatKind → Parser Stat
  word_statement from kind = do
    read.next set
    span ← span_from from
    pure (tree.the_stat span kind)

  unfoldable pub do_statement : ℕ → Parser Stat
  do_statement from = do
    b ← do_block
    span ← span_from from
    pure (tree.the_stat span (tree.Do b))

  -- a statement that begins with a name, which may be a word
  unfoldable pub name_statement : ℕ → Parser Stat
  name_statement from = λ p.
      if sees_continue p then word_statement from tree.Continue p
      else if sees_type p then type_statement from false p
      else if sees_export p then (read.next set >> type_statement from true) p
      else prefix_statement from p

  -- by its first symbol
  abbrev pub form_by : ℕ → Symbol → Parser Stat
  form_by from s.Name = name_statement from
  form_by from s.LeftParen = prefix_statement from
  form_by from s.Do = do_statement from
  form_by from s.While = while_statement from
  form_by from s.Repeat = repeat_statement from
  form_by from s.If = if_statement from
  form_by from s.For = for_statement from
  form_by from s.AtSign = attributed from
  form_by from s.Function = function_statement from
  form_by from s.Local = local_statement from
  form_by from s.Return = return_statement from
  form_by from s.Break = word_statement from tree.Break
  form_by from _ = read.refuse set

  unfoldable pub statement : Parser Stat
  statement p = form_by (start_of p) (symbol p) p

  -- one more, and the `;` behind it
  unfoldable pub another_statement : Statements → Parser Statements
  another_statement given = do
    x ← statement
    read.eat set s.Semicolon
    pure (record { found = given.found ++ x ∷ []; ended = is_last x })

  abbrev pub goes_statements : Statements → Place → Bool
  goes_statements given p = not given.ended && begins (symbol p)

  unfoldable pub block_inside : Parser Block
  block_inside = do
    all ← read.repeat set goes_statements another_statement (record { found = []; ended = false })
    pure (stats all.found)
