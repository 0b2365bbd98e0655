-- The parsers of statements and blocks, by two settings side by side.
use Rattle.std.proofs.Common.{ℕ, ◌+◌, ◌≤◌, Bool, true, false, List, [], ◌∷◌, ◌++◌, refl, Option, Some, None}
use Rattle.luau_tree.specs.declared.names.BinOp.{BinOp}
use Rattle.luau_tree.specs.Tree.{Expr, Block, Stat, StatKind, Bind}
use Rattle.luau_tree.specs.Tree as tree
use Rattle.luau_tree.specs.View.{exprs, binds, arms, stats}
use Rattle.luau_grammar.specs.declared.symbol.Symbol.{Symbol}
use Rattle.luau_grammar.specs.declared.symbol.Symbol.TheVariants as s
use Rattle.luau_grammar.specs.Places.{symbol, sees, start_of}
use Rattle.luau_grammar.specs.Operators.{compound_of}
use Rattle.luau_grammar.specs.Expressions as expressions
use Rattle.luau_grammar.specs.Statements.{is_last, is_variable, is_call, sees_continue, sees_type, sees_export}
use Rattle.luau_grammar.specs.Reading as read
use Rattle.luau_grammar.specs.Reading.{Setting, Parser, Readers, ◌>>=◌, pure, span_from, set_level}
use Rattle.luau_grammar.specs.ReadPhrases as phrases
use Rattle.luau_grammar.specs.ReadExpressions as values
use Rattle.luau_grammar.specs.ReadStatements as code
use Rattle.luau_grammar.specs.ReadStatements.{Statements}
use Rattle.grammar_faults.proofs.Local as near
use Rattle.grammar_faults.proofs.Local.{Local}
use Rattle.grammar_faults.proofs.LocalTypes.{LocalReaders}
use Rattle.grammar_faults.proofs.LocalExpressions as local_terms
use Rattle.grammar_faults.proofs.LocalStatements as locals
use Rattle.wider_rules.proofs.Beside.{Pair, top, Beside, both, choose, within, by_place, given, done, at_start, at_span, to_level, with_level}
use Rattle.wider_rules.proofs.BesideTokens.{w, refuses, any, token, token_low, eaten, a_name, raises}
use Rattle.wider_rules.proofs.BesideSteps.{steps, in_list, listed_from}
use Rattle.wider_rules.proofs.BesideTypes as types
use Rattle.wider_rules.proofs.BesideTypes.{Held, floor_low, ceil_low, floor_top, ceil_top}
use Rattle.wider_rules.proofs.BesideExpressions as terms

module _ (f : Pair) (lo : ℕ) (low high : Readers) (held : Held f (lo + 1) low high) where
  floor : f.low.limit ≤ top f
  floor = floor_top f

  ceil : top f ≤ top f
  ceil = ceil_top f

  exp_beside : Beside f lo (top f) (top f) (phrases.expression f.low low) (phrases.expression f.high high)
  exp_beside = types.exp_beside f lo (top f) floor ceil low high held

  block_beside : Beside f lo f.low.limit f.low.limit (phrases.block f.low low) (phrases.block f.high high)
  block_beside = types.block_beside f lo low high held

  several_beside : Beside f lo (top f) (top f) (values.expressions f.low low) (values.expressions f.high high)
  several_beside = terms.expressions_beside f lo low high held

  bind_beside : Beside f lo (top f) (top f) (values.bind f.low low) (values.bind f.high high)
  bind_beside = terms.bind_beside f lo low high held

  -- up to any level
  raised_end : {A : Type 0} {r v : Parser A} → Beside f lo (top f) f.low.limit r v → Beside f lo (top f) (top f) r v
  raised_end h = within f (top f) (top f) ceil (ceil_low f) h

  own_prefix_beside : Beside f lo (top f) (top f) (code.own_prefix f.low low) (code.own_prefix f.high high)
  unfolding code.own_prefix
  own_prefix_beside =
      with_level f (λ outer. values.prefix f.low low >>= (λ e. set_level outer >>= (λ _. pure e))) (λ outer. values.prefix f.high high >>= (λ e. set_level outer >>= (λ _. pure e)))
      (λ outer a b. both f (terms.prefix_beside f lo low high held) (λ e. both f (to_level f (top f) outer a b) (λ _. done f e)))
      (λ p b. (locals.own_prefix_local f.low low (w f) held.low_local).one p b)
      (λ p b. (locals.own_prefix_local f.high high (w f) held.high_local).one p b)

  pub variable_beside : Beside f lo (top f) (top f) (code.variable f.low low) (code.variable f.high high)
  unfolding code.variable
  variable_beside = (both f own_prefix_beside (λ e. choose f (λ _. is_variable e) (done f e) (refuses f)))

  pub assign_beside : (from : ℕ) (first : Expr) → Beside f lo (top f) (top f) (code.assign f.low low from first) (code.assign f.high high from first)
  unfolding code.assign
  assign_beside from first =
      (both f (listed_from f floor ceil variable_beside (first ∷ [])) (λ targets. both f (token f floor ceil s.Assign) (λ _. both f several_beside (λ es. both f (at_span f from) (λ span.
      done f (tree.the_stat span (tree.Assign (exprs targets) (exprs es))))))))

  pub compound_beside : (from : ℕ) (target : Expr) (op : BinOp) → Beside f lo (top f) (top f) (code.compound f.low low from target op) (code.compound f.high high from target op)
  unfolding code.compound
  compound_beside from target op =
      (both f (any f floor ceil) (λ _. both f exp_beside (λ value. both f (at_span f from) (λ span. done f (tree.the_stat span (tree.Compound target op value))))))

  pub prefix_by_beside : (from : ℕ) (e : Expr) (o : Option BinOp) → Beside f lo (top f) (top f) (code.prefix_by f.low low from e o) (code.prefix_by f.high high from e o)
  prefix_by_beside from e (Some op) = choose f (λ _. is_variable e) (compound_beside from e op) (refuses f)
  prefix_by_beside from e None =
      choose f (λ _. is_variable e) (assign_beside from e)
      (choose f (λ _. is_call e) (given f (λ p. tree.the_stat (record { start = from; end = p.last }) (tree.CallStat e))) (refuses f))

  pub behind_prefix_beside : (from : ℕ) (e : Expr) → Beside f lo (top f) (top f) (code.behind_prefix f.low low from e) (code.behind_prefix f.high high from e)
  unfolding code.behind_prefix
  behind_prefix_beside from e =
      by_place f (λ p. compound_of (symbol p)) (code.prefix_by f.low low from e) (code.prefix_by f.high high from e) (prefix_by_beside from e)

  pub prefix_statement_beside : (from : ℕ) → Beside f lo (top f) (top f) (code.prefix_statement f.low low from) (code.prefix_statement f.high high from)
  unfolding code.prefix_statement
  prefix_statement_beside from = (both f own_prefix_beside (behind_prefix_beside from))

  do_block_low : Beside f lo (top f) f.low.limit (code.do_block f.low low) (code.do_block f.high high)
  unfolding code.do_block
  do_block_low = both f (token_low f floor ceil s.Do) (λ _. both f block_beside (λ b. both f (token f (floor_low f) (ceil_low f) s.End) (λ _. done f b)))

  pub do_block_beside : Beside f lo (top f) (top f) (code.do_block f.low low) (code.do_block f.high high)
  do_block_beside = raised_end do_block_low

  pub while_beside : (from : ℕ) → Beside f lo (top f) (top f) (code.while_statement f.low low from) (code.while_statement f.high high from)
  unfolding code.while_statement
  while_beside from =
      (both f (token f floor ceil s.While) (λ _. both f exp_beside (λ cond. both f do_block_beside (λ b. both f (at_span f from) (λ span. done f (tree.the_stat span (tree.While cond b)))))))

  repeat_low : (from : ℕ) → Beside f lo (top f) f.low.limit (code.repeat_statement f.low low from) (code.repeat_statement f.high high from)
  unfolding code.repeat_statement
  repeat_low from =
      both f (token_low f floor ceil s.Repeat) (λ _. both f block_beside (λ b. both f (token f (floor_low f) (ceil_low f) s.Until) (λ _.
      both f (types.exp_beside f lo f.low.limit (floor_low f) (ceil_low f) low high held) (λ cond. both f (at_span f from) (λ span.
      done f (tree.the_stat span (tree.Repeat b cond)))))))

  pub repeat_beside : (from : ℕ) → Beside f lo (top f) (top f) (code.repeat_statement f.low low from) (code.repeat_statement f.high high from)
  repeat_beside from = raised_end (repeat_low from)

  arm_low : (word : Symbol) → Beside f lo (top f) f.low.limit (code.arm f.low low word) (code.arm f.high high word)
  unfolding code.arm
  arm_low word = both f (token f floor ceil word) (λ _. both f exp_beside (λ cond. both f (token_low f floor ceil s.Then) (λ _. both f block_beside (λ b. done f (cond, b)))))

  pub arm_beside : (word : Symbol) → Beside f lo (top f) (top f) (code.arm f.low low word) (code.arm f.high high word)
  arm_beside word = raised_end (arm_low word)

  pub another_arm_beside : (found : List (Expr × Block)) → Beside f lo (top f) (top f) (code.another_arm f.low low found) (code.another_arm f.high high found)
  unfolding code.another_arm
  another_arm_beside found = (both f (arm_beside s.ElseIf) (λ x. done f (found ++ x ∷ [])))

  pub all_arms_beside : Beside f lo (top f) (top f) (code.all_arms f.low low) (code.all_arms f.high high)
  unfolding code.all_arms
  all_arms_beside =
      (both f (arm_beside s.If) (λ first. both f
      (steps f lo (top f) (λ _ p. sees s.ElseIf p) (code.another_arm f.low low) (code.another_arm f.high high) another_arm_beside (first ∷ [])) (λ found. done f (arms found))))

  pub else_beside : Beside f lo (top f) (top f) (code.maybe_else f.low low) (code.maybe_else f.high high)
  unfolding code.maybe_else
  else_beside = choose f (sees s.Else) (raised_end (both f (token_low f floor ceil s.Else) (λ _. both f block_beside (λ b. done f (tree.a_block b))))) (done f tree.no_block)

  pub if_beside : (from : ℕ) → Beside f lo (top f) (top f) (code.if_statement f.low low from) (code.if_statement f.high high from)
  unfolding code.if_statement
  if_beside from =
      (both f all_arms_beside (λ found. both f else_beside (λ b. both f (token f floor ceil s.End) (λ _. both f (at_span f from) (λ span. done f (tree.the_stat span (tree.If found b)))))))

  pub step_beside : Beside f lo (top f) (top f) (code.maybe_step f.low low) (code.maybe_step f.high high)
  unfolding code.maybe_step
  step_beside = choose f (sees s.Comma) ((both f (token f floor ceil s.Comma) (λ _. both f exp_beside (λ e. done f (tree.an_expr e))))) (done f tree.no_expr)

  pub range_beside : Beside f lo (top f) (top f) (code.range f.low low) (code.range f.high high)
  unfolding code.range
  range_beside =
      (both f exp_beside (λ first. both f (token f floor ceil s.Comma) (λ _. both f exp_beside (λ to. both f step_beside (λ step.
      done f (record { first = first; to = to; step = step }))))))

  pub numeric_beside : (from : ℕ) (x : Bind) → Beside f lo (top f) (top f) (code.numeric_for f.low low from x) (code.numeric_for f.high high from x)
  unfolding code.numeric_for
  numeric_beside from x =
      (both f (token f floor ceil s.Assign) (λ _. both f range_beside (λ r. both f do_block_beside (λ b. both f (at_span f from) (λ span.
      done f (tree.the_stat span (tree.NumFor x r.first r.to r.step b)))))))

  pub generic_beside : (from : ℕ) (x : Bind) → Beside f lo (top f) (top f) (code.generic_for f.low low from x) (code.generic_for f.high high from x)
  unfolding code.generic_for
  generic_beside from x =
      (both f (listed_from f floor ceil bind_beside (x ∷ [])) (λ names. both f (token f floor ceil s.In) (λ _. both f several_beside (λ es. both f do_block_beside (λ b. both f (at_span f from) (λ span.
      done f (tree.the_stat span (tree.GenFor (binds names) (exprs es) b))))))))

  pub for_beside : (from : ℕ) → Beside f lo (top f) (top f) (code.for_statement f.low low from) (code.for_statement f.high high from)
  unfolding code.for_statement
  for_beside from =
      (both f (token f floor ceil s.For) (λ _. both f bind_beside (λ x. choose f (sees s.Assign) (numeric_beside from x) (generic_beside from x))))

  pub path_beside : Beside f lo (top f) (top f) (code.path f.low low) (code.path f.high high)
  unfolding code.path code.path_name
  path_beside =
      (both f (at_start f) (λ from. both f (terms.name_expression_beside f lo low high held) (λ first.
      steps f lo (top f) (λ _ p. sees s.Dot p) (values.index f.low low from) (values.index f.high high from) (terms.index_beside f lo low high held from) first)))

  pub method_name_beside : Beside f lo (top f) (top f) (code.method_name f.low low) (code.method_name f.high high)
  unfolding code.method_name
  method_name_beside =
      choose f (sees s.Colon)
      (both f (token_low f floor ceil s.Colon) (λ _. both f (raises f) (λ _. both f (at_start f) (λ from. both f (a_name f floor ceil) (λ name. both f (at_span f from) (λ span.
      done f (record { name = Some name; span = Some span })))))))
      (done f (record { name = None; span = None }))

  behind_function : (set : Setting) (inner : Readers) → LocalReaders (w f) inner → (from : ℕ)
      → Local (w f) 1 (read.level >>= (λ outer. code.path set inner >>= (λ way. code.method_name set inner >>= (λ method. set_level outer >>= (λ _.
      values.body set inner method.span >>= (λ b. span_from from >>= (λ span. pure (tree.the_stat span (tree.FunctionStat way method.name b)))))))))
  behind_function set inner h from =
      near.least 1 refl (near.both near.at_here (λ outer. near.both (locals.path_local set inner (w f) h) (λ way. near.both (locals.method_name_local set inner (w f) h) (λ method. near.both (near.to_level outer) (λ _.
      near.both (local_terms.body_local set inner (w f) h (method.span)) (λ b. near.both (near.at_span from) (λ span. near.done (tree.the_stat span (tree.FunctionStat way (method.name) b)))))))))

  pub function_beside : (from : ℕ) → Beside f lo (top f) (top f) (code.function_statement f.low low from) (code.function_statement f.high high from)
  unfolding code.function_statement
  function_beside from =
      both f (token f floor ceil s.Function) (λ _.
      with_level f
      (λ outer. code.path f.low low >>= (λ way. code.method_name f.low low >>= (λ method. set_level outer >>= (λ _.
      values.body f.low low method.span >>= (λ b. span_from from >>= (λ span. pure (tree.the_stat span (tree.FunctionStat way method.name b))))))))
      (λ outer. code.path f.high high >>= (λ way. code.method_name f.high high >>= (λ method. set_level outer >>= (λ _.
      values.body f.high high method.span >>= (λ b. span_from from >>= (λ span. pure (tree.the_stat span (tree.FunctionStat way method.name b))))))))
      (λ outer a b. both f path_beside (λ way. both f method_name_beside (λ method. both f (to_level f (top f) outer a b) (λ _.
      both f (terms.body_beside f lo low high held (method.span)) (λ b. both f (at_span f from) (λ span. done f (tree.the_stat span (tree.FunctionStat way (method.name) b))))))))
      (λ p l. (behind_function f.low low held.low_local from).one p l)
      (λ p l. (behind_function f.high high held.high_local from).one p l))

  pub local_function_beside : (from : ℕ) → Beside f lo (top f) (top f) (code.local_function f.low low from) (code.local_function f.high high from)
  unfolding code.local_function
  local_function_beside from =
      (both f (token f floor ceil s.Function) (λ _. both f (at_start f) (λ name_from. both f (a_name f floor ceil) (λ name. both f (at_span f name_from) (λ name_span.
      both f (terms.body_beside f lo low high held None) (λ b. both f (at_span f from) (λ span.
      done f (tree.the_stat span (tree.LocalFunction (tree.the_bind name name_span tree.no_type) b)))))))))

  pub values_beside : Beside f lo (top f) (top f) (code.maybe_values f.low low) (code.maybe_values f.high high)
  unfolding code.maybe_values
  values_beside = choose f (sees s.Assign) ((both f (token f floor ceil s.Assign) (λ _. both f several_beside (λ es. done f (exprs es))))) (done f tree.no_exprs)

  pub local_names_beside : (from : ℕ) → Beside f lo (top f) (top f) (code.local_names f.low low from) (code.local_names f.high high from)
  unfolding code.local_names
  local_names_beside from =
      (both f (in_list f floor ceil bind_beside) (λ names. both f values_beside (λ es. both f (at_span f from) (λ span. done f (tree.the_stat span (tree.Local (binds names) es))))))

  pub local_beside : (from : ℕ) → Beside f lo (top f) (top f) (code.local_statement f.low low from) (code.local_statement f.high high from)
  unfolding code.local_statement
  local_beside from = (both f (token f floor ceil s.Local) (λ _. choose f (sees s.Function) (local_function_beside from) (local_names_beside from)))

  pub attributed_beside : (from : ℕ) → Beside f lo (top f) (top f) (code.attributed f.low low from) (code.attributed f.high high from)
  unfolding code.attributed
  attributed_beside from =
      (both f (terms.attributes_beside f lo low high held) (λ _. choose f (sees s.Local)
      ((both f (token f floor ceil s.Local) (λ _. local_function_beside from))) (function_beside from)))

  pub alias_beside : (from : ℕ) (exported : Bool) → Beside f lo (top f) (top f) (code.alias f.low low from exported) (code.alias f.high high from exported)
  unfolding code.alias
  alias_beside from exported =
      (both f (a_name f floor ceil) (λ name. both f (types.generics_beside f lo (top f) floor ceil low high held true) (λ gs. both f (token f floor ceil s.Assign) (λ _. both f (types.typ_beside f lo (top f) floor ceil low high held) (λ t.
      both f (at_span f from) (λ span. done f (tree.the_stat span (tree.TypeAlias exported name gs t))))))))

  pub type_function_beside : (from : ℕ) (exported : Bool) → Beside f lo (top f) (top f) (code.type_function f.low low from exported) (code.type_function f.high high from exported)
  unfolding code.type_function
  type_function_beside from exported =
      (both f (token f floor ceil s.Function) (λ _. both f (a_name f floor ceil) (λ name. both f (terms.body_beside f lo low high held None) (λ b. both f (at_span f from) (λ span.
      done f (tree.the_stat span (tree.TypeFunction exported name b)))))))

  pub type_statement_beside : (from : ℕ) (exported : Bool) → Beside f lo (top f) (top f) (code.type_statement f.low low from exported) (code.type_statement f.high high from exported)
  unfolding code.type_statement
  type_statement_beside from exported =
      (both f (any f floor ceil) (λ _. choose f (sees s.Function) (type_function_beside from exported) (alias_beside from exported)))

  pub maybe_expressions_beside : Beside f lo (top f) (top f) (code.maybe_expressions f.low low) (code.maybe_expressions f.high high)
  unfolding code.maybe_expressions
  maybe_expressions_beside = choose f (λ p. expressions.begins (symbol p)) ((both f several_beside (λ es. done f (exprs es)))) (done f tree.no_exprs)

  pub return_beside : (from : ℕ) → Beside f lo (top f) (top f) (code.return_statement f.low low from) (code.return_statement f.high high from)
  unfolding code.return_statement
  return_beside from =
      (both f (token f floor ceil s.Return) (λ _. both f maybe_expressions_beside (λ es. both f (at_span f from) (λ span. done f (tree.the_stat span (tree.Return es))))))

  pub word_beside : (from : ℕ) (kind : StatKind) → Beside f lo (top f) (top f) (code.word_statement f.low low from kind) (code.word_statement f.high high from kind)
  unfolding code.word_statement
  word_beside from kind = (both f (any f floor ceil) (λ _. both f (at_span f from) (λ span. done f (tree.the_stat span kind))))

  pub do_beside : (from : ℕ) → Beside f lo (top f) (top f) (code.do_statement f.low low from) (code.do_statement f.high high from)
  unfolding code.do_statement
  do_beside from = (both f do_block_beside (λ b. both f (at_span f from) (λ span. done f (tree.the_stat span (tree.Do b)))))

  pub name_beside : (from : ℕ) → Beside f lo (top f) (top f) (code.name_statement f.low low from) (code.name_statement f.high high from)
  unfolding code.name_statement
  name_beside from =
      choose f sees_continue (word_beside from tree.Continue)
      (choose f sees_type (type_statement_beside from false)
      (choose f sees_export ((both f (any f floor ceil) (λ _. type_statement_beside from true))) (prefix_statement_beside from)))

  pub form_by_beside : (from : ℕ) (x : Symbol) → Beside f lo (top f) (top f) (code.form_by f.low low from x) (code.form_by f.high high from x)
  form_by_beside from s.Name = name_beside from
  form_by_beside from s.LeftParen = prefix_statement_beside from
  form_by_beside from s.Do = do_beside from
  form_by_beside from s.While = while_beside from
  form_by_beside from s.Repeat = repeat_beside from
  form_by_beside from s.If = if_beside from
  form_by_beside from s.For = for_beside from
  form_by_beside from s.AtSign = attributed_beside from
  form_by_beside from s.Function = function_beside from
  form_by_beside from s.Local = local_beside from
  form_by_beside from s.Return = return_beside from
  form_by_beside from s.Break = word_beside from tree.Break
  form_by_beside from _ = refuses f

  pub statement_beside : Beside f lo (top f) (top f) (code.statement f.low low) (code.statement f.high high)
  unfolding code.statement
  statement_beside =
      by_place f start_of (λ from p. code.form_by f.low low from (symbol p) p) (λ from p. code.form_by f.high high from (symbol p) p)
      (λ from. by_place f symbol (code.form_by f.low low from) (code.form_by f.high high from) (form_by_beside from))

  pub another_beside : (x : Statements) → Beside f lo (top f) (top f) (code.another_statement f.low low x) (code.another_statement f.high high x)
  unfolding code.another_statement
  another_beside x =
      (both f statement_beside (λ y. both f (eaten f floor ceil s.Semicolon) (λ _. done f (record { found = x.found ++ y ∷ []; ended = is_last y }))))

  pub block_inside_beside : Beside f lo (top f) (top f) (code.block_inside f.low low) (code.block_inside f.high high)
  unfolding code.block_inside
  block_inside_beside =
      (both f (steps f lo (top f) (code.goes_statements f.low low) (code.another_statement f.low low) (code.another_statement f.high high) another_beside (record { found = []; ended = false }))
      (λ all. done f (stats all.found)))
