-- The parsers of statements and blocks depend on what they take.
use Rattle.std.proofs.Common.{ℕ, Bool, true, false, not, List, [], ◌∷◌, ◌++◌, refl, codes, Option, Some, None}
use Rattle.luau_tree.specs.declared.names.BinOp.{BinOp}
use Rattle.luau_tree.specs.Tree.{Expr, Block, StatKind, Bind}
use Rattle.luau_tree.specs.Tree as tree
use Rattle.luau_tree.specs.View.{exprs, binds, arms, stats}
use Rattle.luau_grammar.specs.declared.symbol.Symbol.{Symbol}
use Rattle.luau_grammar.specs.declared.symbol.Symbol.TheVariants as s
use Rattle.luau_grammar.specs.Places.{symbol, sees, start_of}
use Rattle.luau_grammar.specs.Operators.{compound_of}
use Rattle.luau_grammar.specs.Expressions as expressions
use Rattle.luau_grammar.specs.Statements.{begins, closes, is_last, is_variable, is_call, sees_continue, sees_type, sees_export}
use Rattle.luau_grammar.specs.Reading.{Setting, Readers}
use Rattle.luau_grammar.specs.ReadPhrases as phrases
use Rattle.luau_grammar.specs.ReadExpressions as values
use Rattle.luau_grammar.specs.ReadStatements as code
use Rattle.luau_grammar.specs.ReadStatements.{Statements}
use Rattle.grammar_faults.proofs.Local.{Tails, Local, Peeks, both, choose, least, done, given, at_start, at_here, at_span, to_level, peeks_sees, peeks_sees_behind, peeks_word, peeks_const, peeks_of, peeks_and, peeks_or, peeks_symbol, peeks_behind, peeks_start, peeks_last, peeks_second_bytes}
use Rattle.grammar_faults.proofs.LocalCases.{by_symbol}
use Rattle.grammar_faults.proofs.LocalTokens.{refuses, any, token, eaten, a_name, raises}
use Rattle.grammar_faults.proofs.LocalSteps.{steps, in_list, listed_from}
use Rattle.grammar_faults.proofs.LocalTypes as types
use Rattle.grammar_faults.proofs.LocalTypes.{LocalReaders}
use Rattle.grammar_faults.proofs.LocalExpressions as terms

module _ {w : Tails} where
  peeks_continue : Peeks w sees_continue
  peeks_continue = peeks_and (peeks_word (codes "continue")) (peeks_of closes peeks_behind)

  peeks_type : Peeks w sees_type
  peeks_type = peeks_and (peeks_word (codes "type")) (peeks_or (peeks_sees_behind s.Name) (peeks_sees_behind s.Function))

  peeks_export : Peeks w sees_export
  peeks_export = peeks_and (peeks_word (codes "export")) (peeks_and (peeks_sees_behind s.Name) (peeks_second_bytes (codes "type")))

module _ (set : Setting) (inner : Readers) (w : Tails) (held : LocalReaders w inner) where
  pub exp_local : Local w 1 (phrases.expression set inner)
  exp_local = types.exp_local set inner w held

  pub block_local : Local w 0 (phrases.block set inner)
  block_local = types.block_local set inner w held

  pub several_local : Local w 1 (values.expressions set inner)
  several_local = terms.expressions_local set inner w held

  pub bind_local : Local w 1 (values.bind set inner)
  bind_local = terms.bind_local set inner w held

  pub own_prefix_local : Local w 1 (code.own_prefix set inner)
  unfolding code.own_prefix
  own_prefix_local = least 1 refl (both at_here (λ outer. both (terms.prefix_local set inner w held) (λ e. both (to_level outer) (λ _. done e))))

  pub variable_local : Local w 1 (code.variable set inner)
  unfolding code.variable
  variable_local = least 1 refl (both own_prefix_local (λ e. choose (peeks_const (is_variable e)) (done e) (refuses set 0)))

  pub assign_local : (from : ℕ) (first : Expr) → Local w 1 (code.assign set inner from first)
  unfolding code.assign
  assign_local from first =
      least 1 refl (both (listed_from set variable_local (first ∷ [])) (λ targets. both (token set s.Assign) (λ _. both several_local (λ es. both (at_span from) (λ span.
      done (tree.the_stat span (tree.Assign (exprs targets) (exprs es))))))))

  pub compound_local : (from : ℕ) (target : Expr) (op : BinOp) → Local w 1 (code.compound set inner from target op)
  unfolding code.compound
  compound_local from target op =
      least 1 refl (both (any set) (λ _. both exp_local (λ value. both (at_span from) (λ span. done (tree.the_stat span (tree.Compound target op value))))))

  pub prefix_by_local : (from : ℕ) (e : Expr) (o : Option BinOp) → Local w 0 (code.prefix_by set inner from e o)
  prefix_by_local from e (Some op) = choose (peeks_const (is_variable e)) (least 0 refl (compound_local from e op)) (refuses set 0)
  prefix_by_local from e None =
      choose (peeks_const (is_variable e)) (least 0 refl (assign_local from e))
      (choose (peeks_const (is_call e)) (given (peeks_of (λ z. tree.the_stat (record { start = from; end = z }) (tree.CallStat e)) peeks_last)) (refuses set 0))

  pub behind_prefix_local : (from : ℕ) (e : Expr) → Local w 0 (code.behind_prefix set inner from e)
  unfolding code.behind_prefix
  behind_prefix_local from e =
      by_symbol (λ p. compound_of (symbol p)) (code.prefix_by set inner from e) (peeks_of compound_of peeks_symbol) (prefix_by_local from e)

  pub prefix_statement_local : (from : ℕ) → Local w 1 (code.prefix_statement set inner from)
  unfolding code.prefix_statement
  prefix_statement_local from = least 1 refl (both own_prefix_local (behind_prefix_local from))

  pub do_block_local : Local w 1 (code.do_block set inner)
  unfolding code.do_block
  do_block_local = least 1 refl (both (token set s.Do) (λ _. both block_local (λ b. both (token set s.End) (λ _. done b))))

  pub while_local : (from : ℕ) → Local w 1 (code.while_statement set inner from)
  unfolding code.while_statement
  while_local from =
      least 1 refl (both (token set s.While) (λ _. both exp_local (λ cond. both do_block_local (λ b. both (at_span from) (λ span. done (tree.the_stat span (tree.While cond b)))))))

  pub repeat_local : (from : ℕ) → Local w 1 (code.repeat_statement set inner from)
  unfolding code.repeat_statement
  repeat_local from =
      least 1 refl (both (token set s.Repeat) (λ _. both block_local (λ b. both (token set s.Until) (λ _. both exp_local (λ cond. both (at_span from) (λ span.
      done (tree.the_stat span (tree.Repeat b cond))))))))

  pub arm_local : (word : Symbol) → Local w 1 (code.arm set inner word)
  unfolding code.arm
  arm_local word = least 1 refl (both (token set word) (λ _. both exp_local (λ cond. both (token set s.Then) (λ _. both block_local (λ b. done (cond, b))))))

  pub another_arm_local : (found : List (Expr × Block)) → Local w 1 (code.another_arm set inner found)
  unfolding code.another_arm
  another_arm_local found = least 1 refl (both (arm_local s.ElseIf) (λ x. done (found ++ x ∷ [])))

  pub all_arms_local : Local w 1 (code.all_arms set inner)
  unfolding code.all_arms
  all_arms_local =
      least 1 refl (both (arm_local s.If) (λ first. both
      (steps set (λ _ p. sees s.ElseIf p) (code.another_arm set inner) (λ _. peeks_sees s.ElseIf) another_arm_local (first ∷ [])) (λ found. done (arms found))))

  pub else_local : Local w 0 (code.maybe_else set inner)
  unfolding code.maybe_else
  else_local = choose (peeks_sees s.Else) (least 0 refl (both (token set s.Else) (λ _. both block_local (λ b. done (tree.a_block b))))) (done tree.no_block)

  pub if_local : (from : ℕ) → Local w 1 (code.if_statement set inner from)
  unfolding code.if_statement
  if_local from =
      least 1 refl (both all_arms_local (λ found. both else_local (λ b. both (token set s.End) (λ _. both (at_span from) (λ span. done (tree.the_stat span (tree.If found b)))))))

  pub step_local : Local w 0 (code.maybe_step set inner)
  unfolding code.maybe_step
  step_local = choose (peeks_sees s.Comma) (least 0 refl (both (token set s.Comma) (λ _. both exp_local (λ e. done (tree.an_expr e))))) (done tree.no_expr)

  pub range_local : Local w 1 (code.range set inner)
  unfolding code.range
  range_local =
      least 1 refl (both exp_local (λ first. both (token set s.Comma) (λ _. both exp_local (λ to. both step_local (λ step.
      done (record { first = first; to = to; step = step }))))))

  pub numeric_local : (from : ℕ) (x : Bind) → Local w 1 (code.numeric_for set inner from x)
  unfolding code.numeric_for
  numeric_local from x =
      least 1 refl (both (token set s.Assign) (λ _. both range_local (λ r. both do_block_local (λ b. both (at_span from) (λ span.
      done (tree.the_stat span (tree.NumFor x r.first r.to r.step b)))))))

  pub generic_local : (from : ℕ) (x : Bind) → Local w 1 (code.generic_for set inner from x)
  unfolding code.generic_for
  generic_local from x =
      least 1 refl (both (listed_from set bind_local (x ∷ [])) (λ names. both (token set s.In) (λ _. both several_local (λ es. both do_block_local (λ b. both (at_span from) (λ span.
      done (tree.the_stat span (tree.GenFor (binds names) (exprs es) b))))))))

  pub for_local : (from : ℕ) → Local w 1 (code.for_statement set inner from)
  unfolding code.for_statement
  for_local from =
      least 1 refl (both (token set s.For) (λ _. both bind_local (λ x. choose (peeks_sees s.Assign) (numeric_local from x) (generic_local from x))))

  pub path_local : Local w 1 (code.path set inner)
  unfolding code.path code.path_name
  path_local =
      least 1 refl (both at_start (λ from. both (terms.name_expression_local set inner w held) (λ first.
      steps set (λ _ p. sees s.Dot p) (values.index set inner from) (λ _. peeks_sees s.Dot) (terms.index_local set inner w held from) first)))

  pub method_name_local : Local w 0 (code.method_name set inner)
  unfolding code.method_name
  method_name_local =
      choose (peeks_sees s.Colon)
      (least 0 refl (both (token set s.Colon) (λ _. both (raises set) (λ _. both at_start (λ from. both (a_name set) (λ name. both (at_span from) (λ span.
      done (record { name = Some name; span = Some span }))))))))
      (done (record { name = None; span = None }))

  pub function_local : (from : ℕ) → Local w 1 (code.function_statement set inner from)
  unfolding code.function_statement
  function_local from =
      least 1 refl (both (token set s.Function) (λ _. both at_here (λ outer. both path_local (λ way. both method_name_local (λ method. both (to_level outer) (λ _.
      both (terms.body_local set inner w held (method.span)) (λ b. both (at_span from) (λ span. done (tree.the_stat span (tree.FunctionStat way (method.name) b))))))))))

  pub local_function_local : (from : ℕ) → Local w 1 (code.local_function set inner from)
  unfolding code.local_function
  local_function_local from =
      least 1 refl (both (token set s.Function) (λ _. both at_start (λ name_from. both (a_name set) (λ name. both (at_span name_from) (λ name_span.
      both (terms.body_local set inner w held None) (λ b. both (at_span from) (λ span.
      done (tree.the_stat span (tree.LocalFunction (tree.the_bind name name_span tree.no_type) b)))))))))

  pub values_local : Local w 0 (code.maybe_values set inner)
  unfolding code.maybe_values
  values_local = choose (peeks_sees s.Assign) (least 0 refl (both (token set s.Assign) (λ _. both several_local (λ es. done (exprs es))))) (done tree.no_exprs)

  pub local_names_local : (from : ℕ) → Local w 1 (code.local_names set inner from)
  unfolding code.local_names
  local_names_local from =
      least 1 refl (both (in_list set bind_local) (λ names. both values_local (λ es. both (at_span from) (λ span. done (tree.the_stat span (tree.Local (binds names) es))))))

  pub local_local : (from : ℕ) → Local w 1 (code.local_statement set inner from)
  unfolding code.local_statement
  local_local from = least 1 refl (both (token set s.Local) (λ _. choose (peeks_sees s.Function) (local_function_local from) (local_names_local from)))

  pub attributed_local : (from : ℕ) → Local w 1 (code.attributed set inner from)
  unfolding code.attributed
  attributed_local from =
      least 1 refl (both (terms.attributes_local set inner w held) (λ _. choose (peeks_sees s.Local)
      (least 1 refl (both (token set s.Local) (λ _. local_function_local from))) (function_local from)))

  pub alias_local : (from : ℕ) (exported : Bool) → Local w 1 (code.alias set inner from exported)
  unfolding code.alias
  alias_local from exported =
      least 1 refl (both (a_name set) (λ name. both (types.generics_local set inner w held true) (λ gs. both (token set s.Assign) (λ _. both (types.typ_local set inner w held) (λ t.
      both (at_span from) (λ span. done (tree.the_stat span (tree.TypeAlias exported name gs t))))))))

  pub type_function_local : (from : ℕ) (exported : Bool) → Local w 1 (code.type_function set inner from exported)
  unfolding code.type_function
  type_function_local from exported =
      least 1 refl (both (token set s.Function) (λ _. both (a_name set) (λ name. both (terms.body_local set inner w held None) (λ b. both (at_span from) (λ span.
      done (tree.the_stat span (tree.TypeFunction exported name b)))))))

  pub type_statement_local : (from : ℕ) (exported : Bool) → Local w 1 (code.type_statement set inner from exported)
  unfolding code.type_statement
  type_statement_local from exported =
      least 1 refl (both (any set) (λ _. choose (peeks_sees s.Function) (type_function_local from exported) (alias_local from exported)))

  pub maybe_expressions_local : Local w 0 (code.maybe_expressions set inner)
  unfolding code.maybe_expressions
  maybe_expressions_local = choose (peeks_of expressions.begins peeks_symbol) (least 0 refl (both several_local (λ es. done (exprs es)))) (done tree.no_exprs)

  pub return_local : (from : ℕ) → Local w 1 (code.return_statement set inner from)
  unfolding code.return_statement
  return_local from =
      least 1 refl (both (token set s.Return) (λ _. both maybe_expressions_local (λ es. both (at_span from) (λ span. done (tree.the_stat span (tree.Return es))))))

  pub word_local : (from : ℕ) (kind : StatKind) → Local w 1 (code.word_statement set inner from kind)
  unfolding code.word_statement
  word_local from kind = least 1 refl (both (any set) (λ _. both (at_span from) (λ span. done (tree.the_stat span kind))))

  pub do_local : (from : ℕ) → Local w 1 (code.do_statement set inner from)
  unfolding code.do_statement
  do_local from = least 1 refl (both do_block_local (λ b. both (at_span from) (λ span. done (tree.the_stat span (tree.Do b)))))

  pub name_local : (from : ℕ) → Local w 1 (code.name_statement set inner from)
  unfolding code.name_statement
  name_local from =
      choose peeks_continue (word_local from tree.Continue)
      (choose peeks_type (type_statement_local from false)
      (choose peeks_export (least 1 refl (both (any set) (λ _. type_statement_local from true))) (prefix_statement_local from)))

  pub form_by_local : (from : ℕ) (x : Symbol) → Local w 1 (code.form_by set inner from x)
  form_by_local from s.Name = name_local from
  form_by_local from s.LeftParen = prefix_statement_local from
  form_by_local from s.Do = do_local from
  form_by_local from s.While = while_local from
  form_by_local from s.Repeat = repeat_local from
  form_by_local from s.If = if_local from
  form_by_local from s.For = for_local from
  form_by_local from s.AtSign = attributed_local from
  form_by_local from s.Function = function_local from
  form_by_local from s.Local = local_local from
  form_by_local from s.Return = return_local from
  form_by_local from s.Break = word_local from tree.Break
  form_by_local from _ = refuses set 1

  pub statement_local : Local w 1 (code.statement set inner)
  unfolding code.statement
  statement_local =
      by_symbol start_of (λ from p. code.form_by set inner from (symbol p) p) peeks_start
      (λ from. by_symbol symbol (code.form_by set inner from) peeks_symbol (form_by_local from))

  pub another_local : (x : Statements) → Local w 1 (code.another_statement set inner x)
  unfolding code.another_statement
  another_local x =
      least 1 refl (both statement_local (λ y. both (eaten set s.Semicolon) (λ _. done (record { found = x.found ++ y ∷ []; ended = is_last y }))))

  peeks_goes : (x : Statements) → Peeks w (code.goes_statements set inner x)
  peeks_goes x = peeks_and (peeks_const (not x.ended)) (peeks_of begins peeks_symbol)

  pub block_inside_local : Local w 0 (code.block_inside set inner)
  unfolding code.block_inside
  block_inside_local =
      least 0 refl (both (steps set (code.goes_statements set inner) (code.another_statement set inner) peeks_goes another_local (record { found = []; ended = false }))
      (λ all. done (stats all.found)))
