-- The parsers of statements and blocks depend on what they take.
use Rattle.std.proofs.Common.{ℕ, Bool, true, false, not, ◌&&◌, ◌||◌, bytes_eq, List, [], ◌∷◌, ◌++◌, refl, codes, Option, Some, None}
use Rattle.luau_tree.specs.declared.names.BinOp.{BinOp}
use Rattle.luau_tree.specs.Tree.{Expr, Block, Stat, StatKind, Bind}
use Rattle.luau_tree.specs.Tree as tree
use Rattle.luau_tree.specs.View.{exprs, binds, arms, stats}
use Rattle.luau_grammar.specs.declared.symbol.Symbol.{Symbol}
use Rattle.luau_grammar.specs.declared.symbol.Symbol.TheVariants as s
use Rattle.luau_grammar.specs.Places.{symbol, symbol_behind, sees, sees_behind, start_of}
use Rattle.luau_grammar.specs.Operators.{compound_of}
use Rattle.luau_grammar.specs.Expressions as expressions
use Rattle.luau_grammar.specs.Statements.{begins, closes, second_bytes, is_last, is_variable, is_call, sees_continue, sees_type, sees_export}
use Rattle.luau_grammar.specs.Reading as read
use Rattle.luau_grammar.specs.Reading.{Setting, Parser, Readers, ◌>>=◌, ◌>>◌}
use Rattle.luau_grammar.specs.ReadPhrases as phrases
use Rattle.luau_grammar.specs.ReadExpressions as values
use Rattle.luau_grammar.specs.ReadStatements as code
use Rattle.luau_grammar.specs.ReadStatements.{Statements}
use Rattle.other_ends.proofs.Fork.{Fork, Forked, Peeks, Peeks2, Names, both, choose, either_name, least, done, given, at_start, at_here, at_span, to_level, peeks_sees, peeks_const, peeks_of, peeks_and, peeks_symbol, peeks_start, peeks_last}
use Rattle.other_ends.proofs.ForkCases.{by_symbol}
use Rattle.other_ends.proofs.ForkNames.{two_word, behind_sees, behind_of, behind_bytes, behind_or, behind_and, next_names, names_then, names_if}
use Rattle.other_ends.proofs.ForkTokens.{refuses, any, token, eaten, a_name, raises}
use Rattle.other_ends.proofs.ForkSteps.{steps, in_list, listed_from}
use Rattle.other_ends.proofs.ForkTypes as types
use Rattle.other_ends.proofs.ForkTypes.{ForkReaders}
use Rattle.other_ends.proofs.ForkExpressions as terms

module _ {w : Fork} where
  two_continue : Peeks2 w sees_continue
  two_continue = two_word (codes "continue") (λ p. closes (symbol_behind p)) (behind_of closes)

  two_type : Peeks2 w sees_type
  two_type = two_word (codes "type") (λ p. sees_behind s.Name p || sees_behind s.Function p) (behind_or (behind_sees s.Name) (behind_sees s.Function))

  two_export : Peeks2 w sees_export
  two_export =
      two_word (codes "export") (λ p. sees_behind s.Name p && bytes_eq (second_bytes p.ahead) (codes "type")) (behind_and (behind_sees s.Name) (behind_bytes (codes "type")))

module _ (set : Setting) (inner : Readers) (w : Fork) (held : ForkReaders set w inner) where
  pub exp_forked : Forked w 1 (phrases.expression set inner)
  exp_forked = types.exp_forked set inner w held

  pub block_forked : Forked w 0 (phrases.block set inner)
  block_forked = types.block_forked set inner w held

  pub several_forked : Forked w 1 (values.expressions set inner)
  several_forked = terms.expressions_forked set inner w held

  pub bind_forked : Forked w 1 (values.bind set inner)
  bind_forked = terms.bind_forked set inner w held

  pub own_prefix_forked : Forked w 1 (code.own_prefix set inner)
  unfolding code.own_prefix
  own_prefix_forked = least 1 refl (both at_here (λ outer. both (terms.prefix_forked set inner w held) (λ e. both (to_level outer) (λ _. done e))))

  pub variable_forked : Forked w 1 (code.variable set inner)
  unfolding code.variable
  variable_forked = least 1 refl (both own_prefix_forked (λ e. choose (peeks_const (is_variable e)) (done e) (refuses set 0)))

  pub assign_forked : (from : ℕ) (first : Expr) → Forked w 1 (code.assign set inner from first)
  unfolding code.assign
  assign_forked from first =
      least 1 refl (both (listed_from set variable_forked (first ∷ [])) (λ targets. both (token set s.Assign) (λ _. both several_forked (λ es. both (at_span from) (λ span.
      done (tree.the_stat span (tree.Assign (exprs targets) (exprs es))))))))

  pub compound_forked : (from : ℕ) (target : Expr) (op : BinOp) → Forked w 1 (code.compound set inner from target op)
  unfolding code.compound
  compound_forked from target op =
      least 1 refl (both (any set) (λ _. both exp_forked (λ value. both (at_span from) (λ span. done (tree.the_stat span (tree.Compound target op value))))))

  pub prefix_by_forked : (from : ℕ) (e : Expr) (o : Option BinOp) → Forked w 0 (code.prefix_by set inner from e o)
  prefix_by_forked from e (Some op) = choose (peeks_const (is_variable e)) (least 0 refl (compound_forked from e op)) (refuses set 0)
  prefix_by_forked from e None =
      choose (peeks_const (is_variable e)) (least 0 refl (assign_forked from e))
      (choose (peeks_const (is_call e)) (given (peeks_of (λ z. tree.the_stat (record { start = from; end = z }) (tree.CallStat e)) peeks_last)) (refuses set 0))

  pub behind_prefix_forked : (from : ℕ) (e : Expr) → Forked w 0 (code.behind_prefix set inner from e)
  unfolding code.behind_prefix
  behind_prefix_forked from e =
      by_symbol (λ p. compound_of (symbol p)) (code.prefix_by set inner from e) (peeks_of compound_of peeks_symbol) (prefix_by_forked from e)

  pub prefix_statement_forked : (from : ℕ) → Forked w 1 (code.prefix_statement set inner from)
  unfolding code.prefix_statement
  prefix_statement_forked from = least 1 refl (both own_prefix_forked (behind_prefix_forked from))

  pub do_block_forked : Forked w 1 (code.do_block set inner)
  unfolding code.do_block
  do_block_forked = least 1 refl (both (token set s.Do) (λ _. both block_forked (λ b. both (token set s.End) (λ _. done b))))

  pub while_forked : (from : ℕ) → Forked w 1 (code.while_statement set inner from)
  unfolding code.while_statement
  while_forked from =
      least 1 refl (both (token set s.While) (λ _. both exp_forked (λ cond. both do_block_forked (λ b. both (at_span from) (λ span. done (tree.the_stat span (tree.While cond b)))))))

  pub repeat_forked : (from : ℕ) → Forked w 1 (code.repeat_statement set inner from)
  unfolding code.repeat_statement
  repeat_forked from =
      least 1 refl (both (token set s.Repeat) (λ _. both block_forked (λ b. both (token set s.Until) (λ _. both exp_forked (λ cond. both (at_span from) (λ span.
      done (tree.the_stat span (tree.Repeat b cond))))))))

  pub arm_forked : (word : Symbol) → Forked w 1 (code.arm set inner word)
  unfolding code.arm
  arm_forked word = least 1 refl (both (token set word) (λ _. both exp_forked (λ cond. both (token set s.Then) (λ _. both block_forked (λ b. done (cond, b))))))

  pub another_arm_forked : (found : List (Expr × Block)) → Forked w 1 (code.another_arm set inner found)
  unfolding code.another_arm
  another_arm_forked found = least 1 refl (both (arm_forked s.ElseIf) (λ x. done (found ++ x ∷ [])))

  pub all_arms_forked : Forked w 1 (code.all_arms set inner)
  unfolding code.all_arms
  all_arms_forked =
      least 1 refl (both (arm_forked s.If) (λ first. both
      (steps set (λ _ p. sees s.ElseIf p) (code.another_arm set inner) (λ _. peeks_sees s.ElseIf) another_arm_forked (first ∷ [])) (λ found. done (arms found))))

  pub else_forked : Forked w 0 (code.maybe_else set inner)
  unfolding code.maybe_else
  else_forked = choose (peeks_sees s.Else) (least 0 refl (both (token set s.Else) (λ _. both block_forked (λ b. done (tree.a_block b))))) (done tree.no_block)

  pub if_forked : (from : ℕ) → Forked w 1 (code.if_statement set inner from)
  unfolding code.if_statement
  if_forked from =
      least 1 refl (both all_arms_forked (λ found. both else_forked (λ b. both (token set s.End) (λ _. both (at_span from) (λ span. done (tree.the_stat span (tree.If found b)))))))

  pub step_forked : Forked w 0 (code.maybe_step set inner)
  unfolding code.maybe_step
  step_forked = choose (peeks_sees s.Comma) (least 0 refl (both (token set s.Comma) (λ _. both exp_forked (λ e. done (tree.an_expr e))))) (done tree.no_expr)

  pub range_forked : Forked w 1 (code.range set inner)
  unfolding code.range
  range_forked =
      least 1 refl (both exp_forked (λ first. both (token set s.Comma) (λ _. both exp_forked (λ to. both step_forked (λ step.
      done (record { first = first; to = to; step = step }))))))

  pub numeric_forked : (from : ℕ) (x : Bind) → Forked w 1 (code.numeric_for set inner from x)
  unfolding code.numeric_for
  numeric_forked from x =
      least 1 refl (both (token set s.Assign) (λ _. both range_forked (λ r. both do_block_forked (λ b. both (at_span from) (λ span.
      done (tree.the_stat span (tree.NumFor x r.first r.to r.step b)))))))

  pub generic_forked : (from : ℕ) (x : Bind) → Forked w 1 (code.generic_for set inner from x)
  unfolding code.generic_for
  generic_forked from x =
      least 1 refl (both (listed_from set bind_forked (x ∷ [])) (λ names. both (token set s.In) (λ _. both several_forked (λ es. both do_block_forked (λ b. both (at_span from) (λ span.
      done (tree.the_stat span (tree.GenFor (binds names) (exprs es) b))))))))

  pub for_forked : (from : ℕ) → Forked w 1 (code.for_statement set inner from)
  unfolding code.for_statement
  for_forked from =
      least 1 refl (both (token set s.For) (λ _. both bind_forked (λ x. choose (peeks_sees s.Assign) (numeric_forked from x) (generic_forked from x))))

  pub path_forked : Forked w 1 (code.path set inner)
  unfolding code.path code.path_name
  path_forked =
      least 1 refl (both at_start (λ from. both (terms.name_expression_forked set inner w held) (λ first.
      steps set (λ _ p. sees s.Dot p) (values.index set inner from) (λ _. peeks_sees s.Dot) (terms.index_forked set inner w held from) first)))

  pub method_name_forked : Forked w 0 (code.method_name set inner)
  unfolding code.method_name
  method_name_forked =
      choose (peeks_sees s.Colon)
      (least 0 refl (both (token set s.Colon) (λ _. both (raises set) (λ _. both at_start (λ from. both (a_name set) (λ name. both (at_span from) (λ span.
      done (record { name = Some name; span = Some span }))))))))
      (done (record { name = None; span = None }))

  pub function_forked : (from : ℕ) → Forked w 1 (code.function_statement set inner from)
  unfolding code.function_statement
  function_forked from =
      least 1 refl (both (token set s.Function) (λ _. both at_here (λ outer. both path_forked (λ way. both method_name_forked (λ method. both (to_level outer) (λ _.
      both (terms.body_forked set inner w held (method.span)) (λ b. both (at_span from) (λ span. done (tree.the_stat span (tree.FunctionStat way (method.name) b))))))))))

  pub local_function_forked : (from : ℕ) → Forked w 1 (code.local_function set inner from)
  unfolding code.local_function
  local_function_forked from =
      least 1 refl (both (token set s.Function) (λ _. both at_start (λ name_from. both (a_name set) (λ name. both (at_span name_from) (λ name_span.
      both (terms.body_forked set inner w held None) (λ b. both (at_span from) (λ span.
      done (tree.the_stat span (tree.LocalFunction (tree.the_bind name name_span tree.no_type) b)))))))))

  pub values_forked : Forked w 0 (code.maybe_values set inner)
  unfolding code.maybe_values
  values_forked = choose (peeks_sees s.Assign) (least 0 refl (both (token set s.Assign) (λ _. both several_forked (λ es. done (exprs es))))) (done tree.no_exprs)

  pub local_names_forked : (from : ℕ) → Forked w 1 (code.local_names set inner from)
  unfolding code.local_names
  local_names_forked from =
      least 1 refl (both (in_list set bind_forked) (λ names. both values_forked (λ es. both (at_span from) (λ span. done (tree.the_stat span (tree.Local (binds names) es))))))

  pub local_forked : (from : ℕ) → Forked w 1 (code.local_statement set inner from)
  unfolding code.local_statement
  local_forked from = least 1 refl (both (token set s.Local) (λ _. choose (peeks_sees s.Function) (local_function_forked from) (local_names_forked from)))

  pub attributed_forked : (from : ℕ) → Forked w 1 (code.attributed set inner from)
  unfolding code.attributed
  attributed_forked from =
      least 1 refl (both (terms.attributes_forked set inner w held) (λ _. choose (peeks_sees s.Local)
      (least 1 refl (both (token set s.Local) (λ _. local_function_forked from))) (function_forked from)))

  pub alias_forked : (from : ℕ) (exported : Bool) → Forked w 1 (code.alias set inner from exported)
  unfolding code.alias
  alias_forked from exported =
      least 1 refl (both (a_name set) (λ name. both (types.generics_forked set inner w held true) (λ gs. both (token set s.Assign) (λ _. both (types.typ_forked set inner w held) (λ t.
      both (at_span from) (λ span. done (tree.the_stat span (tree.TypeAlias exported name gs t))))))))

  pub type_function_forked : (from : ℕ) (exported : Bool) → Forked w 1 (code.type_function set inner from exported)
  unfolding code.type_function
  type_function_forked from exported =
      least 1 refl (both (token set s.Function) (λ _. both (a_name set) (λ name. both (terms.body_forked set inner w held None) (λ b. both (at_span from) (λ span.
      done (tree.the_stat span (tree.TypeFunction exported name b)))))))

  pub type_statement_forked : (from : ℕ) (exported : Bool) → Forked w 1 (code.type_statement set inner from exported)
  unfolding code.type_statement
  type_statement_forked from exported =
      least 1 refl (both (any set) (λ _. choose (peeks_sees s.Function) (type_function_forked from exported) (alias_forked from exported)))

  pub maybe_expressions_forked : Forked w 0 (code.maybe_expressions set inner)
  unfolding code.maybe_expressions
  maybe_expressions_forked = choose (peeks_of expressions.begins peeks_symbol) (least 0 refl (both several_forked (λ es. done (exprs es)))) (done tree.no_exprs)

  pub return_forked : (from : ℕ) → Forked w 1 (code.return_statement set inner from)
  unfolding code.return_statement
  return_forked from =
      least 1 refl (both (token set s.Return) (λ _. both maybe_expressions_forked (λ es. both (at_span from) (λ span. done (tree.the_stat span (tree.Return es))))))

  pub word_forked : (from : ℕ) (kind : StatKind) → Forked w 1 (code.word_statement set inner from kind)
  unfolding code.word_statement
  word_forked from kind = least 1 refl (both (any set) (λ _. both (at_span from) (λ span. done (tree.the_stat span kind))))

  pub do_forked : (from : ℕ) → Forked w 1 (code.do_statement set inner from)
  unfolding code.do_statement
  do_forked from = least 1 refl (both do_block_forked (λ b. both (at_span from) (λ span. done (tree.the_stat span (tree.Do b)))))

  word_names : (from : ℕ) (kind : StatKind) → Names true w (code.word_statement set inner from kind)
  unfolding code.word_statement
  word_names from kind = names_then (next_names set held.link) (λ _. both (at_span from) (λ span. done (tree.the_stat span kind)))

  type_names : (from : ℕ) (exported : Bool) → Names true w (code.type_statement set inner from exported)
  unfolding code.type_statement
  type_names from exported = names_then (next_names set held.link) (λ _. choose (peeks_sees s.Function) (type_function_forked from exported) (alias_forked from exported))

  restored_names : (at : ℕ) → Names true w (values.prefix set inner >>= (λ x. read.set_level at >>= (λ _. read.pure x)))
  restored_names at = names_then (terms.prefix_names set inner w held) (λ x. both (to_level at) (λ _. done x))

  own_prefix_names : Names true w (code.own_prefix set inner)
  unfolding code.own_prefix
  own_prefix_names = record { taken = λ e ts l m b z. (restored_names m).taken e ts l m b z; deep = λ e ts l m b z. (restored_names m).deep e ts l m b z }

  prefix_statement_names : (from : ℕ) → Names true w (code.prefix_statement set inner from)
  unfolding code.prefix_statement
  prefix_statement_names from = names_then own_prefix_names (behind_prefix_forked from)

  abbrev exported_type : ℕ → Parser Stat
  exported_type from = read.next set >> code.type_statement set inner from true

  exported_forked : (from : ℕ) → Forked w 1 (exported_type from)
  exported_forked from = least 1 refl (both (any set) (λ _. type_statement_forked from true))

  exported_names : (from : ℕ) → Names true w (exported_type from)
  exported_names from = names_then (next_names set held.link) (λ _. type_statement_forked from true)

  pub name_forked : (from : ℕ) → Forked w 1 (code.name_statement set inner from)
  unfolding code.name_statement
  name_forked from =
      either_name sees_continue two_continue (word_names from tree.Continue) (names_if sees_type (type_names from false) (names_if sees_export (exported_names from) (prefix_statement_names from)))
      (word_forked from tree.Continue)
      (either_name sees_type two_type (type_names from false) (names_if sees_export (exported_names from) (prefix_statement_names from)) (type_statement_forked from false)
      (either_name sees_export two_export (exported_names from) (prefix_statement_names from) (exported_forked from) (prefix_statement_forked from)))

  pub form_by_forked : (from : ℕ) (x : Symbol) → Forked w 1 (code.form_by set inner from x)
  form_by_forked from s.Name = name_forked from
  form_by_forked from s.LeftParen = prefix_statement_forked from
  form_by_forked from s.Do = do_forked from
  form_by_forked from s.While = while_forked from
  form_by_forked from s.Repeat = repeat_forked from
  form_by_forked from s.If = if_forked from
  form_by_forked from s.For = for_forked from
  form_by_forked from s.AtSign = attributed_forked from
  form_by_forked from s.Function = function_forked from
  form_by_forked from s.Local = local_forked from
  form_by_forked from s.Return = return_forked from
  form_by_forked from s.Break = word_forked from tree.Break
  form_by_forked from _ = refuses set 1

  pub statement_forked : Forked w 1 (code.statement set inner)
  unfolding code.statement
  statement_forked =
      by_symbol start_of (λ from p. code.form_by set inner from (symbol p) p) peeks_start
      (λ from. by_symbol symbol (code.form_by set inner from) peeks_symbol (form_by_forked from))

  pub another_forked : (x : Statements) → Forked w 1 (code.another_statement set inner x)
  unfolding code.another_statement
  another_forked x =
      least 1 refl (both statement_forked (λ y. both (eaten set s.Semicolon) (λ _. done (record { found = x.found ++ y ∷ []; ended = is_last y }))))

  peeks_goes : (x : Statements) → Peeks w (code.goes_statements set inner x)
  peeks_goes x = peeks_and (peeks_const (not x.ended)) (peeks_of begins peeks_symbol)

  pub block_inside_forked : Forked w 0 (code.block_inside set inner)
  unfolding code.block_inside
  block_inside_forked =
      least 0 refl (both (steps set (code.goes_statements set inner) (code.another_statement set inner) peeks_goes another_forked (record { found = []; ended = false }))
      (λ all. done (stats all.found)))
