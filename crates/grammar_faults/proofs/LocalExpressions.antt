-- The parsers of expressions and function bodies depend on what they take.
use Rattle.std.proofs.Common.{ℕ, true, false, List, [], ◌∷◌, ◌++◌, refl, Option, None, is_some}
use Rattle.luau_tree.specs.declared.position.Span.{Span}
use Rattle.luau_tree.specs.Tree.{Expr, Exprs, ExprKind}
use Rattle.luau_tree.specs.Tree as tree
use Rattle.luau_tree.specs.View.{exprs, binds, items, choices}
use Rattle.luau_grammar.specs.declared.symbol.Symbol.{Symbol}
use Rattle.luau_grammar.specs.declared.symbol.Symbol.TheVariants as s
use Rattle.luau_grammar.specs.Places.{symbol, sees, start_of}
use Rattle.luau_grammar.specs.Expressions.{begins_suffix, begins_field, sees_pack}
use Rattle.luau_grammar.specs.Reading as read
use Rattle.luau_grammar.specs.Reading.{Setting, Parser, Readers}
use Rattle.luau_grammar.specs.ReadPhrases as phrases
use Rattle.luau_grammar.specs.ReadExpressions as code
use Rattle.luau_grammar.specs.ReadExpressions.{Parameters, Interpolated, goes_parameters, no_parameters, is_open, with_self}
use Rattle.grammar_faults.proofs.Local.{Tails, Local, Peeks, both, choose, least, done, at_start, at_here, at_span, to_level, peeks_sees, peeks_sees_behind, peeks_const, peeks_and, peeks_or, peeks_symbol, peeks_start}
use Rattle.grammar_faults.proofs.LocalCases.{by_symbol}
use Rattle.grammar_faults.proofs.LocalTokens.{refuses, any, token, a_name, a_string, raises, opens}
use Rattle.grammar_faults.proofs.LocalSteps.{steps, in_list}
use Rattle.grammar_faults.proofs.LocalTypes as types
use Rattle.grammar_faults.proofs.LocalTypes.{LocalReaders}

-- a list of one argument
abbrev alone : Span → ExprKind → Exprs
alone span kind = tree.more_exprs (tree.the_expr 0 span kind) tree.no_exprs

module _ {w : Tails} where
  peeks_pack : Peeks w sees_pack
  peeks_pack = peeks_and (peeks_sees s.Name) (peeks_sees_behind s.Dots)

  peeks_field : Peeks w begins_field
  peeks_field = peeks_and (peeks_sees s.Name) (peeks_sees_behind s.Assign)

  peeks_parameters : (x : Parameters) → Peeks w (goes_parameters x)
  peeks_parameters x = peeks_and (peeks_const (is_open x.rest)) (peeks_sees s.Comma)

  pub peeks_suffix : Peeks w begins_suffix
  peeks_suffix =
      peeks_or (peeks_or (peeks_sees s.Dot) (peeks_or (peeks_sees s.LeftBracket) (peeks_sees s.Colon)))
      (peeks_or (peeks_sees s.LeftParen) (peeks_or (peeks_sees s.LeftBrace) (peeks_sees s.Text)))

module _ (set : Setting) (inner : Readers) (w : Tails) (held : LocalReaders w inner) where
  pub exp_local : Local w 1 (phrases.expression set inner)
  exp_local = types.exp_local set inner w held

  pub typ_local : Local w 1 (phrases.typ set inner None)
  typ_local = types.typ_local set inner w held

  pub expressions_local : Local w 1 (code.expressions set inner)
  unfolding code.expressions
  expressions_local = in_list set exp_local

  pub attribute_local : (x : Unit {0}) → Local w 1 (code.attribute set inner x)
  unfolding code.attribute
  attribute_local x = least 1 refl (both (both (token set s.AtSign) (λ _. a_name set)) (λ _. done (tt {0})))

  pub attributes_local : Local w 0 (code.attributes set inner)
  unfolding code.attributes
  attributes_local = steps set (λ _ p. sees s.AtSign p) (code.attribute set inner) (λ _. peeks_sees s.AtSign) attribute_local (tt {0})

  pub annotation_local : Local w 0 (code.annotation set inner)
  unfolding code.annotation
  annotation_local =
      choose (peeks_sees s.Colon) (least 0 refl (both (token set s.Colon) (λ _. both typ_local (λ t. done (tree.a_type t))))) (done tree.no_type)

  pub bind_local : Local w 1 (code.bind set inner)
  unfolding code.bind
  bind_local =
      least 1 refl (both at_start (λ from. both (a_name set) (λ name. both (at_span from) (λ span. both annotation_local (λ t. done (tree.the_bind name span t))))))

  pub var_type_local : Local w 1 (code.var_type set inner)
  unfolding code.var_type
  var_type_local = choose peeks_pack (types.generic_pack_local set inner w held) typ_local

  pub var_annotation_local : Local w 0 (code.var_annotation set inner)
  unfolding code.var_annotation
  var_annotation_local =
      choose (peeks_sees s.Colon) (least 0 refl (both (token set s.Colon) (λ _. both var_type_local (λ t. done (tree.a_type t))))) (done tree.no_type)

  pub varparam_local : Local w 1 (code.varparam set inner)
  unfolding code.varparam
  varparam_local = least 1 refl (both (token set s.Dots) (λ _. var_annotation_local))

  pub rest_local : (x : Parameters) → Local w 1 (code.rest_parameter set inner x)
  unfolding code.rest_parameter
  rest_local x = least 1 refl (both varparam_local (λ t. done (record { found = x.found; rest = tree.varargs t })))

  pub named_local : (x : Parameters) → Local w 1 (code.named_parameter set inner x)
  unfolding code.named_parameter
  named_local x = least 1 refl (both bind_local (λ y. done (record { found = x.found ++ y ∷ []; rest = tree.no_varargs })))

  pub parameter_local : (x : Parameters) → Local w 1 (code.parameter set inner x)
  unfolding code.parameter
  parameter_local x = choose (peeks_sees s.Dots) (rest_local x) (named_local x)

  pub another_parameter_local : (x : Parameters) → Local w 1 (code.another_parameter set inner x)
  unfolding code.another_parameter
  another_parameter_local x = least 1 refl (both (token set s.Comma) (λ _. parameter_local x))

  pub parameters_from_local : (x : Parameters) → Local w 0 (code.parameters_from set inner x)
  unfolding code.parameters_from
  parameters_from_local x = steps set goes_parameters (code.another_parameter set inner) peeks_parameters another_parameter_local x

  pub some_parameters_local : Local w 1 (code.some_parameters set inner)
  unfolding code.some_parameters
  some_parameters_local = least 1 refl (both (parameter_local no_parameters) parameters_from_local)

  pub parameters_local : Local w 0 (code.parameters set inner)
  unfolding code.parameters
  parameters_local = choose (peeks_sees s.RightParen) (done no_parameters) (least 0 refl some_parameters_local)

  pub maybe_result_local : Local w 0 (code.maybe_result set inner)
  unfolding code.maybe_result
  maybe_result_local =
      choose (peeks_sees s.Colon) (least 0 refl (both (token set s.Colon) (λ _. both (types.result_local set inner w held) (λ t. done (tree.a_type t))))) (done tree.no_type)

  pub body_local : (method : Option Span) → Local w 1 (code.body set inner method)
  unfolding code.body
  body_local method =
      least 1 refl (both at_start (λ from. both (types.generics_local set inner w held false) (λ gs. both (token set s.LeftParen) (λ _. both parameters_local (λ x.
      both (token set s.RightParen) (λ _. both maybe_result_local (λ r. both (types.block_local set inner w held) (λ b. both (token set s.End) (λ _. both (at_span from) (λ span.
      done (tree.the_body 0 (is_some method) gs (binds (with_self method x.found)) x.rest r b span)))))))))))

  pub keyed_local : Local w 1 (code.keyed set inner)
  unfolding code.keyed
  keyed_local =
      least 1 refl (both (token set s.LeftBracket) (λ _. both exp_local (λ key. both (token set s.RightBracket) (λ _. both (token set s.Assign) (λ _. both exp_local (λ value.
      done (tree.Keyed key value)))))))

  pub field_local : Local w 1 (code.field set inner)
  unfolding code.field
  field_local = least 1 refl (both (a_name set) (λ name. both (token set s.Assign) (λ _. both exp_local (λ value. done (tree.Field name value)))))

  pub item_local : Local w 1 (code.item set inner)
  unfolding code.item
  item_local =
      choose (peeks_sees s.LeftBracket) keyed_local (choose peeks_field field_local (least 1 refl (both exp_local (λ value. done (tree.Plain value)))))

  pub fields_local : Local w 0 (code.fields set inner)
  unfolding code.fields
  fields_local = least 0 refl (both (types.braced_local set item_local) (λ found. done (items found.items)))

  pub table_local : (inside : ℕ) → Local w 1 (code.table set inner inside)
  unfolding code.table
  table_local inside =
      least 1 refl (both (token set s.LeftBrace) (λ _. both (to_level inside) (λ _. both fields_local (λ found. both (token set s.RightBrace) (λ _. done found)))))

  pub in_parens_local : Local w 0 (code.in_parens set inner)
  unfolding code.in_parens
  in_parens_local = choose (peeks_sees s.RightParen) (done tree.no_exprs) (least 0 refl (both expressions_local (λ es. done (exprs es))))

  pub list_arguments_local : (inside : ℕ) → Local w 1 (code.list_arguments set inner inside)
  unfolding code.list_arguments
  list_arguments_local inside =
      least 1 refl (both (opens set) (λ _. both (to_level inside) (λ _. both in_parens_local (λ es. both (token set s.RightParen) (λ _. done es)))))

  pub table_argument_local : (inside : ℕ) → Local w 1 (code.table_argument set inner inside)
  unfolding code.table_argument
  table_argument_local inside =
      least 1 refl (both at_start (λ from. both (table_local inside) (λ fs. both (at_span from) (λ span. done (alone span (tree.TableExpr fs))))))

  pub string_argument_local : (inside : ℕ) → Local w 1 (code.string_argument set inner inside)
  unfolding code.string_argument
  string_argument_local inside =
      least 1 refl (both at_start (λ from. both (a_string set s.Text) (λ value. both (to_level inside) (λ _. both (at_span from) (λ span.
      done (alone span (tree.StrExpr value)))))))

  pub arguments_local : (inside : ℕ) → Local w 1 (code.arguments set inner inside)
  unfolding code.arguments
  arguments_local inside =
      choose (peeks_sees s.LeftBrace) (table_argument_local inside) (choose (peeks_sees s.Text) (string_argument_local inside) (list_arguments_local inside))

  pub paren_local : Local w 1 (code.paren set inner)
  unfolding code.paren
  paren_local =
      least 1 refl (both at_start (λ from. both (token set s.LeftParen) (λ _. both exp_local (λ e. both (token set s.RightParen) (λ _. both (at_span from) (λ span.
      done (tree.the_expr 0 span (tree.Paren e))))))))

  pub name_expression_local : Local w 1 (code.name_expression set inner)
  unfolding code.name_expression
  name_expression_local =
      least 1 refl (both at_start (λ from. both (a_name set) (λ name. both (at_span from) (λ span. done (tree.the_expr 0 span (tree.NameExpr name))))))

  pub primary_local : Local w 1 (code.primary set inner)
  unfolding code.primary
  primary_local = choose (peeks_sees s.LeftParen) paren_local name_expression_local

  pub index_local : (from : ℕ) (base : Expr) → Local w 1 (code.index set inner from base)
  unfolding code.index
  index_local from base =
      least 1 refl (both (token set s.Dot) (λ _. both (raises set) (λ _. both (a_name set) (λ name. both (at_span from) (λ span. done (tree.the_expr 0 span (tree.Index base name)))))))

  pub at_local : (from : ℕ) (base : Expr) → Local w 1 (code.at set inner from base)
  unfolding code.at
  at_local from base =
      least 1 refl (both (token set s.LeftBracket) (λ _. both (raises set) (λ _. both exp_local (λ key. both (token set s.RightBracket) (λ _. both (at_span from) (λ span.
      done (tree.the_expr 0 span (tree.At base key))))))))

  pub method_local : (from : ℕ) (base : Expr) → Local w 1 (code.method set inner from base)
  unfolding code.method
  method_local from base =
      least 1 refl (both (token set s.Colon) (λ _. both (raises set) (λ _. both at_start (λ name_from. both (a_name set) (λ name. both (at_span name_from) (λ name_span.
      both at_here (λ inside. both (arguments_local inside) (λ args. both (at_span from) (λ span. done (tree.the_expr 0 span (tree.Method base name name_span args)))))))))))

  pub call_local : (from : ℕ) (callee : Expr) → Local w 1 (code.call set inner from callee)
  unfolding code.call
  call_local from callee =
      least 1 refl (both at_here (λ outer. both (arguments_local (read.deeper (set.limit) outer)) (λ args. both (at_span from) (λ span. done (tree.the_expr 0 span (tree.Call callee args))))))

  pub suffix_local : (from : ℕ) (base : Expr) → Local w 1 (code.suffix set inner from base)
  unfolding code.suffix
  suffix_local from base =
      choose (peeks_sees s.Dot) (index_local from base) (choose (peeks_sees s.LeftBracket) (at_local from base)
      (choose (peeks_sees s.Colon) (method_local from base) (call_local from base)))

  pub prefix_local : Local w 1 (code.prefix set inner)
  unfolding code.prefix
  prefix_local =
      least 1 refl (both at_start (λ from. both primary_local (λ first. steps set (λ _ p. begins_suffix p) (code.suffix set inner from) (λ _. peeks_suffix) (suffix_local from) first)))

  pub choice_local : (word : Symbol) → Local w 1 (code.choice set inner word)
  unfolding code.choice
  choice_local word =
      least 1 refl (both (token set word) (λ _. both exp_local (λ cond. both (token set s.Then) (λ _. both exp_local (λ value. done (cond, value))))))

  pub another_choice_local : (found : List (Expr × Expr)) → Local w 1 (code.another_choice set inner found)
  unfolding code.another_choice
  another_choice_local found = least 1 refl (both (choice_local s.ElseIf) (λ x. done (found ++ x ∷ [])))

  pub all_choices_local : Local w 1 (code.all_choices set inner)
  unfolding code.all_choices
  all_choices_local =
      least 1 refl (both (choice_local s.If) (λ first. both
      (steps set (λ _ p. sees s.ElseIf p) (code.another_choice set inner) (λ _. peeks_sees s.ElseIf) another_choice_local (first ∷ []))
      (λ found. done (choices found))))

  pub if_else_local : (from : ℕ) → Local w 1 (code.if_else set inner from)
  unfolding code.if_else
  if_else_local from =
      least 1 refl (both all_choices_local (λ arms. both (token set s.Else) (λ _. both exp_local (λ e. both (at_span from) (λ span. done (tree.the_expr 0 span (tree.IfElse arms e)))))))

  pub part_end_local : (x : Interpolated) (e : Expr) → Local w 1 (code.part_end set inner x e)
  unfolding code.part_end
  part_end_local x e =
      choose (peeks_sees s.Mid)
      (least 1 refl (both (a_string set s.Mid) (λ text. done (record { texts = x.texts ++ text ∷ []; parts = x.parts ++ e ∷ []; open_ended = true }))))
      (least 1 refl (both (a_string set s.Last) (λ text. done (record { texts = x.texts ++ text ∷ []; parts = x.parts ++ e ∷ []; open_ended = false }))))

  pub part_local : (x : Interpolated) → Local w 1 (code.part set inner x)
  unfolding code.part
  part_local x = least 1 refl (both exp_local (part_end_local x))

  pub parts_local : (text : List ℕ) → Local w 0 (code.parts set inner text)
  unfolding code.parts
  parts_local text =
      steps set (λ x p. x.open_ended) (code.part set inner) (λ x. peeks_const x.open_ended) part_local
      (record { texts = text ∷ []; parts = []; open_ended = true })

  pub interpolation_local : (from : ℕ) → Local w 1 (code.interpolation set inner from)
  unfolding code.interpolation
  interpolation_local from =
      least 1 refl (both (a_string set s.Begin) (λ text. both (parts_local text) (λ found. both (at_span from) (λ span. done (tree.the_expr 0 span (tree.Interp found.texts (exprs found.parts)))))))

  pub whole_local : (from : ℕ) → Local w 1 (code.whole set inner from)
  unfolding code.whole
  whole_local from =
      least 1 refl (both (a_string set s.Whole) (λ text. both (at_span from) (λ span. done (tree.the_expr 0 span (tree.Interp (text ∷ []) tree.no_exprs)))))

  pub function_local : (from : ℕ) → Local w 1 (code.function set inner from)
  unfolding code.function
  function_local from =
      least 1 refl (both attributes_local (λ _. both (token set s.Function) (λ _. both (body_local None) (λ b. both (at_span from) (λ span. done (tree.the_expr 0 span (tree.FunctionExpr b)))))))

  pub word_local : (from : ℕ) (kind : ExprKind) → Local w 1 (code.word set inner from kind)
  unfolding code.word
  word_local from kind = least 1 refl (both (any set) (λ _. both (at_span from) (λ span. done (tree.the_expr 0 span kind))))

  pub number_local : (from : ℕ) → Local w 1 (code.number set inner from)
  unfolding code.number
  number_local from = least 1 refl (both (token set s.Number) (λ t. both (at_span from) (λ span. done (tree.the_expr 0 span (tree.NumberExpr t.bytes)))))

  pub literal_local : (from : ℕ) → Local w 1 (code.literal set inner from)
  unfolding code.literal
  literal_local from = least 1 refl (both (a_string set s.Text) (λ value. both (at_span from) (λ span. done (tree.the_expr 0 span (tree.StrExpr value)))))

  pub constructor_local : (from : ℕ) → Local w 1 (code.constructor set inner from)
  unfolding code.constructor
  constructor_local from =
      least 1 refl (both at_here (λ inside. both (table_local inside) (λ fs. both (at_span from) (λ span. done (tree.the_expr 0 span (tree.TableExpr fs))))))

  pub form_by_local : (from : ℕ) (x : Symbol) → Local w 1 (code.form_by set inner from x)
  form_by_local from s.Nil = word_local from tree.NilExpr
  form_by_local from s.True = word_local from tree.TrueExpr
  form_by_local from s.False = word_local from tree.FalseExpr
  form_by_local from s.Dots = word_local from tree.Vararg
  form_by_local from s.Number = number_local from
  form_by_local from s.Text = literal_local from
  form_by_local from s.LeftBrace = constructor_local from
  form_by_local from s.Function = function_local from
  form_by_local from s.AtSign = function_local from
  form_by_local from s.If = if_else_local from
  form_by_local from s.Whole = whole_local from
  form_by_local from s.Begin = interpolation_local from
  form_by_local from _ = refuses set 1

  pub form_local : Local w 1 (code.form set inner)
  unfolding code.form
  form_local =
      by_symbol start_of (λ from p. code.form_by set inner from (symbol p) p) peeks_start
      (λ from. by_symbol symbol (code.form_by set inner from) peeks_symbol (form_by_local from))

  pub simple_local : Local w 1 (code.simple set inner)
  unfolding code.simple
  simple_local = choose (peeks_or (peeks_sees s.Name) (peeks_sees s.LeftParen)) prefix_local form_local

  pub asserted_local : (from : ℕ) (e : Expr) → Local w 0 (code.asserted set inner from e)
  unfolding code.asserted
  asserted_local from e =
      choose (peeks_sees s.DoubleColon)
      (least 0 refl (both (token set s.DoubleColon) (λ _. both typ_local (λ t. both (at_span from) (λ span. done (tree.the_expr 0 span (tree.Assert e t))))))) (done e)

  pub assertion_local : Local w 1 (code.assertion set inner)
  unfolding code.assertion
  assertion_local = least 1 refl (both at_start (λ from. both simple_local (λ e. asserted_local from e)))
