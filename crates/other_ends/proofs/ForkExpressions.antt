-- The parsers of expressions and function bodies depend on what they take.
use Rattle.std.proofs.Common.{ℕ, ◌||◌, length, true≢false, sym, subst, if◌then◌else◌, true, false, List, [], ◌∷◌, ◌++◌, refl, Option, None, is_some, ◌≡◌}
use Rattle.std.specs.Prelude.{Ok, Err}
use Rattle.luau_lex.specs.Tokens.{Tok}
use Rattle.luau_tree.specs.declared.position.Span.{Span}
use Rattle.luau_tree.specs.Tree.{Expr, Exprs, ExprKind, Item}
use Rattle.luau_tree.specs.Tree as tree
use Rattle.luau_tree.specs.View.{exprs, binds, items, choices}
use Rattle.luau_grammar.specs.declared.symbol.Symbol.{Symbol}
use Rattle.luau_grammar.specs.declared.symbol.Symbol.TheVariants as s
use Rattle.luau_grammar.specs.Symbols.{same, symbol_of}
use Rattle.luau_grammar.specs.Places.{first_symbol, symbol, symbol_behind, sees, sees_behind, start_of}
use Rattle.luau_grammar.specs.Expressions.{begins_suffix, begins_field, sees_pack}
use Rattle.luau_grammar.specs.Reading as read
use Rattle.luau_grammar.specs.Reading.{Setting, Parser, Outcome, Readers, ◌>>=◌, and_then, pure, start}
use Rattle.luau_grammar.specs.ReadPhrases as phrases
use Rattle.luau_grammar.specs.ReadExpressions as code
use Rattle.luau_grammar.specs.ReadExpressions.{Parameters, Interpolated, goes_parameters, no_parameters, is_open, with_self}
use Rattle.other_ends.proofs.Fork.{Fork, Forked, Peeks, Peeks2, Names, Silent, Dotted, Aside, Far, IsDeep, BeyondOf, here, beyond_then, both, choose, choose2, least, done, at_start, at_here, at_span, to_level, peeks_sees, peeks_const, peeks_and, peeks_or, peeks_symbol, peeks_start}
use Rattle.other_ends.proofs.ForkCases.{by_symbol}
use Rattle.other_ends.proofs.ForkNames.{two_name, behind_sees, name_names, name_beyond, expect_beyond, at_rest, only_name, names_then, names_start, names_else, dotted_then, dotted_start, name_aside}
use Rattle.other_ends.proofs.ForkTokens.{refuses, any, token, a_name, a_string, raises, opens}
use Rattle.other_ends.proofs.ForkSteps.{steps, steps_far, in_list}
use Rattle.other_ends.proofs.ForkTypes as types
use Rattle.other_ends.proofs.ForkTypes.{ForkReaders}

-- a list of one argument
abbrev alone : Span → ExprKind → Exprs
alone span kind = tree.more_exprs (tree.the_expr 0 span kind) tree.no_exprs

module _ {w : Fork} where
  two_pack : Peeks2 w sees_pack
  two_pack = two_name (sees_behind s.Dots) (behind_sees s.Dots)

  two_field : Peeks2 w begins_field
  two_field = two_name (sees_behind s.Assign) (behind_sees s.Assign)

  peeks_parameters : (x : Parameters) → Peeks w (goes_parameters x)
  peeks_parameters x = peeks_and (peeks_const (is_open x.rest)) (peeks_sees s.Comma)

  pub peeks_suffix : Peeks w begins_suffix
  peeks_suffix =
      peeks_or (peeks_or (peeks_sees s.Dot) (peeks_or (peeks_sees s.LeftBracket) (peeks_sees s.Colon)))
      (peeks_or (peeks_sees s.LeftParen) (peeks_or (peeks_sees s.LeftBrace) (peeks_sees s.Text)))

module _ (w : Fork) where
  silent_pack : Silent w sees_pack
  unfolding same
  silent_pack = types.silent_name w s.Dots refl

  silent_field : Silent w begins_field
  unfolding same
  silent_field = types.silent_name w s.Assign refl

module _ (set : Setting) (inner : Readers) (w : Fork) (held : ForkReaders set w inner) where
  pub exp_forked : Forked w 1 (phrases.expression set inner)
  exp_forked = types.exp_forked set inner w held

  pub typ_forked : Forked w 1 (phrases.typ set inner None)
  typ_forked = types.typ_forked set inner w held

  pub expressions_forked : Forked w 1 (code.expressions set inner)
  unfolding code.expressions
  expressions_forked = in_list set exp_forked

  pub attribute_forked : (x : Unit {0}) → Forked w 1 (code.attribute set inner x)
  unfolding code.attribute
  attribute_forked x = least 1 refl (both (both (token set s.AtSign) (λ _. a_name set)) (λ _. done (tt {0})))

  pub attributes_forked : Forked w 0 (code.attributes set inner)
  unfolding code.attributes
  attributes_forked = steps set (λ _ p. sees s.AtSign p) (code.attribute set inner) (λ _. peeks_sees s.AtSign) attribute_forked (tt {0})

  pub annotation_forked : Forked w 0 (code.annotation set inner)
  unfolding code.annotation
  annotation_forked =
      choose (peeks_sees s.Colon) (least 0 refl (both (token set s.Colon) (λ _. both typ_forked (λ t. done (tree.a_type t))))) (done tree.no_type)

  pub bind_forked : Forked w 1 (code.bind set inner)
  unfolding code.bind
  bind_forked =
      least 1 refl (both at_start (λ from. both (a_name set) (λ name. both (at_span from) (λ span. both annotation_forked (λ t. done (tree.the_bind name span t))))))

  pub var_type_forked : Forked w 1 (code.var_type set inner)
  unfolding code.var_type
  var_type_forked =
      choose2 sees_pack two_pack (types.generic_pack_names set inner w held) (types.typ_names set inner w held) (types.generic_pack_beyond set inner w held) (silent_pack w) (types.typ_before_dot set inner w held) (types.generic_pack_forked set inner w held) typ_forked

  pub var_annotation_forked : Forked w 0 (code.var_annotation set inner)
  unfolding code.var_annotation
  var_annotation_forked =
      choose (peeks_sees s.Colon) (least 0 refl (both (token set s.Colon) (λ _. both var_type_forked (λ t. done (tree.a_type t))))) (done tree.no_type)

  pub varparam_forked : Forked w 1 (code.varparam set inner)
  unfolding code.varparam
  varparam_forked = least 1 refl (both (token set s.Dots) (λ _. var_annotation_forked))

  pub rest_forked : (x : Parameters) → Forked w 1 (code.rest_parameter set inner x)
  unfolding code.rest_parameter
  rest_forked x = least 1 refl (both varparam_forked (λ t. done (record { found = x.found; rest = tree.varargs t })))

  pub named_forked : (x : Parameters) → Forked w 1 (code.named_parameter set inner x)
  unfolding code.named_parameter
  named_forked x = least 1 refl (both bind_forked (λ y. done (record { found = x.found ++ y ∷ []; rest = tree.no_varargs })))

  pub parameter_forked : (x : Parameters) → Forked w 1 (code.parameter set inner x)
  unfolding code.parameter
  parameter_forked x = choose (peeks_sees s.Dots) (rest_forked x) (named_forked x)

  pub another_parameter_forked : (x : Parameters) → Forked w 1 (code.another_parameter set inner x)
  unfolding code.another_parameter
  another_parameter_forked x = least 1 refl (both (token set s.Comma) (λ _. parameter_forked x))

  pub parameters_from_forked : (x : Parameters) → Forked w 0 (code.parameters_from set inner x)
  unfolding code.parameters_from
  parameters_from_forked x = steps set goes_parameters (code.another_parameter set inner) peeks_parameters another_parameter_forked x

  pub some_parameters_forked : Forked w 1 (code.some_parameters set inner)
  unfolding code.some_parameters
  some_parameters_forked = least 1 refl (both (parameter_forked no_parameters) parameters_from_forked)

  pub parameters_forked : Forked w 0 (code.parameters set inner)
  unfolding code.parameters
  parameters_forked = choose (peeks_sees s.RightParen) (done no_parameters) (least 0 refl some_parameters_forked)

  pub maybe_result_forked : Forked w 0 (code.maybe_result set inner)
  unfolding code.maybe_result
  maybe_result_forked =
      choose (peeks_sees s.Colon) (least 0 refl (both (token set s.Colon) (λ _. both (types.result_forked set inner w held) (λ t. done (tree.a_type t))))) (done tree.no_type)

  pub body_forked : (method : Option Span) → Forked w 1 (code.body set inner method)
  unfolding code.body
  body_forked method =
      least 1 refl (both at_start (λ from. both (types.generics_forked set inner w held false) (λ gs. both (token set s.LeftParen) (λ _. both parameters_forked (λ x.
      both (token set s.RightParen) (λ _. both maybe_result_forked (λ r. both (types.block_forked set inner w held) (λ b. both (token set s.End) (λ _. both (at_span from) (λ span.
      done (tree.the_body 0 (is_some method) gs (binds (with_self method x.found)) x.rest r b span)))))))))))

  pub keyed_forked : Forked w 1 (code.keyed set inner)
  unfolding code.keyed
  keyed_forked =
      least 1 refl (both (token set s.LeftBracket) (λ _. both exp_forked (λ key. both (token set s.RightBracket) (λ _. both (token set s.Assign) (λ _. both exp_forked (λ value.
      done (tree.Keyed key value)))))))

  pub field_forked : Forked w 1 (code.field set inner)
  unfolding code.field
  field_forked = least 1 refl (both (a_name set) (λ name. both (token set s.Assign) (λ _. both exp_forked (λ value. done (tree.Field name value)))))

  field_names : Names true w (code.field set inner)
  unfolding code.field
  field_names = names_then (name_names set held.link) (λ name. both (token set s.Assign) (λ _. both exp_forked (λ value. done (tree.Field name value))))

  field_beyond : same (symbol_of w.token) s.Name ≡ true → (l m : ℕ) → begins_field (here w.token w.one l m) ≡ true → w.stands m ≡ true → BeyondOf w.one (code.field set inner (here w.token w.one l m))
  unfolding code.field sees_behind symbol_behind same
  field_beyond e l m c z =
      name_beyond set held.link s.Assign refl (λ n _. both exp_forked (λ value. done (tree.Field n value))) e l m
      (types.right_of (sees s.Name (here w.token w.one l m)) (same (first_symbol w.one) s.Assign) c) z

  abbrev plain : Parser Item
  plain = phrases.expression set inner >>= (λ value. pure (tree.Plain value))

  plain_names : Names false w plain
  plain_names = names_then (types.exp_names set inner w held) (λ value. done (tree.Plain value))

  plain_before_dot : Dotted w plain
  plain_before_dot = dotted_then (types.exp_before_dot set inner w held) (λ value. done (tree.Plain value))

  pub item_forked : Forked w 1 (code.item set inner)
  unfolding code.item
  item_forked =
      choose (peeks_sees s.LeftBracket) keyed_forked (choose2 begins_field two_field field_names plain_names field_beyond (silent_field w) plain_before_dot field_forked (least 1 refl (both exp_forked (λ value. done (tree.Plain value)))))

  pub fields_forked : Forked w 0 (code.fields set inner)
  unfolding code.fields
  fields_forked = least 0 refl (both (types.braced_forked set item_forked) (λ found. done (items found.items)))

  pub table_forked : (inside : ℕ) → Forked w 1 (code.table set inner inside)
  unfolding code.table
  table_forked inside =
      least 1 refl (both (token set s.LeftBrace) (λ _. both (to_level inside) (λ _. both fields_forked (λ found. both (token set s.RightBrace) (λ _. done found)))))

  pub in_parens_forked : Forked w 0 (code.in_parens set inner)
  unfolding code.in_parens
  in_parens_forked = choose (peeks_sees s.RightParen) (done tree.no_exprs) (least 0 refl (both expressions_forked (λ es. done (exprs es))))

  pub list_arguments_forked : (inside : ℕ) → Forked w 1 (code.list_arguments set inner inside)
  unfolding code.list_arguments
  list_arguments_forked inside =
      least 1 refl (both (opens set) (λ _. both (to_level inside) (λ _. both in_parens_forked (λ es. both (token set s.RightParen) (λ _. done es)))))

  pub table_argument_forked : (inside : ℕ) → Forked w 1 (code.table_argument set inner inside)
  unfolding code.table_argument
  table_argument_forked inside =
      least 1 refl (both at_start (λ from. both (table_forked inside) (λ fs. both (at_span from) (λ span. done (alone span (tree.TableExpr fs))))))

  pub string_argument_forked : (inside : ℕ) → Forked w 1 (code.string_argument set inner inside)
  unfolding code.string_argument
  string_argument_forked inside =
      least 1 refl (both at_start (λ from. both (a_string set s.Text) (λ value. both (to_level inside) (λ _. both (at_span from) (λ span.
      done (alone span (tree.StrExpr value)))))))

  pub arguments_forked : (inside : ℕ) → Forked w 1 (code.arguments set inner inside)
  unfolding code.arguments
  arguments_forked inside =
      choose (peeks_sees s.LeftBrace) (table_argument_forked inside) (choose (peeks_sees s.Text) (string_argument_forked inside) (list_arguments_forked inside))

  pub paren_forked : Forked w 1 (code.paren set inner)
  unfolding code.paren
  paren_forked =
      least 1 refl (both at_start (λ from. both (token set s.LeftParen) (λ _. both exp_forked (λ e. both (token set s.RightParen) (λ _. both (at_span from) (λ span.
      done (tree.the_expr 0 span (tree.Paren e))))))))

  pub name_expression_forked : Forked w 1 (code.name_expression set inner)
  unfolding code.name_expression
  name_expression_forked =
      least 1 refl (both at_start (λ from. both (a_name set) (λ name. both (at_span from) (λ span. done (tree.the_expr 0 span (tree.NameExpr name))))))

  pub primary_forked : Forked w 1 (code.primary set inner)
  unfolding code.primary
  primary_forked = choose (peeks_sees s.LeftParen) paren_forked name_expression_forked

  pub index_forked : (from : ℕ) (base : Expr) → Forked w 1 (code.index set inner from base)
  unfolding code.index
  index_forked from base =
      least 1 refl (both (token set s.Dot) (λ _. both (raises set) (λ _. both (a_name set) (λ name. both (at_span from) (λ span. done (tree.the_expr 0 span (tree.Index base name)))))))

  pub at_forked : (from : ℕ) (base : Expr) → Forked w 1 (code.at set inner from base)
  unfolding code.at
  at_forked from base =
      least 1 refl (both (token set s.LeftBracket) (λ _. both (raises set) (λ _. both exp_forked (λ key. both (token set s.RightBracket) (λ _. both (at_span from) (λ span.
      done (tree.the_expr 0 span (tree.At base key))))))))

  pub method_forked : (from : ℕ) (base : Expr) → Forked w 1 (code.method set inner from base)
  unfolding code.method
  method_forked from base =
      least 1 refl (both (token set s.Colon) (λ _. both (raises set) (λ _. both at_start (λ name_from. both (a_name set) (λ name. both (at_span name_from) (λ name_span.
      both at_here (λ inside. both (arguments_forked inside) (λ args. both (at_span from) (λ span. done (tree.the_expr 0 span (tree.Method base name name_span args)))))))))))

  pub call_forked : (from : ℕ) (callee : Expr) → Forked w 1 (code.call set inner from callee)
  unfolding code.call
  call_forked from callee =
      least 1 refl (both at_here (λ outer. both (arguments_forked (read.deeper (set.limit) outer)) (λ args. both (at_span from) (λ span. done (tree.the_expr 0 span (tree.Call callee args))))))

  pub suffix_forked : (from : ℕ) (base : Expr) → Forked w 1 (code.suffix set inner from base)
  unfolding code.suffix
  suffix_forked from base =
      choose (peeks_sees s.Dot) (index_forked from base) (choose (peeks_sees s.LeftBracket) (at_forked from base)
      (choose (peeks_sees s.Colon) (method_forked from base) (call_forked from base)))

  pub prefix_forked : Forked w 1 (code.prefix set inner)
  unfolding code.prefix
  prefix_forked =
      least 1 refl (both at_start (λ from. both primary_forked (λ first. steps set (λ _ p. begins_suffix p) (code.suffix set inner from) (λ _. peeks_suffix) (suffix_forked from) first)))

  pub choice_forked : (word : Symbol) → Forked w 1 (code.choice set inner word)
  unfolding code.choice
  choice_forked word =
      least 1 refl (both (token set word) (λ _. both exp_forked (λ cond. both (token set s.Then) (λ _. both exp_forked (λ value. done (cond, value))))))

  pub another_choice_forked : (found : List (Expr × Expr)) → Forked w 1 (code.another_choice set inner found)
  unfolding code.another_choice
  another_choice_forked found = least 1 refl (both (choice_forked s.ElseIf) (λ x. done (found ++ x ∷ [])))

  pub all_choices_forked : Forked w 1 (code.all_choices set inner)
  unfolding code.all_choices
  all_choices_forked =
      least 1 refl (both (choice_forked s.If) (λ first. both
      (steps set (λ _ p. sees s.ElseIf p) (code.another_choice set inner) (λ _. peeks_sees s.ElseIf) another_choice_forked (first ∷ []))
      (λ found. done (choices found))))

  pub if_else_forked : (from : ℕ) → Forked w 1 (code.if_else set inner from)
  unfolding code.if_else
  if_else_forked from =
      least 1 refl (both all_choices_forked (λ arms. both (token set s.Else) (λ _. both exp_forked (λ e. both (at_span from) (λ span. done (tree.the_expr 0 span (tree.IfElse arms e)))))))

  pub part_end_forked : (x : Interpolated) (e : Expr) → Forked w 1 (code.part_end set inner x e)
  unfolding code.part_end
  part_end_forked x e =
      choose (peeks_sees s.Mid)
      (least 1 refl (both (a_string set s.Mid) (λ text. done (record { texts = x.texts ++ text ∷ []; parts = x.parts ++ e ∷ []; open_ended = true }))))
      (least 1 refl (both (a_string set s.Last) (λ text. done (record { texts = x.texts ++ text ∷ []; parts = x.parts ++ e ∷ []; open_ended = false }))))

  pub part_forked : (x : Interpolated) → Forked w 1 (code.part set inner x)
  unfolding code.part
  part_forked x = least 1 refl (both exp_forked (part_end_forked x))

  pub parts_forked : (text : List ℕ) → Forked w 0 (code.parts set inner text)
  unfolding code.parts
  parts_forked text =
      steps set (λ x p. x.open_ended) (code.part set inner) (λ x. peeks_const x.open_ended) part_forked
      (record { texts = text ∷ []; parts = []; open_ended = true })

  pub interpolation_forked : (from : ℕ) → Forked w 1 (code.interpolation set inner from)
  unfolding code.interpolation
  interpolation_forked from =
      least 1 refl (both (a_string set s.Begin) (λ text. both (parts_forked text) (λ found. both (at_span from) (λ span. done (tree.the_expr 0 span (tree.Interp found.texts (exprs found.parts)))))))

  pub whole_forked : (from : ℕ) → Forked w 1 (code.whole set inner from)
  unfolding code.whole
  whole_forked from =
      least 1 refl (both (a_string set s.Whole) (λ text. both (at_span from) (λ span. done (tree.the_expr 0 span (tree.Interp (text ∷ []) tree.no_exprs)))))

  pub function_forked : (from : ℕ) → Forked w 1 (code.function set inner from)
  unfolding code.function
  function_forked from =
      least 1 refl (both attributes_forked (λ _. both (token set s.Function) (λ _. both (body_forked None) (λ b. both (at_span from) (λ span. done (tree.the_expr 0 span (tree.FunctionExpr b)))))))

  pub word_forked : (from : ℕ) (kind : ExprKind) → Forked w 1 (code.word set inner from kind)
  unfolding code.word
  word_forked from kind = least 1 refl (both (any set) (λ _. both (at_span from) (λ span. done (tree.the_expr 0 span kind))))

  pub number_forked : (from : ℕ) → Forked w 1 (code.number set inner from)
  unfolding code.number
  number_forked from = least 1 refl (both (token set s.Number) (λ t. both (at_span from) (λ span. done (tree.the_expr 0 span (tree.NumberExpr t.bytes)))))

  pub literal_forked : (from : ℕ) → Forked w 1 (code.literal set inner from)
  unfolding code.literal
  literal_forked from = least 1 refl (both (a_string set s.Text) (λ value. both (at_span from) (λ span. done (tree.the_expr 0 span (tree.StrExpr value)))))

  pub constructor_forked : (from : ℕ) → Forked w 1 (code.constructor set inner from)
  unfolding code.constructor
  constructor_forked from =
      least 1 refl (both at_here (λ inside. both (table_forked inside) (λ fs. both (at_span from) (λ span. done (tree.the_expr 0 span (tree.TableExpr fs))))))

  pub form_by_forked : (from : ℕ) (x : Symbol) → Forked w 1 (code.form_by set inner from x)
  form_by_forked from s.Nil = word_forked from tree.NilExpr
  form_by_forked from s.True = word_forked from tree.TrueExpr
  form_by_forked from s.False = word_forked from tree.FalseExpr
  form_by_forked from s.Dots = word_forked from tree.Vararg
  form_by_forked from s.Number = number_forked from
  form_by_forked from s.Text = literal_forked from
  form_by_forked from s.LeftBrace = constructor_forked from
  form_by_forked from s.Function = function_forked from
  form_by_forked from s.AtSign = function_forked from
  form_by_forked from s.If = if_else_forked from
  form_by_forked from s.Whole = whole_forked from
  form_by_forked from s.Begin = interpolation_forked from
  form_by_forked from _ = refuses set 1

  pub form_forked : Forked w 1 (code.form set inner)
  unfolding code.form
  form_forked =
      by_symbol start_of (λ from p. code.form_by set inner from (symbol p) p) peeks_start
      (λ from. by_symbol symbol (code.form_by set inner from) peeks_symbol (form_by_forked from))

  pub simple_forked : Forked w 1 (code.simple set inner)
  unfolding code.simple
  simple_forked = choose (peeks_or (peeks_sees s.Name) (peeks_sees s.LeftParen)) prefix_forked form_forked

  pub asserted_forked : (from : ℕ) (e : Expr) → Forked w 0 (code.asserted set inner from e)
  unfolding code.asserted
  asserted_forked from e =
      choose (peeks_sees s.DoubleColon)
      (least 0 refl (both (token set s.DoubleColon) (λ _. both typ_forked (λ t. both (at_span from) (λ span. done (tree.the_expr 0 span (tree.Assert e t))))))) (done e)

  pub assertion_forked : Forked w 1 (code.assertion set inner)
  unfolding code.assertion
  assertion_forked = least 1 refl (both at_start (λ from. both simple_forked (λ e. asserted_forked from e)))

  -- ---- what begins with a name

  name_expression_names : Names true w (code.name_expression set inner)
  unfolding code.name_expression
  name_expression_names = names_start (λ from. names_then (name_names set held.link) (λ name. both (at_span from) (λ span. done (tree.the_expr 0 span (tree.NameExpr name)))))

  primary_names : Names true w (code.primary set inner)
  unfolding code.primary same
  primary_names = names_else s.LeftParen (code.paren set inner) refl name_expression_names

  pub prefix_names : Names true w (code.prefix set inner)
  unfolding code.prefix
  prefix_names = names_start (λ from. names_then primary_names (λ first. steps set (λ _ p. begins_suffix p) (code.suffix set inner from) (λ _. peeks_suffix) (suffix_forked from) first))

  simple_names : Names true w (code.simple set inner)
  unfolding code.simple sees symbol
  simple_names = record {
    taken = λ e ts l m b z.
        let p = here w.token ts l m in
        subst (λ c. Far w.bound (if c || same (symbol_of w.token) s.LeftParen then code.prefix set inner p else code.form set inner p)) (sym e) (prefix_names.taken e ts l m b z);
    deep = λ e ts l m b z.
        let p = here w.token ts l m in
        subst (λ c. IsDeep (if c || same (symbol_of w.token) s.LeftParen then code.prefix set inner p else code.form set inner p)) (sym e) (prefix_names.deep e ts l m b z);
  }

  pub assertion_names : Names true w (code.assertion set inner)
  unfolding code.assertion
  assertion_names = names_start (λ from. names_then simple_names (λ x. asserted_forked from x))

  -- ---- a name before a `.`

  abbrev behind_dot : ℕ → Expr → Parser Expr
  behind_dot from base = read.raise set >>= (λ _. read.name set >>= (λ name. read.span_from from >>= (λ span. pure (tree.the_expr 0 span (tree.Index base name)))))

  behind_dot_forked : (from : ℕ) (base : Expr) → Forked w 1 (behind_dot from base)
  behind_dot_forked from base = least 1 refl (both (raises set) (λ _. both (a_name set) (λ name. both (at_span from) (λ span. done (tree.the_expr 0 span (tree.Index base name))))))

  dot_beyond : (from : ℕ) (base : Expr) (l m : ℕ) → same (first_symbol w.one) s.Dot ≡ true → BeyondOf w.one (code.suffix set inner from base (at_rest w.one l m))
  unfolding code.suffix code.index sees symbol same
  dot_beyond from base l m d =
      let p = at_rest w.one l m in
      subst (λ c. BeyondOf w.one (if c then (read.expect set s.Dot >>= (λ _. behind_dot from base)) p
      else (if same (first_symbol w.one) s.LeftBracket then code.at set inner from base p else (if same (first_symbol w.one) s.Colon then code.method set inner from base p else code.call set inner from base p)))) (sym d)
      (beyond_then w.one (λ _. behind_dot from base) (read.expect set s.Dot p) (expect_beyond set s.Dot w.one l m w.one_next refl d) (λ _. (behind_dot_forked from base).one))

  abbrev suffixes : ℕ → Expr → Parser Expr
  suffixes from first = read.repeat set (λ _ p. begins_suffix p) (code.suffix set inner from) first

  suffixed : (from : ℕ) (base : Expr) (ts : List Tok) → ts ≡ w.one → (l m : ℕ) → same (first_symbol ts) s.Dot ≡ true → BeyondOf w.one (suffixes from base (at_rest ts l m))
  unfolding read.repeats sees symbol same
  suffixed from base [] q l m d = absurd (true≢false (sym d))
  suffixed from base (u ∷ us) q l m d =
      let p = at_rest (u ∷ us) l m in
      subst (λ c. BeyondOf w.one (if (c || (same (symbol_of u) s.LeftBracket || same (symbol_of u) s.Colon)) || (same (symbol_of u) s.LeftParen || (same (symbol_of u) s.LeftBrace || same (symbol_of u) s.Text))
      then and_then (code.suffix set inner from base p) (read.repeats set (λ _ p. begins_suffix p) (code.suffix set inner from) (length us)) else Ok (base, p))) (sym d)
      (beyond_then w.one (read.repeats set (λ _ p. begins_suffix p) (code.suffix set inner from) (length us)) (code.suffix set inner from base p)
      (subst (λ z. BeyondOf w.one (code.suffix set inner from base (at_rest z l m))) (sym q) (dot_beyond from base l m (subst (λ z. same (first_symbol z) s.Dot ≡ true) q d)))
      (λ x z a b. steps_far set w (λ _ p. begins_suffix p) (code.suffix set inner from) (suffix_forked from) (length us) x z a b))

  abbrev spelled : ℕ → List ℕ → Parser Expr
  spelled from name = read.span_from from >>= (λ span. pure (tree.the_expr 0 span (tree.NameExpr name)))

  then_suffixes : (from : ℕ) (o : Outcome (List ℕ)) → and_then (and_then o (spelled from)) (suffixes from) ≡ and_then o (λ n. spelled from n >>= suffixes from)
  then_suffixes from (Ok x) = refl
  then_suffixes from (Err e) = refl

  named_before_dot : same (symbol_of w.token) s.Name ≡ true → same (first_symbol w.one) s.Dot ≡ true → (l m : ℕ)
      → Aside w.one ((code.name_expression set inner >>= suffixes (start_of (here w.token w.one l m))) (here w.token w.one l m))
  unfolding code.name_expression
  named_before_dot e d l m =
      let from = start_of (here w.token w.one l m) in
      subst (λ o. Aside w.one o) (sym (then_suffixes from (read.name set (here w.token w.one l m))))
      (name_aside set held.link (λ n. spelled from n >>= suffixes from) e l m
      (suffixed from (tree.the_expr 0 (record { start = from; end = w.token.span.end }) (tree.NameExpr w.token.bytes)) w.one refl w.token.span.end m d) (w.stands m) refl)

  prefix_before_dot : Dotted w (code.prefix set inner)
  unfolding code.prefix code.primary sees symbol same
  prefix_before_dot = record {
    aside = λ e d l m.
        let p = here w.token w.one l m in
        subst (λ c. Aside w.one (and_then (if c then code.paren set inner p else code.name_expression set inner p) (suffixes (start_of p))))
        (sym (only_name (symbol_of w.token) s.LeftParen e refl)) (named_before_dot e d l m);
  }

  simple_before_dot : Dotted w (code.simple set inner)
  unfolding code.simple sees symbol
  simple_before_dot = record {
    aside = λ e d l m.
        let p = here w.token w.one l m in
        subst (λ c. Aside w.one (if c || same (symbol_of w.token) s.LeftParen then code.prefix set inner p else code.form set inner p)) (sym e) (prefix_before_dot.aside e d l m);
  }

  pub assertion_before_dot : Dotted w (code.assertion set inner)
  unfolding code.assertion
  assertion_before_dot = dotted_start (λ from. dotted_then simple_before_dot (λ x. asserted_forked from x))
