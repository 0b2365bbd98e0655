-- The parsers of expressions and function bodies, by two settings side by side.
use Rattle.std.proofs.Common.{◌≡◌, ℕ, ◌+◌, ◌≤◌, Bool, true, false, ◌||◌, List, [], ◌∷◌, ◌++◌, refl, sym, ◌∙◌, ap, subst, inl, inr, true≢false, Option, None, is_some, arith, if◌then◌else◌, leb-true, le-leb}
use Rattle.std.proofs.lemmas.Bool.{cases_order}
use Rattle.std.specs.Prelude.{nat_le}
use Rattle.luau_lex.specs.Values.{string_value}
use Rattle.luau_tree.specs.declared.position.Span.{Span}
use Rattle.luau_tree.specs.Tree.{Expr, Exprs, ExprKind, Items}
use Rattle.luau_tree.specs.Tree as tree
use Rattle.luau_tree.specs.View.{exprs, binds, items, choices}
use Rattle.luau_grammar.specs.declared.symbol.Symbol.{Symbol}
use Rattle.luau_grammar.specs.declared.symbol.Symbol.TheVariants as s
use Rattle.luau_grammar.specs.Places.{Place, symbol, sees, start_of}
use Rattle.luau_grammar.specs.Expressions.{begins_suffix, begins_field, sees_pack}
use Rattle.luau_grammar.specs.Reading as read
use Rattle.luau_grammar.specs.Reading.{Setting, Parser, Outcome, Readers, ◌>>=◌, and_then, pure, start, span_from, set_level}
use Rattle.luau_grammar.specs.ReadPhrases as phrases
use Rattle.luau_grammar.specs.ReadExpressions as code
use Rattle.luau_grammar.specs.ReadExpressions.{Parameters, Interpolated, goes_parameters, no_parameters, with_self}
use Rattle.grammar_faults.proofs.Local as near
use Rattle.grammar_faults.proofs.Local.{Local, Far}
use Rattle.grammar_faults.proofs.LocalTokens as near_tokens
use Rattle.grammar_faults.proofs.LocalExpressions as locals
use Rattle.grammar_faults.proofs.LocalTypes.{LocalReaders}
use Rattle.wider_rules.proofs.Beside.{Pair, top, late, Stands, Rel, Beside, rel_then, rel_lower, both, choose, within, by_place, done, at_start, at_span, to_level, with_level}
use Rattle.wider_rules.proofs.BesideTokens.{w, refuses, any, token, token_low, a_name, a_string, opens, opens_low, raises}
use Rattle.wider_rules.proofs.BesideSteps.{steps, in_list}
use Rattle.wider_rules.proofs.BesideTypes as types
use Rattle.wider_rules.proofs.BesideTypes.{Held, floor_low, ceil_low, floor_top, ceil_top}

-- a list of one argument
abbrev alone : Span → ExprKind → Exprs
alone span kind = tree.more_exprs (tree.the_expr 0 span kind) tree.no_exprs

deeper_is : (limit at : ℕ) → at ≤ limit → read.deeper limit at ≡ at + 1
unfolding read.deeper
deeper_is limit at h = ap (λ b. if b then at + 1 else at) (le-leb at limit h)

module _ (f : Pair) where
  -- what stands behind a token that is too deep doesn't matter
  never_behind : {A B : Type 0} {end : ℕ} {r s : Parser A} {g k : A → Parser B} → Beside f (top f) (top f) f.low.limit r s
      → ((x : A) → Local (w f) 0 (g x)) → ((x : A) → Local (w f) 0 (k x)) → Beside f (top f) (top f) end (r >>= g) (s >>= k)
  never_behind {end = end} {r = r} {s = s} {g = g} {k = k} h low high = record {
    alike = λ p i.
        rel_then f (top f) f.low.limit (top f) end g k (r p) (s p) (h.alike p i)
        (λ x q j. let a : top f ≤ q.level = j.low in let b : q.level ≤ f.low.limit = j.high in absurd (omega arith)) (λ x. (low x).one) (λ x. (high x).one);
    low_far = λ p b. near.far_then (late f) g (r p) (h.low_far p b) (λ x. (low x).one);
    high_far = λ p b. near.far_then (late f) k (s p) (h.high_far p b) (λ x. (high x).one);
  }

  deep_from : (m : ℕ) → nat_le m f.low.limit ≡ false → top f ≤ m
  deep_from m e =
      elim (cases_order m (top f)) [
        | inl d ↦ omega arith
        | inr o ↦ elim o [ inl k ↦ absurd (true≢false (sym (le-leb m f.low.limit (omega arith)) ∙ e)) | inr k ↦ omega arith ]
      ]

module _ (f : Pair) (lo : ℕ) (low high : Readers) (held : Held f (lo + 1) low high) where
  floor : f.low.limit ≤ top f
  floor = floor_top f

  ceil : top f ≤ top f
  ceil = ceil_top f

  pub exp_beside : Beside f lo (top f) (top f) (phrases.expression f.low low) (phrases.expression f.high high)
  exp_beside = types.exp_beside f lo (top f) floor ceil low high held

  pub typ_beside : Beside f lo (top f) (top f) (phrases.typ f.low low None) (phrases.typ f.high high None)
  typ_beside = types.typ_beside f lo (top f) floor ceil low high held

  pub expressions_beside : Beside f lo (top f) (top f) (code.expressions f.low low) (code.expressions f.high high)
  unfolding code.expressions
  expressions_beside = in_list f floor ceil exp_beside

  pub attribute_beside : (x : Unit {0}) → Beside f lo (top f) (top f) (code.attribute f.low low x) (code.attribute f.high high x)
  unfolding code.attribute
  attribute_beside x = (both f (both f (token f floor ceil s.AtSign) (λ _. a_name f floor ceil)) (λ _. done f (tt {0})))

  pub attributes_beside : Beside f lo (top f) (top f) (code.attributes f.low low) (code.attributes f.high high)
  unfolding code.attributes
  attributes_beside = steps f lo (top f) (λ _ p. sees s.AtSign p) (code.attribute f.low low) (code.attribute f.high high) attribute_beside (tt {0})

  pub annotation_beside : Beside f lo (top f) (top f) (code.annotation f.low low) (code.annotation f.high high)
  unfolding code.annotation
  annotation_beside =
      choose f (sees s.Colon) ((both f (token f floor ceil s.Colon) (λ _. both f typ_beside (λ t. done f (tree.a_type t))))) (done f tree.no_type)

  pub bind_beside : Beside f lo (top f) (top f) (code.bind f.low low) (code.bind f.high high)
  unfolding code.bind
  bind_beside =
      (both f (at_start f) (λ from. both f (a_name f floor ceil) (λ name. both f (at_span f from) (λ span. both f annotation_beside (λ t. done f (tree.the_bind name span t))))))

  pub var_type_beside : Beside f lo (top f) (top f) (code.var_type f.low low) (code.var_type f.high high)
  unfolding code.var_type
  var_type_beside = choose f sees_pack (types.generic_pack_beside f lo (top f) floor ceil low high held) typ_beside

  pub var_annotation_beside : Beside f lo (top f) (top f) (code.var_annotation f.low low) (code.var_annotation f.high high)
  unfolding code.var_annotation
  var_annotation_beside =
      choose f (sees s.Colon) ((both f (token f floor ceil s.Colon) (λ _. both f var_type_beside (λ t. done f (tree.a_type t))))) (done f tree.no_type)

  pub varparam_beside : Beside f lo (top f) (top f) (code.varparam f.low low) (code.varparam f.high high)
  unfolding code.varparam
  varparam_beside = (both f (token f floor ceil s.Dots) (λ _. var_annotation_beside))

  pub rest_beside : (x : Parameters) → Beside f lo (top f) (top f) (code.rest_parameter f.low low x) (code.rest_parameter f.high high x)
  unfolding code.rest_parameter
  rest_beside x = (both f varparam_beside (λ t. done f (record { found = x.found; rest = tree.varargs t })))

  pub named_beside : (x : Parameters) → Beside f lo (top f) (top f) (code.named_parameter f.low low x) (code.named_parameter f.high high x)
  unfolding code.named_parameter
  named_beside x = (both f bind_beside (λ y. done f (record { found = x.found ++ y ∷ []; rest = tree.no_varargs })))

  pub parameter_beside : (x : Parameters) → Beside f lo (top f) (top f) (code.parameter f.low low x) (code.parameter f.high high x)
  unfolding code.parameter
  parameter_beside x = choose f (sees s.Dots) (rest_beside x) (named_beside x)

  pub another_parameter_beside : (x : Parameters) → Beside f lo (top f) (top f) (code.another_parameter f.low low x) (code.another_parameter f.high high x)
  unfolding code.another_parameter
  another_parameter_beside x = (both f (token f floor ceil s.Comma) (λ _. parameter_beside x))

  pub parameters_from_beside : (x : Parameters) → Beside f lo (top f) (top f) (code.parameters_from f.low low x) (code.parameters_from f.high high x)
  unfolding code.parameters_from
  parameters_from_beside x = steps f lo (top f) goes_parameters (code.another_parameter f.low low) (code.another_parameter f.high high) another_parameter_beside x

  pub some_parameters_beside : Beside f lo (top f) (top f) (code.some_parameters f.low low) (code.some_parameters f.high high)
  unfolding code.some_parameters
  some_parameters_beside = (both f (parameter_beside no_parameters) parameters_from_beside)

  pub parameters_beside : Beside f lo (top f) (top f) (code.parameters f.low low) (code.parameters f.high high)
  unfolding code.parameters
  parameters_beside = choose f (sees s.RightParen) (done f no_parameters) (some_parameters_beside)

  maybe_result_low : Beside f lo f.low.limit f.low.limit (code.maybe_result f.low low) (code.maybe_result f.high high)
  unfolding code.maybe_result
  maybe_result_low =
      choose f (sees s.Colon) (both f (token f (floor_low f) (ceil_low f) s.Colon) (λ _. both f (types.result_beside f lo f.low.limit (floor_low f) (ceil_low f) low high held) (λ t. done f (tree.a_type t))))
      (done f tree.no_type)

  body_low : (method : Option Span) → Beside f lo (top f) f.low.limit (code.body f.low low method) (code.body f.high high method)
  unfolding code.body
  body_low method =
      both f (at_start f) (λ from. both f (types.generics_beside f lo (top f) floor ceil low high held false) (λ gs. both f (token f floor ceil s.LeftParen) (λ _. both f parameters_beside (λ x.
      both f (token_low f floor ceil s.RightParen) (λ _. both f maybe_result_low (λ r. both f (types.block_beside f lo low high held) (λ b. both f (token f (floor_low f) (ceil_low f) s.End) (λ _. both f (at_span f from) (λ span.
      done f (tree.the_body 0 (is_some method) gs (binds (with_self method x.found)) x.rest r b span))))))))))

  pub body_beside : (method : Option Span) → Beside f lo (top f) (top f) (code.body f.low low method) (code.body f.high high method)
  body_beside method = within f (top f) (top f) ceil (ceil_low f) (body_low method)

  pub keyed_beside : Beside f lo (top f) (top f) (code.keyed f.low low) (code.keyed f.high high)
  unfolding code.keyed
  keyed_beside =
      (both f (token f floor ceil s.LeftBracket) (λ _. both f exp_beside (λ key. both f (token f floor ceil s.RightBracket) (λ _. both f (token f floor ceil s.Assign) (λ _. both f exp_beside (λ value.
      done f (tree.Keyed key value)))))))

  pub field_beside : Beside f lo (top f) (top f) (code.field f.low low) (code.field f.high high)
  unfolding code.field
  field_beside = (both f (a_name f floor ceil) (λ name. both f (token f floor ceil s.Assign) (λ _. both f exp_beside (λ value. done f (tree.Field name value)))))

  pub item_beside : Beside f lo (top f) (top f) (code.item f.low low) (code.item f.high high)
  unfolding code.item
  item_beside =
      choose f (sees s.LeftBracket) keyed_beside (choose f begins_field field_beside ((both f exp_beside (λ value. done f (tree.Plain value)))))

  pub fields_beside : Beside f lo (top f) (top f) (code.fields f.low low) (code.fields f.high high)
  unfolding code.fields
  fields_beside = (both f (types.braced_beside f lo (top f) floor ceil item_beside) (λ found. done f (items found.items)))

  pub table_beside : (inside : ℕ) → lo ≤ inside → inside ≤ top f → Beside f lo (top f) (top f) (code.table f.low low inside) (code.table f.high high inside)
  unfolding code.table
  table_beside inside a b =
      both f (token f floor ceil s.LeftBrace) (λ _. both f (to_level f (top f) inside a b) (λ _. both f fields_beside (λ found. both f (token f floor ceil s.RightBrace) (λ _. done f found))))

  pub in_parens_beside : Beside f lo (top f) (top f) (code.in_parens f.low low) (code.in_parens f.high high)
  unfolding code.in_parens
  in_parens_beside = choose f (sees s.RightParen) (done f tree.no_exprs) ((both f expressions_beside (λ es. done f (exprs es))))

  pub list_arguments_beside : (inside : ℕ) → lo ≤ inside → inside ≤ top f → Beside f lo (top f) (top f) (code.list_arguments f.low low inside) (code.list_arguments f.high high inside)
  unfolding code.list_arguments
  list_arguments_beside inside a b =
      both f (opens f floor ceil) (λ _. both f (to_level f (top f) inside a b) (λ _. both f in_parens_beside (λ es. both f (token f floor ceil s.RightParen) (λ _. done f es))))

  pub table_argument_beside : (inside : ℕ) → lo ≤ inside → inside ≤ top f → Beside f lo (top f) (top f) (code.table_argument f.low low inside) (code.table_argument f.high high inside)
  unfolding code.table_argument
  table_argument_beside inside a b =
      both f (at_start f) (λ from. both f (table_beside inside a b) (λ fs. both f (at_span f from) (λ span. done f (alone span (tree.TableExpr fs)))))

  pub string_argument_beside : (inside : ℕ) → lo ≤ inside → inside ≤ top f → Beside f lo (top f) (top f) (code.string_argument f.low low inside) (code.string_argument f.high high inside)
  unfolding code.string_argument
  string_argument_beside inside a b =
      both f (at_start f) (λ from. both f (a_string f floor ceil s.Text) (λ value. both f (to_level f (top f) inside a b) (λ _. both f (at_span f from) (λ span.
      done f (alone span (tree.StrExpr value))))))

  pub arguments_beside : (inside : ℕ) → lo ≤ inside → inside ≤ top f → Beside f lo (top f) (top f) (code.arguments f.low low inside) (code.arguments f.high high inside)
  unfolding code.arguments
  arguments_beside inside a b =
      choose f (sees s.LeftBrace) (table_argument_beside inside a b) (choose f (sees s.Text) (string_argument_beside inside a b) (list_arguments_beside inside a b))

  pub paren_beside : Beside f lo (top f) (top f) (code.paren f.low low) (code.paren f.high high)
  unfolding code.paren
  paren_beside =
      (both f (at_start f) (λ from. both f (token f floor ceil s.LeftParen) (λ _. both f exp_beside (λ e. both f (token f floor ceil s.RightParen) (λ _. both f (at_span f from) (λ span.
      done f (tree.the_expr 0 span (tree.Paren e))))))))

  pub name_expression_beside : Beside f lo (top f) (top f) (code.name_expression f.low low) (code.name_expression f.high high)
  unfolding code.name_expression
  name_expression_beside =
      (both f (at_start f) (λ from. both f (a_name f floor ceil) (λ name. both f (at_span f from) (λ span. done f (tree.the_expr 0 span (tree.NameExpr name))))))

  pub primary_beside : Beside f lo (top f) (top f) (code.primary f.low low) (code.primary f.high high)
  unfolding code.primary
  primary_beside = choose f (sees s.LeftParen) paren_beside name_expression_beside

  pub index_beside : (from : ℕ) (base : Expr) → Beside f lo (top f) (top f) (code.index f.low low from base) (code.index f.high high from base)
  unfolding code.index
  index_beside from base =
      both f (token_low f floor ceil s.Dot) (λ _. both f (raises f) (λ _. both f (a_name f floor ceil) (λ name. both f (at_span f from) (λ span. done f (tree.the_expr 0 span (tree.Index base name))))))

  pub at_beside : (from : ℕ) (base : Expr) → Beside f lo (top f) (top f) (code.at f.low low from base) (code.at f.high high from base)
  unfolding code.at
  at_beside from base =
      both f (token_low f floor ceil s.LeftBracket) (λ _. both f (raises f) (λ _. both f exp_beside (λ key. both f (token f floor ceil s.RightBracket) (λ _. both f (at_span f from) (λ span.
      done f (tree.the_expr 0 span (tree.At base key)))))))

  behind_method : (set : Setting) (inner : Readers) → LocalReaders (w f) inner → (from : ℕ) (base : Expr) (name : List ℕ) (name_span : Span)
      → Local (w f) 1 (read.level >>= (λ inside. code.arguments set inner inside >>= (λ args. span_from from >>= (λ span. pure (tree.the_expr 0 span (tree.Method base name name_span args))))))
  behind_method set inner h from base name name_span =
      near.least 1 refl (near.both near.at_here (λ inside. near.both (locals.arguments_local set inner (w f) h inside) (λ args. near.both (near.at_span from) (λ span. near.done (tree.the_expr 0 span (tree.Method base name name_span args))))))

  pub method_beside : (from : ℕ) (base : Expr) → Beside f lo (top f) (top f) (code.method f.low low from base) (code.method f.high high from base)
  unfolding code.method
  method_beside from base =
      both f (token_low f floor ceil s.Colon) (λ _. both f (raises f) (λ _. both f (at_start f) (λ name_from. both f (a_name f floor ceil) (λ name. both f (at_span f name_from) (λ name_span.
      with_level f (λ inside. code.arguments f.low low inside >>= (λ args. span_from from >>= (λ span. pure (tree.the_expr 0 span (tree.Method base name name_span args)))))
      (λ inside. code.arguments f.high high inside >>= (λ args. span_from from >>= (λ span. pure (tree.the_expr 0 span (tree.Method base name name_span args)))))
      (λ inside a b. both f (arguments_beside inside a b) (λ args. both f (at_span f from) (λ span. done f (tree.the_expr 0 span (tree.Method base name name_span args)))))
      (λ p l. (behind_method f.low low held.low_local from base name name_span).one p l)
      (λ p l. (behind_method f.high high held.high_local from base name name_span).one p l))))))

  -- ---- arguments that begin too deep

  behind_brace : (set : Setting) (inner : Readers) → LocalReaders (w f) inner → (inside : ℕ)
      → Local (w f) 0 (set_level inside >>= (λ _. code.fields set inner >>= (λ found. read.expect set s.RightBrace >>= (λ _. pure found))))
  behind_brace set inner h inside =
      near.least 0 refl (near.both (near.to_level inside) (λ _. near.both (locals.fields_local set inner (w f) h) (λ found. near.both (near_tokens.token set s.RightBrace) (λ _. near.done found))))

  stopped_table : (x y : ℕ) → Beside f (top f) (top f) (top f) (code.table f.low low x) (code.table f.high high y)
  unfolding code.table
  stopped_table x y =
      never_behind f (token_low f floor ceil s.LeftBrace) (λ _. behind_brace f.low low held.low_local x) (λ _. behind_brace f.high high held.high_local y)

  behind_string : (from inside : ℕ) (value : List ℕ) → Local (w f) 0 (set_level inside >>= (λ _. span_from from >>= (λ span. pure (alone span (tree.StrExpr value)))))
  behind_string from inside value = near.both (near.to_level inside) (λ _. near.both (near.at_span from) (λ span. near.done (alone span (tree.StrExpr value))))

  string_low : Beside f (top f) (top f) f.low.limit (read.string f.low s.Text) (read.string f.high s.Text)
  unfolding read.string
  string_low = both f (token_low f floor ceil s.Text) (λ t. done f (string_value t.kind t.bytes))

  behind_paren : (set : Setting) (inner : Readers) → LocalReaders (w f) inner → (inside : ℕ)
      → Local (w f) 0 (set_level inside >>= (λ _. code.in_parens set inner >>= (λ es. read.expect set s.RightParen >>= (λ _. pure es))))
  behind_paren set inner h inside =
      near.least 0 refl (near.both (near.to_level inside) (λ _. near.both (locals.in_parens_local set inner (w f) h) (λ es. near.both (near_tokens.token set s.RightParen) (λ _. near.done es))))

  stopped_arguments : (x y : ℕ) → Beside f (top f) (top f) (top f) (code.arguments f.low low x) (code.arguments f.high high y)
  unfolding code.arguments code.table_argument code.string_argument code.list_arguments
  stopped_arguments x y =
      choose f (sees s.LeftBrace)
      (both f (at_start f) (λ from. both f (stopped_table x y) (λ fs. both f (at_span f from) (λ span. done f (alone span (tree.TableExpr fs))))))
      (choose f (sees s.Text)
      (both f (at_start f) (λ from. never_behind f string_low (λ value. behind_string from x value) (λ value. behind_string from y value)))
      (never_behind f (opens_low f ceil) (λ _. behind_paren f.low low held.low_local x) (λ _. behind_paren f.high high held.high_local y)))

  abbrev called : ℕ → Expr → Exprs → Parser Expr
  called from callee args = span_from from >>= (λ span. pure (tree.the_expr 0 span (tree.Call callee args)))

  called_beside : {lo hi : ℕ} (from : ℕ) (callee : Expr) (args : Exprs) → Beside f lo hi hi (called from callee args) (called from callee args)
  called_beside from callee args = both f (at_span f from) (λ span. done f (tree.the_expr 0 span (tree.Call callee args)))

  call_case : (from : ℕ) (callee : Expr) (p : Place) → Stands f lo (top f) p → (b : Bool) → nat_le p.level f.low.limit ≡ b
      → Rel f lo (top f) (and_then (code.arguments f.low low (read.deeper f.low.limit p.level) p) (called from callee))
      (and_then (code.arguments f.high high (read.deeper f.high.limit p.level) p) (called from callee))
  call_case from callee p i true e =
      let c : p.level ≤ f.low.limit = leb-true p.level f.low.limit e in
      let d : p.level ≤ f.high.limit = (let r = f.room in omega arith) in
      let g : lo ≤ p.level = i.low in
      let both_at : ℕ → ℕ → Type 0 = λ x y. Rel f lo (top f) (and_then (code.arguments f.low low x p) (called from callee)) (and_then (code.arguments f.high high y p) (called from callee)) in
      subst (λ x. both_at x (read.deeper f.high.limit p.level)) (sym (deeper_is f.low.limit p.level c))
      (subst (λ y. both_at (p.level + 1) y) (sym (deeper_is f.high.limit p.level d))
      ((both f (arguments_beside (p.level + 1) (let x : lo ≤ p.level + 1 = omega arith in x) (let x : p.level + 1 ≤ top f = omega arith in x)) (called_beside from callee)).alike p i))
  call_case from callee p i false e =
      let c : top f ≤ p.level = deep_from f p.level e in
      let g : lo ≤ p.level = i.low in
      let h : p.level ≤ top f = i.high in
      rel_lower f lo (top f) (top f) (omega arith) (and_then (code.arguments f.low low (read.deeper f.low.limit p.level) p) (called from callee))
      (and_then (code.arguments f.high high (read.deeper f.high.limit p.level) p) (called from callee))
      ((both f (stopped_arguments (read.deeper f.low.limit p.level) (read.deeper f.high.limit p.level)) (called_beside from callee)).alike p
      (record { low = c; high = i.high; ordered = i.ordered; among = i.among; awaits = i.awaits }))

  pub call_beside : (from : ℕ) (callee : Expr) → Beside f lo (top f) (top f) (code.call f.low low from callee) (code.call f.high high from callee)
  unfolding code.call
  call_beside from callee = record {
    alike = λ p i. call_case from callee p i (nat_le p.level f.low.limit) refl;
    low_far = λ p b. (locals.call_local f.low low (w f) held.low_local from callee).one p b;
    high_far = λ p b. (locals.call_local f.high high (w f) held.high_local from callee).one p b;
  }

  pub suffix_beside : (from : ℕ) (base : Expr) → Beside f lo (top f) (top f) (code.suffix f.low low from base) (code.suffix f.high high from base)
  unfolding code.suffix
  suffix_beside from base =
      choose f (sees s.Dot) (index_beside from base) (choose f (sees s.LeftBracket) (at_beside from base)
      (choose f (sees s.Colon) (method_beside from base) (call_beside from base)))

  pub prefix_beside : Beside f lo (top f) (top f) (code.prefix f.low low) (code.prefix f.high high)
  unfolding code.prefix
  prefix_beside =
      (both f (at_start f) (λ from. both f primary_beside (λ first. steps f lo (top f) (λ _ p. begins_suffix p) (code.suffix f.low low from) (code.suffix f.high high from) (suffix_beside from) first)))

  pub choice_beside : (word : Symbol) → Beside f lo (top f) (top f) (code.choice f.low low word) (code.choice f.high high word)
  unfolding code.choice
  choice_beside word =
      (both f (token f floor ceil word) (λ _. both f exp_beside (λ cond. both f (token f floor ceil s.Then) (λ _. both f exp_beside (λ value. done f (cond, value))))))

  pub another_choice_beside : (found : List (Expr × Expr)) → Beside f lo (top f) (top f) (code.another_choice f.low low found) (code.another_choice f.high high found)
  unfolding code.another_choice
  another_choice_beside found = (both f (choice_beside s.ElseIf) (λ x. done f (found ++ x ∷ [])))

  pub all_choices_beside : Beside f lo (top f) (top f) (code.all_choices f.low low) (code.all_choices f.high high)
  unfolding code.all_choices
  all_choices_beside =
      (both f (choice_beside s.If) (λ first. both f
      (steps f lo (top f) (λ _ p. sees s.ElseIf p) (code.another_choice f.low low) (code.another_choice f.high high) another_choice_beside (first ∷ []))
      (λ found. done f (choices found))))

  pub if_else_beside : (from : ℕ) → Beside f lo (top f) (top f) (code.if_else f.low low from) (code.if_else f.high high from)
  unfolding code.if_else
  if_else_beside from =
      (both f all_choices_beside (λ arms. both f (token f floor ceil s.Else) (λ _. both f exp_beside (λ e. both f (at_span f from) (λ span. done f (tree.the_expr 0 span (tree.IfElse arms e)))))))

  pub part_end_beside : (x : Interpolated) (e : Expr) → Beside f lo (top f) (top f) (code.part_end f.low low x e) (code.part_end f.high high x e)
  unfolding code.part_end
  part_end_beside x e =
      choose f (sees s.Mid)
      ((both f (a_string f floor ceil s.Mid) (λ text. done f (record { texts = x.texts ++ text ∷ []; parts = x.parts ++ e ∷ []; open_ended = true }))))
      ((both f (a_string f floor ceil s.Last) (λ text. done f (record { texts = x.texts ++ text ∷ []; parts = x.parts ++ e ∷ []; open_ended = false }))))

  pub part_beside : (x : Interpolated) → Beside f lo (top f) (top f) (code.part f.low low x) (code.part f.high high x)
  unfolding code.part
  part_beside x = (both f exp_beside (part_end_beside x))

  pub parts_beside : (text : List ℕ) → Beside f lo (top f) (top f) (code.parts f.low low text) (code.parts f.high high text)
  unfolding code.parts
  parts_beside text =
      steps f lo (top f) (λ x p. x.open_ended) (code.part f.low low) (code.part f.high high) part_beside
      (record { texts = text ∷ []; parts = []; open_ended = true })

  pub interpolation_beside : (from : ℕ) → Beside f lo (top f) (top f) (code.interpolation f.low low from) (code.interpolation f.high high from)
  unfolding code.interpolation
  interpolation_beside from =
      (both f (a_string f floor ceil s.Begin) (λ text. both f (parts_beside text) (λ found. both f (at_span f from) (λ span. done f (tree.the_expr 0 span (tree.Interp found.texts (exprs found.parts)))))))

  pub whole_beside : (from : ℕ) → Beside f lo (top f) (top f) (code.whole f.low low from) (code.whole f.high high from)
  unfolding code.whole
  whole_beside from =
      (both f (a_string f floor ceil s.Whole) (λ text. both f (at_span f from) (λ span. done f (tree.the_expr 0 span (tree.Interp (text ∷ []) tree.no_exprs)))))

  pub function_beside : (from : ℕ) → Beside f lo (top f) (top f) (code.function f.low low from) (code.function f.high high from)
  unfolding code.function
  function_beside from =
      (both f attributes_beside (λ _. both f (token f floor ceil s.Function) (λ _. both f (body_beside None) (λ b. both f (at_span f from) (λ span. done f (tree.the_expr 0 span (tree.FunctionExpr b)))))))

  pub word_beside : (from : ℕ) (kind : ExprKind) → Beside f lo (top f) (top f) (code.word f.low low from kind) (code.word f.high high from kind)
  unfolding code.word
  word_beside from kind = (both f (any f floor ceil) (λ _. both f (at_span f from) (λ span. done f (tree.the_expr 0 span kind))))

  pub number_beside : (from : ℕ) → Beside f lo (top f) (top f) (code.number f.low low from) (code.number f.high high from)
  unfolding code.number
  number_beside from = (both f (token f floor ceil s.Number) (λ t. both f (at_span f from) (λ span. done f (tree.the_expr 0 span (tree.NumberExpr t.bytes)))))

  pub literal_beside : (from : ℕ) → Beside f lo (top f) (top f) (code.literal f.low low from) (code.literal f.high high from)
  unfolding code.literal
  literal_beside from = (both f (a_string f floor ceil s.Text) (λ value. both f (at_span f from) (λ span. done f (tree.the_expr 0 span (tree.StrExpr value)))))

  pub constructor_beside : (from : ℕ) → Beside f lo (top f) (top f) (code.constructor f.low low from) (code.constructor f.high high from)
  unfolding code.constructor
  constructor_beside from =
      with_level f (λ inside. code.table f.low low inside >>= (λ fs. span_from from >>= (λ span. pure (tree.the_expr 0 span (tree.TableExpr fs)))))
      (λ inside. code.table f.high high inside >>= (λ fs. span_from from >>= (λ span. pure (tree.the_expr 0 span (tree.TableExpr fs)))))
      (λ inside a b. both f (table_beside inside a b) (λ fs. both f (at_span f from) (λ span. done f (tree.the_expr 0 span (tree.TableExpr fs)))))
      (λ p b. (locals.constructor_local f.low low (w f) held.low_local from).one p b)
      (λ p b. (locals.constructor_local f.high high (w f) held.high_local from).one p b)

  pub form_by_beside : (from : ℕ) (x : Symbol) → Beside f lo (top f) (top f) (code.form_by f.low low from x) (code.form_by f.high high from x)
  form_by_beside from s.Nil = word_beside from tree.NilExpr
  form_by_beside from s.True = word_beside from tree.TrueExpr
  form_by_beside from s.False = word_beside from tree.FalseExpr
  form_by_beside from s.Dots = word_beside from tree.Vararg
  form_by_beside from s.Number = number_beside from
  form_by_beside from s.Text = literal_beside from
  form_by_beside from s.LeftBrace = constructor_beside from
  form_by_beside from s.Function = function_beside from
  form_by_beside from s.AtSign = function_beside from
  form_by_beside from s.If = if_else_beside from
  form_by_beside from s.Whole = whole_beside from
  form_by_beside from s.Begin = interpolation_beside from
  form_by_beside from _ = refuses f

  pub form_beside : Beside f lo (top f) (top f) (code.form f.low low) (code.form f.high high)
  unfolding code.form
  form_beside =
      by_place f start_of (λ from p. code.form_by f.low low from (symbol p) p) (λ from p. code.form_by f.high high from (symbol p) p)
      (λ from. by_place f symbol (code.form_by f.low low from) (code.form_by f.high high from) (form_by_beside from))

  pub simple_beside : Beside f lo (top f) (top f) (code.simple f.low low) (code.simple f.high high)
  unfolding code.simple
  simple_beside = choose f (λ p. sees s.Name p || sees s.LeftParen p) prefix_beside form_beside

  pub asserted_beside : (from : ℕ) (e : Expr) → Beside f lo (top f) (top f) (code.asserted f.low low from e) (code.asserted f.high high from e)
  unfolding code.asserted
  asserted_beside from e =
      choose f (sees s.DoubleColon)
      ((both f (token f floor ceil s.DoubleColon) (λ _. both f typ_beside (λ t. both f (at_span f from) (λ span. done f (tree.the_expr 0 span (tree.Assert e t))))))) (done f e)

  pub assertion_beside : Beside f lo (top f) (top f) (code.assertion f.low low) (code.assertion f.high high)
  unfolding code.assertion
  assertion_beside = (both f (at_start f) (λ from. both f simple_beside (λ e. asserted_beside from e)))
