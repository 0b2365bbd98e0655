-- What the phrases of the grammar have in common: an expression begins with one of the symbols that begin one, and a
-- block ends at the level at which it begins.
use Rattle.std.proofs.Common.{◌≡◌, ℕ, zero, suc, true, List, [], ◌∷◌, inl, inr, refl, sym, ◌∙◌, ap, subst}
use Rattle.std.specs.Prelude.{Some}
use Rattle.luau_tree.specs.declared.names.UnOp.{UnOp}
use Rattle.luau_tree.specs.Tree.{Block, Expr, ExprKind, Exprs, Items}
use Rattle.luau_tree.specs.Tree as tree
use Rattle.luau_grammar.specs.declared.symbol.Symbol.{Symbol}
use Rattle.luau_grammar.specs.declared.symbol.Symbol.TheVariants as s
use Rattle.luau_grammar.specs.Places.{Place, Rules, Takes, symbol, raised}
use Rattle.luau_grammar.specs.Phrases.{Phrases}
use Rattle.luau_grammar.specs.Operators.{unary_of}
use Rattle.luau_grammar.specs.Expressions.{begins, AreAttributes, IsPrefix, IsPrefixForm, IsTable, AreChoices, IsInterpolation, IsSimple, IsSimpleForm, IsOperation, IsOperationForm, IsExpression}
use Rattle.luau_grammar.specs.Modules.{phrases}
use Rattle.luau_grammar.proofs.Primitives.{takes_symbol, name_token, string_token, number_token}

pub record PlainPhrases (inner : Phrases) : Type 0 where
  pub begins : (p q : Place) (e : Expr) → inner.exp p q e → begins (symbol p) ≡ true
  pub level : (p q : Place) (b : Block) → inner.block p q b → q.level ≡ p.level

-- A token that may begin an expression is taken here.
pub record BeginsExpression (rules : Rules) (p : Place) : Type 0 where
  pub first : Symbol
  pub behind : Place
  pub begins : begins first ≡ true
  pub takes : Takes rules first p behind

unary_begins : (x : Symbol) (op : UnOp) → unary_of x ≡ Some op → begins x ≡ true
unary_begins s.Minus op e = refl
unary_begins s.Not op e = refl
unary_begins s.Hash op e = refl
unary_begins _ op e = absurd (cc (e))

module _ (rules : Rules) (inner : Phrases) where
  token_begins : (x : Symbol) (p q : Place) → begins x ≡ true → Takes rules x p q → BeginsExpression rules p
  token_begins x p q h t = record { first = x; behind = q; begins = h; takes = t }

  attributes_begin : (n : ℕ) (p a b : Place) → AreAttributes rules inner n p a → Takes rules s.Function a b → BeginsExpression rules p
  attributes_begin zero p a b h t = token_begins s.Function p b refl (subst (λ z. Takes rules s.Function z b) h.1 t)
  attributes_begin (suc n) p a b h t = token_begins s.AtSign p h.0 refl h.3

  choices_begin : (p q : Place) (x : Expr × Expr) (xs : List (Expr × Expr)) → AreChoices rules inner s.If p q x xs → BeginsExpression rules p
  choices_begin p q x [] h = token_begins s.If p h.0 refl h.3
  choices_begin p q x (y ∷ ys) h = token_begins s.If p h.0 refl h.4

  interpolation_begins : (p q : Place) (texts : List (List ℕ)) (parts : Exprs) → IsInterpolation rules inner p q texts parts → BeginsExpression rules p
  interpolation_begins p q texts parts (inl h) = token_begins s.Whole p q refl (string_token rules p q s.Whole h.0 h.1)
  interpolation_begins p q texts parts (inr h) = token_begins s.Begin p h.0 refl (string_token rules p h.0 s.Begin h.1 h.5)

  table_begins : (level : ℕ) (p q : Place) (all : Items) → IsTable rules inner level p q all → BeginsExpression rules p
  table_begins level p q all (inl h) = token_begins s.LeftBrace p h.0 refl h.1
  table_begins level p q all (inr h) = token_begins s.LeftBrace p h.0 refl h.4

  mutual
    prefix_begins : (p q : Place) (e : Expr) → IsPrefix rules inner p q e → BeginsExpression rules p
    prefix_begins p q (tree.the_expr id span kind) h = prefix_form_begins p q kind h.2

    prefix_form_begins : (p q : Place) (kind : ExprKind) → IsPrefixForm rules inner p q kind → BeginsExpression rules p
    prefix_form_begins p q (tree.NameExpr name) h = token_begins s.Name p q refl (name_token rules p q name h)
    prefix_form_begins p q (tree.Paren e) h = token_begins s.LeftParen p h.0 refl h.2
    prefix_form_begins p q (tree.Index base name) h = prefix_begins p h.0 base h.2
    prefix_form_begins p q (tree.At base key) h = prefix_begins p h.0 base h.3
    prefix_form_begins p q (tree.Call callee args) h = prefix_begins p h.0 callee h.1
    prefix_form_begins p q (tree.Method base name name_span args) h = prefix_begins p h.0 base h.3
    prefix_form_begins p q kind h = absurd h

  simple_form_begins : (p q : Place) (kind : ExprKind) → IsSimpleForm rules inner p q kind → BeginsExpression rules p
  simple_form_begins p q tree.NilExpr h = token_begins s.Nil p q refl h
  simple_form_begins p q tree.TrueExpr h = token_begins s.True p q refl h
  simple_form_begins p q tree.FalseExpr h = token_begins s.False p q refl h
  simple_form_begins p q (tree.NumberExpr text) h = token_begins s.Number p q refl (number_token rules p q text h)
  simple_form_begins p q (tree.StrExpr value) h = token_begins s.Text p q refl (string_token rules p q s.Text value h)
  simple_form_begins p q tree.Vararg h = token_begins s.Dots p q refl h
  simple_form_begins p q (tree.FunctionExpr body) h = attributes_begin h.0 p h.1 h.2 h.3 h.4
  simple_form_begins p q (tree.IfElse arms last) h = choices_begin p h.0 h.2 h.3 h.4
  simple_form_begins p q (tree.TableExpr items) h = table_begins p.level p q items h
  simple_form_begins p q (tree.Interp texts parts) h = interpolation_begins p q texts parts h
  simple_form_begins p q (tree.Binary op left right) h = absurd h
  simple_form_begins p q (tree.Unary op e) h = absurd h
  simple_form_begins p q (tree.Assert e typ) h = absurd h
  simple_form_begins p q (tree.NameExpr name) h = prefix_form_begins p q (tree.NameExpr name) h.0
  simple_form_begins p q (tree.Paren e) h = prefix_form_begins p q (tree.Paren e) h.0
  simple_form_begins p q (tree.Index base name) h = prefix_form_begins p q (tree.Index base name) h.0
  simple_form_begins p q (tree.At base key) h = prefix_form_begins p q (tree.At base key) h.0
  simple_form_begins p q (tree.Call callee args) h = prefix_form_begins p q (tree.Call callee args) h.0
  simple_form_begins p q (tree.Method base name name_span args) h = prefix_form_begins p q (tree.Method base name name_span args) h.0

  simple_begins : (p q : Place) (e : Expr) → IsSimple rules inner p q e → BeginsExpression rules p
  simple_begins p q (tree.the_expr id span kind) h = simple_form_begins p q kind h.2

  mutual
    pub operation_begins : (p q : Place) (e : Expr) → IsOperation rules inner p q e → BeginsExpression rules p
    operation_begins p q (tree.the_expr id span kind) h = operation_form_begins p q kind h.2

    operation_form_begins : (p q : Place) (kind : ExprKind) → IsOperationForm rules inner p q kind → BeginsExpression rules p
    operation_form_begins p q (tree.Binary op left right) h = operation_begins p h.0 left h.2
    operation_form_begins p q (tree.Unary op e) h =
        token_begins h.1.0 p h.0 (unary_begins h.1.0 op h.1.1) h.1.2
    operation_form_begins p q (tree.Assert e typ) h = simple_begins p h.0 e h.2
    operation_form_begins p q kind h = simple_form_begins p q kind h.0

  pub expression_begins : (p q : Place) (e : Expr) → IsExpression rules inner p q e → BeginsExpression rules p
  expression_begins p q e h = operation_begins p q e h.0

-- the symbol that comes next does not depend on the level
same_symbol : (p : Place) → symbol (raised p) ≡ symbol p
unfolding symbol
same_symbol p = refl

pub phrases_plain : (rules : Rules) (deep : ℕ) → PlainPhrases (phrases rules deep)
phrases_plain rules zero = record { begins = λ p q e h. absurd h; level = λ p q b h. absurd h }
phrases_plain rules (suc deep) = record {
  begins = λ p q e h.
      let first = expression_begins rules (phrases rules deep) (raised p) h.0 e h.1 in
      ap begins (sym (same_symbol p) ∙ takes_symbol rules (raised p) first.behind first.first first.takes) ∙ first.begins;
  level = λ p q b h. ap (λ (z : Place). z.level) h.2;
}
