-- Expressions and bodies by the grammar: the generics of the bodies in them hold no nodes.
use Rattle.std.proofs.Common.{ℕ, ◌+◌, List, [], ◌∷◌, inl, inr, sym, subst, Bool, false}
use Rattle.std.specs.Prelude.{Option, Some, None}
use Rattle.luau_tree.specs.declared.position.Span.{Span}
use Rattle.luau_tree.specs.Tree.{Expr, Exprs, ExprKind, Choices, Item, Items, Body, Varargs, Bind, Binds, TypeSyntax, MaybeType}
use Rattle.luau_tree.specs.Tree as tree
use Rattle.luau_tree.specs.View.{exprs, binds, items, choices}
use Rattle.luau_tree.specs.Nodes.{Node, ABody, nodes_of_expr, nodes_of_exprs, nodes_of_expr_kind, nodes_of_choices, nodes_of_item, nodes_of_items, nodes_of_body, nodes_of_varargs, nodes_of_bind, nodes_of_binds, nodes_of_type, nodes_of_maybe_type}
use Rattle.luau_grammar.specs.declared.symbol.Symbol.{Symbol}
use Rattle.luau_grammar.specs.declared.symbol.Symbol.TheVariants as s
use Rattle.luau_grammar.specs.Places.{Place, Rules, raised, at_level}
use Rattle.luau_grammar.specs.Phrases.{Phrases}
use Rattle.luau_grammar.specs.Expressions as grammar
use Rattle.module_orders.proofs.Plain.{IsPlain, Plain, nothing, both, an_expr, a_bind, separated, in_braces}
use Rattle.module_orders.proofs.PlainTypes as written
use Rattle.module_orders.proofs.PlainTypes.{Held}

pub more_exprs : (x : Expr) (xs : List Expr) → Plain (nodes_of_expr x) → Plain (nodes_of_exprs (exprs xs)) → Plain (nodes_of_exprs (exprs (x ∷ xs)))
more_exprs x xs a b = both a b

pub more_binds : (x : Bind) (xs : List Bind) → Plain (nodes_of_bind x) → Plain (nodes_of_binds (binds xs)) → Plain (nodes_of_binds (binds (x ∷ xs)))
more_binds x xs a b = both a b

more_items : (x : Item) (xs : List Item) → Plain (nodes_of_item x) → Plain (nodes_of_items (items xs)) → Plain (nodes_of_items (items (x ∷ xs)))
more_items x xs a b = both a b

a_body : {x : Body} {ns : List Node} → IsPlain x → Plain ns → Plain (ABody x ∷ ns)
a_body e a = record { all = (e, a.all) }

-- a method's `self` has no type
params_held : (method : Option Span) (has_self : Bool) (own : List Bind) (params : Binds) → grammar.HasSelf method has_self own params
    → Plain (nodes_of_binds (binds own)) → Plain (nodes_of_binds params)
params_held None has_self own params h f = subst (λ z. Plain (nodes_of_binds z)) (sym h.1) f
params_held (Some span) has_self own params h f = subst (λ z. Plain (nodes_of_binds z)) (sym h.1) (both (a_bind nothing) f)

module _ (rules : Rules) (inner : Phrases) (held : Held inner) where
  typ : (p q : Place) (t : TypeSyntax) → inner.typ None p q t → Plain (nodes_of_type t)
  typ p q t h = held.typ None p q t tt h

  pub several : (p q : Place) (all : Exprs) → grammar.AreExpressions rules inner p q all → Plain (nodes_of_exprs all)
  several p q all h =
      subst (λ z. Plain (nodes_of_exprs z)) (sym h.3)
      (separated rules (λ xs. nodes_of_exprs (exprs xs)) nodes_of_expr nothing more_exprs inner.exp held.exp h.1 p q h.0 h.2)

  annotation : (p q : Place) (t : MaybeType) → grammar.IsAnnotation rules inner p q t → Plain (nodes_of_maybe_type t)
  annotation p q tree.no_type h = nothing
  annotation p q (tree.a_type t) h = typ h.0 q t h.2

  pub bind : (p q : Place) (x : Bind) → grammar.IsBind rules inner p q x → Plain (nodes_of_bind x)
  bind p q (tree.the_bind n span t) h = a_bind (annotation h.0 q t h.3)

  var_type : (p q : Place) (t : TypeSyntax) → grammar.IsVarType rules inner p q t → Plain (nodes_of_type t)
  var_type p q t (inl h) = subst (λ z. Plain (nodes_of_type z)) (sym h.5) nothing
  var_type p q t (inr h) = typ p q t h.1

  varparam : (p q : Place) (t : MaybeType) → grammar.IsVarparam rules inner p q t → Plain (nodes_of_maybe_type t)
  varparam p q tree.no_type h = nothing
  varparam p q (tree.a_type t) h = var_type h.1 q t h.4

  parameters_from : (xs : List Bind) (p q : Place) (x : Bind) (v : Varargs) → grammar.AreParametersFrom rules inner p q x xs v
      → Plain (nodes_of_binds (binds (x ∷ xs))) × Plain (nodes_of_varargs v)
  parameters_from [] p q x tree.no_varargs h = (both (bind p q x h.0) nothing, nothing)
  parameters_from [] p q x (tree.varargs t) h = (both (bind p h.0 x h.2) nothing, varparam h.1 q t h.5)
  parameters_from (y ∷ ys) p q x v h = let more = parameters_from ys h.1 q y v h.5 in (both (bind p h.0 x h.2) more.0, more.1)

  parameters : (own : List Bind) (p q : Place) (v : Varargs) → grammar.AreParameters rules inner p q own v
      → Plain (nodes_of_binds (binds own)) × Plain (nodes_of_varargs v)
  parameters [] p q tree.no_varargs h = (nothing, nothing)
  parameters [] p q (tree.varargs t) h = (nothing, varparam p q t h.1)
  parameters (x ∷ xs) p q v h = parameters_from xs p q x v h.2

  maybe_result : (p q : Place) (t : MaybeType) → grammar.IsMaybeResult rules inner p q t → Plain (nodes_of_maybe_type t)
  maybe_result p q tree.no_type h = nothing
  maybe_result p q (tree.a_type t) h = written.result rules inner held h.0 q t h.2

  pub body : (method : Option Span) (p q : Place) (x : Body) → grammar.IsBody rules inner method p q x → Plain (nodes_of_body x)
  body method p q (tree.the_body id has_self generics params vararg answer block span) (i, e, a, b, c, d, f, g, own, all, opens, stated, closes, answers, held_block, ends, selves) =
      let values = parameters own b c vararg stated in
      a_body (written.bare rules inner p a generics all)
      (both (both (both (both (written.generics rules inner held false p a generics all) (params_held method has_self own params selves values.0)) values.1)
      (maybe_result d f answer answers)) (held.block f g block held_block))

  item : (p q : Place) (x : Item) → grammar.IsItem rules inner p q x → Plain (nodes_of_item x)
  item p q (tree.Keyed key value) h = both (held.exp h.0 h.1 key h.5) (held.exp h.3 q value h.8)
  item p q (tree.Field n value) h = held.exp h.1 q value h.4
  item p q (tree.Plain value) h = held.exp p q value h.1

  table : (level : ℕ) (p q : Place) (all : Items) → grammar.IsTable rules inner level p q all → Plain (nodes_of_items all)
  table level p q all (inl h) = subst (λ z. Plain (nodes_of_items z)) (sym h.4) nothing
  table level p q all (inr h) =
      subst (λ z. Plain (nodes_of_items z)) (sym h.8)
      (in_braces rules (λ xs. nodes_of_items (items xs)) nodes_of_item nothing more_items (grammar.IsItem rules inner) item h.3 (at_level level h.0) h.1 h.2 h.6)

  in_parens : (p q : Place) (all : Exprs) → grammar.AreInParens rules inner p q all → Plain (nodes_of_exprs all)
  in_parens p q all (inl h) = subst (λ z. Plain (nodes_of_exprs z)) (sym h.2) nothing
  in_parens p q all (inr h) = several p q all h.1

  arguments : (level : ℕ) (p q : Place) (args : Exprs) → grammar.AreArguments rules inner level p q args → Plain (nodes_of_exprs args)
  arguments level p q args (inl h) = in_parens (at_level level h.0) h.1 args h.3
  arguments level p q args (inr (inl h)) = subst (λ z. Plain (nodes_of_exprs z)) (sym h.2) (both (an_expr (table level p q h.0 h.1)) nothing)
  arguments level p q args (inr (inr h)) = subst (λ z. Plain (nodes_of_exprs z)) (sym h.4) (both (an_expr nothing) nothing)

  mutual
    pub prefix : (p q : Place) (e : Expr) → grammar.IsPrefix rules inner p q e → Plain (nodes_of_expr e)
    prefix p q (tree.the_expr id span kind) h = an_expr (prefix_form p q kind h.2)

    prefix_form : (p q : Place) (kind : ExprKind) → grammar.IsPrefixForm rules inner p q kind → Plain (nodes_of_expr_kind kind)
    prefix_form p q (tree.NameExpr n) h = nothing
    prefix_form p q (tree.Paren e) h = held.exp h.0 h.1 e h.3
    prefix_form p q (tree.Index base n) h = prefix p h.0 base h.2
    prefix_form p q (tree.At base key) h = both (prefix p h.0 base h.3) (held.exp (raised h.1) h.2 key h.5)
    prefix_form p q (tree.Call callee args) h = both (prefix p h.0 callee h.1) (arguments (h.0.level + 1) h.0 q args h.2)
    prefix_form p q (tree.Method base n name_span args) h = both (prefix p h.0 base h.3) (arguments h.2.level h.2 q args h.7)
    prefix_form p q _ h = absurd h

  choices_held : (word : Symbol) (more : List (Expr × Expr)) (p q : Place) (one : Expr × Expr) → grammar.AreChoices rules inner word p q one more
      → Plain (nodes_of_choices (choices (one ∷ more)))
  choices_held word [] p q one h = both (both (held.exp h.0 h.1 one.0 h.4) (held.exp h.2 q one.1 h.6)) nothing
  choices_held word (other ∷ more) p q one h =
      both (both (held.exp h.0 h.1 one.0 h.5) (held.exp h.2 h.3 one.1 h.7)) (choices_held s.ElseIf more h.3 q other h.8)

  if_else : (p q : Place) (all : Choices) (last : Expr) → grammar.IsIfElse rules inner p q all last → Plain (nodes_of_expr_kind (tree.IfElse all last))
  if_else p q all last h =
      both (subst (λ z. Plain (nodes_of_choices z)) (sym h.7) (choices_held s.If h.3 p h.0 h.2 h.4)) (held.exp h.1 q last h.6)

  parts : (fs : List Expr) (p q : Place) (e : Expr) (texts : List (List ℕ)) → grammar.AreParts rules inner p q e fs texts
      → Plain (nodes_of_exprs (exprs (e ∷ fs)))
  parts [] p q e texts h = both (held.exp p h.0 e h.2) nothing
  parts (f ∷ fs) p q e texts h = both (held.exp p h.0 e h.4) (parts fs h.1 q f h.3 h.6)

  interpolation : (p q : Place) (texts : List (List ℕ)) (all : Exprs) → grammar.IsInterpolation rules inner p q texts all → Plain (nodes_of_exprs all)
  interpolation p q texts all (inl h) = subst (λ z. Plain (nodes_of_exprs z)) (sym h.3) nothing
  interpolation p q texts all (inr h) = subst (λ z. Plain (nodes_of_exprs z)) (sym h.8) (parts h.4 h.0 q h.3 h.2 h.6)

  simple_form : (p q : Place) (kind : ExprKind) → grammar.IsSimpleForm rules inner p q kind → Plain (nodes_of_expr_kind kind)
  simple_form p q tree.NilExpr h = nothing
  simple_form p q tree.TrueExpr h = nothing
  simple_form p q tree.FalseExpr h = nothing
  simple_form p q (tree.NumberExpr n) h = nothing
  simple_form p q (tree.StrExpr value) h = nothing
  simple_form p q tree.Vararg h = nothing
  simple_form p q (tree.FunctionExpr x) h = body None h.2 q x h.5
  simple_form p q (tree.IfElse arms last) h = if_else p q arms last h
  simple_form p q (tree.TableExpr all) h = table p.level p q all h
  simple_form p q (tree.Interp texts all) h = interpolation p q texts all h
  simple_form p q (tree.Binary op left right) h = absurd h
  simple_form p q (tree.Unary op e) h = absurd h
  simple_form p q (tree.Assert e t) h = absurd h
  simple_form p q (tree.NameExpr n) h = prefix_form p q (tree.NameExpr n) h.0
  simple_form p q (tree.Paren e) h = prefix_form p q (tree.Paren e) h.0
  simple_form p q (tree.Index base n) h = prefix_form p q (tree.Index base n) h.0
  simple_form p q (tree.At base key) h = prefix_form p q (tree.At base key) h.0
  simple_form p q (tree.Call callee args) h = prefix_form p q (tree.Call callee args) h.0
  simple_form p q (tree.Method base n name_span args) h = prefix_form p q (tree.Method base n name_span args) h.0

  simple : (p q : Place) (e : Expr) → grammar.IsSimple rules inner p q e → Plain (nodes_of_expr e)
  simple p q (tree.the_expr id span kind) h = an_expr (simple_form p q kind h.2)

  mutual
    operation : (p q : Place) (e : Expr) → grammar.IsOperation rules inner p q e → Plain (nodes_of_expr e)
    operation p q (tree.the_expr id span kind) h = an_expr (operation_form p q kind h.2)

    operation_form : (p q : Place) (kind : ExprKind) → grammar.IsOperationForm rules inner p q kind → Plain (nodes_of_expr_kind kind)
    operation_form p q (tree.Binary op left right) h = both (operation p h.0 left h.2) (operation (raised h.1) q right h.4)
    operation_form p q (tree.Unary op e) h = operation (raised h.0) q e h.2
    operation_form p q (tree.Assert e t) h = both (simple p h.0 e h.2) (typ h.1 q t h.4)
    operation_form p q kind h = simple_form p q kind h.0

  pub whole : (p q : Place) (e : Expr) → grammar.IsExpression rules inner p q e → Plain (nodes_of_expr e)
  whole p q e h = operation p q e h.0
