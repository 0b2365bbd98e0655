-- Expressions and bodies: pieces with their outlines.
use Rattle.std.proofs.Common.{◌≡◌, ℕ, zero, suc, ◌+◌, Bool, true, false, List, [], ◌∷◌, inl, inr, refl, sym, ap, ◌∙◌, subst}
use Rattle.std.specs.Prelude.{Option, Some, None}
use Rattle.luau_tree.specs.declared.position.Span.{Span}
use Rattle.luau_tree.specs.Tree.{Expr, Exprs, ExprKind, Choices, Item, Items, Body, Varargs, Bind, Binds, TypeSyntax, MaybeType}
use Rattle.luau_tree.specs.Tree as tree
use Rattle.luau_tree.specs.View.{exprs, binds, items, choices}
use Rattle.luau_lex.specs.Tokens.{Tok}
use Rattle.luau_grammar.specs.declared.symbol.Symbol.{Symbol}
use Rattle.luau_grammar.specs.declared.symbol.Symbol.TheVariants as s
use Rattle.luau_grammar.specs.Places as place
use Rattle.luau_grammar.specs.Places.{Place, Rules, over, raised, at_level}
use Rattle.luau_grammar.specs.Phrases.{Phrases}
use Rattle.luau_grammar.specs.Expressions as grammar
use Rattle.grammar_laws.specs.Outlines.{Outline, no_spans, and_then, node, mark, self_of, of_expr, of_exprs, of_expr_kind, of_choices, of_item, of_items, of_body, of_params, of_varargs, of_bind, of_binds, of_gens, of_maybe_type, of_type, of_block}
use Rattle.grammar_laws.proofs.Pieces as piece
use Rattle.grammar_laws.proofs.Pieces.{Piece, Maybe, Lists, and_nothing}
use Rattle.grammar_laws.proofs.Front.{Held}
use Rattle.grammar_laws.proofs.WrittenTypes as written

pub expr_lists : Lists of_expr (λ xs. of_exprs (exprs xs))
expr_lists = record { none = refl; more = λ x xs. refl }

pub bind_lists : Lists of_bind (λ xs. of_binds (binds xs))
bind_lists = record { none = refl; more = λ x xs. refl }

item_lists : Lists of_item (λ xs. of_items (items xs))
item_lists = record { none = refl; more = λ x xs. refl }

-- the written parameters of a body
params_are : (own : List Bind) → of_params false (binds own) ≡ of_binds (binds own)
params_are [] = refl
params_are (x ∷ xs) = refl

-- a method's name stands in front of its body
abbrev pub front_of : Option Span → Outline
front_of None = no_spans
front_of (Some span) = mark span

self_is : (method : Option Span) (has_self : Bool) (own : List Bind) (params : Binds) → grammar.HasSelf method has_self own params
    → self_of has_self params ≡ front_of method
self_is None has_self own params h = subst (λ z. self_of z params ≡ no_spans) (sym h.0) refl
self_is (Some span) has_self own params h =
    subst (λ z. self_of z params ≡ mark span) (sym h.0) (subst (λ z. self_of true z ≡ mark span) (sym h.1) refl)

own_is : (method : Option Span) (has_self : Bool) (own : List Bind) (params : Binds) → grammar.HasSelf method has_self own params
    → of_params has_self params ≡ of_binds (binds own)
own_is None has_self own params h =
    subst (λ z. of_params z params ≡ of_binds (binds own)) (sym h.0) (subst (λ z. of_params false z ≡ of_binds (binds own)) (sym h.1) (params_are own))
own_is (Some span) has_self own params h =
    subst (λ z. of_params z params ≡ of_binds (binds own)) (sym h.0) (subst (λ z. of_params true z ≡ of_binds (binds own)) (sym h.1) refl)

module _ (ts : List Tok) (rules : Rules) (inner : Phrases) (held : Held ts inner) where
  token : (x : Symbol) (p q : Place) → place.Takes rules x p q → Piece ts p q no_spans
  token x p q h = piece.token ts rules x p q h

  name : (p q : Place) (n : List ℕ) → place.TakesName rules p q n → Piece ts p q no_spans
  name p q n h = piece.name ts rules p q n h

  text : (x : Symbol) (p q : Place) (n : List ℕ) → place.TakesString rules x p q n → Piece ts p q no_spans
  text x p q n h = piece.string ts rules x p q n h

  typ : (p q : Place) (t : TypeSyntax) → inner.typ None p q t → Piece ts p q (of_type t)
  typ p q t h = held.typ None p p q t (refl, refl) h

  pub several : (p q : Place) (all : Exprs) → grammar.AreExpressions rules inner p q all → Piece ts p q (of_exprs all)
  several p q all h =
      subst (λ z. Piece ts p q (of_exprs z)) (sym h.3)
      (piece.separated ts rules of_expr (λ xs. of_exprs (exprs xs)) expr_lists inner.exp held.exp h.1 p q h.0 h.2)

  pub attributes : (n : ℕ) (p q : Place) → grammar.AreAttributes rules inner n p q → Maybe ts p q no_spans
  attributes zero p q h = piece.nothing ts p q h.1
  attributes (suc n) p q h =
      piece.maybe ts p q no_spans (piece.then_maybe ts p h.1 q no_spans no_spans
      (piece.both ts p h.0 h.1 no_spans no_spans (token s.AtSign p h.0 h.3) (name h.0 h.1 h.2 h.4)) (attributes n h.1 q h.5))

  annotation : (p q : Place) (t : MaybeType) → grammar.IsAnnotation rules inner p q t → Maybe ts p q (of_maybe_type t)
  annotation p q tree.no_type h = piece.nothing ts p q h.1
  annotation p q (tree.a_type t) h =
      piece.maybe ts p q (of_type t) (piece.both ts p h.0 q no_spans (of_type t) (token s.Colon p h.0 h.1) (typ h.0 q t h.2))

  pub bind : (p q : Place) (x : Bind) → grammar.IsBind rules inner p q x → Piece ts p q (of_bind x)
  bind p q (tree.the_bind n span t) h =
      piece.then_maybe ts p h.0 q (mark span) (of_maybe_type t) (piece.node_over ts p h.0 span no_spans h.2 (name p h.0 n h.1))
      (annotation h.0 q t h.3)

  var_type : (p q : Place) (t : TypeSyntax) → grammar.IsVarType rules inner p q t → Piece ts p q (of_type t)
  var_type p q t (inl h) =
      subst (λ z. Piece ts p q (of_type z)) (sym h.5)
      (piece.node_over ts p q _ no_spans refl (piece.both ts p h.1 q no_spans no_spans (name p h.1 h.2 h.3) (token s.Dots h.1 q h.4)))
  var_type p q t (inr h) = typ p q t h.1

  varparam : (p q : Place) (t : MaybeType) → grammar.IsVarparam rules inner p q t → Piece ts p q (of_maybe_type t)
  varparam p q tree.no_type h = token s.Dots p q h.0
  varparam p q (tree.a_type t) h =
      piece.both ts p h.1 q no_spans (of_type t)
      (piece.both ts p h.0 h.1 no_spans no_spans (token s.Dots p h.0 h.2) (token s.Colon h.0 h.1 h.3)) (var_type h.1 q t h.4)

  parameters_from : (xs : List Bind) (p q : Place) (x : Bind) (v : Varargs) → grammar.AreParametersFrom rules inner p q x xs v
      → Piece ts p q (and_then (of_binds (binds (x ∷ xs))) (of_varargs v))
  parameters_from [] p q x tree.no_varargs h =
      let o = of_bind x in
      subst (Piece ts p q) (sym (and_nothing (and_then o no_spans) ∙ and_nothing o)) (bind p q x h.0)
  parameters_from [] p q x (tree.varargs t) h =
      let o = of_bind x in
      piece.both ts p h.1 q (and_then o no_spans) (of_maybe_type t)
      (piece.both ts p h.0 h.1 o no_spans (bind p h.0 x h.2) (token s.Comma h.0 h.1 h.3)) (varparam h.1 q t h.5)
  parameters_from (y ∷ ys) p q x v h =
      let o = of_bind x in
      let rest = and_then (of_binds (binds (y ∷ ys))) (of_varargs v) in
      subst (Piece ts p q) (sym (piece.regrouped o (of_binds (binds (y ∷ ys))) (of_varargs v)))
      (piece.both ts p h.1 q o rest (piece.closed ts p h.0 h.1 o (bind p h.0 x h.2) (token s.Comma h.0 h.1 h.3))
      (parameters_from ys h.1 q y v h.5))

  parameters : (own : List Bind) (p q : Place) (v : Varargs) → grammar.AreParameters rules inner p q own v
      → Maybe ts p q (and_then (of_binds (binds own)) (of_varargs v))
  parameters [] p q tree.no_varargs h = piece.nothing ts p q h.1
  parameters [] p q (tree.varargs t) h = piece.maybe ts p q (of_maybe_type t) (varparam p q t h.1)
  parameters (x ∷ xs) p q v h = piece.maybe ts p q (and_then (of_binds (binds (x ∷ xs))) (of_varargs v)) (parameters_from xs p q x v h.2)

  maybe_result : (p q : Place) (t : MaybeType) → grammar.IsMaybeResult rules inner p q t → Maybe ts p q (of_maybe_type t)
  maybe_result p q tree.no_type h = piece.nothing ts p q h.1
  maybe_result p q (tree.a_type t) h =
      piece.maybe ts p q (of_type t)
      (piece.both ts p h.0 q no_spans (of_type t) (token s.Colon p h.0 h.1) (written.result ts rules inner held h.0 q t h.2))

  -- the body alone, behind the name of a method
  pub body : (method : Option Span) (p q : Place) (x : Body) → grammar.IsBody rules inner method p q x
      → (o : Outline) × (of_body x ≡ and_then (front_of method) o) × Piece ts p q o
  body method p q (tree.the_body id has_self generics params vararg answer block span) (i, e, a, b, c, d, f, g, own, all, opens, stated, closes, answers, held_block, ends, selves) =
      let values = and_then (of_binds (binds own)) (of_varargs vararg) in
      let behind = and_then (of_maybe_type answer) (of_block block) in
      let inside = and_then (of_gens generics) (and_then (of_binds (binds own)) (and_then (of_varargs vararg) behind)) in
      let self = self_is method has_self own params selves in
      let mine = own_is method has_self own params selves in
      let piece_of : Piece ts p q inside =
      piece.maybe_then ts p a q (of_gens generics) (and_then (of_binds (binds own)) (and_then (of_varargs vararg) behind))
      (written.generics ts rules inner held false p a generics all)
      (subst (Piece ts a q) (piece.regrouped (of_binds (binds own)) (of_varargs vararg) behind)
      (piece.both ts a d q values behind
      (piece.enclosed ts a b c d values (token s.LeftParen a b opens) (parameters own b c vararg stated) (token s.RightParen c d closes))
      (piece.maybe_closed ts d g q behind (piece.maybe_maybe ts d f g (of_maybe_type answer) (of_block block) (maybe_result d f answer answers)
      (held.block f g block held_block)) (token s.End g q ends)))) in (
        node span inside,
        ap (λ z. and_then z (node span (and_then (of_gens generics) (and_then (of_params has_self params) (and_then (of_varargs vararg) behind))))) self
            ∙ ap (λ z. and_then (front_of method) (node span (and_then (of_gens generics) (and_then z (and_then (of_varargs vararg) behind))))) mine,
        piece.node_over ts p q span inside e piece_of,
      )

  pub own_body : (p q : Place) (x : Body) → grammar.IsBody rules inner None p q x → Piece ts p q (of_body x)
  own_body p q x h = let b = body None p q x h in subst (Piece ts p q) (sym b.1) b.2

  item : (p q : Place) (x : Item) → grammar.IsItem rules inner p q x → Piece ts p q (of_item x)
  item p q (tree.Keyed key value) h =
      piece.both ts p h.3 q (of_expr key) (of_expr value)
      (piece.both ts p h.0 h.3 no_spans (of_expr key) (token s.LeftBracket p h.0 h.4)
      (piece.closed ts h.0 h.2 h.3 (of_expr key) (piece.closed ts h.0 h.1 h.2 (of_expr key) (held.exp h.0 h.1 key h.5) (token s.RightBracket h.1 h.2 h.6))
      (token s.Assign h.2 h.3 h.7)))
      (held.exp h.3 q value h.8)
  item p q (tree.Field n value) h =
      piece.both ts p h.1 q no_spans (of_expr value) (piece.both ts p h.0 h.1 no_spans no_spans (name p h.0 n h.2) (token s.Assign h.0 h.1 h.3))
      (held.exp h.1 q value h.4)
  item p q (tree.Plain value) h = held.exp p q value h.1

  table : (level : ℕ) (p q : Place) (all : Items) → grammar.IsTable rules inner level p q all → Piece ts p q (of_items all)
  table level p q all (inl h) =
      subst (λ z. Piece ts p q (of_items z)) (sym h.4)
      (piece.both ts p h.0 q no_spans no_spans (token s.LeftBrace p h.0 h.1) (token s.RightBrace (at_level level h.0) q h.3))
  table level p q all (inr h) =
      let list = of_items (items (h.2 ∷ h.3)) in
      subst (λ z. Piece ts p q (of_items z)) (sym h.8)
      (piece.both ts p h.0 q no_spans list (token s.LeftBrace p h.0 h.4)
      (piece.closed ts h.0 h.1 q list
      (piece.in_braces ts rules of_item (λ xs. of_items (items xs)) item_lists (grammar.IsItem rules inner) item h.3 (at_level level h.0) h.1 h.2 h.6)
      (token s.RightBrace h.1 q h.7)))

  in_parens : (p q : Place) (all : Exprs) → grammar.AreInParens rules inner p q all → Maybe ts p q (of_exprs all)
  in_parens p q all (inl h) = subst (λ z. Maybe ts p q (of_exprs z)) (sym h.2) (piece.nothing ts p q h.1)
  in_parens p q all (inr h) = piece.maybe ts p q (of_exprs all) (several p q all h.1)

  arguments : (level : ℕ) (p q : Place) (args : Exprs) → grammar.AreArguments rules inner level p q args → Piece ts p q (of_exprs args)
  arguments level p q args (inl h) =
      piece.enclosed ts p h.0 h.1 q (of_exprs args) (piece.opening ts rules p h.0 h.2) (in_parens (at_level level h.0) h.1 args h.3)
      (token s.RightParen h.1 q h.4)
  arguments level p q args (inr (inl h)) =
      subst (λ z. Piece ts p q (of_exprs z)) (sym h.2)
      (piece.node_over ts p q _ (of_items h.0) refl (table level p q h.0 h.1))
  arguments level p q args (inr (inr h)) =
      subst (λ z. Piece ts p q (of_exprs z)) (sym h.4)
      (piece.node_over ts p q _ no_spans refl (piece.leveled ts p h.0 q level no_spans h.3 (text s.Text p h.0 h.1 h.2)))

  mutual
    pub prefix : (p q : Place) (e : Expr) → grammar.IsPrefix rules inner p q e → Piece ts p q (of_expr e)
    prefix p q (tree.the_expr id span kind) h = piece.node_over ts p q span (of_expr_kind kind) h.1 (prefix_form p q kind h.2)

    prefix_form : (p q : Place) (kind : ExprKind) → grammar.IsPrefixForm rules inner p q kind → Piece ts p q (of_expr_kind kind)
    prefix_form p q (tree.NameExpr n) h = name p q n h
    prefix_form p q (tree.Paren e) h =
        piece.both ts p h.0 q no_spans (of_expr e) (token s.LeftParen p h.0 h.2)
        (piece.closed ts h.0 h.1 q (of_expr e) (held.exp h.0 h.1 e h.3) (token s.RightParen h.1 q h.4))
    prefix_form p q (tree.Index base n) h =
        piece.closed ts p h.1 q (of_expr base) (piece.closed ts p h.0 h.1 (of_expr base) (prefix p h.0 base h.2) (token s.Dot h.0 h.1 h.3))
        (name (raised h.1) q n h.4)
    prefix_form p q (tree.At base key) h =
        piece.both ts p h.1 q (of_expr base) (of_expr key)
        (piece.closed ts p h.0 h.1 (of_expr base) (prefix p h.0 base h.3) (token s.LeftBracket h.0 h.1 h.4))
        (piece.closed ts h.1 h.2 q (of_expr key) (held.exp (raised h.1) h.2 key h.5) (token s.RightBracket h.2 q h.6))
    prefix_form p q (tree.Call callee args) h =
        piece.both ts p h.0 q (of_expr callee) (of_exprs args) (prefix p h.0 callee h.1) (arguments (h.0.level + 1) h.0 q args h.2)
    prefix_form p q (tree.Method base n name_span args) h =
        piece.both ts p h.1 q (of_expr base) (and_then (mark name_span) (of_exprs args))
        (piece.closed ts p h.0 h.1 (of_expr base) (prefix p h.0 base h.3) (token s.Colon h.0 h.1 h.4))
        (piece.both ts h.1 h.2 q (mark name_span) (of_exprs args)
        (piece.node_over ts h.1 h.2 name_span no_spans h.6 (name (raised h.1) h.2 n h.5))
        (arguments h.2.level h.2 q args h.7))
    prefix_form p q _ h = absurd h

  choices_piece : (word : Symbol) (more : List (Expr × Expr)) (p q : Place) (one : Expr × Expr) → grammar.AreChoices rules inner word p q one more
      → Piece ts p q (of_choices (choices (one ∷ more)))
  choices_piece word [] p q one h =
      piece.both ts p h.1 q (of_expr one.0) (and_then (of_expr one.1) no_spans)
      (piece.both ts p h.0 h.1 no_spans (of_expr one.0) (token word p h.0 h.3) (held.exp h.0 h.1 one.0 h.4))
      (piece.both ts h.1 h.2 q no_spans (and_then (of_expr one.1) no_spans) (token s.Then h.1 h.2 h.5)
      (subst (Piece ts h.2 q) (sym (and_nothing (of_expr one.1))) (held.exp h.2 q one.1 h.6)))
  choices_piece word (other ∷ more) p q one h =
      let rest = of_choices (choices (other ∷ more)) in
      piece.both ts p h.1 q (of_expr one.0) (and_then (of_expr one.1) rest)
      (piece.both ts p h.0 h.1 no_spans (of_expr one.0) (token word p h.0 h.4) (held.exp h.0 h.1 one.0 h.5))
      (piece.both ts h.1 h.2 q no_spans (and_then (of_expr one.1) rest) (token s.Then h.1 h.2 h.6)
      (piece.both ts h.2 h.3 q (of_expr one.1) rest (held.exp h.2 h.3 one.1 h.7) (choices_piece s.ElseIf more h.3 q other h.8)))

  if_else : (p q : Place) (all : Choices) (last : Expr) → grammar.IsIfElse rules inner p q all last
      → Piece ts p q (and_then (of_choices all) (of_expr last))
  if_else p q all last h =
      let list = of_choices (choices (h.2 ∷ h.3)) in
      subst (λ z. Piece ts p q (and_then (of_choices z) (of_expr last))) (sym h.7)
      (piece.both ts p h.1 q list (of_expr last)
      (piece.closed ts p h.0 h.1 list (choices_piece s.If h.3 p h.0 h.2 h.4) (token s.Else h.0 h.1 h.5))
      (held.exp h.1 q last h.6))

  parts : (fs : List Expr) (p q : Place) (e : Expr) (texts : List (List ℕ)) → grammar.AreParts rules inner p q e fs texts
      → Piece ts p q (of_exprs (exprs (e ∷ fs)))
  parts [] p q e texts h = piece.both ts p h.0 q (of_expr e) no_spans (held.exp p h.0 e h.2) (text s.Last h.0 q h.1 h.3)
  parts (f ∷ fs) p q e texts h =
      piece.both ts p h.1 q (of_expr e) (of_exprs (exprs (f ∷ fs)))
      (piece.closed ts p h.0 h.1 (of_expr e) (held.exp p h.0 e h.4) (text s.Mid h.0 h.1 h.2 h.5))
      (parts fs h.1 q f h.3 h.6)

  interpolation : (p q : Place) (texts : List (List ℕ)) (all : Exprs) → grammar.IsInterpolation rules inner p q texts all
      → Piece ts p q (of_exprs all)
  interpolation p q texts all (inl h) = subst (λ z. Piece ts p q (of_exprs z)) (sym h.3) (text s.Whole p q h.0 h.1)
  interpolation p q texts all (inr h) =
      subst (λ z. Piece ts p q (of_exprs z)) (sym h.8)
      (piece.both ts p h.0 q no_spans (of_exprs (exprs (h.3 ∷ h.4))) (text s.Begin p h.0 h.1 h.5) (parts h.4 h.0 q h.3 h.2 h.6))

  simple_form : (p q : Place) (kind : ExprKind) → grammar.IsSimpleForm rules inner p q kind → Piece ts p q (of_expr_kind kind)
  simple_form p q tree.NilExpr h = token s.Nil p q h
  simple_form p q tree.TrueExpr h = token s.True p q h
  simple_form p q tree.FalseExpr h = token s.False p q h
  simple_form p q (tree.NumberExpr n) h = piece.number ts rules p q n h
  simple_form p q (tree.StrExpr value) h = text s.Text p q value h
  simple_form p q tree.Vararg h = token s.Dots p q h
  simple_form p q (tree.FunctionExpr x) h =
      piece.maybe_then ts p h.1 q no_spans (of_body x) (attributes h.0 p h.1 h.3)
      (piece.both ts h.1 h.2 q no_spans (of_body x) (token s.Function h.1 h.2 h.4) (own_body h.2 q x h.5))
  simple_form p q (tree.IfElse arms last) h = if_else p q arms last h
  simple_form p q (tree.TableExpr all) h = table p.level p q all h
  simple_form p q (tree.Interp texts all) h = interpolation p q texts all h
  simple_form p q (tree.Binary op left right) h = absurd h
  simple_form p q (tree.Unary op e) h = absurd h
  simple_form p q (tree.Assert e t) h = absurd h
  simple_form p q (tree.NameExpr n) h = prefix_form p q (tree.NameExpr n) h.0
  simple_form p q (tree.Paren e) h = prefix_form p q (tree.Paren e) h.0
  simple_form p q (tree.Index base n) h = prefix_form p q (tree.Index base n) h.0
  simple_form p q (tree.At base key) h = prefix_form p q (tree.At base key) h.0
  simple_form p q (tree.Call callee args) h = prefix_form p q (tree.Call callee args) h.0
  simple_form p q (tree.Method base n name_span args) h = prefix_form p q (tree.Method base n name_span args) h.0

  simple : (p q : Place) (e : Expr) → grammar.IsSimple rules inner p q e → Piece ts p q (of_expr e)
  simple p q (tree.the_expr id span kind) h = piece.node_over ts p q span (of_expr_kind kind) h.1 (simple_form p q kind h.2)

  mutual
    operation : (p q : Place) (e : Expr) → grammar.IsOperation rules inner p q e → Piece ts p q (of_expr e)
    operation p q (tree.the_expr id span kind) h = piece.node_over ts p q span (of_expr_kind kind) h.1 (operation_form p q kind h.2)

    operation_form : (p q : Place) (kind : ExprKind) → grammar.IsOperationForm rules inner p q kind → Piece ts p q (of_expr_kind kind)
    operation_form p q (tree.Binary op left right) h =
        piece.both ts p h.1 q (of_expr left) (of_expr right)
        (piece.closed ts p h.0 h.1 (of_expr left) (operation p h.0 left h.2) (token h.3.0 h.0 h.1 h.3.2))
        (operation (raised h.1) q right h.4)
    operation_form p q (tree.Unary op e) h =
        piece.both ts p h.0 q no_spans (of_expr e) (token h.1.0 p h.0 h.1.2) (operation (raised h.0) q e h.2)
    operation_form p q (tree.Assert e t) h =
        piece.both ts p h.1 q (of_expr e) (of_type t)
        (piece.closed ts p h.0 h.1 (of_expr e) (simple p h.0 e h.2) (token s.DoubleColon h.0 h.1 h.3))
        (typ h.1 q t h.4)
    operation_form p q kind h = simple_form p q kind h.0

  pub whole : (p q : Place) (e : Expr) → grammar.IsExpression rules inner p q e → Piece ts p q (of_expr e)
  whole p q e h = operation p q e h.0
