-- Statements and blocks: pieces with their outlines.
use Rattle.std.proofs.Common.{ℕ, Bool, true, false, List, [], ◌∷◌, inl, inr, refl, sym, subst}
use Rattle.std.specs.Prelude.{Option, Some, None}
use Rattle.luau_tree.specs.declared.position.Span.{Span}
use Rattle.luau_tree.specs.Tree.{Block, Stat, StatKind, Arms, MaybeBlock, Expr, Exprs, MaybeExpr, ExprKind, Bind, Binds, Gens, TypeSyntax}
use Rattle.luau_tree.specs.Tree as tree
use Rattle.luau_tree.specs.View.{exprs, binds, arms}
use Rattle.luau_lex.specs.Tokens.{Tok}
use Rattle.luau_grammar.specs.declared.symbol.Symbol.{Symbol}
use Rattle.luau_grammar.specs.declared.symbol.Symbol.TheVariants as s
use Rattle.luau_grammar.specs.Places as place
use Rattle.luau_grammar.specs.Places.{Place, Rules, raised, at_level}
use Rattle.luau_grammar.specs.Phrases.{Phrases}
use Rattle.luau_grammar.specs.Expressions as expressions
use Rattle.luau_grammar.specs.Statements as grammar
use Rattle.luau_grammar.specs.Statements.{is_last}
use Rattle.grammar_laws.specs.Outlines.{no_spans, and_then, mark, of_expr, of_exprs, of_maybe_expr, of_expr_kind, of_body, of_bind, of_binds, of_gens, of_type, of_stat, of_stat_kind, of_arms, of_maybe_block, of_block}
use Rattle.grammar_laws.proofs.Pieces as piece
use Rattle.grammar_laws.proofs.Pieces.{Piece, Maybe, and_nothing}
use Rattle.grammar_laws.proofs.Front.{Held}
use Rattle.grammar_laws.proofs.WrittenTypes as written
use Rattle.grammar_laws.proofs.Values as values
use Rattle.grammar_laws.proofs.Values.{expr_lists, bind_lists, front_of}

module _ (ts : List Tok) (rules : Rules) (inner : Phrases) (held : Held ts inner) where
  token : (x : Symbol) (p q : Place) → place.Takes rules x p q → Piece ts p q no_spans
  token x p q h = piece.token ts rules x p q h

  name : (p q : Place) (n : List ℕ) → place.TakesName rules p q n → Piece ts p q no_spans
  name p q n h = piece.name ts rules p q n h

  several : (p q : Place) (all : Exprs) → expressions.AreExpressions rules inner p q all → Piece ts p q (of_exprs all)
  several p q all h = values.several ts rules inner held p q all h

  own_prefix : (p q : Place) (e : Expr) → grammar.IsOwnPrefix rules inner p q e → Piece ts p q (of_expr e)
  own_prefix p q e h = piece.leveled ts p h.0 q p.level (of_expr e) h.3 (values.prefix ts rules inner held p h.0 e h.1)

  variable : (p q : Place) (e : Expr) → grammar.IsVariable rules inner p q e → Piece ts p q (of_expr e)
  variable p q e h = own_prefix p q e h.0

  assign : (p q : Place) (targets given : Exprs) → grammar.IsAssign rules inner p q targets given
      → Piece ts p q (and_then (of_exprs targets) (of_exprs given))
  assign p q targets given h =
      let list = of_exprs (exprs (h.2 ∷ h.3)) in
      subst (λ z. Piece ts p q (and_then (of_exprs z) (of_exprs given))) (sym h.7)
      (piece.both ts p h.1 q list (of_exprs given)
      (piece.closed ts p h.0 h.1 list
      (piece.separated ts rules of_expr (λ xs. of_exprs (exprs xs)) expr_lists (grammar.IsVariable rules inner) variable h.3 p h.0 h.2 h.4)
      (token s.Assign h.0 h.1 h.5))
      (several h.1 q given h.6))

  arms_piece : (word : Symbol) (more : List (Expr × Block)) (p q : Place) (one : Expr × Block) → grammar.AreArms rules inner word p q one more
      → Piece ts p q (of_arms (arms (one ∷ more)))
  arms_piece word [] p q one h =
      piece.both ts p h.1 q (of_expr one.0) (and_then (of_block one.1) no_spans)
      (piece.both ts p h.0 h.1 no_spans (of_expr one.0) (token word p h.0 h.3) (held.exp h.0 h.1 one.0 h.4))
      (piece.then_maybe ts h.1 h.2 q no_spans (and_then (of_block one.1) no_spans) (token s.Then h.1 h.2 h.5)
      (subst (Maybe ts h.2 q) (sym (and_nothing (of_block one.1))) (held.block h.2 q one.1 h.6)))
  arms_piece word (other ∷ more) p q one h =
      let rest = of_arms (arms (other ∷ more)) in
      piece.both ts p h.1 q (of_expr one.0) (and_then (of_block one.1) rest)
      (piece.both ts p h.0 h.1 no_spans (of_expr one.0) (token word p h.0 h.4) (held.exp h.0 h.1 one.0 h.5))
      (piece.both ts h.1 h.2 q no_spans (and_then (of_block one.1) rest) (token s.Then h.1 h.2 h.6)
      (piece.maybe_then ts h.2 h.3 q (of_block one.1) rest (held.block h.2 h.3 one.1 h.7) (arms_piece s.ElseIf more h.3 q other h.8)))

  otherwise : (p q : Place) (last : MaybeBlock) → grammar.IsElse rules inner p q last → Maybe ts p q (of_maybe_block last)
  otherwise p q tree.no_block h = piece.nothing ts p q h.1
  otherwise p q (tree.a_block b) h =
      piece.maybe ts p q (of_block b) (piece.then_maybe ts p h.0 q no_spans (of_block b) (token s.Else p h.0 h.1) (held.block h.0 q b h.2))

  conditions : (p q : Place) (all : Arms) (last : MaybeBlock) → grammar.IsIf rules inner p q all last
      → Piece ts p q (and_then (of_arms all) (of_maybe_block last))
  conditions p q all last h =
      let list = of_arms (arms (h.2 ∷ h.3)) in
      subst (λ z. Piece ts p q (and_then (of_arms z) (of_maybe_block last))) (sym h.7)
      (piece.closed ts p h.1 q (and_then list (of_maybe_block last))
      (piece.then_maybe ts p h.0 h.1 list (of_maybe_block last) (arms_piece s.If h.3 p h.0 h.2 h.4) (otherwise h.0 h.1 last h.5))
      (token s.End h.1 q h.6))

  braced : (p q : Place) (b : Block) → grammar.IsDo rules inner p q b → Piece ts p q (of_block b)
  braced p q b h = piece.enclosed ts p h.0 h.1 q (of_block b) (token s.Do p h.0 h.2) (held.block h.0 h.1 b h.3) (token s.End h.1 q h.4)

  step : (p q : Place) (e : MaybeExpr) → grammar.IsStep rules inner p q e → Maybe ts p q (of_maybe_expr e)
  step p q tree.no_expr h = piece.nothing ts p q h.1
  step p q (tree.an_expr e) h =
      piece.maybe ts p q (of_expr e) (piece.both ts p h.0 q no_spans (of_expr e) (token s.Comma p h.0 h.1) (held.exp h.0 q e h.2))

  names : (p q : Place) (all : Binds) → grammar.AreBinds rules inner p q all → Piece ts p q (of_binds all)
  names p q all h =
      subst (λ z. Piece ts p q (of_binds z)) (sym h.3)
      (piece.separated ts rules of_bind (λ xs. of_binds (binds xs)) bind_lists (expressions.IsBind rules inner) (values.bind ts rules inner held)
      h.1 p q h.0 h.2)

  generic_for : (p q : Place) (all : Binds) (given : Exprs) (b : Block) → grammar.IsGenericFor rules inner p q all given b
      → Piece ts p q (of_stat_kind (tree.GenFor all given b))
  generic_for p q all given b h =
      piece.both ts p h.1 q (of_binds all) (and_then (of_exprs given) (of_block b))
      (piece.both ts p h.0 h.1 no_spans (of_binds all) (token s.For p h.0 h.4) (names h.0 h.1 all h.5))
      (piece.both ts h.1 h.3 q (of_exprs given) (of_block b)
      (piece.both ts h.1 h.2 h.3 no_spans (of_exprs given) (token s.In h.1 h.2 h.6) (several h.2 h.3 given h.7))
      (braced h.3 q b h.8))

  numeric_for : (p q : Place) (x : Bind) (from to : Expr) (by : MaybeExpr) (b : Block) → grammar.IsNumericFor rules inner p q x from to by b
      → Piece ts p q (of_stat_kind (tree.NumFor x from to by b))
  numeric_for p q x from to by b h =
      let end = and_then (of_maybe_expr by) (of_block b) in
      piece.both ts p h.2 q (of_bind x) (and_then (of_expr from) (and_then (of_expr to) end))
      (piece.both ts p h.0 h.2 no_spans (of_bind x) (token s.For p h.0 h.7)
      (piece.closed ts h.0 h.1 h.2 (of_bind x) (values.bind ts rules inner held h.0 h.1 x h.8) (token s.Assign h.1 h.2 h.9)))
      (piece.both ts h.2 h.4 q (of_expr from) (and_then (of_expr to) end)
      (piece.closed ts h.2 h.3 h.4 (of_expr from) (held.exp h.2 h.3 from h.10) (token s.Comma h.3 h.4 h.11))
      (piece.both ts h.4 h.5 q (of_expr to) end (held.exp h.4 h.5 to h.12)
      (piece.maybe_then ts h.5 h.6 q (of_maybe_expr by) (of_block b) (step h.5 h.6 by h.13) (braced h.6 q b h.14))))

  mutual
    path : (p q : Place) (e : Expr) → grammar.IsPath rules inner p q e → Piece ts p q (of_expr e)
    path p q (tree.the_expr id span kind) h = piece.node_over ts p q span (of_expr_kind kind) h.1 (path_form p q kind h.2)

    path_form : (p q : Place) (kind : ExprKind) → grammar.IsPathForm rules inner p q kind → Piece ts p q (of_expr_kind kind)
    path_form p q (tree.NameExpr n) h = name p q n h
    path_form p q (tree.Index base n) h =
        piece.closed ts p h.1 q (of_expr base) (piece.closed ts p h.0 h.1 (of_expr base) (path p h.0 base h.2) (token s.Dot h.0 h.1 h.3))
        (name (raised h.1) q n h.4)
    path_form p q _ h = absurd h

  method_name : (p q : Place) (n : Option (List ℕ)) (span : Option Span) → grammar.IsMethodName rules inner p q n span → Maybe ts p q (front_of span)
  method_name p q None None h = piece.nothing ts p q h.1
  method_name p q (Some n) (Some span) h =
      piece.maybe ts p q (mark span)
      (piece.both ts p h.0 q no_spans (mark span) (token s.Colon p h.0 h.1)
      (piece.node_over ts h.0 q span no_spans h.3 (name (raised h.0) q n h.2)))
  method_name p q None (Some span) h = absurd h
  method_name p q (Some n) None h = absurd h

  function : (p q : Place) (e : Expr) (method : Option (List ℕ)) (body : tree.Body) → grammar.IsFunction rules inner p q e method body
      → Piece ts p q (and_then (of_expr e) (of_body body))
  function p q e method body h =
      let own = values.body ts rules inner held h.5 (at_level p.level h.4) q body h.11 in
      let all : Piece ts h.3 q (of_body body) =
      subst (Piece ts h.3 q) (sym own.1) (piece.maybe_then ts h.3 h.4 q (front_of h.5) own.0 (method_name h.3 h.4 method h.5 h.10) own.2) in
      piece.maybe_then ts p h.1 q no_spans (and_then (of_expr e) (of_body body)) (values.attributes ts rules inner held h.0 p h.1 h.6)
      (piece.both ts h.1 h.3 q (of_expr e) (of_body body)
      (piece.both ts h.1 h.2 h.3 no_spans (of_expr e) (token s.Function h.1 h.2 h.7) (path h.2 h.3 e h.8)) all)

  local_function : (p q : Place) (x : Bind) (body : tree.Body) → grammar.IsLocalFunction rules inner p q x body
      → Piece ts p q (and_then (of_bind x) (of_body body))
  local_function p q (tree.the_bind n span tree.no_type) body h =
      piece.maybe_then ts p h.1 q no_spans (and_then (mark span) (of_body body)) (values.attributes ts rules inner held h.0 p h.1 h.5)
      (piece.both ts h.1 h.4 q (mark span) (of_body body)
      (piece.both ts h.1 h.3 h.4 no_spans (mark span)
      (piece.both ts h.1 h.2 h.3 no_spans no_spans (token s.Local h.1 h.2 h.6) (token s.Function h.2 h.3 h.7))
      (piece.node_over ts h.3 h.4 span no_spans h.9 (name h.3 h.4 n h.8)))
      (values.own_body ts rules inner held h.4 q body h.10))
  local_function p q (tree.the_bind n span (tree.a_type t)) body h = absurd h

  given_values : (p q : Place) (given : Exprs) → grammar.AreValues rules inner p q given → Maybe ts p q (of_exprs given)
  given_values p q given (inl h) = subst (λ z. Maybe ts p q (of_exprs z)) (sym h.2) (piece.nothing ts p q h.1)
  given_values p q given (inr h) =
      piece.maybe ts p q (of_exprs given) (piece.both ts p h.0 q no_spans (of_exprs given) (token s.Assign p h.0 h.1) (several h.0 q given h.2))

  locals : (p q : Place) (all : Binds) (given : Exprs) → grammar.IsLocal rules inner p q all given
      → Piece ts p q (and_then (of_binds all) (of_exprs given))
  locals p q all given h =
      piece.then_maybe ts p h.1 q (of_binds all) (of_exprs given)
      (piece.both ts p h.0 h.1 no_spans (of_binds all) (token s.Local p h.0 h.2) (names h.0 h.1 all h.4)) (given_values h.1 q given h.5)

  type_word : (p q : Place) (exported : Bool) → grammar.IsTypeWord rules inner p q exported → Piece ts p q no_spans
  type_word p q true h = piece.both ts p h.0 q no_spans no_spans (token s.Name p h.0 h.2) (name h.0 q _ h.3)
  type_word p q false h = name p q _ h.1

  alias : (p q : Place) (exported : Bool) (n : List ℕ) (all : Gens) (t : TypeSyntax) → grammar.IsAlias rules inner p q exported n all t
      → Piece ts p q (and_then (of_gens all) (of_type t))
  alias p q exported n all t h =
      piece.both ts p h.3 q (of_gens all) (of_type t)
      (piece.closed ts p h.2 h.3 (of_gens all)
      (piece.then_maybe ts p h.1 h.2 no_spans (of_gens all)
      (piece.both ts p h.0 h.1 no_spans no_spans (type_word p h.0 exported h.4) (name h.0 h.1 n h.5))
      (written.generics ts rules inner held true h.1 h.2 all h.6))
      (token s.Assign h.2 h.3 h.7))
      (held.typ None h.3 h.3 q t (refl, refl) h.8)

  type_function : (p q : Place) (exported : Bool) (n : List ℕ) (body : tree.Body) → grammar.IsTypeFunction rules inner p q exported n body
      → Piece ts p q (of_body body)
  type_function p q exported n body h =
      piece.both ts p h.2 q no_spans (of_body body)
      (piece.both ts p h.0 h.2 no_spans no_spans (type_word p h.0 exported h.3)
      (piece.both ts h.0 h.1 h.2 no_spans no_spans (token s.Function h.0 h.1 h.4) (name h.1 h.2 n h.5)))
      (values.own_body ts rules inner held h.2 q body h.6)

  returned : (p q : Place) (given : Exprs) → grammar.IsReturn rules inner p q given → Piece ts p q (of_exprs given)
  returned p q given (a, word, inl h) =
      subst (λ z. Piece ts p q (of_exprs z)) (sym h.2)
      (piece.then_maybe ts p a q no_spans no_spans (token s.Return p a word) (piece.nothing ts a q h.1))
  returned p q given (a, word, inr h) =
      piece.both ts p a q no_spans (of_exprs given) (token s.Return p a word) (several a q given h.1)

  form : (p q : Place) (kind : StatKind) → grammar.IsStatementForm rules inner p q kind → Piece ts p q (of_stat_kind kind)
  form p q (tree.Assign targets given) h = assign p q targets given h.1
  form p q (tree.Compound target op value) h =
      piece.both ts p h.2 q (of_expr target) (of_expr value)
      (piece.closed ts p h.1 h.2 (of_expr target) (variable p h.1 target h.4) (token h.3 h.1 h.2 h.6)) (held.exp h.2 q value h.7)
  form p q (tree.CallStat call) h = own_prefix p q call h.1
  form p q (tree.Do body) h = braced p q body h
  form p q (tree.While cond body) h =
      piece.both ts p h.1 q (of_expr cond) (of_block body)
      (piece.both ts p h.0 h.1 no_spans (of_expr cond) (token s.While p h.0 h.2) (held.exp h.0 h.1 cond h.3)) (braced h.1 q body h.4)
  form p q (tree.Repeat body cond) h =
      piece.both ts p h.2 q (of_block body) (of_expr cond)
      (piece.enclosed ts p h.0 h.1 h.2 (of_block body) (token s.Repeat p h.0 h.3) (held.block h.0 h.1 body h.4) (token s.Until h.1 h.2 h.5))
      (held.exp h.2 q cond h.6)
  form p q (tree.If all last) h = conditions p q all last h
  form p q (tree.NumFor x from to by body) h = numeric_for p q x from to by body h
  form p q (tree.GenFor all given body) h = generic_for p q all given body h
  form p q (tree.FunctionStat e method body) h = function p q e method body h
  form p q (tree.LocalFunction x body) h = local_function p q x body h
  form p q (tree.Local all given) h = locals p q all given h
  form p q (tree.TypeAlias exported n all t) h = alias p q exported n all t h
  form p q (tree.TypeFunction exported n body) h = type_function p q exported n body h
  form p q (tree.Return given) h = returned p q given h
  form p q tree.Break h = token s.Break p q h
  form p q tree.Continue h = name p q _ h.1

  statement : (p q : Place) (x : Stat) → grammar.IsStatement rules inner p q x → Piece ts p q (of_stat x)
  statement p q (tree.the_stat span kind) h = piece.node_over ts p q span (of_stat_kind kind) h.0 (form p q kind h.1)

  semicolon : (p q : Place) → grammar.IsSemicolon rules inner p q → Maybe ts p q no_spans
  semicolon p q (inl h) = piece.maybe ts p q no_spans (token s.Semicolon p q h)
  semicolon p q (inr h) = piece.nothing ts p q h.1

  one_more : (p a b q : Place) (x : Stat) (rest : Block) → Piece ts p a (of_stat x) → Maybe ts a b no_spans → Maybe ts b q (of_block rest)
      → Maybe ts p q (and_then (of_stat x) (of_block rest))
  one_more p a b q x rest f g i =
      piece.maybe ts p q (and_then (of_stat x) (of_block rest))
      (piece.then_maybe ts p a q (of_stat x) (of_block rest) f (piece.maybe_maybe ts a b q no_spans (of_block rest) g i))

  behind : (last : Bool) (p q : Place) (xs : Block) → grammar.IsBlockBehind rules inner last p q xs → Maybe ts p q (of_block xs)
  behind true p q tree.no_stats h = piece.nothing ts p q h
  behind true p q (tree.more_stats x xs) h = absurd h
  behind false p q tree.no_stats h = piece.nothing ts p q h.1
  behind false p q (tree.more_stats x xs) h =
      one_more p h.0 h.1 q x xs (statement p h.0 x h.2) (semicolon h.0 h.1 h.3) (behind (is_last x) h.1 q xs h.4)

  pub whole : (p q : Place) (b : Block) → grammar.IsBlock rules inner p q b → Maybe ts p q (of_block b)
  whole p q tree.no_stats h = piece.nothing ts p q h.1
  whole p q (tree.more_stats x xs) h =
      one_more p h.0 h.1 q x xs (statement p h.0 x h.2) (semicolon h.0 h.1 h.3) (behind (is_last x) h.1 q xs h.4)
