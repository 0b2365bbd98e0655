-- How deep statements and blocks are.
use Rattle.std.proofs.Common.{◌≡◌, ℕ, suc, ◌+◌, ◌≤◌, max, Bool, true, false, List, [], ◌∷◌, ◌⊎◌, inl, inr, refl, sym, ap, ◌∙◌, subst, arith}
use Rattle.std.specs.Prelude.{Option, None}
use Rattle.std.proofs.Math.Nat.{max-le}
use Rattle.luau_tree.specs.Tree.{Block, Stat, StatKind, Arms, MaybeBlock, Expr, Exprs, MaybeExpr, ExprKind, Bind, Binds, Gens, TypeSyntax}
use Rattle.luau_tree.specs.Tree as tree
use Rattle.luau_tree.specs.View.{exprs, binds, arms}
use Rattle.luau_grammar.specs.declared.symbol.Symbol.{Symbol}
use Rattle.luau_grammar.specs.declared.symbol.Symbol.TheVariants as s
use Rattle.luau_grammar.specs.Places as place
use Rattle.luau_grammar.specs.Places.{Place, Rules, raised, at_level}
use Rattle.luau_grammar.specs.Phrases.{Phrases}
use Rattle.luau_grammar.specs.Lists.{AreSeparated}
use Rattle.luau_grammar.specs.Expressions as expressions
use Rattle.luau_grammar.specs.Statements as grammar
use Rattle.luau_grammar.specs.Statements.{is_last}
use Rattle.luau_grammar.specs.Laws.{StandUpTo}
use Rattle.tree_depths.specs.Depths.{of_block, of_stat, of_stat_kind, of_arms, of_maybe_block, of_expr, of_exprs, of_maybe_expr, of_expr_kind, of_body, of_bind, of_binds, of_gens, of_type}
use Rattle.tree_depths.proofs.Levels as level
use Rattle.tree_depths.proofs.Levels.{Deep, Stands, none, up, more, wider, kept, here}
use Rattle.tree_depths.proofs.DeepTypes as written
use Rattle.tree_depths.proofs.DeepTypes.{Held, wide}
use Rattle.tree_depths.proofs.DeepValues as values
use Rattle.tree_depths.proofs.DeepValues.{Spine}

module _ (rules : Rules) (limit : ℕ) (bounded : StandUpTo rules limit) (inner : Phrases) (low most room : ℕ) (fits : limit ≤ low + room) (held : Held low most room inner) where
  takes : (x : Symbol) (p q : Place) → place.Takes rules x p q → Stands rules limit bounded p q
  takes x p q h = level.token rules limit bounded x p q h

  name : (p q : Place) (n : List ℕ) → place.TakesName rules p q n → Stands rules limit bounded p q
  name p q n h = level.name rules limit bounded p q n h

  -- how deep what stands in a statement is at most
  abbrev whole_most : ℕ
  whole_most = suc (wide most room)

  to_whole : {n : ℕ} → n ≤ most → n ≤ whole_most
  to_whole l = omega (arith, l)

  -- Between two places of one level stands something that begins with a token, and is at most so deep.
  abbrev Begun : Place → Place → ℕ → ℕ → Type 0
  Begun p q depth bound = (p.level ≤ limit) × (q.level ≡ p.level) × (depth ≤ bound)

  several : (p q : Place) (all : Exprs) → low ≤ p.level → expressions.AreExpressions rules inner p q all → Deep p q (of_exprs all) most
  several p q all k h = values.several rules limit bounded inner low most room fits held p q all k h

  -- a chain of nodes at a statement's own level
  chain_most : (p q : Place) (n : ℕ) → low ≤ p.level → Spine rules limit bounded inner low most room fits held p q n (suc most) → n ≤ whole_most
  chain_most p q n k x =
      let a : q.level ≤ suc limit = x.ends in
      let b : n + p.level ≤ q.level + suc most = x.deep in
      omega (arith, k, a, b, fits)

  own_prefix : (p q : Place) (e : Expr) → low ≤ p.level → grammar.IsOwnPrefix rules inner p q e → Begun p q (of_expr e) whole_most
  own_prefix p q e k h =
      let x = values.prefix rules limit bounded inner low most room fits held p h.0 e k h.1 in
      (x.within, ap (λ (z : Place). z.level) h.3, chain_most p h.0 (of_expr e) k x)

  variable : (p q : Place) (e : Expr) → low ≤ p.level → grammar.IsVariable rules inner p q e → Deep p q (of_expr e) whole_most
  variable p q e k h = let d = own_prefix p q e k h.0 in (d.1, d.2)

  first_begins : (es : List Expr) (p q : Place) (e : Expr) → low ≤ p.level → AreSeparated rules (grammar.IsVariable rules inner) p q e es → p.level ≤ limit
  first_begins [] p q e k h = (own_prefix p q e k h.0.0).0
  first_begins (f ∷ fs) p q e k h = (own_prefix p h.0 e k h.2.0).0

  assign : (p q : Place) (targets given : Exprs) → low ≤ p.level → grammar.IsAssign rules inner p q targets given
      → Begun p q (max (of_exprs targets) (of_exprs given)) whole_most
  assign p q targets given k h =
      let d = level.separated rules limit bounded (λ xs. of_exprs (exprs xs)) of_expr low whole_most (none whole_most) (λ x xs. max-le)
      (grammar.IsVariable rules inner) variable h.3 p h.0 h.2 k h.4 in
      let same = (takes s.Assign h.0 h.1 h.5).same ∙ d.0 in
      let e = several h.1 q given (kept k same) h.6 in
      (first_begins h.3 p h.0 h.2 k h.4, e.0 ∙ same, max-le (subst (λ z. of_exprs z ≤ whole_most) (sym h.7) d.1) (to_whole e.1))

  arms_deep : (word : Symbol) (rest : List (Expr × Block)) (p q : Place) (one : Expr × Block) → low ≤ p.level → grammar.AreArms rules inner word p q one rest
      → Begun p q (of_arms (arms (one ∷ rest))) most
  arms_deep word [] p q one k h =
      let a = takes word p h.0 h.3 in
      let d = held.exp h.0 h.1 one.0 (kept k a.same) h.4 in
      let same = (takes s.Then h.1 h.2 h.5).same ∙ d.0 ∙ a.same in
      let e = held.block h.2 q one.1 (kept k same) h.6 in
      (a.within, e.0 ∙ same, max-le d.1 (max-le e.1 (none most)))
  arms_deep word (other ∷ rest) p q one k h =
      let a = takes word p h.0 h.4 in
      let d = held.exp h.0 h.1 one.0 (kept k a.same) h.5 in
      let same = (takes s.Then h.1 h.2 h.6).same ∙ d.0 ∙ a.same in
      let e = held.block h.2 h.3 one.1 (kept k same) h.7 in
      let r = arms_deep s.ElseIf rest h.3 q other (kept k (e.0 ∙ same)) h.8 in
      (a.within, r.1 ∙ e.0 ∙ same, max-le d.1 (max-le e.1 r.2))

  otherwise : (p q : Place) (last : MaybeBlock) → low ≤ p.level → grammar.IsElse rules inner p q last → Deep p q (of_maybe_block last) most
  otherwise p q tree.no_block k h = (here p q h.1, none most)
  otherwise p q (tree.a_block b) k h =
      let a = takes s.Else p h.0 h.1 in
      let d = held.block h.0 q b (kept k a.same) h.2 in
      (d.0 ∙ a.same, d.1)

  conditions : (p q : Place) (all : Arms) (last : MaybeBlock) → low ≤ p.level → grammar.IsIf rules inner p q all last
      → Begun p q (max (of_arms all) (of_maybe_block last)) most
  conditions p q all last k h =
      let d = arms_deep s.If h.3 p h.0 h.2 k h.4 in
      let e = otherwise h.0 h.1 last (kept k d.1) h.5 in
      (d.0, (takes s.End h.1 q h.6).same ∙ e.0 ∙ d.1, max-le (subst (λ z. of_arms z ≤ most) (sym h.7) d.2) e.1)

  braced : (p q : Place) (b : Block) → low ≤ p.level → grammar.IsDo rules inner p q b → Begun p q (of_block b) most
  braced p q b k h =
      let a = takes s.Do p h.0 h.2 in
      let d = held.block h.0 h.1 b (kept k a.same) h.3 in
      (a.within, (takes s.End h.1 q h.4).same ∙ d.0 ∙ a.same, d.1)

  step : (p q : Place) (e : MaybeExpr) → low ≤ p.level → grammar.IsStep rules inner p q e → Deep p q (of_maybe_expr e) most
  step p q tree.no_expr k h = (here p q h.1, none most)
  step p q (tree.an_expr e) k h =
      let a = takes s.Comma p h.0 h.1 in
      let d = held.exp h.0 q e (kept k a.same) h.2 in
      (d.0 ∙ a.same, d.1)

  bind : (p q : Place) (x : Bind) → low ≤ p.level → expressions.IsBind rules inner p q x → Deep p q (of_bind x) most
  bind p q x k h = values.bind rules limit bounded inner low most room fits held p q x k h

  names : (p q : Place) (all : Binds) → low ≤ p.level → grammar.AreBinds rules inner p q all → Deep p q (of_binds all) most
  names p q all k h =
      let d = level.separated rules limit bounded (λ xs. of_binds (binds xs)) of_bind low most (none most) (λ x xs. max-le)
      (expressions.IsBind rules inner) bind h.1 p q h.0 k h.2 in
      (d.0, subst (λ z. of_binds z ≤ most) (sym h.3) d.1)

  generic_for : (p q : Place) (all : Binds) (given : Exprs) (b : Block) → low ≤ p.level → grammar.IsGenericFor rules inner p q all given b
      → Begun p q (of_stat_kind (tree.GenFor all given b)) most
  generic_for p q all given b k h =
      let a = takes s.For p h.0 h.4 in
      let d = names h.0 h.1 all (kept k a.same) h.5 in
      let same = (takes s.In h.1 h.2 h.6).same ∙ d.0 ∙ a.same in
      let e = several h.2 h.3 given (kept k same) h.7 in
      let f = braced h.3 q b (kept k (e.0 ∙ same)) h.8 in
      (a.within, f.1 ∙ e.0 ∙ same, max-le d.1 (max-le e.1 f.2))

  numeric_for : (p q : Place) (x : Bind) (from to : Expr) (by : MaybeExpr) (b : Block) → low ≤ p.level → grammar.IsNumericFor rules inner p q x from to by b
      → Begun p q (of_stat_kind (tree.NumFor x from to by b)) most
  numeric_for p q x from to by b k h =
      let a = takes s.For p h.0 h.7 in
      let c = bind h.0 h.1 x (kept k a.same) h.8 in
      let first = (takes s.Assign h.1 h.2 h.9).same ∙ c.0 ∙ a.same in
      let d = held.exp h.2 h.3 from (kept k first) h.10 in
      let second = (takes s.Comma h.3 h.4 h.11).same ∙ d.0 ∙ first in
      let e = held.exp h.4 h.5 to (kept k second) h.12 in
      let third = e.0 ∙ second in
      let f = step h.5 h.6 by (kept k third) h.13 in
      let g = braced h.6 q b (kept k (f.0 ∙ third)) h.14 in
      (a.within, g.1 ∙ f.0 ∙ third, max-le c.1 (max-le d.1 (max-le e.1 (max-le f.1 g.2))))

  mutual
    path : (p q : Place) (e : Expr) → grammar.IsPath rules inner p q e → Spine rules limit bounded inner low most room fits held p q (of_expr e) (suc most)
    path p q (tree.the_expr id span kind) h = path_form p q kind h.2

    path_form : (p q : Place) (kind : ExprKind) → grammar.IsPathForm rules inner p q kind
        → Spine rules limit bounded inner low most room fits held p q (suc (of_expr_kind kind)) (suc most)
    path_form p q (tree.NameExpr n) h =
        let a = name p q n h in
        values.flat rules limit bounded inner low most room fits held p q 1 (suc most) a.within a.same (up (none most))
    path_form p q (tree.Index base n) h =
        let x = path p h.0 base h.2 in
        let a = takes s.Dot h.0 h.1 h.3 in
        values.lone rules limit bounded inner low most room fits held p h.0 q (of_expr base) x a.within
        ((name (raised h.1) q n h.4).same ∙ ap (λ (z : ℕ). z + 1) a.same)
    path_form p q _ h = absurd h

  function : (p q : Place) (e : Expr) (method : Option (List ℕ)) (body : tree.Body) → low ≤ p.level → grammar.IsFunction rules inner p q e method body
      → Begun p q (max (of_expr e) (of_body body)) whole_most
  function p q e method body k h =
      let a = values.attributes rules limit bounded inner low most room fits held h.0 p h.1 h.6 in
      let b = takes s.Function h.1 h.2 h.7 in
      let x = path h.2 h.3 e h.8 in
      let d = values.body rules limit bounded inner low most room fits held h.5 (at_level p.level h.4) q body k h.11 in
      (subst (λ n. n ≤ limit) a b.within, d.0, max-le (chain_most h.2 h.3 (of_expr e) (kept k (b.same ∙ a)) x) d.1)

  local_function : (p q : Place) (x : Bind) (body : tree.Body) → low ≤ p.level → grammar.IsLocalFunction rules inner p q x body
      → Begun p q (max (of_bind x) (of_body body)) whole_most
  local_function p q (tree.the_bind n span tree.no_type) body k h =
      let a = values.attributes rules limit bounded inner low most room fits held h.0 p h.1 h.5 in
      let b = takes s.Local h.1 h.2 h.6 in
      let same = (name h.3 h.4 n h.8).same ∙ (takes s.Function h.2 h.3 h.7).same ∙ b.same ∙ a in
      let d = values.body rules limit bounded inner low most room fits held None h.4 q body (kept k same) h.10 in
      (subst (λ n. n ≤ limit) a b.within, d.0 ∙ same, max-le (none whole_most) d.1)
  local_function p q (tree.the_bind n span (tree.a_type t)) body k h = absurd h

  given_values : (p q : Place) (given : Exprs) → low ≤ p.level → grammar.AreValues rules inner p q given → Deep p q (of_exprs given) most
  given_values p q given k (inl h) = (here p q h.1, subst (λ z. of_exprs z ≤ most) (sym h.2) (none most))
  given_values p q given k (inr h) =
      let a = takes s.Assign p h.0 h.1 in
      let d = several h.0 q given (kept k a.same) h.2 in
      (d.0 ∙ a.same, d.1)

  locals : (p q : Place) (all : Binds) (given : Exprs) → low ≤ p.level → grammar.IsLocal rules inner p q all given
      → Begun p q (max (of_binds all) (of_exprs given)) most
  locals p q all given k h =
      let a = takes s.Local p h.0 h.2 in
      let d = names h.0 h.1 all (kept k a.same) h.4 in
      let e = given_values h.1 q given (kept k (d.0 ∙ a.same)) h.5 in
      (a.within, e.0 ∙ d.0 ∙ a.same, max-le d.1 e.1)

  type_word : (p q : Place) (exported : Bool) → grammar.IsTypeWord rules inner p q exported → (p.level ≤ limit) × (q.level ≡ p.level)
  type_word p q true h = let a = takes s.Name p h.0 h.2 in (a.within, (name h.0 q _ h.3).same ∙ a.same)
  type_word p q false h = let a = name p q _ h.1 in (a.within, a.same)

  alias : (p q : Place) (exported : Bool) (n : List ℕ) (all : Gens) (t : TypeSyntax) → low ≤ p.level → grammar.IsAlias rules inner p q exported n all t
      → Begun p q (max (of_gens all) (of_type t)) whole_most
  alias p q exported n all t k h =
      let a = type_word p h.0 exported h.4 in
      let first = (name h.0 h.1 n h.5).same ∙ a.1 in
      let d = written.generics rules limit bounded inner low most room fits held true h.1 h.2 all (kept k first) h.6 in
      let same = (takes s.Assign h.2 h.3 h.7).same ∙ d.0 ∙ first in
      let e = held.typ h.3 q t (kept k same) h.8 in
      (a.0, e.0 ∙ same, max-le (more d.1) (to_whole e.1))

  type_function : (p q : Place) (exported : Bool) (n : List ℕ) (body : tree.Body) → low ≤ p.level → grammar.IsTypeFunction rules inner p q exported n body
      → Begun p q (of_body body) whole_most
  type_function p q exported n body k h =
      let a = type_word p h.0 exported h.3 in
      let same = (name h.1 h.2 n h.5).same ∙ (takes s.Function h.0 h.1 h.4).same ∙ a.1 in
      let d = values.body rules limit bounded inner low most room fits held None h.2 q body (kept k same) h.6 in
      (a.0, d.0 ∙ same, d.1)

  returned : (p q : Place) (given : Exprs) → low ≤ p.level → grammar.IsReturn rules inner p q given → Begun p q (of_exprs given) most
  returned p q given k (a, word, inl h) =
      let b = takes s.Return p a word in
      (b.within, here a q h.1 ∙ b.same, subst (λ z. of_exprs z ≤ most) (sym h.2) (none most))
  returned p q given k (a, word, inr h) =
      let b = takes s.Return p a word in
      let d = several a q given (kept k b.same) h.1 in
      (b.within, d.0 ∙ b.same, d.1)

  widened : (p q : Place) (n : ℕ) → Begun p q n most → Begun p q n whole_most
  widened p q n h = (h.0, h.1, to_whole h.2)

  form : (p q : Place) (kind : StatKind) → low ≤ p.level → grammar.IsStatementForm rules inner p q kind → Begun p q (of_stat_kind kind) whole_most
  form p q (tree.Assign targets given) k h = assign p q targets given k h.1
  form p q (tree.Compound target op value) k h =
      let d = own_prefix p h.1 target k h.4.0 in
      let same = (takes h.3 h.1 h.2 h.6).same ∙ d.1 in
      let e = held.exp h.2 q value (kept k same) h.7 in
      (d.0, e.0 ∙ same, max-le d.2 (to_whole e.1))
  form p q (tree.CallStat call) k h = own_prefix p q call k h.1
  form p q (tree.Do body) k h = widened p q (of_block body) (braced p q body k h)
  form p q (tree.While cond body) k h =
      let a = takes s.While p h.0 h.2 in
      let d = held.exp h.0 h.1 cond (kept k a.same) h.3 in
      let e = braced h.1 q body (kept k (d.0 ∙ a.same)) h.4 in
      (a.within, e.1 ∙ d.0 ∙ a.same, max-le (to_whole d.1) (to_whole e.2))
  form p q (tree.Repeat body cond) k h =
      let a = takes s.Repeat p h.0 h.3 in
      let d = held.block h.0 h.1 body (kept k a.same) h.4 in
      let same = (takes s.Until h.1 h.2 h.5).same ∙ d.0 ∙ a.same in
      let e = held.exp h.2 q cond (kept k same) h.6 in
      (a.within, e.0 ∙ same, max-le (to_whole d.1) (to_whole e.1))
  form p q (tree.If all last) k h = widened p q _ (conditions p q all last k h)
  form p q (tree.NumFor x from to by body) k h = widened p q _ (numeric_for p q x from to by body k h)
  form p q (tree.GenFor all given body) k h = widened p q _ (generic_for p q all given body k h)
  form p q (tree.FunctionStat e method body) k h = function p q e method body k h
  form p q (tree.LocalFunction x body) k h = local_function p q x body k h
  form p q (tree.Local all given) k h = widened p q _ (locals p q all given k h)
  form p q (tree.TypeAlias exported n all t) k h = alias p q exported n all t k h
  form p q (tree.TypeFunction exported n body) k h = type_function p q exported n body k h
  form p q (tree.Return given) k h = widened p q _ (returned p q given k h)
  form p q tree.Break k h = let a = takes s.Break p q h in (a.within, a.same, none whole_most)
  form p q tree.Continue k h = let a = name p q _ h.1 in (a.within, a.same, none whole_most)

  statement : (p q : Place) (x : Stat) → low ≤ p.level → grammar.IsStatement rules inner p q x → Begun p q (of_stat x) (suc whole_most)
  statement p q (tree.the_stat span kind) k h = let d = form p q kind k h.1 in (d.0, d.1, up d.2)

  semicolon : (p q : Place) → grammar.IsSemicolon rules inner p q → q.level ≡ p.level
  semicolon p q (inl h) = (takes s.Semicolon p q h).same
  semicolon p q (inr h) = here p q h.1

  behind : (last : Bool) (p q : Place) (xs : Block) → low ≤ p.level → grammar.IsBlockBehind rules inner last p q xs → Deep p q (of_block xs) (suc whole_most)
  behind true p q tree.no_stats k h = (here p q h, none (suc whole_most))
  behind true p q (tree.more_stats x xs) k h = absurd h
  behind false p q tree.no_stats k h = (here p q h.1, none (suc whole_most))
  behind false p q (tree.more_stats x xs) k h =
      let d = statement p h.0 x k h.2 in
      let same = semicolon h.0 h.1 h.3 ∙ d.1 in
      let rest = behind (is_last x) h.1 q xs (kept k same) h.4 in
      (rest.0 ∙ same, max-le d.2 rest.1)

  -- a block is empty, or it begins with a token and is at most so deep
  pub whole : (p q : Place) (b : Block) → low ≤ p.level → grammar.IsBlock rules inner p q b
      → (of_block b ≡ 0) ⊎ ((p.level ≤ limit) × (of_block b ≤ suc whole_most))
  whole p q tree.no_stats k h = inl refl
  whole p q (tree.more_stats x xs) k h =
      let d = statement p h.0 x k h.2 in
      let same = semicolon h.0 h.1 h.3 ∙ d.1 in
      let rest = behind (is_last x) h.1 q xs (kept k same) h.4 in
      inr (d.0, max-le d.2 rest.1)
