-- How deep expressions and bodies are.
use Rattle.std.proofs.Common.{◌≡◌, ℕ, zero, suc, ◌+◌, ◌-◌, ◌≤◌, max, Bool, false, List, [], ◌∷◌, inl, inr, sym, ap, ◌∙◌, subst, arith}
use Rattle.std.specs.Prelude.{Option, Some, None}
use Rattle.std.proofs.Math.Nat.{max-le}
use Rattle.luau_tree.specs.declared.position.Span.{Span}
use Rattle.luau_tree.specs.Tree.{Expr, Exprs, ExprKind, Choices, Item, Items, Body, Varargs, Bind, Binds, TypeSyntax, MaybeType}
use Rattle.luau_tree.specs.Tree as tree
use Rattle.luau_tree.specs.View.{exprs, binds, items, choices}
use Rattle.luau_grammar.specs.declared.symbol.Symbol.{Symbol}
use Rattle.luau_grammar.specs.declared.symbol.Symbol.TheVariants as s
use Rattle.luau_grammar.specs.Places as place
use Rattle.luau_grammar.specs.Places.{Place, Rules, raised, at_level}
use Rattle.luau_grammar.specs.Phrases.{Phrases}
use Rattle.luau_grammar.specs.Expressions as grammar
use Rattle.luau_grammar.specs.Laws.{StandUpTo}
use Rattle.tree_depths.specs.Depths.{of_block, of_expr, of_exprs, of_expr_kind, of_choices, of_item, of_items, of_body, of_varargs, of_bind, of_binds, of_type, of_maybe_type}
use Rattle.tree_depths.proofs.Levels as level
use Rattle.tree_depths.proofs.Levels.{Deep, Stands, none, up, more, wider, kept, here}
use Rattle.tree_depths.proofs.DeepTypes as written
use Rattle.tree_depths.proofs.DeepTypes.{Held, wide}

-- the parameters of a body, of which a method's `self` has no type
params_deep : (method : Option Span) (has_self : Bool) (own : List Bind) (params : Binds) (n : ℕ) → grammar.HasSelf method has_self own params
    → of_binds (binds own) ≤ n → of_binds params ≤ n
params_deep None has_self own params n h l = subst (λ z. of_binds z ≤ n) (sym h.1) l
params_deep (Some span) has_self own params n h l = subst (λ z. of_binds z ≤ n) (sym h.1) (max-le (none n) l)

module _ (rules : Rules) (limit : ℕ) (bounded : StandUpTo rules limit) (inner : Phrases) (low most room : ℕ) (fits : limit ≤ low + room) (held : Held low most room inner) where
  abbrev Within : Place → Place → Type 0
  Within p q = Stands rules limit bounded p q

  takes : (x : Symbol) (p q : Place) → place.Takes rules x p q → Within p q
  takes x p q h = level.token rules limit bounded x p q h

  name : (p q : Place) (n : List ℕ) → place.TakesName rules p q n → Within p q
  name p q n h = level.name rules limit bounded p q n h

  text : (x : Symbol) (p q : Place) (n : List ℕ) → place.TakesString rules x p q n → Within p q
  text x p q n h = level.string rules limit bounded x p q n h

  to_wide : {n : ℕ} → n ≤ most → n ≤ wide most room
  to_wide l = omega (arith, l)

  pub several : (p q : Place) (all : Exprs) → low ≤ p.level → grammar.AreExpressions rules inner p q all → Deep p q (of_exprs all) most
  several p q all k h =
      let d = level.separated rules limit bounded (λ xs. of_exprs (exprs xs)) of_expr low most (none most) (λ x xs. max-le) inner.exp held.exp
      h.1 p q h.0 k h.2 in
      (d.0, subst (λ z. of_exprs z ≤ most) (sym h.3) d.1)

  pub attributes : (n : ℕ) (p q : Place) → grammar.AreAttributes rules inner n p q → q.level ≡ p.level
  attributes zero p q h = here p q h.1
  attributes (suc n) p q h =
      attributes n h.1 q h.5 ∙ (name h.0 h.1 h.2 h.4).same ∙ (takes s.AtSign p h.0 h.3).same

  annotation : (p q : Place) (t : MaybeType) → low ≤ p.level → grammar.IsAnnotation rules inner p q t → Deep p q (of_maybe_type t) most
  annotation p q tree.no_type k h = (here p q h.1, none most)
  annotation p q (tree.a_type t) k h =
      let a = takes s.Colon p h.0 h.1 in
      let d = held.typ h.0 q t (kept k a.same) h.2 in
      (d.0 ∙ a.same, d.1)

  pub bind : (p q : Place) (x : Bind) → low ≤ p.level → grammar.IsBind rules inner p q x → Deep p q (of_bind x) most
  bind p q (tree.the_bind n span t) k h =
      let a = name p h.0 n h.1 in
      let d = annotation h.0 q t (kept k a.same) h.3 in
      (d.0 ∙ a.same, d.1)

  var_type : (p q : Place) (t : TypeSyntax) → low ≤ p.level → grammar.IsVarType rules inner p q t → Deep p q (of_type t) (suc most)
  var_type p q t k (inl h) =
      ((takes s.Dots h.1 q h.4).same ∙ (name p h.1 h.2 h.3).same, subst (λ z. of_type z ≤ suc most) (sym h.5) (up (none most)))
  var_type p q t k (inr h) = let d = held.typ p q t k h.1 in (d.0, more d.1)

  varparam : (p q : Place) (t : MaybeType) → low ≤ p.level → grammar.IsVarparam rules inner p q t → Deep p q (of_maybe_type t) (suc most)
  varparam p q tree.no_type k h = ((takes s.Dots p q h.0).same, none (suc most))
  varparam p q (tree.a_type t) k h =
      let same = (takes s.Colon h.0 h.1 h.3).same ∙ (takes s.Dots p h.0 h.2).same in
      let d = var_type h.1 q t (kept k same) h.4 in
      (d.0 ∙ same, d.1)

  -- the parameters between two places of one level
  abbrev Params : Place → Place → List Bind → Varargs → Type 0
  Params p q own v = (q.level ≡ p.level) × (of_binds (binds own) ≤ most) × (of_varargs v ≤ suc most)

  parameters_from : (xs : List Bind) (p q : Place) (x : Bind) (v : Varargs) → low ≤ p.level → grammar.AreParametersFrom rules inner p q x xs v
      → Params p q (x ∷ xs) v
  parameters_from [] p q x tree.no_varargs k h = let d = bind p q x k h.0 in (d.0, max-le d.1 (none most), none (suc most))
  parameters_from [] p q x (tree.varargs t) k h =
      let d = bind p h.0 x k h.2 in
      let same = (takes s.Comma h.0 h.1 h.3).same ∙ d.0 in
      let e = varparam h.1 q t (kept k same) h.5 in
      (e.0 ∙ same, max-le d.1 (none most), e.1)
  parameters_from (y ∷ ys) p q x v k h =
      let d = bind p h.0 x k h.2 in
      let same = (takes s.Comma h.0 h.1 h.3).same ∙ d.0 in
      let rest = parameters_from ys h.1 q y v (kept k same) h.5 in
      (rest.0 ∙ same, max-le d.1 rest.1, rest.2)

  parameters : (own : List Bind) (p q : Place) (v : Varargs) → low ≤ p.level → grammar.AreParameters rules inner p q own v → Params p q own v
  parameters [] p q tree.no_varargs k h = (here p q h.1, none most, none (suc most))
  parameters [] p q (tree.varargs t) k h = let d = varparam p q t k h.1 in (d.0, none most, d.1)
  parameters (x ∷ xs) p q v k h = parameters_from xs p q x v k h.2

  maybe_result : (p q : Place) (t : MaybeType) → low ≤ p.level → grammar.IsMaybeResult rules inner p q t → Deep p q (of_maybe_type t) (wide most room)
  maybe_result p q tree.no_type k h = (here p q h.1, none (wide most room))
  maybe_result p q (tree.a_type t) k h =
      let a = takes s.Colon p h.0 h.1 in
      let d = written.result rules limit bounded inner low most room fits held h.0 q t (kept k a.same) h.2 in
      (d.0 ∙ a.same, d.1)

  pub body : (method : Option Span) (p q : Place) (x : Body) → low ≤ p.level → grammar.IsBody rules inner method p q x
      → Deep p q (of_body x) (suc (wide most room))
  body method p q (tree.the_body id has_self generics params vararg answer block span) k (i, e, a, b, c, d, f, g, own, all, opens, stated, closes, answers, held_block, ends, selves) =
      let first = written.generics rules limit bounded inner low most room fits held false p a generics k all in
      let to_b = (takes s.LeftParen a b opens).same ∙ first.0 in
      let second = parameters own b c vararg (kept k to_b) stated in
      let to_d = (takes s.RightParen c d closes).same ∙ second.0 ∙ to_b in
      let third = maybe_result d f answer (kept k to_d) answers in
      let fourth = held.block f g block (kept k (third.0 ∙ to_d)) held_block in
      let params_most : of_binds params ≤ wide most room = params_deep method has_self own params (wide most room) selves (to_wide second.1) in
      let varargs_most : of_varargs vararg ≤ wide most room = wider second.2 (omega arith) in
      let block_most : of_block block ≤ wide most room = to_wide fourth.1 in
      ((takes s.End g q ends).same ∙ fourth.0 ∙ third.0 ∙ to_d, up (max-le first.1 (max-le params_most (max-le varargs_most (max-le third.1 block_most)))))

  item : (p q : Place) (x : Item) → low ≤ p.level → grammar.IsItem rules inner p q x → Deep p q (of_item x) most
  item p q (tree.Keyed key value) k h =
      let a = takes s.LeftBracket p h.0 h.4 in
      let d = held.exp h.0 h.1 key (kept k a.same) h.5 in
      let same = (takes s.Assign h.2 h.3 h.7).same ∙ (takes s.RightBracket h.1 h.2 h.6).same ∙ d.0 ∙ a.same in
      let e = held.exp h.3 q value (kept k same) h.8 in
      (e.0 ∙ same, max-le d.1 e.1)
  item p q (tree.Field n value) k h =
      let same = (takes s.Assign h.0 h.1 h.3).same ∙ (name p h.0 n h.2).same in
      let d = held.exp h.1 q value (kept k same) h.4 in
      (d.0 ∙ same, d.1)
  item p q (tree.Plain value) k h = held.exp p q value k h.1

  -- A table begins with a token, and its inside and what follows stand at a given level.
  pub table : (behind : ℕ) (p q : Place) (all : Items) → low ≤ behind → grammar.IsTable rules inner behind p q all
      → (p.level ≤ limit) × (q.level ≡ behind) × (of_items all ≤ most)
  table behind p q all k (inl h) =
      ((takes s.LeftBrace p h.0 h.1).within, (takes s.RightBrace (at_level behind h.0) q h.3).same, subst (λ z. of_items z ≤ most) (sym h.4) (none most))
  table behind p q all k (inr h) =
      let d = level.in_braces rules limit bounded (λ xs. of_items (items xs)) of_item low most (none most) (λ x xs. max-le)
      (grammar.IsItem rules inner) item h.3 (at_level behind h.0) h.1 h.2 k h.6 in
      ((takes s.LeftBrace p h.0 h.4).within, (takes s.RightBrace h.1 q h.7).same ∙ d.0, subst (λ z. of_items z ≤ most) (sym h.8) d.1)

  in_parens : (p q : Place) (all : Exprs) → low ≤ p.level → grammar.AreInParens rules inner p q all → Deep p q (of_exprs all) most
  in_parens p q all k (inl h) = (here p q h.1, subst (λ z. of_exprs z ≤ most) (sym h.2) (none most))
  in_parens p q all k (inr h) = several p q all k h.1

  -- Arguments begin with a token, and what stands in them and behind them stands at a given level.
  arguments : (behind : ℕ) (p q : Place) (args : Exprs) → low ≤ behind → grammar.AreArguments rules inner behind p q args
      → (p.level ≤ limit) × (q.level ≡ behind) × (of_exprs args ≤ suc most)
  arguments behind p q args k (inl h) =
      let d = in_parens (at_level behind h.0) h.1 args k h.3 in
      ((level.opening rules limit bounded p h.0 h.2).within, (takes s.RightParen h.1 q h.4).same ∙ d.0, more d.1)
  arguments behind p q args k (inr (inl h)) =
      let d = table behind p q h.0 k h.1 in
      (d.0, d.1, subst (λ z. of_exprs z ≤ suc most) (sym h.2) (max-le (up d.2) (none (suc most))))
  arguments behind p q args k (inr (inr h)) =
      ((text s.Text p h.0 h.1 h.2).within, ap (λ (z : Place). z.level) h.3, subst (λ z. of_exprs z ≤ suc most) (sym h.4) (max-le (up (none most)) (none (suc most))))

  -- Something begins with a token and is deeper than this by the levels between its ends at most.
  pub record Spine (p q : Place) (depth base : ℕ) : Type 0 where
    pub within : p.level ≤ limit
    pub forward : p.level ≤ q.level
    pub ends : q.level ≤ suc limit
    pub deep : depth + p.level ≤ q.level + base

  -- a token, and nothing but it or what is at most so deep
  pub flat : (p q : Place) (depth base : ℕ) → p.level ≤ limit → q.level ≡ p.level → depth ≤ base → Spine p q depth base
  flat p q depth base l e m = record { within = l; forward = omega (arith, e); ends = omega (arith, l, e); deep = omega (arith, m, e) }

  -- one node more, behind which the level is one deeper
  deeper : (p a q : Place) (base n other : ℕ) → Spine p a n base → a.level ≤ limit → q.level ≡ a.level + 1 → other ≤ base
      → Spine p q (suc (max n other)) base
  deeper p a q base n other x l e m =
      let b = x.forward in
      let c : n + p.level ≤ a.level + base = x.deep in
      let d : max n other ≤ (a.level + base) - p.level = max-le (omega (arith, b, c)) (omega (arith, b, m)) in
      record { within = x.within; forward = omega (arith, b, e); ends = omega (arith, l, e); deep = omega (arith, b, d, e) }

  -- the same, of a node that holds nothing else
  pub lone : (p a q : Place) (n : ℕ) → Spine p a n (suc most) → a.level ≤ limit → q.level ≡ a.level + 1 → Spine p q (suc n) (suc most)
  lone p a q n x l e =
      let b = x.forward in
      let c : n + p.level ≤ a.level + suc most = x.deep in
      record { within = x.within; forward = omega (arith, b, e); ends = omega (arith, l, e); deep = omega (arith, c, e) }

  mutual
    pub prefix : (p q : Place) (e : Expr) → low ≤ p.level → grammar.IsPrefix rules inner p q e → Spine p q (of_expr e) (suc most)
    prefix p q (tree.the_expr id span kind) k h = prefix_form p q kind k h.2

    prefix_form : (p q : Place) (kind : ExprKind) → low ≤ p.level → grammar.IsPrefixForm rules inner p q kind → Spine p q (suc (of_expr_kind kind)) (suc most)
    prefix_form p q (tree.NameExpr n) k h = let a = name p q n h in flat p q 1 (suc most) a.within a.same (up (none most))
    prefix_form p q (tree.Paren e) k h =
        let a = takes s.LeftParen p h.0 h.2 in
        let d = held.exp h.0 h.1 e (kept k a.same) h.3 in
        flat p q (suc (of_expr e)) (suc most) a.within ((takes s.RightParen h.1 q h.4).same ∙ d.0 ∙ a.same) (up d.1)
    prefix_form p q (tree.Index base n) k h =
        let x = prefix p h.0 base k h.2 in
        let a = takes s.Dot h.0 h.1 h.3 in
        lone p h.0 q (of_expr base) x a.within ((name (raised h.1) q n h.4).same ∙ ap (λ (z : ℕ). z + 1) a.same)
    prefix_form p q (tree.At base key) k h =
        let x = prefix p h.0 base k h.3 in
        let a = takes s.LeftBracket h.0 h.1 h.4 in
        let l = x.forward in
        let same : h.1.level ≡ h.0.level = a.same in
        let d = held.exp (raised h.1) h.2 key (omega (arith, k, l, same)) h.5 in
        deeper p h.0 q (suc most) (of_expr base) (of_expr key) x a.within
        ((takes s.RightBracket h.2 q h.6).same ∙ d.0 ∙ ap (λ (z : ℕ). z + 1) a.same) (more d.1)
    prefix_form p q (tree.Call callee args) k h =
        let x = prefix p h.0 callee k h.1 in
        let l = x.forward in
        let d = arguments (h.0.level + 1) h.0 q args (omega (arith, k, l)) h.2 in
        deeper p h.0 q (suc most) (of_expr callee) (of_exprs args) x d.0 d.1 d.2
    prefix_form p q (tree.Method base n name_span args) k h =
        let x = prefix p h.0 base k h.3 in
        let l = x.forward in
        let a = takes s.Colon h.0 h.1 h.4 in
        let b = name (raised h.1) h.2 n h.5 in
        let same : h.2.level ≡ h.0.level + 1 = b.same ∙ ap (λ (z : ℕ). z + 1) a.same in
        let d = arguments h.2.level h.2 q args (omega (arith, k, l, same)) h.7 in
        deeper p h.0 q (suc most) (of_expr base) (of_exprs args) x a.within (d.1 ∙ same) d.2
    prefix_form p q _ k h = absurd h

  choices_deep : (word : Symbol) (more : List (Expr × Expr)) (p q : Place) (one : Expr × Expr) → low ≤ p.level → grammar.AreChoices rules inner word p q one more
      → (p.level ≤ limit) × (q.level ≡ p.level) × (of_choices (choices (one ∷ more)) ≤ most)
  choices_deep word [] p q one k h =
      let a = takes word p h.0 h.3 in
      let d = held.exp h.0 h.1 one.0 (kept k a.same) h.4 in
      let same = (takes s.Then h.1 h.2 h.5).same ∙ d.0 ∙ a.same in
      let e = held.exp h.2 q one.1 (kept k same) h.6 in
      (a.within, e.0 ∙ same, max-le d.1 (max-le e.1 (none most)))
  choices_deep word (other ∷ rest) p q one k h =
      let a = takes word p h.0 h.4 in
      let d = held.exp h.0 h.1 one.0 (kept k a.same) h.5 in
      let same = (takes s.Then h.1 h.2 h.6).same ∙ d.0 ∙ a.same in
      let e = held.exp h.2 h.3 one.1 (kept k same) h.7 in
      let r = choices_deep s.ElseIf rest h.3 q other (kept k (e.0 ∙ same)) h.8 in
      (a.within, r.1 ∙ e.0 ∙ same, max-le d.1 (max-le e.1 r.2))

  if_else : (p q : Place) (all : Choices) (last : Expr) → low ≤ p.level → grammar.IsIfElse rules inner p q all last
      → (p.level ≤ limit) × (q.level ≡ p.level) × (max (of_choices all) (of_expr last) ≤ most)
  if_else p q all last k h =
      let d = choices_deep s.If h.3 p h.0 h.2 k h.4 in
      let same = (takes s.Else h.0 h.1 h.5).same ∙ d.1 in
      let e = held.exp h.1 q last (kept k same) h.6 in
      (d.0, e.0 ∙ same, max-le (subst (λ z. of_choices z ≤ most) (sym h.7) d.2) e.1)

  parts : (fs : List Expr) (p q : Place) (e : Expr) (texts : List (List ℕ)) → low ≤ p.level → grammar.AreParts rules inner p q e fs texts
      → Deep p q (of_exprs (exprs (e ∷ fs))) most
  parts [] p q e texts k h =
      let d = held.exp p h.0 e k h.2 in
      ((text s.Last h.0 q h.1 h.3).same ∙ d.0, max-le d.1 (none most))
  parts (f ∷ fs) p q e texts k h =
      let d = held.exp p h.0 e k h.4 in
      let same = (text s.Mid h.0 h.1 h.2 h.5).same ∙ d.0 in
      let r = parts fs h.1 q f h.3 (kept k same) h.6 in
      (r.0 ∙ same, max-le d.1 r.1)

  interpolation : (p q : Place) (texts : List (List ℕ)) (all : Exprs) → low ≤ p.level → grammar.IsInterpolation rules inner p q texts all
      → (p.level ≤ limit) × (q.level ≡ p.level) × (of_exprs all ≤ most)
  interpolation p q texts all k (inl h) =
      let a = text s.Whole p q h.0 h.1 in (a.within, a.same, subst (λ z. of_exprs z ≤ most) (sym h.3) (none most))
  interpolation p q texts all k (inr h) =
      let a = text s.Begin p h.0 h.1 h.5 in
      let d = parts h.4 h.0 q h.3 h.2 (kept k a.same) h.6 in
      (a.within, d.0 ∙ a.same, subst (λ z. of_exprs z ≤ most) (sym h.8) d.1)

  -- of an expression without operators
  abbrev simplest : ℕ
  simplest = suc (suc (wide most room))

  word : (x : Symbol) (p q : Place) → place.Takes rules x p q → Spine p q 1 simplest
  word x p q h = let a = takes x p q h in flat p q 1 simplest a.within a.same (up (none (suc (wide most room))))

  of_prefix : (p q : Place) (kind : ExprKind) → low ≤ p.level → grammar.IsPrefixForm rules inner p q kind → Spine p q (suc (of_expr_kind kind)) simplest
  of_prefix p q kind k h =
      let x = prefix_form p q kind k h in
      let l : suc (of_expr_kind kind) + p.level ≤ q.level + suc most = x.deep in
      record { within = x.within; forward = x.forward; ends = x.ends; deep = omega (arith, l) }

  -- a node of which all stands at one level
  level_node : (p q : Place) (n : ℕ) → p.level ≤ limit → Deep p q n most → Spine p q (suc n) simplest
  level_node p q n l d = flat p q (suc n) simplest l d.0 (let m : n ≤ most = d.1 in omega (arith, m))

  simple_form : (p q : Place) (kind : ExprKind) → low ≤ p.level → grammar.IsSimpleForm rules inner p q kind → Spine p q (suc (of_expr_kind kind)) simplest
  simple_form p q tree.NilExpr k h = word s.Nil p q h
  simple_form p q tree.TrueExpr k h = word s.True p q h
  simple_form p q tree.FalseExpr k h = word s.False p q h
  simple_form p q (tree.NumberExpr n) k h =
      let a = level.number rules limit bounded p q n h in level_node p q 0 a.within (a.same, none most)
  simple_form p q (tree.StrExpr value) k h = let a = text s.Text p q value h in level_node p q 0 a.within (a.same, none most)
  simple_form p q tree.Vararg k h = word s.Dots p q h
  simple_form p q (tree.FunctionExpr x) k h =
      let a = attributes h.0 p h.1 h.3 in
      let b = takes s.Function h.1 h.2 h.4 in
      let d = body None h.2 q x (kept k (b.same ∙ a)) h.5 in
      flat p q (suc (of_body x)) simplest (subst (λ n. n ≤ limit) a b.within) (d.0 ∙ b.same ∙ a) (up d.1)
  simple_form p q (tree.IfElse arms last) k h =
      let d = if_else p q arms last k h in level_node p q (max (of_choices arms) (of_expr last)) d.0 (d.1, d.2)
  simple_form p q (tree.TableExpr all) k h =
      let d = table p.level p q all k h in level_node p q (of_items all) d.0 (d.1, d.2)
  simple_form p q (tree.Interp texts all) k h =
      let d = interpolation p q texts all k h in level_node p q (of_exprs all) d.0 (d.1, d.2)
  simple_form p q (tree.Binary op left right) k h = absurd h
  simple_form p q (tree.Unary op e) k h = absurd h
  simple_form p q (tree.Assert e t) k h = absurd h
  simple_form p q (tree.NameExpr n) k h = of_prefix p q (tree.NameExpr n) k h.0
  simple_form p q (tree.Paren e) k h = of_prefix p q (tree.Paren e) k h.0
  simple_form p q (tree.Index base n) k h = of_prefix p q (tree.Index base n) k h.0
  simple_form p q (tree.At base key) k h = of_prefix p q (tree.At base key) k h.0
  simple_form p q (tree.Call callee args) k h = of_prefix p q (tree.Call callee args) k h.0
  simple_form p q (tree.Method base n name_span args) k h = of_prefix p q (tree.Method base n name_span args) k h.0

  simple : (p q : Place) (e : Expr) → low ≤ p.level → grammar.IsSimple rules inner p q e → Spine p q (of_expr e) simplest
  simple p q (tree.the_expr id span kind) k h = simple_form p q kind k h.2

  -- two operands, of which the second stands one level deeper than the first ends
  operands : (p a b q : Place) (n m : ℕ) → Spine p a n (suc simplest) → b.level ≡ a.level → Spine (raised b) q m (suc simplest)
      → Spine p q (suc (max n m)) (suc simplest)
  operands p a b q n m x e y =
      let f = x.forward in
      let g : b.level + 1 ≤ q.level = y.forward in
      let c : n + p.level ≤ a.level + suc simplest = x.deep in
      let d : m + (b.level + 1) ≤ q.level + suc simplest = y.deep in
      let both : suc (max n m) ≤ (q.level + suc simplest) - p.level = max_up (omega (arith, e, f, g, c)) (omega (arith, e, f, d)) in
      record { within = x.within; forward = omega (arith, e, f, g); ends = y.ends; deep = omega (arith, e, f, g, both) }
    where
      max_up : {i j k : ℕ} → suc i ≤ k → suc j ≤ k → suc (max i j) ≤ k
      max_up {i = i} {j = j} {k = k} u v =
          let w : max i j ≤ k - 1 = max-le (omega (arith, u)) (omega (arith, v)) in omega (arith, u, w)

  mutual
    operation : (p q : Place) (e : Expr) → low ≤ p.level → grammar.IsOperation rules inner p q e → Spine p q (of_expr e) (suc simplest)
    operation p q (tree.the_expr id span kind) k h = operation_form p q kind k h.2

    operation_form : (p q : Place) (kind : ExprKind) → low ≤ p.level → grammar.IsOperationForm rules inner p q kind
        → Spine p q (suc (of_expr_kind kind)) (suc simplest)
    operation_form p q (tree.Binary op left right) k h =
        let x = operation p h.0 left k h.2 in
        let a = (takes h.3.0 h.0 h.1 h.3.2).same in
        let f = x.forward in
        let y = operation (raised h.1) q right (omega (arith, k, a, f)) h.4 in
        operands p h.0 h.1 q (of_expr left) (of_expr right) x a y
    operation_form p q (tree.Unary op e) k h =
        let a = takes h.1.0 p h.0 h.1.2 in
        let same : h.0.level ≡ p.level = a.same in
        let x = operation (raised h.0) q e (omega (arith, k, same)) h.2 in
        let f : h.0.level + 1 ≤ q.level = x.forward in
        let d : of_expr e + (h.0.level + 1) ≤ q.level + suc simplest = x.deep in
        record { within = a.within; forward = omega (arith, same, f); ends = x.ends; deep = omega (arith, same, d) }
    operation_form p q (tree.Assert e t) k h =
        let x = simple p h.0 e k h.2 in
        let a = (takes s.DoubleColon h.0 h.1 h.3).same in
        let f = x.forward in
        let y = held.typ h.1 q t (omega (arith, k, a, f)) h.4 in
        let same : q.level ≡ h.0.level = y.0 ∙ a in
        let ends : h.0.level ≤ suc limit = x.ends in
        let c : of_expr e + p.level ≤ h.0.level + simplest = x.deep in
        let d : of_type t ≤ most = y.1 in
        let both : max (of_expr e) (of_type t) ≤ (q.level + simplest) - p.level = max-le (omega (arith, same, c)) (omega (arith, same, f, d)) in
        record { within = x.within; forward = omega (arith, same, f); ends = omega (arith, same, ends); deep = omega (arith, same, f, both) }
    operation_form p q kind k h =
        let x = simple_form p q kind k h.0 in
        let l : suc (of_expr_kind kind) + p.level ≤ q.level + simplest = x.deep in
        record { within = x.within; forward = x.forward; ends = x.ends; deep = omega (arith, l) }

  -- an expression begins with a token, and is at most so deep
  pub whole : (p q : Place) (e : Expr) → low ≤ p.level → grammar.IsExpression rules inner p q e → (p.level ≤ limit) × (of_expr e ≤ room + 1 + suc simplest)
  whole p q e k h =
      let x = operation p q e k h.0 in
      let ends : q.level ≤ suc limit = x.ends in
      let d : of_expr e + p.level ≤ q.level + suc simplest = x.deep in
      (x.within, omega (arith, k, ends, d, fits))
