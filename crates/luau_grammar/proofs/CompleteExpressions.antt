-- What the grammar says of expressions without operators, their parsers read.
use Rattle.std.proofs.Common.{◌≡◌, ℕ, zero, suc, ◌≤◌, ◌<◌, Bool, true, false, ◌||◌, List, [], ◌∷◌, ◌++◌, length, refl, sym, ◌∙◌, ap, ap₂, subst, inl, inr, append_assoc, append-nil, arith}
use Rattle.std.specs.Prelude.{None}
use Rattle.luau_tree.specs.declared.position.Span.{Span}
use Rattle.luau_tree.specs.Tree.{Expr, Exprs, ExprKind, Choices, Items, Body}
use Rattle.luau_tree.specs.Tree as tree
use Rattle.luau_tree.specs.View.{exprs, choices}
use Rattle.luau_grammar.specs.declared.symbol.Symbol.{Symbol}
use Rattle.luau_grammar.specs.declared.symbol.Symbol.TheVariants as s
use Rattle.luau_grammar.specs.Symbols.{same}
use Rattle.luau_grammar.specs.Places.{Place, Takes, TakesNumber, TakesString, sees, symbol, start_of, over}
use Rattle.luau_grammar.specs.Phrases.{Phrases}
use Rattle.luau_grammar.specs.Expressions.{begins_suffix, AreAttributes, AreChoices, IsIfElse, AreParts, IsTable, IsPrefix, IsPrefixForm, IsBody, IsSimple, IsSimpleForm}
use Rattle.luau_grammar.specs.Reading.{Setting, Readers}
use Rattle.luau_grammar.specs.ReadExpressions.{Interpolated, choice, another_choice, all_choices, if_else, part_end, part, parts, interpolation, whole, function, word, number, literal, constructor, form_by, form, simple, asserted, assertion}
use Rattle.luau_grammar.proofs.Agreement.{Bounded, Reached, Complete, CompletePhrases}
use Rattle.luau_grammar.proofs.Primitives.{Gives, gives_ok, gives_same, gives_then, gives_if_true, gives_if_false, gives_expect, gives_next, expect_complete, string_complete, string_token, number_token, name_token, takes_symbol, takes_sees, takes_not, takes_taken}
use Rattle.luau_grammar.proofs.CompleteLists.{Loops, loop_stop, loop_step, loop_done}
use Rattle.luau_grammar.proofs.Assertions.{IsAssertion}
use Rattle.luau_grammar.proofs.PlainPhrases.{PlainPhrases}
use Rattle.luau_grammar.proofs.SoundExpressions.{IsChoice, AreMoreChoices}
use Rattle.luau_grammar.proofs.CompleteBodies.{attributes_complete, body_complete}
use Rattle.luau_grammar.proofs.CompleteSuffixes.{table_complete, prefix_complete, the_same}

-- how a prefix begins
abbrev begins_prefix : Symbol → Bool
begins_prefix x = same x s.Name || same x s.LeftParen

name_prefix : (set : Setting) (p q : Place) → Takes set.rules s.Name p q → begins_prefix (symbol p) ≡ true
unfolding same
name_prefix set p q h = ap begins_prefix (takes_symbol set.rules p q s.Name h)

paren_prefix : (set : Setting) (p q : Place) → Takes set.rules s.LeftParen p q → begins_prefix (symbol p) ≡ true
unfolding same
paren_prefix set p q h = ap begins_prefix (takes_symbol set.rules p q s.LeftParen h)

same_interpolation : (span : Span) (texts texts' : List (List ℕ)) (parts parts' : Exprs) → texts ≡ texts' → parts ≡ parts'
    → tree.the_expr 0 span (tree.Interp texts parts) ≡ tree.the_expr 0 span (tree.Interp texts' parts')
same_interpolation span texts texts' parts parts' e f = cc

-- what a loop over parts has read
joined : (texts : List (List ℕ)) (text : List ℕ) (rest more : List (List ℕ)) (found : List Expr) (e : Expr) (es : List Expr) → more ≡ text ∷ rest
    → ◌≡◌ {A = Interpolated} (record { texts = (texts ++ text ∷ []) ++ rest; parts = (found ++ e ∷ []) ++ es; open_ended = false })
    (record { texts = texts ++ more; parts = found ++ e ∷ es; open_ended = false })
joined texts text rest more found e es is =
    ap₂ (λ a b. record { texts = a; parts = b; open_ended = false }) (append_assoc texts (text ∷ []) rest ∙ ap (λ z. texts ++ z) (sym is)) (append_assoc found (e ∷ []) es)

module _ (set : Setting) (inner : Phrases) where
  table_symbol : (level : ℕ) (p q : Place) (all : Items) → IsTable set.rules inner level p q all → symbol p ≡ s.LeftBrace
  table_symbol level p q all (inl h) = takes_symbol set.rules p h.0 s.LeftBrace h.1
  table_symbol level p q all (inr h) = takes_symbol set.rules p h.0 s.LeftBrace h.4

  choices_split : (word : Symbol) (p q : Place) (x : Expr × Expr) (xs : List (Expr × Expr)) → AreChoices set.rules inner word p q x xs
      → (a : Place) × IsChoice set inner word p a x × AreMoreChoices set inner a q xs
  choices_split word p q x [] h = (q, (h.0, h.1, h.2, h.3, h.4, h.5, h.6), (h.7, refl))
  choices_split word p q x (y ∷ ys) h =
      let m = choices_split s.ElseIf h.3 q y ys h.8 in
      (h.3, (h.0, h.1, h.2, h.4, h.5, h.6, h.7), (m.0, m.1, m.2))

  mutual
    prefix_seen : (p q : Place) (e : Expr) → IsPrefix set.rules inner p q e → begins_prefix (symbol p) ≡ true
    prefix_seen p q (tree.the_expr id span kind) h = prefix_form_seen p q kind h.2

    prefix_form_seen : (p q : Place) (kind : ExprKind) → IsPrefixForm set.rules inner p q kind → begins_prefix (symbol p) ≡ true
    prefix_form_seen p q (tree.NameExpr name) h = name_prefix set p q (name_token set.rules p q name h)
    prefix_form_seen p q (tree.Paren e) h = paren_prefix set p h.0 h.2
    prefix_form_seen p q (tree.Index base name) h = prefix_seen p h.0 base h.2
    prefix_form_seen p q (tree.At base key) h = prefix_seen p h.0 base h.3
    prefix_form_seen p q (tree.Call callee args) h = prefix_seen p h.0 callee h.1
    prefix_form_seen p q (tree.Method base name name_span args) h = prefix_seen p h.0 base h.3
    prefix_form_seen p q kind h = absurd h

  function_symbol : (P : Symbol → Type 0) → P s.Function → P s.AtSign → (n : ℕ) (p a b : Place)
      → AreAttributes set.rules inner n p a → Takes set.rules s.Function a b → P (symbol p)
  function_symbol P f g zero p a b h t = subst P (sym (takes_symbol set.rules p b s.Function (subst (λ z. Takes set.rules s.Function z b) h.1 t))) f
  function_symbol P f g (suc n) p a b h t = subst P (sym (takes_symbol set.rules p h.0 s.AtSign h.3)) g

  choices_symbol : (p q : Place) (x : Expr × Expr) (xs : List (Expr × Expr)) → AreChoices set.rules inner s.If p q x xs → symbol p ≡ s.If
  choices_symbol p q x [] h = takes_symbol set.rules p h.0 s.If h.3
  choices_symbol p q x (y ∷ ys) h = takes_symbol set.rules p h.0 s.If h.4

module _ (low : ℕ) (set : Setting) (inner : Phrases) (readers : Readers) (complete : CompletePhrases low set inner readers) where
  choice_complete : (word : Symbol) → Complete low (IsChoice set inner word) (choice set readers word)
  unfolding choice
  choice_complete word p q x l h =
      let (a, b, c, h1, h2, h3, h4) = h in
      gives_expect set _ word p a l h1 (λ t k1.
      gives_then _ (complete.exp a b x.0 k1 h2) (λ k2.
      gives_expect set _ s.Then b c k2 h3 (λ u k3.
      gives_then _ (complete.exp c q x.1 k3 h4) (λ k4. gives_ok k4))))

  choice_shorter : (word : Symbol) (p q : Place) (x : Expr × Expr) → low ≤ p.level → IsChoice set inner word p q x → length q.ahead < length p.ahead
  choice_shorter word p q x l h =
      let (a, b, c, h1, h2, h3, h4) = h in
      let t = takes_taken set.rules p a word h1 in
      let k : low ≤ a.level = omega arith in
      let r : Reached low a b = (complete.exp a b x.0 k h2).1 in
      let u = takes_taken set.rules b c s.Then h3 in
      let m : low ≤ c.level = omega arith in
      let w : Reached low c q = (complete.exp c q x.1 m h4).1 in
      omega arith

  another_choice_complete : (found : List (Expr × Expr)) (p q : Place) (x : Expr × Expr) → low ≤ p.level → IsChoice set inner s.ElseIf p q x
      → Gives low p (another_choice set readers found p) q (found ++ x ∷ [])
  unfolding another_choice
  another_choice_complete found p q x l h = gives_then _ (choice_complete s.ElseIf p q x l h) (λ k. gives_ok k)

  choices_loop : (found xs : List (Expr × Expr)) (p q : Place) → low ≤ p.level → AreMoreChoices set inner p q xs
      → Loops low set (λ x z. sees s.ElseIf z) (another_choice set readers) found p q (found ++ xs)
  choices_loop found [] p q l h =
      subst (λ z. Loops low set (λ x z. sees s.ElseIf z) (another_choice set readers) found p z (found ++ [])) (sym h.1)
      (subst (λ z. Loops low set (λ x z. sees s.ElseIf z) (another_choice set readers) found p p z) (sym (append-nil found))
      (loop_stop low set (λ x z. sees s.ElseIf z) (another_choice set readers) found p h.0 l))
  choices_loop found (x ∷ xs) p q l h =
      let g = another_choice_complete found p h.0 x l h.1 in
      subst (λ z. Loops low set (λ x z. sees s.ElseIf z) (another_choice set readers) found p q z) (append_assoc found (x ∷ []) xs)
      (loop_step low set (λ x z. sees s.ElseIf z) (another_choice set readers) found (found ++ x ∷ []) ((found ++ x ∷ []) ++ xs) p h.0 q
      (takes_sees set.rules p h.1.0 s.ElseIf h.1.3) g (choice_shorter s.ElseIf p h.0 x l h.1) (choices_loop (found ++ x ∷ []) xs h.0 q g.1.level h.2))

  all_choices_complete : (p q : Place) (x : Expr × Expr) (xs : List (Expr × Expr)) → low ≤ p.level → AreChoices set.rules inner s.If p q x xs
      → Gives low p (all_choices set readers p) q (choices (x ∷ xs))
  unfolding all_choices
  all_choices_complete p q x xs l h =
      let m = choices_split set inner s.If p q x xs h in
      gives_then _ (choice_complete s.If p m.0 x l m.1) (λ k.
      gives_then _ (loop_done low set (λ x z. sees s.ElseIf z) (another_choice set readers) (x ∷ []) (x ∷ xs) m.0 q (choices_loop (x ∷ []) xs m.0 q k m.2)) (λ k2. gives_ok k2))

  if_else_complete : (p q : Place) (all : Choices) (last : Expr) → low ≤ p.level → IsIfElse set.rules inner p q all last
      → Gives low p (if_else set readers (start_of p) p) q (tree.the_expr 0 (over p q) (tree.IfElse all last))
  unfolding if_else
  if_else_complete p q all last l h =
      let (a, b, x, xs, h1, h2, h3, e) = h in
      gives_same (ap (λ z. tree.the_expr 0 (over p q) (tree.IfElse z last)) (sym e))
      (gives_then _ (all_choices_complete p a x xs l h1) (λ k1.
      gives_expect set _ s.Else a b k1 h2 (λ t k2. gives_then _ (complete.exp b q last k2 h3) (λ k3. gives_ok k3))))

  abbrev LoopsParts : Interpolated → Place → Place → Interpolated → Type 0
  LoopsParts = Loops low set (λ x z. x.open_ended) (part set readers)

  mid_complete : (given : Interpolated) (p a q : Place) (e : Expr) (text : List ℕ) → low ≤ p.level → inner.exp p a e → TakesString set.rules s.Mid a q text
      → Gives low p (part set readers given p) q (record { texts = given.texts ++ text ∷ []; parts = given.parts ++ e ∷ []; open_ended = true })
  unfolding part part_end
  mid_complete given p a q e text l h t =
      gives_then _ (complete.exp p a e l h) (λ k.
      gives_if_true _ (takes_sees set.rules a q s.Mid (string_token set.rules a q s.Mid text t))
      (gives_then _ (string_complete set low s.Mid a q text k t) (λ m. gives_ok m)))

  last_complete : (given : Interpolated) (p a q : Place) (e : Expr) (text : List ℕ) → low ≤ p.level → inner.exp p a e → TakesString set.rules s.Last a q text
      → Gives low p (part set readers given p) q (record { texts = given.texts ++ text ∷ []; parts = given.parts ++ e ∷ []; open_ended = false })
  unfolding part part_end same
  last_complete given p a q e text l h t =
      gives_then _ (complete.exp p a e l h) (λ k.
      gives_if_false _ (takes_not set.rules a q s.Last s.Mid refl (string_token set.rules a q s.Last text t))
      (gives_then _ (string_complete set low s.Last a q text k t) (λ m. gives_ok m)))

  part_shorter : (x : Symbol) (p a q : Place) (e : Expr) (text : List ℕ) → low ≤ p.level → inner.exp p a e → TakesString set.rules x a q text
      → length q.ahead < length p.ahead
  part_shorter x p a q e text l h t =
      let r : Reached low p a = (complete.exp p a e l h).1 in
      let u = takes_taken set.rules a q x (string_token set.rules a q x text t) in
      omega arith

  parts_loop : (texts more : List (List ℕ)) (found es : List Expr) (e : Expr) (p q : Place) → low ≤ p.level → AreParts set.rules inner p q e es more
      → LoopsParts (record { texts = texts; parts = found; open_ended = true }) p q (record { texts = texts ++ more; parts = found ++ e ∷ es; open_ended = false })
  parts_loop texts more found [] e p q l h =
      let (a, text, h1, h2, is) = h in
      let given : Interpolated = record { texts = texts; parts = found; open_ended = true } in
      let all : Interpolated = record { texts = texts ++ text ∷ []; parts = found ++ e ∷ []; open_ended = false } in
      let g = last_complete given p a q e text l h1 h2 in
      subst (λ z. LoopsParts given p q (record { texts = texts ++ z; parts = found ++ e ∷ []; open_ended = false })) (sym is)
      (loop_step low set (λ x z. x.open_ended) (part set readers) given all all p q q refl g (part_shorter s.Last p a q e text l h1 h2)
      (loop_stop low set (λ x z. x.open_ended) (part set readers) all q refl g.1.level))
  parts_loop texts more found (f ∷ fs) e p q l h =
      let (a, b, text, rest, h1, h2, h3, is) = h in
      let given : Interpolated = record { texts = texts; parts = found; open_ended = true } in
      let next : Interpolated = record { texts = texts ++ text ∷ []; parts = found ++ e ∷ []; open_ended = true } in
      let g = mid_complete given p a b e text l h1 h2 in
      let k = parts_loop (texts ++ text ∷ []) rest (found ++ e ∷ []) fs f b q g.1.level h3 in
      let all : Interpolated = record { texts = (texts ++ text ∷ []) ++ rest; parts = (found ++ e ∷ []) ++ f ∷ fs; open_ended = false } in
      subst (λ z. LoopsParts given p q z) (joined texts text rest more found e (f ∷ fs) is)
      (loop_step low set (λ x z. x.open_ended) (part set readers) given next all p b q refl g (part_shorter s.Mid p a b e text l h1 h2) k)

  interpolation_complete : (p q : Place) (texts : List (List ℕ)) (parts : Exprs) → low ≤ p.level
      → (a : Place) (text : List ℕ) (more : List (List ℕ)) (e : Expr) (es : List Expr) → TakesString set.rules s.Begin p a text
      → AreParts set.rules inner a q e es more → texts ≡ text ∷ more → parts ≡ exprs (e ∷ es)
      → Gives low p (interpolation set readers (start_of p) p) q (tree.the_expr 0 (over p q) (tree.Interp texts parts))
  unfolding interpolation parts
  interpolation_complete p q texts all l a text more e es h1 h2 texts_are parts_are =
      gives_same (same_interpolation (over p q) (text ∷ more) texts (exprs (e ∷ es)) all (sym texts_are) (sym parts_are))
      (gives_then _ (string_complete set low s.Begin p a text l h1) (λ k1.
      gives_then _
      (loop_done low set (λ x z. x.open_ended) (part set readers) (record { texts = text ∷ []; parts = []; open_ended = true }) (record { texts = text ∷ more; parts = e ∷ es; open_ended = false }) a q
      (parts_loop (text ∷ []) more [] es e a q k1 h2))
      (λ k2. gives_ok k2)))

  whole_complete : (p q : Place) (texts : List (List ℕ)) (parts : Exprs) (text : List ℕ) → low ≤ p.level → TakesString set.rules s.Whole p q text
      → texts ≡ text ∷ [] → parts ≡ tree.no_exprs
      → Gives low p (whole set readers (start_of p) p) q (tree.the_expr 0 (over p q) (tree.Interp texts parts))
  unfolding whole
  whole_complete p q texts parts text l h texts_are parts_are =
      gives_same (same_interpolation (over p q) (text ∷ []) texts tree.no_exprs parts (sym texts_are) (sym parts_are))
      (gives_then _ (string_complete set low s.Whole p q text l h) (λ k. gives_ok k))

  word_complete : (x : Symbol) (kind : ExprKind) (p q : Place) → low ≤ p.level → Takes set.rules x p q
      → Gives low p (word set readers (start_of p) kind p) q (tree.the_expr 0 (over p q) kind)
  unfolding word
  word_complete x kind p q l h = gives_next set _ x p q l h (λ t k. gives_ok k)

  number_complete : (p q : Place) (text : List ℕ) → low ≤ p.level → TakesNumber set.rules p q text
      → Gives low p (number set readers (start_of p) p) q (tree.the_expr 0 (over p q) (tree.NumberExpr text))
  unfolding number TakesNumber
  number_complete p q text l h =
      gives_same (ap (λ z. tree.the_expr 0 (over p q) (tree.NumberExpr z)) (sym h.2))
      (gives_then _ (expect_complete set low s.Number p q h.0 l (h.1, h.3)) (λ k. gives_ok k))

  literal_complete : (p q : Place) (value : List ℕ) → low ≤ p.level → TakesString set.rules s.Text p q value
      → Gives low p (literal set readers (start_of p) p) q (tree.the_expr 0 (over p q) (tree.StrExpr value))
  unfolding literal
  literal_complete p q value l h = gives_then _ (string_complete set low s.Text p q value l h) (λ k. gives_ok k)

  -- what a form is read by, where its first symbol is no prefix's
  of_form : (x : Symbol) (p q : Place) (e : Expr) → begins_prefix x ≡ false → symbol p ≡ x
      → Gives low p (form_by set readers (start_of p) x p) q e → Gives low p (simple set readers p) q e
  unfolding simple form sees
  of_form x p q e h is g =
      gives_if_false _ (ap begins_prefix is ∙ h) (subst (λ z. Gives low p (form_by set readers (start_of p) z p) q e) (sym is) g)

  module _ (bounded : Bounded set) (plain : PlainPhrases inner) where
    constructor_complete : (p q : Place) (items : Items) → low ≤ p.level → IsTable set.rules inner p.level p q items
        → Gives low p (constructor set readers (start_of p) p) q (tree.the_expr 0 (over p q) (tree.TableExpr items))
    unfolding constructor
    constructor_complete p q items l h =
        gives_then _ (table_complete low set inner readers complete plain p.level l p q items l h) (λ k. gives_ok k)

    function_complete : (n : ℕ) (p a b q : Place) (y : Body) → low ≤ p.level → AreAttributes set.rules inner n p a → Takes set.rules s.Function a b
        → IsBody set.rules inner None b q y
        → Gives low p (function set readers (start_of p) p) q (tree.the_expr 0 (over p q) (tree.FunctionExpr y))
    unfolding function
    function_complete n p a b q y l h1 h2 h3 =
        gives_then _ (attributes_complete low set inner readers complete p a tt l (n, h1)) (λ k1.
        gives_expect set _ s.Function a b k1 h2 (λ t k2.
        gives_then _ (body_complete low set inner readers complete bounded plain None b q y k2 h3) (λ k3. gives_ok k3)))

    of_prefix : (p q : Place) (e : Expr) → low ≤ p.level → IsPrefix set.rules inner p q e → begins_suffix q ≡ false
        → Gives low p (simple set readers p) q e
    unfolding simple sees
    of_prefix p q e l h b =
        gives_if_true _ (prefix_seen set inner p q e h) (prefix_complete low set inner readers complete bounded plain p q e l (h, b))

    abbrev IsRead : Place → Place → ExprKind → Type 0
    IsRead p q kind = Gives low p (simple set readers p) q (tree.the_expr 0 (over p q) kind)

    simple_form_complete : (p q : Place) (kind : ExprKind) → low ≤ p.level → IsSimpleForm set.rules inner p q kind → IsRead p q kind
    unfolding same
    simple_form_complete p q tree.NilExpr l h = of_form s.Nil p q _ refl (takes_symbol set.rules p q s.Nil h) (word_complete s.Nil tree.NilExpr p q l h)
    simple_form_complete p q tree.TrueExpr l h = of_form s.True p q _ refl (takes_symbol set.rules p q s.True h) (word_complete s.True tree.TrueExpr p q l h)
    simple_form_complete p q tree.FalseExpr l h = of_form s.False p q _ refl (takes_symbol set.rules p q s.False h) (word_complete s.False tree.FalseExpr p q l h)
    simple_form_complete p q (tree.NumberExpr text) l h =
        of_form s.Number p q _ refl (takes_symbol set.rules p q s.Number (number_token set.rules p q text h)) (number_complete p q text l h)
    simple_form_complete p q (tree.StrExpr value) l h =
        of_form s.Text p q _ refl (takes_symbol set.rules p q s.Text (string_token set.rules p q s.Text value h)) (literal_complete p q value l h)
    simple_form_complete p q tree.Vararg l h = of_form s.Dots p q _ refl (takes_symbol set.rules p q s.Dots h) (word_complete s.Dots tree.Vararg p q l h)
    simple_form_complete p q (tree.FunctionExpr y) l h =
        let (n, a, b, h1, h2, h3) = h in
        let g = function_complete n p a b q y l h1 h2 h3 in
        function_symbol set inner (λ z. symbol p ≡ z → IsRead p q (tree.FunctionExpr y))
        (λ is. of_form s.Function p q _ refl is g) (λ is. of_form s.AtSign p q _ refl is g) n p a b h1 h2 refl
    simple_form_complete p q (tree.IfElse arms last) l h =
        of_form s.If p q _ refl (choices_symbol set inner p h.0 h.2 h.3 h.4) (if_else_complete p q arms last l h)
    simple_form_complete p q (tree.TableExpr items) l h =
        of_form s.LeftBrace p q _ refl (table_symbol set inner p.level p q items h) (constructor_complete p q items l h)
    simple_form_complete p q (tree.Interp texts parts) l (inl h) =
        of_form s.Whole p q _ refl (takes_symbol set.rules p q s.Whole (string_token set.rules p q s.Whole h.0 h.1))
        (whole_complete p q texts parts h.0 l h.1 h.2 h.3)
    simple_form_complete p q (tree.Interp texts parts) l (inr h) =
        of_form s.Begin p q _ refl (takes_symbol set.rules p h.0 s.Begin (string_token set.rules p h.0 s.Begin h.1 h.5))
        (interpolation_complete p q texts parts l h.0 h.1 h.2 h.3 h.4 h.5 h.6 h.7 h.8)
    simple_form_complete p q (tree.Binary op left right) l h = absurd h
    simple_form_complete p q (tree.Unary op e) l h = absurd h
    simple_form_complete p q (tree.Assert e typ) l h = absurd h
    simple_form_complete p q (tree.NameExpr name) l h = of_prefix p q _ l (refl, refl, h.0) h.1
    simple_form_complete p q (tree.Paren e) l h = of_prefix p q _ l (refl, refl, h.0) h.1
    simple_form_complete p q (tree.Index base name) l h = of_prefix p q _ l (refl, refl, h.0) h.1
    simple_form_complete p q (tree.At base key) l h = of_prefix p q _ l (refl, refl, h.0) h.1
    simple_form_complete p q (tree.Call callee args) l h = of_prefix p q _ l (refl, refl, h.0) h.1
    simple_form_complete p q (tree.Method base name name_span args) l h = of_prefix p q _ l (refl, refl, h.0) h.1

    pub simple_complete : Complete low (IsSimple set.rules inner) (simple set readers)
    simple_complete p q (tree.the_expr id span kind) l h =
        gives_same (sym (the_same id 0 span (over p q) kind h.0 h.1)) (simple_form_complete p q kind l h.2)

    not_asserted : (p q : Place) (e : Expr) → low ≤ p.level → IsSimple set.rules inner p q e → sees s.DoubleColon q ≡ false
        → Gives low p (assertion set readers p) q e
    unfolding assertion asserted
    not_asserted p q e l h b = gives_then _ (simple_complete p q e l h) (λ k. gives_if_false _ b (gives_ok k))

    assert_complete : (p a b q : Place) (e : Expr) (t : tree.TypeSyntax) → low ≤ p.level → IsSimple set.rules inner p a e
        → Takes set.rules s.DoubleColon a b → inner.typ None b q t
        → Gives low p (assertion set readers p) q (tree.the_expr 0 (over p q) (tree.Assert e t))
    unfolding assertion asserted
    assert_complete p a b q e t l h1 h2 h3 =
        gives_then _ (simple_complete p a e l h1) (λ k1.
        gives_if_true _ (takes_sees set.rules a b s.DoubleColon h2)
        (gives_expect set _ s.DoubleColon a b k1 h2 (λ u k2. gives_then _ (complete.typ b q t k2 h3) (λ k3. gives_ok k3))))

    pub assertion_complete : Complete low (IsAssertion set.rules inner) (assertion set readers)
    assertion_complete p q (tree.the_expr id span (tree.Assert e t)) l h =
        let (a, b, h1, h2, h3) = h.2 in
        gives_same (sym (the_same id 0 span (over p q) (tree.Assert e t) h.0 h.1)) (assert_complete p a b q e t l h1 h2 h3)
    assertion_complete p q (tree.the_expr id span (tree.Binary op left right)) l h = absurd h.2
    assertion_complete p q (tree.the_expr id span (tree.Unary op e)) l h = absurd h.2
    assertion_complete p q (tree.the_expr id span kind) l h = not_asserted p q (tree.the_expr id span kind) l (h.0, h.1, h.2.0) h.2.1
