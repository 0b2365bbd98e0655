-- What the parsers of expressions without operators read is what the grammar says.
use Rattle.std.proofs.Common.{◌≡◌, ℕ, Bool, true, false, ◌||◌, ◌⊎◌, List, [], ◌∷◌, ◌++◌, refl, sym, ◌∙◌, ap, subst, inl, inr, append_assoc, append-nil}
use Rattle.std.specs.Prelude.{None}
use Rattle.luau_tree.specs.Tree.{Expr, Exprs, ExprKind, Choices}
use Rattle.luau_tree.specs.Tree as tree
use Rattle.luau_tree.specs.View.{exprs, choices}
use Rattle.luau_grammar.specs.declared.symbol.Symbol.{Symbol}
use Rattle.luau_grammar.specs.declared.symbol.Symbol.TheVariants as s
use Rattle.luau_grammar.specs.Places.{Place, Takes, TakesNumber, TakesString, sees, symbol, start_of, over}
use Rattle.luau_grammar.specs.Phrases.{Phrases}
use Rattle.luau_grammar.specs.Expressions.{begins_suffix, AreChoices, AreParts, IsPrefix, IsSimple, IsSimpleForm}
use Rattle.luau_grammar.specs.Reading.{Setting, Readers}
use Rattle.luau_grammar.specs.ReadExpressions.{Interpolated, choice, another_choice, all_choices, if_else, part_end, part, parts, interpolation, whole, function, word, number, literal, constructor, form_by, form, simple, asserted, assertion}
use Rattle.luau_grammar.proofs.Agreement.{Bounded, Sound, SoundPhrases}
use Rattle.luau_grammar.proofs.Primitives.{Reads, reads_ok, reads_err, reads_weaker, reads_then, reads_if, next_sound, next_symbol, expect_sound, expect_token_sound, string_sound}
use Rattle.luau_grammar.proofs.SoundLists.{repeat_sound}
use Rattle.luau_grammar.proofs.Assertions.{IsAssertion}
use Rattle.luau_grammar.proofs.SoundBodies.{attributes_sound, body_sound}
use Rattle.luau_grammar.proofs.SoundSuffixes.{table_sound, prefix_sound}

module _ (set : Setting) (inner : Phrases) where
  -- `word exp 'then' exp`
  abbrev pub IsChoice : Symbol → Place → Place → Expr × Expr → Type 0
  IsChoice word p q x =
      (a b c : Place) × Takes set.rules word p a × inner.exp a b x.0 × Takes set.rules s.Then b c × inner.exp c q x.1

  -- more choices
  abbrev pub AreMoreChoices : Place → Place → List (Expr × Expr) → Type 0
  AreMoreChoices p q [] = (sees s.ElseIf p ≡ false) × (q ≡ p)
  AreMoreChoices p q (x ∷ xs) = (a : Place) × IsChoice s.ElseIf p a x × AreMoreChoices a q xs

  all_choices_from : (word : Symbol) (p a q : Place) (x : Expr × Expr) (xs : List (Expr × Expr)) → IsChoice word p a x
      → AreMoreChoices a q xs → AreChoices set.rules inner word p q x xs
  all_choices_from word p a q x [] h m =
      subst (λ z. AreChoices set.rules inner word p z x []) (sym m.1) (h.0, h.1, h.2, h.3, h.4, h.5, h.6, m.0)
  all_choices_from word p a q x (y ∷ ys) h m =
      (h.0, h.1, h.2, a, h.3, h.4, h.5, h.6, all_choices_from s.ElseIf a m.0 q y ys m.1 m.2)

  abbrev IsAnotherChoice : List (Expr × Expr) → Place → Place → List (Expr × Expr) → Type 0
  IsAnotherChoice found p q all = (x : Expr × Expr) × (all ≡ found ++ x ∷ []) × IsChoice s.ElseIf p q x

  abbrev AddsChoices : List (Expr × Expr) → Place → Place → List (Expr × Expr) → Type 0
  AddsChoices found p q all = (more : List (Expr × Expr)) × (all ≡ found ++ more) × AreMoreChoices p q more

  -- `{exp MID} exp END`, or nothing behind the end
  abbrev AreMoreParts : Bool → Place → Place → List Expr → List (List ℕ) → Type 0
  AreMoreParts false p q parts texts = (q ≡ p) × (parts ≡ []) × (texts ≡ [])
  AreMoreParts true p q parts texts =
      (e : Expr) × (es : List Expr) × AreParts set.rules inner p q e es texts × (parts ≡ e ∷ es)

  abbrev IsPart : Interpolated → Place → Place → Interpolated → Type 0
  IsPart given p q y =
      (a : Place) × (e : Expr) × (text : List ℕ) × inner.exp p a e × (y.parts ≡ given.parts ++ e ∷ [])
      × (y.texts ≡ given.texts ++ text ∷ [])
      × (((y.open_ended ≡ true) × TakesString set.rules s.Mid a q text) ⊎ ((y.open_ended ≡ false) × TakesString set.rules s.Last a q text))

  abbrev AddsParts : Interpolated → Place → Place → Interpolated → Type 0
  AddsParts given p q all =
      (parts : List Expr) × (texts : List (List ℕ)) × (all.parts ≡ given.parts ++ parts) × (all.texts ≡ given.texts ++ texts)
      × AreMoreParts given.open_ended p q parts texts

  no_more_parts : (given : Interpolated) (p : Place) → given.open_ended ≡ false → AddsParts given p p given
  no_more_parts given p h =
      ([], [], sym (append-nil given.parts), sym (append-nil given.texts), rw h (refl, refl, refl))

  more_parts_behind : (p a b q : Place) (e : Expr) (text : List ℕ) (es : List Expr) (texts : List (List ℕ)) (open_ended : Bool)
      → inner.exp p a e
      → ((open_ended ≡ true) × TakesString set.rules s.Mid a b text) ⊎ ((open_ended ≡ false) × TakesString set.rules s.Last a b text)
      → AreMoreParts open_ended b q es texts → AreParts set.rules inner p q e es (text ∷ texts)
  more_parts_behind p a b q e text es texts false i (inl t) m = absurd (cc (t.0))
  more_parts_behind p a b q e text es texts true i (inr t) m = absurd (cc (t.0))
  more_parts_behind p a b q e text es texts true i (inl t) m =
      subst (λ z. AreParts set.rules inner p q e z (text ∷ texts)) (sym m.3) (a, b, text, texts, i, t.1, m.2, refl)
  more_parts_behind p a b q e text es texts false i (inr t) m =
      subst (λ z. AreParts set.rules inner p z e es (text ∷ texts)) (sym m.0)
      (subst (λ z. AreParts set.rules inner p b e z (text ∷ texts)) (sym m.1) (a, text, i, t.1, ap (λ z. text ∷ z) m.2))

  more_parts : (given y all : Interpolated) (p q r : Place) → given.open_ended ≡ true → IsPart given p q y → AddsParts y q r all
      → AddsParts given p r all
  more_parts given y all p q r h i k =
      let (a, e, text, j, parts_are, texts_are, t) = i in
      let (es, texts, all_parts, all_texts, m) = k in (
        e ∷ es,
        text ∷ texts,
        all_parts ∙ (ap (λ z. z ++ es) parts_are ∙ append_assoc given.parts (e ∷ []) es),
        all_texts ∙ (ap (λ z. z ++ texts) texts_are ∙ append_assoc given.texts (text ∷ []) texts),
        rw h (e, es, more_parts_behind p a q r e text es texts y.open_ended j t m, refl),
      )

  simple_prefix : (p q : Place) (e : Expr) → IsPrefix set.rules inner p q e → begins_suffix q ≡ false → IsSimple set.rules inner p q e
  simple_prefix p q (tree.the_expr id span (tree.NameExpr name)) h b = (h.0, h.1, (h.2, b))
  simple_prefix p q (tree.the_expr id span (tree.Paren e)) h b = (h.0, h.1, (h.2, b))
  simple_prefix p q (tree.the_expr id span (tree.Index base name)) h b = (h.0, h.1, (h.2, b))
  simple_prefix p q (tree.the_expr id span (tree.At base key)) h b = (h.0, h.1, (h.2, b))
  simple_prefix p q (tree.the_expr id span (tree.Call callee args)) h b = (h.0, h.1, (h.2, b))
  simple_prefix p q (tree.the_expr id span (tree.Method base name name_span args)) h b = (h.0, h.1, (h.2, b))
  simple_prefix p q (tree.the_expr id span kind) h b = absurd h.2

  simple_assertion : (p q : Place) (e : Expr) → IsSimple set.rules inner p q e → sees s.DoubleColon q ≡ false → IsAssertion set.rules inner p q e
  simple_assertion p q (tree.the_expr id span (tree.Assert e typ)) h b = absurd h.2
  simple_assertion p q (tree.the_expr id span (tree.Binary op left right)) h b = absurd h.2
  simple_assertion p q (tree.the_expr id span (tree.Unary op e)) h b = absurd h.2
  simple_assertion p q (tree.the_expr id span kind) h b = (h.0, h.1, (h.2, b))

module _ (set : Setting) (inner : Phrases) (readers : Readers) (sound : SoundPhrases set inner readers) where
  choice_sound : (word : Symbol) → Sound (IsChoice set inner word) (choice set readers word)
  unfolding choice
  choice_sound word p =
      reads_then (expect_sound set word p) (λ a t h1.
      reads_then (sound.exp a) (λ b cond h2.
      reads_then (expect_sound set s.Then b) (λ c u h3.
      reads_then (sound.exp c) (λ q value h4. reads_ok _ (a, b, c, h1, h2, h3, h4)))))

  another_choice_sound : (found : List (Expr × Expr)) → Sound (IsAnotherChoice set inner found) (another_choice set readers found)
  unfolding another_choice
  another_choice_sound found p = reads_then (choice_sound s.ElseIf p) (λ q x h. reads_ok _ (x, refl, h))

  all_choices_sound : Sound (λ p q all. (x : Expr × Expr) × (xs : List (Expr × Expr)) × AreChoices set.rules inner s.If p q x xs × (all ≡ choices (x ∷ xs)))
      (all_choices set readers)
  unfolding all_choices
  all_choices_sound p =
      reads_then (choice_sound s.If p) (λ a first h1.
      reads_then
      (repeat_sound set (λ x q. sees s.ElseIf q) (another_choice set readers) (IsAnotherChoice set inner) (AddsChoices set inner)
      (λ x q h. ([], sym (append-nil x), (h, refl)))
      (λ x y z q b r h i k. (i.0 ∷ k.0, k.1 ∙ (ap (λ l. l ++ k.0) i.1 ∙ append_assoc x (i.0 ∷ []) k.0), (b, i.2, k.2)))
      another_choice_sound (first ∷ []) a)
      (λ q all h2. reads_ok _ (first, h2.0, all_choices_from set inner s.If p a q first h2.0 h1 h2.2, ap choices h2.1)))

  if_else_sound : (p : Place) → Reads (λ q e. IsSimple set.rules inner p q e) (if_else set readers (start_of p) p)
  unfolding if_else
  if_else_sound p =
      reads_then (all_choices_sound p) (λ a all h1.
      reads_then (expect_sound set s.Else a) (λ b t h2.
      reads_then (sound.exp b) (λ q last h3. reads_ok _ (refl, refl, (a, b, h1.0, h1.1, h1.2, h2, h3, h1.3)))))

  part_sound : (given : Interpolated) → Sound (IsPart set inner given) (part set readers given)
  unfolding part part_end
  part_sound given p =
      reads_then (sound.exp p) (λ a e h1.
      reads_if (sees s.Mid a)
      (λ h. reads_then (string_sound set s.Mid a) (λ q text h2. reads_ok _ (a, e, text, h1, refl, refl, inl (refl, h2))))
      (λ h. reads_then (string_sound set s.Last a) (λ q text h2. reads_ok _ (a, e, text, h1, refl, refl, inr (refl, h2)))))

  parts_sound : (text : List ℕ) → Sound (AddsParts set inner (record { texts = text ∷ []; parts = []; open_ended = true })) (parts set readers text)
  unfolding parts
  parts_sound text =
      repeat_sound set (λ given q. given.open_ended) (part set readers) (IsPart set inner) (AddsParts set inner)
      (λ x q h. no_more_parts set inner x q h) (λ x y z p q r h i k. more_parts set inner x y z p q r h i k) part_sound
      (record { texts = text ∷ []; parts = []; open_ended = true })

  interpolation_sound : (p : Place) → Reads (λ q e. IsSimple set.rules inner p q e) (interpolation set readers (start_of p) p)
  unfolding interpolation
  interpolation_sound p =
      reads_then (string_sound set s.Begin p) (λ a text h1.
      reads_then (parts_sound text a) (λ q found h2.
      let (es, texts, parts_are, texts_are, m) = h2 in
      reads_ok _ (refl, refl, inr (a, text, texts, m.0, m.1, h1, m.2, texts_are, ap exprs (parts_are ∙ m.3)))))

  whole_sound : (p : Place) → Reads (λ q e. IsSimple set.rules inner p q e) (whole set readers (start_of p) p)
  unfolding whole
  whole_sound p =
      reads_then (string_sound set s.Whole p) (λ q text h. reads_ok _ (refl, refl, inl (text, h, refl, refl)))

  -- a token that is an expression
  word_sound : (x : Symbol) (kind : ExprKind) (p : Place) → symbol p ≡ x
      → Reads (λ q e. (Takes set.rules x p q) × (e ≡ tree.the_expr 0 (over p q) kind)) (word set readers (start_of p) kind p)
  unfolding word Takes
  word_sound x kind p e =
      reads_then (next_sound set p) (λ q t n. reads_ok _ ((t, sym (next_symbol set.rules p q t n) ∙ e, n), refl))

  a_word : (x : Symbol) (kind : ExprKind) (p : Place) → symbol p ≡ x
      → ((q : Place) → Takes set.rules x p q → IsSimpleForm set.rules inner p q kind)
      → Reads (λ q e. IsSimple set.rules inner p q e) (word set readers (start_of p) kind p)
  a_word x kind p e is =
      reads_weaker (word_sound x kind p e) (λ q y h. subst (λ z. IsSimple set.rules inner p q z) (sym h.1) (refl, refl, is q h.0))

  number_read : (p : Place) → Reads (λ q e. IsSimple set.rules inner p q e) (number set readers (start_of p) p)
  unfolding number TakesNumber
  number_read p =
      reads_then (expect_token_sound set s.Number p) (λ q t n. reads_ok _ (refl, refl, (t, n.0, refl, n.1)))

  literal_sound : (p : Place) → Reads (λ q e. IsSimple set.rules inner p q e) (literal set readers (start_of p) p)
  unfolding literal
  literal_sound p = reads_then (string_sound set s.Text p) (λ q value h. reads_ok _ (refl, refl, h))

  constructor_sound : (p : Place) → Reads (λ q e. IsSimple set.rules inner p q e) (constructor set readers (start_of p) p)
  unfolding constructor
  constructor_sound p = reads_then (table_sound set inner readers sound p.level p) (λ q fields h. reads_ok _ (refl, refl, h))

  function_sound : (p : Place) → Reads (λ q e. IsSimple set.rules inner p q e) (function set readers (start_of p) p)
  unfolding function
  function_sound p =
      reads_then (attributes_sound set inner readers sound p) (λ a u h1.
      reads_then (expect_sound set s.Function a) (λ b t h2.
      reads_then (body_sound set inner readers sound None b) (λ q y h3.
      reads_ok _ (refl, refl, (h1.0, a, b, h1.1, h2, h3)))))

  form_by_sound : (x : Symbol) (p : Place) → symbol p ≡ x → Reads (λ q e. IsSimple set.rules inner p q e) (form_by set readers (start_of p) x p)
  form_by_sound s.Nil p e = a_word s.Nil tree.NilExpr p e (λ q h. h)
  form_by_sound s.True p e = a_word s.True tree.TrueExpr p e (λ q h. h)
  form_by_sound s.False p e = a_word s.False tree.FalseExpr p e (λ q h. h)
  form_by_sound s.Dots p e = a_word s.Dots tree.Vararg p e (λ q h. h)
  form_by_sound s.Number p e = number_read p
  form_by_sound s.Text p e = literal_sound p
  form_by_sound s.LeftBrace p e = constructor_sound p
  form_by_sound s.Function p e = function_sound p
  form_by_sound s.AtSign p e = function_sound p
  form_by_sound s.If p e = if_else_sound p
  form_by_sound s.Whole p e = whole_sound p
  form_by_sound s.Begin p e = interpolation_sound p
  form_by_sound _ p e = reads_err _

  form_sound : Sound (IsSimple set.rules inner) (form set readers)
  unfolding form
  form_sound p = form_by_sound (symbol p) p refl

  module _ (bounded : Bounded set) where
    pub simple_sound : Sound (IsSimple set.rules inner) (simple set readers)
    unfolding simple
    simple_sound p =
        reads_if (sees s.Name p || sees s.LeftParen p)
        (λ h. reads_weaker (prefix_sound set inner readers sound bounded p) (λ q e i. simple_prefix set inner p q e i.0 i.1))
        (λ h. form_sound p)

    asserted_sound : (p : Place) (e : Expr) → Sound (λ a q y. IsSimple set.rules inner p a e → IsAssertion set.rules inner p q y) (asserted set readers (start_of p) e)
    unfolding asserted
    asserted_sound p e a =
        reads_if (sees s.DoubleColon a)
        (λ h. reads_then (expect_sound set s.DoubleColon a) (λ b t h1.
        reads_then (sound.typ None b) (λ q typ h2. reads_ok _ (λ i. (refl, refl, (a, b, i, h1, h2))))))
        (λ h. reads_ok _ (λ i. simple_assertion set inner p a e i h))

    pub assertion_sound : Sound (IsAssertion set.rules inner) (assertion set readers)
    unfolding assertion
    assertion_sound p =
        reads_then (simple_sound p) (λ a e h. reads_weaker (asserted_sound p e a) (λ q y i. i h))
