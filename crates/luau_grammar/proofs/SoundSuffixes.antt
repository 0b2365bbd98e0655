-- What the parsers of tables, arguments and prefixes read is what the grammar says.
use Rattle.std.proofs.Common.{◌≡◌, ℕ, ◌+◌, ◌≤◌, true, false, ◌⊎◌, List, [], ◌∷◌, refl, ap, subst, inl, inr, le-leb}
use Rattle.luau_tree.specs.Tree.{Expr, Exprs, ExprKind, Item, Items}
use Rattle.luau_tree.specs.Tree as tree
use Rattle.luau_tree.specs.View.{exprs, items}
use Rattle.luau_grammar.specs.declared.symbol.Symbol.TheVariants as s
use Rattle.luau_grammar.specs.Places.{Place, Takes, TakesName, sees, symbol, start_of, over, at_level, raised}
use Rattle.luau_grammar.specs.Phrases.{Phrases}
use Rattle.luau_grammar.specs.Lists.{AreInBraces}
use Rattle.luau_grammar.specs.Expressions.{begins_field, begins_suffix, AreExpressions, IsItem, IsTable, AreInParens, AreArguments, IsPrefix}
use Rattle.luau_grammar.specs.Reading.{Setting, Readers, deeper}
use Rattle.luau_grammar.specs.ReadPhrases as phrases
use Rattle.luau_grammar.specs.ReadExpressions.{expressions, keyed, field, item, fields, table, in_parens, list_arguments, table_argument, string_argument, arguments, paren, name_expression, primary, index, at, method, call, suffix, prefix}
use Rattle.luau_grammar.proofs.Agreement.{Bounded, Sound, SoundPhrases}
use Rattle.luau_grammar.proofs.Primitives.{reads_ok, reads_weaker, reads_then, reads_if, expect_sound, name_sound, string_sound, string_token, open_arguments_sound, arguments_token, raise_sound, takes_bounded}
use Rattle.luau_grammar.proofs.SoundLists.{repeat_sound, Separated, separated_sound, IsBraced, braced_sound}

module _ (set : Setting) (inner : Phrases) where
  -- arguments have a token, so they stand where anything may be opened
  pub arguments_bounded : Bounded set → (level : ℕ) (p q : Place) (args : Exprs) → AreArguments set.rules inner level p q args → p.level ≤ set.limit
  arguments_bounded bounded level p q args (inl h) = takes_bounded set p h.0 s.LeftParen bounded (arguments_token set.rules p h.0 h.2)
  arguments_bounded bounded level p q args (inr (inl (all, inl h, e))) = takes_bounded set p h.0 s.LeftBrace bounded h.1
  arguments_bounded bounded level p q args (inr (inl (all, inr h, e))) = takes_bounded set p h.0 s.LeftBrace bounded h.4
  arguments_bounded bounded level p q args (inr (inr h)) = takes_bounded set p h.0 s.Text bounded (string_token set.rules p h.0 s.Text h.1 h.2)

  pub deeper_there : (level : ℕ) → level ≤ set.limit → deeper set.limit level ≡ level + 1
  unfolding deeper
  deeper_there level h = rw (le-leb level set.limit h) refl

  -- the fields of a table, up to a `}`
  abbrev AreFields : Place → Place → Items → Type 0
  AreFields p q all =
      ((sees s.RightBrace p ≡ true) × (q ≡ p) × (all ≡ tree.no_items))
      ⊎ ((x : Item) × (xs : List Item) × (sees s.RightBrace p ≡ false)
      × AreInBraces set.rules (IsItem set.rules inner) p q x xs × (all ≡ items (x ∷ xs)))

  some_fields : (p q : Place) (all : List Item) → IsBraced set.rules (IsItem set.rules inner) p q all → AreFields p q (items all)
  some_fields p q [] h = inl (h.0, h.1, refl)
  some_fields p q (x ∷ xs) h = inr (x, xs, h.0, h.1, refl)

  whole_table : (inside : ℕ) (p a b q : Place) (all : Items) → Takes set.rules s.LeftBrace p a → AreFields (at_level inside a) b all
      → Takes set.rules s.RightBrace b q → IsTable set.rules inner inside p q all
  unfolding sees symbol
  whole_table inside p a b q all o (inl h) c = inl (a, o, h.0, subst (λ z. Takes set.rules s.RightBrace z q) h.1 c, h.2)
  whole_table inside p a b q all o (inr h) c = inr (a, b, h.0, h.1, o, h.2, h.3, c, h.4)

  some_expressions : (p q : Place) (es : List Expr) → Separated set.rules inner.exp p q es → AreExpressions set.rules inner p q (exprs es)
  some_expressions p q [] h = absurd h
  some_expressions p q (e ∷ es) h = (e, es, h, refl)

from_raised : (P : Place → Type 0) (a : Place) {b : Place} → b ≡ raised a → P b → P (raised a)
from_raised P a e h = subst P e h

module _ (set : Setting) (inner : Phrases) (readers : Readers) (sound : SoundPhrases set inner readers) where
  pub expressions_sound : Sound (λ p q es. AreExpressions set.rules inner p q (exprs es)) (expressions set readers)
  unfolding expressions
  expressions_sound p =
      reads_weaker (separated_sound set inner.exp (phrases.expression set readers) sound.exp p) (λ q es h. some_expressions set inner p q es h)

  item_sound : Sound (IsItem set.rules inner) (item set readers)
  unfolding item keyed field
  item_sound p =
      reads_if (sees s.LeftBracket p)
      (λ h. reads_then (expect_sound set s.LeftBracket p) (λ a t1 h1.
      reads_then (sound.exp a) (λ b key h2.
      reads_then (expect_sound set s.RightBracket b) (λ c t2 h3.
      reads_then (expect_sound set s.Assign c) (λ d t3 h4.
      reads_then (sound.exp d) (λ q value h5. reads_ok _ (a, b, c, d, h1, h2, h3, h4, h5)))))))
      (λ h. reads_if (begins_field p)
      (λ f. reads_then (name_sound set p) (λ a name h1.
      reads_then (expect_sound set s.Assign a) (λ b t h2.
      reads_then (sound.exp b) (λ q value h3. reads_ok _ (a, b, h1, h2, h3)))))
      (λ f. reads_then (sound.exp p) (λ q value h1. reads_ok _ (f, h1))))

  pub table_sound : (inside : ℕ) → Sound (IsTable set.rules inner inside) (table set readers inside)
  unfolding table fields
  table_sound inside p =
      reads_then (expect_sound set s.LeftBrace p) (λ a t h1.
      reads_then
      (reads_then (braced_sound set (IsItem set.rules inner) (item set readers) item_sound (at_level inside a)) (λ b found h2.
      reads_ok (λ q all. AreFields set inner (at_level inside a) q all) (some_fields set inner (at_level inside a) b found.items h2)))
      (λ b all h3. reads_then (expect_sound set s.RightBrace b) (λ q u h4. reads_ok _ (whole_table set inner inside p a b q all h1 h3 h4))))

  in_parens_sound : Sound (AreInParens set.rules inner) (in_parens set readers)
  unfolding in_parens
  in_parens_sound p =
      reads_if (sees s.RightParen p)
      (λ h. reads_ok _ (inl (h, refl, refl)))
      (λ h. reads_then (expressions_sound p) (λ q es i. reads_ok _ (inr (h, i))))

  pub arguments_sound : (inside : ℕ) → Sound (AreArguments set.rules inner inside) (arguments set readers inside)
  unfolding arguments list_arguments table_argument string_argument
  arguments_sound inside p =
      reads_if (sees s.LeftBrace p)
      (λ h. reads_then (table_sound inside p) (λ q fields i. reads_ok _ (inr (inl (fields, i, refl)))))
      (λ h. reads_if (sees s.Text p)
      (λ k. reads_then (string_sound set s.Text p) (λ a value i. reads_ok _ (inr (inr (a, value, i, refl, refl)))))
      (λ k. reads_then (open_arguments_sound set p) (λ a t i.
      reads_then (in_parens_sound (at_level inside a)) (λ b es j.
      reads_then (expect_sound set s.RightParen b) (λ q u l. reads_ok _ (inl (a, b, i, j, l)))))))

  pub primary_sound : Sound (IsPrefix set.rules inner) (primary set readers)
  unfolding primary paren name_expression
  primary_sound p =
      reads_if (sees s.LeftParen p)
      (λ h. reads_then (expect_sound set s.LeftParen p) (λ a t i.
      reads_then (sound.exp a) (λ b e j.
      reads_then (expect_sound set s.RightParen b) (λ q u l. reads_ok _ (refl, refl, (a, b, i, j, l))))))
      (λ h. reads_then (name_sound set p) (λ q name i. reads_ok _ (refl, refl, i)))

  -- a prefix that began at a place, with one more suffix
  module _ (bounded : Bounded set) (begin : Place) where
    abbrev IsLonger : Expr → Place → Place → Expr → Type 0
    IsLonger base p q e = IsPrefix set.rules inner begin p base → IsPrefix set.rules inner begin q e

    index_sound : (base : Expr) → Sound (IsLonger base) (index set readers (start_of begin) base)
    unfolding index
    index_sound base p =
        reads_then (expect_sound set s.Dot p) (λ a t h.
        reads_then (raise_sound set a) (λ b u r.
        reads_then (name_sound set b) (λ q name i. reads_ok _ (λ j. (refl, refl, (p, a, j, h, from_raised (λ z. TakesName set.rules z q name) a r.1 i))))))

    at_sound : (base : Expr) → Sound (IsLonger base) (at set readers (start_of begin) base)
    unfolding at
    at_sound base p =
        reads_then (expect_sound set s.LeftBracket p) (λ a t h.
        reads_then (raise_sound set a) (λ b u r.
        reads_then (sound.exp b) (λ c key i.
        reads_then (expect_sound set s.RightBracket c) (λ q v k.
        reads_ok _ (λ j. (refl, refl, (p, a, c, j, h, from_raised (λ z. inner.exp z c key) a r.1 i, k)))))))

    method_sound : (base : Expr) → Sound (IsLonger base) (method set readers (start_of begin) base)
    unfolding method start_of
    method_sound base p =
        reads_then (expect_sound set s.Colon p) (λ a t h.
        reads_then (raise_sound set a) (λ b u r.
        reads_then (name_sound set b) (λ c name i.
        reads_then (arguments_sound c.level c) (λ q args k.
        reads_ok _ (λ j. (refl, refl, (p, a, c, j, h, from_raised (λ z. TakesName set.rules z c name) a r.1 i, ap (λ z. over z c) r.1, k)))))))

    call_sound : (callee : Expr) → Sound (IsLonger callee) (call set readers (start_of begin) callee)
    unfolding call
    call_sound callee p =
        reads_then (arguments_sound (deeper set.limit p.level) p) (λ q args k. reads_ok _ (λ j. (
          refl,
          refl,
          (
            p,
            j,
            subst (λ z. AreArguments set.rules inner z p q args)
                (deeper_there set inner p.level (arguments_bounded set inner bounded (deeper set.limit p.level) p q args k)) k,
          ),
        )))

    suffix_sound : (base : Expr) → Sound (IsLonger base) (suffix set readers (start_of begin) base)
    unfolding suffix
    suffix_sound base p =
        reads_if (sees s.Dot p) (λ h. index_sound base p)
        (λ h. reads_if (sees s.LeftBracket p) (λ k. at_sound base p)
        (λ k. reads_if (sees s.Colon p) (λ l. method_sound base p) (λ l. call_sound base p)))

  -- a prefix, behind which no suffix stands
  pub prefix_sound : Bounded set → Sound (λ p q e. IsPrefix set.rules inner p q e × (begins_suffix q ≡ false)) (prefix set readers)
  unfolding prefix
  prefix_sound bounded p =
      reads_then (primary_sound p) (λ a first i.
      reads_weaker
      (repeat_sound set (λ x q. begins_suffix q) (suffix set readers (start_of p)) (IsLonger bounded p)
      (λ x q r y. IsPrefix set.rules inner p q x → IsPrefix set.rules inner p r y × (begins_suffix r ≡ false))
      (λ x q h j. (j, h)) (λ x y z q b r h j k l. k (j l)) (suffix_sound bounded p) first a)
      (λ q e k. k i))
