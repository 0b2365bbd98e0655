-- What the grammar says of tables, arguments and prefixes, their parsers read.
use Rattle.std.proofs.Common.{◌≡◌, ℕ, ◌+◌, ◌≤◌, ◌<◌, Bool, true, false, ◌||◌, List, [], ◌∷◌, length, refl, sym, ◌∙◌, ap, subst, inl, inr, arith}
use Rattle.std.proofs.lemmas.Bool.{and_from, false_from_ne_true, true≢false}
use Rattle.luau_tree.specs.declared.position.Span.{Span}
use Rattle.luau_tree.specs.Tree.{Expr, Exprs, ExprKind, Item, Items}
use Rattle.luau_tree.specs.Tree as tree
use Rattle.luau_tree.specs.View.{exprs, items}
use Rattle.luau_grammar.specs.declared.symbol.Symbol.{Symbol}
use Rattle.luau_grammar.specs.declared.symbol.Symbol.TheVariants as s
use Rattle.luau_grammar.specs.Symbols.{same}
use Rattle.luau_grammar.specs.Places.{Place, Takes, TakesName, TakesString, OpensArguments, sees, sees_behind, symbol, symbol_behind, first_symbol, second_symbol, start_of, over, at_level, raised}
use Rattle.luau_grammar.specs.Phrases.{Phrases}
use Rattle.luau_grammar.specs.Lists.{AreInBraces}
use Rattle.luau_grammar.specs.Expressions.{begins, begins_suffix, AreExpressions, IsItem, IsTable, AreInParens, AreArguments, IsPrefix, IsPrefixForm}
use Rattle.luau_grammar.specs.Reading.{Setting, Readers, Outcome}
use Rattle.luau_grammar.specs.ReadPhrases as phrases
use Rattle.luau_grammar.specs.ReadExpressions.{expressions, keyed, field, item, fields, table, in_parens, list_arguments, table_argument, string_argument, arguments, paren, name_expression, primary, index, at, method, call, suffix, prefix}
use Rattle.luau_grammar.proofs.Agreement.{Bounded, Reached, Complete, CompletePhrases}
use Rattle.luau_grammar.proofs.Primitives.{Gives, gives_ok, gives_to, gives_same, gives_here, gives_then, gives_if_true, gives_if_false, gives_expect, sees_by, sees_symbol, takes_bounded, takes_symbol, takes_sees, takes_not, takes_taken, name_complete, name_token, string_complete, string_token, open_arguments_complete, arguments_token, raise_complete, reached_then}
use Rattle.luau_grammar.proofs.SoundLists.{Separated, IsBraced}
use Rattle.luau_grammar.proofs.CompleteLists.{Loops, loop_stop, loop_step, loop_done, separated_complete, braced_complete}
use Rattle.luau_grammar.proofs.PlainPhrases.{PlainPhrases}
use Rattle.luau_grammar.proofs.SoundSuffixes.{arguments_bounded, deeper_there}

-- the same tokens at another level
gives_at : {A : Type 0} {low : ℕ} (level : ℕ) (p q : Place) (o : Outcome A) (x : A) → Gives low (at_level level p) o q x → Gives low p o q x
gives_at level p q o x g = (g.0, record { level = g.1.level; ahead = g.1.ahead })

-- the symbol behind the next token
name_behind : (set : Setting) (p a b : Place) (name : List ℕ) (x : Symbol) → TakesName set.rules p a name → Takes set.rules x a b
    → sees_behind x p ≡ true
unfolding sees_behind symbol_behind TakesName symbol sees
name_behind set p a b name x n t =
    ap (λ l. same (second_symbol l) x) n.3.1 ∙ (ap (λ (z : Place). same (first_symbol z.ahead) x) (sym n.3.3) ∙ takes_sees set.rules a b x t)

no_bracket : (x : Symbol) → begins x ≡ true → x ≡ s.LeftBracket → ⊥
no_bracket x h e = true≢false (sym h ∙ ap begins e)

-- what these symbols begin
abbrev suffix_by : Symbol → Bool
suffix_by x = (same x s.Dot || (same x s.LeftBracket || same x s.Colon)) || (same x s.LeftParen || (same x s.LeftBrace || same x s.Text))

suffix_seen : (p : Place) (x : Symbol) → symbol p ≡ x → suffix_by x ≡ true → begins_suffix p ≡ true
unfolding sees
suffix_seen p x e h = ap suffix_by e ∙ h

abbrev only_string : Span → List ℕ → Exprs
only_string span value = tree.more_exprs (tree.the_expr 0 span (tree.StrExpr value)) tree.no_exprs

pub the_same : (id id' : ℕ) (span span' : Span) (kind : ExprKind) → id ≡ id' → span ≡ span' → tree.the_expr id span kind ≡ tree.the_expr id' span' kind
the_same id id' span span' kind e f = cc

one_list : (xs ys : List Expr) → exprs xs ≡ exprs ys → xs ≡ ys
one_list [] [] e = refl
one_list [] (y ∷ ys) e = absurd (cc)
one_list (x ∷ xs) [] e = absurd (cc)
one_list (x ∷ xs) (y ∷ ys) e =
    let first : x ≡ y = cc in
    let more : exprs xs ≡ exprs ys = cc in
    let rest = one_list xs ys more in
    cc

module _ (set : Setting) (inner : Phrases) where
  table_seen : (inside : ℕ) (p q : Place) (all : Items) → IsTable set.rules inner inside p q all → sees s.LeftBrace p ≡ true
  table_seen inside p q all (inl h) = takes_sees set.rules p h.0 s.LeftBrace h.1
  table_seen inside p q all (inr h) = takes_sees set.rules p h.0 s.LeftBrace h.4

  braces_at : (inside : ℕ) (a b : Place) (x : Item) (xs : List Item) → sees s.RightBrace a ≡ false
      → AreInBraces set.rules (IsItem set.rules inner) (at_level inside a) b x xs → IsBraced set.rules (IsItem set.rules inner) (at_level inside a) b (x ∷ xs)
  unfolding sees symbol
  braces_at inside a b x xs h i = (h, i)

  separated_of : (p q : Place) (all : Exprs) → AreExpressions set.rules inner p q all
      → (es : List Expr) × Separated set.rules inner.exp p q es × (all ≡ exprs es)
  separated_of p q all h = (h.0 ∷ h.1, h.2, h.3)

  -- arguments begin with one of three symbols
  arguments_symbol : (P : Symbol → Type 0) → P s.LeftParen → P s.LeftBrace → P s.Text
      → (level : ℕ) (p q : Place) (args : Exprs) → AreArguments set.rules inner level p q args → P (symbol p)
  arguments_symbol P a b c level p q args (inl h) = subst P (sym (takes_symbol set.rules p h.0 s.LeftParen (arguments_token set.rules p h.0 h.2))) a
  arguments_symbol P a b c level p q args (inr (inl (all, inl h, e))) = subst P (sym (takes_symbol set.rules p h.0 s.LeftBrace h.1)) b
  arguments_symbol P a b c level p q args (inr (inl (all, inr h, e))) = subst P (sym (takes_symbol set.rules p h.0 s.LeftBrace h.4)) b
  arguments_symbol P a b c level p q args (inr (inr h)) = subst P (sym (takes_symbol set.rules p h.0 s.Text (string_token set.rules p h.0 s.Text h.1 h.2))) c

module _ (low : ℕ) (set : Setting) (inner : Phrases) (readers : Readers) (complete : CompletePhrases low set inner readers) where
  expressions_by : Complete low (Separated set.rules inner.exp) (expressions set readers)
  unfolding expressions
  expressions_by = separated_complete low set inner.exp (phrases.expression set readers) complete.exp

  pub expressions_complete : Complete low (λ p q es. AreExpressions set.rules inner p q (exprs es)) (expressions set readers)
  expressions_complete p q es l h =
      gives_same (one_list (h.0 ∷ h.1) es (sym h.3)) (expressions_by p q (h.0 ∷ h.1) l h.2)

  module _ (plain : PlainPhrases inner) where
    item_complete : Complete low (IsItem set.rules inner) (item set readers)
    unfolding item keyed field same
    item_complete p q (tree.Keyed key value) l h =
        let (a, b, c, d, h1, h2, h3, h4, h5) = h in
        gives_if_true _ (takes_sees set.rules p a s.LeftBracket h1)
        (gives_expect set _ s.LeftBracket p a l h1 (λ t1 k1.
        gives_then _ (complete.exp a b key k1 h2) (λ k2.
        gives_expect set _ s.RightBracket b c k2 h3 (λ t2 k3.
        gives_expect set _ s.Assign c d k3 h4 (λ t3 k4.
        gives_then _ (complete.exp d q value k4 h5) (λ k5. gives_ok k5))))))
    item_complete p q (tree.Field name value) l h =
        let (a, b, h1, h2, h3) = h in
        let n = name_token set.rules p a name h1 in
        gives_if_false _ (takes_not set.rules p a s.Name s.LeftBracket refl n)
        (gives_if_true _ (and_from (sees s.Name p) (sees_behind s.Assign p) (takes_sees set.rules p a s.Name n) (name_behind set p a b name s.Assign h1 h2))
        (gives_then _ (name_complete set low p a name l h1) (λ k1.
        gives_expect set _ s.Assign a b k1 h2 (λ t k2.
        gives_then _ (complete.exp b q value k2 h3) (λ k3. gives_ok k3)))))
    item_complete p q (tree.Plain value) l h =
        gives_if_false _ (false_from_ne_true (sees s.LeftBracket p) (λ e. no_bracket (symbol p) (plain.begins p q value h.1) (sees_symbol s.LeftBracket p e)))
        (gives_if_false _ h.0 (gives_then _ (complete.exp p q value l h.1) (λ k. gives_ok k)))

    fields_complete : (xs : List Item) (p a q : Place) → low ≤ p.level → IsBraced set.rules (IsItem set.rules inner) p a xs
        → Takes set.rules s.RightBrace a q → Gives low p (fields set readers p) a (items xs)
    unfolding fields
    fields_complete xs p a q l h c =
        let t = takes_taken set.rules a q s.RightBrace c in
        let g = braced_complete low set (IsItem set.rules inner) (item set readers) item_complete xs p a l h (omega arith) in
        gives_then _ g.1 (λ k. gives_ok k)

    fields_reached : (xs : List Item) (p a q : Place) → low ≤ p.level → IsBraced set.rules (IsItem set.rules inner) p a xs
        → Takes set.rules s.RightBrace a q → Reached low p a
    fields_reached xs p a q l h c = (fields_complete xs p a q l h c).1

    table_by : (inside : ℕ) → low ≤ inside → (p a b q : Place) (xs : List Item) → low ≤ p.level → Takes set.rules s.LeftBrace p a
        → IsBraced set.rules (IsItem set.rules inner) (at_level inside a) b xs → Takes set.rules s.RightBrace b q
        → Gives low p (table set readers inside p) q (items xs)
    unfolding table
    table_by inside m p a b q xs l o h c =
        gives_expect set _ s.LeftBrace p a l o (λ t k.
        gives_at inside a q _ (items xs)
        (gives_then _ (fields_complete xs (at_level inside a) b q m h c) (λ k1. gives_expect set _ s.RightBrace b q k1 c (λ u k2. gives_ok k2))))

    pub table_complete : (inside : ℕ) → low ≤ inside → Complete low (IsTable set.rules inner inside) (table set readers inside)
    unfolding sees symbol
    table_complete inside m p q all l (inl h) =
        gives_same (sym h.4) (table_by inside m p h.0 (at_level inside h.0) q [] l h.1 (h.2, refl) h.3)
    table_complete inside m p q all l (inr h) =
        gives_same (sym h.8) (table_by inside m p h.0 h.1 q (h.2 ∷ h.3) l h.4 (h.5, h.6) h.7)

    in_parens_complete : Complete low (AreInParens set.rules inner) (in_parens set readers)
    unfolding in_parens
    in_parens_complete p q all l (inl h) = gives_if_true _ h.0 (gives_same (sym h.2) (gives_here l h.1))
    in_parens_complete p q all l (inr h) =
        let n = separated_of set inner p q all h.1 in
        gives_if_false _ h.0 (gives_same (sym n.2) (gives_then _ (expressions_by p q n.0 l n.1) (λ k. gives_ok k)))

    list_complete : (inside : ℕ) → low ≤ inside → (p a b q : Place) (args : Exprs) → low ≤ p.level → OpensArguments set.rules p a
        → AreInParens set.rules inner (at_level inside a) b args → Takes set.rules s.RightParen b q
        → Gives low p (list_arguments set readers inside p) q args
    unfolding list_arguments
    list_complete inside m p a b q args l o h c =
        gives_then _ (open_arguments_complete set low p a tt l o) (λ k.
        gives_at inside a q _ args
        (gives_then _ (in_parens_complete (at_level inside a) b args m h) (λ k1. gives_expect set _ s.RightParen b q k1 c (λ u k2. gives_ok k2))))

    table_argument_complete : (inside : ℕ) → low ≤ inside → (p q : Place) (fields : Items) → low ≤ p.level
        → IsTable set.rules inner inside p q fields
        → Gives low p (table_argument set readers inside p) q (tree.more_exprs (tree.the_expr 0 (over p q) (tree.TableExpr fields)) tree.no_exprs)
    unfolding table_argument
    table_argument_complete inside m p q fields l h = gives_then _ (table_complete inside m p q fields l h) (λ k. gives_ok k)

    string_argument_complete : (inside : ℕ) → low ≤ inside → (p a : Place) (value : List ℕ) → low ≤ p.level → TakesString set.rules s.Text p a value
        → Gives low p (string_argument set readers inside p) (at_level inside a) (tree.more_exprs (tree.the_expr 0 (over p a) (tree.StrExpr value)) tree.no_exprs)
    unfolding string_argument
    string_argument_complete inside m p a value l h =
        gives_then _ (string_complete set low s.Text p a value l h) (λ k. gives_at inside a (at_level inside a) _ _ (gives_ok m))

    pub arguments_complete : (inside : ℕ) → low ≤ inside → Complete low (AreArguments set.rules inner inside) (arguments set readers inside)
    unfolding arguments same
    arguments_complete inside m p q args l (inl h) =
        let n = arguments_token set.rules p h.0 h.2 in
        gives_if_false _ (takes_not set.rules p h.0 s.LeftParen s.LeftBrace refl n)
        (gives_if_false _ (takes_not set.rules p h.0 s.LeftParen s.Text refl n) (list_complete inside m p h.0 h.1 q args l h.2 h.3 h.4))
    arguments_complete inside m p q args l (inr (inl (fields, h, e))) =
        gives_if_true _ (table_seen set inner inside p q fields h) (gives_same (sym e) (table_argument_complete inside m p q fields l h))
    arguments_complete inside m p q args l (inr (inr (a, value, h, e, is))) =
        let n = string_token set.rules p a s.Text value h in
        gives_if_false _ (takes_not set.rules p a s.Text s.LeftBrace refl n)
        (gives_if_true _ (takes_sees set.rules p a s.Text n)
        (gives_to e
        (gives_same (ap (λ z. only_string (over p z) value) (sym e) ∙ sym is) (string_argument_complete inside m p a value l h))))

    -- what is left behind arguments is shorter
    arguments_shorter : (inside : ℕ) → low ≤ inside → (p q : Place) (args : Exprs) → AreArguments set.rules inner inside p q args
        → length q.ahead < length p.ahead
    arguments_shorter inside m p q args (inl h) =
        let t = takes_taken set.rules p h.0 s.LeftParen (arguments_token set.rules p h.0 h.2) in
        let u = takes_taken set.rules h.1 q s.RightParen h.4 in
        let r : Reached low (at_level inside h.0) h.1 = (in_parens_complete (at_level inside h.0) h.1 args m h.3).1 in
        omega arith
    arguments_shorter inside m p q args (inr (inl (all, inl h, e))) =
        let t = takes_taken set.rules p h.0 s.LeftBrace h.1 in
        let u = takes_taken set.rules (at_level inside h.0) q s.RightBrace h.3 in
        omega arith
    arguments_shorter inside m p q args (inr (inl (all, inr h, e))) =
        let t = takes_taken set.rules p h.0 s.LeftBrace h.4 in
        let u = takes_taken set.rules h.1 q s.RightBrace h.7 in
        let r : Reached low (at_level inside h.0) h.1 = fields_reached (h.2 ∷ h.3) (at_level inside h.0) h.1 q m (braces_at set inner inside h.0 h.1 h.2 h.3 h.5 h.6) h.7 in
        omega arith
    arguments_shorter inside m p q args (inr (inr h)) =
        let t = takes_taken set.rules p h.0 s.Text (string_token set.rules p h.0 s.Text h.1 h.2) in
        let e : length q.ahead ≡ length h.0.ahead = ap (λ (z : Place). length z.ahead) h.3 in
        omega arith

  -- What is read from a first place on: a prefix, and behind it all that a loop over suffixes reads.
  record PrefixRead (begin q : Place) (e : Expr) : Type 0 where
    reached : Reached low begin q
    shorter : length q.ahead < length begin.ahead
    goes : (z : Expr) (r : Place) → Loops low set (λ x p. begins_suffix p) (suffix set readers (start_of begin)) e q r z
        → (first : Expr) × (a : Place) × Gives low begin (primary set readers begin) a first
        × Loops low set (λ x p. begins_suffix p) (suffix set readers (start_of begin)) first a r z

  module _ (bounded : Bounded set) (plain : PlainPhrases inner) (begin : Place) where
    abbrev Suffixes : Expr → Place → Place → Expr → Type 0
    Suffixes = Loops low set (λ x p. begins_suffix p) (suffix set readers (start_of begin))

    extend : (base e : Expr) (a q : Place) → PrefixRead begin a base → begins_suffix a ≡ true
        → Gives low a (suffix set readers (start_of begin) base a) q e → length q.ahead < length a.ahead → PrefixRead begin q e
    extend base e a q c h g less = record {
      reached = reached_then c.reached g.1;
      shorter = let longer = c.shorter in omega arith;
      goes = λ z r k. c.goes z r (loop_step low set (λ x p. begins_suffix p) (suffix set readers (start_of begin)) base e z a q r h g less k);
    }

    first_of : (e : Expr) (q : Place) → Gives low begin (primary set readers begin) q e → length q.ahead < length begin.ahead → PrefixRead begin q e
    first_of e q g less = record { reached = g.1; shorter = less; goes = λ z r k. (e, q, g, k) }

    index_complete : (base : Expr) (a b q : Place) (name : List ℕ) → low ≤ a.level → Takes set.rules s.Dot a b
        → TakesName set.rules (raised b) q name
        → Gives low a (suffix set readers (start_of begin) base a) q (tree.the_expr 0 (over begin q) (tree.Index base name))
    unfolding suffix index
    index_complete base a b q name l h n =
        let t = takes_taken set.rules a b s.Dot h in
        let u = takes_bounded set a b s.Dot bounded h in
        gives_if_true _ (takes_sees set.rules a b s.Dot h)
        (gives_expect set _ s.Dot a b l h (λ v k1.
        gives_then _ (raise_complete set low b (raised b) tt k1 (omega arith, refl)) (λ k2.
        gives_then _ (name_complete set low (raised b) q name k2 n) (λ k3. gives_ok k3))))

    at_complete : (base key : Expr) (a b c q : Place) → low ≤ a.level → Takes set.rules s.LeftBracket a b
        → inner.exp (raised b) c key → Takes set.rules s.RightBracket c q
        → Gives low a (suffix set readers (start_of begin) base a) q (tree.the_expr 0 (over begin q) (tree.At base key))
    unfolding suffix at same
    at_complete base key a b c q l h i n =
        let t = takes_taken set.rules a b s.LeftBracket h in
        let u = takes_bounded set a b s.LeftBracket bounded h in
        gives_if_false _ (takes_not set.rules a b s.LeftBracket s.Dot refl h)
        (gives_if_true _ (takes_sees set.rules a b s.LeftBracket h)
        (gives_expect set _ s.LeftBracket a b l h (λ v k1.
        gives_then _ (raise_complete set low b (raised b) tt k1 (omega arith, refl)) (λ k2.
        gives_then _ (complete.exp (raised b) c key k2 i) (λ k3.
        gives_expect set _ s.RightBracket c q k3 n (λ w k4. gives_ok k4))))))

    method_complete : (base : Expr) (a b c q : Place) (name : List ℕ) (args : Exprs) → low ≤ a.level → Takes set.rules s.Colon a b
        → TakesName set.rules (raised b) c name → AreArguments set.rules inner c.level c q args
        → Gives low a (suffix set readers (start_of begin) base a) q (tree.the_expr 0 (over begin q) (tree.Method base name (over b c) args))
    unfolding suffix method same start_of
    method_complete base a b c q name args l h n i =
        let t = takes_taken set.rules a b s.Colon h in
        let u = takes_bounded set a b s.Colon bounded h in
        gives_if_false _ (takes_not set.rules a b s.Colon s.Dot refl h)
        (gives_if_false _ (takes_not set.rules a b s.Colon s.LeftBracket refl h)
        (gives_if_true _ (takes_sees set.rules a b s.Colon h)
        (gives_expect set _ s.Colon a b l h (λ v k1.
        gives_then _ (raise_complete set low b (raised b) tt k1 (omega arith, refl)) (λ k2.
        gives_then _ (name_complete set low (raised b) c name k2 n) (λ k3.
        gives_then _ (arguments_complete plain c.level k3 c q args k3 i) (λ k4. gives_ok k4)))))))

    call_complete : (callee : Expr) (a q : Place) (args : Exprs) → low ≤ a.level → AreArguments set.rules inner (a.level + 1) a q args
        → Gives low a (suffix set readers (start_of begin) callee a) q (tree.the_expr 0 (over begin q) (tree.Call callee args))
    unfolding suffix call same
    call_complete callee a q args l h =
        let deep = deeper_there set inner a.level (arguments_bounded set inner bounded (a.level + 1) a q args h) in
        let no = λ (y : Symbol) (e : same s.LeftParen y ≡ false) (f : same s.LeftBrace y ≡ false) (g : same s.Text y ≡ false).
        arguments_symbol set inner (λ x. same x y ≡ false) e f g (a.level + 1) a q args h in
        gives_if_false _ (sees_by s.Dot a refl (no s.Dot refl refl refl))
        (gives_if_false _ (sees_by s.LeftBracket a refl (no s.LeftBracket refl refl refl))
        (gives_if_false _ (sees_by s.Colon a refl (no s.Colon refl refl refl))
        (gives_then _ (subst (λ z. Gives low a (arguments set readers z a) q args) (sym deep)
        (arguments_complete plain (a.level + 1) (omega arith) a q args l h)) (λ k. gives_ok k))))

    paren_complete : (a b q : Place) (e : Expr) → low ≤ begin.level → Takes set.rules s.LeftParen begin a → inner.exp a b e
        → Takes set.rules s.RightParen b q
        → Gives low begin (primary set readers begin) q (tree.the_expr 0 (over begin q) (tree.Paren e))
    unfolding primary paren
    paren_complete a b q e l h i n =
        gives_if_true _ (takes_sees set.rules begin a s.LeftParen h)
        (gives_expect set _ s.LeftParen begin a l h (λ t k1.
        gives_then _ (complete.exp a b e k1 i) (λ k2. gives_expect set _ s.RightParen b q k2 n (λ u k3. gives_ok k3))))

    named_complete : (q : Place) (name : List ℕ) → low ≤ begin.level → TakesName set.rules begin q name
        → Gives low begin (primary set readers begin) q (tree.the_expr 0 (over begin q) (tree.NameExpr name))
    unfolding primary name_expression same
    named_complete q name l n =
        gives_if_false _ (takes_not set.rules begin q s.Name s.LeftParen refl (name_token set.rules begin q name n))
        (gives_then _ (name_complete set low begin q name l n) (λ k. gives_ok k))

    named_shorter : (q : Place) (name : List ℕ) → TakesName set.rules begin q name → length q.ahead < length begin.ahead
    named_shorter q name n =
        let t = takes_taken set.rules begin q s.Name (name_token set.rules begin q name n) in
        omega arith

    paren_shorter : (a b q : Place) (e : Expr) → low ≤ begin.level → Takes set.rules s.LeftParen begin a → inner.exp a b e
        → Takes set.rules s.RightParen b q → length q.ahead < length begin.ahead
    paren_shorter a b q e l h i n =
        let t = takes_taken set.rules begin a s.LeftParen h in
        let k : low ≤ a.level = omega arith in
        let r : Reached low a b = (complete.exp a b e k i).1 in
        let u = takes_taken set.rules b q s.RightParen n in
        omega arith

    index_shorter : (a b q : Place) (name : List ℕ) → Takes set.rules s.Dot a b → TakesName set.rules (raised b) q name
        → length q.ahead < length a.ahead
    index_shorter a b q name h n =
        let t = takes_taken set.rules a b s.Dot h in
        let u = takes_taken set.rules (raised b) q s.Name (name_token set.rules (raised b) q name n) in
        omega arith

    at_shorter : (key : Expr) (a b c q : Place) → low ≤ a.level → Takes set.rules s.LeftBracket a b → inner.exp (raised b) c key
        → Takes set.rules s.RightBracket c q → length q.ahead < length a.ahead
    at_shorter key a b c q l h i n =
        let t = takes_taken set.rules a b s.LeftBracket h in
        let k : low ≤ b.level + 1 = omega arith in
        let r : Reached low (raised b) c = (complete.exp (raised b) c key k i).1 in
        let u = takes_taken set.rules c q s.RightBracket n in
        omega arith

    method_shorter : (a b c q : Place) (name : List ℕ) (args : Exprs) → low ≤ a.level → Takes set.rules s.Colon a b
        → TakesName set.rules (raised b) c name → AreArguments set.rules inner c.level c q args → length q.ahead < length a.ahead
    method_shorter a b c q name args l h n i =
        let t = takes_taken set.rules a b s.Colon h in
        let u = takes_taken set.rules (raised b) c s.Name (name_token set.rules (raised b) c name n) in
        let k : low ≤ c.level = omega arith in
        let r = arguments_shorter plain c.level k c q args i in
        omega arith

    mutual
      unfolding same

      chain : low ≤ begin.level → (q : Place) (e : Expr) → IsPrefix set.rules inner begin q e → PrefixRead begin q e
      chain l q (tree.the_expr id span kind) h =
          subst (λ z. PrefixRead begin q z) (sym (the_same id 0 span (over begin q) kind h.0 h.1)) (chain_form l q kind h.2)

      chain_form : low ≤ begin.level → (q : Place) (kind : ExprKind) → IsPrefixForm set.rules inner begin q kind
          → PrefixRead begin q (tree.the_expr 0 (over begin q) kind)
      chain_form l q (tree.NameExpr name) h = first_of _ q (named_complete q name l h) (named_shorter q name h)
      chain_form l q (tree.Paren e) h = first_of _ q (paren_complete h.0 h.1 q e l h.2 h.3 h.4) (paren_shorter h.0 h.1 q e l h.2 h.3 h.4)
      chain_form l q (tree.Index base name) h =
          let (a, b, h1, h2, h3) = h in
          let c = chain l a base h1 in
          extend base _ a q c (suffix_seen a s.Dot (takes_symbol set.rules a b s.Dot h2) refl)
          (index_complete base a b q name c.reached.level h2 h3)
          (index_shorter a b q name h2 h3)
      chain_form l q (tree.At base key) h =
          let (a, b, c, h1, h2, h3, h4) = h in
          let d = chain l a base h1 in
          extend base _ a q d (suffix_seen a s.LeftBracket (takes_symbol set.rules a b s.LeftBracket h2) refl)
          (at_complete base key a b c q d.reached.level h2 h3 h4)
          (at_shorter key a b c q d.reached.level h2 h3 h4)
      chain_form l q (tree.Call callee args) h =
          let (a, h1, h2) = h in
          let c = chain l a callee h1 in
          let m : low ≤ a.level = c.reached.level in
          extend callee _ a q c (suffix_seen a (symbol a) refl (arguments_symbol set inner (λ x. suffix_by x ≡ true) refl refl refl (a.level + 1) a q args h2))
          (call_complete callee a q args m h2)
          (arguments_shorter plain (a.level + 1) (omega arith) a q args h2)
      chain_form l q (tree.Method base name name_span args) h =
          let (a, b, c, h1, h2, h3, h4, h5) = h in
          let d = chain l a base h1 in
          subst (λ z. PrefixRead begin q (tree.the_expr 0 (over begin q) (tree.Method base name z args))) (sym h4)
          (extend base _ a q d (suffix_seen a s.Colon (takes_symbol set.rules a b s.Colon h2) refl)
          (method_complete base a b c q name args d.reached.level h2 h3 h5)
          (method_shorter a b c q name args d.reached.level h2 h3 h5))
      chain_form l q kind h = absurd h

  -- a prefix behind which no suffix stands
  pub prefix_complete : Bounded set → PlainPhrases inner
      → Complete low (λ p q e. IsPrefix set.rules inner p q e × (begins_suffix q ≡ false)) (prefix set readers)
  unfolding prefix
  prefix_complete bounded plain p q e l h =
      let c = chain bounded plain p l q e h.0 in
      let (first, a, g, k) = c.goes e q (loop_stop low set (λ x z. begins_suffix z) (suffix set readers (start_of p)) e q h.1 c.reached.level) in
      gives_then _ g (λ m. loop_done low set (λ x z. begins_suffix z) (suffix set readers (start_of p)) first e a q k)

  -- a prefix has a token
  pub prefix_shorter : Bounded set → PlainPhrases inner → (p q : Place) (e : Expr) → low ≤ p.level → IsPrefix set.rules inner p q e
      → length q.ahead < length p.ahead
  prefix_shorter bounded plain p q e l h = (chain bounded plain p l q e h).shorter
