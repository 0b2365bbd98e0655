-- A type that begins with a name before `:` or `...` ends behind that name.
use Rattle.std.proofs.Common.{◌≡◌, ℕ, zero, suc, true, false, true≢false, inl, inr, List, Some, None, refl, sym, ◌∙◌, subst}
use Rattle.luau_tree.specs.Tree.{TypeSyntax, TypeKind, TypeSyntaxes}
use Rattle.luau_tree.specs.Tree as tree
use Rattle.luau_grammar.specs.declared.symbol.Symbol.{Symbol}
use Rattle.luau_grammar.specs.declared.symbol.Symbol.TheVariants as s
use Rattle.luau_grammar.specs.Symbols.{same}
use Rattle.luau_grammar.specs.Places.{Place, Rules, Takes, TakesName, sees, sees_behind, symbol, symbol_behind, raised, at_level}
use Rattle.luau_grammar.specs.Phrases.{Phrases}
use Rattle.luau_grammar.specs.Types as grammar
use Rattle.luau_grammar.specs.Modules.{phrases}
use Rattle.luau_grammar.proofs.Primitives.{takes_sees, takes_behind, sees_symbol, sees_by, name_token, string_token}

-- a symbol that doesn't go on with a type behind a name
pub record EndsName (x : Symbol) : Type 0 where
  pub dot : same x s.Dot ≡ false
  pub less : same x s.Less ≡ false
  pub question : same x s.Question ≡ false
  pub pipe : same x s.Pipe ≡ false
  pub ampersand : same x s.Ampersand ≡ false
  pub paren : same x s.LeftParen ≡ false

-- what is seen doesn't depend on the level
same_seen : (x : Symbol) (level : ℕ) (p : Place) → sees x (at_level level p) ≡ sees x p
unfolding sees symbol
same_seen x level p = refl

same_seen_behind : (x : Symbol) (level : ℕ) (p : Place) → sees_behind x (at_level level p) ≡ sees_behind x p
unfolding sees_behind symbol_behind
same_seen_behind x level p = refl

module _ (rules : Rules) (inner : Phrases) (x : Symbol) (ends : EndsName x) where
  -- another token is taken than the one that is seen
  other : {A : Type 0} (y : Symbol) (p q : Place) → sees x p ≡ true → same x y ≡ false → Takes rules y p q → A
  other y p q e h n = absurd (true≢false (sym (takes_sees rules p q y n) ∙ sees_by y p (sees_symbol x p e) h))

  no_name : {A : Type 0} (y : Symbol) (p q : Place) → sees s.Name p ≡ true → same s.Name y ≡ false → Takes rules y p q → A
  no_name y p q e h n = absurd (true≢false (sym (takes_sees rules p q y n) ∙ sees_by y p (sees_symbol s.Name p e) h))

  no_sign : {A : Type 0} (y : Symbol) (p : Place) → sees s.Name p ≡ true → same s.Name y ≡ false → sees y p ≡ true → A
  no_sign y p e h n = absurd (true≢false (sym n ∙ sees_by y p (sees_symbol s.Name p e) h))

  behind_name : (p a : Place) (name : List ℕ) → sees_behind x p ≡ true → TakesName rules p a name → sees x a ≡ true
  behind_name p a name e n = sym (takes_behind rules p a s.Name x (name_token rules p a name n)) ∙ e

  arguments_end : (a q : Place) (args : TypeSyntaxes) → sees x a ≡ true → grammar.AreTypeArguments rules inner a q args → sees x q ≡ true
  arguments_end a q args e (inl n) = subst (λ z. sees x z ≡ true) (sym n.1) e
  arguments_end a q args e (inr (inl n)) = other s.Less a n.0 e ends.less n.1
  arguments_end a q args e (inr (inr n)) = other s.Less a n.0 e ends.less n.4

  form_ends : (kind : TypeKind) (p q : Place) → sees s.Name p ≡ true → sees_behind x p ≡ true → grammar.IsForm rules inner p q kind → sees x q ≡ true
  unfolding same
  form_ends tree.NilType p q h e n = no_name s.Nil p q h refl n
  form_ends (tree.BoolType true) p q h e n = no_name s.True p q h refl n
  form_ends (tree.BoolType false) p q h e n = no_name s.False p q h refl n
  form_ends (tree.StrType value) p q h e n = no_name s.Text p q h refl (string_token rules p q s.Text value n)
  form_ends (tree.Named None name args) p q h e n = arguments_end n.0 q args (behind_name p n.0 name e n.2) n.4
  form_ends (tree.Named (Some prefix) name args) p q h e n = other s.Dot n.0 n.1 (behind_name p n.0 prefix e n.4) ends.dot n.5
  form_ends (tree.Typeof of) p q h e n = other s.LeftParen n.0 n.1 (sym (takes_behind rules p n.0 s.Name x n.4) ∙ e) ends.paren n.5
  form_ends (tree.Array t) p q h e n = no_name s.LeftBrace p n.0 h refl n.2
  form_ends (tree.TableType all) p q h e (inl n) = no_name s.LeftBrace p n.0 h refl n.1
  form_ends (tree.TableType all) p q h e (inr n) = no_name s.LeftBrace p n.0 h refl n.4
  form_ends (tree.Func gs params r) p q h e n = no_sign s.Less p h refl n.4
  form_ends _ p q h e n = absurd n

  formed_ends : (t : TypeSyntax) (p q : Place) → sees s.Name p ≡ true → sees_behind x p ≡ true → grammar.IsFormed rules inner p q t → sees x q ≡ true
  formed_ends (tree.the_type span kind) p q h e n = form_ends kind p q h e n.1

  basic_ends : (t : TypeSyntax) (p q : Place) → sees s.Name p ≡ true → sees_behind x p ≡ true → grammar.IsBasic rules inner None p q t → sees x q ≡ true
  unfolding same
  basic_ends t p q h e (inl n) = no_sign s.LeftParen p h refl n.0
  basic_ends t p q h e (inr n) = formed_ends t p q h e n.1

  marks_end : (start level marks : ℕ) (p q : Place) (t u : TypeSyntax) → sees x p ≡ true → grammar.AreMarks rules inner start level marks p q t u → sees x q ≡ true
  marks_end start level zero p q t u e n = subst (λ z. sees x z ≡ true) (sym n.1) (same_seen x level p ∙ e)
  marks_end start level (suc marks) p q t u e n = other s.Question p n.0 e ends.question n.1

  joined_end : (start : ℕ) (p q : Place) (first t : TypeSyntax) → sees x p ≡ true → grammar.IsJoined rules inner start p q first t → sees x q ≡ true
  joined_end start p q first t e (inl n) = absurd (true≢false (sym n.0 ∙ sees_by s.Pipe p (sees_symbol x p e) ends.pipe))
  joined_end start p q first t e (inr (inl n)) = absurd (true≢false (sym n.1 ∙ sees_by s.Ampersand p (sees_symbol x p e) ends.ampersand))
  joined_end start p q first t e (inr (inr n)) = subst (λ z. sees x z ≡ true) (sym n.2) e

  option_ends : (p q : Place) (t : TypeSyntax) → sees s.Name p ≡ true → sees_behind x p ≡ true → grammar.IsOption rules inner None p q t → sees x q ≡ true
  option_ends p q t h e n = marks_end _ n.0.level n.1 n.0 q n.2 t (basic_ends n.2 p n.0 h e n.3) n.4

  bar_ends : (p a b : Place) (t : TypeSyntax) → sees s.Name p ≡ true → sees_behind x p ≡ true → grammar.IsBar rules inner None p a → grammar.IsOption rules inner None a b t → sees x b ≡ true
  unfolding same
  bar_ends p a b t h e (inl (inl n)) m = no_name s.Pipe p a h refl n
  bar_ends p a b t h e (inl (inr n)) m = no_name s.Ampersand p a h refl n
  bar_ends p a b t h e (inr n) m = option_ends p b t h e (subst (λ z. grammar.IsOption rules inner None z b t) n.2 m)

  pub type_ends : (p q : Place) (t : TypeSyntax) → sees s.Name p ≡ true → sees_behind x p ≡ true → grammar.IsType rules inner None p q t → sees x q ≡ true
  type_ends p q t h e n = joined_end _ n.1 q n.2 t (bar_ends p n.0 n.1 n.2 h e n.3 n.4) n.5

pub phrase_ends : (rules : Rules) (x : Symbol) → EndsName x → (deep : ℕ) (p q : Place) (t : TypeSyntax) → sees s.Name p ≡ true → sees_behind x p ≡ true → (phrases rules deep).typ None p q t → sees x q ≡ true
phrase_ends rules x ends zero p q t h e n = absurd n
phrase_ends rules x ends (suc deep) p q t h e n =
    let inside = type_ends rules (phrases rules deep) x ends (raised p) n.0 t (same_seen s.Name _ p ∙ h) (same_seen_behind x _ p ∙ e) n.1 in
    subst (λ z. sees x z ≡ true) (sym n.2) (same_seen x p.level n.0 ∙ inside)

pub colon_ends : EndsName s.Colon
unfolding same
colon_ends = record { dot = refl; less = refl; question = refl; pipe = refl; ampersand = refl; paren = refl }

pub dots_end : EndsName s.Dots
unfolding same
dots_end = record { dot = refl; less = refl; question = refl; pipe = refl; ampersand = refl; paren = refl }
