-- A type begins with one of the symbols that begin one.
use Rattle.std.proofs.Common.{◌≡◌, ℕ, zero, suc, true, false, inl, inr, Some, None, refl, sym, ◌∙◌, ap, subst}
use Rattle.luau_tree.specs.Tree.{TypeSyntax, TypeKind}
use Rattle.luau_tree.specs.Tree as tree
use Rattle.luau_grammar.specs.declared.symbol.Symbol.{Symbol}
use Rattle.luau_grammar.specs.declared.symbol.Symbol.TheVariants as s
use Rattle.luau_grammar.specs.Places.{Place, Rules, Takes, sees, symbol, raised}
use Rattle.luau_grammar.specs.Phrases.{Phrases}
use Rattle.luau_grammar.specs.Types as grammar
use Rattle.luau_grammar.specs.Modules.{phrases}
use Rattle.luau_grammar.specs.ReadPhrases.{begins_type}
use Rattle.luau_grammar.proofs.Primitives.{takes_symbol, sees_symbol, name_token, string_token}

module _ (rules : Rules) (inner : Phrases) where
  Begins : Place → Type 0
  Begins p = begins_type (symbol p) ≡ true

  begun : (x : Symbol) (p q : Place) → begins_type x ≡ true → Takes rules x p q → Begins p
  unfolding Begins
  begun x p q h n = ap begins_type (takes_symbol rules p q x n) ∙ h

  seen : (x : Symbol) (p : Place) → begins_type x ≡ true → sees x p ≡ true → Begins p
  unfolding Begins
  seen x p h e = ap begins_type (sees_symbol x p e) ∙ h

  table_begins : (p q : Place) (all : tree.Props) → grammar.IsTable rules inner p q all → Begins p
  table_begins p q all (inl n) = begun s.LeftBrace p n.0 refl n.1
  table_begins p q all (inr n) = begun s.LeftBrace p n.0 refl n.4

  form_begins : (kind : TypeKind) (p q : Place) → grammar.IsForm rules inner p q kind → Begins p
  form_begins tree.NilType p q n = begun s.Nil p q refl n
  form_begins (tree.BoolType true) p q n = begun s.True p q refl n
  form_begins (tree.BoolType false) p q n = begun s.False p q refl n
  form_begins (tree.StrType value) p q n = begun s.Text p q refl (string_token rules p q s.Text value n)
  form_begins (tree.Named None name args) p q n = begun s.Name p n.0 refl (name_token rules p n.0 name n.2)
  form_begins (tree.Named (Some prefix) name args) p q n = begun s.Name p n.0 refl (name_token rules p n.0 prefix n.4)
  form_begins (tree.Typeof e) p q n = begun s.Name p n.0 refl n.4
  form_begins (tree.Array t) p q n = begun s.LeftBrace p n.0 refl n.2
  form_begins (tree.TableType all) p q n = table_begins p q all n
  form_begins (tree.Func gs params r) p q n = seen s.Less p refl n.4
  form_begins _ p q n = absurd n

  formed_begins : (t : TypeSyntax) (p q : Place) → grammar.IsFormed rules inner p q t → Begins p
  formed_begins (tree.the_type span kind) p q n = form_begins kind p q n.1

  basic_begins : (t : TypeSyntax) (p q : Place) → grammar.IsBasic rules inner None p q t → Begins p
  basic_begins t p q (inl n) = seen s.LeftParen p refl n.0
  basic_begins t p q (inr n) = formed_begins t p q n.1

  bar_begins : (p a : Place) → grammar.IsBar rules inner None p a → (Begins a → Begins p)
  bar_begins p a (inl (inl n)) b = begun s.Pipe p a refl n
  bar_begins p a (inl (inr n)) b = begun s.Ampersand p a refl n
  bar_begins p a (inr n) b = subst Begins n.2 b

  pub type_begins : (p q : Place) (t : TypeSyntax) → grammar.IsType rules inner None p q t → begins_type (symbol p) ≡ true
  unfolding Begins
  type_begins p q t n = bar_begins p n.0 n.3 (basic_begins n.4.2 n.0 n.4.0 n.4.3)

-- the symbol that comes next does not depend on the level
same_symbol : (p : Place) → symbol (raised p) ≡ symbol p
unfolding symbol
same_symbol p = refl

pub phrase_begins : (rules : Rules) (deep : ℕ) (p q : Place) (t : TypeSyntax) → (phrases rules deep).typ None p q t → begins_type (symbol p) ≡ true
phrase_begins rules zero p q t n = absurd n
phrase_begins rules (suc deep) p q t n = ap begins_type (sym (same_symbol p)) ∙ type_begins rules (phrases rules deep) (raised p) n.0 t n.1
