-- Written types by the grammar: the generics of the bodies in them hold no nodes.
use Rattle.std.proofs.Common.{◌≡◌, ℕ, zero, suc, Bool, true, false, List, [], ◌∷◌, inl, inr, refl, sym, subst, ap₂, ◌++◌}
use Rattle.std.specs.Prelude.{Option, Some, None}
use Rattle.luau_tree.specs.Tree.{Block, Expr, TypeSyntax, TypeSyntaxes, TypeKind, MaybeType, Gen, Gens, Prop, Props, PropKey}
use Rattle.luau_tree.specs.Tree as tree
use Rattle.luau_tree.specs.View.{types, gens, props}
use Rattle.luau_tree.specs.Nodes.{nodes_of_block, nodes_of_expr, nodes_of_type, nodes_of_types, nodes_of_maybe_type, nodes_of_type_kind, nodes_of_gen, nodes_of_gens, nodes_of_prop, nodes_of_props, nodes_of_prop_key}
use Rattle.luau_grammar.specs.declared.symbol.Symbol.{Symbol}
use Rattle.luau_grammar.specs.declared.symbol.Symbol.TheVariants as s
use Rattle.luau_grammar.specs.Places.{Place, Rules, raised}
use Rattle.luau_grammar.specs.Phrases.{Phrases, Listed, one_of, if_untailed, sole, in_parens}
use Rattle.luau_grammar.specs.Lists.{AreSeparated}
use Rattle.luau_grammar.specs.Types as grammar
use Rattle.luau_grammar.specs.Types.{pack_by, pack_of}
use Rattle.module_orders.proofs.Plain.{Plain, nothing, both, front, separated, in_braces}

-- the types of a list in parentheses that stands before a type
abbrev pub Front : Option Listed → Type 0
Front None = Unit {0}
Front (Some l) = Plain (nodes_of_types (types l.types))

-- so it is in the phrases that stand in a phrase
pub record Held (inner : Phrases) : Type 0 where
  pub exp : (p q : Place) (e : Expr) → inner.exp p q e → Plain (nodes_of_expr e)
  pub typ : (begun : Option Listed) (p q : Place) (t : TypeSyntax) → Front begun → inner.typ begun p q t → Plain (nodes_of_type t)
  pub block : (p q : Place) (b : Block) → inner.block p q b → Plain (nodes_of_block b)

more_types : (x : TypeSyntax) (xs : List TypeSyntax) → Plain (nodes_of_type x) → Plain (nodes_of_types (types xs)) → Plain (nodes_of_types (types (x ∷ xs)))
more_types x xs a b = both a b

more_gens : (x : Gen) (xs : List Gen) → Plain (nodes_of_gen x) → Plain (nodes_of_gens (gens xs)) → Plain (nodes_of_gens (gens (x ∷ xs)))
more_gens x xs a b = both a b

more_props : (x : Prop) (xs : List Prop) → Plain (nodes_of_prop x) → Plain (nodes_of_props (props xs)) → Plain (nodes_of_props (props (x ∷ xs)))
more_props x xs a b = both a b

-- one of the types of a list
one_held : (us : List TypeSyntax) (t : TypeSyntax) → one_of us ≡ Some t → Plain (nodes_of_types (types us)) → Plain (nodes_of_type t)
one_held [] t e f = absurd (cc (e))
one_held (u ∷ []) t e f = let same : u ≡ t = cc (e) in subst (λ z. Plain (nodes_of_type z)) same (front (nodes_of_type u) [] f)
one_held (u ∷ v ∷ us) t e f = absurd (cc (e))

untailed_is : (b : Bool) (o : Option TypeSyntax) (t : TypeSyntax) → if_untailed b o ≡ Some t → o ≡ Some t
untailed_is true o t e = absurd (cc (e))
untailed_is false o t e = e

sole_held : (l : Listed) (t : TypeSyntax) → sole l ≡ Some t → Front (Some l) → Plain (nodes_of_type t)
sole_held l t e f = one_held l.types t (untailed_is l.tailed (one_of l.types) t e) f

parens_held : (l : Listed) (t : TypeSyntax) → in_parens l ≡ Some t → Front (Some l) → Plain (nodes_of_type t)
parens_held l t e f = sole_held l t (untailed_is l.named (sole l) t e) f

pack_held : (l : Listed) → Front (Some l) → Plain (nodes_of_type (pack_of l))
pack_held l f = by_case (sole l) refl
  where
    by_case : (o : Option TypeSyntax) → sole l ≡ o → Plain (nodes_of_type (pack_by l o))
    by_case (Some t) e = sole_held l t e f
    by_case None e = f

module _ (rules : Rules) (inner : Phrases) where
  -- a generic without a default
  bare_generic : (p q : Place) (g : Gen) → grammar.IsGeneric rules inner false p q g → nodes_of_gen g ≡ []
  bare_generic p q (tree.the_gen n span pack tree.no_type) h = refl
  bare_generic p q (tree.the_gen n span pack (tree.a_type t)) h = absurd (cc (h.5.0))

  bare_list : (gs : List Gen) (p q : Place) (g : Gen) → AreSeparated rules (grammar.IsGeneric rules inner false) p q g gs
      → nodes_of_gens (gens (g ∷ gs)) ≡ []
  bare_list [] p q g h = ap₂ (λ xs ys. xs ++ ys) (bare_generic p q g h.0) refl
  bare_list (y ∷ ys) p q g h = ap₂ (λ xs ys. xs ++ ys) (bare_generic p h.0 g h.2) (bare_list ys h.1 q y h.4)

  -- the generics of a body
  pub bare : (p q : Place) (all : Gens) → grammar.AreGenerics rules inner false p q all → nodes_of_gens all ≡ []
  bare p q all (inl h) = subst (λ z. nodes_of_gens z ≡ []) (sym h.2) refl
  bare p q all (inr h) = subst (λ z. nodes_of_gens z ≡ []) (sym h.7) (bare_list h.3 h.0 h.1 h.2 h.5)

module _ (rules : Rules) (inner : Phrases) (held : Held inner) where
  typ : (p q : Place) (t : TypeSyntax) → inner.typ None p q t → Plain (nodes_of_type t)
  typ p q t h = held.typ None p q t tt h

  tail : (p q : Place) (t : TypeSyntax) → grammar.IsTail rules inner p q t → Plain (nodes_of_type t)
  tail p q (tree.the_type span (tree.Variadic t)) h = typ h.1.0 q t h.1.2
  tail p q (tree.the_type span (tree.GenericPack n)) h = nothing
  tail p q (tree.the_type span kind) h = absurd h.1

  member : (p q : Place) (named : Bool) (t : TypeSyntax) → grammar.IsMember rules inner p q named t → Plain (nodes_of_type t)
  member p q true t h = typ h.1 q t h.5
  member p q false t h = typ p q t h.1

  members : (us : List TypeSyntax) (p q : Place) (t : TypeSyntax) (named tailed : Bool) → grammar.AreMembers rules inner p q t us named tailed
      → Plain (nodes_of_types (types (t ∷ us)))
  members [] p q t named true h = both (tail p q t h.2) nothing
  members [] p q t named false h = both (member p q named t h.1) nothing
  members (u ∷ us) p q t named tailed h = both (member p h.0 h.2 t h.5) (members us h.1 q u h.3 tailed h.7)

  listed : (p q : Place) (us : List TypeSyntax) (named tailed : Bool) → grammar.AreListed rules inner p q us named tailed
      → Plain (nodes_of_types (types us))
  listed p q [] named tailed h = nothing
  listed p q (t ∷ us) named tailed h = members us p q t named tailed h.1

  list : (p q : Place) (l : Listed) → grammar.IsListed rules inner p q l → Front (Some l)
  list p q l h = listed h.first h.last l.types l.named l.tailed h.members

  pub result : (p q : Place) (t : TypeSyntax) → grammar.IsResult rules inner p q t → Plain (nodes_of_type t)
  result p q t (inl (e, l, a, i, inl h)) = held.typ (Some l) a q t (list p a l i) h.1
  result p q t (inl (e, l, a, i, inr h)) = subst (λ z. Plain (nodes_of_type z)) (sym h.2) (pack_held l (list p a l i))
  result p q t (inr (e, inl h)) = tail p q t h.1
  result p q t (inr (e, inr h)) = typ p q t h.1

  arguments : (p q : Place) (args : TypeSyntaxes) → grammar.AreTypeArguments rules inner p q args → Plain (nodes_of_types args)
  arguments p q args (inl h) = subst (λ z. Plain (nodes_of_types z)) (sym h.2) nothing
  arguments p q args (inr (inl h)) = subst (λ z. Plain (nodes_of_types z)) (sym h.4) nothing
  arguments p q args (inr (inr h)) =
      subst (λ z. Plain (nodes_of_types z)) (sym h.8)
      (separated rules (λ xs. nodes_of_types (types xs)) nodes_of_type nothing more_types (grammar.IsResult rules inner) result h.3 h.0 h.1 h.2 h.6)

  default : (may : Bool) (p q : Place) (t : MaybeType) → grammar.IsDefault rules inner may p q t → Plain (nodes_of_maybe_type t)
  default may p q tree.no_type h = nothing
  default may p q (tree.a_type t) h = result h.1 q t h.3

  generic : (may : Bool) (p q : Place) (g : Gen) → grammar.IsGeneric rules inner may p q g → Plain (nodes_of_gen g)
  generic may p q (tree.the_gen n span pack written) h = default may h.1 q written h.5

  pub generics : (may : Bool) (p q : Place) (all : Gens) → grammar.AreGenerics rules inner may p q all → Plain (nodes_of_gens all)
  generics may p q all (inl h) = subst (λ z. Plain (nodes_of_gens z)) (sym h.2) nothing
  generics may p q all (inr h) =
      subst (λ z. Plain (nodes_of_gens z)) (sym h.7)
      (separated rules (λ xs. nodes_of_gens (gens xs)) nodes_of_gen nothing more_gens (grammar.IsGeneric rules inner may) (generic may) h.3 h.0 h.1 h.2 h.5)

  key : (p q : Place) (k : PropKey) → grammar.IsKey rules inner p q k → Plain (nodes_of_prop_key k)
  key p q (tree.NameKey n) h = nothing
  key p q (tree.Indexer t) h = typ h.0 h.1 t h.4

  property : (p q : Place) (x : Prop) → grammar.IsProperty rules inner p q x → Plain (nodes_of_prop x)
  property p q (tree.the_prop a k t) h = both (key h.0 h.1 k h.3) (typ h.1 q t h.4)

  table : (p q : Place) (all : Props) → grammar.IsTable rules inner p q all → Plain (nodes_of_props all)
  table p q all (inl h) = subst (λ z. Plain (nodes_of_props z)) (sym h.4) nothing
  table p q all (inr h) =
      subst (λ z. Plain (nodes_of_props z)) (sym h.9)
      (in_braces rules (λ xs. nodes_of_props (props xs)) nodes_of_prop nothing more_props (grammar.IsProperty rules inner) property h.3 h.0 h.1 h.2 h.7)

  form : (p q : Place) (kind : TypeKind) → grammar.IsForm rules inner p q kind → Plain (nodes_of_type_kind kind)
  form p q tree.NilType h = nothing
  form p q (tree.BoolType truth) h = nothing
  form p q (tree.StrType value) h = nothing
  form p q (tree.Named None n args) h = arguments h.0 q args h.4
  form p q (tree.Named (Some prefix) n args) h = arguments h.2 q args h.7
  form p q (tree.Typeof e) h = held.exp h.1 h.2 e h.6
  form p q (tree.Array t) h = typ h.0 h.1 t h.5
  form p q (tree.TableType all) h = table p q all h
  form p q (tree.Func all params answer) h =
      both (both (generics false p h.0 all h.5) (subst (λ z. Plain (nodes_of_types z)) (sym h.7) (list h.0 h.1 h.3 h.6))) (result h.2 q answer h.9)
  form p q _ h = absurd h

  formed : (p q : Place) (t : TypeSyntax) → grammar.IsFormed rules inner p q t → Plain (nodes_of_type t)
  formed p q (tree.the_type span kind) h = form p q kind h.1

  listed_type : (l : Listed) (p q : Place) (t : TypeSyntax) → Front (Some l) → grammar.IsListedType rules inner l p q t → Plain (nodes_of_type t)
  listed_type l p q t f (inl h) = subst (λ z. Plain (nodes_of_type z)) (sym h.4) (both (both nothing f) (result h.0 q h.1 h.3))
  listed_type l p q t f (inr h) = parens_held l t h.1 f

  basic : (begun : Option Listed) (p q : Place) (t : TypeSyntax) → Front begun → grammar.IsBasic rules inner begun p q t → Plain (nodes_of_type t)
  basic (Some l) p q t f h = listed_type l p q t f h
  basic None p q t f (inl (e, l, a, i, h)) = listed_type l a q t (list p a l i) h
  basic None p q t f (inr h) = formed p q t h.1

  marks : (more : ℕ) (start level : ℕ) (p q : Place) (t u : TypeSyntax) → Plain (nodes_of_type t)
      → grammar.AreMarks rules inner start level more p q t u → Plain (nodes_of_type u)
  marks zero start level p q t u f h = subst (λ z. Plain (nodes_of_type z)) (sym h.2) f
  marks (suc more) start level p q t u f h = marks more start level (raised h.0) q _ u f h.2

  option : (begun : Option Listed) (p q : Place) (t : TypeSyntax) → Front begun → grammar.IsOption rules inner begun p q t → Plain (nodes_of_type t)
  option begun p q t f h = marks h.1 _ h.0.level h.0 q h.2 t (basic begun p h.0 h.2 f h.3) h.4

  options : (sign : Symbol) (us : List TypeSyntax) (p q : Place) → grammar.AreOptions rules inner sign p q us → Plain (nodes_of_types (types us))
  options sign [] p q h = nothing
  options sign (t ∷ us) p q h = both (option None h.0 h.1 t tt h.3) (options sign us h.1 q h.4)

  joined : (start : ℕ) (p q : Place) (first t : TypeSyntax) → Plain (nodes_of_type first) → grammar.IsJoined rules inner start p q first t
      → Plain (nodes_of_type t)
  joined start p q first t f (inl h) = subst (λ z. Plain (nodes_of_type z)) (sym h.3) (both f (options s.Pipe h.1 p q h.2))
  joined start p q first t f (inr (inl h)) = subst (λ z. Plain (nodes_of_type z)) (sym h.4) (both f (options s.Ampersand h.2 p q h.3))
  joined start p q first t f (inr (inr h)) = subst (λ z. Plain (nodes_of_type z)) (sym h.3) f

  pub whole : (begun : Option Listed) (p q : Place) (t : TypeSyntax) → Front begun → grammar.IsType rules inner begun p q t → Plain (nodes_of_type t)
  whole begun p q t f h = joined _ h.1 q h.2 t (option begun h.0 h.1 h.2 f h.4) h.5
