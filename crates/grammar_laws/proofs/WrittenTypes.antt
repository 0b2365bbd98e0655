-- Written types: pieces with their outlines.
use Rattle.std.proofs.Common.{◌≡◌, ℕ, zero, suc, Bool, true, false, List, [], ◌∷◌, inl, inr, refl, sym, ap, ◌∙◌, subst}
use Rattle.std.specs.Prelude.{Option, Some, None}
use Rattle.luau_tree.specs.declared.names.Access.{Access}
use Rattle.luau_tree.specs.declared.names.Access.TheVariants.{Both, Read, Write}
use Rattle.luau_tree.specs.Tree.{TypeSyntax, TypeSyntaxes, TypeKind, MaybeType, Gen, Gens, Prop, Props, PropKey}
use Rattle.luau_tree.specs.Tree as tree
use Rattle.luau_tree.specs.View.{types, gens, props}
use Rattle.luau_lex.specs.Tokens.{Tok}
use Rattle.luau_grammar.specs.declared.symbol.Symbol.{Symbol}
use Rattle.luau_grammar.specs.declared.symbol.Symbol.TheVariants as s
use Rattle.luau_grammar.specs.Places as place
use Rattle.luau_grammar.specs.Places.{Place, Rules, first_start, start_of, raised, at_level}
use Rattle.luau_grammar.specs.Phrases.{Phrases, Listed, one_of, if_untailed, sole, in_parens}
use Rattle.luau_grammar.specs.Types as grammar
use Rattle.luau_grammar.specs.Types.{begin_of, pack_by, pack_of}
use Rattle.grammar_laws.specs.Outlines.{Outline, no_spans, and_then, mark, of_expr, of_type, of_types, of_type_kind, of_maybe_type, of_gen, of_gens, of_prop, of_props, of_key}
use Rattle.grammar_laws.proofs.Pieces as piece
use Rattle.grammar_laws.proofs.Pieces.{Piece, Maybe, Lists, and_nothing}
use Rattle.grammar_laws.proofs.Front.{Front, Held}

-- the outlines of lists
type_lists : Lists of_type (λ xs. of_types (types xs))
type_lists = record { none = refl; more = λ x xs. refl }

gen_lists : Lists of_gen (λ xs. of_gens (gens xs))
gen_lists = record { none = refl; more = λ x xs. refl }

prop_lists : Lists of_prop (λ xs. of_props (props xs))
prop_lists = record { none = refl; more = λ x xs. refl }

-- the one type of a list without a tail is all of it
one_is : (us : List TypeSyntax) (t : TypeSyntax) → one_of us ≡ Some t → us ≡ t ∷ []
one_is [] t e = absurd (cc (e))
one_is (u ∷ []) t e = cc (e)
one_is (u ∷ v ∷ us) t e = absurd (cc (e))

untailed_is : (b : Bool) (o : Option TypeSyntax) (t : TypeSyntax) → if_untailed b o ≡ Some t → o ≡ Some t
untailed_is true o t e = absurd (cc (e))
untailed_is false o t e = e

sole_is : (l : Listed) (t : TypeSyntax) → sole l ≡ Some t → l.types ≡ t ∷ []
sole_is l t e = one_is l.types t (untailed_is l.tailed (one_of l.types) t e)

parens_is : (l : Listed) (t : TypeSyntax) → in_parens l ≡ Some t → l.types ≡ t ∷ []
parens_is l t e = sole_is l t (untailed_is l.named (sole l) t e)

module _ (ts : List Tok) (rules : Rules) (inner : Phrases) (held : Held ts inner) where
  token : (x : Symbol) (p q : Place) → place.Takes rules x p q → Piece ts p q no_spans
  token x p q h = piece.token ts rules x p q h

  name : (p q : Place) (n : List ℕ) → place.TakesName rules p q n → Piece ts p q no_spans
  name p q n h = piece.name ts rules p q n h

  typ : (p q : Place) (t : TypeSyntax) → inner.typ None p q t → Piece ts p q (of_type t)
  typ p q t h = held.typ None p p q t (refl, refl) h

  -- the one type of a list
  only : (r p : Place) (l : Listed) (t : TypeSyntax) → l.types ≡ t ∷ [] → Piece ts r p (of_types (types l.types)) → Piece ts r p (of_type t)
  only r p l t e f =
      subst (Piece ts r p) (and_nothing (of_type t)) (subst (λ z. Piece ts r p (of_types (types z))) e f)

  pack_piece : (r p : Place) (l : Listed) → Front ts (Some l) r p → Piece ts r p (of_type (pack_of l))
  pack_piece r p l f = pack_case (sole l) refl
    where
      pack_case : (o : Option TypeSyntax) → sole l ≡ o → Piece ts r p (of_type (pack_by l o))
      pack_case (Some t) e = only r p l t (sole_is l t e) f.0
      pack_case None e =
          piece.node_from ts r p l.start (record { start = l.start; end = l.end }) (of_types (types l.types)) f.1
          (ap (λ z. record { start = l.start; end = z }) f.2) f.0

  pub tail : (p q : Place) (t : TypeSyntax) → grammar.IsTail rules inner p q t → Piece ts p q (of_type t)
  tail p q (tree.the_type span (tree.Variadic t)) h =
      piece.node_over ts p q span (of_type t) h.0
      (piece.both ts p h.1.0 q no_spans (of_type t) (token s.Dots p h.1.0 h.1.1) (typ h.1.0 q t h.1.2))
  tail p q (tree.the_type span (tree.GenericPack n)) h =
      piece.node_over ts p q span no_spans h.0
      (piece.both ts p h.1.0 q no_spans no_spans (name p h.1.0 n h.1.1) (token s.Dots h.1.0 q h.1.2))
  tail p q (tree.the_type span kind) h = absurd h.1

  member : (p q : Place) (named : Bool) (t : TypeSyntax) → grammar.IsMember rules inner p q named t → Piece ts p q (of_type t)
  member p q true t h =
      piece.both ts p h.1 q no_spans (of_type t) (piece.both ts p h.0 h.1 no_spans no_spans (name p h.0 h.2 h.3) (token s.Colon h.0 h.1 h.4))
      (typ h.1 q t h.5)
  member p q false t h = typ p q t h.1

  members : (us : List TypeSyntax) (p q : Place) (t : TypeSyntax) (named tailed : Bool) → grammar.AreMembers rules inner p q t us named tailed
      → Piece ts p q (of_types (types (t ∷ us)))
  members [] p q t named true h = subst (Piece ts p q) (sym (and_nothing (of_type t))) (tail p q t h.2)
  members [] p q t named false h = subst (Piece ts p q) (sym (and_nothing (of_type t))) (member p q named t h.1)
  members (u ∷ us) p q t named tailed h =
      piece.both ts p h.1 q (of_type t) (of_types (types (u ∷ us)))
      (piece.closed ts p h.0 h.1 (of_type t) (member p h.0 h.2 t h.5) (token s.Comma h.0 h.1 h.6))
      (members us h.1 q u h.3 tailed h.7)

  listed : (p q : Place) (us : List TypeSyntax) (named tailed : Bool) → grammar.AreListed rules inner p q us named tailed
      → Maybe ts p q (of_types (types us))
  listed p q [] named tailed h = piece.nothing ts p q h.1
  listed p q (t ∷ us) named tailed h = piece.maybe ts p q (of_types (types (t ∷ us))) (members us p q t named tailed h.1)

  pub list : (p q : Place) (l : Listed) → grammar.IsListed rules inner p q l → Front ts (Some l) p q
  list p q l h = (
    piece.enclosed ts p h.first h.last q (of_types (types l.types)) (token s.LeftParen p h.first h.opens)
        (listed h.first h.last l.types l.named l.tailed h.members) (token s.RightParen h.last q h.closes),
    h.starts ∙ piece.start_is p,
    h.ends,
  )

  pub result : (p q : Place) (t : TypeSyntax) → grammar.IsResult rules inner p q t → Piece ts p q (of_type t)
  result p q t (inl (e, l, a, i, inl h)) = held.typ (Some l) p a q t (list p a l i) h.1
  result p q t (inl (e, l, a, i, inr h)) =
      subst (λ z. Piece ts p q (of_type z)) (sym h.2)
      (subst (λ z. Piece ts p z (of_type (pack_of l))) (sym h.1) (pack_piece p a l (list p a l i)))
  result p q t (inr (e, inl h)) = tail p q t h.1
  result p q t (inr (e, inr h)) = typ p q t h.1

  arguments : (p q : Place) (args : TypeSyntaxes) → grammar.AreTypeArguments rules inner p q args → Maybe ts p q (of_types args)
  arguments p q args (inl h) = subst (λ z. Maybe ts p q (of_types z)) (sym h.2) (piece.nothing ts p q h.1)
  arguments p q args (inr (inl h)) =
      subst (λ z. Maybe ts p q (of_types z)) (sym h.4)
      (piece.maybe ts p q no_spans (piece.both ts p h.0 q no_spans no_spans (token s.Less p h.0 h.1) (token s.Greater h.0 q h.3)))
  arguments p q args (inr (inr h)) =
      let all = of_types (types (h.2 ∷ h.3)) in
      subst (λ z. Maybe ts p q (of_types z)) (sym h.8)
      (piece.maybe ts p q all (piece.both ts p h.0 q no_spans all (token s.Less p h.0 h.4)
      (piece.closed ts h.0 h.1 q all
      (piece.separated ts rules of_type (λ xs. of_types (types xs)) type_lists (grammar.IsResult rules inner) result h.3 h.0 h.1 h.2 h.6)
      (token s.Greater h.1 q h.7))))

  pack_mark : (p q : Place) (b : Bool) → grammar.IsPackMark rules inner p q b → Maybe ts p q no_spans
  pack_mark p q true h = piece.maybe ts p q no_spans (token s.Dots p q h)
  pack_mark p q false h = piece.nothing ts p q h.1

  default : (may : Bool) (p q : Place) (t : MaybeType) → grammar.IsDefault rules inner may p q t → Maybe ts p q (of_maybe_type t)
  default may p q tree.no_type h = piece.nothing ts p q h.1
  default may p q (tree.a_type t) h =
      piece.maybe ts p q (of_type t) (piece.both ts p h.1 q no_spans (of_type t) (token s.Assign p h.1 h.2) (result h.1 q t h.3))

  generic : (may : Bool) (p q : Place) (g : Gen) → grammar.IsGeneric rules inner may p q g → Piece ts p q (of_gen g)
  generic may p q (tree.the_gen n span pack written) h =
      piece.then_maybe ts p h.0 q (mark span) (of_maybe_type written) (piece.node_over ts p h.0 span no_spans h.3 (name p h.0 n h.2))
      (piece.maybe_maybe ts h.0 h.1 q no_spans (of_maybe_type written) (pack_mark h.0 h.1 pack h.4) (default may h.1 q written h.5))

  pub generics : (may : Bool) (p q : Place) (all : Gens) → grammar.AreGenerics rules inner may p q all → Maybe ts p q (of_gens all)
  generics may p q all (inl h) = subst (λ z. Maybe ts p q (of_gens z)) (sym h.2) (piece.nothing ts p q h.1)
  generics may p q all (inr h) =
      let list = of_gens (gens (h.2 ∷ h.3)) in
      subst (λ z. Maybe ts p q (of_gens z)) (sym h.7)
      (piece.maybe ts p q list (piece.both ts p h.0 q no_spans list (token s.Less p h.0 h.4)
      (piece.closed ts h.0 h.1 q list
      (piece.separated ts rules of_gen (λ xs. of_gens (gens xs)) gen_lists (grammar.IsGeneric rules inner may) (generic may) h.3 h.0 h.1 h.2 h.5)
      (token s.Greater h.1 q h.6))))

  access : (p q : Place) (a : Access) → grammar.IsAccess rules inner p q a → Maybe ts p q no_spans
  access p q Both h = piece.nothing ts p q h.2
  access p q Read h = piece.maybe ts p q no_spans (name p q _ h.1)
  access p q Write h = piece.maybe ts p q no_spans (name p q _ h.1)

  key : (p q : Place) (k : PropKey) → grammar.IsKey rules inner p q k → Piece ts p q (of_key k)
  key p q (tree.NameKey n) h = piece.both ts p h.0 q no_spans no_spans (name p h.0 n h.1) (token s.Colon h.0 q h.2)
  key p q (tree.Indexer t) h =
      piece.both ts p h.0 q no_spans (of_type t) (token s.LeftBracket p h.0 h.3)
      (piece.closed ts h.0 h.2 q (of_type t) (piece.closed ts h.0 h.1 h.2 (of_type t) (typ h.0 h.1 t h.4) (token s.RightBracket h.1 h.2 h.5))
      (token s.Colon h.2 q h.6))

  property : (p q : Place) (x : Prop) → grammar.IsProperty rules inner p q x → Piece ts p q (of_prop x)
  property p q (tree.the_prop a k t) h =
      piece.maybe_then ts p h.0 q no_spans (and_then (of_key k) (of_type t)) (access p h.0 a h.2)
      (piece.both ts h.0 h.1 q (of_key k) (of_type t) (key h.0 h.1 k h.3) (typ h.1 q t h.4))

  table : (p q : Place) (all : Props) → grammar.IsTable rules inner p q all → Piece ts p q (of_props all)
  table p q all (inl h) =
      subst (λ z. Piece ts p q (of_props z)) (sym h.4)
      (piece.both ts p h.0 q no_spans no_spans (token s.LeftBrace p h.0 h.1) (token s.RightBrace h.0 q h.3))
  table p q all (inr h) =
      let list = of_props (props (h.2 ∷ h.3)) in
      subst (λ z. Piece ts p q (of_props z)) (sym h.9)
      (piece.both ts p h.0 q no_spans list (token s.LeftBrace p h.0 h.4)
      (piece.closed ts h.0 h.1 q list
      (piece.in_braces ts rules of_prop (λ xs. of_props (props xs)) prop_lists (grammar.IsProperty rules inner) property h.3 h.0 h.1 h.2 h.7)
      (token s.RightBrace h.1 q h.8)))

  form : (p q : Place) (kind : TypeKind) → grammar.IsForm rules inner p q kind → Piece ts p q (of_type_kind kind)
  form p q tree.NilType h = token s.Nil p q h
  form p q (tree.BoolType true) h = token s.True p q h
  form p q (tree.BoolType false) h = token s.False p q h
  form p q (tree.StrType value) h = piece.string ts rules s.Text p q value h
  form p q (tree.Named None n args) h = piece.then_maybe ts p h.0 q no_spans (of_types args) (name p h.0 n h.2) (arguments h.0 q args h.4)
  form p q (tree.Named (Some prefix) n args) h =
      piece.then_maybe ts p h.2 q no_spans (of_types args)
      (piece.both ts p h.0 h.2 no_spans no_spans (name p h.0 prefix h.4)
      (piece.both ts h.0 h.1 h.2 no_spans no_spans (token s.Dot h.0 h.1 h.5) (name h.1 h.2 n h.6)))
      (arguments h.2 q args h.7)
  form p q (tree.Typeof e) h =
      let inside = of_expr e in
      piece.both ts p h.1 q no_spans inside
      (piece.both ts p h.0 h.1 no_spans no_spans (token s.Name p h.0 h.4) (token s.LeftParen h.0 h.1 h.5))
      (piece.closed ts h.1 h.2 q inside (held.exp h.1 h.2 e h.6) (token s.RightParen h.2 q h.7))
  form p q (tree.Array t) h =
      piece.both ts p h.0 q no_spans (of_type t) (token s.LeftBrace p h.0 h.2)
      (piece.closed ts h.0 h.1 q (of_type t) (typ h.0 h.1 t h.5) (token s.RightBrace h.1 q h.6))
  form p q (tree.TableType all) h = table p q all h
  form p q (tree.Func all params answer) h =
      piece.maybe_then ts p h.0 q (of_gens all) (and_then (of_types params) (of_type answer)) (generics false p h.0 all h.5)
      (subst (λ z. Piece ts h.0 q (and_then (of_types z) (of_type answer))) (sym h.7)
      (piece.both ts h.0 h.2 q (of_types (types h.3.types)) (of_type answer)
      (piece.closed ts h.0 h.1 h.2 (of_types (types h.3.types)) (list h.0 h.1 h.3 h.6).0 (token s.Arrow h.1 h.2 h.8))
      (result h.2 q answer h.9)))
  form p q _ h = absurd h

  formed : (p q : Place) (t : TypeSyntax) → grammar.IsFormed rules inner p q t → Piece ts p q (of_type t)
  formed p q (tree.the_type span kind) h = piece.node_over ts p q span (of_type_kind kind) h.0 (form p q kind h.1)

  listed_type : (l : Listed) (r p q : Place) (t : TypeSyntax) → Front ts (Some l) r p → grammar.IsListedType rules inner l p q t
      → Piece ts r q (of_type t)
  listed_type l r p q t f (inl h) =
      let inside = and_then (of_types (types l.types)) (of_type h.1) in
      subst (λ z. Piece ts r q (of_type z)) (sym h.4)
      (piece.node_from ts r q l.start _ inside f.1 refl
      (piece.both ts r h.0 q (of_types (types l.types)) (of_type h.1)
      (piece.closed ts r p h.0 (of_types (types l.types)) f.0 (token s.Arrow p h.0 h.2)) (result h.0 q h.1 h.3)))
  listed_type l r p q t f (inr h) =
      subst (λ z. Piece ts r z (of_type t)) (sym h.2) (only r p l t (parens_is l t h.1) f.0)

  -- the same piece from a place with the same tokens ahead
  moved : (r p q : Place) (o : Outline) → r.ahead ≡ p.ahead → r.last ≡ p.last → Piece ts p q o → Piece ts r q o
  moved r p q o e g f =
      subst (λ z. piece.Stand ts z r.ahead → piece.Taken ts r.ahead z q.ahead q.last o) (sym g)
      (subst (λ z. piece.Stand ts p.last z → piece.Taken ts z p.last q.ahead q.last o) (sym e) f)

  basic : (begun : Option Listed) (r p q : Place) (t : TypeSyntax) → Front ts begun r p → grammar.IsBasic rules inner begun p q t
      → Piece ts r q (of_type t)
  basic (Some l) r p q t f h = listed_type l r p q t f h
  basic None r p q t f (inl (e, l, a, i, h)) =
      moved r p q (of_type t) f.0 f.1 (listed_type l p a q t (list p a l i) h)
  basic None r p q t f (inr h) = moved r p q (of_type t) f.0 f.1 (formed p q t h.1)

  marks : (more : ℕ) (start level : ℕ) (r p q : Place) (t u : TypeSyntax) → start ≡ first_start r.ahead
      → Piece ts r p (of_type t) → grammar.AreMarks rules inner start level more p q t u → Piece ts r q (of_type u)
  marks zero start level r p q t u e f h =
      subst (λ z. Piece ts r q (of_type z)) (sym h.2) (piece.leveled ts r p q level (of_type t) h.1 f)
  marks (suc more) start level r p q t u e f h =
      let one = piece.node_from ts r h.0 start _ (of_type t) e refl (piece.closed ts r p h.0 (of_type t) f (token s.Question p h.0 h.1)) in
      marks more start level r (raised h.0) q _ u e one h.2

  begins_at : (begun : Option Listed) (r p : Place) → Front ts begun r p → begin_of begun p ≡ first_start r.ahead
  begins_at None r p f = piece.start_is p ∙ ap first_start (sym f.0)
  begins_at (Some l) r p f = f.1

  option : (begun : Option Listed) (r p q : Place) (t : TypeSyntax) → Front ts begun r p → grammar.IsOption rules inner begun p q t
      → Piece ts r q (of_type t)
  option begun r p q t f h =
      marks h.1 (begin_of begun p) h.0.level r h.0 q h.2 t (begins_at begun r p f) (basic begun r p h.0 h.2 f h.3) h.4

  options : (sign : Symbol) (us : List TypeSyntax) (p q : Place) → grammar.AreOptions rules inner sign p q us → Maybe ts p q (of_types (types us))
  options sign [] p q h = piece.nothing ts p q h.1
  options sign (t ∷ us) p q h =
      let rest = of_types (types us) in
      piece.maybe ts p q (and_then (of_type t) rest)
      (piece.then_maybe ts p h.1 q (of_type t) rest
      (piece.both ts p h.0 h.1 no_spans (of_type t) (token sign p h.0 h.2) (option None h.0 h.0 h.1 t (refl, refl) h.3))
      (options sign us h.1 q h.4))

  joined : (start : ℕ) (r p q : Place) (first t : TypeSyntax) → start ≡ first_start r.ahead → Piece ts r p (of_type first)
      → grammar.IsJoined rules inner start p q first t → Piece ts r q (of_type t)
  joined start r p q first t e f (inl h) =
      subst (λ z. Piece ts r q (of_type z)) (sym h.3)
      (piece.node_from ts r q start _ _ e refl (piece.then_maybe ts r p q (of_type first) _ f (options s.Pipe h.1 p q h.2)))
  joined start r p q first t e f (inr (inl h)) =
      subst (λ z. Piece ts r q (of_type z)) (sym h.4)
      (piece.node_from ts r q start _ _ e refl (piece.then_maybe ts r p q (of_type first) _ f (options s.Ampersand h.2 p q h.3)))
  joined start r p q first t e f (inr (inr h)) =
      subst (λ z. Piece ts r q (of_type z)) (sym h.3) (subst (λ z. Piece ts r z (of_type first)) (sym h.2) f)

  pub whole : (begun : Option Listed) (r p q : Place) (t : TypeSyntax) → Front ts begun r p → grammar.IsType rules inner begun p q t
      → Piece ts r q (of_type t)
  whole None r p q t f h =
      moved r p q (of_type t) f.0 f.1 (piece.maybe_then ts p h.0 q no_spans (of_type t) (bar p h.0 h.3)
      (joined (begin_of None h.0) h.0 h.1 q h.2 t (piece.start_is h.0) (option None h.0 h.0 h.1 h.2 (refl, refl) h.4) h.5))
    where
      bar : (p q : Place) → grammar.IsBar rules inner None p q → Maybe ts p q no_spans
      bar p q (inl (inl h)) = piece.maybe ts p q no_spans (token s.Pipe p q h)
      bar p q (inl (inr h)) = piece.maybe ts p q no_spans (token s.Ampersand p q h)
      bar p q (inr h) = piece.nothing ts p q h.2
  whole (Some l) r p q t f h =
      let g : Front ts (Some l) r h.0 = subst (Front ts (Some l) r) (sym h.3) f in
      joined (begin_of (Some l) h.0) r h.1 q h.2 t g.1 (option (Some l) r h.0 h.1 h.2 g h.4) h.5
