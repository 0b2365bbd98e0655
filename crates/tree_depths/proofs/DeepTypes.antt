-- How deep written types are.
use Rattle.std.proofs.Common.{◌≡◌, ℕ, zero, suc, ◌+◌, ◌-◌, ◌≤◌, ◌<◌, Bool, true, false, List, [], ◌∷◌, inl, inr, refl, sym, ap, ◌∙◌, subst, arith}
use Rattle.std.specs.Prelude.{Option, Some, None}
use Rattle.std.proofs.Math.Nat.{max-le, le-max_left}
use Rattle.luau_tree.specs.declared.names.Access.{Access}
use Rattle.luau_tree.specs.declared.names.Access.TheVariants.{Both, Read, Write}
use Rattle.luau_tree.specs.Tree.{Block, Expr, TypeSyntax, TypeSyntaxes, TypeKind, MaybeType, Gen, Gens, Prop, Props, PropKey}
use Rattle.luau_tree.specs.Tree as tree
use Rattle.luau_tree.specs.View.{types, gens, props}
use Rattle.luau_grammar.specs.declared.symbol.Symbol.{Symbol}
use Rattle.luau_grammar.specs.declared.symbol.Symbol.TheVariants as s
use Rattle.luau_grammar.specs.Places as place
use Rattle.luau_grammar.specs.Places.{Place, Rules, sees, raised, at_level}
use Rattle.luau_grammar.specs.Phrases.{Phrases, Listed, one_of, if_untailed, sole, in_parens}
use Rattle.luau_grammar.specs.Types as grammar
use Rattle.luau_grammar.specs.Types.{begin_of, pack_by, pack_of}
use Rattle.luau_grammar.specs.Laws.{StandUpTo}
use Rattle.tree_depths.specs.Depths.{of_block, of_expr, of_type, of_types, of_type_kind, of_maybe_type, of_gen, of_gens, of_prop, of_props, of_key}
use Rattle.tree_depths.proofs.Levels as level
use Rattle.tree_depths.proofs.Levels.{Deep, Stands, none, up, more, wider, kept, here}

-- Phrases that stand at a level or deeper are at most so deep, where so many levels are left. A type behind a list in
-- parentheses is deeper than what is in the list by the levels that are left and two.
pub record Held (low most room : ℕ) (inner : Phrases) : Type 0 where
  pub exp : (p q : Place) (e : Expr) → low ≤ p.level → inner.exp p q e → Deep p q (of_expr e) most
  pub typ : (p q : Place) (t : TypeSyntax) → low ≤ p.level → inner.typ None p q t → Deep p q (of_type t) most
  pub begun : (l : Listed) (p q : Place) (t : TypeSyntax) (n : ℕ) → low ≤ p.level → most ≤ n → of_types (types l.types) ≤ n
      → inner.typ (Some l) p q t → Deep p q (of_type t) (room + 2 + n)
  pub block : (p q : Place) (b : Block) → low ≤ p.level → inner.block p q b → Deep p q (of_block b) most

-- one of the types of a list
one_deep : (us : List TypeSyntax) (t : TypeSyntax) (n : ℕ) → one_of us ≡ Some t → of_types (types us) ≤ n → of_type t ≤ n
one_deep [] t n e l = absurd (cc (e))
one_deep (u ∷ []) t n e l = let same : u ≡ t = cc (e) in subst (λ z. of_type z ≤ n) same (wider (le-max_left (of_type u) 0) l)
one_deep (u ∷ v ∷ us) t n e l = absurd (cc (e))

untailed_is : (b : Bool) (o : Option TypeSyntax) (t : TypeSyntax) → if_untailed b o ≡ Some t → o ≡ Some t
untailed_is true o t e = absurd (cc (e))
untailed_is false o t e = e

sole_deep : (l : Listed) (t : TypeSyntax) (n : ℕ) → sole l ≡ Some t → of_types (types l.types) ≤ n → of_type t ≤ n
sole_deep l t n e m = one_deep l.types t n (untailed_is l.tailed (one_of l.types) t e) m

parens_deep : (l : Listed) (t : TypeSyntax) (n : ℕ) → in_parens l ≡ Some t → of_types (types l.types) ≤ n → of_type t ≤ n
parens_deep l t n e m = sole_deep l t n (untailed_is l.named (sole l) t e) m

pack_deep : (l : Listed) (n : ℕ) → of_types (types l.types) ≤ n → of_type (pack_of l) ≤ suc n
pack_deep l n m = by_case (sole l) refl
  where
    by_case : (o : Option TypeSyntax) → sole l ≡ o → of_type (pack_by l o) ≤ suc n
    by_case (Some t) e = more (sole_deep l t n e m)
    by_case None e = up m

-- what is in a list before a type is at most so deep
abbrev Fits : Option Listed → ℕ → Type 0
Fits None n = Unit {0}
Fits (Some l) n = of_types (types l.types) ≤ n

-- how deep a result is at most
abbrev pub wide : ℕ → ℕ → ℕ
wide most room = room + 3 + most

module _ (rules : Rules) (limit : ℕ) (bounded : StandUpTo rules limit) (inner : Phrases) where
  token : (x : Symbol) (p q : Place) → place.Takes rules x p q → Stands rules limit bounded p q
  token x p q h = level.token rules limit bounded x p q h

  -- So many marks make a type deeper, and there is room for no more of them.
  marks : (count : ℕ) (start behind : ℕ) (p q : Place) (t u : TypeSyntax) (n : ℕ) → of_type t ≤ n
      → grammar.AreMarks rules inner start behind count p q t u → (q.level ≡ behind) × (of_type u ≤ n + (suc limit - p.level))
  marks zero start behind p q t u n l h =
      (ap (λ (z : Place). z.level) h.1, subst (λ z. of_type z ≤ n + (suc limit - p.level)) (sym h.2) (omega (arith, l)))
  marks (suc count) start behind p q t u n l h =
      let a = token s.Question p h.0 h.1 in
      let one : suc (of_type t) ≤ suc n = up l in
      let rest = marks count start behind (raised h.0) q _ u (suc n) one h.2 in
      let same : h.0.level ≡ p.level = a.same in
      let there : p.level ≤ limit = a.within in
      let deep : of_type u ≤ suc n + (suc limit - (h.0.level + 1)) = rest.1 in
      (rest.0, omega (arith, same, there, deep))

  no_token : {A : Type 0} (x : Symbol) (p q : Place) → limit < p.level → place.Takes rules x p q → A
  no_token x p q l h = let a : p.level ≤ limit = (token x p q h).within in absurd (omega (arith, l, a))

  no_marks : (count : ℕ) (start behind : ℕ) (p q : Place) (t u : TypeSyntax) → limit < p.level → grammar.AreMarks rules inner start behind count p q t u
      → (q.level ≡ behind) × (u ≡ t)
  no_marks zero start behind p q t u l h = (ap (λ (z : Place). z.level) h.1, h.2)
  no_marks (suc count) start behind p q t u l h = no_token s.Question p h.0 l h.1

  no_options : {A : Type 0} (sign : Symbol) (us : List TypeSyntax) (p q : Place) → limit < p.level → sees sign p ≡ true
      → grammar.AreOptions rules inner sign p q us → A
  no_options sign [] p q l e h = let f : sees sign p ≡ false = h.0 in absurd (cc (e, f))
  no_options sign (t ∷ us) p q l e h = no_token sign p h.0 l h.2

  no_joint : (start : ℕ) (p q : Place) (first t : TypeSyntax) → limit < p.level → grammar.IsJoined rules inner start p q first t → (q ≡ p) × (t ≡ first)
  no_joint start p q first t l (inl h) = no_options s.Pipe h.1 p q l h.0 h.2
  no_joint start p q first t l (inr (inl h)) = no_options s.Ampersand h.2 p q l h.1 h.3
  no_joint start p q first t l (inr (inr h)) = (h.2, h.3)

  no_arrow : (l : Listed) (p q : Place) (t : TypeSyntax) → limit < p.level → grammar.IsListedType rules inner l p q t → (in_parens l ≡ Some t) × (q ≡ p)
  no_arrow l p q t k (inl h) = no_token s.Arrow p h.0 k h.2
  no_arrow l p q t k (inr h) = (h.1, h.2)

  -- Where no token stands, a type is the one in the list before it.
  pub alone : (l : Listed) (p q : Place) (t : TypeSyntax) (n : ℕ) → limit < p.level → of_types (types l.types) ≤ n
      → grammar.IsType rules inner (Some l) p q t → Deep p q (of_type t) n
  alone l p q t n k m h =
      let bar : h.0.level ≡ p.level = here p h.0 h.3 in
      let o = h.4 in
      let basic = no_arrow l h.0 o.0 o.2 (omega (arith, k, bar)) o.3 in
      let first : o.0.level ≡ h.0.level = here h.0 o.0 basic.1 in
      let marked = no_marks o.1 _ o.0.level o.0 h.1 o.2 h.2 (omega (arith, k, bar, first)) o.4 in
      let second : h.1.level ≡ o.0.level = marked.0 in
      let joint = no_joint _ h.1 q h.2 t (omega (arith, k, bar, first, second)) h.5 in
      (here h.1 q joint.0 ∙ second ∙ first ∙ bar, subst (λ z. of_type z ≤ n) (sym (joint.1 ∙ marked.1)) (parens_deep l o.2 n basic.0 m))

module _ (rules : Rules) (limit : ℕ) (bounded : StandUpTo rules limit) (inner : Phrases) (low most room : ℕ) (fits : limit ≤ low + room) (held : Held low most room inner) where
  abbrev Within : Place → Place → Type 0
  Within p q = Stands rules limit bounded p q

  takes : (x : Symbol) (p q : Place) → place.Takes rules x p q → Within p q
  takes x p q h = level.token rules limit bounded x p q h

  name : (p q : Place) (n : List ℕ) → place.TakesName rules p q n → Within p q
  name p q n h = level.name rules limit bounded p q n h

  to_wide : {n : ℕ} → n ≤ most → n ≤ wide most room
  to_wide l = omega (arith, l)

  tail : (p q : Place) (t : TypeSyntax) → low ≤ p.level → grammar.IsTail rules inner p q t → Deep p q (of_type t) (suc most)
  tail p q (tree.the_type span (tree.Variadic t)) l h =
      let a = takes s.Dots p h.1.0 h.1.1 in
      let d = held.typ h.1.0 q t (kept l a.same) h.1.2 in
      (d.0 ∙ a.same, up d.1)
  tail p q (tree.the_type span (tree.GenericPack n)) l h =
      ((takes s.Dots h.1.0 q h.1.2).same ∙ (name p h.1.0 n h.1.1).same, up (none most))
  tail p q (tree.the_type span kind) l h = absurd h.1

  member : (p q : Place) (named : Bool) (t : TypeSyntax) → low ≤ p.level → grammar.IsMember rules inner p q named t → Deep p q (of_type t) most
  member p q true t l h =
      let same = (takes s.Colon h.0 h.1 h.4).same ∙ (name p h.0 h.2 h.3).same in
      let d = held.typ h.1 q t (kept l same) h.5 in
      (d.0 ∙ same, d.1)
  member p q false t l h = held.typ p q t l h.1

  members : (us : List TypeSyntax) (p q : Place) (t : TypeSyntax) (named tailed : Bool) → low ≤ p.level
      → grammar.AreMembers rules inner p q t us named tailed → Deep p q (of_types (types (t ∷ us))) (suc most)
  members [] p q t named true l h = let d = tail p q t l h.2 in (d.0, max-le d.1 (none (suc most)))
  members [] p q t named false l h = let d = member p q named t l h.1 in (d.0, max-le (more d.1) (none (suc most)))
  members (u ∷ us) p q t named tailed l h =
      let d = member p h.0 h.2 t l h.5 in
      let same = (takes s.Comma h.0 h.1 h.6).same ∙ d.0 in
      let rest = members us h.1 q u h.3 tailed (kept l same) h.7 in
      (rest.0 ∙ same, max-le (more d.1) rest.1)

  listed : (p q : Place) (us : List TypeSyntax) (named tailed : Bool) → low ≤ p.level → grammar.AreListed rules inner p q us named tailed
      → Deep p q (of_types (types us)) (suc most)
  listed p q [] named tailed l h = (here p q h.1, none (suc most))
  listed p q (t ∷ us) named tailed l h = members us p q t named tailed l h.1

  list : (p q : Place) (l : Listed) → low ≤ p.level → grammar.IsListed rules inner p q l → Deep p q (of_types (types l.types)) (suc most)
  list p q l k h =
      let a = takes s.LeftParen p h.first h.opens in
      let d = listed h.first h.last l.types l.named l.tailed (kept k a.same) h.members in
      ((takes s.RightParen h.last q h.closes).same ∙ d.0 ∙ a.same, d.1)

  pub result : (p q : Place) (t : TypeSyntax) → low ≤ p.level → grammar.IsResult rules inner p q t → Deep p q (of_type t) (wide most room)
  result p q t k (inl (e, l, a, i, inl h)) =
      let d = list p a l k i in
      let r = held.begun l a q t (suc most) (kept k d.0) (omega arith) d.1 h.1 in
      (r.0 ∙ d.0, wider r.1 (omega arith))
  result p q t k (inl (e, l, a, i, inr h)) =
      let d = list p a l k i in
      (here a q h.1 ∙ d.0, subst (λ z. of_type z ≤ wide most room) (sym h.2) (wider (pack_deep l (suc most) d.1) (omega arith)))
  result p q t k (inr (e, inl h)) = let d = tail p q t k h.1 in (d.0, wider d.1 (omega arith))
  result p q t k (inr (e, inr h)) = let d = held.typ p q t k h.1 in (d.0, to_wide d.1)

  arguments : (p q : Place) (args : TypeSyntaxes) → low ≤ p.level → grammar.AreTypeArguments rules inner p q args
      → Deep p q (of_types args) (wide most room)
  arguments p q args k (inl h) = (here p q h.1, subst (λ z. of_types z ≤ wide most room) (sym h.2) (none (wide most room)))
  arguments p q args k (inr (inl h)) =
      ((takes s.Greater h.0 q h.3).same ∙ (takes s.Less p h.0 h.1).same, subst (λ z. of_types z ≤ wide most room) (sym h.4) (none (wide most room)))
  arguments p q args k (inr (inr h)) =
      let a = takes s.Less p h.0 h.4 in
      let d = level.separated rules limit bounded (λ xs. of_types (types xs)) of_type low (wide most room) (none (wide most room)) (λ x xs. max-le)
      (grammar.IsResult rules inner) result h.3 h.0 h.1 h.2 (kept k a.same) h.6 in
      ((takes s.Greater h.1 q h.7).same ∙ d.0 ∙ a.same, subst (λ z. of_types z ≤ wide most room) (sym h.8) d.1)

  pack_mark : (p q : Place) (b : Bool) → grammar.IsPackMark rules inner p q b → q.level ≡ p.level
  pack_mark p q true h = (takes s.Dots p q h).same
  pack_mark p q false h = here p q h.1

  default : (may : Bool) (p q : Place) (t : MaybeType) → low ≤ p.level → grammar.IsDefault rules inner may p q t
      → Deep p q (of_maybe_type t) (wide most room)
  default may p q tree.no_type k h = (here p q h.1, none (wide most room))
  default may p q (tree.a_type t) k h =
      let a = takes s.Assign p h.1 h.2 in
      let d = result h.1 q t (kept k a.same) h.3 in
      (d.0 ∙ a.same, d.1)

  generic : (may : Bool) (p q : Place) (g : Gen) → low ≤ p.level → grammar.IsGeneric rules inner may p q g → Deep p q (of_gen g) (wide most room)
  generic may p q (tree.the_gen n span pack written) k h =
      let same = pack_mark h.0 h.1 pack h.4 ∙ (name p h.0 n h.2).same in
      let d = default may h.1 q written (kept k same) h.5 in
      (d.0 ∙ same, d.1)

  pub generics : (may : Bool) (p q : Place) (all : Gens) → low ≤ p.level → grammar.AreGenerics rules inner may p q all
      → Deep p q (of_gens all) (wide most room)
  generics may p q all k (inl h) = (here p q h.1, subst (λ z. of_gens z ≤ wide most room) (sym h.2) (none (wide most room)))
  generics may p q all k (inr h) =
      let a = takes s.Less p h.0 h.4 in
      let d = level.separated rules limit bounded (λ xs. of_gens (gens xs)) of_gen low (wide most room) (none (wide most room)) (λ x xs. max-le)
      (grammar.IsGeneric rules inner may) (generic may) h.3 h.0 h.1 h.2 (kept k a.same) h.5 in
      ((takes s.Greater h.1 q h.6).same ∙ d.0 ∙ a.same, subst (λ z. of_gens z ≤ wide most room) (sym h.7) d.1)

  access : (p q : Place) (a : Access) → grammar.IsAccess rules inner p q a → q.level ≡ p.level
  access p q Both h = here p q h.2
  access p q Read h = (name p q _ h.1).same
  access p q Write h = (name p q _ h.1).same

  key : (p q : Place) (x : PropKey) → low ≤ p.level → grammar.IsKey rules inner p q x → Deep p q (of_key x) most
  key p q (tree.NameKey n) k h = ((takes s.Colon h.0 q h.2).same ∙ (name p h.0 n h.1).same, none most)
  key p q (tree.Indexer t) k h =
      let a = takes s.LeftBracket p h.0 h.3 in
      let d = held.typ h.0 h.1 t (kept k a.same) h.4 in
      ((takes s.Colon h.2 q h.6).same ∙ (takes s.RightBracket h.1 h.2 h.5).same ∙ d.0 ∙ a.same, d.1)

  property : (p q : Place) (x : Prop) → low ≤ p.level → grammar.IsProperty rules inner p q x → Deep p q (of_prop x) most
  property p q (tree.the_prop a x t) k h =
      let first = access p h.0 a h.2 in
      let d = key h.0 h.1 x (kept k first) h.3 in
      let e = held.typ h.1 q t (kept k (d.0 ∙ first)) h.4 in
      (e.0 ∙ d.0 ∙ first, max-le d.1 e.1)

  table : (p q : Place) (all : Props) → low ≤ p.level → grammar.IsTable rules inner p q all → Deep p q (of_props all) most
  table p q all k (inl h) =
      ((takes s.RightBrace h.0 q h.3).same ∙ (takes s.LeftBrace p h.0 h.1).same, subst (λ z. of_props z ≤ most) (sym h.4) (none most))
  table p q all k (inr h) =
      let a = takes s.LeftBrace p h.0 h.4 in
      let d = level.in_braces rules limit bounded (λ xs. of_props (props xs)) of_prop low most (none most) (λ x xs. max-le)
      (grammar.IsProperty rules inner) property h.3 h.0 h.1 h.2 (kept k a.same) h.7 in
      ((takes s.RightBrace h.1 q h.8).same ∙ d.0 ∙ a.same, subst (λ z. of_props z ≤ most) (sym h.9) d.1)

  form : (p q : Place) (kind : TypeKind) → low ≤ p.level → grammar.IsForm rules inner p q kind → Deep p q (of_type_kind kind) (wide most room)
  form p q tree.NilType k h = ((takes s.Nil p q h).same, none (wide most room))
  form p q (tree.BoolType true) k h = ((takes s.True p q h).same, none (wide most room))
  form p q (tree.BoolType false) k h = ((takes s.False p q h).same, none (wide most room))
  form p q (tree.StrType value) k h = ((level.string rules limit bounded s.Text p q value h).same, none (wide most room))
  form p q (tree.Named None n args) k h =
      let a = name p h.0 n h.2 in
      let d = arguments h.0 q args (kept k a.same) h.4 in
      (d.0 ∙ a.same, d.1)
  form p q (tree.Named (Some prefix) n args) k h =
      let same = (name h.1 h.2 n h.6).same ∙ (takes s.Dot h.0 h.1 h.5).same ∙ (name p h.0 prefix h.4).same in
      let d = arguments h.2 q args (kept k same) h.7 in
      (d.0 ∙ same, d.1)
  form p q (tree.Typeof e) k h =
      let same = (takes s.LeftParen h.0 h.1 h.5).same ∙ (takes s.Name p h.0 h.4).same in
      let d = held.exp h.1 h.2 e (kept k same) h.6 in
      ((takes s.RightParen h.2 q h.7).same ∙ d.0 ∙ same, to_wide d.1)
  form p q (tree.Array t) k h =
      let a = takes s.LeftBrace p h.0 h.2 in
      let d = held.typ h.0 h.1 t (kept k a.same) h.5 in
      ((takes s.RightBrace h.1 q h.6).same ∙ d.0 ∙ a.same, to_wide d.1)
  form p q (tree.TableType all) k h = let d = table p q all k h in (d.0, to_wide d.1)
  form p q (tree.Func all params answer) k h =
      let first = generics false p h.0 all k h.5 in
      let second = list h.0 h.1 h.3 (kept k first.0) h.6 in
      let same = (takes s.Arrow h.1 h.2 h.8).same ∙ second.0 ∙ first.0 in
      let third = result h.2 q answer (kept k same) h.9 in
      (third.0 ∙ same, max-le first.1 (max-le (subst (λ z. of_types z ≤ wide most room) (sym h.7) (wider second.1 (omega arith))) third.1))
  form p q _ k h = absurd h

  formed : (p q : Place) (t : TypeSyntax) → low ≤ p.level → grammar.IsFormed rules inner p q t → Deep p q (of_type t) (suc (wide most room))
  formed p q (tree.the_type span kind) k h = let d = form p q kind k h.1 in (d.0, up d.1)

  -- what is at most so deep holds results, and what is in a list before a type
  module _ (big : ℕ) (results : wide most room ≤ big) where
    listed_type : (l : Listed) (p q : Place) (t : TypeSyntax) → low ≤ p.level → of_types (types l.types) ≤ big
        → grammar.IsListedType rules inner l p q t → Deep p q (of_type t) (suc big)
    listed_type l p q t k m (inl h) =
        let a = takes s.Arrow p h.0 h.2 in
        let d = result h.0 q h.1 (kept k a.same) h.3 in
        (d.0 ∙ a.same, subst (λ z. of_type z ≤ suc big) (sym h.4) (up (max-le (none big) (max-le m (wider d.1 results)))))
    listed_type l p q t k m (inr h) = (here p q h.2, more (parens_deep l t big h.1 m))

    basic : (begun : Option Listed) (p q : Place) (t : TypeSyntax) → low ≤ p.level → Fits begun big → grammar.IsBasic rules inner begun p q t
        → Deep p q (of_type t) (suc big)
    basic (Some l) p q t k f h = listed_type l p q t k f h
    basic None p q t k f (inl (e, l, a, i, h)) =
        let d = list p a l k i in
        let r = listed_type l a q t (kept k d.0) (wider d.1 (omega (arith, results))) h in
        (r.0 ∙ d.0, r.1)
    basic None p q t k f (inr h) = let d = formed p q t k h.1 in (d.0, wider d.1 (up results))

    option : (begun : Option Listed) (p q : Place) (t : TypeSyntax) → low ≤ p.level → Fits begun big → grammar.IsOption rules inner begun p q t
        → Deep p q (of_type t) (room + 2 + big)
    option begun p q t k f h =
        let d = basic begun p h.0 h.2 k f h.3 in
        let r = marks rules limit bounded inner h.1 (begin_of begun p) h.0.level h.0 q h.2 t (suc big) d.1 h.4 in
        let same : h.0.level ≡ p.level = d.0 in
        let deep : of_type t ≤ suc big + (suc limit - h.0.level) = r.1 in
        (r.0 ∙ d.0, omega (arith, k, same, deep, fits))

  options : (sign : Symbol) (us : List TypeSyntax) (p q : Place) → low ≤ p.level → grammar.AreOptions rules inner sign p q us
      → Deep p q (of_types (types us)) (room + 2 + wide most room)
  options sign [] p q k h = (here p q h.1, none (room + 2 + wide most room))
  options sign (t ∷ us) p q k h =
      let a = takes sign p h.0 h.2 in
      let d = option (wide most room) (omega arith) None h.0 h.1 t (kept k a.same) tt h.3 in
      let rest = options sign us h.1 q (kept k (d.0 ∙ a.same)) h.4 in
      (rest.0 ∙ d.0 ∙ a.same, max-le d.1 rest.1)

  joined : (start : ℕ) (p q : Place) (first t : TypeSyntax) (n : ℕ) → low ≤ p.level → of_type first ≤ n → room + 2 + wide most room ≤ n
      → grammar.IsJoined rules inner start p q first t → Deep p q (of_type t) (suc n)
  joined start p q first t n k l m (inl h) =
      let d = options s.Pipe h.1 p q k h.2 in (d.0, subst (λ z. of_type z ≤ suc n) (sym h.3) (up (max-le l (wider d.1 m))))
  joined start p q first t n k l m (inr (inl h)) =
      let d = options s.Ampersand h.2 p q k h.3 in (d.0, subst (λ z. of_type z ≤ suc n) (sym h.4) (up (max-le l (wider d.1 m))))
  joined start p q first t n k l m (inr (inr h)) = (here p q h.2, subst (λ z. of_type z ≤ suc n) (sym h.3) (more l))

  bar : (begun : Option Listed) (p q : Place) → grammar.IsBar rules inner begun p q → q.level ≡ p.level
  bar None p q (inl (inl h)) = (takes s.Pipe p q h).same
  bar None p q (inl (inr h)) = (takes s.Ampersand p q h).same
  bar None p q (inr h) = here p q h.2
  bar (Some l) p q h = here p q h

  pub whole : (begun : Option Listed) (p q : Place) (t : TypeSyntax) (big : ℕ) → low ≤ p.level → wide most room ≤ big → Fits begun big
      → grammar.IsType rules inner begun p q t → Deep p q (of_type t) (room + 3 + big)
  whole begun p q t big k m f h =
      let a = bar begun p h.0 h.3 in
      let d = option big m begun h.0 h.1 h.2 (kept k a) f h.4 in
      let r = joined (begin_of begun h.0) h.1 q h.2 t (room + 2 + big) (kept k (d.0 ∙ a)) d.1 (omega (arith, m)) h.5 in
      (r.0 ∙ d.0 ∙ a, wider r.1 (omega arith))
