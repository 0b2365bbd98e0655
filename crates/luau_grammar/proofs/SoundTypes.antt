-- Types: what the parsers read is what the grammar says.
use Rattle.std.proofs.Common.{◌≡◌, ℕ, zero, suc, Bool, true, false, true≢false, not, ◌&&◌, ◌||◌, ◌⊎◌, inl, inr, List, [], ◌∷◌, ◌++◌, append_assoc, append-nil, codes, refl, sym, ◌∙◌, ap, subst}
use Rattle.std.proofs.lemmas.Bool.{and_parts, or_cases, or_parts}
use Rattle.std.specs.Prelude.{Option, Some, None}
use Rattle.luau_tree.specs.Tree.{TypeSyntax, TypeSyntaxes, TypeKind, Gen, Prop}
use Rattle.luau_tree.specs.Tree as tree
use Rattle.luau_tree.specs.View.{types, gens, props}
use Rattle.luau_grammar.specs.declared.symbol.Symbol.{Symbol}
use Rattle.luau_grammar.specs.declared.symbol.Symbol.TheVariants as s
use Rattle.luau_grammar.specs.Places.{Place, symbol, sees, start_of, from_to, at_level, raised, Takes, TakesName}
use Rattle.luau_grammar.specs.Phrases.{Phrases, Listed, in_parens}
use Rattle.luau_grammar.specs.Lists.{AreSeparated}
use Rattle.luau_grammar.specs.Types.{sees_access, begins_property, sees_typeof, begins_tail, is_type_front, pack_of, begins_named, begin_of}
use Rattle.luau_grammar.specs.Types as grammar
use Rattle.luau_grammar.specs.Reading.{Setting, Readers, next}
use Rattle.luau_grammar.specs.ReadTypes.{Members, goes_members, goes_marks}
use Rattle.luau_grammar.specs.ReadTypes as read
use Rattle.luau_grammar.proofs.Agreement.{Sound, SoundPhrases}
use Rattle.luau_grammar.proofs.Primitives.{Reads, reads_ok, reads_err, reads_if, reads_then, reads_weaker, expect_sound, raise_sound, next_seen, next_word, name_sound, string_sound, eat_sound, IsEaten, takes_sees, symbol_sees}
use Rattle.luau_grammar.proofs.SoundLists.{AreMore, IsBraced, repeat_sound, more_sound, separated_sound, some_separated, braced_sound}

pub or_false : (b : Bool) → b ≡ (b || false)
or_false true = refl
or_false false = refl

pub or_assoc : (a b c : Bool) → ((a || b) || c) ≡ (a || (b || c))
or_assoc true b c = refl
or_assoc false b c = refl

-- behind some of them
abbrev pub with_one : Members → TypeSyntax → Bool → Bool → Members
with_one found t here tailed = record { types = found.types ++ t ∷ []; named = found.named || here; tailed = tailed }

module _ (set : Setting) (inner : Phrases) where
  -- `[NAME ':']`, and whether it stands there
  abbrev pub IsMemberName : Place → Place → Bool → Type 0
  IsMemberName p q true = (a : Place) × (name : List ℕ) × TakesName set.rules p a name × Takes set.rules s.Colon a q
  IsMemberName p q false = (begins_named p ≡ false) × (q ≡ p)

  member_join : (p a q : Place) (here : Bool) (t : TypeSyntax) → IsMemberName p a here → inner.typ None a q t
      → grammar.IsMember set.rules inner p q here t
  member_join p a q true t n i = (n.0, a, n.1, n.2, n.3, i)
  member_join p a q false t n i = (n.0, subst (λ z. inner.typ None z q t) n.1 i)

  -- one of a list in parentheses: a type, or the tail
  abbrev pub IsOne : Place → Place → TypeSyntax → Bool → Bool → Type 0
  IsOne p q t here true = (begins_tail p ≡ true) × (here ≡ false) × grammar.IsTail set.rules inner p q t
  IsOne p q t here false = (begins_tail p ≡ false) × grammar.IsMember set.rules inner p q here t

  -- the others, each behind a comma, and whether the last is a tail
  abbrev pub AreOthers : Bool → Place → Place → List TypeSyntax → Bool → Bool → Type 0
  AreOthers tailed p q [] named ends =
      ((not tailed && sees s.Comma p) ≡ false) × (q ≡ p) × (named ≡ false) × (ends ≡ tailed)
  AreOthers tailed p q (t ∷ ts) named ends =
      (a b : Place) × (here later more : Bool) × ((not tailed && sees s.Comma p) ≡ true) × Takes set.rules s.Comma p a
      × IsOne a b t here more × AreOthers more b q ts later ends × (named ≡ (here || later))

  -- one, and the others
  pub members_join : (ts : List TypeSyntax) (p a q : Place) (t : TypeSyntax) (here more later ends : Bool)
      → IsOne p a t here more → AreOthers more a q ts later ends → grammar.AreMembers set.rules inner p q t ts (here || later) ends
  members_join [] p a q t here true later ends i m =
      subst (grammar.AreMembers set.rules inner p q t [] (here || later)) (sym m.3)
      (i.0, ap (λ z. z || later) i.1 ∙ m.2, subst (λ z. grammar.IsTail set.rules inner p z t) (sym m.1) i.2)
  members_join [] p a q t here false later ends i m =
      subst (grammar.AreMembers set.rules inner p q t [] (here || later)) (sym m.3) (
        i.0,
        subst (λ z. grammar.IsMember set.rules inner p q z t) (or_false here ∙ ap (λ z. here || z) (sym m.2))
            (subst (λ z. grammar.IsMember set.rules inner p z here t) (sym m.1) i.1),
        subst (λ z. sees s.Comma z ≡ false) (sym m.1) m.0,
      )
  members_join (u ∷ us) p a q t here true later ends i m = absurd (true≢false (sym m.5))
  members_join (u ∷ us) p a q t here false later ends i m = (
    a,
    m.0,
    here,
    later,
    i.0,
    i.1,
    m.6,
    subst (λ z. grammar.AreMembers set.rules inner m.0 q u us z ends) (sym m.9)
        (members_join us m.0 m.1 q u m.2 m.4 m.3 ends m.7 m.8),
    refl,
  )

  pub members_split : (ts : List TypeSyntax) (p q : Place) (t : TypeSyntax) (named ends : Bool)
      → grammar.AreMembers set.rules inner p q t ts named ends
      → (a : Place) × (here more later : Bool) × IsOne p a t here more × AreOthers more a q ts later ends × (named ≡ (here || later))
  members_split [] p q t named true n = (q, named, true, false, (n.0, n.1, n.2), (refl, refl, refl, refl), or_false named)
  members_split [] p q t named false n = (q, named, false, false, (n.0, n.1), (n.2, refl, refl, refl), or_false named)
  members_split (u ∷ us) p q t named ends n =
      let m = members_split us n.1 q u n.3 ends n.7 in (
        n.0,
        n.2,
        false,
        n.3,
        (n.4, n.5),
        (n.1, m.0, m.1, m.3, m.2, takes_sees set.rules n.0 n.1 s.Comma n.6, n.6, m.4, m.5, m.6),
        n.8,
      )

  -- what was read is the mark or nothing, as the grammar says it
  pack_mark : (p q : Place) (b : Bool) → IsEaten set.rules s.Dots p q b → grammar.IsPackMark set.rules inner p q b
  pack_mark p q true n = n
  pack_mark p q false n = n

module _ (set : Setting) (inner : Phrases) (readers : Readers) (sound : SoundPhrases set inner readers) where
  variadic_sound : Sound (grammar.IsTail set.rules inner) (read.variadic set readers)
  unfolding read.variadic
  variadic_sound p =
      reads_then (expect_sound set s.Dots p) (λ a t n. reads_then (sound.typ None a) (λ q x i. reads_ok _ (refl, (a, n, i))))

  pub generic_pack_sound : Sound (grammar.IsTail set.rules inner) (read.generic_pack set readers)
  unfolding read.generic_pack
  generic_pack_sound p =
      reads_then (name_sound set p) (λ a x n. reads_then (expect_sound set s.Dots a) (λ q t d. reads_ok _ (refl, (a, n, d))))

  pub tail_sound : Sound (grammar.IsTail set.rules inner) (read.tail set readers)
  unfolding read.tail
  tail_sound p = reads_if (sees s.Dots p) (λ h. variadic_sound p) (λ h. generic_pack_sound p)

  member_name_sound : Sound (IsMemberName set inner) (read.member_name set readers)
  unfolding read.member_name
  member_name_sound p =
      reads_if (begins_named p)
      (λ h. reads_then {Mid = λ q t. IsMemberName set inner p q true}
      (reads_then (name_sound set p) (λ a x n. reads_weaker (expect_sound set s.Colon a) (λ q t d. (a, x, n, d))))
      (λ q t m. reads_ok {x = true} _ m))
      (λ h. reads_ok {x = false} _ (h, refl))

  abbrev IsMemberOf : Members → Place → Place → Members → Type 0
  IsMemberOf found p q all = (t : TypeSyntax) × (here tailed : Bool) × (all ≡ with_one found t here tailed) × IsOne set inner p q t here tailed

  member_sound : (found : Members) → Sound (IsMemberOf found) (read.member set readers found)
  unfolding read.member
  member_sound found p =
      reads_if (begins_tail p)
      (λ h. reads_then (tail_sound p) (λ q t i. reads_ok _
      (t, false, true, ap (λ z. record { types = found.types ++ t ∷ []; named = z; tailed = true }) (or_false found.named), (h, refl, i))))
      (λ h. reads_then (member_name_sound p) (λ a here n. reads_then (sound.typ None a) (λ q t i. reads_ok _
      (t, here, false, refl, (h, member_join set inner p a q here t n i)))))

  abbrev AreMembersFrom : Members → Place → Place → Members → Type 0
  AreMembersFrom found p q all =
      (ts : List TypeSyntax) × (named : Bool) × (all.types ≡ found.types ++ ts) × (all.named ≡ (found.named || named))
      × AreOthers set inner found.tailed p q ts named all.tailed

  abbrev IsAnother : Members → Place → Place → Members → Type 0
  IsAnother found p q all = (a : Place) × Takes set.rules s.Comma p a × IsMemberOf found a q all

  another_sound : (found : Members) → Sound (IsAnother found) (read.another_member set readers found)
  unfolding read.another_member
  another_sound found p =
      reads_then (expect_sound set s.Comma p) (λ a t n. reads_weaker (member_sound found a) (λ q all i. (a, n, i)))

  others_stop : (found : Members) (p : Place) → goes_members found p ≡ false → AreMembersFrom found p p found
  others_stop found p h = ([], false, sym (append-nil found.types), or_false found.named, (h, refl, refl, refl))

  others_step : (found one all : Members) (p a q : Place) → goes_members found p ≡ true → IsAnother found p a one
      → AreMembersFrom one a q all → AreMembersFrom found p q all
  others_step found one all p a q h n m =
      let e = n.2.3 in
      let rest = subst (λ (z : Members). AreOthers set inner z.tailed a q m.0 m.1 all.tailed) e m.4 in (
        n.2.0 ∷ m.0,
        n.2.1 || m.1,
        m.2 ∙ (ap (λ (z : Members). z.types ++ m.0) e ∙ append_assoc found.types (n.2.0 ∷ []) m.0),
        m.3 ∙ (ap (λ (z : Members). z.named || m.1) e ∙ or_assoc found.named n.2.1 m.1),
        (n.0, a, n.2.1, m.1, n.2.2, h, n.1, n.2.4, rest, refl),
      )

  members_from_sound : (found : Members) → Sound (AreMembersFrom found) (read.members_from set readers found)
  unfolding read.members_from
  members_from_sound found =
      repeat_sound set goes_members (read.another_member set readers) IsAnother AreMembersFrom others_stop others_step another_sound found

  abbrev AreSome : Place → Place → Members → Type 0
  AreSome p q all = grammar.AreListed set.rules inner p q all.types all.named all.tailed

  abbrev empty : Members
  empty = record { types = []; named = false; tailed = false }

  some_join : (one all : Members) (p a q : Place) → sees s.RightParen p ≡ false → IsMemberOf empty p a one
      → AreMembersFrom one a q all → AreSome p q all
  some_join one all p a q h n m =
      let rest = subst (λ (z : Members). AreOthers set inner z.tailed a q m.0 m.1 all.tailed) n.3 m.4 in
      let are = members_join set inner m.0 p a q n.0 n.1 n.2 m.1 all.tailed n.4 rest in
      subst (λ z. grammar.AreListed set.rules inner p q z all.named all.tailed)
      (sym (m.2 ∙ ap (λ (z : Members). z.types ++ m.0) n.3)) (
        h,
        subst (λ z. grammar.AreMembers set.rules inner p q n.0 m.0 z all.tailed)
            (sym (m.3 ∙ ap (λ (z : Members). z.named || m.1) n.3)) are,
      )

  members_sound : (p : Place) → sees s.RightParen p ≡ false → Reads (AreSome p) (read.members set readers p)
  unfolding read.members
  members_sound p h =
      reads_then (member_sound empty p) (λ a one n. reads_weaker (members_from_sound one a) (λ q all m. some_join one all p a q h n m))

  maybe_members_sound : Sound AreSome (read.maybe_members set readers)
  unfolding read.maybe_members
  maybe_members_sound p =
      reads_if (sees s.RightParen p) (λ h. reads_ok {x = empty} _ (h, refl, refl, refl)) (λ h. members_sound p h)

  pub listed_sound : Sound (grammar.IsListed set.rules inner) (read.listed set readers)
  unfolding read.listed
  listed_sound p =
      reads_then (expect_sound set s.LeftParen p) (λ a t n. reads_then (maybe_members_sound a) (λ b found m.
      reads_then (expect_sound set s.RightParen b) (λ q u d. reads_ok _
      (record { first = a; last = b; opens = n; members = m; closes = d; starts = refl; ends = refl }))))

  abbrev IsAfterList : Listed → Place → Place → TypeSyntax → Type 0
  IsAfterList l p q t =
      ((is_type_front l p ≡ true) × inner.typ (Some l) p q t) ⊎ ((is_type_front l p ≡ false) × (q ≡ p) × (t ≡ pack_of l))

  after_list_sound : (l : Listed) → Sound (IsAfterList l) (read.after_list set readers l)
  unfolding read.after_list
  after_list_sound l p =
      reads_if (is_type_front l p)
      (λ h. reads_weaker (sound.typ (Some l) p) (λ q t i. inl (h, i)))
      (λ h. reads_ok _ (inr (h, refl, refl)))

  pub result_sound : Sound (grammar.IsResult set.rules inner) (read.result set readers)
  unfolding read.result
  result_sound p =
      reads_if (sees s.LeftParen p)
      (λ h. reads_then (listed_sound p) (λ a l n. reads_weaker (after_list_sound l a) (λ q t i. inl (h, l, a, n, i))))
      (λ h. reads_if (begins_tail p)
      (λ e. reads_weaker (tail_sound p) (λ q t i. inr (h, inl (e, i))))
      (λ e. reads_weaker (sound.typ None p) (λ q t i. inr (h, inr (e, i)))))

  abbrev AreArguments : Place → Place → TypeSyntaxes → Type 0
  AreArguments p q args =
      ((sees s.Greater p ≡ true) × (q ≡ p) × (args ≡ tree.no_types))
      ⊎ ((t : TypeSyntax) × (ts : List TypeSyntax) × (sees s.Greater p ≡ false)
      × AreSeparated set.rules (grammar.IsResult set.rules inner) p q t ts × (args ≡ types (t ∷ ts)))

  maybe_results_sound : Sound AreArguments (read.maybe_results set readers)
  unfolding read.maybe_results
  maybe_results_sound p =
      reads_if (sees s.Greater p)
      (λ h. reads_ok _ (inl (h, refl, refl)))
      (λ h. reads_then (separated_sound set (grammar.IsResult set.rules inner) (read.result set readers) result_sound p) (λ q ts n.
      let m = some_separated set.rules (grammar.IsResult set.rules inner) ts p q n in
      reads_ok _ (inr (m.0, m.1, h, m.3, ap types m.2))))

  arguments_join : (p a b q : Place) (args : TypeSyntaxes) → Takes set.rules s.Less p a → AreArguments a b args
      → Takes set.rules s.Greater b q → grammar.AreTypeArguments set.rules inner p q args
  arguments_join p a b q args n (inl m) d =
      inr (inl (a, n, m.0, subst (λ z. Takes set.rules s.Greater z q) m.1 d, m.2))
  arguments_join p a b q args n (inr m) d = inr (inr (a, b, m.0, m.1, n, m.2, m.3, d, m.4))

  pub type_arguments_sound : Sound (grammar.AreTypeArguments set.rules inner) (read.type_arguments set readers)
  unfolding read.type_arguments
  type_arguments_sound p =
      reads_if (sees s.Less p)
      (λ h. reads_then (expect_sound set s.Less p) (λ a t n. reads_then (maybe_results_sound a) (λ b args m.
      reads_then (expect_sound set s.Greater b) (λ q u d. reads_ok _ (arguments_join p a b q args n m d)))))
      (λ h. reads_ok _ (inl (h, refl, refl)))

  default_sound : (may : Bool) → Sound (grammar.IsDefault set.rules inner may) (read.default set readers may)
  unfolding read.default
  default_sound may p =
      reads_if (may && sees s.Assign p)
      (λ h. reads_then (expect_sound set s.Assign p) (λ a t n. reads_then (result_sound a) (λ q u i. reads_ok _
      ((and_parts may (sees s.Assign p) h).0, a, n, i))))
      (λ h. reads_ok _ (h, refl))

  pub generic_sound : (may : Bool) → Sound (grammar.IsGeneric set.rules inner may) (read.generic set readers may)
  unfolding read.generic
  generic_sound may p =
      reads_then (name_sound set p) (λ a x n. reads_then (eat_sound set s.Dots a) (λ b pack m.
      reads_then (default_sound may b) (λ q d i. reads_ok _ (a, b, n, refl, pack_mark set inner a b pack m, i))))

  generics_behind_sound : (may : Bool) (p a : Place) → Takes set.rules s.Less p a
      → Reads (grammar.AreGenerics set.rules inner may p) (read.generics_behind set readers may a)
  unfolding read.generics_behind
  generics_behind_sound may p a n =
      reads_then (separated_sound set (grammar.IsGeneric set.rules inner may) (read.generic set readers may) (generic_sound may) a) (λ b gs m.
      let k = some_separated set.rules (grammar.IsGeneric set.rules inner may) gs a b m in
      reads_then (expect_sound set s.Greater b) (λ q t d. reads_ok _ (inr (a, b, k.0, k.1, n, k.3, d, ap gens k.2))))

  pub generics_sound : (may : Bool) → Sound (grammar.AreGenerics set.rules inner may) (read.generics set readers may)
  unfolding read.generics
  generics_sound may p =
      reads_if (sees s.Less p)
      (λ h. reads_then (expect_sound set s.Less p) (λ a t n. generics_behind_sound may p a n))
      (λ h. reads_ok _ (inl (h, refl, refl)))

  pub access_sound : Sound (grammar.IsAccess set.rules inner) (read.access set readers)
  unfolding read.access
  access_sound p =
      reads_if (sees_access (codes "read") p)
      (λ h. reads_then (next_word set (codes "read") p (and_parts _ _ h).0) (λ q t n. reads_ok _ (h, n)))
      (λ h. reads_if (sees_access (codes "write") p)
      (λ e. reads_then (next_word set (codes "write") p (and_parts _ _ e).0) (λ q t n. reads_ok _ (e, n)))
      (λ e. reads_ok _ (h, e, refl)))

  indexer_sound : Sound (grammar.IsKey set.rules inner) (read.indexer set readers)
  unfolding read.indexer
  indexer_sound p =
      reads_then (expect_sound set s.LeftBracket p) (λ a u n. reads_then (sound.typ None a) (λ b t i.
      reads_then (expect_sound set s.RightBracket b) (λ c v m. reads_then (expect_sound set s.Colon c) (λ q w d. reads_ok _
      (a, b, c, n, i, m, d)))))

  property_name_sound : Sound (grammar.IsKey set.rules inner) (read.property_name set readers)
  unfolding read.property_name
  property_name_sound p =
      reads_then (name_sound set p) (λ a x n. reads_then (expect_sound set s.Colon a) (λ q t d. reads_ok _ (a, n, d)))

  key_sound : Sound (grammar.IsKey set.rules inner) (read.key set readers)
  unfolding read.key
  key_sound p = reads_if (sees s.LeftBracket p) (λ h. indexer_sound p) (λ h. property_name_sound p)

  pub property_sound : Sound (grammar.IsProperty set.rules inner) (read.property set readers)
  unfolding read.property
  property_sound p =
      reads_then (access_sound p) (λ a how n. reads_then (key_sound a) (λ b what k. reads_then (sound.typ None b) (λ q t i. reads_ok _
      (a, b, n, k, i))))

  -- a form of a type that begins at a place
  abbrev Formed : Place → Place → TypeSyntax → Type 0
  Formed = grammar.IsFormed set.rules inner

  array_sound : (p a : Place) → Takes set.rules s.LeftBrace p a → sees s.RightBrace a ≡ false → begins_property a ≡ false
      → Reads (Formed p) (read.array set readers (start_of p) a)
  unfolding read.array
  array_sound p a n r h =
      reads_then (sound.typ None a) (λ b t i. reads_then (expect_sound set s.RightBrace b) (λ q u d. reads_ok _
      (refl, (a, b, n, r, h, i, d))))

  table_join : (p a b q : Place) (xs : List Prop) → Takes set.rules s.LeftBrace p a
      → (sees s.RightBrace a || begins_property a) ≡ true → IsBraced set.rules (grammar.IsProperty set.rules inner) a b xs
      → Takes set.rules s.RightBrace b q → grammar.IsTable set.rules inner p q (props xs)
  table_join p a b q [] n h m d = inl (a, n, m.0, subst (λ z. Takes set.rules s.RightBrace z q) m.1 d, refl)
  table_join p a b q (x ∷ xs) n h m d =
      let e : begins_property a ≡ true = sym (ap (λ z. z || begins_property a) m.0) ∙ h in
      inr (a, b, x, xs, n, m.0, e, m.1, d, refl)

  table_sound : (p a : Place) → Takes set.rules s.LeftBrace p a → (sees s.RightBrace a || begins_property a) ≡ true
      → Reads (Formed p) (read.table set readers (start_of p) a)
  unfolding read.table
  table_sound p a n h =
      reads_then (braced_sound set (grammar.IsProperty set.rules inner) (read.property set readers) property_sound a) (λ b found m.
      reads_then (expect_sound set s.RightBrace b) (λ q u d. reads_ok _ (refl, table_join p a b q found.items n h m d)))

  table_or_array_sound : Sound Formed (read.table_or_array set readers)
  unfolding read.table_or_array
  table_or_array_sound p =
      reads_then (expect_sound set s.LeftBrace p) (λ a t n. reads_if (sees s.RightBrace a || begins_property a)
      (λ h. table_sound p a n h)
      (λ h. let e = or_parts (sees s.RightBrace a) (begins_property a) h in array_sound p a n e.0 e.1))

  typeof_sound : (p : Place) → sees_typeof p ≡ true → Reads (Formed p) (read.typeof_form set readers p)
  unfolding read.typeof_form
  typeof_sound p h =
      reads_then (expect_sound set s.Name p) (λ a t n. reads_then (expect_sound set s.LeftParen a) (λ b u l.
      reads_then (sound.exp b) (λ c e i. reads_then (expect_sound set s.RightParen c) (λ q v r. reads_ok _
      (refl, (a, b, c, h, n, l, i, r))))))

  dotted_sound : (p a : Place) (first : List ℕ) → sees_typeof p ≡ false → TakesName set.rules p a first
      → Reads (Formed p) (read.dotted set readers (start_of p) first a)
  unfolding read.dotted
  dotted_sound p a first h n =
      reads_then (expect_sound set s.Dot a) (λ b t d. reads_then (name_sound set b) (λ c second m.
      reads_then (type_arguments_sound c) (λ q args k. reads_ok _ (refl, (a, b, c, h, n, d, m, k)))))

  undotted_sound : (p a : Place) (first : List ℕ) → sees_typeof p ≡ false → TakesName set.rules p a first → sees s.Dot a ≡ false
      → Reads (Formed p) (read.undotted set readers (start_of p) first a)
  unfolding read.undotted
  undotted_sound p a first h n e =
      reads_then (type_arguments_sound a) (λ q args k. reads_ok _ (refl, (a, h, n, e, k)))

  named_sound : (p : Place) → sees_typeof p ≡ false → Reads (Formed p) (read.named set readers p)
  unfolding read.named read.named_behind
  named_sound p h =
      reads_then (name_sound set p) (λ a first n. reads_if (sees s.Dot a)
      (λ d. dotted_sound p a first h n)
      (λ d. undotted_sound p a first h n d))

  name_form_sound : Sound Formed (read.name_form set readers)
  unfolding read.name_form
  name_form_sound p = reads_if (sees_typeof p) (λ h. typeof_sound p h) (λ h. named_sound p h)

  generic_function_sound : (p : Place) → sees s.Less p ≡ true → Reads (Formed p) (read.generic_function set readers p)
  unfolding read.generic_function
  generic_function_sound p h =
      reads_then (generics_sound false p) (λ a gs n. reads_then (listed_sound a) (λ b l m. reads_then (expect_sound set s.Arrow b) (λ c t d.
      reads_then (result_sound c) (λ q r i. reads_ok _ (refl, (a, b, c, l, h, n, m, refl, d, i))))))

  word_sound : (kind : TypeKind) (x : Symbol) (p : Place) → symbol p ≡ x
      → ((q : Place) → Takes set.rules x p q → grammar.IsForm set.rules inner p q kind) → Reads (Formed p) (read.word set readers kind p)
  unfolding read.word
  word_sound kind x p e k =
      reads_then (next_seen set x p (symbol_sees x p e)) (λ q t n. reads_ok _ (refl, k q n))

  literal_sound : Sound Formed (read.literal set readers)
  unfolding read.literal
  literal_sound p = reads_then (string_sound set s.Text p) (λ q value n. reads_ok _ (refl, n))

  form_by_sound : (x : Symbol) (p : Place) → symbol p ≡ x → Reads (Formed p) (read.form_by set readers x p)
  form_by_sound s.Nil p e = word_sound tree.NilType s.Nil p e (λ q n. n)
  form_by_sound s.True p e = word_sound (tree.BoolType true) s.True p e (λ q n. n)
  form_by_sound s.False p e = word_sound (tree.BoolType false) s.False p e (λ q n. n)
  form_by_sound s.Text p e = literal_sound p
  form_by_sound s.Name p e = name_form_sound p
  form_by_sound s.LeftBrace p e = table_or_array_sound p
  form_by_sound s.Less p e = generic_function_sound p (symbol_sees s.Less p e)
  form_by_sound _ p e = reads_err _

  form_sound : Sound Formed (read.form set readers)
  unfolding read.form
  form_sound p = form_by_sound (symbol p) p refl

  function_behind_sound : (l : Listed) → Sound (grammar.IsListedType set.rules inner l) (read.function_behind set readers l)
  unfolding read.function_behind
  function_behind_sound l p =
      reads_then (expect_sound set s.Arrow p) (λ a t n. reads_then (result_sound a) (λ q r i. reads_ok _ (inl (a, r, n, i, refl))))

  only_sound : (o : Option TypeSyntax) (l : Listed) (p : Place) → sees s.Arrow p ≡ false → in_parens l ≡ o
      → Reads (grammar.IsListedType set.rules inner l p) (read.only_in_parens set readers o p)
  only_sound None l p h e = reads_err _
  only_sound (Some t) l p h e = reads_ok _ (inr (h, e, refl))

  listed_type_sound : (l : Listed) → Sound (grammar.IsListedType set.rules inner l) (read.listed_type set readers l)
  unfolding read.listed_type
  listed_type_sound l p =
      reads_if (sees s.Arrow p) (λ h. function_behind_sound l p) (λ h. only_sound (in_parens l) l p h refl)

  basic_sound : (begun : Option Listed) → Sound (grammar.IsBasic set.rules inner begun) (read.basic set readers begun)
  unfolding read.basic
  basic_sound (Some l) p = listed_type_sound l p
  basic_sound None p =
      reads_if (sees s.LeftParen p)
      (λ h. reads_then (listed_sound p) (λ a l n. reads_weaker (listed_type_sound l a) (λ q t i. inl (h, l, a, n, i))))
      (λ h. reads_weaker (form_sound p) (λ q t i. inr (h, i)))

  -- so many marks, the last of which ends at a place
  abbrev AreMarksTo : ℕ → ℕ → TypeSyntax → Place → Place → TypeSyntax → Type 0
  AreMarksTo from outer t p q u = (n : ℕ) × grammar.AreMarks set.rules inner from outer n p (at_level outer q) t u

  abbrev IsMark : ℕ → TypeSyntax → Place → Place → TypeSyntax → Type 0
  IsMark from t p q u =
      (a : Place) × Takes set.rules s.Question p a × (q ≡ raised a) × (u ≡ tree.the_type (from_to from a) (tree.Optional t))

  mark_sound : (from : ℕ) (t : TypeSyntax) → Sound (IsMark from t) (read.mark set readers from t)
  unfolding read.mark
  mark_sound from t p =
      reads_then (expect_sound set s.Question p) (λ a u n. reads_then (raise_sound set a) (λ b w r. reads_ok _
      (a, n, r.1, ap (λ (z : Place). tree.the_type (from_to from z) (tree.Optional t)) r.1)))

  marks_stop : (from outer : ℕ) (t : TypeSyntax) (p : Place) → sees s.Question p ≡ false → AreMarksTo from outer t p p t
  marks_stop from outer t p h = (zero, (h, refl, refl))

  marks_step : (from outer : ℕ) (t u v : TypeSyntax) (p a q : Place) → sees s.Question p ≡ true → IsMark from t p a u
      → AreMarksTo from outer u a q v → AreMarksTo from outer t p q v
  marks_step from outer t u v p a q h n m = (
    suc m.0,
    (
      n.0,
      n.1,
      subst (λ z. grammar.AreMarks set.rules inner from outer m.0 (raised n.0) (at_level outer q) z v) n.3
          (subst (λ z. grammar.AreMarks set.rules inner from outer m.0 z (at_level outer q) u v) n.2 m.1),
    ),
  )

  all_marks_sound : (from outer : ℕ) (t : TypeSyntax) → Sound (AreMarksTo from outer t) (read.all_marks set readers from t)
  unfolding read.all_marks
  all_marks_sound from outer t =
      repeat_sound set goes_marks (read.mark set readers from) (IsMark from) (AreMarksTo from outer) (marks_stop from outer)
      (marks_step from outer) (mark_sound from) t

  abbrev AreAnyMarks : ℕ → TypeSyntax → Place → Place → TypeSyntax → Type 0
  AreAnyMarks from t p q u = (n : ℕ) × grammar.AreMarks set.rules inner from p.level n p q t u

  marks_sound : (from : ℕ) (t : TypeSyntax) → Sound (AreAnyMarks from t) (read.marks set readers from t)
  unfolding read.marks
  marks_sound from t p = reads_then (all_marks_sound from p.level t p) (λ q u n. reads_ok _ n)

  option_sound : (begun : Option Listed) → Sound (grammar.IsOption set.rules inner begun) (read.option set readers begun)
  unfolding read.option
  option_sound begun p =
      reads_then (basic_sound begun p) (λ a t i. reads_weaker (marks_sound (begin_of begun p) t a) (λ q u n. (a, n.0, t, i, n.1)))

  options_are : (sign : Symbol) (ts : List TypeSyntax) (p q : Place)
      → AreMore set.rules sign (grammar.IsOption set.rules inner None) p q ts → grammar.AreOptions set.rules inner sign p q ts
  options_are sign [] p q n = n
  options_are sign (t ∷ ts) p q n = (n.0, n.1, n.2, n.3, options_are sign ts n.1 q n.4)

  abbrev AreOptionsFrom : Symbol → TypeSyntax → Place → Place → List TypeSyntax → Type 0
  AreOptionsFrom sign first p q all = (ts : List TypeSyntax) × (all ≡ first ∷ ts) × grammar.AreOptions set.rules inner sign p q ts

  options_sound : (sign : Symbol) (first : TypeSyntax) → Sound (AreOptionsFrom sign first) (read.options set readers sign first)
  unfolding read.options read.options_from read.another_option
  options_sound sign first p =
      reads_weaker
      (more_sound set (grammar.IsOption set.rules inner None) (read.option set readers None) (option_sound None) sign (first ∷ []) p)
      (λ q all n. (n.0, n.1, options_are sign n.0 p q n.2))

  union_behind_sound : (from : ℕ) (first : TypeSyntax) (p : Place) → sees s.Pipe p ≡ true
      → Reads (λ q t. grammar.IsJoined set.rules inner from p q first t) (read.union_behind set readers from first p)
  unfolding read.union_behind
  union_behind_sound from first p h =
      reads_then (options_sound s.Pipe first p) (λ q all n. reads_ok _
      (inl (h, n.0, n.2, ap (λ z. tree.the_type (from_to from q) (tree.Union (types z))) n.1)))

  meet_behind_sound : (from : ℕ) (first : TypeSyntax) (p : Place) → sees s.Pipe p ≡ false → sees s.Ampersand p ≡ true
      → Reads (λ q t. grammar.IsJoined set.rules inner from p q first t) (read.meet_behind set readers from first p)
  unfolding read.meet_behind
  meet_behind_sound from first p h e =
      reads_then (options_sound s.Ampersand first p) (λ q all n. reads_ok _
      (inr (inl (h, e, n.0, n.2, ap (λ z. tree.the_type (from_to from q) (tree.Meet (types z))) n.1))))

  joined_sound : (from : ℕ) (first : TypeSyntax) → Sound (λ p q t. grammar.IsJoined set.rules inner from p q first t) (read.joined set readers from first)
  unfolding read.joined
  joined_sound from first p =
      reads_if (sees s.Pipe p)
      (λ h. union_behind_sound from first p h)
      (λ h. reads_if (sees s.Ampersand p)
      (λ e. meet_behind_sound from first p h e)
      (λ e. reads_ok _ (inr (inr (h, e, refl, refl)))))

  bar_next : (p : Place) → (sees s.Pipe p || sees s.Ampersand p) ≡ true → Reads (λ q t. grammar.IsBar set.rules inner None p q) (next set p)
  bar_next p h = elim (or_cases (sees s.Pipe p) (sees s.Ampersand p) h) [
    | inl e ↦ reads_weaker (next_seen set s.Pipe p e) (λ q t n. inl (inl n))
    | inr e ↦ reads_weaker (next_seen set s.Ampersand p e) (λ q t n. inl (inr n))
  ]

  bar_sound : (begun : Option Listed) → Sound (λ p q u. grammar.IsBar set.rules inner begun p q) (read.bar set readers begun)
  unfolding read.bar
  bar_sound (Some l) p = reads_ok _ refl
  bar_sound None p =
      reads_if (sees s.Pipe p || sees s.Ampersand p)
      (λ h. reads_then (bar_next p h) (λ q t n. reads_ok _ n))
      (λ h. let e = or_parts (sees s.Pipe p) (sees s.Ampersand p) h in reads_ok _ (inr (e.0, e.1, refl)))

  -- a type, behind a list in parentheses or not
  pub type_inside_sound : (begun : Option Listed) → Sound (grammar.IsType set.rules inner begun) (read.type_inside set readers begun)
  unfolding read.type_inside
  type_inside_sound begun p =
      reads_then (bar_sound begun p) (λ a u n. reads_then (option_sound begun a) (λ b first i.
      reads_weaker (joined_sound (begin_of begun a) first b) (λ q t m. (a, b, first, n, i, m))))
