-- Types: what the grammar says is what the parsers read.
use Rattle.std.proofs.Common.{◌≡◌, ℕ, zero, suc, ◌≤◌, ◌<◌, Bool, true, false, true≢false, ◌||◌, ◌⊎◌, inl, inr, List, [], ◌∷◌, ◌++◌, length, append_assoc, append-nil, codes, refl, sym, ◌∙◌, ap, ap₂, subst, arith}
use Rattle.std.proofs.lemmas.Bool.{and_from, and_left, or_from, or_left, or_right}
use Rattle.std.specs.Prelude.{Option, Some, None}
use Rattle.luau_tree.specs.declared.position.Span.{Span}
use Rattle.luau_tree.specs.declared.names.Access.TheVariants.{Both, Read, Write}
use Rattle.luau_tree.specs.Tree.{TypeSyntax, TypeSyntaxes, TypeKind, Gen, Gens, Prop, Props, Expr}
use Rattle.luau_tree.specs.Tree as tree
use Rattle.luau_tree.specs.View.{types, gens, props}
use Rattle.luau_grammar.specs.declared.symbol.Symbol.{Symbol}
use Rattle.luau_grammar.specs.declared.symbol.Symbol.TheVariants as s
use Rattle.luau_grammar.specs.Symbols.{same}
use Rattle.luau_grammar.specs.Places.{Place, symbol, sees, sees_behind, start_of, from_to, over, at_level, raised, sees_word, Takes, TakesName, TakesString}
use Rattle.luau_grammar.specs.Phrases.{Phrases, Listed}
use Rattle.luau_grammar.specs.Lists.{AreSeparated}
use Rattle.luau_grammar.specs.Types.{sees_access, begins_property, sees_typeof, begins_tail, is_type_front, pack_of, begins_named, begin_of}
use Rattle.luau_grammar.specs.Types as grammar
use Rattle.luau_grammar.specs.Reading.{Setting, Readers}
use Rattle.luau_grammar.specs.ReadTypes.{Members, goes_members, goes_marks}
use Rattle.luau_grammar.specs.ReadTypes as read
use Rattle.luau_grammar.proofs.Agreement.{Bounded, Complete, CompletePhrases, Reached}
use Rattle.luau_grammar.proofs.Primitives.{Gives, IsEaten, gives_ok, gives_to, gives_same, gives_here, gives_then, gives_if_true, gives_if_false, gives_expect, gives_next, expect_takes, takes_taken, takes_sees, takes_not, takes_symbol, takes_behind, takes_bounded, name_token, name_complete, string_token, string_complete, eat_complete, raise_complete, word_not, sees_symbol}
use Rattle.luau_grammar.proofs.SoundLists.{AreMore, IsBraced}
use Rattle.luau_grammar.proofs.CompleteLists.{Loops, loop_stop, loop_step, loop_done, loop_more_complete, separated_complete, braced_complete}
use Rattle.luau_grammar.proofs.SoundTypes.{or_false, or_assoc, IsMemberName, IsOne, AreOthers, with_one, members_split}

-- some of a list in parentheses, behind others
abbrev behind_members : Members → List TypeSyntax → Bool → Bool → Members
behind_members found ts named ends = record { types = found.types ++ ts; named = found.named || named; tailed = ends }

members_same : (found : Members) (named ends : Bool) → named ≡ false → ends ≡ found.tailed → found ≡ behind_members found [] named ends
members_same found named ends e t =
    ap₂ (λ (y : List TypeSyntax) (z : Bool). record { types = y; named = z; tailed = found.tailed }) (sym (append-nil found.types))
    (or_false found.named ∙ ap (λ z. found.named || z) (sym e))
    ∙ ap (behind_members found [] named) (sym t)

members_more : (found : Members) (t : TypeSyntax) (ts : List TypeSyntax) (here more later named ends : Bool) → named ≡ (here || later)
    → behind_members (with_one found t here more) ts later ends ≡ behind_members found (t ∷ ts) named ends
members_more found t ts here more later named ends e =
    ap₂ (λ (y : List TypeSyntax) (z : Bool). record { types = y; named = z; tailed = ends }) (append_assoc found.types (t ∷ []) ts)
    (or_assoc found.named here later ∙ ap (λ z. found.named || z) (sym e))

module _ (low : ℕ) (set : Setting) (inner : Phrases) (readers : Readers) (bounded : Bounded set) (complete : CompletePhrases low set inner readers) where
  variadic_complete : (p q : Place) (span : Span) (t : TypeSyntax) → low ≤ p.level
      → grammar.IsTail set.rules inner p q (tree.the_type span (tree.Variadic t))
      → Gives low p (read.variadic set readers p) q (tree.the_type span (tree.Variadic t))
  unfolding read.variadic
  variadic_complete p q span t h n =
      gives_same (ap (λ z. tree.the_type z (tree.Variadic t)) (sym n.0))
      (gives_expect set _ s.Dots p n.1.0 h n.1.1 (λ u l. gives_then _ (complete.typ n.1.0 q t l n.1.2) (λ k. gives_ok k)))

  pub generic_pack_complete : (p q : Place) (span : Span) (name : List ℕ) → low ≤ p.level
      → grammar.IsTail set.rules inner p q (tree.the_type span (tree.GenericPack name))
      → Gives low p (read.generic_pack set readers p) q (tree.the_type span (tree.GenericPack name))
  unfolding read.generic_pack
  generic_pack_complete p q span name h n =
      gives_same (ap (λ z. tree.the_type z (tree.GenericPack name)) (sym n.0))
      (gives_then _ (name_complete set low p n.1.0 name h n.1.1) (λ l. gives_expect set _ s.Dots n.1.0 q l n.1.2 (λ u k. gives_ok k)))

  -- a name is not one of the signs
  name_not : (p q : Place) (name : List ℕ) (x : Symbol) → same s.Name x ≡ false → TakesName set.rules p q name → sees x p ≡ false
  name_not p q name x e n = takes_not set.rules p q s.Name x e (name_token set.rules p q name n)

  name_sees : (p q : Place) (name : List ℕ) → TakesName set.rules p q name → sees s.Name p ≡ true
  name_sees p q name n = takes_sees set.rules p q s.Name (name_token set.rules p q name n)

  pub tail_complete : Complete low (grammar.IsTail set.rules inner) (read.tail set readers)
  unfolding read.tail same
  tail_complete p q (tree.the_type span (tree.Variadic t)) h n =
      gives_if_true _ (takes_sees set.rules p n.1.0 s.Dots n.1.1) (variadic_complete p q span t h n)
  tail_complete p q (tree.the_type span (tree.GenericPack name)) h n =
      gives_if_false _ (name_not p n.1.0 name s.Dots refl n.1.1) (generic_pack_complete p q span name h n)
  tail_complete p q (tree.the_type span _) h n = absurd n.1

  named_begins : (p a q : Place) (name : List ℕ) → TakesName set.rules p a name → Takes set.rules s.Colon a q → begins_named p ≡ true
  named_begins p a q name n d =
      and_from (sees s.Name p) (sees_behind s.Colon p) (name_sees p a name n)
      (takes_behind set.rules p a s.Name s.Colon (name_token set.rules p a name n) ∙ takes_sees set.rules a q s.Colon d)

  member_name_complete : Complete low (IsMemberName set inner) (read.member_name set readers)
  unfolding read.member_name
  member_name_complete p q true h n =
      let g = name_complete set low p n.0 n.1 h n.2 in
      let e = expect_takes set low s.Colon n.0 q g.1.level n.3 in
      gives_if_true _ (named_begins p n.0 q n.1 n.2 n.3) (gives_then _ (gives_then _ g (λ l. e.1)) (λ k. gives_ok k))
  member_name_complete p q false h n = gives_if_false _ n.0 (gives_here h n.1)

  member_of : (found : Members) (p q : Place) (t : TypeSyntax) (here : Bool) → low ≤ p.level → begins_tail p ≡ false
      → grammar.IsMember set.rules inner p q here t → Gives low p (read.member set readers found p) q (with_one found t here false)
  unfolding read.member
  member_of found p q t true h b n =
      gives_if_false _ b (gives_then _ (member_name_complete p n.1 true h (n.0, n.2, n.3, n.4)) (λ l.
      gives_then _ (complete.typ n.1 q t l n.5) (λ k. gives_ok k)))
  member_of found p q t false h b n =
      gives_if_false _ b (gives_then _ (member_name_complete p p false h (n.0, refl)) (λ l.
      gives_then _ (complete.typ p q t l n.1) (λ k. gives_ok k)))

  -- one of a list in parentheses, behind some of them
  member_complete : (found : Members) (p q : Place) (t : TypeSyntax) (here tailed : Bool) → low ≤ p.level
      → IsOne set inner p q t here tailed → Gives low p (read.member set readers found p) q (with_one found t here tailed)
  unfolding read.member
  member_complete found p q t here true h n =
      gives_if_true _ n.0 (gives_then _ (tail_complete p q t h n.2) (λ l.
      gives_same (ap (λ z. record { types = found.types ++ t ∷ []; named = z; tailed = true })
      (or_false found.named ∙ ap (λ z. found.named || z) (sym n.1))) (gives_ok l)))
  member_complete found p q t here false h n = member_of found p q t here h n.0 n.1

  another_complete : (found : Members) (p a q : Place) (t : TypeSyntax) (here tailed : Bool) → low ≤ p.level
      → Takes set.rules s.Comma p a → IsOne set inner a q t here tailed
      → Gives low p (read.another_member set readers found p) q (with_one found t here tailed)
  unfolding read.another_member
  another_complete found p a q t here tailed h n i =
      gives_expect set _ s.Comma p a h n (λ u l. member_complete found a q t here tailed l i)

  another_less : (p a q : Place) (t : TypeSyntax) (here tailed : Bool) → low ≤ p.level
      → Takes set.rules s.Comma p a → IsOne set inner a q t here tailed → length q.ahead < length p.ahead
  another_less p a q t here tailed h n i =
      let k = takes_taken set.rules p a s.Comma n in
      let l : low ≤ a.level = omega arith in
      let r : Reached low a q = (member_complete (record { types = []; named = false; tailed = false }) a q t here tailed l i).1 in
      omega arith

  others_loop : (ts : List TypeSyntax) (found : Members) (p q : Place) (named ends : Bool) → low ≤ p.level
      → AreOthers set inner found.tailed p q ts named ends
      → Loops low set goes_members (read.another_member set readers) found p q (behind_members found ts named ends)
  others_loop [] found p q named ends h n turns enough =
      gives_to n.1 (gives_same (members_same found named ends n.2 n.3)
      (loop_stop low set goes_members (read.another_member set readers) found p n.0 h turns enough))
  others_loop (t ∷ ts) found p q named ends h n turns enough =
      let one = with_one found t n.2 n.4 in
      let g = another_complete found p n.0 n.1 t n.2 n.4 h n.6 n.7 in
      gives_same (members_more found t ts n.2 n.4 n.3 named ends n.9)
      (loop_step low set goes_members (read.another_member set readers) found one (behind_members one ts n.3 ends) p n.1 q n.5 g
      (another_less p n.0 n.1 t n.2 n.4 h n.6 n.7)
      (others_loop ts one n.1 q n.3 ends g.1.level n.8) turns enough)

  members_from_complete : (found : Members) (ts : List TypeSyntax) (p q : Place) (named ends : Bool) → low ≤ p.level
      → AreOthers set inner found.tailed p q ts named ends
      → Gives low p (read.members_from set readers found p) q (behind_members found ts named ends)
  unfolding read.members_from
  members_from_complete found ts p q named ends h n =
      loop_done low set goes_members (read.another_member set readers) found (behind_members found ts named ends) p q
      (others_loop ts found p q named ends h n)

  abbrev empty : Members
  empty = record { types = []; named = false; tailed = false }

  members_complete : (p q : Place) (t : TypeSyntax) (ts : List TypeSyntax) (named ends : Bool) → low ≤ p.level
      → grammar.AreMembers set.rules inner p q t ts named ends
      → Gives low p (read.members set readers p) q (record { types = t ∷ ts; named = named; tailed = ends })
  unfolding read.members
  members_complete p q t ts named ends h n =
      let m = members_split set inner ts p q t named ends n in
      gives_same (ap (λ z. record { types = t ∷ ts; named = z; tailed = ends }) (sym m.6))
      (gives_then _ (member_complete empty p m.0 t m.1 m.2 h m.4) (λ l.
      members_from_complete (with_one empty t m.1 m.2) ts m.0 q m.3 ends l m.5))

  maybe_members_complete : (ts : List TypeSyntax) (p q : Place) (named ends : Bool) → low ≤ p.level
      → grammar.AreListed set.rules inner p q ts named ends
      → Gives low p (read.maybe_members set readers p) q (record { types = ts; named = named; tailed = ends })
  unfolding read.maybe_members
  maybe_members_complete [] p q named ends h n =
      gives_if_true _ n.0 (gives_same (ap₂ (λ y z. record { types = []; named = y; tailed = z }) (sym n.2) (sym n.3)) (gives_here h n.1))
  maybe_members_complete (t ∷ ts) p q named ends h n = gives_if_false _ n.0 (members_complete p q t ts named ends h n.1)

  pub listed_complete : Complete low (grammar.IsListed set.rules inner) (read.listed set readers)
  unfolding read.listed
  listed_complete p q l h n =
      gives_same (ap₂ (λ y z. record { start = y; end = z; types = l.types; named = l.named; tailed = l.tailed }) (sym n.starts) (sym n.ends))
      (gives_expect set _ s.LeftParen p n.first h n.opens (λ u k.
      gives_then _ (maybe_members_complete l.types n.first n.last l.named l.tailed k n.members) (λ i.
      gives_expect set _ s.RightParen n.last q i n.closes (λ v j. gives_ok j))))

  -- behind a list there is room for a type
  listed_bounded : (p q : Place) (l : Listed) → grammar.IsListed set.rules inner p q l → q.level ≤ set.limit
  listed_bounded p q l n =
      let b = takes_bounded set n.last q s.RightParen bounded n.closes in
      let t = takes_taken set.rules n.last q s.RightParen n.closes in
      omega arith

  after_list_complete : (l : Listed) (p q : Place) (t : TypeSyntax) → low ≤ p.level → p.level ≤ set.limit
      → (((is_type_front l p ≡ true) × inner.typ (Some l) p q t) ⊎ ((is_type_front l p ≡ false) × (q ≡ p) × (t ≡ pack_of l)))
      → Gives low p (read.after_list set readers l p) q t
  unfolding read.after_list
  after_list_complete l p q t h e (inl n) = gives_if_true _ n.0 (complete.begun l p q t h (e, n.1))
  after_list_complete l p q t h e (inr n) = gives_if_false _ n.0 (gives_same (sym n.2) (gives_here h n.1))

  unlisted_complete : (p q : Place) (t : TypeSyntax) → low ≤ p.level → sees s.LeftParen p ≡ false
      → (((begins_tail p ≡ true) × grammar.IsTail set.rules inner p q t) ⊎ ((begins_tail p ≡ false) × inner.typ None p q t))
      → Gives low p (read.result set readers p) q t
  unfolding read.result
  unlisted_complete p q t h e (inl n) = gives_if_false _ e (gives_if_true _ n.0 (tail_complete p q t h n.1))
  unlisted_complete p q t h e (inr n) = gives_if_false _ e (gives_if_false _ n.0 (complete.typ p q t h n.1))

  pub result_complete : Complete low (grammar.IsResult set.rules inner) (read.result set readers)
  unfolding read.result
  result_complete p q t h (inl n) =
      gives_if_true _ n.0 (gives_then _ (listed_complete p n.2 n.1 h n.3) (λ l.
      after_list_complete n.1 n.2 q t l (listed_bounded p n.2 n.1 n.3) n.4))
  result_complete p q t h (inr n) = unlisted_complete p q t h n.0 n.1

  abbrev IsResult : Place → Place → TypeSyntax → Type 0
  IsResult = grammar.IsResult set.rules inner

  some_results_complete : (p q : Place) (t : TypeSyntax) (ts : List TypeSyntax) → low ≤ p.level → sees s.Greater p ≡ false
      → AreSeparated set.rules IsResult p q t ts → Gives low p (read.maybe_results set readers p) q (types (t ∷ ts))
  unfolding read.maybe_results
  some_results_complete p q t ts h e n =
      gives_if_false _ e (gives_then _ (separated_complete low set IsResult (read.result set readers) result_complete p q (t ∷ ts) h n)
      (λ l. gives_ok l))

  no_results_complete : (p : Place) → low ≤ p.level → sees s.Greater p ≡ true → Gives low p (read.maybe_results set readers p) p tree.no_types
  unfolding read.maybe_results
  no_results_complete p h e = gives_if_true _ e (gives_ok h)

  arguments_complete : (p a b q : Place) (args : TypeSyntaxes) → low ≤ p.level → Takes set.rules s.Less p a
      → (low ≤ a.level → Gives low a (read.maybe_results set readers a) b args) → Takes set.rules s.Greater b q
      → Gives low p (read.type_arguments set readers p) q args
  unfolding read.type_arguments
  arguments_complete p a b q args h n g d =
      gives_if_true _ (takes_sees set.rules p a s.Less n)
      (gives_expect set _ s.Less p a h n (λ u l. gives_then _ (g l) (λ k. gives_expect set _ s.Greater b q k d (λ v j. gives_ok j))))

  pub type_arguments_complete : Complete low (grammar.AreTypeArguments set.rules inner) (read.type_arguments set readers)
  unfolding read.type_arguments
  type_arguments_complete p q args h (inl n) = gives_if_false _ n.0 (gives_same (sym n.2) (gives_here h n.1))
  type_arguments_complete p q args h (inr (inl n)) =
      gives_same (sym n.4) (arguments_complete p n.0 n.0 q tree.no_types h n.1 (λ l. no_results_complete n.0 l n.2) n.3)
  type_arguments_complete p q args h (inr (inr n)) =
      gives_same (sym n.8) (arguments_complete p n.0 n.1 q (types (n.2 ∷ n.3)) h n.4 (λ l. some_results_complete n.0 n.1 n.2 n.3 l n.5 n.6) n.7)

  default_complete : (may : Bool) → Complete low (grammar.IsDefault set.rules inner may) (read.default set readers may)
  unfolding read.default
  default_complete may p q tree.no_type h n = gives_if_false _ n.0 (gives_here h n.1)
  default_complete may p q (tree.a_type t) h n =
      gives_if_true _ (and_from may (sees s.Assign p) n.0 (takes_sees set.rules p n.1 s.Assign n.2))
      (gives_expect set _ s.Assign p n.1 h n.2 (λ u l. gives_then _ (result_complete n.1 q t l n.3) (λ k. gives_ok k)))

  mark_is : (p q : Place) (b : Bool) → grammar.IsPackMark set.rules inner p q b → IsEaten set.rules s.Dots p q b
  mark_is p q true n = n
  mark_is p q false n = n

  pub generic_complete : (may : Bool) → Complete low (grammar.IsGeneric set.rules inner may) (read.generic set readers may)
  unfolding read.generic
  generic_complete may p q (tree.the_gen name span pack given) h n =
      gives_same (ap (λ z. tree.the_gen name z pack given) (sym n.3))
      (gives_then _ (name_complete set low p n.0 name h n.2) (λ l.
      gives_then _ (eat_complete set low s.Dots n.0 n.1 pack l (mark_is n.0 n.1 pack n.4)) (λ k.
      gives_then _ (default_complete may n.1 q given k n.5) (λ j. gives_ok j))))

  generics_behind_complete : (may : Bool) (a b q : Place) (g : Gen) (gs : List Gen) → low ≤ a.level
      → AreSeparated set.rules (grammar.IsGeneric set.rules inner may) a b g gs → Takes set.rules s.Greater b q
      → Gives low a (read.generics_behind set readers may a) q (gens (g ∷ gs))
  unfolding read.generics_behind
  generics_behind_complete may a b q g gs h n d =
      gives_then _
      (separated_complete low set (grammar.IsGeneric set.rules inner may) (read.generic set readers may) (generic_complete may) a b (g ∷ gs) h n)
      (λ l. gives_expect set _ s.Greater b q l d (λ u k. gives_ok k))

  pub generics_complete : (may : Bool) → Complete low (grammar.AreGenerics set.rules inner may) (read.generics set readers may)
  unfolding read.generics
  generics_complete may p q all h (inl n) = gives_if_false _ n.0 (gives_same (sym n.2) (gives_here h n.1))
  generics_complete may p q all h (inr n) =
      gives_same (sym n.7) (gives_if_true _ (takes_sees set.rules p n.0 s.Less n.4)
      (gives_expect set _ s.Less p n.0 h n.4 (λ u l. generics_behind_complete may n.0 n.1 q n.2 n.3 l n.5 n.6)))

  -- the first word of a property is `write`
  write_sees : (p q : Place) → TakesName set.rules p q (codes "write") → sees_access (codes "read") p ≡ false
  write_sees p q n =
      and_left (sees_word (codes "read") p) (sees_behind s.Name p || sees_behind s.LeftBracket p)
      (word_not set.rules p q (codes "write") (codes "read") refl n)

  access_complete : Complete low (grammar.IsAccess set.rules inner) (read.access set readers)
  unfolding read.access
  access_complete p q Both h n = gives_if_false _ n.0 (gives_if_false _ n.1 (gives_here h n.2))
  access_complete p q Read h n =
      gives_if_true _ n.0 (gives_next set _ s.Name p q h (name_token set.rules p q (codes "read") n.1) (λ u l. gives_ok l))
  access_complete p q Write h n =
      gives_if_false _ (write_sees p q n.1) (gives_if_true _ n.0
      (gives_next set _ s.Name p q h (name_token set.rules p q (codes "write") n.1) (λ u l. gives_ok l)))

  indexer_complete : (p q : Place) (t : TypeSyntax) → low ≤ p.level → grammar.IsKey set.rules inner p q (tree.Indexer t)
      → Gives low p (read.indexer set readers p) q (tree.Indexer t)
  unfolding read.indexer
  indexer_complete p q t h n =
      gives_expect set _ s.LeftBracket p n.0 h n.3 (λ u l. gives_then _ (complete.typ n.0 n.1 t l n.4) (λ k.
      gives_expect set _ s.RightBracket n.1 n.2 k n.5 (λ v j. gives_expect set _ s.Colon n.2 q j n.6 (λ w i. gives_ok i))))

  property_name_complete : (p q : Place) (name : List ℕ) → low ≤ p.level → grammar.IsKey set.rules inner p q (tree.NameKey name)
      → Gives low p (read.property_name set readers p) q (tree.NameKey name)
  unfolding read.property_name
  property_name_complete p q name h n =
      gives_then _ (name_complete set low p n.0 name h n.1) (λ l. gives_expect set _ s.Colon n.0 q l n.2 (λ u k. gives_ok k))

  key_complete : Complete low (grammar.IsKey set.rules inner) (read.key set readers)
  unfolding read.key same
  key_complete p q (tree.NameKey name) h n =
      gives_if_false _ (name_not p n.0 name s.LeftBracket refl n.1) (property_name_complete p q name h n)
  key_complete p q (tree.Indexer t) h n =
      gives_if_true _ (takes_sees set.rules p n.0 s.LeftBracket n.3) (indexer_complete p q t h n)

  pub property_complete : Complete low (grammar.IsProperty set.rules inner) (read.property set readers)
  unfolding read.property
  property_complete p q (tree.the_prop how what t) h n =
      gives_then _ (access_complete p n.0 how h n.2) (λ l. gives_then _ (key_complete n.0 n.1 what l n.3) (λ k.
      gives_then _ (complete.typ n.1 q t k n.4) (λ j. gives_ok j)))

  array_complete : (from : ℕ) (a b q : Place) (t : TypeSyntax) → low ≤ a.level → inner.typ None a b t → Takes set.rules s.RightBrace b q
      → Gives low a (read.array set readers from a) q (tree.the_type (from_to from q) (tree.Array t))
  unfolding read.array
  array_complete from a b q t h n d =
      gives_then _ (complete.typ a b t h n) (λ l. gives_expect set _ s.RightBrace b q l d (λ u k. gives_ok k))

  table_complete : (from : ℕ) (a b q : Place) (xs : List Prop) → low ≤ a.level
      → IsBraced set.rules (grammar.IsProperty set.rules inner) a b xs → Takes set.rules s.RightBrace b q
      → Gives low a (read.table set readers from a) q (tree.the_type (from_to from q) (tree.TableType (props xs)))
  unfolding read.table
  table_complete from a b q xs h n d =
      let t = takes_taken set.rules b q s.RightBrace d in
      let some : 0 < length b.ahead = omega arith in
      let g = braced_complete low set (grammar.IsProperty set.rules inner) (read.property set readers) property_complete xs a b h n some in
      gives_then _ g.1 (λ l. gives_expect set _ s.RightBrace b q l d (λ u k. gives_ok k))

  -- `{` and a table behind it
  table_opens : (p a b q : Place) (xs : List Prop) → low ≤ p.level → Takes set.rules s.LeftBrace p a
      → (sees s.RightBrace a || begins_property a) ≡ true → IsBraced set.rules (grammar.IsProperty set.rules inner) a b xs
      → Takes set.rules s.RightBrace b q
      → Gives low p (read.table_or_array set readers p) q (tree.the_type (over p q) (tree.TableType (props xs)))
  unfolding read.table_or_array
  table_opens p a b q xs h n e m d =
      gives_expect set _ s.LeftBrace p a h n (λ u l. gives_if_true _ e (table_complete (start_of p) a b q xs l m d))

  table_form_complete : (p q : Place) (all : Props) → low ≤ p.level → grammar.IsTable set.rules inner p q all
      → Gives low p (read.table_or_array set readers p) q (tree.the_type (over p q) (tree.TableType all))
  table_form_complete p q all h (inl n) =
      gives_same (ap (λ z. tree.the_type (over p q) (tree.TableType z)) (sym n.4))
      (table_opens p n.0 n.0 q [] h n.1 (or_left (sees s.RightBrace n.0) (begins_property n.0) n.2) (n.2, refl) n.3)
  table_form_complete p q all h (inr n) =
      gives_same (ap (λ z. tree.the_type (over p q) (tree.TableType z)) (sym n.9))
      (table_opens p n.0 n.1 q (n.2 ∷ n.3) h n.4 (or_right (sees s.RightBrace n.0) (begins_property n.0) n.6) (n.5, n.7) n.8)

  array_form_complete : (p q : Place) (t : TypeSyntax) → low ≤ p.level → grammar.IsForm set.rules inner p q (tree.Array t)
      → Gives low p (read.table_or_array set readers p) q (tree.the_type (over p q) (tree.Array t))
  unfolding read.table_or_array
  array_form_complete p q t h n =
      gives_expect set _ s.LeftBrace p n.0 h n.2 (λ u l.
      gives_if_false _ (or_from (sees s.RightBrace n.0) (begins_property n.0) n.3 n.4)
      (array_complete (start_of p) n.0 n.1 q t l n.5 n.6))

  typeof_complete : (p q : Place) (e : Expr) → low ≤ p.level → grammar.IsForm set.rules inner p q (tree.Typeof e)
      → Gives low p (read.name_form set readers p) q (tree.the_type (over p q) (tree.Typeof e))
  unfolding read.name_form read.typeof_form
  typeof_complete p q e h n =
      gives_if_true _ n.3 (gives_expect set _ s.Name p n.0 h n.4 (λ u l. gives_expect set _ s.LeftParen n.0 n.1 l n.5 (λ v k.
      gives_then _ (complete.exp n.1 n.2 e k n.6) (λ j. gives_expect set _ s.RightParen n.2 q j n.7 (λ w i. gives_ok i)))))

  undotted_complete : (p q : Place) (name : List ℕ) (args : TypeSyntaxes) → low ≤ p.level
      → grammar.IsForm set.rules inner p q (tree.Named None name args)
      → Gives low p (read.name_form set readers p) q (tree.the_type (over p q) (tree.Named None name args))
  unfolding read.name_form read.named read.named_behind read.undotted
  undotted_complete p q name args h n =
      gives_if_false _ n.1 (gives_then _ (name_complete set low p n.0 name h n.2) (λ l.
      gives_if_false _ n.3 (gives_then _ (type_arguments_complete n.0 q args l n.4) (λ k. gives_ok k))))

  dotted_complete : (p q : Place) (prefix name : List ℕ) (args : TypeSyntaxes) → low ≤ p.level
      → grammar.IsForm set.rules inner p q (tree.Named (Some prefix) name args)
      → Gives low p (read.name_form set readers p) q (tree.the_type (over p q) (tree.Named (Some prefix) name args))
  unfolding read.name_form read.named read.named_behind read.dotted
  dotted_complete p q prefix name args h n =
      gives_if_false _ n.3 (gives_then _ (name_complete set low p n.0 prefix h n.4) (λ l.
      gives_if_true _ (takes_sees set.rules n.0 n.1 s.Dot n.5) (gives_expect set _ s.Dot n.0 n.1 l n.5 (λ u k.
      gives_then _ (name_complete set low n.1 n.2 name k n.6) (λ j. gives_then _ (type_arguments_complete n.2 q args j n.7) (λ i. gives_ok i))))))

  generic_function_complete : (p q : Place) (gs : Gens) (params : TypeSyntaxes) (r : TypeSyntax) → low ≤ p.level
      → grammar.IsForm set.rules inner p q (tree.Func gs params r)
      → Gives low p (read.generic_function set readers p) q (tree.the_type (over p q) (tree.Func gs params r))
  unfolding read.generic_function
  generic_function_complete p q gs params r h n =
      gives_same (ap (λ z. tree.the_type (over p q) (tree.Func gs z r)) (sym n.7))
      (gives_then _ (generics_complete false p n.0 gs h n.5) (λ l. gives_then _ (listed_complete n.0 n.1 n.3 l n.6) (λ k.
      gives_expect set _ s.Arrow n.1 n.2 k n.8 (λ u j. gives_then _ (result_complete n.2 q r j n.9) (λ i. gives_ok i)))))

  word_complete : (kind : TypeKind) (x : Symbol) (p q : Place) → low ≤ p.level → Takes set.rules x p q
      → Gives low p (read.word set readers kind p) q (tree.the_type (over p q) kind)
  unfolding read.word
  word_complete kind x p q h n = gives_next set _ x p q h n (λ u l. gives_ok l)

  literal_complete : (p q : Place) (value : List ℕ) → low ≤ p.level → TakesString set.rules s.Text p q value
      → Gives low p (read.literal set readers p) q (tree.the_type (over p q) (tree.StrType value))
  unfolding read.literal
  literal_complete p q value h n = gives_then _ (string_complete set low s.Text p q value h n) (λ l. gives_ok l)

  -- a form, by the symbol that it begins with
  form_by : (x : Symbol) (p q : Place) (t : TypeSyntax) → symbol p ≡ x → Gives low p (read.form_by set readers x p) q t
      → Gives low p (read.form set readers p) q t
  unfolding read.form
  form_by x p q t e g = subst (λ z. Gives low p (read.form_by set readers z p) q t) (sym e) g

  taken_form : (kind : TypeKind) (x : Symbol) (p a q : Place) → Takes set.rules x p a
      → Gives low p (read.form_by set readers x p) q (tree.the_type (over p q) kind)
      → Gives low p (read.form set readers p) q (tree.the_type (over p q) kind)
  taken_form kind x p a q n g = form_by x p q (tree.the_type (over p q) kind) (takes_symbol set.rules p a x n) g

  table_symbol : (p q : Place) (all : Props) → grammar.IsTable set.rules inner p q all → symbol p ≡ s.LeftBrace
  table_symbol p q all (inl n) = takes_symbol set.rules p n.0 s.LeftBrace n.1
  table_symbol p q all (inr n) = takes_symbol set.rules p n.0 s.LeftBrace n.4

  kind_complete : (kind : TypeKind) (p q : Place) → low ≤ p.level → grammar.IsForm set.rules inner p q kind
      → Gives low p (read.form set readers p) q (tree.the_type (over p q) kind)
  kind_complete tree.NilType p q h n = taken_form tree.NilType s.Nil p q q n (word_complete tree.NilType s.Nil p q h n)
  kind_complete (tree.BoolType true) p q h n =
      taken_form (tree.BoolType true) s.True p q q n (word_complete (tree.BoolType true) s.True p q h n)
  kind_complete (tree.BoolType false) p q h n =
      taken_form (tree.BoolType false) s.False p q q n (word_complete (tree.BoolType false) s.False p q h n)
  kind_complete (tree.StrType value) p q h n =
      taken_form (tree.StrType value) s.Text p q q (string_token set.rules p q s.Text value n) (literal_complete p q value h n)
  kind_complete (tree.Named None name args) p q h n =
      taken_form (tree.Named None name args) s.Name p n.0 q (name_token set.rules p n.0 name n.2) (undotted_complete p q name args h n)
  kind_complete (tree.Named (Some prefix) name args) p q h n =
      taken_form (tree.Named (Some prefix) name args) s.Name p n.0 q (name_token set.rules p n.0 prefix n.4)
      (dotted_complete p q prefix name args h n)
  kind_complete (tree.Typeof e) p q h n = taken_form (tree.Typeof e) s.Name p n.0 q n.4 (typeof_complete p q e h n)
  kind_complete (tree.Array t) p q h n = taken_form (tree.Array t) s.LeftBrace p n.0 q n.2 (array_form_complete p q t h n)
  kind_complete (tree.TableType all) p q h n =
      form_by s.LeftBrace p q (tree.the_type (over p q) (tree.TableType all)) (table_symbol p q all n) (table_form_complete p q all h n)
  kind_complete (tree.Func gs params r) p q h n =
      form_by s.Less p q (tree.the_type (over p q) (tree.Func gs params r)) (sees_symbol s.Less p n.4)
      (generic_function_complete p q gs params r h n)
  kind_complete _ p q h n = absurd n

  form_complete : Complete low (grammar.IsFormed set.rules inner) (read.form set readers)
  form_complete p q (tree.the_type span kind) h n =
      gives_same (ap (λ z. tree.the_type z kind) (sym n.0)) (kind_complete kind p q h n.1)

  function_behind_complete : (l : Listed) (p a q : Place) (r : TypeSyntax) → low ≤ p.level → Takes set.rules s.Arrow p a
      → IsResult a q r
      → Gives low p (read.function_behind set readers l p) q (tree.the_type (from_to l.start q) (tree.Func tree.no_gens (types l.types) r))
  unfolding read.function_behind
  function_behind_complete l p a q r h n i =
      gives_expect set _ s.Arrow p a h n (λ u k. gives_then _ (result_complete a q r k i) (λ j. gives_ok j))

  listed_type_complete : (l : Listed) → Complete low (grammar.IsListedType set.rules inner l) (read.listed_type set readers l)
  unfolding read.listed_type
  listed_type_complete l p q t h (inl n) =
      gives_same (sym n.4)
      (gives_if_true _ (takes_sees set.rules p n.0 s.Arrow n.2) (function_behind_complete l p n.0 q n.1 h n.2 n.3))
  listed_type_complete l p q t h (inr n) =
      gives_if_false _ n.0 (subst (λ o. Gives low p (read.only_in_parens set readers o p) q t) (sym n.1) (gives_here h n.2))

  plain_complete : (p q : Place) (t : TypeSyntax) → low ≤ p.level → grammar.IsBasic set.rules inner None p q t
      → Gives low p (read.basic set readers None p) q t
  unfolding read.basic
  plain_complete p q t h (inl n) =
      gives_if_true _ n.0 (gives_then _ (listed_complete p n.2 n.1 h n.3) (λ l. listed_type_complete n.1 n.2 q t l n.4))
  plain_complete p q t h (inr n) = gives_if_false _ n.0 (form_complete p q t h n.1)

  basic_complete : (begun : Option Listed) → Complete low (grammar.IsBasic set.rules inner begun) (read.basic set readers begun)
  unfolding read.basic
  basic_complete (Some l) p q t h n = listed_type_complete l p q t h n
  basic_complete None p q t h n = plain_complete p q t h n

  mark_complete : (from : ℕ) (t : TypeSyntax) (p a : Place) → low ≤ p.level → Takes set.rules s.Question p a
      → Gives low p (read.mark set readers from t p) (raised a) (tree.the_type (from_to from a) (tree.Optional t))
  unfolding read.mark
  mark_complete from t p a h n =
      let b = takes_bounded set p a s.Question bounded n in
      let k = takes_taken set.rules p a s.Question n in
      gives_expect set _ s.Question p a h n (λ u l.
      gives_then _ (raise_complete set low a (raised a) tt l (omega arith, refl)) (λ j. gives_ok j))

  mark_less : (p a : Place) → Takes set.rules s.Question p a → length (raised a).ahead < length p.ahead
  mark_less p a n =
      let k = takes_taken set.rules p a s.Question n in
      omega arith

  marks_loop : (from outer n : ℕ) (t u : TypeSyntax) (p q : Place) → low ≤ p.level → grammar.AreMarks set.rules inner from outer n p q t u
      → (b : Place) × (q ≡ at_level outer b) × Loops low set goes_marks (read.mark set readers from) t p b u
  marks_loop from outer zero t u p q h m =
      (p, m.1, λ turns enough. gives_same (sym m.2) (loop_stop low set goes_marks (read.mark set readers from) t p m.0 h turns enough))
  marks_loop from outer (suc n) t u p q h m =
      let one = tree.the_type (from_to from m.0) (tree.Optional t) in
      let g = mark_complete from t p m.0 h m.1 in
      let k = marks_loop from outer n one u (raised m.0) q g.1.level m.2 in (
        k.0,
        k.1,
        loop_step low set goes_marks (read.mark set readers from) t one u p (raised m.0) k.0 (takes_sees set.rules p m.0 s.Question m.1) g
            (mark_less p m.0 m.1) k.2,
      )

  marks_complete : (from n : ℕ) (t u : TypeSyntax) (p q : Place) → low ≤ p.level
      → grammar.AreMarks set.rules inner from p.level n p q t u → Gives low p (read.marks set readers from t p) q u
  unfolding read.marks read.all_marks
  marks_complete from n t u p q h m =
      let k = marks_loop from p.level n t u p q h m in
      gives_then _ (loop_done low set goes_marks (read.mark set readers from) t u p k.0 k.2) (λ l.
      gives_to k.1 (refl, record { level = h; ahead = omega arith }))

  option_complete : (begun : Option Listed) → Complete low (grammar.IsOption set.rules inner begun) (read.option set readers begun)
  unfolding read.option
  option_complete begun p q t h n =
      gives_then _ (basic_complete begun p n.0 n.2 h n.3) (λ l. marks_complete (begin_of begun p) n.1 n.2 t n.0 q l n.4)

  options_more : (sign : Symbol) (ts : List TypeSyntax) (p q : Place) → grammar.AreOptions set.rules inner sign p q ts
      → AreMore set.rules sign (grammar.IsOption set.rules inner None) p q ts
  options_more sign [] p q n = n
  options_more sign (t ∷ ts) p q n = (n.0, n.1, n.2, n.3, options_more sign ts n.1 q n.4)

  options_complete : (sign : Symbol) (first : TypeSyntax) (ts : List TypeSyntax) (p q : Place) → low ≤ p.level
      → grammar.AreOptions set.rules inner sign p q ts → Gives low p (read.options set readers sign first p) q (first ∷ ts)
  unfolding read.options read.options_from read.another_option
  options_complete sign first ts p q h n =
      loop_more_complete low set (grammar.IsOption set.rules inner None) (read.option set readers None) (option_complete None) sign
      (first ∷ []) ts p q h (options_more sign ts p q n)

  unjoined_complete : (from : ℕ) (first t : TypeSyntax) (p q : Place) → low ≤ p.level → sees s.Pipe p ≡ false → sees s.Ampersand p ≡ false
      → q ≡ p → t ≡ first → Gives low p (read.joined set readers from first p) q t
  unfolding read.joined
  unjoined_complete from first t p q h n m e i = gives_same (sym i) (gives_if_false _ n (gives_if_false _ m (gives_here h e)))

  joined_complete : (from : ℕ) (first t : TypeSyntax) (p q : Place) → low ≤ p.level → grammar.IsJoined set.rules inner from p q first t
      → Gives low p (read.joined set readers from first p) q t
  unfolding read.joined read.union_behind read.meet_behind
  joined_complete from first t p q h (inl n) =
      gives_same (sym n.3) (gives_if_true _ n.0 (gives_then _ (options_complete s.Pipe first n.1 p q h n.2) (λ l. gives_ok l)))
  joined_complete from first t p q h (inr (inl n)) =
      gives_same (sym n.4) (gives_if_false _ n.0 (gives_if_true _ n.1
      (gives_then _ (options_complete s.Ampersand first n.2 p q h n.3) (λ l. gives_ok l))))
  joined_complete from first t p q h (inr (inr n)) = unjoined_complete from first t p q h n.0 n.1 n.2 n.3

  no_list_bar : (p q : Place) → low ≤ p.level → grammar.IsBar set.rules inner None p q → Gives low p (read.bar set readers None p) q tt
  unfolding read.bar
  no_list_bar p q h (inl (inl n)) =
      gives_if_true _ (or_left (sees s.Pipe p) (sees s.Ampersand p) (takes_sees set.rules p q s.Pipe n))
      (gives_next set _ s.Pipe p q h n (λ u l. gives_ok l))
  no_list_bar p q h (inl (inr n)) =
      gives_if_true _ (or_right (sees s.Pipe p) (sees s.Ampersand p) (takes_sees set.rules p q s.Ampersand n))
      (gives_next set _ s.Ampersand p q h n (λ u l. gives_ok l))
  no_list_bar p q h (inr n) = gives_if_false _ (or_from (sees s.Pipe p) (sees s.Ampersand p) n.0 n.1) (gives_here h n.2)

  bar_complete : (begun : Option Listed) (p q : Place) → low ≤ p.level → grammar.IsBar set.rules inner begun p q
      → Gives low p (read.bar set readers begun p) q tt
  unfolding read.bar
  bar_complete (Some l) p q h n = gives_here h n
  bar_complete None p q h n = no_list_bar p q h n

  -- a type, behind a list in parentheses or not
  pub type_inside_complete : (begun : Option Listed) → Complete low (grammar.IsType set.rules inner begun) (read.type_inside set readers begun)
  unfolding read.type_inside
  type_inside_complete begun p q t h n =
      gives_then _ (bar_complete begun p n.0 h n.3) (λ l. gives_then _ (option_complete begun n.0 n.1 n.2 l n.4) (λ k.
      joined_complete (begin_of begun n.0) n.2 t n.1 q k n.5))

-- a type without a list before it begins with a token, so at a level up to the limit
module _ (set : Setting) (inner : Phrases) (bounded : Bounded set) where
  generics_bounded : (p q : Place) (gs : Gens) → sees s.Less p ≡ true → grammar.AreGenerics set.rules inner false p q gs → p.level ≤ set.limit
  generics_bounded p q gs h (inl n) = absurd (true≢false (sym h ∙ n.0))
  generics_bounded p q gs h (inr n) = takes_bounded set p n.0 s.Less bounded n.4

  table_bounded : (p q : Place) (all : Props) → grammar.IsTable set.rules inner p q all → p.level ≤ set.limit
  table_bounded p q all (inl n) = takes_bounded set p n.0 s.LeftBrace bounded n.1
  table_bounded p q all (inr n) = takes_bounded set p n.0 s.LeftBrace bounded n.4

  form_bounded : (kind : TypeKind) (p q : Place) → grammar.IsForm set.rules inner p q kind → p.level ≤ set.limit
  form_bounded tree.NilType p q n = takes_bounded set p q s.Nil bounded n
  form_bounded (tree.BoolType true) p q n = takes_bounded set p q s.True bounded n
  form_bounded (tree.BoolType false) p q n = takes_bounded set p q s.False bounded n
  form_bounded (tree.StrType value) p q n = takes_bounded set p q s.Text bounded (string_token set.rules p q s.Text value n)
  form_bounded (tree.Named None name args) p q n = takes_bounded set p n.0 s.Name bounded (name_token set.rules p n.0 name n.2)
  form_bounded (tree.Named (Some prefix) name args) p q n = takes_bounded set p n.0 s.Name bounded (name_token set.rules p n.0 prefix n.4)
  form_bounded (tree.Typeof e) p q n = takes_bounded set p n.0 s.Name bounded n.4
  form_bounded (tree.Array t) p q n = takes_bounded set p n.0 s.LeftBrace bounded n.2
  form_bounded (tree.TableType all) p q n = table_bounded p q all n
  form_bounded (tree.Func gs params r) p q n = generics_bounded p n.0 gs n.4 n.5
  form_bounded _ p q n = absurd n

  formed_bounded : (t : TypeSyntax) (p q : Place) → grammar.IsFormed set.rules inner p q t → p.level ≤ set.limit
  formed_bounded (tree.the_type span kind) p q n = form_bounded kind p q n.1

  basic_bounded : (p q : Place) (t : TypeSyntax) → grammar.IsBasic set.rules inner None p q t → p.level ≤ set.limit
  basic_bounded p q t (inl n) = takes_bounded set p n.3.first s.LeftParen bounded n.3.opens
  basic_bounded p q t (inr n) = formed_bounded t p q n.1

  bar_bounded : (p a b : Place) (t : TypeSyntax) → grammar.IsBar set.rules inner None p a → grammar.IsBasic set.rules inner None a b t
      → p.level ≤ set.limit
  bar_bounded p a b t (inl (inl n)) i = takes_bounded set p a s.Pipe bounded n
  bar_bounded p a b t (inl (inr n)) i = takes_bounded set p a s.Ampersand bounded n
  bar_bounded p a b t (inr n) i = subst (λ (z : Place). z.level ≤ set.limit) n.2 (basic_bounded a b t i)

  pub type_bounded : (p q : Place) (t : TypeSyntax) → grammar.IsType set.rules inner None p q t → p.level ≤ set.limit
  type_bounded p q t n = bar_bounded p n.0 n.4.0 n.4.2 n.3 n.4.3
