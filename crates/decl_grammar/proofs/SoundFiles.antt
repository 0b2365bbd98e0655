-- Declaration files: what the parsers read is what the grammar says.
use Rattle.std.proofs.Common.{◌≡◌, ℕ, Bool, true, false, true≢false, not, ◌⊎◌, inl, inr, List, [], ◌∷◌, ◌++◌, append_assoc, append-nil, codes, refl, sym, ◌∙◌, ap, subst}
use Rattle.std.proofs.lemmas.Bool.{not-false}
use Rattle.std.specs.Prelude.{Option, Some, None}
use Rattle.luau_tree.specs.Tree.{TypeSyntax, TypeKind}
use Rattle.luau_tree.specs.Tree as tree
use Rattle.luau_grammar.specs.declared.symbol.Symbol.TheVariants as s
use Rattle.luau_grammar.specs.Places.{Place, sees, Takes, TakesName}
use Rattle.luau_grammar.specs.Phrases.{Phrases, Listed}
use Rattle.luau_grammar.specs.Types as types
use Rattle.luau_grammar.specs.Types.{is_type_front, goes_on}
use Rattle.luau_grammar.specs.Reading.{Setting, Readers}
use Rattle.luau_grammar.proofs.Agreement.{Sound, SoundPhrases}
use Rattle.luau_grammar.proofs.Primitives.{Reads, reads_ok, reads_err, reads_if, reads_then, reads_weaker, expect_sound, name_sound, next_word}
use Rattle.luau_grammar.proofs.SoundLists.{repeat_sound}
use Rattle.luau_grammar.proofs.SoundTypes.{listed_sound}
use Rattle.luau_grammar.proofs.OneTree.{at_end}
use Rattle.decl_grammar.specs.Declarations.{TypeList}
use Rattle.decl_grammar.specs.Files as grammar
use Rattle.decl_grammar.specs.ReadFiles as read
use Rattle.decl_grammar.proofs.Gathered.{Repeats, gathered_sound}
use Rattle.decl_grammar.proofs.Options.{or_false_parts, some_same, none_not_some, map_some}

-- some types behind others
abbrev pub joined : TypeList → List TypeSyntax → Option TypeSyntax → TypeList
joined found ts rest = record { types = found.types ++ ts; rest = rest }

-- a list in parentheses goes on as a type exactly where the list of its types does
front_of : (named tailed : Bool) (start end : ℕ) (ts : List TypeSyntax) (list : TypeList) (a : Place) → read.unnamed_list named (read.tailed_list tailed ts) ≡ Some list
    → grammar.is_type_begin list a ≡ is_type_front (record { start = start; end = end; types = ts; named = named; tailed = tailed }) a
front_of true tailed start end ts list a e = absurd (none_not_some e)
front_of false false start end ts list a e = sym (ap (λ (z : TypeList). grammar.is_type_begin z a) (some_same e))
front_of false true start end ts list a e =
    let m = map_some (λ (found : List TypeSyntax × TypeSyntax). record { types = found.0; rest = Some found.1 }) (read.with_tail ts) list e in
    sym (ap (λ (z : TypeList). grammar.is_type_begin z a) m.2)

pub plain_front : (l : Listed) (list : TypeList) (a : Place) → read.plain_list l ≡ Some list → grammar.is_type_begin list a ≡ is_type_front l a
plain_front l list a e = front_of l.named l.tailed l.start l.end l.types list a e

module _ (set : Setting) (inner : Phrases) (readers : Readers) where
  word_sound : (bytes : List ℕ) → Sound (λ p q u. TakesName set.rules p q bytes) (read.word set bytes)
  unfolding read.word
  word_sound bytes p = reads_if _ (λ h. reads_then (next_word set bytes p h) (λ a t n. reads_ok _ n)) (λ h. reads_err _)

  mark_named_sound : Sound (λ p q m. TakesName set.rules p q (grammar.mark_name m)) (read.mark_named set)
  unfolding read.mark_named
  mark_named_sound p =
      reads_if _ (λ h. reads_then (next_word set (codes "checked") p h) (λ a t n. reads_ok _ n))
      (λ h. reads_then (word_sound (codes "quiet") p) (λ a u n. reads_ok _ n))

  mark_sound : Sound (grammar.IsMark set.rules inner) (read.mark set)
  unfolding read.mark
  mark_sound p = reads_then (expect_sound set s.AtSign p) (λ a t n. reads_weaker (mark_named_sound a) (λ q m k. (a, n, k)))

  marks_repeat : Repeats (sees s.AtSign) (grammar.IsMark set.rules inner) (grammar.AreMarks set.rules inner)
  marks_repeat = record {
    stop = λ p h. (h, refl);
    more = λ p a q m ms h n k. (a, n, k);
  }

  marks_sound : Sound (grammar.AreMarks set.rules inner) (read.marks set)
  unfolding read.marks
  marks_sound = gathered_sound set (sees s.AtSign) (grammar.IsMark set.rules inner) (grammar.AreMarks set.rules inner) (read.mark set) marks_repeat mark_sound

  path_sound : Sound (grammar.IsPath set.rules inner) (read.path set)
  unfolding read.path read.path_behind
  path_sound p =
      reads_then (name_sound set p) (λ a first n.
      reads_if (sees s.Dot a)
      (λ h. reads_then (expect_sound set s.Dot a) (λ b t d. reads_then (name_sound set b) (λ c name k. reads_ok _ (inr (a, b, first, name, n, d, k, refl)))))
      (λ h. reads_ok _ (inl (n, h))))

  -- types behind a first one, each behind a comma
  abbrev pub AreOthers : Place → Place → List TypeSyntax → Option TypeSyntax → Type 0
  AreOthers p q [] None = (sees s.Comma p ≡ false) × (q ≡ p)
  AreOthers p q [] (Some rest) = (a b : Place) × Takes set.rules s.Comma p a × Takes set.rules s.Dots a b × inner.typ None b q rest
  AreOthers p q (t ∷ ts) rest = (a b : Place) × Takes set.rules s.Comma p a × inner.typ None a b t × AreOthers b q ts rest

  pub others_join : (ts : List TypeSyntax) (rest : Option TypeSyntax) (p a q : Place) (t : TypeSyntax) → inner.typ None p a t → AreOthers a q ts rest
      → grammar.AreTypesFrom set.rules inner p q t ts rest
  others_join [] None p a q t i n = subst (λ z. inner.typ None p z t × (sees s.Comma z ≡ false)) (sym n.1) (i, n.0)
  others_join [] (Some rest) p a q t i n = (a, n.0, n.1, i, n.2, n.3, n.4)
  others_join (u ∷ us) rest p a q t i n = (a, n.0, i, n.2, others_join us rest n.0 n.1 q u n.3 n.4)

  pub others_split : (ts : List TypeSyntax) (rest : Option TypeSyntax) (p q : Place) (t : TypeSyntax) → grammar.AreTypesFrom set.rules inner p q t ts rest
      → (a : Place) × inner.typ None p a t × AreOthers a q ts rest
  others_split [] None p q t n = (q, n.0, (n.1, refl))
  others_split [] (Some rest) p q t n = (n.0, n.3, (n.1, n.2, n.4, n.5, n.6))
  others_split (u ∷ us) rest p q t n =
      let m = others_split us rest n.1 q u n.4 in
      (n.0, n.2, (n.1, m.0, n.3, m.1, m.2))

  -- one more of a list that is open: the type behind the dots, or another one
  abbrev pub IsItem : List TypeSyntax → Place → Place → TypeList → Type 0
  IsItem found p q next =
      ((a : Place) × (t : TypeSyntax) × Takes set.rules s.Dots p a × inner.typ None a q t × (next ≡ record { types = found; rest = Some t }))
      ⊎ ((t : TypeSyntax) × inner.typ None p q t × (next ≡ record { types = found ++ t ∷ []; rest = None }))

  -- what stands behind types, where the list may have ended
  abbrev pub IsBehind : List TypeSyntax → Option TypeSyntax → Place → Place → TypeList → Type 0
  IsBehind found (Some rest) p q all = (all ≡ record { types = found; rest = Some rest }) × (q ≡ p)
  IsBehind found None p q all = (ts : List TypeSyntax) × (rest : Option TypeSyntax) × (all ≡ record { types = found ++ ts; rest = rest }) × AreOthers p q ts rest

  AllBehind : TypeList → Place → Place → TypeList → Type 0
  AllBehind found p q all = IsBehind found.types found.rest p q all

  IsAnother : TypeList → Place → Place → TypeList → Type 0
  IsAnother found p q next = (a : Place) × Takes set.rules s.Comma p a × IsItem found.types a q next

  behind_stop : (found : List TypeSyntax) (rest : Option TypeSyntax) (p : Place) → read.goes_types (record { types = found; rest = rest }) p ≡ false
      → IsBehind found rest p p (record { types = found; rest = rest })
  behind_stop found None p h = ([], None, ap (λ ts. record { types = ts; rest = None }) (sym (append-nil found)), (h, refl))
  behind_stop found (Some rest) p h = (refl, refl)

  item_more : (found : List TypeSyntax) (next all : TypeList) (p b a q : Place) → Takes set.rules s.Comma p b → IsItem found b a next → AllBehind next a q all → IsBehind found None p q all
  unfolding AllBehind
  item_more found next all p b a q c (inl n) k =
      let m = subst (λ (z : TypeList). IsBehind z.types z.rest a q all) n.4 k in
      ([], Some n.1, m.0 ∙ ap (λ ts. record { types = ts; rest = Some n.1 }) (sym (append-nil found)), (b, n.0, c, n.2, subst (λ z. inner.typ None n.0 z n.1) (sym m.1) n.3))
  item_more found next all p b a q c (inr n) k =
      let m = subst (λ (z : TypeList). IsBehind z.types z.rest a q all) n.2 k in
      (n.0 ∷ m.0, m.1, m.2 ∙ ap (λ ts. record { types = ts; rest = m.1 }) (append_assoc found (n.0 ∷ []) m.0), (b, a, c, n.1, m.3))

  behind_more : (found : List TypeSyntax) (rest : Option TypeSyntax) (next all : TypeList) (p a q : Place) → read.goes_types (record { types = found; rest = rest }) p ≡ true
      → IsAnother (record { types = found; rest = rest }) p a next → AllBehind next a q all → IsBehind found rest p q all
  unfolding IsAnother
  behind_more found None next all p a q h n k = item_more found next all p n.0 a q n.1 n.2 k
  behind_more found (Some rest) next all p a q h n k = absurd (true≢false (sym h))

  one_type_sound : SoundPhrases set inner readers → (found : TypeList) → Sound (IsItem found.types) (read.one_type set readers found)
  unfolding read.one_type
  one_type_sound held found p =
      reads_if (sees s.Dots p)
      (λ h. reads_then (expect_sound set s.Dots p) (λ a t n. reads_then (held.typ None a) (λ b u i. reads_ok _ (inl (a, u, n, i, refl)))))
      (λ h. reads_then (held.typ None p) (λ b u i. reads_ok _ (inr (u, i, refl))))

  another_sound : SoundPhrases set inner readers → (found : TypeList) → Sound (IsAnother found) (read.another_type set readers found)
  unfolding IsAnother
  another_sound held found p = reads_then (expect_sound set s.Comma p) (λ a t n. reads_weaker (one_type_sound held found a) (λ q l k. (a, n, k)))

  types_from_sound : SoundPhrases set inner readers → (found : TypeList) → Sound (AllBehind found) (read.types_from set readers found)
  unfolding read.types_from AllBehind
  types_from_sound held found =
      repeat_sound set read.goes_types (read.another_type set readers) IsAnother AllBehind
      (λ x p h. behind_stop x.types x.rest p h) (λ x y z p a q h n k. behind_more x.types x.rest y z p a q h n k) (another_sound held) found

  first_join : (p a q : Place) (first all : TypeList) → IsItem [] p a first → AllBehind first a q all → grammar.AreTypes set.rules inner p q all.types all.rest
  unfolding AllBehind
  first_join p a q first all (inl n) k =
      let m = subst (λ (z : TypeList). IsBehind z.types z.rest a q all) n.4 k in
      subst (λ (z : TypeList). grammar.AreTypes set.rules inner p q z.types z.rest) (sym m.0) (n.0, n.2, subst (λ z. inner.typ None n.0 z n.1) (sym m.1) n.3)
  first_join p a q first all (inr n) k =
      let m = subst (λ (z : TypeList). IsBehind z.types z.rest a q all) n.2 k in
      subst (λ (z : TypeList). grammar.AreTypes set.rules inner p q z.types z.rest) (sym m.2) (others_join m.0 m.1 p a q n.0 n.1 m.3)

  types_sound : SoundPhrases set inner readers → Sound (λ p q l. grammar.AreTypes set.rules inner p q l.types l.rest) (read.types set readers)
  unfolding read.types
  types_sound held p =
      reads_if (sees s.RightParen p) (λ h. reads_ok _ (h, refl))
      (λ h. reads_then (one_type_sound held read.no_list p) (λ a first n. reads_weaker (types_from_sound held first a) (λ q all k. first_join p a q first all n k)))

  type_list_sound : SoundPhrases set inner readers → Sound (grammar.IsTypeList set.rules inner) (read.type_list set readers)
  unfolding read.type_list
  type_list_sound held p =
      reads_then (expect_sound set s.LeftParen p) (λ a t n.
      reads_then (types_sound held a) (λ b l k.
      reads_then (expect_sound set s.RightParen b) (λ c u m.
      reads_ok _ (record { first = a; last = b; opens = n; types = k; closes = m }))))

  -- a list without names and a tail
  members_types : (ts : List TypeSyntax) (p q : Place) (t : TypeSyntax) → types.AreMembers set.rules inner p q t ts false false
      → grammar.AreTypesFrom set.rules inner p q t ts None
  members_types [] p q t n = (n.1.1, n.2)
  members_types (u ∷ us) p q t n =
      let parts = or_false_parts n.2 n.3 (sym n.8) in (
        n.0,
        n.1,
        (subst (λ here. types.IsMember set.rules inner p n.0 here t) parts.0 n.5).1,
        n.6,
        members_types us n.1 q u (subst (λ later. types.AreMembers set.rules inner n.1 q u us later false) parts.1 n.7),
      )

  -- a tail behind dots
  tail_of : (t : TypeSyntax) (p q : Place) (found : List TypeSyntax × TypeSyntax) → types.IsTail set.rules inner p q t
      → read.with_tail (t ∷ []) ≡ Some found → grammar.AreTypes set.rules inner p q found.0 (Some found.1)
  tail_of (tree.the_type span (tree.Variadic t)) p q found n e =
      subst (λ (z : List TypeSyntax × TypeSyntax). grammar.AreTypes set.rules inner p q z.0 (Some z.1)) (some_same e) n.1
  tail_of (tree.the_type span (tree.GenericPack name)) p q found n e = absurd (none_not_some e)
  tail_of (tree.the_type span _) p q found n e = absurd n.1

  -- one more type before others with a tail
  tail_before : (ts : List TypeSyntax) (rest t : TypeSyntax) (p a b q : Place) → inner.typ None p a t → Takes set.rules s.Comma a b
      → grammar.AreTypes set.rules inner b q ts (Some rest) → grammar.AreTypesFrom set.rules inner p q t ts (Some rest)
  tail_before [] rest t p a b q i c n = (a, b, n.0, i, c, n.1, n.2)
  tail_before (u ∷ us) rest t p a b q i c n = (a, b, i, c, n)

  -- a list without names and with a tail
  members_tailed : (ts : List TypeSyntax) (p q : Place) (t : TypeSyntax) (found : List TypeSyntax × TypeSyntax) → types.AreMembers set.rules inner p q t ts false true
      → read.with_tail (t ∷ ts) ≡ Some found → grammar.AreTypes set.rules inner p q found.0 (Some found.1)
  members_tailed [] p q t found n e = tail_of t p q found n.2 e
  members_tailed (u ∷ us) p q t found n e =
      let parts = or_false_parts n.2 n.3 (sym n.8) in
      let m = map_some (λ (found : List TypeSyntax × TypeSyntax). (t ∷ found.0, found.1)) (read.with_tail (u ∷ us)) found e in
      let later = members_tailed us n.1 q u m.0 (subst (λ later. types.AreMembers set.rules inner n.1 q u us later true) parts.1 n.7) m.1 in
      subst (λ (z : List TypeSyntax × TypeSyntax). grammar.AreTypes set.rules inner p q z.0 (Some z.1)) m.2
      (tail_before m.0.0 m.0.1 t p n.0 n.1 q (subst (λ here. types.IsMember set.rules inner p n.0 here t) parts.0 n.5).1 n.6 later)

  listed_types : (ts : List TypeSyntax) (tailed : Bool) (p q : Place) (list : TypeList) → types.AreListed set.rules inner p q ts false tailed
      → read.tailed_list tailed ts ≡ Some list → grammar.AreTypes set.rules inner p q list.types list.rest
  listed_types [] false p q list n e = subst (λ (z : TypeList). grammar.AreTypes set.rules inner p q z.types z.rest) (some_same e) (n.0, n.1)
  listed_types [] true p q list n e = absurd (true≢false n.3)
  listed_types (t ∷ ts) false p q list n e =
      subst (λ (z : TypeList). grammar.AreTypes set.rules inner p q z.types z.rest) (some_same e) (members_types ts p q t n.1)
  listed_types (t ∷ ts) true p q list n e =
      let m = map_some (λ (found : List TypeSyntax × TypeSyntax). record { types = found.0; rest = Some found.1 }) (read.with_tail (t ∷ ts)) list e in
      subst (λ (z : TypeList). grammar.AreTypes set.rules inner p q z.types z.rest) m.2 (members_tailed ts p q t m.0 n.1 m.1)

  plain_types : (named : Bool) (ts : List TypeSyntax) (tailed : Bool) (p q : Place) (list : TypeList) → types.AreListed set.rules inner p q ts named tailed
      → read.unnamed_list named (read.tailed_list tailed ts) ≡ Some list → grammar.AreTypes set.rules inner p q list.types list.rest
  plain_types false ts tailed p q list n e = listed_types ts tailed p q list n e
  plain_types true ts tailed p q list n e = absurd (none_not_some e)

  plain_sound : (l : Listed) (p q : Place) (list : TypeList) → types.IsListed set.rules inner p q l → read.plain_list l ≡ Some list → grammar.IsTypeList set.rules inner p q list
  plain_sound l p q list n e = record { first = n.first; last = n.last; opens = n.opens; types = plain_types l.named l.types l.tailed n.first n.last list n.members e; closes = n.closes }

  plain_reads : (l : Listed) (p a : Place) → types.IsListed set.rules inner p a l → is_type_front l a ≡ false → (o : Option TypeList) → read.plain_list l ≡ o
      → Reads (grammar.AreResults set.rules inner p) (read.plain_or_refused set readers o a)
  plain_reads l p a n h None e = reads_err _
  plain_reads l p a n h (Some list) e = reads_ok _ (inr (inr (plain_sound l p a list n e, plain_front l list a e ∙ h)))

  results_sound : SoundPhrases set inner readers → Sound (grammar.AreResults set.rules inner) (read.results set readers)
  unfolding read.results read.results_behind
  results_sound held p =
      reads_if (sees s.LeftParen p)
      (λ h. reads_then (listed_sound set inner readers held p) (λ a l n.
      reads_if (is_type_front l a)
      (λ g. reads_then (held.typ (Some l) a) (λ b t i. reads_ok _ (inr (inl (a, l, t, n, g, i, refl)))))
      (λ g. plain_reads l p a n g (read.plain_list l) refl)))
      (λ h. reads_then (held.typ None p) (λ b t i. reads_ok _ (inl (h, t, i, refl))))

  pub declaration_sound : SoundPhrases set inner readers → Sound (grammar.IsDeclaration set.rules inner) (read.declaration set readers)
  unfolding read.declaration
  declaration_sound held p =
      reads_then (marks_sound p) (λ a ms m.
      reads_then (word_sound (codes "declare") a) (λ b u w.
      reads_then (expect_sound set s.Function b) (λ c t f.
      reads_then (path_sound c) (λ d path n.
      reads_then (type_list_sound held d) (λ e params k.
      reads_then (expect_sound set s.Colon e) (λ g v o.
      reads_then (results_sound held g) (λ q results r.
      reads_ok _ (record { marked = a; declared = b; named = c; listed = d; behind = e; colon = g; marks = m; word = w; function = f; at = refl; path = n; params = k; colon_sign = o; results = r }))))))))

  file_repeat : Repeats (λ p. not (sees s.Stop p)) (grammar.IsDeclaration set.rules inner) (grammar.AreDeclarations set.rules inner)
  file_repeat = record {
    stop = λ p h. (at_end p (not-false (sees s.Stop p) h), refl);
    more = λ p a q d ds h n k. (a, n, k);
  }

  pub declarations_sound : SoundPhrases set inner readers → Sound (grammar.AreDeclarations set.rules inner) (read.gathered set (λ p. not (sees s.Stop p)) (read.declaration set readers))
  declarations_sound held =
      gathered_sound set (λ p. not (sees s.Stop p)) (grammar.IsDeclaration set.rules inner) (grammar.AreDeclarations set.rules inner) (read.declaration set readers) file_repeat (declaration_sound held)
