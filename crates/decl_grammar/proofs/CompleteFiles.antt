-- Declaration files: what the grammar says is read.
use Rattle.std.proofs.Common.{◌≡◌, ℕ, ◌≤◌, ◌<◌, Bool, true, false, true≢false, not, ◌&&◌, ◌||◌, inl, inr, List, [], ◌∷◌, ◌++◌, length, append_assoc, append-nil, codes, refl, sym, ◌∙◌, ap, subst, arith}
use Rattle.std.proofs.lemmas.Bool.{and_parts, or_left}
use Rattle.std.specs.Prelude.{Option, Some, None, option_map}
use Rattle.luau_tree.specs.Tree.{TypeSyntax}
use Rattle.luau_tree.specs.Tree as tree
use Rattle.luau_grammar.specs.declared.symbol.Symbol.{Symbol}
use Rattle.luau_grammar.specs.declared.symbol.Symbol.TheVariants as s
use Rattle.luau_grammar.specs.Symbols.{same}
use Rattle.luau_grammar.specs.Places.{Place, symbol, sees, sees_behind, start_of, over, Takes, TakesName}
use Rattle.luau_grammar.specs.Phrases.{Phrases, Listed}
use Rattle.luau_grammar.specs.Types as types
use Rattle.luau_grammar.specs.Types.{is_type_front, begins_named, begins_tail}
use Rattle.luau_grammar.specs.Reading.{Setting, Readers}
use Rattle.luau_grammar.specs.ReadPhrases.{begins_type}
use Rattle.luau_grammar.proofs.Agreement.{Bounded, Complete, CompletePhrases, Reached}
use Rattle.luau_grammar.proofs.Primitives.{Gives, gives_ok, gives_to, gives_same, gives_here, gives_then, gives_if_true, gives_if_false, gives_expect, gives_next, takes_taken, takes_sees, takes_not, takes_bounded, name_token, name_complete, word_sees, word_not, sees_symbol, sees_by}
use Rattle.luau_grammar.proofs.CompleteLists.{Loops, loop_stop, loop_step, loop_last, loop_done}
use Rattle.luau_grammar.proofs.CompleteTypes.{listed_complete}
use Rattle.luau_grammar.proofs.OneTree.{end_seen}
use Rattle.decl_grammar.specs.declared.mark.Mark.{Mark}
use Rattle.decl_grammar.specs.declared.mark.Mark.TheVariants.{Checked, Quiet}
use Rattle.decl_grammar.specs.Declarations.{TypeList, Declaration}
use Rattle.decl_grammar.specs.Files as grammar
use Rattle.decl_grammar.specs.ReadFiles as read
use Rattle.decl_grammar.proofs.Gathered.{Unrolls, gathered_complete}
use Rattle.decl_grammar.proofs.Options.{some_same, map_some}
use Rattle.decl_grammar.proofs.SoundFiles.{AreOthers, others_split, plain_front}

-- What types say of the tokens at which they begin and end.
pub record PlainTypes (inner : Phrases) : Type 0 where
  pub begins : (p q : Place) (t : TypeSyntax) → inner.typ None p q t → begins_type (symbol p) ≡ true
  pub colon : (p q : Place) (t : TypeSyntax) → sees s.Name p ≡ true → sees_behind s.Colon p ≡ true → inner.typ None p q t → sees s.Colon q ≡ true
  pub dots : (p q : Place) (t : TypeSyntax) → sees s.Name p ≡ true → sees_behind s.Dots p ≡ true → inner.typ None p q t → sees s.Dots q ≡ true

-- what begins no type isn't seen where one begins
begins_not : (y : Symbol) (p : Place) → begins_type y ≡ false → begins_type (symbol p) ≡ true → sees y p ≡ false
begins_not y p h e = go (sees y p) refl
  where
    go : (b : Bool) → sees y p ≡ b → sees y p ≡ false
    go true k = absurd (true≢false (sym e ∙ (ap begins_type (sees_symbol y p k) ∙ h)))
    go false k = k

both_false : (a b : Bool) → a ≡ false → b ≡ false → (a || b) ≡ false
both_false a b e f = ap (λ z. z || b) e ∙ f

-- a list with one more type before the others
longer : (tailed : Bool) (t u : TypeSyntax) (us : List TypeSyntax) (list : TypeList) → read.tailed_list tailed (u ∷ us) ≡ Some list
    → read.tailed_list tailed (t ∷ u ∷ us) ≡ Some (record { types = t ∷ list.types; rest = list.rest })
longer false t u us list e = ap (λ (z : TypeList). Some (record { types = t ∷ z.types; rest = z.rest })) (some_same e)
longer true t u us list e =
    let m = map_some (λ (found : List TypeSyntax × TypeSyntax). record { types = found.0; rest = Some found.1 }) (read.with_tail (u ∷ us)) list e in
    ap (λ o. option_map (λ (found : List TypeSyntax × TypeSyntax). record { types = found.0; rest = Some found.1 }) (option_map (λ (found : List TypeSyntax × TypeSyntax). (t ∷ found.0, found.1)) o)) m.1
    ∙ ap (λ (z : TypeList). Some (record { types = t ∷ z.types; rest = z.rest })) m.2

module _ (low : ℕ) (set : Setting) (inner : Phrases) (readers : Readers) (bounded : Bounded set) (complete : CompletePhrases low set inner readers) (plain : PlainTypes inner) where
  word_complete : (bytes : List ℕ) → Complete low (λ p q u. TakesName set.rules p q bytes) (read.word set bytes)
  unfolding read.word
  word_complete bytes p q u l n =
      gives_if_true _ (word_sees set.rules p q bytes n) (gives_next set _ s.Name p q l (name_token set.rules p q bytes n) (λ t k. gives_ok k))

  mark_named_complete : Complete low (λ p q m. TakesName set.rules p q (grammar.mark_name m)) (read.mark_named set)
  unfolding read.mark_named
  mark_named_complete p q Checked l n =
      gives_if_true _ (word_sees set.rules p q (codes "checked") n) (gives_next set _ s.Name p q l (name_token set.rules p q (codes "checked") n) (λ t k. gives_ok k))
  mark_named_complete p q Quiet l n =
      gives_if_false _ (word_not set.rules p q (codes "quiet") (codes "checked") refl n) (gives_then _ (word_complete (codes "quiet") p q tt l n) (λ k. gives_ok k))

  mark_complete : Complete low (grammar.IsMark set.rules inner) (read.mark set)
  unfolding read.mark
  mark_complete p q m l n = gives_expect set _ s.AtSign p n.0 l n.1 (λ t k. mark_named_complete n.0 q m k n.2)

  mark_less : (p q : Place) (m : Mark) → grammar.IsMark set.rules inner p q m → length q.ahead < length p.ahead
  mark_less p q m n =
      let one = takes_taken set.rules p n.0 s.AtSign n.1 in
      let two = takes_taken set.rules n.0 q s.Name (name_token set.rules n.0 q (grammar.mark_name m) n.2) in
      omega arith

  marks_unroll : Unrolls low (sees s.AtSign) (grammar.IsMark set.rules inner) (grammar.AreMarks set.rules inner)
  marks_unroll = record {
    none = λ p q n. (n.0, n.1);
    some = λ p q m ms l n. (n.0, takes_sees set.rules p n.1.0 s.AtSign n.1.1, n.1, n.2, mark_less p n.0 m n.1);
  }

  marks_complete : Complete low (grammar.AreMarks set.rules inner) (read.marks set)
  unfolding read.marks
  marks_complete = gathered_complete set (sees s.AtSign) (grammar.IsMark set.rules inner) (grammar.AreMarks set.rules inner) (read.mark set) low marks_unroll mark_complete

  path_complete : Complete low (grammar.IsPath set.rules inner) (read.path set)
  unfolding read.path read.path_behind
  path_complete p q path l (inl n) = gives_then _ (name_complete set low p q path l n.0) (λ k. gives_if_false _ n.1 (gives_ok k))
  path_complete p q path l (inr n) =
      gives_then _ (name_complete set low p n.0 n.2 l n.4) (λ k.
      gives_if_true _ (takes_sees set.rules n.0 n.1 s.Dot n.5)
      (gives_expect set _ s.Dot n.0 n.1 k n.5 (λ t m. gives_then _ (name_complete set low n.1 q n.3 m n.6) (λ o. gives_same (sym n.7) (gives_ok o)))))

  -- the type behind the dots, and another one
  dots_given : (found : TypeList) (p a q : Place) (t : TypeSyntax) → low ≤ p.level → Takes set.rules s.Dots p a → inner.typ None a q t
      → Gives low p (read.one_type set readers found p) q (record { types = found.types; rest = Some t })
  unfolding read.one_type
  dots_given found p a q t l n i =
      gives_if_true _ (takes_sees set.rules p a s.Dots n) (gives_expect set _ s.Dots p a l n (λ u k. gives_then _ (complete.typ a q t k i) (λ m. gives_ok m)))

  type_given : (found : TypeList) (p q : Place) (t : TypeSyntax) → low ≤ p.level → inner.typ None p q t
      → Gives low p (read.one_type set readers found p) q (record { types = found.types ++ t ∷ []; rest = None })
  unfolding read.one_type
  type_given found p q t l i =
      gives_if_false _ (begins_not s.Dots p refl (plain.begins p q t i)) (gives_then _ (complete.typ p q t l i) (λ m. gives_ok m))

  another_dots : (found : TypeList) (p a b q : Place) (t : TypeSyntax) → low ≤ p.level → Takes set.rules s.Comma p a → Takes set.rules s.Dots a b → inner.typ None b q t
      → Gives low p (read.another_type set readers found p) q (record { types = found.types; rest = Some t })
  another_dots found p a b q t l c d i = gives_expect set _ s.Comma p a l c (λ u k. dots_given found a b q t k d i)

  another_given : (found : TypeList) (p a q : Place) (t : TypeSyntax) → low ≤ p.level → Takes set.rules s.Comma p a → inner.typ None a q t
      → Gives low p (read.another_type set readers found p) q (record { types = found.types ++ t ∷ []; rest = None })
  another_given found p a q t l c i = gives_expect set _ s.Comma p a l c (λ u k. type_given found a q t k i)

  others_loop : (ts : List TypeSyntax) (rest : Option TypeSyntax) (found : List TypeSyntax) (p q : Place) → low ≤ p.level → AreOthers set inner readers p q ts rest
      → Loops low set read.goes_types (read.another_type set readers) (record { types = found; rest = None }) p q (record { types = found ++ ts; rest = rest })
  others_loop [] None found p q l n turns enough =
      gives_to n.1 (gives_same (ap (λ ts. record { types = ts; rest = None }) (sym (append-nil found)))
      (loop_stop low set read.goes_types (read.another_type set readers) (record { types = found; rest = None }) p n.0 l turns enough))
  others_loop [] (Some rest) found p q l n turns enough =
      let comma = takes_sees set.rules p n.0 s.Comma n.2 in
      let some = takes_taken set.rules p n.0 s.Comma n.2 in
      gives_same (ap (λ ts. record { types = ts; rest = Some rest }) (sym (append-nil found)))
      (loop_last low set read.goes_types (read.another_type set readers) (record { types = found; rest = None }) (record { types = found; rest = Some rest }) p q comma
      (another_dots (record { types = found; rest = None }) p n.0 n.1 q rest l n.2 n.3 n.4) refl (omega arith) turns enough)
  others_loop (t ∷ ts) rest found p q l n turns enough =
      let comma = takes_sees set.rules p n.0 s.Comma n.2 in
      let one = takes_taken set.rules p n.0 s.Comma n.2 in
      let k : low ≤ n.0.level = omega arith in
      let typ : Reached low n.0 n.1 = (complete.typ n.0 n.1 t k n.3).1 in
      gives_same (ap (λ ts. record { types = ts; rest = rest }) (append_assoc found (t ∷ []) ts))
      (loop_step low set read.goes_types (read.another_type set readers) (record { types = found; rest = None }) (record { types = found ++ t ∷ []; rest = None })
      (record { types = (found ++ t ∷ []) ++ ts; rest = rest }) p n.1 q comma
      (another_given (record { types = found; rest = None }) p n.0 n.1 t l n.2 n.3) (omega arith)
      (others_loop ts rest (found ++ t ∷ []) n.1 q typ.level n.4) turns enough)

  types_complete : (ts : List TypeSyntax) (rest : Option TypeSyntax) (p q : Place) → low ≤ p.level → grammar.AreTypes set.rules inner p q ts rest
      → Gives low p (read.types set readers p) q (record { types = ts; rest = rest })
  unfolding read.types read.types_from same
  types_complete [] None p q l n = gives_if_true _ n.0 (gives_here l n.1)
  types_complete [] (Some rest) p q l n =
      gives_if_false _ (takes_not set.rules p n.0 s.Dots s.RightParen refl n.1)
      (gives_then _ (dots_given read.no_list p n.0 q rest l n.1 n.2) (λ k.
      loop_done low set read.goes_types (read.another_type set readers) _ _ q q
      (loop_stop low set read.goes_types (read.another_type set readers) (record { types = []; rest = Some rest }) q refl k)))
  types_complete (t ∷ ts) rest p q l n =
      let m = others_split set inner readers ts rest p q t n in
      gives_if_false _ (begins_not s.RightParen p refl (plain.begins p m.0 t m.1))
      (gives_then _ (type_given read.no_list p m.0 t l m.1) (λ k.
      loop_done low set read.goes_types (read.another_type set readers) _ _ m.0 q (others_loop ts rest (t ∷ []) m.0 q k m.2)))

  type_list_complete : Complete low (grammar.IsTypeList set.rules inner) (read.type_list set readers)
  unfolding read.type_list
  type_list_complete p q list l n =
      gives_expect set _ s.LeftParen p n.first l n.opens (λ t k.
      gives_then _ (types_complete list.types list.rest n.first n.last k n.types) (λ m.
      gives_expect set _ s.RightParen n.last q m n.closes (λ u o. gives_ok o)))

  -- a type that another symbol follows doesn't begin with a name and a colon, or with one and dots
  no_colon : (p q : Place) (t : TypeSyntax) → inner.typ None p q t → sees s.Colon q ≡ false → begins_named p ≡ false
  no_colon p q t i h = go (begins_named p) refl
    where
      go : (b : Bool) → begins_named p ≡ b → begins_named p ≡ false
      go true e = let two = and_parts (sees s.Name p) (sees_behind s.Colon p) e in absurd (true≢false (sym (plain.colon p q t two.0 two.1 i) ∙ h))
      go false e = e

  no_dots : (p q : Place) (t : TypeSyntax) → inner.typ None p q t → sees s.Dots q ≡ false → begins_tail p ≡ false
  no_dots p q t i h = both_false (sees s.Dots p) (sees s.Name p && sees_behind s.Dots p) (begins_not s.Dots p refl (plain.begins p q t i)) (go (sees s.Name p && sees_behind s.Dots p) refl)
    where
      go : (b : Bool) → (sees s.Name p && sees_behind s.Dots p) ≡ b → (sees s.Name p && sees_behind s.Dots p) ≡ false
      go true e = let two = and_parts (sees s.Name p) (sees_behind s.Dots p) e in absurd (true≢false (sym (plain.dots p q t two.0 two.1 i) ∙ h))
      go false e = e

  -- the list in parentheses that types in a row are
  abbrev pub IsListOf : Place → Place → List TypeSyntax → Option TypeSyntax → Type 0
  IsListOf p q ts rest = (us : List TypeSyntax) × (tailed : Bool) × types.AreListed set.rules inner p q us false tailed × (read.tailed_list tailed us ≡ Some (record { types = ts; rest = rest }))

  tail_listed : (p a q : Place) (rest : TypeSyntax) → Takes set.rules s.Dots p a → inner.typ None a q rest
      → types.AreMembers set.rules inner p q (tree.the_type (over p q) (tree.Variadic rest)) [] false true
  tail_listed p a q rest d i = (or_left (sees s.Dots p) (sees s.Name p && sees_behind s.Dots p) (takes_sees set.rules p a s.Dots d), refl, (refl, (a, d, i)))

  -- the members that types in a row are, where a parenthesis closes the list
  members_of : (ts : List TypeSyntax) (rest : Option TypeSyntax) (p q : Place) (t : TypeSyntax) → sees s.RightParen q ≡ true → grammar.AreTypesFrom set.rules inner p q t ts rest
      → (us : List TypeSyntax) × (tailed : Bool) × types.AreMembers set.rules inner p q t us false tailed × (read.tailed_list tailed (t ∷ us) ≡ Some (record { types = t ∷ ts; rest = rest }))
  unfolding same
  members_of [] None p q t h n =
      ([], false, (no_dots p q t n.0 (sees_by s.Dots q (sees_symbol s.RightParen q h) refl), (no_colon p q t n.0 (sees_by s.Colon q (sees_symbol s.RightParen q h) refl), n.0), n.1), refl)
  members_of [] (Some rest) p q t h n = (
    tree.the_type (over n.1 q) (tree.Variadic rest) ∷ [],
    true,
    (
      n.0,
      n.1,
      false,
      false,
      no_dots p n.0 t n.3 (takes_not set.rules n.0 n.1 s.Comma s.Dots refl n.4),
      (no_colon p n.0 t n.3 (takes_not set.rules n.0 n.1 s.Comma s.Colon refl n.4), n.3),
      n.4,
      tail_listed n.1 n.2 q rest n.5 n.6,
      refl,
    ),
    refl,
  )
  members_of (u ∷ us) rest p q t h n =
      let m = members_of us rest n.1 q u h n.4 in (
        u ∷ m.0,
        m.1,
        (
          n.0,
          n.1,
          false,
          false,
          no_dots p n.0 t n.2 (takes_not set.rules n.0 n.1 s.Comma s.Dots refl n.3),
          (no_colon p n.0 t n.2 (takes_not set.rules n.0 n.1 s.Comma s.Colon refl n.3), n.2),
          n.3,
          m.2,
          refl,
        ),
        longer m.1 t u m.0 _ m.3,
      )

  list_of : (ts : List TypeSyntax) (rest : Option TypeSyntax) (p q : Place) → sees s.RightParen q ≡ true → grammar.AreTypes set.rules inner p q ts rest → IsListOf p q ts rest
  unfolding same
  list_of [] None p q h n = ([], false, (n.0, n.1, refl, refl), refl)
  list_of [] (Some rest) p q h n =
      (tree.the_type (over p q) (tree.Variadic rest) ∷ [], true, (takes_not set.rules p n.0 s.Dots s.RightParen refl n.1, tail_listed p n.0 q rest n.1 n.2), refl)
  list_of (t ∷ ts) rest p q h n =
      let m = members_of ts rest p q t h n in
      let first = others_split set inner readers ts rest p q t n in
      (t ∷ m.0, m.1, (begins_not s.RightParen p refl (plain.begins p first.0 t first.1), m.2), m.3)

  -- the list in parentheses that a list of types is
  listed_of : (p q : Place) (list : TypeList) → grammar.IsTypeList set.rules inner p q list → (l : Listed) × types.IsListed set.rules inner p q l × (read.plain_list l ≡ Some list)
  listed_of p q list n =
      let m = list_of list.types list.rest n.first n.last (takes_sees set.rules n.last q s.RightParen n.closes) n.types in (
        record { start = start_of p; end = q.last; types = m.0; named = false; tailed = m.1 },
        record { first = n.first; last = n.last; opens = n.opens; members = m.2; closes = n.closes; starts = refl; ends = refl },
        m.3,
      )

  plain_given : (q : Place) (list : TypeList) (o : Option TypeList) → low ≤ q.level → o ≡ Some list → Gives low q (read.plain_or_refused set readers o q) q list
  plain_given q list o l e = subst (λ z. Gives low q (read.plain_or_refused set readers z q) q list) (sym e) (gives_ok l)

  listed_level : (p q : Place) (l : Listed) → types.IsListed set.rules inner p q l → q.level ≤ set.limit
  listed_level p q l n =
      let b = takes_bounded set n.last q s.RightParen bounded n.closes in
      let t = takes_taken set.rules n.last q s.RightParen n.closes in
      omega arith

  results_complete : Complete low (grammar.AreResults set.rules inner) (read.results set readers)
  unfolding read.results read.results_behind
  results_complete p q list l (inl n) = gives_if_false _ n.0 (gives_then _ (complete.typ p q n.1 l n.2) (λ k. gives_same (sym n.3) (gives_ok k)))
  results_complete p q list l (inr (inl n)) =
      gives_if_true _ (takes_sees set.rules p n.3.first s.LeftParen n.3.opens)
      (gives_then _ (listed_complete low set inner readers bounded complete p n.0 n.1 l n.3) (λ k.
      gives_if_true _ n.4 (gives_then _ (complete.begun n.1 n.0 q n.2 k (listed_level p n.0 n.1 n.3, n.5)) (λ m. gives_same (sym n.6) (gives_ok m)))))
  results_complete p q list l (inr (inr n)) =
      let m = listed_of p q list n.0 in
      gives_if_true _ (takes_sees set.rules p n.0.first s.LeftParen n.0.opens)
      (gives_then _ (listed_complete low set inner readers bounded complete p q m.0 l m.1) (λ k.
      gives_if_false _ (sym (plain_front m.0 list q m.2) ∙ n.1) (plain_given q list (read.plain_list m.0) k m.2)))

  pub declaration_complete : Complete low (grammar.IsDeclaration set.rules inner) (read.declaration set readers)
  unfolding read.declaration
  declaration_complete p q d l n =
      gives_then _ (marks_complete p n.marked d.marks l n.marks) (λ a.
      gives_then _ (word_complete (codes "declare") n.marked n.declared tt a n.word) (λ b.
      gives_expect set _ s.Function n.declared n.named b n.function (λ t c.
      gives_then _ (path_complete n.named n.listed d.path c n.path) (λ e.
      gives_then _ (type_list_complete n.listed n.behind d.params e n.params) (λ f.
      gives_expect set _ s.Colon n.behind n.colon f n.colon_sign (λ u g.
      gives_then _ (results_complete n.colon q d.results g n.results) (λ h.
      gives_same (ap (λ at. record { marks = d.marks; at = at; path = d.path; params = d.params; results = d.results }) (sym n.at)) (gives_ok h))))))))

  -- a declaration takes a token that isn't the end
  begins_with : (p a : Place) (ms : List Mark) → grammar.AreMarks set.rules inner p a ms → sees s.Stop a ≡ false → sees s.Stop p ≡ false
  unfolding same
  begins_with p a [] m h = subst (λ z. sees s.Stop z ≡ false) m.1 h
  begins_with p a (mark ∷ ms) m h = takes_not set.rules p m.1.0 s.AtSign s.Stop refl m.1.1

  no_end : (p q : Place) (d : Declaration) → grammar.IsDeclaration set.rules inner p q d → sees s.Stop p ≡ false
  unfolding same
  no_end p q d n = begins_with p n.marked d.marks n.marks (takes_not set.rules n.marked n.declared s.Name s.Stop refl (name_token set.rules n.marked n.declared (codes "declare") n.word))

  declaration_less : (p q : Place) (d : Declaration) → low ≤ p.level → grammar.IsDeclaration set.rules inner p q d → length q.ahead < length p.ahead
  declaration_less p q d l n =
      let m : Reached low p n.marked = (marks_complete p n.marked d.marks l n.marks).1 in
      let w = takes_taken set.rules n.marked n.declared s.Name (name_token set.rules n.marked n.declared (codes "declare") n.word) in
      let f = takes_taken set.rules n.declared n.named s.Function n.function in
      let a : low ≤ n.named.level = omega arith in
      let b : Reached low n.named n.listed = (path_complete n.named n.listed d.path a n.path).1 in
      let c : Reached low n.listed n.behind = (type_list_complete n.listed n.behind d.params b.level n.params).1 in
      let e = takes_taken set.rules n.behind n.colon s.Colon n.colon_sign in
      let g : low ≤ n.colon.level = omega arith in
      let h : Reached low n.colon q = (results_complete n.colon q d.results g n.results).1 in
      omega arith

  file_unroll : Unrolls low (λ p. not (sees s.Stop p)) (grammar.IsDeclaration set.rules inner) (grammar.AreDeclarations set.rules inner)
  file_unroll = record {
    none = λ p q n. (ap not (end_seen p n.0), n.1);
    some = λ p q d ds l n. (n.0, ap not (no_end p n.0 d n.1), n.1, n.2, declaration_less p n.0 d l n.1);
  }

  pub declarations_complete : Complete low (grammar.AreDeclarations set.rules inner) (read.gathered set (λ p. not (sees s.Stop p)) (read.declaration set readers))
  declarations_complete =
      gathered_complete set (λ p. not (sees s.Stop p)) (grammar.IsDeclaration set.rules inner) (grammar.AreDeclarations set.rules inner) (read.declaration set readers) low file_unroll declaration_complete
