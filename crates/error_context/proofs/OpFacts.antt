-- What the operations on contexts make, one call after another.
use Rattle.std.proofs.Common.{◌≡◌, ℕ, true, List, [], ◌∷◌, ◌++◌, refl, sym, ap, ◌∙◌}
use Rattle.std.specs.Prelude.{All}
use Rattle.std.proofs.lemmas.List.Elements.{All-append, Contains-append_left, Contains-append_right}
use Rattle.type_arena.specs.Arena.{store_of}
use Rattle.type_arena.specs.Meaning.{term_of}
use Rattle.type_arena.specs.Term.{Term, never}
use Rattle.type_arena.specs.declared.arena.Arena.{Arena}
use Rattle.type_arena.specs.declared.node.TypeRef.{TypeRef}
use Rattle.type_normal.specs.Adds.{Adds}
use Rattle.type_normal.specs.Growing.{given_refs, IsClean}
use Rattle.type_normal.specs.Cut.{cut_down}
use Rattle.type_normal.specs.Kinds.{unknown}
use Rattle.type_normal.specs.Nodes.{is_nil}
use Rattle.type_normal.specs.Operations.{union, meet, not_free}
use Rattle.type_ops.proofs.GrowFacts.{adds_nothing, all_clean_on}
use Rattle.error_context.specs.Entries.{Entries, entry_or, context_of, guard_of, refs_in, IsGuard, IsContext}
use Rattle.error_context.proofs.GrowSteps.{adds_wider}
use Rattle.error_context.proofs.TermFacts.{is_cut_normal, union_never, never_union, meet_never, never_meet, cut_again}
use Rattle.error_context.proofs.SideFacts.{entry_under, context_cut, context_kept, guard_kept, given_clean, after_adds, after_clean, all_wider}

nil_is : {X : Type 0} (xs : List X) → is_nil xs ≡ true → xs ≡ []
nil_is [] n = refl
nil_is (x ∷ xs) n = cc

none_in : (arena : Arena) (es : Entries) → is_nil es ≡ true → (l : ℕ) → context_of arena es l ≡ never
none_in arena es n l = ap (λ (xs : Entries). context_of arena xs l) (nil_is es n)

-- ---- one of two contexts is empty

pub join_right_none : (arena : Arena) (a b : Entries) → IsContext arena a → is_nil b ≡ true → (l : ℕ)
    → context_of arena a l ≡ cut_down (union (context_of arena a l) (context_of arena b l))
join_right_none arena a b c n l =
    let cut = context_cut arena a c l in
    sym (ap cut_down (ap (λ (t : Term). union (context_of arena a l) t) (none_in arena b n l) ∙ union_never (context_of arena a l) (is_cut_normal (context_of arena a l) cut))
    ∙ cut_again (context_of arena a l) cut)

pub join_left_none : (arena : Arena) (a b : Entries) → IsContext arena b → is_nil a ≡ true → (l : ℕ)
    → context_of arena b l ≡ cut_down (union (context_of arena a l) (context_of arena b l))
join_left_none arena a b c n l =
    let cut = context_cut arena b c l in
    sym (ap cut_down (ap (λ (t : Term). union t (context_of arena b l)) (none_in arena a n l) ∙ never_union (context_of arena b l) (is_cut_normal (context_of arena b l) cut))
    ∙ cut_again (context_of arena b l) cut)

pub meet_right_none : (arena : Arena) (a b : Entries) → is_nil b ≡ true → (l : ℕ)
    → context_of arena b l ≡ cut_down (meet (context_of arena a l) (context_of arena b l))
meet_right_none arena a b n l =
    none_in arena b n l ∙ sym (ap cut_down (ap (λ (t : Term). meet (context_of arena a l) t) (none_in arena b n l) ∙ meet_never (context_of arena a l)))

pub meet_left_none : (arena : Arena) (a b : Entries) → is_nil a ≡ true → (l : ℕ)
    → context_of arena a l ≡ cut_down (meet (context_of arena a l) (context_of arena b l))
meet_left_none arena a b n l =
    none_in arena a n l ∙ sym (ap cut_down (ap (λ (t : Term). meet t (context_of arena b l)) (none_in arena a n l) ∙ never_meet (context_of arena b l)))

pub left_clean : (arena : Arena) (a b : Entries) → IsContext arena a → All (IsClean arena arena (given_refs (refs_in a ++ refs_in b))) (refs_in a)
left_clean arena a b c =
    given_clean arena arena (refs_in a ++ refs_in b) (refs_in a) [] (adds_nothing arena (given_refs (refs_in a ++ refs_in b))) c.there
    (λ at inside. Contains-append_left (refs_in a) (refs_in b) at inside)

pub right_clean : (arena : Arena) (a b : Entries) → IsContext arena b → All (IsClean arena arena (given_refs (refs_in a ++ refs_in b))) (refs_in b)
right_clean arena a b c =
    given_clean arena arena (refs_in a ++ refs_in b) (refs_in b) [] (adds_nothing arena (given_refs (refs_in a ++ refs_in b))) c.there
    (λ at inside. Contains-append_right (refs_in a) (refs_in b) at inside)

pub itself_clean : (arena : Arena) (a : Entries) → IsContext arena a → All (IsClean arena arena (given_refs (refs_in a))) (refs_in a)
itself_clean arena a c = given_clean arena arena (refs_in a) (refs_in a) [] (adds_nothing arena (given_refs (refs_in a))) c.there (λ at inside. inside)

-- ---- one call after another

-- what a call that was given some references gave
pub record Gave (old new : Arena) (refs : List TypeRef) (means : ℕ → Term) (es : Entries) : Type 0 where
  pub sets : (l : ℕ) → context_of new es l ≡ means l
  pub context : IsContext new es
  pub clean : All (IsClean old new (given_refs refs)) (refs_in es)
  pub adds : Adds old new (given_refs refs) []

-- what a condition leaves out, and then the join
module _ (old now new : Arena) (says a outside : Entries) (guard : IsGuard old says) (context : IsContext old a)
    (first : Gave old now (refs_in says) (λ l. entry_or never (λ at. not_free (term_of (store_of old) at)) says l) outside)
    (second : Adds now new (given_refs (refs_in a ++ refs_in outside)) []) where
  abbrev given : List TypeRef
  given = refs_in says ++ refs_in a

  first_adds : Adds old now (given_refs given) []
  first_adds = adds_wider old now (refs_in says) given [] (λ at inside. Contains-append_left (refs_in says) (refs_in a) at inside) first.adds

  inner_clean : All (IsClean old now (given_refs given)) (refs_in a ++ refs_in outside)
  inner_clean =
      All-append (IsClean old now (given_refs given)) (refs_in a) (refs_in outside)
      (given_clean old now given (refs_in a) [] first_adds context.there (λ at inside. Contains-append_right (refs_in says) (refs_in a) at inside))
      (all_wider old now (refs_in says) given (refs_in outside) (λ at inside. Contains-append_left (refs_in says) (refs_in a) at inside) first.clean)

  pub unless_adds : Adds old new (given_refs (refs_in says ++ refs_in a)) []
  unless_adds = after_adds old now new given (refs_in a ++ refs_in outside) [] [] first_adds inner_clean second

  pub unless_clean : (made : Entries) → All (IsClean now new (given_refs (refs_in a ++ refs_in outside))) (refs_in made) → All (IsClean old new (given_refs (refs_in says ++ refs_in a))) (refs_in made)
  unless_clean made clean = after_clean old now new given (refs_in a ++ refs_in outside) (refs_in made) [] first_adds inner_clean clean

  pub unless_sets : (l : ℕ) → cut_down (union (context_of now a l) (context_of now outside l)) ≡ cut_down (union (context_of old a l) (not_free (guard_of old says l)))
  unless_sets l =
      let left : context_of now a l ≡ context_of old a l = context_kept old now a context.there first.adds.kept l in
      let right : context_of now outside l ≡ not_free (guard_of old says l) = first.sets l ∙ entry_under not_free unknown (term_of (store_of old)) says l in
      λ i. cut_down (union (left i) (right i))

-- the rest, and then the join with the part before it
module _ (old now new : Arena) (part rest passed : Entries) (means : ℕ → Term) (context : IsContext old part) (first : Gave old now (refs_in rest) means passed)
    (second : Adds now new (given_refs (refs_in part ++ refs_in passed)) []) where
  abbrev both_given : List TypeRef
  both_given = refs_in part ++ refs_in rest

  rest_adds : Adds old now (given_refs both_given) []
  rest_adds = adds_wider old now (refs_in rest) both_given [] (λ at inside. Contains-append_right (refs_in part) (refs_in rest) at inside) first.adds

  parts_clean : All (IsClean old now (given_refs both_given)) (refs_in part ++ refs_in passed)
  parts_clean =
      All-append (IsClean old now (given_refs both_given)) (refs_in part) (refs_in passed)
      (given_clean old now both_given (refs_in part) [] rest_adds context.there (λ at inside. Contains-append_left (refs_in part) (refs_in rest) at inside))
      (all_wider old now (refs_in rest) both_given (refs_in passed) (λ at inside. Contains-append_right (refs_in part) (refs_in rest) at inside) first.clean)

  pub followed_adds : Adds old new (given_refs (refs_in part ++ refs_in rest)) []
  followed_adds = after_adds old now new both_given (refs_in part ++ refs_in passed) [] [] rest_adds parts_clean second

  pub followed_clean : (made : Entries) → All (IsClean now new (given_refs (refs_in part ++ refs_in passed))) (refs_in made) → All (IsClean old new (given_refs (refs_in part ++ refs_in rest))) (refs_in made)
  followed_clean made clean = after_clean old now new both_given (refs_in part ++ refs_in passed) (refs_in made) [] rest_adds parts_clean clean

  pub followed_sets : (l : ℕ) → cut_down (union (context_of now part l) (context_of now passed l)) ≡ cut_down (union (context_of old part l) (means l))
  followed_sets l =
      let left : context_of now part l ≡ context_of old part l = context_kept old now part context.there first.adds.kept l in
      λ i. cut_down (union (left i) (first.sets l i))

-- both sides of a condition, and then the meet
module _ (a0 a1 a2 a3 : Arena) (t f a b left right : Entries) (tg : IsGuard a0 t) (fg : IsGuard a0 f) (ac : IsContext a0 a) (bc : IsContext a0 b)
    (first : Gave a0 a1 (refs_in t ++ refs_in a) (λ l. cut_down (union (context_of a0 a l) (not_free (guard_of a0 t l)))) left) where
  abbrev all_given : List TypeRef
  all_given = (refs_in t ++ refs_in a) ++ (refs_in f ++ refs_in b)

  pub branch_first : Adds a0 a1 (given_refs ((refs_in t ++ refs_in a) ++ (refs_in f ++ refs_in b))) []
  branch_first = adds_wider a0 a1 (refs_in t ++ refs_in a) all_given [] (λ at inside. Contains-append_left (refs_in t ++ refs_in a) (refs_in f ++ refs_in b) at inside) first.adds

  left_now : All (IsClean a0 a1 (given_refs all_given)) (refs_in left)
  left_now = all_wider a0 a1 (refs_in t ++ refs_in a) all_given (refs_in left) (λ at inside. Contains-append_left (refs_in t ++ refs_in a) (refs_in f ++ refs_in b) at inside) first.clean

  others_now : All (IsClean a0 a1 (given_refs all_given)) (refs_in f ++ refs_in b)
  others_now =
      All-append (IsClean a0 a1 (given_refs all_given)) (refs_in f) (refs_in b)
      (given_clean a0 a1 all_given (refs_in f) [] branch_first fg.there
      (λ at inside. Contains-append_right (refs_in t ++ refs_in a) (refs_in f ++ refs_in b) at (Contains-append_left (refs_in f) (refs_in b) at inside)))
      (given_clean a0 a1 all_given (refs_in b) [] branch_first bc.there
      (λ at inside. Contains-append_right (refs_in t ++ refs_in a) (refs_in f ++ refs_in b) at (Contains-append_right (refs_in f) (refs_in b) at inside)))

  pub branch_second : Adds a1 a2 (given_refs (refs_in f ++ refs_in b)) [] → Adds a0 a2 (given_refs ((refs_in t ++ refs_in a) ++ (refs_in f ++ refs_in b))) []
  branch_second second = after_adds a0 a1 a2 all_given (refs_in f ++ refs_in b) [] [] branch_first others_now second

  inner_now : Gave a1 a2 (refs_in f ++ refs_in b) (λ l. cut_down (union (context_of a1 b l) (not_free (guard_of a1 f l)))) right
      → All (IsClean a0 a2 (given_refs all_given)) (refs_in left ++ refs_in right)
  inner_now second =
      All-append (IsClean a0 a2 (given_refs all_given)) (refs_in left) (refs_in right)
      (all_clean_on a0 a1 a2 (given_refs all_given) (refs_in left) left_now first.context.there second.adds.keeps)
      (after_clean a0 a1 a2 all_given (refs_in f ++ refs_in b) (refs_in right) [] branch_first others_now second.clean)

  pub branch_adds : Gave a1 a2 (refs_in f ++ refs_in b) (λ l. cut_down (union (context_of a1 b l) (not_free (guard_of a1 f l)))) right
      → Adds a2 a3 (given_refs (refs_in left ++ refs_in right)) [] → Adds a0 a3 (given_refs ((refs_in t ++ refs_in a) ++ (refs_in f ++ refs_in b))) []
  branch_adds second third = after_adds a0 a2 a3 all_given (refs_in left ++ refs_in right) [] [] (branch_second second.adds) (inner_now second) third

  pub branch_clean : Gave a1 a2 (refs_in f ++ refs_in b) (λ l. cut_down (union (context_of a1 b l) (not_free (guard_of a1 f l)))) right
      → (made : Entries) → All (IsClean a2 a3 (given_refs (refs_in left ++ refs_in right))) (refs_in made)
      → All (IsClean a0 a3 (given_refs ((refs_in t ++ refs_in a) ++ (refs_in f ++ refs_in b)))) (refs_in made)
  branch_clean second made clean = after_clean a0 a2 a3 all_given (refs_in left ++ refs_in right) (refs_in made) [] (branch_second second.adds) (inner_now second) clean

  pub branch_sets : Gave a1 a2 (refs_in f ++ refs_in b) (λ l. cut_down (union (context_of a1 b l) (not_free (guard_of a1 f l)))) right
      → (says denies : ℕ → Term) → ((l : ℕ) → guard_of a0 t l ≡ says l) → ((l : ℕ) → guard_of a0 f l ≡ denies l) → (l : ℕ)
      → cut_down (meet (context_of a2 left l) (context_of a2 right l))
      ≡ cut_down (meet (cut_down (union (context_of a0 a l) (not_free (says l)))) (cut_down (union (context_of a0 b l) (not_free (denies l)))))
  branch_sets second says denies true_is false_is l =
      let one : context_of a2 left l ≡ cut_down (union (context_of a0 a l) (not_free (guard_of a0 t l))) =
      context_kept a1 a2 left first.context.there second.adds.kept l ∙ first.sets l in
      let guard_is : guard_of a1 f l ≡ denies l = guard_kept a0 a1 f fg.there first.adds.kept l ∙ false_is l in
      let context_is : context_of a1 b l ≡ context_of a0 b l = context_kept a0 a1 b bc.there first.adds.kept l in
      let two : context_of a2 right l ≡ cut_down (union (context_of a1 b l) (not_free (guard_of a1 f l))) = second.sets l in
      (λ i. cut_down (meet (one i) (two i)))
      ∙ (λ i. cut_down (meet (cut_down (union (context_of a0 a l) (not_free (true_is l i)))) (cut_down (union (context_is i) (not_free (guard_is i))))))
