-- Files that are found by their paths.
use Rattle.std.proofs.Common.{◌≡◌, ◌≢◌, ℕ, zero, suc, ◌+◌, ◌-◌, ◌<◌, ◌≤◌, Bool, true, false, List, [], ◌∷◌, ◌++◌, length, get_or, cond, refl, ap, sym, subst, ◌∙◌, arith, inl, inr}
use Rattle.std.specs.Prelude.{Option, Some, None, Result, Ok, Err, slice_get, ◌⊎◌, ◌||◌, codes, nat_lt, AllPairs}
use Rattle.std.specs.List.{position, position_or_len}
use Rattle.std.specs.List.Sorted.{IsBinarySearchResult, IsSearchInRange, IsSortedBy}
use Rattle.std.specs.Result.{result_ok}
use Rattle.std.specs.Str.{bytes_eq}
use Rattle.std.specs.Ordering.{nat_cmp, is_eq, is_lt, ordering_then, ordering_reverse}
use Rattle.std.specs.Cmp.Lexicographic.{slice_cmp, nat_list_cmp_total}
use Rattle.std.specs.declared.cmp.Ordering.{Ordering}
use Rattle.std.specs.declared.cmp.Ordering.TheVariants.{Less, Equal, Greater}
use Rattle.std.proofs.lemmas.Bool.{cases_lt}
use Rattle.std.proofs.lemmas.Bool.Decides.{nat_tests}
use Rattle.std.proofs.lemmas.List.Sums.{position_or_len_is, fails_before_first}
use Rattle.std.proofs.lemmas.List.Quantifiers.{position-Some}
use Rattle.std.proofs.lemmas.List.Sorted.{searchable_from_sorted}
use Rattle.std.proofs.lemmas.Map.Text.{is_eq-slice_cmp}
use Rattle.std.proofs.lemmas.Slice.Eq.{bytes_eq-Decides}
use Rattle.std.proofs.lemmas.Option.{slice_get-get_or, slice_get_within, get_or_from_slice_get}
use Rattle.module_graph.specs.declared.needs.ModuleNeeds.{ModuleNeeds}
use Rattle.module_graph.specs.Names.{AreOrdered, has_name, file_named}
use Rattle.module_graph.proofs.Lists.{get-below}

-- the first place at which a test passes
pub position-at : {X : Type 0} (p : X → Bool) (xs : List X) (i : ℕ) (x : X) → slice_get xs i ≡ Some x → p x ≡ true → ((k : ℕ) (y : X) → k < i → slice_get xs k ≡ Some y → p y ≡ false) → position p xs ≡ Some i
position-at p xs i x e passes before =
    let within : i < length xs = slice_get_within xs i x e in
    let at : position_or_len p xs ≡ i = position_or_len_is p xs i x (omega arith)
    (λ k lt. before k (get_or xs k x) lt (slice_get-get_or xs k x (omega arith)))
    (λ lt. ap p (get_or_from_slice_get xs i x x e) ∙ passes) in
    let inside : nat_lt i (length xs) ≡ true = grind (arith, nat_tests) in
    ap (λ n. cond (nat_lt n (length xs)) (Some n) None) at ∙ ap (λ b. cond b (Some i) None) inside

-- no place where it passes nowhere
pub position-nowhere : {X : Type 0} (p : X → Bool) (xs : List X) → ((k : ℕ) (y : X) → slice_get xs k ≡ Some y → p y ≡ false) → position p xs ≡ None
position-nowhere p [] fails = refl
position-nowhere p (x ∷ xs) fails =
    let at : position_or_len p (x ∷ xs) ≡ length (x ∷ xs) = position_or_len_is p (x ∷ xs) (length (x ∷ xs)) x (omega arith)
    (λ k lt. fails k (get_or (x ∷ xs) k x) (slice_get-get_or (x ∷ xs) k x lt))
    (λ lt. absurd (omega arith)) in
    let outside : nat_lt (length (x ∷ xs)) (length (x ∷ xs)) ≡ false = grind (arith, nat_tests) in
    ap (λ n. cond (nat_lt n (length (x ∷ xs))) (Some n) None) at ∙ ap (λ b. cond b (Some (length (x ∷ xs))) None) outside

-- what a place that is found says
pub position-found : {X : Type 0} (p : X → Bool) (xs : List X) (i : ℕ) → position p xs ≡ Some i → (x : X) × (slice_get xs i ≡ Some x) × (p x ≡ true) × ((k : ℕ) (y : X) → k < i → slice_get xs k ≡ Some y → p y ≡ false)
position-found p [] i e = cc
position-found p (x ∷ xs) i e =
    let h = position-Some p (x ∷ xs) i x e in
    (get_or (x ∷ xs) i x, slice_get-get_or (x ∷ xs) i x h.0, h.1, (λ k y lt at. ap p (sym (get_or_from_slice_get (x ∷ xs) k y x at)) ∙ h.2 k lt))

-- and what it says that there is none
pub position-none : {X : Type 0} (p : X → Bool) (xs : List X) → position p xs ≡ None → (k : ℕ) (y : X) → slice_get xs k ≡ Some y → p y ≡ false
position-none p xs none k y e =
    let within : k < length xs = slice_get_within xs k y e in
    go (nat_lt (position_or_len p xs) (length xs)) refl within
  where
    go : (test : Bool) → nat_lt (position_or_len p xs) (length xs) ≡ test → k < length xs → p y ≡ false
    go true t lt = let found : position p xs ≡ Some (position_or_len p xs) = ap (λ b. cond b (Some (position_or_len p xs)) None) t in cc
    go false t lt =
        let past : length xs ≤ position_or_len p xs = grind (arith, nat_tests) in
        ap p (sym (get_or_from_slice_get xs k y y e)) ∙ fails_before_first p xs k y (omega arith)

-- paths that are compared as equal are equal
same_path : (a b : List ℕ) → slice_cmp nat_cmp a b ≡ Equal → bytes_eq a b ≡ true
same_path a b e = sym (is_eq-slice_cmp a b) ∙ ap is_eq e

pub other_path : (a b : List ℕ) (o : Ordering) → slice_cmp nat_cmp a b ≡ o → is_eq o ≡ false → bytes_eq a b ≡ false
other_path a b o e differ = sym (is_eq-slice_cmp a b) ∙ (ap is_eq e ∙ differ)

pub path-is : (a b : List ℕ) → bytes_eq a b ≡ true → a ≡ b
path-is a b e = (bytes_eq-Decides a b).0 e

-- an earlier file has a lower path
pub ordered-at : (files : List ModuleNeeds) → AreOrdered files → (k i : ℕ) (x y : ModuleNeeds) → k < i → slice_get files k ≡ Some y → slice_get files i ≡ Some x → slice_cmp nat_cmp y.path x.path ≡ Less
ordered-at files ordered k i x y lt ek ei =
    let h = ordered k i x lt (slice_get_within files i x ei) in
    let one : get_or files k x ≡ y = get_or_from_slice_get files k y x ek in
    let two : get_or files i x ≡ x = get_or_from_slice_get files i x x ei in
    ap (λ (f : ModuleNeeds). slice_cmp nat_cmp f.path x.path) (sym one) ∙ (ap (λ (f : ModuleNeeds). slice_cmp nat_cmp (get_or files k x).path f.path) (sym two) ∙ h)

-- what a binary search by paths finds
module _ (files : List ModuleNeeds) (path : List ℕ) (ordered : AreOrdered files) where
  searchable : IsSortedBy (λ a b. is_lt (slice_cmp nat_cmp a.path b.path)) files
  searchable k d from within =
      let less : slice_cmp nat_cmp (get_or files k d).path (get_or files (k + 1) d).path ≡ Less = ordered k (k + 1) d (omega arith) within in
      let turned : slice_cmp nat_cmp (get_or files (k + 1) d).path (get_or files k d).path ≡ ordering_reverse (slice_cmp nat_cmp (get_or files k d).path (get_or files (k + 1) d).path) = nat_list_cmp_total.antisymm (get_or files (k + 1) d).path (get_or files k d).path in
      ap is_lt turned ∙ ap (λ o. is_lt (ordering_reverse o)) less

  pub found-by_path : (r : Result ℕ ℕ) → IsSearchInRange r (length files) → IsBinarySearchResult (λ file. slice_cmp nat_cmp file.path path) files r → result_ok r ≡ position (λ file. bytes_eq file.path path) files
  found-by_path (Ok i) range at =
      let x = get-below files i range in
      let equal : slice_cmp nat_cmp x.0.path path ≡ Equal = ap (λ (f : ModuleNeeds). slice_cmp nat_cmp f.path path) (sym (get_or_from_slice_get files i x.0 x.0 x.1)) ∙ at x.0 in
      let same : x.0.path ≡ path = path-is x.0.path path (same_path x.0.path path equal) in
      sym (position-at (λ file. bytes_eq file.path path) files i x.0 x.1 (same_path x.0.path path equal)
      (λ k y lt e. other_path y.path path Less (ap (λ (q : List ℕ). slice_cmp nat_cmp y.path q) (sym same) ∙ ordered-at files ordered k i x.0 y lt e x.1) refl))
  found-by_path (Err i) range parted =
      let h = parted (searchable_from_sorted nat_list_cmp_total (λ file. file.path) files path searchable) in
      sym (position-nowhere (λ file. bytes_eq file.path path) files (λ k y e.
      let within : k < length files = slice_get_within files k y e in
      let here : get_or files k y ≡ y = get_or_from_slice_get files k y y e in
      elim (cases_lt k i) [
        | inl before ↦ other_path y.path path Less (ap (λ (f : ModuleNeeds). slice_cmp nat_cmp f.path path) (sym here) ∙ h.0 k y (omega arith) before) refl
        | inr after ↦ other_path y.path path Greater (ap (λ (f : ModuleNeeds). slice_cmp nat_cmp f.path path) (sym here) ∙ h.1 k y after within) refl
      ]))

-- a path that ends in `.luau` comes after the same with `.lua`
luau-after : (name : List ℕ) → slice_cmp nat_cmp (name ++ codes ".luau") (name ++ codes ".lua") ≡ Greater
luau-after [] = refl
luau-after (x ∷ name) =
    let tie : nat_cmp x x ≡ Equal = grind (arith, nat_tests) in
    ap (λ o. ordering_then o (slice_cmp nat_cmp (name ++ codes ".luau") (name ++ codes ".lua"))) tie ∙ luau-after name

module _ (files : List ModuleNeeds) (ordered : AreOrdered files) (name : List ℕ) where
  -- a file with the first ending is the first with that name
  pub named-first : (i : ℕ) → position (λ file. bytes_eq file.path (name ++ codes ".lua")) files ≡ Some i → file_named files name ≡ Some i
  named-first i e =
      let h = position-found (λ (file : ModuleNeeds). bytes_eq file.path (name ++ codes ".lua")) files i e in
      position-at (has_name name) files i h.0 h.1 (ap (λ b. b || bytes_eq h.0.path (name ++ codes ".luau")) h.2)
      (λ k y lt at. go k y h.0 lt at (bytes_eq y.path (name ++ codes ".luau")) refl (h.3 k y lt at) (path-is h.0.path (name ++ codes ".lua") h.2) (ordered-at files ordered k i h.0 y lt at h.1))
    where
      go : (k : ℕ) (y x : ModuleNeeds) → k < i → slice_get files k ≡ Some y → (test : Bool) → bytes_eq y.path (name ++ codes ".luau") ≡ test → bytes_eq y.path (name ++ codes ".lua") ≡ false → x.path ≡ name ++ codes ".lua" → slice_cmp nat_cmp y.path x.path ≡ Less → has_name name y ≡ false
      go k y x lt at false t other same less = ap (λ b. b || bytes_eq y.path (name ++ codes ".luau")) other ∙ t
      go k y x lt at true t other same less =
          let luau : y.path ≡ name ++ codes ".luau" = path-is y.path (name ++ codes ".luau") t in
          let greater : slice_cmp nat_cmp y.path x.path ≡ Greater = ap (λ (q : List ℕ). slice_cmp nat_cmp q x.path) luau ∙ (ap (λ (q : List ℕ). slice_cmp nat_cmp (name ++ codes ".luau") q) same ∙ luau-after name) in
          cc

  -- without one, the file with the second ending is
  pub named-second : (o : Option ℕ) → position (λ file. bytes_eq file.path (name ++ codes ".lua")) files ≡ None → position (λ file. bytes_eq file.path (name ++ codes ".luau")) files ≡ o → file_named files name ≡ o
  named-second None none e =
      position-nowhere (has_name name) files (λ k y at.
      ap (λ b. b || bytes_eq y.path (name ++ codes ".luau")) (position-none (λ (file : ModuleNeeds). bytes_eq file.path (name ++ codes ".lua")) files none k y at)
      ∙ position-none (λ (file : ModuleNeeds). bytes_eq file.path (name ++ codes ".luau")) files e k y at)
  named-second (Some i) none e =
      let h = position-found (λ (file : ModuleNeeds). bytes_eq file.path (name ++ codes ".luau")) files i e in
      position-at (has_name name) files i h.0 h.1
      (ap (λ b. b || bytes_eq h.0.path (name ++ codes ".luau")) (position-none (λ (file : ModuleNeeds). bytes_eq file.path (name ++ codes ".lua")) files none i h.0 h.1) ∙ h.2)
      (λ k y lt at. ap (λ b. b || bytes_eq y.path (name ++ codes ".luau")) (position-none (λ (file : ModuleNeeds). bytes_eq file.path (name ++ codes ".lua")) files none k y at) ∙ h.3 k y lt at)

-- one more path above the last keeps paths in order
pub ordered-more : (files : List ModuleNeeds) (i : ℕ) (x y : ModuleNeeds) → 0 < i → slice_get files (i - 1) ≡ Some x → slice_get files i ≡ Some y → slice_cmp nat_cmp x.path y.path ≡ Less → ((k j : ℕ) (d : ModuleNeeds) → k < j → j < i → slice_cmp nat_cmp (get_or files k d).path (get_or files j d).path ≡ Less) → (k j : ℕ) (d : ModuleNeeds) → k < j → j < i + 1 → slice_cmp nat_cmp (get_or files k d).path (get_or files j d).path ≡ Less
ordered-more files i x y pos ex ey less before k j d kj ji = elim (cases_lt j i) [
  | inl lt ↦ before k j d kj lt
  | inr le ↦
      (let at : j ≡ i = omega arith in
      let fy : get_or files j d ≡ y = ap (λ (n : ℕ). get_or files n d) at ∙ get_or_from_slice_get files i y d ey in
      let fx : get_or files (i - 1) d ≡ x = get_or_from_slice_get files (i - 1) x d ex in
      let last : slice_cmp nat_cmp x.path (get_or files j d).path ≡ Less = ap (λ (f : ModuleNeeds). slice_cmp nat_cmp x.path f.path) fy ∙ less in
      elim (cases_lt k (i - 1)) [
        | inl earlier ↦ nat_list_cmp_total.trans (get_or files k d).path x.path (get_or files j d).path (ap (λ (f : ModuleNeeds). slice_cmp nat_cmp (get_or files k d).path f.path) (sym fx) ∙ before k (i - 1) d earlier (omega arith)) last
        | inr same ↦ (let place : k ≡ i - 1 = omega arith in ap (λ (f : ModuleNeeds). slice_cmp nat_cmp f.path (get_or files j d).path) (ap (λ (n : ℕ). get_or files n d) place ∙ fx) ∙ last)
      ])
]
