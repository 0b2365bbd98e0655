-- What a search by halves finds among files that are in the order of their paths.
use Rattle.std.proofs.Common.{◌≡◌, ◌<◌, ℕ, zero, suc, true, false, List, [], ◌∷◌, Some, None, Err, length, get_or, if◌then◌else◌, refl, ap, sym, ◌∙◌, subst, arith, add-one, inl, inr}
use Rattle.std.specs.declared.cmp.Ordering.{Ordering}
use Rattle.std.specs.declared.cmp.Ordering.TheVariants.{Less, Equal, Greater}
use Rattle.std.specs.Ordering.{nat_cmp, is_eq, is_lt, ordering_reverse}
use Rattle.std.specs.Cmp.Lexicographic.{slice_cmp, same_text, nat_list_cmp_total}
use Rattle.std.specs.List.Sorted.{IsBinarySearchResult, IsSortedBy}
use Rattle.std.specs.Str.{bytes_eq}
use Rattle.std.proofs.lemmas.Bool.{and_parts}
use Rattle.std.proofs.lemmas.Bool.Decides.{leb_tells}
use Rattle.std.proofs.lemmas.List.Sorted.{searchable_from_sorted}
use Rattle.std.proofs.lemmas.Map.Text.{is_eq-slice_cmp}
use Rattle.outside.specs.Contents.{File, comes_before, file_at, in_order, paths_of}

-- paths are compared by bytes
abbrev pub path_cmp : List ℕ → List ℕ → Ordering
path_cmp = slice_cmp nat_cmp

less : (o : Ordering) → is_lt o ≡ true → o ≡ Less
less Less e = refl
less Equal e = cc
less Greater e = cc

-- all but the first are in order too
rest : (p : List ℕ) (ps : List (List ℕ)) → in_order (p ∷ ps) ≡ true → in_order ps ≡ true
rest p [] e = refl
rest p (q ∷ ps) e = (and_parts (comes_before p q) (in_order (q ∷ ps)) e).1

first : (p q : List ℕ) (ps : List (List ℕ)) → in_order (p ∷ q ∷ ps) ≡ true → path_cmp p q ≡ Less
first p q ps e = less (path_cmp p q) (and_parts (comes_before p q) (in_order (q ∷ ps)) e).0

-- the first path comes before each later one
ahead : (file : File) (files : List File) → in_order (paths_of (file ∷ files)) ≡ true → (i : ℕ) (d : File) → i < length files → path_cmp file.0 (get_or files i d).0 ≡ Less
ahead file [] e i d h = absurd (omega arith)
ahead file (next ∷ files) e zero d h = first file.0 next.0 (paths_of files) e
ahead file (next ∷ files) e (suc i) d h =
    nat_list_cmp_total.trans file.0 next.0 (get_or files i d).0 (first file.0 next.0 (paths_of files) e) (ahead next files (rest file.0 (paths_of (next ∷ files)) e) i d (omega arith))

-- so each path comes before the next
rises : (files : List File) → in_order (paths_of files) ≡ true → (k : ℕ) (d : File) → suc k < length files → path_cmp (get_or files k d).0 (get_or files (suc k) d).0 ≡ Less
rises [] e k d h = absurd (omega arith)
rises (file ∷ files) e zero d h = ahead file files e 0 d (omega arith)
rises (file ∷ files) e (suc k) d h = rises files (rest file.0 (paths_of files) e) k d (omega arith)

sorted : (files : List File) → in_order (paths_of files) ≡ true → IsSortedBy (λ (a b : File). is_lt (path_cmp a.0 b.0)) files
sorted files e k d low high =
    rw add-one (ap is_lt (nat_list_cmp_total.antisymm (get_or files (suc k) d).0 (get_or files k d).0 ∙ ap ordering_reverse (rises files e k d (omega arith))))

-- a path that ties with the one sought is that one
tie : (p q : List ℕ) → path_cmp p q ≡ Equal → bytes_eq p q ≡ true
tie p q e = sym (is_eq-slice_cmp p q) ∙ ap is_eq e

apart : (p q : List ℕ) → path_cmp p q ≡ Less → bytes_eq p q ≡ false
apart p q e = sym (is_eq-slice_cmp p q) ∙ ap is_eq e

-- a file that ties is the one at the path, as no other has it
pub at_tie : (files : List File) (path : List ℕ) → in_order (paths_of files) ≡ true → (i : ℕ) (d : File) → i < length files → path_cmp (get_or files i d).0 path ≡ Equal → file_at files path ≡ Some (get_or files i d).1
at_tie [] path o i d h e = absurd (omega arith)
at_tie (file ∷ files) path o zero d h e = ap (λ same. if same then Some file.1 else file_at files path) (tie file.0 path e)
at_tie (file ∷ files) path o (suc i) d h e =
    let is : (get_or files i d).0 ≡ path = same_text (get_or files i d).0 path (sym (tie (get_or files i d).0 path e)) in
    let before : path_cmp file.0 path ≡ Less = subst (λ (p : List ℕ). path_cmp file.0 p ≡ Less) is (ahead file files o i d (omega arith)) in
    ap (λ same. if same then Some file.1 else file_at files path) (apart file.0 path before) ∙ at_tie files path (rest file.0 (paths_of files) o) i d (omega arith) e

-- where each path differs there is no file
none : (files : List File) (path : List ℕ) → ((k : ℕ) (d : File) → k < length files → bytes_eq (get_or files k d).0 path ≡ false) → file_at files path ≡ None
none [] path differs = refl
none (file ∷ files) path differs =
    ap (λ same. if same then Some file.1 else file_at files path) (differs 0 file (omega arith)) ∙ none files path (λ k d h. differs (suc k) d (omega arith))

-- where the search finds no place there is no file
pub at_gap : (files : List File) (path : List ℕ) (i : ℕ) → in_order (paths_of files) ≡ true → IsBinarySearchResult (λ (file : File). path_cmp file.0 path) files (Err i) → file_at files path ≡ None
at_gap files path i o search_result =
    let part = search_result (searchable_from_sorted nat_list_cmp_total (λ (file : File). file.0) files path (sorted files o)) in
    none files path (λ k d h. elim (leb_tells i k) [
      | inl t ↦ sym (is_eq-slice_cmp (get_or files k d).0 path) ∙ ap is_eq (part.1 k d t.1 h)
      | inr t ↦ sym (is_eq-slice_cmp (get_or files k d).0 path) ∙ ap is_eq (part.0 k d (omega arith) t.1)
    ])
