-- What a list of declarations without a fault is.
use Rattle.std.proofs.Common.{◌≡◌, ℕ, zero, suc, ◌<◌, Bool, true, false, true≢false, ◌||◌, ◌⊎◌, inl, inr, List, [], ◌∷◌, map, length, get_or, refl, sym, ap, ◌∙◌, subst, arith}
use Rattle.std.specs.Prelude.{Option, Some, None, Contains, if◌then◌else◌}
use Rattle.std.specs.List.{list_any}
use Rattle.std.specs.Option.{option_or}
use Rattle.std.specs.Str.{bytes_eq}
use Rattle.std.specs.Cmp.{IsTotalOrder}
use Rattle.std.specs.declared.cmp.Ordering.{Ordering}
use Rattle.std.specs.declared.cmp.Ordering.TheVariants.{Less, Equal, Greater}
use Rattle.std.specs.Ordering.{is_eq}
use Rattle.std.specs.BTreeSet.{insert_key}
use Rattle.std.proofs.lemmas.Cmp.{on_total, nat_list_cmp_total}
use Rattle.std.proofs.lemmas.Map.Text.{is_eq-slice_cmp}
use Rattle.std.proofs.lemmas.Slice.Eq.{bytes_eq-Decides}
use Rattle.luau_tree.specs.Sorted.{bytes_cmp, IsAscending}
use Rattle.luau_tree.proofs.SortedLemmas.{in_order}
use Rattle.builtin_table.specs.Paths.{is_kept_back, lies_in}
use Rattle.type_decl.specs.Signatures.{Signature, declaration}
use Rattle.decl_grammar.specs.Declarations.{Declaration}
use Rattle.decl_tables.specs.declared.error.DeclError.{DeclError}
use Rattle.decl_tables.specs.declared.error.DeclError.TheVariants.{RepeatedName, BadForm}
use Rattle.decl_tables.specs.Forms.{is_bad, is_twice, is_checked, is_quiet, paths_of, fault_at, first_fault, fault_of}
use Rattle.decl_tables.specs.Tables.{signature_of, entry_cmp, table_of}

entries_total : IsTotalOrder entry_cmp
entries_total = on_total (λ (e : List ℕ × Signature). e.0) nat_list_cmp_total

-- the entries of a list stand in order, and so do their paths
map_at : (entries : List (List ℕ × Signature)) (i : ℕ) (d : List ℕ) (e : List ℕ × Signature) → i < length entries → get_or (map (λ entry. entry.0) entries) i d ≡ (get_or entries i e).0
map_at [] i d e l = absurd (omega arith)
map_at (x ∷ xs) zero d e l = refl
map_at (x ∷ xs) (suc i) d e l = map_at xs i d e (omega arith)

same_length : (entries : List (List ℕ × Signature)) → length (map (λ entry. entry.0) entries) ≡ length entries
same_length [] = refl
same_length (x ∷ xs) = ap suc (same_length xs)

-- an entry at a place past the end
some_entry : List ℕ → List ℕ × Signature
some_entry path = (path, record { params = []; rest = None; results = []; more = None; checked = false; quiet = false })

pub table_ascends : (ds : List Declaration) → IsAscending (map (λ entry. entry.0) (table_of ds))
table_ascends ds i j d l m =
    let entries = table_of ds in
    let n : j < length entries = subst (λ z. j < z) (same_length entries) m in
    let k : i < length entries = omega arith in
    let first = map_at entries i d (some_entry d) k in
    let second = map_at entries j d (some_entry d) n in
    rw (first, second) (in_order entries_total (map (λ d. (d.path, signature_of d)) ds) i j (some_entry d) l n)

-- a text isn't among the paths of some declarations
abbrev pub IsApart : List ℕ → List Declaration → Type 0
IsApart path [] = Unit {0}
IsApart path (d ∷ ds) = (bytes_eq path d.path ≡ false) × IsApart path ds

-- a text is among others
abbrev pub Has : List ℕ → List (List ℕ) → Type 0
Has path [] = ⊥
Has path (other ∷ others) = (path ≡ other) ⊎ Has path others

or_parts_false : (x y : Bool) → (x || y) ≡ false → (x ≡ false) × (y ≡ false)
or_parts_false false y e = (refl, e)
or_parts_false true y e = absurd (true≢false e)

no_other : (path : List ℕ) (before : List (List ℕ)) (at : List ℕ) → Has path before → list_any (λ other. bytes_eq other at) before ≡ false → bytes_eq path at ≡ false
no_other path [] at h e = absurd h
no_other path (other ∷ others) at (inl h) e = ap (λ z. bytes_eq z at) h ∙ (or_parts_false (bytes_eq other at) (list_any (λ other. bytes_eq other at) others) e).0
no_other path (other ∷ others) at (inr h) e = no_other path others at h (or_parts_false (bytes_eq other at) (list_any (λ other. bytes_eq other at) others) e).1

-- what the absence of a fault at a declaration says
pub record NoFault (paths before : List (List ℕ)) (d : Declaration) : Type 0 where
  pub good : is_bad paths d ≡ false
  pub new : list_any (λ other. bytes_eq other d.path) before ≡ false

abbrev IsSome : Option DeclError → Type 0
IsSome None = ⊥
IsSome (Some e) = Unit {0}

some_not_none : (e : DeclError) → Some e ≡ None → ⊥
some_not_none e h = subst IsSome h tt

no_fault_at : (paths before : List (List ℕ)) (d : Declaration) → fault_at paths before d ≡ None → NoFault paths before d
no_fault_at paths before d e = go (is_bad paths d) (list_any (λ other. bytes_eq other d.path) before) refl refl e
  where
    go : (bad old : Bool) → is_bad paths d ≡ bad → list_any (λ other. bytes_eq other d.path) before ≡ old
        → (if bad then Some (BadForm d.at) else if old then Some (RepeatedName d.at) else None) ≡ None → NoFault paths before d
    go true old b o e = absurd (some_not_none _ e)
    go false true b o e = absurd (some_not_none _ e)
    go false false b o e = record { good = b; new = o }

first_none : (paths before : List (List ℕ)) (d : Declaration) (ds : List Declaration) → first_fault paths before (d ∷ ds) ≡ None
    → NoFault paths before d × (first_fault paths (d.path ∷ before) ds ≡ None)
first_none paths before d ds e = go (fault_at paths before d) refl e
  where
    go : (o : Option DeclError) → fault_at paths before d ≡ o → option_or o (first_fault paths (d.path ∷ before) ds) ≡ None
        → NoFault paths before d × (first_fault paths (d.path ∷ before) ds ≡ None)
    go None h e = (no_fault_at paths before d h, e)
    go (Some fault) h e = absurd (some_not_none fault e)

-- what stands before declarations without a fault is none of their paths
apart : (path : List ℕ) (paths before : List (List ℕ)) (ds : List Declaration) → Has path before → first_fault paths before ds ≡ None → IsApart path ds
apart path paths before [] h e = tt
apart path paths before (d ∷ ds) h e =
    let parts = first_none paths before d ds e in
    (no_other path before d.path h parts.0.new, apart path paths (d.path ∷ before) ds (inr h) parts.1)

-- ---- looking up

abbrev found : List ℕ → List (List ℕ × Signature) → Option Signature
found path table = declaration path table

-- a path isn't among some entries
abbrev IsAway : List ℕ → List (List ℕ × Signature) → Type 0
IsAway path [] = Unit {0}
IsAway path (e ∷ es) = (bytes_eq path e.0 ≡ false) × IsAway path es

same_texts : (path : List ℕ) → bytes_eq path path ≡ true
same_texts path = (bytes_eq-Decides path path).1 refl

turned : (a b : List ℕ) → bytes_eq a b ≡ false → bytes_eq b a ≡ false
turned a b e = go (bytes_eq b a) refl
  where
    go : (t : Bool) → bytes_eq b a ≡ t → bytes_eq b a ≡ false
    go true h = absurd (true≢false (sym ((bytes_eq-Decides a b).1 (sym ((bytes_eq-Decides b a).0 h))) ∙ e))
    go false h = h

not_tied : (a b : List ℕ) → bytes_eq a b ≡ false → bytes_cmp a b ≡ Equal → ⊥
not_tied a b e h = true≢false (sym (sym (is_eq-slice_cmp a b) ∙ ap is_eq h) ∙ e)

new_by : (path : List ℕ) (sig : Signature) (e : List ℕ × Signature) (es : List (List ℕ × Signature)) → bytes_eq path e.0 ≡ false → found path (insert_key entry_cmp es (path, sig)) ≡ Some sig
    → (o : Ordering) → bytes_cmp path e.0 ≡ o → found path (insert_key entry_cmp (e ∷ es) (path, sig)) ≡ Some sig
new_by path sig e es a later Less h = rw (h, same_texts path) refl
new_by path sig e es a later Equal h = absurd (not_tied path e.0 a h)
new_by path sig e es a later Greater h = rw (h, turned path e.0 a) later

-- a new entry has its path
found_new : (path : List ℕ) (sig : Signature) (es : List (List ℕ × Signature)) → IsAway path es → found path (insert_key entry_cmp es (path, sig)) ≡ Some sig
found_new path sig [] a = rw (same_texts path) refl
found_new path sig (e ∷ es) a = new_by path sig e es a.0 (found_new path sig es a.1) (bytes_cmp path e.0) refl

behind_first : (other : List ℕ) (e : List ℕ × Signature) (xs ys : List (List ℕ × Signature)) → found other xs ≡ found other ys → (t : Bool) → bytes_eq e.0 other ≡ t → found other (e ∷ xs) ≡ found other (e ∷ ys)
behind_first other e xs ys h true t = rw t refl
behind_first other e xs ys h false t = rw t h

other_by : (other path : List ℕ) (sig : Signature) (e : List ℕ × Signature) (es : List (List ℕ × Signature)) → bytes_eq path e.0 ≡ false → bytes_eq path other ≡ false
    → found other (insert_key entry_cmp es (path, sig)) ≡ found other es → (o : Ordering) → bytes_cmp path e.0 ≡ o → found other (insert_key entry_cmp (e ∷ es) (path, sig)) ≡ found other (e ∷ es)
other_by other path sig e es a n later Less h = rw (h, n) refl
other_by other path sig e es a n later Equal h = absurd (not_tied path e.0 a h)
other_by other path sig e es a n later Greater h = rw h (behind_first other e (insert_key entry_cmp es (path, sig)) es later (bytes_eq e.0 other) refl)

-- another path has what it had
found_other : (other path : List ℕ) (sig : Signature) (es : List (List ℕ × Signature)) → IsAway path es → bytes_eq path other ≡ false → found other (insert_key entry_cmp es (path, sig)) ≡ found other es
found_other other path sig [] a n = rw n refl
found_other other path sig (e ∷ es) a n = other_by other path sig e es a.0 n (found_other other path sig es a.1 n) (bytes_cmp path e.0) refl

away_by : (other path : List ℕ) (sig : Signature) (e : List ℕ × Signature) (es : List (List ℕ × Signature)) → IsAway other (e ∷ es) → bytes_eq other path ≡ false
    → IsAway other (insert_key entry_cmp es (path, sig)) → (o : Ordering) → bytes_cmp path e.0 ≡ o → IsAway other (insert_key entry_cmp (e ∷ es) (path, sig))
away_by other path sig e es a n later Less h = rw h (n, a)
away_by other path sig e es a n later Equal h = rw h a
away_by other path sig e es a n later Greater h = rw h (a.0, later)

away_insert : (other path : List ℕ) (sig : Signature) (es : List (List ℕ × Signature)) → IsAway other es → bytes_eq other path ≡ false → IsAway other (insert_key entry_cmp es (path, sig))
away_insert other path sig [] a n = (n, tt)
away_insert other path sig (e ∷ es) a n = away_by other path sig e es a n (away_insert other path sig es a.1 n) (bytes_cmp path e.0) refl

table_away : (path : List ℕ) (ds : List Declaration) → IsApart path ds → IsAway path (table_of ds)
table_away path [] a = tt
table_away path (d ∷ ds) a = away_insert path d.path (signature_of d) (table_of ds) (table_away path ds a.1) a.0

apart_at : (path : List ℕ) (ds : List Declaration) (k : ℕ) (d : Declaration) → IsApart path ds → k < length ds → get_or ds k d ≡ d → bytes_eq path d.path ≡ false
apart_at path [] k d a l e = absurd (omega arith)
apart_at path (x ∷ xs) zero d a l e = ap (λ (z : Declaration). bytes_eq path z.path) (sym e) ∙ a.0
apart_at path (x ∷ xs) (suc k) d a l e = apart_at path xs k d a.1 (omega arith) e

declared_at : (paths before : List (List ℕ)) (ds : List Declaration) (k : ℕ) (d : Declaration) → first_fault paths before ds ≡ None → k < length ds → get_or ds k d ≡ d
    → declaration d.path (table_of ds) ≡ Some (signature_of d)
declared_at paths before [] k d n l e = absurd (omega arith)
declared_at paths before (x ∷ xs) zero d n l e =
    let parts = first_none paths before x xs n in
    subst (λ (z : Declaration). declaration z.path (table_of (x ∷ xs)) ≡ Some (signature_of z)) e
    (found_new x.path (signature_of x) (table_of xs) (table_away x.path xs (apart x.path paths (x.path ∷ before) xs (inl refl) parts.1)))
declared_at paths before (x ∷ xs) (suc k) d n l e =
    let parts = first_none paths before x xs n in
    let away = apart x.path paths (x.path ∷ before) xs (inl refl) parts.1 in
    found_other d.path x.path (signature_of x) (table_of xs) (table_away x.path xs away) (apart_at x.path xs k d away (omega arith) e)
    ∙ declared_at paths (x.path ∷ before) xs k d parts.1 (omega arith) e

-- each path has the signature of its declaration
pub is_declared : (ds : List Declaration) → fault_of ds ≡ None → (d : Declaration) → Contains ds d → declaration d.path (table_of ds) ≡ Some (signature_of d)
is_declared ds n d c = declared_at (paths_of ds) [] ds c.0 d n c.1 c.2

both_false : (x y : Bool) → x ≡ false → y ≡ false → (x || y) ≡ false
both_false x y e f = ap (λ z. z || y) e ∙ f

forms : (paths before : List (List ℕ)) (ds : List Declaration) → first_fault paths before ds ≡ None
    → (list_any is_kept_back (paths_of ds) ≡ false) × (list_any (λ library. list_any (λ path. lies_in path library) paths) (paths_of ds) ≡ false)
forms paths before [] n = (refl, refl)
forms paths before (d ∷ ds) n =
    let parts = first_none paths before d ds n in
    let bad = (or_parts_false (is_twice is_checked d.marks || is_twice is_quiet d.marks) (is_kept_back d.path || list_any (λ path. lies_in path d.path) paths) parts.0.good).1 in
    let two = or_parts_false (is_kept_back d.path) (list_any (λ path. lies_in path d.path) paths) bad in
    let later = forms paths (d.path ∷ before) ds parts.1 in (
      both_false (is_kept_back d.path) (list_any is_kept_back (paths_of ds)) two.0 later.0,
      both_false (list_any (λ path. lies_in path d.path) paths) (list_any (λ library. list_any (λ path. lies_in path library) paths) (paths_of ds)) two.1 later.1,
    )

pub no_require : (ds : List Declaration) → fault_of ds ≡ None → list_any is_kept_back (paths_of ds) ≡ false
no_require ds n = (forms (paths_of ds) [] ds n).0

pub no_library : (ds : List Declaration) → fault_of ds ≡ None → list_any (λ library. list_any (λ path. lies_in path library) (paths_of ds)) (paths_of ds) ≡ false
no_library ds n = (forms (paths_of ds) [] ds n).1
