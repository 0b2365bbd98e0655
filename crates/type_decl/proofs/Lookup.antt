-- Looking up in tables.
use Rattle.std.proofs.Common.{◌≡◌, ℕ, zero, suc, ◌<◌, Bool, true, false, cond, List, [], ◌∷◌, map, length, get_or, refl, sym, ap, ◌∙◌, subst, arith, inl, inr}
use Rattle.std.specs.Prelude.{Option, Some, None, option_map, zip}
use Rattle.std.specs.List.{find, AllWithin}
use Rattle.std.specs.Str.{bytes_eq}
use Rattle.std.specs.declared.cmp.Ordering.TheVariants.{Less, Equal, Greater}
use Rattle.std.specs.Ordering.{is_eq}
use Rattle.std.proofs.lemmas.Bool.Decides.{leb_tells}
use Rattle.std.proofs.lemmas.List.{length-map}
use Rattle.std.proofs.lemmas.Map.Text.{is_eq-slice_cmp}
use Rattle.luau_tree.specs.Sorted.{bytes_cmp, IsAscending}
use Rattle.luau_tree.proofs.PathLemmas.{same_bytes}
use Rattle.luau_values.specs.Heap.{Heap}
use Rattle.luau_values.specs.Value.{Value, Nil, Truth, Num, Str, Tab, Lit, Builtin, Other}
use Rattle.luau_run.specs.Signature as run
use Rattle.luau_run.specs.ValueSet.{numbers}
use Rattle.builtin_table.specs.declared.table.Kinds.{Kinds}
use Rattle.builtin_table.specs.declared.table.Kinds.TheVariants.{Unknown, Number, Text, Boolean, Table, Function, OptionalNumber, OptionalText, OptionalBoolean, OptionalFunction, TableOrOther}
use Rattle.type_normal.specs.Cut.{cut_up}
use Rattle.type_normal.specs.Rows.{is_normal}
use Rattle.type_decl.specs.Signatures.{Signature, term_of_kinds, declaration}
use Rattle.type_decl.specs.Runs.{values_of, run_signature, builtins_of}

-- what a path has in a list of pairs
abbrev pub beside : {X : Type 0} → List ℕ → List (List ℕ × X) → Option X
beside path table = option_map (λ entry. entry.1) (find (λ entry. bytes_eq entry.0 path) table)

tail_ascends : (x : List ℕ) (xs : List (List ℕ)) → IsAscending (x ∷ xs) → IsAscending xs
tail_ascends x xs asc = λ i j d l m. asc (suc i) (suc j) d (omega arith) (omega arith)

-- the path at a place has what stands there
pub found_beside : {X Y : Type 0} (f : X → Y) (paths : List (List ℕ)) (xs : List X) (path : List ℕ) (i : ℕ) (x : X) → i < length paths → length paths ≡ length xs → IsAscending paths
    → bytes_cmp (get_or paths i path) path ≡ Equal → x ≡ get_or xs i x → beside path (zip paths (map f xs)) ≡ Some (f x)
found_beside f [] xs path i x l e asc same is = absurd (omega arith)
found_beside f (p ∷ paths) [] path i x l e asc same is = absurd (omega arith)
found_beside f (p ∷ paths) (x' ∷ xs) path zero x l e asc same is =
    ap (λ b. option_map (λ entry. entry.1) (cond b (Some (p, f x')) (find (λ entry. bytes_eq entry.0 path) (zip paths (map f xs))))) (sym (is_eq-slice_cmp p path) ∙ ap is_eq same)
    ∙ ap (λ y. Some (f y)) (sym is)
found_beside f (p ∷ paths) (x' ∷ xs) path (suc i) x l e asc same is =
    let before : bytes_cmp p (get_or paths i path) ≡ Less = asc zero (suc i) path (omega arith) l in
    let less : bytes_cmp p path ≡ Less = subst (λ q. bytes_cmp p q ≡ Less) (same_bytes (get_or paths i path) path same) before in
    ap (λ b. option_map (λ entry. entry.1) (cond b (Some (p, f x')) (find (λ entry. bytes_eq entry.0 path) (zip paths (map f xs))))) (sym (is_eq-slice_cmp p path) ∙ ap is_eq less)
    ∙ found_beside f paths xs path i x (omega arith) (omega arith) (tail_ascends p paths asc) same is

nothing_beside : {X : Type 0} (paths : List (List ℕ)) (xs : List X) (path : List ℕ) → ((i : ℕ) → i < length paths → bytes_eq (get_or paths i path) path ≡ false) → beside path (zip paths xs) ≡ None
nothing_beside [] xs path lacks = refl
nothing_beside (p ∷ paths) [] path lacks = refl
nothing_beside (p ∷ paths) (x ∷ xs) path lacks =
    ap (λ b. option_map (λ entry. entry.1) (cond b (Some (p, x)) (find (λ entry. bytes_eq entry.0 path) (zip paths xs)))) (lacks zero (omega arith))
    ∙ nothing_beside paths xs path (λ i l. lacks (suc i) (omega arith))

-- a path that is above all before a place, and below all from there on, has nothing
pub none_beside : {X : Type 0} (paths : List (List ℕ)) (xs : List X) (path : List ℕ) (i : ℕ) → AllWithin (λ y. bytes_cmp y path ≡ Less) paths 0 i → AllWithin (λ y. bytes_cmp y path ≡ Greater) paths i (length paths)
    → beside path (zip paths xs) ≡ None
none_beside paths xs path i below above =
    nothing_beside paths xs path (λ k l. sym (is_eq-slice_cmp (get_or paths k path) path) ∙ elim (leb_tells i k) as (λ d. is_eq (bytes_cmp (get_or paths k path) path) ≡ false) [
      | inl t ↦ ap is_eq (above k path t.1 l)
      | inr t ↦ ap is_eq (below k path (omega arith) t.1)
    ])

-- what a binary search gives, as slices show the lists
pub get_found : {X Y : Type 0} (f : X → Y) (paths shown : List (List ℕ)) (xs others : List X) (path : List ℕ) (i : ℕ) (x : X) → shown ≡ paths → others ≡ xs → i < length shown → length paths ≡ length xs → IsAscending paths
    → bytes_cmp (get_or shown i path) path ≡ Equal → x ≡ get_or others i x → Some (f x) ≡ beside path (zip paths (map f xs))
get_found f paths shown xs others path i x same same' l e asc tie is =
    sym (found_beside f paths xs path i x (subst (λ ps. i < length ps) same l) e asc (subst (λ ps. bytes_cmp (get_or ps i path) path ≡ Equal) same tie) (subst (λ ys. x ≡ get_or ys i x) same' is))

pub get_none : {X Y : Type 0} (f : X → Y) (paths shown : List (List ℕ)) (xs : List X) (path : List ℕ) (i : ℕ) → shown ≡ paths → AllWithin (λ y. bytes_cmp y path ≡ Less) shown 0 i → AllWithin (λ y. bytes_cmp y path ≡ Greater) shown i (length shown)
    → None ≡ beside path (zip paths (map f xs))
get_none f paths shown xs path i same below above =
    sym (none_beside paths (map f xs) path i (subst (λ ps. AllWithin (λ y. bytes_cmp y path ≡ Less) ps 0 i) same below) (subst (λ ps. AllWithin (λ y. bytes_cmp y path ≡ Greater) ps i (length ps)) same above))

pub run_has : (table : List (List ℕ × Signature)) (path : List ℕ) → run.declaration (builtins_of table) path ≡ option_map run_signature (declaration path table)
run_has [] path = refl
run_has (entry ∷ table) path = by_test (bytes_eq entry.0 path) (run_has table path)
  where
    by_test : (b : Bool) → run.declaration (builtins_of table) path ≡ option_map run_signature (declaration path table)
        → option_map (λ d. d.signature) (cond b (Some (record { path = entry.0; signature = run_signature entry.1 })) (find (λ d. bytes_eq d.path path) (builtins_of table)))
        ≡ option_map run_signature (option_map (λ e. e.1) (cond b (Some entry) (find (λ e. bytes_eq e.0 path) table)))
    by_test true rest = refl
    by_test false rest = rest

pub kinds_normal : (kinds : Kinds) → is_normal (term_of_kinds kinds) ≡ true
kinds_normal Unknown = refl
kinds_normal Number = refl
kinds_normal Text = refl
kinds_normal Boolean = refl
kinds_normal Table = refl
kinds_normal Function = refl
kinds_normal OptionalNumber = refl
kinds_normal OptionalText = refl
kinds_normal OptionalBoolean = refl
kinds_normal OptionalFunction = refl
kinds_normal TableOrOther = refl

pub kinds_small : (kinds : Kinds) → cut_up (term_of_kinds kinds) ≡ term_of_kinds kinds
kinds_small Unknown = refl
kinds_small Number = refl
kinds_small Text = refl
kinds_small Boolean = refl
kinds_small Table = refl
kinds_small Function = refl
kinds_small OptionalNumber = refl
kinds_small OptionalText = refl
kinds_small OptionalBoolean = refl
kinds_small OptionalFunction = refl
kinds_small TableOrOther = refl

pub numbers_are : (heap : Heap) (value : Value) → values_of (term_of_kinds Number) heap value ≡ numbers heap value
numbers_are heap Nil = refl
numbers_are heap (Truth true) = refl
numbers_are heap (Truth false) = refl
numbers_are heap (Num text) = refl
numbers_are heap (Str bytes) = refl
numbers_are heap (Tab address) = refl
numbers_are heap (Lit home number cells) = refl
numbers_are heap (Builtin path) = refl
numbers_are heap (Other number) = refl

-- the paths of a table, which has a signature for each
pub paths_of : {X : Type 0} (paths : List (List ℕ)) (xs : List X) → length paths ≡ length xs → map (λ (e : List ℕ × X). e.0) (zip paths xs) ≡ paths
paths_of [] xs e = refl
paths_of (p ∷ paths) [] e = absurd (omega arith)
paths_of (p ∷ paths) (x ∷ xs) e = ap (λ ps. p ∷ ps) (paths_of paths xs (omega arith))

pub paths_meant : {X Y : Type 0} (f : X → Y) (paths : List (List ℕ)) (xs : List X) → length paths ≡ length xs → map (λ (e : List ℕ × Y). e.0) (zip paths (map f xs)) ≡ paths
paths_meant f paths xs e = paths_of paths (map f xs) (e ∙ sym (length-map xs f))
