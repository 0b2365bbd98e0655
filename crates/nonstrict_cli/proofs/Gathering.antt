-- Gathering the lines of a folder file by file.
use Rattle.std.proofs.Common.{◌≡◌, ◌≤◌, ◌<◌, ◌+◌, ℕ, zero, suc, true, false, List, [], ◌∷◌, Option, None, Some, IfSome, IsSome, flat_map, filter, map, take, ◌++◌, drop, length, get_or, refl, ap, sym, ◌∙◌, subst, arith, if◌then◌else◌, option_map, nat_lt}
use Rattle.std.specs.declared.cmp.Ordering.TheVariants.{Less, Equal, Greater}
use Rattle.std.specs.Ordering.{match_ordering}
use Rattle.std.specs.Option.{is_some}
use Rattle.std.specs.Str.{bytes_eq}
use Rattle.std.specs.Cmp.Lexicographic.{nat_list_eq_equiv}
use Rattle.std.specs.BTreeSet.{insert_key}
use Rattle.std.specs.List.{AllByRecursion}
use Rattle.std.proofs.lemmas.Bool.{lt-ltb, le-ltb}
use Rattle.std.proofs.lemmas.List.{drop_more}
use Rattle.diag_text.specs.declared.line.Line.{Line}
use Rattle.luau_tree.specs.Sorted.{bytes_cmp}
use Rattle.outside.specs.Contents.{Contents, File, file_at, paths_of}
use Rattle.nonstrict_cli.specs.declared.limits.TheConstants.{MAX_FILES, MAX_TOTAL}
use Rattle.nonstrict_cli.specs.declared.status.Limit.{Limit}
use Rattle.nonstrict_cli.specs.declared.status.Limit.TheVariants.{Bytes, Files}
use Rattle.nonstrict_cli.specs.Asked.{read_after}
use Rattle.nonstrict_cli.specs.Fate.{fate_at}
use Rattle.nonstrict_cli.specs.Folder.{first_over, is_module_path, limit_of, module_paths, size_read, sorted_paths}
use Rattle.nonstrict_cli.specs.Lines.{lines_for}

-- the lines of a file as it is read
abbrev pub lines_in : List File → List ℕ → List Line
lines_in files path = lines_for path (fate_at files path)

-- of a folder's modules so many are read: these are their lines and the sum of their sizes
pub record Read (files : List File) (paths : List (List ℕ)) (count total : ℕ) (lines : List Line) : Type 0 where
  pub listed : paths ≡ module_paths files
  pub lines_so_far : lines ≡ flat_map (lines_in files) (take count paths)
  pub sums : first_over 0 (map (size_read files) paths) ≡ first_over total (map (size_read files) (drop count paths))
  pub reads : read_after 0 files paths ≡ take count paths ++ read_after total files (drop count paths)

-- the same, where the tree tells what it holds
abbrev pub Gathered : Option Contents → List ℕ → List (List ℕ) → ℕ → ℕ → List Line → Type 0
Gathered told folder paths count total lines = IfSome told (λ contents. Read (contents folder) paths count total lines)

-- a sum past the limit is the answer
ends : (total n : ℕ) (sizes : List ℕ) → MAX_TOTAL < total + n → first_over total (n ∷ sizes) ≡ Some (total + n)
ends total n sizes h = rw (lt-ltb MAX_TOTAL (total + n) h) refl

-- the limit that these paths of a folder pass
unfoldable limit_on : List File → List (List ℕ) → Option Limit
limit_on files paths = if nat_lt MAX_FILES (length paths) then Some (Files (length paths)) else option_map Bytes (first_over 0 (map (size_read files) paths))

-- few paths pass the limit on bytes alone
limit_on-few : (files : List File) (paths : List (List ℕ)) → length paths ≤ MAX_FILES → limit_on files paths ≡ option_map Bytes (first_over 0 (map (size_read files) paths))
unfolding limit_on
limit_on-few files paths few = rw (le-ltb MAX_FILES (length paths) few) refl

limit_on-listed : (files : List File) (paths : List (List ℕ)) → paths ≡ module_paths files → limit_of files ≡ limit_on files paths
unfolding limit_on
limit_on-listed files paths listed = ap (limit_on files) (sym listed)

-- a file with which the sum passes the limit
pub gathered_over : (told : Option Contents) (folder : List ℕ) (paths : List (List ℕ)) (count total : ℕ) (lines : List Line) (path : List ℕ) (limit : Limit) → count < length paths → path ≡ get_or paths count path → length paths ≤ MAX_FILES → IfSome told (λ contents. (limit ≡ Bytes (total + size_read (contents folder) path)) × (MAX_TOTAL < total + size_read (contents folder) path)) → Gathered told folder paths count total lines → IfSome told (λ contents. limit_of (contents folder) ≡ Some limit)
gathered_over None folder paths count total lines path limit h here few over g = tt
gathered_over (Some contents) folder paths count total lines path limit h here few over r =
    let files = contents folder in
    let back : drop count paths ≡ path ∷ drop (count + 1) paths = drop_more paths count path h ∙ ap (λ p. p ∷ drop (count + 1) paths) (sym here) in
    let sum : first_over 0 (map (size_read files) paths) ≡ Some (total + size_read files path) = r.sums ∙ ap (λ ps. first_over total (map (size_read files) ps)) back ∙ ends total (size_read files path) (map (size_read files) (drop (count + 1) paths)) over.1 in
    limit_on-listed files paths r.listed ∙ limit_on-few files paths few ∙ ap (option_map Bytes) sum ∙ ap Some (sym over.0)

-- there is a file at each path of a folder
file_there : (f : File) (files : List File) (path : List ℕ) → IsSome (file_at files path) → IsSome (file_at (f ∷ files) path)
file_there f files path h = elim (bytes_eq f.0 path) as (λ b. IsSome (if b then Some f.1 else file_at files path)) [ true ↦ refl | false ↦ h ]

weaker : (f : File) (files : List File) (paths : List (List ℕ)) → AllByRecursion (λ p. IsSome (file_at files p)) paths → AllByRecursion (λ p. IsSome (file_at (f ∷ files) p)) paths
weaker f files [] a = tt
weaker f files (p ∷ paths) a = (file_there f files p a.0, weaker f files paths a.1)

at_each_path : (files : List File) → AllByRecursion (λ p. IsSome (file_at files p)) (paths_of files)
at_each_path [] = tt
at_each_path (f ∷ files) = (ap (λ b. is_some (if b then Some f.1 else file_at files f.0)) (nat_list_eq_equiv.refl f.0), weaker f files (paths_of files) (at_each_path files))

kept : (P : List ℕ → Type 0) (paths : List (List ℕ)) → AllByRecursion P paths → AllByRecursion P (filter is_module_path paths)
kept P [] a = tt
kept P (p ∷ paths) a = elim (is_module_path p) as (λ b. AllByRecursion P (if b then p ∷ filter is_module_path paths else filter is_module_path paths)) [ true ↦ (a.0, kept P paths a.1) | false ↦ kept P paths a.1 ]

inserted : (P : List ℕ → Type 0) (path : List ℕ) (paths : List (List ℕ)) → P path → AllByRecursion P paths → AllByRecursion P (insert_key bytes_cmp paths path)
inserted P path [] h a = (h, tt)
inserted P path (p ∷ paths) h a =
    elim (bytes_cmp path p) as (λ r. AllByRecursion P (match_ordering r (path ∷ p ∷ paths) (p ∷ paths) (p ∷ insert_key bytes_cmp paths path))) [
      | Less ↦ (h, a)
      | Equal ↦ a
      | Greater ↦ (a.0, inserted P path paths h a.1)
    ]

sorted_all : (P : List ℕ → Type 0) (paths : List (List ℕ)) → AllByRecursion P paths → AllByRecursion P (sorted_paths paths)
sorted_all P [] a = tt
sorted_all P (p ∷ paths) a = inserted P p (sorted_paths paths) a.0 (sorted_all P paths a.1)

at_place : (P : List ℕ → Type 0) (paths : List (List ℕ)) (i : ℕ) (d : List ℕ) → i < length paths → AllByRecursion P paths → P (get_or paths i d)
at_place P [] i d h a = absurd (omega arith)
at_place P (p ∷ paths) zero d h a = a.0
at_place P (p ∷ paths) (suc i) d h a = at_place P paths i d (omega arith) a.1

-- so there is one at each path that is read
pub gathered_there : (told : Option Contents) (folder : List ℕ) (paths : List (List ℕ)) (count total : ℕ) (lines : List Line) (path : List ℕ) → count < length paths → path ≡ get_or paths count path → Gathered told folder paths count total lines → IfSome told (λ contents. IsSome (file_at (contents folder) path))
gathered_there None folder paths count total lines path h here g = tt
gathered_there (Some contents) folder paths count total lines path h here r =
    let P : List ℕ → Type 0 = λ p. IsSome (file_at (contents folder) p) in
    let all : AllByRecursion P (module_paths (contents folder)) = sorted_all P (filter is_module_path (paths_of (contents folder))) (kept P (paths_of (contents folder)) (at_each_path (contents folder))) in
    subst P (sym here) (at_place P paths count path h (subst (λ (ps : List (List ℕ)). AllByRecursion P ps) (sym r.listed) all))
