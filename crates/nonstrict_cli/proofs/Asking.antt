-- What a run asks a tree, question by question.
use Rattle.std.proofs.Common.{◌≡◌, ◌≢◌, ◌≤◌, ◌<◌, ◌+◌, ℕ, Bool, true, false, List, [], ◌∷◌, ◌++◌, Option, None, Some, Result, Err, IfSome, map, take, drop, length, get_or, refl, ap, sym, ◌∙◌, subst, arith, if◌then◌else◌, nat_lt, append_assoc, append-nil, add-zero, sum, option_map}
use Rattle.std.proofs.lemmas.Bool.{lt-ltb, le-ltb}
use Rattle.std.proofs.lemmas.List.{drop_all, drop_more, map-append}
use Rattle.std.proofs.lemmas.List.Sums.{sum_by-cons}
use Rattle.std.proofs.Math.Seq.{take-append_seam}
use Rattle.diag_text.specs.declared.line.Line.{Line}
use Rattle.outside.specs.declared.question.Question.{Question}
use Rattle.outside.specs.declared.question.Question.TheVariants as question
use Rattle.outside.specs.Contents.{Contents, File}
use Rattle.outside.specs.Written.{Appends}
use Rattle.nonstrict_cli.specs.declared.limits.TheConstants.{MAX_FILES, MAX_TOTAL}
use Rattle.nonstrict_cli.specs.declared.status.Limit.{Limit}
use Rattle.nonstrict_cli.specs.declared.status.Limit.TheVariants.{Bytes, Files}
use Rattle.nonstrict_cli.specs.declared.stop.Stop.{Stop}
use Rattle.nonstrict_cli.specs.declared.stop.Stop.TheVariants as stop
use Rattle.nonstrict_cli.specs.Asked.{asked_for, paths_read, read_after, reading_of}
use Rattle.nonstrict_cli.specs.Folder.{first_over, limit_of, module_paths, size_read}
use Rattle.nonstrict_cli.specs.Written.{AppendsFront}
use Rattle.nonstrict_cli.proofs.Chunks.{joined}
use Rattle.nonstrict_cli.proofs.Gathering.{Gathered, Read}

-- a list that begins with what was appended has a front appended
front_of : {A : Type 0} (before after : Option (List A)) (list xs ys : List A) → list ≡ xs ++ ys → Appends before after xs → AppendsFront before after list
front_of before None list xs ys e a = tt
front_of None (Some now) list xs ys e a = absurd a
front_of (Some was) (Some now) list xs ys e a = (length xs, a ∙ ap (λ l. was ++ l) (sym (ap (take (length xs)) e ∙ take-append_seam xs ys)))

pub whole_is_front : {A : Type 0} (before after : Option (List A)) (list : List A) → Appends before after list → AppendsFront before after list
whole_is_front before after list a = front_of before after list list [] (sym (append-nil list)) a

-- the modules that are read among these paths
unfoldable read_among : List File → List (List ℕ) → List (List ℕ)
read_among files paths = if nat_lt MAX_FILES (length paths) then [] else read_after 0 files paths

few_are_read : (files : List File) (paths : List (List ℕ)) → paths ≡ module_paths files → length paths ≤ MAX_FILES → paths_read files ≡ read_after 0 files paths
unfolding read_among
few_are_read files paths listed few = ap (read_among files) (sym listed) ∙ among_few
  where
    among_few : read_among files paths ≡ read_after 0 files paths
    among_few = rw (le-ltb MAX_FILES (length paths) few) refl

-- after the listing a front is asked for
pub asked_for_listing : (told : Option Contents) (folder : List ℕ) (first second : Option (List Question)) → Appends first second (question.List folder ∷ []) → IfSome told (λ contents. AppendsFront first second (asked_for (Some folder) contents))
asked_for_listing None folder first second a = tt
asked_for_listing (Some contents) folder first second a = front_of first second (asked_for (Some folder) contents) (question.List folder ∷ []) (map (reading_of folder) (paths_read (contents folder))) refl a

-- what is read at a file, and behind it
abbrev behind : ℕ → List File → List ℕ → List (List ℕ) → List (List ℕ)
behind total files path paths = if nat_lt MAX_TOTAL (total + size_read files path) then [] else read_after (total + size_read files path) files paths

reads_at : (files : List File) (paths : List (List ℕ)) (count total : ℕ) (lines : List Line) (path : List ℕ) → count < length paths → path ≡ get_or paths count path → length paths ≤ MAX_FILES → Read files paths count total lines
    → paths_read files ≡ take count paths ++ path ∷ behind total files path (drop (count + 1) paths)
reads_at files paths count total lines path h here few r =
    let back : drop count paths ≡ path ∷ drop (count + 1) paths = drop_more paths count path h ∙ ap (λ p. p ∷ drop (count + 1) paths) (sym here) in
    few_are_read files paths r.listed few ∙ r.reads ∙ ap (λ ps. take count paths ++ read_after total files ps) back

-- the questions up to a file
abbrev up_to : List ℕ → List (List ℕ) → List ℕ → List Question
up_to folder before path = question.List folder ∷ (map (reading_of folder) before ++ reading_of folder path ∷ [])

up_to_is_asked : (folder : List ℕ) (before : List (List ℕ)) (path : List ℕ) (first second third fourth : Option (List Question)) → Appends first second (question.List folder ∷ []) → Appends second third (map (reading_of folder) before) → Appends third fourth (reading_of folder path ∷ []) → Appends first fourth (up_to folder before path)
up_to_is_asked folder before path first second third fourth a b d =
    joined first third fourth (question.List folder ∷ map (reading_of folder) before) (reading_of folder path ∷ [])
    (joined first second third (question.List folder ∷ []) (map (reading_of folder) before) a b) d

-- after a file a front is asked for
pub asked_to_here : (told : Option Contents) (folder : List ℕ) (paths : List (List ℕ)) (count total : ℕ) (lines : List Line) (path : List ℕ) (first second third fourth : Option (List Question)) → count < length paths → path ≡ get_or paths count path → length paths ≤ MAX_FILES → Gathered told folder paths count total lines
    → Appends first second (question.List folder ∷ []) → Appends second third (map (reading_of folder) (take count paths)) → Appends third fourth (reading_of folder path ∷ []) → IfSome told (λ contents. AppendsFront first fourth (asked_for (Some folder) contents))
asked_to_here None folder paths count total lines path first second third fourth h here few g a b d = tt
asked_to_here (Some contents) folder paths count total lines path first second third fourth h here few r a b d =
    let files = contents folder in
    let ask : List ℕ → Question = reading_of folder in
    let more = behind total files path (drop (count + 1) paths) in
    let whole : asked_for (Some folder) contents ≡ up_to folder (take count paths) path ++ map ask more =
    ap (λ ps. question.List folder ∷ map ask ps) (reads_at files paths count total lines path h here few r)
    ∙ ap (λ qs. question.List folder ∷ qs) (map-append ask (take count paths) (path ∷ more) ∙ sym (append_assoc (map ask (take count paths)) (ask path ∷ []) (map ask more))) in
    front_of first fourth (asked_for (Some folder) contents) (up_to folder (take count paths) path) (map ask more) whole (up_to_is_asked folder (take count paths) path first second third fourth a b d)

-- after the file with which the bytes pass their limit all is asked
pub asked_till_over : (told : Option Contents) (folder : List ℕ) (paths : List (List ℕ)) (count total : ℕ) (lines : List Line) (path : List ℕ) (limit : Limit) (first second third fourth : Option (List Question)) → count < length paths → path ≡ get_or paths count path → length paths ≤ MAX_FILES → Gathered told folder paths count total lines
    → IfSome told (λ contents. (limit ≡ Bytes (total + size_read (contents folder) path)) × (MAX_TOTAL < total + size_read (contents folder) path))
    → Appends first second (question.List folder ∷ []) → Appends second third (map (reading_of folder) (take count paths)) → Appends third fourth (reading_of folder path ∷ []) → IfSome told (λ contents. Appends first fourth (asked_for (Some folder) contents))
asked_till_over None folder paths count total lines path limit first second third fourth h here few g over a b d = tt
asked_till_over (Some contents) folder paths count total lines path limit first second third fourth h here few r over a b d =
    let files = contents folder in
    let ask : List ℕ → Question = reading_of folder in
    let ends : behind total files path (drop (count + 1) paths) ≡ [] = ap (λ b. if b then [] else read_after (total + size_read files path) files (drop (count + 1) paths)) (lt-ltb MAX_TOTAL (total + size_read files path) over.1) in
    let whole : asked_for (Some folder) contents ≡ up_to folder (take count paths) path =
    ap (λ ps. question.List folder ∷ map ask ps) (reads_at files paths count total lines path h here few r ∙ ap (λ ps. take count paths ++ path ∷ ps) ends)
    ∙ ap (λ qs. question.List folder ∷ qs) (map-append ask (take count paths) (path ∷ [])) in
    subst (λ (qs : List Question). Appends first fourth qs) (sym whole) (up_to_is_asked folder (take count paths) path first second third fourth a b d)

-- after the last file all is asked
pub asked_all_files : (told : Option Contents) (folder : List ℕ) (paths : List (List ℕ)) (count total : ℕ) (lines : List Line) (first second third : Option (List Question)) → length paths ≤ count → length paths ≤ MAX_FILES → Gathered told folder paths count total lines
    → Appends first second (question.List folder ∷ []) → Appends second third (map (reading_of folder) (take count paths)) → IfSome told (λ contents. Appends first third (asked_for (Some folder) contents))
asked_all_files None folder paths count total lines first second third end few g a b = tt
asked_all_files (Some contents) folder paths count total lines first second third end few r a b =
    let files = contents folder in
    let read : paths_read files ≡ take count paths = few_are_read files paths r.listed few ∙ r.reads
    ∙ ap (λ ps. take count paths ++ read_after total files ps) (drop_all count paths end) ∙ append-nil (take count paths) in
    subst (λ (ps : List (List ℕ)). Appends first third (question.List folder ∷ map (reading_of folder) ps)) (sym read)
    (joined first second third (question.List folder ∷ []) (map (reading_of folder) (take count paths)) a b)

-- a whole list has a front in it, where a tree tells what it holds
pub front_where_told : (told : Option Contents) (folder : Option (List ℕ)) (first second : Option (List Question)) → IfSome told (λ contents. Appends first second (asked_for folder contents)) → IfSome told (λ contents. AppendsFront first second (asked_for folder contents))
front_where_told None folder first second a = tt
front_where_told (Some contents) folder first second a = whole_is_front first second (asked_for folder contents) a

-- a stop that is neither for the words nor a fault nor want of memory is a limit
pub limit_alone : {T U : Type 0} (s : Stop) → ◌≢◌ {A = Result T Stop} (Err s) (Err stop.Usage) → ◌≢◌ {A = Result U Stop} (Err s) (Err stop.ReadFault) → ◌≢◌ {A = Result U Stop} (Err s) (Err stop.NoMemory) → (limit : Limit) × (s ≡ stop.TooLarge limit)
limit_alone stop.Usage no_usage no_fault no_want = absurd (no_usage refl)
limit_alone (stop.TooLarge limit) no_usage no_fault no_want = (limit, refl)
limit_alone stop.ReadFault no_usage no_fault no_want = absurd (no_fault refl)
limit_alone stop.NoMemory no_usage no_fault no_want = absurd (no_want refl)

-- within the limit on bytes all of these paths are read
all_read : (before : ℕ) (files : List File) (paths : List (List ℕ)) → option_map Bytes (first_over before (map (size_read files) paths)) ≡ None → read_after before files paths ≡ paths
all_read before files [] e = refl
all_read before files (path ∷ paths) e = by_test (nat_lt MAX_TOTAL sum_here) (all_read sum_here files paths) e
  where
    sum_here : ℕ
    sum_here = before + size_read files path

    by_test : (b : Bool) → (option_map Bytes (first_over sum_here (map (size_read files) paths)) ≡ None → read_after sum_here files paths ≡ paths)
        → option_map Bytes (if b then Some sum_here else first_over sum_here (map (size_read files) paths)) ≡ None → path ∷ (if b then [] else read_after sum_here files paths) ≡ path ∷ paths
    by_test true again none = cc
    by_test false again none = ap (λ ps. path ∷ ps) (again none)

pub read_within : (files : List File) → limit_of files ≡ None → paths_read files ≡ module_paths files
read_within files = by_test (nat_lt MAX_FILES (length paths))
  where
    paths : List (List ℕ)
    paths = module_paths files

    by_test : (b : Bool) → (if b then Some (Files (length paths)) else option_map Bytes (first_over 0 (map (size_read files) paths))) ≡ None → (if b then [] else read_after 0 files paths) ≡ paths
    by_test true none = cc
    by_test false none = all_read 0 files paths none

-- until the limit on bytes these paths are read
abbrev ReadUntil : ℕ → List File → List (List ℕ) → ℕ → Type 0
ReadUntil before files paths bytes = (later : List (List ℕ)) × (paths ≡ read_after before files paths ++ later) × (before + sum (map (size_read files) (read_after before files paths)) ≡ bytes)

the_bytes : (n m : ℕ) → ◌≡◌ {A = Option Limit} (Some (Bytes n)) (Some (Bytes m)) → n ≡ m
the_bytes n m e = cc

-- the sum with one more file in front
sum_first : (before : ℕ) (files : List File) (path : List ℕ) (paths : List (List ℕ)) (bytes : ℕ) → (before + size_read files path) + sum (map (size_read files) paths) ≡ bytes → before + sum (map (size_read files) (path ∷ paths)) ≡ bytes
sum_first before files path paths bytes e = omega (arith, sum_by-cons (λ n. n) (size_read files path) (map (size_read files) paths), e)

read_until : (before : ℕ) (files : List File) (paths : List (List ℕ)) (bytes : ℕ) → option_map Bytes (first_over before (map (size_read files) paths)) ≡ Some (Bytes bytes) → ReadUntil before files paths bytes
read_until before files [] bytes e = cc
read_until before files (path ∷ paths) bytes e = by_test (nat_lt MAX_TOTAL sum_here) (read_until sum_here files paths bytes) e
  where
    sum_here : ℕ
    sum_here = before + size_read files path

    by_test : (b : Bool) → (option_map Bytes (first_over sum_here (map (size_read files) paths)) ≡ Some (Bytes bytes) → ReadUntil sum_here files paths bytes)
        → option_map Bytes (if b then Some sum_here else first_over sum_here (map (size_read files) paths)) ≡ Some (Bytes bytes)
        → (later : List (List ℕ)) × (path ∷ paths ≡ (path ∷ (if b then [] else read_after sum_here files paths)) ++ later) × (before + sum (map (size_read files) (path ∷ (if b then [] else read_after sum_here files paths))) ≡ bytes)
    by_test true again over = (paths, refl, sum_first before files path [] bytes (add-zero sum_here ∙ the_bytes sum_here bytes over))
    by_test false again over = let r = again over in (r.0, ap (λ ps. path ∷ ps) r.1, sum_first before files path (read_after sum_here files paths) bytes r.2)

pub read_until_over : (files : List File) (bytes : ℕ) → limit_of files ≡ Some (Bytes bytes) → (later : List (List ℕ)) × (module_paths files ≡ paths_read files ++ later) × (sum (map (size_read files) (paths_read files)) ≡ bytes)
read_until_over files bytes = by_test (nat_lt MAX_FILES (length paths))
  where
    paths : List (List ℕ)
    paths = module_paths files

    by_test : (b : Bool) → (if b then Some (Files (length paths)) else option_map Bytes (first_over 0 (map (size_read files) paths))) ≡ Some (Bytes bytes)
        → (later : List (List ℕ)) × (paths ≡ (if b then [] else read_after 0 files paths) ++ later) × (sum (map (size_read files) (if b then [] else read_after 0 files paths)) ≡ bytes)
    by_test true over = cc
    by_test false over = let r = read_until 0 files paths bytes over in (r.0, r.1, omega (arith, r.2))
