-- Words whose places don't matter, and words that are in no command.
use Rattle.std.proofs.Common.{◌≡◌, ◌∙◌, ℕ, Bool, true, false, List, [], ◌∷◌, ◌++◌, Option, None, Some, refl, ap, sym, subst}
use Rattle.std.specs.Prelude.{option_and_then, codes, flat_map, is_some}
use Rattle.std.specs.Str.{bytes_eq}
use Rattle.std.proofs.lemmas.Bool.{false≢true}
use Rattle.std.proofs.lemmas.Grind.{flat_map-append}
use Rattle.std.proofs.lemmas.Slice.Eq.{bytes_eq-Decides}
use Rattle.command_words.specs.declared.name.Name.{Name}
use Rattle.command_words.specs.Command.{Part, is_plain, part, parts, parts_by, option_of, followed, given, at_most_one, workers_in, format_in, decl_in, alone_in, said, command}

-- what holds of the three names of options holds of each text that names one
one_of_three : (P : List ℕ → Type 0) → P (codes "--workers") → P (codes "--format") → P (codes "--decl") → (text : List ℕ) → is_some (option_of text) ≡ true → P text
one_of_three P w f d text e = by_workers (bytes_eq text (codes "--workers")) refl
  where
    at : (other : List ℕ) → bytes_eq text other ≡ true → P other → P text
    at other t p = subst P (sym ((bytes_eq-Decides text other).0 t)) p

    by_decl : (t : Bool) → bytes_eq text (codes "--decl") ≡ t → bytes_eq text (codes "--workers") ≡ false → bytes_eq text (codes "--format") ≡ false → P text
    by_decl true t n o = at (codes "--decl") t d
    by_decl false t n o = let none : is_some (option_of text) ≡ false = rw (n, o, t) refl in absurd (false≢true (sym none ∙ e))

    by_format : (t : Bool) → bytes_eq text (codes "--format") ≡ t → bytes_eq text (codes "--workers") ≡ false → P text
    by_format true t n = at (codes "--format") t f
    by_format false t n = by_decl (bytes_eq text (codes "--decl")) refl n t

    by_workers : (t : Bool) → bytes_eq text (codes "--workers") ≡ t → P text
    by_workers true t = at (codes "--workers") t w
    by_workers false t = by_format (bytes_eq text (codes "--format")) refl t

-- behind the same words, two lists that are the same parts and begin with words that can be no values are the same parts
behind : (before : List (List ℕ)) (x y : List ℕ) (xs ys : List (List ℕ)) → is_plain x ≡ false → is_plain y ≡ false → parts (x ∷ xs) ≡ parts (y ∷ ys) → parts (before ++ x ∷ xs) ≡ parts (before ++ y ∷ ys)
behind [] x y xs ys p q e = e
behind (word ∷ []) x y xs ys p q e = last (option_of word)
  where
    last : (name : Option Name) → parts_by name word x (parts (x ∷ xs)) (parts xs) ≡ parts_by name word y (parts (y ∷ ys)) (parts ys)
    last None = ap (followed (part word)) e
    last (Some name) = rw (p, q) refl
behind (word ∷ next ∷ before) x y xs ys p q e =
    let one = behind (next ∷ before) x y xs ys p q e in
    let two = behind before x y xs ys p q e in
    rw (one, two) refl

followed_none : (first : Option Part) → followed first None ≡ None
followed_none None = refl
followed_none (Some first) = refl

nothing_first : (after : List (List ℕ)) → parts ([] ∷ after) ≡ None
nothing_first [] = refl
nothing_first (next ∷ rest) = refl

by_none : (name : Option Name) (word next : List ℕ) → parts_by name word next None None ≡ None
by_none None word next = followed_none (part word)
by_none (Some name) word next = followed_none (given (Some name) next)

-- an empty word is in no command
nothing_with : (before after : List (List ℕ)) → parts (before ++ [] ∷ after) ≡ None
nothing_with [] after = nothing_first after
nothing_with (word ∷ []) after = last (option_of word)
  where
    last : (name : Option Name) → parts_by name word [] (parts ([] ∷ after)) (parts after) ≡ None
    last None = ap (followed (part word)) (nothing_first after) ∙ followed_none (part word)
    last (Some name) = refl
nothing_with (word ∷ next ∷ before) after =
    let one : parts (next ∷ (before ++ [] ∷ after)) ≡ None = nothing_with (next ∷ before) after in
    let two = nothing_with before after in
    rw (one, two) (by_none (option_of word) word next)

pub no_empty_word : (before after : List (List ℕ)) → command (before ++ [] ∷ after) ≡ None
no_empty_word before after = ap (option_and_then said) (nothing_with before after)

-- an option and its value, in one word and in two
AreOne : List ℕ → Type 0
AreOne name = (before after : List (List ℕ)) (value : List ℕ) → command (before ++ (name ++ 61 ∷ value) ∷ after) ≡ command (before ++ name ∷ value ∷ after)

workers_are_one : AreOne (codes "--workers")
unfolding AreOne
workers_are_one before after value = ap (option_and_then said) (behind before _ _ after (value ∷ after) refl refl (first after))
  where
    first : (after : List (List ℕ)) → parts ((codes "--workers" ++ 61 ∷ value) ∷ after) ≡ parts (codes "--workers" ∷ value ∷ after)
    first [] = refl
    first (next ∷ rest) = refl

format_is_one : AreOne (codes "--format")
unfolding AreOne
format_is_one before after value = ap (option_and_then said) (behind before _ _ after (value ∷ after) refl refl (first after))
  where
    first : (after : List (List ℕ)) → parts ((codes "--format" ++ 61 ∷ value) ∷ after) ≡ parts (codes "--format" ∷ value ∷ after)
    first [] = refl
    first (next ∷ rest) = refl

decl_is_one : AreOne (codes "--decl")
unfolding AreOne
decl_is_one before after value = ap (option_and_then said) (behind before _ _ after (value ∷ after) refl refl (first after))
  where
    first : (after : List (List ℕ)) → parts ((codes "--decl" ++ 61 ∷ value) ∷ after) ≡ parts (codes "--decl" ∷ value ∷ after)
    first [] = refl
    first (next ∷ rest) = refl

pub one_word_or_two : (before after : List (List ℕ)) (name value : List ℕ) → is_some (option_of name) ≡ true → command (before ++ (name ++ 61 ∷ value) ∷ after) ≡ command (before ++ name ∷ value ∷ after)
unfolding AreOne
one_word_or_two before after name value e = one_of_three AreOne workers_are_one format_is_one decl_is_one name e before after value

-- at most one thing, in whatever order
at_most_one_turned : {X : Type 0} (xs ys : List X) → at_most_one (xs ++ ys) ≡ at_most_one (ys ++ xs)
at_most_one_turned [] [] = refl
at_most_one_turned [] (y ∷ []) = refl
at_most_one_turned [] (y ∷ z ∷ ys) = refl
at_most_one_turned (x ∷ []) [] = refl
at_most_one_turned (x ∷ []) (y ∷ []) = refl
at_most_one_turned (x ∷ []) (y ∷ z ∷ ys) = refl
at_most_one_turned (x ∷ w ∷ xs) [] = refl
at_most_one_turned (x ∷ w ∷ xs) (y ∷ []) = refl
at_most_one_turned (x ∷ w ∷ xs) (y ∷ z ∷ ys) = refl

in_either_order : (kind : Part → List (List ℕ)) (first second : List Part) → at_most_one (flat_map kind (first ++ second)) ≡ at_most_one (flat_map kind (second ++ first))
in_either_order kind first second = rw (flat_map-append kind first second, flat_map-append kind second first) (at_most_one_turned (flat_map kind first) (flat_map kind second))

pub either_order : (first second : List Part) → said (first ++ second) ≡ said (second ++ first)
either_order first second =
    rw (in_either_order workers_in first second, in_either_order format_in first second, in_either_order decl_in first second, in_either_order alone_in first second) refl
