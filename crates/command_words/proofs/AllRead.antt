-- Words that are read one after another give what their parts give.
use Rattle.std.proofs.Common.{◌≡◌, ◌∙◌, ◌<◌, ◌≤◌, ◌+◌, ℕ, Bool, true, false, length, get_or, drop, map, List, [], ◌∷◌, Option, None, Some, refl, ap, sym}
use Rattle.std.specs.Prelude.{option_and_then, codes}
use Rattle.std.specs.Str.{bytes_eq}
use Rattle.std.proofs.lemmas.List.{at_drop_more, drop_all}
use Rattle.std.proofs.lemmas.Slice.Eq.{bytes_eq-Decides}
use Rattle.command_words.specs.declared.name.Name.{Name}
use Rattle.command_words.specs.Command.{Part, part, parts, option_of, followed, given}
use Rattle.command_words.specs.Given.{Texts, State, gathered, with_part, with_next, step_by, step}

-- what is given at the end, where no option waits for its value
abbrev pub ended : Texts → Option Name → Option Texts
ended g None = Some g
ended g (Some name) = None

-- what is given once more words were read
abbrev pub read_from : State → List (List ℕ) → Option Texts
read_from s [] = ended s.given s.waiting
read_from s (word ∷ rest) = option_and_then (λ next. read_from next rest) (step s word)

-- an option's name is no part
pub name_is_no_part : (word : List ℕ) (name : Name) → option_of word ≡ Some name → part word ≡ None
name_is_no_part word name e =
    by_workers (bytes_eq word (codes "--workers")) refl
  where
    by_decl : (t : Bool) → bytes_eq word (codes "--decl") ≡ t → bytes_eq word (codes "--workers") ≡ false → bytes_eq word (codes "--format") ≡ false → part word ≡ None
    by_decl true d w f = rw ((bytes_eq-Decides word (codes "--decl")).0 d) refl
    by_decl false d w f = let none : option_of word ≡ None = rw (w, f, d) refl in cc

    by_format : (t : Bool) → bytes_eq word (codes "--format") ≡ t → bytes_eq word (codes "--workers") ≡ false → part word ≡ None
    by_format true f w = rw ((bytes_eq-Decides word (codes "--format")).0 f) refl
    by_format false f w = by_decl (bytes_eq word (codes "--decl")) refl w f

    by_workers : (t : Bool) → bytes_eq word (codes "--workers") ≡ t → part word ≡ None
    by_workers true w = rw ((bytes_eq-Decides word (codes "--workers")).0 w) refl
    by_workers false w = by_format (bytes_eq word (codes "--format")) refl w

-- the rest is read after a part as it is read by itself
abbrev pub IsRead : List (List ℕ) → Type 0
IsRead rest = (all : Texts) → read_from (record { given = all; waiting = None }) rest ≡ option_and_then (gathered all) (parts rest)

gathered_past : (first : Part) (rest : Option (List Part)) (g : Texts) (next : Option Texts) → with_part g first ≡ next
    → option_and_then (λ all. option_and_then (gathered all) rest) next ≡ option_and_then (gathered g) (followed (Some first) rest)
gathered_past first None g None e = refl
gathered_past first None g (Some all) e = refl
gathered_past first (Some rest) g None e = rw e refl
gathered_past first (Some rest) g (Some all) e = rw e refl

-- a part, and the words behind it
next_read : (g : Texts) (next : Option Part) (rest : List (List ℕ)) → IsRead rest
    → option_and_then (λ s. read_from s rest) (with_next g next) ≡ option_and_then (gathered g) (followed next (parts rest))
next_read g None rest h = refl
next_read g (Some first) rest h = go (with_part g first) refl
  where
    go : (next : Option Texts) → with_part g first ≡ next → option_and_then (λ s. read_from s rest) (with_next g (Some first)) ≡ option_and_then (gathered g) (followed (Some first) (parts rest))
    go None e = rw e (gathered_past first (parts rest) g None e)
    go (Some all) e = rw e (h all ∙ gathered_past first (parts rest) g (Some all) e)

-- a last word
last_read : (g : Texts) (word : List ℕ) (name : Option Name) → option_of word ≡ name
    → option_and_then (λ s. read_from s []) (step_by g None name word) ≡ option_and_then (gathered g) (followed (part word) (Some []))
last_read g word None e = next_read g (part word) [] (λ all. refl)
last_read g word (Some name) e = rw (name_is_no_part word name e) refl

two_read : (g : Texts) (word next : List ℕ) (rest : List (List ℕ)) → IsRead (next ∷ rest) → IsRead rest → (name : Option Name) → option_of word ≡ name
    → read_from (record { given = g; waiting = None }) (word ∷ next ∷ rest) ≡ option_and_then (gathered g) (parts (word ∷ next ∷ rest))
two_read g word next rest h k None e = rw e (next_read g (part word) (next ∷ rest) h)
two_read g word next rest h k (Some name) e = rw e (next_read g (given (Some name) next) rest k)

pub read_all : (words : List (List ℕ)) → IsRead words
read_all [] g = refl
read_all (word ∷ []) g = last_read g word (option_of word) refl
read_all (word ∷ next ∷ rest) g = two_read g word next rest (read_all (next ∷ rest)) (read_all rest) (option_of word) refl

-- what is left of some words, where the reading after the next one is known
pub next_word : {X : Type 0} (text : X → List ℕ) (words : List X) (i : ℕ) (word : X) (s : State) (after : Option State) → i < length words → word ≡ get_or words i word → after ≡ step s (text word)
    → read_from s (map text (drop i words)) ≡ option_and_then (λ next. read_from next (map text (drop (i + 1) words))) after
next_word text words i word s after lt is e =
    at_drop_more (λ rest. read_from s (map text rest)) words i word lt
    ∙ ap (option_and_then (λ next. read_from next (map text (drop (i + 1) words)))) (sym (e ∙ ap (λ w. step s (text w)) is))

-- nothing is left of the words
pub last_word : {X : Type 0} (text : X → List ℕ) (words : List X) (i : ℕ) (s : State) → length words ≤ i → read_from s (map text (drop i words)) ≡ ended s.given s.waiting
last_word text words i s le = ap (λ rest. read_from s (map text rest)) (drop_all i words le)
