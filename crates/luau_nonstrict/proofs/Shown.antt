-- Lemmas on names and the paths that are made of them.
use Rattle.std.proofs.Common.{◌≡◌, ◌+◌, ◌<◌, ◌≤◌, ◌==◌, ◌&&◌, not, ℕ, zero, suc, Bool, true, false, List, [], ◌∷◌, ◌++◌, Option, Some, All, length, take, drop, refl, sym, ap, ◌∙◌, subst, arith, unwrap_or, eqb, ne_eqb, get_or-drop, length-drop, ⊎_elim}
use Rattle.std.proofs.lemmas.Bool.{and_parts, and_from, cases_eq, cond_both, eqb-false}
use Rattle.std.proofs.lemmas.List.Elements.{All-append}
use Rattle.std.specs.List.{slice_index}
use Rattle.std.specs.Option.{option_map}
use Rattle.std.specs.Path.{rfind_below, rsplit_once}
use Rattle.luau_nonstrict.specs.Place.{join}
use Rattle.luau_nonstrict.specs.Visible.{is_hidden, shows_from, IsShown, IsName}

-- what follows a place in a text, the whole of it where there is none
abbrev following : List ℕ → Option ℕ → List ℕ
following text place = unwrap_or (option_map (λ (split : List ℕ × List ℕ). split.1) (option_map (λ k. (take k text, drop (k + 1) text)) place)) text

-- no `/` stands after the last one of a text, which is sought below n
name_below : (text : List ℕ) (n : ℕ) → n ≤ length text → ((i : ℕ) → n ≤ i → i < length text → slice_index text i ≡ 47 → ⊥) → IsName (following text (rfind_below 47 text n))
name_below text zero within after = λ i below. after i (omega arith) below
name_below text (suc n) within after =
    cond_both (eqb (slice_index text n) 47) (Some n) (rfind_below 47 text n) (λ place. IsName (following text place))
    (λ here i below e. after ((n + 1) + i) (omega arith) (omega (arith, length-drop (n + 1) text)) (sym (get_or-drop (n + 1) text i 0) ∙ e))
    (λ other. name_below text n (omega arith) (λ i from below e. ⊎_elim
    (λ here. eqb-false _ 47 other (ap (λ j. slice_index text j) (sym here) ∙ e))
    (λ apart. after i (omega arith) below e)
    (cases_eq i n)))

-- what follows the last `/` of a text is a name
pub after_slash-IsName : (text : List ℕ) → IsName (unwrap_or (option_map (λ (split : List ℕ × List ℕ). split.1) (rsplit_once 47 text)) text)
unfolding rsplit_once
after_slash-IsName text = name_below text (length text) (omega arith) (λ i from below. absurd (omega arith))

IsName-rest : (byte : ℕ) (name : List ℕ) → IsName (byte ∷ name) → IsName name
IsName-rest byte name is = λ i below. is (suc i) (omega arith)

-- inside a name no other begins
shows_from-inside : (name : List ℕ) → IsName name → shows_from false name ≡ true
shows_from-inside [] is = refl
shows_from-inside (byte ∷ name) is = ap (λ begins. shows_from begins name) (ne_eqb byte 47 (is 0 (omega arith))) ∙ shows_from-inside name (IsName-rest byte name is)

-- a name that does not begin with `.` is shown
pub IsShown-name : (name : List ℕ) → IsName name → is_hidden name ≡ false → IsShown name
IsShown-name [] is plain = refl
IsShown-name (byte ∷ name) is plain = and_from _ _ (ap not plain) (ap (λ begins. shows_from begins name) (ne_eqb byte 47 (is 0 (omega arith))) ∙ shows_from-inside name (IsName-rest byte name is))

shows_from-then : (begins : Bool) (xs ys : List ℕ) → shows_from begins xs ≡ true → IsShown ys → shows_from begins (xs ++ 47 ∷ ys) ≡ true
shows_from-then true [] ys front back = back
shows_from-then false [] ys front back = back
shows_from-then begins (x ∷ xs) ys front back =
    let parts = and_parts (not (begins && x == 46)) (shows_from (x == 47) xs) front in
    and_from _ _ parts.0 (shows_from-then (x == 47) xs ys parts.1 back)

-- such a name in a shown folder is shown
pub IsShown-join : (folder name : List ℕ) → IsShown folder → IsName name → is_hidden name ≡ false → IsShown (join folder name)
IsShown-join [] name front is plain = IsShown-name name is plain
IsShown-join (byte ∷ folder) name front is plain = shows_from-then true (byte ∷ folder) name front (IsShown-name name is plain)

All-one : {X : Type 0} (P : X → Type 0) (x : X) → P x → All P (x ∷ [])
All-one P x here zero d below = here
All-one P x here (suc k) d below = absurd (omega arith)

-- what holds of each element holds still where one more is added of which it holds
pub All-push : {X : Type 0} (P : X → Type 0) (xs ys : List X) (x : X) → ys ≡ xs ++ x ∷ [] → All P xs → P x → All P ys
All-push P xs ys x is all here = subst (All P) (sym is) (All-append P xs (x ∷ []) all (All-one P x here))
