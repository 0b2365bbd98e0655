-- The inside of a string, from one element to the next.
use Rattle.std.proofs.Common.{◌≡◌, ℕ, zero, suc, ◌+◌, ◌-◌, ◌*◌, ◌<◌, ◌≤◌, true, false, cond, List, [], ◌∷◌, ◌++◌, length, get_or, drop, Option, Some, None, sym, refl, ap, ◌∙◌, arith, append_assoc, add-zero, zero-add, length-drop, get_or-drop}
use Rattle.std.proofs.lemmas.List.{drop-drop}
use Rattle.luau_lex.specs.declared.elements.Parsed.{Parsed}
use Rattle.std.specs.Prelude.{option_map, unwrap_or, is_some, is_none}
use Rattle.std.proofs.Math.Nat.{mul-le-mul_left}
use Rattle.luau_lex.specs.Computed.Steps.{seen, stands_value}
use Rattle.luau_lex.specs.Computed.Strings.{Element, element, ends_inside, inside_from, inside_len, malformed_from, malformed_at, value_from, value_of_inside}
use Rattle.luau_lex.specs.Numbers.{number_behind, digit_number}

-- what is not missing is there
none_is_not : (o : Option (List ℕ)) → is_none o ≡ false → is_some o ≡ true
none_is_not None h = cc
none_is_not (Some x) h = refl

-- a number never gets smaller by further digits
pub number_grows : (base n : ℕ) (digits : List ℕ) → 1 ≤ base → n ≤ number_behind base n digits
number_grows base n [] h = omega arith
number_grows base n (d ∷ digits) h = omega (arith, number_grows base (base * n + digit_number d) digits h, mul-le-mul_left n h)

-- the elements behind one that has begun
pub inside_skip : (mark begun : ℕ) (text : List ℕ) → begun ≤ length text → inside_from mark begun text ≡ begun + inside_from mark 0 (drop begun text)
inside_skip mark zero text h = sym (zero-add _)
inside_skip mark (suc begun) [] h = absurd (omega arith)
inside_skip mark (suc begun) (b ∷ text) h = omega (arith, inside_skip mark begun text (omega arith))

inside_front : (mark d : ℕ) (text : List ℕ) → 0 < length text → ends_inside mark (get_or text 0 0) ≡ false → (element text).len ≡ suc d → suc d ≤ length text → inside_len mark text ≡ suc d + inside_len mark (drop (suc d) text)
inside_front mark d [] some goes len fits = absurd (omega arith)
inside_front mark d (b ∷ text) some goes len fits =
    let one_less : (element (b ∷ text)).len - 1 ≡ d = omega (arith, len) in
    ap (λ t. cond t 0 (suc (inside_from mark ((element (b ∷ text)).len - 1) text))) goes
    ∙ ap (λ k. suc (inside_from mark k text)) one_less
    ∙ omega (arith, inside_skip mark d text (omega arith))

-- where the inside goes on, it goes on behind the next element
pub inside_next : (mark e : ℕ) (text : List ℕ) → 0 < length text → ends_inside mark (get_or text 0 0) ≡ false → (element text).len ≡ e → 1 ≤ e → e ≤ length text → inside_len mark text ≡ e + inside_len mark (drop e text)
inside_next mark zero text some goes len least fits = absurd (omega arith)
inside_next mark (suc d) text some goes len least fits = inside_front mark d text some goes len fits

pub inside_ends : (mark : ℕ) (text : List ℕ) → ends_inside mark (get_or text 0 0) ≡ true → inside_len mark text ≡ 0
inside_ends mark [] ends = refl
inside_ends mark (b ∷ text) ends = ap (λ t. cond t 0 (suc (inside_from mark ((element (b ∷ text)).len - 1) text))) ends

-- two shifts are one
pub shifts : (m k : ℕ) (o : Option ℕ) → option_map (λ n. m + n) (option_map (λ n. k + n) o) ≡ option_map (λ n. m + k + n) o
shifts m k None = refl
shifts m k (Some n) = ap Some (omega arith)

shift_suc : (k : ℕ) (o : Option ℕ) → option_map (λ n. suc n) (option_map (λ n. k + n) o) ≡ option_map (λ n. suc k + n) o
shift_suc k None = refl
shift_suc k (Some n) = ap Some (omega arith)

pub shift_none : (o : Option ℕ) → option_map (λ n. 0 + n) o ≡ o
shift_none None = refl
shift_none (Some n) = ap Some (omega arith)

malformed_skip : (begun : ℕ) (inside : List ℕ) → begun ≤ length inside → malformed_from begun inside ≡ option_map (λ n. begun + n) (malformed_at (drop begun inside))
malformed_skip zero inside h = sym (shift_none (malformed_at inside))
malformed_skip (suc begun) [] h = absurd (omega arith)
malformed_skip (suc begun) (b ∷ inside) h =
    ap (option_map (λ n. suc n)) (malformed_skip begun inside (omega arith)) ∙ shift_suc begun (malformed_at (drop begun inside))

malformed_front : (d : ℕ) (inside : List ℕ) → 0 < length inside → is_some (element inside).value ≡ true → (element inside).len ≡ suc d → suc d ≤ length inside → malformed_at inside ≡ option_map (λ n. suc d + n) (malformed_at (drop (suc d) inside))
malformed_front d [] some good len fits = absurd (omega arith)
malformed_front d (b ∷ inside) some good len fits =
    let one_less : (element (b ∷ inside)).len - 1 ≡ d = omega (arith, len) in
    ap (λ t. cond t (option_map (λ n. suc n) (malformed_from ((element (b ∷ inside)).len - 1) inside)) (Some 0)) good
    ∙ ap (λ k. option_map (λ n. suc n) (malformed_from k inside)) one_less
    ∙ ap (option_map (λ n. suc n)) (malformed_skip d inside (omega arith))
    ∙ shift_suc d (malformed_at (drop d inside))

-- behind an element that is no malformed escape
pub malformed_next : (e : ℕ) (inside : List ℕ) → 0 < length inside → is_some (element inside).value ≡ true → (element inside).len ≡ e → 1 ≤ e → e ≤ length inside → malformed_at inside ≡ option_map (λ n. e + n) (malformed_at (drop e inside))
malformed_next zero inside some good len least fits = absurd (omega arith)
malformed_next (suc d) inside some good len least fits = malformed_front d inside some good len fits

pub malformed_here : (inside : List ℕ) → 0 < length inside → is_some (element inside).value ≡ false → malformed_at inside ≡ Some 0
malformed_here [] some bad = absurd (omega arith)
malformed_here (b ∷ inside) some bad = ap (λ t. cond t (option_map (λ n. suc n) (malformed_from ((element (b ∷ inside)).len - 1) inside)) (Some 0)) bad

value_skip : (begun : ℕ) (inside : List ℕ) → value_from begun inside ≡ value_of_inside (drop begun inside)
value_skip zero inside = refl
value_skip (suc begun) [] = refl
value_skip (suc begun) (b ∷ inside) = value_skip begun inside

-- what the next element stands for comes first
pub value_next : (e : ℕ) (inside : List ℕ) → 0 < length inside → (element inside).len ≡ e → 1 ≤ e → value_of_inside inside ≡ unwrap_or (element inside).value [] ++ value_of_inside (drop e inside)
value_next e [] some len least = absurd (omega arith)
value_next zero (b ∷ inside) some len least = absurd (omega arith)
value_next (suc d) (b ∷ inside) some len least =
    let one_less : (element (b ∷ inside)).len - 1 ≡ d = omega (arith, len) in
    ap (λ k. unwrap_or (element (b ∷ inside)).value [] ++ value_from k inside) one_less
    ∙ ap (λ v. unwrap_or (element (b ∷ inside)).value [] ++ v) (value_skip d inside)

-- the first byte of what is left from a place on
first_left : (n : ℕ) (text : List ℕ) → get_or (drop n text) 0 0 ≡ get_or text n 0
first_left n text = get_or-drop n text 0 0 ∙ ap (λ i. get_or text i 0) (add-zero n)

-- an element of what is left lies within the text
pub fits_left : (n e : ℕ) (text t : List ℕ) → t ≡ drop n text → n < length text → e ≤ length t → n + e ≤ length text
fits_left n e text t left here fits = omega (arith, ap length left, length-drop n text)

some_left : (n : ℕ) (text t : List ℕ) → t ≡ drop n text → n < length text → 0 < length t
some_left n text t left here = omega (arith, ap length left, length-drop n text)

-- one turn of the loop over the inside
pub inside_more : (mark n : ℕ) (text t : List ℕ) (parsed : Parsed) → t ≡ drop n text → n < length text → ends_inside mark (get_or text n 0) ≡ false → seen parsed ≡ element t → 1 ≤ parsed.len → parsed.len ≤ length t → inside_len mark text ≡ n + inside_len mark (drop n text) → inside_len mark text ≡ n + parsed.len + inside_len mark (drop (n + parsed.len) text)
inside_more mark n text t parsed left here goes is least fits before =
    let first = ap (λ l. get_or l 0 0) left ∙ first_left n text in
    let next = inside_next mark parsed.len t (some_left n text t left here) (ap (ends_inside mark) first ∙ goes) (ap (λ (e : Element). e.len) (sym is)) least fits in
    let same = ap (inside_len mark) left in
    let behind = ap (λ l. inside_len mark (drop parsed.len l)) left ∙ ap (inside_len mark) (drop-drop parsed.len n text) in
    omega (arith, before, next, same, behind)

-- one turn of the loop that looks for a malformed escape
pub malformed_more : (n : ℕ) (inside t : List ℕ) (parsed : Parsed) → t ≡ drop n inside → n < length inside → is_none (stands_value parsed.stands) ≡ false → seen parsed ≡ element t → 1 ≤ parsed.len → parsed.len ≤ length t → malformed_at inside ≡ option_map (λ m. n + m) (malformed_at (drop n inside)) → malformed_at inside ≡ option_map (λ m. n + parsed.len + m) (malformed_at (drop (n + parsed.len) inside))
malformed_more n inside t parsed left here good is least fits before =
    let good' = ap (λ (e : Element). is_some e.value) (sym is) ∙ none_is_not (stands_value parsed.stands) good in
    before
    ∙ ap (λ l. option_map (λ m. n + m) (malformed_at l)) (sym left)
    ∙ ap (option_map (λ m. n + m)) (malformed_next parsed.len t (some_left n inside t left here) good' (ap (λ (e : Element). e.len) (sym is)) least fits)
    ∙ shifts n parsed.len (malformed_at (drop parsed.len t))
    ∙ ap (λ l. option_map (λ m. n + parsed.len + m) (malformed_at l)) (ap (drop parsed.len) left ∙ drop-drop parsed.len n inside)

-- one turn of the loop that collects what the inside stands for
pub value_more : (n : ℕ) (inside t out next : List ℕ) (parsed : Parsed) → t ≡ drop n inside → n < length inside → seen parsed ≡ element t → 1 ≤ parsed.len → next ≡ out ++ unwrap_or (stands_value parsed.stands) [] → out ++ value_of_inside (drop n inside) ≡ value_of_inside inside → next ++ value_of_inside (drop (n + parsed.len) inside) ≡ value_of_inside inside
value_more n inside t out next parsed left here is least pushed before =
    ap (λ l. l ++ value_of_inside (drop (n + parsed.len) inside)) pushed
    ∙ append_assoc out _ _
    ∙ ap (λ l. out ++ l)
    (ap (λ (e : Element). unwrap_or e.value [] ++ value_of_inside (drop (n + parsed.len) inside)) is
    ∙ ap (λ l. unwrap_or (element t).value [] ++ value_of_inside l) (sym (ap (drop parsed.len) left ∙ drop-drop parsed.len n inside))
    ∙ sym (value_next parsed.len t (some_left n inside t left here) (ap (λ (e : Element). e.len) (sym is)) least)
    ∙ ap value_of_inside left)
    ∙ before
