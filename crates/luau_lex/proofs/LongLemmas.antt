-- Long brackets, by their bytes.
use Rattle.std.proofs.Common.{◌≡◌, ℕ, zero, suc, ◌+◌, ◌<◌, ◌≤◌, Bool, true, false, ◌&&◌, eqb, cond, inl, inr, List, [], ◌∷◌, ◌++◌, length, take, drop, get_or, slice_index, replicate, Option, Some, None, sym, refl, ap, subst, ◌∙◌, arith, append_assoc, length-append, length-drop, length-take, length-take-le, eq-eqb}
use Rattle.std.specs.List.{prefix_len, list_all}
use Rattle.std.proofs.str.Laws.{order}
use Rattle.std.proofs.Math.Seq.{take-add, get_or-append_seam, drop-append_seam}
use Rattle.std.proofs.lemmas.Bool.{eqb-true}
use Rattle.std.proofs.lemmas.List.{take_more, get_or_past, take-append-drop, take-append-le, drop-append-le}
use Rattle.luau_lex.specs.Bytes.{equals, bracket, closing_bracket}
use Rattle.luau_lex.specs.Computed.Brackets.{level, closes, closing_place, equals_len}
use Rattle.luau_lex.specs.Forms.{bracket_of, ClosesFirst, IsLong, NoneOpens}
use Rattle.luau_lex.proofs.BracketLemmas.{closing_found, closes_there, closes_not_before}
use Rattle.luau_lex.proofs.SpellingLemmas.{and_at, both_at, run_exact}

-- a byte, some bytes and a last one
absurd_or_lt : (m n : ℕ) → (n ≤ m → ⊥) → m < n
absurd_or_lt m n h = elim (order m n) [ inl lt ↦ lt | inr le ↦ absurd (h le) ]

pub take_marked : (x last n : ℕ) (behind : List ℕ) → 0 < last → get_or behind n 0 ≡ last → take (n + 2) (x ∷ behind) ≡ x ∷ (take n behind ++ last ∷ [])
take_marked x last n behind some is =
    let within : n < length behind = absurd_or_lt n (length behind) (λ past. omega (arith, get_or_past behind n 0 past, is)) in
    let next : n + 2 ≡ suc (n + 1) = omega arith in
    ap (λ k. take k (x ∷ behind)) next
    ∙ ap (λ l. x ∷ l) (take_more behind n 0 within ∙ ap (λ b. take n behind ++ b ∷ []) is)

-- a run of one byte
run_at : (b x : ℕ) (xs : List ℕ) (n : ℕ) (t : Bool) → eqb x b ≡ t → ((k : ℕ) → prefix_len (λ x. eqb x b) xs ≡ k → take k xs ≡ replicate k b) → cond t (1 + prefix_len (λ x. eqb x b) xs) 0 ≡ n → take n (x ∷ xs) ≡ replicate n b
run_at b x xs zero true is more h = refl
run_at b x xs (suc n) true is more h =
    ap (λ y. y ∷ take n xs) (eqb-true x b is) ∙ ap (λ l. b ∷ l) (more n (omega (arith, h)))
run_at b x xs zero false is more h = refl
run_at b x xs (suc n) false is more h = absurd (omega (arith, h))

pub run_of : (b : ℕ) (xs : List ℕ) (n : ℕ) → prefix_len (λ x. eqb x b) xs ≡ n → take n xs ≡ replicate n b
run_of b [] zero h = refl
run_of b [] (suc n) h = absurd (omega (arith, h))
run_of b (x ∷ xs) n h = run_at b x xs n (eqb x b) refl (λ k. run_of b xs k) h

-- a bracket of this level at the front
bracketed : (b signs : ℕ) (text : List ℕ) → 0 < b → slice_index text 0 ≡ b → equals_len (drop 1 text) ≡ signs → slice_index (drop 1 text) signs ≡ b → take (signs + 2) text ≡ bracket_of b signs
bracketed b signs [] some first run last = absurd (omega (arith, first))
bracketed b signs (x ∷ behind) some first run last =
    take_marked x b signs behind some last
    ∙ ap (λ y. y ∷ (take signs behind ++ b ∷ [])) first
    ∙ ap (λ l. b ∷ (l ++ b ∷ [])) (run_of equals behind signs run)

opened : (m signs : ℕ) (text : List ℕ) → equals_len (drop 1 text) ≡ m → (t : Bool) → (eqb (slice_index text 0) bracket && eqb (slice_index (drop 1 text) m) bracket) ≡ t → ◌≡◌ {A = Option ℕ} (cond t (Some m) None) (Some signs) → take (signs + 2) text ≡ bracket_of bracket signs
opened m signs text run true h is =
    let same : m ≡ signs = cc in
    and_at (eqb (slice_index text 0) bracket) (eqb (slice_index (drop 1 text) m) bracket) h
    (λ first last. subst (λ k. take (k + 2) text ≡ bracket_of bracket k) same (bracketed bracket m text (omega arith) (eqb-true _ _ first) run (eqb-true _ _ last)))
opened m signs text run false h is = absurd (cc)

pub opens_front : (signs : ℕ) (text : List ℕ) → level text ≡ Some signs → take (signs + 2) text ≡ bracket_of bracket signs
unfolding level
opens_front signs text is = opened (equals_len (drop 1 text)) signs text refl _ refl is

pub closes_front : (signs : ℕ) (text : List ℕ) → closes signs text ≡ true → take (signs + 2) text ≡ bracket_of closing_bracket signs
unfolding closes
closes_front signs text h =
    and_at (eqb (slice_index text 0) closing_bracket) (eqb (equals_len (drop 1 text)) signs && eqb (slice_index (drop 1 text) signs) closing_bracket) h
    (λ first more. and_at (eqb (equals_len (drop 1 text)) signs) (eqb (slice_index (drop 1 text) signs) closing_bracket) more
    (λ run last. bracketed closing_bracket signs text (omega arith) (eqb-true _ _ first) (eqb-true _ _ run) (eqb-true _ _ last)))

pub all_replicate : (p : ℕ → Bool) (b n : ℕ) → p b ≡ true → list_all p (replicate n b) ≡ true
all_replicate p b zero h = refl
all_replicate p b (suc n) h = both_at (p b) (list_all p (replicate n b)) h (all_replicate p b n h)

length_replicate : (b n : ℕ) → length (replicate n b) ≡ n
length_replicate b zero = refl
length_replicate b (suc n) = omega (arith, length_replicate b n)

pub signs_in : (b n : ℕ) (behind : List ℕ) → eqb b equals ≡ false → equals_len (replicate n equals ++ b ∷ behind) ≡ n
signs_in b n behind other = run_exact (λ x. eqb x equals) (replicate n equals) (b ∷ behind) (all_replicate (λ x. eqb x equals) equals n refl) other ∙ length_replicate equals n

last_in : (b n : ℕ) (behind : List ℕ) → get_or (replicate n equals ++ b ∷ behind) n 0 ≡ b
last_in b n behind = ap (λ k. get_or (replicate n equals ++ b ∷ behind) k 0) (sym (length_replicate equals n)) ∙ get_or-append_seam (replicate n equals) b behind 0

regrouped : (b n : ℕ) (behind : List ℕ) → bracket_of b n ++ behind ≡ b ∷ (replicate n equals ++ b ∷ behind)
regrouped b n behind = ap (λ l. b ∷ l) (append_assoc (replicate n equals) (b ∷ []) behind)

pub bracket_len : (b n : ℕ) → length (bracket_of b n) ≡ n + 2
bracket_len b n = omega (arith, length-append (replicate n equals) (b ∷ []), length_replicate equals n)

-- a bracket of a level opens as one
pub level_bracket : (n : ℕ) (behind : List ℕ) → level (bracket_of bracket n ++ behind) ≡ Some n
unfolding level
level_bracket n behind =
    let rest = replicate n equals ++ bracket ∷ behind in
    ap level (regrouped bracket n behind)
    ∙ ap (λ k. cond (eqb (slice_index rest k) bracket) (Some k) None) (signs_in bracket n behind refl)
    ∙ ap (λ b. cond (eqb b bracket) (Some n) None) (last_in bracket n behind)

eqb_same : (n : ℕ) → eqb n n ≡ true
eqb_same n = eq-eqb n n refl

-- and closes as one
pub closes_bracket : (n : ℕ) (behind : List ℕ) → closes n (bracket_of closing_bracket n ++ behind) ≡ true
unfolding closes
closes_bracket n behind =
    let rest = replicate n equals ++ closing_bracket ∷ behind in
    ap (closes n) (regrouped closing_bracket n behind)
    ∙ ap (λ k. eqb k n && eqb (slice_index rest n) closing_bracket) (signs_in closing_bracket n behind refl)
    ∙ ap (λ t. t && eqb (slice_index rest n) closing_bracket) (eqb_same n)
    ∙ ap (λ b. eqb b closing_bracket) (last_in closing_bracket n behind)

-- where none opens, no bracket stands
pub none_opens : (words more : List ℕ) → level (words ++ more) ≡ None → NoneOpens words
none_opens words more none signs behind is =
    let opens : level (words ++ more) ≡ Some signs =
    ap (λ l. level (l ++ more)) is ∙ ap level (append_assoc (bracket_of bracket signs) behind more) ∙ level_bracket signs (behind ++ more) in
    cc

-- no bracket closes before the place where one closes first
closing_before : (signs place : ℕ) (text before behind : List ℕ) → closing_place signs text ≡ Some place → text ≡ before ++ (bracket_of closing_bracket signs ++ behind) → length before < place → ⊥
closing_before signs place text before behind there is early =
    let here : closes signs (drop (length before) text) ≡ true =
    ap (λ l. closes signs (drop (length before) l)) is ∙ ap (closes signs) (drop-append_seam before (bracket_of closing_bracket signs ++ behind)) ∙ closes_bracket signs behind in
    let never = closes_not_before signs place (length before) text there early in
    cc

pub closes_first : (signs place : ℕ) (text body more : List ℕ) → closing_place signs text ≡ Some place → length body ≡ place → text ≡ body ++ (bracket_of closing_bracket signs ++ more) → ClosesFirst signs body
closes_first signs place text body more there width whole before behind is =
    let b = bracket_of closing_bracket signs in
    let same : text ≡ before ++ (b ++ (behind ++ more)) =
    whole ∙ sym (append_assoc body b more) ∙ ap (λ l. l ++ more) is ∙ append_assoc before (b ++ behind) more ∙ ap (λ l. before ++ l) (append_assoc b behind more) in
    elim (order (length before) (length body)) [
      | inl early ↦ absurd (closing_before signs place text before (behind ++ more) there same (omega (arith, early, width)))
      | inr late ↦ late
    ]

-- an opening bracket lies within the text
pub opens_fits : (signs : ℕ) (text : List ℕ) → level text ≡ Some signs → signs + 2 ≤ length text
opens_fits signs text opens = omega (arith, ap length (opens_front signs text opens), length-take (signs + 2) text, bracket_len bracket signs)

-- and so does a closing one
pub closes_fits : (signs place : ℕ) (text : List ℕ) → closing_place signs text ≡ Some place → place + (signs + 2) ≤ length text
closes_fits signs place text there =
    omega (arith, ap length (closes_front signs (drop place text) (closes_there signs place text there)), length-take (signs + 2) (drop place text), length-drop place text, bracket_len closing_bracket signs)

-- what closes first is a body, its bracket and what follows
pub closed_whole : (signs place : ℕ) (text : List ℕ) → closing_place signs text ≡ Some place → text ≡ take place text ++ (bracket_of closing_bracket signs ++ drop (signs + 2) (drop place text))
closed_whole signs place text there =
    sym (take-append-drop place text)
    ∙ ap (λ l. take place text ++ l) (sym (take-append-drop (signs + 2) (drop place text))
    ∙ ap (λ l. l ++ drop (signs + 2) (drop place text)) (closes_front signs (drop place text) (closes_there signs place text there)))

-- what stands in long brackets at the front
pub long_here : (signs place : ℕ) (text : List ℕ) → level text ≡ Some signs → closing_place signs (drop (signs + 2) text) ≡ Some place → IsLong signs (take place (drop (signs + 2) text)) (take ((signs + 2) + (place + (signs + 2))) text)
long_here signs place text opens there =
    let behind = drop (signs + 2) text in
    let width = length-take-le place behind (omega (arith, closes_fits signs place behind there)) in (
      take-add (signs + 2) (place + (signs + 2)) text
          ∙ ap (λ l. l ++ take (place + (signs + 2)) behind) (opens_front signs text opens)
          ∙ ap (λ l. bracket_of bracket signs ++ l) (take-add place (signs + 2) behind
          ∙ ap (λ l. take place behind ++ l) (closes_front signs (drop place behind) (closes_there signs place behind there))),
      closes_first signs place behind (take place behind) (drop (signs + 2) (drop place behind)) there width (closed_whole signs place behind there),
    )

closing_none_at : (signs k : ℕ) (body more : List ℕ) → ClosesFirst signs body → k < length body → (t : Bool) → closes signs (drop k (body ++ (bracket_of closing_bracket signs ++ more))) ≡ t → t ≡ false
closing_none_at signs k body more first early true is =
    let b = bracket_of closing_bracket signs in
    let u = body ++ b in
    let long = length-append body b in
    let width = bracket_len closing_bracket signs in
    let inner = length-drop k u in
    let text : body ++ (b ++ more) ≡ u ++ more = sym (append_assoc body b more) in
    let front : take (signs + 2) (drop k u) ≡ b =
    sym (ap (λ l. take (signs + 2) (drop k l)) text ∙ ap (take (signs + 2)) (drop-append-le k u more (omega arith)) ∙ take-append-le (signs + 2) (drop k u) more (omega arith))
    ∙ closes_front signs (drop k (body ++ (b ++ more))) is in
    let whole : u ≡ take k u ++ (b ++ drop (signs + 2) (drop k u)) =
    sym (take-append-drop k u) ∙ ap (λ l. take k u ++ l) (sym (take-append-drop (signs + 2) (drop k u)) ∙ ap (λ l. l ++ drop (signs + 2) (drop k u)) front) in
    let late = first (take k u) (drop (signs + 2) (drop k u)) whole in
    absurd (omega (arith, late, length-take-le k u (omega arith)))
closing_none_at signs k body more first early false is = refl

-- a body that closes first is closed behind it
pub closing_again : (signs : ℕ) (body more : List ℕ) → ClosesFirst signs body → closing_place signs (body ++ (bracket_of closing_bracket signs ++ more)) ≡ Some (length body)
closing_again signs body more first =
    let b = bracket_of closing_bracket signs in
    let text = body ++ (b ++ more) in
    let here : closes signs (drop (length body) text) ≡ true = ap (closes signs) (drop-append_seam body (b ++ more)) ∙ closes_bracket signs more in
    closing_found signs text (length body) (omega (arith, length-append body (b ++ more), length-append b more, bracket_len closing_bracket signs))
    (λ k early. closing_none_at signs k body more first early (closes signs (drop k text)) refl)
    here

-- what stands in long brackets opens at its front and closes at its end, whatever follows
pub long_again : (signs : ℕ) (body bytes more : List ℕ) → IsLong signs body bytes → (level (bytes ++ more) ≡ Some signs) × (closing_place signs (drop (signs + 2) (bytes ++ more)) ≡ Some (length body)) × (length bytes ≡ (signs + 2) + (length body + (signs + 2)))
long_again signs body bytes more is =
    let a = bracket_of bracket signs in
    let b = bracket_of closing_bracket signs in
    let whole : bytes ++ more ≡ a ++ (body ++ (b ++ more)) = ap (λ l. l ++ more) is.0 ∙ append_assoc a (body ++ b) more ∙ ap (λ l. a ++ l) (append_assoc body b more) in
    let width = bracket_len bracket signs in
    let rest : drop (signs + 2) (bytes ++ more) ≡ body ++ (b ++ more) =
    ap (drop (signs + 2)) whole ∙ ap (λ k. drop k (a ++ (body ++ (b ++ more)))) (sym width) ∙ drop-append_seam a (body ++ (b ++ more)) in (
      ap level whole ∙ level_bracket signs (body ++ (b ++ more)),
      ap (closing_place signs) rest ∙ closing_again signs body more is.1,
      omega (arith, ap length is.0, length-append a (body ++ b), length-append body b, width, bracket_len closing_bracket signs),
    )
