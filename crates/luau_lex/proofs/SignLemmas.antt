-- The signs of the table are those that are read, and the longest is read.
use Rattle.std.proofs.Common.{◌≡◌, ℕ, zero, suc, ◌<◌, ◌≤◌, Bool, true, false, ◌&&◌, eqb, nat_le, cond, List, [], ◌∷◌, length, take, slice_index, sym, refl, ap, subst, ◌∙◌, arith, le-leb}
use Rattle.std.proofs.lemmas.Bool.{leb-true}
use Rattle.luau_lex.specs.Computed.Signs.{sign_len, sign_len_of}
use Rattle.luau_lex.specs.Signs.{is_sign}
use Rattle.luau_lex.proofs.LongestLemmas.{Longest}

-- the longest sign that is listed among these three fronts
abbrev pub listed_len : ℕ → ℕ → ℕ → ℕ
listed_len a b c = cond (is_sign (a ∷ b ∷ c ∷ [])) 3 (cond (is_sign (a ∷ b ∷ [])) 2 (cond (is_sign (a ∷ [])) 1 0))

split_at : (P : ℕ → Type 0) (k a : ℕ) (t : Bool) → eqb a k ≡ t → P k → (eqb a k ≡ false → P a) → P a
split_at P k a true is same other = let e : a ≡ k = grind arith in subst P (sym e) same
split_at P k a false is same other = other is

and_no : (b : Bool) → b && false ≡ false
and_no true = refl
and_no false = refl

-- a number is this one, or is told apart from it
split : (P : ℕ → Type 0) (k a : ℕ) → P k → (eqb a k ≡ false → P a) → P a
split P k a same other = split_at P k a (eqb a k) refl same other

listed_43 : (b c : ℕ) → sign_len_of 43 b c ≡ listed_len 43 b c
unfolding sign_len_of
listed_43 b c = grind arith

listed_45 : (b c : ℕ) → sign_len_of 45 b c ≡ listed_len 45 b c
unfolding sign_len_of
listed_45 b c = grind arith

listed_42 : (b c : ℕ) → sign_len_of 42 b c ≡ listed_len 42 b c
unfolding sign_len_of
listed_42 b c = grind arith

listed_47 : (b c : ℕ) → sign_len_of 47 b c ≡ listed_len 47 b c
unfolding sign_len_of
listed_47 b c = grind arith

listed_37 : (b c : ℕ) → sign_len_of 37 b c ≡ listed_len 37 b c
unfolding sign_len_of
listed_37 b c = grind arith

listed_94 : (b c : ℕ) → sign_len_of 94 b c ≡ listed_len 94 b c
unfolding sign_len_of
listed_94 b c = grind arith

listed_35 : (b c : ℕ) → sign_len_of 35 b c ≡ listed_len 35 b c
unfolding sign_len_of
listed_35 b c = refl

listed_61 : (b c : ℕ) → sign_len_of 61 b c ≡ listed_len 61 b c
unfolding sign_len_of
listed_61 b c = grind arith

listed_126 : (b c : ℕ) → sign_len_of 126 b c ≡ listed_len 126 b c
unfolding sign_len_of
listed_126 b c = grind arith

listed_60 : (b c : ℕ) → sign_len_of 60 b c ≡ listed_len 60 b c
unfolding sign_len_of
listed_60 b c = grind arith

listed_62 : (b c : ℕ) → sign_len_of 62 b c ≡ listed_len 62 b c
unfolding sign_len_of
listed_62 b c = grind arith

listed_46 : (b c : ℕ) → sign_len_of 46 b c ≡ listed_len 46 b c
unfolding sign_len_of
listed_46 b c = grind arith

listed_40 : (b c : ℕ) → sign_len_of 40 b c ≡ listed_len 40 b c
unfolding sign_len_of
listed_40 b c = refl

listed_41 : (b c : ℕ) → sign_len_of 41 b c ≡ listed_len 41 b c
unfolding sign_len_of
listed_41 b c = refl

listed_123 : (b c : ℕ) → sign_len_of 123 b c ≡ listed_len 123 b c
unfolding sign_len_of
listed_123 b c = refl

listed_125 : (b c : ℕ) → sign_len_of 125 b c ≡ listed_len 125 b c
unfolding sign_len_of
listed_125 b c = refl

listed_91 : (b c : ℕ) → sign_len_of 91 b c ≡ listed_len 91 b c
unfolding sign_len_of
listed_91 b c = refl

listed_93 : (b c : ℕ) → sign_len_of 93 b c ≡ listed_len 93 b c
unfolding sign_len_of
listed_93 b c = refl

listed_58 : (b c : ℕ) → sign_len_of 58 b c ≡ listed_len 58 b c
unfolding sign_len_of
listed_58 b c = grind arith

listed_59 : (b c : ℕ) → sign_len_of 59 b c ≡ listed_len 59 b c
unfolding sign_len_of
listed_59 b c = refl

listed_44 : (b c : ℕ) → sign_len_of 44 b c ≡ listed_len 44 b c
unfolding sign_len_of
listed_44 b c = refl

listed_63 : (b c : ℕ) → sign_len_of 63 b c ≡ listed_len 63 b c
unfolding sign_len_of
listed_63 b c = refl

listed_124 : (b c : ℕ) → sign_len_of 124 b c ≡ listed_len 124 b c
unfolding sign_len_of
listed_124 b c = refl

listed_38 : (b c : ℕ) → sign_len_of 38 b c ≡ listed_len 38 b c
unfolding sign_len_of
listed_38 b c = refl

listed_64 : (b c : ℕ) → sign_len_of 64 b c ≡ listed_len 64 b c
unfolding sign_len_of
listed_64 b c = refl

-- what no sign begins with
listed_none : (a b c : ℕ) → eqb a 43 ≡ false → eqb a 45 ≡ false → eqb a 42 ≡ false → eqb a 47 ≡ false → eqb a 37 ≡ false → eqb a 94 ≡ false → eqb a 35 ≡ false → eqb a 61 ≡ false → eqb a 126 ≡ false → eqb a 60 ≡ false → eqb a 62 ≡ false → eqb a 46 ≡ false → eqb a 40 ≡ false → eqb a 41 ≡ false → eqb a 123 ≡ false → eqb a 125 ≡ false → eqb a 91 ≡ false → eqb a 93 ≡ false → eqb a 58 ≡ false → eqb a 59 ≡ false → eqb a 44 ≡ false → eqb a 63 ≡ false → eqb a 124 ≡ false → eqb a 38 ≡ false → eqb a 64 ≡ false → sign_len_of a b c ≡ listed_len a b c
unfolding sign_len_of
listed_none a b c h43 h45 h42 h47 h37 h94 h35 h61 h126 h60 h62 h46 h40 h41 h123 h125 h91 h93 h58 h59 h44 h63 h124 h38 h64 = simp (h43, h45, h42, h47, h37, h94, h35, h61, h126, h60, h62, h46, h40, h41, h123, h125, h91, h93, h58, h59, h44, h63, h124, h38, h64)

-- what is read at three bytes is the longest sign of the table
pub listed_is : (a b c : ℕ) → sign_len_of a b c ≡ listed_len a b c
listed_is a b c =
    let P : ℕ → Type 0 = λ x. sign_len_of x b c ≡ listed_len x b c in
    split P 43 a (listed_43 b c) (λ h43.
    split P 45 a (listed_45 b c) (λ h45.
    split P 42 a (listed_42 b c) (λ h42.
    split P 47 a (listed_47 b c) (λ h47.
    split P 37 a (listed_37 b c) (λ h37.
    split P 94 a (listed_94 b c) (λ h94.
    split P 35 a (listed_35 b c) (λ h35.
    split P 61 a (listed_61 b c) (λ h61.
    split P 126 a (listed_126 b c) (λ h126.
    split P 60 a (listed_60 b c) (λ h60.
    split P 62 a (listed_62 b c) (λ h62.
    split P 46 a (listed_46 b c) (λ h46.
    split P 40 a (listed_40 b c) (λ h40.
    split P 41 a (listed_41 b c) (λ h41.
    split P 123 a (listed_123 b c) (λ h123.
    split P 125 a (listed_125 b c) (λ h125.
    split P 91 a (listed_91 b c) (λ h91.
    split P 93 a (listed_93 b c) (λ h93.
    split P 58 a (listed_58 b c) (λ h58.
    split P 59 a (listed_59 b c) (λ h59.
    split P 44 a (listed_44 b c) (λ h44.
    split P 63 a (listed_63 b c) (λ h63.
    split P 124 a (listed_124 b c) (λ h124.
    split P 38 a (listed_38 b c) (λ h38.
    split P 64 a (listed_64 b c) (λ h64.
    listed_none a b c h43 h45 h42 h47 h37 h94 h35 h61 h126 h60 h62 h46 h40 h41 h123 h125 h91 h93 h58 h59 h44 h63 h124 h38 h64)))))))))))))))))))))))))

-- what is read of a text
pub sign_len_listed : (text : List ℕ) → sign_len text ≡ listed_len (slice_index text 0) (slice_index text 1) (slice_index text 2)
sign_len_listed text = listed_is (slice_index text 0) (slice_index text 1) (slice_index text 2)

no_zero_second : (a : ℕ) → is_sign (a ∷ 0 ∷ []) ≡ false
no_zero_second a = simp and_no

no_zero_third : (a b : ℕ) → is_sign (a ∷ b ∷ 0 ∷ []) ≡ false
no_zero_third a b = simp and_no

-- a front of this length is there, and is a sign
abbrev at_front : ℕ → List ℕ → Bool
at_front k text = nat_le k (length text) && is_sign (take k text)

-- the longest of the fronts of three, two and one bytes that is a sign
abbrev pick : Bool → Bool → Bool → ℕ
pick three two one = cond three 3 (cond two 2 (cond one 1 0))

here : (k : ℕ) (text : List ℕ) → k ≤ length text → at_front k text ≡ is_sign (take k text)
here k text fits = ap (λ t. t && is_sign (take k text)) (le-leb k (length text) fits)

-- what is read is the longest sign at the front
sign_len_pick : (text : List ℕ) → sign_len text ≡ pick (at_front 3 text) (at_front 2 text) (at_front 1 text)
sign_len_pick [] = sign_len_listed []
sign_len_pick (a ∷ []) =
    sign_len_listed (a ∷ [])
    ∙ ap (λ t. cond t 3 (cond (is_sign (a ∷ 0 ∷ [])) 2 (cond (is_sign (a ∷ [])) 1 0))) (no_zero_third a 0)
    ∙ ap (λ t. cond t 2 (cond (is_sign (a ∷ [])) 1 0)) (no_zero_second a)
sign_len_pick (a ∷ b ∷ []) =
    sign_len_listed (a ∷ b ∷ [])
    ∙ ap (λ t. cond t 3 (cond (is_sign (a ∷ b ∷ [])) 2 (cond (is_sign (a ∷ [])) 1 0))) (no_zero_third a b)
sign_len_pick (a ∷ b ∷ c ∷ text) =
    let l = a ∷ b ∷ c ∷ text in
    sign_len_listed l
    ∙ ap (λ t. pick t (is_sign (a ∷ b ∷ [])) (is_sign (a ∷ []))) (sym (here 3 l (omega arith)))
    ∙ ap (λ t. pick (at_front 3 l) t (is_sign (a ∷ []))) (sym (here 2 l (omega arith)))
    ∙ ap (λ t. pick (at_front 3 l) (at_front 2 l) t) (sym (here 1 l (omega arith)))

-- no sign has four bytes
no_four : (a b c d : ℕ) (text : List ℕ) → is_sign (a ∷ b ∷ c ∷ d ∷ text) ≡ false
no_four a b c d text = simp and_no

no_longer : (text : List ℕ) (n m : ℕ) → (n < 1 → at_front 1 text ≡ false) → (n < 2 → at_front 2 text ≡ false) → (n < 3 → at_front 3 text ≡ false) → n < m → m ≤ length text → is_sign (take m text) ≡ false
no_longer text n zero one two three longer fits = absurd (omega arith)
no_longer text n (suc zero) one two three longer fits = sym (here 1 text fits) ∙ one longer
no_longer text n (suc (suc zero)) one two three longer fits = sym (here 2 text fits) ∙ two longer
no_longer text n (suc (suc (suc zero))) one two three longer fits = sym (here 3 text fits) ∙ three longer
no_longer [] n (suc (suc (suc (suc m)))) one two three longer fits = absurd (omega arith)
no_longer (a ∷ []) n (suc (suc (suc (suc m)))) one two three longer fits = absurd (omega arith)
no_longer (a ∷ b ∷ []) n (suc (suc (suc (suc m)))) one two three longer fits = absurd (omega arith)
no_longer (a ∷ b ∷ c ∷ []) n (suc (suc (suc (suc m)))) one two three longer fits = absurd (omega arith)
no_longer (a ∷ b ∷ c ∷ d ∷ text) n (suc (suc (suc (suc m)))) one two three longer fits = no_four a b c d (take m text)

left_true : (a b : Bool) → a && b ≡ true → a ≡ true
left_true true b h = refl
left_true false b h = absurd (cc)

right_true : (a b : Bool) → a && b ≡ true → b ≡ true
right_true true b h = h
right_true false b h = absurd (cc)

longest_of : (k : ℕ) (text : List ℕ) → at_front k text ≡ true → (k < 1 → at_front 1 text ≡ false) → (k < 2 → at_front 2 text ≡ false) → (k < 3 → at_front 3 text ≡ false) → Longest is_sign text k
longest_of k text found one two three = record {
  within = leb-true k (length text) (left_true (nat_le k (length text)) (is_sign (take k text)) found);
  whole = right_true (nat_le k (length text)) (is_sign (take k text)) found;
  none_longer = λ m longer fits. no_longer text k m one two three longer fits;
}

picked : (text : List ℕ) (three two one : Bool) → at_front 3 text ≡ three → at_front 2 text ≡ two → at_front 1 text ≡ one → 0 < pick three two one → Longest is_sign text (pick three two one)
picked text true two one h3 h2 h1 some = longest_of 3 text h3 (λ lt. absurd (omega arith)) (λ lt. absurd (omega arith)) (λ lt. absurd (omega arith))
picked text false true one h3 h2 h1 some = longest_of 2 text h2 (λ lt. absurd (omega arith)) (λ lt. absurd (omega arith)) (λ lt. h3)
picked text false false true h3 h2 h1 some = longest_of 1 text h1 (λ lt. absurd (omega arith)) (λ lt. h2) (λ lt. h3)
picked text false false false h3 h2 h1 some = absurd (omega arith)

-- a sign is as long as it can be
pub sign_longest : (text : List ℕ) → 0 < sign_len text → Longest is_sign text (sign_len text)
sign_longest text some =
    let is = sign_len_pick text in
    subst (Longest is_sign text) (sym is) (picked text (at_front 3 text) (at_front 2 text) (at_front 1 text) refl refl refl (omega (arith, is)))

none_picked : (text : List ℕ) (three two one : Bool) → at_front 3 text ≡ three → at_front 2 text ≡ two → at_front 1 text ≡ one → pick three two one ≡ 0 → (m : ℕ) → 0 < m → m ≤ length text → is_sign (take m text) ≡ false
none_picked text true two one h3 h2 h1 none m some fits = absurd (omega arith)
none_picked text false true one h3 h2 h1 none m some fits = absurd (omega arith)
none_picked text false false true h3 h2 h1 none m some fits = absurd (omega arith)
none_picked text false false false h3 h2 h1 none m some fits = no_longer text 0 m (λ _. h1) (λ _. h2) (λ _. h3) some fits

-- where none is read, none is there
pub sign_missing : (text : List ℕ) (m : ℕ) → sign_len text ≡ 0 → 0 < m → m ≤ length text → is_sign (take m text) ≡ false
sign_missing text m none some fits =
    none_picked text (at_front 3 text) (at_front 2 text) (at_front 1 text) refl refl refl (sym (sign_len_pick text) ∙ none) m some fits
