-- Loops and lists: what is read is what the grammar says.
use Rattle.std.proofs.Common.{◌≡◌, ℕ, zero, suc, Bool, true, false, true≢false, not, ◌&&◌, inl, inr, List, [], ◌∷◌, ◌++◌, length, append_assoc, append-nil, refl, sym, ◌∙◌, ap, subst}
use Rattle.std.proofs.lemmas.Bool.{or_cases, not-true, not-false}
use Rattle.luau_grammar.specs.declared.symbol.Symbol.{Symbol}
use Rattle.luau_grammar.specs.declared.symbol.Symbol.TheVariants as s
use Rattle.luau_grammar.specs.Places.{Place, Rules, Takes, sees}
use Rattle.luau_grammar.specs.Lists.{AreSeparated, AreInBraces, TakesSeparator, sees_separator}
use Rattle.luau_grammar.specs.Reading.{Setting, Parser, ◌>>=◌, ◌>>◌, pure, next, expect, repeat, repeats, separated, separated_from}
use Rattle.luau_grammar.specs.ReadTypes.{Braced, braced, goes_braced, one_braced, separator}
use Rattle.luau_grammar.proofs.Agreement.{Sound}
use Rattle.luau_grammar.proofs.Primitives.{Reads, reads_ok, reads_err, reads_if, reads_then, reads_weaker, expect_sound, next_seen}

-- more of a list, each behind this sign
abbrev pub AreMore : {A : Type 0} → Rules → Symbol → (Place → Place → A → Type 0) → Place → Place → List A → Type 0
AreMore rules sign Is p q [] = (sees sign p ≡ false) × (q ≡ p)
AreMore rules sign Is p q (x ∷ xs) = (a b : Place) × Takes rules sign p a × Is a b x × AreMore rules sign Is b q xs

-- a list that begins with what was found, and goes on as this says
abbrev pub Adds : {A : Type 0} → (Place → Place → List A → Type 0) → List A → Place → Place → List A → Type 0
Adds {A} More found p q all = (xs : List A) × (all ≡ found ++ xs) × More p q xs

-- `x {',' x}`
abbrev pub Separated : {A : Type 0} → Rules → (Place → Place → A → Type 0) → Place → Place → List A → Type 0
Separated rules Is p q [] = ⊥
Separated rules Is p q (x ∷ xs) = AreSeparated rules Is p q x xs

-- `[x {(',' | ';') x} [',' | ';']]`, up to a `}`
abbrev pub IsBraced : {A : Type 0} → Rules → (Place → Place → A → Type 0) → Place → Place → List A → Type 0
IsBraced rules Is p q [] = (sees s.RightBrace p ≡ true) × (q ≡ p)
IsBraced rules Is p q (x ∷ xs) = (sees s.RightBrace p ≡ false) × AreInBraces rules Is p q x xs

-- one more behind a sign
abbrev pub behind_sign : {A : Type 0} → Setting → Symbol → Parser A → List A → Parser (List A)
behind_sign set sign item found = do
  expect set sign
  x ← item
  pure (found ++ x ∷ [])

-- A loop reads what is so where it stops, and where it goes on if it is so behind a step.
pub repeats_sound : {S : Type 0} (set : Setting) (goes : S → Place → Bool) (step : S → Parser S)
    (Steps Is : S → Place → Place → S → Type 0)
    → ((x : S) (p : Place) → goes x p ≡ false → Is x p p x)
    → ((x y z : S) (p a q : Place) → goes x p ≡ true → Steps x p a y → Is y a q z → Is x p q z)
    → ((x : S) → Sound (Steps x) (step x)) → (turns : ℕ) (x : S) → Sound (Is x) (repeats set goes step turns x)
unfolding repeats
repeats_sound set goes step Steps Is stop more sound zero x p =
    reads_if (goes x p) (λ h. reads_err _) (λ h. reads_ok _ (stop x p h))
repeats_sound set goes step Steps Is stop more sound (suc turns) x p =
    reads_if (goes x p)
    (λ h. reads_then (sound x p) (λ a y n.
    reads_weaker (repeats_sound set goes step Steps Is stop more sound turns y a) (λ q z i. more x y z p a q h n i)))
    (λ h. reads_ok _ (stop x p h))

pub repeat_sound : {S : Type 0} (set : Setting) (goes : S → Place → Bool) (step : S → Parser S)
    (Steps Is : S → Place → Place → S → Type 0)
    → ((x : S) (p : Place) → goes x p ≡ false → Is x p p x)
    → ((x y z : S) (p a q : Place) → goes x p ≡ true → Steps x p a y → Is y a q z → Is x p q z)
    → ((x : S) → Sound (Steps x) (step x)) → (x : S) → Sound (Is x) (repeat set goes step x)
repeat_sound set goes step Steps Is stop more sound x p =
    repeats_sound set goes step Steps Is stop more sound (length p.ahead) x p

module _ {A : Type 0} (set : Setting) (Is : Place → Place → A → Type 0) (item : Parser A) (sound : Sound Is item) where
  -- what one more is
  abbrev OneMore : Symbol → List A → Place → Place → List A → Type 0
  OneMore sign found p q all = (a : Place) × (x : A) × (all ≡ found ++ x ∷ []) × Takes set.rules sign p a × Is a q x

  behind_sign_sound : (sign : Symbol) (found : List A) → Sound (OneMore sign found) (behind_sign set sign item found)
  behind_sign_sound sign found p =
      reads_then (expect_sound set sign p) (λ a t n. reads_then (sound a) (λ b x i. reads_ok _ (a, x, refl, n, i)))

  more_stop : (sign : Symbol) (found : List A) (p : Place) → sees sign p ≡ false → Adds (AreMore set.rules sign Is) found p p found
  more_stop sign found p h = ([], sym (append-nil found), (h, refl))

  more_step : (sign : Symbol) (found one all : List A) (p a q : Place) → sees sign p ≡ true → OneMore sign found p a one
      → Adds (AreMore set.rules sign Is) one a q all → Adds (AreMore set.rules sign Is) found p q all
  more_step sign found one all p a q h n m =
      (n.1 ∷ m.0, m.1 ∙ (ap (λ z. z ++ m.0) n.2 ∙ append_assoc found (n.1 ∷ []) m.0), (n.0, a, n.3, n.4, m.2))

  -- a loop that adds to a list, each behind a sign
  pub more_sound : (sign : Symbol) (found : List A)
      → Sound (Adds (AreMore set.rules sign Is) found) (repeat set (λ _ p. sees sign p) (behind_sign set sign item) found)
  more_sound sign found =
      repeat_sound set (λ _ p. sees sign p) (behind_sign set sign item) (OneMore sign) (Adds (AreMore set.rules sign Is))
      (more_stop sign) (more_step sign) (behind_sign_sound sign) found

  pub separated_from_sound : (found : List A) → Sound (Adds (AreMore set.rules s.Comma Is) found) (separated_from set item found)
  unfolding separated_from
  separated_from_sound found = more_sound s.Comma found

-- one, and more of them
pub separated_join : {A : Type 0} (rules : Rules) (Is : Place → Place → A → Type 0) (xs : List A) (p a q : Place) (x : A)
    → Is p a x → AreMore rules s.Comma Is a q xs → AreSeparated rules Is p q x xs
separated_join rules Is [] p a q x i m = subst (λ z. Is p z x × (sees s.Comma z ≡ false)) (sym m.1) (i, m.0)
separated_join rules Is (y ∷ ys) p a q x i m = (a, m.0, i, m.2, separated_join rules Is ys m.0 m.1 q y m.3 m.4)

pub separated_split : {A : Type 0} (rules : Rules) (Is : Place → Place → A → Type 0) (xs : List A) (p q : Place) (x : A)
    → AreSeparated rules Is p q x xs → (a : Place) × Is p a x × AreMore rules s.Comma Is a q xs
separated_split rules Is [] p q x n = (q, n.0, (n.1, refl))
separated_split rules Is (y ∷ ys) p q x n =
    let m = separated_split rules Is ys n.1 q y n.4 in
    (n.0, n.2, (n.1, m.0, n.3, m.1, m.2))

pub separated_sound : {A : Type 0} (set : Setting) (Is : Place → Place → A → Type 0) (item : Parser A) → Sound Is item
    → Sound (Separated set.rules Is) (separated set item)
unfolding separated
separated_sound set Is item sound p =
    reads_then (sound p) (λ a x i.
    reads_weaker (separated_from_sound set Is item sound (x ∷ []) a)
    (λ q all n. subst (Separated set.rules Is p q) (sym n.1) (separated_join set.rules Is n.0 p a q x i n.2)))

-- the first and the others
pub some_separated : {A : Type 0} (rules : Rules) (Is : Place → Place → A → Type 0) (all : List A) (p q : Place)
    → Separated rules Is p q all → (x : A) × (xs : List A) × (all ≡ x ∷ xs) × AreSeparated rules Is p q x xs
some_separated rules Is [] p q n = absurd n
some_separated rules Is (x ∷ xs) p q n = (x, xs, refl, n)

-- `[',' | ';']`, and whether it stands there
abbrev pub IsSeparator : Rules → Place → Place → Bool → Type 0
IsSeparator rules p q true = TakesSeparator rules p q
IsSeparator rules p q false = (sees_separator p ≡ false) × (q ≡ p)

separator_next : (set : Setting) (p : Place) → sees_separator p ≡ true → Reads (λ q t. TakesSeparator set.rules p q) (next set p)
separator_next set p h = elim (or_cases (sees s.Comma p) (sees s.Semicolon p) h) [
  | inl e ↦ reads_weaker (next_seen set s.Comma p e) (λ q t n. inl n)
  | inr e ↦ reads_weaker (next_seen set s.Semicolon p e) (λ q t n. inr n)
]

pub separator_sound : (set : Setting) → Sound (IsSeparator set.rules) (separator set)
unfolding separator
separator_sound set p =
    reads_if (sees_separator p) (λ h. reads_then (separator_next set p h) (λ a t n. reads_ok _ n)) (λ h. reads_ok _ (h, refl))

-- more of a list in braces, where another may follow or not
abbrev pub AreMoreBraced : {A : Type 0} → Rules → (Place → Place → A → Type 0) → Bool → Place → Place → List A → Type 0
AreMoreBraced rules Is more p q [] = ((more && not (sees s.RightBrace p)) ≡ false) × (q ≡ p)
AreMoreBraced rules Is more p q (x ∷ xs) =
    (a b : Place) × (again : Bool) × ((more && not (sees s.RightBrace p)) ≡ true) × Is p a x × IsSeparator rules a b again
    × AreMoreBraced rules Is again b q xs

braces_join : {A : Type 0} (rules : Rules) (Is : Place → Place → A → Type 0) (xs : List A) (p a b q : Place) (x : A) (more : Bool)
    → Is p a x → IsSeparator rules a b more → AreMoreBraced rules Is more b q xs → AreInBraces rules Is p q x xs
braces_join rules Is [] p a b q x true i m r =
    (a, i, inr (subst (TakesSeparator rules a) (sym r.1) m, ap (sees s.RightBrace) r.1 ∙ not-false (sees s.RightBrace b) r.0))
braces_join rules Is [] p a b q x false i m r = (a, i, inl (m.0, r.1 ∙ m.1))
braces_join rules Is (y ∷ ys) p a b q x true i m r =
    (a, b, i, m, not-true (sees s.RightBrace b) r.3, braces_join rules Is ys b r.0 r.1 q y r.2 r.4 r.5 r.6)
braces_join rules Is (y ∷ ys) p a b q x false i m r = absurd (true≢false (sym r.3))

pub braced_join : {A : Type 0} (rules : Rules) (Is : Place → Place → A → Type 0) (xs : List A) (p q : Place)
    → AreMoreBraced rules Is true p q xs → IsBraced rules Is p q xs
braced_join rules Is [] p q r = (not-false (sees s.RightBrace p) r.0, r.1)
braced_join rules Is (x ∷ xs) p q r =
    (not-true (sees s.RightBrace p) r.3, braces_join rules Is xs p r.0 r.1 q x r.2 r.4 r.5 r.6)

module _ {A : Type 0} (set : Setting) (Is : Place → Place → A → Type 0) (item : Parser A) (sound : Sound Is item) where
  abbrev OneBraced : Braced A → Place → Place → Braced A → Type 0
  OneBraced found p q all =
      (a : Place) × (x : A) × (more : Bool) × (all ≡ record { items = found.items ++ x ∷ []; open_ended = more })
      × Is p a x × IsSeparator set.rules a q more

  abbrev BracedFrom : Braced A → Place → Place → Braced A → Type 0
  BracedFrom found p q all =
      (xs : List A) × (all.items ≡ found.items ++ xs) × AreMoreBraced set.rules Is found.open_ended p q xs

  one_braced_sound : (found : Braced A) → Sound (OneBraced found) (one_braced set item found)
  one_braced_sound found p =
      reads_then (sound p) (λ a x i. reads_then (separator_sound set a) (λ b more m. reads_ok _ (a, x, more, refl, i, m)))

  braced_stop : (found : Braced A) (p : Place) → goes_braced found p ≡ false → BracedFrom found p p found
  braced_stop found p h = ([], sym (append-nil found.items), (h, refl))

  braced_step : (found one all : Braced A) (p a q : Place) → goes_braced found p ≡ true → OneBraced found p a one
      → BracedFrom one a q all → BracedFrom found p q all
  braced_step found one all p a q h n m = (
    n.1 ∷ m.0,
    m.1 ∙ (ap (λ (z : Braced A). z.items ++ m.0) n.3 ∙ append_assoc found.items (n.1 ∷ []) m.0),
    (n.0, a, n.2, h, n.4, n.5, subst (λ (z : Braced A). AreMoreBraced set.rules Is z.open_ended a q m.0) n.3 m.2),
  )

  pub braced_sound : Sound (λ p q found. IsBraced set.rules Is p q found.items) (braced set item)
  unfolding braced
  braced_sound p =
      reads_weaker
      (repeat_sound set goes_braced (one_braced set item) OneBraced BracedFrom braced_stop braced_step one_braced_sound
      (record { items = []; open_ended = true }) p)
      (λ q found n. subst (IsBraced set.rules Is p q) (sym n.1) (braced_join set.rules Is n.0 p q n.2))
