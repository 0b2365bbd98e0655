-- Module names, and the two paths that have one.
use Rattle.std.proofs.Common.{◌≡◌, ◌≢◌, ◌↔◌, ◌-◌, ◌⊎◌, inl, inr, ℕ, Bool, true, false, if◌then◌else◌, List, [], ◌∷◌, ◌++◌, length, take, drop, codes, refl, ap, sym, ◌∙◌, arith, nat_eq, ◌||◌, append_assoc, get_or}
use Rattle.std.specs.Cmp.{unsigned_Decides}
use Rattle.std.specs.List.{ends_with}
use Rattle.std.proofs.lemmas.List.{append_cancel_right, length-append}
use Rattle.std.proofs.lemmas.Slice.Eq.{ends_is}
use Rattle.std.proofs.Math.Seq.{take-append_seam}
use Rattle.nonstrict_cli.specs.Folder.{is_module_path, module_name, twin_of}

abbrev luau : List ℕ
luau = codes ".luau"

abbrev lua : List ℕ
lua = codes ".lua"

-- lists that end in different bytes differ
differ : (xs ys : List ℕ) → xs ++ (97 ∷ []) ≡ ys ++ (117 ∷ []) → ⊥
differ [] [] e = absurd (omega (arith, ap (λ l. get_or l 0 0) e))
differ [] (y ∷ ys) e = absurd (omega (arith, ap length (ap (drop 1) e), length-append ys (117 ∷ [])))
differ (x ∷ xs) [] e = absurd (omega (arith, ap length (ap (drop 1) e), length-append xs (97 ∷ [])))
differ (x ∷ xs) (y ∷ ys) e = differ xs ys (ap (drop 1) e)

endings_differ : (b c : List ℕ) → b ++ lua ≡ c ++ luau → ⊥
endings_differ b c e = differ (b ++ codes ".lu") (c ++ codes ".lua") (append_assoc b (codes ".lu") (97 ∷ []) ∙ e ∙ sym (append_assoc c (codes ".lua") (117 ∷ [])))

-- a path that ends so
ends_so : (b ending : List ℕ) → ends_with nat_eq (b ++ ending) ending ≡ true
ends_so b ending = (ends_is unsigned_Decides (b ++ ending) ending (ends_with nat_eq (b ++ ending) ending) refl).1 b refl

front_of : (path ending : List ℕ) → ends_with nat_eq path ending ≡ true → path ≡ take (length path - length ending) path ++ ending
front_of path ending e = (ends_is unsigned_Decides path ending (ends_with nat_eq path ending) refl).0 e

ends_short : (b : List ℕ) → ends_with nat_eq (b ++ lua) luau ≡ false
ends_short b = by_test (ends_with nat_eq (b ++ lua) luau) refl
  where
    by_test : (t : Bool) → ends_with nat_eq (b ++ lua) luau ≡ t → t ≡ false
    by_test true e = absurd (endings_differ b _ (front_of (b ++ lua) luau e))
    by_test false e = refl

front_len : (b ending : List ℕ) → length (b ++ ending) - length ending ≡ length b
front_len b ending = omega (arith, length-append b ending)

front_is : (b ending : List ℕ) → take (length (b ++ ending) - length ending) (b ++ ending) ≡ b
front_is b ending = ap (λ n. take n (b ++ ending)) (front_len b ending) ∙ take-append_seam b ending

chosen : {A : Type 0} (t : Bool) (x y : A) → t ≡ true → (if t then x else y) ≡ x
chosen t x y e = cc

passed : {A : Type 0} (t : Bool) (x y : A) → t ≡ false → (if t then x else y) ≡ y
passed t x y e = cc

name_of_long : (b : List ℕ) → module_name (b ++ luau) ≡ b
name_of_long b = chosen (ends_with nat_eq (b ++ luau) luau) _ _ (ends_so b luau) ∙ front_is b luau

name_of_short : (b : List ℕ) → module_name (b ++ lua) ≡ b
name_of_short b = passed (ends_with nat_eq (b ++ lua) luau) _ _ (ends_short b) ∙ front_is b lua

twin_of_long : (b : List ℕ) → twin_of (b ++ luau) ≡ b ++ lua
twin_of_long b = chosen (ends_with nat_eq (b ++ luau) luau) _ _ (ends_so b luau) ∙ shorter
  where
    joined : b ++ luau ≡ (b ++ lua) ++ (117 ∷ [])
    joined = sym (append_assoc b lua (117 ∷ []))

    shorter : take (length (b ++ luau) - 1) (b ++ luau) ≡ b ++ lua
    shorter = ap (λ (l : List ℕ). take (length l - 1) l) joined ∙ front_is (b ++ lua) (117 ∷ [])

twin_of_short : (b : List ℕ) → twin_of (b ++ lua) ≡ b ++ luau
twin_of_short b = passed (ends_with nat_eq (b ++ lua) luau) _ _ (ends_short b) ∙ append_assoc b lua (117 ∷ [])

-- a module's path is a front and one of two endings
abbrev Ended : List ℕ → Type 0
Ended path = ((b : List ℕ) × (path ≡ b ++ luau)) ⊎ ((b : List ℕ) × (path ≡ b ++ lua))

ended : (path : List ℕ) → is_module_path path ≡ true → Ended path
ended path e = by_test (ends_with nat_eq path luau) refl
  where
    by_test : (t : Bool) → ends_with nat_eq path luau ≡ t → Ended path
    by_test true l = inl (_, front_of path luau l)
    by_test false l = inr (_, front_of path lua (sym (ap (λ t. t || ends_with nat_eq path lua) l) ∙ e))

pub twins : (path other : List ℕ) → is_module_path path ≡ true → is_module_path other ≡ true → (other ≡ twin_of path) ↔ ((other ≢ path) × (module_name other ≡ module_name path))
twins path other p o = by_ends (ended path p) (ended other o)
  where
    by_ends : Ended path → Ended other → (other ≡ twin_of path) ↔ ((other ≢ path) × (module_name other ≡ module_name path))
    by_ends (inl (b, e)) (inl (c, f)) = rw (e, f) (rw (name_of_long b, name_of_long c, twin_of_long b)
        (λ same. absurd (endings_differ b c (sym same)), λ both. absurd (both.0 (ap (λ x. x ++ luau) both.1))))
    by_ends (inl (b, e)) (inr (c, f)) = rw (e, f) (rw (name_of_long b, name_of_short c, twin_of_long b)
        (λ same. (λ equal. endings_differ c b equal, append_cancel_right c b lua same), λ both. ap (λ x. x ++ lua) both.1))
    by_ends (inr (b, e)) (inl (c, f)) = rw (e, f) (rw (name_of_short b, name_of_long c, twin_of_short b)
        (λ same. (λ equal. endings_differ b c (sym equal), append_cancel_right c b luau same), λ both. ap (λ x. x ++ luau) both.1))
    by_ends (inr (b, e)) (inr (c, f)) = rw (e, f) (rw (name_of_short b, name_of_short c, twin_of_short b)
        (λ same. absurd (endings_differ c b same), λ both. absurd (both.0 (ap (λ x. x ++ lua) both.1))))
