-- Worlds: whose the cells of a run are, and where its activations run. No state has them; they only grow at the ends of their
-- lists, and statements on a part of a run say that there is one after it.
use Rattle.std.proofs.Common.{◌≡◌, ℕ, zero, suc, ◌<◌, List, [], ◌∷◌, ◌++◌, length, Some, ◌⊎◌, inl, inr, refl, sym, ◌∙◌, ap, subst, arith, append_assoc, append-nil, slice_get, slice_set}
use Rattle.std.specs.List.{AllByRecursion}

-- whose a cell is: a local of an activation that runs in a module
pub record Owner : Type 0 where
  pub module_at : ℕ
  pub local : ℕ
  pub activation : ℕ

-- the owner of each cell, and the module of each activation
pub record World : Type 0 where
  pub owners : List Owner
  pub modules : List ℕ

-- before a run begins
abbrev pub no_world : World
no_world = record { owners = []; modules = [] }

-- the world with one cell more, and with one activation more
abbrev pub with_owner : World → Owner → World
with_owner w o = record w { owners = w.owners ++ o ∷ [] }

abbrev pub with_module : World → ℕ → World
with_module w m = record w { modules = w.modules ++ m ∷ [] }

-- a list begins with another
abbrev pub Front : {A : Type 0} → List A → List A → Type 0
Front {A} xs ys = (more : List A) × (ys ≡ xs ++ more)

pub front_refl : {A : Type 0} (xs : List A) → Front xs xs
front_refl xs = ([], sym (append-nil xs))

pub front_trans : {A : Type 0} (xs ys zs : List A) → Front xs ys → Front ys zs → Front xs zs
front_trans xs ys zs h k = (h.0 ++ k.0, k.1 ∙ (ap (λ l. l ++ k.0) h.1 ∙ append_assoc xs h.0 k.0))

get_front : {A : Type 0} (xs more : List A) (i : ℕ) (x : A) → slice_get xs i ≡ Some x → slice_get (xs ++ more) i ≡ Some x
get_front [] more i x h = cc
get_front (y ∷ xs) more zero x h = h
get_front (y ∷ xs) more (suc i) x h = get_front xs more i x h

-- what stands at a position stands there in each longer list
pub stays_at : {A : Type 0} (xs ys : List A) (i : ℕ) (x : A) → Front xs ys → slice_get xs i ≡ Some x → slice_get ys i ≡ Some x
stays_at {A} xs ys i x f h = subst (λ (l : List A). slice_get l i ≡ Some x) (sym f.1) (get_front xs f.0 i x h)

pub all_append : {A : Type 0} (P : A → Type 0) (xs ys : List A) → AllByRecursion P xs → AllByRecursion P ys → AllByRecursion P (xs ++ ys)
all_append P [] ys h k = k
all_append P (x ∷ xs) ys h k = (h.0, all_append P xs ys h.1 k)

pub all_map : {A : Type 0} (P Q : A → Type 0) (xs : List A) → ((x : A) → P x → Q x) → AllByRecursion P xs → AllByRecursion Q xs
all_map P Q [] f h = tt
all_map P Q (x ∷ xs) f h = (f x h.0, all_map P Q xs f h.1)

-- ---- a list with one more at its end

pub last_get : {A : Type 0} (xs : List A) (x : A) → slice_get (xs ++ x ∷ []) (length xs) ≡ Some x
last_get [] x = refl
last_get (y ∷ xs) x = last_get xs x

pub old_or_last : {A : Type 0} (xs : List A) (x : A) (i : ℕ) (y : A) → slice_get (xs ++ x ∷ []) i ≡ Some y → (slice_get xs i ≡ Some y) ⊎ ((x ≡ y) × (i ≡ length xs))
old_or_last [] x zero y h = inr (cc, refl)
old_or_last [] x (suc i) y h = cc
old_or_last (z ∷ xs) x zero y h = inl h
old_or_last (z ∷ xs) x (suc i) y h = by_side (old_or_last xs x i y h)
  where
    by_side : (slice_get xs i ≡ Some y) ⊎ ((x ≡ y) × (i ≡ length xs)) → (slice_get (z ∷ xs) (suc i) ≡ Some y) ⊎ ((x ≡ y) × (suc i ≡ length (z ∷ xs)))
    by_side (inl e) = inl e
    by_side (inr e) = inr (e.0, ap suc e.1)

pub same_within : {A : Type 0} (xs : List A) (x : A) (i : ℕ) → i < length xs → slice_get (xs ++ x ∷ []) i ≡ slice_get xs i
same_within [] x i h = absurd (omega arith)
same_within (y ∷ xs) x zero h = refl
same_within (y ∷ xs) x (suc i) h = same_within xs x i (omega arith)

-- ---- a list with one place set

pub set_length : {A : Type 0} (xs : List A) (i : ℕ) (x : A) → length (slice_set xs i x) ≡ length xs
set_length [] i x = refl
set_length (y ∷ xs) zero x = refl
set_length (y ∷ xs) (suc i) x = ap suc (set_length xs i x)

-- what stands at a place is what stood there, or what was set there
pub set_get : {A : Type 0} (xs : List A) (i j : ℕ) (x y : A) → slice_get (slice_set xs i x) j ≡ Some y → (slice_get xs j ≡ Some y) ⊎ ((x ≡ y) × (i ≡ j))
set_get [] i j x y h = inl h
set_get (z ∷ xs) zero zero x y h = inr (cc, refl)
set_get (z ∷ xs) zero (suc j) x y h = inl h
set_get (z ∷ xs) (suc i) zero x y h = inl h
set_get (z ∷ xs) (suc i) (suc j) x y h = by_side (set_get xs i j x y h)
  where
    by_side : (slice_get xs j ≡ Some y) ⊎ ((x ≡ y) × (i ≡ j)) → (slice_get (z ∷ xs) (suc j) ≡ Some y) ⊎ ((x ≡ y) × (suc i ≡ suc j))
    by_side (inl e) = inl e
    by_side (inr e) = inr (e.0, ap suc e.1)

pub set_elsewhere : {A : Type 0} (xs : List A) (i j : ℕ) (x : A) → (slice_get (slice_set xs i x) j ≡ slice_get xs j) ⊎ (i ≡ j)
set_elsewhere [] i j x = inl refl
set_elsewhere (z ∷ xs) zero zero x = inr refl
set_elsewhere (z ∷ xs) zero (suc j) x = inl refl
set_elsewhere (z ∷ xs) (suc i) zero x = inl refl
set_elsewhere (z ∷ xs) (suc i) (suc j) x = by_side (set_elsewhere xs i j x)
  where
    by_side : (slice_get (slice_set xs i x) j ≡ slice_get xs j) ⊎ (i ≡ j) → (slice_get (slice_set (z ∷ xs) (suc i) x) (suc j) ≡ slice_get (z ∷ xs) (suc j)) ⊎ (suc i ≡ suc j)
    by_side (inl e) = inl e
    by_side (inr e) = inr (ap suc e)
