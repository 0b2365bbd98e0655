-- What are_distinct and a read folder say of positions.
use Rattle.std.proofs.Common.{◌≡◌, ℕ, zero, suc, ◌==◌, Bool, true, false, not, ◌&&◌, ◌||◌, List, [], ◌∷◌, map, Option, Some, None, slice_get, option_map, refl, sym, ◌∙◌, ap, eq-eqb}
use Rattle.luau_run.specs.ReadModule.{ReadModule}
use Rattle.luau_run.specs.Program.{Program}
use Rattle.luau_run.specs.ReadFolder.{is_among, are_distinct, Requires, IsReadFolder}

or_true : (b : Bool) → (b || true) ≡ true
or_true true = refl
or_true false = refl

and_parts : (a b : Bool) → (a && b) ≡ true → (a ≡ true) × (b ≡ true)
and_parts true b e = (refl, e)
and_parts false b e = cc

not_both : (b : Bool) → b ≡ true → not b ≡ true → ⊥
not_both true e f = cc
not_both false e f = cc

abbrev or_zero : Option ℕ → ℕ
or_zero None = 0
or_zero (Some n) = n

among_at : (n : ℕ) (numbers : List ℕ) (i : ℕ) → slice_get numbers i ≡ Some n → is_among n numbers ≡ true
among_at n [] i e = cc
among_at n (m ∷ numbers) zero e = ap (λ b. b || is_among n numbers) (eq-eqb n m (sym (ap or_zero e)))
among_at n (m ∷ numbers) (suc i) e = ap (λ b. (n == m) || b) (among_at n numbers i e) ∙ or_true (n == m)

first_is_alone : (m n : ℕ) (numbers : List ℕ) (j : ℕ) → are_distinct (m ∷ numbers) ≡ true → m ≡ n → slice_get numbers j ≡ Some n → ⊥
first_is_alone m n numbers j d e f =
    not_both (is_among m numbers) (among_at m numbers j (f ∙ ap Some (sym e))) (and_parts (not (is_among m numbers)) (are_distinct numbers) d).0

distinct_at : (numbers : List ℕ) (i j n : ℕ) → are_distinct numbers ≡ true → slice_get numbers i ≡ Some n → slice_get numbers j ≡ Some n → i ≡ j
distinct_at [] i j n d e f = cc
distinct_at (m ∷ numbers) zero zero n d e f = refl
distinct_at (m ∷ numbers) zero (suc j) n d e f = absurd (first_is_alone m n numbers j d (ap or_zero e) f)
distinct_at (m ∷ numbers) (suc i) zero n d e f = absurd (first_is_alone m n numbers i d (ap or_zero f) e)
distinct_at (m ∷ numbers) (suc i) (suc j) n d e f = ap suc (distinct_at numbers i j n (and_parts (not (is_among m numbers)) (are_distinct numbers) d).1 e f)

home_at : (modules : List ReadModule) (i : ℕ) (reading : ReadModule) → slice_get modules i ≡ Some reading → slice_get (map (λ m. m.home) modules) i ≡ Some reading.home
home_at [] i reading e = cc
home_at (m ∷ modules) zero reading e = ap (option_map (λ m. m.home)) e
home_at (m ∷ modules) (suc i) reading e = home_at modules i reading e

pub by_home : (program : Program) (i j : ℕ) (one other : ReadModule) → IsReadFolder program → slice_get program.modules i ≡ Some one → slice_get program.modules j ≡ Some other
    → one.home ≡ other.home → i ≡ j
by_home program i j one other folder e f same =
    distinct_at (map (λ m. m.home) program.modules) i j one.home (and_parts _ _ folder.homes).1 (home_at program.modules i one e) (home_at program.modules j other f ∙ ap Some (sym same))

pub home_is_not_zero : (program : Program) (i : ℕ) (one : ReadModule) → IsReadFolder program → slice_get program.modules i ≡ Some one → one.home ≡ 0 → ⊥
home_is_not_zero program i one folder e zero_home =
    first_is_alone 0 one.home (map (λ m. m.home) program.modules) i folder.homes (sym zero_home) (home_at program.modules i one e)

pub not_itself : (program : Program) (at : ℕ) → IsReadFolder program → Requires program at at → ⊥
not_itself program at folder h = folder.no_cycle 0 at h
