-- Types one after the other, and marks.
use Rattle.std.proofs.Common.{◌≡◌, ℕ, zero, suc, ◌+◌, ◌-◌, ◌<◌, ◌≤◌, List, [], ◌∷◌, ◌++◌, length, get_or, take, refl, sym, ap, ◌∙◌, arith}
use Rattle.std.proofs.lemmas.List.{take_more}
use Rattle.luau_tree.specs.View.{view_type, view_types}
use Rattle.luau_tree.specs.declared.tree as code
use Rattle.type_arena.specs.Term.{Term}
use Rattle.type_normal.specs.Cut.{cut_up}
use Rattle.type_normal.specs.Kinds.{nil_type}
use Rattle.type_normal.specs.Operations.{union}
use Rattle.annotations.specs.Lowered.{Known, raw}
use Rattle.type_lower.specs.Joined.{joined, joined_behind, marked}
use Rattle.type_lower.specs.declared.choosing.Choice.{Choice}

-- what one mark doesn't change, none does
stay_by : (k i : ℕ) (t : Term) → cut_up (union (marked i t) nil_type) ≡ marked i t → marked (k + i) t ≡ marked i t
stay_by zero i t e = ap (λ (n : ℕ). marked n t) (let z : zero + i ≡ i = omega arith in z)
stay_by (suc k) i t e =
    ap (λ (n : ℕ). marked n t) (let s : suc k + i ≡ suc (k + i) = omega arith in s)
    ∙ ap (λ (s : Term). cut_up (union s nil_type)) (stay_by k i t e) ∙ e

pub marks_stay : (i n : ℕ) (t : Term) → i ≤ n → cut_up (union (marked i t) nil_type) ≡ marked i t → marked n t ≡ marked i t
marks_stay i n t l e = ap (λ (m : ℕ). marked m t) (let s : n ≡ (n - i) + i = omega arith in s) ∙ stay_by (n - i) i t e

pub mark_more : (i n : ℕ) (t : Term) → n ≡ i + 1 → cut_up (union (marked i t) nil_type) ≡ marked n t
mark_more i n t e = ap (λ (m : ℕ). marked m t) (let s : suc i ≡ n = omega arith in s)

-- one more type behind others
behind_more : (choice : Choice) (known : List Known) (first : Term) (ts : List code.TypeSyntax.TypeSyntax) (x : code.TypeSyntax.TypeSyntax)
    → joined_behind choice known first (view_types (ts ++ x ∷ [])) ≡ joined choice (joined_behind choice known first (view_types ts)) (raw known (view_type x))
behind_more choice known first [] x = refl
behind_more choice known first (t ∷ ts) x = behind_more choice known (joined choice first (raw known (view_type t))) ts x

pub behind_taken : (choice : Choice) (known : List Known) (first : Term) (ts : List code.TypeSyntax.TypeSyntax) (i : ℕ) (x : code.TypeSyntax.TypeSyntax) → i < length ts → x ≡ get_or ts i x
    → joined choice (joined_behind choice known first (view_types (take i ts))) (raw known (view_type x)) ≡ joined_behind choice known first (view_types (take (i + 1) ts))
behind_taken choice known first ts i x l is =
    sym (behind_more choice known first (take i ts) x)
    ∙ ap (λ (us : List code.TypeSyntax.TypeSyntax). joined_behind choice known first (view_types us)) (sym (take_more ts i x l ∙ ap (λ (y : code.TypeSyntax.TypeSyntax). take i ts ++ y ∷ []) (sym is)))
