-- Lists that loops build.
use Rattle.std.proofs.Common.{◌≡◌, ℕ, suc, ◌+◌, ◌<◌, List, [], ◌∷◌, ◌++◌, length, get_or, take, refl, sym, ap, ◌∙◌, subst, arith, append_assoc}
use Rattle.std.specs.Prelude.{All, Contains}
use Rattle.std.proofs.lemmas.List.{take_more}
use Rattle.std.proofs.lemmas.List.Elements.{All-append, Contains-append_left, Contains-append_right}
use Rattle.std.specs.declared.cmp.Ordering.{Ordering}
use Rattle.type_arena.specs.Store.{field_types, row_types}
use Rattle.type_arena.specs.declared.node.Row.{Row}
use Rattle.type_arena.specs.declared.node.TypeRef.{TypeRef}
use Rattle.type_normal.specs.Members.{put}
use Rattle.type_normal.proofs.RowsFacts.{all_fewer}
use Rattle.type_ops.proofs.FlatFacts.{put_row_refs, append_refs}

pub append_nil : {X : Type 0} (xs : List X) → xs ++ [] ≡ xs
append_nil [] = refl
append_nil (x ∷ xs) = ap (λ ys. x ∷ ys) (append_nil xs)

pub no_items : {X : Type 0} (xs : List X) → length xs ≡ 0 → xs ≡ []
no_items [] e = refl
no_items (x ∷ xs) e = absurd (omega arith)

-- a copy with one more item
pub copied : {X : Type 0} (start now next from : List X) (i : ℕ) (x y : X) → i < length from → x ≡ get_or from i x → y ≡ x → now ≡ start ++ take i from → next ≡ now ++ y ∷ [] → next ≡ start ++ take (i + 1) from
copied start now next from i x y l is same so made =
    made ∙ ap (λ zs. zs ++ y ∷ []) so ∙ ap (λ z. (start ++ take i from) ++ z ∷ []) (same ∙ is)
    ∙ append_assoc start (take i from) (get_or from i x ∷ []) ∙ ap (λ zs. start ++ zs) (sym (take_more from i x l))

-- two lists, one behind the other, in one that was empty
pub gathered : {X : Type 0} (none first second us bs xs ys : List X) → none ≡ [] → first ≡ none ++ us → second ≡ first ++ bs → us ≡ xs → bs ≡ ys → second ≡ xs ++ ys
gathered none first second us bs xs ys en ef es ea eb =
    es ∙ ap (λ zs. zs ++ bs) (ef ∙ ap (λ zs. zs ++ us) en ∙ ea) ∙ ap (λ zs. xs ++ zs) eb

-- the references of the last of some rows, and of the others
pub last_row : (P : TypeRef → Type 0) (xs ys : List Row) (row : Row) → xs ≡ ys ++ row ∷ [] → All P (row_types xs) → All P (field_types row.fields)
last_row P xs ys row e all =
    all_fewer P (row_types xs) (field_types row.fields)
    (λ x inside. subst (λ (zs : List Row). Contains (row_types zs) x) (sym e)
    (subst (λ (zs : List TypeRef). Contains zs x) (sym (append_refs ys (row ∷ []))) (Contains-append_right (row_types ys) (field_types row.fields ++ []) x (Contains-append_left (field_types row.fields) [] x inside)))) all

pub rows_before : (P : TypeRef → Type 0) (xs ys : List Row) (row : Row) → xs ≡ ys ++ row ∷ [] → All P (row_types xs) → All P (row_types ys)
rows_before P xs ys row e all =
    all_fewer P (row_types xs) (row_types ys)
    (λ x inside. subst (λ (zs : List Row). Contains (row_types zs) x) (sym e)
    (subst (λ (zs : List TypeRef). Contains zs x) (sym (append_refs ys (row ∷ []))) (Contains-append_left (row_types ys) (field_types row.fields ++ []) x inside))) all

-- the references of rows that were put in order
pub all_put : (P : TypeRef → Type 0) (cmp : Row → Row → Ordering) (row : Row) (rows new : List Row) → new ≡ put cmp row rows → All P (field_types row.fields) → All P (row_types rows) → All P (row_types new)
all_put P cmp row rows new e own others =
    subst (λ (zs : List Row). All P (row_types zs)) (sym e)
    (all_fewer P (field_types row.fields ++ row_types rows) (row_types (put cmp row rows)) (put_row_refs cmp row rows) (All-append P (field_types row.fields) (row_types rows) own others))

-- the references of two lists of rows
pub all_both : (P : TypeRef → Type 0) (xs ys all : List Row) → all ≡ xs ++ ys → All P (row_types xs) → All P (row_types ys) → All P (row_types all)
all_both P xs ys all e first second =
    subst (λ (zs : List Row). All P (row_types zs)) (sym e) (subst (λ (zs : List TypeRef). All P zs) (sym (append_refs xs ys)) (All-append P (row_types xs) (row_types ys) first second))
