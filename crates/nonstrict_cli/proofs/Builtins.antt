-- The paths of the standard table, as they are gathered.
use Rattle.std.proofs.Common.{◌≡◌, ℕ, List, [], ◌∷◌, map, length, take, refl, sym, ap, ◌∙◌, subst, Bor}
use Rattle.std.proofs.Math.Seq.{take-length}
use Rattle.luau_tree.specs.Sorted.{IsAscending}
use Rattle.builtin_table.specs.Standard.{standard, standard_paths}
use Rattle.builtin_table.specs.declared.table.Line.{Line}

abbrev pub Entry : Type 0
Entry = Bor (List ℕ) × Line

firsts : (entries : List Entry) → map (λ (e : Entry). e.0.now) entries ≡ map (λ (e : List ℕ × Line). e.0) (map (λ (e : Entry). (e.0.now, e.1)) entries)
firsts [] = refl
firsts (e ∷ entries) = ap (λ ps. e.0.now ∷ ps) (firsts entries)

-- the names of all entries are the paths of the table
pub all_paths : (entries : List Entry) (names : List (List ℕ)) (n : ℕ) → map (λ (e : Entry). (e.0.now, e.1)) entries ≡ standard
    → names ≡ map (λ (e : Entry). e.0.now) (take n entries) → n ≡ length entries → names ≡ standard_paths
unfolding standard_paths
all_paths entries names n same e all =
    e ∙ ap (map (λ (x : Entry). x.0.now)) (ap (λ m. take m entries) all ∙ take-length entries) ∙ firsts entries ∙ ap (map (λ (x : List ℕ × Line). x.0)) same

pub in_order : (names : List (List ℕ)) → names ≡ standard_paths → IsAscending standard_paths → IsAscending names
in_order names e asc = subst IsAscending (sym e) asc
