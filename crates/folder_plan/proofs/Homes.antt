-- Homes that count on are distinct.
use Rattle.std.proofs.Common.{◌≡◌, ℕ, suc, ◌<◌, Bool, true, false, List, [], ◌∷◌, map, refl, ap, ◌∙◌, arith}
use Rattle.std.specs.Prelude.{◌==◌, ◌||◌, ◌&&◌, not}
use Rattle.std.proofs.lemmas.Bool.{eqb-true}
use Rattle.luau_run.specs.ReadFolder.{is_among, are_distinct}
use Rattle.module_graph.specs.declared.needs.ModuleNeeds.{ModuleNeeds}
use Rattle.reading_fits.specs.FolderAnalysis.{TreeModule}
use Rattle.folder_plan.specs.Files.{File}
use Rattle.folder_plan.specs.Order.{modules_from}

abbrev homes_of : List TreeModule → List ℕ
homes_of modules = map (λ (m : TreeModule). m.home) modules

other : (n home : ℕ) → n < home → (n == home) ≡ false
other n home less = by_test (n == home) refl
  where
    by_test : (b : Bool) → (n == home) ≡ b → b ≡ false
    by_test true is = let same : n ≡ home = eqb-true n home is in absurd (omega (arith, less, same))
    by_test false is = refl

module _ (needs : List ModuleNeeds) (files : List File) (order : List ℕ) where
  none_below : (n home : ℕ) (positions : List ℕ) → n < home → is_among n (homes_of (modules_from needs files order home positions)) ≡ false
  none_below n home [] less = refl
  none_below n home (position ∷ rest) less =
      ap (λ (b : Bool). b || is_among n (homes_of (modules_from needs files order (suc home) rest))) (other n home less)
      ∙ none_below n (suc home) rest (omega (arith, less))

  distinct_from : (home : ℕ) (positions : List ℕ) → are_distinct (homes_of (modules_from needs files order home positions)) ≡ true
  distinct_from home [] = refl
  distinct_from home (position ∷ rest) =
      ap (λ (b : Bool). not b && are_distinct (homes_of (modules_from needs files order (suc home) rest))) (none_below home (suc home) rest (omega arith))
      ∙ distinct_from (suc home) rest

  pub homes_are_distinct : (positions : List ℕ) → are_distinct (0 ∷ homes_of (modules_from needs files order 1 positions)) ≡ true
  homes_are_distinct positions =
      ap (λ (b : Bool). not b && are_distinct (homes_of (modules_from needs files order 1 positions))) (none_below 0 1 positions (omega arith))
      ∙ distinct_from 1 positions
