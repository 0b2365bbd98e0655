use Rattle.std.proofs.Common.{◌≡◌, ◌<◌, ℕ, ◌==◌, Bool, true, false, refl, arith}
use Rattle.std.specs.Prelude.{Some, None, if◌then◌else◌}
use Rattle.luau_scope.specs.Found.{join}
use Rattle.reading_fits.specs.FolderAnalysis.{rules_alone}
use Rattle.reading_fits.specs.Examples.{of_abs, requiring}
use Rattle.reading_fits.proofs.examples.a_folder_of_two_modules.Goals as goal

only_the_first : (b : Bool) (other : ℕ) → (if b then Some 0 else None) ≡ Some other → other < 1
only_the_first true other e = let z : 0 ≡ other = cc in omega arith
only_the_first false other e = cc

second : (id other : ℕ) → (rules_alone of_abs requiring).reading.required id ≡ Some other → other < 1
unfolding join
second id other e = by_test (3 == id) refl e
  where
    by_test : (b : Bool) → (3 == id) ≡ b → (rules_alone of_abs requiring).reading.required id ≡ Some other → other < 1
    by_test true q k = only_the_first true other (rw q at k)
    by_test false q k = only_the_first false other (rw q at k)

pub returns-clause-folder : goal.returns-clause-folder
unfolding join
returns-clause-folder c = record {
  paths = refl;
  homes = refl;
  order = ((λ id other e. cc), (second, tt));
  trees = (record { apart = record { exprs = refl; bodies = refl; binds = refl }; accepted = refl }, (record { apart = record { exprs = refl; bodies = refl; binds = refl }; accepted = refl }, tt));
}

pub returns-clause-reported : goal.returns-clause-reported
unfolding join
returns-clause-reported c = refl
