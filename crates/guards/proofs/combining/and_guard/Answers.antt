use Rattle.luau_tree.specs.declared.names.BinOp.TheVariants.{And}
use Rattle.guards.proofs.FormFacts.{sides_mean}
use Rattle.guards.proofs.combining.and_guard.Goals as goal

pub returns-clause-says : goal.returns-clause-says
returns-clause-says c rules id span l r left right =
    sides_mean c.of_sides.new.arena c.in_ok-guard.guard c.joins_of_and.result And c.joins_of_and.ensures rules id span l r (c.in_ok-guard.ensures.means _ _ _ _ left right)
