use Rattle.luau_scope.specs.Finds.{found_in}
use Rattle.luau_scope.specs.Refusals.{refusals}
use Rattle.luau_scope.proofs.Earliest.{is_earliest}
use Rattle.luau_scope.proofs.laws.refusal_is_earliest.Goals as goal

pub returns : goal.returns
returns c = λ paths block. is_earliest (refusals (found_in paths block))
