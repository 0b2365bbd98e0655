use Rattle.type_arena.proofs.LongerLemmas.{IsPlaced-push}
use Rattle.type_arena.proofs.laws.shelves_grow_at_the_end.Goals as goal

pub returns : goal.returns
returns c = IsPlaced-push
