use Rattle.std.proofs.Common.{refl}
use Rattle.tree_readings.proofs.Apart.{apart}
use Rattle.tree_readings.proofs.laws.modules_of_texts_are_read_off_their_trees.Goals as goal

pub returns : goal.returns
returns c = λ program rules text tokens bare home leads lexed is accepted.
    record { leads = leads; same = refl; apart = apart rules text tokens bare lexed is; accepted = accepted }
