use Rattle.std.proofs.Common.{sym, ap, List}
use Rattle.std.specs.Prelude.{slice_get}
use Rattle.type_arena.specs.declared.node.Node.{Node}
use Rattle.type_arena.proofs.MeaningLemmas.{term_of-same}
use Rattle.type_arena.proofs.laws.meaning_is_by_what_is_reached.Goals as goal

pub returns : goal.returns
returns c store other sound sound' at has_reached =
    sym (term_of-same store other sound sound' at (λ far reached. sym (ap (λ (nodes : List Node). slice_get nodes far.id) (has_reached far reached))))
