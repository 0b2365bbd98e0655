use Rattle.std.proofs.Common.{refl}
use Rattle.luau_tree.specs.View.{view_type}
use Rattle.phrase_reader.proofs.Steps.{one_more, ok_same}
use Rattle.type_list_reader.proofs.reader.TypeLists.another_result.Goals as goal

pub returns : goal.returns
returns g c = rw (c.in_ok-_comma.ensures, c.in_ok-t.ensures) (ok_same _ _ _ _ refl (one_more view_type _ _ _ c.in_ok-push.ensures.ok))
