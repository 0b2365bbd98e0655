use Rattle.std.proofs.Common.{refl}
use Rattle.luau_tree.specs.View.{view_type}
use Rattle.luau_grammar.specs.ReadTypes.{another_option}
use Rattle.phrase_reader.proofs.Steps.{one_more, ok_same}
use Rattle.type_reader.proofs.reader.Types.another_option.Goals as goal

pub returns : goal.returns
unfolding another_option
returns g c = rw (c.in_ok-_sign.ensures, c.in_ok-t.ensures) (ok_same _ _ _ _ refl (one_more view_type _ _ _ c.in_ok-push.ensures.ok))
