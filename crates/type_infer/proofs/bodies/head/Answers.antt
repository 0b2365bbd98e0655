use Rattle.std.proofs.Common.{List, ap, ◌∙◌}
use Rattle.std.proofs.lemmas.Result.{on_ok_weaker}
use Rattle.luau_tree.specs.View.{view_stat}
use Rattle.rule_state.specs.Work.{work_of}
use Rattle.type_infer.proofs.Reading.{headed_is}
use Rattle.luau_tree.specs.declared.names.LocalId.{LocalId}
use Rattle.luau_run.specs.ReadFolder.{is_among}
use Rattle.local_types.specs.Locals.{numbers}
use Rattle.type_infer.proofs.bodies.head.Goals as goal

pub returns : goal.returns
returns c = on_ok_weaker c.head.result (λ made rules read. made ∙ headed_is c.args.facts.now rules read (view_stat c.args.s.now) (numbers c.as_slice.result.now) c.stirs-stirs.result (work_of c.args.state.now) (λ local. ap (λ (ls : List LocalId). is_among local (numbers ls)) c.as_slice.ensures.value ∙ c.in_ok-touched.ensures local) c.stirs-stirs.ensures) c.head.ensures
