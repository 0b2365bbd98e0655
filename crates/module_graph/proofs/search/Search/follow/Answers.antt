use Rattle.std.proofs.Common.{◌≡◌, ap, ◌∙◌}
use Rattle.module_graph.specs.declared.search.Search.{Search}
use Rattle.module_graph.specs.Search.{state_of, advanced, nowhere, somewhere}
use Rattle.module_graph.proofs.Lists.{none-from_not}
use Rattle.module_graph.proofs.search.Search.follow.Goals as goal
use Rattle.module_graph.proofs.search.Search.follow.Goals.{in-Some+in_ok-meet, in_default}

pub returns : goal.returns
returns c =
    elim c.match-to.branch [
      | in-Some+in_ok-meet w ↦
          somewhere w.in-Some.to (state_of w.meet.new.self) w.in-Some.is w.in_ok-meet.ensures
          (c.advance.ensures ∙ ap (λ (s : Search). advanced (state_of s) c.args.file c.args.at c.args.next) w.self-is)
      | in_default w ↦
          nowhere (none-from_not c.args.to w.in_default.not-Some)
          (c.advance.ensures ∙ ap (λ (s : Search). advanced (state_of s) c.args.file c.args.at c.args.next) w.self-is)
    ]
