use Rattle.std.proofs.Common.{◌≡◌, ◌<◌, ◌≤◌, ◌-◌, length, ap, sym, ◌∙◌, arith, List, ℕ, get_or}
use Rattle.std.specs.Prelude.{slice_get, Some, vec_len}
use Rattle.std.proofs.lemmas.Option.{slice_get-get_or, slice_get_within, get_or_from_slice_get}
use Rattle.module_graph.specs.declared.search.Mark.TheVariants.{Open}
use Rattle.module_graph.specs.Requires.{calls_at}
use Rattle.module_graph.specs.Search.{state_of, IsSearch, Settles, steps_left}
use Rattle.module_graph.proofs.Lists.{Contains-from_get, get-none, OnOk-then}
use Rattle.module_graph.proofs.Stepping.{at_within, x_within, mark-at, Goes-follows, Goes-leaves}
use Rattle.module_graph.proofs.search.Search.step.Goals as goal

pub index-file-requires : goal.index-file-requires
index-file-requires c =
    let within : c.args.at < length c.args.self.now.opened.items = at_within c.args.nodes.now c.requires.graph (state_of c.args.self.now) c.requires.search c.args.at c.requires.last in
    omega arith

pub index-requires : goal.index-requires
index-requires c =
    let within : c.args.at < length c.args.self.now.opened.items = at_within c.args.nodes.now c.requires.graph (state_of c.args.self.now) c.requires.search c.args.at c.requires.last in
    let here : slice_get c.args.self.now.opened.items c.args.at ≡ Some c.index-file.result.now = slice_get-get_or c.args.self.now.opened.items c.args.at c.index-file.result.now within ∙ ap Some (sym c.index-file.ensures) in
    let placed = c.requires.search.placed c.args.at c.index-file.result.now here in
    let marked : c.index-file.result.now < length c.args.self.now.marks.items = slice_get_within c.args.self.now.marks.items c.index-file.result.now (Open c.args.at placed.0) placed.1 in
    omega arith

pub unreachable-requires : goal.unreachable-requires
unreachable-requires c =
    let within : c.args.at < length c.args.self.now.opened.items = at_within c.args.nodes.now c.requires.graph (state_of c.args.self.now) c.requires.search c.args.at c.requires.last in
    let here : slice_get c.args.self.now.opened.items c.args.at ≡ Some c.index-file.result.now = slice_get-get_or c.args.self.now.opened.items c.args.at c.index-file.result.now within ∙ ap Some (sym c.index-file.ensures) in
    let placed = c.requires.search.placed c.args.at c.index-file.result.now here in
    c.in_default.not-Open c.args.at placed.0 (c.index.ensures ∙ get_or_from_slice_get c.args.self.now.marks.items c.index-file.result.now (Open c.args.at placed.0) c.index.result.now placed.1)

pub call_at-requires : goal.call_at-requires
call_at-requires c =
    let within : c.args.at < length c.args.self.now.opened.items = at_within c.args.nodes.now c.requires.graph (state_of c.args.self.now) c.requires.search c.args.at c.requires.last in
    let here : slice_get c.args.self.now.opened.items c.args.at ≡ Some c.index-file.result.now = slice_get-get_or c.args.self.now.opened.items c.args.at c.index-file.result.now within ∙ ap Some (sym c.index-file.ensures) in
    let mark : slice_get c.args.self.now.marks.items c.index-file.result.now ≡ Some (Open c.args.at c.in-Open.next) = mark-at c.args.nodes.now (state_of c.args.self.now) c.requires.search c.args.at c.index-file.result.now c.in-Open.at c.in-Open.next c.index.result.now here c.index.ensures c.in-Open.is in
    x_within c.args.nodes.now c.requires.graph (state_of c.args.self.now) c.requires.search c.args.at c.requires.last c.index-file.result.now c.in-Open.next mark

pub leave-requires-clause-start : goal.leave-requires-clause-start
leave-requires-clause-start c =
    let within : c.args.at < length c.args.self.now.opened.items = at_within c.args.nodes.now c.requires.graph (state_of c.args.self.now) c.requires.search c.args.at c.requires.last in
    omega arith

pub follow-requires-clause-file : goal.follow-requires-clause-file
follow-requires-clause-file c =
    let within : c.args.at < length c.args.self.now.opened.items = at_within c.args.nodes.now c.requires.graph (state_of c.args.self.now) c.requires.search c.args.at c.requires.last in
    let here : slice_get c.args.self.now.opened.items c.args.at ≡ Some c.index-file.result.now = slice_get-get_or c.args.self.now.opened.items c.args.at c.index-file.result.now within ∙ ap Some (sym c.index-file.ensures) in
    let mark : slice_get c.args.self.now.marks.items c.index-file.result.now ≡ Some (Open c.args.at c.in-Open.next) = mark-at c.args.nodes.now (state_of c.args.self.now) c.requires.search c.args.at c.index-file.result.now c.in-Open.at c.in-Open.next c.index.result.now here c.index.ensures c.in-Open.is in
    slice_get_within c.args.self.now.marks.items c.index-file.result.now (Open c.args.at c.in-Open.next) mark

pub follow-requires-clause-to : goal.follow-requires-clause-to
follow-requires-clause-to c = λ met means.
    let there : met < length c.args.nodes.now = c.requires.graph c.index-file.result.now met c.in-Some.call (Contains-from_get (calls_at c.args.nodes.now c.index-file.result.now) c.in-Open.next c.in-Some.call (sym c.in-Some.ensures.call)) means in
    let marked = c.requires.search.marked in
    omega arith

pub returns-in-None-clause-search : goal.returns-in-None-clause-search
returns-in-None-clause-search c =
    let within : c.args.at < length c.args.self.now.opened.items = at_within c.args.nodes.now c.requires.graph (state_of c.args.self.now) c.requires.search c.args.at c.requires.last in
    let here : slice_get c.args.self.now.opened.items c.args.at ≡ Some c.index-file.result.now = slice_get-get_or c.args.self.now.opened.items c.args.at c.index-file.result.now within ∙ ap Some (sym c.index-file.ensures) in
    let mark : slice_get c.args.self.now.marks.items c.index-file.result.now ≡ Some (Open c.args.at c.in-Open.next) = mark-at c.args.nodes.now (state_of c.args.self.now) c.requires.search c.args.at c.index-file.result.now c.in-Open.at c.in-Open.next c.index.result.now here c.index.ensures c.in-Open.is in
    let done : length (calls_at c.args.nodes.now c.index-file.result.now) ≤ c.in-Open.next = get-none (calls_at c.args.nodes.now c.index-file.result.now) c.in-Open.next (sym c.in-None.ensures.call) in
    OnOk-then c.leave.result c.leave.ensures (λ leaves. (Goes-leaves c.args.nodes.now c.requires.graph (state_of c.args.self.now) c.requires.search c.args.at c.requires.last c.index-file.result.now c.in-Open.next mark done (state_of c.leave.new.self) leaves).search)

pub returns-in-Some-clause-search : goal.returns-in-Some-clause-search
returns-in-Some-clause-search c =
    let within : c.args.at < length c.args.self.now.opened.items = at_within c.args.nodes.now c.requires.graph (state_of c.args.self.now) c.requires.search c.args.at c.requires.last in
    let here : slice_get c.args.self.now.opened.items c.args.at ≡ Some c.index-file.result.now = slice_get-get_or c.args.self.now.opened.items c.args.at c.index-file.result.now within ∙ ap Some (sym c.index-file.ensures) in
    let mark : slice_get c.args.self.now.marks.items c.index-file.result.now ≡ Some (Open c.args.at c.in-Open.next) = mark-at c.args.nodes.now (state_of c.args.self.now) c.requires.search c.args.at c.index-file.result.now c.in-Open.at c.in-Open.next c.index.result.now here c.index.ensures c.in-Open.is in
    OnOk-then c.follow.result c.follow.ensures (λ follows. (Goes-follows c.args.nodes.now c.requires.graph (state_of c.args.self.now) c.requires.search c.args.at c.requires.last c.index-file.result.now c.in-Open.next mark c.in-Some.call (sym c.in-Some.ensures.call) (state_of c.follow.new.self) follows).search)

pub returns-in-None-clause-settles : goal.returns-in-None-clause-settles
returns-in-None-clause-settles c =
    let within : c.args.at < length c.args.self.now.opened.items = at_within c.args.nodes.now c.requires.graph (state_of c.args.self.now) c.requires.search c.args.at c.requires.last in
    let here : slice_get c.args.self.now.opened.items c.args.at ≡ Some c.index-file.result.now = slice_get-get_or c.args.self.now.opened.items c.args.at c.index-file.result.now within ∙ ap Some (sym c.index-file.ensures) in
    let mark : slice_get c.args.self.now.marks.items c.index-file.result.now ≡ Some (Open c.args.at c.in-Open.next) = mark-at c.args.nodes.now (state_of c.args.self.now) c.requires.search c.args.at c.index-file.result.now c.in-Open.at c.in-Open.next c.index.result.now here c.index.ensures c.in-Open.is in
    let done : length (calls_at c.args.nodes.now c.index-file.result.now) ≤ c.in-Open.next = get-none (calls_at c.args.nodes.now c.index-file.result.now) c.in-Open.next (sym c.in-None.ensures.call) in
    OnOk-then c.leave.result c.leave.ensures (λ leaves. (Goes-leaves c.args.nodes.now c.requires.graph (state_of c.args.self.now) c.requires.search c.args.at c.requires.last c.index-file.result.now c.in-Open.next mark done (state_of c.leave.new.self) leaves).settles)

pub returns-in-Some-clause-settles : goal.returns-in-Some-clause-settles
returns-in-Some-clause-settles c =
    let within : c.args.at < length c.args.self.now.opened.items = at_within c.args.nodes.now c.requires.graph (state_of c.args.self.now) c.requires.search c.args.at c.requires.last in
    let here : slice_get c.args.self.now.opened.items c.args.at ≡ Some c.index-file.result.now = slice_get-get_or c.args.self.now.opened.items c.args.at c.index-file.result.now within ∙ ap Some (sym c.index-file.ensures) in
    let mark : slice_get c.args.self.now.marks.items c.index-file.result.now ≡ Some (Open c.args.at c.in-Open.next) = mark-at c.args.nodes.now (state_of c.args.self.now) c.requires.search c.args.at c.index-file.result.now c.in-Open.at c.in-Open.next c.index.result.now here c.index.ensures c.in-Open.is in
    OnOk-then c.follow.result c.follow.ensures (λ follows. (Goes-follows c.args.nodes.now c.requires.graph (state_of c.args.self.now) c.requires.search c.args.at c.requires.last c.index-file.result.now c.in-Open.next mark c.in-Some.call (sym c.in-Some.ensures.call) (state_of c.follow.new.self) follows).settles)

pub returns-in-None-clause-shorter : goal.returns-in-None-clause-shorter
returns-in-None-clause-shorter c =
    let within : c.args.at < length c.args.self.now.opened.items = at_within c.args.nodes.now c.requires.graph (state_of c.args.self.now) c.requires.search c.args.at c.requires.last in
    let here : slice_get c.args.self.now.opened.items c.args.at ≡ Some c.index-file.result.now = slice_get-get_or c.args.self.now.opened.items c.args.at c.index-file.result.now within ∙ ap Some (sym c.index-file.ensures) in
    let mark : slice_get c.args.self.now.marks.items c.index-file.result.now ≡ Some (Open c.args.at c.in-Open.next) = mark-at c.args.nodes.now (state_of c.args.self.now) c.requires.search c.args.at c.index-file.result.now c.in-Open.at c.in-Open.next c.index.result.now here c.index.ensures c.in-Open.is in
    let done : length (calls_at c.args.nodes.now c.index-file.result.now) ≤ c.in-Open.next = get-none (calls_at c.args.nodes.now c.index-file.result.now) c.in-Open.next (sym c.in-None.ensures.call) in
    OnOk-then c.leave.result c.leave.ensures (λ leaves. (Goes-leaves c.args.nodes.now c.requires.graph (state_of c.args.self.now) c.requires.search c.args.at c.requires.last c.index-file.result.now c.in-Open.next mark done (state_of c.leave.new.self) leaves).shorter)

pub returns-in-Some-clause-shorter : goal.returns-in-Some-clause-shorter
returns-in-Some-clause-shorter c =
    let within : c.args.at < length c.args.self.now.opened.items = at_within c.args.nodes.now c.requires.graph (state_of c.args.self.now) c.requires.search c.args.at c.requires.last in
    let here : slice_get c.args.self.now.opened.items c.args.at ≡ Some c.index-file.result.now = slice_get-get_or c.args.self.now.opened.items c.args.at c.index-file.result.now within ∙ ap Some (sym c.index-file.ensures) in
    let mark : slice_get c.args.self.now.marks.items c.index-file.result.now ≡ Some (Open c.args.at c.in-Open.next) = mark-at c.args.nodes.now (state_of c.args.self.now) c.requires.search c.args.at c.index-file.result.now c.in-Open.at c.in-Open.next c.index.result.now here c.index.ensures c.in-Open.is in
    OnOk-then c.follow.result c.follow.ensures (λ follows. (Goes-follows c.args.nodes.now c.requires.graph (state_of c.args.self.now) c.requires.search c.args.at c.requires.last c.index-file.result.now c.in-Open.next mark c.in-Some.call (sym c.in-Some.ensures.call) (state_of c.follow.new.self) follows).shorter)
