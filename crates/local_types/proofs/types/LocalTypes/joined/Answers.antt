use Rattle.std.proofs.Common.{[], ◌∷◌, take, get_or, ap, ◌∙◌}
use Rattle.std.specs.Prelude.{false, reverse}
use Rattle.std.proofs.lemmas.List.{take_all}
use Rattle.type_normal.specs.Cut.{cut_up}
use Rattle.local_types.proofs.GrowFacts.{map_stands, grows_on, grows_then, made_one}
use Rattle.local_types.proofs.JoinFacts.{joined_as, joined_none, joined_dead, joined_live, ends_more}
use Rattle.local_types.proofs.types.LocalTypes.joined.Goals as goal

pub returns-in_err-map-clause-grows : goal.returns-in_err-map-clause-grows
returns-in_err-map-clause-grows c =
    grows_then c.args.self.now c.plain.new.self c.everywhere.new.self [] (c.in_ok-never.never ∷ []) c.in_ok-never.ensures.grows c.everywhere.ensures.grows (made_one c.args.self.now [] c.in_ok-never.never c.in_ok-never.ensures.made)

pub loop-end-init : goal.loop-end-init
loop-end-init c =
    joined_none c.args.self.now c.plain.new.self c.everywhere.new.self c.in_ok-map.map c.in_ok-never.never c.in_ok-never.ensures.grows c.in_ok-never.ensures.made c.in_ok-never.ensures.term
    c.in_ok-map.ensures.grows c.in_ok-map.ensures.map c.in_ok-map.ensures.entries

pub loop-end-preserved-then-end : goal.loop-end-preserved-then-end
loop-end-preserved-then-end c =
    let end = get_or c.args.ends.now c.loop-end.end-index (record { map = record { at = 0 }; dead = false }) in
    joined_as c.args.self.now c.loop-end.self c.loop-end.map (end ∷ reverse (take c.loop-end.end-index c.args.ends.now)) _ c.loop-end.dead
    (joined_dead c.args.self.now c.loop-end.self c.loop-end.map end (reverse (take c.loop-end.end-index c.args.ends.now)) c.loop-end.dead c.loop-end.invariant c.if-end.true)
    (ends_more c.args.ends.now c.loop-end.end-index (record { map = record { at = 0 }; dead = false }) c.loop-end-test.true)

pub combined-requires-clause-first : goal.combined-requires-clause-first
combined-requires-clause-first c =
    map_stands c.args.self.now c.loop-end.self [] c.loop-end.invariant.grows _ (c.requires c.loop-end.end-index (record { map = record { at = 0 }; dead = false }) c.loop-end-test.true)

pub combined-requires-clause-second : goal.combined-requires-clause-second
combined-requires-clause-second c = c.loop-end.invariant.stands

pub returns-in_err-both-clause-grows : goal.returns-in_err-both-clause-grows
returns-in_err-both-clause-grows c = grows_on c.args.self.now c.loop-end.self c.combined.new.self c.loop-end.invariant.grows c.combined.ensures.grows

pub loop-end-preserved : goal.loop-end-preserved
loop-end-preserved c =
    let end = get_or c.args.ends.now c.loop-end.end-index (record { map = record { at = 0 }; dead = false }) in
    joined_as c.args.self.now c.combined.new.self c.in_ok-both.both (end ∷ reverse (take c.loop-end.end-index c.args.ends.now)) _ false
    (joined_live c.args.self.now c.loop-end.self c.combined.new.self c.loop-end.map c.in_ok-both.both end (reverse (take c.loop-end.end-index c.args.ends.now)) c.loop-end.dead c.loop-end.invariant c.if-end.false
    (c.requires c.loop-end.end-index (record { map = record { at = 0 }; dead = false }) c.loop-end-test.true) c.in_ok-both.ensures.grows c.in_ok-both.ensures.map c.in_ok-both.ensures.entries)
    (ends_more c.args.ends.now c.loop-end.end-index (record { map = record { at = 0 }; dead = false }) c.loop-end-test.true)

pub changed-requires : goal.changed-requires
changed-requires c = c.loop-end.invariant.stands

pub returns-in_err-cut-clause-grows : goal.returns-in_err-cut-clause-grows
returns-in_err-cut-clause-grows c = grows_on c.args.self.now c.loop-end.self c.changed.new.self c.loop-end.invariant.grows c.changed.ensures.grows

pub returns-clause-entries : goal.returns-clause-entries
returns-clause-entries c =
    let done = joined_as c.args.self.now c.loop-end.self c.loop-end.map _ (reverse c.args.ends.now) c.loop-end.dead c.loop-end.invariant (ap reverse (take_all c.loop-end.end-index c.args.ends.now c.loop-end-test.false)) in
    λ n. c.in_ok-cut.ensures.entries n ∙ ap cut_up (done.entries n)

pub returns-clause-dead : goal.returns-clause-dead
returns-clause-dead c =
    let done = joined_as c.args.self.now c.loop-end.self c.loop-end.map _ (reverse c.args.ends.now) c.loop-end.dead c.loop-end.invariant (ap reverse (take_all c.loop-end.end-index c.args.ends.now c.loop-end-test.false)) in
    done.ended

pub returns-clause-grows : goal.returns-clause-grows
returns-clause-grows c = grows_on c.args.self.now c.loop-end.self c.changed.new.self c.loop-end.invariant.grows c.in_ok-cut.ensures.grows
