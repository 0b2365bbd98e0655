use Rattle.std.proofs.Common.{[], ◌∷◌, take, get_or, ap}
use Rattle.std.proofs.lemmas.List.{take_all}
use Rattle.local_types.specs.Locals.{numbers}
use Rattle.local_types.proofs.ForgetFacts.{forgot_none, forgot_more, forgot_as, numbers_more}
use Rattle.local_types.proofs.GrowFacts.{map_stands, grows_then, made_one}
use Rattle.local_types.proofs.types.LocalTypes.forgotten.Goals as goal

pub loop-local-init : goal.loop-local-init
loop-local-init c =
    forgot_none c.args.self.now c.plain.new.self c.args.map c.in_ok-unknown.unknown c.requires (map_stands c.args.self.now c.plain.new.self [] c.in_ok-unknown.ensures.grows c.args.map c.requires)
    c.in_ok-unknown.ensures.grows c.in_ok-unknown.ensures.there c.in_ok-unknown.ensures.term

pub put-requires-clause-map : goal.put-requires-clause-map
put-requires-clause-map c = c.loop-local.invariant.stands

pub put-requires-clause-there : goal.put-requires-clause-there
put-requires-clause-there c = c.loop-local.invariant.there

pub returns-in_err-next-clause-grows : goal.returns-in_err-next-clause-grows
returns-in_err-next-clause-grows c =
    grows_then c.args.self.now c.loop-local.self c.put.new.self [] (c.in_ok-unknown.unknown ∷ []) c.loop-local.invariant.grows c.put.ensures.grows
    (made_one c.args.self.now [] c.in_ok-unknown.unknown c.in_ok-unknown.ensures.made)

pub loop-local-preserved : goal.loop-local-preserved
loop-local-preserved c =
    let local = get_or c.args.locals.now c.loop-local.local-index (record { 0 = 0 }) in
    forgot_as c.args.self.now c.put.new.self c.args.map c.in_ok-next.next _ _ c.in_ok-unknown.unknown
    (forgot_more c.args.self.now c.loop-local.self c.put.new.self c.args.map c.loop-local.now c.in_ok-next.next (numbers (take c.loop-local.local-index c.args.locals.now)) local.0 c.in_ok-unknown.unknown
    c.loop-local.invariant c.in_ok-unknown.ensures.made c.in_ok-next.ensures.grows c.in_ok-next.ensures.map c.in_ok-next.ensures.entries)
    (numbers_more c.args.locals.now c.loop-local.local-index (record { 0 = 0 }) c.loop-local-test.true)

pub returns-clause-entries : goal.returns-clause-entries
returns-clause-entries c =
    let done = forgot_as c.args.self.now c.loop-local.self c.args.map c.loop-local.now _ (numbers c.args.locals.now) c.in_ok-unknown.unknown c.loop-local.invariant
    (ap numbers (take_all c.loop-local.local-index c.args.locals.now c.loop-local-test.false)) in
    done.entries

pub returns-clause-map : goal.returns-clause-map
returns-clause-map c = c.loop-local.invariant.stands

pub returns-clause-grows : goal.returns-clause-grows
returns-clause-grows c = c.loop-local.invariant.grows
