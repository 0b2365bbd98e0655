use Rattle.std.proofs.Common.{get_or, ap, ◌∙◌}
use Rattle.std.specs.Prelude.{map}
use Rattle.std.proofs.lemmas.List.{take_all}
use Rattle.context_types.specs.Lists.{each_term, refs_each}
use Rattle.context_types.specs.Types.{set_in}
use Rattle.context_types.proofs.GrowFacts.{all_stand_on, grows_then}
use Rattle.context_types.proofs.ListFacts.{changed_none, changed_more, listed_stands, listed_stays, each_stays}
use Rattle.context_types.proofs.types.ContextTypes.each.Goals as goal

pub loop-set-init : goal.loop-set-init
loop-set-init c = changed_none c.args.self.now (each_term (set_in c.args.self.now) c.args.how.now) c.new-made.result.items c.new-made.ensures.items

pub one-requires-clause-how : goal.one-requires-clause-how
one-requires-clause-how c = all_stand_on {s = c.args.self.now} {t = c.loop-set.self} (refs_each c.args.how.now) c.loop-set.invariant.grows c.requires.how

pub one-requires-clause-set : goal.one-requires-clause-set
one-requires-clause-set c = listed_stands c.args.self.now c.loop-set.self c.args.sets.now c.loop-set.set-index (record { home = 0; id = 0 }) c.loop-set-test.true c.requires.sets c.loop-set.invariant.grows

pub loop-set-preserved : goal.loop-set-preserved
loop-set-preserved c =
    let set = get_or c.args.sets.now c.loop-set.set-index (record { home = 0; id = 0 }) in
    changed_more c.args.self.now c.loop-set.self c.one.new.self (each_term (set_in c.args.self.now) c.args.how.now) c.args.sets.now c.loop-set.made.items c.push.new.self.items c.loop-set.set-index c.in_ok-one.one (record { home = 0; id = 0 })
    c.loop-set-test.true c.loop-set.invariant c.one.ensures.grows c.in_ok-one.ensures.stands
    (c.in_ok-one.ensures.set
    ∙ (each_stays c.args.self.now c.loop-set.self c.args.how.now (set_in c.loop-set.self set) c.requires.how c.loop-set.invariant.grows
    ∙ ap (each_term (set_in c.args.self.now) c.args.how.now) (listed_stays c.args.self.now c.loop-set.self c.args.sets.now c.loop-set.set-index (record { home = 0; id = 0 }) c.loop-set-test.true c.requires.sets c.loop-set.invariant.grows)))
    c.in_ok-push.ensures.items

pub returns-in_err-one-clause-grows : goal.returns-in_err-one-clause-grows
returns-in_err-one-clause-grows c = grows_then {a = c.args.self.now} {b = c.loop-set.self} {c = c.one.new.self} c.loop-set.invariant.grows c.one.ensures.grows

pub returns-in_err-push-clause-grows : goal.returns-in_err-push-clause-grows
returns-in_err-push-clause-grows c = grows_then {a = c.args.self.now} {b = c.loop-set.self} {c = c.one.new.self} c.loop-set.invariant.grows c.one.ensures.grows

pub returns-clause-sets : goal.returns-clause-sets
returns-clause-sets c =
    c.loop-set.invariant.terms ∙ ap (λ sets. map (each_term (set_in c.args.self.now) c.args.how.now) (map (set_in c.args.self.now) sets)) (take_all c.loop-set.set-index c.args.sets.now c.loop-set-test.false)

pub returns-clause-stand : goal.returns-clause-stand
returns-clause-stand c = c.loop-set.invariant.stand

pub returns-clause-grows : goal.returns-clause-grows
returns-clause-grows c = c.loop-set.invariant.grows
