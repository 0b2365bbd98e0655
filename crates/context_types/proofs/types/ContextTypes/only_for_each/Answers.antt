use Rattle.std.proofs.Common.{sym, ap, ◌∙◌, subst}
use Rattle.std.specs.Prelude.{All, map}
use Rattle.std.proofs.lemmas.List.{take_all}
use Rattle.std.proofs.lemmas.List.Elements.{All-nil}
use Rattle.report_rules.specs.Context.{only_for}
use Rattle.context_types.specs.Standing.{StandsContext}
use Rattle.context_types.specs.Types.{set_in, context_in}
use Rattle.context_types.proofs.GrowFacts.{grows_nothing, grows_then}
use Rattle.context_types.proofs.ListFacts.{listed_stands, only_more, stand_more}
use Rattle.context_types.proofs.types.ContextTypes.only_for_each.Goals as goal

pub loop-set-init : goal.loop-set-init
loop-set-init c = record {
  contexts = λ rules loose. ap (map (context_in c.args.self.now)) c.new-made.ensures.items;
  stand = subst (All (StandsContext c.args.self.now)) (sym c.new-made.ensures.items) (All-nil (StandsContext c.args.self.now));
  grows = grows_nothing {s = c.args.self.now};
}

pub only_for-requires : goal.only_for-requires
only_for-requires c = listed_stands c.args.self.now c.loop-set.self c.args.sets.now c.loop-set.set-index (record { home = 0; id = 0 }) c.loop-set-test.true c.requires c.loop-set.invariant.grows

pub loop-set-preserved : goal.loop-set-preserved
loop-set-preserved c = record {
  contexts = λ rules loose.
      only_more c.args.self.now c.loop-set.self c.only_for.new.self rules c.args.local.0 c.args.sets.now c.loop-set.made.items c.push.new.self.items c.loop-set.set-index (record { home = 0; id = 0 }) c.in_ok-one.one
      c.loop-set-test.true c.requires c.loop-set.invariant.grows c.loop-set.invariant.stand c.only_for.ensures.grows (c.loop-set.invariant.contexts rules loose) (c.in_ok-one.ensures.context rules loose) c.in_ok-push.ensures.items;
  stand = stand_more c.loop-set.self c.only_for.new.self c.loop-set.made.items c.push.new.self.items c.in_ok-one.one c.loop-set.invariant.stand c.only_for.ensures.grows c.in_ok-one.ensures.stands c.in_ok-push.ensures.items;
  grows = grows_then {a = c.args.self.now} {b = c.loop-set.self} {c = c.only_for.new.self} c.loop-set.invariant.grows c.only_for.ensures.grows;
}

pub returns-in_err-one-clause-grows : goal.returns-in_err-one-clause-grows
returns-in_err-one-clause-grows c = grows_then {a = c.args.self.now} {b = c.loop-set.self} {c = c.only_for.new.self} c.loop-set.invariant.grows c.only_for.ensures.grows

pub returns-in_err-push-clause-grows : goal.returns-in_err-push-clause-grows
returns-in_err-push-clause-grows c = grows_then {a = c.args.self.now} {b = c.loop-set.self} {c = c.only_for.new.self} c.loop-set.invariant.grows c.only_for.ensures.grows

pub returns-clause-contexts : goal.returns-clause-contexts
returns-clause-contexts c rules loose =
    c.loop-set.invariant.contexts rules loose ∙ ap (λ sets. map (only_for rules c.args.local.0) (map (set_in c.args.self.now) sets)) (take_all c.loop-set.set-index c.args.sets.now c.loop-set-test.false)
