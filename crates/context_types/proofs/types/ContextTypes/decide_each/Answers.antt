use Rattle.std.proofs.Common.{◌≡◌, ◌<◌, length, sym, ap, ◌∙◌, subst, arith}
use Rattle.std.specs.Prelude.{All, map}
use Rattle.std.proofs.lemmas.List.Elements.{All-nil}
use Rattle.context_types.specs.Lists.{way_context}
use Rattle.context_types.specs.Standing.{StandsContext}
use Rattle.context_types.specs.Types.{context_in}
use Rattle.context_types.proofs.GrowFacts.{grows_nothing, grows_then, guard_on, says_on, context_on}
use Rattle.context_types.proofs.ListFacts.{one_stands, stand_more, zip_two, zip_all}
use Rattle.context_types.proofs.types.ContextTypes.decide_each.Goals as goal

pub loop-i-init : goal.loop-i-init
loop-i-init c = record {
  contexts = λ rules cond says. ap (map (context_in c.args.self.now)) c.new-made.ensures.items;
  stand = subst (All (StandsContext c.args.self.now)) (sym c.new-made.ensures.items) (All-nil (StandsContext c.args.self.now));
  grows = grows_nothing {s = c.args.self.now};
}

pub decide-requires-clause-guard : goal.decide-requires-clause-guard
decide-requires-clause-guard c = guard_on {s = c.args.self.now} {t = c.loop-i.self} {guard = c.args.guard.now} c.loop-i.invariant.grows c.requires.guard

pub decide-requires-clause-first : goal.decide-requires-clause-first
decide-requires-clause-first c = context_on {s = c.args.self.now} {t = c.loop-i.self} {context = c.args.first.now} c.loop-i.invariant.grows c.requires.first

pub decide-requires-clause-left : goal.decide-requires-clause-left
decide-requires-clause-left c =
    one_stands c.args.self.now c.loop-i.self c.args.a.now c.loop-i.i c.index-a-i.result (omega (arith, c.loop-i-test.true, c.lesser-count.ensures.first)) c.index-a-i.is c.requires.left c.loop-i.invariant.grows

pub decide-requires-clause-right : goal.decide-requires-clause-right
decide-requires-clause-right c =
    one_stands c.args.self.now c.loop-i.self c.args.b.now c.loop-i.i c.index-b-i.result (omega (arith, c.loop-i-test.true, c.lesser-count.ensures.second)) c.index-b-i.is c.requires.right c.loop-i.invariant.grows

pub loop-i-preserved : goal.loop-i-preserved
loop-i-preserved c =
    let a : c.loop-i.i < length c.args.a.now = omega (arith, c.loop-i-test.true, c.lesser-count.ensures.first) in
    let b : c.loop-i.i < length c.args.b.now = omega (arith, c.loop-i-test.true, c.lesser-count.ensures.second) in
    record {
      contexts = λ rules cond says.
          zip_two c.args.self.now c.loop-i.self c.decide.new.self (way_context c.args.way rules cond c.args.has_effects) c.args.first.now c.args.a.now c.args.b.now c.loop-i.made.items c.push.new.self.items c.loop-i.i c.index-a-i.result c.index-b-i.result c.in_ok-one.one
          a b c.requires.first c.index-a-i.is c.index-b-i.is c.requires.left c.requires.right c.loop-i.invariant.grows c.loop-i.invariant.stand c.decide.ensures.grows (c.loop-i.invariant.contexts rules cond says)
          (c.in_ok-one.ensures.context rules cond (says_on {s = c.args.self.now} {t = c.loop-i.self} {rules = rules} {cond = cond} {guard = c.args.guard.now} c.loop-i.invariant.grows c.requires.guard says)) c.in_ok-push.ensures.items;
      stand = stand_more c.loop-i.self c.decide.new.self c.loop-i.made.items c.push.new.self.items c.in_ok-one.one c.loop-i.invariant.stand c.decide.ensures.grows c.in_ok-one.ensures.stands c.in_ok-push.ensures.items;
      grows = grows_then {a = c.args.self.now} {b = c.loop-i.self} {c = c.decide.new.self} c.loop-i.invariant.grows c.decide.ensures.grows;
    }

pub returns-in_err-one-clause-grows : goal.returns-in_err-one-clause-grows
returns-in_err-one-clause-grows c = grows_then {a = c.args.self.now} {b = c.loop-i.self} {c = c.decide.new.self} c.loop-i.invariant.grows c.decide.ensures.grows

pub returns-in_err-push-clause-grows : goal.returns-in_err-push-clause-grows
returns-in_err-push-clause-grows c = grows_then {a = c.args.self.now} {b = c.loop-i.self} {c = c.decide.new.self} c.loop-i.invariant.grows c.decide.ensures.grows

pub returns-clause-contexts : goal.returns-clause-contexts
returns-clause-contexts c rules cond says =
    let count : c.loop-i.i ≡ c.lesser-count.result = omega (arith, c.loop-i-test.false, c.loop-i.auto.i-end) in
    c.loop-i.invariant.contexts rules cond says
    ∙ zip_all (way_context c.args.way rules cond c.args.has_effects (context_in c.args.self.now c.args.first.now)) (context_in c.args.self.now) c.args.a.now c.args.b.now c.loop-i.i
    (λ l. count ∙ c.lesser-count.ensures.one l) (λ l. count ∙ c.lesser-count.ensures.other l) (omega (arith, count, c.lesser-count.ensures.first)) (omega (arith, count, c.lesser-count.ensures.second))
