use Rattle.std.proofs.Common.{◌≡◌, ◌+◌, ◌-◌, ◌/◌, ◌<◌, ◌≤◌, ℕ, List, length, get_or, sym, ap, ◌∙◌, subst, arith}
use Rattle.luau_scope.specs.declared.reading.LocalInfo.{LocalInfo}
use Rattle.module_reading.specs.Names.{declared_from}
use Rattle.module_facts.specs.Facts.{rules_of_facts}
use Rattle.module_facts.proofs.Halving.{Ascends, found_at, lower_half, missing, upper_half}
use Rattle.module_facts.proofs.facts.Facts.local_at.Goals as goal

pub returns-then-start-offset : goal.returns-then-start-offset
unfolding rules_of_facts
returns-then-start-offset c =
    let ls = c.as_slice-locals.result.now in
    let a : Ascends 0 ls = subst (λ (xs : List LocalInfo). Ascends 0 xs) (sym c.as_slice-locals.ensures) c.requires.locals in
    let lt : c.loop-first.first + (c.loop-first.end - c.loop-first.first) / 2 < length ls = omega (arith, c.loop-first.invariant.within) in
    found_at ls (c.loop-first.first + (c.loop-first.end - c.loop-first.first) / 2) c.index-locals-middle.result c.args.offset a lt c.index-locals-middle.is (ap (λ (l : LocalInfo). l.declared.start) c.index-locals-middle.is ∙ c.if-start-offset.true)
    ∙ ap (λ (xs : List LocalInfo). declared_from 0 xs c.args.offset) c.as_slice-locals.ensures

pub loop-first-preserved-then-start-offset-2 : goal.loop-first-preserved-then-start-offset-2
loop-first-preserved-then-start-offset-2 c =
    let ls = c.as_slice-locals.result.now in
    let a : Ascends 0 ls = subst (λ (xs : List LocalInfo). Ascends 0 xs) (sym c.as_slice-locals.ensures) c.requires.locals in
    let lt : c.loop-first.first + (c.loop-first.end - c.loop-first.first) / 2 < c.loop-first.end = omega arith in
    let same : c.index-locals-middle.result.declared.start ≡ (get_or ls (c.loop-first.first + (c.loop-first.end - c.loop-first.first) / 2) c.index-locals-middle.result).declared.start = ap (λ (l : LocalInfo). l.declared.start) c.index-locals-middle.is in
    upper_half ls c.loop-first.first c.loop-first.end c.args.offset (c.loop-first.first + (c.loop-first.end - c.loop-first.first) / 2) c.index-locals-middle.result a c.loop-first.invariant lt c.index-locals-middle.is (omega (arith, same, c.if-start-offset-2.true))

pub loop-first-preserved : goal.loop-first-preserved
loop-first-preserved c =
    let ls = c.as_slice-locals.result.now in
    let a : Ascends 0 ls = subst (λ (xs : List LocalInfo). Ascends 0 xs) (sym c.as_slice-locals.ensures) c.requires.locals in
    let lt : c.loop-first.first + (c.loop-first.end - c.loop-first.first) / 2 < c.loop-first.end = omega arith in
    let same : c.index-locals-middle.result.declared.start ≡ (get_or ls (c.loop-first.first + (c.loop-first.end - c.loop-first.first) / 2) c.index-locals-middle.result).declared.start = ap (λ (l : LocalInfo). l.declared.start) c.index-locals-middle.is in
    lower_half ls c.loop-first.first c.loop-first.end c.args.offset (c.loop-first.first + (c.loop-first.end - c.loop-first.first) / 2) c.index-locals-middle.result a c.loop-first.invariant lt c.index-locals-middle.is (omega (arith, same, c.if-start-offset.false, c.if-start-offset-2.false))

pub returns : goal.returns
unfolding rules_of_facts
returns c =
    let ls = c.as_slice-locals.result.now in
    missing ls c.loop-first.first c.loop-first.end c.args.offset c.loop-first.invariant (omega arith)
    ∙ ap (λ (xs : List LocalInfo). declared_from 0 xs c.args.offset) c.as_slice-locals.ensures
