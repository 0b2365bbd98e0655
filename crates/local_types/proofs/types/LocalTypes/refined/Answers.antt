use Rattle.std.proofs.Common.{[], ◌∷◌, ◌-◌, length, drop, get_or, sym, arith}
use Rattle.std.specs.Prelude.{false, IsTrue}
use Rattle.std.proofs.lemmas.List.{drop_all}
use Rattle.type_arena.specs.Store.{has}
use Rattle.type_arena.specs.declared.node.TypeRef.{TypeRef}
use Rattle.local_types.specs.Entries.{arenas_of}
use Rattle.local_types.specs.Locals.{refs_said}
use Rattle.local_types.proofs.GrowFacts.{map_stands, type_stands}
use Rattle.local_types.proofs.RefineFacts.{guard_is, refined_as, refined_none, refined_grows, put_grows, said_made, refined_more, said_more, said_all}
use Rattle.local_types.proofs.types.LocalTypes.refined.Goals as goal

pub loop-i-init : goal.loop-i-init
loop-i-init c =
    refined_as c.args.self.now c.args.self.now c.args.map c.args.map (refs_said c.args.said.now) [] _ false (refined_none c.args.self.now c.args.map (refs_said c.args.said.now) c.requires.map)
    (sym (drop_all (length c.args.said.now) c.args.said.now (omega arith)))

pub get-old-requires : goal.get-old-requires
get-old-requires c = map_stands c.args.self.now c.loop-i.self (refs_said c.args.said.now) c.loop-i.invariant.grows c.args.map c.requires.map

pub refined_type-requires-clause-guard : goal.refined_type-requires-clause-guard
refined_type-requires-clause-guard c =
    type_stands c.args.self.now c.loop-i.self (refs_said c.args.said.now) c.loop-i.invariant.grows _
    (guard_is (λ (at : TypeRef). IsTrue (has (arenas_of c.args.self.now) at)) c.args.said.now (c.loop-i.i - 1) (record { 0 = 0 }, record { home = 0; id = 0 }) (omega (arith, c.loop-i-test.true, c.loop-i.auto.i)) c.requires.there)

pub returns-in_err-at-clause-grows : goal.returns-in_err-at-clause-grows
returns-in_err-at-clause-grows c =
    refined_grows c.args.self.now c.loop-i.self c.refined_type.new.self (refs_said c.args.said.now) c.get-old.result _ c.loop-i.invariant.grows c.get-old.ensures.made
    (said_made c.args.self.now c.args.said.now (c.loop-i.i - 1) (record { 0 = 0 }, record { home = 0; id = 0 }) (omega (arith, c.loop-i-test.true, c.loop-i.auto.i))) c.refined_type.ensures.grows

pub put-requires-clause-map : goal.put-requires-clause-map
put-requires-clause-map c = map_stands c.loop-i.self c.refined_type.new.self _ c.in_ok-at.ensures.grows c.loop-i.now c.loop-i.invariant.stands

pub returns-in_err-next-clause-grows : goal.returns-in_err-next-clause-grows
returns-in_err-next-clause-grows c =
    put_grows c.args.self.now c.loop-i.self c.refined_type.new.self c.put.new.self (refs_said c.args.said.now) c.get-old.result _ c.in_ok-at.at c.loop-i.invariant.grows c.get-old.ensures.made
    (said_made c.args.self.now c.args.said.now (c.loop-i.i - 1) (record { 0 = 0 }, record { home = 0; id = 0 }) (omega (arith, c.loop-i-test.true, c.loop-i.auto.i)))
    c.in_ok-at.ensures.grows c.in_ok-at.ensures.made c.put.ensures.grows

pub loop-i-preserved : goal.loop-i-preserved
loop-i-preserved c =
    let entry = get_or c.args.said.now (c.loop-i.i - 1) (record { 0 = 0 }, record { home = 0; id = 0 }) in
    refined_as c.args.self.now c.put.new.self c.args.map c.in_ok-next.next (refs_said c.args.said.now) (entry ∷ drop c.loop-i.i c.args.said.now) _ _
    (refined_more c.args.self.now c.loop-i.self c.refined_type.new.self c.put.new.self c.args.map c.loop-i.now c.in_ok-next.next (refs_said c.args.said.now) (drop c.loop-i.i c.args.said.now) entry
    c.get-old.result c.in_ok-at.at c.loop-i.empty c.is_empty-empty.result c.requires.map c.loop-i.invariant
    (guard_is (λ (at : TypeRef). IsTrue (has (arenas_of c.args.self.now) at)) c.args.said.now (c.loop-i.i - 1) (record { 0 = 0 }, record { home = 0; id = 0 }) (omega (arith, c.loop-i-test.true, c.loop-i.auto.i)) c.requires.there)
    (said_made c.args.self.now c.args.said.now (c.loop-i.i - 1) (record { 0 = 0 }, record { home = 0; id = 0 }) (omega (arith, c.loop-i-test.true, c.loop-i.auto.i)))
    c.get-old.ensures.entry c.get-old.ensures.made c.in_ok-at.ensures.term c.in_ok-at.ensures.made c.in_ok-at.ensures.grows c.is_empty-empty.ensures
    c.in_ok-next.ensures.entries c.in_ok-next.ensures.map c.in_ok-next.ensures.grows)
    (said_more c.args.said.now c.loop-i.i (record { 0 = 0 }, record { home = 0; id = 0 }) c.loop-i-test.true c.loop-i.auto.i)

pub returns-clause-entries : goal.returns-clause-entries
returns-clause-entries c =
    let done = refined_as c.args.self.now c.loop-i.self c.args.map c.loop-i.now (refs_said c.args.said.now) _ c.args.said.now c.loop-i.empty c.loop-i.invariant (said_all c.args.said.now c.loop-i.i c.loop-i-test.false) in
    done.entries

pub returns-clause-empty : goal.returns-clause-empty
returns-clause-empty c =
    let done = refined_as c.args.self.now c.loop-i.self c.args.map c.loop-i.now (refs_said c.args.said.now) _ c.args.said.now c.loop-i.empty c.loop-i.invariant (said_all c.args.said.now c.loop-i.i c.loop-i-test.false) in
    done.emptied

pub returns-clause-map : goal.returns-clause-map
returns-clause-map c = c.loop-i.invariant.stands

pub returns-clause-grows : goal.returns-clause-grows
returns-clause-grows c = c.loop-i.invariant.grows
