use Rattle.std.proofs.Common.{◌≡◌, true, false, sym, ◌∙◌}
use Rattle.std.specs.Prelude.{codes}
use Rattle.std.specs.Str.{bytes_eq}
use Rattle.type_arena.specs.Store.{field_types}
use Rattle.type_normal.specs.Growing.{given_refs}
use Rattle.type_ops.proofs.GrowFacts.{adds_nothing}
use Rattle.type_lower.specs.Visible.{known_in}
use Rattle.type_lower.proofs.MadeFacts.{as_type, given_made, plain_made, plain_err}
use Rattle.type_lower.proofs.VisibleFacts.{unknown_named, alias_named, own_named, last_there, last_among}
use Rattle.type_lower.proofs.plain.named_ref.Goals as goal

pub returns-then-eq-clause-made : goal.returns-then-eq-clause-made
returns-then-eq-clause-made c =
    let e : bytes_eq c.args.name.now (codes "unknown") ≡ true = cc (c.eq.ensures, c.as_slice.ensures, c.as_slice-2.ensures, c.if-eq.true) in
    plain_made c.plain_ref.result c.args.arena.now c.plain_ref.new.arena (field_types c.args.aliases.now) _ _ c.plain_ref.ensures.made (unknown_named (known_in c.args.arena.now c.args.aliases.now) c.args.name.now e)

pub returns-then-eq-clause-err : goal.returns-then-eq-clause-err
returns-then-eq-clause-err c = plain_err c.plain_ref.result c.args.arena.now c.plain_ref.new.arena (field_types c.args.aliases.now) c.plain_ref.ensures.err

pub returns-in-Some-clause-made : goal.returns-in-Some-clause-made
returns-in-Some-clause-made c =
    let e : bytes_eq c.args.name.now (codes "unknown") ≡ false = cc (c.eq.ensures, c.as_slice.ensures, c.as_slice-2.ensures, c.if-eq.false) in
    let f = sym c.get.ensures ∙ c.in-Some.is in
    as_type c.args.arena.now c.args.arena.now (field_types c.args.aliases.now) c.in-Some.at _ _
    (given_made c.args.arena.now c.args.arena.now (field_types c.args.aliases.now) c.in-Some.at (adds_nothing c.args.arena.now (given_refs (field_types c.args.aliases.now)))
    (last_there c.args.arena.now c.args.aliases.now c.args.name.now c.in-Some.at c.requires f) (last_among c.args.aliases.now c.args.name.now c.in-Some.at f))
    (alias_named c.args.arena.now c.args.aliases.now c.args.name.now c.in-Some.at e f)

pub returns-in-None-clause-made : goal.returns-in-None-clause-made
returns-in-None-clause-made c =
    let e : bytes_eq c.args.name.now (codes "unknown") ≡ false = cc (c.eq.ensures, c.as_slice.ensures, c.as_slice-2.ensures, c.if-eq.false) in
    plain_made c.plain_ref-in-None.result c.args.arena.now c.plain_ref-in-None.new.arena (field_types c.args.aliases.now) _ _ c.plain_ref-in-None.ensures.made
    (rw c.as_slice-in-None.ensures at c.own_plain.ensures ∙ own_named c.args.arena.now c.args.aliases.now c.args.name.now e (sym c.get.ensures ∙ c.in-None.is))

pub returns-in-None-clause-err : goal.returns-in-None-clause-err
returns-in-None-clause-err c = plain_err c.plain_ref-in-None.result c.args.arena.now c.plain_ref-in-None.new.arena (field_types c.args.aliases.now) c.plain_ref-in-None.ensures.err
