use Rattle.std.proofs.Common.{sym, ◌∙◌, arith}
use Rattle.local_types.proofs.NamedFacts.{named_none, named_known, named_new, rest_short, fields_done}
use Rattle.local_types.proofs.naming.fields_of.Goals as goal

pub loop-name-init : goal.loop-name-init
loop-name-init c =
    named_none c.args.names.items c.args.types.now c.truncate.new.self.items c.new-fields.result.entries c.truncate.ensures.items c.new-fields.ensures.len

pub loop-name-preserved-then-contains_key : goal.loop-name-preserved-then-contains_key
loop-name-preserved-then-contains_key c =
    named_known c.args.names.items c.args.types.now c.loop-name.names.items c.pop.new.self.items c.in-Some.name c.loop-name.fields.entries c.loop-name.invariant c.in-Some.ensures.items
    (sym c.contains_key.ensures ∙ c.if-contains_key.true)

pub overflow_sub-at : goal.overflow_sub-at
overflow_sub-at c =
    let short = rest_short c.loop-name.names.items c.pop.new.self.items c.in-Some.name c.args.types.now c.in-Some.ensures.items c.loop-name.invariant.short in
    omega (arith, short)

pub overflow_sub-at-in-Some : goal.overflow_sub-at-in-Some
overflow_sub-at-in-Some c =
    let short = rest_short c.loop-name.names.items c.pop.new.self.items c.in-Some.name c.args.types.now c.in-Some.ensures.items c.loop-name.invariant.short in
    omega (arith, short, c.pop.new.self.ok.0, c.len.ensures)

pub loop-name-preserved : goal.loop-name-preserved
loop-name-preserved c =
    named_new c.args.names.items c.args.types.now c.loop-name.names.items c.pop.new.self.items c.in-Some.name c.loop-name.fields.entries c.insert.new.self.entries c.len.result c.loop-name.invariant c.in-Some.ensures.items
    (sym c.contains_key.ensures ∙ c.if-contains_key.false) (c.len.ensures ∙ c.pop.new.self.ok.0) c.in_ok-insert.ensures.entries

pub returns-clause-fields : goal.returns-clause-fields
returns-clause-fields c = fields_done c.args.names.items c.args.types.now c.loop-name.names.items c.loop-name.fields.entries c.loop-name.invariant (omega (arith, c.in_default.ensures.cases.0, c.loop-name.names.ok.0))

pub returns-clause-among : goal.returns-clause-among
returns-clause-among c = c.loop-name.invariant.among
