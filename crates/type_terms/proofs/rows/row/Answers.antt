use Rattle.std.proofs.Common.{[], ◌∷◌}
use Rattle.type_terms.proofs.RowFacts.{row_failed, row_adds, row_made}
use Rattle.type_terms.proofs.rows.row.Goals as goal

pub returns-in_err-all-clause-adds : goal.returns-in_err-all-clause-adds
returns-in_err-all-clause-adds c =
    row_failed c.args.arena.now c.put.new.arena c.leaf.new.arena c.in_ok-written.written c.args.frozen c.args.fields.items c.in_ok-written.ensures c.requires c.in_ok-given.ensures.adds c.leaf.ensures.adds

pub returns-in_err-at-clause-adds : goal.returns-in_err-at-clause-adds
returns-in_err-at-clause-adds c =
    row_adds c.args.arena.now c.put.new.arena c.leaf.new.arena c.meet.new.arena c.in_ok-written.written c.args.frozen c.args.fields.items c.in_ok-given.given c.in_ok-all.all []
    (record { is = c.in_ok-written.ensures; there = c.requires; adds = c.in_ok-given.ensures.adds; made = c.in_ok-given.ensures.made; more = c.leaf.ensures.adds; tables = c.in_ok-all.ensures.made }) c.in_err-at.ensures.err

pub returns-clause-made : goal.returns-clause-made
returns-clause-made c =
    row_made c.args.arena.now c.put.new.arena c.leaf.new.arena c.meet.new.arena c.in_ok-written.written c.args.frozen c.args.fields.items c.in_ok-given.given c.in_ok-all.all c.in_ok-at.at
    (record { is = c.in_ok-written.ensures; there = c.requires; adds = c.in_ok-given.ensures.adds; made = c.in_ok-given.ensures.made; more = c.leaf.ensures.adds; tables = c.in_ok-all.ensures.made }) c.in_ok-at.ensures.there c.in_ok-at.ensures.term c.in_ok-at.ensures.clean

pub returns-clause-adds : goal.returns-clause-adds
returns-clause-adds c =
    row_adds c.args.arena.now c.put.new.arena c.leaf.new.arena c.meet.new.arena c.in_ok-written.written c.args.frozen c.args.fields.items c.in_ok-given.given c.in_ok-all.all (c.in_ok-at.at ∷ [])
    (record { is = c.in_ok-written.ensures; there = c.requires; adds = c.in_ok-given.ensures.adds; made = c.in_ok-given.ensures.made; more = c.leaf.ensures.adds; tables = c.in_ok-all.ensures.made }) c.in_ok-at.ensures.adds
