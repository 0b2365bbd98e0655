use Rattle.type_arena.specs.Store.{field_types}
use Rattle.type_normal.specs.Cut.{cut_up}
use Rattle.type_lower.proofs.MadeFacts.{answered, on_err, one_adds, one_made}
use Rattle.type_lower.proofs.lowering.lower.Goals as goal

pub returns-in_err-raw-clause-err : goal.returns-in_err-raw-clause-err
returns-in_err-raw-clause-err c = on_err c.from_residual.result _ c.in_err-raw.ensures.err

pub cut-requires : goal.cut-requires
cut-requires c = c.in_ok-raw.ensures.made.there

pub returns-in_err-at-clause-err : goal.returns-in_err-at-clause-err
returns-in_err-at-clause-err c =
    on_err c.from_residual-in_err-at.result _
    (one_adds c.args.arena.now c.raw_type.new.arena c.cut.new.arena (field_types c.args.aliases.now) c.in_ok-raw.raw _ c.in_ok-raw.ensures.made c.in_err-at.ensures.err)

pub returns-clause-term : goal.returns-clause-term
returns-clause-term c =
    (one_made c.args.arena.now c.raw_type.new.arena c.cut.new.arena (field_types c.args.aliases.now) c.in_ok-raw.raw c.in_ok-at.at _ cut_up c.in_ok-raw.ensures.made c.in_ok-at.ensures.made).means

pub returns-clause-there : goal.returns-clause-there
returns-clause-there c = c.in_ok-at.ensures.made.there

pub returns-clause-adds : goal.returns-clause-adds
returns-clause-adds c =
    answered c.args.arena.now c.cut.new.arena (field_types c.args.aliases.now) c.in_ok-at.at _
    (one_made c.args.arena.now c.raw_type.new.arena c.cut.new.arena (field_types c.args.aliases.now) c.in_ok-raw.raw c.in_ok-at.at _ cut_up c.in_ok-raw.ensures.made c.in_ok-at.ensures.made)

pub returns-clause-clean : goal.returns-clause-clean
returns-clause-clean c =
    (one_made c.args.arena.now c.raw_type.new.arena c.cut.new.arena (field_types c.args.aliases.now) c.in_ok-raw.raw c.in_ok-at.at _ cut_up c.in_ok-raw.ensures.made c.in_ok-at.ensures.made).clean
