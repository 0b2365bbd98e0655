use Rattle.std.proofs.Common.{sym, ◌∙◌}
use Rattle.outside.proofs.Fronts.{told_grows}
use Rattle.outside.proofs.Told.{told-next, told-other}
use Rattle.outside.proofs.sure_sink.SureSinkSink.write.Goals as goal

-- what was expected next is told
pub returns-then-goes_on-clause-told : goal.returns-then-goes_on-clause-told
returns-then-goes_on-clause-told c =
    told-next c.args.self.now.expected.items c.args.bytes.now c.args.self.now.count c.args.self.now.matches c.args.self.now.within (sym c.goes_on.ensures ∙ c.if-goes_on.true)

-- from anything else on nothing is told
pub returns-else-goes_on-clause-told : goal.returns-else-goes_on-clause-told
returns-else-goes_on-clause-told c =
    told-other c.args.self.now.expected.items c.args.bytes.now c.args.self.now.count c.args.self.now.matches c.args.self.now.within (sym c.goes_on.ensures ∙ c.if-goes_on.false)

-- what was expected next is appended
pub returns-then-goes_on-clause-appends : goal.returns-then-goes_on-clause-appends
returns-then-goes_on-clause-appends c =
    told_grows c.args.self.now.expected.items c.args.bytes.now c.args.self.now.count c.args.self.now.matches (sym c.goes_on.ensures ∙ c.if-goes_on.true)
