use Rattle.std.proofs.Common.{◌≡◌, ◌∙◌, rules}
use Rattle.std.specs.Prelude.{false}
use Rattle.seen_types.specs.Seen.{live_at}
use Rattle.seen_types.specs.Tables.{seen_in}
use Rattle.seen_types.proofs.SeenFacts.{live_with}
use Rattle.seen_types.proofs.table.SeenTypes.is_live.Goals as goal

pub returns-in-None-clause-rules : goal.returns-in-None-clause-rules
returns-in-None-clause-rules c means =
    let found : live_at (seen_in c.args.self.now) c.args.id.0 ≡ false = search rules in
    live_with means (seen_in c.args.self.now) c.args.id.0 ∙ found

pub returns-in-Some-clause-rules : goal.returns-in-Some-clause-rules
returns-in-Some-clause-rules c means =
    let found : live_at (seen_in c.args.self.now) c.args.id.0 ≡ c.in-Some.found.now.1 = search rules in
    live_with means (seen_in c.args.self.now) c.args.id.0 ∙ found
