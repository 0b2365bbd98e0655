use Rattle.std.proofs.Common.{◌≡◌, ◌∙◌, rules}
use Rattle.std.specs.Prelude.{false}
use Rattle.std.specs.Option.{option_map_or}
use Rattle.seen_types.specs.Seen.{body_at}
use Rattle.seen_types.specs.Tables.{seen_in}
use Rattle.seen_types.proofs.SeenFacts.{body_with}
use Rattle.seen_types.proofs.table.SeenTypes.is_body_live.Goals as goal

pub returns-in-None : goal.returns-in-None
returns-in-None c means =
    let found : option_map_or (λ live. live) (body_at (seen_in c.args.self.now) c.args.id.0) false ≡ false = search rules in
    body_with means (seen_in c.args.self.now) c.args.id.0 ∙ found

pub returns-in-Some : goal.returns-in-Some
returns-in-Some c means =
    let found : option_map_or (λ live. live) (body_at (seen_in c.args.self.now) c.args.id.0) false ≡ c.in-Some.live.now = search rules in
    body_with means (seen_in c.args.self.now) c.args.id.0 ∙ found
