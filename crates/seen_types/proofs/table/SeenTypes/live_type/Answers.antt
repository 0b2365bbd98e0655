use Rattle.std.proofs.Common.{◌≡◌, ◌∙◌, rules}
use Rattle.std.specs.Prelude.{None, Some}
use Rattle.seen_types.specs.Seen.{expr_at}
use Rattle.seen_types.specs.Tables.{seen_in}
use Rattle.seen_types.proofs.SeenFacts.{found_live, found_type, found_among}
use Rattle.seen_types.proofs.table.SeenTypes.live_type.Goals as goal

pub returns-in-None-clause-live : goal.returns-in-None-clause-live
returns-in-None-clause-live c means =
    let found : expr_at (seen_in c.args.self.now) c.args.id.0 ≡ None = search rules in
    found_live means (seen_in c.args.self.now) c.args.id.0 None found

pub returns-then-found-clause-live : goal.returns-then-found-clause-live
returns-then-found-clause-live c means =
    let found : expr_at (seen_in c.args.self.now) c.args.id.0 ≡ Some c.in-Some.found.now = search rules in
    found_live means (seen_in c.args.self.now) c.args.id.0 (Some c.in-Some.found.now) found ∙ c.if-found.true

pub returns-then-found-clause-meant : goal.returns-then-found-clause-meant
returns-then-found-clause-meant c means =
    let found : expr_at (seen_in c.args.self.now) c.args.id.0 ≡ Some c.in-Some.found.now = search rules in
    found_type means (seen_in c.args.self.now) c.args.id.0 c.in-Some.found.now found

pub returns-then-found-clause-among : goal.returns-then-found-clause-among
returns-then-found-clause-among c =
    let found : expr_at (seen_in c.args.self.now) c.args.id.0 ≡ Some c.in-Some.found.now = search rules in
    found_among (seen_in c.args.self.now) c.args.id.0 c.in-Some.found.now found

pub returns-else-found-clause-live : goal.returns-else-found-clause-live
returns-else-found-clause-live c means =
    let found : expr_at (seen_in c.args.self.now) c.args.id.0 ≡ Some c.in-Some.found.now = search rules in
    found_live means (seen_in c.args.self.now) c.args.id.0 (Some c.in-Some.found.now) found ∙ c.if-found.false
