use Rattle.std.proofs.Common.{◌≡◌, ap, ◌∙◌, subst, rules}
use Rattle.std.specs.Prelude.{Option, IfSome, Contains}
use Rattle.std.specs.Option.{option_map_or}
use Rattle.type_arena.specs.declared.node.TypeRef.{TypeRef}
use Rattle.type_normal.specs.Kinds.{unknown}
use Rattle.seen_types.specs.Seen.{ref_at, refs_seen}
use Rattle.seen_types.specs.Tables.{seen_in}
use Rattle.seen_types.proofs.SeenFacts.{type_with, type_among}
use Rattle.seen_types.proofs.table.SeenTypes.type_at.Goals as goal

pub returns-clause-meant : goal.returns-clause-meant
returns-clause-meant c means =
    let found : ref_at (seen_in c.args.self.now) c.args.id.0 ≡ c.map.result = search rules in
    type_with means (seen_in c.args.self.now) c.args.id.0 ∙ ap (λ (at : Option TypeRef). option_map_or means at unknown) found

pub returns-clause-among : goal.returns-clause-among
returns-clause-among c =
    let found : ref_at (seen_in c.args.self.now) c.args.id.0 ≡ c.map.result = search rules in
    subst (λ (at : Option TypeRef). IfSome at (Contains (refs_seen (seen_in c.args.self.now)))) found (type_among (seen_in c.args.self.now) c.args.id.0)
