use Rattle.std.proofs.Common.{◌∙◌, refl}
use Rattle.local_types.proofs.GrowFacts.{pushed_grows, pushed_is, pushed_entries}
use Rattle.local_types.proofs.types.LocalTypes.push.Goals as goal

pub returns-clause-map : goal.returns-clause-map
returns-clause-map c = pushed_is c.args.self.now _ c.args.node _ c.in_ok-push.ensures.items (c.len-at.ensures ∙ c.args.self.now.nodes.ok.0)

pub returns-clause-grows : goal.returns-clause-grows
returns-clause-grows c = pushed_grows c.args.self.now _ c.args.node refl c.in_ok-push.ensures.items

pub returns-clause-entries : goal.returns-clause-entries
returns-clause-entries c =
    pushed_entries c.args.self.now _ c.args.node _ refl c.in_ok-push.ensures.items (c.len-at.ensures ∙ c.args.self.now.nodes.ok.0) c.requires.there c.requires.parts
