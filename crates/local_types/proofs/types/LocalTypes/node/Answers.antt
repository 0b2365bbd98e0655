use Rattle.std.proofs.Common.{refl, arith}
use Rattle.std.proofs.lemmas.Option.{slice_get_read}
use Rattle.local_types.specs.Entries.{IsMap}
use Rattle.local_types.proofs.GrowFacts.{entries_by_node, node_made}
use Rattle.local_types.proofs.types.LocalTypes.node.Goals as goal

pub index-requires : goal.index-requires
unfolding IsMap
index-requires c = omega (arith, c.args.self.now.nodes.ok.0)

pub returns-clause-node : goal.returns-clause-node
unfolding IsMap
returns-clause-node c = slice_get_read c.args.self.now.nodes.items _ c.args.map.at c.index.result.now refl c.requires c.index.ensures

pub returns-clause-entries : goal.returns-clause-entries
returns-clause-entries c = entries_by_node c.args.self.now c.args.map c.index.result.now (returns-clause-node c)

pub returns-clause-there : goal.returns-clause-there
returns-clause-there c = c.args.self.now.there c.args.map.at c.index.result.now (returns-clause-node c)

pub returns-clause-made : goal.returns-clause-made
returns-clause-made c = node_made c.args.self.now c.args.map.at c.index.result.now (returns-clause-node c)

pub returns-clause-parts : goal.returns-clause-parts
returns-clause-parts c = c.args.self.now.before c.args.map.at c.index.result.now (returns-clause-node c)
