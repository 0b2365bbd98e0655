use Rattle.std.proofs.Common.{◌≡◌, ◌∙◌, List, sym, ap, subst}
use Rattle.module_graph.specs.declared.node.Node.{Node}
use Rattle.module_graph.specs.declared.needs.Fate.{Fate}
use Rattle.module_graph.specs.Requires.{nodes_of}
use Rattle.module_graph.specs.Search.{IsGraph}
use Rattle.module_graph.specs.Fates.{AreFates}
use Rattle.module_graph.specs.Levels.{AreDense}
use Rattle.module_graph.proofs.Graphs.{IsGraph-nodes}
use Rattle.module_graph.proofs.Levelling.{AreDense-fates}
use Rattle.module_graph.proofs.planning.plan.Goals as goal

pub find_components-requires : goal.find_components-requires
find_components-requires c = subst (λ (l : List Node). IsGraph l) (sym (c.deref.ensures.value ∙ c.in_ok-nodes.ensures)) (IsGraph-nodes c.args.modules.now)

pub find_standings-requires-clause-graph : goal.find_standings-requires-clause-graph
find_standings-requires-clause-graph c = subst (λ (l : List Node). IsGraph l) (sym (c.deref-2.ensures.value ∙ c.in_ok-nodes.ensures)) (IsGraph-nodes c.args.modules.now)

pub find_fates-requires-clause-graph : goal.find_fates-requires-clause-graph
find_fates-requires-clause-graph c = subst (λ (l : List Node). IsGraph l) (sym (c.deref-3.ensures.value ∙ c.in_ok-nodes.ensures)) (IsGraph-nodes c.args.modules.now)

pub find_levels-requires-clause-dense : goal.find_levels-requires-clause-dense
find_levels-requires-clause-dense c =
    let are : AreFates (nodes_of c.args.modules.now) c.in_ok-fates.fates.items = subst (λ (l : List Node). AreFates l c.in_ok-fates.fates.items) (c.deref-3.ensures.value ∙ c.in_ok-nodes.ensures) c.in_ok-fates.ensures in
    subst (λ (l : List Fate). AreDense l) (sym c.deref-5.ensures.value) (AreDense-fates (nodes_of c.args.modules.now) (IsGraph-nodes c.args.modules.now) c.in_ok-fates.fates.items are)
