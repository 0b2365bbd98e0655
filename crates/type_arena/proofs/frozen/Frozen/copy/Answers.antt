use Rattle.std.proofs.Common.{◌≡◌, List, sym, subst}
use Rattle.type_arena.specs.Store.{IsOrdered}
use Rattle.type_arena.specs.declared.node.Node.{Node}
use Rattle.type_arena.proofs.CloneLemmas.{same_nodes}
use Rattle.type_arena.proofs.frozen.Frozen.copy.Goals as goal

pub invariant_of-result : goal.invariant_of-result
invariant_of-result c =
    let home = c.args.self.now.home in
    let nodes = c.args.self.now.nodes.keys in
    let same : c.in_ok-nodes.nodes.keys ≡ nodes = same_nodes nodes c.in_ok-nodes.nodes.keys c.in_ok-nodes.ensures.cases in
    record { ordered = subst (λ (kept : List Node). IsOrdered home kept) (sym same) c.args.self.now.ordered }
