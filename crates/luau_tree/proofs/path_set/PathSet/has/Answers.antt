use Rattle.std.proofs.Common.{rules}
use Rattle.std.proofs.lemmas.Fn.{always_returns_same}
use Rattle.luau_tree.specs.Sorted.{bytes_cmp}
use Rattle.luau_tree.proofs.PathLemmas.{found_path}
use Rattle.luau_tree.proofs.path_set.PathSet.has.Goals as goal

-- the closure compares a path with the one that is looked for
pub returns : goal.returns
returns c =
    let facts = c.binary_search_by-place.ensures in
    let by_order = facts.position (λ other. bytes_cmp other c.args.path.now) (always_returns_same _ _ _ (λ a r f called. search rules)) in
    rw (c.is_ok.ensures.value, ← c.self.view_is, ← c.as_slice-paths.ensures) (found_path _ c.args.path.now _ (rw c.as_slice-paths.ensures c.self.invariant) facts.bound by_order)
