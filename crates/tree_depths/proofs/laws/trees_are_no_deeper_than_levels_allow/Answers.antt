use Rattle.std.proofs.Common.{leb-true, ◌≤◌, sym, subst}
use Rattle.luau_grammar.specs.Modules.{strict, max_level}
use Rattle.tree_depths.proofs.Deepest.{bare_deep}
use Rattle.tree_depths.proofs.SameDepth.{numbered_depth}
use Rattle.tree_depths.proofs.laws.trees_are_no_deeper_than_levels_allow.Goals as goal

pub returns-clause-bounded : goal.returns-clause-bounded
returns-clause-bounded c = bare_deep

pub returns-clause-strict : goal.returns-clause-strict
returns-clause-strict c text ts b is = bare_deep (strict text) max_level (λ t at h. leb-true at max_level h) ts b is

pub returns-clause-numbered : goal.returns-clause-numbered
returns-clause-numbered c text ts b is =
    subst (λ n. n ≤ 41200) (sym (numbered_depth b)) (bare_deep (strict text) max_level (λ t at h. leb-true at max_level h) ts b is)
