use Rattle.std.proofs.Common.{◌≡◌, [], ap, ◌∙◌}
use Rattle.luau_tree.specs.Tree.{Block}
use Rattle.luau_tree.specs.View.{view_block}
use Rattle.luau_scope.specs.declared.findings.Findings.{Findings}
use Rattle.luau_scope.specs.declared.walker.Walker.{Walker}
use Rattle.luau_scope.specs.Found.{Scope}
use Rattle.luau_scope.specs.Finds.{found_in, of_block}
use Rattle.luau_scope.specs.Steps.{added, after_stats, around_in, no_findings, with_part, within_module}
use Rattle.luau_scope.proofs.resolver.findings_of.Goals as goal

-- a walk over a module that begins with nothing
whole : (s t : Walker) (block : Block) → t ≡ after_stats within_module block s → s.scope ≡ [] → s.found ≡ no_findings → t.found ≡ added (found_in s.names.now block) no_findings
unfolding after_stats
whole s t block e c f =
    ap (λ (u : Walker). u.found) e
    ∙ ap (λ (scope : Scope). with_part (of_block (around_in (record s { scope = scope }) within_module) block) s.found) c
    ∙ ap (λ (found : Findings). with_part (of_block (around_in (record s { scope = [] }) within_module) block) found) f

pub returns : goal.returns
returns c = whole _ c.walk.new.self (view_block c.args.block.now) c.in_ok-walk.ensures c.new.ensures c.new-2.ensures
