use Rattle.std.proofs.Common.{◌≡◌, ◌+◌, ◌<◌, ◌≤◌, ◌++◌, ℕ, List, ◌∷◌, drop, length, option_map, arith, ap, sym, ◌∙◌}
use Rattle.std.proofs.lemmas.List.{at_drop_more}
use Rattle.luau_tree.specs.View.{view_block, view_stat, view_stats}
use Rattle.nonstrict_cli.specs.Form.{faults_in}
use Rattle.nonstrict_cli.specs.Seen.{reported_at}
use Rattle.nonstrict_cli.proofs.Calls.{faults_step, faults_none, from_nothing, with_nothing}
use Rattle.nonstrict_cli.proofs.Trees.{block_layer}
use Rattle.nonstrict_cli.proofs.form.read_faults.Goals as goal

pub loop-stat-init : goal.loop-stat-init
loop-stat-init c =
    ap faults_in (block_layer c.args.block.now ∙ ap view_stats (sym c.as_slice-stat-items.ensures))
    ∙ from_nothing c.new-found.result.items (faults_in (view_stats c.as_slice-stat-items.result.now)) c.new-found.ensures.items

-- a statement is no such call
pub returns-in_default : goal.returns-in_default
returns-in_default c =
    let xs = c.as_slice-stat-items.result.now in
    let i = c.loop-stat.stat-index in
    let x = c.stat-item.result in
    let lt : i < length xs = omega arith in
    sym (c.loop-stat.invariant
    ∙ ap (option_map (λ (later : List ℕ). c.loop-stat.found.items ++ later))
    (at_drop_more (λ l. faults_in (view_stats l)) xs i x lt
    ∙ ap (λ y. faults_in (view_stats (y ∷ drop (i + 1) xs))) (sym c.stat-item.is)
    ∙ faults_none (view_stat x) (view_stats (drop (i + 1) xs)) c.in_default.ensures))

-- one more call
pub loop-stat-preserved : goal.loop-stat-preserved
loop-stat-preserved c =
    let xs = c.as_slice-stat-items.result.now in
    let i = c.loop-stat.stat-index in
    let x = c.stat-item.result in
    let lt : i < length xs = omega arith in
    faults_step (faults_in (view_block c.args.block.now)) (view_stat x) (view_stats (drop (i + 1) xs)) c.loop-stat.found.items (reported_at c.in-Some.argument) _ c.in-Some.ensures c.in_ok-push_argument.ensures
    (c.loop-stat.invariant
    ∙ ap (option_map (λ (later : List ℕ). c.loop-stat.found.items ++ later))
    (at_drop_more (λ l. faults_in (view_stats l)) xs i x lt
    ∙ ap (λ y. faults_in (view_stats (y ∷ drop (i + 1) xs))) (sym c.stat-item.is)))

-- all statements were read
pub returns : goal.returns
returns c =
    let xs = c.as_slice-stat-items.result.now in
    let i = c.loop-stat.stat-index in
    let ge : length xs ≤ i = omega arith in
    sym (c.loop-stat.invariant ∙ with_nothing c.loop-stat.found.items xs i ge)
