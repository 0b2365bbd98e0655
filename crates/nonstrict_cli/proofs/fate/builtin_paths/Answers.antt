use Rattle.std.proofs.Common.{◌≡◌, length, ◌∙◌, arith}
use Rattle.nonstrict_cli.proofs.Builtins.{all_paths, in_order}
use Rattle.nonstrict_cli.proofs.fate.builtin_paths.Goals as goal

pub of-requires-2 : goal.of-requires-2
of-requires-2 c =
    let e : c.loop-entry.entry-index ≡ length c.paths-entries.result.now = omega (arith, c.loop-entry-test.false, c.loop-entry.auto.entry-index-end) in
    in_order c.loop-entry.names.items (all_paths c.paths-entries.result.now c.loop-entry.names.items c.loop-entry.entry-index c.paths-entries.ensures c.loop-entry.invariant e)
    c.paths_stand_in_order.ensures.ascending

pub returns : goal.returns
returns c =
    let e : c.loop-entry.entry-index ≡ length c.paths-entries.result.now = omega (arith, c.loop-entry-test.false, c.loop-entry.auto.entry-index-end) in
    c.of-2.ensures ∙ all_paths c.paths-entries.result.now c.loop-entry.names.items c.loop-entry.entry-index c.paths-entries.ensures c.loop-entry.invariant e
