use Rattle.std.proofs.Common.{◌≡◌, ◌∙◌, ◌+◌, ℕ, sym, ap, subst, take}
use Rattle.std.specs.Prelude.{slice_get, Some}
use Rattle.std.proofs.lemmas.Option.{slice_get-get_or}
use Rattle.module_graph.specs.Levels.{IsCount}
use Rattle.module_graph.proofs.Levelling.{IsCount-skip, IsCount-more}
use Rattle.module_graph.proofs.levels.count_of.Goals as goal
use Rattle.module_graph.proofs.levels.count_of.Goals.{in-Checked, in_default}

pub loop-fate-preserved : goal.loop-fate-preserved
loop-fate-preserved c =
    let here : slice_get c.args.fates.now c.loop-fate.fate-index ≡ Some c.fate-item.result = slice_get-get_or c.args.fates.now c.loop-fate.fate-index c.fate-item.result c.loop-fate-test.true ∙ ap Some (sym c.fate-item.is) in
    elim c.match-fate.branch [
      | in-Checked w ↦ IsCount-more c.args.fates.now c.loop-fate.fate-index c.fate-item.result here c.loop-fate.count c.loop-fate.invariant w.in-Checked.level w.in-Checked.needs w.in-Checked.is c.match-fate.count (w.count-is ∙ w.max-count.ensures)
      | in_default w ↦ subst (λ (n : ℕ). IsCount (take (c.loop-fate.fate-index + 1) c.args.fates.now) n) (sym w.count-is) (IsCount-skip c.args.fates.now c.loop-fate.fate-index c.fate-item.result here c.loop-fate.count c.loop-fate.invariant w.in_default.not-Checked)
    ]
