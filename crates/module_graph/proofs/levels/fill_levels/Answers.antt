use Rattle.std.proofs.Common.{◌≡◌, ◌∙◌, ◌+◌, ◌<◌, ◌++◌, ◌∷◌, [], ℕ, List, length, get_or, sym, ap, subst, take, arith, inl, inr}
use Rattle.std.specs.Prelude.{slice_get, slice_set, Some, Vec}
use Rattle.std.specs.declared.alloc.Global.{Global}
use Rattle.std.proofs.lemmas.Option.{slice_get-get_or}
use Rattle.module_graph.specs.declared.needs.Fate.{Fate}
use Rattle.module_graph.specs.declared.needs.Fate.TheVariants.{Checked}
use Rattle.module_graph.specs.Levels.{level_from, is_checked_at}
use Rattle.module_graph.proofs.Lists.{slice_get-set_cases}
use Rattle.module_graph.proofs.Levelling.{level_from-same, level_from-added, other_level, own_level, unchecked}
use Rattle.module_graph.proofs.levels.fill_levels.Goals as goal
use Rattle.module_graph.proofs.levels.fill_levels.Goals.{in-Checked+in_ok-push, in_default}

pub loop-file-preserved : goal.loop-file-preserved
loop-file-preserved c = λ level modules e.
    let here : slice_get c.args.fates.now c.loop-file.file ≡ Some c.index-fates-file.result = slice_get-get_or c.args.fates.now c.loop-file.file c.index-fates-file.result c.loop-file-test.true ∙ ap Some (sym c.index-fates-file.is) in
    elim c.match-fate.branch [
      | in-Checked+in_ok-push w ↦
          (let is : slice_get c.args.fates.now c.loop-file.file ≡ Some (Checked w.in-Checked.level w.in-Checked.needs) = here ∙ ap Some w.in-Checked.is in
          let size = c.loop-file.auto.levels in
          let enough = c.requires.count.enough c.loop-file.file w.in-Checked.level w.in-Checked.needs is in
          let inside : w.in-Checked.level < length c.loop-file.levels = omega arith in
          let was : slice_get c.loop-file.levels w.in-Checked.level ≡ Some w.index-levels-level.result = slice_get-get_or c.loop-file.levels w.in-Checked.level w.index-levels-level.result inside ∙ ap Some (sym w.index-levels-level.is) in
          elim (slice_get-set_cases c.loop-file.levels w.in-Checked.level w.push.new.self level modules (ap (λ (l : List (Vec ℕ Global)). slice_get l level) (sym w.levels-is) ∙ e)) [
            | inl own ↦
                subst (λ (n : ℕ). modules.items ≡ level_from n 0 (take (c.loop-file.file + 1) c.args.fates.now)) (sym own.0)
                (ap (λ (v : Vec ℕ Global). v.items) own.1 ∙ (w.in_ok-push.ensures.items ∙ (ap (λ (v : Vec ℕ Global). v.items ++ c.loop-file.file ∷ []) (sym w.index-levels-level.is) ∙ (ap (λ (l : List ℕ). l ++ c.loop-file.file ∷ []) (c.loop-file.invariant w.in-Checked.level w.index-levels-level.result was)
                ∙ level_from-added w.in-Checked.level c.args.fates.now c.loop-file.file (Checked w.in-Checked.level w.in-Checked.needs) is (own_level w.in-Checked.level w.in-Checked.needs)))))
            | inr other ↦ c.loop-file.invariant level modules other.1 ∙ level_from-same level c.args.fates.now c.loop-file.file (Checked w.in-Checked.level w.in-Checked.needs) is (other_level level w.in-Checked.level w.in-Checked.needs other.0)
          ])
      | in_default w ↦
          c.loop-file.invariant level modules (ap (λ (l : List (Vec ℕ Global)). slice_get l level) (sym w.levels-is) ∙ e)
          ∙ level_from-same level c.args.fates.now c.loop-file.file c.index-fates-file.result here (unchecked level c.index-fates-file.result w.in_default.not-Checked)
    ]
