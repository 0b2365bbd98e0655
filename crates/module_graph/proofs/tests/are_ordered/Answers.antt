use Rattle.std.proofs.Common.{◌≡◌, ◌∙◌, ◌-◌, ◌<◌, ℕ, List, length, ap, sym, arith}
use Rattle.std.specs.Prelude.{slice_get, Some}
use Rattle.std.specs.Ordering.{nat_cmp}
use Rattle.std.specs.Cmp.Lexicographic.{slice_cmp}
use Rattle.std.specs.declared.cmp.Ordering.TheVariants.{Less}
use Rattle.std.proofs.lemmas.Option.{slice_get-get_or}
use Rattle.module_graph.specs.declared.needs.ModuleNeeds.{ModuleNeeds}
use Rattle.module_graph.proofs.Finding.{ordered-more}
use Rattle.module_graph.proofs.tests.are_ordered.Goals as goal

pub loop-i-preserved : goal.loop-i-preserved
loop-i-preserved c =
    let low = c.loop-i.auto.i in
    let high = c.loop-i-test.true in
    let before : slice_get c.args.files.now (c.loop-i.i - 1) ≡ Some c.index-files-i.result = slice_get-get_or c.args.files.now (c.loop-i.i - 1) c.index-files-i.result (omega arith) ∙ ap Some (sym c.index-files-i.is) in
    let here : slice_get c.args.files.now c.loop-i.i ≡ Some c.index-files-i-in-loop-i.result = slice_get-get_or c.args.files.now c.loop-i.i c.index-files-i-in-loop-i.result high ∙ ap Some (sym c.index-files-i-in-loop-i.is) in
    let path = c.as_slice.ensures ∙ ap (λ (f : ModuleNeeds). f.path) (sym c.index-files-i-in-loop-i.is) in
    let less : slice_cmp nat_cmp c.index-files-i.result.path c.index-files-i-in-loop-i.result.path ≡ Less = ap (λ (q : List ℕ). slice_cmp nat_cmp c.index-files-i.result.path q) (sym path) ∙ sym c.in-Less.ensures in
    ordered-more c.args.files.now c.loop-i.i c.index-files-i.result c.index-files-i-in-loop-i.result (omega arith) before here less c.loop-i.invariant
