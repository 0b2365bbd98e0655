use Rattle.std.proofs.Common.{◌≡◌, ◌∙◌, ℕ, List, ◌++◌, length, take, drop, arith, ap, sym, subst}
use Rattle.std.specs.Prelude.{slice_get, Some, map, vec_len, Vec}
use Rattle.std.specs.declared.alloc.Global.{Global}
use Rattle.std.proofs.lemmas.List.{length-map}
use Rattle.module_graph.specs.Levels.{level_from, IsCount, AreLevels}
use Rattle.module_graph.proofs.Lists.{take-front, slice_get-mapped_from, IfOk-then}
use Rattle.module_graph.proofs.Levelling.{AreLevels-filled}
use Rattle.module_graph.proofs.levels.find_levels.Goals as goal

pub returns : goal.returns
returns c =
    let items : Vec ℕ Global → List ℕ = (λ v. v.items) in
    let size : vec_len c.in_ok-levels.levels ≡ length c.fill_levels.new.levels = (let kept = c.fill_levels.auto.levels in let same = c.as_mut_slice.ensures.len in omega arith) in
    let written : take (vec_len c.in_ok-levels.levels) (c.fill_levels.new.levels ++ drop (length c.fill_levels.new.levels) c.in_ok-levels.levels.items) ≡ c.fill_levels.new.levels =
    take-front c.fill_levels.new.levels (drop (length c.fill_levels.new.levels) c.in_ok-levels.levels.items) (vec_len c.in_ok-levels.levels) size in
    let many : c.count_of.result ≡ length (map items c.fill_levels.new.levels) =
    (let made = c.in_ok-levels.ensures.size in
    let kept = c.fill_levels.auto.levels in
    let lent : length c.as_mut_slice.result.now ≡ length c.in_ok-levels.levels.items = ap length c.as_mut_slice.ensures.value in
    let mapped = length-map c.fill_levels.new.levels items in
    omega arith) in
    let are : AreLevels c.args.fates.now (map items c.fill_levels.new.levels) =
    AreLevels-filled c.args.fates.now (map items c.fill_levels.new.levels) (subst (λ (n : ℕ). IsCount c.args.fates.now n) many c.count_of.ensures) c.requires.dense
    (λ level modules e. let h = slice_get-mapped_from items c.fill_levels.new.levels level modules e in sym h.2 ∙ c.in_ok-fill_levels.ensures level h.0 h.1) in
    IfOk-then c.lists_of.result c.lists_of.ensures
    (λ lists is. subst (λ (l : List (List ℕ)). AreLevels c.args.fates.now l) (sym (is ∙ ap (λ (l : List (Vec ℕ Global)). map items l) written)) are)
