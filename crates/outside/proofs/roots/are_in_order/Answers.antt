use Rattle.std.proofs.Common.{◌≡◌, ◌-◌, ◌≤◌, true, List, [], ◌∷◌, length, drop, refl, sym, ◌∙◌, arith, length-drop}
use Rattle.outside.specs.Contents.{File, in_order, paths_of}
use Rattle.outside.proofs.roots.are_in_order.Goals as goal

-- one file, or none, is in order
in_order-short : (files : List File) → length files ≤ 1 → in_order (paths_of files) ≡ true
in_order-short [] h = refl
in_order-short (f ∷ []) h = refl
in_order-short (f ∷ g ∷ files) h = absurd (omega arith)

-- at the end no more than one file is left to compare
pub returns : goal.returns
returns c =
    let left : length (drop (c.loop-i.i - 1) c.args.files.now) ≤ 1 = omega (arith, length-drop (c.loop-i.i - 1) c.args.files.now) in
    sym (c.loop-i.invariant ∙ in_order-short (drop (c.loop-i.i - 1) c.args.files.now) left)
