use Rattle.std.proofs.Common.{◌≡◌, ℕ, ◌*◌, ◌+◌, ◌<◌, ◌≤◌, length, ap, sym, ◌∙◌, arith, Fits, w64, get_or, subst}
use Rattle.std.specs.Prelude.{slice_get, slice_set, Some, map, List}
use Rattle.std.proofs.lemmas.Option.{slice_get-get_or, slice_get_within}
use Rattle.std.proofs.lemmas.List.{length-map}
use Rattle.module_graph.specs.declared.search.Mark.{Mark}
use Rattle.module_graph.specs.declared.search.Mark.TheVariants.{Open, Closed}
use Rattle.module_graph.specs.Search.{close_mark}
use Rattle.module_graph.proofs.Closes.{close_between, closed-none, closed-more, closed-all}
use Rattle.module_graph.proofs.search.close_all.Goals as goal

pub loop-i-init : goal.loop-i-init
loop-i-init c = sym (closed-none c.args.start c.args.number c.args.marks.now)

pub bounds-marks-opened : goal.bounds-marks-opened
bounds-marks-opened c =
    let here : slice_get c.args.opened.now c.loop-i.i ≡ Some (get_or c.args.opened.now c.loop-i.i 0) = slice_get-get_or c.args.opened.now c.loop-i.i 0 c.loop-i-test.true in
    let mark = c.requires.placed c.loop-i.i (get_or c.args.opened.now c.loop-i.i 0) here in
    let within : get_or c.args.opened.now c.loop-i.i 0 < length c.args.marks.now = slice_get_within c.args.marks.now (get_or c.args.opened.now c.loop-i.i 0) (Open c.loop-i.i mark.0) mark.1 in
    let same : length c.loop-i.marks ≡ length c.args.marks.now = ap length c.loop-i.invariant ∙ length-map c.args.marks.now (close_between c.args.start c.loop-i.i c.args.number) in
    omega arith

pub loop-i-preserved : goal.loop-i-preserved
loop-i-preserved c =
    let here : slice_get c.args.opened.now c.loop-i.i ≡ Some (get_or c.args.opened.now c.loop-i.i 0) = slice_get-get_or c.args.opened.now c.loop-i.i 0 c.loop-i-test.true in
    let mark = c.requires.placed c.loop-i.i (get_or c.args.opened.now c.loop-i.i 0) here in
    let more = closed-more c.args.start c.loop-i.i c.args.number c.args.marks.now c.args.opened.now c.requires.there (get_or c.args.opened.now c.loop-i.i 0) mark.0 c.loop-i.auto.i mark.1 in
    ap (λ (l : List Mark). slice_set l (get_or c.args.opened.now c.loop-i.i 0) (Closed c.args.number)) c.loop-i.invariant ∙ more

pub returns : goal.returns
returns c =
    let last : c.loop-i.i ≡ length c.args.opened.now = (let le = c.loop-i.auto.i-end c.requires.start in let ge = c.loop-i-test.false in omega arith) in
    c.loop-i.invariant ∙ (ap (λ (i : ℕ). map (close_between c.args.start i c.args.number) c.args.marks.now) last ∙ closed-all c.args.start c.args.number c.args.marks.now c.args.opened.now c.requires.there)
