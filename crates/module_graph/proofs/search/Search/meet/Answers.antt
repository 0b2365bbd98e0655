use Rattle.std.proofs.Common.{◌≡◌, ap, sym, ◌∙◌, refl}
use Rattle.std.specs.Prelude.{slice_get, Some}
use Rattle.std.proofs.lemmas.Option.{slice_get-get_or}
use Rattle.module_graph.specs.declared.search.Mark.TheVariants.{Open, Closed}
use Rattle.module_graph.specs.Search.{back, known}
use Rattle.module_graph.proofs.search.Search.meet.Goals as goal

pub returns-in-Open : goal.returns-in-Open
returns-in-Open c =
    let mark : slice_get c.args.self.now.marks.items c.args.file ≡ Some (Open c.in-Open.at c.in-Open.next) =
    slice_get-get_or c.args.self.now.marks.items c.args.file c.index.result.now c.requires.file ∙ (ap Some (sym c.index.ensures) ∙ ap Some c.in-Open.is) in
    back c.in-Open.at c.in-Open.next c.merge.new.starts.items mark c.merge.ensures refl

pub returns-in-Closed : goal.returns-in-Closed
returns-in-Closed c =
    let mark : slice_get c.args.self.now.marks.items c.args.file ≡ Some (Closed c.in-Closed.number) =
    slice_get-get_or c.args.self.now.marks.items c.args.file c.index.result.now c.requires.file ∙ (ap Some (sym c.index.ensures) ∙ ap Some c.in-Closed.is) in
    known c.in-Closed.number mark refl
