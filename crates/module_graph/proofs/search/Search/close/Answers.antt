use Rattle.std.proofs.Common.{◌≡◌, ℕ, List, ap, sym, ◌∙◌}
use Rattle.std.specs.Prelude.{slice_get, Some}
use Rattle.module_graph.specs.declared.search.Mark.{Mark}
use Rattle.module_graph.proofs.search.Search.close.Goals as goal

pub close_all-requires-clause-placed : goal.close_all-requires-clause-placed
close_all-requires-clause-placed c = λ p x e.
    let h = c.requires.placed p x (ap (λ (l : List ℕ). slice_get l p) (sym c.as_slice.ensures.value) ∙ e) in
    (h.0, ap (λ (l : List Mark). slice_get l x) c.as_mut_slice.ensures.value ∙ h.1)
