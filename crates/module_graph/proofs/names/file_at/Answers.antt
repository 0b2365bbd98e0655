use Rattle.std.proofs.Common.{◌≡◌, ◌∙◌, rules}
use Rattle.std.specs.Ordering.{nat_cmp}
use Rattle.std.specs.Cmp.Lexicographic.{slice_cmp}
use Rattle.std.proofs.lemmas.Fn.{always_returns_same}
use Rattle.module_graph.proofs.Finding.{found-by_path}
use Rattle.module_graph.proofs.names.file_at.Goals as goal

pub returns : goal.returns
returns c =
    c.ok.ensures.value ∙ found-by_path c.args.files.now c.args.path.now c.requires c.binary_search_by.result c.binary_search_by.ensures.bound
    (c.binary_search_by.ensures.position (λ file. slice_cmp nat_cmp file.path c.args.path.now) (always_returns_same _ _ _ (λ a r f called. search rules)))
