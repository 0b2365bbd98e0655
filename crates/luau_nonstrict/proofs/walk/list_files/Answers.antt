use Rattle.std.proofs.Common.{string_bytes}
use Rattle.std.proofs.lemmas.List.Sorted.{All-permutation}
use Rattle.luau_nonstrict.specs.Visible.{IsVisible}
use Rattle.luau_nonstrict.proofs.walk.list_files.Goals as goal

pub returns-clause-visible : goal.returns-clause-visible
returns-clause-visible g c = All-permutation (λ path. IsVisible (string_bytes path)) _ _ c.in_ok-sort.ensures.permutation c.loop-folder.invariant.found
