use Rattle.std.proofs.Common.{rules, sym}
use Rattle.std.proofs.lemmas.Fn.{always_returns_same}
use Rattle.outside.specs.Contents.{File}
use Rattle.outside.proofs.Search.{at_gap, at_tie, path_cmp}
use Rattle.outside.proofs.root.Root.file_at.Goals as goal

pub returns-in-Ok : goal.returns-in-Ok
returns-in-Ok c =
    let files = c.as_slice-files.ensures in
    let tie = c.in-Ok.ensures.position (λ (file : File). path_cmp file.0 c.args.path.now) (always_returns_same _ _ _ (λ a r f called. (search rules, search rules))) in
    let here = rw files at (tie c.index-files-place.result) in
    let bound = rw files at c.in-Ok.ensures.bound in
    rw files (sym (at_tie c.args.self.now.files c.args.path.now c.args.self.now.ordered c.in-Ok.place c.index-files-place.result bound here))

pub returns-in-Err : goal.returns-in-Err
returns-in-Err c =
    let gap = c.in-Err.ensures.position (λ (file : File). path_cmp file.0 c.args.path.now) (always_returns_same _ _ _ (λ a r f called. (search rules, search rules))) in
    sym (at_gap c.args.self.now.files c.args.path.now c.in-Err.field-0 c.args.self.now.ordered (rw c.as_slice-files.ensures at gap))
