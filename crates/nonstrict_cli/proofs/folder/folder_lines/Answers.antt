use Rattle.std.proofs.Common.{◌≡◌, ◌≤◌, ℕ, List, get_or, Option, Some, Err, IfSome, IsSome, length, arith, subst, sym, ◌∙◌, ap}
use Rattle.std.proofs.lemmas.Result.{err_from_is_err_and}
use Rattle.outside.specs.Cause.{Rose}
use Rattle.outside.specs.Contents.{Contents, file_at}
use Rattle.outside.specs.Written.{Appends}
use Rattle.nonstrict_cli.specs.declared.limits.TheConstants.{MAX_FILES}
use Rattle.nonstrict_cli.specs.Asked.{asked_for}
use Rattle.nonstrict_cli.specs.Folder.{limit_of}
use Rattle.nonstrict_cli.specs.Written.{AppendsFront}
use Rattle.nonstrict_cli.proofs.Asking.{asked_all_files, asked_for_listing, asked_till_over, asked_to_here, front_where_told, limit_alone}
use Rattle.nonstrict_cli.proofs.Ends.{err_over}
use Rattle.nonstrict_cli.proofs.Gathering.{Gathered, gathered_over, gathered_there}
use Rattle.nonstrict_cli.proofs.folder.folder_lines.Goals as goal

-- the sum passes the limit at this file
pub returns-in_err-add_file-clause-too_large : goal.returns-in_err-add_file-clause-too_large
returns-in_err-add_file-clause-too_large g c =
    let p = err_from_is_err_and c.from_residual-in_err-add_file.result c.from_residual-in_err-add_file.ensures.1 in
    let inv = c.loop-path.invariant in
    let here = g.T.Tree.contents c.loop-path.tree in
    let folder = c.args.folder.now in
    let path = c.as_str.result.now in
    let paths = c.deref-path-items.result.now in
    let item : path ≡ get_or paths c.loop-path.path-index path = subst (λ (p : List ℕ). p ≡ get_or paths c.loop-path.path-index p) (sym c.as_str.ensures) c.path-item.is in
    let few : length paths ≤ MAX_FILES = omega (arith, c.deref-path-items.ensures.len, c.len.ensures, c.if-len-gt-MAX_FILES.false) in
    let gathered : Gathered here folder paths c.loop-path.path-index c.loop-path.total c.loop-path.lines.items =
    subst (λ (told : Option Contents). Gathered told folder paths c.loop-path.path-index c.loop-path.total c.loop-path.lines.items) (sym inv.3) inv.1 in
    rw (p.1, p.2) (λ limit e.
    subst (λ (told : Option Contents). IfSome told (λ contents. limit_of (contents folder) ≡ Some limit)) (inv.3 ∙ c.in_ok-list.ensures.same)
    (gathered_over here folder paths c.loop-path.path-index c.loop-path.total c.loop-path.lines.items path limit c.loop-path-test.true item few (c.in_err-add_file.ensures.too_large limit (err_over _ _ e)) gathered))

-- a file that is listed is there, so a read of it fails only where the tree does
pub returns-in_err-add_file-clause-read_fault : goal.returns-in_err-add_file-clause-read_fault
returns-in_err-add_file-clause-read_fault g c =
    let p = err_from_is_err_and c.from_residual-in_err-add_file.result c.from_residual-in_err-add_file.ensures.1 in
    let inv = c.loop-path.invariant in
    let here = g.T.Tree.contents c.loop-path.tree in
    let folder = c.args.folder.now in
    let path = c.as_str.result.now in
    let paths = c.deref-path-items.result.now in
    let item : path ≡ get_or paths c.loop-path.path-index path = subst (λ (p : List ℕ). p ≡ get_or paths c.loop-path.path-index p) (sym c.as_str.ensures) c.path-item.is in
    let gathered : Gathered here folder paths c.loop-path.path-index c.loop-path.total c.loop-path.lines.items =
    subst (λ (told : Option Contents). Gathered told folder paths c.loop-path.path-index c.loop-path.total c.loop-path.lines.items) (sym inv.3) inv.1 in
    let there : IfSome here (λ contents. IsSome (file_at (contents folder) path)) =
    gathered_there here folder paths c.loop-path.path-index c.loop-path.total c.loop-path.lines.items path c.loop-path-test.true item gathered in
    rw (p.1, p.2) (λ e.
    subst (λ (before : ℕ). Rose before (g.T.Tree.faults c.add_file.new.tree)) (inv.2 ∙ c.in_ok-list.ensures.quiet) (c.in_err-add_file.ensures.read_fault (err_over _ _ e) there))

-- a front is asked for where memory runs out behind the listing
pub returns-in_err-listed-clause-asked : goal.returns-in_err-listed-clause-asked
returns-in_err-listed-clause-asked g c = asked_for_listing (g.T.Tree.contents c.args.tree.now) c.args.folder.now _ _ c.in_ok-list.ensures.asked

-- and where a file ends the run
pub returns-in_err-add_file-clause-asked : goal.returns-in_err-add_file-clause-asked
returns-in_err-add_file-clause-asked g c =
    let inv = c.loop-path.invariant in
    let here = g.T.Tree.contents c.loop-path.tree in
    let folder = c.args.folder.now in
    let path = c.as_str.result.now in
    let paths = c.deref-path-items.result.now in
    let item : path ≡ get_or paths c.loop-path.path-index path = subst (λ (p : List ℕ). p ≡ get_or paths c.loop-path.path-index p) (sym c.as_str.ensures) c.path-item.is in
    let few : length paths ≤ MAX_FILES = omega (arith, c.deref-path-items.ensures.len, c.len.ensures, c.if-len-gt-MAX_FILES.false) in
    let gathered : Gathered here folder paths c.loop-path.path-index c.loop-path.total c.loop-path.lines.items =
    subst (λ (told : Option Contents). Gathered told folder paths c.loop-path.path-index c.loop-path.total c.loop-path.lines.items) (sym inv.3) inv.1 in
    let before = g.T.Tree.asked c.args.tree.now in
    let after = g.T.Tree.asked c.add_file.new.tree in
    subst (λ (told : Option Contents). IfSome told (λ contents. AppendsFront before after (asked_for (Some folder) contents))) (inv.3 ∙ c.in_ok-list.ensures.same)
    (asked_to_here here folder paths c.loop-path.path-index c.loop-path.total c.loop-path.lines.items path before _ (g.T.Tree.asked c.loop-path.tree) after c.loop-path-test.true item few gathered c.in_ok-list.ensures.asked inv.4 c.in_err-add_file.ensures.asked)

-- all is asked where that file passes the limit
pub returns-in_err-add_file-clause-asked_all : goal.returns-in_err-add_file-clause-asked_all
returns-in_err-add_file-clause-asked_all g c =
    let p = err_from_is_err_and c.from_residual-in_err-add_file.result c.from_residual-in_err-add_file.ensures.1 in
    let inv = c.loop-path.invariant in
    let here = g.T.Tree.contents c.loop-path.tree in
    let folder = c.args.folder.now in
    let path = c.as_str.result.now in
    let paths = c.deref-path-items.result.now in
    let item : path ≡ get_or paths c.loop-path.path-index path = subst (λ (p : List ℕ). p ≡ get_or paths c.loop-path.path-index p) (sym c.as_str.ensures) c.path-item.is in
    let few : length paths ≤ MAX_FILES = omega (arith, c.deref-path-items.ensures.len, c.len.ensures, c.if-len-gt-MAX_FILES.false) in
    let gathered : Gathered here folder paths c.loop-path.path-index c.loop-path.total c.loop-path.lines.items =
    subst (λ (told : Option Contents). Gathered told folder paths c.loop-path.path-index c.loop-path.total c.loop-path.lines.items) (sym inv.3) inv.1 in
    let before = g.T.Tree.asked c.args.tree.now in
    let after = g.T.Tree.asked c.add_file.new.tree in
    rw (p.1, p.2) (λ no_fault no_want.
    let over = limit_alone _ c.in_err-add_file.ensures.no_usage no_fault no_want in
    subst (λ (told : Option Contents). IfSome told (λ contents. Appends before after (asked_for (Some folder) contents))) (inv.3 ∙ c.in_ok-list.ensures.same)
    (asked_till_over here folder paths c.loop-path.path-index c.loop-path.total c.loop-path.lines.items path over.0 before _ (g.T.Tree.asked c.loop-path.tree) after c.loop-path-test.true item few gathered (c.in_err-add_file.ensures.too_large over.0 (ap Err over.1)) c.in_ok-list.ensures.asked inv.4 c.in_err-add_file.ensures.asked))

-- and where the last file is read
pub returns-clause-asked_all : goal.returns-clause-asked_all
returns-clause-asked_all g c =
    let inv = c.loop-path.invariant in
    let paths = c.deref-path-items.result.now in
    let few : length paths ≤ MAX_FILES = omega (arith, c.deref-path-items.ensures.len, c.len.ensures, c.if-len-gt-MAX_FILES.false) in
    let told : IfSome (g.T.Tree.contents c.args.tree.now) (λ contents. Appends (g.T.Tree.asked c.args.tree.now) (g.T.Tree.asked c.loop-path.tree) (asked_for (Some c.args.folder.now) contents)) =
    asked_all_files (g.T.Tree.contents c.args.tree.now) c.args.folder.now paths c.loop-path.path-index c.loop-path.total c.loop-path.lines.items _ _ _ (omega (arith, c.loop-path-test.false)) few
    (subst (λ (told : Option Contents). Gathered told c.args.folder.now paths c.loop-path.path-index c.loop-path.total c.loop-path.lines.items) c.in_ok-list.ensures.same inv.1) c.in_ok-list.ensures.asked inv.4 in
    λ no_fault no_want. told

pub returns-clause-asked : goal.returns-clause-asked
returns-clause-asked g c =
    let inv = c.loop-path.invariant in
    let paths = c.deref-path-items.result.now in
    let few : length paths ≤ MAX_FILES = omega (arith, c.deref-path-items.ensures.len, c.len.ensures, c.if-len-gt-MAX_FILES.false) in
    front_where_told (g.T.Tree.contents c.args.tree.now) (Some c.args.folder.now) (g.T.Tree.asked c.args.tree.now) (g.T.Tree.asked c.loop-path.tree)
    (asked_all_files (g.T.Tree.contents c.args.tree.now) c.args.folder.now paths c.loop-path.path-index c.loop-path.total c.loop-path.lines.items _ _ _ (omega (arith, c.loop-path-test.false)) few
    (subst (λ (told : Option Contents). Gathered told c.args.folder.now paths c.loop-path.path-index c.loop-path.total c.loop-path.lines.items) c.in_ok-list.ensures.same inv.1) c.in_ok-list.ensures.asked inv.4)
