use Rattle.std.proofs.lemmas.Result.{err_from_is_err_and}
use Rattle.std.proofs.Common.{map, string_bytes}
use Rattle.nonstrict_cli.proofs.Ends.{err_over, stops_with}
use Rattle.nonstrict_cli.proofs.answer.make_answer.Goals as goal

pub returns-in_err-lines-clause-too_large : goal.returns-in_err-lines-clause-too_large
returns-in_err-lines-clause-too_large g c =
    let p = err_from_is_err_and c.from_residual.result c.from_residual.ensures.1 in
    rw (p.1, p.2) (λ limit e. stops_with (g.T.Tree.contents c.args.tree.now) (map string_bytes c.args.words.now) c.in-Some.folder.now limit c.in-Some.ensures (c.in_err-lines.ensures.too_large limit (err_over _ _ e)))
