use Rattle.std.proofs.Common.{rules, arith, ◌≡◌, sym, ◌∙◌, ap, refl}
use Rattle.std.proofs.lemmas.Result.{err_from_is_err_and}
use Rattle.std.specs.Prelude.{Err}
use Rattle.phrase_reader.proofs.Repeats.{stops, refuses, goes_on, fails}
use Rattle.prefix_reader.proofs.reader.Prefixes.expressions.Goals as goal

pub returns-then-turns-eq0 : goal.returns-then-turns-eq0
returns-then-turns-eq0 g c _ = refuses c.loop-found.invariant (sym c.sees.ensures ∙ c.loop-found-test.true) c.if-turns-eq0.true ∙ ap Err (sym c.refusal.ensures)

pub loop-found-preserved : goal.loop-found-preserved
loop-found-preserved g c = goes_on c.loop-found.invariant (sym c.sees.ensures ∙ c.loop-found-test.true) c.if-turns-eq0.false c.in_ok-found-2.ensures

pub returns-in_err-found-2 : goal.returns-in_err-found-2
returns-in_err-found-2 g c =
    let p = err_from_is_err_and c.from_residual-in_err-found-2.result c.from_residual-in_err-found-2.ensures.1
    in rw (p.1, p.2) (λ ne. fails c.loop-found.invariant (sym c.sees.ensures ∙ c.loop-found-test.true) c.if-turns-eq0.false (c.in_err-found-2.ensures ne))

pub returns : goal.returns
returns g c = stops c.loop-found.invariant (sym c.sees.ensures ∙ c.loop-found-test.false)
