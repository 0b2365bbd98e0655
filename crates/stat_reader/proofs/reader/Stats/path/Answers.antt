use Rattle.std.proofs.Common.{sym, ◌∙◌, ap}
use Rattle.std.proofs.lemmas.Result.{err_from_is_err_and}
use Rattle.std.specs.Prelude.{Err}
use Rattle.phrase_reader.proofs.Repeats.{stops, refuses, goes_on, fails}
use Rattle.stat_reader.proofs.reader.Stats.path.Goals as goal

pub returns-then-turns-eq0 : goal.returns-then-turns-eq0
returns-then-turns-eq0 g c _ = refuses c.loop-prefixes.invariant (sym c.sees.ensures ∙ c.loop-prefixes-test.true) c.if-turns-eq0.true ∙ ap Err (sym c.refusal.ensures)

pub loop-prefixes-preserved : goal.loop-prefixes-preserved
loop-prefixes-preserved g c = goes_on c.loop-prefixes.invariant (sym c.sees.ensures ∙ c.loop-prefixes-test.true) c.if-turns-eq0.false c.in_ok-e-2.ensures

pub returns-in_err-e-2 : goal.returns-in_err-e-2
returns-in_err-e-2 g c =
    let p = err_from_is_err_and c.from_residual-in_err-e-2.result c.from_residual-in_err-e-2.ensures.1
    in rw (p.1, p.2) (λ ne. fails c.loop-prefixes.invariant (sym c.sees.ensures ∙ c.loop-prefixes-test.true) c.if-turns-eq0.false (c.in_err-e-2.ensures ne))

pub returns : goal.returns
returns g c = stops c.loop-prefixes.invariant (sym c.sees.ensures ∙ c.loop-prefixes-test.false)
