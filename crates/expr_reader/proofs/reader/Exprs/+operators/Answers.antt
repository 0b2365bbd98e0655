use Rattle.std.proofs.Common.{◌-◌, arith, sym, ◌∙◌, ap}
use Rattle.std.proofs.lemmas.Result.{err_from_is_err_and}
use Rattle.std.specs.Prelude.{Err}
use Rattle.luau_tree.specs.View.{view_expr}
use Rattle.luau_grammar.specs.Reading.{strictly}
use Rattle.luau_grammar.specs.ReadModules.{readers}
use Rattle.phrase_reader.specs.Outcomes.{place_of}
use Rattle.expr_reader.proofs.Turns.{operation_reads, operation_fails}
use Rattle.phrase_reader.proofs.Repeats.{stops, refuses, goes_on, fails}
use Rattle.expr_reader.proofs.reader.Exprs.+operators.Goals as goal

pub climb_from-returns-then-steps-eq0 : goal.climb_from-returns-then-steps-eq0
climb_from-returns-then-steps-eq0 g t c _ = refuses c.loop-tokens.invariant (sym c.is_tighter.ensures ∙ c.loop-tokens-test.true) c.if-steps-eq0.true ∙ ap Err (sym c.refusal.ensures)

pub climb_from-loop-tokens-preserved : goal.climb_from-loop-tokens-preserved
climb_from-loop-tokens-preserved g t c = goes_on c.loop-tokens.invariant (sym c.is_tighter.ensures ∙ c.loop-tokens-test.true) c.if-steps-eq0.false c.in_ok-e.ensures

pub climb_from-returns-in_err-e : goal.climb_from-returns-in_err-e
climb_from-returns-in_err-e g t c =
    let p = err_from_is_err_and c.from_residual.result c.from_residual.ensures.1
    in rw (p.1, p.2) (λ ne. fails c.loop-tokens.invariant (sym c.is_tighter.ensures ∙ c.loop-tokens-test.true) c.if-steps-eq0.false (c.in_err-e.ensures ne))

pub climb_from-returns : goal.climb_from-returns
climb_from-returns g t c = stops c.loop-tokens.invariant (sym c.is_tighter.ensures ∙ c.loop-tokens-test.false)

pub operation-returns-in_err-first : goal.operation-returns-in_err-first
operation-returns-in_err-first g t c =
    let p = err_from_is_err_and c.from_residual.result c.from_residual.ensures.1 in
    let set = strictly c.args.self.now.grammar.now.text.now in
    rw (p.1, p.2) (λ ne. operation_fails set (readers set c.args.self.now.grammar.now.depth) c.args.turns (c.args.turns - 1) c.args.least (place_of c.args.tokens.now) _ (omega arith) (c.in_err-first.ensures ne))

pub operation-returns : goal.operation-returns
operation-returns g t c =
    let set = strictly c.args.self.now.grammar.now.text.now in
    rw (operation_reads set (readers set c.args.self.now.grammar.now.depth) c.args.turns (c.args.turns - 1) c.args.least c.start-from.result (place_of c.args.tokens.now) (place_of c.operand.new.tokens) (view_expr c.in_ok-first.first) (omega arith) c.start-from.ensures c.in_ok-first.ensures) c.climb_from.ensures
