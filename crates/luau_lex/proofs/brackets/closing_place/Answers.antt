use Rattle.std.proofs.Common.{sym, ap, ◌∙◌, arith}
use Rattle.std.proofs.lemmas.Slice.{between_to_end}
use Rattle.luau_lex.specs.Computed.Brackets.{closes}
use Rattle.luau_lex.proofs.BracketLemmas.{closing_found, closing_missing}
use Rattle.luau_lex.proofs.brackets.closing_place.Goals as goal

pub returns-then-closes-clause-value : goal.returns-then-closes-clause-value
returns-then-closes-clause-value c =
    sym (closing_found c.args.signs c.args.text.now c.loop-i.i (omega arith) c.loop-i.invariant
    (ap (closes c.args.signs) (sym (between_to_end c.args.text.now c.loop-i.i _ (omega arith))) ∙ sym c.closes.ensures.value ∙ c.if-closes.true))

pub returns-clause-value : goal.returns-clause-value
returns-clause-value c = sym (closing_missing c.args.signs c.args.text.now (λ k h. c.loop-i.invariant k (omega arith)))
