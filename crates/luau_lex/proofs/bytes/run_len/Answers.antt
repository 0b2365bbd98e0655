use Rattle.std.proofs.Common.{sym, arith}
use Rattle.std.proofs.lemmas.List.Sums.{prefix_len_is}
use Rattle.luau_lex.specs.Computed.Steps.{has}
use Rattle.luau_lex.proofs.bytes.run_len.Goals as goal

-- the byte here is not of the class
pub returns-then-not-has-clause-value : goal.returns-then-not-has-clause-value
returns-then-not-has-clause-value c = sym (prefix_len_is (has c.args.class) c.args.text.now c.loop-i.i 0 (omega arith) c.loop-i.invariant (λ _. cc))

-- each byte is of the class
pub returns-clause-value : goal.returns-clause-value
returns-clause-value c = sym (prefix_len_is (has c.args.class) c.args.text.now _ 0 (omega arith) (λ k h. c.loop-i.invariant k (omega arith)) (λ h. absurd (omega arith)))
