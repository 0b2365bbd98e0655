use Rattle.expr_reader.specs.SeenInterpolated.{seen_interpolated}
use Rattle.luau_grammar.specs.ReadExpressions.{Interpolated, part, parts}
use Rattle.luau_grammar.specs.Reading.{strictly, pure}
use Rattle.luau_grammar.specs.ReadModules.{readers}
use Rattle.phrase_reader.specs.Outcomes.{place_of}
use Rattle.phrase_reader.proofs.Repeats.{Remains}
use Rattle.expr_reader.proofs.reader.Exprs.parts.Given as goal

-- what is left to read gives the whole
abbrev pub invariant-loop-given : goal.invariant-loop-given
invariant-loop-given g l =
    Remains Interpolated Interpolated (strictly l.self.grammar.now.text.now) (λ given p. given.open_ended) (part (strictly l.self.grammar.now.text.now) (readers (strictly l.self.grammar.now.text.now) l.self.grammar.now.depth)) (λ x. pure x) l.turns (seen_interpolated l.given) (place_of l.tokens)
    (parts (strictly l.self.grammar.now.text.now) (readers (strictly l.self.grammar.now.text.now) l.self.grammar.now.depth) l.fn.text (place_of l.fn.tokens))

abbrev pub decreases-loop-given : goal.decreases-loop-given
decreases-loop-given g l = l.turns
