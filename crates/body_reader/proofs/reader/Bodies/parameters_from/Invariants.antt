use Rattle.body_reader.specs.SeenParameters.{seen_parameters}
use Rattle.luau_grammar.specs.ReadExpressions.{Parameters, goes_parameters, another_parameter, parameters_from}
use Rattle.luau_grammar.specs.Reading.{strictly, pure}
use Rattle.luau_grammar.specs.ReadModules.{readers}
use Rattle.phrase_reader.specs.Outcomes.{place_of}
use Rattle.phrase_reader.proofs.Repeats.{Remains}
use Rattle.body_reader.proofs.reader.Bodies.parameters_from.Given as goal

-- what is left to read gives the whole
abbrev pub invariant-loop-tokens : goal.invariant-loop-tokens
invariant-loop-tokens g l =
    Remains Parameters Parameters (strictly l.self.grammar.now.text.now) goes_parameters (another_parameter (strictly l.self.grammar.now.text.now) (readers (strictly l.self.grammar.now.text.now) l.self.grammar.now.depth)) (λ x. pure x) l.turns (seen_parameters l.given) (place_of l.tokens)
    (parameters_from (strictly l.self.grammar.now.text.now) (readers (strictly l.self.grammar.now.text.now) l.self.grammar.now.depth) (seen_parameters l.fn.first) (place_of l.fn.tokens))

abbrev pub decreases-loop-tokens : goal.decreases-loop-tokens
decreases-loop-tokens g l = l.turns
