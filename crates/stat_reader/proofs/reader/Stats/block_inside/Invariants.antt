use Rattle.luau_tree.specs.Tree.{Block}
use Rattle.luau_tree.specs.View.{stats}
use Rattle.stat_reader.specs.SeenStatements.{seen_statements}
use Rattle.luau_grammar.specs.ReadStatements.{Statements, another_statement, block_inside, goes_statements}
use Rattle.luau_grammar.specs.Reading.{strictly, pure}
use Rattle.luau_grammar.specs.ReadModules.{readers}
use Rattle.phrase_reader.specs.Outcomes.{place_of}
use Rattle.phrase_reader.proofs.Repeats.{Remains}
use Rattle.stat_reader.proofs.reader.Stats.block_inside.Given as goal

-- what is left to read gives the whole
abbrev pub invariant-loop-tokens : goal.invariant-loop-tokens
invariant-loop-tokens g l =
    Remains Statements Block (strictly l.self.grammar.now.text.now) (goes_statements (strictly l.self.grammar.now.text.now) (readers (strictly l.self.grammar.now.text.now) l.self.grammar.now.depth)) (another_statement (strictly l.self.grammar.now.text.now) (readers (strictly l.self.grammar.now.text.now) l.self.grammar.now.depth)) (λ all. pure (stats all.found)) l.turns (seen_statements l.given) (place_of l.tokens)
    (block_inside (strictly l.self.grammar.now.text.now) (readers (strictly l.self.grammar.now.text.now) l.self.grammar.now.depth) (place_of l.fn.tokens))

abbrev pub decreases-loop-tokens : goal.decreases-loop-tokens
decreases-loop-tokens g l = l.turns
