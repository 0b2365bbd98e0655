use Rattle.luau_tree.specs.Tree.{Expr}
use Rattle.luau_tree.specs.View.{view_expr}
use Rattle.luau_grammar.specs.declared.symbol.Symbol.TheVariants as s
use Rattle.luau_grammar.specs.Places.{sees}
use Rattle.luau_grammar.specs.ReadExpressions.{index}
use Rattle.luau_grammar.specs.ReadStatements.{path}
use Rattle.luau_grammar.specs.Reading.{strictly, pure}
use Rattle.luau_grammar.specs.ReadModules.{readers}
use Rattle.phrase_reader.specs.Outcomes.{place_of}
use Rattle.phrase_reader.proofs.Repeats.{Remains}
use Rattle.stat_reader.proofs.reader.Stats.path.Given as goal

-- what is left to read gives the whole
abbrev pub invariant-loop-prefixes : goal.invariant-loop-prefixes
invariant-loop-prefixes g l =
    Remains Expr Expr (strictly l.self.grammar.now.text.now) (λ _ p. sees s.Dot p) (index (strictly l.self.grammar.now.text.now) (readers (strictly l.self.grammar.now.text.now) l.self.grammar.now.depth) l.from) (λ x. pure x) l.turns (view_expr l.e) (place_of l.tokens)
    (path (strictly l.self.grammar.now.text.now) (readers (strictly l.self.grammar.now.text.now) l.self.grammar.now.depth) (place_of l.fn.tokens))

abbrev pub decreases-loop-prefixes : goal.decreases-loop-prefixes
decreases-loop-prefixes g l = l.turns
