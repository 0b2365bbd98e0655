use Rattle.luau_tree.specs.Tree.{Expr}
use Rattle.luau_tree.specs.View.{view_expr}
use Rattle.luau_grammar.specs.Expressions.{begins_suffix}
use Rattle.luau_grammar.specs.ReadExpressions.{prefix, suffix}
use Rattle.luau_grammar.specs.Reading.{strictly, pure}
use Rattle.luau_grammar.specs.ReadModules.{readers}
use Rattle.phrase_reader.specs.Outcomes.{place_of}
use Rattle.phrase_reader.proofs.Repeats.{Remains}
use Rattle.prefix_reader.proofs.reader.Prefixes.prefix.Given as goal

-- what is left to read gives the whole
abbrev pub invariant-loop-tokens : goal.invariant-loop-tokens
invariant-loop-tokens g l =
    Remains Expr Expr (strictly l.self.grammar.now.text.now) (λ _ p. begins_suffix p) (suffix (strictly l.self.grammar.now.text.now) (readers (strictly l.self.grammar.now.text.now) l.self.grammar.now.depth) l.from) (λ x. pure x) l.turns (view_expr l.e) (place_of l.tokens)
    (prefix (strictly l.self.grammar.now.text.now) (readers (strictly l.self.grammar.now.text.now) l.self.grammar.now.depth) (place_of l.fn.tokens))

abbrev pub decreases-loop-tokens : goal.decreases-loop-tokens
decreases-loop-tokens g l = l.turns
