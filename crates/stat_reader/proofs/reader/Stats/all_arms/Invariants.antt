use Rattle.std.specs.Prelude.{List, map}
use Rattle.luau_tree.specs.Tree.{Expr, Block, Arms}
use Rattle.luau_tree.specs.View.{arms, view_arm}
use Rattle.luau_grammar.specs.declared.symbol.Symbol.TheVariants as s
use Rattle.luau_grammar.specs.Places.{sees}
use Rattle.luau_grammar.specs.ReadStatements.{another_arm, all_arms}
use Rattle.luau_grammar.specs.Reading.{strictly, pure}
use Rattle.luau_grammar.specs.ReadModules.{readers}
use Rattle.phrase_reader.specs.Outcomes.{place_of}
use Rattle.phrase_reader.proofs.Repeats.{Remains}
use Rattle.stat_reader.proofs.reader.Stats.all_arms.Given as goal

-- what is left to read gives the whole
abbrev pub invariant-loop-found : goal.invariant-loop-found
invariant-loop-found g l =
    Remains (List (Expr × Block)) Arms (strictly l.self.grammar.now.text.now) (λ _ p. sees s.ElseIf p) (another_arm (strictly l.self.grammar.now.text.now) (readers (strictly l.self.grammar.now.text.now) l.self.grammar.now.depth)) (λ found. pure (arms found)) l.turns (map view_arm l.found) (place_of l.tokens)
    (all_arms (strictly l.self.grammar.now.text.now) (readers (strictly l.self.grammar.now.text.now) l.self.grammar.now.depth) (place_of l.fn.tokens))

abbrev pub decreases-loop-found : goal.decreases-loop-found
decreases-loop-found g l = l.turns
