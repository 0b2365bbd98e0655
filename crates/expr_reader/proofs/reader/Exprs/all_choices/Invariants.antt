use Rattle.std.specs.Prelude.{List, map}
use Rattle.luau_tree.specs.Tree.{Expr, Choices}
use Rattle.luau_tree.specs.View.{choices, view_choice}
use Rattle.luau_grammar.specs.declared.symbol.Symbol.TheVariants as s
use Rattle.luau_grammar.specs.Places.{sees}
use Rattle.luau_grammar.specs.ReadExpressions.{another_choice, all_choices}
use Rattle.luau_grammar.specs.Reading.{strictly, pure}
use Rattle.luau_grammar.specs.ReadModules.{readers}
use Rattle.phrase_reader.specs.Outcomes.{place_of}
use Rattle.phrase_reader.proofs.Repeats.{Remains}
use Rattle.expr_reader.proofs.reader.Exprs.all_choices.Given as goal

-- what is left to read gives the whole
abbrev pub invariant-loop-found : goal.invariant-loop-found
invariant-loop-found g l =
    Remains (List (Expr × Expr)) Choices (strictly l.self.grammar.now.text.now) (λ _ p. sees s.ElseIf p) (another_choice (strictly l.self.grammar.now.text.now) (readers (strictly l.self.grammar.now.text.now) l.self.grammar.now.depth)) (λ found. pure (choices found)) l.turns (map view_choice l.found) (place_of l.tokens)
    (all_choices (strictly l.self.grammar.now.text.now) (readers (strictly l.self.grammar.now.text.now) l.self.grammar.now.depth) (place_of l.fn.tokens))

abbrev pub decreases-loop-found : goal.decreases-loop-found
decreases-loop-found g l = l.turns
