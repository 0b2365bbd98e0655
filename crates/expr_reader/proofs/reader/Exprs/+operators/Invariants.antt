use Rattle.std.proofs.Common.{◌+◌, ◌*◌}
use Rattle.std.specs.Prelude.{is_some}
use Rattle.luau_tree.specs.Tree.{Expr}
use Rattle.luau_tree.specs.View.{view_expr}
use Rattle.luau_grammar.specs.ReadExpressions.{tighter, climb_step, climb_from, operation}
use Rattle.luau_grammar.specs.Reading.{strictly, pure}
use Rattle.luau_grammar.specs.ReadModules.{readers}
use Rattle.phrase_reader.specs.Outcomes.{place_of}
use Rattle.phrase_reader.proofs.Repeats.{Remains}
use Rattle.expr_reader.proofs.reader.Exprs.+operators.Given as goal

abbrev pub decreases-operation : goal.decreases-operation
decreases-operation g l = 4 * l.turns

abbrev pub decreases-unary : goal.decreases-unary
decreases-unary g l = 4 * l.turns + 1

abbrev pub decreases-binary : goal.decreases-binary
decreases-binary g l = 4 * l.turns + 1

abbrev pub decreases-operand : goal.decreases-operand
decreases-operand g l = 4 * l.turns + 2

abbrev pub decreases-climb_step : goal.decreases-climb_step
decreases-climb_step g l = 4 * l.turns + 2

abbrev pub decreases-climb_from : goal.decreases-climb_from
decreases-climb_from g l = 4 * l.turns + 3

-- what is left to read gives the whole
abbrev pub invariant-climb_from-loop-tokens : goal.invariant-climb_from-loop-tokens
invariant-climb_from-loop-tokens g l =
    Remains Expr Expr (strictly l.self.grammar.now.text.now) (λ _ p. is_some (tighter l.least p)) (climb_step (strictly l.self.grammar.now.text.now) (readers (strictly l.self.grammar.now.text.now) l.self.grammar.now.depth) (operation (strictly l.self.grammar.now.text.now) (readers (strictly l.self.grammar.now.text.now) l.self.grammar.now.depth) l.turns) l.from) (λ x. pure x) l.steps (view_expr l.e) (place_of l.tokens)
    (climb_from (strictly l.self.grammar.now.text.now) (readers (strictly l.self.grammar.now.text.now) l.self.grammar.now.depth) (operation (strictly l.self.grammar.now.text.now) (readers (strictly l.self.grammar.now.text.now) l.self.grammar.now.depth) l.turns) l.least l.from (view_expr l.fn.first) (place_of l.fn.tokens))

abbrev pub decreases-climb_from-loop-tokens : goal.decreases-climb_from-loop-tokens
decreases-climb_from-loop-tokens g l = l.steps
