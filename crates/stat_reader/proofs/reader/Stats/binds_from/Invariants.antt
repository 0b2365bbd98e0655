use Rattle.std.specs.Prelude.{List, map, ◌∷◌, []}
use Rattle.luau_tree.specs.Tree.{Bind}
use Rattle.luau_tree.specs.View.{view_bind}
use Rattle.luau_grammar.specs.declared.symbol.Symbol.TheVariants as s
use Rattle.luau_grammar.specs.Places.{sees}
use Rattle.luau_grammar.specs.Reading.{another, separated_from}
use Rattle.luau_grammar.specs.ReadExpressions.{bind}
use Rattle.luau_grammar.specs.Reading.{strictly, pure}
use Rattle.luau_grammar.specs.ReadModules.{readers}
use Rattle.phrase_reader.specs.Outcomes.{place_of}
use Rattle.phrase_reader.proofs.Repeats.{Remains}
use Rattle.stat_reader.proofs.reader.Stats.binds_from.Given as goal

-- what is left to read gives the whole
abbrev pub invariant-loop-found : goal.invariant-loop-found
invariant-loop-found g l =
    Remains (List Bind) (List Bind) (strictly l.self.grammar.now.text.now) (λ _ p. sees s.Comma p) (another (strictly l.self.grammar.now.text.now) (bind (strictly l.self.grammar.now.text.now) (readers (strictly l.self.grammar.now.text.now) l.self.grammar.now.depth))) (λ x. pure x) l.turns (map view_bind l.found) (place_of l.tokens)
    (separated_from (strictly l.self.grammar.now.text.now) (bind (strictly l.self.grammar.now.text.now) (readers (strictly l.self.grammar.now.text.now) l.self.grammar.now.depth)) (view_bind l.fn.first ∷ []) (place_of l.fn.tokens))

abbrev pub decreases-loop-found : goal.decreases-loop-found
decreases-loop-found g l = l.turns
