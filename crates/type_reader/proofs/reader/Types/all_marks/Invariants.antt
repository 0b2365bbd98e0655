use Rattle.luau_tree.specs.Tree.{TypeSyntax}
use Rattle.luau_tree.specs.View.{view_type}
use Rattle.luau_grammar.specs.Reading.{strictly, pure}
use Rattle.luau_grammar.specs.ReadModules.{readers}
use Rattle.luau_grammar.specs.ReadTypes as written
use Rattle.phrase_reader.specs.Outcomes.{place_of}
use Rattle.phrase_reader.proofs.Repeats.{Remains}
use Rattle.type_reader.proofs.reader.Types.all_marks.Given as goal

-- what is left to read gives the whole
abbrev pub invariant-loop-tokens : goal.invariant-loop-tokens
invariant-loop-tokens g l =
    Remains TypeSyntax TypeSyntax (strictly l.self.grammar.now.text.now) written.goes_marks (written.mark (strictly l.self.grammar.now.text.now) (readers (strictly l.self.grammar.now.text.now) l.self.grammar.now.depth) l.from) (λ x. pure x) l.turns (view_type l.found) (place_of l.tokens)
    (written.all_marks (strictly l.self.grammar.now.text.now) (readers (strictly l.self.grammar.now.text.now) l.self.grammar.now.depth) l.from (view_type l.fn.t) (place_of l.fn.tokens))

abbrev pub decreases-loop-tokens : goal.decreases-loop-tokens
decreases-loop-tokens g l = l.turns
