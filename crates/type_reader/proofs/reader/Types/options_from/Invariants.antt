use Rattle.std.specs.Prelude.{List, map}
use Rattle.luau_tree.specs.Tree.{TypeSyntax}
use Rattle.luau_tree.specs.View.{view_type}
use Rattle.luau_grammar.specs.Reading.{strictly, pure}
use Rattle.luau_grammar.specs.ReadModules.{readers}
use Rattle.luau_grammar.specs.ReadTypes as written
use Rattle.phrase_reader.specs.Outcomes.{place_of}
use Rattle.phrase_reader.proofs.Repeats.{Remains}
use Rattle.type_reader.proofs.reader.Types.options_from.Given as goal

-- what is left to read gives the whole
abbrev pub invariant-loop-sign : goal.invariant-loop-sign
invariant-loop-sign g l =
    Remains (List TypeSyntax) (List TypeSyntax) (strictly l.self.grammar.now.text.now) (written.goes_options l.sign) (written.another_option (strictly l.self.grammar.now.text.now) (readers (strictly l.self.grammar.now.text.now) l.self.grammar.now.depth) l.sign) (λ x. pure x) l.turns (map view_type l.found) (place_of l.tokens)
    (written.options_from (strictly l.self.grammar.now.text.now) (readers (strictly l.self.grammar.now.text.now) l.self.grammar.now.depth) l.sign (map view_type l.fn.given) (place_of l.fn.tokens))

abbrev pub decreases-loop-sign : goal.decreases-loop-sign
decreases-loop-sign g l = l.turns
