use Rattle.luau_tree.specs.Tree.{Prop}
use Rattle.luau_grammar.specs.Reading.{repeat}
use Rattle.type_reader.specs.SeenProperties.{seen_properties}
use Rattle.luau_grammar.specs.Reading.{strictly, pure}
use Rattle.luau_grammar.specs.ReadModules.{readers}
use Rattle.luau_grammar.specs.ReadTypes as written
use Rattle.phrase_reader.specs.Outcomes.{place_of}
use Rattle.phrase_reader.proofs.Repeats.{Remains}
use Rattle.type_reader.proofs.reader.Types.properties_from.Given as goal

-- what is left to read gives the whole
abbrev pub invariant-loop-tokens : goal.invariant-loop-tokens
invariant-loop-tokens g l =
    Remains (written.Braced Prop) (written.Braced Prop) (strictly l.self.grammar.now.text.now) written.goes_braced (written.one_braced (strictly l.self.grammar.now.text.now) (written.property (strictly l.self.grammar.now.text.now) (readers (strictly l.self.grammar.now.text.now) l.self.grammar.now.depth))) (λ x. pure x) l.turns (seen_properties l.found) (place_of l.tokens)
    (repeat (strictly l.self.grammar.now.text.now) written.goes_braced (written.one_braced (strictly l.self.grammar.now.text.now) (written.property (strictly l.self.grammar.now.text.now) (readers (strictly l.self.grammar.now.text.now) l.self.grammar.now.depth))) (seen_properties l.fn.given) (place_of l.fn.tokens))

abbrev pub decreases-loop-tokens : goal.decreases-loop-tokens
decreases-loop-tokens g l = l.turns
