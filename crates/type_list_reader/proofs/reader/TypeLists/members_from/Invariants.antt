use Rattle.type_list_reader.specs.SeenMembers.{seen_members}
use Rattle.luau_grammar.specs.Reading.{strictly, pure}
use Rattle.luau_grammar.specs.ReadModules.{readers}
use Rattle.luau_grammar.specs.ReadTypes as written
use Rattle.phrase_reader.specs.Outcomes.{place_of}
use Rattle.phrase_reader.proofs.Repeats.{Remains}
use Rattle.type_list_reader.proofs.reader.TypeLists.members_from.Given as goal

-- what is left to read gives the whole
abbrev pub invariant-loop-tokens : goal.invariant-loop-tokens
invariant-loop-tokens g l =
    Remains written.Members written.Members (strictly l.self.grammar.now.text.now) written.goes_members (written.another_member (strictly l.self.grammar.now.text.now) (readers (strictly l.self.grammar.now.text.now) l.self.grammar.now.depth)) (λ x. pure x) l.turns (seen_members l.found) (place_of l.tokens)
    (written.members_from (strictly l.self.grammar.now.text.now) (readers (strictly l.self.grammar.now.text.now) l.self.grammar.now.depth) (seen_members l.fn.given) (place_of l.fn.tokens))

abbrev pub decreases-loop-tokens : goal.decreases-loop-tokens
decreases-loop-tokens g l = l.turns
