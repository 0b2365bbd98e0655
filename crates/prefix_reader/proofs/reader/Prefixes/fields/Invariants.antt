use Rattle.luau_tree.specs.Tree.{Item, Items}
use Rattle.luau_tree.specs.View.{items}
use Rattle.prefix_reader.specs.SeenFields.{seen_fields}
use Rattle.luau_grammar.specs.ReadTypes.{Braced, one_braced}
use Rattle.std.specs.Prelude.{◌&&◌, not}
use Rattle.luau_grammar.specs.declared.symbol.Symbol.TheVariants as s
use Rattle.luau_grammar.specs.Places.{sees}
use Rattle.luau_grammar.specs.ReadExpressions.{fields, item}
use Rattle.luau_grammar.specs.Reading.{strictly, pure}
use Rattle.luau_grammar.specs.ReadModules.{readers}
use Rattle.phrase_reader.specs.Outcomes.{place_of}
use Rattle.phrase_reader.proofs.Repeats.{Remains}
use Rattle.prefix_reader.proofs.reader.Prefixes.fields.Given as goal

-- what is left to read gives the whole
abbrev pub invariant-loop-tokens : goal.invariant-loop-tokens
invariant-loop-tokens g l =
    Remains (Braced Item) Items (strictly l.self.grammar.now.text.now) (λ given p. given.open_ended && not (sees s.RightBrace p)) (one_braced (strictly l.self.grammar.now.text.now) (item (strictly l.self.grammar.now.text.now) (readers (strictly l.self.grammar.now.text.now) l.self.grammar.now.depth))) (λ found. pure (items found.items)) l.turns (seen_fields l.given) (place_of l.tokens)
    (fields (strictly l.self.grammar.now.text.now) (readers (strictly l.self.grammar.now.text.now) l.self.grammar.now.depth) (place_of l.fn.tokens))

abbrev pub decreases-loop-tokens : goal.decreases-loop-tokens
decreases-loop-tokens g l = l.turns
