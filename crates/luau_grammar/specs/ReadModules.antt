-- The parser of a module that the code computes.
use Rattle.std.specs.Prelude.{ℕ, zero, suc, Ok, Err, if◌then◌else◌}
use Rattle.luau_tree.specs.Tree.{Block, no_stats}
use Rattle.luau_grammar.specs.declared.symbol.Symbol.TheVariants as s
use Rattle.luau_grammar.specs.Places.{sees}
use Rattle.luau_grammar.specs.Reading as read
use Rattle.luau_grammar.specs.Reading.{Setting, Parser, Readers, ◌>>=◌, ◌>>◌, pure}
use Rattle.luau_grammar.specs.ReadPhrases as phrases
use Rattle.luau_grammar.specs.ReadTypes.{type_inside}
use Rattle.luau_grammar.specs.ReadExpressions.{expression_inside}
use Rattle.luau_grammar.specs.ReadStatements.{block_inside}

module _ (set : Setting) where
  -- no phrases, but for a block of no statements
  unfoldable pub too_deep : Readers
  too_deep = record {
    exp = λ p. Err (read.deep_refusal set p);
    typ = λ begun p. Err (read.deep_refusal set p);
    block = λ p. if phrases.may_begin_block p then Err (read.deep_refusal set p) else Ok (no_stats, p);
  }

  -- the parsers of phrases that hold one another at most so many deep
  unfoldable pub readers : ℕ → Readers
  readers zero = too_deep
  readers (suc deep) = record {
    exp = expression_inside set (readers deep);
    typ = type_inside set (readers deep);
    block = block_inside set (readers deep);
  }

  unfoldable pub module_with : ℕ → Parser Block
  module_with deep = do
    b ← phrases.block set (readers deep)
    (λ p. if sees s.Stop p then Ok (b, p) else read.refuse set p)

-- deep enough for each text without a token at a level above 200
abbrev pub max_depth : ℕ
max_depth = 202
