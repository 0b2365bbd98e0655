use Rattle.std.proofs.Common.{sym, ◌∙◌, ap}
use Rattle.luau_tree.specs.View.{view_block}
use Rattle.luau_grammar.specs.Reading.{strictly}
use Rattle.luau_grammar.specs.ReadModules.{module_with, max_depth}
use Rattle.phrase_reader.specs.Outcomes.{place_of}
use Rattle.module_reader.proofs.WholeText.{ends}
use Rattle.module_reader.proofs.module.module_of.Goals as goal

pub returns-then-sees : goal.returns-then-sees
returns-then-sees c =
    let set = strictly c.args.text.now in (
      place_of c.block.new.tokens,
      ap (λ p. module_with set max_depth p) (sym c.new-place.ensures)
          ∙ ends set max_depth (place_of c.new-place.result) (place_of c.block.new.tokens) (view_block c.in_ok-block.block) c.in_ok-block.ensures (sym c.sees.ensures ∙ c.if-sees.true),
    )
