use Rattle.std.proofs.Common.{◌-◌, sym, ◌∙◌, ap, arith}
use Rattle.std.specs.Prelude.{Err}
use Rattle.luau_grammar.specs.Reading.{strictly}
use Rattle.phrase_reader.specs.Outcomes.{place_of, maybe_listed}
use Rattle.module_reader.proofs.Depths.{no_expression, no_type, no_block, an_expression, a_type, a_block}
use Rattle.module_reader.proofs.module.+phrases.Goals as goal

pub expression_at-returns-then-depth-eq0 : goal.expression_at-returns-then-depth-eq0
expression_at-returns-then-depth-eq0 t c _ =
    no_expression (strictly c.args.text.now) c.args.depth (place_of c.args.tokens.now) c.if-depth-eq0.true ∙ ap Err (sym c.deep_refusal.ensures)

pub expression_at-returns : goal.expression_at-returns
expression_at-returns t c =
    rw (an_expression (strictly c.args.text.now) c.args.depth (c.args.depth - 1) (place_of c.args.tokens.now) (omega arith)) c.expression_inside.ensures

pub type_at-returns-then-depth-eq0 : goal.type_at-returns-then-depth-eq0
type_at-returns-then-depth-eq0 t c _ =
    no_type (strictly c.args.text.now) c.args.depth (maybe_listed c.args.begun) (place_of c.args.tokens.now) c.if-depth-eq0.true ∙ ap Err (sym c.deep_refusal.ensures)

pub type_at-returns : goal.type_at-returns
type_at-returns t c =
    rw (a_type (strictly c.args.text.now) c.args.depth (c.args.depth - 1) (maybe_listed c.args.begun) (place_of c.args.tokens.now) (omega arith)) c.type_inside.ensures

pub block_at-returns-then-depth-eq0 : goal.block_at-returns-then-depth-eq0
block_at-returns-then-depth-eq0 t c =
    rw (no_block (strictly c.args.text.now) c.args.depth (place_of c.args.tokens.now) c.if-depth-eq0.true) c.shallow_block.ensures

pub block_at-returns : goal.block_at-returns
block_at-returns t c =
    rw (a_block (strictly c.args.text.now) c.args.depth (c.args.depth - 1) (place_of c.args.tokens.now) (omega arith)) c.block_inside.ensures
