use Rattle.std.proofs.Common.{sym, ◌∙◌}
use Rattle.type_arena.specs.Meaning.{term_of}
use Rattle.subtype_check.proofs.BelowFacts.{below_includes}
use Rattle.subtype_memory.proofs.memory.Remembered.below.Goals as goal

pub returns-clause-includes : goal.returns-clause-includes
returns-clause-includes g c normal said h v held =
    below_includes h v (term_of (g.N.Nodes.arenas c.args.nodes.now) c.args.a) (term_of (g.N.Nodes.arenas c.args.nodes.now) c.args.b) (sym (c.in_ok-answer.ensures.answer normal) ∙ said) held
