use Rattle.std.proofs.Common.{ap, ◌∙◌, []}
use Rattle.type_normal.specs.Holds.{holds}
use Rattle.type_normal.proofs.TypeTermFacts.{normal_holds}
use Rattle.type_ops.proofs.GrowFacts.{adds_clean}
use Rattle.type_terms.specs.Literals.{named_in}
use Rattle.type_terms.specs.View.{view_term}
use Rattle.type_terms.proofs.forms.normal.Goals as goal

pub returns-clause-values : goal.returns-clause-values
returns-clause-values c proper h v = ap (holds h v) c.in_ok-at.ensures.made.means ∙ normal_holds h v (view_term c.args.term.now) proper

pub returns-clause-adds : goal.returns-clause-adds
returns-clause-adds c = adds_clean c.args.arena.now c.normal_at.new.arena (named_in (view_term c.args.term.now)) [] c.in_ok-at.at c.in_ok-at.ensures.adds c.in_ok-at.ensures.made.clean
