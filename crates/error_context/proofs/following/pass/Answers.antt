use Rattle.std.proofs.Common.{Bool, ap, sym, ◌∙◌, if◌then◌else◌}
use Rattle.type_normal.specs.Growing.{given_refs}
use Rattle.type_normal.proofs.AddsFacts.{ok_more}
use Rattle.type_ops.proofs.GrowFacts.{adds_nothing}
use Rattle.report_rules.specs.Context.{stripped}
use Rattle.error_context.specs.Entries.{context_of, refs_in}
use Rattle.error_context.proofs.OpFacts.{itself_clean}
use Rattle.error_context.proofs.following.pass.Goals as goal

pub returns-then-has_effects-clause-sets : goal.returns-then-has_effects-clause-sets
returns-then-has_effects-clause-sets c =
    ok_more c.strip_all.result _ _ c.strip_all.ensures.sets
    (λ made sets local. sets local
    ∙ ap (λ (b : Bool). (if b then stripped (context_of c.args.arena.now c.args.a.entries) else context_of c.args.arena.now c.args.a.entries) local) (sym c.if-has_effects.true))

pub returns-clause-sets : goal.returns-clause-sets
returns-clause-sets c local =
    ap (λ (b : Bool). (if b then stripped (context_of c.args.arena.now c.args.a.entries) else context_of c.args.arena.now c.args.a.entries) local) (sym c.if-has_effects.false)

pub returns-clause-clean : goal.returns-clause-clean
returns-clause-clean c = itself_clean c.args.arena.now c.args.a.entries c.requires

pub returns-clause-adds : goal.returns-clause-adds
returns-clause-adds c = adds_nothing c.args.arena.now (given_refs (refs_in c.args.a.entries))
