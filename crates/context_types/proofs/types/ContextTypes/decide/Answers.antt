use Rattle.std.proofs.Common.{sym, subst, ◌∙◌}
use Rattle.type_normal.proofs.AddsFacts.{ok_more}
use Rattle.context_types.specs.Standing.{StandsContext}
use Rattle.context_types.specs.declared.deciding.Way.TheVariants.{And, Or, Choice}
use Rattle.context_types.proofs.DecideFacts.{same_way}
use Rattle.context_types.proofs.types.ContextTypes.decide.Goals as goal

pub decide_and-requires-clause-first : goal.decide_and-requires-clause-first
decide_and-requires-clause-first c = subst (StandsContext c.args.self.now) (sym c.in_ok-first.ensures) c.requires.first

pub decide_and-requires-clause-right : goal.decide_and-requires-clause-right
decide_and-requires-clause-right c = subst (StandsContext c.args.self.now) (sym c.in_ok-a.ensures) c.requires.left

pub decide_and-requires-clause-left : goal.decide_and-requires-clause-left
decide_and-requires-clause-left c = subst (StandsContext c.args.self.now) (sym c.in_ok-b.ensures) c.requires.right

pub returns-in-And-clause-context : goal.returns-in-And-clause-context
returns-in-And-clause-context c =
    ok_more c.decide_and.result _ _ c.decide_and.ensures.context
    (λ made is rules cond says. is rules cond says
    ∙ same_way c.args.self.now c.args.way And rules cond c.args.has_effects c.args.first.now c.in_ok-first.first c.args.a.now c.in_ok-a.a c.args.b.now c.in_ok-b.b c.in-And.is c.in_ok-first.ensures c.in_ok-a.ensures c.in_ok-b.ensures)

pub decide_or-requires-clause-first : goal.decide_or-requires-clause-first
decide_or-requires-clause-first c = subst (StandsContext c.args.self.now) (sym c.in_ok-first.ensures) c.requires.first

pub decide_or-requires-clause-right : goal.decide_or-requires-clause-right
decide_or-requires-clause-right c = subst (StandsContext c.args.self.now) (sym c.in_ok-a.ensures) c.requires.left

pub decide_or-requires-clause-left : goal.decide_or-requires-clause-left
decide_or-requires-clause-left c = subst (StandsContext c.args.self.now) (sym c.in_ok-b.ensures) c.requires.right

pub returns-in-Or-clause-context : goal.returns-in-Or-clause-context
returns-in-Or-clause-context c =
    ok_more c.decide_or.result _ _ c.decide_or.ensures.context
    (λ made is rules cond says. is rules cond says
    ∙ same_way c.args.self.now c.args.way Or rules cond c.args.has_effects c.args.first.now c.in_ok-first.first c.args.a.now c.in_ok-a.a c.args.b.now c.in_ok-b.b c.in-Or.is c.in_ok-first.ensures c.in_ok-a.ensures c.in_ok-b.ensures)

pub decide_choice-requires-clause-first : goal.decide_choice-requires-clause-first
decide_choice-requires-clause-first c = subst (StandsContext c.args.self.now) (sym c.in_ok-first.ensures) c.requires.first

pub decide_choice-requires-clause-value : goal.decide_choice-requires-clause-value
decide_choice-requires-clause-value c = subst (StandsContext c.args.self.now) (sym c.in_ok-a.ensures) c.requires.left

pub decide_choice-requires-clause-rest : goal.decide_choice-requires-clause-rest
decide_choice-requires-clause-rest c = subst (StandsContext c.args.self.now) (sym c.in_ok-b.ensures) c.requires.right

pub returns-in-Choice-clause-context : goal.returns-in-Choice-clause-context
returns-in-Choice-clause-context c =
    ok_more c.decide_choice.result _ _ c.decide_choice.ensures.context
    (λ made is rules cond says. is rules cond says
    ∙ same_way c.args.self.now c.args.way Choice rules cond c.args.has_effects c.args.first.now c.in_ok-first.first c.args.a.now c.in_ok-a.a c.args.b.now c.in_ok-b.b c.in-Choice.is c.in_ok-first.ensures c.in_ok-a.ensures c.in_ok-b.ensures)
