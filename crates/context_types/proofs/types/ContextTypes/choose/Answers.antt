use Rattle.std.proofs.Common.{sym, ap, ◌∙◌, subst}
use Rattle.luau_tree.specs.View.{view_expr}
use Rattle.report_work.specs.Moves.{zipped}
use Rattle.context_types.specs.Lists.{way_context}
use Rattle.context_types.specs.Standing.{StandsContext}
use Rattle.context_types.specs.Types.{context_in}
use Rattle.context_types.proofs.GrowFacts.{context_on, context_stays, all_contexts_on, contexts_stay}
use Rattle.context_types.proofs.ListFacts.{first_meant, first_stands, nothing_stands}
use Rattle.context_types.proofs.types.ContextTypes.choose.Goals as goal

pub decide_each-requires-clause-first : goal.decide_each-requires-clause-first
decide_each-requires-clause-first c =
    context_on {s = c.args.self.now} {t = c.guard.new.self} {context = c.in_ok-first.first} c.guard.ensures.grows
    (subst (StandsContext c.args.self.now) (sym c.in_ok-first.ensures) (first_stands c.args.self.now c.args.firsts.now (nothing_stands c.args.self.now) c.requires.firsts))

pub decide_each-requires-clause-left : goal.decide_each-requires-clause-left
decide_each-requires-clause-left c = all_contexts_on {s = c.args.self.now} {t = c.guard.new.self} c.args.a.now c.guard.ensures.grows c.requires.left

pub decide_each-requires-clause-right : goal.decide_each-requires-clause-right
decide_each-requires-clause-right c = all_contexts_on {s = c.args.self.now} {t = c.guard.new.self} c.args.b.now c.guard.ensures.grows c.requires.right

pub returns-clause-contexts : goal.returns-clause-contexts
returns-clause-contexts c rules reads =
    let stands = subst (StandsContext c.args.self.now) (sym c.in_ok-first.ensures) (first_stands c.args.self.now c.args.firsts.now (nothing_stands c.args.self.now) c.requires.firsts) in
    let first = context_stays {s = c.args.self.now} {t = c.guard.new.self} {context = c.in_ok-first.first} c.guard.ensures.grows stands ∙ (ap (context_in c.args.self.now) c.in_ok-first.ensures ∙ first_meant c.args.self.now c.args.firsts.now) in
    let a = contexts_stay {s = c.args.self.now} {t = c.guard.new.self} c.args.a.now c.guard.ensures.grows c.requires.left in
    let b = contexts_stay {s = c.args.self.now} {t = c.guard.new.self} c.args.b.now c.guard.ensures.grows c.requires.right in
    c.in_ok-made.ensures.contexts rules (view_expr c.args.cond.now) (c.in_ok-guard.ensures.says rules reads)
    ∙ (λ i. zipped (way_context c.args.way rules (view_expr c.args.cond.now) c.args.has_effects (first i)) (a i) (b i))
