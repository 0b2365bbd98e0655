use Rattle.std.proofs.Common.{◌==◌, [], ◌∷◌, sym, ap, ◌∙◌, subst}
use Rattle.std.specs.Prelude.{All}
use Rattle.std.proofs.lemmas.List.Elements.{All-nil}
use Rattle.type_arena.specs.Arena.{store_of}
use Rattle.type_arena.specs.Meaning.{term_of}
use Rattle.type_normal.specs.Growing.{given_refs, IsClean}
use Rattle.type_ops.proofs.GrowFacts.{adds_nothing}
use Rattle.report_rules.specs.Rules.{loose}
use Rattle.error_context.specs.Entries.{Entries, context_of, refs_in, is_cut, IsContext}
use Rattle.error_context.proofs.GrowSteps.{adds_wider}
use Rattle.error_context.proofs.KeptFacts.{one_entry, one_context, one_refs, loose_only, firm_only}
use Rattle.error_context.proofs.TermFacts.{down_cut}
use Rattle.error_context.proofs.operations.only_for.Goals as goal

pub returns-then-is_loose-clause-sets : goal.returns-then-is_loose-clause-sets
returns-then-is_loose-clause-sets c rules e other =
    c.none-made.ensures.sets c.args.arena.now other
    ∙ loose_only (other == c.args.local.0) (loose rules c.args.local.0) (term_of (store_of c.args.arena.now) c.args.set) (e ∙ c.if-is_loose.true)

pub returns-then-is_loose-clause-context : goal.returns-then-is_loose-clause-context
returns-then-is_loose-clause-context c = c.none-made.ensures.context c.args.arena.now

pub returns-then-is_loose-clause-clean : goal.returns-then-is_loose-clause-clean
returns-then-is_loose-clause-clean c =
    subst (λ (es : Entries). All (IsClean c.args.arena.now c.args.arena.now (given_refs (c.args.set ∷ []))) (refs_in es)) (sym c.none-made.ensures.empty)
    (All-nil (IsClean c.args.arena.now c.args.arena.now (given_refs (c.args.set ∷ []))))

pub returns-then-is_loose-clause-adds : goal.returns-then-is_loose-clause-adds
returns-then-is_loose-clause-adds c = adds_nothing c.args.arena.now (given_refs (c.args.set ∷ []))

pub returns-clause-sets : goal.returns-clause-sets
returns-clause-sets c rules e other =
    ap (λ (es : Entries). context_of c.cut_down.new.arena es other) c.in_ok-entries.ensures
    ∙ one_entry c.cut_down.new.arena c.args.local c.in_ok-cut.cut other
    ∙ firm_only (other == c.args.local.0) (loose rules c.args.local.0) (term_of (store_of c.cut_down.new.arena) c.in_ok-cut.cut) (term_of (store_of c.args.arena.now) c.args.set)
    (e ∙ c.if-is_loose.false) c.in_ok-cut.ensures.term

pub returns-clause-context : goal.returns-clause-context
returns-clause-context c =
    subst (IsContext c.cut_down.new.arena) (sym c.in_ok-entries.ensures)
    (one_context c.cut_down.new.arena c.args.local c.in_ok-cut.cut c.in_ok-cut.ensures.there
    (ap is_cut c.in_ok-cut.ensures.term ∙ down_cut (term_of (store_of c.args.arena.now) c.args.set) c.requires.normal))

pub returns-clause-clean : goal.returns-clause-clean
returns-clause-clean c =
    subst (λ (es : Entries). All (IsClean c.args.arena.now c.cut_down.new.arena (given_refs (c.args.set ∷ []))) (refs_in es)) (sym c.in_ok-entries.ensures)
    (one_refs (IsClean c.args.arena.now c.cut_down.new.arena (given_refs (c.args.set ∷ []))) c.cut_down.new.arena c.args.local c.in_ok-cut.cut c.in_ok-cut.ensures.clean)

pub returns-clause-adds : goal.returns-clause-adds
returns-clause-adds c =
    adds_wider c.args.arena.now c.cut_down.new.arena (c.args.set ∷ []) (c.args.set ∷ []) (c.in_ok-cut.cut ∷ []) (λ at inside. inside) c.in_ok-cut.ensures.adds

pub returns-in_err-entries-clause-adds : goal.returns-in_err-entries-clause-adds
returns-in_err-entries-clause-adds c =
    adds_wider c.args.arena.now c.cut_down.new.arena (c.args.set ∷ []) (c.args.set ∷ []) (c.in_ok-cut.cut ∷ []) (λ at inside. inside) c.in_ok-cut.ensures.adds
