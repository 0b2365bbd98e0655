use Rattle.std.proofs.Common.{◌+◌, ◌∷◌, [], refl, sym, ◌∙◌, arith}
use Rattle.type_arena.specs.Arena.{store_of}
use Rattle.type_arena.specs.Meaning.{term_of}
use Rattle.type_arena.specs.Term.{Term}
use Rattle.type_arena.proofs.EqLemmas.{ref_tested}
use Rattle.type_normal.specs.Cut.{cut_up}
use Rattle.type_normal.specs.Kinds.{nil_type}
use Rattle.type_normal.specs.Operations.{union}
use Rattle.type_normal.proofs.AddsFacts.{alone}
use Rattle.type_normal.specs.Growing.{given_refs}
use Rattle.type_ops.proofs.GrowFacts.{adds_nothing}
use Rattle.type_lower.proofs.JoinedFacts.{mark_more}
use Rattle.type_lower.proofs.MadeFacts.{as_type, given_made, one_made, one_adds, on_err}
use Rattle.type_lower.proofs.WalkFacts.{mark_fixed}
use Rattle.type_lower.proofs.choosing.with_marks.Goals as goal

pub loop-init : goal.loop-init
loop-init c = given_made c.args.arena.now c.args.arena.now (c.args.a ∷ []) c.args.a (adds_nothing c.args.arena.now (given_refs (c.args.a ∷ []))) c.requires (alone c.args.a)

pub returns-in_err-next-clause-err : goal.returns-in_err-next-clause-err
returns-in_err-next-clause-err c =
    on_err c.from_residual.result _
    (one_adds c.args.arena.now c.loop.arena c.or_nil.new.arena (c.args.a ∷ []) c.loop.at _ c.loop.invariant c.in_err-next.ensures.err)

pub returns-then-eq-clause-made : goal.returns-then-eq-clause-made
returns-then-eq-clause-made c =
    mark_fixed c.args.arena.now c.loop.arena c.or_nil.new.arena (c.args.a ∷ []) c.loop.at c.in_ok-next.next c.loop.counter c.args.marks (term_of (store_of c.args.arena.now) c.args.a)
    ((ref_tested c.in_ok-next.next c.loop.at).0 (sym c.eq.ensures ∙ c.if-eq.true)) c.loop.invariant c.in_ok-next.ensures.made (omega arith)

pub loop-preserved : goal.loop-preserved
loop-preserved c =
    as_type c.args.arena.now c.or_nil.new.arena (c.args.a ∷ []) c.in_ok-next.next _ _
    (one_made c.args.arena.now c.loop.arena c.or_nil.new.arena (c.args.a ∷ []) c.loop.at c.in_ok-next.next _ (λ (t : Term). cut_up (union t nil_type)) c.loop.invariant c.in_ok-next.ensures.made)
    (mark_more c.loop.counter (c.loop.counter + 1) (term_of (store_of c.args.arena.now) c.args.a) refl)
