use Rattle.std.proofs.Common.{◌∷◌, [], ap, sym}
use Rattle.type_arena.specs.Arena.{store_of}
use Rattle.type_arena.specs.Meaning.{term_of}
use Rattle.type_lower.specs.Joined.{joined}
use Rattle.type_lower.specs.declared.choosing.Choice.{Choice}
use Rattle.type_lower.proofs.MadeFacts.{call_made, cut_made, cut_err}
use Rattle.type_lower.proofs.choosing.join.Goals as goal

pub returns-in_ok-at-in-Either-clause-made : goal.returns-in_ok-at-in-Either-clause-made
returns-in_ok-at-in-Either-clause-made c =
    cut_made c.cut.result c.args.arena.now c.union.new.arena c.cut.new.arena (c.args.a ∷ c.args.b ∷ []) c.in_ok-at-in-Either.at _ _
    (call_made c.args.arena.now c.union.new.arena (c.args.a ∷ c.args.b ∷ []) c.in_ok-at-in-Either.at _ c.in_ok-at-in-Either.ensures.term c.in_ok-at-in-Either.ensures.there c.in_ok-at-in-Either.ensures.adds c.in_ok-at-in-Either.ensures.clean)
    c.cut.ensures.made (sym (ap (λ (choice : Choice). joined choice (term_of (store_of c.args.arena.now) c.args.a) (term_of (store_of c.args.arena.now) c.args.b)) c.in-Either.is))

pub returns-in_ok-at-in-Either-clause-err : goal.returns-in_ok-at-in-Either-clause-err
returns-in_ok-at-in-Either-clause-err c =
    cut_err c.cut.result c.args.arena.now c.union.new.arena c.cut.new.arena (c.args.a ∷ c.args.b ∷ []) c.in_ok-at-in-Either.at _
    (call_made c.args.arena.now c.union.new.arena (c.args.a ∷ c.args.b ∷ []) c.in_ok-at-in-Either.at _ c.in_ok-at-in-Either.ensures.term c.in_ok-at-in-Either.ensures.there c.in_ok-at-in-Either.ensures.adds c.in_ok-at-in-Either.ensures.clean)
    c.cut.ensures.err

pub returns-in_ok-at-in-Both-clause-made : goal.returns-in_ok-at-in-Both-clause-made
returns-in_ok-at-in-Both-clause-made c =
    cut_made c.cut-in-Both.result c.args.arena.now c.meet.new.arena c.cut-in-Both.new.arena (c.args.a ∷ c.args.b ∷ []) c.in_ok-at-in-Both.at _ _
    (call_made c.args.arena.now c.meet.new.arena (c.args.a ∷ c.args.b ∷ []) c.in_ok-at-in-Both.at _ c.in_ok-at-in-Both.ensures.term c.in_ok-at-in-Both.ensures.there c.in_ok-at-in-Both.ensures.adds c.in_ok-at-in-Both.ensures.clean)
    c.cut-in-Both.ensures.made (sym (ap (λ (choice : Choice). joined choice (term_of (store_of c.args.arena.now) c.args.a) (term_of (store_of c.args.arena.now) c.args.b)) c.in-Both.is))

pub returns-in_ok-at-in-Both-clause-err : goal.returns-in_ok-at-in-Both-clause-err
returns-in_ok-at-in-Both-clause-err c =
    cut_err c.cut-in-Both.result c.args.arena.now c.meet.new.arena c.cut-in-Both.new.arena (c.args.a ∷ c.args.b ∷ []) c.in_ok-at-in-Both.at _
    (call_made c.args.arena.now c.meet.new.arena (c.args.a ∷ c.args.b ∷ []) c.in_ok-at-in-Both.at _ c.in_ok-at-in-Both.ensures.term c.in_ok-at-in-Both.ensures.there c.in_ok-at-in-Both.ensures.adds c.in_ok-at-in-Both.ensures.clean)
    c.cut-in-Both.ensures.err
