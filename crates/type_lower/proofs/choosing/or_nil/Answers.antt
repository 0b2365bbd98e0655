use Rattle.std.proofs.Common.{◌∷◌, []}
use Rattle.type_arena.specs.Arena.{store_of}
use Rattle.type_normal.proofs.AddsFacts.{alone, there_kept}
use Rattle.type_lower.specs.declared.choosing.Choice.TheVariants.{Either}
use Rattle.type_lower.proofs.MadeFacts.{both_made, both_adds, given_made, on_err}
use Rattle.type_lower.proofs.choosing.or_nil.Goals as goal

pub returns-in_err-nil-clause-err : goal.returns-in_err-nil-clause-err
returns-in_err-nil-clause-err c = on_err c.from_residual.result _ (c.in_err-nil.ensures.err (c.args.a ∷ []))

pub join-requires-clause-first : goal.join-requires-clause-first
join-requires-clause-first c = there_kept (store_of c.args.arena.now) (store_of c.plain_ref.new.arena) c.args.a (c.in_ok-nil.ensures.made []).adds.keeps c.requires

pub join-requires-clause-second : goal.join-requires-clause-second
join-requires-clause-second c = (c.in_ok-nil.ensures.made []).there

pub returns-in_err-at-clause-err : goal.returns-in_err-at-clause-err
returns-in_err-at-clause-err c =
    let nil = c.in_ok-nil.ensures.made (c.args.a ∷ []) in
    on_err c.from_residual-in_err-at.result _
    (both_adds c.args.arena.now c.plain_ref.new.arena c.join.new.arena (c.args.a ∷ []) c.args.a c.in_ok-nil.nil _ _
    (given_made c.args.arena.now c.plain_ref.new.arena (c.args.a ∷ []) c.args.a nil.adds c.requires (alone c.args.a)) nil c.in_err-at.ensures.err)

pub returns-clause-made : goal.returns-clause-made
returns-clause-made c =
    let nil = c.in_ok-nil.ensures.made (c.args.a ∷ []) in
    both_made c.args.arena.now c.plain_ref.new.arena c.join.new.arena (c.args.a ∷ []) Either c.args.a c.in_ok-nil.nil c.in_ok-at.at _ _
    (given_made c.args.arena.now c.plain_ref.new.arena (c.args.a ∷ []) c.args.a nil.adds c.requires (alone c.args.a)) nil c.in_ok-at.ensures.made
