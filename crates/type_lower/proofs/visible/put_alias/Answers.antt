use Rattle.std.proofs.Common.{◌≡◌, ◌++◌, ◌∷◌, []}
use Rattle.std.specs.Prelude.{IsTrue}
use Rattle.type_arena.specs.Arena.{store_of}
use Rattle.type_arena.specs.Store.{has, field_types}
use Rattle.type_normal.specs.Growing.{given_refs, IsClean}
use Rattle.type_lower.proofs.MadeFacts.{given_clean, given_there}
use Rattle.type_lower.proofs.PutFacts.{put_kept, all_kept, ok_then, alias_known, name_holds}
use Rattle.type_lower.proofs.visible.put_alias.Goals as goal

pub returns-in_err-at-clause-adds : goal.returns-in_err-at-clause-adds
returns-in_err-at-clause-adds c = c.in_err-at.ensures.err

pub returns-clause-known : goal.returns-clause-known
returns-clause-known c =
    ok_then c.put.result _ _ c.put.ensures.ok
    (λ (e : c.put.new.self ≡ c.args.aliases.now ++ (c.args.name.now, c.in_ok-at.at) ∷ []).
    alias_known c.args.arena.now c.alias_ref.new.arena c.args.aliases.now c.put.new.self c.args.name.now c.in_ok-at.at _ c.requires c.in_ok-at.ensures.made e)

pub returns-clause-there : goal.returns-clause-there
returns-clause-there c =
    ok_then c.put.result _ _ c.put.ensures.ok
    (λ (e : c.put.new.self ≡ c.args.aliases.now ++ (c.args.name.now, c.in_ok-at.at) ∷ []).
    name_holds (λ x. IsTrue (has (store_of c.alias_ref.new.arena) x)) c.args.aliases.now c.put.new.self c.args.name.now c.in_ok-at.at e
    (given_there c.args.arena.now c.alias_ref.new.arena (field_types c.args.aliases.now) (given_refs (field_types c.args.aliases.now)) [] c.in_ok-at.ensures.made.adds c.requires)
    c.in_ok-at.ensures.made.there)

pub returns-clause-adds : goal.returns-clause-adds
returns-clause-adds c = c.in_ok-at.ensures.made.adds

pub returns-clause-clean : goal.returns-clause-clean
returns-clause-clean c =
    ok_then c.put.result _ _ c.put.ensures.ok
    (λ (e : c.put.new.self ≡ c.args.aliases.now ++ (c.args.name.now, c.in_ok-at.at) ∷ []).
    name_holds (IsClean c.args.arena.now c.alias_ref.new.arena (given_refs (field_types c.args.aliases.now))) c.args.aliases.now c.put.new.self c.args.name.now c.in_ok-at.at e
    (given_clean c.args.arena.now c.alias_ref.new.arena (field_types c.args.aliases.now) c.in_ok-at.ensures.made.adds c.requires)
    c.in_ok-at.ensures.made.clean)

pub returns-clause-kept : goal.returns-clause-kept
returns-clause-kept c = put_kept c.put.result c.args.aliases.now c.put.new.self c.args.name.now c.in_ok-at.at c.put.ensures.ok c.put.ensures.err

pub returns-in_err-at-clause-kept : goal.returns-in_err-at-clause-kept
returns-in_err-at-clause-kept c = all_kept c.args.aliases.now
