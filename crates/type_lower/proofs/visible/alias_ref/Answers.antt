use Rattle.std.proofs.Common.{◌≡◌, true, []}
use Rattle.luau_tree.specs.View.{view_type}
use Rattle.type_arena.specs.Store.{field_types}
use Rattle.type_lower.specs.Visible.{known_in}
use Rattle.type_lower.proofs.MadeFacts.{plain_made, plain_err, call_made, as_type}
use Rattle.type_lower.proofs.PutFacts.{alias_bare, alias_generic}
use Rattle.type_lower.proofs.visible.alias_ref.Goals as goal

pub returns-then-not-bare-clause-made : goal.returns-then-not-bare-clause-made
returns-then-not-bare-clause-made c =
    plain_made c.plain_ref.result c.args.arena.now c.plain_ref.new.arena (field_types c.args.aliases.now) _ _ c.plain_ref.ensures.made
    (alias_generic (known_in c.args.arena.now c.args.aliases.now) c.args.generics.now (view_type c.args.typ.now) (λ (h : c.args.generics.now ≡ []). let t : c.is_bare-bare.result ≡ true = c.is_bare-bare.ensures.1 h in cc))

pub returns-then-not-bare-clause-err : goal.returns-then-not-bare-clause-err
returns-then-not-bare-clause-err c = plain_err c.plain_ref.result c.args.arena.now c.plain_ref.new.arena (field_types c.args.aliases.now) c.plain_ref.ensures.err

pub returns-clause-made : goal.returns-clause-made
returns-clause-made c =
    as_type c.args.arena.now c.lower.new.arena (field_types c.args.aliases.now) c.in_ok-at.at _ _
    (call_made c.args.arena.now c.lower.new.arena (field_types c.args.aliases.now) c.in_ok-at.at _ c.in_ok-at.ensures.term c.in_ok-at.ensures.there c.in_ok-at.ensures.adds c.in_ok-at.ensures.clean)
    (alias_bare (known_in c.args.arena.now c.args.aliases.now) c.args.generics.now (view_type c.args.typ.now) (c.is_bare-bare.ensures.0 c.if-not-bare.false))
