use Rattle.std.proofs.Common.{ap, sym}
use Rattle.std.specs.Prelude.{Option}
use Rattle.luau_tree.specs.View.{view_maybe_type}
use Rattle.luau_tree.specs.declared.tree as code
use Rattle.type_arena.specs.Store.{field_types}
use Rattle.annotations.specs.Annotated.{written_type}
use Rattle.type_lower.specs.Visible.{known_in}
use Rattle.type_lower.proofs.MadeFacts.{plain_made, plain_err, call_made, as_type}
use Rattle.type_lower.proofs.parameters.written_ref.Goals as goal

pub returns-in-None-clause-made : goal.returns-in-None-clause-made
returns-in-None-clause-made c =
    plain_made c.plain_ref.result c.args.arena.now c.plain_ref.new.arena (field_types c.args.aliases.now) _ _ c.plain_ref.ensures.made
    (sym (ap (λ (type : Option code.TypeSyntax.TypeSyntax). written_type (known_in c.args.arena.now c.args.aliases.now) (view_maybe_type type)) c.in-None.is))

pub returns-in-None-clause-err : goal.returns-in-None-clause-err
returns-in-None-clause-err c = plain_err c.plain_ref.result c.args.arena.now c.plain_ref.new.arena (field_types c.args.aliases.now) c.plain_ref.ensures.err

pub returns-in_ok-at-in-Some-clause-made : goal.returns-in_ok-at-in-Some-clause-made
returns-in_ok-at-in-Some-clause-made c =
    as_type c.args.arena.now c.lower.new.arena (field_types c.args.aliases.now) c.in_ok-at-in-Some.at _ _
    (call_made c.args.arena.now c.lower.new.arena (field_types c.args.aliases.now) c.in_ok-at-in-Some.at _ c.in_ok-at-in-Some.ensures.term c.in_ok-at-in-Some.ensures.there c.in_ok-at-in-Some.ensures.adds c.in_ok-at-in-Some.ensures.clean)
    (sym (ap (λ (type : Option code.TypeSyntax.TypeSyntax). written_type (known_in c.args.arena.now c.args.aliases.now) (view_maybe_type type)) c.in-Some.is))
