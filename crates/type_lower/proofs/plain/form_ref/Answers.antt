use Rattle.std.proofs.Common.{◌≡◌, [], true}
use Rattle.std.specs.Prelude.{None}
use Rattle.type_arena.specs.Store.{field_types}
use Rattle.type_lower.specs.Visible.{known_in}
use Rattle.type_lower.proofs.FormFacts.{bare_name, other_name}
use Rattle.type_lower.proofs.MadeFacts.{typed_made, plain_made, plain_err}
use Rattle.type_lower.proofs.plain.form_ref.Goals as goal

pub returns-then-bare-clause-made : goal.returns-then-bare-clause-made
returns-then-bare-clause-made c =
    let both = c.is_bare-bare.ensures.0 c.if-bare.true in
    typed_made c.named_ref.result c.args.arena.now c.named_ref.new.arena (field_types c.args.aliases.now) _ _ c.named_ref.ensures.made
    (bare_name (known_in c.args.arena.now c.args.aliases.now) c.args.prefix.now c.args.name.now c.args.args.now both.0 both.1)

pub returns-else-bare-clause-made : goal.returns-else-bare-clause-made
returns-else-bare-clause-made c =
    plain_made c.plain_ref.result c.args.arena.now c.plain_ref.new.arena (field_types c.args.aliases.now) _ _ c.plain_ref.ensures.made
    (other_name (known_in c.args.arena.now c.args.aliases.now) c.args.prefix.now c.args.name.now c.args.args.now
    (λ (h : (c.args.prefix.now ≡ None) × (c.args.args.now ≡ [])). let t : c.is_bare-bare.result ≡ true = c.is_bare-bare.ensures.1 h in cc))

pub returns-else-bare-clause-err : goal.returns-else-bare-clause-err
returns-else-bare-clause-err c = plain_err c.plain_ref.result c.args.arena.now c.plain_ref.new.arena (field_types c.args.aliases.now) c.plain_ref.ensures.err
