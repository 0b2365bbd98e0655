use Rattle.std.proofs.Common.{ℕ, List, false, sym, ap, ◌∙◌}
use Rattle.std.specs.Prelude.{Option, codes}
use Rattle.std.specs.Option.{option_map_or}
use Rattle.std.specs.Str.{bytes_eq}
use Rattle.guards.proofs.TreeFacts.{fixed_read}
use Rattle.guards.proofs.naming.is_type.Goals as goal

pub returns-in-Some : goal.returns-in-Some
returns-in-Some c rules reads =
    c.names_type.ensures
    ∙ sym (ap (λ (o : Option (List ℕ)). option_map_or (bytes_eq (codes "type")) o false) (fixed_read c.args.scoped.now.uses c.args.scoped.now.locals rules reads c.args.callee.now ∙ sym c.in-Some.ensures))

pub returns-in-None : goal.returns-in-None
returns-in-None c rules reads =
    sym (ap (λ (o : Option (List ℕ)). option_map_or (bytes_eq (codes "type")) o false) (fixed_read c.args.scoped.now.uses c.args.scoped.now.locals rules reads c.args.callee.now ∙ sym c.in-None.ensures))
