use Rattle.std.proofs.Common.{ℕ, List, sym, subst}
use Rattle.std.specs.Prelude.{IsTrue, All}
use Rattle.type_arena.specs.Arena.{store_of}
use Rattle.type_arena.specs.Store.{has, field_types}
use Rattle.type_arena.specs.declared.node.TypeRef.{TypeRef}
use Rattle.type_lower.proofs.props.row_ref.Goals as goal

pub row_type-requires : goal.row_type-requires
row_type-requires c =
    subst (λ (fs : List (List ℕ × TypeRef)). All (λ at. IsTrue (has (store_of c.args.arena.now) at)) (field_types fs)) (sym c.in_ok-all.ensures) c.requires
