use Rattle.std.specs.Prelude.{IsTrue}
use Rattle.type_arena.specs.Arena.{store_of}
use Rattle.type_arena.specs.Store.{has}
use Rattle.type_normal.proofs.ShapeFacts.{field_item_holds}
use Rattle.type_fields.proofs.known.has_empty.Goals as goal

pub is_empty-any-requires : goal.is_empty-any-requires
is_empty-any-requires c =
    field_item_holds (λ at. IsTrue (has (store_of c.args.arena.now) at)) c.args.fields.now c.loop-field.field-index c.field-item.result c.loop-field-test.true c.field-item.is c.requires
