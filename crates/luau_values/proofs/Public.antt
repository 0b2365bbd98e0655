-- The public laws as lemmas: each is a clause of a public function. Proofs of other crates cite these alone.
pub use Rattle.luau_values.proofs.HeapFacts.{later_refl, later_trans, stays, frozen_marks, frozen_fields, no_fewer, table_adds_one, write_adds_none, freeze_adds_none, table_later, write_later, freeze_later, new_table, freeze_freezes, freeze_reads, freeze_elsewhere, extends_keeps, extends_later, extends_refl, extends_table, extends_fill, write_reads, write_leaves, write_elsewhere, write_marks, write_spares, no_fields, write_keeps_fields}
pub use Rattle.luau_values.proofs.StartFacts.{start_length, start_frozen, start_fields}
pub use Rattle.luau_values.proofs.OrderFacts.{libraries_rise, libraries_are}
pub use Rattle.luau_values.proofs.GrowsFacts.{grows_refl, grows_trans, extends_grows, grows_later, table_grows, freeze_grows, fill_grows, grown_fields, grown_marks}
pub use Rattle.luau_values.proofs.StandsFacts.{stands_later, new_stands, start_stands, table_stands, write_stands, freeze_stands}
