-- The public laws as lemmas: each is a clause of a public function. Proofs of other crates cite these alone.
pub use Rattle.type_normal.proofs.HoldsFacts.{empty_holds, unknown_holds, union_holds, meet_holds, not_free_holds, fail_holds}
pub use Rattle.type_normal.proofs.KindFacts.{unknown_or, or_unknown, unknown_and, and_unknown, kinds_hold, write_fail_holds, falsy_holds, truthy_holds, text_holds, text_is_in, builtin_is_in, literal_is_in, one_function_holds, no_nil_holds}
pub use Rattle.type_normal.proofs.HeapFreeFacts.{strip_below, strip_at_below, cut_down_below, widen_above, widen_at_above, cut_up_above, free_later, strip_free, widen_free, not_free_free, fail_free, union_free, meet_free, strip_at_free, cut_down_free, cut_up_free}
pub use Rattle.type_normal.proofs.FreeOfFacts.{free_of_written, strip_at_of, widen_at_of, heap_free_of, strip_at_keeps, widen_at_keeps, cut_down_keeps, cut_up_keeps, row_written, row_beside}
pub use Rattle.type_normal.proofs.FieldFacts.{unknown_all, never_none, grown_holds, row_holds, row_tables, field_is_holds, field_holds, new_table_holds, frozen_holds, frozen_rows_tables}
pub use Rattle.type_normal.proofs.TypeTermFacts.{normal_holds, flat_union, flat_meet}
