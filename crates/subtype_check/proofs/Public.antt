-- The public laws as lemmas: each is a clause of a public function. Proofs of other crates cite these alone.
pub use Rattle.subtype_check.proofs.BelowFacts.{below_includes, below_itself, below_chain, unknown_above}
