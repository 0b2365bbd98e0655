use Rattle.std.proofs.Common.{sym}
use Rattle.type_arena.proofs.MeaningLemmas.{term_of-kept}
use Rattle.type_arena.proofs.laws.meaning_is_kept.Goals as goal

pub returns : goal.returns
returns c old new sound sound' keeps at there = sym (term_of-kept old new sound sound' keeps at there)
