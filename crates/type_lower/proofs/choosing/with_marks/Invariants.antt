use Rattle.std.proofs.Common.{◌∷◌, []}
use Rattle.type_arena.specs.Arena.{store_of}
use Rattle.type_arena.specs.Meaning.{term_of}
use Rattle.type_lower.specs.Joined.{marked}
use Rattle.type_lower.specs.Made.{Made}
use Rattle.type_lower.proofs.choosing.with_marks.Given as goal

-- the type with the marks so far
abbrev pub invariant-loop : goal.invariant-loop
invariant-loop l = Made l.initial.arena l.arena (l.initial.at ∷ []) l.at (marked l.counter (term_of (store_of l.initial.arena) l.initial.at))
