use Rattle.std.proofs.Common.{◌≡◌, [], map, take}
use Rattle.std.specs.Prelude.{All}
use Rattle.type_arena.specs.Arena.{store_of}
use Rattle.type_arena.specs.Meaning.{term_of}
use Rattle.type_normal.specs.Adds.{Adds}
use Rattle.type_normal.specs.Growing.{given_refs}
use Rattle.guards.specs.Lists.{meant, named_meant, refs_listed}
use Rattle.guards.specs.Own.{IsOwn}
use Rattle.guards.proofs.joining.joined.Given as goal

-- the entries so far are what comes of those that were looked at
abbrev pub invariant-loop-named : goal.invariant-loop-named
invariant-loop-named l = record {
  meant : meant (term_of (store_of l.arena)) l.all.items ≡ map (named_meant l.how (term_of (store_of l.initial.arena))) (take l.named-index l.named-items);
  own : All (IsOwn l.arena) (refs_listed l.all.items);
  adds : Adds l.initial.arena l.arena (given_refs []) [];
}
