use Rattle.std.proofs.Common.{[], ◌∷◌, ◌+◌, ◌<◌, ◌∙◌, arith}
use Rattle.std.specs.Prelude.{IsTrue}
use Rattle.type_arena.specs.Store.{has}
use Rattle.type_arena.specs.declared.node.TypeRef.{TypeRef}
use Rattle.local_types.specs.Changes.{combined_by}
use Rattle.local_types.specs.Entries.{arenas_of, entry_of}
use Rattle.local_types.specs.Growing.{IsMadeOf}
use Rattle.local_types.proofs.BothFacts.{of_first, of_second, all_combined, combined_nodes, nodes_there, nodes_lower, depth_of_parts, odd_on, even_on, combined_built}
use Rattle.local_types.proofs.GrowFacts.{map_stands, type_stands, grows_less, grows_on, grows_then, made_two, made_from_two}
use Rattle.local_types.proofs.types.LocalTypes.+combining.Goals as goal

pub combined-combined_type-requires-clause-first : goal.combined-combined_type-requires-clause-first
combined-combined_type-requires-clause-first t c =
    of_first (λ (at : TypeRef). IsTrue (has (arenas_of c.args.self.now) at)) c.node-first.result c.node-second.result c.in-Some.pair c.in-Some.ensures c.node-first.ensures.there

pub combined-combined_type-requires-clause-second : goal.combined-combined_type-requires-clause-second
combined-combined_type-requires-clause-second t c =
    of_second (λ (at : TypeRef). IsTrue (has (arenas_of c.args.self.now) at)) c.node-first.result c.node-second.result c.in-Some.pair c.in-Some.ensures c.node-second.ensures.there

pub combined-returns-in_err-at-in-Some-clause-grows : goal.combined-returns-in_err-at-in-Some-clause-grows
combined-returns-in_err-at-in-Some-clause-grows t c =
    grows_less c.args.self.now c.combined_type.new.self [] (c.in-Some.pair.0 ∷ c.in-Some.pair.1 ∷ []) c.combined_type.ensures.grows
    (made_two c.args.self.now [] c.in-Some.pair.0 c.in-Some.pair.1 (of_first (IsMadeOf c.args.self.now []) c.node-first.result c.node-second.result c.in-Some.pair c.in-Some.ensures c.node-first.ensures.made) (of_second (IsMadeOf c.args.self.now []) c.node-first.result c.node-second.result c.in-Some.pair c.in-Some.ensures c.node-second.ensures.made))

pub combined-returns-in_err-new-in-Some-clause-grows : goal.combined-returns-in_err-new-in-Some-clause-grows
combined-returns-in_err-new-in-Some-clause-grows t c =
    grows_then c.args.self.now c.combined_type.new.self c.everywhere.new.self [] (c.in_ok-at-in-Some.at ∷ []) (grows_less c.args.self.now c.combined_type.new.self [] (c.in-Some.pair.0 ∷ c.in-Some.pair.1 ∷ []) c.combined_type.ensures.grows
    (made_two c.args.self.now [] c.in-Some.pair.0 c.in-Some.pair.1 (of_first (IsMadeOf c.args.self.now []) c.node-first.result c.node-second.result c.in-Some.pair c.in-Some.ensures c.node-first.ensures.made) (of_second (IsMadeOf c.args.self.now []) c.node-first.result c.node-second.result c.in-Some.pair c.in-Some.ensures c.node-second.ensures.made))) c.everywhere.ensures.grows
    (made_from_two c.args.self.now c.in-Some.pair.0 c.in-Some.pair.1 c.in_ok-at-in-Some.at c.in_ok-at-in-Some.ensures.made (of_first (IsMadeOf c.args.self.now []) c.node-first.result c.node-second.result c.in-Some.pair c.in-Some.ensures c.node-first.ensures.made) (of_second (IsMadeOf c.args.self.now []) c.node-first.result c.node-second.result c.in-Some.pair c.in-Some.ensures c.node-second.ensures.made))

pub combined-returns-in_ok-new-in-Some-clause-grows : goal.combined-returns-in_ok-new-in-Some-clause-grows
combined-returns-in_ok-new-in-Some-clause-grows t c =
    grows_then c.args.self.now c.combined_type.new.self c.everywhere.new.self [] (c.in_ok-at-in-Some.at ∷ []) (grows_less c.args.self.now c.combined_type.new.self [] (c.in-Some.pair.0 ∷ c.in-Some.pair.1 ∷ []) c.combined_type.ensures.grows
    (made_two c.args.self.now [] c.in-Some.pair.0 c.in-Some.pair.1 (of_first (IsMadeOf c.args.self.now []) c.node-first.result c.node-second.result c.in-Some.pair c.in-Some.ensures c.node-first.ensures.made) (of_second (IsMadeOf c.args.self.now []) c.node-first.result c.node-second.result c.in-Some.pair c.in-Some.ensures c.node-second.ensures.made))) c.everywhere.ensures.grows
    (made_from_two c.args.self.now c.in-Some.pair.0 c.in-Some.pair.1 c.in_ok-at-in-Some.at c.in_ok-at-in-Some.ensures.made (of_first (IsMadeOf c.args.self.now []) c.node-first.result c.node-second.result c.in-Some.pair c.in-Some.ensures c.node-first.ensures.made) (of_second (IsMadeOf c.args.self.now []) c.node-first.result c.node-second.result c.in-Some.pair c.in-Some.ensures c.node-second.ensures.made))

pub combined-returns-in_ok-new-in-Some-clause-entries : goal.combined-returns-in_ok-new-in-Some-clause-entries
combined-returns-in_ok-new-in-Some-clause-entries t c =
    λ n. c.in_ok-new-in-Some.ensures.entries n ∙ c.in_ok-at-in-Some.ensures.term
    ∙ all_combined (combined_by c.args.how) c.args.self.now c.args.a c.args.b c.node-first.result c.node-second.result c.in-Some.pair c.in-Some.ensures c.node-first.ensures.entries c.node-second.ensures.entries n

pub combined-combined_parts-requires : goal.combined-combined_parts-requires
combined-combined_parts-requires t c =
    let lower : depth_of_parts c.parts_at-first.result c.parts_at-second.result < c.args.a.at + c.args.b.at =
    nodes_lower c.args.a c.args.b c.node-first.result c.node-second.result c.parts_at-first.result c.parts_at-second.result c.parts_at-first.ensures c.parts_at-second.ensures c.in-None.ensures c.node-first.ensures.parts c.node-second.ensures.parts in (
      omega (arith, lower, c.decreases),
      (
        (nodes_there c.args.self.now c.args.a c.node-first.result c.parts_at-first.result c.parts_at-first.ensures c.requires.first c.node-first.ensures.there c.node-first.ensures.made c.node-first.ensures.parts),
        (nodes_there c.args.self.now c.args.b c.node-second.result c.parts_at-second.result c.parts_at-second.ensures c.requires.second c.node-second.ensures.there c.node-second.ensures.made c.node-second.ensures.parts),
      ),
    )

pub combined-returns-in_ok-new-in-None-clause-entries : goal.combined-returns-in_ok-new-in-None-clause-entries
combined-returns-in_ok-new-in-None-clause-entries t c =
    combined_nodes (combined_by c.args.how) c.args.self.now c.args.a c.args.b c.node-first.result c.node-second.result c.parts_at-first.result c.parts_at-second.result (entry_of c.combined_parts.new.self c.in_ok-new-in-None.new)
    c.parts_at-first.ensures c.parts_at-second.ensures c.node-first.ensures.entries c.node-second.ensures.entries c.in_ok-new-in-None.ensures.entries

pub combined_parts-returns-in_err-here-clause-grows : goal.combined_parts-returns-in_err-here-clause-grows
combined_parts-returns-in_err-here-clause-grows t c =
    grows_less c.args.self.now c.combined_type.new.self [] (c.args.a.here ∷ c.args.b.here ∷ []) c.combined_type.ensures.grows (made_two c.args.self.now [] c.args.a.here c.args.b.here c.requires.first.made c.requires.second.made)

pub combined_parts-combined-requires : goal.combined_parts-combined-requires
combined_parts-combined-requires t c =
    (omega (arith, c.decreases), (odd_on c.args.self.now c.combined_type.new.self c.args.a c.requires.first (grows_less c.args.self.now c.combined_type.new.self [] (c.args.a.here ∷ c.args.b.here ∷ []) c.combined_type.ensures.grows (made_two c.args.self.now [] c.args.a.here c.args.b.here c.requires.first.made c.requires.second.made)), odd_on c.args.self.now c.combined_type.new.self c.args.b c.requires.second (grows_less c.args.self.now c.combined_type.new.self [] (c.args.a.here ∷ c.args.b.here ∷ []) c.combined_type.ensures.grows (made_two c.args.self.now [] c.args.a.here c.args.b.here c.requires.first.made c.requires.second.made))))

pub combined_parts-returns-in_err-odd-clause-grows : goal.combined_parts-returns-in_err-odd-clause-grows
combined_parts-returns-in_err-odd-clause-grows t c =
    grows_on c.args.self.now c.combined_type.new.self c.combined.new.self (grows_less c.args.self.now c.combined_type.new.self [] (c.args.a.here ∷ c.args.b.here ∷ []) c.combined_type.ensures.grows (made_two c.args.self.now [] c.args.a.here c.args.b.here c.requires.first.made c.requires.second.made)) c.combined.ensures.grows

pub combined_parts-combined-requires-2 : goal.combined_parts-combined-requires-2
combined_parts-combined-requires-2 t c =
    (omega (arith, c.decreases), (even_on c.args.self.now c.combined.new.self c.args.a c.requires.first (grows_on c.args.self.now c.combined_type.new.self c.combined.new.self (grows_less c.args.self.now c.combined_type.new.self [] (c.args.a.here ∷ c.args.b.here ∷ []) c.combined_type.ensures.grows (made_two c.args.self.now [] c.args.a.here c.args.b.here c.requires.first.made c.requires.second.made)) c.combined.ensures.grows), even_on c.args.self.now c.combined.new.self c.args.b c.requires.second (grows_on c.args.self.now c.combined_type.new.self c.combined.new.self (grows_less c.args.self.now c.combined_type.new.self [] (c.args.a.here ∷ c.args.b.here ∷ []) c.combined_type.ensures.grows (made_two c.args.self.now [] c.args.a.here c.args.b.here c.requires.first.made c.requires.second.made)) c.combined.ensures.grows)))

pub combined_parts-returns-in_err-even-clause-grows : goal.combined_parts-returns-in_err-even-clause-grows
combined_parts-returns-in_err-even-clause-grows t c =
    grows_on c.args.self.now c.combined.new.self c.combined-2.new.self (grows_on c.args.self.now c.combined_type.new.self c.combined.new.self (grows_less c.args.self.now c.combined_type.new.self [] (c.args.a.here ∷ c.args.b.here ∷ []) c.combined_type.ensures.grows (made_two c.args.self.now [] c.args.a.here c.args.b.here c.requires.first.made c.requires.second.made)) c.combined.ensures.grows) c.combined-2.ensures.grows

pub combined_parts-split-requires-clause-there : goal.combined_parts-split-requires-clause-there
combined_parts-split-requires-clause-there t c =
    type_stands c.combined_type.new.self c.combined-2.new.self [] (grows_on c.combined_type.new.self c.combined.new.self c.combined-2.new.self c.combined.ensures.grows c.combined-2.ensures.grows) c.in_ok-here.here c.in_ok-here.ensures.there

pub combined_parts-split-requires-clause-odd : goal.combined_parts-split-requires-clause-odd
combined_parts-split-requires-clause-odd t c =
    map_stands c.combined.new.self c.combined-2.new.self [] c.combined-2.ensures.grows c.in_ok-odd.odd c.in_ok-odd.ensures.map

pub combined_parts-returns-in_err-new-clause-grows : goal.combined_parts-returns-in_err-new-clause-grows
combined_parts-returns-in_err-new-clause-grows t c =
    grows_then c.args.self.now c.combined-2.new.self c.split.new.self [] (c.in_ok-here.here ∷ []) (grows_on c.args.self.now c.combined.new.self c.combined-2.new.self (grows_on c.args.self.now c.combined_type.new.self c.combined.new.self (grows_less c.args.self.now c.combined_type.new.self [] (c.args.a.here ∷ c.args.b.here ∷ []) c.combined_type.ensures.grows (made_two c.args.self.now [] c.args.a.here c.args.b.here c.requires.first.made c.requires.second.made)) c.combined.ensures.grows) c.combined-2.ensures.grows) c.split.ensures.grows
    (made_from_two c.args.self.now c.args.a.here c.args.b.here c.in_ok-here.here c.in_ok-here.ensures.made c.requires.first.made c.requires.second.made)

pub combined_parts-returns-clause-grows : goal.combined_parts-returns-clause-grows
combined_parts-returns-clause-grows t c =
    grows_then c.args.self.now c.combined-2.new.self c.split.new.self [] (c.in_ok-here.here ∷ []) (grows_on c.args.self.now c.combined.new.self c.combined-2.new.self (grows_on c.args.self.now c.combined_type.new.self c.combined.new.self (grows_less c.args.self.now c.combined_type.new.self [] (c.args.a.here ∷ c.args.b.here ∷ []) c.combined_type.ensures.grows (made_two c.args.self.now [] c.args.a.here c.args.b.here c.requires.first.made c.requires.second.made)) c.combined.ensures.grows) c.combined-2.ensures.grows) c.split.ensures.grows
    (made_from_two c.args.self.now c.args.a.here c.args.b.here c.in_ok-here.here c.in_ok-here.ensures.made c.requires.first.made c.requires.second.made)

pub combined_parts-returns-clause-entries : goal.combined_parts-returns-clause-entries
combined_parts-returns-clause-entries t c =
    combined_built (combined_by c.args.how) c.args.self.now c.combined_type.new.self c.combined.new.self c.combined-2.new.self c.split.new.self c.in_ok-new.new c.in_ok-odd.odd c.in_ok-even.even c.in_ok-here.here c.args.a c.args.b c.requires.first c.requires.second
    (grows_less c.args.self.now c.combined_type.new.self [] (c.args.a.here ∷ c.args.b.here ∷ []) c.combined_type.ensures.grows (made_two c.args.self.now [] c.args.a.here c.args.b.here c.requires.first.made c.requires.second.made)) c.combined.ensures.grows c.combined-2.ensures.grows c.in_ok-here.ensures.there c.in_ok-odd.ensures.map
    c.in_ok-here.ensures.term c.in_ok-odd.ensures.entries c.in_ok-even.ensures.entries c.in_ok-new.ensures.entries
