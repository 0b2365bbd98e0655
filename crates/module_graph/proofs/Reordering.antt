-- The order of requires doesn't matter.
use Rattle.std.proofs.Common.{◌≡◌, ℕ, zero, suc, ◌<◌, ◌≤◌, Bool, true, false, List, [], ◌∷◌, length, refl, ap, sym, subst, ◌∙◌}
use Rattle.std.specs.Prelude.{Option, Some, None, Contains}
use Rattle.luau_tree.specs.declared.position.Span.{Span}
use Rattle.module_graph.specs.declared.node.Call.{Call}
use Rattle.module_graph.specs.declared.node.Node.{Node}
use Rattle.module_graph.specs.declared.needs.GraphRefusal.{GraphRefusal}
use Rattle.module_graph.specs.declared.needs.GraphRefusal.TheVariants.{MissingModule, RequireCycle}
use Rattle.module_graph.specs.Requires.{calls_at, refused_at, Requires, Reaches, directly, through, HasChain}
use Rattle.module_graph.specs.Fates.{IsRefused, already, misses, cyclic, IsSkipped, by_refused, by_skipped, IsLevel, IsLeast, LeadsBack, Misses, RefusesAt}
use Rattle.module_graph.specs.Orders.{HasSameNeeds}

pub turned : (nodes other : List Node) → HasSameNeeds nodes other → HasSameNeeds other nodes
turned nodes other same = record { refused = (λ file. sym (same.refused file)); there = same.back; back = same.there }

requires-same : (nodes other : List Node) → HasSameNeeds nodes other → (from to : ℕ) → Requires nodes from to → Requires other from to
requires-same nodes other same from to h = (h.0, same.there from h.0 h.1, h.2)

reaches-same : (nodes other : List Node) → HasSameNeeds nodes other → (from to : ℕ) → Reaches nodes from to → Reaches other from to
reaches-same nodes other same from to (directly one) = directly (requires-same nodes other same from to one)
reaches-same nodes other same from to (through {next = next} one rest) = through (requires-same nodes other same from next one) (reaches-same nodes other same next to rest)

misses-same : (nodes other : List Node) → HasSameNeeds nodes other → (file : ℕ) → Misses nodes file → Misses other file
misses-same nodes other same file h = (h.0, same.there file h.0 h.1, h.2)

pub refused-same : (nodes other : List Node) → HasSameNeeds nodes other → (file : ℕ) → IsRefused nodes file → IsRefused other file
refused-same nodes other same file (already is) = already (sym (same.refused file) ∙ is)
refused-same nodes other same file (misses missing) = misses (misses-same nodes other same file missing)
refused-same nodes other same file (cyclic cycle) = cyclic (reaches-same nodes other same file file cycle)

pub skipped-same : (nodes other : List Node) → HasSameNeeds nodes other → (file : ℕ) → IsSkipped nodes file → IsSkipped other file
skipped-same nodes other same file (by_refused {next = next} free requires refused) =
    by_refused (λ is. free (refused-same other nodes (turned nodes other same) file is)) (requires-same nodes other same file next requires) (refused-same nodes other same next refused)
skipped-same nodes other same file (by_skipped {next = next} free requires skipped) =
    by_skipped (λ is. free (refused-same other nodes (turned nodes other same) file is)) (requires-same nodes other same file next requires) (skipped-same nodes other same next skipped)

chain-same : (nodes other : List Node) → HasSameNeeds nodes other → (file count : ℕ) → HasChain nodes file count → HasChain other file count
chain-same nodes other same file zero h = tt
chain-same nodes other same file (suc count) h = (h.0, requires-same nodes other same file h.0 h.1, chain-same nodes other same h.0 count h.2)

pub level-same : (nodes other : List Node) → HasSameNeeds nodes other → (file level : ℕ) → IsLevel nodes file level → IsLevel other file level
level-same nodes other same file level is = record {
  chain = chain-same nodes other same file level is.chain;
  longest = (λ more h. is.longest more (chain-same other nodes (turned nodes other same) file more h));
}

back-same : (nodes other : List Node) → HasSameNeeds nodes other → (file : ℕ) (to : Option ℕ) → LeadsBack nodes file to → LeadsBack other file to
back-same nodes other same file to h = (h.0, h.1, reaches-same nodes other same h.0 file h.2)

pub places-same : (nodes other : List Node) → HasSameNeeds nodes other → (file : ℕ) (why : GraphRefusal) (at : Span) → RefusesAt nodes file why at → RefusesAt other file why at
places-same nodes other same file MissingModule at is = record {
  one = (is.one.0, same.there file is.one.0 is.one.1, is.one.2, is.one.3);
  least = (λ call has none. is.least call (same.back file call has) none);
}
places-same nodes other same file RequireCycle at is = (
  (λ missing. is.0 (misses-same other nodes (turned nodes other same) file missing)),
  reaches-same nodes other same file file is.1,
  record {
    one = (is.2.one.0, same.there file is.2.one.0 is.2.one.1, back-same nodes other same file is.2.one.0.to is.2.one.2, is.2.one.3);
    least = (λ call has back. is.2.least call (same.back file call has) (back-same other nodes (turned nodes other same) file call.to back));
  },
)
