use Rattle.std.specs.Prelude.{IsTrue}
use Rattle.std.proofs.lemmas.List.Elements.{All-contains}
use Rattle.type_arena.specs.Store.{has, is_older, refs_of}
use Rattle.type_arena.proofs.StoreLemmas.{rank-older}
use Rattle.type_arena.proofs.laws.references_lead_down.Goals as goal

pub returns : goal.returns
returns c store sound at child node e inside =
    rank-older store child at
    (All-contains (λ c. IsTrue (has store c)) (refs_of node) child (sound.there at node e) inside)
    (All-contains (λ c. IsTrue (is_older c at)) (refs_of node) child (sound.older at node e) inside)
