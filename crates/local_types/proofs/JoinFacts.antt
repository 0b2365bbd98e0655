-- What maps have while one end after another is joined.
use Rattle.std.proofs.Common.{◌≡◌, ℕ, ◌+◌, ◌<◌, List, [], ◌∷◌, length, get_or, take, refl, sym, ap, subst, ◌∙◌}
use Rattle.std.specs.Prelude.{Bool, true, false, ◌&&◌, reverse, if◌then◌else◌}
use Rattle.std.proofs.lemmas.List.{take_more, reverse-append}
use Rattle.type_arena.specs.Term.{never}
use Rattle.type_arena.specs.declared.node.TypeRef.{TypeRef}
use Rattle.type_normal.specs.Operations.{union}
use Rattle.local_types.specs.Ends.{all_dead, union_live}
use Rattle.local_types.specs.Entries.{type_of, entry_of, IsMap}
use Rattle.local_types.specs.Growing.{Grows, IsMadeOf}
use Rattle.local_types.specs.declared.node.LocalMap.{LocalMap}
use Rattle.local_types.specs.declared.node.Point.{Point}
use Rattle.local_types.specs.declared.types.LocalTypes.{LocalTypes}
use Rattle.local_types.proofs.GrowFacts.{entry_stays, grows_on, grows_then, made_one}

-- some ends are joined
pub record JoinedSo (old new : LocalTypes) (now : LocalMap) (done : List Point) (dead : Bool) : Type 0 where
  pub grows : Grows old new []
  pub stands : IsMap new now
  pub entries : (n : ℕ) → entry_of new now n ≡ union_live old done n
  pub ended : dead ≡ all_dead done

pub joined_as : (old new : LocalTypes) (now : LocalMap) (done others : List Point) (dead : Bool) → JoinedSo old new now done dead → done ≡ others → JoinedSo old new now others dead
joined_as old new now done others dead so e = subst (λ (ends : List Point). JoinedSo old new now ends dead) e so

pub joined_none : (old b c : LocalTypes) (now : LocalMap) (at : TypeRef) → Grows old b [] → IsMadeOf old [] at → type_of b at ≡ never → Grows b c (at ∷ []) → IsMap c now → ((n : ℕ) → entry_of c now n ≡ type_of b at)
    → JoinedSo old c now [] true
joined_none old b c now at first made means second stands entries = record {
  grows = grows_then old b c [] (at ∷ []) first second (made_one old [] at made);
  stands = stands;
  entries = λ n. entries n ∙ means;
  ended = refl;
}

pub joined_dead : (old b : LocalTypes) (now : LocalMap) (end : Point) (done : List Point) (dead : Bool) → JoinedSo old b now done dead → end.dead ≡ true → JoinedSo old b now (end ∷ done) dead
joined_dead old b now end done dead so e = record {
  grows = so.grows;
  stands = so.stands;
  entries = λ n. so.entries n ∙ sym (ap (λ (x : Bool). if x then union_live old done n else union (entry_of old end.map n) (union_live old done n)) e);
  ended = so.ended ∙ sym (ap (λ (x : Bool). x && all_dead done) e);
}

pub joined_live : (old b c : LocalTypes) (now next : LocalMap) (end : Point) (done : List Point) (dead : Bool) → JoinedSo old b now done dead → end.dead ≡ false → IsMap old end.map
    → Grows b c [] → IsMap c next → ((n : ℕ) → entry_of c next n ≡ union (entry_of b end.map n) (entry_of b now n)) → JoinedSo old c next (end ∷ done) false
joined_live old b c now next end done dead so e is grows stands entries = record {
  grows = grows_on old b c so.grows grows;
  stands = stands;
  entries = λ n.
      entries n ∙ (λ i. union (entry_stays old b [] so.grows end.map is n i) (so.entries n i))
      ∙ sym (ap (λ (x : Bool). if x then union_live old done n else union (entry_of old end.map n) (union_live old done n)) e);
  ended = sym (ap (λ (x : Bool). x && all_dead done) e);
}

-- one more of the list
pub ends_more : (ends : List Point) (i : ℕ) (d : Point) → i < length ends → get_or ends i d ∷ reverse (take i ends) ≡ reverse (take (i + 1) ends)
ends_more ends i d l = sym (ap reverse (take_more ends i d l) ∙ reverse-append (take i ends) (get_or ends i d ∷ []))
