-- A search stays sound when groups are joined, since a require of the last one leads back.
use Rattle.std.proofs.Common.{◌≡◌, ◌≢◌, ℕ, zero, suc, ◌+◌, ◌<◌, ◌≤◌, List, [], ◌∷◌, ◌++◌, length, refl, ap, sym, subst, ◌∙◌, arith, inl, inr}
use Rattle.std.specs.Prelude.{Some, None, slice_get, Contains, ◌⊎◌}
use Rattle.std.proofs.lemmas.Bool.{cases_lt}
use Rattle.module_graph.specs.declared.node.Call.{Call}
use Rattle.module_graph.specs.declared.node.Node.{Node}
use Rattle.module_graph.specs.declared.search.Mark.{Mark}
use Rattle.module_graph.specs.declared.search.Mark.TheVariants.{New, Open, Closed}
use Rattle.module_graph.specs.Requires.{calls_at}
use Rattle.module_graph.specs.Search.{State, IsSearch, IsMet, IsJoined, Has, Rises, Leads, Merges, with_starts, Settles}
use Rattle.module_graph.proofs.Lists.{Has-front, Has-cases, Rises-front}
use Rattle.module_graph.proofs.Leading.{Requires-at, Leads-step, Leads-trans}

module _ (nodes : List Node) (s : State) (sound : IsSearch nodes s) where
  -- each open module leads to that at the last place of the path
  pub Leads-top : (p x : ℕ) → slice_get s.opened p ≡ Some x → ((q : ℕ) → Has s.path q → q ≤ p) → (a z : ℕ) → slice_get s.opened a ≡ Some z → Leads nodes z x
  Leads-top p x at top a z e = elim (cases_lt p a) [
    | inl above ↦ sound.back a p z x (omega arith) e at (λ start has below. top start (sound.starts_in start has))
    | inr below ↦ sound.onward a p z x below e at
  ]

  module _ (x p next k y q n : ℕ) (call : Call) (open' : slice_get s.marks x ≡ Some (Open p next)) (top : (r : ℕ) → Has s.path r → r ≤ p) (at : slice_get (calls_at nodes x) k ≡ Some call) (means : call.to ≡ Some y) (back_at : slice_get s.marks y ≡ Some (Open q n)) (starts : List ℕ) (merges : Merges q s.starts starts) where
    was_start : (start : ℕ) → Has starts start → Has s.starts start
    was_start start has = subst (λ (l : List ℕ). Has l start) (sym merges.parted) (Has-front starts merges.dropped start has)

    stays_start : (start : ℕ) → Has s.starts start → start ≤ q → Has starts start
    stays_start start has low = elim (Has-cases starts merges.dropped start (subst (λ (l : List ℕ). Has l start) merges.parted has)) [
      | inl kept ↦ kept
      | inr gone ↦ (let high = merges.above start gone in absurd (omega arith))
    ]

    there_y : slice_get s.opened q ≡ Some y
    there_y = sound.there y q n back_at

    back : (a b z w : ℕ) → b ≤ a → slice_get s.opened a ≡ Some z → slice_get s.opened b ≡ Some w → IsJoined starts b a → Leads nodes z w
    back a b z w le ea eb joined = elim (cases_lt a q) [
      | inl before ↦ sound.back a b z w le ea eb (λ start has below. joined start (stays_start start has (omega arith)) below)
      | inr from ↦
          Leads-trans nodes z x w (Leads-top p x (sound.there x p next open') top a z ea)
          (Leads-step nodes x y w (Requires-at nodes x y k call at means)
          (elim (cases_lt b q) [
            | inl lower ↦ sound.back q b y w (omega arith) there_y eb (λ start has below. joined start (stays_start start has below) (omega arith))
            | inr higher ↦ sound.onward q b y w higher there_y eb
          ]))
    ]

    pub IsSearch-merged : IsSearch nodes (with_starts s starts)
    IsSearch-merged = record {
      marked = sound.marked;
      placed = sound.placed;
      there = sound.there;
      onward = sound.onward;
      back = back;
      met = (λ z a m i w other e lt here leads. elim (sound.met z a m i w other e lt here leads) [
        | inl closed ↦ inl closed
        | inr group ↦ inr (group.0, group.1, group.2, (λ start has below. group.3 start (was_start start has) below))
      ]);
      going = sound.going;
      path_in = sound.path_in;
      path_rises = sound.path_rises;
      starts_in = (λ r has. sound.starts_in r (was_start r has));
      starts_rise = Rises-front starts merges.dropped (subst (λ (l : List ℕ). Rises l) merges.parted sound.starts_rise);
      ground = (λ some. stays_start 0 (sound.ground some) (omega arith));
      closed = sound.closed;
      together = sound.together;
      numbered = sound.numbered;
      listed = sound.listed;
      order_closed = sound.order_closed;
      once = sound.once;
      ordered = sound.ordered;
    }

    -- the module that is led back to is met
    pub IsMet-merged : IsMet (with_starts s starts) p y
    IsMet-merged = inr (q, n, back_at, (λ start has below. merges.kept start has))
