-- A search stays sound when the path leaves a module in whose group it began no group.
use Rattle.std.proofs.Common.{◌≡◌, ◌≢◌, ℕ, zero, suc, ◌+◌, ◌<◌, ◌≤◌, List, [], ◌∷◌, ◌++◌, length, refl, ap, sym, subst, ◌∙◌, arith, inl, inr}
use Rattle.std.specs.Prelude.{Some, None, slice_get, Contains, ◌⊎◌}
use Rattle.module_graph.specs.declared.node.Call.{Call}
use Rattle.module_graph.specs.declared.node.Node.{Node}
use Rattle.module_graph.specs.declared.search.Mark.{Mark}
use Rattle.module_graph.specs.declared.search.Mark.TheVariants.{New, Open, Closed}
use Rattle.module_graph.specs.Requires.{calls_at}
use Rattle.module_graph.specs.Search.{State, IsSearch, IsMet, IsJoined, Has, Rises, Leads, with_path}
use Rattle.module_graph.proofs.Lists.{Has-front, Has-push_cases, Rises-front}

-- two modules that have one place are one
pub same-at : (opened : List ℕ) (p x z : ℕ) → slice_get opened p ≡ Some x → slice_get opened p ≡ Some z → x ≡ z
same-at opened p x z e f = cc

module _ (nodes : List Node) (s : State) (sound : IsSearch nodes s) (x p next : ℕ) (open' : slice_get s.marks x ≡ Some (Open p next)) (path : List ℕ) (last : s.path ≡ path ++ p ∷ []) (done : length (calls_at nodes x) ≤ next) where
  on_path : (r : ℕ) → Has path r → Has s.path r
  on_path r has = subst (λ (l : List ℕ). Has l r) (sym last) (Has-front path (p ∷ []) r has)

  path_cases : (r : ℕ) → Has s.path r → Has path r ⊎ (r ≡ p)
  path_cases r has = Has-push_cases path p r (subst (λ (l : List ℕ). Has l r) last has)

  -- an open module is still on the path, or all its requires were looked at
  pub going-left : (z q n : ℕ) → slice_get s.marks z ≡ Some (Open q n) → Has path q ⊎ (length (calls_at nodes z) ≤ n)
  going-left z q n e = elim (sound.going z q n e) [
    | inl on ↦ elim (path_cases q on) [
      | inl before ↦ inl before
      | inr top ↦
          (let at_p : slice_get s.opened p ≡ Some z = ap (λ i. slice_get s.opened i) (sym top) ∙ sound.there z q n e in
          let one : x ≡ z = same-at s.opened p x z (sound.there x p next open') at_p in
          let marks : Some (Open q n) ≡ Some (Open p next) = sym e ∙ (ap (λ i. slice_get s.marks i) (sym one) ∙ open') in
          let count : next ≡ n = cc in
          let fewer : length (calls_at nodes x) ≤ n = omega arith in
          inr (subst (λ (i : ℕ). length (calls_at nodes i) ≤ n) one fewer))
    ]
    | inr all ↦ inr all
  ]

  pub path_rises-left : Rises path
  path_rises-left = Rises-front path (p ∷ []) (subst (λ (l : List ℕ). Rises l) last sound.path_rises)

  module _ (inner : Has s.starts p → ⊥) where
    pub IsSearch-left : IsSearch nodes (with_path s path)
    IsSearch-left = record {
      marked = sound.marked;
      placed = sound.placed;
      there = sound.there;
      onward = sound.onward;
      back = sound.back;
      met = sound.met;
      going = going-left;
      path_in = (λ r has. sound.path_in r (on_path r has));
      path_rises = path_rises-left;
      starts_in = (λ r has. elim (path_cases r (sound.starts_in r has)) [ inl before ↦ before | inr top ↦ absurd (inner (subst (λ (i : ℕ). Has s.starts i) top has)) ]);
      starts_rise = sound.starts_rise;
      ground = sound.ground;
      closed = sound.closed;
      together = sound.together;
      numbered = sound.numbered;
      listed = sound.listed;
      order_closed = sound.order_closed;
      once = sound.once;
      ordered = sound.ordered;
    }
