-- A search stays sound when the next require of an open module is looked at.
use Rattle.std.proofs.Common.{◌≡◌, ◌≢◌, ℕ, zero, suc, ◌+◌, ◌<◌, ◌≤◌, List, [], ◌∷◌, ◌++◌, length, refl, ap, sym, subst, ◌∙◌, arith, inl, inr}
use Rattle.std.specs.Prelude.{Some, None, slice_get, slice_set, Contains, ◌⊎◌}
use Rattle.std.proofs.lemmas.List.{length-set}
use Rattle.std.proofs.lemmas.Bool.{cases_lt, cases_eq}
use Rattle.module_graph.specs.declared.node.Call.{Call}
use Rattle.module_graph.specs.declared.node.Node.{Node}
use Rattle.module_graph.specs.declared.search.Mark.{Mark}
use Rattle.module_graph.specs.declared.search.Mark.TheVariants.{New, Open, Closed}
use Rattle.module_graph.specs.Requires.{calls_at}
use Rattle.module_graph.specs.Search.{State, IsSearch, IsMet, IsJoined, Has, Rises, Leads, advanced, Settles}
use Rattle.module_graph.proofs.Lists.{slice_get-set_same, slice_get-set_other, slice_get-set_cases}

module _ (nodes : List Node) (s : State) (sound : IsSearch nodes s) (x p next : ℕ) (open' : slice_get s.marks x ≡ Some (Open p next)) (call : Call) (here : slice_get (calls_at nodes x) next ≡ Some call) (leads : (y : ℕ) → call.to ≡ Some y → IsMet s p y) where
  -- a module that isn't this one keeps its mark
  kept : (z : ℕ) (mark : Mark) → z ≢ x → slice_get s.marks z ≡ Some mark → slice_get (advanced s x p next).marks z ≡ Some mark
  kept z mark differ e = slice_get-set_other s.marks x (Open p (next + 1)) z differ ∙ e

  kept_closed : (z n : ℕ) → slice_get s.marks z ≡ Some (Closed n) → slice_get (advanced s x p next).marks z ≡ Some (Closed n)
  kept_closed z n e = kept z (Closed n) (λ same. cc) e

  now_open : slice_get (advanced s x p next).marks x ≡ Some (Open p (next + 1))
  now_open = slice_get-set_same s.marks x (Open p (next + 1)) (Open p next) open'

  was : (z : ℕ) (mark : Mark) → slice_get (advanced s x p next).marks z ≡ Some mark → ((z ≡ x) × (mark ≡ Open p (next + 1))) ⊎ ((z ≢ x) × (slice_get s.marks z ≡ Some mark))
  was z mark e = slice_get-set_cases s.marks x (Open p (next + 1)) z mark e

  was_closed : (z n : ℕ) → slice_get (advanced s x p next).marks z ≡ Some (Closed n) → slice_get s.marks z ≡ Some (Closed n)
  was_closed z n e = elim (was z (Closed n) e) [ inl h ↦ (let differ = h.1 in cc) | inr h ↦ h.1 ]

  -- an open module has the same place, and one more require looked at if it is this one
  still_open : (z q n : ℕ) → slice_get s.marks z ≡ Some (Open q n) → (m : ℕ) × (slice_get (advanced s x p next).marks z ≡ Some (Open q m))
  still_open z q n e = elim (cases_eq z x) [
    | inl same ↦ (let at : p ≡ q = cc in (next + 1, ap (λ k. slice_get (advanced s x p next).marks k) same ∙ (now_open ∙ ap (λ k. Some (Open k (next + 1))) at)))
    | inr differ ↦ (n, kept z (Open q n) differ e)
  ]

  still_met : (q y : ℕ) → IsMet s q y → IsMet (advanced s x p next) q y
  still_met q y (inl closed) = inl (closed.0, kept_closed y closed.0 closed.1)
  still_met q y (inr group) = (let h = still_open y group.0 group.1 group.2 in inr (group.0, h.0, h.1, group.3))

  there : (z q n : ℕ) → slice_get (advanced s x p next).marks z ≡ Some (Open q n) → slice_get s.opened q ≡ Some z
  there z q n e = elim (was z (Open q n) e) [
    | inl new ↦
        (let marks = new.1 in
        let at : q ≡ p = cc in
        ap (λ k. slice_get s.opened k) at ∙ (sound.there x p next open' ∙ ap Some (sym new.0)))
    | inr old ↦ sound.there z q n old.1
  ]

  met : (z q n k y : ℕ) (other : Call) → slice_get (advanced s x p next).marks z ≡ Some (Open q n) → k < n → slice_get (calls_at nodes z) k ≡ Some other → other.to ≡ Some y → IsMet (advanced s x p next) q y
  met z q n k y other e lt at means = elim (was z (Open q n) e) [
    | inl new ↦
        (let marks = new.1 in
        let place : q ≡ p = cc in
        let count : n ≡ next + 1 = cc in
        let in_this : slice_get (calls_at nodes x) k ≡ Some other = ap (λ i. slice_get (calls_at nodes i) k) (sym new.0) ∙ at in
        still_met q y (subst (λ (i : ℕ). IsMet s i y) (sym place)
        (elim (cases_lt k next) [
          | inl earlier ↦ sound.met x p next k y other open' earlier in_this means
          | inr last ↦
              (let now : k ≡ next = omega arith in
              let same : Some other ≡ Some call = sym in_this ∙ (ap (λ i. slice_get (calls_at nodes x) i) now ∙ here) in
              let one : other ≡ call = cc in
              leads y (sym (ap (λ (c : Call). c.to) one) ∙ means))
        ])))
    | inr old ↦ still_met q y (sound.met z q n k y other old.1 lt at means)
  ]

  going : (z q n : ℕ) → slice_get (advanced s x p next).marks z ≡ Some (Open q n) → Has s.path q ⊎ (length (calls_at nodes z) ≤ n)
  going z q n e = elim (was z (Open q n) e) [
    | inl new ↦
        (let marks = new.1 in
        let place : p ≡ q = cc in
        let count : n ≡ next + 1 = cc in
        elim (sound.going x p next open') [
          | inl on ↦ inl (subst (λ (i : ℕ). Has s.path i) place on)
          | inr all ↦ inr (subst (λ (i : ℕ). length (calls_at nodes i) ≤ n) (sym new.0) (omega arith))
        ])
    | inr old ↦ sound.going z q n old.1
  ]

  pub IsSearch-advanced : IsSearch nodes (advanced s x p next)
  IsSearch-advanced = record {
    marked = length-set s.marks x (Open p (next + 1)) ∙ sound.marked;
    placed = (λ q z e. let h = sound.placed q z e in still_open z q h.0 h.1);
    there = there;
    onward = sound.onward;
    back = sound.back;
    met = met;
    going = going;
    path_in = sound.path_in;
    path_rises = sound.path_rises;
    starts_in = sound.starts_in;
    starts_rise = sound.starts_rise;
    ground = sound.ground;
    closed = (λ z n y other e has means. let h = sound.closed z n y other (was_closed z n e) has means in (h.0, kept_closed y h.0 h.1, h.2));
    together = (λ z y n e f. sound.together z y n (was_closed z n e) (was_closed y n f));
    numbered = (λ z n e. sound.numbered z n (was_closed z n e));
    listed = (λ z n e. sound.listed z n (was_closed z n e));
    order_closed = (λ z has. let h = sound.order_closed z has in (h.0, kept_closed z h.0 h.1));
    once = sound.once;
    ordered = (λ i j z y m n le ei ej e f. sound.ordered i j z y m n le ei ej (was_closed z m e) (was_closed y n f));
  }

  pub Settles-advanced : Settles s (advanced s x p next)
  Settles-advanced = record {
    closed = (λ z n e. kept_closed z n e);
    fresh = (λ z e. elim (was z New e) [ inl h ↦ (let differ = h.1 in cc) | inr h ↦ h.1 ]);
  }
