-- A search stays sound when a new module is met.
use Rattle.std.proofs.Common.{◌≡◌, ◌≢◌, ℕ, zero, suc, ◌+◌, ◌<◌, ◌≤◌, List, [], ◌∷◌, ◌++◌, length, refl, ap, sym, subst, ◌∙◌, arith, inl, inr, length-append}
use Rattle.std.specs.Prelude.{Some, None, slice_get, slice_set, Contains, ◌⊎◌}
use Rattle.std.proofs.lemmas.Option.{slice_get_within}
use Rattle.std.proofs.lemmas.List.{length-set}
use Rattle.std.proofs.lemmas.Bool.{cases_lt}
use Rattle.module_graph.specs.declared.node.Call.{Call}
use Rattle.module_graph.specs.declared.node.Node.{Node}
use Rattle.module_graph.specs.declared.search.Mark.{Mark}
use Rattle.module_graph.specs.declared.search.Mark.TheVariants.{New, Open, Closed}
use Rattle.module_graph.specs.Requires.{calls_at}
use Rattle.module_graph.specs.Search.{State, IsSearch, IsMet, IsJoined, Has, Rises, Leads, entered, Settles}
use Rattle.module_graph.proofs.Lists.{slice_get-front, slice_get-last, slice_get-push_cases, slice_get-set_same, slice_get-set_other, slice_get-set_cases, Has-front, Has-last, Has-push_cases, Rises-push}

module _ (nodes : List Node) (s : State) (sound : IsSearch nodes s) (y : ℕ) (fresh : slice_get s.marks y ≡ Some New) (led : (p x : ℕ) → slice_get s.opened p ≡ Some x → Leads nodes x y) where
  -- a module with another mark keeps it
  pub kept-entered : (x : ℕ) (mark : Mark) → slice_get s.marks x ≡ Some mark → (mark ≡ New → ⊥) → slice_get (entered s y).marks x ≡ Some mark
  kept-entered x mark e old = slice_get-set_other s.marks y (Open (length s.opened) 0) x (λ same. old cc) ∙ e

  -- what a module's mark was
  was : (x : ℕ) (mark : Mark) → slice_get (entered s y).marks x ≡ Some mark → ((x ≡ y) × (mark ≡ Open (length s.opened) 0)) ⊎ ((x ≢ y) × (slice_get s.marks x ≡ Some mark))
  was x mark e = slice_get-set_cases s.marks y (Open (length s.opened) 0) x mark e

  pub now_open : slice_get (entered s y).marks y ≡ Some (Open (length s.opened) 0)
  now_open = slice_get-set_same s.marks y (Open (length s.opened) 0) New fresh

  was_closed : (x n : ℕ) → slice_get (entered s y).marks x ≡ Some (Closed n) → slice_get s.marks x ≡ Some (Closed n)
  was_closed x n e = elim (was x (Closed n) e) [ inl h ↦ (let differ = h.1 in cc) | inr h ↦ h.1 ]

  open_cases : (p x : ℕ) → slice_get (entered s y).opened p ≡ Some x → (slice_get s.opened p ≡ Some x) ⊎ ((p ≡ length s.opened) × (x ≡ y))
  open_cases p x e = slice_get-push_cases s.opened y p x e

  placed : (p x : ℕ) → slice_get (entered s y).opened p ≡ Some x → (next : ℕ) × (slice_get (entered s y).marks x ≡ Some (Open p next))
  placed p x e = elim (open_cases p x e) [
    | inl old ↦ (let h = sound.placed p x old in (h.0, kept-entered x (Open p h.0) h.1 (λ e. cc)))
    | inr new ↦ (0, ap (λ k. slice_get (entered s y).marks k) new.1 ∙ (now_open ∙ ap (λ k. Some (Open k 0)) (sym new.0)))
  ]

  there : (x p next : ℕ) → slice_get (entered s y).marks x ≡ Some (Open p next) → slice_get (entered s y).opened p ≡ Some x
  there x p next e = elim (was x (Open p next) e) [
    | inl new ↦
        (let marks = new.1 in
        let at : p ≡ length s.opened = cc in
        ap (λ k. slice_get (s.opened ++ y ∷ []) k) at ∙ (slice_get-last s.opened y ∙ ap Some (sym new.0)))
    | inr old ↦ slice_get-front s.opened (y ∷ []) p x (sound.there x p next old.1)
  ]

  onward : (p q x z : ℕ) → p ≤ q → slice_get (entered s y).opened p ≡ Some x → slice_get (entered s y).opened q ≡ Some z → Leads nodes x z
  onward p q x z le ep eq = elim (open_cases p x ep) [
    | inl old ↦ elim (open_cases q z eq) [
      | inl other ↦ sound.onward p q x z le old other
      | inr new ↦ subst (λ (k : ℕ). Leads nodes x k) (sym new.1) (led p x old)
    ]
    | inr new ↦ elim (open_cases q z eq) [
      | inl other ↦ (let within = slice_get_within s.opened q z other in let at = new.0 in absurd (omega arith))
      | inr other ↦ inl (new.1 ∙ sym other.1)
    ]
  ]

  back : (p q x z : ℕ) → q ≤ p → slice_get (entered s y).opened p ≡ Some x → slice_get (entered s y).opened q ≡ Some z → IsJoined (entered s y).starts q p → Leads nodes x z
  back p q x z le ep eq joined = elim (open_cases p x ep) [
    | inl old ↦ elim (open_cases q z eq) [
      | inl other ↦ sound.back p q x z le old other (λ start has below. joined start (Has-front s.starts (length s.opened ∷ []) start has) below)
      | inr other ↦ (let within = slice_get_within s.opened p x old in let at = other.0 in absurd (omega arith))
    ]
    | inr new ↦ elim (open_cases q z eq) [
      | inl other ↦
          (let within = slice_get_within s.opened q z other in
          let at = new.0 in
          let low : length s.opened ≤ q = joined (length s.opened) (Has-last s.starts (length s.opened)) (omega arith) in
          absurd (omega arith))
      | inr other ↦ inl (new.1 ∙ sym other.1)
    ]
  ]

  met : (x p next k z : ℕ) (call : Call) → slice_get (entered s y).marks x ≡ Some (Open p next) → k < next → slice_get (calls_at nodes x) k ≡ Some call → call.to ≡ Some z → IsMet (entered s y) p z
  met x p next k z call e lt at means = elim (was x (Open p next) e) [
    | inl new ↦ (let marks = new.1 in let none : next ≡ 0 = cc in absurd (omega arith))
    | inr old ↦ elim (sound.met x p next k z call old.1 lt at means) [
      | inl closed ↦ inl (closed.0, kept-entered z (Closed closed.0) closed.1 (λ e. cc))
      | inr open' ↦ inr (
        open'.0,
        open'.1,
        kept-entered z (Open open'.0 open'.1) open'.2 (λ e. cc),
        (λ start has below. elim (Has-push_cases s.starts (length s.opened) start has) [
          | inl before ↦ open'.3 start before below
          | inr last ↦ (let within = slice_get_within s.opened p x (sound.there x p next old.1) in absurd (omega arith))
        ]),
      )
    ]
  ]

  going : (x p next : ℕ) → slice_get (entered s y).marks x ≡ Some (Open p next) → Has (entered s y).path p ⊎ (length (calls_at nodes x) ≤ next)
  going x p next e = elim (was x (Open p next) e) [
    | inl new ↦
        (let marks = new.1 in
        let at : length s.opened ≡ p = cc in
        inl (subst (λ (k : ℕ). Has (entered s y).path k) at (Has-last s.path (length s.opened))))
    | inr old ↦ elim (sound.going x p next old.1) [
      | inl on ↦ inl (Has-front s.path (length s.opened ∷ []) p on)
      | inr all ↦ inr all
    ]
  ]

  path_in : (p : ℕ) → Has (entered s y).path p → p < length (entered s y).opened
  path_in p has = elim (Has-push_cases s.path (length s.opened) p has) [
    | inl old ↦ (let within = sound.path_in p old in omega (arith, length-append s.opened (y ∷ [])))
    | inr new ↦ omega (arith, length-append s.opened (y ∷ []))
  ]

  starts_in : (p : ℕ) → Has (entered s y).starts p → Has (entered s y).path p
  starts_in p has = elim (Has-push_cases s.starts (length s.opened) p has) [
    | inl old ↦ Has-front s.path (length s.opened ∷ []) p (sound.starts_in p old)
    | inr new ↦ subst (λ (k : ℕ). Has (entered s y).path k) (sym new) (Has-last s.path (length s.opened))
  ]

  ground : Has (entered s y).starts 0
  ground = elim (cases_lt 0 (length s.opened)) [
    | inl some ↦ Has-front s.starts (length s.opened ∷ []) 0 (sound.ground some)
    | inr none ↦ (let zero_is : length s.opened ≡ 0 = omega arith in subst (λ (k : ℕ). Has (entered s y).starts k) zero_is (Has-last s.starts (length s.opened)))
  ]

  pub IsSearch-entered : IsSearch nodes (entered s y)
  IsSearch-entered = record {
    marked = length-set s.marks y (Open (length s.opened) 0) ∙ sound.marked;
    placed = placed;
    there = there;
    onward = onward;
    back = back;
    met = met;
    going = going;
    path_in = path_in;
    path_rises = Rises-push s.path (length s.opened) sound.path_rises sound.path_in;
    starts_in = starts_in;
    starts_rise = Rises-push s.starts (length s.opened) sound.starts_rise (λ x has. sound.path_in x (sound.starts_in x has));
    ground = (λ some. ground);
    closed = (λ x n z call e has means. let h = sound.closed x n z call (was_closed x n e) has means in (h.0, kept-entered z (Closed h.0) h.1 (λ e. cc), h.2));
    together = (λ x z n e f. sound.together x z n (was_closed x n e) (was_closed z n f));
    numbered = (λ x n e. sound.numbered x n (was_closed x n e));
    listed = (λ x n e. sound.listed x n (was_closed x n e));
    order_closed = (λ x has. let h = sound.order_closed x has in (h.0, kept-entered x (Closed h.0) h.1 (λ e. cc)));
    once = sound.once;
    ordered = (λ i j x z m n le ei ej e f. sound.ordered i j x z m n le ei ej (was_closed x m e) (was_closed z n f));
  }

  -- the new module is met, from each open one
  pub IsMet-entered : (p : ℕ) → p < length s.opened → IsMet (entered s y) p y
  IsMet-entered p lt = inr (length s.opened, 0, now_open, (λ start has below. omega arith))

  pub Settles-entered : Settles s (entered s y)
  Settles-entered = record {
    closed = (λ x n e. kept-entered x (Closed n) e (λ e. cc));
    fresh = (λ x e. elim (was x New e) [ inl h ↦ (let differ = h.1 in cc) | inr h ↦ h.1 ]);
  }
