-- A search stays sound when the last group is closed, once no require of it is left.
use Rattle.std.proofs.Common.{◌≡◌, ◌≢◌, ℕ, zero, suc, ◌+◌, ◌-◌, ◌<◌, ◌≤◌, List, [], ◌∷◌, ◌++◌, length, take, drop, refl, ap, sym, subst, ◌∙◌, arith, inl, inr, length-append, length-drop}
use Rattle.std.specs.Prelude.{Some, None, slice_get, Contains, map, ◌⊎◌}
use Rattle.std.proofs.lemmas.Option.{slice_get_within}
use Rattle.std.proofs.lemmas.List.{length-map, length-take-le}
use Rattle.std.proofs.lemmas.Bool.{cases_lt}
use Rattle.module_graph.specs.declared.node.Call.{Call}
use Rattle.module_graph.specs.declared.node.Node.{Node}
use Rattle.module_graph.specs.declared.search.Mark.{Mark}
use Rattle.module_graph.specs.declared.search.Mark.TheVariants.{New, Open, Closed}
use Rattle.module_graph.specs.Requires.{calls_at}
use Rattle.module_graph.specs.Search.{State, IsSearch, IsMet, IsJoined, Has, Rises, Leads, close_mark, closing, with_path, Settles}
use Rattle.module_graph.proofs.Lists.{slice_get-take, slice_get-taken, slice_get-drop, slice_get-append_cases, get-from_contains, Has-front, Has-behind, Has-cases, Has-last, Has-push_cases, Rises-front, Rises-below, Rises-top}
use Rattle.module_graph.proofs.Leading.{Leads-trans}
use Rattle.module_graph.proofs.Marks.{stays_open, becomes_closed, stays_closed, was_open, was_closed, was_new}
use Rattle.module_graph.proofs.Leaving.{going-left, path_rises-left, same-at}

module _ (nodes : List Node) (s : State) (sound : IsSearch nodes s) (x p next : ℕ) (open' : slice_get s.marks x ≡ Some (Open p next)) (path : List ℕ) (last : s.path ≡ path ++ p ∷ []) (done : length (calls_at nodes x) ≤ next) (starts : List ℕ) (begins : s.starts ≡ starts ++ p ∷ []) where
  abbrev number : ℕ
  number = length s.order

  abbrev after : State
  after = with_path (closing s p starts) path

  there_x : slice_get s.opened p ≡ Some x
  there_x = sound.there x p next open'

  p_within : p < length s.opened
  p_within = slice_get_within s.opened p x there_x

  -- the place on the path is the last one, and the last group begins there
  top : (r : ℕ) → Has s.path r → r ≤ p
  top r has = Rises-top path p r (subst (λ (l : List ℕ). Rises l) last sound.path_rises) (subst (λ (l : List ℕ). Has l r) last has)

  was_start : (r : ℕ) → Has starts r → Has s.starts r
  was_start r has = subst (λ (l : List ℕ). Has l r) (sym begins) (Has-front starts (p ∷ []) r has)

  starts_cases : (r : ℕ) → Has s.starts r → Has starts r ⊎ (r ≡ p)
  starts_cases r has = Has-push_cases starts p r (subst (λ (l : List ℕ). Has l r) begins has)

  start_before : (r : ℕ) → Has starts r → r < p
  start_before r has = Rises-below starts p r (subst (λ (l : List ℕ). Rises l) begins sound.starts_rise) has

  start_here : Has s.starts p
  start_here = subst (λ (l : List ℕ). Has l p) (sym begins) (Has-last starts p)

  path_cases : (r : ℕ) → Has s.path r → Has path r ⊎ (r ≡ p)
  path_cases r has = Has-push_cases path p r (subst (λ (l : List ℕ). Has l r) last has)

  path_before : (r : ℕ) → Has path r → r < p
  path_before r has = Rises-below path p r (subst (λ (l : List ℕ). Rises l) last sound.path_rises) has

  length-open : length after.opened ≡ p
  length-open = let within = p_within in length-take-le p s.opened (omega arith)

  -- what a place of the open modules has that is left
  left_open : (a z : ℕ) → slice_get after.opened a ≡ Some z → (a < p) × (slice_get s.opened a ≡ Some z)
  left_open a z e = slice_get-take s.opened p a z e

  closed_is_below : (z n : ℕ) → slice_get s.marks z ≡ Some (Closed n) → n < number
  closed_is_below z n e = sound.numbered z n e

  placed : (a z : ℕ) → slice_get after.opened a ≡ Some z → (n : ℕ) × (slice_get after.marks z ≡ Some (Open a n))
  placed a z e = let h = left_open a z e in let m = sound.placed a z h.1 in (m.0, stays_open s.marks p number z a m.0 m.1 h.0)

  there : (z a n : ℕ) → slice_get after.marks z ≡ Some (Open a n) → slice_get after.opened a ≡ Some z
  there z a n e = let h = was_open s.marks p number z a n e in slice_get-taken s.opened p a z h.0 (sound.there z a n h.1)

  back : (a b z w : ℕ) → b ≤ a → slice_get after.opened a ≡ Some z → slice_get after.opened b ≡ Some w → IsJoined starts b a → Leads nodes z w
  back a b z w le ea eb joined =
      let ha = left_open a z ea in
      let hb = left_open b w eb in
      sound.back a b z w le ha.1 hb.1 (λ r has below. elim (starts_cases r has) [
        | inl kept ↦ joined r kept below
        | inr here ↦ (let lt = ha.0 in absurd (omega arith))
      ])

  met : (z a n k w : ℕ) (call : Call) → slice_get after.marks z ≡ Some (Open a n) → k < n → slice_get (calls_at nodes z) k ≡ Some call → call.to ≡ Some w → IsMet after a w
  met z a n k w call e lt at means =
      let h = was_open s.marks p number z a n e in
      elim (sound.met z a n k w call h.1 lt at means) [
        | inl closed ↦ inl (closed.0, stays_closed s.marks p number w closed.0 closed.1)
        | inr group ↦ elim (cases_lt group.0 p) [
          | inl before ↦ inr (group.0, group.1, stays_open s.marks p number w group.0 group.1 group.2 before, (λ r has below. group.3 r (was_start r has) below))
          | inr from ↦ inl (number, becomes_closed s.marks p number w group.0 group.1 group.2 from)
        ]
      ]

  going : (z a n : ℕ) → slice_get after.marks z ≡ Some (Open a n) → Has path a ⊎ (length (calls_at nodes z) ≤ n)
  going z a n e = let h = was_open s.marks p number z a n e in going-left nodes s sound x p next open' path last done z a n h.1

  path_in : (r : ℕ) → Has path r → r < length after.opened
  path_in r has = let lt = path_before r has in let len = length-open in omega arith

  starts_in : (r : ℕ) → Has starts r → Has path r
  starts_in r has = elim (path_cases r (sound.starts_in r (was_start r has))) [
    | inl before ↦ before
    | inr here ↦ (let lt = start_before r has in absurd (omega arith))
  ]

  ground : 0 < length after.opened → Has starts 0
  ground some = elim (starts_cases 0 (sound.ground (let within = p_within in omega arith))) [
    | inl kept ↦ kept
    | inr here ↦ (let len = length-open in absurd (omega arith))
  ]

  -- every require of a module in the group leads to a closed module, or to one of the group
  closed : (z n w : ℕ) (call : Call) → slice_get after.marks z ≡ Some (Closed n) → Contains (calls_at nodes z) call → call.to ≡ Some w → (m : ℕ) × (slice_get after.marks w ≡ Some (Closed m)) × (m ≤ n)
  closed z n w call e has means = elim (was_closed s.marks p number z n e) [
    | inl old ↦ (let h = sound.closed z n w call old has means in (h.0, stays_closed s.marks p number w h.0 h.1, h.2))
    | inr new ↦
        (let k = get-from_contains (calls_at nodes z) call has in
        let within : k.0 < length (calls_at nodes z) = slice_get_within (calls_at nodes z) k.0 call k.1 in
        let from : p ≤ new.0 = new.3 in
        let same : n ≡ number = new.4 in
        let all : length (calls_at nodes z) ≤ new.1 =
        elim (going-left nodes s sound x p next open' path last done z new.0 new.1 new.2) [
          | inl on ↦ (let lt = path_before new.0 on in absurd (omega arith))
          | inr done' ↦ done'
        ] in
        elim (sound.met z new.0 new.1 k.0 w call new.2 (omega arith) k.1 means) [
          | inl before ↦ (let lt = sound.numbered w before.0 before.1 in (before.0, stays_closed s.marks p number w before.0 before.1, omega arith))
          | inr group ↦ (number, becomes_closed s.marks p number w group.0 group.1 group.2 (group.3 p start_here from), omega arith)
        ])
  ]

  -- the modules of the group lead to each other, by the first of them
  together_new : (a b z w : ℕ) → p ≤ a → p ≤ b → slice_get s.opened a ≡ Some z → slice_get s.opened b ≡ Some w → Leads nodes z w
  together_new a b z w from_a from_b ea eb =
      Leads-trans nodes z x w
      (sound.back a p z x from_a ea there_x (λ r has below. top r (sound.starts_in r has)))
      (sound.onward p b x w from_b there_x eb)

  together : (z w n : ℕ) → slice_get after.marks z ≡ Some (Closed n) → slice_get after.marks w ≡ Some (Closed n) → Leads nodes z w
  together z w n e f = elim (was_closed s.marks p number z n e) [
    | inl old ↦ elim (was_closed s.marks p number w n f) [
      | inl other ↦ sound.together z w n old other
      | inr new ↦ (let lt = sound.numbered z n old in let same = new.4 in absurd (omega arith))
    ]
    | inr new ↦ elim (was_closed s.marks p number w n f) [
      | inl other ↦ (let lt = sound.numbered w n other in let same = new.4 in absurd (omega arith))
      | inr other ↦ together_new new.0 other.0 z w new.3 other.3 (sound.there z new.0 new.1 new.2) (sound.there w other.0 other.1 other.2)
    ]
  ]

  length-order : length s.order < length after.order
  length-order = let within = p_within in omega (arith, length-append s.order (drop p s.opened), length-drop p s.opened)

  numbered : (z n : ℕ) → slice_get after.marks z ≡ Some (Closed n) → n < length after.order
  numbered z n e = let more = length-order in elim (was_closed s.marks p number z n e) [
    | inl old ↦ (let lt = sound.numbered z n old in omega arith)
    | inr new ↦ (let same = new.4 in omega arith)
  ]

  listed : (z n : ℕ) → slice_get after.marks z ≡ Some (Closed n) → Has after.order z
  listed z n e = elim (was_closed s.marks p number z n e) [
    | inl old ↦ Has-front s.order (drop p s.opened) z (sound.listed z n old)
    | inr new ↦
        (let from : p ≤ new.0 = new.3 in
        let place : p + (new.0 - p) ≡ new.0 = omega arith in
        Has-behind s.order (drop p s.opened) z (new.0 - p, slice_get-drop s.opened p (new.0 - p) ∙ (ap (λ i. slice_get s.opened i) place ∙ sound.there z new.0 new.1 new.2)))
  ]

  -- what stands behind the earlier closed modules has the new number
  newly_closed : (k z : ℕ) → slice_get (drop p s.opened) k ≡ Some z → slice_get after.marks z ≡ Some (Closed number)
  newly_closed k z e =
      let h = sound.placed (p + k) z (sym (slice_get-drop s.opened p k) ∙ e) in
      becomes_closed s.marks p number z (p + k) h.0 h.1 (omega arith)

  opened_at : (k z : ℕ) → slice_get (drop p s.opened) k ≡ Some z → (n : ℕ) × (slice_get s.marks z ≡ Some (Open (p + k) n))
  opened_at k z e = sound.placed (p + k) z (sym (slice_get-drop s.opened p k) ∙ e)

  same_place : (a b m n z : ℕ) → slice_get s.marks z ≡ Some (Open a m) → slice_get s.marks z ≡ Some (Open b n) → a ≡ b
  same_place a b m n z e f = let marks : Some (Open a m) ≡ Some (Open b n) = sym e ∙ f in cc

  order_closed : (z : ℕ) → Has after.order z → (n : ℕ) × (slice_get after.marks z ≡ Some (Closed n))
  order_closed z has = elim (Has-cases s.order (drop p s.opened) z has) [
    | inl old ↦ (let h = sound.order_closed z old in (h.0, stays_closed s.marks p number z h.0 h.1))
    | inr new ↦ (number, newly_closed new.0 z new.1)
  ]

  -- an earlier closed module keeps its number
  old_number : (i z n : ℕ) → slice_get s.order i ≡ Some z → slice_get after.marks z ≡ Some (Closed n) → slice_get s.marks z ≡ Some (Closed n)
  old_number i z n at e =
      let h = sound.order_closed z (i, at) in
      let now : slice_get after.marks z ≡ Some (Closed h.0) = stays_closed s.marks p number z h.0 h.1 in
      let marks : Some (Closed n) ≡ Some (Closed h.0) = sym e ∙ now in
      let same : h.0 ≡ n = cc in
      h.1 ∙ ap (λ k. Some (Closed k)) same

  new_number : (k z n : ℕ) → slice_get (drop p s.opened) k ≡ Some z → slice_get after.marks z ≡ Some (Closed n) → n ≡ number
  new_number k z n at e = let marks : Some (Closed n) ≡ Some (Closed number) = sym e ∙ newly_closed k z at in cc

  once : (i j z : ℕ) → slice_get after.order i ≡ Some z → slice_get after.order j ≡ Some z → i ≡ j
  once i j z e f = elim (slice_get-append_cases s.order (drop p s.opened) i z e) [
    | inl old ↦ elim (slice_get-append_cases s.order (drop p s.opened) j z f) [
      | inl other ↦ sound.once i j z old other
      | inr new ↦ (let h = sound.order_closed z (i, old) in let m = opened_at new.0 z new.2 in cc)
    ]
    | inr new ↦ elim (slice_get-append_cases s.order (drop p s.opened) j z f) [
      | inl other ↦ (let h = sound.order_closed z (j, other) in let m = opened_at new.0 z new.2 in cc)
      | inr other ↦
          (let m = opened_at new.0 z new.2 in
          let n = opened_at other.0 z other.2 in
          let places : p + new.0 ≡ p + other.0 = same_place (p + new.0) (p + other.0) m.0 n.0 z m.1 n.1 in
          let one = new.1 in
          let two = other.1 in
          omega arith)
    ]
  ]

  ordered : (i j z w m n : ℕ) → i ≤ j → slice_get after.order i ≡ Some z → slice_get after.order j ≡ Some w → slice_get after.marks z ≡ Some (Closed m) → slice_get after.marks w ≡ Some (Closed n) → m ≤ n
  ordered i j z w m n le ei ej e f = elim (slice_get-append_cases s.order (drop p s.opened) i z ei) [
    | inl old ↦ elim (slice_get-append_cases s.order (drop p s.opened) j w ej) [
      | inl other ↦ sound.ordered i j z w m n le old other (old_number i z m old e) (old_number j w n other f)
      | inr new ↦ (let lt = sound.numbered z m (old_number i z m old e) in let same = new_number new.0 w n new.2 f in omega arith)
    ]
    | inr new ↦ elim (slice_get-append_cases s.order (drop p s.opened) j w ej) [
      | inl other ↦ (let within = slice_get_within s.order j w other in let at = new.1 in absurd (omega arith))
      | inr other ↦ (let one = new_number new.0 z m new.2 e in let two = new_number other.0 w n other.2 f in omega arith)
    ]
  ]

  pub IsSearch-closed : IsSearch nodes after
  IsSearch-closed = record {
    marked = length-map s.marks (close_mark p number) ∙ sound.marked;
    placed = placed;
    there = there;
    onward = (λ a b z w le ea eb. sound.onward a b z w le (left_open a z ea).1 (left_open b w eb).1);
    back = back;
    met = met;
    going = going;
    path_in = path_in;
    path_rises = path_rises-left nodes s sound x p next open' path last done;
    starts_in = starts_in;
    starts_rise = Rises-front starts (p ∷ []) (subst (λ (l : List ℕ). Rises l) begins sound.starts_rise);
    ground = ground;
    closed = closed;
    together = together;
    numbered = numbered;
    listed = listed;
    order_closed = order_closed;
    once = once;
    ordered = ordered;
  }

  pub Settles-closed : Settles s after
  Settles-closed = record {
    closed = (λ z n e. stays_closed s.marks p number z n e);
    fresh = (λ z e. was_new s.marks p number z e);
  }
