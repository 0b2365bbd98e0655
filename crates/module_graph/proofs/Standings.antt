-- How modules stand, by what they require.
use Rattle.std.proofs.Common.{◌≡◌, ◌≢◌, ℕ, zero, suc, ◌+◌, ◌-◌, ◌<◌, ◌≤◌, ◌^◌, Bool, true, false, List, [], ◌∷◌, ◌++◌, length, refl, ap, sym, subst, ◌∙◌, arith, inl, inr, add-one}
use Rattle.std.specs.Prelude.{Option, Some, None, slice_get, Contains, ◌⊎◌}
use Rattle.std.proofs.lemmas.Bool.{cases_lt, cases_eq}
use Rattle.std.proofs.lemmas.Option.{slice_get_within}
use Rattle.module_graph.specs.declared.node.Call.{Call}
use Rattle.module_graph.specs.declared.node.Node.{Node}
use Rattle.module_graph.specs.declared.standing.Standing.{Standing}
use Rattle.module_graph.specs.declared.standing.Standing.TheVariants.{Refused, Skipped, Level}
use Rattle.module_graph.specs.Requires.{calls_at, refused_at, Requires, Reaches, directly, through, HasChain}
use Rattle.module_graph.specs.Fates.{IsRefused, already, misses, cyclic, IsSkipped, by_refused, by_skipped, IsLevel, Misses, IsCyclic}
use Rattle.module_graph.specs.Search.{IsGraph, Has, Leads}
use Rattle.module_graph.specs.Components.{AreComponents}
use Rattle.module_graph.specs.Standing.{Refuses, IsStanding}
use Rattle.std.proofs.Common.{get_or, max}
use Rattle.module_graph.proofs.Lists.{get-below, get-from_contains, Contains-from_get, calls_at-index}
use Rattle.module_graph.proofs.Leading.{Requires-at, Reaches-step}

-- whether a module that is read was refused already
pub refused_at-get : (nodes : List Node) (file : ℕ) (node : Node) → slice_get nodes file ≡ Some node → refused_at nodes file ≡ node.refused
refused_at-get [] file node e = cc
refused_at-get (n ∷ nodes) zero node e = let same : n ≡ node = cc in ap (λ (k : Node). k.refused) same
refused_at-get (n ∷ nodes) (suc file) node e = refused_at-get nodes file node e

module _ (nodes : List Node) (graph : IsGraph nodes) (numbers order : List ℕ) (components : AreComponents nodes numbers order) where
  -- a module that is required is there, and has a number
  pub number_at : (file : ℕ) → file < length nodes → (n : ℕ) × (slice_get numbers file ≡ Some n)
  number_at file within = let same = components.numbered in get-below numbers file (omega arith)

  pub required_within : (file to : ℕ) → Requires nodes file to → to < length nodes
  required_within file to requires = graph file to requires.0 requires.1 requires.2

  -- numbers never rise along requires
  pub number-reached : (a b m n : ℕ) → Reaches nodes a b → slice_get numbers a ≡ Some m → slice_get numbers b ≡ Some n → n ≤ m
  number-reached a b m n (directly one) em en = components.downward a b m n one em en
  number-reached a b m n (through {next = c} one rest) em en =
      let k = number_at c (required_within a c one) in
      let first = components.downward a c m k.0 one em k.1 in
      let further = number-reached c b k.0 n rest k.1 en in
      omega arith

  -- a module with a require into its own group is on a cycle
  pub IsCyclic-from_number : (file to own : ℕ) → Requires nodes file to → slice_get numbers file ≡ Some own → slice_get numbers to ≡ Some own → IsCyclic nodes file
  IsCyclic-from_number file to own requires e f = Reaches-step nodes file to file requires (components.together to file own f e)

  -- a module on a cycle has such a require
  pub number-from_cycle : (file to own : ℕ) → Requires nodes file to → Leads nodes to file → slice_get numbers file ≡ Some own → slice_get numbers to ≡ Some own
  number-from_cycle file to own requires (inl same) e = subst (λ (k : ℕ). slice_get numbers k ≡ Some own) (sym same) e
  number-from_cycle file to own requires (inr back) e =
      let n = number_at to (required_within file to requires) in
      let down = components.downward file to own n.0 requires e n.1 in
      let up = number-reached to file n.0 own back n.1 e in
      let same : n.0 ≡ own = omega arith in
      n.1 ∙ ap Some same

  module _ (file own : ℕ) (number : slice_get numbers file ≡ Some own) where
    -- a require that refuses is a reason
    pub IsRefused-by : (call : Call) → Contains (calls_at nodes file) call → Refuses numbers own call.to → IsRefused nodes file
    IsRefused-by call has refuses = go call.to refl refuses
      where
        go : (to : Option ℕ) → call.to ≡ to → Refuses numbers own to → IsRefused nodes file
        go None e r = misses (call, has, e)
        go (Some to) e r = cyclic (IsCyclic-from_number file to own (call, has, e) number r)

    Refuses-at : (call : Call) (to : Option ℕ) → call.to ≡ to → Refuses numbers own to → Refuses numbers own call.to
    Refuses-at call to e r = subst (λ (o : Option ℕ). Refuses numbers own o) (sym e) r

    -- without one, and if it wasn't refused already, the module isn't refused
    pub not_refused : refused_at nodes file ≡ false → ((call : Call) → Contains (calls_at nodes file) call → Refuses numbers own call.to → ⊥) → IsRefused nodes file → ⊥
    not_refused fresh none (already is) = cc
    not_refused fresh none (misses missing) = none missing.0 missing.1 (Refuses-at missing.0 None missing.2 tt)
    not_refused fresh none (cyclic (directly one)) = none one.0 one.1 (Refuses-at one.0 (Some file) one.2 number)
    not_refused fresh none (cyclic (through {next = next} one back)) = none one.0 one.1 (Refuses-at one.0 (Some next) one.2 (number-from_cycle file next own one (inr back) number))

  module _ (file : ℕ) (free : IsRefused nodes file → ⊥) (own : ℕ) (number : slice_get numbers file ≡ Some own) where
    -- what a module that isn't refused requires has a lower number
    pub number_below : (to n : ℕ) → Requires nodes file to → slice_get numbers to ≡ Some n → n < own
    number_below to n requires e =
        let down = components.downward file to own n requires number e in
        elim (cases_eq n own) [
          | inl same ↦ absurd (free (cyclic (IsCyclic-from_number file to own requires number (e ∙ ap Some same))))
          | inr differ ↦ omega arith
        ]

    module _ (standings : List Standing) (settled : (to n : ℕ) (standing : Standing) → Requires nodes file to → slice_get numbers to ≡ Some n → slice_get standings to ≡ Some standing → IsStanding nodes to n standing) where
      -- what stands at a level of what it requires
      pub stands_at : (to n : ℕ) → Requires nodes file to → slice_get standings to ≡ Some (Level n) → (IsRefused nodes to → ⊥) × (IsSkipped nodes to → ⊥) × IsLevel nodes to n × (n < own)
      stands_at to n requires e =
          let m = number_at to (required_within file to requires) in
          let h = settled to m.0 (Level n) requires m.1 e in
          let low = number_below to m.0 requires m.1 in
          let le = h.3 in
          (h.0, h.1, h.2, omega arith)

      pub IsSkipped-from : (to : ℕ) (standing : Standing) → Requires nodes file to → slice_get standings to ≡ Some standing → ((level : ℕ) → standing ≡ Level level → ⊥) → IsSkipped nodes file
      IsSkipped-from to Refused requires e other = let m = number_at to (required_within file to requires) in by_refused free requires (settled to m.0 Refused requires m.1 e)
      IsSkipped-from to Skipped requires e other = let m = number_at to (required_within file to requires) in by_skipped free requires (settled to m.0 Skipped requires m.1 e)
      IsSkipped-from to (Level n) requires e other = absurd (other n refl)

      module _ (level : ℕ) (all : (to : ℕ) → Requires nodes file to → (n : ℕ) × (slice_get standings to ≡ Some (Level n)) × (n + 1 ≤ level)) (one : (level ≡ 0) ⊎ ((to n : ℕ) × Requires nodes file to × (slice_get standings to ≡ Some (Level n)) × (level ≡ n + 1))) where
        not_skipped : IsSkipped nodes file → ⊥
        not_skipped (by_refused {next = to} own' requires refused) = let h = all to requires in (stands_at to h.0 requires h.1).0 refused
        not_skipped (by_skipped {next = to} own' requires skipped) = let h = all to requires in (stands_at to h.0 requires h.1).1 skipped

        chain : HasChain nodes file level
        chain = elim one [
          | inl none ↦ subst (λ (k : ℕ). HasChain nodes file k) (sym none) tt
          | inr some ↦ subst (λ (k : ℕ). HasChain nodes file k) (sym (some.4 ∙ add-one some.1)) (some.0, some.2, (stands_at some.0 some.1 some.2 some.3).2.chain)
        ]

        longest : (more : ℕ) → HasChain nodes file more → more ≤ level
        longest zero h = omega arith
        longest (suc more) h =
            let at = all h.0 h.1 in
            let le = (stands_at h.0 at.0 h.1 at.1).2.longest more h.2 in
            let below = at.2 in
            omega arith

        bound : level ≤ own
        bound = elim one [
          | inl none ↦ omega arith
          | inr some ↦ (let lt = (stands_at some.0 some.1 some.2 some.3).3 in let same = some.4 in omega arith)
        ]

        pub IsStanding-level : IsStanding nodes file own (Level level)
        IsStanding-level = (free, not_skipped, record { chain = chain; longest = longest }, bound)

-- the requires of a module, as they are read
pub calls-read : (nodes : List Node) (file : ℕ) (node : Node) (items : List Call) → node ≡ get_or nodes file node → file < length nodes → items ≡ (get_or nodes file node).calls → items ≡ calls_at nodes file
calls-read nodes file node items is within e =
    e ∙ (ap (λ (n : Node). n.calls) (sym is) ∙ sym (calls_at-index nodes file node is within))

-- one require more is no reason to refuse
pub no_reason-more : (numbers : List ℕ) (own i : ℕ) (calls : List Call) (call : Call) → slice_get calls i ≡ Some call → (Refuses numbers own call.to → ⊥) → ((k : ℕ) (other : Call) → k < i → slice_get calls k ≡ Some other → Refuses numbers own other.to → ⊥) → (k : ℕ) (other : Call) → k < i + 1 → slice_get calls k ≡ Some other → Refuses numbers own other.to → ⊥
no_reason-more numbers own i calls call here fine before k other below e refuses =
    elim (cases_lt k i) [
      | inl lt ↦ before k other lt e refuses
      | inr le ↦
          (let at : i ≡ k = omega arith in
          let both : Some call ≡ Some other = sym here ∙ (ap (λ j. slice_get calls j) at ∙ e) in
          let same : call ≡ other = cc in
          fine (subst (λ (c : Call). Refuses numbers own c.to) (sym same) refuses))
    ]

-- the requires that were looked at have levels below the one so far, and one of them has the level below it
pub record AreBelow (nodes : List Node) (file : ℕ) (calls : List Call) (standings : List Standing) (i level : ℕ) : Type 0 where
  pub all : (k to : ℕ) (call : Call) → k < i → slice_get calls k ≡ Some call → call.to ≡ Some to → (n : ℕ) × (slice_get standings to ≡ Some (Level n)) × (n + 1 ≤ level)
  pub one : (level ≡ 0) ⊎ ((to n : ℕ) × Requires nodes file to × (slice_get standings to ≡ Some (Level n)) × (level ≡ n + 1))

pub AreBelow-none : (nodes : List Node) (file : ℕ) (calls : List Call) (standings : List Standing) → AreBelow nodes file calls standings 0 0
AreBelow-none nodes file calls standings = record { all = (λ k to call lt e means. absurd (omega arith)); one = inl refl }

module _ (nodes : List Node) (file : ℕ) (calls : List Call) (standings : List Standing) (i level : ℕ) (below : AreBelow nodes file calls standings i level) (call : Call) (here : slice_get calls i ≡ Some call) where
  is_this : (k : ℕ) (other : Call) → i ≤ k → k < i + 1 → slice_get calls k ≡ Some other → call ≡ other
  is_this k other le lt e =
      let at : i ≡ k = omega arith in
      let both : Some call ≡ Some other = sym here ∙ (ap (λ j. slice_get calls j) at ∙ e) in
      cc

  -- a require that means no module changes nothing
  pub AreBelow-skip : ((to : ℕ) → call.to ≡ Some to → ⊥) → AreBelow nodes file calls standings (i + 1) level
  AreBelow-skip nothing = record {
    all = (λ k to other lt e means. elim (cases_lt k i) [
      | inl before ↦ below.all k to other before e means
      | inr le ↦ (let same = is_this k other le lt e in absurd (nothing to (ap (λ (c : Call). c.to) same ∙ means)))
    ]);
    one = below.one;
  }

  -- one that means a module with a level raises the level so far above it
  pub AreBelow-more : (to n : ℕ) → call.to ≡ Some to → calls ≡ calls_at nodes file → slice_get standings to ≡ Some (Level n) → (raised : ℕ) → raised ≡ max level (n + 1) → AreBelow nodes file calls standings (i + 1) raised
  AreBelow-more to n means of stands raised is = record {
    all = (λ k t other lt e also. elim (cases_lt k i) [
      | inl before ↦ (let h = below.all k t other before e also in let le = h.2 in (h.0, h.1, omega arith))
      | inr le ↦
          (let same = is_this k other le lt e in
          let both : Some to ≡ Some t = sym means ∙ (ap (λ (c : Call). c.to) same ∙ also) in
          let one : to ≡ t = cc in
          (n, ap (λ j. slice_get standings j) (sym one) ∙ stands, omega arith))
    ]);
    one = elim (cases_lt level (n + 1)) [
      | inl lower ↦ inr (to, n, Requires-at nodes file to i call (ap (λ (l : List Call). slice_get l i) (sym of) ∙ here) means, stands, omega arith)
      | inr higher ↦
          (let kept : raised ≡ level = omega arith in
          elim below.one [
            | inl none ↦ absurd (omega arith)
            | inr some ↦ inr (some.0, some.1, some.2, some.3, kept ∙ some.4)
          ])
    ];
  }
