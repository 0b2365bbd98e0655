-- What becomes of modules, by how they stand.
use Rattle.std.proofs.Common.{◌≡◌, ◌≢◌, ℕ, zero, suc, ◌+◌, ◌-◌, ◌<◌, ◌≤◌, Bool, true, false, List, [], ◌∷◌, ◌++◌, length, take, drop, get_or, refl, ap, sym, subst, ◌∙◌, arith, inl, inr, add-one}
use Rattle.std.specs.Prelude.{Option, Some, None, slice_get, Contains, map, All, IfSome, ◌⊎◌}
use Rattle.std.specs.Option.{option_and_then, option_eq}
use Rattle.std.specs.Prelude.{nat_eq}
use Rattle.std.specs.List.{cons_option}
use Rattle.std.specs.List.{filter_map}
use Rattle.std.proofs.lemmas.Bool.{cases_lt, cases_eq, eqb-true, eqb-false}
use Rattle.std.proofs.lemmas.Option.{slice_get_within, slice_get-get_or, get_or_from_slice_get}
use Rattle.luau_tree.specs.declared.position.Span.{Span}
use Rattle.module_graph.specs.declared.node.Call.{Call}
use Rattle.module_graph.specs.declared.node.Node.{Node}
use Rattle.module_graph.specs.declared.standing.Standing.{Standing}
use Rattle.module_graph.specs.declared.standing.Standing.TheVariants.{Refused, Skipped, Level}
use Rattle.module_graph.specs.Requires.{calls_at, refused_at, Requires, Reaches, directly, through}
use Rattle.module_graph.specs.Fates.{IsRefused, already, misses, cyclic, IsSkipped, by_refused, by_skipped, IsLevel, Misses, IsCyclic, IsLeast, IsFirst, IsNoLater, LeadsBack, IsStopping, IsStopped}
use Rattle.module_graph.specs.Search.{IsGraph, Leads}
use Rattle.module_graph.specs.Components.{AreComponents}
use Rattle.module_graph.specs.Standing.{Refuses, IsStanding, group_of, IsLeastOf, Stops, AreLevelled, AreStandings}
use Rattle.module_graph.proofs.Lists.{get-below, get-from_contains, Contains-from_get, slice_get-take, slice_get-taken, slice_get-front}
use Rattle.module_graph.proofs.Leading.{Requires-at, Reaches-step}
use Rattle.module_graph.proofs.Standings.{number_at, required_within, number-from_cycle, IsCyclic-from_number, not_refused}

pub IsNoLater-trans : (a b c : Span) → IsNoLater a b → IsNoLater b c → IsNoLater a c
IsNoLater-trans a b c (inl x) (inl y) = inl (omega arith)
IsNoLater-trans a b c (inl x) (inr y) = let e = y.0 in inl (omega arith)
IsNoLater-trans a b c (inr x) (inl y) = let e = x.0 in inl (omega arith)
IsNoLater-trans a b c (inr x) (inr y) = let e = x.0 in let f = y.0 in let l = x.1 in let m = y.1 in inr (omega arith, omega arith)

-- what a longer front has is in the shorter one, or is the item between
pub front-cases : (calls : List Call) (i : ℕ) (call other : Call) → slice_get calls i ≡ Some call → Contains (take (i + 1) calls) other → Contains (take i calls) other ⊎ (call ≡ other)
front-cases calls i call other here has =
    let k = get-from_contains (take (i + 1) calls) other has in
    let at = slice_get-take calls (i + 1) k.0 other k.1 in
    let below = at.0 in
    elim (cases_lt k.0 i) [
      | inl before ↦ inl (Contains-from_get (take i calls) k.0 other (slice_get-taken calls i k.0 other before at.1))
      | inr last ↦
          (let place : i ≡ k.0 = omega arith in
          let both : Some call ≡ Some other = sym here ∙ (ap (λ j. slice_get calls j) place ∙ at.1) in
          inr cc)
    ]

pub front-more : (calls : List Call) (i : ℕ) (other : Call) → Contains (take i calls) other → Contains (take (i + 1) calls) other
front-more calls i other has =
    let k = get-from_contains (take i calls) other has in
    let at = slice_get-take calls i k.0 other k.1 in
    let below = at.0 in
    Contains-from_get (take (i + 1) calls) k.0 other (slice_get-taken calls (i + 1) k.0 other (omega arith) at.1)

pub front-last : (calls : List Call) (i : ℕ) (call : Call) → slice_get calls i ≡ Some call → Contains (take (i + 1) calls) call
front-last calls i call here = Contains-from_get (take (i + 1) calls) i call (slice_get-taken calls (i + 1) i call (omega arith) here)

module _ (kind : Option ℕ → Type 0) (calls : List Call) (i : ℕ) (call : Call) (here : slice_get calls i ≡ Some call) where
  -- a require of another kind changes nothing
  pub IsLeastOf-skip : (least : Option Span) → (kind call.to → ⊥) → IsLeastOf kind (take i calls) least → IsLeastOf kind (take (i + 1) calls) least
  IsLeastOf-skip None other none = λ c has is. elim (front-cases calls i call c here has) [
    | inl before ↦ none c before is
    | inr same ↦ other (subst (λ (d : Call). kind d.to) (sym same) is)
  ]
  IsLeastOf-skip (Some at) other found = record {
    one = (found.one.0, front-more calls i found.one.0 found.one.1, found.one.2, found.one.3);
    least = (λ c has is. elim (front-cases calls i call c here has) [
      | inl before ↦ found.least c before is
      | inr same ↦ absurd (other (subst (λ (d : Call). kind d.to) (sym same) is))
    ]);
  }

  -- one of the kind may be the least
  pub IsLeastOf-more : (least : Option Span) (new : Span) → kind call.to → ((new ≡ call.at) ⊎ (least ≡ Some new)) → IsNoLater new call.at → IfSome least (λ other. IsNoLater new other) → IsLeastOf kind (take i calls) least → IsLeastOf kind (take (i + 1) calls) (Some new)
  IsLeastOf-more None new is one before tied none = record {
    one = elim one [
      | inl this ↦ (call, front-last calls i call here, is, sym this)
      | inr that ↦ cc
    ];
    least = (λ c has also. elim (front-cases calls i call c here has) [
      | inl earlier ↦ absurd (none c earlier also)
      | inr same ↦ subst (λ (d : Call). IsNoLater new d.at) same before
    ]);
  }
  IsLeastOf-more (Some at) new is one before tied found = record {
    one = elim one [
      | inl this ↦ (call, front-last calls i call here, is, sym this)
      | inr that ↦
          (let same : at ≡ new = cc in
          (found.one.0, front-more calls i found.one.0 found.one.1, found.one.2, found.one.3 ∙ same))
    ];
    least = (λ c has also. elim (front-cases calls i call c here has) [
      | inl earlier ↦ IsNoLater-trans new at c.at tied (found.least c earlier also)
      | inr same ↦ subst (λ (d : Call). IsNoLater new d.at) same before
    ]);
  }

-- the least of a kind is the least of another that the requires share
pub IsLeast-alike : (kind other : Option ℕ → Type 0) (calls : List Call) (at : Span) → ((call : Call) → Contains calls call → kind call.to → other call.to) → ((call : Call) → Contains calls call → other call.to → kind call.to) → IsLeast kind calls at → IsLeast other calls at
IsLeast-alike kind other calls at to from h = record {
  one = (h.one.0, h.one.1, to h.one.0 h.one.1 h.one.2, h.one.3);
  least = (λ call has is. h.least call has (from call has is));
}

-- a list is a front, an item and the rest
pub parted-at : {X : Type 0} (xs : List X) (i : ℕ) (x : X) → slice_get xs i ≡ Some x → xs ≡ take i xs ++ x ∷ drop (suc i) xs
parted-at [] i x e = cc
parted-at (y ∷ xs) zero x e = let same : y ≡ x = cc in ap (λ z. z ∷ xs) same
parted-at (y ∷ xs) (suc i) x e = ap (λ l. y ∷ l) (parted-at xs i x e)

-- the first require of a kind stands behind others that aren't
pub IsFirst-at : (kind : Option ℕ → Type 0) (calls : List Call) (i : ℕ) (call : Call) → slice_get calls i ≡ Some call → kind call.to → ((k : ℕ) (other : Call) → k < i → slice_get calls k ≡ Some other → kind other.to → ⊥) → IsFirst kind calls call
IsFirst-at kind calls i call here is before = (
  take i calls,
  drop (suc i) calls,
  parted-at calls i call here,
  is,
  (λ k d within is'.
      let at : slice_get (take i calls) k ≡ Some (get_or (take i calls) k d) = slice_get-get_or (take i calls) k d within in
      let h = slice_get-take calls i k (get_or (take i calls) k d) at in
      before k (get_or (take i calls) k d) h.0 h.1 is'),
)

middle : (xs : List Call) (x : Call) (ys : List Call) → slice_get (xs ++ x ∷ ys) (length xs) ≡ Some x
middle [] x ys = refl
middle (y ∷ xs) x ys = middle xs x ys

pub Contains-middle : (calls before after : List Call) (call : Call) → calls ≡ before ++ call ∷ after → Contains calls call
Contains-middle calls before after call e = Contains-from_get calls (length before) call (ap (λ (l : List Call). slice_get l (length before)) e ∙ middle before call after)

pub IsFirst-alike : (kind other : Option ℕ → Type 0) (calls : List Call) (first : Call) → ((call : Call) → Contains calls call → kind call.to → other call.to) → ((call : Call) → Contains calls call → other call.to → kind call.to) → IsFirst kind calls first → IsFirst other calls first
IsFirst-alike kind other calls first to from h =
    (h.0, h.1, h.2, to first (has-first) h.3, (λ k d within is. h.4 k d within (from (get_or h.0 k d) (has-before k d within) is)))
  where
    has-first : Contains calls first
    has-first = Contains-middle calls h.0 h.1 first h.2

    has-before : (k : ℕ) (d : Call) → k < length h.0 → Contains calls (get_or h.0 k d)
    has-before k d within = Contains-from_get calls k (get_or h.0 k d) (ap (λ (l : List Call). slice_get l k) h.2 ∙ slice_get-front h.0 (first ∷ h.1) k (get_or h.0 k d) (slice_get-get_or h.0 k d within))

-- where each require means a module, these are all the modules meant
pub needs-all : (calls : List Call) → ((call : Call) → Contains calls call → call.to ≡ None → ⊥) → map (λ call. call.to) calls ≡ map Some (filter_map (λ call. call.to) calls)
needs-all [] none = refl
needs-all (call ∷ calls) none = go call.to refl (needs-all calls (λ other has. none other (further other has)))
  where
    further : (other : Call) → Contains calls other → Contains (call ∷ calls) other
    further other has = let k = get-from_contains calls other has in Contains-from_get (call ∷ calls) (suc k.0) other k.1

    go : (to : Option ℕ) → call.to ≡ to → map (λ c. c.to) calls ≡ map Some (filter_map (λ c. c.to) calls) → map (λ c. c.to) (call ∷ calls) ≡ map Some (filter_map (λ c. c.to) (call ∷ calls))
    go None e rest = absurd (none call (Contains-from_get (call ∷ calls) 0 call refl) e)
    go (Some to) e rest =
        ap (λ (o : Option ℕ). o ∷ map (λ (c : Call). c.to) calls) e
        ∙ (ap (λ (l : List (Option ℕ)). Some to ∷ l) rest
        ∙ ap (λ (o : Option ℕ). map Some (cons_option o (filter_map (λ (c : Call). c.to) calls))) (sym e))

-- tests of an option against another
pub option-same : (a b : Option ℕ) → option_eq nat_eq a b ≡ true → a ≡ b
option-same None None e = refl
option-same None (Some y) e = cc
option-same (Some x) None e = cc
option-same (Some x) (Some y) e = ap Some (eqb-true x y e)

pub option-other : (a b : Option ℕ) → option_eq nat_eq a b ≡ false → a ≡ b → ⊥
option-other None None e same = cc
option-other None (Some y) e same = cc
option-other (Some x) None e same = cc
option-other (Some x) (Some y) e same = let one : x ≡ y = cc in eqb-false x y e one

-- one require more means a module with a level, or none
pub levelled-more : (standings : List Standing) (calls : List Call) (i : ℕ) (call : Call) → slice_get calls i ≡ Some call → ((to : ℕ) → call.to ≡ Some to → (level : ℕ) × (slice_get standings to ≡ Some (Level level))) → ((k to : ℕ) (other : Call) → k < i → slice_get calls k ≡ Some other → other.to ≡ Some to → (level : ℕ) × (slice_get standings to ≡ Some (Level level))) → (k to : ℕ) (other : Call) → k < i + 1 → slice_get calls k ≡ Some other → other.to ≡ Some to → (level : ℕ) × (slice_get standings to ≡ Some (Level level))
levelled-more standings calls i call here this before k to other below e means =
    elim (cases_lt k i) [
      | inl lt ↦ before k to other lt e means
      | inr le ↦
          (let at : i ≡ k = omega arith in
          let both : Some call ≡ Some other = sym here ∙ (ap (λ j. slice_get calls j) at ∙ e) in
          let same : call ≡ other = cc in
          this to (ap (λ (c : Call). c.to) same ∙ means))
    ]

-- a require that means a module with a level stops nothing
pub level-stops_not : (standings : List Standing) (to : Option ℕ) → ((next : ℕ) → to ≡ Some next → (level : ℕ) × (slice_get standings next ≡ Some (Level level))) → Stops standings to → ⊥
level-stops_not standings to levelled stops =
    let h = levelled stops.0 stops.2 in
    let both : Some stops.1 ≡ Some (Level h.0) = sym stops.3 ∙ h.1 in
    stops.4 h.0 cc

module _ (nodes : List Node) (graph : IsGraph nodes) (numbers order : List ℕ) (components : AreComponents nodes numbers order) (file : ℕ) where
  -- a require means no module exactly where the module that it means has no group
  none_from_group : (call : Call) → Contains (calls_at nodes file) call → group_of numbers call.to ≡ None → call.to ≡ None
  none_from_group call has none = go call.to refl none
    where
      go : (to : Option ℕ) → call.to ≡ to → group_of numbers to ≡ None → call.to ≡ None
      go None e g = e
      go (Some to) e g = let n = number_at nodes graph numbers order components to (graph file to call has e) in cc

  group_from_none : (call : Call) → Contains (calls_at nodes file) call → call.to ≡ None → group_of numbers call.to ≡ None
  group_from_none call has none = ap (λ (o : Option ℕ). group_of numbers o) none

  pub least_missing : (at : Span) → IsLeastOf (λ to. group_of numbers to ≡ None) (calls_at nodes file) (Some at) → IsLeast (λ to. to ≡ None) (calls_at nodes file) at
  least_missing at least = IsLeast-alike (λ to. group_of numbers to ≡ None) (λ to. to ≡ None) (calls_at nodes file) at none_from_group group_from_none least

  pub none_missing : IsLeastOf (λ to. group_of numbers to ≡ None) (calls_at nodes file) None → Misses nodes file → ⊥
  none_missing none missing = none missing.0 missing.1 (group_from_none missing.0 missing.1 missing.2)

  module _ (own : ℕ) (number : slice_get numbers file ≡ Some own) where
    back_from_group : (call : Call) → Contains (calls_at nodes file) call → group_of numbers call.to ≡ Some own → LeadsBack nodes file call.to
    back_from_group call has group = go call.to refl group
      where
        go : (to : Option ℕ) → call.to ≡ to → group_of numbers to ≡ Some own → LeadsBack nodes file call.to
        go None e g = cc
        go (Some to) e g = elim (components.together to file own g number) [
          | inl same ↦ (to, e, subst (λ (k : ℕ). Reaches nodes to k) same (directly (subst (λ (k : ℕ). Requires nodes k to) (sym same) (call, has, e))))
          | inr back ↦ (to, e, back)
        ]

    group_from_back : (call : Call) → Contains (calls_at nodes file) call → LeadsBack nodes file call.to → group_of numbers call.to ≡ Some own
    group_from_back call has back =
        ap (λ (o : Option ℕ). group_of numbers o) back.1 ∙ number-from_cycle nodes graph numbers order components file back.0 own (call, has, back.1) (inr back.2) number

    pub least_returning : (at : Span) → IsLeastOf (λ to. group_of numbers to ≡ Some own) (calls_at nodes file) (Some at) → IsLeast (LeadsBack nodes file) (calls_at nodes file) at
    least_returning at least = IsLeast-alike (λ to. group_of numbers to ≡ Some own) (LeadsBack nodes file) (calls_at nodes file) at back_from_group group_from_back least

    pub cyclic_returning : (at : Span) → IsLeastOf (λ to. group_of numbers to ≡ Some own) (calls_at nodes file) (Some at) → IsCyclic nodes file
    cyclic_returning at least =
        let call = least.one in
        let back = back_from_group call.0 call.1 call.2 in
        through (call.0, call.1, back.1) back.2

    pub free_if : refused_at nodes file ≡ false → IsLeastOf (λ to. group_of numbers to ≡ None) (calls_at nodes file) None → IsLeastOf (λ to. group_of numbers to ≡ Some own) (calls_at nodes file) None → IsRefused nodes file → ⊥
    free_if fresh missing returning =
        not_refused nodes graph numbers order components file own number fresh (λ call has refuses. go call has call.to refl refuses)
      where
        go : (call : Call) → Contains (calls_at nodes file) call → (to : Option ℕ) → call.to ≡ to → Refuses numbers own call.to → ⊥
        go call has None e r = missing call has (ap (λ (o : Option ℕ). group_of numbers o) e)
        go call has (Some to) e r = returning call has (ap (λ (o : Option ℕ). group_of numbers o) e ∙ subst (λ (o : Option ℕ). Refuses numbers own o) e r)

  module _ (standings : List Standing) (stand : AreStandings nodes numbers standings) (size : length standings ≡ length nodes) where
    -- how a module that is required stands
    stands_required : (to : ℕ) → Requires nodes file to → (standing : Standing) × (n : ℕ) × (slice_get standings to ≡ Some standing) × IsStanding nodes to n standing
    stands_required to requires =
        let within = required_within nodes graph numbers order components file to requires in
        let n = number_at nodes graph numbers order components to within in
        let s = get-below standings to (omega arith) in
        (s.0, n.0, s.1, stand to n.0 s.0 n.1 s.1)

    stopping_from : (call : Call) → Contains (calls_at nodes file) call → Stops standings call.to → IsStopping nodes call.to
    stopping_from call has stops =
        let h = stands_required stops.0 (call, has, stops.2) in
        let both : Some stops.1 ≡ Some h.0 = sym stops.3 ∙ h.2 in
        let same : h.0 ≡ stops.1 = cc in
        (stops.0, stops.2, go stops.0 h.1 stops.1 (subst (λ (s : Standing). IsStanding nodes stops.0 h.1 s) same h.3) stops.4)
      where
        go : (next n : ℕ) (standing : Standing) → IsStanding nodes next n standing → ((level : ℕ) → standing ≡ Level level → ⊥) → IsStopped nodes next
        go next n Refused is other = inl is
        go next n Skipped is other = inr is
        go next n (Level level) is other = absurd (other level refl)

    stops_from : (call : Call) → Contains (calls_at nodes file) call → IsStopping nodes call.to → Stops standings call.to
    stops_from call has stopping =
        let h = stands_required stopping.0 (call, has, stopping.1) in
        (stopping.0, h.0, stopping.1, h.2, (λ level same. go stopping.0 h.1 level (subst (λ (s : Standing). IsStanding nodes stopping.0 h.1 s) same h.3) stopping.2))
      where
        go : (next n level : ℕ) → IsStanding nodes next n (Level level) → IsStopped nodes next → ⊥
        go next n level is (inl refused) = is.0 refused
        go next n level is (inr skipped) = is.1 skipped

    pub first_stopping : (call : Call) → IsFirst (Stops standings) (calls_at nodes file) call → IsFirst (IsStopping nodes) (calls_at nodes file) call
    first_stopping call first = IsFirst-alike (Stops standings) (IsStopping nodes) (calls_at nodes file) call stopping_from stops_from first

    -- a module that isn't refused and has a require that stops is skipped
    pub skipped_stopping : (IsRefused nodes file → ⊥) → (call : Call) → IsFirst (Stops standings) (calls_at nodes file) call → IsSkipped nodes file
    skipped_stopping free call first =
        let h = first_stopping call first in
        let has : Contains (calls_at nodes file) call = Contains-middle (calls_at nodes file) h.0 h.1 call h.2 in
        go h.3.0 (call, has, h.3.1) h.3.2
      where
        go : (next : ℕ) → Requires nodes file next → IsStopped nodes next → IsSkipped nodes file
        go next requires (inl refused) = by_refused free requires refused
        go next requires (inr skipped) = by_skipped free requires skipped

    -- one whose requires all have levels isn't
    pub unskipped : AreLevelled standings (calls_at nodes file) → IsSkipped nodes file → ⊥
    unskipped levelled (by_refused {next = to} free requires refused) = clash to requires (inl refused) levelled
      where
        clash : (to : ℕ) → Requires nodes file to → IsStopped nodes to → AreLevelled standings (calls_at nodes file) → ⊥
        clash to requires stopped levelled = let stops = stops_from requires.0 requires.1 (to, requires.2, stopped) in level-stops_not standings requires.0.to (λ next means. levelled next requires.0 requires.1 means) stops
    unskipped levelled (by_skipped {next = to} free requires skipped) = clash to requires (inr skipped) levelled
      where
        clash : (to : ℕ) → Requires nodes file to → IsStopped nodes to → AreLevelled standings (calls_at nodes file) → ⊥
        clash to requires stopped levelled = let stops = stops_from requires.0 requires.1 (to, requires.2, stopped) in level-stops_not standings requires.0.to (λ next means. levelled next requires.0 requires.1 means) stops

-- a module that is neither refused nor skipped has a level
pub has_level : (nodes : List Node) (file n : ℕ) (standing : Standing) → IsStanding nodes file n standing → (IsRefused nodes file → ⊥) → (IsSkipped nodes file → ⊥) → ((level : ℕ) → standing ≡ Level level → ⊥) → ⊥
has_level nodes file n Refused is free unskipped none = free is
has_level nodes file n Skipped is free unskipped none = unskipped is
has_level nodes file n (Level level) is free unskipped none = none level refl
