-- What a search begins with, and what it ends with.
use Rattle.std.proofs.Common.{◌≡◌, ◌≢◌, ℕ, zero, suc, ◌+◌, ◌-◌, ◌<◌, ◌≤◌, List, [], ◌∷◌, ◌++◌, length, refl, ap, sym, subst, ◌∙◌, arith, inl, inr}
use Rattle.std.specs.Prelude.{Option, Some, None, slice_get, Contains, map, replicate, ◌⊎◌}
use Rattle.std.proofs.Common.{Bool, true, false, eqb, get_or}
use Rattle.std.specs.Prelude.{◌||◌}
use Rattle.std.specs.List.{list_any}
use Rattle.std.proofs.lemmas.Bool.{eqb-true}
use Rattle.std.proofs.lemmas.Bool.Decides.{nat_tests}
use Rattle.std.proofs.lemmas.Map.Keys.{IsDistinct-from_apart}
use Rattle.std.proofs.lemmas.Map.Steps.{length-le_from_distinct_below}
use Rattle.std.proofs.lemmas.Option.{slice_get_within, slice_get-get_or}
use Rattle.std.proofs.lemmas.List.{length-replicate, length-map}
use Rattle.module_graph.specs.declared.node.Call.{Call}
use Rattle.module_graph.specs.declared.node.Node.{Node}
use Rattle.module_graph.specs.declared.search.Mark.{Mark}
use Rattle.module_graph.specs.declared.search.Mark.TheVariants.{New, Open, Closed}
use Rattle.module_graph.specs.Requires.{calls_at, Requires}
use Rattle.module_graph.specs.Search.{State, IsGraph, IsSearch, Has, Rises, Leads, beginning, number_of, Settles}
use Rattle.module_graph.specs.Components.{AreComponents}
use Rattle.module_graph.proofs.Lists.{get-below, Has-number}

-- all marks are new at first
all_new : (count x : ℕ) (mark : Mark) → slice_get (replicate count New) x ≡ Some mark → mark ≡ New
all_new zero x mark e = cc
all_new (suc count) zero mark e = cc
all_new (suc count) (suc x) mark e = all_new count x mark e

not_open : (count x p next : ℕ) → slice_get (replicate count New) x ≡ Some (Open p next) → ⊥
not_open count x p next e = let new = all_new count x (Open p next) e in cc

not_closed : (count x n : ℕ) → slice_get (replicate count New) x ≡ Some (Closed n) → ⊥
not_closed count x n e = let new = all_new count x (Closed n) e in cc

nothing : (k x : ℕ) → slice_get {X = ℕ} [] k ≡ Some x → ⊥
nothing k x e = cc

pub IsSearch-beginning : (nodes : List Node) → IsSearch nodes (beginning (length nodes))
IsSearch-beginning nodes = record {
  marked = length-replicate (length nodes) New;
  placed = (λ p x e. absurd (nothing p x e));
  there = (λ x p next e. absurd (not_open (length nodes) x p next e));
  onward = (λ p q x y le e f. absurd (nothing p x e));
  back = (λ p q x y le e f joined. absurd (nothing p x e));
  met = (λ x p next k y call e lt at means. absurd (not_open (length nodes) x p next e));
  going = (λ x p next e. absurd (not_open (length nodes) x p next e));
  path_in = (λ p has. absurd (nothing has.0 p has.1));
  path_rises = (λ i j x y lt e f. absurd (nothing i x e));
  starts_in = (λ p has. absurd (nothing has.0 p has.1));
  starts_rise = (λ i j x y lt e f. absurd (nothing i x e));
  ground = (λ some. absurd (omega arith));
  closed = (λ x n y call e has means. absurd (not_closed (length nodes) x n e));
  together = (λ x y n e f. absurd (not_closed (length nodes) x n e));
  numbered = (λ x n e. absurd (not_closed (length nodes) x n e));
  listed = (λ x n e. absurd (not_closed (length nodes) x n e));
  order_closed = (λ x has. absurd (nothing has.0 x has.1));
  once = (λ i j x e f. absurd (nothing i x e));
  ordered = (λ i j x y m n le ei ej e f. absurd (nothing i x ei));
}

module _ (nodes : List Node) (s : State) (sound : IsSearch nodes s) where
  -- no module is open where the path is at its end
  pub none_open : s.path ≡ [] → (x p next : ℕ) → slice_get s.marks x ≡ Some (Open p next) → ⊥
  none_open ended x p next e =
      let within : p < length s.opened = slice_get_within s.opened p x (sound.there x p next e) in
      let on_path : Has s.path 0 = sound.starts_in 0 (sound.ground (omega arith)) in
      nothing on_path.0 0 (ap (λ (l : List ℕ). slice_get l on_path.0) (sym ended) ∙ on_path.1)

  pub nothing_opened : s.path ≡ [] → (p x : ℕ) → slice_get s.opened p ≡ Some x → ⊥
  nothing_opened ended p x e = let h = sound.placed p x e in none_open ended x p h.0 h.1

  -- so each module that was met is closed
  pub closed-if_met : s.path ≡ [] → (x : ℕ) → x < length nodes → (slice_get s.marks x ≡ Some New → ⊥) → (n : ℕ) × (slice_get s.marks x ≡ Some (Closed n))
  closed-if_met ended x within met =
      let marked = sound.marked in
      let mark = get-below s.marks x (omega arith) in
      go mark.0 mark.1
    where
      go : (mark : Mark) → slice_get s.marks x ≡ Some mark → (n : ℕ) × (slice_get s.marks x ≡ Some (Closed n))
      go New e = absurd (met e)
      go (Open p next) e = absurd (none_open ended x p next e)
      go (Closed n) e = (n, e)

  module _ (all : (x : ℕ) → x < length nodes → (n : ℕ) × (slice_get s.marks x ≡ Some (Closed n))) (numbers : List ℕ) (numbering : numbers ≡ map number_of s.marks) where
    number-mapped : (marks : List Mark) (x n : ℕ) (mark : Mark) → slice_get marks x ≡ Some mark → slice_get (map number_of marks) x ≡ Some n → number_of mark ≡ n
    number-mapped [] x n mark e f = cc
    number-mapped (m ∷ marks) zero n mark e f = let one : m ≡ mark = cc in let same : number_of m ≡ number_of mark = ap number_of one in cc
    number-mapped (m ∷ marks) (suc x) n mark e f = number-mapped marks x n mark e f

    size : length numbers ≡ length nodes
    size = ap length numbering ∙ (length-map s.marks number_of ∙ sound.marked)

    -- a number is that of a closed module
    closed_at : (x n : ℕ) → slice_get numbers x ≡ Some n → slice_get s.marks x ≡ Some (Closed n)
    closed_at x n e =
        let within : x < length numbers = slice_get_within numbers x n e in
        let same = size in
        let h = all x (omega arith) in
        let number : number_of (Closed h.0) ≡ n = number-mapped s.marks x n (Closed h.0) h.1 (ap (λ (l : List ℕ). slice_get l x) (sym numbering) ∙ e) in
        h.1 ∙ ap (λ k. Some (Closed k)) number

    -- closed modules are no more than all
    few : length s.order ≤ length nodes
    few =
        length-le_from_distinct_below s.order (length nodes)
        (IsDistinct-from_apart eqb s.order (λ i j d before within. other_number (get_or s.order i d) (get_or s.order j d) (λ same.
        let at_i : slice_get s.order i ≡ Some (get_or s.order i d) = slice_get-get_or s.order i d (omega arith) in
        let at_j : slice_get s.order j ≡ Some (get_or s.order i d) = slice_get-get_or s.order j d within ∙ ap Some (sym same) in
        let one : i ≡ j = sound.once i j (get_or s.order i d) at_i at_j in
        omega arith)))
        (λ q is.
        let has : Has s.order q = Has-number s.order q is in
        let h = sound.order_closed q has in
        let within = slice_get_within s.marks q (Closed h.0) h.1 in
        let marked = sound.marked in
        omega arith)
      where
        other_number : (a b : ℕ) → (a ≡ b → ⊥) → eqb a b ≡ false
        other_number a b differ = grind (arith, nat_tests)

    pub AreComponents-closed : AreComponents nodes numbers s.order
    AreComponents-closed = record {
      numbered = size;
      downward = (λ x y m n requires em en.
          let h = sound.closed x m y requires.0 (closed_at x m em) requires.1 requires.2 in
          let marks : Some (Closed h.0) ≡ Some (Closed n) = sym h.1 ∙ closed_at y n en in
          let same : h.0 ≡ n = cc in
          let le = h.2 in
          omega arith);
      together = (λ x y n e f. sound.together x y n (closed_at x n e) (closed_at y n f));
      listed = (λ x within. let h = all x within in sound.listed x h.0 h.1);
      low = (λ x n e. sound.numbered x n (closed_at x n e));
      few = few;
      there = (λ x has. let h = sound.order_closed x has in let within = slice_get_within s.marks x (Closed h.0) h.1 in let marked = sound.marked in omega arith);
      ordered = (λ i j x y m n le ei ej e f. sound.ordered i j x y m n le ei ej (closed_at x m e) (closed_at y n f));
    }
