-- A module has one fate.
use Rattle.std.proofs.Common.{◌≡◌, ◌≢◌, ℕ, zero, suc, ◌+◌, ◌<◌, ◌≤◌, Bool, true, false, List, [], ◌∷◌, ◌++◌, length, get_or, refl, ap, sym, subst, ◌∙◌, arith, inl, inr}
use Rattle.std.specs.Prelude.{Option, Some, None, slice_get, Contains, map, All, ◌⊎◌}
use Rattle.luau_tree.specs.declared.position.Span.{Span}
use Rattle.module_graph.specs.declared.node.Call.{Call}
use Rattle.module_graph.specs.declared.node.Node.{Node}
use Rattle.module_graph.specs.declared.needs.Fate.{Fate}
use Rattle.module_graph.specs.declared.needs.Fate.TheVariants.{Checked, Refused, Already, Skipped}
use Rattle.module_graph.specs.declared.needs.GraphRefusal.{GraphRefusal}
use Rattle.module_graph.specs.declared.needs.GraphRefusal.TheVariants.{MissingModule, RequireCycle}
use Rattle.module_graph.specs.Requires.{calls_at, refused_at, Requires, Reaches, directly, through}
use Rattle.module_graph.specs.Fates.{IsRefused, already, misses, cyclic, IsSkipped, by_refused, by_skipped, IsLevel, IsLeast, IsFirst, IsNoLater, IsFate, RefusesAt, LeadsBack, IsStopping}

-- places that come no later than each other are one
same_place : (a b : Span) → IsNoLater a b → IsNoLater b a → a ≡ b
same_place a b (inl x) (inl y) = absurd (omega arith)
same_place a b (inl x) (inr y) = let e = y.0 in absurd (omega arith)
same_place a b (inr x) (inl y) = let e = x.0 in absurd (omega arith)
same_place a b (inr x) (inr y) =
    let l = x.1 in
    let m = y.1 in
    let ends : a.end ≡ b.end = omega arith in
    ap (λ (n : ℕ). record { start = n; end = a.end }) x.0 ∙ ap (λ (n : ℕ). record { start = b.start; end = n }) ends

least-unique : (kind : Option ℕ → Type 0) (calls : List Call) (a b : Span) → IsLeast kind calls a → IsLeast kind calls b → a ≡ b
least-unique kind calls a b one two =
    same_place a b
    (subst (λ (s : Span). IsNoLater a s) two.one.3 (one.least two.one.0 two.one.1 two.one.2))
    (subst (λ (s : Span). IsNoLater b s) one.one.3 (two.least one.one.0 one.one.1 one.one.2))

first-unique : (kind : Option ℕ → Type 0) (before after later rest : List Call) (a b : Call) → before ++ a ∷ after ≡ later ++ b ∷ rest → kind a.to → kind b.to → All (λ c. ¬ kind c.to) before → All (λ c. ¬ kind c.to) later → a ≡ b
first-unique kind [] after [] rest a b e ka kb none nothing = cc
first-unique kind [] after (c ∷ later) rest a b e ka kb none nothing =
    let same : a ≡ c = cc in
    absurd (nothing 0 a (omega arith) (subst (λ (d : Call). kind d.to) same ka))
first-unique kind (c ∷ before) after [] rest a b e ka kb none nothing =
    let same : c ≡ b = cc in
    absurd (none 0 b (omega arith) (subst (λ (d : Call). kind d.to) (sym same) kb))
first-unique kind (c ∷ before) after (d ∷ later) rest a b e ka kb none nothing =
    let tails : before ++ a ∷ after ≡ later ++ b ∷ rest = cc in
    first-unique kind before after later rest a b tails ka kb
    (λ k x lt. none (suc k) x (omega arith))
    (λ k x lt. nothing (suc k) x (omega arith))

same_needs : (xs ys : List ℕ) → map Some xs ≡ map Some ys → xs ≡ ys
same_needs [] [] e = refl
same_needs [] (y ∷ ys) e = cc
same_needs (x ∷ xs) [] e = cc
same_needs (x ∷ xs) (y ∷ ys) e =
    let tails : map Some xs ≡ map Some ys = cc in
    let rest : xs ≡ ys = same_needs xs ys tails in
    let head : x ≡ y = cc in
    cc

pub skipped-free : (nodes : List Node) (file : ℕ) → IsSkipped nodes file → IsRefused nodes file → ⊥
skipped-free nodes file (by_refused free requires refused) is = free is
skipped-free nodes file (by_skipped free requires skipped) is = free is

refused-by_graph : (nodes : List Node) (file : ℕ) (why : GraphRefusal) (at : Span) → RefusesAt nodes file why at → IsRefused nodes file
refused-by_graph nodes file MissingModule at is = misses (is.one.0, is.one.1, is.one.2)
refused-by_graph nodes file RequireCycle at is = cyclic is.1

same_refusal : (nodes : List Node) (file : ℕ) (why other : GraphRefusal) (at place : Span) → RefusesAt nodes file why at → RefusesAt nodes file other place → Refused why at ≡ Refused other place
same_refusal nodes file MissingModule MissingModule at place is also = ap (λ (s : Span). Refused MissingModule s) (least-unique (λ to. to ≡ None) (calls_at nodes file) at place is also)
same_refusal nodes file MissingModule RequireCycle at place is also = absurd (also.0 (is.one.0, is.one.1, is.one.2))
same_refusal nodes file RequireCycle MissingModule at place is also = absurd (is.0 (also.one.0, also.one.1, also.one.2))
same_refusal nodes file RequireCycle RequireCycle at place is also = ap (λ (s : Span). Refused RequireCycle s) (least-unique (LeadsBack nodes file) (calls_at nodes file) at place is.2 also.2)

pub fate-unique : (nodes : List Node) (file : ℕ) (fate other : Fate) → IsFate nodes file fate → IsFate nodes file other → fate ≡ other
fate-unique nodes file Already Already is also = refl
fate-unique nodes file Already (Refused why at) is also = let fresh = also.0 in cc
fate-unique nodes file Already (Skipped at needs) is also = absurd (skipped-free nodes file also.0 (already is))
fate-unique nodes file Already (Checked level needs) is also = absurd (also.0 (already is))
fate-unique nodes file (Refused why at) Already is also = let fresh = is.0 in cc
fate-unique nodes file (Refused why at) (Refused other place) is also = same_refusal nodes file why other at place is.1 also.1
fate-unique nodes file (Refused why at) (Skipped place needs) is also = absurd (skipped-free nodes file also.0 (refused-by_graph nodes file why at is.1))
fate-unique nodes file (Refused why at) (Checked level needs) is also = absurd (also.0 (refused-by_graph nodes file why at is.1))
fate-unique nodes file (Skipped at needs) Already is also = absurd (skipped-free nodes file is.0 (already also))
fate-unique nodes file (Skipped at needs) (Refused why place) is also = absurd (skipped-free nodes file is.0 (refused-by_graph nodes file why place also.1))
fate-unique nodes file (Skipped at needs) (Skipped place others) is also =
    let one = is.1 in
    let two = also.1 in
    let call : Call = record { at = at; to = Some needs } in
    let also' : Call = record { at = place; to = Some others } in
    let same : call ≡ also' = first-unique (IsStopping nodes) one.0 one.1 two.0 two.1 call also' (sym one.2 ∙ two.2) one.3 two.3 one.4 two.4 in
    let places : at ≡ place = ap (λ (c : Call). c.at) same in
    let meant : Some needs ≡ Some others = ap (λ (c : Call). c.to) same in
    let modules : needs ≡ others = cc in
    ap (λ (s : Span). Skipped s needs) places ∙ ap (λ (n : ℕ). Skipped place n) modules
fate-unique nodes file (Skipped at needs) (Checked level others) is also = absurd (also.1 is.0)
fate-unique nodes file (Checked level needs) Already is also = absurd (is.0 (already also))
fate-unique nodes file (Checked level needs) (Refused why at) is also = absurd (is.0 (refused-by_graph nodes file why at also.1))
fate-unique nodes file (Checked level needs) (Skipped at others) is also = absurd (is.1 also.0)
fate-unique nodes file (Checked level needs) (Checked other others) is also =
    let low = is.2.longest other also.2.chain in
    let high = also.2.longest level is.2.chain in
    let levels : level ≡ other = omega arith in
    let means : needs ≡ others = same_needs needs others (sym is.3 ∙ also.3) in
    ap (λ (n : ℕ). Checked n needs) levels ∙ ap (λ (l : List ℕ). Checked other l) means

-- a skipped module reaches a refused one
pub skipped-reaches : (nodes : List Node) (file : ℕ) → IsSkipped nodes file → (far : ℕ) × Reaches nodes file far × IsRefused nodes far
skipped-reaches nodes file (by_refused {next = next} free requires refused) = (next, directly requires, refused)
skipped-reaches nodes file (by_skipped {next = next} free requires skipped) = let h = skipped-reaches nodes next skipped in (h.0, through requires h.1, h.2)
