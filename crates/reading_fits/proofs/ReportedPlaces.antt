-- The reported places of a program are those at which its modules' rules find something.
use Rattle.std.proofs.Common.{◌≡◌, ◌≢◌, ℕ, zero, suc, ◌+◌, List, [], ◌∷◌, map, Contains, Some, slice_get, refl, sym, ap, ◌∙◌, subst, arith, ◌⊎◌, inl, inr}
use Rattle.std.proofs.lemmas.List.Elements.{Contains-append_left, Contains-append_right, Contains-append_cases}
use Rattle.luau_tree.specs.declared.names.Place.{Place}
use Rattle.report_rules.specs.Rules.{Rules}
use Rattle.report_rules.specs.Checks.{ReportKind}
use Rattle.report_rules.specs.Findings.{Finding}
use Rattle.report_rules.specs.Reports.{Report, findings, reports, reports_at, reports_of, reported_places, places_from}

-- ---- what a list has

first_of : {X : Type 0} (x : X) (xs : List X) → Contains (x ∷ xs) x
first_of x xs = (zero, omega arith, refl)

further : {X : Type 0} (x y : X) (xs : List X) → Contains xs y → Contains (x ∷ xs) y
further x y xs (i, within, e) = (suc i, omega arith, e)

split : {X : Type 0} (x y : X) (xs : List X) → Contains (x ∷ xs) y → (x ≡ y) ⊎ Contains xs y
split x y xs (zero, within, e) = inl e
split x y xs (suc i, within, e) = inr (i, omega arith, e)

to_map : {X Y : Type 0} (f : X → Y) (xs : List X) (x : X) → Contains xs x → Contains (map f xs) (f x)
to_map f [] x (i, within, e) = absurd (omega arith)
to_map f (y ∷ xs) x (zero, within, e) = (zero, omega arith, ap f e)
to_map f (y ∷ xs) x (suc i, within, e) = further (f y) (f x) (map f xs) (to_map f xs x (i, omega arith, e))

from_map : {X Y : Type 0} (f : X → Y) (xs : List X) (y : Y) → Contains (map f xs) y → (x : X) × Contains xs x × (f x ≡ y)
from_map f [] y (i, within, e) = absurd (omega arith)
from_map f (x ∷ xs) y (zero, within, e) = (x, first_of x xs, e)
from_map f (x ∷ xs) y (suc i, within, e) =
    let found = from_map f xs y (i, omega arith, e) in
    (found.0, further x found.0 xs found.1, found.2)

-- ---- the reports of some findings

-- something is found at a place
abbrev pub Finds : List Finding → Place → Type 0
Finds fs p = (finding : Finding) × Contains fs finding × (finding.place ≡ p) × (finding.kinds ≢ [])

abbrev report_of : Finding → ReportKind → Report
report_of f kind = record { place = f.place; at = f.at; kind = kind }

some_kind : (kind : ReportKind) (kinds : List ReportKind) → kind ∷ kinds ≢ []
some_kind kind kinds e = cc

kinds_there : (kinds : List ReportKind) (k : ReportKind) → Contains kinds k → kinds ≢ []
kinds_there [] k (i, within, e) = absurd (omega arith)
kinds_there (kind ∷ kinds) k c = some_kind kind kinds

found_of : (fs : List Finding) (r : Report) → Contains (reports_of fs) r → Finds fs r.place
found_of [] r (i, within, e) = absurd (omega arith)
found_of (f ∷ fs) r c = by_cases (Contains-append_cases (reports_at f) (reports_of fs) r c) (λ d. found_of fs r d)
  where
    by_cases : Contains (reports_at f) r ⊎ Contains (reports_of fs) r → (Contains (reports_of fs) r → Finds fs r.place) → Finds (f ∷ fs) r.place
    by_cases (inl d) next =
        let k = from_map (report_of f) f.kinds r d in
        (f, first_of f fs, ap (λ (q : Report). q.place) k.2, kinds_there f.kinds k.0 k.1)
    by_cases (inr d) next = let h = next d in (h.0, further f h.0 fs h.1, h.2, h.3)

one_kind : (f : Finding) (kinds : List ReportKind) → kinds ≢ [] → (r : Report) × Contains (map (report_of f) kinds) r × (r.place ≡ f.place)
one_kind f [] h = absurd (h refl)
one_kind f (kind ∷ kinds) h = (report_of f kind, first_of (report_of f kind) (map (report_of f) kinds), refl)

report_there : (fs : List Finding) (f : Finding) → Contains fs f → f.kinds ≢ [] → (r : Report) × Contains (reports_of fs) r × (r.place ≡ f.place)
report_there [] f (i, within, e) h = absurd (omega arith)
report_there (g ∷ fs) f c h = by_cases (split g f fs c) (λ d. report_there fs f d h)
  where
    by_cases : (g ≡ f) ⊎ Contains fs f → (Contains fs f → (r : Report) × Contains (reports_of fs) r × (r.place ≡ f.place)) → (r : Report) × Contains (reports_of (g ∷ fs)) r × (r.place ≡ f.place)
    by_cases (inl e) next =
        let k = one_kind g g.kinds (subst (λ (x : Finding). x.kinds ≢ []) (sym e) h) in
        (k.0, Contains-append_left (reports_at g) (reports_of fs) k.0 k.1, k.2 ∙ ap (λ (x : Finding). x.place) e)
    by_cases (inr d) next = let k = next d in (k.0, Contains-append_right (reports_at g) (reports_of fs) k.0 k.1, k.2)

-- ---- the reported places of a program

abbrev at : ℕ → Place → ℕ × Place
at m p = (m, p)

pub record IsFoundIn (rules : List Rules) (from m : ℕ) (p : Place) : Type 0 where
  pub position : ℕ
  pub there : Rules
  pub here : m ≡ from + position
  pub got : slice_get rules position ≡ Some there
  pub finds : Finds (findings there) p

pub places_found : (rules : List Rules) (from m : ℕ) (p : Place) → Contains (places_from from rules) (m, p) → IsFoundIn rules from m p
places_found [] from m p (i, within, e) = absurd (omega arith)
places_found (r ∷ rules) from m p c = by_cases (Contains-append_cases (reported_places from (reports r)) (places_from (suc from) rules) (at m p) c) (λ d. places_found rules (suc from) m p d)
  where
    by_cases : Contains (reported_places from (reports r)) (at m p) ⊎ Contains (places_from (suc from) rules) (at m p)
        → (Contains (places_from (suc from) rules) (at m p) → IsFoundIn rules (suc from) m p) → IsFoundIn (r ∷ rules) from m p
    by_cases (inl d) next =
        let k = from_map (λ (report : Report). at from report.place) (reports r) (at m p) d in
        record {
          position = zero;
          there = r;
          here = (let e : from ≡ m = ap (λ (q : ℕ × Place). q.0) k.2 in sym e ∙ omega arith);
          got = refl;
          finds = subst (λ (q : Place). Finds (findings r) q) (ap (λ (q : ℕ × Place). q.1) k.2) (found_of (findings r) k.0 k.1);
        }
    by_cases (inr d) next =
        let k = next d in
        record { position = suc k.position; there = k.there; here = k.here ∙ omega arith; got = k.got; finds = k.finds }

pub places_there : (rules : List Rules) (from position : ℕ) (p : Place) (r : Rules) → slice_get rules position ≡ Some r → Finds (findings r) p → Contains (places_from from rules) (from + position, p)
places_there [] from position p r e f = cc
places_there (s ∷ rules) from zero p r e f =
    let same : s ≡ r = cc in
    let k = report_there (findings r) f.0 f.1 f.3 in
    let c : Contains (reported_places from (reports r)) (at from k.0.place) = to_map (λ (report : Report). at from report.place) (reports r) k.0 k.1 in
    let d : Contains (reported_places from (reports s)) (at from p) =
    subst (λ (x : Rules). Contains (reported_places from (reports x)) (at from p)) (sym same) (subst (λ (q : Place). Contains (reported_places from (reports r)) (at from q)) (k.2 ∙ f.2) c) in
    subst (λ (n : ℕ). Contains (places_from from (s ∷ rules)) (at n p)) (omega arith) (Contains-append_left (reported_places from (reports s)) (places_from (suc from) rules) (at from p) d)
places_there (s ∷ rules) from (suc position) p r e f =
    subst (λ (n : ℕ). Contains (places_from from (s ∷ rules)) (at n p)) (omega arith)
    (Contains-append_right (reported_places from (reports s)) (places_from (suc from) rules) (at (suc from + position) p) (places_there rules (suc from) position p r e f))
