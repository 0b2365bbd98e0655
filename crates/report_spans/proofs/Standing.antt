-- A report stands where its syntax does.
use Rattle.std.proofs.Common.{◌≡◌, ℕ, zero, suc, ◌+◌, List, [], ◌∷◌, map, Contains, Some, slice_get, refl, sym, ap, ◌∙◌, subst, arith, ◌⊎◌, inl, inr}
use Rattle.std.proofs.lemmas.List.Elements.{Contains-append_cases}
use Rattle.luau_tree.specs.declared.position.Span.{Span}
use Rattle.luau_tree.specs.declared.names.Place.{Place}
use Rattle.luau_tree.specs.declared.names.Place.TheVariants.{Expr as ExprPlace, Param as ParamPlace}
use Rattle.luau_tree.specs.Tree.{the_expr, Body, the_body, Bind, Binds, no_binds, more_binds}
use Rattle.luau_tree.specs.Lists.{bind_list}
use Rattle.luau_run.specs.SyntaxNode.{SyntaxNode, AnExpr, ABody, ABind, of_block}
use Rattle.report_rules.specs.Rules.{Rules}
use Rattle.report_rules.specs.Checks.{ReportKind}
use Rattle.report_rules.specs.Findings.{Finding, bind_span}
use Rattle.report_rules.specs.Reports.{Report, findings, reports, reports_at, reports_of}
use Rattle.report_rules.specs.Printed.{printed_reports}
use Rattle.report_rules.proofs.PrintedFacts.{printed_same}
use Rattle.report_spans.specs.Located.{params_located, located, places_and_spans, StandsAt}
use Rattle.report_spans.proofs.Entries.{one_each}

-- a place with its span
abbrev at : Place → Span → Place × Span
at p s = (p, s)

-- ---- what a list has

first : {X : Type 0} (x : X) (xs : List X) → Contains (x ∷ xs) x
first x xs = (zero, omega arith, refl)

further : {X : Type 0} (x y : X) (xs : List X) → Contains xs y → Contains (x ∷ xs) y
further x y xs (i, within, e) = (suc i, omega arith, e)

split : {X : Type 0} (x y : X) (xs : List X) → Contains (x ∷ xs) y → (x ≡ y) ⊎ Contains xs y
split x y xs (zero, within, e) = inl e
split x y xs (suc i, within, e) = inr (i, omega arith, e)

-- ---- reports and their entries

-- the place and the span of a report are those of the finding that it comes of
kinds_stand : (f : Finding) (kinds : List ReportKind) (r : Report)
    → Contains (map (λ kind. record { place = f.place; at = f.at; kind = kind }) kinds) r → (at f.place f.at) ≡ (at r.place r.at)
kinds_stand f [] r (i, within, e) = absurd (omega arith)
kinds_stand f (kind ∷ kinds) r c = by_cases (split (record { place = f.place; at = f.at; kind = kind }) r (map (λ k. record { place = f.place; at = f.at; kind = k }) kinds) c) (λ d. kinds_stand f kinds r d)
  where
    by_cases : (record { place = f.place; at = f.at; kind = kind } ≡ r) ⊎ Contains (map (λ k. record { place = f.place; at = f.at; kind = k }) kinds) r
        → (Contains (map (λ k. record { place = f.place; at = f.at; kind = k }) kinds) r → (at f.place f.at) ≡ (at r.place r.at)) → (at f.place f.at) ≡ (at r.place r.at)
    by_cases (inl e) next = ap (λ (q : Report). at q.place q.at) e
    by_cases (inr d) next = next d

comes_of : (fs : List Finding) (r : Report) → Contains (reports_of fs) r → Contains (places_and_spans fs) (at r.place r.at)
comes_of [] r (i, within, e) = absurd (omega arith)
comes_of (f ∷ fs) r c = by_cases (Contains-append_cases (reports_at f) (reports_of fs) r c) (λ d. comes_of fs r d)
  where
    by_cases : Contains (reports_at f) r ⊎ Contains (reports_of fs) r → (Contains (reports_of fs) r → Contains (places_and_spans fs) (at r.place r.at))
        → Contains (places_and_spans (f ∷ fs)) (at r.place r.at)
    by_cases (inl d) next = subst (λ (p : Place × Span). Contains (places_and_spans (f ∷ fs)) p) (kinds_stand f f.kinds r d) (first (at f.place f.at) (places_and_spans fs))
    by_cases (inr d) next = further (at f.place f.at) (at r.place r.at) (places_and_spans fs) (next d)

-- ---- entries and their syntax

-- more nodes have what some have
more : (node : SyntaxNode) (nodes : List SyntaxNode) (p : Place) (s : Span) → StandsAt nodes p s → StandsAt (node ∷ nodes) p s
more node nodes (ExprPlace id) s h = (h.0, further node (AnExpr (the_expr id.0 s h.0)) nodes h.1)
more node nodes (ParamPlace function index) s h = (h.0, h.1, further node (ABody h.0) nodes h.2, h.3, h.4, h.5)

-- a parameter that is located has a declaration at its position
param_stands : (function position : ℕ) (params : Binds) (p : Place) (s : Span) → Contains (params_located function position params) (at p s)
    → (i : ℕ) × (bind : Bind) × (p ≡ ParamPlace (record { 0 = function }) (position + i)) × (slice_get (bind_list params) i ≡ Some bind) × (bind_span bind ≡ s)
param_stands function position no_binds p s (i, within, e) = absurd (omega arith)
param_stands function position (more_binds bind rest) p s c = by_cases (split (at (ParamPlace (record { 0 = function }) position) (bind_span bind)) (at p s) (params_located function (suc position) rest) c) (λ d. param_stands function (suc position) rest p s d)
  where
    by_cases : ((at (ParamPlace (record { 0 = function }) position) (bind_span bind)) ≡ (at p s)) ⊎ Contains (params_located function (suc position) rest) (at p s)
        → (Contains (params_located function (suc position) rest) (at p s)
        → (i : ℕ) × (b : Bind) × (p ≡ ParamPlace (record { 0 = function }) (suc position + i)) × (slice_get (bind_list rest) i ≡ Some b) × (bind_span b ≡ s))
        → (i : ℕ) × (b : Bind) × (p ≡ ParamPlace (record { 0 = function }) (position + i)) × (slice_get (bind_list (more_binds bind rest)) i ≡ Some b) × (bind_span b ≡ s)
    by_cases (inl e) next =
        (zero, bind, sym (ap (λ (q : Place × Span). q.0) e) ∙ ap (ParamPlace (record { 0 = function })) (omega arith), refl, ap (λ (q : Place × Span). q.1) e)
    by_cases (inr d) next =
        let h = next d in
        (suc h.0, h.1, h.2 ∙ ap (ParamPlace (record { 0 = function })) (omega arith), h.3, h.4)

stands : (nodes : List SyntaxNode) (p : Place) (s : Span) → Contains (located nodes) (at p s) → StandsAt nodes p s
stands [] p s (i, within, e) = absurd (omega arith)
stands (AnExpr (the_expr id span kind) ∷ nodes) p s c = by_cases (split (at (ExprPlace (record { 0 = id })) span) (at p s) (located nodes) c) (λ d. stands nodes p s d)
  where
    by_cases : ((at (ExprPlace (record { 0 = id })) span) ≡ (at p s)) ⊎ Contains (located nodes) (at p s) → (Contains (located nodes) (at p s) → StandsAt nodes p s)
        → StandsAt (AnExpr (the_expr id span kind) ∷ nodes) p s
    by_cases (inl e) next =
        subst (λ (q : Place × Span). StandsAt (AnExpr (the_expr id span kind) ∷ nodes) q.0 q.1) e (kind, first (AnExpr (the_expr id span kind)) nodes)
    by_cases (inr d) next = more (AnExpr (the_expr id span kind)) nodes p s (next d)
stands (ABody (the_body id has_self generics params vararg result block span) ∷ nodes) p s c = by_cases (Contains-append_cases (params_located id 0 params) (located nodes) (at p s) c) (λ d. stands nodes p s d)
  where
    b : Body
    b = the_body id has_self generics params vararg result block span

    by_cases : Contains (params_located id 0 params) (at p s) ⊎ Contains (located nodes) (at p s) → (Contains (located nodes) (at p s) → StandsAt nodes p s) → StandsAt (ABody b ∷ nodes) p s
    by_cases (inl d) next =
        let h = param_stands id 0 params p s d in
        let e : p ≡ ParamPlace (record { 0 = id }) h.0 = h.2 ∙ ap (ParamPlace (record { 0 = id })) (omega arith) in
        subst (λ (q : Place). StandsAt (ABody b ∷ nodes) q s) (sym e) (b, h.1, first (ABody b) nodes, refl, h.3, h.4)
    by_cases (inr d) next = more (ABody b) nodes p s (next d)
stands (ABind bind ∷ nodes) p s c = more (ABind bind) nodes p s (stands nodes p s c)

pub report_stands : (rules : Rules) (r : Report) → Contains (reports rules) r → StandsAt (of_block rules.reading.block) r.place r.at
report_stands rules r c =
    stands (of_block rules.reading.block) r.place r.at (subst (λ (ps : List (Place × Span)). Contains ps (at r.place r.at)) (one_each rules) (comes_of (findings rules) r c))

pub given_stands : (rules : Rules) (r : Report) → Contains (printed_reports rules) r → StandsAt (of_block rules.reading.block) r.place r.at
given_stands rules r c = report_stands rules r ((printed_same (reports rules) r).0 c)
