-- Reports at parameters: each has one entry of what is found, and what is found there makes the body fail.
use Rattle.std.proofs.Common.{◌≡◌, ◌≢◌, ℕ, zero, suc, ◌+◌, ◌<◌, Bool, true, false, not, ◌==◌, ◌&&◌, ◌||◌, if◌then◌else◌, List, [], ◌∷◌, ◌++◌, Some, ◌⊎◌, inl, inr, refl, sym, ◌∙◌, ap, subst, arith, slice_get, Contains, drop}
use Rattle.std.specs.List.{AllByRecursion, filter_map}
use Rattle.std.proofs.lemmas.Bool.{eqb-true}
use Rattle.luau_values.specs.Value.{Value}
use Rattle.luau_values.specs.Heap.{Heap}
use Rattle.luau_tree.specs.declared.names.Place.{Place}
use Rattle.luau_tree.specs.declared.names.Place.TheVariants.{Expr as ExprPlace, Param as ParamPlace}
use Rattle.luau_tree.specs.Tree.{the_expr, the_bind, Binds, no_binds, more_binds, the_body}
use Rattle.luau_run.specs.ReadModule.{ReadModule}
use Rattle.luau_run.specs.ReadFolder.{is_among, are_distinct}
use Rattle.luau_run.specs.SyntaxNode.{SyntaxNode, AnExpr, ABody, ABind, of_block}
use Rattle.luau_run.specs.Machine.{Reach, Store, State, ◌>>=◌, look, log, give}
use Rattle.luau_run.specs.Layer.{Frame, first}
use Rattle.luau_run.specs.Calls.{reach_params}
use Rattle.type_normal.specs.Rows.{is_empty}
use Rattle.subtype_check.specs.Below.{below}
use Rattle.subtype_check.proofs.Public.{below_includes}
use Rattle.report_rules.specs.Rules.{loose}
use Rattle.report_rules.specs.Context.{Context}
use Rattle.report_rules.specs.Checks.{ReportKind, ParameterOf}
use Rattle.report_rules.specs.Findings.{Finding, parameter_kinds, found_params}
use Rattle.report_rules.specs.Reports.{findings}
use Rattle.report_rules.specs.Places.{params_of, places_of, found_at}
use Rattle.report_rules.proofs.FoundPlaces.{one_each}
use Rattle.run_frame.specs.Analysis.{Analysis}
use Rattle.run_frame.specs.Fit.{body_number, IsFound, Fit}
use Rattle.run_frame.proofs.World.{World}
use Rattle.run_frame.proofs.Counts.{same_place, is_reported, reached, one_if}
use Rattle.run_frame.proofs.Counts as counts
use Rattle.run_frame.proofs.Fine.{Sub, Fine}
use Rattle.run_frame.proofs.Held.{Runs, runs_kept, Violated}
use Rattle.run_frame.proofs.Parts.{Ends, ends_then, ends_so, ends_give}
use Rattle.run_frame.proofs.Activations.{IsReached, ends_reached}
use Rattle.run_frame.proofs.Layers.{rules_of}
use Rattle.run_frame.proofs.Readings.{sub_head, sub_tail, fits, reads_same}
use Rattle.body_runs.proofs.BodyFrame.{in_body, HaveArgs}

-- ---- the place of a parameter stands once among places

abbrev Lacks : Place → List Place → Type 0
Lacks p places = AllByRecursion (λ q. q ≢ p) places

abbrev Once : Place → List Place → Type 0
Once p [] = Unit {0}
Once p (q ∷ places) = (q ≡ p → Lacks p places) × Once p places

lacks_once : (p : Place) (places : List Place) → Lacks p places → Once p places
lacks_once p [] h = tt
lacks_once p (q ∷ places) h = (λ e. absurd (h.0 e), lacks_once p places h.1)

lacks_found : (p : Place) (found_here : List Finding) (f : Finding) → Lacks p (found_at found_here) → Contains found_here f → f.place ≡ p → ⊥
lacks_found p [] f h c e = absurd (omega (arith, c.1))
lacks_found p (x ∷ found_here) f h (zero, l, q) e = h.0 (ap (λ (y : Finding). y.place) q ∙ e)
lacks_found p (x ∷ found_here) f h (suc k, l, q) e = lacks_found p found_here f h.1 (k, omega (arith, l), q) e

-- two findings at a place that stands once are the same
one_finding : (p : Place) (found_here : List Finding) (f g : Finding) → Once p (found_at found_here) → Contains found_here f → Contains found_here g → f.place ≡ p → g.place ≡ p → f ≡ g
one_finding p [] f g h c d e k = absurd (omega (arith, c.1))
one_finding p (x ∷ found_here) f g h (zero, l, m) (zero, j, n) e k = sym m ∙ n
one_finding p (x ∷ found_here) f g h (zero, l, m) (suc i, j, n) e k = absurd (lacks_found p found_here g (h.0 (ap (λ (y : Finding). y.place) m ∙ e)) (i, omega (arith, j), n) k)
one_finding p (x ∷ found_here) f g h (suc i, l, m) (zero, j, n) e k = absurd (lacks_found p found_here f (h.0 (ap (λ (y : Finding). y.place) n ∙ k)) (i, omega (arith, l), m) e)
one_finding p (x ∷ found_here) f g h (suc i, l, m) (suc o, j, n) e k = one_finding p found_here f g h.1 (i, omega (arith, l), m) (o, omega (arith, j), n) e k

abbrev function_of : Place → ℕ
function_of (ParamPlace f i) = f.0
function_of (ExprPlace n) = 0

same_function : (f g i j : ℕ) → ParamPlace (record { 0 = f }) i ≡ ParamPlace (record { 0 = g }) j → f ≡ g
same_function f g i j e = ap function_of e

same_index : (f g i j : ℕ) → ParamPlace (record { 0 = f }) i ≡ ParamPlace (record { 0 = g }) j → i ≡ j
same_index f g i j e = cc

no_expression : (id f i : ℕ) → ExprPlace (record { 0 = id }) ≡ ParamPlace (record { 0 = f }) i → ⊥
no_expression id f i e = cc

-- the parameters of another body, and those from a later position on
lacks_other : (f g i position : ℕ) (params : Binds) (rest : List Place) → f ≢ g → Lacks (ParamPlace (record { 0 = g }) i) rest → Lacks (ParamPlace (record { 0 = g }) i) (params_of f position params ++ rest)
lacks_other f g i position no_binds rest n h = h
lacks_other f g i position (more_binds bind params) rest n h = (λ e. n (same_function f g position i e), lacks_other f g i (suc position) params rest n h)

lacks_later : (f i position : ℕ) (params : Binds) (rest : List Place) → i < position → Lacks (ParamPlace (record { 0 = f }) i) rest → Lacks (ParamPlace (record { 0 = f }) i) (params_of f position params ++ rest)
lacks_later f i position no_binds rest l h = h
lacks_later f i position (more_binds bind params) rest l h = (λ e. absurd (omega (arith, l, same_index f f position i e)), lacks_later f i (suc position) params rest (omega (arith, l)) h)

once_other : (f g i position : ℕ) (params : Binds) (rest : List Place) → f ≢ g → Once (ParamPlace (record { 0 = g }) i) rest → Once (ParamPlace (record { 0 = g }) i) (params_of f position params ++ rest)
once_other f g i position no_binds rest n h = h
once_other f g i position (more_binds bind params) rest n h = (λ e. absurd (n (same_function f g position i e)), once_other f g i (suc position) params rest n h)

once_own : (f i position : ℕ) (params : Binds) (rest : List Place) → Lacks (ParamPlace (record { 0 = f }) i) rest → Once (ParamPlace (record { 0 = f }) i) (params_of f position params ++ rest)
once_own f i position no_binds rest h = lacks_once (ParamPlace (record { 0 = f }) i) rest h
once_own f i position (more_binds bind params) rest h =
    (λ e. lacks_later f i (suc position) params rest (omega (arith, same_index f f position i e)) h, once_own f i (suc position) params rest h)

either_false : (a b : Bool) → a || b ≡ false → (a ≡ false) × (b ≡ false)
either_false true b e = cc
either_false false b e = (refl, e)

apart : (f g : ℕ) → (g == f) ≡ false → f ≢ g
apart f g h = grind arith

lacks_nodes : (g i : ℕ) (nodes : List SyntaxNode) → is_among g (filter_map body_number nodes) ≡ false → Lacks (ParamPlace (record { 0 = g }) i) (places_of nodes)
lacks_nodes g i [] h = tt
lacks_nodes g i (AnExpr (the_expr id span kind) ∷ nodes) h = (λ e. no_expression id g i e, lacks_nodes g i nodes h)
lacks_nodes g i (ABody (the_body id has_self generics params vararg result block span) ∷ nodes) h =
    let p : ((g == id) ≡ false) × (is_among g (filter_map body_number nodes) ≡ false) = either_false (g == id) (is_among g (filter_map body_number nodes)) h in
    lacks_other id g i 0 params (places_of nodes) (apart id g p.0) (lacks_nodes g i nodes p.1)
lacks_nodes g i (ABind bind ∷ nodes) h = lacks_nodes g i nodes h

first_apart : (x : ℕ) (xs : List ℕ) → are_distinct (x ∷ xs) ≡ true → (is_among x xs ≡ false) × (are_distinct xs ≡ true)
first_apart x xs h = by_parts (is_among x xs) (are_distinct xs) h
  where
    by_parts : (a b : Bool) → not a && b ≡ true → (a ≡ false) × (b ≡ true)
    by_parts true b k = cc
    by_parts false b k = (refl, k)

once_nodes : (g i : ℕ) (nodes : List SyntaxNode) → are_distinct (filter_map body_number nodes) ≡ true → Once (ParamPlace (record { 0 = g }) i) (places_of nodes)
once_nodes g i [] h = tt
once_nodes g i (AnExpr (the_expr id span kind) ∷ nodes) h = (λ e. absurd (no_expression id g i e), once_nodes g i nodes h)
once_nodes g i (ABody (the_body id has_self generics params vararg result block span) ∷ nodes) h = by_number (g == id) refl (once_nodes g i nodes)
  where
    p : (is_among id (filter_map body_number nodes) ≡ false) × (are_distinct (filter_map body_number nodes) ≡ true)
    p = first_apart id (filter_map body_number nodes) h

    by_number : (b : Bool) → (g == id) ≡ b → (are_distinct (filter_map body_number nodes) ≡ true → Once (ParamPlace (record { 0 = g }) i) (places_of nodes))
        → Once (ParamPlace (record { 0 = g }) i) (params_of id 0 params ++ places_of nodes)
    by_number true e again = subst (λ (n : ℕ). Once (ParamPlace (record { 0 = n }) i) (params_of id 0 params ++ places_of nodes)) (sym (eqb-true g id e))
        (once_own id i 0 params (places_of nodes) (lacks_nodes id i nodes p.0))
    by_number false e again = once_other id g i 0 params (places_of nodes) (apart id g e) (again p.1)
once_nodes g i (ABind bind ∷ nodes) h = once_nodes g i nodes h

-- ---- reports

place_same : (p q : Place) → same_place p q ≡ true → p ≡ q
place_same (ExprPlace m) (ExprPlace n) h = ap (λ (i : ℕ). ExprPlace (record { 0 = i })) (eqb-true m.0 n.0 h)
place_same (ParamPlace f i) (ParamPlace g j) h = by_parts (f.0 == g.0) (i == j) refl refl h
  where
    by_parts : (a b : Bool) → (f.0 == g.0) ≡ a → (i == j) ≡ b → a && b ≡ true → ParamPlace f i ≡ ParamPlace g j
    by_parts true true k l m = ap (λ (x : ℕ). ParamPlace (record { 0 = x }) i) (eqb-true f.0 g.0 k) ∙ ap (λ (x : ℕ). ParamPlace g x) (eqb-true i j l)
    by_parts true false k l m = cc
    by_parts false b k l m = cc
place_same (ExprPlace m) (ParamPlace g j) h = cc
place_same (ParamPlace f i) (ExprPlace n) h = cc

reported_there : (reports : List (ℕ × Place)) (m : ℕ) (p : Place) → counts.is_among reports m p ≡ true → Contains reports (m, p)
reported_there [] m p h = cc
reported_there (r ∷ reports) m p h = by_test (r.0 == m) (same_place r.1 p) refl refl h (reported_there reports m p)
  where
    by_test : (a b : Bool) → (r.0 == m) ≡ a → same_place r.1 p ≡ b → (a && b) || counts.is_among reports m p ≡ true
        → (counts.is_among reports m p ≡ true → Contains reports (m, p)) → Contains (r ∷ reports) (m, p)
    by_test true true k l q next = (zero, omega arith, ap (λ (x : ℕ). (x, r.1)) (eqb-true r.0 m k) ∙ ap (λ (x : Place). (m, x)) (place_same r.1 p l))
    by_test true false k l q next = let c : Contains reports (m, p) = next q in (suc c.0, omega (arith, c.1), c.2)
    by_test false b k l q next = let c : Contains reports (m, p) = next q in (suc c.0, omega (arith, c.1), c.2)

-- where a parameter's place is reported, something is found at it
pub param_tells : (an : Analysis) (w : World) (s : State) (frame : Frame) (function index : ℕ) (f : Finding) → Fit an → Runs an w s frame → Contains (findings (rules_of an frame)) f
    → f.place ≡ ParamPlace (record { 0 = function }) index → is_reported an frame.module_at (ParamPlace (record { 0 = function }) index) ≡ true → f.kinds ≢ []
param_tells an w s frame function index f fit r c e h = by_found ((fit.found frame.module_at (ParamPlace (record { 0 = function }) index)).0
    (reported_there an.reports frame.module_at (ParamPlace (record { 0 = function }) index) h))
  where
    once : Once (ParamPlace (record { 0 = function }) index) (found_at (findings (rules_of an frame)))
    once = subst (λ (places : List Place). Once (ParamPlace (record { 0 = function }) index) places) (sym (one_each (rules_of an frame)))
        (once_nodes function index (of_block (rules_of an frame).reading.block)
        (ap (λ (x : ReadModule). are_distinct (filter_map body_number (of_block x.block))) (reads_same an w s frame fit r) ∙ (fits an w s frame fit r).bodies))

    by_found : (reading : ReadModule) × (slice_get an.program.modules frame.module_at ≡ Some reading) × IsFound an frame.module_at (ParamPlace (record { 0 = function }) index) → f.kinds ≢ []
    by_found q z = q.2.3 (ap (λ (x : Finding). x.kinds) (one_finding (ParamPlace (record { 0 = function }) index) (findings (rules_of an frame)) q.2.0 f once q.2.1 c q.2.2 e) ∙ z)

-- ---- the places of parameters are reached

-- some parameter's argument is in its annotation, and its place is reported
abbrev pub SomeReported : Analysis → Frame → (function position : ℕ) → Binds → List Value → Heap → Type 0
SomeReported an frame function position no_binds args heap = ⊥
SomeReported an frame function position (more_binds bind rest) args heap =
    ((frame.reading.annotated function position heap (first args) ≡ true) × (is_reported an frame.module_at (ParamPlace (record { 0 = function }) position) ≡ true))
    ⊎ SomeReported an frame function (suc position) rest (drop 1 args) heap

-- the store is the same; and no reported place was reached, or that of some parameter was
abbrev pub AreReached : Analysis → Frame → (function position : ℕ) → Binds → List Value → State → State → Type 0
AreReached an frame function position params args s t = (t.store ≡ s.store)
    × ((reached an frame.activation t.trace ≡ reached an frame.activation s.trace) ⊎ SomeReported an frame function position params args s.store.heap)

plus_one : (n : ℕ) → n + 1 ≡ suc n
plus_one n = omega arith

pub ends_reaches : (an : Analysis) (frame : Frame) (w : World) (s : State) (function position : ℕ) (params : Binds) (args : List Value) → Fine an w s → Runs an w s frame
    → Ends an (in_body frame) w s (λ x t. AreReached an frame function position params args s t) (reach_params frame function position params args s)
unfolding ◌>>=◌ look
ends_reaches an frame w s function position no_binds args f r =
    ends_give an (in_body frame) w s (λ x t. AreReached an frame function position no_binds args s t) (tt {0}) f (refl, inl refl)
ends_reaches an frame w s function position (more_binds bind rest) args f r = by_test (frame.reading.annotated function position s.store.heap (first args)) refl
    (λ v t g k. ends_reaches an frame v t function (suc position) rest (drop 1 args) g k)
  where
    place : Place
    place = ParamPlace (record { 0 = function }) position

    -- what the first came to
    FirstReached : State → Type 0
    FirstReached t = (t.store ≡ s.store) × ((reached an frame.activation t.trace ≡ reached an frame.activation s.trace)
        ⊎ ((frame.reading.annotated function position s.store.heap (first args) ≡ true) × (is_reported an frame.module_at place ≡ true)))

    and_rest : (t u : State) → FirstReached t → AreReached an frame function (suc position) rest (drop 1 args) t u → AreReached an frame function position (more_binds bind rest) args s u
    and_rest t u p q = (q.0 ∙ p.0, by_side p.1 q.1)
      where
        by_side : (reached an frame.activation t.trace ≡ reached an frame.activation s.trace)
            ⊎ ((frame.reading.annotated function position s.store.heap (first args) ≡ true) × (is_reported an frame.module_at place ≡ true))
            → (reached an frame.activation u.trace ≡ reached an frame.activation t.trace) ⊎ SomeReported an frame function (suc position) rest (drop 1 args) t.store.heap
            → (reached an frame.activation u.trace ≡ reached an frame.activation s.trace) ⊎ SomeReported an frame function position (more_binds bind rest) args s.store.heap
        by_side (inr e) k = inr (inl e)
        by_side (inl e) (inl k) = inl (k ∙ e)
        by_side (inl e) (inr k) = inr (inr (subst (λ (x : Store). SomeReported an frame function (suc position) rest (drop 1 args) x.heap) p.0 k))

    Again : Type 0
    Again = (v : World) (t : State) → Fine an v t → Runs an v t frame
        → Ends an (in_body frame) v t (λ x u. AreReached an frame function (suc position) rest (drop 1 args) t u) (reach_params frame function (suc position) rest (drop 1 args) t)

    go : Again → (t : State) (v : World) → Fine an v t → Runs an v t frame → FirstReached t
        → Ends an (in_body frame) v t (λ x u. AreReached an frame function position (more_binds bind rest) args s u) (reach_params frame function (position + 1) rest (drop 1 args) t)
    go again t v g k p = subst (λ (n : ℕ). Ends an (in_body frame) v t (λ x u. AreReached an frame function position (more_binds bind rest) args s u) (reach_params frame function n rest (drop 1 args) t))
        (sym (plus_one position))
        (ends_so an (in_body frame) v t (λ x u. AreReached an frame function (suc position) rest (drop 1 args) t u) (λ x u. AreReached an frame function position (more_binds bind rest) args s u)
        (reach_params frame function (suc position) rest (drop 1 args) t) (λ x u z e d j q. and_rest t u p q) (again v t g k))

    first_reached : (t : State) → frame.reading.annotated function position s.store.heap (first args) ≡ true → IsReached an frame.activation frame.module_at place s t → FirstReached t
    first_reached t e q = (q.0, by_report (is_reported an frame.module_at place) refl q.1)
      where
        by_report : (b : Bool) → is_reported an frame.module_at place ≡ b → reached an frame.activation t.trace ≡ reached an frame.activation s.trace + one_if b
            → (reached an frame.activation t.trace ≡ reached an frame.activation s.trace)
            ⊎ ((frame.reading.annotated function position s.store.heap (first args) ≡ true) × (is_reported an frame.module_at place ≡ true))
        by_report true k l = inr (e, k)
        by_report false k l = inl (omega (arith, l))

    by_test : (b : Bool) → frame.reading.annotated function position s.store.heap (first args) ≡ b → Again
        → Ends an (in_body frame) w s (λ x t. AreReached an frame function position (more_binds bind rest) args s t)
        (◌>>=◌ (if b then log (Reach frame.activation frame.module_at place) else give (tt {0})) (λ x. reach_params frame function (position + 1) rest (drop 1 args)) s)
    by_test true e again = ends_then an (in_body frame) w s (λ x t. FirstReached t) (λ x t. AreReached an frame function position (more_binds bind rest) args s t)
        (log (Reach frame.activation frame.module_at place) s) (λ x. reach_params frame function (position + 1) rest (drop 1 args))
        (ends_so an (in_body frame) w s (λ x t. IsReached an frame.activation frame.module_at place s t) (λ x t. FirstReached t) (log (Reach frame.activation frame.module_at place) s)
        (λ x t v k g j q. first_reached t e q) (ends_reached an (in_body frame) w s frame place f r refl))
        (λ x t v g k p. go again t v g (runs_kept an (in_body frame) w v s t frame k r) p)
    by_test false e again = ends_then an (in_body frame) w s (λ x t. FirstReached t) (λ x t. AreReached an frame function position (more_binds bind rest) args s t)
        (give (tt {0}) s) (λ x. reach_params frame function (position + 1) rest (drop 1 args))
        (ends_give an (in_body frame) w s (λ x t. FirstReached t) (tt {0}) f (refl, inl refl))
        (λ x t v g k p. go again t v g (runs_kept an (in_body frame) w v s t frame k r) p)

-- ---- a report at a parameter makes the body fail

tests : (a b c d : Bool) (kind : ReportKind) → (if a && (not b && (not c && d)) then kind ∷ [] else []) ≢ [] → (b ≡ false) × (d ≡ true)
tests true false false true kind n = (refl, refl)
tests true false false false kind n = absurd (n refl)
tests true false true d kind n = absurd (n refl)
tests true true c d kind n = absurd (n refl)
tests false b c d kind n = absurd (n refl)

-- some parameter holds a value with which the body fails
pub params_violate : (an : Analysis) (w : World) (s : State) (frame : Frame) (live : Bool) (function position : ℕ) (body : Context) (params : Binds) (args : List Value) → Fit an → Runs an w s frame
    → Sub (found_params (rules_of an frame) live function position body params) (findings (rules_of an frame)) → HaveArgs frame params args s
    → SomeReported an frame function position params args s.store.heap → Violated an frame body s
params_violate an w s frame live function position body no_binds args fit r marked have h = absurd h
params_violate an w s frame live function position body (more_binds (the_bind name span typ) rest) args fit r marked have (inl h) = (
  frame.reading.local_at span.start,
  have.0.0,
  first args,
  subst (λ (x : ReadModule). loose (rules_of an frame) (x.local_at span.start) ≡ false) same told.0,
  have.0.1,
  below_includes s.store.heap (first args) ((rules_of an frame).annotation function position) (body (frame.reading.local_at span.start))
      (subst (λ (x : ReadModule). below ((rules_of an frame).annotation function position) (body (x.local_at span.start)) ≡ true) same told.1)
      (sym ((fits an w s frame fit r).annotations function position s.store.heap (first args)) ∙ h.0),
)
  where
    same : (rules_of an frame).reading ≡ frame.reading
    same = reads_same an w s frame fit r

    told : (loose (rules_of an frame) ((rules_of an frame).reading.local_at span.start) ≡ false)
        × (below ((rules_of an frame).annotation function position) (body ((rules_of an frame).reading.local_at span.start)) ≡ true)
    told = tests live (loose (rules_of an frame) ((rules_of an frame).reading.local_at span.start)) (is_empty ((rules_of an frame).annotation function position))
        (below ((rules_of an frame).annotation function position) (body ((rules_of an frame).reading.local_at span.start))) (ParameterOf name)
        (param_tells an w s frame function position
        (record {
          place = ParamPlace (record { 0 = function }) position;
          at = span;
          kinds = parameter_kinds (rules_of an frame) live ((rules_of an frame).annotation function position) body (the_bind name span typ);
        }) fit r (sub_head _ (found_params (rules_of an frame) live function (suc position) body rest) (findings (rules_of an frame)) marked) refl h.1)
params_violate an w s frame live function position body (more_binds (the_bind name span typ) rest) args fit r marked have (inr h) =
    params_violate an w s frame live function (suc position) body rest (drop 1 args) fit r
    (sub_tail _ (found_params (rules_of an frame) live function (suc position) body rest) (findings (rules_of an frame)) marked) have.1 h
