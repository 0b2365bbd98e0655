-- Each expression has one entry of what is found and one of what is seen; and an operand that is checked.
use Rattle.std.proofs.Common.{◌≡◌, ◌≢◌, ℕ, zero, suc, ◌+◌, ◌<◌, Bool, true, false, not, ◌==◌, ◌&&◌, ◌||◌, if◌then◌else◌, List, [], ◌∷◌, ◌++◌, Some, ◌⊎◌, inl, inr, refl, sym, ◌∙◌, ap, subst, arith, slice_get, Contains}
use Rattle.std.specs.List.{filter_map}
use Rattle.std.proofs.lemmas.Bool.{eqb-true}
use Rattle.luau_values.specs.Value.{Value}
use Rattle.luau_tree.specs.declared.names.Place.{Place}
use Rattle.luau_tree.specs.declared.names.Place.TheVariants.{Expr as ExprPlace, Param as ParamPlace}
use Rattle.luau_tree.specs.Tree.{Expr, the_expr, Binds, no_binds, more_binds, the_body}
use Rattle.luau_run.specs.ReadModule.{ReadModule}
use Rattle.luau_run.specs.ReadFolder.{is_among, are_distinct}
use Rattle.luau_run.specs.SyntaxNode.{SyntaxNode, AnExpr, ABody, ABind, of_block}
use Rattle.luau_run.specs.Machine.{State}
use Rattle.luau_run.specs.Layer.{Frame, first}
use Rattle.luau_run.specs.Statements.{place_of}
use Rattle.type_arena.specs.Term.{Term, never}
use Rattle.type_normal.specs.Holds.{holds}
use Rattle.type_normal.specs.Rows.{is_empty}
use Rattle.type_normal.proofs.Public.{never_none}
use Rattle.subtype_check.specs.Below.{below}
use Rattle.subtype_check.proofs.Public.{below_includes}
use Rattle.report_rules.specs.TypeMap.{TypeMap}
use Rattle.report_rules.specs.Forward.{typ}
use Rattle.report_rules.specs.Seen.{Seen, SeenExpr, SeenBody, type_at, is_live, seen_expr}
use Rattle.report_rules.specs.Checks.{ReportKind, type_of, check, left}
use Rattle.report_rules.specs.Errors.{ev}
use Rattle.report_rules.specs.Findings.{Finding, own_kinds, found}
use Rattle.report_rules.specs.Reports.{findings}
use Rattle.report_rules.specs.Places.{params_of, places_of, found_at, Numbered, NumberedExpr, NumberedBody, numbered, seen_numbers}
use Rattle.report_rules.proofs.FoundPlaces.{one_each}
use Rattle.report_rules.proofs.SeenPlaces.{one_seen}
use Rattle.run_frame.specs.Analysis.{Analysis}
use Rattle.run_frame.specs.Fit.{expr_number, IsFound, Fit}
use Rattle.run_frame.proofs.World.{World}
use Rattle.run_frame.proofs.Counts.{same_place, is_reported, reached, one_if}
use Rattle.run_frame.proofs.Counts as counts
use Rattle.run_frame.proofs.Held.{Runs, Violated}
use Rattle.run_frame.proofs.Layers.{rules_of, seen_of, Placed, Marked, Gives, Pays}
use Rattle.run_frame.proofs.Readings.{contains_head, fits, reads_same}

-- ---- the numbers of expressions among places

abbrev expr_ids : List Place → List ℕ
expr_ids [] = []
expr_ids (ExprPlace id ∷ places) = id.0 ∷ expr_ids places
expr_ids (ParamPlace function index ∷ places) = expr_ids places

ids_params : (function position : ℕ) (params : Binds) (rest : List Place) → expr_ids (params_of function position params ++ rest) ≡ expr_ids rest
ids_params function position no_binds rest = refl
ids_params function position (more_binds bind params) rest = ids_params function (suc position) params rest

ids_nodes : (nodes : List SyntaxNode) → expr_ids (places_of nodes) ≡ filter_map expr_number nodes
ids_nodes [] = refl
ids_nodes (AnExpr (the_expr id span kind) ∷ nodes) = ap (λ (ids : List ℕ). id ∷ ids) (ids_nodes nodes)
ids_nodes (ABody (the_body id has_self generics params vararg result block span) ∷ nodes) = ids_params id 0 params (places_of nodes) ∙ ids_nodes nodes
ids_nodes (ABind bind ∷ nodes) = ids_nodes nodes

itself : (n : ℕ) → (n == n) ≡ true
itself n = grind arith

or_true : (b : Bool) → b || true ≡ true
or_true true = refl
or_true false = refl

tail_ids : (p : Place) (places : List Place) (id : ℕ) → is_among id (expr_ids places) ≡ true → is_among id (expr_ids (p ∷ places)) ≡ true
tail_ids (ExprPlace other) places id h = rw h (or_true (id == other.0))
tail_ids (ParamPlace function index) places id h = h

head_ids : (p : Place) (places : List Place) (id : ℕ) → p ≡ ExprPlace (record { 0 = id }) → is_among id (expr_ids (p ∷ places)) ≡ true
head_ids p places id e = subst (λ (x : Place). is_among id (expr_ids (x ∷ places)) ≡ true) (sym e) (rw (itself id) refl)

among_found : (found_here : List Finding) (f : Finding) (id : ℕ) → Contains found_here f → f.place ≡ ExprPlace (record { 0 = id }) → is_among id (expr_ids (found_at found_here)) ≡ true
among_found [] f id c e = absurd (omega (arith, c.1))
among_found (x ∷ found_here) f id (zero, l, q) e = head_ids x.place (found_at found_here) id (ap (λ (y : Finding). y.place) q ∙ e)
among_found (x ∷ found_here) f id (suc k, l, q) e = tail_ids x.place (found_at found_here) id (among_found found_here f id (k, omega (arith, l), q) e)

tail_distinct : (p : Place) (places : List Place) → are_distinct (expr_ids (p ∷ places)) ≡ true → are_distinct (expr_ids places) ≡ true
tail_distinct (ExprPlace id) places h = second (not (is_among id.0 (expr_ids places))) (are_distinct (expr_ids places)) h
  where
    second : (a b : Bool) → a && b ≡ true → b ≡ true
    second true b k = k
    second false b k = cc
tail_distinct (ParamPlace function index) places h = h

not_twice : (p : Place) (places : List Place) (id : ℕ) → p ≡ ExprPlace (record { 0 = id }) → are_distinct (expr_ids (p ∷ places)) ≡ true → is_among id (expr_ids places) ≡ true → ⊥
not_twice p places id e d h = clash (is_among id (expr_ids places)) (are_distinct (expr_ids places)) (subst (λ (x : Place). are_distinct (expr_ids (x ∷ places)) ≡ true) e d) h
  where
    clash : (a b : Bool) → not a && b ≡ true → a ≡ true → ⊥
    clash true b k q = cc
    clash false b k q = cc

-- two findings at the place of one expression are the same
one_finding : (id : ℕ) (found_here : List Finding) (f g : Finding) → are_distinct (expr_ids (found_at found_here)) ≡ true → Contains found_here f → Contains found_here g
    → f.place ≡ ExprPlace (record { 0 = id }) → g.place ≡ ExprPlace (record { 0 = id }) → f ≡ g
one_finding id [] f g d c e p q = absurd (omega (arith, c.1))
one_finding id (x ∷ found_here) f g d (zero, l, m) (zero, k, n) p q = sym m ∙ n
one_finding id (x ∷ found_here) f g d (zero, l, m) (suc k, j, n) p q =
    absurd (not_twice x.place (found_at found_here) id (ap (λ (y : Finding). y.place) m ∙ p) d (among_found found_here g id (k, omega (arith, j), n) q))
one_finding id (x ∷ found_here) f g d (suc k, j, n) (zero, l, m) p q =
    absurd (not_twice x.place (found_at found_here) id (ap (λ (y : Finding). y.place) m ∙ q) d (among_found found_here f id (k, omega (arith, j), n) p))
one_finding id (x ∷ found_here) f g d (suc k, j, n) (suc i, l, m) p q =
    one_finding id found_here f g (tail_distinct x.place (found_at found_here) d) (k, omega (arith, j), n) (i, omega (arith, l), m) p q

-- ---- reports

place_same : (p q : Place) → same_place p q ≡ true → p ≡ q
place_same (ExprPlace m) (ExprPlace n) h = ap (λ (i : ℕ). ExprPlace (record { 0 = i })) (eqb-true m.0 n.0 h)
place_same (ParamPlace f i) (ParamPlace g j) h = by_parts (f.0 == g.0) (i == j) refl refl h
  where
    by_parts : (a b : Bool) → (f.0 == g.0) ≡ a → (i == j) ≡ b → a && b ≡ true → ParamPlace f i ≡ ParamPlace g j
    by_parts true true k l m = ap (λ (x : ℕ). ParamPlace (record { 0 = x }) i) (eqb-true f.0 g.0 k) ∙ ap (λ (x : ℕ). ParamPlace g x) (eqb-true i j l)
    by_parts true false k l m = cc
    by_parts false b k l m = cc
place_same (ExprPlace m) (ParamPlace g j) h = cc
place_same (ParamPlace f i) (ExprPlace n) h = cc

reported_there : (reports : List (ℕ × Place)) (m : ℕ) (p : Place) → counts.is_among reports m p ≡ true → Contains reports (m, p)
reported_there [] m p h = cc
reported_there (r ∷ reports) m p h = by_test (r.0 == m) (same_place r.1 p) refl refl h (reported_there reports m p)
  where
    by_test : (a b : Bool) → (r.0 == m) ≡ a → same_place r.1 p ≡ b → (a && b) || counts.is_among reports m p ≡ true
        → (counts.is_among reports m p ≡ true → Contains reports (m, p)) → Contains (r ∷ reports) (m, p)
    by_test true true k l q next = (zero, omega arith, ap (λ (x : ℕ). (x, r.1)) (eqb-true r.0 m k) ∙ ap (λ (x : Place). (m, x)) (place_same r.1 p l))
    by_test true false k l q next = let c : Contains reports (m, p) = next q in (suc c.0, omega (arith, c.1), c.2)
    by_test false b k l q next = let c : Contains reports (m, p) = next q in (suc c.0, omega (arith, c.1), c.2)

-- where an expression's place is reported, something is found at it
pub mark_tells : (an : Analysis) (w : World) (s : State) (frame : Frame) (id : ℕ) (f : Finding) → Fit an → Runs an w s frame → Contains (findings (rules_of an frame)) f
    → f.place ≡ ExprPlace (record { 0 = id }) → is_reported an frame.module_at (ExprPlace (record { 0 = id })) ≡ true → f.kinds ≢ []
mark_tells an w s frame id f fit r c e h = by_found ((fit.found frame.module_at (ExprPlace (record { 0 = id }))).0
    (reported_there an.reports frame.module_at (ExprPlace (record { 0 = id })) h))
  where
    by_found : (reading : ReadModule) × (slice_get an.program.modules frame.module_at ≡ Some reading) × IsFound an frame.module_at (ExprPlace (record { 0 = id })) → f.kinds ≢ []
    by_found q z = q.2.3 (ap (λ (x : Finding). x.kinds)
        (one_finding id (findings (rules_of an frame)) q.2.0 f (ap (λ (places : List Place). are_distinct (expr_ids places)) (one_each (rules_of an frame))
        ∙ (ap are_distinct (ids_nodes (of_block (rules_of an frame).reading.block))
        ∙ (ap (λ (x : ReadModule). are_distinct (filter_map expr_number (of_block x.block))) (reads_same an w s frame fit r) ∙ (fits an w s frame fit r).expressions)))
        q.2.1 c q.2.2 e) ∙ z)

-- ---- what is seen

abbrev seen_ids : List Seen → List ℕ
seen_ids [] = []
seen_ids (SeenExpr id type live ∷ seen) = id ∷ seen_ids seen
seen_ids (SeenBody id live ∷ seen) = seen_ids seen

abbrev numbered_ids : List Numbered → List ℕ
numbered_ids [] = []
numbered_ids (NumberedExpr id ∷ numbers) = id ∷ numbered_ids numbers
numbered_ids (NumberedBody id ∷ numbers) = numbered_ids numbers

ids_seen : (seen : List Seen) → seen_ids seen ≡ numbered_ids (seen_numbers seen)
ids_seen [] = refl
ids_seen (SeenExpr id type live ∷ seen) = ap (λ (ids : List ℕ). id ∷ ids) (ids_seen seen)
ids_seen (SeenBody id live ∷ seen) = ids_seen seen

ids_numbered : (nodes : List SyntaxNode) → numbered_ids (numbered nodes) ≡ filter_map expr_number nodes
ids_numbered [] = refl
ids_numbered (AnExpr (the_expr id span kind) ∷ nodes) = ap (λ (ids : List ℕ). id ∷ ids) (ids_numbered nodes)
ids_numbered (ABody (the_body id has_self generics params vararg result block span) ∷ nodes) = ids_numbered nodes
ids_numbered (ABind bind ∷ nodes) = ids_numbered nodes

-- the tail of a list of distinct numbers, and its head
distinct_parts : (id : ℕ) (ids : List ℕ) → are_distinct (id ∷ ids) ≡ true → (is_among id ids ≡ false) × (are_distinct ids ≡ true)
distinct_parts id ids h = by_parts (is_among id ids) (are_distinct ids) refl refl h
  where
    by_parts : (a b : Bool) → is_among id ids ≡ a → are_distinct ids ≡ b → not a && b ≡ true → (is_among id ids ≡ false) × (are_distinct ids ≡ true)
    by_parts true b k l q = cc
    by_parts false true k l q = (k, l)
    by_parts false false k l q = cc

among_seen : (seen : List Seen) (id : ℕ) (type : Term) (live : Bool) → Contains seen (SeenExpr id type live) → is_among id (seen_ids seen) ≡ true
among_seen [] id type live c = absurd (omega (arith, c.1))
among_seen (x ∷ seen) id type live (zero, l, e) = subst (λ (y : Seen). is_among id (seen_ids (y ∷ seen)) ≡ true) (sym e) (rw (itself id) refl)
among_seen (SeenExpr other t b ∷ seen) id type live (suc k, l, e) = rw (among_seen seen id type live (k, omega (arith, l), e)) (or_true (id == other))
among_seen (SeenBody other b ∷ seen) id type live (suc k, l, e) = among_seen seen id type live (k, omega (arith, l), e)

-- what is seen of an expression is what is read by its number
type_there : (seen : List Seen) (id : ℕ) (type : Term) (live : Bool) → are_distinct (seen_ids seen) ≡ true → Contains seen (SeenExpr id type live) → type_at seen id ≡ type
type_there [] id type live d c = absurd (omega (arith, c.1))
type_there (x ∷ seen) id type live d (zero, l, e) = subst (λ (y : Seen). type_at (y ∷ seen) id ≡ type) (sym e) (rw (itself id) refl)
type_there (SeenExpr other t b ∷ seen) id type live d (suc k, l, e) = by_test (other == id) refl (distinct_parts other (seen_ids seen) d)
    (λ g. type_there seen id type live g (k, omega (arith, l), e))
  where
    clash : (a : Bool) → a ≡ false → a ≡ true → ⊥
    clash a p q = cc

    by_test : (a : Bool) → (other == id) ≡ a → (is_among other (seen_ids seen) ≡ false) × (are_distinct (seen_ids seen) ≡ true) → (are_distinct (seen_ids seen) ≡ true → type_at seen id ≡ type)
        → (if a then t else type_at seen id) ≡ type
    by_test true m q next = absurd (clash (is_among other (seen_ids seen)) q.0
        (subst (λ (i : ℕ). is_among i (seen_ids seen) ≡ true) (sym (eqb-true other id m)) (among_seen seen id type live (k, omega (arith, l), e))))
    by_test false m q next = next q.1
type_there (SeenBody other b ∷ seen) id type live d (suc k, l, e) = type_there seen id type live d (k, omega (arith, l), e)

-- what is seen of an expression of the module, or of a target, is its type by its number
pub seen_typed : (an : Analysis) (w : World) (s : State) (frame : Frame) (id : ℕ) (type : Term) (live : Bool) → Fit an → Runs an w s frame → Contains (seen_of an frame) (SeenExpr id type live)
    → type_at (seen_of an frame) id ≡ type
seen_typed an w s frame id type live fit r c = type_there (seen_of an frame) id type live
    (ap are_distinct (ids_seen (seen_of an frame)) ∙ (ap (λ (ns : List Numbered). are_distinct (numbered_ids ns)) (one_seen (rules_of an frame))
    ∙ (ap are_distinct (ids_numbered (of_block (rules_of an frame).reading.block))
    ∙ (ap (λ (x : ReadModule). are_distinct (filter_map expr_number (of_block x.block))) (reads_same an w s frame fit r) ∙ (fits an w s frame fit r).expressions))))
    c

-- the type of an expression, read by its number, is its type in the map at its turn
pub typed_at : (an : Analysis) (w : World) (s : State) (frame : Frame) (map : TypeMap) (e : Expr) → Fit an → Runs an w s frame → Placed an frame (seen_expr (rules_of an frame) map e)
    → type_of (seen_of an frame) e ≡ typ (rules_of an frame) map e
typed_at an w s frame map (the_expr id span kind) fit r placed =
    seen_typed an w s frame id (typ (rules_of an frame) map (the_expr id span kind)) (not map.dead) fit r
    (placed (SeenExpr id (typ (rules_of an frame) map (the_expr id span kind)) (not map.dead)) (contains_head _ _))

-- ---- an operand that is checked

-- what a check reports has its type below the set
pub checked_below : (seen : List Seen) (e : Expr) (set : Term) (kind : ReportKind) → check seen e set kind ≢ [] → below (type_of seen e) set ≡ true
checked_below seen e set kind h = by_parts (is_live seen (place_of e)) (is_empty (type_of seen e)) (below (type_of seen e) set) refl h
  where
    by_parts : (a b c : Bool) → below (type_of seen e) set ≡ c → (if a && (not b && c) then kind ∷ [] else []) ≢ [] → below (type_of seen e) set ≡ true
    by_parts true false true k n = k
    by_parts true true c k n = absurd (n refl)
    by_parts true false false k n = absurd (n refl)
    by_parts false b c k n = absurd (n refl)

-- where the context that waits for what is left of the set is violated, or a reported place is reached, the value is in the set
pub checked_operand : (an : Analysis) (w : World) (s : State) (frame : Frame) (map : TypeMap) (id : ℕ) (span : _) (expr_kind : _) (set : Term) (kind : ReportKind)
    (vs : List Value) (v : World) (t : State) → Fit an → Runs an w s frame → Placed an frame (seen_expr (rules_of an frame) map (the_expr id span expr_kind))
    → Marked an frame (found (rules_of an frame) (seen_of an frame) (check (seen_of an frame) (the_expr id span expr_kind) set kind) (the_expr id span expr_kind))
    → Gives an frame map (the_expr id span expr_kind) vs t → Pays an frame (the_expr id span expr_kind) s vs t
    → Violated an frame (ev (rules_of an frame) (seen_of an frame) (the_expr id span expr_kind) (left (check (seen_of an frame) (the_expr id span expr_kind) set kind) set)) s
    ⊎ (reached an frame.activation s.trace < reached an frame.activation t.trace)
    → holds t.store.heap (first vs) set ≡ true
checked_operand an w s frame map id span expr_kind set kind vs v t fit r placed marked gives pays (inl h) =
    by_left (check (seen_of an frame) (the_expr id span expr_kind) set kind)
    (pays.context (left (check (seen_of an frame) (the_expr id span expr_kind) set kind) set) h)
  where
    by_left : (kinds : List ReportKind) → holds t.store.heap (first vs) (left kinds set) ≡ true → holds t.store.heap (first vs) set ≡ true
    by_left [] k = k
    by_left (x ∷ kinds) k = absurd (clash (holds t.store.heap (first vs) never) k (never_none t.store.heap (first vs)))
      where
        clash : (b : Bool) → b ≡ true → b ≡ false → ⊥
        clash b p q = cc
checked_operand an w s frame map id span expr_kind set kind vs v t fit r placed marked gives pays (inr h) =
    below_includes t.store.heap (first vs) (typ (rules_of an frame) map (the_expr id span expr_kind)) set
    (subst (λ (type : Term). below type set ≡ true) (typed_at an w s frame map (the_expr id span expr_kind) fit r placed)
    (checked_below (seen_of an frame) (the_expr id span expr_kind) set kind
    (around_kinds (check (seen_of an frame) (the_expr id span expr_kind) set kind) (own_kinds (rules_of an frame) (seen_of an frame) id expr_kind) pays.own
    (mark_tells an w s frame id
    (record { place = ExprPlace (record { 0 = id }); at = span; kinds = check (seen_of an frame) (the_expr id span expr_kind) set kind ++ own_kinds (rules_of an frame) (seen_of an frame) id expr_kind })
    fit r (marked _ (contains_head _ _)) refl (counted (is_reported an frame.module_at (ExprPlace (record { 0 = id }))) pays.reports))))) gives.typed
  where
    counted : (b : Bool) → reached an frame.activation t.trace ≡ reached an frame.activation s.trace + one_if b → b ≡ true
    counted true e = refl
    counted false e = absurd (omega (arith, h, e))

    around_kinds : (around own : List ReportKind) → own ≡ [] → around ++ own ≢ [] → around ≢ []
    around_kinds around own e n z = n (both_none around own z e)
      where
        both_none : (xs ys : List ReportKind) → xs ≡ [] → ys ≡ [] → xs ++ ys ≡ []
        both_none [] ys p q = q
        both_none (x ∷ xs) ys p q = cc
