-- The statements of a module fit.
use Rattle.std.proofs.Common.{◌≡◌, ℕ, Bool, true, false, List, [], ◌∷◌, ◌++◌, refl, sym, ap, ◌∙◌, subst}
use Rattle.std.specs.Prelude.{Option, Some, None}
use Rattle.std.specs.List.{AllByRecursion, filter_map}
use Rattle.luau_tree.specs.declared.position.Span.{Span}
use Rattle.luau_tree.specs.Tree.{Block, Stat, the_stat, StatKind, Assign, Compound, NumFor, GenFor, FunctionStat, LocalFunction, Local}
use Rattle.luau_tree.specs.Tree.{Expr, the_expr, Exprs, no_exprs, more_exprs, Bind, the_bind, Binds, no_binds, more_binds}
use Rattle.luau_scope.specs.Found.{Part, ◌then◌, Visible, Around, OtherLoop}
use Rattle.luau_scope.specs.Finds as finds
use Rattle.luau_scope.specs.Finds.{in_scope, in_loop, with_bind, of_entry, of_entries, own_locals, declared_span, numbered, aimed, named_function, first_value, other_values}
use Rattle.luau_scope.specs.Refusals.{refusal_of}
use Rattle.luau_run.specs.ReadFolder.{are_distinct, declared_by}
use Rattle.luau_run.specs.SyntaxNode.{SyntaxNode, of_block, of_stat, of_binds, of_exprs}
use Rattle.type_arena.specs.Term.{Term}
use Rattle.type_decl.specs.Signatures.{Signature}
use Rattle.report_rules.specs.Rules.{Rules}
use Rattle.report_rules.specs.Effects.{target_of, targets_of, writes_local, any_writes_local, assigns, locals_of_binds}
use Rattle.run_frame.specs.Fit.{FixedBy, NoneFixed, IsFitKind, IsFitStat}
use Rattle.run_frame.specs.Statements.{stats_of_block, stats_of}
use Rattle.module_reading.specs.ReadRules.{rules_of}
use Rattle.tree_readings.specs.Apart.{StandsApart}
use Rattle.module_reading.proofs.Lists.{Has, all_of}
use Rattle.reading_fits.proofs.Told.{Ground, IsKnown, IsLocal, Told, first, second}
use Rattle.reading_fits.proofs.Visits.{SeenStat, local_told, own_told}
use Rattle.reading_fits.proofs.Visits as visits
use Rattle.reading_fits.proofs.Whole.{ground_of}
use Rattle.reading_fits.proofs.Inside.{Main, main, apart_left}
use Rattle.reading_fits.proofs.FitBodies.{none_fixed, same_binds, all_visited}
use Rattle.reading_fits.proofs.Targets.{IsAim, aim, targets_fit, all_assigned, writes_named, own_targets, Written, written}

-- ---- what a statement assigns is assigned

one_target : (rules : Rules) (x : ℕ) (e : Expr) → any_writes_local x (target_of rules e ∷ []) ≡ true → writes_local x (target_of rules e) ≡ true
one_target rules x e h = by_test (writes_local x (target_of rules e)) refl h
  where
    by_test : (b : Bool) → writes_local x (target_of rules e) ≡ b → any_writes_local x (target_of rules e ∷ []) ≡ true → writes_local x (target_of rules e) ≡ true
    by_test true q k = q
    by_test false q k = absurd (let z : false ≡ true = rw q at k in cc)

own_assigned : (ground : Ground) (a : Around) (span : Span) (kind : StatKind) (n x : ℕ) → ((v : Visible) → Has a.scope v → IsKnown ground v.local) → Told ground n (finds.of_stat_kind a span kind n)
    → any_writes_local x (own_targets ground.rules kind) ≡ true → ground.rules.assigned x ≡ true
own_assigned ground a span (Assign targets values) n x known t e =
    all_assigned ground [] (targets_of ground.rules targets) x (targets_fit ground a [] targets n known (first ground n (finds.of_targets a [] targets) (finds.of_exprs a values) t)) e
own_assigned ground a span (Compound target op v) n x known t e =
    let p : Part = finds.of_expr a target in
    let q : Part = aimed a [] target in
    let r : Part = finds.of_expr a v in
    let here : IsAim ground a [] target x =
    aim ground a [] target n _ x known (first ground n p (q then r) t) (first ground _ q r (second ground n p (q then r) t)) (writes_named ground.rules x target (one_target ground.rules x target e)) in
    here.assigned
own_assigned ground a span (FunctionStat path None body) n x known t e =
    let p : Part = finds.of_expr a path in
    let q : Part = aimed a [] path in
    let r : Part = finds.of_body a body in
    let here : IsAim ground a [] path x =
    aim ground a [] path n _ x known (first ground n p (q then r) t) (first ground _ q r (second ground n p (q then r) t)) (writes_named ground.rules x path (one_target ground.rules x path e)) in
    here.assigned
own_assigned ground a span (FunctionStat path (Some method) body) n x known t e = cc
own_assigned ground a span other n x known t e = cc

-- ---- declared locals

fixed_binds : (ground : Ground) (a : Around) (bs : Binds) (values : Exprs) (n : ℕ) → Told ground n (finds.of_binds a bs values n) → FixedBy ground.rules (locals_of_binds ground.rules bs) values
fixed_binds ground a no_binds values n t = tt
fixed_binds ground a (more_binds (the_bind name span type) rest) no_exprs n t =
    let b : Bind = the_bind name span type in
    let p : Part = finds.of_bind a None b in
    let q : Part = finds.of_binds a rest no_exprs in
    (none_fixed ground n span (local_told ground a name span type None n (first ground n p q t)), fixed_binds ground a rest no_exprs _ (second ground n p q t))
fixed_binds ground a (more_binds (the_bind name span type) rest) (more_exprs (the_expr id s kind) vs) n t =
    let b : Bind = the_bind name span type in
    let p : Part = finds.of_bind a (Some (record { 0 = id })) b in
    let q : Part = finds.of_binds a rest vs in
    let told : IsLocal ground n span (Some (record { 0 = id })) = local_told ground a name span type (Some (record { 0 = id })) n (first ground n p q t) in
    (λ path h. told.fixed path (subst (λ (k : ℕ). ground.rules.fixed k ≡ Some path) told.place h), fixed_binds ground a rest vs _ (second ground n p q t))

free_binds : (ground : Ground) (a : Around) (bs : Binds) (n : ℕ) → Told ground n (finds.of_binds a bs no_exprs n) → NoneFixed ground.rules (locals_of_binds ground.rules bs)
free_binds ground a no_binds n t = tt
free_binds ground a (more_binds (the_bind name span type) rest) n t =
    let b : Bind = the_bind name span type in
    let p : Part = finds.of_bind a None b in
    let q : Part = finds.of_binds a rest no_exprs in
    (none_fixed ground n span (local_told ground a name span type None n (first ground n p q t)), free_binds ground a rest _ (second ground n p q t))

distinct_binds : (ground : Ground) (bs : Binds) (ns : List SyntaxNode) → are_distinct (filter_map (declared_by ground.rules.reading) (of_binds bs ++ ns)) ≡ true → are_distinct (locals_of_binds ground.rules bs) ≡ true
distinct_binds ground bs ns d = ap are_distinct (sym (same_binds ground.rules bs)) ∙ apart_left (declared_by ground.rules.reading) (of_binds bs) ns d

-- ---- a statement fits

fit_kind : (ground : Ground) (whole : List SyntaxNode) (a : Around) (span : Span) (kind : StatKind) (n : ℕ) → Main ground whole a (of_stat (the_stat span kind)) → Told ground n (finds.of_stat_kind a span kind n)
    → IsFitKind ground.rules kind
fit_kind ground whole a span (Local bs values) n m t =
    (distinct_binds ground bs (of_exprs values) m.binds, fixed_binds ground a bs values n (first ground n (finds.of_binds a bs values) (finds.of_exprs a values then of_entries (own_locals a) bs) t))
fit_kind ground whole a span (Assign targets values) n m t =
    (targets_fit ground a [] targets n m.known (first ground n (finds.of_targets a [] targets) (finds.of_exprs a values) t)).distinct
fit_kind ground whole a span (NumFor (the_bind name s type) from to by body) n m t =
    let b : Bind = the_bind name s type in
    none_fixed ground n s (local_told ground a name s type None n (first ground n (finds.of_bind a None b)
    (finds.of_expr a from then finds.of_expr a to then finds.of_maybe_expr a by then of_entry (own_locals a) (declared_span b) then finds.of_block (in_loop (in_scope a (with_bind a b n)) OtherLoop) body) t))
fit_kind ground whole a span (GenFor bs values body) n m t = (
  distinct_binds ground bs (of_exprs values) (apart_left (declared_by ground.rules.reading) (of_binds bs ++ of_exprs values) (of_block body) m.binds),
  free_binds ground a bs n (first ground n (finds.of_binds a bs no_exprs)
      (finds.of_exprs a values then of_entries (own_locals a) bs then finds.of_block (in_loop (in_scope a (a.scope ++ numbered a bs n)) OtherLoop) body) t),
)
fit_kind ground whole a span (LocalFunction (the_bind name s type) body) n m t =
    let b : Bind = the_bind name s type in
    none_fixed ground n s (own_told ground a name s type n (first ground n (finds.of_own_bind a b) (finds.of_body (in_scope a (with_bind a b n)) body) t))
fit_kind ground whole a span other n m t = tt

assigned_in : (ground : Ground) (whole : List SyntaxNode) (s : Stat) (x : ℕ) → SeenStat (main ground whole) s → assigns ground.rules x s ≡ true → ground.rules.assigned x ≡ true
assigned_in ground whole s x seen e =
    let w : Written ground.rules x (stats_of s) = written ground.rules x s e in
    let inner : SeenStat (main ground whole) (the_stat w.span w.kind) =
    (visits.stat (main ground whole) seen.around s seen.before seen.inv seen.told).stats (the_stat w.span w.kind) w.there in
    own_assigned ground inner.around w.span w.kind inner.before x inner.inv.known inner.told w.writes

fit_stat : (ground : Ground) (whole : List SyntaxNode) (s : Stat) → SeenStat (main ground whole) s → IsFitStat ground.rules s
fit_stat ground whole (the_stat span kind) seen =
    (λ x e. assigned_in ground whole (the_stat span kind) x seen e, fit_kind ground whole seen.around span kind seen.before seen.inv seen.told)

pub stats_fit : (paths : List (List ℕ)) (home : ℕ) (x : Block) (leads : List ℕ → Option ℕ) (table : List (List ℕ × Signature)) (import : ℕ → Term) → StandsApart x → refusal_of paths x ≡ None
    → AllByRecursion (IsFitStat (rules_of paths home x leads table import)) (stats_of_block x)
stats_fit paths home x leads table import apart accepted =
    all_of (IsFitStat (rules_of paths home x leads table import)) (stats_of_block x)
    (λ s h. fit_stat (ground_of paths home x leads table import) (of_block x) s ((all_visited paths home x leads table import apart accepted).stats s h))
