-- The locals of each body of a module fit.
use Rattle.std.proofs.Common.{◌≡◌, ℕ, ◌+◌, Bool, true, false, not, ◌&&◌, List, ◌∷◌, refl, sym, ap, ◌∙◌, subst, inl, inr}
use Rattle.std.specs.Prelude.{⊤, Option, Some, None, option_map}
use Rattle.std.specs.List.{filter_map, AllByRecursion}
use Rattle.luau_tree.specs.declared.position.Span.{Span}
use Rattle.luau_tree.specs.Tree.{Block, the_expr, ExprKind, Body, the_body, Bind, the_bind, Binds, no_binds, more_binds, Gens, Varargs, MaybeType}
use Rattle.luau_tree.specs.Nodes.{exprs_in}
use Rattle.luau_scope.specs.declared.reading.Use.{Use}
use Rattle.luau_scope.specs.declared.reading.Use.TheVariants.{Local, Builtin, Library, Global}
use Rattle.luau_scope.specs.Found.{declarations, Part, ◌then◌, Around}
use Rattle.luau_scope.specs.Finds as finds
use Rattle.luau_scope.specs.Finds.{in_scope, in_body, with_bind, behind_params, around_module, found_in}
use Rattle.luau_scope.specs.Locals.{uses_of, locals_of, requires_of, use_at}
use Rattle.luau_scope.specs.Refusals.{refusal_of}
use Rattle.luau_run.specs.ReadFolder.{is_among, are_distinct, name_of, local_of, used_by, declared_by}
use Rattle.luau_run.specs.SyntaxNode.{SyntaxNode, AnExpr, ABody, ABind, of_block, of_binds, inside}
use Rattle.type_arena.specs.Term.{Term}
use Rattle.type_decl.specs.Signatures.{Signature}
use Rattle.annotations.specs.Annotated.{annotated}
use Rattle.report_rules.specs.Rules.{Rules}
use Rattle.report_rules.specs.Effects.{locals_of_binds}
use Rattle.module_reading.specs.Names.{meaning_of}
use Rattle.module_reading.specs.ReadRules.{rules_of}
use Rattle.tree_readings.specs.Apart.{StandsApart}
use Rattle.run_frame.specs.Statements.{stats_of_block}
use Rattle.module_reading.proofs.Lists.{Has, all_of, and_parts, among_has, has_among, not_true, fewer_distinct}
use Rattle.module_reading.proofs.Nodes as nodes
use Rattle.module_reading.proofs.Bodies.{captures}
use Rattle.module_reading.proofs.Meanings.{stands_for}
use Rattle.tree_readings.proofs.Declared.{locals_distinct}
use Rattle.reading_fits.proofs.Told.{Ground, IsLocal, Told, first, second}
use Rattle.reading_fits.proofs.Visits.{SeenExpr, SeenBody, Visits, own_told, interior}
use Rattle.reading_fits.proofs.Visits as visits
use Rattle.reading_fits.proofs.Whole.{ground_of, told_module}
use Rattle.reading_fits.proofs.Inside.{main, apart_left}
use Rattle.reading_fits.proofs.Locals.{IsFar, under, some_has, caught_seen, is_name}

-- the locals that a body captures are captured; its parameters are distinct, and none of them always holds a builtin
abbrev pub IsFitBody : Rules → SyntaxNode → Type 0
IsFitBody rules (ABody (the_body id has_self generics params vararg result code span)) =
    AllByRecursion (λ x. rules.caught x ≡ true) (rules.reading.captured id)
    × (are_distinct (locals_of_binds rules params) ≡ true)
    × AllByRecursion (λ x. rules.fixed x ≡ None) (locals_of_binds rules params)
IsFitBody rules _ = ⊤

-- ---- parameters

pub none_fixed : (ground : Ground) (n : ℕ) (span : Span) → IsLocal ground n span None → ground.rules.fixed (ground.rules.reading.local_at span.start) ≡ None
none_fixed ground n span told = ap ground.rules.fixed told.place ∙ by_fixed (ground.rules.fixed n) refl
  where
    by_fixed : (o : Option (List ℕ)) → ground.rules.fixed n ≡ o → o ≡ None
    by_fixed None e = refl
    by_fixed (Some path) e = absurd (told.fixed path e)

params_free : (ground : Ground) (a : Around) (bs : Binds) (n : ℕ) → Told ground n (finds.of_params a bs n) → AllByRecursion (λ x. ground.rules.fixed x ≡ None) (locals_of_binds ground.rules bs)
params_free ground a no_binds n t = tt
params_free ground a (more_binds (the_bind name span type) rest) n t =
    let b : Bind = the_bind name span type in (
      none_fixed ground n span (own_told ground a name span type n (first ground n (finds.of_own_bind a b) (finds.of_params (in_scope a (with_bind a b n)) rest) t)),
      params_free ground (in_scope a (with_bind a b n)) rest (n + declarations (finds.of_own_bind a b n)) (second ground n (finds.of_own_bind a b) (finds.of_params (in_scope a (with_bind a b n)) rest) t),
    )

-- the parameters' locals, as a run and as the rules have them
pub same_binds : (rules : Rules) (bs : Binds) → filter_map (declared_by rules.reading) (of_binds bs) ≡ locals_of_binds rules bs
same_binds rules no_binds = refl
same_binds rules (more_binds (the_bind name span type) rest) = ap (λ (ns : List ℕ). rules.reading.local_at span.start ∷ ns) (same_binds rules rest)

-- ---- bodies

-- the kind of an expression that is a local's use
a_name : (every : List (List ℕ)) (x : Block) (id : ℕ) (span : Span) (kind : ExprKind) (n : ℕ) → StandsApart x → Has (exprs_in x) (the_expr id span kind)
    → local_of (option_map meaning_of (use_at (uses_of every x) (record { 0 = id }))) ≡ Some n → (name : List ℕ) × (name_of kind ≡ Some name)
a_name every x id span kind n apart h e = by_use (use_at (uses_of every x) (record { 0 = id })) refl e
  where
    by_use : (o : Option Use) → use_at (uses_of every x) (record { 0 = id }) ≡ o → local_of (option_map meaning_of o) ≡ Some n → (name : List ℕ) × (name_of kind ≡ Some name)
    by_use None q k = cc
    by_use (Some (Local local)) q k = stands_for every x id span kind (Local local) apart.exprs h q
    by_use (Some (Builtin path)) q k = cc
    by_use (Some Library) q k = cc
    by_use (Some Global) q k = cc

-- what holds of a body that was visited
caught_here : (paths : List (List ℕ)) (home : ℕ) (x : Block) (leads : List ℕ → Option ℕ) (table : List (List ℕ × Signature)) (import : ℕ → Term) (id : ℕ) (has_self : Bool) (generics : Gens) (params : Binds) (vararg : Varargs) (returned : MaybeType) (code : Block) (span : Span)
    → StandsApart x → SeenBody (main (ground_of paths home x leads table import) (of_block x)) (the_body id has_self generics params vararg returned code span)
    → (k : SyntaxNode) → Has (inside (the_body id has_self generics params vararg returned code span)) k → (y : ℕ) → used_by (rules_of paths home x leads table import).reading k ≡ Some y
    → (Has (filter_map (declared_by (rules_of paths home x leads table import).reading) (inside (the_body id has_self generics params vararg returned code span))) y → ⊥)
    → (rules_of paths home x leads table import).caught y ≡ true
caught_here paths home x leads table import id has_self generics params vararg returned code span apart seen (ABody b) h y e out = cc
caught_here paths home x leads table import id has_self generics params vararg returned code span apart seen (ABind b) h y e out = cc
caught_here paths home x leads table import id has_self generics params vararg returned code span apart seen (AnExpr (the_expr i s kind)) h y e out =
    caught_seen ground seen.around.scope whole far i s named.0 y (subst (λ (k : ExprKind). SeenExpr (under ground seen.around.scope whole far) i s k) (is_name kind named.0 named.1) there) e out
  where
    ground : Ground
    ground = ground_of paths home x leads table import

    whole : List SyntaxNode
    whole = inside (the_body id has_self generics params vararg returned code span)

    far : IsFar seen.around.scope whole
    far v j n k = seen.inv.far v j n (inr k)

    named : (name : List ℕ) × (name_of kind ≡ Some name)
    named = a_name paths x i s kind y apart (nodes.has_expr (the_expr i s kind) (nodes.block x) (seen.inv.there (AnExpr (the_expr i s kind)) (inr h))) e

    there : SeenExpr (under ground seen.around.scope whole far) i s kind
    there = (interior (under ground seen.around.scope whole far) seen.around (the_body id has_self generics params vararg returned code span) seen.before
        (record { known = seen.inv.known; from = λ v j. inl j; apart = λ v j. seen.inv.far v j id (inl refl); there = λ k j. j }) seen.told).nodes (AnExpr (the_expr i s kind)) h

pub all_visited : (paths : List (List ℕ)) (home : ℕ) (x : Block) (leads : List ℕ → Option ℕ) (table : List (List ℕ × Signature)) (import : ℕ → Term) → StandsApart x → refusal_of paths x ≡ None
    → Visits (main (ground_of paths home x leads table import) (of_block x)) (of_block x) (stats_of_block x)
all_visited paths home x leads table import apart accepted =
    visits.block (main (ground_of paths home x leads table import) (of_block x)) (around_module paths) x 0
    (record {
      known = λ v h. absurd h;
      far = λ v h id k. absurd h;
      own = λ id k. refl;
      bodies = fewer_distinct (nodes.bodies_within (nodes.block x)) apart.bodies;
      binds = locals_distinct paths x apart;
      there = λ k h. h;
    }) (told_module paths home x leads table import apart accepted)

fit_seen : (paths : List (List ℕ)) (home : ℕ) (x : Block) (leads : List ℕ → Option ℕ) (table : List (List ℕ × Signature)) (import : ℕ → Term) (id : ℕ) (has_self : Bool) (generics : Gens) (params : Binds) (vararg : Varargs) (returned : MaybeType) (code : Block) (span : Span)
    → StandsApart x → Has (of_block x) (ABody (the_body id has_self generics params vararg returned code span))
    → SeenBody (main (ground_of paths home x leads table import) (of_block x)) (the_body id has_self generics params vararg returned code span)
    → IsFitBody (rules_of paths home x leads table import) (ABody (the_body id has_self generics params vararg returned code span))
fit_seen paths home x leads table import id has_self generics params vararg returned code span apart h seen = (
  all_of (λ y. rules.caught y ≡ true) (rules.reading.captured id) each,
  ap are_distinct (sym (same_binds rules params)) ∙ apart_left (declared_by rules.reading) (of_binds params) (of_block code) seen.inv.binds,
  params_free (ground_of paths home x leads table import) (in_body seen.around id vararg) params m
      (first (ground_of paths home x leads table import) m p1 (p2 then p3 then p4) (second (ground_of paths home x leads table import) seen.before p0 (p1 then p2 then p3 then p4) seen.told)),
)
  where
    rules : Rules
    rules = rules_of paths home x leads table import

    b : Body
    b = the_body id has_self generics params vararg returned code span

    inner : Around
    inner = in_body seen.around id vararg

    m : ℕ
    m = seen.before + declarations (finds.of_gens (in_body seen.around id vararg) generics seen.before)

    within : Around
    within = in_scope (in_body seen.around id vararg) (behind_params (in_body seen.around id vararg) params m)

    p0 : Part
    p0 = finds.of_gens inner generics

    p1 : Part
    p1 = finds.of_params inner params

    p2 : Part
    p2 = finds.of_varargs within vararg

    p3 : Part
    p3 = finds.of_maybe_type within returned

    p4 : Part
    p4 = finds.of_block within code

    each : (y : ℕ) → Has (rules.reading.captured id) y → rules.caught y ≡ true
    each y j =
        let c : is_among y (rules.reading.captured id) ≡ (is_among y (filter_map (used_by rules.reading) (inside b)) && not (is_among y (filter_map (declared_by rules.reading) (inside b)))) =
        captures (uses_of paths x) (locals_of paths x) (requires_of paths x) home x (annotated x) leads b apart.bodies h y in
        let both : (is_among y (filter_map (used_by rules.reading) (inside b)) ≡ true) × (not (is_among y (filter_map (declared_by rules.reading) (inside b))) ≡ true) =
        and_parts (is_among y (filter_map (used_by rules.reading) (inside b))) (not (is_among y (filter_map (declared_by rules.reading) (inside b)))) (sym c ∙ among_has y (rules.reading.captured id) j) in
        let node = some_has (used_by rules.reading) (inside b) y (has_among y (filter_map (used_by rules.reading) (inside b)) both.0) in
        caught_here paths home x leads table import id has_self generics params vararg returned code span apart seen node.0 node.1 y node.2
        (λ k. let t : is_among y (filter_map (declared_by rules.reading) (inside b)) ≡ true = among_has y (filter_map (declared_by rules.reading) (inside b)) k in
        let f : is_among y (filter_map (declared_by rules.reading) (inside b)) ≡ false = not_true (is_among y (filter_map (declared_by rules.reading) (inside b))) both.1 in cc)

pub fit_node : (paths : List (List ℕ)) (home : ℕ) (x : Block) (leads : List ℕ → Option ℕ) (table : List (List ℕ × Signature)) (import : ℕ → Term) → StandsApart x → refusal_of paths x ≡ None
    → (node : SyntaxNode) → Has (of_block x) node → IsFitBody (rules_of paths home x leads table import) node
fit_node paths home x leads table import apart accepted (AnExpr e) h = tt
fit_node paths home x leads table import apart accepted (ABind b) h = tt
fit_node paths home x leads table import apart accepted (ABody (the_body id has_self generics params vararg returned code span)) h =
    fit_seen paths home x leads table import id has_self generics params vararg returned code span apart h
    ((all_visited paths home x leads table import apart accepted).nodes (ABody (the_body id has_self generics params vararg returned code span)) h)

pub bodies_fit : (paths : List (List ℕ)) (home : ℕ) (x : Block) (leads : List ℕ → Option ℕ) (table : List (List ℕ × Signature)) (import : ℕ → Term) → StandsApart x → refusal_of paths x ≡ None
    → AllByRecursion (IsFitBody (rules_of paths home x leads table import)) (of_block x)
bodies_fit paths home x leads table import apart accepted = all_of (IsFitBody (rules_of paths home x leads table import)) (of_block x) (fit_node paths home x leads table import apart accepted)
