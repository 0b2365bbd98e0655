-- What declarations and assignments are made of.
use Rattle.std.proofs.Common.{◌≡◌, ℕ, Bool, true, false, List, [], ◌∷◌, ◌++◌, refl, sym, ap, ◌∙◌, append_assoc, append-nil, ◌≤◌, length, get_or, arith}
use Rattle.luau_tree.specs.declared.position.Span.{Span}
use Rattle.luau_tree.specs.declared.tree as code
use Rattle.luau_tree.specs.View.{view_expr, view_exprs}
use Rattle.luau_tree.specs.declared.names.BinOp.{BinOp}
use Rattle.luau_tree.specs.Tree.{Bind, Binds, no_binds, more_binds, Expr, Exprs, Assign, Local, the_stat}
use Rattle.type_arena.specs.Term.{Term}
use Rattle.report_rules.specs.Rules.{Rules}
use Rattle.report_rules.specs.Effects.{Target, last_expands, local_of_bind, locals_of_binds, target_of, targets_of}
use Rattle.report_rules.specs.TypeMap.{TypeMap, set, set_all, stored, stored_all, disturbed, disturbed_all, written, assigned_all, first_type, not_given}
use Rattle.report_rules.specs.Forward.{types_of_list, after_list}
use Rattle.report_rules.specs.Seen.{Seen, seen_list, seen_targets}
use Rattle.rule_work.specs.Work.{Work}
use Rattle.rule_work.specs.Moves.{unlisted}
use Rattle.infer_plan.specs.Steps.{with_values, with_targets, with_stat, done, each_declared, each_stored, each_disturbed, each_written, written_one}
use Rattle.infer_plan.specs.Weights.{written_weight}

-- with an innermost list, and another map
abbrev listing : List Term → List (List Term) → TypeMap → Work → Work
listing types lists map work = record work { lists = types ∷ lists; map = map }

declared_listing : (rules : Rules) (expanding : Bool) (binds : Binds) (types : List Term) (lists : List (List Term)) (map : TypeMap) (work : Work)
    → unlisted (each_declared rules expanding binds (listing types lists map work))
    ≡ record work { lists = lists; map = set_all rules (locals_of_binds rules binds) expanding types map }
declared_listing rules expanding no_binds types lists map work = refl
declared_listing rules expanding (more_binds bind rest) [] lists map work =
    declared_listing rules expanding rest [] lists (set rules (local_of_bind rules bind) (not_given expanding) map) work
declared_listing rules expanding (more_binds bind rest) (type ∷ types) lists map work =
    declared_listing rules expanding rest types lists (set rules (local_of_bind rules bind) type map) work

pub local_form : (rules : Rules) (span : Span) (binds : Binds) (values : Exprs) (work : Work)
    → done (unlisted (each_declared rules (last_expands values) binds (with_values rules values work))) ≡ with_stat rules (the_stat span (Local binds values)) work
local_form rules span binds values work =
    ap done (declared_listing rules (last_expands values) binds (types_of_list rules work.map values) work.lists (after_list rules work.map values) (record work { seen = work.seen ++ seen_list rules work.map values }))

disturbed_map : (targets : List Target) (map : TypeMap) (work : Work)
    → each_disturbed targets (record work { map = map }) ≡ record work { map = disturbed_all targets map }
disturbed_map [] map work = refl
disturbed_map (target ∷ targets) map work = disturbed_map targets (disturbed target map) work

stored_listing : (rules : Rules) (expanding : Bool) (all targets : List Target) (types : List Term) (lists : List (List Term)) (map : TypeMap) (work : Work)
    → unlisted (each_disturbed all (each_stored rules expanding targets (listing types lists map work)))
    ≡ record work { lists = lists; map = disturbed_all all (stored_all rules targets expanding types map) }
stored_listing rules expanding all [] types lists map work = ap unlisted (disturbed_map all map (record work { lists = types ∷ lists }))
stored_listing rules expanding all (target ∷ targets) [] lists map work =
    stored_listing rules expanding all targets [] lists (stored rules target (not_given expanding) map) work
stored_listing rules expanding all (target ∷ targets) (type ∷ types) lists map work =
    stored_listing rules expanding all targets types lists (stored rules target type map) work

written_listing : (rules : Rules) (expanding : Bool) (targets : List Target) (types : List Term) (lists : List (List Term)) (map : TypeMap) (work : Work)
    → unlisted (each_written rules expanding targets (listing types lists map work))
    ≡ record work { lists = lists; map = assigned_all rules targets expanding types map }
written_listing rules expanding [] types lists map work = stored_listing rules expanding [] [] types lists map work
written_listing rules expanding (target ∷ []) [] lists map work = refl
written_listing rules expanding (target ∷ []) (type ∷ types) lists map work = refl
written_listing rules expanding (target ∷ other ∷ targets) types lists map work =
    stored_listing rules expanding (target ∷ other ∷ targets) (target ∷ other ∷ targets) types lists map work

pub assign_form : (rules : Rules) (span : Span) (targets values : Exprs) (work : Work)
    → done (unlisted (each_written rules (last_expands values) (targets_of rules targets) (with_values rules values (with_targets rules targets work))))
    ≡ with_stat rules (the_stat span (Assign targets values)) work
assign_form rules span targets values work =
    let first = after_list rules work.map targets in
    let map = assigned_all rules (targets_of rules targets) (last_expands values) (types_of_list rules first values) (after_list rules first values) in
    ap done (written_listing rules (last_expands values) (targets_of rules targets) (types_of_list rules first values) work.lists (after_list rules first values) (record work { seen = (work.seen ++ seen_targets rules work.map targets) ++ seen_list rules first values }))
    ∙ ap (λ (ss : List Seen). done (record work { map = map; seen = ss })) (append_assoc work.seen (seen_targets rules work.map targets) (seen_list rules first values))

-- ## By what code finds

pub written_alone : (rules : Rules) (expanding : Bool) (xs : List code.Expr.Expr) (x d : code.Expr.Expr) (work : Work) → length xs ≡ 1 → x ≡ get_or xs 0 d
    → written_one rules expanding (target_of rules (view_expr x)) work ≡ each_written rules expanding (targets_of rules (view_exprs xs)) work
written_alone rules expanding [] x d work one is = absurd (omega (arith, one))
written_alone rules expanding (y ∷ []) x d work one is = ap (λ (z : code.Expr.Expr). written_one rules expanding (target_of rules (view_expr z)) work) is
written_alone rules expanding (y ∷ z ∷ zs) x d work one is = absurd (omega (arith, one))

pub written_others : (rules : Rules) (expanding : Bool) (xs : List code.Expr.Expr) (work : Work) → (length xs ≡ 1 → ⊥)
    → (let targets = targets_of rules (view_exprs xs) in each_disturbed targets (each_stored rules expanding targets work) ≡ each_written rules expanding targets work)
written_others rules expanding [] work others = refl
written_others rules expanding (y ∷ []) work others = absurd (others (omega arith))
written_others rules expanding (y ∷ z ∷ zs) work others = refl

pub alone_weight : (xs : List code.Expr.Expr) → length xs ≡ 1 → 4 ≤ written_weight (view_exprs xs)
alone_weight [] one = absurd (omega (arith, one))
alone_weight (y ∷ ys) one = omega arith
