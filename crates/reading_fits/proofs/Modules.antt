-- The rules of a module fit its reading.
use Rattle.std.proofs.Common.{◌≡◌, ℕ, false, List, [], ◌∷◌, map, refl, sym, ap, ◌∙◌, subst}
use Rattle.std.specs.Prelude.{Option, Some, None, option_map}
use Rattle.std.specs.List.{AllByRecursion, filter_map, find}
use Rattle.std.specs.Str.{bytes_eq}
use Rattle.luau_tree.specs.declared.position.Span.{Span}
use Rattle.luau_tree.specs.Tree.{Block, Expr, the_expr, Exprs, Call, the_body}
use Rattle.luau_tree.specs.Nodes.{exprs_in}
use Rattle.luau_scope.specs.Finds.{around_module}
use Rattle.luau_scope.specs.Locals.{requires_of}
use Rattle.luau_scope.specs.Refusals.{refusal_of}
use Rattle.luau_run.specs.Signature.{Declared, declaration}
use Rattle.luau_run.specs.ReadFolder.{are_distinct}
use Rattle.luau_run.specs.SyntaxNode.{SyntaxNode, AnExpr, ABody, ABind, of_block}
use Rattle.type_arena.specs.Term.{Term}
use Rattle.type_decl.specs.Signatures.{Signature}
use Rattle.type_decl.specs.Runs.{values_of, builtins_of}
use Rattle.annotations.specs.Annotated.{annotated}
use Rattle.report_rules.specs.Rules.{TypedBuiltin, Rules, declared}
use Rattle.report_rules.specs.After.{summary}
use Rattle.run_frame.specs.Analysis.{Analysis}
use Rattle.run_frame.specs.Fit.{AreOf, MayBeOf, IsDeclaredAs, AreDeclared, IsOf, IsFitCall, IsFitNode, IsFitStat, FitModule}
use Rattle.run_frame.specs.Fit as fit
use Rattle.run_frame.specs.Statements.{stats_of_block}
use Rattle.module_reading.specs.Laws.{run_builtin}
use Rattle.module_reading.specs.Readings.{required_at}
use Rattle.module_reading.specs.ReadRules.{typed_builtin, rules_of}
use Rattle.tree_readings.specs.Apart.{StandsApart}
use Rattle.module_reading.specs.Nodes as own
use Rattle.module_reading.proofs.Lists.{Has, all_of, fewer_distinct}
use Rattle.module_reading.proofs.Nodes as nodes
use Rattle.module_reading.proofs.Small.{same_declared, unassigned}
use Rattle.reading_fits.proofs.Whole.{ground_of, told_module}
use Rattle.reading_fits.proofs.FitBodies.{IsFitBody}
use Rattle.reading_fits.proofs.FitBodies as bodies
use Rattle.reading_fits.proofs.FitStats.{stats_fit}
use Rattle.reading_fits.proofs.Breaks.{block_free}
use Rattle.reading_fits.proofs.Calls.{callee_is_global}

-- ---- builtins

params_are : (types : List Term) → AreOf (map values_of types) types
params_are [] = tt
params_are (type ∷ types) = ((λ h v. refl), params_are types)

may_be : (type : Option Term) → MayBeOf (option_map values_of type) type
may_be None = tt
may_be (Some type) = λ h v. refl

declared_so : (b : Option TypedBuiltin) → AreDeclared (option_map run_builtin b) b
declared_so None = tt
declared_so (Some b) = record { params = params_are b.params; rest = may_be b.rest; results = params_are b.results; more = may_be b.more; checked = refl; quiet = refl }

table_fits : (paths : List (List ℕ)) (home : ℕ) (x : Block) (leads : List ℕ → Option ℕ) (table : List (List ℕ × Signature)) (import : ℕ → Term) (path : List ℕ)
    → AreDeclared (declaration (builtins_of table) path) (declared (rules_of paths home x leads table import) path)
table_fits paths home x leads table import path =
    subst (λ o. AreDeclared o (declared (rules_of paths home x leads table import) path)) (sym (same_declared table path))
    (declared_so (find (λ b. bytes_eq b.path path) (map typed_builtin table)))

-- ---- nodes

call_fits : (an : Analysis) (paths : List (List ℕ)) (home : ℕ) (x : Block) (leads : List ℕ → Option ℕ) (table : List (List ℕ × Signature)) (import : ℕ → Term) (id : ℕ) (span : Span) (callee : Expr) (args : Exprs) (o : Option ℕ)
    → StandsApart x → ((n other : ℕ) → required_at (requires_of paths x) leads n ≡ Some other → import n ≡ an.summary other) → Has (exprs_in x) (the_expr id span (Call callee args))
    → required_at (requires_of paths x) leads id ≡ o → IsFitCall an (rules_of paths home x leads table import) id o callee
call_fits an paths home x leads table import id span callee args None apart linked h e = tt
call_fits an paths home x leads table import id span callee args (Some other) apart linked h e =
    (callee_is_global paths home x leads table import id span callee args other apart h e, linked id other e)

node_fits : (an : Analysis) (paths : List (List ℕ)) (home : ℕ) (x : Block) (leads : List ℕ → Option ℕ) (table : List (List ℕ × Signature)) (import : ℕ → Term)
    → StandsApart x → refusal_of paths x ≡ None → ((n other : ℕ) → required_at (requires_of paths x) leads n ≡ Some other → import n ≡ an.summary other)
    → (node : SyntaxNode) → Has (of_block x) node → IsFitNode an (rules_of paths home x leads table import) node
node_fits an paths home x leads table import apart accepted linked (AnExpr (the_expr id span (Call callee args))) h =
    call_fits an paths home x leads table import id span callee args (required_at (requires_of paths x) leads id) apart linked (nodes.has_expr (the_expr id span (Call callee args)) (nodes.block x) h) refl
node_fits an paths home x leads table import apart accepted linked (AnExpr (the_expr id span other)) h = tt
node_fits an paths home x leads table import apart accepted linked (ABody (the_body id has_self generics params vararg result code span)) h =
    bodies.fit_node paths home x leads table import apart accepted (ABody (the_body id has_self generics params vararg result code span)) h
node_fits an paths home x leads table import apart accepted linked (ABind bind) h = tt

-- ---- numbers

same_exprs : (ns : List SyntaxNode) → filter_map fit.expr_number ns ≡ filter_map own.expr_number ns
same_exprs [] = refl
same_exprs (AnExpr (the_expr id span kind) ∷ ns) = ap (λ (ks : List ℕ). id ∷ ks) (same_exprs ns)
same_exprs (ABody (the_body id has_self generics params vararg result code span) ∷ ns) = same_exprs ns
same_exprs (ABind bind ∷ ns) = same_exprs ns

same_bodies : (ns : List SyntaxNode) → filter_map fit.body_number ns ≡ filter_map own.body_number ns
same_bodies [] = refl
same_bodies (AnExpr (the_expr id span kind) ∷ ns) = same_bodies ns
same_bodies (ABody (the_body id has_self generics params vararg result code span) ∷ ns) = ap (λ (ks : List ℕ). id ∷ ks) (same_bodies ns)
same_bodies (ABind bind ∷ ns) = same_bodies ns

-- ---- a module

pub module_fits : (an : Analysis) (m home : ℕ) (x : Block) (leads : List ℕ → Option ℕ) (table : List (List ℕ × Signature)) (import : ℕ → Term)
    → an.program.builtins ≡ builtins_of table → an.rules m ≡ rules_of (map (λ entry. entry.0) table) home x leads table import
    → StandsApart x → refusal_of (map (λ entry. entry.0) table) x ≡ None
    → ((n other : ℕ) → required_at (requires_of (map (λ entry. entry.0) table) x) leads n ≡ Some other → import n ≡ an.summary other)
    → an.summary m ≡ summary (an.rules m)
    → FitModule an m (rules_of (map (λ entry. entry.0) table) home x leads table import).reading
module_fits an m home x leads table import over e apart accepted linked gives = record {
  same = ap (λ (r : Rules). r.reading) e;
  expressions = ap are_distinct (same_exprs (of_block x)) ∙ fewer_distinct (nodes.exprs_within (nodes.block x)) apart.exprs;
  bodies = ap are_distinct (same_bodies (of_block x)) ∙ fewer_distinct (nodes.bodies_within (nodes.block x)) apart.bodies;
  nodes = subst (λ (r : Rules). AllByRecursion (IsFitNode an r) (of_block x)) (sym e) (all_of (IsFitNode an own_rules) (of_block x) (node_fits an paths home x leads table import apart accepted linked));
  statements = subst (λ (r : Rules). AllByRecursion (IsFitStat r) (stats_of_block x)) (sym e) (stats_fit paths home x leads table import apart accepted);
  unassigned = subst (λ (r : Rules). (y : ℕ) (path : List ℕ) → r.fixed y ≡ Some path → r.assigned y ≡ false) (sym e) (unassigned paths home x leads table import);
  annotations = subst (λ (r : Rules). (function index : ℕ) → IsOf (annotated x function index) (r.annotation function index)) (sym e) (λ function index h v. refl);
  table = subst (λ (r : Rules). (path : List ℕ) → AreDeclared (declaration an.program.builtins path) (declared r path)) (sym e)
      (subst (λ (ds : List Declared). (path : List ℕ) → AreDeclared (declaration ds path) (declared own_rules path)) (sym over) (table_fits paths home x leads table import));
  no_break = block_free (ground_of paths home x leads table import) (around_module paths) x 0 refl (told_module paths home x leads table import apart accepted);
  gives = gives;
}
  where
    paths : List (List ℕ)
    paths = map (λ entry. entry.0) table

    own_rules : Rules
    own_rules = rules_of (map (λ entry. entry.0) table) home x leads table import
