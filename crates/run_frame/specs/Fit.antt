-- What is asked of an analysis, beyond that its program is a read folder: that the rules read what the run reads.
use Rattle.std.specs.Prelude.{◌≡◌, ◌≢◌, ⊤, ◌↔◌, ℕ, true, false, List, [], ◌∷◌, Option, Some, None, slice_get}
use Rattle.std.specs.List.{AllByRecursion, Contains, filter_map}
use Rattle.luau_values.specs.Value.{Value}
use Rattle.luau_values.specs.Heap.{Heap}
use Rattle.luau_tree.specs.declared.names.Place.{Place}
use Rattle.luau_tree.specs.Tree.{Expr, the_expr, Exprs, no_exprs, more_exprs, Call, Stat, the_stat, StatKind, Assign, NumFor, GenFor, LocalFunction, Local, the_body}
use Rattle.luau_run.specs.ValueSet.{ValueSet}
use Rattle.luau_run.specs.Signature.{Signature, declaration}
use Rattle.luau_run.specs.ReadModule.{UseBuiltin, UseGlobal, ReadModule}
use Rattle.luau_run.specs.ReadFolder.{are_distinct, IsReadFolder}
use Rattle.luau_run.specs.SyntaxNode.{SyntaxNode, AnExpr, ABody, ABind, of_block}
use Rattle.type_arena.specs.Term.{Term}
use Rattle.type_normal.specs.Holds.{holds}
use Rattle.report_rules.specs.Rules.{TypedBuiltin, Rules, use_of, declared}
use Rattle.report_rules.specs.Effects.{Target, OfLocal, targets_of, locals_of_binds, local_of_bind, assigns, breaks_block}
use Rattle.report_rules.specs.Findings.{Finding}
use Rattle.report_rules.specs.Reports.{findings}
use Rattle.report_rules.specs.After.{summary}
use Rattle.run_frame.specs.Analysis.{Analysis}
use Rattle.run_frame.specs.Statements.{stats_of_block}

-- ---- declarations

-- a set of values is a type's, in every heap
abbrev pub IsOf : ValueSet → Term → Type 0
IsOf set type = (h : Heap) (v : Value) → set h v ≡ holds h v type

abbrev pub AreOf : List ValueSet → List Term → Type 0
AreOf [] [] = ⊤
AreOf (set ∷ sets) (type ∷ types) = IsOf set type × AreOf sets types
AreOf _ _ = ⊥

abbrev pub MayBeOf : Option ValueSet → Option Term → Type 0
MayBeOf None None = ⊤
MayBeOf (Some set) (Some type) = IsOf set type
MayBeOf _ _ = ⊥

-- a builtin is declared to the rules as it is to the run
pub record IsDeclaredAs (signature : Signature) (typed : TypedBuiltin) : Type 0 where
  pub params : AreOf signature.params typed.params
  pub rest : MayBeOf signature.rest typed.rest
  pub results : AreOf signature.results typed.results
  pub more : MayBeOf signature.more typed.more
  pub checked : signature.checked ≡ typed.checked
  pub quiet : signature.quiet ≡ typed.quiet

-- to both, or to none
abbrev pub AreDeclared : Option Signature → Option TypedBuiltin → Type 0
AreDeclared None None = ⊤
AreDeclared (Some signature) (Some typed) = IsDeclaredAs signature typed
AreDeclared _ _ = ⊥

-- ---- locals

-- a local that always holds a builtin is declared with that as its value
abbrev pub FixedBy : Rules → List ℕ → Exprs → Type 0
FixedBy rules [] values = ⊤
FixedBy rules (x ∷ locals) no_exprs = (rules.fixed x ≡ None) × FixedBy rules locals no_exprs
FixedBy rules (x ∷ locals) (more_exprs e rest) =
    ((path : List ℕ) → rules.fixed x ≡ Some path → use_of rules e ≡ Some (UseBuiltin path)) × FixedBy rules locals rest

-- no local of some always holds a builtin
abbrev pub NoneFixed : Rules → List ℕ → Type 0
NoneFixed rules locals = AllByRecursion (λ x. rules.fixed x ≡ None) locals

-- the local that a target is
abbrev pub local_target : Target → Option ℕ
local_target (OfLocal x) = Some x
local_target _ = None

-- the locals that a statement declares at once, or assigns at once, are distinct, and are fixed as above
abbrev pub IsFitKind : Rules → StatKind → Type 0
IsFitKind rules (Local binds values) = (are_distinct (locals_of_binds rules binds) ≡ true) × FixedBy rules (locals_of_binds rules binds) values
IsFitKind rules (Assign targets values) = are_distinct (filter_map local_target (targets_of rules targets)) ≡ true
IsFitKind rules (NumFor bind from to by body) = rules.fixed (local_of_bind rules bind) ≡ None
IsFitKind rules (GenFor binds values body) = (are_distinct (locals_of_binds rules binds) ≡ true) × NoneFixed rules (locals_of_binds rules binds)
IsFitKind rules (LocalFunction name body) = rules.fixed (local_of_bind rules name) ≡ None
IsFitKind rules _ = ⊤

-- and each local that it assigns is assigned
abbrev pub IsFitStat : Rules → Stat → Type 0
IsFitStat rules (the_stat span kind) = ((x : ℕ) → assigns rules x (the_stat span kind) ≡ true → rules.assigned x ≡ true) × IsFitKind rules kind

-- ---- nodes

-- a static require is a call of a global, and gives what its module does
abbrev pub IsFitCall : Analysis → Rules → ℕ → Option ℕ → Expr → Type 0
IsFitCall an rules id None callee = ⊤
IsFitCall an rules id (Some other) callee = (use_of rules callee ≡ Some UseGlobal) × (rules.import id ≡ an.summary other)

-- only a call is a static require; the locals that a body captures are captured; its parameters are distinct, and none always
-- holds a builtin
abbrev pub IsFitNode : Analysis → Rules → SyntaxNode → Type 0
IsFitNode an rules (AnExpr (the_expr id span (Call callee args))) = IsFitCall an rules id (rules.reading.required id) callee
IsFitNode an rules (AnExpr e) = ⊤
IsFitNode an rules (ABody (the_body id has_self generics params vararg result code span)) =
    AllByRecursion (λ x. rules.caught x ≡ true) (rules.reading.captured id) × (are_distinct (locals_of_binds rules params) ≡ true) × NoneFixed rules (locals_of_binds rules params)
IsFitNode an rules (ABind bind) = ⊤

-- the number of a node that is an expression, and of one that is a body
abbrev pub expr_number : SyntaxNode → Option ℕ
expr_number (AnExpr (the_expr id span kind)) = Some id
expr_number _ = None

abbrev pub body_number : SyntaxNode → Option ℕ
body_number (ABody (the_body id has_self generics params vararg result code span)) = Some id
body_number _ = None

-- ---- modules

-- the rules of a module fit its reading
pub record FitModule (an : Analysis) (module_at : ℕ) (reading : ReadModule) : Type 0 where
  pub same : (an.rules module_at).reading ≡ reading
  pub expressions : are_distinct (filter_map expr_number (of_block reading.block)) ≡ true
  pub bodies : are_distinct (filter_map body_number (of_block reading.block)) ≡ true
  pub nodes : AllByRecursion (IsFitNode an (an.rules module_at)) (of_block reading.block)
  pub statements : AllByRecursion (IsFitStat (an.rules module_at)) (stats_of_block reading.block)
  pub unassigned : (x : ℕ) (path : List ℕ) → (an.rules module_at).fixed x ≡ Some path → (an.rules module_at).assigned x ≡ false
  pub annotations : (function index : ℕ) → IsOf (reading.annotated function index) ((an.rules module_at).annotation function index)
  pub table : (path : List ℕ) → AreDeclared (declaration an.program.builtins path) (declared (an.rules module_at) path)
  pub no_break : breaks_block reading.block ≡ false
  pub gives : an.summary module_at ≡ summary (an.rules module_at)

-- a place of a module at which something is found
abbrev pub IsFound : Analysis → ℕ → Place → Type 0
IsFound an m p = (finding : Finding) × Contains (findings (an.rules m)) finding × (finding.place ≡ p) × (finding.kinds ≢ [])

-- an analysis fits: the program is a read folder, each module's rules fit, and what is reported is what they find
pub record Fit (an : Analysis) : Type 0 where
  pub folder : IsReadFolder an.program
  pub modules : (m : ℕ) (reading : ReadModule) → slice_get an.program.modules m ≡ Some reading → FitModule an m reading
  pub found : (m : ℕ) (p : Place) → Contains an.reports (m, p) ↔ ((reading : ReadModule) × (slice_get an.program.modules m ≡ Some reading) × IsFound an m p)
