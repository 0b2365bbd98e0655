-- Where the places of some syntax stand in a text.
use Rattle.std.specs.Prelude.{◌≡◌, ℕ, suc, List, [], ◌∷◌, ◌++◌, Some, Contains, slice_get}
use Rattle.luau_tree.specs.declared.position.Span.{Span}
use Rattle.luau_tree.specs.declared.names.Place.{Place}
use Rattle.luau_tree.specs.declared.names.Place.TheVariants.{Expr as ExprPlace, Param as ParamPlace}
use Rattle.luau_tree.specs.Tree.{the_expr, ExprKind, Body, the_body, Bind, Binds, no_binds, more_binds}
use Rattle.luau_tree.specs.Lists.{bind_list}
use Rattle.luau_run.specs.SyntaxNode.{SyntaxNode, AnExpr, ABody, ABind}
use Rattle.report_rules.specs.Findings.{Finding, bind_span}

-- the parameters of a body from a position on, each with the span of its name
abbrev pub params_located : (function position : ℕ) → Binds → List (Place × Span)
params_located function position no_binds = []
params_located function position (more_binds bind rest) =
    (ParamPlace (record { 0 = function }) position, bind_span bind) ∷ params_located function (suc position) rest

-- each expression with its span, and each parameter of each body with that of its name, in the order of the text
abbrev pub located : List SyntaxNode → List (Place × Span)
located [] = []
located (AnExpr (the_expr id span kind) ∷ nodes) = (ExprPlace (record { 0 = id }), span) ∷ located nodes
located (ABody (the_body id has_self generics params vararg result block span) ∷ nodes) =
    params_located id 0 params ++ located nodes
located (ABind bind ∷ nodes) = located nodes

-- the places of some findings, each with its span
abbrev pub places_and_spans : List Finding → List (Place × Span)
places_and_spans [] = []
places_and_spans (finding ∷ findings) = (finding.place, finding.at) ∷ places_and_spans findings

-- the declarations of a body's parameters
abbrev pub parameters_of : Body → List Bind
parameters_of (the_body id has_self generics params vararg result block span) = bind_list params

-- the number of a body
abbrev pub number_of : Body → ℕ
number_of (the_body id has_self generics params vararg result block span) = id

-- a place with a span is some syntax: an expression that has the place's number and that span, or the name of the parameter at
-- the place's position of a body that has its number
abbrev pub StandsAt : List SyntaxNode → Place → Span → Type 0
StandsAt nodes (ExprPlace id) span = (kind : ExprKind) × Contains nodes (AnExpr (the_expr id.0 span kind))
StandsAt nodes (ParamPlace function index) span =
    (body : Body) × (bind : Bind) × Contains nodes (ABody body) × (number_of body ≡ function.0)
    × (slice_get (parameters_of body) index ≡ Some bind) × (bind_span bind ≡ span)
