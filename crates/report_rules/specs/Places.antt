-- The places of syntax: each expression, and each parameter of each body, in the order of the text.
use Rattle.std.specs.Prelude.{◌≡◌, ◌≢◌, ⊤, ℕ, suc, Bool, true, List, [], ◌∷◌, ◌++◌}
use Rattle.luau_tree.specs.declared.names.Place.{Place}
use Rattle.luau_tree.specs.declared.names.Place.TheVariants.{Expr as ExprPlace, Param as ParamPlace}
use Rattle.luau_tree.specs.Tree.{the_expr, the_body, Binds, no_binds, more_binds}
use Rattle.luau_run.specs.SyntaxNode.{SyntaxNode, AnExpr, ABody, ABind}
use Rattle.report_rules.specs.Seen.{Seen, SeenExpr, SeenBody, is_live, is_body_live}
use Rattle.report_rules.specs.Findings.{Finding}

-- the parameters of a body from a position on
abbrev pub params_of : (function position : ℕ) → Binds → List Place
params_of function position no_binds = []
params_of function position (more_binds bind rest) = ParamPlace (record { 0 = function }) position ∷ params_of function (suc position) rest

abbrev pub places_of : List SyntaxNode → List Place
places_of [] = []
places_of (AnExpr (the_expr id span kind) ∷ nodes) = ExprPlace (record { 0 = id }) ∷ places_of nodes
places_of (ABody (the_body id has_self generics params vararg result block span) ∷ nodes) = params_of id 0 params ++ places_of nodes
places_of (ABind bind ∷ nodes) = places_of nodes

-- the places of some findings
abbrev pub found_at : List Finding → List Place
found_at [] = []
found_at (finding ∷ findings) = finding.place ∷ found_at findings

-- whether a place is live
abbrev pub is_place_live : List Seen → Place → Bool
is_place_live seen (ExprPlace id) = is_live seen id.0
is_place_live seen (ParamPlace function index) = is_body_live seen function.0

-- each place of which something is reported is live
abbrev pub AreLive : List Seen → List Finding → Type 0
AreLive seen [] = ⊤
AreLive seen (finding ∷ findings) = (finding.kinds ≢ [] → is_place_live seen finding.place ≡ true) × AreLive seen findings

-- an expression or a body by its number
pub data Numbered : Type 0 where
  NumberedExpr : (id : ℕ) → Numbered
  NumberedBody : (id : ℕ) → Numbered

-- the expressions and bodies of syntax, in the order of the text
abbrev pub numbered : List SyntaxNode → List Numbered
numbered [] = []
numbered (AnExpr (the_expr id span kind) ∷ nodes) = NumberedExpr id ∷ numbered nodes
numbered (ABody (the_body id has_self generics params vararg result block span) ∷ nodes) = NumberedBody id ∷ numbered nodes
numbered (ABind bind ∷ nodes) = numbered nodes

-- those that are seen
abbrev pub seen_numbers : List Seen → List Numbered
seen_numbers [] = []
seen_numbers (SeenExpr id type live ∷ seen) = NumberedExpr id ∷ seen_numbers seen
seen_numbers (SeenBody id live ∷ seen) = NumberedBody id ∷ seen_numbers seen
