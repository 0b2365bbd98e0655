-- The captured locals of a body.
use Rattle.std.proofs.Common.{◌≡◌, ℕ, true, not, List, [], map, ap, ◌∙◌}
use Rattle.std.specs.Prelude.{Option}
use Rattle.std.specs.Option.{option_map_or}
use Rattle.std.specs.List.{filter_map}
use Rattle.luau_tree.specs.declared.names.ExprId.{ExprId}
use Rattle.luau_tree.specs.Tree.{Block, Body}
use Rattle.luau_tree.specs.Nodes.{bodies_in, body_number}
use Rattle.luau_scope.specs.declared.reading.Use.{Use}
use Rattle.luau_scope.specs.declared.reading.LocalInfo.{LocalInfo}
use Rattle.luau_scope.specs.declared.reading.RequireSite.{RequireSite}
use Rattle.luau_run.specs.ValueSet.{ValueSet}
use Rattle.luau_run.specs.ReadFolder.{is_among, are_distinct, Captures}
use Rattle.luau_run.specs.SyntaxNode.{ABody, of_block, inside}
use Rattle.module_reading.specs.Readings.{used_by, declared_by, captured_by, reading_by}
use Rattle.module_reading.proofs.Lists.{Has, found_by, among_filter}
use Rattle.module_reading.proofs.Nodes.{block, has_body}

-- each body has its captured locals
pub captures : (uses : List (ExprId × Use)) (locals : List LocalInfo) (sites : List RequireSite) (home : ℕ) (x : Block) (annotated : (function index : ℕ) → ValueSet) (leads : List ℕ → Option ℕ) (body : Body)
    → are_distinct (map body_number (bodies_in x)) ≡ true → Has (of_block x) (ABody body)
    → Captures (reading_by uses locals sites home x annotated leads) body ((reading_by uses locals sites home x annotated leads).captured (body_number body))
captures uses locals sites home x annotated leads body d h local =
    ap (λ o. is_among local (option_map_or (captured_by uses locals) o [])) (found_by body_number (bodies_in x) body d (has_body body (block x) h))
    ∙ among_filter (λ n. not (is_among n (filter_map (declared_by locals) (inside body)))) local (filter_map (used_by uses) (inside body))
