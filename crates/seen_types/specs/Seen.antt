-- What was seen of a module, by references.
use Rattle.std.specs.Prelude.{ℕ, Bool, false, ◌==◌, List, [], ◌∷◌, Option, Some, None, option_map, map, if◌then◌else◌}
use Rattle.std.specs.Option.{option_map_or}
use Rattle.type_arena.specs.Term.{Term}
use Rattle.type_arena.specs.declared.node.TypeRef.{TypeRef}
use Rattle.report_rules.specs.Seen as rules
use Rattle.seen_types.specs.declared.seen.Seen.{Seen}
use Rattle.seen_types.specs.declared.seen.Seen.TheVariants.{Expr, Body}

-- what was seen as the rules have it, once it is known what references mean
abbrev pub one_with : (TypeRef → Term) → Seen → rules.Seen
one_with means (Expr id at live) = rules.SeenExpr id.0 (means at) live
one_with means (Body id live) = rules.SeenBody id.0 live

abbrev pub seen_with : (TypeRef → Term) → List Seen → List rules.Seen
seen_with means seen = map (one_with means) seen

-- the references in what was seen
abbrev pub refs_seen : List Seen → List TypeRef
refs_seen [] = []
refs_seen (Expr id at live ∷ seen) = at ∷ refs_seen seen
refs_seen (Body id live ∷ seen) = refs_seen seen

-- the type of an expression and whether its place is live, by its number: the first counts
abbrev pub expr_at : List Seen → ℕ → Option (TypeRef × Bool)
expr_at [] id = None
expr_at (Expr other at live ∷ seen) id = if other.0 == id then Some (at, live) else expr_at seen id
expr_at (Body other live ∷ seen) id = expr_at seen id

abbrev pub ref_at : List Seen → ℕ → Option TypeRef
ref_at seen id = option_map (λ found. found.0) (expr_at seen id)

abbrev pub live_at : List Seen → ℕ → Bool
live_at seen id = option_map_or (λ found. found.1) (expr_at seen id) false

-- whether the place of a body is live, by its number: the first counts
abbrev pub body_at : List Seen → ℕ → Option Bool
body_at [] id = None
body_at (Expr other at live ∷ seen) id = body_at seen id
body_at (Body other live ∷ seen) id = if other.0 == id then Some live else body_at seen id
