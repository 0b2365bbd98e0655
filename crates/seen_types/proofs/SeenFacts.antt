-- What was seen, as the rules have it.
use Rattle.std.proofs.Common.{◌≡◌, ℕ, List, [], ◌∷◌, refl, ap, ◌∙◌, subst, arith}
use Rattle.std.specs.Prelude.{Bool, true, false, ◌==◌, Option, Some, None, IfSome, Contains, option_map, if◌then◌else◌}
use Rattle.std.specs.Option.{option_map_or}
use Rattle.std.proofs.lemmas.List.Elements.{Contains-append_right}
use Rattle.type_arena.specs.Term.{Term}
use Rattle.type_arena.specs.declared.node.TypeRef.{TypeRef}
use Rattle.type_normal.specs.Kinds.{unknown}
use Rattle.report_rules.specs.Seen as rules
use Rattle.seen_types.specs.Seen.{expr_at, ref_at, live_at, body_at, seen_with, refs_seen}
use Rattle.seen_types.specs.declared.seen.Seen.{Seen}
use Rattle.seen_types.specs.declared.seen.Seen.TheVariants.{Expr, Body}

-- the type of an expression is what its reference means, and unknown without one
pub type_with : (means : TypeRef → Term) (seen : List Seen) (id : ℕ) → rules.type_at (seen_with means seen) id ≡ option_map_or means (ref_at seen id) unknown
type_with means [] id = refl
type_with means (Expr other at live ∷ seen) id = by_test (other.0 == id) (type_with means seen id)
  where
    by_test : (same : Bool) → rules.type_at (seen_with means seen) id ≡ option_map_or means (ref_at seen id) unknown
        → (if same then means at else rules.type_at (seen_with means seen) id) ≡ option_map_or means (option_map (λ found. found.0) (if same then Some (at, live) else expr_at seen id)) unknown
    by_test true rest = refl
    by_test false rest = rest
type_with means (Body other live ∷ seen) id = type_with means seen id

pub live_with : (means : TypeRef → Term) (seen : List Seen) (id : ℕ) → rules.is_live (seen_with means seen) id ≡ live_at seen id
live_with means [] id = refl
live_with means (Expr other at live ∷ seen) id = by_test (other.0 == id) (live_with means seen id)
  where
    by_test : (same : Bool) → rules.is_live (seen_with means seen) id ≡ live_at seen id
        → (if same then live else rules.is_live (seen_with means seen) id) ≡ option_map_or (λ found. found.1) (if same then Some (at, live) else expr_at seen id) false
    by_test true rest = refl
    by_test false rest = rest
live_with means (Body other live ∷ seen) id = live_with means seen id

pub body_with : (means : TypeRef → Term) (seen : List Seen) (id : ℕ) → rules.is_body_live (seen_with means seen) id ≡ option_map_or (λ live. live) (body_at seen id) false
body_with means [] id = refl
body_with means (Expr other at live ∷ seen) id = body_with means seen id
body_with means (Body other live ∷ seen) id = by_test (other.0 == id) (body_with means seen id)
  where
    by_test : (same : Bool) → rules.is_body_live (seen_with means seen) id ≡ option_map_or (λ live. live) (body_at seen id) false
        → (if same then live else rules.is_body_live (seen_with means seen) id) ≡ option_map_or (λ live. live) (if same then Some live else body_at seen id) false
    by_test true rest = refl
    by_test false rest = rest

-- a type that is found is among those that were seen
pub type_among : (seen : List Seen) (id : ℕ) → IfSome (ref_at seen id) (Contains (refs_seen seen))
type_among [] id = tt
type_among (Expr other at live ∷ seen) id = by_test (other.0 == id) (type_among seen id)
  where
    weaker : (found : Option TypeRef) → IfSome found (Contains (refs_seen seen)) → IfSome found (Contains (at ∷ refs_seen seen))
    weaker None rest = tt
    weaker (Some found) rest = Contains-append_right (at ∷ []) (refs_seen seen) found rest

    by_test : (same : Bool) → IfSome (ref_at seen id) (Contains (refs_seen seen))
        → IfSome (option_map (λ found. found.0) (if same then Some (at, live) else expr_at seen id)) (Contains (at ∷ refs_seen seen))
    by_test true rest = (0, omega arith, refl)
    by_test false rest = weaker (ref_at seen id) rest
type_among (Body other live ∷ seen) id = type_among seen id

-- what is found of an expression says both
pub found_live : (means : TypeRef → Term) (seen : List Seen) (id : ℕ) (found : Option (TypeRef × Bool)) → expr_at seen id ≡ found → rules.is_live (seen_with means seen) id ≡ option_map_or (λ f. f.1) found false
found_live means seen id found is = live_with means seen id ∙ ap (λ (f : Option (TypeRef × Bool)). option_map_or (λ x. x.1) f false) is

pub found_type : (means : TypeRef → Term) (seen : List Seen) (id : ℕ) (found : TypeRef × Bool) → expr_at seen id ≡ Some found → rules.type_at (seen_with means seen) id ≡ means found.0
found_type means seen id found is = type_with means seen id ∙ ap (λ (f : Option (TypeRef × Bool)). option_map_or means (option_map (λ x. x.0) f) unknown) is

pub found_among : (seen : List Seen) (id : ℕ) (found : TypeRef × Bool) → expr_at seen id ≡ Some found → Contains (refs_seen seen) found.0
found_among seen id found is = subst (λ (f : Option (TypeRef × Bool)). IfSome (option_map (λ x. x.0) f) (Contains (refs_seen seen))) is (type_among seen id)
