-- What visible names mean.
use Rattle.std.proofs.Common.{◌≡◌, ℕ, Bool, true, false, List, [], ◌∷◌, ◌++◌, refl, sym, ap, ◌∙◌, subst}
use Rattle.std.specs.Prelude.{Option, Some, None, IsTrue, Contains, codes, if◌then◌else◌}
use Rattle.std.proofs.lemmas.List.Elements.{All-contains, Contains-append_left, Contains-append_right}
use Rattle.std.specs.Option.{option_map_or}
use Rattle.std.specs.Str.{bytes_eq}
use Rattle.type_arena.specs.Arena.{store_of}
use Rattle.type_arena.specs.Meaning.{term_of, fields_by}
use Rattle.type_arena.specs.Store.{has, field_types}
use Rattle.type_arena.specs.Term.{Term}
use Rattle.type_arena.specs.declared.arena.Arena.{Arena}
use Rattle.type_arena.specs.declared.node.TypeRef.{TypeRef}
use Rattle.type_normal.specs.Kinds.{unknown}
use Rattle.type_normal.proofs.AddsFacts.{alone}
use Rattle.annotations.specs.Lowered.{Known, known_as, own_type, named_type, with_name}
use Rattle.type_lower.specs.Made.{AreThere}
use Rattle.type_lower.specs.Visible.{last_of, known_behind, known_in}

found_by : (means : TypeRef → Term) (alias : List ℕ × TypeRef) (known : List Known) (name : List ℕ) (other : Term) (o : Option TypeRef) (b : Bool)
    → option_map_or means o (option_map_or (λ (k : Known). k.type) (if b then Some (record { name = alias.0; type = means alias.1 }) else known_as name known) other)
    ≡ option_map_or means (elim o as (λ _. Option TypeRef) [ None ↦ if b then Some alias.1 else None | Some at ↦ Some at ]) (option_map_or (λ (k : Known). k.type) (known_as name known) other)
found_by means alias known name other (Some at) b = refl
found_by means alias known name other None true = refl
found_by means alias known name other None false = refl

found : (means : TypeRef → Term) (aliases : List (List ℕ × TypeRef)) (known : List Known) (name : List ℕ) (other : Term)
    → option_map_or (λ (k : Known). k.type) (known_as name (known_behind known (fields_by means aliases))) other
    ≡ option_map_or means (last_of name aliases) (option_map_or (λ (k : Known). k.type) (known_as name known) other)
found means [] known name other = refl
found means (alias ∷ aliases) known name other =
    found means aliases (with_name alias.0 (means alias.1) known) name other
    ∙ found_by means alias known name other (last_of name aliases) (bytes_eq alias.0 name)

name_by : (arena : Arena) (aliases : List (List ℕ × TypeRef)) (name : List ℕ) (o : Option TypeRef) → last_of name aliases ≡ o
    → option_map_or (λ (k : Known). k.type) (known_as name (known_in arena aliases)) (own_type name) ≡ option_map_or (term_of (store_of arena)) o (own_type name)
name_by arena aliases name o e = found (term_of (store_of arena)) aliases [] name (own_type name) ∙ ap (λ (p : Option TypeRef). option_map_or (term_of (store_of arena)) p (own_type name)) e

-- the name `unknown`, a name of an alias, and another name
pub unknown_named : (known : List Known) (name : List ℕ) → bytes_eq name (codes "unknown") ≡ true → unknown ≡ named_type known name
unknown_named known name e = sym (ap (λ (b : Bool). if b then unknown else option_map_or (λ (k : Known). k.type) (known_as name known) (own_type name)) e)

pub alias_named : (arena : Arena) (aliases : List (List ℕ × TypeRef)) (name : List ℕ) (at : TypeRef) → bytes_eq name (codes "unknown") ≡ false → last_of name aliases ≡ Some at
    → term_of (store_of arena) at ≡ named_type (known_in arena aliases) name
alias_named arena aliases name at e f =
    sym (ap (λ (b : Bool). if b then unknown else option_map_or (λ (k : Known). k.type) (known_as name (known_in arena aliases)) (own_type name)) e ∙ name_by arena aliases name (Some at) f)

pub own_named : (arena : Arena) (aliases : List (List ℕ × TypeRef)) (name : List ℕ) → bytes_eq name (codes "unknown") ≡ false → last_of name aliases ≡ None
    → own_type name ≡ named_type (known_in arena aliases) name
own_named arena aliases name e f =
    sym (ap (λ (b : Bool). if b then unknown else option_map_or (λ (k : Known). k.type) (known_as name (known_in arena aliases)) (own_type name)) e ∙ name_by arena aliases name None f)

-- one more name
behind_more : (means : TypeRef → Term) (aliases : List (List ℕ × TypeRef)) (alias : List ℕ × TypeRef) (known : List Known)
    → known_behind known (fields_by means (aliases ++ alias ∷ [])) ≡ with_name alias.0 (means alias.1) (known_behind known (fields_by means aliases))
behind_more means [] alias known = refl
behind_more means (other ∷ aliases) alias known = behind_more means aliases alias (with_name other.0 (means other.1) known)

pub known_more : (arena : Arena) (aliases all : List (List ℕ × TypeRef)) (name : List ℕ) (at : TypeRef) → all ≡ aliases ++ (name, at) ∷ []
    → known_in arena all ≡ with_name name (term_of (store_of arena) at) (known_in arena aliases)
known_more arena aliases all name at e = ap (known_in arena) e ∙ behind_more (term_of (store_of arena)) aliases (name, at) []

-- a name that is found is among the names
among_by : (alias : List ℕ × TypeRef) (aliases : List (List ℕ × TypeRef)) (at : TypeRef) (o : Option TypeRef) (b : Bool) → (o ≡ Some at → Contains (field_types aliases) at)
    → elim o as (λ _. Option TypeRef) [ None ↦ if b then Some alias.1 else None | Some x ↦ Some x ] ≡ Some at → Contains (alias.1 ∷ field_types aliases) at
among_by alias aliases at (Some x) b ih e = Contains-append_right (alias.1 ∷ []) (field_types aliases) at (ih e)
among_by alias aliases at None true ih e =
    let s : alias.1 ≡ at = cc in
    subst (λ (y : TypeRef). Contains (alias.1 ∷ field_types aliases) y) s (Contains-append_left (alias.1 ∷ []) (field_types aliases) alias.1 (alone alias.1))
among_by alias aliases at None false ih e = cc

pub last_among : (aliases : List (List ℕ × TypeRef)) (name : List ℕ) (at : TypeRef) → last_of name aliases ≡ Some at → Contains (field_types aliases) at
last_among [] name at e = cc
last_among (alias ∷ aliases) name at e = among_by alias aliases at (last_of name aliases) (bytes_eq alias.0 name) (last_among aliases name at) e

pub last_there : (arena : Arena) (aliases : List (List ℕ × TypeRef)) (name : List ℕ) (at : TypeRef) → AreThere arena (field_types aliases) → last_of name aliases ≡ Some at → IsTrue (has (store_of arena) at)
last_there arena aliases name at there e = All-contains (λ x. IsTrue (has (store_of arena) x)) (field_types aliases) at there (last_among aliases name at e)
