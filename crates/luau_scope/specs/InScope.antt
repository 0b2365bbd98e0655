-- How the locals in scope are kept. No clause of a public call cites these, so no reader needs to believe them.
use Rattle.std.specs.Prelude.{◌≡◌, ⊤, ℕ, List, [], ◌∷◌, ◌++◌, Option, option_map, map}
use Rattle.std.specs.Cmp.Lexicographic.{slice_cmp}
use Rattle.std.specs.Ordering.{nat_cmp}
use Rattle.std.specs.BTreeMap.{BTreeMap, get}
use Rattle.std.specs.BTreeSet.{BTreeSet, contains}
use Rattle.luau_scope.specs.Locals.{is_among}
use Rattle.luau_scope.specs.declared.scope.Held.{Held}
use Rattle.luau_scope.specs.declared.scope.Entry.{Entry}
use Rattle.luau_scope.specs.Found.{Visible, meant}

-- what is at hand of a local in scope
abbrev pub held_of : Visible → Held
held_of v = record { local = v.local; function = v.function }

-- the local in scope that an entry is
abbrev pub visible_of : Entry → Visible
visible_of entry = record { name = entry.name; local = entry.held.local; function = entry.held.function }

-- the innermost local of a name among entries
abbrev pub innermost_of : List Entry → List ℕ → Option Held
innermost_of entries name = option_map held_of (meant (map visible_of entries) name)

-- each entry knows which local of its name it hides
abbrev pub AreLinked : (outer entries : List Entry) → Type 0
AreLinked outer [] = ⊤
AreLinked outer (entry ∷ entries) = (entry.hides ≡ innermost_of outer entry.name) × AreLinked (outer ++ entry ∷ []) entries

-- the innermost local of each name is at hand
pub record InSync (entries : List Entry) (innermost : BTreeMap (List ℕ) Held) : Type 0 where
  pub at_hand : (name : List ℕ) → get (slice_cmp nat_cmp) innermost name ≡ innermost_of entries name
  pub linked : AreLinked [] entries

-- a set has exactly these numbers
pub record AreAmong (numbers : List ℕ) (set : BTreeSet ℕ) : Type 0 where
  pub same : (n : ℕ) → contains nat_cmp set n ≡ is_among n numbers
