-- How visible names are kept. No clause of a public call cites these, so no reader needs to believe them.
use Rattle.std.specs.Prelude.{◌≡◌, ⊤, ℕ, List, [], ◌∷◌, ◌++◌, Option, map}
use Rattle.std.specs.Cmp.Lexicographic.{slice_cmp}
use Rattle.std.specs.Ordering.{nat_cmp}
use Rattle.std.specs.BTreeMap.{BTreeMap, get}
use Rattle.type_arena.specs.declared.node.TypeRef.{TypeRef}
use Rattle.type_lower.specs.declared.aliases.Entry.{Entry}
use Rattle.type_lower.specs.Visible.{last_of}

-- the name of an entry, with its reference
abbrev pub shown : Entry → List ℕ × TypeRef
shown entry = (entry.name, entry.at)

-- the reference of the last of a name among entries
abbrev pub last_in : List Entry → List ℕ → Option TypeRef
last_in entries name = last_of name (map shown entries)

-- each entry knows what it hides
abbrev pub AreLinked : (outer entries : List Entry) → Type 0
AreLinked outer [] = ⊤
AreLinked outer (entry ∷ entries) = (entry.hides ≡ last_in outer entry.name) × AreLinked (outer ++ entry ∷ []) entries

-- the last of each name is at hand
pub record InSync (entries : List Entry) (last : BTreeMap (List ℕ) TypeRef) : Type 0 where
  pub at_hand : (name : List ℕ) → get (slice_cmp nat_cmp) last name ≡ last_in entries name
  pub linked : AreLinked [] entries
