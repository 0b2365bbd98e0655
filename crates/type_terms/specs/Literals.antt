-- The function literals that written types name: what a call on an arena is given with them.
use Rattle.std.specs.Prelude.{ℕ, List, [], ◌∷◌, ◌++◌}
use Rattle.type_arena.specs.Homes.{Given}
use Rattle.type_arena.specs.Term.{Function, builtin, literal}
use Rattle.type_normal.specs.TypeTerm.{TypeTerm, PropsTerm, UnionTerm, MeetTerm, NotTerm, NamedTerm, TypeTerms, no_terms, more_terms, Props, no_props, more_props}

-- the home of a function literal
abbrev pub home_of_literal : Function → List ℕ
home_of_literal (builtin path) = []
home_of_literal (literal home number) = home ∷ []

-- the homes of the function literals that a written type names
abbrev mutual
  pub literals_in : TypeTerm → List ℕ
  literals_in (NamedTerm function) = home_of_literal function
  literals_in (PropsTerm frozen props) = literals_in_props props
  literals_in (UnionTerm terms) = literals_in_terms terms
  literals_in (MeetTerm terms) = literals_in_terms terms
  literals_in (NotTerm type) = literals_in type
  literals_in type = []

  pub literals_in_terms : TypeTerms → List ℕ
  literals_in_terms no_terms = []
  literals_in_terms (more_terms type terms) = literals_in type ++ literals_in_terms terms

  pub literals_in_props : Props → List ℕ
  literals_in_props no_props = []
  literals_in_props (more_props name type props) = literals_in type ++ literals_in_props props

-- what is given with a written type: no references, and the homes of the literals that it names
abbrev pub named_in : TypeTerm → Given
named_in type = record { refs = []; literals = literals_in type }

abbrev pub named_in_terms : TypeTerms → Given
named_in_terms terms = record { refs = []; literals = literals_in_terms terms }

abbrev pub named_in_props : Props → Given
named_in_props props = record { refs = []; literals = literals_in_props props }
