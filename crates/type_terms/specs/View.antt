-- The plain term of a written type: what contracts see of a `TypeTerm`.
use Rattle.std.specs.Prelude.{ℕ, List, [], ◌∷◌}
use Rattle.type_arena.specs.Term.{function_of}
use Rattle.type_normal.specs.TypeTerm.{TypeTerm, TypeTerms, no_terms, more_terms, Props, no_props, more_props}
use Rattle.type_normal.specs.TypeTerm as plain
use Rattle.type_terms.specs.declared.terms as code
use Rattle.type_terms.specs.declared.terms.Prop.{Prop-F}
use Rattle.type_terms.specs.declared.terms.TypeTerm.{TypeTerm-F}
use Rattle.type_terms.specs.declared.terms.TypeTerm.TheOpen as layer

-- a layer of a term, with plain parts
abbrev pub terms : List TypeTerm → TypeTerms
terms [] = no_terms
terms (x ∷ xs) = more_terms x (terms xs)

abbrev pub props : List (List ℕ × TypeTerm) → Props
props [] = no_props
props (x ∷ xs) = more_props x.0 x.1 (props xs)

abbrev type_term : TypeTerm-F TypeTerm (List ℕ × TypeTerm) → TypeTerm
type_term layer.Never = plain.NeverTerm
type_term layer.Unknown = plain.UnknownTerm
type_term layer.Nil = plain.NilTerm
type_term layer.True = plain.TrueTerm
type_term layer.False = plain.FalseTerm
type_term layer.Number = plain.NumberTerm
type_term (layer.Str bytes) = plain.StrTerm bytes
type_term layer.AnyString = plain.AnyStringTerm
type_term layer.Function = plain.FunctionTerm
type_term (layer.Named name) = plain.NamedTerm (function_of name)
type_term layer.Other = plain.OtherTerm
type_term layer.Table = plain.TableTerm
type_term (layer.Props frozen fields) = plain.PropsTerm frozen (props fields)
type_term (layer.Union list) = plain.UnionTerm (terms list)
type_term (layer.Meet list) = plain.MeetTerm (terms list)
type_term (layer.Not of) = plain.NotTerm of

abbrev prop_of : Prop-F TypeTerm (List ℕ × TypeTerm) → List ℕ × TypeTerm
prop_of x = (x.name, x.typ)

-- the plain term of a written type
unfoldable pub view_term : code.TypeTerm.TypeTerm → TypeTerm
view_term = code.TypeTerm.fold-TypeTerm TypeTerm (List ℕ × TypeTerm) type_term prop_of

unfoldable pub view_prop : code.Prop.Prop → List ℕ × TypeTerm
view_prop = code.Prop.fold-Prop TypeTerm (List ℕ × TypeTerm) type_term prop_of

-- the plain terms of some written types, and of some fields, in order
abbrev pub view_terms : List code.TypeTerm.TypeTerm → TypeTerms
view_terms [] = no_terms
view_terms (x ∷ xs) = more_terms (view_term x) (view_terms xs)

abbrev pub view_props : List code.Prop.Prop → Props
view_props [] = no_props
view_props (x ∷ xs) = more_props (view_prop x).0 (view_prop x).1 (view_props xs)
