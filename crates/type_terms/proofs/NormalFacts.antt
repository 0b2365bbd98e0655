-- Normal forms of unions, meets and rows, as they are made.
use Rattle.std.proofs.Common.{◌≡◌, Bool, true, false, refl, ap}
use Rattle.std.specs.Prelude.{◌||◌}
use Rattle.type_arena.specs.Term.{term, no_rows, more_rows, Fields, no_fields}
use Rattle.type_normal.specs.Free.{no_values}
use Rattle.type_normal.specs.Kinds.{row_type, table_type}
use Rattle.type_normal.specs.Operations.{union, meet, meet_fields, put_field}
use Rattle.type_normal.specs.TypeTerm.{TypeTerms, no_terms, more_terms, Props, no_props, more_props, normal, normal_union, normal_meet, normal_fields}
use Rattle.type_terms.specs.Made.{normals, given_fields, union_of, meet_of}

pub unions_joined : (ts : TypeTerms) → union_of (normals ts) ≡ normal_union ts
unions_joined no_terms = refl
unions_joined (more_terms t ts) = ap (union (normal t)) (unions_joined ts)

pub meets_joined : (ts : TypeTerms) → meet_of (normals ts) ≡ normal_meet ts
meets_joined no_terms = refl
meets_joined (more_terms t ts) = ap (meet (normal t)) (meets_joined ts)

-- fields as they are written, met one after the other, are in normal form's order, each name once
pub met_one_by_one : (props : Props) → meet_fields (given_fields props) no_fields ≡ normal_fields props
met_one_by_one no_props = refl
met_one_by_one (more_props name type props) = ap (put_field name (normal type) (meet (normal type))) (met_one_by_one props)

or_false : (a : Bool) → a || false ≡ a
or_false true = refl
or_false false = refl

-- a row met with all tables
pub row_met : (frozen : Bool) (fields : Fields) → meet (term no_values (more_rows frozen fields no_rows)) table_type ≡ row_type frozen (meet_fields fields no_fields)
row_met frozen fields = λ i. row_type (or_false frozen i) (meet_fields fields no_fields)
