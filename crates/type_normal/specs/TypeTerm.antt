-- Types as they are written: kinds, single values, rows, unions, meets and complements, in any order and depth; which values
-- belong to them, and the normal form that they have.
use Rattle.std.specs.Prelude.{ℕ, Bool, true, false, not, ◌&&◌, ◌||◌, List}
use Rattle.std.specs.Bool.{beq}
use Rattle.std.specs.Ordering.{is_eq}
use Rattle.type_arena.specs.Term.{Function, builtin, literal, Term, Fields, no_fields, never}
use Rattle.luau_values.specs.Value.{Value, Truth, Str, Tab, Lit, Builtin}
use Rattle.luau_values.specs.Heap.{Heap, is_frozen, field_of}
use Rattle.type_normal.specs.Free.{name_cmp, function_cmp}
use Rattle.type_normal.specs.Operations.{union, meet, not_free, put_field}
use Rattle.type_normal.specs.Kinds.{unknown, nil_type, true_type, false_type, number_type, string_type, text_type, function_type, named_type, other_type, table_type, row_type, Kinds, has_kind}

-- a type as it is written; a row has names of fields with their types
mutual
  pub data TypeTerm : Type 0 where
    NeverTerm : TypeTerm
    UnknownTerm : TypeTerm
    NilTerm : TypeTerm
    TrueTerm : TypeTerm
    FalseTerm : TypeTerm
    NumberTerm : TypeTerm
    AnyStringTerm : TypeTerm
    StrTerm : List ℕ → TypeTerm
    FunctionTerm : TypeTerm
    NamedTerm : Function → TypeTerm
    OtherTerm : TypeTerm
    TableTerm : TypeTerm
    PropsTerm : Bool → Props → TypeTerm
    UnionTerm : TypeTerms → TypeTerm
    MeetTerm : TypeTerms → TypeTerm
    NotTerm : TypeTerm → TypeTerm

  pub data TypeTerms : Type 0 where
    no_terms : TypeTerms
    more_terms : TypeTerm → TypeTerms → TypeTerms

  pub data Props : Type 0 where
    no_props : Props
    more_props : List ℕ → TypeTerm → Props → Props

-- whether a value is one truth value, one string, one function, and whether a test passes at a table
abbrev pub is_truth : Bool → Value → Bool
is_truth truth (Truth other) = beq truth other
is_truth truth value = false

abbrev pub is_text : List ℕ → Value → Bool
is_text bytes (Str other) = is_eq (name_cmp other bytes)
is_text bytes value = false

abbrev pub is_named : Function → Value → Bool
is_named function (Lit home number cells) = is_eq (function_cmp (literal home number) function)
is_named function (Builtin path) = is_eq (function_cmp (builtin path) function)
is_named function value = false

abbrev pub is_table_with : (ℕ → Bool) → Value → Bool
is_table_with test (Tab address) = test address
is_table_with test value = false

-- some kinds, of which there are none
abbrev pub no_kinds : Kinds
no_kinds = record { nil = false; boolean = false; number = false; string = false; table = false; function = false; other = false }

-- whether a value belongs to a written type, by cases on the type
abbrev mutual
  pub satisfies : Heap → Value → TypeTerm → Bool
  satisfies heap value NeverTerm = false
  satisfies heap value UnknownTerm = true
  satisfies heap value NilTerm = has_kind (record no_kinds { nil = true }) value
  satisfies heap value TrueTerm = is_truth true value
  satisfies heap value FalseTerm = is_truth false value
  satisfies heap value NumberTerm = has_kind (record no_kinds { number = true }) value
  satisfies heap value AnyStringTerm = has_kind (record no_kinds { string = true }) value
  satisfies heap value (StrTerm bytes) = is_text bytes value
  satisfies heap value FunctionTerm = has_kind (record no_kinds { function = true }) value
  satisfies heap value (NamedTerm function) = is_named function value
  satisfies heap value OtherTerm = has_kind (record no_kinds { other = true }) value
  satisfies heap value TableTerm = has_kind (record no_kinds { table = true }) value
  satisfies heap value (PropsTerm frozen props) = is_table_with (λ address. (not frozen || is_frozen heap address) && all_satisfied heap address props) value
  satisfies heap value (UnionTerm terms) = some_satisfied heap value terms
  satisfies heap value (MeetTerm terms) = each_satisfied heap value terms
  satisfies heap value (NotTerm type) = not (satisfies heap value type)

  pub some_satisfied : Heap → Value → TypeTerms → Bool
  some_satisfied heap value no_terms = false
  some_satisfied heap value (more_terms type terms) = satisfies heap value type || some_satisfied heap value terms

  pub each_satisfied : Heap → Value → TypeTerms → Bool
  each_satisfied heap value no_terms = true
  each_satisfied heap value (more_terms type terms) = satisfies heap value type && each_satisfied heap value terms

  pub all_satisfied : Heap → ℕ → Props → Bool
  all_satisfied heap address no_props = true
  all_satisfied heap address (more_props name type props) = satisfies heap (field_of heap address name) type && all_satisfied heap address props

-- the normal form of a written type
abbrev mutual
  pub normal : TypeTerm → Term
  normal NeverTerm = never
  normal UnknownTerm = unknown
  normal NilTerm = nil_type
  normal TrueTerm = true_type
  normal FalseTerm = false_type
  normal NumberTerm = number_type
  normal AnyStringTerm = string_type
  normal (StrTerm bytes) = text_type bytes
  normal FunctionTerm = function_type
  normal (NamedTerm function) = named_type function
  normal OtherTerm = other_type
  normal TableTerm = table_type
  normal (PropsTerm frozen props) = row_type frozen (normal_fields props)
  normal (UnionTerm terms) = normal_union terms
  normal (MeetTerm terms) = normal_meet terms
  normal (NotTerm type) = not_free (normal type)

  pub normal_union : TypeTerms → Term
  normal_union no_terms = never
  normal_union (more_terms type terms) = union (normal type) (normal_union terms)

  pub normal_meet : TypeTerms → Term
  normal_meet no_terms = unknown
  normal_meet (more_terms type terms) = meet (normal type) (normal_meet terms)

  pub normal_fields : Props → Fields
  normal_fields no_props = no_fields
  normal_fields (more_props name type props) = put_field name (normal type) (meet (normal type)) (normal_fields props)

-- whether a written type has no row, and whether each complement in it is of such a type
abbrev mutual
  pub has_no_props : TypeTerm → Bool
  has_no_props (PropsTerm frozen props) = false
  has_no_props (UnionTerm terms) = have_no_props terms
  has_no_props (MeetTerm terms) = have_no_props terms
  has_no_props (NotTerm type) = has_no_props type
  has_no_props type = true

  pub have_no_props : TypeTerms → Bool
  have_no_props no_terms = true
  have_no_props (more_terms type terms) = has_no_props type && have_no_props terms

abbrev mutual
  pub is_proper : TypeTerm → Bool
  is_proper (PropsTerm frozen props) = proper_props props
  is_proper (UnionTerm terms) = are_proper terms
  is_proper (MeetTerm terms) = are_proper terms
  is_proper (NotTerm type) = has_no_props type && is_proper type
  is_proper type = true

  pub are_proper : TypeTerms → Bool
  are_proper no_terms = true
  are_proper (more_terms type terms) = is_proper type && are_proper terms

  pub proper_props : Props → Bool
  proper_props no_props = true
  proper_props (more_props name type props) = is_proper type && proper_props props
