-- The types that written types mean.
use Rattle.std.specs.Prelude.{ℕ, Bool, true, false, List, [], ◌∷◌, Option, None, if◌then◌else◌, codes}
use Rattle.std.specs.Option.{option_map_or}
use Rattle.std.specs.List.{find}
use Rattle.std.specs.Str.{bytes_eq}
use Rattle.luau_tree.specs.declared.names.Access.{Access}
use Rattle.luau_tree.specs.declared.names.Access.TheVariants.{Both, Read, Write}
use Rattle.luau_tree.specs.Tree.{TypeSyntax, the_type, TypeSyntaxes, no_types, more_types, TypeKind, NilType, BoolType, StrType, Named, Typeof, Array, TableType, Func, Union, Meet, Optional, Pack, Variadic, GenericPack, Prop, the_prop, Props, no_props, more_props, NameKey, Indexer, Gens, no_gens, more_gens}
use Rattle.type_arena.specs.Term.{Term, never, Fields, no_fields, more_fields}
use Rattle.type_normal.specs.Operations.{union, meet, put_field}
use Rattle.type_normal.specs.Kinds.{unknown, nil_type, true_type, false_type, boolean_type, number_type, string_type, text_type, function_type, other_type, table_type, row_type}
use Rattle.type_normal.specs.Cut.{cut_up}

-- a name with the type that it means
pub record Known : Type 0 where
  pub name : List ℕ
  pub type : Term

-- the names that mean a type where no alias has them; any other name means unknown, and so does `any`
abbrev pub own_names : List Known
own_names =
    record { name = codes "boolean"; type = boolean_type } ∷
    record { name = codes "number"; type = number_type } ∷
    record { name = codes "string"; type = string_type } ∷
    record { name = codes "never"; type = never } ∷
    record { name = codes "thread"; type = other_type } ∷
    record { name = codes "buffer"; type = other_type } ∷
    record { name = codes "vector"; type = other_type } ∷ []

-- the first of some names, and the type that it means
abbrev pub known_as : List ℕ → List Known → Option Known
known_as name known = find (λ k. bytes_eq k.name name) known

-- the type of a name that no visible alias has
abbrev pub own_type : List ℕ → Term
own_type name = option_map_or (λ k. k.type) (known_as name own_names) unknown

-- the type of a name, where the alias that counts first stands first; `unknown` always means unknown
abbrev pub named_type : List Known → List ℕ → Term
named_type known name = if bytes_eq name (codes "unknown") then unknown else option_map_or (λ k. k.type) (known_as name known) (own_type name)

-- whether a property may be read
abbrev pub is_readable : Access → Bool
is_readable Both = true
is_readable Read = true
is_readable Write = false

-- the fields with one before them, unless they have its name: of two properties of one name the last counts
abbrev pub with_field : List ℕ → Term → Fields → Fields
with_field name type fields = put_field name type (λ last. last) fields

-- the table of some named properties, which is any table without them
abbrev pub table_of : Fields → Term
table_of no_fields = table_type
table_of (more_fields name type fields) = row_type false (more_fields name type fields)

-- the type of a written type, before the whole is cut. Each union and each meet is cut up where it is made
abbrev mutual
  pub raw : List Known → TypeSyntax → Term
  raw known (the_type span kind) = raw_kind known kind

  pub raw_kind : List Known → TypeKind → Term
  raw_kind known NilType = nil_type
  raw_kind known (BoolType true) = true_type
  raw_kind known (BoolType false) = false_type
  raw_kind known (StrType bytes) = text_type bytes
  raw_kind known (Named None name no_types) = named_type known name
  raw_kind known (Named prefix name args) = unknown
  raw_kind known (Typeof e) = unknown
  raw_kind known (Array item) = table_type
  raw_kind known (TableType props) = table_of (raw_fields known props)
  raw_kind known (Func generics params result) = function_type
  raw_kind known (Union types) = raw_union known types
  raw_kind known (Meet types) = raw_meet known types
  raw_kind known (Optional type) = cut_up (union (raw known type) nil_type)
  raw_kind known (Pack types) = unknown
  raw_kind known (Variadic type) = unknown
  raw_kind known (GenericPack name) = unknown

  pub raw_fields : List Known → Props → Fields
  raw_fields known no_props = no_fields
  raw_fields known (more_props prop props) = raw_prop known prop (raw_fields known props)

  -- a property in front of later ones
  pub raw_prop : List Known → Prop → Fields → Fields
  raw_prop known (the_prop access (NameKey name) type) later = if is_readable access then with_field name (raw known type) later else later
  raw_prop known (the_prop access (Indexer key) type) later = later

  -- the types one after the other: each is joined with, or met with, what came of those before it
  pub raw_union : List Known → TypeSyntaxes → Term
  raw_union known no_types = never
  raw_union known (more_types type types) = joined_from known (raw known type) types

  pub joined_from : List Known → Term → TypeSyntaxes → Term
  joined_from known first no_types = first
  joined_from known first (more_types type types) = joined_from known (cut_up (union first (raw known type))) types

  pub raw_meet : List Known → TypeSyntaxes → Term
  raw_meet known no_types = unknown
  raw_meet known (more_types type types) = met_from known (raw known type) types

  pub met_from : List Known → Term → TypeSyntaxes → Term
  met_from known first no_types = first
  met_from known first (more_types type types) = met_from known (cut_up (meet first (raw known type))) types

-- the type of a written type, by what the visible names mean
abbrev pub lowered : List Known → TypeSyntax → Term
lowered known type = cut_up (raw known type)

-- what the name of an alias means: unknown, if it has parameters
abbrev pub alias_type : List Known → Gens → TypeSyntax → Term
alias_type known no_gens type = lowered known type
alias_type known (more_gens gen gens) type = unknown

-- the visible names with one more, which counts before them
abbrev pub with_name : List ℕ → Term → List Known → List Known
with_name name type known = record { name = name; type = type } ∷ known

-- the visible names after some aliases, from the first to the last: an alias sees those before it
abbrev pub known_after : List Known → List (List ℕ × TypeSyntax) → List Known
known_after known [] = known
known_after known (alias ∷ aliases) = known_after (with_name alias.0 (lowered known alias.1) known) aliases

-- the type of a written type where these aliases are visible, in the order of the text
abbrev pub lower : List (List ℕ × TypeSyntax) → TypeSyntax → Term
lower aliases type = lowered (known_after [] aliases) type
