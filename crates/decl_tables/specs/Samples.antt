-- Some declarations.
use Rattle.std.specs.Prelude.{ℕ, Bool, true, false, List, [], ◌∷◌, None, Some, codes}
use Rattle.luau_tree.specs.Tree.{TypeSyntax, TypeKind, the_type, Named, no_types}
use Rattle.type_normal.specs.Kinds.{number_type, string_type, boolean_type, table_type}
use Rattle.type_decl.specs.Signatures.{Signature}
use Rattle.decl_grammar.specs.declared.mark.Mark.{Mark}
use Rattle.decl_grammar.specs.declared.mark.Mark.TheVariants.{Checked}
use Rattle.decl_grammar.specs.Declarations.{Declaration}

-- a written type, wherever it stands
abbrev pub written : TypeKind → TypeSyntax
written kind = the_type (record { start = 0; end = 0 }) kind

-- a name as a written type
abbrev pub name : List ℕ → TypeSyntax
name bytes = written (Named None bytes no_types)

-- a declaration without types
abbrev pub marked : List Mark → ℕ → List ℕ → Declaration
marked marks at path = record {
  marks = marks;
  at = at;
  path = path;
  params = record { types = []; rest = None };
  results = record { types = []; rest = None };
}

-- the same without marks
abbrev pub bare : ℕ → List ℕ → Declaration
bare at path = marked [] at path

-- `@checked declare function f(number, ...string): (boolean, ...table)`, whose path begins at an offset
abbrev pub with_types : ℕ → Declaration
with_types at = record {
  marks = Checked ∷ [];
  at = at;
  path = codes "f";
  params = record { types = name (codes "number") ∷ []; rest = Some (name (codes "string")) };
  results = record { types = name (codes "boolean") ∷ []; rest = Some (name (codes "table")) };
}

-- what it says
abbrev pub their_signature : Signature
their_signature = record {
  params = number_type ∷ [];
  rest = Some string_type;
  results = boolean_type ∷ [];
  more = Some table_type;
  checked = true;
  quiet = false;
}

-- a signature without types
abbrev pub no_types_of : Bool → Bool → Signature
no_types_of checked quiet = record { params = []; rest = None; results = []; more = None; checked = checked; quiet = quiet }
