-- The table of signatures that declarations are.
use Rattle.std.specs.Prelude.{ℕ, List, [], ◌∷◌, map, option_map, codes}
use Rattle.std.specs.List.{list_any}
use Rattle.std.specs.declared.cmp.Ordering.{Ordering}
use Rattle.luau_tree.specs.Sorted.{bytes_cmp, sorted_by}
use Rattle.luau_tree.specs.Tree.{TypeSyntax}
use Rattle.type_arena.specs.Term.{Term}
use Rattle.type_normal.specs.Kinds.{table_type, function_type, other_type}
use Rattle.type_decl.specs.Signatures.{Signature}
use Rattle.annotations.specs.Lowered.{Known, lowered}
use Rattle.decl_grammar.specs.Declarations.{Declaration}
use Rattle.decl_tables.specs.Forms.{is_checked, is_quiet}

-- the names that mean a type in a declaration file besides those that mean one everywhere
abbrev pub file_names : List Known
file_names =
    record { name = codes "table"; type = table_type } ∷
    record { name = codes "func"; type = function_type } ∷
    record { name = codes "other"; type = other_type } ∷ []

-- the type of a type that is written in a declaration file
abbrev pub written_type : TypeSyntax → Term
written_type = lowered file_names

-- what a declaration says of its builtin
abbrev pub signature_of : Declaration → Signature
signature_of d = record {
  params = map written_type d.params.types;
  rest = option_map written_type d.params.rest;
  results = map written_type d.results.types;
  more = option_map written_type d.results.rest;
  checked = list_any is_checked d.marks;
  quiet = list_any is_quiet d.marks;
}

-- entries of a table compare by their paths
abbrev pub entry_cmp : List ℕ × Signature → List ℕ × Signature → Ordering
entry_cmp a b = bytes_cmp a.0 b.0

-- the table of some declarations: each path with its signature, in the order of the paths
abbrev pub table_of : List Declaration → List (List ℕ × Signature)
table_of ds = sorted_by entry_cmp (map (λ d. (d.path, signature_of d)) ds)
