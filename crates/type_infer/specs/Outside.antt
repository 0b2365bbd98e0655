-- What stays while the rules of a module are applied.
use Rattle.std.specs.Prelude.{ℕ, List, ◌∷◌, option_map}
use Rattle.luau_tree.specs.declared.names.ExprId.{ExprId}
use Rattle.type_arena.specs.Meaning.{term_of}
use Rattle.type_arena.specs.Store.{Store}
use Rattle.type_arena.specs.declared.node.TypeRef.{TypeRef}
use Rattle.type_decl.specs.declared.table.SigTable.{SigTable}
use Rattle.rule_work.specs.Around.{Around}
use Rattle.rule_state.specs.Work.{builtins_in}
use Rattle.type_infer.specs.Imports.{import_at, types_imported}

-- a reference at the home of the declared builtins, which stands for all of theirs
abbrev pub builtins_home : TypeRef
builtins_home = record { home = 0; id = 0 }

-- over some arenas, with the declared builtins and with what static requires give
abbrev pub around_of : Store → (home : ℕ) → SigTable → List (ExprId × TypeRef) → Around
around_of store home table imports = record {
  home = home;
  below = store;
  outside = builtins_home ∷ types_imported imports;
  builtins = builtins_in table;
  imports = λ id. option_map (term_of store) (import_at imports id);
}
