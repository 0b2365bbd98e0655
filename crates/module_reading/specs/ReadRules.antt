-- The rules of a module: what reports read of it, as one function of the same.
use Rattle.std.specs.Prelude.{ℕ, false, List, map, Option, None, slice_get}
use Rattle.std.specs.Option.{option_map_or, option_and_then}
use Rattle.luau_tree.specs.declared.names.ExprId.{ExprId}
use Rattle.luau_tree.specs.Tree.{Block}
use Rattle.luau_tree.specs.View.{view_block}
use Rattle.luau_scope.specs.declared.reading.Use.{Use}
use Rattle.luau_scope.specs.declared.reading.LocalInfo.{LocalInfo}
use Rattle.luau_scope.specs.declared.reading.RequireSite.{RequireSite}
use Rattle.luau_scope.specs.declared.reading.Scoped.{Scoped}
use Rattle.luau_scope.specs.Locals.{uses_of, locals_of, requires_of, given_builtin}
use Rattle.type_arena.specs.Term.{Term}
use Rattle.type_decl.specs.Signatures.{Signature}
use Rattle.annotations.specs.Annotated.{annotation, annotated}
use Rattle.report_rules.specs.Rules.{TypedBuiltin, Rules}
use Rattle.module_reading.specs.Readings.{reading_by}

-- a declared builtin, as the rules read it
abbrev pub typed_builtin : List ℕ × Signature → TypedBuiltin
typed_builtin entry = record {
  path = entry.0;
  params = entry.1.params;
  rest = entry.1.rest;
  results = entry.1.results;
  more = entry.1.more;
  checked = entry.1.checked;
  quiet = entry.1.quiet;
}

-- rules, by what was found of a module's names: its annotations say what the types that are written there hold
abbrev pub rules_by : List (ExprId × Use) → List LocalInfo → List RequireSite → (home : ℕ) → Block
    → (leads : List ℕ → Option ℕ) → (table : List (List ℕ × Signature)) → (import : ℕ → Term) → Rules
rules_by uses locals sites home block leads table import = record {
  reading = reading_by uses locals sites home block (annotated block) leads;
  assigned = λ local. option_map_or (λ found. found.assigned) (slice_get locals local) false;
  caught = λ local. option_map_or (λ found. found.captured) (slice_get locals local) false;
  fixed = λ local. option_and_then (given_builtin uses) (slice_get locals local);
  table = map typed_builtin table;
  annotation = annotation block;
  import = import;
  known = λ start function. None;
}

-- the rules of a module, over the paths of the declared builtins: from its home, its block, which module each way of a static
-- require leads to, the signatures of the builtins, and the type of what each static require gives
abbrev pub rules_of : (paths : List (List ℕ)) → (home : ℕ) → Block → (leads : List ℕ → Option ℕ)
    → (table : List (List ℕ × Signature)) → (import : ℕ → Term) → Rules
rules_of paths home block leads table import =
    rules_by (uses_of paths block) (locals_of paths block) (requires_of paths block) home block leads table import

-- the same, as code has what was found
abbrev pub rules_of_scoped : Scoped → (home : ℕ) → (leads : List ℕ → Option ℕ) → (table : List (List ℕ × Signature))
    → (import : ℕ → Term) → Rules
rules_of_scoped scoped home leads table import =
    rules_by scoped.uses scoped.locals scoped.required home (view_block scoped.module.block) leads table import
