-- What the definitions say at once.
use Rattle.std.proofs.Common.{◌≡◌, ℕ, Bool, true, false, List, [], ◌∷◌, map, refl, ap, ◌∙◌}
use Rattle.std.specs.Prelude.{Option, Some, None, option_map, slice_get, if◌then◌else◌}
use Rattle.std.specs.Option.{option_and_then, option_map_or}
use Rattle.std.specs.List.{find}
use Rattle.std.specs.Str.{bytes_eq}
use Rattle.luau_tree.specs.declared.names.ExprId.{ExprId}
use Rattle.luau_tree.specs.Tree.{Block}
use Rattle.luau_tree.specs.View.{view_block}
use Rattle.luau_scope.specs.declared.reading.Use.{Use}
use Rattle.luau_scope.specs.declared.reading.LocalInfo.{LocalInfo}
use Rattle.luau_scope.specs.declared.reading.RequireSite.{RequireSite}
use Rattle.luau_scope.specs.declared.reading.Scoped.{Scoped}
use Rattle.luau_scope.specs.Locals.{uses_of, locals_of, requires_of, given_builtin}
use Rattle.luau_run.specs.Signature.{declaration}
use Rattle.type_arena.specs.Term.{Term}
use Rattle.type_decl.specs.Signatures.{Signature}
use Rattle.type_decl.specs.Runs.{builtins_of}
use Rattle.module_reading.specs.Names.{Reads}
use Rattle.module_reading.specs.ReadRules.{typed_builtin, rules_by, rules_of, rules_of_scoped}
use Rattle.module_reading.specs.Laws.{run_builtin}

pub reads : (paths : List (List ℕ)) (home : ℕ) (block : Block) (leads : List ℕ → Option ℕ) (table : List (List ℕ × Signature)) (import : ℕ → Term)
    → Reads (uses_of paths block) (locals_of paths block) (rules_of paths home block leads table import)
reads paths home block leads table import = record {
  meanings = λ id. refl;
  declared = λ offset. refl;
  assigned = λ local. refl;
  caught = λ local. refl;
  fixed = λ local. refl;
}

pub scoped_same : (paths : List (List ℕ)) (scoped : Scoped) (home : ℕ) (leads : List ℕ → Option ℕ) (table : List (List ℕ × Signature)) (import : ℕ → Term)
    → scoped ≡ record {
      «module» = scoped.«module»;
      locals = locals_of paths (view_block scoped.«module».block);
      uses = uses_of paths (view_block scoped.«module».block);
      required = requires_of paths (view_block scoped.«module».block);
    } → rules_of_scoped scoped home leads table import ≡ rules_of paths home (view_block scoped.«module».block) leads table import
scoped_same paths scoped home leads table import e =
    ap (λ (us : List (ExprId × Use)). rules_by us scoped.locals scoped.required home (view_block scoped.«module».block) leads table import) (ap (λ (s : Scoped). s.uses) e)
    ∙ ap (λ (ls : List LocalInfo). rules_by (uses_of paths (view_block scoped.«module».block)) ls scoped.required home (view_block scoped.«module».block) leads table import) (ap (λ (s : Scoped). s.locals) e)
    ∙ ap (λ (rs : List RequireSite). rules_by (uses_of paths (view_block scoped.«module».block)) (locals_of paths (view_block scoped.«module».block)) rs home (view_block scoped.«module».block) leads table import)
    (ap (λ (s : Scoped). s.required) e)

pub same_declared : (table : List (List ℕ × Signature)) (path : List ℕ)
    → declaration (builtins_of table) path ≡ option_map run_builtin (find (λ b. bytes_eq b.path path) (map typed_builtin table))
same_declared [] path = refl
same_declared (entry ∷ table) path = by_test (bytes_eq entry.0 path) (same_declared table path)
  where
    by_test : (b : Bool) → declaration (builtins_of table) path ≡ option_map run_builtin (find (λ c. bytes_eq c.path path) (map typed_builtin table))
        → option_map (λ d. d.signature) (if b then Some (record { path = entry.0; signature = run_builtin (typed_builtin entry) }) else find (λ d. bytes_eq d.path path) (builtins_of table))
        ≡ option_map run_builtin (if b then Some (typed_builtin entry) else find (λ c. bytes_eq c.path path) (map typed_builtin table))
    by_test true k = refl
    by_test false k = k

-- a local that always holds a builtin isn't assigned
unassigned_at : (uses : List (ExprId × Use)) (found : Option LocalInfo) (path : List ℕ) → option_and_then (given_builtin uses) found ≡ Some path → option_map_or (λ l. l.assigned) found false ≡ false
unassigned_at uses None path e = refl
unassigned_at uses (Some local) path e = by_test local.assigned refl e
  where
    by_test : (b : Bool) → local.assigned ≡ b → given_builtin uses local ≡ Some path → local.assigned ≡ false
    by_test true q k = absurd (let z : given_builtin uses local ≡ None = rw q refl in cc)
    by_test false q k = q

pub unassigned : (paths : List (List ℕ)) (home : ℕ) (block : Block) (leads : List ℕ → Option ℕ) (table : List (List ℕ × Signature)) (import : ℕ → Term) (local : ℕ) (path : List ℕ)
    → (rules_of paths home block leads table import).fixed local ≡ Some path → (rules_of paths home block leads table import).assigned local ≡ false
unassigned paths home block leads table import local path = unassigned_at (uses_of paths block) (slice_get (locals_of paths block) local) path
