-- The reading of a module: what runs read of it, as one function of its text and of what the folder says.
use Rattle.std.specs.Prelude.{ℕ, ◌==◌, not, List, [], filter, Option, Some, None}
use Rattle.std.specs.Option.{option_map_or, option_and_then}
use Rattle.std.specs.List.{find, filter_map}
use Rattle.luau_tree.specs.declared.names.ExprId.{ExprId}
use Rattle.luau_tree.specs.Tree.{Block, the_expr, Body, the_bind}
use Rattle.luau_tree.specs.Nodes.{bodies_in, body_number}
use Rattle.luau_scope.specs.declared.reading.Use.{Use}
use Rattle.luau_scope.specs.declared.reading.LocalInfo.{LocalInfo}
use Rattle.luau_scope.specs.declared.reading.RequireSite.{RequireSite}
use Rattle.luau_scope.specs.Locals.{uses_of, locals_of, requires_of}
use Rattle.luau_run.specs.ValueSet.{ValueSet}
use Rattle.luau_run.specs.ReadModule.{ReadModule}
use Rattle.luau_run.specs.ReadFolder.{is_among, local_of}
use Rattle.luau_run.specs.SyntaxNode.{SyntaxNode, AnExpr, ABind, inside}
use Rattle.module_reading.specs.Names.{meaning_at, declared_from}

-- the local that a node uses, and the local that it declares
abbrev pub used_by : List (ExprId × Use) → SyntaxNode → Option ℕ
used_by uses (AnExpr (the_expr id span kind)) = local_of (meaning_at uses id)
used_by uses _ = None

abbrev pub declared_by : List LocalInfo → SyntaxNode → Option ℕ
declared_by locals (ABind (the_bind name span type)) = Some (declared_from 0 locals span.start)
declared_by locals _ = None

-- the captured locals of a body: those that its code uses, itself or in a function literal within, and doesn't declare.
-- What stands in a written type is no code, and captures nothing
abbrev pub captured_by : List (ExprId × Use) → List LocalInfo → Body → List ℕ
captured_by uses locals body = filter (λ n. not (is_among n (filter_map (declared_by locals) (inside body)))) (filter_map (used_by uses) (inside body))

-- the captured locals of the body with a number
abbrev pub captured_at : List (ExprId × Use) → List LocalInfo → Block → (function : ℕ) → List ℕ
captured_at uses locals block function =
    option_map_or (captured_by uses locals) (find (λ body. body_number body == function) (bodies_in block)) []

-- the module that a static require means, by the number of its call, where it is said which module a way leads to
abbrev pub required_at : List RequireSite → (leads : List ℕ → Option ℕ) → ℕ → Option ℕ
required_at sites leads id = option_and_then (λ site. leads site.text) (find (λ site. site.at.0 == id) sites)

-- a reading, by what was found of a module's names
abbrev pub reading_by : List (ExprId × Use) → List LocalInfo → List RequireSite → (home : ℕ) → Block
    → (annotated : (function index : ℕ) → ValueSet) → (leads : List ℕ → Option ℕ) → ReadModule
reading_by uses locals sites home block annotated leads = record {
  home = home;
  block = block;
  use_of = meaning_at uses;
  local_at = declared_from 0 locals;
  captured = captured_at uses locals block;
  annotated = annotated;
  required = required_at sites leads;
}

-- the reading of a module, over the paths of the declared builtins: from its home, its block, what its annotations say of
-- arguments, and which module each way of a static require leads to
abbrev pub reading_of : (paths : List (List ℕ)) → (home : ℕ) → Block → (annotated : (function index : ℕ) → ValueSet)
    → (leads : List ℕ → Option ℕ) → ReadModule
reading_of paths home block annotated leads =
    reading_by (uses_of paths block) (locals_of paths block) (requires_of paths block) home block annotated leads
