-- The files of a folder, before their requires are looked at.
use Rattle.std.specs.Prelude.{ℕ, Bool, true, false, List, [], map, Option, Some, None}
use Rattle.luau_tree.specs.Tree.{Block}
use Rattle.luau_scope.specs.Locals.{requires_of}
use Rattle.luau_scope.specs.declared.reading.RequireSite.{RequireSite}
use Rattle.module_graph.specs.declared.needs.ModuleNeeds.{ModuleNeeds}
use Rattle.module_graph.specs.declared.needs.Need.{Need}

-- a file of a folder: its path, and its tree, unless it is refused already
pub record File : Type 0 where
  pub path : List ℕ
  pub tree : Option Block

-- whether there is no tree
abbrev pub is_refused : Option Block → Bool
is_refused None = true
is_refused (Some block) = false

-- a static require, as the graph asks for it
abbrev pub need_of : RequireSite → Need
need_of site = record { target = site.text; at = site.span }

-- the static requires of a tree
abbrev pub needs_in : (paths : List (List ℕ)) → Option Block → List Need
needs_in paths None = []
needs_in paths (Some block) = map need_of (requires_of paths block)

-- a file, as the graph sees it
abbrev pub needs_of : (paths : List (List ℕ)) → File → ModuleNeeds
needs_of paths file = record { path = file.path; refused = is_refused file.tree; needs = needs_in paths file.tree }

-- the files of a folder, as the graph sees them
abbrev pub all_needs : (paths : List (List ℕ)) → List File → List ModuleNeeds
all_needs paths files = map (needs_of paths) files
