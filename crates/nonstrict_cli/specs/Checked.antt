-- The modules of a folder that are checked.
use Rattle.std.specs.Prelude.{ℕ, List, [], ◌∷◌, Option, None, Some, flat_map}
use Rattle.outside.specs.Contents.{Contents, File}
use Rattle.rules_certain.specs.Calls.{Written}
use Rattle.nonstrict_cli.specs.declared.status.Limit.{Limit}
use Rattle.nonstrict_cli.specs.Command.{command}
use Rattle.nonstrict_cli.specs.Fate.{Fate, fate_at}
use Rattle.nonstrict_cli.specs.Fate as fate
use Rattle.nonstrict_cli.specs.Folder.{limit_of, module_paths}

-- a checked module: its path, its text, and the calls that this is
pub record Module : Type 0 where
  pub path : List ℕ
  pub text : List ℕ
  pub calls : List Written

-- the module that the file at a path is by what becomes of it, if it is checked
abbrev pub modules_for : List ℕ → Fate → List Module
modules_for path (fate.Refused at why) = []
modules_for path (fate.Checked text calls) = record { path = path; text = text; calls = calls } ∷ []

-- the checked modules of a folder, in the order of their paths
abbrev pub checked_modules : List File → List Module
checked_modules files =
    flat_map (λ path. modules_for path (fate_at files path)) (module_paths files)

-- the modules that are checked of a folder by the limit that it passes, at which none is
abbrev pub checked_within : Option Limit → List File → List Module
checked_within None files = checked_modules files
checked_within (Some limit) files = []

-- the modules that are checked by the folder that the words name, if they are a command
abbrev pub checked_for : Option (List ℕ) → Contents → List Module
checked_for None contents = []
checked_for (Some folder) contents = checked_within (limit_of (contents folder)) (contents folder)

-- the modules that are checked for some words, over what the tree holds
abbrev pub checked : List (List ℕ) → Contents → List Module
checked words contents = checked_for (command words) contents
