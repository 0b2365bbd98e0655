-- What becomes of a file: it is refused, with a place and a reason, or it is checked.
use Rattle.std.specs.Prelude.{ℕ, List, Option, None, Some, Result, Ok, Err}
use Rattle.luau_tree.specs.declared.position.Pos.{Pos}
use Rattle.luau_tree.specs.Position.{pos_at}
use Rattle.luau_tree.specs.Tree.{Block}
use Rattle.luau_grammar.specs.declared.error.ParseError.{ParseError}
use Rattle.luau_parse.specs.Texts.{tree_of}
use Rattle.builtin_table.specs.Standard.{standard_paths}
use Rattle.luau_scope.specs.Refusals as profile
use Rattle.outside.specs.Contents.{File}
use Rattle.rules_certain.specs.Calls.{Written}
use Rattle.nonstrict_cli.specs.declared.reason.Reason.{Reason}
use Rattle.nonstrict_cli.specs.declared.reason.Reason.TheVariants.{FormNotBuilt, Profile}
use Rattle.nonstrict_cli.specs.Fault.{fault_offset, reason_of}
use Rattle.nonstrict_cli.specs.Folder.{module_paths, refusal_of, source, text_behind_mark}
use Rattle.nonstrict_cli.specs.Form.{calls_in}

-- what becomes of a file: it is refused at a place for a reason, or checked, as a text that is
-- these calls
pub data Fate : Type 0 where
  Refused : (at : Pos) (why : Reason) → Fate
  Checked : (text : List ℕ) (calls : List Written) → Fate

-- the first place of a file
abbrev pub first_place : Pos
first_place = record { line = 1; column = 1 }

-- what becomes of a text by the calls that it is, if it is of the built form
abbrev pub fate_by_calls : List ℕ → Option (List Written) → Fate
fate_by_calls text None = Refused first_place FormNotBuilt
fate_by_calls text (Some calls) = Checked text calls

-- what becomes of a text by what the profile refuses in its tree, if it does
abbrev pub fate_by_profile : List ℕ → Option profile.Refused → Block → Fate
fate_by_profile text (Some refused) block = Refused (pos_at text refused.1.start) (Profile refused.0)
fate_by_profile text None block = fate_by_calls text (calls_in block)

-- what becomes of a text by its tree or its first fault
abbrev pub fate_by_tree : List ℕ → Result Block ParseError → Fate
fate_by_tree text (Err fault) = Refused (pos_at text (fault_offset fault)) (reason_of fault)
fate_by_tree text (Ok block) = fate_by_profile text (profile.refusal_of standard_paths block) block

-- what becomes of a file by why it is refused for its size or its name, if it is, and else by its
-- text
abbrev pub fate_unless : Option Reason → List ℕ → Fate
fate_unless (Some why) bytes = Refused first_place why
fate_unless None bytes =
    fate_by_tree (text_behind_mark bytes) (tree_of (text_behind_mark bytes))

-- what becomes of the file at a path, with these bytes, of a folder whose modules have these paths
abbrev pub fate_of : List (List ℕ) → List ℕ → List ℕ → Fate
fate_of paths path bytes = fate_unless (refusal_of paths path bytes) bytes

-- what becomes of the module at a path of a folder
abbrev pub fate_at : List File → List ℕ → Fate
fate_at files path = fate_of (module_paths files) path (source files path)
