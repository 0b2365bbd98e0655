-- How a file reads.
use Rattle.std.specs.Prelude.{ℕ, List, Option, None, Some, Result, Ok, Err}
use Rattle.luau_tree.specs.declared.position.Pos.{Pos}
use Rattle.luau_tree.specs.Position.{pos_at}
use Rattle.luau_tree.specs.Tree.{Block}
use Rattle.luau_grammar.specs.declared.error.ParseError.{ParseError}
use Rattle.luau_parse.specs.Texts.{tree_of}
use Rattle.luau_scope.specs.Refusals as profile
use Rattle.source_files.specs.declared.file.SourceFile.{SourceFile}
use Rattle.source_files.specs.declared.reason.Reason.{Reason}
use Rattle.source_files.specs.declared.reason.Reason.TheVariants.{Profile}
use Rattle.source_files.specs.Fault.{fault_offset, reason_of}
use Rattle.source_files.specs.Names.{refusal_of, text_behind_mark}

-- a file is refused, at a place for a reason, or is a text with a tree
pub data Reading : Type 0 where
  Refused : (at : Pos) (why : Reason) → Reading
  Read : (text : List ℕ) (block : Block) → Reading

-- the first place of a file
abbrev pub first_place : Pos
first_place = record { line = 1; column = 1 }

-- a text with a tree, by what the profile refuses in it, if it does
abbrev pub reading_by_profile : (text : List ℕ) → Option profile.Refused → Block → Reading
reading_by_profile text (Some refused) block = Refused (pos_at text refused.1.start) (Profile refused.0)
reading_by_profile text None block = Read text block

-- a text by its tree or its first fault, over the paths of the declared builtins
abbrev pub reading_by_tree : (table : List (List ℕ)) → (text : List ℕ) → Result Block ParseError → Reading
reading_by_tree table text (Err fault) = Refused (pos_at text (fault_offset fault)) (reason_of fault)
reading_by_tree table text (Ok block) = reading_by_profile text (profile.refusal_of table block) block

-- a file by why it is refused for its size or its name, if it is, and else by its text
abbrev pub reading_unless : (table : List (List ℕ)) → Option Reason → (bytes : List ℕ) → Reading
reading_unless table (Some why) bytes = Refused first_place why
reading_unless table None bytes = reading_by_tree table (text_behind_mark bytes) (tree_of (text_behind_mark bytes))

-- how a file of a folder with these paths reads
abbrev pub reading_of : (table paths : List (List ℕ)) → SourceFile → Reading
reading_of table paths file = reading_unless table (refusal_of paths file.path file.text) file.text
