-- What a run asks a tree.
use Rattle.std.specs.Prelude.{◌+◌, ℕ, List, [], ◌∷◌, Option, None, Some, length, map, nat_lt, if◌then◌else◌}
use Rattle.outside.specs.declared.question.Question.{Question}
use Rattle.outside.specs.declared.question.Question.TheVariants as question
use Rattle.outside.specs.Contents.{Contents, File}
use Rattle.nonstrict_cli.specs.declared.limits.TheConstants.{MAX_FILES, MAX_READ, MAX_TOTAL}
use Rattle.nonstrict_cli.specs.Command.{command}
use Rattle.nonstrict_cli.specs.Folder.{module_paths, size_read}

-- of these paths of a folder those that are read, in their order, where so many bytes were read
-- before: all of them, or up to and including the first with which the sum of what is read passes
-- the limit on bytes
abbrev pub read_after : ℕ → List File → List (List ℕ) → List (List ℕ)
read_after before files [] = []
read_after before files (path ∷ paths) =
    let sum = before + size_read files path in
    path ∷ (if nat_lt MAX_TOTAL sum then [] else read_after sum files paths)

-- the paths of the modules that are read of a folder, in order: none where there are more than the
-- limit on files
abbrev pub paths_read : List File → List (List ℕ)
paths_read files =
    if nat_lt MAX_FILES (length (module_paths files)) then []
    else read_after 0 files (module_paths files)

-- the question by which a module of a folder is read: its first 1,048,577 bytes
abbrev pub reading_of : List ℕ → List ℕ → Question
reading_of folder path = question.Read folder path MAX_READ

-- what is asked by the folder that the words name, if they are a command: first which files it has,
-- and then each module that is read
abbrev pub asked_for : Option (List ℕ) → Contents → List Question
asked_for None contents = []
asked_for (Some folder) contents =
    question.List folder ∷ map (reading_of folder) (paths_read (contents folder))

-- what is asked for some words, over what the tree holds
abbrev pub asked : List (List ℕ) → Contents → List Question
asked words contents = asked_for (command words) contents
