use Rattle.std.proofs.Common.{◌≡◌, map, None, string_bytes, drop}
use Rattle.command_words.specs.Given.{nothing, reading_of}
use Rattle.command_words.proofs.AllRead.{read_from}
use Rattle.command_words.proofs.reading.read.Given as goal

-- what the words give by what is left of them
abbrev pub invariant-loop-word : goal.invariant-loop-word
invariant-loop-word l =
    read_from (reading_of l.reading) (map string_bytes (drop l.word-index l.words)) ≡ read_from (record { given = nothing; waiting = None }) (map string_bytes l.words)
