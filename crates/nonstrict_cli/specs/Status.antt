-- How a run ends.
use Rattle.std.specs.Prelude.{ℕ, List, Option, None, Some, codes}
use Rattle.nonstrict_cli.specs.declared.status.Status.{Status}
use Rattle.nonstrict_cli.specs.declared.status.Status.TheVariants.{Clean, Reports, Refused, Usage, TooLarge, ReadFault, NoMemory, WriteFault}

-- the exit status of the program
abbrev pub code_of : Status → ℕ
code_of Clean = 0
code_of Reports = 1
code_of Refused = 2
code_of Usage = 64
code_of (TooLarge limit) = 65
code_of ReadFault = 66
code_of NoMemory = 71
code_of WriteFault = 74

-- the word for standard error; a status at which the folder was checked has none
abbrev pub word_of : Status → Option (List ℕ)
word_of Clean = None
word_of Reports = None
word_of Refused = None
word_of Usage = Some (codes "usage")
word_of (TooLarge limit) = Some (codes "too large")
word_of ReadFault = Some (codes "read fault")
word_of NoMemory = Some (codes "no memory")
word_of WriteFault = Some (codes "write fault")

-- the run got to its answer: neither the folder, nor memory, nor the output failed
abbrev pub IsAnswer : Status → Type 0
IsAnswer ReadFault = ⊥
IsAnswer NoMemory = ⊥
IsAnswer WriteFault = ⊥
IsAnswer other = Unit {0}

-- nothing is written at this status
abbrev pub IsSilent : Status → Type 0
IsSilent Usage = Unit {0}
IsSilent (TooLarge limit) = Unit {0}
IsSilent ReadFault = Unit {0}
IsSilent NoMemory = Unit {0}
IsSilent other = ⊥

-- the folder was checked, and its lines are the output
abbrev pub IsChecked : Status → Type 0
IsChecked Clean = Unit {0}
IsChecked Reports = Unit {0}
IsChecked Refused = Unit {0}
IsChecked other = ⊥
