-- Which words are a command, and what it says.
use Rattle.std.specs.Prelude.{◌&&◌, ◌==◌, ℕ, Bool, false, not, List, [], ◌∷◌, Option, None, Some, drop, flat_map, nat_eq, nat_le, codes, option_map, option_and_then, if◌then◌else◌}
use Rattle.std.specs.Char.{is_ascii_digit}
use Rattle.std.specs.List.{starts_with, before_first, after_first}
use Rattle.std.specs.Str.{bytes_eq, all_ascii_digits}
use Rattle.std.specs.Str.Parse.{digits_value}
use Rattle.command_words.specs.declared.options.Format.{Format}
use Rattle.command_words.specs.declared.options.Format.TheVariants.{Text, Json}
use Rattle.command_words.specs.declared.name.Name.{Name}
use Rattle.command_words.specs.declared.name.Name.TheVariants.{Workers, Format as LineFormat, Decl}

-- what is checked: a folder, or the sample of so many modules
pub data Source : Type 0 where
  Folder : List ℕ → Source
  Sample : ℕ → Source

-- what a command says
pub record Options : Type 0 where
  pub workers : ℕ
  pub format : Format
  pub decl : Option (List ℕ)
  pub source : Source

-- a part of a command: an option with its value, or a word that stands alone
pub data Part : Type 0 where
  Given : Name → List ℕ → Part
  Alone : List ℕ → Part

-- the option that a text names
abbrev pub option_of : List ℕ → Option Name
option_of text =
    if bytes_eq text (codes "--workers") then Some Workers
    else if bytes_eq text (codes "--format") then Some LineFormat
    else if bytes_eq text (codes "--decl") then Some Decl
    else None

-- whether a text can be a value, or a word that stands alone: it isn't empty and doesn't begin with `-` (45)
abbrev pub is_plain : List ℕ → Bool
is_plain [] = false
is_plain (first ∷ rest) = not (first == 45)

-- an option with its value, if the one is an option and the other can be a value
abbrev pub given : Option Name → List ℕ → Option Part
given None value = None
given (Some name) value = if is_plain value then Some (Given name value) else None

-- the option and its value around the first `=` (61) of a word; without one the value is empty
abbrev pub attached : List ℕ → Option Part
attached word = given (option_of (before_first (λ byte. byte == 61) word)) (after_first (λ byte. byte == 61) word)

-- the part that one word is: it stands alone, or is an option with its value
abbrev pub part : List ℕ → Option Part
part word = if is_plain word then Some (Alone word) else attached word

-- a part and the parts behind it, if these are parts
abbrev pub followed : Option Part → Option (List Part) → Option (List Part)
followed (Some first) (Some rest) = Some (first ∷ rest)
followed _ _ = None

-- the parts of a word that may be an option's name, of the word behind it, which is that option's value, and of the rest
abbrev pub parts_by : Option Name → List ℕ → List ℕ → Option (List Part) → Option (List Part) → Option (List Part)
parts_by None word next behind_word behind_next = followed (part word) behind_word
parts_by (Some name) word next behind_word behind_next = followed (given (Some name) next) behind_next

-- the parts that words are
abbrev pub parts : List (List ℕ) → Option (List Part)
parts [] = Some []
parts (word ∷ []) = followed (part word) (Some [])
parts (word ∷ next ∷ rest) = parts_by (option_of word) word next (parts (next ∷ rest)) (parts rest)

-- the values that a part gives to each option, and the word that stands alone
abbrev pub workers_in : Part → List (List ℕ)
workers_in (Given Workers value) = value ∷ []
workers_in _ = []

abbrev pub format_in : Part → List (List ℕ)
format_in (Given LineFormat value) = value ∷ []
format_in _ = []

abbrev pub decl_in : Part → List (List ℕ)
decl_in (Given Decl value) = value ∷ []
decl_in _ = []

abbrev pub alone_in : Part → List (List ℕ)
alone_in (Alone word) = word ∷ []
alone_in _ = []

-- what there is at most one of
abbrev pub at_most_one : {X : Type 0} → List X → Option (Option X)
at_most_one [] = Some None
at_most_one (x ∷ []) = Some (Some x)
at_most_one _ = None

-- whether a text is a number in decimal digits without a leading zero, so that it is at least 1
abbrev pub is_number : List ℕ → Bool
is_number [] = false
is_number (first ∷ rest) = is_ascii_digit first && not (first == 48) && all_ascii_digits rest

-- the number that a text is, if it is at most so great
abbrev pub number_up_to : ℕ → List ℕ → Option ℕ
number_up_to most text = if is_number text && nat_le (digits_value 10 text) most then Some (digits_value 10 text) else None

-- how many workers there are: 4 where it isn't said
abbrev pub workers_of : Option (List ℕ) → Option ℕ
workers_of None = Some 4
workers_of (Some value) = number_up_to 64 value

-- how lines are written: as text where it isn't said
abbrev pub format_of : Option (List ℕ) → Option Format
format_of None = Some Text
format_of (Some value) =
    if bytes_eq value (codes "text") then Some Text
    else if bytes_eq value (codes "json") then Some Json
    else None

-- what is checked, by the one word that stands alone
abbrev pub source_of : Option (List ℕ) → Option Source
source_of None = None
source_of (Some word) =
    if starts_with nat_eq word (codes "sample:") then option_map Sample (number_up_to 10000 (drop 7 word))
    else Some (Folder word)

-- what a command says, if each of its parts says something
abbrev pub together : Option ℕ → Option Format → Option (Option (List ℕ)) → Option Source → Option Options
together (Some workers) (Some format) (Some decl) (Some source) =
    Some (record { workers = workers; format = format; decl = decl; source = source })
together _ _ _ _ = None

-- what parts say: each option is there at most once, and exactly one word stands alone
abbrev pub said : List Part → Option Options
said all = together
    (option_and_then workers_of (at_most_one (flat_map workers_in all)))
    (option_and_then format_of (at_most_one (flat_map format_in all)))
    (at_most_one (flat_map decl_in all))
    (option_and_then source_of (at_most_one (flat_map alone_in all)))

-- what words say, if they are a command
abbrev pub command : List (List ℕ) → Option Options
command words = option_and_then said (parts words)
