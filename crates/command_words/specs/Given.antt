-- What words give as they are read one after another, and what borrowed texts stand for.
use Rattle.std.specs.Prelude.{ℕ, List, [], ◌∷◌, Option, None, Some, option_copied, option_and_then, option_map}
use Rattle.command_words.specs.declared.name.Name.{Name}
use Rattle.command_words.specs.declared.name.Name.TheVariants.{Workers, Format as LineFormat, Decl}
use Rattle.command_words.specs.declared.options.Options.{Options}
use Rattle.command_words.specs.declared.options.Source.{Source}
use Rattle.command_words.specs.declared.options.Source.TheVariants as sources
use Rattle.command_words.specs.declared.part.Part.{Part}
use Rattle.command_words.specs.declared.part.Part.TheVariants as parts
use Rattle.command_words.specs.declared.reading.Given.{Given}
use Rattle.command_words.specs.declared.reading.Reading.{Reading}
use Rattle.command_words.specs.Command as plain
use Rattle.command_words.specs.Command.{given, option_of, part, together, workers_of}

-- what is checked, without where the words lie
abbrev pub source_of : Source → plain.Source
source_of (sources.Folder folder) = plain.Folder folder.now
source_of (sources.Sample number) = plain.Sample number

-- what a command says, without where the words lie
abbrev pub options_of : Options → plain.Options
options_of options = record {
  workers = options.workers;
  format = options.format;
  decl = option_copied options.decl;
  source = source_of options.source;
}

-- a part of a command, without where the words lie
abbrev pub part_of : Part → plain.Part
part_of (parts.Given name value) = plain.Given name value.now
part_of (parts.Alone word) = plain.Alone word.now

-- the values of options and the word that stands alone, as far as they were given
pub record Texts : Type 0 where
  pub workers : Option (List ℕ)
  pub format : Option (List ℕ)
  pub decl : Option (List ℕ)
  pub alone : Option (List ℕ)

-- nothing is given
abbrev pub nothing : Texts
nothing = record { workers = None; format = None; decl = None; alone = None }

-- what is given, without where the words lie
abbrev pub given_of : Given → Texts
given_of g = record {
  workers = option_copied g.workers;
  format = option_copied g.format;
  decl = option_copied g.decl;
  alone = option_copied g.alone;
}

-- a text where there was none so far
abbrev pub put : Option (List ℕ) → List ℕ → Option (Option (List ℕ))
put None text = Some (Some text)
put (Some before) text = None

-- what is given once a part is there too, if it wasn't given yet
abbrev pub with_part : Texts → plain.Part → Option Texts
with_part g (plain.Given Workers value) = option_map (λ o. record g { workers = o }) (put g.workers value)
with_part g (plain.Given LineFormat value) = option_map (λ o. record g { format = o }) (put g.format value)
with_part g (plain.Given Decl value) = option_map (λ o. record g { decl = o }) (put g.decl value)
with_part g (plain.Alone word) = option_map (λ o. record g { alone = o }) (put g.alone word)

-- what is given once some parts are there too
abbrev pub gathered : Texts → List plain.Part → Option Texts
gathered g [] = Some g
gathered g (first ∷ rest) = option_and_then (λ next. gathered next rest) (with_part g first)

-- what is said by what is given
abbrev pub said_by : Texts → Option plain.Options
said_by g = together (workers_of g.workers) (plain.format_of g.format) (Some g.decl) (plain.source_of g.alone)

-- what the words so far give, and the option whose value comes next
pub record State : Type 0 where
  pub given : Texts
  pub waiting : Option Name

-- a reading, without where the words lie
abbrev pub reading_of : Reading → State
reading_of r = record { given = given_of r.given; waiting = r.waiting }

-- the next part is there
abbrev pub with_next : Texts → Option plain.Part → Option State
with_next g next = option_map (λ all. record { given = all; waiting = None }) (option_and_then (with_part g) next)

-- the reading after one more word, which may name an option
abbrev pub step_by : Texts → Option Name → Option Name → List ℕ → Option State
step_by g (Some name) named word = with_next g (given (Some name) word)
step_by g None None word = with_next g (part word)
step_by g None (Some name) word = Some (record { given = g; waiting = Some name })

abbrev pub step : State → List ℕ → Option State
step s word = step_by s.given s.waiting (option_of word) word
