-- Words of the laws: what the program's parser reads, and how many lists of declarations a list of tokens is.
use Rattle.std.specs.Prelude.{◌≡◌, ℕ, List, Ok}
use Rattle.luau_lex.specs.Tokens.{Tok}
use Rattle.luau_grammar.specs.Places.{Place, Rules}
use Rattle.luau_grammar.specs.Modules.{before}
use Rattle.luau_grammar.specs.Reading.{strictly}
use Rattle.luau_grammar.specs.ReadModules.{max_depth}
use Rattle.decl_grammar.specs.Declarations.{Declaration}
use Rattle.decl_grammar.specs.Files.{IsFile}
use Rattle.decl_grammar.specs.ReadFiles.{file_with}

-- the program's parser reads these declarations from the tokens of a text
abbrev pub IsRead : List ℕ → List Tok → List Declaration → Type 0
IsRead text ts ds = (q : Place) × (file_with (strictly text) max_depth (before ts) ≡ Ok (ds, q))

-- a list of tokens is at most one list of declarations
abbrev pub IsOneFileAtMost : Rules → List Tok → Type 0
IsOneFileAtMost rules ts = (ds es : List Declaration) → IsFile rules ts ds → IsFile rules ts es → ds ≡ es
