-- Folders whose trees are those of texts.
use Rattle.std.specs.Prelude.{◌≡◌, ⊤, ℕ, true, List, [], ◌∷◌, map, None}
use Rattle.std.specs.List.{AllByRecursion}
use Rattle.luau_tree.specs.Tree.{Block}
use Rattle.luau_lex.specs.Tokens.{Tok}
use Rattle.luau_lex.specs.Lexed.{Lexed}
use Rattle.luau_grammar.specs.Modules.{IsBare, strict}
use Rattle.tree_numbers.specs.Numbered.{numbered}
use Rattle.luau_scope.specs.Refusals.{refusal_of}
use Rattle.luau_run.specs.ReadFolder.{are_distinct}
use Rattle.type_decl.specs.Signatures.{Signature}
use Rattle.report_rules.specs.Program.{RequireEarlier}
use Rattle.tree_readings.specs.Paths.{are_paths}
use Rattle.reading_fits.specs.OfFolder.{paths_of}
use Rattle.reading_fits.specs.FolderAnalysis.{TreeModule, rules_alone}

-- the tree of a module is that of a text, by the grammar of the program, with its numbers
pub record IsOfText (text : List ℕ) (m : TreeModule) : Type 0 where
  pub tokens : List Tok
  pub bare : Block
  pub lexed : Lexed text tokens None
  pub read : IsBare (strict text) tokens bare
  pub same : m.block ≡ numbered bare

-- each module of a list is that of the text at the same position
abbrev pub AreOfTexts : List (List ℕ) → List TreeModule → Type 0
AreOfTexts [] [] = ⊤
AreOfTexts (text ∷ texts) (m ∷ modules) = IsOfText text m × AreOfTexts texts modules
AreOfTexts _ _ = ⊥

-- some texts make a folder, with these modules: homes are distinct and not 0, each module requires earlier ones alone, and the
-- profile refuses nothing; and what is declared are paths
pub record IsFolderOfTexts (table : List (List ℕ × Signature)) (texts : List (List ℕ)) (modules : List TreeModule) : Type 0 where
  pub paths : are_paths (paths_of table) ≡ true
  pub trees : AreOfTexts texts modules
  pub homes : are_distinct (0 ∷ map (λ m. m.home) modules) ≡ true
  pub order : RequireEarlier 0 (map (rules_alone table) modules)
  pub accepted : AllByRecursion (λ m. refusal_of (paths_of table) m.block ≡ None) modules
