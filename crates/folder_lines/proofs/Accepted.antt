-- The tree of a file stands apart, and the profile refuses nothing of it.
use Rattle.std.proofs.Common.{◌≡◌, ℕ, List, [], ◌∷◌, map, refl, subst}
use Rattle.std.specs.Prelude.{Option, Some, None, Result, Ok, Err}
use Rattle.std.specs.List.{AllByRecursion}
use Rattle.luau_tree.specs.Tree.{Block}
use Rattle.luau_lex.specs.Tokens.{Tok, tokens_of}
use Rattle.luau_lex.specs.Lexed.{Lexed}
use Rattle.luau_lex.specs.declared.token.LexError.{LexError}
use Rattle.luau_grammar.specs.declared.error.ParseError.{ParseError}
use Rattle.luau_grammar.specs.Laws.{IsRead}
use Rattle.luau_grammar.specs.Modules.{IsBare, strict}
use Rattle.luau_grammar.specs.Places.{Rules}
use Rattle.luau_grammar.specs.Reading.{Outcome}
use Rattle.luau_parse.specs.Texts.{with_numbers, tree_of}
use Rattle.luau_scope.specs.Refusals as profile
use Rattle.module_reader.specs.Texts.{read_module, tree_by, tree_in}
use Rattle.tree_numbers.specs.Numbered.{numbered}
use Rattle.tree_readings.specs.Apart.{StandsApart}
use Rattle.type_decl.specs.Signatures.{Signature}
use Rattle.reading_fits.specs.OfFolder.{paths_of}
use Rattle.folder_plan.specs.Accepted.{AreAccepted, IsAcceptedTree}
use Rattle.source_files.specs.declared.file.SourceFile.{SourceFile}
use Rattle.source_files.specs.declared.reason.Reason.{Reason}
use Rattle.source_files.specs.Names.{refusal_of, text_behind_mark}
use Rattle.source_files.specs.Reading.{reading_by_profile, reading_by_tree, reading_unless}
use Rattle.folder_lines.specs.Files.{file_paths, planned_file, planned_files, tree_read}

ok_same : (o : Result Block ParseError) (x b : Block) → o ≡ Ok x → o ≡ Ok b → x ≡ b
ok_same o x b h k = cc

module _
    (apart : (rules : Rules) (text : List ℕ) (tokens : List Tok) (bare : Block) → Lexed text tokens None → IsBare rules tokens bare → StandsApart (numbered bare))
    (lexed : (text : List ℕ) (ts : List Tok) → tokens_of text ≡ Ok ts → Lexed text ts None)
    (grammatical : (text : List ℕ) (ts : List Tok) (b : Block) → IsRead text ts b → IsBare (strict text) ts b)
  where
    by_outcome : (text : List ℕ) (ts : List Tok) → Lexed text ts None → (o : Outcome Block) → read_module text ts ≡ o → (b : Block) → with_numbers (tree_in o) ≡ Ok b → StandsApart b
    by_outcome text ts h (Ok x) e b k = subst (λ (z : Block). StandsApart z) (ok_same (Ok (numbered x.0)) (numbered x.0) b refl k) (apart (strict text) text ts x.0 h (grammatical text ts x.0 (x.1, e)))
    by_outcome text ts h (Err d) e b k = absurd (cc)

    by_tokens : (text : List ℕ) (r : Result (List Tok) LexError) → tokens_of text ≡ r → (b : Block) → with_numbers (tree_by text r) ≡ Ok b → StandsApart b
    by_tokens text (Ok ts) e b k = by_outcome text ts (lexed text ts e) (read_module text ts) refl b k
    by_tokens text (Err fault) e b k = absurd (cc)

    -- the tree of a text stands apart
    text_apart : (text : List ℕ) (b : Block) → tree_of text ≡ Ok b → StandsApart b
    text_apart text b e = by_tokens text (tokens_of text) refl b e

    module _ (table : List (List ℕ × Signature)) where
      by_profile : (text : List ℕ) (b : Block) → StandsApart b → (o : Option profile.Refused) → profile.refusal_of (paths_of table) b ≡ o → IsAcceptedTree table (tree_read (reading_by_profile text o b))
      by_profile text b h (Some refused) e = tt
      by_profile text b h None e = record { apart = h; accepted = e }

      by_tree : (text : List ℕ) (r : Result Block ParseError) → tree_of text ≡ r → IsAcceptedTree table (tree_read (reading_by_tree (paths_of table) text r))
      by_tree text (Err fault) e = tt
      by_tree text (Ok b) e = by_profile text b (text_apart text b e) (profile.refusal_of (paths_of table) b) refl

      by_refusal : (o : Option Reason) (bytes : List ℕ) → IsAcceptedTree table (tree_read (reading_unless (paths_of table) o bytes))
      by_refusal (Some why) bytes = tt
      by_refusal None bytes = by_tree (text_behind_mark bytes) (tree_of (text_behind_mark bytes)) refl

      each : (paths : List (List ℕ)) (files : List SourceFile) → AllByRecursion (λ file. IsAcceptedTree table file.tree) (map (planned_file (paths_of table) paths) files)
      each paths [] = tt
      each paths (file ∷ files) = (by_refusal (refusal_of paths file.path file.text) file.text, each paths files)

      pub all_accepted : (files : List SourceFile) → AreAccepted table (planned_files (paths_of table) files)
      all_accepted files = each (file_paths files) files
