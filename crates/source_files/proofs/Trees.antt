-- The tree of a file that is read.
use Rattle.std.proofs.Common.{◌≡◌, ◌≤◌, ℕ, Bool, true, false, if◌then◌else◌, List, [], ◌∷◌, drop, length, refl, ap, sym, ◌∙◌, subst, arith, length-drop}
use Rattle.std.specs.Prelude.{Option, Some, None, Result, Ok, Err, nat_eq, nat_lt}
use Rattle.std.specs.List.{list_any, starts_with}
use Rattle.std.specs.Str.{bytes_eq}
use Rattle.std.proofs.lemmas.Bool.{ltb-false}
use Rattle.luau_tree.specs.Tree.{Block}
use Rattle.luau_tree.specs.declared.position.TheConstants.{MAX_TEXT}
use Rattle.luau_grammar.specs.declared.error.ParseError.{ParseError}
use Rattle.luau_parse.specs.Texts.{tree_of}
use Rattle.luau_scope.specs.Refusals as profile
use Rattle.source_files.specs.declared.file.SourceFile.{SourceFile}
use Rattle.source_files.specs.declared.reason.Reason.{Reason}
use Rattle.source_files.specs.declared.reason.Reason.TheVariants.{FileTooLarge, DirectoryModule, RepeatedName}
use Rattle.source_files.specs.Names.{is_init, refusal_of, text_behind_mark, twin_of}
use Rattle.source_files.specs.Reading.{Read, reading_by_profile, reading_by_tree, reading_of, reading_unless}

-- a text that isn't refused, by its tree
pub record IsTree (table : List (List ℕ)) (behind text : List ℕ) (block : Block) : Type 0 where
  pub same : text ≡ behind
  pub tree : tree_of behind ≡ Ok block
  pub accepted : profile.refusal_of table block ≡ None

same_text : (a b : List ℕ) (x y : Block) → Read a x ≡ Read b y → a ≡ b
same_text a b x y e = cc

same_block : (a b : List ℕ) (x y : Block) → Read a x ≡ Read b y → x ≡ y
same_block a b x y e = cc

by_profile : (table : List (List ℕ)) (behind : List ℕ) (b : Block) → tree_of behind ≡ Ok b → (o : Option profile.Refused) → profile.refusal_of table b ≡ o → (text : List ℕ) (block : Block)
    → reading_by_profile behind o b ≡ Read text block → IsTree table behind text block
by_profile table behind b t (Some refused) r text block e = absurd (cc)
by_profile table behind b t None r text block e =
    let same = same_block behind text b block e in
    record { same = sym (same_text behind text b block e); tree = t ∙ ap (λ (x : Block). Ok x) same; accepted = ap (profile.refusal_of table) (sym same) ∙ r }

by_tree : (table : List (List ℕ)) (behind : List ℕ) (o : Result Block ParseError) → tree_of behind ≡ o → (text : List ℕ) (block : Block)
    → reading_by_tree table behind o ≡ Read text block → IsTree table behind text block
by_tree table behind (Err fault) t text block e = absurd (cc)
by_tree table behind (Ok b) t text block e = by_profile table behind b t (profile.refusal_of table b) refl text block e

by_refusal : (table : List (List ℕ)) (o : Option Reason) (bytes text : List ℕ) (block : Block) → reading_unless table o bytes ≡ Read text block → (o ≡ None) × IsTree table (text_behind_mark bytes) text block
by_refusal table (Some why) bytes text block e = absurd (cc)
by_refusal table None bytes text block e = (refl, by_tree table (text_behind_mark bytes) (tree_of (text_behind_mark bytes)) refl text block e)

-- a file that isn't refused for its size isn't too long
not_long : (paths : List (List ℕ)) (path bytes : List ℕ) → refusal_of paths path bytes ≡ None → length bytes ≤ MAX_TEXT
not_long paths path bytes e = by_size (nat_lt MAX_TEXT (length bytes)) refl e
  where
    by_size : (b : Bool) → nat_lt MAX_TEXT (length bytes) ≡ b
        → (if b then Some FileTooLarge else if is_init path then Some DirectoryModule else if list_any (λ other. bytes_eq other (twin_of path)) paths then Some RepeatedName else None) ≡ None
        → length bytes ≤ MAX_TEXT
    by_size true is e = absurd (cc)
    by_size false is e = ltb-false MAX_TEXT (length bytes) is

shorter : (bytes : List ℕ) → length (text_behind_mark bytes) ≤ length bytes
shorter bytes = by_mark (starts_with nat_eq bytes (239 ∷ 187 ∷ 191 ∷ []))
  where
    by_mark : (b : Bool) → length (if b then drop 3 bytes else bytes) ≤ length bytes
    by_mark true = omega (arith, length-drop 3 bytes)
    by_mark false = omega arith

module _ (table paths : List (List ℕ)) (file : SourceFile) (text : List ℕ) (block : Block) (e : reading_of table paths file ≡ Read text block) where
  pub tree_read : IsTree table (text_behind_mark file.text) text block
  tree_read = (by_refusal table (refusal_of paths file.path file.text) file.text text block e).1

  pub text_short : length text ≤ MAX_TEXT
  text_short =
      let long = not_long paths file.path file.text (by_refusal table (refusal_of paths file.path file.text) file.text text block e).0 in
      let less = shorter file.text in
      subst (λ (t : List ℕ). length t ≤ MAX_TEXT) (sym tree_read.same) (omega (arith, long, less))
