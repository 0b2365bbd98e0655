-- A folder of texts is a folder, and what the rules report of a folder is certain.
use Rattle.std.proofs.Common.{◌≡◌, ℕ, List, [], ◌∷◌, sym, subst}
use Rattle.std.specs.Prelude.{None}
use Rattle.std.specs.List.{AllByRecursion}
use Rattle.luau_tree.specs.Tree.{Block}
use Rattle.luau_grammar.specs.Modules.{strict}
use Rattle.luau_scope.specs.Refusals.{refusal_of}
use Rattle.luau_run.specs.Certain.{Certain}
use Rattle.type_decl.specs.Signatures.{Signature}
use Rattle.report_rules.specs.Reports.{places_of_program}
use Rattle.reports_certain.proofs.Sound.{all_certain}
use Rattle.tree_readings.specs.Apart.{StandsApart}
use Rattle.tree_readings.proofs.Apart.{apart}
use Rattle.reading_fits.specs.OfFolder.{paths_of}
use Rattle.reading_fits.specs.FolderAnalysis.{TreeModule, analysis_of, rules_in, IsAccepted, IsFolder}
use Rattle.reading_fits.proofs.FolderAnalysis.{analysis_fits}
use Rattle.folder_certain.specs.OfTexts.{IsOfText, AreOfTexts, IsFolderOfTexts}

one_text : (table : List (List ℕ × Signature)) (text : List ℕ) (m : TreeModule) → IsOfText text m → refusal_of (paths_of table) m.block ≡ None → IsAccepted table m
one_text table text m t accepted = record {
  apart = subst (λ (b : Block). StandsApart b) (sym t.same) (apart (strict text) text t.tokens t.bare t.lexed t.read);
  accepted = accepted;
}

all_texts : (table : List (List ℕ × Signature)) (texts : List (List ℕ)) (modules : List TreeModule) → AreOfTexts texts modules
    → AllByRecursion (λ (m : TreeModule). refusal_of (paths_of table) m.block ≡ None) modules → AllByRecursion (IsAccepted table) modules
all_texts table [] [] trees accepted = tt
all_texts table [] (m ∷ modules) trees accepted = absurd trees
all_texts table (text ∷ texts) [] trees accepted = tt
all_texts table (text ∷ texts) (m ∷ modules) trees accepted =
    (one_text table text m trees.0 accepted.0, all_texts table texts modules trees.1 accepted.1)

pub folder_of_texts : (table : List (List ℕ × Signature)) (texts : List (List ℕ)) (modules : List TreeModule) → IsFolderOfTexts table texts modules → IsFolder table modules
folder_of_texts table texts modules f = record {
  paths = f.paths;
  homes = f.homes;
  order = f.order;
  trees = all_texts table texts modules f.trees f.accepted;
}

pub folder_certain : (table : List (List ℕ × Signature)) (modules : List TreeModule) → IsFolder table modules
    → Certain (analysis_of table modules).program (places_of_program (rules_in table modules))
folder_certain table modules folder = all_certain (analysis_of table modules) (analysis_fits table modules folder)

pub texts_certain : (table : List (List ℕ × Signature)) (texts : List (List ℕ)) (modules : List TreeModule) → IsFolderOfTexts table texts modules
    → Certain (analysis_of table modules).program (places_of_program (rules_in table modules))
texts_certain table texts modules f = folder_certain table modules (folder_of_texts table texts modules f)
