-- An analysis of a folder fits.
use Rattle.std.proofs.Common.{◌≡◌, ℕ, zero, suc, List, [], ◌∷◌, map, refl, sym, ap, ◌∙◌, subst}
use Rattle.std.specs.Prelude.{Some, None, slice_get}
use Rattle.std.specs.List.{AllByRecursion}
use Rattle.luau_scope.specs.Refusals.{refusal_of}
use Rattle.luau_run.specs.ReadModule.{ReadModule}
use Rattle.luau_run.specs.Signature.{Declared}
use Rattle.luau_run.specs.Program.{paths}
use Rattle.type_decl.specs.Signatures.{Signature}
use Rattle.type_decl.specs.Runs.{builtins_of}
use Rattle.report_rules.specs.Rules.{Rules}
use Rattle.run_frame.specs.Analysis.{Analysis}
use Rattle.run_frame.specs.Fit.{Fit, FitModule}
use Rattle.tree_readings.specs.FromTrees.{IsReadOffTree}
use Rattle.tree_readings.proofs.Declared.{folder_is_read}
use Rattle.reading_fits.specs.OfFolder.{paths_of, HasSummaries, HasOwnRules, IsOfFolder}
use Rattle.reading_fits.proofs.Modules.{module_fits}

pub same_paths : (table : List (List ℕ × Signature)) → map (λ (d : Declared). d.path) (builtins_of table) ≡ paths_of table
same_paths [] = refl
same_paths (entry ∷ table) = ap (λ (ps : List (List ℕ)). entry.0 ∷ ps) (same_paths table)

at_place : (P : ReadModule → Type 0) (readings : List ReadModule) (m : ℕ) (reading : ReadModule) → AllByRecursion P readings → slice_get readings m ≡ Some reading → P reading
at_place P [] m reading all e = cc
at_place P (r ∷ readings) zero reading all e = subst P (let z : r ≡ reading = cc in z) all.0
at_place P (r ∷ readings) (suc m) reading all e = at_place P readings m reading all.1 e

module_here : (table : List (List ℕ × Signature)) (an : Analysis) → IsOfFolder table an → (m : ℕ) (reading : ReadModule) → slice_get an.program.modules m ≡ Some reading → FitModule an m reading
module_here table an whole m reading e =
    let h : HasOwnRules table an m reading = whole.modules m reading e in
    let r : IsReadOffTree an.program reading = at_place (IsReadOffTree an.program) an.program.modules m reading whole.folder.readings e in
    let declared : paths an.program ≡ paths_of table = ap (map (λ (d : Declared). d.path)) whole.builtins ∙ same_paths table in
    subst (λ (x : ReadModule). FitModule an m x) (sym (h.same ∙ ap (λ (rules : Rules). rules.reading) h.rules))
    (module_fits an m reading.home reading.block h.leads table h.import whole.builtins h.rules r.apart
    (subst (λ (ps : List (List ℕ)). refusal_of ps reading.block ≡ None) declared r.accepted)
    (subst (λ (rules : Rules). HasSummaries an rules) h.rules h.imports) h.gives)

pub folder_fits : (table : List (List ℕ × Signature)) (an : Analysis) → IsOfFolder table an → Fit an
folder_fits table an whole = record { folder = folder_is_read an.program whole.folder; modules = module_here table an whole; found = whole.found }
