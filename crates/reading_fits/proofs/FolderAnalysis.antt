-- The analysis of a folder fits.
use Rattle.std.proofs.Common.{◌≡◌, ◌<◌, ℕ, zero, suc, ◌+◌, List, [], ◌∷◌, ◌++◌, map, length, Contains, refl, sym, ap, ◌∙◌, subst, arith}
use Rattle.std.specs.Prelude.{◌↔◌, Option, Some, None, slice_get}
use Rattle.std.specs.Option.{option_map_or}
use Rattle.std.specs.List.{AllByRecursion}
use Rattle.luau_tree.specs.declared.names.Place.{Place}
use Rattle.luau_tree.specs.Tree.{no_stats}
use Rattle.luau_scope.specs.Refusals.{refusal_of}
use Rattle.luau_run.specs.ReadModule.{ReadModule}
use Rattle.luau_run.specs.Program.{Program, paths}
use Rattle.luau_run.specs.ReadFolder.{are_distinct, Requires, Leads}
use Rattle.annotations.specs.Annotated.{annotated}
use Rattle.type_arena.specs.Term.{Term}
use Rattle.type_decl.specs.Signatures.{Signature}
use Rattle.report_rules.specs.Rules.{Rules}
use Rattle.report_rules.specs.After.{summary}
use Rattle.report_rules.specs.Reports.{places_from, findings}
use Rattle.report_rules.specs.Program.{HasSummaries, AllHaveSummaries, summary_of, importing, linked_after, RequireEarlier}
use Rattle.report_rules.proofs.LinkedFacts.{linked_is_linked}
use Rattle.run_frame.specs.Fit.{IsFound, Fit}
use Rattle.tree_readings.specs.Paths.{are_paths}
use Rattle.module_reading.specs.Readings.{reading_of}
use Rattle.tree_readings.specs.FromTrees.{IsReadOffTree, IsFolderOfTrees}
use Rattle.reading_fits.specs.OfFolder.{paths_of, rules_over, HasOwnRules, IsOfFolder}
use Rattle.reading_fits.specs.OfFolder as own
use Rattle.reading_fits.specs.FolderAnalysis.{TreeModule, rules_alone, rules_in, rules_at, analysis_of, IsAccepted, IsFolder}
use Rattle.reading_fits.proofs.Folders.{same_paths, folder_fits}
use Rattle.reading_fits.proofs.ReportedPlaces.{IsFoundIn, places_found, places_there}

abbrev Table : Type 0
Table = List (List ℕ × Signature)

abbrev readings_of : List Rules → List ReadModule
readings_of rules = map (λ (r : Rules). r.reading) rules

-- ---- the rules at a position

record IsOwn (table : Table) (modules : List TreeModule) (m : ℕ) (r : Rules) : Type 0 where
  tree : TreeModule
  there : slice_get modules m ≡ Some tree
  import : ℕ → Term
  same : r ≡ rules_over table tree.home tree.block tree.leads import

own_rules : (table : Table) (before : List Rules) (modules : List TreeModule) (m : ℕ) (r : Rules) → slice_get (linked_after before (map (rules_alone table) modules)) m ≡ Some r → IsOwn table modules m r
own_rules table before [] m r e = cc
own_rules table before (t ∷ modules) zero r e =
    record { tree = t; there = refl; import = (importing before (rules_alone table t)).import; same = (let z : importing before (rules_alone table t) ≡ r = cc in sym z) }
own_rules table before (t ∷ modules) (suc m) r e =
    let h = own_rules table (before ++ importing before (rules_alone table t) ∷ []) modules m r e in
    record { tree = h.tree; there = h.there; import = h.import; same = h.same }

record IsReadAt (rules : List Rules) (m : ℕ) (reading : ReadModule) : Type 0 where
  here : Rules
  there : slice_get rules m ≡ Some here
  same : reading ≡ here.reading

read_at : (rules : List Rules) (m : ℕ) (reading : ReadModule) → slice_get (readings_of rules) m ≡ Some reading → IsReadAt rules m reading
read_at [] m reading e = cc
read_at (r ∷ rules) zero reading e = record { here = r; there = refl; same = (let z : r.reading ≡ reading = cc in sym z) }
read_at (r ∷ rules) (suc m) reading e = let h = read_at rules m reading e in record { here = h.here; there = h.there; same = h.same }

reading_there : (rules : List Rules) (m : ℕ) (r : Rules) → slice_get rules m ≡ Some r → slice_get (readings_of rules) m ≡ Some r.reading
reading_there [] m r e = cc
reading_there (s ∷ rules) zero r e = ap (λ (x : Rules). Some x.reading) (let z : s ≡ r = cc in z)
reading_there (s ∷ rules) (suc m) r e = reading_there rules m r e

rules_here : (table : Table) (rules : List Rules) (m : ℕ) (r : Rules) → slice_get rules m ≡ Some r → rules_at table rules m ≡ r
rules_here table rules m r e = ap (λ (o : Option Rules). option_map_or (λ (found : Rules). found) o (rules_alone table (record { home = 0; block = no_stats; leads = λ way. None }))) e

-- ---- what requires give

summaries_at : (program modules : List Rules) (m : ℕ) (r : Rules) → AllHaveSummaries program modules → slice_get modules m ≡ Some r → HasSummaries program r
summaries_at program [] m r all e = cc
summaries_at program (s ∷ modules) zero r all e = subst (λ (x : Rules). HasSummaries program x) (let z : s ≡ r = cc in z) all.0
summaries_at program (s ∷ modules) (suc m) r all e = summaries_at program modules m r all.1 e

imports_of : (table : Table) (modules : List TreeModule) (m : ℕ) (r : Rules) → IsFolder table modules → slice_get (rules_in table modules) m ≡ Some r → own.HasSummaries (analysis_of table modules) r
imports_of table modules m r folder e id other q =
    let h = summaries_at (rules_in table modules) (rules_in table modules) m r (linked_is_linked (map (rules_alone table) modules) folder.order) e id other q in
    h.2 ∙ sym (ap summary_of h.1)

has_own : (table : Table) (modules : List TreeModule) (m : ℕ) (reading : ReadModule) → IsFolder table modules → slice_get (readings_of (rules_in table modules)) m ≡ Some reading
    → HasOwnRules table (analysis_of table modules) m reading
has_own table modules m reading folder e =
    let h = read_at (rules_in table modules) m reading e in
    let o = own_rules table [] modules m h.here h.there in
    let here : rules_at table (rules_in table modules) m ≡ h.here = rules_here table (rules_in table modules) m h.here h.there in
    let read : reading ≡ (rules_over table o.tree.home o.tree.block o.tree.leads o.import).reading = h.same ∙ ap (λ (x : Rules). x.reading) o.same in
    record {
      leads = o.tree.leads;
      import = o.import;
      rules = here ∙ o.same ∙ sym (ap (λ (x : ReadModule). rules_over table x.home x.block o.tree.leads o.import) read);
      same = h.same ∙ sym (ap (λ (x : Rules). x.reading) here);
      imports = subst (λ (x : Rules). own.HasSummaries (analysis_of table modules) x) (sym here) (imports_of table modules m h.here folder h.there);
      gives = ap summary_of h.there ∙ sym (ap summary here);
    }

-- ---- requires lead to earlier modules

earlier : (table : Table) (modules : List TreeModule) (from m : ℕ) (t : TreeModule) (id other : ℕ) → RequireEarlier from (map (rules_alone table) modules) → slice_get modules m ≡ Some t
    → (rules_alone table t).reading.required id ≡ Some other → (other < from + m) × (m < length modules)
earlier table [] from m t id other order e q = cc
earlier table (s ∷ modules) from zero t id other order e q =
    let z : s ≡ t = cc in
    let l : other < from = order.0 id other (subst (λ (x : TreeModule). (rules_alone table x).reading.required id ≡ Some other) (sym z) q) in
    (omega arith, omega arith)
earlier table (s ∷ modules) from (suc m) t id other order e q =
    let h = earlier table modules (suc from) m t id other order.1 e q in
    let l : other < suc from + m = h.0 in
    let k : m < length modules = h.1 in
    (omega arith, omega arith)

as_many : (table : Table) (before : List Rules) (modules : List TreeModule) → length (readings_of (linked_after before (map (rules_alone table) modules))) ≡ length modules
as_many table before [] = refl
as_many table before (t ∷ modules) = ap suc (as_many table (before ++ importing before (rules_alone table t) ∷ []) modules)

require_earlier : (table : Table) (modules : List TreeModule) (m other : ℕ) → IsFolder table modules → Requires (analysis_of table modules).program m other → (other < m) × (m < length modules)
require_earlier table modules m other folder r =
    let h = read_at (rules_in table modules) m r.0 r.2 in
    let o = own_rules table [] modules m h.here h.there in
    let q : (rules_alone table o.tree).reading.required r.1 ≡ Some other =
    subst (λ (x : ReadModule). x.required r.1 ≡ Some other) (h.same ∙ ap (λ (x : Rules). x.reading) o.same) r.3 in
    let k = earlier table modules 0 m o.tree r.1 other folder.order o.there q in
    let l : other < 0 + m = k.0 in
    (omega arith, k.1)

lead_earlier : (table : Table) (modules : List TreeModule) (more m other : ℕ) → IsFolder table modules → Leads (analysis_of table modules).program more m other → other < m
lead_earlier table modules zero m other folder r = (require_earlier table modules m other folder r).0
lead_earlier table modules (suc more) m other folder r =
    let l : r.0 < m = (require_earlier table modules m r.0 folder r.1).0 in
    let k : other < r.0 = lead_earlier table modules more r.0 other folder r.2 in
    omega arith

-- ---- the folder

same_homes : (table : Table) (before : List Rules) (modules : List TreeModule) → map (λ (x : ReadModule). x.home) (readings_of (linked_after before (map (rules_alone table) modules))) ≡ map (λ (t : TreeModule). t.home) modules
same_homes table before [] = refl
same_homes table before (t ∷ modules) = ap (λ (ns : List ℕ). t.home ∷ ns) (same_homes table (before ++ importing before (rules_alone table t) ∷ []) modules)

one_tree : (table : Table) (program : Program) (t : TreeModule) → paths program ≡ paths_of table → IsAccepted table t → IsReadOffTree program (rules_alone table t).reading
one_tree table program t e a = record {
  leads = t.leads;
  same = ap (λ (ps : List (List ℕ)). reading_of ps t.home t.block (annotated t.block) t.leads) (sym e);
  apart = a.apart;
  accepted = subst (λ (ps : List (List ℕ)). refusal_of ps t.block ≡ None) (sym e) a.accepted;
}

all_trees : (table : Table) (program : Program) (before : List Rules) (modules : List TreeModule) → paths program ≡ paths_of table → AllByRecursion (IsAccepted table) modules
    → AllByRecursion (IsReadOffTree program) (readings_of (linked_after before (map (rules_alone table) modules)))
all_trees table program before [] e all = tt
all_trees table program before (t ∷ modules) e all =
    (one_tree table program t e all.0, all_trees table program (before ++ importing before (rules_alone table t) ∷ []) modules e all.1)

of_trees : (table : Table) (modules : List TreeModule) → IsFolder table modules → IsFolderOfTrees (analysis_of table modules).program
of_trees table modules folder = record {
  paths = ap are_paths (same_paths table) ∙ folder.paths;
  homes = ap (λ (ns : List ℕ). are_distinct (0 ∷ ns)) (same_homes table [] modules) ∙ folder.homes;
  listed = listed;
  no_cycle = λ more m r. let l : m < m = lead_earlier table modules more m m folder r in omega arith;
  readings = all_trees table (analysis_of table modules).program [] modules (same_paths table) folder.trees;
}
  where
    listed : (m other : ℕ) → Requires (analysis_of table modules).program m other → other < length (analysis_of table modules).program.modules
    listed m other r =
        let h = require_earlier table modules m other folder r in
        let l : other < m = h.0 in
        let k : m < length modules = h.1 in
        let e : length (readings_of (rules_in table modules)) ≡ length modules = as_many table [] modules in
        omega arith

-- ---- what is reported

reported : (table : Table) (modules : List TreeModule) (m : ℕ) (p : Place)
    → Contains (analysis_of table modules).reports (m, p) ↔ ((reading : ReadModule) × (slice_get (analysis_of table modules).program.modules m ≡ Some reading) × IsFound (analysis_of table modules) m p)
reported table modules m p = (to, from)
  where
    rules : List Rules
    rules = rules_in table modules

    to : Contains (places_from 0 rules) (m, p) → (reading : ReadModule) × (slice_get (readings_of rules) m ≡ Some reading) × IsFound (analysis_of table modules) m p
    to c =
        let h : IsFoundIn rules 0 m p = places_found rules 0 m p c in
        let here : m ≡ h.position = h.here ∙ omega arith in
        let got : slice_get rules m ≡ Some h.there = ap (slice_get rules) here ∙ h.got in
        let f = h.finds in (
          h.there.reading,
          reading_there rules m h.there got,
          (f.0, subst (λ (x : Rules). Contains (findings x) f.0) (sym (rules_here table rules m h.there got)) f.1, f.2, f.3),
        )

    from : (reading : ReadModule) × (slice_get (readings_of rules) m ≡ Some reading) × IsFound (analysis_of table modules) m p → Contains (places_from 0 rules) (m, p)
    from (reading, e, f) =
        let h = read_at rules m reading e in
        let c : Contains (places_from 0 rules) (0 + m, p) =
        places_there rules 0 m p h.here h.there (f.0, subst (λ (x : Rules). Contains (findings x) f.0) (rules_here table rules m h.here h.there) f.1, f.2, f.3) in
        subst (λ (n : ℕ). Contains (places_from 0 rules) (n, p)) (omega arith) c

of_folder : (table : Table) (modules : List TreeModule) → IsFolder table modules → IsOfFolder table (analysis_of table modules)
of_folder table modules folder = record {
  builtins = refl;
  folder = of_trees table modules folder;
  modules = λ m reading e. has_own table modules m reading folder e;
  found = reported table modules;
}

pub analysis_fits : (table : Table) (modules : List TreeModule) → IsFolder table modules → Fit (analysis_of table modules)
analysis_fits table modules folder = folder_fits table (analysis_of table modules) (of_folder table modules folder)
