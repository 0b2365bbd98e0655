-- Cells that are written, and values that are written one by one.
use Rattle.std.proofs.Common.{◌≡◌, ℕ, zero, suc, Bool, true, false, ◌&&◌, List, [], ◌∷◌, length, Option, Some, refl, sym, ◌∙◌, ap, arith, slice_get, slice_set, drop}
use Rattle.std.specs.List.{AllByRecursion}
use Rattle.luau_values.specs.Value.{Value}
use Rattle.luau_values.specs.Heap.{Heap}
use Rattle.luau_values.specs.Stands.{Stands}
use Rattle.luau_run.specs.Machine.{Binding}
use Rattle.luau_run.specs.Layer.{Frame, first}
use Rattle.luau_run.specs.Expressions.{cell_of}
use Rattle.type_arena.specs.Term.{Term}
use Rattle.type_normal.specs.Holds.{holds}
use Rattle.type_normal.proofs.Public.{unknown_all}
use Rattle.report_rules.specs.Rules.{Rules}
use Rattle.report_rules.specs.Effects as rules_say
use Rattle.report_rules.specs.TypeMap.{TypeMap, first_type, stored, stored_all}
use Rattle.run_frame.specs.Analysis.{Analysis, is_caught, is_loose}
use Rattle.run_frame.proofs.World.{Owner, World}
use Rattle.run_frame.proofs.Fine.{IsBoundWell}
use Rattle.run_frame.proofs.Held.{HasOwner, bound_well}
use Rattle.run_frame.proofs.Layers.{rules_of}
use Rattle.run_frame.proofs.Lists.{AreTyped}

clash : {P : Type 0} (b : Bool) → b ≡ true → b ≡ false → P
clash b p q = cc

-- ---- cells

pub set_here : {A : Type 0} (xs : List A) (i : ℕ) (x u : A) → slice_get (slice_set xs i x) i ≡ Some u → x ≡ u
set_here [] i x u e = cc
set_here (y ∷ xs) zero x u e = cc
set_here (y ∷ xs) (suc i) x u e = set_here xs i x u e

pub set_same : {A : Type 0} (xs : List A) (i : ℕ) (x y : A) → slice_get xs i ≡ Some y → slice_get (slice_set xs i x) i ≡ Some x
set_same [] i x y e = cc
set_same (z ∷ xs) zero x y e = refl
set_same (z ∷ xs) (suc i) x y e = set_same xs i x y e

-- two locals of a frame that have one cell are one
pub cells_apart : (an : Analysis) (w : World) (a x y c : ℕ) (bs : List Binding) → AllByRecursion (IsBoundWell an w) bs → cell_of bs a x ≡ Some c → cell_of bs a y ≡ Some c → x ≡ y
cells_apart an w a x y c bs bound e k =
    let p : HasOwner an w a x c = bound_well an w a x c bs bound e in
    let q : HasOwner an w a y c = bound_well an w a y c bs bound k in
    sym p.2 ∙ (ap (λ (o : Owner). o.local) (same (slice_get w.owners c) p.0 q.0 p.1 q.1) ∙ q.2)
  where
    same : (o : Option Owner) (m n : Owner) → o ≡ Some m → o ≡ Some n → m ≡ n
    same o m n g h = cc

pub same_cell : (o : Option ℕ) (c d : ℕ) → o ≡ Some c → o ≡ Some d → c ≡ d
same_cell o c d p q = cc

-- ---- values that are written one by one

abbrev pub rest_types : List Term → List Term
rest_types [] = []
rest_types (type ∷ types) = types

pub store_one : (rules : Rules) (target : rules_say.Target) (targets : List rules_say.Target) (expanding : Bool) (types : List Term) (map : TypeMap)
    → stored_all rules (target ∷ targets) expanding types map ≡ stored_all rules targets expanding (rest_types types) (stored rules target (first_type expanding types) map)
store_one rules target targets expanding [] map = refl
store_one rules target targets expanding (type ∷ types) map = refl

pub first_there : (heap : Heap) (vs : List Value) → AllByRecursion (Stands heap) vs → Stands heap (first vs)
first_there heap [] h = tt
first_there heap (v ∷ vs) h = h.0

pub rest_there : (heap : Heap) (vs : List Value) → AllByRecursion (Stands heap) vs → AllByRecursion (Stands heap) (drop 1 vs)
rest_there heap [] h = tt
rest_there heap (v ∷ vs) h = h.1

pub first_so : (heap : Heap) (expanding : Bool) (types : List Term) (vs : List Value) → AreTyped heap types vs → (expanding ≡ false → length vs ≡ length types)
    → holds heap (first vs) (first_type expanding types) ≡ true
first_so heap expanding (type ∷ types) vs typed number = typed.0
first_so heap true [] vs typed number = unknown_all heap (first vs)
first_so heap false [] [] typed number = refl
first_so heap false [] (v ∷ vs) typed number = absurd (omega (arith, number refl))

pub rest_count : (types : List Term) (vs : List Value) → length vs ≡ length types → length (drop 1 vs) ≡ length (rest_types types)
rest_count [] [] e = refl
rest_count [] (v ∷ vs) e = absurd (omega (arith, e))
rest_count (type ∷ types) [] e = absurd (omega (arith, e))
rest_count (type ∷ types) (v ∷ vs) e = omega (arith, e)

module _ (an : Analysis) (frame : Frame) (unassigned : (x : ℕ) (path : List ℕ) → (rules_of an frame).fixed x ≡ Some path → (rules_of an frame).assigned x ≡ false) where
  pub loose_so : (x : ℕ) → (rules_of an frame).assigned x ≡ true → is_caught an frame.module_at x ≡ true → is_loose an frame.module_at x ≡ true
  loose_so x e k = both ((rules_of an frame).assigned x) ((rules_of an frame).caught x) e k
    where
      both : (p q : Bool) → p ≡ true → q ≡ true → p && q ≡ true
      both true q y z = z
      both false q y z = cc
