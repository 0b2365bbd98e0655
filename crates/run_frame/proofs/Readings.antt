-- What a fitting analysis says of the code that runs: the rules read what the run reads, and each expression stands for what it may.
use Rattle.std.proofs.Common.{◌≡◌, ℕ, zero, suc, Bool, true, false, ◌&&◌, List, [], ◌∷◌, ◌++◌, Option, Some, None, refl, sym, ◌∙◌, ap, subst, arith, slice_get, Contains}
use Rattle.std.specs.List.{AllByRecursion}
use Rattle.std.specs.Option.{option_map_or}
use Rattle.std.specs.Prelude.{is_some}
use Rattle.std.specs.Str.{bytes_eq}
use Rattle.luau_run.specs.Signature.{declaration}
use Rattle.luau_tree.specs.Tree.{the_expr, ExprKind}
use Rattle.luau_run.specs.ReadModule.{Use, UseLocal, UseBuiltin, UseLibrary, UseGlobal}
use Rattle.luau_run.specs.ReadFolder.{name_of, spelled, is_library_name, is_global_name, may_mean, IsReadWell, IsRead}
use Rattle.luau_run.specs.Program.{Program}
use Rattle.luau_run.specs.SyntaxNode.{AnExpr, of_block}
use Rattle.luau_run.specs.Machine.{State}
use Rattle.luau_run.specs.Layer.{Frame}
use Rattle.run_frame.specs.Analysis.{Analysis}
use Rattle.run_frame.specs.Fit.{FitModule, Fit}
use Rattle.run_frame.proofs.World.{World}
use Rattle.run_frame.proofs.Fine.{Sub}
use Rattle.run_frame.proofs.Held.{Runs}
use Rattle.run_frame.proofs.Layers.{rules_of}

-- ---- lists

pub contains_head : {A : Type 0} (x : A) (xs : List A) → Contains (x ∷ xs) x
contains_head x xs = (zero, omega arith, refl)

pub contains_tail : {A : Type 0} (y x : A) (xs : List A) → Contains xs x → Contains (y ∷ xs) x
contains_tail y x xs c = (suc c.0, omega (arith, c.1), c.2)

pub contains_left : {A : Type 0} (xs ys : List A) (x : A) → Contains xs x → Contains (xs ++ ys) x
contains_left [] ys x c = absurd (omega (arith, c.1))
contains_left (z ∷ xs) ys x (zero, l, e) = (zero, omega arith, e)
contains_left (z ∷ xs) ys x (suc k, l, e) = contains_tail z x (xs ++ ys) (contains_left xs ys x (k, omega (arith, l), e))

pub contains_right : {A : Type 0} (xs ys : List A) (x : A) → Contains ys x → Contains (xs ++ ys) x
contains_right [] ys x c = c
contains_right (z ∷ xs) ys x c = contains_tail z x (xs ++ ys) (contains_right xs ys x c)

pub sub_left : {A : Type 0} (xs ys zs : List A) → Sub (xs ++ ys) zs → Sub xs zs
sub_left xs ys zs h x c = h x (contains_left xs ys x c)

pub sub_right : {A : Type 0} (xs ys zs : List A) → Sub (xs ++ ys) zs → Sub ys zs
sub_right xs ys zs h x c = h x (contains_right xs ys x c)

pub sub_tail : {A : Type 0} (x : A) (xs zs : List A) → Sub (x ∷ xs) zs → Sub xs zs
sub_tail x xs zs h y c = h y (contains_tail x y xs c)

pub sub_head : {A : Type 0} (x : A) (xs zs : List A) → Sub (x ∷ xs) zs → Contains zs x
sub_head x xs zs h = h x (contains_head x xs)

pub all_contained : {A : Type 0} (P : A → Type 0) (xs : List A) (x : A) → AllByRecursion P xs → Contains xs x → P x
all_contained P [] x h c = absurd (omega (arith, c.1))
all_contained P (y ∷ xs) x h (zero, l, e) = subst P e h.0
all_contained P (y ∷ xs) x h (suc k, l, e) = all_contained P xs x h.1 (k, omega (arith, l), e)

pub all_at : {A : Type 0} (P : A → Type 0) (xs : List A) (i : ℕ) (x : A) → AllByRecursion P xs → slice_get xs i ≡ Some x → P x
all_at P [] i x h e = absurd (clash e)
  where
    clash : None ≡ Some x → ⊥
    clash z = cc
all_at P (y ∷ xs) zero x h e = subst P (same e) h.0
  where
    same : Some y ≡ Some x → y ≡ x
    same z = cc
all_at P (y ∷ xs) (suc i) x h e = all_at P xs i x h.1 e

-- ---- modules

-- the module of the frame fits
pub fits : (an : Analysis) (w : World) (s : State) (frame : Frame) → Fit an → Runs an w s frame → FitModule an frame.module_at frame.reading
fits an w s frame fit r = fit.modules frame.module_at frame.reading r.reading

-- the rules read what the run reads
pub reads_same : (an : Analysis) (w : World) (s : State) (frame : Frame) → Fit an → Runs an w s frame → (rules_of an frame).reading ≡ frame.reading
reads_same an w s frame fit r = (fits an w s frame fit r).same

-- an expression of the frame's module stands for what it may
pub means : (an : Analysis) (w : World) (s : State) (frame : Frame) (id : ℕ) (span : _) (kind : ExprKind) → Fit an → Runs an w s frame
    → Contains (of_block frame.reading.block) (AnExpr (the_expr id span kind)) → may_mean an.program kind (frame.reading.use_of id) ≡ true
means an w s frame id span kind fit r c = all_contained (IsReadWell an.program frame.reading) (of_block frame.reading.block) (AnExpr (the_expr id span kind))
    (all_at (IsRead an.program) an.program.modules frame.module_at frame.reading fit.folder.readings r.reading).nodes c

-- an expression of neither form stands for nothing
pub no_use : (program : Program) (kind : ExprKind) (use_here : Option Use) → name_of kind ≡ None → spelled kind ≡ None → may_mean program kind use_here ≡ true → use_here ≡ None
no_use program kind None n p h = refl
no_use program kind (Some (UseLocal x)) n p h = absurd (clash (sym (ap (λ (o : Option (List ℕ)). is_some o) n) ∙ h))
  where
    clash : false ≡ true → ⊥
    clash z = cc
no_use program kind (Some (UseBuiltin path)) n p h =
    absurd (clash (is_some (declaration program.builtins path))
    (sym (ap (λ (o : Option (List ℕ)). is_some (declaration program.builtins path) && option_map_or (bytes_eq path) o false) p) ∙ h))
  where
    clash : (b : Bool) → b && false ≡ true → ⊥
    clash true z = cc
    clash false z = cc
no_use program kind (Some UseLibrary) n p h = absurd (clash (sym (ap (λ (o : Option (List ℕ)). option_map_or (is_library_name program) o false) n) ∙ h))
  where
    clash : false ≡ true → ⊥
    clash z = cc
no_use program kind (Some UseGlobal) n p h = absurd (clash (sym (ap (λ (o : Option (List ℕ)). option_map_or (is_global_name program) o false) n) ∙ h))
  where
    clash : false ≡ true → ⊥
    clash z = cc
