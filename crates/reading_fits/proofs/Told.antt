-- What rules say of all that is found in a part of a module.
use Rattle.std.proofs.Common.{◌≡◌, ℕ, suc, ◌+◌, true, List, [], ◌∷◌, ◌++◌, refl, ap, subst, arith}
use Rattle.std.specs.Prelude.{⊤, Option, Some, None, slice_get}
use Rattle.luau_tree.specs.declared.position.Span.{Span}
use Rattle.luau_tree.specs.declared.names.ExprId.{ExprId}
use Rattle.luau_scope.specs.declared.reading.LocalInfo.{LocalInfo}
use Rattle.luau_scope.specs.Found.{Found, Declares, Means, Captures, Assigns, RequiresModule, Continues, Refuses, declarations, Part, join}
use Rattle.luau_scope.specs.Finds.{of_repeat, without_continues, past_locals}
use Rattle.luau_run.specs.ReadModule.{UseBuiltin}
use Rattle.report_rules.specs.Rules.{Rules}
use Rattle.module_reading.specs.Names.{meaning_of}

-- the rules and the locals of a module
pub record Ground : Type 0 where
  pub rules : Rules
  pub locals : List LocalInfo

-- a number is that of a local
abbrev pub IsKnown : Ground → ℕ → Type 0
IsKnown ground n = (local : LocalInfo) × (slice_get ground.locals n ≡ Some local)

-- an expression, if there is one, stands for a builtin
abbrev pub IsGiven : Ground → Option ExprId → List ℕ → Type 0
IsGiven ground None path = ⊥
IsGiven ground (Some at) path = ground.rules.reading.use_of at.0 ≡ Some (UseBuiltin path)

-- a local of this number is declared here, and holds a builtin always only if that is given to it
pub record IsLocal (ground : Ground) (n : ℕ) (span : Span) (given : Option ExprId) : Type 0 where
  pub place : ground.rules.reading.local_at span.start ≡ n
  pub there : IsKnown ground n
  pub fixed : (path : List ℕ) → ground.rules.fixed n ≡ Some path → IsGiven ground given path

-- the rules say all that is found, where so many locals are declared before; nothing is refused
abbrev pub Each : Ground → ℕ → List Found → Type 0
Each ground n [] = ⊤
Each ground n (Declares name span function given ∷ found) = IsLocal ground n span given × Each ground (suc n) found
Each ground n (Means at meaning ∷ found) = (ground.rules.reading.use_of at.0 ≡ Some (meaning_of meaning)) × Each ground n found
Each ground n (Captures local ∷ found) = (IsKnown ground local → ground.rules.caught local ≡ true) × Each ground n found
Each ground n (Assigns local ∷ found) = (IsKnown ground local → ground.rules.assigned local ≡ true) × Each ground n found
Each ground n (RequiresModule site ∷ found) = Each ground n found
Each ground n (Continues at before ∷ found) = Each ground n found
Each ground n (Refuses why at ∷ found) = ⊥

pub record Told (ground : Ground) (n : ℕ) (found : List Found) : Type 0 where
  pub each : Each ground n found

moved : (ground : Ground) (m n : ℕ) (f : List Found) → m ≡ n → Each ground m f → Each ground n f
moved ground m n f e t = subst (λ (k : ℕ). Each ground k f) e t

each_parts : (ground : Ground) (n : ℕ) (f g : List Found) → Each ground n (f ++ g) → Each ground n f × Each ground (n + declarations f) g
each_parts ground n [] g t = (tt, moved ground n (n + 0) g (omega arith) t)
each_parts ground n (Declares name span function given ∷ f) g t =
    let r = each_parts ground (suc n) f g t.1 in ((t.0, r.0), moved ground (suc n + declarations f) (n + suc (declarations f)) g (omega arith) r.1)
each_parts ground n (Means at meaning ∷ f) g t = let r = each_parts ground n f g t.1 in ((t.0, r.0), r.1)
each_parts ground n (Captures local ∷ f) g t = let r = each_parts ground n f g t.1 in ((t.0, r.0), r.1)
each_parts ground n (Assigns local ∷ f) g t = let r = each_parts ground n f g t.1 in ((t.0, r.0), r.1)
each_parts ground n (RequiresModule site ∷ f) g t = each_parts ground n f g t
each_parts ground n (Continues at before ∷ f) g t = each_parts ground n f g t
each_parts ground n (Refuses why at ∷ f) g t = absurd t

pub parts : {ground : Ground} {n : ℕ} {f g : List Found} → Told ground n (f ++ g) → Told ground n f × Told ground (n + declarations f) g
parts {ground = ground} {n = n} {f = f} {g = g} t = let r = each_parts ground n f g t.each in (record { each = r.0 }, record { each = r.1 })

-- a part and the one behind it
pub first : (ground : Ground) (n : ℕ) (p q : Part) → Told ground n (join p q n) → Told ground n (p n)
unfolding join
first ground n p q t = (parts {f = p n} {g = q (n + declarations (p n))} t).0

pub second : (ground : Ground) (n : ℕ) (p q : Part) → Told ground n (join p q n) → Told ground (n + declarations (p n)) (q (n + declarations (p n)))
unfolding join
second ground n p q t = (parts {f = p n} {g = q (n + declarations (p n))} t).1

-- ---- `repeat`

each_without : (ground : Ground) (n : ℕ) (f : List Found) → Each ground n (without_continues f) → Each ground n f
each_without ground n [] t = tt
each_without ground n (Declares name span function given ∷ f) t = (t.0, each_without ground (suc n) f t.1)
each_without ground n (Means at meaning ∷ f) t = (t.0, each_without ground n f t.1)
each_without ground n (Captures local ∷ f) t = (t.0, each_without ground n f t.1)
each_without ground n (Assigns local ∷ f) t = (t.0, each_without ground n f t.1)
each_without ground n (RequiresModule site ∷ f) t = each_without ground n f t
each_without ground n (Continues at before ∷ f) t = each_without ground n f t
each_without ground n (Refuses why at ∷ f) t = absurd t

as_many : (f : List Found) → declarations (without_continues f) ≡ declarations f
as_many [] = refl
as_many (Declares name span function given ∷ f) = ap suc (as_many f)
as_many (Means at meaning ∷ f) = as_many f
as_many (Captures local ∷ f) = as_many f
as_many (Assigns local ∷ f) = as_many f
as_many (RequiresModule site ∷ f) = as_many f
as_many (Continues at before ∷ f) = as_many f
as_many (Refuses why at ∷ f) = as_many f

pub repeated : (ground : Ground) (n : ℕ) (body until : List Found) (k : ℕ) → Told ground n (of_repeat body until k) → Told ground n body × Told ground (n + declarations body) until
repeated ground n body until k t =
    let r = each_parts ground n (without_continues body) (until ++ past_locals body until k) t.each in
    let s = each_parts ground (n + declarations (without_continues body)) until (past_locals body until k) r.1 in
    (record { each = each_without ground n body r.0 }, record { each = moved ground _ _ until (ap (λ (m : ℕ). n + m) (as_many body)) s.0 })
