-- Maps that are refined by the lists of a guard.
use Rattle.std.proofs.Common.{◌≡◌, ℕ, suc, ◌≤◌, ◌⊎◌, inl, inr, Bool, true, false, List, [], ◌∷◌, refl, sym, ap, ◌∙◌, subst, arith}
use Rattle.std.specs.Prelude.{◌==◌, ◌||◌, All, map, IfOk, OnErr, Result, Ok, Err, IsTrue, if◌then◌else◌}
use Rattle.std.specs.List.{list_any}
use Rattle.std.proofs.lemmas.Bool.{eq-eqb}
use Rattle.std.proofs.lemmas.Bool.Decides.{eqb_tells}
use Rattle.std.proofs.lemmas.List.Elements.{All-weaker}
use Rattle.luau_scope.specs.Laws.{AscendFrom}
use Rattle.luau_scope.specs.Locals.{is_among}
use Rattle.luau_tree.specs.Tree.{Expr}
use Rattle.luau_tree.specs.declared.names.LocalId.{LocalId}
use Rattle.type_arena.specs.Arena.{home_of, store_of}
use Rattle.type_arena.specs.Homes.{Given, by_ref, itself}
use Rattle.type_arena.specs.Store.{Keeps}
use Rattle.type_arena.specs.Term.{Term}
use Rattle.type_arena.specs.declared.arena.Arena.{Arena}
use Rattle.type_arena.specs.declared.node.TypeRef.{TypeRef}
use Rattle.type_normal.specs.Adds.{Adds}
use Rattle.type_normal.specs.Rows.{is_empty}
use Rattle.local_types.specs.Entries.{arena_of}
use Rattle.local_types.specs.Growing.{IsMadeOf}
use Rattle.local_types.specs.Locals.{said_of, said_meant, refs_said, some_empty, refining}
use Rattle.local_types.specs.declared.types.LocalTypes.{LocalTypes}
use Rattle.guards.specs.Guards.{guard_refs}
use Rattle.guards.specs.Lists.{meant, type_in, has_local}
use Rattle.guards.specs.Own.{IsOwn}
use Rattle.guards.specs.declared.guarding.Guard.{Guard}
use Rattle.report_rules.specs.Guard.{guard, guarded}
use Rattle.report_rules.specs.Rules.{Rules}
use Rattle.report_rules.specs.TypeMap.{TypeMap, refined_by, refine}
use Rattle.rule_state.specs.Conditions.{refined_by_said}

-- a test that one of some numbers passes
unequal : true ≡ false → ⊥
unequal e = cc

or_true : (a b : Bool) → b ≡ true → (a || b) ≡ true
or_true true b e = refl
or_true false b e = e

same_answer : (a b : Bool) → (a ≡ true → b ≡ true) → (b ≡ true → a ≡ true) → a ≡ b
same_answer true b f g = sym (f refl)
same_answer false true f g = g refl
same_answer false false f g = refl

passed : (p : ℕ → Bool) (ys : List ℕ) (n : ℕ) → is_among n ys ≡ true → p n ≡ true → list_any p ys ≡ true
passed p [] n among passes = absurd (unequal (sym among))
passed p (y ∷ ys) n among passes = by_test (eqb_tells y n) (passed p ys n)
  where
    by_test : (((y == n) ≡ true) × (y ≡ n)) ⊎ (((y == n) ≡ false) × (y ≡ n → ⊥)) → (is_among n ys ≡ true → p n ≡ true → list_any p ys ≡ true) → (p y || list_any p ys) ≡ true
    by_test (inl t) rest = ap (λ b. b || list_any p ys) (ap p t.1 ∙ passes)
    by_test (inr t) rest = or_true (p y) (list_any p ys) (rest (sym (ap (λ b. b || is_among n ys) t.0) ∙ among) passes)

passed_too : (p : ℕ → Bool) (xs ys : List ℕ) → ((n : ℕ) → is_among n xs ≡ true → is_among n ys ≡ true) → list_any p xs ≡ true → list_any p ys ≡ true
passed_too p [] ys within any = absurd (unequal (sym any))
passed_too p (x ∷ xs) ys within any = by_test (p x) refl (passed_too p xs ys (λ n among. within n (or_true (x == n) (is_among n xs) among)))
  where
    by_test : (b : Bool) → p x ≡ b → (list_any p xs ≡ true → list_any p ys ≡ true) → list_any p ys ≡ true
    by_test true passes rest = passed p ys x (within x (ap (λ b. b || is_among x xs) (eq-eqb x x refl))) passes
    by_test false passes rest = rest (sym (ap (λ b. b || list_any p xs) passes) ∙ any)

any_same : (p : ℕ → Bool) (xs ys : List ℕ) → ((n : ℕ) → is_among n xs ≡ is_among n ys) → list_any p xs ≡ list_any p ys
any_same p xs ys same =
    same_answer (list_any p xs) (list_any p ys) (passed_too p xs ys (λ n among. sym (same n) ∙ among)) (passed_too p ys xs (λ n among. same n ∙ among))

-- the locals of a list
abbrev locals_in : List (LocalId × TypeRef) → List ℕ
locals_in said = map (λ entry. entry.0.0) said

locals_among : (said : List (LocalId × TypeRef)) (n : ℕ) → has_local said n ≡ is_among n (locals_in said)
locals_among [] n = refl
locals_among (x ∷ said) n = ap (λ b. (x.0.0 == n) || b) (locals_among said n)

same_said : (said : List (ℕ × Term)) (local : ℕ) → said_of said local ≡ type_in said local
same_said [] local = refl
same_said (x ∷ said) local = ap (λ (rest : Term). if x.0 == local then x.1 else rest) (same_said said local)

below_not : (a b : ℕ) → suc a ≤ b → (a == b) ≡ false
below_not a b l = elim (eqb_tells a b) as (λ d. (a == b) ≡ false) [
  | inl t ↦ absurd (omega (arith, t.1, l))
  | inr t ↦ t.0
]

-- where the locals ascend, one of them has no value as the list says
some_is : (means : TypeRef → Term) (said : List (LocalId × TypeRef)) (lowest : ℕ) → AscendFrom lowest (locals_in said) → (f entries : ℕ → Term) → ((local : ℕ) → lowest ≤ local → type_in (meant means said) local ≡ f local)
    → some_empty (said_meant means said) entries ≡ list_any (λ local. is_empty (refined_by (f local) (entries local))) (locals_in said)
some_is means [] lowest ascend f entries says = refl
some_is means (x ∷ said) lowest ascend f entries says =
    let first : means x.1 ≡ f x.0.0 = sym (ap (λ (b : Bool). if b then means x.1 else type_in (meant means said) x.0.0) (eq-eqb x.0.0 x.0.0 refl)) ∙ says x.0.0 ascend.0 in
    let rest = some_is means said (suc x.0.0) ascend.1 f entries
    (λ local above. sym (ap (λ (b : Bool). if b then means x.1 else type_in (meant means said) local) (below_not x.0.0 local above)) ∙ says local (omega (arith, above, ascend.0))) in
    ap (λ (type : Term). is_empty (refined_by type (entries x.0.0)) || some_empty (said_meant means said) entries) first
    ∙ ap (λ (b : Bool). is_empty (refined_by (f x.0.0) (entries x.0.0)) || b) rest

-- so the map is refined as the condition does
pub refined_is : (means : TypeRef → Term) (said : List (LocalId × TypeRef)) (rules : Rules) (cond : Expr) (truth : Bool) → ((local : ℕ) → type_in (meant means said) local ≡ guard rules cond truth local)
    → ((local : ℕ) → has_local said local ≡ is_among local (guarded rules cond)) → AscendFrom 0 (locals_in said) → (known : TypeMap) → refined_by_said (said_meant means said) known ≡ refine rules cond truth known
refined_is means said rules cond truth says has ascend known =
    let entries : refining (said_meant means said) known.entry ≡ (λ (local : ℕ). refined_by (guard rules cond truth local) (known.entry local))
    = λ i. λ n. ap (λ (type : Term). refined_by type (known.entry n)) (same_said (said_meant means said) n ∙ says n) i in
    let empty : some_empty (said_meant means said) known.entry ≡ list_any (λ local. is_empty (refined_by (guard rules cond truth local) (known.entry local))) (guarded rules cond)
    = some_is means said 0 ascend (guard rules cond truth) known.entry (λ local above. says local)
    ∙ any_same (λ local. is_empty (refined_by (guard rules cond truth local) (known.entry local))) (locals_in said) (guarded rules cond) (λ n. sym (locals_among said n) ∙ has n) in
    ap (λ (entry : ℕ → Term). record { dead = known.dead || some_empty (said_meant means said) known.entry; entry = entry }) entries
    ∙ ap (λ (b : Bool). record { dead = known.dead || b; entry = λ (local : ℕ). refined_by (guard rules cond truth local) (known.entry local) }) empty

-- the arena keeps its nodes, and the types in the lists were made of what was there
pub guard_keeps : {E : Type 0} (a b : Arena) (given : Given) (r : Result Guard E) → IfOk r (λ g. Adds a b given (guard_refs g)) → OnErr r (Adds a b given []) → Keeps (store_of a) (store_of b)
guard_keeps a b given (Ok g) ok err = ok.keeps
guard_keeps a b given (Err e) ok err = err.keeps

own_made : (a : LocalTypes) (new : Arena) (at : TypeRef) → home_of new ≡ home_of (arena_of a) → IsOwn new at → IsMadeOf a [] at
own_made a new at same own test within homes = subst (λ (home : ℕ). IsTrue (test home)) (sym (own.home at.home (by_ref at itself) ∙ same)) within.arena.own

pub all_own_made : (a : LocalTypes) (new : Arena) (said : List (LocalId × TypeRef)) → home_of new ≡ home_of (arena_of a) → All (IsOwn new) (refs_said said) → All (IsMadeOf a []) (refs_said said)
all_own_made a new said same own = All-weaker (IsOwn new) (IsMadeOf a []) (λ at one. own_made a new at same one) (refs_said said) own
