-- What calls on the arena make, and that it leads to no other homes then.
use Rattle.std.proofs.Common.{◌≡◌, ℕ, ◌<◌, List, [], ◌∷◌, refl, sym, ◌∙◌, subst, arith}
use Rattle.std.specs.Prelude.{Bool, true, Option, Some, None, Result, Ok, Err, IfOk, OnErr, All, IsTrue}
use Rattle.std.proofs.lemmas.List.Elements.{All-nil, All-cons, All-contains, All-weaker}
use Rattle.subtype_memory.specs.Memory.{IsRight}
use Rattle.subtype_memory.specs.declared.memory.Remembered.{Remembered}
use Rattle.subtype_memory.proofs.PairFacts.{right_later}
use Rattle.type_arena.specs.Arena.{home_of, store_of}
use Rattle.type_arena.specs.Homes.{Reaches, itself, through, by_ref, by_literal, MayUse, own_home, given_literal, reached, Given, literal_homes}
use Rattle.type_arena.specs.Store.{node_at, refs_of, has}
use Rattle.type_arena.specs.declared.arena.Arena.{Arena}
use Rattle.type_arena.specs.declared.node.Node.{Node}
use Rattle.type_arena.specs.declared.node.TypeRef.{TypeRef}
use Rattle.type_normal.specs.Adds.{Adds}
use Rattle.type_normal.specs.Growing.{given_refs, IsClean}
use Rattle.type_normal.specs.Rows.{is_normal}
use Rattle.local_types.specs.Growing.{HaveHomes, StaysWithin}
use Rattle.context_types.specs.Confined.{StartsWithin, IsConfined, IsMade}
use Rattle.context_types.specs.Types.{arena_of, outside_of, set_in}
use Rattle.context_types.specs.Standing.{Stands}
use Rattle.context_types.specs.declared.types.ContextTypes.{ContextTypes}

-- what may be used of references with homes that pass a test, in an arena that stays within them, passes it too
reaches_within : (arena : Arena) (test : ℕ → Bool) → StaysWithin test arena → {at far : TypeRef} → Reaches (store_of arena) at far → IsTrue (test at.home) → IsTrue (test far.home)
reaches_within arena test within itself passes = passes
reaches_within arena test within (through {at = at} {child = child} node e inside rest) passes =
    reaches_within arena test within rest (All-contains (λ r. IsTrue (test r.home)) (refs_of node) child (within.refs at node e passes) inside)

may_within : (arena : Arena) (test : ℕ → Bool) (refs : List TypeRef) → StaysWithin test arena → HaveHomes test refs → (home : ℕ) → MayUse (store_of arena) (home_of arena) (given_refs refs) home → IsTrue (test home)
may_within arena test refs within homes home own_home = within.own
may_within arena test refs within homes home (given_literal h inside) = let l : inside.0 < 0 = inside.1 in absurd (omega arith)
may_within arena test refs within homes home (reached at h inside (by_ref far way)) = reaches_within arena test within way (All-contains (λ r. IsTrue (test r.home)) refs at homes inside)
may_within arena test refs within homes home (reached at h inside (by_literal far node lit way e named)) =
    All-contains (λ x. IsTrue (test x)) (literal_homes node.functions) lit
    (within.literals far node e (reaches_within arena test within way (All-contains (λ r. IsTrue (test r.home)) refs at homes inside))) named

-- an arena that stays within some homes does so after a call that is given references with such homes
adds_within : (old new : Arena) (test : ℕ → Bool) (refs answers : List TypeRef) → Adds old new (given_refs refs) answers → StaysWithin test old → HaveHomes test refs → StaysWithin test new
adds_within old new test refs answers adds within homes = record {
  own = subst (λ (home : ℕ). IsTrue (test home)) (sym adds.home) within.own;
  refs = λ at node e passes. refs_by at node e passes (node_at (store_of old) at) refl;
  literals = λ at node e passes. literals_by at node e passes (node_at (store_of old) at) refl;
}
  where
    one : (at : TypeRef) (node there : Node) → node_at (store_of new) at ≡ Some node → node_at (store_of old) at ≡ Some there → there ≡ node
    one at node there e f = let k : node_at (store_of new) at ≡ Some there = adds.keeps at there f in cc

    refs_by : (at : TypeRef) (node : Node) → node_at (store_of new) at ≡ Some node → IsTrue (test at.home) → (found : Option Node) → node_at (store_of old) at ≡ found → HaveHomes test (refs_of node)
    refs_by at node e passes None f = λ k d l. may_within old test refs within homes _ (adds.homes.refs at node e f k d l)
    refs_by at node e passes (Some there) f = subst (λ (n : Node). HaveHomes test (refs_of n)) (one at node there e f) (within.refs at there f passes)

    literals_by : (at : TypeRef) (node : Node) → node_at (store_of new) at ≡ Some node → IsTrue (test at.home) → (found : Option Node) → node_at (store_of old) at ≡ found → All (λ home. IsTrue (test home)) (literal_homes node.functions)
    literals_by at node e passes None f = λ k d l. may_within old test refs within homes _ (adds.homes.literals at node e f k d l)
    literals_by at node e passes (Some there) f = subst (λ (n : Node). All (λ home. IsTrue (test home)) (literal_homes n.functions)) (one at node there e f) (within.literals at there f passes)

-- what stays within some homes after a call did so before
within_before : (old new : Arena) (given : Given) (answers : List TypeRef) (test : ℕ → Bool) → Adds old new given answers → StaysWithin test new → StaysWithin test old
within_before old new given answers test adds within = record {
  own = subst (λ (home : ℕ). IsTrue (test home)) adds.home within.own;
  refs = λ at node e passes. within.refs at node (adds.keeps at node e) passes;
  literals = λ at node e passes. within.literals at node (adds.keeps at node e) passes;
}

starts_before : (old new : Arena) (given : Given) (answers : List TypeRef) (test : ℕ → Bool) → Adds old new given answers → StartsWithin test new → StartsWithin test old
starts_before old new given answers test adds starts = record {
  own = subst (λ (home : ℕ). IsTrue (test home)) adds.home starts.own;
  refs = λ at node e other passes. starts.refs at node (adds.keeps at node e) (λ same. other (same ∙ adds.home)) passes;
  literals = λ at node e other passes. starts.literals at node (adds.keeps at node e) (λ same. other (same ∙ adds.home)) passes;
}

-- what was made stays so, and so does what a call makes of it
pub made_on : (old new : Arena) (outside : List TypeRef) (given : Given) (answers : List TypeRef) (at : TypeRef) → Adds old new given answers → IsMade old outside at → IsMade new outside at
made_on old new outside given answers at adds made test within homes = made test (within_before old new given answers test adds within) homes

homes_made : (arena : Arena) (outside refs : List TypeRef) (test : ℕ → Bool) → All (IsMade arena outside) refs → StaysWithin test arena → HaveHomes test outside → HaveHomes test refs
homes_made arena outside refs test made within homes = All-weaker (IsMade arena outside) (λ (at : TypeRef). IsTrue (test at.home)) (λ at m. m test within homes) refs made

pub made_clean : (old new : Arena) (outside refs answers : List TypeRef) (at : TypeRef) → Adds old new (given_refs refs) answers → All (IsMade old outside) refs → IsClean old new (given_refs refs) at → IsMade new outside at
made_clean old new outside refs answers at adds made clean test within homes =
    let before : StaysWithin test old = within_before old new (given_refs refs) answers test adds within in
    may_within old test refs before (homes_made old outside refs test made before homes) at.home (clean at.home (by_ref at itself))

pub confined_on : (old new : Arena) (outside refs answers : List TypeRef) → Adds old new (given_refs refs) answers → All (IsMade old outside) refs → IsConfined old outside → IsConfined new outside
confined_on old new outside refs answers adds made confined test starts homes =
    let before : StaysWithin test old = confined test (starts_before old new (given_refs refs) answers test adds starts) homes in
    adds_within old new test refs answers adds before (homes_made old outside refs test made before homes)

-- a call only adds, whether it gave a value or not
pub adds_less : (old new : Arena) (given : Given) (answers : List TypeRef) → Adds old new given answers → Adds old new given []
adds_less old new given answers adds = record {
  below = adds.below;
  home = adds.home;
  keeps = adds.keeps;
  kept = adds.kept;
  homes = record { answered = All-nil (λ at. MayUse (store_of old) (home_of old) given at.home); refs = adds.homes.refs; literals = adds.homes.literals };
}

pub call_adds : {A E : Type 0} (old new : Arena) (given : Given) (answers : A → List TypeRef) (r : Result A E) → IfOk r (λ x. Adds old new given (answers x)) → OnErr r (Adds old new given []) → Adds old new given []
call_adds old new given answers (Ok x) ok err = adds_less old new given (answers x) ok
call_adds old new given answers (Err e) ok err = err

-- so what was found stays right
pub right_on : (old new : Arena) (found : Remembered) (given : Given) (answers : List TypeRef) → Adds old new given answers → IsRight (store_of old) found → IsRight (store_of new) found
right_on old new found given answers adds right = right_later (store_of old) (store_of new) found old.sound new.sound adds.keeps right

-- the same of types
pub all_made : (types : ContextTypes) (refs : List TypeRef) → All (Stands types) refs → All (IsMade (arena_of types) (outside_of types)) refs
all_made types refs stand = All-weaker (Stands types) (IsMade (arena_of types) (outside_of types)) (λ at s. s.made) refs stand

pub none_stand : (types : ContextTypes) → All (Stands types) []
none_stand types = All-nil (Stands types)

pub one_stands : (types : ContextTypes) (at : TypeRef) → Stands types at → All (Stands types) (at ∷ [])
one_stands types at s = All-cons (Stands types) at [] s (All-nil (Stands types))

pub two_stand : (types : ContextTypes) (at other : TypeRef) → Stands types at → Stands types other → All (Stands types) (at ∷ other ∷ [])
two_stand types at other s t = All-cons (Stands types) at (other ∷ []) s (one_stands types other t)

-- what the types keep while the arena gets nodes
pub kept_made : (types : ContextTypes) (new : Arena) (refs answers : List TypeRef) → All (IsMade (arena_of types) (outside_of types)) refs → Adds (arena_of types) new (given_refs refs) answers
    → IsConfined new (outside_of types) × IsRight (store_of new) types.found
kept_made types new refs answers made adds = (
  confined_on (arena_of types) new (outside_of types) refs answers adds made types.confined,
  right_on (arena_of types) new types.found (given_refs refs) answers adds types.right,
)

pub kept_after : (types : ContextTypes) (new : Arena) (refs answers : List TypeRef) → All (Stands types) refs → Adds (arena_of types) new (given_refs refs) answers
    → IsConfined new (outside_of types) × IsRight (store_of new) types.found
kept_after types new refs answers stand adds = kept_made types new refs answers (all_made types refs stand) adds

-- what a call makes stands there
pub stands_after : (types t : ContextTypes) (refs answers : List TypeRef) (at : TypeRef) → outside_of t ≡ outside_of types → All (Stands types) refs → Adds (arena_of types) (arena_of t) (given_refs refs) answers
    → IsClean (arena_of types) (arena_of t) (given_refs refs) at → IsTrue (has (store_of (arena_of t)) at) → is_normal (set_in t at) ≡ true → Stands t at
stands_after types t refs answers at same stand adds clean there normal = record {
  there = there;
  normal = normal;
  made = subst (λ (outside : List TypeRef). IsMade (arena_of t) outside at) (sym same) (made_clean (arena_of types) (arena_of t) (outside_of types) refs answers at adds (all_made types refs stand) clean);
}
