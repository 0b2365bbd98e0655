-- What stands in the arena of the types stands there, and means the same, after calls.
use Rattle.std.proofs.Common.{◌≡◌, ℕ, List, [], ◌∷◌, refl, sym, ap, ◌∙◌, subst}
use Rattle.std.specs.Prelude.{All, IsTrue, map, ◌==◌, if◌then◌else◌}
use Rattle.std.proofs.lemmas.List.Elements.{All-weaker, All-head, All-tail}
use Rattle.luau_tree.specs.Tree.{Expr}
use Rattle.type_arena.specs.Arena.{store_of}
use Rattle.type_arena.specs.Store.{has}
use Rattle.type_arena.specs.Term.{Term, never}
use Rattle.type_arena.specs.declared.node.TypeRef.{TypeRef}
use Rattle.type_normal.specs.Kinds.{unknown}
use Rattle.type_normal.specs.Rows.{is_normal, is_empty}
use Rattle.type_normal.proofs.AddsFacts.{there_kept}
use Rattle.local_types.specs.Growing.{StaysWithin}
use Rattle.error_context.specs.Entries.{Entries, entry_or, guard_of, refs_in, is_cut, IsGuard}
use Rattle.error_context.specs.declared.context.Context.{Context}
use Rattle.guards.specs.declared.guarding.Guard.{Guard}
use Rattle.report_rules.specs.Rules.{Rules}
use Rattle.context_types.specs.Confined.{IsMade}
use Rattle.context_types.specs.Types.{arena_of, outside_of, set_in, context_in}
use Rattle.context_types.specs.Standing.{Stands, StandsContext, StandsGuard, Says, Grows}
use Rattle.context_types.specs.declared.types.ContextTypes.{ContextTypes}

-- nothing happened, and one call after another
pub grows_nothing : {s : ContextTypes} → Grows s s
grows_nothing = record { outside = refl; below = refl; home = refl; keeps = λ at node e. e; kept = λ at there. refl }

pub grows_then : {a b c : ContextTypes} → Grows a b → Grows b c → Grows a c
grows_then {a} {b} {c} first second = record {
  outside = second.outside ∙ first.outside;
  below = second.below ∙ first.below;
  home = second.home ∙ first.home;
  keeps = λ at node e. second.keeps at node (first.keeps at node e);
  kept = λ at there. second.kept at (there_kept (store_of (arena_of a)) (store_of (arena_of b)) at first.keeps there) ∙ first.kept at there;
}

there_on : (s t : ContextTypes) (at : TypeRef) → Grows s t → IsTrue (has (store_of (arena_of s)) at) → IsTrue (has (store_of (arena_of t)) at)
there_on s t at grows there = there_kept (store_of (arena_of s)) (store_of (arena_of t)) at grows.keeps there

within_before : (s t : ContextTypes) (test : _) → Grows s t → StaysWithin test (arena_of t) → StaysWithin test (arena_of s)
within_before s t test grows within = record {
  own = subst (λ (home : ℕ). IsTrue (test home)) grows.home within.own;
  refs = λ at node e passes. within.refs at node (grows.keeps at node e) passes;
  literals = λ at node e passes. within.literals at node (grows.keeps at node e) passes;
}

pub made_on : (s t : ContextTypes) (at : TypeRef) → Grows s t → IsMade (arena_of s) (outside_of s) at → IsMade (arena_of t) (outside_of t) at
made_on s t at grows made = subst (λ (outside : List TypeRef). IsMade (arena_of t) outside at) (sym grows.outside) (λ test within homes. made test (within_before s t test grows within) homes)

all_made_on : (s t : ContextTypes) (refs : List TypeRef) → Grows s t → All (IsMade (arena_of s) (outside_of s)) refs → All (IsMade (arena_of t) (outside_of t)) refs
all_made_on s t refs grows made = All-weaker (IsMade (arena_of s) (outside_of s)) (IsMade (arena_of t) (outside_of t)) (λ at m. made_on s t at grows m) refs made

-- sets
pub stands_on : {s t : ContextTypes} {at : TypeRef} → Grows s t → Stands s at → Stands t at
stands_on {s} {t} {at} grows stands = record {
  there = there_on s t at grows stands.there;
  normal = ap is_normal (grows.kept at stands.there) ∙ stands.normal;
  made = made_on s t at grows stands.made;
}

pub set_stays : {s t : ContextTypes} {at : TypeRef} → Grows s t → Stands s at → set_in t at ≡ set_in s at
set_stays {s} {t} {at} grows stands = grows.kept at stands.there

pub all_stand_on : {s t : ContextTypes} (sets : List TypeRef) → Grows s t → All (Stands s) sets → All (Stands t) sets
all_stand_on {s} {t} sets grows stand = All-weaker (Stands s) (Stands t) (λ at one. stands_on {s = s} {t = t} {at = at} grows one) sets stand

-- entries whose types keep their meaning
pub map_where : {X Y : Type 0} (f g : X → Y) (xs : List X) → All (λ x. f x ≡ g x) xs → map f xs ≡ map g xs
map_where f g [] same = refl
map_where f g (x ∷ xs) same =
    let head : f x ≡ g x = All-head (λ y. f y ≡ g y) x xs same in
    let rest : map f xs ≡ map g xs = map_where f g xs (All-tail (λ y. f y ≡ g y) x xs same) in
    cc

entries_stay : (absent : Term) (f g : TypeRef → Term) (entries : Entries) → All (λ at. f at ≡ g at) (refs_in entries) → (local : ℕ) → entry_or absent f entries local ≡ entry_or absent g entries local
entries_stay absent f g [] same local = refl
entries_stay absent f g (e ∷ entries) same local =
    (λ i. if e.0.0 == local then All-head (λ at. f at ≡ g at) e.1 (refs_in entries) same i else entry_or absent f entries local)
    ∙ ap (λ (rest : Term). if e.0.0 == local then g e.1 else rest) (entries_stay absent f g entries (All-tail (λ at. f at ≡ g at) e.1 (refs_in entries) same) local)

refs_stay : (s t : ContextTypes) (refs : List TypeRef) → Grows s t → All (λ at. IsTrue (has (store_of (arena_of s)) at)) refs → All (λ at. set_in t at ≡ set_in s at) refs
refs_stay s t refs grows there = All-weaker (λ at. IsTrue (has (store_of (arena_of s)) at)) (λ at. set_in t at ≡ set_in s at) (λ at is. grows.kept at is) refs there

-- contexts
pub context_on : {s t : ContextTypes} {context : Context} → Grows s t → StandsContext s context → StandsContext t context
context_on {s} {t} {context} grows stands = record {
  is = record {
    sorted = stands.is.sorted;
    there = λ k d l. there_on s t _ grows (stands.is.there k d l);
    cut = λ k d l. ap is_cut (grows.kept _ (stands.is.there k d l)) ∙ stands.is.cut k d l;
    full = λ k d l. ap is_empty (grows.kept _ (stands.is.there k d l)) ∙ stands.is.full k d l;
  };
  made = all_made_on s t (refs_in context.entries) grows stands.made;
}

pub context_stays : {s t : ContextTypes} {context : Context} → Grows s t → StandsContext s context → context_in t context ≡ context_in s context
context_stays {s} {t} {context} grows stands = λ i. λ n. entries_stay never (set_in t) (set_in s) context.entries (refs_stay s t (refs_in context.entries) grows stands.is.there) n i

pub all_contexts_on : {s t : ContextTypes} (contexts : List Context) → Grows s t → All (StandsContext s) contexts → All (StandsContext t) contexts
all_contexts_on {s} {t} contexts grows stand = All-weaker (StandsContext s) (StandsContext t) (λ c one. context_on {s = s} {t = t} {context = c} grows one) contexts stand

pub contexts_stay : {s t : ContextTypes} (contexts : List Context) → Grows s t → All (StandsContext s) contexts → map (context_in t) contexts ≡ map (context_in s) contexts
contexts_stay {s} {t} contexts grows stand =
    map_where (context_in t) (context_in s) contexts (All-weaker (StandsContext s) (λ c. context_in t c ≡ context_in s c) (λ c one. context_stays {s = s} {t = t} {context = c} grows one) contexts stand)

pub sets_stay : {s t : ContextTypes} (sets : List TypeRef) → Grows s t → All (Stands s) sets → map (set_in t) sets ≡ map (set_in s) sets
sets_stay {s} {t} sets grows stand =
    map_where (set_in t) (set_in s) sets (All-weaker (Stands s) (λ at. set_in t at ≡ set_in s at) (λ at one. set_stays {s = s} {t = t} {at = at} grows one) sets stand)

-- what a condition says
list_on : (s t : ContextTypes) (entries : Entries) → Grows s t → IsGuard (arena_of s) entries → IsGuard (arena_of t) entries
list_on s t entries grows is = record {
  sorted = is.sorted;
  there = λ k d l. there_on s t _ grows (is.there k d l);
  normal = λ k d l. ap is_normal (grows.kept _ (is.there k d l)) ∙ is.normal k d l;
}

pub guard_on : {s t : ContextTypes} {guard : Guard} → Grows s t → StandsGuard s guard → StandsGuard t guard
guard_on {s} {t} {guard} grows stands = record {
  truth = list_on s t guard.when_true grows stands.truth;
  falsity = list_on s t guard.when_false grows stands.falsity;
  true_made = all_made_on s t (refs_in guard.when_true) grows stands.true_made;
  false_made = all_made_on s t (refs_in guard.when_false) grows stands.false_made;
}

list_says : (s t : ContextTypes) (entries : Entries) → Grows s t → IsGuard (arena_of s) entries → (local : ℕ) → guard_of (arena_of t) entries local ≡ guard_of (arena_of s) entries local
list_says s t entries grows is local = entries_stay unknown (set_in t) (set_in s) entries (refs_stay s t (refs_in entries) grows is.there) local

pub says_on : {s t : ContextTypes} {rules : Rules} {cond : Expr} {guard : Guard} → Grows s t → StandsGuard s guard → Says s rules cond guard → Says t rules cond guard
says_on {s} {t} {rules} {cond} {guard} grows stands says = record {
  truth = λ local. list_says s t guard.when_true grows stands.truth local ∙ says.truth local;
  falsity = λ local. list_says s t guard.when_false grows stands.falsity local ∙ says.falsity local;
}
