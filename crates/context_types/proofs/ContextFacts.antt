-- Contexts that calls make, and guards.
use Rattle.std.proofs.Common.{◌≡◌, ℕ, List, [], ◌∷◌, ◌++◌, refl, sym, ap, ◌∙◌, subst}
use Rattle.std.specs.Prelude.{Bool, Contains, All, IsTrue, None, if◌then◌else◌, ◌==◌}
use Rattle.std.proofs.lemmas.List.Elements.{All-weaker, All-append, All-contains, Contains-get_or}
use Rattle.luau_scope.specs.declared.reading.LocalInfo.{LocalInfo}
use Rattle.luau_scope.specs.declared.reading.Use.{Use}
use Rattle.luau_tree.specs.Tree.{no_stats, Expr}
use Rattle.luau_tree.specs.declared.names.ExprId.{ExprId}
use Rattle.type_arena.specs.Arena.{store_of}
use Rattle.type_arena.specs.Homes.{itself, by_ref}
use Rattle.type_arena.specs.Store.{has}
use Rattle.type_arena.specs.Meaning.{term_of}
use Rattle.type_arena.specs.Term.{Term}
use Rattle.type_arena.specs.declared.arena.Arena.{Arena}
use Rattle.type_arena.specs.declared.node.TypeRef.{TypeRef}
use Rattle.type_normal.specs.Adds.{Adds}
use Rattle.type_normal.specs.Growing.{given_refs, IsClean}
use Rattle.type_normal.specs.Kinds.{unknown}
use Rattle.error_context.specs.Entries.{Entries, AreClean, AreThere, AscendFrom, IsContext, IsGuard, entry_or, locals_in, refs_in}
use Rattle.error_context.specs.declared.context.Context.{Context}
use Rattle.error_context.proofs.NormalFacts.{said_is_guard}
use Rattle.guards.specs.Lists.{meant, type_in}
use Rattle.guards.specs.Own.{IsOwn}
use Rattle.module_reading.specs.Names.{Reads}
use Rattle.module_reading.specs.ReadRules.{rules_by}
use Rattle.report_rules.specs.Guard.{guard}
use Rattle.report_rules.specs.Rules.{Rules}
use Rattle.context_types.specs.Confined.{IsMade}
use Rattle.context_types.specs.Standing.{StandsContext}
use Rattle.context_types.specs.Types.{arena_of, outside_of}
use Rattle.context_types.specs.declared.types.ContextTypes.{ContextTypes}
use Rattle.context_types.proofs.MadeFacts.{made_clean}

abbrev pub AreMade : ContextTypes → List TypeRef → Type 0
AreMade types refs = All (IsMade (arena_of types) (outside_of types)) refs

pub both_made : (types : ContextTypes) (refs more : List TypeRef) → AreMade types refs → AreMade types more → AreMade types (refs ++ more)
both_made types refs more made also = All-append (IsMade (arena_of types) (outside_of types)) refs more made also

-- what a call makes stands there
pub context_after : (types t : ContextTypes) (refs answers : List TypeRef) (context : Context) → outside_of t ≡ outside_of types → AreMade types refs → Adds (arena_of types) (arena_of t) (given_refs refs) answers
    → IsContext (arena_of t) context.entries → AreClean (arena_of types) (arena_of t) refs context.entries → StandsContext t context
context_after types t refs answers context same made adds is clean = record {
  is = is;
  made = subst (λ (outside : List TypeRef). All (IsMade (arena_of t) outside) (refs_in context.entries)) (sym same)
      (All-weaker (IsClean (arena_of types) (arena_of t) (given_refs refs)) (IsMade (arena_of t) (outside_of types))
      (λ at c. made_clean (arena_of types) (arena_of t) (outside_of types) refs answers at adds made c) (refs_in context.entries) clean);
}

-- fewer entries are made where more are
pub fewer_made : (arena : Arena) (outside : List TypeRef) (fewer entries : Entries) → ((at : TypeRef) → Contains (refs_in fewer) at → Contains (refs_in entries) at) → All (IsMade arena outside) (refs_in entries) → All (IsMade arena outside) (refs_in fewer)
fewer_made arena outside fewer entries among made =
    All-from (λ at inside. All-contains (IsMade arena outside) (refs_in entries) at made (among at inside))
  where
    All-from : ((at : TypeRef) → Contains (refs_in fewer) at → IsMade arena outside at) → All (IsMade arena outside) (refs_in fewer)
    All-from holds k d l = holds _ (Contains-get_or (refs_in fewer) k d l)

-- there are rules that read some names
abbrev reading_rules : List (ExprId × Use) → List LocalInfo → Rules
reading_rules uses locals = rules_by uses locals [] 0 no_stats (λ way. None) [] (λ id. unknown)

rules_read : (uses : List (ExprId × Use)) (locals : List LocalInfo) → Reads uses locals (reading_rules uses locals)
rules_read uses locals = record { meanings = λ id. refl; declared = λ offset. refl; assigned = λ local. refl; caught = λ local. refl; fixed = λ local. refl }

-- a list says what it says
pub same_said : (means : TypeRef → Term) (entries : Entries) (local : ℕ) → entry_or unknown means entries local ≡ type_in (meant means entries) local
same_said means [] local = refl
same_said means (e ∷ entries) local = ap (λ (rest : Term). if e.0.0 == local then means e.1 else rest) (same_said means entries local)

-- so lists that say what a condition does are a guard
pub is_guard : (arena : Arena) (entries : Entries) (uses : List (ExprId × Use)) (locals : List LocalInfo) (cond : Expr) (truth : Bool) → AscendFrom 0 (locals_in entries) → AreThere arena (refs_in entries)
    → ((rules : Rules) → Reads uses locals rules → (local : ℕ) → type_in (meant (term_of (store_of arena)) entries) local ≡ guard rules cond truth local) → IsGuard arena entries
is_guard arena entries uses locals cond truth sorted there says =
    said_is_guard arena entries (reading_rules uses locals) cond truth sorted there (λ local. same_said (term_of (store_of arena)) entries local ∙ says (reading_rules uses locals) (rules_read uses locals) local)

-- references from which the own home alone is reached
pub own_there : (arena : Arena) (refs : List TypeRef) → All (IsOwn arena) refs → AreThere arena refs
own_there arena refs own = All-weaker (IsOwn arena) (λ at. IsTrue (has (store_of arena) at)) (λ at o. o.there) refs own

pub own_made : (arena : Arena) (outside refs : List TypeRef) → All (IsOwn arena) refs → All (IsMade arena outside) refs
own_made arena outside refs own =
    All-weaker (IsOwn arena) (IsMade arena outside) (λ at o test within homes. subst (λ (home : ℕ). IsTrue (test home)) (sym (o.home at.home (by_ref at itself))) within.own) refs own
