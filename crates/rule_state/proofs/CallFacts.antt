-- What a call of a declared builtin gives.
use Rattle.std.proofs.Common.{◌≡◌, List, [], ◌∷◌, ◌++◌, length, refl, sym, ap, ◌∙◌, arith}
use Rattle.std.specs.Prelude.{All, Contains, Option, Some, None, option_to_list, map, reverse, slice_get, IsTrue, MatchOption, ℕ}
use Rattle.std.proofs.lemmas.List.Elements.{All-nil, All-cons, All-weaker, All-contains, Contains-append_left, Contains-append_right}
use Rattle.type_arena.specs.Meaning.{term_of}
use Rattle.type_arena.specs.Store.{has}
use Rattle.type_arena.specs.Term.{Term}
use Rattle.type_arena.specs.declared.node.TypeRef.{TypeRef}
use Rattle.type_arena.proofs.MeaningLemmas.{term_of-kept}
use Rattle.type_normal.specs.Kinds.{nil_type}
use Rattle.type_normal.specs.Operations.{union}
use Rattle.local_types.specs.Entries.{arena_of, arenas_of, type_of}
use Rattle.local_types.specs.declared.types.LocalTypes.{LocalTypes}
use Rattle.type_decl.specs.Tables.{alone, list_of, refs_in}
use Rattle.type_decl.specs.declared.sig.Sig.{Sig}
use Rattle.type_decl.specs.declared.table.SigTable.{SigTable}
use Rattle.rule_work.specs.Calls.{call_term, called}
use Rattle.rule_work.specs.Moves.{made_from}
use Rattle.rule_state.specs.Calls.{given_type, refs_given, IsDeclared}
use Rattle.rule_state.specs.Sound.{KnowsTable}
use Rattle.rule_state.specs.Work.{work_of}
use Rattle.rule_state.specs.declared.calls.Gives.{Gives}
use Rattle.rule_state.specs.declared.calls.Gives.TheVariants.{Anything, Frozen, Exactly, OrNil, Nil}
use Rattle.rule_state.specs.declared.state.RuleState.{RuleState}
use Rattle.rule_state.proofs.StackFacts.{popped_last, popped_nothing}

-- the first result of a signature is in it
first_contained : (xs : List TypeRef) (x : TypeRef) → Some x ≡ slice_get xs 0 → Contains xs x
first_contained [] x e = absurd (cc)
first_contained (y ∷ xs) x e = (0, omega arith, cc)

pub first_in : (sig : Sig) (results : List TypeRef) (at : TypeRef) → results ≡ sig.results → Some at ≡ slice_get results 0 → All (Contains (refs_in sig)) (at ∷ [])
first_in sig results at is first =
    let within : Contains sig.results at = first_contained sig.results at (first ∙ ap (λ (xs : List TypeRef). slice_get xs 0) is) in
    All-cons (Contains (refs_in sig)) at []
    (Contains-append_right sig.params _ at (Contains-append_right (list_of sig.rest) _ at (Contains-append_left sig.results (list_of sig.more) at within)))
    (All-nil (Contains (refs_in sig)))

-- so what is in one of some signatures is declared
pub are_declared : (sigs : List Sig) (sig : Sig) (refs : List TypeRef) → Contains sigs sig → All (Contains (refs_in sig)) refs → All (IsDeclared sigs) refs
are_declared sigs sig refs among within = All-weaker (Contains (refs_in sig)) (IsDeclared sigs) (λ at contained. (sig, among, contained)) refs within

-- what holds of each reference of each signature holds of those that are declared
pub declared_hold : (P : TypeRef → Type 0) (sigs : List Sig) (refs : List TypeRef) → All (λ sig. All P (refs_in sig)) sigs → All (IsDeclared sigs) refs → All P refs
declared_hold P sigs refs hold declared =
    All-weaker (IsDeclared sigs) P (λ at is. All-contains P (refs_in is.0) at (All-contains (λ (sig : Sig). All P (refs_in sig)) sigs is.0 hold is.1) is.2) refs declared

-- a declared type means the same among the types of the maps as in its table
pub meaning_kept : (types : LocalTypes) (outside : List TypeRef) (table : SigTable) (refs : List TypeRef) → KnowsTable types outside table → All (IsDeclared table.sigs) refs
    → All (λ at. term_of (alone table.arena) at ≡ type_of types at) refs
meaning_kept types outside table refs known declared =
    All-weaker (λ (at : TypeRef). IsTrue (has (alone table.arena) at)) (λ at. term_of (alone table.arena) at ≡ type_of types at)
    (λ at there. term_of-kept (alone table.arena) (arenas_of types) table.sound (arena_of types).sound known.keeps at there) refs
    (declared_hold (λ (at : TypeRef). IsTrue (has (alone table.arena) at)) table.sigs refs table.there declared)

-- what a call gives by references that mean the same
pub given_same : (f g : TypeRef → Term) (gives : Gives) (first : Term) → All (λ at. f at ≡ g at) (refs_given gives) → given_type f gives first ≡ given_type g gives first
given_same f g Anything first same = refl
given_same f g Frozen first same = refl
given_same f g (Exactly at) first same = same 0 at (omega arith)
given_same f g (OrNil at) first same = ap (λ (type : Term). union type nil_type) (same 0 at (omega arith))
given_same f g Nil first same = refl

-- what a state stands for whose last that was put aside was called
pub work_called : (old : RuleState) (id : ℕ) (rest : List TypeRef) (r : Option TypeRef) (x : TypeRef) (type : Term) → old.held.items ≡ rest ++ option_to_list r → r ≡ Some x
    → type ≡ call_term (work_of old).around id (type_of old.types x) (type_of old.types old.value) → record (work_of old) { value = type; held = reverse (map (type_of old.types) rest) } ≡ called id (work_of old)
unfolding work_of
work_called old id rest r x type items is same =
    ap (λ (value : Term). record (work_of old) { value = value; held = reverse (map (type_of old.types) rest) }) same
    ∙ ap (λ (held : List Term). made_from (call_term (work_of old).around id) held (work_of old)) (sym (popped_last (type_of old.types) old.held.items rest r x items is))

pub none_called : (old : RuleState) (id : ℕ) (B : TypeRef → Type 0) (rest : List TypeRef) (r : Option TypeRef) (n m : ℕ) → old.held.items ≡ rest ++ option_to_list r → MatchOption r ((n ≡ 0) × (m ≡ 0)) B → n ≡ length old.held.items → r ≡ None
    → record (work_of old) { held = reverse (map (type_of old.types) rest) } ≡ called id (work_of old)
unfolding work_of
none_called old id B rest r n m items cases long is =
    let none = popped_nothing (type_of old.types) B old.held.items rest r n m items cases long is in
    ap (λ (held : List Term). record (work_of old) { held = held }) none.1
    ∙ sym (ap (λ (held : List Term). made_from (call_term (work_of old).around id) held (record (work_of old) { held = held })) none.0)
