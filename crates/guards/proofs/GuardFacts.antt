-- What a guard's lists say, by what was made.
use Rattle.std.proofs.Common.{◌≡◌, ℕ, ◌==◌, Bool, true, false, List, [], ◌∷◌, map, refl, sym, ap, ◌∙◌, subst}
use Rattle.std.specs.Prelude.{◌||◌, None, IsTrue, All, slice_get}
use Rattle.std.specs.Option.{option_map_or, option_and_then}
use Rattle.std.proofs.lemmas.List.Elements.{All-append, All-weaker}
use Rattle.luau_scope.specs.Laws.{AscendFrom}
use Rattle.luau_scope.specs.Locals.{is_among, given_builtin}
use Rattle.luau_scope.specs.declared.reading.LocalInfo.{LocalInfo}
use Rattle.luau_scope.specs.declared.reading.Use.{Use as Found}
use Rattle.luau_tree.specs.Tree.{Expr, no_stats}
use Rattle.luau_tree.specs.declared.names.ExprId.{ExprId}
use Rattle.luau_tree.specs.declared.names.LocalId.{LocalId}
use Rattle.module_reading.specs.Names.{Reads, meaning_at, declared_from}
use Rattle.type_arena.specs.Arena.{home_of, store_of}
use Rattle.type_arena.specs.Meaning.{term_of}
use Rattle.type_arena.specs.Store.{has}
use Rattle.type_arena.specs.Term.{Term}
use Rattle.type_arena.specs.declared.arena.Arena.{Arena}
use Rattle.type_arena.specs.declared.node.TypeRef.{TypeRef}
use Rattle.type_normal.specs.Kinds.{unknown}
use Rattle.report_rules.specs.Rules.{Rules, loose}
use Rattle.report_rules.specs.Guard.{guard, guarded}
use Rattle.type_normal.specs.Growing.{given_refs, IsClean}
use Rattle.guards.specs.Guards.{guard_refs, AreOwn, IsGuard}
use Rattle.guards.specs.Lists.{meant, type_in, is_listed, has_local, refs_listed}
use Rattle.guards.specs.Made.{made}
use Rattle.guards.specs.Own.{IsOwn}
use Rattle.guards.specs.declared.guarding.Guard.{Guard}
use Rattle.guards.proofs.FirmFacts.{guarded_firm}
use Rattle.guards.proofs.MadeFacts.{made_says, made_has, made_orderly}
use Rattle.guards.proofs.OwnFacts.{clean_own}
use Rattle.guards.proofs.PlainFacts.{ascends}

abbrev Pair : Type 0
Pair = LocalId × TypeRef

has_meant : (means : TypeRef → Term) (entries : List Pair) (local : ℕ) → has_local entries local ≡ is_listed (meant means entries) local
has_meant means [] local = refl
has_meant means (x ∷ xs) local = ap (λ (b : Bool). (x.0.0 == local) || b) (has_meant means xs local)

locals_meant : (means : TypeRef → Term) (entries : List Pair) → map (λ (x : ℕ × Term). x.0) (meant means entries) ≡ map (λ (e : Pair). e.0.0) entries
locals_meant means [] = refl
locals_meant means (x ∷ xs) = ap (λ (ns : List ℕ). x.0.0 ∷ ns) (locals_meant means xs)

-- the lists say what the guard says, have the guarded locals, and none that is loose
pub guard_says : (means : TypeRef → Term) (entries : List Pair) (rules : Rules) (e : Expr) (truth : Bool) → meant means entries ≡ made rules e truth → (local : ℕ)
    → type_in (meant means entries) local ≡ guard rules e truth local
guard_says means entries rules e truth is local = ap (λ (es : List (ℕ × Term)). type_in es local) is ∙ made_says rules e truth local

pub guard_has : (means : TypeRef → Term) (entries : List Pair) (rules : Rules) (e : Expr) (truth : Bool) → meant means entries ≡ made rules e truth → (local : ℕ)
    → has_local entries local ≡ is_among local (guarded rules e)
guard_has means entries rules e truth is local = has_meant means entries local ∙ ap (λ (es : List (ℕ × Term)). is_listed es local) is ∙ made_has rules e truth local

pub guard_firm : (means : TypeRef → Term) (entries : List Pair) (rules : Rules) (e : Expr) (truth : Bool) → meant means entries ≡ made rules e truth → (local : ℕ)
    → has_local entries local ≡ true → loose rules local ≡ false
guard_firm means entries rules e truth is local there = guarded_firm rules e local (sym (guard_has means entries rules e truth is local) ∙ there)

-- rules that read names as these uses and these locals say
some_rules : List (ExprId × Found) → List LocalInfo → Rules
some_rules uses locals = record {
  reading = record {
    home = 0;
    block = no_stats;
    use_of = λ id. meaning_at uses id;
    local_at = λ offset. declared_from 0 locals offset;
    captured = λ body. [];
    annotated = λ function index heap value. true;
    required = λ id. None;
  };
  assigned = λ local. option_map_or (λ found. found.assigned) (slice_get locals local) false;
  caught = λ local. option_map_or (λ found. found.captured) (slice_get locals local) false;
  fixed = λ local. option_and_then (given_builtin uses) (slice_get locals local);
  table = [];
  annotation = λ function index. unknown;
  import = λ id. unknown;
  known = λ start function. None;
}

some_read : (uses : List (ExprId × Found)) (locals : List LocalInfo) → Reads uses locals (some_rules uses locals)
unfolding some_rules
some_read uses locals = record {
  meanings = λ id. refl;
  declared = λ offset. refl;
  assigned = λ local. refl;
  caught = λ local. refl;
  fixed = λ local. refl;
}

rises : (means : TypeRef → Term) (entries : List Pair) (rules : Rules) (e : Expr) (truth : Bool) → meant means entries ≡ made rules e truth → AscendFrom 0 (map (λ (x : Pair). x.0.0) entries)
rises means entries rules e truth is =
    subst (λ (ns : List ℕ). AscendFrom 0 ns) (locals_meant means entries)
    (subst (λ (es : List (ℕ × Term)). AscendFrom 0 (map (λ (x : ℕ × Term). x.0) es)) (sym is) (ascends 0 (made rules e truth) (made_orderly rules e truth)))

pub guard_ascends : (uses : List (ExprId × Found)) (locals : List LocalInfo) (means : TypeRef → Term) (entries : List Pair) (e : Expr) (truth : Bool)
    → ((rules : Rules) → Reads uses locals rules → meant means entries ≡ made rules e truth) → AscendFrom 0 (map (λ (x : Pair). x.0.0) entries)
guard_ascends uses locals means entries e truth is = rises means entries (some_rules uses locals) e truth (is (some_rules uses locals) (some_read uses locals))

-- the references of both lists
pub guard_own : (a : Arena) (g : Guard) → AreOwn a g → All (IsOwn a) (guard_refs g)
guard_own a g own = All-append (IsOwn a) (refs_listed g.when_true) (refs_listed g.when_false) own.when_true own.when_false

pub own_there : (a : Arena) (refs : List TypeRef) → All (IsOwn a) refs → All (λ at. IsTrue (has (store_of a) at)) refs
own_there a refs own = All-weaker (IsOwn a) (λ at. IsTrue (has (store_of a) at)) (λ at o. o.there) refs own

pub own_all_clean : (a b : Arena) (refs : List TypeRef) → home_of b ≡ home_of a → All (IsOwn b) refs → All (IsClean a b (given_refs [])) refs
own_all_clean a b refs home own = All-weaker (IsOwn b) (IsClean a b (given_refs [])) (λ at o. clean_own a b at home o) refs own

-- a guard of a condition
pub true_says : (arena : Arena) (rules : Rules) (e : Expr) (g : Guard) → IsGuard arena rules e g → (local : ℕ) → type_in (meant (term_of (store_of arena)) g.when_true) local ≡ guard rules e true local
true_says arena rules e g is = guard_says (term_of (store_of arena)) g.when_true rules e true is.when_true

pub false_says : (arena : Arena) (rules : Rules) (e : Expr) (g : Guard) → IsGuard arena rules e g → (local : ℕ) → type_in (meant (term_of (store_of arena)) g.when_false) local ≡ guard rules e false local
false_says arena rules e g is = guard_says (term_of (store_of arena)) g.when_false rules e false is.when_false

pub true_has : (arena : Arena) (rules : Rules) (e : Expr) (g : Guard) → IsGuard arena rules e g → (local : ℕ) → has_local g.when_true local ≡ is_among local (guarded rules e)
true_has arena rules e g is = guard_has (term_of (store_of arena)) g.when_true rules e true is.when_true

pub false_has : (arena : Arena) (rules : Rules) (e : Expr) (g : Guard) → IsGuard arena rules e g → (local : ℕ) → has_local g.when_false local ≡ is_among local (guarded rules e)
false_has arena rules e g is = guard_has (term_of (store_of arena)) g.when_false rules e false is.when_false

pub true_firm : (arena : Arena) (rules : Rules) (e : Expr) (g : Guard) → IsGuard arena rules e g → (local : ℕ) → has_local g.when_true local ≡ true → loose rules local ≡ false
true_firm arena rules e g is = guard_firm (term_of (store_of arena)) g.when_true rules e true is.when_true

pub true_rises : (arena : Arena) (rules : Rules) (e : Expr) (g : Guard) → IsGuard arena rules e g → AscendFrom 0 (map (λ (x : Pair). x.0.0) g.when_true)
true_rises arena rules e g is = rises (term_of (store_of arena)) g.when_true rules e true is.when_true

pub false_rises : (arena : Arena) (rules : Rules) (e : Expr) (g : Guard) → IsGuard arena rules e g → AscendFrom 0 (map (λ (x : Pair). x.0.0) g.when_false)
false_rises arena rules e g is = rises (term_of (store_of arena)) g.when_false rules e false is.when_false
