-- What guards mean, from one call to the next.
use Rattle.std.proofs.Common.{◌≡◌, ℕ, List, [], ◌∷◌, sym, ap, ◌∙◌, subst}
use Rattle.std.specs.Prelude.{All, Result, Ok, Err, IfOk, OnErr}
use Rattle.std.proofs.lemmas.List.Elements.{All-nil, All-cons, All-weaker}
use Rattle.luau_tree.specs.Tree.{Expr}
use Rattle.luau_tree.specs.declared.names.LocalId.{LocalId}
use Rattle.report_rules.specs.Rules.{Rules}
use Rattle.type_arena.specs.Arena.{store_of}
use Rattle.type_arena.specs.Homes.{Given}
use Rattle.type_arena.specs.Meaning.{term_of}
use Rattle.type_arena.specs.Term.{Term}
use Rattle.type_arena.specs.declared.arena.Arena.{Arena}
use Rattle.type_arena.specs.declared.node.TypeRef.{TypeRef}
use Rattle.type_normal.specs.Adds.{Adds}
use Rattle.type_normal.specs.Growing.{given_refs}
use Rattle.guards.specs.Guards.{AreOwn, Means, IsGuard}
use Rattle.guards.specs.Lists.{meant, refs_listed}
use Rattle.guards.specs.Own.{IsOwn, IsUnknown}
use Rattle.guards.specs.declared.guarding.Guard.{Guard}
use Rattle.guards.proofs.OwnFacts.{own_later, all_own_later}
use Rattle.guards.proofs.SideFacts.{entries_mean, meant_same}

abbrev Entries : Type 0
Entries = List (ℕ × Term)

abbrev Pair : Type 0
Pair = LocalId × TypeRef

pub means_as : (a : Arena) (g : Guard) (t f t' f' : Entries) → Means a g t f → t ≡ t' → f ≡ f' → Means a g t' f'
means_as a g t f t' f' m e h = record { when_true = m.when_true ∙ e; when_false = m.when_false ∙ h }

-- a guard that is turned
pub turned_means : (a : Arena) (g h : Guard) (t f : Entries) → Means a g t f → h.when_true ≡ g.when_false → h.when_false ≡ g.when_true → Means a h f t
turned_means a g h t f m p q = record { when_true = ap (meant (term_of (store_of a))) p ∙ m.when_false; when_false = ap (meant (term_of (store_of a))) q ∙ m.when_true }

own_as : (a : Arena) (xs ys : List Pair) → xs ≡ ys → All (IsOwn a) (refs_listed ys) → All (IsOwn a) (refs_listed xs)
own_as a xs ys e own = subst (λ (zs : List Pair). All (IsOwn a) (refs_listed zs)) (sym e) own

pub turned_own : (a : Arena) (g h : Guard) → AreOwn a g → h.when_true ≡ g.when_false → h.when_false ≡ g.when_true → AreOwn a h
turned_own a g h own p q = record { when_true = own_as a h.when_true g.when_false p own.when_false; when_false = own_as a h.when_false g.when_true q own.when_true }

-- a guard that says nothing
pub nothing_means : (a : Arena) (h : Guard) → h.when_true ≡ [] → h.when_false ≡ [] → Means a h [] []
nothing_means a h p q = record { when_true = ap (meant (term_of (store_of a))) p; when_false = ap (meant (term_of (store_of a))) q }

pub nothing_own : (a : Arena) (h : Guard) → h.when_true ≡ [] → h.when_false ≡ [] → AreOwn a h
nothing_own a h p q = record { when_true = own_as a h.when_true [] p (All-nil (IsOwn a)); when_false = own_as a h.when_false [] q (All-nil (IsOwn a)) }

-- a guard that says something of one local
pub one_means : (a : Arena) (h : Guard) (local : LocalId) (x y : TypeRef) (t f : Term) → h.when_true ≡ (local, x) ∷ [] → h.when_false ≡ (local, y) ∷ [] → term_of (store_of a) x ≡ t → term_of (store_of a) y ≡ f
    → Means a h ((local.0, t) ∷ []) ((local.0, f) ∷ [])
one_means a h local x y t f p q e g = record {
  when_true = ap (meant (term_of (store_of a))) p ∙ (λ i. (local.0, e i) ∷ []);
  when_false = ap (meant (term_of (store_of a))) q ∙ (λ i. (local.0, g i) ∷ []);
}

pub one_are_own : (a : Arena) (h : Guard) (local : LocalId) (x y : TypeRef) → h.when_true ≡ (local, x) ∷ [] → h.when_false ≡ (local, y) ∷ [] → IsOwn a x → IsOwn a y → AreOwn a h
one_are_own a h local x y p q e g = record {
  when_true = own_as a h.when_true ((local, x) ∷ []) p (All-cons (IsOwn a) x [] e (All-nil (IsOwn a)));
  when_false = own_as a h.when_false ((local, y) ∷ []) q (All-cons (IsOwn a) y [] g (All-nil (IsOwn a)));
}

-- what stays, while the arena gets nodes
pub means_later : (a b : Arena) (g : Guard) (t f : Entries) → Adds a b (given_refs []) [] → AreOwn a g → Means a g t f → Means b g t f
means_later a b g t f adds own m = record {
  when_true = entries_mean a b g.when_true own.when_true adds ∙ m.when_true;
  when_false = entries_mean a b g.when_false own.when_false adds ∙ m.when_false;
}

pub guard_own_later : (a b : Arena) (g : Guard) → Adds a b (given_refs []) [] → AreOwn a g → AreOwn b g
guard_own_later a b g adds own = record {
  when_true = all_own_later a b (given_refs []) [] adds (refs_listed g.when_true) own.when_true;
  when_false = all_own_later a b (given_refs []) [] adds (refs_listed g.when_false) own.when_false;
}

pub unknown_later : (a b : Arena) (at : TypeRef) → Adds a b (given_refs []) [] → IsUnknown a at → IsUnknown b at
unknown_later a b at adds u = record { own = own_later a b (given_refs []) [] adds at u.own; means = adds.kept at u.own.there ∙ u.means }

-- what holds of an answer holds of it in other words
pub if_ok : {T E : Type 0} (P Q : T → Type 0) (r : Result T E) → ((x : T) → P x → Q x) → IfOk r P → IfOk r Q
if_ok P Q (Ok x) f p = f x p
if_ok P Q (Err e) f p = tt

-- what stands after a failure
pub on_err : {T E P : Type 0} (r : Result T E) → P → OnErr r P
on_err (Ok x) p = tt
on_err (Err e) p = p

pub guard_stays_own : (a b : Arena) (given : Given) (xs : List TypeRef) → Adds a b given xs → (g : Guard) → AreOwn a g → AreOwn b g
guard_stays_own a b given xs adds g own = record {
  when_true = all_own_later a b given xs adds (refs_listed g.when_true) own.when_true;
  when_false = all_own_later a b given xs adds (refs_listed g.when_false) own.when_false;
}

pub guard_stays : (a b : Arena) (given : Given) (xs : List TypeRef) → Adds a b given xs → (rules : Rules) (e : Expr) (g : Guard) → AreOwn a g → IsGuard a rules e g → IsGuard b rules e g
guard_stays a b given xs adds rules e g own m = record { when_true = stays g.when_true own.when_true ∙ m.when_true; when_false = stays g.when_false own.when_false ∙ m.when_false }
  where
    stays : (entries : List Pair) → All (IsOwn a) (refs_listed entries) → meant (term_of (store_of b)) entries ≡ meant (term_of (store_of a)) entries
    stays entries there =
        meant_same (term_of (store_of b)) (term_of (store_of a)) entries
        (All-weaker (IsOwn a) (λ at. term_of (store_of b) at ≡ term_of (store_of a) at) (λ at o. adds.kept at o.there) (refs_listed entries) there)
