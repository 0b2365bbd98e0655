-- Two lists side by side, and what comes of them.
use Rattle.std.proofs.Common.{◌≡◌, ℕ, ◌+◌, ◌<◌, List, [], ◌∷◌, ◌++◌, map, length, get_or, take, refl, sym, ap, ◌∙◌, subst}
use Rattle.std.proofs.lemmas.List.{map-append, take_more}
use Rattle.std.specs.Prelude.{All}
use Rattle.std.proofs.lemmas.List.Elements.{All-append, All-cons, All-nil, All-head, All-tail, All-get_or, All-weaker}
use Rattle.std.specs.declared.cmp.Ordering.{Ordering}
use Rattle.std.specs.declared.cmp.Ordering.TheVariants.{Less, Equal, Greater}
use Rattle.std.specs.Ordering.{nat_cmp}
use Rattle.luau_tree.specs.declared.names.LocalId.{LocalId}
use Rattle.type_arena.specs.Arena.{store_of}
use Rattle.type_arena.specs.Meaning.{term_of}
use Rattle.type_arena.specs.Term.{Term}
use Rattle.type_arena.specs.declared.arena.Arena.{Arena}
use Rattle.type_arena.specs.declared.node.TypeRef.{TypeRef}
use Rattle.type_normal.specs.Adds.{Adds}
use Rattle.type_normal.specs.Members.{by_order}
use Rattle.type_normal.specs.Growing.{given_refs}
use Rattle.guards.specs.Lists.{entry_meant, meant, alone, together, beside, joined, named_meant, refs_named, refs_listed, beside_entry, side_by_side}
use Rattle.guards.specs.Own.{IsOwn}
use Rattle.guards.proofs.OwnFacts.{all_own_later}
use Rattle.guards.specs.declared.joining.Join.{Join}
use Rattle.guards.specs.declared.listing.Named.{Named}
use Rattle.guards.specs.declared.listing.Named.TheVariants.{Once, Twice}

abbrev Pair : Type 0
Pair = LocalId × TypeRef

-- a function of one of three
order_map : {X Y : Type 0} (f : X → Y) (o : Ordering) (x y z : X) → f (by_order o x y z) ≡ by_order o (f x) (f y) (f z)
order_map f Less x y z = refl
order_map f Equal x y z = refl
order_map f Greater x y z = refl

order_same : {X : Type 0} (o : Ordering) (x y z x' y' z' : X) → x ≡ x' → y ≡ y' → z ≡ z' → by_order o x y z ≡ by_order o x' y' z'
order_same Less x y z x' y' z' e f g = e
order_same Equal x y z x' y' z' e f g = f
order_same Greater x y z x' y' z' e f g = g

alone_all : (how : Join) (means : TypeRef → Term) (ys : List Pair) → map (named_meant how means) (side_by_side [] ys) ≡ joined how [] (meant means ys)
alone_all how means [] = refl
alone_all how means (y ∷ ys) = ap (λ (es : List (ℕ × Term)). alone how (entry_meant means y) ∷ es) (alone_all how means ys)

-- what comes of two lists side by side is what the two say together
beside_meant : (how : Join) (means : TypeRef → Term) (x : Pair) (f : List Pair → List Named) (g : List (ℕ × Term) → List (ℕ × Term)) → ((zs : List Pair) → map (named_meant how means) (f zs) ≡ g (meant means zs))
    → (ys : List Pair) → map (named_meant how means) (beside_entry x f ys) ≡ beside how (entry_meant means x) g (meant means ys)
beside_meant how means x f g same [] = ap (λ (es : List (ℕ × Term)). alone how (entry_meant means x) ∷ es) (same [])
beside_meant how means x f g same (y ∷ ys) =
    order_map (map (named_meant how means)) (nat_cmp x.0.0 y.0.0) (Once x.0 x.1 ∷ f (y ∷ ys)) (Twice x.0 x.1 y.1 ∷ f ys) (Once y.0 y.1 ∷ beside_entry x f ys)
    ∙ order_same (nat_cmp x.0.0 y.0.0) _ _ _ _ _ _
    (ap (λ (es : List (ℕ × Term)). alone how (entry_meant means x) ∷ es) (same (y ∷ ys)))
    (ap (λ (es : List (ℕ × Term)). (x.0.0, together how (means x.1) (means y.1)) ∷ es) (same ys))
    (ap (λ (es : List (ℕ × Term)). alone how (entry_meant means y) ∷ es) (beside_meant how means x f g same ys))

pub side_meant : (how : Join) (means : TypeRef → Term) (xs ys : List Pair) → map (named_meant how means) (side_by_side xs ys) ≡ joined how (meant means xs) (meant means ys)
side_meant how means [] ys = alone_all how means ys
side_meant how means (x ∷ xs) ys = beside_meant how means x (side_by_side xs) (joined how (meant means xs)) (side_meant how means xs) ys

-- what holds of the references in both lists holds of those in each that stands beside
abbrev pub AllNamed : (TypeRef → Type 0) → List Named → Type 0
AllNamed P = All (λ n. All P (refs_named n))

order_all : {X : Type 0} (P : X → Type 0) (o : Ordering) (x y z : X) → P x → P y → P z → P (by_order o x y z)
order_all P Less x y z e f g = e
order_all P Equal x y z e f g = f
order_all P Greater x y z e f g = g

one : (P : TypeRef → Type 0) (local : LocalId) (at : TypeRef) → P at → All P (refs_named (Once local at))
one P local at p = All-cons P at [] p (All-nil P)

two : (P : TypeRef → Type 0) (local : LocalId) (a b : TypeRef) → P a → P b → All P (refs_named (Twice local a b))
two P local a b p q = All-cons P a (b ∷ []) p (All-cons P b [] q (All-nil P))

alone_refs : (P : TypeRef → Type 0) (ys : List Pair) → All P (refs_listed ys) → AllNamed P (side_by_side [] ys)
alone_refs P [] all = All-nil (λ n. All P (refs_named n))
alone_refs P (y ∷ ys) all = All-cons (λ n. All P (refs_named n)) (Once y.0 y.1) (side_by_side [] ys) (one P y.0 y.1 (All-head P y.1 (refs_listed ys) all)) (alone_refs P ys (All-tail P y.1 (refs_listed ys) all))

beside_refs : (P : TypeRef → Type 0) (x : Pair) (f : List Pair → List Named) → ((zs : List Pair) → All P (refs_listed zs) → AllNamed P (f zs)) → P x.1 → (ys : List Pair) → All P (refs_listed ys)
    → AllNamed P (beside_entry x f ys)
beside_refs P x f behind p [] others = All-cons (λ n. All P (refs_named n)) (Once x.0 x.1) (f []) (one P x.0 x.1 p) (behind [] others)
beside_refs P x f behind p (y ∷ ys) others =
    let q : P y.1 = All-head P y.1 (refs_listed ys) others in
    let rest : All P (refs_listed ys) = All-tail P y.1 (refs_listed ys) others in
    order_all (AllNamed P) (nat_cmp x.0.0 y.0.0) (Once x.0 x.1 ∷ f (y ∷ ys)) (Twice x.0 x.1 y.1 ∷ f ys) (Once y.0 y.1 ∷ beside_entry x f ys)
    (All-cons (λ n. All P (refs_named n)) (Once x.0 x.1) (f (y ∷ ys)) (one P x.0 x.1 p) (behind (y ∷ ys) others))
    (All-cons (λ n. All P (refs_named n)) (Twice x.0 x.1 y.1) (f ys) (two P x.0 x.1 y.1 p q) (behind ys rest))
    (All-cons (λ n. All P (refs_named n)) (Once y.0 y.1) (beside_entry x f ys) (one P y.0 y.1 q) (beside_refs P x f behind p ys rest))

pub side_refs : (P : TypeRef → Type 0) (xs ys : List Pair) → All P (refs_listed xs) → All P (refs_listed ys) → AllNamed P (side_by_side xs ys)
side_refs P [] ys all others = alone_refs P ys others
side_refs P (x ∷ xs) ys all others = beside_refs P x (side_by_side xs) (λ zs. side_refs P xs zs (All-tail P x.1 (refs_listed xs) all)) (All-head P x.1 (refs_listed xs) all) ys others

-- what comes of an entry is the same where its references mean the same
pub named_same : (how : Join) (means other : TypeRef → Term) (n : Named) → All (λ at. means at ≡ other at) (refs_named n) → named_meant how means n ≡ named_meant how other n
named_same how means other (Once local at) all = ap (λ (t : Term). alone how (local.0, t)) (All-head (λ r. means r ≡ other r) at [] all)
named_same how means other (Twice local a b) all =
    let p : means a ≡ other a = All-head (λ r. means r ≡ other r) a (b ∷ []) all in
    let q : means b ≡ other b = All-head (λ r. means r ≡ other r) b [] (All-tail (λ r. means r ≡ other r) a (b ∷ []) all) in
    λ i. (local.0, together how (p i) (q i))

pub meant_same : (means other : TypeRef → Term) (entries : List Pair) → All (λ at. means at ≡ other at) (refs_listed entries) → meant means entries ≡ meant other entries
meant_same means other [] all = refl
meant_same means other (x ∷ xs) all =
    let p : means x.1 ≡ other x.1 = All-head (λ r. means r ≡ other r) x.1 (refs_listed xs) all in
    let q : meant means xs ≡ meant other xs = meant_same means other xs (All-tail (λ r. means r ≡ other r) x.1 (refs_listed xs) all) in
    λ i. (x.0.0, p i) ∷ q i

-- one more entry behind some
pub one_more : (how : Join) (means other : TypeRef → Term) (entries all : List Pair) (entry : Pair) (ns : List Named) (i : ℕ) (n : Named) → i < length ns → n ≡ get_or ns i n
    → meant means entries ≡ map (named_meant how other) (take i ns) → entry_meant means entry ≡ named_meant how other n → all ≡ entries ++ entry ∷ []
    → meant means all ≡ map (named_meant how other) (take (i + 1) ns)
one_more how means other entries all entry ns i n l is before e more =
    ap (meant means) more ∙ map-append (entry_meant means) entries (entry ∷ [])
    ∙ (λ k. before k ++ e k ∷ [])
    ∙ sym (ap (map (named_meant how other)) (take_more ns i n l) ∙ map-append (named_meant how other) (take i ns) (get_or ns i n ∷ []) ∙ ap (λ y. map (named_meant how other) (take i ns) ++ named_meant how other y ∷ []) (sym is))

pub listed_more : (P : TypeRef → Type 0) (entries all : List Pair) (entry : Pair) → All P (refs_listed entries) → P entry.1 → all ≡ entries ++ entry ∷ [] → All P (refs_listed all)
listed_more P entries all entry before p more =
    subst (λ (es : List Pair). All P (refs_listed es)) (sym more)
    (subst (λ (rs : List TypeRef). All P rs) (sym (map-append (λ (e : Pair). e.1) entries (entry ∷ [])))
    (All-append P (refs_listed entries) (entry.1 ∷ []) before (All-cons P entry.1 [] p (All-nil P))))

-- what stands beside in an arena that got nodes
pub pair_own : (a : Arena) (left right : List Pair) (ns : List Named) (i : ℕ) (d : Named) → ns ≡ side_by_side left right → i < length ns → All (IsOwn a) (refs_listed left) → All (IsOwn a) (refs_listed right)
    → All (IsOwn a) (refs_named (get_or ns i d))
pair_own a left right ns i d e l first second =
    All-get_or (λ n. All (IsOwn a) (refs_named n)) ns i d l (subst (AllNamed (IsOwn a)) (sym e) (side_refs (IsOwn a) left right first second))

pub pair_means : (a b : Arena) (how : Join) (n : Named) → All (IsOwn a) (refs_named n) → Adds a b (given_refs []) [] → named_meant how (term_of (store_of b)) n ≡ named_meant how (term_of (store_of a)) n
pair_means a b how n own adds =
    named_same how (term_of (store_of b)) (term_of (store_of a)) n
    (All-weaker (IsOwn a) (λ at. term_of (store_of b) at ≡ term_of (store_of a) at) (λ at o. adds.kept at o.there) (refs_named n) own)

pub entries_mean : (a b : Arena) (entries : List Pair) → All (IsOwn a) (refs_listed entries) → Adds a b (given_refs []) [] → meant (term_of (store_of b)) entries ≡ meant (term_of (store_of a)) entries
entries_mean a b entries own adds =
    meant_same (term_of (store_of b)) (term_of (store_of a)) entries
    (All-weaker (IsOwn a) (λ at. term_of (store_of b) at ≡ term_of (store_of a) at) (λ at o. adds.kept at o.there) (refs_listed entries) own)

pub one_own : (a : Arena) (entries : List Pair) (local : LocalId) (at : TypeRef) → entries ≡ (local, at) ∷ [] → IsOwn a at → All (IsOwn a) (refs_listed entries)
one_own a entries local at e own = subst (λ (es : List Pair). All (IsOwn a) (refs_listed es)) (sym e) (All-cons (IsOwn a) at [] own (All-nil (IsOwn a)))

-- lent entries, while the arena gets nodes
pub later_own : (a b : Arena) (lent entries : List Pair) → lent ≡ entries → Adds a b (given_refs []) [] → All (IsOwn a) (refs_listed entries) → All (IsOwn b) (refs_listed lent)
later_own a b lent entries e adds own = subst (λ (es : List Pair). All (IsOwn b) (refs_listed es)) (sym e) (all_own_later a b (given_refs []) [] adds (refs_listed entries) own)

pub later_meant : (a b : Arena) (lent entries : List Pair) → lent ≡ entries → Adds a b (given_refs []) [] → All (IsOwn a) (refs_listed entries) → meant (term_of (store_of b)) lent ≡ meant (term_of (store_of a)) entries
later_meant a b lent entries e adds own = ap (meant (term_of (store_of b))) e ∙ entries_mean a b entries own adds
