-- What a list says that two lists say together, where all types are flat and in normal form.
use Rattle.std.proofs.Common.{◌≡◌, ℕ, suc, ◌<◌, ◌≤◌, ◌==◌, Bool, true, false, List, [], ◌∷◌, map, refl, sym, ap, ◌∙◌, subst, arith}
use Rattle.std.specs.Prelude.{◌||◌, ◌&&◌, ⊤, if◌then◌else◌}
use Rattle.std.proofs.lemmas.Bool.Decides.{nat_tests}
use Rattle.std.specs.declared.cmp.Ordering.{Ordering}
use Rattle.std.specs.declared.cmp.Ordering.TheVariants.{Less, Equal, Greater}
use Rattle.std.specs.Ordering.{nat_cmp}
use Rattle.luau_scope.specs.Laws.{AscendFrom}
use Rattle.type_arena.specs.Term.{Term, term}
use Rattle.type_normal.specs.Free.{is_normal_free}
use Rattle.type_normal.specs.Kinds.{unknown}
use Rattle.type_normal.specs.Members.{by_order}
use Rattle.type_normal.specs.Operations.{is_flat}
use Rattle.type_normal.specs.Rows.{is_normal, are_normal_rows}
use Rattle.type_normal.proofs.Public.{unknown_or, or_unknown, unknown_and, and_unknown, flat_union, flat_meet}
use Rattle.type_ops.proofs.KeepFacts.{union_normal, meet_normal}
use Rattle.guards.specs.Lists.{alone_type, alone, together, beside, joined, type_in, is_listed}
use Rattle.guards.specs.declared.joining.Join.{Join}
use Rattle.guards.specs.declared.joining.Join.TheVariants.{Both, Either}

-- ## Types

-- a type in normal form whose rows are none or all tables
pub record IsPlain (t : Term) : Type 0 where
  pub flat : is_flat t ≡ true
  pub normal : is_normal t ≡ true

pub unknown_plain : IsPlain unknown
unknown_plain = record { flat = refl; normal = refl }

left : (a b : Bool) → a && b ≡ true → a ≡ true
left true b e = refl
left false b e = cc

pub together_plain : (how : Join) (t u : Term) → IsPlain t → IsPlain u → IsPlain (together how t u)
together_plain Both t u p q = record { flat = flat_meet t u p.flat q.flat; normal = meet_normal t u p.normal q.normal }
together_plain Either t u p q = record { flat = flat_union t u p.flat q.flat; normal = union_normal t u p.normal q.normal }

pub alone_plain : (how : Join) (t : Term) → IsPlain t → IsPlain (alone_type how t)
alone_plain Both t p = p
alone_plain Either t p = unknown_plain

-- a type beside unknown
pub after_unknown : (how : Join) (t : Term) → IsPlain t → together how unknown t ≡ alone_type how t
after_unknown Both (term f r) p = unknown_and f r p.flat (left (is_normal_free f) (are_normal_rows r) p.normal)
after_unknown Either t p = unknown_or t p.flat

pub before_unknown : (how : Join) (t : Term) → IsPlain t → together how t unknown ≡ alone_type how t
before_unknown Both (term f r) p = and_unknown f r p.flat (left (is_normal_free f) (are_normal_rows r) p.normal)
before_unknown Either t p = or_unknown t p.flat

-- ## Lists

-- the entries are in the order of their locals, from a lowest one on, and their types are plain
abbrev pub Orderly : ℕ → List (ℕ × Term) → Type 0
Orderly lowest [] = ⊤
Orderly lowest (x ∷ xs) = (lowest ≤ x.0) × IsPlain x.1 × Orderly (suc x.0) xs

pub ascends : (lowest : ℕ) (xs : List (ℕ × Term)) → Orderly lowest xs → AscendFrom lowest (map (λ x. x.0) xs)
ascends lowest [] o = tt
ascends lowest (x ∷ xs) o = (o.0, ascends (suc x.0) xs o.2)

lower : (m n : ℕ) (xs : List (ℕ × Term)) → m ≤ n → Orderly n xs → Orderly m xs
lower m n [] l o = tt
lower m n (x ∷ xs) l o = let first : n ≤ x.0 = o.0 in (omega arith, o.1, o.2)

if_is : (b : Bool) (t u : Term) → IsPlain t → IsPlain u → IsPlain (if b then t else u)
if_is true t u p q = p
if_is false t u p q = q

pub type_plain : (m local : ℕ) (xs : List (ℕ × Term)) → Orderly m xs → IsPlain (type_in xs local)
type_plain m local [] o = unknown_plain
type_plain m local (x ∷ xs) o = if_is (x.0 == local) x.1 (type_in xs local) o.1 (type_plain (suc x.0) local xs o.2)

-- below the lowest nothing is listed
other : (a b : ℕ) → a < b → (b == a) ≡ false
other a b l = grind (arith, nat_tests)

pub unlisted : (m local : ℕ) (xs : List (ℕ × Term)) → local < m → Orderly m xs → type_in xs local ≡ unknown
unlisted m local [] l o = refl
unlisted m local (x ∷ xs) l o =
    let first : m ≤ x.0 = o.0 in
    let below : local < x.0 = omega arith in
    let rest : local < suc x.0 = omega arith in
    ap (λ (b : Bool). if b then x.1 else type_in xs local) (other local x.0 below) ∙ unlisted (suc x.0) local xs rest o.2

lt_suc : (a b : ℕ) → a < b → suc a ≤ b
lt_suc a b l = omega arith

le_self : (a : ℕ) → a ≤ a
le_self a = omega arith

cmp_less : (a b : ℕ) → nat_cmp a b ≡ Less → a < b
cmp_less a b e = grind (arith, nat_tests)

cmp_equal : (a b : ℕ) → nat_cmp a b ≡ Equal → a ≡ b
cmp_equal a b e = grind (arith, nat_tests)

cmp_greater : (a b : ℕ) → nat_cmp a b ≡ Greater → b < a
cmp_greater a b e = grind (arith, nat_tests)

pub same : (a b : ℕ) → (a == b) ≡ true → a ≡ b
same a b e = grind (arith, nat_tests)

-- ## Two lists together

abbrev Entries : Type 0
Entries = List (ℕ × Term)

both_unknown : (how : Join) → together how unknown unknown ≡ unknown
both_unknown Both = refl
both_unknown Either = refl

-- entries that only one list has
alone_by : (how : Join) (b : Bool) (t u rest : Term) → IsPlain t → u ≡ together how unknown rest → (if b then alone_type how t else u) ≡ together how unknown (if b then t else rest)
alone_by how true t u rest p e = sym (after_unknown how t p)
alone_by how false t u rest p e = e

alone_says : (how : Join) (m local : ℕ) (ys : Entries) → Orderly m ys → type_in (map (alone how) ys) local ≡ together how unknown (type_in ys local)
alone_says how m local [] o = sym (both_unknown how)
alone_says how m local (y ∷ ys) o = alone_by how (y.0 == local) y.1 (type_in (map (alone how) ys) local) (type_in ys local) o.1 (alone_says how (suc y.0) local ys o.2)

-- what is known of what comes of the entries behind one
abbrev SaysBehind : Join → ℕ → Entries → (Entries → Entries) → Type 0
SaysBehind how local xs f = (m : ℕ) (zs : Entries) → Orderly m zs → type_in (f zs) local ≡ together how (type_in xs local) (type_in zs local)

last_by : (how : Join) (b : Bool) (t u rest : Term) → IsPlain t → u ≡ together how rest unknown → (if b then alone_type how t else u) ≡ together how (if b then t else rest) unknown
last_by how true t u rest p e = sym (before_unknown how t p)
last_by how false t u rest p e = e

-- the entry of the first list comes first
less_by : (how : Join) (local n : ℕ) (x y : ℕ × Term) (xs ys : Entries) (u : Term) → x.0 < y.0 → IsPlain x.1 → Orderly n (y ∷ ys) → u ≡ together how (type_in xs local) (type_in (y ∷ ys) local) → (b : Bool) → (x.0 == local) ≡ b
    → (if b then alone_type how x.1 else u) ≡ together how (if b then x.1 else type_in xs local) (type_in (y ∷ ys) local)
less_by how local n x y xs ys u l p o e true f =
    let below : local < y.0 = subst (λ (k : ℕ). k < y.0) (same x.0 local f) l in
    sym (ap (together how x.1) (unlisted y.0 local (y ∷ ys) below (le_self y.0, o.1, o.2)) ∙ before_unknown how x.1 p)
less_by how local n x y xs ys u l p o e false f = e

-- both have the local
equal_by : (how : Join) (local : ℕ) (x y : ℕ × Term) (xs ys : Entries) (u : Term) → x.0 ≡ y.0 → u ≡ together how (type_in xs local) (type_in ys local) → (b : Bool) → (y.0 == local) ≡ b
    → (if b then together how x.1 y.1 else u) ≡ together how (if b then x.1 else type_in xs local) (if b then y.1 else type_in ys local)
equal_by how local x y xs ys u s e true f = refl
equal_by how local x y xs ys u s e false f = e

-- the entry of the second list comes first
greater_by : (how : Join) (local m : ℕ) (x y : ℕ × Term) (xs ys : Entries) (u : Term) → y.0 < x.0 → IsPlain y.1 → Orderly m (x ∷ xs) → u ≡ together how (type_in (x ∷ xs) local) (type_in ys local) → (b : Bool) → (y.0 == local) ≡ b
    → (if b then alone_type how y.1 else u) ≡ together how (type_in (x ∷ xs) local) (if b then y.1 else type_in ys local)
greater_by how local m x y xs ys u l p o e true f =
    let below : local < x.0 = subst (λ (k : ℕ). k < x.0) (same y.0 local f) l in
    sym (ap (λ (t : Term). together how t y.1) (unlisted x.0 local (x ∷ xs) below (le_self x.0, o.1, o.2)) ∙ after_unknown how y.1 p)
greater_by how local m x y xs ys u l p o e false f = e

beside_by : (how : Join) (local m n : ℕ) (x y : ℕ × Term) (xs ys : Entries) (f : Entries → Entries) (rest : Entries) → Orderly m (x ∷ xs) → Orderly n (y ∷ ys)
    → type_in (f (y ∷ ys)) local ≡ together how (type_in xs local) (type_in (y ∷ ys) local) → type_in (f ys) local ≡ together how (type_in xs local) (type_in ys local)
    → type_in rest local ≡ together how (type_in (x ∷ xs) local) (type_in ys local) → (c : Ordering) → nat_cmp x.0 y.0 ≡ c
    → type_in (by_order c (alone how x ∷ f (y ∷ ys)) ((x.0, together how x.1 y.1) ∷ f ys) (alone how y ∷ rest)) local ≡ together how (type_in (x ∷ xs) local) (type_in (y ∷ ys) local)
beside_by how local m n x y xs ys f rest o p less equal greater Less e =
    less_by how local n x y xs ys (type_in (f (y ∷ ys)) local) (cmp_less x.0 y.0 e) o.1 p less (x.0 == local) refl
beside_by how local m n x y xs ys f rest o p less equal greater Equal e =
    let s : x.0 ≡ y.0 = cmp_equal x.0 y.0 e in
    ap (λ (k : ℕ). if k == local then together how x.1 y.1 else type_in (f ys) local) s
    ∙ equal_by how local x y xs ys (type_in (f ys) local) s equal (y.0 == local) refl
    ∙ ap (λ (k : ℕ). together how (if k == local then x.1 else type_in xs local) (if y.0 == local then y.1 else type_in ys local)) (sym s)
beside_by how local m n x y xs ys f rest o p less equal greater Greater e =
    greater_by how local m x y xs ys (type_in rest local) (cmp_greater x.0 y.0 e) p.1 o greater (y.0 == local) refl

beside_says : (how : Join) (local m : ℕ) (x : ℕ × Term) (xs : Entries) (f : Entries → Entries) → SaysBehind how local xs f → Orderly m (x ∷ xs) → (n : ℕ) (ys : Entries) → Orderly n ys
    → type_in (beside how x f ys) local ≡ together how (type_in (x ∷ xs) local) (type_in ys local)
beside_says how local m x xs f behind o n [] p = last_by how (x.0 == local) x.1 (type_in (f []) local) (type_in xs local) o.1 (behind 0 [] tt)
beside_says how local m x xs f behind o n (y ∷ ys) p =
    beside_by how local m n x y xs ys f (beside how x f ys) o p (behind n (y ∷ ys) p) (behind (suc y.0) ys p.2) (beside_says how local m x xs f behind o (suc y.0) ys p.2) (nat_cmp x.0 y.0) refl

pub joined_says : (how : Join) (local m : ℕ) (xs : Entries) → Orderly m xs → (n : ℕ) (ys : Entries) → Orderly n ys → type_in (joined how xs ys) local ≡ together how (type_in xs local) (type_in ys local)
joined_says how local m [] o n ys p = alone_says how n local ys p
joined_says how local m (x ∷ xs) o n ys p = beside_says how local m x xs (joined how xs) (joined_says how local (suc x.0) xs o.2) o n ys p

-- the list of both has the locals of each
alone_has : (how : Join) (local : ℕ) (ys : Entries) → is_listed (map (alone how) ys) local ≡ is_listed ys local
alone_has how local [] = refl
alone_has how local (y ∷ ys) = ap (λ (b : Bool). (y.0 == local) || b) (alone_has how local ys)

or_false : (a : Bool) → a || false ≡ a
or_false true = refl
or_false false = refl

or_swap : (a b c : Bool) → b || (a || c) ≡ a || (b || c)
or_swap true true c = refl
or_swap true false c = refl
or_swap false true c = refl
or_swap false false c = refl

or_assoc : (a b c : Bool) → (a || b) || c ≡ a || (b || c)
or_assoc true b c = refl
or_assoc false b c = refl

or_double : (a b c : Bool) → (a || b) || (a || c) ≡ a || (b || c)
or_double true b c = refl
or_double false b c = refl

has_by : (how : Join) (local : ℕ) (x y : ℕ × Term) (xs ys : Entries) (f : Entries → Entries) (rest : Entries) → ((zs : Entries) → is_listed (f zs) local ≡ is_listed xs local || is_listed zs local)
    → is_listed rest local ≡ is_listed (x ∷ xs) local || is_listed ys local → (c : Ordering) → nat_cmp x.0 y.0 ≡ c
    → is_listed (by_order c (alone how x ∷ f (y ∷ ys)) ((x.0, together how x.1 y.1) ∷ f ys) (alone how y ∷ rest)) local ≡ is_listed (x ∷ xs) local || is_listed (y ∷ ys) local
has_by how local x y xs ys f rest behind more Less e =
    ap (λ (b : Bool). (x.0 == local) || b) (behind (y ∷ ys)) ∙ sym (or_assoc (x.0 == local) (is_listed xs local) (is_listed (y ∷ ys) local))
has_by how local x y xs ys f rest behind more Equal e =
    ap (λ (b : Bool). (x.0 == local) || b) (behind ys)
    ∙ sym (or_double (x.0 == local) (is_listed xs local) (is_listed ys local))
    ∙ ap (λ (k : ℕ). ((x.0 == local) || is_listed xs local) || ((k == local) || is_listed ys local)) (cmp_equal x.0 y.0 e)
has_by how local x y xs ys f rest behind more Greater e = ap (λ (b : Bool). (y.0 == local) || b) more ∙ or_swap (is_listed (x ∷ xs) local) (y.0 == local) (is_listed ys local)

beside_has : (how : Join) (local : ℕ) (x : ℕ × Term) (xs : Entries) (f : Entries → Entries) → ((zs : Entries) → is_listed (f zs) local ≡ is_listed xs local || is_listed zs local) → (ys : Entries)
    → is_listed (beside how x f ys) local ≡ is_listed (x ∷ xs) local || is_listed ys local
beside_has how local x xs f behind [] = ap (λ (b : Bool). (x.0 == local) || b) (behind []) ∙ sym (or_assoc (x.0 == local) (is_listed xs local) false)
beside_has how local x xs f behind (y ∷ ys) = has_by how local x y xs ys f (beside how x f ys) behind (beside_has how local x xs f behind ys) (nat_cmp x.0 y.0) refl

pub joined_has : (how : Join) (local : ℕ) (xs ys : Entries) → is_listed (joined how xs ys) local ≡ is_listed xs local || is_listed ys local
joined_has how local [] ys = alone_has how local ys
joined_has how local (x ∷ xs) ys = beside_has how local x xs (joined how xs) (joined_has how local xs) ys

-- and it is orderly
alone_orderly : (how : Join) (m : ℕ) (ys : Entries) → Orderly m ys → Orderly m (map (alone how) ys)
alone_orderly how m [] o = tt
alone_orderly how m (y ∷ ys) o = (o.0, alone_plain how y.1 o.1, alone_orderly how (suc y.0) ys o.2)

orderly_by : (how : Join) (m : ℕ) (x y : ℕ × Term) (ys : Entries) (f : Entries → Entries) (rest : Entries) → ((zs : Entries) → Orderly (suc x.0) zs → Orderly (suc x.0) (f zs)) → IsPlain x.1 → m ≤ x.0 → Orderly m (y ∷ ys)
    → (suc y.0 ≤ x.0 → Orderly (suc y.0) rest) → (c : Ordering) → nat_cmp x.0 y.0 ≡ c → Orderly m (by_order c (alone how x ∷ f (y ∷ ys)) ((x.0, together how x.1 y.1) ∷ f ys) (alone how y ∷ rest))
orderly_by how m x y ys f rest behind p l o more Less e =
    let k : suc x.0 ≤ y.0 = lt_suc x.0 y.0 (cmp_less x.0 y.0 e) in
    (l, alone_plain how x.1 p, behind (y ∷ ys) (k, o.1, o.2))
orderly_by how m x y ys f rest behind p l o more Equal e = (l, together_plain how x.1 y.1 p o.1, behind ys (subst (λ (k : ℕ). Orderly (suc k) ys) (sym (cmp_equal x.0 y.0 e)) o.2))
orderly_by how m x y ys f rest behind p l o more Greater e = (o.0, alone_plain how y.1 o.1, more (lt_suc y.0 x.0 (cmp_greater x.0 y.0 e)))

beside_orderly : (how : Join) (x : ℕ × Term) (f : Entries → Entries) → ((zs : Entries) → Orderly (suc x.0) zs → Orderly (suc x.0) (f zs)) → IsPlain x.1 → (ys : Entries) (m : ℕ) → m ≤ x.0 → Orderly m ys
    → Orderly m (beside how x f ys)
beside_orderly how x f behind p [] m l o = (l, alone_plain how x.1 p, behind [] tt)
beside_orderly how x f behind p (y ∷ ys) m l o =
    orderly_by how m x y ys f (beside how x f ys) behind p l o (λ k. beside_orderly how x f behind p ys (suc y.0) k o.2) (nat_cmp x.0 y.0) refl

pub joined_orderly : (how : Join) (m : ℕ) (xs ys : Entries) → Orderly m xs → Orderly m ys → Orderly m (joined how xs ys)
joined_orderly how m [] ys o p = alone_orderly how m ys p
joined_orderly how m (x ∷ xs) ys o p = beside_orderly how x (joined how xs) (λ zs q. joined_orderly how (suc x.0) xs zs o.2 q) o.1 ys m o.0 p
