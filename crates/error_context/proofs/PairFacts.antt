-- Two lists of entries side by side: the least local of both, and what comes behind it.
use Rattle.std.proofs.Common.{◌≡◌, ℕ, zero, suc, ◌+◌, ◌<◌, ◌≤◌, ◌==◌, Bool, true, false, List, [], ◌∷◌, ◌++◌, length, get_or, take, refl, sym, ap, ◌∙◌, subst, arith}
use Rattle.std.specs.Prelude.{Some, All, Contains, if◌then◌else◌}
use Rattle.std.proofs.lemmas.Bool.{eq-eqb, eqb-true}
use Rattle.std.proofs.lemmas.List.{take_more}
use Rattle.std.proofs.lemmas.List.Elements.{All-nil, All-cons, All-append, Contains-get_or}
use Rattle.luau_tree.specs.declared.names.LocalId.{LocalId}
use Rattle.type_arena.specs.declared.node.TypeRef.{TypeRef}
use Rattle.error_context.specs.Entries.{Entries, refs_in, locals_in, AscendFrom}
use Rattle.error_context.specs.Pairs.{ref_or, sides_or, pair_locals, past, IsNoneBefore, first_or, IsNext, alone}
use Rattle.error_context.specs.declared.pairs.Pair.{Pair}

-- ---- numbers in order

-- the least number that may come behind some
abbrev pub behind : ℕ → List ℕ → ℕ
behind n [] = n
behind n (x ∷ xs) = behind (suc x) xs

pub ascend_append : (n : ℕ) (xs ys : List ℕ) → AscendFrom n xs → AscendFrom (behind n xs) ys → AscendFrom n (xs ++ ys)
ascend_append n [] ys a b = b
ascend_append n (x ∷ xs) ys a b = (a.0, ascend_append (suc x) xs ys a.1 b)

pub behind_append : (n : ℕ) (xs : List ℕ) (y : ℕ) → behind n (xs ++ y ∷ []) ≡ suc y
behind_append n [] y = refl
behind_append n (x ∷ xs) y = behind_append (suc x) xs y

pub ascend_lower : (n m : ℕ) (xs : List ℕ) → m ≤ n → AscendFrom n xs → AscendFrom m xs
ascend_lower n m [] l a = tt
ascend_lower n m (x ∷ xs) l a = let k : n ≤ x = a.0 in (omega arith, a.1)

-- ---- one list

pub differs : (a b : ℕ) → ((a ≡ b) → ⊥) → (a == b) ≡ false
differs a b apart = go (a == b) refl
  where
    go : (t : Bool) → (a == b) ≡ t → (a == b) ≡ false
    go true e = absurd (apart (eqb-true a b e))
    go false e = e

-- a local that comes before all has no entry
pub none_before : (absent : TypeRef) (n l : ℕ) (xs : Entries) → AscendFrom n (locals_in xs) → l < n → ref_or absent xs l ≡ absent
none_before absent n l [] a k = refl
none_before absent n l (x ∷ xs) a k =
    let h : n ≤ x.0.0 = a.0 in
    ap (λ (b : Bool). if b then x.1 else ref_or absent xs l) (differs x.0.0 l (λ e. omega (arith, e)))
    ∙ none_before absent (suc x.0.0) l xs a.1 (omega arith)

-- what a local has that none comes before is the first entry
pub first_is : (absent : TypeRef) (n l : ℕ) (xs : Entries) → AscendFrom n (locals_in xs) → IsNoneBefore l xs → ref_or absent xs l ≡ first_or absent xs l
first_is absent n l [] a k = refl
first_is absent n l (x ∷ xs) a k = go (x.0.0 == l) refl
  where
    below : l < suc x.0.0
    below = let h : l ≤ x.0.0 = k in omega arith

    go : (t : Bool) → (x.0.0 == l) ≡ t → (if x.0.0 == l then x.1 else ref_or absent xs l) ≡ (if x.0.0 == l then x.1 else absent)
    go true e = ap (λ (b : Bool). if b then x.1 else ref_or absent xs l) e ∙ sym (ap (λ (b : Bool). if b then x.1 else absent) e)
    go false e =
        ap (λ (b : Bool). if b then x.1 else ref_or absent xs l) e
        ∙ none_before absent (suc x.0.0) l xs a.1 below
        ∙ sym (ap (λ (b : Bool). if b then x.1 else absent) e)

-- other locals have what they had
pub past_same : (absent : TypeRef) (n l : ℕ) (xs : Entries) → (n == l) ≡ false → ref_or absent (past n xs) l ≡ ref_or absent xs l
past_same absent n l [] apart = refl
past_same absent n l (x ∷ xs) apart = go (x.0.0 == n) refl
  where
    go : (t : Bool) → (x.0.0 == n) ≡ t → ref_or absent (if x.0.0 == n then xs else x ∷ xs) l ≡ ref_or absent (x ∷ xs) l
    go true e =
        let same : x.0.0 ≡ n = eqb-true x.0.0 n e in
        ap (λ (b : Bool). ref_or absent (if b then xs else x ∷ xs) l) e
        ∙ sym (ap (λ (b : Bool). if b then x.1 else ref_or absent xs l) (ap (λ (m : ℕ). m == l) same ∙ apart))
    go false e = ap (λ (b : Bool). ref_or absent (if b then xs else x ∷ xs) l) e

-- what comes behind a local in order
pub past_ascends : (n l : ℕ) (xs : Entries) → AscendFrom n (locals_in xs) → IsNoneBefore l xs → AscendFrom (suc l) (locals_in (past l xs))
past_ascends n l [] a k = tt
past_ascends n l (x ∷ xs) a k = go (x.0.0 == l) refl
  where
    above : (m l : ℕ) → l ≤ m → ((m ≡ l) → ⊥) → suc l ≤ m
    above m l k apart = grind (arith, k, apart)

    go : (t : Bool) → (x.0.0 == l) ≡ t → AscendFrom (suc l) (locals_in (if x.0.0 == l then xs else x ∷ xs))
    go true e =
        subst (λ (b : Bool). AscendFrom (suc l) (locals_in (if b then xs else x ∷ xs))) (sym e)
        (subst (λ (m : ℕ). AscendFrom (suc m) (locals_in xs)) (eqb-true x.0.0 l e) a.1)
    go false e =
        let other : (x.0.0 ≡ l) → ⊥ = λ d. let q : (x.0.0 == l) ≡ true = eq-eqb x.0.0 l d in cc in
        subst (λ (b : Bool). AscendFrom (suc l) (locals_in (if b then xs else x ∷ xs))) (sym e) (above x.0.0 l k other, a.1)

-- the references of what comes behind
pub past_refs : (P : TypeRef → Type 0) (l : ℕ) (xs : Entries) → All P (refs_in xs) → All P (refs_in (past l xs))
past_refs P l [] all = all
past_refs P l (x ∷ xs) all = go (x.0.0 == l)
  where
    go : (t : Bool) → All P (refs_in (if t then xs else x ∷ xs))
    go true = λ k d i. all (suc k) d (omega (arith, i))
    go false = all

-- ---- pairs

pub sides_append : (absent : TypeRef × TypeRef) (ps : List Pair) (p : Pair) (l : ℕ)
    → sides_or absent (ps ++ p ∷ []) l ≡ sides_or (if p.local.0 == l then (p.left, p.right) else absent) ps l
sides_append absent [] p l = refl
sides_append absent (q ∷ ps) p l = ap (λ (r : TypeRef × TypeRef). if q.local.0 == l then (q.left, q.right) else r) (sides_append absent ps p l)

pub locals_append : (ps : List Pair) (p : Pair) → pair_locals (ps ++ p ∷ []) ≡ pair_locals ps ++ p.local.0 ∷ []
locals_append [] p = refl
locals_append (q ∷ ps) p = ap (λ (ls : List ℕ). q.local.0 ∷ ls) (locals_append ps p)

both_same : {X Y : Type 0} (a b : X) (c d : Y) → a ≡ b → c ≡ d → ◌≡◌ {A = X × Y} (a, c) (b, d)
both_same a b c d e f = λ i. (e i, f i)

-- both lists behind a local, and the local's pair
pub next_sides : (absent : TypeRef) (n m : ℕ) (a b : Entries) (p : Pair) → AscendFrom n (locals_in a) → AscendFrom m (locals_in b) → IsNext absent a b (Some p) → (l : ℕ)
    → ◌≡◌ {A = TypeRef × TypeRef} (if p.local.0 == l then (p.left, p.right) else (ref_or absent (past p.local.0 a) l, ref_or absent (past p.local.0 b) l)) (ref_or absent a l, ref_or absent b l)
next_sides absent n m a b p up vp next l = go (p.local.0 == l) refl
  where
    one_of : Bool → TypeRef × TypeRef
    one_of t = if t then (p.left, p.right) else (ref_or absent (past p.local.0 a) l, ref_or absent (past p.local.0 b) l)

    go : (t : Bool) → (p.local.0 == l) ≡ t
        → ◌≡◌ {A = TypeRef × TypeRef} (if p.local.0 == l then (p.left, p.right) else (ref_or absent (past p.local.0 a) l, ref_or absent (past p.local.0 b) l)) (ref_or absent a l, ref_or absent b l)
    go true e =
        let same : p.local.0 ≡ l = eqb-true p.local.0 l e in
        let left : p.left ≡ ref_or absent a l = next.2 ∙ sym (first_is absent n p.local.0 a up next.0) ∙ ap (ref_or absent a) same in
        let right : p.right ≡ ref_or absent b l = next.3 ∙ sym (first_is absent m p.local.0 b vp next.1) ∙ ap (ref_or absent b) same in
        ap (λ (t : Bool). one_of t) e
        ∙ both_same _ _ _ _ left right
    go false e =
        let left : ref_or absent (past p.local.0 a) l ≡ ref_or absent a l = past_same absent p.local.0 l a e in
        let right : ref_or absent (past p.local.0 b) l ≡ ref_or absent b l = past_same absent p.local.0 l b e in
        ap (λ (t : Bool). one_of t) e
        ∙ both_same _ _ _ _ left right

-- what stands while two lists are put side by side
pub record Running (absent : TypeRef) (a b lefts rights : Entries) (pairs : List Pair) : Type 0 where
  pub sides : (l : ℕ) → sides_or (ref_or absent lefts l, ref_or absent rights l) pairs l ≡ (ref_or absent a l, ref_or absent b l)
  pub sorted : AscendFrom 0 (pair_locals pairs)
  pub left_order : AscendFrom (behind 0 (pair_locals pairs)) (locals_in lefts)
  pub right_order : AscendFrom (behind 0 (pair_locals pairs)) (locals_in rights)
  pub left_refs : All (λ p. Contains (absent ∷ refs_in a) p.left) pairs
  pub right_refs : All (λ p. Contains (absent ∷ refs_in b) p.right) pairs
  pub more_lefts : All (Contains (absent ∷ refs_in a)) (refs_in lefts)
  pub more_rights : All (Contains (absent ∷ refs_in b)) (refs_in rights)

inside_more : {X : Type 0} (x : X) (xs : List X) → (y : X) → Contains xs y → Contains (x ∷ xs) y
inside_more x xs y h = (suc h.0, (let k = h.1 in omega (arith, k)), h.2)

inside_head : {X : Type 0} (x : X) (xs : List X) → Contains (x ∷ xs) x
inside_head x xs = (zero, omega arith, refl)

all_inside : {X : Type 0} (x : X) (xs : List X) → All (Contains (x ∷ xs)) xs
all_inside x xs = λ k d l. inside_more x xs _ (Contains-get_or xs k d l)

pub running_starts : (absent : TypeRef) (a b : Entries) → AscendFrom 0 (locals_in a) → AscendFrom 0 (locals_in b) → Running absent a b a b []
running_starts absent a b up vp = record {
  sides = λ l. refl;
  sorted = tt;
  left_order = up;
  right_order = vp;
  left_refs = All-nil (λ p. Contains (absent ∷ refs_in a) p.left);
  right_refs = All-nil (λ p. Contains (absent ∷ refs_in b) p.right);
  more_lefts = all_inside absent (refs_in a);
  more_rights = all_inside absent (refs_in b);
}

-- the first reference, or another one
first_in : (P : TypeRef → Type 0) (absent : TypeRef) (xs : Entries) (l : ℕ) → P absent → All P (refs_in xs) → P (first_or absent xs l)
first_in P absent [] l p all = p
first_in P absent (x ∷ xs) l p all = go (x.0.0 == l)
  where
    go : (t : Bool) → P (if t then x.1 else absent)
    go true = all zero x.1 (omega arith)
    go false = p

-- a pair's local comes behind those of the pairs before
next_behind : (absent : TypeRef) (n : ℕ) (a b : Entries) (p : Pair) → AscendFrom n (locals_in a) → AscendFrom n (locals_in b) → IsNext absent a b (Some p) → n ≤ p.local.0
next_behind absent n [] [] p up vp next = let h = next.4 in absurd (omega (arith, h))
next_behind absent n [] (y ∷ b) p up vp next = go (y.0.0 == p.local.0) refl
  where
    go : (t : Bool) → (y.0.0 == p.local.0) ≡ t → n ≤ p.local.0
    go true e = subst (λ (m : ℕ). n ≤ m) (eqb-true y.0.0 p.local.0 e) vp.0
    go false e =
        let h = subst (λ (t : Bool). suc (0 + length (if t then b else y ∷ b)) ≤ 0 + length (y ∷ b)) e next.4 in
        absurd (omega (arith, h))
next_behind absent n (x ∷ a) b p up vp next = go (x.0.0 == p.local.0) refl
  where
    go : (t : Bool) → (x.0.0 == p.local.0) ≡ t → n ≤ p.local.0
    go true e = subst (λ (m : ℕ). n ≤ m) (eqb-true x.0.0 p.local.0 e) up.0
    go false e = by_right b vp next.4
      where
        by_right : (b : Entries) → AscendFrom n (locals_in b) → suc (length (past p.local.0 (x ∷ a)) + length (past p.local.0 b)) ≤ length (x ∷ a) + length b → n ≤ p.local.0
        by_right [] vp h =
            let k = subst (λ (t : Bool). suc (length (if t then a else x ∷ a) + 0) ≤ length (x ∷ a) + 0) e h in
            absurd (omega (arith, k))
        by_right (y ∷ b) vp h = here (y.0.0 == p.local.0) refl
          where
            here : (t : Bool) → (y.0.0 == p.local.0) ≡ t → n ≤ p.local.0
            here true d = subst (λ (m : ℕ). n ≤ m) (eqb-true y.0.0 p.local.0 d) vp.0
            here false d =
                let k = subst (λ (t : Bool). suc (length (if t then a else x ∷ a) + length (past p.local.0 (y ∷ b))) ≤ length (x ∷ a) + length (y ∷ b)) e h in
                let j = subst (λ (t : Bool). suc (length (x ∷ a) + length (if t then b else y ∷ b)) ≤ length (x ∷ a) + length (y ∷ b)) d k in
                absurd (omega (arith, j))

pub running_goes_on : (absent : TypeRef) (a b lefts rights : Entries) (pairs : List Pair) (p : Pair) → Running absent a b lefts rights pairs → IsNext absent lefts rights (Some p)
    → Running absent a b (past p.local.0 lefts) (past p.local.0 rights) (pairs ++ p ∷ [])
running_goes_on absent a b lefts rights pairs p r next =
    let n = behind 0 (pair_locals pairs) in
    let low : n ≤ p.local.0 = next_behind absent n lefts rights p r.left_order r.right_order next in
    let last : behind 0 (pair_locals (pairs ++ p ∷ [])) ≡ suc p.local.0 = ap (behind 0) (locals_append pairs p) ∙ behind_append 0 (pair_locals pairs) p.local.0 in
    record {
      sides = λ l.
          sides_append _ pairs p l
          ∙ ap (λ (d : TypeRef × TypeRef). sides_or d pairs l) (next_sides absent n n lefts rights p r.left_order r.right_order next l)
          ∙ r.sides l;
      sorted = subst (AscendFrom 0) (sym (locals_append pairs p)) (ascend_append 0 (pair_locals pairs) (p.local.0 ∷ []) r.sorted (low, tt));
      left_order = subst (λ (m : ℕ). AscendFrom m (locals_in (past p.local.0 lefts))) (sym last) (past_ascends n p.local.0 lefts r.left_order next.0);
      right_order = subst (λ (m : ℕ). AscendFrom m (locals_in (past p.local.0 rights))) (sym last) (past_ascends n p.local.0 rights r.right_order next.1);
      left_refs = All-append (λ p. Contains (absent ∷ refs_in a) p.left) pairs (p ∷ []) r.left_refs
          (All-cons (λ p. Contains (absent ∷ refs_in a) p.left) p [] (subst (Contains (absent ∷ refs_in a)) (sym next.2) (first_in (Contains (absent ∷ refs_in a)) absent lefts p.local.0 (inside_head absent (refs_in a)) r.more_lefts))
          (All-nil (λ p. Contains (absent ∷ refs_in a) p.left)));
      right_refs = All-append (λ p. Contains (absent ∷ refs_in b) p.right) pairs (p ∷ []) r.right_refs
          (All-cons (λ p. Contains (absent ∷ refs_in b) p.right) p [] (subst (Contains (absent ∷ refs_in b)) (sym next.3) (first_in (Contains (absent ∷ refs_in b)) absent rights p.local.0 (inside_head absent (refs_in b)) r.more_rights))
          (All-nil (λ p. Contains (absent ∷ refs_in b) p.right)));
      more_lefts = past_refs (Contains (absent ∷ refs_in a)) p.local.0 lefts r.more_lefts;
      more_rights = past_refs (Contains (absent ∷ refs_in b)) p.local.0 rights r.more_rights;
    }

-- each entry on both sides
alone_append : (xs ys : Entries) → alone (xs ++ ys) ≡ alone xs ++ alone ys
alone_append [] ys = refl
alone_append (x ∷ xs) ys = ap (λ (ps : List Pair). record { local = x.0; left = x.1; right = x.1 } ∷ ps) (alone_append xs ys)

pub alone_more : (xs : Entries) (i : ℕ) (d : LocalId × TypeRef) → i < length xs → alone (take (i + 1) xs) ≡ alone (take i xs) ++ record { local = (get_or xs i d).0; left = (get_or xs i d).1; right = (get_or xs i d).1 } ∷ []
alone_more xs i d l = ap alone (take_more xs i d l) ∙ alone_append (take i xs) (get_or xs i d ∷ [])

-- the same, of lists that are said to be these
pub running_on : (absent : TypeRef) (a b lefts rights lefts2 rights2 : Entries) (pairs pairs2 : List Pair) (p : Pair) → Running absent a b lefts rights pairs → IsNext absent lefts rights (Some p)
    → lefts2 ≡ past p.local.0 lefts → rights2 ≡ past p.local.0 rights → pairs2 ≡ pairs ++ p ∷ [] → Running absent a b lefts2 rights2 pairs2
running_on absent a b lefts rights lefts2 rights2 pairs pairs2 p r next e f g =
    subst (λ (x : Entries). Running absent a b x rights2 pairs2) (sym e)
    (subst (λ (y : Entries). Running absent a b (past p.local.0 lefts) y pairs2) (sym f)
    (subst (λ (z : List Pair). Running absent a b (past p.local.0 lefts) (past p.local.0 rights) z) (sym g)
    (running_goes_on absent a b lefts rights pairs p r next)))

pub alone_on : (xs : Entries) (i : ℕ) (d : LocalId × TypeRef) (old new : List Pair) → i < length xs → old ≡ alone (take i xs)
    → new ≡ old ++ record { local = (get_or xs i d).0; left = (get_or xs i d).1; right = (get_or xs i d).1 } ∷ [] → new ≡ alone (take (i + 1) xs)
alone_on xs i d old new l e f =
    f ∙ ap (λ (ps : List Pair). ps ++ record { local = (get_or xs i d).0; left = (get_or xs i d).1; right = (get_or xs i d).1 } ∷ []) e ∙ sym (alone_more xs i d l)
