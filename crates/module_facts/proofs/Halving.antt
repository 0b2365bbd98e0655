-- Looking up a local by where its name begins.
use Rattle.std.proofs.Common.{◌≡◌, ℕ, zero, suc, ◌+◌, ◌<◌, ◌≤◌, ◌==◌, Bool, true, false, List, [], ◌∷◌, map, length, get_or, refl, sym, ap, ◌∙◌, arith, eq-eqb, eqb-true, inl, inr}
use Rattle.std.specs.Prelude.{if◌then◌else◌}
use Rattle.std.proofs.lemmas.Bool.Decides.{leb_tells}
use Rattle.luau_scope.specs.declared.reading.LocalInfo.{LocalInfo}
use Rattle.luau_scope.specs.Laws.{AscendFrom}
use Rattle.module_reading.specs.Names.{declared_from}

-- locals whose names begin one behind the other
abbrev pub Ascends : ℕ → List LocalInfo → Type 0
Ascends lowest locals = AscendFrom lowest (map (λ l. l.declared.start) locals)

pub least : (lowest : ℕ) (ls : List LocalInfo) (k : ℕ) (d : LocalInfo) → Ascends lowest ls → k < length ls → lowest ≤ (get_or ls k d).declared.start
least lowest [] k d a lt = absurd (omega arith)
least lowest (l ∷ ls) zero d a lt = a.0
least lowest (l ∷ ls) (suc k) d a lt =
    let h : suc l.declared.start ≤ (get_or ls k d).declared.start = least (suc l.declared.start) ls k d a.1 (omega arith) in
    let g : lowest ≤ l.declared.start = a.0 in omega arith

-- what stands behind begins behind
pub behind : (lowest : ℕ) (ls : List LocalInfo) (i j : ℕ) (d e : LocalInfo) → Ascends lowest ls → i ≤ j → j < length ls → (get_or ls i d).declared.start ≤ (get_or ls j e).declared.start
behind lowest [] i j d e a le lt = absurd (omega arith)
behind lowest (l ∷ ls) zero zero d e a le lt = omega arith
behind lowest (l ∷ ls) zero (suc j) d e a le lt =
    let h : suc l.declared.start ≤ (get_or ls j e).declared.start = least (suc l.declared.start) ls j e a.1 (omega arith) in omega arith
behind lowest (l ∷ ls) (suc i) zero d e a le lt = absurd (omega arith)
behind lowest (l ∷ ls) (suc i) (suc j) d e a le lt = behind (suc l.declared.start) ls i j d e a.1 (omega arith) (omega arith)

differs : (a b : ℕ) (t : Bool) → (a == b) ≡ t → (a ≡ b → ⊥) → t ≡ false
differs a b true q h = absurd (h (eqb-true a b q))
differs a b false q h = refl

-- the local that begins at an offset is the one that is declared there
found_from : (n lowest : ℕ) (ls : List LocalInfo) (m : ℕ) (x : LocalInfo) (offset : ℕ) → Ascends lowest ls → m < length ls → (get_or ls m x).declared.start ≡ offset → declared_from n ls offset ≡ n + m
found_from n lowest [] m x offset a lt e = absurd (omega arith)
found_from n lowest (l ∷ ls) zero x offset a lt e =
    ap (λ (b : Bool). if b then n else declared_from (suc n) ls offset) (eq-eqb l.declared.start offset e) ∙ (omega arith)
found_from n lowest (l ∷ ls) (suc m) x offset a lt e =
    let h : suc l.declared.start ≤ (get_or ls m x).declared.start = least (suc l.declared.start) ls m x a.1 (omega arith) in
    ap (λ (b : Bool). if b then n else declared_from (suc n) ls offset) (differs l.declared.start offset (l.declared.start == offset) refl (λ same. omega arith))
    ∙ found_from (suc n) (suc l.declared.start) ls m x offset a.1 (omega arith) e ∙ (omega arith)

pub found_at : (ls : List LocalInfo) (m : ℕ) (x : LocalInfo) (offset : ℕ) → Ascends 0 ls → m < length ls → x ≡ get_or ls m x → x.declared.start ≡ offset → m ≡ declared_from 0 ls offset
found_at ls m x offset a lt is e =
    let whole : declared_from 0 ls offset ≡ 0 + m = found_from 0 0 ls m x offset a lt (ap (λ (l : LocalInfo). l.declared.start) (sym is) ∙ e) in omega arith

missing_from : (n : ℕ) (ls : List LocalInfo) (offset : ℕ) → ((k : ℕ) (d : LocalInfo) → k < length ls → (get_or ls k d).declared.start ≡ offset → ⊥) → declared_from n ls offset ≡ n + length ls
missing_from n [] offset h = omega arith
missing_from n (l ∷ ls) offset h =
    ap (λ (b : Bool). if b then n else declared_from (suc n) ls offset) (differs l.declared.start offset (l.declared.start == offset) refl (h zero l (omega arith)))
    ∙ missing_from (suc n) ls offset (λ k d lt. h (suc k) d (omega arith)) ∙ (omega arith)

-- all before a place begin before an offset, and all from a place on begin behind it
pub record Around (ls : List LocalInfo) (first end offset : ℕ) : Type 0 where
  pub within : end ≤ length ls
  pub below : (k : ℕ) (d : LocalInfo) → k < first → k < length ls → (get_or ls k d).declared.start < offset
  pub above : (k : ℕ) (d : LocalInfo) → end ≤ k → k < length ls → offset < (get_or ls k d).declared.start

pub all_around : (ls : List LocalInfo) (offset : ℕ) → Around ls 0 (length ls) offset
all_around ls offset = record {
  within = omega arith;
  below = λ k d lt within. absurd (omega arith);
  above = λ k d ge lt. absurd (omega arith);
}

pub upper_half : (ls : List LocalInfo) (first end offset m : ℕ) (x : LocalInfo) → Ascends 0 ls → Around ls first end offset → m < end → x ≡ get_or ls m x → x.declared.start < offset → Around ls (m + 1) end offset
upper_half ls first end offset m x a r lt is less =
    let in_list : m < length ls = omega (arith, r.within) in
    record {
      within = r.within;
      below = λ k d lt within.
          let before : (get_or ls k d).declared.start ≤ (get_or ls m x).declared.start = behind 0 ls k m d x a (omega arith) in_list in
          let same : (get_or ls m x).declared.start ≡ x.declared.start = ap (λ (l : LocalInfo). l.declared.start) (sym is) in omega arith;
      above = r.above;
    }

pub lower_half : (ls : List LocalInfo) (first end offset m : ℕ) (x : LocalInfo) → Ascends 0 ls → Around ls first end offset → m < end → x ≡ get_or ls m x → offset < x.declared.start → Around ls first m offset
lower_half ls first end offset m x a r lt is more =
    let in_list : m < length ls = omega (arith, r.within) in
    record {
      within = omega arith;
      below = r.below;
      above = λ k d ge lt.
          let after : (get_or ls m x).declared.start ≤ (get_or ls k d).declared.start = behind 0 ls m k x d a ge lt in
          let same : (get_or ls m x).declared.start ≡ x.declared.start = ap (λ (l : LocalInfo). l.declared.start) (sym is) in omega arith;
    }

-- where nothing is left between the places, no local is declared at the offset
pub missing : (ls : List LocalInfo) (first end offset : ℕ) → Around ls first end offset → end ≤ first → length ls ≡ declared_from 0 ls offset
missing ls first end offset r le =
    let whole : declared_from 0 ls offset ≡ 0 + length ls = missing_from 0 ls offset (λ k d lt same. by_place k d lt same) in omega arith
  where
    by_place : (k : ℕ) (d : LocalInfo) → k < length ls → (get_or ls k d).declared.start ≡ offset → ⊥
    by_place k d lt same = elim (leb_tells end k) [
      | inl t ↦ let more : offset < (get_or ls k d).declared.start = r.above k d t.1 lt in omega arith
      | inr t ↦ let less : (get_or ls k d).declared.start < offset = r.below k d (omega (arith, t.1)) lt in omega arith
    ]
