-- The parsers of prefixes that are statements' own, and of what is asked of them, up to a refused token.
use Rattle.std.proofs.Common.{◌≡◌, ℕ, zero, suc, ◌+◌, ◌-◌, ◌≤◌, Bool, true, false, List, ◌∷◌, ◌++◌, length, refl, sym, ◌∙◌, ap, subst, inl, inr, arith, if◌then◌else◌, length-append}
use Rattle.std.specs.Prelude.{Ok, Err}
use Rattle.luau_lex.specs.Tokens.{Tok}
use Rattle.luau_tree.specs.Tree.{Expr}
use Rattle.luau_grammar.specs.declared.symbol.Symbol.{Symbol}
use Rattle.luau_grammar.specs.Places.{Place, first_symbol, symbol, sees}
use Rattle.luau_grammar.specs.Expressions.{begins_suffix}
use Rattle.luau_grammar.specs.Reading as read
use Rattle.luau_grammar.specs.Reading.{Parser, Outcome, Readers, ◌>>=◌, and_then, start}
use Rattle.luau_grammar.specs.ReadExpressions as code
use Rattle.grammar_faults.proofs.Local.{Shorter}
use Rattle.grammar_faults.proofs.LocalTypes.{LocalReaders}
use Rattle.grammar_faults.proofs.LocalExpressions as terms
use Rattle.fault_places.proofs.Closing.{Frame, place, Beyond, Before, Late, top, roof, Far, Ends, Opens, AtCut, Claim, Idle, Goes, claim_far, claim_from, far_then, both_by, opens_by}
use Rattle.fault_places.proofs.ClosingTokens.{anything, never, refused_before, claim_if, idle_if, idle_of_far}
use Rattle.fault_places.proofs.ClosingSteps.{Reads, fewer}
use Rattle.fault_places.proofs.ClosingWords.{the_name}
use Rattle.fault_places.proofs.ClosingLists.{Held, some_tails}
use Rattle.fault_places.proofs.ClosingBodies.{sort, then_then}
use Rattle.fault_places.proofs.ClosingTables.{turns_far}
use Rattle.fault_places.proofs.ClosingSuffixes.{suffix_goes, primary_sort}

module _ (f : Frame) (low high : Readers) (held : Held f low high) (local : LocalReaders some_tails low) (others : LocalReaders some_tails high) where
  abbrev going : Expr → Place → Bool
  going e p = begins_suffix p

  abbrev turned : ℕ → ℕ → Expr → Parser Expr
  turned a n x = read.repeats f.low going (code.suffix f.low low a) n x

  abbrev pub turn : ℕ → ℕ → Expr → Parser Expr
  turn b n y = read.repeats f.high going (code.suffix f.high high b) n y

  pub stopped : (b n : ℕ) (y : Expr) (p : Place) → begins_suffix p ≡ false → turn b n y p ≡ Ok (y, p)
  unfolding read.repeats
  stopped b zero y p h = ap (λ z. if z then read.refuse f.high p else Ok (y, p)) h
  stopped b (suc n) y p h = ap (λ z. if z then and_then (code.suffix f.high high b y p) (turn b n) else Ok (y, p)) h

  pub went : (b n k : ℕ) (y : Expr) (p : Place) → n ≡ suc k → begins_suffix p ≡ true → turn b n y p ≡ and_then (code.suffix f.high high b y p) (turn b k)
  unfolding read.repeats
  went b n k y p e h = ap (λ z. turn b z y p) e ∙ ap (λ z. if z then and_then (code.suffix f.high high b y p) (turn b k) else Ok (y, p)) h

  turned_far : (a n : ℕ) (x : Expr) (q : Place) → Beyond f q.ahead → Far f (turned a n x q)
  turned_far a n x q c = turns_far f going (code.suffix f.low low a) (λ y p d. (suffix_goes f low high held local a a y y).far p d) n x q c

  -- ---- suffixes, and then what is asked of the prefix

  module _ {B D : Type 0} (H : Symbol → Type 0) (th : B → D) (one other : Expr → Parser B) (close : Bool × Bool → List Tok → List Tok) (kind : Bool × Bool → D) (still : Bool × Bool → D → Type 0) (a b : ℕ)
      (asks : (x y : Expr) → sort y ≡ sort x → Goes f H th (still (sort x)) (one x) (other y))
      (final : (n : ℕ) (y : Expr) (zs : List Tok) (l m : ℕ) → m ≤ roof f → H (first_symbol zs) → length (close (sort y) zs) ≤ n
      → Ends f (roof f) th (kind (sort y)) (turn b n y >>= other) (place (close (sort y) zs) l m) zs)
      (quiet : (c : Bool × Bool) (d : D) → still c d → ((zs : List Tok) → close c zs ≡ zs) × (d ≡ kind c))
      (late : (c : Bool × Bool) → Late f H (close c)) where
    abbrev onward : ℕ → Expr → Parser B
    onward k y = λ p. and_then (turn b (length p.ahead + k) y p) other

    abbrev behind : ℕ → Expr → Parser B
    behind n x = λ p. and_then (turned a n x p) one

    behind_far : (n : ℕ) (x : Expr) (q : Place) → Beyond f q.ahead → Far f (behind n x q)
    behind_far n x q c = far_then f one (turned a n x q) (turned_far a n x q c) (λ y p d. (asks y y refl).far p d)

    went_on : (n k : ℕ) (y : Expr) (p : Place) → n ≡ suc k → begins_suffix p ≡ true
        → and_then (turn b n y p) other ≡ and_then (code.suffix f.high high b y p) (λ v q. and_then (turn b k v q) other)
    went_on n k y p e h = ap (λ z. and_then z other) (went b n k y p e h) ∙ sym (then_then (code.suffix f.high high b y p) (turn b k) other)

    -- a suffix up to closing tokens, and then what closes the others
    one_and_rest : (k : ℕ) (y : Expr) (c : Bool × Bool) (u : Tok) (ts zs : List Tok) (l m : ℕ) → begins_suffix (place (u ∷ ts) l m) ≡ true → H (first_symbol zs)
        → Ends f (roof f) sort c (code.suffix f.high high b y) (place (u ∷ ts) l m) (close c zs) → Ends f (roof f) th (kind c) (onward k y) (place (u ∷ ts) l m) zs
    one_and_rest k y c u ts zs l m e fol h =
        let t : Shorter 1 (place (u ∷ ts) l m) (Ok (h.value, place (close c zs) h.last h.level)) =
        subst (λ o. Shorter 1 (place (u ∷ ts) l m) o) h.reads ((terms.suffix_local f.high high some_tails others b y).takes (place (u ∷ ts) l m)) in
        let g : Ends f (roof f) th (kind c) (turn b (length ts + k) h.value >>= other) (place (close c zs) h.last h.level) zs =
        subst (λ (z : Bool × Bool). length (close z zs) ≤ length ts + k → Ends f (roof f) th (kind z) (turn b (length ts + k) h.value >>= other) (place (close z zs) h.last h.level) zs) h.same
        (λ i. final (length ts + k) h.value zs h.last h.level h.low fol i) (omega arith) in
        record {
          value = g.value;
          last = g.last;
          level = g.level;
          low = g.low;
          same = g.same;
          reads = went_on (length (u ∷ ts) + k) (length ts + k) y (place (u ∷ ts) l m) (omega arith) e ∙ (ap (λ o. and_then o (λ v q. and_then (turn b (length ts + k) v q) other)) h.reads ∙ g.reads);
        }

    asked_idle : (x : Expr) (o : Outcome Expr) → Idle f sort (λ c. c ≡ sort x) o → Idle f th (still (sort x)) (and_then o one)
    asked_idle x (Err e) i = tt
    asked_idle x (Ok y) (inl i) = idle_of_far f th (still (sort x)) (one y.0 y.1) ((asks y.0 y.0 refl).far y.1 i)
    asked_idle x (Ok y) (inr i) =
        subst (λ c. Idle f th (still c) (one y.0 y.1)) i.1
        (subst (λ ts. Idle f th (still (sort y.0)) (one y.0 (place ts y.1.last y.1.level))) (sym i.0) ((asks y.0 y.0 refl).idle y.1.last y.1.level))

    step_idle : (n : ℕ) (x : Expr) (o : Outcome Expr) → Idle f sort never o → Idle f sort (λ c. c ≡ sort x) (and_then o (turned a n))
    step_idle n x (Err e) i = tt
    step_idle n x (Ok y) (inl i) = idle_of_far f sort (λ c. c ≡ sort x) (turned a n y.0 y.1) (turned_far a n y.0 y.1 i)
    step_idle n x (Ok y) (inr i) = absurd i.1

    turned_idle : (n : ℕ) (x : Expr) (l m : ℕ) → Idle f sort (λ c. c ≡ sort x) (turned a n x (place f.cut l m))
    unfolding read.repeats
    turned_idle zero x l m =
        let q = place f.cut l m in
        idle_if f sort (λ c. c ≡ sort x) (begins_suffix q) (read.refuse f.low q) (Ok (x, q)) tt (inr (refl, refl))
    turned_idle (suc n) x l m =
        let q = place f.cut l m in
        idle_if f sort (λ c. c ≡ sort x) (begins_suffix q) (and_then (code.suffix f.low low a x q) (turned a n)) (Ok (x, q))
        (step_idle n x (code.suffix f.low low a x q) ((suffix_goes f low high held local a a x x).idle l m)) (inr (refl, refl))

    cut_claim : (k : ℕ) (y : Expr) (u : Tok) (us : List Tok) (l m : ℕ) → ((new : List Tok) → begins_suffix (place (u ∷ (us ++ new)) l m) ≡ true) → (x : Expr × Place)
        → AtCut f anything sort (code.suffix f.high high b y) (u ∷ us) l m x → (o : Outcome B) → Idle f th (still (sort x.0)) o → Claim f H th (onward k y) (u ∷ us) l m o
    cut_claim k y u us l m g x h (Ok z) (inl i) = inl i
    cut_claim k y u us l m g x h (Ok z) (inr i) =
        let t = quiet (sort x.0) (th z.0) i.1 in
        inr (inr (record {
          ahead = i.0;
          ends = λ new fol.
              subst (λ c. Ends f (roof f) th c (onward k y) (place (u ∷ (us ++ new)) l m) new) (sym t.1)
              (one_and_rest k y (sort x.0) u (us ++ new) new l m (g new) fol
              (subst (λ z. Ends f (roof f) sort (sort x.0) (code.suffix f.high high b y) (place (u ∷ (us ++ new)) l m) z) (sym (t.0 new)) (h.ends new tt)));
        }))
    cut_claim k y u us l m g x h (Err d) i = λ q.
        record {
          close = close (sort x.0);
          kind = kind (sort x.0);
          late = late (sort x.0);
          ends = λ zs fol. one_and_rest k y (sort x.0) u (us ++ close (sort x.0) zs) zs l m (g (close (sort x.0) zs)) fol (h.ends (close (sort x.0) zs) tt);
        }

    abbrev Turns : ℕ → Type 0
    Turns n = (k : ℕ) (x y : Expr) → sort y ≡ sort x → (u : Tok) (us : List Tok) (l m : ℕ) → m ≤ top f → Before f (u ∷ us)
        → Claim f H th (onward k y) (u ∷ us) l m (behind n x (place (u ∷ (us ++ f.cut)) l m))

    step_claim : (n : ℕ) → Turns n → (k : ℕ) (x y : Expr) (u : Tok) (us : List Tok) (l m : ℕ) → m ≤ top f → Before f (u ∷ us) → ((new : List Tok) → begins_suffix (place (u ∷ (us ++ new)) l m) ≡ true)
        → (o : Outcome Expr) → Shorter 1 (place (u ∷ (us ++ f.cut)) l m) o → Claim f anything sort (code.suffix f.high high b y) (u ∷ us) l m o
        → Claim f H th (onward k y) (u ∷ us) l m (and_then o (λ v q. behind n v q))
    step_claim n again k x y u us l m h d g (Err e) t i = λ q.
        let c = i q in
        record {
          close = λ zs. c.close (close c.kind zs);
          kind = kind c.kind;
          late = λ zs fol j. c.late (close c.kind zs) tt (late c.kind zs fol j);
          ends = λ zs fol. one_and_rest k y (c.kind) u (us ++ c.close (close c.kind zs)) zs l m (g (c.close (close c.kind zs))) fol (c.ends (close c.kind zs) tt);
        }
    step_claim n again k x y u us l m h d g (Ok z) t (inl i) = claim_far f H th (onward k y) (u ∷ us) l m (behind n z.0 z.1) (behind_far n z.0 z.1 i)
    step_claim n again k x y u us l m h d g (Ok z) t (inr (inl i)) =
        let less = fewer f us (i.rest) f.cut u (i.token) z l m i.ahead t in
        let j = length us - (length i.rest + 1) + k in
        subst (λ q. Claim f H th (onward k y) (u ∷ us) l m (behind n z.0 q)) (sym (ap (λ ts. place ts z.1.last z.1.level) i.ahead))
        (claim_from f H th (onward k y) (onward j i.value) (u ∷ us) (i.token ∷ i.rest) l m (z.1.last) (z.1.level)
        (λ new.
        let v : length (us ++ new) ≡ length us + length new = length-append us new in
        let w : length (i.rest ++ new) ≡ length i.rest + length new = length-append (i.rest) new in
        went_on (length (u ∷ (us ++ new)) + k) (length (us ++ new) + k) y (place (u ∷ (us ++ new)) l m) (omega arith) (g new)
        ∙ (ap (λ o. and_then o (λ v q. and_then (turn b (length (us ++ new) + k) v q) other)) (i.reads new)
        ∙ (let e : length (us ++ new) + k ≡ length (i.token ∷ (i.rest ++ new)) + j = omega arith in
        ap (λ q. and_then (turn b q i.value (place (i.token ∷ (i.rest ++ new)) z.1.last z.1.level)) other) e)))
        (behind n z.0 (place (i.token ∷ (i.rest ++ f.cut)) z.1.last z.1.level))
        (again j (z.0) (i.value) i.same (i.token) (i.rest) (z.1.last) (z.1.level) i.level i.before))
    step_claim n again k x y u us l m h d g (Ok z) t (inr (inr i)) =
        subst (λ q. Claim f H th (onward k y) (u ∷ us) l m (behind n z.0 q)) (sym (ap (λ ts. place ts z.1.last z.1.level) i.ahead))
        (cut_claim k y u us l m g z i (behind n z.0 (place f.cut z.1.last z.1.level)) (asked_idle z.0 (turned a n z.0 (place f.cut z.1.last z.1.level)) (turned_idle n z.0 z.1.last z.1.level)))

    stop_claim : (k : ℕ) (x y : Expr) → sort y ≡ sort x → (u : Tok) (us : List Tok) (l m : ℕ) → m ≤ top f → Before f (u ∷ us) → ((new : List Tok) → begins_suffix (place (u ∷ (us ++ new)) l m) ≡ false)
        → Claim f H th (onward k y) (u ∷ us) l m (one x (place (u ∷ (us ++ f.cut)) l m))
    stop_claim k x y e u us l m h d g =
        claim_from f H th (onward k y) (other y) (u ∷ us) (u ∷ us) l m l m
        (λ new. ap (λ o. and_then o other) (stopped b (length (u ∷ (us ++ new)) + k) y (place (u ∷ (us ++ new)) l m) (g new)))
        (one x (place (u ∷ (us ++ f.cut)) l m)) ((asks x y e).inside u us l m h d)

    then_if_one : (v : Bool) (o r : Outcome Expr) → and_then (if v then o else r) one ≡ (if v then and_then o one else and_then r one)
    then_if_one true o r = refl
    then_if_one false o r = refl

    same_suffix : (u : Tok) (ts us : List Tok) (l m : ℕ) → begins_suffix (place (u ∷ ts) l m) ≡ begins_suffix (place (u ∷ us) l m)
    unfolding sees symbol
    same_suffix u ts us l m = refl

    all_turns : (n : ℕ) → Turns n
    unfolding read.repeats
    all_turns zero k x y e u us l m h d =
        let q = place (u ∷ (us ++ f.cut)) l m in
        subst (λ o. Claim f H th (onward k y) (u ∷ us) l m o) (sym (then_if_one (begins_suffix q) (read.refuse f.low q) (Ok (x, q))))
        (claim_if f H th (onward k y) (u ∷ us) l m (begins_suffix q) (and_then (read.refuse f.low q) one) (one x q)
        (λ _ i. absurd (refused_before f u (us ++ f.cut) l m d.0 i))
        (λ g. stop_claim k x y e u us l m h d (λ new. same_suffix u (us ++ new) (us ++ f.cut) l m ∙ g)))
    all_turns (suc n) k x y e u us l m h d =
        let q = place (u ∷ (us ++ f.cut)) l m in
        subst (λ o. Claim f H th (onward k y) (u ∷ us) l m o) (sym (then_if_one (begins_suffix q) (and_then (code.suffix f.low low a x q) (turned a n)) (Ok (x, q))))
        (claim_if f H th (onward k y) (u ∷ us) l m (begins_suffix q) (and_then (and_then (code.suffix f.low low a x q) (turned a n)) one) (one x q)
        (λ g. subst (λ o. Claim f H th (onward k y) (u ∷ us) l m o) (then_then (code.suffix f.low low a x q) (turned a n) one)
        (step_claim n (all_turns n) k x y u us l m h d (λ new. same_suffix u (us ++ new) (us ++ f.cut) l m ∙ g) (code.suffix f.low low a x q) ((terms.suffix_local f.low low some_tails local a x).takes q)
        ((suffix_goes f low high held local a b x y).inside u us l m h d)))
        (λ g. stop_claim k x y e u us l m h d (λ new. same_suffix u (us ++ new) (us ++ f.cut) l m ∙ g)))

    abbrev all_low : Expr → Parser B
    all_low x = read.repeat f.low going (code.suffix f.low low a) x >>= one

    abbrev all_high : Expr → Parser B
    all_high y = read.repeat f.high going (code.suffix f.high high b) y >>= other

    pub all_goes : (x y : Expr) → sort y ≡ sort x → Goes f H th (still (sort x)) (all_low x) (all_high y)
    all_goes x y e = record {
      idle = λ l m. asked_idle x (turned a (length f.cut) x (place f.cut l m)) (turned_idle (length f.cut) x l m);
      inside = λ u us l m h d.
          claim_from f H th (all_high y) (onward 0 y) (u ∷ us) (u ∷ us) l m l m
          (λ new. let z : length (u ∷ (us ++ new)) ≡ length (u ∷ (us ++ new)) + 0 = omega arith in ap (λ q. and_then (turn b q y (place (u ∷ (us ++ new)) l m)) other) z)
          (behind (length (u ∷ (us ++ f.cut))) x (place (u ∷ (us ++ f.cut)) l m))
          (all_turns (length (u ∷ (us ++ f.cut))) 0 x y e u us l m h d);
      far = λ p c. behind_far (length p.ahead) x p c;
    }

    pub all_opens : (y : Expr) → Opens f (roof f) H th (close (sort y)) (kind (sort y)) (all_high y)
    all_opens y = record {
      opens = λ zs l m h fol.
          let e = final (length (close (sort y) zs)) y zs l m h fol (omega arith) in
          record { value = e.value; last = e.last; level = e.level; low = e.low; same = e.same; reads = e.reads };
    }

    pub behind_primary : Reads f H th (λ zs. the_name f.at ∷ close (true, false) zs) (kind (true, false)) never (code.primary f.low low >>= all_low) (code.primary f.high high >>= all_high)
    behind_primary =
        let first = primary_sort f low high held local in
        record {
          goes = both_by f Expr B (Bool × Bool) D anything H sort th never still never (code.primary f.low low) (code.primary f.high high) all_low all_high close kind first.goes all_goes all_opens (λ _ _ _. tt) quiet
              (λ _ _ c _. c) (λ y. late (sort y));
          opens = opens_by f Expr B (Bool × Bool) D anything H sort th never still never (code.primary f.low low) (code.primary f.high high) all_low all_high close kind first.opens all_opens (λ _ _ _. tt);
          late = λ zs fol c. first.late (close (true, false) zs) tt (late (true, false) zs fol c);
        }
