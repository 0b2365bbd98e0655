-- Parsers in a row, and many steps in a row, up to a refused token.
use Rattle.std.proofs.Common.{◌≡◌, ℕ, zero, suc, ◌+◌, ◌-◌, ◌≤◌, Bool, true, false, List, ◌∷◌, ◌++◌, length, refl, sym, ◌∙◌, ap, subst, inl, inr, arith, if◌then◌else◌, length-append}
use Rattle.std.specs.Prelude.{Ok, Err}
use Rattle.luau_lex.specs.Tokens.{Tok}
use Rattle.luau_grammar.specs.declared.symbol.Symbol.{Symbol}
use Rattle.luau_grammar.specs.Places.{Place, first_symbol}
use Rattle.luau_grammar.specs.Reading.{Parser, Outcome, ◌>>=◌, and_then, refuse, repeats, repeat}
use Rattle.grammar_faults.proofs.Local.{Shorter}
use Rattle.fault_places.proofs.Closing.{Frame, place, Beyond, Before, Late, top, roof, Far, Ends, Opens, AtCut, Claim, Idle, Goes, far_then, claim_from, claim_far, both_by, opens_by}
use Rattle.fault_places.proofs.ClosingTokens.{any, never, refuses, refused_before, claim_if, idle_if, far_if}

module _ (f : Frame) where
  -- What is read before the cut can be closed, and these are the tokens that it is closed by where nothing of it is read.
  pub record Reads {A C : Type 0} (F : Symbol → Type 0) (sh : A → C) (close : List Tok → List Tok) (kind : C) (stay : C → Type 0) (r s : Parser A) : Type 0 where
    pub goes : Goes f F sh stay r s
    pub opens : Opens f (roof f) F sh close kind s
    pub late : Late f F close

module _ (f : Frame) where
  -- one parser, of whose value nothing is known, and one that takes a token
  pub link : {A B D : Type 0} {F G : Symbol → Type 0} {th : B → D} {first close : List Tok → List Tok} {kind : D} {stay : Unit {0} → Type 0} {r s : Parser A} {g k : A → Parser B}
      → Reads f F any first tt stay r s → ((x y : A) → Reads f G th close kind never (g x) (k y)) → ((zs : List Tok) → G (first_symbol zs) → F (first_symbol (close zs)))
      → Reads f G th (λ zs. first (close zs)) kind never (r >>= g) (s >>= k)
  link {A = A} {B = B} {D = D} {F = F} {G = G} {th = th} {first = first} {close = close} {kind = kind} {stay = stay} {r = r} {s = s} {g = g} {k = k} h second joins = record {
    goes = both_by f A B (Unit {0}) D F G any th stay (λ _ _. ⊥) never r s g k (λ _. close) (λ _. kind) h.goes (λ x y _. (second x y).goes) (λ y. (second y y).opens) (λ _. joins)
        (λ _ _ b. absurd b) (λ _ _ _ b. b) (λ y. (second y y).late);
    opens = opens_by f A B (Unit {0}) D F G any th stay (λ _ _. ⊥) never r s g k (λ _. close) (λ _. kind) h.opens (λ y. (second y y).opens) (λ _. joins);
    late = λ zs fol b.
        let e = h.opens.opens (close zs) 0 0 (let x : 0 ≤ roof f = omega arith in x) (joins zs fol) in
        h.late (close zs) (joins zs fol) ((second e.value e.value).late zs fol b);
  }

  -- one that takes a token, and one that may take none
  pub rest : {A B D : Type 0} {F G : Symbol → Type 0} {th : B → D} {first : List Tok → List Tok} {kind : D} {r s : Parser A} {g k : A → Parser B}
      → Reads f F any first tt never r s → ((x y : A) → Reads f G th (λ zs. zs) kind (λ z. z ≡ kind) (g x) (k y)) → ((x : Symbol) → G x → F x)
      → Reads f G th first kind never (r >>= g) (s >>= k)
  rest {A = A} {B = B} {D = D} {F = F} {G = G} {th = th} {first = first} {kind = kind} {r = r} {s = s} {g = g} {k = k} h second joins = record {
    goes = both_by f A B (Unit {0}) D F G any th never (λ _ z. z ≡ kind) never r s g k (λ _ zs. zs) (λ _. kind) h.goes (λ x y _. (second x y).goes) (λ y. (second y y).opens)
        (λ _ zs. joins (first_symbol zs)) (λ _ _ e. ((λ zs. refl), e)) (λ _ _ b _. b) (λ _ _ _ b. b);
    opens = opens_by f A B (Unit {0}) D F G any th never (λ _ z. z ≡ kind) never r s g k (λ _ zs. zs) (λ _. kind) h.opens (λ y. (second y y).opens) (λ _ zs. joins (first_symbol zs));
    late = λ zs fol. h.late zs (joins (first_symbol zs) fol);
  }

  -- two that may take none
  pub idle : {A B D : Type 0} {F G : Symbol → Type 0} {th : B → D} {kind : D} {r s : Parser A} {g k : A → Parser B}
      → Reads f F any (λ zs. zs) tt (λ z. z ≡ tt) r s → ((x y : A) → Reads f G th (λ zs. zs) kind (λ z. z ≡ kind) (g x) (k y)) → ((x : Symbol) → G x → F x)
      → Reads f G th (λ zs. zs) kind (λ z. z ≡ kind) (r >>= g) (s >>= k)
  idle {A = A} {B = B} {D = D} {F = F} {G = G} {th = th} {kind = kind} {r = r} {s = s} {g = g} {k = k} h second joins = record {
    goes = both_by f A B (Unit {0}) D F G any th (λ z. z ≡ tt) (λ _ z. z ≡ kind) (λ z. z ≡ kind) r s g k (λ _ zs. zs) (λ _. kind) h.goes (λ x y _. (second x y).goes) (λ y. (second y y).opens)
        (λ _ zs. joins (first_symbol zs)) (λ _ _ e. ((λ zs. refl), e)) (λ _ _ _ e. e) (λ _ _ _ b. b);
    opens = opens_by f A B (Unit {0}) D F G any th (λ z. z ≡ tt) (λ _ z. z ≡ kind) (λ z. z ≡ kind) r s g k (λ _ zs. zs) (λ _. kind) h.opens (λ y. (second y y).opens) (λ _ zs. joins (first_symbol zs));
    late = λ _ _ b. b;
  }

  -- ---- many steps

  pub fewer : {A : Type 0} (us vs ts : List Tok) (u v : Tok) (x : A × Place) (l m : ℕ) → x.1.ahead ≡ v ∷ (vs ++ ts) → Shorter 1 (place (u ∷ (us ++ ts)) l m) (Ok x) → length vs + 1 ≤ length us
  fewer us vs ts u v x l m e h =
      let a : length x.1.ahead ≡ length (v ∷ (vs ++ ts)) = ap length e in
      let b : length (vs ++ ts) ≡ length vs + length ts = length-append vs ts in
      let c : length (us ++ ts) ≡ length us + length ts = length-append us ts in
      omega arith

  module _ (S C : Type 0) (F G : Symbol → Type 0) (sh : S → C) (goes : S → Place → Bool) (low high : S → Parser S)
      (peeks : (x y : S) → sh y ≡ sh x → (u : Tok) (ts us : List Tok) (l m : ℕ) → goes y (place (u ∷ us) l m) ≡ goes x (place (u ∷ ts) l m))
      (steps : (x y : S) → sh y ≡ sh x → Goes f G sh never (low x) (high y))
      (stops : (y : S) (zs : List Tok) (l m : ℕ) → F (first_symbol zs) → goes y (place zs l m) ≡ false)
      (joins : (x : Symbol) → F x → G x)
      (shorter : (x : S) (p : Place) → Shorter 1 p (low x p)) where
    abbrev turn : ℕ → S → Parser S
    turn n y = repeats f.high goes high n y

    abbrev turned : ℕ → S → Parser S
    turned m x = repeats f.low goes low m x

    abbrev onward : ℕ → S → Parser S
    onward k y = λ p. turn (length p.ahead + k) y p

    stopped : (n : ℕ) (y : S) (p : Place) → goes y p ≡ false → turn n y p ≡ Ok (y, p)
    unfolding repeats
    stopped zero y p h = ap (λ z. if z then refuse f.high p else Ok (y, p)) h
    stopped (suc n) y p h = ap (λ z. if z then and_then (high y p) (turn n) else Ok (y, p)) h

    went : (n k : ℕ) (y : S) (p : Place) → n ≡ suc k → goes y p ≡ true → turn n y p ≡ and_then (high y p) (turn k)
    unfolding repeats
    went n k y p e h = ap (λ z. turn z y p) e ∙ ap (λ z. if z then and_then (high y p) (turn k) else Ok (y, p)) h

    loop_far : (m : ℕ) (x : S) (p : Place) → Beyond f p.ahead → Far f (turned m x p)
    unfolding repeats
    loop_far zero x p b = far_if f (goes x p) (refuse f.low p) (Ok (x, p)) ((refuses f F sh never).far p b) b
    loop_far (suc m) x p b = far_if f (goes x p) (and_then (low x p) (turned m)) (Ok (x, p)) (far_then f (turned m) (low x p) ((steps x x refl).far p b) (λ y q c. loop_far m y q c)) b

    idle_far : (c : C) (o : Outcome S) → Far f o → Idle f sh (λ d. d ≡ c) o
    idle_far c (Ok y) h = inl h
    idle_far c (Err e) h = tt

    step_idle : (m : ℕ) (x : S) (o : Outcome S) → Idle f sh never o → Idle f sh (λ c. c ≡ sh x) (and_then o (turned m))
    step_idle m x (Err e) i = tt
    step_idle m x (Ok y) (inl i) = idle_far (sh x) (turned m y.0 y.1) (loop_far m y.0 y.1 i)
    step_idle m x (Ok y) (inr i) = absurd i.1

    loop_idle : (m : ℕ) (x : S) (l n : ℕ) → Idle f sh (λ c. c ≡ sh x) (turned m x (place f.cut l n))
    unfolding repeats
    loop_idle zero x l n =
        let p = place f.cut l n in
        idle_if f sh (λ c. c ≡ sh x) (goes x p) (refuse f.low p) (Ok (x, p)) tt (inr (refl, refl))
    loop_idle (suc m) x l n =
        let p = place f.cut l n in
        idle_if f sh (λ c. c ≡ sh x) (goes x p) (and_then (low x p) (turned m)) (Ok (x, p)) (step_idle m x (low x p) ((steps x x refl).idle l n)) (inr (refl, refl))

    -- a step to the end of the prefix, and no more
    last_step : (k : ℕ) (y : S) (c : C) (u : Tok) (ts zs : List Tok) (l m : ℕ) → F (first_symbol zs) → goes y (place (u ∷ ts) l m) ≡ true
        → Ends f (roof f) sh c (high y) (place (u ∷ ts) l m) zs → Ends f (roof f) sh c (onward k y) (place (u ∷ ts) l m) zs
    last_step k y c u ts zs l m fol g h = record {
      value = h.value;
      last = h.last;
      level = h.level;
      low = h.low;
      same = h.same;
      reads = went (length (u ∷ ts) + k) (length ts + k) y (place (u ∷ ts) l m) (omega arith) g
          ∙ (ap (λ o. and_then o (turn (length ts + k))) h.reads ∙ stopped (length ts + k) (h.value) (place zs h.last h.level) (stops (h.value) zs (h.last) (h.level) fol));
    }

    stop_claim : (k : ℕ) (x y : S) → sh y ≡ sh x → (u : Tok) (us : List Tok) (l m : ℕ) → m ≤ top f → Before f (u ∷ us) → goes x (place (u ∷ (us ++ f.cut)) l m) ≡ false
        → Claim f F sh (onward k y) (u ∷ us) l m (Ok (x, place (u ∷ (us ++ f.cut)) l m))
    stop_claim k x y e u us l m b a g =
        inr (inl (record {
          token = u;
          rest = us;
          ahead = refl;
          before = a;
          level = b;
          value = y;
          same = e;
          reads = λ new. stopped (length (u ∷ (us ++ new)) + k) y (place (u ∷ (us ++ new)) l m) (peeks x y e u (us ++ f.cut) (us ++ new) l m ∙ g);
        }))

    -- at the cut the first parser goes on, or stops; the other stops
    cut_claim : (k : ℕ) (y : S) (u : Tok) (us : List Tok) (l m : ℕ) → ((new : List Tok) → goes y (place (u ∷ (us ++ new)) l m) ≡ true) → (x : S × Place) → AtCut f G sh (high y) (u ∷ us) l m x
        → (o : Outcome S) → Idle f sh (λ c. c ≡ sh x.0) o → Claim f F sh (onward k y) (u ∷ us) l m o
    cut_claim k y u us l m g x h (Err e) i = λ d.
        record { close = λ zs. zs; kind = sh x.0; late = λ _ _ b. b; ends = λ zs fol. last_step k y (sh x.0) u (us ++ zs) zs l m fol (g zs) (h.ends zs (joins (first_symbol zs) fol)) }
    cut_claim k y u us l m g x h (Ok z) (inl i) = inl i
    cut_claim k y u us l m g x h (Ok z) (inr i) =
        inr (inr (record {
          ahead = i.0;
          ends = λ new fol.
              subst (λ c. Ends f (roof f) sh c (onward k y) (place (u ∷ (us ++ new)) l m) new) (sym i.1)
              (last_step k y (sh x.0) u (us ++ new) new l m fol (g new) (h.ends new (joins (first_symbol new) fol)));
        }))

    abbrev Turns : ℕ → Type 0
    Turns n = (k : ℕ) (x y : S) → sh y ≡ sh x → (u : Tok) (us : List Tok) (l m : ℕ) → m ≤ top f → Before f (u ∷ us)
        → Claim f F sh (onward k y) (u ∷ us) l m (turned n x (place (u ∷ (us ++ f.cut)) l m))

    step_claim : (n : ℕ) → Turns n → (k : ℕ) (x y : S) → sh y ≡ sh x → (u : Tok) (us : List Tok) (l m : ℕ) → m ≤ top f → Before f (u ∷ us) → ((new : List Tok) → goes y (place (u ∷ (us ++ new)) l m) ≡ true)
        → (o : Outcome S) → Shorter 1 (place (u ∷ (us ++ f.cut)) l m) o → Claim f G sh (high y) (u ∷ us) l m o → Claim f F sh (onward k y) (u ∷ us) l m (and_then o (turned n))
    step_claim n again k x y e u us l m b a g (Err d) t h = λ q.
        let c = h q in
        record { close = c.close; kind = c.kind; late = λ zs fol. c.late zs (joins (first_symbol zs) fol); ends = λ zs fol. last_step k y (c.kind) u (us ++ c.close zs) zs l m fol (g (c.close zs)) (c.ends zs (joins (first_symbol zs) fol)) }
    step_claim n again k x y e u us l m b a g (Ok z) t (inl h) = claim_far f F sh (onward k y) (u ∷ us) l m (turned n z.0 z.1) (loop_far n z.0 z.1 h)
    step_claim n again k x y e u us l m b a g (Ok z) t (inr (inl h)) =
        let less = fewer us (h.rest) f.cut u (h.token) z l m h.ahead t in
        let j = length us - (length h.rest + 1) + k in
        subst (λ q. Claim f F sh (onward k y) (u ∷ us) l m (turned n z.0 q)) (sym (ap (λ ts. place ts z.1.last z.1.level) h.ahead))
        (claim_from f F sh (onward k y) (onward j h.value) (u ∷ us) (h.token ∷ h.rest) l m (z.1.last) (z.1.level)
        (λ new.
        let c : length (us ++ new) ≡ length us + length new = length-append us new in
        let d : length (h.rest ++ new) ≡ length h.rest + length new = length-append (h.rest) new in
        went (length (u ∷ (us ++ new)) + k) (length (us ++ new) + k) y (place (u ∷ (us ++ new)) l m) (omega arith) (g new)
        ∙ (ap (λ o. and_then o (turn (length (us ++ new) + k))) (h.reads new)
        ∙ (let i : length (us ++ new) + k ≡ length (h.token ∷ (h.rest ++ new)) + j = omega arith in
        ap (λ q. turn q h.value (place (h.token ∷ (h.rest ++ new)) z.1.last z.1.level)) i)))
        (turned n z.0 (place (h.token ∷ (h.rest ++ f.cut)) z.1.last z.1.level))
        (again j (z.0) (h.value) h.same (h.token) (h.rest) (z.1.last) (z.1.level) h.level h.before))
    step_claim n again k x y e u us l m b a g (Ok z) t (inr (inr h)) =
        subst (λ q. Claim f F sh (onward k y) (u ∷ us) l m (turned n z.0 q)) (sym (ap (λ ts. place ts z.1.last z.1.level) h.ahead))
        (cut_claim k y u us l m g z h (turned n z.0 (place f.cut z.1.last z.1.level)) (loop_idle n (z.0) (z.1.last) (z.1.level)))

    loop_inside : (n : ℕ) → Turns n
    unfolding repeats
    loop_inside zero k x y e u us l m b a =
        let p = place (u ∷ (us ++ f.cut)) l m in
        claim_if f F sh (onward k y) (u ∷ us) l m (goes x p) (refuse f.low p) (Ok (x, p))
        (λ _ d. absurd (refused_before f u (us ++ f.cut) l m a.0 d))
        (λ g. stop_claim k x y e u us l m b a g)
    loop_inside (suc n) k x y e u us l m b a =
        let p = place (u ∷ (us ++ f.cut)) l m in
        claim_if f F sh (onward k y) (u ∷ us) l m (goes x p) (and_then (low x p) (turned n)) (Ok (x, p))
        (λ g. step_claim n (loop_inside n) k x y e u us l m b a (λ new. peeks x y e u (us ++ f.cut) (us ++ new) l m ∙ g) (low x p) (shorter x p) ((steps x y e).inside u us l m b a))
        (λ g. stop_claim k x y e u us l m b a g)

    pub loop_reads : (x y : S) → sh y ≡ sh x → (c : C) → sh x ≡ c → Reads f F sh (λ zs. zs) c (λ d. d ≡ c) (repeat f.low goes low x) (repeat f.high goes high y)
    loop_reads x y e c i = record {
      goes = record {
        idle = λ l m. subst (λ d. Idle f sh (λ z. z ≡ d) (turned (length f.cut) x (place f.cut l m))) i (loop_idle (length f.cut) x l m);
        inside = λ u us l m b a.
            claim_from f F sh (repeat f.high goes high y) (onward 0 y) (u ∷ us) (u ∷ us) l m l m
            (λ new. let z : length (u ∷ (us ++ new)) ≡ length (u ∷ (us ++ new)) + 0 = omega arith in ap (λ q. turn q y (place (u ∷ (us ++ new)) l m)) z)
            (turned (length (u ∷ (us ++ f.cut))) x (place (u ∷ (us ++ f.cut)) l m))
            (loop_inside (length (u ∷ (us ++ f.cut))) 0 x y e u us l m b a);
        far = λ p b. loop_far (length p.ahead) x p b;
      };
      opens = record {
        opens = λ zs l m b fol. record { value = y; last = l; level = m; low = b; same = e ∙ i; reads = stopped (length zs) y (place zs l m) (stops y zs l m fol) };
      };
      late = λ _ _ b. b;
    }
