-- Parsers in a row where a value tells how to go on, choices by two tokens, and levels that are restored.
use Rattle.std.proofs.Common.{◌≡◌, ℕ, ◌≤◌, Bool, true, false, List, [], ◌∷◌, ◌++◌, length, refl, ◌∙◌, ap, inl, inr, arith, if◌then◌else◌}
use Rattle.std.specs.Prelude.{Ok, Err}
use Rattle.luau_lex.specs.Tokens.{Tok}
use Rattle.luau_grammar.specs.declared.symbol.Symbol.{Symbol}
use Rattle.luau_grammar.specs.declared.symbol.Symbol.TheVariants as s
use Rattle.luau_grammar.specs.Symbols.{same, symbol_of}
use Rattle.luau_grammar.specs.Places.{Place, first_symbol, at_level}
use Rattle.luau_grammar.specs.Reading as read
use Rattle.luau_grammar.specs.Reading.{Parser, Outcome, ◌>>=◌, and_then}
use Rattle.luau_grammar.proofs.OperatorSteps.{steps_end}
use Rattle.grammar_faults.proofs.Local.{Shorter}
use Rattle.fault_places.proofs.Closing.{Frame, ApartOf, place, Beyond, Before, Late, top, roof, Far, Ends, Opens, Claim, Idle, Goes, claim_far, claim_from, both_by, opens_by}
use Rattle.fault_places.proofs.ClosingTokens.{anything, any, never, goes_by, Peek, claim_if, idle_if, far_if, ends_by, fits_roof, leveled_idle, leveled_far, idle_of_far, other_opens, forget, forget_opens}
use Rattle.fault_places.proofs.ClosingSteps.{Reads, fewer}
use Rattle.fault_places.proofs.ClosingBodies.{then_then, deep_symbol}

module _ (f : Frame) where
  -- ---- where a value tells how to go on

  -- one that takes a token, and one that may take none
  pub follow_by : {A B C D : Type 0} {F G : Symbol → Type 0} {sh : A → C} {th : B → D} {first : List Tok → List Tok} {c : C} {r s : Parser A} {g k : A → Parser B} (to : C → D)
      → Reads f F sh first c never r s → ((x y : A) → sh y ≡ sh x → Reads f G th (λ zs. zs) (to (sh x)) (λ z. z ≡ to (sh x)) (g x) (k y)) → ((x : Symbol) → G x → F x)
      → Reads f G th first (to c) never (r >>= g) (s >>= k)
  follow_by {A = A} {B = B} {C = C} {D = D} {F = F} {G = G} {sh = sh} {th = th} {first = first} {c = c} {r = r} {s = s} {g = g} {k = k} to h second joins = record {
    goes = both_by f A B C D F G sh th never (λ c d. d ≡ to c) never r s g k (λ _ zs. zs) to h.goes (λ x y e. (second x y e).goes) (λ y. (second y y refl).opens)
        (λ _ zs. joins (first_symbol zs)) (λ _ _ e. ((λ zs. refl), e)) (λ _ _ b _. b) (λ _ _ _ b. b);
    opens = opens_by f A B C D F G sh th never (λ c d. d ≡ to c) never r s g k (λ _ zs. zs) to h.opens (λ y. (second y y refl).opens) (λ _ zs. joins (first_symbol zs));
    late = λ zs fol. h.late zs (joins (first_symbol zs) fol);
  }

  -- one, and another that takes a token
  pub link_by : {A B C D : Type 0} {F G : Symbol → Type 0} {sh : A → C} {th : B → D} {first close : List Tok → List Tok} {c : C} {stay : C → Type 0} {r s : Parser A} {g k : A → Parser B} (to : C → D)
      → Reads f F sh first c stay r s → ((x y : A) → sh y ≡ sh x → Reads f G th close (to (sh x)) never (g x) (k y)) → ((zs : List Tok) → G (first_symbol zs) → F (first_symbol (close zs)))
      → Reads f G th (λ zs. first (close zs)) (to c) never (r >>= g) (s >>= k)
  link_by {A = A} {B = B} {C = C} {D = D} {F = F} {G = G} {sh = sh} {th = th} {first = first} {close = close} {c = c} {stay = stay} {r = r} {s = s} {g = g} {k = k} to h second joins = record {
    goes = both_by f A B C D F G sh th stay (λ _ _. ⊥) never r s g k (λ _. close) to h.goes (λ x y e. (second x y e).goes) (λ y. (second y y refl).opens) (λ _. joins)
        (λ _ _ b. absurd b) (λ _ _ _ b. b) (λ y. (second y y refl).late);
    opens = opens_by f A B C D F G sh th stay (λ _ _. ⊥) never r s g k (λ _. close) to h.opens (λ y. (second y y refl).opens) (λ _. joins);
    late = λ zs fol b.
        let e = h.opens.opens (close zs) 0 0 (let x : 0 ≤ roof f = omega arith in x) (joins zs fol) in
        h.late (close zs) (joins zs fol) ((second e.value e.value refl).late zs fol b);
  }

  -- what takes a token at the cut, and then another parser
  pub never_then : {A B C D : Type 0} (sh : A → C) (th : B → D) (stay : D → Type 0) (g : A → Parser B) (o : Outcome A) → Idle f sh never o
      → ((x : A) (q : Place) → Beyond f q.ahead → Far f (g x q)) → Idle f th stay (and_then o g)
  never_then sh th stay g (Err e) h k = tt
  never_then sh th stay g (Ok x) (inl h) k = idle_of_far f th stay (g x.0 x.1) (k x.0 x.1 h)
  never_then sh th stay g (Ok x) (inr h) k = absurd h.1

  -- of whose value nothing is said
  pub forget_reads : {A C : Type 0} {F : Symbol → Type 0} {sh : A → C} {close : List Tok → List Tok} {kind : C} {r s : Parser A} → Reads f F sh close kind never r s → Reads f F any close tt never r s
  forget_reads h = record { goes = forget f (λ d b. b) h.goes; opens = forget_opens f h.opens; late = h.late }

  -- two that may take none
  pub idle_goes : {A B D : Type 0} {F G : Symbol → Type 0} {th : B → D} {kind : D} {r s : Parser A} {g k : A → Parser B}
      → Goes f F any (λ z. z ≡ tt) r s → ((x y : A) → Reads f G th (λ zs. zs) kind (λ z. z ≡ kind) (g x) (k y)) → ((x : Symbol) → G x → F x)
      → Goes f G th (λ z. z ≡ kind) (r >>= g) (s >>= k)
  idle_goes {A = A} {B = B} {D = D} {F = F} {G = G} {th = th} {kind = kind} {r = r} {s = s} {g = g} {k = k} h second joins =
      both_by f A B (Unit {0}) D F G any th (λ z. z ≡ tt) (λ _ z. z ≡ kind) (λ z. z ≡ kind) r s g k (λ _ zs. zs) (λ _. kind) h (λ x y _. (second x y).goes) (λ y. (second y y).opens)
      (λ _ zs. joins (first_symbol zs)) (λ _ _ e. ((λ zs. refl), e)) (λ _ _ _ e. e) (λ _ _ _ b. b)

  -- what goes on one level deeper, and may take no token
  pub deeper_rest : {B D : Type 0} {G : Symbol → Type 0} {th : B → D} {kind : D} {g k : Unit {0} → Parser B} (x : Symbol)
      → ((x y : Unit {0}) → Reads f G th (λ zs. zs) kind (λ z. z ≡ kind) (g x) (k y))
      → Goes f G th never (read.expect f.low x >>= (λ _. read.raise f.low >>= g)) (read.expect f.high x >>= (λ _. read.raise f.high >>= k))
  deeper_rest {B = B} {D = D} {G = G} {th = th} {kind = kind} {g = g} {k = k} x h =
      goes_by f
      (λ p. then_then (read.expect f.low x p) (λ _. read.raise f.low) g)
      (λ p. then_then (read.expect f.high x p) (λ _. read.raise f.high) k)
      (both_by f (Unit {0}) B (Unit {0}) D anything G any th never (λ _ z. z ≡ kind) never (read.expect f.low x >>= (λ _. read.raise f.low)) (read.expect f.high x >>= (λ _. read.raise f.high)) g k
      (λ _ zs. zs) (λ _. kind) (deep_symbol f x) (λ x y _. (h x y).goes) (λ y. (h y y).opens) (λ _ _ _. tt) (λ _ _ e. ((λ zs. refl), e)) (λ _ _ b _. b) (λ _ _ _ b. b))

  -- ---- closing tokens alone, at each level

  pub opens_link : {A B D : Type 0} {F G : Symbol → Type 0} {th : B → D} {first close : List Tok → List Tok} {kind : D} {s : Parser A} {k : A → Parser B} (a : ℕ)
      → Opens f a F any first tt s → ((y : A) → Opens f a G th close kind (k y)) → ((zs : List Tok) → G (first_symbol zs) → F (first_symbol (close zs)))
      → Opens f a G th (λ zs. first (close zs)) kind (s >>= k)
  opens_link {A = A} {B = B} {D = D} {F = F} {G = G} {th = th} {first = first} {close = close} {kind = kind} {s = s} {k = k} a h second joins =
      opens_by f A B (Unit {0}) D F G any th never (λ _ _. ⊥) never s s k k (λ _. close) (λ _. kind) h second (λ _. joins)

  pub loop_opens : {S C : Type 0} {F : Symbol → Type 0} (a : ℕ) (sh : S → C) (goes : S → Place → Bool) (step : S → Parser S) (y : S)
      → ((zs : List Tok) (l m : ℕ) → F (first_symbol zs) → goes y (place zs l m) ≡ false) → Opens f a F sh (λ zs. zs) (sh y) (read.repeat f.high goes step y)
  loop_opens a sh goes step y stops = record {
    opens = λ zs l m b fol. record { value = y; last = l; level = m; low = b; same = refl; reads = steps_end f.high goes step (length zs) (place zs l m) y (stops zs l m fol) };
  }

  -- ---- by what the next token says

  pub by_peek : {A C X : Type 0} {F : Symbol → Type 0} {sh : A → C} {stay : C → Type 0} (c : Place → X) (r t : X → Parser A) → Peek c
      → ((x : X) → Goes f F sh stay (r x) (t x)) → Goes f F sh stay (λ p. r (c p) p) (λ p. t (c p) p)
  by_peek {F = F} {sh = sh} c r t peek h = record {
    idle = λ l m. (h (c (place f.cut l m))).idle l m;
    inside = λ u us l m b a.
        let q = place (u ∷ (us ++ f.cut)) l m in
        claim_from f F sh (λ p. t (c p) p) (t (c q)) (u ∷ us) (u ∷ us) l m l m
        (λ new. ap (λ z. t z (place (u ∷ (us ++ new)) l m)) (peek u (us ++ new) (us ++ f.cut) l m)) (r (c q) q) ((h (c q)).inside u us l m b a);
    far = λ p b. (h (c p)).far p b;
  }

  pub opens_at : {A C X : Type 0} {a : ℕ} {F : Symbol → Type 0} {sh : A → C} {close : List Tok → List Tok} {kind : C} (c : Place → X) (t : X → Parser A) (x : X)
      → ((zs : List Tok) (l m : ℕ) → F (first_symbol zs) → c (place (close zs) l m) ≡ x) → Opens f a F sh close kind (t x) → Opens f a F sh close kind (λ p. t (c p) p)
  opens_at {a = a} {sh = sh} {close = close} {kind = kind} c t x there h = record {
    opens = λ zs l m b fol. ends_by f a sh kind (λ p. t (c p) p) (t x) (place (close zs) l m) zs (ap (λ z. t z (place (close zs) l m)) (there zs l m fol)) (h.opens zs l m b fol);
  }

  -- ---- the level of the beginning again

  abbrev back : {A : Type 0} → Parser A → Parser A
  back r = λ p. and_then (r p) (λ x q. Ok (x, at_level p.level q))

  back_ends : {A C : Type 0} (a : ℕ) (sh : A → C) (kind : C) (v : Parser A) (ts zs : List Tok) (l m : ℕ) → m ≤ a → Ends f a sh kind v (place ts l m) zs → Ends f a sh kind (back v) (place ts l m) zs
  back_ends a sh kind v ts zs l m k e = record { value = e.value; last = e.last; level = m; low = k; same = e.same; reads = ap (λ o. and_then o (λ x q. Ok (x, at_level m q))) e.reads }

  back_claim : {A C : Type 0} (F : Symbol → Type 0) (sh : A → C) (v : Parser A) (us : List Tok) (l m : ℕ) → m ≤ top f → (o : Outcome A)
      → Claim f F sh v us l m o → Claim f F sh (back v) us l m (and_then o (λ x q. Ok (x, at_level m q)))
  back_claim F sh v us l m b (Err e) h = λ d.
      let c = h d in
      record { close = c.close; kind = c.kind; late = c.late; ends = λ zs fol. back_ends (roof f) sh (c.kind) v (us ++ c.close zs) zs l m (fits_roof f m b) (c.ends zs fol) }
  back_claim F sh v us l m b (Ok x) (inl h) = inl h
  back_claim F sh v us l m b (Ok x) (inr (inl h)) =
      inr (inl (record { token = h.token; rest = h.rest; ahead = h.ahead; before = h.before; level = b; value = h.value; same = h.same; reads = λ new. ap (λ o. and_then o (λ x q. Ok (x, at_level m q))) (h.reads new) }))
  back_claim F sh v us l m b (Ok x) (inr (inr h)) =
      inr (inr (record { ahead = h.ahead; ends = λ new fol. back_ends (roof f) sh (sh x.0) v (us ++ new) new l m (fits_roof f m b) (h.ends new fol) }))

  pub restored : {A C : Type 0} {F : Symbol → Type 0} {sh : A → C} {stay : C → Type 0} {r v : Parser A} → Goes f F sh stay r v → Goes f F sh stay (back r) (back v)
  restored {F = F} {sh = sh} {stay = stay} {r = r} {v = v} h = record {
    idle = λ l m. leveled_idle f sh stay m (r (place f.cut l m)) (h.idle l m);
    inside = λ u us l m b a. back_claim F sh v (u ∷ us) l m b (r (place (u ∷ (us ++ f.cut)) l m)) (h.inside u us l m b a);
    far = λ p b. leveled_far f (p.level) (r p) (h.far p b);
  }

  pub restored_opens : {A C : Type 0} {a : ℕ} {F : Symbol → Type 0} {sh : A → C} {close : List Tok → List Tok} {kind : C} {v : Parser A} → Opens f a F sh close kind v → Opens f a F sh close kind (back v)
  restored_opens {a = a} {sh = sh} {close = close} {kind = kind} {v = v} h = record { opens = λ zs l m b fol. back_ends a sh kind v (close zs) zs l m b (h.opens zs l m b fol) }

  -- ---- choices by two tokens

  module _ (A C : Type 0) (F : Symbol → Type 0) (sh : A → C) (c : Place → Bool) (r g t v : Parser A)
      (plain : (u : Tok) → same (symbol_of u) s.Name ≡ false → (ts us : List Tok) (l m : ℕ) → c (place (u ∷ ts) l m) ≡ c (place (u ∷ us) l m))
      (two : (u w : Tok) (ts us : List Tok) (l m : ℕ) → c (place (u ∷ (w ∷ ts)) l m) ≡ c (place (u ∷ (w ∷ us)) l m))
      (beyond : (u : Tok) (l m : ℕ) → ApartOf f.cut u → same (symbol_of u) s.Name ≡ true → c (place (u ∷ f.cut) l m) ≡ true → Far f (r (place (u ∷ f.cut) l m)))
      (unseen : (u : Tok) → same (symbol_of u) s.Name ≡ true → (zs : List Tok) (l m : ℕ) → F (first_symbol zs) → c (place (u ∷ zs) l m) ≡ false)
      (close : List Tok → List Tok) (late : Late f F close) (kind : C)
      (closing : (u : Tok) → same (symbol_of u) s.Name ≡ true → (zs : List Tok) (l m : ℕ) → F (first_symbol zs) → c (place (u ∷ close zs) l m) ≡ false)
      (named : (u : Tok) → same (symbol_of u) s.Name ≡ true → Opens f (roof f) F sh (λ zs. u ∷ close zs) kind v)
      (shorter : (p : Place) → Shorter 1 p (t p)) where
    abbrev chosen : Parser A
    chosen = λ p. if c p then g p else v p

    no_fewer : (u w : Tok) (vs : List Tok) (x : A × Place) (l m : ℕ) → x.1.ahead ≡ w ∷ (vs ++ f.cut) → Shorter 1 (place (u ∷ f.cut) l m) (Ok x) → ⊥
    no_fewer u w vs x l m e h = let k = fewer f [] vs f.cut u w x l m e h in absurd (omega arith)

    pub name_opens : (u : Tok) → same (symbol_of u) s.Name ≡ true → Opens f (roof f) F sh (λ zs. u ∷ close zs) kind chosen
    name_opens u e = other_opens f {close = λ zs. u ∷ close zs} c g (λ zs l m fol. closing u e zs l m fol) (named u e)

    name_claim : (u : Tok) (l m : ℕ) → m ≤ top f → same (symbol_of u) s.Name ≡ true → (o : Outcome A) → Shorter 1 (place (u ∷ f.cut) l m) o → Claim f F sh v (u ∷ []) l m o → Claim f F sh chosen (u ∷ []) l m o
    name_claim u l m b e (Err d) h k = λ _. record { close = close; kind = kind; late = late; ends = λ zs fol. (name_opens u e).opens zs l m (fits_roof f m b) fol }
    name_claim u l m b e (Ok x) h (inl k) = inl k
    name_claim u l m b e (Ok x) h (inr (inl k)) = absurd (no_fewer u k.token k.rest x l m k.ahead h)
    name_claim u l m b e (Ok x) h (inr (inr k)) =
        inr (inr (record {
          ahead = k.ahead;
          ends = λ zs fol.
              ends_by f (roof f) sh (sh x.0) chosen v (place (u ∷ zs) l m) zs
              (ap (λ z. if z then g (place (u ∷ zs) l m) else v (place (u ∷ zs) l m)) (unseen u e zs l m fol)) (k.ends zs fol);
        }))

    -- the tests agree
    alike : Goes f F sh never r g → Goes f F sh never t v → (u : Tok) (us : List Tok) (l m : ℕ) → m ≤ top f → Before f (u ∷ us)
        → ((new : List Tok) → c (place (u ∷ (us ++ new)) l m) ≡ c (place (u ∷ (us ++ f.cut)) l m))
        → Claim f F sh chosen (u ∷ us) l m (if c (place (u ∷ (us ++ f.cut)) l m) then r (place (u ∷ (us ++ f.cut)) l m) else t (place (u ∷ (us ++ f.cut)) l m))
    alike h k u us l m b a peek =
        let q = place (u ∷ (us ++ f.cut)) l m in
        claim_if f F sh chosen (u ∷ us) l m (c q) (r q) (t q)
        (λ e. claim_from f F sh chosen g (u ∷ us) (u ∷ us) l m l m
        (λ new. ap (λ z. if z then g (place (u ∷ (us ++ new)) l m) else v (place (u ∷ (us ++ new)) l m)) (peek new ∙ e)) (r q) (h.inside u us l m b a))
        (λ e. claim_from f F sh chosen v (u ∷ us) (u ∷ us) l m l m
        (λ new. ap (λ z. if z then g (place (u ∷ (us ++ new)) l m) else v (place (u ∷ (us ++ new)) l m)) (peek new ∙ e)) (t q) (k.inside u us l m b a))

    single : Goes f F sh never r g → Goes f F sh never t v → (u : Tok) (l m : ℕ) → m ≤ top f → Before f (u ∷ []) → (b : Bool) → same (symbol_of u) s.Name ≡ b
        → Claim f F sh chosen (u ∷ []) l m (if c (place (u ∷ f.cut) l m) then r (place (u ∷ f.cut) l m) else t (place (u ∷ f.cut) l m))
    single h k u l m b a false e = alike h k u [] l m b a (λ new. plain u e new f.cut l m)
    single h k u l m b a true e =
        let q = place (u ∷ f.cut) l m in
        claim_if f F sh chosen (u ∷ []) l m (c q) (r q) (t q)
        (λ d. claim_far f F sh chosen (u ∷ []) l m (r q) (beyond u l m a.0 e d))
        (λ d. name_claim u l m b e (t q) (shorter q) (k.inside u [] l m b a))

    inside_two : Goes f F sh never r g → Goes f F sh never t v → (u : Tok) (us : List Tok) (l m : ℕ) → m ≤ top f → Before f (u ∷ us)
        → Claim f F sh chosen (u ∷ us) l m (if c (place (u ∷ (us ++ f.cut)) l m) then r (place (u ∷ (us ++ f.cut)) l m) else t (place (u ∷ (us ++ f.cut)) l m))
    inside_two h k u [] l m b a = single h k u l m b a (same (symbol_of u) s.Name) refl
    inside_two h k u (w ∷ ws) l m b a = alike h k u (w ∷ ws) l m b a (λ new. two u w (ws ++ new) (ws ++ f.cut) l m)

    pub by_two : Goes f F sh never r g → Goes f F sh never t v → Goes f F sh never (λ p. if c p then r p else t p) chosen
    by_two h k = record {
      idle = λ l m. idle_if f sh never (c (place f.cut l m)) (r (place f.cut l m)) (t (place f.cut l m)) (h.idle l m) (k.idle l m);
      inside = λ u us l m b a. inside_two h k u us l m b a;
      far = λ p b. far_if f (c p) (r p) (t p) (h.far p b) (k.far p b);
    }
