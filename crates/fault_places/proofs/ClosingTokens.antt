-- Single tokens, choices and phrases of their own, up to a refused token.
use Rattle.std.proofs.Common.{◌≡◌, ℕ, ◌+◌, ◌≤◌, Bool, true, false, List, [], ◌∷◌, ◌++◌, refl, sym, ◌∙◌, ap, subst, inl, inr, arith, if◌then◌else◌, leb-true, le-leb}
use Rattle.std.specs.Prelude.{Ok, Err, nat_le}
use Rattle.luau_lex.specs.Tokens.{Tok}
use Rattle.luau_grammar.specs.declared.error.ParseError.TheVariants.{Unexpected, UnexpectedEnd, AmbiguousCall, Nesting}
use Rattle.luau_grammar.specs.declared.symbol.Symbol.{Symbol}
use Rattle.luau_grammar.specs.Places.{Place, first_symbol, at_level, raised, behind}
use Rattle.luau_grammar.specs.Reading.{Setting, Parser, Outcome, ◌>>=◌, and_then, refusal, deep_refusal, refuse, next, raise, phrase}
use Rattle.fault_places.proofs.Closing.{Frame, CutLate, BeyondOf, ApartOf, fault_of, place, Beyond, Before, fault, top, roof, peak, Far, Ends, Opens, Claim, Idle, Goes, far_then, claim_from}

-- follows of every kind, and the value that tells nothing
abbrev pub anything : Symbol → Type 0
anything x = Unit {0}

abbrev pub any : {A : Type 0} → A → Unit {0}
any x = tt

-- a parser takes a token in any case, or gives this where it takes none
abbrev pub never : {C : Type 0} → C → Type 0
never c = ⊥

-- a test depends on the next token
abbrev pub Peek : {C : Type 0} → (Place → C) → Type 0
Peek c = (u : Tok) (ts us : List Tok) (l m : ℕ) → c (place (u ∷ ts) l m) ≡ c (place (u ∷ us) l m)

pub nesting_apart : (len n : ℕ) (cut : List Tok) → Nesting n ≡ fault_of len cut → ⊥
nesting_apart len n [] e = absurd (cc)
nesting_apart len n (t ∷ ts) e = absurd (cc)

pub ambiguous_apart : (len n : ℕ) (cut : List Tok) → AmbiguousCall n ≡ fault_of len cut → ⊥
ambiguous_apart len n [] e = absurd (cc)
ambiguous_apart len n (t ∷ ts) e = absurd (cc)

start_of_fault : (a b : ℕ) → Unexpected a ≡ Unexpected b → a ≡ b
start_of_fault a b e = cc

refused_apart : (len : ℕ) (cut : List Tok) (u : Tok) → ApartOf cut u → Unexpected u.span.start ≡ fault_of len cut → ⊥
refused_apart len [] u h e = absurd (cc)
refused_apart len (t ∷ ts) u h e = h (start_of_fault u.span.start t.span.start e)

late_apart : (len bound : ℕ) (cut : List Tok) (u : Tok) (us : List Tok) → CutLate bound cut → BeyondOf bound cut (u ∷ us) → Unexpected u.span.start ≡ fault_of len cut → ⊥
late_apart len bound [] u us h b e = b
late_apart len bound (t ∷ ts) u us h b e =
    let d = start_of_fault u.span.start t.span.start e in
    absurd (omega arith)

end_apart : (len bound : ℕ) (cut : List Tok) → BeyondOf bound cut [] → UnexpectedEnd len ≡ fault_of len cut → ⊥
end_apart len bound [] b e = b
end_apart len bound (t ∷ ts) b e = absurd (cc)

beyond_next : (bound : ℕ) (cut : List Tok) (u : Tok) (us : List Tok) → BeyondOf bound cut (u ∷ us) → BeyondOf bound cut us
beyond_next bound [] u us b = b
beyond_next bound (t ∷ ts) u us b = b.1

module _ (f : Frame) where
  pub far_if : {A : Type 0} (b : Bool) (o r : Outcome A) → Far f o → Far f r → Far f (if b then o else r)
  far_if true o r h k = h
  far_if false o r h k = k

  pub idle_if : {A C : Type 0} (sh : A → C) (stay : C → Type 0) (b : Bool) (o r : Outcome A) → Idle f sh stay o → Idle f sh stay r → Idle f sh stay (if b then o else r)
  idle_if sh stay true o r h k = h
  idle_if sh stay false o r h k = k

  pub claim_if : {A C : Type 0} (F : Symbol → Type 0) (sh : A → C) (s : Parser A) (us : List Tok) (l m : ℕ) (b : Bool) (o r : Outcome A)
      → (b ≡ true → Claim f F sh s us l m o) → (b ≡ false → Claim f F sh s us l m r) → Claim f F sh s us l m (if b then o else r)
  claim_if F sh s us l m true o r h k = h refl
  claim_if F sh s us l m false o r h k = k refl

  -- ---- refusals

  pub refused_far : (ts : List Tok) (l m : ℕ) → Beyond f ts → refusal f.low (place ts l m) ≡ fault f → ⊥
  unfolding refusal
  refused_far [] l m b = end_apart f.low.len f.bound f.cut b
  refused_far (u ∷ us) l m b = late_apart f.low.len f.bound f.cut u us f.late b

  deep_far : (ts : List Tok) (l m : ℕ) → Beyond f ts → deep_refusal f.low (place ts l m) ≡ fault f → ⊥
  unfolding deep_refusal
  deep_far [] l m b = end_apart f.low.len f.bound f.cut b
  deep_far (u ∷ us) l m b = nesting_apart f.low.len u.span.start f.cut

  pub refused_before : (u : Tok) (us : List Tok) (l m : ℕ) → ApartOf f.cut u → refusal f.low (place (u ∷ us) l m) ≡ fault f → ⊥
  unfolding refusal
  refused_before u us l m a = refused_apart f.low.len f.cut u a

  deep_before : (u : Tok) (us : List Tok) (l m : ℕ) → deep_refusal f.low (place (u ∷ us) l m) ≡ fault f → ⊥
  unfolding deep_refusal
  deep_before u us l m = nesting_apart f.low.len u.span.start f.cut

  pub refuses : {A C : Type 0} (F : Symbol → Type 0) (sh : A → C) (stay : C → Type 0) → Goes f F sh stay (refuse f.low) (refuse f.high)
  refuses F sh stay = record {
    idle = λ l m. tt;
    inside = λ u us l m h b e. absurd (refused_before u (us ++ f.cut) l m b.0 e);
    far = λ p b. refused_far p.ahead p.last p.level b;
  }

  -- whatever the other parser does
  pub refuses_with : {A C : Type 0} (F : Symbol → Type 0) (sh : A → C) (stay : C → Type 0) (s : Parser A) → Goes f F sh stay (refuse f.low) s
  refuses_with F sh stay s = record {
    idle = λ l m. tt;
    inside = λ u us l m h b e. absurd (refused_before u (us ++ f.cut) l m b.0 e);
    far = λ p b. refused_far p.ahead p.last p.level b;
  }

  pub refuses_deep_with : {A C : Type 0} (F : Symbol → Type 0) (sh : A → C) (stay : C → Type 0) (s : Parser A) → Goes f F sh stay (λ p. Err (deep_refusal f.low p)) s
  refuses_deep_with F sh stay s = record {
    idle = λ l m. tt;
    inside = λ u us l m h b e. absurd (deep_before u (us ++ f.cut) l m e);
    far = λ p b. deep_far p.ahead p.last p.level b;
  }

  pub refuses_deep : {A C : Type 0} (F : Symbol → Type 0) (sh : A → C) (stay : C → Type 0) → Goes f F sh stay (λ p. Err (deep_refusal f.low p)) (λ p. Err (deep_refusal f.high p))
  refuses_deep F sh stay = record {
    idle = λ l m. tt;
    inside = λ u us l m h b e. absurd (deep_before u (us ++ f.cut) l m e);
    far = λ p b. deep_far p.ahead p.last p.level b;
  }

  -- ---- one token

  next_far : (ts : List Tok) (l m : ℕ) → Beyond f ts → Far f (next f.low (place ts l m))
  unfolding next
  next_far [] l m b = end_apart f.low.len f.bound f.cut b
  next_far (t ∷ ts) l m b =
      far_if (f.low.rules.may_stand t m) (Ok (t, behind t ts m)) (Err (Nesting t.span.start)) (beyond_next f.bound f.cut t ts b) (nesting_apart f.low.len t.span.start f.cut)

  pub next_high : (t : Tok) (ts : List Tok) (l m : ℕ) → m ≤ f.high.limit → next f.high (place (t ∷ ts) l m) ≡ Ok (t, place ts t.span.end m)
  unfolding next
  next_high t ts l m h = ap (λ z. if z then Ok (t, behind t ts m) else Err (Nesting t.span.start)) (f.free t m h)

  pub fits : (m : ℕ) → m ≤ top f → m ≤ f.high.limit
  fits m h = let r = f.room in omega arith

  pub fits_roof : (m : ℕ) → m ≤ top f → m ≤ roof f
  fits_roof m h = omega arith

  taken : (u : Tok) (us : List Tok) (l m : ℕ) → m ≤ top f → Before f us → Claim f anything any (next f.high) (u ∷ us) l m (Ok (u, behind u (us ++ f.cut) m))
  taken u [] l m h b =
      inr (inr (record { ahead = refl; ends = λ new _. record { value = u; last = u.span.end; level = m; low = fits_roof m h; same = refl; reads = next_high u new l m (fits m h) } }))
  taken u (v ∷ vs) l m h b =
      inr (inl (record { token = v; rest = vs; ahead = refl; before = b; level = h; value = u; same = refl; reads = λ new. next_high u (v ∷ (vs ++ new)) l m (fits m h) }))

  next_inside : (u : Tok) (us : List Tok) (l m : ℕ) → m ≤ top f → Before f us → Claim f anything any (next f.high) (u ∷ us) l m (next f.low (place (u ∷ (us ++ f.cut)) l m))
  unfolding next
  next_inside u us l m h b =
      claim_if anything any (next f.high) (u ∷ us) l m (f.low.rules.may_stand u m) (Ok (u, behind u (us ++ f.cut) m)) (Err (Nesting u.span.start))
      (λ _. taken u us l m h b) (λ _ e. absurd (nesting_apart f.low.len u.span.start f.cut e))

-- what takes a token at the cut is beyond it
abbrev TakesAt : {A : Type 0} → ℕ → List Tok → Outcome A → Type 0
TakesAt bound cut (Ok x) = BeyondOf bound cut x.1.ahead
TakesAt bound cut (Err e) = Unit {0}

takes_if : {A : Type 0} (bound : ℕ) (cut : List Tok) (b : Bool) (o r : Outcome A) → TakesAt bound cut o → TakesAt bound cut r → TakesAt bound cut (if b then o else r)
takes_if bound cut true o r h k = h
takes_if bound cut false o r h k = k

next_takes : (low : Setting) (bound : ℕ) (cut : List Tok) (l m : ℕ) → CutLate bound cut → TakesAt bound cut (next low (place cut l m))
unfolding next
next_takes low bound [] l m h = tt
next_takes low bound (t ∷ ts) l m h =
    takes_if bound (t ∷ ts) (low.rules.may_stand t m) (Ok (t, behind t ts m)) (Err (Nesting t.span.start)) h.1 tt

module _ (f : Frame) where
  idle_of : {A C : Type 0} (sh : A → C) (stay : C → Type 0) (o : Outcome A) → TakesAt f.bound f.cut o → Idle f sh stay o
  idle_of sh stay (Ok x) h = inl h
  idle_of sh stay (Err e) h = tt

  pub next_goes : Goes f anything any never (next f.low) (next f.high)
  next_goes = record {
    idle = λ l m. idle_of any never (next f.low (place f.cut l m)) (next_takes f.low f.bound f.cut l m f.late);
    inside = λ u us l m h b. next_inside f u us l m h b.1;
    far = λ p b. next_far f p.ahead p.last p.level b;
  }

  -- any token is read
  pub next_opens : (a : ℕ) → a ≤ peak f → (t : Tok) → Opens f a anything any (λ zs. t ∷ zs) tt (next f.high)
  next_opens a k t = record {
    opens = λ zs l m h _. record { value = t; last = t.span.end; level = m; low = h; same = refl; reads = next_high f t zs l m (let r = f.room in omega arith) };
  }

  -- ---- choices by the next token

  pub choose_goes : {A C : Type 0} {F : Symbol → Type 0} {sh : A → C} {stay : C → Type 0} {r s t v : Parser A} (c : Place → Bool)
      → Peek c → Goes f F sh stay r s → Goes f F sh stay t v → Goes f F sh stay (λ p. if c p then r p else t p) (λ p. if c p then s p else v p)
  choose_goes {F = F} {sh = sh} {stay = stay} {r = r} {s = s} {t = t} {v = v} c peek h k = record {
    idle = λ l m. idle_if f sh stay (c (place f.cut l m)) (r (place f.cut l m)) (t (place f.cut l m)) (h.idle l m) (k.idle l m);
    inside = λ u us l m b a.
        let q = place (u ∷ (us ++ f.cut)) l m in
        let chosen : Parser _ = λ p. if c p then s p else v p in
        claim_if f F sh chosen (u ∷ us) l m (c q) (r q) (t q)
        (λ e. claim_from f F sh chosen s (u ∷ us) (u ∷ us) l m l m
        (λ new. ap (λ z. if z then s (place (u ∷ (us ++ new)) l m) else v (place (u ∷ (us ++ new)) l m)) (peek u (us ++ new) (us ++ f.cut) l m ∙ e)) (r q) (h.inside u us l m b a))
        (λ e. claim_from f F sh chosen v (u ∷ us) (u ∷ us) l m l m
        (λ new. ap (λ z. if z then s (place (u ∷ (us ++ new)) l m) else v (place (u ∷ (us ++ new)) l m)) (peek u (us ++ new) (us ++ f.cut) l m ∙ e)) (t q) (k.inside u us l m b a));
    far = λ p b. far_if f (c p) (r p) (t p) (h.far p b) (k.far p b);
  }

  pub ends_by : {A C : Type 0} (a : ℕ) (sh : A → C) (kind : C) (r s : Parser A) (p : Place) (zs : List Tok) → r p ≡ s p → Ends f a sh kind s p zs → Ends f a sh kind r p zs
  ends_by a sh kind r s p zs e h = record { value = h.value; last = h.last; level = h.level; low = h.low; same = h.same; reads = e ∙ h.reads }

  -- closing tokens go the second way
  pub other_opens : {A C : Type 0} {a : ℕ} {F : Symbol → Type 0} {sh : A → C} {close : List Tok → List Tok} {kind : C} {v : Parser A} (c : Place → Bool) (s : Parser A)
      → ((zs : List Tok) (l m : ℕ) → F (first_symbol zs) → c (place (close zs) l m) ≡ false) → Opens f a F sh close kind v → Opens f a F sh close kind (λ p. if c p then s p else v p)
  other_opens {a = a} {F = F} {sh = sh} {close = close} {kind = kind} {v = v} c s false_there h = record {
    opens = λ zs l m b fol. ends_by a sh kind (λ p. if c p then s p else v p) v (place (close zs) l m) zs
        (ap (λ z. if z then s (place (close zs) l m) else v (place (close zs) l m)) (false_there zs l m fol)) (h.opens zs l m b fol);
  }

  -- closing tokens go the first way
  pub this_opens : {A C : Type 0} {a : ℕ} {F : Symbol → Type 0} {sh : A → C} {close : List Tok → List Tok} {kind : C} {s : Parser A} (c : Place → Bool) (v : Parser A)
      → ((zs : List Tok) (l m : ℕ) → F (first_symbol zs) → c (place (close zs) l m) ≡ true) → Opens f a F sh close kind s → Opens f a F sh close kind (λ p. if c p then s p else v p)
  this_opens {a = a} {F = F} {sh = sh} {close = close} {kind = kind} {s = s} c v true_there h = record {
    opens = λ zs l m b fol. ends_by a sh kind (λ p. if c p then s p else v p) s (place (close zs) l m) zs
        (ap (λ z. if z then s (place (close zs) l m) else v (place (close zs) l m)) (true_there zs l m fol)) (h.opens zs l m b fol);
  }

  -- ---- weaker statements

  settled : {A C : Type 0} (sh : A → C) (stay still : C → Type 0) → ((d : C) → stay d → still d) → (o : Outcome A) → Idle f sh stay o → Idle f sh still o
  settled sh stay still h (Ok x) (inl i) = inl i
  settled sh stay still h (Ok x) (inr i) = inr (i.0, h (sh x.0) i.1)
  settled sh stay still h (Err e) i = tt

  pub settle : {A C : Type 0} {F : Symbol → Type 0} {sh : A → C} {stay still : C → Type 0} {r s : Parser A} → ((d : C) → stay d → still d) → Goes f F sh stay r s → Goes f F sh still r s
  settle {sh = sh} {stay = stay} {still = still} {r = r} h k = record { idle = λ l m. settled sh stay still h (r (place f.cut l m)) (k.idle l m); inside = k.inside; far = k.far }

  under_claim : {A C : Type 0} (F G : Symbol → Type 0) (sh : A → C) (s : Parser A) → ((x : Symbol) → G x → F x) → (us : List Tok) (l m : ℕ) (o : Outcome A) → Claim f F sh s us l m o → Claim f G sh s us l m o
  under_claim F G sh s h us l m (Err e) k = λ d. let c = k d in record { close = c.close; kind = c.kind; late = λ zs fol. c.late zs (h (first_symbol zs) fol); ends = λ zs fol. c.ends zs (h (first_symbol zs) fol) }
  under_claim F G sh s h us l m (Ok x) (inl k) = inl k
  under_claim F G sh s h us l m (Ok x) (inr (inl k)) = inr (inl k)
  under_claim F G sh s h us l m (Ok x) (inr (inr k)) = inr (inr (record { ahead = k.ahead; ends = λ new fol. k.ends new (h (first_symbol new) fol) }))

  pub under : {A C : Type 0} {F G : Symbol → Type 0} {sh : A → C} {stay : C → Type 0} {r s : Parser A} → ((x : Symbol) → G x → F x) → Goes f F sh stay r s → Goes f G sh stay r s
  under {F = F} {G = G} {sh = sh} {r = r} {s = s} h k = record {
    idle = k.idle;
    inside = λ u us l m b a. under_claim F G sh s h (u ∷ us) l m (r (place (u ∷ (us ++ f.cut)) l m)) (k.inside u us l m b a);
    far = k.far;
  }

  forget_ends : {A C : Type 0} (a : ℕ) (sh : A → C) (kind : C) (s : Parser A) (p : Place) (zs : List Tok) → Ends f a sh kind s p zs → Ends f a any tt s p zs
  forget_ends a sh kind s p zs h = record { value = h.value; last = h.last; level = h.level; low = h.low; same = refl; reads = h.reads }

  forget_claim : {A C : Type 0} (F : Symbol → Type 0) (sh : A → C) (s : Parser A) (us : List Tok) (l m : ℕ) (o : Outcome A) → Claim f F sh s us l m o → Claim f F any s us l m o
  forget_claim F sh s us l m (Err e) k = λ d. let c = k d in record { close = c.close; kind = tt; late = c.late; ends = λ zs fol. forget_ends (roof f) sh (c.kind) s (place (us ++ c.close zs) l m) zs (c.ends zs fol) }
  forget_claim F sh s us l m (Ok x) (inl k) = inl k
  forget_claim F sh s us l m (Ok x) (inr (inl k)) = inr (inl (record { token = k.token; rest = k.rest; ahead = k.ahead; before = k.before; level = k.level; value = k.value; same = refl; reads = k.reads }))
  forget_claim F sh s us l m (Ok x) (inr (inr k)) = inr (inr (record { ahead = k.ahead; ends = λ new fol. forget_ends (roof f) sh (sh x.0) s (place (us ++ new) l m) new (k.ends new fol) }))

  forget_idle : {A C : Type 0} (sh : A → C) (stay : C → Type 0) (still : Unit {0} → Type 0) → ((d : C) → stay d → still tt) → (o : Outcome A) → Idle f sh stay o → Idle f any still o
  forget_idle sh stay still h (Ok x) (inl i) = inl i
  forget_idle sh stay still h (Ok x) (inr i) = inr (i.0, h (sh x.0) i.1)
  forget_idle sh stay still h (Err e) i = tt

  pub forget : {A C : Type 0} {F : Symbol → Type 0} {sh : A → C} {stay : C → Type 0} {still : Unit {0} → Type 0} {r s : Parser A} → ((d : C) → stay d → still tt) → Goes f F sh stay r s → Goes f F any still r s
  forget {F = F} {sh = sh} {stay = stay} {still = still} {r = r} {s = s} h k = record {
    idle = λ l m. forget_idle sh stay still h (r (place f.cut l m)) (k.idle l m);
    inside = λ u us l m b a. forget_claim F sh s (u ∷ us) l m (r (place (u ∷ (us ++ f.cut)) l m)) (k.inside u us l m b a);
    far = k.far;
  }

  pub forget_opens : {A C : Type 0} {a : ℕ} {F : Symbol → Type 0} {sh : A → C} {close : List Tok → List Tok} {kind : C} {s : Parser A} → Opens f a F sh close kind s → Opens f a F any close tt s
  forget_opens {a = a} {sh = sh} {close = close} {kind = kind} {s = s} h = record { opens = λ zs l m b fol. forget_ends a sh kind s (place (close zs) l m) zs (h.opens zs l m b fol) }

  pub under_opens : {A C : Type 0} {a : ℕ} {F G : Symbol → Type 0} {sh : A → C} {close : List Tok → List Tok} {kind : C} {s : Parser A} → ((x : Symbol) → G x → F x) → Opens f a F sh close kind s → Opens f a G sh close kind s
  under_opens h k = record { opens = λ zs l m b fol. k.opens zs l m b (h (first_symbol zs) fol) }

  -- ---- without a token

  -- a value, of which one thing is known
  pub value_goes : {A C : Type 0} (F : Symbol → Type 0) (sh : A → C) (c d : Place → A) → Peek d → ((p q : Place) → sh (d q) ≡ sh (c p)) → (kind : C) → ((p : Place) → sh (c p) ≡ kind)
      → Goes f F sh (λ z. z ≡ kind) (λ p. Ok (c p, p)) (λ p. Ok (d p, p))
  value_goes F sh c d peek e kind k = record {
    idle = λ l m. inr (refl, k (place f.cut l m));
    inside = λ u us l m b a. inr (inl (record {
      token = u;
      rest = us;
      ahead = refl;
      before = a;
      level = b;
      value = d (place (u ∷ us) l m);
      same = e (place (u ∷ (us ++ f.cut)) l m) (place (u ∷ us) l m);
      reads = λ new. ap (λ z. Ok (z, place (u ∷ (us ++ new)) l m)) (peek u (us ++ new) us l m);
    }));
    far = λ p b. b;
  }

  pub value_opens : {A C : Type 0} (a : ℕ) (F : Symbol → Type 0) (sh : A → C) (d : Place → A) (kind : C) → ((p : Place) → sh (d p) ≡ kind) → Opens f a F sh (λ zs. zs) kind (λ p. Ok (d p, p))
  value_opens a F sh d kind k = record {
    opens = λ zs l m b fol. record { value = d (place zs l m); last = l; level = m; low = b; same = k (place zs l m); reads = refl };
  }

  -- the same level for the rest, where some tokens of the prefix are left
  pub level_goes : {B D : Type 0} {F : Symbol → Type 0} {sh : B → D} {stay : D → Type 0} {g k : ℕ → Parser B}
      → ((m : ℕ) → m ≤ top f → Goes f F sh stay (g m) (k m)) → ((l m : ℕ) → Idle f sh stay (g m (place f.cut l m))) → ((p : Place) → Beyond f p.ahead → Far f (g p.level p))
      → Goes f F sh stay (λ p. g p.level p) (λ p. k p.level p)
  level_goes {F = F} {sh = sh} {g = g} {k = k} h i j = record {
    idle = i;
    inside = λ u us l m b a.
        claim_from f F sh (λ p. k p.level p) (k m) (u ∷ us) (u ∷ us) l m l m (λ new. refl) (g m (place (u ∷ (us ++ f.cut)) l m)) ((h m b).inside u us l m b a);
    far = j;
  }

  pub level_opens : {B D : Type 0} {a : ℕ} {F : Symbol → Type 0} {sh : B → D} {close : List Tok → List Tok} {kind : D} {k : ℕ → Parser B}
      → ((m : ℕ) → m ≤ a → Opens f a F sh close kind (k m)) → Opens f a F sh close kind (λ p. k p.level p)
  level_opens {a = a} {sh = sh} {close = close} {kind = kind} {k = k} h = record {
    opens = λ zs l m b fol. ends_by a sh kind (λ p. k p.level p) (k m) (place (close zs) l m) zs refl ((h m b).opens zs l m b fol);
  }

  pub to_level_goes : (F : Symbol → Type 0) (m : ℕ) → m ≤ top f → Goes f F any (λ z. z ≡ tt) (λ p. Ok (tt {0}, at_level m p)) (λ p. Ok (tt {0}, at_level m p))
  to_level_goes F m h = record {
    idle = λ l n. inr (refl, refl);
    inside = λ u us l n b a. inr (inl (record { token = u; rest = us; ahead = refl; before = a; level = h; value = tt; same = refl; reads = λ new. refl }));
    far = λ p b. b;
  }

  pub to_level_opens : (a m : ℕ) → m ≤ a → (F : Symbol → Type 0) → Opens f a F any (λ zs. zs) tt (λ p. Ok (tt {0}, at_level m p))
  to_level_opens a m h F = record { opens = λ zs l n b fol. record { value = tt; last = l; level = m; low = h; same = refl; reads = refl } }

  -- ---- the same parsers, written otherwise

  pub goes_by : {A C : Type 0} {F : Symbol → Type 0} {sh : A → C} {stay : C → Type 0} {r s t v : Parser A} → ((p : Place) → t p ≡ r p) → ((p : Place) → v p ≡ s p)
      → Goes f F sh stay r s → Goes f F sh stay t v
  goes_by {F = F} {sh = sh} {stay = stay} {r = r} {s = s} {t = t} {v = v} d e h = record {
    idle = λ l m. subst (λ o. Idle f sh stay o) (sym (d (place f.cut l m))) (h.idle l m);
    inside = λ u us l m b a.
        let q = place (u ∷ (us ++ f.cut)) l m in
        claim_from f F sh v s (u ∷ us) (u ∷ us) l m l m (λ new. e (place (u ∷ (us ++ new)) l m)) (t q)
        (subst (λ o. Claim f F sh s (u ∷ us) l m o) (sym (d q)) (h.inside u us l m b a));
    far = λ p b. subst (λ o. Far f o) (sym (d p)) (h.far p b);
  }

  pub opens_from : {A C : Type 0} {a : ℕ} {F : Symbol → Type 0} {sh : A → C} {close : List Tok → List Tok} {kind : C} {s v : Parser A} → ((p : Place) → v p ≡ s p)
      → Opens f a F sh close kind s → Opens f a F sh close kind v
  opens_from {a = a} {sh = sh} {close = close} {kind = kind} {s = s} {v = v} e h = record {
    opens = λ zs l m b fol. ends_by a sh kind v s (place (close zs) l m) zs (e (place (close zs) l m)) (h.opens zs l m b fol);
  }

  -- ---- phrases of their own

  phrase_high : {A : Type 0} (may : Place → Bool) (s : Parser A) (ts : List Tok) (l m : ℕ) → m ≤ f.high.limit
      → phrase f.high may s (place ts l m) ≡ and_then (s (place ts l (m + 1))) (λ x q. Ok (x, at_level m q))
  unfolding phrase
  phrase_high may s ts l m h =
      ap (λ z. if z then and_then (s (place ts l (m + 1))) (λ x q. Ok (x, at_level m q)) else Err (if may (place ts l m) then deep_refusal f.high (place ts l m) else refusal f.high (place ts l m)))
      (le-leb m f.high.limit h)

  leveled_ends : {A C : Type 0} (a : ℕ) (sh : A → C) (kind : C) (may : Place → Bool) (s : Parser A) (ts zs : List Tok) (l m : ℕ) → m ≤ f.high.limit → m ≤ a
      → (b : ℕ) → Ends f b sh kind s (place ts l (m + 1)) zs → Ends f a sh kind (phrase f.high may s) (place ts l m) zs
  leveled_ends a sh kind may s ts zs l m h k b e = record {
    value = e.value;
    last = e.last;
    level = m;
    low = k;
    same = e.same;
    reads = phrase_high may s ts l m h ∙ ap (λ o. and_then o (λ x q. Ok (x, at_level m q))) e.reads;
  }

  leveled_claim : {A C : Type 0} (F : Symbol → Type 0) (sh : A → C) (may : Place → Bool) (s : Parser A) (us : List Tok) (l m : ℕ) → m ≤ top f → (o : Outcome A)
      → Claim f F sh s us l (m + 1) o → Claim f F sh (phrase f.high may s) us l m (and_then o (λ x q. Ok (x, at_level m q)))
  leveled_claim F sh may s us l m b (Err e) h = λ d.
      let c = h d in
      record { close = c.close; kind = c.kind; late = c.late; ends = λ zs fol. leveled_ends (roof f) sh (c.kind) may s (us ++ c.close zs) zs l m (fits f m b) (fits_roof f m b) (roof f) (c.ends zs fol) }
  leveled_claim F sh may s us l m b (Ok x) (inl h) = inl h
  leveled_claim F sh may s us l m b (Ok x) (inr (inl h)) =
      inr (inl (record {
        token = h.token;
        rest = h.rest;
        ahead = h.ahead;
        before = h.before;
        level = b;
        value = h.value;
        same = h.same;
        reads = λ new. phrase_high may s (us ++ new) l m (fits f m b) ∙ ap (λ o. and_then o (λ x q. Ok (x, at_level m q))) (h.reads new);
      }))
  leveled_claim F sh may s us l m b (Ok x) (inr (inr h)) =
      inr (inr (record { ahead = h.ahead; ends = λ new fol. leveled_ends (roof f) sh (sh x.0) may s (us ++ new) new l m (fits f m b) (fits_roof f m b) (roof f) (h.ends new fol) }))

  pub leveled_idle : {A C : Type 0} (sh : A → C) (stay : C → Type 0) (m : ℕ) (o : Outcome A) → Idle f sh stay o → Idle f sh stay (and_then o (λ x q. Ok (x, at_level m q)))
  leveled_idle sh stay m (Ok x) h = h
  leveled_idle sh stay m (Err e) h = h

  pub leveled_far : {A : Type 0} (m : ℕ) (o : Outcome A) → Far f o → Far f (and_then o (λ x q. Ok (x, at_level m q)))
  leveled_far m (Ok x) h = h
  leveled_far m (Err e) h = h

  refused_either : (b : Bool) (u : Tok) (us : List Tok) (l m : ℕ) → ApartOf f.cut u → (if b then deep_refusal f.low (place (u ∷ us) l m) else refusal f.low (place (u ∷ us) l m)) ≡ fault f → ⊥
  refused_either true u us l m a = deep_before f u us l m
  refused_either false u us l m a = refused_before f u us l m a

  far_either : (b : Bool) (p : Place) → Beyond f p.ahead → (if b then deep_refusal f.low p else refusal f.low p) ≡ fault f → ⊥
  far_either true p b = deep_far f p.ahead p.last p.level b
  far_either false p b = refused_far f p.ahead p.last p.level b

  pub phrase_goes : {A C : Type 0} {F : Symbol → Type 0} {sh : A → C} {stay : C → Type 0} {r s : Parser A} (may : Place → Bool) → Goes f F sh stay r s → Goes f F sh stay (phrase f.low may r) (phrase f.high may s)
  unfolding phrase
  phrase_goes {F = F} {sh = sh} {stay = stay} {r = r} {s = s} may h = record {
    idle = λ l m.
        let q = place f.cut l m in
        idle_if f sh stay (nat_le m f.low.limit) (and_then (r (place f.cut l (m + 1))) (λ x q. Ok (x, at_level m q))) (Err (if may q then deep_refusal f.low q else refusal f.low q))
        (leveled_idle sh stay m (r (place f.cut l (m + 1))) (h.idle l (m + 1))) tt;
    inside = λ u us l m b a.
        let q = place (u ∷ (us ++ f.cut)) l m in
        claim_if f F sh (phrase f.high may s) (u ∷ us) l m (nat_le m f.low.limit) (and_then (r (place (u ∷ (us ++ f.cut)) l (m + 1))) (λ x q. Ok (x, at_level m q)))
        (Err (if may q then deep_refusal f.low q else refusal f.low q))
        (λ e. leveled_claim F sh may s (u ∷ us) l m b (r (place (u ∷ (us ++ f.cut)) l (m + 1))) (h.inside u us l (m + 1) (let k : m ≤ f.low.limit = leb-true m f.low.limit e in omega arith) a))
        (λ _ e. absurd (refused_either (may q) u (us ++ f.cut) l m a.0 e));
    far = λ p b. far_if f (nat_le p.level f.low.limit) (and_then (r (raised p)) (λ x q. Ok (x, at_level p.level q))) (Err (if may p then deep_refusal f.low p else refusal f.low p))
        (leveled_far (p.level) (r (raised p)) (h.far (raised p) b)) (far_either (may p) p b);
  }

  pub phrase_opens : {A C : Type 0} {F : Symbol → Type 0} {sh : A → C} {close : List Tok → List Tok} {kind : C} {s : Parser A} (may : Place → Bool) → Opens f (peak f) F sh close kind s
      → Opens f (roof f) F sh close kind (phrase f.high may s)
  phrase_opens {sh = sh} {close = close} {kind = kind} {s = s} may h = record {
    opens = λ zs l m b fol. leveled_ends (roof f) sh kind may s (close zs) zs l m (let r = f.room in omega arith) b (peak f) (h.opens zs l (m + 1) (omega arith) fol);
  }

  -- ---- a token, and one level deeper

  pub raise_high : (ts : List Tok) (l m : ℕ) → m ≤ f.high.limit → raise f.high (place ts l m) ≡ Ok (tt {0}, place ts l (m + 1))
  unfolding raise
  raise_high ts l m h = ap (λ z. if z then Ok (tt {0}, place ts l (m + 1)) else Err (deep_refusal f.high (place ts l m))) (le-leb m f.high.limit h)

  raise_low : (ts : List Tok) (l m : ℕ) → m ≤ f.low.limit → raise f.low (place ts l m) ≡ Ok (tt {0}, place ts l (m + 1))
  unfolding raise
  raise_low ts l m h = ap (λ z. if z then Ok (tt {0}, place ts l (m + 1)) else Err (deep_refusal f.low (place ts l m))) (le-leb m f.low.limit h)

  abbrev deep_low : Parser (Unit {0})
  deep_low = next f.low >>= (λ _. raise f.low)

  abbrev deep_high : Parser (Unit {0})
  deep_high = next f.high >>= (λ _. raise f.high)

  deep_reads : (u : Tok) (ts : List Tok) (l m : ℕ) → m ≤ f.high.limit → deep_high (place (u ∷ ts) l m) ≡ Ok (tt {0}, place ts u.span.end (m + 1))
  deep_reads u ts l m h = ap (λ o. and_then o (λ _. raise f.high)) (next_high f u ts l m h) ∙ raise_high ts u.span.end m h

  deep_taken : (u : Tok) (us : List Tok) (l m : ℕ) → m ≤ f.low.limit → Before f us → Claim f anything any deep_high (u ∷ us) l m (Ok (tt {0}, place (us ++ f.cut) u.span.end (m + 1)))
  deep_taken u [] l m h b =
      inr (inr (record { ahead = refl; ends = λ new _. record { value = tt; last = u.span.end; level = m + 1; low = (let x : m + 1 ≤ roof f = omega arith in x); same = refl; reads = deep_reads u new l m (let r = f.room in omega arith) } }))
  deep_taken u (v ∷ vs) l m h b =
      inr (inl (record { token = v; rest = vs; ahead = refl; before = b; level = (let x : m + 1 ≤ top f = omega arith in x); value = tt; same = refl; reads = λ new. deep_reads u (v ∷ (vs ++ new)) l m (let r = f.room in omega arith) }))

  deep_case : (u : Tok) (us : List Tok) (l m : ℕ) → Before f us → (b : Bool) → f.low.rules.may_stand u m ≡ b
      → Claim f anything any deep_high (u ∷ us) l m (and_then (if b then Ok (u, behind u (us ++ f.cut) m) else Err (Nesting u.span.start)) (λ _. raise f.low))
  deep_case u us l m h true e =
      let k = f.bounded u m e in
      subst (λ o. Claim f anything any deep_high (u ∷ us) l m o) (sym (raise_low (us ++ f.cut) u.span.end m k)) (deep_taken u us l m k h)
  deep_case u us l m h false e = λ d. absurd (nesting_apart f.low.len u.span.start f.cut d)

  deep_inside : (u : Tok) (us : List Tok) (l m : ℕ) → Before f us → Claim f anything any deep_high (u ∷ us) l m (deep_low (place (u ∷ (us ++ f.cut)) l m))
  unfolding next
  deep_inside u us l m b = deep_case u us l m b (f.low.rules.may_stand u m) refl

  raise_far : (p : Place) → Beyond f p.ahead → Far f (raise f.low p)
  unfolding raise
  raise_far p b = far_if f (nat_le p.level f.low.limit) (Ok (tt {0}, raised p)) (Err (deep_refusal f.low p)) b (deep_far f p.ahead p.last p.level b)

  pub idle_of_far : {A C : Type 0} (sh : A → C) (stay : C → Type 0) (o : Outcome A) → Far f o → Idle f sh stay o
  idle_of_far sh stay (Ok x) h = inl h
  idle_of_far sh stay (Err e) h = tt

  idle_deep : (o : Outcome Tok) → TakesAt f.bound f.cut o → Idle f {A = Unit {0}} any never (and_then o (λ _. raise f.low))
  idle_deep (Ok x) h = idle_of_far any never (raise f.low x.1) (raise_far x.1 h)
  idle_deep (Err e) h = tt

  pub deep_goes : Goes f anything any never deep_low deep_high
  deep_goes = record {
    idle = λ l m. idle_deep (next f.low (place f.cut l m)) (next_takes f.low f.bound f.cut l m f.late);
    inside = λ u us l m h b. deep_inside u us l m b.1;
    far = λ p b. far_then f (λ _. raise f.low) (next f.low p) (next_far f p.ahead p.last p.level b) (λ x q. raise_far q);
  }
