-- Choices by the next token and the one behind it, where the next is a name.
use Rattle.std.proofs.Common.{◌≡◌, ℕ, ◌≤◌, Bool, true, false, true≢false, List, [], ◌∷◌, ◌++◌, refl, sym, ◌∙◌, ap, subst, inl, inr, arith, if◌then◌else◌}
use Rattle.std.specs.Prelude.{Ok, Err}
use Rattle.luau_lex.specs.Tokens.{Tok}
use Rattle.luau_grammar.specs.declared.error.ParseError.TheVariants.{Nesting}
use Rattle.luau_grammar.specs.declared.symbol.Symbol.{Symbol}
use Rattle.luau_grammar.specs.declared.symbol.Symbol.TheVariants as s
use Rattle.luau_grammar.specs.Symbols.{same, symbol_of}
use Rattle.luau_grammar.specs.Places.{Place, first_symbol, symbol, sees, behind}
use Rattle.luau_grammar.specs.Reading as read
use Rattle.luau_grammar.specs.Reading.{Setting, Parser, Outcome, Readers, ◌>>=◌, and_then, pure}
use Rattle.grammar_faults.proofs.Local.{Shorter}
use Rattle.fault_places.proofs.Closing.{Frame, CutLate, ApartOf, BeyondOf, fault_of, place, Before, top, roof, Far, Opens, Claim, Goes, claim_far, claim_from}
use Rattle.fault_places.proofs.ClosingTokens.{any, never, claim_if, idle_if, far_if, refused_before, nesting_apart}
use Rattle.fault_places.proofs.ClosingSteps.{fewer}

-- a parser at the cut either is beyond it or fails elsewhere
abbrev FarAt : {A : Type 0} → ℕ → ℕ → List Tok → Outcome A → Type 0
FarAt len bound cut (Ok x) = BeyondOf bound cut x.1.ahead
FarAt len bound cut (Err e) = e ≡ fault_of len cut → ⊥

at_if : {A : Type 0} (len bound : ℕ) (cut : List Tok) (b : Bool) (o r : Outcome A) → FarAt len bound cut o → FarAt len bound cut r → FarAt len bound cut (if b then o else r)
at_if len bound cut true o r h k = h
at_if len bound cut false o r h k = k

seen_next : (low : Setting) (bound : ℕ) (cut : List Tok) (x : Symbol) (l m : ℕ) → CutLate bound cut → same s.Stop x ≡ false → same (first_symbol cut) x ≡ true → FarAt low.len bound cut (read.next low (place cut l m))
unfolding read.next
seen_next low bound [] x l m h e d = absurd (true≢false (sym d ∙ e))
seen_next low bound (t ∷ ts) x l m h e d =
    at_if low.len bound (t ∷ ts) (low.rules.may_stand t m) (Ok (t, behind t ts m)) (Err (Nesting t.span.start)) h.1 (nesting_apart low.len t.span.start (t ∷ ts))

module _ (f : Frame) where
  far_of : {A : Type 0} (o : Outcome A) → FarAt f.low.len f.bound f.cut o → Far f o
  far_of (Ok x) h = h
  far_of (Err e) h = h

  -- a token that is seen at the cut is taken, or stands too deep
  pub seen_far : (x : Symbol) (l m : ℕ) → same s.Stop x ≡ false → sees x (place f.cut l m) ≡ true → Far f (read.expect f.low x (place f.cut l m))
  unfolding read.expect sees symbol
  seen_far x l m e d =
      subst (λ b. Far f (if b then read.next f.low (place f.cut l m) else Err (read.refusal f.low (place f.cut l m)))) (sym d)
      (far_of (read.next f.low (place f.cut l m)) (seen_next f.low f.bound f.cut x l m f.late e d))

  pub then_far : {A B : Type 0} (b : Bool) (o r : Outcome A) (h : A → Parser B) → Far f (and_then o h) → Far f (and_then r h) → Far f (and_then (if b then o else r) h)
  then_far true o r h k j = k
  then_far false o r h k j = j

  -- a token before the cut is taken, or the fault stands there
  pub first_far : {B : Type 0} (x : Symbol) (u : Tok) (l m : ℕ) → ApartOf f.cut u → (h : Tok → Parser B) → Far f (h u (place f.cut u.span.end m))
      → Far f ((read.expect f.low x >>= h) (place (u ∷ f.cut) l m))
  unfolding read.expect read.next
  first_far x u l m a h k =
      then_far (sees x (place (u ∷ f.cut) l m)) (if f.low.rules.may_stand u m then Ok (u, behind u f.cut m) else Err (Nesting u.span.start)) (Err (read.refusal f.low (place (u ∷ f.cut) l m))) h
      (then_far (f.low.rules.may_stand u m) (Ok (u, behind u f.cut m)) (Err (Nesting u.span.start)) h k (nesting_apart f.low.len u.span.start f.cut))
      (refused_before f u f.cut l m a)

  module _ (A : Type 0) (F : Symbol → Type 0) (c : Place → Bool) (r g t v : Parser A)
      (plain : (u : Tok) → same (symbol_of u) s.Name ≡ false → (ts us : List Tok) (l m : ℕ) → c (place (u ∷ ts) l m) ≡ c (place (u ∷ us) l m))
      (two : (u w : Tok) (ts us : List Tok) (l m : ℕ) → c (place (u ∷ (w ∷ ts)) l m) ≡ c (place (u ∷ (w ∷ us)) l m))
      (beyond : (u : Tok) (l m : ℕ) → ApartOf f.cut u → same (symbol_of u) s.Name ≡ true → c (place (u ∷ f.cut) l m) ≡ true → Far f (r (place (u ∷ f.cut) l m)))
      (named : (u : Tok) → same (symbol_of u) s.Name ≡ true → Opens f (roof f) F any (λ zs. u ∷ zs) tt (λ p. if c p then g p else v p))
      (shorter : (p : Place) → Shorter 1 p (t p)) where
    abbrev chosen : Parser A
    chosen = λ p. if c p then g p else v p

    no_fewer : (u w : Tok) (vs : List Tok) (x : A × Place) (l m : ℕ) → x.1.ahead ≡ w ∷ (vs ++ f.cut) → Shorter 1 (place (u ∷ f.cut) l m) (Ok x) → ⊥
    no_fewer u w vs x l m e h = let k = fewer f [] vs f.cut u w x l m e h in absurd (omega arith)

    name_claim : (u : Tok) (l m : ℕ) → m ≤ top f → same (symbol_of u) s.Name ≡ true → (o : Outcome A) → Shorter 1 (place (u ∷ f.cut) l m) o → Claim f F any v (u ∷ []) l m o → Claim f F any chosen (u ∷ []) l m o
    name_claim u l m b e (Err d) h k = λ _. record { close = λ zs. zs; kind = tt; late = λ _ _ b. b; ends = λ zs fol. (named u e).opens zs l m (let x : m ≤ roof f = omega arith in x) fol }
    name_claim u l m b e (Ok x) h (inl k) = inl k
    name_claim u l m b e (Ok x) h (inr (inl k)) = absurd (no_fewer u k.token k.rest x l m k.ahead h)
    name_claim u l m b e (Ok x) h (inr (inr k)) = inr (inr (record { ahead = k.ahead; ends = λ zs fol. (named u e).opens zs l m (let x : m ≤ roof f = omega arith in x) fol }))

    -- the tests agree
    alike : Goes f F any never r g → Goes f F any never t v → (u : Tok) (us : List Tok) (l m : ℕ) → m ≤ top f → Before f (u ∷ us)
        → ((new : List Tok) → c (place (u ∷ (us ++ new)) l m) ≡ c (place (u ∷ (us ++ f.cut)) l m))
        → Claim f F any chosen (u ∷ us) l m (if c (place (u ∷ (us ++ f.cut)) l m) then r (place (u ∷ (us ++ f.cut)) l m) else t (place (u ∷ (us ++ f.cut)) l m))
    alike h k u us l m b a peek =
        let q = place (u ∷ (us ++ f.cut)) l m in
        claim_if f F any chosen (u ∷ us) l m (c q) (r q) (t q)
        (λ e. claim_from f F any chosen g (u ∷ us) (u ∷ us) l m l m
        (λ new. ap (λ z. if z then g (place (u ∷ (us ++ new)) l m) else v (place (u ∷ (us ++ new)) l m)) (peek new ∙ e)) (r q) (h.inside u us l m b a))
        (λ e. claim_from f F any chosen v (u ∷ us) (u ∷ us) l m l m
        (λ new. ap (λ z. if z then g (place (u ∷ (us ++ new)) l m) else v (place (u ∷ (us ++ new)) l m)) (peek new ∙ e)) (t q) (k.inside u us l m b a))

    single : Goes f F any never r g → Goes f F any never t v → (u : Tok) (l m : ℕ) → m ≤ top f → Before f (u ∷ []) → (b : Bool) → same (symbol_of u) s.Name ≡ b
        → Claim f F any chosen (u ∷ []) l m (if c (place (u ∷ f.cut) l m) then r (place (u ∷ f.cut) l m) else t (place (u ∷ f.cut) l m))
    single h k u l m b a false e = alike h k u [] l m b a (λ new. plain u e new f.cut l m)
    single h k u l m b a true e =
        let q = place (u ∷ f.cut) l m in
        claim_if f F any chosen (u ∷ []) l m (c q) (r q) (t q)
        (λ d. claim_far f F any chosen (u ∷ []) l m (r q) (beyond u l m a.0 e d))
        (λ d. name_claim u l m b e (t q) (shorter q) (k.inside u [] l m b a))

    inside_two : Goes f F any never r g → Goes f F any never t v → (u : Tok) (us : List Tok) (l m : ℕ) → m ≤ top f → Before f (u ∷ us)
        → Claim f F any chosen (u ∷ us) l m (if c (place (u ∷ (us ++ f.cut)) l m) then r (place (u ∷ (us ++ f.cut)) l m) else t (place (u ∷ (us ++ f.cut)) l m))
    inside_two h k u [] l m b a = single h k u l m b a (same (symbol_of u) s.Name) refl
    inside_two h k u (w ∷ ws) l m b a = alike h k u (w ∷ ws) l m b a (λ new. two u w (ws ++ new) (ws ++ f.cut) l m)

    pub either_by_two : Goes f F any never r g → Goes f F any never t v → Goes f F any never (λ p. if c p then r p else t p) chosen
    either_by_two h k = record {
      idle = λ l m. idle_if f any never (c (place f.cut l m)) (r (place f.cut l m)) (t (place f.cut l m)) (h.idle l m) (k.idle l m);
      inside = λ u us l m b a. inside_two h k u us l m b a;
      far = λ p b. far_if f (c p) (r p) (t p) (h.far p b) (k.far p b);
    }
