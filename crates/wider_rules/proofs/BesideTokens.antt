-- The parsers of single tokens, by two settings side by side.
use Rattle.std.proofs.Common.{◌≡◌, ℕ, ◌+◌, ◌≤◌, ◌<◌, Bool, true, false, true≢false, not, List, [], ◌∷◌, refl, sym, ◌∙◌, ap, subst, ◌⊎◌, inl, inr, arith, if◌then◌else◌, leb-true, le-leb}
use Rattle.std.proofs.lemmas.Bool.{cases_order}
use Rattle.std.specs.Prelude.{Ok, Err, nat_le}
use Rattle.luau_lex.specs.Tokens.{Tok}
use Rattle.luau_lex.specs.Values.{string_value}
use Rattle.luau_lex.specs.declared.token.Kind.TheVariants as kind
use Rattle.luau_grammar.specs.declared.error.ParseError.TheVariants.{Unexpected, UnexpectedEnd, AmbiguousCall, Nesting}
use Rattle.luau_grammar.specs.declared.symbol.Symbol.{Symbol}
use Rattle.luau_grammar.specs.declared.symbol.Symbol.TheVariants as s
use Rattle.luau_grammar.specs.Symbols.{same, symbol_of}
use Rattle.luau_grammar.specs.Places.{Place, symbol, sees, at_level, raised, behind}
use Rattle.luau_grammar.specs.Reading.{Setting, Parser, Outcome, pure, and_then, refusal, deep_refusal, refuse, next, expect, eat, name, string, open_arguments, raise, phrase}
use Rattle.grammar_faults.specs.Fronts.{BeginFrom}
use Rattle.grammar_faults.proofs.Local.{Tails, Far, here}
use Rattle.grammar_faults.proofs.LocalTokens as locals
use Rattle.wider_rules.specs.Order.{Has}
use Rattle.wider_rules.proofs.Beside.{Kind, Wide, Free, Lined, Opposed, Loose, Tidy, Awaits, Timely, IsAmbiguousAt, CallsOn, DeepsOn, MayStop, StandsBy, CallsBy, Pair, top, late, Stands, Rel, Beside, rel_then, rel_if, both, choose, within, done}

-- two lists that go on behind an offset
abbrev pub tails_from : ℕ → Tails
tails_from at = record {
  bound = at;
  token = record { kind = kind.Sign; span = record { start = at; end = at }; bytes = [] };
  one = [];
  other = [];
  one_late = (let h : at ≤ at = omega arith in h, tt);
  other_late = (let h : at ≤ at = omega arith in h, tt);
}

same_or_not : (a b : ℕ) → (a ≡ b) ⊎ (a ≡ b → ⊥)
same_or_not a b =
    elim (cases_order a b) [
      | inl e ↦ inl e
      | inr o ↦ elim o [ inl h ↦ inr (λ e. absurd (omega arith)) | inr h ↦ inr (λ e. absurd (omega arith)) ]
    ]

not_behind : (at : ℕ) (t : Tok) (ts : List Tok) → Tidy at (t ∷ ts) → Has at (t ∷ ts) → at + 1 ≤ t.span.start → ⊥
not_behind at t ts o (inl e) k = absurd (omega arith)
not_behind at t ts o (inr h) k = let c : t.span.start ≤ at = o.1 h in absurd (omega arith)

timely_token : (kind : Kind) (at : ℕ) (t : Tok) (ts : List Tok) → Tidy at (t ∷ ts) → Awaits kind at (t ∷ ts) → Timely kind at (Unexpected t.span.start)
timely_token Wide at t ts o h = tt
timely_token Free at t ts o h = tt
timely_token Lined at t ts o h = tt
timely_token Opposed at t ts o h = not_behind at t ts o h
timely_token Loose at t ts o h = tt

timely_deep : (kind : Kind) (at : ℕ) (t : Tok) (ts : List Tok) → Tidy at (t ∷ ts) → Awaits kind at (t ∷ ts) → Timely kind at (Nesting t.span.start)
timely_deep Wide at t ts o h = tt
timely_deep Free at t ts o h = tt
timely_deep Lined at t ts o h = tt
timely_deep Opposed at t ts o h = not_behind at t ts o h
timely_deep Loose at t ts o h = tt

timely_call : (kind : Kind) (at : ℕ) (t : Tok) (ts : List Tok) → Tidy at (t ∷ ts) → Awaits kind at (t ∷ ts) → Timely kind at (AmbiguousCall t.span.start)
timely_call Wide at t ts o h = tt
timely_call Free at t ts o h = tt
timely_call Lined at t ts o h = tt
timely_call Opposed at t ts o h = not_behind at t ts o h
timely_call Loose at t ts o h = tt

timely_end : (kind : Kind) (at n : ℕ) → Awaits kind at [] → Timely kind at (UnexpectedEnd n)
timely_end Wide at n h = tt
timely_end Free at n h = tt
timely_end Lined at n h = tt
timely_end Opposed at n h = absurd h
timely_end Loose at n h = tt

abbrev Both : Kind → ℕ → Setting → Tok → ℕ → List Tok → Type 0
Both kind at high t m ts = (high.rules.may_stand t m ≡ true) × (Awaits kind at (t ∷ ts) → Awaits kind at ts)

abbrev One : Kind → ℕ → Setting → Tok → ℕ → Type 0
One kind at high t m = MayStop kind × (t.span.start ≡ at) × (high.rules.may_stand t m ≡ false)

still_has : (at : ℕ) (t : Tok) (ts : List Tok) → (t.span.start ≡ at → ⊥) → Has at (t ∷ ts) → Has at ts
still_has at t ts n (inl e) = absurd (n e)
still_has at t ts n (inr h) = h

by_case : (kind : Kind) (at : ℕ) (high : Setting) (t : Tok) (m : ℕ) (ts : List Tok) → MayStop kind → t.span.start ≡ at → (Awaits kind at (t ∷ ts) → Awaits kind at ts) → (b : Bool) → high.rules.may_stand t m ≡ b
    → Both kind at high t m ts ⊎ One kind at high t m
by_case kind at high t m ts h d k true e = inl (e, k)
by_case kind at high t m ts h d k false e = inr (h, d, e)

-- a level that the first takes, the second takes but at the token
low_takes : (kind : Kind) (at : ℕ) (low high : Setting) (t : Tok) (m : ℕ) (ts : List Tok) → StandsBy kind at low high t m → low.rules.may_stand t m ≡ true
    → Both kind at high t m ts ⊎ One kind at high t m
low_takes Wide at low high t m ts h e = inl (h e, λ _. tt)
low_takes Free at low high t m ts h e = inl (h.0 e, λ _. tt)
low_takes Lined at low high t m ts h e = inl (h.0 e, λ _. tt)
low_takes Opposed at low high t m ts h e =
    elim (same_or_not t.span.start at) [
      | inl d ↦ inr (tt, d, h.1 d ∙ ap not e)
      | inr d ↦ inl (h.0 d e, still_has at t ts d)
    ]
low_takes Loose at low high t m ts h e =
    elim (same_or_not t.span.start at) [
      | inl d ↦ by_case Loose at high t m ts tt d (λ _. tt) (high.rules.may_stand t m) refl
      | inr d ↦ inl (h d e, λ _. tt)
    ]

call_taken : (kind : Kind) (at : ℕ) (low high : Setting) (l : ℕ) (t : Tok) → CallsBy kind at low high l t → low.rules.may_call l t ≡ true → high.rules.may_call l t ≡ true
call_taken Wide at low high l t h e = h e
call_taken Free at low high l t h e = h.0 e
call_taken Lined at low high l t h e = h.0 e
call_taken Opposed at low high l t h e = h e
call_taken Loose at low high l t h e = h e

-- at the token, a level that the first refuses
deep_on : {A : Type 0} (kind : Kind) (at : ℕ) (low high : Setting) (t : Tok) (m : ℕ) (r : Outcome A) → StandsBy kind at low high t m → low.rules.may_stand t m ≡ false → t.span.start ≡ at
    → (high.rules.may_stand t m ≡ true → Far (at + 1) r) → DeepsOn kind at r
deep_on Wide at low high t m r h e d k = tt
deep_on Free at low high t m r h e d k = k (h.1 d)
deep_on Lined at low high t m r h e d k = k (h.1 d)
deep_on Opposed at low high t m r h e d k = k (h.1 d ∙ ap not e)
deep_on Loose at low high t m r h e d k = tt

module _ (f : Pair) where
  abbrev pub w : Tails
  w = tails_from (late f)

  -- ---- refusals

  refused : (A : Type 0) (ts : List Tok) (l m lo hi end : ℕ) → Stands f lo hi (record { ahead = ts; last = l; level = m })
      → Rel f {A = A} lo end (Err (refusal f.low (record { ahead = ts; last = l; level = m }))) (Err (refusal f.high (record { ahead = ts; last = l; level = m })))
  unfolding refusal
  refused A [] l m lo hi end i = inl (ap (λ n. UnexpectedEnd n) (sym f.len), tt, (timely_end f.kind f.at f.low.len i.awaits, refl))
  refused A (t ∷ ts) l m lo hi end i = inl (refl, tt, (timely_token f.kind f.at t ts i.ordered i.awaits, i.among.0))

  pub refuses : {A : Type 0} {lo hi end : ℕ} → Beside f lo hi end (refuse f.low {A = A}) (refuse f.high {A = A})
  refuses {A = A} {lo = lo} {hi = hi} {end = end} = record {
    alike = λ p i. refused A p.ahead p.last p.level lo hi end i;
    low_far = λ p b. (locals.refuses f.low {w = w} {A = A} 0).one p b;
    high_far = λ p b. (locals.refuses f.high {w = w} {A = A} 0).one p b;
  }

  -- ---- one token

  abbrev taking : Tok → List Tok → ℕ → Bool → Outcome Tok
  taking t ts m b = if b then Ok (t, behind t ts m) else Err (Nesting t.span.start)

  token_case : (t : Tok) (ts : List Tok) (l m lo hi : ℕ) → m ≤ f.low.limit + 2 → Stands f lo hi (here t ts l m) → (b : Bool) → f.low.rules.may_stand t m ≡ b
      → Rel f lo f.low.limit (taking t ts m b) (taking t ts m (f.high.rules.may_stand t m))
  token_case t ts l m lo hi c i true e =
      elim (low_takes f.kind f.at f.low f.high t m ts (f.stands t m c) e) [
        | inl h ↦ subst (λ z. Rel f lo f.low.limit (Ok (t, behind t ts m)) (taking t ts m z)) (sym h.0)
            (inl (refl, record { low = i.low; high = f.bounded t m e; ordered = i.ordered.2; among = i.among.1; awaits = h.1 i.awaits }))
        | inr h ↦ subst (λ z. Rel f lo f.low.limit (Ok (t, behind t ts m)) (taking t ts m z)) (sym h.2)
            (inr (inr (h.0, i.ordered.0 h.1, ap (λ z. Nesting z) h.1)))
      ]
  token_case t ts l m lo hi c i false e =
      inr (inl (
        (λ k. deep_on f.kind f.at f.low f.high t m (taking t ts m (f.high.rules.may_stand t m)) (f.stands t m c) e k
            (λ d. subst (λ z. Far {A = Tok} (late f) (taking t ts m z)) (sym d) (i.ordered.0 k))),
        (timely_deep f.kind f.at t ts i.ordered i.awaits, i.among.0),
      ))

  next_any : (ts : List Tok) (l m lo hi : ℕ) → m ≤ f.low.limit + 2 → Stands f lo hi (record { ahead = ts; last = l; level = m })
      → Rel f lo f.low.limit (next f.low (record { ahead = ts; last = l; level = m })) (next f.high (record { ahead = ts; last = l; level = m }))
  unfolding next
  next_any [] l m lo hi c i = inl (ap (λ n. UnexpectedEnd n) (sym f.len), tt, (timely_end f.kind f.at f.low.len i.awaits, refl))
  next_any (t ∷ ts) l m lo hi c i = token_case t ts l m lo hi c i (f.low.rules.may_stand t m) refl

  deep_enough : (hi m : ℕ) → hi ≤ top f → m ≤ hi → m ≤ f.low.limit + 2
  deep_enough hi m h k = omega arith

  pub next_low : {lo hi : ℕ} → hi ≤ top f → Beside f lo hi f.low.limit (next f.low) (next f.high)
  next_low {lo = lo} {hi = hi} h = record {
    alike = λ p i. next_any p.ahead p.last p.level lo hi (deep_enough hi p.level h i.high) i;
    low_far = λ p b. (locals.any f.low {w = w}).one p b;
    high_far = λ p b. (locals.any f.high {w = w}).one p b;
  }

  -- ---- the parenthesis of arguments

  opened : Setting → Place → Outcome (Unit {0})
  opened set p = and_then (next set p) (λ _. pure (tt {0}))

  open_free : (t : Tok) (ts : List Tok) (l m lo hi : ℕ) → m ≤ f.low.limit + 2 → Stands f lo hi (here t ts l m)
      → Rel f lo f.low.limit (and_then (next f.low (here t ts l m)) (λ _. pure (tt {0}))) (and_then (next f.high (here t ts l m)) (λ _. pure (tt {0})))
  open_free t ts l m lo hi c i =
      rel_then f lo f.low.limit lo f.low.limit (λ _. pure (tt {0})) (λ _. pure (tt {0})) (next f.low (here t ts l m)) (next f.high (here t ts l m))
      (next_any (t ∷ ts) l m lo hi c i) (λ x p j. inl (refl, j)) (λ x p b. b) (λ x p b. b)

  -- the second takes the token, so all behind it is late
  next_far : (t : Tok) (ts : List Tok) (l m : ℕ) → BeginFrom (late f) ts → f.high.rules.may_stand t m ≡ true
      → Far {A = Unit {0}} (late f) (and_then (next f.high (here t ts l m)) (λ _. pure (tt {0})))
  unfolding next
  next_far t ts l m b d =
      let other : Bool → Outcome (Unit {0}) = λ z. and_then (if z then Ok (t, behind t ts m) else Err (Nesting t.span.start)) (λ _. pure (tt {0})) in
      subst (λ z. Far {A = Unit {0}} (late f) (other z)) (sym d) b

  abbrev calling : Tok → List Tok → ℕ → ℕ → Bool → Outcome (Unit {0})
  calling t ts l m d = if d then and_then (next f.high (here t ts l m)) (λ _. pure (tt {0})) else Err (AmbiguousCall t.span.start)

  stopped_call : (kind : Kind) (t : Tok) (ts : List Tok) (l m : ℕ) → (t.span.start ≡ f.at → BeginFrom (late f) ts) → f.low.rules.may_call l t ≡ false → StandsBy kind f.at f.low f.high t m
      → CallsBy kind f.at f.low f.high l t → t.span.start ≡ f.at → CallsOn kind f.at (calling t ts l m (f.high.rules.may_call l t))
  stopped_call Wide t ts l m b c h k e = tt
  stopped_call Free t ts l m b c h k e = subst (λ z. Far (late f) (calling t ts l m z)) (sym (k.1 e)) (next_far t ts l m (b e) (h.1 e))
  stopped_call Lined t ts l m b c h k e = subst (λ z. IsAmbiguousAt f.at (calling t ts l m z)) (sym (k.1 e ∙ c)) (ap (λ z. AmbiguousCall z) e)
  stopped_call Opposed t ts l m b c h k e = tt
  stopped_call Loose t ts l m b c h k e = tt

  call_case : (t : Tok) (ts : List Tok) (l m lo hi : ℕ) → m ≤ f.low.limit + 2 → Stands f lo hi (here t ts l m) → (b : Bool) → f.low.rules.may_call l t ≡ b
      → Rel f lo f.low.limit (if b then and_then (next f.low (here t ts l m)) (λ _. pure (tt {0})) else Err (AmbiguousCall t.span.start)) (calling t ts l m (f.high.rules.may_call l t))
  call_case t ts l m lo hi c i true e =
      subst (λ z. Rel f lo f.low.limit (and_then (next f.low (here t ts l m)) (λ _. pure (tt {0}))) (calling t ts l m z))
      (sym (call_taken f.kind f.at f.low f.high l t (f.calls l t) e)) (open_free t ts l m lo hi c i)
  call_case t ts l m lo hi c i false e =
      inr (inl (stopped_call f.kind t ts l m i.ordered.0 e (f.stands t m c) (f.calls l t), (timely_call f.kind f.at t ts i.ordered i.awaits, i.among.0)))

  open_any : (ts : List Tok) (l m lo hi : ℕ) → m ≤ f.low.limit + 2 → Stands f lo hi (record { ahead = ts; last = l; level = m })
      → Rel f lo f.low.limit (open_arguments f.low (record { ahead = ts; last = l; level = m })) (open_arguments f.high (record { ahead = ts; last = l; level = m }))
  unfolding open_arguments sees symbol same
  open_any [] l m lo hi c i = refused (Unit {0}) [] l m lo hi f.low.limit i
  open_any (t ∷ ts) l m lo hi c i =
      let p = here t ts l m in
      rel_if f lo f.low.limit (same (symbol_of t) s.LeftParen)
      (if f.low.rules.may_call l t then and_then (next f.low p) (λ _. pure (tt {0})) else Err (AmbiguousCall t.span.start)) (Err (refusal f.low p))
      (calling t ts l m (f.high.rules.may_call l t)) (Err (refusal f.high p))
      (λ _. call_case t ts l m lo hi c i (f.low.rules.may_call l t) refl) (λ _. refused (Unit {0}) (t ∷ ts) l m lo hi f.low.limit i)

  pub opens_low : {lo hi : ℕ} → hi ≤ top f → Beside f lo hi f.low.limit (open_arguments f.low) (open_arguments f.high)
  opens_low {lo = lo} {hi = hi} h = record {
    alike = λ p i. open_any p.ahead p.last p.level lo hi (deep_enough hi p.level h i.high) i;
    low_far = λ p b. (locals.opens f.low {w = w}).one p b;
    high_far = λ p b. (locals.opens f.high {w = w}).one p b;
  }

  -- ---- one level deeper

  raised_at : (lo m : ℕ) (p : Place) → Stands f lo f.low.limit p → Rel f lo (top f) (raise f.low p) (raise f.high p)
  unfolding raise
  raised_at lo m p i =
      let both : Bool → Bool → Type 0 = λ a b. Rel f {A = Unit {0}} lo (top f) (if a then Ok (tt {0}, raised p) else Err (deep_refusal f.low p)) (if b then Ok (tt {0}, raised p) else Err (deep_refusal f.high p)) in
      let c : p.level ≤ f.low.limit = i.high in
      let d : p.level ≤ f.high.limit = (let r = f.room in omega arith) in
      let a : lo ≤ p.level = i.low in
      subst (λ z. both z (nat_le p.level f.high.limit)) (sym (le-leb p.level f.low.limit c))
      (subst (λ z. both true z) (sym (le-leb p.level f.high.limit d))
      (inl (refl, record { low = (let x : lo ≤ p.level + 1 = omega arith in x); high = (let x : p.level + 1 ≤ top f = omega arith in x); ordered = i.ordered; among = i.among; awaits = i.awaits })))

  pub raises : {lo : ℕ} → Beside f lo f.low.limit (top f) (raise f.low) (raise f.high)
  raises {lo = lo} = record { alike = λ p i. raised_at lo 0 p i; low_far = λ p b. (locals.raises f.low {w = w}).one p b; high_far = λ p b. (locals.raises f.high {w = w}).one p b }

-- ---- phrases of their own

-- What the parser of a phrase does with the first token: it takes what may begin the phrase, and refuses the rest.
pub record Starts {A : Type 0} (set : Setting) (may : Place → Bool) (s : Parser A) : Type 0 where
  pub takes : (bound : ℕ) (t : Tok) (ts : List Tok) (l m : ℕ) → BeginFrom bound ts → set.rules.may_stand t m ≡ true → may (here t ts l m) ≡ true → Far bound (s (here t ts l m))
  pub refuses : (p : Place) → may p ≡ false → s p ≡ Err (refusal set p)
  pub none : (l m : ℕ) → may (record { ahead = []; last = l; level = m }) ≡ false

module _ (f : Pair) where
  too_deep : (t : Tok) (m : ℕ) → f.low.limit < m → (b : Bool) → f.low.rules.may_stand t m ≡ b → f.low.rules.may_stand t m ≡ false
  too_deep t m h true e = let c : m ≤ f.low.limit = f.bounded t m e in absurd (omega arith)
  too_deep t m h false e = e

  abbrev restored : {A : Type 0} → ℕ → Outcome A → Outcome A
  restored m o = and_then o (λ x q. Ok (x, at_level m q))

  restored_far : {A : Type 0} (m : ℕ) (o : Outcome A) → Far (late f) o → Far (late f) (restored m o)
  restored_far m (Ok x) h = h
  restored_far m (Err e) h = h

  leveled : {A : Type 0} (lo hi m : ℕ) → lo ≤ m → m ≤ hi → (o r : Outcome A) → Rel f (lo + 1) (top f) o r → Rel f lo hi (restored m o) (restored m r)
  leveled lo hi m a b o r h =
      rel_then f (lo + 1) (top f) lo hi (λ x q. Ok (x, at_level m q)) (λ x q. Ok (x, at_level m q)) o r h
      (λ x p i. inl (refl, record { low = a; high = b; ordered = i.ordered; among = i.among; awaits = i.awaits })) (λ x p d. d) (λ x p d. d)

  abbrev phrase_by : {A : Type 0} → Setting → (Place → Bool) → Parser A → Place → Bool → Outcome A
  phrase_by set may r p b = if b then restored p.level (r (raised p)) else Err (if may p then deep_refusal set p else refusal set p)

  -- where the first parser may open nothing, the second does as the first token says
  stopped_deep : {A : Type 0} (may : Place → Bool) (s : Parser A) → Starts f.high may s → (ts : List Tok) (l m lo hi : ℕ) → m ≡ f.low.limit + 1
      → Stands f lo hi (record { ahead = ts; last = l; level = m }) → (b : Bool) → may (record { ahead = ts; last = l; level = m + 1 }) ≡ b
      → Rel f {A = A} lo hi (Err (if b then deep_refusal f.low (record { ahead = ts; last = l; level = m }) else refusal f.low (record { ahead = ts; last = l; level = m })))
      (restored m (s (record { ahead = ts; last = l; level = m + 1 })))
  unfolding deep_refusal refusal
  stopped_deep may s h [] l m lo hi d i true e = absurd (true≢false (sym e ∙ h.none l (m + 1)))
  stopped_deep {A = A} may s h [] l m lo hi d i false e =
      subst (λ o. Rel f {A = A} lo hi (Err (UnexpectedEnd f.low.len)) (restored m o)) (sym (h.refuses (record { ahead = []; last = l; level = m + 1 }) e)) (refused f A [] l m lo hi hi i)
  stopped_deep {A = A} may s h (t ∷ ts) l m lo hi d i true e =
      let r : Outcome A = restored m (s (here t ts l (m + 1))) in
      inr (inl (
        (λ k. deep_on f.kind f.at f.low f.high t (m + 1) r (f.stands t (m + 1) (omega arith)) (too_deep t (m + 1) (omega arith) (f.low.rules.may_stand t (m + 1)) refl) k
            (λ c. restored_far m (s (here t ts l (m + 1))) (h.takes (late f) t ts l (m + 1) (i.ordered.0 k) c e))),
        (timely_deep f.kind f.at t ts i.ordered i.awaits, i.among.0),
      ))
  stopped_deep {A = A} may s h (t ∷ ts) l m lo hi d i false e =
      subst (λ o. Rel f {A = A} lo hi (Err (Unexpected t.span.start)) (restored m o)) (sym (h.refuses (here t ts l (m + 1)) e)) (refused f A (t ∷ ts) l m lo hi hi i)

  deep_level : (m : ℕ) → nat_le m f.low.limit ≡ false → m ≤ f.low.limit + 1 → m ≡ f.low.limit + 1
  deep_level m e h =
      elim (cases_order m (f.low.limit + 1)) [
        | inl d ↦ d
        | inr o ↦ elim o [ inl k ↦ absurd (true≢false (sym (le-leb m f.low.limit (omega arith)) ∙ e)) | inr k ↦ absurd (omega arith) ]
      ]

  phrase_at : {A : Type 0} (may : Place → Bool) (r s : Parser A) → Starts f.high may s → ((p : Place) → may (raised p) ≡ may p) → (lo hi : ℕ) → hi ≤ top f → Beside f (lo + 1) (top f) (top f) r s → (p : Place) → Stands f lo hi p
      → (b : Bool) → nat_le p.level f.low.limit ≡ b → Rel f lo hi (phrase_by f.low may r p b) (restored p.level (s (raised p)))
  phrase_at may r s h peek lo hi c k p i true e =
      let a : p.level ≤ f.low.limit = leb-true p.level f.low.limit e in
      let g : lo ≤ p.level = i.low in
      leveled lo hi p.level i.low i.high (r (raised p)) (s (raised p))
      (k.alike (raised p) (record { low = (let x : lo + 1 ≤ p.level + 1 = omega arith in x); high = (let x : p.level + 1 ≤ top f = omega arith in x); ordered = i.ordered; among = i.among; awaits = i.awaits }))
  phrase_at {A = A} may r s h peek lo hi c k p i false e =
      let a : p.level ≤ hi = i.high in
      let d : p.level ≡ f.low.limit + 1 = deep_level p.level e (omega arith) in
      subst (λ z. Rel f {A = A} lo hi (Err (if z then deep_refusal f.low p else refusal f.low p)) (restored p.level (s (raised p)))) (peek p)
      (stopped_deep may s h p.ahead p.last p.level lo hi d i (may (raised p)) refl)

  phrase_low : {A : Type 0} (r s : Parser A) (lo : ℕ) → Beside f (lo + 1) (top f) (top f) r s → (p : Place) → Stands f lo f.low.limit p
      → Rel f lo f.low.limit (restored p.level (r (raised p))) (restored p.level (s (raised p)))
  phrase_low r s lo k p i =
      let a : p.level ≤ f.low.limit = i.high in
      let g : lo ≤ p.level = i.low in
      leveled lo f.low.limit p.level i.low i.high (r (raised p)) (s (raised p))
      (k.alike (raised p) (record { low = (let x : lo + 1 ≤ p.level + 1 = omega arith in x); high = (let x : p.level + 1 ≤ top f = omega arith in x); ordered = i.ordered; among = i.among; awaits = i.awaits }))

  phrase_high : {A : Type 0} (may : Place → Bool) (s : Parser A) (p : Place) → p.level ≤ f.high.limit → restored p.level (s (raised p)) ≡ phrase f.high may s p
  unfolding phrase
  phrase_high may s p h = ap (λ b. phrase_by f.high may s p b) (sym (le-leb p.level f.high.limit h))

  abbrev FarBy : {A : Type 0} → Parser A → Type 0
  FarBy r = (p : Place) → BeginFrom (late f) p.ahead → Far (late f) (r p)

  -- a phrase of its own
  pub phrased : {A : Type 0} {lo hi : ℕ} {r s : Parser A} (may : Place → Bool) → hi ≤ top f → ((p : Place) → may (raised p) ≡ may p) → Starts f.high may s → Beside f (lo + 1) (top f) (top f) r s
      → FarBy (phrase f.low may r) → FarBy (phrase f.high may s) → Beside f lo hi hi (phrase f.low may r) (phrase f.high may s)
  unfolding phrase
  phrased {lo = lo} {hi = hi} {r = r} {s = s} may c peek starts k low high = record {
    alike = λ p i.
        subst (λ o. Rel f lo hi (phrase f.low may r p) o) (phrase_high may s p (let a : p.level ≤ hi = i.high in let x = f.room in omega arith))
        (phrase_at may r s starts peek lo hi c k p i (nat_le p.level f.low.limit) refl);
    low_far = low;
    high_far = high;
  }

  -- a phrase where something may be opened
  pub phrased_low : {A : Type 0} {lo : ℕ} {r s : Parser A} (may : Place → Bool) → Beside f (lo + 1) (top f) (top f) r s
      → FarBy (phrase f.low may r) → FarBy (phrase f.high may s) → Beside f lo f.low.limit f.low.limit (phrase f.low may r) (phrase f.high may s)
  unfolding phrase
  phrased_low {lo = lo} {r = r} {s = s} may k low high = record {
    alike = λ p i.
        subst (λ o. Rel f lo f.low.limit (phrase f.low may r p) o) (phrase_high may s p (let a : p.level ≤ f.low.limit = i.high in let x = f.room in omega arith))
        (subst (λ b. Rel f lo f.low.limit (phrase_by f.low may r p b) (restored p.level (s (raised p)))) (sym (le-leb p.level f.low.limit i.high)) (phrase_low r s lo k p i));
    low_far = low;
    high_far = high;
  }

-- ---- tokens by their symbols, at levels up to a number

no_less : (n : ℕ) → n ≤ n
no_less n = omega arith

module _ (f : Pair) {lo hi : ℕ} (floor : f.low.limit ≤ hi) (ceil : hi ≤ top f) where
  pub any : Beside f lo hi hi (next f.low) (next f.high)
  any = within f hi hi (no_less hi) floor (next_low f ceil)

  pub token : (x : Symbol) → Beside f lo hi hi (expect f.low x) (expect f.high x)
  unfolding expect
  token x = choose f (sees x) any (refuses f)

  pub token_low : (x : Symbol) → Beside f lo hi f.low.limit (expect f.low x) (expect f.high x)
  unfolding expect
  token_low x = choose f (sees x) (next_low f ceil) (refuses f)

  pub eaten : (x : Symbol) → Beside f lo hi hi (eat f.low x) (eat f.high x)
  unfolding eat
  eaten x = choose f (sees x) (both f any (λ _. done f true)) (done f false)

  pub a_name : Beside f lo hi hi (name f.low) (name f.high)
  unfolding name
  a_name = both f (token s.Name) (λ t. done f t.bytes)

  pub a_string : (x : Symbol) → Beside f lo hi hi (string f.low x) (string f.high x)
  unfolding string
  a_string x = both f (token x) (λ t. done f (string_value t.kind t.bytes))

  pub opens : Beside f lo hi hi (open_arguments f.low) (open_arguments f.high)
  opens = within f hi hi (no_less hi) floor (opens_low f ceil)
