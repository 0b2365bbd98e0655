-- What a parser has read before a refused token can be closed: another parser, which allows more levels, reads the
-- same tokens and then some closing ones.
use Rattle.std.proofs.Common.{◌≡◌, ℕ, ◌+◌, ◌≤◌, ◌<◌, true, List, [], ◌∷◌, ◌++◌, refl, sym, ◌∙◌, ap, subst, ◌⊎◌, inl, inr}
use Rattle.std.specs.Prelude.{Ok, Err}
use Rattle.luau_lex.specs.Tokens.{Tok}
use Rattle.luau_grammar.specs.declared.error.ParseError.{ParseError}
use Rattle.luau_grammar.specs.declared.error.ParseError.TheVariants.{Unexpected, UnexpectedEnd}
use Rattle.luau_grammar.specs.declared.symbol.Symbol.{Symbol}
use Rattle.luau_grammar.specs.Places.{Place, first_symbol}
use Rattle.luau_grammar.specs.Reading.{Setting, Parser, Outcome, ◌>>=◌, and_then}
use Rattle.luau_grammar.proofs.Agreement.{Bounded}
use Rattle.grammar_faults.specs.Fronts.{BeginFrom}

-- tokens behind the first of these, where it is refused
abbrev pub CutLate : ℕ → List Tok → Type 0
CutLate bound [] = Unit {0}
CutLate bound (t ∷ ts) = (t.span.start < bound) × BeginFrom bound ts

-- The parsers, the tokens from the refused one on, the offset from which those behind it begin, and that of closing ones.
pub record Frame : Type 0 where
  pub low : Setting
  pub high : Setting
  pub cut : List Tok
  pub bound : ℕ
  pub at : ℕ
  pub bounded : Bounded low
  pub room : low.limit + 3 ≤ high.limit
  pub free : (t : Tok) (m : ℕ) → m ≤ high.limit → high.rules.may_stand t m ≡ true
  pub calls : (l : ℕ) (t : Tok) → low.rules.may_call l t ≡ true → high.rules.may_call l t ≡ true
  pub calls_late : (l : ℕ) (t : Tok) → t.span.start ≡ at → high.rules.may_call l t ≡ true
  pub late : CutLate bound cut

abbrev pub place : List Tok → ℕ → ℕ → Place
place ts l m = record { ahead = ts; last = l; level = m }

abbrev pub fault_of : ℕ → List Tok → ParseError
fault_of len [] = UnexpectedEnd len
fault_of len (t ∷ ts) = Unexpected t.span.start

abbrev pub BeyondOf : ℕ → List Tok → List Tok → Type 0
BeyondOf bound [] ts = ⊥
BeyondOf bound (c ∷ cs) ts = BeginFrom bound ts

abbrev pub ApartOf : List Tok → Tok → Type 0
ApartOf [] u = Unit {0}
ApartOf (t ∷ ts) u = u.span.start ≡ t.span.start → ⊥

abbrev pub BeforeOf : List Tok → List Tok → Type 0
BeforeOf cut [] = Unit {0}
BeforeOf cut (u ∷ us) = ApartOf cut u × BeforeOf cut us

module _ (f : Frame) where
  -- the fault at the cut
  abbrev pub fault : ParseError
  fault = fault_of f.low.len f.cut

  -- behind the refused token
  abbrev pub Beyond : List Tok → Type 0
  Beyond ts = BeyondOf f.bound f.cut ts

  -- before it
  abbrev pub Before : List Tok → Type 0
  Before us = BeforeOf f.cut us

  -- the deepest levels: of the first parser, of the other behind its tokens, and where a phrase begins there
  abbrev pub top : ℕ
  top = f.low.limit + 1

  abbrev pub roof : ℕ
  roof = f.low.limit + 2

  abbrev pub peak : ℕ
  peak = f.low.limit + 3

  abbrev pub Far : {A : Type 0} → Outcome A → Type 0
  Far (Ok x) = Beyond x.1.ahead
  Far (Err e) = e ≡ fault → ⊥

  -- the other parser stands at these tokens
  pub record Ends {A C : Type 0} (a : ℕ) (shape : A → C) (kind : C) (r : Parser A) (p : Place) (zs : List Tok) : Type 0 where
    pub value : A
    pub last : ℕ
    pub level : ℕ
    pub low : level ≤ a
    pub same : shape value ≡ kind
    pub reads : r p ≡ Ok (value, place zs last level)

  -- What it reads of closing tokens alone.
  pub record Opens {A C : Type 0} (a : ℕ) (follow : Symbol → Type 0) (shape : A → C) (close : List Tok → List Tok) (kind : C) (r : Parser A) : Type 0 where
    pub opens : (zs : List Tok) (l m : ℕ) → m ≤ a → follow (first_symbol zs) → Ends a shape kind r (place (close zs) l m) zs

  -- The first parser stands before the last token of the prefix, or within it.
  pub record Short {A C : Type 0} (shape : A → C) (r : Parser A) (us : List Tok) (l m : ℕ) (x : A × Place) : Type 0 where
    pub token : Tok
    pub rest : List Tok
    pub ahead : x.1.ahead ≡ token ∷ (rest ++ f.cut)
    pub before : Before (token ∷ rest)
    pub level : x.1.level ≤ top
    pub value : A
    pub same : shape value ≡ shape x.0
    pub reads : (new : List Tok) → r (place (us ++ new) l m) ≡ Ok (value, place (token ∷ (rest ++ new)) x.1.last x.1.level)

  -- It stands at the cut.
  pub record AtCut {A C : Type 0} (follow : Symbol → Type 0) (shape : A → C) (r : Parser A) (us : List Tok) (l m : ℕ) (x : A × Place) : Type 0 where
    pub ahead : x.1.ahead ≡ f.cut
    pub ends : (new : List Tok) → follow (first_symbol new) → Ends roof shape (shape x.0) r (place (us ++ new) l m) new

  -- closing tokens begin at their offset or behind it
  abbrev pub Late : (Symbol → Type 0) → (List Tok → List Tok) → Type 0
  Late follow close = (zs : List Tok) → follow (first_symbol zs) → BeginFrom f.at zs → BeginFrom f.at (close zs)

  pub record Closed {A C : Type 0} (follow : Symbol → Type 0) (shape : A → C) (r : Parser A) (us : List Tok) (l m : ℕ) : Type 0 where
    pub close : List Tok → List Tok
    pub kind : C
    pub late : Late follow close
    pub ends : (zs : List Tok) → follow (first_symbol zs) → Ends roof shape kind r (place (us ++ close zs) l m) zs

  -- what the outcome of the first parser says of the other
  abbrev pub Claim : {A C : Type 0} → (Symbol → Type 0) → (A → C) → Parser A → List Tok → ℕ → ℕ → Outcome A → Type 0
  Claim follow shape r us l m (Ok x) = Beyond x.1.ahead ⊎ (Short shape r us l m x ⊎ AtCut follow shape r us l m x)
  Claim follow shape r us l m (Err e) = e ≡ fault → Closed follow shape r us l m

  -- the outcome of the first parser at the cut
  abbrev pub Idle : {A C : Type 0} → (A → C) → (C → Type 0) → Outcome A → Type 0
  Idle shape stay (Ok x) = Beyond x.1.ahead ⊎ ((x.1.ahead ≡ f.cut) × stay (shape x.0))
  Idle shape stay (Err e) = Unit {0}

  -- What is read before the cut can be closed. A parser that takes no token says what it gives.
  pub record Goes {A C : Type 0} (follow : Symbol → Type 0) (shape : A → C) (stay : C → Type 0) (r s : Parser A) : Type 0 where
    pub idle : (l m : ℕ) → Idle shape stay (r (place f.cut l m))
    pub inside : (u : Tok) (us : List Tok) (l m : ℕ) → m ≤ top → Before (u ∷ us) → Claim follow shape s (u ∷ us) l m (r (place (u ∷ (us ++ f.cut)) l m))
    pub far : (p : Place) → Beyond p.ahead → Far (r p)

module _ (f : Frame) where
  pub claim_far : {A C : Type 0} (follow : Symbol → Type 0) (shape : A → C) (s : Parser A) (us : List Tok) (l m : ℕ) (o : Outcome A) → Far f o → Claim f follow shape s us l m o
  claim_far follow shape s us l m (Ok x) h = inl h
  claim_far follow shape s us l m (Err e) h = λ d. absurd (h d)

  pub far_then : {A B : Type 0} (g : A → Parser B) (o : Outcome A) → Far f o → ((x : A) (p : Place) → Beyond f p.ahead → Far f (g x p)) → Far f (and_then o g)
  far_then g (Ok x) h k = k x.0 x.1 h
  far_then g (Err e) h k = h

  -- what a parser reads from a later place, it reads from an earlier one by a step between them
  ends_from : {B D : Type 0} (a : ℕ) (shape : B → D) (kind : D) (r s : Parser B) (p q : Place) (zs : List Tok) → r p ≡ s q → Ends f a shape kind s q zs → Ends f a shape kind r p zs
  ends_from a shape kind r s p q zs e h = record { value = h.value; last = h.last; level = h.level; low = h.low; same = h.same; reads = e ∙ h.reads }

  pub claim_from : {B D : Type 0} (follow : Symbol → Type 0) (shape : B → D) (r s : Parser B) (us vs : List Tok) (l m l' m' : ℕ)
      → ((new : List Tok) → r (place (us ++ new) l m) ≡ s (place (vs ++ new) l' m')) → (o : Outcome B) → Claim f follow shape s vs l' m' o → Claim f follow shape r us l m o
  claim_from follow shape r s us vs l m l' m' e (Err d) h = λ k.
      let c = h k in
      record { close = c.close; kind = c.kind; late = c.late; ends = λ zs fol. ends_from (roof f) shape (c.kind) r s (place (us ++ c.close zs) l m) (place (vs ++ c.close zs) l' m') zs (e (c.close zs)) (c.ends zs fol) }
  claim_from follow shape r s us vs l m l' m' e (Ok x) (inl h) = inl h
  claim_from follow shape r s us vs l m l' m' e (Ok x) (inr (inl h)) =
      inr (inl (record { token = h.token; rest = h.rest; ahead = h.ahead; before = h.before; level = h.level; value = h.value; same = h.same; reads = λ new. e new ∙ h.reads new }))
  claim_from follow shape r s us vs l m l' m' e (Ok x) (inr (inr h)) =
      inr (inr (record { ahead = h.ahead; ends = λ new fol. ends_from (roof f) shape (shape x.0) r s (place (us ++ new) l m) (place (vs ++ new) l' m') new (e new) (h.ends new fol) }))

  place_of : (q : Place) (ts : List Tok) → q.ahead ≡ ts → q ≡ place ts q.last q.level
  place_of q ts e = ap (λ z. place z q.last q.level) e

  -- one parser, and then another
  module _ (A B C D : Type 0) (F G : Symbol → Type 0) (sh : A → C) (th : B → D) (stay : C → Type 0) (still : C → D → Type 0) (stop : D → Type 0)
      (r s : Parser A) (g k : A → Parser B) (close : C → List Tok → List Tok) (kind : C → D) where
    abbrev Second : Type 0
    Second = (x y : A) → sh y ≡ sh x → Goes f G th (still (sh x)) (g x) (k y)

    abbrev Reopens : ℕ → Type 0
    Reopens a = (y : A) → Opens f a G th (close (sh y)) (kind (sh y)) (k y)

    abbrev Joins : Type 0
    Joins = (c : C) (zs : List Tok) → G (first_symbol zs) → F (first_symbol (close c zs))

    abbrev Quiet : Type 0
    Quiet = (c : C) (d : D) → still c d → ((zs : List Tok) → close c zs ≡ zs) × (d ≡ kind c)

    abbrev Lates : Type 0
    Lates = (y : A) → Late f G (close (sh y))

    ends_then : (a : ℕ) → Reopens a → (c : C) (p : Place) (zs : List Tok) → G (first_symbol zs) → Ends f a sh c s p (close c zs) → Ends f a th (kind c) (s >>= k) p zs
    ends_then a reopens c p zs fol h =
        let o : Ends f a th (kind c) (k h.value) (place (close c zs) h.last h.level) zs =
        subst (λ z. Ends f a th (kind z) (k h.value) (place (close z zs) h.last h.level) zs) h.same ((reopens h.value).opens zs h.last h.level h.low fol) in
        record { value = o.value; last = o.last; level = o.level; low = o.low; same = o.same; reads = ap (λ z. and_then z k) h.reads ∙ o.reads }

    cut_then : Reopens (roof f) → Joins → Quiet → Lates → (us : List Tok) (l m : ℕ) (x : A × Place) (o : Outcome B) → Idle f th (still (sh x.0)) o
        → AtCut f F sh s us l m x → Claim f G th (s >>= k) us l m o
    cut_then reopens joins quiet lates us l m x (Err e) i h = λ d.
        record {
          close = close (sh x.0);
          kind = kind (sh x.0);
          late = λ zs fol b. lates x.0 zs fol b;
          ends = λ zs fol.
              ends_then (roof f) reopens (sh x.0) (place (us ++ close (sh x.0) zs) l m) zs fol (h.ends (close (sh x.0) zs) (joins (sh x.0) zs fol));
        }
    cut_then reopens joins quiet lates us l m x (Ok y) (inl i) h = inl i
    cut_then reopens joins quiet lates us l m x (Ok y) (inr i) h =
        let t = quiet (sh x.0) (th y.0) i.1 in
        inr (inr (record {
          ahead = i.0;
          ends = λ new fol.
              let e = t.0 new in
              subst (λ z. Ends f (roof f) th z (s >>= k) (place (us ++ new) l m) new) (sym t.1)
              (ends_then (roof f) reopens (sh x.0) (place (us ++ new) l m) new fol
              (subst (λ z. Ends f (roof f) sh (sh x.0) s (place (us ++ new) l m) z) (sym e)
              (h.ends new (subst (λ z. F (first_symbol z)) e (joins (sh x.0) new fol)))));
        }))

    claim_then : Second → Reopens (roof f) → Joins → Quiet → Lates → (us : List Tok) (l m : ℕ) (o : Outcome A) → Claim f F sh s us l m o → Claim f G th (s >>= k) us l m (and_then o g)
    claim_then second reopens joins quiet lates us l m (Err e) h = λ d.
        let c = h d in
        record {
          close = λ zs. c.close (close c.kind zs);
          kind = kind c.kind;
          late = λ zs fol b.
              let e = c.ends (close c.kind zs) (joins (c.kind) zs fol) in
              c.late (close c.kind zs) (joins (c.kind) zs fol) (subst (λ z. BeginFrom f.at (close z zs)) e.same (lates e.value zs fol b));
          ends = λ zs fol.
              ends_then (roof f) reopens (c.kind) (place (us ++ c.close (close c.kind zs)) l m) zs fol (c.ends (close c.kind zs) (joins (c.kind) zs fol));
        }
    claim_then second reopens joins quiet lates us l m (Ok x) (inl h) =
        claim_far G th (s >>= k) us l m (g x.0 x.1) ((second x.0 x.0 refl).far (x.1) h)
    claim_then second reopens joins quiet lates us l m (Ok x) (inr (inl h)) =
        let o = (second x.0 h.value h.same).inside h.token h.rest (x.1.last) (x.1.level) h.level h.before in
        subst (λ z. Claim f G th (s >>= k) us l m (g x.0 z)) (sym (place_of x.1 (h.token ∷ (h.rest ++ f.cut)) h.ahead))
        (claim_from G th (s >>= k) (k h.value) us (h.token ∷ h.rest) l m (x.1.last) (x.1.level) (λ new. ap (λ z. and_then z k) (h.reads new))
        (g x.0 (place (h.token ∷ (h.rest ++ f.cut)) x.1.last x.1.level)) o)
    claim_then second reopens joins quiet lates us l m (Ok x) (inr (inr h)) =
        subst (λ z. Claim f G th (s >>= k) us l m (g x.0 z)) (sym (place_of x.1 f.cut h.ahead))
        (cut_then reopens joins quiet lates us l m x (g x.0 (place f.cut x.1.last x.1.level)) ((second x.0 x.0 refl).idle (x.1.last) (x.1.level)) h)

    idle_more : (c : C) → ((d : D) → still c d → stop d) → (o : Outcome B) → Idle f th (still c) o → Idle f th stop o
    idle_more c h (Err e) i = i
    idle_more c h (Ok y) (inl i) = inl i
    idle_more c h (Ok y) (inr i) = inr (i.0, h (th y.0) i.1)

    idle_far : (o : Outcome B) → Far f o → Idle f th stop o
    idle_far (Ok y) h = inl h
    idle_far (Err e) h = tt

    idle_then : Second → ((c : C) (d : D) → stay c → still c d → stop d) → (o : Outcome A) → Idle f sh stay o → Idle f th stop (and_then o g)
    idle_then second stays (Err e) i = i
    idle_then second stays (Ok x) (inl i) = idle_far (g x.0 x.1) ((second x.0 x.0 refl).far (x.1) i)
    idle_then second stays (Ok x) (inr i) =
        subst (λ z. Idle f th stop (g x.0 z)) (sym (place_of x.1 f.cut i.0))
        (idle_more (sh x.0) (λ d. stays (sh x.0) d i.1) (g x.0 (place f.cut x.1.last x.1.level)) ((second x.0 x.0 refl).idle (x.1.last) (x.1.level)))

    pub both_by : Goes f F sh stay r s → Second → Reopens (roof f) → Joins → Quiet → ((c : C) (d : D) → stay c → still c d → stop d) → Lates → Goes f G th stop (r >>= g) (s >>= k)
    both_by h second reopens joins quiet stays lates = record {
      idle = λ l m. idle_then second stays (r (place f.cut l m)) (h.idle l m);
      inside = λ u us l m b a. claim_then second reopens joins quiet lates (u ∷ us) l m (r (place (u ∷ (us ++ f.cut)) l m)) (h.inside u us l m b a);
      far = λ p b. far_then g (r p) (h.far p b) (λ x. (second x x refl).far);
    }

    pub opens_by : {a : ℕ} {first : List Tok → List Tok} {c : C} → Opens f a F sh first c s → Reopens a → Joins → Opens f a G th (λ zs. first (close c zs)) (kind c) (s >>= k)
    opens_by {a = a} {first = first} {c = c} h reopens joins = record {
      opens = λ zs l m b fol. ends_then a reopens c (place (first (close c zs)) l m) zs fol (h.opens (close c zs) l m b (joins c zs fol));
    }
