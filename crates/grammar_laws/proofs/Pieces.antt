-- Pieces of a text between two places, with the outline of what stands there, and how pieces are put together.
use Rattle.std.proofs.Common.{◌≡◌, ℕ, suc, ◌≤◌, ◌<◌, true, false, List, [], ◌∷◌, length, ◌⊎◌, inl, inr, refl, sym, ap, ◌∙◌, subst, arith}
use Rattle.std.specs.Prelude.{Any}
use Rattle.luau_tree.specs.declared.position.Span.{Span}
use Rattle.luau_lex.specs.Tokens.{Tok}
use Rattle.luau_grammar.specs.declared.symbol.Symbol.{Symbol}
use Rattle.luau_grammar.specs.declared.symbol.Symbol.TheVariants as s
use Rattle.luau_grammar.specs.Places.{Place, Rules, IsNext, Takes, TakesName, TakesNumber, TakesString, OpensArguments, sees, first_start, start_of, from_to, over, at_level}
use Rattle.luau_grammar.specs.Lists.{AreSeparated, AreInBraces, TakesSeparator, sees_separator}
use Rattle.grammar_laws.specs.Outlines.{Outline, no_spans, more_spans, and_then, node}
use Rattle.grammar_laws.specs.Laws.{AreInOrder, AreNested}

any_here : {X : Type 0} (P : X → Type 0) (x : X) (xs : List X) → P x → Any P (x ∷ xs)
any_here P x xs h = (0, x, omega arith, refl, h)

any_there : {X : Type 0} (P : X → Type 0) (x : X) (xs : List X) → Any P xs → Any P (x ∷ xs)
any_there P x xs h = let l : h.0 < length xs = h.2 in (suc h.0, h.1, omega arith, h.3, h.4)

-- nothing behind an outline
pub and_nothing : (o : Outline) → and_then o no_spans ≡ o
and_nothing no_spans = refl
and_nothing (more_spans span inside behind) = ap (more_spans span inside) (and_nothing behind)

pub regrouped : (o other third : Outline) → and_then (and_then o other) third ≡ and_then o (and_then other third)
regrouped no_spans other third = refl
regrouped (more_spans span inside behind) other third = ap (more_spans span inside) (regrouped behind other third)

-- The outline of a list is the outlines of its elements.
pub record Lists {A : Type 0} (one : A → Outline) (all : List A → Outline) : Type 0 where
  pub none : all [] ≡ no_spans
  pub more : (x : A) (xs : List A) → all (x ∷ xs) ≡ and_then (one x) (all xs)

alone : {A : Type 0} (one : A → Outline) (all : List A → Outline) → Lists one all → (x : A) → all (x ∷ []) ≡ one x
alone one all l x = l.more x [] ∙ ap (and_then (one x)) l.none ∙ and_nothing (one x)

pub start_is : (p : Place) → start_of p ≡ first_start p.ahead
unfolding start_of
start_is p = refl

module _ (ts : List Tok) where
  -- tokens in order, which are among the tokens of the module
  abbrev pub Stand : ℕ → List Tok → Type 0
  Stand at [] = Unit {0}
  Stand at (t ∷ us) =
      (at ≤ t.span.start) × (t.span.start < t.span.end) × Any (λ u. u.span.start ≡ t.span.start) ts
      × Any (λ u. u.span.end ≡ t.span.end) ts × Stand t.span.end us

  -- From tokens on, behind an offset, to other tokens, behind a later offset: at least a token is taken, and the spans
  -- of the outline stand there.
  pub record Taken (us : List Tok) (at : ℕ) (vs : List Tok) (to : ℕ) (o : Outline) : Type 0 where
    pub behind : at ≤ first_start us
    pub begins : Any (λ u. u.span.start ≡ first_start us) ts
    pub ends : Any (λ u. u.span.end ≡ to) ts
    pub forward : first_start us < to
    pub stand : Stand to vs
    pub nested : AreNested ts (first_start us) to o

  -- no token
  abbrev pub Skipped : List Tok → ℕ → List Tok → ℕ → Outline → Type 0
  Skipped us at vs to o = (vs ≡ us) × (to ≡ at) × (o ≡ no_spans)

  abbrev pub Either : List Tok → ℕ → List Tok → ℕ → Outline → Type 0
  Either us at vs to o = Skipped us at vs to o ⊎ Taken us at vs to o

  -- at least a token between two places
  abbrev pub Piece : Place → Place → Outline → Type 0
  Piece p q o = Stand p.last p.ahead → Taken p.ahead p.last q.ahead q.last o

  -- nothing, or at least a token
  abbrev pub Maybe : Place → Place → Outline → Type 0
  Maybe p q o = Stand p.last p.ahead → Either p.ahead p.last q.ahead q.last o

  pub nested_lower : (low from to : ℕ) (o : Outline) → low ≤ from → AreNested ts from to o → AreNested ts low to o
  nested_lower low from to no_spans l n = let m : from ≤ to = n in omega arith
  nested_lower low from to (more_spans span inside behind) l n = let m : from ≤ span.start = n.0 in (omega arith, n.1, n.2, n.3)

  nested_then : (from mid to : ℕ) (o other : Outline) → AreNested ts from mid o → AreNested ts mid to other → AreNested ts from to (and_then o other)
  nested_then from mid to no_spans other n m = nested_lower from mid to other n m
  nested_then from mid to (more_spans span inside behind) other n m =
      (n.0, n.1, n.2, nested_then span.end mid to behind other n.3 m)

  taken_taken : (us vs ws : List Tok) (at mid to : ℕ) (o other : Outline) → Taken us at vs mid o → Taken vs mid ws to other
      → Taken us at ws to (and_then o other)
  taken_taken us vs ws at mid to o other x y =
      let k : first_start us < mid = x.forward in
      let l : mid ≤ first_start vs = y.behind in
      let m : first_start vs < to = y.forward in
      record {
        behind = x.behind;
        begins = x.begins;
        ends = y.ends;
        forward = omega arith;
        stand = y.stand;
        nested = nested_then (first_start us) mid to o other x.nested (nested_lower mid (first_start vs) to other l y.nested);
      }

  taken_either : (us vs ws : List Tok) (at mid to : ℕ) (o other : Outline) → Taken us at vs mid o → Either vs mid ws to other
      → Taken us at ws to (and_then o other)
  taken_either us vs ws at mid to o other x (inl e) =
      subst (λ z. Taken us at z to (and_then o other)) (sym e.0)
      (subst (λ z. Taken us at vs z (and_then o other)) (sym e.1)
      (subst (λ z. Taken us at vs mid (and_then o z)) (sym e.2)
      (subst (Taken us at vs mid) (sym (and_nothing o)) x)))
  taken_either us vs ws at mid to o other x (inr y) = taken_taken us vs ws at mid to o other x y

  either_stand : (us vs : List Tok) (at to : ℕ) (o : Outline) → Stand at us → Either us at vs to o → Stand to vs
  either_stand us vs at to o s (inl e) = subst (λ z. Stand to z) (sym e.0) (subst (λ z. Stand z us) (sym e.1) s)
  either_stand us vs at to o s (inr y) = y.stand

  either_taken : (us vs ws : List Tok) (at mid to : ℕ) (o other : Outline) → Either us at vs mid o → Taken vs mid ws to other
      → Taken us at ws to (and_then o other)
  either_taken us vs ws at mid to o other (inl e) y =
      subst (λ z. Taken z at ws to (and_then o other)) e.0
      (subst (λ z. Taken vs z ws to (and_then o other)) e.1
      (subst (λ z. Taken vs mid ws to (and_then z other)) (sym e.2) y))
  either_taken us vs ws at mid to o other (inr x) y = taken_taken us vs ws at mid to o other x y

  either_either : (us vs ws : List Tok) (at mid to : ℕ) (o other : Outline) → Either us at vs mid o → Either vs mid ws to other
      → Either us at ws to (and_then o other)
  either_either us vs ws at mid to o other (inl e) (inl f) =
      inl (f.0 ∙ e.0, f.1 ∙ e.1, ap (λ z. and_then z other) e.2 ∙ f.2)
  either_either us vs ws at mid to o other (inl e) (inr y) = inr (either_taken us vs ws at mid to o other (inl e) y)
  either_either us vs ws at mid to o other (inr x) y = inr (taken_either us vs ws at mid to o other x y)

  -- ---- pieces one behind another

  pub both : (p a q : Place) (o other : Outline) → Piece p a o → Piece a q other → Piece p q (and_then o other)
  both p a q o other f g i = let x = f i in taken_taken p.ahead a.ahead q.ahead p.last a.last q.last o other x (g x.stand)

  pub then_maybe : (p a q : Place) (o other : Outline) → Piece p a o → Maybe a q other → Piece p q (and_then o other)
  then_maybe p a q o other f g i = let x = f i in taken_either p.ahead a.ahead q.ahead p.last a.last q.last o other x (g x.stand)

  pub maybe_then : (p a q : Place) (o other : Outline) → Maybe p a o → Piece a q other → Piece p q (and_then o other)
  maybe_then p a q o other f g i =
      let x = f i in
      either_taken p.ahead a.ahead q.ahead p.last a.last q.last o other x (g (either_stand p.ahead a.ahead p.last a.last o i x))

  pub maybe_maybe : (p a q : Place) (o other : Outline) → Maybe p a o → Maybe a q other → Maybe p q (and_then o other)
  maybe_maybe p a q o other f g i =
      let x = f i in
      either_either p.ahead a.ahead q.ahead p.last a.last q.last o other x (g (either_stand p.ahead a.ahead p.last a.last o i x))

  -- tokens behind
  pub closed : (p a q : Place) (o : Outline) → Piece p a o → Piece a q no_spans → Piece p q o
  closed p a q o f g = subst (Piece p q) (and_nothing o) (both p a q o no_spans f g)

  pub maybe_closed : (p a q : Place) (o : Outline) → Maybe p a o → Piece a q no_spans → Piece p q o
  maybe_closed p a q o f g = subst (Piece p q) (and_nothing o) (maybe_then p a q o no_spans f g)

  pub perhaps_closed : (p a q : Place) (o : Outline) → Piece p a o → Maybe a q no_spans → Piece p q o
  perhaps_closed p a q o f g = subst (Piece p q) (and_nothing o) (then_maybe p a q o no_spans f g)

  -- between two tokens
  pub enclosed : (p a b q : Place) (o : Outline) → Piece p a no_spans → Maybe a b o → Piece b q no_spans → Piece p q o
  enclosed p a b q o f g h = both p a q no_spans o f (maybe_closed a b q o g h)

  pub maybe : (p q : Place) (o : Outline) → Piece p q o → Maybe p q o
  maybe p q o f i = inr (f i)

  pub nothing : (p q : Place) → q ≡ p → Maybe p q no_spans
  nothing p q e i = inl (ap (λ (z : Place). z.ahead) e, ap (λ (z : Place). z.last) e, refl)

  -- the same place at another level
  pub leveled : (p a q : Place) (level : ℕ) (o : Outline) → q ≡ at_level level a → Piece p a o → Piece p q o
  leveled p a q level o e f = subst (λ (z : Place). Piece p z o) (sym e) f

  pub maybe_leveled : (p a q : Place) (level : ℕ) (o : Outline) → q ≡ at_level level a → Maybe p a o → Maybe p q o
  maybe_leveled p a q level o e f = subst (λ (z : Place). Maybe p z o) (sym e) f

  -- ---- single tokens

  front : (t : Tok) (us vs : List Tok) (at : ℕ) → us ≡ t ∷ vs → Stand at us → Taken us at vs t.span.end no_spans
  front t us vs at e =
      subst (λ z. Stand at z → Taken z at vs t.span.end no_spans) (sym e) (λ i.
      let l : t.span.start < t.span.end = i.1 in
      record { behind = i.0; begins = i.2; ends = i.3; forward = l; stand = i.4; nested = omega arith })

  next_token : (rules : Rules) (p q : Place) (t : Tok) → IsNext rules p q t → Piece p q no_spans
  next_token rules p q t h =
      subst (λ (z : Place). Piece p z no_spans) (sym h.3) (front t p.ahead h.0 p.last h.1)

  pub token : (rules : Rules) (x : Symbol) (p q : Place) → Takes rules x p q → Piece p q no_spans
  unfolding Takes
  token rules x p q h = next_token rules p q h.0 h.2

  pub name : (rules : Rules) (p q : Place) (n : List ℕ) → TakesName rules p q n → Piece p q no_spans
  unfolding TakesName
  name rules p q n h = next_token rules p q h.0 h.3

  pub number : (rules : Rules) (p q : Place) (n : List ℕ) → TakesNumber rules p q n → Piece p q no_spans
  unfolding TakesNumber
  number rules p q n h = next_token rules p q h.0 h.3

  pub string : (rules : Rules) (x : Symbol) (p q : Place) (n : List ℕ) → TakesString rules x p q n → Piece p q no_spans
  unfolding TakesString
  string rules x p q n h = next_token rules p q h.0 h.3

  pub opening : (rules : Rules) (p q : Place) → OpensArguments rules p q → Piece p q no_spans
  unfolding OpensArguments
  opening rules p q h = next_token rules p q h.0 h.3

  -- ---- nodes

  spanned : (us vs : List Tok) (at to : ℕ) (o : Outline) → Taken us at vs to o
      → Taken us at vs to (node (record { start = first_start us; end = to }) o)
  spanned us vs at to o x =
      let l : first_start us < to = x.forward in
      record {
        behind = x.behind;
        begins = x.begins;
        ends = x.ends;
        forward = x.forward;
        stand = x.stand;
        nested = (omega arith, record { begins = x.begins; ends = x.ends; forward = x.forward }, x.nested, omega arith);
      }

  -- a node from an offset at which the first token begins
  pub node_from : (p q : Place) (start : ℕ) (span : Span) (o : Outline) → start ≡ first_start p.ahead → span ≡ from_to start q
      → Piece p q o → Piece p q (node span o)
  node_from p q start span o e h f i =
      subst (λ z. Taken p.ahead p.last q.ahead q.last (node z o)) (sym h)
      (subst (λ z. Taken p.ahead p.last q.ahead q.last (node (from_to z q) o)) (sym e)
      (spanned p.ahead q.ahead p.last q.last o (f i)))

  pub node_over : (p q : Place) (span : Span) (o : Outline) → span ≡ over p q → Piece p q o → Piece p q (node span o)
  node_over p q span o h f = node_from p q (start_of p) span o (start_is p) h f

  -- ---- lists

  pub separated : (rules : Rules) {A : Type 0} (one : A → Outline) (all : List A → Outline) → Lists one all → (Is : Place → Place → A → Type 0)
      → ((p q : Place) (x : A) → Is p q x → Piece p q (one x)) → (xs : List A) (p q : Place) (x : A) → AreSeparated rules Is p q x xs
      → Piece p q (all (x ∷ xs))
  separated rules one all l Is held [] p q x h = subst (Piece p q) (sym (alone one all l x)) (held p q x h.0)
  separated rules one all l Is held (y ∷ ys) p q x h =
      subst (Piece p q) (sym (l.more x (y ∷ ys)))
      (both p h.1 q (one x) (all (y ∷ ys)) (closed p h.0 h.1 (one x) (held p h.0 x h.2) (token rules _ h.0 h.1 h.3))
      (separated rules one all l Is held ys h.1 q y h.4))

  separator : (rules : Rules) (p q : Place) → TakesSeparator rules p q → Piece p q no_spans
  separator rules p q (inl t) = token rules s.Comma p q t
  separator rules p q (inr t) = token rules s.Semicolon p q t

  pub in_braces : (rules : Rules) {A : Type 0} (one : A → Outline) (all : List A → Outline) → Lists one all → (Is : Place → Place → A → Type 0)
      → ((p q : Place) (x : A) → Is p q x → Piece p q (one x)) → (xs : List A) (p q : Place) (x : A) → AreInBraces rules Is p q x xs
      → Piece p q (all (x ∷ xs))
  in_braces rules one all l Is held [] p q x h =
      subst (Piece p q) (sym (alone one all l x)) (perhaps_closed p h.0 q (one x) (held p h.0 x h.1) (last_separator h.0 q h.2))
    where
      last_separator : (a q : Place) → ((sees_separator a ≡ false) × (q ≡ a)) ⊎ (TakesSeparator rules a q × (sees s.RightBrace q ≡ true))
          → Maybe a q no_spans
      last_separator a q (inl h) = nothing a q h.1
      last_separator a q (inr h) = maybe a q no_spans (separator rules a q h.0)
  in_braces rules one all l Is held (y ∷ ys) p q x h =
      subst (Piece p q) (sym (l.more x (y ∷ ys)))
      (both p h.1 q (one x) (all (y ∷ ys)) (closed p h.0 h.1 (one x) (held p h.0 x h.2) (separator rules h.0 h.1 h.3))
      (in_braces rules one all l Is held ys h.1 q y h.5))

-- the tokens of a list in order stand
pub stand : (ts us : List Tok) (at : ℕ) → ((P : Tok → Type 0) → Any P us → Any P ts) → AreInOrder at us → Stand ts at us
stand ts [] at among h = tt
stand ts (t ∷ us) at among h = (
  h.0,
  h.1,
  among (λ u. u.span.start ≡ t.span.start) (any_here (λ (u : Tok). u.span.start ≡ t.span.start) t us refl),
  among (λ u. u.span.end ≡ t.span.end) (any_here (λ (u : Tok). u.span.end ≡ t.span.end) t us refl),
  stand ts us t.span.end (λ P i. among P (any_there P t us i)) h.2,
)
