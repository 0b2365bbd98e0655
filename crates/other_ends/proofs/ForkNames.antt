-- Tests that look at two tokens, and what parsers do with a name.
use Rattle.std.proofs.Common.{◌≡◌, ℕ, ◌+◌, Bool, true, false, true≢false, ◌&&◌, ◌||◌, List, [], ◌∷◌, ◌++◌, refl, sym, ◌∙◌, ap, ap₂, subst, inl, inr, bytes_eq, if◌then◌else◌}
use Rattle.std.specs.Prelude.{Ok, Err}
use denote.Enum.Bare.{same_true}
use Rattle.luau_lex.specs.Tokens.{Tok}
use Rattle.luau_grammar.specs.contracts.symbol.Symbol.{the_type}
use Rattle.luau_grammar.specs.declared.error.ParseError.TheVariants.{Nesting}
use Rattle.luau_grammar.specs.declared.symbol.Symbol.{Symbol}
use Rattle.luau_grammar.specs.declared.symbol.Symbol.TheVariants as s
use Rattle.luau_grammar.specs.Symbols.{same, symbol_of}
use Rattle.luau_grammar.specs.Places.{Place, first_symbol, first_bytes, symbol, symbol_behind, sees, sees_behind, sees_word, start_of, behind}
use Rattle.luau_grammar.specs.Statements.{second_bytes}
use Rattle.luau_grammar.specs.Reading as read
use Rattle.luau_grammar.specs.Reading.{Setting, Parser, Outcome, ◌>>=◌, and_then, pure, start, next, expect}
use Rattle.grammar_faults.specs.Fronts.{BeginFrom}
use Rattle.other_ends.proofs.Fork.{Fork, NextLate, Near, Far, Forked, Peeks, Peeks2, Names, Link, Silent, Dotted, Gripped, Missed, Aside, IsDeep, BeyondOf, Shorter, here, gripped_then, gripped_if, missed_then, missed_if, beyond_then, aside_then, done}

-- ---- tests

first_same : (u : Tok) (us xs ys : List Tok) → first_symbol (us ++ u ∷ xs) ≡ first_symbol (us ++ u ∷ ys)
first_same u [] xs ys = refl
first_same u (v ∷ vs) xs ys = refl

bytes_same : (u : Tok) (us xs ys : List Tok) → first_bytes (us ++ u ∷ xs) ≡ first_bytes (us ++ u ∷ ys)
bytes_same u [] xs ys = refl
bytes_same u (v ∷ vs) xs ys = refl

both_no : (a x y : Bool) → a ≡ false → (a && x) ≡ (a && y)
both_no true x y h = absurd (true≢false h)
both_no false x y h = refl

first_no : (a b : Bool) → a ≡ false → (a && b) ≡ false
first_no true b h = absurd (true≢false h)
first_no false b h = refl

-- what a test says of the token behind the next
pub record Behind (w : Fork) (d : Place → Bool) : Type 0 where
  pub alike : (t : Tok) (us : List Tok) (l m : ℕ) → d (here t (us ++ w.token ∷ w.one) l m) ≡ d (here t (us ++ w.token ∷ w.other) l m)

module _ {w : Fork} where
  pub two_of : {c : Place → Bool} → Peeks w c → Peeks2 w c
  two_of {c = c} h = record {
    inside = λ t us l m. h (here t (us ++ w.token ∷ w.one) l m) (here t (us ++ w.token ∷ w.other) l m) (record { between = t ∷ us; one = refl; other = refl; last = refl; level = refl });
    plain = λ _ l m. h (here w.token w.one l m) (here w.token w.other l m) (record { between = []; one = refl; other = refl; last = refl; level = refl });
  }

  pub two_or : {c d : Place → Bool} → Peeks2 w c → Peeks2 w d → Peeks2 w (λ p. c p || d p)
  two_or h k = record { inside = λ t us l m. ap₂ (λ a b. a || b) (h.inside t us l m) (k.inside t us l m); plain = λ e l m. ap₂ (λ a b. a || b) (h.plain e l m) (k.plain e l m) }

  pub behind_sees : (x : Symbol) → Behind w (sees_behind x)
  unfolding sees_behind symbol_behind
  behind_sees x = record { alike = λ t us l m. ap (λ z. same z x) (first_same w.token us w.one w.other) }

  pub behind_of : (g : Symbol → Bool) → Behind w (λ p. g (symbol_behind p))
  unfolding symbol_behind
  behind_of g = record { alike = λ t us l m. ap g (first_same w.token us w.one w.other) }

  pub behind_bytes : (word : List ℕ) → Behind w (λ p. bytes_eq (second_bytes p.ahead) word)
  behind_bytes word = record { alike = λ t us l m. ap (λ z. bytes_eq z word) (bytes_same w.token us w.one w.other) }

  pub behind_or : {c d : Place → Bool} → Behind w c → Behind w d → Behind w (λ p. c p || d p)
  behind_or h k = record { alike = λ t us l m. ap₂ (λ a b. a || b) (h.alike t us l m) (k.alike t us l m) }

  pub behind_and : {c d : Place → Bool} → Behind w c → Behind w d → Behind w (λ p. c p && d p)
  behind_and h k = record { alike = λ t us l m. ap₂ (λ a b. a && b) (h.alike t us l m) (k.alike t us l m) }

  pub two_name : (d : Place → Bool) → Behind w d → Peeks2 w (λ p. sees s.Name p && d p)
  unfolding sees symbol
  two_name d h = record {
    inside = λ t us l m. ap (λ z. same (symbol_of t) s.Name && z) (h.alike t us l m);
    plain = λ e l m. both_no (same (symbol_of w.token) s.Name) (d (here w.token w.one l m)) (d (here w.token w.other l m)) e;
  }

  pub two_word : (word : List ℕ) (d : Place → Bool) → Behind w d → Peeks2 w (λ p. sees_word word p && d p)
  unfolding sees_word sees symbol
  two_word word d h = record {
    inside = λ t us l m. ap (λ z. (same (symbol_of t) s.Name && bytes_eq t.bytes word) && z) (h.alike t us l m);
    plain = λ e l m.
        both_no (same (symbol_of w.token) s.Name && bytes_eq w.token.bytes word) (d (here w.token w.one l m)) (d (here w.token w.other l m))
        (first_no (same (symbol_of w.token) s.Name) (bytes_eq w.token.bytes word) e);
  }

-- ---- names

pub only_name : (x y : Symbol) → same x s.Name ≡ true → same s.Name y ≡ false → same x y ≡ false
unfolding same
only_name x y h k = subst (λ z. same z y ≡ false) (sym (same_true the_type tt x s.Name h)) k

pub name_is : (x : Symbol) → same x s.Name ≡ true → x ≡ s.Name
unfolding same
name_is x h = same_true the_type tt x s.Name h

pub then_if : {A B : Type 0} (b : Bool) (o r : Outcome A) (g : A → Parser B) → and_then (if b then o else r) g ≡ (if b then and_then o g else and_then r g)
then_if true o r g = refl
then_if false o r g = refl

module _ (set : Setting) (w : Fork) (link : Link set w) where
  next_case : (ts : List Tok) (l m : ℕ) (z : Bool) → w.stands m ≡ z → next set (here w.token ts l m) ≡ (if z then Ok (w.token, behind w.token ts m) else Err (Nesting w.token.span.start))
  unfolding next
  next_case ts l m z k = ap (λ b. if b then Ok (w.token, behind w.token ts m) else Err (Nesting w.token.span.start)) (link.stands m ∙ k)

  expect_case : same (symbol_of w.token) s.Name ≡ true → (ts : List Tok) (l m : ℕ) (z : Bool) → w.stands m ≡ z → expect set s.Name (here w.token ts l m) ≡ (if z then Ok (w.token, behind w.token ts m) else Err (Nesting w.token.span.start))
  unfolding expect sees symbol
  expect_case e ts l m z k = ap (λ b. if b then next set (here w.token ts l m) else read.refuse set (here w.token ts l m)) e ∙ next_case ts l m z k

module _ (set : Setting) {w : Fork} (link : Link set w) where
  pub next_names : Names true w (next set)
  next_names = record {
    taken = λ e ts l m h k. subst (λ o. Far {A = Tok} w.bound o) (sym (next_case set w link ts l m true k)) h;
    deep = λ e ts l m h k. subst (λ o. IsDeep {A = Tok} o) (sym (next_case set w link ts l m false k)) tt;
  }

  pub expect_names : Names true w (expect set s.Name)
  expect_names = record {
    taken = λ e ts l m h k. subst (λ o. Far {A = Tok} w.bound o) (sym (expect_case set w link e ts l m true k)) h;
    deep = λ e ts l m h k. subst (λ o. IsDeep {A = Tok} o) (sym (expect_case set w link e ts l m false k)) tt;
  }

module _ {w : Fork} where
  -- what takes a name, and then another parser
  pub names_then : {A B : Type 0} {g : Bool} {k : ℕ} {r : Parser A} {f : A → Parser B} → Names g w r → ((x : A) → Forked w k (f x)) → Names g w (r >>= f)
  names_then {g = g} {r = r} {f = f} h n = record {
    taken = λ e ts l m b z. gripped_then g w.bound f (r (here w.token ts l m)) (h.taken e ts l m b z) (λ x. (n x).one w.bound);
    deep = λ e ts l m b z. missed_then g w.upto w.bound f (r (here w.token ts l m)) (h.deep e ts l m b z) (λ x. (n x).one w.bound);
  }

  pub names_start : {A : Type 0} {g : Bool} {f : ℕ → Parser A} → ((n : ℕ) → Names g w (f n)) → Names g w (start >>= f)
  names_start h = record {
    taken = λ e ts l m b z. (h (start_of (here w.token ts l m))).taken e ts l m b z;
    deep = λ e ts l m b z. (h (start_of (here w.token ts l m))).deep e ts l m b z;
  }

  -- what takes a name in both ways
  pub names_if : {A : Type 0} {g : Bool} {r v : Parser A} (c : Place → Bool) → Names g w r → Names g w v → Names g w (λ p. if c p then r p else v p)
  names_if {g = g} {r = r} {v = v} c h k = record {
    taken = λ e ts l m b z.
        let p = here w.token ts l m in
        gripped_if g w.bound (c p) (r p) (v p) (h.taken e ts l m b z) (k.taken e ts l m b z);
    deep = λ e ts l m b z.
        let p = here w.token ts l m in
        missed_if g w.upto w.bound (c p) (r p) (v p) (h.deep e ts l m b z) (k.deep e ts l m b z);
  }

  -- a symbol that is no name
  pub names_else : {A : Type 0} {g : Bool} {v : Parser A} (x : Symbol) (r : Parser A) → same s.Name x ≡ false → Names g w v → Names g w (λ p. if sees x p then r p else v p)
  unfolding sees symbol
  names_else {g = g} {v = v} x r n k = record {
    taken = λ e ts l m b z.
        let p = here w.token ts l m in
        subst (λ c. Gripped g w.bound (if c then r p else v p)) (sym (only_name (symbol_of w.token) x e n)) (k.taken e ts l m b z);
    deep = λ e ts l m b z.
        let p = here w.token ts l m in
        subst (λ c. Missed g w.upto w.bound (if c then r p else v p)) (sym (only_name (symbol_of w.token) x e n)) (k.deep e ts l m b z);
  }

module _ (set : Setting) {w : Fork} (link : Link set w) where
  pub name_names : Names true w (read.name set)
  unfolding read.name
  name_names = names_then (expect_names set link) (λ t. done t.bytes)

-- ---- the token behind the name

second_case : (u : Tok) (us : List Tok) (m : ℕ) → BeginFrom (u.span.start + 1) us → (b : Bool) → BeyondOf {A = Tok} (u ∷ us) (if b then Ok (u, behind u us m) else Err (Nesting u.span.start))
second_case u us m h true = h
second_case u us m h false = tt

-- where a symbol comes next, it is taken, or the fault is another one
second : (set : Setting) (x : Symbol) (u : Tok) (us : List Tok) (l m : ℕ) → BeginFrom (u.span.start + 1) us → same (symbol_of u) x ≡ true → BeyondOf (u ∷ us) (expect set x (here u us l m))
unfolding expect next sees symbol
second set x u us l m h e =
    subst (λ b. BeyondOf {A = Tok} (u ∷ us) (if b then (if set.rules.may_stand u m then Ok (u, behind u us m) else Err (Nesting u.span.start)) else Err (read.refusal set (here u us l m)))) (sym e)
    (second_case u us m h (set.rules.may_stand u m))

abbrev pub at_rest : List Tok → ℕ → ℕ → Place
at_rest ts l m = record { ahead = ts; last = l; level = m }

pub expect_beyond : (set : Setting) (x : Symbol) (one : List Tok) (l m : ℕ) → NextLate one → same s.Stop x ≡ false → same (first_symbol one) x ≡ true → BeyondOf one (expect set x (at_rest one l m))
expect_beyond set x [] l m h n e = absurd (true≢false (sym e ∙ n))
expect_beyond set x (u ∷ us) l m h n e = second set x u us l m h e

module _ (set : Setting) {w : Fork} (link : Link set w) where
  -- a name and a symbol
  pub name_beyond : {B : Type 0} {k : ℕ} {g : List ℕ → Tok → Parser B} (x : Symbol) → same s.Stop x ≡ false → ((n : List ℕ) (t : Tok) → Forked w k (g n t)) → same (symbol_of w.token) s.Name ≡ true
      → (l m : ℕ) → same (first_symbol w.one) x ≡ true → w.stands m ≡ true → BeyondOf w.one ((read.name set >>= (λ n. expect set x >>= g n)) (here w.token w.one l m))
  unfolding read.name
  name_beyond {g = g} x n f e l m d z =
      subst (λ o. BeyondOf w.one (and_then (and_then o (λ t. pure t.bytes)) (λ n. expect set x >>= g n))) (sym (expect_case set w link e w.one l m true z))
      (beyond_then w.one (g w.token.bytes) (expect set x (at_rest w.one w.token.span.end m)) (expect_beyond set x w.one w.token.span.end m w.one_next n d) (λ t. (f w.token.bytes t).one))

  -- any token, and a parser that takes the one behind it
  pub next_beyond : {B : Type 0} (g : Tok → Parser B) (l m : ℕ) → w.stands m ≡ true → BeyondOf w.one (g w.token (at_rest w.one w.token.span.end m)) → BeyondOf w.one ((next set >>= g) (here w.token w.one l m))
  next_beyond g l m z h = subst (λ o. BeyondOf w.one (and_then o g)) (sym (next_case set w link w.one l m true z)) h

-- ---- a name before a `.`

-- the symbol that comes next is no other
pub no_other : (x y z : Symbol) → same x y ≡ true → same y z ≡ false → same x z ≡ false
unfolding same
no_other x y z h k = subst (λ v. same v z ≡ false) (sym (same_true the_type tt x y h)) k

pub second_no : (a b : Bool) → b ≡ false → (a && b) ≡ false
second_no true b h = h
second_no false b h = refl

pub neither : (a b : Bool) → a ≡ false → b ≡ false → (a || b) ≡ false
neither true b h k = h
neither false b h k = k

module _ {w : Fork} where
  pub dotted_then : {A B : Type 0} {k : ℕ} {r : Parser A} {f : A → Parser B} → Dotted w r → ((x : A) → Forked w k (f x)) → Dotted w (r >>= f)
  dotted_then {r = r} {f = f} h n = record { aside = λ e d l m. aside_then w.one f (r (here w.token w.one l m)) (h.aside e d l m) (λ x. (n x).one) }

  pub dotted_start : {A : Type 0} {f : ℕ → Parser A} → ((n : ℕ) → Dotted w (f n)) → Dotted w (start >>= f)
  dotted_start h = record { aside = λ e d l m. (h (start_of (here w.token w.one l m))).aside e d l m }

  -- behind a symbol that is no name
  pub dotted_else : {A : Type 0} {v : Parser A} (x : Symbol) (r : Parser A) → same s.Name x ≡ false → Dotted w v → Dotted w (λ p. if sees x p then r p else v p)
  unfolding sees symbol
  dotted_else {v = v} x r n k = record {
    aside = λ e d l m.
        let p = here w.token w.one l m in
        subst (λ c. Aside w.one (if c then r p else v p)) (sym (only_name (symbol_of w.token) x e n)) (k.aside e d l m);
  }

  -- by a test that says no before a `.`
  pub dotted_no : {A : Type 0} {v : Parser A} (c : Place → Bool) (r : Parser A) → Silent w c
      → Dotted w v → Dotted w (λ p. if c p then r p else v p)
  dotted_no {v = v} c r quiet k = record {
    aside = λ e d l m.
        let p = here w.token w.one l m in
        subst (λ z. Aside w.one (if z then r p else v p)) (sym (quiet e w.one l m d)) (k.aside e d l m);
  }

module _ (set : Setting) {w : Fork} (link : Link set w) where
  -- a name, and what goes beyond the token behind it
  pub name_aside : {B : Type 0} (f : List ℕ → Parser B) → same (symbol_of w.token) s.Name ≡ true → (l m : ℕ) → BeyondOf w.one (f w.token.bytes (at_rest w.one w.token.span.end m)) → (z : Bool) → w.stands m ≡ z
      → Aside w.one ((read.name set >>= f) (here w.token w.one l m))
  unfolding read.name
  name_aside {B = B} f e l m h true z =
      subst (λ (o : Outcome Tok). Aside {A = B} w.one (and_then (and_then o (λ t. pure t.bytes)) f)) (sym (expect_case set w link e w.one l m true z)) (inl h)
  name_aside {B = B} f e l m h false z =
      subst (λ (o : Outcome Tok). Aside {A = B} w.one (and_then (and_then o (λ t. pure t.bytes)) f)) (sym (expect_case set w link e w.one l m false z)) (inr tt)

-- the same parser, written otherwise
pub forked_by : {A : Type 0} {w : Fork} {k : ℕ} {r t : Parser A} → ((p : Place) → t p ≡ r p) → Forked w k r → Forked w k t
forked_by {w = w} {k = k} {r = r} {t = t} d h = record {
  near = λ p q i. subst (λ o. Near w o (t q)) (sym (d p)) (subst (λ o. Near w (r p) o) (sym (d q)) (h.near p q i));
  one = λ b p l. subst (λ o. Far b o) (sym (d p)) (h.one b p l);
  takes = λ p. subst (λ o. Shorter k p o) (sym (d p)) (h.takes p);
}
