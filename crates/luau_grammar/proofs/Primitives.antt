-- The parsers of single tokens against the grammar, and how the proofs of longer parsers are put together.
use Rattle.std.proofs.Common.{◌≡◌, ℕ, suc, ◌+◌, ◌≤◌, Bool, true, false, List, [], ◌∷◌, length, refl, sym, ◌∙◌, ap, subst, arith, if◌then◌else◌, nat_le, leb-true, le-leb}
use Rattle.std.proofs.lemmas.Bool.{and_parts, and_from, and_left, and_right}
use Rattle.std.proofs.lemmas.Slice.Eq.{bytes_eq-Decides}
use Rattle.std.specs.Prelude.{Ok, Err}
use Rattle.std.specs.Str.{bytes_eq}
use denote.Enum.Bare.{same_true, true_same}
use Rattle.luau_lex.specs.Tokens.{Tok}
use Rattle.luau_grammar.specs.contracts.symbol.Symbol.{the_type}
use Rattle.luau_grammar.specs.declared.error.ParseError.{ParseError}
use Rattle.luau_grammar.specs.declared.symbol.Symbol.{Symbol}
use Rattle.luau_grammar.specs.declared.symbol.Symbol.TheVariants as s
use Rattle.luau_grammar.specs.Symbols.{same, symbol_of}
use Rattle.luau_grammar.specs.Places.{Place, Rules, symbol, symbol_behind, second_symbol, sees, sees_behind, sees_word, first_bytes, at_level, raised, behind, IsNext, first_symbol, Takes, TakesName, TakesNumber, TakesString, OpensArguments}
use Rattle.luau_grammar.specs.Reading.{Setting, Parser, Outcome, and_then, next, expect, eat, name, string, open_arguments, raise, phrase}
use Rattle.luau_grammar.proofs.Agreement.{Bounded, Sound, Complete, Within, Reached}

-- What an outcome holds, with the place behind it, is so. `Sound Is r` says this of `Is p` and `r p` at each place.
abbrev pub Reads : {A : Type 0} → (Place → A → Type 0) → Outcome A → Type 0
Reads {A} Is o = (q : Place) (x : A) → o ≡ Ok (x, q) → Is q x

abbrev Stands : {A : Type 0} → (Place → A → Type 0) → Outcome A → Type 0
Stands Is (Ok y) = Is y.1 y.0
Stands Is (Err e) = ⊥

pub reads_ok : {A : Type 0} {a : Place} {x : A} (Is : Place → A → Type 0) → Is a x → Reads Is (Ok (x, a))
reads_ok Is i q y h = subst (Stands Is) h i

abbrev Fails : {A : Type 0} → Outcome A → Type 0
Fails (Ok y) = ⊥
Fails (Err e) = Unit {0}

pub reads_err : {A : Type 0} {e : ParseError} (Is : Place → A → Type 0) → Reads Is (Err e)
reads_err {A} Is q y h = absurd (subst (Fails {A = A}) h tt)

pub reads_weaker : {A : Type 0} {Mid Is : Place → A → Type 0} {o : Outcome A}
    → Reads Mid o → ((a : Place) (x : A) → Mid a x → Is a x) → Reads Is o
reads_weaker r k q x h = k q x (r q x h)

-- one parser, and then another
pub reads_then : {A B : Type 0} {Mid : Place → A → Type 0} {Is : Place → B → Type 0} {o : Outcome A} {f : A → Parser B}
    → Reads Mid o → ((a : Place) (x : A) → Mid a x → Reads Is (f x a)) → Reads Is (and_then o f)
reads_then {o = Ok y} r k = k y.1 y.0 (r y.1 y.0 refl)
reads_then {A} {B} {Mid} {Is} {o = Err e} r k = reads_err Is

-- one of two, by a test
pub reads_if : {A : Type 0} {Is : Place → A → Type 0} (b : Bool) {o other : Outcome A}
    → (b ≡ true → Reads Is o) → (b ≡ false → Reads Is other) → Reads Is (if b then o else other)
reads_if true one two = one refl
reads_if false one two = two refl

-- What stands between one parser and another, where both read.
pub record Joined {A B : Type 0} (o : Outcome A) (f : A → Parser B) (q : Place) (y : B) : Type 0 where
  pub value : A
  pub place : Place
  pub first : o ≡ Ok (value, place)
  pub second : f value place ≡ Ok (y, q)

pub bind_ok : {A B : Type 0} (o : Outcome A) (f : A → Parser B) (q : Place) (y : B) → and_then o f ≡ Ok (y, q) → Joined o f q y
bind_ok (Ok z) f q y h = record { value = z.0; place = z.1; first = refl; second = h }
bind_ok {A} {B} (Err e) f q y h = absurd (subst (Fails {A = B}) h tt)

pub bind_by : {A B : Type 0} {x : A} {a : Place} {r : Outcome B} (o : Outcome A) (f : A → Parser B)
    → o ≡ Ok (x, a) → f x a ≡ r → and_then o f ≡ r
bind_by o f e g = ap (λ z. and_then z f) e ∙ g

-- An outcome at a place is this value, and the place behind it is reached.
abbrev pub Gives : {A : Type 0} → ℕ → Place → Outcome A → Place → A → Type 0
Gives low p o q x = (o ≡ Ok (x, q)) × Reached low p q

pub reached_here : {low : ℕ} (p : Place) → low ≤ p.level → Reached low p p
reached_here p h = record { level = h; ahead = omega arith }

pub reached_then : {low : ℕ} {p a q : Place} → Reached low p a → Reached low a q → Reached low p q
reached_then r t = record { level = t.level; ahead = omega arith }

pub gives_ok : {A : Type 0} {low : ℕ} {p : Place} {x : A} → low ≤ p.level → Gives low p (Ok (x, p)) p x
gives_ok {A} {low} {p} h = (refl, reached_here p h)

-- the same value in other words
pub gives_same : {A : Type 0} {low : ℕ} {p q : Place} {o : Outcome A} {x y : A} → x ≡ y → Gives low p o q x → Gives low p o q y
gives_same {A} {low} {p} {q} {o} e g = subst (λ z. Gives low p o q z) e g

-- the same place behind
pub gives_to : {A : Type 0} {low : ℕ} {p q a : Place} {o : Outcome A} {x : A} → q ≡ a → Gives low p o a x → Gives low p o q x
gives_to {A} {low} {p} {q} {a} {o} {x} e g = subst (λ z. Gives low p o z x) (sym e) g

-- nothing was taken
pub gives_here : {A : Type 0} {low : ℕ} {p q : Place} {x : A} → low ≤ p.level → q ≡ p → Gives low p (Ok (x, p)) q x
gives_here h e = gives_to e (gives_ok h)

-- one parser, and then another
pub gives_then : {A B : Type 0} {low : ℕ} {p a q : Place} {o : Outcome A} {x : A} {y : B} (f : A → Parser B)
    → Gives low p o a x → (low ≤ a.level → Gives low a (f x a) q y) → Gives low p (and_then o f) q y
gives_then {o = o} f g k =
    let h = k g.1.level in
    (bind_by o f g.0 h.0, reached_then g.1 h.1)

-- one of two, by a test
pub gives_if_true : {A : Type 0} {low : ℕ} {p q : Place} {b : Bool} {o : Outcome A} {x : A} (other : Outcome A)
    → b ≡ true → Gives low p o q x → Gives low p (if b then o else other) q x
gives_if_true {b = true} other e g = g
gives_if_true {b = false} other e g = absurd (cc)

pub gives_if_false : {A : Type 0} {low : ℕ} {p q : Place} {b : Bool} {other : Outcome A} {x : A} (o : Outcome A)
    → b ≡ false → Gives low p other q x → Gives low p (if b then o else other) q x
gives_if_false {b = true} o e g = absurd (cc)
gives_if_false {b = false} o e g = g

-- the symbol that is seen
pub sees_symbol : (x : Symbol) (p : Place) → sees x p ≡ true → symbol p ≡ x
unfolding sees same
sees_symbol x p h = same_true the_type tt (symbol p) x h

pub symbol_sees : (x : Symbol) (p : Place) → symbol p ≡ x → sees x p ≡ true
unfolding sees same
symbol_sees x p e = true_same the_type (symbol p) x e

-- what is seen of a symbol where another is known to come next: `refl` proves the test where both are written out
pub sees_by : {x : Symbol} {b : Bool} (y : Symbol) (p : Place) → symbol p ≡ x → same x y ≡ b → sees y p ≡ b
unfolding sees
sees_by y p e h = ap (λ z. same z y) e ∙ h

module _ (rules : Rules) where
  -- the next token, which has this symbol
  abbrev pub TakesToken : Symbol → Place → Place → Tok → Type 0
  TakesToken x p q t = (symbol_of t ≡ x) × IsNext rules p q t

  -- a token of this symbol, or nothing where it isn't the next
  abbrev pub IsEaten : Symbol → Place → Place → Bool → Type 0
  IsEaten x p q true = Takes rules x p q
  IsEaten x p q false = (sees x p ≡ false) × (q ≡ p)

-- What a taken token says of the places around it.
pub record Taken (p q : Place) : Type 0 where
  pub level : q.level ≡ p.level
  pub ahead : length p.ahead ≡ suc (length q.ahead)

pub taken_reached : {low : ℕ} {p q : Place} → Taken p q → low ≤ p.level → Reached low p q
taken_reached t h = record { level = omega arith; ahead = omega arith }

module _ (rules : Rules) (p q : Place) where
  pub next_symbol : (t : Tok) → IsNext rules p q t → symbol p ≡ symbol_of t
  unfolding symbol
  next_symbol t n = ap first_symbol n.1

  pub next_taken : (t : Tok) → IsNext rules p q t → Taken p q
  next_taken t n = record {
    level = ap (λ (z : Place). z.level) n.3;
    ahead = ap length n.1 ∙ sym (ap (λ (z : Place). suc (length z.ahead)) n.3);
  }

  pub token_symbol : (x : Symbol) (t : Tok) → TakesToken rules x p q t → symbol p ≡ x
  token_symbol x t n = next_symbol t n.1 ∙ n.0

  pub takes_symbol : (x : Symbol) → Takes rules x p q → symbol p ≡ x
  unfolding Takes
  takes_symbol x n = token_symbol x n.0 (n.1, n.2)

  pub takes_sees : (x : Symbol) → Takes rules x p q → sees x p ≡ true
  takes_sees x n = symbol_sees x p (takes_symbol x n)

  -- another symbol is not the next
  pub takes_not : (x y : Symbol) → same x y ≡ false → Takes rules x p q → sees y p ≡ false
  takes_not x y h n = sees_by y p (takes_symbol x n) h

  -- the symbol behind a token
  pub takes_behind : (x y : Symbol) → Takes rules x p q → sees_behind y p ≡ sees y q
  unfolding Takes sees sees_behind symbol symbol_behind
  takes_behind x y n =
      ap (λ z. same (second_symbol z) y) n.2.1 ∙ sym (ap (λ (z : Place). same (first_symbol z.ahead) y) n.2.3)

  pub takes_taken : (x : Symbol) → Takes rules x p q → Taken p q
  unfolding Takes
  takes_taken x n = next_taken n.0 n.2

  pub name_token : (text : List ℕ) → TakesName rules p q text → Takes rules s.Name p q
  unfolding Takes TakesName
  name_token text n = (n.0, n.1, n.3)

  pub string_token : (x : Symbol) (value : List ℕ) → TakesString rules x p q value → Takes rules x p q
  unfolding Takes TakesString
  string_token x value n = (n.0, n.1, n.3)

  pub number_token : (text : List ℕ) → TakesNumber rules p q text → Takes rules s.Number p q
  unfolding Takes TakesNumber
  number_token text n = (n.0, n.1, n.3)

  pub arguments_token : OpensArguments rules p q → Takes rules s.LeftParen p q
  unfolding Takes OpensArguments
  arguments_token n = (n.0, n.1, n.3)

  -- what the bytes of the next token are where it is a name
  name_bytes : (text : List ℕ) → TakesName rules p q text → first_bytes p.ahead ≡ text
  unfolding TakesName
  name_bytes text n = ap first_bytes n.3.1 ∙ sym n.2

  -- a name is a word of the grammar, and no other word
  pub word_sees : (word : List ℕ) → TakesName rules p q word → sees_word word p ≡ true
  unfolding sees_word
  word_sees word n =
      and_from (sees s.Name p) (bytes_eq (first_bytes p.ahead) word) (takes_sees s.Name (name_token word n))
      ((bytes_eq-Decides (first_bytes p.ahead) word).1 (name_bytes word n))

  pub word_not : (word other : List ℕ) → bytes_eq word other ≡ false → TakesName rules p q word → sees_word other p ≡ false
  unfolding sees_word
  word_not word other h n =
      and_right (sees s.Name p) (bytes_eq (first_bytes p.ahead) other) (ap (λ z. bytes_eq z other) (name_bytes word n) ∙ h)

-- another token is no word
pub word_not_name : (x : Symbol) (p : Place) (word : List ℕ) → symbol p ≡ x → same x s.Name ≡ false → sees_word word p ≡ false
unfolding sees_word
word_not_name x p word e h = and_left (sees s.Name p) (bytes_eq (first_bytes p.ahead) word) (sees_by s.Name p e h)

-- a token stands at a level up to the limit
pub takes_bounded : (set : Setting) (p q : Place) (x : Symbol) → Bounded set → Takes set.rules x p q → p.level ≤ set.limit
unfolding Takes
takes_bounded set p q x bounded n = bounded n.0 p.level n.2.2

module _ (set : Setting) where
  next_reads : (ts : List Tok) (last level : ℕ)
      → Reads (IsNext set.rules (record { ahead = ts; last = last; level = level })) (next set (record { ahead = ts; last = last; level = level }))
  unfolding next
  next_reads [] last level = reads_err _
  next_reads (t ∷ ts) last level =
      reads_if (set.rules.may_stand t level) (λ h. reads_ok _ (ts, refl, h, refl)) (λ h. reads_err _)

  pub next_sound : Sound (IsNext set.rules) (next set)
  next_sound p = next_reads p.ahead p.last p.level

  next_by : (p : Place) (l : List Tok) → p.ahead ≡ l → next set p ≡ next set (record { ahead = l; last = p.last; level = p.level })
  next_by p l e = ap (λ z. next set (record { ahead = z; last = p.last; level = p.level })) e

  next_stands : (t : Tok) (ts : List Tok) (last level : ℕ) → set.rules.may_stand t level ≡ true
      → next set (record { ahead = t ∷ ts; last = last; level = level }) ≡ Ok (t, behind t ts level)
  unfolding next
  next_stands t ts last level h = rw h refl

  pub next_complete : (low : ℕ) → Complete low (IsNext set.rules) (next set)
  next_complete low p q t h n = (
    next_by p (t ∷ n.0) n.1 ∙ (next_stands t n.0 p.last p.level n.2 ∙ ap (λ z. Ok (t, z)) (sym n.3)),
    taken_reached (next_taken set.rules p q t n) h,
  )

  pub expect_token_sound : (x : Symbol) → Sound (TakesToken set.rules x) (expect set x)
  unfolding expect
  expect_token_sound x p =
      reads_if (sees x p)
      (λ h. reads_weaker (next_sound p) (λ q t n. (sym (next_symbol set.rules p q t n) ∙ sees_symbol x p h, n)))
      (λ h. reads_err _)

  pub expect_sound : (x : Symbol) → Sound (λ p q t. Takes set.rules x p q) (expect set x)
  unfolding Takes
  expect_sound x p = reads_weaker (expect_token_sound x p) (λ q t n. (t, n.0, n.1))

  pub expect_complete : (low : ℕ) (x : Symbol) → Complete low (TakesToken set.rules x) (expect set x)
  unfolding expect
  expect_complete low x p q t h n =
      gives_if_true _ (symbol_sees x p (token_symbol set.rules p q x t n)) (next_complete low p q t h n.1)

  -- a token whose symbol alone counts
  pub expect_takes : (low : ℕ) (x : Symbol) (p q : Place) → low ≤ p.level → Takes set.rules x p q
      → (t : Tok) × Gives low p (expect set x p) q t
  unfolding Takes
  expect_takes low x p q h n = (n.0, expect_complete low x p q n.0 h (n.1, n.2))

  -- a token whose symbol alone counts, and then another parser
  pub gives_expect : {B : Type 0} {low : ℕ} {q : Place} {y : B} (f : Tok → Parser B) (x : Symbol) (p a : Place)
      → low ≤ p.level → Takes set.rules x p a → ((t : Tok) → low ≤ a.level → Gives low a (f t a) q y)
      → Gives low p (and_then (expect set x p) f) q y
  unfolding Takes
  gives_expect {low = low} f x p a h n k = gives_then f (expect_complete low x p a n.0 h (n.1, n.2)) (k n.0)

  -- the next token, whose symbol is known, and then another parser
  pub gives_next : {B : Type 0} {low : ℕ} {q : Place} {y : B} (f : Tok → Parser B) (x : Symbol) (p a : Place)
      → low ≤ p.level → Takes set.rules x p a → ((t : Tok) → low ≤ a.level → Gives low a (f t a) q y)
      → Gives low p (and_then (next set p) f) q y
  unfolding Takes
  gives_next {low = low} f x p a h n k = gives_then f (next_complete low p a n.0 h n.2) (k n.0)

  -- the next token where its symbol is seen
  pub next_seen : (x : Symbol) (p : Place) → sees x p ≡ true → Reads (λ q t. Takes set.rules x p q) (next set p)
  unfolding Takes
  next_seen x p h = reads_weaker (next_sound p) (λ q t n. (t, sym (next_symbol set.rules p q t n) ∙ sees_symbol x p h, n))

  -- the next token where a word is seen
  pub next_word : (word : List ℕ) (p : Place) → sees_word word p ≡ true → Reads (λ q t. TakesName set.rules p q word) (next set p)
  unfolding sees_word TakesName
  next_word word p h =
      let b = and_parts (sees s.Name p) (bytes_eq (first_bytes p.ahead) word) h in
      let e = (bytes_eq-Decides (first_bytes p.ahead) word).0 b.1 in
      reads_weaker (next_sound p) (λ q t n.
      (t, sym (next_symbol set.rules p q t n) ∙ sees_symbol s.Name p b.0, sym e ∙ ap first_bytes n.1, n))

  pub eat_sound : (x : Symbol) → Sound (IsEaten set.rules x) (eat set x)
  unfolding eat
  eat_sound x p =
      reads_if (sees x p) (λ h. reads_then (next_seen x p h) (λ a t n. reads_ok _ n)) (λ h. reads_ok _ (h, refl))

  pub eat_complete : (low : ℕ) (x : Symbol) → Complete low (IsEaten set.rules x) (eat set x)
  unfolding eat
  eat_complete low x p q true h n =
      gives_if_true _ (takes_sees set.rules p q x n) (gives_next _ x p q h n (λ t l. gives_ok l))
  eat_complete low x p q false h n = gives_if_false _ n.0 (gives_here h n.1)

  pub name_sound : Sound (TakesName set.rules) (name set)
  unfolding name TakesName
  name_sound p = reads_then (expect_token_sound s.Name p) (λ a t n. reads_ok _ (t, n.0, refl, n.1))

  pub name_complete : (low : ℕ) → Complete low (TakesName set.rules) (name set)
  unfolding name TakesName
  name_complete low p q x h n =
      gives_then _ (expect_complete low s.Name p q n.0 h (n.1, n.3)) (λ l. gives_same (sym n.2) (gives_ok l))

  pub string_sound : (x : Symbol) → Sound (TakesString set.rules x) (string set x)
  unfolding string TakesString
  string_sound x p = reads_then (expect_token_sound x p) (λ a t n. reads_ok _ (t, n.0, refl, n.1))

  pub string_complete : (low : ℕ) (x : Symbol) → Complete low (TakesString set.rules x) (string set x)
  unfolding string TakesString
  string_complete low x p q value h n =
      gives_then _ (expect_complete low x p q n.0 h (n.1, n.3)) (λ l. gives_same (sym n.2) (gives_ok l))

  open_reads : (ts : List Tok) (last level : ℕ)
      → Reads (λ q u. OpensArguments set.rules (record { ahead = ts; last = last; level = level }) q)
      (open_arguments set (record { ahead = ts; last = last; level = level }))
  unfolding open_arguments OpensArguments
  open_reads [] last level = reads_if (sees s.LeftParen (record { ahead = []; last = last; level = level })) (λ h. reads_err _) (λ h. reads_err _)
  open_reads (t ∷ ts) last level =
      let p : Place = record { ahead = t ∷ ts; last = last; level = level } in
      reads_if (sees s.LeftParen p)
      (λ h. reads_if (set.rules.may_call last t)
      (λ may. reads_then (next_sound p) (λ a u n. reads_ok _
      (u, sym (next_symbol set.rules p a u n) ∙ sees_symbol s.LeftParen p h, subst (λ z. set.rules.may_call last z ≡ true) (cc (n.1)) may, n)))
      (λ no. reads_err _))
      (λ h. reads_err _)

  pub open_arguments_sound : Sound (λ p q u. OpensArguments set.rules p q) (open_arguments set)
  open_arguments_sound p = open_reads p.ahead p.last p.level

  open_by : (p : Place) (l : List Tok) → p.ahead ≡ l
      → open_arguments set p ≡ open_arguments set (record { ahead = l; last = p.last; level = p.level })
  open_by p l e = ap (λ z. open_arguments set (record { ahead = z; last = p.last; level = p.level })) e

  open_stands : (t : Tok) (ts : List Tok) (last level : ℕ) → symbol_of t ≡ s.LeftParen → set.rules.may_call last t ≡ true
      → set.rules.may_stand t level ≡ true
      → open_arguments set (record { ahead = t ∷ ts; last = last; level = level }) ≡ Ok (tt, behind t ts level)
  unfolding open_arguments sees symbol same
  open_stands t ts last level e may h =
      rw (true_same the_type (symbol_of t) s.LeftParen e, may, next_stands t ts last level h) refl

  pub open_arguments_complete : (low : ℕ) → Complete low (λ p q u. OpensArguments set.rules p q) (open_arguments set)
  unfolding OpensArguments
  open_arguments_complete low p q u h n = (
    open_by p (n.0 ∷ n.3.0) n.3.1
        ∙ (open_stands n.0 n.3.0 p.last p.level n.1 n.2 n.3.2 ∙ ap (λ z. Ok (tt, z)) (sym n.3.3)),
    taken_reached (next_taken set.rules p q n.0 n.3) h,
  )

  pub raise_sound : Sound (λ p q u. (p.level ≤ set.limit) × (q ≡ raised p)) (raise set)
  unfolding raise
  raise_sound p = reads_if (nat_le p.level set.limit) (λ h. reads_ok _ (leb-true _ _ h, refl)) (λ h. reads_err _)

  pub raise_complete : (low : ℕ) → Complete low (λ p q u. (p.level ≤ set.limit) × (q ≡ raised p)) (raise set)
  unfolding raise
  raise_complete low p q u h n =
      gives_if_true _ (le-leb _ _ n.0) (gives_to n.1 (refl, record { level = omega arith; ahead = omega arith }))

-- a phrase of its own, one level deeper
abbrev pub Deeper : {A : Type 0} → (Place → Place → A → Type 0) → Place → Place → A → Type 0
Deeper Is p q x = (a : Place) × Is (raised p) a x × (q ≡ at_level p.level a)

module _ (set : Setting) where
  pub phrase_sound : {A : Type 0} {Is : Place → Place → A → Type 0} (may_begin : Place → Bool) (r : Parser A)
      → Sound Is r → Sound (Deeper Is) (phrase set may_begin r)
  unfolding phrase
  phrase_sound may_begin r sound p =
      reads_if (nat_le p.level set.limit)
      (λ h. reads_then (sound (raised p)) (λ a x n. reads_ok _ (a, n, refl)))
      (λ h. reads_err _)

  pub phrase_complete : {A : Type 0} {Is : Place → Place → A → Type 0} (low : ℕ) (may_begin : Place → Bool) (r : Parser A)
      → Complete (low + 1) Is r → Complete low (Within set (Deeper Is)) (phrase set may_begin r)
  unfolding phrase
  phrase_complete {A} {Is} low may_begin r complete p q x h n =
      let g = complete (raised p) n.1.0 x (omega arith) n.1.1 in
      gives_if_true _ (le-leb _ _ n.0)
      (gives_to n.1.2 (bind_by (r (raised p)) _ g.0 refl, record { level = h; ahead = g.1.ahead }))
