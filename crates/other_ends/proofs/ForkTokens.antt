-- The parsers of single tokens, and of many things in a row, depend on what they take.
use Rattle.std.proofs.Common.{◌≡◌, ℕ, ◌+◌, Bool, true, false, true≢false, List, [], ◌∷◌, ◌++◌, refl, sym, ◌∙◌, ap, subst, inl, inr, arith, if◌then◌else◌}
use Rattle.std.specs.Prelude.{Ok, Err, nat_le}
use Rattle.luau_lex.specs.Tokens.{Tok}
use Rattle.luau_lex.specs.Values.{string_value}
use Rattle.luau_grammar.specs.declared.error.ParseError.TheVariants.{Nesting, AmbiguousCall}
use Rattle.luau_grammar.specs.Symbols.{same, symbol_of}
use Rattle.luau_grammar.specs.declared.symbol.Symbol.{Symbol}
use Rattle.luau_grammar.specs.declared.symbol.Symbol.TheVariants as s
use Rattle.luau_grammar.specs.Places.{Place, symbol, sees, at_level, raised, behind}
use Rattle.luau_grammar.specs.Reading.{Setting, Parser, Outcome, ◌>>◌, pure, and_then, refusal, deep_refusal, refuse, next, expect, eat, name, string, open_arguments, raise, phrase}
use Rattle.grammar_faults.specs.Fronts.{BeginFrom}
use Rattle.other_ends.proofs.Fork.{Fork, SamePlace, Near, Names, Link, Taken, Missed, Aside, Dotted, IsDeep, missed_taken, aside_then, taken_then, Far, Shorter, Forked, Peeks, IsLate, same_places, here, near_then, near_if, far_then, far_if, shorter_then, shorter_if, both, choose, least, done, peeks_sees, peeks_level, peeks_of}

module _ (set : Setting) (b : ℕ) where
  refusal_late : (ts : List Tok) (l m : ℕ) → BeginFrom b ts → IsLate b (refusal set (record { ahead = ts; last = l; level = m }))
  unfolding refusal
  refusal_late [] l m h = tt
  refusal_late (t ∷ ts) l m h = h.0

  deep_late : (ts : List Tok) (l m : ℕ) → BeginFrom b ts → IsLate b (deep_refusal set (record { ahead = ts; last = l; level = m }))
  unfolding deep_refusal
  deep_late [] l m h = tt
  deep_late (t ∷ ts) l m h = h.0

  next_late : (ts : List Tok) (l m : ℕ) → BeginFrom b ts → Far b (next set (record { ahead = ts; last = l; level = m }))
  unfolding next
  next_late [] l m h = tt
  next_late (t ∷ ts) l m h = far_if b (set.rules.may_stand t m) (Ok (t, behind t ts m)) (Err (Nesting t.span.start)) h.1 h.0

  open_late : (ts : List Tok) (l m : ℕ) → BeginFrom b ts → Far b (open_arguments set (record { ahead = ts; last = l; level = m }))
  unfolding open_arguments sees symbol refusal same
  open_late [] l m h = tt
  open_late (t ∷ ts) l m h =
      let p = here t ts l m in
      let d = set.rules.may_call l t in
      far_if b (same (symbol_of t) s.LeftParen) (if d then (next set >> pure (tt {0})) p else Err (AmbiguousCall t.span.start)) (Err (refusal set p))
      (far_if b d ((next set >> pure (tt {0})) p) (Err (AmbiguousCall t.span.start))
      (far_then b (λ x. pure (tt {0})) (next set p) (next_late (t ∷ ts) l m h) (λ x p h. h)) h.0) h.0

  refused_late : (c : Bool) (p : Place) → BeginFrom b p.ahead → IsLate b (if c then deep_refusal set p else refusal set p)
  refused_late true p l = deep_late p.ahead p.last p.level l
  refused_late false p l = refusal_late p.ahead p.last p.level l

module _ (set : Setting) (w : Fork) where
  next_edge : (l m : ℕ) → Near w (next set (here w.token w.one l m)) (next set (here w.token w.other l m))
  unfolding next
  next_edge l m =
      near_if w (set.rules.may_stand w.token m) (set.rules.may_stand w.token m)
      (Ok (w.token, behind w.token w.one m)) (Ok (w.token, behind w.token w.other m)) (Err (Nesting w.token.span.start)) (Err (Nesting w.token.span.start))
      refl (λ _. inr (inl (w.one_late, w.other_late))) (λ _. inl refl)

  next_here : (t : Tok) (us : List Tok) (l m : ℕ) → Near w (next set (here t (us ++ w.token ∷ w.one) l m)) (next set (here t (us ++ w.token ∷ w.other) l m))
  unfolding next
  next_here t us l m =
      near_if w (set.rules.may_stand t m) (set.rules.may_stand t m)
      (Ok (t, behind t (us ++ w.token ∷ w.one) m)) (Ok (t, behind t (us ++ w.token ∷ w.other) m)) (Err (Nesting t.span.start)) (Err (Nesting t.span.start))
      refl (λ _. inl (refl, record { between = us; one = refl; other = refl; last = refl; level = refl })) (λ _. inl refl)

  entered_near : (o r : Outcome Tok) → Near w o r → Near w (and_then o (λ x. pure (tt {0}))) (and_then r (λ x. pure (tt {0})))
  entered_near o r h = near_then w (λ x. pure (tt {0})) (λ x. pure (tt {0})) o r h (λ x p q d e i. inl (refl, i)) (λ x b p l. l) (λ x b p l. l)

  open_by : (t : Tok) (xs ys : List Tok) (l m : ℕ) → Near w (next set (here t xs l m)) (next set (here t ys l m)) → Near w (open_arguments set (here t xs l m)) (open_arguments set (here t ys l m))
  unfolding open_arguments sees symbol refusal
  open_by t xs ys l m h =
      let p = here t xs l m in
      let q = here t ys l m in
      let c = same (symbol_of t) s.LeftParen in
      let d = set.rules.may_call l t in
      near_if w c c
      (if d then (next set >> pure (tt {0})) p else Err (AmbiguousCall t.span.start)) (if d then (next set >> pure (tt {0})) q else Err (AmbiguousCall t.span.start))
      (Err (refusal set p)) (Err (refusal set q)) refl
      (λ _. near_if w d d ((next set >> pure (tt {0})) p) ((next set >> pure (tt {0})) q) (Err (AmbiguousCall t.span.start)) (Err (AmbiguousCall t.span.start)) refl
      (λ _. entered_near (next set p) (next set q) h)
      (λ _. inl refl))
      (λ _. inl refl)

  same_raised : (p q : Place) → SamePlace w p q → SamePlace w (raised p) (raised q)
  same_raised p q i = record { between = i.between; one = i.one; other = i.other; last = i.last; level = ap (λ z. z + 1) i.level }

  same_level : (p q : Place) (m n : ℕ) → m ≡ n → SamePlace w p q → SamePlace w (at_level m p) (at_level n q)
  same_level p q m n e i = record { between = i.between; one = i.one; other = i.other; last = i.last; level = e }

module _ (set : Setting) where
  next_takes : (ts : List Tok) (l m : ℕ) → Shorter 1 (record { ahead = ts; last = l; level = m }) (next set (record { ahead = ts; last = l; level = m }))
  unfolding next
  next_takes [] l m = tt
  next_takes (t ∷ ts) l m = shorter_if 1 (here t ts l m) (set.rules.may_stand t m) (Ok (t, behind t ts m)) (Err (Nesting t.span.start)) (omega arith) tt

  open_takes : (ts : List Tok) (l m : ℕ) → Shorter 1 (record { ahead = ts; last = l; level = m }) (open_arguments set (record { ahead = ts; last = l; level = m }))
  unfolding open_arguments sees symbol refusal same
  open_takes [] l m = tt
  open_takes (t ∷ ts) l m =
      let p = here t ts l m in
      let d = set.rules.may_call l t in
      shorter_if 1 p (same (symbol_of t) s.LeftParen) (if d then (next set >> pure (tt {0})) p else Err (AmbiguousCall t.span.start)) (Err (refusal set p))
      (shorter_if 1 p d ((next set >> pure (tt {0})) p) (Err (AmbiguousCall t.span.start))
      (shorter_then 1 0 p (λ x. pure (tt {0})) (next set p) (next_takes (t ∷ ts) l m) (λ x q. omega arith)) tt) tt

kept : {A : Type 0} (k : ℕ) (o : Outcome A) (at : ℕ) (p : Place) → Shorter k p o → Shorter k p (and_then o (λ x q. Ok (x, at_level at q)))
kept k (Ok x) at p h = h
kept k (Err e) at p h = tt

module _ (set : Setting) (bound : ℕ) (A : Type 0) where
  abbrev pub phrase_if : Parser A → (Place → Bool) → Place → Bool → Outcome A
  phrase_if r may p c = if c then and_then (r (raised p)) (λ x a. Ok (x, at_level p.level a)) else Err (if may p then deep_refusal set p else refusal set p)

  phrase_case : (r : Parser A) (may : Place → Bool) (p : Place) → Taken bound (r (raised p)) → IsDeep {A = A} (Err (deep_refusal set p)) → may p ≡ true → (c : Bool) → Taken bound (phrase_if r may p c)
  phrase_case r may p h d e true = taken_then bound (λ x a. Ok (x, at_level p.level a)) (r (raised p)) h (λ x a l. l)
  phrase_case r may p h d e false = subst (λ z. Taken {A = A} bound (Err (if z then deep_refusal set p else refusal set p))) (sym e) (inr d)

  phrase_deep : (r : Parser A) (may : Place → Bool) (p : Place) → IsDeep {A = A} (Err (deep_refusal set p)) → may p ≡ true → (c : Bool) → c ≡ false → IsDeep (phrase_if r may p c)
  phrase_deep r may p d e true k = absurd (true≢false k)
  phrase_deep r may p d e false k = subst (λ z. IsDeep {A = A} (Err (if z then deep_refusal set p else refusal set p))) (sym e) d

inner_taken : {A : Type 0} (w : Fork) (r : Parser A) → Names false w r → same (symbol_of w.token) s.Name ≡ true → (ts : List Tok) (l m : ℕ) → BeginFrom w.bound ts → (z : Bool) → w.stands m ≡ z → Taken w.bound (r (here w.token ts l m))
inner_taken w r n e ts l m b true k = n.taken e ts l m b k
inner_taken w r n e ts l m b false k = missed_taken w.upto w.bound (r (here w.token ts l m)) (n.deep e ts l m b k)

module _ (set : Setting) (A : Type 0) where
  deep_here : (t : Tok) (ts : List Tok) (l m : ℕ) → IsDeep {A = A} (Err (deep_refusal set (here t ts l m)))
  unfolding deep_refusal
  deep_here t ts l m = tt

module _ (set : Setting) {w : Fork} where
  peeks_refusal : Peeks w (refusal set)
  unfolding refusal
  peeks_refusal = same_places (λ p q. refusal set p ≡ refusal set q) (λ l m. refl) (λ t us l m. refl)

  peeks_deep : Peeks w (deep_refusal set)
  unfolding deep_refusal
  peeks_deep = same_places (λ p q. deep_refusal set p ≡ deep_refusal set q) (λ l m. refl) (λ t us l m. refl)

  pub refuses : {A : Type 0} (k : ℕ) → Forked w k (refuse set {A = A})
  refuses k = record { near = λ p q i. inl (peeks_refusal p q i); one = λ b p l. refusal_late set b (p.ahead) (p.last) (p.level) l; takes = λ p. tt }

  pub refuses_deep : {A : Type 0} (k : ℕ) → Forked {A = A} w k (λ p. Err (deep_refusal set p))
  refuses_deep k = record { near = λ p q i. inl (peeks_deep p q i); one = λ b p l. deep_late set b (p.ahead) (p.last) (p.level) l; takes = λ p. tt }

  pub any : Forked w 1 (next set)
  any = record {
    near = same_places (λ p q. Near w (next set p) (next set q)) (next_edge set w) (next_here set w);
    one = λ b p l. next_late set b (p.ahead) (p.last) (p.level) l;
    takes = λ p. next_takes set (p.ahead) (p.last) (p.level);
  }

  pub token : (x : Symbol) → Forked w 1 (expect set x)
  unfolding expect
  token x = choose (peeks_sees x) any (refuses 1)

  pub eaten : (x : Symbol) → Forked w 0 (eat set x)
  unfolding eat
  eaten x = choose (peeks_sees x) (least 0 refl (both any (λ _. done true))) (done false)

  pub a_name : Forked w 1 (name set)
  unfolding name
  a_name = least 1 refl (both (token s.Name) (λ t. done t.bytes))

  pub a_string : (x : Symbol) → Forked w 1 (string set x)
  unfolding string
  a_string x = least 1 refl (both (token x) (λ t. done (string_value t.kind t.bytes)))

  pub opens : Forked w 1 (open_arguments set)
  opens = record {
    near = same_places (λ p q. Near w (open_arguments set p) (open_arguments set q)) (λ l m. open_by set w w.token w.one w.other l m (next_edge set w l m)) (λ t us l m. open_by set w t (us ++ w.token ∷ w.one) (us ++ w.token ∷ w.other) l m (next_here set w t us l m));
    one = λ b p l. open_late set b (p.ahead) (p.last) (p.level) l;
    takes = λ p. open_takes set (p.ahead) (p.last) (p.level);
  }

  up : Forked w 0 (λ p. Ok (tt {0}, raised p))
  up = record { near = λ p q i. inl (refl, same_raised set w p q i); one = λ b p l. l; takes = λ p. omega arith }

  pub raises : Forked w 0 (raise set)
  unfolding raise
  raises = choose (peeks_of (λ z. nat_le z set.limit) peeks_level) up (refuses_deep 0)

  refused_same : (p q : Place) (b c : Bool) → b ≡ c → SamePlace w p q → (if b then deep_refusal set p else refusal set p) ≡ (if c then deep_refusal set q else refusal set q)
  refused_same p q true true e i = peeks_deep p q i
  refused_same p q false false e i = peeks_refusal p q i
  refused_same p q true false e i = absurd (true≢false e)
  refused_same p q false true e i = absurd (true≢false (sym e))

  -- a phrase of its own
  pub phrased : {A : Type 0} {k : ℕ} {r : Parser A} (may : Place → Bool) → Peeks w may → Forked w k r → Forked w k (phrase set may r)
  unfolding phrase
  phrased {A = A} {k = k} {r = r} may t h = record {
    near = λ p q i. near_if w (nat_le p.level set.limit) (nat_le q.level set.limit)
        (and_then (r (raised p)) (λ x a. Ok (x, at_level p.level a))) (and_then (r (raised q)) (λ x a. Ok (x, at_level q.level a)))
        (Err (if may p then deep_refusal set p else refusal set p)) (Err (if may q then deep_refusal set q else refusal set q))
        (ap (λ z. nat_le z set.limit) i.level)
        (λ _. near_then w (λ x a. Ok (x, at_level p.level a)) (λ x a. Ok (x, at_level q.level a)) (r (raised p)) (r (raised q))
        (h.near (raised p) (raised q) (same_raised set w p q i))
        (λ x a b d e j. inl (refl, same_level set w a b (p.level) (q.level) i.level j)) (λ x b a l. l) (λ x b a l. l))
        (λ _. inl (refused_same p q (may p) (may q) (t p q i) i));
    one = λ b p l. far_if b (nat_le p.level set.limit) (and_then (r (raised p)) (λ x a. Ok (x, at_level p.level a))) (Err (if may p then deep_refusal set p else refusal set p))
        (far_then b (λ x a. Ok (x, at_level p.level a)) (r (raised p)) (h.one b (raised p) l) (λ x a l. l)) (refused_late set b (may p) p l);
    takes = λ p. shorter_if k p (nat_le p.level set.limit) (and_then (r (raised p)) (λ x a. Ok (x, at_level p.level a))) (Err (if may p then deep_refusal set p else refusal set p))
        (kept k (r (raised p)) (p.level) p (h.takes (raised p))) tt;
  }

module _ (set : Setting) {w : Fork} (link : Link set w) where
  phrase_missed : {A : Type 0} {r : Parser A} (may : Place → Bool) → (same (symbol_of w.token) s.Name ≡ true → (ts : List Tok) (l m : ℕ) → may (here w.token ts l m) ≡ true) → Names false w r
      → same (symbol_of w.token) s.Name ≡ true → (ts : List Tok) (l m : ℕ) → BeginFrom w.bound ts → w.stands m ≡ false → (y : Bool) → w.upto ≡ y → Missed false y w.bound (phrase set may r (here w.token ts l m))
  unfolding phrase
  phrase_missed {A = A} {r = r} may h k e ts l m b z true u =
      let p = here w.token ts l m in
      phrase_deep set w.bound A r may p (deep_here set A w.token ts l m) (h e ts l m) (nat_le m set.limit) (sym (link.level u m) ∙ z)
  phrase_missed {A = A} {r = r} may h k e ts l m b z false u =
      let p = here w.token ts l m in
      phrase_case set w.bound A r may p (inner_taken w r k e ts l (m + 1) b (w.stands (m + 1)) refl) (deep_here set A w.token ts l m) (h e ts l m) (nat_le m set.limit)

  pub phrase_names : {A : Type 0} {r : Parser A} (may : Place → Bool) → (same (symbol_of w.token) s.Name ≡ true → (ts : List Tok) (l m : ℕ) → may (here w.token ts l m) ≡ true) → Names false w r → Names false w (phrase set may r)
  unfolding phrase
  phrase_names {A = A} {r = r} may h k = record {
    taken = λ e ts l m b z.
        let p = here w.token ts l m in
        phrase_case set w.bound A r may p (inner_taken w r k e ts l (m + 1) b (w.stands (m + 1)) refl) (deep_here set A w.token ts l m) (h e ts l m) (nat_le m set.limit);
    deep = λ e ts l m b z. phrase_missed may h k e ts l m b z (w.upto) refl;
  }

module _ (set : Setting) (w : Fork) where
  dotted_phrase : {A : Type 0} (r : Parser A) (may : Place → Bool) (p : Place) → Aside w.one (r (raised p)) → IsDeep {A = A} (Err (deep_refusal set p)) → may p ≡ true → (c : Bool) → Aside w.one (phrase_if set w.bound A r may p c)
  dotted_phrase r may p h d e true = aside_then w.one (λ x a. Ok (x, at_level p.level a)) (r (raised p)) h (λ x b a l. l)
  dotted_phrase {A = A} r may p h d e false = subst (λ z. Aside {A = A} w.one (Err (if z then deep_refusal set p else refusal set p))) (sym e) (inr d)

module _ (set : Setting) {w : Fork} where
  pub phrase_dotted : {A : Type 0} {r : Parser A} (may : Place → Bool) → (same (symbol_of w.token) s.Name ≡ true → (ts : List Tok) (l m : ℕ) → may (here w.token ts l m) ≡ true) → Dotted w r → Dotted w (phrase set may r)
  unfolding phrase
  phrase_dotted {A = A} {r = r} may h k = record {
    aside = λ e d l m.
        let p = here w.token w.one l m in
        dotted_phrase set w r may p (k.aside e d l (m + 1)) (deep_here set A w.token w.one l m) (h e w.one l m) (nat_le m set.limit);
  }
