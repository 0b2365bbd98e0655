-- What the parser of a text finds too deep stands so, whatever stands behind it.
use Rattle.std.proofs.Common.{◌≡◌, ℕ, suc, ◌+◌, ◌≤◌, Bool, true, false, true≢false, List, [], ◌∷◌, ◌++◌, length, codes, refl, sym, ◌∙◌, ap, subst, inl, inr, ◌⊎◌, arith, append_assoc}
use Rattle.std.proofs.lemmas.Bool.{eqb-true, eq-eqb}
use Rattle.std.specs.Prelude.{Ok, Err, ◌==◌}
use Rattle.luau_tree.specs.Tree.{Block}
use Rattle.luau_lex.specs.Tokens.{Tok}
use Rattle.luau_grammar.specs.declared.error.ParseError.{ParseError}
use Rattle.luau_grammar.specs.declared.error.ParseError.TheVariants.{Lex, NoMemory, Unexpected, UnexpectedEnd, AmbiguousCall, Nesting}
use Rattle.luau_grammar.specs.declared.symbol.Symbol.TheVariants as s
use Rattle.luau_grammar.specs.Symbols.{same, symbol_of}
use Rattle.luau_grammar.specs.Places.{first_symbol}
use Rattle.luau_grammar.specs.Modules.{IsBare, before, max_level}
use Rattle.luau_grammar.specs.Reading.{Outcome}
use Rattle.luau_grammar.specs.ReadModules.{module_with}
use Rattle.luau_grammar.proofs.Families.{read_is_bare, bare_is_read}
use Rattle.grammar_faults.specs.Fronts.{BeginFrom}
use Rattle.grammar_faults.proofs.Local.{Far, IsLate}
use Rattle.fault_places.specs.Faults.{IsFront, CanStandTooDeep, IsTooDeep, BeginBefore, too_deep_at}
use Rattle.fault_places.proofs.ClosingWords.{the_sign}
use Rattle.other_ends.proofs.Fork.{Fork, Link, NextLate, NotAt, Deep}
use Rattle.other_ends.proofs.ForkModules.{passed_alike, passed_whatever_follows, unexpected_whatever_follows}
use Rattle.wider_rules.specs.Order.{Has, Ordered}
use Rattle.wider_rules.proofs.Beside.{Plain}
use Rattle.wider_rules.proofs.Runs.{rules_by, setting_by, bounded_by, anywhere, run, stands_among, still_refused, wider_tree}
use Rattle.wider_rules.proofs.Settled.{Settled, NoRule, tidy_of, passes_deep, settle_from, begin_less}
use Rattle.first_faults.proofs.Splits.{late_behind, early_before, ordered_behind, has_late, has_behind}
use Rattle.first_faults.proofs.Completions.{goes}
use Rattle.first_faults.proofs.Told.{one_line, told, deep_token}
use Rattle.first_faults.proofs.Levels.{deep_setting, deep_bounded, deep_goes, deep_reads, deep_refuses, can_stand}

-- ---- orders

begin_with : (b : ℕ) (front : List Tok) (t : Tok) (behind rest : List Tok) → BeginFrom b (front ++ t ∷ behind) → BeginFrom (t.span.start + 1) rest → BeginFrom b (front ++ t ∷ rest)
begin_with b [] t behind rest h k = (h.0, begin_less b (t.span.start + 1) rest (let x : b ≤ t.span.start = h.0 in omega arith) k)
begin_with b (v ∷ vs) t behind rest h k = (h.0, begin_with b vs t behind rest h.1 k)

ordered_with : (front : List Tok) (t : Tok) (behind rest : List Tok) → Ordered (front ++ t ∷ behind) → BeginFrom (t.span.start + 1) rest → Ordered rest → Ordered (front ++ t ∷ rest)
ordered_with [] t behind rest o k r = (k, r)
ordered_with (v ∷ vs) t behind rest o k r = (begin_with (v.span.start + 1) vs t behind rest o.0 k, ordered_with vs t behind rest o.1 k r)

next_late : (behind : List Tok) → Ordered behind → NextLate behind
next_late [] o = tt
next_late (u ∷ us) o = o.0

plain_flat : (e : ParseError) → Plain e → Deep e → ⊥
plain_flat (Unexpected n) h k = k
plain_flat (UnexpectedEnd n) h k = k
plain_flat (AmbiguousCall n) h k = h
plain_flat (Nesting n) h k = h
plain_flat (Lex d) h k = h
plain_flat NoMemory h k = h

-- ---- a token that stands too deep, before tokens with which it has a tree

module _ (text : List ℕ) (front : List Tok) (t : Tok) where
  abbrev len : ℕ
  len = length text

  -- the parser that takes the token at greater levels alone
  abbrev deep_run : ℕ → List Tok → Outcome Block
  deep_run most rest = module_with (deep_setting t.span.start len most) (suc most) (before (front ++ t ∷ rest))

  reads_deep : (rest : List Tok) → BeginBefore t.span.start front → BeginFrom (t.span.start + 1) rest → (most deep : ℕ) → max_level + 2 ≤ most → deep + 2 ≤ most → (b : Block)
      → IsBare (rules_by anywhere deep) (front ++ t ∷ rest) b → Far (t.span.start + 1) (deep_run most rest) → CanStandTooDeep t.span.start front t
  reads_deep rest early late most deep room fits b tree far =
      let that = front ++ t ∷ rest in
      let r = bare_is_read (setting_by anywhere len deep) (bounded_by anywhere len deep) (deep + 2) (omega arith) that b tree in
      let reads = deep_reads text front t rest early late most room deep fits most fits (b, r.0) r.1 far in
      (most, (rest, b, late, read_is_bare (deep_setting t.span.start len most) (deep_bounded t.span.start len most) (suc most) that b r.0 reads))

  -- ---- two lists, of which one goes on with a `.`

  module _ (most : ℕ) (one other : List Tok) (one_late : BeginFrom (t.span.start + 1) one) (other_late : BeginFrom (t.span.start + 1) other) (next : NextLate one)
      (dotted : (same (first_symbol one) s.Dot ≡ true) ⊎ (same (first_symbol other) s.Dot ≡ true)) where
    abbrev fork : Fork
    fork = record {
      bound = t.span.start + 1;
      stands = λ m. (too_deep_at t.span.start most).may_stand t m;
      upto = false;
      token = t;
      one = one;
      other = other;
      one_late = one_late;
      other_late = other_late;
      one_next = next;
      dotted = λ _. dotted;
    }

    link : Link (deep_setting t.span.start len most) fork
    link = record { stands = λ m. refl; level = λ e. absurd (true≢false (sym e)) }

    passes_too : (e : ParseError) → IsLate (t.span.start + 1) e → (Deep e → ⊥) → (NotAt one e → ⊥) → deep_run most one ≡ Err e → Far (t.span.start + 1) (deep_run most other)
    passes_too e late flat there h = passed_alike (deep_setting t.span.start len most) fork link (suc most) front e late flat there h

  -- ---- tokens behind which the parser of all levels stops

  module _ (behind : List Tok) (order : Ordered (front ++ t ∷ behind)) (fault : told text (front ++ t ∷ behind) ≡ Err (Nesting t.span.start)) where
    abbrev all : List Tok
    all = front ++ t ∷ behind

    early : BeginBefore t.span.start front
    early = early_before front t behind order

    late : BeginFrom (t.span.start + 1) behind
    late = late_behind front t behind order

    abbrev dot : Tok
    dot = the_sign (t.span.start + 1) (codes ".")

    is_dot : same (symbol_of dot) s.Dot ≡ true
    unfolding same symbol_of
    is_dot = refl

    dot_late : (ds : List Tok) → BeginFrom (dot.span.start + 1) ds → BeginFrom (t.span.start + 1) (dot ∷ ds)
    dot_late ds h = (let x : t.span.start + 1 ≤ t.span.start + 1 = omega arith in x, begin_less (t.span.start + 1) (dot.span.start + 1) ds (omega arith) h)

    goes_deep : (most : ℕ) → max_level + 2 ≤ most → Far (t.span.start + 1) (deep_run most behind)
    goes_deep most room = deep_goes text front t behind early late most room most room fault

    module _ (deep : ℕ) (e : ParseError) (plain : Plain e) (is_late : IsLate (t.span.start + 1) e) (there : NotAt behind e → ⊥) (stops : run anywhere len deep all ≡ Err e) where
      -- with a `.` behind it the token is passed
      passes_dot : (most : ℕ) → max_level + 2 ≤ most → deep + 2 ≤ most → (ds : List Tok) → BeginFrom (dot.span.start + 1) ds → Far (t.span.start + 1) (deep_run most (dot ∷ ds))
      passes_dot most room fits ds h =
          passes_too most behind (dot ∷ ds) late (dot_late ds h) (next_late behind (ordered_behind front t behind order)) (inr is_dot) e is_late (plain_flat e plain) there
          (deep_refuses text front t behind early late most room deep fits most fits e plain stops (goes_deep most room))

      abbrev with_dot : List Tok
      with_dot = front ++ t ∷ dot ∷ []

      dot_order : Ordered with_dot
      dot_order = ordered_with front t behind (dot ∷ []) order (dot_late [] tt) (tt, tt)

      dot_passed : Far (t.span.start + 1) (run anywhere len deep with_dot)
      dot_passed =
          passed_whatever_follows (setting_by anywhere len deep) (λ u m. refl) (deep + 2) (omega arith) t front behind (dot ∷ []) late (dot_late [] tt) (next_late behind (ordered_behind front t behind order)) e
          is_late (plain_flat e plain) there stops

      by_dot : Settled anywhere len (t.span.start + 1) with_dot
      by_dot = settle_from anywhere len (t.span.start + 1) (λ _ _ _. refl) with_dot dot_order deep dot_passed

      abbrev most_of : ℕ → ℕ
      most_of n = deep + n + (max_level + 2)

      -- the `.` goes on
      go_on : (n : ℕ) (ds : List Tok) → BeginFrom (dot.span.start + 1) ds → (b : Block) → IsBare (rules_by anywhere n) (front ++ t ∷ dot ∷ ds) b → CanStandTooDeep t.span.start front t
      go_on n ds h b tree =
          reads_deep (dot ∷ ds) early (dot_late ds h) (most_of n) n (omega arith) (omega arith) b tree (passes_dot (most_of n) (omega arith) (omega arith) ds h)

      -- the `.` is refused, whatever else goes on
      no_dot : (n : ℕ) → run anywhere len n with_dot ≡ Err (Unexpected dot.span.start) → CanStandTooDeep t.span.start front t
      no_dot n q =
          let k = (deep_token text front t behind order fault).0 in
          let most = most_of (n + k.0) in
          let rest = k.1.0 in
          let refused = deep_refuses text front t (dot ∷ []) early (dot_late [] tt) most (omega arith) n (omega arith) most (omega arith) (Unexpected dot.span.start) tt q (passes_dot most (omega arith) (omega arith) [] tt) in
          let far = passes_too most (dot ∷ []) rest (dot_late [] tt) k.1.2 tt (inl is_dot) (Unexpected dot.span.start) (let x : t.span.start + 1 ≤ t.span.start + 1 = omega arith in x) (λ z. z) (λ z. z refl) refused in
          reads_deep rest early k.1.2 most (k.0) (omega arith) (omega arith) k.1.1 k.1.3 far

      one_there : (n : ℕ) → Has n (dot ∷ []) → n ≡ dot.span.start
      one_there n (inl q) = sym q
      one_there n (inr q) = absurd q

      at_dot : (n : ℕ) → Has n with_dot → t.span.start + 1 ≤ n → n ≡ dot.span.start
      at_dot n h b = one_there n (has_late n front t (dot ∷ []) dot_order b h)

      dot_goes : Settled anywhere len (dot.span.start + 1) ((front ++ t ∷ []) ++ dot ∷ []) → CanStandTooDeep t.span.start front t
      dot_goes k =
          let g = goes anywhere len dot (λ _ _ _. refl) (front ++ t ∷ []) [] (subst Ordered (sym (append_assoc front (t ∷ []) (dot ∷ []))) dot_order) k in
          go_on (g.0) (g.1.0) (g.1.2) (g.1.1) (subst (λ z. IsBare (rules_by anywhere g.0) z g.1.1) (append_assoc front (t ∷ []) (dot ∷ g.1.0)) g.1.3)

      by_case : (n : ℕ) (o : Outcome Block) → run anywhere len n with_dot ≡ o → Far (t.span.start + 1) o → NoRule o → CanStandTooDeep t.span.start front t
      by_case n (Ok x) q h k =
          go_on n [] tt (x.0) (read_is_bare (setting_by anywhere len n) (bounded_by anywhere len n) (n + 2) with_dot x.0 x.1 q)
      by_case n (Err (Unexpected m)) q h k =
          no_dot n (q ∙ ap (λ z. Err (Unexpected z)) (at_dot m (stands_among anywhere anywhere (λ _ _ z. z) len n (n + 2) (omega arith) with_dot (Unexpected m) q) h))
      by_case n (Err (UnexpectedEnd m)) q h k =
          dot_goes
          (subst (λ z. Settled anywhere len (dot.span.start + 1) z) (sym (append_assoc front (t ∷ []) (dot ∷ [])))
          (record { more = n; far = subst (λ z. Far {A = Block} (dot.span.start + 1) z) (sym q) tt; plain = subst NoRule (sym q) tt }))
      by_case n (Err (AmbiguousCall m)) q h k = absurd k
      by_case n (Err (Nesting m)) q h k = absurd k
      by_case n (Err (Lex d)) q h k = absurd k
      by_case n (Err NoMemory) q h k = absurd k

      stands_deep : CanStandTooDeep t.span.start front t
      stands_deep = by_case (by_dot.more) (run anywhere len by_dot.more with_dot) refl by_dot.far by_dot.plain

    -- ---- what the parser of all levels does

    settled : Settled anywhere len (t.span.start + 1) all
    settled =
        settle_from anywhere len (t.span.start + 1) (λ _ _ _. refl) all order (max_level + 2)
        (passes_deep (one_line text) anywhere (λ _ _ _. refl) len max_level (max_level + 2) (omega arith) t.span.start (λ _ _ _. refl) all (tidy_of t.span.start all order) fault)

-- at the end
module _ (text : List ℕ) (front : List Tok) (t : Tok) (order : Ordered (front ++ t ∷ [])) (fault : told text (front ++ t ∷ []) ≡ Err (Nesting t.span.start)) where
  no_more : (n : ℕ) → Has n (front ++ t ∷ []) → t.span.start + 1 ≤ n → ⊥
  no_more n h b = has_late n front t [] order b h

  end_case : (n : ℕ) (o : Outcome Block) → run anywhere (length text) n (front ++ t ∷ []) ≡ o → Far (t.span.start + 1) o → NoRule o → CanStandTooDeep t.span.start front t
  end_case n (Ok x) q h k =
      let most = n + (max_level + 2) in
      reads_deep text front t [] (early text front t [] order fault) tt most n (omega arith) (omega arith) (x.0)
      (read_is_bare (setting_by anywhere (length text) n) (bounded_by anywhere (length text) n) (n + 2) (front ++ t ∷ []) x.0 x.1 q) (goes_deep text front t [] order fault most (omega arith))
  end_case n (Err (Unexpected m)) q h k = absurd (no_more m (stands_among anywhere anywhere (λ _ _ z. z) (length text) n (n + 2) (omega arith) (front ++ t ∷ []) (Unexpected m) q) h)
  end_case n (Err (UnexpectedEnd m)) q h k = stands_deep text front t [] order fault n (UnexpectedEnd m) tt tt (λ z. z) q
  end_case n (Err (AmbiguousCall m)) q h k = absurd k
  end_case n (Err (Nesting m)) q h k = absurd k
  end_case n (Err (Lex d)) q h k = absurd k
  end_case n (Err NoMemory) q h k = absurd k

  too_deep_last : CanStandTooDeep t.span.start front t
  too_deep_last = let k = settled text front t [] order fault in end_case k.more (run anywhere (length text) k.more (front ++ t ∷ [])) refl k.far k.plain

-- before a token
module _ (text : List ℕ) (front : List Tok) (t u : Tok) (us : List Tok) (order : Ordered (front ++ t ∷ u ∷ us)) (fault : told text (front ++ t ∷ u ∷ us) ≡ Err (Nesting t.span.start)) where
  abbrev there : List Tok
  there = front ++ t ∷ u ∷ us

  split : there ≡ (front ++ t ∷ []) ++ u ∷ us
  split = sym (append_assoc front (t ∷ []) (u ∷ us))

  order_two : Ordered ((front ++ t ∷ []) ++ u ∷ us)
  order_two = subst Ordered split order

  late_two : BeginFrom u.span.start us
  late_two = begin_less u.span.start (u.span.start + 1) us (omega arith) (late_behind (front ++ t ∷ []) u us order_two)

  by_front : IsFront (front ++ t ∷ []) u → IsTooDeep front t (u ∷ us)
  by_front k = inl (can_stand text front t u us order fault late_two k)

  -- the token behind it goes on
  goes_behind : (n : ℕ) (o : Outcome Block) → run anywhere (length text) n there ≡ o → Far (u.span.start + 1) o → NoRule o → IsTooDeep front t (u ∷ us)
  goes_behind n o q h k =
      by_front (goes anywhere (length text) u (λ _ _ _. refl) (front ++ t ∷ []) us order_two
      (subst (λ z. Settled anywhere (length text) (u.span.start + 1) z) split
      (record { more = n; far = subst (λ z. Far (u.span.start + 1) z) (sym q) h; plain = subst NoRule (sym q) k })))

  -- it is refused
  refused_front : (n : ℕ) → run anywhere (length text) n ((front ++ t ∷ []) ++ u ∷ us) ≡ Err (Unexpected u.span.start) → IsFront (front ++ t ∷ []) u → ⊥
  refused_front n q k =
      let most = k.0 + n + 2 in
      unexpected_whatever_follows (setting_by anywhere (length text) most) (λ v m. refl) (most + 2) (omega arith) u (front ++ t ∷ []) us k.1.0 (late_behind (front ++ t ∷ []) u us order_two) k.1.2
      (still_refused anywhere anywhere (λ _ _ z. z) (length text) n most (omega arith) ((front ++ t ∷ []) ++ u ∷ us) (Unexpected u.span.start) tt q) k.1.1
      (wider_tree anywhere anywhere (λ _ _ z. z) (length text) k.0 most (omega arith) ((front ++ t ∷ []) ++ u ∷ k.1.0) k.1.1 k.1.3)

  stops_behind : (n : ℕ) → run anywhere (length text) n there ≡ Err (Unexpected u.span.start) → IsTooDeep front t (u ∷ us)
  stops_behind n q =
      inr (
        (λ k. refused_front n (subst (λ z. run anywhere (length text) n z ≡ Err (Unexpected u.span.start)) split q) k),
        stands_deep text front t (u ∷ us) order fault n (Unexpected u.span.start) tt (late_behind front t (u ∷ us) order).0 (λ z. z refl) q,
      )

  behind_u : (m : ℕ) → (m == u.span.start) ≡ false → Has m (u ∷ us) → u.span.start + 1 ≤ m
  behind_u m d (inl q) = absurd (true≢false (sym (eq-eqb m u.span.start (sym q)) ∙ d))
  behind_u m d (inr q) = has_behind m (u.span.start + 1) us q (late_behind (front ++ t ∷ []) u us order_two)

  unexpected_case : (n m : ℕ) (b : Bool) → (m == u.span.start) ≡ b → run anywhere (length text) n there ≡ Err (Unexpected m) → t.span.start + 1 ≤ m → IsTooDeep front t (u ∷ us)
  unexpected_case n m true d q h = stops_behind n (q ∙ ap (λ z. Err (Unexpected z)) (eqb-true m u.span.start d))
  unexpected_case n m false d q h =
      goes_behind n (Err (Unexpected m)) q (behind_u m d (has_late m front t (u ∷ us) order h (stands_among anywhere anywhere (λ _ _ z. z) (length text) n (n + 2) (omega arith) there (Unexpected m) q))) tt

  next_case : (n : ℕ) (o : Outcome Block) → run anywhere (length text) n there ≡ o → Far (t.span.start + 1) o → NoRule o → IsTooDeep front t (u ∷ us)
  next_case n (Ok x) q h k =
      by_front (
        n,
        (
          us,
          x.0,
          late_behind (front ++ t ∷ []) u us order_two,
          subst (λ z. IsBare (rules_by anywhere n) z x.0) split (read_is_bare (setting_by anywhere (length text) n) (bounded_by anywhere (length text) n) (n + 2) there x.0 x.1 q),
        ),
      )
  next_case n (Err (Unexpected m)) q h k = unexpected_case n m (m == u.span.start) refl q h
  next_case n (Err (UnexpectedEnd m)) q h k = goes_behind n (Err (UnexpectedEnd m)) q tt tt
  next_case n (Err (AmbiguousCall m)) q h k = absurd k
  next_case n (Err (Nesting m)) q h k = absurd k
  next_case n (Err (Lex d)) q h k = absurd k
  next_case n (Err NoMemory) q h k = absurd k

  too_deep_next : IsTooDeep front t (u ∷ us)
  too_deep_next = let k = settled text front t (u ∷ us) order fault in next_case k.more (run anywhere (length text) k.more there) refl k.far k.plain

-- what the parser finds too deep stands so
pub stands_too_deep : (text : List ℕ) (front : List Tok) (t : Tok) (behind : List Tok) → Ordered (front ++ t ∷ behind) → told text (front ++ t ∷ behind) ≡ Err (Nesting t.span.start) → IsTooDeep front t behind
stands_too_deep text front t [] order fault = too_deep_last text front t order fault
stands_too_deep text front t (u ∷ us) order fault = too_deep_next text front t u us order fault
