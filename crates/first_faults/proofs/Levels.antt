-- Tokens that the parser has passed stand at no level above the deepest; one that it finds too deep does.
use Rattle.std.proofs.Common.{◌≡◌, ℕ, suc, ◌+◌, ◌≤◌, ◌<◌, Bool, true, false, true≢false, not, ◌&&◌, ◌||◌, List, [], ◌∷◌, ◌++◌, length, refl, sym, ◌∙◌, ap, subst, inl, inr, arith, leb-true, le-leb, append_assoc}
use Rattle.std.proofs.lemmas.Bool.{eqb-true, eq-eqb, lt-ltb, ltb-true, leb-false}
use Rattle.std.specs.Prelude.{Ok, Err, ◌==◌, nat_le, nat_lt}
use Rattle.luau_tree.specs.Tree.{Block}
use Rattle.luau_lex.specs.Tokens.{Tok}
use Rattle.luau_grammar.specs.declared.error.ParseError.{ParseError}
use Rattle.luau_grammar.specs.declared.error.ParseError.TheVariants.{Lex, NoMemory, Unexpected, UnexpectedEnd, AmbiguousCall, Nesting}
use Rattle.luau_grammar.specs.Places.{Place}
use Rattle.luau_grammar.specs.Modules.{IsBare, before, max_level}
use Rattle.luau_grammar.specs.Reading.{Setting, Outcome}
use Rattle.luau_grammar.specs.ReadModules.{module_with}
use Rattle.luau_grammar.proofs.Agreement.{Bounded}
use Rattle.luau_grammar.proofs.Families.{read_is_bare, bare_is_read}
use Rattle.grammar_faults.specs.Fronts.{BeginFrom}
use Rattle.grammar_faults.proofs.Local.{Tails, Near, Far, IsLate}
use Rattle.grammar_faults.proofs.LocalModules.{module_local}
use Rattle.fault_places.specs.Faults.{IsFront, CanStandTooDeep, BeginBefore, too_deep_at}
use Rattle.other_ends.proofs.Fork as fork
use Rattle.other_ends.proofs.Fork.{Fork, NextLate, NotAt, Deep}
use Rattle.other_ends.proofs.ForkModules.{module_forked, passed_whatever_follows}
use Rattle.wider_rules.specs.Order.{Has, Ordered}
use Rattle.wider_rules.proofs.Beside.{Wide, Opposed, Loose, Pair, Plain, Tidy, Rel}
use Rattle.wider_rules.proofs.BesideModules.{module_rel}
use Rattle.wider_rules.proofs.Runs.{rules_by, setting_by, bounded_by, anywhere, sum_of, tidy_above, among_all, ok_same}
use Rattle.wider_rules.proofs.Settled.{far_less, begin_less}
use Rattle.first_faults.proofs.Splits.{has_behind, late_behind, early_before}
use Rattle.first_faults.proofs.Told.{one_line, told, Overtakes}

-- the token at an offset stands deeper than a token may
abbrev pub deep_setting : ℕ → ℕ → ℕ → Setting
deep_setting at len deep = record { rules = too_deep_at at deep; limit = deep; len = len }

left_of : (a b : Bool) → (a && b) ≡ true → a ≡ true
left_of true b h = refl
left_of false b h = absurd (true≢false (sym h))

right_of : (a b : Bool) → (a && b) ≡ true → b ≡ true
right_of true b h = h
right_of false b h = absurd (true≢false (sym h))

both_yes : (a b : Bool) → a ≡ true → b ≡ true → (a && b) ≡ true
both_yes true b h k = k
both_yes false b h k = absurd (true≢false (sym h))

pub deep_bounded : (at len deep : ℕ) → Bounded (deep_setting at len deep)
deep_bounded at len deep t m h = leb-true m deep (left_of (nat_le m deep) (not (t.span.start == at) || nat_lt max_level m) h)

deep_more : (at deep more : ℕ) (t : Tok) (m : ℕ) → deep ≤ more → (nat_le m deep && (not (t.span.start == at) || nat_lt max_level m)) ≡ true → (nat_le m more && (not (t.span.start == at) || nat_lt max_level m)) ≡ true
deep_more at deep more t m b h =
    let c : m ≤ deep = leb-true m deep (left_of (nat_le m deep) (not (t.span.start == at) || nat_lt max_level m) h) in
    both_yes (nat_le m more) (not (t.span.start == at) || nat_lt max_level m) (le-leb m more (omega arith))
    (right_of (nat_le m deep) (not (t.span.start == at) || nat_lt max_level m) h)

off : (b x : Bool) → b ≡ false → (not b || x) ≡ true
off true x h = absurd (true≢false h)
off false x h = refl

apart : (t : Tok) (at : ℕ) → (t.span.start ≡ at → ⊥) → (b : Bool) → (t.span.start == at) ≡ b → (t.span.start == at) ≡ false
apart t at n true e = absurd (n (eqb-true t.span.start at e))
apart t at n false e = e

deep_else : (at more : ℕ) (t : Tok) (m : ℕ) → m ≤ more → (t.span.start ≡ at → ⊥) → (nat_le m more && (not (t.span.start == at) || nat_lt max_level m)) ≡ true
deep_else at more t m b n =
    both_yes (nat_le m more) (not (t.span.start == at) || nat_lt max_level m) (le-leb m more b)
    (off (t.span.start == at) (nat_lt max_level m) (apart t at n (t.span.start == at) refl))

not_ltb : (a b : ℕ) → a ≤ b → (x : Bool) → nat_lt b a ≡ x → nat_lt b a ≡ false
not_ltb a b h true e = let c : b < a = ltb-true b a e in absurd (omega arith)
not_ltb a b h false e = e

above : (m : ℕ) (b : Bool) → nat_le m max_level ≡ b → nat_lt max_level m ≡ not b
above m true e = not_ltb m max_level (leb-true m max_level e) (nat_lt max_level m) refl
above m false e = lt-ltb max_level m (leb-false m max_level e)

deep_there : (at more : ℕ) (t : Tok) (m : ℕ) → m ≤ more → t.span.start ≡ at → (nat_le m more && (not (t.span.start == at) || nat_lt max_level m)) ≡ not (nat_le m max_level)
deep_there at more t m b e =
    ap (λ x. x && (not (t.span.start == at) || nat_lt max_level m)) (le-leb m more b)
    ∙ (ap (λ x. not x || nat_lt max_level m) (eq-eqb t.span.start at e) ∙ above m (nat_le m max_level) refl)

-- ---- orders

tidy_late : (at : ℕ) (ts : List Tok) → BeginFrom (at + 1) ts → Tidy at ts
tidy_late at [] h = tt
tidy_late at (t ∷ ts) h =
    ((λ e. absurd (omega arith)), (λ k. let c : at + 1 ≤ at = has_behind at (at + 1) ts k h.1 in absurd (omega arith)), tidy_late at ts h.1)

tidy_split : (at : ℕ) (front : List Tok) (t : Tok) (behind : List Tok) → t.span.start ≡ at → BeginBefore at front → BeginFrom (at + 1) behind → Tidy at (front ++ t ∷ behind)
tidy_split at [] t behind e h k = ((λ _. k), (λ _. omega arith), tidy_late at behind k)
tidy_split at (v ∷ vs) t behind e h k = ((λ d. absurd (omega arith)), (λ _. omega arith), tidy_split at vs t behind e h.1 k)

has_there : (at : ℕ) (front : List Tok) (t : Tok) (behind : List Tok) → t.span.start ≡ at → Has at (front ++ t ∷ behind)
has_there at [] t behind e = inl e
has_there at (v ∷ vs) t behind e = inr (has_there at vs t behind e)

late_of : (n : ℕ) (e : ParseError) → Overtakes n e → IsLate (n + 1) e
late_of n (Unexpected k) h = h
late_of n (UnexpectedEnd k) h = tt
late_of n (AmbiguousCall k) h = h
late_of n (Nesting k) h = h
late_of n (Lex e) h = absurd h
late_of n NoMemory h = absurd h

same_error : (o : Outcome Block) (d e : ParseError) → o ≡ Err d → o ≡ Err e → d ≡ e
same_error o d e h k = cc

same_read : (o : Outcome Block) (y x : Block × Place) → o ≡ Ok y → o ≡ Ok x → y ≡ x
same_read o y x h k = cc

never_empty : (t : Tok) (ts : List Tok) → t ∷ ts ≡ [] → ⊥
never_empty t ts e = absurd (cc)

module _ (text : List ℕ) where
  abbrev len : ℕ
  len = length text

  -- ---- another list that goes on alike up to the token behind

  module _ (front : List Tok) (t u : Tok) (us rest : List Tok) (one_late : BeginFrom u.span.start us) (other_late : BeginFrom u.span.start rest) where
    abbrev tails : Tails
    tails = record {
      bound = u.span.start;
      token = u;
      one = us;
      other = rest;
      one_late = (let x : u.span.start ≤ u.span.start = omega arith in x, one_late);
      other_late = (let x : u.span.start ≤ u.span.start = omega arith in x, other_late);
    }

    abbrev this : List Tok
    this = front ++ t ∷ u ∷ us

    abbrev that : List Tok
    that = front ++ t ∷ u ∷ rest

    near_by : (front : List Tok) → Near tails (told text (front ++ t ∷ u ∷ us)) (told text (front ++ t ∷ u ∷ rest))
    near_by [] =
        (module_local (setting_by (one_line text) len max_level) tails (max_level + 2)).near (before (t ∷ u ∷ us)) (before (t ∷ u ∷ rest))
        (record { token = t; between = []; one = refl; other = refl; last = refl; level = refl })
    near_by (v ∷ vs) =
        (module_local (setting_by (one_line text) len max_level) tails (max_level + 2)).near (before (v ∷ (vs ++ t ∷ u ∷ us))) (before (v ∷ (vs ++ t ∷ u ∷ rest)))
        (record { token = v; between = vs ++ t ∷ []; one = ap (λ z. v ∷ z) (sym (append_assoc vs (t ∷ []) (u ∷ us))); other = ap (λ z. v ∷ z) (sym (append_assoc vs (t ∷ []) (u ∷ rest))); last = refl; level = refl })

    passed : (o r : Outcome Block) (e : ParseError) → Near tails o r → o ≡ Err e → t.span.start + 1 ≤ u.span.start → IsLate (t.span.start + 1) e → Far (t.span.start + 1) r
    passed (Ok x) r e h q b k = absurd (cc)
    passed (Err d) (Ok y) e (inl h) q b k = absurd h
    passed (Err d) (Err c) e (inl h) q b k = subst (λ z. IsLate (t.span.start + 1) z) (sym (same_error (Err d) d e refl q) ∙ h) k
    passed (Err d) r e (inr h) q b k = far_less (t.span.start + 1) u.span.start r b h.1

    pub that_passes : (e : ParseError) → told text this ≡ Err e → t.span.start + 1 ≤ u.span.start → IsLate (t.span.start + 1) e → Far (t.span.start + 1) (told text that)
    that_passes e q b k = passed (told text this) (told text that) e (near_by front) q b k

    stopped : (o r : Outcome Block) → Near tails o r → o ≡ Err (Nesting t.span.start) → t.span.start + 1 ≤ u.span.start → r ≡ Err (Nesting t.span.start)
    stopped (Ok x) r h q b = absurd (cc)
    stopped (Err d) (Ok y) (inl h) q b = absurd h
    stopped (Err d) (Err c) (inl h) q b = ap (λ z. Err z) (sym h) ∙ q
    stopped (Err d) r (inr h) q b =
        let c : u.span.start ≤ t.span.start = subst (λ z. IsLate u.span.start z) (same_error (Err d) d (Nesting t.span.start) refl q) h.0 in
        absurd (omega arith)

    pub that_stops : told text this ≡ Err (Nesting t.span.start) → t.span.start + 1 ≤ u.span.start → told text that ≡ Err (Nesting t.span.start)
    that_stops q b = stopped (told text this) (told text that) (near_by front) q b

    read_on : (o r : Outcome Block) (x : Block × Place) → Near tails o r → o ≡ Ok x → x.1.ahead ≡ [] → t.span.start + 1 ≤ u.span.start → Far (t.span.start + 1) r
    read_on (Err d) r x h q e b = absurd (cc)
    read_on (Ok y) (Ok z) x (inl h) q e b = absurd (never_empty (h.1.token) (h.1.between ++ u ∷ us) (sym h.1.one ∙ (ap (λ (v : Block × Place). v.1.ahead) (same_read (Ok y) y x refl q) ∙ e)))
    read_on (Ok y) (Err c) x (inl h) q e b = absurd h
    read_on (Ok y) r x (inr h) q e b = far_less (t.span.start + 1) u.span.start r b h.1

    pub that_reads : (x : Block × Place) → told text this ≡ Ok x → x.1.ahead ≡ [] → t.span.start + 1 ≤ u.span.start → Far (t.span.start + 1) (told text that)
    that_reads x q e b = read_on (told text this) (told text that) x (near_by front) q e b

  -- ---- the first parser, and one that takes a token at greater levels alone

  module _ (front : List Tok) (t : Tok) (behind : List Tok) (early : BeginBefore t.span.start front) (late : BeginFrom (t.span.start + 1) behind) (more : ℕ) (room : max_level + 2 ≤ more) where
    abbrev all : List Tok
    all = front ++ t ∷ behind

    abbrev against : Pair
    against = record {
      kind = Opposed;
      at = t.span.start;
      low = setting_by (one_line text) len max_level;
      high = deep_setting t.span.start len more;
      all = all;
      bounded = bounded_by (one_line text) len max_level;
      room = room;
      len = refl;
      stands = λ u m h. ((λ n _. deep_else t.span.start more u m (omega arith) n), (λ e. deep_there t.span.start more u m (omega arith) e));
      calls = λ l u h. refl;
    }

    abbrev deep_run : ℕ → Outcome Block
    deep_run k = module_with (deep_setting t.span.start len more) (suc k) (before all)

    against_rel : (k : ℕ) → max_level + 2 ≤ k → Rel against 0 max_level (told text all) (deep_run k)
    against_rel k h =
        module_rel against (max_level + 2) k h (omega arith) all (tidy_split t.span.start front t behind refl early late) (among_all all) (has_there t.span.start front t behind refl)

    either_stops : (o r : Outcome Block) → Rel against 0 max_level o r → Far (t.span.start + 1) o → (y : Block × Place) → r ≡ Ok y → ⊥
    either_stops (Ok x) (Ok z) (inl h) k y e = let c : t.span.start + 1 ≤ t.span.start = has_behind t.span.start (t.span.start + 1) x.1.ahead h.1.awaits k in absurd (omega arith)
    either_stops (Ok x) (Err d) h k y e = absurd (cc)
    either_stops (Err c) (Ok z) (inl h) k y e = h
    either_stops (Err c) (Err d) h k y e = absurd (cc)
    either_stops (Ok x) (Ok z) (inr (inl h)) k y e = h
    either_stops (Err c) (Ok z) (inr (inl h)) k y e = h.1.0 k
    either_stops (Ok x) (Ok z) (inr (inr h)) k y e = h
    either_stops (Err c) (Ok z) (inr (inr h)) k y e = h

    no_deep_run : (k : ℕ) → max_level + 2 ≤ k → Far (t.span.start + 1) (told text all) → (y : Block × Place) → deep_run k ≡ Ok y → ⊥
    no_deep_run k h far y e = either_stops (told text all) (deep_run k) (against_rel k h) far y e

    other_goes : (r : Outcome Block) → Rel against {A = Block} 0 max_level (Err (Nesting t.span.start)) r → Far (t.span.start + 1) r
    other_goes (Ok y) (inl h) = absurd h
    other_goes (Err m) (inl h) = absurd h.1
    other_goes r (inr (inl h)) = h.0 refl
    other_goes (Ok y) (inr (inr h)) = absurd h
    other_goes (Err m) (inr (inr h)) = let c : t.span.start + 1 ≤ t.span.start = h.1 in absurd (omega arith)

    pub deep_goes : (k : ℕ) → max_level + 2 ≤ k → told text all ≡ Err (Nesting t.span.start) → Far (t.span.start + 1) (deep_run k)
    deep_goes k h e = other_goes (deep_run k) (subst (λ z. Rel against 0 max_level z (deep_run k)) e (against_rel k h))

    -- the parser with all levels, beside the one that takes a token at greater levels alone
    module _ (deep : ℕ) (fits : deep + 2 ≤ more) where
      abbrev loosely : Pair
      loosely = record {
        kind = Loose;
        at = t.span.start;
        low = setting_by anywhere len deep;
        high = deep_setting t.span.start len more;
        all = all;
        bounded = bounded_by anywhere len deep;
        room = fits;
        len = refl;
        stands = λ u m h n _. deep_else t.span.start more u m (omega arith) n;
        calls = λ l u h. refl;
      }

      reads_too : (x : Block × Place) (r : Outcome Block) → Rel loosely 0 deep (Ok x) r → Far (t.span.start + 1) r → r ≡ Ok x
      reads_too x (Ok y) (inl h) k = ap (λ z. Ok z) (sym h.0)
      reads_too x (Err d) (inl h) k = absurd h
      reads_too x r (inr (inl h)) k = absurd h
      reads_too x (Ok y) (inr (inr h)) k = absurd h
      reads_too x (Err d) (inr (inr h)) k = let c : t.span.start + 1 ≤ t.span.start = subst (λ z. IsLate (t.span.start + 1) z) h.2 k in absurd (omega arith)

      pub deep_reads : (k : ℕ) → deep + 2 ≤ k → (x : Block × Place) → module_with (setting_by anywhere len deep) (deep + 2) (before all) ≡ Ok x → Far (t.span.start + 1) (deep_run k) → deep_run k ≡ Ok x
      deep_reads k h x e far =
          reads_too x (deep_run k) (subst (λ z. Rel loosely 0 deep z (deep_run k)) e
          (module_rel loosely (deep + 2) k h (omega arith) all (tidy_split t.span.start front t behind refl early late) (among_all all) tt)) far

      refuses_too : (e : ParseError) (r : Outcome Block) → Plain e → Rel loosely {A = Block} 0 deep (Err e) r → Far (t.span.start + 1) r → r ≡ Err e
      refuses_too e (Ok y) k (inl h) far = absurd h
      refuses_too e (Err d) k (inl h) far = ap (λ z. Err z) (sym h.0)
      refuses_too (Unexpected n) r k (inr (inl h)) far = absurd h.0
      refuses_too (UnexpectedEnd n) r k (inr (inl h)) far = absurd h.0
      refuses_too (AmbiguousCall n) r k (inr (inl h)) far = absurd k
      refuses_too (Nesting n) r k (inr (inl h)) far = absurd k
      refuses_too (Lex d) r k (inr (inl h)) far = absurd k
      refuses_too NoMemory r k (inr (inl h)) far = absurd k
      refuses_too e (Ok y) k (inr (inr h)) far = absurd h
      refuses_too e (Err d) k (inr (inr h)) far = let c : t.span.start + 1 ≤ t.span.start = subst (λ z. IsLate (t.span.start + 1) z) h.2 far in absurd (omega arith)

      pub deep_refuses : (k : ℕ) → deep + 2 ≤ k → (e : ParseError) → Plain e → module_with (setting_by anywhere len deep) (deep + 2) (before all) ≡ Err e → Far (t.span.start + 1) (deep_run k) → deep_run k ≡ Err e
      deep_refuses k h e plain q far =
          refuses_too e (deep_run k) plain (subst (λ z. Rel loosely 0 deep z (deep_run k)) q
          (module_rel loosely (deep + 2) k h (omega arith) all (tidy_split t.span.start front t behind refl early late) (among_all all) tt)) far

  -- ---- a tree in which a token stands too deep, with more levels

  module _ (at deep more : ℕ) (room : deep + 2 ≤ more) (ts : List Tok) where
    abbrev deepened : Pair
    deepened = record {
      kind = Wide;
      at = sum_of ts + 1;
      low = deep_setting at len deep;
      high = deep_setting at len more;
      all = ts;
      bounded = deep_bounded at len deep;
      room = room;
      len = refl;
      stands = λ t m h k. deep_more at deep more t m (omega arith) k;
      calls = λ l t h. h;
    }

    deeper_read : (k : ℕ) → deep + 2 ≤ k → (x : Block × Place) → module_with (deep_setting at len deep) (deep + 2) (before ts) ≡ Ok x → module_with (deep_setting at len more) (suc k) (before ts) ≡ Ok x
    deeper_read k h x e =
        ok_same deepened Block 0 deep (λ z. z) x (module_with (deep_setting at len more) (suc k) (before ts))
        (subst (λ z. Rel deepened 0 deep z (module_with (deep_setting at len more) (suc k) (before ts))) e (module_rel deepened (deep + 2) k h (omega arith) ts (tidy_above ts) (among_all ts) tt))

  -- ---- one token and the one behind it

  module _ (front : List Tok) (t u : Tok) (us : List Tok) (order : Ordered (front ++ t ∷ u ∷ us)) where
    late_all : BeginFrom (t.span.start + 1) (u ∷ us)
    late_all = late_behind front t (u ∷ us) order

    early_all : BeginBefore t.span.start front
    early_all = early_before front t (u ∷ us) order

    -- what the parser has passed stands at no level above the deepest
    pub not_deep : (e : ParseError) → told text (front ++ t ∷ u ∷ us) ≡ Err e → Overtakes t.span.start e → BeginFrom u.span.start us → CanStandTooDeep t.span.start (front ++ t ∷ []) u → ⊥
    not_deep e q h one k =
        let rest = k.1.0 in
        let other : BeginFrom u.span.start rest = begin_less u.span.start (u.span.start + 1) rest (omega arith) k.1.2 in
        let b : t.span.start + 1 ≤ u.span.start = late_all.0 in
        let that = front ++ t ∷ u ∷ rest in
        let far = that_passes front t u us rest one other e q b (late_of t.span.start e h) in
        let most = k.0 + (max_level + 2) in
        let tree = subst (λ z. IsBare (too_deep_at t.span.start k.0) z k.1.1) (append_assoc front (t ∷ []) (u ∷ rest)) k.1.3 in
        let r = bare_is_read (deep_setting t.span.start len k.0) (deep_bounded t.span.start len k.0) (k.0 + 2) (omega arith) that k.1.1 tree in
        no_deep_run front t (u ∷ rest) early_all (b, begin_less (t.span.start + 1) (u.span.start + 1) rest (omega arith) k.1.2) most (omega arith) most (omega arith) far (k.1.1, r.0)
        (deeper_read t.span.start k.0 most (omega arith) that most (omega arith) (k.1.1, r.0) r.1)

    -- the same of tokens with a tree
    pub not_deep_read : (x : Block × Place) → told text (front ++ t ∷ u ∷ us) ≡ Ok x → x.1.ahead ≡ [] → BeginFrom u.span.start us → CanStandTooDeep t.span.start (front ++ t ∷ []) u → ⊥
    not_deep_read x q h one k =
        let rest = k.1.0 in
        let other : BeginFrom u.span.start rest = begin_less u.span.start (u.span.start + 1) rest (omega arith) k.1.2 in
        let b : t.span.start + 1 ≤ u.span.start = late_all.0 in
        let that = front ++ t ∷ u ∷ rest in
        let far = that_reads front t u us rest one other x q h b in
        let most = k.0 + (max_level + 2) in
        let tree = subst (λ z. IsBare (too_deep_at t.span.start k.0) z k.1.1) (append_assoc front (t ∷ []) (u ∷ rest)) k.1.3 in
        let r = bare_is_read (deep_setting t.span.start len k.0) (deep_bounded t.span.start len k.0) (k.0 + 2) (omega arith) that k.1.1 tree in
        no_deep_run front t (u ∷ rest) early_all (b, begin_less (t.span.start + 1) (u.span.start + 1) rest (omega arith) k.1.2) most (omega arith) most (omega arith) far (k.1.1, r.0)
        (deeper_read t.span.start k.0 most (omega arith) that most (omega arith) (k.1.1, r.0) r.1)

    -- what the parser finds too deep stands so, where the token behind it goes on
    pub can_stand : told text (front ++ t ∷ u ∷ us) ≡ Err (Nesting t.span.start) → BeginFrom u.span.start us → IsFront (front ++ t ∷ []) u → CanStandTooDeep t.span.start (front ++ t ∷ []) u
    can_stand q one k =
        let rest = k.1.0 in
        let other : BeginFrom u.span.start rest = begin_less u.span.start (u.span.start + 1) rest (omega arith) k.1.2 in
        let b : t.span.start + 1 ≤ u.span.start = late_all.0 in
        let that = front ++ t ∷ u ∷ rest in
        let stops = that_stops front t u us rest one other q b in
        let most = k.0 + (max_level + 2) in
        let late : BeginFrom (t.span.start + 1) (u ∷ rest) = (b, begin_less (t.span.start + 1) (u.span.start + 1) rest (omega arith) k.1.2) in
        let tree = subst (λ z. IsBare (rules_by anywhere k.0) z k.1.1) (append_assoc front (t ∷ []) (u ∷ rest)) k.1.3 in
        let r = bare_is_read (setting_by anywhere len k.0) (bounded_by anywhere len k.0) (k.0 + 2) (omega arith) that k.1.1 tree in
        let far = deep_goes front t (u ∷ rest) early_all late most (omega arith) most (omega arith) stops in
        let reads = deep_reads front t (u ∷ rest) early_all late most (omega arith) k.0 (omega arith) most (omega arith) (k.1.1, r.0) r.1 far in
        let deep_tree = read_is_bare (deep_setting t.span.start len most) (deep_bounded t.span.start len most) (suc most) that k.1.1 r.0 reads in
        (most, (rest, k.1.1, k.1.2, subst (λ z. IsBare (too_deep_at t.span.start most) z k.1.1) (sym (append_assoc front (t ∷ []) (u ∷ rest))) deep_tree))

  -- ---- the token before an unexpected one, or before the end

  module _ (front : List Tok) (t : Tok) (behind : List Tok) (order : Ordered (front ++ t ∷ behind)) (next : NextLate behind) where
    pub not_deep_last : (e : ParseError) → told text (front ++ t ∷ behind) ≡ Err e → Overtakes t.span.start e → (Deep e → ⊥) → (NotAt behind e → ⊥) → CanStandTooDeep t.span.start front t → ⊥
    not_deep_last e q h flat there k =
        let rest = k.1.0 in
        let that = front ++ t ∷ rest in
        let far : Far (t.span.start + 1) (told text that) =
        passed_whatever_follows (setting_by (one_line text) len max_level) (λ u m. refl) (max_level + 2) (omega arith) t front behind rest (late_behind front t behind order) k.1.2 next e
        (late_of t.span.start e h) flat there q in
        let most = k.0 + (max_level + 2) in
        let r = bare_is_read (deep_setting t.span.start len k.0) (deep_bounded t.span.start len k.0) (k.0 + 2) (omega arith) that k.1.1 k.1.3 in
        no_deep_run front t rest (early_before front t behind order) k.1.2 most (omega arith) most (omega arith) far (k.1.1, r.0)
        (deeper_read t.span.start k.0 most (omega arith) that most (omega arith) (k.1.1, r.0) r.1)

  -- ---- the last token of tokens with a tree

  module _ (front : List Tok) (t : Tok) (order : Ordered (front ++ t ∷ [])) where
    abbrev last_fork : (rest : List Tok) → BeginFrom (t.span.start + 1) rest → Fork
    last_fork rest late = record { bound = t.span.start + 1; stands = λ m. nat_le m max_level; upto = true; token = t; one = []; other = rest; one_late = tt; other_late = late; one_next = tt; dotted = λ e. absurd (true≢false e) }

    ends_with : (us : List Tok) → us ++ t ∷ [] ≡ [] → ⊥
    ends_with [] e = never_empty t [] e
    ends_with (v ∷ vs) e = never_empty v (vs ++ t ∷ []) e

    last_far : (rest : List Tok) (late : BeginFrom (t.span.start + 1) rest) (o r : Outcome Block) (x : Block × Place) → fork.Near (last_fork rest late) o r → o ≡ Ok x → x.1.ahead ≡ [] → Far (t.span.start + 1) r
    last_far rest late (Err d) r x h q e = absurd (cc)
    last_far rest late (Ok y) (Ok z) x (inl h) q e = absurd (ends_with (h.1.between) (sym h.1.one ∙ (ap (λ (v : Block × Place). v.1.ahead) (same_read (Ok y) y x refl q) ∙ e)))
    last_far rest late (Ok y) (Err c) x (inl h) q e = absurd h
    last_far rest late (Ok y) r x (inr (inl h)) q e = h.1
    last_far rest late (Ok y) r x (inr (inr (inl h))) q e = absurd h
    last_far rest late (Ok y) r x (inr (inr (inr h))) q e = absurd h.1

    pub not_deep_end : (x : Block × Place) → told text (front ++ t ∷ []) ≡ Ok x → x.1.ahead ≡ [] → CanStandTooDeep t.span.start front t → ⊥
    not_deep_end x q h k =
        let rest = k.1.0 in
        let that = front ++ t ∷ rest in
        let w = last_fork rest k.1.2 in
        let far : Far (t.span.start + 1) (told text that) =
        last_far rest k.1.2 (told text (front ++ t ∷ [])) (told text that) x
        ((module_forked (setting_by (one_line text) len max_level) w (record { stands = λ m. refl; level = λ _ m. refl }) (max_level + 2)).near (before (front ++ t ∷ [])) (before that)
        (record { between = front; one = refl; other = refl; last = refl; level = refl })) q h in
        let most = k.0 + (max_level + 2) in
        let r = bare_is_read (deep_setting t.span.start len k.0) (deep_bounded t.span.start len k.0) (k.0 + 2) (omega arith) that k.1.1 k.1.3 in
        no_deep_run front t rest (early_before front t [] order) k.1.2 most (omega arith) most (omega arith) far (k.1.1, r.0)
        (deeper_read t.span.start k.0 most (omega arith) that most (omega arith) (k.1.1, r.0) r.1)
