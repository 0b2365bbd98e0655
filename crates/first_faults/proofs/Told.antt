-- The fault that the parser of a text tells, at its least place.
use Rattle.std.proofs.Common.{◌≡◌, ℕ, suc, ◌+◌, ◌≤◌, Bool, true, false, not, ◌||◌, List, [], ◌∷◌, ◌++◌, length, refl, sym, ◌∙◌, ap, subst, inl, inr, arith, le-leb, append_assoc, append-nil}
use Rattle.std.proofs.lemmas.Bool.{eqb-true, eq-eqb}
use Rattle.std.specs.Prelude.{Ok, Err, ◌==◌}
use Rattle.luau_tree.specs.Tree.{Block}
use Rattle.luau_lex.specs.Tokens.{Tok}
use Rattle.luau_grammar.specs.declared.error.ParseError.{ParseError}
use Rattle.luau_grammar.specs.declared.error.ParseError.TheVariants.{Lex, NoMemory, Unexpected, UnexpectedEnd, AmbiguousCall, Nesting}
use Rattle.luau_grammar.specs.Modules.{before, max_level, on_one_line}
use Rattle.luau_grammar.specs.Reading.{Outcome}
use Rattle.luau_grammar.specs.ReadModules.{module_with}
use Rattle.grammar_faults.proofs.Local.{Far}
use Rattle.fault_places.specs.Faults.{IsFront, IsAmbiguous, Begins, BeginBefore, HasTree}
use Rattle.other_ends.proofs.ForkModules.{unexpected_whatever_follows, ambiguous_whatever_follows}
use Rattle.wider_rules.specs.Order.{Ordered}
use Rattle.wider_rules.proofs.Beside.{Lined, Pair, Rel}
use Rattle.wider_rules.proofs.BesideModules.{module_rel}
use Rattle.wider_rules.proofs.Runs.{Test, rules_by, setting_by, bounded_by, anywhere, run, among_all, still_refused, stands_among, wider_tree, no_tree_at_all}
use Rattle.wider_rules.proofs.Settled.{tidy_of, far_less, passes_deep, passes_call, settle_from}
use Rattle.first_faults.specs.Told.{AreFronts, StandsAt}
use Rattle.first_faults.proofs.Splits.{Split, split, late_behind}
use Rattle.first_faults.proofs.Completions.{Goes, goes}

-- ---- which tokens may begin arguments

abbrev pub one_line : List ℕ → Test
one_line text l t = on_one_line text l t.span.start

-- on one line at one token, and anywhere else
abbrev pub lined : List ℕ → ℕ → Test
lined text at l t = not (t.span.start == at) || on_one_line text l at

only : (b x : Bool) → (b ≡ true → x ≡ true) → (not b || x) ≡ true
only true x h = h refl
only false x h = refl

pub lined_calls : (text : List ℕ) (at l : ℕ) (t : Tok) → one_line text l t ≡ true → lined text at l t ≡ true
lined_calls text at l t h = only (t.span.start == at) (on_one_line text l at) (λ e. subst (λ z. on_one_line text l z ≡ true) (eqb-true t.span.start at e) h)

lined_free : (text : List ℕ) (at l : ℕ) (t : Tok) → (t.span.start ≡ at → ⊥) → lined text at l t ≡ true
lined_free text at l t n = only (t.span.start == at) (on_one_line text l at) (λ e. absurd (n (eqb-true t.span.start at e)))

lined_same : (text : List ℕ) (at l : ℕ) (t : Tok) → t.span.start ≡ at → lined text at l t ≡ one_line text l t
lined_same text at l t e =
    ap (λ b. not b || on_one_line text l at) (eq-eqb t.span.start at e) ∙ ap (λ z. on_one_line text l z) (sym e)

-- ---- what a fault says of a token

abbrev pub Passes : ℕ → ParseError → Type 0
Passes n (Unexpected k) = n + 1 ≤ k
Passes n (UnexpectedEnd k) = Unit {0}
Passes n (AmbiguousCall k) = n ≤ k
Passes n (Nesting k) = n ≤ k
Passes n (Lex e) = ⊥
Passes n NoMemory = ⊥

abbrev pub Overtakes : ℕ → ParseError → Type 0
Overtakes n (Unexpected k) = n + 1 ≤ k
Overtakes n (UnexpectedEnd k) = Unit {0}
Overtakes n (AmbiguousCall k) = n + 1 ≤ k
Overtakes n (Nesting k) = n + 1 ≤ k
Overtakes n (Lex e) = ⊥
Overtakes n NoMemory = ⊥

pub passes_over : (n : ℕ) (e : ParseError) → Overtakes n e → Passes n e
passes_over n (Unexpected k) h = h
passes_over n (UnexpectedEnd k) h = tt
passes_over n (AmbiguousCall k) h = omega arith
passes_over n (Nesting k) h = omega arith
passes_over n (Lex e) h = h
passes_over n NoMemory h = h

module _ (text : List ℕ) where
  abbrev len : ℕ
  len = length text

  abbrev pub told : List Tok → Outcome Block
  told ts = run (one_line text) len max_level ts

  -- ---- calls on one line at a token alone

  module _ (at more : ℕ) (room : max_level + 2 ≤ more) (ts : List Tok) where
    abbrev f : Pair
    f = record {
      kind = Lined;
      at = at;
      low = setting_by (one_line text) len max_level;
      high = setting_by (lined text at) len more;
      all = ts;
      bounded = bounded_by (one_line text) len max_level;
      room = room;
      len = refl;
      stands = λ t m h. ((λ _. le-leb m more (omega arith)), (λ _. le-leb m more (omega arith)));
      calls = λ l t. (lined_calls text at l t, lined_same text at l t);
    }

    same_depth : (k : ℕ) → k ≡ more + 2 → module_with (setting_by (lined text at) len more) k (before ts) ≡ run (lined text at) len more ts
    same_depth k e = ap (λ z. module_with (setting_by (lined text at) len more) z (before ts)) e

    lined_rel : Ordered ts → Rel f 0 max_level (told ts) (run (lined text at) len more ts)
    lined_rel o =
        subst (λ r. Rel f 0 max_level (told ts) r) (same_depth (suc (more + 1)) (omega arith))
        (module_rel f (max_level + 2) (more + 1) (omega arith) (omega arith) ts (tidy_of at ts o) (among_all ts) tt)

    deep_far : (r : Outcome Block) → Rel f {A = Block} 0 max_level (Err (Nesting at)) r → Far (at + 1) r
    deep_far (Ok y) (inl h) = absurd h
    deep_far (Err m) (inl h) = absurd h.1
    deep_far r (inr (inl h)) = h.0 refl
    deep_far (Ok y) (inr (inr h)) = absurd h
    deep_far (Err m) (inr (inr h)) = absurd h.0

    call_same : (r : Outcome Block) → Rel f {A = Block} 0 max_level (Err (AmbiguousCall at)) r → r ≡ Err (AmbiguousCall at)
    call_same (Ok y) (inl h) = absurd h
    call_same (Err m) (inl h) = absurd h.1
    call_same (Ok y) (inr (inl h)) = absurd (h.0 refl)
    call_same (Err m) (inr (inl h)) = ap (λ z. Err z) (h.0 refl)
    call_same (Ok y) (inr (inr h)) = absurd h
    call_same (Err m) (inr (inr h)) = absurd h.0

    lined_deep : Ordered ts → told ts ≡ Err (Nesting at) → Far (at + 1) (run (lined text at) len more ts)
    lined_deep o e = deep_far (run (lined text at) len more ts) (subst (λ z. Rel f 0 max_level z (run (lined text at) len more ts)) e (lined_rel o))

    lined_call : Ordered ts → told ts ≡ Err (AmbiguousCall at) → run (lined text at) len more ts ≡ Err (AmbiguousCall at)
    lined_call o e = call_same (run (lined text at) len more ts) (subst (λ z. Rel f 0 max_level z (run (lined text at) len more ts)) e (lined_rel o))

  -- ---- one token

  module _ (front : List Tok) (t : Tok) (behind : List Tok) (order : Ordered (front ++ t ∷ behind)) where
    abbrev all : List Tok
    all = front ++ t ∷ behind

    abbrev more : ℕ
    more = max_level + 2

    enough : max_level + 2 ≤ more
    enough = omega arith

    wide_far : (e : ParseError) → told all ≡ Err e → Passes t.span.start e → Far (t.span.start + 1) (run anywhere len more all)
    wide_far (Unexpected k) e h =
        subst (λ o. Far {A = Block} (t.span.start + 1) o) (sym (still_refused (one_line text) anywhere (λ _ _ _. refl) len max_level more enough all (Unexpected k) tt e)) h
    wide_far (UnexpectedEnd k) e h =
        subst (λ o. Far {A = Block} (t.span.start + 1) o) (sym (still_refused (one_line text) anywhere (λ _ _ _. refl) len max_level more enough all (UnexpectedEnd k) tt e)) tt
    wide_far (AmbiguousCall k) e h =
        far_less (t.span.start + 1) (k + 1) (run anywhere len more all) (omega arith)
        (passes_call (one_line text) anywhere (λ _ _ _. refl) len max_level more enough k (λ _ _ _. refl) all (tidy_of k all order) e)
    wide_far (Nesting k) e h =
        far_less (t.span.start + 1) (k + 1) (run anywhere len more all) (omega arith)
        (passes_deep (one_line text) anywhere (λ _ _ _. refl) len max_level more enough k (λ _ _ _. refl) all (tidy_of k all order) e)
    wide_far (Lex d) e h = absurd h
    wide_far NoMemory e h = absurd h

    pub is_front : (e : ParseError) → told all ≡ Err e → Passes t.span.start e → IsFront front t
    is_front e h k =
        goes anywhere len t (λ _ _ _. refl) front behind order (settle_from anywhere len (t.span.start + 1) (λ _ _ _. refl) all order more (wide_far e h k))

    free_behind : (l : ℕ) (u : Tok) → t.span.start + 1 ≤ u.span.start → lined text t.span.start l u ≡ true
    free_behind l u h = lined_free text t.span.start l u (λ e. absurd (omega arith))

    lined_far : (e : ParseError) → told all ≡ Err e → Overtakes t.span.start e → Far (t.span.start + 1) (run (lined text t.span.start) len more all)
    lined_far (Unexpected k) e h =
        subst (λ o. Far {A = Block} (t.span.start + 1) o) (sym (still_refused (one_line text) (lined text t.span.start) (lined_calls text t.span.start) len max_level more enough all (Unexpected k) tt e)) h
    lined_far (UnexpectedEnd k) e h =
        subst (λ o. Far {A = Block} (t.span.start + 1) o) (sym (still_refused (one_line text) (lined text t.span.start) (lined_calls text t.span.start) len max_level more enough all (UnexpectedEnd k) tt e)) tt
    lined_far (AmbiguousCall k) e h =
        far_less (t.span.start + 1) (k + 1) (run (lined text t.span.start) len more all) (omega arith)
        (passes_call (one_line text) (lined text t.span.start) (lined_calls text t.span.start) len max_level more enough k (λ l u d. lined_free text t.span.start l u (λ c. absurd (omega arith))) all
        (tidy_of k all order) e)
    lined_far (Nesting k) e h =
        far_less (t.span.start + 1) (k + 1) (run (lined text t.span.start) len more all) (omega arith)
        (passes_deep (one_line text) (lined text t.span.start) (lined_calls text t.span.start) len max_level more enough k (λ l u d. lined_free text t.span.start l u (λ c. absurd (omega arith))) all
        (tidy_of k all order) e)
    lined_far (Lex d) e h = absurd h
    lined_far NoMemory e h = absurd h

    pub not_ambiguous : Far (t.span.start + 1) (run (lined text t.span.start) len more all) → IsAmbiguous text front t → ⊥
    not_ambiguous h k =
        let g : Goes (lined text t.span.start) len t free_behind front =
        goes (lined text t.span.start) len t free_behind front behind order (settle_from (lined text t.span.start) len (t.span.start + 1) free_behind all order more h) in
        k.1 g.0 g.1

    -- a token that stands too deep
    pub deep_token : told all ≡ Err (Nesting t.span.start) → IsFront front t × (IsAmbiguous text front t → ⊥)
    deep_token g =
        (is_front (Nesting t.span.start) g (let x : t.span.start ≤ t.span.start = omega arith in x), not_ambiguous (lined_deep t.span.start more enough all order g))

    pub no_front : told all ≡ Err (Unexpected t.span.start) → IsFront front t → ⊥
    no_front e k =
        let most = k.0 + (max_level + 2) in
        unexpected_whatever_follows (setting_by anywhere len most) (λ u m. refl) (most + 2) (omega arith) t front behind k.1.0 (late_behind front t behind order) k.1.2
        (still_refused (one_line text) anywhere (λ _ _ _. refl) len max_level most (omega arith) all (Unexpected t.span.start) tt e) k.1.1
        (wider_tree anywhere anywhere (λ _ _ z. z) len k.0 most (omega arith) (front ++ t ∷ k.1.0) k.1.1 k.1.3)

    never_on_one_line : told all ≡ Err (AmbiguousCall t.span.start) → (deep : ℕ) → Begins (rules_by (lined text t.span.start) deep) front t → ⊥
    never_on_one_line e deep k =
        let most = deep + (max_level + 2) in
        let c : Test = lined text t.span.start in
        ambiguous_whatever_follows (setting_by c len most) (λ u m. refl) (most + 2) (omega arith) t front behind k.0 (late_behind front t behind order) k.2
        (lined_call t.span.start most (omega arith) all order e) k.1
        (wider_tree c c (λ _ _ z. z) len deep most (omega arith) (front ++ t ∷ k.0) k.1 k.3)

  -- ---- all tokens before a fault

  abbrev pub OvertakesAll : List Tok → ParseError → Type 0
  OvertakesAll [] e = Unit {0}
  OvertakesAll (t ∷ ts) e = Overtakes t.span.start e × OvertakesAll ts e

  module _ (ts : List Tok) (order : Ordered ts) (e : ParseError) (fault : told ts ≡ Err e) where
    pub one_of : (front : List Tok) (t : Tok) (behind : List Tok) → ts ≡ front ++ t ∷ behind → Overtakes t.span.start e → IsFront front t × (IsAmbiguous text front t → ⊥)
    one_of front t behind q h =
        let o = subst Ordered q order in
        let g = subst (λ z. told z ≡ Err e) q fault in
        (is_front front t behind o e g (passes_over t.span.start e h), not_ambiguous front t behind o (lined_far front t behind o e g h))

    fronts : (front us rest : List Tok) → ts ≡ front ++ (us ++ rest) → OvertakesAll us e → AreFronts text front us
    fronts front [] rest q h = tt
    fronts front (u ∷ us) rest q h =
        let x = one_of front u (us ++ rest) q h.0 in
        (x.0, x.1, fronts (front ++ u ∷ []) us rest (q ∙ sym (append_assoc front (u ∷ []) (us ++ rest))) h.1)

  pub over_unexpected : (at : ℕ) (us : List Tok) → BeginBefore at us → OvertakesAll us (Unexpected at)
  over_unexpected at [] h = tt
  over_unexpected at (u ∷ us) h = ((let x : u.span.start + 1 ≤ at = omega arith in x), over_unexpected at us h.1)

  pub over_call : (at : ℕ) (us : List Tok) → BeginBefore at us → OvertakesAll us (AmbiguousCall at)
  over_call at [] h = tt
  over_call at (u ∷ us) h = ((let x : u.span.start + 1 ≤ at = omega arith in x), over_call at us h.1)

  pub over_deep : (at : ℕ) (us : List Tok) → BeginBefore at us → OvertakesAll us (Nesting at)
  over_deep at [] h = tt
  over_deep at (u ∷ us) h = ((let x : u.span.start + 1 ≤ at = omega arith in x), over_deep at us h.1)

  pub over_end : (at : ℕ) (us : List Tok) → OvertakesAll us (UnexpectedEnd at)
  over_end at [] = tt
  over_end at (u ∷ us) = (tt, over_end at us)

  where_unexpected : (ts : List Tok) → Ordered ts → (at : ℕ) → told ts ≡ Err (Unexpected at) → Split at ts
  where_unexpected ts o at h = split at ts o (stands_among (one_line text) (one_line text) (λ _ _ z. z) len max_level (max_level + 2) (omega arith) ts (Unexpected at) h)

  where_call : (ts : List Tok) → Ordered ts → (at : ℕ) → told ts ≡ Err (AmbiguousCall at) → Split at ts
  where_call ts o at h = split at ts o (stands_among (one_line text) (one_line text) (λ _ _ z. z) len max_level (max_level + 2) (omega arith) ts (AmbiguousCall at) h)

  where_deep : (ts : List Tok) → Ordered ts → (at : ℕ) → told ts ≡ Err (Nesting at) → Split at ts
  where_deep ts o at h = split at ts o (stands_among (one_line text) (one_line text) (λ _ _ z. z) len max_level (max_level + 2) (omega arith) ts (Nesting at) h)

  pub unexpected : (ts : List Tok) → Ordered ts → (at : ℕ) → told ts ≡ Err (Unexpected at) → StandsAt text ts at (λ front t. IsFront front t → ⊥)
  unexpected ts o at h =
      let k = where_unexpected ts o at h in (
        k.front,
        k.token,
        k.behind,
        k.whole,
        k.start,
        fronts ts o (Unexpected at) h [] k.front (k.token ∷ k.behind) k.whole (over_unexpected at k.front k.early),
        no_front k.front k.token k.behind (subst Ordered k.whole o) (subst (λ z. told z ≡ Err (Unexpected k.token.span.start)) k.whole (h ∙ ap (λ z. Err (Unexpected z)) (sym k.start))),
      )

  pub ambiguous : (ts : List Tok) → Ordered ts → (at : ℕ) → told ts ≡ Err (AmbiguousCall at) → StandsAt text ts at (λ front t. IsAmbiguous text front t)
  ambiguous ts o at h =
      let k = where_call ts o at h in
      let n = k.token.span.start in
      let p = subst Ordered k.whole o in
      let g = subst (λ z. told z ≡ Err (AmbiguousCall n)) k.whole (h ∙ ap (λ z. Err (AmbiguousCall z)) (sym k.start)) in (
        k.front,
        k.token,
        k.behind,
        k.whole,
        k.start,
        fronts ts o (AmbiguousCall at) h [] k.front (k.token ∷ k.behind) k.whole (over_call at k.front k.early),
        (is_front k.front k.token k.behind p (AmbiguousCall n) g (let x : n ≤ n = omega arith in x), never_on_one_line k.front k.token k.behind p g),
      )

  pub too_deep : (ts : List Tok) → Ordered ts → (at : ℕ) → told ts ≡ Err (Nesting at) → StandsAt text ts at (λ front t. IsFront front t × (IsAmbiguous text front t → ⊥))
  too_deep ts o at h =
      let k = where_deep ts o at h in
      let n = k.token.span.start in
      let p = subst Ordered k.whole o in
      let g = subst (λ z. told z ≡ Err (Nesting n)) k.whole (h ∙ ap (λ z. Err (Nesting z)) (sym k.start)) in (
        k.front,
        k.token,
        k.behind,
        k.whole,
        k.start,
        fronts ts o (Nesting at) h [] k.front (k.token ∷ k.behind) k.whole (over_deep at k.front k.early),
        (
          is_front k.front k.token k.behind p (Nesting n) g (let x : n ≤ n = omega arith in x),
          not_ambiguous k.front k.token k.behind p (lined_deep n (max_level + 2) (omega arith) (k.front ++ k.token ∷ k.behind) p g),
        ),
      )

  pub at_the_end : (ts : List Tok) → Ordered ts → (at : ℕ) → told ts ≡ Err (UnexpectedEnd at) → (at ≡ len) × AreFronts text [] ts × (HasTree ts → ⊥)
  at_the_end ts o at h = (
    stands_among (one_line text) (one_line text) (λ _ _ z. z) len max_level (max_level + 2) (omega arith) ts (UnexpectedEnd at) h,
    fronts ts o (UnexpectedEnd at) h [] ts [] (sym (append-nil ts)) (over_end at ts),
    (λ tree. no_tree_at_all (one_line text) len max_level ts (UnexpectedEnd at) tt h tree.0 tree.1 tree.2),
  )
