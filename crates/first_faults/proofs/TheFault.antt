-- What the parser of a text tells is its fault.
use Rattle.std.proofs.Common.{◌≡◌, ℕ, ◌+◌, ◌-◌, ◌≤◌, ◌<◌, List, [], ◌∷◌, ◌++◌, refl, sym, ◌∙◌, ap, subst, inl, inr, arith, append_assoc, append-nil, Option}
use Rattle.std.specs.Prelude.{Err, drop, length}
use Rattle.luau_lex.specs.Tokens.{Tok}
use Rattle.luau_lex.specs.declared.token.LexError.{LexError}
use Rattle.luau_lex.specs.Places.{StandInOrder, first_line_len}
use Rattle.luau_lex.specs.Lexed.{Lexed}
use Rattle.luau_grammar.specs.declared.error.ParseError.{ParseError}
use Rattle.luau_grammar.specs.declared.error.ParseError.TheVariants.{Unexpected, UnexpectedEnd, AmbiguousCall, Nesting}
use Rattle.grammar_faults.specs.Fronts.{BeginFrom}
use Rattle.fault_places.specs.Faults.{IsFault, IsFaultAt, IsFirstFault, HasNoFaultAt, BeginBefore, HasTree}
use Rattle.wider_rules.specs.Order.{Ordered}
use Rattle.wider_rules.proofs.Settled.{begin_less}
use Rattle.first_faults.proofs.Splits.{late_behind, early_before}
use Rattle.first_faults.proofs.Told.{told, Passes, Overtakes, passes_over, is_front, OvertakesAll, one_of, over_call, over_deep, over_unexpected, ambiguous, too_deep, unexpected, at_the_end}
use Rattle.first_faults.proofs.Levels.{not_deep, not_deep_last}
use Rattle.first_faults.proofs.Deepest.{stands_too_deep}

module _ (text : List ℕ) where
  behind_two : (front : List Tok) (t u : Tok) (us : List Tok) → Ordered (front ++ t ∷ u ∷ us) → Ordered ((front ++ t ∷ []) ++ u ∷ us)
  behind_two front t u us o = subst Ordered (sym (append_assoc front (t ∷ []) (u ∷ us))) o

  late_two : (front : List Tok) (t u : Tok) (us : List Tok) → Ordered (front ++ t ∷ u ∷ us) → BeginFrom u.span.start us
  late_two front t u us o = begin_less u.span.start (u.span.start + 1) us (omega arith) (late_behind (front ++ t ∷ []) u us (behind_two front t u us o))

  module _ (ts : List Tok) (order : Ordered ts) (e : ParseError) (fault : told text ts ≡ Err e) where
    no_fault : (front : List Tok) (t u : Tok) (us : List Tok) → ts ≡ front ++ t ∷ u ∷ us → Overtakes t.span.start e → Passes u.span.start e → HasNoFaultAt text front t (u ∷ us)
    no_fault front t u us q h k =
        let x = one_of text ts order e fault front t (u ∷ us) q h in
        let o = subst Ordered q order in
        let g = subst (λ z. told text z ≡ Err e) q fault in (
          x.0,
          x.1,
          (λ c. elim c [
            | inl d ↦ not_deep text front t u us o e g h (late_two front t u us o) d
            | inr d ↦ d.0 (is_front text (front ++ t ∷ []) u us (behind_two front t u us o) e (subst (λ z. told text z ≡ Err e) (sym (append_assoc front (t ∷ []) (u ∷ us))) g) k)
          ]),
        )

    module _ (t : Tok) (behind : List Tok) (last : (front : List Tok) (v : Tok) → ts ≡ front ++ v ∷ t ∷ behind → Overtakes v.span.start e → HasNoFaultAt text front v (t ∷ behind)) where
      walk : (front us : List Tok) → ts ≡ front ++ (us ++ t ∷ behind) → OvertakesAll text us e → IsFaultAt text (front ++ us) t behind e → IsFirstFault text front (us ++ t ∷ behind) e
      walk front [] q h f = inl (subst (λ z. IsFaultAt text z t behind e) (append-nil front) f)
      walk front (v ∷ []) q h f =
          inr (
            last front v q h.0,
            walk (front ++ v ∷ []) [] (q ∙ sym (append_assoc front (v ∷ []) (t ∷ behind))) h.1 (subst (λ z. IsFaultAt text z t behind e) (sym (append_assoc front (v ∷ []) [])) f),
          )
      walk front (v ∷ w ∷ ws) q h f =
          inr (
            no_fault front v w (ws ++ t ∷ behind) q h.0 (passes_over w.span.start e h.1.0),
            walk (front ++ v ∷ []) (w ∷ ws) (q ∙ sym (append_assoc front (v ∷ []) (w ∷ (ws ++ t ∷ behind)))) h.1 (subst (λ z. IsFaultAt text z t behind e) (sym (append_assoc front (v ∷ []) (w ∷ ws))) f),
          )

  pub ambiguous_fault : (ts : List Tok) → Ordered ts → (at : ℕ) → told text ts ≡ Err (AmbiguousCall at) → IsFault text ts (AmbiguousCall at)
  ambiguous_fault ts o at h =
      let k = ambiguous text ts o at h in
      let front = k.0 in
      let t = k.1 in
      let behind = k.2 in
      let start : t.span.start ≡ at = k.4 in
      let early = subst (λ z. BeginBefore z front) start (early_before front t behind (subst Ordered k.3 o)) in
      subst (λ z. IsFirstFault text [] z (AmbiguousCall at)) (sym k.3)
      (walk ts o (AmbiguousCall at) h t behind (λ front v q k. no_fault ts o (AmbiguousCall at) h front v t behind q k (let x : t.span.start ≤ at = omega arith in x)) [] front k.3 (over_call text at front early) (sym start, k.6))

  pub deep_fault : (ts : List Tok) → Ordered ts → (at : ℕ) → told text ts ≡ Err (Nesting at) → IsFault text ts (Nesting at)
  deep_fault ts o at h =
      let k = too_deep text ts o at h in
      let front = k.0 in
      let t = k.1 in
      let behind = k.2 in
      let start : t.span.start ≡ at = k.4 in
      let p = subst Ordered k.3 o in
      let early = subst (λ z. BeginBefore z front) start (early_before front t behind p) in
      let g = subst (λ z. told text z ≡ Err (Nesting t.span.start)) k.3 (h ∙ ap (λ z. Err (Nesting z)) (sym start)) in
      subst (λ z. IsFirstFault text [] z (Nesting at)) (sym k.3)
      (walk ts o (Nesting at) h t behind (λ front v q k. no_fault ts o (Nesting at) h front v t behind q k (let x : t.span.start ≤ at = omega arith in x)) [] front k.3 (over_deep text at front early)
      (sym start, k.6.0, k.6.1, stands_too_deep text front t behind p g))

  -- ---- an unexpected token

  module _ (ts : List Tok) (order : Ordered ts) (t : Tok) (behind : List Tok) (fault : told text ts ≡ Err (Unexpected t.span.start)) where
    before_unexpected : (front : List Tok) (v : Tok) → ts ≡ front ++ v ∷ t ∷ behind → Overtakes v.span.start (Unexpected t.span.start) → HasNoFaultAt text front v (t ∷ behind)
    before_unexpected front v q h =
        let x = one_of text ts order (Unexpected t.span.start) fault front v (t ∷ behind) q h in
        let o = subst Ordered q order in
        let g = subst (λ z. told text z ≡ Err (Unexpected t.span.start)) q fault in (
          x.0,
          x.1,
          (λ c. elim c [
            | inl d ↦ not_deep text front v t behind o (Unexpected t.span.start) g h (late_two front v t behind o) d
            | inr d ↦ not_deep_last text front v (t ∷ behind) o (late_behind (front ++ v ∷ []) t behind (behind_two front v t behind o)) (Unexpected t.span.start) g h (λ z. z) (λ z. z refl) d.1
          ]),
        )

  pub unexpected_fault : (ts : List Tok) → Ordered ts → (at : ℕ) → told text ts ≡ Err (Unexpected at) → IsFault text ts (Unexpected at)
  unexpected_fault ts o at h =
      let k = unexpected text ts o at h in
      let front = k.0 in
      let t = k.1 in
      let behind = k.2 in
      let start : t.span.start ≡ at = k.4 in
      let g : told text ts ≡ Err (Unexpected t.span.start) = h ∙ ap (λ z. Err (Unexpected z)) (sym start) in
      let early = early_before front t behind (subst Ordered k.3 o) in
      subst (λ z. IsFirstFault text [] ts (Unexpected z)) start
      (subst (λ z. IsFirstFault text [] z (Unexpected t.span.start)) (sym k.3)
      (walk ts o (Unexpected t.span.start) g t behind (before_unexpected ts o t behind g) [] front k.3 (over_unexpected text t.span.start front early) (refl, k.6)))

  -- ---- the end

  module _ (ts : List Tok) (order : Ordered ts) (at : ℕ) (fault : told text ts ≡ Err (UnexpectedEnd at)) (there : at ≡ length text) where
    at_last : (front : List Tok) (v : Tok) → ts ≡ front ++ v ∷ [] → HasNoFaultAt text front v []
    at_last front v q =
        let x = one_of text ts order (UnexpectedEnd at) fault front v [] q tt in
        let o = subst Ordered q order in
        let g = subst (λ z. told text z ≡ Err (UnexpectedEnd at)) q fault in
        (x.0, x.1, (λ c. not_deep_last text front v [] o tt (UnexpectedEnd at) g tt (λ z. z) (λ z. z) c))

    walk_end : (front us : List Tok) → ts ≡ front ++ us → IsFirstFault text front us (UnexpectedEnd at)
    walk_end front [] q = (ap (λ z. UnexpectedEnd z) there, (λ h. (at_the_end text ts order at fault).2 (subst HasTree (sym (q ∙ append-nil front)) h)))
    walk_end front (v ∷ []) q = inr (at_last front v q, walk_end (front ++ v ∷ []) [] (q ∙ sym (append_assoc front (v ∷ []) [])))
    walk_end front (v ∷ w ∷ ws) q =
        inr (no_fault ts order (UnexpectedEnd at) fault front v w ws q tt tt, walk_end (front ++ v ∷ []) (w ∷ ws) (q ∙ sym (append_assoc front (v ∷ []) (w ∷ ws))))

  pub end_fault : (ts : List Tok) → Ordered ts → (at : ℕ) → told text ts ≡ Err (UnexpectedEnd at) → IsFault text ts (UnexpectedEnd at)
  end_fault ts o at h = walk_end ts o at h (at_the_end text ts o at h).0 [] ts refl

-- ---- the tokens of a text

begin_in_order : (ts : List Tok) (at : ℕ) (text : List ℕ) → StandInOrder at text ts → BeginFrom at ts
begin_in_order [] at text h = tt
begin_in_order (t ∷ ts) at text h =
    let a : at ≤ t.span.start = h.0 in
    let b : t.span.start < t.span.end = h.1 in
    (h.0, begin_less at t.span.end ts (omega arith) (begin_in_order ts t.span.end (drop (t.span.end - at) text) h.4))

in_order : (ts : List Tok) (at : ℕ) (text : List ℕ) → StandInOrder at text ts → Ordered ts
in_order [] at text h = tt
in_order (t ∷ ts) at text h =
    let b : t.span.start < t.span.end = h.1 in
    (begin_less (t.span.start + 1) t.span.end ts (omega arith) (begin_in_order ts t.span.end (drop (t.span.end - at) text) h.4), in_order ts t.span.end (drop (t.span.end - at) text) h.4)

pub lexed_order : (text : List ℕ) (ts : List Tok) (fault : Option LexError) → Lexed text ts fault → Ordered ts
lexed_order text ts fault h = in_order ts (first_line_len text) (drop (first_line_len text) text) h.in_order
