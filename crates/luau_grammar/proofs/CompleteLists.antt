-- Loops and lists: what the grammar says is read.
use Rattle.std.proofs.Common.{◌≡◌, ℕ, zero, suc, ◌≤◌, ◌<◌, Bool, true, false, not, ◌&&◌, ◌⊎◌, inl, inr, List, [], ◌∷◌, ◌++◌, length, append_assoc, append-nil, refl, sym, ap, arith}
use Rattle.std.proofs.lemmas.Bool.{or_left, or_right, not_from_true, not_from_false}
use Rattle.luau_grammar.specs.declared.symbol.Symbol.{Symbol}
use Rattle.luau_grammar.specs.declared.symbol.Symbol.TheVariants as s
use Rattle.luau_grammar.specs.Places.{Place, Takes, sees}
use Rattle.luau_grammar.specs.Lists.{AreInBraces, TakesSeparator, sees_separator}
use Rattle.luau_grammar.specs.Reading.{Setting, Parser, ◌>>◌, pure, next, repeat, repeats, separated, separated_from}
use Rattle.luau_grammar.specs.ReadTypes.{Braced, braced, goes_braced, one_braced, separator}
use Rattle.luau_grammar.proofs.Agreement.{Complete, Reached}
use Rattle.luau_grammar.proofs.Primitives.{Gives, Taken, gives_ok, gives_to, gives_same, gives_here, gives_then, gives_if_true, gives_if_false, gives_expect, gives_next, takes_taken, takes_sees}
use Rattle.luau_grammar.proofs.SoundLists.{AreMore, Separated, IsBraced, IsSeparator, behind_sign, separated_split}

-- A loop gives this with each number of turns that is no less than the number of tokens ahead.
abbrev pub Loops : {S : Type 0} → ℕ → Setting → (S → Place → Bool) → (S → Parser S) → S → Place → Place → S → Type 0
Loops low set goes step x p q z =
    (turns : ℕ) → length p.ahead ≤ turns → Gives low p (repeats set goes step turns x p) q z

module _ {S : Type 0} (low : ℕ) (set : Setting) (goes : S → Place → Bool) (step : S → Parser S) where
  -- where it stops, the number of turns does not matter
  stops : (turns : ℕ) (x : S) (p : Place) → goes x p ≡ false → low ≤ p.level → Gives low p (repeats set goes step turns x p) p x
  unfolding repeats
  stops zero x p h l = gives_if_false _ h (gives_ok l)
  stops (suc turns) x p h l = gives_if_false _ h (gives_ok l)

  pub loop_stop : (x : S) (p : Place) → goes x p ≡ false → low ≤ p.level → Loops low set goes step x p p x
  loop_stop x p h l turns enough = stops turns x p h l

  goes_step : (turns : ℕ) (x y z : S) (p a q : Place) → goes x p ≡ true → Gives low p (step x p) a y
      → Gives low a (repeats set goes step turns y a) q z → Gives low p (repeats set goes step (suc turns) x p) q z
  unfolding repeats
  goes_step turns x y z p a q h g k = gives_if_true _ h (gives_then _ g (λ l. k))

  -- a step takes a token, and the loop goes on
  pub loop_step : (x y z : S) (p a q : Place) → goes x p ≡ true → Gives low p (step x p) a y → length a.ahead < length p.ahead
      → Loops low set goes step y a q z → Loops low set goes step x p q z
  loop_step x y z p a q h g less k zero enough = absurd (omega arith)
  loop_step x y z p a q h g less k (suc turns) enough = goes_step turns x y z p a q h g (k turns (omega arith))

  -- the last step, which need not take a token where some are ahead
  pub loop_last : (x y : S) (p a : Place) → goes x p ≡ true → Gives low p (step x p) a y → goes y a ≡ false → 0 < length p.ahead
      → Loops low set goes step x p a y
  loop_last x y p a h g stop some zero enough = absurd (omega arith)
  loop_last x y p a h g stop some (suc turns) enough = goes_step turns x y y p a a h g (stops turns y a stop g.1.level)

  pub loop_done : (x z : S) (p q : Place) → Loops low set goes step x p q z → Gives low p (repeat set goes step x p) q z
  loop_done x z p q k = k (length p.ahead) (omega arith)

module _ {A : Type 0} (low : ℕ) (set : Setting) (Is : Place → Place → A → Type 0) (item : Parser A) (complete : Complete low Is item) where
  behind_sign_complete : (sign : Symbol) (found : List A) (p a b : Place) (x : A) → low ≤ p.level → Takes set.rules sign p a
      → Is a b x → Gives low p (behind_sign set sign item found p) b (found ++ x ∷ [])
  behind_sign_complete sign found p a b x h n i =
      gives_expect set _ sign p a h n (λ t l. gives_then _ (complete a b x l i) (λ k. gives_ok k))

  behind_sign_less : (sign : Symbol) (p a b : Place) (x : A) → low ≤ p.level → Takes set.rules sign p a → Is a b x
      → length b.ahead < length p.ahead
  behind_sign_less sign p a b x h n i =
      let t = takes_taken set.rules p a sign n in
      let l : low ≤ a.level = omega arith in
      let r : Reached low a b = (complete a b x l i).1 in
      omega arith

  pub more_complete : (sign : Symbol) (found xs : List A) (p q : Place) → low ≤ p.level → AreMore set.rules sign Is p q xs
      → Loops low set (λ _ p. sees sign p) (behind_sign set sign item) found p q (found ++ xs)
  more_complete sign found [] p q h m turns enough =
      gives_to m.1 (gives_same (sym (append-nil found))
      (loop_stop low set (λ _ p. sees sign p) (behind_sign set sign item) found p m.0 h turns enough))
  more_complete sign found (x ∷ xs) p q h m turns enough =
      let g = behind_sign_complete sign found p m.0 m.1 x h m.2 m.3 in
      gives_same (append_assoc found (x ∷ []) xs)
      (loop_step low set (λ _ p. sees sign p) (behind_sign set sign item) found (found ++ x ∷ []) ((found ++ x ∷ []) ++ xs) p m.1 q
      (takes_sees set.rules p m.0 sign m.2) g (behind_sign_less sign p m.0 m.1 x h m.2 m.3)
      (more_complete sign (found ++ x ∷ []) xs m.1 q g.1.level m.4) turns enough)

  -- a loop that adds to a list, each behind a sign
  pub loop_more_complete : (sign : Symbol) (found xs : List A) (p q : Place) → low ≤ p.level → AreMore set.rules sign Is p q xs
      → Gives low p (repeat set (λ _ p. sees sign p) (behind_sign set sign item) found p) q (found ++ xs)
  loop_more_complete sign found xs p q h m = more_complete sign found xs p q h m (length p.ahead) (omega arith)

  pub separated_from_complete : (found xs : List A) (p q : Place) → low ≤ p.level → AreMore set.rules s.Comma Is p q xs
      → Gives low p (separated_from set item found p) q (found ++ xs)
  unfolding separated_from
  separated_from_complete found xs p q h m = loop_more_complete s.Comma found xs p q h m

  pub separated_complete : Complete low (Separated set.rules Is) (separated set item)
  unfolding separated
  separated_complete p q [] h n = absurd n
  separated_complete p q (x ∷ xs) h n =
      let m = separated_split set.rules Is xs p q x n in
      gives_then _ (complete p m.0 x h m.1) (λ l. separated_from_complete (x ∷ []) xs m.0 q l m.2)

separator_seen : (set : Setting) (p q : Place) → TakesSeparator set.rules p q → sees_separator p ≡ true
separator_seen set p q (inl n) = or_left (sees s.Comma p) (sees s.Semicolon p) (takes_sees set.rules p q s.Comma n)
separator_seen set p q (inr n) = or_right (sees s.Comma p) (sees s.Semicolon p) (takes_sees set.rules p q s.Semicolon n)

separator_taken : (set : Setting) (p q : Place) → TakesSeparator set.rules p q → Taken p q
separator_taken set p q (inl n) = takes_taken set.rules p q s.Comma n
separator_taken set p q (inr n) = takes_taken set.rules p q s.Semicolon n

separator_takes : (low : ℕ) (set : Setting) (p q : Place) → low ≤ p.level → TakesSeparator set.rules p q
    → Gives low p ((next set >> pure true) p) q true
separator_takes low set p q h (inl n) = gives_next set _ s.Comma p q h n (λ t l. gives_ok l)
separator_takes low set p q h (inr n) = gives_next set _ s.Semicolon p q h n (λ t l. gives_ok l)

pub separator_complete : (low : ℕ) (set : Setting) → Complete low (IsSeparator set.rules) (separator set)
unfolding separator
separator_complete low set p q true h n = gives_if_true _ (separator_seen set p q n) (separator_takes low set p q h n)
separator_complete low set p q false h n = gives_if_false _ n.0 (gives_here h n.1)

-- where another item may follow
open_braces : (p : Place) → sees s.RightBrace p ≡ false → (true && not (sees s.RightBrace p)) ≡ true
open_braces p h = not_from_false (sees s.RightBrace p) h

closed_braces : (p : Place) → sees s.RightBrace p ≡ true → (true && not (sees s.RightBrace p)) ≡ false
closed_braces p h = not_from_true (sees s.RightBrace p) h

module _ {A : Type 0} (low : ℕ) (set : Setting) (Is : Place → Place → A → Type 0) (item : Parser A) (complete : Complete low Is item) where
  abbrev pub state : List A → Bool → Braced A
  state found more = record { items = found; open_ended = more }

  one_braced_complete : (found : List A) (p a b : Place) (x : A) (more : Bool) → low ≤ p.level → Is p a x
      → IsSeparator set.rules a b more → Gives low p (one_braced set item (state found true) p) b (state (found ++ x ∷ []) more)
  one_braced_complete found p a b x more h i m =
      gives_then _ (complete p a x h i) (λ l. gives_then _ (separator_complete low set a b more l m) (λ k. gives_ok k))

  one_braced_less : (p a b : Place) (x : A) → low ≤ p.level → Is p a x → TakesSeparator set.rules a b → length b.ahead < length p.ahead
  one_braced_less p a b x h i m =
      let t = separator_taken set a b m in
      let r : Reached low p a = (complete p a x h i).1 in
      omega arith

  -- what a loop over items in braces gives
  abbrev LoopsBraced : List A → Place → Place → List A → Type 0
  LoopsBraced found p q all =
      (more : Bool) × Loops low set goes_braced (one_braced set item) (state found true) p q (state all more)

  braces_end : (found : List A) (p a q : Place) (x : A) → low ≤ p.level → sees s.RightBrace p ≡ false → Is p a x
      → (((sees_separator a ≡ false) × (q ≡ a)) ⊎ (TakesSeparator set.rules a q × (sees s.RightBrace q ≡ true)))
      → 0 < length q.ahead → LoopsBraced found p q (found ++ x ∷ [])
  braces_end found p a q x h r i (inl m) some =
      let e : length q.ahead ≡ length a.ahead = ap (λ (z : Place). length z.ahead) m.1 in
      let t : Reached low p a = (complete p a x h i).1 in (
        false,
        λ turns enough. gives_to m.1
            (loop_last low set goes_braced (one_braced set item) (state found true) (state (found ++ x ∷ []) false) p a
            (open_braces p r) (one_braced_complete found p a a x false h i (m.0, refl)) refl (omega arith) turns enough),
      )
  braces_end found p a q x h r i (inr m) some =
      let g = one_braced_complete found p a q x true h i m.0 in
      let all = state (found ++ x ∷ []) true in (
        true,
        loop_step low set goes_braced (one_braced set item) (state found true) all all p q q (open_braces p r) g
            (one_braced_less p a q x h i m.0)
            (loop_stop low set goes_braced (one_braced set item) all q (closed_braces q m.1) g.1.level),
      )

  braces_complete : (found : List A) (xs : List A) (p q : Place) (x : A) → low ≤ p.level → sees s.RightBrace p ≡ false
      → AreInBraces set.rules Is p q x xs → 0 < length q.ahead → LoopsBraced found p q (found ++ x ∷ xs)
  braces_complete found [] p q x h r n some = braces_end found p n.0 q x h r n.1 n.2 some
  braces_complete found (y ∷ ys) p q x h r n some =
      let g = one_braced_complete found p n.0 n.1 x true h n.2 n.3 in
      let k = braces_complete (found ++ x ∷ []) ys n.1 q y g.1.level n.4 n.5 some in (
        k.0,
        λ turns enough. gives_same (ap (λ z. state z k.0) (append_assoc found (x ∷ []) (y ∷ ys)))
            (loop_step low set goes_braced (one_braced set item) (state found true) (state (found ++ x ∷ []) true)
            (state ((found ++ x ∷ []) ++ y ∷ ys) k.0) p n.1 q (open_braces p r) g (one_braced_less p n.0 n.1 x h n.2 n.3) k.1 turns enough),
      )

  -- A token has to follow, as the `}` does.
  pub braced_complete : (xs : List A) (p q : Place) → low ≤ p.level → IsBraced set.rules Is p q xs → 0 < length q.ahead
      → (more : Bool) × Gives low p (braced set item p) q (state xs more)
  unfolding braced
  braced_complete [] p q h n some = (
    true,
    gives_to n.1
        (loop_done low set goes_braced (one_braced set item) (state [] true) (state [] true) p p
        (loop_stop low set goes_braced (one_braced set item) (state [] true) p (closed_braces p n.0) h)),
  )
  braced_complete (x ∷ xs) p q h n some =
      let k = braces_complete [] xs p q x h n.0 n.1 some in
      (k.0, loop_done low set goes_braced (one_braced set item) (state [] true) (state (x ∷ xs) k.0) p q k.1)
