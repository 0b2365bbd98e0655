-- A worker, draw by draw.
use Rattle.std.proofs.Common.{◌≡◌, ℕ, ◌+◌, ◌-◌, ◌<◌, ◌≤◌, max, Bool, true, false, cond, List, [], ◌∷◌, ◌++◌, Option, Some, None, refl, sym, ap, ◌∙◌, subst, arith, append-nil}
use Rattle.std.specs.Prelude.{nat_lt, All}
use Rattle.std.proofs.lemmas.Bool.Decides.{nat_tests}
use Rattle.std.proofs.lemmas.List.Elements.{All-push, All-tail, All-head, filter-append}
use Rattle.std.proofs.lemmas.List.{map-append}
use Rattle.level_workers.specs.Numbers.{below}
use Rattle.level_workers.specs.Seats.{Board, Held, drawn, with_find, Finds, DrewAllIfWhole}
use Rattle.level_workers.specs.Outputs.{numbers_of, AllGiven, IsDone}

-- one more than the greatest number
abbrev pub top : List ℕ → ℕ
top [] = 0
top (x ∷ xs) = max (x + 1) (top xs)

top-push : (xs : List ℕ) (n : ℕ) → top (xs ++ n ∷ []) ≡ max (top xs) (n + 1)
top-push [] n = omega arith
top-push (x ∷ xs) n = omega (arith, top-push xs n)

top_below : (xs : List ℕ) (n : ℕ) → All (λ k. k < n) xs → top xs ≤ n
top_below [] n all = omega arith
top_below (x ∷ xs) n all = omega (arith, All-head (λ k. k < n) x xs all, top_below xs n (All-tail (λ k. k < n) x xs all))

-- what a draw that gave a number found
some_found : (b : Bool) (n k : ℕ) → ◌≡◌ {A = Option ℕ} (Some k) (cond b (Some n) None) → (b ≡ true) × (n ≡ k)
some_found true n k e = (refl, (cc))
some_found false n k e = absurd (cc)

none_found : (b : Bool) (n : ℕ) → ◌≡◌ {A = Option ℕ} None (cond b (Some n) None) → b ≡ false
none_found true n e = absurd (cc)
none_found false n e = refl

module _ {A : Type 0} (gives : ℕ → A → Type 0) (board : Board) (parts : ℕ) where
  -- A seat that has not met the limit, and the outputs of the numbers that it drew
  pub record Works (outputs : List (ℕ × A)) (seat : Held) : Type 0 where
    pub board_is : seat.board ≡ board
    pub parts_are : seat.parts ≡ parts
    pub not_met : seat.met ≡ false
    pub numbers : numbers_of outputs ≡ drawn seat
    pub given : AllGiven gives outputs

  below-push : (limit : ℕ) (xs : List ℕ) (n : ℕ) → below limit (xs ++ n ∷ []) ≡ below limit xs ++ cond (nat_lt n limit) (n ∷ []) []
  below-push limit xs n = filter-append (λ k. nat_lt k limit) xs (n ∷ [])

  pub Works-more : (outputs items : List (ℕ × A)) (before after : Held) (k : ℕ) (x : A) → items ≡ outputs ++ (k, x) ∷ [] → Works outputs before → Finds before (Some k) after → gives k x → Works items after
  Works-more outputs items before after k x more works found given =
      let n = found.0 in
      let is = some_found (nat_lt n before.board.limit) n k found.1 in
      let e : with_find before n ≡ after = sym found.2 in
      subst (λ l. Works l after) (sym more) (subst (Works (outputs ++ (k, x) ∷ [])) e record {
        board_is = works.board_is;
        parts_are = works.parts_are;
        not_met = (let t = is.0 in grind (arith, nat_tests));
        numbers = map-append (λ (o : ℕ × A). o.0) outputs ((k, x) ∷ [])
            ∙ ap (λ l. l ++ k ∷ []) works.numbers
            ∙ ap (λ m. drawn before ++ m ∷ []) (sym is.1)
            ∙ sym (below-push before.board.limit before.finds n ∙ ap (λ b. drawn before ++ cond b (n ∷ []) []) is.0);
        given = All-push (λ (o : ℕ × A). gives o.0 o.1) outputs (k, x) works.given given;
      })

  pub Works-end : (outputs : List (ℕ × A)) (before after : Held) → Works outputs before → Finds before None after → DrewAllIfWhole after → IsDone gives board parts outputs after
  Works-end outputs before after works found all =
      let n = found.0 in
      let is = none_found (nat_lt n before.board.limit) n found.1 in
      let e : with_find before n ≡ after = sym found.2 in
      let all' : DrewAllIfWhole (with_find before n) = subst DrewAllIfWhole (sym e) all in
      subst (IsDone gives board parts outputs) e record {
        board_is = works.board_is;
        parts_are = works.parts_are;
        met = (let t = is in grind (arith, nat_tests));
        numbers = works.numbers ∙ sym (below-push before.board.limit before.finds n ∙ ap (λ b. drawn before ++ cond b (n ∷ []) []) is ∙ append-nil (drawn before));
        given = works.given;
        all = all';
      }

  pub Works-falls : (outputs : List (ℕ × A)) (before after : Held) (k : ℕ) → Works outputs before → Finds before (Some k) after → board.limit - top after.finds < board.limit - top before.finds
  Works-falls outputs before after k works found =
      let n = found.0 in
      let is = some_found (nat_lt n before.board.limit) n k found.1 in
      let low : n < before.board.limit = (let t = is.0 in grind (arith, nat_tests)) in
      let tops : top after.finds ≡ max (top before.finds) (n + 1) = ap (λ (h : Held). top h.finds) found.2 ∙ top-push before.finds n in
      let limits : before.board.limit ≡ board.limit = ap (λ (b : Board). b.limit) works.board_is in
      omega (arith, top_below before.finds n found.3)
