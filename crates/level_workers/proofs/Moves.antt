-- Each step keeps the rule of a board.
use Rattle.std.proofs.Common.{◌≡◌, ◌≢◌, ℕ, ◌+◌, ◌-◌, ◌%◌, ◌^◌, ◌<◌, ◌≤◌, Bool, true, false, cond, ◌⊎◌, inl, inr, ⊎_elim, List, [], ◌∷◌, ◌++◌, map, length, get_or, set, refl, sym, ap, ◌∙◌, subst, arith}
use Rattle.std.specs.Prelude.{◌==◌, ◌||◌, nat_le, sum_by, All, slice_index, slice_set, length}
use mathlib.Core.Option.{some}
use lib.ListN.{get_elem?}
use Rattle.std.proofs.Math.Nat.{mod-eq_of_lt}
use Rattle.std.proofs.lemmas.Bool.Decides.{nat_tests}
use Rattle.std.proofs.lemmas.List.{length_push}
use Rattle.std.proofs.lemmas.List.Sums.{sum_by_push}
use Rattle.atomic_table.specs.Table.{Me, Allows, Splits, Joins, keeps}
use Rattle.atomic_table.proofs.Lists.{at_set, set_again, set_here, set_else}
use Rattle.level_workers.specs.declared.view.View.{View}
use Rattle.level_workers.specs.Numbers.{times, SameNumbers, past}
use Rattle.level_workers.specs.Machine.{Machine, draw, after}
use Rattle.level_workers.specs.Views.{finding, less_a_part, of_one_part, joined, spent, all_finds, open_parts}
use Rattle.level_workers.specs.Rule.{IsState, Sits, Stands, Keeps, Drew, Looked}
use Rattle.level_workers.proofs.NumberLemmas.{tell, times-append, times-push, EachBelow-next, EachBelow-same, length-past-append, times-at}
use Rattle.level_workers.proofs.TotalLemmas.{at_length, length_of_set, at_push, sum_by-at_set, le-sum_by, times-all_finds, past-all_finds}
use Rattle.level_workers.proofs.MachineLemmas.{after-push, times-draw, counted_for, IsJoined-after}
use Rattle.level_workers.proofs.RuleLemmas.{word_bound, sits, tells}

-- how often x stands in all finds after one view was changed
times-all_set : (x : ℕ) (views : List View) (seat : ℕ) (v w : View) → get_elem? views seat ≡ some v → times x (all_finds (set views seat w)) + times x v.finds ≡ times x (all_finds views) + times x w.finds
times-all_set x views seat v w at = omega (arith, times-all_finds x (set views seat w), times-all_finds x views, sum_by-at_set (λ (u : View). times x u.finds) views seat v w at)

past-all_set : (limit : ℕ) (views : List View) (seat : ℕ) (v w : View) → get_elem? views seat ≡ some v → length (past limit (all_finds (set views seat w))) + length (past limit v.finds) ≡ length (past limit (all_finds views)) + length (past limit w.finds)
past-all_set limit views seat v w at = omega (arith, past-all_finds limit (set views seat w), past-all_finds limit views, sum_by-at_set (λ (u : View). length (past limit u.finds)) views seat v w at)

-- a fact of each view after one was changed
each_set : (P : ℕ → View → Type 0) (views : List View) (seat : ℕ) (w : View) → ((j : ℕ) (u : View) → j ≢ seat → get_elem? views j ≡ some u → P j u) → P seat w → (j : ℕ) (u : View) → get_elem? (set views seat w) j ≡ some u → P j u
each_set P views seat w others mine j u e =
    ⊎_elim
    (λ (t : (j ≡ seat) × (w ≡ u)). subst (λ (y : ℕ × View). P y.0 y.1) (λ i. (sym t.0 i, t.1 i)) mine)
    (λ (t : (j ≢ seat) × (get_elem? views j ≡ some u)). others j u t.0 t.1)
    (at_set views seat j w u e)

one_past : (limit n : ℕ) → length (past limit (n ∷ [])) ≡ tell (nat_le limit n)
one_past limit n = go (nat_le limit n)
  where
    go : (b : Bool) → length (cond b (n ∷ []) []) ≡ tell b
    go true = refl
    go false = refl

-- the finds past the limit and the open parts after a draw, which is past the limit or not
late_sum : (b : Bool) (p' o' p o pv pw q ov ow k seats : ℕ) → p' + pv ≡ p + pw → o' + ov ≡ o + ow → pw ≡ pv + q → q ≡ tell b → ov ≡ k → ow ≡ cond b 0 k → p + o ≤ seats → 0 < k → p' + o' ≤ seats
late_sum true p' o' p o pv pw q ov ow k seats a b c d e f g h = omega arith
late_sum false p' o' p o pv pw q ov ow k seats a b c d e f g h = omega arith

-- a seat at the board still sits when the word has risen
sits_on : (limit seats word : ℕ) (v : View) → (v ≡ spent) ⊎ Sits limit seats word v → (v ≡ spent) ⊎ Sits limit seats (word + 1) v
sits_on limit seats word v =
    ⊎_elim (λ e. inl e) (λ (s : Sits limit seats word v). inr record { limit_is = s.limit_is; seats_is = s.seats_is; some_part = s.some_part; met_late = λ met. omega (arith, s.met_late met) })

module _ (limit seats word : ℕ) (views : List View) (stands : Stands limit seats word views) (seat : ℕ) (v : View) (at : get_elem? views seat ≡ some v) (some_part : 0 < v.parts) where
  mine : Sits limit seats word v
  mine = sits limit seats word views stands seat v at some_part

  -- a draw
  drawn_state : IsState (stands.draws ++ seat ∷ []) (word + 1) (set views seat (finding word v))
  drawn_state =
      let m = after stands.draws in
      let s = stands.state in
      let is = after-push stands.draws seat in record {
        next = ap (λ (k : Machine). k.next) is ∙ ap (λ n. n + 1) s.next;
        found = each_set (λ j u. SameNumbers u.finds ((after (stands.draws ++ seat ∷ [])).found j)) views seat (finding word v)
            (λ j u apart e x. others_found j u apart e x ∙ sym (ap (λ (k : Machine). times x (k.found j)) is))
            (λ x. own_found x ∙ sym (ap (λ (k : Machine). times x (k.found seat)) is));
        others = λ j far. ap (λ (k : Machine). k.found j) is ∙ nobody j (subst (λ k. k ≤ j) (length_of_set views seat (finding word v)) far) (j == seat) refl;
      }
    where
      others_found : (j : ℕ) (u : View) → j ≢ seat → get_elem? views j ≡ some u → (x : ℕ) → times x u.finds ≡ times x ((draw (after stands.draws) seat).found j)
      others_found j u apart e x = let t = times-draw x (after stands.draws) seat j in let f = stands.state.found j u e x in grind (arith, nat_tests)

      own_found : (x : ℕ) → times x (v.finds ++ word ∷ []) ≡ times x ((draw (after stands.draws) seat).found seat)
      own_found x =
          let t = times-draw x (after stands.draws) seat seat in
          let f = stands.state.found seat v at x in
          let p = times-push x v.finds word in
          let n = stands.state.next in
          grind (arith, nat_tests)

      nobody : (j : ℕ) → length views ≤ j → (b : Bool) → (j == seat) ≡ b → cond b ((after stands.draws).found j ++ (after stands.draws).next ∷ []) ((after stands.draws).found j) ≡ []
      nobody j far true e = let l = at_length views seat v at in absurd (grind (arith, nat_tests))
      nobody j far false e = stands.state.others j far

  drawn_late : v.met ≡ false → length (past limit (all_finds (set views seat (finding word v)))) + sum_by open_parts (set views seat (finding word v)) ≤ seats
  drawn_late new =
      late_sum (nat_le limit word) _ _ _ _ _ _ _ _ _ v.parts seats
      (past-all_set limit views seat v (finding word v) at)
      (sum_by-at_set open_parts views seat v (finding word v) at)
      (length-past-append limit v.finds (word ∷ []))
      (one_past limit word)
      (ap (λ b. cond b 0 v.parts) new)
      (ap (λ k. cond (nat_le k word) 0 v.parts) mine.limit_is)
      stands.few_late
      some_part

  drawn_all : v.met ≡ false → Stands limit seats (word + 1) (set views seat (finding word v))
  drawn_all new = record {
    draws = stands.draws ++ seat ∷ [];
    state = drawn_state;
    each_once = EachBelow-next word (all_finds views) (all_finds (set views seat (finding word v))) stands.each_once
        (λ x. more x);
    parts = omega (arith, sum_by-at_set (λ (u : View). u.parts) views seat v (finding word v) at, stands.parts);
    all_sit = each_set (λ j u. (u ≡ spent) ⊎ Sits limit seats (word + 1) u) views seat (finding word v)
        (λ j u apart e. sits_on limit seats word u (stands.all_sit j u e))
        (inr record { limit_is = mine.limit_is; seats_is = mine.seats_is; some_part = some_part; met_late = λ met. late met });
    few_late = drawn_late new;
  }
    where
      more : (x : ℕ) → times x (all_finds (set views seat (finding word v))) ≡ times x (all_finds views) + tell (word == x)
      more x = omega (arith, times-all_set x views seat v (finding word v) at, times-push x v.finds word)

      late : nat_le v.limit word ≡ true → limit ≤ word + 1
      late met = let l = mine.limit_is in grind (arith, nat_tests)

  greater : All (λ k. k < word) v.finds
  greater k d l =
      let y = get_or v.finds k d in
      let t = times-at v.finds k d l in
      let le = le-sum_by (λ (u : View). times y u.finds) views seat v at in
      let a = times-all_finds y views in
      let e = stands.each_once y in
      grind (arith, nat_tests)

-- the parts that are open after a split
open_split : (b : Bool) (k : ℕ) → 2 ≤ k → cond b 0 (k - 1) + cond b 0 1 ≡ cond b 0 k
open_split true k two = omega arith
open_split false k two = omega arith

abbrev split_views : List View → ℕ → View → List View
split_views views seat v = set views seat (less_a_part v) ++ of_one_part v ∷ []

module _ (limit seats word : ℕ) (views : List View) (stands : Stands limit seats word views) (seat : ℕ) (v : View) (at : get_elem? views seat ≡ some v) (two : 2 ≤ v.parts) where
  mine_too : Sits limit seats word v
  mine_too = sits limit seats word views stands seat v at (omega arith)

  -- a fact of each view after a split
  each_split : (P : ℕ → View → Type 0) → ((j : ℕ) (u : View) → get_elem? views j ≡ some u → P j u) → P seat (less_a_part v) → P (length views) (of_one_part v) → (j : ℕ) (u : View) → get_elem? (split_views views seat v) j ≡ some u → P j u
  each_split P others left right j u e =
      ⊎_elim
      (λ t. each_set P views seat (less_a_part v) (λ k w apart e'. others k w e') left j u t)
      (λ (t : (j ≡ length (set views seat (less_a_part v))) × (of_one_part v ≡ u)).
      subst (λ (y : ℕ × View). P y.0 y.1) (λ i. (sym (t.0 ∙ length_of_set views seat (less_a_part v)) i, t.1 i)) right)
      (at_push (set views seat (less_a_part v)) (of_one_part v) j u e)

  sum_by-split : (f : View → ℕ) → f (less_a_part v) + f (of_one_part v) ≡ f v → sum_by f (split_views views seat v) ≡ sum_by f views
  sum_by-split f same = omega (arith, sum_by_push f (set views seat (less_a_part v)) (of_one_part v), sum_by-at_set f views seat v (less_a_part v) at)

  split_state : IsState stands.draws word (split_views views seat v)
  split_state = record {
    next = stands.state.next;
    found = each_split (λ j u. SameNumbers u.finds ((after stands.draws).found j)) (λ j u e. stands.state.found j u e) (stands.state.found seat v at)
        (λ x. ap (times x) (sym (stands.state.others (length views) (omega arith))));
    others = λ j far. stands.state.others j (omega (arith, length_push (set views seat (less_a_part v)) (of_one_part v), length_of_set views seat (less_a_part v)));
  }

  split_all : Stands limit seats word (split_views views seat v)
  split_all = record {
    draws = stands.draws;
    state = split_state;
    each_once = EachBelow-same word (all_finds views) (all_finds (split_views views seat v)) stands.each_once
        (λ x. times-all_finds x (split_views views seat v) ∙ sum_by-split (λ (u : View). times x u.finds) (omega arith) ∙ sym (times-all_finds x views));
    parts = sum_by-split (λ (u : View). u.parts) (omega arith) ∙ stands.parts;
    all_sit = each_split (λ j u. (u ≡ spent) ⊎ Sits limit seats word u) stands.all_sit
        (inr record { limit_is = mine_too.limit_is; seats_is = mine_too.seats_is; some_part = omega arith; met_late = mine_too.met_late })
        (inr record { limit_is = mine_too.limit_is; seats_is = mine_too.seats_is; some_part = omega arith; met_late = mine_too.met_late });
    few_late = late (sum_by-split open_parts (open_split v.met v.parts two)) (sum_by-split (λ (u : View). length (past limit u.finds)) (omega arith));
  }
    where
      late : sum_by open_parts (split_views views seat v) ≡ sum_by open_parts views
          → sum_by (λ (u : View). length (past limit u.finds)) (split_views views seat v) ≡ sum_by (λ (u : View). length (past limit u.finds)) views
          → length (past limit (all_finds (split_views views seat v))) + sum_by open_parts (split_views views seat v) ≤ seats
      late o p = omega (arith, past-all_finds limit (split_views views seat v), past-all_finds limit views, stands.few_late)

-- the parts that are open after a join are no more than before
open_join : (a b : Bool) (j k : ℕ) → cond (a || b) 0 (j + k) ≤ cond a 0 j + cond b 0 k
open_join true b j k = omega arith
open_join false true j k = omega arith
open_join false false j k = omega arith

one_of : (a b : Bool) → (a || b) ≡ true → (a ≡ true) ⊎ (b ≡ true)
one_of true b e = inl refl
one_of false b e = inr e

abbrev join_views : List View → ℕ → View → ℕ → View → List View
join_views views seat v other w = set (set views seat (joined v w)) other spent

module _ (limit seats word : ℕ) (views : List View) (stands : Stands limit seats word views) (seat : ℕ) (v : View) (at : get_elem? views seat ≡ some v) (other : ℕ) (w : View) (at' : get_elem? views other ≡ some w)
    (apart : other ≢ seat) (some_part : 0 < v.parts) (some_part' : 0 < w.parts) where
  sits_into : Sits limit seats word v
  sits_into = sits limit seats word views stands seat v at some_part

  sits_other : Sits limit seats word w
  sits_other = sits limit seats word views stands other w at' some_part'

  still_at : get_elem? (set views seat (joined v w)) other ≡ some w
  still_at = set_else views seat other (joined v w) apart ∙ at'

  -- a fact of each view after a join
  each_join : (P : ℕ → View → Type 0) → ((j : ℕ) (u : View) → j ≢ seat → j ≢ other → get_elem? views j ≡ some u → P j u) → P seat (joined v w) → P other spent
      → (j : ℕ) (u : View) → get_elem? (join_views views seat v other w) j ≡ some u → P j u
  each_join P others into gone =
      each_set P (set views seat (joined v w)) other spent
      (λ j u far e. each_set (λ k x. k ≢ other → P k x) views seat (joined v w) (λ k x near e' far'. others k x near far' e') (λ _. into) j u e far) gone

  sum_by-join : (f : View → ℕ) → sum_by f (join_views views seat v other w) + (f v + f w) ≡ sum_by f views + (f (joined v w) + f spent)
  sum_by-join f = omega (arith, sum_by-at_set f (set views seat (joined v w)) other w spent still_at, sum_by-at_set f views seat v (joined v w) at)

  join_state : IsState (map (counted_for seat other) stands.draws) word (join_views views seat v other w)
  join_state =
      let j = IsJoined-after seat other (λ e. apart (sym e)) stands.draws in record {
        next = j.next ∙ stands.state.next;
        found = each_join (λ k u. SameNumbers u.finds ((after (map (counted_for seat other) stands.draws)).found k))
            (λ k u near far e x. stands.state.found k u e x ∙ ap (times x) (sym (j.apart_found k near far)))
            (λ x. both x (j.into_found x) (times-append x v.finds w.finds) (stands.state.found seat v at x) (stands.state.found other w at' x))
            (λ x. ap (times x) (sym j.other_found));
        others = λ k far.
            let away = beyond k far in
            j.apart_found k (λ e. absurd (omega (arith, e, at_length views seat v at))) (λ e. absurd (omega (arith, e, at_length views other w at'))) ∙ stands.state.others k away;
      }
    where
      both : (x : ℕ) {a b c d e f : ℕ} → a ≡ b + c → d ≡ e + f → e ≡ b → f ≡ c → d ≡ a
      both x p q r s = omega arith

      beyond : (k : ℕ) → length (join_views views seat v other w) ≤ k → length views ≤ k
      beyond k far = omega (arith, length_of_set (set views seat (joined v w)) other spent, length_of_set views seat (joined v w))

  join_all : Stands limit seats word (join_views views seat v other w)
  join_all = record {
    draws = map (counted_for seat other) stands.draws;
    state = join_state;
    each_once = EachBelow-same word (all_finds views) (all_finds (join_views views seat v other w)) stands.each_once (λ x. same x);
    parts = omega (arith, sum_by-join (λ (u : View). u.parts), stands.parts);
    all_sit = each_join (λ j u. (u ≡ spent) ⊎ Sits limit seats word u) (λ j u near far e. stands.all_sit j u e)
        (inr record { limit_is = sits_into.limit_is; seats_is = sits_into.seats_is; some_part = omega arith; met_late = λ met. ⊎_elim sits_into.met_late sits_other.met_late (one_of v.met w.met met) })
        (inl refl);
    few_late = late;
  }
    where
      same : (x : ℕ) → times x (all_finds (join_views views seat v other w)) ≡ times x (all_finds views)
      same x = omega (arith, times-all_finds x (join_views views seat v other w), times-all_finds x views, sum_by-join (λ (u : View). times x u.finds), times-append x v.finds w.finds)

      late : length (past limit (all_finds (join_views views seat v other w))) + sum_by open_parts (join_views views seat v other w) ≤ seats
      late = omega (
        arith,
        past-all_finds limit (join_views views seat v other w),
        past-all_finds limit views,
        sum_by-join (λ (u : View). length (past limit u.finds)),
        length-past-append limit v.finds w.finds,
        sum_by-join open_parts,
        open_join v.met w.met v.parts w.parts,
        stands.few_late,
      )

-- the steps, as the table of a board asks for them
module _ (limit seats slots id : ℕ) where
  pub draws : (me : Me (Unit {0}) View) → limit + seats + 1 < 2 ^ 64 → me.0.met ≡ false → 0 < me.0.parts
      → Allows (Keeps limit seats) slots id me 0 (λ n. (n + 1) % 2 ^ 64) (λ n after. (after.1 ≡ me.1) × Drew me.0 n after.0)
  draws me room new some_part s keep homes at fits =
      let n = slice_index s.words 0 in
      let is = keep.1 in
      let stands : Stands limit seats n s.views = subst (λ m. Stands limit seats m s.views) (sym (ap (λ ws. slice_index ws 0) is)) keep.2 in
      let bound = word_bound limit seats n s.views stands in
      let next : n + 1 ≡ (n + 1) % 2 ^ 64 = sym (mod-eq_of_lt (omega arith)) in
      let w = finding n me.0 in
      let all = drawn_all limit seats n s.views stands id me.0 at some_part new in (
        w,
        keeps,
        tt,
        ((n + 1) % 2 ^ 64, ap (λ ws. slice_set ws 0 ((n + 1) % 2 ^ 64)) is, subst (λ m. Stands limit seats m (set s.views id w)) next all),
        (
          refl,
          record {
            view = refl;
            greater = greater limit seats n s.views stands id me.0 at some_part;
            tells = tells limit seats (n + 1) (set s.views id w) all id w (set_here s.views id w (at_length s.views id me.0 at)) some_part;
          },
        ),
      )

  pub looks : (me : Me (Unit {0}) View) → 0 < me.0.parts → Allows (Keeps limit seats) slots id me 0 (λ n. n) (λ n after. (after.1 ≡ me.1) × Looked me.0 after.0)
  looks me some_part s keep homes at fits =
      let is = keep.1 in
      let same : set s.views id me.0 ≡ s.views = set_again s.views id me.0 at in (
        me.0,
        keeps,
        tt,
        (keep.0, ap (λ ws. slice_set ws 0 (slice_index ws 0)) is, subst (λ vs. Stands limit seats keep.0 vs) (sym same) keep.2),
        (refl, record { view = refl; tells = tells limit seats keep.0 s.views keep.2 id me.0 at some_part }),
      )

  pub splits : (v : View) → 2 ≤ v.parts → Splits (Keeps limit seats) id v (less_a_part v) (of_one_part v)
  splits v two s keep at = (keep.0, keep.1, split_all limit seats keep.0 s.views keep.2 id v at two)

  pub joins : (v : View) (other : ℕ) (w : View) → 0 < v.parts → 0 < w.parts → Joins (Keeps limit seats) id v other w (joined v w) spent
  joins v other w some_part some_part' s keep at apart at' =
      let there : get_elem? s.views other ≡ some w = sym (set_else s.views id other (joined v w) apart) ∙ at' in
      (keep.0, keep.1, join_all limit seats keep.0 s.views keep.2 id v at other w there apart some_part some_part')
