-- What the rule of a board says of its word and of one seat.
use Rattle.std.proofs.Common.{◌≡◌, ℕ, ◌+◌, ◌<◌, ◌≤◌, ⊎_elim, List, sym, ap, ◌∙◌, subst, arith}
use Rattle.std.specs.Prelude.{sum_by}
use mathlib.Core.Option.{some}
use lib.ListN.{get_elem?}
use Rattle.std.proofs.lemmas.Bool.Decides.{nat_tests}
use Rattle.level_workers.specs.declared.view.View.{View}
use Rattle.level_workers.specs.Numbers.{times, EachBelow, NoneTwice}
use Rattle.level_workers.specs.Views.{spent, all_finds}
use Rattle.level_workers.specs.Rule.{Sits, Stands, Tells}
use Rattle.level_workers.proofs.NumberLemmas.{tell, EachBelow-below, EachBelow-same, length-past}
use Rattle.level_workers.proofs.TotalLemmas.{le-sum_by, sum_by-alone, times-all_finds}

module _ (limit seats word : ℕ) (views : List View) (stands : Stands limit seats word views) where
  -- the word never wraps
  pub word_bound : word ≤ limit + seats
  word_bound = omega (arith, length-past limit word (all_finds views) stands.each_once, stands.few_late)

  -- a seat with some part was not joined to another
  pub sits : (seat : ℕ) (v : View) → get_elem? views seat ≡ some v → 0 < v.parts → Sits limit seats word v
  sits seat v at some_part =
      ⊎_elim (λ (e : v ≡ spent). absurd (omega (arith, ap (λ (u : View). u.parts) e))) (λ (s : Sits limit seats word v). s) (stands.all_sit seat v at)

  tells_once : (seat : ℕ) (v : View) → get_elem? views seat ≡ some v → NoneTwice v.finds
  tells_once seat v at x =
      let le = le-sum_by (λ (u : View). times x u.finds) views seat v at in
      let e = stands.each_once x in
      let t = times-all_finds x views in
      one (times x v.finds) (times x (all_finds views)) (sum_by (λ (u : View). times x u.finds) views) le e t
    where
      one : (a b c : ℕ) → a ≤ c → b ≡ tell (Rattle.std.specs.Prelude.nat_lt x word) → b ≡ c → a ≤ 1
      one a b c p q r = grind (arith, nat_tests)

  no_finds : (x seat : ℕ) (v : View) → get_elem? views seat ≡ some v → v.parts ≡ 0 → times x v.finds ≡ 0
  no_finds x seat v at none =
      ⊎_elim
      (λ (e : v ≡ spent). ap (λ (u : View). times x u.finds) e)
      (λ (s : Sits limit seats word v). absurd (omega (arith, s.some_part)))
      (stands.all_sit seat v at)

  -- what a step may tell of its seat
  pub tells : (seat : ℕ) (v : View) → get_elem? views seat ≡ some v → 0 < v.parts → Tells v
  tells seat v at some_part =
      let s = sits seat v at some_part in record {
        few = omega (arith, le-sum_by (λ (u : View). u.parts) views seat v at, stands.parts, s.seats_is);
        once = tells_once seat v at;
        all = λ whole met.
            let all_parts : sum_by (λ (u : View). u.parts) views ≡ v.parts = stands.parts ∙ sym s.seats_is ∙ sym whole in
            let each : EachBelow word v.finds = EachBelow-same word (all_finds views) v.finds stands.each_once
            (λ x. sym (times-all_finds x views ∙ sum_by-alone (λ (u : View). times x u.finds) (λ (u : View). u.parts) views seat v (λ k u at' none. no_finds x k u at' none) at all_parts)) in
            EachBelow-below word v.limit v.finds (subst (λ k. k ≤ word) (sym s.limit_is) (s.met_late met)) each;
      }
