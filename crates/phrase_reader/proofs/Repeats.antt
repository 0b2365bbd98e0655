-- Loops against `repeats`: what one turn of a loop does to the whole that it reads.
use Rattle.std.proofs.Common.{◌≡◌, ◌≢◌, ℕ, zero, suc, ◌-◌, Bool, true, false, refl, sym, ◌∙◌, ap, arith}
use Rattle.std.specs.Prelude.{Ok, Err, Result}
use Rattle.luau_grammar.specs.declared.error.ParseError.{ParseError}
use Rattle.luau_grammar.specs.Places.{Place}
use Rattle.luau_grammar.specs.Reading.{Setting, Parser, Outcome, and_then, pure, refusal, repeats}

-- What is left to read, and then what comes behind the loop, gives the whole.
pub record Remains (S R : Type 0) (set : Setting) (goes : S → Place → Bool) (step : S → Parser S) (behind : S → Parser R)
    (turns : ℕ) (x : S) (p : Place) (whole : Outcome R) : Type 0 where
  pub reads : and_then (repeats set goes step turns x p) behind ≡ whole

repeats_stop : (set : Setting) {S : Type 0} (goes : S → Place → Bool) (step : S → Parser S) (turns : ℕ) (x : S) (p : Place)
    → goes x p ≡ false → repeats set goes step turns x p ≡ Ok (x, p)
unfolding repeats
repeats_stop set goes step zero x p h = rw h refl
repeats_stop set goes step (suc turns) x p h = rw h refl

repeats_refuse : (set : Setting) {S : Type 0} (goes : S → Place → Bool) (step : S → Parser S) (turns : ℕ) (x : S) (p : Place)
    → goes x p ≡ true → turns ≡ 0 → repeats set goes step turns x p ≡ Err (refusal set p)
unfolding repeats
repeats_refuse set goes step zero x p h z = rw h refl
repeats_refuse set goes step (suc turns) x p h z = absurd (omega arith)

repeats_step : (set : Setting) {S : Type 0} (goes : S → Place → Bool) (step : S → Parser S) (turns m : ℕ) (x : S) (p : Place)
    → goes x p ≡ true → turns ≡ suc m → repeats set goes step turns x p ≡ and_then (step x p) (repeats set goes step m)
unfolding repeats
repeats_step set goes step turns m x p h e = rw e (rw h refl)

and_then_pure : {A : Type 0} (r : Outcome A) → and_then r (λ x. pure x) ≡ r
and_then_pure (Ok x) = refl
and_then_pure (Err e) = refl

pub begins : (S : Type 0) (set : Setting) (goes : S → Place → Bool) (step : S → Parser S) (turns : ℕ) (x : S) (p : Place) (whole : Outcome S)
    → repeats set goes step turns x p ≡ whole → Remains S S set goes step (λ x. pure x) turns x p whole
begins S set goes step turns x p whole e = record { reads = and_then_pure (repeats set goes step turns x p) ∙ e }

-- the loop's test fails: the whole is what was read
pub stops : {S R : Type 0} {set : Setting} {goes : S → Place → Bool} {step : S → Parser S} {behind : S → Parser R} {turns : ℕ} {x : S} {p : Place} {whole : Outcome R}
    → Remains S R set goes step behind turns x p whole → goes x p ≡ false → whole ≡ behind x p
stops {S} {R} {set} {goes} {step} {behind} {turns} {x} {p} inv h = sym (inv.reads) ∙ ap (λ r. and_then r behind) (repeats_stop set goes step turns x p h)

-- no turn is left
pub refuses : {S R : Type 0} {set : Setting} {goes : S → Place → Bool} {step : S → Parser S} {behind : S → Parser R} {turns : ℕ} {x : S} {p : Place} {whole : Outcome R}
    → Remains S R set goes step behind turns x p whole → goes x p ≡ true → turns ≡ 0 → whole ≡ Err (refusal set p)
refuses {S} {R} {set} {goes} {step} {behind} {turns} {x} {p} inv h z = sym (inv.reads) ∙ ap (λ r. and_then r behind) (repeats_refuse set goes step turns x p h z)

one_step : {S R : Type 0} (set : Setting) (goes : S → Place → Bool) (step : S → Parser S) (behind : S → Parser R) (turns : ℕ) (x : S) (p : Place)
    → goes x p ≡ true → turns ≢ 0 → (r : Outcome S) → step x p ≡ r
    → and_then (repeats set goes step turns x p) behind ≡ and_then (and_then r (repeats set goes step (turns - 1))) behind
one_step set goes step behind turns x p h n r e =
    ap (λ z. and_then z behind) (repeats_step set goes step turns (turns - 1) x p h (omega arith))
    ∙ ap (λ z. and_then (and_then z (repeats set goes step (turns - 1))) behind) e

-- a turn reads a step
pub goes_on : {S R : Type 0} {set : Setting} {goes : S → Place → Bool} {step : S → Parser S} {behind : S → Parser R} {turns : ℕ} {x y : S} {p q : Place} {whole : Outcome R}
    → Remains S R set goes step behind turns x p whole → goes x p ≡ true → turns ≢ 0 → step x p ≡ Ok (y, q)
    → Remains S R set goes step behind (turns - 1) y q whole
goes_on {S} {R} {set} {goes} {step} {behind} {turns} {x} {y} {p} {q} inv h n e =
    record { reads = sym (one_step set goes step behind turns x p h n (Ok (y, q)) e) ∙ inv.reads }

-- a step fails
pub fails : {S R : Type 0} {set : Setting} {goes : S → Place → Bool} {step : S → Parser S} {behind : S → Parser R} {turns : ℕ} {x : S} {p : Place} {whole : Outcome R} {e : ParseError}
    → Remains S R set goes step behind turns x p whole → goes x p ≡ true → turns ≢ 0 → step x p ≡ Err e → whole ≡ Err e
fails {S} {R} {set} {goes} {step} {behind} {turns} {x} {p} {whole} {e} inv h n is =
    sym (inv.reads) ∙ one_step set goes step behind turns x p h n (Err e) is
