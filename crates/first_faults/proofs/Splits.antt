-- Tokens in order, taken apart at one of them.
use Rattle.std.proofs.Common.{◌≡◌, ℕ, ◌+◌, ◌≤◌, ◌<◌, List, [], ◌∷◌, ◌++◌, refl, ap, subst, inl, inr, arith}
use Rattle.luau_lex.specs.Tokens.{Tok}
use Rattle.grammar_faults.specs.Fronts.{BeginFrom}
use Rattle.fault_places.specs.Faults.{BeginBefore}
use Rattle.fault_places.proofs.Closing.{BeforeOf}
use Rattle.wider_rules.specs.Order.{Has, Ordered}

pub has_behind : (at b : ℕ) (ts : List Tok) → Has at ts → BeginFrom b ts → b ≤ at
has_behind at b [] h k = absurd h
has_behind at b (t ∷ ts) (inl e) k = omega arith
has_behind at b (t ∷ ts) (inr h) k = has_behind at b ts h k.1

-- where a token begins among others in order
pub record Split (at : ℕ) (ts : List Tok) : Type 0 where
  pub front : List Tok
  pub token : Tok
  pub behind : List Tok
  pub whole : ts ≡ front ++ token ∷ behind
  pub start : token.span.start ≡ at
  pub early : BeginBefore at front
  pub late : BeginFrom (at + 1) behind

pub split : (at : ℕ) (ts : List Tok) → Ordered ts → Has at ts → Split at ts
split at [] o h = absurd h
split at (t ∷ ts) o (inl e) = record { front = []; token = t; behind = ts; whole = refl; start = e; early = tt; late = subst (λ z. BeginFrom (z + 1) ts) e o.0 }
split at (t ∷ ts) o (inr h) =
    let k = split at ts o.1 h in
    let c : t.span.start + 1 ≤ at = has_behind at (t.span.start + 1) ts h o.0 in
    record { front = t ∷ k.front; token = k.token; behind = k.behind; whole = ap (λ z. t ∷ z) k.whole; start = k.start; early = ((let x : t.span.start < at = omega arith in x), k.early); late = k.late }

from_in : (b : ℕ) (front : List Tok) (t : Tok) (behind : List Tok) → BeginFrom b (front ++ t ∷ behind) → b ≤ t.span.start
from_in b [] t behind h = h.0
from_in b (v ∷ vs) t behind h = from_in b vs t behind h.1

pub ordered_behind : (front : List Tok) (t : Tok) (behind : List Tok) → Ordered (front ++ t ∷ behind) → Ordered behind
ordered_behind [] t behind o = o.1
ordered_behind (v ∷ vs) t behind o = ordered_behind vs t behind o.1

pub late_behind : (front : List Tok) (t : Tok) (behind : List Tok) → Ordered (front ++ t ∷ behind) → BeginFrom (t.span.start + 1) behind
late_behind [] t behind o = o.0
late_behind (v ∷ vs) t behind o = late_behind vs t behind o.1

pub early_before : (front : List Tok) (t : Tok) (behind : List Tok) → Ordered (front ++ t ∷ behind) → BeginBefore t.span.start front
early_before [] t behind o = tt
early_before (v ∷ vs) t behind o =
    let c : v.span.start + 1 ≤ t.span.start = from_in (v.span.start + 1) vs t behind o.0 in
    ((let x : v.span.start < t.span.start = omega arith in x), early_before vs t behind o.1)

pub has_late : (at : ℕ) (front : List Tok) (t : Tok) (behind : List Tok) → Ordered (front ++ t ∷ behind) → t.span.start + 1 ≤ at → Has at (front ++ t ∷ behind) → Has at behind
has_late at [] t behind o c (inl e) = absurd (omega arith)
has_late at [] t behind o c (inr h) = h
has_late at (v ∷ vs) t behind o c (inl e) = let d : v.span.start + 1 ≤ t.span.start = from_in (v.span.start + 1) vs t behind o.0 in absurd (omega arith)
has_late at (v ∷ vs) t behind o c (inr h) = has_late at vs t behind o.1 c h

pub begin_append : (b : ℕ) (us vs : List Tok) → BeginFrom b us → BeginFrom b vs → BeginFrom b (us ++ vs)
begin_append b [] vs h k = k
begin_append b (u ∷ us) vs h k = (h.0, begin_append b us vs h.1 k)

pub begin_front : (b : ℕ) (us vs : List Tok) → BeginFrom b (us ++ vs) → BeginFrom b us
begin_front b [] vs h = tt
begin_front b (u ∷ us) vs h = (h.0, begin_front b us vs h.1)

-- the tokens before one that begins behind another
before_less : (a b : ℕ) (us : List Tok) → a ≤ b → BeginBefore a us → BeginBefore b us
before_less a b [] c h = tt
before_less a b (u ∷ us) c h = ((let x : u.span.start < b = omega arith in x), before_less a b us c h.1)

pub before_append : (at : ℕ) (front : List Tok) (t : Tok) (mid : List Tok) → t.span.start < at → BeginBefore t.span.start front → BeginBefore at mid → BeginBefore at (front ++ t ∷ mid)
before_append at [] t mid c h k = (c, k)
before_append at (v ∷ vs) t mid c h k = ((let x : v.span.start < at = omega arith in x), before_append at vs t mid c h.1 k)

pub before_cut : (v : Tok) (tail us : List Tok) → BeginBefore v.span.start us → BeforeOf (v ∷ tail) us
before_cut v tail [] h = tt
before_cut v tail (u ∷ us) h = ((λ e. absurd (omega arith)), before_cut v tail us h.1)

pub before_end : (us : List Tok) → BeforeOf [] us
before_end [] = tt
before_end (u ∷ us) = (tt, before_end us)
