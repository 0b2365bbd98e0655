-- Levels of single tokens, and depths along lists.
use Rattle.std.proofs.Common.{◌≡◌, ℕ, suc, ◌≤◌, List, [], ◌∷◌, inl, inr, ap, ◌∙◌, arith}
use Rattle.luau_lex.specs.Tokens.{Tok}
use Rattle.luau_grammar.specs.declared.symbol.Symbol.{Symbol}
use Rattle.luau_grammar.specs.declared.symbol.Symbol.TheVariants as s
use Rattle.luau_grammar.specs.Places.{Place, Rules, IsNext, Takes, TakesName, TakesNumber, TakesString, OpensArguments}
use Rattle.luau_grammar.specs.Lists.{AreSeparated, AreInBraces, TakesSeparator}
use Rattle.luau_grammar.specs.Laws.{StandUpTo}

pub none : (n : ℕ) → 0 ≤ n
none n = omega arith

pub up : {n m : ℕ} → n ≤ m → suc n ≤ suc m
up l = omega (arith, l)

pub more : {n m : ℕ} → n ≤ m → n ≤ suc m
more l = omega (arith, l)

pub wider : {n m k : ℕ} → n ≤ m → m ≤ k → n ≤ k
wider l k = omega (arith, l, k)

pub kept : {low n m : ℕ} → low ≤ n → m ≡ n → low ≤ m
kept l e = omega (arith, l, e)

-- Between two places of one level stands something that is at most so deep.
abbrev pub Deep : Place → Place → ℕ → ℕ → Type 0
Deep p q depth most = (q.level ≡ p.level) × (depth ≤ most)

pub here : (p q : Place) → q ≡ p → q.level ≡ p.level
here p q e = ap (λ (z : Place). z.level) e

module _ (rules : Rules) (limit : ℕ) (bounded : StandUpTo rules limit) where
  -- a token keeps the level, which is at most the limit
  pub record Stands (p q : Place) : Type 0 where
    pub same : q.level ≡ p.level
    pub within : p.level ≤ limit

  next : (p q : Place) (t : Tok) → IsNext rules p q t → Stands p q
  next p q t h = record { same = ap (λ (z : Place). z.level) h.3; within = bounded t p.level h.2 }

  pub token : (x : Symbol) (p q : Place) → Takes rules x p q → Stands p q
  unfolding Takes
  token x p q h = next p q h.0 h.2

  pub name : (p q : Place) (n : List ℕ) → TakesName rules p q n → Stands p q
  unfolding TakesName
  name p q n h = next p q h.0 h.3

  pub number : (p q : Place) (n : List ℕ) → TakesNumber rules p q n → Stands p q
  unfolding TakesNumber
  number p q n h = next p q h.0 h.3

  pub string : (x : Symbol) (p q : Place) (n : List ℕ) → TakesString rules x p q n → Stands p q
  unfolding TakesString
  string x p q n h = next p q h.0 h.3

  pub opening : (p q : Place) → OpensArguments rules p q → Stands p q
  unfolding OpensArguments
  opening p q h = next p q h.0 h.3

  separator : (p q : Place) → TakesSeparator rules p q → q.level ≡ p.level
  separator p q (inl h) = (token s.Comma p q h).same
  separator p q (inr h) = (token s.Semicolon p q h).same

  -- lists, of which each element is at most so deep
  module _ {A : Type 0} (all : List A → ℕ) (one : A → ℕ) (low most : ℕ) (nil : all [] ≤ most)
      (cons : (x : A) (xs : List A) → one x ≤ most → all xs ≤ most → all (x ∷ xs) ≤ most) (Is : Place → Place → A → Type 0)
      (held : (p q : Place) (x : A) → low ≤ p.level → Is p q x → Deep p q (one x) most) where
    pub separated : (xs : List A) (p q : Place) (x : A) → low ≤ p.level → AreSeparated rules Is p q x xs → Deep p q (all (x ∷ xs)) most
    separated [] p q x l h = let d = held p q x l h.0 in (d.0, cons x [] d.1 nil)
    separated (y ∷ ys) p q x l h =
        let d = held p h.0 x l h.2 in
        let t = token s.Comma h.0 h.1 h.3 in
        let rest = separated ys h.1 q y (kept l (t.same ∙ d.0)) h.4 in
        (rest.0 ∙ t.same ∙ d.0, cons x (y ∷ ys) d.1 rest.1)

    pub in_braces : (xs : List A) (p q : Place) (x : A) → low ≤ p.level → AreInBraces rules Is p q x xs → Deep p q (all (x ∷ xs)) most
    in_braces [] p q x l (a, h, inl e) = let d = held p a x l h in (here a q e.1 ∙ d.0, cons x [] d.1 nil)
    in_braces [] p q x l (a, h, inr t) = let d = held p a x l h in (separator a q t.0 ∙ d.0, cons x [] d.1 nil)
    in_braces (y ∷ ys) p q x l h =
        let d = held p h.0 x l h.2 in
        let t = separator h.0 h.1 h.3 in
        let rest = in_braces ys h.1 q y (kept l (t ∙ d.0)) h.5 in
        (rest.0 ∙ t ∙ d.0, cons x (y ∷ ys) d.1 rest.1)
