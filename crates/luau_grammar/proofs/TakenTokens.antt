-- What is known of a token that the grammar takes, and how it is read.
use Rattle.std.proofs.Common.{◌≡◌, ℕ, suc, ◌≤◌, Bool, true, false, List, length, Ok, if◌then◌else◌, refl, ◌∙◌, ap, arith}
use Rattle.luau_lex.specs.Tokens.{Tok}
use Rattle.luau_grammar.specs.declared.symbol.Symbol.{Symbol}
use Rattle.luau_grammar.specs.declared.symbol.Symbol.TheVariants as s
use Rattle.luau_grammar.specs.Places.{Place, symbol, raised, Takes, TakesName}
use Rattle.luau_grammar.specs.Reading.{Setting, next, expect, name, raise}
use Rattle.luau_grammar.proofs.Agreement.{Bounded}
use Rattle.luau_grammar.proofs.Primitives.{takes_symbol, takes_taken, takes_bounded, name_token, next_complete, expect_complete, name_complete, raise_complete}

-- the outcome of a choice, by its test
pub yes_branch : {A : Type 0} {b : Bool} {o w : A} (r : A) → b ≡ true → o ≡ w → (if b then o else r) ≡ w
yes_branch {o = o} r e k = ap (λ z. if z then o else r) e ∙ k

pub no_branch : {A : Type 0} {b : Bool} {r w : A} (o : A) → b ≡ false → r ≡ w → (if b then o else r) ≡ w
no_branch {r = r} o e k = ap (λ z. if z then o else r) e ∙ k

-- A token of this symbol is taken.
pub record TakenAs (set : Setting) (x : Symbol) (p q : Place) : Type 0 where
  pub token : Tok
  pub within : p.level ≤ set.limit
  pub level : q.level ≡ p.level
  pub ahead : length p.ahead ≡ suc (length q.ahead)
  pub symbol : symbol p ≡ x
  pub reads : next set p ≡ Ok (token, q)
  pub expected : expect set x p ≡ Ok (token, q)

pub takes_reads : (set : Setting) (x : Symbol) (p q : Place) → Bounded set → Takes set.rules x p q → TakenAs set x p q
unfolding Takes
takes_reads set x p q bounded h =
    let taken = takes_taken set.rules p q x h in
    record {
      token = h.0;
      within = takes_bounded set p q x bounded h;
      level = taken.level;
      ahead = taken.ahead;
      symbol = takes_symbol set.rules p q x h;
      reads = (next_complete set 0 p q h.0 (omega arith) h.2).0;
      expected = (expect_complete set 0 x p q h.0 (omega arith) (h.1, h.2)).0;
    }

-- A name is taken.
pub record TakenName (set : Setting) (p q : Place) (n : List ℕ) : Type 0 where
  pub token : Tok
  pub within : p.level ≤ set.limit
  pub level : q.level ≡ p.level
  pub ahead : length p.ahead ≡ suc (length q.ahead)
  pub symbol : symbol p ≡ s.Name
  pub reads : next set p ≡ Ok (token, q)
  pub named : name set p ≡ Ok (n, q)

pub name_reads : (set : Setting) (p q : Place) (n : List ℕ) → Bounded set → TakesName set.rules p q n → TakenName set p q n
name_reads set p q n bounded h =
    let one = takes_reads set s.Name p q bounded (name_token set.rules p q n h) in
    record {
      token = one.token;
      within = one.within;
      level = one.level;
      ahead = one.ahead;
      symbol = one.symbol;
      reads = one.reads;
      named = (name_complete set 0 p q n (omega arith) h).0;
    }

pub raise_reads : (set : Setting) (p : Place) → p.level ≤ set.limit → raise set p ≡ Ok (tt, raised p)
raise_reads set p h = (raise_complete set 0 p (raised p) tt (omega arith) (h, refl)).0
