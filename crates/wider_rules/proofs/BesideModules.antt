-- The parser of a module, by two settings side by side.
use Rattle.std.proofs.Common.{ℕ, zero, suc, ◌+◌, ◌≤◌, List, refl, arith, None}
use Rattle.luau_lex.specs.Tokens.{Tok}
use Rattle.luau_grammar.specs.declared.symbol.Symbol.TheVariants as s
use Rattle.luau_grammar.specs.Places.{Place, symbol, sees}
use Rattle.luau_grammar.specs.Modules.{before}
use Rattle.luau_grammar.specs.Reading.{Setting, Parser}
use Rattle.luau_grammar.specs.ReadPhrases as phrases
use Rattle.luau_grammar.specs.ReadModules.{readers, module_with}
use Rattle.grammar_faults.specs.Fronts.{BeginFrom}
use Rattle.grammar_faults.proofs.Local.{Far}
use Rattle.grammar_faults.proofs.LocalModules.{readers_local}
use Rattle.wider_rules.proofs.Beside.{Tidy, Among, Pair, top, late, Awaits, Rel, Beside, both, choose, done}
use Rattle.wider_rules.proofs.BesideTokens.{Starts, w, tails_from, refuses}
use Rattle.wider_rules.proofs.BesideTypes as types
use Rattle.wider_rules.proofs.BesideTypes.{Held, floor_top, ceil_top}
use Rattle.wider_rules.proofs.BesideOperators.{expression_inside_beside}
use Rattle.wider_rules.proofs.BesideStatements.{block_inside_beside}
use Rattle.wider_rules.proofs.Starts.{expression_far, expression_refused, type_far, type_refused}

module _ (set : Setting) where
  exp_starts : (n : ℕ) → Starts set phrases.may_begin_expression (readers set (suc n)).exp
  unfolding readers symbol
  exp_starts n = record {
    takes = λ bound t ts l m late stands h. expression_far set (tails_from bound) t ts l m late stands (readers set n) (readers_local set (tails_from bound) n) h;
    refuses = λ p h. expression_refused set (readers set n) p h;
    none = λ l m. refl;
  }

  typ_starts : (n : ℕ) → Starts set (phrases.may_begin_type None) ((readers set (suc n)).typ None)
  unfolding readers symbol
  typ_starts n = record {
    takes = λ bound t ts l m late stands h. type_far set (tails_from bound) t ts l m late stands (readers set n) (readers_local set (tails_from bound) n) h;
    refuses = λ p h. type_refused set (readers set n) p h;
    none = λ l m. refl;
  }

module _ (f : Pair) where
  -- at a level that isn't reached
  vacuous : {A : Type 0} {lo : ℕ} {r v : Parser A} → f.low.limit + 2 ≤ lo → ((p : Place) → BeginFrom (late f) p.ahead → Far (late f) (r p)) → ((p : Place) → BeginFrom (late f) p.ahead → Far (late f) (v p))
      → Beside f lo (top f) (top f) r v
  vacuous {lo = lo} h low high = record {
    alike = λ p i. let a : lo ≤ p.level = i.low in let b : p.level ≤ top f = i.high in absurd (omega arith);
    low_far = low;
    high_far = high;
  }

  held_at : (n j lo : ℕ) → n ≤ j → f.low.limit + 2 ≤ n + lo → Held f lo (readers f.low n) (readers f.high (suc j))
  unfolding readers
  held_at zero j lo d h =
      let a = readers_local f.low (w f) 0 in
      let b = readers_local f.high (w f) (suc j) in
      let c : f.low.limit + 2 ≤ lo = omega arith in
      record {
        exp = vacuous c (λ p l. a.exp.one p l) (λ p l. b.exp.one p l);
        typ = vacuous c (λ p l. a.typ.one p l) (λ p l. b.typ.one p l);
        begun = λ k. vacuous c (λ p l. (a.begun k).one p l) (λ p l. (b.begun k).one p l);
        block = vacuous c (λ p l. a.block.one p l) (λ p l. b.block.one p l);
        exp_starts = exp_starts f.high j;
        typ_starts = typ_starts f.high j;
        low_local = a;
        high_local = b;
      }
  held_at (suc n) zero lo d h = absurd (omega arith)
  held_at (suc n) (suc j) lo d h =
      let one = readers f.low n in
      let other = readers f.high (suc j) in
      let k = held_at n j (lo + 1) (omega arith) (omega arith) in
      record {
        exp = expression_inside_beside f lo one other k;
        typ = types.type_inside_beside f lo (top f) (floor_top f) (ceil_top f) one other k;
        begun = λ l. types.type_begun_beside f lo (top f) (floor_top f) (ceil_top f) one other k l;
        block = block_inside_beside f lo one other k;
        exp_starts = exp_starts f.high (suc j);
        typ_starts = typ_starts f.high (suc j);
        low_local = readers_local f.low (w f) (suc n);
        high_local = readers_local f.high (w f) (suc (suc j));
      }

  module_beside : (n j : ℕ) → n ≤ j → f.low.limit + 2 ≤ n → Beside f 0 f.low.limit f.low.limit (module_with f.low n) (module_with f.high (suc j))
  unfolding module_with
  module_beside n j d h =
      both f (types.block_beside f 0 (readers f.low n) (readers f.high (suc j)) (held_at n j 1 d (omega arith))) (λ b. choose f (sees s.Stop) (done f b) (refuses f))

  -- the parser by both settings, over the same tokens
  pub module_rel : (n j : ℕ) → n ≤ j → f.low.limit + 2 ≤ n → (ts : List Tok) → Tidy f.at ts → Among f.all ts → Awaits f.kind f.at ts
      → Rel f 0 f.low.limit (module_with f.low n (before ts)) (module_with f.high (suc j) (before ts))
  module_rel n j d h ts o g a =
      (module_beside n j d h).alike (before ts) (record { low = (let x : 0 ≤ 0 = omega arith in x); high = (let x : 0 ≤ f.low.limit = omega arith in x); ordered = o; among = g; awaits = a })
