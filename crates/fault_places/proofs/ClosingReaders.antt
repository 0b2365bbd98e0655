-- The parsers of phrases that hold one another, and of a module, up to a refused token.
use Rattle.std.proofs.Common.{◌≡◌, ℕ, zero, suc, ◌≤◌, Bool, true, false, not, ◌&&◌, List, [], ◌∷◌, ◌++◌, length, refl, sym, ◌∙◌, ap, subst, inl, inr, arith, if◌then◌else◌, Some, None}
use Rattle.std.specs.Prelude.{Ok, Err}
use denote.Enum.Bare.{same_true}
use Rattle.luau_lex.specs.Tokens.{Tok}
use Rattle.luau_tree.specs.Tree.{Block}
use Rattle.luau_tree.specs.Tree as tree
use Rattle.luau_tree.specs.View.{stats}
use Rattle.luau_grammar.specs.contracts.symbol.Symbol.{the_type}
use Rattle.luau_grammar.specs.declared.error.ParseError.{ParseError}
use Rattle.luau_grammar.specs.declared.symbol.Symbol.{Symbol}
use Rattle.luau_grammar.specs.declared.symbol.Symbol.TheVariants as s
use Rattle.luau_grammar.specs.Symbols.{same, symbol_of}
use Rattle.luau_grammar.specs.Places.{Place, symbol, sees}
use Rattle.luau_grammar.specs.Statements.{begins}
use Rattle.luau_grammar.specs.Modules.{before}
use Rattle.luau_grammar.specs.Reading as read
use Rattle.luau_grammar.specs.Reading.{Parser, Outcome, Readers, ◌>>=◌, and_then, pure}
use Rattle.luau_grammar.specs.ReadPhrases as phrases
use Rattle.luau_grammar.specs.ReadTypes.{type_inside}
use Rattle.luau_grammar.specs.ReadExpressions.{expression_inside}
use Rattle.luau_grammar.specs.ReadStatements as code
use Rattle.luau_grammar.specs.ReadStatements.{Statements, block_inside}
use Rattle.luau_grammar.specs.ReadModules.{too_deep, readers, module_with}
use Rattle.luau_grammar.proofs.OperatorSteps.{steps_end}
use Rattle.grammar_faults.specs.Fronts.{BeginFrom}
use Rattle.grammar_faults.proofs.LocalModules.{readers_local}
use Rattle.fault_places.proofs.Closing.{Frame, place, Before, top, peak, Opens, Claim, Goes, fault}
use Rattle.fault_places.proofs.ClosingTokens.{any, never, choose_goes, this_opens, refuses, refuses_deep_with, claim_if, idle_if, far_if, value_opens}
use Rattle.fault_places.proofs.ClosingSteps.{Reads, idle}
use Rattle.fault_places.proofs.ClosingWords.{EndsType, EndsValue}
use Rattle.fault_places.proofs.ClosingSymbols.{given, peek_sees, sees_first}
use Rattle.fault_places.proofs.ClosingLists.{Held, EndsBlock, some_tails, block_reads}
use Rattle.fault_places.proofs.ClosingForms.{only_type, type_goes, begun_type_goes}
use Rattle.fault_places.proofs.ClosingTables.{table_or_array_goes}
use Rattle.fault_places.proofs.ClosingOperators.{only_expression, expression_goes}
use Rattle.fault_places.proofs.ClosingBlocks.{block_goes, block_stop}
use Rattle.fault_places.proofs.ClosingChoices.{opens_link, loop_opens}

abbrev no_statements : Statements
no_statements = record { found = []; ended = false }

same_error : (o : Outcome Block) (d e : ParseError) → o ≡ Err d → o ≡ Err e → d ≡ e
same_error o d e h k = cc

abbrev goes_on : Statements → Place → Bool
goes_on given p = not given.ended && begins (symbol p)

module _ (f : Frame) (high : Readers) where
  only_block : Opens f (peak f) EndsBlock any (λ zs. zs) tt (block_inside f.high high)
  unfolding block_inside symbol
  only_block =
      opens_link f {F = EndsBlock} (peak f) (loop_opens f (peak f) any goes_on (code.another_statement f.high high) no_statements (λ zs l m z. z.statement))
      (λ x. value_opens f (peak f) EndsBlock any (λ p. stats x.found) tt (λ p. refl)) (λ _ z. z)

  block_end : (u : Tok) (us : List Tok) (l m : ℕ) → begins (symbol_of u) ≡ false → block_inside f.high high (place (u ∷ us) l m) ≡ Ok (stats [], place (u ∷ us) l m)
  unfolding block_inside symbol
  block_end u us l m h =
      ap (λ (o : Outcome Statements). and_then o (λ all. pure (stats all.found)))
      (steps_end f.high goes_on (code.another_statement f.high high) (length (u ∷ us)) (place (u ∷ us) l m) no_statements h)

  flat_block : Goes f EndsBlock any (λ z. z ≡ tt) (too_deep f.low).block (block_inside f.high high)
  unfolding too_deep symbol
  flat_block =
      let deep : Goes f EndsBlock any (λ z. z ≡ tt) (λ p. Err (read.deep_refusal f.low p)) (block_inside f.high high) = refuses_deep_with f EndsBlock any (λ z. z ≡ tt) (block_inside f.high high) in
      record {
        idle = λ l m.
            let q = place f.cut l m in
            idle_if f any (λ z. z ≡ tt) (phrases.may_begin_block q) (Err (read.deep_refusal f.low q)) (Ok (tree.no_stats, q)) tt (inr (refl, refl));
        inside = λ u us l m b a.
            let q = place (u ∷ (us ++ f.cut)) l m in
            claim_if f EndsBlock any (block_inside f.high high) (u ∷ us) l m (phrases.may_begin_block q) (Err (read.deep_refusal f.low q)) (Ok (tree.no_stats, q))
            (λ _. deep.inside u us l m b a)
            (λ e. inr (inl (record { token = u; rest = us; ahead = refl; before = a; level = b; value = stats []; same = refl; reads = λ new. block_end u (us ++ new) l m e })));
        far = λ p b. far_if f (phrases.may_begin_block p) (Err (read.deep_refusal f.low p)) (Ok (tree.no_stats, p)) (deep.far p b) b;
      }

module _ (f : Frame) where
  flat_held : Held f (readers f.low 0) (readers f.high 1)
  unfolding readers too_deep
  flat_held =
      let inner = readers f.high 0 in
      let fine : peak f ≤ peak f = omega arith in
      record {
        exp = refuses_deep_with f EndsValue any never (expression_inside f.high inner);
        exp_opens = λ u e. only_expression f inner (readers_local f.high some_tails 0) (peak f) fine u e;
        typ = refuses_deep_with f EndsType any never (type_inside f.high inner None);
        typ_opens = λ u e. only_type f inner (peak f) fine u e;
        begun = λ l k e. refuses_deep_with f EndsType any (λ z. z ≡ tt) (type_inside f.high inner (Some k));
        block = flat_block f inner;
        block_opens = only_block f inner;
      }

  pub held_at : (n : ℕ) → Held f (readers f.low n) (readers f.high (suc n))
  unfolding readers
  held_at zero = flat_held
  held_at (suc n) =
      let one = readers f.low n in
      let other = readers f.high (suc n) in
      let h = held_at n in
      let local = readers_local f.low some_tails n in
      let others = readers_local f.high some_tails (suc n) in
      let fine : peak f ≤ peak f = omega arith in
      let tables = table_or_array_goes f one other h local in
      record {
        exp = expression_goes f one other h local others;
        exp_opens = λ u e. only_expression f other others (peak f) fine u e;
        typ = type_goes f one other h local tables;
        typ_opens = λ u e. only_type f other (peak f) fine u e;
        begun = begun_type_goes f one other h local tables;
        block = block_goes f one other h local others;
        block_opens = only_block f other;
      }

  -- ---- modules

  abbrev AtEnd : Symbol → Type 0
  AtEnd x = same x s.Stop ≡ true

  at_end : (x : Symbol) → AtEnd x → EndsBlock x
  unfolding same
  at_end x h = subst EndsBlock (sym (same_true the_type tt x s.Stop h)) block_stop

  ending_reads : (x y : Block) → Reads f AtEnd any (λ zs. zs) tt (λ z. z ≡ tt) (λ p. if sees s.Stop p then pure x p else read.refuse f.low p) (λ p. if sees s.Stop p then pure y p else read.refuse f.high p)
  ending_reads x y = record {
    goes = choose_goes f (sees s.Stop) (peek_sees s.Stop) (given f AtEnd x y).goes (refuses f AtEnd any (λ z. z ≡ tt));
    opens = this_opens f {close = λ zs. zs} (sees s.Stop) (read.refuse f.high) (λ zs l m h. sees_first s.Stop zs l m ∙ h) (given f AtEnd y y).opens;
    late = λ _ _ b. b;
  }

  module_goes : (n : ℕ) → Goes f AtEnd any (λ z. z ≡ tt) (module_with f.low n) (module_with f.high (suc n))
  unfolding module_with
  module_goes n = (idle f (block_reads f (readers f.low n) (readers f.high (suc n)) (held_at n)) ending_reads at_end).goes

  -- what was read before a refused token, and then tokens that close it
  pub record Completed (n : ℕ) (u : Tok) (us : List Tok) : Type 0 where
    pub rest : List Tok
    pub late : BeginFrom f.at rest
    pub block : Block
    pub last : Place
    pub reads : module_with f.high (suc n) (before (u ∷ (us ++ rest))) ≡ Ok (block, last)

  completed_by : (n : ℕ) (u : Tok) (us : List Tok) (o : Outcome Block) → o ≡ Err (fault f) → Claim f AtEnd any (module_with f.high (suc n)) (u ∷ us) 0 0 o → Completed n u us
  unfolding same
  completed_by n u us (Ok x) e c = absurd (cc)
  completed_by n u us (Err d) e c =
      let closed = c (same_error (Err d) d (fault f) refl e) in
      let end = closed.ends [] refl in
      record { rest = closed.close []; late = closed.late [] refl tt; block = end.value; last = place [] end.last end.level; reads = end.reads }

  pub completed : (n : ℕ) (u : Tok) (us : List Tok) → Before f (u ∷ us) → module_with f.low n (before (u ∷ (us ++ f.cut))) ≡ Err (fault f) → Completed n u us
  completed n u us a e =
      completed_by n u us (module_with f.low n (before (u ∷ (us ++ f.cut)))) e ((module_goes n).inside u us 0 0 (let x : 0 ≤ top f = omega arith in x) a)
