-- Each function, local statement and alias of the grammar is read.
use Rattle.std.proofs.Common.{◌≡◌, ℕ, suc, ◌≤◌, ◌⊎◌, Bool, true, false, List, length, Ok, inl, inr, refl, sym, ◌∙◌, ap, ap₂, subst, arith, ◌∷◌}
use Rattle.std.specs.Prelude.{Option, Some, None}
use Rattle.luau_tree.specs.declared.position.Span.{Span}
use Rattle.luau_tree.specs.Tree.{Stat, Expr, Exprs, ExprKind, Bind, Binds, Body, Gens, TypeSyntax}
use Rattle.luau_tree.specs.Tree as tree
use Rattle.luau_grammar.specs.declared.symbol.Symbol.TheVariants as s
use Rattle.luau_grammar.specs.Symbols.{same}
use Rattle.luau_grammar.specs.Places.{Place, symbol, sees, start_of, over, at_level, raised, Takes, TakesName}
use Rattle.luau_grammar.specs.Phrases.{Phrases}
use Rattle.luau_grammar.specs.Types as types
use Rattle.luau_grammar.specs.Expressions as expressions
use Rattle.luau_grammar.specs.Statements.{IsPath, IsMethodName, AreBinds, AreValues, IsReturn}
use Rattle.luau_grammar.specs.Reading.{Setting, Readers}
use Rattle.luau_grammar.specs.ReadExpressions as values
use Rattle.luau_grammar.specs.ReadStatements as code
use Rattle.luau_grammar.proofs.Agreement.{Bounded, Reached, CompletePhrases}
use Rattle.luau_grammar.proofs.Primitives.{bind_by, symbol_sees, sees_by}
use Rattle.luau_grammar.proofs.TakenTokens.{TakenName, yes_branch, no_branch, takes_reads, name_reads, raise_reads}
use Rattle.luau_grammar.proofs.CompleteLists.{separated_complete, loop_stop, loop_step, loop_done, Loops}
use Rattle.luau_grammar.proofs.CompleteStatements.{Passed, reached, several_read}
use Rattle.luau_grammar.proofs.StatementParts.{CompleteParts}

module _ (low : ℕ) (set : Setting) (bounded : Bounded set) (inner : Phrases) (given : Readers) (held : CompletePhrases low set inner given) (parts : CompleteParts low set inner given) where
  -- the loop over the names behind the first name of a path
  abbrev NameLoop : Place → Expr → Place → Place → Expr → Type 0
  NameLoop p e q r z = Loops low set (λ _ w. sees s.Dot w) (values.index set given (start_of p)) e q r z

  -- What is read of a path up to a place: the loop goes on from there.
  record PathRead (p q : Place) (e : Expr) : Type 0 where
    pub first : Expr
    pub begin : Place
    pub named : values.name_expression set given p ≡ Ok (first, begin)
    pub begun : suc (length begin.ahead) ≤ length p.ahead
    pub level : low ≤ q.level
    pub reads : (r : Place) (z : Expr) → NameLoop p e q r z → NameLoop p first begin r z

  index_reads : (p a b q : Place) (id : ℕ) (span : Span) (base : Expr) (n : List ℕ) → low ≤ a.level → Takes set.rules s.Dot a b
      → TakesName set.rules (raised b) q n → id ≡ 0 → span ≡ over p q
      → (values.index set given (start_of p) base a ≡ Ok (tree.the_expr id span (tree.Index base n), q)) × Passed low a q
  unfolding values.index
  index_reads p a b q id span base n l t h e f =
      let dot = takes_reads set s.Dot a b bounded t in
      let word = name_reads set (raised b) q n bounded h in (
        bind_by _ _ dot.expected (bind_by _ _ (raise_reads set b (let l = dot.level in let m = dot.within in omega arith))
            (bind_by _ _ word.named (ap₂ (λ i z. Ok (tree.the_expr i z (tree.Index base n), q)) (sym e) (sym f)))),
        record { level = (let m = dot.level in let o = word.level in omega arith); ahead = (let m = dot.ahead in let o = word.ahead in omega arith) },
      )

  path_read : (p q : Place) (e : Expr) → low ≤ p.level → IsPath set.rules inner p q e → PathRead p q e
  unfolding values.name_expression
  path_read p q (tree.the_expr id span (tree.NameExpr n)) l h =
      let word = name_reads set p q n bounded h.2 in
      record {
        first = tree.the_expr id span (tree.NameExpr n);
        begin = q;
        named = bind_by _ _ word.named (ap₂ (λ i z. Ok (tree.the_expr i z (tree.NameExpr n), q)) (sym h.0) (sym h.1));
        begun = (let e = word.ahead in omega arith);
        level = (let e = word.level in omega arith);
        reads = λ r z k. k;
      }
  path_read p q (tree.the_expr id span (tree.Index base n)) l h =
      let a : Place = h.2.0 in
      let below = path_read p a base l h.2.2 in
      let dot = takes_reads set s.Dot a h.2.1 bounded h.2.3 in
      let one = index_reads p a h.2.1 q id span base n below.level h.2.3 h.2.4 h.0 h.1 in
      record {
        first = below.first;
        begin = below.begin;
        named = below.named;
        begun = below.begun;
        level = one.1.level;
        reads = λ r z k. below.reads r z (loop_step low set (λ _ w. sees s.Dot w) (values.index set given (start_of p)) base _ z a q r
            (symbol_sees s.Dot a dot.symbol) (one.0, reached one.1) one.1.ahead k);
      }
  path_read p q (tree.the_expr id span kind) l h = absurd h.2

  path_reads : (p q : Place) (e : Expr) → low ≤ p.level → IsPath set.rules inner p q e → sees s.Dot q ≡ false
      → (code.path set given p ≡ Ok (e, q)) × Passed low p q
  unfolding code.path code.path_name
  path_reads p q e l h n =
      let found = path_read p q e l h in
      let rest = loop_done low set (λ _ w. sees s.Dot w) (values.index set given (start_of p)) found.first e found.begin q
      (found.reads q e (loop_stop low set _ _ e q n found.level)) in (
        bind_by _ _ found.named rest.0,
        record { level = found.level; ahead = (let f = rest.1.ahead in let g = found.begun in omega arith) },
      )

  method_name_reads : (p q : Place) (n : Option (List ℕ)) (span : Option Span) → low ≤ p.level → IsMethodName set.rules inner p q n span
      → (code.method_name set given p ≡ Ok (record { name = n; span = span }, q)) × Reached low p q
  unfolding code.method_name start_of
  method_name_reads p q None None l h = (
    no_branch _ h.0 (ap (λ z. Ok (record { name = None; span = None }, z)) (sym h.1)),
    subst (λ z. Reached low p z) (sym h.1) (record { level = l; ahead = omega arith }),
  )
  method_name_reads p q (Some n) (Some span) l h =
      let sign = takes_reads set s.Colon p h.0 bounded h.1 in
      let word = name_reads set (raised h.0) q n bounded h.2 in (
        yes_branch _ (symbol_sees s.Colon p sign.symbol)
            (bind_by _ _ sign.expected (bind_by _ _ (raise_reads set h.0 (let e = sign.level in let m = sign.within in omega arith))
            (bind_by _ _ word.named (ap (λ z. Ok (record { name = Some n; span = Some z }, q)) (sym h.3))))),
        record { level = (let e = sign.level in let f = word.level in omega arith); ahead = (let e = sign.ahead in let f = word.ahead in omega arith) },
      )
  method_name_reads p q None (Some span) l h = absurd h
  method_name_reads p q (Some n) None l h = absurd h

  pub function_reads : (p q a b c d : Place) (way : Expr) (n : Option (List ℕ)) (span : Option Span) (body : Body) → low ≤ p.level
      → a.level ≡ p.level → Takes set.rules s.Function a b → IsPath set.rules inner b c way → sees s.Dot c ≡ false
      → IsMethodName set.rules inner c d n span → expressions.IsBody set.rules inner span (at_level p.level d) q body
      → (code.function_statement set given (start_of p) a ≡ Ok (tree.the_stat (over p q) (tree.FunctionStat way n body), q)) × Passed low a q
  unfolding code.function_statement
  function_reads p q a b c d way n span body l same_level t i dot m k =
      let word = takes_reads set s.Function a b bounded t in
      let named = path_reads b c way (let e = word.level in omega arith) i dot in
      let method = method_name_reads c d n span named.1.level m in
      let rest = parts.body span (at_level p.level d) q body l k in
      let level : b.level ≡ p.level = word.level ∙ same_level in (
        bind_by _ _ word.expected (bind_by _ _ named.0 (bind_by _ _ method.0
            (bind_by _ _ (ap (λ z. values.body set given span (at_level z d)) level ∙ rest.0) refl))),
        record {
          level = rest.1.level;
          ahead = (let e = word.ahead in let f = named.1.ahead in let g = method.1.ahead in let j = rest.1.ahead in omega arith);
        },
      )

  pub local_function_reads : (p q b c d : Place) (n : List ℕ) (span : Span) (body : Body) → low ≤ b.level
      → Takes set.rules s.Function b c → TakesName set.rules c d n → span ≡ over c d → expressions.IsBody set.rules inner None d q body
      → (code.local_function set given (start_of p) b ≡ Ok (tree.the_stat (over p q) (tree.LocalFunction (tree.the_bind n span tree.no_type) body), q)) × Passed low b q
  unfolding code.local_function
  local_function_reads p q b c d n span body l t h e k =
      let word = takes_reads set s.Function b c bounded t in
      let named = name_reads set c d n bounded h in
      let rest = parts.body None d q body (let m = word.level in let o = named.level in omega arith) k in (
        bind_by _ _ word.expected (bind_by _ _ named.named (bind_by _ _ rest.0
            (ap (λ z. Ok (tree.the_stat (over p q) (tree.LocalFunction (tree.the_bind n z tree.no_type) body), q)) (sym e)))),
        record { level = rest.1.level; ahead = (let m = word.ahead in let o = named.ahead in let r = rest.1.ahead in omega arith) },
      )

  values_read : (p q : Place) (es : Exprs) → low ≤ p.level → AreValues set.rules inner p q es
      → (code.maybe_values set given p ≡ Ok (es, q)) × Reached low p q
  unfolding code.maybe_values
  values_read p q es l (inl h) =
      (no_branch _ h.0 (ap₂ (λ x z. Ok (x, z)) (sym h.2) (sym h.1)), subst (λ z. Reached low p z) (sym h.1) (record { level = l; ahead = omega arith }))
  values_read p q es l (inr h) =
      let sign = takes_reads set s.Assign p h.0 bounded h.1 in
      let all = several_read low set bounded inner given held parts h.0 q es (let m = sign.level in omega arith) h.2 in (
        yes_branch _ (symbol_sees s.Assign p sign.symbol) (bind_by _ _ sign.expected (bind_by _ _ all.2 (ap (λ z. Ok (z, q)) (sym all.1)))),
        record { level = all.3.level; ahead = (let m = sign.ahead in let n = all.3.ahead in omega arith) },
      )

  pub local_reads : (p q a b : Place) (names : Binds) (es : Exprs) → low ≤ p.level → Takes set.rules s.Local p a → sees s.Function a ≡ false
      → AreBinds set.rules inner a b names → AreValues set.rules inner b q es
      → (code.local_statement set given (start_of p) p ≡ Ok (tree.the_stat (over p q) (tree.Local names es), q)) × Passed low p q
  unfolding code.local_statement code.local_names
  local_reads p q a b names es l t n h k =
      let word = takes_reads set s.Local p a bounded t in
      let all = separated_complete low set (expressions.IsBind set.rules inner) (values.bind set given) parts.bind a b (h.0 ∷ h.1) (let e = word.level in omega arith) h.2 in
      let more = values_read b q es all.1.level k in (
        bind_by _ _ word.expected (no_branch _ n (bind_by _ _ all.0 (bind_by _ _ more.0 (ap (λ z. Ok (tree.the_stat (over p q) (tree.Local z es), q)) (sym h.3))))),
        record { level = more.1.level; ahead = (let e = word.ahead in let f = all.1.ahead in let g = more.1.ahead in omega arith) },
      )

  no_function : (a b : Place) (n : List ℕ) → TakenName set a b n → sees s.Function a ≡ false
  unfolding same
  no_function a b n h = sees_by s.Function a h.symbol refl

  pub alias_reads : (p q x a b c d : Place) (exported : Bool) (w n : List ℕ) (gs : Gens) (ty : TypeSyntax) → low ≤ x.level
      → TakesName set.rules x a w → TakesName set.rules a b n → types.AreGenerics set.rules inner true b c gs → Takes set.rules s.Assign c d
      → inner.typ None d q ty
      → (code.type_statement set given (start_of p) exported x ≡ Ok (tree.the_stat (over p q) (tree.TypeAlias exported n gs ty), q)) × Passed low x q
  unfolding code.type_statement code.alias
  alias_reads p q x a b c d exported w n gs ty l hw hn hg t ht =
      let word = name_reads set x a w bounded hw in
      let named = name_reads set a b n bounded hn in
      let generics = parts.generics true b c gs (let e = word.level in let f = named.level in omega arith) hg in
      let sign = takes_reads set s.Assign c d bounded t in
      let type = held.typ d q ty (let e = generics.1.level in let f = sign.level in omega arith) ht in (
        bind_by _ _ word.reads (no_branch _ (no_function a b n named) (bind_by _ _ named.named (bind_by _ _ generics.0 (bind_by _ _ sign.expected (bind_by _ _ type.0 refl))))),
        record {
          level = type.1.level;
          ahead = (let e = word.ahead in let f = named.ahead in let g = generics.1.ahead in let h = sign.ahead in let i = type.1.ahead in omega arith);
        },
      )

  pub type_function_reads : (p q x a b c : Place) (exported : Bool) (w n : List ℕ) (body : Body) → low ≤ x.level
      → TakesName set.rules x a w → Takes set.rules s.Function a b → TakesName set.rules b c n → expressions.IsBody set.rules inner None c q body
      → (code.type_statement set given (start_of p) exported x ≡ Ok (tree.the_stat (over p q) (tree.TypeFunction exported n body), q)) × Passed low x q
  unfolding code.type_statement code.type_function
  type_function_reads p q x a b c exported w n body l hw t hn hb =
      let word = name_reads set x a w bounded hw in
      let function = takes_reads set s.Function a b bounded t in
      let named = name_reads set b c n bounded hn in
      let rest = parts.body None c q body (let e = word.level in let f = function.level in let g = named.level in omega arith) hb in (
        bind_by _ _ word.reads (yes_branch _ (symbol_sees s.Function a function.symbol) (bind_by _ _ function.expected (bind_by _ _ named.named (bind_by _ _ rest.0 refl)))),
        record {
          level = rest.1.level;
          ahead = (let e = word.ahead in let f = function.ahead in let g = named.ahead in let h = rest.1.ahead in omega arith);
        },
      )

  returned_read : (a q : Place) (es : Exprs) → low ≤ a.level
      → ((expressions.begins (symbol a) ≡ false) × (q ≡ a) × (es ≡ tree.no_exprs)) ⊎ ((expressions.begins (symbol a) ≡ true) × expressions.AreExpressions set.rules inner a q es)
      → (code.maybe_expressions set given a ≡ Ok (es, q)) × Reached low a q
  unfolding code.maybe_expressions
  returned_read a q es l (inl h) =
      (no_branch _ h.0 (ap₂ (λ x z. Ok (x, z)) (sym h.2) (sym h.1)), subst (λ z. Reached low a z) (sym h.1) (record { level = l; ahead = omega arith }))
  returned_read a q es l (inr h) =
      let all = several_read low set bounded inner given held parts a q es l h.1 in
      (yes_branch _ h.0 (bind_by _ _ all.2 (ap (λ z. Ok (z, q)) (sym all.1))), all.3)

  pub return_reads : (p q : Place) (es : Exprs) → low ≤ p.level → IsReturn set.rules inner p q es
      → (code.return_statement set given (start_of p) p ≡ Ok (tree.the_stat (over p q) (tree.Return es), q)) × Passed low p q
  unfolding code.return_statement
  return_reads p q es l h =
      let word = takes_reads set s.Return p h.0 bounded h.1 in
      let all = returned_read h.0 q es (let e = word.level in omega arith) h.2 in (
        bind_by _ _ word.expected (bind_by _ _ all.0 refl),
        record { level = all.1.level; ahead = (let e = word.ahead in let f = all.1.ahead in omega arith) },
      )
