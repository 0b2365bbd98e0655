-- Each statement of the grammar is read: assignments, calls, blocks, loops.
use Rattle.std.proofs.Common.{◌≡◌, ℕ, suc, ◌≤◌, true, false, List, [], ◌∷◌, ◌++◌, length, Ok, refl, sym, ◌∙◌, ap, ap₂, subst, append_assoc, arith}
use Rattle.std.specs.Prelude.{Some, None}
use Rattle.luau_tree.specs.declared.names.BinOp.{BinOp}
use Rattle.luau_tree.specs.Tree.{Block, Stat, Expr, Exprs, MaybeExpr, MaybeBlock, Arms, Bind, Binds}
use Rattle.luau_tree.specs.Tree as tree
use Rattle.luau_tree.specs.View.{exprs, arms}
use Rattle.luau_grammar.specs.declared.symbol.Symbol.{Symbol}
use Rattle.luau_grammar.specs.declared.symbol.Symbol.TheVariants as s
use Rattle.luau_grammar.specs.Symbols.{same}
use Rattle.luau_grammar.specs.Places.{Place, symbol, sees, start_of, over, Takes}
use Rattle.luau_grammar.specs.Operators.{compound_of}
use Rattle.luau_grammar.specs.Phrases.{Phrases}
use Rattle.luau_grammar.specs.Expressions as expressions
use Rattle.luau_grammar.specs.Statements.{is_variable, is_call, IsOwnPrefix, IsVariable, IsAssign, AreArms, IsElse, IsIf, IsDo, IsStep, IsNumericFor, IsGenericFor}
use Rattle.luau_grammar.specs.Reading.{Setting, Readers, separated_from}
use Rattle.luau_grammar.specs.ReadExpressions as values
use Rattle.luau_grammar.specs.ReadStatements as code
use Rattle.luau_grammar.proofs.Agreement.{Bounded, Reached, Complete, CompletePhrases}
use Rattle.luau_grammar.proofs.Primitives.{bind_by, symbol_sees, sees_by, gives_same}
use Rattle.luau_grammar.proofs.SoundLists.{AreMore, separated_split}
use Rattle.luau_grammar.proofs.TakenTokens.{yes_branch, no_branch, takes_reads}
use Rattle.luau_grammar.proofs.CompleteLists.{separated_from_complete, loop_stop, loop_step, loop_done, Loops}
use Rattle.luau_grammar.proofs.StatementParts.{CompleteParts}

-- A place behind another, at this level or deeper, with a token between them.
pub record Passed (low : ℕ) (p q : Place) : Type 0 where
  pub level : low ≤ q.level
  pub ahead : suc (length q.ahead) ≤ length p.ahead

pub reached : {low : ℕ} {p q : Place} → Passed low p q → Reached low p q
reached h = record { level = h.level; ahead = (let m = h.ahead in omega arith) }

pub call_only : (e : Expr) → is_call e ≡ true → is_variable e ≡ false
call_only (tree.the_expr id span (tree.Call callee args)) h = refl
call_only (tree.the_expr id span (tree.Method base name name_span args)) h = refl
call_only (tree.the_expr id span kind) h = absurd (cc)

module _ (low : ℕ) (set : Setting) (bounded : Bounded set) (inner : Phrases) (given : Readers) (held : CompletePhrases low set inner given) (parts : CompleteParts low set inner given) where
  own_prefix_reads : (p q : Place) (e : Expr) → low ≤ p.level → IsOwnPrefix set.rules inner p q e
      → (code.own_prefix set given p ≡ Ok (e, q)) × Passed low p q
  unfolding code.own_prefix
  own_prefix_reads p q e l h =
      let one = parts.prefix p h.0 e l (h.1, h.2) in
      let less = parts.shorter p h.0 e l (h.1, h.2) in
      let level : q.level ≡ p.level = ap (λ z. z.level) h.3 in
      let ahead : length q.ahead ≡ length h.0.ahead = ap (λ z. length z.ahead) h.3 in
      (bind_by _ _ one.0 (ap (λ z. Ok (e, z)) (sym h.3)), record { level = omega arith; ahead = omega arith })

  variable_reads : Complete low (IsVariable set.rules inner) (code.variable set given)
  unfolding code.variable
  variable_reads p q e l h =
      let one = own_prefix_reads p q e l h.0 in
      (bind_by _ _ one.0 (yes_branch _ h.1 refl), record { level = one.1.level; ahead = (let m = one.1.ahead in omega arith) })

  pub several_read : (p q : Place) (all : Exprs) → low ≤ p.level → expressions.AreExpressions set.rules inner p q all
      → (es : List Expr) × (all ≡ exprs es) × (values.expressions set given p ≡ Ok (es, q)) × Reached low p q
  several_read p q all l h =
      let one = parts.several p q (h.0 ∷ h.1) l (h.0, h.1, h.2, refl) in
      (h.0 ∷ h.1, h.3, one.0, one.1)

  no_compound : (a q b : Place) (es : List Expr) → AreMore set.rules s.Comma (IsVariable set.rules inner) a q es → Takes set.rules s.Assign q b
      → compound_of (symbol a) ≡ None
  no_compound a q b [] h t =
      let sign = takes_reads set s.Assign q b bounded t in
      ap (λ z. compound_of (symbol z)) (sym h.1) ∙ ap compound_of sign.symbol
  no_compound a q b (e ∷ es) h t =
      let comma = takes_reads set s.Comma a h.0 bounded h.2 in
      ap compound_of comma.symbol

  pub assign_reads : (p q : Place) (targets given_values : Exprs) → low ≤ p.level → IsAssign set.rules inner p q targets given_values
      → (code.prefix_statement set given (start_of p) p ≡ Ok (tree.the_stat (over p q) (tree.Assign targets given_values), q)) × Passed low p q
  unfolding code.prefix_statement code.behind_prefix code.assign separated_from
  assign_reads p q targets given_values l h =
      let first = separated_split set.rules (IsVariable set.rules inner) h.3 p h.0 h.2 h.4 in
      let a : Place = first.0 in
      let one = own_prefix_reads p a h.2 l first.1.0 in
      let more = separated_from_complete low set (IsVariable set.rules inner) (code.variable set given) variable_reads (h.2 ∷ []) h.3 a h.0 one.1.level first.2 in
      let sign = takes_reads set s.Assign h.0 h.1 bounded h.5 in
      let es = several_read h.1 q given_values (let m = more.1.level in let e = sign.level in omega arith) h.6 in (
        bind_by _ _ one.0
            (ap (λ z. code.prefix_by set given (start_of p) h.2 z a) (no_compound a h.0 h.1 h.3 first.2 h.5)
            ∙ yes_branch _ first.1.1
            (bind_by _ _ more.0 (bind_by _ _ sign.expected (bind_by _ _ es.2 (ap₂ (λ x y. Ok (tree.the_stat (over p q) (tree.Assign x y), q)) (sym h.7) (sym es.1)))))),
        record {
          level = es.3.level;
          ahead = (let m = one.1.ahead in let n = more.1.ahead in let o = sign.ahead in let r = es.3.ahead in omega arith);
        },
      )

  pub compound_reads : (p q a b : Place) (target : Expr) (op : BinOp) (value : Expr) (x : Symbol) → low ≤ p.level → IsVariable set.rules inner p a target
      → compound_of x ≡ Some op → Takes set.rules x a b → inner.exp b q value
      → (code.prefix_statement set given (start_of p) p ≡ Ok (tree.the_stat (over p q) (tree.Compound target op value), q)) × Passed low p q
  unfolding code.prefix_statement code.behind_prefix code.compound
  compound_reads p q a b target op value x l i c t h =
      let one = own_prefix_reads p a target l i.0 in
      let sign = takes_reads set x a b bounded t in
      let e = held.exp b q value (let m = one.1.level in let k = sign.level in omega arith) h in (
        bind_by _ _ one.0
            (ap (λ z. code.prefix_by set given (start_of p) target z a) (ap compound_of sign.symbol ∙ c)
            ∙ yes_branch _ i.1 (bind_by _ _ sign.reads (bind_by _ _ e.0 refl))),
        record { level = e.1.level; ahead = (let m = one.1.ahead in let n = sign.ahead in let o = e.1.ahead in omega arith) },
      )

  pub call_reads : (p q : Place) (call : Expr) → low ≤ p.level → IsOwnPrefix set.rules inner p q call → is_call call ≡ true
      → compound_of (symbol q) ≡ None
      → (code.prefix_statement set given (start_of p) p ≡ Ok (tree.the_stat (over p q) (tree.CallStat call), q)) × Passed low p q
  unfolding code.prefix_statement code.behind_prefix
  call_reads p q call l i k c =
      let one = own_prefix_reads p q call l i in (
        bind_by _ _ one.0
            (ap (λ z. code.prefix_by set given (start_of p) call z q) c ∙ no_branch _ (call_only call k) (yes_branch _ k refl)),
        one.1,
      )

  pub do_block_reads : (p q : Place) (b : Block) → low ≤ p.level → IsDo set.rules inner p q b
      → (code.do_block set given p ≡ Ok (b, q)) × Passed low p q
  unfolding code.do_block
  do_block_reads p q b l h =
      let word = takes_reads set s.Do p h.0 bounded h.2 in
      let body = held.block h.0 h.1 b (let e = word.level in omega arith) ((let e = word.level in let m = word.within in omega arith), h.3) in
      let last = takes_reads set s.End h.1 q bounded h.4 in (
        bind_by _ _ word.expected (bind_by _ _ body.0 (bind_by _ _ last.expected refl)),
        record {
          level = (let e = last.level in let m = body.1.level in omega arith);
          ahead = (let a = word.ahead in let n = body.1.ahead in let c = last.ahead in omega arith);
        },
      )

  pub do_reads : (p q : Place) (b : Block) → low ≤ p.level → IsDo set.rules inner p q b
      → (code.do_statement set given (start_of p) p ≡ Ok (tree.the_stat (over p q) (tree.Do b), q)) × Passed low p q
  unfolding code.do_statement
  do_reads p q b l h =
      let one = do_block_reads p q b l h in
      (bind_by _ _ one.0 refl, one.1)

  pub while_reads : (p q a b : Place) (cond : Expr) (body : Block) → low ≤ p.level → Takes set.rules s.While p a → inner.exp a b cond
      → IsDo set.rules inner b q body
      → (code.while_statement set given (start_of p) p ≡ Ok (tree.the_stat (over p q) (tree.While cond body), q)) × Passed low p q
  unfolding code.while_statement
  while_reads p q a b cond body l t h d =
      let word = takes_reads set s.While p a bounded t in
      let e = held.exp a b cond (let m = word.level in omega arith) h in
      let last = do_block_reads b q body e.1.level d in (
        bind_by _ _ word.expected (bind_by _ _ e.0 (bind_by _ _ last.0 refl)),
        record { level = last.1.level; ahead = (let m = word.ahead in let n = e.1.ahead in let o = last.1.ahead in omega arith) },
      )

  pub repeat_reads : (p q a b c : Place) (body : Block) (cond : Expr) → low ≤ p.level → Takes set.rules s.Repeat p a → inner.block a b body
      → Takes set.rules s.Until b c → inner.exp c q cond
      → (code.repeat_statement set given (start_of p) p ≡ Ok (tree.the_stat (over p q) (tree.Repeat body cond), q)) × Passed low p q
  unfolding code.repeat_statement
  repeat_reads p q a b c body cond l t h u k =
      let word = takes_reads set s.Repeat p a bounded t in
      let d = held.block a b body (let e = word.level in omega arith) ((let e = word.level in let m = word.within in omega arith), h) in
      let until = takes_reads set s.Until b c bounded u in
      let e = held.exp c q cond (let m = d.1.level in let n = until.level in omega arith) k in (
        bind_by _ _ word.expected (bind_by _ _ d.0 (bind_by _ _ until.expected (bind_by _ _ e.0 refl))),
        record { level = e.1.level; ahead = (let m = word.ahead in let n = d.1.ahead in let o = until.ahead in let r = e.1.ahead in omega arith) },
      )

  arm_reads : (word : Symbol) (p q a b c : Place) (arm : Expr × Block) → low ≤ p.level → Takes set.rules word p a → inner.exp a b arm.0
      → Takes set.rules s.Then b c → inner.block c q arm.1
      → (code.arm set given word p ≡ Ok (arm, q)) × Passed low p q
  unfolding code.arm
  arm_reads word p q a b c arm l t h u k =
      let first = takes_reads set word p a bounded t in
      let e = held.exp a b arm.0 (let m = first.level in omega arith) h in
      let second = takes_reads set s.Then b c bounded u in
      let d = held.block c q arm.1 (let m = second.level in let n = e.1.level in omega arith) ((let m = second.level in let n = second.within in omega arith), k) in (
        bind_by _ _ first.expected (bind_by _ _ e.0 (bind_by _ _ second.expected (bind_by _ _ d.0 refl))),
        record { level = d.1.level; ahead = (let m = first.ahead in let n = e.1.ahead in let o = second.ahead in let r = d.1.ahead in omega arith) },
      )

  one_arm_reads : (found : List (Expr × Block)) (y : Expr × Block) (p q a b c : Place) → low ≤ p.level → Takes set.rules s.ElseIf p a
      → inner.exp a b y.0 → Takes set.rules s.Then b c → inner.block c q y.1
      → (code.another_arm set given found p ≡ Ok (found ++ y ∷ [], q)) × Passed low p q
  unfolding code.another_arm
  one_arm_reads found y p q a b c l t h u k =
      let one = arm_reads s.ElseIf p q a b c y l t h u k in
      (bind_by _ _ one.0 refl, one.1)

  more_arms_read : (ys found : List (Expr × Block)) (y : Expr × Block) (a q : Place) → low ≤ a.level
      → AreArms set.rules inner s.ElseIf a q y ys
      → Loops low set (λ _ p. sees s.ElseIf p) (code.another_arm set given) found a q (found ++ y ∷ ys)
  more_arms_read [] found y a q l h =
      let one = one_arm_reads found y a q h.0 h.1 h.2 l h.3 h.4 h.5 h.6 in
      let word = takes_reads set s.ElseIf a h.0 bounded h.3 in
      loop_step low set _ _ found (found ++ y ∷ []) (found ++ y ∷ []) a q q (symbol_sees s.ElseIf a word.symbol)
      (one.0, reached one.1) one.1.ahead
      (loop_stop low set _ _ (found ++ y ∷ []) q h.7 one.1.level)
  more_arms_read (z ∷ zs) found y a q l h =
      let one = one_arm_reads found y a h.3 h.0 h.1 h.2 l h.4 h.5 h.6 h.7 in
      let word = takes_reads set s.ElseIf a h.0 bounded h.4 in
      λ turns enough. gives_same (append_assoc found (y ∷ []) (z ∷ zs))
      (loop_step low set _ _ found (found ++ y ∷ []) ((found ++ y ∷ []) ++ z ∷ zs) a h.3 q (symbol_sees s.ElseIf a word.symbol)
      (one.0, reached one.1) one.1.ahead
      (more_arms_read zs (found ++ y ∷ []) z h.3 q one.1.level h.8) turns enough)

  arms_behind : (more : List (Expr × Block)) (arm : Expr × Block) (p q : Place) → low ≤ p.level → AreArms set.rules inner s.If p q arm more
      → (code.all_arms set given p ≡ Ok (arms (arm ∷ more), q)) × Passed low p q
  unfolding code.all_arms
  arms_behind [] arm p q l h =
      let one = arm_reads s.If p q h.0 h.1 h.2 arm l h.3 h.4 h.5 h.6 in
      let rest = loop_done low set (λ _ z. sees s.ElseIf z) (code.another_arm set given) (arm ∷ []) (arm ∷ []) q q
      (loop_stop low set _ _ (arm ∷ []) q h.7 one.1.level) in
      (bind_by _ _ one.0 (bind_by _ _ rest.0 refl), one.1)
  arms_behind (other ∷ more) arm p q l h =
      let one = arm_reads s.If p h.3 h.0 h.1 h.2 arm l h.4 h.5 h.6 h.7 in
      let rest = loop_done low set (λ _ z. sees s.ElseIf z) (code.another_arm set given) (arm ∷ []) (arm ∷ other ∷ more) h.3 q
      (more_arms_read more (arm ∷ []) other h.3 q one.1.level h.8) in (
        bind_by _ _ one.0 (bind_by _ _ rest.0 refl),
        record { level = rest.1.level; ahead = (let n = one.1.ahead in let o = rest.1.ahead in omega arith) },
      )

  else_reads : (p q : Place) (last : MaybeBlock) → low ≤ p.level → IsElse set.rules inner p q last
      → (code.maybe_else set given p ≡ Ok (last, q)) × Reached low p q
  unfolding code.maybe_else
  else_reads p q tree.no_block l h =
      (no_branch _ h.0 (ap (λ z. Ok (tree.no_block, z)) (sym h.1)), subst (λ z. Reached low p z) (sym h.1) (record { level = l; ahead = omega arith }))
  else_reads p q (tree.a_block block) l h =
      let word = takes_reads set s.Else p h.0 bounded h.1 in
      let d = held.block h.0 q block (let e = word.level in omega arith) ((let e = word.level in let m = word.within in omega arith), h.2) in (
        yes_branch _ (symbol_sees s.Else p word.symbol) (bind_by _ _ word.expected (bind_by _ _ d.0 refl)),
        record { level = d.1.level; ahead = (let n = word.ahead in let o = d.1.ahead in omega arith) },
      )

  pub if_reads : (p q : Place) (all : Arms) (last : MaybeBlock) → low ≤ p.level → IsIf set.rules inner p q all last
      → (code.if_statement set given (start_of p) p ≡ Ok (tree.the_stat (over p q) (tree.If all last), q)) × Passed low p q
  unfolding code.if_statement
  if_reads p q all last l h =
      let found = arms_behind h.3 h.2 p h.0 l h.4 in
      let e = else_reads h.0 h.1 last found.1.level h.5 in
      let word = takes_reads set s.End h.1 q bounded h.6 in (
        bind_by _ _ found.0 (bind_by _ _ e.0 (bind_by _ _ word.expected (ap (λ z. Ok (tree.the_stat (over p q) (tree.If z last), q)) (sym h.7)))),
        record {
          level = (let m = e.1.level in let n = word.level in omega arith);
          ahead = (let m = found.1.ahead in let n = e.1.ahead in let o = word.ahead in omega arith);
        },
      )

  step_reads : (p q : Place) (step : MaybeExpr) → low ≤ p.level → IsStep set.rules inner p q step
      → (code.maybe_step set given p ≡ Ok (step, q)) × Reached low p q
  unfolding code.maybe_step
  step_reads p q tree.no_expr l h =
      (no_branch _ h.0 (ap (λ z. Ok (tree.no_expr, z)) (sym h.1)), subst (λ z. Reached low p z) (sym h.1) (record { level = l; ahead = omega arith }))
  step_reads p q (tree.an_expr e) l h =
      let comma = takes_reads set s.Comma p h.0 bounded h.1 in
      let one = held.exp h.0 q e (let m = comma.level in omega arith) h.2 in (
        yes_branch _ (symbol_sees s.Comma p comma.symbol) (bind_by _ _ comma.expected (bind_by _ _ one.0 refl)),
        record { level = one.1.level; ahead = (let n = comma.ahead in let o = one.1.ahead in omega arith) },
      )

  pub numeric_reads : (p q : Place) (x : Bind) (from to : Expr) (step : MaybeExpr) (body : Block) → low ≤ p.level
      → IsNumericFor set.rules inner p q x from to step body
      → (code.for_statement set given (start_of p) p ≡ Ok (tree.the_stat (over p q) (tree.NumFor x from to step body), q)) × Passed low p q
  unfolding code.for_statement code.numeric_for code.range
  numeric_reads p q x from to step body l h =
      let word = takes_reads set s.For p h.0 bounded h.7 in
      let bind = parts.bind h.0 h.1 x (let e = word.level in omega arith) h.8 in
      let sign = takes_reads set s.Assign h.1 h.2 bounded h.9 in
      let first = held.exp h.2 h.3 from (let e = bind.1.level in let m = sign.level in omega arith) h.10 in
      let comma = takes_reads set s.Comma h.3 h.4 bounded h.11 in
      let second = held.exp h.4 h.5 to (let e = first.1.level in let m = comma.level in omega arith) h.12 in
      let third = step_reads h.5 h.6 step second.1.level h.13 in
      let last = do_block_reads h.6 q body third.1.level h.14 in (
        bind_by _ _ word.expected (bind_by _ _ bind.0 (yes_branch _ (symbol_sees s.Assign h.1 sign.symbol)
            (bind_by _ _ sign.expected (bind_by _ _ (bind_by _ _ first.0 (bind_by _ _ comma.expected (bind_by _ _ second.0 (bind_by _ _ third.0 refl)))) (bind_by _ _ last.0 refl))))),
        record {
          level = last.1.level;
          ahead = (let a = word.ahead in let b = bind.1.ahead in let c = sign.ahead in let d = first.1.ahead in let e = comma.ahead in
              let f = second.1.ahead in let g = third.1.ahead in let i = last.1.ahead in omega arith);
        },
      )

  no_assign : (a q b : Place) (xs : List Bind) → AreMore set.rules s.Comma (expressions.IsBind set.rules inner) a q xs → Takes set.rules s.In q b
      → sees s.Assign a ≡ false
  unfolding same
  no_assign a q b [] h t =
      let word = takes_reads set s.In q b bounded t in
      sees_by s.Assign a (ap symbol (sym h.1) ∙ word.symbol) refl
  no_assign a q b (x ∷ xs) h t =
      let comma = takes_reads set s.Comma a h.0 bounded h.2 in
      sees_by s.Assign a comma.symbol refl

  pub generic_reads : (p q : Place) (names : Binds) (given_values : Exprs) (body : Block) → low ≤ p.level
      → IsGenericFor set.rules inner p q names given_values body
      → (code.for_statement set given (start_of p) p ≡ Ok (tree.the_stat (over p q) (tree.GenFor names given_values body), q)) × Passed low p q
  unfolding code.for_statement code.generic_for separated_from
  generic_reads p q names given_values body l h =
      let word = takes_reads set s.For p h.0 bounded h.4 in
      let first = separated_split set.rules (expressions.IsBind set.rules inner) h.5.1 h.0 h.1 h.5.0 h.5.2 in
      let a : Place = first.0 in
      let bind = parts.bind h.0 a h.5.0 (let e = word.level in omega arith) first.1 in
      let more = separated_from_complete low set (expressions.IsBind set.rules inner) (values.bind set given) parts.bind (h.5.0 ∷ []) h.5.1 a h.1 bind.1.level first.2 in
      let within = takes_reads set s.In h.1 h.2 bounded h.6 in
      let es = several_read h.2 h.3 given_values (let m = more.1.level in let e = within.level in omega arith) h.7 in
      let last = do_block_reads h.3 q body es.3.level h.8 in (
        bind_by _ _ word.expected (bind_by _ _ bind.0 (no_branch _ (no_assign a h.1 h.2 h.5.1 first.2 h.6)
            (bind_by _ _ more.0 (bind_by _ _ within.expected (bind_by _ _ es.2 (bind_by _ _ last.0 (ap₂ (λ z w. Ok (tree.the_stat (over p q) (tree.GenFor z w body), q)) (sym h.5.3) (sym es.1)))))))),
        record {
          level = last.1.level;
          ahead = (let b = word.ahead in let c = bind.1.ahead in let d = more.1.ahead in let e = within.ahead in
              let f = es.3.ahead in let g = last.1.ahead in omega arith);
        },
      )
