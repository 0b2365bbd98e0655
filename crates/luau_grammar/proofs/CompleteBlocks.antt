-- Each statement and each block of the grammar is read.
use Rattle.std.proofs.Common.{◌≡◌, ℕ, zero, suc, ◌≤◌, ◌⊎◌, Bool, true, false, ◌&&◌, ◌||◌, List, [], ◌∷◌, ◌++◌, bytes_eq, Ok, inl, inr, refl, sym, ◌∙◌, ap, ap₂, subst, append_assoc, append-nil, arith}
use Rattle.std.specs.Prelude.{Option, codes}
use Rattle.luau_tree.specs.Tree.{Block, Stat, StatKind, Expr, ExprKind, Arms, Bind, Body}
use Rattle.luau_tree.specs.Tree as tree
use Rattle.luau_tree.specs.View.{stats}
use Rattle.luau_grammar.specs.declared.symbol.Symbol.{Symbol}
use Rattle.luau_grammar.specs.declared.symbol.Symbol.TheVariants as s
use Rattle.luau_grammar.specs.Symbols.{same}
use Rattle.luau_grammar.specs.Places.{Place, symbol, symbol_behind, sees, sees_behind, sees_word, first_bytes, start_of, over, Takes, TakesName}
use Rattle.luau_grammar.specs.Phrases.{Phrases}
use Rattle.luau_grammar.specs.Expressions as expressions
use Rattle.luau_grammar.specs.Statements.{begins, closes, is_last, sees_continue, sees_type, sees_export, sees_statement_word, IsVariable, AreArms, IsFunction, IsLocalFunction, IsAlias, IsTypeFunction, IsStatement, IsStatementForm, IsSemicolon, IsBlock, IsBlockBehind}
use Rattle.luau_grammar.specs.Reading.{Setting, Readers, eat}
use Rattle.luau_grammar.specs.ReadStatements as code
use Rattle.luau_grammar.proofs.Agreement.{Bounded, Complete, CompletePhrases}
use Rattle.luau_grammar.proofs.Primitives.{Gives, eat_complete, bind_by, symbol_sees, sees_by}
use Rattle.luau_grammar.proofs.SoundNamed.{attributes_level}
use Rattle.std.proofs.lemmas.Bool.{and_parts, or_parts}
use Rattle.std.proofs.lemmas.Slice.Eq.{bytes_eq-Decides}
use Rattle.luau_grammar.proofs.SoundLists.{separated_split}
use Rattle.luau_grammar.proofs.TakenTokens.{yes_branch, no_branch, takes_reads, name_reads}
use Rattle.luau_grammar.proofs.CompleteLists.{loop_stop, loop_step, loop_done, Loops}
use Rattle.luau_grammar.proofs.CompleteStatements.{Passed, reached, assign_reads, compound_reads, call_reads, do_reads, while_reads, repeat_reads, if_reads, numeric_reads, generic_reads}
use Rattle.luau_grammar.proofs.CompleteNamed.{function_reads, local_function_reads, local_reads, alias_reads, type_function_reads, return_reads}
use Rattle.luau_grammar.proofs.StatementParts.{CompleteParts}

none : (x y z : Bool) → (x || (y || z)) ≡ false → (x ≡ false) × (y ≡ false) × (z ≡ false)
none x y z h =
    let first = or_parts x (y || z) h in
    let others = or_parts y z first.1 in
    (first.0, others.0, others.1)

-- a word is no other word
other_word : (word other : List ℕ) (p : Place) → sees_word word p ≡ true → bytes_eq word other ≡ false → sees_word other p ≡ false
unfolding sees_word
other_word word other p h n =
    let e = and_parts (sees s.Name p) (bytes_eq (first_bytes p.ahead) word) h in
    ap₂ (λ x y. x && bytes_eq y other) e.0 ((bytes_eq-Decides (first_bytes p.ahead) word).0 e.1) ∙ n

type_is_no_continue : (p : Place) → sees_type p ≡ true → sees_continue p ≡ false
type_is_no_continue p h =
    ap (λ z. z && closes (symbol_behind p)) (other_word (codes "type") (codes "continue") p (and_parts (sees_word (codes "type") p) _ h).0 refl)

export_is_no_continue : (p : Place) → sees_export p ≡ true → sees_continue p ≡ false
export_is_no_continue p h =
    ap (λ z. z && closes (symbol_behind p)) (other_word (codes "export") (codes "continue") p (and_parts (sees_word (codes "export") p) _ h).0 refl)

export_is_no_type : (p : Place) → sees_export p ≡ true → sees_type p ≡ false
export_is_no_type p h =
    ap (λ z. z && (sees_behind s.Name p || sees_behind s.Function p)) (other_word (codes "export") (codes "type") p (and_parts (sees_word (codes "export") p) _ h).0 refl)

module _ (low : ℕ) (set : Setting) (bounded : Bounded set) (inner : Phrases) (given : Readers) (held : CompletePhrases low set inner given) (parts : CompleteParts low set inner given) where
  -- what begins a prefix
  mutual
    prefix_symbol : (p q : Place) (e : Expr) → expressions.IsPrefix set.rules inner p q e → (symbol p ≡ s.Name) ⊎ (symbol p ≡ s.LeftParen)
    prefix_symbol p q (tree.the_expr id span kind) h = prefix_form_symbol p q kind h.2

    prefix_form_symbol : (p q : Place) (k : ExprKind) → expressions.IsPrefixForm set.rules inner p q k → (symbol p ≡ s.Name) ⊎ (symbol p ≡ s.LeftParen)
    prefix_form_symbol p q (tree.NameExpr name) h = inl (name_reads set p q name bounded h).symbol
    prefix_form_symbol p q (tree.Paren e) h = inr (takes_reads set s.LeftParen p h.0 bounded h.2).symbol
    prefix_form_symbol p q (tree.Index base name) h = prefix_symbol p h.0 base h.2
    prefix_form_symbol p q (tree.At base key) h = prefix_symbol p h.0 base h.3
    prefix_form_symbol p q (tree.Call callee args) h = prefix_symbol p h.0 callee h.1
    prefix_form_symbol p q (tree.Method base name name_span args) h = prefix_symbol p h.0 base h.3
    prefix_form_symbol p q kind h = absurd h

  -- A statement was read.
  record StatementRead (p q : Place) (x : Stat) : Type 0 where
    pub reads : code.statement set given p ≡ Ok (x, q)
    pub passed : Passed low p q
    pub begun : begins (symbol p) ≡ true

  by_symbol : (x : Symbol) (p q : Place) (st : Stat) → symbol p ≡ x → begins x ≡ true
      → (code.form_by set given (start_of p) x p ≡ Ok (st, q)) × Passed low p q → StatementRead p q st
  unfolding code.statement
  by_symbol x p q st e b h = record {
    reads = ap (λ z. code.form_by set given (start_of p) z p) e ∙ h.0;
    passed = h.1;
    begun = ap begins e ∙ b;
  }

  by_prefix : (p a q : Place) (e : Expr) (st : Stat) → sees_statement_word p ≡ false
      → (symbol p ≡ s.Name) ⊎ (symbol p ≡ s.LeftParen)
      → (code.prefix_statement set given (start_of p) p ≡ Ok (st, q)) × Passed low p q → StatementRead p q st
  unfolding code.name_statement
  by_prefix p a q e st w (inl n) h =
      let no = none (sees_continue p) (sees_type p) (sees_export p) w in
      by_symbol s.Name p q st n refl (no_branch _ no.0 (no_branch _ no.1 (no_branch _ no.2 h.0)), h.1)
  by_prefix p a q e st w (inr n) h = by_symbol s.LeftParen p q st n refl h

  function_read : (n : ℕ) (p q a : Place) (st : Stat) → low ≤ p.level → expressions.AreAttributes set.rules inner n p a
      → symbol a ≡ s.Function → (code.function_statement set given (start_of p) a ≡ Ok (st, q)) × Passed low a q → StatementRead p q st
  unfolding code.attributed same
  function_read zero p q a st l h e k =
      by_symbol s.Function p q st (ap symbol (sym h.1) ∙ e) refl
      (subst (λ z. (code.function_statement set given (start_of p) z ≡ Ok (st, q)) × Passed low z q) h.1 k)
  function_read (suc n) p q a st l h e k =
      let sign = takes_reads set s.AtSign p h.0 bounded h.3 in
      let all = parts.attributes p a tt l (suc n, h) in
      by_symbol s.AtSign p q st sign.symbol refl (
        bind_by _ _ all.0 (no_branch _ (sees_by s.Local a e refl) k.0),
        record { level = k.1.level; ahead = (let m = all.1.ahead in let o = k.1.ahead in omega arith) },
      )

  local_function_read : (n : ℕ) (p q a b : Place) (st : Stat) → low ≤ p.level → expressions.AreAttributes set.rules inner n p a
      → Takes set.rules s.Local a b → symbol b ≡ s.Function
      → (code.local_function set given (start_of p) b ≡ Ok (st, q)) × Passed low b q → StatementRead p q st
  unfolding code.attributed code.local_statement
  local_function_read zero p q a b st l h t e k =
      let word = takes_reads set s.Local p b bounded (subst (λ z. Takes set.rules s.Local z b) h.1 t) in
      by_symbol s.Local p q st word.symbol refl (
        bind_by _ _ word.expected (yes_branch _ (symbol_sees s.Function b e) k.0),
        record { level = k.1.level; ahead = (let m = word.ahead in let o = k.1.ahead in omega arith) },
      )
  local_function_read (suc n) p q a b st l h t e k =
      let sign = takes_reads set s.AtSign p h.0 bounded h.3 in
      let all = parts.attributes p a tt l (suc n, h) in
      let word = takes_reads set s.Local a b bounded t in
      by_symbol s.AtSign p q st sign.symbol refl (
        bind_by _ _ all.0 (yes_branch _ (symbol_sees s.Local a word.symbol) (bind_by _ _ word.expected k.0)),
        record { level = k.1.level; ahead = (let m = all.1.ahead in let r = word.ahead in let o = k.1.ahead in omega arith) },
      )

  type_read : (p q a : Place) (st : Stat) → sees_type p ≡ true → TakesName set.rules p a (codes "type")
      → (code.type_statement set given (start_of p) false p ≡ Ok (st, q)) × Passed low p q → StatementRead p q st
  unfolding code.name_statement
  type_read p q a st h t k =
      let word = name_reads set p a (codes "type") bounded t in
      by_symbol s.Name p q st word.symbol refl (no_branch _ (type_is_no_continue p h) (yes_branch _ h k.0), k.1)

  export_read : (p q x : Place) (st : Stat) → sees_export p ≡ true → Takes set.rules s.Name p x
      → (code.type_statement set given (start_of p) true x ≡ Ok (st, q)) × Passed low x q → StatementRead p q st
  unfolding code.name_statement
  export_read p q x st h t k =
      let word = takes_reads set s.Name p x bounded t in
      by_symbol s.Name p q st word.symbol refl (
        no_branch _ (export_is_no_continue p h) (no_branch _ (export_is_no_type p h) (yes_branch _ h (bind_by _ _ word.reads k.0))),
        record { level = k.1.level; ahead = (let m = word.ahead in let o = k.1.ahead in omega arith) },
      )

  arms_symbol : (p q : Place) (arm : Expr × Block) (more : List (Expr × Block)) → AreArms set.rules inner s.If p q arm more → symbol p ≡ s.If
  arms_symbol p q arm [] h = (takes_reads set s.If p h.0 bounded h.3).symbol
  arms_symbol p q arm (other ∷ more) h = (takes_reads set s.If p h.0 bounded h.4).symbol

  fun_reads : (p q : Place) (way : Expr) (method : Option (List ℕ)) (body : Body) → low ≤ p.level → IsFunction set.rules inner p q way method body
      → StatementRead p q (tree.the_stat (over p q) (tree.FunctionStat way method body))
  fun_reads p q way method body l h =
      let word = takes_reads set s.Function h.1 h.2 bounded h.7 in
      let level = attributes_level set.rules inner h.0 p h.1 h.6 in
      function_read h.0 p q h.1 _ l h.6 word.symbol
      (function_reads low set bounded inner given held parts p q h.1 h.2 h.3 h.4 way method h.5 body l level h.7 h.8 h.9 h.10 h.11)

  local_fun_reads : (p q : Place) (name : Bind) (body : Body) → low ≤ p.level → IsLocalFunction set.rules inner p q name body
      → StatementRead p q (tree.the_stat (over p q) (tree.LocalFunction name body))
  local_fun_reads p q (tree.the_bind n span (tree.a_type t)) body l h = absurd h
  local_fun_reads p q (tree.the_bind n span tree.no_type) body l h =
      let first = takes_reads set s.Local h.1 h.2 bounded h.6 in
      let word = takes_reads set s.Function h.2 h.3 bounded h.7 in
      let level = attributes_level set.rules inner h.0 p h.1 h.5 in
      local_function_read h.0 p q h.1 h.2 _ l h.5 h.6 word.symbol
      (local_function_reads low set bounded inner given held parts p q h.2 h.3 h.4 n span body (let m = first.level in omega arith) h.7 h.8 h.9 h.10)

  alias_read : (p q : Place) (exported : Bool) (n : List ℕ) (gs : tree.Gens) (ty : tree.TypeSyntax) → low ≤ p.level
      → IsAlias set.rules inner p q exported n gs ty → StatementRead p q (tree.the_stat (over p q) (tree.TypeAlias exported n gs ty))
  alias_read p q false n gs ty l h =
      type_read p q h.0 _ h.4.0 h.4.1
      (alias_reads low set bounded inner given held parts p q p h.0 h.1 h.2 h.3 false (codes "type") n gs ty l h.4.1 h.5 h.6 h.7 h.8)
  alias_read p q true n gs ty l h =
      let word = takes_reads set s.Name p h.4.0 bounded h.4.2 in
      export_read p q h.4.0 _ h.4.1 h.4.2
      (alias_reads low set bounded inner given held parts p q h.4.0 h.0 h.1 h.2 h.3 true (codes "type") n gs ty (let m = word.level in omega arith) h.4.3 h.5 h.6 h.7 h.8)

  type_fun_read : (p q : Place) (exported : Bool) (n : List ℕ) (body : Body) → low ≤ p.level
      → IsTypeFunction set.rules inner p q exported n body → StatementRead p q (tree.the_stat (over p q) (tree.TypeFunction exported n body))
  type_fun_read p q false n body l h =
      type_read p q h.0 _ h.3.0 h.3.1
      (type_function_reads low set bounded inner given held parts p q p h.0 h.1 h.2 false (codes "type") n body l h.3.1 h.4 h.5 h.6)
  type_fun_read p q true n body l h =
      let word = takes_reads set s.Name p h.3.0 bounded h.3.2 in
      export_read p q h.3.0 _ h.3.1 h.3.2
      (type_function_reads low set bounded inner given held parts p q h.3.0 h.0 h.1 h.2 true (codes "type") n body (let m = word.level in omega arith) h.3.3 h.4 h.5 h.6)

  break_read : (p q : Place) → low ≤ p.level → Takes set.rules s.Break p q → StatementRead p q (tree.the_stat (over p q) tree.Break)
  unfolding code.word_statement
  break_read p q l h =
      let word = takes_reads set s.Break p q bounded h in
      by_symbol s.Break p q _ word.symbol refl
      (bind_by _ _ word.reads refl, record { level = (let m = word.level in omega arith); ahead = (let m = word.ahead in omega arith) })

  continue_read : (p q : Place) → low ≤ p.level → sees_continue p ≡ true → TakesName set.rules p q (codes "continue")
      → StatementRead p q (tree.the_stat (over p q) tree.Continue)
  unfolding code.name_statement code.word_statement
  continue_read p q l e h =
      let word = name_reads set p q (codes "continue") bounded h in
      by_symbol s.Name p q _ word.symbol refl
      (yes_branch _ e (bind_by _ _ word.reads refl), record { level = (let m = word.level in omega arith); ahead = (let m = word.ahead in omega arith) })

  kind_reads : (p q : Place) (k : StatKind) → low ≤ p.level → IsStatementForm set.rules inner p q k
      → StatementRead p q (tree.the_stat (over p q) k)
  kind_reads p q (tree.Assign targets values) l h =
      let first = separated_split set.rules (IsVariable set.rules inner) h.1.3 p h.1.0 h.1.2 h.1.4 in
      by_prefix p first.1.0.0 q h.1.2 _ h.0 (prefix_symbol p first.1.0.0 h.1.2 first.1.0.1)
      (assign_reads low set bounded inner given held parts p q targets values l h.1)
  kind_reads p q (tree.Compound target op value) l h =
      by_prefix p h.4.0.0 q target _ h.0 (prefix_symbol p h.4.0.0 target h.4.0.1)
      (compound_reads low set bounded inner given held parts p q h.1 h.2 target op value h.3 l h.4 h.5 h.6 h.7)
  kind_reads p q (tree.CallStat call) l h =
      by_prefix p h.1.0 q call _ h.0 (prefix_symbol p h.1.0 call h.1.1)
      (call_reads low set bounded inner given held parts p q call l h.1 h.2 h.3)
  kind_reads p q (tree.Do body) l h =
      by_symbol s.Do p q _ (takes_reads set s.Do p h.0 bounded h.2).symbol refl (do_reads low set bounded inner given held parts p q body l h)
  kind_reads p q (tree.While cond body) l h =
      by_symbol s.While p q _ (takes_reads set s.While p h.0 bounded h.2).symbol refl
      (while_reads low set bounded inner given held parts p q h.0 h.1 cond body l h.2 h.3 h.4)
  kind_reads p q (tree.Repeat body cond) l h =
      by_symbol s.Repeat p q _ (takes_reads set s.Repeat p h.0 bounded h.3).symbol refl
      (repeat_reads low set bounded inner given held parts p q h.0 h.1 h.2 body cond l h.3 h.4 h.5 h.6)
  kind_reads p q (tree.If arms last) l h =
      by_symbol s.If p q _ (arms_symbol p h.0 h.2 h.3 h.4) refl (if_reads low set bounded inner given held parts p q arms last l h)
  kind_reads p q (tree.NumFor bind from to step body) l h =
      by_symbol s.For p q _ (takes_reads set s.For p h.0 bounded h.7).symbol refl
      (numeric_reads low set bounded inner given held parts p q bind from to step body l h)
  kind_reads p q (tree.GenFor binds values body) l h =
      by_symbol s.For p q _ (takes_reads set s.For p h.0 bounded h.4).symbol refl
      (generic_reads low set bounded inner given held parts p q binds values body l h)
  kind_reads p q (tree.FunctionStat way method body) l h = fun_reads p q way method body l h
  kind_reads p q (tree.LocalFunction name body) l h = local_fun_reads p q name body l h
  kind_reads p q (tree.Local binds values) l h =
      by_symbol s.Local p q _ (takes_reads set s.Local p h.0 bounded h.2).symbol refl
      (local_reads low set bounded inner given held parts p q h.0 h.1 binds values l h.2 h.3 h.4 h.5)
  kind_reads p q (tree.TypeAlias exported name generics typ) l h = alias_read p q exported name generics typ l h
  kind_reads p q (tree.TypeFunction exported name body) l h = type_fun_read p q exported name body l h
  kind_reads p q (tree.Return values) l h =
      by_symbol s.Return p q _ (takes_reads set s.Return p h.0 bounded h.1).symbol refl
      (return_reads low set bounded inner given held parts p q values l h)
  kind_reads p q tree.Break l h = break_read p q l h
  kind_reads p q tree.Continue l h = continue_read p q l h.0 h.1

  statement_reads : (p q : Place) (x : Stat) → low ≤ p.level → IsStatement set.rules inner p q x → StatementRead p q x
  statement_reads p q (tree.the_stat span kind) l h =
      subst (λ z. StatementRead p q (tree.the_stat z kind)) (sym h.0) (kind_reads p q kind l h.1)

  semicolon_reads : (p q : Place) → low ≤ p.level → IsSemicolon set.rules inner p q → (b : Bool) × Gives low p (eat set s.Semicolon p) q b
  semicolon_reads p q l (inl h) = (true, eat_complete set low s.Semicolon p q true l h)
  semicolon_reads p q l (inr h) = (false, eat_complete set low s.Semicolon p q false l h)

  another_reads : (x : code.Statements) (p a q : Place) (st : Stat) → low ≤ p.level → IsStatement set.rules inner p a st → IsSemicolon set.rules inner a q
      → (code.another_statement set given x p ≡ Ok (record { found = x.found ++ st ∷ []; ended = is_last st }, q)) × Passed low p q × (begins (symbol p) ≡ true)
  unfolding code.another_statement
  another_reads x p a q st l h k =
      let one = statement_reads p a st l h in
      let sign = semicolon_reads a q one.passed.level k in (
        bind_by _ _ one.reads (bind_by _ _ sign.1.0 refl),
        record { level = sign.1.1.level; ahead = (let m = one.passed.ahead in let n = sign.1.1.ahead in omega arith) },
        one.begun,
      )

  -- the statements of a block
  list_of : Block → List Stat
  list_of tree.no_stats = []
  list_of (tree.more_stats x xs) = x ∷ list_of xs

  stats_of : (b : Block) → stats (list_of b) ≡ b
  unfolding list_of
  stats_of tree.no_stats = refl
  stats_of (tree.more_stats x xs) = ap (tree.more_stats x) (stats_of xs)

  -- the loop over statements
  abbrev StatementLoop : code.Statements → Place → Place → code.Statements → Type 0
  StatementLoop x p q z = Loops low set (code.goes_statements set given) (code.another_statement set given) x p q z

  -- What the loop reads up to a place.
  record StatementsRead (x : code.Statements) (p q : Place) (b : Block) : Type 0 where
    pub result : code.Statements
    pub found : result.found ≡ x.found ++ list_of b
    pub reads : StatementLoop x p q result

  ended_here : (x : code.Statements) (p q : Place) → low ≤ p.level → code.goes_statements set given x p ≡ false → q ≡ p
      → StatementsRead x p q tree.no_stats
  unfolding list_of
  ended_here x p q l e h = record {
    result = x;
    found = sym (append-nil x.found);
    reads = subst (λ z. StatementLoop x p z x) (sym h) (loop_stop low set _ _ x p e l);
  }

  statements_read : (b : Block) (ended : Bool) (found : List Stat) (p q : Place) → low ≤ p.level
      → IsBlockBehind set.rules inner ended p q b → StatementsRead (record { found = found; ended = ended }) p q b
  unfolding list_of
  statements_read tree.no_stats true found p q l h = ended_here _ p q l refl h
  statements_read tree.no_stats false found p q l h = ended_here _ p q l h.0 h.1
  statements_read (tree.more_stats st xs) true found p q l h = absurd h
  statements_read (tree.more_stats st xs) false found p q l h =
      let one = another_reads (record { found = found; ended = false }) p h.0 h.1 st l h.2 h.3 in
      let rest = statements_read xs (is_last st) (found ++ st ∷ []) h.1 q one.1.level h.4 in
      record {
        result = rest.result;
        found = rest.found ∙ append_assoc found (st ∷ []) (list_of xs);
        reads = loop_step low set _ _ (record { found = found; ended = false }) _ rest.result p h.1 q one.2 (one.0, reached one.1) one.1.ahead rest.reads;
      }

  behind_none : (p q : Place) (b : Block) → IsBlock set.rules inner p q b → IsBlockBehind set.rules inner false p q b
  behind_none p q tree.no_stats h = h
  behind_none p q (tree.more_stats x xs) h = h

  pub block_complete : Complete low (IsBlock set.rules inner) (code.block_inside set given)
  unfolding code.block_inside
  block_complete p q b l h =
      let all = statements_read b false [] p q l (behind_none p q b h) in
      let whole = loop_done low set _ _ (record { found = []; ended = false }) all.result p q all.reads in
      (bind_by _ _ whole.0 (ap (λ z. Ok (z, q)) (ap stats all.found ∙ stats_of b)), whole.1)
