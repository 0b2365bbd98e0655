-- Statements and blocks by the grammar, and so modules: the generics of the bodies in them hold no nodes.
use Rattle.std.proofs.Common.{ℕ, zero, suc, Bool, true, false, List, [], ◌∷◌, inl, inr, sym, subst}
use Rattle.std.specs.Prelude.{Option, None}
use Rattle.luau_tree.specs.Tree.{Block, Stat, StatKind, Arms, MaybeBlock, Expr, Exprs, MaybeExpr, ExprKind, Bind, Binds}
use Rattle.luau_tree.specs.Tree as tree
use Rattle.luau_tree.specs.View.{exprs, binds, arms}
use Rattle.luau_tree.specs.Nodes.{nodes_of_block, nodes_of_stat, nodes_of_stat_kind, nodes_of_arms, nodes_of_maybe_block, nodes_of_expr, nodes_of_exprs, nodes_of_maybe_expr, nodes_of_expr_kind, nodes_of_bind, nodes_of_binds}
use Rattle.luau_lex.specs.Tokens.{Tok}
use Rattle.luau_grammar.specs.declared.symbol.Symbol.{Symbol}
use Rattle.luau_grammar.specs.declared.symbol.Symbol.TheVariants as s
use Rattle.luau_grammar.specs.Places.{Place, Rules, raised, at_level}
use Rattle.luau_grammar.specs.Phrases.{Phrases}
use Rattle.luau_grammar.specs.Expressions as expressions
use Rattle.luau_grammar.specs.Statements as grammar
use Rattle.luau_grammar.specs.Statements.{is_last}
use Rattle.luau_grammar.specs.Modules.{IsBare, phrases, before}
use Rattle.module_orders.proofs.Plain.{Plain, nothing, both, an_expr, a_bind, separated}
use Rattle.module_orders.proofs.PlainTypes as written
use Rattle.module_orders.proofs.PlainTypes.{Held}
use Rattle.module_orders.proofs.PlainValues as values
use Rattle.module_orders.proofs.PlainValues.{more_exprs, more_binds}

module _ (rules : Rules) (inner : Phrases) (held : Held inner) where
  several : (p q : Place) (all : Exprs) → expressions.AreExpressions rules inner p q all → Plain (nodes_of_exprs all)
  several p q all h = values.several rules inner held p q all h

  own_prefix : (p q : Place) (e : Expr) → grammar.IsOwnPrefix rules inner p q e → Plain (nodes_of_expr e)
  own_prefix p q e h = values.prefix rules inner held p h.0 e h.1

  variable : (p q : Place) (e : Expr) → grammar.IsVariable rules inner p q e → Plain (nodes_of_expr e)
  variable p q e h = own_prefix p q e h.0

  assign : (p q : Place) (targets given : Exprs) → grammar.IsAssign rules inner p q targets given → Plain (nodes_of_stat_kind (tree.Assign targets given))
  assign p q targets given h =
      both (subst (λ z. Plain (nodes_of_exprs z)) (sym h.7)
      (separated rules (λ xs. nodes_of_exprs (exprs xs)) nodes_of_expr nothing more_exprs (grammar.IsVariable rules inner) variable h.3 p h.0 h.2 h.4))
      (several h.1 q given h.6)

  arms_held : (word : Symbol) (more : List (Expr × Block)) (p q : Place) (one : Expr × Block) → grammar.AreArms rules inner word p q one more
      → Plain (nodes_of_arms (arms (one ∷ more)))
  arms_held word [] p q one h = both (both (held.exp h.0 h.1 one.0 h.4) (held.block h.2 q one.1 h.6)) nothing
  arms_held word (other ∷ more) p q one h =
      both (both (held.exp h.0 h.1 one.0 h.5) (held.block h.2 h.3 one.1 h.7)) (arms_held s.ElseIf more h.3 q other h.8)

  otherwise : (p q : Place) (last : MaybeBlock) → grammar.IsElse rules inner p q last → Plain (nodes_of_maybe_block last)
  otherwise p q tree.no_block h = nothing
  otherwise p q (tree.a_block b) h = held.block h.0 q b h.2

  conditions : (p q : Place) (all : Arms) (last : MaybeBlock) → grammar.IsIf rules inner p q all last → Plain (nodes_of_stat_kind (tree.If all last))
  conditions p q all last h =
      both (subst (λ z. Plain (nodes_of_arms z)) (sym h.7) (arms_held s.If h.3 p h.0 h.2 h.4)) (otherwise h.0 h.1 last h.5)

  braced : (p q : Place) (b : Block) → grammar.IsDo rules inner p q b → Plain (nodes_of_block b)
  braced p q b h = held.block h.0 h.1 b h.3

  step : (p q : Place) (e : MaybeExpr) → grammar.IsStep rules inner p q e → Plain (nodes_of_maybe_expr e)
  step p q tree.no_expr h = nothing
  step p q (tree.an_expr e) h = held.exp h.0 q e h.2

  names : (p q : Place) (all : Binds) → grammar.AreBinds rules inner p q all → Plain (nodes_of_binds all)
  names p q all h =
      subst (λ z. Plain (nodes_of_binds z)) (sym h.3)
      (separated rules (λ xs. nodes_of_binds (binds xs)) nodes_of_bind nothing more_binds (expressions.IsBind rules inner) (values.bind rules inner held)
      h.1 p q h.0 h.2)

  generic_for : (p q : Place) (all : Binds) (given : Exprs) (b : Block) → grammar.IsGenericFor rules inner p q all given b
      → Plain (nodes_of_stat_kind (tree.GenFor all given b))
  generic_for p q all given b h = both (both (names h.0 h.1 all h.5) (several h.2 h.3 given h.7)) (braced h.3 q b h.8)

  numeric_for : (p q : Place) (x : Bind) (from to : Expr) (by : MaybeExpr) (b : Block) → grammar.IsNumericFor rules inner p q x from to by b
      → Plain (nodes_of_stat_kind (tree.NumFor x from to by b))
  numeric_for p q x from to by b h =
      both (both (both (both (values.bind rules inner held h.0 h.1 x h.8) (held.exp h.2 h.3 from h.10)) (held.exp h.4 h.5 to h.12)) (step h.5 h.6 by h.13))
      (braced h.6 q b h.14)

  mutual
    path : (p q : Place) (e : Expr) → grammar.IsPath rules inner p q e → Plain (nodes_of_expr e)
    path p q (tree.the_expr id span kind) h = an_expr (path_form p q kind h.2)

    path_form : (p q : Place) (kind : ExprKind) → grammar.IsPathForm rules inner p q kind → Plain (nodes_of_expr_kind kind)
    path_form p q (tree.NameExpr n) h = nothing
    path_form p q (tree.Index base n) h = path p h.0 base h.2
    path_form p q _ h = absurd h

  function : (p q : Place) (e : Expr) (method : Option (List ℕ)) (body : tree.Body) → grammar.IsFunction rules inner p q e method body
      → Plain (nodes_of_stat_kind (tree.FunctionStat e method body))
  function p q e method body h = both (path h.2 h.3 e h.8) (values.body rules inner held h.5 (at_level p.level h.4) q body h.11)

  local_function : (p q : Place) (x : Bind) (body : tree.Body) → grammar.IsLocalFunction rules inner p q x body
      → Plain (nodes_of_stat_kind (tree.LocalFunction x body))
  local_function p q (tree.the_bind n span tree.no_type) body h = both (a_bind nothing) (values.body rules inner held None h.4 q body h.10)
  local_function p q (tree.the_bind n span (tree.a_type t)) body h = absurd h

  given_values : (p q : Place) (given : Exprs) → grammar.AreValues rules inner p q given → Plain (nodes_of_exprs given)
  given_values p q given (inl h) = subst (λ z. Plain (nodes_of_exprs z)) (sym h.2) nothing
  given_values p q given (inr h) = several h.0 q given h.2

  returned : (p q : Place) (given : Exprs) → grammar.IsReturn rules inner p q given → Plain (nodes_of_exprs given)
  returned p q given (a, word, inl h) = subst (λ z. Plain (nodes_of_exprs z)) (sym h.2) nothing
  returned p q given (a, word, inr h) = several a q given h.1

  form : (p q : Place) (kind : StatKind) → grammar.IsStatementForm rules inner p q kind → Plain (nodes_of_stat_kind kind)
  form p q (tree.Assign targets given) h = assign p q targets given h.1
  form p q (tree.Compound target op value) h = both (variable p h.1 target h.4) (held.exp h.2 q value h.7)
  form p q (tree.CallStat call) h = own_prefix p q call h.1
  form p q (tree.Do body) h = braced p q body h
  form p q (tree.While cond body) h = both (held.exp h.0 h.1 cond h.3) (braced h.1 q body h.4)
  form p q (tree.Repeat body cond) h = both (held.block h.0 h.1 body h.4) (held.exp h.2 q cond h.6)
  form p q (tree.If all last) h = conditions p q all last h
  form p q (tree.NumFor x from to by body) h = numeric_for p q x from to by body h
  form p q (tree.GenFor all given body) h = generic_for p q all given body h
  form p q (tree.FunctionStat e method body) h = function p q e method body h
  form p q (tree.LocalFunction x body) h = local_function p q x body h
  form p q (tree.Local all given) h = both (names h.0 h.1 all h.4) (given_values h.1 q given h.5)
  form p q (tree.TypeAlias exported n all t) h = both (written.generics rules inner held true h.1 h.2 all h.6) (held.typ None h.3 q t tt h.8)
  form p q (tree.TypeFunction exported n body) h = values.body rules inner held None h.2 q body h.6
  form p q (tree.Return given) h = returned p q given h
  form p q tree.Break h = nothing
  form p q tree.Continue h = nothing

  statement : (p q : Place) (x : Stat) → grammar.IsStatement rules inner p q x → Plain (nodes_of_stat x)
  statement p q (tree.the_stat span kind) h = form p q kind h.1

  behind : (last : Bool) (p q : Place) (xs : Block) → grammar.IsBlockBehind rules inner last p q xs → Plain (nodes_of_block xs)
  behind true p q tree.no_stats h = nothing
  behind true p q (tree.more_stats x xs) h = absurd h
  behind false p q tree.no_stats h = nothing
  behind false p q (tree.more_stats x xs) h = both (statement p h.0 x h.2) (behind (is_last x) h.1 q xs h.4)

  whole : (p q : Place) (b : Block) → grammar.IsBlock rules inner p q b → Plain (nodes_of_block b)
  whole p q tree.no_stats h = nothing
  whole p q (tree.more_stats x xs) h = both (statement p h.0 x h.2) (behind (is_last x) h.1 q xs h.4)

held_at : (rules : Rules) (deep : ℕ) → Held (phrases rules deep)
held_at rules zero = record { exp = λ p q e h. absurd h; typ = λ begun p q t f h. absurd h; block = λ p q b h. absurd h }
held_at rules (suc deep) =
    let below = held_at rules deep in
    let inner = phrases rules deep in
    record {
      exp = λ p q e h. values.whole rules inner below (raised p) h.0 e h.1;
      typ = λ begun p q t f h. written.whole rules inner below begun (raised p) h.0 t f h.1;
      block = λ p q b h. whole rules inner below (raised p) h.0 b h.1;
    }

pub bare_plain : (rules : Rules) (ts : List Tok) (b : Block) → IsBare rules ts b → Plain (nodes_of_block b)
bare_plain rules ts b is = (held_at rules is.0).block (before ts) is.1 b is.2
