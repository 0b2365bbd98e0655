-- What syntax may do, seen by its form alone. Nothing of it looks into function literals, which run when they are called.
use Rattle.std.specs.Prelude.{ℕ, Bool, true, false, not, ◌==◌, ◌||◌, List, [], ◌∷◌, Option, Some, None}
use Rattle.luau_tree.specs.Tree.{Block, no_stats, more_stats, Stat, the_stat, StatKind, Assign, Compound, CallStat, Do, While, Repeat, If, NumFor, GenFor, FunctionStat, LocalFunction, Local, Return, Break, Continue, Arms, no_arms, more_arms, MaybeBlock, no_block, a_block}
use Rattle.luau_tree.specs.Tree.{Expr, the_expr, Exprs, no_exprs, more_exprs, MaybeExpr, no_expr, an_expr, ExprKind, StrExpr, Vararg, Index, At, Call, Method, Paren, Unary, Binary, IfElse, TableExpr, Interp, Assert, Choices, no_choices, more_choices, Item, Field, Keyed, Plain, Items, no_items, more_items}
use Rattle.luau_tree.specs.Tree.{Bind, the_bind, Binds, no_binds, more_binds}
use Rattle.luau_run.specs.ReadFolder.{is_among}
use Rattle.report_rules.specs.Rules.{Rules, local_named, is_quiet_call}

-- a call, a method call and `...` expand where they stand last in a list
abbrev pub expands : Expr → Bool
expands (the_expr id span (Call callee args)) = true
expands (the_expr id span (Method base name name_span args)) = true
expands (the_expr id span Vararg) = true
expands _ = false

-- whether the last of a list expands
abbrev pub last_expands : Exprs → Bool
last_expands no_exprs = false
last_expands (more_exprs e no_exprs) = expands e
last_expands (more_exprs e (more_exprs next rest)) = last_expands (more_exprs next rest)

-- an expression has effects if a call that isn't quiet stands in it
abbrev mutual
  pub effects : Rules → Expr → Bool
  effects rules (the_expr id span kind) = effects_of_kind rules kind

  pub effects_of_kind : Rules → ExprKind → Bool
  effects_of_kind rules (Index base name) = effects rules base
  effects_of_kind rules (At base key) = effects rules base || effects rules key
  effects_of_kind rules (Call callee args) = not (is_quiet_call rules callee) || (effects rules callee || any_effects rules args)
  effects_of_kind rules (Method base name name_span args) = true
  effects_of_kind rules (Paren e) = effects rules e
  effects_of_kind rules (Unary op e) = effects rules e
  effects_of_kind rules (Binary op left right) = effects rules left || effects rules right
  effects_of_kind rules (IfElse arms last) = effects_of_choices rules arms || effects rules last
  effects_of_kind rules (TableExpr items) = effects_of_items rules items
  effects_of_kind rules (Interp texts parts) = any_effects rules parts
  effects_of_kind rules (Assert e typ) = effects rules e
  effects_of_kind rules _ = false

  pub any_effects : Rules → Exprs → Bool
  any_effects rules no_exprs = false
  any_effects rules (more_exprs e rest) = effects rules e || any_effects rules rest

  pub effects_of_choices : Rules → Choices → Bool
  effects_of_choices rules no_choices = false
  effects_of_choices rules (more_choices cond e rest) = effects rules cond || (effects rules e || effects_of_choices rules rest)

  pub effects_of_items : Rules → Items → Bool
  effects_of_items rules no_items = false
  effects_of_items rules (more_items item rest) = effects_of_item rules item || effects_of_items rules rest

  pub effects_of_item : Rules → Item → Bool
  effects_of_item rules (Field name e) = effects rules e
  effects_of_item rules (Keyed key e) = effects rules key || effects rules e
  effects_of_item rules (Plain e) = effects rules e

abbrev pub effects_of_maybe : Rules → MaybeExpr → Bool
effects_of_maybe rules no_expr = false
effects_of_maybe rules (an_expr e) = effects rules e

-- what is written: a local, a global, a field of some name, with the local that is its base, or an element by another key;
-- a key that is written as a string is a name
pub data Target : Type 0 where
  OfLocal : (local : ℕ) → Target
  OfGlobal : Target
  OfField : (base : Option ℕ) (name : List ℕ) → Target
  OfElement : Target

abbrev pub of_name : Option ℕ → Target
of_name (Some local) = OfLocal local
of_name None = OfGlobal

abbrev pub target_of : Rules → Expr → Target
target_of rules (the_expr id span (Index base name)) = OfField (local_named rules base) name
target_of rules (the_expr id span (At base (the_expr key_id key_span (StrExpr name)))) = OfField (local_named rules base) name
target_of rules (the_expr id span (At base key)) = OfElement
target_of rules (the_expr id span kind) = of_name (local_named rules (the_expr id span kind))

-- what a function statement writes: its path, or the method that it names there
abbrev pub function_target : Rules → Expr → Option (List ℕ) → Target
function_target rules path None = target_of rules path
function_target rules path (Some method) = OfField (local_named rules path) method

abbrev pub targets_of : Rules → Exprs → List Target
targets_of rules no_exprs = []
targets_of rules (more_exprs e rest) = target_of rules e ∷ targets_of rules rest

-- whether a write goes to a field or by a key
abbrev pub is_in_table : Target → Bool
is_in_table (OfField base name) = true
is_in_table OfElement = true
is_in_table _ = false

abbrev pub any_in_table : List Target → Bool
any_in_table [] = false
any_in_table (t ∷ targets) = is_in_table t || any_in_table targets

-- whether a write goes to a local
abbrev pub writes_local : ℕ → Target → Bool
writes_local local (OfLocal other) = other == local
writes_local local _ = false

abbrev pub any_writes_local : ℕ → List Target → Bool
any_writes_local local [] = false
any_writes_local local (t ∷ targets) = writes_local local t || any_writes_local local targets

-- the local of a declared name
abbrev pub local_of_bind : Rules → Bind → ℕ
local_of_bind rules (the_bind name span typ) = rules.reading.local_at span.start

abbrev pub locals_of_binds : Rules → Binds → List ℕ
locals_of_binds rules no_binds = []
locals_of_binds rules (more_binds bind rest) = local_of_bind rules bind ∷ locals_of_binds rules rest

-- a statement stirs if it may change a table that was there: by a call that isn't quiet, by a write to a field or by a key,
-- or by a generic `for`
abbrev mutual
  pub stirs : Rules → Stat → Bool
  stirs rules (the_stat span kind) = stirs_in rules kind

  pub stirs_in : Rules → StatKind → Bool
  stirs_in rules (Assign targets values) = any_in_table (targets_of rules targets) || (any_effects rules targets || any_effects rules values)
  stirs_in rules (Compound target op e) = is_in_table (target_of rules target) || (effects rules target || effects rules e)
  stirs_in rules (CallStat e) = effects rules e
  stirs_in rules (Do body) = stirs_block rules body
  stirs_in rules (While cond body) = effects rules cond || stirs_block rules body
  stirs_in rules (Repeat body cond) = stirs_block rules body || effects rules cond
  stirs_in rules (If arms last) = stirs_arms rules arms || stirs_maybe rules last
  stirs_in rules (NumFor bind from to by body) = effects rules from || (effects rules to || (effects_of_maybe rules by || stirs_block rules body))
  stirs_in rules (GenFor binds values body) = true
  stirs_in rules (FunctionStat path method body) = is_in_table (function_target rules path method) || effects rules path
  stirs_in rules (Local binds values) = any_effects rules values
  stirs_in rules (Return values) = any_effects rules values
  stirs_in rules _ = false

  pub stirs_block : Rules → Block → Bool
  stirs_block rules no_stats = false
  stirs_block rules (more_stats s rest) = stirs rules s || stirs_block rules rest

  pub stirs_arms : Rules → Arms → Bool
  stirs_arms rules no_arms = false
  stirs_arms rules (more_arms cond body rest) = effects rules cond || (stirs_block rules body || stirs_arms rules rest)

  pub stirs_maybe : Rules → MaybeBlock → Bool
  stirs_maybe rules no_block = false
  stirs_maybe rules (a_block body) = stirs_block rules body

-- whether a statement assigns a local
abbrev mutual
  pub assigns : Rules → ℕ → Stat → Bool
  assigns rules local (the_stat span kind) = assigns_in rules local kind

  pub assigns_in : Rules → ℕ → StatKind → Bool
  assigns_in rules local (Assign targets values) = any_writes_local local (targets_of rules targets)
  assigns_in rules local (Compound target op e) = writes_local local (target_of rules target)
  assigns_in rules local (Do body) = assigns_block rules local body
  assigns_in rules local (While cond body) = assigns_block rules local body
  assigns_in rules local (Repeat body cond) = assigns_block rules local body
  assigns_in rules local (If arms last) = assigns_arms rules local arms || assigns_maybe rules local last
  assigns_in rules local (NumFor bind from to by body) = assigns_block rules local body
  assigns_in rules local (GenFor binds values body) = assigns_block rules local body
  assigns_in rules local (FunctionStat path method body) = writes_local local (function_target rules path method)
  assigns_in rules local _ = false

  pub assigns_block : Rules → ℕ → Block → Bool
  assigns_block rules local no_stats = false
  assigns_block rules local (more_stats s rest) = assigns rules local s || assigns_block rules local rest

  pub assigns_arms : Rules → ℕ → Arms → Bool
  assigns_arms rules local no_arms = false
  assigns_arms rules local (more_arms cond body rest) = assigns_block rules local body || assigns_arms rules local rest

  pub assigns_maybe : Rules → ℕ → MaybeBlock → Bool
  assigns_maybe rules local no_block = false
  assigns_maybe rules local (a_block body) = assigns_block rules local body

-- whether a statement declares a local
abbrev mutual
  pub declares : Rules → ℕ → Stat → Bool
  declares rules local (the_stat span kind) = declares_in rules local kind

  pub declares_in : Rules → ℕ → StatKind → Bool
  declares_in rules local (Do body) = declares_block rules local body
  declares_in rules local (While cond body) = declares_block rules local body
  declares_in rules local (Repeat body cond) = declares_block rules local body
  declares_in rules local (If arms last) = declares_arms rules local arms || declares_maybe rules local last
  declares_in rules local (NumFor bind from to by body) = (local_of_bind rules bind == local) || declares_block rules local body
  declares_in rules local (GenFor binds values body) = is_among local (locals_of_binds rules binds) || declares_block rules local body
  declares_in rules local (LocalFunction name body) = local_of_bind rules name == local
  declares_in rules local (Local binds values) = is_among local (locals_of_binds rules binds)
  declares_in rules local _ = false

  pub declares_block : Rules → ℕ → Block → Bool
  declares_block rules local no_stats = false
  declares_block rules local (more_stats s rest) = declares rules local s || declares_block rules local rest

  pub declares_arms : Rules → ℕ → Arms → Bool
  declares_arms rules local no_arms = false
  declares_arms rules local (more_arms cond body rest) = declares_block rules local body || declares_arms rules local rest

  pub declares_maybe : Rules → ℕ → MaybeBlock → Bool
  declares_maybe rules local no_block = false
  declares_maybe rules local (a_block body) = declares_block rules local body

-- whether a statement assigns or declares a local
abbrev pub touches : Rules → ℕ → Stat → Bool
touches rules local s = assigns rules local s || declares rules local s

-- whether a `return` stands in a statement
abbrev mutual
  pub returns : Stat → Bool
  returns (the_stat span kind) = returns_in kind

  pub returns_in : StatKind → Bool
  returns_in (Do body) = returns_block body
  returns_in (While cond body) = returns_block body
  returns_in (Repeat body cond) = returns_block body
  returns_in (If arms last) = returns_arms arms || returns_maybe last
  returns_in (NumFor bind from to by body) = returns_block body
  returns_in (GenFor binds values body) = returns_block body
  returns_in (Return values) = true
  returns_in _ = false

  pub returns_block : Block → Bool
  returns_block no_stats = false
  returns_block (more_stats s rest) = returns s || returns_block rest

  pub returns_arms : Arms → Bool
  returns_arms no_arms = false
  returns_arms (more_arms cond body rest) = returns_block body || returns_arms rest

  pub returns_maybe : MaybeBlock → Bool
  returns_maybe no_block = false
  returns_maybe (a_block body) = returns_block body

-- whether an `if` stands in a statement, outside loops: behind it what is known is joined out of its branches
abbrev mutual
  pub branches : Stat → Bool
  branches (the_stat span kind) = branches_in kind

  pub branches_in : StatKind → Bool
  branches_in (Do body) = branches_block body
  branches_in (If arms last) = true
  branches_in _ = false

  pub branches_block : Block → Bool
  branches_block no_stats = false
  branches_block (more_stats s rest) = branches s || branches_block rest

-- whether a `break` or `continue` of a loop around a statement stands in it
abbrev mutual
  pub breaks : Stat → Bool
  breaks (the_stat span kind) = breaks_in kind

  pub breaks_in : StatKind → Bool
  breaks_in (Do body) = breaks_block body
  breaks_in (If arms last) = breaks_arms arms || breaks_maybe last
  breaks_in Break = true
  breaks_in Continue = true
  breaks_in _ = false

  pub breaks_block : Block → Bool
  breaks_block no_stats = false
  breaks_block (more_stats s rest) = breaks s || breaks_block rest

  pub breaks_arms : Arms → Bool
  breaks_arms no_arms = false
  breaks_arms (more_arms cond body rest) = breaks_block body || breaks_arms rest

  pub breaks_maybe : MaybeBlock → Bool
  breaks_maybe no_block = false
  breaks_maybe (a_block body) = breaks_block body
