-- What static requires give plays no part in what syntax may do.
use Rattle.std.proofs.Common.{◌≡◌, ℕ, Bool, true, false, List, [], ◌∷◌, refl, sym, ap, ◌∙◌}
use Rattle.std.specs.Prelude.{not, ◌==◌, ◌||◌, Option, Some, None}
use Rattle.luau_tree.specs.declared.position.Span.{Span}
use Rattle.luau_tree.specs.Tree.{Block, no_stats, more_stats, Stat, the_stat, StatKind, Assign, Compound, CallStat, Do, While, Repeat, If, NumFor, GenFor, FunctionStat, LocalFunction, Local, TypeAlias, TypeFunction, Return, Break, Continue, Arms, no_arms, more_arms, MaybeBlock, no_block, a_block}
use Rattle.luau_tree.specs.Tree.{Expr, the_expr, Exprs, no_exprs, more_exprs, MaybeExpr, no_expr, an_expr, ExprKind, NilExpr, TrueExpr, FalseExpr, NumberExpr, StrExpr, Vararg, FunctionExpr, NameExpr, Index, At, Call, Method, Paren, Unary, Binary, IfElse, TableExpr, Interp, Assert, Choices, no_choices, more_choices, Item, Field, Keyed, Plain, Items, no_items, more_items}
use Rattle.luau_tree.specs.Tree.{Body, Bind, the_bind, Binds, no_binds, more_binds}
use Rattle.luau_run.specs.ReadModule.{Use}
use Rattle.luau_run.specs.ReadFolder.{is_among}
use Rattle.report_rules.specs.Rules.{Rules, use_of, local_named, is_quiet_call}
use Rattle.report_rules.specs.Effects.{effects, effects_of_kind, any_effects, effects_of_choices, effects_of_items, effects_of_item, effects_of_maybe, Target, OfField, of_name, target_of, function_target, targets_of, is_in_table, any_in_table, writes_local, any_writes_local, local_of_bind, locals_of_binds, stirs, stirs_in, stirs_block, stirs_arms, stirs_maybe, assigns, assigns_in, assigns_block, assigns_arms, assigns_maybe, declares, declares_in, declares_block, declares_arms, declares_maybe, touches}
use Rattle.module_facts.specs.Facts.{rules_of_facts}
use Rattle.module_facts.specs.declared.facts.Facts.{Facts}
use Rattle.infer_plan.specs.Read.{without_imports, IsReadBy}

-- tests that are the same on both sides
both : {a b c d : Bool} → a ≡ c → b ≡ d → (a || b) ≡ (c || d)
both {a} {b} {c} {d} p q = ap (λ (x : Bool). x || b) p ∙ ap (λ (x : Bool). c || x) q

-- ## Names

use_same : (rules : Rules) (e : Expr) → use_of (without_imports rules) e ≡ use_of rules e
use_same rules (the_expr id span kind) = refl

quiet_same : (rules : Rules) (e : Expr) → is_quiet_call (without_imports rules) e ≡ is_quiet_call rules e
quiet_same rules (the_expr id span kind) = refl

named_in_kind : (rules : Rules) (id : ℕ) (span : Span) (kind : ExprKind) → local_named (without_imports rules) (the_expr id span kind) ≡ local_named rules (the_expr id span kind)
named_in_kind rules id span NilExpr = refl
named_in_kind rules id span TrueExpr = refl
named_in_kind rules id span FalseExpr = refl
named_in_kind rules id span (NumberExpr text) = refl
named_in_kind rules id span (StrExpr name) = refl
named_in_kind rules id span Vararg = refl
named_in_kind rules id span (FunctionExpr body) = refl
named_in_kind rules id span (NameExpr name) = refl
named_in_kind rules id span (Index base name) = refl
named_in_kind rules id span (At base key) = refl
named_in_kind rules id span (Call callee args) = refl
named_in_kind rules id span (Method base name name_span args) = refl
named_in_kind rules id span (Paren e) = refl
named_in_kind rules id span (Unary op e) = refl
named_in_kind rules id span (Binary op left right) = refl
named_in_kind rules id span (IfElse arms last) = refl
named_in_kind rules id span (TableExpr items) = refl
named_in_kind rules id span (Interp texts parts) = refl
named_in_kind rules id span (Assert e syntax) = refl

named_same : (rules : Rules) (e : Expr) → local_named (without_imports rules) e ≡ local_named rules e
named_same rules (the_expr id span kind) = named_in_kind rules id span kind

bind_same : (rules : Rules) (bind : Bind) → local_of_bind (without_imports rules) bind ≡ local_of_bind rules bind
bind_same rules (the_bind name span syntax) = refl

binds_same : (rules : Rules) (binds : Binds) → locals_of_binds (without_imports rules) binds ≡ locals_of_binds rules binds
binds_same rules no_binds = refl
binds_same rules (more_binds bind rest) = ap (λ (x : ℕ). x ∷ locals_of_binds (without_imports rules) rest) (bind_same rules bind) ∙ ap (λ (xs : List ℕ). local_of_bind rules bind ∷ xs) (binds_same rules rest)

-- ## Effects

mutual
  effects_same : (rules : Rules) (e : Expr) → effects (without_imports rules) e ≡ effects rules e
  effects_same rules (the_expr id span kind) = effects_in_kind rules kind

  effects_in_kind : (rules : Rules) (kind : ExprKind) → effects_of_kind (without_imports rules) kind ≡ effects_of_kind rules kind
  effects_in_kind rules NilExpr = refl
  effects_in_kind rules TrueExpr = refl
  effects_in_kind rules FalseExpr = refl
  effects_in_kind rules (NumberExpr text) = refl
  effects_in_kind rules (StrExpr name) = refl
  effects_in_kind rules Vararg = refl
  effects_in_kind rules (FunctionExpr body) = refl
  effects_in_kind rules (NameExpr name) = refl
  effects_in_kind rules (Index base name) = effects_same rules base
  effects_in_kind rules (At base key) = both (effects_same rules base) (effects_same rules key)
  effects_in_kind rules (Call callee args) = both (ap not (quiet_same rules callee)) (both (effects_same rules callee) (any_same rules args))
  effects_in_kind rules (Method base name name_span args) = refl
  effects_in_kind rules (Paren e) = effects_same rules e
  effects_in_kind rules (Unary op e) = effects_same rules e
  effects_in_kind rules (Binary op left right) = both (effects_same rules left) (effects_same rules right)
  effects_in_kind rules (IfElse arms last) = both (choices_same rules arms) (effects_same rules last)
  effects_in_kind rules (TableExpr items) = items_same rules items
  effects_in_kind rules (Interp texts parts) = any_same rules parts
  effects_in_kind rules (Assert e syntax) = effects_same rules e

  any_same : (rules : Rules) (es : Exprs) → any_effects (without_imports rules) es ≡ any_effects rules es
  any_same rules no_exprs = refl
  any_same rules (more_exprs e rest) = both (effects_same rules e) (any_same rules rest)

  choices_same : (rules : Rules) (arms : Choices) → effects_of_choices (without_imports rules) arms ≡ effects_of_choices rules arms
  choices_same rules no_choices = refl
  choices_same rules (more_choices cond e rest) = both (effects_same rules cond) (both (effects_same rules e) (choices_same rules rest))

  items_same : (rules : Rules) (items : Items) → effects_of_items (without_imports rules) items ≡ effects_of_items rules items
  items_same rules no_items = refl
  items_same rules (more_items item rest) = both (item_same rules item) (items_same rules rest)

  item_same : (rules : Rules) (item : Item) → effects_of_item (without_imports rules) item ≡ effects_of_item rules item
  item_same rules (Field name e) = effects_same rules e
  item_same rules (Keyed key e) = both (effects_same rules key) (effects_same rules e)
  item_same rules (Plain e) = effects_same rules e

maybe_same : (rules : Rules) (e : MaybeExpr) → effects_of_maybe (without_imports rules) e ≡ effects_of_maybe rules e
maybe_same rules no_expr = refl
maybe_same rules (an_expr e) = effects_same rules e

-- ## Targets

field_same : (rules : Rules) (base : Expr) (name : List ℕ) → OfField (local_named (without_imports rules) base) name ≡ OfField (local_named rules base) name
field_same rules base name = ap (λ (x : Option ℕ). OfField x name) (named_same rules base)

element_same : (rules : Rules) (id : ℕ) (span : Span) (base : Expr) (key_id : ℕ) (key_span : Span) (key : ExprKind)
    → target_of (without_imports rules) (the_expr id span (At base (the_expr key_id key_span key))) ≡ target_of rules (the_expr id span (At base (the_expr key_id key_span key)))
element_same rules id span base key_id key_span NilExpr = refl
element_same rules id span base key_id key_span TrueExpr = refl
element_same rules id span base key_id key_span FalseExpr = refl
element_same rules id span base key_id key_span (NumberExpr text) = refl
element_same rules id span base key_id key_span (StrExpr name) = field_same rules base name
element_same rules id span base key_id key_span Vararg = refl
element_same rules id span base key_id key_span (FunctionExpr body) = refl
element_same rules id span base key_id key_span (NameExpr name) = refl
element_same rules id span base key_id key_span (Index b name) = refl
element_same rules id span base key_id key_span (At b key) = refl
element_same rules id span base key_id key_span (Call callee args) = refl
element_same rules id span base key_id key_span (Method b name name_span args) = refl
element_same rules id span base key_id key_span (Paren e) = refl
element_same rules id span base key_id key_span (Unary op e) = refl
element_same rules id span base key_id key_span (Binary op left right) = refl
element_same rules id span base key_id key_span (IfElse arms last) = refl
element_same rules id span base key_id key_span (TableExpr items) = refl
element_same rules id span base key_id key_span (Interp texts parts) = refl
element_same rules id span base key_id key_span (Assert e syntax) = refl

target_in_kind : (rules : Rules) (id : ℕ) (span : Span) (kind : ExprKind) → target_of (without_imports rules) (the_expr id span kind) ≡ target_of rules (the_expr id span kind)
target_in_kind rules id span NilExpr = refl
target_in_kind rules id span TrueExpr = refl
target_in_kind rules id span FalseExpr = refl
target_in_kind rules id span (NumberExpr text) = refl
target_in_kind rules id span (StrExpr name) = refl
target_in_kind rules id span Vararg = refl
target_in_kind rules id span (FunctionExpr body) = refl
target_in_kind rules id span (NameExpr name) = refl
target_in_kind rules id span (Index base name) = field_same rules base name
target_in_kind rules id span (At base (the_expr key_id key_span key)) = element_same rules id span base key_id key_span key
target_in_kind rules id span (Call callee args) = refl
target_in_kind rules id span (Method base name name_span args) = refl
target_in_kind rules id span (Paren e) = refl
target_in_kind rules id span (Unary op e) = refl
target_in_kind rules id span (Binary op left right) = refl
target_in_kind rules id span (IfElse arms last) = refl
target_in_kind rules id span (TableExpr items) = refl
target_in_kind rules id span (Interp texts parts) = refl
target_in_kind rules id span (Assert e syntax) = refl

target_same : (rules : Rules) (e : Expr) → target_of (without_imports rules) e ≡ target_of rules e
target_same rules (the_expr id span kind) = target_in_kind rules id span kind

function_same : (rules : Rules) (path : Expr) (method : Option (List ℕ)) → function_target (without_imports rules) path method ≡ function_target rules path method
function_same rules path None = target_same rules path
function_same rules path (Some name) = field_same rules path name

targets_same : (rules : Rules) (es : Exprs) → targets_of (without_imports rules) es ≡ targets_of rules es
targets_same rules no_exprs = refl
targets_same rules (more_exprs e rest) =
    ap (λ (x : Target). x ∷ targets_of (without_imports rules) rest) (target_same rules e) ∙ ap (λ (xs : List Target). target_of rules e ∷ xs) (targets_same rules rest)

-- ## Loops

mutual
  stirs_same : (rules : Rules) (s : Stat) → stirs (without_imports rules) s ≡ stirs rules s
  stirs_same rules (the_stat span kind) = stirs_in_kind rules kind

  stirs_in_kind : (rules : Rules) (kind : StatKind) → stirs_in (without_imports rules) kind ≡ stirs_in rules kind
  stirs_in_kind rules (Assign targets values) = both (ap any_in_table (targets_same rules targets)) (both (any_same rules targets) (any_same rules values))
  stirs_in_kind rules (Compound target op e) = both (ap is_in_table (target_same rules target)) (both (effects_same rules target) (effects_same rules e))
  stirs_in_kind rules (CallStat e) = effects_same rules e
  stirs_in_kind rules (Do body) = stirs_block_same rules body
  stirs_in_kind rules (While cond body) = both (effects_same rules cond) (stirs_block_same rules body)
  stirs_in_kind rules (Repeat body cond) = both (stirs_block_same rules body) (effects_same rules cond)
  stirs_in_kind rules (If arms last) = both (stirs_arms_same rules arms) (stirs_last_same rules last)
  stirs_in_kind rules (NumFor bind from to by body) = both (effects_same rules from) (both (effects_same rules to) (both (maybe_same rules by) (stirs_block_same rules body)))
  stirs_in_kind rules (GenFor binds values body) = refl
  stirs_in_kind rules (FunctionStat path method body) = both (ap is_in_table (function_same rules path method)) (effects_same rules path)
  stirs_in_kind rules (LocalFunction name body) = refl
  stirs_in_kind rules (Local binds values) = any_same rules values
  stirs_in_kind rules (TypeAlias exported name generics syntax) = refl
  stirs_in_kind rules (TypeFunction exported name body) = refl
  stirs_in_kind rules (Return values) = any_same rules values
  stirs_in_kind rules Break = refl
  stirs_in_kind rules Continue = refl

  stirs_block_same : (rules : Rules) (block : Block) → stirs_block (without_imports rules) block ≡ stirs_block rules block
  stirs_block_same rules no_stats = refl
  stirs_block_same rules (more_stats s rest) = both (stirs_same rules s) (stirs_block_same rules rest)

  stirs_arms_same : (rules : Rules) (arms : Arms) → stirs_arms (without_imports rules) arms ≡ stirs_arms rules arms
  stirs_arms_same rules no_arms = refl
  stirs_arms_same rules (more_arms cond body rest) = both (effects_same rules cond) (both (stirs_block_same rules body) (stirs_arms_same rules rest))

  stirs_last_same : (rules : Rules) (last : MaybeBlock) → stirs_maybe (without_imports rules) last ≡ stirs_maybe rules last
  stirs_last_same rules no_block = refl
  stirs_last_same rules (a_block body) = stirs_block_same rules body

mutual
  assigns_same : (rules : Rules) (local : ℕ) (s : Stat) → assigns (without_imports rules) local s ≡ assigns rules local s
  assigns_same rules local (the_stat span kind) = assigns_in_kind rules local kind

  assigns_in_kind : (rules : Rules) (local : ℕ) (kind : StatKind) → assigns_in (without_imports rules) local kind ≡ assigns_in rules local kind
  assigns_in_kind rules local (Assign targets values) = ap (any_writes_local local) (targets_same rules targets)
  assigns_in_kind rules local (Compound target op e) = ap (writes_local local) (target_same rules target)
  assigns_in_kind rules local (CallStat e) = refl
  assigns_in_kind rules local (Do body) = assigns_block_same rules local body
  assigns_in_kind rules local (While cond body) = assigns_block_same rules local body
  assigns_in_kind rules local (Repeat body cond) = assigns_block_same rules local body
  assigns_in_kind rules local (If arms last) = both (assigns_arms_same rules local arms) (assigns_last_same rules local last)
  assigns_in_kind rules local (NumFor bind from to by body) = assigns_block_same rules local body
  assigns_in_kind rules local (GenFor binds values body) = assigns_block_same rules local body
  assigns_in_kind rules local (FunctionStat path method body) = ap (writes_local local) (function_same rules path method)
  assigns_in_kind rules local (LocalFunction name body) = refl
  assigns_in_kind rules local (Local binds values) = refl
  assigns_in_kind rules local (TypeAlias exported name generics syntax) = refl
  assigns_in_kind rules local (TypeFunction exported name body) = refl
  assigns_in_kind rules local (Return values) = refl
  assigns_in_kind rules local Break = refl
  assigns_in_kind rules local Continue = refl

  assigns_block_same : (rules : Rules) (local : ℕ) (block : Block) → assigns_block (without_imports rules) local block ≡ assigns_block rules local block
  assigns_block_same rules local no_stats = refl
  assigns_block_same rules local (more_stats s rest) = both (assigns_same rules local s) (assigns_block_same rules local rest)

  assigns_arms_same : (rules : Rules) (local : ℕ) (arms : Arms) → assigns_arms (without_imports rules) local arms ≡ assigns_arms rules local arms
  assigns_arms_same rules local no_arms = refl
  assigns_arms_same rules local (more_arms cond body rest) = both (assigns_block_same rules local body) (assigns_arms_same rules local rest)

  assigns_last_same : (rules : Rules) (local : ℕ) (last : MaybeBlock) → assigns_maybe (without_imports rules) local last ≡ assigns_maybe rules local last
  assigns_last_same rules local no_block = refl
  assigns_last_same rules local (a_block body) = assigns_block_same rules local body

mutual
  declares_same : (rules : Rules) (local : ℕ) (s : Stat) → declares (without_imports rules) local s ≡ declares rules local s
  declares_same rules local (the_stat span kind) = declares_in_kind rules local kind

  declares_in_kind : (rules : Rules) (local : ℕ) (kind : StatKind) → declares_in (without_imports rules) local kind ≡ declares_in rules local kind
  declares_in_kind rules local (Assign targets values) = refl
  declares_in_kind rules local (Compound target op e) = refl
  declares_in_kind rules local (CallStat e) = refl
  declares_in_kind rules local (Do body) = declares_block_same rules local body
  declares_in_kind rules local (While cond body) = declares_block_same rules local body
  declares_in_kind rules local (Repeat body cond) = declares_block_same rules local body
  declares_in_kind rules local (If arms last) = both (declares_arms_same rules local arms) (declares_last_same rules local last)
  declares_in_kind rules local (NumFor bind from to by body) = both (ap (λ (x : ℕ). x == local) (bind_same rules bind)) (declares_block_same rules local body)
  declares_in_kind rules local (GenFor binds values body) = both (ap (is_among local) (binds_same rules binds)) (declares_block_same rules local body)
  declares_in_kind rules local (FunctionStat path method body) = refl
  declares_in_kind rules local (LocalFunction name body) = ap (λ (x : ℕ). x == local) (bind_same rules name)
  declares_in_kind rules local (Local binds values) = ap (is_among local) (binds_same rules binds)
  declares_in_kind rules local (TypeAlias exported name generics syntax) = refl
  declares_in_kind rules local (TypeFunction exported name body) = refl
  declares_in_kind rules local (Return values) = refl
  declares_in_kind rules local Break = refl
  declares_in_kind rules local Continue = refl

  declares_block_same : (rules : Rules) (local : ℕ) (block : Block) → declares_block (without_imports rules) local block ≡ declares_block rules local block
  declares_block_same rules local no_stats = refl
  declares_block_same rules local (more_stats s rest) = both (declares_same rules local s) (declares_block_same rules local rest)

  declares_arms_same : (rules : Rules) (local : ℕ) (arms : Arms) → declares_arms (without_imports rules) local arms ≡ declares_arms rules local arms
  declares_arms_same rules local no_arms = refl
  declares_arms_same rules local (more_arms cond body rest) = both (declares_block_same rules local body) (declares_arms_same rules local rest)

  declares_last_same : (rules : Rules) (local : ℕ) (last : MaybeBlock) → declares_maybe (without_imports rules) local last ≡ declares_maybe rules local last
  declares_last_same rules local no_block = refl
  declares_last_same rules local (a_block body) = declares_block_same rules local body

touches_same : (rules : Rules) (local : ℕ) (s : Stat) → touches (without_imports rules) local s ≡ touches rules local s
touches_same rules local s = both (assigns_same rules local s) (declares_same rules local s)

-- ## So what is read of a module by some facts holds of all rules that read it so

-- what is the same without imports is the same for two rules that are so without them
by_facts : {X : Type 0} (f : Rules → X) → ((rules : Rules) → f (without_imports rules) ≡ f rules) → (facts : Facts) (rules : Rules) → IsReadBy facts rules → f (rules_of_facts facts) ≡ f rules
by_facts f same facts rules read = sym (same (rules_of_facts facts)) ∙ sym (ap f read.same) ∙ same rules

pub effects_by : (facts : Facts) (rules : Rules) → IsReadBy facts rules → (e : Expr) → effects (rules_of_facts facts) e ≡ effects rules e
effects_by facts rules read e = by_facts (λ r. effects r e) (λ r. effects_same r e) facts rules read

pub any_effects_by : (facts : Facts) (rules : Rules) → IsReadBy facts rules → (es : Exprs) → any_effects (rules_of_facts facts) es ≡ any_effects rules es
any_effects_by facts rules read es = by_facts (λ r. any_effects r es) (λ r. any_same r es) facts rules read

pub item_effects_by : (facts : Facts) (rules : Rules) → IsReadBy facts rules → (item : Item) → effects_of_item (rules_of_facts facts) item ≡ effects_of_item rules item
item_effects_by facts rules read item = by_facts (λ r. effects_of_item r item) (λ r. item_same r item) facts rules read

pub items_effects_by : (facts : Facts) (rules : Rules) → IsReadBy facts rules → (items : Items) → effects_of_items (rules_of_facts facts) items ≡ effects_of_items rules items
items_effects_by facts rules read items = by_facts (λ r. effects_of_items r items) (λ r. items_same r items) facts rules read

pub target_by : (facts : Facts) (rules : Rules) → IsReadBy facts rules → (e : Expr) → target_of (rules_of_facts facts) e ≡ target_of rules e
target_by facts rules read e = by_facts (λ r. target_of r e) (λ r. target_same r e) facts rules read

pub function_target_by : (facts : Facts) (rules : Rules) → IsReadBy facts rules → (path : Expr) (method : Option (List ℕ)) → function_target (rules_of_facts facts) path method ≡ function_target rules path method
function_target_by facts rules read path method = by_facts (λ r. function_target r path method) (λ r. function_same r path method) facts rules read

pub stirs_by : (facts : Facts) (rules : Rules) → IsReadBy facts rules → (s : Stat) → stirs (rules_of_facts facts) s ≡ stirs rules s
stirs_by facts rules read s = by_facts (λ r. stirs r s) (λ r. stirs_same r s) facts rules read

pub touches_by : (facts : Facts) (rules : Rules) → IsReadBy facts rules → (local : ℕ) (s : Stat) → touches (rules_of_facts facts) local s ≡ touches rules local s
touches_by facts rules read local s = by_facts (λ r. touches r local s) (λ r. touches_same r local s) facts rules read

pub use_by : (facts : Facts) (rules : Rules) → IsReadBy facts rules → (e : Expr) → use_of (rules_of_facts facts) e ≡ use_of rules e
use_by facts rules read e = by_facts (λ r. use_of r e) (λ r. use_same r e) facts rules read

pub bind_by : (facts : Facts) (rules : Rules) → IsReadBy facts rules → (bind : Bind) → local_of_bind (rules_of_facts facts) bind ≡ local_of_bind rules bind
bind_by facts rules read bind = by_facts (λ r. local_of_bind r bind) (λ r. bind_same r bind) facts rules read

pub binds_by : (facts : Facts) (rules : Rules) → IsReadBy facts rules → (binds : Binds) → locals_of_binds (rules_of_facts facts) binds ≡ locals_of_binds rules binds
binds_by facts rules read binds = by_facts (λ r. locals_of_binds r binds) (λ r. binds_same r binds) facts rules read
