-- The types of a module's expressions, in the order of the text, each in the map at its turn, and which places are live.
use Rattle.std.specs.Prelude.{ℕ, Bool, true, false, not, ◌==◌, List, [], ◌∷◌, ◌++◌, Some, None, if◌then◌else◌}
use Rattle.luau_tree.specs.declared.position.Span.{Span}
use Rattle.luau_tree.specs.declared.names.BinOp.TheVariants.{Or, And}
use Rattle.luau_tree.specs.Tree.{Block, no_stats, more_stats, Stat, the_stat, StatKind, Assign, Compound, CallStat, Do, While, Repeat, If, NumFor, GenFor, FunctionStat, LocalFunction, Local, Return, Arms, no_arms, more_arms, MaybeBlock, no_block, a_block}
use Rattle.luau_tree.specs.Tree.{Expr, the_expr, Exprs, no_exprs, more_exprs, MaybeExpr, no_expr, an_expr, ExprKind, FunctionExpr, Index, At, Call, Method, Paren, Unary, Binary, IfElse, TableExpr, Interp, Assert, Choices, no_choices, more_choices, Item, Field, Keyed, Plain, Items, no_items, more_items}
use Rattle.luau_tree.specs.Tree.{Body, the_body}
use Rattle.type_arena.specs.Term.{Term}
use Rattle.type_normal.specs.Kinds.{unknown}
use Rattle.report_rules.specs.Rules.{Rules}
use Rattle.report_rules.specs.Effects.{effects_of_item, locals_of_binds, local_of_bind}
use Rattle.report_rules.specs.TypeMap.{TypeMap, no_map, set, refine, body_map}
use Rattle.report_rules.specs.Forward.{typ, type_of_target, literal_type, after, after_list, after_part}
use Rattle.report_rules.specs.After.{after_stat, while_head, while_map, repeat_map, number_map, iteration_map}

-- an expression by its number, with its type and whether its place is live; or a function's body, with whether the place of
-- its literal or its statement is live
pub data Seen : Type 0 where
  SeenExpr : (id : ℕ) (type : Term) (live : Bool) → Seen
  SeenBody : (id : ℕ) (live : Bool) → Seen

-- the type of an expression, by its number
abbrev pub type_at : List Seen → ℕ → Term
type_at [] id = unknown
type_at (SeenExpr other type live ∷ seen) id = if other == id then type else type_at seen id
type_at (SeenBody other live ∷ seen) id = type_at seen id

-- whether the place of an expression is live
abbrev pub is_live : List Seen → ℕ → Bool
is_live [] id = false
is_live (SeenExpr other type live ∷ seen) id = if other == id then live else is_live seen id
is_live (SeenBody other live ∷ seen) id = is_live seen id

-- whether the place of a function's literal or statement is live
abbrev pub is_body_live : List Seen → ℕ → Bool
is_body_live [] id = false
is_body_live (SeenExpr other type live ∷ seen) id = is_body_live seen id
is_body_live (SeenBody other live ∷ seen) id = if other == id then live else is_body_live seen id

-- the map with which the body of a `local function` starts knows its own name
abbrev pub own_map : Rules → ℕ → Body → TypeMap → TypeMap
own_map rules local body map = set rules local (literal_type rules body) map

abbrev mutual
  pub seen_expr : Rules → TypeMap → Expr → List Seen
  seen_expr rules map (the_expr id span kind) = SeenExpr id (typ rules map (the_expr id span kind)) (not map.dead) ∷ seen_in rules map kind

  pub seen_in : Rules → TypeMap → ExprKind → List Seen
  seen_in rules map (FunctionExpr body) = seen_body rules map body
  seen_in rules map (Index base name) = seen_expr rules map base
  seen_in rules map (At base key) = seen_expr rules map base ++ seen_expr rules (after rules map base) key
  seen_in rules map (Call callee args) = seen_expr rules map callee ++ seen_list rules (after rules map callee) args
  seen_in rules map (Method base name name_span args) = seen_expr rules map base ++ seen_list rules (after rules map base) args
  seen_in rules map (Paren e) = seen_expr rules map e
  seen_in rules map (Unary op e) = seen_expr rules map e
  seen_in rules map (Binary And left right) = seen_expr rules map left ++ seen_expr rules (refine rules left true (after rules map left)) right
  seen_in rules map (Binary Or left right) = seen_expr rules map left ++ seen_expr rules (refine rules left false (after rules map left)) right
  seen_in rules map (Binary op left right) = seen_expr rules map left ++ seen_expr rules (after rules map left) right
  seen_in rules map (IfElse arms last) = seen_choices rules map arms (λ at_last. seen_expr rules at_last last)
  seen_in rules map (TableExpr items) = seen_items rules map items
  seen_in rules map (Interp texts parts) = seen_list rules map parts
  seen_in rules map (Assert e syntax) = seen_expr rules map e
  seen_in rules map _ = []

  pub seen_list : Rules → TypeMap → Exprs → List Seen
  seen_list rules map no_exprs = []
  seen_list rules map (more_exprs e rest) = seen_expr rules map e ++ seen_list rules (after rules map e) rest

  pub seen_maybe : Rules → TypeMap → MaybeExpr → List Seen
  seen_maybe rules map no_expr = []
  seen_maybe rules map (an_expr e) = seen_expr rules map e

  pub seen_choices : Rules → TypeMap → Choices → (last : TypeMap → List Seen) → List Seen
  seen_choices rules map no_choices last = last map
  seen_choices rules map (more_choices cond e rest) last =
      seen_expr rules map cond ++ seen_expr rules (refine rules cond true (after rules map cond)) e
      ++ seen_choices rules (refine rules cond false (after rules map cond)) rest last

  pub seen_items : Rules → TypeMap → Items → List Seen
  seen_items rules map no_items = []
  seen_items rules map (more_items item rest) = seen_item rules map item ++ seen_items rules (after_part (effects_of_item rules item) map) rest

  pub seen_item : Rules → TypeMap → Item → List Seen
  seen_item rules map (Field name e) = seen_expr rules map e
  seen_item rules map (Keyed key e) = seen_expr rules map key ++ seen_expr rules (after rules map key) e
  seen_item rules map (Plain e) = seen_expr rules map e

  -- a target isn't evaluated, but its base and its key are
  pub seen_target : Rules → TypeMap → Expr → List Seen
  seen_target rules map (the_expr id span kind) = SeenExpr id (type_of_target rules map (the_expr id span kind)) (not map.dead) ∷ seen_in rules map kind

  pub seen_targets : Rules → TypeMap → Exprs → List Seen
  seen_targets rules map no_exprs = []
  seen_targets rules map (more_exprs e rest) = seen_target rules map e ++ seen_targets rules (after rules map e) rest

  pub seen_body : Rules → TypeMap → Body → List Seen
  seen_body rules map (the_body id has_self generics params vararg result block span) =
      SeenBody id (not map.dead) ∷ seen_block rules (body_map (locals_of_binds rules params) map) block

  pub seen_block : Rules → TypeMap → Block → List Seen
  seen_block rules map no_stats = []
  seen_block rules map (more_stats s rest) = seen_stat rules map s ++ seen_block rules (after_stat rules map s) rest

  pub seen_stat : Rules → TypeMap → Stat → List Seen
  seen_stat rules map (the_stat span kind) = seen_kind rules map span kind

  pub seen_kind : Rules → TypeMap → Span → StatKind → List Seen
  seen_kind rules map span (Assign targets values) = seen_targets rules map targets ++ seen_list rules (after_list rules map targets) values
  seen_kind rules map span (Compound target op e) = seen_target rules map target ++ seen_expr rules (after rules map target) e
  seen_kind rules map span (CallStat e) = seen_expr rules map e
  seen_kind rules map span (Do body) = seen_block rules map body
  seen_kind rules map span (While cond body) = seen_expr rules (while_head rules span cond body map) cond ++ seen_block rules (while_map rules span cond body map) body
  seen_kind rules map span (Repeat body cond) = seen_block rules (repeat_map rules span body cond map) body ++ seen_expr rules (repeat_map rules span body cond map) cond
  seen_kind rules map span (If arms last) = seen_arms rules map arms (λ at_last. seen_last rules at_last last)
  seen_kind rules map span (NumFor bind from to by body) =
      seen_expr rules map from ++ seen_expr rules (after rules map from) to
      ++ seen_maybe rules (after rules (after rules map from) to) by ++ seen_block rules (number_map rules span bind from to by body map) body
  seen_kind rules map span (GenFor binds values body) = seen_list rules map values ++ seen_block rules (iteration_map rules span binds values body map) body
  seen_kind rules map span (FunctionStat path None body) = seen_target rules map path ++ seen_body rules (after rules map path) body
  seen_kind rules map span (FunctionStat path (Some method) body) = seen_expr rules map path ++ seen_body rules (after rules map path) body
  seen_kind rules map span (LocalFunction name body) = seen_body rules (own_map rules (local_of_bind rules name) body map) body
  seen_kind rules map span (Local binds values) = seen_list rules map values
  seen_kind rules map span (Return values) = seen_list rules map values
  seen_kind rules map span _ = []

  pub seen_arms : Rules → TypeMap → Arms → (last : TypeMap → List Seen) → List Seen
  seen_arms rules map no_arms last = last map
  seen_arms rules map (more_arms cond body rest) last =
      seen_expr rules map cond ++ seen_block rules (refine rules cond true (after rules map cond)) body
      ++ seen_arms rules (refine rules cond false (after rules map cond)) rest last

  pub seen_last : Rules → TypeMap → MaybeBlock → List Seen
  seen_last rules map no_block = []
  seen_last rules map (a_block body) = seen_block rules map body

-- what is seen of a module
abbrev pub seen_module : Rules → List Seen
seen_module rules = seen_block rules no_map rules.reading.block
