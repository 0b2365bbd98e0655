-- The map after a statement, and what a module gives.
use Rattle.std.specs.Prelude.{true, false, List, [], ◌∷◌, if◌then◌else◌}
use Rattle.luau_tree.specs.Tree.{Block, no_stats, more_stats, Stat, the_stat, StatKind, Assign, Compound, CallStat, Do, While, Repeat, If, NumFor, GenFor, FunctionStat, LocalFunction, Local, TypeAlias, TypeFunction, Return, Break, Continue, Arms, no_arms, more_arms, MaybeBlock, no_block, a_block, Expr, Exprs, MaybeExpr, no_expr, an_expr, Bind, Binds}
use Rattle.luau_tree.specs.declared.position.Span.{Span}
use Rattle.luau_tree.specs.declared.names.BinOp.{BinOp}
use Rattle.type_arena.specs.Term.{Term, never}
use Rattle.type_normal.specs.Operations.{union}
use Rattle.type_normal.specs.Kinds.{nil_type, number_type}
use Rattle.type_normal.specs.HeapFree.{widen}
use Rattle.type_normal.specs.Cut.{cut_up}
use Rattle.report_rules.specs.Rules.{Rules}
use Rattle.report_rules.specs.Effects.{last_expands, target_of, targets_of, function_target, local_of_bind, locals_of_binds}
use Rattle.report_rules.specs.TypeMap.{TypeMap, no_map, set, set_all, ended, refine, joined, head, written, assigned_all, first_type}
use Rattle.report_rules.specs.Forward.{typ, types_of_list, type_of_target, literal_type, binary_type, after, after_list}

-- the map after the bounds of a numeric `for`
abbrev pub after_maybe : Rules → TypeMap → MaybeExpr → TypeMap
after_maybe rules map no_expr = map
after_maybe rules map (an_expr e) = after rules map e

abbrev pub after_bounds : Rules → TypeMap → (from to : Expr) → MaybeExpr → TypeMap
after_bounds rules map from to by = after_maybe rules (after rules (after rules map from) to) by

-- the map at each turn of a numeric `for`, whose variable is a number
abbrev pub counted : Rules → Bind → TypeMap → TypeMap
counted rules bind map = set rules (local_of_bind rules bind) number_type map

-- the maps at which the parts of loops begin. A loop is evaluated from its head map; the body of a `while` where the condition
-- came out true
abbrev pub while_head : Rules → Span → Expr → Block → TypeMap → TypeMap
while_head rules span cond body map = head rules (the_stat span (While cond body)) map

abbrev pub while_map : Rules → Span → Expr → Block → TypeMap → TypeMap
while_map rules span cond body map = refine rules cond true (after rules (while_head rules span cond body map) cond)

abbrev pub repeat_map : Rules → Span → Block → Expr → TypeMap → TypeMap
repeat_map rules span body cond map = head rules (the_stat span (Repeat body cond)) map

abbrev pub number_head : Rules → Span → Bind → (from to : Expr) → MaybeExpr → Block → TypeMap → TypeMap
number_head rules span bind from to by body map = head rules (the_stat span (NumFor bind from to by body)) (after_bounds rules map from to by)

abbrev pub number_map : Rules → Span → Bind → (from to : Expr) → MaybeExpr → Block → TypeMap → TypeMap
number_map rules span bind from to by body map = counted rules bind (number_head rules span bind from to by body map)

abbrev pub iteration_map : Rules → Span → Binds → Exprs → Block → TypeMap → TypeMap
iteration_map rules span binds values body map = head rules (the_stat span (GenFor binds values body)) (after_list rules map values)

-- what a compound assignment computes
abbrev pub compound_type : Rules → TypeMap → Expr → BinOp → Expr → Term
compound_type rules map target op e = binary_type op (type_of_target rules map target) (typ rules (after rules map target) e)

-- the map after an assignment
abbrev pub after_assign : Rules → TypeMap → Exprs → Exprs → TypeMap
after_assign rules map targets values =
    assigned_all rules (targets_of rules targets) (last_expands values) (types_of_list rules (after_list rules map targets) values)
    (after_list rules (after_list rules map targets) values)

abbrev mutual
  pub after_stat : Rules → TypeMap → Stat → TypeMap
  after_stat rules map (the_stat span kind) = after_kind rules map span kind

  pub after_kind : Rules → TypeMap → Span → StatKind → TypeMap
  after_kind rules map span (Local binds values) =
      set_all rules (locals_of_binds rules binds) (last_expands values) (types_of_list rules map values) (after_list rules map values)
  after_kind rules map span (Assign targets values) = after_assign rules map targets values
  after_kind rules map span (Compound target op e) =
      written rules (target_of rules target) (compound_type rules map target op e) (after rules (after rules map target) e)
  after_kind rules map span (FunctionStat path method body) =
      written rules (function_target rules path method) (literal_type rules body) (after rules map path)
  after_kind rules map span (LocalFunction name body) = set rules (local_of_bind rules name) (literal_type rules body) map
  after_kind rules map span (CallStat e) = after rules map e
  after_kind rules map span (Do body) = after_block rules map body
  after_kind rules map span (If arms last) = joined (ends_of_arms rules map arms (λ at_last. end_of_last rules at_last last))
  after_kind rules map span (While cond body) = while_head rules span cond body map
  after_kind rules map span (Repeat body cond) = repeat_map rules span body cond map
  after_kind rules map span (NumFor bind from to by body) = number_head rules span bind from to by body map
  after_kind rules map span (GenFor binds values body) = iteration_map rules span binds values body map
  after_kind rules map span (Return values) = ended (after_list rules map values)
  after_kind rules map span Break = ended map
  after_kind rules map span Continue = ended map
  after_kind rules map span (TypeAlias exported name generics syntax) = map
  after_kind rules map span (TypeFunction exported name body) = map

  pub after_block : Rules → TypeMap → Block → TypeMap
  after_block rules map no_stats = map
  after_block rules map (more_stats s rest) = after_block rules (after_stat rules map s) rest

  -- the ends of an `if`; without an `else` one of them is where all conditions came out false
  pub ends_of_arms : Rules → TypeMap → Arms → (last : TypeMap → TypeMap) → List TypeMap
  ends_of_arms rules map no_arms last = last map ∷ []
  ends_of_arms rules map (more_arms cond body rest) last =
      after_block rules (refine rules cond true (after rules map cond)) body ∷ ends_of_arms rules (refine rules cond false (after rules map cond)) rest last

  pub end_of_last : Rules → TypeMap → MaybeBlock → TypeMap
  end_of_last rules map no_block = map
  end_of_last rules map (a_block body) = after_block rules map body

-- a type where a map is live, and never where it is dead
abbrev pub where_live : TypeMap → Term → Term
where_live map type = if map.dead then never else type

-- the type of what a statement returns: that of the first value of each live `return` in it, nil where none is given
abbrev mutual
  pub returned : Rules → TypeMap → Stat → Term
  returned rules map (the_stat span kind) = returned_in rules map span kind

  pub returned_in : Rules → TypeMap → Span → StatKind → Term
  returned_in rules map span (Return values) = where_live map (first_type false (types_of_list rules map values))
  returned_in rules map span (Do body) = returned_block rules map body
  returned_in rules map span (If arms last) = returned_arms rules map arms (λ at_last. returned_last rules at_last last)
  returned_in rules map span (While cond body) = returned_block rules (while_map rules span cond body map) body
  returned_in rules map span (Repeat body cond) = returned_block rules (repeat_map rules span body cond map) body
  returned_in rules map span (NumFor bind from to by body) = returned_block rules (number_map rules span bind from to by body map) body
  returned_in rules map span (GenFor binds values body) = returned_block rules (iteration_map rules span binds values body map) body
  returned_in rules map span _ = never

  pub returned_block : Rules → TypeMap → Block → Term
  returned_block rules map no_stats = never
  returned_block rules map (more_stats s rest) = union (returned rules map s) (returned_block rules (after_stat rules map s) rest)

  pub returned_arms : Rules → TypeMap → Arms → (last : TypeMap → Term) → Term
  returned_arms rules map no_arms last = last map
  returned_arms rules map (more_arms cond body rest) last =
      union (returned_block rules (refine rules cond true (after rules map cond)) body) (returned_arms rules (refine rules cond false (after rules map cond)) rest last)

  pub returned_last : Rules → TypeMap → MaybeBlock → Term
  returned_last rules map no_block = never
  returned_last rules map (a_block body) = returned_block rules map body

-- what a module gives who requires it: what its own body returns, and nil where the body may end; it holds of every later
-- heap
abbrev pub summary : Rules → Term
summary rules = cut_up (widen (union (returned_block rules no_map rules.reading.block) (where_live (after_block rules no_map rules.reading.block) nil_type)))
