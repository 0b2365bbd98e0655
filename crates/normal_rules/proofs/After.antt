-- The maps after statements, and what a module gives, are in normal form.
use Rattle.std.proofs.Common.{true, false, refl}
use Rattle.std.specs.List.{AllByRecursion}
use Rattle.luau_tree.specs.Tree.{Block, no_stats, more_stats, Stat, the_stat, StatKind, Assign, Compound, CallStat, Do, While, Repeat, If, NumFor, GenFor, FunctionStat, LocalFunction, Local, TypeAlias, TypeFunction, Return, Break, Continue, Arms, no_arms, more_arms, MaybeBlock, no_block, a_block, Expr, Exprs, MaybeExpr, no_expr, an_expr, Bind, Binds}
use Rattle.luau_tree.specs.declared.position.Span.{Span}
use Rattle.type_arena.specs.Term.{Term, never}
use Rattle.type_normal.specs.HeapFree.{widen}
use Rattle.type_normal.specs.Kinds.{nil_type, number_type}
use Rattle.type_normal.specs.Operations.{union}
use Rattle.type_ops.proofs.KeepFacts.{union_normal, widen_normal, cut_up_normal}
use Rattle.report_rules.specs.Rules.{Rules}
use Rattle.report_rules.specs.Effects.{last_expands, target_of, targets_of, function_target, local_of_bind, locals_of_binds}
use Rattle.report_rules.specs.TypeMap.{TypeMap, no_map, refine, first_type}
use Rattle.report_rules.specs.Forward.{typ, types_of_list, type_of_target, literal_type, after, after_list}
use Rattle.report_rules.specs.After.{after_maybe, after_bounds, while_head, while_map, repeat_map, number_head, number_map, iteration_map, compound_type, after_stat, after_kind, after_block, ends_of_arms, end_of_last, where_live, returned, returned_in, returned_block, returned_arms, returned_last, summary}
use Rattle.normal_rules.specs.Normal.{IsNormal, HaveNormalTypes}
use Rattle.normal_rules.proofs.Maps.{IsNormalMap, pick, no_map_normal, set_normal, refine_normal, joined_normal, head_normal, set_all_normal, written_normal, assigned_normal, first_type_normal}
use Rattle.normal_rules.proofs.Forward.{binary_normal, after_normal, after_list_normal, list_normal}

maybe_normal : (rules : Rules) (map : TypeMap) (e : MaybeExpr) → IsNormalMap map → IsNormalMap (after_maybe rules map e)
maybe_normal rules map no_expr n = n
maybe_normal rules map (an_expr e) n = after_normal rules map e n

bounds_normal : (rules : Rules) (map : TypeMap) (from to : Expr) (by : MaybeExpr) → IsNormalMap map → IsNormalMap (after_bounds rules map from to by)
bounds_normal rules map from to by n =
    maybe_normal rules (after rules (after rules map from) to) by (after_normal rules (after rules map from) to (after_normal rules map from n))

pub while_head_normal : (rules : Rules) (span : Span) (cond : Expr) (body : Block) (map : TypeMap) → IsNormalMap map → IsNormalMap (while_head rules span cond body map)
while_head_normal rules span cond body map n = head_normal rules (the_stat span (While cond body)) map n

pub while_map_normal : (rules : Rules) (span : Span) (cond : Expr) (body : Block) (map : TypeMap) → IsNormalMap map → IsNormalMap (while_map rules span cond body map)
while_map_normal rules span cond body map n =
    refine_normal rules cond true (after rules (while_head rules span cond body map) cond)
    (after_normal rules (while_head rules span cond body map) cond (while_head_normal rules span cond body map n))

pub repeat_map_normal : (rules : Rules) (span : Span) (body : Block) (cond : Expr) (map : TypeMap) → IsNormalMap map → IsNormalMap (repeat_map rules span body cond map)
repeat_map_normal rules span body cond map n = head_normal rules (the_stat span (Repeat body cond)) map n

pub number_head_normal : (rules : Rules) (span : Span) (bind : Bind) (from to : Expr) (by : MaybeExpr) (body : Block) (map : TypeMap) → IsNormalMap map
    → IsNormalMap (number_head rules span bind from to by body map)
number_head_normal rules span bind from to by body map n =
    head_normal rules (the_stat span (NumFor bind from to by body)) (after_bounds rules map from to by) (bounds_normal rules map from to by n)

pub number_map_normal : (rules : Rules) (span : Span) (bind : Bind) (from to : Expr) (by : MaybeExpr) (body : Block) (map : TypeMap) → IsNormalMap map
    → IsNormalMap (number_map rules span bind from to by body map)
number_map_normal rules span bind from to by body map n =
    set_normal rules (local_of_bind rules bind) number_type (number_head rules span bind from to by body map) refl (number_head_normal rules span bind from to by body map n)

pub iteration_map_normal : (rules : Rules) (span : Span) (binds : Binds) (values : Exprs) (body : Block) (map : TypeMap) → IsNormalMap map
    → IsNormalMap (iteration_map rules span binds values body map)
iteration_map_normal rules span binds values body map n =
    head_normal rules (the_stat span (GenFor binds values body)) (after_list rules map values) (after_list_normal rules map values n)

assign_normal : (rules : Rules) (map : TypeMap) (targets values : Exprs) → HaveNormalTypes rules → IsNormalMap map
    → IsNormalMap (after_kind rules map (record { start = 0; end = 0 }) (Assign targets values))
assign_normal rules map targets values h n =
    let at_values : IsNormalMap (after_list rules map targets) = after_list_normal rules map targets n in
    assigned_normal rules (targets_of rules targets) (last_expands values) (types_of_list rules (after_list rules map targets) values)
    (after_list rules (after_list rules map targets) values) (list_normal rules (after_list rules map targets) values h at_values)
    (after_list_normal rules (after_list rules map targets) values at_values)

mutual
  pub after_stat_normal : (rules : Rules) (map : TypeMap) (s : Stat) → HaveNormalTypes rules → IsNormalMap map → IsNormalMap (after_stat rules map s)
  after_stat_normal rules map (the_stat span kind) h n = after_kind_normal rules map span kind h n

  after_kind_normal : (rules : Rules) (map : TypeMap) (span : Span) (kind : StatKind) → HaveNormalTypes rules → IsNormalMap map → IsNormalMap (after_kind rules map span kind)
  after_kind_normal rules map span (Local binds values) h n =
      set_all_normal rules (locals_of_binds rules binds) (last_expands values) (types_of_list rules map values) (after_list rules map values)
      (list_normal rules map values h n) (after_list_normal rules map values n)
  after_kind_normal rules map span (Assign targets values) h n = assign_normal rules map targets values h n
  after_kind_normal rules map span (Compound target op e) h n =
      written_normal rules (target_of rules target) (compound_type rules map target op e) (after rules (after rules map target) e)
      (binary_normal op (type_of_target rules map target) (typ rules (after rules map target) e))
      (after_normal rules (after rules map target) e (after_normal rules map target n))
  after_kind_normal rules map span (FunctionStat path method body) h n =
      written_normal rules (function_target rules path method) (literal_type rules body) (after rules map path) refl (after_normal rules map path n)
  after_kind_normal rules map span (LocalFunction name body) h n = set_normal rules (local_of_bind rules name) (literal_type rules body) map refl n
  after_kind_normal rules map span (CallStat e) h n = after_normal rules map e n
  after_kind_normal rules map span (Do body) h n = after_block_normal rules map body h n
  after_kind_normal rules map span (If arms last) h n =
      joined_normal (ends_of_arms rules map arms (λ at_last. end_of_last rules at_last last))
      (ends_normal rules map arms (λ at_last. end_of_last rules at_last last) h n (λ at_last m. last_normal rules at_last last h m))
  after_kind_normal rules map span (While cond body) h n = while_head_normal rules span cond body map n
  after_kind_normal rules map span (Repeat body cond) h n = repeat_map_normal rules span body cond map n
  after_kind_normal rules map span (NumFor bind from to by body) h n = number_head_normal rules span bind from to by body map n
  after_kind_normal rules map span (GenFor binds values body) h n = iteration_map_normal rules span binds values body map n
  after_kind_normal rules map span (Return values) h n = after_list_normal rules map values n
  after_kind_normal rules map span Break h n = n
  after_kind_normal rules map span Continue h n = n
  after_kind_normal rules map span (TypeAlias exported name generics syntax) h n = n
  after_kind_normal rules map span (TypeFunction exported name body) h n = n

  pub after_block_normal : (rules : Rules) (map : TypeMap) (block : Block) → HaveNormalTypes rules → IsNormalMap map → IsNormalMap (after_block rules map block)
  after_block_normal rules map no_stats h n = n
  after_block_normal rules map (more_stats s rest) h n = after_block_normal rules (after_stat rules map s) rest h (after_stat_normal rules map s h n)

  ends_normal : (rules : Rules) (map : TypeMap) (arms : Arms) (last : TypeMap → TypeMap) → HaveNormalTypes rules → IsNormalMap map
      → ((at_last : TypeMap) → IsNormalMap at_last → IsNormalMap (last at_last)) → AllByRecursion IsNormalMap (ends_of_arms rules map arms last)
  ends_normal rules map no_arms last h n l = (l map n, tt)
  ends_normal rules map (more_arms cond body rest) last h n l = (
    after_block_normal rules (refine rules cond true (after rules map cond)) body h (refine_normal rules cond true (after rules map cond) (after_normal rules map cond n)),
    ends_normal rules (refine rules cond false (after rules map cond)) rest last h (refine_normal rules cond false (after rules map cond) (after_normal rules map cond n)) l,
  )

  last_normal : (rules : Rules) (map : TypeMap) (last : MaybeBlock) → HaveNormalTypes rules → IsNormalMap map → IsNormalMap (end_of_last rules map last)
  last_normal rules map no_block h n = n
  last_normal rules map (a_block body) h n = after_block_normal rules map body h n

-- ---- what a module gives

where_normal : (map : TypeMap) (type : Term) → IsNormal type → IsNormal (where_live map type)
where_normal map type n = pick map.dead never type refl n

mutual
  returned_normal : (rules : Rules) (map : TypeMap) (s : Stat) → HaveNormalTypes rules → IsNormalMap map → IsNormal (returned rules map s)
  returned_normal rules map (the_stat span kind) h n = returned_in_normal rules map span kind h n

  returned_in_normal : (rules : Rules) (map : TypeMap) (span : Span) (kind : StatKind) → HaveNormalTypes rules → IsNormalMap map → IsNormal (returned_in rules map span kind)
  returned_in_normal rules map span (Return values) h n =
      where_normal map (first_type false (types_of_list rules map values)) (first_type_normal false (types_of_list rules map values) (list_normal rules map values h n))
  returned_in_normal rules map span (Do body) h n = returned_block_normal rules map body h n
  returned_in_normal rules map span (If arms last) h n =
      returned_arms_normal rules map arms (λ at_last. returned_last rules at_last last) h n (λ at_last m. returned_last_normal rules at_last last h m)
  returned_in_normal rules map span (While cond body) h n = returned_block_normal rules (while_map rules span cond body map) body h (while_map_normal rules span cond body map n)
  returned_in_normal rules map span (Repeat body cond) h n = returned_block_normal rules (repeat_map rules span body cond map) body h (repeat_map_normal rules span body cond map n)
  returned_in_normal rules map span (NumFor bind from to by body) h n =
      returned_block_normal rules (number_map rules span bind from to by body map) body h (number_map_normal rules span bind from to by body map n)
  returned_in_normal rules map span (GenFor binds values body) h n =
      returned_block_normal rules (iteration_map rules span binds values body map) body h (iteration_map_normal rules span binds values body map n)
  returned_in_normal rules map span _ h n = refl

  returned_block_normal : (rules : Rules) (map : TypeMap) (block : Block) → HaveNormalTypes rules → IsNormalMap map → IsNormal (returned_block rules map block)
  returned_block_normal rules map no_stats h n = refl
  returned_block_normal rules map (more_stats s rest) h n =
      union_normal (returned rules map s) (returned_block rules (after_stat rules map s) rest) (returned_normal rules map s h n)
      (returned_block_normal rules (after_stat rules map s) rest h (after_stat_normal rules map s h n))

  returned_arms_normal : (rules : Rules) (map : TypeMap) (arms : Arms) (last : TypeMap → Term) → HaveNormalTypes rules → IsNormalMap map
      → ((at_last : TypeMap) → IsNormalMap at_last → IsNormal (last at_last)) → IsNormal (returned_arms rules map arms last)
  returned_arms_normal rules map no_arms last h n l = l map n
  returned_arms_normal rules map (more_arms cond body rest) last h n l =
      union_normal (returned_block rules (refine rules cond true (after rules map cond)) body) (returned_arms rules (refine rules cond false (after rules map cond)) rest last)
      (returned_block_normal rules (refine rules cond true (after rules map cond)) body h (refine_normal rules cond true (after rules map cond) (after_normal rules map cond n)))
      (returned_arms_normal rules (refine rules cond false (after rules map cond)) rest last h (refine_normal rules cond false (after rules map cond) (after_normal rules map cond n)) l)

  returned_last_normal : (rules : Rules) (map : TypeMap) (last : MaybeBlock) → HaveNormalTypes rules → IsNormalMap map → IsNormal (returned_last rules map last)
  returned_last_normal rules map no_block h n = refl
  returned_last_normal rules map (a_block body) h n = returned_block_normal rules map body h n

pub summary_normal : (rules : Rules) → HaveNormalTypes rules → IsNormal (summary rules)
summary_normal rules h =
    let block = rules.reading.block in
    let all = union (returned_block rules no_map block) (where_live (after_block rules no_map block) nil_type) in
    cut_up_normal (widen all) (widen_normal all
    (union_normal (returned_block rules no_map block) (where_live (after_block rules no_map block) nil_type)
    (returned_block_normal rules no_map block h no_map_normal) (where_normal (after_block rules no_map block) nil_type refl)))
