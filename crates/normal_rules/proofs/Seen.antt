-- The types of what is seen of a module are in normal form.
use Rattle.std.proofs.Common.{ℕ, true, false, List, [], ◌∷◌, ◌++◌, refl}
use Rattle.std.specs.Prelude.{◌==◌, Some, None}
use Rattle.std.specs.List.{AllByRecursion}
use Rattle.luau_tree.specs.declared.position.Span.{Span}
use Rattle.luau_tree.specs.declared.names.BinOp.TheVariants.{Or, And}
use Rattle.luau_tree.specs.Tree.{Block, no_stats, more_stats, Stat, the_stat, StatKind, Assign, Compound, CallStat, Do, While, Repeat, If, NumFor, GenFor, FunctionStat, LocalFunction, Local, Return, Arms, no_arms, more_arms, MaybeBlock, no_block, a_block}
use Rattle.luau_tree.specs.Tree.{Expr, the_expr, Exprs, no_exprs, more_exprs, MaybeExpr, no_expr, an_expr, ExprKind, FunctionExpr, Index, At, Call, Method, Paren, Unary, Binary, IfElse, TableExpr, Interp, Assert, Choices, no_choices, more_choices, Item, Field, Keyed, Plain, Items, no_items, more_items}
use Rattle.luau_tree.specs.Tree.{Body, the_body}
use Rattle.report_rules.specs.Rules.{Rules}
use Rattle.report_rules.specs.Effects.{effects_of_item, locals_of_binds, local_of_bind}
use Rattle.report_rules.specs.TypeMap.{TypeMap, no_map, refine, body_map}
use Rattle.report_rules.specs.Forward.{literal_type, after, after_list, after_part}
use Rattle.report_rules.specs.After.{after_stat, while_head, while_map, repeat_map, number_map, iteration_map}
use Rattle.report_rules.specs.Seen.{Seen, SeenExpr, SeenBody, type_at, own_map, seen_expr, seen_in, seen_list, seen_maybe, seen_choices, seen_items, seen_item, seen_target, seen_targets, seen_body, seen_block, seen_stat, seen_kind, seen_arms, seen_last, seen_module}
use Rattle.normal_rules.specs.Normal.{IsNormal, HaveNormalTypes, IsSeenNormal}
use Rattle.normal_rules.proofs.Maps.{IsNormalMap, pick, no_map_normal, set_normal, refine_normal, body_map_normal}
use Rattle.normal_rules.proofs.Forward.{after_normal, after_list_normal, after_part_normal, typ_normal, target_normal}
use Rattle.normal_rules.proofs.After.{after_stat_normal, while_head_normal, while_map_normal, repeat_map_normal, number_map_normal, iteration_map_normal}

abbrev AllSeen : List Seen → Type 0
AllSeen = AllByRecursion IsSeenNormal

both : (xs ys : List Seen) → AllSeen xs → AllSeen ys → AllSeen (xs ++ ys)
both [] ys p q = q
both (x ∷ xs) ys p q = (p.0, both xs ys p.1 q)

three : (xs ys zs : List Seen) → AllSeen xs → AllSeen ys → AllSeen zs → AllSeen (xs ++ ys ++ zs)
three xs ys zs p q r = both (xs ++ ys) zs (both xs ys p q) r

mutual
  expr_seen : (rules : Rules) (map : TypeMap) (e : Expr) → HaveNormalTypes rules → IsNormalMap map → AllSeen (seen_expr rules map e)
  expr_seen rules map (the_expr id span kind) h n = (typ_normal rules map (the_expr id span kind) h n, in_seen rules map kind h n)

  in_seen : (rules : Rules) (map : TypeMap) (kind : ExprKind) → HaveNormalTypes rules → IsNormalMap map → AllSeen (seen_in rules map kind)
  in_seen rules map (FunctionExpr body) h n = body_seen rules map body h n
  in_seen rules map (Index base name) h n = expr_seen rules map base h n
  in_seen rules map (At base key) h n =
      both (seen_expr rules map base) (seen_expr rules (after rules map base) key) (expr_seen rules map base h n) (expr_seen rules (after rules map base) key h (after_normal rules map base n))
  in_seen rules map (Call callee args) h n =
      both (seen_expr rules map callee) (seen_list rules (after rules map callee) args) (expr_seen rules map callee h n) (list_seen rules (after rules map callee) args h (after_normal rules map callee n))
  in_seen rules map (Method base name name_span args) h n =
      both (seen_expr rules map base) (seen_list rules (after rules map base) args) (expr_seen rules map base h n) (list_seen rules (after rules map base) args h (after_normal rules map base n))
  in_seen rules map (Paren e) h n = expr_seen rules map e h n
  in_seen rules map (Unary op e) h n = expr_seen rules map e h n
  in_seen rules map (Binary And left right) h n =
      both (seen_expr rules map left) (seen_expr rules (refine rules left true (after rules map left)) right) (expr_seen rules map left h n)
      (expr_seen rules (refine rules left true (after rules map left)) right h (refine_normal rules left true (after rules map left) (after_normal rules map left n)))
  in_seen rules map (Binary Or left right) h n =
      both (seen_expr rules map left) (seen_expr rules (refine rules left false (after rules map left)) right) (expr_seen rules map left h n)
      (expr_seen rules (refine rules left false (after rules map left)) right h (refine_normal rules left false (after rules map left) (after_normal rules map left n)))
  in_seen rules map (Binary op left right) h n =
      both (seen_expr rules map left) (seen_expr rules (after rules map left) right) (expr_seen rules map left h n) (expr_seen rules (after rules map left) right h (after_normal rules map left n))
  in_seen rules map (IfElse arms last) h n =
      choices_seen rules map arms (λ at_last. seen_expr rules at_last last) h n (λ at_last m. expr_seen rules at_last last h m)
  in_seen rules map (TableExpr items) h n = items_seen rules map items h n
  in_seen rules map (Interp texts parts) h n = list_seen rules map parts h n
  in_seen rules map (Assert e syntax) h n = expr_seen rules map e h n
  in_seen rules map _ h n = tt

  list_seen : (rules : Rules) (map : TypeMap) (es : Exprs) → HaveNormalTypes rules → IsNormalMap map → AllSeen (seen_list rules map es)
  list_seen rules map no_exprs h n = tt
  list_seen rules map (more_exprs e rest) h n =
      both (seen_expr rules map e) (seen_list rules (after rules map e) rest) (expr_seen rules map e h n) (list_seen rules (after rules map e) rest h (after_normal rules map e n))

  maybe_seen : (rules : Rules) (map : TypeMap) (e : MaybeExpr) → HaveNormalTypes rules → IsNormalMap map → AllSeen (seen_maybe rules map e)
  maybe_seen rules map no_expr h n = tt
  maybe_seen rules map (an_expr e) h n = expr_seen rules map e h n

  choices_seen : (rules : Rules) (map : TypeMap) (arms : Choices) (last : TypeMap → List Seen) → HaveNormalTypes rules → IsNormalMap map
      → ((at_last : TypeMap) → IsNormalMap at_last → AllSeen (last at_last)) → AllSeen (seen_choices rules map arms last)
  choices_seen rules map no_choices last h n l = l map n
  choices_seen rules map (more_choices cond e rest) last h n l =
      three (seen_expr rules map cond) (seen_expr rules (refine rules cond true (after rules map cond)) e)
      (seen_choices rules (refine rules cond false (after rules map cond)) rest last)
      (expr_seen rules map cond h n)
      (expr_seen rules (refine rules cond true (after rules map cond)) e h (refine_normal rules cond true (after rules map cond) (after_normal rules map cond n)))
      (choices_seen rules (refine rules cond false (after rules map cond)) rest last h (refine_normal rules cond false (after rules map cond) (after_normal rules map cond n)) l)

  items_seen : (rules : Rules) (map : TypeMap) (items : Items) → HaveNormalTypes rules → IsNormalMap map → AllSeen (seen_items rules map items)
  items_seen rules map no_items h n = tt
  items_seen rules map (more_items item rest) h n =
      both (seen_item rules map item) (seen_items rules (after_part (effects_of_item rules item) map) rest) (item_seen rules map item h n)
      (items_seen rules (after_part (effects_of_item rules item) map) rest h (after_part_normal (effects_of_item rules item) map n))

  item_seen : (rules : Rules) (map : TypeMap) (item : Item) → HaveNormalTypes rules → IsNormalMap map → AllSeen (seen_item rules map item)
  item_seen rules map (Field name e) h n = expr_seen rules map e h n
  item_seen rules map (Keyed key e) h n =
      both (seen_expr rules map key) (seen_expr rules (after rules map key) e) (expr_seen rules map key h n) (expr_seen rules (after rules map key) e h (after_normal rules map key n))
  item_seen rules map (Plain e) h n = expr_seen rules map e h n

  target_seen : (rules : Rules) (map : TypeMap) (e : Expr) → HaveNormalTypes rules → IsNormalMap map → AllSeen (seen_target rules map e)
  target_seen rules map (the_expr id span kind) h n = (target_normal rules map (the_expr id span kind) h n, in_seen rules map kind h n)

  targets_seen : (rules : Rules) (map : TypeMap) (es : Exprs) → HaveNormalTypes rules → IsNormalMap map → AllSeen (seen_targets rules map es)
  targets_seen rules map no_exprs h n = tt
  targets_seen rules map (more_exprs e rest) h n =
      both (seen_target rules map e) (seen_targets rules (after rules map e) rest) (target_seen rules map e h n) (targets_seen rules (after rules map e) rest h (after_normal rules map e n))

  body_seen : (rules : Rules) (map : TypeMap) (body : Body) → HaveNormalTypes rules → IsNormalMap map → AllSeen (seen_body rules map body)
  body_seen rules map (the_body id has_self generics params vararg result block span) h n =
      (tt, block_seen rules (body_map (locals_of_binds rules params) map) block h (body_map_normal (locals_of_binds rules params) map n))

  block_seen : (rules : Rules) (map : TypeMap) (block : Block) → HaveNormalTypes rules → IsNormalMap map → AllSeen (seen_block rules map block)
  block_seen rules map no_stats h n = tt
  block_seen rules map (more_stats s rest) h n =
      both (seen_stat rules map s) (seen_block rules (after_stat rules map s) rest) (stat_seen rules map s h n) (block_seen rules (after_stat rules map s) rest h (after_stat_normal rules map s h n))

  stat_seen : (rules : Rules) (map : TypeMap) (s : Stat) → HaveNormalTypes rules → IsNormalMap map → AllSeen (seen_stat rules map s)
  stat_seen rules map (the_stat span kind) h n = kind_seen rules map span kind h n

  kind_seen : (rules : Rules) (map : TypeMap) (span : Span) (kind : StatKind) → HaveNormalTypes rules → IsNormalMap map → AllSeen (seen_kind rules map span kind)
  kind_seen rules map span (Assign targets values) h n =
      both (seen_targets rules map targets) (seen_list rules (after_list rules map targets) values) (targets_seen rules map targets h n)
      (list_seen rules (after_list rules map targets) values h (after_list_normal rules map targets n))
  kind_seen rules map span (Compound target op e) h n =
      both (seen_target rules map target) (seen_expr rules (after rules map target) e) (target_seen rules map target h n) (expr_seen rules (after rules map target) e h (after_normal rules map target n))
  kind_seen rules map span (CallStat e) h n = expr_seen rules map e h n
  kind_seen rules map span (Do body) h n = block_seen rules map body h n
  kind_seen rules map span (While cond body) h n =
      both (seen_expr rules (while_head rules span cond body map) cond) (seen_block rules (while_map rules span cond body map) body)
      (expr_seen rules (while_head rules span cond body map) cond h (while_head_normal rules span cond body map n))
      (block_seen rules (while_map rules span cond body map) body h (while_map_normal rules span cond body map n))
  kind_seen rules map span (Repeat body cond) h n =
      both (seen_block rules (repeat_map rules span body cond map) body) (seen_expr rules (repeat_map rules span body cond map) cond)
      (block_seen rules (repeat_map rules span body cond map) body h (repeat_map_normal rules span body cond map n))
      (expr_seen rules (repeat_map rules span body cond map) cond h (repeat_map_normal rules span body cond map n))
  kind_seen rules map span (If arms last) h n =
      arms_seen rules map arms (λ at_last. seen_last rules at_last last) h n (λ at_last m. last_seen rules at_last last h m)
  kind_seen rules map span (NumFor bind from to by body) h n =
      let at_to : IsNormalMap (after rules map from) = after_normal rules map from n in
      both (seen_expr rules map from ++ seen_expr rules (after rules map from) to ++ seen_maybe rules (after rules (after rules map from) to) by)
      (seen_block rules (number_map rules span bind from to by body map) body)
      (three (seen_expr rules map from) (seen_expr rules (after rules map from) to) (seen_maybe rules (after rules (after rules map from) to) by)
      (expr_seen rules map from h n) (expr_seen rules (after rules map from) to h at_to)
      (maybe_seen rules (after rules (after rules map from) to) by h (after_normal rules (after rules map from) to at_to)))
      (block_seen rules (number_map rules span bind from to by body map) body h (number_map_normal rules span bind from to by body map n))
  kind_seen rules map span (GenFor binds values body) h n =
      both (seen_list rules map values) (seen_block rules (iteration_map rules span binds values body map) body) (list_seen rules map values h n)
      (block_seen rules (iteration_map rules span binds values body map) body h (iteration_map_normal rules span binds values body map n))
  kind_seen rules map span (FunctionStat path None body) h n =
      both (seen_target rules map path) (seen_body rules (after rules map path) body) (target_seen rules map path h n) (body_seen rules (after rules map path) body h (after_normal rules map path n))
  kind_seen rules map span (FunctionStat path (Some method) body) h n =
      both (seen_expr rules map path) (seen_body rules (after rules map path) body) (expr_seen rules map path h n) (body_seen rules (after rules map path) body h (after_normal rules map path n))
  kind_seen rules map span (LocalFunction name body) h n =
      body_seen rules (own_map rules (local_of_bind rules name) body map) body h (set_normal rules (local_of_bind rules name) (literal_type rules body) map refl n)
  kind_seen rules map span (Local binds values) h n = list_seen rules map values h n
  kind_seen rules map span (Return values) h n = list_seen rules map values h n
  kind_seen rules map span _ h n = tt

  arms_seen : (rules : Rules) (map : TypeMap) (arms : Arms) (last : TypeMap → List Seen) → HaveNormalTypes rules → IsNormalMap map
      → ((at_last : TypeMap) → IsNormalMap at_last → AllSeen (last at_last)) → AllSeen (seen_arms rules map arms last)
  arms_seen rules map no_arms last h n l = l map n
  arms_seen rules map (more_arms cond body rest) last h n l =
      three (seen_expr rules map cond) (seen_block rules (refine rules cond true (after rules map cond)) body)
      (seen_arms rules (refine rules cond false (after rules map cond)) rest last)
      (expr_seen rules map cond h n)
      (block_seen rules (refine rules cond true (after rules map cond)) body h (refine_normal rules cond true (after rules map cond) (after_normal rules map cond n)))
      (arms_seen rules (refine rules cond false (after rules map cond)) rest last h (refine_normal rules cond false (after rules map cond) (after_normal rules map cond n)) l)

  last_seen : (rules : Rules) (map : TypeMap) (last : MaybeBlock) → HaveNormalTypes rules → IsNormalMap map → AllSeen (seen_last rules map last)
  last_seen rules map no_block h n = tt
  last_seen rules map (a_block body) h n = block_seen rules map body h n

pub module_seen : (rules : Rules) → HaveNormalTypes rules → AllByRecursion IsSeenNormal (seen_module rules)
module_seen rules h = block_seen rules no_map rules.reading.block h no_map_normal

pub type_seen : (seen : List Seen) (id : ℕ) → AllByRecursion IsSeenNormal seen → IsNormal (type_at seen id)
type_seen [] id all = refl
type_seen (SeenExpr other type live ∷ seen) id all = pick (other == id) type (type_at seen id) all.0 (type_seen seen id all.1)
type_seen (SeenBody other live ∷ seen) id all = type_seen seen id all.1
