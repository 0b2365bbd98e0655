-- A dead map stays dead, whatever comes.
use Rattle.std.proofs.Common.{◌≡◌, ℕ, Bool, true, false, not, ◌&&◌, ◌||◌, List, [], ◌∷◌, Some, None, filter, if◌then◌else◌, refl, sym, true≢false}
use Rattle.std.specs.List.{list_any}
use Rattle.luau_tree.specs.declared.position.Span.{Span}
use Rattle.luau_tree.specs.Tree.{Block, no_stats, more_stats, Stat, the_stat, StatKind, Assign, Compound, CallStat, Do, While, Repeat, If, NumFor, GenFor, FunctionStat, LocalFunction, Local, TypeAlias, TypeFunction, Return, Break, Continue, Arms, no_arms, more_arms, MaybeBlock, no_block, a_block, Expr, MaybeExpr, no_expr, an_expr}
use Rattle.type_arena.specs.Term.{Term}
use Rattle.type_normal.specs.Rows.{is_empty}
use Rattle.type_normal.specs.HeapFree.{widen_at}
use Rattle.type_normal.specs.Field.{with_row_field}
use Rattle.report_rules.specs.Rules.{Rules, loose}
use Rattle.report_rules.specs.Effects.{Target, OfLocal, OfGlobal, OfField, OfElement, effects, any_effects, last_expands, target_of, targets_of, function_target, local_of_bind, locals_of_binds}
use Rattle.report_rules.specs.Guard.{guard, guarded}
use Rattle.report_rules.specs.TypeMap.{TypeMap, set, set_all, not_given, refined_by, refine, no_maps, stored, disturbed, with_field, written, stored_all, disturbed_all, assigned_all, first_type}
use Rattle.report_rules.specs.Forward.{types_of_list, literal_type, after, after_list, after_part}
use Rattle.report_rules.specs.After.{after_maybe, after_bounds, compound_type, after_stat, after_kind, after_block, ends_of_arms, end_of_last}

or_left : (a b : Bool) → a ≡ true → a || b ≡ true
or_left true b e = refl
or_left false b e = absurd (true≢false (sym e))

either_dead : (b : Bool) (m n : TypeMap) → m.dead ≡ true → n.dead ≡ true → (if b then m else n).dead ≡ true
either_dead true m n e k = e
either_dead false m n e k = k

part_dead : (b : Bool) (m : TypeMap) → m.dead ≡ true → (after_part b m).dead ≡ true
part_dead true m e = e
part_dead false m e = e

set_dead : (rules : Rules) (x : ℕ) (t : Term) (m : TypeMap) → m.dead ≡ true → (set rules x t m).dead ≡ true
set_dead rules x t m e = or_left m.dead (not (loose rules x) && is_empty t) e

set_all_dead : (rules : Rules) (xs : List ℕ) (b : Bool) (ts : List Term) (m : TypeMap) → m.dead ≡ true → (set_all rules xs b ts m).dead ≡ true
set_all_dead rules [] b ts m e = e
set_all_dead rules (x ∷ xs) b [] m e = set_all_dead rules xs b [] (set rules x (not_given b) m) (set_dead rules x (not_given b) m e)
set_all_dead rules (x ∷ xs) b (t ∷ ts) m e = set_all_dead rules xs b ts (set rules x t m) (set_dead rules x t m e)

refine_dead : (rules : Rules) (c : Expr) (b : Bool) (m : TypeMap) → m.dead ≡ true → (refine rules c b m).dead ≡ true
refine_dead rules c b m e = or_left m.dead (list_any (λ x. is_empty (refined_by (guard rules c b x) (m.entry x))) (guarded rules c)) e

stored_dead : (rules : Rules) (to : Target) (t : Term) (m : TypeMap) → m.dead ≡ true → (stored rules to t m).dead ≡ true
stored_dead rules (OfLocal x) t m e = set_dead rules x t m e
stored_dead rules OfGlobal t m e = e
stored_dead rules (OfField base p) t m e = e
stored_dead rules OfElement t m e = e

disturbed_dead : (to : Target) (m : TypeMap) → m.dead ≡ true → (disturbed to m).dead ≡ true
disturbed_dead (OfLocal x) m e = e
disturbed_dead OfGlobal m e = e
disturbed_dead (OfField base p) m e = e
disturbed_dead OfElement m e = e

with_field_dead : (rules : Rules) (to : Target) (t : Term) (m : TypeMap) → m.dead ≡ true → (with_field rules to t m).dead ≡ true
with_field_dead rules (OfLocal x) t m e = e
with_field_dead rules OfGlobal t m e = e
with_field_dead rules (OfField None p) t m e = e
with_field_dead rules (OfField (Some x) p) t m e =
    either_dead (loose rules x) m (set rules x (with_row_field p (widen_at p t) (m.entry x)) m) e (set_dead rules x (with_row_field p (widen_at p t) (m.entry x)) m e)
with_field_dead rules OfElement t m e = e

written_dead : (rules : Rules) (to : Target) (t : Term) (m : TypeMap) → m.dead ≡ true → (written rules to t m).dead ≡ true
written_dead rules to t m e =
    with_field_dead rules to t (disturbed to (stored rules to t m)) (disturbed_dead to (stored rules to t m) (stored_dead rules to t m e))

stored_all_dead : (rules : Rules) (to : List Target) (b : Bool) (ts : List Term) (m : TypeMap) → m.dead ≡ true → (stored_all rules to b ts m).dead ≡ true
stored_all_dead rules [] b ts m e = e
stored_all_dead rules (x ∷ xs) b [] m e = stored_all_dead rules xs b [] (stored rules x (not_given b) m) (stored_dead rules x (not_given b) m e)
stored_all_dead rules (x ∷ xs) b (t ∷ ts) m e = stored_all_dead rules xs b ts (stored rules x t m) (stored_dead rules x t m e)

disturbed_all_dead : (to : List Target) (m : TypeMap) → m.dead ≡ true → (disturbed_all to m).dead ≡ true
disturbed_all_dead [] m e = e
disturbed_all_dead (x ∷ xs) m e = disturbed_all_dead xs (disturbed x m) (disturbed_dead x m e)

assigned_dead : (rules : Rules) (to : List Target) (b : Bool) (ts : List Term) (m : TypeMap) → m.dead ≡ true → (assigned_all rules to b ts m).dead ≡ true
assigned_dead rules [] b ts m e = e
assigned_dead rules (x ∷ []) b ts m e = written_dead rules x (first_type b ts) m e
assigned_dead rules (x ∷ y ∷ xs) b ts m e =
    disturbed_all_dead (x ∷ y ∷ xs) (stored_all rules (x ∷ y ∷ xs) b ts m) (stored_all_dead rules (x ∷ y ∷ xs) b ts m e)

maybe_dead : (rules : Rules) (m : TypeMap) (e : MaybeExpr) → m.dead ≡ true → (after_maybe rules m e).dead ≡ true
maybe_dead rules m no_expr k = k
maybe_dead rules m (an_expr e) k = part_dead (effects rules e) m k

bounds_dead : (rules : Rules) (m : TypeMap) (from to : Expr) (by : MaybeExpr) → m.dead ≡ true → (after_bounds rules m from to by).dead ≡ true
bounds_dead rules m from to by k =
    maybe_dead rules (after rules (after rules m from) to) by (part_dead (effects rules to) (after rules m from) (part_dead (effects rules from) m k))

-- no end is live
abbrev none_live : List TypeMap → Type 0
none_live ends = no_maps (filter (λ map. not map.dead) ends) ≡ true

one_more_by : (b : Bool) (m : TypeMap) (live : List TypeMap) → b ≡ true → no_maps live ≡ true → no_maps (if not b then m ∷ live else live) ≡ true
one_more_by true m live e k = k
one_more_by false m live e k = absurd (true≢false (sym e))

one_more : (m : TypeMap) (ends : List TypeMap) → m.dead ≡ true → none_live ends → none_live (m ∷ ends)
one_more m ends e k = one_more_by m.dead m (filter (λ map. not map.dead) ends) e k

mutual
  pub stat_dead : (rules : Rules) (m : TypeMap) (s : Stat) → m.dead ≡ true → (after_stat rules m s).dead ≡ true
  stat_dead rules m (the_stat span kind) e = kind_dead rules m span kind e

  kind_dead : (rules : Rules) (m : TypeMap) (span : Span) (kind : StatKind) → m.dead ≡ true → (after_kind rules m span kind).dead ≡ true
  kind_dead rules m span (Local binds vs) e =
      set_all_dead rules (locals_of_binds rules binds) (last_expands vs) (types_of_list rules m vs) (after_list rules m vs) (part_dead (any_effects rules vs) m e)
  kind_dead rules m span (Assign to vs) e =
      assigned_dead rules (targets_of rules to) (last_expands vs) (types_of_list rules (after_list rules m to) vs) (after_list rules (after_list rules m to) vs)
      (part_dead (any_effects rules vs) (after_list rules m to) (part_dead (any_effects rules to) m e))
  kind_dead rules m span (Compound to op v) e =
      written_dead rules (target_of rules to) (compound_type rules m to op v) (after rules (after rules m to) v)
      (part_dead (effects rules v) (after rules m to) (part_dead (effects rules to) m e))
  kind_dead rules m span (FunctionStat path method body) e =
      written_dead rules (function_target rules path method) (literal_type rules body) (after rules m path) (part_dead (effects rules path) m e)
  kind_dead rules m span (LocalFunction name body) e = set_dead rules (local_of_bind rules name) (literal_type rules body) m e
  kind_dead rules m span (CallStat call) e = part_dead (effects rules call) m e
  kind_dead rules m span (Do body) e = block_dead rules m body e
  kind_dead rules m span (If arms last) e = arms_dead rules m arms (λ n. end_of_last rules n last) (λ n k. last_dead rules n last k) e
  kind_dead rules m span (While cond body) e = e
  kind_dead rules m span (Repeat body cond) e = e
  kind_dead rules m span (NumFor bind from to by body) e = bounds_dead rules m from to by e
  kind_dead rules m span (GenFor binds vs body) e = part_dead (any_effects rules vs) m e
  kind_dead rules m span (Return vs) e = refl
  kind_dead rules m span Break e = refl
  kind_dead rules m span Continue e = refl
  kind_dead rules m span (TypeAlias exported name generics syntax) e = e
  kind_dead rules m span (TypeFunction exported name body) e = e

  pub block_dead : (rules : Rules) (m : TypeMap) (b : Block) → m.dead ≡ true → (after_block rules m b).dead ≡ true
  block_dead rules m no_stats e = e
  block_dead rules m (more_stats s rest) e = block_dead rules (after_stat rules m s) rest (stat_dead rules m s e)

  arms_dead : (rules : Rules) (m : TypeMap) (arms : Arms) (last : TypeMap → TypeMap) → ((n : TypeMap) → n.dead ≡ true → (last n).dead ≡ true)
      → m.dead ≡ true → none_live (ends_of_arms rules m arms last)
  arms_dead rules m no_arms last h e = one_more (last m) [] (h m e) refl
  arms_dead rules m (more_arms cond body rest) last h e =
      one_more (after_block rules (refine rules cond true (after rules m cond)) body) (ends_of_arms rules (refine rules cond false (after rules m cond)) rest last)
      (block_dead rules (refine rules cond true (after rules m cond)) body (refine_dead rules cond true (after rules m cond) (part_dead (effects rules cond) m e)))
      (arms_dead rules (refine rules cond false (after rules m cond)) rest last h (refine_dead rules cond false (after rules m cond) (part_dead (effects rules cond) m e)))

  last_dead : (rules : Rules) (m : TypeMap) (last : MaybeBlock) → m.dead ≡ true → (end_of_last rules m last).dead ≡ true
  last_dead rules m no_block e = e
  last_dead rules m (a_block body) e = block_dead rules m body e
