-- What a statement that doesn't stir leaves of what is known of a local that it doesn't touch.
use Rattle.std.proofs.Common.{◌≡◌, ℕ, Bool, true, false, ◌==◌, ◌||◌, List, [], ◌∷◌, if◌then◌else◌, refl, ◌∙◌, true≢false, arith}
use Rattle.std.proofs.lemmas.Bool.Decides.{nat_tests}
use Rattle.luau_tree.specs.declared.position.Span.{Span}
use Rattle.luau_tree.specs.Tree.{Block, no_stats, more_stats, Stat, the_stat, StatKind, Assign, Compound, CallStat, Do, While, Repeat, If, NumFor, GenFor, FunctionStat, LocalFunction, Local, TypeAlias, TypeFunction, Return, Break, Continue, MaybeExpr, no_expr, an_expr}
use Rattle.luau_run.specs.ReadFolder.{is_among}
use Rattle.type_arena.specs.Term.{Term}
use Rattle.type_normal.specs.Cut.{cut_up}
use Rattle.report_rules.specs.Rules.{Rules}
use Rattle.report_rules.specs.Effects.{Target, OfLocal, OfGlobal, OfField, OfElement, effects, any_effects, effects_of_maybe, last_expands, target_of, targets_of, function_target, local_of_bind, locals_of_binds, is_in_table, any_in_table, writes_local, any_writes_local, stirs, stirs_in, stirs_block, assigns, assigns_block, declares, declares_block, touches, branches, branches_in, branches_block}
use Rattle.report_rules.specs.TypeMap.{TypeMap, set, set_all, not_given, first_type, stored, disturbed, written, stored_all, disturbed_all, assigned_all, head}
use Rattle.report_rules.specs.Forward.{types_of_list, literal_type, after, after_list, after_part}
use Rattle.report_rules.specs.After.{after_maybe, after_bounds, compound_type, after_stat, after_kind, after_block}

no_left : (a b : Bool) → a || b ≡ false → a ≡ false
no_left true b e = absurd (true≢false e)
no_left false b e = refl

no_right : (a b : Bool) → a || b ≡ false → b ≡ false
no_right true b e = absurd (true≢false e)
no_right false b e = e

neither : (a b : Bool) → a ≡ false → b ≡ false → a || b ≡ false
neither true b e f = absurd (true≢false e)
neither false b e f = f

-- whether two numbers are the same, seen from the other side
turned : (x l : ℕ) → (l == x) ≡ false → (x == l) ≡ false
turned x l e = grind (arith, nat_tests)

-- an entry is taken by a test that came out false
other_by : {X : Type 0} (b : Bool) (x y : X) → b ≡ false → (if b then x else y) ≡ y
other_by true x y e = absurd (true≢false e)
other_by false x y e = refl

part_kept : (b : Bool) (m : TypeMap) (x : ℕ) → b ≡ false → (after_part b m).entry x ≡ m.entry x
part_kept true m x e = absurd (true≢false e)
part_kept false m x e = refl

set_kept : (rules : Rules) (l : ℕ) (t : Term) (m : TypeMap) (x : ℕ) → (x == l) ≡ false → (set rules l t m).entry x ≡ m.entry x
set_kept rules l t m x e = other_by (x == l) (cut_up t) (m.entry x) e

set_all_kept : (rules : Rules) (ls : List ℕ) (b : Bool) (ts : List Term) (m : TypeMap) (x : ℕ) → is_among x ls ≡ false
    → (set_all rules ls b ts m).entry x ≡ m.entry x
set_all_kept rules [] b ts m x e = refl
set_all_kept rules (l ∷ ls) b [] m x e =
    set_all_kept rules ls b [] (set rules l (not_given b) m) x (no_right (x == l) (is_among x ls) e)
    ∙ set_kept rules l (not_given b) m x (no_left (x == l) (is_among x ls) e)
set_all_kept rules (l ∷ ls) b (t ∷ ts) m x e =
    set_all_kept rules ls b ts (set rules l t m) x (no_right (x == l) (is_among x ls) e) ∙ set_kept rules l t m x (no_left (x == l) (is_among x ls) e)

stored_kept : (rules : Rules) (to : Target) (t : Term) (m : TypeMap) (x : ℕ) → writes_local x to ≡ false → (stored rules to t m).entry x ≡ m.entry x
stored_kept rules (OfLocal l) t m x e = set_kept rules l t m x (turned x l e)
stored_kept rules OfGlobal t m x e = refl
stored_kept rules (OfField base name) t m x e = refl
stored_kept rules OfElement t m x e = refl

written_kept : (rules : Rules) (to : Target) (t : Term) (m : TypeMap) (x : ℕ) → is_in_table to ≡ false → writes_local x to ≡ false
    → (written rules to t m).entry x ≡ m.entry x
written_kept rules (OfLocal l) t m x f e = stored_kept rules (OfLocal l) t m x e
written_kept rules OfGlobal t m x f e = refl
written_kept rules (OfField base name) t m x f e = absurd (true≢false f)
written_kept rules OfElement t m x f e = absurd (true≢false f)

stored_all_kept : (rules : Rules) (to : List Target) (b : Bool) (ts : List Term) (m : TypeMap) (x : ℕ) → any_writes_local x to ≡ false
    → (stored_all rules to b ts m).entry x ≡ m.entry x
stored_all_kept rules [] b ts m x e = refl
stored_all_kept rules (t ∷ to) b [] m x e =
    stored_all_kept rules to b [] (stored rules t (not_given b) m) x (no_right (writes_local x t) (any_writes_local x to) e)
    ∙ stored_kept rules t (not_given b) m x (no_left (writes_local x t) (any_writes_local x to) e)
stored_all_kept rules (t ∷ to) b (v ∷ vs) m x e =
    stored_all_kept rules to b vs (stored rules t v m) x (no_right (writes_local x t) (any_writes_local x to) e)
    ∙ stored_kept rules t v m x (no_left (writes_local x t) (any_writes_local x to) e)

disturbed_kept : (to : Target) (m : TypeMap) (x : ℕ) → is_in_table to ≡ false → (disturbed to m).entry x ≡ m.entry x
disturbed_kept (OfLocal l) m x f = refl
disturbed_kept OfGlobal m x f = refl
disturbed_kept (OfField base name) m x f = absurd (true≢false f)
disturbed_kept OfElement m x f = absurd (true≢false f)

disturbed_all_kept : (to : List Target) (m : TypeMap) (x : ℕ) → any_in_table to ≡ false → (disturbed_all to m).entry x ≡ m.entry x
disturbed_all_kept [] m x f = refl
disturbed_all_kept (t ∷ to) m x f =
    disturbed_all_kept to (disturbed t m) x (no_right (is_in_table t) (any_in_table to) f) ∙ disturbed_kept t m x (no_left (is_in_table t) (any_in_table to) f)

assigned_kept : (rules : Rules) (to : List Target) (b : Bool) (ts : List Term) (m : TypeMap) (x : ℕ) → any_in_table to ≡ false
    → any_writes_local x to ≡ false → (assigned_all rules to b ts m).entry x ≡ m.entry x
assigned_kept rules [] b ts m x f e = refl
assigned_kept rules (t ∷ []) b ts m x f e =
    written_kept rules t (first_type b ts) m x (no_left (is_in_table t) false f) (no_left (writes_local x t) false e)
assigned_kept rules (t ∷ u ∷ to) b ts m x f e =
    disturbed_all_kept (t ∷ u ∷ to) (stored_all rules (t ∷ u ∷ to) b ts m) x f ∙ stored_all_kept rules (t ∷ u ∷ to) b ts m x e

maybe_kept : (rules : Rules) (m : TypeMap) (e : MaybeExpr) (x : ℕ) → effects_of_maybe rules e ≡ false → (after_maybe rules m e).entry x ≡ m.entry x
maybe_kept rules m no_expr x k = refl
maybe_kept rules m (an_expr e) x k = part_kept (effects rules e) m x k

head_kept : (rules : Rules) (loop : Stat) (m : TypeMap) (x : ℕ) → touches rules x loop ≡ false → stirs rules loop ≡ false
    → (head rules loop m).entry x ≡ m.entry x
head_kept rules loop m x t s = other_by (touches rules x loop) _ _ t ∙ other_by (stirs rules loop) _ _ s

mutual
  pub stat_kept : (rules : Rules) (m : TypeMap) (s : Stat) (x : ℕ) → branches s ≡ false → stirs rules s ≡ false → touches rules x s ≡ false
      → (after_stat rules m s).entry x ≡ m.entry x
  stat_kept rules m (the_stat span kind) x b s t = kind_kept rules m span kind x b s t

  kind_kept : (rules : Rules) (m : TypeMap) (span : Span) (kind : StatKind) (x : ℕ) → branches_in kind ≡ false → stirs_in rules kind ≡ false
      → touches rules x (the_stat span kind) ≡ false → (after_kind rules m span kind).entry x ≡ m.entry x
  kind_kept rules m span (Local binds vs) x b s t =
      set_all_kept rules (locals_of_binds rules binds) (last_expands vs) (types_of_list rules m vs) (after_list rules m vs) x t
      ∙ part_kept (any_effects rules vs) m x s
  kind_kept rules m span (Assign to vs) x b s t =
      let effects_alone = no_right (any_in_table (targets_of rules to)) (any_effects rules to || any_effects rules vs) s in
      assigned_kept rules (targets_of rules to) (last_expands vs) (types_of_list rules (after_list rules m to) vs) (after_list rules (after_list rules m to) vs) x
      (no_left (any_in_table (targets_of rules to)) (any_effects rules to || any_effects rules vs) s) (no_left (any_writes_local x (targets_of rules to)) false t)
      ∙ part_kept (any_effects rules vs) (after_list rules m to) x (no_right (any_effects rules to) (any_effects rules vs) effects_alone)
      ∙ part_kept (any_effects rules to) m x (no_left (any_effects rules to) (any_effects rules vs) effects_alone)
  kind_kept rules m span (Compound to op v) x b s t =
      let effects_alone = no_right (is_in_table (target_of rules to)) (effects rules to || effects rules v) s in
      written_kept rules (target_of rules to) (compound_type rules m to op v) (after rules (after rules m to) v) x
      (no_left (is_in_table (target_of rules to)) (effects rules to || effects rules v) s) (no_left (writes_local x (target_of rules to)) false t)
      ∙ part_kept (effects rules v) (after rules m to) x (no_right (effects rules to) (effects rules v) effects_alone)
      ∙ part_kept (effects rules to) m x (no_left (effects rules to) (effects rules v) effects_alone)
  kind_kept rules m span (FunctionStat path method body) x b s t =
      written_kept rules (function_target rules path method) (literal_type rules body) (after rules m path) x
      (no_left (is_in_table (function_target rules path method)) (effects rules path) s) (no_left (writes_local x (function_target rules path method)) false t)
      ∙ part_kept (effects rules path) m x (no_right (is_in_table (function_target rules path method)) (effects rules path) s)
  kind_kept rules m span (LocalFunction name body) x b s t = set_kept rules (local_of_bind rules name) (literal_type rules body) m x (turned x (local_of_bind rules name) t)
  kind_kept rules m span (CallStat call) x b s t = part_kept (effects rules call) m x s
  kind_kept rules m span (Do body) x b s t = block_kept rules m body x b s t
  kind_kept rules m span (If arms last) x b s t = absurd (true≢false b)
  kind_kept rules m span (While cond body) x b s t = head_kept rules (the_stat span (While cond body)) m x t s
  kind_kept rules m span (Repeat body cond) x b s t = head_kept rules (the_stat span (Repeat body cond)) m x t s
  kind_kept rules m span (NumFor bind from to by body) x b s t =
      let behind_from = no_right (effects rules from) (effects rules to || (effects_of_maybe rules by || stirs_block rules body)) s in
      let behind_to = no_right (effects rules to) (effects_of_maybe rules by || stirs_block rules body) behind_from in
      head_kept rules (the_stat span (NumFor bind from to by body)) (after_bounds rules m from to by) x t s
      ∙ maybe_kept rules (after rules (after rules m from) to) by x (no_left (effects_of_maybe rules by) (stirs_block rules body) behind_to)
      ∙ part_kept (effects rules to) (after rules m from) x (no_left (effects rules to) (effects_of_maybe rules by || stirs_block rules body) behind_from)
      ∙ part_kept (effects rules from) m x (no_left (effects rules from) (effects rules to || (effects_of_maybe rules by || stirs_block rules body)) s)
  kind_kept rules m span (GenFor binds vs body) x b s t = absurd (true≢false s)
  kind_kept rules m span (Return vs) x b s t = part_kept (any_effects rules vs) m x s
  kind_kept rules m span Break x b s t = refl
  kind_kept rules m span Continue x b s t = refl
  kind_kept rules m span (TypeAlias exported name generics syntax) x b s t = refl
  kind_kept rules m span (TypeFunction exported name body) x b s t = refl

  pub block_kept : (rules : Rules) (m : TypeMap) (b : Block) (x : ℕ) → branches_block b ≡ false → stirs_block rules b ≡ false
      → assigns_block rules x b || declares_block rules x b ≡ false → (after_block rules m b).entry x ≡ m.entry x
  block_kept rules m no_stats x b s t = refl
  block_kept rules m (more_stats first rest) x b s t =
      let assigned = no_left (assigns_block rules x (more_stats first rest)) (declares_block rules x (more_stats first rest)) t in
      let declared = no_right (assigns_block rules x (more_stats first rest)) (declares_block rules x (more_stats first rest)) t in
      block_kept rules (after_stat rules m first) rest x (no_right (branches first) (branches_block rest) b) (no_right (stirs rules first) (stirs_block rules rest) s)
      (neither (assigns_block rules x rest) (declares_block rules x rest) (no_right (assigns rules x first) (assigns_block rules x rest) assigned)
      (no_right (declares rules x first) (declares_block rules x rest) declared))
      ∙ stat_kept rules m first x (no_left (branches first) (branches_block rest) b) (no_left (stirs rules first) (stirs_block rules rest) s)
      (neither (assigns rules x first) (declares rules x first) (no_left (assigns rules x first) (assigns_block rules x rest) assigned)
      (no_left (declares rules x first) (declares_block rules x rest) declared))
