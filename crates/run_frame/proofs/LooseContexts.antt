-- Contexts claim nothing of loose locals.
use Rattle.std.proofs.Common.{◌≡◌, ℕ, suc, Bool, true, false, not, ◌==◌, ◌&&◌, ◌||◌, if◌then◌else◌, List, [], ◌∷◌, Option, Some, None, ◌⊎◌, inl, inr, refl, sym, ◌∙◌, subst}
use Rattle.std.proofs.lemmas.Bool.{eqb-true}
use Rattle.std.specs.List.{list_any}
use Rattle.luau_values.specs.Value.{Value}
use Rattle.luau_values.specs.Heap.{Heap}
use Rattle.luau_tree.specs.declared.names.BinOp.TheVariants.{Or, And}
use Rattle.luau_tree.specs.Tree.{Block, no_stats, more_stats, Stat, the_stat, StatKind, Assign, Compound, CallStat, Do, While, Repeat, If, NumFor, GenFor, FunctionStat, LocalFunction, Local, Return, Break, Continue, Arms, no_arms, more_arms, MaybeBlock, no_block, a_block}
use Rattle.luau_tree.specs.Tree.{Expr, the_expr, Exprs, no_exprs, more_exprs, MaybeExpr, no_expr, an_expr, ExprKind, StrExpr, NameExpr, Index, At, Call, Method, Paren, Unary, Binary, IfElse, TableExpr, Interp, Assert, Choices, no_choices, more_choices, Item, Field, Keyed, Plain, Items, no_items, more_items}
use Rattle.luau_run.specs.ReadModule.{Use, UseLocal, UseBuiltin, UseLibrary, UseGlobal}
use Rattle.luau_run.specs.ReadFolder.{local_of}
use Rattle.type_arena.specs.Term.{Term, never}
use Rattle.type_normal.specs.Holds.{holds}
use Rattle.type_normal.specs.Operations.{union}
use Rattle.type_normal.specs.Cut.{cut_down}
use Rattle.type_normal.proofs.Public.{never_none, union_holds, cut_down_below, strip_below, strip_at_below, unknown_all}
use Rattle.report_rules.specs.Rules.{TypedBuiltin, Rules, loose, local_named}
use Rattle.report_rules.specs.Effects.{Target, OfLocal, OfGlobal, OfField, OfElement, target_of, targets_of, function_target, effects, effects_of_item, local_of_bind, locals_of_binds, stirs, touches, returns_block}
use Rattle.report_rules.specs.Guard.{guard}
use Rattle.report_rules.specs.Seen.{Seen}
use Rattle.report_rules.specs.Context.{Context, none, only_for, join, branch, stripped, stripped_at, without, pass, followed}
use Rattle.report_rules.specs.Errors.{unless_builtin, name_context, ev, ev_in, ev_parts, ev_args, ev_choices, ev_items, ev_item}
use Rattle.report_rules.specs.Statements.{Wanted, rest_wanted, ev_values, before_write, before_writes, ev_base, ev_target, ev_targets, ev_added, ev_compound, function_context, keep, until_context, ev_bound, ev_maybe_bound, ev_iteration, stm, stm_in, stm_block, stm_arms, stm_last}
use Rattle.report_rules.proofs.ContextFacts.{branch_holds}
use Rattle.run_frame.proofs.Guards.{guard_loose}

-- a context has no value for a local that is loose
abbrev pub SparesLoose : Rules → Context → Type 0
SparesLoose rules context = (x : ℕ) → loose rules x ≡ true → (h : Heap) (v : Value) → holds h v (context x) ≡ true → ⊥

-- nor has one of three
abbrev pub SparesAll : Rules → (behind breaks_to continues_to : Context) → Type 0
SparesAll rules behind breaks_to continues_to = SparesLoose rules behind × SparesLoose rules breaks_to × SparesLoose rules continues_to

clash : (b : Bool) → b ≡ true → b ≡ false → ⊥
clash b p q = cc

in_never : (h : Heap) (v : Value) → holds h v never ≡ true → ⊥
in_never h v e = clash (holds h v never) e (never_none h v)

pub spare_none : (rules : Rules) → SparesLoose rules none
spare_none rules x l h v e = in_never h v e

spare_only : (rules : Rules) (named : ℕ) (type : Term) → SparesLoose rules (only_for rules named type)
spare_only rules named type x l h v e = by_name (x == named) refl e
  where
    by_loose : (b : Bool) → b ≡ true → holds h v (if b then never else cut_down type) ≡ true → ⊥
    by_loose true k y = in_never h v y
    by_loose false k y = cc

    by_name : (b : Bool) → (x == named) ≡ b → holds h v (if b then (if loose rules named then never else cut_down type) else never) ≡ true → ⊥
    by_name true k y = by_loose (loose rules named) (subst (λ (n : ℕ). loose rules n ≡ true) (eqb-true x named k) l) y
    by_name false k y = in_never h v y

spare_name : (rules : Rules) (o : Option ℕ) (set : Term) → SparesLoose rules (name_context rules o set)
spare_name rules (Some local) set = spare_only rules local set
spare_name rules None set = spare_none rules

one_of : (p q : Bool) → p || q ≡ true → (p ≡ true) ⊎ (q ≡ true)
one_of true q e = inl refl
one_of false q e = inr e

spare_join : (rules : Rules) (a b : Context) → SparesLoose rules a → SparesLoose rules b → SparesLoose rules (join a b)
spare_join rules a b p q x l h v e = by_side (one_of (holds h v (a x)) (holds h v (b x)) (sym (union_holds h v (a x) (b x)) ∙ cut_down_below h v (union (a x) (b x)) e))
  where
    by_side : (holds h v (a x) ≡ true) ⊎ (holds h v (b x) ≡ true) → ⊥
    by_side (inl k) = p x l h v k
    by_side (inr k) = q x l h v k

spare_stripped : (rules : Rules) (a : Context) → SparesLoose rules a → SparesLoose rules (stripped a)
spare_stripped rules a p x l h v e = p x l h v (strip_below h v (a x) e)

spare_stripped_at : (rules : Rules) (name : List ℕ) (a : Context) → SparesLoose rules a → SparesLoose rules (stripped_at name a)
spare_stripped_at rules name a p x l h v e = p x l h v (strip_at_below h v name (a x) e)

pub spare_pass : (rules : Rules) (b : Bool) (a : Context) → SparesLoose rules a → SparesLoose rules (pass b a)
spare_pass rules true a p = spare_stripped rules a p
spare_pass rules false a p = p

spare_followed : (rules : Rules) (part : Context) (b : Bool) (rest : Context) → SparesLoose rules part → SparesLoose rules rest → SparesLoose rules (followed part b rest)
spare_followed rules part b rest p q = spare_join rules part (pass b rest) p (spare_pass rules b rest q)

spare_without : (rules : Rules) (locals : List ℕ) (a : Context) → SparesLoose rules a → SparesLoose rules (without locals a)
spare_without rules locals a p x l h v e = by_test (list_any (λ other. other == x) locals) e
  where
    by_test : (b : Bool) → holds h v (if b then never else a x) ≡ true → ⊥
    by_test true k = in_never h v k
    by_test false k = p x l h v k

left_of : (y z : Bool) → y && z ≡ true → y ≡ true
left_of true z k = refl
left_of false z k = cc

spare_branch : (rules : Rules) (cond : Expr) (a b : Context) → SparesLoose rules a → SparesLoose rules b → SparesLoose rules (branch rules cond a b)
spare_branch rules cond a b p q x l h v e = by_side (holds h v (a x)) (holds h v (guard rules cond true x)) refl
    (subst (λ (type : Term). holds h v type ≡ true) (sym (guard_loose rules cond true x l)) (unknown_all h v)) (left_of (holds h v (a x) || not (holds h v (guard rules cond true x))) (holds h v (b x) || not (holds h v (guard rules cond false x))) (branch_holds rules cond h v a b x e))
  where
    by_side : (y z : Bool) → holds h v (a x) ≡ y → z ≡ true → y || not z ≡ true → ⊥
    by_side true z k g c = p x l h v k
    by_side false true k g c = cc
    by_side false false k g c = cc

spare_unless : (rules : Rules) (o : Option Use) (a : Context) → SparesLoose rules a → SparesLoose rules (unless_builtin o a)
spare_unless rules (Some (UseBuiltin path)) a p = spare_none rules
spare_unless rules (Some (UseLocal x)) a p = p
spare_unless rules (Some UseLibrary) a p = p
spare_unless rules (Some UseGlobal) a p = p
spare_unless rules None a p = p

-- ---- expressions

mutual
  pub spare_ev : (rules : Rules) (seen : List Seen) (e : Expr) (set : Term) → SparesLoose rules (ev rules seen e set)
  spare_ev rules seen (the_expr id span kind) set = spare_unless rules (rules.reading.use_of id) (ev_in rules seen id kind set) (spare_ev_in rules seen id kind set)

  spare_ev_in : (rules : Rules) (seen : List Seen) (id : ℕ) (kind : ExprKind) (set : Term) → SparesLoose rules (ev_in rules seen id kind set)
  spare_ev_in rules seen id (NameExpr name) set = spare_name rules (local_of (rules.reading.use_of id)) set
  spare_ev_in rules seen id (Paren e) set = spare_ev rules seen e set
  spare_ev_in rules seen id (Assert e syntax) set = spare_ev rules seen e set
  spare_ev_in rules seen id (Index base name) set = spare_ev rules seen base _
  spare_ev_in rules seen id (At base (the_expr key_id key_span (StrExpr name))) set = spare_ev rules seen base _
  spare_ev_in rules seen id (At base key) set = spare_followed rules _ (effects rules base) _ (spare_ev rules seen base _) (spare_ev rules seen key never)
  spare_ev_in rules seen id (Call callee args) set = spare_followed rules _ (effects rules callee) _ (spare_ev rules seen callee _) (spare_args rules seen _ 0 args)
  spare_ev_in rules seen id (Method base name name_span args) set = spare_followed rules _ (effects rules base) _ (spare_ev rules seen base _) (spare_parts rules seen args)
  spare_ev_in rules seen id (Unary op e) set = spare_ev rules seen e _
  spare_ev_in rules seen id (Binary And left right) set = spare_join rules (ev rules seen left never) _ (spare_ev rules seen left never)
      (spare_branch rules left (pass (effects rules left) (ev rules seen right set)) _ (spare_pass rules (effects rules left) (ev rules seen right set) (spare_ev rules seen right set)) (spare_ev rules seen left _))
  spare_ev_in rules seen id (Binary Or left right) set = spare_join rules (ev rules seen left never) _ (spare_ev rules seen left never)
      (spare_branch rules left _ (pass (effects rules left) (ev rules seen right set)) (spare_ev rules seen left _) (spare_pass rules (effects rules left) (ev rules seen right set) (spare_ev rules seen right set)))
  spare_ev_in rules seen id (Binary op left right) set = spare_followed rules _ (effects rules left) _ (spare_ev rules seen left _) (spare_ev rules seen right _)
  spare_ev_in rules seen id (IfElse arms last) set = spare_choices rules seen arms set (ev rules seen last set) (spare_ev rules seen last set)
  spare_ev_in rules seen id (TableExpr items) set = spare_items rules seen items
  spare_ev_in rules seen id (Interp texts parts) set = spare_parts rules seen parts
  spare_ev_in rules seen id _ set = spare_none rules

  spare_parts : (rules : Rules) (seen : List Seen) (es : Exprs) → SparesLoose rules (ev_parts rules seen es)
  spare_parts rules seen no_exprs = spare_none rules
  spare_parts rules seen (more_exprs e rest) = spare_followed rules (ev rules seen e never) (effects rules e) (ev_parts rules seen rest) (spare_ev rules seen e never) (spare_parts rules seen rest)

  spare_args : (rules : Rules) (seen : List Seen) (wanted : Option TypedBuiltin) (position : ℕ) (es : Exprs) → SparesLoose rules (ev_args rules seen wanted position es)
  spare_args rules seen wanted position no_exprs = spare_none rules
  spare_args rules seen wanted position (more_exprs e rest) =
      spare_followed rules _ (effects rules e) (ev_args rules seen wanted (suc position) rest) (spare_ev rules seen e _) (spare_args rules seen wanted (suc position) rest)

  spare_choices : (rules : Rules) (seen : List Seen) (arms : Choices) (set : Term) (last : Context) → SparesLoose rules last → SparesLoose rules (ev_choices rules seen arms set last)
  spare_choices rules seen no_choices set last p = p
  spare_choices rules seen (more_choices cond e rest) set last p = spare_followed rules (ev rules seen cond never) (effects rules cond) (branch rules cond (ev rules seen e set) (ev_choices rules seen rest set last))
      (spare_ev rules seen cond never) (spare_branch rules cond (ev rules seen e set) (ev_choices rules seen rest set last) (spare_ev rules seen e set) (spare_choices rules seen rest set last p))

  spare_items : (rules : Rules) (seen : List Seen) (items : Items) → SparesLoose rules (ev_items rules seen items)
  spare_items rules seen no_items = spare_none rules
  spare_items rules seen (more_items item rest) = spare_followed rules (ev_item rules seen item) (effects_of_item rules item) (ev_items rules seen rest) (spare_item rules seen item) (spare_items rules seen rest)

  spare_item : (rules : Rules) (seen : List Seen) (item : Item) → SparesLoose rules (ev_item rules seen item)
  spare_item rules seen (Field name e) = spare_ev rules seen e never
  spare_item rules seen (Keyed key e) = spare_followed rules (ev rules seen key never) (effects rules key) (ev rules seen e never) (spare_ev rules seen key never) (spare_ev rules seen e never)
  spare_item rules seen (Plain e) = spare_ev rules seen e never

-- ---- what stands behind

spare_values : (rules : Rules) (seen : List Seen) (wanted : List (Option Wanted)) (es : Exprs) (behind : Context) → SparesLoose rules behind → SparesLoose rules (ev_values rules seen wanted es behind)
spare_values rules seen wanted no_exprs behind p = p
spare_values rules seen wanted (more_exprs e rest) behind p =
    spare_followed rules _ (effects rules e) (ev_values rules seen (rest_wanted wanted) rest behind) (spare_ev rules seen e _) (spare_values rules seen (rest_wanted wanted) rest behind p)

spare_write : (rules : Rules) (target : Target) (behind : Context) → SparesLoose rules behind → SparesLoose rules (before_write target behind)
spare_write rules (OfLocal local) behind p = spare_without rules (local ∷ []) behind p
spare_write rules OfGlobal behind p = p
spare_write rules (OfField base name) behind p = spare_stripped_at rules name behind p
spare_write rules OfElement behind p = spare_stripped rules behind p

spare_writes : (rules : Rules) (targets : List Target) (behind : Context) → SparesLoose rules behind → SparesLoose rules (before_writes targets behind)
spare_writes rules [] behind p = p
spare_writes rules (target ∷ targets) behind p = spare_writes rules targets (before_write target behind) (spare_write rules target behind p)

spare_base : (rules : Rules) (seen : List Seen) (base : Expr) (behind : Context) → SparesLoose rules behind → SparesLoose rules (ev_base rules seen base behind)
spare_base rules seen base behind p = spare_followed rules _ (effects rules base) behind (spare_ev rules seen base _) p

spare_target : (rules : Rules) (seen : List Seen) (e : Expr) (behind : Context) → SparesLoose rules behind → SparesLoose rules (ev_target rules seen e behind)
spare_target rules seen (the_expr id span (Index base name)) behind p = spare_base rules seen base behind p
spare_target rules seen (the_expr id span (At base key)) behind p = spare_base rules seen base (followed (ev rules seen key never) (effects rules key) behind)
    (spare_followed rules (ev rules seen key never) (effects rules key) behind (spare_ev rules seen key never) p)
spare_target rules seen (the_expr id span _) behind p = p

spare_targets : (rules : Rules) (seen : List Seen) (es : Exprs) (behind : Context) → SparesLoose rules behind → SparesLoose rules (ev_targets rules seen es behind)
spare_targets rules seen no_exprs behind p = p
spare_targets rules seen (more_exprs e rest) behind p = spare_target rules seen e (ev_targets rules seen rest behind) (spare_targets rules seen rest behind p)

spare_compound : (rules : Rules) (seen : List Seen) (e : Expr) (old : Term) (behind : Context) → SparesLoose rules behind → SparesLoose rules (ev_compound rules seen e old behind)
spare_compound rules seen (the_expr id span (Index base name)) old behind p = spare_followed rules _ (effects rules base) behind (spare_ev rules seen base _) p
spare_compound rules seen (the_expr id span (At base (the_expr key_id key_span (StrExpr name)))) old behind p = spare_followed rules _ (effects rules base) behind (spare_ev rules seen base _) p
spare_compound rules seen (the_expr id span (At base key)) old behind p = spare_followed rules _ (effects rules base) (followed (ev rules seen key never) (effects rules key) behind) (spare_ev rules seen base _)
    (spare_followed rules (ev rules seen key never) (effects rules key) behind (spare_ev rules seen key never) p)
spare_compound rules seen (the_expr id span kind) old behind p =
    spare_join rules (name_context rules (local_named rules (the_expr id span kind)) old) behind (spare_name rules (local_named rules (the_expr id span kind)) old) p

spare_function : (rules : Rules) (seen : List Seen) (path : Expr) (method : Option (List ℕ)) (behind : Context) → SparesLoose rules behind → SparesLoose rules (function_context rules seen path method behind)
spare_function rules seen path None behind p = spare_target rules seen path _ (spare_write rules (function_target rules path None) behind p)
spare_function rules seen path (Some method) behind p = spare_base rules seen path _ (spare_write rules (function_target rules path (Some method)) behind p)

spare_keep : (rules : Rules) (loop : Stat) (body : Block) (behind : Context) → SparesLoose rules behind → SparesLoose rules (keep rules loop body behind)
spare_keep rules loop body behind p x l h v e = by_returns (returns_block body) (touches rules x loop) e
  where
    by_returns : (a b : Bool) → holds h v (if a then never else (if b then never else pass (stirs rules loop) behind x)) ≡ true → ⊥
    by_returns true b k = in_never h v k
    by_returns false true k = in_never h v k
    by_returns false false k = spare_pass rules (stirs rules loop) behind p x l h v k

spare_bound : (rules : Rules) (seen : List Seen) (e : Expr) (behind : Context) → SparesLoose rules behind → SparesLoose rules (ev_bound rules seen e behind)
spare_bound rules seen e behind p = spare_followed rules _ (effects rules e) behind (spare_ev rules seen e _) p

spare_maybe : (rules : Rules) (seen : List Seen) (e : MaybeExpr) (behind : Context) → SparesLoose rules behind → SparesLoose rules (ev_maybe_bound rules seen e behind)
spare_maybe rules seen no_expr behind p = p
spare_maybe rules seen (an_expr e) behind p = spare_bound rules seen e behind p

spare_iteration : (rules : Rules) (seen : List Seen) (es : Exprs) (behind : Context) → SparesLoose rules behind → SparesLoose rules (ev_iteration rules seen es behind)
spare_iteration rules seen no_exprs behind p = p
spare_iteration rules seen (more_exprs e rest) behind p = spare_followed rules _ (effects rules e) (ev_values rules seen [] rest behind) (spare_ev rules seen e _) (spare_values rules seen [] rest behind p)

-- ---- statements

spare_until : (rules : Rules) (seen : List Seen) (span : _) (body : Block) (cond : Expr) (behind : Context) → SparesLoose rules behind → SparesLoose rules (until_context rules seen span body cond behind)
spare_until rules seen span body cond behind p = spare_followed rules (ev rules seen cond never) (effects rules cond) (keep rules (the_stat span (Repeat body cond)) body behind)
    (spare_ev rules seen cond never) (spare_keep rules (the_stat span (Repeat body cond)) body behind p)

mutual
  pub spare_stm : (rules : Rules) (seen : List Seen) (st : Stat) (behind breaks continues : Context) → SparesLoose rules behind → SparesLoose rules breaks → SparesLoose rules continues
      → SparesLoose rules (stm rules seen st behind breaks continues)
  spare_stm rules seen (the_stat span kind) behind breaks continues p q r = spare_kind rules seen span kind behind breaks continues p q r

  spare_kind : (rules : Rules) (seen : List Seen) (span : _) (kind : StatKind) (behind breaks continues : Context) → SparesLoose rules behind → SparesLoose rules breaks → SparesLoose rules continues
      → SparesLoose rules (stm_in rules seen span kind behind breaks continues)
  spare_kind rules seen span (Return values) behind breaks continues p q r = spare_values rules seen [] values none (spare_none rules)
  spare_kind rules seen span Break behind breaks continues p q r = q
  spare_kind rules seen span Continue behind breaks continues p q r = r
  spare_kind rules seen span (CallStat e) behind breaks continues p q r = spare_followed rules (ev rules seen e never) (effects rules e) behind (spare_ev rules seen e never) p
  spare_kind rules seen span (Local binds values) behind breaks continues p q r =
      spare_values rules seen _ values (without (locals_of_binds rules binds) behind) (spare_without rules (locals_of_binds rules binds) behind p)
  spare_kind rules seen span (Assign targets values) behind breaks continues p q r = spare_targets rules seen targets _
      (spare_values rules seen _ values (before_writes (targets_of rules targets) behind) (spare_writes rules (targets_of rules targets) behind p))
  spare_kind rules seen span (FunctionStat path method body) behind breaks continues p q r = spare_function rules seen path method behind p
  spare_kind rules seen span (LocalFunction name body) behind breaks continues p q r = spare_without rules (local_of_bind rules name ∷ []) behind p
  spare_kind rules seen span (Compound target op e) behind breaks continues p q r = spare_compound rules seen target _ (ev_added rules seen target op e behind)
      (spare_followed rules _ (effects rules e) (before_write (target_of rules target) behind) (spare_ev rules seen e _) (spare_write rules (target_of rules target) behind p))
  spare_kind rules seen span (Do body) behind breaks continues p q r = spare_block rules seen body behind breaks continues p q r
  spare_kind rules seen span (If arms last) behind breaks continues p q r =
      spare_arms rules seen arms (stm_last rules seen last behind breaks continues) behind breaks continues (spare_last rules seen last behind breaks continues p q r) p q r
  spare_kind rules seen span (While cond body) behind breaks continues p q r =
      spare_join rules (ev rules seen cond never) (keep rules (the_stat span (While cond body)) body behind) (spare_ev rules seen cond never) (spare_keep rules (the_stat span (While cond body)) body behind p)
  spare_kind rules seen span (Repeat body cond) behind breaks continues p q r =
      spare_block rules seen body (until_context rules seen span body cond behind) behind (until_context rules seen span body cond behind) (spare_until rules seen span body cond behind p) p
      (spare_until rules seen span body cond behind p)
  spare_kind rules seen span (NumFor bind from to by body) behind breaks continues p q r =
      spare_bound rules seen from (ev_bound rules seen to (ev_maybe_bound rules seen by (keep rules (the_stat span (NumFor bind from to by body)) body behind)))
      (spare_bound rules seen to (ev_maybe_bound rules seen by (keep rules (the_stat span (NumFor bind from to by body)) body behind))
      (spare_maybe rules seen by (keep rules (the_stat span (NumFor bind from to by body)) body behind) (spare_keep rules (the_stat span (NumFor bind from to by body)) body behind p)))
  spare_kind rules seen span (GenFor binds values body) behind breaks continues p q r =
      spare_iteration rules seen values (keep rules (the_stat span (GenFor binds values body)) body behind) (spare_keep rules (the_stat span (GenFor binds values body)) body behind p)
  spare_kind rules seen span _ behind breaks continues p q r = p

  pub spare_block : (rules : Rules) (seen : List Seen) (b : Block) (behind breaks continues : Context) → SparesLoose rules behind → SparesLoose rules breaks → SparesLoose rules continues
      → SparesLoose rules (stm_block rules seen b behind breaks continues)
  spare_block rules seen no_stats behind breaks continues p q r = p
  spare_block rules seen (more_stats s rest) behind breaks continues p q r =
      spare_stm rules seen s (stm_block rules seen rest behind breaks continues) breaks continues (spare_block rules seen rest behind breaks continues p q r) q r

  spare_arms : (rules : Rules) (seen : List Seen) (arms : Arms) (last behind breaks continues : Context) → SparesLoose rules last → SparesLoose rules behind → SparesLoose rules breaks
      → SparesLoose rules continues → SparesLoose rules (stm_arms rules seen arms last behind breaks continues)
  spare_arms rules seen no_arms last behind breaks continues o p q r = o
  spare_arms rules seen (more_arms cond body rest) last behind breaks continues o p q r = spare_followed rules (ev rules seen cond never) (effects rules cond)
      (branch rules cond (stm_block rules seen body behind breaks continues) (stm_arms rules seen rest last behind breaks continues)) (spare_ev rules seen cond never)
      (spare_branch rules cond (stm_block rules seen body behind breaks continues) (stm_arms rules seen rest last behind breaks continues)
      (spare_block rules seen body behind breaks continues p q r) (spare_arms rules seen rest last behind breaks continues o p q r))

  spare_last : (rules : Rules) (seen : List Seen) (last : MaybeBlock) (behind breaks continues : Context) → SparesLoose rules behind → SparesLoose rules breaks → SparesLoose rules continues
      → SparesLoose rules (stm_last rules seen last behind breaks continues)
  spare_last rules seen no_block behind breaks continues p q r = p
  spare_last rules seen (a_block body) behind breaks continues p q r = spare_block rules seen body behind breaks continues p q r
