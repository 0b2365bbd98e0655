-- The statement `if`, forward and backward.
use Rattle.std.proofs.Common.{◌≡◌, ℕ, Bool, true, false, not, ◌||◌, if◌then◌else◌, List, [], ◌∷◌, ◌++◌, Some, ◌⊎◌, inl, inr, refl, sym, ◌∙◌, ap, arith}
use Rattle.std.specs.Prelude.{filter}
use Rattle.std.specs.List.{AllByRecursion}
use Rattle.luau_values.specs.Value.{Value}
use Rattle.luau_values.specs.Heap.{Heap}
use Rattle.luau_values.specs.Stands.{Stands}
use Rattle.luau_tree.specs.Tree.{Expr, the_stat, If, Arms, no_arms, more_arms, MaybeBlock, no_block, a_block, Block}
use Rattle.luau_run.specs.SyntaxNode.{of_expr, of_block, of_stat, of_arms, of_maybe_block}
use Rattle.luau_run.specs.Machine.{State, Gave, ◌>>=◌, give}
use Rattle.luau_run.specs.Layer.{Frame, Ending, Falls, Breaks, Continues, Returns, Layer, first}
use Rattle.luau_run.specs.Operators.{is_true}
use Rattle.luau_run.specs.Expressions.{value}
use Rattle.luau_run.specs.Calls.{block}
use Rattle.luau_run.specs.Statements.{branches, stat, execute}
use Rattle.type_arena.specs.Term.{never}
use Rattle.type_normal.specs.Holds.{holds}
use Rattle.type_normal.proofs.Public.{cut_up_above, never_none}
use Rattle.report_rules.specs.Effects.{effects, stirs_arms, stirs_maybe, stirs_block, assigns_arms, assigns_maybe, assigns_block, declares_arms, declares_maybe, declares_block, returns_arms, returns_maybe, returns_block, breaks_arms, breaks_maybe, breaks_block}
use Rattle.report_rules.specs.TypeMap.{TypeMap, refine, union_of, no_maps, joined}
use Rattle.report_rules.specs.Forward.{after}
use Rattle.report_rules.specs.After.{ends_of_arms, end_of_last, returned_block, returned_arms, returned_last}
use Rattle.report_rules.specs.Seen.{seen_expr, seen_stat, seen_block, seen_arms, seen_last}
use Rattle.report_rules.specs.Context.{Context, branch}
use Rattle.report_rules.specs.Statements.{stm, stm_block, stm_arms, stm_last}
use Rattle.report_rules.specs.Findings.{found, found_stat, found_block, found_arms, found_last}
use Rattle.report_rules.specs.Reports.{findings}
use Rattle.run_frame.specs.Analysis.{Analysis, is_loose}
use Rattle.run_frame.specs.Statements.{stats_of_expr, stats_of_block, stats_of, stats_of_arms, stats_of_maybe_block}
use Rattle.run_frame.specs.Fit.{Fit}
use Rattle.run_frame.proofs.World.{World}
use Rattle.run_frame.proofs.Counts.{reached}
use Rattle.run_frame.proofs.Kept.{Doer, MayMore, kept_same}
use Rattle.run_frame.proofs.Fine.{HasValue, Fine, fine_same}
use Rattle.run_frame.proofs.Held.{Runs, runs_kept, Reads, Held, held_same}
use Rattle.run_frame.proofs.Parts.{Ends, Same, ends_so, ends_then, ends_more, ends_give, gave_then, gave_same}
use Rattle.run_frame.proofs.LooseContexts.{SparesAll}
use Rattle.run_frame.proofs.Layers.{rules_of, seen_of, expr_of, stat_of, block_of, Inside, Placed, Marked, Leads, EndsBad, Trouble, Forward, Backward}
use Rattle.run_frame.proofs.Readings.{sub_tail, sub_left, sub_right}
use Rattle.run_frame.proofs.Lists.{inside_left, inside_right, FirstOf}
use Rattle.run_frame.proofs.Blocks.{in_first, in_second, BlockLeads, block_forward, block_backward, same_end}
use Rattle.run_frame.proofs.Statements.{ends_stat, stat_gave, trouble_same}
use Rattle.run_frame.proofs.Forms.{value_gave, Evaluated, evaluated, After, value_forward, sub_one, sub_two, sub_three, inside_one, inside_two, inside_three}
use Rattle.run_frame.proofs.ListsBack.{unchecked, operand_then}
use Rattle.run_frame.proofs.Conditions.{shows_all, held_way, way_violated}

-- ---- the map after branches

-- one of some maps matches
abbrev AnyHeld : Analysis → Frame → List TypeMap → State → Type 0
AnyHeld an frame [] t = ⊥
AnyHeld an frame (map ∷ maps) t = Held an frame map t ⊎ AnyHeld an frame maps t

abbrev live_of : List TypeMap → List TypeMap
live_of maps = filter (λ (map : TypeMap). not map.dead) maps

-- the map joined out of some, of which one matches, matches
union_grows : (h : Heap) (v : Value) (map : TypeMap) (maps : List TypeMap) (x : ℕ) (b : Bool) → holds h v (union_of maps x) ≡ true
    → holds h v (union_of (if b then map ∷ maps else maps) x) ≡ true
union_grows h v map maps x true e = in_second h v (map.entry x) (union_of maps x) e
union_grows h v map maps x false e = e

some_grows : (map : TypeMap) (maps : List TypeMap) (b : Bool) → no_maps maps ≡ false → no_maps (if b then map ∷ maps else maps) ≡ false
some_grows map maps true e = refl
some_grows map maps false e = e

is_some : (map : TypeMap) (maps : List TypeMap) (b : Bool) → b ≡ false → no_maps (if not b then map ∷ maps else maps) ≡ false
is_some map maps true e = cc
is_some map maps false e = refl

is_in : (h : Heap) (v : Value) (map : TypeMap) (maps : List TypeMap) (x : ℕ) (b : Bool) → b ≡ false → holds h v (map.entry x) ≡ true
    → holds h v (union_of (if not b then map ∷ maps else maps) x) ≡ true
is_in h v map maps x true e k = cc
is_in h v map maps x false e k = in_first h v (map.entry x) (union_of maps x) k

some_live : (an : Analysis) (frame : Frame) (maps : List TypeMap) (t : State) → AnyHeld an frame maps t → no_maps (live_of maps) ≡ false
some_live an frame [] t h = absurd h
some_live an frame (map ∷ maps) t (inl h) = is_some map (live_of maps) map.dead h.live
some_live an frame (map ∷ maps) t (inr h) = some_grows map (live_of maps) (not map.dead) (some_live an frame maps t h)

has_value : (an : Analysis) (frame : Frame) (maps : List TypeMap) (t : State) (x : ℕ) → is_loose an frame.module_at x ≡ false → AnyHeld an frame maps t → HasValue (union_of (live_of maps) x)
has_value an frame [] t x firm h = absurd h
has_value an frame (map ∷ maps) t x firm (inl h) = let q : HasValue (map.entry x) = h.full x firm in (q.0, q.1, is_in q.0 q.1 map (live_of maps) x map.dead h.live q.2)
has_value an frame (map ∷ maps) t x firm (inr h) =
    let q : HasValue (union_of (live_of maps) x) = has_value an frame maps t x firm h in (q.0, q.1, union_grows q.0 q.1 map (live_of maps) x (not map.dead) q.2)

in_union : (an : Analysis) (frame : Frame) (maps : List TypeMap) (t : State) (x c : ℕ) (v : Value) → is_loose an frame.module_at x ≡ false → Reads frame t x c v → AnyHeld an frame maps t
    → holds t.store.heap v (union_of (live_of maps) x) ≡ true
in_union an frame [] t x c v firm q h = absurd h
in_union an frame (map ∷ maps) t x c v firm q (inl h) = is_in t.store.heap v map (live_of maps) x map.dead h.live (h.entries x c v firm q)
in_union an frame (map ∷ maps) t x c v firm q (inr h) = union_grows t.store.heap v map (live_of maps) x (not map.dead) (in_union an frame maps t x c v firm q h)

held_joined : (an : Analysis) (frame : Frame) (maps : List TypeMap) (t : State) → AnyHeld an frame maps t → Held an frame (joined maps) t
held_joined an frame maps t h = record {
  live = some_live an frame maps t h;
  full = λ x firm. let q : HasValue (union_of (live_of maps) x) = has_value an frame maps t x firm h in (q.0, q.1, cut_up_above q.0 q.1 (union_of (live_of maps) x) q.2);
  entries = λ x c v firm q. cut_up_above t.store.heap v (union_of (live_of maps) x) (in_union an frame maps t x c v firm q h);
}

-- ---- what the parts of an `if` may do

abbrev arms_of : Analysis → Frame → Arms → MaybeBlock → Doer
arms_of an frame arms last = record {
  runs = Some frame.activation;
  assigns = λ x. assigns_arms (rules_of an frame) x arms || assigns_maybe (rules_of an frame) x last;
  binds = λ x. declares_arms (rules_of an frame) x arms || declares_maybe (rules_of an frame) x last;
  calm = not (stirs_arms (rules_of an frame) arms || stirs_maybe (rules_of an frame) last);
}

arm_clear : (a b c : Bool) → (a || b) || c ≡ false → a ≡ false
arm_clear true b c e = cc
arm_clear false b c e = refl

rest_clear : (a b c : Bool) → (a || b) || c ≡ false → b || c ≡ false
rest_clear true b c e = cc
rest_clear false b c e = e

arm_bound : (a b c : Bool) → a ≡ true → (a || b) || c ≡ true
arm_bound true b c e = refl
arm_bound false b c e = cc

rest_bound : (a b c : Bool) → b || c ≡ true → (a || b) || c ≡ true
rest_bound true b c e = refl
rest_bound false b c e = e

cond_quiet : (a b c d : Bool) → not ((a || (b || c)) || d) ≡ true → not a ≡ true
cond_quiet true b c d e = cc
cond_quiet false b c d e = refl

arm_quiet : (a b c d : Bool) → not ((a || (b || c)) || d) ≡ true → not b ≡ true
arm_quiet true b c d e = cc
arm_quiet false true c d e = cc
arm_quiet false false c d e = refl

rest_quiet : (a b c d : Bool) → not ((a || (b || c)) || d) ≡ true → not (c || d) ≡ true
rest_quiet true b c d e = cc
rest_quiet false true c d e = cc
rest_quiet false false c d e = e

may_cond : (an : Analysis) (frame : Frame) (cond : Expr) (body : Block) (rest : Arms) (last : MaybeBlock) → MayMore (expr_of an frame cond) (arms_of an frame (more_arms cond body rest) last)
may_cond an frame cond body rest last = record {
  runs = inr refl;
  assigns = λ x e. refl;
  binds = λ x e. cc;
  calm = λ e. cond_quiet (effects (rules_of an frame) cond) (stirs_block (rules_of an frame) body) (stirs_arms (rules_of an frame) rest) (stirs_maybe (rules_of an frame) last) e;
}

may_arm : (an : Analysis) (frame : Frame) (cond : Expr) (body : Block) (rest : Arms) (last : MaybeBlock) → MayMore (block_of an frame body) (arms_of an frame (more_arms cond body rest) last)
may_arm an frame cond body rest last = record {
  runs = inr refl;
  assigns = λ x e. arm_clear (assigns_block (rules_of an frame) x body) (assigns_arms (rules_of an frame) x rest) (assigns_maybe (rules_of an frame) x last) e;
  binds = λ x e. arm_bound (declares_block (rules_of an frame) x body) (declares_arms (rules_of an frame) x rest) (declares_maybe (rules_of an frame) x last) e;
  calm = λ e. arm_quiet (effects (rules_of an frame) cond) (stirs_block (rules_of an frame) body) (stirs_arms (rules_of an frame) rest) (stirs_maybe (rules_of an frame) last) e;
}

may_rest : (an : Analysis) (frame : Frame) (cond : Expr) (body : Block) (rest : Arms) (last : MaybeBlock) → MayMore (arms_of an frame rest last) (arms_of an frame (more_arms cond body rest) last)
may_rest an frame cond body rest last = record {
  runs = inr refl;
  assigns = λ x e. rest_clear (assigns_block (rules_of an frame) x body) (assigns_arms (rules_of an frame) x rest) (assigns_maybe (rules_of an frame) x last) e;
  binds = λ x e. rest_bound (declares_block (rules_of an frame) x body) (declares_arms (rules_of an frame) x rest) (declares_maybe (rules_of an frame) x last) e;
  calm = λ e. rest_quiet (effects (rules_of an frame) cond) (stirs_block (rules_of an frame) body) (stirs_arms (rules_of an frame) rest) (stirs_maybe (rules_of an frame) last) e;
}

-- ---- forward

-- how an `if` ends
abbrev ArmsLead : Analysis → Frame → TypeMap → Arms → MaybeBlock → Ending → State → Type 0
ArmsLead an frame map arms last Falls t = AnyHeld an frame (ends_of_arms (rules_of an frame) map arms (λ at_last. end_of_last (rules_of an frame) at_last last)) t
ArmsLead an frame map arms last Breaks t = breaks_arms arms || breaks_maybe last ≡ true
ArmsLead an frame map arms last Continues t = breaks_arms arms || breaks_maybe last ≡ true
ArmsLead an frame map arms last (Returns vs) t = (returns_arms arms || returns_maybe last ≡ true) × AllByRecursion (Stands t.store.heap) vs
    × (holds t.store.heap (first vs) (returned_arms (rules_of an frame) map arms (λ at_last. returned_last (rules_of an frame) at_last last)) ≡ true)

last_leads : (an : Analysis) (frame : Frame) (map : TypeMap) (body : Block) (ending : Ending) (t : State) → BlockLeads an frame map body ending t
    → ArmsLead an frame map no_arms (a_block body) ending t
last_leads an frame map body Falls t h = inl h
last_leads an frame map body Breaks t h = h
last_leads an frame map body Continues t h = h
last_leads an frame map body (Returns vs) t h = h

arm_leads : (an : Analysis) (frame : Frame) (map : TypeMap) (cond : Expr) (body : Block) (rest : Arms) (last : MaybeBlock) (ending : Ending) (t : State)
    → BlockLeads an frame (refine (rules_of an frame) cond true (after (rules_of an frame) map cond)) body ending t → ArmsLead an frame map (more_arms cond body rest) last ending t
arm_leads an frame map cond body rest last Falls t h = inl h
arm_leads an frame map cond body rest last Breaks t h = arm_bound (breaks_block body) (breaks_arms rest) (breaks_maybe last) h
arm_leads an frame map cond body rest last Continues t h = arm_bound (breaks_block body) (breaks_arms rest) (breaks_maybe last) h
arm_leads an frame map cond body rest last (Returns vs) t h =
    (arm_bound (returns_block body) (returns_arms rest) (returns_maybe last) h.0, h.1, in_first t.store.heap (first vs) (returned_block (rules_of an frame) _ body) _ h.2)

rest_leads : (an : Analysis) (frame : Frame) (map : TypeMap) (cond : Expr) (body : Block) (rest : Arms) (last : MaybeBlock) (ending : Ending) (t : State)
    → ArmsLead an frame (refine (rules_of an frame) cond false (after (rules_of an frame) map cond)) rest last ending t → ArmsLead an frame map (more_arms cond body rest) last ending t
rest_leads an frame map cond body rest last Falls t h = inr h
rest_leads an frame map cond body rest last Breaks t h = rest_bound (breaks_block body) (breaks_arms rest) (breaks_maybe last) h
rest_leads an frame map cond body rest last Continues t h = rest_bound (breaks_block body) (breaks_arms rest) (breaks_maybe last) h
rest_leads an frame map cond body rest last (Returns vs) t h =
    (rest_bound (returns_block body) (returns_arms rest) (returns_maybe last) h.0, h.1, in_second t.store.heap (first vs) (returned_block (rules_of an frame) _ body) _ h.2)

arms_forward : (an : Analysis) (l : Layer) → Forward an l → (w : World) (s : State) (frame : Frame) (map : TypeMap) (arms : Arms) (last : MaybeBlock) → Fine an w s → Runs an w s frame
    → Held an frame map s → Inside frame (of_arms arms) (stats_of_arms arms) → Inside frame (of_maybe_block last) (stats_of_maybe_block last)
    → Placed an frame (seen_arms (rules_of an frame) map arms (λ at_last. seen_last (rules_of an frame) at_last last))
    → Ends an (arms_of an frame arms last) w s (ArmsLead an frame map arms last) (branches l frame arms last s)
unfolding ◌>>=◌
arms_forward an l fwd w s frame map no_arms no_block f r h inside inside_last placed =
    ends_give an (arms_of an frame no_arms no_block) w s (ArmsLead an frame map no_arms no_block) Falls f (inl h)
arms_forward an l fwd w s frame map no_arms (a_block body) f r h inside inside_last placed =
    ends_so an (block_of an frame body) w s (BlockLeads an frame map body) (ArmsLead an frame map no_arms (a_block body)) (block l frame body s)
    (λ ending t v q g k p. last_leads an frame map body ending t p) (block_forward an l fwd w s frame map body f r h inside_last placed)
arms_forward an l fwd w s frame map (more_arms cond body rest) last f r h inside inside_last placed =
    ends_then an (arms_of an frame (more_arms cond body rest) last) w s (FirstOf (After an frame map cond)) (ArmsLead an frame map (more_arms cond body rest) last) (value l frame cond s)
    (λ c. if is_true c then block l frame body else branches l frame rest last)
    (ends_more an (expr_of an frame cond) (arms_of an frame (more_arms cond body rest) last) w s (FirstOf (After an frame map cond)) (value l frame cond s) (may_cond an frame cond body rest last)
    (value_forward an l fwd w s frame map cond f r h (inside_one frame (of_expr cond) (of_block body) (of_arms rest) (stats_of_expr cond) (stats_of_block body) (stats_of_arms rest) inside)
    (sub_one (seen_expr (rules_of an frame) map cond) (seen_block (rules_of an frame) (refine (rules_of an frame) cond true (after (rules_of an frame) map cond)) body)
    (seen_arms (rules_of an frame) (refine (rules_of an frame) cond false (after (rules_of an frame) map cond)) rest (λ at_last. seen_last (rules_of an frame) at_last last)) (seen_of an frame) placed)))
    (λ c m v g k p. by_truth c m v g (runs_kept an (arms_of an frame (more_arms cond body rest) last) w v s m frame k r) p (is_true c) refl
    (λ held. arms_forward an l fwd v m frame (refine (rules_of an frame) cond false (after (rules_of an frame) map cond)) rest last g
    (runs_kept an (arms_of an frame (more_arms cond body rest) last) w v s m frame k r) held
    (inside_three frame (of_expr cond) (of_block body) (of_arms rest) (stats_of_expr cond) (stats_of_block body) (stats_of_arms rest) inside) inside_last
    (sub_three (seen_expr (rules_of an frame) map cond) (seen_block (rules_of an frame) (refine (rules_of an frame) cond true (after (rules_of an frame) map cond)) body)
    (seen_arms (rules_of an frame) (refine (rules_of an frame) cond false (after (rules_of an frame) map cond)) rest (λ at_last. seen_last (rules_of an frame) at_last last)) (seen_of an frame) placed)))
  where
    when_true : TypeMap
    when_true = refine (rules_of an frame) cond true (after (rules_of an frame) map cond)

    when_false : TypeMap
    when_false = refine (rules_of an frame) cond false (after (rules_of an frame) map cond)

    by_truth : (c : Value) (m : State) (v : World) → Fine an v m → Runs an v m frame → FirstOf (After an frame map cond) c m → (b : Bool) → is_true c ≡ b
        → (Held an frame when_false m → Ends an (arms_of an frame rest last) v m (ArmsLead an frame when_false rest last) (branches l frame rest last m))
        → Ends an (arms_of an frame (more_arms cond body rest) last) v m (ArmsLead an frame map (more_arms cond body rest) last) ((if b then block l frame body else branches l frame rest last) m)
    by_truth c m v g j p true k again = ends_so an (arms_of an frame (more_arms cond body rest) last) v m (BlockLeads an frame when_true body) (ArmsLead an frame map (more_arms cond body rest) last)
        (block l frame body m) (λ ending t z q d i y. arm_leads an frame map cond body rest last ending t y)
        (ends_more an (block_of an frame body) (arms_of an frame (more_arms cond body rest) last) v m (BlockLeads an frame when_true body) (block l frame body m) (may_arm an frame cond body rest last)
        (block_forward an l fwd v m frame when_true body g j (held_way an frame map cond p.0 m true (ap is_true (sym p.1) ∙ k) p.2.0 p.2.1)
        (inside_two frame (of_expr cond) (of_block body) (of_arms rest) (stats_of_expr cond) (stats_of_block body) (stats_of_arms rest) inside)
        (sub_two (seen_expr (rules_of an frame) map cond) (seen_block (rules_of an frame) when_true body)
        (seen_arms (rules_of an frame) when_false rest (λ at_last. seen_last (rules_of an frame) at_last last)) (seen_of an frame) placed)))
    by_truth c m v g j p false k again = ends_so an (arms_of an frame (more_arms cond body rest) last) v m (ArmsLead an frame when_false rest last)
        (ArmsLead an frame map (more_arms cond body rest) last) (branches l frame rest last m) (λ ending t z q d i y. rest_leads an frame map cond body rest last ending t y)
        (ends_more an (arms_of an frame rest last) (arms_of an frame (more_arms cond body rest) last) v m (ArmsLead an frame when_false rest last) (branches l frame rest last m)
        (may_rest an frame cond body rest last) (again (held_way an frame map cond p.0 m false (ap is_true (sym p.1) ∙ k) p.2.0 p.2.1)))

if_leads : (an : Analysis) (frame : Frame) (map : TypeMap) (span : _) (arms : Arms) (last : MaybeBlock) (ending : Ending) (t : State) → ArmsLead an frame map arms last ending t
    → Leads an frame map (the_stat span (If arms last)) ending t
if_leads an frame map span arms last Falls t h = held_joined an frame (ends_of_arms (rules_of an frame) map arms (λ at_last. end_of_last (rules_of an frame) at_last last)) t h
if_leads an frame map span arms last Breaks t h = h
if_leads an frame map span arms last Continues t h = h
if_leads an frame map span arms last (Returns vs) t h = h

within_if : (frame : Frame) (span : _) (arms : Arms) (last : MaybeBlock) → Inside frame (of_stat (the_stat span (If arms last))) (stats_of (the_stat span (If arms last)))
    → Inside frame (of_arms arms ++ of_maybe_block last) (stats_of_arms arms ++ stats_of_maybe_block last)
within_if frame span arms last h =
    record { nodes = h.nodes; stats = sub_tail (the_stat span (If arms last)) (stats_of_arms arms ++ stats_of_maybe_block last) (stats_of_block frame.reading.block) h.stats }

pub if_forward : (an : Analysis) (l : Layer) → Forward an l → (w : World) (s : State) (frame : Frame) (map : TypeMap) (span : _) (arms : Arms) (last : MaybeBlock) → Fine an w s
    → Runs an w s frame → Held an frame map s → Inside frame (of_stat (the_stat span (If arms last))) (stats_of (the_stat span (If arms last)))
    → Placed an frame (seen_stat (rules_of an frame) map (the_stat span (If arms last)))
    → Ends an (stat_of an frame (the_stat span (If arms last))) w s (Leads an frame map (the_stat span (If arms last))) (stat an.program l frame (the_stat span (If arms last)) s)
if_forward an l fwd w s frame map span arms last f r h inside placed =
    ends_stat an an.program l (arms_of an frame arms last) w s frame span (If arms last) (Leads an frame map (the_stat span (If arms last))) f
    (λ t v g k p. ends_so an (arms_of an frame arms last) v t (ArmsLead an frame map arms last) (Leads an frame map (the_stat span (If arms last))) (branches l frame arms last t)
    (λ ending u y q d j z. if_leads an frame map span arms last ending u z)
    (arms_forward an l fwd v t frame map arms last g (runs_kept an (arms_of an frame arms last) w v s t frame k r) (held_same an s t frame map p h)
    (inside_left frame (of_arms arms) (of_maybe_block last) (stats_of_arms arms) (stats_of_maybe_block last) (within_if frame span arms last inside))
    (inside_right frame (of_arms arms) (of_maybe_block last) (stats_of_arms arms) (stats_of_maybe_block last) (within_if frame span arms last inside)) placed))

-- ---- backward

in_never : (h : Heap) (v : Value) (P : Type 0) → holds h v never ≡ true → P
in_never h v P e = absurd (clash (holds h v never) e (never_none h v))
  where
    clash : (b : Bool) → b ≡ true → b ≡ false → ⊥
    clash b p q = cc

arms_backward : (an : Analysis) (l : Layer) → Fit an → Forward an l → Backward an l → (w : World) (s : State) (frame : Frame) (map : TypeMap) (arms : Arms) (last : MaybeBlock)
    (behind breaks_to continues_to : Context) → Fine an w s → Runs an w s frame → Held an frame map s → Inside frame (of_arms arms) (stats_of_arms arms)
    → Inside frame (of_maybe_block last) (stats_of_maybe_block last)
    → Placed an frame (seen_arms (rules_of an frame) map arms (λ at_last. seen_last (rules_of an frame) at_last last))
    → Marked an frame (found_arms (rules_of an frame) (seen_of an frame) arms behind breaks_to continues_to)
    → Marked an frame (found_last (rules_of an frame) (seen_of an frame) last behind breaks_to continues_to)
    → SparesAll (rules_of an frame) behind breaks_to continues_to
    → (ending : Ending) (t : State) → branches l frame arms last s ≡ Gave ending t
    → Trouble an frame (stm_arms (rules_of an frame) (seen_of an frame) arms (stm_last (rules_of an frame) (seen_of an frame) last behind breaks_to continues_to) behind breaks_to continues_to) s t
    → EndsBad an frame behind breaks_to continues_to ending t
unfolding ◌>>=◌ give
arms_backward an l fit fwd bwd w s frame map no_arms no_block behind breaks_to continues_to f r h inside inside_last placed marked marked_last spares ending t q (inl y) =
    same_end an frame behind breaks_to continues_to Falls ending s t q y
arms_backward an l fit fwd bwd w s frame map no_arms no_block behind breaks_to continues_to f r h inside inside_last placed marked marked_last spares ending t q (inr y) =
    absurd (omega (arith, y, ap (λ (x : State). reached an frame.activation x.trace) (gave_same Falls ending s t q).1))
arms_backward an l fit fwd bwd w s frame map no_arms (a_block body) behind breaks_to continues_to f r h inside inside_last placed marked marked_last spares ending t q y =
    block_backward an l fwd bwd w s frame map body behind breaks_to continues_to f r h inside_last placed marked_last spares ending t q y
arms_backward an l fit fwd bwd w s frame map (more_arms cond body rest) last behind breaks_to continues_to f r h inside inside_last placed marked marked_last spares ending t q y = by_cond
    (gave_then (value l frame cond s) (λ c. if is_true c then block l frame body else branches l frame rest last) ending t q)
    (λ z m g j held k x. arms_backward an l fit fwd bwd z m frame (refine (rules_of an frame) cond false (after (rules_of an frame) map cond)) rest last behind breaks_to continues_to g j held
    (inside_three frame (of_expr cond) (of_block body) (of_arms rest) (stats_of_expr cond) (stats_of_block body) (stats_of_arms rest) inside) inside_last
    (sub_three (seen_expr (rules_of an frame) map cond) (seen_block (rules_of an frame) (refine (rules_of an frame) cond true (after (rules_of an frame) map cond)) body)
    (seen_arms (rules_of an frame) (refine (rules_of an frame) cond false (after (rules_of an frame) map cond)) rest (λ at_last. seen_last (rules_of an frame) at_last last)) (seen_of an frame) placed)
    (sub_three (found (rules_of an frame) (seen_of an frame) [] cond) (found_block (rules_of an frame) (seen_of an frame) body behind breaks_to continues_to)
    (found_arms (rules_of an frame) (seen_of an frame) rest behind breaks_to continues_to) (findings (rules_of an frame)) marked) marked_last spares ending t k x)
  where
    when_true : TypeMap
    when_true = refine (rules_of an frame) cond true (after (rules_of an frame) map cond)

    when_false : TypeMap
    when_false = refine (rules_of an frame) cond false (after (rules_of an frame) map cond)

    in_body : Context
    in_body = stm_block (rules_of an frame) (seen_of an frame) body behind breaks_to continues_to

    in_rest : Context
    in_rest = stm_arms (rules_of an frame) (seen_of an frame) rest (stm_last (rules_of an frame) (seen_of an frame) last behind breaks_to continues_to) behind breaks_to continues_to

    placed_cond : Placed an frame (seen_expr (rules_of an frame) map cond)
    placed_cond = sub_one (seen_expr (rules_of an frame) map cond) (seen_block (rules_of an frame) when_true body)
        (seen_arms (rules_of an frame) when_false rest (λ at_last. seen_last (rules_of an frame) at_last last)) (seen_of an frame) placed

    marked_cond : Marked an frame (found (rules_of an frame) (seen_of an frame) [] cond)
    marked_cond = sub_one (found (rules_of an frame) (seen_of an frame) [] cond) (found_block (rules_of an frame) (seen_of an frame) body behind breaks_to continues_to)
        (found_arms (rules_of an frame) (seen_of an frame) rest behind breaks_to continues_to) (findings (rules_of an frame)) marked

    Again : Type 0
    Again = (z : World) (m : State) → Fine an z m → Runs an z m frame → Held an frame when_false m → branches l frame rest last m ≡ Gave ending t → Trouble an frame in_rest m t
        → EndsBad an frame behind breaks_to continues_to ending t

    by_cond : (c : Value) × (m : State) × (value l frame cond s ≡ Gave c m) × ((if is_true c then block l frame body else branches l frame rest last) m ≡ Gave ending t) → Again
        → EndsBad an frame behind breaks_to continues_to ending t
    by_cond (c, m, gave_cond, gave) again = by_value (value_gave l frame cond s c m gave_cond)
      where
        by_value : (xs : List Value) × (l.values frame cond s ≡ Gave xs m) × (c ≡ first xs) → EndsBad an frame behind breaks_to continues_to ending t
        by_value (xs, k, same) = by_evaluated (evaluated an l fwd bwd w s frame map cond [] f r h
            (inside_one frame (of_expr cond) (of_block body) (of_arms rest) (stats_of_expr cond) (stats_of_block body) (stats_of_arms rest) inside) placed_cond marked_cond xs m k)
          where
            by_evaluated : Evaluated an w s frame map cond xs m → EndsBad an frame behind breaks_to continues_to ending t
            by_evaluated o = by_trouble (operand_then an w s frame map cond (unchecked an frame cond) (branch (rules_of an frame) cond in_body in_rest) xs m t fit f r placed_cond marked_cond o y)
              where
                by_truth : (b : Bool) → is_true c ≡ b → (if b then block l frame body else branches l frame rest last) m ≡ Gave ending t → Trouble an frame (if b then in_body else in_rest) m t
                    → EndsBad an frame behind breaks_to continues_to ending t
                by_truth true e n x = block_backward an l fwd bwd o.world m frame when_true body behind breaks_to continues_to o.fine o.runs
                    (held_way an frame map cond xs m true (ap is_true (sym same) ∙ e) o.gives o.held)
                    (inside_two frame (of_expr cond) (of_block body) (of_arms rest) (stats_of_expr cond) (stats_of_block body) (stats_of_arms rest) inside)
                    (sub_two (seen_expr (rules_of an frame) map cond) (seen_block (rules_of an frame) when_true body)
                    (seen_arms (rules_of an frame) when_false rest (λ at_last. seen_last (rules_of an frame) at_last last)) (seen_of an frame) placed)
                    (sub_two (found (rules_of an frame) (seen_of an frame) [] cond) (found_block (rules_of an frame) (seen_of an frame) body behind breaks_to continues_to)
                    (found_arms (rules_of an frame) (seen_of an frame) rest behind breaks_to continues_to) (findings (rules_of an frame)) marked) spares ending t n x
                by_truth false e n x = again o.world m o.fine o.runs (held_way an frame map cond xs m false (ap is_true (sym same) ∙ e) o.gives o.held) n x

                chosen_trouble : (b : Bool) → is_true c ≡ b → Trouble an frame (branch (rules_of an frame) cond in_body in_rest) m t → Trouble an frame (if b then in_body else in_rest) m t
                chosen_trouble b e (inl x) = inl (way_violated an frame cond b in_body in_rest m (shows_all an frame map cond xs m b (ap is_true (sym same) ∙ e) o.gives) x)
                chosen_trouble b e (inr x) = inr x

                by_trouble : (holds m.store.heap (first xs) never ≡ true) ⊎ Trouble an frame (branch (rules_of an frame) cond in_body in_rest) m t
                    → EndsBad an frame behind breaks_to continues_to ending t
                by_trouble (inl x) = in_never m.store.heap (first xs) (EndsBad an frame behind breaks_to continues_to ending t) x
                by_trouble (inr x) = by_truth (is_true c) refl gave (chosen_trouble (is_true c) refl x)

pub if_backward : (an : Analysis) (l : Layer) → Fit an → Forward an l → Backward an l → (w : World) (s : State) (frame : Frame) (map : TypeMap) (span : _) (arms : Arms) (last : MaybeBlock)
    (behind breaks_to continues_to : Context) → Fine an w s → Runs an w s frame
    → Held an frame map s → Inside frame (of_stat (the_stat span (If arms last))) (stats_of (the_stat span (If arms last)))
    → Placed an frame (seen_stat (rules_of an frame) map (the_stat span (If arms last)))
    → Marked an frame (found_stat (rules_of an frame) (seen_of an frame) (the_stat span (If arms last)) behind breaks_to continues_to)
    → SparesAll (rules_of an frame) behind breaks_to continues_to → (ending : Ending) (t : State) → stat an.program l frame (the_stat span (If arms last)) s ≡ Gave ending t
    → Trouble an frame (stm (rules_of an frame) (seen_of an frame) (the_stat span (If arms last)) behind breaks_to continues_to) s t → EndsBad an frame behind breaks_to continues_to ending t
if_backward an l fit fwd bwd w s frame map span arms last behind breaks_to continues_to f r h inside placed marked spares ending t q y =
    by_step (stat_gave an.program l frame span (If arms last) s ending t q)
  where
    by_step : (m : State) × Same s m × (execute an.program l frame (If arms last) m ≡ Gave ending t) → EndsBad an frame behind breaks_to continues_to ending t
    by_step p = arms_backward an l fit fwd bwd w p.0 frame map arms last behind breaks_to continues_to (fine_same an w s p.0 p.1.0 p.1.1 f)
        (runs_kept an (arms_of an frame arms last) w w s p.0 frame (kept_same an (arms_of an frame arms last) w s p.0 p.1.0 p.1.1) r) (held_same an s p.0 frame map p.1 h)
        (inside_left frame (of_arms arms) (of_maybe_block last) (stats_of_arms arms) (stats_of_maybe_block last) (within_if frame span arms last inside))
        (inside_right frame (of_arms arms) (of_maybe_block last) (stats_of_arms arms) (stats_of_maybe_block last) (within_if frame span arms last inside)) placed
        (sub_left (found_arms (rules_of an frame) (seen_of an frame) arms behind breaks_to continues_to) (found_last (rules_of an frame) (seen_of an frame) last behind breaks_to continues_to)
        (findings (rules_of an frame)) marked)
        (sub_right (found_arms (rules_of an frame) (seen_of an frame) arms behind breaks_to continues_to) (found_last (rules_of an frame) (seen_of an frame) last behind breaks_to continues_to)
        (findings (rules_of an frame)) marked) spares ending t p.2
        (trouble_same an frame (stm (rules_of an frame) (seen_of an frame) (the_stat span (If arms last)) behind breaks_to continues_to) s p.0 t p.1 y)
