-- The statement `local`, forward; and `do`, `break` and `continue`.
use Rattle.std.proofs.Common.{◌≡◌, ℕ, suc, Bool, true, false, ◌==◌, ◌||◌, List, [], ◌∷◌, length, inr, refl, sym, ◌∙◌, ap, subst, arith}
use Rattle.std.specs.List.{AllByRecursion}
use Rattle.luau_values.specs.Value.{Value}
use Rattle.luau_tree.specs.Tree.{Exprs, no_exprs, more_exprs, the_bind, Binds, no_binds, more_binds, Block, the_stat, Local, Do, Break, Continue}
use Rattle.luau_run.specs.ReadModule.{ReadModule}
use Rattle.luau_run.specs.ReadFolder.{is_among}
use Rattle.luau_run.specs.SyntaxNode.{of_block, of_stat, of_binds, of_exprs}
use Rattle.luau_run.specs.Machine.{State, Gave, go_on, ◌>>=◌, give}
use Rattle.luau_run.specs.Layer.{Frame, Ending, Falls, Breaks, Continues, Returns, Layer}
use Rattle.luau_run.specs.Expressions.{all_values}
use Rattle.luau_run.specs.Loops.{declare}
use Rattle.luau_run.specs.Calls.{block}
use Rattle.luau_run.specs.Statements.{stat, execute}
use Rattle.report_rules.specs.Rules.{Rules}
use Rattle.report_rules.specs.Effects.{last_expands, any_effects, locals_of_binds}
use Rattle.report_rules.specs.TypeMap.{TypeMap, set_all}
use Rattle.report_rules.specs.Forward.{after, after_list, types_of_list}
use Rattle.report_rules.specs.Seen.{seen_stat}
use Rattle.report_rules.specs.Checks.{count}
use Rattle.report_rules.specs.Context.{Context}
use Rattle.report_rules.specs.Statements.{stm}
use Rattle.report_rules.specs.Findings.{found_stat}
use Rattle.run_frame.specs.Analysis.{Analysis}
use Rattle.run_frame.specs.Statements.{stats_of, stats_of_exprs, stats_of_block}
use Rattle.run_frame.specs.Fit.{IsFitStat, Fit}
use Rattle.run_frame.proofs.World.{World, all_map}
use Rattle.run_frame.proofs.Kept.{MayMore, kept_same}
use Rattle.run_frame.proofs.Fine.{Fine, fine_same}
use Rattle.run_frame.proofs.Held.{Runs, runs_kept, Held, held_same}
use Rattle.run_frame.proofs.Parts.{Ends, Same, ends_then, ends_so, ends_more, ends_give}
use Rattle.run_frame.proofs.LooseContexts.{SparesAll}
use Rattle.run_frame.proofs.Layers.{rules_of, seen_of, part_of, stat_of, block_of, Inside, Placed, Marked, Leads, EndsBad, Trouble, Forward, Backward}
use Rattle.run_frame.proofs.Readings.{contains_head, sub_tail, sub_right, all_contained, fits, reads_same}
use Rattle.run_frame.proofs.Passing.{held_after}
use Rattle.run_frame.proofs.Lists.{ListGives, list_forward}
use Rattle.run_frame.proofs.Declarations.{run_locals, GetFixed, get_fixed, ends_declare}
use Rattle.run_frame.proofs.Blocks.{or_right, BlockLeads, block_forward, block_backward}
use Rattle.run_frame.proofs.Statements.{ends_stat, stat_gave, trouble_same}

-- ---- `local`

-- the locals that the rules read are those that the run reads
pub locals_same : (rules : Rules) (frame : Frame) (binds : Binds) → rules.reading ≡ frame.reading → locals_of_binds rules binds ≡ run_locals frame binds
locals_same rules frame no_binds e = refl
locals_same rules frame (more_binds (the_bind name span typ) rest) e =
    ap (λ (x : ReadModule). x.local_at span.start ∷ locals_of_binds rules rest) e ∙ ap (λ (xs : List ℕ). frame.reading.local_at span.start ∷ xs) (locals_same rules frame rest e)

all_among : (xs : List ℕ) → AllByRecursion (λ x. is_among x xs ≡ true) xs
all_among [] = tt
all_among (x ∷ xs) = (head (x == x) (itself x), all_map (λ y. is_among y xs ≡ true) (λ y. is_among y (x ∷ xs) ≡ true) xs (λ y e. or_right (y == x) (is_among y xs) e) (all_among xs))
  where
    itself : (n : ℕ) → (n == n) ≡ true
    itself n = grind arith

    head : (b : Bool) → b ≡ true → b || is_among x xs ≡ true
    head true e = refl
    head false e = cc

-- there is a type for each expression
types_number : (rules : Rules) (map : TypeMap) (es : Exprs) → count es ≡ length (types_of_list rules map es)
types_number rules map no_exprs = refl
types_number rules map (more_exprs e rest) = ap suc (types_number rules (after rules map e) rest)

may_values : (an : Analysis) (frame : Frame) (span : _) (binds : Binds) (values : Exprs)
    → MayMore (part_of frame (any_effects (rules_of an frame) values)) (stat_of an frame (the_stat span (Local binds values)))
may_values an frame span binds values = record {
  runs = inr refl;
  assigns = λ x e. refl;
  binds = λ x e. cc;
  calm = λ e. e;
}

-- what holds once the values are there
abbrev Valued : Analysis → Frame → TypeMap → Exprs → List Value → State → Type 0
Valued an frame map values vs t = ListGives an frame map values vs t × Held an frame (after_list (rules_of an frame) map values) t

pub local_forward : (an : Analysis) (l : Layer) → Fit an → Forward an l → (w : World) (s : State) (frame : Frame) (map : TypeMap) (span : _) (binds : Binds) (values : Exprs) → Fine an w s
    → Runs an w s frame → Held an frame map s → Inside frame (of_stat (the_stat span (Local binds values))) (stats_of (the_stat span (Local binds values)))
    → Placed an frame (seen_stat (rules_of an frame) map (the_stat span (Local binds values)))
    → Ends an (stat_of an frame (the_stat span (Local binds values))) w s (Leads an frame map (the_stat span (Local binds values)))
    (stat an.program l frame (the_stat span (Local binds values)) s)
unfolding ◌>>=◌
local_forward an l fit fwd w s frame map span binds values f r h inside placed =
    ends_stat an an.program l (stat_of an frame (the_stat span (Local binds values))) w s frame span (Local binds values) (Leads an frame map (the_stat span (Local binds values))) f
    (λ t v g k p. ends_then an (stat_of an frame (the_stat span (Local binds values))) v t (Valued an frame map values) (Leads an frame map (the_stat span (Local binds values)))
    (all_values l frame values t) (λ vs. ◌>>=◌ (declare frame binds vs) (λ x. give Falls))
    (ends_more an (part_of frame (any_effects (rules_of an frame) values)) (stat_of an frame (the_stat span (Local binds values))) v t (Valued an frame map values) (all_values l frame values t)
    (may_values an frame span binds values)
    (ends_so an (part_of frame (any_effects (rules_of an frame) values)) v t (ListGives an frame map values) (Valued an frame map values) (all_values l frame values t)
    (λ vs u y q d j z. (
      z,
      held_after an v y t u frame map (any_effects (rules_of an frame) values) g
          (runs_kept an (stat_of an frame (the_stat span (Local binds values))) w v s t frame k r) j (held_same an s t frame map p h),
    ))
    (list_forward an l fwd v t frame map values g (runs_kept an (stat_of an frame (the_stat span (Local binds values))) w v s t frame k r) (held_same an s t frame map p h)
    (record {
      nodes = sub_right (of_binds binds) (of_exprs values) (of_block frame.reading.block) inside.nodes;
      stats = sub_tail (the_stat span (Local binds values)) (stats_of_exprs values) (stats_of_block frame.reading.block) inside.stats;
    }) placed)))
    (λ vs u y d j z. declared_so vs u y d (runs_kept an (stat_of an frame (the_stat span (Local binds values))) v y t u frame j
    (runs_kept an (stat_of an frame (the_stat span (Local binds values))) w v s t frame k r)) z.0 z.1))
  where
    declared_so : (vs : List Value) (u : State) (y : World) → Fine an y u → Runs an y u frame → ListGives an frame map values vs u → Held an frame (after_list (rules_of an frame) map values) u
        → Ends an (stat_of an frame (the_stat span (Local binds values))) y u (Leads an frame map (the_stat span (Local binds values))) (go_on (declare frame binds vs u) (λ x. give Falls))
    declared_so vs u y d runs gives held = ends_then an (stat_of an frame (the_stat span (Local binds values))) y u
        (λ x t. Held an frame (set_all (rules_of an frame) (run_locals frame binds) (last_expands values) (types_of_list (rules_of an frame) map values) (after_list (rules_of an frame) map values)) t)
        (Leads an frame map (the_stat span (Local binds values))) (declare frame binds vs u) (λ x. give Falls)
        (ends_declare an (stat_of an frame (the_stat span (Local binds values))) y u frame (after_list (rules_of an frame) map values) binds (last_expands values)
        (types_of_list (rules_of an frame) map values) vs d runs held refl
        (subst (λ (xs : List ℕ). AllByRecursion (λ x. is_among x xs ≡ true) (run_locals frame binds)) (sym (locals_same (rules_of an frame) frame binds (reads_same an w s frame fit r)))
        (all_among (run_locals frame binds)))
        gives.stand gives.typed (λ e. gives.number e ∙ types_number (rules_of an frame) map values)
        (subst (λ (xs : List ℕ). GetFixed (rules_of an frame) xs vs) (locals_same (rules_of an frame) frame binds (reads_same an w s frame fit r))
        (get_fixed (rules_of an frame) (locals_of_binds (rules_of an frame) binds) values vs
        (all_contained (IsFitStat (rules_of an frame)) (stats_of_block frame.reading.block) (the_stat span (Local binds values)) (fits an w s frame fit r).statements
        (inside.stats (the_stat span (Local binds values)) (contains_head (the_stat span (Local binds values)) (stats_of_exprs values)))).1.1 gives.fixed)))
        (λ x t z g k m. ends_give an (stat_of an frame (the_stat span (Local binds values))) z t (Leads an frame map (the_stat span (Local binds values))) Falls g
        (subst (λ (xs : List ℕ). Held an frame (set_all (rules_of an frame) xs (last_expands values) (types_of_list (rules_of an frame) map values) (after_list (rules_of an frame) map values)) t)
        (sym (locals_same (rules_of an frame) frame binds (reads_same an w s frame fit r))) m))

-- ---- `do`

do_leads : (an : Analysis) (frame : Frame) (map : TypeMap) (span : _) (body : Block) (ending : Ending) (t : State) → BlockLeads an frame map body ending t
    → Leads an frame map (the_stat span (Do body)) ending t
do_leads an frame map span body Falls t h = h
do_leads an frame map span body Breaks t h = h
do_leads an frame map span body Continues t h = h
do_leads an frame map span body (Returns vs) t h = h

pub do_forward : (an : Analysis) (l : Layer) → Forward an l → (w : World) (s : State) (frame : Frame) (map : TypeMap) (span : _) (body : Block) → Fine an w s
    → Runs an w s frame → Held an frame map s → Inside frame (of_stat (the_stat span (Do body))) (stats_of (the_stat span (Do body)))
    → Placed an frame (seen_stat (rules_of an frame) map (the_stat span (Do body)))
    → Ends an (stat_of an frame (the_stat span (Do body))) w s (Leads an frame map (the_stat span (Do body))) (stat an.program l frame (the_stat span (Do body)) s)
do_forward an l fwd w s frame map span body f r h inside placed =
    ends_stat an an.program l (block_of an frame body) w s frame span (Do body) (Leads an frame map (the_stat span (Do body))) f
    (λ t v g k p. ends_so an (block_of an frame body) v t (BlockLeads an frame map body) (Leads an frame map (the_stat span (Do body))) (block l frame body t)
    (λ ending u y q d j z. do_leads an frame map span body ending u z)
    (block_forward an l fwd v t frame map body g (runs_kept an (block_of an frame body) w v s t frame k r) (held_same an s t frame map p h)
    (record { nodes = inside.nodes; stats = sub_tail (the_stat span (Do body)) (stats_of_block body) (stats_of_block frame.reading.block) inside.stats }) placed))

pub do_backward : (an : Analysis) (l : Layer) → Forward an l → Backward an l → (w : World) (s : State) (frame : Frame) (map : TypeMap) (span : _) (body : Block)
    (behind breaks_to continues_to : Context) → Fine an w s → Runs an w s frame
    → Held an frame map s → Inside frame (of_stat (the_stat span (Do body))) (stats_of (the_stat span (Do body)))
    → Placed an frame (seen_stat (rules_of an frame) map (the_stat span (Do body)))
    → Marked an frame (found_stat (rules_of an frame) (seen_of an frame) (the_stat span (Do body)) behind breaks_to continues_to)
    → SparesAll (rules_of an frame) behind breaks_to continues_to → (ending : Ending) (t : State) → stat an.program l frame (the_stat span (Do body)) s ≡ Gave ending t
    → Trouble an frame (stm (rules_of an frame) (seen_of an frame) (the_stat span (Do body)) behind breaks_to continues_to) s t → EndsBad an frame behind breaks_to continues_to ending t
do_backward an l fwd bwd w s frame map span body behind breaks_to continues_to f r h inside placed marked spares ending t q y = by_step (stat_gave an.program l frame span (Do body) s ending t q)
  where
    by_step : (m : State) × Same s m × (execute an.program l frame (Do body) m ≡ Gave ending t) → EndsBad an frame behind breaks_to continues_to ending t
    by_step p = block_backward an l fwd bwd w p.0 frame map body behind breaks_to continues_to (fine_same an w s p.0 p.1.0 p.1.1 f)
        (runs_kept an (block_of an frame body) w w s p.0 frame (kept_same an (block_of an frame body) w s p.0 p.1.0 p.1.1) r) (held_same an s p.0 frame map p.1 h)
        (record { nodes = inside.nodes; stats = sub_tail (the_stat span (Do body)) (stats_of_block body) (stats_of_block frame.reading.block) inside.stats }) placed marked spares ending t p.2
        (trouble_same an frame (stm (rules_of an frame) (seen_of an frame) (the_stat span (Do body)) behind breaks_to continues_to) s p.0 t p.1 y)

-- ---- `break` and `continue`

pub break_forward : (an : Analysis) (l : Layer) (w : World) (s : State) (frame : Frame) (map : TypeMap) (span : _) → Fine an w s
    → Ends an (stat_of an frame (the_stat span Break)) w s (Leads an frame map (the_stat span Break)) (stat an.program l frame (the_stat span Break) s)
break_forward an l w s frame map span f = ends_stat an an.program l (stat_of an frame (the_stat span Break)) w s frame span Break (Leads an frame map (the_stat span Break)) f
    (λ t v g k p. ends_give an (stat_of an frame (the_stat span Break)) v t (Leads an frame map (the_stat span Break)) Breaks g refl)

pub continue_forward : (an : Analysis) (l : Layer) (w : World) (s : State) (frame : Frame) (map : TypeMap) (span : _) → Fine an w s
    → Ends an (stat_of an frame (the_stat span Continue)) w s (Leads an frame map (the_stat span Continue)) (stat an.program l frame (the_stat span Continue) s)
continue_forward an l w s frame map span f = ends_stat an an.program l (stat_of an frame (the_stat span Continue)) w s frame span Continue (Leads an frame map (the_stat span Continue)) f
    (λ t v g k p. ends_give an (stat_of an frame (the_stat span Continue)) v t (Leads an frame map (the_stat span Continue)) Continues g refl)
