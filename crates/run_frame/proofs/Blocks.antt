-- Blocks, forward and backward, over a layer that does their statements.
use Rattle.std.proofs.Common.{◌≡◌, ℕ, ◌<◌, Bool, true, false, not, ◌||◌, ◌⊎◌, inl, inr, refl, sym, ◌∙◌, ap, subst, arith}
use Rattle.std.specs.List.{AllByRecursion}
use Rattle.luau_values.specs.Value.{Value}
use Rattle.luau_values.specs.Heap.{Heap}
use Rattle.luau_values.specs.Stands.{Stands}
use Rattle.luau_tree.specs.Tree.{Block, no_stats, more_stats, Stat}
use Rattle.luau_run.specs.SyntaxNode.{of_block, of_stat}
use Rattle.luau_run.specs.Machine.{State, Gave, ◌>>=◌, give}
use Rattle.luau_run.specs.Layer.{Frame, Ending, Falls, Breaks, Continues, Returns, Layer, first}
use Rattle.luau_run.specs.Calls.{block, block_rest}
use Rattle.type_arena.specs.Term.{Term}
use Rattle.type_normal.specs.Holds.{holds}
use Rattle.type_normal.specs.Operations.{union}
use Rattle.type_normal.proofs.Public.{union_holds}
use Rattle.report_rules.specs.Effects.{stirs, stirs_block, assigns, assigns_block, declares, declares_block, returns, returns_block, breaks, breaks_block}
use Rattle.report_rules.specs.TypeMap.{TypeMap}
use Rattle.report_rules.specs.After.{after_stat, after_block, returned, returned_block}
use Rattle.report_rules.specs.Seen.{seen_stat, seen_block}
use Rattle.report_rules.specs.Context.{Context}
use Rattle.report_rules.specs.Statements.{stm, stm_block}
use Rattle.report_rules.specs.Findings.{found_stat, found_block}
use Rattle.report_rules.specs.Reports.{findings}
use Rattle.run_frame.specs.Analysis.{Analysis}
use Rattle.run_frame.specs.Statements.{stats_of, stats_of_block}
use Rattle.run_frame.proofs.World.{World}
use Rattle.run_frame.proofs.Counts.{reached}
use Rattle.run_frame.proofs.Kept.{MayMore, Kept}
use Rattle.run_frame.proofs.Fine.{Fine}
use Rattle.run_frame.proofs.Held.{Runs, runs_kept, Held}
use Rattle.run_frame.proofs.Parts.{Ends, ends_then, ends_so, ends_more, ends_give, ends_gave, gave_then, gave_same}
use Rattle.run_frame.proofs.Layers.{rules_of, seen_of, stat_of, block_of, Inside, Placed, Marked, Leads, EndsBad, Trouble, Forward, Backward}
use Rattle.run_frame.proofs.LooseContexts.{SparesAll, spare_block}
use Rattle.run_frame.proofs.Readings.{sub_left, sub_right}
use Rattle.run_frame.proofs.Lists.{inside_left, inside_right}

-- ---- tests of two

pub or_left : (b c : Bool) → b ≡ true → b || c ≡ true
or_left true c e = refl
or_left false c e = cc

pub or_right : (b c : Bool) → c ≡ true → b || c ≡ true
or_right true c e = refl
or_right false c e = e

neither_left : (b c : Bool) → b || c ≡ false → b ≡ false
neither_left true c e = e
neither_left false c e = refl

neither_right : (b c : Bool) → b || c ≡ false → c ≡ false
neither_right true c e = cc
neither_right false c e = e

calm_left : (b c : Bool) → not (b || c) ≡ true → not b ≡ true
calm_left true c e = e
calm_left false c e = refl

calm_right : (b c : Bool) → not (b || c) ≡ true → not c ≡ true
calm_right true c e = cc
calm_right false c e = e

-- ---- forward

-- a statement does what its block may, and so does the rest
may_stat : (an : Analysis) (frame : Frame) (st : Stat) (rest : Block) → MayMore (stat_of an frame st) (block_of an frame (more_stats st rest))
may_stat an frame st rest = record {
  runs = inr refl;
  assigns = λ x e. neither_left (assigns (rules_of an frame) x st) (assigns_block (rules_of an frame) x rest) e;
  binds = λ x e. or_left (declares (rules_of an frame) x st) (declares_block (rules_of an frame) x rest) e;
  calm = λ e. calm_left (stirs (rules_of an frame) st) (stirs_block (rules_of an frame) rest) e;
}

may_rest : (an : Analysis) (frame : Frame) (st : Stat) (rest : Block) → MayMore (block_of an frame rest) (block_of an frame (more_stats st rest))
may_rest an frame st rest = record {
  runs = inr refl;
  assigns = λ x e. neither_right (assigns (rules_of an frame) x st) (assigns_block (rules_of an frame) x rest) e;
  binds = λ x e. or_right (declares (rules_of an frame) x st) (declares_block (rules_of an frame) x rest) e;
  calm = λ e. calm_right (stirs (rules_of an frame) st) (stirs_block (rules_of an frame) rest) e;
}

-- how a block ends
abbrev pub BlockLeads : Analysis → Frame → TypeMap → Block → Ending → State → Type 0
BlockLeads an frame map b Falls t = Held an frame (after_block (rules_of an frame) map b) t
BlockLeads an frame map b Breaks t = breaks_block b ≡ true
BlockLeads an frame map b Continues t = breaks_block b ≡ true
BlockLeads an frame map b (Returns vs) t =
    (returns_block b ≡ true) × AllByRecursion (Stands t.store.heap) vs × (holds t.store.heap (first vs) (returned_block (rules_of an frame) map b) ≡ true)

pub in_first : (h : Heap) (v : Value) (one other : Term) → holds h v one ≡ true → holds h v (union one other) ≡ true
in_first h v one other e = union_holds h v one other ∙ or_left (holds h v one) (holds h v other) e

pub in_second : (h : Heap) (v : Value) (one other : Term) → holds h v other ≡ true → holds h v (union one other) ≡ true
in_second h v one other e = union_holds h v one other ∙ or_right (holds h v one) (holds h v other) e

rest_leads : (an : Analysis) (frame : Frame) (map : TypeMap) (st : Stat) (rest : Block) (ending : Ending) (t : State)
    → BlockLeads an frame (after_stat (rules_of an frame) map st) rest ending t → BlockLeads an frame map (more_stats st rest) ending t
rest_leads an frame map st rest Falls t h = h
rest_leads an frame map st rest Breaks t h = or_right (breaks st) (breaks_block rest) h
rest_leads an frame map st rest Continues t h = or_right (breaks st) (breaks_block rest) h
rest_leads an frame map st rest (Returns vs) t h = (
  or_right (returns st) (returns_block rest) h.0,
  h.1,
  in_second t.store.heap (first vs) (returned (rules_of an frame) map st) (returned_block (rules_of an frame) (after_stat (rules_of an frame) map st) rest) h.2,
)

pub block_forward : (an : Analysis) (l : Layer) → Forward an l → (w : World) (s : State) (frame : Frame) (map : TypeMap) (b : Block) → Fine an w s → Runs an w s frame
    → Held an frame map s → Inside frame (of_block b) (stats_of_block b) → Placed an frame (seen_block (rules_of an frame) map b)
    → Ends an (block_of an frame b) w s (BlockLeads an frame map b) (block l frame b s)
unfolding ◌>>=◌
block_forward an l fwd w s frame map no_stats f r h inside placed = ends_give an (block_of an frame no_stats) w s (BlockLeads an frame map no_stats) Falls f h
block_forward an l fwd w s frame map (more_stats st rest) f r h inside placed =
    ends_then an (block_of an frame (more_stats st rest)) w s (Leads an frame map st) (BlockLeads an frame map (more_stats st rest)) (l.stat frame st s)
    (block_rest (block l frame rest))
    (ends_more an (stat_of an frame st) (block_of an frame (more_stats st rest)) w s (Leads an frame map st) (l.stat frame st s) (may_stat an frame st rest)
    (fwd.stat w s frame map st f r h (inside_left frame (of_stat st) (of_block rest) (stats_of st) (stats_of_block rest) inside)
    (sub_left (seen_stat (rules_of an frame) map st) (seen_block (rules_of an frame) (after_stat (rules_of an frame) map st) rest) (seen_of an frame) placed)))
    (λ ending t v g k p. by_ending ending t v g k p (λ m. ends_more an (block_of an frame rest) (block_of an frame (more_stats st rest)) v t
    (BlockLeads an frame map (more_stats st rest)) (block l frame rest t) (may_rest an frame st rest)
    (ends_so an (block_of an frame rest) v t (BlockLeads an frame (after_stat (rules_of an frame) map st) rest) (BlockLeads an frame map (more_stats st rest)) (block l frame rest t)
    (λ end u y q d j z. rest_leads an frame map st rest end u z)
    (block_forward an l fwd v t frame (after_stat (rules_of an frame) map st) rest g (runs_kept an (block_of an frame (more_stats st rest)) w v s t frame k r) m
    (inside_right frame (of_stat st) (of_block rest) (stats_of st) (stats_of_block rest) inside)
    (sub_right (seen_stat (rules_of an frame) map st) (seen_block (rules_of an frame) (after_stat (rules_of an frame) map st) rest) (seen_of an frame) placed)))))
  where
    by_ending : (ending : Ending) (t : State) (v : World) → Fine an v t → Kept an (block_of an frame (more_stats st rest)) w s v t → Leads an frame map st ending t
        → (Held an frame (after_stat (rules_of an frame) map st) t → Ends an (block_of an frame (more_stats st rest)) v t (BlockLeads an frame map (more_stats st rest)) (block l frame rest t))
        → Ends an (block_of an frame (more_stats st rest)) v t (BlockLeads an frame map (more_stats st rest)) (block_rest (block l frame rest) ending t)
    by_ending Falls t v g k p next = next p
    by_ending Breaks t v g k p next = ends_give an (block_of an frame (more_stats st rest)) v t (BlockLeads an frame map (more_stats st rest)) Breaks g
        (or_left (breaks st) (breaks_block rest) p)
    by_ending Continues t v g k p next = ends_give an (block_of an frame (more_stats st rest)) v t (BlockLeads an frame map (more_stats st rest)) Continues g
        (or_left (breaks st) (breaks_block rest) p)
    by_ending (Returns vs) t v g k p next = ends_give an (block_of an frame (more_stats st rest)) v t (BlockLeads an frame map (more_stats st rest)) (Returns vs) g (
      or_left (returns st) (returns_block rest) p.0,
      p.1,
      in_first t.store.heap (first vs) (returned (rules_of an frame) map st) (returned_block (rules_of an frame) (after_stat (rules_of an frame) map st) rest) p.2,
    )

-- ---- backward

pub count_split : (a b c : ℕ) → a < c → (a < b) ⊎ (b < c)
count_split a b c z = grind arith

-- what ended at once ends so
pub same_end : (an : Analysis) (frame : Frame) (behind breaks_to continues_to : Context) (mid ending : Ending) (m t : State) → Gave mid m ≡ Gave ending t
    → EndsBad an frame behind breaks_to continues_to mid m → EndsBad an frame behind breaks_to continues_to ending t
same_end an frame behind breaks_to continues_to mid ending m t e h = subst (λ (x : State). EndsBad an frame behind breaks_to continues_to ending x) (gave_same mid ending m t e).1
    (subst (λ (x : Ending). EndsBad an frame behind breaks_to continues_to x m) (gave_same mid ending m t e).0 h)

pub same_trouble : (an : Analysis) (frame : Frame) (context : Context) (mid ending : Ending) (s m t : State) → Gave mid m ≡ Gave ending t → Trouble an frame context s t → Trouble an frame context s m
same_trouble an frame context mid ending s m t e h = subst (λ (x : State). Trouble an frame context s x) (sym (gave_same mid ending m t e).1) h

pub block_backward : (an : Analysis) (l : Layer) → Forward an l → Backward an l → (w : World) (s : State) (frame : Frame) (map : TypeMap) (b : Block)
    (behind breaks_to continues_to : Context) → Fine an w s → Runs an w s frame → Held an frame map s → Inside frame (of_block b) (stats_of_block b)
    → Placed an frame (seen_block (rules_of an frame) map b)
    → Marked an frame (found_block (rules_of an frame) (seen_of an frame) b behind breaks_to continues_to)
    → SparesAll (rules_of an frame) behind breaks_to continues_to → (ending : Ending) (t : State) → block l frame b s ≡ Gave ending t
    → Trouble an frame (stm_block (rules_of an frame) (seen_of an frame) b behind breaks_to continues_to) s t → EndsBad an frame behind breaks_to continues_to ending t
unfolding ◌>>=◌ give
block_backward an l fwd bwd w s frame map no_stats behind breaks_to continues_to f r h inside placed marked spares ending t e (inl y) =
    same_end an frame behind breaks_to continues_to Falls ending s t e y
block_backward an l fwd bwd w s frame map no_stats behind breaks_to continues_to f r h inside placed marked spares ending t e (inr y) =
    absurd (omega (arith, y, ap (λ (x : State). reached an frame.activation x.trace) (gave_same Falls ending s t e).1))
block_backward an l fwd bwd w s frame map (more_stats st rest) behind breaks_to continues_to f r h inside placed marked spares ending t e y =
    by_parts (gave_then (l.stat frame st s) (block_rest (block l frame rest)) ending t e)
    (λ m mid g x. bwd.stat w s frame map st (stm_block (rules_of an frame) (seen_of an frame) rest behind breaks_to continues_to) breaks_to continues_to f r h
    (inside_left frame (of_stat st) (of_block rest) (stats_of st) (stats_of_block rest) inside)
    (sub_left (seen_stat (rules_of an frame) map st) (seen_block (rules_of an frame) (after_stat (rules_of an frame) map st) rest) (seen_of an frame) placed)
    (sub_left (found_stat (rules_of an frame) (seen_of an frame) st (stm_block (rules_of an frame) (seen_of an frame) rest behind breaks_to continues_to) breaks_to continues_to)
    (found_block (rules_of an frame) (seen_of an frame) rest behind breaks_to continues_to) (findings (rules_of an frame)) marked)
    (spare_block (rules_of an frame) (seen_of an frame) rest behind breaks_to continues_to spares.0 spares.1 spares.2, spares.1, spares.2) mid m g x)
    (λ m g. ends_gave an (stat_of an frame st) w s (Leads an frame map st) (l.stat frame st s) Falls m g
    (fwd.stat w s frame map st f r h (inside_left frame (of_stat st) (of_block rest) (stats_of st) (stats_of_block rest) inside)
    (sub_left (seen_stat (rules_of an frame) map st) (seen_block (rules_of an frame) (after_stat (rules_of an frame) map st) rest) (seen_of an frame) placed)))
    (λ v m g k q n x. block_backward an l fwd bwd v m frame (after_stat (rules_of an frame) map st) rest behind breaks_to continues_to g
    (runs_kept an (stat_of an frame st) w v s m frame k r) q
    (inside_right frame (of_stat st) (of_block rest) (stats_of st) (stats_of_block rest) inside)
    (sub_right (seen_stat (rules_of an frame) map st) (seen_block (rules_of an frame) (after_stat (rules_of an frame) map st) rest) (seen_of an frame) placed)
    (sub_right (found_stat (rules_of an frame) (seen_of an frame) st (stm_block (rules_of an frame) (seen_of an frame) rest behind breaks_to continues_to) breaks_to continues_to)
    (found_block (rules_of an frame) (seen_of an frame) rest behind breaks_to continues_to) (findings (rules_of an frame)) marked) spares ending t n x)
  where
    by_parts : (mid : Ending) × (m : State) × (l.stat frame st s ≡ Gave mid m) × (block_rest (block l frame rest) mid m ≡ Gave ending t)
        → ((m : State) (mid : Ending) → l.stat frame st s ≡ Gave mid m
        → Trouble an frame (stm (rules_of an frame) (seen_of an frame) st (stm_block (rules_of an frame) (seen_of an frame) rest behind breaks_to continues_to) breaks_to continues_to) s m
        → EndsBad an frame (stm_block (rules_of an frame) (seen_of an frame) rest behind breaks_to continues_to) breaks_to continues_to mid m)
        → ((m : State) → l.stat frame st s ≡ Gave Falls m → (v : World) × Fine an v m × Kept an (stat_of an frame st) w s v m × Held an frame (after_stat (rules_of an frame) map st) m)
        → ((v : World) (m : State) → Fine an v m → Kept an (stat_of an frame st) w s v m → Held an frame (after_stat (rules_of an frame) map st) m → block l frame rest m ≡ Gave ending t
        → Trouble an frame (stm_block (rules_of an frame) (seen_of an frame) rest behind breaks_to continues_to) m t → EndsBad an frame behind breaks_to continues_to ending t)
        → EndsBad an frame behind breaks_to continues_to ending t
    by_parts (Falls, m, g, n) stat_so falls next = by_trouble (falls m g) y
      where
        by_trouble : (v : World) × Fine an v m × Kept an (stat_of an frame st) w s v m × Held an frame (after_stat (rules_of an frame) map st) m
            → Trouble an frame (stm (rules_of an frame) (seen_of an frame) st (stm_block (rules_of an frame) (seen_of an frame) rest behind breaks_to continues_to) breaks_to continues_to) s t
            → EndsBad an frame behind breaks_to continues_to ending t
        by_trouble p (inl x) = next p.0 m p.1 p.2 p.3 n (inl (stat_so m Falls g (inl x)))
        by_trouble p (inr x) = by_count (count_split (reached an frame.activation s.trace) (reached an frame.activation m.trace) (reached an frame.activation t.trace) x)
          where
            by_count : (reached an frame.activation s.trace < reached an frame.activation m.trace) ⊎ (reached an frame.activation m.trace < reached an frame.activation t.trace)
                → EndsBad an frame behind breaks_to continues_to ending t
            by_count (inl z) = next p.0 m p.1 p.2 p.3 n (inl (stat_so m Falls g (inr z)))
            by_count (inr z) = next p.0 m p.1 p.2 p.3 n (inr z)
    by_parts (Breaks, m, g, n) stat_so falls next = same_end an frame behind breaks_to continues_to Breaks ending m t n
        (stat_so m Breaks g (same_trouble an frame _ Breaks ending s m t n y))
    by_parts (Continues, m, g, n) stat_so falls next = same_end an frame behind breaks_to continues_to Continues ending m t n
        (stat_so m Continues g (same_trouble an frame _ Continues ending s m t n y))
    by_parts (Returns vs, m, g, n) stat_so falls next = same_end an frame behind breaks_to continues_to (Returns vs) ending m t n
        (stat_so m (Returns vs) g (same_trouble an frame _ (Returns vs) ending s m t n y))
