-- Statements that leave a block: `return`, forward; `break` and `continue`, backward.
use Rattle.std.proofs.Common.{◌≡◌, Bool, true, false, if◌then◌else◌, List, [], ◌∷◌, length, inl, inr, refl, sym, subst, arith}
use Rattle.luau_values.specs.Value.{Value}
use Rattle.luau_values.specs.Heap.{Heap}
use Rattle.luau_tree.specs.Tree.{Exprs, no_exprs, more_exprs, the_stat, Return, Break, Continue}
use Rattle.luau_run.specs.SyntaxNode.{of_stat}
use Rattle.luau_run.specs.Machine.{State, Gave, ◌>>=◌, give}
use Rattle.luau_run.specs.Layer.{Frame, Ending, Breaks, Continues, Returns, Layer, first}
use Rattle.luau_run.specs.Expressions.{all_values}
use Rattle.luau_run.specs.Statements.{stat, execute}
use Rattle.type_arena.specs.Term.{Term, never}
use Rattle.type_normal.specs.Holds.{holds}
use Rattle.type_normal.specs.Kinds.{nil_type}
use Rattle.report_rules.specs.Effects.{any_effects}
use Rattle.report_rules.specs.TypeMap.{TypeMap, first_type}
use Rattle.report_rules.specs.Forward.{types_of_list}
use Rattle.report_rules.specs.Seen.{seen_stat}
use Rattle.report_rules.specs.Context.{Context}
use Rattle.run_frame.specs.Analysis.{Analysis}
use Rattle.run_frame.specs.Statements.{stats_of, stats_of_exprs, stats_of_block}
use Rattle.run_frame.proofs.World.{World}
use Rattle.run_frame.proofs.Fine.{Fine}
use Rattle.run_frame.proofs.Held.{Runs, runs_kept, Held, held_same}
use Rattle.run_frame.proofs.Parts.{Ends, Same, ends_then, ends_give, gave_same}
use Rattle.run_frame.proofs.Layers.{rules_of, part_of, stat_of, Inside, Placed, Leads, EndsBad, Trouble, Forward}
use Rattle.run_frame.proofs.Readings.{sub_tail}
use Rattle.run_frame.proofs.Lists.{ListGives, list_forward}
use Rattle.run_frame.proofs.Blocks.{same_end}
use Rattle.run_frame.proofs.Statements.{ends_stat, stat_gave, trouble_same}

-- ---- `return`

nil_first : (heap : Heap) (vs : List Value) → length vs ≡ 0 → holds heap (first vs) nil_type ≡ true
nil_first heap [] e = refl
nil_first heap (v ∷ vs) e = absurd (omega (arith, e))

-- the first value is of the type of the first expression, and nil without one
first_typed : (an : Analysis) (frame : Frame) (map : TypeMap) (values : Exprs) (vs : List Value) (t : State) → ListGives an frame map values vs t
    → holds t.store.heap (first vs) (first_type false (types_of_list (rules_of an frame) map values)) ≡ true
first_typed an frame map no_exprs vs t g = nil_first t.store.heap vs (g.number refl)
first_typed an frame map (more_exprs e rest) vs t g = g.typed.0

where_it_is_live : (dead : Bool) (heap : Heap) (v : Value) (type : Term) → dead ≡ false → holds heap v type ≡ true → holds heap v (if dead then never else type) ≡ true
where_it_is_live true heap v type e h = cc
where_it_is_live false heap v type e h = h

pub return_forward : (an : Analysis) (l : Layer) → Forward an l → (w : World) (s : State) (frame : Frame) (map : TypeMap) (span : _) (values : Exprs) → Fine an w s
    → Runs an w s frame → Held an frame map s → Inside frame (of_stat (the_stat span (Return values))) (stats_of (the_stat span (Return values)))
    → Placed an frame (seen_stat (rules_of an frame) map (the_stat span (Return values)))
    → Ends an (stat_of an frame (the_stat span (Return values))) w s (Leads an frame map (the_stat span (Return values))) (stat an.program l frame (the_stat span (Return values)) s)
unfolding ◌>>=◌
return_forward an l fwd w s frame map span values f r h inside placed =
    ends_stat an an.program l (part_of frame (any_effects (rules_of an frame) values)) w s frame span (Return values) (Leads an frame map (the_stat span (Return values))) f
    (λ t v g k p. ends_then an (part_of frame (any_effects (rules_of an frame) values)) v t (ListGives an frame map values) (Leads an frame map (the_stat span (Return values)))
    (all_values l frame values t) (λ vs. give (Returns vs))
    (list_forward an l fwd v t frame map values g (runs_kept an (part_of frame (any_effects (rules_of an frame) values)) w v s t frame k r) (held_same an s t frame map p h)
    (record { nodes = inside.nodes; stats = sub_tail (the_stat span (Return values)) (stats_of_exprs values) (stats_of_block frame.reading.block) inside.stats }) placed)
    (λ vs u y d j z. ends_give an (part_of frame (any_effects (rules_of an frame) values)) y u (Leads an frame map (the_stat span (Return values))) (Returns vs) d
    (refl, z.stand, where_it_is_live map.dead u.store.heap (first vs) (first_type false (types_of_list (rules_of an frame) map values)) h.live (first_typed an frame map values vs u z))))

-- ---- `break` and `continue`

-- what left at once is in trouble where its own context was
left_bad : (an : Analysis) (frame : Frame) (context : Context) (mid ending : Ending) (m t : State) → Gave mid m ≡ Gave ending t → Trouble an frame context m t
    → Trouble an frame context m m
left_bad an frame context mid ending m t e h = subst (λ (x : State). Trouble an frame context m x) (sym (gave_same mid ending m t e).1) h

pub break_backward : (an : Analysis) (l : Layer) (s : State) (frame : Frame) (span : _) (behind breaks_to continues_to : Context) (ending : Ending) (t : State)
    → stat an.program l frame (the_stat span Break) s ≡ Gave ending t → Trouble an frame breaks_to s t → EndsBad an frame behind breaks_to continues_to ending t
unfolding give
break_backward an l s frame span behind breaks_to continues_to ending t q y = by_step (stat_gave an.program l frame span Break s ending t q)
  where
    by_step : (m : State) × Same s m × (execute an.program l frame Break m ≡ Gave ending t) → EndsBad an frame behind breaks_to continues_to ending t
    by_step p = same_end an frame behind breaks_to continues_to Breaks ending p.0 t p.2 (by_trouble (left_bad an frame breaks_to Breaks ending p.0 t p.2 (trouble_same an frame breaks_to s p.0 t p.1 y)))
      where
        by_trouble : Trouble an frame breaks_to p.0 p.0 → EndsBad an frame behind breaks_to continues_to Breaks p.0
        by_trouble (inl h) = h
        by_trouble (inr h) = absurd (omega (arith, h))

pub continue_backward : (an : Analysis) (l : Layer) (s : State) (frame : Frame) (span : _) (behind breaks_to continues_to : Context) (ending : Ending) (t : State)
    → stat an.program l frame (the_stat span Continue) s ≡ Gave ending t → Trouble an frame continues_to s t → EndsBad an frame behind breaks_to continues_to ending t
unfolding give
continue_backward an l s frame span behind breaks_to continues_to ending t q y = by_step (stat_gave an.program l frame span Continue s ending t q)
  where
    by_step : (m : State) × Same s m × (execute an.program l frame Continue m ≡ Gave ending t) → EndsBad an frame behind breaks_to continues_to ending t
    by_step p = same_end an frame behind breaks_to continues_to Continues ending p.0 t p.2
        (by_trouble (left_bad an frame continues_to Continues ending p.0 t p.2 (trouble_same an frame continues_to s p.0 t p.1 y)))
      where
        by_trouble : Trouble an frame continues_to p.0 p.0 → EndsBad an frame behind breaks_to continues_to Continues p.0
        by_trouble (inl h) = h
        by_trouble (inr h) = absurd (omega (arith, h))
