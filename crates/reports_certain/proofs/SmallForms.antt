-- `...`, and statements that declare a type, forward and backward.
use Rattle.std.proofs.Common.{◌≡◌, ℕ, true, List, Option, Some, None, inl, inr, refl, sym, ap, subst, arith}
use Rattle.luau_values.specs.Value.{Value}
use Rattle.luau_tree.specs.Tree.{the_expr, Vararg, the_stat, StatKind, TypeAlias, TypeFunction}
use Rattle.luau_run.specs.ReadModule.{Use}
use Rattle.luau_run.specs.SyntaxNode.{of_expr}
use Rattle.luau_run.specs.Machine.{State, Gave, give}
use Rattle.luau_run.specs.Layer.{Frame, Ending, Falls, Layer, first}
use Rattle.luau_run.specs.Expressions.{values}
use Rattle.luau_run.specs.Statements.{stat, execute}
use Rattle.type_normal.specs.Holds.{holds}
use Rattle.type_normal.specs.Kinds.{unknown}
use Rattle.type_normal.proofs.Public.{unknown_all}
use Rattle.report_rules.specs.Rules.{fixed_use}
use Rattle.report_rules.specs.TypeMap.{TypeMap}
use Rattle.report_rules.specs.Forward.{builtin_or}
use Rattle.report_rules.specs.Context.{Context}
use Rattle.run_frame.specs.Analysis.{Analysis}
use Rattle.run_frame.specs.Statements.{stats_of_expr}
use Rattle.run_frame.specs.Fit.{Fit}
use Rattle.run_frame.proofs.World.{World}
use Rattle.run_frame.proofs.Counts.{reached}
use Rattle.run_frame.proofs.Fine.{Fine}
use Rattle.run_frame.proofs.Held.{Runs, Held, held_same}
use Rattle.run_frame.proofs.Parts.{Ends, Same, ends_give, gave_same}
use Rattle.run_frame.proofs.Layers.{rules_of, expr_of, stat_of, Inside, Gives, Leads, Pays, EndsBad, Trouble}
use Rattle.run_frame.proofs.Passing.{none_violated}
use Rattle.run_frame.proofs.Blocks.{same_end}
use Rattle.run_frame.proofs.Statements.{ends_stat, stat_gave, trouble_same}
use Rattle.run_frame.proofs.Forms.{IsForm, form_read, form_forward, form_backward}

-- ---- `...`

dots_form : IsForm Vararg
dots_form = record { nameless = refl; pathless = refl; no_local = λ rules id span. refl }

none_some : {A : Type 0} (o : Option A) (x : A) → o ≡ None → o ≡ Some x → ⊥
none_some o x p q = cc

dots_gives : (an : Analysis) (w : World) (s : State) (frame : Frame) (map : TypeMap) (id : ℕ) (span : _) → (rules_of an frame).reading.use_of id ≡ None → Runs an w s frame
    → Gives an frame map (the_expr id span Vararg) frame.further s
dots_gives an w s frame map id span used r = record {
  stand = r.further;
  typed = subst (λ (o : Option Use). holds s.store.heap (first frame.further) (builtin_or o unknown) ≡ true) (sym used) (unknown_all s.store.heap (first frame.further));
  one = λ e. cc;
  fixed = λ path e. absurd (none_some (fixed_use (rules_of an frame) ((rules_of an frame).reading.use_of id)) path (ap (fixed_use (rules_of an frame)) used) e);
  local = λ x e firm. cc;
  guard_shows = λ x firm. inl refl;
  kind = λ x e. cc;
}

pub dots_forward : (an : Analysis) (l : Layer) → Fit an → (w : World) (s : State) (frame : Frame) (map : TypeMap) (id : ℕ) (span : _) → Fine an w s → Runs an w s frame
    → Inside frame (of_expr (the_expr id span Vararg)) (stats_of_expr (the_expr id span Vararg))
    → Ends an (expr_of an frame (the_expr id span Vararg)) w s (Gives an frame map (the_expr id span Vararg)) (values an.program l frame (the_expr id span Vararg) s)
dots_forward an l fit w s frame map id span f r inside =
    form_forward an l w s frame id span Vararg (Gives an frame map (the_expr id span Vararg)) fit dots_form f r inside
    (λ t z g j same. ends_give an (expr_of an frame (the_expr id span Vararg)) z t (Gives an frame map (the_expr id span Vararg)) frame.further g
    (dots_gives an z t frame map id span (form_read an w s frame id span Vararg fit dots_form r inside) j))

pub dots_backward : (an : Analysis) (l : Layer) → Fit an → (w : World) (s : State) (frame : Frame) (id : ℕ) (span : _) → Fine an w s → Runs an w s frame
    → Inside frame (of_expr (the_expr id span Vararg)) (stats_of_expr (the_expr id span Vararg)) → (vs : List Value) (u : State)
    → values an.program l frame (the_expr id span Vararg) s ≡ Gave vs u → Pays an frame (the_expr id span Vararg) s vs u
unfolding give
dots_backward an l fit w s frame id span f r inside vs u q =
    form_backward an l w s frame id span Vararg vs u fit dots_form f r inside q
    (λ z m g j same k. record {
      context = λ type h. absurd (none_violated an frame m h);
      count = ap (λ (x : State). reached an frame.activation x.trace) (sym (gave_same frame.further vs m u k).1);
      own = refl;
    })

-- ---- statements that do nothing

-- a statement that falls through at once, and says nothing
abbrev pub IsIdle : StatKind → Type 0
IsIdle (TypeAlias exported name generics typ) = Unit {0}
IsIdle (TypeFunction exported name body) = Unit {0}
IsIdle _ = ⊥

pub idle_forward : (an : Analysis) (l : Layer) (w : World) (s : State) (frame : Frame) (map : TypeMap) (span : _) (kind : StatKind) → IsIdle kind → Fine an w s → Held an frame map s
    → Ends an (stat_of an frame (the_stat span kind)) w s (Leads an frame map (the_stat span kind)) (stat an.program l frame (the_stat span kind) s)
idle_forward an l w s frame map span (TypeAlias exported name generics typ) idle f h =
    ends_stat an an.program l (stat_of an frame (the_stat span (TypeAlias exported name generics typ))) w s frame span (TypeAlias exported name generics typ)
    (Leads an frame map (the_stat span (TypeAlias exported name generics typ))) f
    (λ t v g k p. ends_give an (stat_of an frame (the_stat span (TypeAlias exported name generics typ))) v t (Leads an frame map (the_stat span (TypeAlias exported name generics typ))) Falls g
    (held_same an s t frame map p h))
idle_forward an l w s frame map span (TypeFunction exported name body) idle f h =
    ends_stat an an.program l (stat_of an frame (the_stat span (TypeFunction exported name body))) w s frame span (TypeFunction exported name body)
    (Leads an frame map (the_stat span (TypeFunction exported name body))) f
    (λ t v g k p. ends_give an (stat_of an frame (the_stat span (TypeFunction exported name body))) v t (Leads an frame map (the_stat span (TypeFunction exported name body))) Falls g
    (held_same an s t frame map p h))
idle_forward an l w s frame map span _ idle f h = absurd idle

-- what gave at once is in trouble where its own context was
falls_bad : (an : Analysis) (frame : Frame) (context breaks_to continues_to : Context) (ending : Ending) (m t : State) → Gave Falls m ≡ Gave ending t → Trouble an frame context m t
    → EndsBad an frame context breaks_to continues_to ending t
falls_bad an frame context breaks_to continues_to ending m t e h = same_end an frame context breaks_to continues_to Falls ending m t e
    (by_trouble (subst (λ (x : State). Trouble an frame context m x) (sym (gave_same Falls ending m t e).1) h))
  where
    by_trouble : Trouble an frame context m m → EndsBad an frame context breaks_to continues_to Falls m
    by_trouble (inl k) = k
    by_trouble (inr k) = absurd (omega (arith, k))

pub idle_backward : (an : Analysis) (l : Layer) (s : State) (frame : Frame) (span : _) (kind : StatKind) (behind breaks_to continues_to : Context) → IsIdle kind → (ending : Ending) (t : State)
    → stat an.program l frame (the_stat span kind) s ≡ Gave ending t → Trouble an frame behind s t → EndsBad an frame behind breaks_to continues_to ending t
unfolding give
idle_backward an l s frame span (TypeAlias exported name generics typ) behind breaks_to continues_to idle ending t q y = by_step (stat_gave an.program l frame span (TypeAlias exported name generics typ) s ending t q)
  where
    by_step : (m : State) × Same s m × (execute an.program l frame (TypeAlias exported name generics typ) m ≡ Gave ending t) → EndsBad an frame behind breaks_to continues_to ending t
    by_step p = falls_bad an frame behind breaks_to continues_to ending p.0 t p.2 (trouble_same an frame behind s p.0 t p.1 y)
idle_backward an l s frame span (TypeFunction exported name body) behind breaks_to continues_to idle ending t q y = by_step (stat_gave an.program l frame span (TypeFunction exported name body) s ending t q)
  where
    by_step : (m : State) × Same s m × (execute an.program l frame (TypeFunction exported name body) m ≡ Gave ending t) → EndsBad an frame behind breaks_to continues_to ending t
    by_step p = falls_bad an frame behind breaks_to continues_to ending p.0 t p.2 (trouble_same an frame behind s p.0 t p.1 y)
idle_backward an l s frame span _ behind breaks_to continues_to idle ending t q y = absurd idle
