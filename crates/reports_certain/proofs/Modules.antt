-- A module's own body, run by an activation of its own: what it gives; and modules that are required.
use Rattle.std.proofs.Common.{◌≡◌, ◌<◌, ◌==◌, ℕ, zero, suc, Bool, true, false, if◌then◌else◌, List, [], ◌∷◌, Option, Some, None, inr, refl, sym, ◌∙◌, ap, subst, arith, slice_get}
use Rattle.std.specs.List.{AllByRecursion, find}
use Rattle.std.specs.Option.{option_map}
use Rattle.std.proofs.lemmas.Bool.{eqb-true}
use Rattle.luau_values.specs.Value.{Value, Nil}
use Rattle.luau_values.specs.Heap.{Heap}
use Rattle.luau_values.specs.Stands.{Stands}
use Rattle.luau_tree.specs.Tree.{Block}
use Rattle.luau_run.specs.ReadModule.{ReadModule}
use Rattle.luau_run.specs.SyntaxNode.{of_block}
use Rattle.luau_run.specs.Machine.{State, Gave, Part, go_on, ◌>>=◌, give, spend, look, change, activate}
use Rattle.luau_run.specs.Layer.{Frame, Ending, Falls, Breaks, Continues, Returns, Layer, first}
use Rattle.luau_run.specs.Calls.{returned, block, frame_of, loaded_value, enter_module, require_from, require}
use Rattle.type_arena.specs.Term.{Term, never}
use Rattle.type_normal.specs.Holds.{holds}
use Rattle.type_normal.specs.HeapFree.{heap_free, widen}
use Rattle.type_normal.specs.Cut.{cut_up}
use Rattle.type_normal.specs.Operations.{union}
use Rattle.type_normal.specs.Kinds.{nil_type}
use Rattle.type_normal.proofs.Public.{widen_above, cut_up_above, widen_free, cut_up_free}
use Rattle.report_rules.specs.TypeMap.{no_map}
use Rattle.report_rules.specs.After.{after_block, returned_block, where_live}
use Rattle.report_rules.specs.Effects.{breaks_block}
use Rattle.report_rules.specs.Seen.{seen_block}
use Rattle.report_rules.specs.Context.{none}
use Rattle.report_rules.specs.Findings.{found_block}
use Rattle.report_rules.specs.Reports.{findings}
use Rattle.run_frame.specs.Analysis.{Analysis}
use Rattle.run_frame.specs.Statements.{stats_of_block}
use Rattle.run_frame.specs.Fit.{Fit}
use Rattle.run_frame.proofs.World.{World, with_module}
use Rattle.run_frame.proofs.Counts.{reached}
use Rattle.run_frame.proofs.Kept.{nobody}
use Rattle.run_frame.proofs.Fine.{Sub, IsLoaded, Fine}
use Rattle.run_frame.proofs.Held.{Runs, Held}
use Rattle.run_frame.proofs.Parts.{Ends, ends_so, ends_then, ends_give}
use Rattle.run_frame.proofs.Activations.{one_begun, fine_begun, runs_begun, held_begun, ends_activate}
use Rattle.run_frame.proofs.Closures.{kept_all, with_loaded, fine_loaded}
use Rattle.run_frame.proofs.Layers.{seen_of, block_of, Inside, Placed, Marked, EndsBad, Forward, Backward}
use Rattle.run_frame.proofs.LooseContexts.{spare_none}
use Rattle.run_frame.proofs.Passing.{none_violated}
use Rattle.run_frame.proofs.Blocks.{in_first, in_second, BlockLeads, block_forward, block_backward}
use Rattle.reports_certain.proofs.Closed.{closed, block_closed}

-- where no context stands behind, no end is bad
no_bad_end : (an : Analysis) (frame : Frame) (ending : Ending) (t : State) → EndsBad an frame none none none ending t → ⊥
no_bad_end an frame Falls t h = none_violated an frame t h
no_bad_end an frame Breaks t h = none_violated an frame t h
no_bad_end an frame Continues t h = none_violated an frame t h
no_bad_end an frame (Returns vs) t h = h

zero_or_more : (n : ℕ) (P : Type 0) → (n ≡ 0 → P) → (0 < n → P) → P
zero_or_more zero P a b = a refl
zero_or_more (suc n) P a b = b (omega arith)

-- what a module gives stands, and is of the type that the rules say
abbrev pub ModuleGives : Analysis → ℕ → Ending → State → Type 0
ModuleGives an at ending t = Stands t.store.heap (first (returned ending)) × (holds t.store.heap (first (returned ending)) (an.summary at) ≡ true)

first_there : (heap : Heap) (vs : List Value) → AllByRecursion (Stands heap) vs → Stands heap (first vs)
first_there heap [] h = tt
first_there heap (v ∷ vs) h = h.0

-- a module's own body, entered where a run may be
module _ (an : Analysis) (fit : Fit an) (l : Layer) (fwd : Forward an (closed an l)) (bwd : Backward an (closed an l)) (at : ℕ) (reading : ReadModule)
    (here : slice_get an.program.modules at ≡ Some reading) (w : World) (s : State) (f : Fine an w s) where
  -- its frame
  abbrev body_frame : Frame
  body_frame = frame_of at reading [] s.store.begun

  same_reading : (an.rules at).reading ≡ reading
  same_reading = (fit.modules at reading here).same

  inside_body : Inside body_frame (of_block reading.block) (stats_of_block reading.block)
  inside_body = record { nodes = λ x c. c; stats = λ x c. c }

  placed_body : Placed an body_frame (seen_block (an.rules at) no_map reading.block)
  placed_body = subst (λ (x : ReadModule). Sub (seen_block (an.rules at) no_map x.block) (seen_block (an.rules at) no_map (an.rules at).reading.block)) same_reading (λ x c. c)

  marked_body : Marked an body_frame (found_block (an.rules at) (seen_of an body_frame) reading.block none none none)
  marked_body = subst (λ (x : ReadModule). Sub (found_block (an.rules at) (seen_of an body_frame) x.block none none none) (findings (an.rules at))) same_reading (λ x c. c)

  begun_fine : Fine an (with_module w at) (one_begun s)
  begun_fine = fine_begun an w s at f

  begun_runs : Runs an (with_module w at) (one_begun s) body_frame
  begun_runs = runs_begun an w s at reading [] f here tt

  begun_held : Held an body_frame no_map (one_begun s)
  begun_held = held_begun an w s body_frame no_map f refl refl (λ x firm. (s.store.heap, Nil, refl))

  -- the type of what it gives
  abbrev given_type : Block → Term
  given_type b = cut_up (widen (union (returned_block (an.rules at) no_map b) (where_live (after_block (an.rules at) no_map b) nil_type)))

  summary_is : given_type reading.block ≡ an.summary at
  summary_is = ap (λ (x : ReadModule). given_type x.block) (sym same_reading) ∙ sym (fit.modules at reading here).gives

  gives_so : (ending : Ending) (t : State) → BlockLeads an body_frame no_map reading.block ending t → ModuleGives an at ending t
  gives_so Falls t h = (
    tt,
    subst (λ (type : Term). holds t.store.heap Nil type ≡ true) summary_is
        (cut_up_above t.store.heap Nil (widen (union (returned_block (an.rules at) no_map reading.block) (where_live (after_block (an.rules at) no_map reading.block) nil_type)))
        (widen_above t.store.heap Nil (union (returned_block (an.rules at) no_map reading.block) (where_live (after_block (an.rules at) no_map reading.block) nil_type))
        (in_second t.store.heap Nil (returned_block (an.rules at) no_map reading.block) (where_live (after_block (an.rules at) no_map reading.block) nil_type)
        (where_it_lives (after_block (an.rules at) no_map reading.block).dead h.live)))),
  )
    where
      where_it_lives : (dead : Bool) → dead ≡ false → holds t.store.heap Nil (if dead then never else nil_type) ≡ true
      where_it_lives true e = cc
      where_it_lives false e = refl
  gives_so Breaks t h = absurd (clash (breaks_block reading.block) h (fit.modules at reading here).no_break)
    where
      clash : (b : Bool) → b ≡ true → b ≡ false → ⊥
      clash b p q = cc
  gives_so Continues t h = absurd (clash (breaks_block reading.block) h (fit.modules at reading here).no_break)
    where
      clash : (b : Bool) → b ≡ true → b ≡ false → ⊥
      clash b p q = cc
  gives_so (Returns vs) t h = (
    first_there t.store.heap vs h.1,
    subst (λ (type : Term). holds t.store.heap (first vs) type ≡ true) summary_is
        (cut_up_above t.store.heap (first vs) (widen (union (returned_block (an.rules at) no_map reading.block) (where_live (after_block (an.rules at) no_map reading.block) nil_type)))
        (widen_above t.store.heap (first vs) (union (returned_block (an.rules at) no_map reading.block) (where_live (after_block (an.rules at) no_map reading.block) nil_type))
        (in_first t.store.heap (first vs) (returned_block (an.rules at) no_map reading.block) (where_live (after_block (an.rules at) no_map reading.block) nil_type) h.2))),
  )

  body_ends : Ends an (block_of an body_frame reading.block) (with_module w at) (one_begun s) (ModuleGives an at) (block l body_frame reading.block (one_begun s))
  body_ends = subst (λ (p : Part Ending). Ends an (block_of an body_frame reading.block) (with_module w at) (one_begun s) (ModuleGives an at) (p (one_begun s)))
      (block_closed an l body_frame reading.block)
      (ends_so an (block_of an body_frame reading.block) (with_module w at) (one_begun s) (BlockLeads an body_frame no_map reading.block) (ModuleGives an at)
      (block (closed an l) body_frame reading.block (one_begun s)) (λ ending t v e g k p. gives_so ending t p)
      (block_forward an (closed an l) fwd (with_module w at) (one_begun s) body_frame no_map reading.block begun_fine begun_runs begun_held inside_body placed_body))

  -- a body that gave had reached no reported place
  body_quiet : (ending : Ending) (t : State) → block l body_frame reading.block (one_begun s) ≡ Gave ending t → reached an s.store.begun t.trace ≡ 0
  body_quiet ending t q = zero_or_more (reached an s.store.begun t.trace) (reached an s.store.begun t.trace ≡ 0) (λ e. e)
      (λ e. absurd (no_bad_end an body_frame ending t (block_backward an (closed an l) fwd bwd
      (with_module w at) (one_begun s) body_frame no_map reading.block none none none begun_fine begun_runs begun_held inside_body placed_body marked_body
      (spare_none (an.rules at), spare_none (an.rules at), spare_none (an.rules at)) ending t
      (ap (λ (p : Part Ending). p (one_begun s)) (block_closed an l body_frame reading.block) ∙ q)
      (inr (omega (arith, e, f.young s.store.begun (omega arith)))))))

  pub module_ends : Ends an (nobody false) w s (ModuleGives an at) (activate (λ activation. block l (frame_of at reading [] activation) reading.block) s)
  module_ends = ends_activate an (block_of an body_frame reading.block) false w s at (ModuleGives an at)
      (λ activation. block l (frame_of at reading [] activation) reading.block) f refl (λ e. cc) body_ends body_quiet (λ x t p. p)

pub entered : (an : Analysis) (fit : Fit an) (l : Layer) → Forward an (closed an l) → Backward an (closed an l) → (at : ℕ) (o : Option ReadModule) → slice_get an.program.modules at ≡ o
    → (w : World) (s : State) → Fine an w s → Ends an (nobody false) w s (ModuleGives an at) (enter_module l at o s)
unfolding spend
entered an fit l fwd bwd at None e w s f = f.stays
entered an fit l fwd bwd at (Some reading) e w s f = module_ends an fit l fwd bwd at reading e w s f

-- ---- a module that is required

loaded_one : (an : Analysis) (heap : Heap) (ls : List (ℕ × Value)) (at : ℕ) (v : Value) → AllByRecursion (IsLoaded an heap) ls → loaded_value ls at ≡ Some v → IsLoaded an heap (at, v)
loaded_one an heap [] at v h e = cc
loaded_one an heap (x ∷ ls) at v h e = by_test (x.0 == at) refl e (loaded_one an heap ls at v h.1)
  where
    same : Some x.1 ≡ Some v → x.1 ≡ v
    same k = cc

    by_test : (b : Bool) → (x.0 == at) ≡ b → option_map (λ (y : ℕ × Value). y.1) (if b then Some x else find (λ (y : ℕ × Value). y.0 == at) ls) ≡ Some v
        → (loaded_value ls at ≡ Some v → IsLoaded an heap (at, v)) → IsLoaded an heap (at, v)
    by_test true q k again = subst (λ (u : Value). IsLoaded an heap (at, u)) (same k) (subst (λ (m : ℕ). IsLoaded an heap (m, x.1)) (eqb-true x.0 at q) h.0)
    by_test false q k again = again k

-- one value, of the module's type
abbrev pub RequireGives : Analysis → ℕ → List Value → State → Type 0
RequireGives an other vs t = (v : Value) × (vs ≡ v ∷ []) × Stands t.store.heap v × (holds t.store.heap v (an.summary other) ≡ true)

summary_free : (an : Analysis) (other : ℕ) (reading : ReadModule) → Fit an → slice_get an.program.modules other ≡ Some reading → heap_free (an.summary other) ≡ true
summary_free an other reading fit here = subst (λ (type : Term). heap_free type ≡ true) (sym (fit.modules other reading here).gives)
    (cut_up_free (widen (union (returned_block (an.rules other) no_map (an.rules other).reading.block) (where_live (after_block (an.rules other) no_map (an.rules other).reading.block) nil_type)))
    (widen_free (union (returned_block (an.rules other) no_map (an.rules other).reading.block) (where_live (after_block (an.rules other) no_map (an.rules other).reading.block) nil_type))))

pub require_forward : (an : Analysis) (fit : Fit an) (l : Layer) → Forward an (closed an l) → Backward an (closed an l) → (w : World) (s : State) (other : ℕ) → Fine an w s
    → Ends an (nobody false) w s (RequireGives an other) (require an.program l other s)
unfolding require ◌>>=◌ look change give spend
require_forward an fit l fwd bwd w s other f = by_loaded (loaded_value s.store.loaded other) refl
  where
    kept_value : (ending : Ending) (t : State) (v : World) → Fine an v t → ModuleGives an other ending t → (reading : ReadModule) → slice_get an.program.modules other ≡ Some reading
        → Ends an (nobody false) v t (RequireGives an other) (Gave (first (returned ending) ∷ []) (with_loaded other (first (returned ending)) t))
    kept_value ending t v g p reading here = (
      v,
      fine_loaded an v t other (first (returned ending)) g (p.0, summary_free an other reading fit here, p.1),
      kept_all an (nobody false) v t (with_loaded other (first (returned ending)) t) (refl, refl, refl, refl, refl),
      (first (returned ending), refl, p.0, p.1),
    )

    by_module : (o : Option ReadModule) → slice_get an.program.modules other ≡ o
        → Ends an (nobody false) w s (RequireGives an other)
        (go_on (enter_module l other o s) (λ ending t. Gave (first (returned ending) ∷ []) (with_loaded other (first (returned ending)) t)))
    by_module None e = f.stays
    by_module (Some reading) e = ends_then an (nobody false) w s (ModuleGives an other) (RequireGives an other) (enter_module l other (Some reading) s)
        (λ ending t. Gave (first (returned ending) ∷ []) (with_loaded other (first (returned ending)) t)) (entered an fit l fwd bwd other (Some reading) e w s f)
        (λ ending t v g k p. kept_value ending t v g p reading e)

    by_loaded : (o : Option Value) → loaded_value s.store.loaded other ≡ o → Ends an (nobody false) w s (RequireGives an other) (require_from an.program l other o s)
    by_loaded None e = by_module (slice_get an.program.modules other) refl
    by_loaded (Some v) e = let p : IsLoaded an s.store.heap (other, v) = loaded_one an s.store.heap s.store.loaded other v f.loaded e in
        ends_give an (nobody false) w s (RequireGives an other) (v ∷ []) f (v, refl, p.0, p.2)
