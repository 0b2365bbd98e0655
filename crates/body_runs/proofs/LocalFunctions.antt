-- The statement `local function`, forward and backward. Its local has its cell before the closure is there, which may capture it:
-- the cell, the closure and the write are one move, since in between the cell holds nil.
use Rattle.std.proofs.Common.{◌≡◌, ℕ, ◌==◌, Bool, true, false, ◌||◌, if◌then◌else◌, List, [], ◌∷◌, ◌++◌, length, Option, Some, None, ◌⊎◌, inl, inr, refl, sym, ◌∙◌, ap, subst, arith, slice_set}
use Rattle.std.specs.List.{AllByRecursion}
use Rattle.luau_values.specs.Value.{Value, Nil, Lit, Builtin}
use Rattle.luau_tree.specs.Tree.{the_bind, Body, the_stat, LocalFunction}
use Rattle.luau_run.specs.ReadModule.{ReadModule}
use Rattle.luau_run.specs.SyntaxNode.{ABind, of_block, of_body, of_stat}
use Rattle.luau_run.specs.Machine.{State, Ran, Gave, Spent, go_on, ◌>>=◌, look, change, give, spend}
use Rattle.luau_run.specs.Layer.{Frame, Ending, Falls, Layer}
use Rattle.luau_run.specs.Expressions.{cell_of, cell_or_spend, captured_cells, number_of}
use Rattle.luau_run.specs.Statements.{define_local, stat, execute}
use Rattle.type_arena.specs.Term.{never}
use Rattle.type_normal.specs.Holds.{holds}
use Rattle.type_normal.proofs.Public.{never_none, literal_is_in}
use Rattle.report_rules.specs.Effects.{local_of_bind}
use Rattle.report_rules.specs.TypeMap.{TypeMap, set}
use Rattle.report_rules.specs.Forward.{literal_type}
use Rattle.report_rules.specs.Seen.{own_map, seen_body, seen_stat}
use Rattle.report_rules.specs.Context.{Context, without}
use Rattle.report_rules.specs.Statements.{stm}
use Rattle.run_frame.specs.Analysis.{Analysis, is_caught}
use Rattle.run_frame.specs.Statements.{stats_of, stats_of_body, stats_of_block}
use Rattle.run_frame.specs.Fit.{IsFitStat, Fit}
use Rattle.run_frame.proofs.World.{World, with_owner}
use Rattle.run_frame.proofs.Kept.{Doer, Kept, kept_trans}
use Rattle.run_frame.proofs.Fine.{Fine}
use Rattle.run_frame.proofs.Held.{Runs, runs_kept, Held, held_same, Violated}
use Rattle.run_frame.proofs.Parts.{Ends, Same, gave_same, gave_not_spent}
use Rattle.run_frame.proofs.Cells.{declared, owner_in, kept_declared, fine_declared}
use Rattle.run_frame.proofs.Closures.{kept_all, with_closure, fine_closure, IsTaken, closure_in, Belongs, is_closure_in}
use Rattle.run_frame.proofs.Layers.{rules_of, seen_of, stat_of, Inside, Placed, Leads, EndsBad, Trouble}
use Rattle.run_frame.proofs.Readings.{contains_head, all_contained, sub_tail, fits, reads_same}
use Rattle.run_frame.proofs.Declarations.{held_set}
use Rattle.run_frame.proofs.Blocks.{same_end}
use Rattle.run_frame.proofs.Statements.{ends_stat, stat_gave, trouble_same}
use Rattle.body_runs.proofs.BodyFrame.{same_number, reads_other}
use Rattle.body_runs.proofs.LiteralForms.{body_belongs}

-- ---- what the move comes to

set_last : {A : Type 0} (xs : List A) (x y : A) → slice_set (xs ++ x ∷ []) (length xs) y ≡ xs ++ y ∷ []
set_last [] x y = refl
set_last (z ∷ xs) x y = ap (λ zs. z ∷ zs) (set_last xs x y)

-- the captured cells are there, and nothing changed, or one of them is not
captured_so : (an : Analysis) (frame : Frame) (xs : List ℕ) (s : State) → AllByRecursion (λ x. is_caught an frame.module_at x ≡ true) xs
    → (captured_cells frame xs s ≡ Spent s) ⊎ ((cells : List (ℕ × ℕ)) × (captured_cells frame xs s ≡ Gave cells s) × AllByRecursion (IsTaken an frame s.store.bindings) cells)
unfolding ◌>>=◌ look give spend
captured_so an frame [] s h = inr ([], refl, tt)
captured_so an frame (x ∷ xs) s h = by_cell (cell_of s.store.bindings frame.activation x) refl (captured_so an frame xs s h.1)
  where
    rest : ℕ → Ran (List (ℕ × ℕ))
    rest c = go_on (captured_cells frame xs s) (λ cells. give ((x, c) ∷ cells))

    by_cell : (o : Option ℕ) → cell_of s.store.bindings frame.activation x ≡ o
        → (captured_cells frame xs s ≡ Spent s) ⊎ ((cells : List (ℕ × ℕ)) × (captured_cells frame xs s ≡ Gave cells s) × AllByRecursion (IsTaken an frame s.store.bindings) cells)
        → (go_on (cell_or_spend o s) (λ cell. ◌>>=◌ (captured_cells frame xs) (λ cells. give ((x, cell) ∷ cells))) ≡ Spent s)
        ⊎ ((cells : List (ℕ × ℕ)) × (go_on (cell_or_spend o s) (λ cell. ◌>>=◌ (captured_cells frame xs) (λ cells. give ((x, cell) ∷ cells))) ≡ Gave cells s)
        × AllByRecursion (IsTaken an frame s.store.bindings) cells)
    by_cell None e k = inl refl
    by_cell (Some c) e (inl k) = inl (ap (λ (q : Ran (List (ℕ × ℕ))). go_on q (λ cells. give ((x, c) ∷ cells))) k)
    by_cell (Some c) e (inr k) = inr ((x, c) ∷ k.0, ap (λ (q : Ran (List (ℕ × ℕ))). go_on q (λ cells. give ((x, c) ∷ cells))) k.1, ((e, h.0), k.2))

-- the closure, and the state with it and its local's cell
abbrev pub value_of : Frame → Body → List (ℕ × ℕ) → Value
value_of frame code cells = Lit frame.reading.home (number_of code) cells

abbrev pub defined : Frame → ℕ → Body → List (ℕ × ℕ) → State → State
defined frame x code cells s = with_closure (closure_in frame code cells) (declared frame.activation x (value_of frame code cells) s)

-- the statement is spent, or comes to that
define_so : (an : Analysis) (frame : Frame) (name : _) (span : _) (typ : _) (code : Body) (s : State) → AllByRecursion (λ x. is_caught an frame.module_at x ≡ true) (frame.reading.captured (number_of code))
    → (define_local frame (the_bind name span typ) code s ≡ Spent (declared frame.activation (frame.reading.local_at span.start) Nil s))
    ⊎ ((cells : List (ℕ × ℕ)) × (define_local frame (the_bind name span typ) code s ≡ Gave Falls (defined frame (frame.reading.local_at span.start) code cells s))
    × AllByRecursion (IsTaken an frame (declared frame.activation (frame.reading.local_at span.start) Nil s).store.bindings) cells)
unfolding ◌>>=◌ look change give
define_so an frame name span typ code s caught = by_captured (captured_so an frame (frame.reading.captured (number_of code)) (declared frame.activation (frame.reading.local_at span.start) Nil s) caught)
  where
    x : ℕ
    x = frame.reading.local_at span.start

    empty : State
    empty = declared frame.activation x Nil s

    -- what is done with the captured cells
    go : List (ℕ × ℕ) → State → Ran Ending
    go cells t = Gave Falls (record t {
      store = record t.store {
        closures = t.store.closures ++ closure_in frame code cells ∷ [];
        cells = slice_set t.store.cells (length s.store.cells) (value_of frame code cells);
      };
    })

    filled : (cells : List (ℕ × ℕ)) → go cells empty ≡ Gave Falls (defined frame x code cells s)
    filled cells = ap (λ (cs : List Value). Gave Falls (record s {
      store = record s.store {
        cells = cs;
        bindings = record { activation = frame.activation; local = x; cell = length s.store.cells } ∷ s.store.bindings;
        closures = s.store.closures ++ closure_in frame code cells ∷ [];
      };
    })) (set_last s.store.cells Nil (value_of frame code cells))

    by_captured : (captured_cells frame (frame.reading.captured (number_of code)) empty ≡ Spent empty)
        ⊎ ((cells : List (ℕ × ℕ)) × (captured_cells frame (frame.reading.captured (number_of code)) empty ≡ Gave cells empty) × AllByRecursion (IsTaken an frame empty.store.bindings) cells)
        → (define_local frame (the_bind name span typ) code s ≡ Spent empty)
        ⊎ ((cells : List (ℕ × ℕ)) × (define_local frame (the_bind name span typ) code s ≡ Gave Falls (defined frame x code cells s)) × AllByRecursion (IsTaken an frame empty.store.bindings) cells)
    by_captured (inl k) = inl (ap (λ (q : Ran (List (ℕ × ℕ))). go_on (go_on q (λ cells t. Gave (value_of frame code cells) (with_closure (closure_in frame code cells) t)))
        (λ v t. Gave Falls (record t { store = record t.store { cells = slice_set t.store.cells (length s.store.cells) v } }))) k)
    by_captured (inr k) = inr (
      k.0,
      ap (λ (q : Ran (List (ℕ × ℕ))). go_on (go_on q (λ cells t. Gave (value_of frame code cells) (with_closure (closure_in frame code cells) t)))
          (λ v t. Gave Falls (record t { store = record t.store { cells = slice_set t.store.cells (length s.store.cells) v } }))) k.1 ∙ filled k.0,
      k.2,
    )

-- ---- forward

module _ (an : Analysis) (l : Layer) (fit : Fit an) (w : World) (s : State) (frame : Frame) (map : TypeMap) (span : _) (name : _) (name_span : _) (typ : _) (code : Body) (f : Fine an w s)
    (r : Runs an w s frame) (h : Held an frame map s)
    (inside : Inside frame (of_stat (the_stat span (LocalFunction (the_bind name name_span typ) code))) (stats_of (the_stat span (LocalFunction (the_bind name name_span typ) code))))
    (placed : Placed an frame (seen_stat (rules_of an frame) map (the_stat span (LocalFunction (the_bind name name_span typ) code)))) where
  -- the local, as the rules and as the run read it
  abbrev own : ℕ
  own = local_of_bind (rules_of an frame) (the_bind name name_span typ)

  abbrev x : ℕ
  x = frame.reading.local_at name_span.start

  abbrev who : Doer
  who = stat_of an frame (the_stat span (LocalFunction (the_bind name name_span typ) code))

  abbrev known : TypeMap
  known = own_map (rules_of an frame) x code map

  same_own : own ≡ x
  same_own = ap (λ (y : ReadModule). y.local_at name_span.start) (reads_same an w s frame fit r)

  statement_fits : IsFitStat (rules_of an frame) (the_stat span (LocalFunction (the_bind name name_span typ) code))
  statement_fits = all_contained (IsFitStat (rules_of an frame)) (stats_of_block frame.reading.block) (the_stat span (LocalFunction (the_bind name name_span typ) code)) (fits an w s frame fit r).statements
      (inside.stats (the_stat span (LocalFunction (the_bind name name_span typ) code)) (contains_head (the_stat span (LocalFunction (the_bind name name_span typ) code)) (stats_of_body code)))

  unfixed : (rules_of an frame).fixed x ≡ None
  unfixed = subst (λ (n : ℕ). (rules_of an frame).fixed n ≡ None) same_own statement_fits.1

  belongs : Belongs an frame known code
  belongs = body_belongs an w s frame known code fit r
      (record {
        nodes = sub_tail (ABind (the_bind name name_span typ)) (of_body code) (of_block frame.reading.block) inside.nodes;
        stats = sub_tail (the_stat span (LocalFunction (the_bind name name_span typ) code)) (stats_of_body code) (stats_of_block frame.reading.block) inside.stats;
      })
      (subst (λ (n : ℕ). Placed an frame (seen_body (rules_of an frame) (own_map (rules_of an frame) n code map) code)) same_own placed)

  binds_own : (own == x) ≡ true
  binds_own = subst (λ (n : ℕ). (own == n) ≡ true) same_own (same_number own)

  -- the state after the move is as it should be
  made_ends : (v : World) (m : State) (cells : List (ℕ × ℕ)) → Fine an v m → Runs an v m frame → Held an frame map m → AllByRecursion (IsTaken an frame (declared frame.activation x Nil m).store.bindings) cells
      → Ends an who v m (Leads an frame map (the_stat span (LocalFunction (the_bind name name_span typ) code))) (Gave Falls (defined frame x code cells m))
  made_ends v m cells g k q taken = (
    with_owner v (owner_in frame x),
    fine_closure an (with_owner v (owner_in frame x)) there (closure_in frame code cells) fine_there
        (is_closure_in an (with_owner v (owner_in frame x)) there frame known code cells fine_there (runs_kept an who v (with_owner v (owner_in frame x)) m there frame kept_there k) held_there belongs taken),
    kept_trans an who v (with_owner v (owner_in frame x)) (with_owner v (owner_in frame x)) m there (defined frame x code cells m) kept_there
        (kept_all an who (with_owner v (owner_in frame x)) there (defined frame x code cells m) (refl, refl, refl, refl, refl)),
    subst (λ (n : ℕ). Held an frame (set (rules_of an frame) n (literal_type (rules_of an frame) code) map) (defined frame x code cells m)) (sym same_own)
        (record { live = held_there.live; full = held_there.full; entries = held_there.entries }),
  )
    where
      there : State
      there = declared frame.activation x (value_of frame code cells) m

      kept_there : Kept an who v m (with_owner v (owner_in frame x)) there
      kept_there = kept_declared an who v m frame x (value_of frame code cells) g refl binds_own

      fine_there : Fine an (with_owner v (owner_in frame x)) there
      fine_there = fine_declared an who v m frame x (value_of frame code cells) g k tt (λ path e. no_path path (unfixed) e) kept_there
        where
          no_path : (path : List ℕ) → (rules_of an frame).fixed x ≡ None → (rules_of an frame).fixed x ≡ Some path → value_of frame code cells ≡ Builtin path
          no_path path a b = absurd (clash (sym a ∙ b))
            where
              clash : None ≡ Some path → ⊥
              clash z = cc

      typed : holds m.store.heap (value_of frame code cells) (literal_type (rules_of an frame) code) ≡ true
      typed = subst (λ (y : ReadModule). holds m.store.heap (Lit y.home (number_of code) cells) (literal_type (rules_of an frame) code) ≡ true) (reads_same an w s frame fit r)
          (literal_is_in m.store.heap (rules_of an frame).reading.home (number_of code) cells)

      held_there : Held an frame known there
      held_there = held_set an v m frame map x (value_of frame code cells) (literal_type (rules_of an frame) code) g q typed

  pub local_function_forward : Ends an who w s (Leads an frame map (the_stat span (LocalFunction (the_bind name name_span typ) code)))
      (stat an.program l frame (the_stat span (LocalFunction (the_bind name name_span typ) code)) s)
  local_function_forward = ends_stat an an.program l who w s frame span (LocalFunction (the_bind name name_span typ) code)
      (Leads an frame map (the_stat span (LocalFunction (the_bind name name_span typ) code))) f
      (λ m v g k same. by_define m v g (runs_kept an who w v s m frame k r) (held_same an s m frame map same h) (define_so an frame name name_span typ code m belongs.caught))
    where
      by_define : (m : State) (v : World) → Fine an v m → Runs an v m frame → Held an frame map m
          → (define_local frame (the_bind name name_span typ) code m ≡ Spent (declared frame.activation x Nil m))
          ⊎ ((cells : List (ℕ × ℕ)) × (define_local frame (the_bind name name_span typ) code m ≡ Gave Falls (defined frame x code cells m))
          × AllByRecursion (IsTaken an frame (declared frame.activation x Nil m).store.bindings) cells)
          → Ends an who v m (Leads an frame map (the_stat span (LocalFunction (the_bind name name_span typ) code))) (define_local frame (the_bind name name_span typ) code m)
      by_define m v g k q (inl e) = subst (λ (a : Ran Ending). Ends an who v m (Leads an frame map (the_stat span (LocalFunction (the_bind name name_span typ) code))) a) (sym e) g.stays
      by_define m v g k q (inr p) = subst (λ (a : Ran Ending). Ends an who v m (Leads an frame map (the_stat span (LocalFunction (the_bind name name_span typ) code))) a) (sym p.1) (made_ends v m p.0 g k q p.2)

  -- ---- backward

  pub local_function_backward : (behind breaks_to continues_to : Context) (ending : Ending) (t : State)
      → stat an.program l frame (the_stat span (LocalFunction (the_bind name name_span typ) code)) s ≡ Gave ending t
      → Trouble an frame (stm (rules_of an frame) (seen_of an frame) (the_stat span (LocalFunction (the_bind name name_span typ) code)) behind breaks_to continues_to) s t
      → EndsBad an frame behind breaks_to continues_to ending t
  local_function_backward behind breaks_to continues_to ending t q y = by_step (stat_gave an.program l frame span (LocalFunction (the_bind name name_span typ) code) s ending t q)
    where
      -- another local reads as before
      past : (m : State) (cells : List (ℕ × ℕ)) → Violated an frame (without (own ∷ []) behind) m → Violated an frame behind (defined frame x code cells m)
      past m cells (z, c, v, firm, reads, e) = by_name (own == z) refl e
        where
          by_name : (b : Bool) → (own == z) ≡ b → holds m.store.heap v (if b || false then never else behind z) ≡ true → Violated an frame behind (defined frame x code cells m)
          by_name true k n = absurd (clash (holds m.store.heap v never) n (never_none m.store.heap v))
            where
              clash : (b : Bool) → b ≡ true → b ≡ false → ⊥
              clash b a d = cc
          by_name false k n = (z, c, v, firm, reads_other frame m x z c (value_of frame code cells) v (subst (λ (i : ℕ). (i == z) ≡ false) same_own k) reads, n)

      by_trouble : (m : State) (cells : List (ℕ × ℕ)) → Trouble an frame (without (own ∷ []) behind) m (defined frame x code cells m) → Violated an frame behind (defined frame x code cells m)
      by_trouble m cells (inl n) = past m cells n
      by_trouble m cells (inr n) = absurd (omega (arith, n))

      by_step : (m : State) × Same s m × (execute an.program l frame (LocalFunction (the_bind name name_span typ) code) m ≡ Gave ending t) → EndsBad an frame behind breaks_to continues_to ending t
      by_step (m, same, k) = by_define (define_so an frame name name_span typ code m belongs.caught)
        where
          by_define : (define_local frame (the_bind name name_span typ) code m ≡ Spent (declared frame.activation x Nil m))
              ⊎ ((cells : List (ℕ × ℕ)) × (define_local frame (the_bind name name_span typ) code m ≡ Gave Falls (defined frame x code cells m))
              × AllByRecursion (IsTaken an frame (declared frame.activation x Nil m).store.bindings) cells)
              → EndsBad an frame behind breaks_to continues_to ending t
          by_define (inl e) = absurd (gave_not_spent (declared frame.activation x Nil m) t ending (sym e ∙ k))
          by_define (inr p) = same_end an frame behind breaks_to continues_to Falls ending (defined frame x code p.0 m) t (sym p.1 ∙ k)
              (by_trouble m p.0 (subst (λ (z : State). Trouble an frame (without (own ∷ []) behind) m z) (sym (gave_same Falls ending (defined frame x code p.0 m) t (sym p.1 ∙ k)).1)
              (trouble_same an frame (without (own ∷ []) behind) s m t same y)))
