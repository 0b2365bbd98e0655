-- A call of a closure: its body runs in an activation of its own, which isn't left if it reached a reported place.
use Rattle.std.proofs.Common.{◌≡◌, ℕ, zero, suc, ◌<◌, ◌==◌, Bool, true, false, ◌&&◌, ◌||◌, if◌then◌else◌, List, [], ◌∷◌, ◌++◌, Option, Some, None, ◌⊎◌, inl, inr, refl, sym, ◌∙◌, ap, subst, arith, slice_get, drop}
use Rattle.std.specs.List.{AllByRecursion, find}
use Rattle.std.proofs.lemmas.Bool.{eqb-true}
use Rattle.luau_values.specs.Value.{Value, Lit}
use Rattle.luau_values.specs.Heap.{Heap}
use Rattle.luau_values.specs.Stands.{Stands}
use Rattle.luau_values.proofs.Public.{stands_later}
use Rattle.luau_tree.specs.Tree.{Block, Body, the_body, Binds, no_binds, more_binds, Varargs, no_varargs, varargs}
use Rattle.luau_run.specs.ReadModule.{ReadModule}
use Rattle.luau_run.specs.ReadFolder.{is_among, are_distinct}
use Rattle.luau_run.specs.SyntaxNode.{ABody, of_block, of_binds}
use Rattle.luau_run.specs.Machine.{Closure, State, Gave, ◌>>=◌, give, spend, activate}
use Rattle.luau_run.specs.Answers.{same_cells, is_closure}
use Rattle.luau_run.specs.Layer.{Frame, Ending, Falls, Breaks, Continues, Returns, Layer}
use Rattle.luau_run.specs.Expressions.{number_of}
use Rattle.luau_run.specs.Calls.{returned, block, bind_captured, bind_params, reach_params, further_args, kept_args, frame_of, run_in, enter, call_closure}
use Rattle.type_normal.specs.Failing.{uncallable}
use Rattle.type_normal.specs.Kinds.{unknown}
use Rattle.type_normal.proofs.Public.{kinds_hold}
use Rattle.report_rules.specs.Effects.{locals_of_binds}
use Rattle.report_rules.specs.TypeMap.{TypeMap, body_map}
use Rattle.report_rules.specs.Seen.{is_body_live, seen_block, seen_module}
use Rattle.report_rules.specs.Context.{Context, none}
use Rattle.report_rules.specs.Statements.{stm_block}
use Rattle.report_rules.specs.Findings.{found_params, found_block}
use Rattle.report_rules.specs.Reports.{findings}
use Rattle.run_frame.specs.Analysis.{Analysis}
use Rattle.run_frame.specs.Statements.{stats_of_block}
use Rattle.run_frame.specs.Fit.{NoneFixed, IsFitNode, Fit}
use Rattle.run_frame.proofs.World.{World, with_module, all_map}
use Rattle.run_frame.proofs.Counts.{reached}
use Rattle.run_frame.proofs.Kept.{MayMore, Kept, nobody}
use Rattle.run_frame.proofs.Fine.{Sub, IsClosure, Fine}
use Rattle.run_frame.proofs.Held.{Runs, runs_kept, Held, held_store, Violated, violated_same}
use Rattle.run_frame.proofs.Parts.{Ends, ends_then, ends_so, ends_more, ends_give, ends_gave}
use Rattle.run_frame.proofs.Activations.{one_begun, fine_begun, runs_begun, held_begun, ends_activate}
use Rattle.run_frame.proofs.Layers.{seen_of, block_of, Inside, Placed, Marked, Answers, EndsBad, Trouble, Forward, Backward}
use Rattle.run_frame.proofs.LooseContexts.{spare_none}
use Rattle.run_frame.proofs.Readings.{contains_head, sub_left, sub_right, sub_tail, all_contained}
use Rattle.run_frame.proofs.Passing.{none_violated}
use Rattle.run_frame.proofs.Declarations.{run_locals}
use Rattle.run_frame.proofs.LocalForms.{locals_same}
use Rattle.run_frame.proofs.Blocks.{BlockLeads, block_forward, block_backward}
use Rattle.body_runs.proofs.BodyFrame.{in_body, starts_as, forgotten, start_full, ends_bind, Given, ends_params}
use Rattle.body_runs.proofs.Params.{AreReached, SomeReported, ends_reaches, params_violate}

-- where no context stands behind, no end is bad
no_bad_end : (an : Analysis) (frame : Frame) (ending : Ending) (t : State) → EndsBad an frame none none none ending t → ⊥
no_bad_end an frame Falls t h = none_violated an frame t h
no_bad_end an frame Breaks t h = none_violated an frame t h
no_bad_end an frame Continues t h = none_violated an frame t h
no_bad_end an frame (Returns vs) t h = h

zero_or_more : (n : ℕ) (P : Type 0) → (n ≡ 0 → P) → (0 < n → P) → P
zero_or_more zero P a b = a refl
zero_or_more (suc n) P a b = b (omega arith)

-- the arguments past the parameters stand
further_stand : (heap : Heap) (vararg : Varargs) (params : Binds) (args : List Value) → AllByRecursion (Stands heap) args → AllByRecursion (Stands heap) (further_args vararg params args)
further_stand heap no_varargs params args h = tt
further_stand heap (varargs t) no_binds args h = h
further_stand heap (varargs t) (more_binds b rest) args h = further_stand heap (varargs t) rest (drop 1 args) (rest_stand args h)
  where
    rest_stand : (vs : List Value) → AllByRecursion (Stands heap) vs → AllByRecursion (Stands heap) (drop 1 vs)
    rest_stand [] k = tt
    rest_stand (v ∷ vs) k = k.1

-- a local of some is unknown in the map that a body starts with
all_forgotten : (params : List ℕ) (known : TypeMap) → AllByRecursion (λ x. (body_map params known).entry x ≡ unknown) params
all_forgotten params known = all_map (λ x. is_among x params ≡ true) (λ x. (body_map params known).entry x ≡ unknown) params (λ x e. forgotten params known x e) (all_among params)
  where
    itself : (n : ℕ) → (n == n) ≡ true
    itself n = grind arith

    head : (x : ℕ) (xs : List ℕ) → is_among x (x ∷ xs) ≡ true
    head x xs = rw (itself x) refl

    later : (x y : ℕ) (xs : List ℕ) → is_among y xs ≡ true → is_among y (x ∷ xs) ≡ true
    later x y xs e = by_test (y == x) e
      where
        by_test : (b : Bool) → is_among y xs ≡ true → b || is_among y xs ≡ true
        by_test true k = refl
        by_test false k = k

    all_among : (xs : List ℕ) → AllByRecursion (λ x. is_among x xs ≡ true) xs
    all_among [] = tt
    all_among (x ∷ xs) = (head x xs, all_map (λ y. is_among y xs ≡ true) (λ y. is_among y (x ∷ xs) ≡ true) xs (λ y e. later x y xs e) (all_among xs))

-- ---- a whole activation

-- what a body gives stands
abbrev pub BodyGives : Ending → State → Type 0
BodyGives ending t = AllByRecursion (Stands t.store.heap) (returned ending)

-- and its activation reached no reported place
abbrev Quiet : Analysis → ℕ → Ending → State → Type 0
Quiet an a ending t = BodyGives ending t × (reached an a t.trace ≡ 0)

-- the block of a body, entered where nothing was reached yet, or where its context is violated
module _ (an : Analysis) (l : Layer) (fwd : Forward an l) (bwd : Backward an l) (frame : Frame) (map : TypeMap) (code : Block) (inside : Inside frame (of_block code) (stats_of_block code))
    (placed : Placed an frame (seen_block (an.rules frame.module_at) map code))
    (marked : Marked an frame (found_block (an.rules frame.module_at) (seen_of an frame) code none none none)) where
  abbrev body_context : Context
  body_context = stm_block (an.rules frame.module_at) (seen_of an frame) code none none none

  may_body : MayMore (block_of an frame code) (in_body frame)
  may_body = record { runs = inr refl; assigns = λ x e. cc; binds = λ x e. refl; calm = λ e. cc }

  stands_so : (ending : Ending) (t : State) → BlockLeads an frame map code ending t → BodyGives ending t
  stands_so Falls t h = tt
  stands_so Breaks t h = tt
  stands_so Continues t h = tt
  stands_so (Returns vs) t h = h.1

  block_quiet : (v : World) (z : State) → Fine an v z → Runs an v z frame → Held an frame map z → (reached an frame.activation z.trace ≡ 0) ⊎ Violated an frame body_context z
      → Ends an (in_body frame) v z (Quiet an frame.activation) (block l frame code z)
  block_quiet v z g r h starts = ends_more an (block_of an frame code) (in_body frame) v z (Quiet an frame.activation) (block l frame code z) may_body
      (ends_so an (block_of an frame code) v z (BlockLeads an frame map code) (Quiet an frame.activation) (block l frame code z)
      (λ ending t y e d j p. (stands_so ending t p, none_reached ending t e))
      (block_forward an l fwd v z frame map code g r h inside placed))
    where
      none_reached : (ending : Ending) (t : State) → block l frame code z ≡ Gave ending t → reached an frame.activation t.trace ≡ 0
      none_reached ending t e = zero_or_more (reached an frame.activation t.trace) (reached an frame.activation t.trace ≡ 0) (λ k. k)
          (λ k. absurd (no_bad_end an frame ending t (block_backward an l fwd bwd v z frame map code none none none g r h inside placed marked
          (spare_none (an.rules frame.module_at), spare_none (an.rules frame.module_at), spare_none (an.rules frame.module_at)) ending t e (trouble starts k))))
        where
          trouble : (reached an frame.activation z.trace ≡ 0) ⊎ Violated an frame body_context z → 0 < reached an frame.activation t.trace → Trouble an frame body_context z t
          trouble (inl n) k = inr (omega (arith, n, k))
          trouble (inr y) k = inl y

-- a body of a closure that was made, run by a new activation
pub body_ends : (an : Analysis) → Fit an → (l : Layer) → Forward an l → Backward an l → (w : World) (s : State) (value : Value) (m : ℕ) (code : Body) (args : List Value) → Fine an w s
    → (h : IsClosure an w s.store (record { value = value; module_at = m; code = code })) → AllByRecursion (Stands s.store.heap) args
    → Ends an (nobody false) w s BodyGives (activate (λ activation. run_in l (frame_of m h.reading (kept_args code args) activation) h.cells code args) s)
unfolding ◌>>=◌
body_ends an fit l fwd bwd w s value m (the_body id has_self generics params vararg result code span) args f h there =
    ends_activate an (in_body frame) false w s m BodyGives
    (λ activation. run_in l (frame_of m h.reading (further_args vararg params args) activation) h.cells (the_body id has_self generics params vararg result code span) args) f refl (λ e. cc)
    (ends_so an (in_body frame) (with_module w m) (one_begun s) (Quiet an s.store.begun) BodyGives (run_in l frame h.cells (the_body id has_self generics params vararg result code span) args (one_begun s))
    (λ ending t v e g k p. p.0) run_quiet)
    (λ ending t e. (ends_gave an (in_body frame) (with_module w m) (one_begun s) (Quiet an s.store.begun)
    (run_in l frame h.cells (the_body id has_self generics params vararg result code span) args (one_begun s)) ending t e run_quiet).3.1)
    (λ ending t p. p)
  where
    frame : Frame
    frame = frame_of m h.reading (further_args vararg params args) s.store.begun

    locals : List ℕ
    locals = locals_of_binds (an.rules m) params

    map : TypeMap
    map = body_map locals h.known

    same : (an.rules m).reading ≡ h.reading
    same = (fit.modules m h.reading h.module_is).same

    same_locals : locals ≡ run_locals frame params
    same_locals = locals_same (an.rules m) frame params same

    fits_body : IsFitNode an (an.rules m) (ABody (the_body id has_self generics params vararg result code span))
    fits_body = all_contained (IsFitNode an (an.rules m)) (of_block h.reading.block) (ABody (the_body id has_self generics params vararg result code span)) (fit.modules m h.reading h.module_is).nodes
        (h.inside (ABody (the_body id has_self generics params vararg result code span)) (contains_head (ABody (the_body id has_self generics params vararg result code span)) (of_binds params ++ of_block code)))

    inside : Inside frame (of_block code) (stats_of_block code)
    inside = record {
      nodes = sub_right (of_binds params) (of_block code) (of_block h.reading.block)
          (sub_tail (ABody (the_body id has_self generics params vararg result code span)) (of_binds params ++ of_block code) (of_block h.reading.block) h.inside);
      stats = h.statements;
    }

    placed : Placed an frame (seen_block (an.rules m) map code)
    placed = sub_tail _ (seen_block (an.rules m) map code) (seen_module (an.rules m)) h.placed

    in_params : Sub (found_params (an.rules m) (is_body_live (seen_of an frame) id) id 0 (stm_block (an.rules m) (seen_of an frame) code none none none) params) (findings (an.rules m))
    in_params = sub_left (found_params (an.rules m) (is_body_live (seen_of an frame) id) id 0 (stm_block (an.rules m) (seen_of an frame) code none none none) params)
        (found_block (an.rules m) (seen_of an frame) code none none none) (findings (an.rules m)) h.marked

    marked : Marked an frame (found_block (an.rules m) (seen_of an frame) code none none none)
    marked = sub_right (found_params (an.rules m) (is_body_live (seen_of an frame) id) id 0 (stm_block (an.rules m) (seen_of an frame) code none none none) params)
        (found_block (an.rules m) (seen_of an frame) code none none none) (findings (an.rules m)) h.marked

    begun_runs : Runs an (with_module w m) (one_begun s) frame
    begun_runs = runs_begun an w s m h.reading (further_args vararg params args) f h.module_is (further_stand s.store.heap vararg params args there)

    begun_held : Held an frame map (one_begun s)
    begun_held = held_begun an w s frame map f refl h.live (λ x firm. start_full locals h.known x (h.full x firm))

    -- once its parameters have their cells
    in_activation : (v : World) (u : State) → Fine an v u → Runs an v u frame → Held an frame map u → (reached an s.store.begun u.trace ≡ 0) ⊎ Violated an frame (stm_block (an.rules m) (seen_of an frame) code none none none) u
        → Ends an (in_body frame) v u (Quiet an s.store.begun) (block l frame code u)
    in_activation v u g r k starts = block_quiet an l fwd bwd frame map code inside placed marked v u g r k starts

    after_params : (v : World) (t u : State) → Fine an v u → Runs an v u frame → Given an frame map params args t u → reached an s.store.begun t.trace ≡ 0
        → Ends an (in_body frame) v u (Quiet an s.store.begun) (◌>>=◌ (reach_params frame id 0 params args) (λ x. block l frame code) u)
    after_params v t u g r p zeros = ends_then an (in_body frame) v u (λ x z. AreReached an frame id 0 params args u z) (Quiet an s.store.begun) (reach_params frame id 0 params args u) (λ x. block l frame code)
        (ends_reaches an frame v u id 0 params args g r)
        (λ x z y d j q. in_activation y z d (runs_kept an (in_body frame) v y u z frame j r) (held_store an u z frame map q.0 p.held) (starts z q))
      where
        starts : (z : State) → AreReached an frame id 0 params args u z → (reached an s.store.begun z.trace ≡ 0) ⊎ Violated an frame (stm_block (an.rules m) (seen_of an frame) code none none none) z
        starts z q = by_side q.1
          where
            by_side : (reached an s.store.begun z.trace ≡ reached an s.store.begun u.trace) ⊎ SomeReported an frame id 0 params args u.store.heap
                → (reached an s.store.begun z.trace ≡ 0) ⊎ Violated an frame (stm_block (an.rules m) (seen_of an frame) code none none none) z
            by_side (inl e) = inl (e ∙ (ap (λ trace. reached an s.store.begun trace) p.logged ∙ zeros))
            by_side (inr e) = inr (violated_same an u z frame (stm_block (an.rules m) (seen_of an frame) code none none none) q.0
                (params_violate an v u frame (is_body_live (seen_of an frame) id) id 0 (stm_block (an.rules m) (seen_of an frame) code none none none) params args fit r in_params p.have e))

    after_captured : (v : World) (t : State) → Fine an v t → Kept an (in_body frame) (with_module w m) (one_begun s) v t → Held an frame map t × (t.trace ≡ s.trace)
        → Ends an (in_body frame) v t (Quiet an s.store.begun) (◌>>=◌ (bind_params frame params args) (λ x. ◌>>=◌ (reach_params frame id 0 params args) (λ y. block l frame code)) t)
    after_captured v t g k p = ends_then an (in_body frame) v t (λ x u. Given an frame map params args t u) (Quiet an s.store.begun) (bind_params frame params args t)
        (λ x. ◌>>=◌ (reach_params frame id 0 params args) (λ y. block l frame code))
        (ends_params an frame map v t params args g (runs_kept an (in_body frame) (with_module w m) v (one_begun s) t frame k begun_runs) p.0
        (subst (λ (xs : List ℕ). AllByRecursion (λ x. map.entry x ≡ unknown) xs) same_locals (all_forgotten locals h.known))
        (subst (λ (xs : List ℕ). NoneFixed (an.rules m) xs) same_locals fits_body.2) (subst (λ (xs : List ℕ). are_distinct xs ≡ true) same_locals fits_body.1)
        (all_map (Stands s.store.heap) (Stands t.store.heap) args (λ x. stands_later s.store.heap t.store.heap x k.heap) there))
        (λ x u y d j q. after_params y t u d (runs_kept an (in_body frame) v y t u frame j (runs_kept an (in_body frame) (with_module w m) v (one_begun s) t frame k begun_runs)) q
        (ap (λ trace. reached an s.store.begun trace) p.1 ∙ f.young s.store.begun (omega arith)))

    run_quiet : Ends an (in_body frame) (with_module w m) (one_begun s) (Quiet an s.store.begun) (run_in l frame h.cells (the_body id has_self generics params vararg result code span) args (one_begun s))
    run_quiet = ends_then an (in_body frame) (with_module w m) (one_begun s) (λ x t. Held an frame map t × (t.trace ≡ s.trace)) (Quiet an s.store.begun)
        (bind_captured s.store.begun h.cells (one_begun s)) (λ x. ◌>>=◌ (bind_params frame params args) (λ y. ◌>>=◌ (reach_params frame id 0 params args) (λ z. block l frame code)))
        (ends_bind an frame map h.known (λ x. starts_as locals h.known x) (with_module w m) (one_begun s) h.cells (fine_begun an w s m f) begun_runs begun_held h.captured)
        (λ x t v g k p. after_captured v t g k p)

-- ---- a call of a closure

cells_same : (xs ys : List (ℕ × ℕ)) → same_cells xs ys ≡ true → xs ≡ ys
cells_same [] [] e = refl
cells_same [] (y ∷ ys) e = cc
cells_same (x ∷ xs) [] e = cc
cells_same (x ∷ xs) (y ∷ ys) e = by_parts (x.0 == y.0) (x.1 == y.1) (same_cells xs ys) refl refl e (cells_same xs ys)
  where
    by_parts : (a b c : Bool) → (x.0 == y.0) ≡ a → (x.1 == y.1) ≡ b → a && b && c ≡ true → (c ≡ true → xs ≡ ys) → x ∷ xs ≡ y ∷ ys
    by_parts true true true p q k again =
        ap (λ (z : ℕ × ℕ). z ∷ xs) (ap (λ (n : ℕ). (n, x.1)) (eqb-true x.0 y.0 p) ∙ ap (λ (n : ℕ). (y.0, n)) (eqb-true x.1 y.1 q)) ∙ ap (λ (zs : List (ℕ × ℕ)). y ∷ zs) (again refl)
    by_parts true true false p q k again = cc
    by_parts true false c p q k again = cc
    by_parts false b c p q k again = cc

closure_is : (home function : ℕ) (cells : List (ℕ × ℕ)) (v : Value) → is_closure home function cells v ≡ true → v ≡ Lit home function cells
closure_is home function cells (Lit h g c) e = by_parts (home == h) (function == g) (same_cells cells c) refl refl refl e
  where
    by_parts : (p q r : Bool) → (home == h) ≡ p → (function == g) ≡ q → same_cells cells c ≡ r → p && q && r ≡ true → Lit h g c ≡ Lit home function cells
    by_parts true true true p q r k = sym (ap (λ (n : ℕ). Lit n function cells) (eqb-true home h p) ∙ (ap (λ (n : ℕ). Lit h n cells) (eqb-true function g q) ∙ ap (λ (xs : List (ℕ × ℕ)). Lit h g xs) (cells_same cells c r)))
    by_parts true true false p q r k = cc
    by_parts true false c' p q r k = cc
    by_parts false b c' p q r k = cc
closure_is home function cells _ e = cc

-- what is found among closures is one of them
one_found : (P : Closure → Type 0) (home function : ℕ) (cells : List (ℕ × ℕ)) (cs : List Closure) (c : Closure) → AllByRecursion P cs
    → find (λ (d : Closure). is_closure home function cells d.value) cs ≡ Some c → P c × (c.value ≡ Lit home function cells)
one_found P home function cells [] c all e = cc
one_found P home function cells (d ∷ cs) c all e = by_test (is_closure home function cells d.value) refl e (one_found P home function cells cs c all.1)
  where
    same : Some d ≡ Some c → d ≡ c
    same k = cc

    by_test : (b : Bool) → is_closure home function cells d.value ≡ b → (if b then Some d else find (λ (x : Closure). is_closure home function cells x.value) cs) ≡ Some c
        → (find (λ (x : Closure). is_closure home function cells x.value) cs ≡ Some c → P c × (c.value ≡ Lit home function cells)) → P c × (c.value ≡ Lit home function cells)
    by_test true q k again = subst (λ (x : Closure). P x × (x.value ≡ Lit home function cells)) (same k) (all.0, closure_is home function cells d.value q)
    by_test false q k again = again k

-- a closure answers with values that stand
literal_answers : (an : Analysis) (home function : ℕ) (cells : List (ℕ × ℕ)) (args vs : List Value) (s t : State) → AllByRecursion (Stands t.store.heap) vs → Answers an (Lit home function cells) args s vs t
literal_answers an home function cells args vs s t there = record {
  stand = there;
  callable = kinds_hold s.store.heap (Lit home function cells) uncallable;
  taken = λ path g e d c. cc;
  given = λ path g e d. cc;
  kind = λ e. cc;
  frozen = λ e. cc;
}

same_literal : (h g f k : ℕ) (xs ys : List (ℕ × ℕ)) (v : Value) → v ≡ Lit h f xs → v ≡ Lit g k ys → xs ≡ ys
same_literal h g f k xs ys v p q = cc

pub closure_answers : (an : Analysis) → Fit an → (l : Layer) → Forward an l → Backward an l → (w : World) (s : State) (home function : ℕ) (cells : List (ℕ × ℕ)) (args : List Value) → Fine an w s
    → AllByRecursion (Stands s.store.heap) args
    → Ends an (nobody false) w s (Answers an (Lit home function cells) args s) (call_closure an.program l cells (find (λ (c : Closure). is_closure home function cells c.value) s.store.closures) args s)
unfolding ◌>>=◌ spend
closure_answers an fit l fwd bwd w s home function cells args f there = by_found (find (λ (c : Closure). is_closure home function cells c.value) s.store.closures) refl
  where
    entered : (c : Closure) → (h : IsClosure an w s.store c) → c.value ≡ Lit home function cells
        → Ends an (nobody false) w s (Answers an (Lit home function cells) args s) (enter l (Some h.reading) h.cells c.module_at c.code args s)
    entered c h e = ends_then an (nobody false) w s BodyGives (Answers an (Lit home function cells) args s)
        (activate (λ activation. run_in l (frame_of c.module_at h.reading (kept_args c.code args) activation) h.cells c.code args) s) (λ ending. give (returned ending))
        (body_ends an fit l fwd bwd w s c.value c.module_at c.code args f h there)
        (λ ending t v g k p. ends_give an (nobody false) v t (Answers an (Lit home function cells) args s) (returned ending) g (literal_answers an home function cells args (returned ending) s t p))

    at_cells : (c : Closure) → (h : IsClosure an w s.store c) → c.value ≡ Lit home function cells
        → Ends an (nobody false) w s (Answers an (Lit home function cells) args s) (enter l (slice_get an.program.modules c.module_at) cells c.module_at c.code args s)
    at_cells c h e = subst (λ (xs : List (ℕ × ℕ)). Ends an (nobody false) w s (Answers an (Lit home function cells) args s) (enter l (slice_get an.program.modules c.module_at) xs c.module_at c.code args s))
        (same_literal h.reading.home home (number_of c.code) function h.cells cells c.value h.value_is e)
        (subst (λ (o : Option ReadModule). Ends an (nobody false) w s (Answers an (Lit home function cells) args s) (enter l o h.cells c.module_at c.code args s)) (sym h.module_is) (entered c h e))

    by_found : (o : Option Closure) → find (λ (c : Closure). is_closure home function cells c.value) s.store.closures ≡ o
        → Ends an (nobody false) w s (Answers an (Lit home function cells) args s) (call_closure an.program l cells o args s)
    by_found None e = f.stays
    by_found (Some c) e = let p : IsClosure an w s.store c × (c.value ≡ Lit home function cells) = one_found (IsClosure an w s.store) home function cells s.store.closures c f.closures e in at_cells c p.0 p.1
