-- The turns of a generic `for`, over a function, over a table and over another value, forward and backward.
use Rattle.std.proofs.Common.{◌≡◌, ◌<◌, ℕ, ◌==◌, Bool, true, false, not, ◌||◌, ◌&&◌, List, [], ◌∷◌, Option, Some, None, is_some, ◌⊎◌, inl, inr, refl, sym, ap, subst, arith, drop}
use Rattle.std.specs.List.{AllByRecursion, list_all}
use Rattle.luau_values.specs.Value.{Value}
use Rattle.luau_values.specs.Stands.{Stands}
use Rattle.luau_tree.specs.Tree.{Block, Binds, no_binds, more_binds, the_bind}
use Rattle.luau_run.specs.SyntaxNode.{of_block}
use Rattle.luau_run.specs.ReadFolder.{is_among}
use Rattle.luau_run.specs.Program.{Program}
use Rattle.luau_run.specs.Machine.{Answer, Turn, Fits, Store, State, Gave, Part, ◌>>=◌, give, look, change}
use Rattle.luau_run.specs.Answers.{all_there, a_turn}
use Rattle.luau_run.specs.Layer.{Frame, Ending, Falls, Breaks, Continues, Returns, Loop, Layer, first}
use Rattle.luau_run.specs.Calls.{block}
use Rattle.luau_run.specs.Loops.{declare, next_turn, turn_with}
use Rattle.report_rules.specs.Rules.{Rules}
use Rattle.report_rules.specs.Effects.{locals_of_binds, declares_block, returns_block}
use Rattle.report_rules.specs.TypeMap.{TypeMap, set_all}
use Rattle.report_rules.specs.Seen.{seen_block}
use Rattle.report_rules.specs.Context.{Context, none}
use Rattle.report_rules.specs.Findings.{found_block}
use Rattle.run_frame.specs.Analysis.{Analysis}
use Rattle.run_frame.specs.Statements.{stats_of_block}
use Rattle.run_frame.proofs.World.{World, all_map}
use Rattle.run_frame.proofs.Counts.{reached}
use Rattle.run_frame.proofs.Kept.{MayMore, Kept, kept_trans, kept_more}
use Rattle.run_frame.proofs.Fine.{Fine}
use Rattle.run_frame.proofs.Held.{Runs, runs_kept, Held, Violated}
use Rattle.run_frame.proofs.Parts.{Ends, ends_so, ends_then, ends_more, ends_give, ends_gave, gave_then, gave_same}
use Rattle.run_frame.proofs.Cells.{declared}
use Rattle.run_frame.proofs.Declarations.{run_locals, GetFixed, ends_declare}
use Rattle.run_frame.proofs.LocalForms.{locals_same}
use Rattle.run_frame.proofs.Layers.{rules_of, seen_of, block_of, Inside, Placed, Marked, EndsBad, Trouble, Forward, Backward, loop_of, loop_declares, Steady, SteadyContext, IsBelow, Turns}
use Rattle.run_frame.proofs.LooseContexts.{SparesLoose}
use Rattle.run_frame.proofs.Blocks.{or_left, or_right, BlockLeads, block_forward, block_backward, count_split, same_end}
use Rattle.reports_certain.proofs.BuiltinActs.{all_stand, fits_so}
use Rattle.reports_certain.proofs.Loops.{steady_held, steady_violated, below_violated}

-- ---- the variables

-- none of them always stands for a builtin
abbrev pub is_unfixed : Analysis → Frame → Binds → Bool
is_unfixed an frame binds = list_all (λ x. not (is_some ((rules_of an frame).fixed x))) (run_locals frame binds)

both_so : (a b : Bool) → a && b ≡ true → (a ≡ true) × (b ≡ true)
both_so true b e = (refl, e)
both_so false b e = cc

get_unfixed : (rules : Rules) (locals : List ℕ) (vs : List Value) → list_all (λ x. not (is_some (rules.fixed x))) locals ≡ true → GetFixed rules locals vs
get_unfixed rules [] vs h = tt
get_unfixed rules (x ∷ locals) vs h =
    let p : (not (is_some (rules.fixed x)) ≡ true) × (list_all (λ x. not (is_some (rules.fixed x))) locals ≡ true) =
    both_so (not (is_some (rules.fixed x))) (list_all (λ x. not (is_some (rules.fixed x))) locals) h in
    (λ path e. absurd (clash path (rules.fixed x) p.0 e), get_unfixed rules locals (drop 1 vs) p.1)
  where
    clash : (path : List ℕ) (o : Option (List ℕ)) → not (is_some o) ≡ true → o ≡ Some path → ⊥
    clash path None p q = cc
    clash path (Some other) p q = cc

itself : (n : ℕ) → (n == n) ≡ true
itself n = grind arith

all_among : (xs : List ℕ) → AllByRecursion (λ x. is_among x xs ≡ true) xs
all_among [] = tt
all_among (x ∷ xs) = (or_left (x == x) (is_among x xs) (itself x), all_map (λ y. is_among y xs ≡ true) (λ y. is_among y (x ∷ xs) ≡ true) xs (λ y e. or_right (y == x) (is_among y xs) e) (all_among xs))

-- the loop declares each
pub each_bound : (rules : Rules) (frame : Frame) (binds : Binds) (body : Block) → rules.reading ≡ frame.reading
    → AllByRecursion (λ x. is_among x (locals_of_binds rules binds) || declares_block rules x body ≡ true) (run_locals frame binds)
each_bound rules frame binds body same = all_map (λ x. is_among x (run_locals frame binds) ≡ true) (λ x. is_among x (locals_of_binds rules binds) || declares_block rules x body ≡ true) (run_locals frame binds)
    (λ x e. or_left (is_among x (locals_of_binds rules binds)) (declares_block rules x body) (subst (λ (xs : List ℕ). is_among x xs ≡ true) (sym (locals_same rules frame binds same)) e))
    (all_among (run_locals frame binds))

declare_trace : (frame : Frame) (binds : Binds) (vs : List Value) (s t : State) (x : Unit {0}) → declare frame binds vs s ≡ Gave x t → t.trace ≡ s.trace
unfolding ◌>>=◌ look change give
declare_trace frame no_binds vs s t x e = ap (λ (y : State). y.trace) (sym (gave_same (tt {0}) x s t e).1)
declare_trace frame (more_binds (the_bind name span typ) rest) vs s t x e =
    declare_trace frame rest (drop 1 vs) (declared frame.activation (frame.reading.local_at span.start) (first vs) s) t x e

-- ---- a turn with values

module _ (an : Analysis) (l : Layer) (fwd : Forward an l) (frame : Frame) (map : TypeMap) (binds : Binds) (body : Block) (loop : Loop) (unfixed : is_unfixed an frame binds ≡ true)
    (bound : AllByRecursion (λ x. loop_declares (rules_of an frame) x loop ≡ true) (run_locals frame binds)) (may_body : MayMore (block_of an frame body) (loop_of an frame loop))
    (steady : Steady (rules_of an frame) loop map)
    (leads_back : (vs : List Value) (t : State) → BlockLeads an frame map body (Returns vs) t → Turns an frame map loop (Returns vs) t)
    (inside : Inside frame (of_block body) (stats_of_block body)) (placed : Placed an frame (seen_block (rules_of an frame) map body)) where
  declared_held : (vs : List Value) (z : World) (b : State) → Fine an z b → Runs an z b frame → Held an frame map b → AllByRecursion (Stands b.store.heap) vs
      → Ends an (loop_of an frame loop) z b (λ x t. Held an frame map t) (declare frame binds vs b)
  declared_held vs z b f r h there =
      ends_so an (loop_of an frame loop) z b (λ x t. Held an frame (set_all (rules_of an frame) (run_locals frame binds) true [] map) t) (λ x t. Held an frame map t) (declare frame binds vs b)
      (λ x t v e g k p. steady_held an frame loop map steady z v b t f r k h)
      (ends_declare an (loop_of an frame loop) z b frame map binds true [] vs f r h refl bound there tt (λ e. cc) (get_unfixed (rules_of an frame) (run_locals frame binds) vs unfixed))

  pub values_turn : (again : Part Ending) (vs : List Value) (z : World) (b : State) → Fine an z b → Runs an z b frame → Held an frame map b → AllByRecursion (Stands b.store.heap) vs
      → ((y : World) (u : State) → Fine an y u → Runs an y u frame → Held an frame map u → Kept an (loop_of an frame loop) z b y u → Ends an (loop_of an frame loop) y u (Turns an frame map loop) (again u))
      → Ends an (loop_of an frame loop) z b (Turns an frame map loop) (turn_with l frame binds body again (Some vs) b)
  unfolding ◌>>=◌
  values_turn again vs z b f r h there goes = ends_then an (loop_of an frame loop) z b (λ x t. Held an frame map t) (Turns an frame map loop) (declare frame binds vs b)
      (λ x. ◌>>=◌ (block l frame body) (next_turn again)) (declared_held vs z b f r h there)
      (λ x t v g k held. ends_then an (loop_of an frame loop) v t (BlockLeads an frame map body) (Turns an frame map loop) (block l frame body t) (next_turn again)
      (ends_more an (block_of an frame body) (loop_of an frame loop) v t (BlockLeads an frame map body) (block l frame body t) may_body
      (block_forward an l fwd v t frame map body g (runs_kept an (loop_of an frame loop) z v b t frame k r) held inside placed))
      (λ ending u y d j q. by_ending ending u y d
      (runs_kept an (loop_of an frame loop) v y t u frame j (runs_kept an (loop_of an frame loop) z v b t frame k r))
      (steady_held an frame loop map steady v y t u g (runs_kept an (loop_of an frame loop) z v b t frame k r) j held) (kept_trans an (loop_of an frame loop) z v y b t u k j) q))
    where
      by_ending : (ending : Ending) (u : State) (y : World) → Fine an y u → Runs an y u frame → Held an frame map u → Kept an (loop_of an frame loop) z b y u → BlockLeads an frame map body ending u
          → Ends an (loop_of an frame loop) y u (Turns an frame map loop) (next_turn again ending u)
      by_ending Falls u y d e held k q = goes y u d e held k
      by_ending Continues u y d e held k q = goes y u d e held k
      by_ending Breaks u y d e held k q = ends_give an (loop_of an frame loop) y u (Turns an frame map loop) Falls d held
      by_ending (Returns rs) u y d e held k q = ends_give an (loop_of an frame loop) y u (Turns an frame map loop) (Returns rs) d (leads_back rs u q)

  module _ (bwd : Backward an l) (behind kept : Context) (steady_context : SteadyContext (rules_of an frame) loop kept) (below : IsBelow kept behind)
      (returned : (s : State) → returns_block body ≡ true → Violated an frame kept s → ⊥)
      (marked : Marked an frame (found_block (rules_of an frame) (seen_of an frame) body kept behind kept))
      (spares : SparesLoose (rules_of an frame) behind) (spares_kept : SparesLoose (rules_of an frame) kept) where
    -- what is known of a state in a turn: what is kept is violated, or a reported place is reached later
    abbrev Late : State → State → Type 0
    Late b t = Violated an frame kept b ⊎ (reached an frame.activation b.trace < reached an frame.activation t.trace)

    pub no_turn : (ending : Ending) (b t : State) → give Falls b ≡ Gave ending t → Late b t → EndsBad an frame behind none none ending t
    unfolding give
    no_turn ending b t q late = same_end an frame behind none none Falls ending b t q (by_late late)
      where
        by_late : Late b t → Violated an frame behind b
        by_late (inl e) = below_violated an frame kept behind b below e
        by_late (inr e) = absurd (omega (arith, e, ap (λ (x : State). reached an frame.activation x.trace) (gave_same Falls ending b t q).1))

    pub values_bad : (again : Part Ending) (vs : List Value) (ending : Ending) (z : World) (b t : State) → Fine an z b → Runs an z b frame → Held an frame map b → AllByRecursion (Stands b.store.heap) vs
        → turn_with l frame binds body again (Some vs) b ≡ Gave ending t → Late b t
        → ((y : World) (n : State) → Fine an y n → Runs an y n frame → Held an frame map n → Kept an (loop_of an frame loop) z b y n → again n ≡ Gave ending t
        → Trouble an frame none n t ⊎ Violated an frame kept n → EndsBad an frame behind none none ending t) → EndsBad an frame behind none none ending t
    unfolding ◌>>=◌ give
    values_bad again vs ending z b t f r h there q late goes = by_parts (gave_then (declare frame binds vs b) (λ x. ◌>>=◌ (block l frame body) (next_turn again)) ending t q)
      where
        by_parts : (x : Unit {0}) × (d : State) × (declare frame binds vs b ≡ Gave x d) × (◌>>=◌ (block l frame body) (next_turn again) d ≡ Gave ending t) → EndsBad an frame behind none none ending t
        by_parts (x, d, gave, k) = by_declared (ends_gave an (loop_of an frame loop) z b (λ x t. Held an frame map t) (declare frame binds vs b) x d gave (declared_held vs z b f r h there))
            (gave_then (block l frame body d) (next_turn again) ending t k)
          where
            by_declared : (v : World) × Fine an v d × Kept an (loop_of an frame loop) z b v d × Held an frame map d
                → (mid : Ending) × (n : State) × (block l frame body d ≡ Gave mid n) × (next_turn again mid n ≡ Gave ending t) → EndsBad an frame behind none none ending t
            by_declared (v, fd, kd, hd) (mid, n, ran, c) = by_block (ends_gave an (block_of an frame body) v d (BlockLeads an frame map body) (block l frame body d) mid n ran
                (block_forward an l fwd v d frame map body fd runs_d hd inside placed))
              where
                runs_d : Runs an v d frame
                runs_d = runs_kept an (loop_of an frame loop) z v b d frame kd r

                bad : reached an frame.activation b.trace < reached an frame.activation n.trace → EndsBad an frame kept behind kept mid n
                bad e = block_backward an l fwd bwd v d frame map body kept behind kept fd runs_d hd inside placed marked (spares_kept, spares, spares_kept) mid n ran
                    (inr (subst (λ y. reached an frame.activation y < reached an frame.activation n.trace) (sym (declare_trace frame binds vs b d x gave)) e))

                by_block : (y : World) × Fine an y n × Kept an (block_of an frame body) v d y n × BlockLeads an frame map body mid n → EndsBad an frame behind none none ending t
                by_block (y, g, j, leads) = by_mid mid leads bad c
                  where
                    kept_loop : Kept an (loop_of an frame loop) z b y n
                    kept_loop = kept_trans an (loop_of an frame loop) z v y b d n kd (kept_more an (block_of an frame body) (loop_of an frame loop) v y d n may_body j)

                    on : (reached an frame.activation b.trace < reached an frame.activation n.trace → Violated an frame kept n) → again n ≡ Gave ending t → EndsBad an frame behind none none ending t
                    on worse m = goes y n g (runs_kept an (loop_of an frame loop) z y b n frame kept_loop r) (steady_held an frame loop map steady z y b n f r kept_loop h) kept_loop m (by_late late)
                      where
                        by_count : (reached an frame.activation b.trace < reached an frame.activation n.trace) ⊎ (reached an frame.activation n.trace < reached an frame.activation t.trace)
                            → Trouble an frame none n t ⊎ Violated an frame kept n
                        by_count (inl e) = inr (worse e)
                        by_count (inr e) = inl (inr e)

                        by_late : Late b t → Trouble an frame none n t ⊎ Violated an frame kept n
                        by_late (inl e) = inr (steady_violated an frame loop kept steady_context z y b n f r kept_loop e)
                        by_late (inr e) = by_count (count_split (reached an frame.activation b.trace) (reached an frame.activation n.trace) (reached an frame.activation t.trace) e)

                    by_mid : (end : Ending) → BlockLeads an frame map body end n → (reached an frame.activation b.trace < reached an frame.activation n.trace → EndsBad an frame kept behind kept end n)
                        → next_turn again end n ≡ Gave ending t → EndsBad an frame behind none none ending t
                    by_mid Falls led worse m = on worse m
                    by_mid Continues led worse m = on worse m
                    by_mid Breaks led worse m = same_end an frame behind none none Falls ending n t m (by_late late)
                      where
                        by_late : Late b t → Violated an frame behind n
                        by_late (inl e) = below_violated an frame kept behind n below (steady_violated an frame loop kept steady_context z y b n f r kept_loop e)
                        by_late (inr e) = worse (subst (λ (x : State). reached an frame.activation b.trace < reached an frame.activation x.trace) (sym (gave_same Falls ending n t m).1) e)
                    by_mid (Returns rs) led worse m = same_end an frame behind none none (Returns rs) ending n t m (by_late late)
                      where
                        by_late : Late b t → ⊥
                        by_late (inl e) = returned b led.0 e
                        by_late (inr e) = worse (subst (λ (x : State). reached an frame.activation b.trace < reached an frame.activation x.trace) (sym (gave_same (Returns rs) ending n t m).1) e)

-- an answer's values stand
pub said_stand : (program : Program) (store : Store) (answer : Answer) (vs : List Value) → a_turn program store answer ≡ Fits (Some vs) → AllByRecursion (Stands store.heap) vs
said_stand program store (Turn values) vs e = let p : (all_there program store values ≡ true) × (Some values ≡ Some vs) = fits_so (all_there program store values) (Some values) (Some vs) e in
    subst (λ (xs : List Value). AllByRecursion (Stands store.heap) xs) (same p.1) (all_stand program store values p.0)
  where
    same : Some values ≡ Some vs → values ≡ vs
    same k = cc
said_stand program store _ vs e = cc
