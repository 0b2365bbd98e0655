-- How findings add up, and what one part after another leaves.
use Rattle.std.proofs.Common.{◌≡◌, ℕ, ◌+◌, List, [], ◌∷◌, ◌++◌, length, refl, sym, ◌∙◌, ap, arith}
use Rattle.std.proofs.lemmas.List.{length-append}
use Rattle.luau_scope.specs.declared.findings.Findings.{Findings}
use Rattle.luau_scope.specs.declared.walker.Walker.{Walker}
use Rattle.luau_scope.specs.declared.task.Task.{Task}
use Rattle.luau_scope.specs.Found.{Found, Declares, Means, Captures, Assigns, RequiresModule, Continues, Refuses, Part, Scope, join, declarations}
use Rattle.luau_scope.specs.Steps.{step, added, with_part, after_part, act, run}

-- more findings and then others
pub added_append : (xs ys : List Found) (w : Findings) → added (xs ++ ys) w ≡ added ys (added xs w)
unfolding added
added_append [] ys w = refl
added_append (x ∷ xs) ys w = added_append xs ys (step x w)

-- each declaration adds a local
pub locals_added : (found : List Found) (w : Findings) → length (added found w).locals ≡ length w.locals + declarations found
unfolding added
locals_added [] w = omega arith
locals_added (Declares name declared function given ∷ found) w =
    let e = simp length-append at (locals_added found (step (Declares name declared function given) w)) in omega (arith, e)
locals_added (Means at meaning ∷ found) w = locals_added found (step (Means at meaning) w)
locals_added (Captures local ∷ found) w = locals_added found (step (Captures local) w)
locals_added (Assigns local ∷ found) w = locals_added found (step (Assigns local) w)
locals_added (RequiresModule site ∷ found) w = locals_added found (step (RequiresModule site) w)
locals_added (Continues at before ∷ found) w = locals_added found (step (Continues at before) w)
locals_added (Refuses why at ∷ found) w = locals_added found (step (Refuses why at) w)

-- a part and then another
pub with_join : (a b : Part) (w : Findings) → with_part (join a b) w ≡ with_part b (with_part a w)
unfolding join
with_join a b w =
    added_append (a (length w.locals)) (b (length w.locals + declarations (a (length w.locals)))) w
    ∙ ap (λ (m : ℕ). added (b m) (with_part a w)) (sym (locals_added (a (length w.locals)) w))

pub after_join : (a b : Part) (s : Walker) → after_part (join a b) s ≡ after_part b (after_part a s)
after_join a b s = ap (λ (f : Findings). record s { found = f }) (with_join a b s.found)

-- the same, where the scope behind both depends on how many locals are declared in the first
pub scope_and_join : (a b : Part) (scope : ℕ → Scope) (s : Walker)
    → record s { scope = scope (length s.found.locals + declarations (a (length s.found.locals))); found = with_part (join a b) s.found }
    ≡ record s { scope = scope (length (with_part a s.found).locals); found = with_part b (with_part a s.found) }
scope_and_join a b scope s =
    ap (λ (f : Findings). record s { scope = scope (length s.found.locals + declarations (a (length s.found.locals))); found = f }) (with_join a b s.found)
    ∙ ap (λ (m : ℕ). record s { scope = scope m; found = with_part b (with_part a s.found) }) (sym (locals_added (a (length s.found.locals)) s.found))

-- the last task is the next
pub run_last : (tasks : List Task) (t : Task) (s : Walker) → run (tasks ++ t ∷ []) s ≡ run tasks (act t s)
unfolding run
run_last [] t s = refl
run_last (x ∷ tasks) t s = ap (act x) (run_last tasks t s)

pub run_none : (s : Walker) → run [] s ≡ s
unfolding run
run_none s = refl
