-- Modules that are linked one after the other have the summaries of those that they require.
use Rattle.std.proofs.Common.{◌≡◌, ◌<◌, ℕ, zero, suc, List, [], ◌∷◌, ◌++◌, Some, slice_get, length, refl, ap, ◌∙◌, subst, arith}
use Rattle.std.proofs.lemmas.List.{append_assoc}
use Rattle.report_rules.specs.Rules.{Rules}
use Rattle.report_rules.specs.Program.{HasSummaries, AllHaveSummaries, IsLinked, summary_of, summary_meant, importing, linked_after, linked, RequireEarlier}

-- what stands at a position before others
earlier : (xs ys : List Rules) (i : ℕ) → i < length xs → (x : Rules) × (slice_get xs i ≡ Some x) × (slice_get (xs ++ ys) i ≡ Some x)
earlier [] ys i h = absurd (omega arith)
earlier (x ∷ xs) ys zero h = (x, refl, refl)
earlier (x ∷ xs) ys (suc i) h = earlier xs ys i (omega arith)

one_more : (xs : List Rules) (x : Rules) → suc (length xs) ≡ length (xs ++ x ∷ [])
one_more [] x = refl
one_more (y ∷ xs) x = ap suc (one_more xs x)

has_summaries : (before rest : List Rules) (rules : Rules) → ((id other : ℕ) → rules.reading.required id ≡ Some other → other < length before)
    → HasSummaries (before ++ rest) (importing before rules)
has_summaries before rest rules h id other e =
    let there = earlier before rest other (h id other e) in
    (there.0, there.2, ap (summary_meant before) e ∙ ap summary_of there.1)

all_have : (before modules : List Rules) (n : ℕ) → n ≡ length before → RequireEarlier n modules
    → AllHaveSummaries (before ++ linked_after before modules) (linked_after before modules)
all_have before [] n e h = tt
all_have before (rules ∷ modules) n e h =
    let it = importing before rules in
    let rest = linked_after (before ++ it ∷ []) modules in (
      has_summaries before (it ∷ rest) rules (λ id other r. subst (λ k. other < k) e (h.0 id other r)),
      subst (λ program. AllHaveSummaries program rest) (append_assoc before (it ∷ []) rest)
          (all_have (before ++ it ∷ []) modules (suc n) (ap suc e ∙ one_more before it) h.1),
    )

pub linked_is_linked : (modules : List Rules) → RequireEarlier 0 modules → IsLinked (linked modules)
linked_is_linked modules h = all_have [] modules 0 refl h
