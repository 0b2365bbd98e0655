use Rattle.std.proofs.Common.{◌≡◌, ℕ, ◌-◌, ◌<◌, ◌≤◌, Bool, lt-ltb, List, [], ◌∷◌, ◌++◌, length, get_or, take, drop, if◌then◌else◌, sym, ap, ◌∙◌, arith}
use Rattle.luau_tree.specs.declared.names.ExprId.{ExprId}
use Rattle.luau_tree.specs.declared.position.Span.{Span}
use Rattle.luau_scope.specs.declared.findings.Findings.{Findings}
use Rattle.luau_scope.specs.declared.reading.Use.{Use}
use Rattle.luau_scope.specs.declared.refusal.Refusal.TheVariants.{ContinuePastLocal}
use Rattle.luau_scope.specs.Found.{Refuses}
use Rattle.luau_scope.specs.Steps.{added, passed_by, reach, step}
use Rattle.luau_scope.proofs.Splits.{none_of, tail_is}
use Rattle.luau_scope.proofs.findings.Findings.pass_locals.Goals as goal

-- one that is refused, and the others
refused_first : (reach : ℕ) (xs : List (Span × ℕ)) (d : Span × ℕ) (f : Findings) → 1 ≤ length xs → (get_or xs 0 d).1 < reach
    → added (passed_by reach (take (length xs - 1) (drop 1 xs))) (step (Refuses ContinuePastLocal (get_or xs 0 d).0) f) ≡ added (passed_by reach xs) f
unfolding added
refused_first reach [] d f h b = absurd (omega arith)
refused_first reach (y ∷ ys) d f h b =
    ap (λ (zs : List (Span × ℕ)). added (passed_by reach zs) (step (Refuses ContinuePastLocal y.0) f)) (tail_is y ys)
    ∙ ap (λ (test : Bool). added ((if test then Refuses ContinuePastLocal y.0 ∷ [] else []) ++ passed_by reach ys) f) (sym (lt-ltb y.1 reach b))

pub loop-rest-preserved-then-before-reach : goal.loop-rest-preserved-then-before-reach
loop-rest-preserved-then-before-reach c =
    ap (λ (f : Findings). added (passed_by c.reach_of-reach.result (take (length c.loop-rest.rest.now - 1) (drop 1 c.loop-rest.rest.now))) f) c.refuse.ensures
    ∙ refused_first c.reach_of-reach.result c.loop-rest.rest.now (record { start = 0; end = 0 }, 0) c.loop-rest.self c.in-len1-up.len_at_least c.if-before-reach.true
    ∙ c.loop-rest.invariant

pub returns : goal.returns
unfolding added
returns c =
    sym (ap (λ (xs : List (Span × ℕ)). added (passed_by c.reach_of-reach.result xs) c.loop-rest.self) (none_of c.loop-rest.rest.now c.in_default.len_below))
    ∙ c.loop-rest.invariant
    ∙ ap (λ (n : ℕ). added (passed_by n c.args.own.now) c.args.self.now)
    (c.reach_of-reach.ensures ∙ ap (λ (uses : List (ExprId × Use)). reach uses c.args.declared) (c.from.ensures ∙ ap (drop c.args.first) c.as_slice.ensures))
