use Rattle.std.proofs.Common.{◌≡◌, ◌∙◌, ℕ, zero, suc, ◌+◌, ◌++◌, ◌∷◌, [], List, length, arith, ap, sym, length-append, inl, inr}
use Rattle.std.specs.Prelude.{slice_get, Some, Vec}
use Rattle.std.specs.declared.alloc.Global.{Global}
use Rattle.module_graph.proofs.Lists.{slice_get-append_cases}
use Rattle.module_graph.proofs.levels.empty_levels.Goals as goal

last : (v modules : Vec ℕ Global) (k : ℕ) → v.items ≡ [] → slice_get (v ∷ []) k ≡ Some modules → modules.items ≡ []
last v modules zero empty e = let same : v ≡ modules = cc in ap (λ (w : Vec ℕ Global). w.items) (sym same) ∙ empty
last v modules (suc k) empty e = cc

pub loop-preserved : goal.loop-preserved
loop-preserved c = (
  ap length c.in_ok-push.ensures.items ∙ (length-append c.loop.levels.items (c.new.result ∷ []) ∙ ap (λ n. n + 1) c.loop.invariant.0),
  (λ level modules e. elim (slice_get-append_cases c.loop.levels.items (c.new.result ∷ []) level modules (ap (λ l. slice_get l level) (sym c.in_ok-push.ensures.items) ∙ e)) [
    | inl before ↦ c.loop.invariant.1 level modules before
    | inr new ↦ last c.new.result modules new.0 c.new.ensures.items new.2
  ]),
)
