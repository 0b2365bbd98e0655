-- Which module leads to which.
use Rattle.std.proofs.Common.{◌≡◌, ℕ, zero, suc, ◌<◌, ◌≤◌, List, [], ◌∷◌, length, refl, ap, sym, subst, ◌∙◌, arith, inl, inr}
use Rattle.std.specs.Prelude.{Some, None, slice_get, Contains, ◌⊎◌}
use Rattle.module_graph.specs.declared.node.Call.{Call}
use Rattle.module_graph.specs.declared.node.Node.{Node}
use Rattle.module_graph.specs.Requires.{calls_at, Requires, Reaches, directly, through}
use Rattle.module_graph.specs.Search.{Leads}
use Rattle.module_graph.proofs.Lists.{Contains-from_get}

-- a require at its place
pub Requires-at : (nodes : List Node) (from to k : ℕ) (call : Call) → slice_get (calls_at nodes from) k ≡ Some call → call.to ≡ Some to → Requires nodes from to
Requires-at nodes from to k call e means = (call, Contains-from_get (calls_at nodes from) k call e, means)

pub Reaches-trans : (nodes : List Node) (a b c : ℕ) → Reaches nodes a b → Reaches nodes b c → Reaches nodes a c
Reaches-trans nodes a b c (directly one) more = through one more
Reaches-trans nodes a b c (through {next = d} one rest) more = through one (Reaches-trans nodes d b c rest more)

pub Leads-trans : (nodes : List Node) (a b c : ℕ) → Leads nodes a b → Leads nodes b c → Leads nodes a c
Leads-trans nodes a b c (inl e) more = subst (λ (x : ℕ). Leads nodes x c) (sym e) more
Leads-trans nodes a b c (inr one) (inl e) = inr (subst (λ (x : ℕ). Reaches nodes a x) e one)
Leads-trans nodes a b c (inr one) (inr more) = inr (Reaches-trans nodes a b c one more)

-- a module that is required reaches what it leads to by one step more
pub Reaches-step : (nodes : List Node) (a b c : ℕ) → Requires nodes a b → Leads nodes b c → Reaches nodes a c
Reaches-step nodes a b c one (inl e) = subst (λ (x : ℕ). Reaches nodes a x) e (directly one)
Reaches-step nodes a b c one (inr more) = through one more

pub Leads-step : (nodes : List Node) (a b c : ℕ) → Requires nodes a b → Leads nodes b c → Leads nodes a c
Leads-step nodes a b c one more = inr (Reaches-step nodes a b c one more)

-- equal modules lead to each other
pub Leads-same : (nodes : List Node) (a b : ℕ) → a ≡ b → Leads nodes a b
Leads-same nodes a b e = inl e
