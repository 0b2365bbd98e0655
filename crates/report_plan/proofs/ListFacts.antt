-- Lists from a position on.
use Rattle.std.specs.Prelude.{Option, Some, None}
use Rattle.std.proofs.Common.{◌≡◌, ◌≤◌, ◌<◌, ◌+◌, ℕ, zero, suc, Bool, false, List, [], ◌∷◌, drop, get_or, length, refl, ap, ◌∙◌, arith}
use Rattle.std.proofs.lemmas.List.{drop_all, drop_more}
use Rattle.luau_tree.specs.declared.tree as code
use Rattle.luau_tree.specs.Tree.{Expr}
use Rattle.luau_tree.specs.View.{view_bind, view_binds, view_expr, view_exprs}
use Rattle.report_rules.specs.Rules.{Rules}
use Rattle.report_rules.specs.Errors.{expands_as}
use Rattle.report_work.specs.Checks.{Named, named_of_target}
use Rattle.report_work.specs.Statements.{named_first, named_rest, named_of_bind, named_of_binds, named_of_targets}

-- an argument behind which others come doesn't expand
pub expands_early : (e : Expr) (es : List code.Expr.Expr) (i : ℕ) → i < length es → (none : code.Expr.Expr) → expands_as e (view_exprs (drop i es)) ≡ false
expands_early e es i within none = ap (λ (xs : List code.Expr.Expr). expands_as e (view_exprs xs)) (drop_more es i none within)

-- ## The local that the value at a position goes to

pub named_bind : (rules : Rules) (binds : List code.Bind.Bind) (i : ℕ) (d : code.Bind.Bind) → i < length binds
    → named_first (named_of_binds rules (view_binds (drop i binds))) ≡ Some (named_of_bind rules (view_bind (get_or binds i d)))
named_bind rules binds i d within = ap (λ (xs : List code.Bind.Bind). named_first (named_of_binds rules (view_binds xs))) (drop_more binds i d within)

pub no_named_bind : (rules : Rules) (binds : List code.Bind.Bind) (i : ℕ) → length binds ≤ i → named_first (named_of_binds rules (view_binds (drop i binds))) ≡ None
no_named_bind rules binds i past = ap (λ (xs : List code.Bind.Bind). named_first (named_of_binds rules (view_binds xs))) (drop_all i binds past)

pub named_target : (rules : Rules) (targets : List code.Expr.Expr) (i : ℕ) (d : code.Expr.Expr) → i < length targets
    → named_first (named_of_targets rules (view_exprs (drop i targets))) ≡ named_of_target rules (view_expr (get_or targets i d))
named_target rules targets i d within = ap (λ (xs : List code.Expr.Expr). named_first (named_of_targets rules (view_exprs xs))) (drop_more targets i d within)

pub no_named_target : (rules : Rules) (targets : List code.Expr.Expr) (i : ℕ) → length targets ≤ i → named_first (named_of_targets rules (view_exprs (drop i targets))) ≡ None
no_named_target rules targets i past = ap (λ (xs : List code.Expr.Expr). named_first (named_of_targets rules (view_exprs xs))) (drop_all i targets past)

-- those that come behind it
more_binds_rest : (rules : Rules) (i : ℕ) (binds : List code.Bind.Bind) → named_of_binds rules (view_binds (drop (suc i) binds)) ≡ named_rest (named_of_binds rules (view_binds (drop i binds)))
more_binds_rest rules zero [] = refl
more_binds_rest rules zero (x ∷ binds) = refl
more_binds_rest rules (suc i) [] = refl
more_binds_rest rules (suc i) (x ∷ binds) = more_binds_rest rules i binds

pub binds_rest : (rules : Rules) (i : ℕ) (binds : List code.Bind.Bind) → named_of_binds rules (view_binds (drop (i + 1) binds)) ≡ named_rest (named_of_binds rules (view_binds (drop i binds)))
binds_rest rules i binds = let next : i + 1 ≡ suc i = omega arith in ap (λ (n : ℕ). named_of_binds rules (view_binds (drop n binds))) next ∙ more_binds_rest rules i binds

more_targets_rest : (rules : Rules) (i : ℕ) (targets : List code.Expr.Expr) → named_of_targets rules (view_exprs (drop (suc i) targets)) ≡ named_rest (named_of_targets rules (view_exprs (drop i targets)))
more_targets_rest rules zero [] = refl
more_targets_rest rules zero (x ∷ targets) = refl
more_targets_rest rules (suc i) [] = refl
more_targets_rest rules (suc i) (x ∷ targets) = more_targets_rest rules i targets

pub targets_rest : (rules : Rules) (i : ℕ) (targets : List code.Expr.Expr) → named_of_targets rules (view_exprs (drop (i + 1) targets)) ≡ named_rest (named_of_targets rules (view_exprs (drop i targets)))
targets_rest rules i targets = let next : i + 1 ≡ suc i = omega arith in ap (λ (n : ℕ). named_of_targets rules (view_exprs (drop n targets))) next ∙ more_targets_rest rules i targets
