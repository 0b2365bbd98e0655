use Rattle.std.proofs.Common.{◌≡◌, ℕ, List, Result, Err, sym, ap, ◌∙◌}
use Rattle.std.specs.Prelude.{Option, Some, None}
use Rattle.luau_tree.specs.Tree.{Block}
use Rattle.luau_tree.specs.View.{view_block}
use Rattle.luau_tree.specs.declared.names.ExprId.{ExprId}
use Rattle.luau_tree.specs.declared.tree.Module.{Module}
use Rattle.luau_scope.specs.declared.findings.Findings.{Findings}
use Rattle.luau_scope.specs.declared.reading.LocalInfo.{LocalInfo}
use Rattle.luau_scope.specs.declared.reading.RequireSite.{RequireSite}
use Rattle.luau_scope.specs.declared.reading.Scoped.{Scoped}
use Rattle.luau_scope.specs.declared.reading.Use.{Use}
use Rattle.luau_scope.specs.declared.refusal.ScopeError.{ScopeError}
use Rattle.luau_scope.specs.declared.refusal.ScopeError.TheVariants as the_error
use Rattle.luau_scope.specs.Finds.{found_in}
use Rattle.luau_scope.specs.Locals.{locals_of, requires_of, uses_of}
use Rattle.luau_scope.specs.Refusals.{Refused, refusal_of}
use Rattle.luau_scope.specs.Steps.{added, marked, no_findings}
use Rattle.luau_scope.proofs.Totals.{read_of}
use Rattle.luau_scope.proofs.resolver.resolve.Goals as goal

-- the findings of a module have its refusal
refusal_is : (ns paths : List (List ℕ)) (block : Block) (w : Findings) → ns ≡ paths → w ≡ added (found_in ns block) no_findings → w.refusal ≡ refusal_of paths block
refusal_is ns paths block w n e = (read_of (found_in ns block) w e).refusal ∙ ap (λ (ps : List (List ℕ)). refusal_of ps block) n

-- a reading
abbrev reading : Module → List LocalInfo → List (ExprId × Use) → List RequireSite → Scoped
reading m locals uses required = record { «module» = m; locals = locals; uses = uses; required = required }

-- what they hold is its reading
reading_is : (ns paths : List (List ℕ)) (m : Module) (w : Findings) (locals : List LocalInfo) (uses : List (ExprId × Use)) (required : List RequireSite)
    → ns ≡ paths → w ≡ added (found_in ns (view_block m.block)) no_findings
    → locals ≡ marked w.assigned w.captured 0 w.locals → uses ≡ w.uses → required ≡ w.required
    → reading m locals uses required ≡ reading m (locals_of paths (view_block m.block)) (uses_of paths (view_block m.block)) (requires_of paths (view_block m.block))
reading_is ns paths m w locals uses required n e l u q =
    let r = read_of (found_in ns (view_block m.block)) w e in
    ap (λ (xs : List LocalInfo). reading m xs uses required) (l ∙ r.locals ∙ ap (λ (ps : List (List ℕ)). locals_of ps (view_block m.block)) n)
    ∙ ap (λ (xs : List (ExprId × Use)). reading m (locals_of paths (view_block m.block)) xs required) (u ∙ r.uses ∙ ap (λ (ps : List (List ℕ)). uses_of ps (view_block m.block)) n)
    ∙ ap (λ (xs : List RequireSite). reading m (locals_of paths (view_block m.block)) (uses_of paths (view_block m.block)) xs) (q ∙ r.required ∙ ap (λ (ps : List (List ℕ)). requires_of ps (view_block m.block)) n)

-- the refusal that an answer tells
abbrev told : Result Scoped ScopeError → Option Refused
told (Err (the_error.Refused why at)) = Some (why, at)
told other = None

pub returns-in-Some-clause-refused : goal.returns-in-Some-clause-refused
returns-in-Some-clause-refused c =
    λ why at e. sym (refusal_is _ c.args.names.now (view_block c.args.module.block) _ c.as_slice.ensures.paths c.in_ok-found.ensures) ∙ c.in-Some.is ∙ ap told e

pub returns-clause-reading : goal.returns-clause-reading
returns-clause-reading c =
    reading_is _ c.args.names.now c.args.module _ _ _ _ c.as_slice.ensures.paths c.in_ok-found.ensures c.in_ok-locals.ensures c.into_list.ensures c.into_list-2.ensures

pub returns-clause-accepted : goal.returns-clause-accepted
returns-clause-accepted c = sym (refusal_is _ c.args.names.now (view_block c.args.module.block) _ c.as_slice.ensures.paths c.in_ok-found.ensures) ∙ c.in_default.is
