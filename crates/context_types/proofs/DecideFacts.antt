-- What a condition chooses, by one call after another.
use Rattle.std.proofs.Common.{◌≡◌, sym, ◌∙◌}
use Rattle.std.specs.Prelude.{Bool}
use Rattle.luau_tree.specs.Tree.{Expr}
use Rattle.error_context.specs.declared.context.Context.{Context}
use Rattle.guards.specs.declared.guarding.Guard.{Guard}
use Rattle.report_rules.specs.Context.{join, branch, pass}
use Rattle.report_rules.specs.Rules.{Rules}
use Rattle.report_work.specs.Moves.{and_one, or_one, choice_one}
use Rattle.context_types.specs.Lists.{way_context}
use Rattle.context_types.specs.Standing.{Grows, Says, StandsContext, StandsGuard}
use Rattle.context_types.specs.Types.{context_in}
use Rattle.context_types.specs.declared.deciding.Way.{Way}
use Rattle.context_types.specs.declared.types.ContextTypes.{ContextTypes}
use Rattle.context_types.proofs.GrowFacts.{context_on, context_stays, says_on}

-- a context means the same after two calls
stays_twice : (s t u : ContextTypes) (context : Context) → Grows s t → Grows t u → StandsContext s context → context_in u context ≡ context_in s context
stays_twice s t u context first second stands =
    context_stays {s = t} {t = u} {context = context} second (context_on {s = s} {t = t} {context = context} first stands) ∙ context_stays {s = s} {t = t} {context = context} first stands

pub and_made : (s t u v : ContextTypes) (rules : Rules) (cond : Expr) (effects : Bool) (guard : Guard) (never_left right left passed decided made : Context) → Grows s t → Grows t u
    → StandsGuard s guard → StandsContext s never_left → StandsContext s left → Says s rules cond guard → context_in t passed ≡ pass effects (context_in s right)
    → ((rules : Rules) (cond : Expr) → Says t rules cond guard → context_in u decided ≡ branch rules cond (context_in t passed) (context_in t left))
    → context_in v made ≡ join (context_in u never_left) (context_in u decided)
    → context_in v made ≡ and_one rules cond effects (context_in s never_left) (context_in s right) (context_in s left)
and_made s t u v rules cond effects guard never_left right left passed decided made first second guards never_stands left_stands says passes decides joins =
    let n = stays_twice s t u never_left first second never_stands in
    let l = context_stays {s = s} {t = t} {context = left} first left_stands in
    let d = decides rules cond (says_on {s = s} {t = t} {rules = rules} {cond = cond} {guard = guard} first guards says) in
    joins ∙ (λ i. join (n i) (d i)) ∙ (λ i. join (context_in s never_left) (branch rules cond (passes i) (l i)))

pub or_made : (s t u v : ContextTypes) (rules : Rules) (cond : Expr) (effects : Bool) (guard : Guard) (never_left right left passed decided made : Context) → Grows s t → Grows t u
    → StandsGuard s guard → StandsContext s never_left → StandsContext s left → Says s rules cond guard → context_in t passed ≡ pass effects (context_in s right)
    → ((rules : Rules) (cond : Expr) → Says t rules cond guard → context_in u decided ≡ branch rules cond (context_in t left) (context_in t passed))
    → context_in v made ≡ join (context_in u never_left) (context_in u decided)
    → context_in v made ≡ or_one rules cond effects (context_in s never_left) (context_in s right) (context_in s left)
or_made s t u v rules cond effects guard never_left right left passed decided made first second guards never_stands left_stands says passes decides joins =
    let n = stays_twice s t u never_left first second never_stands in
    let l = context_stays {s = s} {t = t} {context = left} first left_stands in
    let d = decides rules cond (says_on {s = s} {t = t} {rules = rules} {cond = cond} {guard = guard} first guards says) in
    joins ∙ (λ i. join (n i) (d i)) ∙ (λ i. join (context_in s never_left) (branch rules cond (l i) (passes i)))

pub choice_made : (s t u v : ContextTypes) (rules : Rules) (cond : Expr) (effects : Bool) (cond_fails value rest decided passed made : Context) → Grows s t → Grows t u
    → StandsContext s cond_fails → context_in t decided ≡ branch rules cond (context_in s value) (context_in s rest)
    → context_in u passed ≡ pass effects (context_in t decided)
    → context_in v made ≡ join (context_in u cond_fails) (context_in u passed)
    → context_in v made ≡ choice_one rules cond effects (context_in s cond_fails) (context_in s value) (context_in s rest)
choice_made s t u v rules cond effects cond_fails value rest decided passed made first second cond_stands decides passes joins =
    let n = stays_twice s t u cond_fails first second cond_stands in
    joins ∙ (λ i. join (n i) (passes i)) ∙ (λ i. join (context_in s cond_fails) (pass effects (decides i)))

-- the same of copies
pub same_way : (types : ContextTypes) (way other : Way) (rules : Rules) (cond : Expr) (effects : Bool) (first first_copy a a_copy b b_copy : Context)
    → way ≡ other → first_copy ≡ first → a_copy ≡ a → b_copy ≡ b
    → way_context other rules cond effects (context_in types first_copy) (context_in types a_copy) (context_in types b_copy)
    ≡ way_context way rules cond effects (context_in types first) (context_in types a) (context_in types b)
same_way types way other rules cond effects first first_copy a a_copy b b_copy same e f g =
    λ i. way_context (sym same i) rules cond effects (context_in types (e i)) (context_in types (f i)) (context_in types (g i))
