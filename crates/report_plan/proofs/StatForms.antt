-- What each form of a statement is made of.
use Rattle.std.specs.Prelude.{Option, Some, None, if◌then◌else◌}
use Rattle.std.proofs.Common.{◌≡◌, ℕ, suc, Bool, true, false, List, [], ◌∷◌, ◌++◌, map, refl, sym, subst, ap, ◌∙◌, append_assoc, append-nil}
use Rattle.luau_tree.specs.declared.position.Span.{Span}
use Rattle.luau_tree.specs.declared.names.BinOp.{BinOp}
use Rattle.luau_tree.specs.Tree.{Block, no_stats, more_stats, Stat, the_stat, StatKind, Assign, Compound, CallStat, Do, While, Repeat, If, NumFor, GenFor, FunctionStat, LocalFunction, Local, Return, Break, Continue, Arms, no_arms, more_arms, MaybeBlock, no_block, a_block}
use Rattle.luau_tree.specs.Tree.{Expr, the_expr, Exprs, no_exprs, more_exprs, no_expr, an_expr, Body, Bind, Binds, no_binds, more_binds}
use Rattle.type_arena.specs.Term.{never}
use Rattle.report_rules.specs.Rules.{Rules}
use Rattle.report_rules.specs.Effects.{Target, OfLocal, OfGlobal, OfField, OfElement, target_of, targets_of, function_target, any_effects, effects, local_of_bind, locals_of_binds}
use Rattle.report_rules.specs.Seen.{Seen}
use Rattle.report_rules.specs.Context.{Context, none, pass, without, branch}
use Rattle.report_rules.specs.Errors.{ev}
use Rattle.report_rules.specs.Statements.{ev_then, ev_values, ev_bound, ev_maybe_bound, ev_iteration, bound_kinds, iteration_kinds, write_kinds, ev_targets, before_writes, for_values, values_context, keep, stm, stm_in, stm_block, stm_arms, stm_last, while_context, until_context}
use Rattle.report_rules.specs.Findings.{Finding, found, found_parts, found_block, found_stat, found_kind, found_arms, found_last, found_targets, found_values, found_body, found_target, found_iteration}
use Rattle.report_rules.specs.Reports.{Report, reports_of}
use Rattle.report_work.specs.Work.{Work}
use Rattle.report_work.specs.Moves.{first_of, rest_of, asked_one, met, behind_by, behind_kept, behind_restored, behind_dropped, continued, broken, reported, kept_for_value, kept_for_values, written, looped, unlooped}
use Rattle.report_work.specs.Checks.{Check, Unchecked, Bound, Iterated, WrittenBase, AddedTo, Named}
use Rattle.report_work.specs.Expressions.{with_ev, each}
use Rattle.report_work.specs.Found.{found_as, with_body}
use Rattle.report_work.specs.Statements.{each_iterated, passed, each_value, each_written, each_kept, named_of_binds, named_of_targets, with_target, with_compound, undeclared, with_stat, with_block, each_stat, at_last, with_arm, each_arm, kept_by, in_loop}
use Rattle.report_plan.proofs.FoundForms.{reports_both, reports_of_three}

-- with another context behind, and findings before those behind
abbrev pub went : Context → List Finding → Work → Work
went context findings work = reported findings (record work { behind = context })

-- one part after another
pub went_both : (context : Context) (a b : List Finding) (work : Work) → reported a (went context b work) ≡ went context (a ++ b) work
went_both context a b work = ap (λ (reports : List Report). record work { behind = context; reports = reports }) (reports_both a b work.reports)

-- ## Blocks

pub block_form : (rules : Rules) (seen : List Seen) (block : Block) (work : Work) → each_stat (with_stat rules seen) block work ≡ with_block rules seen block work
block_form rules seen no_stats work = refl
block_form rules seen (more_stats s rest) work =
    let behind = stm_block rules seen rest work.behind (first_of work.breaks) (first_of work.continues) in
    ap (with_stat rules seen s) (block_form rules seen rest work)
    ∙ went_both (stm rules seen s behind (first_of work.breaks) (first_of work.continues))
    (found_stat rules seen s behind (first_of work.breaks) (first_of work.continues))
    (found_block rules seen rest work.behind (first_of work.breaks) (first_of work.continues)) work

pub do_form : (rules : Rules) (seen : List Seen) (span : Span) (body : Block) (work : Work) → with_block rules seen body work ≡ with_stat rules seen (the_stat span (Do body)) work
do_form rules seen span body work = refl

-- ## What is evaluated

pub call_form : (rules : Rules) (seen : List Seen) (span : Span) (e : Expr) (work : Work) → passed rules seen Unchecked e work ≡ with_stat rules seen (the_stat span (CallStat e)) work
call_form rules seen span e work = refl

-- values that are evaluated in order
pub parts_passed : (rules : Rules) (seen : List Seen) (es : Exprs) (work : Work)
    → each (passed rules seen Unchecked) es work ≡ went (ev_then rules seen es work.behind) (found_parts rules seen es) work
parts_passed rules seen no_exprs work = refl
parts_passed rules seen (more_exprs e rest) work =
    ap (passed rules seen Unchecked e) (parts_passed rules seen rest work) ∙ went_both _ (found rules seen [] e) (found_parts rules seen rest) work

pub return_form : (rules : Rules) (seen : List Seen) (span : Span) (values : Exprs) (work : Work)
    → each (passed rules seen Unchecked) values (behind_by (λ behind. none) work) ≡ with_stat rules seen (the_stat span (Return values)) work
return_form rules seen span values work = parts_passed rules seen values (record work { behind = none })

pub break_form : (rules : Rules) (seen : List Seen) (span : Span) (work : Work) → broken work ≡ with_stat rules seen (the_stat span Break) work
break_form rules seen span work = refl

pub continue_form : (rules : Rules) (seen : List Seen) (span : Span) (work : Work) → continued work ≡ with_stat rules seen (the_stat span Continue) work
continue_form rules seen span work = refl

-- ## Branches

arms_gone : (rules : Rules) (seen : List Seen) (arms : Arms) (last context : Context) (aside : List Context) (findings : List Finding) (work : Work)
    → each_arm (with_arm rules seen) arms (went last findings (record work { aside = context ∷ aside }))
    ≡ went (stm_arms rules seen arms last context (first_of work.breaks) (first_of work.continues))
    (found_arms rules seen arms context (first_of work.breaks) (first_of work.continues) ++ findings) (record work { aside = context ∷ aside })
arms_gone rules seen no_arms last context aside findings work = refl
arms_gone rules seen (more_arms cond body rest) last context aside findings work =
    let breaks = first_of work.breaks in
    let continues = first_of work.continues in
    let within = found_block rules seen body context breaks continues in
    let later = found_arms rules seen rest context breaks continues in
    let whole = stm_arms rules seen (more_arms cond body rest) last context breaks continues in
    ap (with_arm rules seen cond body) (arms_gone rules seen rest last context aside findings work)
    ∙ ap (λ (reports : List Report). record work { behind = whole; aside = context ∷ aside; reports = reports })
    (reports_of_three (found rules seen [] cond) within (later ++ findings) work.reports
    ∙ ap (λ (fs : List Finding). reports_of fs ++ work.reports) (sym (append_assoc (found rules seen [] cond ++ within) later findings)))

pub if_form : (rules : Rules) (seen : List Seen) (span : Span) (arms : Arms) (last : MaybeBlock) (work : Work)
    → behind_dropped (each_arm (with_arm rules seen) arms (at_last rules seen last (behind_kept work))) ≡ with_stat rules seen (the_stat span (If arms last)) work
if_form rules seen span arms no_block work = ap behind_dropped (arms_gone rules seen arms work.behind work.behind work.aside [] work)
if_form rules seen span arms (a_block body) work =
    ap behind_dropped (arms_gone rules seen arms (stm_block rules seen body work.behind (first_of work.breaks) (first_of work.continues)) work.behind work.aside
    (found_block rules seen body work.behind (first_of work.breaks) (first_of work.continues)) work)

-- ## Loops

pub while_form : (rules : Rules) (seen : List Seen) (span : Span) (cond : Expr) (body : Block) (work : Work)
    → (let s = the_stat span (While cond body) in
    found_as rules seen Unchecked cond (unlooped (continued (with_block rules seen body (looped (met false (with_ev rules seen cond (asked_one never (kept_by rules s (behind_kept work)))))))))
    ≡ with_stat rules seen s work)
while_form rules seen span cond body work =
    went_both (while_context rules seen span cond body work.behind) (found rules seen [] cond)
    (found_block rules seen body (while_context rules seen span cond body work.behind) work.behind (while_context rules seen span cond body work.behind)) work

pub repeat_form : (rules : Rules) (seen : List Seen) (span : Span) (body : Block) (cond : Expr) (work : Work)
    → (let s = the_stat span (Repeat body cond) in
    in_loop rules seen body (passed rules seen Unchecked cond (kept_by rules s (behind_kept work))) ≡ with_stat rules seen s work)
repeat_form rules seen span body cond work =
    let head = until_context rules seen span body cond work.behind in
    went_both (stm_block rules seen body head work.behind head) (found_block rules seen body head work.behind head) (found rules seen [] cond) work

pub number_form : (rules : Rules) (seen : List Seen) (span : Span) (bind : Bind) (from to : Expr) (body : Block) (work : Work)
    → (let s = the_stat span (NumFor bind from to no_expr body) in
    passed rules seen Bound from (passed rules seen Bound to (unlooped (continued (with_block rules seen body (looped (kept_by rules s (behind_kept work)))))))
    ≡ with_stat rules seen s work)
number_form rules seen span bind from to body work =
    let head = keep rules (the_stat span (NumFor bind from to no_expr body)) body work.behind in
    let first = found rules seen (bound_kinds seen from) from in
    let second = found rules seen (bound_kinds seen to) to in
    let within = found_block rules seen body head work.behind head in
    ap (λ (reports : List Report). record work { behind = ev_bound rules seen from (ev_bound rules seen to head); reports = reports })
    (reports_of_three first second within work.reports
    ∙ ap (λ (fs : List Finding). reports_of (fs ++ within) ++ work.reports) (sym (append-nil (first ++ second))))

pub stepped_form : (rules : Rules) (seen : List Seen) (span : Span) (bind : Bind) (from to by : Expr) (body : Block) (work : Work)
    → (let s = the_stat span (NumFor bind from to (an_expr by) body) in
    passed rules seen Bound from (passed rules seen Bound to (passed rules seen Bound by (unlooped (continued (with_block rules seen body (looped (kept_by rules s (behind_kept work))))))))
    ≡ with_stat rules seen s work)
stepped_form rules seen span bind from to by body work =
    let head = keep rules (the_stat span (NumFor bind from to (an_expr by) body)) body work.behind in
    let first = found rules seen (bound_kinds seen from) from in
    let second = found rules seen (bound_kinds seen to) to in
    let third = found rules seen (bound_kinds seen by) by in
    let within = found_block rules seen body head work.behind head in
    ap (λ (reports : List Report). record work { behind = ev_bound rules seen from (ev_bound rules seen to (ev_bound rules seen by head)); reports = reports })
    (reports_of_three first second third (reports_of within ++ work.reports) ∙ reports_both ((first ++ second) ++ third) within work.reports)

iterated_gone : (rules : Rules) (seen : List Seen) (values : Exprs) (work : Work)
    → each_iterated rules seen values work ≡ went (ev_iteration rules seen values work.behind) (found_iteration rules seen values) work
iterated_gone rules seen no_exprs work = refl
iterated_gone rules seen (more_exprs e rest) work =
    ap (passed rules seen Iterated e) (parts_passed rules seen rest work) ∙ went_both _ (found rules seen (iteration_kinds seen e) e) (found_parts rules seen rest) work

pub iteration_form : (rules : Rules) (seen : List Seen) (span : Span) (binds : Binds) (values : Exprs) (body : Block) (work : Work)
    → (let s = the_stat span (GenFor binds values body) in
    each_iterated rules seen values (unlooped (continued (with_block rules seen body (looped (kept_by rules s (behind_kept work))))))
    ≡ with_stat rules seen s work)
iteration_form rules seen span binds values body work =
    let head = keep rules (the_stat span (GenFor binds values body)) body work.behind in
    let within = found_block rules seen body head work.behind head in
    iterated_gone rules seen values (went head within work)
    ∙ went_both (ev_iteration rules seen values head) (found_iteration rules seen values) within work

-- ## Functions

pub function_form : (rules : Rules) (seen : List Seen) (span : Span) (path : Expr) (body : Body) (work : Work)
    → with_target rules seen path (written (function_target rules path None) (with_body rules seen body work)) ≡ with_stat rules seen (the_stat span (FunctionStat path None body)) work
function_form rules seen span path body work = went_both _ (found_target rules seen [] path) (found_body rules seen body) work

pub method_form : (rules : Rules) (seen : List Seen) (span : Span) (path : Expr) (name : List ℕ) (body : Body) (work : Work)
    → passed rules seen WrittenBase path (written (function_target rules path (Some name)) (with_body rules seen body work))
    ≡ with_stat rules seen (the_stat span (FunctionStat path (Some name) body)) work
method_form rules seen span path name body work = went_both _ (found rules seen (write_kinds seen path) path) (found_body rules seen body) work

pub local_function_form : (rules : Rules) (seen : List Seen) (span : Span) (name : Bind) (body : Body) (work : Work)
    → undeclared rules (more_binds name no_binds) (with_body rules seen body work) ≡ with_stat rules seen (the_stat span (LocalFunction name body)) work
local_function_form rules seen span name body work = refl

-- a statement that does nothing
pub still_form : (rules : Rules) (seen : List Seen) (span : Span) (kind : StatKind) (work : Work)
    → ((behind breaks continues : Context) → stm_in rules seen span kind behind breaks continues ≡ behind)
    → ((behind breaks continues : Context) → found_kind rules seen span kind behind breaks continues ≡ [])
    → work ≡ with_stat rules seen (the_stat span kind) work
still_form rules seen span kind work same none =
    let breaks = first_of work.breaks in
    let continues = first_of work.continues in
    ap (λ (context : Context). went context [] work) (sym (same work.behind breaks continues))
    ∙ ap (λ (fs : List Finding). went (stm_in rules seen span kind work.behind breaks continues) fs work) (sym (none work.behind breaks continues))

-- ## The same, where a loop is known by its form

pub while_at : (rules : Rules) (seen : List Seen) (s : Stat) (span : Span) (cond : Expr) (body : Block) (work : Work) → s ≡ the_stat span (While cond body)
    → found_as rules seen Unchecked cond (unlooped (continued (with_block rules seen body (looped (met false (with_ev rules seen cond (asked_one never (kept_by rules s (behind_kept work)))))))))
    ≡ with_stat rules seen s work
while_at rules seen s span cond body work is =
    subst (λ (x : Stat). found_as rules seen Unchecked cond (unlooped (continued (with_block rules seen body (looped (met false (with_ev rules seen cond (asked_one never (kept_by rules x (behind_kept work))))))))) ≡ with_stat rules seen x work)
    (sym is) (while_form rules seen span cond body work)

pub repeat_at : (rules : Rules) (seen : List Seen) (s : Stat) (span : Span) (body : Block) (cond : Expr) (work : Work) → s ≡ the_stat span (Repeat body cond)
    → in_loop rules seen body (passed rules seen Unchecked cond (kept_by rules s (behind_kept work))) ≡ with_stat rules seen s work
repeat_at rules seen s span body cond work is =
    subst (λ (x : Stat). in_loop rules seen body (passed rules seen Unchecked cond (kept_by rules x (behind_kept work))) ≡ with_stat rules seen x work) (sym is) (repeat_form rules seen span body cond work)

-- the context that a loop keeps, behind its block
abbrev pub looped_by : Rules → List Seen → Stat → Block → Work → Work
looped_by rules seen s body work = unlooped (continued (with_block rules seen body (looped (kept_by rules s (behind_kept work)))))

pub number_at : (rules : Rules) (seen : List Seen) (s : Stat) (span : Span) (bind : Bind) (from to : Expr) (body : Block) (work : Work) → s ≡ the_stat span (NumFor bind from to no_expr body)
    → passed rules seen Bound from (passed rules seen Bound to (looped_by rules seen s body work)) ≡ with_stat rules seen s work
number_at rules seen s span bind from to body work is =
    subst (λ (x : Stat). passed rules seen Bound from (passed rules seen Bound to (looped_by rules seen x body work)) ≡ with_stat rules seen x work) (sym is) (number_form rules seen span bind from to body work)

pub stepped_at : (rules : Rules) (seen : List Seen) (s : Stat) (span : Span) (bind : Bind) (from to by : Expr) (body : Block) (work : Work) → s ≡ the_stat span (NumFor bind from to (an_expr by) body)
    → passed rules seen Bound from (passed rules seen Bound to (passed rules seen Bound by (looped_by rules seen s body work))) ≡ with_stat rules seen s work
stepped_at rules seen s span bind from to by body work is =
    subst (λ (x : Stat). passed rules seen Bound from (passed rules seen Bound to (passed rules seen Bound by (looped_by rules seen x body work))) ≡ with_stat rules seen x work) (sym is) (stepped_form rules seen span bind from to by body work)

pub iteration_at : (rules : Rules) (seen : List Seen) (s : Stat) (span : Span) (binds : Binds) (values : Exprs) (body : Block) (work : Work) → s ≡ the_stat span (GenFor binds values body)
    → each_iterated rules seen values (looped_by rules seen s body work) ≡ with_stat rules seen s work
iteration_at rules seen s span binds values body work is =
    subst (λ (x : Stat). each_iterated rules seen values (looped_by rules seen x body work) ≡ with_stat rules seen x work) (sym is) (iteration_form rules seen span binds values body work)
