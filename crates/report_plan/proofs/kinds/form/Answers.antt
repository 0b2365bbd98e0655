use Rattle.std.proofs.Common.{◌≡◌, List, ap, sym, ◌∙◌, refl, arith}
use Rattle.std.proofs.lemmas.Result.{on_ok_weaker}
use Rattle.luau_tree.specs.declared.tree as code
use Rattle.luau_tree.specs.Tree as plain
use Rattle.luau_tree.specs.View.{view_arms, view_bind, view_binds, view_block, view_body, view_expr, view_exprs, view_gens, view_maybe_block, view_maybe_expr, view_stat, view_type}
use Rattle.module_facts.proofs.Forms.{assign_stat, compound_stat, call_stat, do_stat, while_stat, repeat_stat, if_stat, num_for_stat, gen_for_stat, function_stat, local_function_stat, local_stat, type_alias_stat, type_function_stat, return_stat, break_stat, continue_stat}
use Rattle.report_plan.proofs.StatForms.{still_form}
use Rattle.report_plan.proofs.Plans.{put_as, put_loop, put_none, put_stat}
use Rattle.report_plan.proofs.kinds.form.Goals as goal

pub returns-in-Assign : goal.returns-in-Assign
returns-in-Assign c =
    let s = c.args.s.now in
    let is : view_stat s ≡ plain.the_stat s.span (plain.Assign (view_exprs c.as_slice.result.now) (view_exprs c.as_slice-in-Assign.result.now)) =
    assign_stat s c.in-Assign.targets c.in-Assign.values c.in-Assign.is
    ∙ ap (λ (z : List code.Expr.Expr). plain.the_stat s.span (plain.Assign (view_exprs z) (view_exprs c.in-Assign.values))) (sym c.as_slice.ensures)
    ∙ ap (λ (z : List code.Expr.Expr). plain.the_stat s.span (plain.Assign (view_exprs c.as_slice.result.now) (view_exprs z))) (sym c.as_slice-in-Assign.ensures) in
    on_ok_weaker c.assign.result (λ p. put_stat _ _ _ s.span _ is (p s.span)) c.assign.ensures

pub returns-in-Compound : goal.returns-in-Compound
returns-in-Compound c =
    let s = c.args.s.now in
    let is : view_stat s ≡ plain.the_stat s.span (plain.Compound (view_expr c.in-Compound.target) c.in-Compound.op (view_expr c.in-Compound.value)) =
    compound_stat s c.in-Compound.target c.in-Compound.op c.in-Compound.value c.in-Compound.is in
    on_ok_weaker c.compound.result (λ p. put_stat _ _ _ s.span _ is (p s.span)) c.compound.ensures

pub returns-in-CallStat : goal.returns-in-CallStat
returns-in-CallStat c =
    let s = c.args.s.now in
    let is : view_stat s ≡ plain.the_stat s.span (plain.CallStat (view_expr c.in-CallStat.call)) =
    call_stat s c.in-CallStat.call c.in-CallStat.is in
    on_ok_weaker c.call_stat.result (λ p. put_stat _ _ _ s.span _ is (p s.span)) c.call_stat.ensures

pub returns-in-Do : goal.returns-in-Do
returns-in-Do c =
    let s = c.args.s.now in
    let is : view_stat s ≡ plain.the_stat s.span (plain.Do (view_block c.in-Do.body)) =
    do_stat s c.in-Do.body c.in-Do.is in
    on_ok_weaker c.do_block.result (λ p. put_stat _ _ _ s.span _ is (p s.span)) c.do_block.ensures

pub returns-in-While : goal.returns-in-While
returns-in-While c =
    let s = c.args.s.now in
    let is : view_stat s ≡ plain.the_stat s.span (plain.While (view_expr c.in-While.cond) (view_block c.in-While.body)) =
    while_stat s c.in-While.cond c.in-While.body c.in-While.is in
    on_ok_weaker c.while_loop.result (λ p. put_loop _ _ _ s.span _ is (p s.span is)) c.while_loop.ensures

pub returns-in-Repeat : goal.returns-in-Repeat
returns-in-Repeat c =
    let s = c.args.s.now in
    let is : view_stat s ≡ plain.the_stat s.span (plain.Repeat (view_block c.in-Repeat.body) (view_expr c.in-Repeat.cond)) =
    repeat_stat s c.in-Repeat.body c.in-Repeat.cond c.in-Repeat.is in
    on_ok_weaker c.repeat_loop.result (λ p. put_loop _ _ _ s.span _ is (p s.span is)) c.repeat_loop.ensures

pub returns-in-If : goal.returns-in-If
returns-in-If c =
    let s = c.args.s.now in
    let is : view_stat s ≡ plain.the_stat s.span (plain.If (view_arms c.as_slice-in-If.result.now) (view_maybe_block c.in-If.last)) =
    if_stat s c.in-If.arms c.in-If.last c.in-If.is
    ∙ ap (λ (z : List code.Arm.Arm). plain.the_stat s.span (plain.If (view_arms z) (view_maybe_block c.in-If.last))) (sym c.as_slice-in-If.ensures) in
    on_ok_weaker c.if_stat.result (λ p. put_stat _ _ _ s.span _ is (p s.span)) c.if_stat.ensures

pub returns-in-NumFor : goal.returns-in-NumFor
returns-in-NumFor c =
    let s = c.args.s.now in
    let is : view_stat s ≡ plain.the_stat s.span (plain.NumFor (view_bind c.in-NumFor.bind) (view_expr c.in-NumFor.from) (view_expr c.in-NumFor.to) (view_maybe_expr c.in-NumFor.step) (view_block c.in-NumFor.body)) =
    num_for_stat s c.in-NumFor.bind c.in-NumFor.from c.in-NumFor.to c.in-NumFor.step c.in-NumFor.body c.in-NumFor.is in
    on_ok_weaker c.numeric_for.result (λ p. put_loop _ _ _ s.span _ is (p s.span (view_bind c.in-NumFor.bind) is)) c.numeric_for.ensures

pub returns-in-GenFor : goal.returns-in-GenFor
returns-in-GenFor c =
    let s = c.args.s.now in
    let is : view_stat s ≡ plain.the_stat s.span (plain.GenFor (view_binds c.in-GenFor.binds) (view_exprs c.as_slice-in-GenFor.result.now) (view_block c.in-GenFor.body)) =
    gen_for_stat s c.in-GenFor.binds c.in-GenFor.values c.in-GenFor.body c.in-GenFor.is
    ∙ ap (λ (z : List code.Expr.Expr). plain.the_stat s.span (plain.GenFor (view_binds c.in-GenFor.binds) (view_exprs z) (view_block c.in-GenFor.body))) (sym c.as_slice-in-GenFor.ensures) in
    on_ok_weaker c.iteration.result (λ p. put_loop _ _ _ s.span _ is (p s.span (view_binds c.in-GenFor.binds) is)) c.iteration.ensures

pub returns-in-Function : goal.returns-in-Function
returns-in-Function c =
    let s = c.args.s.now in
    let is : view_stat s ≡ plain.the_stat s.span (plain.FunctionStat (view_expr c.in-Function.path) c.in-Function.method (view_body c.in-Function.body)) =
    function_stat s c.in-Function.path c.in-Function.method c.in-Function.body c.in-Function.is in
    on_ok_weaker c.function_stat.result (λ p. put_stat _ _ _ s.span _ is (p s.span)) c.function_stat.ensures

pub returns-in-LocalFunction : goal.returns-in-LocalFunction
returns-in-LocalFunction c =
    let s = c.args.s.now in
    let is : view_stat s ≡ plain.the_stat s.span (plain.LocalFunction (view_bind c.in-LocalFunction.name) (view_body c.in-LocalFunction.body)) =
    local_function_stat s c.in-LocalFunction.name c.in-LocalFunction.body c.in-LocalFunction.is in
    on_ok_weaker c.local_function.result (λ p. put_stat _ _ _ s.span _ is (p s.span)) c.local_function.ensures

pub returns-in-Local : goal.returns-in-Local
returns-in-Local c =
    let s = c.args.s.now in
    let is : view_stat s ≡ plain.the_stat s.span (plain.Local (view_binds c.as_slice-in-Local.result.now) (view_exprs c.as_slice-in-Local-2.result.now)) =
    local_stat s c.in-Local.binds c.in-Local.values c.in-Local.is
    ∙ ap (λ (z : List code.Bind.Bind). plain.the_stat s.span (plain.Local (view_binds z) (view_exprs c.in-Local.values))) (sym c.as_slice-in-Local.ensures)
    ∙ ap (λ (z : List code.Expr.Expr). plain.the_stat s.span (plain.Local (view_binds c.as_slice-in-Local.result.now) (view_exprs z))) (sym c.as_slice-in-Local-2.ensures) in
    on_ok_weaker c.local_stat.result (λ p. put_stat _ _ _ s.span _ is (p s.span)) c.local_stat.ensures

pub returns-in-Return : goal.returns-in-Return
returns-in-Return c =
    let s = c.args.s.now in
    let is : view_stat s ≡ plain.the_stat s.span (plain.Return (view_exprs c.as_slice-in-Return.result.now)) =
    return_stat s c.in-Return.values c.in-Return.is
    ∙ ap (λ (z : List code.Expr.Expr). plain.the_stat s.span (plain.Return (view_exprs z))) (sym c.as_slice-in-Return.ensures) in
    on_ok_weaker c.return_stat.result (λ p. put_stat _ _ _ s.span _ is (p s.span)) c.return_stat.ensures

pub returns-in-Break : goal.returns-in-Break
returns-in-Break c =
    let s = c.args.s.now in
    let is : view_stat s ≡ plain.the_stat s.span (plain.Break) =
    break_stat s c.in-Break.is in
    on_ok_weaker c.break_stat.result (λ p. put_stat _ _ _ s.span _ is (p s.span)) c.break_stat.ensures

pub returns-in-Continue : goal.returns-in-Continue
returns-in-Continue c =
    let s = c.args.s.now in
    let is : view_stat s ≡ plain.the_stat s.span (plain.Continue) =
    continue_stat s c.in-Continue.is in
    on_ok_weaker c.continue_stat.result (λ p. put_stat _ _ _ s.span _ is (p s.span)) c.continue_stat.ensures

pub returns-in-TypeAlias : goal.returns-in-TypeAlias
returns-in-TypeAlias c =
    let s = c.args.s.now in
    let is : view_stat s ≡ plain.the_stat s.span (plain.TypeAlias c.in-TypeAlias.exported c.in-TypeAlias.name (view_gens c.in-TypeAlias.generics) (view_type c.in-TypeAlias.typ)) =
    type_alias_stat s c.in-TypeAlias.exported c.in-TypeAlias.name c.in-TypeAlias.generics c.in-TypeAlias.typ c.in-TypeAlias.is in
    put_stat _ _ _ s.span _ is
    (put_as _ _ _ _ _ _ (λ rules seen work. still_form rules seen s.span (plain.TypeAlias c.in-TypeAlias.exported c.in-TypeAlias.name (view_gens c.in-TypeAlias.generics) (view_type c.in-TypeAlias.typ)) work (λ behind breaks continues. refl) (λ behind breaks continues. refl)) (omega arith) (put_none c.args.tasks.now.items))

pub returns-in-TypeFunction : goal.returns-in-TypeFunction
returns-in-TypeFunction c =
    let s = c.args.s.now in
    let is : view_stat s ≡ plain.the_stat s.span (plain.TypeFunction c.in-TypeFunction.exported c.in-TypeFunction.name (view_body c.in-TypeFunction.body)) =
    type_function_stat s c.in-TypeFunction.exported c.in-TypeFunction.name c.in-TypeFunction.body c.in-TypeFunction.is in
    put_stat _ _ _ s.span _ is
    (put_as _ _ _ _ _ _ (λ rules seen work. still_form rules seen s.span (plain.TypeFunction c.in-TypeFunction.exported c.in-TypeFunction.name (view_body c.in-TypeFunction.body)) work (λ behind breaks continues. refl) (λ behind breaks continues. refl)) (omega arith) (put_none c.args.tasks.now.items))
