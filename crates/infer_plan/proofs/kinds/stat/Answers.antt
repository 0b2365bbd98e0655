use Rattle.std.proofs.Common.{◌≡◌, List, sym, ap, ◌∙◌, arith}
use Rattle.luau_tree.specs.declared.tree as code
use Rattle.luau_tree.specs.Tree as plain
use Rattle.std.proofs.lemmas.Result.{on_ok_weaker}
use Rattle.luau_tree.specs.View.{view_arms, view_bind, view_binds, view_block, view_body, view_expr, view_exprs, view_maybe_block, view_maybe_expr, view_stat, view_type, view_gens}
use Rattle.infer_plan.specs.Run.{run}
use Rattle.infer_plan.specs.Steps.{with_stat}
use Rattle.infer_plan.specs.Weights.{stat_weight}
use Rattle.infer_plan.proofs.SameRules.{target_by, function_target_by}
use Rattle.module_facts.proofs.Forms.{assign_stat, compound_stat, call_stat, do_stat, while_stat, repeat_stat, if_stat, num_for_stat, gen_for_stat, function_stat, local_function_stat, local_stat, type_alias_stat, type_function_stat, return_stat, break_stat, continue_stat}
use Rattle.infer_plan.proofs.kinds.stat.Goals as goal

pub returns-in-Assign-clause-work : goal.returns-in-Assign-clause-work
returns-in-Assign-clause-work c =
    let s = c.args.s.now in
    let is : view_stat s ≡ plain.the_stat s.span (plain.Assign (view_exprs c.as_slice.result.now) (view_exprs c.as_slice-in-Assign.result.now)) =
    assign_stat s c.in-Assign.targets c.in-Assign.values c.in-Assign.is
    ∙ ap (λ (z : List code.Expr.Expr). plain.the_stat s.span (plain.Assign (view_exprs z) (view_exprs c.in-Assign.values))) (sym c.as_slice.ensures)
    ∙ ap (λ (z : List code.Expr.Expr). plain.the_stat s.span (plain.Assign (view_exprs c.as_slice.result.now) (view_exprs z))) (sym c.as_slice-in-Assign.ensures) in
    on_ok_weaker c.assign.result (λ made rules work read. made rules s.span work read ∙ ap (λ (y : plain.Stat). run rules c.args.tasks.now.items (with_stat rules y work)) (sym is)) c.assign.ensures.work

pub returns-in-Assign-clause-light : goal.returns-in-Assign-clause-light
returns-in-Assign-clause-light c =
    let s = c.args.s.now in
    let is : view_stat s ≡ plain.the_stat s.span (plain.Assign (view_exprs c.as_slice.result.now) (view_exprs c.as_slice-in-Assign.result.now)) =
    assign_stat s c.in-Assign.targets c.in-Assign.values c.in-Assign.is
    ∙ ap (λ (z : List code.Expr.Expr). plain.the_stat s.span (plain.Assign (view_exprs z) (view_exprs c.in-Assign.values))) (sym c.as_slice.ensures)
    ∙ ap (λ (z : List code.Expr.Expr). plain.the_stat s.span (plain.Assign (view_exprs c.as_slice.result.now) (view_exprs z))) (sym c.as_slice-in-Assign.ensures) in
    on_ok_weaker c.assign.result (λ light. omega (arith, light, ap stat_weight is)) c.assign.ensures.light

pub returns-in-Compound-clause-work : goal.returns-in-Compound-clause-work
returns-in-Compound-clause-work c =
    let s = c.args.s.now in
    let is : view_stat s ≡ plain.the_stat s.span (plain.Compound (view_expr c.in-Compound.target) c.in-Compound.op (view_expr c.in-Compound.value)) =
    compound_stat s c.in-Compound.target c.in-Compound.op c.in-Compound.value c.in-Compound.is in
    on_ok_weaker c.compound.result (λ made rules work read. made rules s.span work (c.target_of.ensures ∙ target_by c.args.facts.now rules read (view_expr c.in-Compound.target)) ∙ ap (λ (y : plain.Stat). run rules c.args.tasks.now.items (with_stat rules y work)) (sym is)) c.compound.ensures.work

pub returns-in-Compound-clause-light : goal.returns-in-Compound-clause-light
returns-in-Compound-clause-light c =
    let s = c.args.s.now in
    let is : view_stat s ≡ plain.the_stat s.span (plain.Compound (view_expr c.in-Compound.target) c.in-Compound.op (view_expr c.in-Compound.value)) =
    compound_stat s c.in-Compound.target c.in-Compound.op c.in-Compound.value c.in-Compound.is in
    on_ok_weaker c.compound.result (λ light. omega (arith, light, ap stat_weight is)) c.compound.ensures.light

pub returns-in-CallStat-clause-work : goal.returns-in-CallStat-clause-work
returns-in-CallStat-clause-work c =
    let s = c.args.s.now in
    let is : view_stat s ≡ plain.the_stat s.span (plain.CallStat (view_expr c.in-CallStat.call)) =
    call_stat s c.in-CallStat.call c.in-CallStat.is in
    on_ok_weaker c.call_stat.result (λ made rules work read. made rules s.span work ∙ ap (λ (y : plain.Stat). run rules c.args.tasks.now.items (with_stat rules y work)) (sym is)) c.call_stat.ensures.work

pub returns-in-CallStat-clause-light : goal.returns-in-CallStat-clause-light
returns-in-CallStat-clause-light c =
    let s = c.args.s.now in
    let is : view_stat s ≡ plain.the_stat s.span (plain.CallStat (view_expr c.in-CallStat.call)) =
    call_stat s c.in-CallStat.call c.in-CallStat.is in
    on_ok_weaker c.call_stat.result (λ light. omega (arith, light, ap stat_weight is)) c.call_stat.ensures.light

pub returns-in-Do-clause-work : goal.returns-in-Do-clause-work
returns-in-Do-clause-work c =
    let s = c.args.s.now in
    let is : view_stat s ≡ plain.the_stat s.span (plain.Do (view_block c.in-Do.body)) =
    do_stat s c.in-Do.body c.in-Do.is in
    on_ok_weaker c.do_block.result (λ made rules work read. made rules s.span work ∙ ap (λ (y : plain.Stat). run rules c.args.tasks.now.items (with_stat rules y work)) (sym is)) c.do_block.ensures.work

pub returns-in-Do-clause-light : goal.returns-in-Do-clause-light
returns-in-Do-clause-light c =
    let s = c.args.s.now in
    let is : view_stat s ≡ plain.the_stat s.span (plain.Do (view_block c.in-Do.body)) =
    do_stat s c.in-Do.body c.in-Do.is in
    on_ok_weaker c.do_block.result (λ light. omega (arith, light, ap stat_weight is)) c.do_block.ensures.light

pub returns-in-While-clause-work : goal.returns-in-While-clause-work
returns-in-While-clause-work c =
    let s = c.args.s.now in
    let is : view_stat s ≡ plain.the_stat s.span (plain.While (view_expr c.in-While.cond) (view_block c.in-While.body)) =
    while_stat s c.in-While.cond c.in-While.body c.in-While.is in
    on_ok_weaker c.while_loop.result (λ made rules work read. made rules s.span work is) c.while_loop.ensures.work

pub returns-in-While-clause-light : goal.returns-in-While-clause-light
returns-in-While-clause-light c =
    let s = c.args.s.now in
    let is : view_stat s ≡ plain.the_stat s.span (plain.While (view_expr c.in-While.cond) (view_block c.in-While.body)) =
    while_stat s c.in-While.cond c.in-While.body c.in-While.is in
    on_ok_weaker c.while_loop.result (λ light. omega (arith, light, ap stat_weight is)) c.while_loop.ensures.light

pub returns-in-Repeat-clause-work : goal.returns-in-Repeat-clause-work
returns-in-Repeat-clause-work c =
    let s = c.args.s.now in
    let is : view_stat s ≡ plain.the_stat s.span (plain.Repeat (view_block c.in-Repeat.body) (view_expr c.in-Repeat.cond)) =
    repeat_stat s c.in-Repeat.body c.in-Repeat.cond c.in-Repeat.is in
    on_ok_weaker c.repeat_loop.result (λ made rules work read. made rules s.span work is) c.repeat_loop.ensures.work

pub returns-in-Repeat-clause-light : goal.returns-in-Repeat-clause-light
returns-in-Repeat-clause-light c =
    let s = c.args.s.now in
    let is : view_stat s ≡ plain.the_stat s.span (plain.Repeat (view_block c.in-Repeat.body) (view_expr c.in-Repeat.cond)) =
    repeat_stat s c.in-Repeat.body c.in-Repeat.cond c.in-Repeat.is in
    on_ok_weaker c.repeat_loop.result (λ light. omega (arith, light, ap stat_weight is)) c.repeat_loop.ensures.light

pub returns-in-If-clause-work : goal.returns-in-If-clause-work
returns-in-If-clause-work c =
    let s = c.args.s.now in
    let is : view_stat s ≡ plain.the_stat s.span (plain.If (view_arms c.as_slice-in-If.result.now) (view_maybe_block c.in-If.last)) =
    if_stat s c.in-If.arms c.in-If.last c.in-If.is
    ∙ ap (λ (z : List code.Arm.Arm). plain.the_stat s.span (plain.If (view_arms z) (view_maybe_block c.in-If.last))) (sym c.as_slice-in-If.ensures) in
    on_ok_weaker c.if_stat.result (λ made rules work read. made rules s.span work ∙ ap (λ (y : plain.Stat). run rules c.args.tasks.now.items (with_stat rules y work)) (sym is)) c.if_stat.ensures.work

pub returns-in-If-clause-light : goal.returns-in-If-clause-light
returns-in-If-clause-light c =
    let s = c.args.s.now in
    let is : view_stat s ≡ plain.the_stat s.span (plain.If (view_arms c.as_slice-in-If.result.now) (view_maybe_block c.in-If.last)) =
    if_stat s c.in-If.arms c.in-If.last c.in-If.is
    ∙ ap (λ (z : List code.Arm.Arm). plain.the_stat s.span (plain.If (view_arms z) (view_maybe_block c.in-If.last))) (sym c.as_slice-in-If.ensures) in
    on_ok_weaker c.if_stat.result (λ light. omega (arith, light, ap stat_weight is)) c.if_stat.ensures.light

pub returns-in-NumFor-clause-work : goal.returns-in-NumFor-clause-work
returns-in-NumFor-clause-work c =
    let s = c.args.s.now in
    let is : view_stat s ≡ plain.the_stat s.span (plain.NumFor (view_bind c.in-NumFor.bind) (view_expr c.in-NumFor.from) (view_expr c.in-NumFor.to) (view_maybe_expr c.in-NumFor.step) (view_block c.in-NumFor.body)) =
    num_for_stat s c.in-NumFor.bind c.in-NumFor.from c.in-NumFor.to c.in-NumFor.step c.in-NumFor.body c.in-NumFor.is in
    on_ok_weaker c.numeric_loop.result (λ made rules work read. made rules s.span work is) c.numeric_loop.ensures.work

pub returns-in-NumFor-clause-light : goal.returns-in-NumFor-clause-light
returns-in-NumFor-clause-light c =
    let s = c.args.s.now in
    let is : view_stat s ≡ plain.the_stat s.span (plain.NumFor (view_bind c.in-NumFor.bind) (view_expr c.in-NumFor.from) (view_expr c.in-NumFor.to) (view_maybe_expr c.in-NumFor.step) (view_block c.in-NumFor.body)) =
    num_for_stat s c.in-NumFor.bind c.in-NumFor.from c.in-NumFor.to c.in-NumFor.step c.in-NumFor.body c.in-NumFor.is in
    on_ok_weaker c.numeric_loop.result (λ light. omega (arith, light, ap stat_weight is)) c.numeric_loop.ensures.light

pub returns-in-GenFor-clause-work : goal.returns-in-GenFor-clause-work
returns-in-GenFor-clause-work c =
    let s = c.args.s.now in
    let is : view_stat s ≡ plain.the_stat s.span (plain.GenFor (view_binds c.in-GenFor.binds) (view_exprs c.as_slice-in-GenFor.result.now) (view_block c.in-GenFor.body)) =
    gen_for_stat s c.in-GenFor.binds c.in-GenFor.values c.in-GenFor.body c.in-GenFor.is
    ∙ ap (λ (z : List code.Expr.Expr). plain.the_stat s.span (plain.GenFor (view_binds c.in-GenFor.binds) (view_exprs z) (view_block c.in-GenFor.body))) (sym c.as_slice-in-GenFor.ensures) in
    on_ok_weaker c.iteration.result (λ made rules work read. made rules s.span (view_binds c.in-GenFor.binds) work is) c.iteration.ensures.work

pub returns-in-GenFor-clause-light : goal.returns-in-GenFor-clause-light
returns-in-GenFor-clause-light c =
    let s = c.args.s.now in
    let is : view_stat s ≡ plain.the_stat s.span (plain.GenFor (view_binds c.in-GenFor.binds) (view_exprs c.as_slice-in-GenFor.result.now) (view_block c.in-GenFor.body)) =
    gen_for_stat s c.in-GenFor.binds c.in-GenFor.values c.in-GenFor.body c.in-GenFor.is
    ∙ ap (λ (z : List code.Expr.Expr). plain.the_stat s.span (plain.GenFor (view_binds c.in-GenFor.binds) (view_exprs z) (view_block c.in-GenFor.body))) (sym c.as_slice-in-GenFor.ensures) in
    on_ok_weaker c.iteration.result (λ light. omega (arith, light, ap stat_weight is)) c.iteration.ensures.light

pub returns-in-Function-clause-work : goal.returns-in-Function-clause-work
returns-in-Function-clause-work c =
    let s = c.args.s.now in
    let is : view_stat s ≡ plain.the_stat s.span (plain.FunctionStat (view_expr c.in-Function.path) c.in-Function.method (view_body c.in-Function.body)) =
    function_stat s c.in-Function.path c.in-Function.method c.in-Function.body c.in-Function.is in
    on_ok_weaker c.function_or_method.result (λ made rules work read. made rules s.span work (c.function_target-target.ensures ∙ function_target_by c.args.facts.now rules read (view_expr c.in-Function.path) c.in-Function.method) ∙ ap (λ (y : plain.Stat). run rules c.args.tasks.now.items (with_stat rules y work)) (sym is)) c.function_or_method.ensures.work

pub returns-in-Function-clause-light : goal.returns-in-Function-clause-light
returns-in-Function-clause-light c =
    let s = c.args.s.now in
    let is : view_stat s ≡ plain.the_stat s.span (plain.FunctionStat (view_expr c.in-Function.path) c.in-Function.method (view_body c.in-Function.body)) =
    function_stat s c.in-Function.path c.in-Function.method c.in-Function.body c.in-Function.is in
    on_ok_weaker c.function_or_method.result (λ light. omega (arith, light, ap stat_weight is)) c.function_or_method.ensures.light

pub returns-in-LocalFunction-clause-work : goal.returns-in-LocalFunction-clause-work
returns-in-LocalFunction-clause-work c =
    let s = c.args.s.now in
    let is : view_stat s ≡ plain.the_stat s.span (plain.LocalFunction (view_bind c.in-LocalFunction.name) (view_body c.in-LocalFunction.body)) =
    local_function_stat s c.in-LocalFunction.name c.in-LocalFunction.body c.in-LocalFunction.is in
    on_ok_weaker c.local_function.result (λ made rules work read. made rules s.span work ∙ ap (λ (y : plain.Stat). run rules c.args.tasks.now.items (with_stat rules y work)) (sym is)) c.local_function.ensures.work

pub returns-in-LocalFunction-clause-light : goal.returns-in-LocalFunction-clause-light
returns-in-LocalFunction-clause-light c =
    let s = c.args.s.now in
    let is : view_stat s ≡ plain.the_stat s.span (plain.LocalFunction (view_bind c.in-LocalFunction.name) (view_body c.in-LocalFunction.body)) =
    local_function_stat s c.in-LocalFunction.name c.in-LocalFunction.body c.in-LocalFunction.is in
    on_ok_weaker c.local_function.result (λ light. omega (arith, light, ap stat_weight is)) c.local_function.ensures.light

pub returns-in-Local-clause-work : goal.returns-in-Local-clause-work
returns-in-Local-clause-work c =
    let s = c.args.s.now in
    let is : view_stat s ≡ plain.the_stat s.span (plain.Local (view_binds c.as_slice-in-Local.result.now) (view_exprs c.as_slice-in-Local-2.result.now)) =
    local_stat s c.in-Local.binds c.in-Local.values c.in-Local.is
    ∙ ap (λ (z : List code.Bind.Bind). plain.the_stat s.span (plain.Local (view_binds z) (view_exprs c.in-Local.values))) (sym c.as_slice-in-Local.ensures)
    ∙ ap (λ (z : List code.Expr.Expr). plain.the_stat s.span (plain.Local (view_binds c.as_slice-in-Local.result.now) (view_exprs z))) (sym c.as_slice-in-Local-2.ensures) in
    on_ok_weaker c.local_stat.result (λ made rules work read. made rules s.span work ∙ ap (λ (y : plain.Stat). run rules c.args.tasks.now.items (with_stat rules y work)) (sym is)) c.local_stat.ensures.work

pub returns-in-Local-clause-light : goal.returns-in-Local-clause-light
returns-in-Local-clause-light c =
    let s = c.args.s.now in
    let is : view_stat s ≡ plain.the_stat s.span (plain.Local (view_binds c.as_slice-in-Local.result.now) (view_exprs c.as_slice-in-Local-2.result.now)) =
    local_stat s c.in-Local.binds c.in-Local.values c.in-Local.is
    ∙ ap (λ (z : List code.Bind.Bind). plain.the_stat s.span (plain.Local (view_binds z) (view_exprs c.in-Local.values))) (sym c.as_slice-in-Local.ensures)
    ∙ ap (λ (z : List code.Expr.Expr). plain.the_stat s.span (plain.Local (view_binds c.as_slice-in-Local.result.now) (view_exprs z))) (sym c.as_slice-in-Local-2.ensures) in
    on_ok_weaker c.local_stat.result (λ light. omega (arith, light, ap stat_weight is)) c.local_stat.ensures.light

pub returns-in-Return-clause-work : goal.returns-in-Return-clause-work
returns-in-Return-clause-work c =
    let s = c.args.s.now in
    let is : view_stat s ≡ plain.the_stat s.span (plain.Return (view_exprs c.as_slice-in-Return.result.now)) =
    return_stat s c.in-Return.values c.in-Return.is
    ∙ ap (λ (z : List code.Expr.Expr). plain.the_stat s.span (plain.Return (view_exprs z))) (sym c.as_slice-in-Return.ensures) in
    on_ok_weaker c.return_stat.result (λ made rules work read. made rules s.span work ∙ ap (λ (y : plain.Stat). run rules c.args.tasks.now.items (with_stat rules y work)) (sym is)) c.return_stat.ensures.work

pub returns-in-Return-clause-light : goal.returns-in-Return-clause-light
returns-in-Return-clause-light c =
    let s = c.args.s.now in
    let is : view_stat s ≡ plain.the_stat s.span (plain.Return (view_exprs c.as_slice-in-Return.result.now)) =
    return_stat s c.in-Return.values c.in-Return.is
    ∙ ap (λ (z : List code.Expr.Expr). plain.the_stat s.span (plain.Return (view_exprs z))) (sym c.as_slice-in-Return.ensures) in
    on_ok_weaker c.return_stat.result (λ light. omega (arith, light, ap stat_weight is)) c.return_stat.ensures.light

pub returns-in-Break-clause-work : goal.returns-in-Break-clause-work
returns-in-Break-clause-work c =
    let s = c.args.s.now in
    let is : view_stat s ≡ plain.the_stat s.span (plain.Break) =
    break_stat s c.in-Break.is in
    on_ok_weaker c.leaving.result (λ made rules work read. made rules s.span work ∙ ap (λ (y : plain.Stat). run rules c.args.tasks.now.items (with_stat rules y work)) (sym is)) c.leaving.ensures.breaks

pub returns-in-Break-clause-light : goal.returns-in-Break-clause-light
returns-in-Break-clause-light c =
    let s = c.args.s.now in
    let is : view_stat s ≡ plain.the_stat s.span (plain.Break) =
    break_stat s c.in-Break.is in
    on_ok_weaker c.leaving.result (λ light. omega (arith, light, ap stat_weight is)) c.leaving.ensures.light

pub returns-in-Continue-clause-work : goal.returns-in-Continue-clause-work
returns-in-Continue-clause-work c =
    let s = c.args.s.now in
    let is : view_stat s ≡ plain.the_stat s.span (plain.Continue) =
    continue_stat s c.in-Continue.is in
    on_ok_weaker c.leaving-in-Continue.result (λ made rules work read. made rules s.span work ∙ ap (λ (y : plain.Stat). run rules c.args.tasks.now.items (with_stat rules y work)) (sym is)) c.leaving-in-Continue.ensures.continues

pub returns-in-Continue-clause-light : goal.returns-in-Continue-clause-light
returns-in-Continue-clause-light c =
    let s = c.args.s.now in
    let is : view_stat s ≡ plain.the_stat s.span (plain.Continue) =
    continue_stat s c.in-Continue.is in
    on_ok_weaker c.leaving-in-Continue.result (λ light. omega (arith, light, ap stat_weight is)) c.leaving-in-Continue.ensures.light

pub returns-in-TypeAlias-clause-work : goal.returns-in-TypeAlias-clause-work
returns-in-TypeAlias-clause-work c =
    let s = c.args.s.now in
    let is : view_stat s ≡ plain.the_stat s.span (plain.TypeAlias c.in-TypeAlias.exported c.in-TypeAlias.name (view_gens c.in-TypeAlias.generics) (view_type c.in-TypeAlias.typ)) =
    type_alias_stat s c.in-TypeAlias.exported c.in-TypeAlias.name c.in-TypeAlias.generics c.in-TypeAlias.typ c.in-TypeAlias.is in
    on_ok_weaker c.type_stat.result (λ made rules work read. made rules s.span c.in-TypeAlias.exported c.in-TypeAlias.name (view_gens c.in-TypeAlias.generics) (view_type c.in-TypeAlias.typ) work ∙ ap (λ (y : plain.Stat). run rules c.args.tasks.now.items (with_stat rules y work)) (sym is)) c.type_stat.ensures.alias

pub returns-in-TypeAlias-clause-light : goal.returns-in-TypeAlias-clause-light
returns-in-TypeAlias-clause-light c =
    let s = c.args.s.now in
    let is : view_stat s ≡ plain.the_stat s.span (plain.TypeAlias c.in-TypeAlias.exported c.in-TypeAlias.name (view_gens c.in-TypeAlias.generics) (view_type c.in-TypeAlias.typ)) =
    type_alias_stat s c.in-TypeAlias.exported c.in-TypeAlias.name c.in-TypeAlias.generics c.in-TypeAlias.typ c.in-TypeAlias.is in
    on_ok_weaker c.type_stat.result (λ light. omega (arith, light, ap stat_weight is)) c.type_stat.ensures.light

pub returns-in-TypeFunction-clause-work : goal.returns-in-TypeFunction-clause-work
returns-in-TypeFunction-clause-work c =
    let s = c.args.s.now in
    let is : view_stat s ≡ plain.the_stat s.span (plain.TypeFunction c.in-TypeFunction.exported c.in-TypeFunction.name (view_body c.in-TypeFunction.body)) =
    type_function_stat s c.in-TypeFunction.exported c.in-TypeFunction.name c.in-TypeFunction.body c.in-TypeFunction.is in
    on_ok_weaker c.type_stat-in-TypeFunction.result (λ made rules work read. made rules s.span c.in-TypeFunction.exported c.in-TypeFunction.name (view_body c.in-TypeFunction.body) work ∙ ap (λ (y : plain.Stat). run rules c.args.tasks.now.items (with_stat rules y work)) (sym is)) c.type_stat-in-TypeFunction.ensures.function

pub returns-in-TypeFunction-clause-light : goal.returns-in-TypeFunction-clause-light
returns-in-TypeFunction-clause-light c =
    let s = c.args.s.now in
    let is : view_stat s ≡ plain.the_stat s.span (plain.TypeFunction c.in-TypeFunction.exported c.in-TypeFunction.name (view_body c.in-TypeFunction.body)) =
    type_function_stat s c.in-TypeFunction.exported c.in-TypeFunction.name c.in-TypeFunction.body c.in-TypeFunction.is in
    on_ok_weaker c.type_stat-in-TypeFunction.result (λ light. omega (arith, light, ap stat_weight is)) c.type_stat-in-TypeFunction.ensures.light
