use Rattle.std.proofs.Common.{ℕ, List, ap, ◌∙◌}
use Rattle.std.proofs.lemmas.Result.{on_ok_weaker}
use Rattle.std.specs.Prelude.{Some, None}
use Rattle.luau_tree.specs.View.{view_expr}
use Rattle.rule_work.specs.Moves.{valued}
use Rattle.rule_state.specs.Work.{work_of}
use Rattle.type_infer.proofs.Reading.{name_is, local_is}
use Rattle.luau_run.specs.ReadModule.{UseLocal, UseBuiltin, UseLibrary, UseGlobal}
use Rattle.type_normal.specs.Kinds.{named_type}
use Rattle.type_arena.specs.Term.{builtin}
use Rattle.type_infer.proofs.names.name.Goals as goal

pub returns-in-Some-Local : goal.returns-in-Some-Local
returns-in-Some-Local c =
    let m = rw c.in-Some-Local.field-0-is at c.in-Some-Local.ensures in
    on_ok_weaker c.local.result (λ made rules read. made ∙ local_is c.args.facts.now rules read c.in-Some-Local.local.0 c.loose.result (work_of c.args.state.now) c.loose.ensures ∙ name_is c.args.facts.now rules read (view_expr c.args.e.now) (Some (UseLocal c.in-Some-Local.local.0)) (work_of c.args.state.now) m) c.local.ensures

pub returns-in_ok-label-in-Some-Builtin : goal.returns-in_ok-label-in-Some-Builtin
returns-in_ok-label-in-Some-Builtin c =
    let m = rw c.in-Some-Builtin.field-0-is at c.in-Some-Builtin.ensures in
    on_ok_weaker c.builtin.result (λ made rules read. made ∙ ap (λ (path : List ℕ). valued (named_type (builtin path)) (work_of c.args.state.now)) c.in_ok-label-in-Some-Builtin.ensures ∙ name_is c.args.facts.now rules read (view_expr c.args.e.now) (Some (UseBuiltin c.in-Some-Builtin.path)) (work_of c.args.state.now) m) c.builtin.ensures

pub returns-in-Some-Library : goal.returns-in-Some-Library
returns-in-Some-Library c =
    let m = rw c.in-Some-Library.field-0-is at c.in-Some-Library.ensures in
    on_ok_weaker c.plain.result (λ made rules read. made ∙ name_is c.args.facts.now rules read (view_expr c.args.e.now) (Some UseLibrary) (work_of c.args.state.now) m) c.plain.ensures

pub returns-in-Some-Global : goal.returns-in-Some-Global
returns-in-Some-Global c =
    let m = rw c.in-Some-Global.field-0-is at c.in-Some-Global.ensures in
    on_ok_weaker c.plain-in-Some-Global.result (λ made rules read. made ∙ name_is c.args.facts.now rules read (view_expr c.args.e.now) (Some UseGlobal) (work_of c.args.state.now) m) c.plain-in-Some-Global.ensures

pub returns-in-None : goal.returns-in-None
returns-in-None c = on_ok_weaker c.plain-in-None.result (λ made rules read. made ∙ name_is c.args.facts.now rules read (view_expr c.args.e.now) None (work_of c.args.state.now) c.in-None.ensures) c.plain-in-None.ensures
