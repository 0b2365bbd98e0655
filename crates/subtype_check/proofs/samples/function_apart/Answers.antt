use Rattle.std.proofs.Common.{◌≡◌, subst}
use Rattle.std.specs.Prelude.{IfOk, Option}
use Rattle.type_arena.specs.declared.node.FnName.{FnName}
use Rattle.subtype_check.proofs.ApartFacts.{only_from_only, only_from_all_but, all_but_from_all_but}
use Rattle.subtype_check.proofs.samples.function_apart.Goals as goal

pub returns-in-Only-Only : goal.returns-in-Only-Only
returns-in-Only-Only c =
    subst (λ (x : Option FnName). IfOk c.first_name.result (λ name. name ≡ x))
    (only_from_only c.args.a.now c.args.b.now c.in-Only-Only.xs c.in-Only-Only.ys c.as_slice.result.now c.as_slice-in-Only-Only.result.now c.in-Only-Only.is-0 c.in-Only-Only.is-1 c.as_slice.ensures c.as_slice-in-Only-Only.ensures)
    c.first_name.ensures

pub returns-in-Only-AllBut : goal.returns-in-Only-AllBut
returns-in-Only-AllBut c =
    subst (λ (x : Option FnName). IfOk c.first_name-in-Only-AllBut.result (λ name. name ≡ x))
    (only_from_all_but c.args.a.now c.args.b.now c.in-Only-AllBut.xs c.in-Only-AllBut.ys c.as_slice-in-Only-AllBut.result.now c.as_slice-in-Only-AllBut-2.result.now c.in-Only-AllBut.is-0 c.in-Only-AllBut.is-1 c.as_slice-in-Only-AllBut.ensures c.as_slice-in-Only-AllBut-2.ensures)
    c.first_name-in-Only-AllBut.ensures

pub returns-in-AllBut-AllBut : goal.returns-in-AllBut-AllBut
returns-in-AllBut-AllBut c =
    subst (λ (x : Option FnName). IfOk c.first_name-in-AllBut-AllBut.result (λ name. name ≡ x))
    (all_but_from_all_but c.args.a.now c.args.b.now c.in-AllBut-AllBut.xs c.in-AllBut-AllBut.ys c.as_slice-in-AllBut-AllBut-2.result.now c.as_slice-in-AllBut-AllBut.result.now c.in-AllBut-AllBut.is-0 c.in-AllBut-AllBut.is-1 c.as_slice-in-AllBut-AllBut-2.ensures c.as_slice-in-AllBut-AllBut.ensures)
    c.first_name-in-AllBut-AllBut.ensures
