use Rattle.std.proofs.Common.{List, sym, ap, ◌∙◌}
use Rattle.luau_tree.specs.declared.tree as code
use Rattle.luau_tree.specs.View.{view_expr, view_gens, view_props, view_type, view_types}
use Rattle.luau_scope.specs.Steps.{after_expr, after_gens, after_props, after_type, after_types, run}
use Rattle.luau_scope.proofs.Pushes.{before, pushed}
use Rattle.luau_scope.proofs.VisitTypes.{func_visit, generic_pack_visit, item_visit, leaf_visit, named_visit, several_visit, table_visit, typeof_visit}
use Rattle.luau_scope.proofs.walker.Walker.written.Goals as goal

pub returns-in-Named : goal.returns-in-Named
returns-in-Named c =
    pushed c.push.result _ _ _ _ _ _ c.push.ensures.ok (ap (λ (xs : List code.TypeSyntax.TypeSyntax). run c.args.tasks.now (after_types c.args.within (view_types xs) c.args.self.now)) c.as_slice.ensures
    ∙ ap (run c.args.tasks.now) (sym (named_visit c.args.within c.args.typ.now c.in-Named.prefix c.in-Named.name c.in-Named.args c.args.self.now c.in-Named.is)))

pub returns-in-Typeof : goal.returns-in-Typeof
returns-in-Typeof c =
    pushed c.push-in-Typeof.result _ _ _ _ _ _ c.push-in-Typeof.ensures.ok (ap (λ (xs : code.Expr.Expr). run c.args.tasks.now (after_expr c.args.within (view_expr xs) c.args.self.now)) c.get.ensures
    ∙ ap (run c.args.tasks.now) (sym (typeof_visit c.args.within c.args.typ.now c.in-Typeof.e c.args.self.now c.in-Typeof.is)))

pub returns-in-Table : goal.returns-in-Table
returns-in-Table c =
    pushed c.push-in-Table.result _ _ _ _ _ _ c.push-in-Table.ensures.ok (ap (λ (xs : List code.Prop.Prop). run c.args.tasks.now (after_props c.args.within (view_props xs) c.args.self.now)) c.as_slice-in-Table.ensures
    ∙ ap (run c.args.tasks.now) (sym (table_visit c.args.within c.args.typ.now c.in-Table.props c.args.self.now c.in-Table.is)))

pub returns-in_ok-push-in-Func-2 : goal.returns-in_ok-push-in-Func-2
returns-in_ok-push-in-Func-2 c =
    pushed c.push-in-Func-3.result _ _ _ _ _ _ c.push-in-Func-3.ensures.ok (before _ _ _ _ c.in_ok-push-in-Func-2.ensures.ok
    ∙ before _ _ _ _ c.in_ok-push-in-Func.ensures.ok
    ∙ ap (λ (xs : code.TypeSyntax.TypeSyntax). run c.args.tasks.now (after_type c.args.within (view_type xs) (after_types c.args.within (view_types c.as_slice-in-Func.result.now) (after_gens c.args.within (view_gens c.as_slice-in-Func-2.result.now) c.args.self.now)))) c.get-in-Func.ensures
    ∙ ap (λ (xs : List code.TypeSyntax.TypeSyntax). run c.args.tasks.now (after_type c.args.within (view_type c.in-Func.given) (after_types c.args.within (view_types xs) (after_gens c.args.within (view_gens c.as_slice-in-Func-2.result.now) c.args.self.now)))) c.as_slice-in-Func.ensures
    ∙ ap (λ (xs : List code.Gen.Gen). run c.args.tasks.now (after_type c.args.within (view_type c.in-Func.given) (after_types c.args.within (view_types c.in-Func.params) (after_gens c.args.within (view_gens xs) c.args.self.now)))) c.as_slice-in-Func-2.ensures
    ∙ ap (run c.args.tasks.now) (sym (func_visit c.args.within c.args.typ.now c.in-Func.generics c.in-Func.params c.in-Func.given c.args.self.now c.in-Func.is)))

pub returns-in-GenericPack : goal.returns-in-GenericPack
returns-in-GenericPack c = ap (run c.args.tasks.now) (c.refuse_if.ensures ∙ sym (generic_pack_visit c.args.within c.args.typ.now c.in-GenericPack.field-0 c.args.self.now c.in-GenericPack.is))

pub returns-in-Nil : goal.returns-in-Nil
returns-in-Nil c = ap (run c.args.tasks.now) (sym (leaf_visit c.args.within c.args.typ.now c.args.self.now c.in-Nil.is))

pub returns-in-Nil-2 : goal.returns-in-Nil-2
returns-in-Nil-2 c = ap (run c.args.tasks.now) (sym (leaf_visit c.args.within c.args.typ.now c.args.self.now c.in-Nil.is))

pub returns-in-Nil-3 : goal.returns-in-Nil-3
returns-in-Nil-3 c = ap (run c.args.tasks.now) (sym (leaf_visit c.args.within c.args.typ.now c.args.self.now c.in-Nil.is))

pub returns-in-Union : goal.returns-in-Union
returns-in-Union c =
    pushed c.push-in-Union.result _ _ _ _ _ _ c.push-in-Union.ensures.ok (ap (λ (xs : List code.TypeSyntax.TypeSyntax). run c.args.tasks.now (after_types c.args.within (view_types xs) c.args.self.now)) c.as_slice-in-Union.ensures
    ∙ ap (run c.args.tasks.now) (sym (several_visit c.args.within c.args.typ.now c.in-Union.types c.args.self.now c.in-Union.is)))

pub returns-in-Array : goal.returns-in-Array
returns-in-Array c =
    pushed c.push-in-Array.result _ _ _ _ _ _ c.push-in-Array.ensures.ok (ap (λ (xs : code.TypeSyntax.TypeSyntax). run c.args.tasks.now (after_type c.args.within (view_type xs) c.args.self.now)) c.get-in-Array.ensures
    ∙ ap (run c.args.tasks.now) (sym (item_visit c.args.within c.args.typ.now c.in-Array.item c.args.self.now c.in-Array.is)))
