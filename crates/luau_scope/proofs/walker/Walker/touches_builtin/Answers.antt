use Rattle.std.proofs.Common.{sym, ap, ◌∙◌}
use Rattle.luau_tree.specs.declared.tree as code
use Rattle.luau_tree.specs.View.{view_expr}
use Rattle.luau_scope.specs.Finds.{kind_of, names_builtin, touches_builtin}
use Rattle.luau_scope.specs.Steps.{around_in}
use Rattle.luau_scope.proofs.Aims.{if_same}
use Rattle.luau_scope.proofs.NameForms.{index_seen, unindexed}
use Rattle.luau_scope.proofs.walker.Walker.touches_builtin.Goals as goal

pub returns-in-Index : goal.returns-in-Index
returns-in-Index c =
    let a = around_in c.args.self.now c.args.within in
    if_same c.names_builtin.result _ _ c.names_builtin.ensures
    (ap (λ (x : code.Expr.Expr). names_builtin a (kind_of (view_expr x))) c.get.ensures ∙ sym (ap (touches_builtin a) (index_seen c.args.e.now c.in-Index.base c.in-Index.name c.in-Index.is)))

pub returns-in_default : goal.returns-in_default
returns-in_default c = if_same c.names_builtin-in_default.result _ _ c.names_builtin-in_default.ensures (sym (unindexed (around_in c.args.self.now c.args.within) c.args.e.now c.in_default.not-Index))
