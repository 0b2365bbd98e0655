-- What the plain tree of each part is, by what is read in it.
use Rattle.std.proofs.Common.{◌≡◌, sym, ap, ◌∙◌}
use Rattle.luau_tree.specs.declared.tree as code
use Rattle.luau_tree.specs.declared.tree.ExprKind.TheViews as part
use Rattle.luau_tree.specs.Tree as plain
use Rattle.luau_tree.specs.View.{view_arm, view_bind, view_binds, view_block, view_body, view_choice, view_expr, view_expr_kind, view_gen, view_gens, view_maybe_type, view_prop, view_prop_key, view_stat, view_stat_kind, view_stats, view_type, view_type_kind, view_varargs}
use Rattle.luau_tree.proofs.Views.{arm_seen, bind_seen, block_seen, body_seen, choice_seen, expr_seen, gen_seen, prop_seen, stat_seen, type_seen}

pub expr_layer : (x : code.Expr.Expr) → view_expr x ≡ plain.the_expr x.id.0 x.span (view_expr_kind x.kind)
expr_layer x = ap view_expr (sym (part.roll-out-Expr x)) ∙ expr_seen _ _ _

pub stat_layer : (x : code.Stat.Stat) → view_stat x ≡ plain.the_stat x.span (view_stat_kind x.kind)
stat_layer x = ap view_stat (sym (part.roll-out-Stat x)) ∙ stat_seen _ _

pub type_layer : (x : code.TypeSyntax.TypeSyntax) → view_type x ≡ plain.the_type x.span (view_type_kind x.kind)
type_layer x = ap view_type (sym (part.roll-out-TypeSyntax x)) ∙ type_seen _ _

pub block_layer : (x : code.Block.Block) → view_block x ≡ view_stats (code.Block.out-Block x).stats
block_layer x = ap view_block (sym (part.roll-out-Block x)) ∙ block_seen _

pub arm_layer : (x : code.Arm.Arm) → view_arm x ≡ (view_expr (code.Arm.out-Arm x).cond, view_block (code.Arm.out-Arm x).block)
arm_layer x = ap view_arm (sym (part.roll-out-Arm x)) ∙ arm_seen _ _

pub choice_layer : (x : code.Choice.Choice) → view_choice x ≡ (view_expr x.cond, view_expr x.value)
choice_layer x = ap view_choice (sym (part.roll-out-Choice x)) ∙ choice_seen _ _

pub bind_layer : (x : code.Bind.Bind) → view_bind x ≡ plain.the_bind (code.Bind.out-Bind x).name (code.Bind.out-Bind x).span (view_maybe_type (code.Bind.out-Bind x).typ)
bind_layer x = ap view_bind (sym (part.roll-out-Bind x)) ∙ bind_seen _ _ _

pub gen_layer : (x : code.Gen.Gen) → view_gen x ≡ plain.the_gen (code.Gen.out-Gen x).name (code.Gen.out-Gen x).span (code.Gen.out-Gen x).pack (view_maybe_type (code.Gen.out-Gen x).default)
gen_layer x = ap view_gen (sym (part.roll-out-Gen x)) ∙ gen_seen _ _ _ _

pub prop_layer : (x : code.Prop.Prop) → view_prop x ≡ plain.the_prop x.access (view_prop_key x.key) (view_type x.typ)
prop_layer x = ap view_prop (sym (part.roll-out-Prop x)) ∙ prop_seen _ _ _

pub body_layer : (x : code.Body.Body) → view_body x ≡ plain.the_body (code.Body.out-Body x).id.0 (code.Body.out-Body x).has_self (view_gens (code.Body.out-Body x).generics) (view_binds (code.Body.out-Body x).params) (view_varargs (code.Body.out-Body x).vararg) (view_maybe_type (code.Body.out-Body x).result) (view_block (code.Body.out-Body x).block) (code.Body.out-Body x).span
body_layer x = ap view_body (sym (part.roll-out-Body x)) ∙ body_seen _ _ _ _ _ _ _ _
