-- The plain lists of parts, by the plain trees of the parts.
use Rattle.std.proofs.Common.{◌≡◌, List, [], ◌∷◌, map, refl, ap}
use Rattle.luau_tree.specs.declared.tree as code
use Rattle.luau_tree.specs.Tree as plain
use Rattle.luau_tree.specs.View as view
use Rattle.luau_tree.specs.View.{view_arm, view_arms, view_bind, view_binds, view_block, view_choice, view_choices, view_expr, view_exprs, view_gen, view_gens, view_item, view_items, view_prop, view_props, view_stat, view_stats, view_type, view_types}

pub exprs_seen : (xs : List code.Expr.Expr) → view.exprs (map view_expr xs) ≡ view_exprs xs
exprs_seen [] = refl
exprs_seen (x ∷ xs) = ap (plain.more_exprs (view_expr x)) (exprs_seen xs)

pub items_seen : (xs : List code.Item.Item) → view.items (map view_item xs) ≡ view_items xs
items_seen [] = refl
items_seen (x ∷ xs) = ap (plain.more_items (view_item x)) (items_seen xs)

pub binds_seen : (xs : List code.Bind.Bind) → view.binds (map view_bind xs) ≡ view_binds xs
binds_seen [] = refl
binds_seen (x ∷ xs) = ap (plain.more_binds (view_bind x)) (binds_seen xs)

pub gens_seen : (xs : List code.Gen.Gen) → view.gens (map view_gen xs) ≡ view_gens xs
gens_seen [] = refl
gens_seen (x ∷ xs) = ap (plain.more_gens (view_gen x)) (gens_seen xs)

pub types_seen : (xs : List code.TypeSyntax.TypeSyntax) → view.types (map view_type xs) ≡ view_types xs
types_seen [] = refl
types_seen (x ∷ xs) = ap (plain.more_types (view_type x)) (types_seen xs)

pub props_seen : (xs : List code.Prop.Prop) → view.props (map view_prop xs) ≡ view_props xs
props_seen [] = refl
props_seen (x ∷ xs) = ap (plain.more_props (view_prop x)) (props_seen xs)

pub choices_seen : (xs : List code.Choice.Choice) → view.choices (map view_choice xs) ≡ view_choices xs
choices_seen [] = refl
choices_seen (x ∷ xs) = ap (plain.more_choices (view_choice x).0 (view_choice x).1) (choices_seen xs)

pub arms_seen : (xs : List code.Arm.Arm) → view.arms (map view_arm xs) ≡ view_arms xs
arms_seen [] = refl
arms_seen (x ∷ xs) = ap (plain.more_arms (view_arm x).0 (view_arm x).1) (arms_seen xs)

pub stats_seen : (xs : List code.Stat.Stat) → view.stats (map view_stat xs) ≡ view_stats xs
stats_seen [] = refl
stats_seen (x ∷ xs) = ap (plain.more_stats (view_stat x)) (stats_seen xs)
