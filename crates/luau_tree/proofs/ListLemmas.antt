-- The plain list of some parts has the plain tree of each, in order.
use Rattle.std.proofs.Common.{◌≡◌, List, [], ◌∷◌, map, refl, ap}
use Rattle.luau_tree.specs.declared.tree as code
use Rattle.luau_tree.specs.Lists.{arm_list, bind_list, choice_list, expr_list, gen_list, item_list, prop_list, stat_list, type_list}
use Rattle.luau_tree.specs.View.{view_arm, view_arms, view_bind, view_binds, view_choice, view_choices, view_expr, view_exprs, view_gen, view_gens, view_item, view_items, view_prop, view_props, view_stat, view_stats, view_type, view_types}

pub each_stat : (xs : List code.Stat.Stat) → stat_list (view_stats xs) ≡ map view_stat xs
each_stat [] = refl
each_stat (x ∷ xs) = ap (λ rest. view_stat x ∷ rest) (each_stat xs)

pub each_expr : (xs : List code.Expr.Expr) → expr_list (view_exprs xs) ≡ map view_expr xs
each_expr [] = refl
each_expr (x ∷ xs) = ap (λ rest. view_expr x ∷ rest) (each_expr xs)

pub each_item : (xs : List code.Item.Item) → item_list (view_items xs) ≡ map view_item xs
each_item [] = refl
each_item (x ∷ xs) = ap (λ rest. view_item x ∷ rest) (each_item xs)

pub each_bind : (xs : List code.Bind.Bind) → bind_list (view_binds xs) ≡ map view_bind xs
each_bind [] = refl
each_bind (x ∷ xs) = ap (λ rest. view_bind x ∷ rest) (each_bind xs)

pub each_gen : (xs : List code.Gen.Gen) → gen_list (view_gens xs) ≡ map view_gen xs
each_gen [] = refl
each_gen (x ∷ xs) = ap (λ rest. view_gen x ∷ rest) (each_gen xs)

pub each_type : (xs : List code.TypeSyntax.TypeSyntax) → type_list (view_types xs) ≡ map view_type xs
each_type [] = refl
each_type (x ∷ xs) = ap (λ rest. view_type x ∷ rest) (each_type xs)

pub each_prop : (xs : List code.Prop.Prop) → prop_list (view_props xs) ≡ map view_prop xs
each_prop [] = refl
each_prop (x ∷ xs) = ap (λ rest. view_prop x ∷ rest) (each_prop xs)

pub each_arm : (xs : List code.Arm.Arm) → arm_list (view_arms xs) ≡ map view_arm xs
each_arm [] = refl
each_arm (x ∷ xs) = ap (λ rest. view_arm x ∷ rest) (each_arm xs)

pub each_choice : (xs : List code.Choice.Choice) → choice_list (view_choices xs) ≡ map view_choice xs
each_choice [] = refl
each_choice (x ∷ xs) = ap (λ rest. view_choice x ∷ rest) (each_choice xs)
