-- The plain lists of parts: that of all is that of each, in order.
use Rattle.std.proofs.Common.{◌≡◌, List, [], ◌∷◌, map, refl, sym, ap, ◌∙◌}
use Rattle.luau_tree.specs.declared.tree as code
use Rattle.luau_tree.specs.Tree as plain
use Rattle.luau_tree.specs.View as view
use Rattle.luau_tree.proofs.Views.{exprs_seen, stats_seen, types_seen, props_seen, gens_seen, binds_seen, items_seen, arms_seen, choices_seen}
use Rattle.tree_numbers.specs.declared.numbers.Numbers.{Numbers}
use Rattle.tree_numbers.specs.Counting.{Counting}
use Rattle.tree_numbers.specs.Numbered.{of_block, of_stat, of_expr, of_exprs, of_type, of_types, of_prop, of_props, of_gen, of_gens, of_bind, of_binds, of_item, of_items, of_arms, of_choices}
use Rattle.tree_numbers.specs.Outcomes.{of_arm, of_choice}
use Rattle.tree_numbers.proofs.Turns.{each}

-- the plain list of some parts
abbrev packed : {B L : Type 0} → (List B → L) → List B × Numbers → L × Numbers
packed pack p = (pack p.0, p.1)

all_done : {A B L : Type 0} (see : A → B) (count : B → Counting B) (pack : List B → L) (seen : List A → L) (whole : L → Counting L)
    → ((xs : List A) → pack (map see xs) ≡ seen xs) → ((xs : List B) (n : Numbers) → whole (pack xs) n ≡ packed pack (each count xs n))
    → (items done : List A) (first n : Numbers) → each count (map see items) first ≡ (map see done, n) → whole (seen items) first ≡ (seen done, n)
all_done see count pack seen whole same all items done first n e =
    ap (λ x. whole x first) (sym (same items)) ∙ all (map see items) first ∙ ap (packed pack) e ∙ ap (λ x. (x, n)) (same done)

exprs_each : (xs : List (plain.Expr)) (n : Numbers) → of_exprs (view.exprs xs) n ≡ packed view.exprs (each of_expr xs n)
exprs_each [] n = refl
exprs_each (x ∷ xs) n = ap (λ p. (plain.more_exprs (of_expr x n).0 p.0, p.1)) (exprs_each xs (of_expr x n).1)

pub exprs_done : (all done : List code.Expr.Expr) (first n : Numbers) → each of_expr (map view.view_expr all) first ≡ (map view.view_expr done, n)
    → of_exprs (view.view_exprs all) first ≡ (view.view_exprs done, n)
exprs_done all done first n e = all_done view.view_expr of_expr view.exprs view.view_exprs of_exprs exprs_seen exprs_each all done first n e

stats_each : (xs : List (plain.Stat)) (n : Numbers) → of_block (view.stats xs) n ≡ packed view.stats (each of_stat xs n)
stats_each [] n = refl
stats_each (x ∷ xs) n = ap (λ p. (plain.more_stats (of_stat x n).0 p.0, p.1)) (stats_each xs (of_stat x n).1)

pub stats_done : (all done : List code.Stat.Stat) (first n : Numbers) → each of_stat (map view.view_stat all) first ≡ (map view.view_stat done, n)
    → of_block (view.view_stats all) first ≡ (view.view_stats done, n)
stats_done all done first n e = all_done view.view_stat of_stat view.stats view.view_stats of_block stats_seen stats_each all done first n e

types_each : (xs : List (plain.TypeSyntax)) (n : Numbers) → of_types (view.types xs) n ≡ packed view.types (each of_type xs n)
types_each [] n = refl
types_each (x ∷ xs) n = ap (λ p. (plain.more_types (of_type x n).0 p.0, p.1)) (types_each xs (of_type x n).1)

pub types_done : (all done : List code.TypeSyntax.TypeSyntax) (first n : Numbers) → each of_type (map view.view_type all) first ≡ (map view.view_type done, n)
    → of_types (view.view_types all) first ≡ (view.view_types done, n)
types_done all done first n e = all_done view.view_type of_type view.types view.view_types of_types types_seen types_each all done first n e

props_each : (xs : List (plain.Prop)) (n : Numbers) → of_props (view.props xs) n ≡ packed view.props (each of_prop xs n)
props_each [] n = refl
props_each (x ∷ xs) n = ap (λ p. (plain.more_props (of_prop x n).0 p.0, p.1)) (props_each xs (of_prop x n).1)

pub props_done : (all done : List code.Prop.Prop) (first n : Numbers) → each of_prop (map view.view_prop all) first ≡ (map view.view_prop done, n)
    → of_props (view.view_props all) first ≡ (view.view_props done, n)
props_done all done first n e = all_done view.view_prop of_prop view.props view.view_props of_props props_seen props_each all done first n e

gens_each : (xs : List (plain.Gen)) (n : Numbers) → of_gens (view.gens xs) n ≡ packed view.gens (each of_gen xs n)
gens_each [] n = refl
gens_each (x ∷ xs) n = ap (λ p. (plain.more_gens (of_gen x n).0 p.0, p.1)) (gens_each xs (of_gen x n).1)

pub gens_done : (all done : List code.Gen.Gen) (first n : Numbers) → each of_gen (map view.view_gen all) first ≡ (map view.view_gen done, n)
    → of_gens (view.view_gens all) first ≡ (view.view_gens done, n)
gens_done all done first n e = all_done view.view_gen of_gen view.gens view.view_gens of_gens gens_seen gens_each all done first n e

binds_each : (xs : List (plain.Bind)) (n : Numbers) → of_binds (view.binds xs) n ≡ packed view.binds (each of_bind xs n)
binds_each [] n = refl
binds_each (x ∷ xs) n = ap (λ p. (plain.more_binds (of_bind x n).0 p.0, p.1)) (binds_each xs (of_bind x n).1)

pub binds_done : (all done : List code.Bind.Bind) (first n : Numbers) → each of_bind (map view.view_bind all) first ≡ (map view.view_bind done, n)
    → of_binds (view.view_binds all) first ≡ (view.view_binds done, n)
binds_done all done first n e = all_done view.view_bind of_bind view.binds view.view_binds of_binds binds_seen binds_each all done first n e

items_each : (xs : List (plain.Item)) (n : Numbers) → of_items (view.items xs) n ≡ packed view.items (each of_item xs n)
items_each [] n = refl
items_each (x ∷ xs) n = ap (λ p. (plain.more_items (of_item x n).0 p.0, p.1)) (items_each xs (of_item x n).1)

pub items_done : (all done : List code.Item.Item) (first n : Numbers) → each of_item (map view.view_item all) first ≡ (map view.view_item done, n)
    → of_items (view.view_items all) first ≡ (view.view_items done, n)
items_done all done first n e = all_done view.view_item of_item view.items view.view_items of_items items_seen items_each all done first n e

arms_each : (xs : List (plain.Expr × plain.Block)) (n : Numbers) → of_arms (view.arms xs) n ≡ packed view.arms (each of_arm xs n)
arms_each [] n = refl
arms_each (x ∷ xs) n = ap (λ p. (plain.more_arms (of_arm x n).0.0 (of_arm x n).0.1 p.0, p.1)) (arms_each xs (of_arm x n).1)

pub arms_done : (all done : List code.Arm.Arm) (first n : Numbers) → each of_arm (map view.view_arm all) first ≡ (map view.view_arm done, n)
    → of_arms (view.view_arms all) first ≡ (view.view_arms done, n)
arms_done all done first n e = all_done view.view_arm of_arm view.arms view.view_arms of_arms arms_seen arms_each all done first n e

choices_each : (xs : List (plain.Expr × plain.Expr)) (n : Numbers) → of_choices (view.choices xs) n ≡ packed view.choices (each of_choice xs n)
choices_each [] n = refl
choices_each (x ∷ xs) n = ap (λ p. (plain.more_choices (of_choice x n).0.0 (of_choice x n).0.1 p.0, p.1)) (choices_each xs (of_choice x n).1)

pub choices_done : (all done : List code.Choice.Choice) (first n : Numbers) → each of_choice (map view.view_choice all) first ≡ (map view.view_choice done, n)
    → of_choices (view.view_choices all) first ≡ (view.view_choices done, n)
choices_done all done first n e = all_done view.view_choice of_choice view.choices view.view_choices of_choices choices_seen choices_each all done first n e
