-- How much a written type holds, for the end of each walk.
use Rattle.std.proofs.Common.{◌≡◌, ℕ, zero, suc, ◌<◌, ◌≤◌, List, [], ◌∷◌, length, get_or, sym, ap, ◌∙◌, subst, arith}
use Rattle.luau_tree.specs.declared.tree as code
use Rattle.luau_tree.specs.declared.tree.ExprKind.TheViews as part
use Rattle.luau_tree.specs.declared.tree.TypeKind.TheVariants as a_type
use Rattle.luau_tree.specs.Tree as plain
use Rattle.luau_tree.specs.View.{view_prop, view_props, view_type, view_type_kind, view_types}
use Rattle.type_lower.specs.Weight.{weight, weight_of_kind, weight_of_types, weight_of_props, weight_of_prop}
use Rattle.luau_tree.proofs.Views.{type_seen, prop_seen, meet_type_seen, optional_type_seen, table_type_seen, union_type_seen}

layer : (x : code.TypeSyntax.TypeSyntax) (kind : plain.TypeKind) → view_type_kind x.kind ≡ kind → weight (view_type x) ≡ suc (weight_of_kind kind)
layer x kind e = ap weight (ap view_type (sym (part.roll-out-TypeSyntax x)) ∙ type_seen _ _) ∙ ap (λ (k : plain.TypeKind). suc (weight_of_kind k)) e

pub optional_weight : (x : code.TypeSyntax.TypeSyntax) (item : code.TypeSyntax.TypeSyntax) → x.kind ≡ a_type.Optional item → weight (view_type x) ≡ suc (weight (view_type item))
optional_weight x item e = layer x _ (ap view_type_kind e ∙ optional_type_seen item)

pub table_weight : (x : code.TypeSyntax.TypeSyntax) (props : List code.Prop.Prop) → x.kind ≡ a_type.Table props → weight (view_type x) ≡ suc (weight_of_props (view_props props))
table_weight x props e = layer x _ (ap view_type_kind e ∙ table_type_seen props)

pub union_weight : (x : code.TypeSyntax.TypeSyntax) (types : List code.TypeSyntax.TypeSyntax) → x.kind ≡ a_type.Union types → weight (view_type x) ≡ suc (weight_of_types (view_types types))
union_weight x types e = layer x _ (ap view_type_kind e ∙ union_type_seen types)

pub meet_weight : (x : code.TypeSyntax.TypeSyntax) (types : List code.TypeSyntax.TypeSyntax) → x.kind ≡ a_type.Meet types → weight (view_type x) ≡ suc (weight_of_types (view_types types))
meet_weight x types e = layer x _ (ap view_type_kind e ∙ meet_type_seen types)

pub item_weight : (types : List code.TypeSyntax.TypeSyntax) (i : ℕ) (d : code.TypeSyntax.TypeSyntax) → i < length types → weight (view_type (get_or types i d)) ≤ weight_of_types (view_types types)
item_weight [] i d l = absurd (omega arith)
item_weight (t ∷ ts) zero d l = omega arith
item_weight (t ∷ ts) (suc i) d l = let h = item_weight ts i d (let k : i < length ts = omega arith in k) in omega arith

prop_weight_of : (x : code.Prop.Prop) → weight_of_prop (view_prop x) ≡ weight (view_type x.typ)
prop_weight_of x = ap weight_of_prop (ap view_prop (sym (part.roll-out-Prop x)) ∙ prop_seen _ _ _)

prop_at : (props : List code.Prop.Prop) (i : ℕ) (d : code.Prop.Prop) → i < length props → weight_of_prop (view_prop (get_or props i d)) ≤ weight_of_props (view_props props)
prop_at [] i d l = absurd (omega arith)
prop_at (t ∷ ts) zero d l = omega arith
prop_at (t ∷ ts) (suc i) d l = let h = prop_at ts i d (let k : i < length ts = omega arith in k) in omega arith

pub prop_weight : (props : List code.Prop.Prop) (i : ℕ) (x : code.Prop.Prop) → i < length props → x ≡ get_or props i x → weight (view_type x.typ) ≤ weight_of_props (view_props props)
prop_weight props i x l is =
    subst (λ (n : ℕ). n ≤ weight_of_props (view_props props)) (ap (λ (p : code.Prop.Prop). weight_of_prop (view_prop p)) (sym is) ∙ prop_weight_of x) (prop_at props i x l)

pub mark_lighter : (x item shown : code.TypeSyntax.TypeSyntax) (most : ℕ) → x.kind ≡ a_type.Optional item → shown ≡ item → weight (view_type x) ≤ most → weight (view_type shown) ≤ most
mark_lighter x item shown most e same l =
    let w = optional_weight x item e in
    subst (λ (y : code.TypeSyntax.TypeSyntax). weight (view_type y) ≤ most) (sym same) (let k : weight (view_type item) ≤ most = omega (arith, w, l) in k)
