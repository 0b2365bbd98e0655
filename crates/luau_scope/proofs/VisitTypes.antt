-- What becomes of a written type, by the variant that code finds in it.
use Rattle.std.proofs.Common.{◌≡◌, ◌⊎◌, inl, inr, ℕ, Bool, List, ap, ◌∙◌}
use Rattle.std.specs.Prelude.{Option}
use Rattle.luau_tree.specs.declared.tree as code
use Rattle.luau_tree.specs.declared.tree.TypeKind.TheVariants as a_type
use Rattle.luau_tree.specs.Tree as plain
use Rattle.luau_tree.specs.View.{view_expr, view_gens, view_props, view_type, view_type_kind, view_types}
use Rattle.luau_tree.proofs.Views.{array_type_seen, bool_type_seen, func_type_seen, generic_pack_type_seen, meet_type_seen, named_type_seen, nil_type_seen, optional_type_seen, pack_type_seen, str_type_seen, table_type_seen, typeof_type_seen, union_type_seen, variadic_type_seen}
use Rattle.luau_scope.specs.declared.within.Within.{Within}
use Rattle.luau_scope.specs.declared.walker.Walker.{Walker}
use Rattle.luau_scope.specs.declared.refusal.Refusal.TheVariants.{GenericPack}
use Rattle.luau_scope.specs.Found.{one, Refuses}
use Rattle.luau_scope.specs.Steps.{after_expr, after_gens, after_part, after_props, after_type, after_types}
use Rattle.luau_scope.proofs.AfterTypes.{array_type, bool_type, func_type, generic_pack_type, meet_type, named_type, nil_type, optional_type, pack_type, str_type, table_type, typeof_type, union_type, variadic_type}
use Rattle.luau_scope.proofs.Layers.{type_layer}

-- a type, by its plain form
form : (w : Within) (x : code.TypeSyntax.TypeSyntax) (kind : plain.TypeKind) (s : Walker) → view_type_kind x.kind ≡ kind → after_type w (view_type x) s ≡ after_type w (plain.the_type x.span kind) s
form w x kind s e = ap (λ (t : plain.TypeSyntax). after_type w t s) (type_layer x ∙ ap (plain.the_type x.span) e)

nil_visit : (w : Within) (x : code.TypeSyntax.TypeSyntax) (s : Walker) → x.kind ≡ a_type.Nil
    → after_type w (view_type x) s ≡ s
nil_visit w x s e = form w x _ s (ap view_type_kind e ∙ nil_type_seen) ∙ nil_type w x.span s

bool_visit : (w : Within) (x : code.TypeSyntax.TypeSyntax) (truth : Bool) (s : Walker) → x.kind ≡ a_type.Bool truth
    → after_type w (view_type x) s ≡ s
bool_visit w x truth s e = form w x _ s (ap view_type_kind e ∙ bool_type_seen truth) ∙ bool_type w x.span truth s

str_visit : (w : Within) (x : code.TypeSyntax.TypeSyntax) (bytes : List ℕ) (s : Walker) → x.kind ≡ a_type.Str bytes
    → after_type w (view_type x) s ≡ s
str_visit w x bytes s e = form w x _ s (ap view_type_kind e ∙ str_type_seen bytes) ∙ str_type w x.span bytes s

pub named_visit : (w : Within) (x : code.TypeSyntax.TypeSyntax) (prefix : Option (List ℕ)) (name : List ℕ) (args : List code.TypeSyntax.TypeSyntax) (s : Walker) → x.kind ≡ a_type.Named prefix name args
    → after_type w (view_type x) s ≡ after_types w (view_types args) s
named_visit w x prefix name args s e = form w x _ s (ap view_type_kind e ∙ named_type_seen prefix name args) ∙ named_type w x.span prefix name (view_types args) s

pub typeof_visit : (w : Within) (x : code.TypeSyntax.TypeSyntax) (held : code.Expr.Expr) (s : Walker) → x.kind ≡ a_type.Typeof held
    → after_type w (view_type x) s ≡ after_expr w (view_expr held) s
typeof_visit w x held s e = form w x _ s (ap view_type_kind e ∙ typeof_type_seen held) ∙ typeof_type w x.span (view_expr held) s

array_visit : (w : Within) (x : code.TypeSyntax.TypeSyntax) (item : code.TypeSyntax.TypeSyntax) (s : Walker) → x.kind ≡ a_type.Array item
    → after_type w (view_type x) s ≡ after_type w (view_type item) s
array_visit w x item s e = form w x _ s (ap view_type_kind e ∙ array_type_seen item) ∙ array_type w x.span (view_type item) s

optional_visit : (w : Within) (x : code.TypeSyntax.TypeSyntax) (item : code.TypeSyntax.TypeSyntax) (s : Walker) → x.kind ≡ a_type.Optional item
    → after_type w (view_type x) s ≡ after_type w (view_type item) s
optional_visit w x item s e = form w x _ s (ap view_type_kind e ∙ optional_type_seen item) ∙ optional_type w x.span (view_type item) s

variadic_visit : (w : Within) (x : code.TypeSyntax.TypeSyntax) (item : code.TypeSyntax.TypeSyntax) (s : Walker) → x.kind ≡ a_type.Variadic item
    → after_type w (view_type x) s ≡ after_type w (view_type item) s
variadic_visit w x item s e = form w x _ s (ap view_type_kind e ∙ variadic_type_seen item) ∙ variadic_type w x.span (view_type item) s

pub table_visit : (w : Within) (x : code.TypeSyntax.TypeSyntax) (props : List code.Prop.Prop) (s : Walker) → x.kind ≡ a_type.Table props
    → after_type w (view_type x) s ≡ after_props w (view_props props) s
table_visit w x props s e = form w x _ s (ap view_type_kind e ∙ table_type_seen props) ∙ table_type w x.span (view_props props) s

pub func_visit : (w : Within) (x : code.TypeSyntax.TypeSyntax) (generics : List code.Gen.Gen) (params : List code.TypeSyntax.TypeSyntax) (given : code.TypeSyntax.TypeSyntax) (s : Walker) → x.kind ≡ a_type.Func generics params given
    → after_type w (view_type x) s ≡ after_type w (view_type given) (after_types w (view_types params) (after_gens w (view_gens generics) s))
func_visit w x generics params given s e = form w x _ s (ap view_type_kind e ∙ func_type_seen generics params given) ∙ func_type w x.span (view_gens generics) (view_types params) (view_type given) s

union_visit : (w : Within) (x : code.TypeSyntax.TypeSyntax) (types : List code.TypeSyntax.TypeSyntax) (s : Walker) → x.kind ≡ a_type.Union types
    → after_type w (view_type x) s ≡ after_types w (view_types types) s
union_visit w x types s e = form w x _ s (ap view_type_kind e ∙ union_type_seen types) ∙ union_type w x.span (view_types types) s

meet_visit : (w : Within) (x : code.TypeSyntax.TypeSyntax) (types : List code.TypeSyntax.TypeSyntax) (s : Walker) → x.kind ≡ a_type.Meet types
    → after_type w (view_type x) s ≡ after_types w (view_types types) s
meet_visit w x types s e = form w x _ s (ap view_type_kind e ∙ meet_type_seen types) ∙ meet_type w x.span (view_types types) s

pack_visit : (w : Within) (x : code.TypeSyntax.TypeSyntax) (types : List code.TypeSyntax.TypeSyntax) (s : Walker) → x.kind ≡ a_type.Pack types
    → after_type w (view_type x) s ≡ after_types w (view_types types) s
pack_visit w x types s e = form w x _ s (ap view_type_kind e ∙ pack_type_seen types) ∙ pack_type w x.span (view_types types) s

pub generic_pack_visit : (w : Within) (x : code.TypeSyntax.TypeSyntax) (name : List ℕ) (s : Walker) → x.kind ≡ a_type.GenericPack name
    → after_type w (view_type x) s ≡ after_part (one (Refuses GenericPack x.span)) s
generic_pack_visit w x name s e = form w x _ s (ap view_type_kind e ∙ generic_pack_type_seen name) ∙ generic_pack_type w x.span name s

-- ## Variants that become the same

pub leaf_visit : (w : Within) (x : code.TypeSyntax.TypeSyntax) (s : Walker)
    → (x.kind ≡ a_type.Nil) ⊎ (((truth : Bool) × (x.kind ≡ a_type.Bool truth)) ⊎ ((bytes : List ℕ) × (x.kind ≡ a_type.Str bytes)))
    → after_type w (view_type x) s ≡ s
leaf_visit w x s (inl e) = nil_visit w x s e
leaf_visit w x s (inr (inl p)) = bool_visit w x p.0 s p.1
leaf_visit w x s (inr (inr p)) = str_visit w x p.0 s p.1

pub item_visit : (w : Within) (x item : code.TypeSyntax.TypeSyntax) (s : Walker)
    → (x.kind ≡ a_type.Array item) ⊎ ((x.kind ≡ a_type.Optional item) ⊎ (x.kind ≡ a_type.Variadic item))
    → after_type w (view_type x) s ≡ after_type w (view_type item) s
item_visit w x item s (inl e) = array_visit w x item s e
item_visit w x item s (inr (inl e)) = optional_visit w x item s e
item_visit w x item s (inr (inr e)) = variadic_visit w x item s e

pub several_visit : (w : Within) (x : code.TypeSyntax.TypeSyntax) (types : List code.TypeSyntax.TypeSyntax) (s : Walker)
    → (x.kind ≡ a_type.Union types) ⊎ ((x.kind ≡ a_type.Meet types) ⊎ (x.kind ≡ a_type.Pack types))
    → after_type w (view_type x) s ≡ after_types w (view_types types) s
several_visit w x types s (inl e) = union_visit w x types s e
several_visit w x types s (inr (inl e)) = meet_visit w x types s e
several_visit w x types s (inr (inr e)) = pack_visit w x types s e
