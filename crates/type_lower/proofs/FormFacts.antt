-- What a written type means, by the variant that code finds in it.
use Rattle.std.proofs.Common.{◌≡◌, ℕ, zero, suc, ◌+◌, Bool, true, false, List, [], ◌∷◌, refl, sym, ap, ◌∙◌, arith}
use Rattle.std.specs.Prelude.{Option, Some, None, if◌then◌else◌}
use Rattle.luau_tree.specs.declared.tree as code
use Rattle.luau_tree.specs.declared.tree.ExprKind.TheViews as part
use Rattle.luau_tree.specs.declared.tree.TypeKind.TheVariants as a_type
use Rattle.luau_tree.specs.Tree as plain
use Rattle.luau_tree.specs.View.{view_props, view_type, view_type_kind, view_types}
use Rattle.luau_tree.proofs.Views.{type_seen, array_type_seen, bool_type_seen, func_type_seen, generic_pack_type_seen, meet_type_seen, named_type_seen, nil_type_seen, optional_type_seen, pack_type_seen, str_type_seen, table_type_seen, typeof_type_seen, union_type_seen, variadic_type_seen}
use Rattle.type_arena.specs.Term.{Term}
use Rattle.type_normal.specs.Cut.{cut_up}
use Rattle.type_normal.specs.Kinds.{unknown, nil_type, true_type, false_type, text_type, function_type, table_type}
use Rattle.type_normal.specs.Operations.{union, meet}
use Rattle.annotations.specs.Lowered.{Known, named_type, raw, raw_kind, raw_fields, raw_union, raw_meet, joined_from, met_from, table_of}
use Rattle.type_lower.specs.Joined.{joined_behind, all_joined, marked}
use Rattle.type_lower.specs.declared.choosing.Choice.TheVariants.{Either, Both}

type_layer : (x : code.TypeSyntax.TypeSyntax) → view_type x ≡ plain.the_type x.span (view_type_kind x.kind)
type_layer x = ap view_type (sym (part.roll-out-TypeSyntax x)) ∙ type_seen _ _

form : (known : List Known) (x : code.TypeSyntax.TypeSyntax) (kind : plain.TypeKind) → view_type_kind x.kind ≡ kind → raw known (view_type x) ≡ raw_kind known kind
form known x kind e = ap (raw known) (type_layer x) ∙ ap (raw_kind known) e

pub nil_form : (known : List Known) (x : code.TypeSyntax.TypeSyntax) → x.kind ≡ a_type.Nil → raw known (view_type x) ≡ nil_type
nil_form known x e = form known x _ (ap view_type_kind e ∙ nil_type_seen)

pub bool_form : (known : List Known) (x : code.TypeSyntax.TypeSyntax) (truth : Bool) → x.kind ≡ a_type.Bool truth → raw known (view_type x) ≡ (if truth then true_type else false_type)
bool_form known x truth e = form known x _ (ap view_type_kind e ∙ bool_type_seen truth) ∙ by truth
  where
    by : (b : Bool) → raw_kind known (plain.BoolType b) ≡ (if b then true_type else false_type)
    by true = refl
    by false = refl

pub str_form : (known : List Known) (x : code.TypeSyntax.TypeSyntax) (bytes : List ℕ) → x.kind ≡ a_type.Str bytes → raw known (view_type x) ≡ text_type bytes
str_form known x bytes e = form known x _ (ap view_type_kind e ∙ str_type_seen bytes)

pub name_form : (known : List Known) (x : code.TypeSyntax.TypeSyntax) (prefix : Option (List ℕ)) (name : List ℕ) (args : List code.TypeSyntax.TypeSyntax) → x.kind ≡ a_type.Named prefix name args
    → raw known (view_type x) ≡ raw_kind known (plain.Named prefix name (view_types args))
name_form known x prefix name args e = form known x _ (ap view_type_kind e ∙ named_type_seen prefix name args)

-- a bare name, and another one
pub bare_name : (known : List Known) (prefix : Option (List ℕ)) (name : List ℕ) (args : List code.TypeSyntax.TypeSyntax) → prefix ≡ None → args ≡ [] → named_type known name ≡ raw_kind known (plain.Named prefix name (view_types args))
bare_name known prefix name args p a = sym (λ i. raw_kind known (plain.Named (p i) name (view_types (a i))))

pub other_name : (known : List Known) (prefix : Option (List ℕ)) (name : List ℕ) (args : List code.TypeSyntax.TypeSyntax) → ((prefix ≡ None) × (args ≡ []) → ⊥) → unknown ≡ raw_kind known (plain.Named prefix name (view_types args))
other_name known None name [] differs = absurd (differs (refl, refl))
other_name known None name (a ∷ args) differs = refl
other_name known (Some p) name args differs = refl

pub typeof_form : (known : List Known) (x : code.TypeSyntax.TypeSyntax) (e' : code.Expr.Expr) → x.kind ≡ a_type.Typeof e' → raw known (view_type x) ≡ unknown
typeof_form known x e' e = form known x _ (ap view_type_kind e ∙ typeof_type_seen e')

pub array_form : (known : List Known) (x : code.TypeSyntax.TypeSyntax) (item : code.TypeSyntax.TypeSyntax) → x.kind ≡ a_type.Array item → raw known (view_type x) ≡ table_type
array_form known x item e = form known x _ (ap view_type_kind e ∙ array_type_seen item)

pub table_form : (known : List Known) (x : code.TypeSyntax.TypeSyntax) (props : List code.Prop.Prop) → x.kind ≡ a_type.Table props → raw known (view_type x) ≡ table_of (raw_fields known (view_props props))
table_form known x props e = form known x _ (ap view_type_kind e ∙ table_type_seen props)

pub func_form : (known : List Known) (x : code.TypeSyntax.TypeSyntax) (generics : List code.Gen.Gen) (params : List code.TypeSyntax.TypeSyntax) (given : code.TypeSyntax.TypeSyntax) → x.kind ≡ a_type.Func generics params given
    → raw known (view_type x) ≡ function_type
func_form known x generics params given e = form known x _ (ap view_type_kind e ∙ func_type_seen generics params given)

unions_from : (known : List Known) (first : Term) (types : plain.TypeSyntaxes) → joined_from known first types ≡ joined_behind Either known first types
unions_from known first plain.no_types = refl
unions_from known first (plain.more_types type types) = unions_from known (cut_up (union first (raw known type))) types

meets_from : (known : List Known) (first : Term) (types : plain.TypeSyntaxes) → met_from known first types ≡ joined_behind Both known first types
meets_from known first plain.no_types = refl
meets_from known first (plain.more_types type types) = meets_from known (cut_up (meet first (raw known type))) types

all_unions : (known : List Known) (types : plain.TypeSyntaxes) → raw_union known types ≡ all_joined Either known types
all_unions known plain.no_types = refl
all_unions known (plain.more_types type types) = unions_from known (raw known type) types

all_meets : (known : List Known) (types : plain.TypeSyntaxes) → raw_meet known types ≡ all_joined Both known types
all_meets known plain.no_types = refl
all_meets known (plain.more_types type types) = meets_from known (raw known type) types

pub union_form : (known : List Known) (x : code.TypeSyntax.TypeSyntax) (types : List code.TypeSyntax.TypeSyntax) → x.kind ≡ a_type.Union types → raw known (view_type x) ≡ all_joined Either known (view_types types)
union_form known x types e = form known x _ (ap view_type_kind e ∙ union_type_seen types) ∙ all_unions known (view_types types)

pub meet_form : (known : List Known) (x : code.TypeSyntax.TypeSyntax) (types : List code.TypeSyntax.TypeSyntax) → x.kind ≡ a_type.Meet types → raw known (view_type x) ≡ all_joined Both known (view_types types)
meet_form known x types e = form known x _ (ap view_type_kind e ∙ meet_type_seen types) ∙ all_meets known (view_types types)

pub optional_form : (known : List Known) (x : code.TypeSyntax.TypeSyntax) (item : code.TypeSyntax.TypeSyntax) → x.kind ≡ a_type.Optional item → raw known (view_type x) ≡ cut_up (union (raw known (view_type item)) nil_type)
optional_form known x item e = form known x _ (ap view_type_kind e ∙ optional_type_seen item)

pub pack_form : (known : List Known) (x : code.TypeSyntax.TypeSyntax) (types : List code.TypeSyntax.TypeSyntax) → x.kind ≡ a_type.Pack types → raw known (view_type x) ≡ unknown
pack_form known x types e = form known x _ (ap view_type_kind e ∙ pack_type_seen types)

pub variadic_form : (known : List Known) (x : code.TypeSyntax.TypeSyntax) (item : code.TypeSyntax.TypeSyntax) → x.kind ≡ a_type.Variadic item → raw known (view_type x) ≡ unknown
variadic_form known x item e = form known x _ (ap view_type_kind e ∙ variadic_type_seen item)

pub generic_form : (known : List Known) (x : code.TypeSyntax.TypeSyntax) (name : List ℕ) → x.kind ≡ a_type.GenericPack name → raw known (view_type x) ≡ unknown
generic_form known x name e = form known x _ (ap view_type_kind e ∙ generic_pack_type_seen name)

-- a mark inside counts as one outside
marked_inside : (n : ℕ) (t : Term) → marked n (cut_up (union t nil_type)) ≡ cut_up (union (marked n t) nil_type)
marked_inside zero t = refl
marked_inside (suc n) t = ap (λ (s : Term). cut_up (union s nil_type)) (marked_inside n t)

pub mark_taken : (known : List Known) (n : ℕ) (x item : code.TypeSyntax.TypeSyntax) → x.kind ≡ a_type.Optional item → marked n (raw known (view_type x)) ≡ marked (suc n) (raw known (view_type item))
mark_taken known n x item e = ap (marked n) (optional_form known x item e) ∙ marked_inside n (raw known (view_type item))

pub mark_step : (known : List Known) (n : ℕ) (x item shown : code.TypeSyntax.TypeSyntax) → x.kind ≡ a_type.Optional item → shown ≡ item → marked (n + 1) (raw known (view_type shown)) ≡ marked n (raw known (view_type x))
mark_step known n x item shown e same =
    ap (λ (m : ℕ). marked m (raw known (view_type shown))) (let s : n + 1 ≡ suc n = omega arith in s)
    ∙ ap (λ (y : code.TypeSyntax.TypeSyntax). marked (suc n) (raw known (view_type y))) same ∙ sym (mark_taken known n x item e)
