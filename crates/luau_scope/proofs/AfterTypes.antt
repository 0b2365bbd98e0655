-- What becomes of each form of a written type.
use Rattle.std.proofs.Common.{◌≡◌, ℕ, Bool, List, refl, ap, ◌∙◌}
use Rattle.std.specs.Prelude.{Option}
use Rattle.luau_tree.specs.declared.position.Span.{Span}
use Rattle.luau_tree.specs.declared.names.Access.{Access}
use Rattle.luau_tree.specs.Tree as plain
use Rattle.luau_scope.specs.declared.within.Within.{Within}
use Rattle.luau_scope.specs.declared.walker.Walker.{Walker}
use Rattle.luau_scope.specs.declared.refusal.Refusal.TheVariants.{GenericPack}
use Rattle.luau_scope.specs.Found.{nothing, one, Refuses}
use Rattle.luau_scope.specs.Finds as finds
use Rattle.luau_scope.specs.Steps.{after_expr, after_type, after_types, after_maybe_type, after_varargs, after_gens, after_props, added, after_part, around_in}
use Rattle.luau_scope.proofs.Walk.{after_join}

pub nil_type : (w : Within) (span : Span) (s : Walker) → after_type w (plain.the_type span plain.NilType) s ≡ s
unfolding after_type added
nil_type w span s = refl

pub bool_type : (w : Within) (span : Span) (truth : Bool) (s : Walker) → after_type w (plain.the_type span (plain.BoolType truth)) s ≡ s
unfolding after_type added
bool_type w span truth s = refl

pub str_type : (w : Within) (span : Span) (bytes : List ℕ) (s : Walker) → after_type w (plain.the_type span (plain.StrType bytes)) s ≡ s
unfolding after_type added
str_type w span bytes s = refl

pub named_type : (w : Within) (span : Span) (prefix : Option (List ℕ)) (name : List ℕ) (args : plain.TypeSyntaxes) (s : Walker) → after_type w (plain.the_type span (plain.Named prefix name args)) s ≡ after_types w args s
unfolding after_type after_types
named_type w span prefix name args s = refl

pub typeof_type : (w : Within) (span : Span) (e : plain.Expr) (s : Walker) → after_type w (plain.the_type span (plain.Typeof e)) s ≡ after_expr w e s
unfolding after_type after_expr
typeof_type w span e s = refl

pub array_type : (w : Within) (span : Span) (item : plain.TypeSyntax) (s : Walker) → after_type w (plain.the_type span (plain.Array item)) s ≡ after_type w item s
unfolding after_type
array_type w span item s = refl

pub table_type : (w : Within) (span : Span) (props : plain.Props) (s : Walker) → after_type w (plain.the_type span (plain.TableType props)) s ≡ after_props w props s
unfolding after_type after_props
table_type w span props s = refl

pub func_type : (w : Within) (span : Span) (generics : plain.Gens) (params : plain.TypeSyntaxes) (given : plain.TypeSyntax) (s : Walker) → after_type w (plain.the_type span (plain.Func generics params given)) s ≡ after_type w given (after_types w params (after_gens w generics s))
unfolding after_type after_types after_gens
func_type w span generics params given s = after_join _ _ s ∙ after_join _ _ (after_gens w generics s)

pub union_type : (w : Within) (span : Span) (types : plain.TypeSyntaxes) (s : Walker) → after_type w (plain.the_type span (plain.Union types)) s ≡ after_types w types s
unfolding after_type after_types
union_type w span types s = refl

pub meet_type : (w : Within) (span : Span) (types : plain.TypeSyntaxes) (s : Walker) → after_type w (plain.the_type span (plain.Meet types)) s ≡ after_types w types s
unfolding after_type after_types
meet_type w span types s = refl

pub pack_type : (w : Within) (span : Span) (types : plain.TypeSyntaxes) (s : Walker) → after_type w (plain.the_type span (plain.Pack types)) s ≡ after_types w types s
unfolding after_type after_types
pack_type w span types s = refl

pub optional_type : (w : Within) (span : Span) (item : plain.TypeSyntax) (s : Walker) → after_type w (plain.the_type span (plain.Optional item)) s ≡ after_type w item s
unfolding after_type
optional_type w span item s = refl

pub variadic_type : (w : Within) (span : Span) (item : plain.TypeSyntax) (s : Walker) → after_type w (plain.the_type span (plain.Variadic item)) s ≡ after_type w item s
unfolding after_type
variadic_type w span item s = refl

pub generic_pack_type : (w : Within) (span : Span) (name : List ℕ) (s : Walker) → after_type w (plain.the_type span (plain.GenericPack name)) s ≡ after_part (one (Refuses GenericPack span)) s
unfolding after_type
generic_pack_type w span name s = refl

pub no_types : (w : Within) (s : Walker) → after_types w plain.no_types s ≡ s
unfolding after_types added
no_types w s = refl

pub more_types : (w : Within) (typ : plain.TypeSyntax) (rest : plain.TypeSyntaxes) (s : Walker) → after_types w (plain.more_types typ rest) s ≡ after_types w rest (after_type w typ s)
unfolding after_types after_type
more_types w typ rest s = after_join _ _ s

pub no_type : (w : Within) (s : Walker) → after_maybe_type w plain.no_type s ≡ s
unfolding after_maybe_type added
no_type w s = refl

pub a_type : (w : Within) (typ : plain.TypeSyntax) (s : Walker) → after_maybe_type w (plain.a_type typ) s ≡ after_type w typ s
unfolding after_maybe_type after_type
a_type w typ s = refl

pub no_varargs : (w : Within) (s : Walker) → after_varargs w plain.no_varargs s ≡ s
unfolding after_varargs added
no_varargs w s = refl

pub varargs : (w : Within) (typ : plain.MaybeType) (s : Walker) → after_varargs w (plain.varargs typ) s ≡ after_maybe_type w typ s
unfolding after_varargs after_maybe_type
varargs w typ s = refl

pub no_gens : (w : Within) (s : Walker) → after_gens w plain.no_gens s ≡ s
unfolding after_gens added
no_gens w s = refl

pub more_gens : (w : Within) (name : List ℕ) (span : Span) (pack : Bool) (default : plain.MaybeType) (rest : plain.Gens) (s : Walker) → after_gens w (plain.more_gens (plain.the_gen name span pack default) rest) s ≡ after_gens w rest (after_maybe_type w default (after_part (finds.refused_if pack GenericPack span) s))
unfolding after_gens after_maybe_type
more_gens w name span pack default rest s = after_join _ _ s ∙ ap (after_part (finds.of_gens (around_in s w) rest)) (after_join _ _ s)

pub no_props : (w : Within) (s : Walker) → after_props w plain.no_props s ≡ s
unfolding after_props added
no_props w s = refl

pub named_prop : (w : Within) (access : Access) (name : List ℕ) (typ : plain.TypeSyntax) (rest : plain.Props) (s : Walker) → after_props w (plain.more_props (plain.the_prop access (plain.NameKey name) typ) rest) s ≡ after_props w rest (after_type w typ s)
unfolding after_props after_type added
named_prop w access name typ rest s = after_join _ _ s ∙ ap (after_part (finds.of_props (around_in s w) rest)) (after_join nothing _ s)

pub indexer_prop : (w : Within) (access : Access) (key : plain.TypeSyntax) (typ : plain.TypeSyntax) (rest : plain.Props) (s : Walker) → after_props w (plain.more_props (plain.the_prop access (plain.Indexer key) typ) rest) s ≡ after_props w rest (after_type w typ (after_type w key s))
unfolding after_props after_type
indexer_prop w access key typ rest s = after_join _ _ s ∙ ap (after_part (finds.of_props (around_in s w) rest)) (after_join _ _ s)
