-- What the plain term of each written type is, by its parts. Other proofs take these, and unfold no view.
use Rattle.std.proofs.Common.{◌≡◌, ℕ, Bool, List, [], ◌∷◌, map, refl, sym, ap, ◌∙◌}
use Rattle.type_arena.specs.Term.{function_of}
use Rattle.type_arena.specs.declared.node.FnName.{FnName}
use Rattle.type_normal.specs.TypeTerm as plain
use Rattle.type_terms.specs.declared.terms as code
use Rattle.type_terms.specs.declared.terms.TypeTerm.{TypeTerm-F}
use Rattle.type_terms.specs.declared.terms.TypeTerm.TheOpen as layer
use Rattle.type_terms.specs.declared.terms.TypeTerm.TheFolds as folds
use Rattle.type_terms.specs.declared.terms.TypeTerm.TheVariants as a_term
use Rattle.type_terms.specs.declared.terms.TypeTerm.TheViews as part
use Rattle.type_terms.specs.Leaves.{leaf_of}
use Rattle.type_terms.specs.View as view
use Rattle.type_terms.specs.View.{view_term, view_prop, view_terms, view_props}

pub terms_seen : (xs : List code.TypeTerm.TypeTerm) → view.terms (map view_term xs) ≡ view_terms xs
terms_seen [] = refl
terms_seen (x ∷ xs) = ap (plain.more_terms (view_term x)) (terms_seen xs)

pub props_seen : (xs : List code.Prop.Prop) → view.props (map view_prop xs) ≡ view_props xs
props_seen [] = refl
props_seen (x ∷ xs) = ap (plain.more_props (view_prop x).0 (view_prop x).1) (props_seen xs)

pub never_seen : view_term a_term.Never ≡ plain.NeverTerm
unfolding view_term
never_seen = ap view_term (sym a_term.rolls-Never) ∙ folds.fold-roll-TypeTerm _ _ _ _ layer.Never

pub unknown_seen : view_term a_term.Unknown ≡ plain.UnknownTerm
unfolding view_term
unknown_seen = ap view_term (sym a_term.rolls-Unknown) ∙ folds.fold-roll-TypeTerm _ _ _ _ layer.Unknown

pub nil_seen : view_term a_term.Nil ≡ plain.NilTerm
unfolding view_term
nil_seen = ap view_term (sym a_term.rolls-Nil) ∙ folds.fold-roll-TypeTerm _ _ _ _ layer.Nil

pub true_seen : view_term a_term.True ≡ plain.TrueTerm
unfolding view_term
true_seen = ap view_term (sym a_term.rolls-True) ∙ folds.fold-roll-TypeTerm _ _ _ _ layer.True

pub false_seen : view_term a_term.False ≡ plain.FalseTerm
unfolding view_term
false_seen = ap view_term (sym a_term.rolls-False) ∙ folds.fold-roll-TypeTerm _ _ _ _ layer.False

pub number_seen : view_term a_term.Number ≡ plain.NumberTerm
unfolding view_term
number_seen = ap view_term (sym a_term.rolls-Number) ∙ folds.fold-roll-TypeTerm _ _ _ _ layer.Number

pub any_string_seen : view_term a_term.AnyString ≡ plain.AnyStringTerm
unfolding view_term
any_string_seen = ap view_term (sym a_term.rolls-AnyString) ∙ folds.fold-roll-TypeTerm _ _ _ _ layer.AnyString

pub function_seen : view_term a_term.Function ≡ plain.FunctionTerm
unfolding view_term
function_seen = ap view_term (sym a_term.rolls-Function) ∙ folds.fold-roll-TypeTerm _ _ _ _ layer.Function

pub other_seen : view_term a_term.Other ≡ plain.OtherTerm
unfolding view_term
other_seen = ap view_term (sym a_term.rolls-Other) ∙ folds.fold-roll-TypeTerm _ _ _ _ layer.Other

pub table_seen : view_term a_term.Table ≡ plain.TableTerm
unfolding view_term
table_seen = ap view_term (sym a_term.rolls-Table) ∙ folds.fold-roll-TypeTerm _ _ _ _ layer.Table

pub str_seen : (bytes : List ℕ) → view_term (a_term.Str bytes) ≡ plain.StrTerm bytes
unfolding view_term
str_seen bytes = ap view_term (sym (a_term.rolls-Str bytes)) ∙ folds.fold-roll-TypeTerm _ _ _ _ (layer.Str bytes)

pub named_seen : (name : FnName) → view_term (a_term.Named name) ≡ plain.NamedTerm (function_of name)
unfolding view_term
named_seen name = ap view_term (sym (a_term.rolls-Named name)) ∙ folds.fold-roll-TypeTerm _ _ _ _ (layer.Named name)

pub union_seen : (list : List code.TypeTerm.TypeTerm) → view_term (a_term.Union list) ≡ plain.UnionTerm (view_terms list)
unfolding view_term
union_seen list = ap view_term (sym (a_term.rolls-Union list)) ∙ folds.fold-roll-TypeTerm _ _ _ _ (layer.Union list) ∙ (λ i. plain.UnionTerm (terms_seen list i))

pub meet_seen : (list : List code.TypeTerm.TypeTerm) → view_term (a_term.Meet list) ≡ plain.MeetTerm (view_terms list)
unfolding view_term
meet_seen list = ap view_term (sym (a_term.rolls-Meet list)) ∙ folds.fold-roll-TypeTerm _ _ _ _ (layer.Meet list) ∙ (λ i. plain.MeetTerm (terms_seen list i))

pub not_seen : (of : code.TypeTerm.TypeTerm) → view_term (a_term.Not of) ≡ plain.NotTerm (view_term of)
unfolding view_term
not_seen of = ap view_term (sym (a_term.rolls-Not of)) ∙ folds.fold-roll-TypeTerm _ _ _ _ (layer.Not of)

pub row_seen : (frozen : Bool) (list : List code.Prop.Prop) → view_term (a_term.Props frozen list) ≡ plain.PropsTerm frozen (view_props list)
unfolding view_term view_prop
row_seen frozen list = ap view_term (sym (a_term.rolls-Props frozen list)) ∙ folds.fold-roll-TypeTerm _ _ _ _ (layer.Props frozen list) ∙ (λ i. plain.PropsTerm frozen (props_seen list i))

-- a written type that is made of others is one of four
leafy_by : (x : code.TypeTerm.TypeTerm) (t : plain.TypeTerm) → view_term x ≡ t → leaf_of t ≡ t → leaf_of (view_term x) ≡ view_term x
leafy_by x t e same = ap leaf_of e ∙ same ∙ sym e

leafy_layer : (f : TypeTerm-F code.TypeTerm.TypeTerm code.Prop.Prop)
    → ((frozen : Bool) (list : List code.Prop.Prop) → part.roll-TypeTerm f ≡ a_term.Props frozen list → ⊥)
    → ((list : List code.TypeTerm.TypeTerm) → part.roll-TypeTerm f ≡ a_term.Union list → ⊥)
    → ((list : List code.TypeTerm.TypeTerm) → part.roll-TypeTerm f ≡ a_term.Meet list → ⊥)
    → ((of : code.TypeTerm.TypeTerm) → part.roll-TypeTerm f ≡ a_term.Not of → ⊥)
    → leaf_of (view_term (part.roll-TypeTerm f)) ≡ view_term (part.roll-TypeTerm f)
leafy_layer layer.Never p u m n = leafy_by _ _ (ap view_term a_term.rolls-Never ∙ never_seen) refl
leafy_layer layer.Unknown p u m n = leafy_by _ _ (ap view_term a_term.rolls-Unknown ∙ unknown_seen) refl
leafy_layer layer.Nil p u m n = leafy_by _ _ (ap view_term a_term.rolls-Nil ∙ nil_seen) refl
leafy_layer layer.True p u m n = leafy_by _ _ (ap view_term a_term.rolls-True ∙ true_seen) refl
leafy_layer layer.False p u m n = leafy_by _ _ (ap view_term a_term.rolls-False ∙ false_seen) refl
leafy_layer layer.Number p u m n = leafy_by _ _ (ap view_term a_term.rolls-Number ∙ number_seen) refl
leafy_layer layer.AnyString p u m n = leafy_by _ _ (ap view_term a_term.rolls-AnyString ∙ any_string_seen) refl
leafy_layer layer.Function p u m n = leafy_by _ _ (ap view_term a_term.rolls-Function ∙ function_seen) refl
leafy_layer layer.Other p u m n = leafy_by _ _ (ap view_term a_term.rolls-Other ∙ other_seen) refl
leafy_layer layer.Table p u m n = leafy_by _ _ (ap view_term a_term.rolls-Table ∙ table_seen) refl
leafy_layer (layer.Str bytes) p u m n = leafy_by _ _ (ap view_term (a_term.rolls-Str bytes) ∙ str_seen bytes) refl
leafy_layer (layer.Named name) p u m n = leafy_by _ _ (ap view_term (a_term.rolls-Named name) ∙ named_seen name) refl
leafy_layer (layer.Props frozen list) p u m n = absurd (p frozen list (a_term.rolls-Props frozen list))
leafy_layer (layer.Union list) p u m n = absurd (u list (a_term.rolls-Union list))
leafy_layer (layer.Meet list) p u m n = absurd (m list (a_term.rolls-Meet list))
leafy_layer (layer.Not of) p u m n = absurd (n of (a_term.rolls-Not of))

pub leafy : (x : code.TypeTerm.TypeTerm) → ((frozen : Bool) (list : List code.Prop.Prop) → x ≡ a_term.Props frozen list → ⊥) → ((list : List code.TypeTerm.TypeTerm) → x ≡ a_term.Union list → ⊥)
    → ((list : List code.TypeTerm.TypeTerm) → x ≡ a_term.Meet list → ⊥) → ((of : code.TypeTerm.TypeTerm) → x ≡ a_term.Not of → ⊥) → leaf_of (view_term x) ≡ view_term x
leafy x p u m n =
    ap (λ (y : code.TypeTerm.TypeTerm). leaf_of (view_term y)) (sym (part.roll-out-TypeTerm x))
    ∙ leafy_layer (part.out-TypeTerm x) (λ frozen list e. p frozen list (sym (part.roll-out-TypeTerm x) ∙ e)) (λ list e. u list (sym (part.roll-out-TypeTerm x) ∙ e))
    (λ list e. m list (sym (part.roll-out-TypeTerm x) ∙ e)) (λ of e. n of (sym (part.roll-out-TypeTerm x) ∙ e))
    ∙ ap view_term (part.roll-out-TypeTerm x)

-- a field, by its parts
pub prop_layer : (x : code.Prop.Prop) → view_prop x ≡ ((part.out-Prop x).name, view_term (part.out-Prop x).typ)
unfolding view_term view_prop
prop_layer x = ap view_prop (sym (part.roll-out-Prop x)) ∙ folds.fold-roll-Prop _ _ _ _ (part.out-Prop x)
