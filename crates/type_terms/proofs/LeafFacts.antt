-- The nodes of written types that are made of no other.
use Rattle.std.proofs.Common.{◌≡◌, ℕ, true, List, [], ◌∷◌, refl, sym, ap, ◌∙◌, subst}
use Rattle.type_arena.specs.Term.{function_of}
use Rattle.type_arena.specs.declared.node.Among.{Among}
use Rattle.type_arena.specs.declared.node.Among.TheVariants.{Only, AllBut}
use Rattle.type_arena.specs.declared.node.FnName.{FnName}
use Rattle.type_arena.specs.declared.node.FnName.TheVariants.{Builtin, Literal}
use Rattle.type_arena.specs.declared.node.Node.{Node}
use Rattle.type_arena.specs.declared.node.Row.{Row}
use Rattle.type_normal.specs.TypeTerm as plain
use Rattle.type_terms.specs.declared.terms as code
use Rattle.type_terms.specs.declared.terms.TypeTerm.{TypeTerm-F}
use Rattle.type_terms.specs.declared.terms.TypeTerm.TheOpen as layer
use Rattle.type_terms.specs.declared.terms.TypeTerm.TheVariants as a_term
use Rattle.type_terms.specs.declared.terms.TypeTerm.TheViews as part
use Rattle.type_terms.specs.Leaves.{bare, whole, all_tables_alone, leaf_of, IsNodeOf}
use Rattle.type_terms.specs.View.{view_term}
use Rattle.type_terms.proofs.Views.{never_seen, unknown_seen, nil_seen, true_seen, false_seen, number_seen, other_seen, table_seen, any_string_seen, function_seen, str_seen, named_seen, union_seen, meet_seen, not_seen, row_seen}

at_leaf : (x : code.TypeTerm.TypeTerm) (t : plain.TypeTerm) (n : Node) → view_term x ≡ t → IsNodeOf (leaf_of t) n → IsNodeOf (leaf_of (view_term x)) n
at_leaf x t n e h = subst (λ (u : plain.TypeTerm). IsNodeOf (leaf_of u) n) (sym e) h

pub unknown_node : (x : code.TypeTerm.TypeTerm) (n : Node) → x ≡ a_term.Unknown → n ≡ whole → IsNodeOf (leaf_of (view_term x)) n
unknown_node x n e is =
    at_leaf x plain.UnknownTerm n (ap view_term e ∙ unknown_seen)
    (subst (λ (m : Node). IsNodeOf plain.UnknownTerm m) (sym is) (record { refs = refl; literals = refl; means = λ of. refl }))

pub nil_node : (x : code.TypeTerm.TypeTerm) (b : Node) → x ≡ a_term.Nil → b ≡ bare → IsNodeOf (leaf_of (view_term x)) (record b { nil = true })
nil_node x b e is =
    at_leaf x plain.NilTerm _ (ap view_term e ∙ nil_seen)
    (subst (λ (m : Node). IsNodeOf plain.NilTerm (record m { nil = true })) (sym is) (record { refs = refl; literals = refl; means = λ of. refl }))

pub true_node : (x : code.TypeTerm.TypeTerm) (b : Node) → x ≡ a_term.True → b ≡ bare → IsNodeOf (leaf_of (view_term x)) (record b { truth = true })
true_node x b e is =
    at_leaf x plain.TrueTerm _ (ap view_term e ∙ true_seen)
    (subst (λ (m : Node). IsNodeOf plain.TrueTerm (record m { truth = true })) (sym is) (record { refs = refl; literals = refl; means = λ of. refl }))

pub false_node : (x : code.TypeTerm.TypeTerm) (b : Node) → x ≡ a_term.False → b ≡ bare → IsNodeOf (leaf_of (view_term x)) (record b { falsity = true })
false_node x b e is =
    at_leaf x plain.FalseTerm _ (ap view_term e ∙ false_seen)
    (subst (λ (m : Node). IsNodeOf plain.FalseTerm (record m { falsity = true })) (sym is) (record { refs = refl; literals = refl; means = λ of. refl }))

pub number_node : (x : code.TypeTerm.TypeTerm) (b : Node) → x ≡ a_term.Number → b ≡ bare → IsNodeOf (leaf_of (view_term x)) (record b { number = true })
number_node x b e is =
    at_leaf x plain.NumberTerm _ (ap view_term e ∙ number_seen)
    (subst (λ (m : Node). IsNodeOf plain.NumberTerm (record m { number = true })) (sym is) (record { refs = refl; literals = refl; means = λ of. refl }))

pub other_node : (x : code.TypeTerm.TypeTerm) (b : Node) → x ≡ a_term.Other → b ≡ bare → IsNodeOf (leaf_of (view_term x)) (record b { other = true })
other_node x b e is =
    at_leaf x plain.OtherTerm _ (ap view_term e ∙ other_seen)
    (subst (λ (m : Node). IsNodeOf plain.OtherTerm (record m { other = true })) (sym is) (record { refs = refl; literals = refl; means = λ of. refl }))

pub table_node : (x : code.TypeTerm.TypeTerm) (b : Node) (rows : List Row) → x ≡ a_term.Table → b ≡ bare → rows ≡ all_tables_alone → IsNodeOf (leaf_of (view_term x)) (record b { rows = rows })
table_node x b rows e is all =
    at_leaf x plain.TableTerm _ (ap view_term e ∙ table_seen)
    (subst (λ (zs : List Row). IsNodeOf plain.TableTerm (record b { rows = zs })) (sym all)
    (subst (λ (m : Node). IsNodeOf plain.TableTerm (record m { rows = all_tables_alone })) (sym is) (record { refs = refl; literals = refl; means = λ of. refl })))

pub string_node : (x : code.TypeTerm.TypeTerm) (b : Node) (strings : List (List ℕ)) → x ≡ a_term.AnyString → b ≡ bare → strings ≡ [] → IsNodeOf (leaf_of (view_term x)) (record b { strings = AllBut strings })
string_node x b strings e is none =
    at_leaf x plain.AnyStringTerm _ (ap view_term e ∙ any_string_seen)
    (subst (λ (zs : List (List ℕ)). IsNodeOf plain.AnyStringTerm (record b { strings = AllBut zs })) (sym none)
    (subst (λ (m : Node). IsNodeOf plain.AnyStringTerm (record m { strings = AllBut [] })) (sym is) (record { refs = refl; literals = refl; means = λ of. refl })))

pub function_node : (x : code.TypeTerm.TypeTerm) (b : Node) (functions : List FnName) → x ≡ a_term.Function → b ≡ bare → functions ≡ [] → IsNodeOf (leaf_of (view_term x)) (record b { functions = AllBut functions })
function_node x b functions e is none =
    at_leaf x plain.FunctionTerm _ (ap view_term e ∙ function_seen)
    (subst (λ (zs : List FnName). IsNodeOf plain.FunctionTerm (record b { functions = AllBut zs })) (sym none)
    (subst (λ (m : Node). IsNodeOf plain.FunctionTerm (record m { functions = AllBut [] })) (sym is) (record { refs = refl; literals = refl; means = λ of. refl })))

pub text_node : (x : code.TypeTerm.TypeTerm) (b : Node) (text : List ℕ) (strings : Among (List ℕ)) → x ≡ a_term.Str text → b ≡ bare → strings ≡ Only (text ∷ []) → IsNodeOf (leaf_of (view_term x)) (record b { strings = strings })
text_node x b text strings e is one =
    at_leaf x (plain.StrTerm text) _ (ap view_term e ∙ str_seen text)
    (subst (λ (zs : Among (List ℕ)). IsNodeOf (plain.StrTerm text) (record b { strings = zs })) (sym one)
    (subst (λ (m : Node). IsNodeOf (plain.StrTerm text) (record m { strings = Only (text ∷ []) })) (sym is) (record { refs = refl; literals = refl; means = λ of. refl })))

name_node : (name : FnName) → IsNodeOf (plain.NamedTerm (function_of name)) (record bare { functions = Only (name ∷ []) })
name_node (Builtin path) = record { refs = refl; literals = refl; means = λ of. refl }
name_node (Literal home number) = record { refs = refl; literals = refl; means = λ of. refl }

pub named_node : (x : code.TypeTerm.TypeTerm) (b : Node) (name : FnName) (functions : Among FnName) → x ≡ a_term.Named name → b ≡ bare → functions ≡ Only (name ∷ []) → IsNodeOf (leaf_of (view_term x)) (record b { functions = functions })
named_node x b name functions e is one =
    at_leaf x (plain.NamedTerm (function_of name)) _ (ap view_term e ∙ named_seen name)
    (subst (λ (zs : Among FnName). IsNodeOf (plain.NamedTerm (function_of name)) (record b { functions = zs })) (sym one)
    (subst (λ (m : Node). IsNodeOf (plain.NamedTerm (function_of name)) (record m { functions = Only (name ∷ []) })) (sym is) (name_node name)))

bare_by : (x : code.TypeTerm.TypeTerm) (t : plain.TypeTerm) → view_term x ≡ t → leaf_of t ≡ plain.NeverTerm → leaf_of (view_term x) ≡ plain.NeverTerm
bare_by x t e none = ap leaf_of e ∙ none

bare_layer : (f : TypeTerm-F code.TypeTerm.TypeTerm code.Prop.Prop)
    → (part.roll-TypeTerm f ≡ a_term.Unknown → ⊥) → (part.roll-TypeTerm f ≡ a_term.Nil → ⊥) → (part.roll-TypeTerm f ≡ a_term.True → ⊥) → (part.roll-TypeTerm f ≡ a_term.False → ⊥)
    → (part.roll-TypeTerm f ≡ a_term.Number → ⊥) → (part.roll-TypeTerm f ≡ a_term.Other → ⊥) → (part.roll-TypeTerm f ≡ a_term.Table → ⊥) → (part.roll-TypeTerm f ≡ a_term.AnyString → ⊥)
    → (part.roll-TypeTerm f ≡ a_term.Function → ⊥) → ((text : List ℕ) → part.roll-TypeTerm f ≡ a_term.Str text → ⊥) → ((name : FnName) → part.roll-TypeTerm f ≡ a_term.Named name → ⊥)
    → leaf_of (view_term (part.roll-TypeTerm f)) ≡ plain.NeverTerm
bare_layer layer.Never u n t f m o a s fn x y = bare_by _ _ (ap view_term a_term.rolls-Never ∙ never_seen) refl
bare_layer layer.Unknown u n t f m o a s fn x y = absurd (u a_term.rolls-Unknown)
bare_layer layer.Nil u n t f m o a s fn x y = absurd (n a_term.rolls-Nil)
bare_layer layer.True u n t f m o a s fn x y = absurd (t a_term.rolls-True)
bare_layer layer.False u n t f m o a s fn x y = absurd (f a_term.rolls-False)
bare_layer layer.Number u n t f m o a s fn x y = absurd (m a_term.rolls-Number)
bare_layer layer.AnyString u n t f m o a s fn x y = absurd (s a_term.rolls-AnyString)
bare_layer layer.Function u n t f m o a s fn x y = absurd (fn a_term.rolls-Function)
bare_layer layer.Other u n t f m o a s fn x y = absurd (o a_term.rolls-Other)
bare_layer layer.Table u n t f m o a s fn x y = absurd (a a_term.rolls-Table)
bare_layer (layer.Str text) u n t f m o a s fn x y = absurd (x text (a_term.rolls-Str text))
bare_layer (layer.Named name) u n t f m o a s fn x y = absurd (y name (a_term.rolls-Named name))
bare_layer (layer.Props frozen list) u n t f m o a s fn x y = bare_by _ _ (ap view_term (a_term.rolls-Props frozen list) ∙ row_seen frozen list) refl
bare_layer (layer.Union list) u n t f m o a s fn x y = bare_by _ _ (ap view_term (a_term.rolls-Union list) ∙ union_seen list) refl
bare_layer (layer.Meet list) u n t f m o a s fn x y = bare_by _ _ (ap view_term (a_term.rolls-Meet list) ∙ meet_seen list) refl
bare_layer (layer.Not of) u n t f m o a s fn x y = bare_by _ _ (ap view_term (a_term.rolls-Not of) ∙ not_seen of) refl

pub bare_node : (x : code.TypeTerm.TypeTerm) (b : Node) → b ≡ bare
    → (x ≡ a_term.Unknown → ⊥) → (x ≡ a_term.Nil → ⊥) → (x ≡ a_term.True → ⊥) → (x ≡ a_term.False → ⊥) → (x ≡ a_term.Number → ⊥) → (x ≡ a_term.Other → ⊥) → (x ≡ a_term.Table → ⊥)
    → (x ≡ a_term.AnyString → ⊥) → (x ≡ a_term.Function → ⊥) → ((text : List ℕ) → x ≡ a_term.Str text → ⊥) → ((name : FnName) → x ≡ a_term.Named name → ⊥)
    → IsNodeOf (leaf_of (view_term x)) b
bare_node x b is u n t f m o a s fn y z =
    subst (λ (k : plain.TypeTerm). IsNodeOf k b) (sym none) (subst (λ (k : Node). IsNodeOf plain.NeverTerm k) (sym is) (record { refs = refl; literals = refl; means = λ of. refl }))
  where
    r : part.roll-TypeTerm (part.out-TypeTerm x) ≡ x
    r = part.roll-out-TypeTerm x

    none : leaf_of (view_term x) ≡ plain.NeverTerm
    none =
        ap (λ (k : code.TypeTerm.TypeTerm). leaf_of (view_term k)) (sym r)
        ∙ bare_layer (part.out-TypeTerm x) (λ e. u (sym r ∙ e)) (λ e. n (sym r ∙ e)) (λ e. t (sym r ∙ e)) (λ e. f (sym r ∙ e)) (λ e. m (sym r ∙ e)) (λ e. o (sym r ∙ e)) (λ e. a (sym r ∙ e))
        (λ e. s (sym r ∙ e)) (λ e. fn (sym r ∙ e)) (λ text e. y text (sym r ∙ e)) (λ name e. z name (sym r ∙ e))
