-- What becomes of a list of parts, as code goes through it: the first, and then the others.
use Rattle.std.proofs.Common.{◌≡◌, ℕ, ◌-◌, ◌≤◌, List, length, get_or, take, drop, sym, ap, ◌∙◌}
use Rattle.luau_tree.specs.declared.tree as code
use Rattle.luau_tree.specs.declared.tree.Item.TheVariants as an_item
use Rattle.luau_tree.specs.declared.tree.PropKey.TheVariants as a_key
use Rattle.luau_tree.specs.declared.tree.ExprKind.TheViews as part
use Rattle.luau_tree.specs.Tree as plain
use Rattle.luau_tree.specs.View.{view_arms, view_bind, view_binds, view_block, view_choices, view_expr, view_exprs, view_gens, view_item, view_items, view_maybe_type, view_props, view_prop_key, view_stat_kind, view_stats, view_type, view_types}
use Rattle.luau_scope.specs.declared.within.Within.{Within}
use Rattle.luau_scope.specs.declared.walker.Walker.{Walker}
use Rattle.luau_scope.specs.declared.refusal.Refusal.TheVariants.{GenericPack}
use Rattle.luau_scope.specs.Finds as finds
use Rattle.luau_scope.specs.Steps.{after_aims, after_arms, after_block, after_choices, after_expr, after_exprs, after_gens, after_items, after_maybe_type, after_own, after_params, after_part, after_props, after_stat, after_stats, after_targets, after_type, after_types}
use Rattle.luau_scope.proofs.AfterExprs.{field_item, keyed_item, more_choices, more_exprs, plain_item}
use Rattle.luau_scope.proofs.AfterTypes.{indexer_prop, more_gens, more_types, named_prop}
use Rattle.luau_scope.proofs.AfterLocals.{more_params, more_targets}
use Rattle.luau_scope.proofs.AfterStats.{more_arms, more_stats}
use Rattle.luau_scope.proofs.Layers.{arm_layer, bind_layer, choice_layer, gen_layer, prop_layer, stat_layer}
use Rattle.luau_tree.proofs.Views.{field_item_seen, indexer_key_seen, keyed_item_seen, name_key_seen, plain_item_seen}
use Rattle.luau_scope.proofs.Splits.{first_of_some}

pub types_visit : (w : Within) (xs : List code.TypeSyntax.TypeSyntax) (x : code.TypeSyntax.TypeSyntax) (s : Walker) → 1 ≤ length xs → x ≡ get_or xs 0 x
    → after_types w (view_types xs) s ≡ (let rest = take (length xs - 1) (drop 1 xs) in after_types w (view_types rest) (after_type w (view_type x) s))
types_visit w xs x s h e =
    let rest = take (length xs - 1) (drop 1 xs) in
    ap (λ (ys : List code.TypeSyntax.TypeSyntax). after_types w (view_types ys) s) (first_of_some xs x h e)
    ∙ more_types w (view_type x) (view_types rest) s

pub exprs_visit : (w : Within) (xs : List code.Expr.Expr) (x : code.Expr.Expr) (s : Walker) → 1 ≤ length xs → x ≡ get_or xs 0 x
    → after_exprs w (view_exprs xs) s ≡ (let rest = take (length xs - 1) (drop 1 xs) in after_exprs w (view_exprs rest) (after_expr w (view_expr x) s))
exprs_visit w xs x s h e =
    let rest = take (length xs - 1) (drop 1 xs) in
    ap (λ (ys : List code.Expr.Expr). after_exprs w (view_exprs ys) s) (first_of_some xs x h e)
    ∙ more_exprs w (view_expr x) (view_exprs rest) s

pub targets_visit : (w : Within) (earlier : List ℕ) (xs : List code.Expr.Expr) (x : code.Expr.Expr) (s : Walker) → 1 ≤ length xs → x ≡ get_or xs 0 x
    → after_targets w earlier (view_exprs xs) s ≡ (let rest = take (length xs - 1) (drop 1 xs) in after_aims w earlier (view_expr x) (view_exprs rest) (after_expr w (view_expr x) s))
targets_visit w earlier xs x s h e =
    let rest = take (length xs - 1) (drop 1 xs) in
    ap (λ (ys : List code.Expr.Expr). after_targets w earlier (view_exprs ys) s) (first_of_some xs x h e)
    ∙ more_targets w earlier (view_expr x) (view_exprs rest) s

pub choices_visit : (w : Within) (xs : List code.Choice.Choice) (x : code.Choice.Choice) (s : Walker) → 1 ≤ length xs → x ≡ get_or xs 0 x
    → after_choices w (view_choices xs) s ≡ (let rest = take (length xs - 1) (drop 1 xs) in after_choices w (view_choices rest) (after_expr w (view_expr x.value) (after_expr w (view_expr x.cond) s)))
choices_visit w xs x s h e =
    let rest = take (length xs - 1) (drop 1 xs) in
    ap (λ (ys : List code.Choice.Choice). after_choices w (view_choices ys) s) (first_of_some xs x h e)
    ∙ ap (λ (p : plain.Expr × plain.Expr). after_choices w (plain.more_choices p.0 p.1 (view_choices rest)) s) (choice_layer x)
    ∙ more_choices w (view_expr x.cond) (view_expr x.value) (view_choices rest) s

pub arms_visit : (w : Within) (xs : List code.Arm.Arm) (x : code.Arm.Arm) (s : Walker) → 1 ≤ length xs → x ≡ get_or xs 0 x
    → after_arms w (view_arms xs) s ≡ (let rest = take (length xs - 1) (drop 1 xs) in after_arms w (view_arms rest) (after_block w (view_block (part.out-Arm x).block) (after_expr w (view_expr (part.out-Arm x).cond) s)))
arms_visit w xs x s h e =
    let rest = take (length xs - 1) (drop 1 xs) in
    ap (λ (ys : List code.Arm.Arm). after_arms w (view_arms ys) s) (first_of_some xs x h e)
    ∙ ap (λ (p : plain.Expr × plain.Block). after_arms w (plain.more_arms p.0 p.1 (view_arms rest)) s) (arm_layer x)
    ∙ more_arms w (view_expr (part.out-Arm x).cond) (view_block (part.out-Arm x).block) (view_arms rest) s

pub gens_visit : (w : Within) (xs : List code.Gen.Gen) (x : code.Gen.Gen) (s : Walker) → 1 ≤ length xs → x ≡ get_or xs 0 x
    → after_gens w (view_gens xs) s ≡ (let rest = take (length xs - 1) (drop 1 xs) in after_gens w (view_gens rest) (after_maybe_type w (view_maybe_type (part.out-Gen x).default) (after_part (finds.refused_if (part.out-Gen x).pack GenericPack (part.out-Gen x).span) s)))
gens_visit w xs x s h e =
    let rest = take (length xs - 1) (drop 1 xs) in
    ap (λ (ys : List code.Gen.Gen). after_gens w (view_gens ys) s) (first_of_some xs x h e)
    ∙ ap (λ (g : plain.Gen). after_gens w (plain.more_gens g (view_gens rest)) s) (gen_layer x)
    ∙ more_gens w (part.out-Gen x).name (part.out-Gen x).span (part.out-Gen x).pack (view_maybe_type (part.out-Gen x).default) (view_gens rest) s

pub params_visit : (w : Within) (xs : List code.Bind.Bind) (x : code.Bind.Bind) (s : Walker) → 1 ≤ length xs → x ≡ get_or xs 0 x
    → after_params w (view_binds xs) s ≡ (let rest = take (length xs - 1) (drop 1 xs) in after_params w (view_binds rest) (after_maybe_type w (view_maybe_type (part.out-Bind x).typ) (after_own w (view_bind x) s)))
params_visit w xs x s h e =
    let rest = take (length xs - 1) (drop 1 xs) in
    ap (λ (ys : List code.Bind.Bind). after_params w (view_binds ys) s) (first_of_some xs x h e)
    ∙ ap (λ (b : plain.Bind). after_params w (plain.more_binds b (view_binds rest)) s) (bind_layer x)
    ∙ more_params w (part.out-Bind x).name (part.out-Bind x).span (view_maybe_type (part.out-Bind x).typ) (view_binds rest) s
    ∙ ap (λ (b : plain.Bind). after_params w (view_binds rest) (after_maybe_type w (view_maybe_type (part.out-Bind x).typ) (after_own w b s))) (sym (bind_layer x))

pub stats_visit : (w : Within) (xs : List code.Stat.Stat) (x : code.Stat.Stat) (s : Walker) → 1 ≤ length xs → x ≡ get_or xs 0 x
    → after_stats w (view_stats xs) s ≡ (let rest = take (length xs - 1) (drop 1 xs) in after_stats w (view_stats rest) (after_stat w x.span (view_stat_kind x.kind) s))
stats_visit w xs x s h e =
    let rest = take (length xs - 1) (drop 1 xs) in
    ap (λ (ys : List code.Stat.Stat). after_stats w (view_stats ys) s) (first_of_some xs x h e)
    ∙ ap (λ (t : plain.Stat). after_stats w (plain.more_stats t (view_stats rest)) s) (stat_layer x)
    ∙ more_stats w x.span (view_stat_kind x.kind) (view_stats rest) s

-- ## Items and properties

-- the first item, by its plain form
items_first : (w : Within) (xs : List code.Item.Item) (x : code.Item.Item) (seen : plain.Item) (s : Walker) → 1 ≤ length xs → x ≡ get_or xs 0 x → view_item x ≡ seen
    → after_items w (view_items xs) s ≡ after_items w (plain.more_items seen (view_items (take (length xs - 1) (drop 1 xs)))) s
items_first w xs x seen s h e f =
    ap (λ (ys : List code.Item.Item). after_items w (view_items ys) s) (first_of_some xs x h e)
    ∙ ap (λ (i : plain.Item). after_items w (plain.more_items i (view_items (take (length xs - 1) (drop 1 xs)))) s) f

pub field_visit : (w : Within) (xs : List code.Item.Item) (x : code.Item.Item) (name : List ℕ) (value : code.Expr.Expr) (s : Walker) → 1 ≤ length xs → x ≡ get_or xs 0 x → x ≡ an_item.Field name value
    → after_items w (view_items xs) s ≡ after_items w (view_items (take (length xs - 1) (drop 1 xs))) (after_expr w (view_expr value) s)
field_visit w xs x name value s h e f = items_first w xs x (plain.Field name (view_expr value)) s h e (ap view_item f ∙ field_item_seen name value) ∙ field_item w name (view_expr value) _ s

pub plain_visit : (w : Within) (xs : List code.Item.Item) (x : code.Item.Item) (value : code.Expr.Expr) (s : Walker) → 1 ≤ length xs → x ≡ get_or xs 0 x → x ≡ an_item.Plain value
    → after_items w (view_items xs) s ≡ after_items w (view_items (take (length xs - 1) (drop 1 xs))) (after_expr w (view_expr value) s)
plain_visit w xs x value s h e f = items_first w xs x (plain.Plain (view_expr value)) s h e (ap view_item f ∙ plain_item_seen value) ∙ plain_item w (view_expr value) _ s

pub keyed_visit : (w : Within) (xs : List code.Item.Item) (x : code.Item.Item) (key value : code.Expr.Expr) (s : Walker) → 1 ≤ length xs → x ≡ get_or xs 0 x → x ≡ an_item.Keyed key value
    → after_items w (view_items xs) s ≡ after_items w (view_items (take (length xs - 1) (drop 1 xs))) (after_expr w (view_expr value) (after_expr w (view_expr key) s))
keyed_visit w xs x key value s h e f =
    items_first w xs x (plain.Keyed (view_expr key) (view_expr value)) s h e (ap view_item f ∙ keyed_item_seen key value) ∙ keyed_item w (view_expr key) (view_expr value) _ s

props_first : (w : Within) (xs : List code.Prop.Prop) (x : code.Prop.Prop) (s : Walker) → 1 ≤ length xs → x ≡ get_or xs 0 x
    → after_props w (view_props xs) s ≡ after_props w (plain.more_props (plain.the_prop x.access (view_prop_key x.key) (view_type x.typ)) (view_props (take (length xs - 1) (drop 1 xs)))) s
props_first w xs x s h e =
    ap (λ (ys : List code.Prop.Prop). after_props w (view_props ys) s) (first_of_some xs x h e)
    ∙ ap (λ (p : plain.Prop). after_props w (plain.more_props p (view_props (take (length xs - 1) (drop 1 xs)))) s) (prop_layer x)

pub named_visit : (w : Within) (xs : List code.Prop.Prop) (x : code.Prop.Prop) (name : List ℕ) (s : Walker) → 1 ≤ length xs → x ≡ get_or xs 0 x → x.key ≡ a_key.Name name
    → after_props w (view_props xs) s ≡ after_props w (view_props (take (length xs - 1) (drop 1 xs))) (after_type w (view_type x.typ) s)
named_visit w xs x name s h e f =
    props_first w xs x s h e
    ∙ ap (λ (k : plain.PropKey). after_props w (plain.more_props (plain.the_prop x.access k (view_type x.typ)) (view_props (take (length xs - 1) (drop 1 xs)))) s) (ap view_prop_key f ∙ name_key_seen name)
    ∙ named_prop w x.access name (view_type x.typ) _ s

pub indexer_visit : (w : Within) (xs : List code.Prop.Prop) (x : code.Prop.Prop) (key : code.TypeSyntax.TypeSyntax) (s : Walker) → 1 ≤ length xs → x ≡ get_or xs 0 x → x.key ≡ a_key.Indexer key
    → after_props w (view_props xs) s ≡ after_props w (view_props (take (length xs - 1) (drop 1 xs))) (after_type w (view_type x.typ) (after_type w (view_type key) s))
indexer_visit w xs x key s h e f =
    props_first w xs x s h e
    ∙ ap (λ (k : plain.PropKey). after_props w (plain.more_props (plain.the_prop x.access k (view_type x.typ)) (view_props (take (length xs - 1) (drop 1 xs)))) s) (ap view_prop_key f ∙ indexer_key_seen key)
    ∙ indexer_prop w x.access (view_type key) (view_type x.typ) _ s
