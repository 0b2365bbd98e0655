-- The lists of a tree as lists: a block is the list of its statements, and so on.
use Rattle.std.specs.Prelude.{List, [], ◌∷◌}
use Rattle.luau_tree.specs.Tree.{Arms, Bind, Binds, Block, Choices, Expr, Exprs, Gen, Gens, Item, Items, Prop, Props, Stat, TypeSyntax, TypeSyntaxes}
use Rattle.luau_tree.specs.Tree.{no_arms, more_arms, no_binds, more_binds, no_stats, more_stats, no_choices, more_choices, no_exprs, more_exprs, no_gens, more_gens, no_items, more_items, no_props, more_props, no_types, more_types}

-- the statements, in order
abbrev pub stat_list : Block → List Stat
stat_list no_stats = []
stat_list (more_stats x rest) = x ∷ stat_list rest

-- the expressions, in order
abbrev pub expr_list : Exprs → List Expr
expr_list no_exprs = []
expr_list (more_exprs x rest) = x ∷ expr_list rest

-- the items, in order
abbrev pub item_list : Items → List Item
item_list no_items = []
item_list (more_items x rest) = x ∷ item_list rest

-- the declarations, in order
abbrev pub bind_list : Binds → List Bind
bind_list no_binds = []
bind_list (more_binds x rest) = x ∷ bind_list rest

-- the generics, in order
abbrev pub gen_list : Gens → List Gen
gen_list no_gens = []
gen_list (more_gens x rest) = x ∷ gen_list rest

-- the types, in order
abbrev pub type_list : TypeSyntaxes → List TypeSyntax
type_list no_types = []
type_list (more_types x rest) = x ∷ type_list rest

-- the properties, in order
abbrev pub prop_list : Props → List Prop
prop_list no_props = []
prop_list (more_props x rest) = x ∷ prop_list rest

-- the conditions, each with its block, in order
abbrev pub arm_list : Arms → List (Expr × Block)
arm_list no_arms = []
arm_list (more_arms cond x rest) = (cond, x) ∷ arm_list rest

-- the conditions, each with its value, in order
abbrev pub choice_list : Choices → List (Expr × Expr)
choice_list no_choices = []
choice_list (more_choices cond x rest) = (cond, x) ∷ choice_list rest
