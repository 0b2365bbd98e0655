-- What stands behind each item of a list.
use Rattle.std.specs.Prelude.{Bool, List, [], ◌∷◌}
use Rattle.luau_tree.specs.Tree.{Exprs, no_exprs, more_exprs, Items, no_items, more_items}
use Rattle.report_rules.specs.Rules.{Rules}
use Rattle.report_rules.specs.Effects.{any_effects, effects_of_items}

-- for each expression of a list, whether one behind it has effects
abbrev pub later_effects : Rules → Exprs → List Bool
later_effects rules no_exprs = []
later_effects rules (more_exprs e rest) = any_effects rules rest ∷ later_effects rules rest

-- for each item of a table constructor, whether one behind it has effects
abbrev pub later_items : Rules → Items → List Bool
later_items rules no_items = []
later_items rules (more_items item rest) = effects_of_items rules rest ∷ later_items rules rest
