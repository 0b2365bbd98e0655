use Rattle.std.proofs.Common.{◌+◌, ◌*◌, take}
use Rattle.luau_tree.specs.View.{view_type, view_types, view_props}
use Rattle.type_arena.specs.Store.{field_types}
use Rattle.annotations.specs.Lowered.{raw_fields}
use Rattle.type_lower.specs.Joined.{all_joined}
use Rattle.type_lower.specs.Made.{Made, MadeFields}
use Rattle.type_lower.specs.Visible.{known_in}
use Rattle.type_lower.specs.Weight.{weight, weight_of_types, weight_of_props}
use Rattle.type_lower.proofs.lowering.+forms.Given as goal

abbrev pub decreases-raw_form : goal.decreases-raw_form
decreases-raw_form l = 3 * weight (view_type l.typ.now)

abbrev pub decreases-raw_type : goal.decreases-raw_type
decreases-raw_type l = 3 * weight (view_type l.typ.now) + 1

abbrev pub decreases-raw_list : goal.decreases-raw_list
decreases-raw_list l = 3 * weight_of_types (view_types l.types.now) + 2

abbrev pub decreases-raw_table : goal.decreases-raw_table
decreases-raw_table l = 3 * weight_of_props (view_props l.props.now) + 2

-- the types so far, as one
abbrev pub invariant-raw_list-loop-typ : goal.invariant-raw_list-loop-typ
invariant-raw_list-loop-typ l = Made l.fn.arena l.arena (field_types l.aliases) l.at (all_joined l.choice (known_in l.fn.arena l.aliases) (view_types (take (l.typ-index + 1) l.fn.types)))

-- the fields so far
abbrev pub invariant-raw_table-loop-prop : goal.invariant-raw_table-loop-prop
invariant-raw_table-loop-prop l = MadeFields l.initial.arena l.arena (field_types l.aliases) l.fields.entries (raw_fields (known_in l.initial.arena l.aliases) (view_props (take l.prop-index l.props)))
