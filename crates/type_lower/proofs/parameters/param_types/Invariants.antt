use Rattle.std.proofs.Common.{take}
use Rattle.luau_tree.specs.View.{view_binds}
use Rattle.type_arena.specs.Store.{field_types}
use Rattle.annotations.specs.Annotated.{param_types}
use Rattle.type_lower.specs.Made.{MadeTypes}
use Rattle.type_lower.specs.Visible.{known_in}
use Rattle.type_lower.proofs.parameters.param_types.Given as goal

-- the types so far
abbrev pub invariant-loop-param : goal.invariant-loop-param
invariant-loop-param l = MadeTypes l.initial.arena l.arena (field_types l.aliases) l.types.items (param_types (known_in l.initial.arena l.aliases) (view_binds (take l.param-index l.params)))
