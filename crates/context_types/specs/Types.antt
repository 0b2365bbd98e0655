-- What sets and contexts in the arena of the types mean.
use Rattle.std.specs.Prelude.{List}
use Rattle.type_arena.specs.Arena.{store_of}
use Rattle.type_arena.specs.Meaning.{term_of}
use Rattle.type_arena.specs.Term.{Term}
use Rattle.type_arena.specs.declared.arena.Arena.{Arena}
use Rattle.type_arena.specs.declared.node.TypeRef.{TypeRef}
use Rattle.error_context.specs.Entries.{context_of}
use Rattle.error_context.specs.declared.context.Context.{Context as ContextRef}
use Rattle.report_rules.specs.Context.{Context}
use Rattle.context_types.specs.declared.types.ContextTypes.{ContextTypes}

-- the arena
abbrev pub arena_of : ContextTypes → Arena
arena_of types = types.arena

-- the types that came from elsewhere
abbrev pub outside_of : ContextTypes → List TypeRef
outside_of types = types.outside.now

-- what a set means, and what a context means
abbrev pub set_in : ContextTypes → TypeRef → Term
set_in types at = term_of (store_of (arena_of types)) at

abbrev pub context_in : ContextTypes → ContextRef → Context
context_in types context = context_of (arena_of types) context.entries
