-- Several sets and contexts at once.
use Rattle.std.specs.Prelude.{Bool, List, [], ◌∷◌}
use Rattle.luau_tree.specs.Tree.{Expr}
use Rattle.type_arena.specs.Term.{Term}
use Rattle.type_arena.specs.declared.node.TypeRef.{TypeRef}
use Rattle.type_normal.specs.Kinds.{field_is}
use Rattle.type_normal.specs.Operations.{union, meet}
use Rattle.error_context.specs.declared.context.Context.{Context as ContextRef}
use Rattle.report_rules.specs.Context.{Context}
use Rattle.report_rules.specs.Rules.{Rules}
use Rattle.report_work.specs.Moves.{and_one, or_one, choice_one}
use Rattle.context_types.specs.declared.deciding.Way.{Way}
use Rattle.context_types.specs.declared.deciding.Way.TheVariants.{And, Or, Choice}
use Rattle.context_types.specs.declared.lists.Each.{Each}
use Rattle.context_types.specs.declared.lists.Each.TheVariants.{FieldIs, UnionWith, MeetWith, Instead}

-- what a set becomes, once it is known what references mean; and the references in that
abbrev pub each_term : (TypeRef → Term) → Each → Term → Term
each_term means (FieldIs name) set = field_is name set
each_term means (UnionWith at) set = union (means at) set
each_term means (MeetWith at) set = meet set (means at)
each_term means (Instead at) set = means at

abbrev pub refs_each : Each → List TypeRef
refs_each (FieldIs name) = []
refs_each (UnionWith at) = at ∷ []
refs_each (MeetWith at) = at ∷ []
refs_each (Instead at) = at ∷ []

-- the context in which nothing makes the code fail, and the first of some
abbrev pub no_context : ContextRef
no_context = record { entries = [] }

abbrev pub first_ref : List ContextRef → ContextRef
first_ref [] = no_context
first_ref (context ∷ contexts) = context

-- what two contexts come to, with a first one, where a condition chooses
abbrev pub way_context : Way → Rules → Expr → (has_effects : Bool) → (first a b : Context) → Context
way_context And rules cond has_effects = and_one rules cond has_effects
way_context Or rules cond has_effects = or_one rules cond has_effects
way_context Choice rules cond has_effects = choice_one rules cond has_effects
