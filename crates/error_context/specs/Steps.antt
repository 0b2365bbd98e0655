-- What becomes of the two sides of a pair.
use Rattle.std.specs.Prelude.{Bool}
use Rattle.type_arena.specs.Term.{Term}
use Rattle.type_arena.specs.declared.node.TypeRef.{TypeRef}
use Rattle.type_normal.specs.Operations.{union, meet, not_free}
use Rattle.type_normal.specs.HeapFree.{strip, strip_at}
use Rattle.type_normal.specs.Cut.{cut_down}
use Rattle.type_normal.specs.Rows.{is_normal}
use Rattle.error_context.specs.Entries.{is_cut}
use Rattle.error_context.specs.declared.steps.Step.{Step}
use Rattle.error_context.specs.declared.steps.Step.TheVariants.{Join, Meet, Strip, StripAt, Complement}

abbrev pub step_term : Step → Term → Term → Term
step_term Join left right = cut_down (union left right)
step_term Meet left right = cut_down (meet left right)
step_term Strip left right = strip left
step_term (StripAt name) left right = strip_at name left
step_term Complement left right = not_free left

-- whether a step takes a type: what a condition says need not be cut
abbrev pub takes : Step → Term → Bool
takes Join type = is_cut type
takes Meet type = is_cut type
takes Strip type = is_cut type
takes (StripAt name) type = is_cut type
takes Complement type = is_normal type

-- what becomes of two references, once it is known what references mean
abbrev pub made_of : Step → (TypeRef → Term) → TypeRef → TypeRef → Term
made_of step means left right = step_term step (means left) (means right)
