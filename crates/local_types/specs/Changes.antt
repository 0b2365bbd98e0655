-- How entries change, and how the entries of two maps make one.
use Rattle.type_arena.specs.Term.{Term}
use Rattle.type_normal.specs.Cut.{cut_up, cut_down}
use Rattle.type_normal.specs.HeapFree.{strip, strip_at, widen, widen_at}
use Rattle.type_normal.specs.Operations.{union, meet}
use Rattle.local_types.specs.declared.changes.Change.{Change}
use Rattle.local_types.specs.declared.changes.Change.TheVariants.{Widen, WidenAt, Strip, StripAt, CutUp}
use Rattle.local_types.specs.declared.changes.How.{How}
use Rattle.local_types.specs.declared.changes.How.TheVariants.{Union, Join, Meet}

-- what a type becomes
abbrev pub changed_by : Change → Term → Term
changed_by Widen type = widen type
changed_by (WidenAt name) type = widen_at name type
changed_by Strip type = strip type
changed_by (StripAt name) type = strip_at name type
changed_by CutUp type = cut_up type

-- what two types make
abbrev pub combined_by : How → Term → Term → Term
combined_by Union type other = union type other
combined_by Join type other = cut_down (union type other)
combined_by Meet type other = cut_down (meet type other)
