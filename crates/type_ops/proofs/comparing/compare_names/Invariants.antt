use Rattle.std.proofs.Common.{◌≡◌, drop}
use Rattle.type_arena.specs.Meaning.{fields_by}
use Rattle.type_arena.specs.Term.{Term}
use Rattle.type_arena.specs.declared.node.TypeRef.{TypeRef}
use Rattle.type_normal.specs.Rows.{names_cmp}
use Rattle.type_ops.proofs.comparing.compare_names.Given as goal

abbrev pub invariant-loop-i : goal.invariant-loop-i
invariant-loop-i l = (means : TypeRef → Term) → names_cmp (fields_by means l.fields) (fields_by means l.others) ≡ names_cmp (fields_by means (drop l.i l.fields)) (fields_by means (drop l.i l.others))
