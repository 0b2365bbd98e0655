-- Lists of rows, one behind the other, and where a field goes among fields in order.
use Rattle.std.specs.Prelude.{ℕ, suc, List, [], ◌∷◌, Result, Ok, Err}
use Rattle.type_arena.specs.Term.{Rows, no_rows, more_rows}
use Rattle.type_arena.specs.declared.node.TypeRef.{TypeRef}
use Rattle.type_normal.specs.Free.{name_cmp}
use Rattle.type_normal.specs.Members.{by_order}

abbrev pub append_rows : Rows → Rows → Rows
append_rows no_rows others = others
append_rows (more_rows frozen fields rows) others = more_rows frozen fields (append_rows rows others)

-- one place further on
abbrev pub further : Result ℕ ℕ → Result ℕ ℕ
further (Ok n) = Ok (suc n)
further (Err n) = Err (suc n)

-- where the field of a name is, or else where it would go
abbrev pub name_place : List ℕ → List (List ℕ × TypeRef) → Result ℕ ℕ
name_place name [] = Err 0
name_place name (field ∷ fields) = by_order (name_cmp name field.0) (Err 0) (Ok 0) (further (name_place name fields))
