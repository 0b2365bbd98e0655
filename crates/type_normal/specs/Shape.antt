-- What the rows of a type amount to: whether they are heap-free, their depth, counted up to 9, and whether they are at most
-- 16 at every depth.
use Rattle.std.specs.Prelude.{◌≡◌, ◌+◌, min, max, ℕ, Bool, true, ◌&&◌, ◌||◌, nat_le, Some, List, [], ◌∷◌}
use Rattle.std.specs.HashMap.{get, HashMap}
use Rattle.std.specs.declared.hash.FoldHasher.{FoldHasher}
use Rattle.std.specs.declared.hash.BuildHasherDefault.{BuildHasherDefault}
use Rattle.type_arena.specs.Term.{Term, term, Rows, Fields}
use Rattle.type_arena.specs.Meaning.{term_of, rank}
use Rattle.type_arena.specs.Store.{Store}
use Rattle.type_arena.specs.declared.node.TypeRef.{TypeRef}
use Rattle.type_arena.specs.contracts.node.TypeRefPartialEq.TheImpl as TypeRefEq
use Rattle.type_normal.specs.HeapFree.{heap_free_rows, heap_free_fields}
use Rattle.type_normal.specs.Cut.{depth_of_rows, depth_of_fields, count_rows, rows_have_few, fields_have_few}
use Rattle.type_normal.specs.declared.shape.Shape.{Shape}

-- the shape of no rows and no fields
abbrev pub no_shape : Shape
no_shape = record { heap_free = true; depth = 0; few_rows = true }

abbrev pub shape_of_fields : Fields → Shape
shape_of_fields fields = record { heap_free = heap_free_fields fields; depth = min (depth_of_fields fields) 9; few_rows = fields_have_few 16 fields }

abbrev pub shape_of_rows : Rows → Shape
shape_of_rows rows = record { heap_free = heap_free_rows rows; depth = min (depth_of_rows rows) 9; few_rows = rows_have_few 16 rows }

abbrev pub shape_of : Term → Shape
shape_of (term free rows) = record (shape_of_rows rows) { few_rows = nat_le (count_rows rows) 16 && rows_have_few 16 rows }

-- two parts together
abbrev pub both_shapes : Shape → Shape → Shape
both_shapes a b = record { heap_free = a.heap_free && b.heap_free; depth = max a.depth b.depth; few_rows = a.few_rows && b.few_rows }

-- a type as that of a field
abbrev pub as_field : Shape → Shape
as_field a = record a { depth = min (1 + a.depth) 9 }

-- fields as those of a row
abbrev pub as_row : Bool → Bool → Shape → Shape
as_row bare frozen a = record a { heap_free = bare || (frozen && a.heap_free) }

-- a memory of shapes
abbrev pub Shapes : Type 0
Shapes = HashMap TypeRef Shape (BuildHasherDefault FoldHasher)

-- what is remembered is right
abbrev pub IsRight : Store → Shapes → Type 0
IsRight store known = (at : TypeRef) (shape : Shape) → get TypeRefEq.ghosts.eq known at ≡ Some shape → shape ≡ shape_of (term_of store at)

-- one more than the greatest rank of some references, and 0 without any
abbrev pub ranks : Store → List TypeRef → ℕ
ranks store [] = 0
ranks store (at ∷ ats) = max (1 + rank store at) (ranks store ats)
