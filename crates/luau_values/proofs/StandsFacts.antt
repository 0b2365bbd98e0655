-- Facts on values that stand in a heap.
use Rattle.std.proofs.Common.{ℕ, zero, suc, ◌≤◌, List, [], ◌∷◌, length, arith}
use Rattle.luau_values.specs.Value.{Value, Nil, Truth, Num, Str, Tab, Lit, Builtin, Other}
use Rattle.luau_values.specs.Heap.{Field, Heap, value_of, field_of, with_table, with_field, with_frozen}
use Rattle.luau_values.specs.Start.{start_heap}
use Rattle.luau_values.specs.Later.{Later}
use Rattle.luau_values.specs.Stands.{Stands, FieldsStand}
use Rattle.luau_values.proofs.HeapFacts.{no_fewer, freeze_reads, freeze_later, table_later, write_adds_none, table_adds_one, written_reads}
use Rattle.luau_values.proofs.StartFacts.{start_reads}

-- where there are no fewer tables, what stood stands
stands_on : (h g : Heap) (v : Value) → length h ≤ length g → Stands h v → Stands g v
stands_on h g (Tab a) l s = omega (arith, l, s)
stands_on h g Nil l s = tt
stands_on h g (Truth b) l s = tt
stands_on h g (Num t) l s = tt
stands_on h g (Str b) l s = tt
stands_on h g (Lit m f c) l s = tt
stands_on h g (Builtin p) l s = tt
stands_on h g (Other n) l s = tt

pub stands_later : (h g : Heap) (v : Value) → Later h g → Stands h v → Stands g v
stands_later h g v l s = stands_on h g v (no_fewer h g l) s

-- what a field reads as with a new table is what it read as before, or a field of that table, or nil
table_reads : (P : Value → Type 0) (h : Heap) (fields : List Field) (b : ℕ) (name : List ℕ) → P Nil → P (value_of name fields) → P (field_of h b name)
    → P (field_of (with_table fields h) b name)
table_reads P [] fields zero name none new old = new
table_reads P [] fields (suc b) name none new old = none
table_reads P (t ∷ h) fields zero name none new old = old
table_reads P (t ∷ h) fields (suc b) name none new old = table_reads P h fields b name none new old

field_reads : (P : Value → Type 0) (h : Heap) (a b : ℕ) (name other : List ℕ) (value : Value) → P value → P (field_of h b other)
    → P (field_of (with_field a name value h) b other)
field_reads P [] a b name other value new old = old
field_reads P (t ∷ h) zero zero name other value new old = written_reads P name other value t.fields new old
field_reads P (t ∷ h) zero (suc b) name other value new old = old
field_reads P (t ∷ h) (suc a) zero name other value new old = old
field_reads P (t ∷ h) (suc a) (suc b) name other value new old = field_reads P h a b name other value new old

pub start_stands : (paths : List (List ℕ)) → FieldsStand (start_heap paths)
start_stands paths a name = start_reads (Stands (start_heap paths)) paths a name tt (λ path. tt)

pub table_stands : (h : Heap) (fields : List Field) → FieldsStand h → ((name : List ℕ) → Stands (with_table fields h) (value_of name fields))
    → FieldsStand (with_table fields h)
table_stands h fields old new b name =
    table_reads (Stands (with_table fields h)) h fields b name tt (new name) (stands_later h (with_table fields h) (field_of h b name) (table_later h fields) (old b name))

pub write_stands : (h : Heap) (a : ℕ) (name : List ℕ) (value : Value) → FieldsStand h → Stands h value → FieldsStand (with_field a name value h)
write_stands h a name value old new b other =
    let l : length h ≤ length (with_field a name value h) = rw (write_adds_none h a name value) (omega arith) in
    field_reads (Stands (with_field a name value h)) h a b name other value
    (stands_on h (with_field a name value h) value l new)
    (stands_on h (with_field a name value h) (field_of h b other) l (old b other))

pub freeze_stands : (h : Heap) (a : ℕ) → FieldsStand h → FieldsStand (with_frozen a h)
freeze_stands h a old b name =
    rw (freeze_reads h a b name) (stands_later h (with_frozen a h) (field_of h b name) (freeze_later h a) (old b name))

pub new_stands : (h : Heap) (fields : List Field) → Stands (with_table fields h) (Tab (length h))
new_stands h fields = rw (table_adds_one h fields) (omega arith)
