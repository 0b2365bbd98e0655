-- Facts on heaps that grow: by new tables, and by freezing.
use Rattle.std.proofs.Common.{◌≡◌, ℕ, zero, suc, ◌<◌, ◌≤◌, List, [], ◌∷◌, length, IsTrue, refl, sym, ◌∙◌, ap, arith}
use Rattle.luau_values.specs.Value.{Value}
use Rattle.luau_values.specs.Heap.{Field, Table, Heap, value_of, is_frozen, field_of, changed, with_table, with_field, with_frozen}
use Rattle.luau_values.specs.Later.{Later, Extends}
use Rattle.luau_values.specs.Grows.{Grows}

pub grows_refl : (h : Heap) → Grows h h
grows_refl [] = tt
grows_refl (t ∷ h) = (refl, λ f. f, grows_refl h)

pub grows_trans : (h g k : Heap) → Grows h g → Grows g k → Grows h k
grows_trans [] g k a b = tt
grows_trans (t ∷ h) [] k a b = absurd a
grows_trans (t ∷ h) (u ∷ g) [] a b = absurd b
grows_trans (t ∷ h) (u ∷ g) (w ∷ k) a b = (b.0 ∙ a.0, λ f. b.1 (a.1 f), grows_trans h g k a.2 b.2)

pub extends_grows : (h g : Heap) → Extends h g → Grows h g
extends_grows [] g e = tt
extends_grows (t ∷ h) [] e = absurd e
extends_grows (t ∷ h) (u ∷ g) e = (ap (λ (x : Table). x.fields) e.0, λ f. ap (λ (x : Table). x.frozen) e.0 ∙ f, extends_grows h g e.1)

-- two tables with one mark and one list of fields are one
same_table : (t u : Table) → u.frozen ≡ t.frozen → u.fields ≡ t.fields → u ≡ t
same_table t u f e = λ i. record { frozen = f i; fields = e i }

pub grows_later : (h g : Heap) → Grows h g → Later h g
grows_later [] g l = tt
grows_later (t ∷ h) [] l = absurd l
grows_later (t ∷ h) (u ∷ g) l = (λ f. same_table t u (l.1 f ∙ sym f) l.0, grows_later h g l.2)

pub table_grows : (h : Heap) (fields : List Field) → Grows h (with_table fields h)
table_grows [] fields = tt
table_grows (t ∷ h) fields = (refl, λ f. f, table_grows h fields)

pub freeze_grows : (h : Heap) (a : ℕ) → Grows h (with_frozen a h)
freeze_grows [] a = tt
freeze_grows (t ∷ h) zero = (refl, λ f. refl, grows_refl h)
freeze_grows (t ∷ h) (suc a) = (refl, λ f. f, freeze_grows h a)

changed_grows : (f : Table → Table) (h g : Heap) (a : ℕ) → Grows h g → length h ≤ a → Grows h (changed f a g)
changed_grows f [] g a l le = tt
changed_grows f (t ∷ h) [] a l le = absurd l
changed_grows f (t ∷ h) (u ∷ g) zero l le = absurd (omega (arith, le))
changed_grows f (t ∷ h) (u ∷ g) (suc a) l le = (l.0, l.1, changed_grows f h g a l.2 (omega (arith, le)))

pub fill_grows : (h g : Heap) (a : ℕ) (name : List ℕ) (value : Value) → Grows h g → length h ≤ a → Grows h (with_field a name value g)
fill_grows h g a name value l le = changed_grows _ h g a l le

pub grown_fields : (h g : Heap) (a : ℕ) (name : List ℕ) → Grows h g → a < length h → field_of g a name ≡ field_of h a name
grown_fields [] g a name l k = absurd (omega (arith, k))
grown_fields (t ∷ h) [] a name l k = absurd l
grown_fields (t ∷ h) (u ∷ g) zero name l k = ap (λ (fields : List Field). value_of name fields) l.0
grown_fields (t ∷ h) (u ∷ g) (suc a) name l k = grown_fields h g a name l.2 (omega (arith, k))

pub grown_marks : (h g : Heap) (a : ℕ) → Grows h g → IsTrue (is_frozen h a) → IsTrue (is_frozen g a)
grown_marks [] g a l f = cc
grown_marks (t ∷ h) [] a l f = absurd l
grown_marks (t ∷ h) (u ∷ g) zero l f = l.1 f
grown_marks (t ∷ h) (u ∷ g) (suc a) l f = grown_marks h g a l.2 f
