-- Facts on heaps, by induction on their tables.
use Rattle.std.proofs.Common.{◌≡◌, ◌≢◌, ℕ, zero, suc, ◌<◌, ◌≤◌, Bool, true, false, not, List, [], ◌∷◌, length, slice_get, IsTrue, IsFalse, Option, Some, refl, sym, ◌∙◌, ap, subst, arith, true≢false}
use Rattle.std.specs.Option.{option_map_or}
use Rattle.std.specs.List.{All, AllPairs}
use Rattle.std.specs.Str.{bytes_eq}
use Rattle.std.proofs.lemmas.Slice.Eq.{bytes_eq-Decides}
use Rattle.std.proofs.lemmas.List.Elements.{All-filter, filter_passes}
use Rattle.std.proofs.lemmas.List.Kept.{AllPairs-filter}
use Rattle.luau_values.specs.Value.{Value, Nil, Truth, Num, Str, Tab, Lit, Builtin, Other, is_nil}
use Rattle.luau_values.specs.Heap.{Field, Table, AreFields, Heap, value_of, without, written, is_frozen, field_of, changed, with_table, with_field, with_frozen}
use Rattle.luau_values.specs.Later.{Becomes, Later, Extends}

pub later_refl : (h : Heap) → Later h h
later_refl [] = tt
later_refl (t ∷ h) = (λ f. refl, later_refl h)

pub later_trans : (h g k : Heap) → Later h g → Later g k → Later h k
later_trans [] g k a b = tt
later_trans (t ∷ h) [] k a b = absurd a
later_trans (t ∷ h) (u ∷ g) [] a b = absurd b
later_trans (t ∷ h) (u ∷ g) (w ∷ k) a b =
    (λ f. b.0 (ap (λ (x : Table). x.frozen) (a.0 f) ∙ f) ∙ a.0 f, later_trans h g k a.1 b.1)

pub stays : (h g : Heap) (a : ℕ) → Later h g → IsTrue (is_frozen h a) → slice_get g a ≡ slice_get h a
stays [] g a l f = cc
stays (t ∷ h) [] a l f = absurd l
stays (t ∷ h) (u ∷ g) zero l f = ap Some (l.0 f)
stays (t ∷ h) (u ∷ g) (suc a) l f = stays h g a l.1 f

pub no_fewer : (h g : Heap) → Later h g → length h ≤ length g
no_fewer [] g l = omega arith
no_fewer (t ∷ h) [] l = absurd l
no_fewer (t ∷ h) (u ∷ g) l = let e : length h ≤ length g = no_fewer h g l.1 in omega arith

pub changed_later : (f : Table → Table) (a : ℕ) (h : Heap) → ((t : Table) → slice_get h a ≡ Some t → Becomes t (f t)) → Later h (changed f a h)
changed_later f a [] ok = tt
changed_later f zero (t ∷ h) ok = (ok t refl, later_refl h)
changed_later f (suc a) (t ∷ h) ok = (λ z. refl, changed_later f a h ok)

pub write_later : (h : Heap) (a : ℕ) (name : List ℕ) (value : Value) → IsFalse (is_frozen h a) → Later h (with_field a name value h)
write_later h a name value u =
    changed_later _ a h (λ t e f. absurd (true≢false (sym f ∙ ap (λ (o : Option Table). option_map_or (λ x. x.frozen) o false) (sym e) ∙ u)))

pub freeze_later : (h : Heap) (a : ℕ) → Later h (with_frozen a h)
freeze_later h a = changed_later _ a h (λ t e f. λ i. record { frozen = sym f i; fields = t.fields })

pub table_later : (h : Heap) (fields : List Field) → Later h (with_table fields h)
table_later [] fields = tt
table_later (t ∷ h) fields = (λ z. refl, table_later h fields)

pub extends_refl : (h : Heap) → Extends h h
extends_refl [] = tt
extends_refl (t ∷ h) = (refl, extends_refl h)

-- the tables that were there stay
pub extends_keeps : (h g : Heap) (a : ℕ) (t : Table) → Extends h g → slice_get h a ≡ Some t → slice_get g a ≡ Some t
extends_keeps [] g a t e k = cc
extends_keeps (y ∷ h) [] a t e k = absurd e
extends_keeps (y ∷ h) (u ∷ g) zero t e k = ap Some e.0 ∙ k
extends_keeps (y ∷ h) (u ∷ g) (suc a) t e k = extends_keeps h g a t e.1 k

pub extends_later : (h g : Heap) → Extends h g → Later h g
extends_later [] g e = tt
extends_later (t ∷ h) [] e = absurd e
extends_later (t ∷ h) (u ∷ g) e = (λ z. e.0, extends_later h g e.1)

pub extends_table : (h g : Heap) (fields : List Field) → Extends h g → Extends h (with_table fields g)
extends_table [] g fields e = tt
extends_table (t ∷ h) [] fields e = absurd e
extends_table (t ∷ h) (u ∷ g) fields e = (e.0, extends_table h g fields e.1)

extends_changed : (f : Table → Table) (h g : Heap) (a : ℕ) → Extends h g → length h ≤ a → Extends h (changed f a g)
extends_changed f [] g a e l = tt
extends_changed f (t ∷ h) [] a e l = absurd e
extends_changed f (t ∷ h) (u ∷ g) zero e l = absurd (omega arith)
extends_changed f (t ∷ h) (u ∷ g) (suc a) e l = (e.0, extends_changed f h g a e.1 (omega arith))

pub extends_fill : (h g : Heap) (a : ℕ) (name : List ℕ) (value : Value) → Extends h g → length h ≤ a → Extends h (with_field a name value g)
extends_fill h g a name value e l = extends_changed _ h g a e l

pub same_name : (a b : List ℕ) → a ≡ b → bytes_eq a b ≡ true
same_name a b = (bytes_eq-Decides a b).1

pub other_name : (a b : List ℕ) → a ≢ b → bytes_eq a b ≡ false
other_name a b ne = elim (bytes_eq a b) as (λ t. bytes_eq a b ≡ t → t ≡ false) [ true ↦ λ e. absurd (ne ((bytes_eq-Decides a b).0 e)) | false ↦ λ e. refl ] refl

removed_head : (name : List ℕ) (f : Field) (fields : List Field) (b : Bool) → bytes_eq f.name name ≡ b → value_of name (without name fields) ≡ Nil
    → value_of name (without name (f ∷ fields)) ≡ Nil
removed_head name f fields true e ih = rw e ih
removed_head name f fields false e ih = rw e (rw e ih)

kept_head : (name other : List ℕ) (f : Field) (fields : List Field) (b c : Bool) → name ≢ other → bytes_eq f.name name ≡ b → bytes_eq f.name other ≡ c
    → value_of other (without name fields) ≡ value_of other fields → value_of other (without name (f ∷ fields)) ≡ value_of other (f ∷ fields)
kept_head name other f fields true true ne e d ih =
    absurd (ne (sym ((bytes_eq-Decides f.name name).0 e) ∙ (bytes_eq-Decides f.name other).0 d))
kept_head name other f fields true false ne e d ih = rw (e, d) ih
kept_head name other f fields false true ne e d ih = rw e (rw d refl)
kept_head name other f fields false false ne e d ih = rw e (rw d ih)

-- the other fields stay
kept : (name other : List ℕ) (fields : List Field) → name ≢ other → value_of other (without name fields) ≡ value_of other fields
kept name other [] ne = refl
kept name other (f ∷ fields) ne = kept_head name other f fields (bytes_eq f.name name) (bytes_eq f.name other) ne refl refl (kept name other fields ne)

-- a field that is removed reads as nil
removed : (name : List ℕ) (fields : List Field) → value_of name (without name fields) ≡ Nil
removed name [] = refl
removed name (f ∷ fields) = removed_head name f fields (bytes_eq f.name name) refl (removed name fields)

nil_is : (v : Value) → is_nil v ≡ true → v ≡ Nil
nil_is Nil e = refl
nil_is (Truth b) e = cc
nil_is (Num t) e = cc
nil_is (Str b) e = cc
nil_is (Tab a) e = cc
nil_is (Lit h f c) e = cc
nil_is (Builtin p) e = cc
nil_is (Other k) e = cc

written_same : (name : List ℕ) (value : Value) (fields : List Field) (b : Bool) → is_nil value ≡ b → value_of name (written name value fields) ≡ value
written_same name value fields true e = rw e (removed name fields ∙ sym (nil_is value e))
written_same name value fields false e = rw e (rw (same_name name name refl) refl)

written_other : (name other : List ℕ) (value : Value) (fields : List Field) (b : Bool) → name ≢ other → is_nil value ≡ b
    → value_of other (written name value fields) ≡ value_of other fields
written_other name other value fields true ne e = rw e (kept name other fields ne)
written_other name other value fields false ne e = rw e (rw (other_name name other ne) (kept name other fields ne))

pub write_reads : (h : Heap) (a : ℕ) (name : List ℕ) (value : Value) → a < length h → field_of (with_field a name value h) a name ≡ value
write_reads [] a name value l = absurd (omega arith)
write_reads (t ∷ h) zero name value l = written_same name value t.fields (is_nil value) refl
write_reads (t ∷ h) (suc a) name value l = write_reads h a name value (omega arith)

pub write_leaves : (h : Heap) (a b : ℕ) (name other : List ℕ) (value : Value) → name ≢ other → field_of (with_field a name value h) b other ≡ field_of h b other
write_leaves [] a b name other value ne = refl
write_leaves (t ∷ h) zero zero name other value ne = written_other name other value t.fields (is_nil value) ne refl
write_leaves (t ∷ h) zero (suc b) name other value ne = refl
write_leaves (t ∷ h) (suc a) zero name other value ne = refl
write_leaves (t ∷ h) (suc a) (suc b) name other value ne = write_leaves h a b name other value ne

pub write_marks : (h : Heap) (a b : ℕ) (name : List ℕ) (value : Value) → is_frozen (with_field a name value h) b ≡ is_frozen h b
write_marks [] a b name value = refl
write_marks (t ∷ h) zero zero name value = refl
write_marks (t ∷ h) zero (suc b) name value = refl
write_marks (t ∷ h) (suc a) zero name value = refl
write_marks (t ∷ h) (suc a) (suc b) name value = write_marks h a b name value

elsewhere : (f : Table → Table) (h : Heap) (a b : ℕ) → a ≢ b → slice_get (changed f a h) b ≡ slice_get h b
elsewhere f [] a b ne = refl
elsewhere f (t ∷ h) zero zero ne = absurd (ne refl)
elsewhere f (t ∷ h) zero (suc b) ne = refl
elsewhere f (t ∷ h) (suc a) zero ne = refl
elsewhere f (t ∷ h) (suc a) (suc b) ne = elsewhere f h a b (λ e. ne (ap suc e))

pub write_elsewhere : (h : Heap) (a b : ℕ) (name : List ℕ) (value : Value) → a ≢ b → slice_get (with_field a name value h) b ≡ slice_get h b
write_elsewhere h a b name value ne = elsewhere _ h a b ne

-- a frozen table is another than one that isn't, so a write to that one leaves it
pub write_spares : (h : Heap) (a b : ℕ) (name other : List ℕ) (value : Value) → IsFalse (is_frozen h a) → IsTrue (is_frozen h b)
    → field_of (with_field a name value h) b other ≡ field_of h b other
write_spares h a b name other value loose shut =
    ap (λ (o : Option Table). option_map_or (λ t. value_of other t.fields) o Nil)
    (write_elsewhere h a b name value (λ e. true≢false (sym shut ∙ ap (is_frozen h) (sym e) ∙ loose)))

pub frozen_marks : (h g : Heap) (a : ℕ) → Later h g → IsTrue (is_frozen h a) → IsTrue (is_frozen g a)
frozen_marks h g a l f = ap (λ (o : Option Table). option_map_or (λ t. t.frozen) o false) (stays h g a l f) ∙ f

pub frozen_fields : (h g : Heap) (a : ℕ) (name : List ℕ) → Later h g → IsTrue (is_frozen h a) → field_of g a name ≡ field_of h a name
frozen_fields h g a name l f = ap (λ (o : Option Table). option_map_or (λ t. value_of name t.fields) o Nil) (stays h g a l f)

-- what a field reads as after a write is the written value or what it read as before
pub written_reads : (P : Value → Type 0) (name other : List ℕ) (value : Value) (fields : List Field) → P value → P (value_of other fields)
    → P (value_of other (written name value fields))
written_reads P name other value fields new old =
    elim (bytes_eq name other) as (λ b. bytes_eq name other ≡ b → P (value_of other (written name value fields))) [
      | true ↦ λ e. subst P (sym (ap (λ n. value_of n (written name value fields)) (sym ((bytes_eq-Decides name other).0 e)) ∙ written_same name value fields (is_nil value) refl)) new
      | false ↦ λ e. subst P (sym (written_other name other value fields (is_nil value) (λ same. true≢false (sym (same_name name other same) ∙ e)) refl)) old
    ] refl

pub change_adds_none : (f : Table → Table) (a : ℕ) (h : Heap) → length (changed f a h) ≡ length h
change_adds_none f a [] = refl
change_adds_none f zero (t ∷ h) = refl
change_adds_none f (suc a) (t ∷ h) = ap suc (change_adds_none f a h)

pub write_adds_none : (h : Heap) (a : ℕ) (name : List ℕ) (value : Value) → length (with_field a name value h) ≡ length h
write_adds_none h a name value = change_adds_none _ a h

pub freeze_adds_none : (h : Heap) (a : ℕ) → length (with_frozen a h) ≡ length h
freeze_adds_none h a = change_adds_none _ a h

pub table_adds_one : (h : Heap) (fields : List Field) → length (with_table fields h) ≡ suc (length h)
table_adds_one [] fields = refl
table_adds_one (t ∷ h) fields = ap suc (table_adds_one h fields)

pub new_table : (h : Heap) (fields : List Field) → slice_get (with_table fields h) (length h) ≡ Some (record { frozen = false; fields = fields })
new_table [] fields = refl
new_table (t ∷ h) fields = new_table h fields

pub freeze_freezes : (h : Heap) (a : ℕ) → a < length h → is_frozen (with_frozen a h) a ≡ true
freeze_freezes [] a l = absurd (omega arith)
freeze_freezes (t ∷ h) zero l = refl
freeze_freezes (t ∷ h) (suc a) l = freeze_freezes h a (omega arith)

pub freeze_reads : (h : Heap) (a b : ℕ) (name : List ℕ) → field_of (with_frozen a h) b name ≡ field_of h b name
freeze_reads [] a b name = refl
freeze_reads (t ∷ h) zero zero name = refl
freeze_reads (t ∷ h) zero (suc b) name = refl
freeze_reads (t ∷ h) (suc a) zero name = refl
freeze_reads (t ∷ h) (suc a) (suc b) name = freeze_reads h a b name

pub freeze_elsewhere : (h : Heap) (a b : ℕ) → a ≢ b → slice_get (with_frozen a h) b ≡ slice_get h b
freeze_elsewhere h a b ne = elsewhere _ h a b ne

all_cons : {X : Type 0} (P : X → Type 0) (x : X) (xs : List X) → P x → All P xs → All P (x ∷ xs)
all_cons P x xs p q zero d l = p
all_cons P x xs p q (suc k) d l = q k d (omega arith)

pairs_cons : {X : Type 0} (R : X → X → Type 0) (x : X) (xs : List X) → All (R x) xs → AllPairs R xs → AllPairs R (x ∷ xs)
pairs_cons R x xs a p zero zero d l m = absurd (omega arith)
pairs_cons R x xs a p zero (suc j) d l m = a j d (omega arith)
pairs_cons R x xs a p (suc i) zero d l m = absurd (omega arith)
pairs_cons R x xs a p (suc i) (suc j) d l m = p i j d (omega arith) (omega arith)

pub no_fields : AreFields []
no_fields = (λ i j d l m. absurd (omega arith), λ k d l. absurd (omega arith))

fewer_fields : (name : List ℕ) (fields : List Field) → AreFields fields → AreFields (without name fields)
fewer_fields name fields are =
    (AllPairs-filter (λ f g. f.name ≢ g.name) _ fields are.0, All-filter _ (λ f. IsFalse (is_nil f.value)) fields are.1)

-- the fields without one have other names
other_names : (name : List ℕ) (fields : List Field) → All (λ g. name ≢ g.name) (without name fields)
other_names name fields k d l =
    λ e. absurd (true≢false (sym (filter_passes (λ f. not (bytes_eq f.name name)) fields k d l) ∙ ap not (same_name _ name (sym e))))

written_fields : (name : List ℕ) (value : Value) (fields : List Field) (b : Bool) → is_nil value ≡ b → AreFields fields → AreFields (written name value fields)
written_fields name value fields true e are = rw e (fewer_fields name fields are)
written_fields name value fields false e are =
    rw e (
      pairs_cons (λ f g. f.name ≢ g.name) _ _ (other_names name fields) (fewer_fields name fields are).0,
      all_cons (λ f. IsFalse (is_nil f.value)) _ _ e (fewer_fields name fields are).1,
    )

pub write_keeps_fields : (name : List ℕ) (value : Value) (fields : List Field) → AreFields fields → AreFields (written name value fields)
write_keeps_fields name value fields are = written_fields name value fields (is_nil value) refl are
