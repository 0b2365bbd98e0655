-- Types that are heap-free: which operations give them, and that they stay true of a value.
use Rattle.std.proofs.Common.{◌≡◌, ℕ, Bool, true, false, not, List, refl, ◌∙◌}
use Rattle.std.specs.Prelude.{◌||◌, ◌&&◌, if◌then◌else◌}
use Rattle.std.specs.Str.{bytes_eq}
use Rattle.std.specs.declared.cmp.Ordering.{Ordering}
use Rattle.std.specs.declared.cmp.Ordering.TheVariants.{Less, Equal, Greater}
use Rattle.type_arena.specs.Term.{Term, term, Rows, no_rows, more_rows, Fields, no_fields, more_fields}
use Rattle.luau_values.specs.Value.{Value}
use Rattle.luau_values.specs.Heap.{Heap, is_frozen, field_of}
use Rattle.luau_values.specs.Later.{Later}
use Rattle.luau_values.proofs.Public.{frozen_marks, frozen_fields}
use Rattle.type_normal.specs.Members.{by_order}
use Rattle.type_normal.specs.Free.{name_cmp}
use Rattle.type_normal.specs.Rows.{row_cmp, put_row, put_rows, rows_in_order, any_table, is_unknown, has_empty, known_fields, put_normal}
use Rattle.type_normal.specs.Holds.{holds, holds_rows, holds_fields}
use Rattle.type_normal.specs.Operations.{union, put_field, meet_each, meet, meet_rows, meet_fields, not_free, fail}
use Rattle.type_normal.specs.HeapFree.{is_bare, heap_free, heap_free_rows, heap_free_fields, heap_free_row, strip_rows, strip, widen, widen_rows, widen_fields, strip_rows_at, strip_at, widen_at, widen_rows_at, widen_fields_at, fields_list}
use Rattle.type_normal.specs.Cut.{is_small, has_any_table, few_values, cut_down, many_values, cut_up}
use Rattle.type_normal.proofs.HoldsFacts.{left, right, both, either, in_left, in_right, belongs-more, put_row_holds, put_normal_holds, in_row}

-- what is left of rows is among them
kept_by : (h : Heap) (a : ℕ) (b c : Bool) (fs : Fields) (r s : Rows) → (holds_rows h a s ≡ true → holds_rows h a r ≡ true)
    → holds_rows h a (if c then more_rows b fs s else s) ≡ true → in_row h a b fs || holds_rows h a r ≡ true
kept_by h a b true fs r s ih e =
    either (in_row h a b fs) (holds_rows h a s) (in_row h a b fs || holds_rows h a r ≡ true) e
    (in_left (in_row h a b fs) (holds_rows h a r)) (λ k. in_right (in_row h a b fs) (holds_rows h a r) (ih k))
kept_by h a b false fs r s ih e = in_right (in_row h a b fs) (holds_rows h a r) (ih e)

strip_rows_below : (h : Heap) (a : ℕ) (r : Rows) → holds_rows h a (strip_rows r) ≡ true → holds_rows h a r ≡ true
strip_rows_below h a no_rows e = e
strip_rows_below h a (more_rows b fs r) e = kept_by h a b (heap_free_row b fs) fs r (strip_rows r) (strip_rows_below h a r) e

pub strip_below : (h : Heap) (v : Value) (t : Term) → holds h v (strip t) ≡ true → holds h v t ≡ true
strip_below h v (term f r) = belongs-more f (λ a. holds_rows h a (strip_rows r)) (λ a. holds_rows h a r) v (λ a. strip_rows_below h a r)

strip_rows_at_below : (h : Heap) (a : ℕ) (p : List ℕ) (r : Rows) → holds_rows h a (strip_rows_at p r) ≡ true → holds_rows h a r ≡ true
strip_rows_at_below h a p no_rows e = e
strip_rows_at_below h a p (more_rows b fs r) e =
    kept_by h a b (heap_free_row b fs || not (fields_list p fs)) fs r (strip_rows_at p r) (strip_rows_at_below h a p r) e

pub strip_at_below : (h : Heap) (v : Value) (p : List ℕ) (t : Term) → holds h v (strip_at p t) ≡ true → holds h v t ≡ true
strip_at_below h v p (term f r) = belongs-more f (λ a. holds_rows h a (strip_rows_at p r)) (λ a. holds_rows h a r) v (λ a. strip_rows_at_below h a p r)

any_table_below : (h : Heap) (a : ℕ) (r : Rows) → has_any_table r ≡ true → holds_rows h a r ≡ true
any_table_below h a no_rows e = cc
any_table_below h a (more_rows false no_fields r) e = refl
any_table_below h a (more_rows false (more_fields p t fs) r) e = in_right (in_row h a false (more_fields p t fs)) (holds_rows h a r) (any_table_below h a r e)
any_table_below h a (more_rows true fs r) e = in_right (in_row h a true fs) (holds_rows h a r) (any_table_below h a r e)

few_below : (h : Heap) (a : ℕ) (r : Rows) (b : Bool) → has_any_table r ≡ b → holds_rows h a (if b then any_table else no_rows) ≡ true → holds_rows h a r ≡ true
few_below h a r true e k = any_table_below h a r e
few_below h a r false e k = cc

cut_down_by : (h : Heap) (v : Value) (t : Term) (b : Bool) → holds h v (if b then t else few_values t) ≡ true → holds h v t ≡ true
cut_down_by h v t true e = e
cut_down_by h v (term f r) false e =
    belongs-more f (λ a. holds_rows h a (if has_any_table r then any_table else no_rows)) (λ a. holds_rows h a r) v (λ a. few_below h a r (has_any_table r) refl) e

pub cut_down_below : (h : Heap) (v : Value) (t : Term) → holds h v (cut_down t) ≡ true → holds h v t ≡ true
cut_down_below h v t e = cut_down_by h v t (is_small t) e

cut_up_by : (h : Heap) (v : Value) (t : Term) (b : Bool) → holds h v t ≡ true → holds h v (if b then t else many_values t) ≡ true
cut_up_by h v t true e = e
cut_up_by h v (term f r) false e = belongs-more f (λ a. holds_rows h a r) (λ a. true) v (λ a k. refl) e

pub cut_up_above : (h : Heap) (v : Value) (t : Term) → holds h v t ≡ true → holds h v (cut_up t) ≡ true
cut_up_above h v t e = cut_up_by h v t (is_small t) e

-- a table in a row or in rows is so in rows with that row
in_more : (h : Heap) (a : ℕ) (b : Bool) (fs gs : Fields) (r s : Rows) → (holds_fields h a fs ≡ true → holds_fields h a gs ≡ true) → (holds_rows h a r ≡ true → holds_rows h a s ≡ true)
    → in_row h a b fs || holds_rows h a r ≡ true → in_row h a b gs || holds_rows h a s ≡ true
in_more h a b fs gs r s f g e =
    either (in_row h a b fs) (holds_rows h a r) (in_row h a b gs || holds_rows h a s ≡ true) e
    (λ k. in_left (in_row h a b gs) (holds_rows h a s)
    (both (not b || is_frozen h a) (holds_fields h a gs) (left (not b || is_frozen h a) (holds_fields h a fs) k) (f (right (not b || is_frozen h a) (holds_fields h a fs) k))))
    (λ k. in_right (in_row h a b gs) (holds_rows h a s) (g k))

mutual
  pub widen_above : (h : Heap) (v : Value) (t : Term) → holds h v t ≡ true → holds h v (widen t) ≡ true
  widen_above h v (term f r) = belongs-more f (λ a. holds_rows h a r) (λ a. holds_rows h a (widen_rows r)) v (λ a. widen_rows_above h a r)

  widen_rows_above : (h : Heap) (a : ℕ) (r : Rows) → holds_rows h a r ≡ true → holds_rows h a (widen_rows r) ≡ true
  widen_rows_above h a no_rows e = e
  widen_rows_above h a (more_rows true fs r) e =
      put_normal_holds h a true (widen_fields fs) (widen_rows r) ∙ in_more h a true fs (widen_fields fs) r (widen_rows r) (widen_fields_above h a fs) (widen_rows_above h a r) e
  widen_rows_above h a (more_rows false fs r) e =
      put_row_holds h a false no_fields (widen_rows r) ∙ in_more h a false fs no_fields r (widen_rows r) (λ k. refl) (widen_rows_above h a r) e

  widen_fields_above : (h : Heap) (a : ℕ) (fs : Fields) → holds_fields h a fs ≡ true → holds_fields h a (widen_fields fs) ≡ true
  widen_fields_above h a no_fields e = e
  widen_fields_above h a (more_fields p t fs) e =
      both (holds h (field_of h a p) (widen t)) (holds_fields h a (widen_fields fs))
      (widen_above h (field_of h a p) t (left (holds h (field_of h a p) t) (holds_fields h a fs) e))
      (widen_fields_above h a fs (right (holds h (field_of h a p) t) (holds_fields h a fs) e))

dropped : (h : Heap) (a : ℕ) (q : List ℕ) (t : Term) (fs : Fields) (c : Bool) → holds h (field_of h a q) t ≡ true → holds_fields h a fs ≡ true
    → holds_fields h a (if c then fs else more_fields q t fs) ≡ true
dropped h a q t fs true e k = k
dropped h a q t fs false e k = both (holds h (field_of h a q) t) (holds_fields h a fs) e k

mutual
  pub widen_at_above : (h : Heap) (v : Value) (p : List ℕ) (t : Term) → holds h v t ≡ true → holds h v (widen_at p t) ≡ true
  widen_at_above h v p (term f r) = belongs-more f (λ a. holds_rows h a r) (λ a. holds_rows h a (widen_rows_at p r)) v (λ a. widen_rows_at_above h a p r)

  widen_rows_at_above : (h : Heap) (a : ℕ) (p : List ℕ) (r : Rows) → holds_rows h a r ≡ true → holds_rows h a (widen_rows_at p r) ≡ true
  widen_rows_at_above h a p no_rows e = e
  widen_rows_at_above h a p (more_rows b fs r) e =
      put_normal_holds h a b (widen_fields_at p b fs) (widen_rows_at p r)
      ∙ in_more h a b fs (widen_fields_at p b fs) r (widen_rows_at p r) (widen_fields_at_above h a p b fs) (widen_rows_at_above h a p r) e

  widen_fields_at_above : (h : Heap) (a : ℕ) (p : List ℕ) (b : Bool) (fs : Fields) → holds_fields h a fs ≡ true → holds_fields h a (widen_fields_at p b fs) ≡ true
  widen_fields_at_above h a p b no_fields e = e
  widen_fields_at_above h a p b (more_fields q t fs) e =
      dropped h a q (widen_at p t) (widen_fields_at p b fs) (not b && bytes_eq q p)
      (widen_at_above h (field_of h a q) p t (left (holds h (field_of h a q) t) (holds_fields h a fs) e))
      (widen_fields_at_above h a p b fs (right (holds h (field_of h a q) t) (holds_fields h a fs) e))

-- which types are heap-free
free_put_by : (b c : Bool) (fs gs : Fields) (r : Rows) (o : Ordering) → heap_free_row b fs ≡ true → heap_free_row c gs && heap_free_rows r ≡ true → heap_free_rows (put_row b fs r) ≡ true
    → heap_free_rows (by_order o (more_rows b fs (more_rows c gs r)) (more_rows c gs r) (more_rows c gs (put_row b fs r))) ≡ true
free_put_by b c fs gs r Less e k ih = both (heap_free_row b fs) (heap_free_row c gs && heap_free_rows r) e k
free_put_by b c fs gs r Equal e k ih = k
free_put_by b c fs gs r Greater e k ih = both (heap_free_row c gs) (heap_free_rows (put_row b fs r)) (left (heap_free_row c gs) (heap_free_rows r) k) ih

pub free_put_row : (b : Bool) (fs : Fields) (r : Rows) → heap_free_row b fs ≡ true → heap_free_rows r ≡ true → heap_free_rows (put_row b fs r) ≡ true
free_put_row b fs no_rows e k = both (heap_free_row b fs) true e refl
free_put_row b fs (more_rows c gs r) e k =
    free_put_by b c fs gs r (row_cmp b fs c gs) e k (free_put_row b fs r e (right (heap_free_row c gs) (heap_free_rows r) k))

free_put_rows : (r s : Rows) → heap_free_rows r ≡ true → heap_free_rows s ≡ true → heap_free_rows (put_rows r s) ≡ true
free_put_rows no_rows s e k = k
free_put_rows (more_rows b fs r) s e k =
    free_put_row b fs (put_rows r s) (left (heap_free_row b fs) (heap_free_rows r) e) (free_put_rows r s (right (heap_free_row b fs) (heap_free_rows r) e) k)

free_known_by : (p : List ℕ) (t : Term) (fs : Fields) (b : Bool) → heap_free t ≡ true → heap_free_fields fs ≡ true → heap_free_fields (if b then fs else more_fields p t fs) ≡ true
free_known_by p t fs true e k = k
free_known_by p t fs false e k = both (heap_free t) (heap_free_fields fs) e k

free_known : (fs : Fields) → heap_free_fields fs ≡ true → heap_free_fields (known_fields fs) ≡ true
free_known no_fields e = e
free_known (more_fields p t fs) e =
    free_known_by p t (known_fields fs) (is_unknown t) (left (heap_free t) (heap_free_fields fs) e) (free_known fs (right (heap_free t) (heap_free_fields fs) e))

-- the fields of a row that is heap-free are
pub row_free_fields : (b : Bool) (fs : Fields) → heap_free_row b fs ≡ true → heap_free_fields fs ≡ true
row_free_fields b no_fields e = refl
row_free_fields b (more_fields p t fs) e = right b (heap_free_fields (more_fields p t fs)) e

free_known_row : (b : Bool) (fs : Fields) → heap_free_row b fs ≡ true → heap_free_row b (known_fields fs) ≡ true
free_known_row b no_fields e = refl
free_known_row b (more_fields p t fs) e =
    in_right (is_bare (known_fields (more_fields p t fs))) (b && heap_free_fields (known_fields (more_fields p t fs)))
    (both b (heap_free_fields (known_fields (more_fields p t fs))) (left b (heap_free_fields (more_fields p t fs)) e)
    (free_known (more_fields p t fs) (right b (heap_free_fields (more_fields p t fs)) e)))

free_normal_by : (b : Bool) (fs : Fields) (r : Rows) (c : Bool) → heap_free_row b fs ≡ true → heap_free_rows r ≡ true
    → heap_free_rows (if c then r else put_row b (known_fields fs) r) ≡ true
free_normal_by b fs r true e k = k
free_normal_by b fs r false e k = free_put_row b (known_fields fs) r (free_known_row b fs e) k

pub free_put_normal : (b : Bool) (fs : Fields) (r : Rows) → heap_free_row b fs ≡ true → heap_free_rows r ≡ true → heap_free_rows (put_normal b fs r) ≡ true
free_put_normal b fs r e k = free_normal_by b fs r (has_empty fs) e k

pub union_free : (t u : Term) → heap_free t ≡ true → heap_free u ≡ true → heap_free (union t u) ≡ true
union_free (term f r) (term g s) e k = free_put_rows r (rows_in_order s) e (free_put_rows s no_rows k refl)

-- what is stripped or widened is heap-free
strip_by : (b : Bool) (fs : Fields) (r : Rows) (c : Bool) → heap_free_row b fs ≡ c → heap_free_rows r ≡ true → heap_free_rows (if c then more_rows b fs r else r) ≡ true
strip_by b fs r true e k = both (heap_free_row b fs) (heap_free_rows r) e k
strip_by b fs r false e k = k

strip_rows_free : (r : Rows) → heap_free_rows (strip_rows r) ≡ true
strip_rows_free no_rows = refl
strip_rows_free (more_rows b fs r) = strip_by b fs (strip_rows r) (heap_free_row b fs) refl (strip_rows_free r)

pub strip_free : (t : Term) → heap_free (strip t) ≡ true
strip_free (term f r) = strip_rows_free r

mutual
  pub widen_free : (t : Term) → heap_free (widen t) ≡ true
  widen_free (term f r) = widen_rows_free r

  widen_rows_free : (r : Rows) → heap_free_rows (widen_rows r) ≡ true
  widen_rows_free no_rows = refl
  widen_rows_free (more_rows true fs r) =
      free_put_normal true (widen_fields fs) (widen_rows r) (in_right (is_bare (widen_fields fs)) (heap_free_fields (widen_fields fs)) (widen_fields_free fs)) (widen_rows_free r)
  widen_rows_free (more_rows false fs r) = free_put_row false no_fields (widen_rows r) refl (widen_rows_free r)

  widen_fields_free : (fs : Fields) → heap_free_fields (widen_fields fs) ≡ true
  widen_fields_free no_fields = refl
  widen_fields_free (more_fields p t fs) = both (heap_free (widen t)) (heap_free_fields (widen_fields fs)) (widen_free t) (widen_fields_free fs)

-- fewer rows stay heap-free
fewer_by : (b : Bool) (fs : Fields) (r s : Rows) (c : Bool) → heap_free_row b fs && heap_free_rows r ≡ true → heap_free_rows s ≡ true → heap_free_rows (if c then more_rows b fs s else s) ≡ true
fewer_by b fs r s true e k = both (heap_free_row b fs) (heap_free_rows s) (left (heap_free_row b fs) (heap_free_rows r) e) k
fewer_by b fs r s false e k = k

strip_rows_at_free : (p : List ℕ) (r : Rows) → heap_free_rows r ≡ true → heap_free_rows (strip_rows_at p r) ≡ true
strip_rows_at_free p no_rows e = e
strip_rows_at_free p (more_rows b fs r) e =
    fewer_by b fs r (strip_rows_at p r) (heap_free_row b fs || not (fields_list p fs)) e (strip_rows_at_free p r (right (heap_free_row b fs) (heap_free_rows r) e))

pub strip_at_free : (p : List ℕ) (t : Term) → heap_free t ≡ true → heap_free (strip_at p t) ≡ true
strip_at_free p (term f r) e = strip_rows_at_free p r e

few_free : (b : Bool) → heap_free_rows (if b then any_table else no_rows) ≡ true
few_free true = refl
few_free false = refl

cut_down_free_by : (t : Term) (b : Bool) → heap_free t ≡ true → heap_free (if b then t else few_values t) ≡ true
cut_down_free_by t true e = e
cut_down_free_by (term f r) false e = few_free (has_any_table r)

pub cut_down_free : (t : Term) → heap_free t ≡ true → heap_free (cut_down t) ≡ true
cut_down_free t e = cut_down_free_by t (is_small t) e

cut_up_free_by : (t : Term) (b : Bool) → heap_free t ≡ true → heap_free (if b then t else many_values t) ≡ true
cut_up_free_by t true e = e
cut_up_free_by (term f r) false e = refl

pub cut_up_free : (t : Term) → heap_free t ≡ true → heap_free (cut_up t) ≡ true
cut_up_free t e = cut_up_free_by t (is_small t) e

pub not_free_free : (t : Term) → heap_free (not_free t) ≡ true
not_free_free (term f no_rows) = refl
not_free_free (term f (more_rows b fs r)) = refl

pub fail_free : (t : Term) → heap_free (fail t) ≡ true
fail_free (term f no_rows) = refl
fail_free (term f (more_rows b fs r)) = refl

-- meets
put_field_free_by : (p q : List ℕ) (t u : Term) (w : Term → Term) (gs : Fields) (o : Ordering) → heap_free t ≡ true → ((x : Term) → heap_free x ≡ true → heap_free (w x) ≡ true)
    → heap_free u && heap_free_fields gs ≡ true → heap_free_fields (put_field p t w gs) ≡ true
    → heap_free_fields (by_order o (more_fields p t (more_fields q u gs)) (more_fields q (w u) gs) (more_fields q u (put_field p t w gs))) ≡ true
put_field_free_by p q t u w gs Less e met k ih = both (heap_free t) (heap_free u && heap_free_fields gs) e k
put_field_free_by p q t u w gs Equal e met k ih =
    both (heap_free (w u)) (heap_free_fields gs) (met u (left (heap_free u) (heap_free_fields gs) k)) (right (heap_free u) (heap_free_fields gs) k)
put_field_free_by p q t u w gs Greater e met k ih = both (heap_free u) (heap_free_fields (put_field p t w gs)) (left (heap_free u) (heap_free_fields gs) k) ih

pub put_field_free : (p : List ℕ) (t : Term) (w : Term → Term) (gs : Fields) → heap_free t ≡ true → ((x : Term) → heap_free x ≡ true → heap_free (w x) ≡ true)
    → heap_free_fields gs ≡ true → heap_free_fields (put_field p t w gs) ≡ true
put_field_free p t w no_fields e met k = both (heap_free t) true e refl
put_field_free p t w (more_fields q u gs) e met k =
    put_field_free_by p q t u w gs (name_cmp p q) e met k (put_field_free p t w gs e met (right (heap_free u) (heap_free_fields gs) k))

-- a row is heap-free where its fields are, and it is frozen or bare
frozen_or_bare : (b : Bool) (fs : Fields) → heap_free_row b fs ≡ true → is_bare fs || b ≡ true
frozen_or_bare b no_fields e = refl
frozen_or_bare b (more_fields p t fs) e = left b (heap_free_fields (more_fields p t fs)) e

row_is_free : (b : Bool) (fs : Fields) → is_bare fs || b ≡ true → heap_free_fields fs ≡ true → heap_free_row b fs ≡ true
row_is_free b fs e k =
    either (is_bare fs) b (heap_free_row b fs ≡ true) e
    (in_left (is_bare fs) (b && heap_free_fields fs)) (λ f. in_right (is_bare fs) (b && heap_free_fields fs) (both b (heap_free_fields fs) f k))

met_bare : (b c : Bool) (fs gs : Fields) → is_bare fs || b ≡ true → is_bare gs || c ≡ true → is_bare (meet_fields fs gs) || (b || c) ≡ true
met_bare b c no_fields gs e k = either (is_bare gs) c (is_bare gs || (b || c) ≡ true) k (in_left (is_bare gs) (b || c)) (λ f. in_right (is_bare gs) (b || c) (in_right b c f))
met_bare b c (more_fields p t fs) gs e k = in_right (is_bare (meet_fields (more_fields p t fs) gs)) (b || c) (in_left b c e)

meet_each_free : (b : Bool) (fs : Fields) (s t : Rows) → heap_free_row b fs ≡ true → ((gs : Fields) → heap_free_fields gs ≡ true → heap_free_fields (meet_fields fs gs) ≡ true)
    → heap_free_rows s ≡ true → heap_free_rows t ≡ true → heap_free_rows (meet_each b (meet_fields fs) s t) ≡ true
meet_each_free b fs no_rows t e met k l = l
meet_each_free b fs (more_rows c gs s) t e met k l =
    let g : heap_free_row c gs ≡ true = left (heap_free_row c gs) (heap_free_rows s) k in
    free_put_normal (b || c) (meet_fields fs gs) (meet_each b (meet_fields fs) s t)
    (row_is_free (b || c) (meet_fields fs gs) (met_bare b c fs gs (frozen_or_bare b fs e) (frozen_or_bare c gs g)) (met gs (row_free_fields c gs g)))
    (meet_each_free b fs s t e met (right (heap_free_row c gs) (heap_free_rows s) k) l)

mutual
  pub meet_free : (t u : Term) → heap_free t ≡ true → heap_free u ≡ true → heap_free (meet t u) ≡ true
  meet_free (term f r) (term g s) e k = meet_rows_free r s e k

  meet_rows_free : (r s : Rows) → heap_free_rows r ≡ true → heap_free_rows s ≡ true → heap_free_rows (meet_rows r s) ≡ true
  meet_rows_free no_rows s e k = refl
  meet_rows_free (more_rows b fs r) s e k =
      let f : heap_free_row b fs ≡ true = left (heap_free_row b fs) (heap_free_rows r) e in
      meet_each_free b fs s (meet_rows r s) f (λ gs g. meet_fields_free fs gs (row_free_fields b fs f) g) k
      (meet_rows_free r s (right (heap_free_row b fs) (heap_free_rows r) e) k)

  meet_fields_free : (fs gs : Fields) → heap_free_fields fs ≡ true → heap_free_fields gs ≡ true → heap_free_fields (meet_fields fs gs) ≡ true
  meet_fields_free no_fields gs e k = k
  meet_fields_free (more_fields p t fs) gs e k =
      put_field_free p t (meet t) (meet_fields fs gs) (left (heap_free t) (heap_free_fields fs) e) (λ x f. meet_free t x (left (heap_free t) (heap_free_fields fs) e) f)
      (meet_fields_free fs gs (right (heap_free t) (heap_free_fields fs) e) k)

free_row_later : (h g : Heap) (a : ℕ) (b : Bool) (fs : Fields) → heap_free_row b fs ≡ true → Later h g
    → (is_frozen h a ≡ true → holds_fields h a fs ≡ true → holds_fields g a fs ≡ true) → in_row h a b fs ≡ true → in_row g a b fs ≡ true
free_row_later h g a false no_fields e l met k = refl
free_row_later h g a false (more_fields p t fs) e l met k = cc
free_row_later h g a true fs e l met k =
    let frozen : is_frozen h a ≡ true = left (is_frozen h a) (holds_fields h a fs) k in
    both (is_frozen g a) (holds_fields g a fs) (frozen_marks h g a l frozen) (met frozen (right (is_frozen h a) (holds_fields h a fs) k))

-- a value of a heap-free type stays one
mutual
  pub free_later : (h g : Heap) (v : Value) (t : Term) → heap_free t ≡ true → Later h g → holds h v t ≡ true → holds g v t ≡ true
  free_later h g v (term f r) e l = belongs-more f (λ a. holds_rows h a r) (λ a. holds_rows g a r) v (λ a. free_rows_later h g a r e l)

  free_rows_later : (h g : Heap) (a : ℕ) (r : Rows) → heap_free_rows r ≡ true → Later h g → holds_rows h a r ≡ true → holds_rows g a r ≡ true
  free_rows_later h g a no_rows e l k = k
  free_rows_later h g a (more_rows b fs r) e l k =
      either (in_row h a b fs) (holds_rows h a r) (in_row g a b fs || holds_rows g a r ≡ true) k
      (λ x. in_left (in_row g a b fs) (holds_rows g a r) (free_row_later h g a b fs (left (heap_free_row b fs) (heap_free_rows r) e) l
      (λ frozen y. free_fields_later h g a fs (row_free_fields b fs (left (heap_free_row b fs) (heap_free_rows r) e)) frozen l y) x))
      (λ x. in_right (in_row g a b fs) (holds_rows g a r) (free_rows_later h g a r (right (heap_free_row b fs) (heap_free_rows r) e) l x))

  free_fields_later : (h g : Heap) (a : ℕ) (fs : Fields) → heap_free_fields fs ≡ true → is_frozen h a ≡ true → Later h g → holds_fields h a fs ≡ true → holds_fields g a fs ≡ true
  free_fields_later h g a no_fields e frozen l k = k
  free_fields_later h g a (more_fields p t fs) e frozen l k =
      let same : field_of g a p ≡ field_of h a p = frozen_fields h g a p l frozen in
      both (holds g (field_of g a p) t) (holds_fields g a fs)
      (rw same (free_later h g (field_of h a p) t (left (heap_free t) (heap_free_fields fs) e) l (left (holds h (field_of h a p) t) (holds_fields h a fs) k)))
      (free_fields_later h g a fs (right (heap_free t) (heap_free_fields fs) e) frozen l (right (holds h (field_of h a p) t) (holds_fields h a fs) k))
