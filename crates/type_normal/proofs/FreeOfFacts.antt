-- Types that are free of a name, and that they stay true of a value while fields of that name are written.
use Rattle.std.proofs.Common.{◌≡◌, ℕ, ◌<◌, Bool, true, false, not, List, length, refl, sym, ◌∙◌}
use Rattle.std.specs.Prelude.{◌||◌, ◌&&◌, if◌then◌else◌}
use Rattle.std.specs.Str.{bytes_eq}
use Rattle.std.specs.declared.cmp.Ordering.{Ordering}
use Rattle.std.specs.declared.cmp.Ordering.TheVariants.{Less, Equal, Greater}
use Rattle.std.proofs.lemmas.Slice.Eq.{bytes_eq-Decides}
use Rattle.type_arena.specs.Term.{Term, term, Rows, no_rows, more_rows, Fields, no_fields, more_fields}
use Rattle.luau_values.specs.Value.{Value, Nil, Truth, Num, Str, Tab, Lit, Builtin, Other}
use Rattle.luau_values.specs.Heap.{Heap, is_frozen, field_of, with_field}
use Rattle.luau_values.proofs.Public.{write_marks, write_leaves, write_spares, write_reads}
use Rattle.type_normal.specs.Members.{by_order}
use Rattle.type_normal.specs.Rows.{row_cmp, put_row, any_table, is_unknown, has_empty, known_fields, put_normal}
use Rattle.type_normal.specs.Holds.{holds, holds_rows, holds_fields}
use Rattle.type_normal.specs.HeapFree.{heap_free, heap_free_rows, heap_free_fields, heap_free_row, strip_rows_at, strip_at, lists, rows_list, fields_list, widen_at, widen_rows_at, widen_fields_at, has_field, free_of_name, rows_free_of, fields_free_of}
use Rattle.type_normal.specs.Cut.{is_small, has_any_table, few_values, cut_down, many_values, cut_up}
use Rattle.type_normal.specs.Field.{without_field, set_field, rows_with_field, with_row_field}
use Rattle.type_normal.proofs.HoldsFacts.{left, right, both, either, in_left, in_right, is_false, belongs-more, put_normal_holds, in_row, meet_fields_hold}

-- whether one row is free of a name
abbrev pub row_free_of : List ℕ → Bool → Fields → Bool
row_free_of p b fs = (b || not (has_field p fs)) && fields_free_of p fs

not_right : (a b : Bool) → not (a || b) ≡ true → not b ≡ true
not_right true b e = cc
not_right false b e = e

not_left : (a b : Bool) → not (a || b) ≡ true → a ≡ false
not_left true b e = cc
not_left false b e = refl

not_of : (a : Bool) → a ≡ false → not a ≡ true
not_of true e = cc
not_of false e = refl

-- a heap-free type is free of each name
mutual
  pub heap_free_of : (p : List ℕ) (t : Term) → heap_free t ≡ true → free_of_name p t ≡ true
  heap_free_of p (term f r) e = heap_free_rows_of p r e

  heap_free_rows_of : (p : List ℕ) (r : Rows) → heap_free_rows r ≡ true → rows_free_of p r ≡ true
  heap_free_rows_of p no_rows e = refl
  heap_free_rows_of p (more_rows false no_fields r) e = heap_free_rows_of p r e
  heap_free_rows_of p (more_rows true no_fields r) e = heap_free_rows_of p r e
  heap_free_rows_of p (more_rows false (more_fields q t fs) r) e = cc
  heap_free_rows_of p (more_rows true (more_fields q t fs) r) e =
      both (free_of_name p t && fields_free_of p fs) (rows_free_of p r)
      (both (free_of_name p t) (fields_free_of p fs)
      (heap_free_of p t (left (heap_free t) (heap_free_fields fs) (left (heap_free t && heap_free_fields fs) (heap_free_rows r) e)))
      (heap_free_fields_of p fs (right (heap_free t) (heap_free_fields fs) (left (heap_free t && heap_free_fields fs) (heap_free_rows r) e))))
      (heap_free_rows_of p r (right (heap_free t && heap_free_fields fs) (heap_free_rows r) e))

  heap_free_fields_of : (p : List ℕ) (fs : Fields) → heap_free_fields fs ≡ true → fields_free_of p fs ≡ true
  heap_free_fields_of p no_fields e = refl
  heap_free_fields_of p (more_fields q t fs) e =
      both (free_of_name p t) (fields_free_of p fs) (heap_free_of p t (left (heap_free t) (heap_free_fields fs) e)) (heap_free_fields_of p fs (right (heap_free t) (heap_free_fields fs) e))

-- and so is one that lists no field of the name
not_list_has : (p : List ℕ) (fs : Fields) → not (fields_list p fs) ≡ true → not (has_field p fs) ≡ true
not_list_has p no_fields e = refl
not_list_has p (more_fields q t fs) e =
    rw (not_left (bytes_eq q p) (lists p t || fields_list p fs) e)
    (not_list_has p fs (not_right (lists p t) (fields_list p fs) (not_right (bytes_eq q p) (lists p t || fields_list p fs) e)))

mutual
  not_listed_of : (p : List ℕ) (t : Term) → not (lists p t) ≡ true → free_of_name p t ≡ true
  not_listed_of p (term f r) e = not_listed_rows_of p r e

  not_listed_rows_of : (p : List ℕ) (r : Rows) → not (rows_list p r) ≡ true → rows_free_of p r ≡ true
  not_listed_rows_of p no_rows e = refl
  not_listed_rows_of p (more_rows b fs r) e =
      let f : not (fields_list p fs) ≡ true = not_of (fields_list p fs) (not_left (fields_list p fs) (rows_list p r) e) in
      both (row_free_of p b fs) (rows_free_of p r)
      (both (b || not (has_field p fs)) (fields_free_of p fs) (in_right b (not (has_field p fs)) (not_list_has p fs f)) (not_listed_fields_of p fs f))
      (not_listed_rows_of p r (not_right (fields_list p fs) (rows_list p r) e))

  not_listed_fields_of : (p : List ℕ) (fs : Fields) → not (fields_list p fs) ≡ true → fields_free_of p fs ≡ true
  not_listed_fields_of p no_fields e = refl
  not_listed_fields_of p (more_fields q t fs) e =
      let k : not (lists p t || fields_list p fs) ≡ true = not_right (bytes_eq q p) (lists p t || fields_list p fs) e in
      both (free_of_name p t) (fields_free_of p fs)
      (not_listed_of p t (not_of (lists p t) (not_left (lists p t) (fields_list p fs) k))) (not_listed_fields_of p fs (not_right (lists p t) (fields_list p fs) k))

row_of_free : (p : List ℕ) (b : Bool) (fs : Fields) → heap_free_row b fs ≡ true → row_free_of p b fs ≡ true
row_of_free p false no_fields e = refl
row_of_free p true no_fields e = refl
row_of_free p false (more_fields q t fs) e = cc
row_of_free p true (more_fields q t fs) e = heap_free_fields_of p (more_fields q t fs) e

row_of_not_listed : (p : List ℕ) (b : Bool) (fs : Fields) → not (fields_list p fs) ≡ true → row_free_of p b fs ≡ true
row_of_not_listed p b fs e =
    both (b || not (has_field p fs)) (fields_free_of p fs) (in_right b (not (has_field p fs)) (not_list_has p fs e)) (not_listed_fields_of p fs e)

strip_at_by : (p : List ℕ) (b : Bool) (fs : Fields) (r : Rows) (c : Bool) → heap_free_row b fs || not (fields_list p fs) ≡ c → rows_free_of p r ≡ true
    → rows_free_of p (if c then more_rows b fs r else r) ≡ true
strip_at_by p b fs r true e k =
    both (row_free_of p b fs) (rows_free_of p r)
    (either (heap_free_row b fs) (not (fields_list p fs)) (row_free_of p b fs ≡ true) e (row_of_free p b fs) (row_of_not_listed p b fs)) k
strip_at_by p b fs r false e k = k

strip_rows_at_of : (p : List ℕ) (r : Rows) → rows_free_of p (strip_rows_at p r) ≡ true
strip_rows_at_of p no_rows = refl
strip_rows_at_of p (more_rows b fs r) = strip_at_by p b fs (strip_rows_at p r) (heap_free_row b fs || not (fields_list p fs)) refl (strip_rows_at_of p r)

pub strip_at_of : (p : List ℕ) (t : Term) → free_of_name p (strip_at p t) ≡ true
strip_at_of p (term f r) = strip_rows_at_of p r

-- rows with one more
of_put_by : (p : List ℕ) (b c : Bool) (fs gs : Fields) (r : Rows) (o : Ordering) → row_free_of p b fs ≡ true → row_free_of p c gs && rows_free_of p r ≡ true → rows_free_of p (put_row b fs r) ≡ true
    → rows_free_of p (by_order o (more_rows b fs (more_rows c gs r)) (more_rows c gs r) (more_rows c gs (put_row b fs r))) ≡ true
of_put_by p b c fs gs r Less e k ih = both (row_free_of p b fs) (row_free_of p c gs && rows_free_of p r) e k
of_put_by p b c fs gs r Equal e k ih = k
of_put_by p b c fs gs r Greater e k ih = both (row_free_of p c gs) (rows_free_of p (put_row b fs r)) (left (row_free_of p c gs) (rows_free_of p r) k) ih

of_put_row : (p : List ℕ) (b : Bool) (fs : Fields) (r : Rows) → row_free_of p b fs ≡ true → rows_free_of p r ≡ true → rows_free_of p (put_row b fs r) ≡ true
of_put_row p b fs no_rows e k = both (row_free_of p b fs) true e refl
of_put_row p b fs (more_rows c gs r) e k =
    of_put_by p b c fs gs r (row_cmp b fs c gs) e k (of_put_row p b fs r e (right (row_free_of p c gs) (rows_free_of p r) k))

known_has_by : (p q : List ℕ) (t : Term) (fs : Fields) (b : Bool) → not (bytes_eq q p) ≡ true → not (has_field p fs) ≡ true
    → not (has_field p (if b then fs else more_fields q t fs)) ≡ true
known_has_by p q t fs true e k = k
known_has_by p q t fs false e k = rw (is_false (bytes_eq q p) e) k

known_has : (p : List ℕ) (fs : Fields) → not (has_field p fs) ≡ true → not (has_field p (known_fields fs)) ≡ true
known_has p no_fields e = e
known_has p (more_fields q t fs) e =
    known_has_by p q t (known_fields fs) (is_unknown t) (not_of (bytes_eq q p) (not_left (bytes_eq q p) (has_field p fs) e))
    (known_has p fs (not_right (bytes_eq q p) (has_field p fs) e))

known_of_by : (p q : List ℕ) (t : Term) (fs : Fields) (b : Bool) → free_of_name p t ≡ true → fields_free_of p fs ≡ true → fields_free_of p (if b then fs else more_fields q t fs) ≡ true
known_of_by p q t fs true e k = k
known_of_by p q t fs false e k = both (free_of_name p t) (fields_free_of p fs) e k

known_of : (p : List ℕ) (fs : Fields) → fields_free_of p fs ≡ true → fields_free_of p (known_fields fs) ≡ true
known_of p no_fields e = e
known_of p (more_fields q t fs) e =
    known_of_by p q t (known_fields fs) (is_unknown t) (left (free_of_name p t) (fields_free_of p fs) e) (known_of p fs (right (free_of_name p t) (fields_free_of p fs) e))

known_row_of : (p : List ℕ) (b : Bool) (fs : Fields) → row_free_of p b fs ≡ true → row_free_of p b (known_fields fs) ≡ true
known_row_of p b fs e =
    both (b || not (has_field p (known_fields fs))) (fields_free_of p (known_fields fs))
    (either b (not (has_field p fs)) (b || not (has_field p (known_fields fs)) ≡ true) (left (b || not (has_field p fs)) (fields_free_of p fs) e)
    (in_left b (not (has_field p (known_fields fs)))) (λ k. in_right b (not (has_field p (known_fields fs))) (known_has p fs k)))
    (known_of p fs (right (b || not (has_field p fs)) (fields_free_of p fs) e))

of_normal_by : (p : List ℕ) (b : Bool) (fs : Fields) (r : Rows) (c : Bool) → row_free_of p b fs ≡ true → rows_free_of p r ≡ true → rows_free_of p (if c then r else put_row b (known_fields fs) r) ≡ true
of_normal_by p b fs r true e k = k
of_normal_by p b fs r false e k = of_put_row p b (known_fields fs) r (known_row_of p b fs e) k

of_put_normal : (p : List ℕ) (b : Bool) (fs : Fields) (r : Rows) → row_free_of p b fs ≡ true → rows_free_of p r ≡ true → rows_free_of p (put_normal b fs r) ≡ true
of_put_normal p b fs r e k = of_normal_by p b fs r (has_empty fs) e k

-- what is widened at a name is free of it
widened_has_by : (p q : List ℕ) (t : Term) (fs : Fields) (b c : Bool) → bytes_eq q p ≡ c → b || not (has_field p fs) ≡ true
    → b || not (has_field p (if not b && c then fs else more_fields q t fs)) ≡ true
widened_has_by p q t fs true c e k = refl
widened_has_by p q t fs false true e k = k
widened_has_by p q t fs false false e k = rw e k

widened_has : (p : List ℕ) (b : Bool) (fs : Fields) → b || not (has_field p (widen_fields_at p b fs)) ≡ true
widened_has p b no_fields = in_right b true refl
widened_has p b (more_fields q t fs) = widened_has_by p q (widen_at p t) (widen_fields_at p b fs) b (bytes_eq q p) refl (widened_has p b fs)

mutual
  pub widen_at_of : (p : List ℕ) (t : Term) → free_of_name p (widen_at p t) ≡ true
  widen_at_of p (term f r) = widen_rows_at_of p r

  widen_rows_at_of : (p : List ℕ) (r : Rows) → rows_free_of p (widen_rows_at p r) ≡ true
  widen_rows_at_of p no_rows = refl
  widen_rows_at_of p (more_rows b fs r) =
      of_put_normal p b (widen_fields_at p b fs) (widen_rows_at p r)
      (both (b || not (has_field p (widen_fields_at p b fs))) (fields_free_of p (widen_fields_at p b fs)) (widened_has p b fs) (widen_fields_at_of p b fs))
      (widen_rows_at_of p r)

  widen_fields_at_of : (p : List ℕ) (b : Bool) (fs : Fields) → fields_free_of p (widen_fields_at p b fs) ≡ true
  widen_fields_at_of p b no_fields = refl
  widen_fields_at_of p b (more_fields q t fs) = known_of_by p q (widen_at p t) (widen_fields_at p b fs) (not b && bytes_eq q p) (widen_at_of p t) (widen_fields_at_of p b fs)

-- what is free of a name stays so, stripped or widened at another, and cut
widened_at_has : (p n : List ℕ) (b : Bool) (fs : Fields) → not (has_field p fs) ≡ true → not (has_field p (widen_fields_at n b fs)) ≡ true
widened_at_has p n b no_fields e = e
widened_at_has p n b (more_fields q t fs) e =
    known_has_by p q (widen_at n t) (widen_fields_at n b fs) (not b && bytes_eq q n) (not_of (bytes_eq q p) (not_left (bytes_eq q p) (has_field p fs) e))
    (widened_at_has p n b fs (not_right (bytes_eq q p) (has_field p fs) e))

mutual
  pub widen_at_keeps : (p n : List ℕ) (t : Term) → free_of_name p t ≡ true → free_of_name p (widen_at n t) ≡ true
  widen_at_keeps p n (term f r) e = widen_rows_at_keeps p n r e

  widen_rows_at_keeps : (p n : List ℕ) (r : Rows) → rows_free_of p r ≡ true → rows_free_of p (widen_rows_at n r) ≡ true
  widen_rows_at_keeps p n no_rows e = e
  widen_rows_at_keeps p n (more_rows b fs r) e =
      let k : row_free_of p b fs ≡ true = left (row_free_of p b fs) (rows_free_of p r) e in
      of_put_normal p b (widen_fields_at n b fs) (widen_rows_at n r)
      (both (b || not (has_field p (widen_fields_at n b fs))) (fields_free_of p (widen_fields_at n b fs))
      (either b (not (has_field p fs)) (b || not (has_field p (widen_fields_at n b fs)) ≡ true) (left (b || not (has_field p fs)) (fields_free_of p fs) k)
      (in_left b (not (has_field p (widen_fields_at n b fs)))) (λ x. in_right b (not (has_field p (widen_fields_at n b fs))) (widened_at_has p n b fs x)))
      (widen_fields_at_keeps p n b fs (right (b || not (has_field p fs)) (fields_free_of p fs) k)))
      (widen_rows_at_keeps p n r (right (row_free_of p b fs) (rows_free_of p r) e))

  widen_fields_at_keeps : (p n : List ℕ) (b : Bool) (fs : Fields) → fields_free_of p fs ≡ true → fields_free_of p (widen_fields_at n b fs) ≡ true
  widen_fields_at_keeps p n b no_fields e = e
  widen_fields_at_keeps p n b (more_fields q t fs) e =
      known_of_by p q (widen_at n t) (widen_fields_at n b fs) (not b && bytes_eq q n)
      (widen_at_keeps p n t (left (free_of_name p t) (fields_free_of p fs) e)) (widen_fields_at_keeps p n b fs (right (free_of_name p t) (fields_free_of p fs) e))

fewer_of_by : (p : List ℕ) (b : Bool) (fs : Fields) (r s : Rows) (c : Bool) → row_free_of p b fs && rows_free_of p r ≡ true → rows_free_of p s ≡ true
    → rows_free_of p (if c then more_rows b fs s else s) ≡ true
fewer_of_by p b fs r s true e k = both (row_free_of p b fs) (rows_free_of p s) (left (row_free_of p b fs) (rows_free_of p r) e) k
fewer_of_by p b fs r s false e k = k

strip_rows_at_keeps : (p n : List ℕ) (r : Rows) → rows_free_of p r ≡ true → rows_free_of p (strip_rows_at n r) ≡ true
strip_rows_at_keeps p n no_rows e = e
strip_rows_at_keeps p n (more_rows b fs r) e =
    fewer_of_by p b fs r (strip_rows_at n r) (heap_free_row b fs || not (fields_list n fs)) e (strip_rows_at_keeps p n r (right (row_free_of p b fs) (rows_free_of p r) e))

pub strip_at_keeps : (p n : List ℕ) (t : Term) → free_of_name p t ≡ true → free_of_name p (strip_at n t) ≡ true
strip_at_keeps p n (term f r) e = strip_rows_at_keeps p n r e

few_of : (p : List ℕ) (b : Bool) → rows_free_of p (if b then any_table else no_rows) ≡ true
few_of p true = refl
few_of p false = refl

cut_down_of_by : (p : List ℕ) (t : Term) (b : Bool) → free_of_name p t ≡ true → free_of_name p (if b then t else few_values t) ≡ true
cut_down_of_by p t true e = e
cut_down_of_by p (term f r) false e = few_of p (has_any_table r)

pub cut_down_keeps : (p : List ℕ) (t : Term) → free_of_name p t ≡ true → free_of_name p (cut_down t) ≡ true
cut_down_keeps p t e = cut_down_of_by p t (is_small t) e

cut_up_of_by : (p : List ℕ) (t : Term) (b : Bool) → free_of_name p t ≡ true → free_of_name p (if b then t else many_values t) ≡ true
cut_up_of_by p t true e = e
cut_up_of_by p (term f r) false e = refl

pub cut_up_keeps : (p : List ℕ) (t : Term) → free_of_name p t ≡ true → free_of_name p (cut_up t) ≡ true
cut_up_keeps p t e = cut_up_of_by p t (is_small t) e

-- a write to a table that isn't frozen: the fields of a table that is, and those of other names, read as before
reads_same_by : (h : Heap) (a c : ℕ) (p q : List ℕ) (u : Value) (b : Bool) → bytes_eq q p ≡ b → is_frozen h a ≡ false → is_frozen h c || not b ≡ true
    → field_of (with_field a p u h) c q ≡ field_of h c q
reads_same_by h a c p q u true e n k = write_spares h a c p q u n (either (is_frozen h c) false (is_frozen h c ≡ true) k (λ x. x) (λ x. absurd (contra x)))
  where
    contra : false ≡ true → ⊥
    contra x = cc
reads_same_by h a c p q u false e n k = write_leaves h a c p q u (λ same. differ (sym e ∙ (bytes_eq-Decides q p).1 (sym same)))
  where
    differ : false ≡ true → ⊥
    differ x = cc

-- what a row asks of the mark and of the name
row_asks : (b fr has : Bool) → not b || fr ≡ true → b || not has ≡ true → fr || not has ≡ true
row_asks true fr has e k = in_left fr (not has) e
row_asks false fr has e k = in_right fr (not has) k

asks_first : (fr x y : Bool) → fr || not (x || y) ≡ true → fr || not x ≡ true
asks_first true x y e = refl
asks_first false true y e = e
asks_first false false y e = refl

asks_rest : (fr x y : Bool) → fr || not (x || y) ≡ true → fr || not y ≡ true
asks_rest true x y e = refl
asks_rest false true y e = cc
asks_rest false false y e = e

mutual
  pub free_of_written : (h : Heap) (a : ℕ) (p : List ℕ) (u v : Value) (t : Term) → free_of_name p t ≡ true → is_frozen h a ≡ false
      → holds h v t ≡ true → holds (with_field a p u h) v t ≡ true
  free_of_written h a p u v (term f r) e n =
      belongs-more f (λ c. holds_rows h c r) (λ c. holds_rows (with_field a p u h) c r) v (λ c. rows_written h a c p u r e n)

  rows_written : (h : Heap) (a c : ℕ) (p : List ℕ) (u : Value) (r : Rows) → rows_free_of p r ≡ true → is_frozen h a ≡ false
      → holds_rows h c r ≡ true → holds_rows (with_field a p u h) c r ≡ true
  rows_written h a c p u no_rows e n k = k
  rows_written h a c p u (more_rows b fs r) e n k =
      let g : Heap = with_field a p u h in
      let free : row_free_of p b fs ≡ true = left (row_free_of p b fs) (rows_free_of p r) e in
      either (in_row h c b fs) (holds_rows h c r) (in_row g c b fs || holds_rows g c r ≡ true) k
      (λ x. in_left (in_row g c b fs) (holds_rows g c r)
      (both (not b || is_frozen g c) (holds_fields g c fs)
      (rw (write_marks h a c p u) (left (not b || is_frozen h c) (holds_fields h c fs) x))
      (fields_written h a c p u fs (right (b || not (has_field p fs)) (fields_free_of p fs) free) n
      (row_asks b (is_frozen h c) (has_field p fs) (left (not b || is_frozen h c) (holds_fields h c fs) x) (left (b || not (has_field p fs)) (fields_free_of p fs) free))
      (right (not b || is_frozen h c) (holds_fields h c fs) x))))
      (λ x. in_right (in_row g c b fs) (holds_rows g c r) (rows_written h a c p u r (right (row_free_of p b fs) (rows_free_of p r) e) n x))

  fields_written : (h : Heap) (a c : ℕ) (p : List ℕ) (u : Value) (fs : Fields) → fields_free_of p fs ≡ true → is_frozen h a ≡ false
      → is_frozen h c || not (has_field p fs) ≡ true → holds_fields h c fs ≡ true → holds_fields (with_field a p u h) c fs ≡ true
  fields_written h a c p u no_fields e n ask k = k
  fields_written h a c p u (more_fields q t fs) e n ask k =
      let g : Heap = with_field a p u h in
      let same : field_of g c q ≡ field_of h c q = reads_same_by h a c p q u (bytes_eq q p) refl n (asks_first (is_frozen h c) (bytes_eq q p) (has_field p fs) ask) in
      both (holds g (field_of g c q) t) (holds_fields g c fs)
      (rw same (free_of_written h a p u (field_of h c q) t (left (free_of_name p t) (fields_free_of p fs) e) n (left (holds h (field_of h c q) t) (holds_fields h c fs) k)))
      (fields_written h a c p u fs (right (free_of_name p t) (fields_free_of p fs) e) n (asks_rest (is_frozen h c) (bytes_eq q p) (has_field p fs) ask)
      (right (holds h (field_of h c q) t) (holds_fields h c fs) k))

-- the row of a table after a write to it
without_written_by : (h : Heap) (a : ℕ) (p q : List ℕ) (u : Value) (t : Term) (fs : Fields) (b : Bool) → bytes_eq q p ≡ b → is_frozen h a ≡ false → free_of_name p t ≡ true
    → holds h (field_of h a q) t ≡ true → holds_fields (with_field a p u h) a fs ≡ true
    → holds_fields (with_field a p u h) a (if b then fs else more_fields q t fs) ≡ true
without_written_by h a p q u t fs true e n free k l = l
without_written_by h a p q u t fs false e n free k l =
    let g : Heap = with_field a p u h in
    let same : field_of g a q ≡ field_of h a q = reads_same_by h a a p q u false e n (in_right (is_frozen h a) true refl) in
    both (holds g (field_of g a q) t) (holds_fields g a fs) (rw same (free_of_written h a p u (field_of h a q) t free n k)) l

without_written : (h : Heap) (a : ℕ) (p : List ℕ) (u : Value) (fs : Fields) → fields_free_of p fs ≡ true → is_frozen h a ≡ false
    → holds_fields h a fs ≡ true → holds_fields (with_field a p u h) a (without_field p fs) ≡ true
without_written h a p u no_fields e n k = k
without_written h a p u (more_fields q t fs) e n k =
    without_written_by h a p q u t (without_field p fs) (bytes_eq q p) refl n (left (free_of_name p t) (fields_free_of p fs) e)
    (left (holds h (field_of h a q) t) (holds_fields h a fs) k)
    (without_written h a p u fs (right (free_of_name p t) (fields_free_of p fs) e) n (right (holds h (field_of h a q) t) (holds_fields h a fs) k))

rows_with_written : (h : Heap) (a : ℕ) (p : List ℕ) (u : Value) (s : Term) (r : Rows) → rows_free_of p r ≡ true → is_frozen h a ≡ false → a < length h
    → holds (with_field a p u h) u s ≡ true → holds_rows h a r ≡ true → holds_rows (with_field a p u h) a (rows_with_field p s r) ≡ true
rows_with_written h a p u s no_rows e n l new k = k
rows_with_written h a p u s (more_rows b fs r) e n l new k =
    let g : Heap = with_field a p u h in
    let reads : field_of g a p ≡ u = write_reads h a p u l in
    let free : row_free_of p b fs ≡ true = left (row_free_of p b fs) (rows_free_of p r) e in
    put_normal_holds g a b (set_field p s fs) (rows_with_field p s r)
    ∙ either (in_row h a b fs) (holds_rows h a r) (in_row g a b (set_field p s fs) || holds_rows g a (rows_with_field p s r) ≡ true) k
    (λ x. in_left (in_row g a b (set_field p s fs)) (holds_rows g a (rows_with_field p s r))
    (both (not b || is_frozen g a) (holds_fields g a (set_field p s fs))
    (rw (write_marks h a a p u) (left (not b || is_frozen h a) (holds_fields h a fs) x))
    (meet_fields_hold g a (more_fields p s no_fields) (without_field p fs)
    ∙ both (holds g (field_of g a p) s && true) (holds_fields g a (without_field p fs))
    (both (holds g (field_of g a p) s) true (rw reads new) refl)
    (without_written h a p u fs (right (b || not (has_field p fs)) (fields_free_of p fs) free) n (right (not b || is_frozen h a) (holds_fields h a fs) x)))))
    (λ x. in_right (in_row g a b (set_field p s fs)) (holds_rows g a (rows_with_field p s r))
    (rows_with_written h a p u s r (right (row_free_of p b fs) (rows_free_of p r) e) n l new x))

pub row_written : (h : Heap) (a : ℕ) (p : List ℕ) (u : Value) (t s : Term) → free_of_name p t ≡ true → a < length h → is_frozen h a ≡ false
    → holds h (Tab a) t ≡ true → holds (with_field a p u h) u s ≡ true → holds (with_field a p u h) (Tab a) (with_row_field p s t) ≡ true
row_written h a p u (term f r) s e l n k new = rows_with_written h a p u s r e n l new k

-- what is no table belongs to a type by its free part
pub row_beside : (h : Heap) (v : Value) (p : List ℕ) (s t : Term) → ((a : ℕ) → v ≡ Tab a → ⊥) → holds h v (with_row_field p s t) ≡ holds h v t
row_beside h Nil p s (term f r) n = refl
row_beside h (Truth true) p s (term f r) n = refl
row_beside h (Truth false) p s (term f r) n = refl
row_beside h (Num text) p s (term f r) n = refl
row_beside h (Str bytes) p s (term f r) n = refl
row_beside h (Tab a) p s (term f r) n = absurd (n a refl)
row_beside h (Lit home number cells) p s (term f r) n = refl
row_beside h (Builtin path) p s (term f r) n = refl
row_beside h (Other number) p s (term f r) n = refl
