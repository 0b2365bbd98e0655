-- Meets over arenas, part by part.
use Rattle.std.proofs.Common.{◌≡◌, ℕ, zero, suc, ◌+◌, ◌<◌, ◌≤◌, Bool, true, false, List, [], ◌∷◌, ◌++◌, length, get_or, drop, refl, sym, ap, ◌∙◌, subst, arith}
use Rattle.std.specs.Prelude.{◌&&◌, ◌||◌, Some, IsTrue, All, Contains}
use Rattle.std.proofs.lemmas.List.Elements.{All-nil, All-cons, All-append, All-contains, All-weaker, Contains-get_or, Contains-append_left, Contains-append_right}
use Rattle.type_arena.specs.Arena.{home_of, store_of}
use Rattle.type_arena.specs.Homes.{MayUse}
use Rattle.type_arena.specs.Meaning.{term_of, rows_by, fields_by}
use Rattle.type_arena.specs.Store.{has, field_types, row_types}
use Rattle.type_arena.specs.Term.{Term, Rows, no_rows, more_rows, Fields}
use Rattle.type_arena.specs.declared.arena.Arena.{Arena}
use Rattle.type_arena.specs.declared.node.Row.{Row}
use Rattle.type_arena.specs.declared.node.TypeRef.{TypeRef}
use Rattle.type_normal.specs.Adds.{Adds}
use Rattle.type_normal.specs.Operations.{put_field, meet, meet_fields}
use Rattle.type_normal.proofs.AddsFacts.{there_kept}
use Rattle.type_normal.proofs.RowsFacts.{all_fewer}
use Rattle.type_normal.proofs.ShapeFacts.{row_item_hold}
use Rattle.type_normal.specs.Growing.{given_refs, IsClean}
use Rattle.type_ops.specs.Lists.{append_rows}
use Rattle.type_ops.specs.Met.{met_each, met_rows}
use Rattle.type_ops.proofs.ChangeFacts.{weight, weight_of_rows, weight_of_fields, rows_push, rows_none_more, all_row_push, drop_all, field_push}
use Rattle.type_ops.proofs.CompareFacts.{dropped}
use Rattle.type_ops.proofs.GrowFacts.{adds_nothing, adds_more, clean_inner, clean_given, clean_may, all_clean_on, all_there_on, fields_kept, rows_kept}

-- all of some references are clean where they were given
pub all_given : (a b : Arena) (refs more : List TypeRef) (xs : List TypeRef) → Adds a b (given_refs more) xs → All (λ at. IsTrue (has (store_of a) at)) refs → ((at : TypeRef) → Contains refs at → Contains more at) → All (IsClean a b (given_refs more)) refs
all_given a b refs more xs adds there inside k d l = clean_given a b more xs (get_or refs k d) adds (there k d l) (inside (get_or refs k d) (Contains-get_or refs k d l))

append_rows_assoc : (x y z : Rows) → append_rows (append_rows x y) z ≡ append_rows x (append_rows y z)
append_rows_assoc no_rows y z = refl
append_rows_assoc (more_rows b fs r) y z = ap (more_rows b fs) (append_rows_assoc r y z)

-- fields that are put one by one, from the last on
last_put : (front : List (List ℕ × TypeRef)) (f : List ℕ × TypeRef) (means : TypeRef → Term) (ys : Fields)
    → meet_fields (fields_by means (front ++ f ∷ [])) ys ≡ meet_fields (fields_by means front) (put_field f.0 (means f.1) (meet (means f.1)) ys)
last_put [] f means ys = refl
last_put (g ∷ front) f means ys = ap (put_field g.0 (means g.1) (meet (means g.1))) (last_put front f means ys)

front_of : (P : TypeRef → Type 0) (rest front : List (List ℕ × TypeRef)) (f : List ℕ × TypeRef) → rest ≡ front ++ f ∷ [] → All P (field_types rest) → All P (field_types front)
front_of P rest front f e all =
    all_fewer P (field_types rest) (field_types front)
    (λ x inside. subst (λ (zs : List (List ℕ × TypeRef)). Contains (field_types zs) x) (sym e) (subst (λ (zs : List TypeRef). Contains zs x) (sym (field_push front f)) (Contains-append_left (field_types front) (f.1 ∷ []) x inside))) all

last_of : (P : TypeRef → Type 0) (rest front : List (List ℕ × TypeRef)) (f : List ℕ × TypeRef) → rest ≡ front ++ f ∷ [] → All P (field_types rest) → P f.1
last_of P rest front f e all =
    All-contains P (field_types rest) f.1 all
    (subst (λ (zs : List (List ℕ × TypeRef)). Contains (field_types zs) f.1) (sym e) (subst (λ (zs : List TypeRef). Contains zs f.1) (sym (field_push front f)) (Contains-append_right (field_types front) (f.1 ∷ []) f.1 (zero, omega arith, refl))))

weight_push : (means : TypeRef → Term) (front : List (List ℕ × TypeRef)) (f : List ℕ × TypeRef) → weight_of_fields (fields_by means (front ++ f ∷ [])) ≡ weight_of_fields (fields_by means front) + weight (means f.1)
weight_push means [] f = omega arith
weight_push means (g ∷ front) f = let h = weight_push means front f in omega (arith, h)

-- what was met so far of the fields of two rows
pub record FieldsMet (a b : Arena) (fields others rest met : List (List ℕ × TypeRef)) : Type 0 where
  pub adds : Adds a b (given_refs (field_types fields ++ field_types others)) []
  pub left : All (λ at. IsTrue (has (store_of a) at)) (field_types rest)
  pub left_clean : All (IsClean a b (given_refs (field_types fields ++ field_types others))) (field_types rest)
  pub there : All (λ at. IsTrue (has (store_of b) at)) (field_types met)
  pub clean : All (IsClean a b (given_refs (field_types fields ++ field_types others))) (field_types met)
  pub light : weight_of_fields (fields_by (term_of (store_of a)) rest) ≤ weight_of_fields (fields_by (term_of (store_of a)) fields)
  pub so_far : meet_fields (fields_by (term_of (store_of a)) rest) (fields_by (term_of (store_of b)) met) ≡ meet_fields (fields_by (term_of (store_of a)) fields) (fields_by (term_of (store_of a)) others)

pub fields_met_begun : (a : Arena) (fields others rest met : List (List ℕ × TypeRef)) → rest ≡ fields → met ≡ others
    → All (λ at. IsTrue (has (store_of a) at)) (field_types fields) → All (λ at. IsTrue (has (store_of a) at)) (field_types others) → FieldsMet a a fields others rest met
fields_met_begun a fields others rest met er em first second =
    let g = field_types fields ++ field_types others in
    record {
      adds = adds_nothing a (given_refs g);
      left = subst (λ (zs : List (List ℕ × TypeRef)). All (λ at. IsTrue (has (store_of a) at)) (field_types zs)) (sym er) first;
      left_clean = subst (λ (zs : List (List ℕ × TypeRef)). All (IsClean a a (given_refs g)) (field_types zs)) (sym er)
          (all_given a a (field_types fields) g [] (adds_nothing a (given_refs g)) first (λ at inside. Contains-append_left (field_types fields) (field_types others) at inside));
      there = subst (λ (zs : List (List ℕ × TypeRef)). All (λ at. IsTrue (has (store_of a) at)) (field_types zs)) (sym em) second;
      clean = subst (λ (zs : List (List ℕ × TypeRef)). All (IsClean a a (given_refs g)) (field_types zs)) (sym em)
          (all_given a a (field_types others) g [] (adds_nothing a (given_refs g)) second (λ at inside. Contains-append_right (field_types fields) (field_types others) at inside));
      light = let e = ap (λ (zs : List (List ℕ × TypeRef)). weight_of_fields (fields_by (term_of (store_of a)) zs)) er in omega (arith, e);
      so_far = λ i. meet_fields (fields_by (term_of (store_of a)) (er i)) (fields_by (term_of (store_of a)) (em i));
    }

pub put_may : (a b : Arena) (fields others rest met front : List (List ℕ × TypeRef)) (f : List ℕ × TypeRef) → rest ≡ front ++ f ∷ [] → FieldsMet a b fields others rest met
    → (home : ℕ) → MayUse (store_of b) (home_of b) (given_refs (f.1 ∷ field_types met)) home → MayUse (store_of a) (home_of a) (given_refs (field_types fields ++ field_types others)) home
put_may a b fields others rest met front f e made =
    clean_may a b (given_refs (field_types fields ++ field_types others)) (f.1 ∷ field_types met)
    (All-cons (IsClean a b (given_refs (field_types fields ++ field_types others))) f.1 (field_types met) (last_of (IsClean a b (given_refs (field_types fields ++ field_types others))) rest front f e made.left_clean) made.clean) made.adds.home

pub put_adds : (a b c : Arena) (fields others rest met front : List (List ℕ × TypeRef)) (f : List ℕ × TypeRef) → rest ≡ front ++ f ∷ [] → FieldsMet a b fields others rest met
    → Adds b c (given_refs (f.1 ∷ field_types met)) [] → Adds a c (given_refs (field_types fields ++ field_types others)) []
put_adds a b c fields others rest met front f e made adds = adds_more a b c _ _ [] [] made.adds adds (put_may a b fields others rest met front f e made)

pub put_there : (a b : Arena) (fields others rest met front : List (List ℕ × TypeRef)) (f : List ℕ × TypeRef) → rest ≡ front ++ f ∷ [] → FieldsMet a b fields others rest met → IsTrue (has (store_of b) f.1)
put_there a b fields others rest met front f e made = there_kept (store_of a) (store_of b) f.1 made.adds.keeps (last_of (λ at. IsTrue (has (store_of a) at)) rest front f e made.left)

pub put_weight : (a b : Arena) (fields others rest met front : List (List ℕ × TypeRef)) (f : List ℕ × TypeRef) → rest ≡ front ++ f ∷ [] → FieldsMet a b fields others rest met
    → weight (term_of (store_of b) f.1) ≤ weight_of_fields (fields_by (term_of (store_of a)) fields)
put_weight a b fields others rest met front f e made =
    let same = ap weight (made.adds.kept f.1 (last_of (λ at. IsTrue (has (store_of a) at)) rest front f e made.left)) in
    let whole = ap (λ (zs : List (List ℕ × TypeRef)). weight_of_fields (fields_by (term_of (store_of a)) zs)) e in
    let last = weight_push (term_of (store_of a)) front f in
    let light = made.light in
    omega (arith, same, whole, last, light)

pub fields_met_more : (a b c : Arena) (fields others rest met front new : List (List ℕ × TypeRef)) (f : List ℕ × TypeRef) → rest ≡ front ++ f ∷ [] → FieldsMet a b fields others rest met
    → fields_by (term_of (store_of c)) new ≡ put_field f.0 (term_of (store_of b) f.1) (meet (term_of (store_of b) f.1)) (fields_by (term_of (store_of b)) met)
    → All (λ at. IsTrue (has (store_of c) at)) (field_types new) → All (IsClean b c (given_refs (f.1 ∷ field_types met))) (field_types new) → Adds b c (given_refs (f.1 ∷ field_types met)) []
    → FieldsMet a c fields others front new
fields_met_more a b c fields others rest met front new f e made means there clean adds =
    let g = given_refs (field_types fields ++ field_types others) in
    let own = last_of (λ at. IsTrue (has (store_of a) at)) rest front f e made.left in
    let kept : term_of (store_of b) f.1 ≡ term_of (store_of a) f.1 = made.adds.kept f.1 own in
    let left = front_of (λ at. IsTrue (has (store_of a) at)) rest front f e made.left in
    record {
      adds = put_adds a b c fields others rest met front f e made adds;
      left = left;
      left_clean = all_clean_on a b c g (field_types front) (front_of (IsClean a b g) rest front f e made.left_clean) (all_there_on (store_of a) (store_of b) (field_types front) left made.adds.keeps) adds.keeps;
      there = there;
      clean = All-weaker (IsClean b c (given_refs (f.1 ∷ field_types met))) (IsClean a c g) (λ at. clean_inner a b c _ _ at (put_may a b fields others rest met front f e made)) (field_types new) clean;
      light =
          let whole = ap (λ (zs : List (List ℕ × TypeRef)). weight_of_fields (fields_by (term_of (store_of a)) zs)) e in
          let last = weight_push (term_of (store_of a)) front f in
          let light = made.light in
          omega (arith, whole, last, light);
      so_far =
          ap (meet_fields (fields_by (term_of (store_of a)) front)) (means ∙ (λ i. put_field f.0 (kept i) (meet (kept i)) (fields_by (term_of (store_of b)) met)))
          ∙ sym (last_put front f (term_of (store_of a)) (fields_by (term_of (store_of b)) met))
          ∙ ap (λ (zs : List (List ℕ × TypeRef)). meet_fields (fields_by (term_of (store_of a)) zs) (fields_by (term_of (store_of b)) met)) (sym e)
          ∙ made.so_far;
    }

pub fields_met_done : (a b : Arena) (fields others rest met : List (List ℕ × TypeRef)) → rest ≡ [] → FieldsMet a b fields others rest met
    → fields_by (term_of (store_of b)) met ≡ meet_fields (fields_by (term_of (store_of a)) fields) (fields_by (term_of (store_of a)) others)
fields_met_done a b fields others rest met e made =
    sym (ap (λ (zs : List (List ℕ × TypeRef)). meet_fields (fields_by (term_of (store_of a)) zs) (fields_by (term_of (store_of b)) met)) e) ∙ made.so_far

-- what was met so far of a row and others, behind rows that were there
abbrev pub row_given : Row → List Row → List Row → List TypeRef
row_given row others start = field_types row.fields ++ row_types others ++ row_types start

pub record RowMet (a b : Arena) (row : Row) (others start raw : List Row) (i : ℕ) : Type 0 where
  pub adds : Adds a b (given_refs (row_given row others start)) []
  pub there : All (λ at. IsTrue (has (store_of b) at)) (row_types raw)
  pub clean : All (IsClean a b (given_refs (row_given row others start))) (row_types raw)
  pub so_far : append_rows (rows_by (term_of (store_of b)) raw) (met_each row.frozen (meet_fields (fields_by (term_of (store_of a)) row.fields)) (rows_by (term_of (store_of a)) (drop i others)))
      ≡ append_rows (rows_by (term_of (store_of a)) start) (met_each row.frozen (meet_fields (fields_by (term_of (store_of a)) row.fields)) (rows_by (term_of (store_of a)) others))

pub row_met_begun : (a : Arena) (row : Row) (others start : List Row) → All (λ at. IsTrue (has (store_of a) at)) (row_types start) → RowMet a a row others start start 0
row_met_begun a row others start there = record {
  adds = adds_nothing a (given_refs (row_given row others start));
  there = there;
  clean = all_given a a (row_types start) (row_given row others start) [] (adds_nothing a (given_refs (row_given row others start))) there
      (λ at inside. Contains-append_right (field_types row.fields ++ row_types others) (row_types start) at inside);
  so_far = refl;
}

row_inside : (rows : List Row) (i : ℕ) (r : Row) → i < length rows → r ≡ get_or rows i r → (at : TypeRef) → Contains (field_types r.fields) at → Contains (row_types rows) at
row_inside rows i r l is at inside =
    All-contains (Contains (row_types rows)) (field_types r.fields) at (row_item_hold (Contains (row_types rows)) rows i r l is (λ k d m. Contains-get_or (row_types rows) k d m)) inside

pub other_may : (a b : Arena) (row : Row) (others start raw : List Row) (i : ℕ) (o : Row) (fields slice : List (List ℕ × TypeRef)) → i < length others → o ≡ get_or others i o → fields ≡ row.fields → slice ≡ o.fields
    → All (λ at. IsTrue (has (store_of a) at)) (field_types row.fields) → All (λ at. IsTrue (has (store_of a) at)) (row_types others) → RowMet a b row others start raw i
    → (home : ℕ) → MayUse (store_of b) (home_of b) (given_refs (field_types fields ++ field_types slice)) home → MayUse (store_of a) (home_of a) (given_refs (row_given row others start)) home
other_may a b row others start raw i o fields slice l is ef es first second made =
    let g = row_given row others start in
    let one : All (IsClean a b (given_refs g)) (field_types fields) =
    subst (λ (zs : List (List ℕ × TypeRef)). All (IsClean a b (given_refs g)) (field_types zs)) (sym ef)
    (all_given a b (field_types row.fields) g [] made.adds first (λ at inside. Contains-append_left (field_types row.fields ++ row_types others) (row_types start) at (Contains-append_left (field_types row.fields) (row_types others) at inside))) in
    let two : All (IsClean a b (given_refs g)) (field_types slice) =
    subst (λ (zs : List (List ℕ × TypeRef)). All (IsClean a b (given_refs g)) (field_types zs)) (sym es)
    (all_given a b (field_types o.fields) g [] made.adds (row_item_hold (λ at. IsTrue (has (store_of a) at)) others i o l is second)
    (λ at inside. Contains-append_left (field_types row.fields ++ row_types others) (row_types start) at (Contains-append_right (field_types row.fields) (row_types others) at (row_inside others i o l is at inside)))) in
    clean_may a b (given_refs g) (field_types fields ++ field_types slice) (All-append (IsClean a b (given_refs g)) (field_types fields) (field_types slice) one two) made.adds.home

pub other_adds : (a b c : Arena) (row : Row) (others start raw : List Row) (i : ℕ) (o : Row) (fields slice : List (List ℕ × TypeRef)) → i < length others → o ≡ get_or others i o → fields ≡ row.fields → slice ≡ o.fields
    → All (λ at. IsTrue (has (store_of a) at)) (field_types row.fields) → All (λ at. IsTrue (has (store_of a) at)) (row_types others) → RowMet a b row others start raw i
    → Adds b c (given_refs (field_types fields ++ field_types slice)) [] → Adds a c (given_refs (row_given row others start)) []
other_adds a b c row others start raw i o fields slice l is ef es first second made adds =
    adds_more a b c _ _ [] [] made.adds adds (other_may a b row others start raw i o fields slice l is ef es first second made)

pub row_met_more : (a b c : Arena) (row : Row) (others start raw new : List Row) (i : ℕ) (o : Row) (fields slice met : List (List ℕ × TypeRef)) → i < length others → o ≡ get_or others i o → fields ≡ row.fields → slice ≡ o.fields
    → All (λ at. IsTrue (has (store_of a) at)) (field_types row.fields) → All (λ at. IsTrue (has (store_of a) at)) (row_types others) → RowMet a b row others start raw i
    → fields_by (term_of (store_of c)) met ≡ meet_fields (fields_by (term_of (store_of b)) fields) (fields_by (term_of (store_of b)) slice)
    → All (λ at. IsTrue (has (store_of c) at)) (field_types met) → All (IsClean b c (given_refs (field_types fields ++ field_types slice))) (field_types met) → Adds b c (given_refs (field_types fields ++ field_types slice)) []
    → new ≡ raw ++ (record { frozen = row.frozen || o.frozen; fields = met }) ∷ [] → RowMet a c row others start new (i + 1)
row_met_more a b c row others start raw new i o fields slice met l is ef es first second made means there clean adds e =
    let g = given_refs (row_given row others start) in
    let with_fields = meet_fields (fields_by (term_of (store_of a)) row.fields) in
    let rest = met_each row.frozen with_fields (rows_by (term_of (store_of a)) (drop (i + 1) others)) in
    let may = other_may a b row others start raw i o fields slice l is ef es first second made in
    let one : fields_by (term_of (store_of b)) fields ≡ fields_by (term_of (store_of a)) row.fields = ap (fields_by (term_of (store_of b))) ef ∙ fields_kept a b _ [] made.adds row.fields first in
    let two : fields_by (term_of (store_of b)) slice ≡ fields_by (term_of (store_of a)) o.fields = ap (fields_by (term_of (store_of b))) es ∙ fields_kept a b _ [] made.adds o.fields (row_item_hold (λ at. IsTrue (has (store_of a) at)) others i o l is second) in
    let meaning : fields_by (term_of (store_of c)) met ≡ with_fields (fields_by (term_of (store_of a)) o.fields) = means ∙ (λ j. meet_fields (one j) (two j)) in
    record {
      adds = other_adds a b c row others start raw i o fields slice l is ef es first second made adds;
      there = all_row_push (λ q. IsTrue (has (store_of c) q)) raw new _ e (all_there_on (store_of b) (store_of c) (row_types raw) made.there adds.keeps) there;
      clean =
          all_row_push (IsClean a c g) raw new _ e (all_clean_on a b c g (row_types raw) made.clean made.there adds.keeps)
          (All-weaker (IsClean b c (given_refs (field_types fields ++ field_types slice))) (IsClean a c g) (λ at. clean_inner a b c _ _ at may) (field_types met) clean);
      so_far =
          ap (λ (zs : List Row). append_rows (rows_by (term_of (store_of c)) zs) rest) e
          ∙ rows_push (term_of (store_of c)) raw (record { frozen = row.frozen || o.frozen; fields = met }) rest
          ∙ (let k = rows_kept b c _ [] adds raw made.there in λ j. append_rows (k j) (more_rows (row.frozen || o.frozen) (meaning j) rest))
          ∙ ap (append_rows (rows_by (term_of (store_of b)) raw)) (sym (ap (λ (zs : List Row). met_each row.frozen with_fields (rows_by (term_of (store_of a)) zs)) (dropped others i o l is)))
          ∙ made.so_far;
    }

pub row_met_done : (a b : Arena) (row : Row) (others start raw : List Row) → RowMet a b row others start raw (length others)
    → rows_by (term_of (store_of b)) raw ≡ append_rows (rows_by (term_of (store_of a)) start) (met_each row.frozen (meet_fields (fields_by (term_of (store_of a)) row.fields)) (rows_by (term_of (store_of a)) others))
row_met_done a b row others start raw made =
    sym (rows_none_more (rows_by (term_of (store_of b)) raw))
    ∙ ap (λ (zs : List Row). append_rows (rows_by (term_of (store_of b)) raw) (met_each row.frozen (meet_fields (fields_by (term_of (store_of a)) row.fields)) (rows_by (term_of (store_of a)) zs))) (sym (drop_all others))
    ∙ made.so_far

-- what was met so far of some rows and others
pub record RowsMet (a b : Arena) (rows others raw : List Row) (i : ℕ) : Type 0 where
  pub adds : Adds a b (given_refs (row_types rows ++ row_types others)) []
  pub there : All (λ at. IsTrue (has (store_of b) at)) (row_types raw)
  pub clean : All (IsClean a b (given_refs (row_types rows ++ row_types others))) (row_types raw)
  pub so_far : append_rows (rows_by (term_of (store_of b)) raw) (met_rows (rows_by (term_of (store_of a)) (drop i rows)) (rows_by (term_of (store_of a)) others)) ≡ met_rows (rows_by (term_of (store_of a)) rows) (rows_by (term_of (store_of a)) others)

pub rows_met_begun : (a : Arena) (rows others : List Row) → RowsMet a a rows others [] 0
rows_met_begun a rows others = record {
  adds = adds_nothing a (given_refs (row_types rows ++ row_types others));
  there = All-nil (λ at. IsTrue (has (store_of a) at));
  clean = All-nil (IsClean a a (given_refs (row_types rows ++ row_types others)));
  so_far = refl;
}

pub row_of_may : (a b : Arena) (rows others raw : List Row) (i : ℕ) (r : Row) → i < length rows → r ≡ get_or rows i r
    → All (λ at. IsTrue (has (store_of a) at)) (row_types rows) → All (λ at. IsTrue (has (store_of a) at)) (row_types others) → RowsMet a b rows others raw i
    → (home : ℕ) → MayUse (store_of b) (home_of b) (given_refs (row_given r others raw)) home → MayUse (store_of a) (home_of a) (given_refs (row_types rows ++ row_types others)) home
row_of_may a b rows others raw i r l is first second made =
    let g = row_types rows ++ row_types others in
    let one : All (IsClean a b (given_refs g)) (field_types r.fields) =
    all_given a b (field_types r.fields) g [] made.adds (row_item_hold (λ at. IsTrue (has (store_of a) at)) rows i r l is first) (λ at inside. Contains-append_left (row_types rows) (row_types others) at (row_inside rows i r l is at inside)) in
    let two : All (IsClean a b (given_refs g)) (row_types others) = all_given a b (row_types others) g [] made.adds second (λ at inside. Contains-append_right (row_types rows) (row_types others) at inside) in
    clean_may a b (given_refs g) (row_given r others raw)
    (All-append (IsClean a b (given_refs g)) (field_types r.fields ++ row_types others) (row_types raw) (All-append (IsClean a b (given_refs g)) (field_types r.fields) (row_types others) one two) made.clean) made.adds.home

pub row_of_adds : (a b c : Arena) (rows others raw : List Row) (i : ℕ) (r : Row) → i < length rows → r ≡ get_or rows i r
    → All (λ at. IsTrue (has (store_of a) at)) (row_types rows) → All (λ at. IsTrue (has (store_of a) at)) (row_types others) → RowsMet a b rows others raw i
    → Adds b c (given_refs (row_given r others raw)) [] → Adds a c (given_refs (row_types rows ++ row_types others)) []
row_of_adds a b c rows others raw i r l is first second made adds = adds_more a b c _ _ [] [] made.adds adds (row_of_may a b rows others raw i r l is first second made)

pub rows_met_more : (a b c : Arena) (rows others raw new : List Row) (i : ℕ) (r : Row) → i < length rows → r ≡ get_or rows i r
    → All (λ at. IsTrue (has (store_of a) at)) (row_types rows) → All (λ at. IsTrue (has (store_of a) at)) (row_types others) → RowsMet a b rows others raw i
    → rows_by (term_of (store_of c)) new ≡ append_rows (rows_by (term_of (store_of b)) raw) (met_each r.frozen (meet_fields (fields_by (term_of (store_of b)) r.fields)) (rows_by (term_of (store_of b)) others))
    → All (λ at. IsTrue (has (store_of c) at)) (row_types new) → All (IsClean b c (given_refs (row_given r others raw))) (row_types new) → Adds b c (given_refs (row_given r others raw)) []
    → RowsMet a c rows others new (i + 1)
rows_met_more a b c rows others raw new i r l is first second made means there clean adds =
    let g = given_refs (row_types rows ++ row_types others) in
    let rest = met_rows (rows_by (term_of (store_of a)) (drop (i + 1) rows)) (rows_by (term_of (store_of a)) others) in
    let one : fields_by (term_of (store_of b)) r.fields ≡ fields_by (term_of (store_of a)) r.fields = fields_kept a b _ [] made.adds r.fields (row_item_hold (λ at. IsTrue (has (store_of a) at)) rows i r l is first) in
    let two : rows_by (term_of (store_of b)) others ≡ rows_by (term_of (store_of a)) others = rows_kept a b _ [] made.adds others second in
    record {
      adds = row_of_adds a b c rows others raw i r l is first second made adds;
      there = there;
      clean = All-weaker (IsClean b c (given_refs (row_given r others raw))) (IsClean a c g) (λ at. clean_inner a b c _ _ at (row_of_may a b rows others raw i r l is first second made)) (row_types new) clean;
      so_far =
          ap (λ (x : Rows). append_rows x rest) (means ∙ (λ j. append_rows (rows_by (term_of (store_of b)) raw) (met_each r.frozen (meet_fields (one j)) (two j))))
          ∙ append_rows_assoc (rows_by (term_of (store_of b)) raw) (met_each r.frozen (meet_fields (fields_by (term_of (store_of a)) r.fields)) (rows_by (term_of (store_of a)) others)) rest
          ∙ ap (append_rows (rows_by (term_of (store_of b)) raw)) (sym (ap (λ (zs : List Row). met_rows (rows_by (term_of (store_of a)) zs) (rows_by (term_of (store_of a)) others)) (dropped rows i r l is)))
          ∙ made.so_far;
    }

pub rows_met_done : (a b : Arena) (rows others raw : List Row) → RowsMet a b rows others raw (length rows)
    → rows_by (term_of (store_of b)) raw ≡ met_rows (rows_by (term_of (store_of a)) rows) (rows_by (term_of (store_of a)) others)
rows_met_done a b rows others raw made =
    sym (rows_none_more (rows_by (term_of (store_of b)) raw))
    ∙ ap (λ (zs : List Row). append_rows (rows_by (term_of (store_of b)) raw) (met_rows (rows_by (term_of (store_of a)) zs) (rows_by (term_of (store_of a)) others))) (sym (drop_all rows))
    ∙ made.so_far
