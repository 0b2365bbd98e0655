-- How rows and types compare, part by part.
use Rattle.std.proofs.Common.{◌≡◌, ℕ, zero, suc, ◌+◌, ◌-◌, ◌<◌, ◌≤◌, Bool, true, false, List, [], ◌∷◌, length, get_or, drop, refl, sym, ap, ◌∙◌, arith, add-one, drop-cons, length-drop}
use Rattle.std.specs.Prelude.{min}
use Rattle.std.specs.declared.cmp.Ordering.{Ordering}
use Rattle.std.specs.declared.cmp.Ordering.TheVariants.{Less, Equal, Greater}
use Rattle.std.specs.Ordering.{nat_cmp, bool_cmp, ordering_then, is_ne}
use Rattle.std.specs.Cmp.{IsTotalOrder, bool_cmp_total, nat_cmp_is}
use Rattle.std.specs.Cmp.Lexicographic.{slice_cmp, lists_total}
use Rattle.std.proofs.lemmas.Cmp.{tied_itself}
use Rattle.type_arena.specs.Term.{Members, only, all_but, Function, Free, free_of, Term, term, Rows, no_rows, more_rows, Fields, no_fields, more_fields}
use Rattle.std.specs.Prelude.{◌&&◌, if◌then◌else◌, Some}
use Rattle.std.specs.HashMap.{get}
use Rattle.type_arena.specs.Meaning.{term_of, rows_by, fields_by}
use Rattle.type_arena.specs.Store.{Store, IsSound, node_at}
use Rattle.type_arena.proofs.MeaningLemmas.{term_of-node}
use Rattle.type_arena.proofs.EqLemmas.{ref_tested}
use Rattle.type_arena.specs.declared.node.Node.{Node}
use Rattle.type_arena.specs.contracts.node.TypeRefPartialEq.TheImpl as TypeRefEq
use Rattle.type_ops.specs.declared.pairs.Pair.{Pair}
use Rattle.type_ops.specs.contracts.pairs.PairPartialEq.TheImpl as PairEq
use Rattle.type_arena.specs.declared.node.Row.{Row}
use Rattle.type_arena.specs.declared.node.TypeRef.{TypeRef}
use Rattle.type_normal.specs.Members.{members_cmp}
use Rattle.type_normal.specs.Free.{name_cmp, function_cmp, free_cmp}
use Rattle.type_normal.specs.Rows.{names_cmp, term_cmp, rows_cmp, types_cmp, row_cmp}
use Rattle.type_normal.proofs.OrderFacts.{names_total, functions_total}
use Rattle.type_ops.specs.Comparing.{Comparisons, AreCompared, row_order}

pub then_assoc : (a b c : Ordering) → ordering_then (ordering_then a b) c ≡ ordering_then a (ordering_then b c)
then_assoc Less b c = refl
then_assoc Equal b c = refl
then_assoc Greater b c = refl

pub then_ne : (a b : Ordering) → is_ne a ≡ true → ordering_then a b ≡ a
then_ne Less b e = refl
then_ne Equal b e = cc
then_ne Greater b e = refl

pub then_eq : (a b : Ordering) → is_ne a ≡ false → ordering_then a b ≡ b
then_eq Less b e = cc
then_eq Equal b e = refl
then_eq Greater b e = cc

-- the parts of a comparison that was made from the left
pub then_all : (a b c d e f g t u v w x r : Ordering) → t ≡ ordering_then a b → u ≡ ordering_then t c → v ≡ ordering_then u d → w ≡ ordering_then v e → x ≡ ordering_then w f → r ≡ ordering_then x g
    → r ≡ ordering_then a (ordering_then b (ordering_then c (ordering_then d (ordering_then e (ordering_then f g)))))
then_all a b c d e f g t u v w x r et eu ev ew ex er =
    er ∙ ap (λ (o : Ordering). ordering_then o g) ex ∙ then_assoc w f g
    ∙ ap (λ (o : Ordering). ordering_then o (ordering_then f g)) ew ∙ then_assoc v e (ordering_then f g)
    ∙ ap (λ (o : Ordering). ordering_then o (ordering_then e (ordering_then f g))) ev ∙ then_assoc u d (ordering_then e (ordering_then f g))
    ∙ ap (λ (o : Ordering). ordering_then o (ordering_then d (ordering_then e (ordering_then f g)))) eu ∙ then_assoc t c (ordering_then d (ordering_then e (ordering_then f g)))
    ∙ ap (λ (o : Ordering). ordering_then o (ordering_then c (ordering_then d (ordering_then e (ordering_then f g))))) et ∙ then_assoc a b (ordering_then c (ordering_then d (ordering_then e (ordering_then f g))))

-- what is compared with itself ties
then_both : (a b : Ordering) → a ≡ Equal → b ≡ Equal → ordering_then a b ≡ Equal
then_both a b e f = ap (λ (o : Ordering). ordering_then o b) e ∙ f

members_same : {X : Type 0} (cmp : X → X → Ordering) → IsTotalOrder cmp → (s : Members X) → members_cmp cmp s s ≡ Equal
members_same cmp total (only xs) = tied_itself (lists_total total) xs
members_same cmp total (all_but xs) = tied_itself (lists_total total) xs

free_same : (a : Free) → free_cmp a a ≡ Equal
free_same a =
    then_both _ _ (tied_itself bool_cmp_total a.nil)
    (then_both _ _ (tied_itself bool_cmp_total a.truth)
    (then_both _ _ (tied_itself bool_cmp_total a.falsity)
    (then_both _ _ (tied_itself bool_cmp_total a.number)
    (then_both _ _ (tied_itself bool_cmp_total a.other)
    (then_both _ _ (members_same name_cmp names_total a.strings) (members_same function_cmp functions_total a.functions))))))

names_same : (fs : Fields) → names_cmp fs fs ≡ Equal
names_same no_fields = refl
names_same (more_fields p t fs) = then_both _ _ (tied_itself names_total p) (names_same fs)

mutual
  pub term_same : (t : Term) → term_cmp t t ≡ Equal
  term_same (term free rows) = then_both _ _ (free_same free) (rows_same rows)

  rows_same : (r : Rows) → rows_cmp r r ≡ Equal
  rows_same no_rows = refl
  rows_same (more_rows b fs r) = then_both _ _ (tied_itself bool_cmp_total b) (then_both _ _ (names_same fs) (then_both _ _ (types_same fs) (rows_same r)))

  types_same : (fs : Fields) → types_cmp fs fs ≡ Equal
  types_same no_fields = refl
  types_same (more_fields p t fs) = then_both _ _ (term_same t) (types_same fs)

-- lists that are compared member by member
pub dropped : {X : Type 0} (xs : List X) (i : ℕ) (x : X) → i < length xs → x ≡ get_or xs i x → drop i xs ≡ x ∷ drop (i + 1) xs
dropped xs i x l is = drop-cons xs i x l ∙ ap (λ z. z ∷ drop (suc i) xs) (sym is) ∙ ap (λ (n : ℕ). x ∷ drop n xs) (sym (add-one i))

lexical_end : {X : Type 0} (F : List X → List X → Ordering) → F [] [] ≡ Equal → ((y : X) (ys : List X) → F [] (y ∷ ys) ≡ Less) → ((x : X) (xs : List X) → F (x ∷ xs) [] ≡ Greater)
    → (xs ys : List X) (n : ℕ) → n ≡ min (length xs) (length ys) → nat_cmp (length xs) (length ys) ≡ F (drop n xs) (drop n ys)
lexical_end {X} F none less greater xs ys n is = go (drop n xs) (drop n ys) (length-drop n xs) (length-drop n ys)
  where
    go : (p q : List X) → length p ≡ length xs - n → length q ≡ length ys - n → nat_cmp (length xs) (length ys) ≡ F p q
    go [] [] a b = let e : length xs ≡ length ys = omega arith in sym (nat_cmp_is (length xs) (length ys) Equal e) ∙ sym none
    go [] (y ∷ q) a b = let l : length xs < length ys = omega arith in sym (nat_cmp_is (length xs) (length ys) Less l) ∙ sym (less y q)
    go (x ∷ p) [] a b = let l : length ys < length xs = omega arith in sym (nat_cmp_is (length xs) (length ys) Greater l) ∙ sym (greater x p)
    go (x ∷ p) (y ∷ q) a b = absurd (omega arith)

-- rows
rows_step : (means : TypeRef → Term) (rows others : List Row) (i : ℕ) (r o : Row) → i < length rows → i < length others → r ≡ get_or rows i r → o ≡ get_or others i o
    → rows_cmp (rows_by means (drop i rows)) (rows_by means (drop i others)) ≡ ordering_then (row_order means r o) (rows_cmp (rows_by means (drop (i + 1) rows)) (rows_by means (drop (i + 1) others)))
rows_step means rows others i r o l m is js =
    let rest = rows_cmp (rows_by means (drop (i + 1) rows)) (rows_by means (drop (i + 1) others)) in
    let names = names_cmp (fields_by means r.fields) (fields_by means o.fields) in
    let types = types_cmp (fields_by means r.fields) (fields_by means o.fields) in
    ap (λ (xs : List Row). rows_cmp (rows_by means xs) (rows_by means (drop i others))) (dropped rows i r l is)
    ∙ ap (λ (ys : List Row). rows_cmp (rows_by means (r ∷ drop (i + 1) rows)) (rows_by means ys)) (dropped others i o m js)
    ∙ sym (then_assoc (bool_cmp r.frozen o.frozen) (ordering_then names types) rest ∙ ap (ordering_then (bool_cmp r.frozen o.frozen)) (then_assoc names types rest))

pub rows_differ : (means : TypeRef → Term) (rows others : List Row) (i : ℕ) (r o : Row) (order : Ordering) → i < length rows → i < length others → r ≡ get_or rows i r → o ≡ get_or others i o
    → rows_cmp (rows_by means rows) (rows_by means others) ≡ rows_cmp (rows_by means (drop i rows)) (rows_by means (drop i others))
    → order ≡ row_order means r o → is_ne order ≡ true → order ≡ rows_cmp (rows_by means rows) (rows_by means others)
rows_differ means rows others i r o order l m is js so made ne =
    let first : is_ne (row_order means r o) ≡ true = ap is_ne (sym made) ∙ ne in
    made ∙ sym (so ∙ rows_step means rows others i r o l m is js ∙ then_ne (row_order means r o) _ first)

pub rows_tie : (means : TypeRef → Term) (rows others : List Row) (i : ℕ) (r o : Row) (order : Ordering) → i < length rows → i < length others → r ≡ get_or rows i r → o ≡ get_or others i o
    → rows_cmp (rows_by means rows) (rows_by means others) ≡ rows_cmp (rows_by means (drop i rows)) (rows_by means (drop i others))
    → order ≡ row_order means r o → is_ne order ≡ false
    → rows_cmp (rows_by means rows) (rows_by means others) ≡ rows_cmp (rows_by means (drop (i + 1) rows)) (rows_by means (drop (i + 1) others))
rows_tie means rows others i r o order l m is js so made eq =
    let first : is_ne (row_order means r o) ≡ false = ap is_ne (sym made) ∙ eq in
    so ∙ rows_step means rows others i r o l m is js ∙ then_eq (row_order means r o) _ first

pub rows_end : (means : TypeRef → Term) (rows others : List Row) (n : ℕ) → n ≡ min (length rows) (length others)
    → rows_cmp (rows_by means rows) (rows_by means others) ≡ rows_cmp (rows_by means (drop n rows)) (rows_by means (drop n others))
    → nat_cmp (length rows) (length others) ≡ rows_cmp (rows_by means rows) (rows_by means others)
rows_end means rows others n is so =
    lexical_end (λ (xs : List Row) (ys : List Row). rows_cmp (rows_by means xs) (rows_by means ys)) refl (λ y ys. refl) (λ x xs. refl) rows others n is ∙ sym so

-- the types of fields
types_step : (means : TypeRef → Term) (fs gs : List (List ℕ × TypeRef)) (i : ℕ) (f g : List ℕ × TypeRef) → i < length fs → i < length gs → f ≡ get_or fs i f → g ≡ get_or gs i g
    → types_cmp (fields_by means (drop i fs)) (fields_by means (drop i gs)) ≡ ordering_then (term_cmp (means f.1) (means g.1)) (types_cmp (fields_by means (drop (i + 1) fs)) (fields_by means (drop (i + 1) gs)))
types_step means fs gs i f g l m is js =
    ap (λ (xs : List (List ℕ × TypeRef)). types_cmp (fields_by means xs) (fields_by means (drop i gs))) (dropped fs i f l is)
    ∙ ap (λ (ys : List (List ℕ × TypeRef)). types_cmp (fields_by means (f ∷ drop (i + 1) fs)) (fields_by means ys)) (dropped gs i g m js)

pub types_differ : (means : TypeRef → Term) (fs gs : List (List ℕ × TypeRef)) (i : ℕ) (f g : List ℕ × TypeRef) (order : Ordering) → i < length fs → i < length gs → f ≡ get_or fs i f → g ≡ get_or gs i g
    → types_cmp (fields_by means fs) (fields_by means gs) ≡ types_cmp (fields_by means (drop i fs)) (fields_by means (drop i gs))
    → order ≡ term_cmp (means f.1) (means g.1) → is_ne order ≡ true → order ≡ types_cmp (fields_by means fs) (fields_by means gs)
types_differ means fs gs i f g order l m is js so made ne =
    let first : is_ne (term_cmp (means f.1) (means g.1)) ≡ true = ap is_ne (sym made) ∙ ne in
    made ∙ sym (so ∙ types_step means fs gs i f g l m is js ∙ then_ne (term_cmp (means f.1) (means g.1)) _ first)

pub types_tie : (means : TypeRef → Term) (fs gs : List (List ℕ × TypeRef)) (i : ℕ) (f g : List ℕ × TypeRef) (order : Ordering) → i < length fs → i < length gs → f ≡ get_or fs i f → g ≡ get_or gs i g
    → types_cmp (fields_by means fs) (fields_by means gs) ≡ types_cmp (fields_by means (drop i fs)) (fields_by means (drop i gs))
    → order ≡ term_cmp (means f.1) (means g.1) → is_ne order ≡ false
    → types_cmp (fields_by means fs) (fields_by means gs) ≡ types_cmp (fields_by means (drop (i + 1) fs)) (fields_by means (drop (i + 1) gs))
types_tie means fs gs i f g order l m is js so made eq =
    let first : is_ne (term_cmp (means f.1) (means g.1)) ≡ false = ap is_ne (sym made) ∙ eq in
    so ∙ types_step means fs gs i f g l m is js ∙ then_eq (term_cmp (means f.1) (means g.1)) _ first

pub types_end : (means : TypeRef → Term) (fs gs : List (List ℕ × TypeRef)) (n : ℕ) → n ≡ min (length fs) (length gs)
    → types_cmp (fields_by means fs) (fields_by means gs) ≡ types_cmp (fields_by means (drop n fs)) (fields_by means (drop n gs))
    → nat_cmp (length fs) (length gs) ≡ types_cmp (fields_by means fs) (fields_by means gs)
types_end means fs gs n is so =
    lexical_end (λ (xs : List (List ℕ × TypeRef)) (ys : List (List ℕ × TypeRef)). types_cmp (fields_by means xs) (fields_by means ys)) refl (λ y ys. refl) (λ x xs. refl) fs gs n is ∙ sym so

-- the names of fields
names_step : (means : TypeRef → Term) (fs gs : List (List ℕ × TypeRef)) (i : ℕ) (f g : List ℕ × TypeRef) → i < length fs → i < length gs → f ≡ get_or fs i f → g ≡ get_or gs i g
    → names_cmp (fields_by means (drop i fs)) (fields_by means (drop i gs)) ≡ ordering_then (name_cmp f.0 g.0) (names_cmp (fields_by means (drop (i + 1) fs)) (fields_by means (drop (i + 1) gs)))
names_step means fs gs i f g l m is js =
    ap (λ (xs : List (List ℕ × TypeRef)). names_cmp (fields_by means xs) (fields_by means (drop i gs))) (dropped fs i f l is)
    ∙ ap (λ (ys : List (List ℕ × TypeRef)). names_cmp (fields_by means (f ∷ drop (i + 1) fs)) (fields_by means ys)) (dropped gs i g m js)

pub names_differ : (means : TypeRef → Term) (fs gs : List (List ℕ × TypeRef)) (i : ℕ) (f g : List ℕ × TypeRef) (order : Ordering) → i < length fs → i < length gs → f ≡ get_or fs i f → g ≡ get_or gs i g
    → names_cmp (fields_by means fs) (fields_by means gs) ≡ names_cmp (fields_by means (drop i fs)) (fields_by means (drop i gs))
    → order ≡ name_cmp f.0 g.0 → is_ne order ≡ true → order ≡ names_cmp (fields_by means fs) (fields_by means gs)
names_differ means fs gs i f g order l m is js so made ne =
    let first : is_ne (name_cmp f.0 g.0) ≡ true = ap is_ne (sym made) ∙ ne in
    made ∙ sym (so ∙ names_step means fs gs i f g l m is js ∙ then_ne (name_cmp f.0 g.0) _ first)

pub names_tie : (means : TypeRef → Term) (fs gs : List (List ℕ × TypeRef)) (i : ℕ) (f g : List ℕ × TypeRef) (order : Ordering) → i < length fs → i < length gs → f ≡ get_or fs i f → g ≡ get_or gs i g
    → names_cmp (fields_by means fs) (fields_by means gs) ≡ names_cmp (fields_by means (drop i fs)) (fields_by means (drop i gs))
    → order ≡ name_cmp f.0 g.0 → is_ne order ≡ false
    → names_cmp (fields_by means fs) (fields_by means gs) ≡ names_cmp (fields_by means (drop (i + 1) fs)) (fields_by means (drop (i + 1) gs))
names_tie means fs gs i f g order l m is js so made eq =
    let first : is_ne (name_cmp f.0 g.0) ≡ false = ap is_ne (sym made) ∙ eq in
    so ∙ names_step means fs gs i f g l m is js ∙ then_eq (name_cmp f.0 g.0) _ first

pub names_end : (means : TypeRef → Term) (fs gs : List (List ℕ × TypeRef)) (n : ℕ) → n ≡ min (length fs) (length gs)
    → names_cmp (fields_by means fs) (fields_by means gs) ≡ names_cmp (fields_by means (drop n fs)) (fields_by means (drop n gs))
    → nat_cmp (length fs) (length gs) ≡ names_cmp (fields_by means fs) (fields_by means gs)
names_end means fs gs n is so =
    lexical_end (λ (xs : List (List ℕ × TypeRef)) (ys : List (List ℕ × TypeRef)). names_cmp (fields_by means xs) (fields_by means ys)) refl (λ y ys. refl) (λ x xs. refl) fs gs n is ∙ sym so

-- two rows, where neither what they need nor their names decide
pub row_differs : (means : TypeRef → Term) (r o : Row) (frozen names outer : Ordering) → frozen ≡ bool_cmp r.frozen o.frozen → names ≡ names_cmp (fields_by means r.fields) (fields_by means o.fields)
    → outer ≡ ordering_then frozen names → is_ne outer ≡ true → outer ≡ row_order means r o
row_differs means r o frozen names outer ef en eo ne =
    let types = types_cmp (fields_by means r.fields) (fields_by means o.fields) in
    sym (then_ne outer types ne) ∙ ap (λ (x : Ordering). ordering_then x types) eo ∙ then_assoc frozen names types
    ∙ ap (λ (x : Ordering). ordering_then x (ordering_then names types)) ef
    ∙ ap (λ (x : Ordering). ordering_then (bool_cmp r.frozen o.frozen) (ordering_then x types)) en

pub row_ties : (means : TypeRef → Term) (r o : Row) (frozen names outer order : Ordering) → frozen ≡ bool_cmp r.frozen o.frozen → names ≡ names_cmp (fields_by means r.fields) (fields_by means o.fields)
    → outer ≡ ordering_then frozen names → is_ne outer ≡ false → order ≡ types_cmp (fields_by means r.fields) (fields_by means o.fields) → order ≡ row_order means r o
row_ties means r o frozen names outer order ef en eo eq et =
    let types = types_cmp (fields_by means r.fields) (fields_by means o.fields) in
    et ∙ sym (then_eq outer types eq) ∙ ap (λ (x : Ordering). ordering_then x types) eo ∙ then_assoc frozen names types
    ∙ ap (λ (x : Ordering). ordering_then x (ordering_then names types)) ef
    ∙ ap (λ (x : Ordering). ordering_then (bool_cmp r.frozen o.frozen) (ordering_then x types)) en

-- two types, of their nodes
pub types_by_nodes : (store : Store) → IsSound store → (a b : TypeRef) (n m : Node) → node_at store a ≡ Some n → node_at store b ≡ Some m
    → term_cmp (term_of store a) (term_of store b) ≡ ordering_then (free_cmp (free_of n) (free_of m)) (rows_cmp (rows_by (term_of store) n.rows) (rows_by (term_of store) m.rows))
types_by_nodes store sound a b n m e f = let x = term_of-node store sound a n e in let y = term_of-node store sound b m f in λ i. term_cmp (x i) (y i)

pub types_differ_free : (store : Store) → IsSound store → (a b : TypeRef) (n m : Node) (free : Ordering) → node_at store a ≡ Some n → node_at store b ≡ Some m
    → free ≡ free_cmp (free_of n) (free_of m) → is_ne free ≡ true → free ≡ term_cmp (term_of store a) (term_of store b)
types_differ_free store sound a b n m free e f is ne =
    let rest = rows_cmp (rows_by (term_of store) n.rows) (rows_by (term_of store) m.rows) in
    sym (then_ne free rest ne) ∙ ap (λ (o : Ordering). ordering_then o rest) is ∙ sym (types_by_nodes store sound a b n m e f)

pub types_tie_free : (store : Store) → IsSound store → (a b : TypeRef) (n m : Node) (rows others : List Row) (free order : Ordering) → node_at store a ≡ Some n → node_at store b ≡ Some m
    → free ≡ free_cmp (free_of n) (free_of m) → is_ne free ≡ false → rows ≡ n.rows → others ≡ m.rows
    → order ≡ rows_cmp (rows_by (term_of store) rows) (rows_by (term_of store) others) → order ≡ term_cmp (term_of store a) (term_of store b)
types_tie_free store sound a b n m rows others free order e f is eq er eo made =
    let rest = rows_cmp (rows_by (term_of store) n.rows) (rows_by (term_of store) m.rows) in
    made ∙ (λ i. rows_cmp (rows_by (term_of store) (er i)) (rows_by (term_of store) (eo i)))
    ∙ sym (then_eq free rest eq) ∙ ap (λ (o : Ordering). ordering_then o rest) is ∙ sym (types_by_nodes store sound a b n m e f)

pub same_types : (store : Store) (a b : TypeRef) → TypeRefEq.ghosts.eq a b ≡ true → Equal ≡ term_cmp (term_of store a) (term_of store b)
same_types store a b e =
    sym (term_same (term_of store a)) ∙ ap (λ (r : TypeRef). term_cmp (term_of store a) (term_of store r)) ((ref_tested a b).0 e)

-- what is remembered stays right with one more pair that is
pair_of : (a b : Pair) → a.first ≡ b.first → a.second ≡ b.second → a ≡ b
pair_of a b e f = λ i. record { first = e i; second = f i }

pub pair_tested : (a b : Pair) → PairEq.ghosts.eq a b ≡ true → a ≡ b
pair_tested a b e = pair_of a b ((ref_tested a.first b.first).0 (and_first _ _ e)) ((ref_tested a.second b.second).0 (and_second _ _ e))
  where
    and_first : (x y : Bool) → x && y ≡ true → x ≡ true
    and_first true y e = refl
    and_first false y e = cc

    and_second : (x y : Bool) → x && y ≡ true → y ≡ true
    and_second true y e = e
    and_second false y e = cc

some_is : (a b : Ordering) → Some a ≡ Some b → b ≡ a
some_is a b e = cc

pub compared_more : (store : Store) (old new : Comparisons) (k : Pair) (v : Ordering) → AreCompared store old → v ≡ term_cmp (term_of store k.first) (term_of store k.second)
    → ((q : Pair) → get PairEq.ghosts.eq new q ≡ (if PairEq.ghosts.eq k q then Some v else get PairEq.ghosts.eq old q)) → AreCompared store new
compared_more store old new k v right is puts q s e = go (PairEq.ghosts.eq k q) refl
  where
    go : (b : Bool) → PairEq.ghosts.eq k q ≡ b → s ≡ term_cmp (term_of store q.first) (term_of store q.second)
    go true m =
        let p : Some v ≡ Some s = sym (puts q ∙ ap (λ (b : Bool). if b then Some v else get PairEq.ghosts.eq old q) m) ∙ e in
        some_is v s p ∙ is ∙ ap (λ (at : Pair). term_cmp (term_of store at.first) (term_of store at.second)) (pair_tested k q m)
    go false m = right q s (sym (puts q ∙ ap (λ (b : Bool). if b then Some v else get PairEq.ghosts.eq old q) m) ∙ e)
