-- Which types are below others, part by part of their nodes.
use Rattle.std.proofs.Common.{◌≡◌, ℕ, zero, suc, ◌+◌, ◌<◌, Bool, true, false, not, List, [], ◌∷◌, length, get_or, drop, refl, sym, ap, ◌∙◌, subst, arith, add-one, drop-cons}
use Rattle.std.specs.Prelude.{◌||◌, ◌&&◌, Option, Some, None, IfSome, All, if◌then◌else◌}
use Rattle.std.specs.List.{list_all}
use Rattle.std.specs.Str.{bytes_eq}
use Rattle.std.specs.Ordering.{is_eq}
use Rattle.std.specs.Option.{option_eq}
use Rattle.std.proofs.lemmas.List.Elements.{All-head, All-tail}
use Rattle.type_arena.specs.Term.{all_but, Function, Term, Fields, no_fields, more_fields, free_of, strings_of, functions_of, function_of, functions_in}
use Rattle.type_arena.specs.Meaning.{term_of, rows_by, fields_by}
use Rattle.type_arena.specs.Store.{Store, IsSound, node_at, field_types}
use Rattle.type_arena.specs.declared.node.Among.{Among}
use Rattle.type_arena.specs.declared.node.Among.TheVariants.{Only, AllBut}
use Rattle.type_arena.specs.declared.node.FnName.{FnName}
use Rattle.type_arena.specs.declared.node.FnName.TheVariants.{Builtin, Literal}
use Rattle.type_arena.specs.declared.node.Node.{Node}
use Rattle.type_arena.specs.declared.node.Row.{Row}
use Rattle.type_arena.specs.declared.node.TypeRef.{TypeRef}
use Rattle.type_arena.specs.contracts.node.TypeRefPartialEq.TheImpl as TypeRefEq
use Rattle.type_arena.specs.contracts.node.FnNameOrd.TheImpl as FnNameOrd
use Rattle.type_arena.proofs.MeaningLemmas.{term_of-node}
use Rattle.type_arena.proofs.EqLemmas.{ref_tested}
use Rattle.type_normal.specs.Free.{name_cmp, function_cmp, all_values}
use Rattle.type_normal.specs.Field.{listed_type}
use Rattle.type_normal.specs.Kinds.{unknown}
use Rattle.type_normal.specs.Members.{has_member}
use Rattle.type_normal.specs.Rows.{is_normal, are_normal_rows, are_normal_fields, is_empty, is_unknown, names_in_order, comes_first}
use Rattle.type_normal.proofs.HoldsFacts.{left, right}
use Rattle.subtype_check.specs.Below.{is_subset, free_below, each_row, is_above, rows_above, fields_above}
use Rattle.subtype_check.specs.Checking.{is_among, is_everything, listed_at, type_at, Answers}
use Rattle.subtype_check.specs.declared.known.Pair.{Pair}
use Rattle.subtype_check.proofs.BelowFacts.{below_itself}

-- sets as nodes have them, and as types do
pub strings_among : (a b : Among (List ℕ)) → is_among name_cmp a b ≡ is_subset name_cmp (strings_of a) (strings_of b)
strings_among (Only xs) (Only ys) = refl
strings_among (Only xs) (AllBut ys) = refl
strings_among (AllBut xs) (Only ys) = refl
strings_among (AllBut xs) (AllBut ys) = refl

fn_order : (a b : FnName) → FnNameOrd.ghosts.cmp a b ≡ function_cmp (function_of a) (function_of b)
fn_order (Builtin p) (Builtin q) = refl
fn_order (Builtin p) (Literal h n) = refl
fn_order (Literal h n) (Builtin p) = refl
fn_order (Literal h n) (Literal k m) = refl

pub names_has : (x : FnName) (ys : List FnName) → has_member FnNameOrd.ghosts.cmp x ys ≡ has_member function_cmp (function_of x) (functions_in ys)
names_has x [] = refl
names_has x (y ∷ ys) = let first = fn_order x y in let rest = names_has x ys in λ i. is_eq (first i) || rest i

all_named : (p : FnName → Bool) (q : Function → Bool) → ((x : FnName) → p x ≡ q (function_of x)) → (xs : List FnName) → list_all p xs ≡ list_all q (functions_in xs)
all_named p q same [] = refl
all_named p q same (x ∷ xs) = let first = same x in let rest = all_named p q same xs in λ i. first i && rest i

pub functions_among : (a b : Among FnName) → is_among FnNameOrd.ghosts.cmp a b ≡ is_subset function_cmp (functions_of a) (functions_of b)
functions_among (Only xs) (Only ys) = all_named _ (λ f. has_member function_cmp f (functions_in ys)) (λ x. names_has x ys) xs
functions_among (Only xs) (AllBut ys) = all_named _ (λ f. not (has_member function_cmp f (functions_in ys))) (λ x. ap not (names_has x ys)) xs
functions_among (AllBut xs) (Only ys) = refl
functions_among (AllBut xs) (AllBut ys) = all_named _ (λ f. has_member function_cmp f (functions_in xs)) (λ y. names_has y xs) ys

pub strings_whole : (a : Among (List ℕ)) → is_everything a ≡ is_subset name_cmp (all_but []) (strings_of a)
strings_whole (Only xs) = refl
strings_whole (AllBut []) = refl
strings_whole (AllBut (x ∷ xs)) = refl

pub functions_whole : (a : Among FnName) → is_everything a ≡ is_subset function_cmp (all_but []) (functions_of a)
functions_whole (Only xs) = refl
functions_whole (AllBut []) = refl
functions_whole (AllBut (x ∷ xs)) = refl

-- a front of a conjunction, as code has it
pub parts_grouped : (a b c d e f g : Bool) → (((((a && b) && c) && d) && e) && f) && g ≡ a && (b && (c && (d && (e && (f && g)))))
parts_grouped true b c d e f g = refl2 b c d e f g
  where
    refl2 : (b c d e f g : Bool) → ((((b && c) && d) && e) && f) && g ≡ b && (c && (d && (e && (f && g))))
    refl2 false c d e f g = refl
    refl2 true false d e f g = refl
    refl2 true true false e f g = refl
    refl2 true true true false f g = refl
    refl2 true true true true f g = refl
parts_grouped false b c d e f g = refl

-- the type that a row lists for a field, by its reference
listed_by : (store : Store) (own : TypeRef) (rest : Option TypeRef) (u : Term) (b : Bool) → type_at store rest ≡ u
    → type_at store (if b then Some own else rest) ≡ (if b then term_of store own else u)
listed_by store own rest u true e = refl
listed_by store own rest u false e = e

pub listed_means : (store : Store) (name : List ℕ) (fields : List (List ℕ × TypeRef)) → type_at store (listed_at name fields) ≡ listed_type name (fields_by (term_of store) fields)
listed_means store name [] = refl
listed_means store name (f ∷ fields) = listed_by store f.1 (listed_at name fields) (listed_type name (fields_by (term_of store) fields)) (bytes_eq f.0 name) (listed_means store name fields)

there_by : (P : TypeRef → Type 0) (own : TypeRef) (rest : Option TypeRef) (b : Bool) → P own → IfSome rest P → IfSome (if b then Some own else rest) P
there_by P own rest true a h = a
there_by P own rest false a h = h

pub listed_there : (P : TypeRef → Type 0) (name : List ℕ) (fields : List (List ℕ × TypeRef)) → All P (field_types fields) → IfSome (listed_at name fields) P
listed_there P name [] a = tt
listed_there P name (f ∷ fields) a =
    there_by P f.1 (listed_at name fields) (bytes_eq f.0 name) (All-head P f.1 (field_types fields) a) (listed_there P name fields (All-tail P f.1 (field_types fields) a))

normal_by : (t u : Term) (b : Bool) → is_normal t ≡ true → is_normal u ≡ true → is_normal (if b then t else u) ≡ true
normal_by t u true e k = e
normal_by t u false e k = k

pub listed_normal : (name : List ℕ) (fs : Fields) → are_normal_fields fs ≡ true → is_normal (listed_type name fs) ≡ true
listed_normal name no_fields e = refl
listed_normal name (more_fields p t fs) e =
    normal_by t (listed_type name fs) (bytes_eq p name) (left (is_normal t) (not (is_empty t || is_unknown t) && are_normal_fields fs) e)
    (listed_normal name fs (right (not (is_empty t || is_unknown t)) (are_normal_fields fs) (right (is_normal t) (not (is_empty t || is_unknown t) && are_normal_fields fs) e)))

-- lists, from one place on
pub dropped : {X : Type 0} (xs : List X) (i : ℕ) (x : X) → i < length xs → x ≡ get_or xs i x → drop i xs ≡ x ∷ drop (i + 1) xs
dropped xs i x l is = drop-cons xs i x l ∙ ap (λ z. z ∷ drop (suc i) xs) (sym is) ∙ ap (λ (n : ℕ). x ∷ drop n xs) (sym (add-one i))

pub first_fields : (store : Store) (fields uppers : List (List ℕ × TypeRef)) (i : ℕ) (u : List ℕ × TypeRef) → i < length uppers → u ≡ get_or uppers i u
    → fields_above (fields_by (term_of store) (drop i uppers)) (fields_by (term_of store) fields)
    ≡ is_above (term_of store u.1) (type_at store (listed_at u.0 fields)) && fields_above (fields_by (term_of store) (drop (i + 1) uppers)) (fields_by (term_of store) fields)
first_fields store fields uppers i u l is =
    ap (λ (xs : List (List ℕ × TypeRef)). fields_above (fields_by (term_of store) xs) (fields_by (term_of store) fields)) (dropped uppers i u l is)
    ∙ ap (λ (t : Term). is_above (term_of store u.1) t && fields_above (fields_by (term_of store) (drop (i + 1) uppers)) (fields_by (term_of store) fields)) (sym (listed_means store u.0 fields))

pub first_row : (means : TypeRef → Term) (test : Bool → Fields → Bool) (rows : List Row) (i : ℕ) (r : Row) → i < length rows → r ≡ get_or rows i r
    → each_row test (rows_by means (drop i rows)) ≡ test r.frozen (fields_by means r.fields) && each_row test (rows_by means (drop (i + 1) rows))
first_row means test rows i r l is = ap (λ (xs : List Row). each_row test (rows_by means xs)) (dropped rows i r l is)

-- the rest of a disjunction or a conjunction, once its first part is known
pub past_and : (a b c d : Bool) → d ≡ a && b → a ≡ true → c ≡ d → c ≡ b
past_and true b c d e f g = g ∙ e
past_and false b c d e f g = cc

pub ends_and : (a b c d : Bool) → d ≡ a && b → a ≡ false → c ≡ d → c ≡ false
ends_and true b c d e f g = cc
ends_and false b c d e f g = g ∙ e

-- equal references
lower_is : (lower : Option TypeRef) (upper : TypeRef) → option_eq TypeRefEq.ghosts.eq lower (Some upper) ≡ true → lower ≡ Some upper
lower_is None upper e = cc
lower_is (Some at) upper e = ap Some ((ref_tested at upper).0 e)

pub same_below : (store : Store) (pair : Pair) → option_eq TypeRefEq.ghosts.eq pair.lower (Some pair.upper) ≡ true → Answers store pair true
same_below store pair e n =
    let is : type_at store pair.lower ≡ term_of store pair.upper = ap (type_at store) (lower_is pair.lower pair.upper e) in
    sym (ap (is_above (term_of store pair.upper)) is ∙ below_itself (term_of store pair.upper) (ap is_normal (sym is) ∙ n))

-- nodes
pub above_by_nodes : (store : Store) → IsSound store → (a b : TypeRef) (n m : Node) → node_at store a ≡ Some n → node_at store b ≡ Some m
    → is_above (term_of store b) (term_of store a)
    ≡ free_below (free_of n) (free_of m) && each_row (λ frozen fields. rows_above (rows_by (term_of store) m.rows) frozen fields) (rows_by (term_of store) n.rows)
above_by_nodes store sound a b n m e f = let x = term_of-node store sound a n e in let y = term_of-node store sound b m f in λ i. is_above (y i) (x i)

pub above_unknown : (store : Store) → IsSound store → (b : TypeRef) (m : Node) → node_at store b ≡ Some m
    → is_above (term_of store b) unknown ≡ free_below all_values (free_of m) && (rows_above (rows_by (term_of store) m.rows) false no_fields && true)
above_unknown store sound b m f = ap (λ (t : Term). is_above t unknown) (term_of-node store sound b m f)

pub normal_rows_of : (store : Store) → IsSound store → (a : TypeRef) (n : Node) → node_at store a ≡ Some n → is_normal (term_of store a) ≡ true → are_normal_rows (rows_by (term_of store) n.rows) ≡ true
normal_rows_of store sound a n e k = right _ _ (ap is_normal (sym (term_of-node store sound a n e)) ∙ k)

pub and_true : (a : Bool) → a && true ≡ a
and_true true = refl
and_true false = refl

-- rows in normal form, from one place on
row_normal_at : (means : TypeRef → Term) (rows : List Row) (i : ℕ) (d : Row) → i < length rows → are_normal_rows (rows_by means rows) ≡ true → are_normal_fields (fields_by means (get_or rows i d).fields) ≡ true
row_normal_at means [] i d l e = absurd (omega arith)
row_normal_at means (r ∷ rows) zero d l e = right _ _ (left (names_in_order (fields_by means r.fields) && are_normal_fields (fields_by means r.fields)) _ e)
row_normal_at means (r ∷ rows) (suc i) d l e =
    row_normal_at means rows i d (omega arith)
    (right (comes_first r.frozen (fields_by means r.fields) (rows_by means rows)) (are_normal_rows (rows_by means rows))
    (right (names_in_order (fields_by means r.fields) && are_normal_fields (fields_by means r.fields)) _ e))

pub row_normal : (means : TypeRef → Term) (rows : List Row) (i : ℕ) (r : Row) → i < length rows → r ≡ get_or rows i r → are_normal_rows (rows_by means rows) ≡ true → are_normal_fields (fields_by means r.fields) ≡ true
row_normal means rows i r l is e = subst (λ (x : Row). are_normal_fields (fields_by means x.fields) ≡ true) (sym is) (row_normal_at means rows i r l e)

-- what one field adds
pub one_field : (store : Store) (fields uppers : List (List ℕ × TypeRef)) (i : ℕ) (u : List ℕ × TypeRef) (at : Option TypeRef) (answer : Bool) → i < length uppers → u ≡ get_or uppers i u → at ≡ listed_at u.0 fields
    → Answers store (record { lower = at; upper = u.1 }) answer → are_normal_fields (fields_by (term_of store) fields) ≡ true
    → fields_above (fields_by (term_of store) (drop i uppers)) (fields_by (term_of store) fields) ≡ answer && fields_above (fields_by (term_of store) (drop (i + 1) uppers)) (fields_by (term_of store) fields)
one_field store fields uppers i u at answer l is listed says normal =
    let type : type_at store at ≡ type_at store (listed_at u.0 fields) = ap (type_at store) listed in
    let own : is_normal (type_at store at) ≡ true = ap is_normal (type ∙ listed_means store u.0 fields) ∙ listed_normal u.0 (fields_by (term_of store) fields) normal in
    first_fields store fields uppers i u l is
    ∙ ap (λ (b : Bool). b && fields_above (fields_by (term_of store) (drop (i + 1) uppers)) (fields_by (term_of store) fields)) (ap (is_above (term_of store u.1)) (sym type) ∙ sym (says own))

-- what one row adds
pub one_row : (store : Store) (rows uppers : List Row) (i : ℕ) (r : Row) (fields : List (List ℕ × TypeRef)) (answer : Bool) → i < length rows → r ≡ get_or rows i r → fields ≡ r.fields
    → (are_normal_fields (fields_by (term_of store) fields) ≡ true → answer ≡ rows_above (rows_by (term_of store) uppers) r.frozen (fields_by (term_of store) fields))
    → are_normal_rows (rows_by (term_of store) rows) ≡ true
    → each_row (λ frozen fields. rows_above (rows_by (term_of store) uppers) frozen fields) (rows_by (term_of store) (drop i rows))
    ≡ answer && each_row (λ frozen fields. rows_above (rows_by (term_of store) uppers) frozen fields) (rows_by (term_of store) (drop (i + 1) rows))
one_row store rows uppers i r fields answer l is e says normal =
    let own : are_normal_fields (fields_by (term_of store) fields) ≡ true = ap (λ (xs : List (List ℕ × TypeRef)). are_normal_fields (fields_by (term_of store) xs)) e ∙ row_normal (term_of store) rows i r l is normal in
    first_row (term_of store) (λ frozen fields. rows_above (rows_by (term_of store) uppers) frozen fields) rows i r l is
    ∙ ap (λ (b : Bool). b && each_row (λ frozen fields. rows_above (rows_by (term_of store) uppers) frozen fields) (rows_by (term_of store) (drop (i + 1) rows)))
    (ap (λ (xs : List (List ℕ × TypeRef)). rows_above (rows_by (term_of store) uppers) r.frozen (fields_by (term_of store) xs)) (sym e) ∙ sym (says own))

-- the lower type, by its reference
pub by_free : (store : Store) → IsSound store → (lower : Option TypeRef) (b a : TypeRef) (n m : Node) (free : Bool) → lower ≡ Some a → node_at store a ≡ Some n → node_at store b ≡ Some m
    → free ≡ free_below (free_of n) (free_of m) → free ≡ false → false ≡ is_above (term_of store b) (type_at store lower)
by_free store sound lower b a n m free is e f has fails =
    sym (ends_and free _ _ _ (ap (λ (x : Bool). x && each_row (λ frozen fields. rows_above (rows_by (term_of store) m.rows) frozen fields) (rows_by (term_of store) n.rows)) (sym has)) fails
    (ap (λ (at : Option TypeRef). is_above (term_of store b) (type_at store at)) is ∙ above_by_nodes store sound a b n m e f))

pub by_rows : (store : Store) → IsSound store → (lower : Option TypeRef) (b a : TypeRef) (n m : Node) (free answer : Bool) (rows uppers : List Row) → lower ≡ Some a → node_at store a ≡ Some n → node_at store b ≡ Some m
    → free ≡ free_below (free_of n) (free_of m) → free ≡ true → rows ≡ n.rows → uppers ≡ m.rows
    → (are_normal_rows (rows_by (term_of store) rows) ≡ true → answer ≡ each_row (λ frozen fields. rows_above (rows_by (term_of store) uppers) frozen fields) (rows_by (term_of store) rows))
    → is_normal (type_at store lower) ≡ true → answer ≡ is_above (term_of store b) (type_at store lower)
by_rows store sound lower b a n m free answer rows uppers is e f has good er eu says normal =
    let own : are_normal_rows (rows_by (term_of store) rows) ≡ true =
    ap (λ (xs : List Row). are_normal_rows (rows_by (term_of store) xs)) er ∙ normal_rows_of store sound a n e (ap (λ (at : Option TypeRef). is_normal (type_at store at)) (sym is) ∙ normal) in
    let each : answer ≡ each_row (λ frozen fields. rows_above (rows_by (term_of store) m.rows) frozen fields) (rows_by (term_of store) n.rows) =
    says own ∙ (λ i. each_row (λ frozen fields. rows_above (rows_by (term_of store) (eu i)) frozen fields) (rows_by (term_of store) (er i))) in
    each
    ∙ sym (past_and free _ _ _ (ap (λ (x : Bool). x && each_row (λ frozen fields. rows_above (rows_by (term_of store) m.rows) frozen fields) (rows_by (term_of store) n.rows)) (sym has)) good
    (ap (λ (at : Option TypeRef). is_above (term_of store b) (type_at store at)) is ∙ above_by_nodes store sound a b n m e f))

-- unknown as the lower type
pub all_by_free : (store : Store) → IsSound store → (lower : Option TypeRef) (b : TypeRef) (m : Node) (free : Bool) → lower ≡ None → node_at store b ≡ Some m
    → free ≡ free_below all_values (free_of m) → free ≡ false → false ≡ is_above (term_of store b) (type_at store lower)
all_by_free store sound lower b m free is f has fails =
    sym (ends_and free _ _ _ (ap (λ (x : Bool). x && (rows_above (rows_by (term_of store) m.rows) false no_fields && true)) (sym has)) fails
    (ap (λ (at : Option TypeRef). is_above (term_of store b) (type_at store at)) is ∙ above_unknown store sound b m f))

pub all_by_rows : (store : Store) → IsSound store → (lower : Option TypeRef) (b : TypeRef) (m : Node) (free answer : Bool) (uppers : List Row) → lower ≡ None → node_at store b ≡ Some m
    → free ≡ free_below all_values (free_of m) → free ≡ true → uppers ≡ m.rows → (true ≡ true → answer ≡ rows_above (rows_by (term_of store) uppers) false no_fields)
    → answer ≡ is_above (term_of store b) (type_at store lower)
all_by_rows store sound lower b m free answer uppers is f has good eu says =
    says refl ∙ ap (λ (xs : List Row). rows_above (rows_by (term_of store) xs) false no_fields) eu ∙ sym (and_true _)
    ∙ sym (past_and free _ _ _ (ap (λ (x : Bool). x && (rows_above (rows_by (term_of store) m.rows) false no_fields && true)) (sym has)) good
    (ap (λ (at : Option TypeRef). is_above (term_of store b) (type_at store at)) is ∙ above_unknown store sound b m f))
