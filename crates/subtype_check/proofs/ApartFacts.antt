-- What tells types apart, part by part.
use Rattle.std.proofs.Common.{◌≡◌, ℕ, zero, suc, ◌+◌, ◌-◌, ◌<◌, ◌≤◌, Bool, true, false, not, List, [], ◌∷◌, ◌++◌, length, refl, sym, ap, ◌∙◌, arith, add-one, length-append}
use Rattle.std.specs.Prelude.{◌||◌, ◌&&◌, max, Option, Some, None, if◌then◌else◌}
use Rattle.std.specs.Bool.{beq}
use Rattle.std.specs.List.{list_all}
use Rattle.std.specs.Option.{option_map, is_some}
use Rattle.type_arena.specs.Term.{Function, builtin, Term, free_of, functions_of, function_of, functions_in}
use Rattle.type_arena.specs.Meaning.{term_of, rows_by}
use Rattle.type_arena.specs.Store.{Store, IsSound, node_at}
use Rattle.type_arena.specs.declared.node.Among.{Among}
use Rattle.type_arena.specs.declared.node.Among.TheVariants.{Only, AllBut}
use Rattle.type_arena.specs.declared.node.FnName.{FnName}
use Rattle.type_arena.specs.declared.node.FnName.TheVariants.{Builtin, Literal}
use Rattle.type_arena.specs.declared.node.Node.{Node}
use Rattle.type_arena.specs.declared.node.Row.{Row}
use Rattle.type_arena.specs.declared.node.TypeRef.{TypeRef}
use Rattle.type_arena.proofs.MeaningLemmas.{term_of-node}
use Rattle.type_normal.specs.Free.{name_cmp, function_cmp}
use Rattle.type_normal.specs.Members.{has_member, is_member}
use Rattle.type_normal.specs.Nodes.{is_nil, is_all_tables}
use Rattle.type_normal.proofs.MembersFacts.{has-append}
use Rattle.type_normal.proofs.OrderFacts.{names_total, functions_total}
use Rattle.subtype_check.specs.Apart.{first_that, member_apart, shortest, letters, longest, path_of, paths_of, fresh_function, fn_cmp, name_of, or_else, has_rows, are_plain, first_apart, apart}
use Rattle.subtype_check.proofs.CheckingFacts.{names_has}

-- the shortest text that passes a test, step by step
pub found_now : (test : List ℕ → Bool) (m n : ℕ) → 0 < m → test (letters n) ≡ true → letters n ≡ shortest test m n
found_now test zero n l e = absurd (omega arith)
found_now test (suc m) n l e = ap (λ (b : Bool). if b then letters n else shortest test m (suc n)) (sym e)

pub search_on : (test : List ℕ → Bool) (m n : ℕ) → 0 < m → test (letters n) ≡ false → shortest test m n ≡ shortest test (m - 1) (n + 1)
search_on test zero n l e = absurd (omega arith)
search_on test (suc m) n l e = ap (λ (b : Bool). if b then letters n else shortest test m (suc n)) e ∙ (let k : m ≡ suc m - 1 = omega arith in let o : suc n ≡ n + 1 = omega arith in λ i. shortest test (k i) (o i))

pub search_ends : (test : List ℕ → Bool) (m n : ℕ) → m ≡ 0 → letters n ≡ shortest test m n
search_ends test m n e = ap (λ (k : ℕ). shortest test k n) (sym e)

pub one_letter_more : (n : ℕ) → letters n ++ 120 ∷ [] ≡ letters (n + 1)
one_letter_more n = go n ∙ ap letters (sym (add-one n))
  where
    go : (n : ℕ) → letters n ++ 120 ∷ [] ≡ letters (suc n)
    go zero = refl
    go (suc n) = ap (λ xs. 120 ∷ xs) (go n)

-- a step of the search for the shortest text
pub step_found : (test : List ℕ → Bool) (fresh items text : List ℕ) (most : ℕ) → items ≡ letters (length items) → length items ≤ most
    → fresh ≡ shortest test (most + 1 - length items) (length items) → text ≡ items → test text ≡ true → text ≡ fresh
step_found test fresh items text most written near so is pass =
    is ∙ written ∙ found_now test (most + 1 - length items) (length items) (omega (arith, near)) (ap test (sym (is ∙ written)) ∙ pass) ∙ sym so

pub step_longer : (items text more : List ℕ) → text ≡ items → more ≡ text ++ 120 ∷ [] → length more ≡ length items + 1
step_longer items text more is made = ap length made ∙ length-append text (120 ∷ []) ∙ ap (λ (n : ℕ). n + 1) (ap length is)

pub step_written : (items text more : List ℕ) → items ≡ letters (length items) → text ≡ items → more ≡ text ++ 120 ∷ [] → more ≡ letters (length more)
step_written items text more written is made =
    made ∙ ap (λ xs. xs ++ 120 ∷ []) (is ∙ written) ∙ one_letter_more (length items) ∙ ap letters (sym (step_longer items text more is made))

pub step_on : (test : List ℕ → Bool) (fresh items text more : List ℕ) (most : ℕ) → items ≡ letters (length items) → length items ≤ most
    → fresh ≡ shortest test (most + 1 - length items) (length items) → text ≡ items → test text ≡ false → more ≡ text ++ 120 ∷ []
    → fresh ≡ shortest test (most + 1 - length more) (length more)
step_on test fresh items text more most written near so is fails made =
    let longer = step_longer items text more is made in
    let fuel : most + 1 - length items - 1 ≡ most + 1 - length more = omega (arith, near, longer) in
    so ∙ search_on test (most + 1 - length items) (length items) (omega (arith, near)) (ap test (sym (is ∙ written)) ∙ fails)
    ∙ (λ i. shortest test (fuel i) (sym longer i))

pub search_begins : (test : List ℕ → Bool) (items : List ℕ) (most n fuel : ℕ) → fuel ≡ most + 1 - n → length items ≡ n → shortest test fuel n ≡ shortest test (most + 1 - length items) (length items)
search_begins test items most n fuel e f = let k : fuel ≡ most + 1 - length items = omega (arith, e, f) in λ i. shortest test (k i) (sym f i)

pub longest_of_both : (xs ys : List (List ℕ)) → longest (xs ++ ys) ≡ max (longest xs) (longest ys)
longest_of_both [] ys = omega arith
longest_of_both (x ∷ xs) ys = let h = longest_of_both xs ys in omega arith

pub paths_of_both : (xs ys : List Function) → paths_of (xs ++ ys) ≡ paths_of xs ++ paths_of ys
paths_of_both [] ys = refl
paths_of_both (x ∷ xs) ys = ap (λ zs. path_of x ∷ zs) (paths_of_both xs ys)

neither : (a b : Bool) → not (a || b) ≡ not a && not b
neither true b = refl
neither false b = refl

pub in_neither : (t : List ℕ) (xs ys : List (List ℕ)) → not (has_member name_cmp t (xs ++ ys)) ≡ not (has_member name_cmp t xs) && not (has_member name_cmp t ys)
in_neither t xs ys = ap not (has-append name_cmp names_total t xs ys) ∙ neither (has_member name_cmp t xs) (has_member name_cmp t ys)

pub name_in_neither : (p : List ℕ) (xs ys : List FnName)
    → not (has_member function_cmp (builtin p) (functions_in xs ++ functions_in ys)) ≡ not (has_member fn_cmp (Builtin p) xs) && not (has_member fn_cmp (Builtin p) ys)
name_in_neither p xs ys =
    ap not (has-append function_cmp functions_total (builtin p) (functions_in xs) (functions_in ys)) ∙ neither (has_member function_cmp (builtin p) (functions_in xs)) (has_member function_cmp (builtin p) (functions_in ys))
    ∙ (let a = names_has (Builtin p) xs in let b = names_has (Builtin p) ys in λ i. not (sym a i) && not (sym b i))

-- the first that passes a test, where two tests agree
first_same_by : {X : Type 0} (x : X) (b c : Bool) (r s : Option X) → b ≡ c → r ≡ s → (if b then Some x else r) ≡ (if c then Some x else s)
first_same_by x b c r s e f = λ i. if e i then Some x else f i

pub first_same : {X : Type 0} (p q : X → Bool) → ((x : X) → p x ≡ q x) → (xs : List X) → first_that p xs ≡ first_that q xs
first_same p q same [] = refl
first_same p q same (x ∷ xs) = first_same_by x (p x) (q x) (first_that p xs) (first_that q xs) (same x) (first_same p q same xs)

pub is_false : (b : Bool) → beq b false ≡ not b
is_false true = refl
is_false false = refl

pub is_true : (b : Bool) → beq b true ≡ not (not b)
is_true true = refl
is_true false = refl

named_by : (x : FnName) (b : Bool) (r : Option FnName) (s : Option Function) → name_of (function_of x) ≡ x → r ≡ option_map name_of s
    → (if b then Some x else r) ≡ option_map name_of (if b then Some (function_of x) else s)
named_by x true r s e f = ap Some (sym e)
named_by x false r s e f = f

name_back : (x : FnName) → name_of (function_of x) ≡ x
name_back (Builtin p) = refl
name_back (Literal h n) = refl

pub first_named : (p : FnName → Bool) (q : Function → Bool) → ((x : FnName) → p x ≡ q (function_of x)) → (xs : List FnName) → first_that p xs ≡ option_map name_of (first_that q (functions_in xs))
first_named p q same [] = refl
first_named p q same (x ∷ xs) =
    ap (λ (b : Bool). if b then Some x else first_that p xs) (same x)
    ∙ named_by x (q (function_of x)) (first_that p xs) (first_that q (functions_in xs)) (name_back x) (first_named p q same xs)

pub first_named_is : (xs ys : List FnName) (inside : Bool) (q : Function → Bool) → ((f : Function) → beq (has_member function_cmp f (functions_in ys)) inside ≡ q f)
    → first_that (λ x. beq (has_member fn_cmp x ys) inside) xs ≡ option_map name_of (first_that q (functions_in xs))
first_named_is xs ys inside q same =
    first_named (λ x. beq (has_member fn_cmp x ys) inside) q (λ x. ap (λ (b : Bool). beq b inside) (names_has x ys) ∙ same (function_of x)) xs

-- the first of two that is there
pub first_stays : {X : Type 0} (a b : Option X) → is_some a ≡ true → a ≡ or_else a b
first_stays None b e = cc
first_stays (Some x) b e = refl

pub first_is_none : {X : Type 0} (a b : Option X) → is_some a ≡ false → or_else a b ≡ b
first_is_none None b e = refl
first_is_none (Some x) b e = cc

-- rows
plain_by : (means : TypeRef → Term) (frozen : Bool) (fields : List (List ℕ × TypeRef)) (rest : List Row) → list_all is_all_tables rest ≡ are_plain (rows_by means rest)
    → list_all is_all_tables (record { frozen = frozen; fields = fields } ∷ rest) ≡ are_plain (rows_by means (record { frozen = frozen; fields = fields } ∷ rest))
plain_by means true [] rest e = refl
plain_by means true (f ∷ fields) rest e = refl
plain_by means false [] rest e = e
plain_by means false (f ∷ fields) rest e = refl

pub plain_rows : (means : TypeRef → Term) (rows : List Row) → list_all is_all_tables rows ≡ are_plain (rows_by means rows)
plain_rows means [] = refl
plain_rows means (r ∷ rows) = plain_by means r.frozen r.fields rows (plain_rows means rows)

pub some_rows : (means : TypeRef → Term) (rows : List Row) → not (is_nil rows) ≡ has_rows (rows_by means rows)
some_rows means [] = refl
some_rows means (r ∷ rows) = refl

pub apart_by_nodes : (store : Store) → IsSound store → (a b : TypeRef) (n m : Node) → node_at store a ≡ Some n → node_at store b ≡ Some m
    → apart (term_of store a) (term_of store b)
    ≡ (if list_all is_all_tables n.rows && list_all is_all_tables m.rows then first_apart (free_of n) (not (is_nil n.rows)) (free_of m) (not (is_nil m.rows)) else None)
apart_by_nodes store sound a b n m e f =
    let x = term_of-node store sound a n e in
    let y = term_of-node store sound b m f in
    (λ i. apart (x i) (y i))
    ∙ (let p = plain_rows (term_of store) n.rows in let q = plain_rows (term_of store) m.rows in let r = some_rows (term_of store) n.rows in let s = some_rows (term_of store) m.rows in
    λ i. if sym p i && sym q i then first_apart (free_of n) (sym r i) (free_of m) (sym s i) else None)

-- functions apart, as nodes have them
pub only_from_only : (a b : Among FnName) (xs ys vx vy : List FnName) → a ≡ Only xs → b ≡ Only ys → vx ≡ xs → vy ≡ ys
    → first_that (λ x. beq (has_member fn_cmp x vy) false) vx ≡ option_map name_of (member_apart function_cmp fresh_function (functions_of a) (functions_of b))
only_from_only a b xs ys vx vy ea eb ex ey =
    (λ i. first_that (λ x. beq (has_member fn_cmp x (ey i)) false) (ex i))
    ∙ first_named_is xs ys false (λ f. not (is_member function_cmp f (functions_of (Only ys)))) (λ f. is_false (has_member function_cmp f (functions_in ys)))
    ∙ (λ i. option_map name_of (member_apart function_cmp fresh_function (functions_of (sym ea i)) (functions_of (sym eb i))))

pub only_from_all_but : (a b : Among FnName) (xs ys vx vy : List FnName) → a ≡ Only xs → b ≡ AllBut ys → vx ≡ xs → vy ≡ ys
    → first_that (λ x. beq (has_member fn_cmp x vy) true) vx ≡ option_map name_of (member_apart function_cmp fresh_function (functions_of a) (functions_of b))
only_from_all_but a b xs ys vx vy ea eb ex ey =
    (λ i. first_that (λ x. beq (has_member fn_cmp x (ey i)) true) (ex i))
    ∙ first_named_is xs ys true (λ f. not (is_member function_cmp f (functions_of (AllBut ys)))) (λ f. is_true (has_member function_cmp f (functions_in ys)))
    ∙ (λ i. option_map name_of (member_apart function_cmp fresh_function (functions_of (sym ea i)) (functions_of (sym eb i))))

pub all_but_from_all_but : (a b : Among FnName) (xs ys vx vy : List FnName) → a ≡ AllBut xs → b ≡ AllBut ys → vx ≡ xs → vy ≡ ys
    → first_that (λ y. beq (has_member fn_cmp y vx) false) vy ≡ option_map name_of (member_apart function_cmp fresh_function (functions_of a) (functions_of b))
all_but_from_all_but a b xs ys vx vy ea eb ex ey =
    (λ i. first_that (λ y. beq (has_member fn_cmp y (ex i)) false) (ey i))
    ∙ first_named_is ys xs false (λ f. not (has_member function_cmp f (functions_in xs))) (λ f. is_false (has_member function_cmp f (functions_in xs)))
    ∙ (λ i. option_map name_of (member_apart function_cmp fresh_function (functions_of (sym ea i)) (functions_of (sym eb i))))
