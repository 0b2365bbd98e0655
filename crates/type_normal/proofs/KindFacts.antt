-- Which values belong to the kinds, and to types of one value.
use Rattle.std.proofs.Common.{◌≡◌, ℕ, Bool, true, false, not, List, [], ◌∷◌, ◌++◌, refl, sym, ap, ◌∙◌, subst}
use Rattle.std.specs.Prelude.{◌||◌, ◌&&◌, if◌then◌else◌, Some, None, filter}
use Rattle.std.specs.Ordering.{is_eq, is_lt}
use Rattle.std.specs.declared.cmp.Ordering.{Ordering}
use Rattle.std.specs.declared.cmp.Ordering.TheVariants.{Less, Equal, Greater}
use Rattle.std.proofs.lemmas.Cmp.{tied_itself}
use Rattle.type_arena.specs.Term.{Members, only, all_but, Function, builtin, literal, Free, Term, term, Rows, no_rows, more_rows, no_fields, more_fields}
use Rattle.luau_values.specs.Value.{Value, Nil, Truth, Num, Str, Tab, Lit, Builtin, Other}
use Rattle.luau_values.specs.Heap.{Heap, is_frozen}
use Rattle.type_normal.specs.Members.{is_member, has_member, either_set, both_sets, in_order, put, by_order, is_in_order, listed}
use Rattle.type_normal.specs.Free.{no_values, all_values, name_cmp, function_cmp, either_free, both_free, is_normal_free}
use Rattle.type_normal.specs.Rows.{any_table}
use Rattle.type_normal.specs.Holds.{holds}
use Rattle.type_normal.specs.Operations.{union, meet, is_flat}
use Rattle.type_normal.specs.Kinds.{unknown, text_type, named_type, falsy, truthy, has_nil, has_functions_alone, only_function, exactly_one_function, is_falsy, IsFunction, Kinds, has_kind, all_or_none, all_tables_or_none, kinds_type, frozen_type}
use Rattle.type_normal.specs.Failing.{write_fail, unwritable, is_frozen_table}
use Rattle.type_normal.proofs.MembersFacts.{or_false, and_true}
use Rattle.type_normal.proofs.OrderFacts.{name_ties, function_ties, names_total, functions_total, Separates}
use Rattle.type_normal.proofs.HoldsFacts.{left, right, belongs-none, union_holds}

in_all : {X : Type 0} (cmp : X → X → Ordering) (x : X) (b : Bool) → is_member cmp x (all_or_none b) ≡ b
in_all cmp x true = refl
in_all cmp x false = refl

pub kinds_hold : (h : Heap) (v : Value) (k : Kinds) → holds h v (kinds_type k) ≡ has_kind k v
kinds_hold h Nil k = refl
kinds_hold h (Truth true) k = refl
kinds_hold h (Truth false) k = refl
kinds_hold h (Num n) k = refl
kinds_hold h (Str s) k = in_all name_cmp s k.string
kinds_hold h (Tab a) k = go k.table
  where
    go : (b : Bool) → holds h (Tab a) (term no_values (all_tables_or_none b)) ≡ b
    go true = refl
    go false = refl
kinds_hold h (Lit m n c) k = in_all function_cmp (literal m n) k.function
kinds_hold h (Builtin p) k = in_all function_cmp (builtin p) k.function
kinds_hold h (Other n) k = refl

frozen_kind : (h : Heap) (v : Value) → holds h v frozen_type ≡ is_frozen_table h v
frozen_kind h Nil = refl
frozen_kind h (Truth true) = refl
frozen_kind h (Truth false) = refl
frozen_kind h (Num n) = refl
frozen_kind h (Str s) = refl
frozen_kind h (Tab a) = or_false (is_frozen h a && true) ∙ and_true (is_frozen h a)
frozen_kind h (Lit m n c) = refl
frozen_kind h (Builtin p) = refl
frozen_kind h (Other n) = refl

pub write_fail_holds : (h : Heap) (v : Value) → holds h v write_fail ≡ has_kind unwritable v || is_frozen_table h v
write_fail_holds h v = union_holds h v (kinds_type unwritable) frozen_type ∙ rw (kinds_hold h v unwritable, frozen_kind h v) refl

pub falsy_holds : (h : Heap) (v : Value) → holds h v falsy ≡ is_falsy v
falsy_holds h Nil = refl
falsy_holds h (Truth true) = refl
falsy_holds h (Truth false) = refl
falsy_holds h (Num n) = refl
falsy_holds h (Str s) = refl
falsy_holds h (Tab a) = refl
falsy_holds h (Lit m n c) = refl
falsy_holds h (Builtin p) = refl
falsy_holds h (Other n) = refl

pub truthy_holds : (h : Heap) (v : Value) → holds h v truthy ≡ not (is_falsy v)
truthy_holds h Nil = refl
truthy_holds h (Truth true) = refl
truthy_holds h (Truth false) = refl
truthy_holds h (Num n) = refl
truthy_holds h (Str s) = refl
truthy_holds h (Tab a) = refl
truthy_holds h (Lit m n c) = refl
truthy_holds h (Builtin p) = refl
truthy_holds h (Other n) = refl

-- one member
one_member : {X : Type 0} (cmp : X → X → Ordering) → Separates cmp → (x y : X) → has_member cmp x (y ∷ []) ≡ true → x ≡ y
one_member cmp ties x y e = go (cmp x y) refl e
  where
    go : (o : Ordering) → cmp x y ≡ o → is_eq o || false ≡ true → x ≡ y
    go Less h e = cc
    go Equal h e = ties x y h
    go Greater h e = cc

pub text_holds : (h : Heap) (v : Value) (s : List ℕ) → holds h v (text_type s) ≡ true → v ≡ Str s
text_holds h Nil s e = cc
text_holds h (Truth true) s e = cc
text_holds h (Truth false) s e = cc
text_holds h (Num n) s e = cc
text_holds h (Str b) s e = ap Str (one_member name_cmp name_ties b s e)
text_holds h (Tab a) s e = cc
text_holds h (Lit m n c) s e = cc
text_holds h (Builtin p) s e = cc
text_holds h (Other n) s e = cc

pub text_is_in : (h : Heap) (s : List ℕ) → holds h (Str s) (text_type s) ≡ true
text_is_in h s = rw (tied_itself names_total s) refl

pub builtin_is_in : (h : Heap) (path : List ℕ) → holds h (Builtin path) (named_type (builtin path)) ≡ true
builtin_is_in h path = rw (tied_itself functions_total (builtin path)) refl

pub literal_is_in : (h : Heap) (home number : ℕ) (cells : List (ℕ × ℕ)) → holds h (Lit home number cells) (named_type (literal home number)) ≡ true
literal_is_in h home number cells = rw (tied_itself functions_total (literal home number)) refl

function_is : (f g : Function) (v : Value) → f ≡ g → IsFunction f v → IsFunction g v
function_is f g v e i = subst (λ (x : Function). IsFunction x v) e i

only_is : (s : Members Function) (f : Function) → only_function s ≡ Some f → s ≡ only (f ∷ [])
only_is (only []) f e = cc
only_is (only (g ∷ [])) f e = let h : g ≡ f = cc in cc
only_is (only (g ∷ k ∷ gs)) f e = cc
only_is (all_but gs) f e = cc

one_by : (h : Heap) (v : Value) (f : Free) (g : Function) → has_functions_alone f ≡ true → f.functions ≡ only (g ∷ []) → holds h v (term f no_rows) ≡ true → IsFunction g v
one_by h Nil f g alone is e = let n = belongs-none (record f { functions = only [] }) (λ a. false) Nil alone (λ a. refl) in cc
one_by h (Truth true) f g alone is e = let n = belongs-none (record f { functions = only [] }) (λ a. false) (Truth true) alone (λ a. refl) in cc
one_by h (Truth false) f g alone is e = let n = belongs-none (record f { functions = only [] }) (λ a. false) (Truth false) alone (λ a. refl) in cc
one_by h (Num t) f g alone is e = let n = belongs-none (record f { functions = only [] }) (λ a. false) (Num t) alone (λ a. refl) in cc
one_by h (Str s) f g alone is e = let n = belongs-none (record f { functions = only [] }) (λ a. false) (Str s) alone (λ a. refl) in cc
one_by h (Tab a) f g alone is e = cc
one_by h (Lit m n c) f g alone is e =
    function_is (literal m n) g (Lit m n c) (one_member function_cmp function_ties (literal m n) g (sym (ap (is_member function_cmp (literal m n)) is) ∙ e)) (c, refl)
one_by h (Builtin p) f g alone is e =
    function_is (builtin p) g (Builtin p) (one_member function_cmp function_ties (builtin p) g (sym (ap (is_member function_cmp (builtin p)) is) ∙ e)) refl
one_by h (Other k) f g alone is e = let n = belongs-none (record f { functions = only [] }) (λ a. false) (Other k) alone (λ a. refl) in cc

one_if : (h : Heap) (v : Value) (f : Free) (g : Function) (b : Bool) → has_functions_alone f ≡ b → (if b then only_function f.functions else None) ≡ Some g
    → holds h v (term f no_rows) ≡ true → IsFunction g v
one_if h v f g true alone e k = one_by h v f g alone (only_is f.functions g e) k
one_if h v f g false alone e k = cc

pub one_function_holds : (h : Heap) (v : Value) (t : Term) (g : Function) → exactly_one_function t ≡ Some g → holds h v t ≡ true → IsFunction g v
one_function_holds h v (term f no_rows) g e k = one_if h v f g (has_functions_alone f) refl e k
one_function_holds h v (term f (more_rows b fs r)) g e k = cc

pub no_nil_holds : (h : Heap) (t : Term) → has_nil t ≡ false → holds h Nil t ≡ false
no_nil_holds h (term f r) e = e

-- unknown in unions and meets
filter_all : {X : Type 0} (xs : List X) → filter (λ x. true) xs ≡ xs
filter_all [] = refl
filter_all (x ∷ xs) = ap (λ ys. x ∷ ys) (filter_all xs)

filter_none : {X : Type 0} (xs : List X) → filter (λ x. false) xs ≡ []
filter_none [] = refl
filter_none (x ∷ xs) = filter_none xs

whole_or : {X : Type 0} (cmp : X → X → Ordering) (s : Members X) → either_set cmp (all_but []) s ≡ all_but []
whole_or cmp (only xs) = refl
whole_or cmp (all_but xs) = refl

or_whole : {X : Type 0} (cmp : X → X → Ordering) (s : Members X) → either_set cmp s (all_but []) ≡ all_but []
or_whole cmp (only xs) = refl
or_whole cmp (all_but xs) = ap all_but (filter_none xs)

or_true : (b : Bool) → b || true ≡ true
or_true true = refl
or_true false = refl

free_whole_or : (f : Free) → either_free all_values f ≡ all_values
free_whole_or f = let s = whole_or name_cmp f.strings in let t = whole_or function_cmp f.functions in
    λ i. record { nil = true; truth = true; falsity = true; number = true; other = true; strings = s i; functions = t i }

free_or_whole : (f : Free) → either_free f all_values ≡ all_values
free_or_whole f = let s = or_whole name_cmp f.strings in let t = or_whole function_cmp f.functions in
    λ i. record { nil = or_true f.nil i; truth = or_true f.truth i; falsity = or_true f.falsity i; number = or_true f.number i; other = or_true f.other i; strings = s i; functions = t i }

pub unknown_or : (t : Term) → is_flat t ≡ true → union unknown t ≡ unknown
unknown_or (term f no_rows) e = ap (λ (g : Free). term g any_table) (free_whole_or f)
unknown_or (term f (more_rows false no_fields no_rows)) e = ap (λ (g : Free). term g any_table) (free_whole_or f)
unknown_or (term f (more_rows false no_fields (more_rows b fs r))) e = cc
unknown_or (term f (more_rows false (more_fields p t fs) r)) e = cc
unknown_or (term f (more_rows true fs r)) e = cc

pub or_unknown : (t : Term) → is_flat t ≡ true → union t unknown ≡ unknown
or_unknown (term f no_rows) e = ap (λ (g : Free). term g any_table) (free_or_whole f)
or_unknown (term f (more_rows false no_fields no_rows)) e = ap (λ (g : Free). term g any_table) (free_or_whole f)
or_unknown (term f (more_rows false no_fields (more_rows b fs r))) e = cc
or_unknown (term f (more_rows false (more_fields p t fs) r)) e = cc
or_unknown (term f (more_rows true fs r)) e = cc

put_first : {X : Type 0} (cmp : X → X → Ordering) (x y : X) (ys : List X) (o : Ordering) → cmp x y ≡ o → is_lt o ≡ true → by_order o (x ∷ y ∷ ys) (y ∷ ys) (y ∷ put cmp x ys) ≡ x ∷ y ∷ ys
put_first cmp x y ys Less e l = refl
put_first cmp x y ys Equal e l = cc
put_first cmp x y ys Greater e l = cc

pub in_order_same : {X : Type 0} (cmp : X → X → Ordering) (xs : List X) → is_in_order cmp xs ≡ true → in_order cmp xs ≡ xs
in_order_same cmp [] e = refl
in_order_same cmp (x ∷ []) e = refl
in_order_same cmp (x ∷ y ∷ ys) e =
    ap (put cmp x) (in_order_same cmp (y ∷ ys) (right (is_lt (cmp x y)) (is_in_order cmp (y ∷ ys)) e))
    ∙ put_first cmp x y ys (cmp x y) refl (left (is_lt (cmp x y)) (is_in_order cmp (y ∷ ys)) e)

whole_and : {X : Type 0} (cmp : X → X → Ordering) (s : Members X) → is_in_order cmp (listed s) ≡ true → both_sets cmp (all_but []) s ≡ s
whole_and cmp (only xs) e = ap only (filter_all xs)
whole_and cmp (all_but xs) e = ap all_but (in_order_same cmp xs e)

append_nil : {X : Type 0} (xs : List X) → xs ++ [] ≡ xs
append_nil [] = refl
append_nil (x ∷ xs) = ap (λ ys. x ∷ ys) (append_nil xs)

and_whole : {X : Type 0} (cmp : X → X → Ordering) (s : Members X) → is_in_order cmp (listed s) ≡ true → both_sets cmp s (all_but []) ≡ s
and_whole cmp (only xs) e = ap only (filter_all xs)
and_whole cmp (all_but xs) e = ap (λ ys. all_but (in_order cmp ys)) (append_nil xs) ∙ ap all_but (in_order_same cmp xs e)

free_whole_and : (f : Free) → is_normal_free f ≡ true → both_free all_values f ≡ f
free_whole_and f e =
    let s = whole_and name_cmp f.strings (left (is_in_order name_cmp (listed f.strings)) (is_in_order function_cmp (listed f.functions)) e) in
    let t = whole_and function_cmp f.functions (right (is_in_order name_cmp (listed f.strings)) (is_in_order function_cmp (listed f.functions)) e) in
    λ i. record { nil = f.nil; truth = f.truth; falsity = f.falsity; number = f.number; other = f.other; strings = s i; functions = t i }

free_and_whole : (f : Free) → is_normal_free f ≡ true → both_free f all_values ≡ f
free_and_whole f e =
    let s = and_whole name_cmp f.strings (left (is_in_order name_cmp (listed f.strings)) (is_in_order function_cmp (listed f.functions)) e) in
    let t = and_whole function_cmp f.functions (right (is_in_order name_cmp (listed f.strings)) (is_in_order function_cmp (listed f.functions)) e) in
    λ i. record {
      nil = and_true f.nil i;
      truth = and_true f.truth i;
      falsity = and_true f.falsity i;
      number = and_true f.number i;
      other = and_true f.other i;
      strings = s i;
      functions = t i;
    }

pub unknown_and : (f : Free) (r : Rows) → is_flat (term f r) ≡ true → is_normal_free f ≡ true → meet unknown (term f r) ≡ term f r
unknown_and f no_rows e n = ap (λ (g : Free). term g no_rows) (free_whole_and f n)
unknown_and f (more_rows false no_fields no_rows) e n = ap (λ (g : Free). term g any_table) (free_whole_and f n)
unknown_and f (more_rows false no_fields (more_rows b fs r)) e n = cc
unknown_and f (more_rows false (more_fields p t fs) r) e n = cc
unknown_and f (more_rows true fs r) e n = cc

pub and_unknown : (f : Free) (r : Rows) → is_flat (term f r) ≡ true → is_normal_free f ≡ true → meet (term f r) unknown ≡ term f r
and_unknown f no_rows e n = ap (λ (g : Free). term g no_rows) (free_and_whole f n)
and_unknown f (more_rows false no_fields no_rows) e n = ap (λ (g : Free). term g any_table) (free_and_whole f n)
and_unknown f (more_rows false no_fields (more_rows b fs r)) e n = cc
and_unknown f (more_rows false (more_fields p t fs) r) e n = cc
and_unknown f (more_rows true fs r) e n = cc
