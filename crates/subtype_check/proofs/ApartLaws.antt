-- What is told apart is so: a sample is of the one type and not of the other, and there is one where a type of kinds isn't below another.
use Rattle.std.proofs.Common.{◌≡◌, ℕ, zero, suc, ◌+◌, ◌<◌, Bool, true, false, not, List, [], ◌∷◌, ◌++◌, length, refl, sym, ap, ◌∙◌, arith, subst}
use Rattle.std.specs.Prelude.{◌||◌, ◌&&◌, Option, Some, None, if◌then◌else◌}
use Rattle.std.specs.List.{list_all}
use Rattle.std.specs.Option.{option_map}
use Rattle.std.specs.Ordering.{is_eq}
use Rattle.std.specs.Cmp.{IsTotalOrder}
use Rattle.std.specs.declared.cmp.Ordering.{Ordering}
use Rattle.std.specs.declared.cmp.Ordering.TheVariants.{Less, Equal, Greater}
use Rattle.std.proofs.lemmas.Cmp.{tied_itself}
use Rattle.type_arena.specs.Term.{Members, only, all_but, Function, builtin, literal, Free, Term, term, Rows, no_rows, more_rows, no_fields, more_fields}
use Rattle.type_arena.specs.declared.node.FnName.TheVariants.{Builtin, Literal}
use Rattle.luau_values.specs.Value as values
use Rattle.luau_values.specs.Value.{Value}
use Rattle.luau_values.specs.Heap.{Heap}
use Rattle.type_normal.specs.Free.{name_cmp, function_cmp}
use Rattle.type_normal.specs.Holds.{holds, holds_rows}
use Rattle.type_normal.specs.Members.{has_member, is_member}
use Rattle.type_normal.specs.Rows.{any_table}
use Rattle.type_normal.proofs.HoldsFacts.{left, both}
use Rattle.type_normal.proofs.MembersFacts.{has-append}
use Rattle.type_normal.proofs.OrderFacts.{names_total, name_ties, functions_total, function_ties, Separates}
use Rattle.subtype_check.specs.Below.{is_subset, implies, free_below, below, each_row, rows_above}
use Rattle.subtype_check.specs.Apart.{first_that, member_apart, shortest, letters, longest, paths_of, fresh_text, fresh_function, name_of, or_else, kind_apart, first_kind, has_rows, are_plain, is_plain, first_apart, apart, Samples}
use Rattle.subtype_check.specs.declared.samples.Sample.{Sample}
use Rattle.subtype_check.specs.declared.samples.Sample.TheVariants as samples
use Rattle.subtype_check.proofs.BelowFacts.{below_includes}

-- what is found first passes the test, and is of the list
found_passes_by : {X : Type 0} (test : X → Bool) (x z : X) (r : Option X) (b : Bool) → test x ≡ b → (if b then Some x else r) ≡ Some z → (r ≡ Some z → test z ≡ true) → test z ≡ true
found_passes_by test x z r true e f ih = let same : x ≡ z = some_is x z f in ap test (sym same) ∙ e
  where
    some_is : {X : Type 0} (a b : X) → Some a ≡ Some b → a ≡ b
    some_is a b e = cc
found_passes_by test x z r false e f ih = ih f

found_passes : {X : Type 0} (test : X → Bool) (xs : List X) (z : X) → first_that test xs ≡ Some z → test z ≡ true
found_passes test [] z e = cc
found_passes test (x ∷ xs) z e = found_passes_by test x z (first_that test xs) (test x) refl e (found_passes test xs z)

-- nothing is found where none passes
none_passes_by : {X : Type 0} (test : X → Bool) (x : X) (xs : List X) (b : Bool) → test x ≡ b → (if b then Some x else first_that test xs) ≡ None → (first_that test xs ≡ None → list_all (λ y. not (test y)) xs ≡ true)
    → not b && list_all (λ y. not (test y)) xs ≡ true
none_passes_by test x xs true e f ih = cc
none_passes_by test x xs false e f ih = ih f

none_passes : {X : Type 0} (test : X → Bool) (xs : List X) → first_that test xs ≡ None → list_all (λ y. not (test y)) xs ≡ true
none_passes test [] e = refl
none_passes test (x ∷ xs) e = none_passes_by test x xs (test x) refl e (none_passes test xs)

module _ {X : Type 0} (cmp : X → X → Ordering) (order : IsTotalOrder cmp) (ties : Separates cmp) where
  found_in_by : (test : X → Bool) (x z : X) (xs : List X) (b : Bool) → (if b then Some x else first_that test xs) ≡ Some z → (first_that test xs ≡ Some z → has_member cmp z xs ≡ true)
      → is_eq (cmp z x) || has_member cmp z xs ≡ true
  found_in_by test x z xs true f ih = let same : x ≡ z = some_is x z f in subst (λ (y : X). is_eq (cmp z y) || has_member cmp z xs ≡ true) (sym same) (rw (tied_itself order z) refl)
    where
      some_is : (a b : X) → Some a ≡ Some b → a ≡ b
      some_is a b e = cc
  found_in_by test x z xs false f ih = rw (ih f) (or_true (is_eq (cmp z x)))
    where
      or_true : (a : Bool) → a || true ≡ true
      or_true true = refl
      or_true false = refl

  found_in : (test : X → Bool) (xs : List X) (z : X) → first_that test xs ≡ Some z → has_member cmp z xs ≡ true
  found_in test [] z e = cc
  found_in test (x ∷ xs) z e = found_in_by test x z xs (test x) e (found_in test xs z)

  -- what `fresh` gives is in no list that it is given
  in_neither : (x : X) (xs ys : List X) → has_member cmp x (xs ++ ys) ≡ false → (has_member cmp x xs ≡ false) × (has_member cmp x ys ≡ false)
  in_neither x xs ys e = go (has_member cmp x xs) (has_member cmp x ys) (sym (has-append cmp order x xs ys) ∙ e)
    where
      go : (a b : Bool) → a || b ≡ false → (a ≡ false) × (b ≡ false)
      go true b e = cc
      go false b e = (refl, e)

  pub apart_is_in : (fresh : List X → X) → ((taken : List X) → has_member cmp (fresh taken) taken ≡ false) → (a b : Members X) (z : X) → member_apart cmp fresh a b ≡ Some z
      → (is_member cmp z a ≡ true) × (is_member cmp z b ≡ false)
  apart_is_in fresh new (only xs) b z e = (found_in (λ x. not (is_member cmp x b)) xs z e, is_not (is_member cmp z b) (found_passes (λ x. not (is_member cmp x b)) xs z e))
    where
      is_not : (c : Bool) → not c ≡ true → c ≡ false
      is_not true e = sym e
      is_not false e = refl
  apart_is_in fresh new (all_but xs) (all_but ys) z e =
      (found_passes (λ y. not (has_member cmp y xs)) ys z e, ap not (found_in (λ y. not (has_member cmp y xs)) ys z e))
  apart_is_in fresh new (all_but xs) (only ys) z e =
      let same : fresh (xs ++ ys) ≡ z = some_is (fresh (xs ++ ys)) z e in
      let out = in_neither z xs ys (ap (λ (x : X). has_member cmp x (xs ++ ys)) (sym same) ∙ new (xs ++ ys)) in
      (ap not out.0, out.1)
    where
      some_is : (a b : X) → Some a ≡ Some b → a ≡ b
      some_is a b e = cc

  double : (a : Bool) → not (not a) ≡ a
  double true = refl
  double false = refl

  all_same : (p q : X → Bool) → ((x : X) → p x ≡ q x) → (xs : List X) → list_all p xs ≡ list_all q xs
  all_same p q same [] = refl
  all_same p q same (x ∷ xs) = let a = same x in let b = all_same p q same xs in λ i. a i && b i

  pub none_is_subset : (fresh : List X → X) (a b : Members X) → member_apart cmp fresh a b ≡ None → is_subset cmp a b ≡ true
  none_is_subset fresh (only xs) (only ys) e =
      sym (all_same (λ x. not (not (has_member cmp x ys))) (λ x. has_member cmp x ys) (λ x. double (has_member cmp x ys)) xs) ∙ none_passes (λ x. not (has_member cmp x ys)) xs e
  none_is_subset fresh (only xs) (all_but ys) e =
      sym (all_same (λ x. not (not (not (has_member cmp x ys)))) (λ x. not (has_member cmp x ys)) (λ x. double (not (has_member cmp x ys))) xs) ∙ none_passes (λ x. not (not (has_member cmp x ys))) xs e
  none_is_subset fresh (all_but xs) (all_but ys) e =
      sym (all_same (λ y. not (not (has_member cmp y xs))) (λ y. has_member cmp y xs) (λ y. double (has_member cmp y xs)) ys) ∙ none_passes (λ y. not (has_member cmp y xs)) ys e
  none_is_subset fresh (all_but xs) (only ys) e = cc

-- a text longer than each of some is none of them
longer_by : (t u : List ℕ) (us : List (List ℕ)) (o : Ordering) → name_cmp t u ≡ o → length u < length t → has_member name_cmp t us ≡ false → is_eq o || has_member name_cmp t us ≡ false
longer_by t u us Less e l ih = ih
longer_by t u us Equal e l ih = let same : length t ≡ length u = ap length (name_ties t u e) in absurd (omega (arith, same, l))
longer_by t u us Greater e l ih = ih

pub longer_is_new : (t : List ℕ) (us : List (List ℕ)) → longest us < length t → has_member name_cmp t us ≡ false
longer_is_new t [] l = refl
longer_is_new t (u ∷ us) l = longer_by t u us (name_cmp t u) refl (omega (arith, l)) (longer_is_new t us (omega (arith, l)))

letters_long : (n : ℕ) → length (letters n) ≡ n
letters_long zero = refl
letters_long (suc n) = ap suc (letters_long n)

-- the shortest text passes the test, where one that is long enough does
shortest_by : (test : List ℕ → Bool) (m n : ℕ) (b : Bool) → test (letters n) ≡ b → test (shortest test m (suc n)) ≡ true → test (if b then letters n else shortest test m (suc n)) ≡ true
shortest_by test m n true e ih = e
shortest_by test m n false e ih = ih

shortest_passes : (test : List ℕ → Bool) (m n : ℕ) → test (letters (m + n)) ≡ true → test (shortest test m n) ≡ true
shortest_passes test zero n e = ap (λ (k : ℕ). test (letters k)) (let h : n ≡ 0 + n = omega arith in h) ∙ e
shortest_passes test (suc m) n e =
    shortest_by test m n (test (letters n)) refl (shortest_passes test m (suc n) (ap (λ (k : ℕ). test (letters k)) (let h : m + suc n ≡ suc m + n = omega arith in h) ∙ e))

is_not : (c : Bool) → not c ≡ true → c ≡ false
is_not true e = sym e
is_not false e = refl

pub fresh_text_is_new : (taken : List (List ℕ)) → has_member name_cmp (fresh_text taken) taken ≡ false
fresh_text_is_new taken =
    is_not (has_member name_cmp (fresh_text taken) taken)
    (shortest_passes (λ text. not (has_member name_cmp text taken)) (suc (longest taken)) 0
    (ap not (longer_is_new (letters (suc (longest taken) + 0)) taken (let h = letters_long (suc (longest taken) + 0) in omega (arith, h)))))

builtin_new_by : (p q : List ℕ) (fs : List Function) (o : Ordering) → name_cmp p q ≡ o → length q < length p → has_member function_cmp (builtin p) fs ≡ false → is_eq o || has_member function_cmp (builtin p) fs ≡ false
builtin_new_by p q fs Less e l ih = ih
builtin_new_by p q fs Equal e l ih = let same : length p ≡ length q = ap length (name_ties p q e) in absurd (omega (arith, same, l))
builtin_new_by p q fs Greater e l ih = ih

pub longer_builtin_is_new : (p : List ℕ) (fs : List Function) → longest (paths_of fs) < length p → has_member function_cmp (builtin p) fs ≡ false
longer_builtin_is_new p [] l = refl
longer_builtin_is_new p (builtin q ∷ fs) l = builtin_new_by p q fs (name_cmp p q) refl (omega (arith, l)) (longer_builtin_is_new p fs (omega (arith, l)))
longer_builtin_is_new p (literal h n ∷ fs) l = longer_builtin_is_new p fs (omega (arith, l))

pub fresh_function_is_new : (taken : List Function) → has_member function_cmp (fresh_function taken) taken ≡ false
fresh_function_is_new taken =
    is_not (has_member function_cmp (fresh_function taken) taken)
    (shortest_passes (λ path. not (has_member function_cmp (builtin path) taken)) (longest (paths_of taken)) 1
    (ap not (longer_builtin_is_new (letters (longest (paths_of taken) + 1)) taken (let h = letters_long (longest (paths_of taken) + 1) in omega (arith, h)))))

-- which of two parts a sample comes from
either_of : {X : Type 0} (a b : Option X) (z : X) (P : Type 0) → or_else a b ≡ Some z → (a ≡ Some z → P) → (b ≡ Some z → P) → P
either_of None b z P e f g = g e
either_of (Some x) b z P e f g = f e

kind_of : (k : Sample) (a b : Bool) (s : Sample) → kind_apart k a b ≡ Some s → (k ≡ s) × (a ≡ true) × (b ≡ false)
kind_of k true true s e = cc
kind_of k true false s e = (some_is k s e, refl, refl)
  where
    some_is : (a b : Sample) → Some a ≡ Some b → a ≡ b
    some_is a b e = cc
kind_of k false b s e = cc

mapped : {X Y : Type 0} (F : X → Y) (r : Option X) (s : Y) → option_map F r ≡ Some s → (z : X) × (r ≡ Some z) × (F z ≡ s)
mapped F None s e = cc
mapped {X} {Y} F (Some z) s e = (z, refl, some_is (F z) s e)
  where
    some_is : (a b : Y) → Some a ≡ Some b → a ≡ b
    some_is a b e = cc

-- a value is of the one type and not of the other
abbrev Told : Heap → Value → Term → Term → Type 0
Told h v t u = (holds h v t ≡ true) × (holds h v u ≡ false)

told_text : (h : Heap) (v : Value) (f g : Free) (r s : Rows) (k : Sample) → option_map samples.Text (member_apart name_cmp fresh_text f.strings g.strings) ≡ Some k → Samples k v → Told h v (term f r) (term g s)
told_text h v f g r s k e m =
    let w = mapped samples.Text (member_apart name_cmp fresh_text f.strings g.strings) k e in
    let is : v ≡ values.Str w.0 = subst (λ (x : Sample). Samples x v) (sym w.2) m in
    let in' = apart_is_in name_cmp names_total name_ties fresh_text fresh_text_is_new f.strings g.strings w.0 w.1 in
    (ap (λ (x : Value). holds h x (term f r)) is ∙ in'.0, ap (λ (x : Value). holds h x (term g s)) is ∙ in'.1)

told_named : (h : Heap) (v : Value) (f g : Free) (r s : Rows) (z : Function) → (is_member function_cmp z f.functions ≡ true) × (is_member function_cmp z g.functions ≡ false) → Samples (samples.Function (name_of z)) v → Told h v (term f r) (term g s)
told_named h v f g r s (builtin p) i m = (ap (λ (x : Value). holds h x (term f r)) m ∙ i.0, ap (λ (x : Value). holds h x (term g s)) m ∙ i.1)
told_named h v f g r s (literal home number) i m = (ap (λ (x : Value). holds h x (term f r)) m.1 ∙ i.0, ap (λ (x : Value). holds h x (term g s)) m.1 ∙ i.1)

told_function : (h : Heap) (v : Value) (f g : Free) (r s : Rows) (k : Sample) → option_map (λ function. samples.Function (name_of function)) (member_apart function_cmp fresh_function f.functions g.functions) ≡ Some k → Samples k v → Told h v (term f r) (term g s)
told_function h v f g r s k e m =
    let w = mapped (λ function. samples.Function (name_of function)) (member_apart function_cmp fresh_function f.functions g.functions) k e in
    told_named h v f g r s w.0 (apart_is_in function_cmp functions_total function_ties fresh_function fresh_function_is_new f.functions g.functions w.0 w.1) (subst (λ (x : Sample). Samples x v) (sym w.2) m)

plain_rows_hold : (h : Heap) (a : ℕ) (r : Rows) → are_plain r ≡ true → has_rows r ≡ true → holds_rows h a r ≡ true
plain_rows_hold h a no_rows p e = cc
plain_rows_hold h a (more_rows true fs r) p e = cc
plain_rows_hold h a (more_rows false no_fields r) p e = refl
plain_rows_hold h a (more_rows false (more_fields n t fs) r) p e = cc

no_rows_hold : (h : Heap) (a : ℕ) (r : Rows) → has_rows r ≡ false → holds_rows h a r ≡ false
no_rows_hold h a no_rows e = refl
no_rows_hold h a (more_rows b fs r) e = cc

told_kind : (h : Heap) (v w : Value) (f g : Free) (r s : Rows) → v ≡ w → holds h w (term f r) ≡ true → holds h w (term g s) ≡ false → Told h v (term f r) (term g s)
told_kind h v w f g r s is a b = (ap (λ (x : Value). holds h x (term f r)) is ∙ a, ap (λ (x : Value). holds h x (term g s)) is ∙ b)

told_first_kind : (h : Heap) (v : Value) (f g : Free) (r s : Rows) (k : Sample) → first_kind f g ≡ Some k → Samples k v → Told h v (term f r) (term g s)
told_first_kind h v f g r s k e m =
    either_of (kind_apart samples.Nil f.nil g.nil) _ k (Told h v (term f r) (term g s)) e
    (λ x. let w = kind_of samples.Nil f.nil g.nil k x in told_kind h v values.Nil f g r s (subst (λ (x : Sample). Samples x v) (sym w.0) m) w.1 w.2)
    (λ e2. either_of (kind_apart samples.True f.truth g.truth) _ k (Told h v (term f r) (term g s)) e2
    (λ x. let w = kind_of samples.True f.truth g.truth k x in told_kind h v (values.Truth true) f g r s (subst (λ (x : Sample). Samples x v) (sym w.0) m) w.1 w.2)
    (λ e3. either_of (kind_apart samples.False f.falsity g.falsity) _ k (Told h v (term f r) (term g s)) e3
    (λ x. let w = kind_of samples.False f.falsity g.falsity k x in told_kind h v (values.Truth false) f g r s (subst (λ (x : Sample). Samples x v) (sym w.0) m) w.1 w.2)
    (λ x.
    let w = kind_of samples.Number f.number g.number k x in
    let n : Samples samples.Number v = subst (λ (x : Sample). Samples x v) (sym w.0) m in
    told_kind h v (values.Num n.0) f g r s n.1 w.1 w.2)))

told_by : (h : Heap) (v : Value) (f g : Free) (r s : Rows) (k : Sample) → are_plain r ≡ true → are_plain s ≡ true → first_apart f (has_rows r) g (has_rows s) ≡ Some k → Samples k v → Told h v (term f r) (term g s)
told_by h v f g r s k p q e m =
    either_of (first_kind f g) _ k (Told h v (term f r) (term g s)) e
    (λ x. told_first_kind h v f g r s k x m)
    (λ e2. either_of (option_map samples.Text (member_apart name_cmp fresh_text f.strings g.strings)) _ k (Told h v (term f r) (term g s)) e2
    (λ x. told_text h v f g r s k x m)
    (λ e3. either_of (option_map (λ function. samples.Function (name_of function)) (member_apart function_cmp fresh_function f.functions g.functions)) _ k (Told h v (term f r) (term g s)) e3
    (λ x. told_function h v f g r s k x m)
    (λ e4. either_of (kind_apart samples.Other f.other g.other) _ k (Told h v (term f r) (term g s)) e4
    (λ x.
    let w = kind_of samples.Other f.other g.other k x in
    let n : Samples samples.Other v = subst (λ (x : Sample). Samples x v) (sym w.0) m in
    told_kind h v (values.Other n.0) f g r s n.1 w.1 w.2)
    (λ x.
    let w = kind_of samples.Table (has_rows r) (has_rows s) k x in
    let n : Samples samples.Table v = subst (λ (x : Sample). Samples x v) (sym w.0) m in
    told_kind h v (values.Tab n.0) f g r s n.1 (plain_rows_hold h n.0 r p w.1) (no_rows_hold h n.0 s w.2)))))

told_where : (h : Heap) (v : Value) (f g : Free) (r s : Rows) (k : Sample) (b c : Bool) → are_plain r ≡ b → are_plain s ≡ c → (if b && c then first_apart f (has_rows r) g (has_rows s) else None) ≡ Some k → Samples k v → Told h v (term f r) (term g s)
told_where h v f g r s k true true p q e m = told_by h v f g r s k p q e m
told_where h v f g r s k true false p q e m = cc
told_where h v f g r s k false c p q e m = cc

pub apart_told : (h : Heap) (v : Value) (t u : Term) (k : Sample) → apart t u ≡ Some k → Samples k v → (holds h v t ≡ true) × (holds h v u ≡ false)
apart_told h v (term f r) (term g s) k e m = told_where h v f g r s k (are_plain r) (are_plain s) refl refl e m

-- each sample stands for a value
abbrev a_value : Sample → Value
a_value samples.Nil = values.Nil
a_value samples.True = values.Truth true
a_value samples.False = values.Truth false
a_value samples.Number = values.Num []
a_value (samples.Text bytes) = values.Str bytes
a_value (samples.Function (Builtin path)) = values.Builtin path
a_value (samples.Function (Literal home number)) = values.Lit home number []
a_value samples.Other = values.Other 0
a_value samples.Table = values.Tab 0

its_value : (k : Sample) → Samples k (a_value k)
its_value samples.Nil = refl
its_value samples.True = refl
its_value samples.False = refl
its_value samples.Number = ([], refl)
its_value (samples.Text bytes) = refl
its_value (samples.Function (Builtin path)) = refl
its_value (samples.Function (Literal home number)) = ([], refl)
its_value samples.Other = (0, refl)
its_value samples.Table = (0, refl)

-- nothing is told apart where the values of the one type are of the other
included_none : (t u : Term) → ((h : Heap) (v : Value) → holds h v t ≡ true → holds h v u ≡ true) → apart t u ≡ None
included_none t u inside = go (apart t u) refl
  where
    go : (o : Option Sample) → apart t u ≡ o → o ≡ None
    go None e = refl
    go (Some k) e =
        let w = apart_told [] (a_value k) t u k e (its_value k) in
        let yes' : true ≡ false = sym (inside [] (a_value k) w.0) ∙ w.1 in
        cc

pub below_is_none : (t u : Term) → below t u ≡ true → apart t u ≡ None
below_is_none t u e = included_none t u (λ h v. below_includes h v t u e)

-- where nothing is told apart, the one type is below the other
both_none : {X : Type 0} (a b : Option X) → or_else a b ≡ None → (a ≡ None) × (b ≡ None)
both_none None b e = (refl, e)
both_none (Some x) b e = cc

kind_none : (k : Sample) (a b : Bool) → kind_apart k a b ≡ None → implies a b ≡ true
kind_none k true true e = refl
kind_none k true false e = cc
kind_none k false b e = refl

mapped_none : {X Y : Type 0} (F : X → Y) (r : Option X) → option_map F r ≡ None → r ≡ None
mapped_none F None e = refl
mapped_none F (Some z) e = cc

plain_below : (r s : Rows) → are_plain r ≡ true → are_plain s ≡ true → implies (has_rows r) (has_rows s) ≡ true → each_row (λ b fs. rows_above s b fs) r ≡ true
plain_below no_rows s p q e = refl
plain_below (more_rows true fs r) s p q e = cc
plain_below (more_rows false (more_fields n t fs) r) s p q e = cc
plain_below (more_rows false no_fields r) no_rows p q e = cc
plain_below (more_rows false no_fields r) (more_rows true fs s) p q e = cc
plain_below (more_rows false no_fields r) (more_rows false (more_fields n t fs) s) p q e = cc
plain_below (more_rows false no_fields r) (more_rows false no_fields s) p q e = plain_below r (more_rows false no_fields s) p q (implies_true (has_rows r))
  where
    implies_true : (a : Bool) → implies a true ≡ true
    implies_true true = refl
    implies_true false = refl

first_none : (f g : Free) (r s : Rows) → are_plain r ≡ true → are_plain s ≡ true → first_apart f (has_rows r) g (has_rows s) ≡ None → below (term f r) (term g s) ≡ true
first_none f g r s p q e =
    let a = both_none (first_kind f g) _ e in
    let b = both_none (option_map samples.Text (member_apart name_cmp fresh_text f.strings g.strings)) _ a.1 in
    let c = both_none (option_map (λ function. samples.Function (name_of function)) (member_apart function_cmp fresh_function f.functions g.functions)) _ b.1 in
    let d = both_none (kind_apart samples.Other f.other g.other) _ c.1 in
    let n = both_none (kind_apart samples.Nil f.nil g.nil) _ a.0 in
    let t = both_none (kind_apart samples.True f.truth g.truth) _ n.1 in
    let u = both_none (kind_apart samples.False f.falsity g.falsity) _ t.1 in
    both (free_below f g) (each_row (λ b fs. rows_above s b fs) r)
    (both (implies f.nil g.nil) _ (kind_none samples.Nil f.nil g.nil n.0)
    (both (implies f.truth g.truth) _ (kind_none samples.True f.truth g.truth t.0)
    (both (implies f.falsity g.falsity) _ (kind_none samples.False f.falsity g.falsity u.0)
    (both (implies f.number g.number) _ (kind_none samples.Number f.number g.number u.1)
    (both (implies f.other g.other) _ (kind_none samples.Other f.other g.other d.0)
    (both (is_subset name_cmp f.strings g.strings) (is_subset function_cmp f.functions g.functions)
    (none_is_subset name_cmp names_total name_ties fresh_text f.strings g.strings (mapped_none samples.Text _ b.0))
    (none_is_subset function_cmp functions_total function_ties fresh_function f.functions g.functions (mapped_none (λ function. samples.Function (name_of function)) _ c.0))))))))
    (plain_below r s p q (kind_none samples.Table (has_rows r) (has_rows s) d.1))

none_where : (f g : Free) (r s : Rows) (b c : Bool) → are_plain r ≡ b → are_plain s ≡ c → b && c ≡ true → (if b && c then first_apart f (has_rows r) g (has_rows s) else None) ≡ None → below (term f r) (term g s) ≡ true
none_where f g r s true true p q k e = first_none f g r s p q e
none_where f g r s true false p q k e = cc
none_where f g r s false c p q k e = cc

pub none_is_below : (t u : Term) → is_plain t && is_plain u ≡ true → apart t u ≡ None → below t u ≡ true
none_is_below (term f r) (term g s) k e = none_where f g r s (are_plain r) (are_plain s) refl refl k e

pub rows_are_none : (t u : Term) → is_plain t && is_plain u ≡ false → apart t u ≡ None
rows_are_none (term f r) (term g s) e = ap (λ (b : Bool). if b then first_apart f (has_rows r) g (has_rows s) else None) e

-- inclusion is being below: of types without rows, and below types whose rows are that of all tables alone
pub kinds_complete : (f g : Free) → ((h : Heap) (v : Value) → holds h v (term f no_rows) ≡ true → holds h v (term g no_rows) ≡ true) → below (term f no_rows) (term g no_rows) ≡ true
kinds_complete f g inside = none_is_below (term f no_rows) (term g no_rows) refl (included_none (term f no_rows) (term g no_rows) inside)

each_is_table : (r : Rows) → each_row (λ b fs. rows_above any_table b fs) r ≡ true
each_is_table no_rows = refl
each_is_table (more_rows true fs r) = each_is_table r
each_is_table (more_rows false fs r) = each_is_table r

without_rows : (h : Heap) (v : Value) (f : Free) (r : Rows) → holds h v (term f no_rows) ≡ true → holds h v (term f r) ≡ true
without_rows h values.Nil f r e = e
without_rows h (values.Truth true) f r e = e
without_rows h (values.Truth false) f r e = e
without_rows h (values.Num n) f r e = e
without_rows h (values.Str s) f r e = e
without_rows h (values.Tab a) f r e = cc
without_rows h (values.Lit m n c) f r e = e
without_rows h (values.Builtin p) f r e = e
without_rows h (values.Other n) f r e = e

pub tables_complete : (t : Term) (g : Free) → ((h : Heap) (v : Value) → holds h v t ≡ true → holds h v (term g any_table) ≡ true) → below t (term g any_table) ≡ true
tables_complete (term f r) g inside =
    let bare : below (term f no_rows) (term g any_table) ≡ true =
    none_is_below (term f no_rows) (term g any_table) refl (included_none (term f no_rows) (term g any_table) (λ h v e. inside h v (without_rows h v f r e))) in
    both (free_below f g) (each_row (λ b fs. rows_above any_table b fs) r) (left (free_below f g) true bare) (each_is_table r)
