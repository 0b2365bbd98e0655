-- The orders of names, functions and types: what counts as one is one.
use Rattle.std.proofs.Common.{◌≡◌, ℕ, Bool, true, false, [], ◌∷◌, refl, ap}
use Rattle.std.specs.declared.cmp.Ordering.{Ordering}
use Rattle.std.specs.declared.cmp.Ordering.TheVariants.{Less, Equal, Greater}
use Rattle.std.specs.Ordering.{nat_cmp, bool_cmp, ordering_then, ordering_reverse, then_cmp, on}
use Rattle.std.specs.Cmp.{IsTotalOrder}
use Rattle.std.specs.Cmp.Lexicographic.{slice_cmp}
use Rattle.std.proofs.lemmas.Cmp.{ranked, nat_cmp_total, nat_list_cmp_total, then_total, on_total}
use Rattle.type_arena.specs.Term.{only, all_but, Function, builtin, literal, Term, term, Rows, no_rows, more_rows, Fields, no_fields, more_fields}
use Rattle.type_normal.specs.Members.{members_cmp}
use Rattle.type_normal.specs.Free.{name_cmp, function_cmp, free_cmp}
use Rattle.type_normal.specs.Rows.{names_cmp, term_cmp, rows_cmp, types_cmp, row_cmp}

-- both parts of a comparison are ties where it is one
pub first_ties : (a b : Ordering) → ordering_then a b ≡ Equal → a ≡ Equal
first_ties Less b e = e
first_ties Equal b e = refl
first_ties Greater b e = e

pub second_ties : (a b : Ordering) → ordering_then a b ≡ Equal → b ≡ Equal
second_ties Less b e = cc
second_ties Equal b e = e
second_ties Greater b e = cc

-- an order in which what ties is one
abbrev pub Separates : {X : Type 0} → (X → X → Ordering) → Type 0
Separates {X} cmp = (x y : X) → cmp x y ≡ Equal → x ≡ y

pub number_ties : Separates nat_cmp
number_ties x y e = go (nat_cmp x y) refl e
  where
    go : (o : Ordering) → o ≡ nat_cmp x y → o ≡ Equal → x ≡ y
    go Less h e = cc
    go Equal h e = ranked x y Equal h
    go Greater h e = cc

pub truth_ties : Separates bool_cmp
truth_ties true true e = refl
truth_ties true false e = cc
truth_ties false true e = cc
truth_ties false false e = refl

pub list_ties : {X : Type 0} (cmp : X → X → Ordering) → Separates cmp → Separates (slice_cmp cmp)
list_ties cmp ties [] [] e = refl
list_ties cmp ties [] (y ∷ ys) e = cc
list_ties cmp ties (x ∷ xs) [] e = cc
list_ties cmp ties (x ∷ xs) (y ∷ ys) e =
    let h : x ≡ y = ties x y (first_ties _ _ e) in let t : xs ≡ ys = list_ties cmp ties xs ys (second_ties (cmp x y) _ e) in cc

pub name_ties : Separates name_cmp
name_ties = list_ties nat_cmp number_ties

pub function_ties : Separates function_cmp
function_ties (builtin path) (builtin other) e = ap builtin (name_ties path other e)
function_ties (builtin path) (literal home number) e = cc
function_ties (literal home number) (builtin path) e = cc
function_ties (literal home number) (literal home' number') e =
    let h : home ≡ home' = number_ties _ _ (first_ties _ _ e) in let n : number ≡ number' = number_ties _ _ (second_ties (nat_cmp home home') _ e) in cc

pub members_ties : {X : Type 0} (cmp : X → X → Ordering) → Separates cmp → Separates (members_cmp cmp)
members_ties cmp ties (only xs) (only ys) e = ap only (list_ties cmp ties xs ys e)
members_ties cmp ties (only xs) (all_but ys) e = cc
members_ties cmp ties (all_but xs) (only ys) e = cc
members_ties cmp ties (all_but xs) (all_but ys) e = ap all_but (list_ties cmp ties xs ys e)

pub free_ties : Separates free_cmp
free_ties a b e =
    let e1 = second_ties (bool_cmp a.nil b.nil) _ e in
    let e2 = second_ties (bool_cmp a.truth b.truth) _ e1 in
    let e3 = second_ties (bool_cmp a.falsity b.falsity) _ e2 in
    let e4 = second_ties (bool_cmp a.number b.number) _ e3 in
    let e5 = second_ties (bool_cmp a.other b.other) _ e4 in
    let nil = truth_ties _ _ (first_ties _ _ e) in
    let truth = truth_ties _ _ (first_ties _ _ e1) in
    let falsity = truth_ties _ _ (first_ties _ _ e2) in
    let number = truth_ties _ _ (first_ties _ _ e3) in
    let other = truth_ties _ _ (first_ties _ _ e4) in
    let strings = members_ties name_cmp name_ties _ _ (first_ties _ _ e5) in
    let functions = members_ties function_cmp function_ties _ _ (second_ties (members_cmp name_cmp a.strings b.strings) _ e5) in
    λ i. record { nil = nil i; truth = truth i; falsity = falsity i; number = number i; other = other i; strings = strings i; functions = functions i }

mutual
  pub term_ties : (a b : Term) → term_cmp a b ≡ Equal → a ≡ b
  term_ties (term f r) (term g s) e =
      let h : f ≡ g = free_ties f g (first_ties _ _ e) in let t : r ≡ s = rows_tie r s (second_ties (free_cmp f g) _ e) in cc

  pub rows_tie : (r s : Rows) → rows_cmp r s ≡ Equal → r ≡ s
  rows_tie no_rows no_rows e = refl
  rows_tie no_rows (more_rows c gs s) e = cc
  rows_tie (more_rows b fs r) no_rows e = cc
  rows_tie (more_rows b fs r) (more_rows c gs s) e =
      let e1 = second_ties (bool_cmp b c) _ e in
      let e2 = second_ties (names_cmp fs gs) _ e1 in
      let h : b ≡ c = truth_ties b c (first_ties _ _ e) in
      let f : fs ≡ gs = fields_tie fs gs (first_ties _ _ e1) (first_ties _ _ e2) in
      let t : r ≡ s = rows_tie r s (second_ties (types_cmp fs gs) _ e2) in
      cc

  pub fields_tie : (fs gs : Fields) → names_cmp fs gs ≡ Equal → types_cmp fs gs ≡ Equal → fs ≡ gs
  fields_tie no_fields no_fields n e = refl
  fields_tie no_fields (more_fields q u gs) n e = cc
  fields_tie (more_fields p t fs) no_fields n e = cc
  fields_tie (more_fields p t fs) (more_fields q u gs) n e =
      let h : p ≡ q = name_ties p q (first_ties _ _ n) in
      let f : t ≡ u = term_ties t u (first_ties _ _ e) in
      let r : fs ≡ gs = fields_tie fs gs (second_ties (name_cmp p q) _ n) (second_ties (term_cmp t u) _ e) in
      cc

-- two rows that tie are one
pub row_frozen_ties : (b c : Bool) (fs gs : Fields) → row_cmp b fs c gs ≡ Equal → b ≡ c
row_frozen_ties b c fs gs e = truth_ties b c (first_ties _ _ e)

pub row_fields_tie : (b c : Bool) (fs gs : Fields) → row_cmp b fs c gs ≡ Equal → fs ≡ gs
row_fields_tie b c fs gs e =
    let e1 = second_ties (bool_cmp b c) _ e in
    fields_tie fs gs (first_ties _ _ e1) (second_ties (names_cmp fs gs) _ e1)

-- names and functions are in a total order
pub names_total : IsTotalOrder name_cmp
names_total = nat_list_cmp_total

pairs_total : IsTotalOrder (then_cmp (on (λ (p : ℕ × ℕ). p.0) nat_cmp) (on (λ (p : ℕ × ℕ). p.1) nat_cmp))
pairs_total = then_total (on_total (λ p. p.0) nat_cmp_total) (on_total (λ p. p.1) nat_cmp_total)

functions_turn : (x y : Function) → function_cmp x y ≡ ordering_reverse (function_cmp y x)
functions_turn (builtin p) (builtin q) = names_total.antisymm p q
functions_turn (builtin p) (literal h n) = refl
functions_turn (literal h n) (builtin p) = refl
functions_turn (literal h n) (literal k m) = pairs_total.antisymm (h, n) (k, m)

functions_chain : (x y z : Function) → function_cmp x y ≡ Less → function_cmp y z ≡ Less → function_cmp x z ≡ Less
functions_chain (builtin p) (builtin q) (builtin r) e f = names_total.trans p q r e f
functions_chain (builtin p) (builtin q) (literal h n) e f = refl
functions_chain (builtin p) (literal h n) (builtin r) e f = cc
functions_chain (builtin p) (literal h n) (literal k m) e f = refl
functions_chain (literal h n) (builtin p) z e f = cc
functions_chain (literal h n) (literal k m) (builtin r) e f = cc
functions_chain (literal h n) (literal k m) (literal l o) e f = pairs_total.trans (h, n) (k, m) (l, o) e f

functions_alike : (x y z : Function) → function_cmp x y ≡ Equal → function_cmp x z ≡ function_cmp y z
functions_alike x y z e = ap (λ (w : Function). function_cmp w z) (function_ties x y e)

pub functions_total : IsTotalOrder function_cmp
functions_total = record { antisymm = functions_turn; trans = functions_chain; congr = functions_alike }
