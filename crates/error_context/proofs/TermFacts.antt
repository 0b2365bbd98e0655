-- What steps come to where one side is never, or both are one plain type, and that what they make is in normal form and cut.
use Rattle.std.proofs.Common.{◌≡◌, ℕ, ◌≤◌, Bool, true, false, not, List, [], ◌∷◌, ◌++◌, refl, sym, ap, ◌∙◌, arith}
use Rattle.std.specs.Prelude.{◌&&◌, ◌||◌, nat_le, if◌then◌else◌}
use Rattle.std.specs.declared.cmp.Ordering.{Ordering}
use Rattle.std.specs.declared.cmp.Ordering.TheVariants.{Less, Equal, Greater}
use Rattle.std.specs.Ordering.{is_lt}
use Rattle.std.proofs.lemmas.Bool.{le-leb, leb-true}
use Rattle.type_arena.specs.Term.{Members, only, all_but, Free, Term, term, Rows, no_rows, more_rows, Fields, no_fields, more_fields, never}
use Rattle.type_normal.specs.Members.{by_order, put, in_order, common, less, either_set, both_sets, is_in_order, is_no_set, listed}
use Rattle.type_normal.specs.Free.{name_cmp, function_cmp, no_values, either_free, both_free, is_no_free, is_normal_free}
use Rattle.type_normal.specs.Nodes.{is_nil}
use Rattle.type_normal.specs.Rows.{row_cmp, put_row, put_rows, any_table, is_empty, names_in_order, comes_first, is_normal, are_normal_rows, are_normal_fields}
use Rattle.type_normal.specs.Operations.{union, meet, meet_rows, not_free}
use Rattle.type_normal.specs.HeapFree.{heap_free_row, fields_list, strip, strip_rows, strip_at, strip_rows_at}
use Rattle.type_normal.specs.Cut.{depth_of_rows, count_rows, rows_have_few, fields_have_few, is_small, has_any_table, few_values, cut_down}
use Rattle.type_normal.proofs.HoldsFacts.{left, right, both}
use Rattle.type_normal.proofs.MembersFacts.{or_false, and_false}
use Rattle.type_normal.proofs.RowsFacts.{small_down}
use Rattle.type_ops.proofs.KeepFacts.{union_normal, meet_normal, not_free_normal, cut_down_normal, strip_normal, strip_at_normal}
use Rattle.error_context.specs.Entries.{is_cut}
use Rattle.error_context.specs.Plain.{is_plain}
use Rattle.error_context.specs.Steps.{step_term, takes}
use Rattle.error_context.specs.declared.steps.Step.{Step}
use Rattle.error_context.specs.declared.steps.Step.TheVariants.{Join, Meet, Strip, StripAt, Complement}

-- ---- truth

or_same : (a : Bool) → a || a ≡ a
or_same true = refl
or_same false = refl

and_same : (a : Bool) → a && a ≡ a
and_same true = refl
and_same false = refl

less_is : (o : Ordering) → is_lt o ≡ true → o ≡ Less
less_is Less e = refl
less_is Equal e = cc
less_is Greater e = cc

-- an empty type has no part at all
not_true : (b : Bool) → not b ≡ true → b ≡ false
not_true true e = cc
not_true false e = refl

no_set_is : {X : Type 0} (s : Members X) → is_no_set s ≡ true → s ≡ only []
no_set_is (only []) e = refl
no_set_is (only (x ∷ xs)) e = cc
no_set_is (all_but xs) e = cc

no_free_is : (f : Free) → is_no_free f ≡ true → f ≡ no_values
no_free_is f e =
    let e1 = right (not f.nil) _ e in
    let e2 = right (not f.truth) _ e1 in
    let e3 = right (not f.falsity) _ e2 in
    let e4 = right (not f.number) _ e3 in
    let e5 = right (not f.other) _ e4 in
    λ i. record {
      nil = not_true f.nil (left _ _ e) i;
      truth = not_true f.truth (left _ _ e1) i;
      falsity = not_true f.falsity (left _ _ e2) i;
      number = not_true f.number (left _ _ e3) i;
      other = not_true f.other (left _ _ e4) i;
      strings = no_set_is f.strings (left _ _ e5) i;
      functions = no_set_is f.functions (right (is_no_set f.strings) _ e5) i;
    }

pub empty_is_never : (t : Term) → is_empty t ≡ true → t ≡ never
empty_is_never (term f no_rows) e = λ i. term (no_free_is f e i) no_rows
empty_is_never (term f (more_rows b fs r)) e = cc

-- ---- sets, beside nothing and beside themselves

module _ {X : Type 0} (cmp : X → X → Ordering) where
  put_first : (x : X) (ys : List X) → is_in_order cmp (x ∷ ys) ≡ true → put cmp x ys ≡ x ∷ ys
  put_first x [] o = refl
  put_first x (y ∷ ys) o = ap (λ (r : Ordering). by_order r (x ∷ y ∷ ys) (y ∷ ys) (y ∷ put cmp x ys)) (less_is (cmp x y) (left _ _ o))

  order_rest : (x : X) (ys : List X) → is_in_order cmp (x ∷ ys) ≡ true → is_in_order cmp ys ≡ true
  order_rest x [] o = refl
  order_rest x (y ∷ ys) o = right (is_lt (cmp x y)) _ o

  in_order_same : (xs : List X) → is_in_order cmp xs ≡ true → in_order cmp xs ≡ xs
  in_order_same [] o = refl
  in_order_same (x ∷ xs) o = ap (put cmp x) (in_order_same xs (order_rest x xs o)) ∙ put_first x xs o

  append_nil : (xs : List X) → xs ++ [] ≡ xs
  append_nil [] = refl
  append_nil (x ∷ xs) = ap (λ (ys : List X). x ∷ ys) (append_nil xs)

  less_nothing : (xs : List X) → less cmp xs [] ≡ xs
  less_nothing [] = refl
  less_nothing (x ∷ xs) = ap (λ (ys : List X). x ∷ ys) (less_nothing xs)

  common_nothing : (xs : List X) → common cmp xs [] ≡ []
  common_nothing [] = refl
  common_nothing (x ∷ xs) = common_nothing xs

  pub either_nothing : (s : Members X) → is_in_order cmp (listed s) ≡ true → either_set cmp s (only []) ≡ s
  either_nothing (only xs) o = ap (λ (ys : List X). only (in_order cmp ys)) (append_nil xs) ∙ ap only (in_order_same xs o)
  either_nothing (all_but xs) o = ap all_but (less_nothing xs)

  pub nothing_either : (s : Members X) → is_in_order cmp (listed s) ≡ true → either_set cmp (only []) s ≡ s
  nothing_either (only xs) o = ap only (in_order_same xs o)
  nothing_either (all_but xs) o = ap all_but (less_nothing xs)

  pub both_nothing : (s : Members X) → both_sets cmp s (only []) ≡ only []
  both_nothing (only xs) = ap only (common_nothing xs)
  both_nothing (all_but xs) = refl

  pub nothing_both : (s : Members X) → both_sets cmp (only []) s ≡ only []
  nothing_both (only xs) = refl
  nothing_both (all_but xs) = refl

  pub either_same : (s : Members X) → is_nil (listed s) ≡ true → either_set cmp s s ≡ s
  either_same (only []) n = refl
  either_same (only (x ∷ xs)) n = cc
  either_same (all_but []) n = refl
  either_same (all_but (x ∷ xs)) n = cc

  pub both_same_sets : (s : Members X) → is_nil (listed s) ≡ true → both_sets cmp s s ≡ s
  both_same_sets (only []) n = refl
  both_same_sets (only (x ∷ xs)) n = cc
  both_same_sets (all_but []) n = refl
  both_same_sets (all_but (x ∷ xs)) n = cc

-- ---- free parts

either_no : (f : Free) → is_normal_free f ≡ true → either_free f no_values ≡ f
either_no f n = λ i. record {
  nil = or_false f.nil i;
  truth = or_false f.truth i;
  falsity = or_false f.falsity i;
  number = or_false f.number i;
  other = or_false f.other i;
  strings = either_nothing name_cmp f.strings (left _ _ n) i;
  functions = either_nothing function_cmp f.functions (right (is_in_order name_cmp (listed f.strings)) _ n) i;
}

no_either : (f : Free) → is_normal_free f ≡ true → either_free no_values f ≡ f
no_either f n = λ i. record {
  nil = f.nil;
  truth = f.truth;
  falsity = f.falsity;
  number = f.number;
  other = f.other;
  strings = nothing_either name_cmp f.strings (left _ _ n) i;
  functions = nothing_either function_cmp f.functions (right (is_in_order name_cmp (listed f.strings)) _ n) i;
}

both_no : (f : Free) → both_free f no_values ≡ no_values
both_no f = λ i. record {
  nil = and_false f.nil i;
  truth = and_false f.truth i;
  falsity = and_false f.falsity i;
  number = and_false f.number i;
  other = and_false f.other i;
  strings = both_nothing name_cmp f.strings i;
  functions = both_nothing function_cmp f.functions i;
}

no_both : (f : Free) → both_free no_values f ≡ no_values
no_both f = λ i. record {
  nil = false;
  truth = false;
  falsity = false;
  number = false;
  other = false;
  strings = nothing_both name_cmp f.strings i;
  functions = nothing_both function_cmp f.functions i;
}

either_self : (f : Free) → is_nil (listed f.strings) && is_nil (listed f.functions) ≡ true → either_free f f ≡ f
either_self f n = λ i. record {
  nil = or_same f.nil i;
  truth = or_same f.truth i;
  falsity = or_same f.falsity i;
  number = or_same f.number i;
  other = or_same f.other i;
  strings = either_same name_cmp f.strings (left _ _ n) i;
  functions = either_same function_cmp f.functions (right (is_nil (listed f.strings)) _ n) i;
}

both_self : (f : Free) → is_nil (listed f.strings) && is_nil (listed f.functions) ≡ true → both_free f f ≡ f
both_self f n = λ i. record {
  nil = and_same f.nil i;
  truth = and_same f.truth i;
  falsity = and_same f.falsity i;
  number = and_same f.number i;
  other = and_same f.other i;
  strings = both_same_sets name_cmp f.strings (left _ _ n) i;
  functions = both_same_sets function_cmp f.functions (right (is_nil (listed f.strings)) _ n) i;
}

-- ---- rows

put_row_first : (b : Bool) (fs : Fields) (r : Rows) → comes_first b fs r ≡ true → put_row b fs r ≡ more_rows b fs r
put_row_first b fs no_rows h = refl
put_row_first b fs (more_rows c gs r) h =
    ap (λ (o : Ordering). by_order o (more_rows b fs (more_rows c gs r)) (more_rows c gs r) (more_rows c gs (put_row b fs r))) (less_is (row_cmp b fs c gs) h)

rows_rest : (b : Bool) (fs : Fields) (r : Rows) → are_normal_rows (more_rows b fs r) ≡ true → comes_first b fs r && are_normal_rows r ≡ true
rows_rest b fs r n = right (names_in_order fs && are_normal_fields fs) _ n

rows_same : (r : Rows) → are_normal_rows r ≡ true → put_rows r no_rows ≡ r
rows_same no_rows n = refl
rows_same (more_rows b fs r) n =
    ap (put_row b fs) (rows_same r (right (comes_first b fs r) _ (rows_rest b fs r n))) ∙ put_row_first b fs r (left _ _ (rows_rest b fs r n))

meet_no_rows : (r : Rows) → meet_rows r no_rows ≡ no_rows
meet_no_rows no_rows = refl
meet_no_rows (more_rows b fs r) = meet_no_rows r

-- ---- unions and meets

pub union_never : (t : Term) → is_normal t ≡ true → union t never ≡ t
union_never (term f r) n = λ i. term (either_no f (left _ _ n) i) (rows_same r (right (is_normal_free f) _ n) i)

pub never_union : (t : Term) → is_normal t ≡ true → union never t ≡ t
never_union (term f r) n = λ i. term (no_either f (left _ _ n) i) (rows_same r (right (is_normal_free f) _ n) i)

pub meet_never : (t : Term) → meet t never ≡ never
meet_never (term f r) = λ i. term (both_no f i) (meet_no_rows r i)

pub never_meet : (t : Term) → meet never t ≡ never
never_meet (term f r) = λ i. term (no_both f i) no_rows

pub plain_union : (t : Term) → is_plain t ≡ true → union t t ≡ t
plain_union (term f no_rows) p = λ i. term (either_self f p i) no_rows
plain_union (term f (more_rows false no_fields no_rows)) p = λ i. term (either_self f p i) any_table
plain_union (term f (more_rows true fs r)) p = cc
plain_union (term f (more_rows false (more_fields n t fs) r)) p = cc
plain_union (term f (more_rows false no_fields (more_rows b fs r))) p = cc

pub plain_meet : (t : Term) → is_plain t ≡ true → meet t t ≡ t
plain_meet (term f no_rows) p = λ i. term (both_self f p i) no_rows
plain_meet (term f (more_rows false no_fields no_rows)) p = λ i. term (both_self f p i) any_table
plain_meet (term f (more_rows true fs r)) p = cc
plain_meet (term f (more_rows false (more_fields n t fs) r)) p = cc
plain_meet (term f (more_rows false no_fields (more_rows b fs r))) p = cc

-- ---- what is cut

few_by : (b : Bool) (f : Free) → is_small (term f (if b then any_table else no_rows)) ≡ true
few_by true f = refl
few_by false f = refl

few_small : (t : Term) → is_small (few_values t) ≡ true
few_small (term f r) = few_by (has_any_table r) f

down_by : (b : Bool) (t : Term) → is_small t ≡ b → is_small (if b then t else few_values t) ≡ true
down_by true t e = e
down_by false t e = few_small t

down_small : (t : Term) → is_small (cut_down t) ≡ true
down_small t = down_by (is_small t) t refl

pub is_cut_normal : (t : Term) → is_cut t ≡ true → is_normal t ≡ true
is_cut_normal t c = left (is_normal t) (is_small t) c

pub is_cut_small : (t : Term) → is_cut t ≡ true → is_small t ≡ true
is_cut_small t c = right (is_normal t) (is_small t) c

pub cut_again : (t : Term) → is_cut t ≡ true → cut_down t ≡ t
cut_again t c = small_down t (is_cut_small t c)

pub down_cut : (t : Term) → is_normal t ≡ true → is_cut (cut_down t) ≡ true
down_cut t n = both (is_normal (cut_down t)) (is_small (cut_down t)) (cut_down_normal t n) (down_small t)

-- some of the rows of others
data Within : Rows → Rows → Type 0 where
  nothing : Within no_rows no_rows
  keeps : (b : Bool) (fs : Fields) {r s : Rows} → Within r s → Within (more_rows b fs r) (more_rows b fs s)
  drops : (b : Bool) (fs : Fields) {r s : Rows} → Within r s → Within r (more_rows b fs s)

within_by : (t : Bool) (b : Bool) (fs : Fields) (r s : Rows) → Within r s → Within (if t then more_rows b fs r else r) (more_rows b fs s)
within_by true b fs r s w = keeps b fs w
within_by false b fs r s w = drops b fs w

strip_within : (r : Rows) → Within (strip_rows r) r
strip_within no_rows = nothing
strip_within (more_rows b fs r) = within_by (heap_free_row b fs) b fs (strip_rows r) r (strip_within r)

strip_at_within : (name : List ℕ) (r : Rows) → Within (strip_rows_at name r) r
strip_at_within name no_rows = nothing
strip_at_within name (more_rows b fs r) = within_by (heap_free_row b fs || not (fields_list name fs)) b fs (strip_rows_at name r) r (strip_at_within name r)

depth_within : {r s : Rows} → Within r s → depth_of_rows r ≤ depth_of_rows s
depth_within nothing = omega arith
depth_within (keeps b fs w) = let h = depth_within w in omega (arith, h)
depth_within (drops b fs w) = let h = depth_within w in omega (arith, h)

count_within : {r s : Rows} → Within r s → count_rows r ≤ count_rows s
count_within nothing = omega arith
count_within (keeps b fs w) = let h = count_within w in omega (arith, h)
count_within (drops b fs w) = let h = count_within w in omega (arith, h)

few_within : {r s : Rows} → Within r s → rows_have_few 16 s ≡ true → rows_have_few 16 r ≡ true
few_within nothing e = refl
few_within (keeps b fs w) e = both (fields_have_few 16 fs) _ (left (fields_have_few 16 fs) _ e) (few_within w (right (fields_have_few 16 fs) _ e))
few_within (drops b fs w) e = few_within w (right (fields_have_few 16 fs) _ e)

small_within : (f : Free) (r s : Rows) → Within r s → is_small (term f s) ≡ true → is_small (term f r) ≡ true
small_within f r s w e =
    let few : nat_le (count_rows s) 16 && rows_have_few 16 s ≡ true = right (nat_le (depth_of_rows s) 8) _ e in
    let deep : depth_of_rows s ≤ 8 = leb-true (depth_of_rows s) 8 (left _ _ e) in
    let many : count_rows s ≤ 16 = leb-true (count_rows s) 16 (left _ _ few) in
    let d : depth_of_rows r ≤ depth_of_rows s = depth_within w in
    let c : count_rows r ≤ count_rows s = count_within w in
    both (nat_le (depth_of_rows r) 8) _ (le-leb (depth_of_rows r) 8 (omega (arith, d, deep)))
    (both (nat_le (count_rows r) 16) _ (le-leb (count_rows r) 16 (omega (arith, c, many))) (few_within w (right (nat_le (count_rows s) 16) _ few)))

strip_small : (t : Term) → is_small t ≡ true → is_small (strip t) ≡ true
strip_small (term f r) e = small_within f (strip_rows r) r (strip_within r) e

strip_at_small : (name : List ℕ) (t : Term) → is_small t ≡ true → is_small (strip_at name t) ≡ true
strip_at_small name (term f r) e = small_within f (strip_rows_at name r) r (strip_at_within name r) e

outside_small : (t : Term) → is_small (not_free t) ≡ true
outside_small (term f no_rows) = refl
outside_small (term f (more_rows b fs r)) = refl

-- what a step makes is cut
pub step_cut : (s : Step) (l r : Term) → takes s l ≡ true → takes s r ≡ true → is_cut (step_term s l r) ≡ true
step_cut Join l r p q = down_cut (union l r) (union_normal l r (is_cut_normal l p) (is_cut_normal r q))
step_cut Meet l r p q = down_cut (meet l r) (meet_normal l r (is_cut_normal l p) (is_cut_normal r q))
step_cut Strip l r p q = both (is_normal (strip l)) (is_small (strip l)) (strip_normal l (is_cut_normal l p)) (strip_small l (is_cut_small l p))
step_cut (StripAt name) l r p q =
    both (is_normal (strip_at name l)) (is_small (strip_at name l)) (strip_at_normal name l (is_cut_normal l p)) (strip_at_small name l (is_cut_small l p))
step_cut Complement l r p q = both (is_normal (not_free l)) (is_small (not_free l)) (not_free_normal l p) (outside_small l)

-- ---- what is seen without work

pub join_never : (l r : Term) → is_cut l ≡ true → is_empty r ≡ true → l ≡ step_term Join l r
join_never l r c e = sym (cut_again l c) ∙ ap cut_down (sym (union_never l (is_cut_normal l c))) ∙ ap (λ (t : Term). cut_down (union l t)) (sym (empty_is_never r e))

pub never_join : (l r : Term) → is_cut r ≡ true → is_empty l ≡ true → r ≡ step_term Join l r
never_join l r c e = sym (cut_again r c) ∙ ap cut_down (sym (never_union r (is_cut_normal r c))) ∙ ap (λ (t : Term). cut_down (union t r)) (sym (empty_is_never l e))

pub join_same : (t : Term) → is_cut t ≡ true → is_plain t ≡ true → t ≡ step_term Join t t
join_same t c p = sym (cut_again t c) ∙ ap cut_down (sym (plain_union t p))

pub meet_none : (l r : Term) → is_empty r ≡ true → r ≡ step_term Meet l r
meet_none l r e =
    empty_is_never r e ∙ ap cut_down (sym (meet_never l)) ∙ ap (λ (t : Term). cut_down (meet l t)) (sym (empty_is_never r e))

pub none_meet : (l r : Term) → is_empty l ≡ true → l ≡ step_term Meet l r
none_meet l r e =
    empty_is_never l e ∙ ap cut_down (sym (never_meet r)) ∙ ap (λ (t : Term). cut_down (meet t r)) (sym (empty_is_never l e))

pub meet_same : (t : Term) → is_cut t ≡ true → is_plain t ≡ true → t ≡ step_term Meet t t
meet_same t c p = sym (cut_again t c) ∙ ap cut_down (sym (plain_meet t p))
