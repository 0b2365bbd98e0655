-- Written types: to the normal form belongs what belongs to the written type.
use Rattle.std.proofs.Common.{◌≡◌, ℕ, Bool, true, false, not, List, refl, ap, ◌∙◌}
use Rattle.std.specs.Prelude.{◌||◌, ◌&&◌}
use Rattle.type_arena.specs.Term.{Function, Free, Term, term, Rows, no_rows, more_rows, no_fields, more_fields}
use Rattle.luau_values.specs.Value.{Value, Nil, Truth, Num, Str, Tab, Lit, Builtin, Other}
use Rattle.luau_values.specs.Heap.{Heap, is_frozen, field_of}
use Rattle.type_normal.specs.Free.{belongs, no_values, either_free}
use Rattle.type_normal.specs.Rows.{put_normal, put_rows, rows_in_order}
use Rattle.type_normal.specs.Holds.{holds, holds_rows, holds_fields}
use Rattle.type_normal.specs.Operations.{union, meet, not_free, is_flat}
use Rattle.type_normal.specs.Kinds.{nil_type, true_type, false_type, number_type, string_type, text_type, function_type, named_type, other_type, table_type}
use Rattle.type_normal.specs.TypeTerm.{TypeTerm, NeverTerm, UnknownTerm, NilTerm, TrueTerm, FalseTerm, NumberTerm, AnyStringTerm, StrTerm, FunctionTerm, NamedTerm, OtherTerm, TableTerm, PropsTerm, UnionTerm, MeetTerm, NotTerm, TypeTerms, no_terms, more_terms, Props, no_props, more_props, is_text, is_named, is_table_with, satisfies, some_satisfied, each_satisfied, all_satisfied, normal, normal_union, normal_meet, normal_fields, has_no_props, have_no_props, is_proper, are_proper, proper_props}
use Rattle.type_normal.proofs.MembersFacts.{or_false}
use Rattle.type_normal.proofs.HoldsFacts.{left, right, union_holds, meet_holds, not_free_holds, put_field_holds, put_normal_holds}
use Rattle.type_normal.proofs.FieldFacts.{unknown_all, never_none}

-- the kinds, value by value
leaf_nil_type : (h : Heap) (v : Value) → holds h v nil_type ≡ satisfies h v NilTerm
leaf_nil_type h Nil = refl
leaf_nil_type h (Truth true) = refl
leaf_nil_type h (Truth false) = refl
leaf_nil_type h (Num n) = refl
leaf_nil_type h (Str s) = refl
leaf_nil_type h (Tab a) = refl
leaf_nil_type h (Lit m n c) = refl
leaf_nil_type h (Builtin p) = refl
leaf_nil_type h (Other n) = refl

leaf_true_type : (h : Heap) (v : Value) → holds h v true_type ≡ satisfies h v TrueTerm
leaf_true_type h Nil = refl
leaf_true_type h (Truth true) = refl
leaf_true_type h (Truth false) = refl
leaf_true_type h (Num n) = refl
leaf_true_type h (Str s) = refl
leaf_true_type h (Tab a) = refl
leaf_true_type h (Lit m n c) = refl
leaf_true_type h (Builtin p) = refl
leaf_true_type h (Other n) = refl

leaf_false_type : (h : Heap) (v : Value) → holds h v false_type ≡ satisfies h v FalseTerm
leaf_false_type h Nil = refl
leaf_false_type h (Truth true) = refl
leaf_false_type h (Truth false) = refl
leaf_false_type h (Num n) = refl
leaf_false_type h (Str s) = refl
leaf_false_type h (Tab a) = refl
leaf_false_type h (Lit m n c) = refl
leaf_false_type h (Builtin p) = refl
leaf_false_type h (Other n) = refl

leaf_number_type : (h : Heap) (v : Value) → holds h v number_type ≡ satisfies h v NumberTerm
leaf_number_type h Nil = refl
leaf_number_type h (Truth true) = refl
leaf_number_type h (Truth false) = refl
leaf_number_type h (Num n) = refl
leaf_number_type h (Str s) = refl
leaf_number_type h (Tab a) = refl
leaf_number_type h (Lit m n c) = refl
leaf_number_type h (Builtin p) = refl
leaf_number_type h (Other n) = refl

leaf_string_type : (h : Heap) (v : Value) → holds h v string_type ≡ satisfies h v AnyStringTerm
leaf_string_type h Nil = refl
leaf_string_type h (Truth true) = refl
leaf_string_type h (Truth false) = refl
leaf_string_type h (Num n) = refl
leaf_string_type h (Str s) = refl
leaf_string_type h (Tab a) = refl
leaf_string_type h (Lit m n c) = refl
leaf_string_type h (Builtin p) = refl
leaf_string_type h (Other n) = refl

leaf_function_type : (h : Heap) (v : Value) → holds h v function_type ≡ satisfies h v FunctionTerm
leaf_function_type h Nil = refl
leaf_function_type h (Truth true) = refl
leaf_function_type h (Truth false) = refl
leaf_function_type h (Num n) = refl
leaf_function_type h (Str s) = refl
leaf_function_type h (Tab a) = refl
leaf_function_type h (Lit m n c) = refl
leaf_function_type h (Builtin p) = refl
leaf_function_type h (Other n) = refl

leaf_other_type : (h : Heap) (v : Value) → holds h v other_type ≡ satisfies h v OtherTerm
leaf_other_type h Nil = refl
leaf_other_type h (Truth true) = refl
leaf_other_type h (Truth false) = refl
leaf_other_type h (Num n) = refl
leaf_other_type h (Str s) = refl
leaf_other_type h (Tab a) = refl
leaf_other_type h (Lit m n c) = refl
leaf_other_type h (Builtin p) = refl
leaf_other_type h (Other n) = refl

leaf_table_type : (h : Heap) (v : Value) → holds h v table_type ≡ satisfies h v TableTerm
leaf_table_type h Nil = refl
leaf_table_type h (Truth true) = refl
leaf_table_type h (Truth false) = refl
leaf_table_type h (Num n) = refl
leaf_table_type h (Str s) = refl
leaf_table_type h (Tab a) = refl
leaf_table_type h (Lit m n c) = refl
leaf_table_type h (Builtin p) = refl
leaf_table_type h (Other n) = refl

leaf_text : (h : Heap) (v : Value) (b : List ℕ) → holds h v (text_type b) ≡ is_text b v
leaf_text h Nil b = refl
leaf_text h (Truth true) b = refl
leaf_text h (Truth false) b = refl
leaf_text h (Num n) b = refl
leaf_text h (Str s) b = or_false (is_text b (Str s))
leaf_text h (Tab a) b = refl
leaf_text h (Lit m n c) b = refl
leaf_text h (Builtin p) b = refl
leaf_text h (Other n) b = refl

leaf_named : (h : Heap) (v : Value) (f : Function) → holds h v (named_type f) ≡ is_named f v
leaf_named h Nil f = refl
leaf_named h (Truth true) f = refl
leaf_named h (Truth false) f = refl
leaf_named h (Num n) f = refl
leaf_named h (Str s) f = refl
leaf_named h (Tab a) f = refl
leaf_named h (Lit m n c) f = or_false (is_named f (Lit m n c))
leaf_named h (Builtin p) f = or_false (is_named f (Builtin p))
leaf_named h (Other n) f = refl

-- nothing but tables belongs to a row
row_by : (t u : ℕ → Bool) (v : Value) → ((a : ℕ) → t a ≡ u a) → belongs no_values t v ≡ is_table_with u v
row_by t u Nil e = refl
row_by t u (Truth true) e = refl
row_by t u (Truth false) e = refl
row_by t u (Num n) e = refl
row_by t u (Str s) e = refl
row_by t u (Tab a) e = e a
row_by t u (Lit m n c) e = refl
row_by t u (Builtin p) e = refl
row_by t u (Other n) e = refl

-- kinds stay flat
flat_put : (r s : Rows) (f : Free) → is_flat (term f r) ≡ true → is_flat (term f s) ≡ true → is_flat (term f (put_rows r (rows_in_order s))) ≡ true
flat_put no_rows no_rows f e k = refl
flat_put no_rows (more_rows false no_fields no_rows) f e k = refl
flat_put no_rows (more_rows false no_fields (more_rows b fs r)) f e k = cc
flat_put no_rows (more_rows false (more_fields p t fs) r) f e k = cc
flat_put no_rows (more_rows true fs r) f e k = cc
flat_put (more_rows false no_fields no_rows) no_rows f e k = refl
flat_put (more_rows false no_fields no_rows) (more_rows false no_fields no_rows) f e k = refl
flat_put (more_rows false no_fields no_rows) (more_rows false no_fields (more_rows b fs r)) f e k = cc
flat_put (more_rows false no_fields no_rows) (more_rows false (more_fields p t fs) r) f e k = cc
flat_put (more_rows false no_fields no_rows) (more_rows true fs r) f e k = cc
flat_put (more_rows false no_fields (more_rows b fs r)) s f e k = cc
flat_put (more_rows false (more_fields p t fs) r) s f e k = cc
flat_put (more_rows true fs r) s f e k = cc

flat_any : (f g : Free) (r : Rows) → is_flat (term f r) ≡ true → is_flat (term g r) ≡ true
flat_any f g no_rows e = refl
flat_any f g (more_rows false no_fields no_rows) e = refl
flat_any f g (more_rows false no_fields (more_rows b fs r)) e = cc
flat_any f g (more_rows false (more_fields p t fs) r) e = cc
flat_any f g (more_rows true fs r) e = cc

pub flat_union : (t u : Term) → is_flat t ≡ true → is_flat u ≡ true → is_flat (union t u) ≡ true
flat_union (term f r) (term g s) e k = flat_put r s (either_free f g) (flat_any f (either_free f g) r e) (flat_any g (either_free f g) s k)

pub flat_meet : (t u : Term) → is_flat t ≡ true → is_flat u ≡ true → is_flat (meet t u) ≡ true
flat_meet (term f no_rows) (term g s) e k = refl
flat_meet (term f (more_rows false no_fields no_rows)) (term g no_rows) e k = refl
flat_meet (term f (more_rows false no_fields no_rows)) (term g (more_rows false no_fields no_rows)) e k = refl
flat_meet (term f (more_rows false no_fields no_rows)) (term g (more_rows false no_fields (more_rows b fs r))) e k = cc
flat_meet (term f (more_rows false no_fields no_rows)) (term g (more_rows false (more_fields p t fs) r)) e k = cc
flat_meet (term f (more_rows false no_fields no_rows)) (term g (more_rows true fs r)) e k = cc
flat_meet (term f (more_rows false no_fields (more_rows b fs r))) u e k = cc
flat_meet (term f (more_rows false (more_fields p t fs) r)) u e k = cc
flat_meet (term f (more_rows true fs r)) u e k = cc

flat_not : (t : Term) → is_flat (not_free t) ≡ true
flat_not (term f no_rows) = refl
flat_not (term f (more_rows b fs r)) = refl

mutual
  flat_normal : (t : TypeTerm) → has_no_props t ≡ true → is_flat (normal t) ≡ true
  flat_normal NeverTerm e = refl
  flat_normal UnknownTerm e = refl
  flat_normal NilTerm e = refl
  flat_normal TrueTerm e = refl
  flat_normal FalseTerm e = refl
  flat_normal NumberTerm e = refl
  flat_normal AnyStringTerm e = refl
  flat_normal (StrTerm b) e = refl
  flat_normal FunctionTerm e = refl
  flat_normal (NamedTerm f) e = refl
  flat_normal OtherTerm e = refl
  flat_normal TableTerm e = refl
  flat_normal (PropsTerm b ps) e = cc
  flat_normal (UnionTerm ts) e = flat_unions ts e
  flat_normal (MeetTerm ts) e = flat_meets ts e
  flat_normal (NotTerm t) e = flat_not (normal t)

  flat_unions : (ts : TypeTerms) → have_no_props ts ≡ true → is_flat (normal_union ts) ≡ true
  flat_unions no_terms e = refl
  flat_unions (more_terms t ts) e =
      flat_union (normal t) (normal_union ts) (flat_normal t (left (has_no_props t) (have_no_props ts) e)) (flat_unions ts (right (has_no_props t) (have_no_props ts) e))

  flat_meets : (ts : TypeTerms) → have_no_props ts ≡ true → is_flat (normal_meet ts) ≡ true
  flat_meets no_terms e = refl
  flat_meets (more_terms t ts) e =
      flat_meet (normal t) (normal_meet ts) (flat_normal t (left (has_no_props t) (have_no_props ts) e)) (flat_meets ts (right (has_no_props t) (have_no_props ts) e))

mutual
  pub normal_holds : (h : Heap) (v : Value) (t : TypeTerm) → is_proper t ≡ true → holds h v (normal t) ≡ satisfies h v t
  normal_holds h v NeverTerm e = never_none h v
  normal_holds h v UnknownTerm e = unknown_all h v
  normal_holds h v NilTerm e = leaf_nil_type h v
  normal_holds h v TrueTerm e = leaf_true_type h v
  normal_holds h v FalseTerm e = leaf_false_type h v
  normal_holds h v NumberTerm e = leaf_number_type h v
  normal_holds h v AnyStringTerm e = leaf_string_type h v
  normal_holds h v FunctionTerm e = leaf_function_type h v
  normal_holds h v OtherTerm e = leaf_other_type h v
  normal_holds h v TableTerm e = leaf_table_type h v
  normal_holds h v (StrTerm b) e = leaf_text h v b
  normal_holds h v (NamedTerm f) e = leaf_named h v f
  normal_holds h v (PropsTerm b ps) e =
      row_by (λ a. holds_rows h a (put_normal b (normal_fields ps) no_rows)) (λ a. (not b || is_frozen h a) && all_satisfied h a ps) v
      (λ a. put_normal_holds h a b (normal_fields ps) no_rows ∙ or_false ((not b || is_frozen h a) && holds_fields h a (normal_fields ps))
      ∙ ap (λ (x : Bool). (not b || is_frozen h a) && x) (fields_hold h a ps e))
  normal_holds h v (UnionTerm ts) e = unions_hold h v ts e
  normal_holds h v (MeetTerm ts) e = meets_hold h v ts e
  normal_holds h v (NotTerm t) e =
      not_free_holds h v (normal t) (flat_normal t (left (has_no_props t) (is_proper t) e)) ∙ ap not (normal_holds h v t (right (has_no_props t) (is_proper t) e))

  unions_hold : (h : Heap) (v : Value) (ts : TypeTerms) → are_proper ts ≡ true → holds h v (normal_union ts) ≡ some_satisfied h v ts
  unions_hold h v no_terms e = never_none h v
  unions_hold h v (more_terms t ts) e =
      let first = normal_holds h v t (left (is_proper t) (are_proper ts) e) in
      let rest = unions_hold h v ts (right (is_proper t) (are_proper ts) e) in
      union_holds h v (normal t) (normal_union ts) ∙ rw (first, rest) refl

  meets_hold : (h : Heap) (v : Value) (ts : TypeTerms) → are_proper ts ≡ true → holds h v (normal_meet ts) ≡ each_satisfied h v ts
  meets_hold h v no_terms e = unknown_all h v
  meets_hold h v (more_terms t ts) e =
      let first = normal_holds h v t (left (is_proper t) (are_proper ts) e) in
      let rest = meets_hold h v ts (right (is_proper t) (are_proper ts) e) in
      meet_holds h v (normal t) (normal_meet ts) ∙ rw (first, rest) refl

  fields_hold : (h : Heap) (a : ℕ) (ps : Props) → proper_props ps ≡ true → holds_fields h a (normal_fields ps) ≡ all_satisfied h a ps
  fields_hold h a no_props e = refl
  fields_hold h a (more_props p t ps) e =
      let first = normal_holds h (field_of h a p) t (left (is_proper t) (proper_props ps) e) in
      let rest = fields_hold h a ps (right (is_proper t) (proper_props ps) e) in
      put_field_holds h a p (normal t) (meet (normal t)) (normal_fields ps) (λ x. meet_holds h (field_of h a p) (normal t) x) ∙ rw (first, rest) refl
