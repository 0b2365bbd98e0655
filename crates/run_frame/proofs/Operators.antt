-- Operators: what they give, and on which values they fail for certain.
use Rattle.std.proofs.Common.{◌≡◌, ℕ, Bool, true, false, not, ◌==◌, ◌&&◌, if◌then◌else◌, List, refl, sym, subst}
use Rattle.std.specs.Bool.{beq}
use Rattle.std.specs.Str.{bytes_eq}
use Rattle.luau_values.specs.Value.{Value, Nil, Truth, Num, Str, Tab, Lit, Builtin, Other}
use Rattle.luau_values.specs.Heap.{Heap}
use Rattle.luau_values.specs.Stands.{Stands}
use Rattle.luau_tree.specs.declared.names.UnOp.{UnOp}
use Rattle.luau_tree.specs.declared.names.UnOp.TheVariants.{Minus, Not, Length}
use Rattle.luau_tree.specs.declared.names.BinOp.{BinOp}
use Rattle.luau_tree.specs.declared.names.BinOp.TheVariants.{Or, And, Less, Greater, LessEqual, GreaterEqual, NotEqual, Equal, Concat}
use Rattle.luau_run.specs.Program.{Program}
use Rattle.luau_run.specs.Machine.{Answer, One, Fail, Fits, Store, State, Ran, Gave, ◌>>=◌, give, fail, look, ask}
use Rattle.luau_run.specs.Answers.{value_or_fail, a_number, number_or_fail, a_string, a_truth, truth_or_fail}
use Rattle.luau_run.specs.Operators.{is_true, Sort, NumberSort, StringSort, OtherSort, WrongSort, sort, anything, arithmetic_of, joined, ordered, equal, binary, negated, length_of, unary}
use Rattle.type_arena.specs.Term.{Term, never}
use Rattle.type_normal.specs.Holds.{holds}
use Rattle.type_normal.specs.Kinds.{boolean_type, number_type, string_type}
use Rattle.type_normal.specs.Failing.{arith_fail, length_fail, order_fail_with_number, order_fail_with_string}
use Rattle.type_normal.proofs.Public.{never_none, unknown_all}
use Rattle.subtype_check.specs.Below.{below}
use Rattle.subtype_check.proofs.Public.{below_includes}
use Rattle.report_rules.specs.Forward.{not_other, if_known, unary_type, both_known, binary_type}
use Rattle.report_rules.specs.Checks.{arithmetic_set, order_set, operand_set, unary_set}
use Rattle.run_frame.specs.Analysis.{Analysis}
use Rattle.run_frame.proofs.World.{World}
use Rattle.run_frame.proofs.Kept.{Doer}
use Rattle.run_frame.proofs.Fine.{Fine}
use Rattle.run_frame.proofs.Parts.{Ends, Same, Says, ends_so, ends_then, ends_give, ends_fail, ends_ask, gave_not_failed}
use Rattle.run_frame.proofs.Names.{value_stands}

-- ---- sorts and types

-- whether a sort is of no kind
abbrev pub is_other : Sort → Bool
is_other OtherSort = true
is_other _ = false

-- what is of no other kind
known_sort : (h : Heap) (v : Value) → holds h v not_other ≡ true → is_other (sort v) ≡ false
known_sort h Nil e = refl
known_sort h (Truth truth) e = refl
known_sort h (Num text) e = refl
known_sort h (Str bytes) e = refl
known_sort h (Tab address) e = refl
known_sort h (Lit home function cells) e = refl
known_sort h (Builtin path) e = refl
known_sort h (Other number) e = cc

pub known_below : (h : Heap) (v : Value) (type : Term) → holds h v type ≡ true → below type not_other ≡ true → is_other (sort v) ≡ false
known_below h v type e k = known_sort h v (below_includes h v type not_other k e)

wrong_sort : (h : Heap) (v : Value) → holds h v arith_fail ≡ true → sort v ≡ WrongSort
wrong_sort h Nil e = refl
wrong_sort h (Truth truth) e = refl
wrong_sort h (Num text) e = cc
wrong_sort h (Str bytes) e = cc
wrong_sort h (Tab address) e = refl
wrong_sort h (Lit home function cells) e = refl
wrong_sort h (Builtin path) e = refl
wrong_sort h (Other number) e = cc

-- no order with a number, and none with a string
abbrev IsUnorderedWithNumber : Sort → Type 0
IsUnorderedWithNumber WrongSort = Unit {0}
IsUnorderedWithNumber StringSort = Unit {0}
IsUnorderedWithNumber _ = ⊥

abbrev IsUnorderedWithString : Sort → Type 0
IsUnorderedWithString WrongSort = Unit {0}
IsUnorderedWithString NumberSort = Unit {0}
IsUnorderedWithString _ = ⊥

no_order_number : (h : Heap) (v : Value) → holds h v order_fail_with_number ≡ true → IsUnorderedWithNumber (sort v)
no_order_number h Nil e = tt
no_order_number h (Truth truth) e = tt
no_order_number h (Num text) e = cc
no_order_number h (Str bytes) e = tt
no_order_number h (Tab address) e = tt
no_order_number h (Lit home function cells) e = tt
no_order_number h (Builtin path) e = tt
no_order_number h (Other number) e = cc

no_order_string : (h : Heap) (v : Value) → holds h v order_fail_with_string ≡ true → IsUnorderedWithString (sort v)
no_order_string h Nil e = tt
no_order_string h (Truth truth) e = tt
no_order_string h (Num text) e = tt
no_order_string h (Str bytes) e = cc
no_order_string h (Tab address) e = tt
no_order_string h (Lit home function cells) e = tt
no_order_string h (Builtin path) e = tt
no_order_string h (Other number) e = cc

number_sort : (h : Heap) (v : Value) → holds h v number_type ≡ true → sort v ≡ NumberSort
number_sort h Nil e = cc
number_sort h (Truth true) e = cc
number_sort h (Truth false) e = cc
number_sort h (Num text) e = refl
number_sort h (Str bytes) e = cc
number_sort h (Tab address) e = cc
number_sort h (Lit home function cells) e = cc
number_sort h (Builtin path) e = cc
number_sort h (Other number) e = cc

string_sort : (h : Heap) (v : Value) → holds h v string_type ≡ true → sort v ≡ StringSort
string_sort h Nil e = cc
string_sort h (Truth true) e = cc
string_sort h (Truth false) e = cc
string_sort h (Num text) e = cc
string_sort h (Str bytes) e = refl
string_sort h (Tab address) e = cc
string_sort h (Lit home function cells) e = cc
string_sort h (Builtin path) e = cc
string_sort h (Other number) e = cc

-- ---- what an operation gives

-- a value that stands, of a type in every heap where this is sure
abbrev pub OpGives : State → (sure : Bool) → Term → Value → State → Type 0
OpGives s sure type v t = Same s t × Stands s.store.heap v × (sure ≡ true → (h : Heap) → holds h v type ≡ true)

-- answers
value_or_fail_stands : (program : Program) (store : Store) (answer : Answer) (v : Value) → value_or_fail program store answer ≡ Fits v → Stands store.heap v
value_or_fail_stands program store (One u) v e = value_stands program store (One u) v e
value_or_fail_stands program store _ v e = cc

a_number_fits : (answer : Answer) (v : Value) → a_number answer ≡ Fits v → (text : List ℕ) × (v ≡ Num text)
a_number_fits (One (Num text)) v e = (text, sym (same e))
  where
    same : Fits (Num text) ≡ Fits v → Num text ≡ v
    same k = cc
a_number_fits _ v e = cc

number_fits : (may_fail : Bool) (answer : Answer) (v : Value) → number_or_fail may_fail answer ≡ Fits v → (text : List ℕ) × (v ≡ Num text)
number_fits true Fail v e = cc
number_fits true (One u) v e = a_number_fits (One u) v e
number_fits true _ v e = cc
number_fits false answer v e = a_number_fits answer v e

string_fits : (answer : Answer) (v : Value) → a_string answer ≡ Fits v → (bytes : List ℕ) × (v ≡ Str bytes)
string_fits (One (Str bytes)) v e = (bytes, sym (same e))
  where
    same : Fits (Str bytes) ≡ Fits v → Str bytes ≡ v
    same k = cc
string_fits _ v e = cc

number_gives : (s : State) (v : Value) → (text : List ℕ) × (v ≡ Num text) → Stands s.store.heap v × ((h : Heap) → holds h v number_type ≡ true)
number_gives s v p = (subst (λ (x : Value). Stands s.store.heap x) (sym p.1) tt, λ h. subst (λ (x : Value). holds h x number_type ≡ true) (sym p.1) refl)

string_gives : (s : State) (v : Value) → (bytes : List ℕ) × (v ≡ Str bytes) → Stands s.store.heap v × ((h : Heap) → holds h v string_type ≡ true)
string_gives s v p = (subst (λ (x : Value). Stands s.store.heap x) (sym p.1) tt, λ h. subst (λ (x : Value). holds h x string_type ≡ true) (sym p.1) refl)

truth_holds : (h : Heap) (b : Bool) → holds h (Truth b) boolean_type ≡ true
truth_holds h true = refl
truth_holds h false = refl

module _ (an : Analysis) (who : Doer) (w : World) (s : State) (f : Fine an w s) where
  pub ends_anything : (type : Term) → Ends an who w s (OpGives s false type) (anything an.program s)
  unfolding anything ◌>>=◌ look
  ends_anything type = ends_so an who w s (λ v t. Same s t × Says (value_or_fail an.program s.store) v) (OpGives s false type) (ask (value_or_fail an.program s.store) s)
      (λ v t z e g k p. (p.0, value_or_fail_stands an.program s.store p.1.0 v p.1.1, λ n. absurd (clash n)))
      (ends_ask an who w s (value_or_fail an.program s.store) f)
    where
      clash : false ≡ true → ⊥
      clash z = cc

  ends_number : (may_fail : Bool) → Ends an who w s (OpGives s true number_type) (ask (number_or_fail may_fail) s)
  ends_number may_fail = ends_so an who w s (λ v t. Same s t × Says (number_or_fail may_fail) v) (OpGives s true number_type) (ask (number_or_fail may_fail) s)
      (λ v t z e g k p. by_number v t p.0 (number_fits may_fail p.1.0 v p.1.1)) (ends_ask an who w s (number_or_fail may_fail) f)
    where
      by_number : (v : Value) (t : State) → Same s t → (text : List ℕ) × (v ≡ Num text) → OpGives s true number_type v t
      by_number v t same p = (same, (number_gives s v p).0, λ n. (number_gives s v p).1)

  ends_a_number : Ends an who w s (OpGives s true number_type) (ask a_number s)
  ends_a_number = ends_so an who w s (λ v t. Same s t × Says a_number v) (OpGives s true number_type) (ask a_number s)
      (λ v t z e g k p. by_number v t p.0 (a_number_fits p.1.0 v p.1.1)) (ends_ask an who w s a_number f)
    where
      by_number : (v : Value) (t : State) → Same s t → (text : List ℕ) × (v ≡ Num text) → OpGives s true number_type v t
      by_number v t same p = (same, (number_gives s v p).0, λ n. (number_gives s v p).1)

  pub ends_string : Ends an who w s (OpGives s true string_type) (ask a_string s)
  ends_string = ends_so an who w s (λ v t. Same s t × Says a_string v) (OpGives s true string_type) (ask a_string s)
      (λ v t z e g k p. by_string v t p.0 (string_fits p.1.0 v p.1.1)) (ends_ask an who w s a_string f)
    where
      by_string : (v : Value) (t : State) → Same s t → (bytes : List ℕ) × (v ≡ Str bytes) → OpGives s true string_type v t
      by_string v t same p = (same, (string_gives s v p).0, λ n. (string_gives s v p).1)

  ends_failed : (sure : Bool) (type : Term) → Ends an who w s (OpGives s sure type) (fail s)
  unfolding fail
  ends_failed sure type = ends_fail an who w s s (OpGives s sure type) f (refl, refl)

  -- a truth
  ends_truth : (t : State) (v : World) (b : Bool) → Fine an v t → Same s t → Ends an who v t (OpGives s true boolean_type) (give (Truth b) t)
  ends_truth t v b g same = ends_give an who v t (OpGives s true boolean_type) (Truth b) g (same, tt, λ n h. truth_holds h b)

  ends_asked_truth : (reply : _) → Ends an who w s (OpGives s true boolean_type) (◌>>=◌ (ask reply) (λ truth. give (Truth truth)) s)
  unfolding ◌>>=◌
  ends_asked_truth reply = ends_then an who w s (λ x t. Same s t × Says reply x) (OpGives s true boolean_type) (ask reply s) (λ truth. give (Truth truth)) (ends_ask an who w s reply f)
      (λ b t v g k p. ends_truth t v b g p.0)

  -- whether two sorts are of kinds
  abbrev pub both_sure : Sort → Sort → Bool
  both_sure a b = not (is_other a) && not (is_other b)

  ends_arithmetic : (a b : Sort) → Ends an who w s (OpGives s (both_sure a b) number_type) (arithmetic_of an.program a b s)
  ends_arithmetic OtherSort b = ends_anything number_type
  ends_arithmetic NumberSort OtherSort = ends_anything number_type
  ends_arithmetic StringSort OtherSort = ends_anything number_type
  ends_arithmetic WrongSort OtherSort = ends_anything number_type
  ends_arithmetic NumberSort NumberSort = ends_number false
  ends_arithmetic NumberSort StringSort = ends_number true
  ends_arithmetic StringSort NumberSort = ends_number true
  ends_arithmetic StringSort StringSort = ends_number true
  ends_arithmetic NumberSort WrongSort = ends_failed true number_type
  ends_arithmetic StringSort WrongSort = ends_failed true number_type
  ends_arithmetic WrongSort NumberSort = ends_failed true number_type
  ends_arithmetic WrongSort StringSort = ends_failed true number_type
  ends_arithmetic WrongSort WrongSort = ends_failed true number_type

  ends_joined : (a b : Sort) → Ends an who w s (OpGives s (both_sure a b) string_type) (joined an.program a b s)
  ends_joined OtherSort b = ends_anything string_type
  ends_joined NumberSort OtherSort = ends_anything string_type
  ends_joined StringSort OtherSort = ends_anything string_type
  ends_joined WrongSort OtherSort = ends_anything string_type
  ends_joined WrongSort NumberSort = ends_failed true string_type
  ends_joined WrongSort StringSort = ends_failed true string_type
  ends_joined WrongSort WrongSort = ends_failed true string_type
  ends_joined NumberSort WrongSort = ends_failed true string_type
  ends_joined StringSort WrongSort = ends_failed true string_type
  ends_joined NumberSort NumberSort = ends_string
  ends_joined NumberSort StringSort = ends_string
  ends_joined StringSort NumberSort = ends_string
  ends_joined StringSort StringSort = ends_string

  ends_ordered : (a b : Sort) → Ends an who w s (OpGives s true boolean_type) (ordered a b s)
  ends_ordered OtherSort b = ends_asked_truth truth_or_fail
  ends_ordered NumberSort OtherSort = ends_asked_truth truth_or_fail
  ends_ordered StringSort OtherSort = ends_asked_truth truth_or_fail
  ends_ordered WrongSort OtherSort = ends_asked_truth truth_or_fail
  ends_ordered NumberSort NumberSort = ends_asked_truth a_truth
  ends_ordered StringSort StringSort = ends_asked_truth a_truth
  ends_ordered NumberSort StringSort = ends_failed true boolean_type
  ends_ordered NumberSort WrongSort = ends_failed true boolean_type
  ends_ordered StringSort NumberSort = ends_failed true boolean_type
  ends_ordered StringSort WrongSort = ends_failed true boolean_type
  ends_ordered WrongSort NumberSort = ends_failed true boolean_type
  ends_ordered WrongSort StringSort = ends_failed true boolean_type
  ends_ordered WrongSort WrongSort = ends_failed true boolean_type

  ends_negated : (a : Sort) → Ends an who w s (OpGives s (not (is_other a)) number_type) (negated an.program a s)
  ends_negated NumberSort = ends_number false
  ends_negated StringSort = ends_number true
  ends_negated OtherSort = ends_anything number_type
  ends_negated WrongSort = ends_failed true number_type

  ends_length : (a : Value) → Ends an who w s (OpGives s (not (is_other (sort a))) number_type) (length_of an.program a s)
  ends_length (Str bytes) = ends_a_number
  ends_length (Tab address) = ends_a_number
  ends_length (Other number) = ends_anything number_type
  ends_length Nil = ends_failed true number_type
  ends_length (Truth truth) = ends_failed true number_type
  ends_length (Num text) = ends_failed true number_type
  ends_length (Lit home function cells) = ends_failed true number_type
  ends_length (Builtin path) = ends_failed true number_type

-- ---- equality

-- what a test of equality may say: of two numbers, of two values of no kind, and of two functions or tables, either; else what the
-- values are
abbrev pub IsEqual : Value → Value → Bool → Type 0
IsEqual (Num a) (Num b) same = Unit {0}
IsEqual (Other a) (Other b) same = Unit {0}
IsEqual (Lit home function cells) (Lit h f c) same = Unit {0}
IsEqual Nil Nil same = same ≡ true
IsEqual (Truth a) (Truth b) same = same ≡ beq a b
IsEqual (Str a) (Str b) same = same ≡ bytes_eq a b
IsEqual (Tab a) (Tab b) same = Unit {0}
IsEqual (Builtin a) (Builtin b) same = Unit {0}
IsEqual _ _ same = same ≡ false

-- what an equality shows of its operands
abbrev pub ShowsEqual : BinOp → Value → Value → Value → Type 0
ShowsEqual Equal a b v = (same : Bool) × (v ≡ Truth same) × IsEqual a b same
ShowsEqual NotEqual a b v = (same : Bool) × (v ≡ Truth (not same)) × IsEqual a b same
ShowsEqual op a b v = Unit {0}

-- the type of a binary operation's result, and whether it is sure
abbrev pub result_type : BinOp → Term
result_type Equal = boolean_type
result_type NotEqual = boolean_type
result_type Less = boolean_type
result_type Greater = boolean_type
result_type LessEqual = boolean_type
result_type GreaterEqual = boolean_type
result_type Concat = string_type
result_type op = number_type

abbrev pub is_sure : BinOp → Sort → Sort → Bool
is_sure Equal a b = true
is_sure NotEqual a b = true
is_sure Less a b = true
is_sure Greater a b = true
is_sure LessEqual a b = true
is_sure GreaterEqual a b = true
is_sure op a b = not (is_other a) && not (is_other b)

abbrev pub BinGives : State → BinOp → Value → Value → Value → State → Type 0
BinGives s op a b v t = OpGives s (is_sure op (sort a) (sort b)) (result_type op) v t × ShowsEqual op a b v

abbrev pub unary_sure : UnOp → Sort → Bool
unary_sure Not a = true
unary_sure op a = not (is_other a)

abbrev pub unary_result : UnOp → Term
unary_result Not = boolean_type
unary_result op = number_type

-- `not` gives the opposite of what its operand counts as
abbrev pub ShowsNot : UnOp → Value → Value → Type 0
ShowsNot Not a v = v ≡ Truth (not (is_true a))
ShowsNot op a v = Unit {0}

abbrev pub UnGives : State → UnOp → Value → Value → State → Type 0
UnGives s op a v t = OpGives s (unary_sure op (sort a)) (unary_result op) v t × ShowsNot op a v

module _ (an : Analysis) (who : Doer) (w : World) (s : State) (f : Fine an w s) where
  ends_free : (P : Bool → Type 0) → ((b : Bool) → P b) → Ends an who w s (λ b t. Same s t × P b) (ask a_truth s)
  ends_free P h = ends_so an who w s (λ b t. Same s t × Says a_truth b) (λ b t. Same s t × P b) (ask a_truth s) (λ b t z e g k p. (p.0, h b)) (ends_ask an who w s a_truth f)

  ends_one_truth : (P : Bool → Type 0) (b : Bool) → P b → Ends an who w s (λ b t. Same s t × P b) (give b s)
  ends_one_truth P b h = ends_give an who w s (λ b t. Same s t × P b) b f ((refl, refl), h)

  ends_literals : (p : Bool) → Ends an who w s (λ b t. Same s t × Unit {0}) ((if p then ask a_truth else give false) s)
  ends_literals true = ends_free (λ b. Unit {0}) (λ b. tt)
  ends_literals false = ends_one_truth (λ b. Unit {0}) false tt

  pub ends_equal : (a b : Value) → Ends an who w s (λ same t. Same s t × IsEqual a b same) (equal a b s)
  ends_equal (Num a) (Num b) = ends_free (λ b. Unit {0}) (λ b. tt)
  ends_equal (Other a) (Other b) = ends_free (λ b. Unit {0}) (λ b. tt)
  ends_equal (Lit home function cells) (Lit h f c) = ends_literals ((home == h) && (function == f))
  ends_equal Nil Nil = ends_one_truth (λ same. same ≡ true) true refl
  ends_equal (Truth a) (Truth b) = ends_one_truth (λ same. same ≡ beq a b) (beq a b) refl
  ends_equal (Str a) (Str b) = ends_one_truth (λ same. same ≡ bytes_eq a b) (bytes_eq a b) refl
  ends_equal (Tab a) (Tab b) = ends_one_truth (λ same. Unit {0}) (a == b) tt
  ends_equal (Builtin a) (Builtin b) = ends_one_truth (λ same. Unit {0}) (bytes_eq a b) tt
  ends_equal _ _ = ends_one_truth (λ same. same ≡ false) false refl

  -- ---- binary operations

  with_none : (op : BinOp) (a b : Value) (part : Ran Value) (type : Term) (sure : Bool) → ((v : Value) → ShowsEqual op a b v) → Ends an who w s (OpGives s sure type) part
      → Ends an who w s (λ v t. OpGives s sure type v t × ShowsEqual op a b v) part
  with_none op a b part type sure none h = ends_so an who w s (OpGives s sure type) (λ v t. OpGives s sure type v t × ShowsEqual op a b v) part (λ v t z e g k p. (p, none v)) h

  pub ends_binary : (op : BinOp) (a b : Value) → Ends an who w s (BinGives s op a b) (binary an.program op a b s)
  unfolding ◌>>=◌
  ends_binary Equal a b = ends_then an who w s (λ same t. Same s t × IsEqual a b same) (BinGives s Equal a b) (equal a b s) (λ same. give (Truth same)) (ends_equal a b)
      (λ same t v g k p. ends_give an who v t (BinGives s Equal a b) (Truth same) g ((p.0, tt, λ n h. truth_holds h same), (same, refl, p.1)))
  ends_binary NotEqual a b = ends_then an who w s (λ same t. Same s t × IsEqual a b same) (BinGives s NotEqual a b) (equal a b s) (λ same. give (Truth (not same))) (ends_equal a b)
      (λ same t v g k p. ends_give an who v t (BinGives s NotEqual a b) (Truth (not same)) g ((p.0, tt, λ n h. truth_holds h (not same)), (same, refl, p.1)))
  ends_binary Concat a b = with_none Concat a b (joined an.program (sort a) (sort b) s) string_type (not (is_other (sort a)) && not (is_other (sort b))) (λ v. tt)
      (ends_joined an who w s f (sort a) (sort b))
  ends_binary Less a b = with_none Less a b (ordered (sort a) (sort b) s) boolean_type true (λ v. tt) (ends_ordered an who w s f (sort a) (sort b))
  ends_binary Greater a b = with_none Greater a b (ordered (sort a) (sort b) s) boolean_type true (λ v. tt) (ends_ordered an who w s f (sort a) (sort b))
  ends_binary LessEqual a b = with_none LessEqual a b (ordered (sort a) (sort b) s) boolean_type true (λ v. tt) (ends_ordered an who w s f (sort a) (sort b))
  ends_binary GreaterEqual a b = with_none GreaterEqual a b (ordered (sort a) (sort b) s) boolean_type true (λ v. tt) (ends_ordered an who w s f (sort a) (sort b))
  ends_binary op a b = with_none op a b (arithmetic_of an.program (sort a) (sort b) s) number_type (not (is_other (sort a)) && not (is_other (sort b))) (λ v. tt)
      (ends_arithmetic an who w s f (sort a) (sort b))

  pub ends_unary : (op : UnOp) (a : Value) → Ends an who w s (UnGives s op a) (unary an.program op a s)
  ends_unary Not a = ends_give an who w s (UnGives s Not a) (Truth (not (is_true a))) f (((refl, refl), tt, λ n h. truth_holds h (not (is_true a))), refl)
  ends_unary Minus a = ends_so an who w s (OpGives s (not (is_other (sort a))) number_type) (UnGives s Minus a) (negated an.program (sort a) s) (λ v t z e g k p. (p, tt))
      (ends_negated an who w s f (sort a))
  ends_unary Length a = ends_so an who w s (OpGives s (not (is_other (sort a))) number_type) (UnGives s Length a) (length_of an.program a s) (λ v t z e g k p. (p, tt))
      (ends_length an who w s f a)

-- ---- the type of a result

known_or : (test sure : Bool) (h : Heap) (v : Value) (type : Term) → (test ≡ true → sure ≡ true) → (sure ≡ true → holds h v type ≡ true) → holds h v (if_known test type) ≡ true
known_or true sure h v type k g = g (k refl)
known_or false sure h v type k g = unknown_all h v

not_other_so : (b : Bool) → b ≡ false → not b ≡ true
not_other_so true e = cc
not_other_so false e = refl

both_so : (a b : Bool) → a ≡ true → b ≡ true → a && b ≡ true
both_so true b e k = k
both_so false b e k = cc

-- both operands are of kinds where their types say so
both_known_sure : (a b : Value) (left right : Term) (k h : Heap) → holds k a left ≡ true → holds h b right ≡ true → both_known left right ≡ true
    → not (is_other (sort a)) && not (is_other (sort b)) ≡ true
both_known_sure a b left right k h in_left in_right e = by_tests (below left not_other) (below right not_other) refl refl e
  where
    by_tests : (p q : Bool) → below left not_other ≡ p → below right not_other ≡ q → (if p then q else false) ≡ true → not (is_other (sort a)) && not (is_other (sort b)) ≡ true
    by_tests true true p q z = both_so (not (is_other (sort a))) (not (is_other (sort b))) (not_other_so (is_other (sort a)) (known_below k a left in_left p))
        (not_other_so (is_other (sort b)) (known_below h b right in_right q))
    by_tests true false p q z = cc
    by_tests false q' p q z = cc

pub binary_typed : (op : BinOp) (a b v : Value) (left right : Term) (k h g : Heap) → holds k a left ≡ true → holds h b right ≡ true
    → (is_sure op (sort a) (sort b) ≡ true → holds g v (result_type op) ≡ true) → holds g v (binary_type op left right) ≡ true
binary_typed Equal a b v left right k h g in_left in_right so = so refl
binary_typed NotEqual a b v left right k h g in_left in_right so = so refl
binary_typed Less a b v left right k h g in_left in_right so = so refl
binary_typed Greater a b v left right k h g in_left in_right so = so refl
binary_typed LessEqual a b v left right k h g in_left in_right so = so refl
binary_typed GreaterEqual a b v left right k h g in_left in_right so = so refl
binary_typed Concat a b v left right k h g in_left in_right so =
    known_or (both_known left right) (not (is_other (sort a)) && not (is_other (sort b))) g v string_type (both_known_sure a b left right k h in_left in_right) so
binary_typed op a b v left right k h g in_left in_right so =
    known_or (both_known left right) (not (is_other (sort a)) && not (is_other (sort b))) g v number_type (both_known_sure a b left right k h in_left in_right) so

pub unary_typed : (op : UnOp) (a v : Value) (operand : Term) (k g : Heap) → holds k a operand ≡ true
    → (unary_sure op (sort a) ≡ true → holds g v (unary_result op) ≡ true) → holds g v (unary_type op operand) ≡ true
unary_typed Not a v operand k g in_operand so = so refl
unary_typed Minus a v operand k g in_operand so = known_or (below operand not_other) (not (is_other (sort a))) g v number_type
    (λ e. not_other_so (is_other (sort a)) (known_below k a operand in_operand e)) so
unary_typed Length a v operand k g in_operand so = known_or (below operand not_other) (not (is_other (sort a))) g v number_type
    (λ e. not_other_so (is_other (sort a)) (known_below k a operand in_operand e)) so

-- ---- operands that fail

in_never : (h : Heap) (v : Value) (P : Type 0) → holds h v never ≡ true → P
in_never h v P e = absurd (clash (holds h v never) e (never_none h v))
  where
    clash : (b : Bool) → b ≡ true → b ≡ false → ⊥
    clash b p q = cc

arithmetic_left : (program : Program) (a b : Sort) (s : State) (v : Value) (u : State) → a ≡ WrongSort → is_other b ≡ false → arithmetic_of program a b s ≡ Gave v u → ⊥
unfolding fail
arithmetic_left program WrongSort NumberSort s v u k e q = gave_not_failed s u v q
arithmetic_left program WrongSort StringSort s v u k e q = gave_not_failed s u v q
arithmetic_left program WrongSort WrongSort s v u k e q = gave_not_failed s u v q
arithmetic_left program WrongSort OtherSort s v u k e q = cc
arithmetic_left program NumberSort b s v u k e q = cc
arithmetic_left program StringSort b s v u k e q = cc
arithmetic_left program OtherSort b s v u k e q = cc

arithmetic_right : (program : Program) (a b : Sort) (s : State) (v : Value) (u : State) → is_other a ≡ false → b ≡ WrongSort → arithmetic_of program a b s ≡ Gave v u → ⊥
unfolding fail
arithmetic_right program NumberSort WrongSort s v u k e q = gave_not_failed s u v q
arithmetic_right program StringSort WrongSort s v u k e q = gave_not_failed s u v q
arithmetic_right program WrongSort WrongSort s v u k e q = gave_not_failed s u v q
arithmetic_right program OtherSort b s v u k e q = cc
arithmetic_right program a NumberSort s v u k e q = cc
arithmetic_right program a StringSort s v u k e q = cc
arithmetic_right program a OtherSort s v u k e q = cc

joined_left : (program : Program) (a b : Sort) (s : State) (v : Value) (u : State) → a ≡ WrongSort → is_other b ≡ false → joined program a b s ≡ Gave v u → ⊥
unfolding fail
joined_left program WrongSort NumberSort s v u k e q = gave_not_failed s u v q
joined_left program WrongSort StringSort s v u k e q = gave_not_failed s u v q
joined_left program WrongSort WrongSort s v u k e q = gave_not_failed s u v q
joined_left program WrongSort OtherSort s v u k e q = cc
joined_left program NumberSort b s v u k e q = cc
joined_left program StringSort b s v u k e q = cc
joined_left program OtherSort b s v u k e q = cc

joined_right : (program : Program) (a b : Sort) (s : State) (v : Value) (u : State) → is_other a ≡ false → b ≡ WrongSort → joined program a b s ≡ Gave v u → ⊥
unfolding fail
joined_right program NumberSort WrongSort s v u k e q = gave_not_failed s u v q
joined_right program StringSort WrongSort s v u k e q = gave_not_failed s u v q
joined_right program WrongSort WrongSort s v u k e q = gave_not_failed s u v q
joined_right program OtherSort b s v u k e q = cc
joined_right program a NumberSort s v u k e q = cc
joined_right program a StringSort s v u k e q = cc
joined_right program a OtherSort s v u k e q = cc

-- two sorts that have no order
abbrev Unordered : Sort → Sort → Type 0
Unordered NumberSort b = IsUnorderedWithNumber b
Unordered StringSort b = IsUnorderedWithString b
Unordered WrongSort NumberSort = Unit {0}
Unordered WrongSort StringSort = Unit {0}
Unordered WrongSort WrongSort = Unit {0}
Unordered _ _ = ⊥

ordered_fails : (a b : Sort) (s : State) (v : Value) (u : State) → Unordered a b → ordered a b s ≡ Gave v u → ⊥
unfolding fail
ordered_fails NumberSort StringSort s v u k q = gave_not_failed s u v q
ordered_fails NumberSort WrongSort s v u k q = gave_not_failed s u v q
ordered_fails NumberSort NumberSort s v u k q = k
ordered_fails NumberSort OtherSort s v u k q = k
ordered_fails StringSort NumberSort s v u k q = gave_not_failed s u v q
ordered_fails StringSort WrongSort s v u k q = gave_not_failed s u v q
ordered_fails StringSort StringSort s v u k q = k
ordered_fails StringSort OtherSort s v u k q = k
ordered_fails WrongSort NumberSort s v u k q = gave_not_failed s u v q
ordered_fails WrongSort StringSort s v u k q = gave_not_failed s u v q
ordered_fails WrongSort WrongSort s v u k q = gave_not_failed s u v q
ordered_fails WrongSort OtherSort s v u k q = k
ordered_fails OtherSort b s v u k q = k

unordered_back : (a b : Sort) → Unordered b a → Unordered a b
unordered_back NumberSort StringSort k = tt
unordered_back NumberSort WrongSort k = tt
unordered_back NumberSort NumberSort k = k
unordered_back NumberSort OtherSort k = k
unordered_back StringSort NumberSort k = tt
unordered_back StringSort WrongSort k = tt
unordered_back StringSort StringSort k = k
unordered_back StringSort OtherSort k = k
unordered_back WrongSort NumberSort k = tt
unordered_back WrongSort StringSort k = tt
unordered_back WrongSort WrongSort k = tt
unordered_back WrongSort OtherSort k = k
unordered_back OtherSort NumberSort k = k
unordered_back OtherSort StringSort k = k
unordered_back OtherSort WrongSort k = k
unordered_back OtherSort OtherSort k = k

with_number : (a b : Sort) → a ≡ NumberSort → IsUnorderedWithNumber b → Unordered a b
with_number a b e k = subst (λ (x : Sort). Unordered x b) (sym e) k

with_string : (a b : Sort) → a ≡ StringSort → IsUnorderedWithString b → Unordered a b
with_string a b e k = subst (λ (x : Sort). Unordered x b) (sym e) k

wrong_known : (a b : Sort) → a ≡ WrongSort → is_other b ≡ false → Unordered a b
wrong_known a b e k = subst (λ (x : Sort). Unordered x b) (sym e) (by_sort b k)
  where
    by_sort : (c : Sort) → is_other c ≡ false → Unordered WrongSort c
    by_sort NumberSort z = tt
    by_sort StringSort z = tt
    by_sort WrongSort z = tt
    by_sort OtherSort z = cc

-- a value in the set for a side of an order has no order with what is of the other side's type
order_unordered : (a b : Value) (h k : Heap) (other : Term) → holds h a (order_set other) ≡ true → holds k b other ≡ true → Unordered (sort b) (sort a)
order_unordered a b h k other e g = by_tests (below other number_type) (below other string_type) (below other not_other) refl refl refl e
  where
    by_tests : (p q z : Bool) → below other number_type ≡ p → below other string_type ≡ q → below other not_other ≡ z
        → holds h a (if p then order_fail_with_number else (if q then order_fail_with_string else (if z then arith_fail else never))) ≡ true → Unordered (sort b) (sort a)
    by_tests true q' z' p q z r = with_number (sort b) (sort a) (number_sort k b (below_includes k b other number_type p g)) (no_order_number h a r)
    by_tests false true z' p q z r = with_string (sort b) (sort a) (string_sort k b (below_includes k b other string_type q g)) (no_order_string h a r)
    by_tests false false true p q z r = unordered_back (sort b) (sort a) (wrong_known (sort a) (sort b) (wrong_sort h a r) (known_below k b other g z))
    by_tests false false false p q z r = in_never h a (Unordered (sort b) (sort a)) r

-- a value in the set for a side of arithmetic is of a wrong sort, and what is of the other side's type is of a kind
arithmetic_wrong : (a b : Value) (h k : Heap) (other : Term) → holds h a (arithmetic_set other) ≡ true → holds k b other ≡ true → (sort a ≡ WrongSort) × (is_other (sort b) ≡ false)
arithmetic_wrong a b h k other e g = by_test (below other not_other) refl e
  where
    by_test : (p : Bool) → below other not_other ≡ p → holds h a (if p then arith_fail else never) ≡ true → (sort a ≡ WrongSort) × (is_other (sort b) ≡ false)
    by_test true p r = (wrong_sort h a r, known_below k b other g p)
    by_test false p r = in_never h a ((sort a ≡ WrongSort) × (is_other (sort b) ≡ false)) r

-- so the operation doesn't give, on the one side
pub left_fails : (program : Program) (op : BinOp) (a b : Value) (h k : Heap) (right : Term) (s : State) (v : Value) (u : State) → holds h a (operand_set op right) ≡ true
    → holds k b right ≡ true → binary program op a b s ≡ Gave v u → ⊥
left_fails program Or a b h k right s v u e g q = in_never h a ⊥ e
left_fails program And a b h k right s v u e g q = in_never h a ⊥ e
left_fails program Equal a b h k right s v u e g q = in_never h a ⊥ e
left_fails program NotEqual a b h k right s v u e g q = in_never h a ⊥ e
left_fails program Less a b h k right s v u e g q = ordered_fails (sort a) (sort b) s v u (unordered_back (sort a) (sort b) (order_unordered a b h k right e g)) q
left_fails program Greater a b h k right s v u e g q = ordered_fails (sort a) (sort b) s v u (unordered_back (sort a) (sort b) (order_unordered a b h k right e g)) q
left_fails program LessEqual a b h k right s v u e g q = ordered_fails (sort a) (sort b) s v u (unordered_back (sort a) (sort b) (order_unordered a b h k right e g)) q
left_fails program GreaterEqual a b h k right s v u e g q = ordered_fails (sort a) (sort b) s v u (unordered_back (sort a) (sort b) (order_unordered a b h k right e g)) q
left_fails program Concat a b h k right s v u e g q =
    joined_left program (sort a) (sort b) s v u (arithmetic_wrong a b h k right e g).0 (arithmetic_wrong a b h k right e g).1 q
left_fails program op a b h k right s v u e g q =
    arithmetic_left program (sort a) (sort b) s v u (arithmetic_wrong a b h k right e g).0 (arithmetic_wrong a b h k right e g).1 q

-- and on the other
pub right_fails : (program : Program) (op : BinOp) (a b : Value) (h k : Heap) (left : Term) (s : State) (v : Value) (u : State) → holds h b (operand_set op left) ≡ true
    → holds k a left ≡ true → binary program op a b s ≡ Gave v u → ⊥
right_fails program Or a b h k left s v u e g q = in_never h b ⊥ e
right_fails program And a b h k left s v u e g q = in_never h b ⊥ e
right_fails program Equal a b h k left s v u e g q = in_never h b ⊥ e
right_fails program NotEqual a b h k left s v u e g q = in_never h b ⊥ e
right_fails program Less a b h k left s v u e g q = ordered_fails (sort a) (sort b) s v u (order_unordered b a h k left e g) q
right_fails program Greater a b h k left s v u e g q = ordered_fails (sort a) (sort b) s v u (order_unordered b a h k left e g) q
right_fails program LessEqual a b h k left s v u e g q = ordered_fails (sort a) (sort b) s v u (order_unordered b a h k left e g) q
right_fails program GreaterEqual a b h k left s v u e g q = ordered_fails (sort a) (sort b) s v u (order_unordered b a h k left e g) q
right_fails program Concat a b h k left s v u e g q =
    joined_right program (sort a) (sort b) s v u (arithmetic_wrong b a h k left e g).1 (arithmetic_wrong b a h k left e g).0 q
right_fails program op a b h k left s v u e g q =
    arithmetic_right program (sort a) (sort b) s v u (arithmetic_wrong b a h k left e g).1 (arithmetic_wrong b a h k left e g).0 q

negated_fails : (program : Program) (a : Sort) (s : State) (v : Value) (u : State) → a ≡ WrongSort → negated program a s ≡ Gave v u → ⊥
unfolding fail
negated_fails program WrongSort s v u k q = gave_not_failed s u v q
negated_fails program NumberSort s v u k q = cc
negated_fails program StringSort s v u k q = cc
negated_fails program OtherSort s v u k q = cc

length_fails : (program : Program) (a : Value) (h : Heap) (s : State) (v : Value) (u : State) → holds h a length_fail ≡ true → length_of program a s ≡ Gave v u → ⊥
unfolding fail
length_fails program Nil h s v u e q = gave_not_failed s u v q
length_fails program (Truth truth) h s v u e q = gave_not_failed s u v q
length_fails program (Num text) h s v u e q = gave_not_failed s u v q
length_fails program (Str bytes) h s v u e q = cc
length_fails program (Tab address) h s v u e q = cc
length_fails program (Lit home function cells) h s v u e q = gave_not_failed s u v q
length_fails program (Builtin path) h s v u e q = gave_not_failed s u v q
length_fails program (Other number) h s v u e q = cc

pub unary_fails : (program : Program) (op : UnOp) (a : Value) (h : Heap) (s : State) (v : Value) (u : State) → holds h a (unary_set op) ≡ true → unary program op a s ≡ Gave v u → ⊥
unary_fails program Not a h s v u e q = in_never h a ⊥ e
unary_fails program Minus a h s v u e q = negated_fails program (sort a) s v u (wrong_sort h a e) q
unary_fails program Length a h s v u e q = length_fails program a h s v u e q
