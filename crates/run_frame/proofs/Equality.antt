-- What a test of equality says of the locals in it: of a bare name that is compared with a constant, and of `type(x)`.
use Rattle.std.proofs.Common.{◌≡◌, ℕ, Bool, true, false, not, ◌==◌, ◌||◌, if◌then◌else◌, List, Option, Some, None, ◌⊎◌, inl, inr, refl, sym, ◌∙◌, ap, subst, codes}
use Rattle.std.specs.Bool.{beq}
use Rattle.std.specs.Str.{bytes_eq}
use Rattle.std.proofs.lemmas.Bool.{eqb-true}
use Rattle.std.proofs.lemmas.Slice.Eq.{bytes_eq-Decides}
use Rattle.luau_values.specs.Value.{Value, Nil, Truth, Num, Str, Tab, Lit, Builtin, Other}
use Rattle.luau_values.specs.Heap.{Heap}
use Rattle.luau_tree.specs.Tree.{Expr, the_expr, ExprKind, NilExpr, TrueExpr, FalseExpr, NumberExpr, StrExpr}
use Rattle.luau_run.specs.Machine.{State}
use Rattle.luau_run.specs.Answers.{is_other_kind}
use Rattle.luau_run.specs.Layer.{Frame}
use Rattle.type_arena.specs.Term.{Term}
use Rattle.type_normal.specs.Holds.{holds}
use Rattle.type_normal.specs.Operations.{union, not_free, is_flat}
use Rattle.type_normal.specs.Kinds.{unknown, nil_type, true_type, false_type, boolean_type, number_type, string_type, function_type, other_type, table_type, text_type}
use Rattle.type_normal.proofs.Public.{not_free_holds, text_holds, text_is_in, unknown_all}
use Rattle.report_rules.specs.Rules.{Rules}
use Rattle.report_rules.specs.Guard.{Says, exactly, equals, kind_equals, firm_local, kind_subject, kind_says, local_says, or_else, side_says, equality, said}
use Rattle.report_rules.specs.Forward.{type_of_kind}
use Rattle.run_frame.specs.Analysis.{Analysis}
use Rattle.run_frame.proofs.Held.{Reads}
use Rattle.run_frame.proofs.Layers.{rules_of, IsKindName, Shows}
use Rattle.run_frame.proofs.Guards.{kind_local}
use Rattle.run_frame.proofs.Operators.{IsEqual}

-- ---- sets that a test decides

-- a value is in a set where a test is true, and outside it where the test is false
in_or_out : (h : Heap) (v : Value) (type : Term) (test : Bool) → is_flat type ≡ true → holds h v type ≡ test → holds h v (if test then type else not_free type) ≡ true
in_or_out h v type true flat e = e
in_or_out h v type false flat e = not_free_holds h v type flat ∙ ap not e

-- the constant that an expression of a form is
abbrev pub IsConstant : ExprKind → Value → Type 0
IsConstant NilExpr b = b ≡ Nil
IsConstant TrueExpr b = b ≡ Truth true
IsConstant FalseExpr b = b ≡ Truth false
IsConstant (StrExpr bytes) b = b ≡ Str bytes
IsConstant (NumberExpr text) b = (digits : List ℕ) × (b ≡ Num digits)
IsConstant _ b = Unit {0}

nil_alone : (h : Heap) (v : Value) → holds h v nil_type ≡ true → v ≡ Nil
nil_alone h Nil e = refl
nil_alone h (Truth true) e = cc
nil_alone h (Truth false) e = cc
nil_alone h (Num text) e = cc
nil_alone h (Str bytes) e = cc
nil_alone h (Tab address) e = cc
nil_alone h (Lit home function cells) e = cc
nil_alone h (Builtin path) e = cc
nil_alone h (Other number) e = cc

true_alone : (h : Heap) (v : Value) → holds h v true_type ≡ true → v ≡ Truth true
true_alone h Nil e = cc
true_alone h (Truth true) e = refl
true_alone h (Truth false) e = cc
true_alone h (Num text) e = cc
true_alone h (Str bytes) e = cc
true_alone h (Tab address) e = cc
true_alone h (Lit home function cells) e = cc
true_alone h (Builtin path) e = cc
true_alone h (Other number) e = cc

false_alone : (h : Heap) (v : Value) → holds h v false_type ≡ true → v ≡ Truth false
false_alone h Nil e = cc
false_alone h (Truth true) e = cc
false_alone h (Truth false) e = refl
false_alone h (Num text) e = cc
false_alone h (Str bytes) e = cc
false_alone h (Tab address) e = cc
false_alone h (Lit home function cells) e = cc
false_alone h (Builtin path) e = cc
false_alone h (Other number) e = cc

number_alone : (h : Heap) (v : Value) → holds h v number_type ≡ true → (digits : List ℕ) × (v ≡ Num digits)
number_alone h Nil e = cc
number_alone h (Truth true) e = cc
number_alone h (Truth false) e = cc
number_alone h (Num text) e = (text, refl)
number_alone h (Str bytes) e = cc
number_alone h (Tab address) e = cc
number_alone h (Lit home function cells) e = cc
number_alone h (Builtin path) e = cc
number_alone h (Other number) e = cc

-- a value of a constant's type is the constant
pub constant_is : (rules : Rules) (map : _) (id : ℕ) (kind : ExprKind) (h : Heap) (b : Value) → holds h b (type_of_kind rules map id kind) ≡ true → IsConstant kind b
constant_is rules map id NilExpr h b e = nil_alone h b e
constant_is rules map id TrueExpr h b e = true_alone h b e
constant_is rules map id FalseExpr h b e = false_alone h b e
constant_is rules map id (StrExpr bytes) h b e = text_holds h b bytes e
constant_is rules map id (NumberExpr text) h b e = number_alone h b e
constant_is rules map id _ h b e = tt

-- ---- a name compared with a constant

by_test : (h : Heap) (v : Value) (one other : Term) (same test : Bool) → same ≡ test → holds h v (if test then one else other) ≡ true → holds h v (if same then one else other) ≡ true
by_test h v one other same test e k = subst (λ (b : Bool). holds h v (if b then one else other) ≡ true) (sym e) k

equals_nil : (h : Heap) (v : Value) (same : Bool) → IsEqual v Nil same → holds h v (if same then nil_type else not_free nil_type) ≡ true
equals_nil h Nil same e = by_test h Nil nil_type (not_free nil_type) same true e refl
equals_nil h (Truth true) same e = by_test h (Truth true) nil_type (not_free nil_type) same false e refl
equals_nil h (Truth false) same e = by_test h (Truth false) nil_type (not_free nil_type) same false e refl
equals_nil h (Num text) same e = by_test h (Num text) nil_type (not_free nil_type) same false e refl
equals_nil h (Str bytes) same e = by_test h (Str bytes) nil_type (not_free nil_type) same false e refl
equals_nil h (Tab address) same e = by_test h (Tab address) nil_type (not_free nil_type) same false e refl
equals_nil h (Lit home function cells) same e = by_test h (Lit home function cells) nil_type (not_free nil_type) same false e refl
equals_nil h (Builtin path) same e = by_test h (Builtin path) nil_type (not_free nil_type) same false e refl
equals_nil h (Other number) same e = by_test h (Other number) nil_type (not_free nil_type) same false e refl

equals_true : (h : Heap) (v : Value) (same : Bool) → IsEqual v (Truth true) same → holds h v (if same then true_type else not_free true_type) ≡ true
equals_true h Nil same e = by_test h Nil true_type (not_free true_type) same false e refl
equals_true h (Truth true) same e = by_test h (Truth true) true_type (not_free true_type) same true e refl
equals_true h (Truth false) same e = by_test h (Truth false) true_type (not_free true_type) same false e refl
equals_true h (Num text) same e = by_test h (Num text) true_type (not_free true_type) same false e refl
equals_true h (Str bytes) same e = by_test h (Str bytes) true_type (not_free true_type) same false e refl
equals_true h (Tab address) same e = by_test h (Tab address) true_type (not_free true_type) same false e refl
equals_true h (Lit home function cells) same e = by_test h (Lit home function cells) true_type (not_free true_type) same false e refl
equals_true h (Builtin path) same e = by_test h (Builtin path) true_type (not_free true_type) same false e refl
equals_true h (Other number) same e = by_test h (Other number) true_type (not_free true_type) same false e refl

equals_false : (h : Heap) (v : Value) (same : Bool) → IsEqual v (Truth false) same → holds h v (if same then false_type else not_free false_type) ≡ true
equals_false h Nil same e = by_test h Nil false_type (not_free false_type) same false e refl
equals_false h (Truth true) same e = by_test h (Truth true) false_type (not_free false_type) same false e refl
equals_false h (Truth false) same e = by_test h (Truth false) false_type (not_free false_type) same true e refl
equals_false h (Num text) same e = by_test h (Num text) false_type (not_free false_type) same false e refl
equals_false h (Str bytes) same e = by_test h (Str bytes) false_type (not_free false_type) same false e refl
equals_false h (Tab address) same e = by_test h (Tab address) false_type (not_free false_type) same false e refl
equals_false h (Lit home function cells) same e = by_test h (Lit home function cells) false_type (not_free false_type) same false e refl
equals_false h (Builtin path) same e = by_test h (Builtin path) false_type (not_free false_type) same false e refl
equals_false h (Other number) same e = by_test h (Other number) false_type (not_free false_type) same false e refl

-- a string is in the type of one string where they are the same
text_test : (h : Heap) (one other : List ℕ) → holds h (Str one) (text_type other) ≡ bytes_eq one other
text_test h one other = by_holds (holds h (Str one) (text_type other)) (bytes_eq one other) refl refl
  where
    same : Str one ≡ Str other → one ≡ other
    same k = cc

    clash : (b : Bool) → b ≡ true → b ≡ false → ⊥
    clash b p q = cc

    by_holds : (p q : Bool) → holds h (Str one) (text_type other) ≡ p → bytes_eq one other ≡ q → holds h (Str one) (text_type other) ≡ bytes_eq one other
    by_holds true q e k = e ∙ sym ((bytes_eq-Decides one other).1 (same (text_holds h (Str one) other e)))
    by_holds false true e k = absurd (clash (holds h (Str one) (text_type other))
        (subst (λ (x : List ℕ). holds h (Str x) (text_type other) ≡ true) (sym ((bytes_eq-Decides one other).0 k)) (text_is_in h other)) e)
    by_holds false false e k = e ∙ sym k

equals_text : (h : Heap) (v : Value) (bytes : List ℕ) (same : Bool) → IsEqual v (Str bytes) same → holds h v (if same then text_type bytes else not_free (text_type bytes)) ≡ true
equals_text h Nil bytes same e = by_test h Nil (text_type bytes) (not_free (text_type bytes)) same false e refl
equals_text h (Truth true) bytes same e = by_test h (Truth true) (text_type bytes) (not_free (text_type bytes)) same false e refl
equals_text h (Truth false) bytes same e = by_test h (Truth false) (text_type bytes) (not_free (text_type bytes)) same false e refl
equals_text h (Num text) bytes same e = by_test h (Num text) (text_type bytes) (not_free (text_type bytes)) same false e refl
equals_text h (Str other) bytes same e = by_test h (Str other) (text_type bytes) (not_free (text_type bytes)) same (bytes_eq other bytes) e
    (in_or_out h (Str other) (text_type bytes) (bytes_eq other bytes) refl (text_test h other bytes))
equals_text h (Tab address) bytes same e = by_test h (Tab address) (text_type bytes) (not_free (text_type bytes)) same false e refl
equals_text h (Lit home function cells) bytes same e = by_test h (Lit home function cells) (text_type bytes) (not_free (text_type bytes)) same false e refl
equals_text h (Builtin path) bytes same e = by_test h (Builtin path) (text_type bytes) (not_free (text_type bytes)) same false e refl
equals_text h (Other number) bytes same e = by_test h (Other number) (text_type bytes) (not_free (text_type bytes)) same false e refl

equals_number : (h : Heap) (v : Value) (digits : List ℕ) (same : Bool) → IsEqual v (Num digits) same → holds h v (if same then number_type else unknown) ≡ true
equals_number h Nil digits same e = by_test h Nil number_type unknown same false e refl
equals_number h (Truth true) digits same e = by_test h (Truth true) number_type unknown same false e refl
equals_number h (Truth false) digits same e = by_test h (Truth false) number_type unknown same false e refl
equals_number h (Num text) digits true e = refl
equals_number h (Num text) digits false e = refl
equals_number h (Str bytes) digits same e = by_test h (Str bytes) number_type unknown same false e (unknown_all h (Str bytes))
equals_number h (Tab address) digits same e = by_test h (Tab address) number_type unknown same false e (unknown_all h (Tab address))
equals_number h (Lit home function cells) digits same e = by_test h (Lit home function cells) number_type unknown same false e (unknown_all h (Lit home function cells))
equals_number h (Builtin path) digits same e = by_test h (Builtin path) number_type unknown same false e (unknown_all h (Builtin path))
equals_number h (Other number) digits same e = by_test h (Other number) number_type unknown same false e refl

-- what a test says, where it came out so
abbrev pub SaysShown : Frame → State → Bool → Option Says → Type 0
SaysShown frame t same None = Unit {0}
SaysShown frame t same (Some says) = Shows frame t says.local (if same then says.when_true else says.when_false)

equals_shown : (frame : Frame) (t : State) (x c : ℕ) (a b : Value) (kind : ExprKind) (same : Bool) → Reads frame t x c a → IsConstant kind b → IsEqual a b same
    → SaysShown frame t same (equals x kind)
equals_shown frame t x c a b NilExpr same q k e = (c, a, q, equals_nil t.store.heap a same (subst (λ (y : Value). IsEqual a y same) k e))
equals_shown frame t x c a b TrueExpr same q k e = (c, a, q, equals_true t.store.heap a same (subst (λ (y : Value). IsEqual a y same) k e))
equals_shown frame t x c a b FalseExpr same q k e = (c, a, q, equals_false t.store.heap a same (subst (λ (y : Value). IsEqual a y same) k e))
equals_shown frame t x c a b (StrExpr bytes) same q k e = (c, a, q, equals_text t.store.heap a bytes same (subst (λ (y : Value). IsEqual a y same) k e))
equals_shown frame t x c a b (NumberExpr text) same q k e = (c, a, q, equals_number t.store.heap a k.0 same (subst (λ (y : Value). IsEqual a y same) k.1 e))
equals_shown frame t x c a b _ same q k e = tt

-- ---- the name of a kind compared with a string

-- a text is the name of a value's kind
abbrev IsNamed : Value → List ℕ → Type 0
IsNamed Nil name = name ≡ codes "nil"
IsNamed (Truth truth) name = name ≡ codes "boolean"
IsNamed (Num text) name = name ≡ codes "number"
IsNamed (Str bytes) name = name ≡ codes "string"
IsNamed (Tab address) name = name ≡ codes "table"
IsNamed (Lit home function cells) name = name ≡ codes "function"
IsNamed (Builtin path) name = name ≡ codes "function"
IsNamed (Other number) name = is_other_kind name ≡ true

named_text : (v a : Value) → IsKindName v a → (name : List ℕ) × (a ≡ Str name) × IsNamed v name
named_text Nil a e = (codes "nil", e, refl)
named_text (Truth truth) a e = (codes "boolean", e, refl)
named_text (Num text) a e = (codes "number", e, refl)
named_text (Str bytes) a e = (codes "string", e, refl)
named_text (Tab address) a e = (codes "table", e, refl)
named_text (Lit home function cells) a e = (codes "function", e, refl)
named_text (Builtin path) a e = (codes "function", e, refl)
named_text (Other number) a e = (e.0, e.1, e.2)

-- the name of what is of no kind is none of the first five
other_names : (name : List ℕ) → is_other_kind name ≡ true → (bytes_eq name (codes "nil") ≡ false) × (bytes_eq name (codes "boolean") ≡ false) × (bytes_eq name (codes "number") ≡ false)
    × (bytes_eq name (codes "string") ≡ false) × (bytes_eq name (codes "function") ≡ false)
other_names name e = by_tests (bytes_eq name (codes "nil")) (bytes_eq name (codes "boolean")) (bytes_eq name (codes "number")) (bytes_eq name (codes "string")) (bytes_eq name (codes "function")) e
  where
    by_tests : (p q r s z : Bool) → not (p || (q || (r || (s || (z || false))))) ≡ true
        → (p ≡ false) × (q ≡ false) × (r ≡ false) × (s ≡ false) × (z ≡ false)
    by_tests false false false false false k = (refl, refl, refl, refl, refl)
    by_tests true q r s z k = cc
    by_tests false true r s z k = cc
    by_tests false false true s z k = cc
    by_tests false false false true z k = cc
    by_tests false false false false true k = cc

-- a value is of a kind with a name of its own where its kind's name is that
abbrev KindTest : Term → List ℕ → Type 0
KindTest type kind = (h : Heap) (v : Value) (name : List ℕ) → IsNamed v name → holds h v type ≡ bytes_eq name kind

turn : (a : Bool) (name kind own : List ℕ) → name ≡ own → a ≡ bytes_eq own kind → a ≡ bytes_eq name kind
turn a name kind own e k = k ∙ ap (λ (x : List ℕ). bytes_eq x kind) (sym e)

nil_test : KindTest nil_type (codes "nil")
nil_test h Nil name e = turn true name (codes "nil") (codes "nil") e refl
nil_test h (Truth true) name e = turn false name (codes "nil") (codes "boolean") e refl
nil_test h (Truth false) name e = turn false name (codes "nil") (codes "boolean") e refl
nil_test h (Num text) name e = turn false name (codes "nil") (codes "number") e refl
nil_test h (Str bytes) name e = turn false name (codes "nil") (codes "string") e refl
nil_test h (Tab address) name e = turn false name (codes "nil") (codes "table") e refl
nil_test h (Lit home function cells) name e = turn false name (codes "nil") (codes "function") e refl
nil_test h (Builtin path) name e = turn false name (codes "nil") (codes "function") e refl
nil_test h (Other number) name e = sym (other_names name e).0

boolean_test : KindTest boolean_type (codes "boolean")
boolean_test h Nil name e = turn false name (codes "boolean") (codes "nil") e refl
boolean_test h (Truth true) name e = turn true name (codes "boolean") (codes "boolean") e refl
boolean_test h (Truth false) name e = turn true name (codes "boolean") (codes "boolean") e refl
boolean_test h (Num text) name e = turn false name (codes "boolean") (codes "number") e refl
boolean_test h (Str bytes) name e = turn false name (codes "boolean") (codes "string") e refl
boolean_test h (Tab address) name e = turn false name (codes "boolean") (codes "table") e refl
boolean_test h (Lit home function cells) name e = turn false name (codes "boolean") (codes "function") e refl
boolean_test h (Builtin path) name e = turn false name (codes "boolean") (codes "function") e refl
boolean_test h (Other number) name e = sym (other_names name e).1

number_test : KindTest number_type (codes "number")
number_test h Nil name e = turn false name (codes "number") (codes "nil") e refl
number_test h (Truth true) name e = turn false name (codes "number") (codes "boolean") e refl
number_test h (Truth false) name e = turn false name (codes "number") (codes "boolean") e refl
number_test h (Num text) name e = turn true name (codes "number") (codes "number") e refl
number_test h (Str bytes) name e = turn false name (codes "number") (codes "string") e refl
number_test h (Tab address) name e = turn false name (codes "number") (codes "table") e refl
number_test h (Lit home function cells) name e = turn false name (codes "number") (codes "function") e refl
number_test h (Builtin path) name e = turn false name (codes "number") (codes "function") e refl
number_test h (Other number) name e = sym (other_names name e).2

string_test : KindTest string_type (codes "string")
string_test h Nil name e = turn false name (codes "string") (codes "nil") e refl
string_test h (Truth true) name e = turn false name (codes "string") (codes "boolean") e refl
string_test h (Truth false) name e = turn false name (codes "string") (codes "boolean") e refl
string_test h (Num text) name e = turn false name (codes "string") (codes "number") e refl
string_test h (Str bytes) name e = turn true name (codes "string") (codes "string") e refl
string_test h (Tab address) name e = turn false name (codes "string") (codes "table") e refl
string_test h (Lit home function cells) name e = turn false name (codes "string") (codes "function") e refl
string_test h (Builtin path) name e = turn false name (codes "string") (codes "function") e refl
string_test h (Other number) name e = sym (other_names name e).3

function_test : KindTest function_type (codes "function")
function_test h Nil name e = turn false name (codes "function") (codes "nil") e refl
function_test h (Truth true) name e = turn false name (codes "function") (codes "boolean") e refl
function_test h (Truth false) name e = turn false name (codes "function") (codes "boolean") e refl
function_test h (Num text) name e = turn false name (codes "function") (codes "number") e refl
function_test h (Str bytes) name e = turn false name (codes "function") (codes "string") e refl
function_test h (Tab address) name e = turn false name (codes "function") (codes "table") e refl
function_test h (Lit home function cells) name e = turn true name (codes "function") (codes "function") e refl
function_test h (Builtin path) name e = turn true name (codes "function") (codes "function") e refl
function_test h (Other number) name e = sym (other_names name e).4

-- "table": a value of no kind may have that name too
table_test : (h : Heap) (v : Value) (name : List ℕ) (same : Bool) → IsNamed v name → same ≡ bytes_eq name (codes "table")
    → holds h v (if same then union table_type other_type else not_free table_type) ≡ true
table_test h Nil name same e k = by_test h Nil (union table_type other_type) (not_free table_type) same false (k ∙ sym (turn false name (codes "table") (codes "nil") e refl)) refl
table_test h (Truth true) name same e k = by_test h (Truth true) (union table_type other_type) (not_free table_type) same false (k ∙ sym (turn false name (codes "table") (codes "boolean") e refl)) refl
table_test h (Truth false) name same e k = by_test h (Truth false) (union table_type other_type) (not_free table_type) same false (k ∙ sym (turn false name (codes "table") (codes "boolean") e refl)) refl
table_test h (Num text) name same e k = by_test h (Num text) (union table_type other_type) (not_free table_type) same false (k ∙ sym (turn false name (codes "table") (codes "number") e refl)) refl
table_test h (Str bytes) name same e k = by_test h (Str bytes) (union table_type other_type) (not_free table_type) same false (k ∙ sym (turn false name (codes "table") (codes "string") e refl)) refl
table_test h (Tab address) name same e k = by_test h (Tab address) (union table_type other_type) (not_free table_type) same true (k ∙ sym (turn true name (codes "table") (codes "table") e refl)) refl
table_test h (Lit home function cells) name same e k =
    by_test h (Lit home function cells) (union table_type other_type) (not_free table_type) same false (k ∙ sym (turn false name (codes "table") (codes "function") e refl)) refl
table_test h (Builtin path) name same e k =
    by_test h (Builtin path) (union table_type other_type) (not_free table_type) same false (k ∙ sym (turn false name (codes "table") (codes "function") e refl)) refl
table_test h (Other number) name true e k = refl
table_test h (Other number) name false e k = refl

-- another text: only a value of no kind may have it for its kind's name
abbrev IsNone : List ℕ → Type 0
IsNone kind = (bytes_eq (codes "nil") kind ≡ false) × (bytes_eq (codes "boolean") kind ≡ false) × (bytes_eq (codes "number") kind ≡ false) × (bytes_eq (codes "string") kind ≡ false)
    × (bytes_eq (codes "function") kind ≡ false) × (bytes_eq (codes "table") kind ≡ false)

none_test : (h : Heap) (v : Value) (name kind : List ℕ) (same : Bool) → IsNone kind → IsNamed v name → same ≡ bytes_eq name kind → holds h v (if same then other_type else unknown) ≡ true
none_test h Nil name kind same n e k = by_test h Nil other_type unknown same false (k ∙ sym (turn false name kind (codes "nil") e (sym n.0))) (unknown_all h Nil)
none_test h (Truth truth) name kind same n e k =
    by_test h (Truth truth) other_type unknown same false (k ∙ sym (turn false name kind (codes "boolean") e (sym n.1))) (unknown_all h (Truth truth))
none_test h (Num text) name kind same n e k = by_test h (Num text) other_type unknown same false (k ∙ sym (turn false name kind (codes "number") e (sym n.2))) (unknown_all h (Num text))
none_test h (Str bytes) name kind same n e k =
    by_test h (Str bytes) other_type unknown same false (k ∙ sym (turn false name kind (codes "string") e (sym n.3))) (unknown_all h (Str bytes))
none_test h (Tab address) name kind same n e k =
    by_test h (Tab address) other_type unknown same false (k ∙ sym (turn false name kind (codes "table") e (sym n.5))) (unknown_all h (Tab address))
none_test h (Lit home function cells) name kind same n e k =
    by_test h (Lit home function cells) other_type unknown same false (k ∙ sym (turn false name kind (codes "function") e (sym n.4))) (unknown_all h (Lit home function cells))
none_test h (Builtin path) name kind same n e k =
    by_test h (Builtin path) other_type unknown same false (k ∙ sym (turn false name kind (codes "function") e (sym n.4))) (unknown_all h (Builtin path))
none_test h (Other number) name kind true n e k = refl
none_test h (Other number) name kind false n e k = refl

-- the two ways of a comparison of texts
bytes_back : (one other : List ℕ) (b : Bool) → bytes_eq one other ≡ b → bytes_eq other one ≡ b
bytes_back one other true e = (bytes_eq-Decides other one).1 (sym ((bytes_eq-Decides one other).0 e))
bytes_back one other false e = by_back (bytes_eq other one) refl
  where
    clash : (b : Bool) → b ≡ true → b ≡ false → ⊥
    clash b p q = cc

    by_back : (b : Bool) → bytes_eq other one ≡ b → bytes_eq other one ≡ false
    by_back true k = absurd (clash (bytes_eq one other) ((bytes_eq-Decides one other).1 (sym ((bytes_eq-Decides other one).0 k))) e)
    by_back false k = k

abbrev WayOf : Says → Bool → Term
WayOf says same = if same then says.when_true else says.when_false

-- what the rules say of a kind's name is so
kind_shown : (h : Heap) (v : Value) (x : ℕ) (name kind : List ℕ) (same : Bool) → IsNamed v name → same ≡ bytes_eq name kind → holds h v (WayOf (kind_equals x kind) same) ≡ true
kind_shown h v x name kind same named e = by_tests (bytes_eq kind (codes "nil")) (bytes_eq kind (codes "boolean")) (bytes_eq kind (codes "number")) (bytes_eq kind (codes "string"))
    (bytes_eq kind (codes "function")) (bytes_eq kind (codes "table")) refl refl refl refl refl refl
  where
    exact : (type : Term) (own : List ℕ) → is_flat type ≡ true → KindTest type own → bytes_eq kind own ≡ true → holds h v (if same then type else not_free type) ≡ true
    exact type own flat test k = by_test h v type (not_free type) same (bytes_eq name own) (e ∙ ap (λ (y : List ℕ). bytes_eq name y) ((bytes_eq-Decides kind own).0 k))
        (in_or_out h v type (bytes_eq name own) flat (test h v name named))

    by_tests : (p q r s z y : Bool) → bytes_eq kind (codes "nil") ≡ p → bytes_eq kind (codes "boolean") ≡ q → bytes_eq kind (codes "number") ≡ r → bytes_eq kind (codes "string") ≡ s
        → bytes_eq kind (codes "function") ≡ z → bytes_eq kind (codes "table") ≡ y
        → holds h v (WayOf (if p then exactly x nil_type else (if q then exactly x boolean_type else (if r then exactly x number_type else (if s then exactly x string_type
        else (if z then exactly x function_type else (if y then record { local = x; when_true = union table_type other_type; when_false = not_free table_type }
        else record { local = x; when_true = other_type; when_false = unknown })))))) same) ≡ true
    by_tests true q r s z y a b c d f g = exact nil_type (codes "nil") refl nil_test a
    by_tests false true r s z y a b c d f g = exact boolean_type (codes "boolean") refl boolean_test b
    by_tests false false true s z y a b c d f g = exact number_type (codes "number") refl number_test c
    by_tests false false false true z y a b c d f g = exact string_type (codes "string") refl string_test d
    by_tests false false false false true y a b c d f g = exact function_type (codes "function") refl function_test f
    by_tests false false false false false true a b c d f g = table_test h v name same named (e ∙ ap (λ (y : List ℕ). bytes_eq name y) ((bytes_eq-Decides kind (codes "table")).0 g))
    by_tests false false false false false false a b c d f g = none_test h v name kind same (
      bytes_back kind (codes "nil") false a,
      bytes_back kind (codes "boolean") false b,
      bytes_back kind (codes "number") false c,
      bytes_back kind (codes "string") false d,
      bytes_back kind (codes "function") false f,
      bytes_back kind (codes "table") false g,
    ) named e

-- ---- both

-- what is known of an operand of an equality: a bare name's value is what the local holds, and that of `type(x)` is the name of a
-- kind
abbrev pub IsSubject : Analysis → Frame → State → Expr → Value → Type 0
IsSubject an frame t e a = ((x : ℕ) → firm_local (rules_of an frame) e ≡ Some x → (c : ℕ) × Reads frame t x c a)
    × ((x : ℕ) → kind_subject (rules_of an frame) e ≡ Some x → (c : ℕ) × (v : Value) × Reads frame t x c v × IsKindName v a)

-- and of the constant that it is compared with
abbrev pub IsCompared : Expr → Value → Type 0
IsCompared (the_expr id span kind) b = IsConstant kind b

or_shown : (frame : Frame) (t : State) (same : Bool) (p q : Option Says) → SaysShown frame t same p → SaysShown frame t same q → SaysShown frame t same (or_else p q)
or_shown frame t same (Some says) q h k = h
or_shown frame t same None q h k = k

local_shown : (frame : Frame) (t : State) (a b : Value) (kind : ExprKind) (same : Bool) (o : Option ℕ) → ((x : ℕ) → o ≡ Some x → (c : ℕ) × Reads frame t x c a) → IsConstant kind b
    → IsEqual a b same → SaysShown frame t same (local_says o kind)
local_shown frame t a b kind same None h k e = tt
local_shown frame t a b kind same (Some x) h k e = equals_shown frame t x (h x refl).0 a b kind same (h x refl).1 k e

text_equal : (one other : List ℕ) (a b : Value) (same : Bool) → a ≡ Str one → b ≡ Str other → IsEqual a b same → same ≡ bytes_eq one other
text_equal one other a b same p q e = subst (λ (y : Value). IsEqual (Str one) y same) q (subst (λ (x : Value). IsEqual x b same) p e)

subject_shown : (frame : Frame) (t : State) (a b : Value) (kind : ExprKind) (same : Bool) (o : Option ℕ)
    → ((x : ℕ) → o ≡ Some x → (c : ℕ) × (v : Value) × Reads frame t x c v × IsKindName v a) → IsConstant kind b → IsEqual a b same → SaysShown frame t same (kind_says o kind)
subject_shown frame t a b kind same None h k e = tt
subject_shown frame t a b (StrExpr name) same (Some x) h k e = shown (h x refl)
  where
    shown : (c : ℕ) × (v : Value) × Reads frame t x c v × IsKindName v a → SaysShown frame t same (Some (kind_equals x name))
    shown p = (
      p.0,
      p.1,
      subst (λ (y : ℕ). Reads frame t y p.0 p.1) (sym (kind_local x name)) p.2,
      kind_shown t.store.heap p.1 x (named_text p.1 a p.3).0 name same (named_text p.1 a p.3).2
          (text_equal (named_text p.1 a p.3).0 name a b same (named_text p.1 a p.3).1 k e),
    )
subject_shown frame t a b _ same (Some x) h k e = tt

pub side_shown : (an : Analysis) (frame : Frame) (t : State) (subject other : Expr) (a b : Value) (same : Bool) → IsSubject an frame t subject a → IsCompared other b → IsEqual a b same
    → SaysShown frame t same (side_says (rules_of an frame) subject other)
side_shown an frame t subject (the_expr id span kind) a b same h k e = or_shown frame t same (local_says (firm_local (rules_of an frame) subject) kind)
    (kind_says (kind_subject (rules_of an frame) subject) kind) (local_shown frame t a b kind same (firm_local (rules_of an frame) subject) h.0 k e)
    (subject_shown frame t a b kind same (kind_subject (rules_of an frame) subject) h.1 k e)

truth_back : (a b same : Bool) → same ≡ beq a b → same ≡ beq b a
truth_back true true same e = e
truth_back true false same e = e
truth_back false true same e = e
truth_back false false same e = e

-- equality is the same either way
pub equal_back : (a b : Value) (same : Bool) → IsEqual a b same → IsEqual b a same
equal_back (Num a) (Num b) same e = tt
equal_back (Other a) (Other b) same e = tt
equal_back (Lit home function cells) (Lit h f c) same e = tt
equal_back Nil Nil same e = e
equal_back (Truth a) (Truth b) same e = truth_back a b same e
equal_back (Str a) (Str b) same e = e ∙ sym (bytes_back a b (bytes_eq a b) refl)
equal_back (Tab a) (Tab b) same e = tt
equal_back (Builtin a) (Builtin b) same e = tt
equal_back _ _ same e = e

-- what an equality says of a local, where it came out so
pub equality_shown : (an : Analysis) (frame : Frame) (t : State) (left right : Expr) (a b : Value) (same : Bool) → IsSubject an frame t left a → IsSubject an frame t right b
    → IsCompared left a → IsCompared right b → IsEqual a b same
    → (x : ℕ) → (said same x (equality (rules_of an frame) left right) ≡ unknown) ⊎ Shows frame t x (said same x (equality (rules_of an frame) left right))
equality_shown an frame t left right a b same subject_left subject_right compared_left compared_right e x = by_says (equality (rules_of an frame) left right)
    (or_shown frame t same (side_says (rules_of an frame) left right) (side_says (rules_of an frame) right left)
    (side_shown an frame t left right a b same subject_left compared_right e) (side_shown an frame t right left b a same subject_right compared_left (equal_back a b same e)))
  where
    by_says : (o : Option Says) → SaysShown frame t same o → (said same x o ≡ unknown) ⊎ Shows frame t x (said same x o)
    by_says None h = inl refl
    by_says (Some says) h = by_local (says.local == x) refl
      where
        by_local : (p : Bool) → (says.local == x) ≡ p → ((if p then (if same then says.when_true else says.when_false) else unknown) ≡ unknown)
            ⊎ Shows frame t x (if p then (if same then says.when_true else says.when_false) else unknown)
        by_local true k = inr (subst (λ (y : ℕ). Shows frame t y (if same then says.when_true else says.when_false)) (eqb-true says.local x k) h)
        by_local false k = inl refl
