-- What equality and `type` tell of values.
use Rattle.std.proofs.Common.{◌≡◌, ℕ, Bool, true, false, not, ◌||◌, if◌then◌else◌, List, [], ◌∷◌, refl, sym, ◌∙◌, ap, subst, codes}
use Rattle.std.specs.Bool.{beq}
use Rattle.std.specs.Str.{bytes_eq}
use Rattle.std.proofs.lemmas.Slice.Eq.{bytes_eq-Decides}
use Rattle.luau_values.specs.Value.{Value, Nil, Truth, Num, Str, Tab, Lit, Builtin, Other}
use Rattle.luau_values.specs.Heap.{Heap}
use Rattle.luau_tree.specs.Tree.{ExprKind, NilExpr, TrueExpr, FalseExpr, NumberExpr, StrExpr}
use Rattle.luau_run.specs.Answers.{is_other_kind, fits_if, other_kind}
use Rattle.luau_run.specs.Machine.{State, Gave, Answer, One, replied, asked, ask, give}
use Rattle.type_arena.specs.Term.{Term}
use Rattle.type_normal.specs.Holds.{holds}
use Rattle.type_normal.specs.Operations.{union, not_free, is_flat}
use Rattle.type_normal.specs.Kinds.{unknown, nil_type, true_type, false_type, boolean_type, number_type, string_type, function_type, other_type, table_type, text_type}
use Rattle.type_normal.proofs.Public.{not_free_holds, text_holds, text_is_in, unknown_all}
use Rattle.report_rules.specs.Guard.{Says, exactly, kind_equals}
use Rattle.guard_truths.specs.Truths.{MayEqual, MayName}

-- a value is in a set where a test is true, and outside it where the test is false
in_or_out : (h : Heap) (v : Value) (type : Term) (test : Bool) → is_flat type ≡ true → holds h v type ≡ test → holds h v (if test then type else not_free type) ≡ true
in_or_out h v type true flat e = e
in_or_out h v type false flat e = not_free_holds h v type flat ∙ ap not e

-- the constant that an expression of a form is
abbrev pub IsConstant : ExprKind → Value → Type 0
IsConstant NilExpr b = b ≡ Nil
IsConstant TrueExpr b = b ≡ Truth true
IsConstant FalseExpr b = b ≡ Truth false
IsConstant (StrExpr bytes) b = b ≡ Str bytes
IsConstant (NumberExpr text) b = (digits : List ℕ) × (b ≡ Num digits)
IsConstant _ b = Unit {0}

-- what a test of equality may say: of two numbers, of two values of no kind, and of two functions or tables, either; else what the
-- values are
abbrev pub IsEqual : Value → Value → Bool → Type 0
IsEqual (Num a) (Num b) same = Unit {0}
IsEqual (Other a) (Other b) same = Unit {0}
IsEqual (Lit home function cells) (Lit h f c) same = Unit {0}
IsEqual Nil Nil same = same ≡ true
IsEqual (Truth a) (Truth b) same = same ≡ beq a b
IsEqual (Str a) (Str b) same = same ≡ bytes_eq a b
IsEqual (Tab a) (Tab b) same = Unit {0}
IsEqual (Builtin a) (Builtin b) same = Unit {0}
IsEqual _ _ same = same ≡ false

by_test : (h : Heap) (v : Value) (one other : Term) (same test : Bool) → same ≡ test → holds h v (if test then one else other) ≡ true → holds h v (if same then one else other) ≡ true
by_test h v one other same test e k = subst (λ (b : Bool). holds h v (if b then one else other) ≡ true) (sym e) k

pub equals_nil : (h : Heap) (v : Value) (same : Bool) → IsEqual v Nil same → holds h v (if same then nil_type else not_free nil_type) ≡ true
equals_nil h Nil same e = by_test h Nil nil_type (not_free nil_type) same true e refl
equals_nil h (Truth true) same e = by_test h (Truth true) nil_type (not_free nil_type) same false e refl
equals_nil h (Truth false) same e = by_test h (Truth false) nil_type (not_free nil_type) same false e refl
equals_nil h (Num text) same e = by_test h (Num text) nil_type (not_free nil_type) same false e refl
equals_nil h (Str bytes) same e = by_test h (Str bytes) nil_type (not_free nil_type) same false e refl
equals_nil h (Tab address) same e = by_test h (Tab address) nil_type (not_free nil_type) same false e refl
equals_nil h (Lit home function cells) same e = by_test h (Lit home function cells) nil_type (not_free nil_type) same false e refl
equals_nil h (Builtin path) same e = by_test h (Builtin path) nil_type (not_free nil_type) same false e refl
equals_nil h (Other number) same e = by_test h (Other number) nil_type (not_free nil_type) same false e refl

pub equals_true : (h : Heap) (v : Value) (same : Bool) → IsEqual v (Truth true) same → holds h v (if same then true_type else not_free true_type) ≡ true
equals_true h Nil same e = by_test h Nil true_type (not_free true_type) same false e refl
equals_true h (Truth true) same e = by_test h (Truth true) true_type (not_free true_type) same true e refl
equals_true h (Truth false) same e = by_test h (Truth false) true_type (not_free true_type) same false e refl
equals_true h (Num text) same e = by_test h (Num text) true_type (not_free true_type) same false e refl
equals_true h (Str bytes) same e = by_test h (Str bytes) true_type (not_free true_type) same false e refl
equals_true h (Tab address) same e = by_test h (Tab address) true_type (not_free true_type) same false e refl
equals_true h (Lit home function cells) same e = by_test h (Lit home function cells) true_type (not_free true_type) same false e refl
equals_true h (Builtin path) same e = by_test h (Builtin path) true_type (not_free true_type) same false e refl
equals_true h (Other number) same e = by_test h (Other number) true_type (not_free true_type) same false e refl

pub equals_false : (h : Heap) (v : Value) (same : Bool) → IsEqual v (Truth false) same → holds h v (if same then false_type else not_free false_type) ≡ true
equals_false h Nil same e = by_test h Nil false_type (not_free false_type) same false e refl
equals_false h (Truth true) same e = by_test h (Truth true) false_type (not_free false_type) same false e refl
equals_false h (Truth false) same e = by_test h (Truth false) false_type (not_free false_type) same true e refl
equals_false h (Num text) same e = by_test h (Num text) false_type (not_free false_type) same false e refl
equals_false h (Str bytes) same e = by_test h (Str bytes) false_type (not_free false_type) same false e refl
equals_false h (Tab address) same e = by_test h (Tab address) false_type (not_free false_type) same false e refl
equals_false h (Lit home function cells) same e = by_test h (Lit home function cells) false_type (not_free false_type) same false e refl
equals_false h (Builtin path) same e = by_test h (Builtin path) false_type (not_free false_type) same false e refl
equals_false h (Other number) same e = by_test h (Other number) false_type (not_free false_type) same false e refl

-- a string is in the type of one string where they are the same
text_test : (h : Heap) (one other : List ℕ) → holds h (Str one) (text_type other) ≡ bytes_eq one other
text_test h one other = by_holds (holds h (Str one) (text_type other)) (bytes_eq one other) refl refl
  where
    same : Str one ≡ Str other → one ≡ other
    same k = cc

    clash : (b : Bool) → b ≡ true → b ≡ false → ⊥
    clash b p q = cc

    by_holds : (p q : Bool) → holds h (Str one) (text_type other) ≡ p → bytes_eq one other ≡ q → holds h (Str one) (text_type other) ≡ bytes_eq one other
    by_holds true q e k = e ∙ sym ((bytes_eq-Decides one other).1 (same (text_holds h (Str one) other e)))
    by_holds false true e k = absurd (clash (holds h (Str one) (text_type other))
        (subst (λ (x : List ℕ). holds h (Str x) (text_type other) ≡ true) (sym ((bytes_eq-Decides one other).0 k)) (text_is_in h other)) e)
    by_holds false false e k = e ∙ sym k

pub equals_text : (h : Heap) (v : Value) (bytes : List ℕ) (same : Bool) → IsEqual v (Str bytes) same → holds h v (if same then text_type bytes else not_free (text_type bytes)) ≡ true
equals_text h Nil bytes same e = by_test h Nil (text_type bytes) (not_free (text_type bytes)) same false e refl
equals_text h (Truth true) bytes same e = by_test h (Truth true) (text_type bytes) (not_free (text_type bytes)) same false e refl
equals_text h (Truth false) bytes same e = by_test h (Truth false) (text_type bytes) (not_free (text_type bytes)) same false e refl
equals_text h (Num text) bytes same e = by_test h (Num text) (text_type bytes) (not_free (text_type bytes)) same false e refl
equals_text h (Str other) bytes same e = by_test h (Str other) (text_type bytes) (not_free (text_type bytes)) same (bytes_eq other bytes) e
    (in_or_out h (Str other) (text_type bytes) (bytes_eq other bytes) refl (text_test h other bytes))
equals_text h (Tab address) bytes same e = by_test h (Tab address) (text_type bytes) (not_free (text_type bytes)) same false e refl
equals_text h (Lit home function cells) bytes same e = by_test h (Lit home function cells) (text_type bytes) (not_free (text_type bytes)) same false e refl
equals_text h (Builtin path) bytes same e = by_test h (Builtin path) (text_type bytes) (not_free (text_type bytes)) same false e refl
equals_text h (Other number) bytes same e = by_test h (Other number) (text_type bytes) (not_free (text_type bytes)) same false e refl

pub equals_number : (h : Heap) (v : Value) (digits : List ℕ) (same : Bool) → IsEqual v (Num digits) same → holds h v (if same then number_type else unknown) ≡ true
equals_number h Nil digits same e = by_test h Nil number_type unknown same false e refl
equals_number h (Truth true) digits same e = by_test h (Truth true) number_type unknown same false e refl
equals_number h (Truth false) digits same e = by_test h (Truth false) number_type unknown same false e refl
equals_number h (Num text) digits true e = refl
equals_number h (Num text) digits false e = refl
equals_number h (Str bytes) digits same e = by_test h (Str bytes) number_type unknown same false e (unknown_all h (Str bytes))
equals_number h (Tab address) digits same e = by_test h (Tab address) number_type unknown same false e (unknown_all h (Tab address))
equals_number h (Lit home function cells) digits same e = by_test h (Lit home function cells) number_type unknown same false e (unknown_all h (Lit home function cells))
equals_number h (Builtin path) digits same e = by_test h (Builtin path) number_type unknown same false e (unknown_all h (Builtin path))
equals_number h (Other number) digits same e = by_test h (Other number) number_type unknown same false e refl

-- a text is the name of a value's kind
abbrev pub IsNamed : Value → List ℕ → Type 0
IsNamed Nil name = name ≡ codes "nil"
IsNamed (Truth truth) name = name ≡ codes "boolean"
IsNamed (Num text) name = name ≡ codes "number"
IsNamed (Str bytes) name = name ≡ codes "string"
IsNamed (Tab address) name = name ≡ codes "table"
IsNamed (Lit home function cells) name = name ≡ codes "function"
IsNamed (Builtin path) name = name ≡ codes "function"
IsNamed (Other number) name = is_other_kind name ≡ true

-- the name of what is of no kind is none of the first five
other_names : (name : List ℕ) → is_other_kind name ≡ true → (bytes_eq name (codes "nil") ≡ false) × (bytes_eq name (codes "boolean") ≡ false) × (bytes_eq name (codes "number") ≡ false)
    × (bytes_eq name (codes "string") ≡ false) × (bytes_eq name (codes "function") ≡ false)
other_names name e = by_tests (bytes_eq name (codes "nil")) (bytes_eq name (codes "boolean")) (bytes_eq name (codes "number")) (bytes_eq name (codes "string")) (bytes_eq name (codes "function")) e
  where
    by_tests : (p q r s z : Bool) → not (p || (q || (r || (s || (z || false))))) ≡ true
        → (p ≡ false) × (q ≡ false) × (r ≡ false) × (s ≡ false) × (z ≡ false)
    by_tests false false false false false k = (refl, refl, refl, refl, refl)
    by_tests true q r s z k = cc
    by_tests false true r s z k = cc
    by_tests false false true s z k = cc
    by_tests false false false true z k = cc
    by_tests false false false false true k = cc

-- a value is of a kind with a name of its own where its kind's name is that
abbrev KindTest : Term → List ℕ → Type 0
KindTest type kind = (h : Heap) (v : Value) (name : List ℕ) → IsNamed v name → holds h v type ≡ bytes_eq name kind

turn : (a : Bool) (name kind own : List ℕ) → name ≡ own → a ≡ bytes_eq own kind → a ≡ bytes_eq name kind
turn a name kind own e k = k ∙ ap (λ (x : List ℕ). bytes_eq x kind) (sym e)

nil_test : KindTest nil_type (codes "nil")
nil_test h Nil name e = turn true name (codes "nil") (codes "nil") e refl
nil_test h (Truth true) name e = turn false name (codes "nil") (codes "boolean") e refl
nil_test h (Truth false) name e = turn false name (codes "nil") (codes "boolean") e refl
nil_test h (Num text) name e = turn false name (codes "nil") (codes "number") e refl
nil_test h (Str bytes) name e = turn false name (codes "nil") (codes "string") e refl
nil_test h (Tab address) name e = turn false name (codes "nil") (codes "table") e refl
nil_test h (Lit home function cells) name e = turn false name (codes "nil") (codes "function") e refl
nil_test h (Builtin path) name e = turn false name (codes "nil") (codes "function") e refl
nil_test h (Other number) name e = sym (other_names name e).0

boolean_test : KindTest boolean_type (codes "boolean")
boolean_test h Nil name e = turn false name (codes "boolean") (codes "nil") e refl
boolean_test h (Truth true) name e = turn true name (codes "boolean") (codes "boolean") e refl
boolean_test h (Truth false) name e = turn true name (codes "boolean") (codes "boolean") e refl
boolean_test h (Num text) name e = turn false name (codes "boolean") (codes "number") e refl
boolean_test h (Str bytes) name e = turn false name (codes "boolean") (codes "string") e refl
boolean_test h (Tab address) name e = turn false name (codes "boolean") (codes "table") e refl
boolean_test h (Lit home function cells) name e = turn false name (codes "boolean") (codes "function") e refl
boolean_test h (Builtin path) name e = turn false name (codes "boolean") (codes "function") e refl
boolean_test h (Other number) name e = sym (other_names name e).1

number_test : KindTest number_type (codes "number")
number_test h Nil name e = turn false name (codes "number") (codes "nil") e refl
number_test h (Truth true) name e = turn false name (codes "number") (codes "boolean") e refl
number_test h (Truth false) name e = turn false name (codes "number") (codes "boolean") e refl
number_test h (Num text) name e = turn true name (codes "number") (codes "number") e refl
number_test h (Str bytes) name e = turn false name (codes "number") (codes "string") e refl
number_test h (Tab address) name e = turn false name (codes "number") (codes "table") e refl
number_test h (Lit home function cells) name e = turn false name (codes "number") (codes "function") e refl
number_test h (Builtin path) name e = turn false name (codes "number") (codes "function") e refl
number_test h (Other number) name e = sym (other_names name e).2

string_test : KindTest string_type (codes "string")
string_test h Nil name e = turn false name (codes "string") (codes "nil") e refl
string_test h (Truth true) name e = turn false name (codes "string") (codes "boolean") e refl
string_test h (Truth false) name e = turn false name (codes "string") (codes "boolean") e refl
string_test h (Num text) name e = turn false name (codes "string") (codes "number") e refl
string_test h (Str bytes) name e = turn true name (codes "string") (codes "string") e refl
string_test h (Tab address) name e = turn false name (codes "string") (codes "table") e refl
string_test h (Lit home function cells) name e = turn false name (codes "string") (codes "function") e refl
string_test h (Builtin path) name e = turn false name (codes "string") (codes "function") e refl
string_test h (Other number) name e = sym (other_names name e).3

function_test : KindTest function_type (codes "function")
function_test h Nil name e = turn false name (codes "function") (codes "nil") e refl
function_test h (Truth true) name e = turn false name (codes "function") (codes "boolean") e refl
function_test h (Truth false) name e = turn false name (codes "function") (codes "boolean") e refl
function_test h (Num text) name e = turn false name (codes "function") (codes "number") e refl
function_test h (Str bytes) name e = turn false name (codes "function") (codes "string") e refl
function_test h (Tab address) name e = turn false name (codes "function") (codes "table") e refl
function_test h (Lit home function cells) name e = turn true name (codes "function") (codes "function") e refl
function_test h (Builtin path) name e = turn true name (codes "function") (codes "function") e refl
function_test h (Other number) name e = sym (other_names name e).4

-- "table": a value of no kind may have that name too
table_test : (h : Heap) (v : Value) (name : List ℕ) (same : Bool) → IsNamed v name → same ≡ bytes_eq name (codes "table")
    → holds h v (if same then union table_type other_type else not_free table_type) ≡ true
table_test h Nil name same e k = by_test h Nil (union table_type other_type) (not_free table_type) same false (k ∙ sym (turn false name (codes "table") (codes "nil") e refl)) refl
table_test h (Truth true) name same e k = by_test h (Truth true) (union table_type other_type) (not_free table_type) same false (k ∙ sym (turn false name (codes "table") (codes "boolean") e refl)) refl
table_test h (Truth false) name same e k = by_test h (Truth false) (union table_type other_type) (not_free table_type) same false (k ∙ sym (turn false name (codes "table") (codes "boolean") e refl)) refl
table_test h (Num text) name same e k = by_test h (Num text) (union table_type other_type) (not_free table_type) same false (k ∙ sym (turn false name (codes "table") (codes "number") e refl)) refl
table_test h (Str bytes) name same e k = by_test h (Str bytes) (union table_type other_type) (not_free table_type) same false (k ∙ sym (turn false name (codes "table") (codes "string") e refl)) refl
table_test h (Tab address) name same e k = by_test h (Tab address) (union table_type other_type) (not_free table_type) same true (k ∙ sym (turn true name (codes "table") (codes "table") e refl)) refl
table_test h (Lit home function cells) name same e k =
    by_test h (Lit home function cells) (union table_type other_type) (not_free table_type) same false (k ∙ sym (turn false name (codes "table") (codes "function") e refl)) refl
table_test h (Builtin path) name same e k =
    by_test h (Builtin path) (union table_type other_type) (not_free table_type) same false (k ∙ sym (turn false name (codes "table") (codes "function") e refl)) refl
table_test h (Other number) name true e k = refl
table_test h (Other number) name false e k = refl

-- another text: only a value of no kind may have it for its kind's name
abbrev IsNone : List ℕ → Type 0
IsNone kind = (bytes_eq (codes "nil") kind ≡ false) × (bytes_eq (codes "boolean") kind ≡ false) × (bytes_eq (codes "number") kind ≡ false) × (bytes_eq (codes "string") kind ≡ false)
    × (bytes_eq (codes "function") kind ≡ false) × (bytes_eq (codes "table") kind ≡ false)

none_test : (h : Heap) (v : Value) (name kind : List ℕ) (same : Bool) → IsNone kind → IsNamed v name → same ≡ bytes_eq name kind → holds h v (if same then other_type else unknown) ≡ true
none_test h Nil name kind same n e k = by_test h Nil other_type unknown same false (k ∙ sym (turn false name kind (codes "nil") e (sym n.0))) (unknown_all h Nil)
none_test h (Truth truth) name kind same n e k =
    by_test h (Truth truth) other_type unknown same false (k ∙ sym (turn false name kind (codes "boolean") e (sym n.1))) (unknown_all h (Truth truth))
none_test h (Num text) name kind same n e k = by_test h (Num text) other_type unknown same false (k ∙ sym (turn false name kind (codes "number") e (sym n.2))) (unknown_all h (Num text))
none_test h (Str bytes) name kind same n e k =
    by_test h (Str bytes) other_type unknown same false (k ∙ sym (turn false name kind (codes "string") e (sym n.3))) (unknown_all h (Str bytes))
none_test h (Tab address) name kind same n e k =
    by_test h (Tab address) other_type unknown same false (k ∙ sym (turn false name kind (codes "table") e (sym n.5))) (unknown_all h (Tab address))
none_test h (Lit home function cells) name kind same n e k =
    by_test h (Lit home function cells) other_type unknown same false (k ∙ sym (turn false name kind (codes "function") e (sym n.4))) (unknown_all h (Lit home function cells))
none_test h (Builtin path) name kind same n e k =
    by_test h (Builtin path) other_type unknown same false (k ∙ sym (turn false name kind (codes "function") e (sym n.4))) (unknown_all h (Builtin path))
none_test h (Other number) name kind true n e k = refl
none_test h (Other number) name kind false n e k = refl

-- the two ways of a comparison of texts
bytes_back : (one other : List ℕ) (b : Bool) → bytes_eq one other ≡ b → bytes_eq other one ≡ b
bytes_back one other true e = (bytes_eq-Decides other one).1 (sym ((bytes_eq-Decides one other).0 e))
bytes_back one other false e = by_back (bytes_eq other one) refl
  where
    clash : (b : Bool) → b ≡ true → b ≡ false → ⊥
    clash b p q = cc

    by_back : (b : Bool) → bytes_eq other one ≡ b → bytes_eq other one ≡ false
    by_back true k = absurd (clash (bytes_eq one other) ((bytes_eq-Decides one other).1 (sym ((bytes_eq-Decides other one).0 k))) e)
    by_back false k = k

abbrev pub WayOf : Says → Bool → Term
WayOf says same = if same then says.when_true else says.when_false

-- what the rules say of a kind's name is so
pub kind_shown : (h : Heap) (v : Value) (x : ℕ) (name kind : List ℕ) (same : Bool) → IsNamed v name → same ≡ bytes_eq name kind → holds h v (WayOf (kind_equals x kind) same) ≡ true
kind_shown h v x name kind same named e = by_tests (bytes_eq kind (codes "nil")) (bytes_eq kind (codes "boolean")) (bytes_eq kind (codes "number")) (bytes_eq kind (codes "string"))
    (bytes_eq kind (codes "function")) (bytes_eq kind (codes "table")) refl refl refl refl refl refl
  where
    exact : (type : Term) (own : List ℕ) → is_flat type ≡ true → KindTest type own → bytes_eq kind own ≡ true → holds h v (if same then type else not_free type) ≡ true
    exact type own flat test k = by_test h v type (not_free type) same (bytes_eq name own) (e ∙ ap (λ (y : List ℕ). bytes_eq name y) ((bytes_eq-Decides kind own).0 k))
        (in_or_out h v type (bytes_eq name own) flat (test h v name named))

    by_tests : (p q r s z y : Bool) → bytes_eq kind (codes "nil") ≡ p → bytes_eq kind (codes "boolean") ≡ q → bytes_eq kind (codes "number") ≡ r → bytes_eq kind (codes "string") ≡ s
        → bytes_eq kind (codes "function") ≡ z → bytes_eq kind (codes "table") ≡ y
        → holds h v (WayOf (if p then exactly x nil_type else (if q then exactly x boolean_type else (if r then exactly x number_type else (if s then exactly x string_type
        else (if z then exactly x function_type else (if y then record { local = x; when_true = union table_type other_type; when_false = not_free table_type }
        else record { local = x; when_true = other_type; when_false = unknown })))))) same) ≡ true
    by_tests true q r s z y a b c d f g = exact nil_type (codes "nil") refl nil_test a
    by_tests false true r s z y a b c d f g = exact boolean_type (codes "boolean") refl boolean_test b
    by_tests false false true s z y a b c d f g = exact number_type (codes "number") refl number_test c
    by_tests false false false true z y a b c d f g = exact string_type (codes "string") refl string_test d
    by_tests false false false false true y a b c d f g = exact function_type (codes "function") refl function_test f
    by_tests false false false false false true a b c d f g = table_test h v name same named (e ∙ ap (λ (y : List ℕ). bytes_eq name y) ((bytes_eq-Decides kind (codes "table")).0 g))
    by_tests false false false false false false a b c d f g = none_test h v name kind same (
      bytes_back kind (codes "nil") false a,
      bytes_back kind (codes "boolean") false b,
      bytes_back kind (codes "number") false c,
      bytes_back kind (codes "string") false d,
      bytes_back kind (codes "function") false f,
      bytes_back kind (codes "table") false g,
    ) named e

truth_back : (a b same : Bool) → same ≡ beq a b → same ≡ beq b a
truth_back true true same e = e
truth_back true false same e = e
truth_back false true same e = e
truth_back false false same e = e

-- equality is the same either way
pub equal_back : (a b : Value) (same : Bool) → IsEqual a b same → IsEqual b a same
equal_back (Num a) (Num b) same e = tt
equal_back (Other a) (Other b) same e = tt
equal_back (Lit home function cells) (Lit h f c) same e = tt
equal_back Nil Nil same e = e
equal_back (Truth a) (Truth b) same e = truth_back a b same e
equal_back (Str a) (Str b) same e = e ∙ sym (bytes_back a b (bytes_eq a b) refl)
equal_back (Tab a) (Tab b) same e = tt
equal_back (Builtin a) (Builtin b) same e = tt
equal_back _ _ same e = e

-- ---- what the run gives

given : {A : Type 0} (x y : A) (s t : State) → give x s ≡ Gave y t → y ≡ x
unfolding give
given x y s t e = cc

pub equal_of : (a b : Value) (same : Bool) → MayEqual a b same → IsEqual a b same
equal_of (Num a) (Num b) same e = tt
equal_of (Other a) (Other b) same e = tt
equal_of (Lit home function cells) (Lit h f c) same e = tt
equal_of Nil Nil same e = given true same e.0 e.1 e.2
equal_of (Truth a) (Truth b) same e = given (beq a b) same e.0 e.1 e.2
equal_of (Str a) (Str b) same e = given (bytes_eq a b) same e.0 e.1 e.2
equal_of (Tab a) (Tab b) same e = tt
equal_of (Builtin a) (Builtin b) same e = tt
equal_of _ _ same e = given false same e.0 e.1 e.2

by_name : (b : Bool) (k : List ℕ) (v : Value) (before after t : State) → is_other_kind k ≡ b → replied (fits_if b (Str k)) before after ≡ Gave v t → (name : List ℕ) × (v ≡ Str name) × (is_other_kind name ≡ true)
by_name true k v before after t e g = (k, cc, e)
by_name false k v before after t e g = cc

asked_name : (tape : List Answer) (v : Value) (s t : State) → asked other_kind tape s ≡ Gave v t → (name : List ℕ) × (v ≡ Str name) × (is_other_kind name ≡ true)
asked_name [] v s t e = cc
asked_name (One (Str k) ∷ rest) v s t e = by_name (is_other_kind k) k v s (record s { tape = rest }) t refl e
asked_name (_ ∷ rest) v s t e = cc

pub name_of : (v a : Value) → MayName v a → (name : List ℕ) × (a ≡ Str name) × IsNamed v name
unfolding ask
name_of Nil a e = (codes "nil", given (Str (codes "nil")) a e.0 e.1 e.2, refl)
name_of (Truth truth) a e = (codes "boolean", given (Str (codes "boolean")) a e.0 e.1 e.2, refl)
name_of (Num text) a e = (codes "number", given (Str (codes "number")) a e.0 e.1 e.2, refl)
name_of (Str bytes) a e = (codes "string", given (Str (codes "string")) a e.0 e.1 e.2, refl)
name_of (Tab address) a e = (codes "table", given (Str (codes "table")) a e.0 e.1 e.2, refl)
name_of (Lit home function cells) a e = (codes "function", given (Str (codes "function")) a e.0 e.1 e.2, refl)
name_of (Builtin path) a e = (codes "function", given (Str (codes "function")) a e.0 e.1 e.2, refl)
name_of (Other number) a e = asked_name e.0.tape a e.0 e.1 e.2
