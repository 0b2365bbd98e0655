-- How tightly operators bind: what may stand at an operator's sides, by the numbers of the table.
use Rattle.std.proofs.Common.{◌≡◌, ◌≢◌, ℕ, ◌-◌, ◌<◌, ◌≤◌, min, Bool, true, false, not, ◌&&◌, ◌||◌, leb, eqb, refl, sym, ap, ◌∙◌, arith}
use Rattle.std.specs.Prelude.{if◌then◌else◌}
use Rattle.std.proofs.lemmas.Bool.{true≢false, false≢true, and_parts, leb-true, eqb-false, not-true}
use Rattle.luau_tree.specs.declared.position.Span.{Span}
use Rattle.luau_tree.specs.declared.names.UnOp.{UnOp}
use Rattle.luau_tree.specs.declared.names.BinOp.{BinOp}
use Rattle.luau_tree.specs.declared.names.BinOp.TheVariants as bin
use Rattle.luau_tree.specs.Tree.{Expr}
use Rattle.luau_tree.specs.Tree as tree
use Rattle.luau_grammar.specs.Operators.{tightness, unary_tightness, no_operator, groups_right, loosest_left, loosest_right, HasOperandsBy, HasOperands}
use Rattle.luau_grammar.specs.ReadExpressions.{right_least}

-- What stands at an operator's left binds tightly enough.
abbrev pub FitsBy : Bool → ℕ → ℕ → Type 0
FitsBy true op left = op < left
FitsBy false op left = op ≤ left

abbrev pub Fits : BinOp → Expr → Type 0
Fits op left = FitsBy (groups_right op) (tightness op) (loosest_right left)

-- ---- the table

-- whether the operators that bind so tightly group to the right
abbrev groups_at : ℕ → Bool
groups_at op = eqb op 4 || eqb op 8

abbrev is_usual : ℕ → Bool
is_usual op = leb 1 op && (leb op 8 && not (eqb op 7))

grouped : (op : BinOp) → groups_right op ≡ groups_at (tightness op)
grouped bin.Or = refl
grouped bin.And = refl
grouped bin.Less = refl
grouped bin.Greater = refl
grouped bin.LessEqual = refl
grouped bin.GreaterEqual = refl
grouped bin.NotEqual = refl
grouped bin.Equal = refl
grouped bin.Concat = refl
grouped bin.Add = refl
grouped bin.Sub = refl
grouped bin.Mul = refl
grouped bin.Div = refl
grouped bin.FloorDiv = refl
grouped bin.Mod = refl
grouped bin.Pow = refl

usual : (op : BinOp) → is_usual (tightness op) ≡ true
usual bin.Or = refl
usual bin.And = refl
usual bin.Less = refl
usual bin.Greater = refl
usual bin.LessEqual = refl
usual bin.GreaterEqual = refl
usual bin.NotEqual = refl
usual bin.Equal = refl
usual bin.Concat = refl
usual bin.Add = refl
usual bin.Sub = refl
usual bin.Mul = refl
usual bin.Div = refl
usual bin.FloorDiv = refl
usual bin.Mod = refl
usual bin.Pow = refl

-- operators that bind alike group alike
alike : (other op : BinOp) → tightness other ≡ tightness op → groups_right other ≡ groups_right op
alike other op e = grouped other ∙ ap groups_at e ∙ sym (grouped op)

pub positive : (op : BinOp) → 1 ≤ tightness op
positive op = leb-true 1 (tightness op) (and_parts (leb 1 (tightness op)) (leb (tightness op) 8 && not (eqb (tightness op) 7)) (usual op)).0

rest_usual : (op : BinOp) → (leb (tightness op) 8 && not (eqb (tightness op) 7)) ≡ true
rest_usual op = (and_parts (leb 1 (tightness op)) (leb (tightness op) 8 && not (eqb (tightness op) 7)) (usual op)).1

pub below : (op : BinOp) → tightness op < no_operator
below op =
    let most : tightness op ≤ 8 = leb-true (tightness op) 8 (and_parts (leb (tightness op) 8) (not (eqb (tightness op) 7)) (rest_usual op)).0 in
    omega arith

pub not_unary : (op : BinOp) → tightness op ≡ 7 → ⊥
not_unary op =
    eqb-false (tightness op) 7 (not-true (eqb (tightness op) 7) (and_parts (leb (tightness op) 8) (not (eqb (tightness op) 7)) (rest_usual op)).1)

-- ---- by numbers

abbrev least_by : Bool → ℕ → ℕ
least_by right op = if right then op - 1 else op

least_is : (op : BinOp) → right_least op ≡ least_by (groups_right op) (tightness op)
unfolding right_least
least_is op = refl

operands_by : (way : Bool) (op left right : ℕ) → 1 ≤ op → FitsBy way op left → least_by way op < right → HasOperandsBy way op left right
operands_by true op left right pos fits tight = (fits, omega arith)
operands_by false op left right pos fits tight = (fits, tight)

fits_of : (way : Bool) (op left right : ℕ) → HasOperandsBy way op left right → FitsBy way op left
fits_of true op left right h = h.0
fits_of false op left right h = h.0

tight_of : (way : Bool) (op left right : ℕ) → 1 ≤ op → HasOperandsBy way op left right → least_by way op < right
tight_of true op left right pos h = let k : op ≤ right = h.1 in omega arith
tight_of false op left right pos h = h.1

fits_over : (way_other way : Bool) (other op right : ℕ) → (other ≡ op → way_other ≡ way) → 1 ≤ op → other ≤ least_by way op
    → FitsBy way_other other right → FitsBy way_other other (min op right)
fits_over true true other op right same pos least fits = omega arith
fits_over true false other op right same pos least fits =
    let apart : other ≢ op = λ e. true≢false (same e) in omega arith
fits_over false true other op right same pos least fits = omega arith
fits_over false false other op right same pos least fits = omega arith

least_over : (way_other way : Bool) (other op right : ℕ) → (other ≡ op → way_other ≡ way) → 1 ≤ op
    → FitsBy way_other other (min op right) → other ≤ least_by way op
least_over true true other op right same pos fits = omega arith
least_over true false other op right same pos fits = omega arith
least_over false true other op right same pos fits =
    let apart : other ≢ op = λ e. false≢true (same e) in omega arith
least_over false false other op right same pos fits = omega arith

fits_under : (way : Bool) (other op right : ℕ) → FitsBy way other (min op right) → FitsBy way other right
fits_under true other op right fits = omega arith
fits_under false other op right fits = omega arith

le_of_fits : (way : Bool) (op left : ℕ) → FitsBy way op left → op ≤ left
le_of_fits true op left fits = omega arith
le_of_fits false op left fits = fits

fits_seven : (way : Bool) (other right : ℕ) → (other ≡ 7 → ⊥) → other ≤ 7 → FitsBy way other right → FitsBy way other (min 7 right)
fits_seven true other right apart least fits = omega arith
fits_seven false other right apart least fits = omega arith

fits_most : (way : Bool) (op : ℕ) → op < no_operator → FitsBy way op no_operator
fits_most true op h = h
fits_most false op h = omega arith

-- ---- by trees

-- An operator fits behind a tree without operators at its right end.
pub fits_operand : (op : BinOp) (e : Expr) → loosest_right e ≡ no_operator → Fits op e
fits_operand op e is = rw is (fits_most (groups_right op) (tightness op) (below op))

pub has_operands : (op : BinOp) (left right : Expr) → Fits op left → right_least op < loosest_left right → HasOperands op left right
has_operands op left right fits tight =
    operands_by (groups_right op) (tightness op) (loosest_right left) (loosest_left right) (positive op) fits (rw (least_is op) at tight)

pub left_fits : (op : BinOp) (left right : Expr) → HasOperands op left right → Fits op left
left_fits op left right = fits_of (groups_right op) (tightness op) (loosest_right left) (loosest_left right)

pub right_tight : (op : BinOp) (left right : Expr) → HasOperands op left right → right_least op < loosest_left right
right_tight op left right h =
    rw (least_is op) (tight_of (groups_right op) (tightness op) (loosest_right left) (loosest_left right) (positive op) h)

-- what fits behind the right operand, and binds no tighter than the operator lets its operand take, fits behind the whole
pub fits_behind : (other op : BinOp) (id : ℕ) (span : Span) (left right : Expr) → tightness other ≤ right_least op → Fits other right
    → Fits other (tree.the_expr id span (tree.Binary op left right))
fits_behind other op id span left right least fits =
    fits_over (groups_right other) (groups_right op) (tightness other) (tightness op) (loosest_right right) (alike other op) (positive op)
    (rw (least_is op) at least) fits

pub least_behind : (other op : BinOp) (id : ℕ) (span : Span) (left right : Expr)
    → Fits other (tree.the_expr id span (tree.Binary op left right)) → tightness other ≤ right_least op
least_behind other op id span left right fits =
    rw (least_is op) (least_over (groups_right other) (groups_right op) (tightness other) (tightness op) (loosest_right right) (alike other op)
    (positive op) fits)

pub fits_right : (other op : BinOp) (id : ℕ) (span : Span) (left right : Expr)
    → Fits other (tree.the_expr id span (tree.Binary op left right)) → Fits other right
fits_right other op id span left right = fits_under (groups_right other) (tightness other) (tightness op) (loosest_right right)

-- the same of a unary operator
pub fits_behind_unary : (other : BinOp) (op : UnOp) (id : ℕ) (span : Span) (e : Expr) → tightness other ≤ unary_tightness → Fits other e
    → Fits other (tree.the_expr id span (tree.Unary op e))
fits_behind_unary other op id span e = fits_seven (groups_right other) (tightness other) (loosest_right e) (not_unary other)

pub least_behind_unary : (other : BinOp) (op : UnOp) (id : ℕ) (span : Span) (e : Expr) → Fits other (tree.the_expr id span (tree.Unary op e))
    → tightness other ≤ unary_tightness
least_behind_unary other op id span e fits =
    let under : tightness other ≤ min 7 (loosest_right e) = le_of_fits (groups_right other) (tightness other) (min 7 (loosest_right e)) fits in
    omega arith

pub fits_operand_of : (other : BinOp) (op : UnOp) (id : ℕ) (span : Span) (e : Expr) → Fits other (tree.the_expr id span (tree.Unary op e))
    → Fits other e
fits_operand_of other op id span e = fits_under (groups_right other) (tightness other) 7 (loosest_right e)

-- the least of a right operand is no more than an operator
pub least_below : (op : BinOp) → right_least op < no_operator
least_below op = rw (least_is op) (below_by (groups_right op) (tightness op) (below op))
  where
    below_by : (way : Bool) (n : ℕ) → n < no_operator → least_by way n < no_operator
    below_by true n h = omega arith
    below_by false n h = h
