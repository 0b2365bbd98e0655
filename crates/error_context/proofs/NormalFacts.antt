-- What conditions say of locals, and the sets that the rules ask for, are types in normal form.
use Rattle.std.proofs.Common.{◌≡◌, ℕ, suc, ◌<◌, ◌==◌, Bool, true, false, not, List, [], ◌∷◌, refl, sym, ap, ◌∙◌, arith}
use Rattle.std.specs.Prelude.{◌||◌, Option, Some, None, All, if◌then◌else◌, ⊤, codes}
use Rattle.std.specs.Str.{bytes_eq}
use Rattle.std.proofs.lemmas.Bool.{eq-eqb, eqb-true}
use Rattle.std.proofs.lemmas.List.Elements.{All-nil, All-cons}
use Rattle.luau_tree.specs.declared.names.BinOp.{BinOp}
use Rattle.luau_tree.specs.declared.names.BinOp.TheVariants.{Or, And, Equal, NotEqual, Less, Greater, LessEqual, GreaterEqual}
use Rattle.luau_tree.specs.declared.names.UnOp.{UnOp}
use Rattle.luau_tree.specs.declared.names.UnOp.TheVariants.{Not, Minus, Length}
use Rattle.luau_tree.specs.Tree.{Expr, the_expr, ExprKind, NilExpr, TrueExpr, FalseExpr, NumberExpr, StrExpr, NameExpr, Paren, Unary, Binary}
use Rattle.luau_run.specs.ReadFolder.{local_of}
use Rattle.type_arena.specs.Arena.{store_of}
use Rattle.type_arena.specs.Meaning.{term_of}
use Rattle.type_arena.specs.Term.{Term, term, no_rows, more_rows, no_fields, more_fields, never}
use Rattle.type_arena.specs.declared.arena.Arena.{Arena}
use Rattle.type_arena.specs.declared.node.TypeRef.{TypeRef}
use Rattle.type_normal.specs.Failing.{arith_fail, order_fail_with_number, order_fail_with_string}
use Rattle.type_normal.specs.Free.{no_values, is_normal_free}
use Rattle.type_normal.specs.Kinds.{unknown, nil_type, boolean_type, number_type, string_type, function_type, truthy, falsy, field_is}
use Rattle.type_normal.specs.Operations.{with_tables, fail}
use Rattle.type_normal.specs.Rows.{put_row, is_empty, is_unknown, is_normal}
use Rattle.type_normal.proofs.HoldsFacts.{left, both}
use Rattle.type_ops.proofs.KeepFacts.{union_normal, meet_normal, not_free_normal}
use Rattle.subtype_check.specs.Below.{below}
use Rattle.report_rules.specs.Forward.{not_other}
use Rattle.report_rules.specs.Rules.{Rules}
use Rattle.report_rules.specs.Guard.{Says, exactly, equals, kind_equals, firm_only, firm_local, kind_subject, kind_says, local_says, or_else, side_says, equality, said, name_says, joined_guard, guard, guard_of_kind}
use Rattle.report_rules.specs.Checks.{ReportKind, left as left_set, arithmetic_set, order_set, operand_set, unary_set}
use Rattle.error_context.specs.Entries.{Entries, entry_or, guard_of, refs_in, locals_in, AscendFrom, AreThere, IsGuard}
use Rattle.error_context.proofs.PairFacts.{differs}

-- ---- what tests say

-- both types of what a test says are in normal form
record Normal (says : Says) : Type 0 where
  when_true : is_normal says.when_true ≡ true
  when_false : is_normal says.when_false ≡ true

NormalIf : Option Says → Type 0
NormalIf None = ⊤
NormalIf (Some says) = Normal says

exactly_normal : (local : ℕ) (type : Term) → is_normal type ≡ true → Normal (exactly local type)
exactly_normal local type n = record { when_true = n; when_false = not_free_normal type n }

either_normal : (b : Bool) (s t : Says) → Normal s → Normal t → Normal (if b then s else t)
either_normal true s t p q = p
either_normal false s t p q = q

equals_normal : (local : ℕ) (kind : ExprKind) → NormalIf (equals local kind)
unfolding NormalIf
equals_normal local NilExpr = record { when_true = refl; when_false = refl }
equals_normal local TrueExpr = record { when_true = refl; when_false = refl }
equals_normal local FalseExpr = record { when_true = refl; when_false = refl }
equals_normal local (StrExpr bytes) = record { when_true = refl; when_false = refl }
equals_normal local (NumberExpr text) = record { when_true = refl; when_false = refl }
equals_normal local _ = tt

kind_normal : (local : ℕ) (name : List ℕ) → Normal (kind_equals local name)
kind_normal local name =
    either_normal (bytes_eq name (codes "nil")) _ _ (exactly_normal local nil_type refl)
    (either_normal (bytes_eq name (codes "boolean")) _ _ (exactly_normal local boolean_type refl)
    (either_normal (bytes_eq name (codes "number")) _ _ (exactly_normal local number_type refl)
    (either_normal (bytes_eq name (codes "string")) _ _ (exactly_normal local string_type refl)
    (either_normal (bytes_eq name (codes "function")) _ _ (exactly_normal local function_type refl)
    (either_normal (bytes_eq name (codes "table")) _ _ (record { when_true = refl; when_false = refl }) (record { when_true = refl; when_false = refl }))))))

kind_says_normal : (subject : Option ℕ) (kind : ExprKind) → NormalIf (kind_says subject kind)
unfolding NormalIf
kind_says_normal (Some local) (StrExpr name) = kind_normal local name
kind_says_normal _ _ = tt

local_says_normal : (subject : Option ℕ) (kind : ExprKind) → NormalIf (local_says subject kind)
unfolding NormalIf
local_says_normal (Some local) kind = equals_normal local kind
local_says_normal None kind = tt

or_normal : (a b : Option Says) → NormalIf a → NormalIf b → NormalIf (or_else a b)
unfolding NormalIf
or_normal (Some says) b p q = p
or_normal None b p q = q

side_normal : (rules : Rules) (subject other : Expr) → NormalIf (side_says rules subject other)
side_normal rules subject (the_expr id span kind) =
    or_normal (local_says (firm_local rules subject) kind) (kind_says (kind_subject rules subject) kind)
    (local_says_normal (firm_local rules subject) kind) (kind_says_normal (kind_subject rules subject) kind)

equality_normal : (rules : Rules) (a b : Expr) → NormalIf (equality rules a b)
equality_normal rules a b = or_normal (side_says rules a b) (side_says rules b a) (side_normal rules a b) (side_normal rules b a)

pick : (b : Bool) (s t : Term) → is_normal s ≡ true → is_normal t ≡ true → is_normal (if b then s else t) ≡ true
pick true s t p q = p
pick false s t p q = q

said_normal : (truth : Bool) (local : ℕ) (o : Option Says) → NormalIf o → is_normal (said truth local o) ≡ true
unfolding NormalIf
said_normal truth local None p = refl
said_normal truth local (Some says) p =
    pick (says.local == local) (if truth then says.when_true else says.when_false) unknown (pick truth says.when_true says.when_false p.when_true p.when_false) refl

name_normal : (truth : Bool) (local : ℕ) (o : Option ℕ) → is_normal (name_says truth local o) ≡ true
name_normal truth local None = refl
name_normal truth local (Some named) = pick (named == local) (if truth then truthy else falsy) unknown (pick truth truthy falsy refl refl) refl

joined_normal : (op : BinOp) (truth : Bool) (a b e f : Term) → is_normal a ≡ true → is_normal b ≡ true → is_normal e ≡ true → is_normal f ≡ true
    → is_normal (joined_guard op truth a b e f) ≡ true
joined_normal And true a b e f p q r s = meet_normal a b p q
joined_normal And false a b e f p q r s = union_normal a b p q
joined_normal Or true a b e f p q r s = union_normal a b p q
joined_normal Or false a b e f p q r s = meet_normal a b p q
joined_normal Equal truth a b e f p q r s = r
joined_normal NotEqual truth a b e f p q r s = s
joined_normal _ truth a b e f p q r s = refl

mutual
  pub guard_normal : (rules : Rules) (cond : Expr) (truth : Bool) (local : ℕ) → is_normal (guard rules cond truth local) ≡ true
  guard_normal rules (the_expr id span kind) truth local = form_normal rules id kind truth local

  form_normal : (rules : Rules) (id : ℕ) (kind : ExprKind) (truth : Bool) (local : ℕ) → is_normal (guard_of_kind rules id kind truth local) ≡ true
  form_normal rules id (NameExpr name) truth local = name_normal truth local (firm_only rules (local_of (rules.reading.use_of id)))
  form_normal rules id (Paren e) truth local = guard_normal rules e truth local
  form_normal rules id (Unary Not e) truth local = guard_normal rules e (not truth) local
  form_normal rules id (Binary op a b) truth local =
      joined_normal op truth (guard rules a truth local) (guard rules b truth local) (said truth local (equality rules a b)) (said (not truth) local (equality rules a b))
      (guard_normal rules a truth local) (guard_normal rules b truth local)
      (said_normal truth local (equality rules a b) (equality_normal rules a b)) (said_normal (not truth) local (equality rules a b) (equality_normal rules a b))
  form_normal rules id _ truth local = refl

-- ---- lists of what is said

below_none : (means : TypeRef → Term) (n l : ℕ) (es : Entries) → AscendFrom n (locals_in es) → l < n → entry_or unknown means es l ≡ unknown
below_none means n l [] a k = refl
below_none means n l (e ∷ es) a k =
    let h = a.0 in
    ap (λ (b : Bool). if b then means e.1 else entry_or unknown means es l) (differs e.0.0 l (λ same. omega (arith, same, h, k)))
    ∙ below_none means (suc e.0.0) l es a.1 (omega (arith, h, k))

entries_normal : (means : TypeRef → Term) (n : ℕ) (es : Entries) → AscendFrom n (locals_in es) → ((l : ℕ) → is_normal (entry_or unknown means es l) ≡ true)
    → All (λ at. is_normal (means at) ≡ true) (refs_in es)
entries_normal means n [] a all = All-nil (λ at. is_normal (means at) ≡ true)
entries_normal means n (e ∷ es) a all =
    All-cons (λ at. is_normal (means at) ≡ true) e.1 (refs_in es)
    (ap is_normal (sym (ap (λ (b : Bool). if b then means e.1 else entry_or unknown means es e.0.0) (eq-eqb e.0.0 e.0.0 refl))) ∙ all e.0.0)
    (entries_normal means (suc e.0.0) es a.1 (λ l. go l (e.0.0 == l) refl))
  where
    go : (l : ℕ) (t : Bool) → (e.0.0 == l) ≡ t → is_normal (entry_or unknown means es l) ≡ true
    go l true same =
        let low : l < suc e.0.0 = (let q = eqb-true e.0.0 l same in omega (arith, q)) in
        ap is_normal (below_none means (suc e.0.0) l es a.1 low)
    go l false apart = ap is_normal (sym (ap (λ (b : Bool). if b then means e.1 else entry_or unknown means es l) apart)) ∙ all l

pub said_is_guard : (arena : Arena) (entries : Entries) (rules : Rules) (cond : Expr) (truth : Bool) → AscendFrom 0 (locals_in entries) → AreThere arena (refs_in entries)
    → ((local : ℕ) → guard_of arena entries local ≡ guard rules cond truth local) → IsGuard arena entries
said_is_guard arena entries rules cond truth sorted there says = record {
  sorted = sorted;
  there = there;
  normal = entries_normal (term_of (store_of arena)) 0 entries sorted (λ l. ap is_normal (says l) ∙ guard_normal rules cond truth l);
}

-- ---- sets that are asked for

pub left_normal : (kinds : List ReportKind) (set : Term) → is_normal set ≡ true → is_normal (left_set kinds set) ≡ true
left_normal [] set n = n
left_normal (kind ∷ kinds) set n = refl

arithmetic_normal : (other : Term) → is_normal (arithmetic_set other) ≡ true
arithmetic_normal other = pick (below other not_other) arith_fail never refl refl

order_normal : (other : Term) → is_normal (order_set other) ≡ true
order_normal other =
    pick (below other number_type) order_fail_with_number _ refl
    (pick (below other string_type) order_fail_with_string (arithmetic_set other) refl (arithmetic_normal other))

pub operand_normal : (op : BinOp) (other : Term) → is_normal (operand_set op other) ≡ true
operand_normal Or other = refl
operand_normal And other = refl
operand_normal Equal other = refl
operand_normal NotEqual other = refl
operand_normal Less other = order_normal other
operand_normal Greater other = order_normal other
operand_normal LessEqual other = order_normal other
operand_normal GreaterEqual other = order_normal other
operand_normal op other = arithmetic_normal other

pub unary_normal : (op : UnOp) → is_normal (unary_set op) ≡ true
unary_normal Minus = refl
unary_normal Length = refl
unary_normal Not = refl

field_by : (name : List ℕ) (type : Term) (e u : Bool) → is_empty type ≡ e → is_unknown type ≡ u → is_normal type ≡ true
    → is_normal (term no_values (if e || false then no_rows else put_row false (if u then no_fields else more_fields name type no_fields) no_rows)) ≡ true
field_by name type true u e f n = refl
field_by name type false true e f n = refl
field_by name type false false e f n =
    both _ true (both (is_normal type) _ n (both (not (is_empty type || is_unknown type)) true (λ i. not (e i || f i)) refl)) refl

pub field_normal : (name : List ℕ) (type : Term) → is_normal type ≡ true → is_normal (field_is name type) ≡ true
field_normal name type n = field_by name type (is_empty type) (is_unknown type) refl refl n

with_normal : (wanted : Term) → is_normal wanted ≡ true → is_normal (with_tables wanted) ≡ true
with_normal (term free no_rows) n = n
with_normal (term free (more_rows frozen _ rows)) n = both (is_normal_free free) true (left (is_normal_free free) _ n) refl

pub fail_normal : (wanted : Term) → is_normal wanted ≡ true → is_normal (fail wanted) ≡ true
fail_normal wanted n = not_free_normal (with_tables wanted) (with_normal wanted n)
