-- What conditions say of the values that locals hold, form by form.
use Rattle.std.proofs.Common.{◌≡◌, ℕ, Bool, true, false, not, ◌==◌, ◌||◌, ◌&&◌, if◌then◌else◌, List, Option, Some, None, inl, inr, refl, sym, ◌∙◌, ap, subst}
use Rattle.std.specs.Prelude.{⊤, codes}
use Rattle.std.specs.Str.{bytes_eq}
use Rattle.std.proofs.lemmas.Bool.{eqb-true}
use Rattle.luau_values.specs.Value.{Value, Nil, Truth, Num, Str, Tab, Lit, Builtin, Other}
use Rattle.luau_values.specs.Heap.{Heap}
use Rattle.luau_tree.specs.declared.names.BinOp.{BinOp}
use Rattle.luau_tree.specs.declared.names.BinOp.TheVariants.{Or, And, NotEqual, Equal}
use Rattle.luau_tree.specs.declared.names.UnOp.TheVariants.{Not}
use Rattle.luau_tree.specs.Tree.{Expr, the_expr, no_exprs, more_exprs, ExprKind, NilExpr, TrueExpr, FalseExpr, NumberExpr, StrExpr, NameExpr, Call, Paren, Unary, Binary}
use Rattle.luau_run.specs.Operators.{is_true}
use Rattle.luau_run.specs.ReadFolder.{local_of}
use Rattle.type_arena.specs.Term.{Term}
use Rattle.type_normal.specs.Holds.{holds}
use Rattle.type_normal.specs.Operations.{union, meet, not_free}
use Rattle.type_normal.specs.Kinds.{unknown, nil_type, true_type, false_type, number_type, text_type, falsy, truthy}
use Rattle.type_normal.proofs.Public.{union_holds, meet_holds, unknown_all}
use Rattle.report_rules.specs.Rules.{Rules}
use Rattle.report_rules.specs.Guard.{Says, equals, kind_equals, firm_only, firm_local, is_type, kind_subject, kind_says, local_says, or_else, side_says, equality, said, name_says, joined_guard, guard, guard_of_kind}
use Rattle.guard_truths.specs.Truths.{MayEqual, MayName, IsHeld, MayJoin, MayGive, MayGiveKind}
use Rattle.guard_truths.proofs.Values.{IsConstant, IsEqual, IsNamed, WayOf, equals_nil, equals_true, equals_false, equals_text, equals_number, kind_shown, equal_back, equal_of, name_of}

-- ## Equalities

-- what a test says is so of what its local holds
abbrev SaysHeld : (ℕ → Value) → Heap → Bool → Option Says → Type 0
SaysHeld held h same None = ⊤
SaysHeld held h same (Some says) = holds h (held says.local) (if same then says.when_true else says.when_false) ≡ true

equals_held : (held : ℕ → Value) (h : Heap) (x : ℕ) (a b : Value) (kind : ExprKind) (same : Bool) → a ≡ held x → IsConstant kind b → IsEqual a b same → SaysHeld held h same (equals x kind)
equals_held held h x a b NilExpr same q k e =
    subst (λ (u : Value). holds h u (if same then nil_type else not_free nil_type) ≡ true) q (equals_nil h a same (subst (λ (y : Value). IsEqual a y same) k e))
equals_held held h x a b TrueExpr same q k e =
    subst (λ (u : Value). holds h u (if same then true_type else not_free true_type) ≡ true) q (equals_true h a same (subst (λ (y : Value). IsEqual a y same) k e))
equals_held held h x a b FalseExpr same q k e =
    subst (λ (u : Value). holds h u (if same then false_type else not_free false_type) ≡ true) q (equals_false h a same (subst (λ (y : Value). IsEqual a y same) k e))
equals_held held h x a b (StrExpr bytes) same q k e =
    subst (λ (u : Value). holds h u (if same then text_type bytes else not_free (text_type bytes)) ≡ true) q (equals_text h a bytes same (subst (λ (y : Value). IsEqual a y same) k e))
equals_held held h x a b (NumberExpr text) same q k e =
    subst (λ (u : Value). holds h u (if same then number_type else unknown) ≡ true) q (equals_number h a k.0 same (subst (λ (y : Value). IsEqual a y same) k.1 e))
equals_held held h x a b _ same q k e = tt

local_held : (held : ℕ → Value) (h : Heap) (o : Option ℕ) (a b : Value) (kind : ExprKind) (same : Bool) → ((x : ℕ) → o ≡ Some x → a ≡ held x) → IsConstant kind b → IsEqual a b same
    → SaysHeld held h same (local_says o kind)
local_held held h None a b kind same f k e = tt
local_held held h (Some x) a b kind same f k e = equals_held held h x a b kind same (f x refl) k e

says_if : (b : Bool) (p q : Says) (x : ℕ) → p.local ≡ x → q.local ≡ x → (if b then p else q).local ≡ x
says_if true p q x h k = h
says_if false p q x h k = k

kind_local : (x : ℕ) (name : List ℕ) → (kind_equals x name).local ≡ x
kind_local x name =
    says_if (bytes_eq name (codes "nil")) _ _ x refl
    (says_if (bytes_eq name (codes "boolean")) _ _ x refl
    (says_if (bytes_eq name (codes "number")) _ _ x refl
    (says_if (bytes_eq name (codes "string")) _ _ x refl
    (says_if (bytes_eq name (codes "function")) _ _ x refl
    (says_if (bytes_eq name (codes "table")) _ _ x refl refl)))))

text_equal : (one other : List ℕ) (a b : Value) (same : Bool) → a ≡ Str one → b ≡ Str other → IsEqual a b same → same ≡ bytes_eq one other
text_equal one other a b same p q e = subst (λ (y : Value). IsEqual (Str one) y same) q (subst (λ (x : Value). IsEqual x b same) p e)

named_held : (held : ℕ → Value) (h : Heap) (x : ℕ) (a b : Value) (kind : List ℕ) (same : Bool) → (name : List ℕ) → a ≡ Str name → IsNamed (held x) name → b ≡ Str kind → IsEqual a b same
    → SaysHeld held h same (Some (kind_equals x kind))
named_held held h x a b kind same name p n q e =
    subst (λ (y : ℕ). holds h (held y) (WayOf (kind_equals x kind) same) ≡ true) (sym (kind_local x kind)) (kind_shown h (held x) x name kind same n (text_equal name kind a b same p q e))

kind_held : (held : ℕ → Value) (h : Heap) (o : Option ℕ) (a b : Value) (kind : ExprKind) (same : Bool) → ((x : ℕ) → o ≡ Some x → MayName (held x) a) → IsConstant kind b → IsEqual a b same
    → SaysHeld held h same (kind_says o kind)
kind_held held h None a b kind same f k e = tt
kind_held held h (Some x) a b (StrExpr name) same f k e =
    let n = name_of (held x) a (f x refl) in
    named_held held h x a b name same n.0 n.1 n.2 k e
kind_held held h (Some x) a b _ same f k e = tt

-- a bare name gives what its local holds, and `type` of one what it may say of that
firm_of : (rules : Rules) (held : ℕ → Value) (e : Expr) (a : Value) (x : ℕ) → MayGive rules held e a → firm_local rules e ≡ Some x → a ≡ held x
firm_of rules held (the_expr id span (NameExpr name)) a x g e = subst (λ (o : Option ℕ). IsHeld held o a) e g
firm_of rules held (the_expr id span _) a x g e = cc

subject_of : (rules : Rules) (held : ℕ → Value) (e : Expr) (a : Value) (x : ℕ) → MayGive rules held e a → kind_subject rules e ≡ Some x → MayName (held x) a
subject_of rules held (the_expr id span (Call callee (more_exprs e no_exprs))) a x g f = by_type (is_type rules callee) refl f
  where
    by_type : (b : Bool) → is_type rules callee ≡ b → (if b then firm_local rules e else None) ≡ Some x → MayName (held x) a
    by_type true i k = subst (λ (y : Value). MayName y a) (firm_of rules held e (g i).0 x (g i).1 k) (g i).2
    by_type false i k = cc
subject_of rules held (the_expr id span _) a x g f = cc

constant_of : (rules : Rules) (held : ℕ → Value) (id : ℕ) (kind : ExprKind) (b : Value) → MayGiveKind rules held id kind b → IsConstant kind b
constant_of rules held id NilExpr b g = g
constant_of rules held id TrueExpr b g = g
constant_of rules held id FalseExpr b g = g
constant_of rules held id (NumberExpr text) b g = g
constant_of rules held id (StrExpr bytes) b g = g
constant_of rules held id _ b g = tt

or_held : (held : ℕ → Value) (h : Heap) (same : Bool) (p q : Option Says) → SaysHeld held h same p → SaysHeld held h same q → SaysHeld held h same (or_else p q)
or_held held h same (Some says) q u w = u
or_held held h same None q u w = w

side_held : (rules : Rules) (held : ℕ → Value) (h : Heap) (subject other : Expr) (a b : Value) (same : Bool) → MayGive rules held subject a → MayGive rules held other b → IsEqual a b same
    → SaysHeld held h same (side_says rules subject other)
side_held rules held h subject (the_expr id span kind) a b same g k e =
    or_held held h same (local_says (firm_local rules subject) kind) (kind_says (kind_subject rules subject) kind)
    (local_held held h (firm_local rules subject) a b kind same (λ x f. firm_of rules held subject a x g f) (constant_of rules held id kind b k) e)
    (kind_held held h (kind_subject rules subject) a b kind same (λ x f. subject_of rules held subject a x g f) (constant_of rules held id kind b k) e)

said_held : (held : ℕ → Value) (h : Heap) (same : Bool) (x : ℕ) (o : Option Says) → SaysHeld held h same o → holds h (held x) (said same x o) ≡ true
said_held held h same x None s = unknown_all h (held x)
said_held held h same x (Some says) s = by_local (says.local == x) refl
  where
    by_local : (p : Bool) → (says.local == x) ≡ p → holds h (held x) (if p then (if same then says.when_true else says.when_false) else unknown) ≡ true
    by_local true k = subst (λ (y : ℕ). holds h (held y) (if same then says.when_true else says.when_false) ≡ true) (eqb-true says.local x k) s
    by_local false k = unknown_all h (held x)

equality_held : (rules : Rules) (held : ℕ → Value) (h : Heap) (l r : Expr) (a b : Value) (same : Bool) → MayGive rules held l a → MayGive rules held r b → MayEqual a b same
    → (x : ℕ) → holds h (held x) (said same x (equality rules l r)) ≡ true
equality_held rules held h l r a b same g k m x =
    said_held held h same x (equality rules l r)
    (or_held held h same (side_says rules l r) (side_says rules r l) (side_held rules held h l r a b same g k (equal_of a b same m))
    (side_held rules held h r l b a same k g (equal_back a b same (equal_of a b same m))))

-- ## Names

truth_held : (h : Heap) (v : Value) → holds h v (if is_true v then truthy else falsy) ≡ true
truth_held h Nil = refl
truth_held h (Truth true) = refl
truth_held h (Truth false) = refl
truth_held h (Num text) = refl
truth_held h (Str bytes) = refl
truth_held h (Tab address) = refl
truth_held h (Lit home function cells) = refl
truth_held h (Builtin path) = refl
truth_held h (Other number) = refl

name_held : (held : ℕ → Value) (h : Heap) (o : Option ℕ) (v : Value) (x : ℕ) → IsHeld held o v → holds h (held x) (name_says (is_true v) x o) ≡ true
name_held held h None v x g = unknown_all h (held x)
name_held held h (Some named) v x g = by_local (named == x) refl
  where
    by_local : (p : Bool) → (named == x) ≡ p → holds h (held x) (if p then (if is_true v then truthy else falsy) else unknown) ≡ true
    by_local true k =
        subst (λ (y : ℕ). holds h (held y) (if is_true v then truthy else falsy) ≡ true) (eqb-true named x k)
        (subst (λ (u : Value). holds h u (if is_true v then truthy else falsy) ≡ true) g (truth_held h v))
    by_local false k = unknown_all h (held x)

-- ## Two sides

both_true : (a b : Bool) → a ≡ true → b ≡ true → a && b ≡ true
both_true true true p q = refl
both_true true false p q = q
both_true false b p q = p

left_true : (a b : Bool) → a ≡ true → a || b ≡ true
left_true true b p = refl
left_true false b p = cc

right_true : (a b : Bool) → b ≡ true → a || b ≡ true
right_true true b p = refl
right_true false b p = p

meet_held : (h : Heap) (v : Value) (t u : Term) → holds h v t ≡ true → holds h v u ≡ true → holds h v (meet t u) ≡ true
meet_held h v t u p q = meet_holds h v t u ∙ both_true (holds h v t) (holds h v u) p q

left_held : (h : Heap) (v : Value) (t u : Term) → holds h v t ≡ true → holds h v (union t u) ≡ true
left_held h v t u p = union_holds h v t u ∙ left_true (holds h v t) (holds h v u) p

right_held : (h : Heap) (v : Value) (t u : Term) → holds h v u ≡ true → holds h v (union t u) ≡ true
right_held h v t u p = union_holds h v t u ∙ right_true (holds h v t) (holds h v u) p

not_not : (b : Bool) → not (not b) ≡ b
not_not true = refl
not_not false = refl

-- what holds by the truth of a value holds by what that truth is
as_truth : (h : Heap) (w : Value) (t : Bool → Term) (b c : Bool) → b ≡ c → holds h w (t b) ≡ true → holds h w (t c) ≡ true
as_truth h w t b c e p = subst (λ (d : Bool). holds h w (t d) ≡ true) e p

and_way : (h : Heap) (w : Value) (t u : Bool → Term) (e n : Bool → Term) (b : Bool) → holds h w (t true) ≡ true → holds h w (u b) ≡ true → holds h w (joined_guard And b (t b) (u b) (e b) (n b)) ≡ true
and_way h w t u e n true p q = meet_held h w (t true) (u true) p q
and_way h w t u e n false p q = right_held h w (t false) (u false) q

or_way : (h : Heap) (w : Value) (t u : Bool → Term) (e n : Bool → Term) (b : Bool) → holds h w (t false) ≡ true → holds h w (u b) ≡ true → holds h w (joined_guard Or b (t b) (u b) (e b) (n b)) ≡ true
or_way h w t u e n true p q = right_held h w (t true) (u true) q
or_way h w t u e n false p q = meet_held h w (t false) (u false) p q

module _ (rules : Rules) (held : ℕ → Value) (h : Heap) (x : ℕ) (l r : Expr) (a v : Value)
    (left : MayGive rules held l a) (first : holds h (held x) (guard rules l (is_true a) x) ≡ true)
    (second : (b : Value) → MayGive rules held r b → holds h (held x) (guard rules r (is_true b) x) ≡ true) where
  sides_held : (op : BinOp) → MayJoin op a (λ b. MayGive rules held r b) v
      → holds h (held x) (joined_guard op (is_true v) (guard rules l (is_true v) x) (guard rules r (is_true v) x) (said (is_true v) x (equality rules l r)) (said (not (is_true v)) x (equality rules l r))) ≡ true
  sides_held And (inl p) =
      and_way h (held x) (λ b. guard rules l b x) (λ b. guard rules r b x) (λ b. said b x (equality rules l r)) (λ b. said (not b) x (equality rules l r)) (is_true v)
      (as_truth h (held x) (λ b. guard rules l b x) (is_true a) true p.0 first) (second v p.1)
  sides_held And (inr p) =
      as_truth h (held x) (λ b. joined_guard And b (guard rules l b x) (guard rules r b x) (said b x (equality rules l r)) (said (not b) x (equality rules l r))) false (is_true v) (sym (ap is_true p.1 ∙ p.0))
      (left_held h (held x) (guard rules l false x) (guard rules r false x) (as_truth h (held x) (λ b. guard rules l b x) (is_true a) false p.0 first))
  sides_held Or (inl p) =
      or_way h (held x) (λ b. guard rules l b x) (λ b. guard rules r b x) (λ b. said b x (equality rules l r)) (λ b. said (not b) x (equality rules l r)) (is_true v)
      (as_truth h (held x) (λ b. guard rules l b x) (is_true a) false p.0 first) (second v p.1)
  sides_held Or (inr p) =
      as_truth h (held x) (λ b. joined_guard Or b (guard rules l b x) (guard rules r b x) (said b x (equality rules l r)) (said (not b) x (equality rules l r))) true (is_true v) (sym (ap is_true p.1 ∙ p.0))
      (left_held h (held x) (guard rules l true x) (guard rules r true x) (as_truth h (held x) (λ b. guard rules l b x) (is_true a) true p.0 first))
  sides_held Equal p = as_truth h (held x) (λ b. said b x (equality rules l r)) p.1 (is_true v) (sym (ap is_true p.4)) (equality_held rules held h l r a p.0 p.1 left p.2 p.3 x)
  sides_held NotEqual p =
      as_truth h (held x) (λ b. said b x (equality rules l r)) p.1 (not (is_true v)) (sym (ap (λ (w : Value). not (is_true w)) p.4 ∙ not_not p.1)) (equality_held rules held h l r a p.0 p.1 left p.2 p.3 x)
  sides_held _ p = unknown_all h (held x)

-- ## All forms

mutual
  pub guards_hold : (rules : Rules) (held : ℕ → Value) (h : Heap) (e : Expr) (v : Value) → MayGive rules held e v → (x : ℕ) → holds h (held x) (guard rules e (is_true v) x) ≡ true
  guards_hold rules held h (the_expr id span kind) v g x = kinds_hold rules held h id kind v g x

  kinds_hold : (rules : Rules) (held : ℕ → Value) (h : Heap) (id : ℕ) (kind : ExprKind) (v : Value) → MayGiveKind rules held id kind v → (x : ℕ)
      → holds h (held x) (guard_of_kind rules id kind (is_true v) x) ≡ true
  kinds_hold rules held h id (NameExpr name) v g x = name_held held h (firm_only rules (local_of (rules.reading.use_of id))) v x g
  kinds_hold rules held h id (Paren e) v g x = guards_hold rules held h e v g x
  kinds_hold rules held h id (Unary Not e) v g x =
      as_truth h (held x) (λ b. guard rules e b x) (is_true g.0) (not (is_true v)) (sym (ap (λ (w : Value). not (is_true w)) g.2 ∙ not_not (is_true g.0))) (guards_hold rules held h e g.0 g.1 x)
  kinds_hold rules held h id (Binary op l r) v g x =
      sides_held rules held h x l r g.0 v g.1 (guards_hold rules held h l g.0 g.1 x) (λ b k. guards_hold rules held h r b k x) op g.2
  kinds_hold rules held h id _ v g x = unknown_all h (held x)
