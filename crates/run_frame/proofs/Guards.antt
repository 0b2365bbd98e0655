-- Guards speak of kinds alone: their rows are none, or that of all tables; and of locals that aren't loose.
use Rattle.std.proofs.Common.{◌≡◌, ℕ, Bool, true, false, not, ◌==◌, ◌||◌, if◌then◌else◌, List, [], ◌∷◌, ◌++◌, Option, Some, None, ◌⊎◌, inl, inr, refl, sym, ◌∙◌, ap, subst, codes}
use Rattle.std.proofs.lemmas.Bool.{eqb-true}
use Rattle.std.specs.Str.{bytes_eq}
use Rattle.luau_tree.specs.declared.names.BinOp.{BinOp}
use Rattle.luau_tree.specs.declared.names.BinOp.TheVariants.{Or, And, NotEqual, Equal}
use Rattle.luau_tree.specs.declared.names.UnOp.TheVariants.{Not}
use Rattle.luau_tree.specs.Tree.{Expr, the_expr, no_exprs, more_exprs, ExprKind, Call, NilExpr, TrueExpr, FalseExpr, NumberExpr, StrExpr, NameExpr, Paren, Unary, Binary}
use Rattle.luau_run.specs.ReadFolder.{local_of, is_among}
use Rattle.type_arena.specs.Term.{Term, term, no_rows, more_rows, no_fields, more_fields}
use Rattle.type_normal.specs.Operations.{union, meet, not_free, is_flat}
use Rattle.type_normal.specs.Kinds.{unknown, nil_type, true_type, false_type, boolean_type, number_type, string_type, function_type, other_type, table_type, text_type, falsy, truthy}
use Rattle.report_rules.specs.Rules.{Rules, loose, local_named}
use Rattle.report_rules.specs.Guard.{Says, exactly, equals, kind_equals, firm_only, firm_local, kind_subject, kind_says, local_says, or_else, side_says, equality, said, name_says, joined_guard, guard, guard_of_kind, is_type, said_of, named_local, joined_locals, guarded, guarded_in}

flat_not : (t : Term) → is_flat (not_free t) ≡ true
flat_not (term f no_rows) = refl
flat_not (term f (more_rows b fs r)) = refl

-- what a test says is of kinds
abbrev IsFlat : Says → Type 0
IsFlat says = (is_flat says.when_true ≡ true) × (is_flat says.when_false ≡ true)

abbrev AreFlat : Option Says → Type 0
AreFlat None = Unit {0}
AreFlat (Some says) = IsFlat says

flat_if : (b : Bool) (p q : Says) → IsFlat p → IsFlat q → IsFlat (if b then p else q)
flat_if true p q h k = h
flat_if false p q h k = k

flat_exactly : (x : ℕ) (t : Term) → is_flat t ≡ true → IsFlat (exactly x t)
flat_exactly x t h = (h, flat_not t)

flat_equals : (x : ℕ) (kind : ExprKind) → AreFlat (equals x kind)
flat_equals x NilExpr = flat_exactly x nil_type refl
flat_equals x TrueExpr = flat_exactly x true_type refl
flat_equals x FalseExpr = flat_exactly x false_type refl
flat_equals x (StrExpr bytes) = flat_exactly x (text_type bytes) refl
flat_equals x (NumberExpr text) = (refl, refl)
flat_equals x _ = tt

flat_union : (t u : Term) → is_flat t ≡ true → is_flat u ≡ true → is_flat (union t u) ≡ true
flat_union (term f no_rows) (term g no_rows) h k = refl
flat_union (term f no_rows) (term g (more_rows false no_fields no_rows)) h k = refl
flat_union (term f (more_rows false no_fields no_rows)) (term g no_rows) h k = refl
flat_union (term f (more_rows false no_fields no_rows)) (term g (more_rows false no_fields no_rows)) h k = refl
flat_union (term f (more_rows false no_fields (more_rows b fs r))) t h k = cc
flat_union (term f (more_rows false (more_fields p u fs) r)) t h k = cc
flat_union (term f (more_rows true fs r)) t h k = cc
flat_union t (term f (more_rows false no_fields (more_rows b fs r))) h k = cc
flat_union t (term f (more_rows false (more_fields p u fs) r)) h k = cc
flat_union t (term f (more_rows true fs r)) h k = cc

flat_meet : (t u : Term) → is_flat t ≡ true → is_flat u ≡ true → is_flat (meet t u) ≡ true
flat_meet (term f no_rows) (term g no_rows) h k = refl
flat_meet (term f no_rows) (term g (more_rows false no_fields no_rows)) h k = refl
flat_meet (term f (more_rows false no_fields no_rows)) (term g no_rows) h k = refl
flat_meet (term f (more_rows false no_fields no_rows)) (term g (more_rows false no_fields no_rows)) h k = refl
flat_meet (term f (more_rows false no_fields (more_rows b fs r))) t h k = cc
flat_meet (term f (more_rows false (more_fields p u fs) r)) t h k = cc
flat_meet (term f (more_rows true fs r)) t h k = cc
flat_meet t (term f (more_rows false no_fields (more_rows b fs r))) h k = cc
flat_meet t (term f (more_rows false (more_fields p u fs) r)) h k = cc
flat_meet t (term f (more_rows true fs r)) h k = cc

flat_kind : (x : ℕ) (name : List ℕ) → IsFlat (kind_equals x name)
flat_kind x name =
    flat_if (bytes_eq name (codes "nil")) _ _ (flat_exactly x nil_type refl)
    (flat_if (bytes_eq name (codes "boolean")) _ _ (flat_exactly x boolean_type refl)
    (flat_if (bytes_eq name (codes "number")) _ _ (flat_exactly x number_type refl)
    (flat_if (bytes_eq name (codes "string")) _ _ (flat_exactly x string_type refl)
    (flat_if (bytes_eq name (codes "function")) _ _ (flat_exactly x function_type refl)
    (flat_if (bytes_eq name (codes "table")) _ _ (flat_union table_type other_type refl refl, flat_not table_type) (refl, refl))))))

flat_kind_says : (o : Option ℕ) (kind : ExprKind) → AreFlat (kind_says o kind)
flat_kind_says (Some x) (StrExpr name) = flat_kind x name
flat_kind_says _ _ = tt

flat_local_says : (o : Option ℕ) (kind : ExprKind) → AreFlat (local_says o kind)
flat_local_says (Some x) kind = flat_equals x kind
flat_local_says None kind = tt

flat_or_else : (p q : Option Says) → AreFlat p → AreFlat q → AreFlat (or_else p q)
flat_or_else (Some says) q h k = h
flat_or_else None q h k = k

flat_side : (rules : Rules) (subject other : Expr) → AreFlat (side_says rules subject other)
flat_side rules subject (the_expr id span kind) =
    flat_or_else (local_says (firm_local rules subject) kind) (kind_says (kind_subject rules subject) kind) (flat_local_says (firm_local rules subject) kind)
    (flat_kind_says (kind_subject rules subject) kind)

flat_equality : (rules : Rules) (left right : Expr) → AreFlat (equality rules left right)
flat_equality rules left right = flat_or_else (side_says rules left right) (side_says rules right left) (flat_side rules left right) (flat_side rules right left)

flat_term_if : (b : Bool) (t u : Term) → is_flat t ≡ true → is_flat u ≡ true → is_flat (if b then t else u) ≡ true
flat_term_if true t u h k = h
flat_term_if false t u h k = k

flat_said : (truth : Bool) (x : ℕ) (o : Option Says) → AreFlat o → is_flat (said truth x o) ≡ true
flat_said truth x None h = refl
flat_said truth x (Some says) h =
    flat_term_if (says.local == x) _ _ (flat_term_if truth says.when_true says.when_false h.0 h.1) refl

flat_name : (truth : Bool) (x : ℕ) (o : Option ℕ) → is_flat (name_says truth x o) ≡ true
flat_name truth x None = refl
flat_name truth x (Some named) = flat_term_if (named == x) _ _ (flat_term_if truth truthy falsy refl refl) refl

flat_joined : (op : BinOp) (truth : Bool) (l r e n : Term) → is_flat l ≡ true → is_flat r ≡ true → is_flat e ≡ true → is_flat n ≡ true → is_flat (joined_guard op truth l r e n) ≡ true
flat_joined And true l r e n a b c d = flat_meet l r a b
flat_joined And false l r e n a b c d = flat_union l r a b
flat_joined Or true l r e n a b c d = flat_union l r a b
flat_joined Or false l r e n a b c d = flat_meet l r a b
flat_joined Equal truth l r e n a b c d = c
flat_joined NotEqual truth l r e n a b c d = d
flat_joined _ truth l r e n a b c d = refl

mutual
  pub guards_flat : (rules : Rules) (e : Expr) (truth : Bool) (x : ℕ) → is_flat (guard rules e truth x) ≡ true
  guards_flat rules (the_expr id span kind) truth x = flat_guard rules id kind truth x

  flat_guard : (rules : Rules) (id : ℕ) (kind : ExprKind) (truth : Bool) (x : ℕ) → is_flat (guard_of_kind rules id kind truth x) ≡ true
  flat_guard rules id (NameExpr name) truth x = flat_name truth x (firm_only rules (local_of (rules.reading.use_of id)))
  flat_guard rules id (Paren e) truth x = guards_flat rules e truth x
  flat_guard rules id (Unary Not e) truth x = guards_flat rules e (not truth) x
  flat_guard rules id (Binary op left right) truth x =
      flat_joined op truth (guard rules left truth x) (guard rules right truth x) (said truth x (equality rules left right)) (said (not truth) x (equality rules left right))
      (guards_flat rules left truth x) (guards_flat rules right truth x)
      (flat_said truth x (equality rules left right) (flat_equality rules left right)) (flat_said (not truth) x (equality rules left right) (flat_equality rules left right))
  flat_guard rules id _ truth x = refl

-- ---- guards speak of locals that aren't loose

clash : (b : Bool) → b ≡ true → b ≡ false → ⊥
clash b p q = cc

-- a local in a list of at most one
among_one : (x y : ℕ) → is_among x (y ∷ []) ≡ true → y ≡ x
among_one x y e = by_test (x == y) refl e
  where
    by_test : (b : Bool) → (x == y) ≡ b → b || false ≡ true → y ≡ x
    by_test true k q = sym (eqb-true x y k)
    by_test false k q = cc

among_two : (x : ℕ) (xs ys : List ℕ) → is_among x (xs ++ ys) ≡ true → (is_among x xs ≡ true) ⊎ (is_among x ys ≡ true)
among_two x [] ys e = inr e
among_two x (y ∷ xs) ys e = by_test (x == y) e (among_two x xs ys)
  where
    by_test : (b : Bool) → b || is_among x (xs ++ ys) ≡ true → (is_among x (xs ++ ys) ≡ true → (is_among x xs ≡ true) ⊎ (is_among x ys ≡ true))
        → (b || is_among x xs ≡ true) ⊎ (is_among x ys ≡ true)
    by_test true k next = inl refl
    by_test false k next = next k

-- a local, where there is one, isn't loose
abbrev pub IsFirm : Rules → Option ℕ → Type 0
IsFirm rules None = Unit {0}
IsFirm rules (Some x) = loose rules x ≡ false

firm_only_firm : (rules : Rules) (o : Option ℕ) → IsFirm rules (firm_only rules o)
firm_only_firm rules None = tt
firm_only_firm rules (Some x) = by_loose (loose rules x) refl
  where
    by_loose : (b : Bool) → loose rules x ≡ b → IsFirm rules (if b then None else Some x)
    by_loose true e = tt
    by_loose false e = e

abbrev SaysFirm : Rules → Option Says → Type 0
SaysFirm rules None = Unit {0}
SaysFirm rules (Some says) = loose rules says.local ≡ false

firm_or_else : (rules : Rules) (p q : Option Says) → SaysFirm rules p → SaysFirm rules q → SaysFirm rules (or_else p q)
firm_or_else rules (Some says) q h k = h
firm_or_else rules None q h k = k

firm_equals : (rules : Rules) (x : ℕ) (kind : ExprKind) → loose rules x ≡ false → SaysFirm rules (equals x kind)
firm_equals rules x NilExpr h = h
firm_equals rules x TrueExpr h = h
firm_equals rules x FalseExpr h = h
firm_equals rules x (StrExpr bytes) h = h
firm_equals rules x (NumberExpr text) h = h
firm_equals rules x _ h = tt

firm_local_says : (rules : Rules) (o : Option ℕ) (kind : ExprKind) → IsFirm rules o → SaysFirm rules (local_says o kind)
firm_local_says rules (Some x) kind h = firm_equals rules x kind h
firm_local_says rules None kind h = tt

says_if : (b : Bool) (p q : Says) (x : ℕ) → p.local ≡ x → q.local ≡ x → (if b then p else q).local ≡ x
says_if true p q x h k = h
says_if false p q x h k = k

pub kind_local : (x : ℕ) (name : List ℕ) → (kind_equals x name).local ≡ x
kind_local x name =
    says_if (bytes_eq name (codes "nil")) _ _ x refl
    (says_if (bytes_eq name (codes "boolean")) _ _ x refl
    (says_if (bytes_eq name (codes "number")) _ _ x refl
    (says_if (bytes_eq name (codes "string")) _ _ x refl
    (says_if (bytes_eq name (codes "function")) _ _ x refl
    (says_if (bytes_eq name (codes "table")) _ _ x refl refl)))))

firm_kind_says : (rules : Rules) (o : Option ℕ) (kind : ExprKind) → IsFirm rules o → SaysFirm rules (kind_says o kind)
firm_kind_says rules (Some x) (StrExpr name) h = subst (λ (y : ℕ). loose rules y ≡ false) (sym (kind_local x name)) h
firm_kind_says rules _ _ h = tt

pub firm_subject : (rules : Rules) (e : Expr) → IsFirm rules (kind_subject rules e)
firm_subject rules (the_expr id span (Call callee (more_exprs e no_exprs))) = by_type (is_type rules callee)
  where
    by_type : (b : Bool) → IsFirm rules (if b then firm_local rules e else None)
    by_type true = firm_only_firm rules (local_named rules e)
    by_type false = tt
firm_subject rules _ = tt

firm_side : (rules : Rules) (subject other : Expr) → SaysFirm rules (side_says rules subject other)
firm_side rules subject (the_expr id span kind) =
    firm_or_else rules (local_says (firm_local rules subject) kind) (kind_says (kind_subject rules subject) kind)
    (firm_local_says rules (firm_local rules subject) kind (firm_only_firm rules (local_named rules subject)))
    (firm_kind_says rules (kind_subject rules subject) kind (firm_subject rules subject))

firm_equality : (rules : Rules) (left right : Expr) → SaysFirm rules (equality rules left right)
firm_equality rules left right = firm_or_else rules (side_says rules left right) (side_says rules right left) (firm_side rules left right) (firm_side rules right left)

among_said : (rules : Rules) (o : Option Says) (x : ℕ) → SaysFirm rules o → is_among x (said_of o) ≡ true → loose rules x ≡ false
among_said rules None x h e = cc
among_said rules (Some says) x h e = subst (λ (y : ℕ). loose rules y ≡ false) (among_one x says.local e) h

among_named : (rules : Rules) (o : Option ℕ) (x : ℕ) → IsFirm rules o → is_among x (named_local o) ≡ true → loose rules x ≡ false
among_named rules None x h e = cc
among_named rules (Some y) x h e = subst (λ (z : ℕ). loose rules z ≡ false) (among_one x y e) h

among_joined : (rules : Rules) (op : BinOp) (parts equal : List ℕ) (x : ℕ) → (is_among x parts ≡ true → loose rules x ≡ false) → (is_among x equal ≡ true → loose rules x ≡ false)
    → is_among x (joined_locals op parts equal) ≡ true → loose rules x ≡ false
among_joined rules And parts equal x h k e = h e
among_joined rules Or parts equal x h k e = h e
among_joined rules Equal parts equal x h k e = k e
among_joined rules NotEqual parts equal x h k e = k e
among_joined rules _ parts equal x h k e = cc

among_parts : (rules : Rules) (xs ys : List ℕ) (x : ℕ) → (is_among x xs ≡ true → loose rules x ≡ false) → (is_among x ys ≡ true → loose rules x ≡ false)
    → (is_among x xs ≡ true) ⊎ (is_among x ys ≡ true) → loose rules x ≡ false
among_parts rules xs ys x h k (inl e) = h e
among_parts rules xs ys x h k (inr e) = k e

mutual
  pub guarded_firm : (rules : Rules) (e : Expr) (x : ℕ) → is_among x (guarded rules e) ≡ true → loose rules x ≡ false
  guarded_firm rules (the_expr id span kind) x e = firm_in rules id kind x e

  firm_in : (rules : Rules) (id : ℕ) (kind : ExprKind) (x : ℕ) → is_among x (guarded_in rules id kind) ≡ true → loose rules x ≡ false
  firm_in rules id (NameExpr name) x e = among_named rules (firm_only rules (local_of (rules.reading.use_of id))) x (firm_only_firm rules (local_of (rules.reading.use_of id))) e
  firm_in rules id (Paren e) x h = guarded_firm rules e x h
  firm_in rules id (Unary Not e) x h = guarded_firm rules e x h
  firm_in rules id (Binary op left right) x h = among_joined rules op (guarded rules left ++ guarded rules right) (said_of (equality rules left right)) x
      (λ k. among_parts rules (guarded rules left) (guarded rules right) x (guarded_firm rules left x) (guarded_firm rules right x)
      (among_two x (guarded rules left) (guarded rules right) k))
      (λ k. among_said rules (equality rules left right) x (firm_equality rules left right) k) h
  firm_in rules id _ x h = cc

-- ---- of a loose local a guard says nothing

said_loose : (rules : Rules) (truth : Bool) (x : ℕ) (o : Option Says) → SaysFirm rules o → loose rules x ≡ true → said truth x o ≡ unknown
said_loose rules truth x None h l = refl
said_loose rules truth x (Some says) h l = by_local (says.local == x) refl
  where
    by_local : (b : Bool) → (says.local == x) ≡ b → (if b then (if truth then says.when_true else says.when_false) else unknown) ≡ unknown
    by_local true e = absurd (clash (loose rules x) l (subst (λ (y : ℕ). loose rules y ≡ false) (eqb-true says.local x e) h))
    by_local false e = refl

name_loose : (rules : Rules) (truth : Bool) (x : ℕ) (o : Option ℕ) → IsFirm rules o → loose rules x ≡ true → name_says truth x o ≡ unknown
name_loose rules truth x None h l = refl
name_loose rules truth x (Some named) h l = by_local (named == x) refl
  where
    by_local : (b : Bool) → (named == x) ≡ b → (if b then (if truth then truthy else falsy) else unknown) ≡ unknown
    by_local true e = absurd (clash (loose rules x) l (subst (λ (y : ℕ). loose rules y ≡ false) (eqb-true named x e) h))
    by_local false e = refl

joined_loose : (op : BinOp) (truth : Bool) (l r e n : Term) → l ≡ unknown → r ≡ unknown → e ≡ unknown → n ≡ unknown → joined_guard op truth l r e n ≡ unknown
joined_loose And true l r e n a b c d = ap (λ (t : Term). meet t r) a ∙ ap (λ (t : Term). meet unknown t) b
joined_loose And false l r e n a b c d = ap (λ (t : Term). union t r) a ∙ ap (λ (t : Term). union unknown t) b
joined_loose Or true l r e n a b c d = ap (λ (t : Term). union t r) a ∙ ap (λ (t : Term). union unknown t) b
joined_loose Or false l r e n a b c d = ap (λ (t : Term). meet t r) a ∙ ap (λ (t : Term). meet unknown t) b
joined_loose Equal truth l r e n a b c d = c
joined_loose NotEqual truth l r e n a b c d = d
joined_loose _ truth l r e n a b c d = refl

mutual
  pub guard_loose : (rules : Rules) (e : Expr) (truth : Bool) (x : ℕ) → loose rules x ≡ true → guard rules e truth x ≡ unknown
  guard_loose rules (the_expr id span kind) truth x l = guard_in_loose rules id kind truth x l

  guard_in_loose : (rules : Rules) (id : ℕ) (kind : ExprKind) (truth : Bool) (x : ℕ) → loose rules x ≡ true → guard_of_kind rules id kind truth x ≡ unknown
  guard_in_loose rules id (NameExpr name) truth x l = name_loose rules truth x (firm_only rules (local_of (rules.reading.use_of id))) (firm_only_firm rules (local_of (rules.reading.use_of id))) l
  guard_in_loose rules id (Paren e) truth x l = guard_loose rules e truth x l
  guard_in_loose rules id (Unary Not e) truth x l = guard_loose rules e (not truth) x l
  guard_in_loose rules id (Binary op left right) truth x l =
      joined_loose op truth (guard rules left truth x) (guard rules right truth x) (said truth x (equality rules left right)) (said (not truth) x (equality rules left right))
      (guard_loose rules left truth x l) (guard_loose rules right truth x l) (said_loose rules truth x (equality rules left right) (firm_equality rules left right) l)
      (said_loose rules (not truth) x (equality rules left right) (firm_equality rules left right) l)
  guard_in_loose rules id _ truth x l = refl
