-- What each form of an expression is made of.
use Rattle.std.proofs.Common.{◌≡◌, subst, ℕ, Bool, true, false, List, [], ◌∷◌, ◌++◌, refl, sym, ap, ◌∙◌, append_assoc, append-nil, length}
use Rattle.std.specs.Prelude.{not, Option, None}
use Rattle.luau_tree.specs.declared.position.Span.{Span}
use Rattle.luau_tree.specs.declared.names.BinOp.{BinOp}
use Rattle.luau_tree.specs.declared.names.BinOp.TheVariants.{Or, And, Less, Greater, LessEqual, GreaterEqual, NotEqual, Equal, Concat, Add, Sub, Mul, Div, FloorDiv, Mod, Pow}
use Rattle.luau_tree.specs.declared.names.UnOp.{UnOp}
use Rattle.luau_tree.specs.Tree.{Expr, the_expr, Exprs, ExprKind, NilExpr, TrueExpr, FalseExpr, NumberExpr, StrExpr, Vararg, IfElse, TableExpr, NameExpr, FunctionExpr, Interp, Body, Index, At, Call, Method, Paren, Unary, Binary, Assert, TypeSyntax}
use Rattle.type_arena.specs.Term.{Term}
use Rattle.type_normal.specs.Operations.{union, meet}
use Rattle.type_normal.specs.Kinds.{unknown, string_type, falsy, truthy}
use Rattle.luau_scope.specs.Finds.{kind_of}
use Rattle.luau_scope.specs.Steps.{name_in}
use Rattle.report_rules.specs.Rules.{Rules}
use Rattle.report_rules.specs.Effects.{effects}
use Rattle.report_rules.specs.Forward.{property, unary_type, binary_type, first_or_never, typ, type_of_kind, type_of_target, literal_type, after}
use Rattle.report_rules.specs.Seen.{Seen, seen_expr, seen_in, SeenExpr}
use Rattle.rule_work.specs.Work.{Work}
use Rattle.rule_work.specs.Moves.{valued, put_aside, taken, made, kept_map, restored, opened, closed, unlisted, retyped_at}
use Rattle.rule_work.specs.Listed.{used}
use Rattle.infer_plan.specs.Steps.{with_expr, with_kind, with_form, with_path, changed, element, called_at, decided, with_body, with_values, key_name, with_target, with_target_form, with_target_name, opened_at}
use Rattle.infer_plan.proofs.SeenFacts.{retyped_behind}
use Rattle.infer_plan.proofs.ItemForms.{element_is}

-- two parts that were seen one after the other
pub seen_both : (work : Work) (value : Term) (a b : List Seen) → record work { value = value; seen = (work.seen ++ a) ++ b } ≡ record work { value = value; seen = work.seen ++ (a ++ b) }
seen_both work value a b = ap (λ (seen : List Seen). record work { value = value; seen = seen }) (append_assoc work.seen a b)

pub expr_form : (rules : Rules) (id : ℕ) (span : Span) (kind : ExprKind) (work : Work)
    → (let e = the_expr id span kind in changed (effects rules e) (closed (with_path rules e (with_form rules e (opened id work)))) ≡ with_expr rules e work)
expr_form rules id span kind work =
    let e = the_expr id span kind in
    ap (λ (seen : List Seen). record work { value = typ rules work.map e; map = after rules work.map e; seen = seen })
    (retyped_behind (typ rules work.map e) work.seen (SeenExpr id work.value (not work.map.dead)) (seen_in rules work.map kind))

pub expr_at : (rules : Rules) (e : Expr) (work : Work) → changed (effects rules e) (closed (with_path rules e (with_form rules e (opened_at e work)))) ≡ with_expr rules e work
expr_at rules (the_expr id span kind) work = expr_form rules id span kind work

pub paren_form : (rules : Rules) (id : ℕ) (e : Expr) (work : Work) → restored (with_expr rules e (kept_map work)) ≡ with_kind rules id (Paren e) work
paren_form rules id e work = refl

pub index_form : (rules : Rules) (id : ℕ) (base : Expr) (name : List ℕ) (work : Work)
    → (let one = restored (with_expr rules base (kept_map work)) in valued (property name one.value) one) ≡ with_kind rules id (Index base name) work
index_form rules id base name work = refl

pub method_form : (rules : Rules) (id : ℕ) (base : Expr) (name : List ℕ) (span : Span) (args : Exprs) (work : Work)
    → valued unknown (restored (unlisted (with_values rules args (with_expr rules base (kept_map work))))) ≡ with_kind rules id (Method base name span args) work
method_form rules id base name span args work = seen_both work unknown (seen_expr rules work.map base) _

pub call_form : (rules : Rules) (id : ℕ) (span : Span) (callee : Expr) (args : Exprs) (work : Work)
    → called_at rules (the_expr id span (Call callee args)) (restored (used (λ types value. first_or_never types) (with_values rules args (put_aside (with_expr rules callee (kept_map work))))))
    ≡ with_kind rules id (Call callee args) work
call_form rules id span callee args work = seen_both work _ (seen_expr rules work.map callee) _

pub unary_form : (rules : Rules) (id : ℕ) (op : UnOp) (e : Expr) (work : Work)
    → (let one = restored (with_expr rules e (kept_map work)) in valued (unary_type op one.value) one) ≡ with_kind rules id (Unary op e) work
unary_form rules id op e work = refl

pub and_form : (rules : Rules) (id : ℕ) (left right : Expr) (work : Work)
    → restored (made union (with_expr rules right (decided rules left true (put_aside (made meet (valued falsy (put_aside (with_expr rules left (kept_map work)))))))))
    ≡ with_kind rules id (Binary And left right) work
and_form rules id left right work = seen_both work _ (seen_expr rules work.map left) _

pub or_form : (rules : Rules) (id : ℕ) (left right : Expr) (work : Work)
    → restored (made union (with_expr rules right (decided rules left false (put_aside (made meet (valued truthy (put_aside (with_expr rules left (kept_map work)))))))))
    ≡ with_kind rules id (Binary Or left right) work
or_form rules id left right work = seen_both work _ (seen_expr rules work.map left) _

pub at_form : (rules : Rules) (id : ℕ) (base key : Expr) (work : Work)
    → (let both = restored (taken (with_expr rules key (put_aside (with_expr rules base (kept_map work))))) in valued (element (key_name key) both.value) both) ≡ with_kind rules id (At base key) work
at_form rules id base key work =
    ap (λ (type : Term). record work { value = type; seen = (work.seen ++ seen_expr rules work.map base) ++ seen_expr rules (after rules work.map base) key }) (element_is rules work.map id base key)
    ∙ seen_both work _ (seen_expr rules work.map base) _

pub function_form : (rules : Rules) (id : ℕ) (body : Body) (work : Work) → valued (literal_type rules body) (with_body rules body work) ≡ with_kind rules id (FunctionExpr body) work
function_form rules id body work = refl

pub interp_form : (rules : Rules) (id : ℕ) (texts : List (List ℕ)) (parts : Exprs) (work : Work)
    → valued string_type (restored (unlisted (with_values rules parts (kept_map work)))) ≡ with_kind rules id (Interp texts parts) work
interp_form rules id texts parts work = refl

-- an expression that nothing stands in
pub leaf_form : (rules : Rules) (id : ℕ) (kind : ExprKind) (work : Work) → seen_in rules work.map kind ≡ [] → valued (type_of_kind rules work.map id kind) work ≡ with_kind rules id kind work
leaf_form rules id kind work none =
    ap (λ (ss : List Seen). record work { value = type_of_kind rules work.map id kind; seen = ss }) (sym (append-nil work.seen) ∙ ap (λ (ss : List Seen). work.seen ++ ss) (sym none))

pub name_target_form : (rules : Rules) (id : ℕ) (span : Span) (name : List ℕ) (work : Work)
    → (let e = the_expr id span (NameExpr name) in changed (effects rules e) (closed (with_target_name rules e (opened id work))) ≡ with_target rules e work)
name_target_form rules id span name work =
    let e = the_expr id span (NameExpr name) in
    ap (λ (seen : List Seen). record work { value = type_of_target rules work.map e; map = after rules work.map e; seen = seen })
    (ap (λ (ss : List Seen). retyped_at (type_of_target rules work.map e) (length work.seen) ss) (sym (append-nil (work.seen ++ SeenExpr id work.value (not work.map.dead) ∷ [])))
    ∙ retyped_behind (type_of_target rules work.map e) work.seen (SeenExpr id work.value (not work.map.dead)) [])

pub assert_form : (rules : Rules) (id : ℕ) (e : Expr) (syntax : TypeSyntax) (work : Work) → restored (with_expr rules e (kept_map work)) ≡ with_kind rules id (Assert e syntax) work
assert_form rules id e syntax work = refl

pub binary_form : (rules : Rules) (id : ℕ) (op : BinOp) (left right : Expr) (work : Work) → (op ≡ And → ⊥) → (op ≡ Or → ⊥)
    → restored (made (binary_type op) (with_expr rules right (put_aside (with_expr rules left (kept_map work))))) ≡ with_kind rules id (Binary op left right) work
binary_form rules id And left right work not_and not_or = absurd (not_and refl)
binary_form rules id Or left right work not_and not_or = absurd (not_or refl)
binary_form rules id Less left right work not_and not_or = seen_both work _ (seen_expr rules work.map left) _
binary_form rules id Greater left right work not_and not_or = seen_both work _ (seen_expr rules work.map left) _
binary_form rules id LessEqual left right work not_and not_or = seen_both work _ (seen_expr rules work.map left) _
binary_form rules id GreaterEqual left right work not_and not_or = seen_both work _ (seen_expr rules work.map left) _
binary_form rules id NotEqual left right work not_and not_or = seen_both work _ (seen_expr rules work.map left) _
binary_form rules id Equal left right work not_and not_or = seen_both work _ (seen_expr rules work.map left) _
binary_form rules id Concat left right work not_and not_or = seen_both work _ (seen_expr rules work.map left) _
binary_form rules id Add left right work not_and not_or = seen_both work _ (seen_expr rules work.map left) _
binary_form rules id Sub left right work not_and not_or = seen_both work _ (seen_expr rules work.map left) _
binary_form rules id Mul left right work not_and not_or = seen_both work _ (seen_expr rules work.map left) _
binary_form rules id Div left right work not_and not_or = seen_both work _ (seen_expr rules work.map left) _
binary_form rules id FloorDiv left right work not_and not_or = seen_both work _ (seen_expr rules work.map left) _
binary_form rules id Mod left right work not_and not_or = seen_both work _ (seen_expr rules work.map left) _
binary_form rules id Pow left right work not_and not_or = seen_both work _ (seen_expr rules work.map left) _

pub call_at : (rules : Rules) (e : Expr) (id : ℕ) (span : Span) (callee : Expr) (args : Exprs) (work : Work) → e ≡ the_expr id span (Call callee args)
    → called_at rules e (restored (used (λ types value. first_or_never types) (with_values rules args (put_aside (with_expr rules callee (kept_map work)))))) ≡ with_kind rules id (Call callee args) work
call_at rules e id span callee args work is =
    ap (λ (x : Expr). called_at rules x (restored (used (λ types value. first_or_never types) (with_values rules args (put_aside (with_expr rules callee (kept_map work))))))) is
    ∙ call_form rules id span callee args work

-- ## Targets

-- the form of a target that is no name
other_target : (rules : Rules) (id : ℕ) (span : Span) (kind : ExprKind) (work : Work) → name_in kind ≡ None
    → with_form rules (the_expr id span kind) work ≡ with_target_form rules (the_expr id span kind) work
other_target rules id span NilExpr work none = refl
other_target rules id span TrueExpr work none = refl
other_target rules id span FalseExpr work none = refl
other_target rules id span (NumberExpr text) work none = refl
other_target rules id span (StrExpr bytes) work none = refl
other_target rules id span Vararg work none = refl
other_target rules id span (FunctionExpr body) work none = refl
other_target rules id span (NameExpr name) work none = cc
other_target rules id span (Index base name) work none = refl
other_target rules id span (At base key) work none = refl
other_target rules id span (Call callee args) work none = refl
other_target rules id span (Method base name name_span args) work none = refl
other_target rules id span (Paren e) work none = refl
other_target rules id span (Unary op e) work none = refl
other_target rules id span (Binary op left right) work none = refl
other_target rules id span (IfElse arms last) work none = refl
other_target rules id span (TableExpr items) work none = refl
other_target rules id span (Interp texts parts) work none = refl
other_target rules id span (Assert e syntax) work none = refl

pub other_at : (rules : Rules) (e : Expr) (work : Work) → name_in (kind_of e) ≡ None → with_form rules e work ≡ with_target_form rules e work
other_at rules (the_expr id span kind) work none = other_target rules id span kind work none

pub named_target : (rules : Rules) (e : Expr) (id : ℕ) (span : Span) (name : List ℕ) (work : Work) → e ≡ the_expr id span (NameExpr name)
    → with_target_name rules e work ≡ with_target_form rules e work
named_target rules e id span name work is = subst (λ (x : Expr). with_target_name rules x work ≡ with_target_form rules x work) (sym is) refl

other_target_form : (rules : Rules) (id : ℕ) (span : Span) (kind : ExprKind) (work : Work) → type_of_target rules work.map (the_expr id span kind) ≡ type_of_kind rules work.map id kind
    → (let e = the_expr id span kind in changed (effects rules e) (closed (with_kind rules id kind (opened id work))) ≡ with_target rules e work)
other_target_form rules id span kind work same =
    let e = the_expr id span kind in
    ap (λ (seen : List Seen). record work { value = type_of_kind rules work.map id kind; map = after rules work.map e; seen = seen })
    (retyped_behind (type_of_kind rules work.map id kind) work.seen (SeenExpr id work.value (not work.map.dead)) (seen_in rules work.map kind))
    ∙ ap (λ (type : Term). record work { value = type; map = after rules work.map e; seen = work.seen ++ (SeenExpr id type (not work.map.dead) ∷ seen_in rules work.map kind) }) (sym same)

target_form : (rules : Rules) (id : ℕ) (span : Span) (kind : ExprKind) (work : Work)
    → (let e = the_expr id span kind in changed (effects rules e) (closed (with_target_form rules e (opened id work))) ≡ with_target rules e work)
target_form rules id span NilExpr work = other_target_form rules id span NilExpr work refl
target_form rules id span TrueExpr work = other_target_form rules id span TrueExpr work refl
target_form rules id span FalseExpr work = other_target_form rules id span FalseExpr work refl
target_form rules id span (NumberExpr text) work = other_target_form rules id span (NumberExpr text) work refl
target_form rules id span (StrExpr bytes) work = other_target_form rules id span (StrExpr bytes) work refl
target_form rules id span Vararg work = other_target_form rules id span Vararg work refl
target_form rules id span (FunctionExpr body) work = other_target_form rules id span (FunctionExpr body) work refl
target_form rules id span (NameExpr name) work = name_target_form rules id span name work
target_form rules id span (Index base name) work = other_target_form rules id span (Index base name) work refl
target_form rules id span (At base key) work = other_target_form rules id span (At base key) work refl
target_form rules id span (Call callee args) work = other_target_form rules id span (Call callee args) work refl
target_form rules id span (Method base name name_span args) work = other_target_form rules id span (Method base name name_span args) work refl
target_form rules id span (Paren e) work = other_target_form rules id span (Paren e) work refl
target_form rules id span (Unary op e) work = other_target_form rules id span (Unary op e) work refl
target_form rules id span (Binary op left right) work = other_target_form rules id span (Binary op left right) work refl
target_form rules id span (IfElse arms last) work = other_target_form rules id span (IfElse arms last) work refl
target_form rules id span (TableExpr items) work = other_target_form rules id span (TableExpr items) work refl
target_form rules id span (Interp texts parts) work = other_target_form rules id span (Interp texts parts) work refl
target_form rules id span (Assert e syntax) work = other_target_form rules id span (Assert e syntax) work refl

pub target_at : (rules : Rules) (e : Expr) (work : Work) → changed (effects rules e) (closed (with_target_form rules e (opened_at e work))) ≡ with_target rules e work
target_at rules (the_expr id span kind) work = target_form rules id span kind work
