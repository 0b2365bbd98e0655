-- What the plain trees of read expressions are, and which have no guard.
use Rattle.std.proofs.Common.{◌≡◌, ◌≤◌, ℕ, Bool, List, [], ◌∷◌, length, refl, sym, ap, ◌∙◌, subst, arith}
use Rattle.std.specs.Prelude.{Option, Some, None, option_map}
use Rattle.luau_tree.specs.declared.names.ExprId.{ExprId}
use Rattle.luau_tree.specs.declared.position.Span.{Span}
use Rattle.luau_scope.specs.Locals.{use_at, fixed_by, fixed_at}
use Rattle.luau_scope.specs.declared.reading.LocalInfo.{LocalInfo}
use Rattle.luau_scope.specs.declared.reading.Use.{Use as Found}
use Rattle.luau_scope.specs.declared.reading.Use.TheVariants as a_use
use Rattle.luau_run.specs.ReadFolder.{local_of}
use Rattle.module_reading.specs.Names.{Reads, meaning_of}
use Rattle.guards.specs.Says.{subject_in}
use Rattle.luau_tree.specs.declared.names.BinOp.{BinOp}
use Rattle.luau_tree.specs.declared.names.UnOp.{UnOp}
use Rattle.luau_tree.specs.declared.tree as code
use Rattle.luau_tree.specs.declared.tree.ExprKind.{ExprKind-F}
use Rattle.luau_tree.specs.declared.tree.ExprKind.TheOpen as layer
use Rattle.luau_tree.specs.declared.tree.ExprKind.TheViews as part
use Rattle.luau_tree.specs.declared.tree.ExprKind.TheVariants as an_expr
use Rattle.luau_tree.specs.Tree as plain
use Rattle.luau_tree.specs.View.{view_body, view_choices, view_expr, view_expr_kind, view_exprs, view_items, view_type}
use Rattle.luau_tree.proofs.Views.{expr_seen, assert_expr_seen, at_expr_seen, binary_expr_seen, call_expr_seen, false_expr_seen, function_expr_seen, if_else_expr_seen, index_expr_seen, interp_expr_seen, method_expr_seen, name_expr_seen, nil_expr_seen, number_expr_seen, paren_expr_seen, str_expr_seen, table_expr_seen, true_expr_seen, unary_expr_seen, vararg_expr_seen}
use Rattle.report_rules.specs.Rules.{Rules, fixed_use, fixed_builtin}
use Rattle.report_rules.specs.Guard.{equals, firm_only, firm_local, kind_subject, kind_says, local_says, or_else, side_says}
use Rattle.guards.specs.Made.{made, made_in}

expr_layer : (x : code.Expr.Expr) → view_expr x ≡ plain.the_expr x.id.0 x.span (view_expr_kind x.kind)
expr_layer x = ap view_expr (sym (part.roll-out-Expr x)) ∙ expr_seen _ _ _

-- the list of an expression by its kind
by_kind : (x : code.Expr.Expr) (kind : plain.ExprKind) → view_expr_kind x.kind ≡ kind → (rules : Rules) (truth : Bool) → made rules (view_expr x) truth ≡ made_in rules x.id.0 kind truth
by_kind x kind e rules truth = ap (λ (y : plain.Expr). made rules y truth) (expr_layer x) ∙ ap (λ (k : plain.ExprKind). made_in rules x.id.0 k truth) e

pub of_name : (x : code.Expr.Expr) (name : List ℕ) → x.kind ≡ an_expr.Name name → (rules : Rules) (truth : Bool) → made rules (view_expr x) truth ≡ made_in rules x.id.0 (plain.NameExpr name) truth
of_name x name e = by_kind x (plain.NameExpr name) (ap view_expr_kind e ∙ name_expr_seen name)

pub of_paren : (x y : code.Expr.Expr) → x.kind ≡ an_expr.Paren y → (rules : Rules) (truth : Bool) → made rules (view_expr x) truth ≡ made_in rules x.id.0 (plain.Paren (view_expr y)) truth
of_paren x y e = by_kind x (plain.Paren (view_expr y)) (ap view_expr_kind e ∙ paren_expr_seen y)

pub of_unary : (x y : code.Expr.Expr) (op : UnOp) → x.kind ≡ an_expr.Unary op y → (rules : Rules) (truth : Bool) → made rules (view_expr x) truth ≡ made_in rules x.id.0 (plain.Unary op (view_expr y)) truth
of_unary x y op e = by_kind x (plain.Unary op (view_expr y)) (ap view_expr_kind e ∙ unary_expr_seen op y)

pub of_binary : (x l r : code.Expr.Expr) (op : BinOp) → x.kind ≡ an_expr.Binary op l r → (rules : Rules) (truth : Bool)
    → made rules (view_expr x) truth ≡ made_in rules x.id.0 (plain.Binary op (view_expr l) (view_expr r)) truth
of_binary x l r op e = by_kind x (plain.Binary op (view_expr l) (view_expr r)) (ap view_expr_kind e ∙ binary_expr_seen op l r)

-- which form an expression has, as code finds it and as the plain tree has it
pub data IsSeen (k : code.ExprKind.ExprKind) : plain.ExprKind → Type 0 where
  as_nil : k ≡ an_expr.Nil → IsSeen k plain.NilExpr
  as_truth : k ≡ an_expr.True → IsSeen k plain.TrueExpr
  as_falsity : k ≡ an_expr.False → IsSeen k plain.FalseExpr
  as_number : (text : List ℕ) → k ≡ an_expr.Number text → IsSeen k (plain.NumberExpr text)
  as_string : (bytes : List ℕ) → k ≡ an_expr.Str bytes → IsSeen k (plain.StrExpr bytes)
  as_vararg : k ≡ an_expr.Vararg → IsSeen k plain.Vararg
  as_function : (body : code.Body.Body) → k ≡ an_expr.Function body → IsSeen k (plain.FunctionExpr (view_body body))
  as_name : (name : List ℕ) → k ≡ an_expr.Name name → IsSeen k (plain.NameExpr name)
  as_index : (base : code.Expr.Expr) (name : List ℕ) → k ≡ an_expr.Index base name → IsSeen k (plain.Index (view_expr base) name)
  as_at : (base : code.Expr.Expr) (key : code.Expr.Expr) → k ≡ an_expr.At base key → IsSeen k (plain.At (view_expr base) (view_expr key))
  as_call : (callee : code.Expr.Expr) (args : List code.Expr.Expr) → k ≡ an_expr.Call callee args → IsSeen k (plain.Call (view_expr callee) (view_exprs args))
  as_method : (base : code.Expr.Expr) (name : List ℕ) (span : Span) (args : List code.Expr.Expr) → k ≡ an_expr.Method base name span args → IsSeen k (plain.Method (view_expr base) name span (view_exprs args))
  as_paren : (e : code.Expr.Expr) → k ≡ an_expr.Paren e → IsSeen k (plain.Paren (view_expr e))
  as_unary : (op : UnOp) (e : code.Expr.Expr) → k ≡ an_expr.Unary op e → IsSeen k (plain.Unary op (view_expr e))
  as_binary : (op : BinOp) (l : code.Expr.Expr) (r : code.Expr.Expr) → k ≡ an_expr.Binary op l r → IsSeen k (plain.Binary op (view_expr l) (view_expr r))
  as_choice : (arms : List code.Choice.Choice) (last : code.Expr.Expr) → k ≡ an_expr.IfElse arms last → IsSeen k (plain.IfElse (view_choices arms) (view_expr last))
  as_table : (items : List code.Item.Item) → k ≡ an_expr.Table items → IsSeen k (plain.TableExpr (view_items items))
  as_interp : (texts : List (List ℕ)) (parts : List code.Expr.Expr) → k ≡ an_expr.Interp texts parts → IsSeen k (plain.Interp texts (view_exprs parts))
  as_assert : (e : code.Expr.Expr) (typ : code.TypeSyntax.TypeSyntax) → k ≡ an_expr.Assert e typ → IsSeen k (plain.Assert (view_expr e) (view_type typ))

seen_by : (k : code.ExprKind.ExprKind) (kind : plain.ExprKind) → view_expr_kind k ≡ kind → IsSeen k kind → IsSeen k (view_expr_kind k)
seen_by k kind e s = subst (IsSeen k) (sym e) s

seen_layer : (k : code.ExprKind.ExprKind) (f : ExprKind-F code.ExprKind.ExprKind code.Item.Item code.PropKey.PropKey code.StatKind.StatKind code.TypeKind.TypeKind code.Arm.Arm code.Bind.Bind code.Block.Block code.Body.Body code.Choice.Choice code.Expr.Expr code.Gen.Gen code.Prop.Prop code.Stat.Stat code.TypeSyntax.TypeSyntax) → k ≡ part.roll-ExprKind f → IsSeen k (view_expr_kind k)
seen_layer k layer.«ExprKind::Nil» e = seen_by k _ (ap view_expr_kind (e ∙ an_expr.rolls-Nil) ∙ nil_expr_seen) (as_nil (e ∙ an_expr.rolls-Nil))
seen_layer k layer.True e = seen_by k _ (ap view_expr_kind (e ∙ an_expr.rolls-True) ∙ true_expr_seen) (as_truth (e ∙ an_expr.rolls-True))
seen_layer k layer.False e = seen_by k _ (ap view_expr_kind (e ∙ an_expr.rolls-False) ∙ false_expr_seen) (as_falsity (e ∙ an_expr.rolls-False))
seen_layer k (layer.Number text) e = seen_by k _ (ap view_expr_kind (e ∙ (an_expr.rolls-Number text)) ∙ (number_expr_seen text)) (as_number text (e ∙ (an_expr.rolls-Number text)))
seen_layer k (layer.«ExprKind::Str» bytes) e = seen_by k _ (ap view_expr_kind (e ∙ (an_expr.rolls-Str bytes)) ∙ (str_expr_seen bytes)) (as_string bytes (e ∙ (an_expr.rolls-Str bytes)))
seen_layer k layer.Vararg e = seen_by k _ (ap view_expr_kind (e ∙ an_expr.rolls-Vararg) ∙ vararg_expr_seen) (as_vararg (e ∙ an_expr.rolls-Vararg))
seen_layer k (layer.«ExprKind::Function» body) e = seen_by k _ (ap view_expr_kind (e ∙ (an_expr.rolls-Function body)) ∙ (function_expr_seen body)) (as_function body (e ∙ (an_expr.rolls-Function body)))
seen_layer k (layer.«ExprKind::Name» name) e = seen_by k _ (ap view_expr_kind (e ∙ (an_expr.rolls-Name name)) ∙ (name_expr_seen name)) (as_name name (e ∙ (an_expr.rolls-Name name)))
seen_layer k (layer.Index base name) e = seen_by k _ (ap view_expr_kind (e ∙ (an_expr.rolls-Index base name)) ∙ (index_expr_seen base name)) (as_index base name (e ∙ (an_expr.rolls-Index base name)))
seen_layer k (layer.At base key) e = seen_by k _ (ap view_expr_kind (e ∙ (an_expr.rolls-At base key)) ∙ (at_expr_seen base key)) (as_at base key (e ∙ (an_expr.rolls-At base key)))
seen_layer k (layer.Call callee args) e = seen_by k _ (ap view_expr_kind (e ∙ (an_expr.rolls-Call callee args)) ∙ (call_expr_seen callee args)) (as_call callee args (e ∙ (an_expr.rolls-Call callee args)))
seen_layer k (layer.Method base name span args) e = seen_by k _ (ap view_expr_kind (e ∙ (an_expr.rolls-Method base name span args)) ∙ (method_expr_seen base name span args)) (as_method base name span args (e ∙ (an_expr.rolls-Method base name span args)))
seen_layer k (layer.Paren inner) e = seen_by k _ (ap view_expr_kind (e ∙ (an_expr.rolls-Paren inner)) ∙ (paren_expr_seen inner)) (as_paren inner (e ∙ (an_expr.rolls-Paren inner)))
seen_layer k (layer.Unary op inner) e = seen_by k _ (ap view_expr_kind (e ∙ (an_expr.rolls-Unary op inner)) ∙ (unary_expr_seen op inner)) (as_unary op inner (e ∙ (an_expr.rolls-Unary op inner)))
seen_layer k (layer.Binary op l r) e = seen_by k _ (ap view_expr_kind (e ∙ (an_expr.rolls-Binary op l r)) ∙ (binary_expr_seen op l r)) (as_binary op l r (e ∙ (an_expr.rolls-Binary op l r)))
seen_layer k (layer.IfElse arms last) e = seen_by k _ (ap view_expr_kind (e ∙ (an_expr.rolls-IfElse arms last)) ∙ (if_else_expr_seen arms last)) (as_choice arms last (e ∙ (an_expr.rolls-IfElse arms last)))
seen_layer k (layer.«ExprKind::Table» items) e = seen_by k _ (ap view_expr_kind (e ∙ (an_expr.rolls-Table items)) ∙ (table_expr_seen items)) (as_table items (e ∙ (an_expr.rolls-Table items)))
seen_layer k (layer.Interp texts parts) e = seen_by k _ (ap view_expr_kind (e ∙ (an_expr.rolls-Interp texts parts)) ∙ (interp_expr_seen texts parts)) (as_interp texts parts (e ∙ (an_expr.rolls-Interp texts parts)))
seen_layer k (layer.Assert inner typ) e = seen_by k _ (ap view_expr_kind (e ∙ (an_expr.rolls-Assert inner typ)) ∙ (assert_expr_seen inner typ)) (as_assert inner typ (e ∙ (an_expr.rolls-Assert inner typ)))

pub seen : (k : code.ExprKind.ExprKind) → IsSeen k (view_expr_kind k)
seen k = seen_layer k (part.out-ExprKind k) (sym (part.roll-out-ExprKind k))

-- expressions that have no list
no_list : (rules : Rules) (id : ℕ) (truth : Bool) (k : code.ExprKind.ExprKind) (kind : plain.ExprKind) → IsSeen k kind → ((name : List ℕ) → k ≡ an_expr.Name name → ⊥) → ((e : code.Expr.Expr) → k ≡ an_expr.Paren e → ⊥)
    → ((op : UnOp) (e : code.Expr.Expr) → k ≡ an_expr.Unary op e → ⊥) → ((op : BinOp) (l r : code.Expr.Expr) → k ≡ an_expr.Binary op l r → ⊥) → made_in rules id kind truth ≡ []
no_list rules id truth k kind (as_nil is) n p u b = refl
no_list rules id truth k kind (as_truth is) n p u b = refl
no_list rules id truth k kind (as_falsity is) n p u b = refl
no_list rules id truth k kind (as_number text is) n p u b = refl
no_list rules id truth k kind (as_string bytes is) n p u b = refl
no_list rules id truth k kind (as_vararg is) n p u b = refl
no_list rules id truth k kind (as_function body is) n p u b = refl
no_list rules id truth k kind (as_name name is) n p u b = absurd (n name is)
no_list rules id truth k kind (as_index base name is) n p u b = refl
no_list rules id truth k kind (as_at base key is) n p u b = refl
no_list rules id truth k kind (as_call callee args is) n p u b = refl
no_list rules id truth k kind (as_method base name span args is) n p u b = refl
no_list rules id truth k kind (as_paren e is) n p u b = absurd (p e is)
no_list rules id truth k kind (as_unary op e is) n p u b = absurd (u op e is)
no_list rules id truth k kind (as_binary op l r is) n p u b = absurd (b op l r is)
no_list rules id truth k kind (as_choice arms last is) n p u b = refl
no_list rules id truth k kind (as_table items is) n p u b = refl
no_list rules id truth k kind (as_interp texts parts is) n p u b = refl
no_list rules id truth k kind (as_assert e typ is) n p u b = refl

pub of_other : (x : code.Expr.Expr) → ((name : List ℕ) → x.kind ≡ an_expr.Name name → ⊥) → ((e : code.Expr.Expr) → x.kind ≡ an_expr.Paren e → ⊥) → ((op : UnOp) (e : code.Expr.Expr) → x.kind ≡ an_expr.Unary op e → ⊥)
    → ((op : BinOp) (l r : code.Expr.Expr) → x.kind ≡ an_expr.Binary op l r → ⊥) → (rules : Rules) (truth : Bool) → made rules (view_expr x) truth ≡ []
of_other x n p u b rules truth = ap (λ (y : plain.Expr). made rules y truth) (expr_layer x) ∙ no_list rules x.id.0 truth x.kind (view_expr_kind x.kind) (seen x.kind) n p u b

-- the local of a name
pub firm_of_name : (x : code.Expr.Expr) (name : List ℕ) → x.kind ≡ an_expr.Name name → (rules : Rules) → firm_local rules (view_expr x) ≡ firm_only rules (local_of (rules.reading.use_of x.id.0))
firm_of_name x name e rules = ap (firm_local rules) (expr_layer x ∙ ap (plain.the_expr x.id.0 x.span) (ap view_expr_kind e ∙ name_expr_seen name))

no_name : (rules : Rules) (id : ℕ) (place : Span) (k : code.ExprKind.ExprKind) (kind : plain.ExprKind) → IsSeen k kind → ((name : List ℕ) → k ≡ an_expr.Name name → ⊥) → firm_local rules (plain.the_expr id place kind) ≡ None
no_name rules id place k kind (as_nil is) n = refl
no_name rules id place k kind (as_truth is) n = refl
no_name rules id place k kind (as_falsity is) n = refl
no_name rules id place k kind (as_number text is) n = refl
no_name rules id place k kind (as_string bytes is) n = refl
no_name rules id place k kind (as_vararg is) n = refl
no_name rules id place k kind (as_function body is) n = refl
no_name rules id place k kind (as_name name is) n = absurd (n name is)
no_name rules id place k kind (as_index base name is) n = refl
no_name rules id place k kind (as_at base key is) n = refl
no_name rules id place k kind (as_call callee args is) n = refl
no_name rules id place k kind (as_method base name span args is) n = refl
no_name rules id place k kind (as_paren e is) n = refl
no_name rules id place k kind (as_unary op e is) n = refl
no_name rules id place k kind (as_binary op l r is) n = refl
no_name rules id place k kind (as_choice arms last is) n = refl
no_name rules id place k kind (as_table items is) n = refl
no_name rules id place k kind (as_interp texts parts is) n = refl
no_name rules id place k kind (as_assert e typ is) n = refl

pub firm_of_other : (x : code.Expr.Expr) → ((name : List ℕ) → x.kind ≡ an_expr.Name name → ⊥) → (rules : Rules) → firm_local rules (view_expr x) ≡ None
firm_of_other x n rules = ap (firm_local rules) (expr_layer x) ∙ no_name rules x.id.0 x.span x.kind (view_expr_kind x.kind) (seen x.kind) n

-- the local of a call
call_subject : (rules : Rules) (id : ℕ) (span : Span) (callee : plain.Expr) (args : plain.Exprs) → kind_subject rules (plain.the_expr id span (plain.Call callee args)) ≡ subject_in rules callee args
call_subject rules id span callee plain.no_exprs = refl
call_subject rules id span callee (plain.more_exprs e plain.no_exprs) = refl
call_subject rules id span callee (plain.more_exprs e (plain.more_exprs f rest)) = refl

pub subject_of_call : (x callee : code.Expr.Expr) (args : List code.Expr.Expr) → x.kind ≡ an_expr.Call callee args → (rules : Rules) → kind_subject rules (view_expr x) ≡ subject_in rules (view_expr callee) (view_exprs args)
subject_of_call x callee args e rules =
    ap (kind_subject rules) (expr_layer x ∙ ap (plain.the_expr x.id.0 x.span) (ap view_expr_kind e ∙ call_expr_seen callee args))
    ∙ call_subject rules x.id.0 x.span (view_expr callee) (view_exprs args)

no_call : (rules : Rules) (id : ℕ) (place : Span) (k : code.ExprKind.ExprKind) (kind : plain.ExprKind) → IsSeen k kind → ((callee : code.Expr.Expr) (args : List code.Expr.Expr) → k ≡ an_expr.Call callee args → ⊥)
    → kind_subject rules (plain.the_expr id place kind) ≡ None
no_call rules id place k kind (as_nil is) n = refl
no_call rules id place k kind (as_truth is) n = refl
no_call rules id place k kind (as_falsity is) n = refl
no_call rules id place k kind (as_number text is) n = refl
no_call rules id place k kind (as_string bytes is) n = refl
no_call rules id place k kind (as_vararg is) n = refl
no_call rules id place k kind (as_function body is) n = refl
no_call rules id place k kind (as_name name is) n = refl
no_call rules id place k kind (as_index base name is) n = refl
no_call rules id place k kind (as_at base key is) n = refl
no_call rules id place k kind (as_call callee args is) n = absurd (n callee args is)
no_call rules id place k kind (as_method base name span args is) n = refl
no_call rules id place k kind (as_paren e is) n = refl
no_call rules id place k kind (as_unary op e is) n = refl
no_call rules id place k kind (as_binary op l r is) n = refl
no_call rules id place k kind (as_choice arms last is) n = refl
no_call rules id place k kind (as_table items is) n = refl
no_call rules id place k kind (as_interp texts parts is) n = refl
no_call rules id place k kind (as_assert e typ is) n = refl

pub subject_of_other : (x : code.Expr.Expr) → ((callee : code.Expr.Expr) (args : List code.Expr.Expr) → x.kind ≡ an_expr.Call callee args → ⊥) → (rules : Rules) → kind_subject rules (view_expr x) ≡ None
subject_of_other x n rules = ap (kind_subject rules) (expr_layer x) ∙ no_call rules x.id.0 x.span x.kind (view_expr_kind x.kind) (seen x.kind) n

-- two arguments or more
pub subject_of_more : (rules : Rules) (callee : plain.Expr) (xs : List code.Expr.Expr) → 2 ≤ length xs → None ≡ subject_in rules callee (view_exprs xs)
subject_of_more rules callee [] h = absurd (omega (arith, h))
subject_of_more rules callee (x ∷ []) h = absurd (omega (arith, h))
subject_of_more rules callee (x ∷ y ∷ ys) h = refl

-- forms that are no constants
pub equals_other : (local : ℕ) (k : code.ExprKind.ExprKind) (kind : plain.ExprKind) → IsSeen k kind → (k ≡ an_expr.Nil → ⊥) → (k ≡ an_expr.True → ⊥) → (k ≡ an_expr.False → ⊥)
    → ((text : List ℕ) → k ≡ an_expr.Number text → ⊥) → ((bytes : List ℕ) → k ≡ an_expr.Str bytes → ⊥) → equals local kind ≡ None
equals_other local k kind (as_nil is) a b c d f = absurd (a is)
equals_other local k kind (as_truth is) a b c d f = absurd (b is)
equals_other local k kind (as_falsity is) a b c d f = absurd (c is)
equals_other local k kind (as_number text is) a b c d f = absurd (d text is)
equals_other local k kind (as_string bytes is) a b c d f = absurd (f bytes is)
equals_other local k kind (as_vararg is) a b c d f = refl
equals_other local k kind (as_function body is) a b c d f = refl
equals_other local k kind (as_name name is) a b c d f = refl
equals_other local k kind (as_index base name is) a b c d f = refl
equals_other local k kind (as_at base key is) a b c d f = refl
equals_other local k kind (as_call callee args is) a b c d f = refl
equals_other local k kind (as_method base name span args is) a b c d f = refl
equals_other local k kind (as_paren e is) a b c d f = refl
equals_other local k kind (as_unary op e is) a b c d f = refl
equals_other local k kind (as_binary op l r is) a b c d f = refl
equals_other local k kind (as_choice arms last is) a b c d f = refl
equals_other local k kind (as_table items is) a b c d f = refl
equals_other local k kind (as_interp texts parts is) a b c d f = refl
equals_other local k kind (as_assert e typ is) a b c d f = refl

pub kind_says_other : (local : ℕ) (k : code.ExprKind.ExprKind) (kind : plain.ExprKind) → IsSeen k kind → ((bytes : List ℕ) → k ≡ an_expr.Str bytes → ⊥) → kind_says (Some local) kind ≡ None
kind_says_other local k kind (as_nil is) n = refl
kind_says_other local k kind (as_truth is) n = refl
kind_says_other local k kind (as_falsity is) n = refl
kind_says_other local k kind (as_number text is) n = refl
kind_says_other local k kind (as_string bytes is) n = absurd (n bytes is)
kind_says_other local k kind (as_vararg is) n = refl
kind_says_other local k kind (as_function body is) n = refl
kind_says_other local k kind (as_name name is) n = refl
kind_says_other local k kind (as_index base name is) n = refl
kind_says_other local k kind (as_at base key is) n = refl
kind_says_other local k kind (as_call callee args is) n = refl
kind_says_other local k kind (as_method base name span args is) n = refl
kind_says_other local k kind (as_paren e is) n = refl
kind_says_other local k kind (as_unary op e is) n = refl
kind_says_other local k kind (as_binary op l r is) n = refl
kind_says_other local k kind (as_choice arms last is) n = refl
kind_says_other local k kind (as_table items is) n = refl
kind_says_other local k kind (as_interp texts parts is) n = refl
kind_says_other local k kind (as_assert e typ is) n = refl

-- a builtin that an expression always is
by_use : (uses : List (ExprId × Found)) (locals : List LocalInfo) (rules : Rules) → Reads uses locals rules → (u : Option Found) → fixed_use rules (option_map meaning_of u) ≡ fixed_by uses locals u
by_use uses locals rules reads None = refl
by_use uses locals rules reads (Some (a_use.Local local)) = reads.fixed local.0
by_use uses locals rules reads (Some (a_use.Builtin path)) = refl
by_use uses locals rules reads (Some a_use.Library) = refl
by_use uses locals rules reads (Some a_use.Global) = refl

pub fixed_read : (uses : List (ExprId × Found)) (locals : List LocalInfo) (rules : Rules) → Reads uses locals rules → (x : code.Expr.Expr) → fixed_builtin rules (view_expr x) ≡ fixed_at uses locals x.id
fixed_read uses locals rules reads x = ap (fixed_builtin rules) (expr_layer x) ∙ ap (fixed_use rules) (reads.meanings x.id.0) ∙ by_use uses locals rules reads (use_at uses x.id)

-- what an expression that is compared says
pub side_layer : (rules : Rules) (subject : plain.Expr) (x : code.Expr.Expr)
    → side_says rules subject (view_expr x) ≡ or_else (local_says (firm_local rules subject) (view_expr_kind x.kind)) (kind_says (kind_subject rules subject) (view_expr_kind x.kind))
side_layer rules subject x = ap (side_says rules subject) (expr_layer x)
