-- What code finds of names, fields and requires, by the definitions.
use Rattle.std.proofs.Common.{◌≡◌, ℕ, ◌<◌, ◌≤◌, ◌-◌, Bool, true, false, List, [], ◌∷◌, length, get_or, take, drop, refl, sym, ap, ◌∙◌, arith}
use Rattle.std.specs.Prelude.{Option, Some, None, is_some, option_map, if◌then◌else◌, not, ◌&&◌}
use Rattle.luau_tree.specs.declared.names.ExprId.{ExprId}
use Rattle.luau_tree.specs.declared.names.FnId.{FnId}
use Rattle.luau_tree.specs.declared.position.Span.{Span}
use Rattle.luau_tree.specs.declared.tree as code
use Rattle.luau_tree.specs.declared.tree.ExprKind.{ExprKind-F}
use Rattle.luau_tree.specs.declared.tree.ExprKind.TheOpen as layer
use Rattle.luau_tree.specs.declared.tree.ExprKind.TheViews as part
use Rattle.luau_tree.specs.declared.tree.ExprKind.TheVariants as an_expr
use Rattle.luau_tree.specs.Tree as plain
use Rattle.luau_tree.specs.View.{view_expr, view_expr_kind, view_exprs}
use Rattle.luau_tree.proofs.Views.{assert_expr_seen, at_expr_seen, binary_expr_seen, call_expr_seen, false_expr_seen, function_expr_seen, if_else_expr_seen, index_expr_seen, interp_expr_seen, method_expr_seen, name_expr_seen, nil_expr_seen, number_expr_seen, paren_expr_seen, str_expr_seen, table_expr_seen, true_expr_seen, unary_expr_seen, vararg_expr_seen}
use Rattle.luau_scope.specs.declared.findings.Findings.{Findings}
use Rattle.luau_scope.specs.declared.reading.Use.TheVariants.{Local as LocalUse, Builtin, Global}
use Rattle.luau_scope.specs.declared.scope.Held.{Held}
use Rattle.luau_scope.specs.declared.walker.Walker.{Walker}
use Rattle.luau_scope.specs.declared.within.Within.{Within}
use Rattle.luau_scope.specs.Found.{Around, Captures, Means, Part, RequiresModule, Visible, join, meant, nothing, one, ◌then◌, same_function}
use Rattle.luau_scope.specs.Finds as finds
use Rattle.luau_scope.specs.InScope.{held_of}
use Rattle.luau_scope.specs.Names.{dotted, is_one_of, is_require}
use Rattle.luau_scope.specs.Steps.{added, after_part, around_in, name_in, step}
use Rattle.luau_scope.proofs.Layers.{expr_layer}
use Rattle.luau_scope.proofs.NameForms.{kind_seen}
use Rattle.luau_scope.proofs.Splits.{tail_is}

-- ## A local

pub captured_found : (w : Within) (at : ExprId) (local : ℕ) (function : Option FnId) (s : Walker) (same : Bool) (means captures : Findings)
    → same ≡ same_function function w.function → same ≡ false
    → means ≡ step (Means at (LocalUse (record { 0 = local }))) s.found → captures ≡ step (Captures local) means
    → record s { found = captures } ≡ after_part (finds.of_local (around_in s w) at local function) s
unfolding added join
captured_found w at local function s same means captures h f m e =
    ap (λ (found : Findings). record s { found = found }) (e ∙ ap (step (Captures local)) m)
    ∙ ap (λ (b : Bool). after_part (one (Means at (LocalUse (record { 0 = local }))) then (if b then nothing else one (Captures local))) s) (sym f ∙ h)

pub own_found : (w : Within) (at : ExprId) (local : ℕ) (function : Option FnId) (s : Walker) (same : Bool) (means : Findings)
    → same ≡ same_function function w.function → same ≡ true
    → means ≡ step (Means at (LocalUse (record { 0 = local }))) s.found
    → record s { found = means } ≡ after_part (finds.of_local (around_in s w) at local function) s
unfolding added join
own_found w at local function s same means h f m =
    ap (λ (found : Findings). record s { found = found }) m
    ∙ ap (λ (b : Bool). after_part (one (Means at (LocalUse (record { 0 = local }))) then (if b then nothing else one (Captures local))) s) (sym f ∙ h)

-- ## A field

-- the field of a name, where there is one
abbrev pub named_path : Around → ExprId → Option (List ℕ) → (field : List ℕ) → Part
named_path a at None field = nothing
named_path a at (Some name) field = finds.of_path a at (plain.NameExpr name) field

path_by_name : (a : Around) (at : ExprId) (kind : plain.ExprKind) (field : List ℕ) → finds.of_path a at kind field ≡ named_path a at (name_in kind) field
path_by_name a at plain.NilExpr field = refl
path_by_name a at plain.TrueExpr field = refl
path_by_name a at plain.FalseExpr field = refl
path_by_name a at (plain.NumberExpr text) field = refl
path_by_name a at (plain.StrExpr bytes) field = refl
path_by_name a at plain.Vararg field = refl
path_by_name a at (plain.FunctionExpr body) field = refl
path_by_name a at (plain.NameExpr name) field = refl
path_by_name a at (plain.Index base name) field = refl
path_by_name a at (plain.At base key) field = refl
path_by_name a at (plain.Call callee args) field = refl
path_by_name a at (plain.Method base name name_span args) field = refl
path_by_name a at (plain.Paren e) field = refl
path_by_name a at (plain.Unary op e) field = refl
path_by_name a at (plain.Binary op left right) field = refl
path_by_name a at (plain.IfElse arms last) field = refl
path_by_name a at (plain.TableExpr items) field = refl
path_by_name a at (plain.Interp texts parts) field = refl
path_by_name a at (plain.Assert e typ) field = refl

pub unnamed_path : (w : Within) (at : ExprId) (kind : plain.ExprKind) (field : List ℕ) (s : Walker) → None ≡ name_in kind → s ≡ after_part (finds.of_path (around_in s w) at kind field) s
unfolding added
unnamed_path w at kind field s h =
    ap (λ (name : Option (List ℕ)). after_part (named_path (around_in s w) at name field) s) h
    ∙ sym (ap (λ (p : Part). after_part p s) (path_by_name (around_in s w) at kind field))

pub path_named : (a : Around) (at : ExprId) (kind : plain.ExprKind) (name field : List ℕ) (s : Walker) → Some name ≡ name_in kind
    → after_part (finds.of_path a at (plain.NameExpr name) field) s ≡ after_part (finds.of_path a at kind field) s
path_named a at kind name field s h =
    ap (λ (n : Option (List ℕ)). after_part (named_path a at n field) s) h
    ∙ sym (ap (λ (p : Part). after_part p s) (path_by_name a at kind field))

-- what is at hand of a name tells whether it is a local
pub is_held : (o : Option Visible) (held : Option Held) (b : Bool) → held ≡ option_map held_of o → b ≡ is_some held → b ≡ is_some o
is_held None held b h e = e ∙ ap is_some h
is_held (Some v) held b h e = e ∙ ap is_some h

pub local_field : (w : Within) (at : ExprId) (name field : List ℕ) (s : Walker) → true ≡ is_some (meant s.scope name)
    → s ≡ after_part (finds.of_path (around_in s w) at (plain.NameExpr name) field) s
unfolding added
local_field w at name field s h =
    ap (λ (b : Bool). after_part (if (not b && is_one_of s.names.now (dotted name field)) then one (Means at (Builtin (dotted name field))) else nothing) s) h

pub other_field : (w : Within) (at : ExprId) (name field path : List ℕ) (s : Walker) → false ≡ is_some (meant s.scope name)
    → path ≡ dotted name field → false ≡ is_one_of s.names.now path
    → s ≡ after_part (finds.of_path (around_in s w) at (plain.NameExpr name) field) s
unfolding added
other_field w at name field path s h p i =
    ap (λ (b : Bool). after_part (if (not false && b) then one (Means at (Builtin (dotted name field))) else nothing) s) (i ∙ ap (is_one_of s.names.now) p)
    ∙ ap (λ (b : Bool). after_part (if (not b && is_one_of s.names.now (dotted name field)) then one (Means at (Builtin (dotted name field))) else nothing) s) h

pub builtin_field : (w : Within) (at : ExprId) (name field path : List ℕ) (s : Walker) (found : Findings) → false ≡ is_some (meant s.scope name)
    → path ≡ dotted name field → true ≡ is_one_of s.names.now path → found ≡ step (Means at (Builtin path)) s.found
    → record s { found = found } ≡ after_part (finds.of_path (around_in s w) at (plain.NameExpr name) field) s
unfolding added
builtin_field w at name field path s found h p i e =
    ap (λ (f : Findings). record s { found = f }) e
    ∙ ap (λ (q : List ℕ). record s { found = step (Means at (Builtin q)) s.found }) p
    ∙ ap (λ (b : Bool). after_part (if (not false && b) then one (Means at (Builtin (dotted name field))) else nothing) s) (i ∙ ap (is_one_of s.names.now) p)
    ∙ ap (λ (b : Bool). after_part (if (not b && is_one_of s.names.now (dotted name field)) then one (Means at (Builtin (dotted name field))) else nothing) s) h

-- ## Loading modules

-- whether a name is the global that loads modules, where there is a name
abbrev pub named_loader : Around → Option (List ℕ) → Bool
named_loader a None = false
named_loader a (Some name) = finds.loads_modules a (plain.NameExpr name)

loader_by_name : (a : Around) (kind : plain.ExprKind) → finds.loads_modules a kind ≡ named_loader a (name_in kind)
loader_by_name a plain.NilExpr = refl
loader_by_name a plain.TrueExpr = refl
loader_by_name a plain.FalseExpr = refl
loader_by_name a (plain.NumberExpr text) = refl
loader_by_name a (plain.StrExpr bytes) = refl
loader_by_name a plain.Vararg = refl
loader_by_name a (plain.FunctionExpr body) = refl
loader_by_name a (plain.NameExpr name) = refl
loader_by_name a (plain.Index base name) = refl
loader_by_name a (plain.At base key) = refl
loader_by_name a (plain.Call callee args) = refl
loader_by_name a (plain.Method base name name_span args) = refl
loader_by_name a (plain.Paren e) = refl
loader_by_name a (plain.Unary op e) = refl
loader_by_name a (plain.Binary op left right) = refl
loader_by_name a (plain.IfElse arms last) = refl
loader_by_name a (plain.TableExpr items) = refl
loader_by_name a (plain.Interp texts parts) = refl
loader_by_name a (plain.Assert e typ) = refl

pub unnamed_loader : (a : Around) (kind : plain.ExprKind) → None ≡ name_in kind → false ≡ finds.loads_modules a kind
unnamed_loader a kind h = ap (named_loader a) h ∙ sym (loader_by_name a kind)

pub loader_named : (a : Around) (kind : plain.ExprKind) (name : List ℕ) → Some name ≡ name_in kind → finds.loads_modules a (plain.NameExpr name) ≡ finds.loads_modules a kind
loader_named a kind name h = ap (named_loader a) h ∙ sym (loader_by_name a kind)

pub no_require : (a : Around) (name : List ℕ) (r : Bool) → r ≡ is_require name → r ≡ false → false ≡ finds.loads_modules a (plain.NameExpr name)
no_require a name r h e = ap (λ (b : Bool). b && finds.is_global a name && not (finds.is_fixed a name)) (sym e ∙ h)

pub own_require : (a : Around) (name : List ℕ) (r l : Bool) → r ≡ is_require name → r ≡ true → l ≡ is_some (meant a.scope name) → l ≡ true → false ≡ finds.loads_modules a (plain.NameExpr name)
own_require a name r l h e i f =
    ap (λ (b : Bool). true && not b && not (finds.is_fixed a name)) (sym f ∙ i)
    ∙ ap (λ (b : Bool). b && finds.is_global a name && not (finds.is_fixed a name)) (sym e ∙ h)

pub other_require : (a : Around) (name : List ℕ) (r l f : Bool) → r ≡ is_require name → r ≡ true → l ≡ is_some (meant a.scope name) → l ≡ false → f ≡ finds.is_fixed a name
    → not f ≡ finds.loads_modules a (plain.NameExpr name)
other_require a name r l f h e i g j =
    ap not j
    ∙ ap (λ (b : Bool). true && not b && not (finds.is_fixed a name)) (sym g ∙ i)
    ∙ ap (λ (b : Bool). b && finds.is_global a name && not (finds.is_fixed a name)) (sym e ∙ h)

-- ## Ways to modules

unquoted_layer : (f : ExprKind-F code.ExprKind.ExprKind code.Item.Item code.PropKey.PropKey code.StatKind.StatKind code.TypeKind.TypeKind code.Arm.Arm code.Bind.Bind code.Block.Block code.Body.Body code.Choice.Choice code.Expr.Expr code.Gen.Gen code.Prop.Prop code.Stat.Stat code.TypeSyntax.TypeSyntax)
    → ((text : List ℕ) → part.roll-ExprKind f ≡ an_expr.Str text → ⊥) → finds.string_of (view_expr_kind (part.roll-ExprKind f)) ≡ None
unquoted_layer layer.«ExprKind::Nil» h = ap (λ (k : code.ExprKind.ExprKind). finds.string_of (view_expr_kind k)) an_expr.rolls-Nil ∙ ap finds.string_of nil_expr_seen
unquoted_layer layer.True h = ap (λ (k : code.ExprKind.ExprKind). finds.string_of (view_expr_kind k)) an_expr.rolls-True ∙ ap finds.string_of true_expr_seen
unquoted_layer layer.False h = ap (λ (k : code.ExprKind.ExprKind). finds.string_of (view_expr_kind k)) an_expr.rolls-False ∙ ap finds.string_of false_expr_seen
unquoted_layer (layer.Number text) h = ap (λ (k : code.ExprKind.ExprKind). finds.string_of (view_expr_kind k)) (an_expr.rolls-Number text) ∙ ap finds.string_of (number_expr_seen text)
unquoted_layer (layer.«ExprKind::Str» bytes) h = absurd (h bytes (an_expr.rolls-Str bytes))
unquoted_layer layer.Vararg h = ap (λ (k : code.ExprKind.ExprKind). finds.string_of (view_expr_kind k)) an_expr.rolls-Vararg ∙ ap finds.string_of vararg_expr_seen
unquoted_layer (layer.«ExprKind::Function» body) h = ap (λ (k : code.ExprKind.ExprKind). finds.string_of (view_expr_kind k)) (an_expr.rolls-Function body) ∙ ap finds.string_of (function_expr_seen body)
unquoted_layer (layer.«ExprKind::Name» name) h = ap (λ (k : code.ExprKind.ExprKind). finds.string_of (view_expr_kind k)) (an_expr.rolls-Name name) ∙ ap finds.string_of (name_expr_seen name)
unquoted_layer (layer.Index base name) h = ap (λ (k : code.ExprKind.ExprKind). finds.string_of (view_expr_kind k)) (an_expr.rolls-Index base name) ∙ ap finds.string_of (index_expr_seen base name)
unquoted_layer (layer.At base key) h = ap (λ (k : code.ExprKind.ExprKind). finds.string_of (view_expr_kind k)) (an_expr.rolls-At base key) ∙ ap finds.string_of (at_expr_seen base key)
unquoted_layer (layer.Call callee args) h = ap (λ (k : code.ExprKind.ExprKind). finds.string_of (view_expr_kind k)) (an_expr.rolls-Call callee args) ∙ ap finds.string_of (call_expr_seen callee args)
unquoted_layer (layer.Method base name name_span args) h = ap (λ (k : code.ExprKind.ExprKind). finds.string_of (view_expr_kind k)) (an_expr.rolls-Method base name name_span args) ∙ ap finds.string_of (method_expr_seen base name name_span args)
unquoted_layer (layer.Paren e) h = ap (λ (k : code.ExprKind.ExprKind). finds.string_of (view_expr_kind k)) (an_expr.rolls-Paren e) ∙ ap finds.string_of (paren_expr_seen e)
unquoted_layer (layer.Unary op e) h = ap (λ (k : code.ExprKind.ExprKind). finds.string_of (view_expr_kind k)) (an_expr.rolls-Unary op e) ∙ ap finds.string_of (unary_expr_seen op e)
unquoted_layer (layer.Binary op left right) h = ap (λ (k : code.ExprKind.ExprKind). finds.string_of (view_expr_kind k)) (an_expr.rolls-Binary op left right) ∙ ap finds.string_of (binary_expr_seen op left right)
unquoted_layer (layer.IfElse arms last) h = ap (λ (k : code.ExprKind.ExprKind). finds.string_of (view_expr_kind k)) (an_expr.rolls-IfElse arms last) ∙ ap finds.string_of (if_else_expr_seen arms last)
unquoted_layer (layer.«ExprKind::Table» items) h = ap (λ (k : code.ExprKind.ExprKind). finds.string_of (view_expr_kind k)) (an_expr.rolls-Table items) ∙ ap finds.string_of (table_expr_seen items)
unquoted_layer (layer.Interp texts parts) h = ap (λ (k : code.ExprKind.ExprKind). finds.string_of (view_expr_kind k)) (an_expr.rolls-Interp texts parts) ∙ ap finds.string_of (interp_expr_seen texts parts)
unquoted_layer (layer.Assert e typ) h = ap (λ (k : code.ExprKind.ExprKind). finds.string_of (view_expr_kind k)) (an_expr.rolls-Assert e typ) ∙ ap finds.string_of (assert_expr_seen e typ)

pub unquoted : (x : code.Expr.Expr) → ((text : List ℕ) → x.kind ≡ an_expr.Str text → ⊥) → None ≡ finds.string_of (finds.kind_of (view_expr x))
unquoted x h =
    sym (ap finds.string_of (kind_seen x)
    ∙ ap (λ (k : code.ExprKind.ExprKind). finds.string_of (view_expr_kind k)) (sym (part.roll-out-ExprKind x.kind))
    ∙ unquoted_layer (part.out-ExprKind x.kind) (λ text e. h text (sym (part.roll-out-ExprKind x.kind) ∙ e)))

pub quoted : (x : code.Expr.Expr) (text : List ℕ) → x.kind ≡ an_expr.Str text → Some text ≡ finds.string_of (finds.kind_of (view_expr x))
quoted x text e = sym (ap finds.string_of (kind_seen x ∙ ap view_expr_kind e ∙ str_expr_seen text))

pub no_arguments : (xs : List code.Expr.Expr) → length xs < 1 → None ≡ finds.way_in (finds.only_string (view_exprs xs))
no_arguments [] h = refl
no_arguments (y ∷ ys) h = absurd (omega arith)

pub more_arguments : (xs : List code.Expr.Expr) → 1 ≤ length xs → 0 < length (take (length xs - 1) (drop 1 xs)) → None ≡ finds.way_in (finds.only_string (view_exprs xs))
more_arguments [] h l = absurd (omega arith)
more_arguments (y ∷ []) h l = absurd (omega arith)
more_arguments (y ∷ z ∷ zs) h l = refl

pub one_argument : (xs : List code.Expr.Expr) (x : code.Expr.Expr) → 1 ≤ length xs → x ≡ get_or xs 0 x → length (take (length xs - 1) (drop 1 xs)) ≤ 0
    → finds.way_in (finds.string_of (finds.kind_of (view_expr x))) ≡ finds.way_in (finds.only_string (view_exprs xs))
one_argument [] x h i l = absurd (omega arith)
one_argument (y ∷ []) x h i l = ap (λ (z : code.Expr.Expr). finds.way_in (finds.string_of (finds.kind_of (view_expr z)))) i
one_argument (y ∷ z ∷ zs) x h i l =
    let k : length (take (length (y ∷ z ∷ zs) - 1) (drop 1 (y ∷ z ∷ zs))) ≡ length (z ∷ zs) = ap (λ (ws : List code.Expr.Expr). length ws) (tail_is y (z ∷ zs)) in
    absurd (omega (arith, k, l))

-- a static require
pub required_found : (way : Option (List ℕ)) (text site : List ℕ) (call : code.Expr.Expr) (callee : code.Expr.Expr) (s : Walker) (sites uses : Findings)
    → Some text ≡ way → site ≡ text
    → sites ≡ step (RequiresModule (record { at = call.id; span = call.span; text = site })) s.found
    → uses ≡ step (Means callee.id Global) sites
    → record s { found = uses } ≡ after_part (finds.of_static way (finds.id_of (view_expr call)) (finds.span_of (view_expr call)) (finds.id_of (view_expr callee))) s
unfolding added join
required_found way text site call callee s sites uses h t m e =
    ap (λ (f : Findings). record s { found = f }) (e ∙ ap (step (Means callee.id Global)) m)
    ∙ ap (λ (x : List ℕ). record s { found = step (Means callee.id Global) (step (RequiresModule (record { at = call.id; span = call.span; text = x })) s.found) }) t
    ∙ ap (λ (i : ExprId). after_part (finds.of_static (Some text) i call.span callee.id) s) (sym (ap finds.id_of (expr_layer call)))
    ∙ ap (λ (i : Span). after_part (finds.of_static (Some text) (finds.id_of (view_expr call)) i callee.id) s) (sym (ap finds.span_of (expr_layer call)))
    ∙ ap (λ (i : ExprId). after_part (finds.of_static (Some text) (finds.id_of (view_expr call)) (finds.span_of (view_expr call)) i) s) (sym (ap finds.id_of (expr_layer callee)))
    ∙ ap (λ (w : Option (List ℕ)). after_part (finds.of_static w (finds.id_of (view_expr call)) (finds.span_of (view_expr call)) (finds.id_of (view_expr callee))) s) h
