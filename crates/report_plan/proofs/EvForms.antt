-- What the contexts of each form of an expression are made of.
use Rattle.std.specs.Prelude.{Option, Some, None}
use Rattle.std.proofs.Common.{◌≡◌, ℕ, suc, Bool, true, false, List, [], ◌∷◌, map, refl, sym, ap, ◌∙◌}
use Rattle.luau_tree.specs.declared.position.Span.{Span}
use Rattle.luau_tree.specs.declared.names.BinOp.{BinOp}
use Rattle.luau_tree.specs.declared.names.BinOp.TheVariants.{Or, And, Less, Greater, LessEqual, GreaterEqual, NotEqual, Equal, Concat, Add, Sub, Mul, Div, FloorDiv, Mod, Pow}
use Rattle.luau_tree.specs.declared.names.UnOp.{UnOp}
use Rattle.luau_tree.specs.Tree.{Expr, the_expr, Exprs, no_exprs, more_exprs, ExprKind, NilExpr, TrueExpr, FalseExpr, NumberExpr, StrExpr, Vararg, FunctionExpr, NameExpr, Index, At, Call, Method, Paren, Unary, Binary, IfElse, TableExpr, Interp, Assert, TypeSyntax, Body, Choices, no_choices, more_choices, Item, Field, Keyed, Plain, Items, no_items, more_items}
use Rattle.luau_run.specs.ReadModule.{Use, UseLocal, UseBuiltin, UseLibrary, UseGlobal}
use Rattle.type_arena.specs.Term.{Term, never}
use Rattle.type_normal.specs.Kinds.{falsy, truthy, field_is}
use Rattle.type_normal.specs.Operations.{meet}
use Rattle.report_rules.specs.Rules.{Rules, use_of}
use Rattle.report_rules.specs.Effects.{effects, any_effects, effects_of_item}
use Rattle.report_rules.specs.Seen.{Seen}
use Rattle.report_rules.specs.Context.{Context, none}
use Rattle.report_rules.specs.Checks.{checked_callee}
use Rattle.report_rules.specs.Errors.{ev, ev_in, ev_args, ev_parts, ev_choices, ev_items, index_kinds, read_set, unless_builtin}
use Rattle.report_rules.specs.Findings.{is_builtin}
use Rattle.module_facts.specs.Facts.{builtin_of}
use Rattle.report_work.specs.Work.{Work}
use Rattle.report_work.specs.Moves.{list_of, rest_of, asked_one, asked_again, asked_part, unasked, answered, unfailing, spread, started, met, and_one, or_one, and_sides, or_sides, choice_one, behind_begun, behind_restored}
use Rattle.report_work.specs.Checks.{Unchecked, Callee, ArgumentOf, Base, UnaryOperand, SideBeside}
use Rattle.report_work.specs.Expressions.{asked_as, asked_read, asked_method, with_ev, with_ev_kind, with_ev_form, with_ev_form, with_ev_name, before, before_item, each, each_arg, each_item, with_choice, each_choice}
use Rattle.report_plan.specs.Keys.{key_name}
use Rattle.report_plan.proofs.SetFacts.{map_of_map, zipped_maps, falsy_beside, truthy_beside}

-- answers to what was asked for
abbrev answers : List Context → Work → Work
answers contexts work = record work { sets = rest_of work.sets; fails = contexts ∷ work.fails }

-- ## Parts in order

pub parts_before : (rules : Rules) (seen : List Seen) (es : Exprs) (work : Work)
    → each (before rules seen Unchecked) es (record work { behind = none }) ≡ record work { behind = ev_parts rules seen es }
parts_before rules seen no_exprs work = refl
parts_before rules seen (more_exprs e rest) work = ap (before rules seen Unchecked e) (parts_before rules seen rest work)

pub args_before : (rules : Rules) (seen : List Seen) (callee : Expr) (position : ℕ) (args : Exprs) (work : Work)
    → each_arg (before rules seen) callee position args (record work { behind = none }) ≡ record work { behind = ev_args rules seen (checked_callee rules seen callee) position args }
args_before rules seen callee position no_exprs work = refl
args_before rules seen callee position (more_exprs e rest) work = ap (before rules seen (ArgumentOf callee position _) e) (args_before rules seen callee (suc position) rest work)

pub items_before : (rules : Rules) (seen : List Seen) (items : Items) (work : Work)
    → each_item (before_item rules seen) items (record work { behind = none }) ≡ record work { behind = ev_items rules seen items }
items_before rules seen no_items work = refl
items_before rules seen (more_items item rest) work = ap (before_item rules seen item) (items_before rules seen rest work)

-- ## Forms

pub paren_form : (rules : Rules) (seen : List Seen) (id : ℕ) (e : Expr) (work : Work) → with_ev rules seen e work ≡ with_ev_kind rules seen id (Paren e) work
paren_form rules seen id e work = refl

pub assert_form : (rules : Rules) (seen : List Seen) (id : ℕ) (e : Expr) (syntax : TypeSyntax) (work : Work) → with_ev rules seen e work ≡ with_ev_kind rules seen id (Assert e syntax) work
assert_form rules seen id e syntax work = refl

pub name_form : (rules : Rules) (seen : List Seen) (id : ℕ) (span : Span) (name : List ℕ) (work : Work)
    → with_ev_name rules (the_expr id span (NameExpr name)) work ≡ with_ev_kind rules seen id (NameExpr name) work
name_form rules seen id span name work = refl

pub index_form : (rules : Rules) (seen : List Seen) (id : ℕ) (base : Expr) (name : List ℕ) (work : Work)
    → with_ev rules seen base (asked_read seen base name work) ≡ with_ev_kind rules seen id (Index base name) work
index_form rules seen id base name work =
    ap (λ (contexts : List Context). answers contexts work) (map_of_map (ev rules seen base) (read_set (index_kinds seen base) name) (list_of work.sets))

pub named_form : (rules : Rules) (seen : List Seen) (id : ℕ) (base : Expr) (key_id : ℕ) (key_span : Span) (name : List ℕ) (work : Work)
    → with_ev rules seen base (asked_read seen base name work) ≡ with_ev_kind rules seen id (At base (the_expr key_id key_span (StrExpr name))) work
named_form rules seen id base key_id key_span name work = index_form rules seen id base name work

pub named_at : (rules : Rules) (seen : List Seen) (id : ℕ) (base key : Expr) (name : List ℕ) (work : Work) → Some name ≡ key_name key
    → with_ev rules seen base (asked_read seen base name work) ≡ with_ev_kind rules seen id (At base key) work
named_at rules seen id base (the_expr key_id span (StrExpr written)) name work e =
    let same : name ≡ written = cc in ap (λ (n : List ℕ). with_ev rules seen base (asked_read seen base n work)) same ∙ named_form rules seen id base key_id span written work
named_at rules seen id base (the_expr key_id span _) name work e = cc

pub element_form : (rules : Rules) (seen : List Seen) (id : ℕ) (base key : Expr) (work : Work) → None ≡ key_name key
    → behind_restored (spread (before rules seen Base base (started (with_ev rules seen key (asked_one never (behind_begun work)))))) ≡ with_ev_kind rules seen id (At base key) work
element_form rules seen id base (the_expr key_id span (StrExpr name)) work e = cc
element_form rules seen id base (the_expr key_id span _) work e = refl

pub call_form : (rules : Rules) (seen : List Seen) (id : ℕ) (callee : Expr) (args : Exprs) (work : Work)
    → behind_restored (spread (before rules seen Callee callee (each_arg (before rules seen) callee 0 args (behind_begun work)))) ≡ with_ev_kind rules seen id (Call callee args) work
call_form rules seen id callee args work =
    ap (λ (w : Work). behind_restored (spread (before rules seen Callee callee w))) (args_before rules seen callee 0 args (behind_begun work))

pub method_form : (rules : Rules) (seen : List Seen) (id : ℕ) (base : Expr) (name : List ℕ) (span : Span) (args : Exprs) (work : Work)
    → behind_restored (spread (met (effects rules base) (with_ev rules seen base (asked_method seen base name (any_effects rules args) (each (before rules seen Unchecked) args (behind_begun work))))))
    ≡ with_ev_kind rules seen id (Method base name span args) work
method_form rules seen id base name span args work =
    ap (λ (w : Work). behind_restored (spread (met (effects rules base) (with_ev rules seen base (asked_method seen base name (any_effects rules args) w))))) (parts_before rules seen args (behind_begun work))

pub unary_form : (rules : Rules) (seen : List Seen) (id : ℕ) (op : UnOp) (e : Expr) (work : Work)
    → behind_restored (spread (started (with_ev rules seen e (asked_as rules seen (UnaryOperand op) e (behind_begun work))))) ≡ with_ev_kind rules seen id (Unary op e) work
unary_form rules seen id op e work = refl

pub and_form : (rules : Rules) (seen : List Seen) (id : ℕ) (left right : Expr) (work : Work)
    → and_sides rules left (effects rules left) (with_ev rules seen left (asked_part falsy (with_ev rules seen right (asked_again work)))) ≡ with_ev_kind rules seen id (Binary And left right) work
and_form rules seen id left right work =
    ap (λ (contexts : List Context). answers contexts work)
    (falsy_beside (and_one rules left (effects rules left) (ev rules seen left never)) (ev rules seen right) (ev rules seen left) (list_of work.sets))

pub or_form : (rules : Rules) (seen : List Seen) (id : ℕ) (left right : Expr) (work : Work)
    → or_sides rules left (effects rules left) (with_ev rules seen left (asked_part truthy (with_ev rules seen right (asked_again work)))) ≡ with_ev_kind rules seen id (Binary Or left right) work
or_form rules seen id left right work =
    ap (λ (contexts : List Context). answers contexts work)
    (truthy_beside (or_one rules left (effects rules left) (ev rules seen left never)) (ev rules seen right) (ev rules seen left) (list_of work.sets))

pub binary_form : (rules : Rules) (seen : List Seen) (id : ℕ) (op : BinOp) (left right : Expr) (work : Work) → (op ≡ And → ⊥) → (op ≡ Or → ⊥)
    → behind_restored (spread (before rules seen (SideBeside op right) left (started (with_ev rules seen right (asked_as rules seen (SideBeside op left) right (behind_begun work))))))
    ≡ with_ev_kind rules seen id (Binary op left right) work
binary_form rules seen id And left right work not_and not_or = absurd (not_and refl)
binary_form rules seen id Or left right work not_and not_or = absurd (not_or refl)
binary_form rules seen id _ left right work not_and not_or = refl

-- the choices of an if-expression, behind which its last value was answered
pub choices_answered : (rules : Rules) (seen : List Seen) (arms : Choices) (f : Term → Context) (fails : List (List Context)) (work : Work)
    → each_choice (with_choice rules seen) arms (record work { fails = map f (list_of work.sets) ∷ fails })
    ≡ record work { fails = map (λ set. ev_choices rules seen arms set (f set)) (list_of work.sets) ∷ fails }
choices_answered rules seen no_choices f fails work = refl
choices_answered rules seen (more_choices cond value rest) f fails work =
    ap (with_choice rules seen cond value) (choices_answered rules seen rest f fails work)
    ∙ ap (λ (contexts : List Context). record work { fails = contexts ∷ fails })
    (zipped_maps (choice_one rules cond (effects rules cond) (ev rules seen cond never)) (ev rules seen value) (λ set. ev_choices rules seen rest set (f set)) (list_of work.sets))

pub if_else_form : (rules : Rules) (seen : List Seen) (id : ℕ) (arms : Choices) (last : Expr) (work : Work)
    → unasked (each_choice (with_choice rules seen) arms (with_ev rules seen last (asked_again work))) ≡ with_ev_kind rules seen id (IfElse arms last) work
if_else_form rules seen id arms last work = ap unasked (choices_answered rules seen arms (ev rules seen last) work.fails work)

pub table_form : (rules : Rules) (seen : List Seen) (id : ℕ) (items : Items) (work : Work)
    → behind_restored (spread (each_item (before_item rules seen) items (behind_begun work))) ≡ with_ev_kind rules seen id (TableExpr items) work
table_form rules seen id items work = ap (λ (w : Work). behind_restored (spread w)) (items_before rules seen items (behind_begun work))

pub interp_form : (rules : Rules) (seen : List Seen) (id : ℕ) (texts : List (List ℕ)) (parts : Exprs) (work : Work)
    → behind_restored (spread (each (before rules seen Unchecked) parts (behind_begun work))) ≡ with_ev_kind rules seen id (Interp texts parts) work
interp_form rules seen id texts parts work = ap (λ (w : Work). behind_restored (spread w)) (parts_before rules seen parts (behind_begun work))

-- an expression that nothing is evaluated in
pub leaf_form : (rules : Rules) (seen : List Seen) (id : ℕ) (kind : ExprKind) (work : Work) → ((set : Term) → ev_in rules seen id kind set ≡ none)
    → unfailing work ≡ with_ev_kind rules seen id kind work
leaf_form rules seen id kind work is = λ i. answered (λ set. sym (is set) i) work

-- an expression, by whether it is a builtin's path
pub path_form : (rules : Rules) (seen : List Seen) (e : Expr) (work : Work) → is_builtin (use_of rules e) ≡ true → unfailing work ≡ with_ev rules seen e work
path_form rules seen (the_expr id span kind) work is = by (rules.reading.use_of id) is
  where
    by : (meaning : Option Use) → is_builtin meaning ≡ true → unfailing work ≡ answered (λ set. unless_builtin meaning (ev_in rules seen id kind set)) work
    by None is = cc
    by (Some (UseLocal local)) is = cc
    by (Some (UseBuiltin other)) is = refl
    by (Some UseLibrary) is = cc
    by (Some UseGlobal) is = cc

pub form_whole : (rules : Rules) (seen : List Seen) (e : Expr) (work : Work) → is_builtin (use_of rules e) ≡ false → with_ev_form rules seen e work ≡ with_ev rules seen e work
form_whole rules seen (the_expr id span kind) work is = by (rules.reading.use_of id) is
  where
    by : (meaning : Option Use) → is_builtin meaning ≡ false → answered (ev_in rules seen id kind) work ≡ answered (λ set. unless_builtin meaning (ev_in rules seen id kind set)) work
    by None is = refl
    by (Some (UseLocal local)) is = refl
    by (Some (UseBuiltin other)) is = cc
    by (Some UseLibrary) is = refl
    by (Some UseGlobal) is = refl

-- an item of a table constructor
pub field_item : (rules : Rules) (seen : List Seen) (name : List ℕ) (e : Expr) (work : Work) → before rules seen Unchecked e work ≡ before_item rules seen (Field name e) work
field_item rules seen name e work = refl

pub plain_item : (rules : Rules) (seen : List Seen) (e : Expr) (work : Work) → before rules seen Unchecked e work ≡ before_item rules seen (Plain e) work
plain_item rules seen e work = refl

pub keyed_item : (rules : Rules) (seen : List Seen) (key e : Expr) (work : Work)
    → met (effects_of_item rules (Keyed key e)) (behind_restored (spread (before rules seen Unchecked key (started (with_ev rules seen e (asked_one never (behind_begun (asked_one never work))))))))
    ≡ before_item rules seen (Keyed key e) work
keyed_item rules seen key e work = refl

pub keyed_at : (rules : Rules) (seen : List Seen) (item : Item) (key e : Expr) (work : Work) → item ≡ Keyed key e
    → met (effects_of_item rules item) (behind_restored (spread (before rules seen Unchecked key (started (with_ev rules seen e (asked_one never (behind_begun (asked_one never work))))))))
    ≡ before_item rules seen item work
keyed_at rules seen item key e work is =
    ap (λ (x : Item). met (effects_of_item rules x) (behind_restored (spread (before rules seen Unchecked key (started (with_ev rules seen e (asked_one never (behind_begun (asked_one never work))))))))) is
    ∙ ap (λ (x : Item). before_item rules seen x work) (sym is)
