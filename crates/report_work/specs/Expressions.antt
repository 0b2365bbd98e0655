-- What the contexts of expressions make of what is at hand. Each part that is asked for takes its sets and leaves their contexts.
use Rattle.std.specs.Prelude.{ℕ, suc, Bool, List}
use Rattle.luau_tree.specs.declared.names.BinOp.{BinOp}
use Rattle.luau_tree.specs.Tree.{Expr, the_expr, Exprs, no_exprs, more_exprs, ExprKind, Choices, no_choices, more_choices, Item, Items, no_items, more_items}
use Rattle.luau_run.specs.ReadFolder.{local_of}
use Rattle.type_arena.specs.Term.{never}
use Rattle.type_normal.specs.Kinds.{field_is}
use Rattle.report_rules.specs.Rules.{Rules, use_of}
use Rattle.report_rules.specs.Effects.{effects, effects_of_item}
use Rattle.report_rules.specs.Seen.{Seen}
use Rattle.report_rules.specs.Context.{Context, followed}
use Rattle.report_rules.specs.Errors.{ev, ev_in, ev_item, name_context, read_set, method_set, index_kinds, expands_as}
use Rattle.report_rules.specs.Statements.{write_kinds, compound_base_set, ev_target, ev_compound, old_left}
use Rattle.report_work.specs.Work.{Work}
use Rattle.report_work.specs.Moves.{first_of, asked_one, asked_again, asked_by, answered, chosen, behind_by}
use Rattle.report_work.specs.Checks.{Check, ArgumentOf, check_left}

-- ## What is asked for

-- the context by which values are checked, where there are some: it was put aside last
abbrev pub values_at_hand : Work → Context
values_at_hand work = first_of work.aside

-- the set that a check leaves
abbrev pub asked_as : Rules → List Seen → Check → Expr → Work → Work
asked_as rules seen check e work = asked_one (check_left rules seen (values_at_hand work) check e) work

-- of the base of a field that is read, the sets of the field
abbrev pub asked_read : List Seen → (base : Expr) → (name : List ℕ) → Work → Work
asked_read seen base name work = asked_by (read_set (index_kinds seen base) name) work

-- of the base of a method call, the set of the method
abbrev pub asked_method : List Seen → (base : Expr) → (name : List ℕ) → (effects_later : Bool) → Work → Work
asked_method seen base name effects_later work = asked_one (method_set (index_kinds seen base) name effects_later) work

-- of the base of a compound's field, the sets of the field; and of that of its element
abbrev pub asked_changed : List Seen → (base : Expr) → (name : List ℕ) → Work → Work
asked_changed seen base name work = asked_by (λ old. compound_base_set (index_kinds seen base) (write_kinds seen base) (field_is name old)) work

abbrev pub asked_changed_element : List Seen → (base : Expr) → Work → Work
asked_changed_element seen base work = asked_one (compound_base_set (index_kinds seen base) (write_kinds seen base) never) work

-- ## Expressions

-- an expression; its form, whether it is a builtin's path or not; and what a name stands for
abbrev pub with_ev : Rules → List Seen → Expr → Work → Work
with_ev rules seen e work = answered (ev rules seen e) work

abbrev pub with_ev_kind : Rules → List Seen → ℕ → ExprKind → Work → Work
with_ev_kind rules seen id kind work = answered (ev_in rules seen id kind) work

abbrev pub with_ev_form : Rules → List Seen → Expr → Work → Work
with_ev_form rules seen (the_expr id span kind) work = with_ev_kind rules seen id kind work

abbrev pub with_ev_name : Rules → Expr → Work → Work
with_ev_name rules e work = answered (name_context rules (local_of (use_of rules e))) work

-- an expression that is checked stands before what is behind
abbrev pub before : Rules → List Seen → Check → Expr → Work → Work
before rules seen check e work =
    behind_by (followed (ev rules seen e (check_left rules seen (values_at_hand work) check e)) (effects rules e)) work

-- ## Lists, from the last to the first

-- expressions
abbrev pub each : (Expr → Work → Work) → Exprs → Work → Work
each one no_exprs work = work
each one (more_exprs e rest) work = one e (each one rest work)

-- the arguments of a call from a position on
abbrev pub each_arg : (Check → Expr → Work → Work) → (callee : Expr) → (position : ℕ) → Exprs → Work → Work
each_arg one callee position no_exprs work = work
each_arg one callee position (more_exprs e rest) work =
    one (ArgumentOf callee position (expands_as e rest)) e (each_arg one callee (suc position) rest work)

-- the items of a table constructor
abbrev pub each_item : (Item → Work → Work) → Items → Work → Work
each_item one no_items work = work
each_item one (more_items item rest) work = one item (each_item one rest work)

-- what a target is made of, and what the target of a compound is, stand before what is behind
abbrev pub before_target : Rules → List Seen → Expr → Work → Work
before_target rules seen e work = behind_by (ev_target rules seen e) work

abbrev pub before_compound : Rules → List Seen → BinOp → (added : Expr) → Expr → Work → Work
before_compound rules seen op added e work = behind_by (ev_compound rules seen e (old_left seen e op added)) work

-- an item stands before what is behind
abbrev pub before_item : Rules → List Seen → Item → Work → Work
before_item rules seen item work = behind_by (followed (ev_item rules seen item) (effects_of_item rules item)) work

-- a choice of an if-expression, where the contexts of what comes else are there
abbrev pub with_choice : Rules → List Seen → (cond value : Expr) → Work → Work
with_choice rules seen cond value work =
    chosen rules cond (effects rules cond) (with_ev rules seen cond (asked_one never (with_ev rules seen value (asked_again work))))

abbrev pub each_choice : (Expr → Expr → Work → Work) → Choices → Work → Work
each_choice one no_choices work = work
each_choice one (more_choices cond value rest) work = one cond value (each_choice one rest work)
