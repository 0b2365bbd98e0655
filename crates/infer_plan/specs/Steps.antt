-- What each part of a module makes of what is at hand: an expression leaves its type there, a statement the type of what it returns,
-- and a part that is none of the two leaves the type at hand as it is.
use Rattle.std.specs.Prelude.{ℕ, Bool, true, false, not, ◌||◌, List, [], ◌∷◌, ◌++◌, Option, Some, None, if◌then◌else◌}
use Rattle.luau_tree.specs.Tree.{Block, no_stats, more_stats, Stat, Arms, no_arms, more_arms, MaybeBlock, no_block, a_block, Expr, the_expr, Exprs, no_exprs, more_exprs, ExprKind, NameExpr, StrExpr, Choices, no_choices, more_choices, Item, Field, Keyed, Plain, Items, no_items, more_items, Body, Bind, Binds, no_binds, more_binds}
use Rattle.report_rules.specs.Rules.{Rules, use_of}
use Rattle.report_rules.specs.Effects.{Target, effects, effects_of_item, effects_of_items, any_effects, local_of_bind}
use Rattle.report_rules.specs.TypeMap.{set, refine, head, body_map, stored, disturbed, written}
use Rattle.report_rules.specs.Forward.{is_named_key, typ, type_of_kind, type_of_target, types_of_list, after, after_list, after_part, held, property, name_type, target_use, builtin_or, call_type, literal_type}
use Rattle.type_arena.specs.Term.{Term, never}
use Rattle.type_normal.specs.Kinds.{unknown, table_type}
use Rattle.report_rules.specs.After.{after_stat, after_block, returned, returned_block, where_live}
use Rattle.report_rules.specs.Effects.{locals_of_binds}
use Rattle.report_rules.specs.Seen.{SeenBody, seen_expr, seen_in, seen_list, seen_target, seen_targets, seen_body, seen_stat, seen_block}
use Rattle.luau_tree.specs.Tree.{the_body}
use Rattle.rule_work.specs.Work.{Work}
use Rattle.rule_work.specs.Moves.{valued, put_aside, taken, made, added, mapped, kept_map, restored, end_added, opened, unlisted, with_seen}
use Rattle.rule_work.specs.Listed.{first_taken}
use Rattle.rule_work.specs.Tables.{rowed}

-- ## Expressions

-- an expression: its type is at hand then
abbrev pub with_expr : Rules → Expr → Work → Work
with_expr rules e work = record work { value = typ rules work.map e; map = after rules work.map e; seen = work.seen ++ seen_expr rules work.map e }

-- the form of an expression, but for its effects
abbrev pub with_kind : Rules → ℕ → ExprKind → Work → Work
with_kind rules id kind work = record work { value = type_of_kind rules work.map id kind; seen = work.seen ++ seen_in rules work.map kind }

abbrev pub with_form : Rules → Expr → Work → Work
with_form rules (the_expr id span kind) work = with_kind rules id kind work

-- a target of a write: the type of its form is at hand then
abbrev pub with_target : Rules → Expr → Work → Work
with_target rules e work = record work { value = type_of_target rules work.map e; map = after rules work.map e; seen = work.seen ++ seen_target rules work.map e }

-- a name, as a target or not
abbrev pub with_name : Rules → Expr → Work → Work
with_name rules e work = valued (name_type rules work.map (use_of rules e)) work

abbrev pub with_target_name : Rules → Expr → Work → Work
with_target_name rules e work = valued (name_type rules work.map (target_use (use_of rules e))) work

-- the form of a target
abbrev pub with_target_form : Rules → Expr → Work → Work
with_target_form rules (the_expr id span (NameExpr name)) work = with_target_name rules (the_expr id span (NameExpr name)) work
with_target_form rules (the_expr id span kind) work = with_kind rules id kind work

-- an expression that is a builtin's path, where the type of its form is at hand
abbrev pub with_path : Rules → Expr → Work → Work
with_path rules e work = valued (builtin_or (use_of rules e) work.value) work

-- the name that a key is written as
abbrev pub key_name : Expr → Option (List ℕ)
key_name (the_expr id span (StrExpr name)) = Some name
key_name key = None

-- an element, by the name of its key, where the type of its base is at hand
abbrev pub element : Option (List ℕ) → Term → Term
element (Some name) base = property name base
element None base = unknown

-- a call, where the callee's type was put aside and that of the first argument is at hand
abbrev pub called_at : Rules → Expr → Work → Work
called_at rules (the_expr id span kind) work = made (λ callee first_argument. call_type rules id (rules.reading.required id) callee first_argument) work

-- an expression whose type is still to come
abbrev pub opened_at : Expr → Work → Work
opened_at (the_expr id span kind) work = opened id work

-- what is known after a part
abbrev pub changed : (has_effects : Bool) → Work → Work
changed has_effects work = mapped (after_part has_effects) work

-- what is known where a condition came out true, or false
abbrev pub decided : Rules → Expr → Bool → Work → Work
decided rules cond truth work = mapped (refine rules cond truth) work

-- ## Lists

-- the values of a list: their types are the innermost list then
abbrev pub with_values : Rules → Exprs → Work → Work
with_values rules es work =
    record work { lists = types_of_list rules work.map es ∷ work.lists; map = after_list rules work.map es; seen = work.seen ++ seen_list rules work.map es }

-- a value whose type comes to the end of the innermost list
abbrev pub with_value : Rules → (effects_later : Bool) → Expr → Work → Work
with_value rules effects_later e work =
    let one = with_expr rules e (put_aside work) in
    taken (added (valued (held effects_later one.value) one))

-- one value after the other
abbrev pub each_value : Rules → Exprs → Work → Work
each_value rules no_exprs work = work
each_value rules (more_exprs e rest) work = each_value rules rest (with_value rules (any_effects rules rest) e work)

-- one target after the other
abbrev pub each_target : Rules → Exprs → Work → Work
each_target rules no_exprs work = work
each_target rules (more_exprs e rest) work = each_target rules rest (taken (with_target rules e (put_aside work)))

-- the targets of an assignment
abbrev pub with_targets : Rules → Exprs → Work → Work
with_targets rules es work = record work { map = after_list rules work.map es; seen = work.seen ++ seen_targets rules work.map es }

-- a choice of an if-expression: the type of its value comes to the end of the innermost list
abbrev pub with_choice : Rules → (cond e : Expr) → Work → Work
with_choice rules cond e work =
    taken (decided rules cond false (restored (added (with_expr rules e (decided rules cond true (kept_map (with_expr rules cond (put_aside work))))))))

abbrev pub each_choice : Rules → Choices → Work → Work
each_choice rules no_choices work = work
each_choice rules (more_choices cond e rest) work = each_choice rules rest (with_choice rules cond e work)

-- the names of the items of a table constructor that have one
abbrev pub name_before : Option (List ℕ) → List (List ℕ) → List (List ℕ)
name_before (Some name) names = name ∷ names
name_before None names = names

abbrev pub item_names : Items → List (List ℕ)
item_names no_items = []
item_names (more_items (Field name e) rest) = name ∷ item_names rest
item_names (more_items (Keyed key e) rest) = name_before (key_name key) (item_names rest)
item_names (more_items (Plain e) rest) = item_names rest

-- the type at hand comes to the innermost list if there is a name
abbrev pub added_by : Option (List ℕ) → Work → Work
added_by (Some name) work = added work
added_by None work = work

-- an item: the type of its value comes to the innermost list if it has a name
abbrev pub with_entry : Rules → (effects_later : Bool) → Item → Work → Work
with_entry rules effects_later (Field name e) work =
    let one = with_expr rules e work in added (valued (held effects_later one.value) one)
with_entry rules effects_later (Keyed key e) work =
    let one = with_expr rules e (with_expr rules key work) in added_by (key_name key) (valued (held effects_later one.value) one)
with_entry rules effects_later (Plain e) work = with_expr rules e work

-- whether an item has a key that is neither a string nor a numeral
abbrev pub is_other_item : Item → Bool
is_other_item (Keyed key e) = not (is_named_key key)
is_other_item item = false

-- the type of a table constructor, whose named fields have the types of the innermost list
abbrev pub made_table : (has_other_key : Bool) → List (List ℕ) → Work → Work
made_table true names work = valued table_type (restored (unlisted work))
made_table false names work = restored (rowed names work)

abbrev pub with_item : Rules → (effects_later : Bool) → Item → Work → Work
with_item rules effects_later item work =
    changed (effects_of_item rules item) (restored (taken (with_entry rules effects_later item (put_aside (kept_map work)))))

abbrev pub each_item : Rules → Items → Work → Work
each_item rules no_items work = work
each_item rules (more_items item rest) work = each_item rules rest (with_item rules (effects_of_items rules rest) item work)

-- ## Bodies, statements and blocks

-- a function's body
abbrev pub with_body : Rules → Body → Work → Work
with_body rules body work = record work { seen = work.seen ++ seen_body rules work.map body }

-- it is seen
abbrev pub body_seen : Body → Work → Work
body_seen (the_body id has_self generics params vararg result block span) work = with_seen (SeenBody id (not work.map.dead)) work

-- what its block starts with
abbrev pub entered : Rules → Body → Work → Work
entered rules (the_body id has_self generics params vararg result block span) work = mapped (body_map (locals_of_binds rules params)) work

-- a statement, and a block: the type of what they return is at hand then
abbrev pub with_stat : Rules → Stat → Work → Work
with_stat rules s work = record work { value = returned rules work.map s; map = after_stat rules work.map s; seen = work.seen ++ seen_stat rules work.map s }

abbrev pub with_block : Rules → Block → Work → Work
with_block rules block work =
    record work { value = returned_block rules work.map block; map = after_block rules work.map block; seen = work.seen ++ seen_block rules work.map block }

-- nothing is returned
abbrev pub done : Work → Work
done work = valued never work

-- the type at hand where a run may come, and never where none does
abbrev pub live_only : Work → Work
live_only work = valued (where_live work.map work.value) work

-- a condition, whose type is not asked for
abbrev pub passed : Rules → Expr → Work → Work
passed rules e work = taken (with_expr rules e (put_aside work))

-- an arm of an `if`: the type of what it returns comes to the end of the innermost list
abbrev pub with_arm : Rules → Expr → Block → Work → Work
with_arm rules cond body work =
    taken (decided rules cond false (restored (end_added (added (with_block rules body (decided rules cond true (kept_map (with_expr rules cond (put_aside work)))))))))

abbrev pub each_arm : Rules → Arms → Work → Work
each_arm rules no_arms work = work
each_arm rules (more_arms cond body rest) work = each_arm rules rest (with_arm rules cond body work)

-- the block behind `else`, or nothing
abbrev pub at_last : Rules → MaybeBlock → Work → Work
at_last rules no_block work = done work
at_last rules (a_block body) work = with_block rules body work

-- a local gets the type at hand
abbrev pub set_bind : Rules → Bind → Work → Work
set_bind rules bind work = mapped (set rules (local_of_bind rules bind) work.value) work

-- declared names get the types of the innermost list
abbrev pub declared_one : Rules → (expanding : Bool) → Bind → Work → Work
declared_one rules expanding bind work = taken (set_bind rules bind (first_taken expanding (put_aside work)))

abbrev pub each_declared : Rules → (expanding : Bool) → Binds → Work → Work
each_declared rules expanding no_binds work = work
each_declared rules expanding (more_binds bind rest) work = each_declared rules expanding rest (declared_one rules expanding bind work)

-- a write of the type at hand, as a whole and in parts
abbrev pub write : Rules → Target → Work → Work
write rules target work = mapped (written rules target work.value) work

abbrev pub store : Rules → Target → Work → Work
store rules target work = mapped (stored rules target work.value) work

-- targets get the types of the innermost list
abbrev pub stored_one : Rules → (expanding : Bool) → Target → Work → Work
stored_one rules expanding target work = taken (store rules target (first_taken expanding (put_aside work)))

abbrev pub each_stored : Rules → (expanding : Bool) → List Target → Work → Work
each_stored rules expanding [] work = work
each_stored rules expanding (target ∷ targets) work = each_stored rules expanding targets (stored_one rules expanding target work)

abbrev pub each_disturbed : List Target → Work → Work
each_disturbed [] work = work
each_disturbed (target ∷ targets) work = each_disturbed targets (mapped (disturbed target) work)

abbrev pub written_one : Rules → (expanding : Bool) → Target → Work → Work
written_one rules expanding target work = taken (write rules target (first_taken expanding (put_aside work)))

abbrev pub each_written : Rules → (expanding : Bool) → List Target → Work → Work
each_written rules expanding (target ∷ []) work = written_one rules expanding target work
each_written rules expanding targets work = each_disturbed targets (each_stored rules expanding targets work)

-- one statement after the other: the types of what they return come to the end of the innermost list
abbrev pub each_stat : Rules → Block → Work → Work
each_stat rules no_stats work = work
each_stat rules (more_stats s rest) work = each_stat rules rest (added (with_stat rules s work))

-- the loop's head
abbrev pub headed_by : Rules → Stat → Work → Work
headed_by rules s work = mapped (head rules s) work
