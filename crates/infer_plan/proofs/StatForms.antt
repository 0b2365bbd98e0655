-- What each form of a statement is made of.
use Rattle.std.proofs.Common.{◌≡◌, subst, ℕ, Bool, true, false, List, [], ◌∷◌, ◌++◌, refl, sym, ap, ◌∙◌, append_assoc, append-nil}
use Rattle.std.specs.Prelude.{Option, Some, None, not}
use Rattle.luau_tree.specs.declared.position.Span.{Span}
use Rattle.luau_tree.specs.declared.names.BinOp.{BinOp}
use Rattle.luau_tree.specs.Tree.{Block, no_stats, more_stats, Stat, StatKind, the_stat, Compound, CallStat, Do, While, Repeat, NumFor, GenFor, FunctionStat, LocalFunction, Return, Expr, Exprs, no_exprs, more_exprs, MaybeExpr, no_expr, an_expr, Body, the_body, Bind, Binds, Gens, Varargs, MaybeType, TypeSyntax}
use Rattle.type_arena.specs.Term.{Term, never}
use Rattle.type_normal.specs.Kinds.{number_type}
use Rattle.type_normal.specs.Operations.{union}
use Rattle.type_fields.specs.Unions.{unions_with}
use Rattle.report_rules.specs.Rules.{Rules}
use Rattle.report_rules.specs.Effects.{Target, target_of, function_target, locals_of_binds, any_effects}
use Rattle.report_rules.specs.TypeMap.{TypeMap, ended, body_map}
use Rattle.report_rules.specs.Forward.{binary_type, literal_type, after, after_list, after_part, typ, held}
use Rattle.report_rules.specs.After.{after_kind, after_stat, after_block, while_map, repeat_map, number_map, iteration_map, after_bounds, returned, returned_in, returned_block, where_live}
use Rattle.report_rules.specs.Seen.{Seen, SeenBody, seen_expr, seen_list, seen_target, seen_block, seen_stat, seen_kind, seen_body}
use Rattle.rule_work.specs.Work.{Work}
use Rattle.rule_work.specs.Moves.{valued, put_aside, taken, made, mapped, kept_map, restored, list_begun, unlisted, with_seen}
use Rattle.rule_work.specs.Listed.{used, first_taken}
use Rattle.infer_plan.specs.Steps.{with_expr, with_target, with_values, with_body, body_seen, with_block, with_stat, entered, each_stat, passed, decided, done, headed_by, live_only, set_bind, write}

-- two parts that were seen one after the other
seen_both : (work : Work) (value : Term) (map : TypeMap) (a b : List Seen)
    → record work { value = value; map = map; seen = (work.seen ++ a) ++ b } ≡ record work { value = value; map = map; seen = work.seen ++ (a ++ b) }
seen_both work value map a b = ap (λ (seen : List Seen). record work { value = value; map = map; seen = seen }) (append_assoc work.seen a b)

pub body_form : (rules : Rules) (id : ℕ) (has_self : Bool) (generics : Gens) (params : Binds) (vararg : Varargs) (result : MaybeType) (block : Block) (span : Span) (work : Work)
    → (let body = the_body id has_self generics params vararg result block span in
    taken (restored (with_block rules block (entered rules body (kept_map (put_aside (with_seen (SeenBody id (not work.map.dead)) work)))))) ≡ with_body rules body work)
body_form rules id has_self generics params vararg result block span work =
    seen_both work work.value work.map (SeenBody id (not work.map.dead) ∷ []) _

pub body_at : (rules : Rules) (b : Body) (id : ℕ) (has_self : Bool) (generics : Gens) (params : Binds) (vararg : Varargs) (result : MaybeType) (block : Block) (span : Span) (work : Work)
    → b ≡ the_body id has_self generics params vararg result block span
    → taken (restored (with_block rules block (entered rules b (kept_map (put_aside (body_seen b work)))))) ≡ with_body rules b work
body_at rules b id has_self generics params vararg result block span work is =
    subst (λ (x : Body). taken (restored (with_block rules block (entered rules x (kept_map (put_aside (body_seen x work)))))) ≡ with_body rules x work) (sym is)
    (body_form rules id has_self generics params vararg result block span work)

-- ## Blocks

-- the types of what statements return
abbrev returns_of : Rules → TypeMap → Block → List Term
returns_of rules map no_stats = []
returns_of rules map (more_stats s rest) = returned rules map s ∷ returns_of rules (after_stat rules map s) rest

returns_are : (rules : Rules) (map : TypeMap) (block : Block) → unions_with (returns_of rules map block) never ≡ returned_block rules map block
returns_are rules map no_stats = refl
returns_are rules map (more_stats s rest) = ap (union (returned rules map s)) (returns_are rules (after_stat rules map s) rest)

-- with more types in the innermost list, another map and more seen
abbrev grown : List Term → List (List Term) → TypeMap → List Seen → Work → Work
grown types lists map seen work = record work { lists = types ∷ lists; map = map; seen = seen }

each_stat_grown : (rules : Rules) (block : Block) (types : List Term) (lists : List (List Term)) (map : TypeMap) (seen : List Seen) (work : Work)
    → done (each_stat rules block (grown types lists map seen work))
    ≡ done (grown (types ++ returns_of rules map block) lists (after_block rules map block) (seen ++ seen_block rules map block) work)
each_stat_grown rules no_stats types lists map seen work =
    ap (λ (ts : List Term). done (grown ts lists map seen work)) (sym (append-nil types))
    ∙ ap (λ (ss : List Seen). done (grown (types ++ []) lists map ss work)) (sym (append-nil seen))
each_stat_grown rules (more_stats s rest) types lists map seen work =
    let one = returned rules map s in
    let map' = after_stat rules map s in
    let a = seen_stat rules map s in
    each_stat_grown rules rest (types ++ one ∷ []) lists map' (seen ++ a) (record work { value = one })
    ∙ ap (λ (ts : List Term). done (grown ts lists (after_block rules map' rest) ((seen ++ a) ++ seen_block rules map' rest) work)) (append_assoc types (one ∷ []) (returns_of rules map' rest))
    ∙ ap (λ (ss : List Seen). done (grown (types ++ (one ∷ returns_of rules map' rest)) lists (after_block rules map' rest) ss work)) (append_assoc seen a (seen_block rules map' rest))

pub block_form : (rules : Rules) (block : Block) (work : Work) → used unions_with (done (each_stat rules block (list_begun work))) ≡ with_block rules block work
block_form rules block work =
    ap (used unions_with) (each_stat_grown rules block [] work.lists work.map work.seen work)
    ∙ ap (λ (type : Term). record work { value = type; map = after_block rules work.map block; seen = work.seen ++ seen_block rules work.map block }) (returns_are rules work.map block)

-- ## Statements

pub compound_form : (rules : Rules) (span : Span) (target : Expr) (op : BinOp) (e : Expr) (work : Work)
    → done (write rules (target_of rules target) (made (binary_type op) (with_expr rules e (put_aside (with_target rules target work)))))
    ≡ with_stat rules (the_stat span (Compound target op e)) work
compound_form rules span target op e work = seen_both work never _ (seen_target rules work.map target) _

pub call_stat_form : (rules : Rules) (span : Span) (e : Expr) (work : Work) → done (with_expr rules e work) ≡ with_stat rules (the_stat span (CallStat e)) work
call_stat_form rules span e work = refl

pub do_form : (rules : Rules) (span : Span) (body : Block) (work : Work) → with_block rules body work ≡ with_stat rules (the_stat span (Do body)) work
do_form rules span body work = refl

pub while_form : (rules : Rules) (span : Span) (cond : Expr) (body : Block) (work : Work)
    → (let s = the_stat span (While cond body) in restored (with_block rules body (decided rules cond true (with_expr rules cond (kept_map (headed_by rules s work))))) ≡ with_stat rules s work)
while_form rules span cond body work = seen_both work _ _ (seen_expr rules _ cond) _

pub repeat_form : (rules : Rules) (span : Span) (body : Block) (cond : Expr) (work : Work)
    → (let s = the_stat span (Repeat body cond) in restored (passed rules cond (kept_map (restored (with_block rules body (kept_map (headed_by rules s work)))))) ≡ with_stat rules s work)
repeat_form rules span body cond work = seen_both work _ _ (seen_block rules _ body) _

pub number_form : (rules : Rules) (span : Span) (bind : Bind) (from to : Expr) (body : Block) (work : Work)
    → (let s = the_stat span (NumFor bind from to no_expr body) in
    restored (with_block rules body (set_bind rules bind (valued number_type (kept_map (headed_by rules s (with_expr rules to (with_expr rules from work)))))))
    ≡ with_stat rules s work)
number_form rules span bind from to body work =
    let s = the_stat span (NumFor bind from to no_expr body) in
    let a = seen_expr rules work.map from in
    let b = seen_expr rules (after rules work.map from) to in
    let d = seen_block rules (number_map rules span bind from to no_expr body work.map) body in
    ap (λ (ss : List Seen). record work { value = returned rules work.map s; map = after_stat rules work.map s; seen = ss })
    (ap (λ (ss : List Seen). ss ++ d) (append_assoc work.seen a b) ∙ append_assoc work.seen (a ++ b) d ∙ ap (λ (ss : List Seen). work.seen ++ (ss ++ d)) (sym (append-nil (a ++ b))))

pub stepped_form : (rules : Rules) (span : Span) (bind : Bind) (from to by : Expr) (body : Block) (work : Work)
    → (let s = the_stat span (NumFor bind from to (an_expr by) body) in
    restored (with_block rules body (set_bind rules bind (valued number_type (kept_map (headed_by rules s (with_expr rules by (with_expr rules to (with_expr rules from work))))))))
    ≡ with_stat rules s work)
stepped_form rules span bind from to by body work =
    let s = the_stat span (NumFor bind from to (an_expr by) body) in
    let a = seen_expr rules work.map from in
    let b = seen_expr rules (after rules work.map from) to in
    let c = seen_expr rules (after rules (after rules work.map from) to) by in
    let d = seen_block rules (number_map rules span bind from to (an_expr by) body work.map) body in
    ap (λ (ss : List Seen). record work { value = returned rules work.map s; map = after_stat rules work.map s; seen = ss })
    (ap (λ (ss : List Seen). (ss ++ c) ++ d) (append_assoc work.seen a b) ∙ ap (λ (ss : List Seen). ss ++ d) (append_assoc work.seen (a ++ b) c) ∙ append_assoc work.seen ((a ++ b) ++ c) d)

pub iteration_form : (rules : Rules) (span : Span) (binds : Binds) (values : Exprs) (body : Block) (work : Work)
    → (let s = the_stat span (GenFor binds values body) in restored (with_block rules body (kept_map (headed_by rules s (unlisted (with_values rules values work))))) ≡ with_stat rules s work)
iteration_form rules span binds values body work = seen_both work _ _ (seen_list rules work.map values) _

pub function_form : (rules : Rules) (span : Span) (path : Expr) (body : Body) (work : Work)
    → done (write rules (function_target rules path None) (valued (literal_type rules body) (with_body rules body (with_target rules path work))))
    ≡ with_stat rules (the_stat span (FunctionStat path None body)) work
function_form rules span path body work = seen_both work never _ (seen_target rules work.map path) _

pub method_form : (rules : Rules) (span : Span) (path : Expr) (name : List ℕ) (body : Body) (work : Work)
    → done (write rules (function_target rules path (Some name)) (valued (literal_type rules body) (with_body rules body (with_expr rules path work))))
    ≡ with_stat rules (the_stat span (FunctionStat path (Some name) body)) work
method_form rules span path name body work = seen_both work never _ (seen_expr rules work.map path) _

pub local_function_form : (rules : Rules) (span : Span) (name : Bind) (body : Body) (work : Work)
    → done (with_body rules body (set_bind rules name (valued (literal_type rules body) work))) ≡ with_stat rules (the_stat span (LocalFunction name body)) work
local_function_form rules span name body work = refl

-- whether a run comes there is the same after a part
live_after : (has_effects : Bool) (map : TypeMap) (type : Term) → where_live (after_part has_effects map) type ≡ where_live map type
live_after true map type = refl
live_after false map type = refl

pub return_form : (rules : Rules) (span : Span) (values : Exprs) (work : Work)
    → mapped ended (live_only (unlisted (first_taken false (with_values rules values work)))) ≡ with_stat rules (the_stat span (Return values)) work
return_form rules span no_exprs work = refl
return_form rules span (more_exprs e rest) work =
    let values = more_exprs e rest in
    ap (λ (type : Term). record work { value = type; map = ended (after_list rules work.map values); seen = work.seen ++ seen_list rules work.map values })
    (live_after (any_effects rules values) work.map (held (any_effects rules rest) (typ rules work.map e)))

-- a statement in which nothing is evaluated
pub still_form : (rules : Rules) (span : Span) (kind : StatKind) (work : Work) → seen_kind rules work.map span kind ≡ [] → returned_in rules work.map span kind ≡ never
    → record work { value = never; map = after_kind rules work.map span kind } ≡ with_stat rules (the_stat span kind) work
still_form rules span kind work none nothing =
    ap (λ (ss : List Seen). record work { value = never; map = after_kind rules work.map span kind; seen = ss }) (sym (append-nil work.seen) ∙ ap (λ (ss : List Seen). work.seen ++ ss) (sym none))
    ∙ ap (λ (type : Term). record work { value = type; map = after_kind rules work.map span kind; seen = work.seen ++ seen_kind rules work.map span kind }) (sym nothing)

-- ## The same, where a statement is known by its form, or a target by what it is

pub while_at : (rules : Rules) (s : Stat) (span : Span) (cond : Expr) (body : Block) (work : Work) → s ≡ the_stat span (While cond body)
    → restored (with_block rules body (decided rules cond true (with_expr rules cond (kept_map (headed_by rules s work))))) ≡ with_stat rules s work
while_at rules s span cond body work is =
    subst (λ (x : Stat). restored (with_block rules body (decided rules cond true (with_expr rules cond (kept_map (headed_by rules x work))))) ≡ with_stat rules x work) (sym is) (while_form rules span cond body work)

pub repeat_at : (rules : Rules) (s : Stat) (span : Span) (body : Block) (cond : Expr) (work : Work) → s ≡ the_stat span (Repeat body cond)
    → restored (passed rules cond (kept_map (restored (with_block rules body (kept_map (headed_by rules s work)))))) ≡ with_stat rules s work
repeat_at rules s span body cond work is =
    subst (λ (x : Stat). restored (passed rules cond (kept_map (restored (with_block rules body (kept_map (headed_by rules x work)))))) ≡ with_stat rules x work) (sym is) (repeat_form rules span body cond work)

pub number_at : (rules : Rules) (s : Stat) (span : Span) (bind : Bind) (from to : Expr) (body : Block) (work : Work) → s ≡ the_stat span (NumFor bind from to no_expr body)
    → restored (with_block rules body (set_bind rules bind (valued number_type (kept_map (headed_by rules s (with_expr rules to (with_expr rules from work))))))) ≡ with_stat rules s work
number_at rules s span bind from to body work is =
    subst (λ (x : Stat). restored (with_block rules body (set_bind rules bind (valued number_type (kept_map (headed_by rules x (with_expr rules to (with_expr rules from work))))))) ≡ with_stat rules x work) (sym is) (number_form rules span bind from to body work)

pub stepped_at : (rules : Rules) (s : Stat) (span : Span) (bind : Bind) (from to by : Expr) (body : Block) (work : Work) → s ≡ the_stat span (NumFor bind from to (an_expr by) body)
    → restored (with_block rules body (set_bind rules bind (valued number_type (kept_map (headed_by rules s (with_expr rules by (with_expr rules to (with_expr rules from work)))))))) ≡ with_stat rules s work
stepped_at rules s span bind from to by body work is =
    subst (λ (x : Stat). restored (with_block rules body (set_bind rules bind (valued number_type (kept_map (headed_by rules x (with_expr rules by (with_expr rules to (with_expr rules from work)))))))) ≡ with_stat rules x work) (sym is) (stepped_form rules span bind from to by body work)

pub iteration_at : (rules : Rules) (s : Stat) (span : Span) (binds : Binds) (values : Exprs) (body : Block) (work : Work) → s ≡ the_stat span (GenFor binds values body)
    → restored (with_block rules body (kept_map (headed_by rules s (unlisted (with_values rules values work))))) ≡ with_stat rules s work
iteration_at rules s span binds values body work is =
    subst (λ (x : Stat). restored (with_block rules body (kept_map (headed_by rules x (unlisted (with_values rules values work))))) ≡ with_stat rules x work) (sym is) (iteration_form rules span binds values body work)

pub compound_at : (rules : Rules) (written : Target) (span : Span) (target : Expr) (op : BinOp) (e : Expr) (work : Work) → written ≡ target_of rules target
    → done (write rules written (made (binary_type op) (with_expr rules e (put_aside (with_target rules target work))))) ≡ with_stat rules (the_stat span (Compound target op e)) work
compound_at rules written span target op e work is =
    ap (λ (x : Target). done (write rules x (made (binary_type op) (with_expr rules e (put_aside (with_target rules target work)))))) is ∙ compound_form rules span target op e work

pub function_at : (rules : Rules) (written : Target) (span : Span) (path : Expr) (body : Body) (work : Work) → written ≡ function_target rules path None
    → done (write rules written (valued (literal_type rules body) (with_body rules body (with_target rules path work)))) ≡ with_stat rules (the_stat span (FunctionStat path None body)) work
function_at rules written span path body work is =
    ap (λ (x : Target). done (write rules x (valued (literal_type rules body) (with_body rules body (with_target rules path work))))) is ∙ function_form rules span path body work

pub method_at : (rules : Rules) (written : Target) (span : Span) (path : Expr) (name : List ℕ) (body : Body) (work : Work) → written ≡ function_target rules path (Some name)
    → done (write rules written (valued (literal_type rules body) (with_body rules body (with_expr rules path work)))) ≡ with_stat rules (the_stat span (FunctionStat path (Some name) body)) work
method_at rules written span path name body work is =
    ap (λ (x : Target). done (write rules x (valued (literal_type rules body) (with_body rules body (with_expr rules path work))))) is ∙ method_form rules span path name body work
