-- A layer whose `for` loops are spent at once where a variable may stand for a builtin, which none does, does what the layer does.
use Rattle.std.proofs.Common.{◌≡◌, ℕ, true, if◌then◌else◌, List, ◌∷◌, Option, Some, None, is_some, [], refl, ◌∙◌, ap, Bool, drop, false}
use Rattle.luau_values.specs.Value.{Value, Tab, Lit, Builtin, Other, is_nil}
use Rattle.luau_values.specs.Heap as heaps
use Rattle.luau_tree.specs.Tree.{Expr, the_expr, Exprs, no_exprs, more_exprs, ExprKind, NilExpr, TrueExpr, FalseExpr, NumberExpr, StrExpr, Vararg, FunctionExpr, NameExpr, Index, At, Call, Method, Paren, Unary, Binary, IfElse, TableExpr, Interp, Assert, Choices, no_choices, more_choices, Field, Keyed, Plain, Items, no_items, more_items}
use Rattle.luau_tree.specs.Tree.{Block, no_stats, more_stats, the_stat, StatKind, Assign, Compound, CallStat, Do, While, Repeat, If, NumFor, GenFor, FunctionStat, LocalFunction, Local, TypeAlias, TypeFunction, Return, Break, Continue, Arms, no_arms, more_arms, MaybeBlock, no_block, a_block, MaybeExpr, no_expr, an_expr, the_bind, Binds}
use Rattle.luau_tree.specs.declared.names.BinOp.{BinOp}
use Rattle.luau_tree.specs.declared.names.BinOp.TheVariants.{Or, And}
use Rattle.luau_tree.specs.declared.names.Place.TheVariants.{Expr as ExprPlace}
use Rattle.luau_run.specs.Program.{Program}
use Rattle.luau_run.specs.ReadModule.{Use, UseLocal, UseBuiltin, UseLibrary, UseGlobal}
use Rattle.luau_run.specs.Machine.{Reach, State, Ran, Gave, Failed, Spent, Part, go_on, ◌>>=◌, give, spend, step, log, ask, make_table, new_cell, bind_local, look}
use Rattle.luau_run.specs.Answers.{Free, ForTurn, a_string, a_number_turn, a_turn}
use Rattle.luau_run.specs.Layer.{Frame, Ending, Falls, Breaks, Continues, Returns, Loop, WhileLoop, RepeatLoop, NumLoop, FunctionLoop, TableLoop, OtherLoop, Layer, first}
use Rattle.luau_run.specs.Operators.{is_true, binary, named_field}
use Rattle.luau_run.specs.Calls.{block, block_rest}
use Rattle.luau_run.specs.Expressions.{value, base_of, item_fields, all_values, each_value, chosen, binary_rest, one, reach, call_expr, make_closure, evaluate, evaluate_or_builtin, values}
use Rattle.luau_run.specs.Loops.{declare, next_turn, until, number_turn, turn_with, function_turn, turn, turns}
use Rattle.luau_run.specs.Statements.{Target, target, targets, write_to, write_all, read_from, place_of, branches, begin_for, bounds_of, iterate, execute, stat}
use Rattle.run_frame.specs.Analysis.{Analysis}
use Rattle.run_frame.proofs.Layers.{rules_of}
use Rattle.reports_certain.proofs.IterationTurns.{is_unfixed}

-- the turns of `while`, of `repeat`, and of a `for` whose variables never stand for a builtin
abbrev pub plain_turns : Analysis → Layer → Frame → Loop → Part Ending
plain_turns an l frame (WhileLoop cond body) = l.turns frame (WhileLoop cond body)
plain_turns an l frame (RepeatLoop body cond) = l.turns frame (RepeatLoop body cond)
plain_turns an l frame (NumLoop local body) = if is_some ((rules_of an frame).fixed local) then spend else l.turns frame (NumLoop local body)
plain_turns an l frame (FunctionLoop iterator second control binds body) = if is_unfixed an frame binds then l.turns frame (FunctionLoop iterator second control binds body) else spend
plain_turns an l frame (TableLoop binds body) = if is_unfixed an frame binds then l.turns frame (TableLoop binds body) else spend
plain_turns an l frame (OtherLoop binds body) = if is_unfixed an frame binds then l.turns frame (OtherLoop binds body) else spend

abbrev pub closed : Analysis → Layer → Layer
closed an l = record l { turns = λ frame loop. plain_turns an l frame loop }

-- the variables of a `for` never stand for a builtin
abbrev pub FitsRun : Analysis → Frame → StatKind → Type 0
FitsRun an frame (NumFor (the_bind name span typ) from to by body) = (rules_of an frame).fixed (frame.reading.local_at span.start) ≡ None
FitsRun an frame (GenFor binds values body) = is_unfixed an frame binds ≡ true
FitsRun an frame _ = Unit {0}

-- ---- expressions

pub all_closed : (an : Analysis) (l : Layer) (frame : Frame) (es : Exprs) → all_values (closed an l) frame es ≡ all_values l frame es
all_closed an l frame no_exprs = refl
all_closed an l frame (more_exprs e no_exprs) = refl
all_closed an l frame (more_exprs e (more_exprs next rest)) =
    ap (λ (p : Part (List Value)). ◌>>=◌ (value l frame e) (λ v. ◌>>=◌ p (λ values. give (v ∷ values)))) (all_closed an l frame (more_exprs next rest))

each_closed : (an : Analysis) (l : Layer) (frame : Frame) (es : Exprs) → each_value (closed an l) frame es ≡ each_value l frame es
each_closed an l frame no_exprs = refl
each_closed an l frame (more_exprs e rest) = ap (λ (p : Part (Unit {0})). ◌>>=◌ (value l frame e) (λ v. p)) (each_closed an l frame rest)

chosen_closed : (an : Analysis) (l : Layer) (frame : Frame) (arms : Choices) (last : Expr) → chosen (closed an l) frame arms last ≡ chosen l frame arms last
chosen_closed an l frame no_choices last = refl
chosen_closed an l frame (more_choices cond v rest) last =
    ap (λ (p : Part Value). ◌>>=◌ (value l frame cond) (λ c. if is_true c then value l frame v else p)) (chosen_closed an l frame rest last)

binary_closed : (program : Program) (an : Analysis) (l : Layer) (frame : Frame) (op : BinOp) (v : Value) (right : Expr) → binary_rest program (closed an l) frame op v right ≡ binary_rest program l frame op v right
binary_closed program an l frame And v right = refl
binary_closed program an l frame Or v right = refl
binary_closed program an l frame _ v right = refl

items_closed : (an : Analysis) (l : Layer) (frame : Frame) (items : Items) (fields : List heaps.Field) → item_fields (closed an l) frame items fields ≡ item_fields l frame items fields
items_closed an l frame no_items fields = refl
items_closed an l frame (more_items (Field name e) rest) fields = simp (items_closed an l frame rest)
items_closed an l frame (more_items (Keyed key e) rest) fields = simp (items_closed an l frame rest)
items_closed an l frame (more_items (Plain e) rest) fields = simp (items_closed an l frame rest)

evaluate_closed : (program : Program) (an : Analysis) (l : Layer) (frame : Frame) (id : ℕ) (kind : ExprKind)
    → evaluate program (closed an l) frame id kind ≡ evaluate program l frame id kind
evaluate_closed program an l frame id NilExpr = refl
evaluate_closed program an l frame id TrueExpr = refl
evaluate_closed program an l frame id FalseExpr = refl
evaluate_closed program an l frame id (NumberExpr text) = refl
evaluate_closed program an l frame id (StrExpr bytes) = refl
evaluate_closed program an l frame id Vararg = refl
evaluate_closed program an l frame id (FunctionExpr body) = refl
evaluate_closed program an l frame id (NameExpr name) = refl
evaluate_closed program an l frame id (Index base name) = refl
evaluate_closed program an l frame id (At base key) = refl
evaluate_closed program an l frame id (Call (the_expr at span callee) args) = by_required (frame.reading.required id)
  where
    by_required : (o : Option ℕ) → call_expr (closed an l) frame o (the_expr at span callee) args ≡ call_expr l frame o (the_expr at span callee) args
    by_required (Some other) = ap (λ (p : Part (List Value)). ◌>>=◌ (reach frame at) (λ x. ◌>>=◌ p (λ values. ◌>>=◌ step (λ y. l.require other)))) (all_closed an l frame args)
    by_required None = ap (λ (p : Part (List Value)). ◌>>=◌ (value l frame (the_expr at span callee)) (λ f. ◌>>=◌ p (λ values. ◌>>=◌ step (λ x. l.call f values)))) (all_closed an l frame args)
evaluate_closed program an l frame id (Method base name name_span args) =
    ap (λ (p : Part (List Value)). ◌>>=◌ (base_of l frame base) (λ b. ◌>>=◌ p (λ values. ◌>>=◌ (named_field program name b) (λ f. ◌>>=◌ step (λ x. l.call f (b.value ∷ values))))))
    (all_closed an l frame args)
evaluate_closed program an l frame id (Paren e) = refl
evaluate_closed program an l frame id (Unary op e) = refl
evaluate_closed program an l frame id (Binary op left right) = simp (binary_closed program an l frame op)
evaluate_closed program an l frame id (IfElse arms last) = ap (λ (p : Part Value). one p) (chosen_closed an l frame arms last)
evaluate_closed program an l frame id (TableExpr items) =
    ap (λ (p : Part (List heaps.Field)). one (◌>>=◌ p (λ fields. ◌>>=◌ (make_table fields) (λ address. give (Tab address))))) (items_closed an l frame items [])
evaluate_closed program an l frame id (Interp texts parts) = ap (λ (p : Part (Unit {0})). one (◌>>=◌ p (λ x. ask a_string))) (each_closed an l frame parts)
evaluate_closed program an l frame id (Assert e typ) = refl

use_closed : (program : Program) (an : Analysis) (l : Layer) (frame : Frame) (id : ℕ) (kind : ExprKind) (o : Option Use)
    → evaluate_or_builtin program (closed an l) frame id kind o ≡ evaluate_or_builtin program l frame id kind o
use_closed program an l frame id kind (Some (UseBuiltin path)) = refl
use_closed program an l frame id kind (Some (UseLocal x)) = evaluate_closed program an l frame id kind
use_closed program an l frame id kind (Some UseLibrary) = evaluate_closed program an l frame id kind
use_closed program an l frame id kind (Some UseGlobal) = evaluate_closed program an l frame id kind
use_closed program an l frame id kind None = evaluate_closed program an l frame id kind

pub values_closed : (program : Program) (an : Analysis) (l : Layer) (frame : Frame) (id : ℕ) (span : _) (kind : ExprKind)
    → values program (closed an l) frame (the_expr id span kind) ≡ values program l frame (the_expr id span kind)
unfolding values
values_closed program an l frame id span kind =
    ap (λ (p : Part (List Value)). ◌>>=◌ (reach frame id) (λ x. p)) (use_closed program an l frame id kind (frame.reading.use_of id))

-- ---- statements

pub block_closed : (an : Analysis) (l : Layer) (frame : Frame) (b : Block) → block (closed an l) frame b ≡ block l frame b
block_closed an l frame no_stats = refl
block_closed an l frame (more_stats st rest) = ap (λ (p : Part Ending). ◌>>=◌ (l.stat frame st) (block_rest p)) (block_closed an l frame rest)

branches_closed : (an : Analysis) (l : Layer) (frame : Frame) (arms : Arms) (last : MaybeBlock) → branches (closed an l) frame arms last ≡ branches l frame arms last
branches_closed an l frame no_arms no_block = refl
branches_closed an l frame no_arms (a_block last) = block_closed an l frame last
branches_closed an l frame (more_arms cond body rest) last =
    ap (λ (p : Part Ending). ◌>>=◌ (value l frame cond) (λ c. if is_true c then p else branches (closed an l) frame rest last)) (block_closed an l frame body)
    ∙ ap (λ (p : Part Ending). ◌>>=◌ (value l frame cond) (λ c. if is_true c then block l frame body else p)) (branches_closed an l frame rest last)

target_closed : (an : Analysis) (l : Layer) (frame : Frame) (e : Expr) → target (closed an l) frame e ≡ target l frame e
target_closed an l frame (the_expr id span (NameExpr name)) = refl
target_closed an l frame (the_expr id span (Index base name)) = refl
target_closed an l frame (the_expr id span (At base key)) = refl
target_closed an l frame (the_expr id span _) = refl

targets_closed : (an : Analysis) (l : Layer) (frame : Frame) (es : Exprs) → targets (closed an l) frame es ≡ targets l frame es
targets_closed an l frame no_exprs = refl
targets_closed an l frame (more_exprs e rest) = simp (target_closed an l frame e, targets_closed an l frame rest)

bounds_closed : (an : Analysis) (l : Layer) (frame : Frame) (by : MaybeExpr) → bounds_of (closed an l) frame by ≡ bounds_of l frame by
bounds_closed an l frame no_expr = refl
bounds_closed an l frame (an_expr e) = refl

iterate_closed : (an : Analysis) (l : Layer) (frame : Frame) (binds : Binds) (body : Block) (rest : List Value) (x : Value) → is_unfixed an frame binds ≡ true
    → iterate (closed an l) frame binds body rest x ≡ iterate l frame binds body rest x
iterate_closed an l frame binds body rest (Lit home number cells) h =
    ap (λ (b : Bool). if b then l.turns frame (FunctionLoop (Lit home number cells) (first rest) (first (drop 1 rest)) binds body) else spend) h
iterate_closed an l frame binds body rest (Builtin path) h = ap (λ (b : Bool). if b then l.turns frame (FunctionLoop (Builtin path) (first rest) (first (drop 1 rest)) binds body) else spend) h
iterate_closed an l frame binds body rest (Tab address) h = ap (λ (b : Bool). if b then l.turns frame (TableLoop binds body) else spend) h
iterate_closed an l frame binds body rest (Other number) h = ap (λ (b : Bool). if b then l.turns frame (OtherLoop binds body) else spend) h
iterate_closed an l frame binds body rest _ h = refl

execute_closed : (program : Program) (an : Analysis) (l : Layer) (frame : Frame) (kind : StatKind) → FitsRun an frame kind → execute program (closed an l) frame kind ≡ execute program l frame kind
execute_closed program an l frame (Assign to values) fits =
    ap (λ (p : Part (List Target)). ◌>>=◌ p (λ ts. ◌>>=◌ (all_values (closed an l) frame values) (λ vs. ◌>>=◌ (write_all frame ts vs) (λ x. give Falls)))) (targets_closed an l frame to)
    ∙ ap (λ (p : Part (List Value)). ◌>>=◌ (targets l frame to) (λ ts. ◌>>=◌ p (λ vs. ◌>>=◌ (write_all frame ts vs) (λ x. give Falls)))) (all_closed an l frame values)
execute_closed program an l frame (Compound at op e) fits =
    ap (λ (p : Part Target). ◌>>=◌ (log (Reach frame.activation frame.module_at (ExprPlace (record { 0 = place_of at })))) (λ x. ◌>>=◌ p (λ t. ◌>>=◌ (read_from program frame t)
    (λ old. ◌>>=◌ (value l frame e) (λ v. ◌>>=◌ (binary program op old v) (λ new. ◌>>=◌ (write_to frame t new) (λ y. give Falls))))))) (target_closed an l frame at)
execute_closed program an l frame (CallStat e) fits = refl
execute_closed program an l frame (Do body) fits = block_closed an l frame body
execute_closed program an l frame (If arms last) fits = branches_closed an l frame arms last
execute_closed program an l frame (Local binds values) fits =
    ap (λ (p : Part (List Value)). ◌>>=◌ p (λ vs. ◌>>=◌ (declare frame binds vs) (λ x. give Falls))) (all_closed an l frame values)
execute_closed program an l frame (FunctionStat path None code) fits =
    ap (λ (p : Part Target). ◌>>=◌ p (λ t. ◌>>=◌ (make_closure frame code) (λ closure. ◌>>=◌ (write_to frame t closure) (λ x. give Falls)))) (target_closed an l frame path)
execute_closed program an l frame (LocalFunction name code) fits = refl
execute_closed program an l frame (TypeAlias exported name generics typ) fits = refl
execute_closed program an l frame (TypeFunction exported name body) fits = refl
execute_closed program an l frame (Return values) fits = ap (λ (p : Part (List Value)). ◌>>=◌ p (λ vs. give (Returns vs))) (all_closed an l frame values)
execute_closed program an l frame (While cond body) fits = refl
execute_closed program an l frame (Repeat body cond) fits = refl
execute_closed program an l frame (NumFor (the_bind name span typ) from to by body) fits =
    ap (λ (p : Part (List Value)). ◌>>=◌ (value l frame from) (λ a. ◌>>=◌ (value l frame to) (λ b. ◌>>=◌ p (λ c. ◌>>=◌ (begin_for (a ∷ b ∷ c))
    (λ x. (closed an l).turns frame (NumLoop (frame.reading.local_at span.start) body)))))) (bounds_closed an l frame by)
    ∙ ap (λ (o : Option (List ℕ)). ◌>>=◌ (value l frame from) (λ a. ◌>>=◌ (value l frame to) (λ b. ◌>>=◌ (bounds_of l frame by) (λ c. ◌>>=◌ (begin_for (a ∷ b ∷ c))
    (λ x. if is_some o then spend else l.turns frame (NumLoop (frame.reading.local_at span.start) body)))))) fits
execute_closed program an l frame (GenFor binds values body) fits =
    ap (λ (p : Part (List Value)). ◌>>=◌ p (λ vs. iterate (closed an l) frame binds body (drop 1 vs) (first vs))) (all_closed an l frame values)
    ∙ simp (λ (vs : List Value). iterate_closed an l frame binds body (drop 1 vs) (first vs) fits)
execute_closed program an l frame Break fits = refl
execute_closed program an l frame Continue fits = refl
execute_closed program an l frame (FunctionStat path (Some method) code) fits = refl

pub stat_closed : (program : Program) (an : Analysis) (l : Layer) (frame : Frame) (span : _) (kind : StatKind) → FitsRun an frame kind
    → stat program (closed an l) frame (the_stat span kind) ≡ stat program l frame (the_stat span kind)
unfolding stat
stat_closed program an l frame span kind fits = ap (λ (p : Part Ending). ◌>>=◌ step (λ x. p)) (execute_closed program an l frame kind fits)

-- ---- loops

-- parts that go on in the same way
go_same : {A B : Type 0} (r : Ran A) (next other : A → Part B) → ((x : A) (t : State) → next x t ≡ other x t) → go_on r next ≡ go_on r other
go_same (Gave x t) next other h = h x t
go_same (Failed t) next other h = refl
go_same (Spent t) next other h = refl

until_closed : (an : Analysis) (l : Layer) (frame : Frame) (cond : Expr) (again : Part Ending) (ending : Ending) (t : State) → until (closed an l) frame cond again ending t ≡ until l frame cond again ending t
until_closed an l frame cond again Falls t = refl
until_closed an l frame cond again Breaks t = refl
until_closed an l frame cond again Continues t = refl
until_closed an l frame cond again (Returns vs) t = refl

pub while_closed : (program : Program) (an : Analysis) (l : Layer) (frame : Frame) (cond : Expr) (body : Block) (s : State)
    → turns program (closed an l) frame (WhileLoop cond body) s ≡ turns program l frame (WhileLoop cond body) s
unfolding turns
while_closed program an l frame cond body s = ap (λ (p : Part Ending). ◌>>=◌ step (λ x. ◌>>=◌ (value l frame cond)
    (λ c. if is_true c then ◌>>=◌ p (next_turn (l.turns frame (WhileLoop cond body))) else give Falls)) s) (block_closed an l frame body)

pub repeat_closed : (program : Program) (an : Analysis) (l : Layer) (frame : Frame) (body : Block) (cond : Expr) (s : State)
    → turns program (closed an l) frame (RepeatLoop body cond) s ≡ turns program l frame (RepeatLoop body cond) s
unfolding turns ◌>>=◌
repeat_closed program an l frame body cond s = go_same (step s) (λ x. turn program (closed an l) frame (RepeatLoop body cond)) (λ x. turn program l frame (RepeatLoop body cond))
    (λ x t. ap (λ (p : Part Ending). go_on (p t) (until (closed an l) frame cond (l.turns frame (RepeatLoop body cond)))) (block_closed an l frame body)
    ∙ go_same (block l frame body t) (until (closed an l) frame cond (l.turns frame (RepeatLoop body cond))) (until l frame cond (l.turns frame (RepeatLoop body cond)))
    (λ ending u. until_closed an l frame cond (l.turns frame (RepeatLoop body cond)) ending u))

pub number_closed : (program : Program) (an : Analysis) (l : Layer) (frame : Frame) (local : ℕ) (body : Block) (s : State) → (rules_of an frame).fixed local ≡ None
    → turns program (closed an l) frame (NumLoop local body) s ≡ turns program l frame (NumLoop local body) s
unfolding turns ◌>>=◌
number_closed program an l frame local body s free = go_same (step s) (λ x. turn program (closed an l) frame (NumLoop local body)) (λ x. turn program l frame (NumLoop local body))
    (λ x t. go_same (ask a_number_turn t) (number_turn (closed an l) frame local body ((closed an l).turns frame (NumLoop local body)))
    (number_turn l frame local body (l.turns frame (NumLoop local body))) (λ o u. by_turn o u))
  where
    by_turn : (o : Option Value) (u : State) → number_turn (closed an l) frame local body ((closed an l).turns frame (NumLoop local body)) o u
        ≡ number_turn l frame local body (l.turns frame (NumLoop local body)) o u
    by_turn None u = refl
    by_turn (Some v) u =
        ap (λ (p : Part Ending). ◌>>=◌ (new_cell v) (λ cell. ◌>>=◌ (bind_local frame.activation local cell) (λ x. ◌>>=◌ p (next_turn ((closed an l).turns frame (NumLoop local body))))) u)
        (block_closed an l frame body)
        ∙ ap (λ (o : Option (List ℕ)). ◌>>=◌ (new_cell v) (λ cell. ◌>>=◌ (bind_local frame.activation local cell)
        (λ x. ◌>>=◌ (block l frame body) (next_turn (if is_some o then spend else l.turns frame (NumLoop local body))))) u) free

-- a turn with values
with_closed : (an : Analysis) (l : Layer) (frame : Frame) (binds : Binds) (body : Block) (again : Part Ending) (o : Option (List Value)) (s : State)
    → turn_with (closed an l) frame binds body again o s ≡ turn_with l frame binds body again o s
with_closed an l frame binds body again None s = refl
with_closed an l frame binds body again (Some vs) s = ap (λ (p : Part Ending). ◌>>=◌ (declare frame binds vs) (λ x. ◌>>=◌ p (next_turn again)) s) (block_closed an l frame body)

pub table_closed : (program : Program) (an : Analysis) (l : Layer) (frame : Frame) (binds : Binds) (body : Block) (s : State) → is_unfixed an frame binds ≡ true
    → turns program (closed an l) frame (TableLoop binds body) s ≡ turns program l frame (TableLoop binds body) s
unfolding turns ◌>>=◌ look
table_closed program an l frame binds body s h = go_same (step s) (λ x. turn program (closed an l) frame (TableLoop binds body)) (λ x. turn program l frame (TableLoop binds body))
    (λ x t. go_same (ask (a_turn program t.store) t) (turn_with (closed an l) frame binds body ((closed an l).turns frame (TableLoop binds body)))
    (turn_with l frame binds body (l.turns frame (TableLoop binds body)))
    (λ o u. with_closed an l frame binds body ((closed an l).turns frame (TableLoop binds body)) o u
    ∙ ap (λ (b : Bool). turn_with l frame binds body (if b then l.turns frame (TableLoop binds body) else spend) o u) h))

pub other_closed : (program : Program) (an : Analysis) (l : Layer) (frame : Frame) (binds : Binds) (body : Block) (s : State) → is_unfixed an frame binds ≡ true
    → turns program (closed an l) frame (OtherLoop binds body) s ≡ turns program l frame (OtherLoop binds body) s
unfolding turns ◌>>=◌
other_closed program an l frame binds body s h = go_same (step s) (λ x. turn program (closed an l) frame (OtherLoop binds body)) (λ x. turn program l frame (OtherLoop binds body))
    (λ x t. go_same (l.acts Free ForTurn t) (turn_with (closed an l) frame binds body ((closed an l).turns frame (OtherLoop binds body)))
    (turn_with l frame binds body (l.turns frame (OtherLoop binds body)))
    (λ o u. with_closed an l frame binds body ((closed an l).turns frame (OtherLoop binds body)) o u
    ∙ ap (λ (b : Bool). turn_with l frame binds body (if b then l.turns frame (OtherLoop binds body) else spend) o u) h))

pub function_closed : (program : Program) (an : Analysis) (l : Layer) (frame : Frame) (iterator second control : Value) (binds : Binds) (body : Block) (s : State) → is_unfixed an frame binds ≡ true
    → turns program (closed an l) frame (FunctionLoop iterator second control binds body) s ≡ turns program l frame (FunctionLoop iterator second control binds body) s
unfolding turns ◌>>=◌
function_closed program an l frame iterator second control binds body s h =
    go_same (step s) (λ x. turn program (closed an l) frame (FunctionLoop iterator second control binds body)) (λ x. turn program l frame (FunctionLoop iterator second control binds body))
    (λ x t. go_same (step t) (λ y. ◌>>=◌ (l.call iterator (second ∷ control ∷ [])) (function_turn (closed an l) frame iterator second binds body))
    (λ y. ◌>>=◌ (l.call iterator (second ∷ control ∷ [])) (function_turn l frame iterator second binds body))
    (λ y u. go_same (l.call iterator (second ∷ control ∷ []) u) (function_turn (closed an l) frame iterator second binds body) (function_turn l frame iterator second binds body)
    (λ vs c. by_nil vs c (is_nil (first vs)))))
  where
    by_nil : (vs : List Value) (c : State) (nil : Bool)
        → (if nil then give Falls else turn_with (closed an l) frame binds body ((closed an l).turns frame (FunctionLoop iterator second (first vs) binds body)) (Some vs)) c
        ≡ (if nil then give Falls else turn_with l frame binds body (l.turns frame (FunctionLoop iterator second (first vs) binds body)) (Some vs)) c
    by_nil vs c true = refl
    by_nil vs c false = with_closed an l frame binds body ((closed an l).turns frame (FunctionLoop iterator second (first vs) binds body)) (Some vs) c
        ∙ ap (λ (b : Bool). turn_with l frame binds body (if b then l.turns frame (FunctionLoop iterator second (first vs) binds body) else spend) (Some vs) c) h
