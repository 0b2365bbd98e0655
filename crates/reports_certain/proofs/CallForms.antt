-- Calls as expressions, forward and backward; static requires aside.
use Rattle.std.proofs.Common.{◌≡◌, ℕ, ◌<◌, ◌≤◌, Bool, true, false, not, ◌||◌, ◌&&◌, if◌then◌else◌, List, [], ◌∷◌, ◌++◌, length, Option, Some, None, ◌⊎◌, inl, inr, refl, sym, ◌∙◌, ap, subst, arith, codes, slice_get}
use Rattle.std.specs.List.{AllByRecursion}
use Rattle.std.specs.Option.{option_map_or}
use Rattle.std.specs.Str.{bytes_eq}
use Rattle.std.proofs.lemmas.Slice.Eq.{bytes_eq-Decides}
use Rattle.luau_values.specs.Value.{Value, Nil, Tab, Builtin}
use Rattle.luau_values.specs.Heap.{Heap, is_frozen, field_of}
use Rattle.luau_values.specs.Later.{Later}
use Rattle.luau_values.specs.Grows.{Grows}
use Rattle.luau_values.specs.Stands.{Stands}
use Rattle.luau_values.proofs.Public.{stands_later}
use Rattle.luau_tree.specs.Tree.{Expr, the_expr, Exprs, no_exprs, more_exprs, Call}
use Rattle.luau_tree.specs.declared.names.Op.TheVariants.{Call as CallOp}
use Rattle.luau_run.specs.ReadModule.{Use, ReadModule}
use Rattle.luau_run.specs.ValueSet.{ValueSet, nothing, set_or, all_in}
use Rattle.luau_run.specs.Signature.{Signature, declaration}
use Rattle.luau_run.specs.SyntaxNode.{AnExpr, of_expr, of_exprs, of_block}
use Rattle.luau_run.specs.Machine.{Store, State, Gave, go_on, ◌>>=◌, step}
use Rattle.luau_run.specs.Layer.{Frame, Layer, first}
use Rattle.luau_run.specs.Expressions.{cell_of, value, all_values, values, call_expr}
use Rattle.type_arena.specs.Term.{Function, builtin, literal, Term}
use Rattle.type_normal.specs.Holds.{holds}
use Rattle.type_normal.specs.Kinds.{nil_type, exactly_one_function}
use Rattle.type_normal.specs.Failing.{uncallable, call_fail}
use Rattle.type_normal.specs.Field.{frozen_rows}
use Rattle.type_normal.proofs.Public.{unknown_all, kinds_hold, one_function_holds, grown_holds, frozen_holds}
use Rattle.report_rules.specs.Rules.{TypedBuiltin, Rules, loose, local_named, fixed_use, fixed_builtin, declared, is_quiet_call}
use Rattle.report_rules.specs.Effects.{effects, any_effects}
use Rattle.report_rules.specs.Guard.{firm_only, firm_local, is_type, kind_subject}
use Rattle.report_rules.specs.TypeMap.{TypeMap}
use Rattle.report_rules.specs.Forward.{typ, builtin_or, first_result, declared_result, call_result, call_type, types_of_list, first_or_never, after}
use Rattle.report_rules.specs.Seen.{seen_expr, seen_list}
use Rattle.report_rules.specs.Context.{Context, none, followed}
use Rattle.report_rules.specs.Checks.{ReportKind, Operand, type_of, checked_callee}
use Rattle.report_rules.specs.Errors.{ev, ev_args, call_kinds}
use Rattle.report_rules.specs.Findings.{Finding, found, found_args}
use Rattle.report_rules.specs.Reports.{findings}
use Rattle.run_frame.specs.Analysis.{Analysis, is_loose}
use Rattle.run_frame.specs.Statements.{stats_of_expr, stats_of_exprs}
use Rattle.run_frame.specs.Fit.{AreOf, MayBeOf, AreDeclared, Fit}
use Rattle.run_frame.proofs.World.{World}
use Rattle.run_frame.proofs.Counts.{reached}
use Rattle.run_frame.proofs.Kept.{Doer, MayMore, Kept, nobody, kept_same}
use Rattle.run_frame.proofs.Fine.{Fine, fine_same}
use Rattle.run_frame.proofs.Held.{Runs, runs_kept, has_begun, Reads, Held, held_store, Violated, reads_after}
use Rattle.run_frame.proofs.Parts.{Ends, Same, ends_so, ends_then, ends_more, ends_gave, ends_step, step_same, gave_then}
use Rattle.run_frame.proofs.Layers.{rules_of, seen_of, part_of, expr_of, is_quiet, Inside, Placed, Marked, IsKindName, Gives, Pays, Answers, Trouble, Forward, Backward}
use Rattle.run_frame.proofs.Readings.{sub_tail, sub_left, sub_right, reads_same, fits}
use Rattle.run_frame.proofs.Passing.{none_violated, violated_followed}
use Rattle.run_frame.proofs.Lists.{ListGives, list_forward, may_part, may_first, inside_left, inside_right, FirstOf}
use Rattle.run_frame.proofs.Blocks.{in_first, in_second}
use Rattle.run_frame.proofs.Marks.{typed_at}
use Rattle.run_frame.proofs.Forms.{value_gave, Evaluated, evaluated, IsForm, form_read, form_forward, FormPays, form_backward, After, value_forward, first_stands}
use Rattle.run_frame.proofs.ListsBack.{Check, by_set, operand_quiet, operand_safe, SomeIn, found_checks, list_pays}
use Rattle.reports_certain.proofs.Arguments.{checks_args, ev_args_same, found_args_same, AreGiven, list_given, Took, args_taken, none_missing, callee_took}

pub call_form : (callee : Expr) (args : Exprs) → IsForm (Call callee args)
call_form callee args = record { nameless = refl; pathless = refl; no_local = λ rules id span. refl }

pub within_call : (frame : Frame) (id : ℕ) (span : _) (callee : Expr) (args : Exprs) → Inside frame (of_expr (the_expr id span (Call callee args))) (stats_of_expr (the_expr id span (Call callee args)))
    → Inside frame (of_expr callee ++ of_exprs args) (stats_of_expr callee ++ stats_of_exprs args)
within_call frame id span callee args h =
    record { nodes = sub_tail (AnExpr (the_expr id span (Call callee args))) (of_expr callee ++ of_exprs args) (of_block frame.reading.block) h.nodes; stats = h.stats }

-- ---- the arguments of a call

-- where a list is one bare name, its value is what the local holds
abbrev pub OneLocal : Analysis → Frame → Exprs → List Value → State → Type 0
OneLocal an frame (more_exprs e no_exprs) vs t =
    (x : ℕ) → local_named (rules_of an frame) e ≡ Some x → is_loose an frame.module_at x ≡ false → (c : ℕ) × Reads frame t x c (first vs)
OneLocal an frame _ vs t = Unit {0}

abbrev pub ArgsGive : Analysis → Frame → TypeMap → Exprs → List Value → State → Type 0
ArgsGive an frame map es vs t = ListGives an frame map es vs t × OneLocal an frame es vs t

one_first : (vs : List Value) (path : List ℕ) → vs ≡ Builtin path ∷ [] → first vs ≡ Builtin path
one_first vs path e = ap first e

last_gives : (an : Analysis) (frame : Frame) (map : TypeMap) (e : Expr) (vs : List Value) (t : State) → Gives an frame map e vs t
    → ListGives an frame map (more_exprs e no_exprs) vs t
last_gives an frame map e vs t g = record {
  stand = g.stand;
  typed = (g.typed, tt);
  number = λ k. ap (λ (xs : List Value). length xs) (g.one k).1;
  fixed = (λ path k. one_first vs path (g.fixed path k), tt);
}

args_forward : (an : Analysis) (l : Layer) → Forward an l → (w : World) (s : State) (frame : Frame) (map : TypeMap) (es : Exprs) → Fine an w s → Runs an w s frame
    → Held an frame map s → Inside frame (of_exprs es) (stats_of_exprs es) → Placed an frame (seen_list (rules_of an frame) map es)
    → Ends an (part_of frame (any_effects (rules_of an frame) es)) w s (ArgsGive an frame map es) (all_values l frame es s)
args_forward an l fwd w s frame map no_exprs f r h inside placed =
    ends_so an (part_of frame false) w s (ListGives an frame map no_exprs) (ArgsGive an frame map no_exprs) (all_values l frame no_exprs s) (λ vs t v q g k p. (p, tt))
    (list_forward an l fwd w s frame map no_exprs f r h inside placed)
args_forward an l fwd w s frame map (more_exprs e no_exprs) f r h inside placed =
    ends_more an (expr_of an frame e) (part_of frame (any_effects (rules_of an frame) (more_exprs e no_exprs))) w s (ArgsGive an frame map (more_exprs e no_exprs)) (l.values frame e s)
    (may_first frame (effects (rules_of an frame) e) false)
    (ends_so an (expr_of an frame e) w s (Gives an frame map e) (ArgsGive an frame map (more_exprs e no_exprs)) (l.values frame e s)
    (λ vs t v q g k p. (last_gives an frame map e vs t p, p.local))
    (fwd.values w s frame map e f r h (inside_left frame (of_expr e) (of_exprs no_exprs) (stats_of_expr e) (stats_of_exprs no_exprs) inside)
    (sub_left (seen_expr (rules_of an frame) map e) (seen_list (rules_of an frame) (after (rules_of an frame) map e) no_exprs) (seen_of an frame) placed)))
args_forward an l fwd w s frame map (more_exprs e (more_exprs next rest)) f r h inside placed =
    ends_so an (part_of frame (any_effects (rules_of an frame) (more_exprs e (more_exprs next rest)))) w s (ListGives an frame map (more_exprs e (more_exprs next rest)))
    (ArgsGive an frame map (more_exprs e (more_exprs next rest))) (all_values l frame (more_exprs e (more_exprs next rest)) s) (λ vs t v q g k p. (p, tt))
    (list_forward an l fwd w s frame map (more_exprs e (more_exprs next rest)) f r h inside placed)

-- where `table.freeze` is called, a layer changes tables by freezing alone
abbrev pub Freezes : Layer → Type 0
Freezes l = (args vs : List Value) (s t : State) → l.call (Builtin (codes "table.freeze")) args s ≡ Gave vs t → Grows s.store.heap t.store.heap

-- ---- the type of a result

both_parts : (a b : Bool) → a && b ≡ true → (a ≡ true) × (b ≡ true)
both_parts true b e = (refl, e)
both_parts false b e = cc

first_given : (heap : Heap) (sets : List ValueSet) (types : List Term) (further : Option ValueSet) (more : Option Term) (vs : List Value) → AreOf sets types → MayBeOf further more
    → all_in heap sets (set_or nothing further) vs ≡ true → holds heap (first vs) (first_result types more) ≡ true
first_given heap (set ∷ sets) (type ∷ types) further more [] h k e = sym (h.0 heap Nil) ∙ (both_parts (set heap Nil) (all_in heap sets (set_or nothing further) []) e).0
first_given heap (set ∷ sets) (type ∷ types) further more (v ∷ vs) h k e = sym (h.0 heap v) ∙ (both_parts (set heap v) (all_in heap sets (set_or nothing further) vs) e).0
first_given heap (set ∷ sets) [] further more vs h k e = absurd h
first_given heap [] (type ∷ types) further more vs h k e = absurd h
first_given heap [] [] None None [] h k e = refl
first_given heap [] [] None None (v ∷ vs) h k e = cc
first_given heap [] [] None (Some type) vs h k e = absurd k
first_given heap [] [] (Some set) None vs h k e = absurd k
first_given heap [] [] (Some set) (Some type) [] h k e = in_second heap Nil type nil_type refl
first_given heap [] [] (Some set) (Some type) (v ∷ vs) h k e = in_first heap v type nil_type (sym (k heap v) ∙ (both_parts (set heap v) (all_in heap [] set vs) e).0)

declared_given : (an : Analysis) (callee : Value) (args : List Value) (s : State) (vs : List Value) (t : State) (path : List ℕ) (b : TypedBuiltin) (d : Option Signature)
    → declaration an.program.builtins path ≡ d → AreDeclared d (Some b) → callee ≡ Builtin path → Answers an callee args s vs t → holds t.store.heap (first vs) (first_result b.results b.more) ≡ true
declared_given an callee args s vs t path b None e h is answers = absurd h
declared_given an callee args s vs t path b (Some g) e h is answers = first_given t.store.heap g.results b.results g.more b.more vs h.results h.more (answers.given path g is e)

-- what `table.freeze` gives is its argument, which was of its type, and is frozen
frozen_given : (an : Analysis) (callee : Value) (args : List Value) (s : State) (vs : List Value) (t : State) (type : Term) (w : World) → Fine an w s → AllByRecursion (Stands s.store.heap) args
    → callee ≡ Builtin (codes "table.freeze") → Grows s.store.heap t.store.heap → Answers an callee args s vs t
    → ((a : ℕ) → first args ≡ Tab a → holds s.store.heap (Tab a) type ≡ true) → holds t.store.heap (first vs) (frozen_rows type) ≡ true
frozen_given an callee args s vs t type w f there is grows answers typed = by_table (answers.frozen is)
  where
    by_table : (a : ℕ) × (first args ≡ Tab a) × (vs ≡ Tab a ∷ []) × (is_frozen t.store.heap a ≡ true) × ((name : List ℕ) → field_of t.store.heap a name ≡ field_of s.store.heap a name)
        → holds t.store.heap (first vs) (frozen_rows type) ≡ true
    by_table (a, same, gave, frozen, fields) = subst (λ (xs : List Value). holds t.store.heap (first xs) (frozen_rows type) ≡ true) (sym gave)
        (frozen_holds t.store.heap a type (grown_holds s.store.heap t.store.heap (Tab a) type f.fields (subst (λ (v : Value). Stands s.store.heap v) same (first_stands s.store.heap args there)) grows (typed a same))
        frozen)

result_typed : (an : Analysis) (frame : Frame) (callee : Value) (args : List Value) (s : State) (vs : List Value) (t : State) (h : Heap) (type first_type : Term) (w : World) (o : Option Function)
    → ((path : List ℕ) → AreDeclared (declaration an.program.builtins path) (declared (rules_of an frame) path)) → exactly_one_function type ≡ o → holds h callee type ≡ true
    → Fine an w s → AllByRecursion (Stands s.store.heap) args → ((a : ℕ) → first args ≡ Tab a → holds s.store.heap (Tab a) first_type ≡ true)
    → (callee ≡ Builtin (codes "table.freeze") → Grows s.store.heap t.store.heap) → Answers an callee args s vs t
    → holds t.store.heap (first vs) (call_result (rules_of an frame) o first_type) ≡ true
result_typed an frame callee args s vs t h type first_type w None table e k f there typed grows answers = unknown_all t.store.heap (first vs)
result_typed an frame callee args s vs t h type first_type w (Some (literal home number)) table e k f there typed grows answers = unknown_all t.store.heap (first vs)
result_typed an frame callee args s vs t h type first_type w (Some (builtin path)) table e k f there typed grows answers = by_declared (declared (rules_of an frame) path) refl
  where
    is : callee ≡ Builtin path
    is = one_function_holds h callee type (builtin path) e k

    by_declared : (d : Option TypedBuiltin) → declared (rules_of an frame) path ≡ d → holds t.store.heap (first vs) (declared_result path first_type d) ≡ true
    by_declared None n = unknown_all t.store.heap (first vs)
    by_declared (Some b) n = by_name (bytes_eq path (codes "table.freeze")) refl
      where
        frozen_is : bytes_eq path (codes "table.freeze") ≡ true → callee ≡ Builtin (codes "table.freeze")
        frozen_is z = is ∙ ap Builtin ((bytes_eq-Decides path (codes "table.freeze")).0 z)

        by_name : (p : Bool) → bytes_eq path (codes "table.freeze") ≡ p → holds t.store.heap (first vs) (if p then frozen_rows first_type else first_result b.results b.more) ≡ true
        by_name true z = frozen_given an callee args s vs t first_type w f there (frozen_is z) (grows (frozen_is z)) answers typed
        by_name false z = declared_given an callee args s vs t path b (declaration an.program.builtins path) refl
            (subst (λ (d : Option TypedBuiltin). AreDeclared (declaration an.program.builtins path) d) n (table path)) is answers

-- a table that is the first of a list is of the first type
first_listed : (an : Analysis) (frame : Frame) (map : TypeMap) (es : Exprs) (vs : List Value) (t : State) → ListGives an frame map es vs t → (a : ℕ) → first vs ≡ Tab a
    → holds t.store.heap (Tab a) (first_or_never (types_of_list (rules_of an frame) map es)) ≡ true
first_listed an frame map no_exprs [] t g a e = cc
first_listed an frame map no_exprs (v ∷ vs) t g a e = absurd (omega (arith, g.number refl))
first_listed an frame map (more_exprs x rest) vs t g a e = subst (λ (v : Value). holds t.store.heap v (first_or_never (types_of_list (rules_of an frame) map (more_exprs x rest))) ≡ true) e g.typed.0

-- ---- who calls

-- what is always one quiet builtin is quiet
quiet_fixed : (an : Analysis) (path : List ℕ) (d : Option Signature) (o : Option TypedBuiltin) → AreDeclared d o → option_map_or (λ b. b.quiet) o false ≡ true → option_map_or (λ g. g.quiet) d false ≡ true
quiet_fixed an path None None h e = cc
quiet_fixed an path None (Some b) h e = absurd h
quiet_fixed an path (Some g) None h e = absurd h
quiet_fixed an path (Some g) (Some b) h e = h.quiet ∙ e

quiet_callee : (an : Analysis) (frame : Frame) (callee : Expr) (vs : List Value) (o : Option (List ℕ))
    → ((path : List ℕ) → AreDeclared (declaration an.program.builtins path) (declared (rules_of an frame) path)) → fixed_builtin (rules_of an frame) callee ≡ o
    → ((path : List ℕ) → o ≡ Some path → vs ≡ Builtin path ∷ []) → option_map_or (λ path. option_map_or (λ b. b.quiet) (declared (rules_of an frame) path) false) o false ≡ true
    → is_quiet an.program (first vs) ≡ true
quiet_callee an frame callee vs None table e fixed q = cc
quiet_callee an frame callee vs (Some path) table e fixed q = subst (λ (xs : List Value). is_quiet an.program (first xs) ≡ true) (sym (fixed path refl))
    (quiet_fixed an path (declaration an.program.builtins path) (declared (rules_of an frame) path) (table path) q)

abbrev pub call_doer : Analysis → Frame → Expr → Exprs → Doer
call_doer an frame callee args = part_of frame (not (is_quiet_call (rules_of an frame) callee) || (effects (rules_of an frame) callee || any_effects (rules_of an frame) args))

-- what is asked of the callee, and the checked builtin that it certainly is
abbrev pub callee_check : (an : Analysis) (frame : Frame) (callee : Expr) → Check an frame callee
callee_check an frame callee = by_set an frame callee call_fail (Operand CallOp)

abbrev pub called_builtin : Analysis → Frame → Expr → Option TypedBuiltin
called_builtin an frame callee = checked_callee (rules_of an frame) (seen_of an frame) callee

may_call : (an : Analysis) (frame : Frame) (callee : Expr) (args : Exprs) (f : Value) → (is_quiet_call (rules_of an frame) callee ≡ true → is_quiet an.program f ≡ true)
    → MayMore (nobody (is_quiet an.program f)) (part_of frame (not (is_quiet_call (rules_of an frame) callee) || (effects (rules_of an frame) callee || any_effects (rules_of an frame) args)))
may_call an frame callee args f h = record {
  runs = inl refl;
  assigns = λ x e. refl;
  binds = λ x e. e;
  calm = λ e. h (quiet (is_quiet_call (rules_of an frame) callee) (effects (rules_of an frame) callee || any_effects (rules_of an frame) args) e);
}
  where
    quiet : (p q : Bool) → not (not p || q) ≡ true → p ≡ true
    quiet true q e = refl
    quiet false q e = cc

callee_calm : (p a b : Bool) → not p || (a || b) ≡ false → a ≡ false
callee_calm true true b e = cc
callee_calm true false b e = refl
callee_calm false a b e = cc

pub args_calm : (p a b : Bool) → not p || (a || b) ≡ false → b ≡ false
args_calm true true b e = cc
args_calm true false b e = e
args_calm false a b e = cc

-- ---- forward

-- the kind's name that `type` gives
pub subject_parts : (rules : Rules) (id : ℕ) (span : _) (callee : Expr) (args : Exprs) (x : ℕ) → kind_subject rules (the_expr id span (Call callee args)) ≡ Some x
    → (e : Expr) × (args ≡ more_exprs e no_exprs) × (fixed_builtin rules callee ≡ Some (codes "type")) × (firm_local rules e ≡ Some x)
subject_parts rules id span callee no_exprs x k = cc
subject_parts rules id span callee (more_exprs e (more_exprs next rest)) x k = cc
subject_parts rules id span callee (more_exprs e no_exprs) x k = by_type (is_type rules callee) refl k
  where
    by_fixed : (o : Option (List ℕ)) → option_map_or (bytes_eq (codes "type")) o false ≡ true → o ≡ Some (codes "type")
    by_fixed None z = cc
    by_fixed (Some path) z = ap Some (sym ((bytes_eq-Decides (codes "type") path).0 z))

    by_type : (b : Bool) → is_type rules callee ≡ b → (if b then firm_local rules e else None) ≡ Some x
        → (y : Expr) × (more_exprs e no_exprs ≡ more_exprs y no_exprs) × (fixed_builtin rules callee ≡ Some (codes "type")) × (firm_local rules y ≡ Some x)
    by_type true n z = (e, refl, by_fixed (fixed_builtin rules callee) n, z)
    by_type false n z = cc

firm_so : (rules : Rules) (o : Option ℕ) (x : ℕ) → firm_only rules o ≡ Some x → (o ≡ Some x) × (loose rules x ≡ false)
firm_so rules None x e = cc
firm_so rules (Some y) x e = by_loose (loose rules y) refl e
  where
    same : Some y ≡ Some x → y ≡ x
    same k = cc

    by_loose : (b : Bool) → loose rules y ≡ b → (if b then None else Some y) ≡ Some x → (Some y ≡ Some x) × (loose rules x ≡ false)
    by_loose true k z = cc
    by_loose false k z = (z, subst (λ (n : ℕ). loose rules n ≡ false) (same z) k)

one_local : (an : Analysis) (frame : Frame) (args : Exprs) (vs : List Value) (t : State) (e : Expr) (x : ℕ) → args ≡ more_exprs e no_exprs → OneLocal an frame args vs t
    → firm_local (rules_of an frame) e ≡ Some x → (c : ℕ) × Reads frame t x c (first vs)
one_local an frame args vs t e x same h k =
    (subst (λ (es : Exprs). OneLocal an frame es vs t) same h) x (firm_so (rules_of an frame) (local_named (rules_of an frame) e) x k).0
    (firm_so (rules_of an frame) (local_named (rules_of an frame) e) x k).1

read_same : (frame : Frame) (s t : State) (x c : ℕ) (v : Value) → Same s t → Reads frame s x c v → Reads frame t x c v
read_same frame s t x c v same h = subst (λ (y : Store). (cell_of y.bindings frame.activation x ≡ Some c) × (slice_get y.cells c ≡ Some v)) (sym same.0) h

none_some : {A : Type 0} (o : Option A) (x : A) → o ≡ None → o ≡ Some x → ⊥
none_some o x p q = cc

-- what a call gives, from its callee, its arguments and what was answered
call_gives : (an : Analysis) (frame : Frame) (map : TypeMap) (id : ℕ) (span : _) (callee : Expr) (args : Exprs) (xs vs rs : List Value) (a b c u : State) (y z : World) (calm : Bool)
    → Fit an → (rules_of an frame).reading.use_of id ≡ None → (rules_of an frame).reading.required id ≡ None
    → ((path : List ℕ) → AreDeclared (declaration an.program.builtins path) (declared (rules_of an frame) path)) → Gives an frame map callee xs a
    → ArgsGive an frame (after (rules_of an frame) map callee) args vs b → Same b c → Fine an y c → Runs an y c frame → Kept an (nobody calm) y c z u
    → (first xs ≡ Builtin (codes "table.freeze") → Grows c.store.heap u.store.heap) → Answers an (first xs) vs c rs u
    → Gives an frame map (the_expr id span (Call callee args)) rs u
call_gives an frame map id span callee args xs vs rs a b c u y z calm fit used required table g p same f r k grows answers = record {
  stand = answers.stand;
  typed = subst (λ (o : Option Use). holds u.store.heap (first rs) (builtin_or o (call_type (rules_of an frame) id ((rules_of an frame).reading.required id) (typ (rules_of an frame) map callee)
      (first_or_never (types_of_list (rules_of an frame) (after (rules_of an frame) map callee) args)))) ≡ true) (sym used)
      (subst (λ (o : Option ℕ). holds u.store.heap (first rs) (call_type (rules_of an frame) id o (typ (rules_of an frame) map callee)
      (first_or_never (types_of_list (rules_of an frame) (after (rules_of an frame) map callee) args))) ≡ true) (sym required)
      (result_typed an frame (first xs) vs c rs u a.store.heap (typ (rules_of an frame) map callee)
      (first_or_never (types_of_list (rules_of an frame) (after (rules_of an frame) map callee) args)) y (exactly_one_function (typ (rules_of an frame) map callee)) table refl g.typed f
      (subst (λ (s : Store). AllByRecursion (Stands s.heap) vs) (sym same.0) p.0.stand)
      (λ n e. subst (λ (s : Store). holds s.heap (Tab n) (first_or_never (types_of_list (rules_of an frame) (after (rules_of an frame) map callee) args)) ≡ true) (sym same.0)
      (first_listed an frame (after (rules_of an frame) map callee) args vs b p.0 n e)) grows answers));
  one = λ e. cc;
  fixed = λ path e. absurd (none_some (fixed_use (rules_of an frame) ((rules_of an frame).reading.use_of id)) path (ap (fixed_use (rules_of an frame)) used) e);
  local = λ x e firm. cc;
  guard_shows = λ x firm. inl refl;
  kind = λ x e. by_parts x (subject_parts (rules_of an frame) id span callee args x e);
}
  where
    by_parts : (x : ℕ) → (e : Expr) × (args ≡ more_exprs e no_exprs) × (fixed_builtin (rules_of an frame) callee ≡ Some (codes "type")) × (firm_local (rules_of an frame) e ≡ Some x)
        → (d : ℕ) × (v : Value) × Reads frame u x d v × IsKindName v (first rs)
    by_parts x (e, alone, fixed, firm) =
        let q : (d : ℕ) × Reads frame b x d (first vs) = one_local an frame args vs b e x alone p.1 firm in (
          q.0,
          first vs,
          reads_after an (nobody calm) y z c u frame f r k x q.0 (first vs) refl refl (firm_so (rules_of an frame) (local_named (rules_of an frame) e) x firm).1
              (read_same frame b c x q.0 (first vs) same q.1),
          answers.kind (ap first (g.fixed (codes "type") fixed)),
        )

pub call_forward : (an : Analysis) (l : Layer) → Fit an → Forward an l → Freezes l → (w : World) (s : State) (frame : Frame) (map : TypeMap) (id : ℕ) (span : _) (callee : Expr) (args : Exprs)
    → frame.reading.required id ≡ None → Fine an w s
    → Runs an w s frame → Held an frame map s → Inside frame (of_expr (the_expr id span (Call callee args))) (stats_of_expr (the_expr id span (Call callee args)))
    → Placed an frame (seen_expr (rules_of an frame) map (the_expr id span (Call callee args)))
    → Ends an (expr_of an frame (the_expr id span (Call callee args))) w s (Gives an frame map (the_expr id span (Call callee args))) (values an.program l frame (the_expr id span (Call callee args)) s)
unfolding ◌>>=◌
call_forward an l fit fwd freezes w s frame map id span callee args required f r h inside placed =
    form_forward an l w s frame id span (Call callee args) (Gives an frame map (the_expr id span (Call callee args))) fit (call_form callee args) f r inside
    (λ t z g j same. subst (λ (o : Option ℕ). Ends an (call_doer an frame callee args) z t (Gives an frame map (the_expr id span (Call callee args))) (call_expr l frame o callee args t)) (sym required)
    (ends_then an (call_doer an frame callee args) z t (FirstOf (After an frame map callee)) (Gives an frame map (the_expr id span (Call callee args))) (value l frame callee t)
    (λ f. ◌>>=◌ (all_values l frame args) (λ values. ◌>>=◌ step (λ x. l.call f values)))
    (ends_more an (expr_of an frame callee) (call_doer an frame callee args) z t (FirstOf (After an frame map callee)) (value l frame callee t)
    (may_part frame (effects (rules_of an frame) callee) _ (callee_calm (is_quiet_call (rules_of an frame) callee) (effects (rules_of an frame) callee) (any_effects (rules_of an frame) args)))
    (value_forward an l fwd z t frame map callee g j (held_store an s t frame map same h)
    (inside_left frame (of_expr callee) (of_exprs args) (stats_of_expr callee) (stats_of_exprs args) (within_call frame id span callee args inside)) placed_callee))
    (λ x a v i k p. after_callee x a v i (runs_kept an (call_doer an frame callee args) z v t a frame k j) p)))
  where
    placed_in : Placed an frame (seen_expr (rules_of an frame) map callee ++ seen_list (rules_of an frame) (after (rules_of an frame) map callee) args)
    placed_in = sub_tail _ _ _ placed

    placed_callee : Placed an frame (seen_expr (rules_of an frame) map callee)
    placed_callee = sub_left (seen_expr (rules_of an frame) map callee) (seen_list (rules_of an frame) (after (rules_of an frame) map callee) args) (seen_of an frame) placed_in

    placed_args : Placed an frame (seen_list (rules_of an frame) (after (rules_of an frame) map callee) args)
    placed_args = sub_right (seen_expr (rules_of an frame) map callee) (seen_list (rules_of an frame) (after (rules_of an frame) map callee) args) (seen_of an frame) placed_in

    after_callee : (x : Value) (a : State) (v : World) → Fine an v a → Runs an v a frame → FirstOf (After an frame map callee) x a
        → Ends an (call_doer an frame callee args) v a (Gives an frame map (the_expr id span (Call callee args))) (go_on (all_values l frame args a) (λ values. ◌>>=◌ step (λ y. l.call x values)))
    after_callee x a v i j p = ends_then an (call_doer an frame callee args) v a (ArgsGive an frame (after (rules_of an frame) map callee) args) (Gives an frame map (the_expr id span (Call callee args))) (all_values l frame args a)
        (λ values. ◌>>=◌ step (λ y. l.call x values))
        (ends_more an (part_of frame (any_effects (rules_of an frame) args)) (call_doer an frame callee args) v a (ArgsGive an frame (after (rules_of an frame) map callee) args) (all_values l frame args a)
        (may_part frame (any_effects (rules_of an frame) args) _ (args_calm (is_quiet_call (rules_of an frame) callee) (effects (rules_of an frame) callee) (any_effects (rules_of an frame) args)))
        (args_forward an l fwd v a frame (after (rules_of an frame) map callee) args i j p.2.1
        (inside_right frame (of_expr callee) (of_exprs args) (stats_of_expr callee) (stats_of_exprs args) (within_call frame id span callee args inside)) placed_args))
        (λ vs b y c k q. ends_then an (call_doer an frame callee args) y b (λ x t. Same b t) (Gives an frame map (the_expr id span (Call callee args))) (step b) (λ n. l.call x vs) (ends_step an (call_doer an frame callee args) y b c)
        (λ n d o m e same. called x a p vs b q d o m (runs_kept an (call_doer an frame callee args) y o b d frame e (runs_kept an (call_doer an frame callee args) v y a b frame k j)) same
        (stands_later a.store.heap d.store.heap x (subst (λ (t : Store). Later a.store.heap t.heap) (sym same.0) k.heap) (stands_x x a p))))
      where
        stands_x : (x : Value) (a : State) → FirstOf (After an frame map callee) x a → Stands a.store.heap x
        stands_x x a p = subst (λ (v : Value). Stands a.store.heap v) (sym p.1) (first_stands a.store.heap p.0 p.2.0.stand)

        called : (x : Value) (a : State) (p : FirstOf (After an frame map callee) x a) (vs : List Value) (b : State) → ArgsGive an frame (after (rules_of an frame) map callee) args vs b
            → (d : State) (o : World) → Fine an o d → Runs an o d frame → Same b d → Stands d.store.heap x
            → Ends an (call_doer an frame callee args) o d (Gives an frame map (the_expr id span (Call callee args))) (l.call x vs d)
        called x a p vs b q d o m n same there = ends_more an (nobody (is_quiet an.program x)) (call_doer an frame callee args) o d (Gives an frame map (the_expr id span (Call callee args))) (l.call x vs d)
            (may_call an frame callee args x (λ e. subst (λ (v : Value). is_quiet an.program v ≡ true) (sym p.1)
            (quiet_callee an frame callee p.0 (fixed_builtin (rules_of an frame) callee) (fits an w s frame fit r).table refl p.2.0.fixed e)))
            (ends_so an (nobody (is_quiet an.program x)) o d (Answers an x vs d) (Gives an frame map (the_expr id span (Call callee args))) (l.call x vs d)
            (λ rs u z e c k answers. call_gives an frame map id span callee args p.0 vs rs a b d u o z (is_quiet an.program x) fit
            (form_read an w s frame id span (Call callee args) fit (call_form callee args) r inside)
            (ap (λ (y : ReadModule). y.required id) (reads_same an w s frame fit r) ∙ required) (fits an w s frame fit r).table p.2.0 q same m n k
            (λ is. freezes vs rs d u (subst (λ (v : Value). l.call v vs d ≡ Gave rs u) (p.1 ∙ is) e))
            (subst (λ (v : Value). Answers an v vs d rs u) p.1 answers))
            (fwd.call o d x vs m there (subst (λ (t : Store). AllByRecursion (Stands t.heap) vs) (sym same.0) q.0.stand)))

-- ---- backward

pub call_backward : (an : Analysis) (l : Layer) → Fit an → Forward an l → Backward an l → (w : World) (s : State) (frame : Frame) (map : TypeMap) (id : ℕ) (span : _) (callee : Expr) (args : Exprs)
    (around : List ReportKind) → frame.reading.required id ≡ None → Fine an w s → Runs an w s frame → Held an frame map s
    → Inside frame (of_expr (the_expr id span (Call callee args))) (stats_of_expr (the_expr id span (Call callee args)))
    → Placed an frame (seen_expr (rules_of an frame) map (the_expr id span (Call callee args)))
    → Marked an frame (found (rules_of an frame) (seen_of an frame) around (the_expr id span (Call callee args)))
    → (rs : List Value) (u : State) → values an.program l frame (the_expr id span (Call callee args)) s ≡ Gave rs u → Pays an frame (the_expr id span (Call callee args)) s rs u
unfolding ◌>>=◌
call_backward an l fit fwd bwd w s frame map id span callee args around required f r h inside placed marked rs u q =
    form_backward an l w s frame id span (Call callee args) rs u fit (call_form callee args) f r inside q
    (λ z m g j same k. by_callee z m g j (held_store an s m frame map same h)
    (gave_then (value l frame callee m) (λ f. ◌>>=◌ (all_values l frame args) (λ values. ◌>>=◌ step (λ x. l.call f values))) rs u
    (subst (λ (o : Option ℕ). call_expr l frame o callee args m ≡ Gave rs u) required k)))
  where
    placed_in : Placed an frame (seen_expr (rules_of an frame) map callee ++ seen_list (rules_of an frame) (after (rules_of an frame) map callee) args)
    placed_in = sub_tail _ _ _ placed

    placed_callee : Placed an frame (seen_expr (rules_of an frame) map callee)
    placed_callee = sub_left (seen_expr (rules_of an frame) map callee) (seen_list (rules_of an frame) (after (rules_of an frame) map callee) args) (seen_of an frame) placed_in

    placed_args : Placed an frame (seen_list (rules_of an frame) (after (rules_of an frame) map callee) args)
    placed_args = sub_right (seen_expr (rules_of an frame) map callee) (seen_list (rules_of an frame) (after (rules_of an frame) map callee) args) (seen_of an frame) placed_in

    marked_in : Marked an frame (found (rules_of an frame) (seen_of an frame) (call_kinds (seen_of an frame) callee) callee ++ found_args (rules_of an frame) (seen_of an frame) (called_builtin an frame callee) 0 args)
    marked_in = sub_tail _ _ _ marked

    marked_callee : Marked an frame (found (rules_of an frame) (seen_of an frame) (call_kinds (seen_of an frame) callee) callee)
    marked_callee = sub_left (found (rules_of an frame) (seen_of an frame) (call_kinds (seen_of an frame) callee) callee) (found_args (rules_of an frame) (seen_of an frame) (called_builtin an frame callee) 0 args)
        (findings (rules_of an frame)) marked_in

    marked_args : Marked an frame (found_checks an frame args (checks_args an frame (called_builtin an frame callee) 0 args))
    marked_args = subst (λ (fs : List Finding). Marked an frame fs) (sym (found_args_same an frame (called_builtin an frame callee) 0 args))
        (sub_right (found (rules_of an frame) (seen_of an frame) (call_kinds (seen_of an frame) callee) callee) (found_args (rules_of an frame) (seen_of an frame) (called_builtin an frame callee) 0 args)
        (findings (rules_of an frame)) marked_in)

    inside_callee : Inside frame (of_expr callee) (stats_of_expr callee)
    inside_callee = inside_left frame (of_expr callee) (of_exprs args) (stats_of_expr callee) (stats_of_exprs args) (within_call frame id span callee args inside)

    inside_args : Inside frame (of_exprs args) (stats_of_exprs args)
    inside_args = inside_right frame (of_expr callee) (of_exprs args) (stats_of_expr callee) (stats_of_exprs args) (within_call frame id span callee args inside)

    by_callee : (z : World) (m : State) → Fine an z m → Runs an z m frame → Held an frame map m
        → (x : Value) × (a : State) × (value l frame callee m ≡ Gave x a) × (◌>>=◌ (all_values l frame args) (λ values. ◌>>=◌ step (λ y. l.call x values)) a ≡ Gave rs u)
        → FormPays an frame id (Call callee args) m rs u
    by_callee z m g j held (x, a, gave_callee, gave) = by_value (value_gave l frame callee m x a gave_callee)
        (gave_then (all_values l frame args a) (λ values. ◌>>=◌ step (λ y. l.call x values)) rs u gave)
      where
        by_value : (xs : List Value) × (l.values frame callee m ≡ Gave xs a) × (x ≡ first xs)
            → (vs : List Value) × (b : State) × (all_values l frame args a ≡ Gave vs b) × (◌>>=◌ step (λ y. l.call x vs) b ≡ Gave rs u) → FormPays an frame id (Call callee args) m rs u
        by_value (xs, k, is) (vs, b, n, c) = by_step (evaluated an l fwd bwd z m frame map callee (call_kinds (seen_of an frame) callee) g j held inside_callee placed_callee marked_callee xs a k)
            (gave_then (step b) (λ y. l.call x vs) rs u c)
          where
            by_step : Evaluated an z m frame map callee xs a → (y : Unit {0}) × (d : State) × (step b ≡ Gave y d) × (l.call x vs d ≡ Gave rs u) → FormPays an frame id (Call callee args) m rs u
            by_step o (y, d, stepped, called) = by_list (ends_gave an (part_of frame (any_effects (rules_of an frame) args)) o.world a
                (ListGives an frame (after (rules_of an frame) map callee) args) (all_values l frame args a) vs b n
                (list_forward an l fwd o.world a frame (after (rules_of an frame) map callee) args o.fine o.runs o.held inside_args placed_args))
                (list_given an l fwd bwd o.world a frame (after (rules_of an frame) map callee) args (checks_args an frame (called_builtin an frame callee) 0 args) o.fine o.runs o.held inside_args placed_args marked_args vs b n)
              where
                same : Same b d
                same = step_same b d stepped

                by_list : (v : World) × Fine an v b × Kept an (part_of frame (any_effects (rules_of an frame) args)) o.world a v b × ListGives an frame (after (rules_of an frame) map callee) args vs b
                    → AreGiven args vs × (reached an frame.activation a.trace ≤ reached an frame.activation b.trace) → FormPays an frame id (Call callee args) m rs u
                by_list (v, fb, kb, p) (given, rises) = by_answer (ends_gave an (nobody (is_quiet an.program x)) v d (Answers an x vs d) (l.call x vs d) rs u called
                    (fwd.call v d x vs fine_d (subst (λ (t : Store). Stands t.heap x) (sym same.0)
                    (stands_later a.store.heap b.store.heap x kb.heap (subst (λ (t : Value). Stands a.store.heap t) (sym is) (first_stands a.store.heap xs o.gives.stand))))
                    (subst (λ (t : Store). AllByRecursion (Stands t.heap) vs) (sym same.0) p.stand)))
                  where
                    fine_d : Fine an v d
                    fine_d = fine_same an v b d same.0 same.1 fb

                    runs_d : Runs an v d frame
                    runs_d = runs_kept an (part_of frame (any_effects (rules_of an frame) args)) v v b d frame
                        (kept_same an (part_of frame (any_effects (rules_of an frame) args)) v b d same.0 same.1)
                        (runs_kept an (part_of frame (any_effects (rules_of an frame) args)) o.world v a b frame kb o.runs)

                    by_answer : (i : World) × Fine an i u × Kept an (nobody (is_quiet an.program x)) v d i u × Answers an x vs d rs u → FormPays an frame id (Call callee args) m rs u
                    by_answer (i, fu, ku, answers) = record {
                      context = λ set e. absurd (safe e);
                      count = ku.counts frame.activation (has_begun an v d frame fine_d runs_d) (λ e. cc)
                          ∙ (ap (λ t. reached an frame.activation t) same.1
                          ∙ (still ∙ operand_quiet an z m frame map callee (callee_check an frame callee) xs a fit j placed_callee marked_callee o.gives o.pays uncalled));
                      own = none_missing d.store.heap _ (called_builtin an frame callee) args vs took p.number;
                    }
                      where
                        table : (path : List ℕ) → AreDeclared (declaration an.program.builtins path) (declared (rules_of an frame) path)
                        table = (fits an w s frame fit r).table

                        took : (t : TypedBuiltin) → (called_builtin an frame callee) ≡ Some t → Took t d.store.heap vs
                        took t e = callee_took an frame a.store.heap x (type_of (seen_of an frame) callee) vs d rs u (exactly_one_function (type_of (seen_of an frame) callee)) t table refl
                            (subst (λ (type : Term). holds a.store.heap x type ≡ true) (sym (typed_at an z m frame map callee fit j placed_callee))
                            (subst (λ (t : Value). holds a.store.heap t (typ (rules_of an frame) map callee) ≡ true) (sym is) o.gives.typed)) e answers

                        uncalled : holds a.store.heap (first xs) call_fail ≡ true → ⊥
                        uncalled e = clash (holds d.store.heap x call_fail) (kinds_hold d.store.heap x uncallable
                            ∙ (sym (kinds_hold a.store.heap x uncallable) ∙ subst (λ (t : Value). holds a.store.heap t call_fail ≡ true) (sym is) e)) answers.callable
                          where
                            clash : (b : Bool) → b ≡ true → b ≡ false → ⊥
                            clash b p q = cc

                        in_trouble : Trouble an frame (ev_args (rules_of an frame) (seen_of an frame) (called_builtin an frame callee) 0 args) a b → ⊥
                        in_trouble e = by_side (list_pays an l fit fwd bwd o.world a frame (after (rules_of an frame) map callee) args (checks_args an frame (called_builtin an frame callee) 0 args) none o.fine o.runs o.held inside_args placed_args marked_args vs b n
                            (subst (λ (t : Context). Trouble an frame t a b) (sym (ev_args_same an frame (called_builtin an frame callee) 0 args)) e))
                          where
                            by_side : SomeIn an frame args (checks_args an frame (called_builtin an frame callee) 0 args) b.store.heap vs ⊎ Violated an frame none b → ⊥
                            by_side (inl t) = args_taken an frame d.store.heap b.store.heap (called_builtin an frame callee) args vs took given t
                            by_side (inr t) = none_violated an frame b t

                        still : reached an frame.activation b.trace ≡ reached an frame.activation a.trace
                        still = level (reached an frame.activation a.trace) (reached an frame.activation b.trace) rises (λ t. in_trouble (inr t))
                          where
                            level : (m n : ℕ) → m ≤ n → (m < n → ⊥) → n ≡ m
                            level m n t k = by_order (less_or_same m n t)
                              where
                                less_or_same : (m n : ℕ) → m ≤ n → (m < n) ⊎ (n ≡ m)
                                less_or_same m n t = grind (arith, t)

                                by_order : (m < n) ⊎ (n ≡ m) → n ≡ m
                                by_order (inl e) = absurd (k e)
                                by_order (inr e) = e

                        safe : Violated an frame (followed (ev (rules_of an frame) (seen_of an frame) callee (callee_check an frame callee).asked) (effects (rules_of an frame) callee)
                            (ev_args (rules_of an frame) (seen_of an frame) (called_builtin an frame callee) 0 args)) m → ⊥
                        safe e = by_side (violated_followed an z o.world m a frame (ev (rules_of an frame) (seen_of an frame) callee (callee_check an frame callee).asked)
                            (ev_args (rules_of an frame) (seen_of an frame) (called_builtin an frame callee) 0 args) (effects (rules_of an frame) callee) g j o.kept e)
                          where
                            by_side : Violated an frame (ev (rules_of an frame) (seen_of an frame) callee (callee_check an frame callee).asked) m
                                ⊎ Violated an frame (ev_args (rules_of an frame) (seen_of an frame) (called_builtin an frame callee) 0 args) a → ⊥
                            by_side (inl t) = operand_safe an z m frame map callee (callee_check an frame callee) xs a fit j placed_callee marked_callee o.gives o.pays uncalled t
                            by_side (inr t) = in_trouble (inl t)
