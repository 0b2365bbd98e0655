-- Arguments against the parameters of a checked builtin, backward.
use Rattle.std.proofs.Common.{◌≡◌, ◌≢◌, ℕ, zero, suc, ◌+◌, ◌≤◌, Bool, true, false, not, ◌&&◌, if◌then◌else◌, List, [], ◌∷◌, ◌++◌, length, Option, Some, None, inl, inr, refl, sym, ◌∙◌, ap, subst, arith, drop}
use Rattle.luau_values.specs.Value.{Value, Nil, Builtin}
use Rattle.luau_values.specs.Heap.{Heap}
use Rattle.luau_tree.specs.Tree.{Expr, Exprs, no_exprs, more_exprs}
use Rattle.luau_run.specs.ValueSet.{ValueSet, everything, set_or, all_in}
use Rattle.luau_run.specs.Signature.{Signature, declaration}
use Rattle.luau_run.specs.SyntaxNode.{of_expr, of_exprs}
use Rattle.luau_run.specs.Machine.{State, Gave, give}
use Rattle.luau_run.specs.Layer.{Frame, Layer, first}
use Rattle.luau_run.specs.Expressions.{all_values}
use Rattle.type_arena.specs.Term.{Function, builtin, literal, Term, never}
use Rattle.type_normal.specs.Holds.{holds}
use Rattle.type_normal.specs.HeapFree.{heap_free}
use Rattle.type_normal.specs.Operations.{union, fail}
use Rattle.type_normal.specs.Kinds.{nil_type, has_nil, exactly_one_function}
use Rattle.type_normal.proofs.Public.{never_none, fail_holds, fail_free, one_function_holds, no_nil_holds}
use Rattle.subtype_check.specs.Below.{below}
use Rattle.report_rules.specs.Rules.{TypedBuiltin, declared}
use Rattle.report_rules.specs.Effects.{effects, last_expands}
use Rattle.report_rules.specs.TypeMap.{TypeMap}
use Rattle.report_rules.specs.Forward.{after}
use Rattle.report_rules.specs.Seen.{seen_expr, seen_list}
use Rattle.report_rules.specs.Context.{Context, none, followed}
use Rattle.report_rules.specs.Checks.{type_of, set_at, argument_set, argument_kinds, argument_left, lacking, past, count, missing_at, missing, if_checked, checked_function}
use Rattle.report_rules.specs.Errors.{ev, ev_args, expands_as}
use Rattle.report_rules.specs.Findings.{Finding, found, found_args}
use Rattle.report_rules.specs.Reports.{findings}
use Rattle.run_frame.specs.Analysis.{Analysis}
use Rattle.run_frame.specs.Statements.{stats_of_expr, stats_of_exprs}
use Rattle.run_frame.specs.Fit.{IsOf, AreOf, MayBeOf, AreDeclared}
use Rattle.run_frame.proofs.World.{World}
use Rattle.run_frame.proofs.Counts.{reached, one_if}
use Rattle.run_frame.proofs.Fine.{Fine}
use Rattle.run_frame.proofs.Held.{Runs, Held}
use Rattle.run_frame.proofs.Parts.{gave_same}
use Rattle.run_frame.proofs.Layers.{rules_of, seen_of, Inside, Placed, Marked, Answers, Forward, Backward}
use Rattle.run_frame.proofs.Readings.{sub_left, sub_right}
use Rattle.run_frame.proofs.Lists.{inside_left, inside_right}
use Rattle.run_frame.proofs.Blocks.{in_first, in_second}
use Rattle.run_frame.proofs.Marks.{checked_below}
use Rattle.run_frame.proofs.Forms.{Evaluated, evaluated}
use Rattle.run_frame.proofs.ListsBack.{Check, left_in, Checks, ev_checks, found_checks, SomeIn, first_of_list}

clash : (b : Bool) → b ≡ true → b ≡ false → ⊥
clash b p q = cc

in_never : (h : Heap) (v : Value) (P : Type 0) → holds h v never ≡ true → P
in_never h v P e = absurd (clash (holds h v never) e (never_none h v))

-- ---- the check of each argument

set_free : (position : ℕ) (expanding : Bool) (params : List Term) (rest : Option Term) → heap_free (set_at position expanding params rest) ≡ true
set_free position expanding [] None = refl
set_free position true [] (Some rest) = fail_free (union rest nil_type)
set_free position false [] (Some rest) = fail_free rest
set_free zero expanding (type ∷ params) rest = fail_free type
set_free (suc position) expanding (type ∷ params) rest = set_free position expanding params rest

argument_free : (wanted : Option TypedBuiltin) (position : ℕ) (expanding : Bool) → heap_free (argument_set wanted position expanding) ≡ true
argument_free None position expanding = refl
argument_free (Some b) position expanding = set_free position expanding b.params b.rest

argument_marks : (an : Analysis) (frame : Frame) (wanted : Option TypedBuiltin) (position : ℕ) (expanding : Bool) (e : Expr) → argument_kinds (seen_of an frame) wanted position expanding e ≢ []
    → below (type_of (seen_of an frame) e) (argument_set wanted position expanding) ≡ true
argument_marks an frame None position expanding e n = absurd (n refl)
argument_marks an frame (Some b) position expanding e n = checked_below (seen_of an frame) e (set_at position expanding b.params b.rest) _ n

argument_within : (an : Analysis) (frame : Frame) (wanted : Option TypedBuiltin) (position : ℕ) (expanding : Bool) (e : Expr) (h : Heap) (v : Value)
    → holds h v (argument_left (seen_of an frame) wanted position expanding e) ≡ true → holds h v (argument_set wanted position expanding) ≡ true
argument_within an frame wanted position true e h v k = in_never h v (holds h v (argument_set wanted position true) ≡ true) k
argument_within an frame wanted position false e h v k = left_in (argument_kinds (seen_of an frame) wanted position false e) (argument_set wanted position false) h v k

check_argument : (an : Analysis) (frame : Frame) → Option TypedBuiltin → ℕ → Bool → (e : Expr) → Check an frame e
check_argument an frame wanted position expanding e = record {
  kinds = argument_kinds (seen_of an frame) wanted position expanding e;
  asked = argument_left (seen_of an frame) wanted position expanding e;
  set = argument_set wanted position expanding;
  marks = argument_marks an frame wanted position expanding e;
  within = argument_within an frame wanted position expanding e;
}

pub checks_args : (an : Analysis) (frame : Frame) (wanted : Option TypedBuiltin) (position : ℕ) (es : Exprs) → Checks an frame es
unfolding check_argument
checks_args an frame wanted position no_exprs = tt
checks_args an frame wanted position (more_exprs e rest) =
    (check_argument an frame wanted position (expands_as e rest) e, inr (argument_free wanted position (expands_as e rest)), checks_args an frame wanted (suc position) rest)

pub ev_args_same : (an : Analysis) (frame : Frame) (wanted : Option TypedBuiltin) (position : ℕ) (es : Exprs)
    → ev_checks an frame es (checks_args an frame wanted position es) none ≡ ev_args (rules_of an frame) (seen_of an frame) wanted position es
unfolding checks_args check_argument
ev_args_same an frame wanted position no_exprs = refl
ev_args_same an frame wanted position (more_exprs e rest) = ap (λ (c : Context). followed (ev (rules_of an frame) (seen_of an frame) e
    (argument_left (seen_of an frame) wanted position (expands_as e rest) e)) (effects (rules_of an frame) e) c) (ev_args_same an frame wanted (suc position) rest)

pub found_args_same : (an : Analysis) (frame : Frame) (wanted : Option TypedBuiltin) (position : ℕ) (es : Exprs)
    → found_checks an frame es (checks_args an frame wanted position es) ≡ found_args (rules_of an frame) (seen_of an frame) wanted position es
unfolding checks_args check_argument
found_args_same an frame wanted position no_exprs = refl
found_args_same an frame wanted position (more_exprs e rest) = ap (λ (fs : List Finding). found (rules_of an frame) (seen_of an frame)
    (argument_kinds (seen_of an frame) wanted position (expands_as e rest) e) e ++ fs) (found_args_same an frame wanted (suc position) rest)

-- ---- values that are there

-- some value is given
abbrev pub IsGiven : List Value → Type 0
IsGiven [] = ⊥
IsGiven (v ∷ vs) = Unit {0}

-- at the position of each expression that doesn't expand
abbrev pub AreGiven : Exprs → List Value → Type 0
AreGiven no_exprs vs = Unit {0}
AreGiven (more_exprs e rest) vs = (expands_as e rest ≡ false → IsGiven vs) × AreGiven rest (drop 1 vs)

count_rises : (b : Bool) (m n : ℕ) → n ≡ m + one_if b → m ≤ n
count_rises true m n e = omega (arith, e)
count_rises false m n e = omega (arith, e)

-- a list gives a value for each expression that doesn't expand, and reaches no fewer places than before
pub list_given : (an : Analysis) (l : Layer) → Forward an l → Backward an l → (w : World) (s : State) (frame : Frame) (map : TypeMap) (es : Exprs) (c : Checks an frame es) → Fine an w s
    → Runs an w s frame → Held an frame map s → Inside frame (of_exprs es) (stats_of_exprs es) → Placed an frame (seen_list (rules_of an frame) map es)
    → Marked an frame (found_checks an frame es c) → (vs : List Value) (t : State) → all_values l frame es s ≡ Gave vs t
    → AreGiven es vs × (reached an frame.activation s.trace ≤ reached an frame.activation t.trace)
unfolding give
list_given an l fwd bwd w s frame map no_exprs c f r h inside placed marked vs t q =
    (tt, omega (arith, ap (λ (x : State). reached an frame.activation x.trace) (gave_same [] vs s t q).1))
list_given an l fwd bwd w s frame map (more_exprs e no_exprs) c f r h inside placed marked vs t q = by_one
    (evaluated an l fwd bwd w s frame map e c.0.kinds f r h (inside_left frame (of_expr e) (of_exprs no_exprs) (stats_of_expr e) (stats_of_exprs no_exprs) inside)
    (sub_left (seen_expr (rules_of an frame) map e) (seen_list (rules_of an frame) (after (rules_of an frame) map e) no_exprs) (seen_of an frame) placed)
    (sub_left (found (rules_of an frame) (seen_of an frame) c.0.kinds e) [] (findings (rules_of an frame)) marked) vs t q)
  where
    by_one : Evaluated an w s frame map e vs t → AreGiven (more_exprs e no_exprs) vs × (reached an frame.activation s.trace ≤ reached an frame.activation t.trace)
    by_one o = ((λ k. subst (λ (xs : List Value). IsGiven xs) (sym (o.gives.one k).1) tt, tt), count_rises _ (reached an frame.activation s.trace) (reached an frame.activation t.trace) o.pays.reports)
list_given an l fwd bwd w s frame map (more_exprs e (more_exprs next rest)) c f r h inside placed marked vs t q = by_parts (first_of_list l frame e next rest s vs t q)
    (λ z m others g j held k. list_given an l fwd bwd z m frame (after (rules_of an frame) map e) (more_exprs next rest) c.2 g j held
    (inside_right frame (of_expr e) (of_exprs (more_exprs next rest)) (stats_of_expr e) (stats_of_exprs (more_exprs next rest)) inside)
    (sub_right (seen_expr (rules_of an frame) map e) (seen_list (rules_of an frame) (after (rules_of an frame) map e) (more_exprs next rest)) (seen_of an frame) placed)
    (sub_right (found (rules_of an frame) (seen_of an frame) c.0.kinds e) (found_checks an frame (more_exprs next rest) c.2) (findings (rules_of an frame)) marked) others t k)
  where
    by_parts : (one : List Value) × (m : State) × (others : List Value) × (l.values frame e s ≡ Gave one m) × (all_values l frame (more_exprs next rest) m ≡ Gave others t) × (vs ≡ first one ∷ others)
        → ((z : World) (m : State) (others : List Value) → Fine an z m → Runs an z m frame → Held an frame (after (rules_of an frame) map e) m
        → all_values l frame (more_exprs next rest) m ≡ Gave others t
        → AreGiven (more_exprs next rest) others × (reached an frame.activation m.trace ≤ reached an frame.activation t.trace))
        → AreGiven (more_exprs e (more_exprs next rest)) vs × (reached an frame.activation s.trace ≤ reached an frame.activation t.trace)
    by_parts (one, m, others, k, n, same) again = by_first (evaluated an l fwd bwd w s frame map e c.0.kinds f r h
        (inside_left frame (of_expr e) (of_exprs (more_exprs next rest)) (stats_of_expr e) (stats_of_exprs (more_exprs next rest)) inside)
        (sub_left (seen_expr (rules_of an frame) map e) (seen_list (rules_of an frame) (after (rules_of an frame) map e) (more_exprs next rest)) (seen_of an frame) placed)
        (sub_left (found (rules_of an frame) (seen_of an frame) c.0.kinds e) (found_checks an frame (more_exprs next rest) c.2) (findings (rules_of an frame)) marked) one m k)
      where
        by_first : Evaluated an w s frame map e one m → AreGiven (more_exprs e (more_exprs next rest)) vs × (reached an frame.activation s.trace ≤ reached an frame.activation t.trace)
        by_first o = subst (λ (xs : List Value). AreGiven (more_exprs e (more_exprs next rest)) xs × (reached an frame.activation s.trace ≤ reached an frame.activation t.trace)) (sym same) (
          (λ z. tt, (again o.world m others o.fine o.runs o.held n).0),
          omega (
            arith,
            count_rises _ (reached an frame.activation s.trace) (reached an frame.activation m.trace) o.pays.reports,
            (again o.world m others o.fine o.runs o.held n).1,
          ),
        )

-- ---- what a builtin took

-- its parameters were in these sets
pub record Took (b : TypedBuiltin) (heap : Heap) (vs : List Value) : Type 0 where
  pub sets : List ValueSet
  pub further : Option ValueSet
  pub params : AreOf sets b.params
  pub rest : MayBeOf further b.rest
  pub all : all_in heap sets (set_or everything further) vs ≡ true

both_parts : (a b : Bool) → a && b ≡ true → (a ≡ true) × (b ≡ true)
both_parts true b e = (refl, e)
both_parts false b e = cc

-- the parameters past as many
skip : ℕ → List Term → List Term
skip zero params = params
skip (suc n) [] = []
skip (suc n) (type ∷ params) = skip n params

rest_terms : List Term → List Term
rest_terms [] = []
rest_terms (type ∷ params) = params

rest_sets : List ValueSet → List ValueSet
rest_sets [] = []
rest_sets (set ∷ sets) = sets

skip_one : (n : ℕ) (params : List Term) → skip (suc n) params ≡ rest_terms (skip n params)
unfolding skip rest_terms
skip_one zero [] = refl
skip_one zero (type ∷ params) = refl
skip_one (suc n) [] = refl
skip_one (suc n) (type ∷ params) = skip_one n params

set_skipped : (n : ℕ) (expanding : Bool) (params : List Term) (rest : Option Term) → set_at n expanding params rest ≡ set_at zero expanding (skip n params) rest
unfolding skip
set_skipped zero expanding params rest = refl
set_skipped (suc n) expanding [] rest = refl
set_skipped (suc n) expanding (type ∷ params) rest = set_skipped n expanding params rest

rest_of : (sets : List ValueSet) (params : List Term) → AreOf sets params → AreOf (rest_sets sets) (rest_terms params)
unfolding rest_sets rest_terms
rest_of [] [] h = tt
rest_of (set ∷ sets) (type ∷ params) h = h.1
rest_of [] (type ∷ params) h = absurd h
rest_of (set ∷ sets) [] h = absurd h

rest_in : (heap : Heap) (sets : List ValueSet) (further : ValueSet) (vs : List Value) → all_in heap sets further vs ≡ true → all_in heap (rest_sets sets) further (drop 1 vs) ≡ true
unfolding rest_sets
rest_in heap [] further [] e = refl
rest_in heap [] further (v ∷ vs) e = (both_parts (further heap v) (all_in heap [] further vs) e).1
rest_in heap (set ∷ sets) further [] e = (both_parts (set heap Nil) (all_in heap sets further []) e).1
rest_in heap (set ∷ sets) further (v ∷ vs) e = (both_parts (set heap v) (all_in heap sets further vs) e).1

-- a value that was taken isn't in the set with which the call fails
fails_not : (heap g : Heap) (v : Value) (type : Term) (set : ValueSet) → IsOf set type → set heap v ≡ true → holds g v (fail type) ≡ true → ⊥
fails_not heap g v type set is e k = clash (holds heap v type) (sym (is heap v) ∙ e) (fail_holds g heap v type k)

first_good : (heap g : Heap) (params : List Term) (sets : List ValueSet) (rest : Option Term) (further : Option ValueSet) (expanding : Bool) (vs : List Value) → AreOf sets params
    → MayBeOf further rest → all_in heap sets (set_or everything further) vs ≡ true → (expanding ≡ false → IsGiven vs) → holds g (first vs) (set_at zero expanding params rest) ≡ true → ⊥
first_good heap g (type ∷ params) (set ∷ sets) rest further expanding [] h k e given n =
    fails_not heap g Nil type set h.0 (both_parts (set heap Nil) (all_in heap sets (set_or everything further) []) e).0 n
first_good heap g (type ∷ params) (set ∷ sets) rest further expanding (v ∷ vs) h k e given n =
    fails_not heap g v type set h.0 (both_parts (set heap v) (all_in heap sets (set_or everything further) vs) e).0 n
first_good heap g (type ∷ params) [] rest further expanding vs h k e given n = absurd h
first_good heap g [] (set ∷ sets) rest further expanding vs h k e given n = absurd h
first_good heap g [] [] None further expanding vs h k e given n = in_never g (first vs) ⊥ n
first_good heap g [] [] (Some type) None expanding vs h k e given n = absurd k
first_good heap g [] [] (Some type) (Some set) false [] h k e given n = absurd (given refl)
first_good heap g [] [] (Some type) (Some set) false (v ∷ vs) h k e given n = fails_not heap g v type set k (both_parts (set heap v) (all_in heap [] set vs) e).0 n
first_good heap g [] [] (Some type) (Some set) true [] h k e given n =
    clash (holds heap Nil (union type nil_type)) (in_second heap Nil type nil_type refl) (fail_holds g heap Nil (union type nil_type) n)
first_good heap g [] [] (Some type) (Some set) true (v ∷ vs) h k e given n = clash (holds heap v (union type nil_type))
    (in_first heap v type nil_type (sym (k heap v) ∙ (both_parts (set heap v) (all_in heap [] set vs) e).0)) (fail_holds g heap v (union type nil_type) n)

args_good : (an : Analysis) (frame : Frame) (heap g : Heap) (b : TypedBuiltin) (further : Option ValueSet) → MayBeOf further b.rest → (es : Exprs) (n : ℕ) (sets : List ValueSet) (vs : List Value)
    → AreOf sets (skip n b.params) → all_in heap sets (set_or everything further) vs ≡ true → AreGiven es vs → SomeIn an frame es (checks_args an frame (Some b) n es) g vs → ⊥
unfolding checks_args check_argument
args_good an frame heap g b further k no_exprs n sets vs h e given y = y
args_good an frame heap g b further k (more_exprs x rest) n sets vs h e given (inl y) = first_good heap g (skip n b.params) sets b.rest further (expands_as x rest) vs h k e given.0
    (subst (λ (type : Term). holds g (first vs) type ≡ true) (set_skipped n (expands_as x rest) b.params b.rest) y)
args_good an frame heap g b further k (more_exprs x rest) n sets vs h e given (inr y) = args_good an frame heap g b further k rest (suc n) (rest_sets sets) (drop 1 vs)
    (subst (λ (params : List Term). AreOf (rest_sets sets) params) (sym (skip_one n b.params)) (rest_of sets (skip n b.params) h)) (rest_in heap sets (set_or everything further) vs e) given.1 y

none_bad : (an : Analysis) (frame : Frame) (g : Heap) (es : Exprs) (n : ℕ) (vs : List Value) → SomeIn an frame es (checks_args an frame None n es) g vs → ⊥
unfolding checks_args check_argument
none_bad an frame g no_exprs n vs y = y
none_bad an frame g (more_exprs e rest) n vs (inl y) = in_never g (first vs) ⊥ y
none_bad an frame g (more_exprs e rest) n vs (inr y) = none_bad an frame g rest (suc n) (drop 1 vs) y

-- no argument is in its set, of a call that gave
pub args_taken : (an : Analysis) (frame : Frame) (heap g : Heap) (wanted : Option TypedBuiltin) (es : Exprs) (vs : List Value) → ((b : TypedBuiltin) → wanted ≡ Some b → Took b heap vs)
    → AreGiven es vs → SomeIn an frame es (checks_args an frame wanted 0 es) g vs → ⊥
unfolding skip
args_taken an frame heap g None es vs took given y = none_bad an frame g es 0 vs y
args_taken an frame heap g (Some b) es vs took given y =
    let k : Took b heap vs = took b refl in args_good an frame heap g b k.further k.rest es 0 k.sets vs k.params k.all given y

-- ---- missing arguments

not_lacking : (heap : Heap) (params : List Term) (sets : List ValueSet) (further : ValueSet) (position : ℕ) → AreOf sets params → all_in heap sets further [] ≡ true → lacking position params ≡ None
not_lacking heap [] sets further position h e = refl
not_lacking heap (type ∷ params) [] further position h e = absurd h
not_lacking heap (type ∷ params) (set ∷ sets) further position h e = by_nil (has_nil type) refl
    (not_lacking heap params sets further (suc position) h.1 (both_parts (set heap Nil) (all_in heap sets further []) e).1)
  where
    by_nil : (b : Bool) → has_nil type ≡ b → lacking (suc position) params ≡ None → (if b then lacking (suc position) params else Some position) ≡ None
    by_nil true k n = n
    by_nil false k n = absurd (clash (holds heap Nil type) (sym (h.0 heap Nil) ∙ (both_parts (set heap Nil) (all_in heap sets further []) e).0) (no_nil_holds heap type k))

past_good : (heap : Heap) (es : Exprs) (vs : List Value) (params : List Term) (sets : List ValueSet) (further : ValueSet) (position : ℕ) → AreOf sets params → all_in heap sets further vs ≡ true
    → length vs ≡ count es → lacking position (past es params) ≡ None
past_good heap no_exprs [] params sets further position h e n = not_lacking heap params sets further position h e
past_good heap no_exprs (v ∷ vs) params sets further position h e n = absurd (omega (arith, n))
past_good heap (more_exprs x rest) vs [] sets further position h e n = refl
past_good heap (more_exprs x rest) vs (type ∷ params) [] further position h e n = absurd h
past_good heap (more_exprs x rest) [] (type ∷ params) (set ∷ sets) further position h e n = absurd (omega (arith, n))
past_good heap (more_exprs x rest) (v ∷ vs) (type ∷ params) (set ∷ sets) further position h e n =
    past_good heap rest vs params sets further position h.1 (both_parts (set heap v) (all_in heap sets further vs) e).1 (omega (arith, n))

pub none_missing : (heap : Heap) (live : Bool) (wanted : Option TypedBuiltin) (es : Exprs) (vs : List Value) → ((b : TypedBuiltin) → wanted ≡ Some b → Took b heap vs)
    → (last_expands es ≡ false → length vs ≡ count es) → missing live wanted es ≡ []
none_missing heap live None es vs took n = refl
none_missing heap live (Some b) es vs took n = by_tests live (last_expands es) refl
  where
    by_tests : (p q : Bool) → last_expands es ≡ q → (if p && not q then missing_at b.path (lacking (count es) (past es b.params)) else []) ≡ []
    by_tests false q e = refl
    by_tests true true e = refl
    by_tests true false e = let k : Took b heap vs = took b refl in
        ap (λ (o : Option ℕ). missing_at b.path o) (past_good heap es vs b.params k.sets (set_or everything k.further) (count es) k.params k.all (n e))

-- ---- the callee

is_checked : (o : Option TypedBuiltin) (b : TypedBuiltin) → if_checked o ≡ Some b → (o ≡ Some b) × (b.checked ≡ true)
is_checked None b e = cc
is_checked (Some x) b e = by_checked x.checked refl e
  where
    same : Some x ≡ Some b → x ≡ b
    same k = cc

    by_checked : (p : Bool) → x.checked ≡ p → (if p then Some x else None) ≡ Some b → (Some x ≡ Some b) × (b.checked ≡ true)
    by_checked true k z = (z, subst (λ (y : TypedBuiltin). y.checked ≡ true) (same z) k)
    by_checked false k z = cc

took_as : (an : Analysis) (callee : Value) (args : List Value) (s : State) (vs : List Value) (t : State) (path : List ℕ) (b : TypedBuiltin) (d : Option Signature)
    → declaration an.program.builtins path ≡ d → AreDeclared d (Some b) → b.checked ≡ true → callee ≡ Builtin path → Answers an callee args s vs t → Took b s.store.heap args
took_as an callee args s vs t path b None e h checked is answers = absurd h
took_as an callee args s vs t path b (Some g) e h checked is answers = record {
  sets = g.params;
  further = g.rest;
  params = h.params;
  rest = h.rest;
  all = answers.taken path g is e (h.checked ∙ checked);
}

-- a call that gave, of what is certainly a checked builtin, took its arguments
pub callee_took : (an : Analysis) (frame : Frame) (h : Heap) (callee : Value) (type : Term) (args : List Value) (s : State) (vs : List Value) (t : State) (o : Option Function) (b : TypedBuiltin)
    → ((path : List ℕ) → AreDeclared (declaration an.program.builtins path) (declared (rules_of an frame) path)) → exactly_one_function type ≡ o → holds h callee type ≡ true
    → checked_function (rules_of an frame) o ≡ Some b → Answers an callee args s vs t → Took b s.store.heap args
callee_took an frame h callee type args s vs t None b table e k n answers = cc
callee_took an frame h callee type args s vs t (Some (literal home number)) b table e k n answers = cc
callee_took an frame h callee type args s vs t (Some (builtin path)) b table e k n answers =
    let c : (declared (rules_of an frame) path ≡ Some b) × (b.checked ≡ true) = is_checked (declared (rules_of an frame) path) b n in
    took_as an callee args s vs t path b (declaration an.program.builtins path) refl
    (subst (λ (x : Option TypedBuiltin). AreDeclared (declaration an.program.builtins path) x) c.0 (table path)) c.1 (one_function_holds h callee type (builtin path) e k) answers
