-- What becomes of each form of a statement, and of a function.
use Rattle.std.proofs.Common.{◌≡◌, ℕ, ◌+◌, Bool, List, [], ◌++◌, length, take, refl, sym, ap, ◌∙◌, append_assoc}
use Rattle.std.proofs.lemmas.List.{append-nil}
use Rattle.std.proofs.Math.Seq.{take-append_seam}
use Rattle.std.specs.Prelude.{Option, None}
use Rattle.luau_tree.specs.declared.position.Span.{Span}
use Rattle.luau_tree.specs.declared.names.BinOp.{BinOp}
use Rattle.luau_tree.specs.Tree as plain
use Rattle.luau_scope.specs.declared.within.Within.{Within}
use Rattle.luau_scope.specs.declared.within.LoopAround.TheVariants.{Other}
use Rattle.luau_scope.specs.declared.walker.Walker.{Walker}
use Rattle.luau_scope.specs.declared.findings.Findings.{Findings}
use Rattle.luau_scope.specs.declared.refusal.Refusal.TheVariants.{TypeFunction}
use Rattle.luau_scope.specs.Found.{Around, Part, Scope, join, one, Refuses, declarations, ◌then◌}
use Rattle.luau_scope.specs.Finds as finds
use Rattle.luau_scope.specs.Steps.{after_aim, after_aims, after_arms, after_block, after_body, after_close, after_declared, after_entry, after_expr, after_exprs, after_gens, after_locals, after_maybe_block, after_maybe_expr, after_maybe_type, after_named, after_own, after_params, after_stat, after_stats, after_targets, after_type, after_varargs, added, after_part, around_in, loop_of, with_part}
use Rattle.luau_scope.proofs.Walk.{after_join, locals_added, scope_and_join, with_join}
use Rattle.luau_scope.proofs.AfterLocals.{bind_found, locals_found, own_found}

-- ## Scopes

-- a scope is another with more behind it
pub record Grows (before after : Scope) : Type 0 where
  pub more : Scope
  pub is : after ≡ before ++ more

grows_not : (scope : Scope) → Grows scope scope
grows_not scope = record { more = []; is = sym (append-nil scope) }

grows_then : (a b c : Scope) → Grows a b → Grows b c → Grows a c
grows_then a b c f g = record { more = f.more ++ g.more; is = g.is ∙ ap (λ (scope : Scope). scope ++ g.more) f.is ∙ append_assoc a f.more g.more }

kind_grows : (a : Around) (kind : plain.StatKind) (n : ℕ) → Grows a.scope (finds.behind_kind a kind n)
kind_grows a (plain.LocalFunction bind body) n = record { more = _; is = refl }
kind_grows a (plain.Local binds values) n = record { more = _; is = refl }
kind_grows a (plain.Assign targets values) n = grows_not a.scope
kind_grows a (plain.Compound target op value) n = grows_not a.scope
kind_grows a (plain.CallStat call) n = grows_not a.scope
kind_grows a (plain.Do body) n = grows_not a.scope
kind_grows a (plain.While cond body) n = grows_not a.scope
kind_grows a (plain.Repeat body cond) n = grows_not a.scope
kind_grows a (plain.If arms last) n = grows_not a.scope
kind_grows a (plain.NumFor bind from to step body) n = grows_not a.scope
kind_grows a (plain.GenFor binds values body) n = grows_not a.scope
kind_grows a (plain.FunctionStat path method body) n = grows_not a.scope
kind_grows a (plain.TypeAlias exported name generics typ) n = grows_not a.scope
kind_grows a (plain.TypeFunction exported name body) n = grows_not a.scope
kind_grows a (plain.Return values) n = grows_not a.scope
kind_grows a plain.Break n = grows_not a.scope
kind_grows a plain.Continue n = grows_not a.scope

pub block_grows : (a : Around) (block : plain.Block) (n : ℕ) → Grows a.scope (finds.behind_block a block n)
block_grows a plain.no_stats n = grows_not a.scope
block_grows a (plain.more_stats (plain.the_stat span kind) rest) n =
    grows_then _ _ _ (kind_grows a kind n)
    (block_grows (finds.in_scope a (finds.behind_kind a kind n)) rest (n + declarations (finds.of_stat a (plain.the_stat span kind) n)))

params_grow : (a : Around) (params : plain.Binds) (n : ℕ) → Grows a.scope (finds.behind_params a params n)
params_grow a plain.no_binds n = grows_not a.scope
params_grow a (plain.more_binds bind rest) n =
    grows_then _ _ _ (record { more = _; is = refl })
    (params_grow (finds.in_scope a (finds.with_bind a bind n)) rest (n + declarations (finds.of_own_bind a bind n)))

closed : (before after : Scope) → Grows before after → take (length before) after ≡ before
closed before after g = ap (take (length before)) g.is ∙ take-append_seam before g.more

pub close_found : (s : Walker) (scope : Scope) (f : Findings) → Grows s.scope scope → after_close (length s.scope) (record s { scope = scope; found = f }) ≡ record s { found = f }
unfolding after_close
close_found s scope f g = ap (λ (x : Scope). record s { scope = x; found = f }) (closed s.scope scope g)

-- ## Blocks

pub no_stats : (w : Within) (s : Walker) → after_stats w plain.no_stats s ≡ s
unfolding after_stats added
no_stats w s = refl

pub more_stats : (w : Within) (span : Span) (kind : plain.StatKind) (rest : plain.Block) (s : Walker)
    → after_stats w (plain.more_stats (plain.the_stat span kind) rest) s ≡ after_stats w rest (after_stat w span kind s)
unfolding after_stats after_stat
more_stats w span kind rest s =
    let a = around_in s w in
    let inner = finds.in_scope a (finds.behind_kind a kind (length s.found.locals)) in
    scope_and_join (finds.of_stat a (plain.the_stat span kind)) (finds.of_block inner rest) (finds.behind_block inner rest) s

pub block_closed : (w : Within) (block : plain.Block) (s : Walker) → after_close (length s.scope) (after_stats w block s) ≡ after_block w block s
unfolding after_stats after_block
block_closed w block s = close_found s _ _ (block_grows (around_in s w) block (length s.found.locals))

-- ## Functions

pub body_found : (w inner : Within) (id : ℕ) (has_self : Bool) (generics : plain.Gens) (params : plain.Binds) (vararg : plain.Varargs) (given : plain.MaybeType) (block : plain.Block) (span : Span) (s : Walker)
    → around_in s inner ≡ finds.in_body (around_in s w) id vararg
    → after_close (length s.scope) (after_stats inner block (after_maybe_type inner given (after_varargs inner vararg (after_params inner params (after_gens inner generics s)))))
    ≡ after_body w (plain.the_body id has_self generics params vararg given block span) s
unfolding after_stats after_maybe_type after_varargs after_params after_gens after_body
body_found w inner id has_self generics params vararg given block span s e =
    let a = around_in s inner in
    let n = length s.found.locals in
    let header = finds.of_gens a generics in
    let scope : ℕ → Scope = finds.behind_params a params in
    let own = finds.of_params a params in
    let rest : ℕ → Part = λ (m : ℕ). finds.of_varargs (finds.in_scope a (scope m)) vararg then finds.of_maybe_type (finds.in_scope a (scope m)) given then finds.of_block (finds.in_scope a (scope m)) block in
    let f = with_part header s.found in
    let m = n + declarations (header n) in
    let k = length f.locals in
    let inside = finds.in_scope a (scope k) in
    let g = with_part own f in
    let h = with_part (finds.of_varargs inside vararg) g in
    let i = with_part (finds.of_maybe_type inside given) h in
    let joined : with_part (join header (join own (rest m))) s.found ≡ with_part (finds.of_block inside block) i =
    with_join header (join own (rest m)) s.found
    ∙ ap (λ (x : ℕ). with_part (join own (rest x)) f) (sym (locals_added (header n) s.found))
    ∙ with_join own (rest k) f
    ∙ with_join (finds.of_varargs inside vararg) (join (finds.of_maybe_type inside given) (finds.of_block inside block)) g
    ∙ with_join (finds.of_maybe_type inside given) (finds.of_block inside block) h in
    close_found s _ _ (grows_then _ _ _ (params_grow a params k) (block_grows inside block (length i.locals)))
    ∙ ap (λ (x : Findings). record s { found = x }) (sym joined)
    ∙ ap (λ (x : Around). after_part (finds.of_gens x generics then finds.of_params x params
    then finds.of_varargs (finds.in_scope x (finds.behind_params x params (n + declarations (finds.of_gens x generics n)))) vararg
    then finds.of_maybe_type (finds.in_scope x (finds.behind_params x params (n + declarations (finds.of_gens x generics n)))) given
    then finds.of_block (finds.in_scope x (finds.behind_params x params (n + declarations (finds.of_gens x generics n)))) block) s) e

-- ## Statements

pub assign_stat : (w : Within) (span : Span) (targets values : plain.Exprs) (s : Walker)
    → after_stat w span (plain.Assign targets values) s ≡ after_exprs w values (after_targets w [] targets s)
unfolding after_stat after_exprs after_targets
assign_stat w span targets values s = after_join _ _ s

pub compound_stat : (w : Within) (span : Span) (target : plain.Expr) (op : BinOp) (value : plain.Expr) (s : Walker)
    → after_stat w span (plain.Compound target op value) s ≡ after_expr w value (after_aims w [] target plain.no_exprs (after_expr w target s))
unfolding after_stat after_expr after_aims after_aim after_targets added
compound_stat w span target op value s = after_join _ _ s ∙ after_join _ _ (after_expr w target s)

pub call_stat : (w : Within) (span : Span) (call : plain.Expr) (s : Walker) → after_stat w span (plain.CallStat call) s ≡ after_expr w call s
unfolding after_stat after_expr
call_stat w span call s = refl

pub do_stat : (w : Within) (span : Span) (body : plain.Block) (s : Walker) → after_stat w span (plain.Do body) s ≡ after_block w body s
unfolding after_stat after_block
do_stat w span body s = refl

pub while_stat : (w : Within) (span : Span) (cond : plain.Expr) (body : plain.Block) (s : Walker)
    → after_stat w span (plain.While cond body) s ≡ after_block (record w { around = Other }) body (after_expr w cond s)
unfolding after_stat after_block after_expr
while_stat w span cond body s = after_join _ _ s

pub if_stat : (w : Within) (span : Span) (arms : plain.Arms) (last : plain.MaybeBlock) (s : Walker)
    → after_stat w span (plain.If arms last) s ≡ after_maybe_block w last (after_arms w arms s)
unfolding after_stat after_maybe_block after_arms
if_stat w span arms last s = after_join _ _ s

pub function_stat : (w : Within) (span : Span) (path : plain.Expr) (method : Option (List ℕ)) (body : plain.Body) (s : Walker)
    → after_stat w span (plain.FunctionStat path method body) s ≡ after_body w body (after_named w path method (after_expr w path s))
unfolding after_stat after_body after_named after_expr
function_stat w span path method body s = after_join _ _ s ∙ after_join _ _ (after_expr w path s)

pub local_function : (w : Within) (span : Span) (name : List ℕ) (at : Span) (typ : plain.MaybeType) (body : plain.Body) (s : Walker)
    → after_stat w span (plain.LocalFunction (plain.the_bind name at typ) body) s
    ≡ after_body w body (after_maybe_type w typ (after_own w (plain.the_bind name at typ) s))
unfolding after_stat after_body
local_function w span name at typ body s =
    let a = around_in s w in
    let bind = plain.the_bind name at typ in
    let scope = finds.with_bind a bind (length s.found.locals) in
    scope_and_join (finds.of_own_bind a bind) (finds.of_body (finds.in_scope a scope) body) (λ _. scope) s
    ∙ ap (after_body w body) (sym (own_found w name at typ s))

pub local_stat : (w : Within) (span : Span) (binds : plain.Binds) (values : plain.Exprs) (s : Walker)
    → after_stat w span (plain.Local binds values) s ≡ after_locals w binds binds values values [] s
unfolding after_stat
local_stat w span binds values s = sym (locals_found w binds values values s)

pub type_alias : (w : Within) (span : Span) (exported : Bool) (name : List ℕ) (generics : plain.Gens) (typ : plain.TypeSyntax) (s : Walker)
    → after_stat w span (plain.TypeAlias exported name generics typ) s ≡ after_type w typ (after_gens w generics s)
unfolding after_stat after_type after_gens
type_alias w span exported name generics typ s = after_join _ _ s

pub type_function : (w : Within) (span : Span) (exported : Bool) (name : List ℕ) (body : plain.Body) (s : Walker)
    → after_stat w span (plain.TypeFunction exported name body) s ≡ after_body w body (after_part (one (Refuses TypeFunction span)) s)
unfolding after_stat after_body
type_function w span exported name body s = after_join _ _ s

pub return_stat : (w : Within) (span : Span) (values : plain.Exprs) (s : Walker) → after_stat w span (plain.Return values) s ≡ after_exprs w values s
unfolding after_stat after_exprs
return_stat w span values s = refl

pub break_stat : (w : Within) (span : Span) (s : Walker) → after_stat w span plain.Break s ≡ after_part (finds.of_break (loop_of w.around) span) s
unfolding after_stat
break_stat w span s = refl

pub continue_stat : (w : Within) (span : Span) (s : Walker) → after_stat w span plain.Continue s ≡ after_part (finds.of_continue (loop_of w.around) span) s
unfolding after_stat
continue_stat w span s = refl

pub no_arms : (w : Within) (s : Walker) → after_arms w plain.no_arms s ≡ s
unfolding after_arms added
no_arms w s = refl

pub more_arms : (w : Within) (cond : plain.Expr) (block : plain.Block) (rest : plain.Arms) (s : Walker)
    → after_arms w (plain.more_arms cond block rest) s ≡ after_arms w rest (after_block w block (after_expr w cond s))
unfolding after_arms after_block after_expr
more_arms w cond block rest s = after_join _ _ s ∙ after_join _ _ (after_expr w cond s)

pub no_block : (w : Within) (s : Walker) → after_maybe_block w plain.no_block s ≡ s
unfolding after_maybe_block added
no_block w s = refl

pub a_block : (w : Within) (block : plain.Block) (s : Walker) → after_maybe_block w (plain.a_block block) s ≡ after_block w block s
unfolding after_maybe_block after_block
a_block w block s = refl

-- ## Loops with locals

pub num_for : (w : Within) (span : Span) (name : List ℕ) (at : Span) (typ : plain.MaybeType) (from to : plain.Expr) (step : plain.MaybeExpr) (body : plain.Block) (s : Walker)
    → after_stat w span (plain.NumFor (plain.the_bind name at typ) from to step body) s
    ≡ (let t = after_maybe_expr w step (after_expr w to (after_expr w from (after_maybe_type w typ (after_declared w None (plain.the_bind name at typ) s)))) in
    after_close (length s.scope) (after_stats (record w { around = Other }) body (after_entry w (finds.own_locals (around_in t w)) (plain.the_bind name at typ) (length s.found.locals) t)))
unfolding after_stat after_maybe_expr after_expr after_entry after_stats
num_for w span name at typ from to step body s =
    let a = around_in s w in
    let bind = plain.the_bind name at typ in
    let scope = finds.with_bind a bind (length s.found.locals) in
    let first = finds.of_bind a None bind in
    let entry = finds.of_entry (finds.own_locals a) at in
    let inside = finds.of_block (finds.in_loop (finds.in_scope a scope) (loop_of Other)) body in
    let f = with_part first s.found in
    let g = with_part (finds.of_expr a from) f in
    let h = with_part (finds.of_expr a to) g in
    let i = with_part (finds.of_maybe_expr a step) h in
    let j = with_part entry i in
    let joined : with_part (first then finds.of_expr a from then finds.of_expr a to then finds.of_maybe_expr a step then entry then inside) s.found ≡ with_part inside j =
    with_join first _ s.found ∙ with_join (finds.of_expr a from) _ f ∙ with_join (finds.of_expr a to) _ g ∙ with_join (finds.of_maybe_expr a step) _ h ∙ with_join entry inside i in
    ap (λ (x : Findings). record s { found = x }) joined
    ∙ sym (close_found s _ (with_part inside j)
    (grows_then _ _ _ (record { more = _; is = refl }) (block_grows (finds.in_loop (finds.in_scope a scope) (loop_of Other)) body (length j.locals))))
    ∙ ap (λ (u : Walker). (let t = after_maybe_expr w step (after_expr w to (after_expr w from u)) in
    after_close (length s.scope) (after_stats (record w { around = Other }) body (after_entry w (finds.own_locals (around_in t w)) bind (length s.found.locals) t))))
    (sym (bind_found w None name at typ s))

pub gen_for : (w : Within) (span : Span) (binds : plain.Binds) (values : plain.Exprs) (body : plain.Block) (s : Walker)
    → after_stat w span (plain.GenFor binds values body) s
    ≡ after_close (length s.scope) (after_stats (record w { around = Other }) body (after_locals w binds binds plain.no_exprs values [] s))
unfolding after_stat after_stats
gen_for w span binds values body s =
    let a = around_in s w in
    let scope = s.scope ++ finds.numbered a binds (length s.found.locals) in
    let first = finds.of_binds a binds plain.no_exprs in
    let later = finds.of_exprs a values in
    let entries = finds.of_entries (finds.own_locals a) binds in
    let inside = finds.of_block (finds.in_loop (finds.in_scope a scope) (loop_of Other)) body in
    let f = with_part first s.found in
    let g = with_part later f in
    let h = with_part entries g in
    let joined : with_part (first then later then entries then inside) s.found ≡ with_part inside (with_part (first then later then entries) s.found) =
    with_join first _ s.found ∙ with_join later _ f ∙ with_join entries inside g
    ∙ ap (with_part inside) (sym (with_join first _ s.found ∙ with_join later entries f)) in
    let k = with_part (first then later then entries) s.found in
    ap (λ (x : Findings). record s { found = x }) joined
    ∙ sym (close_found s _ (with_part inside k)
    (grows_then _ _ _ (record { more = _; is = refl }) (block_grows (finds.in_loop (finds.in_scope a scope) (loop_of Other)) body (length k.locals))))
    ∙ ap (λ (u : Walker). after_close (length s.scope) (after_stats (record w { around = Other }) body u)) (sym (locals_found w binds plain.no_exprs values s))
