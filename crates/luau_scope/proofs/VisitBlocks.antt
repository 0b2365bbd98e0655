-- What becomes of parts that hold blocks, by the parts that code reads in them.
use Rattle.std.proofs.Common.{◌≡◌, ℕ, Bool, true, false, List, [], length, refl, sym, ap, ◌∙◌}
use Rattle.std.specs.Prelude.{Option, Some, None}
use Rattle.std.specs.Option.{is_some}
use Rattle.luau_tree.specs.declared.position.Span.{Span}
use Rattle.luau_tree.specs.declared.names.FnId.{FnId}
use Rattle.luau_tree.specs.declared.tree as code
use Rattle.luau_tree.specs.declared.tree.ExprKind.TheViews as part
use Rattle.luau_tree.specs.Tree as plain
use Rattle.luau_tree.specs.View.{view_bind, view_binds, view_block, view_body, view_gens, view_maybe_type, view_stats, view_varargs}
use Rattle.luau_scope.specs.declared.within.Within.{Within}
use Rattle.luau_scope.specs.declared.within.LoopAround.TheVariants.{Without, Repeat, Other}
use Rattle.luau_scope.specs.declared.walker.Walker.{Walker}
use Rattle.luau_scope.specs.Finds as finds
use Rattle.luau_scope.specs.Steps.{after_block, after_body, after_close, after_declared, after_entry, after_expr, after_gens, after_locals, after_maybe_expr, after_maybe_type, after_params, after_stat, after_stats, after_until, after_varargs, around_in}
use Rattle.luau_scope.proofs.AfterStats.{block_closed, body_found, gen_for, num_for}
use Rattle.luau_scope.proofs.AfterRepeat.{repeat_stat}
use Rattle.luau_scope.proofs.Layers.{bind_layer, block_layer, body_layer}

pub block_visit : (w : Within) (x : code.Block.Block) (depth : ℕ) (s : Walker) → depth ≡ length s.scope → after_close depth (after_stats w (view_stats (part.out-Block x).stats) s) ≡ after_block w (view_block x) s
block_visit w x depth s e =
    ap (λ (n : ℕ). after_close n (after_stats w (view_stats (part.out-Block x).stats) s)) e ∙ block_closed w (view_stats (part.out-Block x).stats) s ∙ ap (λ (y : plain.Block). after_block w y s) (sym (block_layer x))

takes_seen : (vararg : Option (Option code.TypeSyntax.TypeSyntax)) → is_some vararg ≡ elim (view_varargs vararg) as (λ _. Bool) [ plain.no_varargs ↦ false | plain.varargs typ ↦ true ]
takes_seen None = refl
takes_seen (Some typ) = refl

-- around a body
abbrev pub inside : FnId → Bool → ℕ → Within
inside id takes depth = record { function = Some id; takes = takes; outside = depth; around = Without }

around_body : (w : Within) (id : FnId) (vararg : Option (Option code.TypeSyntax.TypeSyntax)) (takes : Bool) (depth : ℕ) (s : Walker) → takes ≡ is_some vararg → depth ≡ length s.scope
    → around_in s (inside id takes depth) ≡ finds.in_body (around_in s w) id.0 (view_varargs vararg)
around_body w id vararg takes depth s t e =
    ap (λ (b : Bool). around_in s (inside id b depth)) (t ∙ takes_seen vararg)
    ∙ ap (λ (n : ℕ). around_in s (inside id (elim (view_varargs vararg) as (λ _. Bool) [ plain.no_varargs ↦ false | plain.varargs typ ↦ true ]) n)) e

pub body_visit : (w : Within) (x : code.Body.Body) (takes : Bool) (depth : ℕ) (s : Walker) → takes ≡ is_some (part.out-Body x).vararg → depth ≡ length s.scope
    → (let inner = inside (part.out-Body x).id takes depth in
    after_close depth (after_stats inner (view_stats (part.out-Block (part.out-Body x).block).stats) (after_maybe_type inner (view_maybe_type (part.out-Body x).result) (after_varargs inner (view_varargs (part.out-Body x).vararg) (after_params inner (view_binds (part.out-Body x).params) (after_gens inner (view_gens (part.out-Body x).generics) s))))))
    ≡ after_body w (view_body x) s
body_visit w x takes depth s t e =
    let inner = inside (part.out-Body x).id takes depth in
    let header = after_maybe_type inner (view_maybe_type (part.out-Body x).result) (after_varargs inner (view_varargs (part.out-Body x).vararg) (after_params inner (view_binds (part.out-Body x).params) (after_gens inner (view_gens (part.out-Body x).generics) s))) in
    ap (λ (y : plain.Block). after_close depth (after_stats inner y header)) (sym (block_layer (part.out-Body x).block))
    ∙ ap (λ (n : ℕ). after_close n (after_stats inner (view_block (part.out-Body x).block) header)) e
    ∙ body_found w inner (part.out-Body x).id.0 (part.out-Body x).has_self (view_gens (part.out-Body x).generics) (view_binds (part.out-Body x).params) (view_varargs (part.out-Body x).vararg) (view_maybe_type (part.out-Body x).result) (view_block (part.out-Body x).block) (part.out-Body x).span s (around_body w (part.out-Body x).id (part.out-Body x).vararg takes depth s t e)
    ∙ ap (λ (b : plain.Body). after_body w b s) (sym (body_layer x))

pub repeat_visit : (w v : Within) (span : Span) (x : code.Block.Block) (cond : plain.Expr) (depth start : ℕ) (s : Walker) → v ≡ record w { around = Repeat } → depth ≡ length s.scope → start ≡ length s.found.pending
    → after_until w cond depth start (after_stats v (view_stats (part.out-Block x).stats) s) ≡ after_stat w span (plain.Repeat (view_block x) cond) s
repeat_visit w v span x cond depth start s g e f =
    ap (λ (u : Within). after_until w cond depth start (after_stats u (view_stats (part.out-Block x).stats) s)) g
    ∙ ap (λ (n : ℕ). after_until w cond n start (after_stats (record w { around = Repeat }) (view_stats (part.out-Block x).stats) s)) e
    ∙ ap (λ (n : ℕ). after_until w cond (length s.scope) n (after_stats (record w { around = Repeat }) (view_stats (part.out-Block x).stats) s)) f
    ∙ repeat_stat w span (view_stats (part.out-Block x).stats) cond s
    ∙ ap (λ (y : plain.Block). after_stat w span (plain.Repeat y cond) s) (sym (block_layer x))

pub gen_for_visit : (w v : Within) (span : Span) (binds : plain.Binds) (values : plain.Exprs) (numbers : List ℕ) (x : code.Block.Block) (depth : ℕ) (s : Walker) → v ≡ record w { around = Other } → numbers ≡ [] → depth ≡ length s.scope
    → after_close depth (after_stats v (view_stats (part.out-Block x).stats) (after_locals w binds binds plain.no_exprs values numbers s)) ≡ after_stat w span (plain.GenFor binds values (view_block x)) s
gen_for_visit w v span binds values numbers x depth s g i e =
    ap (λ (u : Within). after_close depth (after_stats u (view_stats (part.out-Block x).stats) (after_locals w binds binds plain.no_exprs values numbers s))) g
    ∙ ap (λ (ns : List ℕ). after_close depth (after_stats (record w { around = Other }) (view_stats (part.out-Block x).stats) (after_locals w binds binds plain.no_exprs values ns s))) i
    ∙ ap (λ (n : ℕ). after_close n (after_stats (record w { around = Other }) (view_stats (part.out-Block x).stats) (after_locals w binds binds plain.no_exprs values [] s))) e
    ∙ sym (gen_for w span binds values (view_stats (part.out-Block x).stats) s)
    ∙ ap (λ (y : plain.Block). after_stat w span (plain.GenFor binds values y) s) (sym (block_layer x))

pub num_for_visit : (w v : Within) (span : Span) (b : code.Bind.Bind) (from to : plain.Expr) (step : plain.MaybeExpr) (x : code.Block.Block) (depth number : ℕ) (s d : Walker) → v ≡ record w { around = Other } → d ≡ after_declared w None (view_bind b) s → depth ≡ length s.scope → number ≡ length s.found.locals
    → (let t = after_maybe_expr w step (after_expr w to (after_expr w from (after_maybe_type w (view_maybe_type (part.out-Bind b).typ) d))) in
    after_close depth (after_stats v (view_stats (part.out-Block x).stats) (after_entry w (finds.own_locals (around_in t w)) (view_bind b) number t)))
    ≡ after_stat w span (plain.NumFor (view_bind b) from to step (view_block x)) s
num_for_visit w v span b from to step x depth number s d g i e f =
    let behind : plain.Bind → Walker = λ (y : plain.Bind). after_maybe_expr w step (after_expr w to (after_expr w from (after_maybe_type w (view_maybe_type (part.out-Bind b).typ) (after_declared w None y s)))) in
    let all : plain.Bind → ℕ → ℕ → Walker = λ (y : plain.Bind) (m n : ℕ). after_close m (after_stats (record w { around = Other }) (view_stats (part.out-Block x).stats) (after_entry w (finds.own_locals (around_in (behind y) w)) y n (behind y))) in
    ap (λ (u : Within). let t = after_maybe_expr w step (after_expr w to (after_expr w from (after_maybe_type w (view_maybe_type (part.out-Bind b).typ) d))) in after_close depth (after_stats u (view_stats (part.out-Block x).stats) (after_entry w (finds.own_locals (around_in t w)) (view_bind b) number t))) g
    ∙ ap (λ (r : Walker). let t = after_maybe_expr w step (after_expr w to (after_expr w from (after_maybe_type w (view_maybe_type (part.out-Bind b).typ) r))) in after_close depth (after_stats (record w { around = Other }) (view_stats (part.out-Block x).stats) (after_entry w (finds.own_locals (around_in t w)) (view_bind b) number t))) i
    ∙ ap (λ (n : ℕ). all (view_bind b) n number) e
    ∙ ap (λ (n : ℕ). all (view_bind b) (length s.scope) n) f
    ∙ ap (λ (y : plain.Bind). all y (length s.scope) (length s.found.locals)) (bind_layer b)
    ∙ sym (num_for w span (part.out-Bind b).name (part.out-Bind b).span (view_maybe_type (part.out-Bind b).typ) from to step (view_stats (part.out-Block x).stats) s)
    ∙ ap (λ (y : plain.Bind). after_stat w span (plain.NumFor y from to step (view_stats (part.out-Block x).stats)) s) (sym (bind_layer b))
    ∙ ap (λ (y : plain.Block). after_stat w span (plain.NumFor (view_bind b) from to step y) s) (sym (block_layer x))
