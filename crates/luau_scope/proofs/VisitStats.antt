-- What becomes of a statement, by the variant that code finds.
use Rattle.std.proofs.Common.{◌≡◌, ℕ, Bool, List, [], sym, ap, ◌∙◌}
use Rattle.std.specs.Prelude.{Option}
use Rattle.luau_tree.specs.declared.names.BinOp.{BinOp}
use Rattle.luau_tree.specs.declared.position.Span.{Span}
use Rattle.luau_tree.specs.declared.tree as code
use Rattle.luau_tree.specs.declared.tree.ExprKind.TheViews as part
use Rattle.luau_tree.specs.declared.tree.StatKind.TheVariants as a_stat
use Rattle.luau_tree.specs.Tree as plain
use Rattle.luau_tree.specs.View.{view_arms, view_bind, view_binds, view_block, view_body, view_expr, view_exprs, view_gens, view_maybe_block, view_maybe_expr, view_maybe_type, view_stat_kind, view_type}
use Rattle.luau_tree.proofs.Views.{assign_stat_seen, break_stat_seen, call_stat_seen, compound_stat_seen, continue_stat_seen, do_stat_seen, function_stat_seen, gen_for_stat_seen, if_stat_seen, local_function_stat_seen, local_stat_seen, num_for_stat_seen, repeat_stat_seen, return_stat_seen, type_alias_stat_seen, type_function_stat_seen, while_stat_seen}
use Rattle.luau_scope.specs.declared.within.Within.{Within}
use Rattle.luau_scope.specs.declared.within.LoopAround.TheVariants.{Other}
use Rattle.luau_scope.specs.declared.walker.Walker.{Walker}
use Rattle.luau_scope.specs.declared.refusal.Refusal.TheVariants.{TypeFunction}
use Rattle.luau_scope.specs.Found.{one, Refuses}
use Rattle.luau_scope.specs.Finds as finds
use Rattle.luau_scope.specs.Steps.{after_aims, after_arms, after_block, after_body, after_expr, after_exprs, after_gens, after_maybe_block, after_maybe_type, after_named, after_own, after_part, after_stat, after_targets, after_type, loop_of}
use Rattle.luau_scope.proofs.AfterStats.{assign_stat, break_stat, call_stat, compound_stat, continue_stat, do_stat, function_stat, if_stat, local_function, return_stat, type_alias, type_function, while_stat}
use Rattle.luau_scope.proofs.Layers.{bind_layer}

-- a statement, by its plain form
form : (w : Within) (span : Span) (kind : code.StatKind.StatKind) (seen : plain.StatKind) (s : Walker) → view_stat_kind kind ≡ seen → after_stat w span (view_stat_kind kind) s ≡ after_stat w span seen s
form w span kind seen s e = ap (λ (k : plain.StatKind). after_stat w span k s) e

pub assign_stat_visit : (w : Within) (span : Span) (kind : code.StatKind.StatKind) (targets : List code.Expr.Expr) (values : List code.Expr.Expr) (s : Walker) → kind ≡ a_stat.Assign targets values
    → after_stat w span (view_stat_kind kind) s ≡ after_exprs w (view_exprs values) (after_targets w [] (view_exprs targets) s)
assign_stat_visit w span kind targets values s e = form w span kind _ s (ap view_stat_kind e ∙ assign_stat_seen targets values) ∙ assign_stat w span (view_exprs targets) (view_exprs values) s

pub compound_stat_visit : (w : Within) (span : Span) (kind : code.StatKind.StatKind) (target : code.Expr.Expr) (op : BinOp) (value : code.Expr.Expr) (s : Walker) → kind ≡ a_stat.Compound target op value
    → after_stat w span (view_stat_kind kind) s ≡ after_expr w (view_expr value) (after_aims w [] (view_expr target) plain.no_exprs (after_expr w (view_expr target) s))
compound_stat_visit w span kind target op value s e = form w span kind _ s (ap view_stat_kind e ∙ compound_stat_seen target op value) ∙ compound_stat w span (view_expr target) op (view_expr value) s

pub call_stat_visit : (w : Within) (span : Span) (kind : code.StatKind.StatKind) (call : code.Expr.Expr) (s : Walker) → kind ≡ a_stat.CallStat call
    → after_stat w span (view_stat_kind kind) s ≡ after_expr w (view_expr call) s
call_stat_visit w span kind call s e = form w span kind _ s (ap view_stat_kind e ∙ call_stat_seen call) ∙ call_stat w span (view_expr call) s

pub do_stat_visit : (w : Within) (span : Span) (kind : code.StatKind.StatKind) (body : code.Block.Block) (s : Walker) → kind ≡ a_stat.Do body
    → after_stat w span (view_stat_kind kind) s ≡ after_block w (view_block body) s
do_stat_visit w span kind body s e = form w span kind _ s (ap view_stat_kind e ∙ do_stat_seen body) ∙ do_stat w span (view_block body) s

pub while_stat_visit : (w : Within) (span : Span) (kind : code.StatKind.StatKind) (cond : code.Expr.Expr) (body : code.Block.Block) (s : Walker) → kind ≡ a_stat.While cond body
    → after_stat w span (view_stat_kind kind) s ≡ after_block (record w { around = Other }) (view_block body) (after_expr w (view_expr cond) s)
while_stat_visit w span kind cond body s e = form w span kind _ s (ap view_stat_kind e ∙ while_stat_seen cond body) ∙ while_stat w span (view_expr cond) (view_block body) s

pub repeat_stat_visit : (w : Within) (span : Span) (kind : code.StatKind.StatKind) (body : code.Block.Block) (cond : code.Expr.Expr) (s : Walker) → kind ≡ a_stat.Repeat body cond
    → after_stat w span (view_stat_kind kind) s ≡ after_stat w span (plain.Repeat (view_block body) (view_expr cond)) s
repeat_stat_visit w span kind body cond s e = form w span kind _ s (ap view_stat_kind e ∙ repeat_stat_seen body cond)

pub if_stat_visit : (w : Within) (span : Span) (kind : code.StatKind.StatKind) (arms : List code.Arm.Arm) (last : Option code.Block.Block) (s : Walker) → kind ≡ a_stat.If arms last
    → after_stat w span (view_stat_kind kind) s ≡ after_maybe_block w (view_maybe_block last) (after_arms w (view_arms arms) s)
if_stat_visit w span kind arms last s e = form w span kind _ s (ap view_stat_kind e ∙ if_stat_seen arms last) ∙ if_stat w span (view_arms arms) (view_maybe_block last) s

pub num_for_stat_visit : (w : Within) (span : Span) (kind : code.StatKind.StatKind) (bind : code.Bind.Bind) (from : code.Expr.Expr) (to : code.Expr.Expr) (step : Option code.Expr.Expr) (body : code.Block.Block) (s : Walker) → kind ≡ a_stat.NumFor bind from to step body
    → after_stat w span (view_stat_kind kind) s ≡ after_stat w span (plain.NumFor (view_bind bind) (view_expr from) (view_expr to) (view_maybe_expr step) (view_block body)) s
num_for_stat_visit w span kind bind from to step body s e = form w span kind _ s (ap view_stat_kind e ∙ num_for_stat_seen bind from to step body)

pub gen_for_stat_visit : (w : Within) (span : Span) (kind : code.StatKind.StatKind) (binds : List code.Bind.Bind) (values : List code.Expr.Expr) (body : code.Block.Block) (s : Walker) → kind ≡ a_stat.GenFor binds values body
    → after_stat w span (view_stat_kind kind) s ≡ after_stat w span (plain.GenFor (view_binds binds) (view_exprs values) (view_block body)) s
gen_for_stat_visit w span kind binds values body s e = form w span kind _ s (ap view_stat_kind e ∙ gen_for_stat_seen binds values body)

pub function_stat_visit : (w : Within) (span : Span) (kind : code.StatKind.StatKind) (path : code.Expr.Expr) (method : Option (List ℕ)) (body : code.Body.Body) (s : Walker) → kind ≡ a_stat.Function path method body
    → after_stat w span (view_stat_kind kind) s ≡ after_body w (view_body body) (after_named w (view_expr path) method (after_expr w (view_expr path) s))
function_stat_visit w span kind path method body s e = form w span kind _ s (ap view_stat_kind e ∙ function_stat_seen path method body) ∙ function_stat w span (view_expr path) method (view_body body) s

pub local_stat_visit : (w : Within) (span : Span) (kind : code.StatKind.StatKind) (binds : List code.Bind.Bind) (values : List code.Expr.Expr) (s : Walker) → kind ≡ a_stat.Local binds values
    → after_stat w span (view_stat_kind kind) s ≡ after_stat w span (plain.Local (view_binds binds) (view_exprs values)) s
local_stat_visit w span kind binds values s e = form w span kind _ s (ap view_stat_kind e ∙ local_stat_seen binds values)

pub type_alias_stat_visit : (w : Within) (span : Span) (kind : code.StatKind.StatKind) (exported : Bool) (name : List ℕ) (generics : List code.Gen.Gen) (typ : code.TypeSyntax.TypeSyntax) (s : Walker) → kind ≡ a_stat.TypeAlias exported name generics typ
    → after_stat w span (view_stat_kind kind) s ≡ after_type w (view_type typ) (after_gens w (view_gens generics) s)
type_alias_stat_visit w span kind exported name generics typ s e = form w span kind _ s (ap view_stat_kind e ∙ type_alias_stat_seen exported name generics typ) ∙ type_alias w span exported name (view_gens generics) (view_type typ) s

pub type_function_stat_visit : (w : Within) (span : Span) (kind : code.StatKind.StatKind) (exported : Bool) (name : List ℕ) (body : code.Body.Body) (s : Walker) → kind ≡ a_stat.TypeFunction exported name body
    → after_stat w span (view_stat_kind kind) s ≡ after_body w (view_body body) (after_part (one (Refuses TypeFunction span)) s)
type_function_stat_visit w span kind exported name body s e = form w span kind _ s (ap view_stat_kind e ∙ type_function_stat_seen exported name body) ∙ type_function w span exported name (view_body body) s

pub return_stat_visit : (w : Within) (span : Span) (kind : code.StatKind.StatKind) (values : List code.Expr.Expr) (s : Walker) → kind ≡ a_stat.Return values
    → after_stat w span (view_stat_kind kind) s ≡ after_exprs w (view_exprs values) s
return_stat_visit w span kind values s e = form w span kind _ s (ap view_stat_kind e ∙ return_stat_seen values) ∙ return_stat w span (view_exprs values) s

pub break_stat_visit : (w : Within) (span : Span) (kind : code.StatKind.StatKind) (s : Walker) → kind ≡ a_stat.Break
    → after_stat w span (view_stat_kind kind) s ≡ after_part (finds.of_break (loop_of w.around) span) s
break_stat_visit w span kind s e = form w span kind _ s (ap view_stat_kind e ∙ break_stat_seen) ∙ break_stat w span s

pub continue_stat_visit : (w : Within) (span : Span) (kind : code.StatKind.StatKind) (s : Walker) → kind ≡ a_stat.Continue
    → after_stat w span (view_stat_kind kind) s ≡ after_part (finds.of_continue (loop_of w.around) span) s
continue_stat_visit w span kind s e = form w span kind _ s (ap view_stat_kind e ∙ continue_stat_seen) ∙ continue_stat w span s

pub local_function_visit : (w : Within) (span : Span) (kind : code.StatKind.StatKind) (name : code.Bind.Bind) (body : code.Body.Body) (s : Walker) → kind ≡ a_stat.LocalFunction name body
    → after_stat w span (view_stat_kind kind) s ≡ after_body w (view_body body) (after_maybe_type w (view_maybe_type (part.out-Bind name).typ) (after_own w (view_bind name) s))
local_function_visit w span kind name body s e =
    form w span kind _ s (ap view_stat_kind e ∙ local_function_stat_seen name body)
    ∙ ap (λ (b : plain.Bind). after_stat w span (plain.LocalFunction b (view_body body)) s) (bind_layer name)
    ∙ local_function w span (part.out-Bind name).name (part.out-Bind name).span (view_maybe_type (part.out-Bind name).typ) (view_body body) s
    ∙ ap (λ (b : plain.Bind). after_body w (view_body body) (after_maybe_type w (view_maybe_type (part.out-Bind name).typ) (after_own w b s))) (sym (bind_layer name))
