-- What becomes of a `repeat`.
use Rattle.std.proofs.Common.{◌≡◌, ℕ, ◌+◌, List, ◌++◌, length, take, drop, sym, ap, ◌∙◌}
use Rattle.std.proofs.Math.Seq.{take-append_seam, drop-append_seam}
use Rattle.std.specs.List.{filter_map}
use Rattle.luau_tree.specs.declared.position.Span.{Span}
use Rattle.luau_tree.specs.declared.names.ExprId.{ExprId}
use Rattle.luau_tree.specs.Tree as plain
use Rattle.luau_scope.specs.declared.within.Within.{Within}
use Rattle.luau_scope.specs.declared.within.LoopAround.TheVariants.{Repeat}
use Rattle.luau_scope.specs.declared.walker.Walker.{Walker}
use Rattle.luau_scope.specs.declared.findings.Findings.{Findings}
use Rattle.luau_scope.specs.declared.reading.Use.{Use}
use Rattle.luau_scope.specs.Found.{Found, RepeatLoop, declarations}
use Rattle.luau_scope.specs.Finds as finds
use Rattle.luau_scope.specs.Finds.{without_continues, past_locals, of_repeat}
use Rattle.luau_scope.specs.Locals.{a_use}
use Rattle.luau_scope.specs.Steps.{added, after_close, after_expr, after_pass, after_stat, after_stats, after_until, around_in, passed_locals}
use Rattle.luau_scope.proofs.Walk.{added_append, locals_added}
use Rattle.luau_scope.proofs.Totals.{a_continue, passed, pending_added, uses_added, without_own_added}
use Rattle.luau_scope.proofs.AfterStats.{block_grows, close_found}

-- the findings behind a `repeat`, from those of its body and its `until`
repeat_found : (inside until : List Found) (declared : ℕ) (w : Findings)
    → (let g = added (without_continues inside) w in
    added (passed_locals (filter_map a_continue inside) (drop (length (added inside w).uses) (added until g).uses) declared) (added until g))
    ≡ added (of_repeat inside until declared) w
repeat_found inside until declared w =
    let g = added (without_continues inside) w in
    let without : g ≡ record (added inside w) { pending = w.pending } = without_own_added inside w.pending w in
    let same : length (added inside w).uses ≡ length g.uses = ap (λ (f : Findings). length f.uses) (sym without) in
    let behind : drop (length (added inside w).uses) (added until g).uses ≡ filter_map a_use until =
    ap (λ (n : ℕ). drop n (added until g).uses) same ∙ ap (drop (length g.uses)) (uses_added until g) ∙ drop-append_seam g.uses (filter_map a_use until) in
    ap (λ (uses : List (ExprId × Use)). added (passed_locals (filter_map a_continue inside) uses declared) (added until g)) behind
    ∙ ap (λ (found : List Found). added found (added until g)) (passed inside until declared)
    ∙ sym (added_append until (past_locals inside until declared) g)
    ∙ sym (added_append (without_continues inside) (until ++ past_locals inside until declared) w)

pub repeat_stat : (w : Within) (span : Span) (body : plain.Block) (cond : plain.Expr) (s : Walker)
    → after_until w cond (length s.scope) (length s.found.pending) (after_stats (record w { around = Repeat }) body s)
    ≡ after_stat w span (plain.Repeat body cond) s
unfolding after_until after_stats after_stat after_expr after_pass
repeat_stat w span body cond s =
    let a = around_in s w in
    let n = length s.found.locals in
    let p = s.found.pending in
    let inside = finds.of_block (finds.in_loop a RepeatLoop) body n in
    let f = added inside s.found in
    let g = added (without_continues inside) s.found in
    let scope = finds.behind_block (finds.in_loop a RepeatLoop) body n in
    let declared = n + declarations inside in
    let until : ℕ → List Found = finds.of_expr (finds.in_scope a scope) cond in
    let own : drop (length p) f.pending ≡ filter_map a_continue inside = ap (drop (length p)) (pending_added inside s.found) ∙ drop-append_seam p (filter_map a_continue inside) in
    let left : take (length p) f.pending ≡ p = ap (take (length p)) (pending_added inside s.found) ∙ take-append_seam p (filter_map a_continue inside) in
    let without : record f { pending = take (length p) f.pending } ≡ g = ap (λ (x : List (Span × ℕ)). record f { pending = x }) left ∙ sym (without_own_added inside p s.found) in
    let count : length f.locals ≡ declared = locals_added inside s.found in
    let recount : length g.locals ≡ declared = ap (λ (x : Findings). length x.locals) (without_own_added inside p s.found) ∙ count in
    let behind : List (Span × ℕ) → ℕ → Findings → Walker = λ (x : List (Span × ℕ)) (m : ℕ) (h : Findings).
    after_close (length s.scope) (record s { scope = scope; found = added (passed_locals x (drop (length f.uses) h.uses) m) h }) in
    ap (λ (x : List (Span × ℕ)). behind x (length f.locals) (added (until (length f.locals)) (record f { pending = take (length p) f.pending }))) own
    ∙ ap (λ (m : ℕ). behind (filter_map a_continue inside) m (added (until m) (record f { pending = take (length p) f.pending }))) count
    ∙ ap (λ (h : Findings). behind (filter_map a_continue inside) declared (added (until declared) h)) without
    ∙ close_found s scope _ (block_grows (finds.in_loop a RepeatLoop) body n)
    ∙ ap (λ (h : Findings). record s { found = h }) (repeat_found inside (until declared) declared s.found)
